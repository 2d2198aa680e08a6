use Rattle.std.proofs.Common.{◌≡◌, [], ◌∷◌, List, length, pos, negsuc, refl, sym, subst, arith}
use Rattle.std.proofs.lemmas.Int.{ints}
use Rattle.std.specs.List.{AllByRecursion as Each}
use Rattle.nz_spec.specs.Vectors.{Vector, dot, HasWidth, IsZero}
use Rattle.nz_tests_engines.proofs.reducer_tests.reduces.Goals as goal

only_zero : (x : Vector) → length x ≡ 2 → Each (λ r. dot r x ≡ pos 0) ((negsuc 0 ∷ pos 2 ∷ []) ∷ (pos 3 ∷ negsuc 0 ∷ []) ∷ []) → IsZero x
only_zero [] l h = tt
only_zero (a ∷ []) l h = absurd (omega (arith, l))
only_zero (a ∷ b ∷ []) l h = (omega (arith, ints, h.0, h.1.0), (omega (arith, ints, h.0, h.1.0), tt))
only_zero (a ∷ b ∷ d ∷ x) l h = absurd (omega (arith, l))

pub irreducibles-requires : goal.irreducibles-requires
irreducibles-requires g c = record {
  width = 2;
  rows_wide = subst (Each (HasWidth 2)) (sym c.in_ok-rows.ensures) (refl, (refl, tt));
  candidates_wide = c.in_ok-candidates.ensures;
  only_zero = λ x w h. only_zero x w (subst (λ (rs : List Vector). Each (λ r. dot r x ≡ pos 0) rs) c.in_ok-rows.ensures h);
}
