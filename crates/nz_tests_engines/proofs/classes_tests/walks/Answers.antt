use Rattle.std.proofs.Common.{◌≡◌, [], ◌∷◌, List, length, pos, negsuc, refl, sym, subst, arith}
use Rattle.std.proofs.lemmas.Int.{ints}
use Rattle.nz_spec.specs.Vectors.{Vector, dot, zero_vector}
use Rattle.nz_linear.specs.DualPairs.{AllVanish, OnlyZero}
use Rattle.nz_linear.proofs.VectorLaws.{cons_same}
use Rattle.nz_classes.specs.Walks.{paired, IsFullSimplex}
use Rattle.nz_tests_engines.proofs.classes_tests.walks.Goals as goal

only_zero : OnlyZero 2 (paired ((negsuc 0 ∷ pos 2 ∷ []) ∷ (pos 3 ∷ negsuc 0 ∷ []) ∷ []) ((pos 1 ∷ pos 3 ∷ []) ∷ (pos 2 ∷ pos 1 ∷ []) ∷ []))
only_zero [] l h = absurd (omega (arith, l))
only_zero (a ∷ []) l h = absurd (omega (arith, l))
only_zero (a ∷ b ∷ []) l h = (let p = h.0 in let q = h.1.0 in cons_same (omega (arith, ints, p, q)) (cons_same (omega (arith, ints, p, q)) refl))
only_zero (a ∷ b ∷ d ∷ x) l h = absurd (omega (arith, l))

full : IsFullSimplex ((pos 1 ∷ pos 3 ∷ []) ∷ (pos 2 ∷ pos 1 ∷ []) ∷ []) ((negsuc 0 ∷ pos 2 ∷ []) ∷ (pos 3 ∷ negsuc 0 ∷ []) ∷ [])
full = record {
  one_each = refl;
  dual = record {
    widths = (record { form_width = refl; vector_width = refl }, (record { form_width = refl; vector_width = refl }, tt));
    dual = (omega (arith, ints), (record { there = refl; back = refl }, tt), (omega (arith, ints), tt, tt));
  };
  only_zero = only_zero;
}

full_along : (vs fs : List Vector) → vs ≡ (pos 1 ∷ pos 3 ∷ []) ∷ (pos 2 ∷ pos 1 ∷ []) ∷ [] → fs ≡ (negsuc 0 ∷ pos 2 ∷ []) ∷ (pos 3 ∷ negsuc 0 ∷ []) ∷ [] → IsFullSimplex vs fs
full_along vs fs e f = subst (λ (us : List Vector). IsFullSimplex us fs) (sym e) (subst (IsFullSimplex ((pos 1 ∷ pos 3 ∷ []) ∷ (pos 2 ∷ pos 1 ∷ []) ∷ [])) (sym f) full)

pub walk-requires : goal.walk-requires
walk-requires g c = full_along _ _ c.in_ok-sides.ensures c.in_ok-forms.ensures

pub walk-requires-2 : goal.walk-requires-2
walk-requires-2 g c = full_along _ _ c.in_ok-sides.ensures c.in_ok-forms.ensures
