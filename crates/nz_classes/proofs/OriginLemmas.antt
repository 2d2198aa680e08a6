-- Where each form is at most 1 at its side, 0 is the only point.
use Rattle.std.proofs.Common.{◌≡◌, ◌⊎◌, ℕ, ◌≤◌, inl, inr, List, [], ◌∷◌, length, map, ℤ, pos, ◌≤ℤ◌, Contains, sym, ap, ◌∙◌, subst, arith}
use Rattle.std.proofs.lemmas.Int.{ints}
use Rattle.std.specs.List.{AllByRecursion as Each}
use Rattle.nz_spec.specs.Vectors.{Vector}
use Rattle.nz_spec.proofs.ListLaws.{contains_here}
use Rattle.nz_order.proofs.SortLaws.{MoreThan-list}
use Rattle.nz_linear.specs.DualPairs.{Pair, divisor, AllVanish}
use Rattle.nz_linear.specs.Echelon.{unit_at}
use Rattle.nz_linear.proofs.Units.{length-unit_at}
use Rattle.nz_vec.specs.declared.answers.Work.{Work}
use Rattle.nz_vec.specs.declared.answers.Work.TheVariants.{TooMany, NoMemory}
use Rattle.nz_classes.specs.Classes.{IsPoint, HasReducedValues}
use Rattle.nz_classes.specs.Walks.{paired, IsFullSimplex, ListsPoints, IsRefusal}
use Rattle.nz_classes.proofs.WalkLemmas.{point_of, reduced_of, unit_past, zero_reduced}

all_vanish : (ps : List Pair) (x : Vector) → Each (λ d. d ≤ℤ pos 1) (map divisor ps) → HasReducedValues ps x → AllVanish ps x
all_vanish [] x h r = tt
all_vanish (p ∷ ps) x h r = (let a = h.0 in let b = r.0.0 in let c = r.0.1 in omega (arith, ints, a, b, c), all_vanish ps x h.1 r.1)

module _ (sides forms : List Vector) (s : IsFullSimplex sides forms) where
  origin_point : IsPoint (length sides) sides (unit_at (length sides) (length sides))
  origin_point = (let w = length sides in point_of sides forms s (unit_at w w) (length-unit_at w w) (zero_reduced w (paired forms sides) s.dual.dual))

  pub origin_listed : (divisors : List ℤ) (limit : ℕ) (rows : List Vector) (w : ℕ) → divisors ≡ map divisor (paired forms sides) → Each (λ d. d ≤ℤ pos 1) divisors → w ≡ length sides → (rows ≡ unit_at w w ∷ []) × (1 ≤ limit) → ListsPoints limit sides rows
  origin_listed divisors limit rows w e ones ew h =
      let n = length sides in
      let zero = unit_at n n in
      let same : rows ≡ zero ∷ [] = h.0 ∙ ap (λ (k : ℕ). unit_at k k ∷ []) ew in
      let small = subst (Each (λ d. d ≤ℤ pos 1)) e ones in
      subst (ListsPoints limit sides) (sym same) (
        record {
          in_order = (tt, tt);
          only = (origin_point, tt);
          each = λ x p. subst (Contains (zero ∷ [])) (unit_past n ∙ sym (s.only_zero x p.0 (all_vanish (paired forms sides) x small (reduced_of sides forms s x p)))) (contains_here zero []);
        },
        h.1,
      )

  pub origin_refused : (bound limit : ℕ) (e : Work) → (e ≡ NoMemory) ⊎ ((e ≡ TooMany) × (limit ≡ 0)) → IsRefusal bound limit sides forms e
  origin_refused bound limit e (inl h) = subst (IsRefusal bound limit sides forms) (sym h) tt
  origin_refused bound limit e (inr h) =
      let l = h.1 in
      subst (IsRefusal bound limit sides forms) (sym h.0) (MoreThan-list (IsPoint (length sides) sides) (unit_at (length sides) (length sides) ∷ []) limit (tt, tt) (origin_point, tt) (omega (arith, l)))
