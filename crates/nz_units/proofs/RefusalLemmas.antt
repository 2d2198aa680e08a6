-- Each refusal of a call is one of the units and the classes; and what the calls want of the rest.
use Rattle.std.proofs.Common.{◌≡◌, ℕ, List, [], ◌∷◌, length, map, ℤ, pos, ◌<ℤ◌, Contains, sym, ap, ap₂, ◌∙◌, subst}
use Rattle.std.specs.List.{AllByRecursion as Each}
use Rattle.nz_spec.specs.Vectors.{Vector, values_at, HasWidth}
use Rattle.nz_spec.specs.Covers.{vectors_at}
use Rattle.nz_spec.specs.Order.{IsLexBefore, IsListOf}
use Rattle.nz_spec.specs.Monoids.{IsIrreducible}
use Rattle.nz_linear.specs.Cones.{IsInRows}
use Rattle.nz_linear.specs.Coordinates.{in_coordinates}
use Rattle.nz_linear.specs.Extreme.{IsPointed}
use Rattle.nz_pointed.specs.Pointed.{IsSimplexOf}
use Rattle.nz_range.specs.Measures.{pair_measure}
use Rattle.nz_range.proofs.Causes.{value_cause}
use Rattle.nz_scalar.specs.Room.{HasRoom}
use Rattle.nz_sweep.specs.Numbers.{SomeNumberLarge, measure_of}
use Rattle.nz_sweep.proofs.NumberLemmas.{some_map}
use Rattle.nz_measures.proofs.Measuring.{pair_measure-swap}
use Rattle.nz_vec.specs.Sums.{HasValueOutside}
use Rattle.nz_vec.specs.declared.answers.Num.{Num}
use Rattle.nz_vec.specs.declared.answers.Num.TheVariants as num
use Rattle.nz_vec.specs.declared.answers.Work.{Work}
use Rattle.nz_vec.specs.declared.answers.Work.TheVariants.{Range, TooMany, Stopped, NoMemory}
use Rattle.nz_dual.specs.DualStages.{IsElement}
use Rattle.nz_dual.specs.Refusals.{IsStageOf}
use Rattle.nz_dual.specs.Sides.{IsWorkOf}
use Rattle.nz_further.specs.Units.{IsUnitSplit}
use Rattle.nz_units.specs.Splits.{AreForLattice, IsSplitBy, IsSplitNumber}
use Rattle.nz_units.specs.UnitLists.{width_of}
use Rattle.nz_units.specs.UnitNumbers.{IsRestNumber, IsReturnNumber, of_entry, of_sum, IsUnitNumber, of_split, at_rest, in_rest, returning}
use Rattle.nz_units.specs.Refusals.{IsUnitRefusal, HasStageCrowd, IsRestRefusal}
use Rattle.nz_units.proofs.CoordinateLemmas.{all_values_in, all_wide, values_wide}
use Rattle.nz_units.proofs.CrowdLemmas.{stage_crowd}
use Rattle.nz_units.proofs.ListLemmas.{width_is, found_in_rows, values_pointed}
use Rattle.nz_units.proofs.SplitLemmas.{split_ends}

number_refused : (h : ℤ) (limit : ℕ) (lattice rows : List Vector) (e : Num) (r : Work) → (e ≡ num.Range → SomeNumberLarge h (IsUnitNumber lattice rows)) → IsWorkOf e r → IsUnitRefusal h limit lattice rows r
number_refused h limit lattice rows e (Range told) f k = (k.1, f k.0)
number_refused h limit lattice rows e TooMany f k = absurd k
number_refused h limit lattice rows e (Stopped stage) f k = absurd k
number_refused h limit lattice rows e NoMemory f k = tt

pub split_refused : (h : ℤ) (limit : ℕ) (lattice rows : List Vector) (e : Num) (r : Work) → (e ≡ num.Range → SomeNumberLarge h (IsSplitNumber lattice rows)) → IsWorkOf e r → IsUnitRefusal h limit lattice rows r
split_refused h limit lattice rows e r f k = number_refused h limit lattice rows e r (λ x. some_map h (λ n m. of_split m) (f x)) k

module _ (lattice rows units rest : List Vector) (given : AreForLattice lattice rows) (steps : IsSplitBy lattice rows units rest) where
  split : IsUnitSplit given.width lattice rows units rest
  split = split_ends given.width lattice rows units rest given.vectors given.independent steps

  -- ---- what the calls want
  pub rest_wide : Each (λ x. Each (HasWidth (length x)) rest) rows
  rest_wide = all_wide given.width rest rows split.rest_widths given.row_widths

  pub there_wide : (n : ℕ) (there : List Vector) → n ≡ length rest → there ≡ map (λ x. values_at rest x) rows → Each (HasWidth n) there
  there_wide n there e f = subst (λ (m : ℕ). Each (HasWidth m) there) (sym e) (subst (Each (HasWidth (length rest))) (sym f) (values_wide rest rows))

  pub there_pointed : (n : ℕ) (there : List Vector) → n ≡ length rest → there ≡ map (λ x. values_at rest x) rows → IsPointed n there
  there_pointed n there e f = subst (λ (m : ℕ). IsPointed m there) (sym e) (subst (IsPointed (length rest)) (sym f) (values_pointed given.width lattice rows units rest given.vectors given.independent steps))

  pub back_wide : (v : ℕ) → v ≡ width_of rest → Each (HasWidth v) rest
  back_wide v e = subst (λ (m : ℕ). Each (HasWidth m) rest) (sym e) (width_is given.width rest split.rest_widths)

  -- ---- refusals
  module _ (h : ℤ) (limit : ℕ) where
    pub value_refused : (fits : ℤ → Type 0) → HasRoom h fits → (e : Num) (r : Work) → (e ≡ num.Range → HasValueOutside fits rest rows) → IsWorkOf e r → IsUnitRefusal h limit lattice rows r
    value_refused fits room e r f k = number_refused h limit lattice rows e r (λ x.
        let o = f x in
        record {
          number = pos (pair_measure o.vector o.form);
          is_number = at_rest steps o.of_vectors (measure_of {v = o.form} o.of_forms);
          large = subst (λ (m : ℕ). h <ℤ pos m) (pair_measure-swap o.form o.vector) (value_cause h fits room o.form o.vector o.outside);
        }) k

    pub rest_refused : (n : ℕ) (there : List Vector) → n ≡ length rest → there ≡ map (λ x. values_at rest x) rows → (r : Work) → IsRestRefusal h limit n there r → IsUnitRefusal h limit lattice rows r
    rest_refused n there e f r k = at_rows r (subst (λ (rs : List Vector). IsRestRefusal h limit (length rest) rs r) (f ∙ all_values_in rest rows) (subst (λ (m : ℕ). IsRestRefusal h limit m there r) e k))
      where
        at_rows : (r : Work) → IsRestRefusal h limit (length rest) (map (λ x. in_coordinates rest x) rows) r → IsUnitRefusal h limit lattice rows r
        at_rows (Range told) k = (k.0, some_map h (λ n m. in_rest steps m) k.1)
        at_rows TooMany k = λ w wide free. stage_crowd w lattice rows units rest wide (split_ends w lattice rows units rest wide free steps) h limit k.passed k.places k.rays k.simplex k.refused
        at_rows (Stopped stage) k = absurd k
        at_rows NoMemory k = tt

    pub back_refused : (n : ℕ) (there found : List Vector) → n ≡ length rest → there ≡ map (λ x. values_at rest x) rows → IsListOf IsLexBefore (IsElement n there) found → (e : Num) (r : Work) → (e ≡ num.Range → SomeNumberLarge h (IsReturnNumber rest (Contains found))) → IsWorkOf e r → IsUnitRefusal h limit lattice rows r
    back_refused n there found a b are e r f k =
        let list : IsListOf IsLexBefore (IsElement (length rest) (map (λ x. in_coordinates rest x) rows)) found = subst (λ (rs : List Vector). IsListOf IsLexBefore (IsElement (length rest) rs) found) (b ∙ all_values_in rest rows) (subst (λ (m : ℕ). IsListOf IsLexBefore (IsElement m there) found) a are) in
        number_refused h limit lattice rows e r (λ x. some_map h (λ m i. returning steps (named list m i)) (f x)) k
      where
        named : IsListOf IsLexBefore (IsElement (length rest) (map (λ x. in_coordinates rest x) rows)) found → (m : ℤ) → IsReturnNumber rest (Contains found) m → IsReturnNumber rest (IsIrreducible (IsInRows (length rest) (map (λ x. in_coordinates rest x) rows))) m
        named list m (of_entry i) = of_entry i
        named list m (of_sum {c = c} j i) = of_sum j (found_in_rows (length rest) (map (λ x. in_coordinates rest x) rows) found list c i)
