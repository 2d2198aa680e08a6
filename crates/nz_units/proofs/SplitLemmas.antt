-- The steps of splitting keep the state of units and rest, and end with both.
use Rattle.std.proofs.Common.{◌≡◌, ◌≢◌, ◌↔◌, inl, inr, List, [], ◌∷◌, ◌++◌, length, take, get_or, ◌<◌, ℕ, zero, suc, ℤ, pos, sym, ap, ◌∙◌, subst, arith}
use Rattle.std.proofs.lemmas.Int.{ints}
use Rattle.std.specs.List.{AllByRecursion as Each}
use Rattle.nz_spec.specs.Vectors.{Vector, dot, HasWidth}
use Rattle.nz_spec.specs.Sums.{IsInGroup, IsIndependent}
use Rattle.nz_linear.proofs.Ring.{sums}
use Rattle.nz_order.proofs.RowLaws.{dot-opposite}
use Rattle.nz_further.specs.Units.{IsUnitSplit}
use Rattle.nz_further.proofs.UnitSteps.{IsUnitState, IsTurnedTo, unit_start, unit_pass, unit_cleared, unit_taken, unit_end}
use Rattle.nz_sweep.specs.Clearing.{vectors_of}
use Rattle.nz_sweep.specs.Cuts.{IsValueAt}
use Rattle.nz_sweep.specs.Takings.{IsTakenAt}
use Rattle.nz_sweep.proofs.ClearingLemmas.{cleared_clears}
use Rattle.nz_sweep.proofs.StepLemmas.{valued_vectors, values_are, zero_values, none_of}
use Rattle.nz_units.specs.Splits.{IsTurnedBy, IsSplitBy, start, pass, apart}

-- what is taken out and the others are a base of the same group, the form is 0 at the others, and is the value at what is taken out
record IsTakenWell (w : ℕ) (h : Vector) (vs : List Vector) (p : Vector) (a : ℤ) (us : List Vector) : Type 0 where
  widths : Each (HasWidth w) (p ∷ us)
  independent : IsIndependent w vs → IsIndependent w (p ∷ us)
  same : (x : Vector) → IsInGroup w vs x ↔ IsInGroup w (p ∷ us) x
  zero : Each (λ u. dot h u ≡ pos 0) us
  value : dot h p ≡ a
  nonzero : a ≢ pos 0

taken_well : (w : ℕ) (h : Vector) (vs : List Vector) (p : Vector) (a : ℤ) (us : List Vector) → Each (HasWidth w) vs → IsTakenAt h vs p a us → IsTakenWell w h vs p a us
taken_well w h vs p a us l t =
    let e = valued_vectors (IsValueAt h) vs t.values t.valued in
    let k = cleared_clears w t.values t.place t.own t.others t.cleared (subst (Each (HasWidth w)) (sym e) l) in
    let stay = k.1 h (pos 0) (values_are h (pos 0) vs t.values t.valued) in
    let here = zero_values h t.others stay.1 t.cleared.zero in
    let both : t.own.vector ∷ vectors_of t.others ≡ p ∷ us = ap (λ v. v ∷ vectors_of t.others) (sym t.own_vector) ∙ ap (λ ts. p ∷ ts) (sym t.left) in
    record {
      widths = subst (Each (HasWidth w)) both k.0.widths;
      independent = λ i. subst (IsIndependent w) both (k.0.independent (subst (IsIndependent w) (sym e) i));
      same = λ x. (
        (λ m. subst (λ (ts : List Vector). IsInGroup w ts x) both ((k.0.same x).0 (subst (λ (ts : List Vector). IsInGroup w ts x) (sym e) m))),
        (λ m. subst (λ (ts : List Vector). IsInGroup w ts x) e ((k.0.same x).1 (subst (λ (ts : List Vector). IsInGroup w ts x) (sym both) m))),
      );
      zero = subst (Each (λ u. dot h u ≡ pos 0)) (sym t.left) here;
      value = ap (dot h) t.own_vector ∙ (let n = none_of _ stay.0 in let o : dot h t.own.vector ≡ t.own.value = omega (arith, sums, n) in o) ∙ sym t.own_value;
      nonzero = λ z. t.cleared.nonzero (sym t.own_value ∙ z);
    }

turned_to : (row p q : Vector) (a : ℤ) → dot row p ≡ a → a ≢ pos 0 → IsTurnedBy a p q → IsTurnedTo row p q
turned_to row p q a v n (inl k) = record { same = inl k.1; nonzero = λ z. n (sym v ∙ sym (ap (dot row) k.1) ∙ z) }
turned_to row p q a v n (inr k) = record { same = inr k.1; nonzero = λ z. n (let d = dot-opposite row p in let e = ap (dot row) k.1 in omega (arith, ints, d, e, z, v)) }

pub split_state : (w : ℕ) (lattice seen units rest : List Vector) → Each (HasWidth w) lattice → IsIndependent w lattice → IsSplitBy lattice seen units rest → IsUnitState w lattice seen units rest
split_state w lattice seen units rest l i start = unit_start w lattice l i
split_state w lattice seen units rest l i (pass {seen = before} row s z) = unit_pass w lattice before units rest row (split_state w lattice before units rest l i s) z
split_state w lattice seen units rest l i (apart {seen = before} {units = open_list} {rest = old} {us = us} {p = p} {q = q} {a = a} row s t k) =
    let state = split_state w lattice before open_list old l i s in
    let g = taken_well w row open_list p a us state.open_widths t in
    let cleared = unit_cleared w lattice before open_list (p ∷ us) old state g.widths (g.independent state.open_independent) g.same in
    unit_taken w lattice before us old row p q cleared g.zero (turned_to row p q a g.value g.nonzero k)

pub split_widths : (w : ℕ) (lattice seen units rest : List Vector) → Each (HasWidth w) lattice → IsIndependent w lattice → IsSplitBy lattice seen units rest → Each (HasWidth w) units
split_widths w lattice seen units rest l i s = (split_state w lattice seen units rest l i s).open_widths

pub split_ends : (w : ℕ) (lattice rows units rest : List Vector) → Each (HasWidth w) lattice → IsIndependent w lattice → IsSplitBy lattice rows units rest → IsUnitSplit w lattice rows units rest
split_ends w lattice rows units rest l i s = unit_end w lattice rows units rest (split_state w lattice rows units rest l i s)

-- a row stands between those before it and those after it
pub row_place : (rows : List Vector) (i : ℕ) (row : Vector) → i < length rows → row ≡ get_or rows i [] → (later : List Vector) × (rows ≡ take i rows ++ row ∷ later)
row_place [] i row h e = absurd (omega (arith, h))
row_place (r ∷ rows) zero row h e = (rows, ap (λ t. t ∷ rows) (sym e))
row_place (r ∷ rows) (suc i) row h e = let k = row_place rows i row (omega (arith, h)) e in (k.0, ap (λ t. r ∷ t) k.1)
