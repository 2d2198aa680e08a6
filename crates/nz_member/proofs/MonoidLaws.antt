-- The monoid of constraints is a stage: its equations and congruences make a lattice, and its rows are at least 0.
use Rattle.std.proofs.Common.{◌≡◌, ℕ, List, [], ◌∷◌, length, ℤ, pos, ◌-ℤ◌, ◌≤ℤ◌, neg_ℤ, refl, sym, ap, ap₂, ◌∙◌, subst, arith}
use Rattle.std.proofs.lemmas.Int.{ints}
use Rattle.std.specs.List.{AllByRecursion as Each}
use Rattle.nz_spec.specs.Vectors.{Vector, dot, values_at, plus, minus, scaled, opposite, zero_vector, HasWidth}
use Rattle.nz_spec.specs.Monoids.{IsClosed, IsPositive}
use Rattle.nz_spec.specs.Laws.{IsDegreeOf}
use Rattle.nz_spec.specs.Stages.{IsInStage}
use Rattle.nz_spec.specs.Constraints.{Constraint, Zero, Multiple, NotNegative, MeetsAll}
use Rattle.nz_spec.proofs.IntLaws.{multiple_zero, multiple_add, multiple_sub}
use Rattle.nz_spec.proofs.VectorLaws.{length-plus, length-minus, length-scaled, dot-plus, dot-minus, dot-scaled, dot-zero, plus-minus}
use Rattle.nz_spec.proofs.SumLaws.{length-zero_vector}
use Rattle.nz_spec.proofs.MemberLaws.{zero_of_both}
use Rattle.nz_spec.proofs.PartsSums.{plus-zero}
use Rattle.nz_order.specs.Lattices.{IsLattice}
use Rattle.nz_order.specs.Totals.{total}
use Rattle.nz_order.proofs.RowLaws.{stage_closed, stage_zero, stage_minus, stage_degree}
use Rattle.nz_member.specs.Amounts.{rows_of}
use Rattle.nz_member.specs.Values.{IsOfWidth}
use Rattle.nz_member.specs.Replies.{IsInMonoid}

-- the constraints that are no rows
abbrev pub others_of : List Constraint → List Constraint
others_of [] = []
others_of (Zero f ∷ cs) = Zero f ∷ others_of cs
others_of (Multiple f m ∷ cs) = Multiple f m ∷ others_of cs
others_of (NotNegative f ∷ cs) = others_of cs

-- x meets the constraints that are no rows
pub record IsInLattice (w : ℕ) (cs : List Constraint) (x : Vector) : Type 0 where
  pub width : HasWidth w x
  pub met : MeetsAll (others_of cs) x

meets_zero : (cs : List Constraint) (w : ℕ) → MeetsAll (others_of cs) (zero_vector w)
meets_zero [] w = tt
meets_zero (Zero f ∷ cs) w = (dot-zero f w, meets_zero cs w)
meets_zero (Multiple f m ∷ cs) w = (rw (dot-zero f w) (multiple_zero m), meets_zero cs w)
meets_zero (NotNegative f ∷ cs) w = meets_zero cs w

meets_plus : (cs : List Constraint) (x y : Vector) → length x ≡ length y → MeetsAll (others_of cs) x → MeetsAll (others_of cs) y → MeetsAll (others_of cs) (plus x y)
meets_plus [] x y l h k = tt
meets_plus (Zero f ∷ cs) x y l h k = (omega (arith, ints, dot-plus f x y l, h.0, k.0), meets_plus cs x y l h.1 k.1)
meets_plus (Multiple f m ∷ cs) x y l h k = (rw (dot-plus f x y l) (multiple_add m (dot f x) (dot f y) h.0 k.0), meets_plus cs x y l h.1 k.1)
meets_plus (NotNegative f ∷ cs) x y l h k = meets_plus cs x y l h k

meets_minus : (cs : List Constraint) (x y : Vector) → length x ≡ length y → MeetsAll (others_of cs) x → MeetsAll (others_of cs) y → MeetsAll (others_of cs) (minus x y)
meets_minus [] x y l h k = tt
meets_minus (Zero f ∷ cs) x y l h k = (omega (arith, ints, dot-minus f x y l, h.0, k.0), meets_minus cs x y l h.1 k.1)
meets_minus (Multiple f m ∷ cs) x y l h k = (rw (dot-minus f x y l) (multiple_sub m (dot f x) (dot f y) h.0 k.0), meets_minus cs x y l h.1 k.1)
meets_minus (NotNegative f ∷ cs) x y l h k = meets_minus cs x y l h k

pub constraint_lattice : (w : ℕ) (cs : List Constraint) → IsLattice w (IsInLattice w cs)
constraint_lattice w cs = record {
  wide = λ x h. h.width;
  zero_in = record { width = length-zero_vector w; met = meets_zero cs w };
  sums = λ x y h k. (let l : length x ≡ length y = h.width ∙ sym k.width in record { width = length-plus x y l ∙ h.width; met = meets_plus cs x y l h.met k.met });
  differences = λ x y h k. (let l : length x ≡ length y = h.width ∙ sym k.width in record { width = length-minus x y l ∙ h.width; met = meets_minus cs x y l h.met k.met });
}

met_split : (cs : List Constraint) (x : Vector) → MeetsAll cs x → MeetsAll (others_of cs) x × Each (λ r. pos 0 ≤ℤ dot r x) (rows_of cs)
met_split [] x h = (tt, tt)
met_split (Zero f ∷ cs) x h = (let r = met_split cs x h.1 in ((h.0, r.0), r.1))
met_split (Multiple f m ∷ cs) x h = (let r = met_split cs x h.1 in ((h.0, r.0), r.1))
met_split (NotNegative f ∷ cs) x h = (let r = met_split cs x h.1 in (r.0, (h.0, r.1)))

met_joined : (cs : List Constraint) (x : Vector) → MeetsAll (others_of cs) x → Each (λ r. pos 0 ≤ℤ dot r x) (rows_of cs) → MeetsAll cs x
met_joined [] x h k = tt
met_joined (Zero f ∷ cs) x h k = (h.0, met_joined cs x h.1 k)
met_joined (Multiple f m ∷ cs) x h k = (h.0, met_joined cs x h.1 k)
met_joined (NotNegative f ∷ cs) x h k = (k.0, met_joined cs x h k.1)

-- at a vector of the monoid the values of the rows are at least 0
pub values_nonneg : (cs : List Constraint) (x : Vector) → MeetsAll cs x → Each (λ v. pos 0 ≤ℤ v) (values_at (rows_of cs) x)
values_nonneg [] x h = tt
values_nonneg (Zero f ∷ cs) x h = values_nonneg cs x h.1
values_nonneg (Multiple f m ∷ cs) x h = values_nonneg cs x h.1
values_nonneg (NotNegative f ∷ cs) x h = (h.0, values_nonneg cs x h.1)

pub rows_wide : (w : ℕ) (cs : List Constraint) → Each (IsOfWidth w) cs → Each (HasWidth w) (rows_of cs)
rows_wide w [] h = tt
rows_wide w (Zero f ∷ cs) h = rows_wide w cs h.1
rows_wide w (Multiple f m ∷ cs) h = rows_wide w cs h.1
rows_wide w (NotNegative f ∷ cs) h = (h.0.width, rows_wide w cs h.1)

opposite-minus : (x y : Vector) → length x ≡ length y → opposite (minus x y) ≡ minus y x
opposite-minus [] [] l = refl
opposite-minus [] (b ∷ y) l = absurd (omega (arith, l))
opposite-minus (a ∷ x) [] l = absurd (omega (arith, l))
opposite-minus (a ∷ x) (b ∷ y) l =
    let e : neg_ℤ (a -ℤ b) ≡ b -ℤ a = omega (arith, ints) in
    ap₂ ◌∷◌ e (opposite-minus x y (omega (arith, l)))

same_below : (rs : List Vector) (x y : Vector) → values_at rs x ≡ values_at rs y → Each (λ r. dot r x ≤ℤ dot r y) rs
same_below [] x y e = tt
same_below (r ∷ rs) x y e =
    let h : dot r x ≡ dot r y = cc in
    let t : values_at rs x ≡ values_at rs y = cc in
    (omega (arith, ints, h), same_below rs x y t)

-- the values at a vector from which k times e is taken
pub values_minus : (rs : List Vector) (k : ℤ) (x e : Vector) → length x ≡ length e → values_at rs (minus x (scaled k e)) ≡ minus (values_at rs x) (scaled k (values_at rs e))
values_minus [] k x e l = refl
values_minus (r ∷ rs) k x e l =
    ap₂ ◌∷◌ (dot-minus r x (scaled k e) (l ∙ sym (length-scaled k e)) ∙ ap (λ z. dot r x -ℤ z) (dot-scaled r k e)) (values_minus rs k x e l)

module _ (w : ℕ) (cs : List Constraint) where
  pub stage_of : (x : Vector) → IsInMonoid w cs x → IsInStage (IsInLattice w cs) (rows_of cs) x
  stage_of x h = (let r = met_split cs x h.met in record { in_lattice = record { width = h.width; met = r.0 }; at_least = r.1 })

  pub monoid_of : (x : Vector) → IsInStage (IsInLattice w cs) (rows_of cs) x → IsInMonoid w cs x
  monoid_of x h = record { width = h.in_lattice.width; met = met_joined cs x h.in_lattice.met h.at_least }

  pub monoid_wide : (x : Vector) → IsInMonoid w cs x → HasWidth w x
  monoid_wide x h = h.width

  pub monoid_closed : IsClosed (IsInMonoid w cs)
  monoid_closed x y h k = monoid_of (plus x y) (stage_closed w (IsInLattice w cs) (constraint_lattice w cs) (rows_of cs) x y (stage_of x h) (stage_of y k))

  pub monoid_zero : IsInMonoid w cs (zero_vector w)
  monoid_zero = monoid_of (zero_vector w) (stage_zero w (IsInLattice w cs) (constraint_lattice w cs) (rows_of cs))

  pub stage_positive : IsPositive (IsInMonoid w cs) → IsPositive (IsInStage (IsInLattice w cs) (rows_of cs))
  stage_positive positive v line = positive v (record { nonzero = line.nonzero; forward = monoid_of v line.forward; backward = monoid_of (opposite v) line.backward })

  -- where the monoid is positive, the sum of the rows is a degree
  pub monoid_degree : Each (IsOfWidth w) cs → IsPositive (IsInMonoid w cs) → IsDegreeOf (IsInMonoid w cs) (total w (rows_of cs))
  monoid_degree forms positive x m n = stage_degree w (IsInLattice w cs) (constraint_lattice w cs) (rows_of cs) (rows_wide w cs forms) (stage_positive positive) x (stage_of x m) n

  minus_in : (x y : Vector) → IsInMonoid w cs x → IsInMonoid w cs y → values_at (rows_of cs) y ≡ values_at (rows_of cs) x → IsInMonoid w cs (minus x y)
  minus_in x y h k e = monoid_of (minus x y) ((stage_minus w (IsInLattice w cs) (constraint_lattice w cs) (rows_of cs) x y (stage_of x h).in_lattice (stage_of y k).in_lattice).1 (same_below (rows_of cs) y x e))

  -- and a vector of it is known by the values of the rows
  pub same_of_values : IsPositive (IsInMonoid w cs) → (x y : Vector) → IsInMonoid w cs x → IsInMonoid w cs y → values_at (rows_of cs) x ≡ values_at (rows_of cs) y → x ≡ y
  same_of_values positive x y h k e =
      let l : length x ≡ length y = h.width ∙ sym k.width in
      let back = subst (IsInMonoid w cs) (sym (opposite-minus x y l)) (minus_in y x k h e) in
      let z = zero_of_both (IsInMonoid w cs) positive (minus x y) (minus_in x y h k (sym e)) back in
      sym (plus-minus x y l) ∙ plus-zero y (minus x y) (sym l ∙ sym (length-minus x y l)) z
