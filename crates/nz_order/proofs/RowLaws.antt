-- The vectors of a lattice at which rows are at least 0: their sums, what can be taken from them, and a degree.
use Rattle.std.proofs.Common.{◌≡◌, ◌↔◌, ℕ, ◌⊎◌, inl, inr, List, [], ◌∷◌, length, pos, ◌-ℤ◌, ◌≤ℤ◌, ◌<ℤ◌, neg_ℤ, refl, sym, ap, ◌∙◌, subst, arith}
use Rattle.std.proofs.lemmas.Int.{ints, by_lt_z}
use Rattle.std.specs.List.{AllByRecursion as Each}
use Rattle.nz_spec.specs.Vectors.{Vector, dot, plus, minus, opposite, zero_vector, HasWidth}
use Rattle.nz_spec.specs.Laws.{IsDegreeOf}
use Rattle.nz_spec.specs.Monoids.{IsClosed, IsPositive}
use Rattle.nz_spec.specs.Stages.{IsInStage}
use Rattle.nz_spec.proofs.VectorLaws.{length-plus, length-minus, length-opposite, dot-plus, dot-minus, dot-zero, plus-opposite}
use Rattle.nz_spec.proofs.SumLaws.{length-zero_vector}
use Rattle.nz_spec.proofs.EquationLaws.{dot_comm}
use Rattle.nz_order.specs.Lattices.{IsLattice}
use Rattle.nz_order.specs.Totals.{total}
use Rattle.nz_order.proofs.TotalLaws.{value_total, dot-total}

pub dot-opposite : (f x : Vector) → dot f (opposite x) ≡ pos 0 -ℤ dot f x
dot-opposite f x =
    let h = dot-plus f x (opposite x) (sym (length-opposite x)) in
    let z : dot f (plus x (opposite x)) ≡ pos 0 = ap (dot f) (plus-opposite x) ∙ dot-zero f (length x) in
    omega (arith, ints, h, z)

minus-zero_vector : (x : Vector) → minus (zero_vector (length x)) x ≡ opposite x
minus-zero_vector [] = refl
minus-zero_vector (a ∷ x) =
    let e : pos 0 -ℤ a ≡ neg_ℤ a = omega (arith, ints) in
    let t = minus-zero_vector x in cc

-- all vectors of one width are a lattice
pub whole_lattice : (w : ℕ) → IsLattice w (HasWidth w)
whole_lattice w = record {
  wide = λ x h. h;
  zero_in = length-zero_vector w;
  sums = λ x y h k. length-plus x y (h ∙ sym k) ∙ h;
  differences = λ x y h k. length-minus x y (h ∙ sym k) ∙ h;
}

module _ (w : ℕ) (Lattice : Vector → Type 0) (lattice : IsLattice w Lattice) where
  pub lattice_opposite : (x : Vector) → Lattice x → Lattice (opposite x)
  lattice_opposite x h = subst Lattice (ap (λ n. minus (zero_vector n) x) (sym (lattice.wide x h)) ∙ minus-zero_vector x) (lattice.differences (zero_vector w) x lattice.zero_in h)

  same_width : (x y : Vector) → Lattice x → Lattice y → length x ≡ length y
  same_width x y h k = lattice.wide x h ∙ sym (lattice.wide y k)

  sums_nonneg : (rows : List Vector) (x y : Vector) → length x ≡ length y → Each (λ r. pos 0 ≤ℤ dot r x) rows → Each (λ r. pos 0 ≤ℤ dot r y) rows → Each (λ r. pos 0 ≤ℤ dot r (plus x y)) rows
  sums_nonneg [] x y l h k = tt
  sums_nonneg (r ∷ rows) x y l h k = (omega (arith, ints, dot-plus r x y l, h.0, k.0), sums_nonneg rows x y l h.1 k.1)

  zero_nonneg : (rows : List Vector) → Each (λ r. pos 0 ≤ℤ dot r (zero_vector w)) rows
  zero_nonneg [] = tt
  zero_nonneg (r ∷ rows) = (omega (arith, ints, dot-zero r w), zero_nonneg rows)

  pub stage_wide : (rows : List Vector) (x : Vector) → IsInStage Lattice rows x → HasWidth w x
  stage_wide rows x h = lattice.wide x h.in_lattice

  -- a stage is closed under sums
  pub stage_closed : (rows : List Vector) → IsClosed (IsInStage Lattice rows)
  stage_closed rows x y h k = record {
    in_lattice = lattice.sums x y h.in_lattice k.in_lattice;
    at_least = sums_nonneg rows x y (same_width x y h.in_lattice k.in_lattice) h.at_least k.at_least;
  }

  -- and has 0
  pub stage_zero : (rows : List Vector) → IsInStage Lattice rows (zero_vector w)
  stage_zero rows = record { in_lattice = lattice.zero_in; at_least = zero_nonneg rows }

  -- v can be taken from x just where no row has a greater value at v
  pub stage_minus : (rows : List Vector) (x v : Vector) → Lattice x → Lattice v → IsInStage Lattice rows (minus x v) ↔ Each (λ r. dot r v ≤ℤ dot r x) rows
  stage_minus rows x v h k =
      let l = same_width x v h k in
      ((λ m. to rows l m.at_least), (λ e. record { in_lattice = lattice.differences x v h k; at_least = from rows l e }))
    where
      to : (rows : List Vector) → length x ≡ length v → Each (λ r. pos 0 ≤ℤ dot r (minus x v)) rows → Each (λ r. dot r v ≤ℤ dot r x) rows
      to [] l m = tt
      to (r ∷ rows) l m = (omega (arith, ints, dot-minus r x v l, m.0), to rows l m.1)

      from : (rows : List Vector) → length x ≡ length v → Each (λ r. dot r v ≤ℤ dot r x) rows → Each (λ r. pos 0 ≤ℤ dot r (minus x v)) rows
      from [] l m = tt
      from (r ∷ rows) l m = (omega (arith, ints, dot-minus r x v l, m.0), from rows l m.1)

  values_decided : (rows : List Vector) (x v : Vector) → Each (λ r. dot r v ≤ℤ dot r x) rows ⊎ (¬ Each (λ r. dot r v ≤ℤ dot r x) rows)
  values_decided [] x v = inl tt
  values_decided (r ∷ rows) x v = by_lt_z (dot r x) (dot r v)
      (λ (lt : dot r x <ℤ dot r v). inr (λ h. let k = h.0 in omega (arith, ints, lt, k)))
      (λ (le : dot r v ≤ℤ dot r x). elim (values_decided rows x v) [
        | inl h ↦ inl (le, h)
        | inr n ↦ inr (λ h. n h.1)
      ])

  -- it is decided whether v can be taken from x
  pub stage_decided : (rows : List Vector) (x v : Vector) → IsInStage Lattice rows x → IsInStage Lattice rows v → IsInStage Lattice rows (minus x v) ⊎ (¬ IsInStage Lattice rows (minus x v))
  stage_decided rows x v h k =
      let both = stage_minus rows x v h.in_lattice k.in_lattice in
      elim (values_decided rows x v) [ inl e ↦ inl (both.1 e) | inr n ↦ inr (λ m. n (both.0 m)) ]

  total_nonneg : (rows : List Vector) (x : Vector) → Each (λ r. pos 0 ≤ℤ dot r x) rows → pos 0 ≤ℤ value_total x rows
  total_nonneg [] x h = omega (arith, ints)
  total_nonneg (r ∷ rows) x h = omega (arith, ints, h.0, dot_comm r x, total_nonneg rows x h.1)

  zero_total : (rows : List Vector) (x : Vector) → Each (λ r. pos 0 ≤ℤ dot r x) rows → value_total x rows ≤ℤ pos 0 → Each (λ r. pos 0 ≤ℤ dot r (opposite x)) rows
  zero_total [] x h z = tt
  zero_total (r ∷ rows) x h z =
      let n = total_nonneg rows x h.1 in
      let c = dot_comm r x in
      let p = h.0 in
      (omega (arith, ints, dot-opposite r x, z, n, c), zero_total rows x h.1 (omega (arith, ints, z, c, p)))

  -- where a stage has no line, the sum of its rows is a degree
  pub stage_degree : (rows : List Vector) → Each (HasWidth w) rows → IsPositive (IsInStage Lattice rows) → IsDegreeOf (IsInStage Lattice rows) (total w rows)
  stage_degree rows wide positive x m n = by_lt_z (dot (total w rows) x) (pos 1)
      (λ (lt : dot (total w rows) x <ℤ pos 1).
      let v = dot_comm (total w rows) x ∙ dot-total x w rows wide in
      absurd (positive x (record {
        nonzero = n;
        forward = m;
        backward = record { in_lattice = lattice_opposite x m.in_lattice; at_least = zero_total rows x m.at_least (omega (arith, ints, lt, v)) };
      })))
      (λ (ge : pos 1 ≤ℤ dot (total w rows) x). ge)
