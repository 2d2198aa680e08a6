-- When the lists of both sides of an inserted row are complete: they have the old irreducibles and are closed under sums of pairs.
use Rattle.std.proofs.Common.{◌≡◌, ℕ, zero, suc, ◌⊎◌, inl, inr, List, ℤ, pos, negsuc, ◌-ℤ◌, ◌≤ℤ◌, ◌<ℤ◌, Contains, refl, sym, ap, ◌∙◌, subst, arith}
use Rattle.std.proofs.lemmas.Int.{ints}
use Rattle.std.specs.List.{AllByRecursion as Each}
use Rattle.nz_spec.specs.Vectors.{Vector, dot, plus, minus, opposite, zero_vector, HasWidth}
use Rattle.nz_spec.specs.Laws.{IsDegreeOf}
use Rattle.nz_spec.specs.Monoids.{IsClosed, IsPositive, IsIrreducible}
use Rattle.nz_spec.proofs.VectorLaws.{dot-plus, dot-zero, plus_comm}
use Rattle.nz_spec.proofs.EquationLaws.{dot_comm}
use Rattle.nz_order.specs.Totals.{IsTotalOf}
use Rattle.nz_order.specs.Sides.{IsAbove, IsBeneath, IsLower, IsPairSum}
use Rattle.nz_order.proofs.TotalLaws.{IsTotalOf-weaker}
use Rattle.nz_order.proofs.RowLaws.{dot-opposite}
use Rattle.nz_order.proofs.InsertLaws.{new_irreducible}
use Rattle.nz_order.proofs.SideLaws.{IsIrreducible-where, lower_total}

pub opposite-dot : (h x : Vector) → dot (opposite h) x ≡ pos 0 -ℤ dot h x
opposite-dot h x = dot_comm (opposite h) x ∙ dot-opposite x h ∙ ap (λ z. pos 0 -ℤ z) (dot_comm x h)

-- beneath a row is above its opposite
beneath_to_above : (Member : Vector → Type 0) (h x : Vector) → IsBeneath Member h x → IsAbove Member (opposite h) x
beneath_to_above Member h x m = let e = opposite-dot h x in let k = m.at_most in record { member = m.member; at_least = omega (arith, ints, e, k) }

above_to_beneath : (Member : Vector → Type 0) (h x : Vector) → IsAbove Member (opposite h) x → IsBeneath Member h x
above_to_beneath Member h x m = let e = opposite-dot h x in let k = m.at_least in record { member = m.member; at_most = omega (arith, ints, e, k) }

opposite_twice : (h x : Vector) → dot (opposite (opposite h)) x ≡ dot h x
opposite_twice h x = let e = opposite-dot (opposite h) x in let f = opposite-dot h x in omega (arith, ints, e, f)

above_to_twice : (Member : Vector → Type 0) (h x : Vector) → IsAbove Member h x → IsBeneath Member (opposite h) x
above_to_twice Member h x m = let e = opposite-dot h x in let k = m.at_least in record { member = m.member; at_most = omega (arith, ints, e, k) }

twice_to_above : (Member : Vector → Type 0) (h x : Vector) → IsBeneath Member (opposite h) x → IsAbove Member h x
twice_to_above Member h x m = let e = opposite-dot h x in let k = m.at_most in record { member = m.member; at_least = omega (arith, ints, e, k) }

lower_where : (P Q : Vector → Type 0) → ((x : Vector) → P x → Q x) → ((x : Vector) → Q x → P x) → (form : Vector) (t : ℤ) (x : Vector) → IsLower P form t x → IsLower Q form t x
lower_where P Q to from form t x l = record { irreducible = IsIrreducible-where P Q to from x l.irreducible; below = l.below }

-- the sides of a monoid are monoids
pub above_closed : (Member : Vector → Type 0) → IsClosed Member → (w : ℕ) → ((x : Vector) → Member x → HasWidth w x) → (h : Vector) → IsClosed (IsAbove Member h)
above_closed Member closed w wide h x y p q =
    let e = dot-plus h x y (wide x p.member ∙ sym (wide y q.member)) in
    let a = p.at_least in
    let b = q.at_least in
    record { member = closed x y p.member q.member; at_least = omega (arith, ints, e, a, b) }

pub beneath_closed : (Member : Vector → Type 0) → IsClosed Member → (w : ℕ) → ((x : Vector) → Member x → HasWidth w x) → (h : Vector) → IsClosed (IsBeneath Member h)
beneath_closed Member closed w wide h x y p q =
    let e = dot-plus h x y (wide x p.member ∙ sym (wide y q.member)) in
    let a = p.at_most in
    let b = q.at_most in
    record { member = closed x y p.member q.member; at_most = omega (arith, ints, e, a, b) }

pub above_zero : (Member : Vector → Type 0) (w : ℕ) (h : Vector) → Member (zero_vector w) → IsAbove Member h (zero_vector w)
above_zero Member w h z = let e = dot-zero h w in record { member = z; at_least = omega (arith, ints, e) }

pub beneath_zero : (Member : Vector → Type 0) (w : ℕ) (h : Vector) → Member (zero_vector w) → IsBeneath Member h (zero_vector w)
beneath_zero Member w h z = let e = dot-zero h w in record { member = z; at_most = omega (arith, ints, e) }

module _ (Member : Vector → Type 0) (closed : IsClosed Member) (w : ℕ) (wide : (x : Vector) → Member x → HasWidth w x) (zero_in : Member (zero_vector w)) (positive : IsPositive Member) (form : Vector) (degree : IsDegreeOf Member form) (h : Vector)
    (H : List Vector) (only : Each (IsIrreducible Member) H) (all : (y : Vector) → Member y → IsTotalOf w (Contains H) y) where
  Above : Vector → Type 0
  Above = IsAbove Member h

  -- an irreducible beneath the row, in the same way
  pub new_irreducible_beneath : (t : ℤ) (x : Vector) → IsIrreducible (IsBeneath Member h) x → dot form x ≡ t
      → ((y : Vector) → IsAbove Member h y → dot form y <ℤ t → IsTotalOf w (IsLower (IsAbove Member h) form t) y)
      → ((y : Vector) → IsBeneath Member h y → dot form y <ℤ t → IsTotalOf w (IsLower (IsBeneath Member h) form t) y)
      → Contains H x ⊎ IsPairSum Member h form t x
  new_irreducible_beneath t x i at up down =
      let k = opposite h in
      let r = new_irreducible Member closed w wide zero_in positive form degree k t H x
      (IsIrreducible-where (IsBeneath Member h) (IsAbove Member k) (beneath_to_above Member h) (above_to_beneath Member h) x i) at
      (λ y m lt. IsTotalOf-weaker w (IsLower (IsBeneath Member h) form t) (IsLower (IsAbove Member k) form t)
      (lower_where (IsBeneath Member h) (IsAbove Member k) (beneath_to_above Member h) (above_to_beneath Member h) form t) y (down y (above_to_beneath Member h y m) lt))
      (λ y m lt. IsTotalOf-weaker w (IsLower (IsAbove Member h) form t) (IsLower (IsBeneath Member k) form t)
      (lower_where (IsAbove Member h) (IsBeneath Member k) (above_to_twice Member h) (twice_to_above Member h) form t) y (up y (twice_to_above Member h y m) lt))
      only all in
      elim r [
        | inl c ↦ inl c
        | inr s ↦ (let p = s.positive in let n = s.negative in let e = opposite-dot h s.upper in let f = opposite-dot h s.lower in inr (record {
          upper = s.lower;
          lower = s.upper;
          above = lower_where (IsBeneath Member k) (IsAbove Member h) (twice_to_above Member h) (above_to_twice Member h) form t s.lower s.beneath;
          beneath = lower_where (IsAbove Member k) (IsBeneath Member h) (above_to_beneath Member h) (beneath_to_above Member h) form t s.upper s.above;
          positive = omega (arith, ints, n, f);
          negative = omega (arith, ints, p, e);
          same = plus_comm s.lower s.upper ∙ s.same;
        }))
      ]

  module _ (P N : List Vector) (P_only : Each (IsIrreducible (IsAbove Member h)) P) (N_only : Each (IsIrreducible (IsBeneath Member h)) N)
      (can_above : (x e : Vector) → IsAbove Member h x → IsAbove Member h e → IsAbove Member h (minus x e) ⊎ (¬ IsAbove Member h (minus x e)))
      (can_beneath : (x e : Vector) → IsBeneath Member h x → IsBeneath Member h e → IsBeneath Member h (minus x e) ⊎ (¬ IsBeneath Member h (minus x e)))
      (b : ℤ)
      (old_above : (v : Vector) → Contains H v → dot form v <ℤ b → pos 0 ≤ℤ dot h v → Contains P v)
      (old_beneath : (v : Vector) → Contains H v → dot form v <ℤ b → dot h v ≤ℤ pos 0 → Contains N v)
      (pair_above : (p n : Vector) → Contains P p → Contains N n → pos 0 <ℤ dot h p → dot h n <ℤ pos 0 → dot form (plus p n) <ℤ b → IsIrreducible (IsAbove Member h) (plus p n) → Contains P (plus p n))
      (pair_beneath : (p n : Vector) → Contains P p → Contains N n → pos 0 <ℤ dot h p → dot h n <ℤ pos 0 → dot form (plus p n) <ℤ b → IsIrreducible (IsBeneath Member h) (plus p n) → Contains N (plus p n)) where
    bounded_complete : (n : ℕ) (x : Vector) → dot form x ≤ℤ pos n → dot form x <ℤ b → (IsIrreducible (IsAbove Member h) x → Contains P x) × (IsIrreducible (IsBeneath Member h) x → Contains N x)
    bounded_complete zero x k lt = (
      (λ i. let d = degree x i.member.member i.nonzero in absurd (omega (arith, ints, d, k))),
      (λ i. let d = degree x i.member.member i.nonzero in absurd (omega (arith, ints, d, k))),
    )
    bounded_complete (suc n) x k lt =
        let t = dot form x in
        let up : (y : Vector) → IsAbove Member h y → dot form y <ℤ t → IsTotalOf w (IsLower (IsAbove Member h) form t) y =
        lower_total (IsAbove Member h) (above_closed Member closed w wide h) w (λ v m. wide v m.member) (above_zero Member w h zero_in) form (λ v m nz. degree v m.member nz) t P P_only
        (λ v i l. (bounded_complete n v (omega (arith, ints, k, l)) (omega (arith, ints, lt, l))).0 i) can_above in
        let down : (y : Vector) → IsBeneath Member h y → dot form y <ℤ t → IsTotalOf w (IsLower (IsBeneath Member h) form t) y =
        lower_total (IsBeneath Member h) (beneath_closed Member closed w wide h) w (λ v m. wide v m.member) (beneath_zero Member w h zero_in) form (λ v m nz. degree v m.member nz) t N N_only
        (λ v i l. (bounded_complete n v (omega (arith, ints, k, l)) (omega (arith, ints, lt, l))).1 i) can_beneath in
        let listed_above : (v : Vector) → IsLower (IsAbove Member h) form t v → Contains P v = λ v l. let q = l.below in (bounded_complete n v (omega (arith, ints, k, q)) (omega (arith, ints, lt, q))).0 l.irreducible in
        let listed_beneath : (v : Vector) → IsLower (IsBeneath Member h) form t v → Contains N v = λ v l. let q = l.below in (bounded_complete n v (omega (arith, ints, k, q)) (omega (arith, ints, lt, q))).1 l.irreducible in (
          (λ i. elim (new_irreducible Member closed w wide zero_in positive form degree h t H x i refl up down only all) [
            | inl c ↦ old_above x c lt i.member.at_least
            | inr s ↦ subst (Contains P) s.same (pair_above s.upper s.lower (listed_above s.upper s.above) (listed_beneath s.lower s.beneath) s.positive s.negative
                (subst (λ (v : Vector). dot form v <ℤ b) (sym s.same) lt) (subst (IsIrreducible (IsAbove Member h)) (sym s.same) i))
          ]),
          (λ i. elim (new_irreducible_beneath t x i refl up down) [
            | inl c ↦ old_beneath x c lt i.member.at_most
            | inr s ↦ subst (Contains N) s.same (pair_beneath s.upper s.lower (listed_above s.upper s.above) (listed_beneath s.lower s.beneath) s.positive s.negative
                (subst (λ (v : Vector). dot form v <ℤ b) (sym s.same) lt) (subst (IsIrreducible (IsBeneath Member h)) (sym s.same) i))
          ]),
        )

    -- below the bound, the lists have every irreducible of their side
    pub sides_complete : (x : Vector) → dot form x <ℤ b → (IsIrreducible (IsAbove Member h) x → Contains P x) × (IsIrreducible (IsBeneath Member h) x → Contains N x)
    sides_complete x lt = by_degree (dot form x) (λ n k. bounded_complete n x k lt)
      where
        by_degree : (d : ℤ) → ((n : ℕ) → d ≤ℤ pos n → (IsIrreducible (IsAbove Member h) x → Contains P x) × (IsIrreducible (IsBeneath Member h) x → Contains N x)) → (IsIrreducible (IsAbove Member h) x → Contains P x) × (IsIrreducible (IsBeneath Member h) x → Contains N x)
        by_degree (pos n) f = f n (omega (arith, ints))
        by_degree (negsuc n) f = f 0 (omega (arith, ints))
