-- The ends that one form sets, and what they are after one form more.
use Rattle.std.proofs.Common.{◌≡◌, ◌↔◌, ℤ, pos, ◌+ℤ◌, ◌-ℤ◌, ◌*ℤ◌, ◌≤ℤ◌, ◌<ℤ◌, sym, subst, arith}
use Rattle.std.specs.Prelude.{unsigned_abs}
use Rattle.std.proofs.lemmas.Int.{ints}
use Rattle.nz_linear.proofs.Ring.{sums, ring_z}
use Rattle.nz_scalar.specs.Room.{HasRoom}
use Rattle.nz_scalar.specs.Division.{IsFloorQuotient}
use Rattle.nz_sweep.proofs.NumberLemmas.{unfit_large}
use Rattle.nz_sweep.proofs.DivisionCauses.{quotient_within, quotient_large}
use Rattle.nz_further.proofs.ShadowLaws.{low_end, high_end}
use Rattle.nz_lift.specs.Ends.{IsLeastEnd, IsGreatestEnd}

-- ---- one end
pub least_of : (a b q l : ℤ) → pos 0 <ℤ b → IsFloorQuotient a b q → l ≡ pos 0 -ℤ q → IsLeastEnd a b l
least_of a b q l p f e =
    let k = f.above p in
    let s = quotient_within a b q (λ z. omega (arith, ints, p, z)) f in
    record {
      from_here = λ t. subst (λ (m : ℤ). (pos 0 ≤ℤ (a +ℤ t *ℤ b)) ↔ (m ≤ℤ t)) (sym e) (low_end a b q t p (record { at_most = k.0; above = k.1 }));
      size = omega (arith, ints, e, s);
    }

turned : (t b : ℤ) → t *ℤ (pos 0 -ℤ b) ≡ pos 0 -ℤ (t *ℤ b)
turned t b = simp ring_z (omega (arith, sums))

pub greatest_of : (a b o q : ℤ) → b <ℤ pos 0 → o ≡ pos 0 -ℤ a → IsFloorQuotient o b q → IsGreatestEnd a b q
greatest_of a b o q n e f =
    let k = f.below n in
    let s = quotient_within o b q (λ z. omega (arith, ints, n, z)) f in
    let k0 = k.0 in
    let k1 = k.1 in
    record {
      up_to_here = λ t.
          let h = high_end a (pos 0 -ℤ b) q t (omega (arith, ints, n)) (record { at_most = omega (arith, sums, turned q b, k0, e); above = omega (arith, sums, turned (q +ℤ pos 1) b, k1, e) }) in
          let same : a +ℤ t *ℤ b ≡ a -ℤ t *ℤ (pos 0 -ℤ b) = omega (arith, sums, turned t b) in
          subst (λ (v : ℤ). (pos 0 ≤ℤ v) ↔ (t ≤ℤ q)) (sym same) h;
      size = omega (arith, ints, e, s);
    }

-- where a number of it is no value, the value is large
pub no_least : (h : ℤ) (fits : ℤ → Type 0) → HasRoom h fits → (a b q z : ℤ) → z ≡ pos 0 → pos 0 <ℤ b → IsFloorQuotient a b q → ¬ fits (z -ℤ q) → h <ℤ pos (unsigned_abs a)
no_least h fits room a b q z e p f u =
    let l = unfit_large h fits room (z -ℤ q) u in
    let s = quotient_within a b q (λ z. omega (arith, ints, p, z)) f in
    omega (arith, ints, e, l, s)

pub no_floor : (h : ℤ) (fits : ℤ → Type 0) → HasRoom h fits → (a b : ℤ) → pos 0 <ℤ b → ((q : ℤ) → IsFloorQuotient a b q → ¬ fits q) → h <ℤ pos (unsigned_abs a)
no_floor h fits room a b p u = quotient_large h fits room a b (λ z. omega (arith, ints, p, z)) u

pub no_opposite : (h : ℤ) (fits : ℤ → Type 0) → HasRoom h fits → (a z : ℤ) → z ≡ pos 0 → ¬ fits (z -ℤ a) → h <ℤ pos (unsigned_abs a)
no_opposite h fits room a z e u = let l = unfit_large h fits room (z -ℤ a) u in omega (arith, ints, e, l)

pub no_greatest : (h : ℤ) (fits : ℤ → Type 0) → HasRoom h fits → (a b o : ℤ) → b <ℤ pos 0 → o ≡ pos 0 -ℤ a → ((q : ℤ) → IsFloorQuotient o b q → ¬ fits q) → h <ℤ pos (unsigned_abs a)
no_greatest h fits room a b o n e u = let l = quotient_large h fits room o b (λ z. omega (arith, ints, n, z)) u in omega (arith, ints, e, l)
