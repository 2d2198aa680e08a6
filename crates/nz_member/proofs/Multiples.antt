-- Multiples by division: z is a multiple of m just where m times the floor of z / m is z.
use Rattle.std.proofs.Common.{◌≡◌, [], ◌∷◌, Bool, true, false, ℤ, pos, ◌+ℤ◌, ◌*ℤ◌, ◌≤ℤ◌, sym, ap, ◌∙◌, subst, arith}
use Rattle.std.specs.Prelude.{MatchBool}
use Rattle.std.proofs.lemmas.Int.{ints}
use Rattle.nz_spec.specs.Vectors.{Vector, dot, IsMultipleOf}
use Rattle.nz_spec.proofs.IntLaws.{add-mul}
use Rattle.nz_scalar.specs.Division.{IsFloorQuotient}
use Rattle.nz_scalar.proofs.FloorLemmas.{floor_unique}
use Rattle.nz_vec.specs.Sums.{SumsFit}

-- the floor of a quotient that is whole
whole_floor : (z m q : ℤ) → pos 1 ≤ℤ m → IsMultipleOf m z → IsFloorQuotient z m q → q *ℤ m ≡ z
whole_floor z m q least k is =
    let floor : IsFloorQuotient z m k.0 = record {
      above = λ u. let e = k.1 in (omega (arith, ints, e), omega (arith, ints, e, u, add-mul k.0 (pos 1) m));
      below = λ u. absurd (let f : ⊥ = omega (arith, ints, u, least) in f);
    } in
    let same = floor_unique z m q k.0 (λ e. omega (arith, ints, e, least)) is floor in
    ap (λ (t : ℤ). t *ℤ m) same ∙ sym k.1

pub multiple_or_not : (z m q p : ℤ) (b : Bool) → pos 1 ≤ℤ m → IsFloorQuotient z m q → p ≡ q *ℤ m → MatchBool b (p ≡ z) (¬ (p ≡ z)) → MatchBool b (IsMultipleOf m z) (¬ IsMultipleOf m z)
multiple_or_not z m q p true least is e h = (q, sym h ∙ e)
multiple_or_not z m q p false least is e n = λ k. n (e ∙ whole_floor z m q least k is)

-- where the product is no value and z is one, z is no multiple
pub no_multiple : (fits : ℤ → Type 0) (z m q : ℤ) → pos 1 ≤ℤ m → IsFloorQuotient z m q → fits z → ¬ fits (q *ℤ m) → ¬ IsMultipleOf m z
no_multiple fits z m q least is f n k = n (subst fits (sym (whole_floor z m q least k is)) f)

fits_sum : (fits : ℤ → Type 0) (s : ℤ) (f x : Vector) → fits s → SumsFit fits s f x → fits (s +ℤ dot f x)
fits_sum fits s [] x p h = let e : s ≡ s +ℤ pos 0 = omega (arith, ints) in subst fits e p
fits_sum fits s (a ∷ f) [] p h = let e : s ≡ s +ℤ pos 0 = omega (arith, ints) in subst fits e p
fits_sum fits s (a ∷ f) (b ∷ x) p h =
    let e : (s +ℤ a *ℤ b) +ℤ dot f x ≡ s +ℤ (a *ℤ b +ℤ dot f x) = omega (arith, ints) in
    subst fits e (fits_sum fits (s +ℤ a *ℤ b) f x h.1 h.2)

-- a sum that can be formed from the left is a value
pub fits_dot : (fits : ℤ → Type 0) (f x : Vector) → fits (pos 0) → SumsFit fits (pos 0) f x → fits (dot f x)
fits_dot fits f x p h = let e : pos 0 +ℤ dot f x ≡ dot f x = omega (arith, ints) in subst fits e (fits_sum fits (pos 0) f x p h)
