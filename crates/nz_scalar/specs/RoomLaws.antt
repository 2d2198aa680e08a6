-- A signed type has room for numbers of half its width, less one bit.
use Rattle.std.specs.Prelude.{ℕ, ℤ, pos, negsuc, ◌*◌, ◌^◌, ◌<◌, ◌≤◌, ◌+ℤ◌, ◌-ℤ◌, ◌*ℤ◌, unsigned_abs, FitsSigned}
use Rattle.std.specs.Int.{Width}
use Rattle.std.proofs.Common.{arith}
use Rattle.std.proofs.lemmas.Int.{ints, fits_signed_from_abs}
use Rattle.num_traits.specs.Ints.{signed-between}
use Rattle.nz_spec.proofs.IntLaws.{mul-add, mul-sub, add-mul, sub-mul, mul-nonneg}
use Rattle.nz_scalar.specs.Room.{IsWithin, HasRoom}
use mir.Val.{hbits}

abs_within : (m : ℕ) (n : ℤ) → IsWithin (pos m) n → unsigned_abs n ≤ m
abs_within m (pos n) h = omega (arith, ints, h.1)
abs_within m (negsuc n) h = omega (arith, ints, h.0)

-- the product of two numbers within h is within h * h
pub within_mul : (h a b : ℤ) → IsWithin h a → IsWithin h b → IsWithin (h *ℤ h) (a *ℤ b)
within_mul h a b p q =
    let w = mul-nonneg (h -ℤ a) (h +ℤ b) (omega (arith, ints, p.1)) (omega (arith, ints, q.0)) in
    let x = mul-nonneg (h +ℤ a) (h -ℤ b) (omega (arith, ints, p.0)) (omega (arith, ints, q.1)) in
    let y = mul-nonneg (h -ℤ a) (h -ℤ b) (omega (arith, ints, p.1)) (omega (arith, ints, q.1)) in
    let z = mul-nonneg (h +ℤ a) (h +ℤ b) (omega (arith, ints, p.0)) (omega (arith, ints, q.0)) in
    (omega (arith, ints, y, z, mul-add h h b, mul-add a h b, mul-sub h h b, mul-sub a h b, sub-mul h a (h +ℤ b), sub-mul h a (h -ℤ b), add-mul h a (h +ℤ b), add-mul h a (h -ℤ b)), omega (arith, ints, w, x, mul-add h h b, mul-add a h b, mul-sub h h b, mul-sub a h b, sub-mul h a (h +ℤ b), sub-mul h a (h -ℤ b), add-mul h a (h +ℤ b), add-mul h a (h -ℤ b)))

-- where twice the square of m is within the width, there is room for m
pub room_of : (w : Width) (m : ℕ) → 1 ≤ m → m ≤ 2 ^ 62 → 2 * (m * m) < 2 ^ hbits w → HasRoom (pos m) (FitsSigned w)
room_of w m low high square = record {
  at_least = omega (arith, ints);
  at_most = omega (arith, ints);
  products = λ a b c d p q r s.
      let x = within_mul (pos m) a b p q in
      let y = within_mul (pos m) c d r s in
      let z : IsWithin (pos (2 * (m * m))) (a *ℤ b +ℤ c *ℤ d) = (omega (arith, ints, x, y), omega (arith, ints, x, y)) in
      let l = abs_within (2 * (m * m)) (a *ℤ b +ℤ c *ℤ d) z in
      fits_signed_from_abs w (a *ℤ b +ℤ c *ℤ d) (omega (arith, l, square));
  squares = λ n p. let l = abs_within (m * m) n p in fits_signed_from_abs w n (omega (arith, l, square));
  between = λ x y z f g. signed-between w x y z f g;
  zero_fits = fits_signed_from_abs w (pos 0) (omega (arith, square));
}
