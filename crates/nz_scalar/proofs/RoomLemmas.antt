-- What follows where a type has room: sums of products of numbers within h, their opposites and their common divisors are values.
use Rattle.std.proofs.Common.{◌≡◌, ◌≢◌, ◌⊎◌, inl, inr, List, [], ◌∷◌, ℤ, pos, ◌+ℤ◌, ◌-ℤ◌, ◌*ℤ◌, neg_ℤ, ◌≤ℤ◌, sym, ap, ◌∙◌, subst, arith}
use Rattle.std.specs.List.{AllByRecursion as Each}
use Rattle.std.proofs.lemmas.Int.{ints}
use Rattle.std.proofs.Math.IntN.{*ℤ-zero, zero-*ℤ}
use Rattle.nz_spec.specs.Vectors.{IsMultipleOf}
use Rattle.nz_spec.proofs.IntLaws.{sub-mul, int_cases}
use Rattle.nz_scalar.specs.Division.{HasGcd}
use Rattle.nz_scalar.specs.Room.{IsWithin, HasRoom}
use Rattle.nz_scalar.proofs.GcdLemmas.{multiple_neg, divisor_le}

-- a number and its opposite are values
abbrev pub IsCovered : (ℤ → Type 0) → ℤ → Type 0
IsCovered fits n = fits n × fits (neg_ℤ n)

less_is : (z : ℤ) → neg_ℤ z ≡ pos 0 -ℤ z
less_is z = omega (arith, ints)

opposite_times : (x y : ℤ) → neg_ℤ x *ℤ y ≡ neg_ℤ (x *ℤ y)
opposite_times x y = ap (λ t. t *ℤ y) (less_is x) ∙ sub-mul (pos 0) x y ∙ ap (λ t. t -ℤ x *ℤ y) (zero-*ℤ y) ∙ sym (less_is (x *ℤ y))

not_zero : (x : ℤ) → (pos 1 ≤ℤ x) ⊎ (pos 1 ≤ℤ (pos 0 -ℤ x)) → x ≢ pos 0
not_zero x s z = elim s [ inl p ↦ omega (arith, ints, p, z) | inr p ↦ omega (arith, ints, p, z) ]

module _ (h : ℤ) (fits : ℤ → Type 0) (room : HasRoom h fits) where
  pub zero_within : IsWithin h (pos 0)
  zero_within = let l = room.at_least in (omega (arith, ints, l), omega (arith, ints, l))

  pub one_within : IsWithin h (pos 1)
  one_within = let l = room.at_least in (omega (arith, ints, l), omega (arith, ints, l))

  pub opposite_within : (a : ℤ) → IsWithin h a → IsWithin h (neg_ℤ a)
  opposite_within a w = (omega (arith, ints, w.1), omega (arith, ints, w.0))

  -- a sum of two products of numbers within h is covered
  pub sum_covered : (a b c d : ℤ) → IsWithin h a → IsWithin h b → IsWithin h c → IsWithin h d → IsCovered fits (a *ℤ b +ℤ c *ℤ d)
  sum_covered a b c d p q r s =
      let e : neg_ℤ a *ℤ b +ℤ neg_ℤ c *ℤ d ≡ neg_ℤ (a *ℤ b +ℤ c *ℤ d) = omega (arith, ints, opposite_times a b, opposite_times c d) in
      (room.products a b c d p q r s, subst fits e (room.products (neg_ℤ a) b (neg_ℤ c) d (opposite_within a p) q (opposite_within c r) s))

  pub product_covered : (a b : ℤ) → IsWithin h a → IsWithin h b → IsCovered fits (a *ℤ b)
  product_covered a b p q =
      let e : a *ℤ b +ℤ pos 0 *ℤ pos 0 ≡ a *ℤ b = omega (arith, ints) in
      subst (λ (z : ℤ). IsCovered fits z) e (sum_covered a b (pos 0) (pos 0) p q zero_within zero_within)

  pub square_covered : (n : ℤ) → IsWithin (h *ℤ h) n → IsCovered fits n
  square_covered n w = (room.squares n w, room.squares (neg_ℤ n) (omega (arith, ints, w.1), omega (arith, ints, w.0)))

  divisor_fits : (x d : ℤ) → x ≢ pos 0 → IsCovered fits x → pos 0 ≤ℤ d → IsMultipleOf d x → fits d
  divisor_fits x d ne f up m = elim (int_cases x) [
    | inl z ↦ absurd (ne z)
    | inr s ↦ elim s [
      | inl p ↦ room.between (pos 0) d x room.zero_fits f.0 up (divisor_le d x up p m)
      | inr p ↦ (let l = divisor_le d (neg_ℤ x) up (omega (arith, ints, p)) (multiple_neg d x m) in room.between (pos 0) d (neg_ℤ x) room.zero_fits f.1 up l)
    ]
  ]

  fits_or_zeros : (xs : List ℤ) (d : ℤ) → pos 0 ≤ℤ d → Each (IsCovered fits) xs → Each (IsMultipleOf d) xs → fits d ⊎ Each (IsMultipleOf (pos 0)) xs
  fits_or_zeros [] d up f m = inr tt
  fits_or_zeros (x ∷ xs) d up f m = elim (int_cases x) [
    | inr s ↦ inl (divisor_fits x d (not_zero x s) f.0 up m.0)
    | inl z ↦ elim (fits_or_zeros xs d up f.1 m.1) [ inl g ↦ inl g | inr g ↦ inr ((pos 0, z), g) ]
  ]

  -- the gcd of covered numbers is a value
  pub gcd_of_covered : (xs : List ℤ) (d : ℤ) → Each (IsCovered fits) xs → HasGcd xs d → fits d
  gcd_of_covered xs d f g = elim (fits_or_zeros xs d g.nonneg f g.divides) [
    | inl s ↦ s
    | inr s ↦ (let m = g.greatest (pos 0) s in subst fits (sym (m.1 ∙ *ℤ-zero m.0)) room.zero_fits)
  ]
