-- The quotient toward zero, and the greatest integer not above the quotient.
use Rattle.std.proofs.Common.{◌≡◌, ◌≢◌, ◌⊎◌, inl, inr, ℕ, zero, suc, ◌<◌, ◌%◌, ℤ, pos, negsuc, ◌+ℤ◌, ◌-ℤ◌, ◌*ℤ◌, neg_ℤ, ◌≤ℤ◌, refl, sym, ◌∙◌, subst, arith}
use Rattle.std.specs.Prelude.{◌<ℤ◌, int_div, int_rem, unsigned_abs}
use Rattle.std.proofs.lemmas.Int.{ints, quot-rem, rem_below}
use Rattle.std.proofs.Math.IntN.{*ℤ-zero, zero-*ℤ}
use Rattle.nz_spec.proofs.IntLaws.{add-mul, sub-mul, mul-sub, mul-nonneg, none_or_more, int_cases}
use Rattle.std.specs.Prelude.{Option, Some, None, IsSome}
use Rattle.num_traits.specs.Laws.{Checks}
use Rattle.nz_scalar.specs.Division.{IsFloorQuotient, RoundsUp}
use Rattle.nz_scalar.specs.Exact.{GivesSuch}

below_of_mul : (x y b : ℤ) → pos 0 <ℤ b → (x *ℤ b) <ℤ (y *ℤ b) → x <ℤ y
below_of_mul x y b p h = elim (none_or_more (x -ℤ y)) [
  | inl s ↦ (let m = mul-nonneg (x -ℤ y) b s (omega (arith, ints)) in absurd (let f : ⊥ = omega (arith, ints, m, sub-mul x y b, h) in f))
  | inr s ↦ omega (arith, ints, s)
]

below_of_mul_neg : (x y b : ℤ) → b <ℤ pos 0 → (y *ℤ b) <ℤ (x *ℤ b) → x <ℤ y
below_of_mul_neg x y b p h = elim (none_or_more (x -ℤ y)) [
  | inl s ↦ (let m = mul-nonneg (x -ℤ y) (pos 0 -ℤ b) s (omega (arith, ints)) in absurd (let f : ⊥ = omega (arith, ints, m, mul-sub (x -ℤ y) (pos 0) b, *ℤ-zero (x -ℤ y), sub-mul x y b, h) in f))
  | inr s ↦ omega (arith, ints, s)
]

pub sign_of : (b : ℤ) → b ≢ pos 0 → (pos 0 <ℤ b) ⊎ (b <ℤ pos 0)
sign_of (pos zero) h = absurd (h refl)
sign_of (pos (suc n)) h = inl (omega (arith, ints))
sign_of (negsuc n) h = inr (omega (arith, ints))

-- a quotient has one floor
pub floor_unique : (a b p q : ℤ) → b ≢ pos 0 → IsFloorQuotient a b p → IsFloorQuotient a b q → p ≡ q
floor_unique a b p q ne h k = elim (sign_of b ne) [
  | inl up ↦
      let x = below_of_mul p (q +ℤ pos 1) b up (omega (arith, ints, (h.above up).0, (k.above up).1)) in
      let y = below_of_mul q (p +ℤ pos 1) b up (omega (arith, ints, (k.above up).0, (h.above up).1)) in
      omega (arith, ints, x, y)
  | inr down ↦
      let x = below_of_mul_neg p (q +ℤ pos 1) b down (omega (arith, ints, (h.below down).0, (k.below down).1)) in
      let y = below_of_mul_neg q (p +ℤ pos 1) b down (omega (arith, ints, (k.below down).0, (h.below down).1)) in
      omega (arith, ints, x, y)
]

-- r is smaller than b, whatever the signs
bounds_above : (r b : ℤ) → unsigned_abs r < unsigned_abs b → pos 0 <ℤ b → (r <ℤ b) × (neg_ℤ b <ℤ r)
bounds_above (pos m) (pos n) h p = (omega (arith, ints, h), omega (arith, ints, h))
bounds_above (negsuc m) (pos n) h p = (omega (arith, ints, h), omega (arith, ints, h))
bounds_above r (negsuc n) h p = absurd (let f : ⊥ = omega (arith, ints, p) in f)

bounds_below : (r b : ℤ) → unsigned_abs r < unsigned_abs b → b <ℤ pos 0 → (b <ℤ r) × (r <ℤ neg_ℤ b)
bounds_below r (pos n) h p = absurd (let f : ⊥ = omega (arith, ints, p) in f)
bounds_below (pos m) (negsuc n) h p = (omega (arith, ints, h), omega (arith, ints, h))
bounds_below (negsuc m) (negsuc n) h p = (omega (arith, ints, h), omega (arith, ints, h))

pub size_pos : (b : ℤ) → b ≢ pos 0 → 0 < unsigned_abs b
size_pos (pos zero) h = absurd (h refl)
size_pos (pos (suc n)) h = omega arith
size_pos (negsuc n) h = omega arith

-- the remainder has the sign of the number
rem_nonneg : (a d : ℤ) → pos 0 ≤ℤ a → pos 0 ≤ℤ int_rem a d
rem_nonneg (pos n) d h = omega (arith, ints)
rem_nonneg (negsuc n) d h = absurd (let f : ⊥ = omega (arith, ints, h) in f)

neg_nonpos : (n : ℕ) → neg_ℤ (pos n) ≤ℤ pos 0
neg_nonpos n = omega (arith, ints)

rem_nonpos : (a d : ℤ) → a <ℤ pos 0 → int_rem a d ≤ℤ pos 0
rem_nonpos (pos n) d h = absurd (let f : ⊥ = omega (arith, ints, h) in f)
rem_nonpos (negsuc n) d h = neg_nonpos (suc n % unsigned_abs d)

-- whether it is rounded up can be told
rounding : (r b : ℤ) → RoundsUp r b ⊎ (RoundsUp r b → ⊥)
rounding r b = elim (int_cases b) [
  | inl z ↦ inr (λ h. elim h [ inl u ↦ (let p = u.0 in omega (arith, ints, z, p)) | inr u ↦ (let p = u.0 in omega (arith, ints, z, p)) ])
  | inr s ↦ elim s [
    | inl up ↦ elim (none_or_more r) [
      | inl n ↦ inr (λ h. elim h [ inl u ↦ (let p = u.1 in omega (arith, ints, n, p)) | inr u ↦ (let p = u.0 in omega (arith, ints, up, p)) ])
      | inr n ↦ inl (inl (omega (arith, ints, up), omega (arith, ints, n)))
    ]
    | inr down ↦ elim (none_or_more (pos 0 -ℤ r)) [
      | inl n ↦ inr (λ h. elim h [ inl u ↦ (let p = u.0 in omega (arith, ints, down, p)) | inr u ↦ (let p = u.1 in omega (arith, ints, n, p)) ])
      | inr n ↦ inl (inr (omega (arith, ints, down), omega (arith, ints, n)))
    ]
  ]
]

module _ (a b : ℤ) (ne : b ≢ pos 0) where
  sum : int_div a b *ℤ b +ℤ int_rem a b ≡ a
  sum = quot-rem a b

  pub floor_exact : (RoundsUp (int_rem a b) b → ⊥) → IsFloorQuotient a b (int_div a b)
  floor_exact h = record {
    above = λ p.
        let w = bounds_above (int_rem a b) b (rem_below a b (size_pos b ne)) p in
        let up : pos 0 ≤ℤ int_rem a b = elim (none_or_more (int_rem a b)) [ inl s ↦ s | inr s ↦ absurd (h (inl (p, omega (arith, ints, s)))) ] in
        (omega (arith, ints, sum, up), omega (arith, ints, sum, w.0, add-mul (int_div a b) (pos 1) b));
    below = λ p.
        let w = bounds_below (int_rem a b) b (rem_below a b (size_pos b ne)) p in
        let down : int_rem a b ≤ℤ pos 0 = elim (none_or_more (pos 0 -ℤ int_rem a b)) [ inl s ↦ omega (arith, ints, s) | inr s ↦ absurd (h (inr (p, omega (arith, ints, s)))) ] in
        (omega (arith, ints, sum, down), omega (arith, ints, sum, w.0, add-mul (int_div a b) (pos 1) b));
  }

  pub floor_less : RoundsUp (int_rem a b) b → IsFloorQuotient a b (int_div a b -ℤ pos 1)
  floor_less h = record {
    above = λ p.
        let w = bounds_above (int_rem a b) b (rem_below a b (size_pos b ne)) p in
        let down : int_rem a b <ℤ pos 0 = elim h [ inl s ↦ s.1 | inr s ↦ (let q = s.0 in absurd (let f : ⊥ = omega (arith, ints, p, q) in f)) ] in
        (omega (arith, ints, sum, w.1, sub-mul (int_div a b) (pos 1) b), omega (arith, ints, sum, down, add-mul (int_div a b -ℤ pos 1) (pos 1) b, sub-mul (int_div a b) (pos 1) b));
    below = λ p.
        let w = bounds_below (int_rem a b) b (rem_below a b (size_pos b ne)) p in
        let up : pos 0 <ℤ int_rem a b = elim h [ inl s ↦ (let q = s.0 in absurd (let f : ⊥ = omega (arith, ints, p, q) in f)) | inr s ↦ s.1 ] in
        (omega (arith, ints, sum, w.1, sub-mul (int_div a b) (pos 1) b), omega (arith, ints, sum, up, add-mul (int_div a b -ℤ pos 1) (pos 1) b, sub-mul (int_div a b) (pos 1) b));
  }

  -- a quotient that is rounded up is at most 0
  less_is_nonpos : RoundsUp (int_rem a b) b → int_div a b ≤ℤ pos 0
  less_is_nonpos h = elim (none_or_more (pos 0 -ℤ int_div a b)) [
    | inl s ↦ omega (arith, ints, s)
    | inr s ↦ absurd (elim h [
      | inl u ↦ (
          let m = mul-nonneg (int_div a b -ℤ pos 1) b (omega (arith, ints, s)) (let p = u.0 in omega (arith, ints, p)) in
          let w = bounds_above (int_rem a b) b (rem_below a b (size_pos b ne)) u.0 in
          let r = u.1 in
          elim (none_or_more a) [
            | inl n ↦ (let q = rem_nonneg a b n in omega (arith, ints, q, r))
            | inr n ↦ omega (arith, ints, m, n, sum, w.1, sub-mul (int_div a b) (pos 1) b)
          ])
      | inr u ↦ (
          let m = mul-nonneg (int_div a b -ℤ pos 1) (pos 0 -ℤ b) (omega (arith, ints, s)) (let p = u.0 in omega (arith, ints, p)) in
          let w = bounds_below (int_rem a b) b (rem_below a b (size_pos b ne)) u.0 in
          let r = u.1 in
          elim (none_or_more a) [
            | inl n ↦ omega (arith, ints, m, n, sum, w.1, mul-sub (int_div a b -ℤ pos 1) (pos 0) b, *ℤ-zero (int_div a b -ℤ pos 1), sub-mul (int_div a b) (pos 1) b)
            | inr n ↦ (let q = rem_nonpos a b (omega (arith, ints, n)) in omega (arith, ints, q, r))
          ])
    ])
  ]

  -- and by a positive number it is above the number, as its floor is at least that
  less_is_above : pos 0 <ℤ b → RoundsUp (int_rem a b) b → a ≤ℤ (int_div a b -ℤ pos 1)
  less_is_above p h =
      let low = ((floor_less h).above p).1 in
      let q = less_is_nonpos h in
      let m = mul-nonneg (pos 0 -ℤ int_div a b) (b -ℤ pos 1) (omega (arith, ints, q)) (omega (arith, ints, p)) in
      let e : (pos 0 -ℤ int_div a b) *ℤ (b -ℤ pos 1) ≡ int_div a b -ℤ int_div a b *ℤ b = omega (arith, ints, sub-mul (pos 0) (int_div a b) (b -ℤ pos 1), zero-*ℤ (b -ℤ pos 1), mul-sub (int_div a b) b (pos 1)) in
      omega (arith, ints, low, m, e, add-mul (int_div a b -ℤ pos 1) (pos 1) b, sub-mul (int_div a b) (pos 1) b)

  -- where the quotient toward zero is no value of the type, the floor is none
  pub no_floor : (fits : ℤ → Type 0) → ((m n k : ℤ) → fits m → fits k → m ≤ℤ n → n ≤ℤ k → fits n) → fits (pos 0) → (fits (int_div a b) → ⊥) → (z : ℤ) → IsFloorQuotient a b z → fits z → ⊥
  no_floor fits between zero_fits none z is f = elim (rounding (int_rem a b) b) [
    | inr exact ↦ none (subst fits (floor_unique a b z (int_div a b) ne is (floor_exact exact)) f)
    | inl up ↦
        let e = floor_unique a b z (int_div a b -ℤ pos 1) ne is (floor_less up) in
        none (between z (int_div a b) (pos 0) f zero_fits (omega (arith, ints, e)) (less_is_nonpos up))
  ]

  -- by a positive number there is a floor between the number and 0
  pub floor_fits : (fits : ℤ → Type 0) → ((m n k : ℤ) → fits m → fits k → m ≤ℤ n → n ≤ℤ k → fits n) → fits (pos 0) → fits a → pos 0 <ℤ b → RoundsUp (int_rem a b) b → fits (int_div a b -ℤ pos 1)
  floor_fits fits between zero_fits fa p up = between a (int_div a b -ℤ pos 1) (pos 0) fa zero_fits (less_is_above p up) (let h = less_is_nonpos up in omega (arith, ints, h))

-- a checked answer that is the floor
pub such_of_checks : {T : Type 0} (value : T → ℤ) (fits : ℤ → Type 0) (r : Option T) (y z : ℤ) → y ≡ z → Checks value fits y r → (a b : ℤ) → b ≢ pos 0 → IsFloorQuotient a b z → GivesSuch value fits r (IsFloorQuotient a b)
such_of_checks value fits None y z e h a b ne is = λ x k f. h (subst fits (floor_unique a b x z ne k is ∙ sym e) f)
such_of_checks value fits (Some x) y z e h a b ne is = (subst fits (sym h.1) h.0, subst (λ (x : ℤ). IsFloorQuotient a b x) (sym (h.1 ∙ e)) is)

pub some_of_checks : {T : Type 0} (value : T → ℤ) (fits : ℤ → Type 0) (r : Option T) (y z : ℤ) → y ≡ z → Checks value fits y r → fits z → IsSome r
some_of_checks value fits None y z e h f = absurd (h (subst fits (sym e) f))
some_of_checks value fits (Some x) y z e h f = refl

pub pos_of : (z : ℤ) → z ≢ pos 0 → pos 0 ≤ℤ z → pos 0 <ℤ z
pos_of (pos zero) h up = absurd (h refl)
pos_of (pos (suc n)) h up = omega (arith, ints)
pos_of (negsuc n) h up = absurd (let f : ⊥ = omega (arith, ints, up) in f)
