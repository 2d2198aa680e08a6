-- Common divisors.
use Rattle.std.proofs.Common.{◌≡◌, ◌≢◌, inl, inr, ℕ, zero, suc, ◌≤◌, ◌^◌, List, [], ◌∷◌, ℤ, pos, negsuc, ◌+ℤ◌, ◌-ℤ◌, ◌*ℤ◌, neg_ℤ, ◌≤ℤ◌, refl, sym, ap, ◌∙◌, subst, arith}
use Rattle.std.specs.Prelude.{int_div, int_rem, unsigned_abs, FitsSigned, Option, Result, Ok, Err, IsSome, is_some}
use Rattle.std.specs.Int.{Width}
use Rattle.std.specs.Result.{OkIff, result_ok}
use Rattle.std.proofs.lemmas.Bool.{cases_lt}
use mir.Val.{hbits}
use Rattle.std.proofs.lemmas.Int.{ints, quot-rem}
use Rattle.std.proofs.Math.IntN.{*ℤ-zero, zero-*ℤ}
use Rattle.nz_spec.specs.Vectors.{IsMultipleOf}
use Rattle.nz_spec.proofs.IntLaws.{sub-mul, mul-nonneg, none_or_more, multiple_zero, multiple_add, multiple_sub, multiple_mul}
use Rattle.nz_scalar.specs.Division.{HasGcd}
use Rattle.nz_scalar.specs.Exact.{GivesSuch}

pub multiple_self : (m : ℤ) → IsMultipleOf m m
multiple_self m = (pos 1, omega (arith, ints))

-- the common divisors of a and b are those of x and y
pub record SameDivisors (a b x y : ℤ) : Type 0 where
  pub forward : (k : ℤ) → IsMultipleOf k a → IsMultipleOf k b → IsMultipleOf k x × IsMultipleOf k y
  pub backward : (k : ℤ) → IsMultipleOf k x → IsMultipleOf k y → IsMultipleOf k a × IsMultipleOf k b

pub divisors_start : (a b : ℤ) → SameDivisors a b a b
divisors_start a b = record { forward = λ k p q. (p, q); backward = λ k p q. (p, q) }

-- a step of Euclid
pub divisors_step : (a b x y r : ℤ) → r ≡ int_rem x y → SameDivisors a b x y → SameDivisors a b y r
divisors_step a b x y r e h =
    let s = quot-rem x y in
    record {
      forward = λ k p q.
          let d = h.forward k p q in
          let m = multiple_sub k x (int_div x y *ℤ y) d.0 (multiple_mul k (int_div x y) y d.1) in
          let f : x -ℤ int_div x y *ℤ y ≡ r = omega (arith, ints, s, e) in
          (d.1, subst (λ (z : ℤ). IsMultipleOf k z) f m);
      backward = λ k p q.
          let m = multiple_add k (int_div x y *ℤ y) r (multiple_mul k (int_div x y) y p) q in
          let f : int_div x y *ℤ y +ℤ r ≡ x = omega (arith, ints, s, e) in
          h.backward k (subst (λ (z : ℤ). IsMultipleOf k z) f m) p;
    }

-- where y has come down to 0, x is the gcd
pub divisors_end : (a b x y : ℤ) → y ≡ pos 0 → pos 0 ≤ℤ x → SameDivisors a b x y → HasGcd (a ∷ b ∷ []) x
divisors_end a b x y e up h =
    let d = h.backward x (multiple_self x) (subst (λ (z : ℤ). IsMultipleOf x z) (sym e) (multiple_zero x)) in
    record {
      nonneg = up;
      divides = (d.0, (d.1, tt));
      greatest = λ k p. (h.forward k p.0 p.1.0).0;
    }

neg_is : (z : ℤ) → pos 0 -ℤ z ≡ neg_ℤ z
neg_is z = omega (arith, ints)

pub multiple_neg : (k z : ℤ) → IsMultipleOf k z → IsMultipleOf k (neg_ℤ z)
multiple_neg k z h = (neg_ℤ h.0, omega (arith, ints, h.1, sub-mul (pos 0) h.0 k, zero-*ℤ k, ap (λ t. t *ℤ k) (neg_is h.0)))

-- a divisor is no larger
pub divisor_le : (d e : ℤ) → pos 0 ≤ℤ d → pos 1 ≤ℤ e → IsMultipleOf d e → d ≤ℤ e
divisor_le d e up low h = elim (none_or_more (h.0 -ℤ pos 1)) [
  | inl s ↦ (let m = mul-nonneg (h.0 -ℤ pos 1) d s up in omega (arith, ints, m, h.1, sub-mul h.0 (pos 1) d))
  | inr s ↦ (let m = mul-nonneg (pos 0 -ℤ h.0) d (omega (arith, ints, s)) up in absurd (let f : ⊥ = omega (arith, ints, m, h.1, low, sub-mul (pos 0) h.0 d, zero-*ℤ d) in f))
]

divisor_same : (d e : ℤ) → pos 0 ≤ℤ d → pos 0 ≤ℤ e → IsMultipleOf d e → IsMultipleOf e d → d ≡ e
divisor_same (pos zero) e p q h k = sym (h.1 ∙ *ℤ-zero h.0)
divisor_same d (pos zero) p q h k = k.1 ∙ *ℤ-zero k.0
divisor_same (pos (suc m)) (pos (suc n)) p q h k =
    let x = divisor_le (pos (suc m)) (pos (suc n)) p (omega (arith, ints)) h in
    let y = divisor_le (pos (suc n)) (pos (suc m)) q (omega (arith, ints)) k in
    omega (arith, ints, x, y)
divisor_same (negsuc m) e p q h k = absurd (let f : ⊥ = omega (arith, ints, p) in f)
divisor_same d (negsuc n) p q h k = absurd (let f : ⊥ = omega (arith, ints, q) in f)

-- there is one gcd
pub gcd_unique : (xs : List ℤ) (d e : ℤ) → HasGcd xs d → HasGcd xs e → d ≡ e
gcd_unique xs d e h k = divisor_same d e h.nonneg k.nonneg (k.greatest d h.divides) (h.greatest e k.divides)

of_abs : (k a : ℤ) → IsMultipleOf k (pos (unsigned_abs a)) → IsMultipleOf k a
of_abs k (pos n) h = h
of_abs k (negsuc n) h = multiple_neg k (pos (suc n)) h

to_abs : (k a : ℤ) → IsMultipleOf k a → IsMultipleOf k (pos (unsigned_abs a))
to_abs k (pos n) h = h
to_abs k (negsuc n) h = multiple_neg k (negsuc n) h

-- the gcd of two numbers is that of their absolute values
pub gcd_of_sizes : (a b : ℤ) (m n : ℕ) (d : ℤ) → m ≡ unsigned_abs a → n ≡ unsigned_abs b → HasGcd (pos m ∷ pos n ∷ []) d → HasGcd (a ∷ b ∷ []) d
gcd_of_sizes a b m n d e f h =
    let from : (k c : ℤ) (l : ℕ) → l ≡ unsigned_abs c → IsMultipleOf k (pos l) → IsMultipleOf k c = λ k c l g p. of_abs k c (subst (λ (i : ℕ). IsMultipleOf k (pos i)) g p) in
    let to : (k c : ℤ) (l : ℕ) → l ≡ unsigned_abs c → IsMultipleOf k c → IsMultipleOf k (pos l) = λ k c l g p. subst (λ (i : ℕ). IsMultipleOf k (pos i)) (sym g) (to_abs k c p) in
    record {
      nonneg = h.nonneg;
      divides = (from d a m e h.divides.0, (from d b n f h.divides.1.0, tt));
      greatest = λ k p. h.greatest k (to k a m e p.0, (to k b n f p.1.0, tt));
    }

size_le : (w : Width) (a : ℤ) (d : ℕ) → FitsSigned w a → a ≢ pos 0 → IsMultipleOf (pos d) a → d ≤ 2 ^ hbits w
size_le w (pos zero) d f ne h = absurd (ne refl)
size_le w (pos (suc n)) d f ne h = let l = divisor_le (pos d) (pos (suc n)) (omega (arith, ints)) (omega (arith, ints)) h in let s = f.sfits in omega (arith, ints, l, s)
size_le w (negsuc n) d f ne h = let l = divisor_le (pos d) (pos (suc n)) (omega (arith, ints)) (omega (arith, ints)) (to_abs (pos d) (negsuc n) h) in let s = f.sfits in omega (arith, ints, l, s)

-- only the least value of the type has a divisor as large as the width
least_of : (w : Width) (a : ℤ) (d : ℕ) → FitsSigned w a → a ≢ pos 0 → IsMultipleOf (pos d) a → 2 ^ hbits w ≤ d → a ≡ neg_ℤ (pos (2 ^ hbits w))
least_of w (pos zero) d f ne h k = absurd (ne refl)
least_of w (pos (suc n)) d f ne h k = let l = divisor_le (pos d) (pos (suc n)) (omega (arith, ints)) (omega (arith, ints)) h in let s = f.sfits in absurd (let f : ⊥ = omega (arith, ints, l, s, k) in f)
least_of w (negsuc n) d f ne h k = let l = divisor_le (pos d) (pos (suc n)) (omega (arith, ints)) (omega (arith, ints)) (to_abs (pos d) (negsuc n) h) in let s = f.sfits in omega (arith, ints, l, s, k)

-- two different numbers other than 0 have a gcd in the type
pub gcd_fits : (w : Width) (a b : ℤ) (d : ℕ) → FitsSigned w a → FitsSigned w b → HasGcd (a ∷ b ∷ []) (pos d) → a ≢ pos 0 → b ≢ pos 0 → a ≢ b → FitsSigned w (pos d)
gcd_fits w a b d fa fb h na nb ne = elim (cases_lt d (2 ^ hbits w)) [
  | inl s ↦ record { sfits = s }
  | inr s ↦ absurd (ne (least_of w a d fa na h.divides.0 s ∙ sym (least_of w b d fb nb h.divides.1.0 s)))
]

-- the answer of a conversion, where it is asked for the gcd
pub such_of_result : {E : Type 0} (fits : ℤ → Type 0) (o : Option ℤ) (r : Result ℤ E) (xs : List ℤ) (d : ℤ) → o ≡ result_ok r → OkIff r (fits d) d → HasGcd xs d → GivesSuch (λ n. n) fits o (HasGcd xs)
such_of_result fits o (Ok x) xs d e h is = subst (λ p. GivesSuch (λ n. n) fits p (HasGcd xs)) (sym e) (subst fits (sym h.1) h.0, subst (λ z. HasGcd xs z) (sym h.1) is)
such_of_result fits o (Err x) xs d e h is = subst (λ p. GivesSuch (λ n. n) fits p (HasGcd xs)) (sym e) (λ z k f. h (subst fits (gcd_unique xs z d k is) f))

pub some_of_result : {E : Type 0} (fits : ℤ → Type 0) (o : Option ℤ) (r : Result ℤ E) (d : ℤ) → o ≡ result_ok r → OkIff r (fits d) d → fits d → IsSome o
some_of_result fits o (Ok x) d e h f = ap is_some e
some_of_result fits o (Err x) d e h f = absurd (h f)
