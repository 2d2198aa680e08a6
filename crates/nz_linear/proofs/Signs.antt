-- The order of ℤ and products.
use Rattle.std.proofs.Common.{◌≡◌, ◌≢◌, ◌⊎◌, inl, inr, zero, suc, ℤ, pos, negsuc, ◌-ℤ◌, ◌*ℤ◌, ◌≤ℤ◌, ◌<ℤ◌, refl, sym, ◌∙◌, arith}
use Rattle.std.proofs.lemmas.Int.{ints, by_lt_z}
use Rattle.std.proofs.Math.IntN.{*ℤ-zero}
use Rattle.nz_spec.proofs.IntLaws.{mul-sub, mul-nonneg}
use Rattle.nz_linear.proofs.Ring.{sums}

-- the three cases of a sign
pub sign_cases : (a : ℤ) → (a ≡ pos 0) ⊎ ((pos 0 <ℤ a) ⊎ (a <ℤ pos 0))
sign_cases (pos zero) = inl refl
sign_cases (pos (suc n)) = inr (inl (omega (arith, sums)))
sign_cases (negsuc n) = inr (inr (omega (arith, sums)))

pub mul_pos : (a b : ℤ) → pos 0 <ℤ a → pos 0 <ℤ b → pos 0 <ℤ (a *ℤ b)
mul_pos (pos zero) b h k = absurd (omega (arith, sums))
mul_pos (pos (suc m)) (pos zero) h k = absurd (omega (arith, sums))
mul_pos (pos (suc m)) (pos (suc n)) h k = omega (arith, ints)
mul_pos (pos (suc m)) (negsuc n) h k = absurd (omega (arith, sums))
mul_pos (negsuc m) b h k = absurd (omega (arith, sums))

pub mul_le : (a b c : ℤ) → pos 0 ≤ℤ a → b ≤ℤ c → (a *ℤ b) ≤ℤ (a *ℤ c)
mul_le a b c h k = let d : pos 0 ≤ℤ (c -ℤ b) = omega (arith, sums) in omega (arith, sums, mul-sub a c b, mul-nonneg a (c -ℤ b) h d)

pub mul_lt : (a b c : ℤ) → pos 0 <ℤ a → b <ℤ c → (a *ℤ b) <ℤ (a *ℤ c)
mul_lt a b c h k = let d : pos 0 <ℤ (c -ℤ b) = omega (arith, sums) in omega (arith, sums, mul-sub a c b, mul_pos a (c -ℤ b) h d)

pub cancel_le : (a b c : ℤ) → pos 0 <ℤ a → (a *ℤ b) ≤ℤ (a *ℤ c) → b ≤ℤ c
cancel_le a b c h k = by_lt_z c b (λ (l : c <ℤ b). absurd (omega (arith, sums, mul_lt a c b h l))) (λ (l : b ≤ℤ c). l)

pub cancel_lt : (a b c : ℤ) → pos 0 <ℤ a → (a *ℤ b) <ℤ (a *ℤ c) → b <ℤ c
cancel_lt a b c h k = by_lt_z b c (λ (l : b <ℤ c). l) (λ (l : c ≤ℤ b). let p : pos 0 ≤ℤ a = omega (arith, sums) in absurd (omega (arith, sums, mul_le a c b p l)))

pub cancel_mul : (a b c : ℤ) → pos 0 <ℤ a → a *ℤ b ≡ a *ℤ c → b ≡ c
cancel_mul a b c h e = let p : (a *ℤ b) ≤ℤ (a *ℤ c) = omega (arith, sums) in let q : (a *ℤ c) ≤ℤ (a *ℤ b) = omega (arith, sums) in omega (arith, sums, cancel_le a b c h p, cancel_le a c b h q)

pub mul_is_zero : (a b : ℤ) → pos 0 <ℤ a → a *ℤ b ≡ pos 0 → b ≡ pos 0
mul_is_zero a b h e = cancel_mul a b (pos 0) h (e ∙ sym (*ℤ-zero a))

pub mul_is_pos : (a b : ℤ) → pos 0 <ℤ a → pos 0 <ℤ (a *ℤ b) → pos 0 <ℤ b
mul_is_pos a b h k = cancel_lt a (pos 0) b h (omega (arith, sums, *ℤ-zero a))

pub mul_is_nonneg : (a b : ℤ) → pos 0 <ℤ a → pos 0 ≤ℤ (a *ℤ b) → pos 0 ≤ℤ b
mul_is_nonneg a b h k = cancel_le a (pos 0) b h (omega (arith, sums, *ℤ-zero a))

-- the absolute value of a nonzero integer, by its sign
pub record Signed (a : ℤ) : Type 0 where
  pub sign : ℤ
  pub unit : sign *ℤ sign ≡ pos 1
  pub positive : pos 0 <ℤ (sign *ℤ a)

pub signed : (a : ℤ) → a ≢ pos 0 → Signed a
signed (pos zero) n = absurd (n refl)
signed (pos (suc m)) n = record { sign = pos 1; unit = refl; positive = omega (arith, ints) }
signed (negsuc m) n = record { sign = negsuc 0; unit = refl; positive = omega (arith, ints) }
