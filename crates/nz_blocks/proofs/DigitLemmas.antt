-- How many digits a number has.
use Rattle.std.proofs.Common.{◌≡◌, ℕ, ◌+◌, ◌/◌, ◌<◌, ◌≤◌, ◌^◌, length, arith}
use Rattle.std.specs.Fmt.{decimal}
use Rattle.itoa.proofs.Decimal.{length_one, length_step_wide, length_wide}

-- one digit less
pub step_narrow : (number rest digits : ℕ) → 10 ≤ rest → rest < 2 ^ 64 → length (decimal number) + 1 ≡ digits + length (decimal rest) → length (decimal number) + 1 ≡ (digits + 1) + length (decimal (rest / 10))
step_narrow number rest digits l b e = (let s = length_step_wide rest l (omega arith) in omega (arith, s, e))

pub step_wide : (number rest digits : ℕ) → 10 ≤ rest → rest < 2 ^ 128 → length (decimal number) ≡ digits + length (decimal rest) → length (decimal number) ≡ (digits + 1) + length (decimal (rest / 10))
step_wide number rest digits l b e = (let s = length_step_wide rest l b in omega (arith, s, e))

pub end_narrow : (number rest digits : ℕ) → rest < 10 → length (decimal number) + 1 ≡ digits + length (decimal rest) → digits ≡ length (decimal number)
end_narrow number rest digits l e = (let s = length_one rest l in omega (arith, s, e))

pub few_narrow : (number rest digits : ℕ) → number < 2 ^ 64 → length (decimal number) + 1 ≡ digits + length (decimal rest) → digits + 1 < 2 ^ 64
few_narrow number rest digits b e = (let s = length_wide number (omega arith) in omega (arith, s, e))

pub few_wide : (number digits more : ℕ) → number < 2 ^ 128 → length (decimal number) ≡ digits + more → digits + 1 < 2 ^ 64
few_wide number digits more b e = (let s = length_wide number b in omega (arith, s, e))

pub few_all : (number digits more : ℕ) → number < 2 ^ 128 → length (decimal number) ≡ digits + more → digits + more < 2 ^ 64
few_all number digits more b e = (let s = length_wide number b in omega (arith, s, e))
