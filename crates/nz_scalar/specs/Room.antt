-- How large numbers may be so that what is made of them is a value.
use Rattle.std.specs.Prelude.{ℤ, pos, ◌+ℤ◌, ◌*ℤ◌, neg_ℤ, ◌≤ℤ◌, ◌^◌}

-- n is at most h in absolute value
abbrev pub IsWithin : ℤ → ℤ → Type 0
IsWithin h n = (neg_ℤ h ≤ℤ n) × (n ≤ℤ h)

-- the type has the sums of two products of numbers within h and all integers within h * h; its integers have no gap
pub record HasRoom (h : ℤ) (fits : ℤ → Type 0) : Type 0 where
  pub at_least : pos 1 ≤ℤ h
  pub at_most : h ≤ℤ pos (2 ^ 62)
  pub products : (a b c d : ℤ) → IsWithin h a → IsWithin h b → IsWithin h c → IsWithin h d → fits (a *ℤ b +ℤ c *ℤ d)
  pub squares : (n : ℤ) → IsWithin (h *ℤ h) n → fits n
  pub between : (m n k : ℤ) → fits m → fits k → m ≤ℤ n → n ≤ℤ k → fits n
  pub zero_fits : fits (pos 0)
