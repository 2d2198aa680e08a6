-- How texts begin.
use Rattle.std.specs.Prelude.{◌≡◌, ℕ, ◌+◌, ◌-◌, ◌*◌, ◌^◌, ◌≤◌, drop, ◌⊎◌, [], ◌∷◌, ◌++◌, ◌==◌, if◌then◌else◌}
use Rattle.std.specs.List.{AllByRecursion as Each}
use Rattle.nz_vec.specs.Texts.{Text}

-- there is a first byte, and it is such
abbrev pub First : (ℕ → Type 0) → Text → Type 0
First P [] = ⊥
First P (b ∷ text) = P b

abbrev pub IsDigit : ℕ → Type 0
IsDigit b = (48 ≤ b) × (b ≤ 57)

-- a digit or a minus
abbrev pub IsOpening : ℕ → Type 0
IsOpening b = IsDigit b ⊎ (b ≡ 45)

-- behind any spaces a digit or a minus stands
abbrev pub LeadsNumber : Text → Type 0
LeadsNumber [] = ⊥
LeadsNumber (b ∷ text) = IsDigit b ⊎ ((b ≡ 45) ⊎ ((b ≡ 32) × LeadsNumber text))

-- the number that digits write behind those of `high`
abbrev pub value : ℕ → Text → ℕ
value high [] = high
value high (b ∷ ds) = value (high * 10 + (b - 48)) ds

-- from one place of a text to another all digits stand, and no further one; they write this number
pub record IsRun (text : Text) (from to number : ℕ) : Type 0 where
  pub digits : Text
  pub are : Each IsDigit digits
  pub split : drop from text ≡ digits ++ drop to text
  pub stop : ¬ First IsDigit (drop to text)
  pub worth : value 0 digits ≡ number

-- the text begins with digits that write a number of more than 128 bits
pub record IsLarge (text : Text) : Type 0 where
  pub digits : Text
  pub rest : Text
  pub are : Each IsDigit digits
  pub split : text ≡ digits ++ rest
  pub large : 2 ^ 128 ≤ value 0 digits

-- a text without the spaces in front
abbrev pub unspaced : Text → Text
unspaced [] = []
unspaced (b ∷ text) = if b == 32 then unspaced text else b ∷ text

-- a heading begins with a space, behind the number of rows
abbrev pub IsHeading : Text → Type 0
IsHeading heading = First (λ b. b ≡ 32) heading

-- an empty line, and a line of digits and this heading
pub record BeginsBlock (heading text : Text) : Type 0 where
  pub digits : Text
  pub rest : Text
  pub are : Each IsDigit digits
  pub is : text ≡ 10 ∷ (digits ++ (heading ++ 10 ∷ rest))
