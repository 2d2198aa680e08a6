-- What is read of a text.
use Rattle.std.specs.Prelude.{◌≡◌, ℕ, ◌+◌, ◌<◌, ◌^◌, ℤ, pos, neg_ℤ, ◌≤ℤ◌, Bool, true, false, ◌∷◌, ◌++◌, length, IfSome, FitsSigned}
use Rattle.std.specs.Int.{w128}
use Rattle.std.specs.List.{AllByRecursion as Each}
use Rattle.nz_vec.specs.Texts.{Text}
use Rattle.nz_blocks.specs.Beginnings.{First, IsDigit, value}
use Rattle.nz_spec.specs.Vectors.{Vector, dot}
use Rattle.nz_spec.specs.Constraints.{Constraint as Condition, Zero, Multiple, NotNegative, form_of}
use Rattle.nz_vec.specs.Conditions.{condition_of}
use Rattle.nz_member.specs.declared.reply.Reply.{Reply}
use Rattle.nz_member.specs.declared.reply.Reply.TheVariants.{Parts, Outside}
use Rattle.nz_blocks.specs.Held.{IsHeldAnswer}
use Rattle.nz_blocks.specs.Outcomes.{Asked, at_level}
use Rattle.nz_blocks.specs.Lines.{line}
use Rattle.nz_blocks.specs.Output.{level_word}

-- a number by its sign and size
abbrev pub signed_by : Bool → ℕ → ℤ
signed_by true size = neg_ℤ (pos size)
signed_by false size = pos size

-- the end of the first line, and the second
abbrev pub level_line : Bool → Text
level_line level = 10 ∷ line (level_word level)

-- the text begins with this place of the Hilbert basis
pub record IsNamed (place : ℕ) (text : Text) : Type 0 where
  pub named : Text
  pub rest : Text
  pub are : Each IsDigit named
  pub worth : value 0 named ≡ place
  pub bare : ¬ First IsDigit rest
  pub is : text ≡ 42 ∷ 104 ∷ (named ++ rest)

-- the text begins with a word that tells how often the element at this place of the Hilbert basis is taken
pub record NamesPlace (place : ℕ) (text : Text) : Type 0 where
  pub count : Text
  pub rest : Text
  pub are : Each IsDigit count
  pub is : text ≡ 32 ∷ (count ++ rest)
  pub place_is : IsNamed place rest

-- the form of the constraint is to be 0, or a multiple of a modulus
abbrev pub IsEqual : Condition → Type 0
IsEqual (Zero f) = Unit {0}
IsEqual (Multiple f m) = Unit {0}
IsEqual (NotNegative f) = ⊥

-- so many counts, none below 0, or a form whose value at x is a number of 128 bits
abbrev pub IsShown : ℕ → Vector → Reply ℤ → Type 0
IsShown n x (Parts place counts) = (length counts ≡ n) × Each (λ c. pos 0 ≤ℤ c) counts × IfSome place (λ p. p + 1 < 2 ^ 64)
IsShown n x (Outside c) = FitsSigned w128 (dot (form_of (condition_of (λ z. z) c)) x)

-- an asked vector whose line is read, where the Hilbert basis has n elements
pub record IsReadable (n : ℕ) (level : Bool) (a : Asked) : Type 0 where
  pub held : IsHeldAnswer a
  pub shown : IsShown n (at_level level a.0) a.1
