-- Constraints at vectors, and values that a type does not have.
use Rattle.std.specs.Prelude.{ℤ, pos, ◌≤ℤ◌, ◌≡◌, ℕ, List, length, ⊤, Contains}
use Rattle.nz_spec.specs.Vectors.{Vector}
use Rattle.std.specs.List.{AllByRecursion as Each}
use Rattle.nz_spec.specs.Constraints.{Constraint, Zero, Multiple, NotNegative, MeetsAll, form_of}
use Rattle.nz_vec.specs.Sums.{SumsFit}

-- a modulus is at least 1
abbrev pub HasModulus : Constraint → Type 0
HasModulus (Zero f) = ⊤
HasModulus (Multiple f m) = pos 1 ≤ℤ m
HasModulus (NotNegative f) = ⊤

-- a constraint on vectors of w entries
pub record IsOfWidth (w : ℕ) (c : Constraint) : Type 0 where
  pub width : length (form_of c) ≡ w
  pub modulus : HasModulus c

-- the constraints are on vectors of as many entries as x has
abbrev pub IsFitFor : List Constraint → Vector → Type 0
IsFitFor cs x = Each (IsOfWidth (length x)) cs

-- and all hold at x
pub record IsElementOf (cs : List Constraint) (x : Vector) : Type 0 where
  pub fit : IsFitFor cs x
  pub met : MeetsAll cs x

-- for some constraint a product, or a sum from the left, of its form at x is no value of the type
pub record LacksValue (fits : ℤ → Type 0) (constraints : List Constraint) (x : Vector) : Type 0 where
  pub constraint : Constraint
  pub listed : Contains constraints constraint
  pub lacks : ¬ SumsFit fits (pos 0) (form_of constraint) x
