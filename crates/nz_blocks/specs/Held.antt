-- What memory holds: numbers of 128 bits, in lists of less than 2 ^ 64 entries.
use Rattle.std.specs.Prelude.{◌<◌, ◌^◌, ℤ, List, length, Option, IfSome, FitsSigned}
use Rattle.std.specs.Int.{w128}
use Rattle.std.specs.List.{AllByRecursion as Each}
use Rattle.nz_spec.specs.Vectors.{Vector}
use Rattle.nz_spec.specs.Constraints.{Constraint as Condition, Zero, Multiple, NotNegative, form_of}
use Rattle.nz_vec.specs.Conditions.{condition_of}
use Rattle.nz_member.specs.declared.reply.Reply.{Reply}
use Rattle.nz_member.specs.declared.reply.Reply.TheVariants.{Parts, Outside}
use Rattle.nz_blocks.specs.Outcomes.{OutcomeData, Asked}

-- each entry is a number of 128 bits
abbrev pub IsHeldRow : Vector → Type 0
IsHeldRow r = Each (FitsSigned w128) r

-- a list of things that are held
pub record IsHeldList {X : Type 0} (P : X → Type 0) (xs : List X) : Type 0 where
  pub count : length xs < 2 ^ 64
  pub each : Each P xs

abbrev pub AreHeldRows : Option (List Vector) → Type 0
AreHeldRows rows = IfSome rows (IsHeldList IsHeldRow)

abbrev pub HasHeldModulus : Condition → Type 0
HasHeldModulus (Zero f) = Unit {0}
HasHeldModulus (NotNegative f) = Unit {0}
HasHeldModulus (Multiple f m) = FitsSigned w128 m

pub record IsHeldCondition (c : Condition) : Type 0 where
  pub form : IsHeldRow (form_of c)
  pub modulus : HasHeldModulus c

abbrev pub IsHeldReply : Reply ℤ → Type 0
IsHeldReply (Parts place counts) = IsHeldList (FitsSigned w128) counts
IsHeldReply (Outside c) = IsHeldCondition (condition_of (λ z. z) c)

pub record IsHeldAnswer (a : Asked) : Type 0 where
  pub vector : IsHeldRow a.0
  pub reply : IsHeldReply a.1

-- an outcome that a value of the type `Outcome` can be
pub record IsHeld (o : OutcomeData) : Type 0 where
  pub denominator : IfSome o.denominator (FitsSigned w128)
  pub modules : AreHeldRows o.modules
  pub hilbert : AreHeldRows o.hilbert
  pub degree_one : AreHeldRows o.degree_one
  pub vertices : AreHeldRows o.vertices
  pub rays : AreHeldRows o.rays
  pub support : AreHeldRows o.support
  pub equations : AreHeldRows o.equations
  pub generators : AreHeldRows o.generators
  pub simplices : IfSome o.simplices (IsHeldList (λ places. Unit {0}))
  pub asked : IfSome o.asked (IsHeldList IsHeldAnswer)
