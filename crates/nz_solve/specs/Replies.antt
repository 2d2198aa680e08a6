-- What is answered of asked vectors, in the words of a system.
use Rattle.std.specs.Prelude.{◌≡◌, ℕ, Bool, true, false, List, map, ℤ, pos, Option, Some, None}
use Rattle.std.specs.List.{AllZip}
use Rattle.nz_spec.specs.Vectors.{Vector}
use Rattle.nz_spec.specs.Systems.{System, IsMember, asked_member}
use Rattle.nz_spec.specs.Elements.{IsHilbertBasis, AreModuleGenerators}
use Rattle.nz_spec.specs.Parts.{HasParts}
use Rattle.nz_vec.specs.Conditions.{condition_of}
use Rattle.nz_member.specs.declared.reply.Reply.{Reply}
use Rattle.nz_member.specs.declared.reply.Reply.TheVariants.{Parts, Outside}
use Rattle.nz_blocks.specs.Outcomes.{Asked}
use Rattle.nz_frame.specs.Constraining.{IsOutside}

-- where it is wanted there is a value, which has P, and else there is none
abbrev pub IsWhere : {A : Type 0} → Bool → (A → Type 0) → Option A → Type 0
IsWhere true P (Some x) = P x
IsWhere true P None = ⊥
IsWhere false P o = o ≡ None

-- the same of two values that go together
abbrev pub AreWhere : {A B : Type 0} → Bool → (A → B → Type 0) → Option A → Option B → Type 0
AreWhere true P (Some x) (Some y) = P x y
AreWhere true P (Some x) None = ⊥
AreWhere true P None o = ⊥
AreWhere false P o p = (o ≡ None) × (p ≡ None)

-- a member, and its parts over the Hilbert basis, with the module generator that is left
pub record IsMemberOfParts (s : System) (hilbert : List Vector) (modules : Option (List Vector)) (x : Vector) (place : Option ℕ) (counts : List ℤ) : Type 0 where
  pub member : IsMember s x
  pub times : List ℕ
  pub counted : counts ≡ map pos times
  pub parts : HasParts (IsMember s) hilbert modules x times place

-- the parts of a member, or the first constraint of the system that fails
abbrev pub IsReplyOf : {T : Type 0} → (T → ℤ) → System → List Vector → Option (List Vector) → Vector → Reply T → Type 0
IsReplyOf integer s hilbert modules x (Parts place counts) = IsMemberOfParts s hilbert modules x place counts
IsReplyOf integer s hilbert modules x (Outside c) = IsOutside s x (condition_of integer c)

-- the asked vectors in their order, each with its reply; with a level they are taken with level 1
pub record AreReplies (s : System) (xs : List Vector) (answers : List Asked) : Type 0 where
  pub hilbert : List Vector
  pub basis : IsHilbertBasis s hilbert
  pub modules : Option (List Vector)
  pub are_modules : IsWhere s.level (AreModuleGenerators s) modules
  pub each : AllZip (λ (x : Vector) (a : Asked). (a.0 ≡ x) × IsReplyOf (λ z. z) s hilbert modules (asked_member s x) a.1) xs answers

-- where vectors are asked there are their replies, and else none
abbrev pub AreAnswered : System → Option (List Vector) → Option (List Asked) → Type 0
AreAnswered s None o = o ≡ None
AreAnswered s (Some xs) None = ⊥
AreAnswered s (Some xs) (Some answers) = AreReplies s xs answers
