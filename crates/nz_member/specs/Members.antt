-- What is answered of a vector, in the words of a system that the constraints describe.
use Rattle.std.specs.Prelude.{◌≡◌, ◌↔◌, false, IsTrue, ℕ, List, length, pos, Option, Some, None}
use Rattle.nz_spec.specs.Vectors.{Vector, HasWidth, level_of}
use Rattle.nz_spec.specs.Systems.{System, IsSystem, IsMember}
use Rattle.nz_spec.specs.Monoids.{IsPositive}
use Rattle.nz_spec.specs.Elements.{IsHilbertBasis, AreModuleGenerators}
use Rattle.nz_spec.specs.Constraints.{Constraint}
use Rattle.nz_spec.specs.Parts.{HasParts}
use Rattle.nz_member.specs.Replies.{IsInMonoid, AreElementLists}

-- the constraints hold just at the members of the system
abbrev pub DescribeMembers : System → List Constraint → Type 0
DescribeMembers s cs = (x : Vector) → IsInMonoid s.width cs x ↔ IsMember s x

-- then without a level its Hilbert basis is the element list
abbrev pub BasisIsElementList : Type 0
BasisIsElementList = (s : System) → s.level ≡ false → (cs : List Constraint) → DescribeMembers s cs → IsPositive (IsMember s) → (hilbert : List Vector) → IsHilbertBasis s hilbert → (x : Vector) → HasWidth s.width x → AreElementLists cs x hilbert None

-- with one, its Hilbert basis and its module generators are the element lists
abbrev pub ModulesAreElementLists : Type 0
ModulesAreElementLists = (s : System) → IsSystem s → IsTrue s.level → (cs : List Constraint) → DescribeMembers s cs → IsPositive (IsMember s) → (hilbert modules : List Vector) → IsHilbertBasis s hilbert → AreModuleGenerators s modules → (x : Vector) → HasWidth s.width x → level_of x ≡ pos 1 → AreElementLists cs x hilbert (Some modules)

-- and parts of what the constraints hold at are parts of a member
abbrev pub PartsAreOfMembers : Type 0
PartsAreOfMembers = (s : System) (cs : List Constraint) → DescribeMembers s cs → (x : Vector) → HasWidth s.width x → (hilbert : List Vector) (modules : Option (List Vector)) (times : List ℕ) (place : Option ℕ) → HasParts (IsInMonoid (length x) cs) hilbert modules x times place → HasParts (IsMember s) hilbert modules x times place
