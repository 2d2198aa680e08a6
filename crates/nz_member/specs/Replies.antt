-- What is answered of a vector: the first constraint that it breaks, or its parts.
use Rattle.std.specs.Prelude.{◌≡◌, ◌<◌, ◌⊎◌, ⊤, ℕ, List, length, map, ℤ, pos, ◌≤ℤ◌, Option, Some, None, MatchOption, Contains, get_or}
use Rattle.std.specs.List.{AllByRecursion as Each}
use Rattle.nz_spec.specs.Vectors.{Vector, HasWidth, level_of}
use Rattle.nz_spec.specs.Monoids.{IsPositive, IsIrreducible, IsModuleGenerator}
use Rattle.nz_spec.specs.Constraints.{Constraint, MeetsAll, IsFirstBroken, form_of}
use Rattle.nz_spec.specs.Parts.{HasParts}
use Rattle.nz_vec.specs.Conditions.{condition_of}
use Rattle.nz_vec.specs.Sums.{SumsFit}
use Rattle.nz_member.specs.Values.{LacksValue}
use Rattle.nz_member.specs.declared.reply.Reply.{Reply}
use Rattle.nz_member.specs.declared.reply.Reply.TheVariants.{Parts, Outside}

-- where nothing is found each constraint holds at x, and else the one at the place found is the first that fails
abbrev pub FindsBroken : List Constraint → Vector → Option ℕ → Type 0
FindsBroken cs x None = MeetsAll cs x
FindsBroken cs x (Some place) = (place < length cs) × ((c : Constraint) → c ≡ get_or cs place c → IsFirstBroken cs x c)

-- where one is found, its form has a value in the type at x: each product, and each sum of the first products, is one
abbrev pub HasValueThere : (ℤ → Type 0) → List Constraint → Vector → Option ℕ → Type 0
HasValueThere fits cs x None = ⊤
HasValueThere fits cs x (Some place) = (c : Constraint) → c ≡ get_or cs place c → SumsFit fits (pos 0) (form_of c) x

-- a vector of the monoid of the constraints
pub record IsInMonoid (w : ℕ) (cs : List Constraint) (x : Vector) : Type 0 where
  pub width : HasWidth w x
  pub met : MeetsAll cs x

-- the list has all that have P, and nothing else
pub record HasJust (P : Vector → Type 0) (xs : List Vector) : Type 0 where
  pub only : Each P xs
  pub each : (x : Vector) → P x → Contains xs x

-- what parts are taken of: an irreducible, and of level 0 where there are module generators
abbrev pub IsTaken : ℕ → List Constraint → Option (List Vector) → Vector → Type 0
IsTaken w cs None e = IsIrreducible (IsInMonoid w cs) e
IsTaken w cs (Some modules) e = IsIrreducible (IsInMonoid w cs) e × (level_of e ≡ pos 0)

-- no member has a negative level
abbrev pub HasLevels : ℕ → List Constraint → Type 0
HasLevels w cs = (y : Vector) → IsInMonoid w cs y → pos 0 ≤ℤ level_of y

-- where modules are given they are the module generators, no member has a negative level, and that of x is 1
abbrev pub AreModules : List Constraint → Vector → Option (List Vector) → Type 0
AreModules cs x None = ⊤
AreModules cs x (Some modules) = HasJust (IsModuleGenerator (IsInMonoid (length x) cs)) modules × HasLevels (length x) cs × (level_of x ≡ pos 1)

-- the monoid of the constraints is positive, and these are its element lists
pub record AreElementLists (cs : List Constraint) (x : Vector) (hilbert : List Vector) (modules : Option (List Vector)) : Type 0 where
  pub positive : IsPositive (IsInMonoid (length x) cs)
  pub elements : HasJust (IsTaken (length x) cs modules) hilbert
  pub generators : AreModules cs x modules

-- x has these parts
pub record HasCounts (cs : List Constraint) (x : Vector) (hilbert : List Vector) (modules : Option (List Vector)) (counts : List ℤ) (place : Option ℕ) : Type 0 where
  pub times : List ℕ
  pub counted : counts ≡ map pos times
  pub parts : HasParts (IsInMonoid (length x) cs) hilbert modules x times place

-- each constraint holds at x, and of the element lists of the monoid these are its parts
pub record ArePartsOf (cs : List Constraint) (x : Vector) (hilbert : List Vector) (modules : Option (List Vector)) (counts : List ℤ) (place : Option ℕ) : Type 0 where
  pub met : MeetsAll cs x
  pub parts : AreElementLists cs x hilbert modules → HasCounts cs x hilbert modules counts place

-- the reply is the first constraint that fails, or where none fails the parts
abbrev pub IsReplyTo : {T : Type 0} → (T → ℤ) → List Constraint → Vector → List Vector → Option (List Vector) → Reply T → Type 0
IsReplyTo integer cs x hilbert modules (Parts place counts) = ArePartsOf cs x hilbert modules counts place
IsReplyTo integer cs x hilbert modules (Outside c) = IsFirstBroken cs x (condition_of integer c)

-- where the reply is a constraint, its form has a value in the type at x
abbrev pub HasItsValue : {T : Type 0} → (T → ℤ) → (ℤ → Type 0) → Vector → Reply T → Type 0
HasItsValue integer fits x (Parts place counts) = ⊤
HasItsValue integer fits x (Outside c) = SumsFit fits (pos 0) (form_of (condition_of integer c)) x

-- the form of some constraint has no value in the type at a vector of the list
pub record LacksValueAt (fits : ℤ → Type 0) (cs : List Constraint) (list : List Vector) : Type 0 where
  pub vector : Vector
  pub listed : Contains list vector
  pub lacks : LacksValue fits cs vector

-- the form of some constraint has no value in the type at x or at a listed element
abbrev pub LacksNumber : (ℤ → Type 0) → List Constraint → Vector → List Vector → Option (List Vector) → Type 0
LacksNumber fits cs x hilbert modules = LacksValue fits cs x ⊎ (LacksValueAt fits cs hilbert ⊎ MatchOption modules ⊥ (LacksValueAt fits cs))
