-- What the system of a file with monomials has: the integral closure of its ideal.
use Rattle.std.specs.Prelude.{◌≡◌, ◌↔◌, IsTrue, List, map, pos, Contains}
use Rattle.nz_spec.specs.Vectors.{Vector, unit_vectors, HasWidth}
use Rattle.nz_spec.specs.Monoids.{IsModuleGenerator}
use Rattle.nz_spec.specs.Systems.{IsMember}
use Rattle.nz_spec.specs.Elements.{IsHilbertElement}
use Rattle.nz_further.specs.Ideals.{IsInClosure, IsMinimalGenerator, at_level}
use Rattle.nz_input.specs.Files.{FileData, IsFile}
use Rattle.nz_input.specs.declared.kind.Goal.{Goal}
use Rattle.nz_ideal.specs.IdealFiles.{has_ideal, exponents}
use Rattle.nz_ideal.specs.Meanings.{HasMeaning, system_of}

-- a member of level 1 is a vector of the integral closure, with 1 added
abbrev pub LevelOneIsClosure : Type 0
LevelOneIsClosure = (file : FileData) → IsFile file → IsTrue (has_ideal file) → (x : Vector) → HasWidth file.amb x → IsMember (system_of file) (at_level (pos 1) x) ↔ IsInClosure file.amb (exponents file.items) x

-- a minimal generator of the closure, with 1 added
pub record IsRaisedGenerator (file : FileData) (v : Vector) : Type 0 where
  pub monomial : Vector
  pub minimal : IsMinimalGenerator file.amb (exponents file.items) monomial
  pub same : at_level (pos 1) monomial ≡ v

-- the module generators are the minimal generators of the integral closure, each with 1 added
abbrev pub ModulesAreMinimal : Type 0
ModulesAreMinimal = (file : FileData) → IsFile file → IsTrue (has_ideal file) → (v : Vector) → IsModuleGenerator (IsMember (system_of file)) v ↔ IsRaisedGenerator file v

-- the Hilbert basis of the recession monoid are the unit vectors, each with 0 added
abbrev pub BasisIsUnits : Type 0
BasisIsUnits = (file : FileData) → IsFile file → IsTrue (has_ideal file) → (words : List Goal) → HasMeaning file words → (v : Vector) → IsHilbertElement (system_of file) v ↔ Contains (map (at_level (pos 0)) (unit_vectors file.amb)) v
