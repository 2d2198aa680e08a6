-- Numbers of a system that are no values of an integer type.
use Rattle.std.specs.Prelude.{◌≡◌, ℤ, List, map, Option, Some, Contains}
use Rattle.nz_spec.specs.Vectors.{Vector}
use Rattle.nz_spec.specs.Systems.{System}
use Rattle.nz_spec.specs.Constraints.{Constraint, Zero, Multiple, NotNegative, constraint_of}

-- an entry of the vector is no value of the type
pub record HasEntryOutside (fits : ℤ → Type 0) (v : Vector) : Type 0 where
  pub entry : ℤ
  pub listed : Contains v entry
  pub outside : ¬ fits entry

-- one of the vectors has such an entry
pub record SomeEntryOutside (fits : ℤ → Type 0) (vs : List Vector) : Type 0 where
  pub vector : Vector
  pub listed : Contains vs vector
  pub outside : HasEntryOutside fits vector

-- an entry of the form, or the modulus, is no value of the type
pub data HasConditionOutside (fits : ℤ → Type 0) : Constraint → Type 0 where
  zero_form : {f : Vector} → HasEntryOutside fits f → HasConditionOutside fits (Zero f)
  not_negative_form : {f : Vector} → HasEntryOutside fits f → HasConditionOutside fits (NotNegative f)
  multiple_form : {f : Vector} {m : ℤ} → HasEntryOutside fits f → HasConditionOutside fits (Multiple f m)
  modulus : {f : Vector} {m : ℤ} → ¬ fits m → HasConditionOutside fits (Multiple f m)

-- one of the conditions has such a number
pub record SomeConditionOutside (fits : ℤ → Type 0) (cs : List Constraint) : Type 0 where
  pub condition : Constraint
  pub listed : Contains cs condition
  pub outside : HasConditionOutside fits condition

-- the list is there, and one of its vectors has such an entry
pub record SomeGivenOutside (fits : ℤ → Type 0) (given : Option (List Vector)) : Type 0 where
  pub list : List Vector
  pub same : given ≡ Some list
  pub outside : SomeEntryOutside fits list

-- the form is there, and has such an entry
pub record IsFormOutside (fits : ℤ → Type 0) (given : Option Vector) : Type 0 where
  pub form : Vector
  pub same : given ≡ Some form
  pub outside : HasEntryOutside fits form

-- an entry of a form or a vector of the system, or a modulus, is no value of the type
pub data HasNumberOutside (fits : ℤ → Type 0) (s : System) : Type 0 where
  of_equation : SomeEntryOutside fits s.eq → HasNumberOutside fits s
  of_congruence : SomeConditionOutside fits (map constraint_of s.cg) → HasNumberOutside fits s
  of_row : SomeEntryOutside fits s.ge → HasNumberOutside fits s
  of_generator : SomeGivenOutside fits s.gens → HasNumberOutside fits s
  of_group : SomeGivenOutside fits s.lat → HasNumberOutside fits s
  of_grading : IsFormOutside fits s.grading → HasNumberOutside fits s
  of_asked : SomeGivenOutside fits s.asked → HasNumberOutside fits s

-- the rules of the system
abbrev pub AreRulesOf : System → List Vector → List Constraint → List Vector → Type 0
AreRulesOf s eq cg ge = (eq ≡ s.eq) × (cg ≡ map constraint_of s.cg) × (ge ≡ s.ge)

-- the vectors that are given with it
abbrev pub AreListsOf : System → (gens lat asked : Option (List Vector)) → Type 0
AreListsOf s gens lat asked = (gens ≡ s.gens) × (lat ≡ s.lat) × (asked ≡ s.asked)
