-- What a run found, as the output text shows it.
use Rattle.std.specs.Prelude.{◌≡◌, ℕ, ◌+◌, ◌≤◌, ◌<◌, ℤ, pos, ◌≤ℤ◌, Bool, true, false, ◌&&◌, IsTrue, List, [], ◌∷◌, ◌++◌, length, Option, Some, None, IfSome, IsSome, is_some, ⊤, FitsSigned}
use Rattle.std.specs.Int.{w128}
use Rattle.std.specs.List.{AllByRecursion as Each}
use Rattle.nz_spec.specs.Vectors.{Vector, HasWidth}
use Rattle.nz_spec.specs.Constraints.{Constraint as Condition, form_of}
use Rattle.nz_vec.specs.Conditions.{condition_of}
use Rattle.nz_vec.specs.Sums.{SumsFit}
use Rattle.nz_member.specs.Values.{IsOfWidth}
use Rattle.nz_member.specs.declared.reply.Reply.{Reply}
use Rattle.nz_member.specs.declared.reply.Reply.TheVariants.{Parts, Outside}

-- a vector of the file, with what is answered of it
abbrev pub Asked : Type 0
Asked = Vector × Reply ℤ

-- the number after `amb_space`, whether there is a level, what degrees are divided by where a grading is given, and each list where it is wanted; a simplex is a list of places, from 0, of the extreme generators
pub record OutcomeData : Type 0 where
  pub amb : ℕ
  pub level : Bool
  pub denominator : Option ℤ
  pub modules : Option (List Vector)
  pub hilbert : Option (List Vector)
  pub degree_one : Option (List Vector)
  pub vertices : Option (List Vector)
  pub rays : Option (List Vector)
  pub support : Option (List Vector)
  pub equations : Option (List Vector)
  pub generators : Option (List Vector)
  pub simplices : Option (List (List ℕ))
  pub asked : Option (List Asked)

-- how many entries a row has: one more where there is a level
abbrev pub width_at : ℕ → Bool → ℕ
width_at amb true = amb + 1
width_at amb false = amb

abbrev pub row_width : OutcomeData → ℕ
row_width o = width_at o.amb o.level

-- a vector of the file among the rows: with level 1 where there is a level
abbrev pub at_level : Bool → Vector → Vector
at_level true x = x ++ pos 1 ∷ []
at_level false x = x

-- how many there are, and 0 where no list is wanted
abbrev pub number : {X : Type 0} → Option (List X) → ℕ
number None = 0
number (Some xs) = length xs

-- what degrees are divided by is at least 1, where it is there
abbrev pub IsDivisor : Option ℤ → Type 0
IsDivisor denominator = IfSome denominator (λ g. pos 1 ≤ℤ g)

-- where the list is wanted, its rows have w entries
abbrev pub AreRows : ℕ → Option (List Vector) → Type 0
AreRows w rows = IfSome rows (Each (HasWidth w))

-- a constraint on the rows, whose form has a value at the vector
pub record HasValueAt (level : Bool) (x : Vector) (c : Condition) : Type 0 where
  pub form : IsOfWidth (length (at_level level x)) c
  pub value : SumsFit (FitsSigned w128) (pos 0) (form_of c) (at_level level x)

-- what is needed to write the answer of a vector
abbrev pub HasText : Bool → Vector → Reply ℤ → Type 0
HasText level x (Parts place counts) = ⊤
HasText level x (Outside c) = HasValueAt level x (condition_of (λ z. z) c)

-- a count for each element of the Hilbert basis, and just where there is a level a module generator
pub record AreParts (o : OutcomeData) (place : Option ℕ) (counts : Vector) : Type 0 where
  pub size : length counts ≡ number o.hilbert
  pub not_negative : Each (λ c. pos 0 ≤ℤ c) counts
  pub named : is_some place ≡ o.level
  pub below : IfSome place (λ p. p < number o.modules)

-- the answer of an asked vector
abbrev pub IsAnswer : OutcomeData → Vector → Reply ℤ → Type 0
IsAnswer o x (Parts place counts) = AreParts o place counts
IsAnswer o x (Outside c) = HasValueAt o.level x (condition_of (λ z. z) c)

-- an asked vector is one of the file, and is answered so
pub record IsAsked (o : OutcomeData) (a : Asked) : Type 0 where
  pub width : HasWidth o.amb a.0
  pub answer : IsAnswer o a.0 a.1

-- what every outcome keeps: its shapes, and which lists go together
pub record IsOutcome (o : OutcomeData) : Type 0 where
  pub at_least : 1 ≤ o.amb
  pub at_most : o.amb ≤ 64
  pub denominator : IsDivisor o.denominator
  pub modules : AreRows (row_width o) o.modules
  pub hilbert : AreRows (row_width o) o.hilbert
  pub degree_one : AreRows (row_width o) o.degree_one
  pub vertices : AreRows (row_width o) o.vertices
  pub rays : AreRows (row_width o) o.rays
  pub support : AreRows (row_width o) o.support
  pub equations : AreRows (row_width o) o.equations
  pub generators : AreRows (row_width o) o.generators
  pub simplices : IfSome o.simplices (Each (Each (λ p. p < number o.generators)))
  pub asked : IfSome o.asked (Each (IsAsked o))
  pub described : is_some o.equations ≡ is_some o.support
  pub covered : is_some o.simplices ≡ is_some o.generators
  pub bounded : is_some o.vertices ≡ is_some o.rays && o.level
  pub levelled : IsSome o.modules → IsTrue o.level
  pub divided : IsSome o.degree_one → IsSome o.denominator
  pub parted : IsSome o.asked → IsSome o.hilbert × (IsTrue o.level → IsSome o.modules)
