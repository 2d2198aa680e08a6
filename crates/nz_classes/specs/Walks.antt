-- What a walk through the classes of a simplex is to answer.
use Rattle.std.specs.Prelude.{◌≡◌, ◌⊎◌, ⊤, ℕ, ◌<◌, ◌≤◌, List, [], ◌∷◌, length, Contains}
use Rattle.nz_spec.specs.Vectors.{Vector}
use Rattle.nz_spec.specs.Boxes.{IsFloorSum}
use Rattle.nz_spec.specs.Order.{IsLexBefore, IsListOf, MoreThan}
use Rattle.nz_linear.specs.DualPairs.{Pair, pair_of, IsDualPair, OnlyZero}
use Rattle.nz_range.specs.Measures.{measure, pair_measure}
use Rattle.nz_vec.specs.declared.answers.Work.{Work}
use Rattle.nz_vec.specs.declared.answers.Work.TheVariants.{Range, TooMany, Stopped, NoMemory}
use Rattle.nz_classes.specs.Classes.{IsPoint}

-- the forms with the sides, in order
abbrev pub paired : List Vector → List Vector → List Pair
paired [] vs = []
paired (f ∷ fs) [] = []
paired (f ∷ fs) (v ∷ vs) = pair_of f v ∷ paired fs vs

-- the sides of a simplex, as many as their width, with the form of each: a dual pair where only 0 has all forms 0
pub record IsFullSimplex (sides forms : List Vector) : Type 0 where
  pub one_each : length forms ≡ length sides
  pub dual : IsDualPair (length sides) (paired forms sides)
  pub only_zero : OnlyZero (length sides) (paired forms sides)

-- the points in lexicographic order, and no more than the limit
abbrev pub ListsPoints : ℕ → List Vector → List Vector → Type 0
ListsPoints limit sides xs = IsListOf IsLexBefore (IsPoint (length sides) sides) xs × (length xs ≤ limit)

-- a point, a side or a floor sum of the simplex
abbrev pub IsNamed : List Vector → Vector → Type 0
IsNamed sides x = IsPoint (length sides) sides x ⊎ (Contains sides x ⊎ IsFloorSum (length sides) sides x)

-- a named vector or a form has a measure above the bound, or a form at a named vector has one
abbrev pub IsTooLarge : ℕ → List Vector → List Vector → Type 0
IsTooLarge bound sides forms = ((x : Vector) × (IsNamed sides x × (bound < measure x))) ⊎ (((f : Vector) × (Contains forms f × (bound < measure f))) ⊎ ((f : Vector) × (x : Vector) × (Contains forms f × IsNamed sides x × (bound < pair_measure f x))))

-- why there is no list: there are more points than the limit, something of the simplex is too large, or memory is out
abbrev pub IsRefusal : ℕ → ℕ → List Vector → List Vector → Work → Type 0
IsRefusal bound limit sides forms (Range told) = (told ≡ 0) × IsTooLarge bound sides forms
IsRefusal bound limit sides forms TooMany = MoreThan limit (IsPoint (length sides) sides)
IsRefusal bound limit sides forms (Stopped stage) = ⊥
IsRefusal bound limit sides forms NoMemory = ⊤
