-- The stages of the dual algorithm: rows, with the irreducibles of the whole vectors at which all rows are at least 0.
use Rattle.std.specs.Prelude.{◌≡◌, ◌⊎◌, ⊤, ℕ, ◌≤◌, ℤ, List, [], ◌∷◌, ◌++◌, length, Contains}
use Rattle.std.specs.List.{AllByRecursion as Each}
use Rattle.nz_spec.specs.Vectors.{Vector, plus, HasWidth}
use Rattle.nz_spec.specs.Order.{ListsOnce, MoreThan}
use Rattle.nz_spec.specs.Monoids.{IsIrreducible, IsPositive}
use Rattle.nz_spec.specs.Stages.{IsInStage, IsInReversed}
use Rattle.nz_range.specs.Measures.{SomeLarge, SomeLargeAt}
use Rattle.nz_vec.specs.declared.answers.Work.{Work}
use Rattle.nz_vec.specs.declared.answers.Work.TheVariants.{Range, TooMany, Stopped, NoMemory}

-- the rows so far, forms on vectors of one width, the list of their stage and the reversed list
pub record RowsAndLists : Type 0 where
  pub width : ℕ
  pub rows : List Vector
  pub list : List Vector
  pub reversed : List Vector

-- an irreducible of the whole vectors at which all rows are at least 0
abbrev pub IsElement : ℕ → List Vector → Vector → Type 0
IsElement w rows = IsIrreducible (IsInStage (HasWidth w) rows)

-- an irreducible of the whole vectors at which the earlier rows are at least 0 and the last row is at most 0
abbrev pub IsReversedElement : ℕ → List Vector → Vector → Vector → Type 0
IsReversedElement w earlier last = IsIrreducible (IsInReversed (HasWidth w) earlier last)

-- rows of one width without a line, and the list of exactly the irreducibles of their stage, each once
pub record IsStageList (w : ℕ) (rows list : List Vector) : Type 0 where
  pub rows_wide : Each (HasWidth w) rows
  pub positive : IsPositive (IsInStage (HasWidth w) rows)
  pub lists : ListsOnce (IsElement w rows) list

-- what each stage keeps
abbrev pub IsStage : RowsAndLists → Type 0
IsStage s = IsStageList s.width s.rows s.list

-- exactly the irreducibles of the new stage and of the reversed one, each once and not more than the limit
pub record AreLists (limit w : ℕ) (earlier : List Vector) (last : Vector) (list reversed : List Vector) : Type 0 where
  pub new_list : ListsOnce (IsElement w (earlier ++ last ∷ [])) list
  pub reversed_list : ListsOnce (IsReversedElement w earlier last) reversed
  pub within : (length list ≤ limit) × (length reversed ≤ limit)

-- an irreducible of the new stage or of the reversed one, or the sum of one of each
pub data IsNamed (w : ℕ) (earlier : List Vector) (last : Vector) : Vector → Type 0 where
  element : {v : Vector} → IsElement w (earlier ++ last ∷ []) v → IsNamed w earlier last v
  reversed : {v : Vector} → IsReversedElement w earlier last v → IsNamed w earlier last v
  sum : {u v : Vector} → IsElement w (earlier ++ last ∷ []) u → IsReversedElement w earlier last v → IsNamed w earlier last (plus u v)

-- one of these vectors, the new row, or a row at one of the vectors has a measure above the bound
abbrev pub IsTooLarge : ℤ → ℕ → List Vector → Vector → Type 0
IsTooLarge bound w earlier last = SomeLarge bound (λ v. (v ≡ last) ⊎ IsNamed w earlier last v) ⊎ SomeLargeAt bound (Contains (earlier ++ last ∷ [])) (IsNamed w earlier last)

-- why a row is not inserted: more irreducibles than the limit on one side, a number too large, or no memory
abbrev pub IsInsertRefusal : ℤ → ℕ → ℕ → List Vector → Vector → Work → Type 0
IsInsertRefusal bound limit w earlier last (Range told) = (told ≡ 0) × IsTooLarge bound w earlier last
IsInsertRefusal bound limit w earlier last TooMany = MoreThan limit (IsElement w (earlier ++ last ∷ [])) ⊎ MoreThan limit (IsReversedElement w earlier last)
IsInsertRefusal bound limit w earlier last (Stopped stage) = ⊥
IsInsertRefusal bound limit w earlier last NoMemory = ⊤
