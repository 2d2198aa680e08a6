-- What is left of a file where something must come next: the symbols of whole entries or matrices, and before them the rest of one that has begun.
use Rattle.std.specs.Prelude.{◌≡◌, ◌⊎◌, ℕ, suc, ◌+◌, ◌≤◌, nat_le, ◌==◌, Bool, true, false, List, [], ◌∷◌, ◌++◌, length, map}
use Rattle.std.specs.List.{flat_map, AllByRecursion as Each}
use Rattle.nz_vec.specs.Texts.{Text}
use Rattle.nz_spec.specs.Vectors.{Vector, HasWidth}
use Rattle.nz_input.specs.declared.symbol.Symbol.TheVariants as symbol
use Rattle.nz_input.specs.Words.{is_matrix, columns}
use Rattle.nz_input.specs.Sit.{AtFirst, AtDimension, AtEntry, AtCount, AtNumber}
use Rattle.nz_symbolic.specs.declared.symbol.Token.{Token}
use Rattle.nz_symbolic.specs.declared.symbol.Token.TheVariants as token
use Rattle.nz_symbolic.specs.declared.symbol.Role.TheVariants as role
use Rattle.nz_symbolic.specs.declared.symbol.OldType.{OldType}
use Rattle.nz_symbolic.specs.declared.symbol.Slot.{Slot}
use Rattle.nz_symbolic.specs.declared.symbol.Demand.{Demand}
use Rattle.nz_symbolic.specs.declared.point.Side.{Side}
use Rattle.nz_symbolic.specs.declared.point.Side.TheVariants.{Left, Right}
use Rattle.nz_symbolic.specs.declared.point.Point.{Point}
use Rattle.nz_symbolic.specs.declared.point.Point.TheVariants.{AtSum, AtTerm, AfterLiteral, AfterStar, AfterVariable, AfterOpen, AfterIndex, AfterTerm, AfterParen, AfterModulus, AfterClose}
use Rattle.nz_symbolic.specs.Words.{kind_of}
use Rattle.nz_symbolic.specs.Constraints.{Term, SignedTerm, Sum, Constraint, IsIndex, IsTerm, IsSum, IsConstraint, terms_in}
use Rattle.nz_symbolic.specs.Symbols.{SpellsToken, slot, plain_slot, is_full, index_slots, scaled_slots, term_slots, further_slots, sum_slots, demand_token, end_slots, lines, AnyEntry, entry_slots, IsAnyEntry, Fits, symbols, Matrix, IsMatrix, OldFits, allows_cone, matrix_slots, old_symbols}
use Rattle.nz_symbolic.specs.Sit.{Sit, AtOpening, InPlain, AtConstraints, AtName, InLine, AtFurther, AtColumns, AtFigure, AtType, role_at, IsColumnCount, IsTypeFor}

-- the token has a spelling
abbrev pub IsSpelled : Token → Type 0
IsSpelled t = (piece : Text) × SpellsToken t piece

-- the numbers of a row
abbrev pub number_slots : Vector → List Slot
number_slots row = map (λ z. plain_slot (symbol.Number z)) row

-- ---- entries

-- whole entries
pub record EntriesLeft (d : ℕ) (ss : List Slot) : Type 0 where
  pub entries : List AnyEntry
  pub fit : Each (IsAnyEntry d) entries
  pub whole : ss ≡ flat_map entry_slots entries

-- a dimension and whole entries
pub record DimensionLeft (ss : List Slot) : Type 0 where
  pub dimension : ℕ
  pub entries : List AnyEntry
  pub fit : Each (IsAnyEntry dimension) entries
  pub whole : ss ≡ plain_slot (symbol.Dimension dimension) ∷ flat_map entry_slots entries

-- so many rows, and whole entries
pub record RowsLeft (d width n : ℕ) (ss : List Slot) : Type 0 where
  pub rows : List Vector
  pub long : length rows ≡ n
  pub widths : Each (HasWidth width) rows
  pub entries : List AnyEntry
  pub fit : Each (IsAnyEntry d) entries
  pub whole : ss ≡ flat_map number_slots rows ++ flat_map entry_slots entries

-- so many numbers of a row, and so many rows
pub record NumbersLeft (d width n more : ℕ) (ss : List Slot) : Type 0 where
  pub row : Vector
  pub row_long : length row ≡ more
  pub rest : List Slot
  pub others : RowsLeft d width n rest
  pub whole : ss ≡ number_slots row ++ rest

-- ---- constraints

-- so many whole constraints, and whole entries
pub record LinesLeft (d later : ℕ) (ss : List Slot) : Type 0 where
  pub constraints : List Constraint
  pub long : length constraints ≡ later
  pub constraints_fit : Each (IsConstraint d) constraints
  pub entries : List AnyEntry
  pub fit : Each (IsAnyEntry d) entries
  pub whole : ss ≡ lines constraints ++ flat_map entry_slots entries

-- what must follow a sum of so many terms
abbrev pub EndLeft : ℕ → ℕ → Side → ℕ → List Slot → Type 0
EndLeft d later Left m x = (demand : Demand) × (right : Sum) × (others : List Slot) × IsSum d right × LinesLeft d later others
    × (x ≡ slot (role.Part (is_full m)) (demand_token demand) ∷ (sum_slots (role.Term false) right ++ (end_slots (later == 0) (is_full (terms_in right)) demand ++ others)))
EndLeft d later (Right false) m x = (others : List Slot) × LinesLeft d later others × (x ≡ slot (role.Part (is_full m)) (token.Stop (later == 0)) ∷ others)
EndLeft d later (Right true) m x = (v : ℕ) × (others : List Slot) × LinesLeft d later others
    × (x ≡ slot (role.Part (is_full m)) token.OpenModulus ∷ slot role.Bounded (token.Modulus v) ∷ slot role.Fixed token.CloseModulus ∷ slot role.Fixed (token.Stop (later == 0)) ∷ others)

-- behind so many whole terms: further terms, and what must follow the sum
pub record TermsLeft (d later : ℕ) (side : Side) (n : ℕ) (ss : List Slot) : Type 0 where
  pub terms : List SignedTerm
  pub fit : Each (λ t. IsTerm d t.term) terms
  pub most : n + length terms ≤ 400
  pub rest : List Slot
  pub ends : EndLeft d later side (n + length terms) rest
  pub whole : ss ≡ further_slots n terms ++ rest

-- at a point of a constraint
abbrev pub PointLeft : ℕ → ℕ → Side → ℕ → Point → List Slot → Type 0
PointLeft d later side n AtSum ss = (s : Sum) × (rest : List Slot) × IsSum d s × EndLeft d later side (terms_in s) rest × (ss ≡ sum_slots (role_at side n AtSum) s ++ rest)
PointLeft d later side n AtTerm ss = (t : Term) × (rest : List Slot) × IsTerm d t × TermsLeft d later side n rest × (ss ≡ term_slots (role.Term (is_full n)) (is_full n) t ++ rest)
PointLeft d later side n AfterLiteral ss = TermsLeft d later side n ss ⊎ ((star : Bool) × (i : ℕ) × (rest : List Slot) × IsIndex d i × TermsLeft d later side n rest × (ss ≡ scaled_slots (is_full n) star i ++ rest))
PointLeft d later side n AfterStar ss = (i : ℕ) × (rest : List Slot) × IsIndex d i × TermsLeft d later side n rest × (ss ≡ slot role.Fixed token.Variable ∷ (index_slots i ++ rest))
PointLeft d later side n AfterVariable ss = (i : ℕ) × (rest : List Slot) × IsIndex d i × TermsLeft d later side n rest × (ss ≡ index_slots i ++ rest)
PointLeft d later side n AfterOpen ss = (i : ℕ) × (rest : List Slot) × IsIndex d i × TermsLeft d later side n rest × (ss ≡ slot role.Bounded (token.Index i) ∷ slot role.Fixed token.CloseIndex ∷ rest)
PointLeft d later side n AfterIndex ss = (rest : List Slot) × TermsLeft d later side n rest × (ss ≡ slot role.Fixed token.CloseIndex ∷ rest)
PointLeft d later side n AfterTerm ss = TermsLeft d later side n ss
PointLeft d later side n AfterParen ss = (v : ℕ) × (rest : List Slot) × LinesLeft d later rest × (ss ≡ slot role.Bounded (token.Modulus v) ∷ slot role.Fixed token.CloseModulus ∷ slot role.Fixed (token.Stop (later == 0)) ∷ rest)
PointLeft d later side n AfterModulus ss = (rest : List Slot) × LinesLeft d later rest × (ss ≡ slot role.Fixed token.CloseModulus ∷ slot role.Fixed (token.Stop (later == 0)) ∷ rest)
PointLeft d later side n AfterClose ss = (rest : List Slot) × LinesLeft d later rest × (ss ≡ slot role.Fixed (token.Stop (later == 0)) ∷ rest)

-- ---- matrices of the old form

-- so many numbers, the type, and whole matrices
pub record FiguresLeft (fixed n c more : ℕ) (ss : List Slot) : Type 0 where
  pub numbers : Vector
  pub long : length numbers ≡ more
  pub type_is : OldType
  pub typed : IsTypeFor fixed n c type_is
  pub others : List Matrix
  pub fit : Each (IsMatrix typed.dimension) others
  pub whole : ss ≡ number_slots numbers ++ slot (role.Typing (allows_cone fixed c)) (token.Typed type_is) ∷ flat_map (matrix_slots typed.dimension typed.dimension) others

-- the column count and what is behind it, of a matrix of so many rows, and whole matrices
pub record ColumnsLeft (fixed n : ℕ) (ss : List Slot) : Type 0 where
  pub dimension : ℕ
  pub low : 1 ≤ dimension
  pub high : dimension ≤ 64
  pub same : (fixed ≡ 0) ⊎ (fixed ≡ dimension)
  pub matrix : Matrix
  pub matrix_fits : IsMatrix dimension matrix
  pub long : length matrix.rows ≡ n
  pub others : List Matrix
  pub fit : Each (IsMatrix dimension) others
  pub whole : ss ≡ slot (role.Columns fixed) (token.ColumnCount (columns (kind_of matrix.type_is) dimension))
      ∷ (flat_map number_slots matrix.rows ++ slot (role.Typing (allows_cone fixed (columns (kind_of matrix.type_is) dimension))) (token.Typed matrix.type_is) ∷ flat_map (matrix_slots dimension dimension) others)

-- whole matrices
pub record MatricesLeft (d : ℕ) (ss : List Slot) : Type 0 where
  pub matrices : List Matrix
  pub fit : Each (IsMatrix d) matrices
  pub whole : ss ≡ flat_map (matrix_slots d d) matrices

-- ---- a whole file

-- the symbols are those of a file of the new form
pub record IsNewFile (ss : List Slot) : Type 0 where
  pub dimension : ℕ
  pub entries : List AnyEntry
  pub fit : Fits dimension entries
  pub whole : symbols dimension entries ≡ ss

-- the symbols are those of a file of the old form
pub record IsOldFile (ss : List Slot) : Type 0 where
  pub dimension : ℕ
  pub matrices : List Matrix
  pub fit : OldFits dimension matrices
  pub whole : old_symbols dimension matrices ≡ ss

-- What is left.
abbrev pub IsLeft : Sit → List Slot → Type 0
IsLeft AtOpening ss = IsNewFile ss ⊎ IsOldFile ss
IsLeft (InPlain AtFirst) ss = Unit {0}
IsLeft (InPlain AtDimension) ss = DimensionLeft ss
IsLeft (InPlain (AtEntry d)) ss = EntriesLeft d ss
IsLeft (InPlain (AtCount d k)) ss = (n : ℕ) × (rest : List Slot) × RowsLeft d (columns k d) n rest × (ss ≡ plain_slot (symbol.Count n) ∷ rest)
IsLeft (InPlain (AtNumber d width n more)) ss = NumbersLeft d width n (suc more) ss
IsLeft (AtConstraints d) ss = (n : ℕ) × (rest : List Slot) × LinesLeft d n rest × (ss ≡ plain_slot (symbol.Count n) ∷ slot (role.Naming (nat_le 1 n)) token.Symbolic ∷ rest)
IsLeft (AtName d n) ss = (rest : List Slot) × LinesLeft d n rest × (ss ≡ slot (role.Naming (nat_le 1 n)) token.Symbolic ∷ rest)
IsLeft (InLine d later side n point) ss = PointLeft d later side n point ss
IsLeft (AtFurther d) ss = MatricesLeft d ss
IsLeft (AtColumns fixed n) ss = ColumnsLeft fixed n ss
IsLeft (AtFigure fixed n c more) ss = FiguresLeft fixed n c (suc more) ss
IsLeft (AtType fixed n c) ss = FiguresLeft fixed n c 0 ss

-- ---- what can be finished

-- a file can be finished from here
abbrev pub IsLive : Sit → Type 0
IsLive AtOpening = Unit {0}
IsLive (InPlain AtFirst) = Unit {0}
IsLive (InPlain AtDimension) = Unit {0}
IsLive (InPlain (AtEntry d)) = 1 ≤ d
IsLive (InPlain (AtCount d k)) = (1 ≤ d) × (is_matrix k ≡ true)
IsLive (InPlain (AtNumber d width n more)) = (1 ≤ d) × (1 ≤ width)
IsLive (AtConstraints d) = 1 ≤ d
IsLive (AtName d n) = 1 ≤ d
IsLive (InLine d later side n point) = (1 ≤ d) × (n ≤ 400)
IsLive (AtFurther d) = (1 ≤ d) × (d ≤ 64)
IsLive (AtColumns fixed n) = fixed ≤ 64
IsLive (AtFigure fixed n c more) = (fixed ≤ 64) × IsColumnCount fixed c
IsLive (AtType fixed n c) = (fixed ≤ 64) × IsColumnCount fixed c
