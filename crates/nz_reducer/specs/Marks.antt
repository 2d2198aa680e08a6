-- Marks of the entries of a table, in the order of their sums.
use Rattle.std.specs.Prelude.{◌≡◌, ◌≢◌, ⊤, ℕ, ◌<◌, ◌≤◌, ℤ, pos, negsuc, ◌≤ℤ◌, List, [], length, map, take, drop, slice_index_or, Option, Some, None, Contains}
use Rattle.std.specs.Int.Bits.{bit_and}
use Rattle.std.specs.List.{AllByRecursion as Each}
use Rattle.nz_spec.specs.Vectors.{Vector}
use Rattle.nz_spec.specs.Order.{Pairwise, ListsOnce}
use Rattle.nz_order.specs.Boxes.{IsBelow}
use Rattle.nz_reducer.specs.Levels.{IsWordOf}
use Rattle.nz_reducer.specs.Tables.{total, HasSum}

-- the sum of the values; none exactly where they have none in the type
abbrev pub IsSum : {T : Type 0} → (T → ℤ) → (ℤ → Type 0) → Vector → Option T → Type 0
IsSum integer fits xs None = ¬ HasSum fits xs
IsSum integer fits xs (Some s) = HasSum fits xs × (integer s ≡ total xs)

-- an entry with the first sum may stand before one with the second: those without a sum stand in front
abbrev pub RisesTo : {T : Type 0} → (T → ℤ) → Option T → Option T → Type 0
RisesTo integer None b = ⊤
RisesTo integer (Some a) None = ⊥
RisesTo integer (Some a) (Some b) = integer a ≤ℤ integer b

-- an entry with the first sum is compared in a search for values with the second
abbrev pub IsReached : {T : Type 0} → (T → ℤ) → Option T → Option T → Type 0
IsReached integer a None = ⊤
IsReached integer None (Some b) = ⊤
IsReached integer (Some a) (Some b) = integer a ≤ℤ integer b

-- one mark for each entry, with its place and its sum, in the order of the sums
pub record AreMarks {T Item : Type 0} (integer : T → ℤ) (fits : ℤ → Type 0) (sum : Item → Option T) (place : Item → ℕ) (entries : List Vector) (marks : List Item) : Type 0 where
  pub order : Pairwise (λ a b. RisesTo integer (sum a) (sum b)) marks
  pub sums : Each (λ m. IsSum integer fits (slice_index_or entries (place m) []) (sum m)) marks
  pub places : ListsOnce (λ k. k < length entries) (map place marks)

-- this sum can stand here: no sum before it is greater, and no one after it is less
pub record IsPosition {T Item : Type 0} (integer : T → ℤ) (sum : Item → Option T) (marks : List Item) (new : Option T) (index : ℕ) : Type 0 where
  pub inside : index ≤ length marks
  pub before : Each (λ m. RisesTo integer (sum m) new) (take index marks)
  pub after : Each (λ m. RisesTo integer new (sum m)) (drop index marks)

-- the marks before this index are reached, and no others
pub record IsReach {T Item : Type 0} (integer : T → ℤ) (sum : Item → Option T) (marks : List Item) (searched : Option T) (index : ℕ) : Type 0 where
  pub inside : index ≤ length marks
  pub reached : Each (λ m. IsReached integer (sum m) searched) (take index marks)
  pub beyond : Each (λ m. ¬ IsReached integer (sum m) searched) (drop index marks)

-- of the entries at the tried places, the least place of one that is at most the values, or else the number of entries; and how many of them were compared
pub record IsSearched (entries : List Vector) (values : Vector) (tried : List ℕ) (first number : ℕ) : Type 0 where
  pub below : first < length entries → IsBelow (slice_index_or entries first []) values
  pub inside : first ≤ length entries
  pub least : Each (λ k. k < first → ¬ IsBelow (slice_index_or entries k []) values) tried
  pub compared : List ℕ
  pub different : Pairwise ◌≢◌ compared
  pub among : Each (Contains tried) compared
  pub size : length compared ≡ number
  pub found : first < length entries → Contains compared first
  pub all : first ≡ length entries → Each (Contains compared) tried

-- none of the entries with these marks is at most the values
abbrev pub NoneOfMarked : {Item : Type 0} → (Item → ℕ) → List Vector → Vector → List Item → Type 0
NoneOfMarked place entries values marks = Each (λ m. ¬ IsBelow (slice_index_or entries (place m) []) values) marks

-- one of the entries with these marks is at most the values
pub record IsOneUnder {Item : Type 0} (place : Item → ℕ) (entries : List Vector) (values : Vector) (marks : List Item) : Type 0 where
  pub mark : Item
  pub listed : Contains marks mark
  pub below : IsBelow (slice_index_or entries (place mark) []) values

-- the entry of the mark at this index is at most the values
pub record IsUnderAt {Item : Type 0} (place : Item → ℕ) (entries : List Vector) (values : Vector) (marks : List Item) (index : ℕ) : Type 0 where
  pub inside : index < length marks
  pub mark : Item
  pub at : mark ≡ slice_index_or marks index mark
  pub below : IsBelow (slice_index_or entries (place mark) []) values

-- where an entry is at most the values, the bits of its mark are among those of the values
abbrev pub TellWords : {Item : Type 0} → (Item → ℕ) → (Item → ℕ) → List Vector → Vector → ℕ → List Item → Type 0
TellWords place word entries values sought marks = Each (λ m. IsBelow (slice_index_or entries (place m) []) values → bit_and (word m) sought ≡ word m) marks

-- each mark has the word of its entry
abbrev pub HaveWords : {Level Item : Type 0} → (Level → ℕ) → (Level → ℤ) → List Level → (Item → ℕ) → (Item → ℕ) → List Vector → List Item → Type 0
HaveWords column value levels place word entries marks = Each (λ m. IsWordOf column value levels (slice_index_or entries (place m) []) (word m)) marks

-- the marks before this index have no sum, and the others have one
pub record AreWithoutSum {T Item : Type 0} (sum : Item → Option T) (marks : List Item) (index : ℕ) : Type 0 where
  pub inside : index ≤ length marks
  pub before : Each (λ m. sum m ≡ None) (take index marks)
  pub after : Each (λ m. sum m ≢ None) (drop index marks)

-- the larger of a number and 0
abbrev pub rise : ℤ → ℤ
rise (pos n) = pos n
rise (negsuc n) = pos 0

-- the smaller of a number and 0
abbrev pub fall : ℤ → ℤ
fall (pos n) = pos 0
fall (negsuc n) = negsuc n
