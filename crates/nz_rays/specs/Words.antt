-- Sets of places as words of bits, 64 places to a word.
use Rattle.std.specs.Prelude.{◌≡◌, ◌⊎◌, ℕ, ◌+◌, ◌*◌, ◌<◌, List, [], length, get_or, Contains, Bool, MatchBool}
use Rattle.std.specs.List.{AllByRecursion as Each, AllZip}
use Rattle.std.specs.Int.{bit_at}
use Rattle.nz_spec.specs.Order.{Pairwise}
use Rattle.nz_rays.specs.Crossings.{AreCommon, HasThird, IsThird}

-- this bit of the word is set
abbrev pub HasBit : ℕ → ℕ → Type 0
HasBit word i = bit_at word i ≡ 1

-- bit i of the word says whether from + i is in the set
pub record IsWordOf (set : List ℕ) (from word : ℕ) : Type 0 where
  pub only : (i : ℕ) → HasBit word i → (i < 64) × Contains set (from + i)
  pub each : (i : ℕ) → i < 64 → Contains set (from + i) → HasBit word i

-- the word has one place more, if that is one of its own
pub record IsWordWith (old : ℕ) (from place new : ℕ) : Type 0 where
  pub stays : (i : ℕ) → HasBit old i → HasBit new i
  pub added : (i : ℕ) → i < 64 → place ≡ from + i → HasBit new i
  pub only : (i : ℕ) → HasBit new i → HasBit old i ⊎ ((i < 64) × (place ≡ from + i))

-- for each set its word from this place on
abbrev pub IsColumn : ℕ → List (List ℕ) → List ℕ → Type 0
IsColumn from sets column = AllZip (λ s w. IsWordOf s from w) sets column

-- each column has the words of 64 places
abbrev pub AreColumnsOf : List (List ℕ) → List (List ℕ) → Type 0
AreColumnsOf sets columns = (j : ℕ) → j < length columns → IsColumn (64 * j) sets (get_or columns j [])

-- and the columns have all places of the sets
pub record AreColumns (sets columns : List (List ℕ)) : Type 0 where
  pub each : AreColumnsOf sets columns
  pub whole : Each (Each (λ k. k < 64 * length columns)) sets

-- each column has a word at this place
abbrev pub IsPlaceIn : ℕ → List (List ℕ) → Type 0
IsPlaceIn place columns = Each (λ c. place < length c) columns

-- the sets at these places, of which these are the columns, have fewer places in common than needed
abbrev pub HaveFew : List (List ℕ) → ℕ → ℕ → ℕ → Type 0
HaveFew columns first second needed = (sets : List (List ℕ)) → AreColumns sets columns → first < length sets → second < length sets → (common : List ℕ) → Pairwise ◌<◌ common → Each (λ k. Contains (get_or sets first []) k × Contains (get_or sets second []) k) common → length common < needed

-- the answer says whether the set at the last place has all that the other two have in common
abbrev pub TellsCovered : List (List ℕ) → ℕ → ℕ → ℕ → Bool → Type 0
TellsCovered columns first second place answer = (sets : List (List ℕ)) → AreColumns sets columns → first < length sets → second < length sets → place < length sets → (common : List ℕ) → AreCommon sets first second common
    → MatchBool answer (Each (Contains (get_or sets place [])) common) (¬ Each (Contains (get_or sets place [])) common)

-- the answer says whether the set at the last place is a third one to the other two
abbrev pub TellsThird : List (List ℕ) → ℕ → ℕ → ℕ → Bool → Type 0
TellsThird columns above below place answer = (sets : List (List ℕ)) → AreColumns sets columns → above < length sets → below < length sets → place < length sets → (common : List ℕ) → AreCommon sets above below common
    → MatchBool answer (IsThird sets common above below place) (¬ IsThird sets common above below place)

-- the answer says whether none of the sets at the given places is a third one to the other two
abbrev pub TellsThirdOf : List ℕ → List (List ℕ) → ℕ → ℕ → Bool → Type 0
TellsThirdOf near columns above below answer = (sets : List (List ℕ)) → AreColumns sets columns → above < length sets → below < length sets → Each (λ k. k < length sets) near → (common : List ℕ) → AreCommon sets above below common
    → MatchBool answer (Each (λ k. ¬ IsThird sets common above below k) near) (HasThird sets common above below)

-- the busy places: each other place below the bound has fewer places than needed
pub record AreBusy (columns : List (List ℕ)) (bound needed : ℕ) (busy : List ℕ) : Type 0 where
  pub within : Each (λ k. k < bound) busy
  pub each : (k : ℕ) → k < bound → Contains busy k ⊎ HaveFew columns k k needed

-- the places near the first: each other place below the bound has fewer places in common with it than needed
pub record AreNear (columns : List (List ℕ)) (bound first needed : ℕ) (near : List ℕ) : Type 0 where
  pub within : Each (λ k. k < bound) near
  pub each : (k : ℕ) → k < bound → Contains near k ⊎ HaveFew columns first k needed
