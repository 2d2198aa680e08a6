-- Files by name, and what a change leaves of them.
use Rattle.std.specs.Prelude.{◌≡◌, ◌≢◌, Option, Some, None}
use Rattle.nz_vec.specs.Texts.{Text}

-- what stands under each name
abbrev pub Files : Type 0
Files = Text → Option Text

-- where both are told
abbrev pub BothTold : {A : Type 0} → Option A → Option A → (A → A → Type 0) → Type 0
BothTold None None P = Unit {0}
BothTold (Some a) (Some b) P = P a b
BothTold (Some a) None P = ⊥
BothTold None (Some b) P = ⊥

-- no file changed
abbrev pub SameFiles : Files → Files → Type 0
SameFiles old new = (name : Text) → new name ≡ old name

-- at most the file of this name changed
abbrev pub SameOthers : Text → Files → Files → Type 0
SameOthers name old new = (other : Text) → other ≢ name → new other ≡ old other

-- the file of this name has these bytes, and every other file is as before
pub record Stores (name bytes : Text) (old new : Files) : Type 0 where
  pub stored : new name ≡ Some bytes
  pub others : SameOthers name old new
