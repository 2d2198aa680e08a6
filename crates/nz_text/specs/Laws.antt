-- Laws of pieces.
use Rattle.std.specs.Prelude.{◌≡◌, ℕ, ◌≤◌, length}
use Rattle.nz_vec.specs.Texts.{Text}
use Rattle.nz_text.specs.declared.found.Found.{Found}
use Rattle.nz_text.specs.Pieces.{IsStep}

-- what stands behind a place is one thing
abbrev pub OneStep : Type 0
OneStep = (text : Text) (from : ℕ) (found other : Found) → from ≤ length text → IsStep text from found → IsStep text from other → found ≡ other
