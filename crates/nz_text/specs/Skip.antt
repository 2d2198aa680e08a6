-- How a reader passes over a gap.
use Rattle.std.specs.Prelude.{◌≡◌, ℕ, ◌==◌, ◌-◌, ◌≤◌, ◌<◌, if◌then◌else◌, List, [], ◌∷◌, length, take, drop, slice_index}
use Rattle.nz_text.specs.declared.pieces.Mode.{Mode}
use Rattle.nz_text.specs.declared.pieces.Mode.TheVariants.{Outside, Opening, Inside, Closing}
use Rattle.nz_text.specs.declared.pieces.Move.{Move}
use Rattle.nz_text.specs.declared.pieces.Move.TheVariants.{Go, Reach, Open}
use Rattle.nz_text.specs.declared.pieces.Landing.{Landing}
use Rattle.nz_text.specs.declared.pieces.Landing.TheVariants.{Reached, Opened}
use Rattle.nz_text.specs.declared.found.Found.{Found}
use Rattle.nz_text.specs.declared.found.Found.TheVariants.{Piece, End, Bad}
use Rattle.nz_text.specs.declared.found.TextFault.TheVariants.{Byte, OpenComment}
use Rattle.nz_text.specs.declared.pieces.Class.{Class}
use Rattle.nz_text.specs.declared.pieces.Class.TheVariants.{Blank, Slash, Solid, Foreign}
use Rattle.nz_text.specs.Bytes.{class_of, IsSolid, IsEdge}

-- the bytes behind a gap, or those behind what is left of a comment that is not closed
pub data Skipped : Type 0 where
  Reaches : List ℕ → Skipped
  Opens : List ℕ → Skipped

-- by the class of a byte: at a blank, at a slash, and at any other
abbrev pub by_class : Class → Skipped → Skipped → Skipped → Skipped
by_class Blank blank slash other = blank
by_class Slash blank slash other = slash
by_class Solid blank slash other = other
by_class Foreign blank slash other = other

-- where a reader of a gap ends, from outside comments or within one
unfoldable pub skip : Mode → List ℕ → Skipped
skip Outside [] = Reaches []
skip Outside (b ∷ bytes) = by_class (class_of b) (skip Outside bytes) (skip Opening bytes) (Reaches (b ∷ bytes))
skip Opening [] = Opens []
skip Opening (b ∷ bytes) = if b == 42 then skip Inside bytes else Opens (b ∷ bytes)
skip Inside [] = Opens []
skip Inside (b ∷ bytes) = if b == 42 then skip Closing bytes else skip Inside bytes
skip Closing [] = Opens []
skip Closing (b ∷ bytes) = if b == 47 then skip Outside bytes else (if b == 42 then skip Closing bytes else skip Inside bytes)

-- what a move says of a byte and the bytes behind it
abbrev pub Goes : Mode → ℕ → List ℕ → Move → Type 0
Goes m b rest (Go n) = skip m (b ∷ rest) ≡ skip n rest
Goes m b rest Reach = skip m (b ∷ rest) ≡ Reaches (b ∷ rest)
Goes m b rest Open = skip m (b ∷ rest) ≡ Opens (b ∷ rest)

-- from a place a gap ends here, or a comment that is not closed
abbrev pub Lands : List ℕ → ℕ → Landing → Type 0
Lands text from (Reached at) = (at ≤ length text) × (skip Outside (drop from text) ≡ Reaches (drop at text))
Lands text from (Opened at) = (at ≤ length text) × (skip Outside (drop from text) ≡ Opens (drop at text))

-- what stands behind the gap from a place on
abbrev pub Finds : List ℕ → ℕ → Found → Type 0
Finds text from (Piece span) = (span.start < span.end) × (span.end ≤ length text) × (skip Outside (drop from text) ≡ Reaches (drop span.start text))
    × IsSolid (take (span.end - span.start) (drop span.start text)) × IsEdge (drop span.end text)
Finds text from End = skip Outside (drop from text) ≡ Reaches []
Finds text from (Bad at Byte) = (at < length text) × (skip Outside (drop from text) ≡ Reaches (drop at text)) × (class_of (slice_index text at) ≡ Foreign)
Finds text from (Bad at OpenComment) = (at ≤ length text) × (skip Outside (drop from text) ≡ Opens (drop at text))
