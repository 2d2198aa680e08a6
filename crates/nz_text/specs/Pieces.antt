-- Pieces of a text, with gaps between them.
use Rattle.std.specs.Prelude.{◌≡◌, ℕ, ◌-◌, ◌≤◌, ◌<◌, List, [], ◌∷◌, ◌++◌, length, take, drop, slice_index}
use Rattle.nz_vec.specs.Texts.{Text}
use Rattle.nz_text.specs.declared.found.Span.{Span}
use Rattle.nz_text.specs.declared.found.Found.{Found}
use Rattle.nz_text.specs.declared.found.Found.TheVariants.{Piece, End, Bad}
use Rattle.nz_text.specs.declared.found.TextFault.{TextFault}
use Rattle.nz_text.specs.declared.found.TextFault.TheVariants.{Byte, OpenComment}
use Rattle.nz_text.specs.declared.found.TextRefusal.{TextRefusal}
use Rattle.nz_text.specs.declared.found.TextRefusal.TheVariants as refusal
use Rattle.nz_text.specs.declared.pieces.Class.TheVariants.{Foreign}
use Rattle.nz_text.specs.Bytes.{class_of, IsSolid, IsEdge, IsGap, IsHanging}

-- What a step finds, in the words of the grammar: behind a gap a piece, the end, a foreign byte, or a comment that is not closed.
abbrev pub IsStep : Text → ℕ → Found → Type 0
IsStep text from (Piece span) = (from ≤ span.start) × (span.start < span.end) × (span.end ≤ length text) × IsGap (take (span.start - from) (drop from text))
    × IsSolid (take (span.end - span.start) (drop span.start text)) × IsEdge (drop span.end text)
IsStep text from End = IsGap (drop from text)
IsStep text from (Bad at Byte) = (from ≤ at) × (at < length text) × IsGap (take (at - from) (drop from text)) × (class_of (slice_index text at) ≡ Foreign)
IsStep text from (Bad at OpenComment) = (at ≤ length text) × (gap comment : List ℕ) × IsGap gap × IsHanging comment (drop at text) × (drop from text ≡ gap ++ (comment ++ drop at text))

-- These are the pieces from one place to another, in order.
abbrev pub Leads : Text → ℕ → List Span → ℕ → Type 0
Leads text from [] end = from ≡ end
Leads text from (span ∷ spans) end = IsStep text from (Piece span) × Leads text span.end spans end

-- the pieces of the whole text, in order, with only a gap behind the last
abbrev pub ArePieces : Text → List Span → Type 0
ArePieces text spans = (end : ℕ) × Leads text 0 spans end × IsStep text end End

-- behind whole pieces the first fault of the text
abbrev pub IsFirstFault : Text → ℕ → TextFault → Type 0
IsFirstFault text at fault = (spans : List Span) × (end : ℕ) × Leads text 0 spans end × IsStep text end (Bad at fault)

-- why the pieces are not given
abbrev pub IsTextRefusal : Text → TextRefusal → Type 0
IsTextRefusal text (refusal.Bad at fault) = IsFirstFault text at fault
IsTextRefusal text refusal.NoMemory = Unit {0}
