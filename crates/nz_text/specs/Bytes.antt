-- Bytes, gaps and pieces of a text.
use Rattle.std.specs.Prelude.{◌≡◌, ◌≢◌, ℕ, nat_le, ◌==◌, ◌&&◌, ◌||◌, if◌then◌else◌, List, [], ◌∷◌, ◌++◌}
use Rattle.std.specs.List.{flat_map, AllByRecursion}
use Rattle.nz_text.specs.declared.pieces.Class.{Class}
use Rattle.nz_text.specs.declared.pieces.Class.TheVariants.{Blank, Slash, Solid, Foreign}

-- What a byte is, outside comments.
abbrev pub class_of : ℕ → Class
class_of b = if (b == 32) || (b == 9) || (b == 10) || (b == 13) then Blank else (if b == 47 then Slash else (if nat_le 33 b && nat_le b 126 then Solid else Foreign))

-- no `*/` in it
abbrev pub NoClose : List ℕ → Type 0
NoClose body = (front back : List ℕ) → body ≢ front ++ 42 ∷ 47 ∷ back

-- a blank, or a comment with this between its `/*` and `*/`
pub data Part : Type 0 where
  Space : ℕ → Part
  Comment : List ℕ → Part

-- its bytes
abbrev pub part_bytes : Part → List ℕ
part_bytes (Space b) = b ∷ []
part_bytes (Comment body) = 47 ∷ 42 ∷ (body ++ 42 ∷ 47 ∷ [])

-- a blank is one, and what is between the marks of a comment closes it nowhere
abbrev pub IsPart : Part → Type 0
IsPart (Space b) = class_of b ≡ Blank
IsPart (Comment body) = NoClose body

-- a sequence of blanks and comments
pub record IsGap (bytes : List ℕ) : Type 0 where
  pub parts : List Part
  pub each : AllByRecursion IsPart parts
  pub whole : bytes ≡ flat_map part_bytes parts

-- a comment that is not closed, or the `/` that begins one
abbrev pub IsOpenComment : List ℕ → Type 0
IsOpenComment [] = ⊥
IsOpenComment (a ∷ []) = a ≡ 47
IsOpenComment (a ∷ b ∷ body) = (a ≡ 47) × (b ≡ 42) × NoClose body

-- a run of bytes that may be a piece
abbrev pub IsSolid : List ℕ → Type 0
IsSolid bytes = AllByRecursion (λ b. class_of b ≡ Solid) bytes

-- no run of such bytes goes on here
abbrev pub IsEdge : List ℕ → Type 0
IsEdge [] = Unit {0}
IsEdge (b ∷ bytes) = class_of b ≢ Solid

-- An open comment, and what comes behind it: nothing, or behind its `/` a byte that is no `*`.
abbrev pub IsHanging : List ℕ → List ℕ → Type 0
IsHanging comment [] = IsOpenComment comment
IsHanging comment (b ∷ rest) = (comment ≡ 47 ∷ []) × (b ≢ 42)
