-- The line and the column of a place: those behind the bytes before it.
use Rattle.std.specs.Prelude.{ℕ, ◌+◌, ◌==◌, if◌then◌else◌, [], ◌∷◌, take}
use Rattle.nz_vec.specs.Texts.{Text}

-- the line behind these bytes, from a line on: each end of line leads to the next
abbrev pub line_from : ℕ → Text → ℕ
line_from line [] = line
line_from line (b ∷ bytes) = if b == 10 then line_from (line + 1) bytes else line_from line bytes

-- the column behind these bytes, from a column on: each byte takes one, and a line begins at 1
abbrev pub column_from : ℕ → Text → ℕ
column_from column [] = column
column_from column (b ∷ bytes) = if b == 10 then column_from 1 bytes else column_from (column + 1) bytes

-- the line of the place behind so many bytes, from 1
abbrev pub line_at : Text → ℕ → ℕ
line_at text at = line_from 1 (take at text)

-- the column of the place behind so many bytes, from 1
abbrev pub column_at : Text → ℕ → ℕ
column_at text at = column_from 1 (take at text)
