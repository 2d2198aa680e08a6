-- Texts: what a list of bytes is seen as.
use Rattle.std.specs.Prelude.{ℕ, List}

-- a list of bytes
abbrev pub Text : Type 0
Text = List ℕ
