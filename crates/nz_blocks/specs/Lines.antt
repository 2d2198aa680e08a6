-- Lines of text.
use Rattle.std.specs.Prelude.{[], ◌∷◌, ◌++◌}
use Rattle.nz_vec.specs.Texts.{Text}

-- the text and an end of line
abbrev pub line : Text → Text
line text = text ++ 10 ∷ []
