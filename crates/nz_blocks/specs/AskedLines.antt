-- The line of an asked vector.
use Rattle.std.specs.Prelude.{ℕ, zero, suc, ◌+◌, ℤ, pos, negsuc, Bool, [], ◌∷◌, ◌++◌, codes, decimal, Option, Some, None}
use Rattle.std.specs.Fmt.{signed_decimal}
use Rattle.nz_vec.specs.Texts.{Text}
use Rattle.nz_vec.specs.Conditions.{condition_of}
use Rattle.nz_spec.specs.Vectors.{Vector, dot}
use Rattle.nz_spec.specs.Constraints.{Constraint as Condition, Zero, Multiple, NotNegative, form_of}
use Rattle.nz_member.specs.declared.reply.Reply.{Reply}
use Rattle.nz_member.specs.declared.reply.Reply.TheVariants.{Parts, Outside}
use Rattle.nz_blocks.specs.Outcomes.{Asked, at_level}
use Rattle.nz_blocks.specs.Columns.{entries}
use Rattle.nz_blocks.specs.Lines.{line}

-- the element at a place of the Hilbert basis, from 1, where it is taken
abbrev pub count_word : ℕ → ℤ → Text
count_word place (pos zero) = []
count_word place (negsuc n) = []
count_word place (pos (suc n)) = codes " " ++ decimal (suc n) ++ codes "*h" ++ decimal place

-- those that are taken, of which the first stands at this place
abbrev pub count_words : ℕ → Vector → Text
count_words place [] = []
count_words place (c ∷ counts) = count_word place c ++ count_words (place + 1) counts

-- the module generator, by its place from 1
abbrev pub module_word : Option ℕ → Text
module_word None = []
module_word (Some place) = codes " m" ++ decimal (place + 1)

-- what the form is to be
abbrev pub demand : Condition → Text
demand (Zero f) = codes " = 0"
demand (NotNegative f) = codes " >= 0"
demand (Multiple f m) = codes " = 0 mod " ++ signed_decimal m

-- a constraint that fails at x, and the value of its form there
abbrev pub outside_text : Vector → Condition → Text
outside_text x c = codes " out " ++ entries (form_of c) ++ demand c ++ codes " gives " ++ signed_decimal (dot (form_of c) x)

-- what is answered of x
abbrev pub reply_text : Vector → Reply ℤ → Text
reply_text x (Parts place counts) = codes " in" ++ count_words 1 counts ++ module_word place
reply_text x (Outside c) = outside_text x (condition_of (λ z. z) c)

-- the vector and what is answered of it
abbrev pub asked_line : Bool → Asked → Text
asked_line level a = line (entries a.0 ++ codes ":" ++ reply_text (at_level level a.0) a.1)
