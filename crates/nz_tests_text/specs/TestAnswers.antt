-- What is answered of numbers by the numbers of at least 1, and by the odd ones of these: the cases of the tests.
use Rattle.std.specs.Prelude.{pos, negsuc, [], ◌∷◌, Some}
use Rattle.nz_vec.specs.declared.constraints.Constraint.TheVariants.{NotNegative, Multiple}
use Rattle.nz_member.specs.declared.reply.Reply.TheVariants.{Parts, Outside}
use Rattle.nz_blocks.specs.Outcomes.{Asked}

-- 3 is 2 times the element and the module generator
abbrev pub three : Asked
three = (pos 3 ∷ [], Parts (Some 0) (pos 2 ∷ []))

-- 0 fails to be at least 1
abbrev pub zero_fails : Asked
zero_fails = (pos 0 ∷ [], Outside (NotNegative (pos 1 ∷ negsuc 0 ∷ [])))

-- 3 is the element and the module generator of the odd numbers
abbrev pub odd_three : Asked
odd_three = (pos 3 ∷ [], Parts (Some 0) (pos 1 ∷ []))

-- 2 fails to be odd
abbrev pub two_fails : Asked
two_fails = (pos 2 ∷ [], Outside (Multiple (pos 1 ∷ negsuc 0 ∷ []) (pos 2)))
