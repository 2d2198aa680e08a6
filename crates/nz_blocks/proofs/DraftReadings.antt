-- Reading the lists of an outcome.
use Rattle.std.proofs.Common.{◌≡◌, ℕ, ◌+◌, ◌<◌, ◌^◌, pos, Bool, List, [], ◌∷◌, ◌++◌, sym, ap, subst, ◌∙◌, arith, Option, Some, None, IfSome, FitsSigned}
use Rattle.std.specs.Int.{w128}
use Rattle.std.specs.List.{AllByRecursion as Each}
use Rattle.nz_vec.specs.Texts.{Text}
use Rattle.nz_vec.specs.Conditions.{condition_of}
use Rattle.nz_spec.specs.Vectors.{Vector}
use Rattle.nz_spec.specs.Constraints.{form_of}
use Rattle.nz_member.specs.declared.reply.Reply.TheVariants.{Parts, Outside}
use Rattle.nz_member.proofs.Multiples.{fits_dot}
use Rattle.nz_blocks.specs.Beginnings.{BeginsBlock}
use Rattle.nz_blocks.specs.Held.{IsHeld, IsHeldList, IsHeldAnswer}
use Rattle.nz_blocks.specs.Outcomes.{OutcomeData, Asked, IsAsked, at_level, number}
use Rattle.nz_blocks.specs.Output.{asked_block}
use Rattle.nz_blocks.specs.Sections.{headings, lists_of, sections}
use Rattle.nz_blocks.specs.Readings.{IsReadable}
use Rattle.nz_blocks.proofs.OneOutcome.{headings_apart, none_begins}

place_next : (n : ℕ) (place : Option ℕ) → n < 2 ^ 64 → IfSome place (λ p. p < n) → IfSome place (λ p. p + 1 < 2 ^ 64)
place_next n None few h = tt
place_next n (Some p) few h = omega (arith, few, h)

zero_fits : FitsSigned w128 (pos 0)
zero_fits = record { sfits = omega arith }

readable : (o : OutcomeData) (a : Asked) → number o.modules < 2 ^ 64 → IsAsked o a → IsHeldAnswer a → IsReadable (number o.hilbert) o.level a
readable o (x, Parts m cs) few is held = record { held = held; shown = (is.answer.size, is.answer.not_negative, place_next (number o.modules) m few is.answer.below) }
readable o (x, Outside c) few is held = record { held = held; shown = fits_dot (FitsSigned w128) (form_of (condition_of (λ z. z) c)) (at_level o.level x) zero_fits is.answer.value }

all_readable : (o : OutcomeData) (xs : List Asked) → number o.modules < 2 ^ 64 → Each (IsAsked o) xs → Each IsHeldAnswer xs → Each (IsReadable (number o.hilbert) o.level) xs
all_readable o [] few is held = tt
all_readable o (x ∷ xs) few is held = (readable o x few is.0 held.0, all_readable o xs few is.1 held.1)

-- the asked vectors of an outcome are read
pub readable_list : (o : OutcomeData) (n : ℕ) (xs : Option (List Asked)) → n ≡ number o.hilbert → number o.modules < 2 ^ 64 → IfSome xs (Each (IsAsked o)) → IfSome xs (IsHeldList IsHeldAnswer) → IfSome xs (IsHeldList (IsReadable n o.level))
readable_list o n None e few is held = tt
readable_list o n (Some xs) e few is held = subst (λ (k : ℕ). IsHeldList (IsReadable k o.level) xs) (sym e) (record { count = held.count; each = all_readable o xs few is held.each })

-- what stands behind the head
abbrev pub below_head : Bool → OutcomeData → Text
below_head level o = sections (headings level) (lists_of o) ++ asked_block o.level o.asked

pub sections_there : (here : Text) (o : OutcomeData) (level : Bool) → level ≡ o.level → here ≡ below_head o.level o → here ≡ below_head level o
sections_there here o level l e = e ∙ ap (λ (k : Bool). below_head k o) (sym l)

pub none_there : (o : OutcomeData) (level : Bool) → IsHeld o → Each (λ h. ¬ BeginsBlock h (asked_block o.level o.asked)) (headings level)
none_there o level held = none_begins o.level (headings level) o.asked (headings_apart level).1 held.asked

pub places_for : (o : OutcomeData) (n : ℕ) (generators : Option (List Vector)) → n ≡ number generators → generators ≡ o.generators → IfSome o.simplices (Each (Each (λ p. p < number o.generators))) → IfSome o.simplices (Each (Each (λ p. p < n)))
places_for o n generators e g h = subst (λ (k : ℕ). IfSome o.simplices (Each (Each (λ p. p < k)))) (sym (e ∙ ap number g)) h
