use Rattle.std.proofs.Common.{◌∙◌, ap, sym, subst}
use Rattle.clap.specs.Walk.{rows_of}
use Rattle.clap.specs.Matches.{found_of}
use Rattle.nz_input.specs.Words.{goal_word}
use Rattle.nz_words.specs.Parts.{OfGoal}
use Rattle.nz_words.specs.Rules.{IsFlagIn, is_on}
use Rattle.nz_words.proofs.Choosing.{goals_more}
use Rattle.nz_words.proofs.reading.goals.Goals as goal

pub flag-requires : goal.flag-requires
flag-requires c = subst (IsFlagIn (rows_of (found_of c.args.matches.now))) (sym c.word_of.ensures) (c.requires (OfGoal _))

pub loop-place-preserved : goal.loop-place-preserved
loop-place-preserved c =
    let rows = rows_of (found_of c.args.matches.now) in
    goals_more (λ g. is_on (goal_word g) rows) c.loop-place.place _ c.flag.result c.loop-place.list c.push_where.new.goals c.loop-place-test.true (c.flag.ensures ∙ ap (λ w. is_on w rows) c.word_of.ensures) c.loop-place.invariant c.in-Ok.ensures
