use Rattle.std.proofs.Common.{◌≡◌, take}
use Rattle.std.specs.Prelude.{filter}
use Rattle.clap.specs.Walk.{rows_of}
use Rattle.clap.specs.Matches.{found_of}
use Rattle.nz_input.specs.Words.{goal_word}
use Rattle.nz_words.specs.Orders.{all_goals}
use Rattle.nz_words.specs.Rules.{is_on}
use Rattle.nz_words.proofs.reading.goals.Given as goal

abbrev pub invariant-loop-place : goal.invariant-loop-place
invariant-loop-place l = l.list ≡ filter (λ g. is_on (goal_word g) (rows_of (found_of l.matches))) (take l.place all_goals)
