use Rattle.std.proofs.Common.{[], ◌∙◌}
use Rattle.nz_watch.proofs.TellingLemmas.{none_told}
use Rattle.nz_run.proofs.Composing.{made_and_stored}
use Rattle.nz_run.proofs.top.run_made.Goals as goal

pub returns-in-Err-clause-watch : goal.returns-in-Err-clause-watch
returns-in-Err-clause-watch g c = ([], none_told _)

pub returns-clause-outcome : goal.returns-clause-outcome
returns-clause-outcome g c =
    made_and_stored c.args.side c.args.order.now _ _ _ _ _ c.find_and_store.result _ _ c.requires.made (c.as_slice.ensures ∙ c.in-Ok.ensures) c.find_and_store.ensures.outcome
