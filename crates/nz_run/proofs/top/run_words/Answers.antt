use Rattle.std.proofs.Common.{refl}
use Rattle.nz_words.specs.Parts.{bytes_of_each}
use Rattle.nz_run.proofs.Composing.{explains_words, words_unasked, side_within, told_same, same_told, no_memory}
use Rattle.nz_run.proofs.top.run_words.Goals as goal

pub run_order-status-requires : goal.run_order-status-requires
run_order-status-requires g c = side_within (bytes_of_each c.args.words.now) _ c.in-Ok.ensures

pub returns-in-Ok-clause-outcome : goal.returns-in-Ok-clause-outcome
returns-in-Ok-clause-outcome g c =
    explains_words (bytes_of_each c.args.words.now) c.in-Ok.order _ _ _ _ c.run_order-status.result _ _ c.in-Ok.ensures c.run_order-status.ensures.not_usage c.run_order-status.ensures.outcome

pub returns-in-Ok-clause-usage_always : goal.returns-in-Ok-clause-usage_always
returns-in-Ok-clause-usage_always g c = λ refused. absurd (refused _ c.in-Ok.ensures)

pub returns-in-Ok-clause-unasked : goal.returns-in-Ok-clause-unasked
returns-in-Ok-clause-unasked g c = words_unasked (bytes_of_each c.args.words.now) c.in-Ok.order _ _ _ _ c.in-Ok.ensures c.run_order-status.ensures.unasked

pub returns-in-Err-Usage-clause-outcome : goal.returns-in-Err-Usage-clause-outcome
returns-in-Err-Usage-clause-outcome g c =
    told_same (g.F.Folder.files c.args.folder.now) _ (λ files. (c.in-Err-Usage.ensures c.in-Err-Usage.field-0-is, λ name. refl))

pub returns-in-Err-NoMemory-clause-outcome : goal.returns-in-Err-NoMemory-clause-outcome
returns-in-Err-NoMemory-clause-outcome g c = no_memory (bytes_of_each c.args.words.now) _ (g.F.Folder.faults c.args.folder.now) (g.F.Folder.faults c.args.folder.now) (g.F.Folder.files c.args.folder.now) (g.F.Folder.files c.args.folder.now) (same_told (g.F.Folder.files c.args.folder.now))
