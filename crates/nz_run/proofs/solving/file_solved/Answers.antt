use Rattle.std.proofs.Common.{inl, rules}
use Rattle.nz_watch.proofs.TellingLemmas.{none_told}
use Rattle.nz_run.proofs.Answering.{file_solved, file_refused}
use Rattle.nz_run.proofs.solving.file_solved.Goals as goal

pub returns-in-Err-Meaning : goal.returns-in-Err-Meaning
returns-in-Err-Meaning g c = (search (rules, c.in-Err-Meaning.ensures), none_told _)

pub returns-in-Err-NoMemory : goal.returns-in-Err-NoMemory
returns-in-Err-NoMemory g c = inl (none_told _)

pub returns-in-Ok-answer : goal.returns-in-Ok-answer
returns-in-Ok-answer g c =
    let meant = c.in-Ok.ensures in
    file_solved c.args.goals.now c.args.limit _ _ c.args.file.now c.in-Ok.system c.in-Ok-answer.text meant.0 meant.1 c.in-Ok-answer.ensures.0 c.in-Ok-answer.ensures.1

pub returns : goal.returns
returns g c =
    let meant = c.in-Ok.ensures in
    file_refused c.args.goals.now c.args.limit _ _ c.args.file.now c.in-Ok.system c.in-Err.refusal c.status_of.result c.status_of.ensures meant.0 meant.1 c.in-Err.ensures
