use Rattle.std.proofs.Common.{rules}
use Rattle.nz_watch.proofs.TellingLemmas.{none_told}
use Rattle.nz_run.proofs.PointTexts.{has_level, points_refused}
use Rattle.nz_run.proofs.pointing.points_listed.Goals as goal

pub returns-in-Err-Meaning : goal.returns-in-Err-Meaning
returns-in-Err-Meaning c = λ w. (search (rules, c.in-Err-Meaning.ensures), none_told w)

pub returns-in-Err-NoMemory : goal.returns-in-Err-NoMemory
returns-in-Err-NoMemory c = λ w. none_told w

pub system_points-requires : goal.system_points-requires
system_points-requires c = has_level c.args.file.now c.args.goals.now c.in-Ok.system c.in-Ok.ensures.1 c.kept.ensures c.requires

pub returns-in-Err : goal.returns-in-Err
returns-in-Err c =
    let meant = c.in-Ok.ensures in
    points_refused c.args.goals.now c.args.limit c.args.file.now c.in-Ok.system c.in-Err.refusal c.status_of_work.result c.status_of_work.ensures meant.0 meant.1 c.in-Err.ensures
