use Rattle.std.proofs.Common.{rules}
use Rattle.nz_run.specs.Runs.{IsShort}
use Rattle.nz_run.proofs.KindsFound.{points_asked, found_for}
use Rattle.nz_run.proofs.finding.found.Goals as goal

pub file_found-requires : goal.file_found-requires
file_found-requires g c = λ e. points_asked c.args.order.now _ c.kind_for-kind.result c.in-Ok.file c.order.view_is c.kind_for-kind.ensures e

pub returns-in-Ok-file_found : goal.returns-in-Ok-file_found
returns-in-Ok-file_found g c =
    let short : IsShort c.args.input.now = search (rules, c.if-input-gt-MOST.false) in
    found_for c.args.order.now _ c.kind_for-kind.result _ _ c.in-Ok.file c.args.input.now c.order.view_is c.kind_for-kind.ensures short c.in-Ok.ensures.ok c.in-Ok-file_found.text c.in-Ok-file_found.ensures
