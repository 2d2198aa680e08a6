use Rattle.std.proofs.Common.{refl, ◌∙◌}
use Rattle.nz_run.specs.declared.status.Status.TheVariants.{NoMemory}
use Rattle.nz_run.proofs.Composing.{refused_before, stored_done, stored_failed, stored_not, found_not_kept, stored_count, refused_count, says_refused, says_found, says_stored}
use Rattle.nz_run.proofs.top.find_and_store.Goals as goal

pub returns-in-Err-clause-outcome : goal.returns-in-Err-clause-outcome
returns-in-Err-clause-outcome g c = refused_before c.args.order.now _ _ c.args.input.now c.in-Err.status (g.F.Folder.files c.args.folder.now) (g.F.Folder.files c.args.folder.now) c.in-Err.ensures refl

pub returns-in-Err-clause-watch : goal.returns-in-Err-clause-watch
returns-in-Err-clause-watch g c = says_refused c.args.order.now _ _ c.args.input.now c.in-Err.status c.in-Err.ensures

pub returns-in-Err-clause-count : goal.returns-in-Err-clause-count
returns-in-Err-clause-count g c = refused_count c.args.order.now _ _ c.args.input.now c.in-Err.status _ _ c.in-Err.ensures

pub returns-in-Err-output_name-clause-outcome : goal.returns-in-Err-output_name-clause-outcome
returns-in-Err-output_name-clause-outcome g c = refused_before c.args.order.now _ _ c.args.input.now NoMemory (g.F.Folder.files c.args.folder.now) (g.F.Folder.files c.args.folder.now) (found_not_kept c.args.order.now c.in-Ok.found.kind _ _ c.args.input.now c.in-Ok.found.text c.in-Ok.ensures) refl

pub returns-in-Err-output_name-clause-watch : goal.returns-in-Err-output_name-clause-watch
returns-in-Err-output_name-clause-watch g c = says_found c.in-Ok.found.kind c.args.order.now.goals c.args.order.now.limit _ _ c.args.input.now c.in-Ok.found.text c.in-Ok.ensures.found

pub returns-in-Done-clause-outcome : goal.returns-in-Done-clause-outcome
returns-in-Done-clause-outcome g c =
    stored_done c.args.order.now c.in-Ok.found.kind _ _ c.as_str.result.now c.args.input.now c.in-Ok.found.text c.as_slice.result.now c.status_when_stored.result (g.F.Folder.files c.args.folder.now) (g.F.Folder.files c.store.new.self) c.in-Ok.ensures (c.as_str.ensures.value ∙ c.in-Ok-output_name.ensures) c.as_slice.ensures c.status_when_stored.ensures c.in-Done.ensures.files

pub returns-in-Done-clause-watch : goal.returns-in-Done-clause-watch
returns-in-Done-clause-watch g c = says_stored c.in-Ok.found.kind c.args.order.now.goals c.args.order.now.limit _ _ c.args.input.now c.in-Ok.found.text c.status_when_stored.result c.status_when_stored.ensures c.in-Ok.ensures.found

pub returns-in-Done-clause-count : goal.returns-in-Done-clause-count
returns-in-Done-clause-count g c = stored_count c.in-Ok.found.kind c.status_when_stored.result _ _ c.status_when_stored.ensures

pub returns-in-Failed-clause-outcome : goal.returns-in-Failed-clause-outcome
returns-in-Failed-clause-outcome g c =
    stored_failed c.args.order.now c.in-Ok.found.kind _ _ c.as_str.result.now c.args.input.now c.in-Ok.found.text c.as_slice.result.now (g.F.Folder.files c.args.folder.now) (g.F.Folder.files c.store.new.self) c.in-Ok.ensures (c.as_str.ensures.value ∙ c.in-Ok-output_name.ensures) c.in-Failed.ensures.files

pub returns-in-Failed-clause-watch : goal.returns-in-Failed-clause-watch
returns-in-Failed-clause-watch g c = says_found c.in-Ok.found.kind c.args.order.now.goals c.args.order.now.limit _ _ c.args.input.now c.in-Ok.found.text c.in-Ok.ensures.found

pub returns-clause-outcome : goal.returns-clause-outcome
returns-clause-outcome g c = stored_not c.args.order.now c.in-Ok.found.kind _ _ c.as_str.result.now c.args.input.now c.in-Ok.found.text c.as_slice.result.now (g.F.Folder.files c.args.folder.now) (g.F.Folder.files c.store.new.self) c.in-Ok.ensures c.in-NoMemory.ensures.files

pub returns-clause-watch : goal.returns-clause-watch
returns-clause-watch g c = says_found c.in-Ok.found.kind c.args.order.now.goals c.args.order.now.limit _ _ c.args.input.now c.in-Ok.found.text c.in-Ok.ensures.found
