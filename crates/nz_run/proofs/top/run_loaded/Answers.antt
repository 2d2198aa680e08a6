use Rattle.std.proofs.Common.{[], ◌∙◌, sym, subst}
use Rattle.nz_vec.specs.Texts.{Text}
use Rattle.nz_edge.specs.Answers.{OnTold, LoadGives}
use Rattle.nz_edge.specs.declared.folder.Load.TheVariants as load
use Rattle.nz_watch.proofs.TellingLemmas.{none_told}
use Rattle.nz_run.proofs.Composing.{loaded_and_stored}
use Rattle.nz_run.proofs.top.run_loaded.Goals as goal

pub returns-in-Err-clause-watch : goal.returns-in-Err-clause-watch
returns-in-Err-clause-watch g c = ([], none_told _)

pub returns-clause-watch : goal.returns-clause-watch
returns-clause-watch g c = ([], none_told _)

pub returns-in-Bytes-clause-outcome : goal.returns-in-Bytes-clause-outcome
returns-in-Bytes-clause-outcome g c =
    let gives = subst (λ (t : Text). OnTold (g.F.Folder.files c.args.folder.now) (λ files. LoadGives files c.as_str.result.now 16777216 (g.F.Folder.faults c.args.folder.now) (g.F.Folder.faults c.load.new.self) (load.Bytes t))) (sym c.as_slice.ensures) c.in-Bytes.ensures.gives in
    loaded_and_stored c.args.order.now _ _ _ _ _ _ c.find_and_store.result _ _ _ c.requires (c.as_str.ensures.value ∙ c.in-Ok.ensures) c.in-Bytes.ensures.files gives c.find_and_store.ensures.outcome
