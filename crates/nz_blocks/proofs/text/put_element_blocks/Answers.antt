use Rattle.std.proofs.Common.{◌++◌, ◌∙◌, ap, ap₂, append_assoc, codes, List, Option}
use Rattle.nz_vec.specs.Texts.{Text}
use Rattle.nz_spec.specs.Vectors.{Vector}
use Rattle.nz_blocks.specs.Outcomes.{OutcomeData}
use Rattle.nz_blocks.specs.Output.{block_if_some, hilbert_blocks}
use Rattle.nz_blocks.proofs.Laying.{on_ok_map}
use Rattle.nz_blocks.proofs.text.put_element_blocks.Goals as goal

pub returns : goal.returns
returns c =
    let o = c.args.outcome.now in
    let modules = ap (λ (d : OutcomeData). d.modules) c.outcome.view_is in
    let block = ap₂ (λ (h : Text) (rows : Option (List Vector)). c.args.out.now ++ block_if_some h rows) c.as_slice.ensures modules in
    on_ok_map c.put_hilbert_blocks.result _ _ (λ e. e ∙ ap (λ (t : Text). t ++ hilbert_blocks o) (c.in_ok-put_block_if_some.ensures ∙ block) ∙ append_assoc c.args.out.now (block_if_some (codes " module generators:") o.modules) (hilbert_blocks o))
    c.put_hilbert_blocks.ensures
