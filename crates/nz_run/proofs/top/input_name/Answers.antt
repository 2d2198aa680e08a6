use Rattle.std.proofs.Common.{◌∙◌, ◌++◌, ap, codes}
use Rattle.std.proofs.lemmas.Result.{IfOk-weaker}
use Rattle.nz_vec.specs.Texts.{Text}
use Rattle.nz_words.specs.Orders.{OrderData}
use Rattle.nz_run.proofs.top.input_name.Goals as goal

pub returns : goal.returns
returns c =
    let project = c.as_str.ensures ∙ ap (λ (o : OrderData). o.project) c.order.view_is in
    IfOk-weaker c.file_name.result _ _ (λ name h. h ∙ ap (λ (t : Text). t ++ codes ".in") project) c.file_name.ensures
