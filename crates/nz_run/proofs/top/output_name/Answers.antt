use Rattle.std.proofs.Common.{◌∙◌, ◌++◌, ap, ap₂}
use Rattle.std.proofs.lemmas.Result.{IfOk-weaker}
use Rattle.nz_vec.specs.Texts.{Text}
use Rattle.nz_words.specs.Orders.{OrderData}
use Rattle.nz_run.proofs.top.output_name.Goals as goal

pub returns : goal.returns
returns c =
    let project = c.as_str.ensures ∙ ap (λ (o : OrderData). o.project) c.order.view_is in
    IfOk-weaker c.file_name.result _ _ (λ name h. h ∙ ap₂ (λ (s t : Text). s ++ t) project c.ending.ensures) c.file_name.ensures
