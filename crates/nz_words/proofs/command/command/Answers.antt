use Rattle.std.proofs.Common.{◌∙◌, ap, ap₂, true}
use Rattle.std.proofs.lemmas.Result.{IfOk-weaker}
use Rattle.clap.specs.Simple.{app_of_fields, on_top, with_rule}
use Rattle.nz_words.proofs.command.command.Goals as goal

pub returns : goal.returns
returns c =
    let start = ap app_of_fields c.disable_help_flag-made.ensures
    ∙ ap (λ f. app_of_fields (record f { disable_help_flag = true })) c.no_binary_name.ensures
    ∙ ap (on_top (λ s. record s { no_binary_name = true; disable_help_flag = true })) c.new.ensures.app in
    let step1 = c.in_ok-made.ensures ∙ ap₂ with_rule start c.flag.ensures.rule in
    let step2 = c.in_ok-made-2.ensures ∙ ap₂ with_rule step1 c.flag-2.ensures.rule in
    let step3 = c.in_ok-made-3.ensures ∙ ap₂ with_rule step2 c.flag-3.ensures.rule in
    let step4 = c.in_ok-made-4.ensures ∙ ap₂ with_rule step3 c.flag-4.ensures.rule in
    let step5 = c.in_ok-made-5.ensures ∙ ap₂ with_rule step4 c.flag-5.ensures.rule in
    let step6 = c.in_ok-made-6.ensures ∙ ap₂ with_rule step5 c.flag-6.ensures.rule in
    let step7 = c.in_ok-made-7.ensures ∙ ap₂ with_rule step6 c.flag-7.ensures.rule in
    let step8 = c.in_ok-made-8.ensures ∙ ap₂ with_rule step7 c.flag-8.ensures.rule in
    let step9 = c.in_ok-made-9.ensures ∙ ap₂ with_rule step8 c.flag-9.ensures.rule in
    let step10 = c.in_ok-made-10.ensures ∙ ap₂ with_rule step9 c.flag-10.ensures.rule in
    let step11 = c.in_ok-made-11.ensures ∙ ap₂ with_rule step10 c.flag-11.ensures.rule in
    let step12 = c.in_ok-made-12.ensures ∙ ap₂ with_rule step11 c.flag-12.ensures.rule in
    let step13 = c.in_ok-made-13.ensures ∙ ap₂ with_rule step12 c.setting.ensures.rule in
    let step14 = c.in_ok-made-14.ensures ∙ ap₂ with_rule step13 c.setting-2.ensures.rule in
    let step15 = c.in_ok-made-15.ensures ∙ ap₂ with_rule step14 c.setting-3.ensures.rule in
    IfOk-weaker c.with-16.result _ _ (λ made h. h ∙ ap₂ with_rule step15 c.project.ensures.rule) c.with-16.ensures
