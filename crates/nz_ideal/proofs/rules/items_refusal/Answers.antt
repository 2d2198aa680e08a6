use Rattle.std.proofs.Common.{arith, length, ap, ◌∙◌}
use Rattle.nz_input.specs.Files.{ItemData}
use Rattle.nz_system.proofs.Ruling.{items-count}
use Rattle.nz_ideal.proofs.Ruling.{items-stop, items-go, items-within}
use Rattle.nz_ideal.proofs.rules.items_refusal.Goals as goal

pub returns-in-Some : goal.returns-in-Some
returns-in-Some c = items-stop c.args.items.now c.loop-place.place c.in-Some.refusal c.item_refusal.result (omega (arith, c.loop-place-test.true, c.len-place-end.ensures)) c.item_refusal.ensures c.in-Some.is c.loop-place.invariant.2

pub overflow_add-others : goal.overflow_add-others
overflow_add-others c =
    let r = items-within c.args.items.now c.loop-place.place c.at.result.now c.loop-place.others c.len-others.result c.item_refusal.result c.at.ensures c.item_refusal.ensures c.in-None.is c.loop-place.invariant.0 c.loop-place.invariant.1 (c.len-others.ensures ∙ ap (λ (i : ItemData). length i.rows) c.behind-items.view_is) in
    omega (arith, r)

pub loop-place-preserved : goal.loop-place-preserved
loop-place-preserved c =
    let same = c.len-others.ensures ∙ ap (λ (i : ItemData). length i.rows) c.behind-items.view_is in (
      items-count c.args.items.now c.loop-place.place c.at.result.now c.loop-place.others c.len-others.result c.at.ensures c.loop-place.invariant.0 same,
      items-within c.args.items.now c.loop-place.place c.at.result.now c.loop-place.others c.len-others.result c.item_refusal.result c.at.ensures c.item_refusal.ensures c.in-None.is c.loop-place.invariant.0 c.loop-place.invariant.1 same,
      items-go c.args.items.now c.loop-place.place c.at.result.now c.item_refusal.result c.at.ensures c.item_refusal.ensures c.in-None.is c.loop-place.invariant.2,
    )
