use Rattle.std.proofs.Common.{◌≤◌, ◌<◌, length, sym, subst}
use Rattle.std.specs.List.{AllByRecursion as Each}
use Rattle.nz_spec.specs.Vectors.{Vector}
use Rattle.nz_input.specs.Files.{ItemData}
use Rattle.nz_system.proofs.Ruling.{each-at}
use Rattle.nz_system.proofs.rules.item_refusal.Goals as goal

pub rows_refusal-requires-clause-few : goal.rows_refusal-requires-clause-few
rows_refusal-requires-clause-few c = subst (λ (i : ItemData). length i.rows ≤ 1024) (sym c.item.view_is) (each-at (λ (i : ItemData). length i.rows ≤ 1024) c.args.items.now c.args.place c.at-item.result.now c.requires.few c.at-item.ensures)

pub rows_refusal-requires-clause-entries : goal.rows_refusal-requires-clause-entries
rows_refusal-requires-clause-entries c = subst (λ (i : ItemData). Each (λ (r : Vector). 0 < length r) i.rows) (sym c.item.view_is) (each-at (λ (i : ItemData). Each (λ (r : Vector). 0 < length r) i.rows) c.args.items.now c.args.place c.at-item.result.now c.requires.entries c.at-item.ensures)
