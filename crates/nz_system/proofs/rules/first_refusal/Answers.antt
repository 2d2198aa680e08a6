use Rattle.nz_system.proofs.Ruling.{file-few, file-entries, items-first}
use Rattle.nz_system.proofs.rules.first_refusal.Goals as goal

pub items_refusal-requires-clause-few : goal.items_refusal-requires-clause-few
items_refusal-requires-clause-few c = file-few (record { amb = c.file.inside.amb; items = c.file.inside.items; goals = c.file.inside.goals }) c.file.invariant

pub items_refusal-requires-clause-entries : goal.items_refusal-requires-clause-entries
items_refusal-requires-clause-entries c = file-entries (record { amb = c.file.inside.amb; items = c.file.inside.items; goals = c.file.inside.goals }) c.file.invariant

pub returns-in-Some : goal.returns-in-Some
returns-in-Some c = items-first c.args.file.now c.file.inside.amb c.file.inside.items c.file.inside.goals c.args.goals c.either_stands-forbidden.result c.in-Some.refusal c.items_refusal.result c.file.view_is c.either_stands-forbidden.ensures c.items_refusal.ensures c.in-Some.is
