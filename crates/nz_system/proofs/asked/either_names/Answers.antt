use Rattle.nz_system.proofs.Asking.{either-then, either-else}
use Rattle.nz_system.proofs.asked.either_names.Goals as goal

pub returns-then-names : goal.returns-then-names
returns-then-names c = either-then c.args.goal c.args.first.now c.args.second.now c.names.result c.names.ensures c.if-names.true

pub returns-else-names : goal.returns-else-names
returns-else-names c = either-else c.args.goal c.args.first.now c.args.second.now c.names.result c.names-else-names.result c.names.ensures c.if-names.false c.names-else-names.ensures
