use Rattle.nz_system.proofs.Drafting.{others-taken}
use Rattle.nz_system.proofs.draft.Draft.take_others.Goals as goal

pub returns : goal.returns
returns c =
    others-taken c.args.level c.args.file.now c.file.inside.amb c.file.inside.items c.file.inside.goals c.stands-bounded.result c.stands_without-with_vertex.result c.args.self.now c.take_orthant.new.self c.take_level.new.self c.file.view_is c.stands-bounded.ensures c.stands_without-with_vertex.ensures c.in_ok-take_orthant.ensures c.in_ok-take_level.ensures
