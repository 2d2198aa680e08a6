use Rattle.std.proofs.Common.{length, ap, sym, ◌∙◌}
use Rattle.nz_spec.specs.Vectors.{unit_vectors}
use Rattle.nz_units.proofs.SystemLemmas.{for_units, lists_at}
use Rattle.nz_units.proofs.systems.units_there.Goals as goal

pub units-requires-2 : goal.units-requires-2
units-requires-2 g c = for_units (length c.args.frame.now.base.vectors) c.from_vec-lattice.result c.args.frame.now.rows (c.from_vec-lattice.ensures ∙ c.in-Ok.ensures ∙ ap unit_vectors c.rank.ensures.count) c.requires.wide

pub returns-in-Ok-units-clause-lists : goal.returns-in-Ok-units-clause-lists
returns-in-Ok-units-clause-lists g c = lists_at (length c.args.frame.now.base.vectors) c.from_vec-lattice.result c.args.frame.now.rows c.in-Ok-units.lists.units c.in-Ok-units.lists.classes (c.from_vec-lattice.ensures ∙ c.in-Ok.ensures ∙ ap unit_vectors c.rank.ensures.count) c.in-Ok-units.ensures.lists
