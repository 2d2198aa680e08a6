use Rattle.std.proofs.Common.{length, refl, get_or, []}
use Rattle.nz_cover.proofs.PlacedLemmas.{loop_held, loop_more}
use Rattle.nz_cover.proofs.placing.Placing.pass.Goals as goal

pub returns-then-contains : goal.returns-then-contains
returns-then-contains g c = ((c.if-contains.ensures, refl), loop_held (length (get_or c.args.rays.now c.args.place [])) c.args.rays.now c.args.place c.args.self.now.placed c.args.self.now.cells.items c.args.self.now.facets c.if-contains.ensures c.requires.placed)

pub absorb-requires-clause-fresh : goal.absorb-requires-clause-fresh
absorb-requires-clause-fresh g c = c.if-contains.ensures

pub returns-in-Ok : goal.returns-in-Ok
returns-in-Ok g c = (
  (c.if-contains.ensures, c.in-Ok.ensures.0),
  loop_more (length (get_or c.args.rays.now c.args.place [])) (length (get_or c.args.rays.now c.args.place [])) c.args.rays.now c.args.place c.args.self.now.placed c.absorb.new.self.placed c.args.self.now.cells.items c.absorb.new.self.cells.items c.args.self.now.facets c.absorb.new.self.facets c.requires.within refl c.in-Ok.ensures.0 c.requires.placed c.in-Ok.ensures.1,
)
