use Rattle.std.proofs.Common.{length}
use Rattle.nz_primal.proofs.GeneratorLemmas.{pointed_of_simplex, generators_of, rays_reordered}
use Rattle.nz_primal.specs.Parts.{of_order}
use Rattle.nz_primal.proofs.generators.generators.Goals as goal

pub returns-in-Ok-in_order-clause-generators : goal.returns-in-Ok-in_order-clause-generators
returns-in-Ok-in_order-clause-generators g c =
    let w = length c.args.simplex.now.places in
    generators_of w c.args.rows.now c.args.order.now c.in-Ok.rays c.in-Ok-in_order.rays (pointed_of_simplex w c.args.rows.now c.args.simplex.now.rays c.args.simplex.now.places c.requires.simplex) c.in-Ok.ensures c.in-Ok-in_order.ensures.sorted

pub returns-in-Ok-in_order-clause-rays : goal.returns-in-Ok-in_order-clause-rays
returns-in-Ok-in_order-clause-rays g c = rays_reordered (length c.args.simplex.now.places) c.args.rows.now c.args.order.now c.in-Ok.rays c.in-Ok-in_order.rays c.in-Ok.ensures c.in-Ok-in_order.ensures.sorted

pub returns-clause-cause : goal.returns-clause-cause
returns-clause-cause g c = λ e. of_order c.in-Ok.ensures (c.in-Err-in_order.ensures.cause e)
