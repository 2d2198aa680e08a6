use Rattle.nz_rays.proofs.StartLemmas.{simplex_double, lists_rays}
use Rattle.nz_rays.proofs.double.started.Goals as goal

pub invariant_of-result : goal.invariant_of-result
invariant_of-result g c = simplex_double c.len-width.result c.args.rows.now c.in-Ok.rows c.args.simplex.now.rays c.in-Ok-try_copy.rays c.args.simplex.now.places c.in-Ok-other_places.zeros c.len-width.ensures c.in-Ok.ensures c.in-Ok-try_copy.ensures c.requires c.in-Ok-other_places.ensures.count c.in-Ok-other_places.ensures.others

pub returns-in-Ok-other_places-clause-rays : goal.returns-in-Ok-other_places-clause-rays
returns-in-Ok-other_places-clause-rays g c =
    let double = simplex_double c.len-width.result c.args.rows.now c.in-Ok.rows c.args.simplex.now.rays c.in-Ok-try_copy.rays c.args.simplex.now.places c.in-Ok-other_places.zeros c.len-width.ensures c.in-Ok.ensures c.in-Ok-try_copy.ensures c.requires c.in-Ok-other_places.ensures.count c.in-Ok-other_places.ensures.others in
    (c.in-Ok-try_copy.ensures, lists_rays _ double.description)
