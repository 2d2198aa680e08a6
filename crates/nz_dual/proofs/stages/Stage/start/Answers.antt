use Rattle.std.proofs.Common.{◌<◌, List, length, sym, subst}
use Rattle.nz_spec.specs.Vectors.{Vector}
use Rattle.nz_pointed.specs.Pointed.{IsNew}
use Rattle.nz_classes.specs.Walks.{IsFullSimplex}
use Rattle.nz_linear.proofs.Lists.{each_map}
use Rattle.nz_dual.proofs.FirstStageLemmas.{full_simplex, first_stage}
use Rattle.nz_dual.proofs.stages.Stage.start.Goals as goal

pub at_places-requires : goal.at_places-requires
at_places-requires g c = each_map (IsNew (length c.args.simplex.now.places) c.args.rows.now) (λ k. k < length c.args.rows.now) c.args.simplex.now.places (λ k n. n.within) c.requires.first.only

pub first_list-requires : goal.first_list-requires
first_list-requires g c = subst (λ (chosen : List Vector). IsFullSimplex c.args.simplex.now.rays chosen) (sym c.in-Ok.ensures) (full_simplex c.args.rows.now c.args.simplex.now.rays c.args.simplex.now.places c.requires)

pub invariant_of-result : goal.invariant_of-result
invariant_of-result g c = first_stage c.len.result c.args.rows.now c.args.simplex.now.rays c.in-Ok.chosen c.in-Ok-first_list.list c.args.simplex.now.places c.len.ensures c.in-Ok.ensures c.requires c.in-Ok-first_list.ensures.0

pub returns-in-Ok-first_list-clause-list : goal.returns-in-Ok-first_list-clause-list
returns-in-Ok-first_list-clause-list g c = (first_stage c.len.result c.args.rows.now c.args.simplex.now.rays c.in-Ok.chosen c.in-Ok-first_list.list c.args.simplex.now.places c.len.ensures c.in-Ok.ensures c.requires c.in-Ok-first_list.ensures.0).lists
