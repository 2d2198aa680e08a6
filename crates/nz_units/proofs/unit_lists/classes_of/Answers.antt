use Rattle.std.proofs.Common.{ℕ, length, subst}
use Rattle.std.specs.List.{AllByRecursion as Each}
use Rattle.nz_spec.specs.Vectors.{HasWidth}
use Rattle.nz_units.proofs.ListLemmas.{found_wide, listed, no_more}
use Rattle.nz_units.proofs.RefusalLemmas.{rest_wide, there_wide, there_pointed, back_wide, value_refused, rest_refused, back_refused}
use Rattle.nz_units.proofs.unit_lists.classes_of.Goals as goal

pub all_values-requires : goal.all_values-requires
all_values-requires g c = let r = c.requires in rest_wide r.lattice c.args.rows.now c.args.split.now.units c.args.split.now.rest r.given r.steps

pub returns-in-Err-clause-refusal : goal.returns-in-Err-clause-refusal
returns-in-Err-clause-refusal g c = λ lattice given steps. value_refused lattice c.args.rows.now c.args.split.now.units c.args.split.now.rest given steps g.T.Scalar.HALF c.args.limit g.T.Scalar.fits g.met.T.Scalar.room c.in-Err.refusal c.work_of.result (λ e. c.in-Err.ensures e) c.work_of.ensures

pub irreducibles-requires-clause-wide : goal.irreducibles-requires-clause-wide
irreducibles-requires-clause-wide g c = let r = c.requires in there_wide r.lattice c.args.rows.now c.args.split.now.units c.args.split.now.rest r.given r.steps c.len.result c.in-Ok.there c.len.ensures c.in-Ok.ensures

pub irreducibles-requires-clause-pointed : goal.irreducibles-requires-clause-pointed
irreducibles-requires-clause-pointed g c = let r = c.requires in there_pointed r.lattice c.args.rows.now c.args.split.now.units c.args.split.now.rest r.given r.steps c.len.result c.in-Ok.there c.len.ensures c.in-Ok.ensures

pub returns-in-Err-irreducibles-clause-refusal : goal.returns-in-Err-irreducibles-clause-refusal
returns-in-Err-irreducibles-clause-refusal g c = λ lattice given steps. rest_refused lattice c.args.rows.now c.args.split.now.units c.args.split.now.rest given steps g.T.Scalar.HALF c.args.limit c.len.result c.in-Ok.there c.len.ensures c.in-Ok.ensures c.in-Err-irreducibles.refusal c.in-Err-irreducibles.ensures.list

pub taken_back-requires-clause-vectors : goal.taken_back-requires-clause-vectors
taken_back-requires-clause-vectors g c = let r = c.requires in back_wide r.lattice c.args.rows.now c.args.split.now.units c.args.split.now.rest r.given r.steps c.width_of-width.result c.width_of-width.ensures

pub taken_back-requires-clause-coordinates : goal.taken_back-requires-clause-coordinates
taken_back-requires-clause-coordinates g c = subst (λ (n : ℕ). Each (HasWidth n) c.in-Ok-irreducibles.found) c.len.ensures (found_wide c.len.result c.in-Ok.there c.in-Ok-irreducibles.found c.in-Ok-irreducibles.ensures.list)

pub returns-in-Err-taken_back-clause-refusal : goal.returns-in-Err-taken_back-clause-refusal
returns-in-Err-taken_back-clause-refusal g c = λ lattice given steps. back_refused lattice c.args.rows.now c.args.split.now.units c.args.split.now.rest given steps g.T.Scalar.HALF c.args.limit c.len.result c.in-Ok.there c.in-Ok-irreducibles.found c.len.ensures c.in-Ok.ensures c.in-Ok-irreducibles.ensures.list c.in-Err-taken_back.refusal c.work_of-in-Err-taken_back.result (λ e. c.in-Err-taken_back.ensures e) c.work_of-in-Err-taken_back.ensures

pub returns-in-Ok-sorted-clause-list : goal.returns-in-Ok-sorted-clause-list
returns-in-Ok-sorted-clause-list g c = λ lattice w wide free steps. listed w lattice c.args.rows.now c.args.split.now.units c.args.split.now.rest wide free steps c.len.result c.width_of-width.result c.in-Ok.there c.in-Ok-irreducibles.found c.in-Ok-taken_back.list c.in-Ok-sorted.classes c.len.ensures c.in-Ok.ensures c.in-Ok-irreducibles.ensures.list c.width_of-width.ensures c.in-Ok-taken_back.ensures c.in-Ok-sorted.ensures.0 c.in-Ok-sorted.ensures.1

pub returns-in-Ok-sorted-clause-within : goal.returns-in-Ok-sorted-clause-within
returns-in-Ok-sorted-clause-within g c = no_more c.width_of-width.result c.args.limit c.args.split.now.rest c.in-Ok-irreducibles.found c.in-Ok-taken_back.list c.in-Ok-sorted.classes c.in-Ok-taken_back.ensures c.in-Ok-sorted.ensures.0 c.in-Ok-irreducibles.ensures.within
