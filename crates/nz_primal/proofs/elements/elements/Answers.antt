use Rattle.std.proofs.Common.{length, unsigned_abs, arith}
use Rattle.nz_primal.specs.Parts.{IsElementCause, SomeWalkLarge, of_walk, of_values, of_back}
use Rattle.nz_primal.proofs.RangeLemmas.{where_map, where_first, kept_listed}
use Rattle.nz_spec.specs.Monoids.{IsIrreducible}
use Rattle.nz_spec.specs.Vectors.{HasWidth}
use Rattle.nz_linear.specs.Cones.{IsInRows}
use Rattle.nz_linear.proofs.Lists.{each_map}
use Rattle.nz_primal.proofs.ElementLemmas.{full_simplices, candidates_separated, kept_irreducible, kept_crowded, kept_within, brought_back}
use Rattle.nz_primal.proofs.elements.elements.Goals as goal

pub candidates-requires : goal.candidates-requires
candidates-requires g c = full_simplices (length c.args.second.now.base.vectors) c.args.second.now.rows c.args.second.now.rays c.requires.cone c.args.cover.now.simplices c.args.cover.now.forms c.requires.placed.cover.simplices c.requires.placed.dual

pub irreducibles-requires : goal.irreducibles-requires
irreducibles-requires g c = candidates_separated (length c.args.second.now.base.vectors) c.args.second.now.rows c.args.second.now.rays c.requires.cone c.args.cover.now.simplices c.requires.placed.cover c.in-Ok.list c.in-Ok.ensures.points

pub returns-in-Err-irreducibles-clause-lists : goal.returns-in-Err-irreducibles-clause-lists
returns-in-Err-irreducibles-clause-lists g c = c.walk_refusal.ensures.refused c.args.limit c.args.second.now.rays c.args.cover.now.simplices

pub returns-then-len-limit-clause-lists : goal.returns-then-len-limit-clause-lists
returns-then-len-limit-clause-lists g c = kept_crowded (length c.args.second.now.base.vectors) c.args.second.now.rows c.args.second.now.rays c.requires.cone c.args.cover.now.simplices c.requires.placed.cover c.in-Ok.list c.in-Ok.ensures.points c.args.limit c.in-Ok-irreducibles.kept c.in-Ok-irreducibles.ensures (omega (arith, c.if-len-limit.true, c.len.ensures))

pub brought_back-requires : goal.brought_back-requires
brought_back-requires g c =
    let w = length c.args.second.now.base.vectors in
    record { widths = each_map (IsIrreducible (IsInRows w c.args.second.now.rows)) (HasWidth w) c.in-Ok-irreducibles.kept (λ x i. i.member.0) (kept_irreducible w c.args.second.now.rows c.args.second.now.rays c.requires.cone c.args.cover.now.simplices c.requires.placed.cover c.in-Ok.list c.in-Ok.ensures.points c.in-Ok-irreducibles.kept c.in-Ok-irreducibles.ensures).only }

pub returns-in-Ok-brought_back-clause-lists : goal.returns-in-Ok-brought_back-clause-lists
returns-in-Ok-brought_back-clause-lists g c =
    let w = length c.args.second.now.base.vectors in
    brought_back c.args.second.now.base c.requires.base (IsIrreducible (IsInRows w c.args.second.now.rows)) c.in-Ok-irreducibles.kept c.in-Ok-brought_back.list (λ x i. i.member.0)
    (kept_irreducible w c.args.second.now.rows c.args.second.now.rays c.requires.cone c.args.cover.now.simplices c.requires.placed.cover c.in-Ok.list c.in-Ok.ensures.points c.in-Ok-irreducibles.kept c.in-Ok-irreducibles.ensures)
    c.in-Ok-brought_back.ensures.same c.in-Ok-brought_back.ensures.order

pub returns-in-Ok-brought_back-clause-within : goal.returns-in-Ok-brought_back-clause-within
returns-in-Ok-brought_back-clause-within g c = kept_within c.args.second.now.base c.in-Ok-irreducibles.kept c.in-Ok-brought_back.list c.args.limit c.in-Ok-brought_back.ensures.same (omega (arith, c.if-len-limit.false, c.len.ensures))

pub returns-clause-lists : goal.returns-clause-lists
returns-clause-lists g c = c.walk_refusal-in-Err-brought_back.ensures.refused c.args.limit c.args.second.now.rays c.args.cover.now.simplices

pub returns-in-Err-clause-cause : goal.returns-in-Err-clause-cause
returns-in-Err-clause-cause g c = where_map (SomeWalkLarge (unsigned_abs g.T.Scalar.HALF) c.args.second.now.rays c.args.cover.now.simplices c.args.cover.now.forms) (IsElementCause g.T.Scalar.HALF g.T.Scalar.fits c.args.second.now.base c.args.second.now.rays c.args.second.now.rows c.args.cover.now.simplices c.args.cover.now.forms)
    (λ k. of_walk k) c.in-Err.refusal c.in-Err.ensures.cause

pub returns-in-Err-irreducibles-clause-cause : goal.returns-in-Err-irreducibles-clause-cause
returns-in-Err-irreducibles-clause-cause g c = where_first (IsElementCause g.T.Scalar.HALF g.T.Scalar.fits c.args.second.now.base c.args.second.now.rays c.args.second.now.rows c.args.cover.now.simplices c.args.cover.now.forms) c.in-Err-irreducibles.refusal 0 c.walk_refusal.result c.walk_refusal.ensures.same
    (λ e. of_values c.in-Ok.ensures.points (c.in-Err-irreducibles.ensures e))

pub returns-clause-cause : goal.returns-clause-cause
returns-clause-cause g c = where_first (IsElementCause g.T.Scalar.HALF g.T.Scalar.fits c.args.second.now.base c.args.second.now.rays c.args.second.now.rows c.args.cover.now.simplices c.args.cover.now.forms) c.in-Err-brought_back.refusal 0 c.walk_refusal-in-Err-brought_back.result c.walk_refusal-in-Err-brought_back.ensures.same
    (λ e. of_back c.in-Ok.ensures.points (kept_listed c.args.second.now.rows c.in-Ok.list c.in-Ok-irreducibles.kept c.in-Ok-irreducibles.ensures) (c.in-Err-brought_back.ensures.cause e))
