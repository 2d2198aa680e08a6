use Rattle.std.proofs.Common.{◌∙◌, ap}
use Rattle.nz_spec.specs.Vectors.{Vector, minus}
use Rattle.nz_cert.proofs.ReductionLemmas.{left_more, left_smaller, left_end}
use Rattle.nz_cert.proofs.reduction.is_reduced.Goals as goal

pub takings-smaller : goal.takings-smaller
takings-smaller c =
    let less = c.in-Ok-difference.ensures ∙ ap (λ (e : Vector). minus c.takings.left e) c.at.ensures in
    left_smaller c.args.table.now c.args.values.now c.takings.left _ c.in-Some.place c.requires.entries c.requires.nonzero c.in-Some.ensures less

pub takings-preserved : goal.takings-preserved
takings-preserved c =
    let less = c.in-Ok-difference.ensures ∙ ap (λ (e : Vector). minus c.takings.left e) c.at.ensures in
    left_more c.args.table.now c.args.values.now c.takings.left _ c.in-Some.place c.requires.wide c.takings.invariant c.in-Some.ensures less

pub returns-in-None : goal.returns-in-None
returns-in-None c = left_end c.args.table.now c.args.values.now c.takings.left c.is_zero_row.result c.requires.wide c.takings.invariant c.in-None.ensures c.is_zero_row.ensures
