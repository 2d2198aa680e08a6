use Rattle.std.proofs.Common.{ℕ, get_or, set, ap, ◌∙◌}
use Rattle.nz_blocks.proofs.Laying.{raised}
use Rattle.nz_blocks.proofs.columns.raise.Goals as goal

pub returns : goal.returns
returns c = λ j. ap (λ (w : ℕ). get_or (set c.args.widths.now c.args.column w) j 0) c.max.ensures ∙ raised c.args.widths.now c.args.column c.args.width j c.requires
