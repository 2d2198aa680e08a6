use Rattle.nz_text.proofs.Stepping.{is-step}
use Rattle.nz_text.proofs.pieces.step.Goals as goal

pub returns : goal.returns
returns c = is-step c.args.text.now c.args.from c.find.result c.requires c.find.ensures
