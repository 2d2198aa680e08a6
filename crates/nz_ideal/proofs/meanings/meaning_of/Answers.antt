use Rattle.std.proofs.Common.{ap, ◌∙◌, sym}
use Rattle.nz_ideal.specs.IdealFiles.{has_ideal}
use Rattle.nz_ideal.proofs.Meeting.{meaning-ideal}
use Rattle.nz_ideal.proofs.meanings.meaning_of.Goals as goal

pub returns-then-stands : goal.returns-then-stands
returns-then-stands c =
    meaning-ideal c.args.file.now c.args.words.now c.ideal_system.result (ap has_ideal (sym c.file.view_is) ∙ sym c.stands.ensures ∙ c.if-stands.true) c.ideal_system.ensures
