use Rattle.nz_input.specs.declared.kind.Goal.TheVariants.{DualMode, PrimalMode}
use Rattle.nz_words.specs.Parts.{OfGoal, Verbose, Convert, Units}
use Rattle.nz_words.proofs.reading.all_given.Goals as goal

pub flag-dual-requires : goal.flag-dual-requires
flag-dual-requires c = c.requires (OfGoal DualMode)

pub flag-primal-requires : goal.flag-primal-requires
flag-primal-requires c = c.requires (OfGoal PrimalMode)

pub flag-requires : goal.flag-requires
flag-requires c = c.requires Verbose

pub flag-requires-2 : goal.flag-requires-2
flag-requires-2 c = c.requires Convert

pub flag-requires-3 : goal.flag-requires-3
flag-requires-3 c = c.requires Units
