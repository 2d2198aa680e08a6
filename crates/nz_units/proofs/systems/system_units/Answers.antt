use Rattle.std.proofs.Common.{ap}
use Rattle.nz_system.specs.Meaning.{SystemData}
use Rattle.nz_units.specs.SystemRefusals.{of_file}
use Rattle.nz_units.proofs.SystemLemmas.{pulled_wide, classes_wide, units_of, return_refused, there_refused, number_refused, entries_there, as_many_back, system_lists}
use Rattle.nz_units.proofs.systems.system_units.Goals as goal

pub returns-in-Err-clause-refusal : goal.returns-in-Err-clause-refusal
returns-in-Err-clause-refusal g c = number_refused g.T.Scalar.HALF c.args.limit c.args.system.now.system c.in-Err.refusal c.work_of.result (λ e. of_file (c.in-Err.ensures.cause e)) c.work_of.ensures

pub units_there-requires : goal.units_there-requires
units_there-requires g c = record { wide = pulled_wide c.args.system.now.system c.in-Ok.frame.base c.in-Ok.frame.rows c.in-Ok.ensures.frame }

pub returns-in-Err-units_there-clause-refusal : goal.returns-in-Err-units_there-clause-refusal
returns-in-Err-units_there-clause-refusal g c = there_refused g.T.Scalar.HALF c.args.limit c.args.system.now.system c.in-Ok.frame.base c.in-Ok.frame.rows c.in-Ok.ensures.frame c.in-Ok.ensures.swept c.in-Err-units_there.refusal c.in-Err-units_there.ensures.refusal

pub taken_to_file-requires-clause-classes : goal.taken_to_file-requires-clause-classes
taken_to_file-requires-clause-classes g c = classes_wide c.args.system.now.system c.in-Ok.frame.base c.in-Ok.frame.rows c.in-Ok.ensures.frame c.kept.ensures.system c.in-Ok-units_there.there.units c.in-Ok-units_there.there.classes c.in-Ok-units_there.ensures.lists

pub returns-in-Err-taken_to_file-clause-refusal : goal.returns-in-Err-taken_to_file-clause-refusal
returns-in-Err-taken_to_file-clause-refusal g c = number_refused g.T.Scalar.HALF c.args.limit c.args.system.now.system c.in-Err-taken_to_file.refusal c.work_of-in-Err-taken_to_file.result
    (λ e. return_refused c.args.system.now.system c.in-Ok.frame.base c.in-Ok.frame.rows c.in-Ok.ensures.frame c.kept.ensures.system c.in-Ok-units_there.there.units c.in-Ok-units_there.there.classes c.in-Ok-units_there.ensures.lists g.T.Scalar.HALF g.T.Scalar.fits g.met.T.Scalar.room c.in-Ok.ensures.swept (c.in-Err-taken_to_file.ensures.cause e))
    c.work_of-in-Err-taken_to_file.ensures

pub by_level-requires : goal.by_level-requires
by_level-requires g c = λ t. entries_there c.args.system.now.system c.kept.ensures.system c.in-Ok.frame.base c.in-Ok.frame.rows c.in-Ok.ensures.frame c.in-Ok-units_there.there.classes c.in-Ok-taken_to_file.back.classes c.in-Ok-taken_to_file.ensures.classes.0

pub returns-in-Ok-by_level-clause-lists : goal.returns-in-Ok-by_level-clause-lists
returns-in-Ok-by_level-clause-lists g c =
    system_lists c.args.limit c.args.system.now.system c.system.inside.level c.in-Ok-by_level.lists.units c.in-Ok-taken_to_file.back.units c.in-Ok-taken_to_file.back.classes c.in-Ok-by_level.lists.modules c.in-Ok-by_level.lists.classes
    (as_many_back c.args.limit c.in-Ok.frame.base c.in-Ok-units_there.there.classes c.in-Ok-taken_to_file.back.classes c.in-Ok-taken_to_file.ensures.classes.0 c.in-Ok-units_there.ensures.within)
    (ap (λ (d : SystemData). d.system.level) c.system.view_is)
    (units_of c.args.system.now.system c.in-Ok.frame.base c.in-Ok.frame.rows c.in-Ok.ensures.frame c.kept.ensures.system c.in-Ok-units_there.there.units c.in-Ok-units_there.there.classes c.in-Ok-units_there.ensures.lists c.in-Ok.ensures.swept c.in-Ok-taken_to_file.back.units c.in-Ok-taken_to_file.back.classes c.in-Ok-taken_to_file.ensures.units c.in-Ok-taken_to_file.ensures.classes.0 c.in-Ok-taken_to_file.ensures.classes.1)
    c.in-Ok-by_level.ensures.units c.in-Ok-by_level.ensures.levels
