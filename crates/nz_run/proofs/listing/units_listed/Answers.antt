use Rattle.std.proofs.Common.{Bool, rules, ap, ◌∙◌}
use Rattle.nz_input.specs.Files.{FileData}
use Rattle.nz_system.specs.Meaning.{SystemData}
use Rattle.nz_run.specs.UnitRuns.{units_text}
use Rattle.nz_watch.proofs.TellingLemmas.{none_told}
use Rattle.nz_run.proofs.UnitTexts.{units_found, units_refused}
use Rattle.nz_run.proofs.listing.units_listed.Goals as goal

pub returns-in-Err-Meaning : goal.returns-in-Err-Meaning
returns-in-Err-Meaning c = λ w. (search (rules, c.in-Err-Meaning.ensures), none_told w)

pub returns-in-Err-NoMemory : goal.returns-in-Err-NoMemory
returns-in-Err-NoMemory c = λ w. none_told w

pub returns-in-Err : goal.returns-in-Err
returns-in-Err c =
    let meant = c.in-Ok.ensures in
    units_refused c.args.goals.now c.args.limit c.args.file.now c.in-Ok.system c.in-Err.refusal c.status_of_work.result c.status_of_work.ensures meant.0 meant.1 c.in-Err.ensures.refusal

pub returns-in-Ok-text_of_units : goal.returns-in-Ok-text_of_units
returns-in-Ok-text_of_units c =
    let meant = c.in-Ok.ensures in
    let lists = c.in-Ok-system_units.lists in
    units_found c.args.goals.now c.args.limit c.args.file.now c.in-Ok.system c.file.inside.amb lists.units lists.modules lists.classes c.in-Ok-text_of_units.text meant.0 meant.1 (ap (λ (f : FileData). f.amb) c.file.view_is) c.in-Ok-system_units.ensures.lists
    (c.in-Ok-text_of_units.ensures ∙ ap (λ (b : Bool). units_text c.file.inside.amb b lists.units lists.modules lists.classes) (ap (λ (d : SystemData). d.system.level) c.system.view_is))
