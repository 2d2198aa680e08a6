use Rattle.std.proofs.Common.{◌∙◌, ap, sym, subst}
use Rattle.nz_input.specs.Files.{FileData}
use Rattle.nz_system.specs.declared.groups.Group.TheVariants as group
use Rattle.nz_system.specs.Groups.{occurs}
use Rattle.nz_system.specs.Meaning.{IsKept, all_given, width_of}
use Rattle.nz_system.proofs.Sorting.{congruences-kept, drafted, assembled-is}
use Rattle.nz_system.proofs.Kept.{kept}
use Rattle.nz_system.proofs.meaning.assembled.Goals as goal

pub invariant_of-result : goal.invariant_of-result
invariant_of-result c =
    let is = assembled-is c.args.file.now c.take_others.new.self c.stands-level.result c.stands.result c.stands-2.result c.stands-3.result c.width_of.result c.there.result c.there-2.result c.there-3.result c.in_ok-grading.grading c.args.goals c.args.mode
    (drafted c.args.file.now c.file.inside.amb c.file.inside.items c.file.inside.goals c.stands-level.result c.new-draft.result c.take_items.new.self c.take_others.new.self c.file.view_is c.stands-level.ensures c.new-draft.ensures c.in_ok-take_items.ensures c.in_ok-take_others.ensures)
    (c.stands-level.ensures ∙ ap (λ (f : FileData). occurs group.Leveled f.items) c.file.view_is) (c.stands.ensures ∙ ap (λ (f : FileData). occurs group.Generating f.items) c.file.view_is) (c.stands-2.ensures ∙ ap (λ (f : FileData). occurs group.ConeAndLattice f.items) c.file.view_is) (c.stands-3.ensures ∙ ap (λ (f : FileData). occurs group.Ask f.items) c.file.view_is)
    (c.width_of.ensures ∙ ap (λ (f : FileData). width_of c.stands-level.result f.amb) c.file.view_is) c.there.ensures c.there-2.ensures c.in_ok-grading.ensures c.there-3.ensures in (
      congruences-kept c.take_others.new.self (all_given (occurs group.Leveled c.args.file.now.items) c.args.file.now) (drafted c.args.file.now c.file.inside.amb c.file.inside.items c.file.inside.goals c.stands-level.result c.new-draft.result c.take_items.new.self c.take_others.new.self c.file.view_is c.stands-level.ensures c.new-draft.ensures c.in_ok-take_items.ensures c.in_ok-take_others.ensures),
      subst IsKept (sym is) (kept c.args.file.now c.args.goals c.args.mode c.kept.ensures c.requires.meets c.requires.cover),
    )

pub returns : goal.returns
returns c =
    assembled-is c.args.file.now c.take_others.new.self c.stands-level.result c.stands.result c.stands-2.result c.stands-3.result c.width_of.result c.there.result c.there-2.result c.there-3.result c.in_ok-grading.grading c.args.goals c.args.mode
    (drafted c.args.file.now c.file.inside.amb c.file.inside.items c.file.inside.goals c.stands-level.result c.new-draft.result c.take_items.new.self c.take_others.new.self c.file.view_is c.stands-level.ensures c.new-draft.ensures c.in_ok-take_items.ensures c.in_ok-take_others.ensures)
    (c.stands-level.ensures ∙ ap (λ (f : FileData). occurs group.Leveled f.items) c.file.view_is) (c.stands.ensures ∙ ap (λ (f : FileData). occurs group.Generating f.items) c.file.view_is) (c.stands-2.ensures ∙ ap (λ (f : FileData). occurs group.ConeAndLattice f.items) c.file.view_is) (c.stands-3.ensures ∙ ap (λ (f : FileData). occurs group.Ask f.items) c.file.view_is)
    (c.width_of.ensures ∙ ap (λ (f : FileData). width_of c.stands-level.result f.amb) c.file.view_is) c.there.ensures c.there-2.ensures c.in_ok-grading.ensures c.there-3.ensures
