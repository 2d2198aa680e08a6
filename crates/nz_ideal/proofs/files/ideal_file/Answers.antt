use Rattle.std.proofs.Common.{sym, subst}
use Rattle.nz_input.specs.Files.{IsFile}
use Rattle.nz_ideal.proofs.Meeting.{ideal-kept, filed}
use Rattle.nz_ideal.proofs.files.ideal_file.Goals as goal

pub invariant_of-result : goal.invariant_of-result
invariant_of-result c =
    subst IsFile (sym (filed c.args.file.now c.file.inside.amb c.file.inside.items c.file.inside.goals c.in_ok-items.items c.in_ok-goals.goals c.file.view_is c.in_ok-items.ensures c.in_ok-goals.ensures)) (ideal-kept c.args.file.now c.kept.ensures c.requires.meets)
