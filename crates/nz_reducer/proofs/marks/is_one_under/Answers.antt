use Rattle.std.proofs.Common.{Contains, sym, subst}
use Rattle.nz_spec.proofs.ListLaws.{contains_at}
use Rattle.nz_reducer.proofs.marks.is_one_under.Goals as goal

pub returns-in-Some : goal.returns-in-Some
returns-in-Some g c =
    let u = c.in-Some.ensures in
    record { mark = u.mark; listed = subst (λ x. Contains c.args.marks.now x) (sym u.at) (contains_at c.args.marks.now c.in-Some.index u.mark u.inside); below = u.below }
