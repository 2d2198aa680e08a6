use Rattle.std.proofs.Common.{refl, ◌∙◌, sym, subst}
use Rattle.std.specs.Prelude.{OnOk}
use Rattle.nz_degree.specs.Ranks.{Adds}
use Rattle.nz_degree.proofs.sorting.add.Goals as goal
use Rattle.nz_degree.proofs.sorting.add.Goals.{in-Ok, in-Err}

pub returns : goal.returns
returns g c =
    let Added = Adds g.T.Scalar.integer c.args.ranked.now.items c.push.new.self.items c.args.row.now c.args.degree in
    elim c.match-push.branch [
      | in-Ok w ↦ subst (λ r. OnOk r Added) (sym w.result-is) (record {
        added = record { degree = c.args.degree; entries = c.into_vec-entries.result };
        whole = w.in-Ok.ensures.items;
        of_row = c.into_vec-entries.ensures ∙ c.in_ok-try_copy.ensures;
        of_rank = refl;
      })
      | in-Err w ↦ subst (λ r. OnOk r Added) (sym w.result-is) tt
    ]
