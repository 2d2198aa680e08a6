use Rattle.std.proofs.Common.{◌≡◌, ℤ, ◌-◌, get_or, ◌∙◌, ap, subst, pos}
use Rattle.std.specs.Prelude.{MatchBool}
use Rattle.nz_degree.proofs.LevelLists.{level_entry}
use Rattle.nz_degree.proofs.levels.is_at.Goals as goal

pub returns : goal.returns
returns g c =
    let e = c.at.ensures ∙ ap (λ n. get_or c.args.row.now (n - 1) (pos 0)) c.len.ensures ∙ level_entry c.args.row.now c.requires in
    subst (λ (z : ℤ). MatchBool c.same.result (z ≡ g.T.Scalar.integer c.args.level) (¬ (z ≡ g.T.Scalar.integer c.args.level))) e c.same.ensures
