use Rattle.std.proofs.Common.{◌≡◌, ℕ, sym, subst}
use Rattle.std.specs.Prelude.{MatchResult}
use Rattle.std.specs.List.{AllByRecursion as Each}
use Rattle.nz_spec.specs.Vectors.{HasWidth}
use Rattle.nz_pointed.specs.Pointed.{IsAnswer, IsTooLarge}
use Rattle.nz_rays.proofs.StartLemmas.{simplex_width, simplex_at_width}
use Rattle.nz_vec.specs.declared.answers.Num.TheVariants.{Range}
use Rattle.nz_lift.specs.Directions.{AreDirections}
use Rattle.nz_lift.proofs.DirectionLemmas.{line_direction}
use Rattle.nz_lift.proofs.directions.directions_of.Goals as goal

pub ray_directions-requires-clause-widths : goal.ray_directions-requires-clause-widths
ray_directions-requires-clause-widths g c =
    let s = subst (IsAnswer c.args.rank c.args.rows.now) c.in-Simplex.is c.in-Ok.ensures in
    subst (λ (w : ℕ). Each (HasWidth w) c.args.rows.now) (simplex_width c.args.rank c.args.rows.now c.in-Simplex.simplex.rays c.in-Simplex.simplex.places s) c.requires.widths

pub ray_directions-requires-clause-simplex : goal.ray_directions-requires-clause-simplex
ray_directions-requires-clause-simplex g c = simplex_at_width c.args.rank c.args.rows.now c.in-Simplex.simplex.rays c.in-Simplex.simplex.places (subst (IsAnswer c.args.rank c.args.rows.now) c.in-Simplex.is c.in-Ok.ensures)

pub returns-in-Line : goal.returns-in-Line
returns-in-Line g c = line_direction c.args.rank c.args.rows.now c.args.level.now c.in-Line.line c.requires.level (subst (IsAnswer c.args.rank c.args.rows.now) c.in-Line.is c.in-Ok.ensures)

pub returns-in-Simplex : goal.returns-in-Simplex
returns-in-Simplex g c =
    let s = subst (IsAnswer c.args.rank c.args.rows.now) c.in-Simplex.is c.in-Ok.ensures in
    subst (λ (w : ℕ). MatchResult c.ray_directions.result (AreDirections {T = g.row.T.Denot} w c.args.rows.now c.args.level.now) (λ e. e ≡ Range → IsTooLarge g.T.Scalar.HALF w c.args.rows.now))
    (sym (simplex_width c.args.rank c.args.rows.now c.in-Simplex.simplex.rays c.in-Simplex.simplex.places s)) c.ray_directions.ensures
