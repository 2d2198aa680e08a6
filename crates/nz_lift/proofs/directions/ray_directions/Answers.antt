use Rattle.std.proofs.Common.{length}
use Rattle.nz_lift.proofs.DirectionLemmas.{rows_pointed, rays_normal, level_large, headed_long, flat_ray, steep_rays}
use Rattle.nz_lift.proofs.directions.ray_directions.Goals as goal

pub returns-in-Err-with_levels : goal.returns-in-Err-with_levels
returns-in-Err-with_levels g c = λ e.
    let s = c.args.simplex.now in
    let w = length s.places in
    let rows = c.args.rows.now in
    level_large g.T.Scalar.HALF w rows c.in-Ok.rays c.args.level.now (rays_normal w rows c.in-Ok.rays c.requires.widths (rows_pointed w rows s.rays s.places c.requires.simplex) c.in-Ok.ensures) c.requires.level (c.in-Err-with_levels.ensures e)

pub first_flat-requires : goal.first_flat-requires
first_flat-requires g c = headed_long c.args.level.now c.in-Ok.rays c.in-Ok-with_levels.list c.in-Ok-with_levels.ensures

pub returns-in-Ok-try_copy : goal.returns-in-Ok-try_copy
returns-in-Ok-try_copy g c =
    let s = c.args.simplex.now in
    let w = length s.places in
    let rows = c.args.rows.now in
    flat_ray w rows c.in-Ok.rays c.in-Ok-with_levels.list c.args.level.now c.at.result.now c.in-Ok-try_copy.ray c.in-Some.place c.in-Ok.ensures (rays_normal w rows c.in-Ok.rays c.requires.widths (rows_pointed w rows s.rays s.places c.requires.simplex) c.in-Ok.ensures) c.in-Ok-with_levels.ensures c.in-Some.ensures c.at.ensures c.in-Ok-try_copy.ensures

pub returns : goal.returns
returns g c =
    let s = c.args.simplex.now in
    let w = length s.places in
    let rows = c.args.rows.now in
    steep_rays w rows c.in-Ok.rays c.in-Ok-with_levels.list c.args.level.now (rows_pointed w rows s.rays s.places c.requires.simplex) c.in-Ok.ensures c.requires.level c.in-Ok-with_levels.ensures c.in-None.ensures
