use Rattle.std.proofs.Common.{ℕ, ap, sym, subst, Contains}
use Rattle.std.specs.List.{AllByRecursion as Each}
use Rattle.nz_spec.specs.Vectors.{HasWidth}
use Rattle.nz_system.specs.Meaning.{SystemData}
use Rattle.nz_lift.specs.Lifts.{IsLifted}
use Rattle.nz_lift.specs.SystemRefusals.{of_file}
use Rattle.nz_lift.proofs.SystemLemmas.{pulled_wide, level_among, points_wide, points_of, along_of, level_refused, points_refused, along_refused, there_refused, number_refused, points_there, along_there, refusal_there, level_same, sums_same}
use Rattle.nz_lift.proofs.systems.system_points.Goals as goal

pub returns-in-Err : goal.returns-in-Err
returns-in-Err g c = number_refused g.T.Scalar.HALF c.args.limit c.args.system.now.system c.in-Err.refusal c.untold.result (λ e. of_file (c.in-Err.ensures.cause e)) c.untold.ensures

pub returns-in-Err-level_row : goal.returns-in-Err-level_row
returns-in-Err-level_row g c =
    let s = c.args.system.now.system in
    number_refused g.T.Scalar.HALF c.args.limit s c.in-Err-level_row.refusal c.untold-in-Err-level_row.result
    (λ e. level_refused s c.kept.ensures.system c.requires c.in-Ok.frame.base c.in-Ok.frame.rows c.in-Ok.ensures.frame g.T.Scalar.HALF g.T.Scalar.fits g.met.T.Scalar.room c.in-Ok.ensures.swept
    (sums_same g.T.Scalar.fits c.system.inside.width s c.in-Ok.frame.base (ap (λ (d : SystemData). d.system.width) c.system.view_is) (c.in-Err-level_row.ensures e)))
    c.untold-in-Err-level_row.ensures

pub lift-requires-clause-widths : goal.lift-requires-clause-widths
lift-requires-clause-widths g c = subst (λ (n : ℕ). Each (HasWidth n) c.in-Ok.frame.rows) (sym c.rank.ensures.count) (pulled_wide c.args.system.now.system c.kept.ensures.system c.requires c.in-Ok.frame.base c.in-Ok.frame.rows c.in-Ok.ensures.frame)

pub lift-requires-clause-level : goal.lift-requires-clause-level
lift-requires-clause-level g c =
    let s = c.args.system.now.system in
    let same = level_same c.system.inside.width s c.in-Ok.frame.base c.in-Ok-level_row.level (ap (λ (d : SystemData). d.system.width) c.system.view_is) c.in-Ok-level_row.ensures in
    subst (Contains c.in-Ok.frame.rows) (sym same) (level_among s c.kept.ensures.system c.requires c.in-Ok.frame.base c.in-Ok.frame.rows c.in-Ok.ensures.frame)

pub points_back-requires : goal.points_back-requires
points_back-requires g c =
    let s = c.args.system.now.system in
    let same = level_same c.system.inside.width s c.in-Ok.frame.base c.in-Ok-level_row.level (ap (λ (d : SystemData). d.system.width) c.system.view_is) c.in-Ok-level_row.ensures in
    points_wide s c.kept.ensures.system c.requires c.in-Ok.frame.base c.in-Ok.frame.rows c.in-Ok.ensures.frame c.args.limit c.in-Ok-Points.points
    (points_there c.args.limit c.rank.result s c.in-Ok.frame.base c.in-Ok.frame.rows c.in-Ok-level_row.level c.in-Ok-Points.points c.rank.ensures.count same (subst (IsLifted c.args.limit c.rank.result c.in-Ok.frame.rows c.in-Ok-level_row.level) c.in-Ok-Points.field-0-is c.in-Ok-Points.ensures))

pub returns-in-Ok-points_back : goal.returns-in-Ok-points_back
returns-in-Ok-points_back g c =
    let s = c.args.system.now.system in
    let same = level_same c.system.inside.width s c.in-Ok.frame.base c.in-Ok-level_row.level (ap (λ (d : SystemData). d.system.width) c.system.view_is) c.in-Ok-level_row.ensures in
    points_of s c.kept.ensures.system c.requires c.in-Ok.frame.base c.in-Ok.frame.rows c.in-Ok.ensures.frame c.args.limit c.in-Ok-Points.points c.in-Ok-points_back.points
    (points_there c.args.limit c.rank.result s c.in-Ok.frame.base c.in-Ok.frame.rows c.in-Ok-level_row.level c.in-Ok-Points.points c.rank.ensures.count same (subst (IsLifted c.args.limit c.rank.result c.in-Ok.frame.rows c.in-Ok-level_row.level) c.in-Ok-Points.field-0-is c.in-Ok-Points.ensures))
    c.in-Ok-points_back.ensures.list.0 c.in-Ok-points_back.ensures.list.1

pub returns-in-Ok-Points : goal.returns-in-Ok-Points
returns-in-Ok-Points g c =
    let s = c.args.system.now.system in
    let same = level_same c.system.inside.width s c.in-Ok.frame.base c.in-Ok-level_row.level (ap (λ (d : SystemData). d.system.width) c.system.view_is) c.in-Ok-level_row.ensures in
    number_refused g.T.Scalar.HALF c.args.limit s c.in-Err-points_back.refusal c.untold-in-Err-points_back.result
    (λ e. points_refused s c.kept.ensures.system c.requires c.in-Ok.frame.base c.in-Ok.frame.rows c.in-Ok.ensures.frame g.T.Scalar.HALF g.T.Scalar.fits g.met.T.Scalar.room c.in-Ok.ensures.swept c.args.limit c.in-Ok-Points.points
    (points_there c.args.limit c.rank.result s c.in-Ok.frame.base c.in-Ok.frame.rows c.in-Ok-level_row.level c.in-Ok-Points.points c.rank.ensures.count same (subst (IsLifted c.args.limit c.rank.result c.in-Ok.frame.rows c.in-Ok-level_row.level) c.in-Ok-Points.field-0-is c.in-Ok-Points.ensures))
    (c.in-Err-points_back.ensures.cause e))
    c.untold-in-Err-points_back.ensures

pub returns-in-Ok-along_back : goal.returns-in-Ok-along_back
returns-in-Ok-along_back g c =
    let s = c.args.system.now.system in
    let same = level_same c.system.inside.width s c.in-Ok.frame.base c.in-Ok-level_row.level (ap (λ (d : SystemData). d.system.width) c.system.view_is) c.in-Ok-level_row.ensures in
    along_of s c.kept.ensures.system c.requires c.in-Ok.frame.base c.in-Ok.frame.rows c.in-Ok.ensures.frame c.in-Ok-Unbounded.along c.in-Ok-along_back.vector
    (along_there c.rank.result s c.in-Ok.frame.base c.in-Ok.frame.rows c.in-Ok-level_row.level c.in-Ok-Unbounded.along c.rank.ensures.count same (subst (IsLifted c.args.limit c.rank.result c.in-Ok.frame.rows c.in-Ok-level_row.level) c.in-Ok-Unbounded.field-0-is c.in-Ok-Unbounded.ensures))
    c.in-Ok-along_back.ensures

pub returns-in-Ok-Unbounded : goal.returns-in-Ok-Unbounded
returns-in-Ok-Unbounded g c =
    let s = c.args.system.now.system in
    let same = level_same c.system.inside.width s c.in-Ok.frame.base c.in-Ok-level_row.level (ap (λ (d : SystemData). d.system.width) c.system.view_is) c.in-Ok-level_row.ensures in
    number_refused g.T.Scalar.HALF c.args.limit s c.in-Err-along_back.refusal c.untold-in-Err-along_back.result
    (λ e. along_refused s c.kept.ensures.system c.requires c.in-Ok.frame.base c.in-Ok.frame.rows c.in-Ok.ensures.frame g.T.Scalar.HALF g.T.Scalar.fits g.met.T.Scalar.room c.in-Ok.ensures.swept c.in-Ok-Unbounded.along
    (along_there c.rank.result s c.in-Ok.frame.base c.in-Ok.frame.rows c.in-Ok-level_row.level c.in-Ok-Unbounded.along c.rank.ensures.count same (subst (IsLifted c.args.limit c.rank.result c.in-Ok.frame.rows c.in-Ok-level_row.level) c.in-Ok-Unbounded.field-0-is c.in-Ok-Unbounded.ensures))
    (c.in-Err-along_back.ensures e))
    c.untold-in-Err-along_back.ensures

pub returns : goal.returns
returns g c =
    let s = c.args.system.now.system in
    let same = level_same c.system.inside.width s c.in-Ok.frame.base c.in-Ok-level_row.level (ap (λ (d : SystemData). d.system.width) c.system.view_is) c.in-Ok-level_row.ensures in
    there_refused s c.kept.ensures.system c.requires c.in-Ok.frame.base c.in-Ok.frame.rows c.in-Ok.ensures.frame g.T.Scalar.HALF c.args.limit c.in-Ok.ensures.swept c.in-Err-lift.refusal
    (refusal_there g.T.Scalar.HALF c.args.limit c.rank.result s c.in-Ok.frame.base c.in-Ok.frame.rows c.in-Ok-level_row.level c.in-Err-lift.refusal c.rank.ensures.count same c.in-Err-lift.ensures)
