use Rattle.std.proofs.Common.{◌≡◌, unsigned_abs, ap}
use Rattle.nz_spec.specs.Vectors.{Vector, scaled}
use Rattle.nz_vec.specs.declared.answers.Num.{Num}
use Rattle.nz_vec.specs.declared.answers.Num.TheVariants as num
use Rattle.nz_frame.specs.Frames.{vector_at, IsLed, LacksMultiple, LacksLine, of_vector}
use Rattle.nz_frame.proofs.LatticeLemmas.{ok_map}
use Rattle.nz_frame.proofs.CutLemmas.{err_map}
use Rattle.nz_frame.proofs.LineLemmas.{led_as_is, led_turned, lacks_line}
use Rattle.nz_frame.proofs.lines.least_line.Goals as goal

pub returns-in-Err-clause-cause : goal.returns-in-Err-clause-cause
returns-in-Err-clause-cause g c = λ e. of_vector (c.in-Err.ensures e)

pub returns-then-leads_positive-clause-led : goal.returns-then-leads_positive-clause-led
returns-then-leads_positive-clause-led g c =
    ok_map (λ (v : Vector). v ≡ scaled (g.T.Scalar.integer c.of_i64.result) c.in-Ok.vector) (IsLed (vector_at c.args.base.now c.args.line.now))
    (λ v e. led_as_is (vector_at c.args.base.now c.args.line.now) v c.in-Ok.vector (g.T.Scalar.integer c.of_i64.result) c.if-leads_positive.ensures c.in-Ok.ensures c.of_i64.ensures e) c.multiple.result c.multiple.ensures.same

pub returns-then-leads_positive-clause-cause : goal.returns-then-leads_positive-clause-cause
returns-then-leads_positive-clause-cause g c =
    err_map (λ (e : Num). e ≡ num.Range → LacksMultiple g.T.Scalar.fits (g.T.Scalar.integer c.of_i64.result) c.in-Ok.vector) (λ (e : Num). e ≡ num.Range → LacksLine g.T.Scalar.fits c.args.base.now c.args.line.now)
    (λ e h r. lacks_line g.T.Scalar.fits c.args.base.now c.args.line.now c.in-Ok.vector (g.T.Scalar.integer c.of_i64.result) (ap unsigned_abs c.of_i64.ensures) c.in-Ok.ensures (h r)) c.multiple.result c.multiple.ensures.cause

pub returns-clause-led : goal.returns-clause-led
returns-clause-led g c =
    ok_map (λ (v : Vector). v ≡ scaled (g.T.Scalar.integer c.of_i64-else-leads_positive.result) c.in-Ok.vector) (IsLed (vector_at c.args.base.now c.args.line.now))
    (λ v e. led_turned (vector_at c.args.base.now c.args.line.now) v c.in-Ok.vector (g.T.Scalar.integer c.of_i64-else-leads_positive.result) c.if-leads_positive.ensures c.in-Ok.ensures c.of_i64-else-leads_positive.ensures e) c.multiple-else-leads_positive.result c.multiple-else-leads_positive.ensures.same

pub returns-clause-cause : goal.returns-clause-cause
returns-clause-cause g c =
    err_map (λ (e : Num). e ≡ num.Range → LacksMultiple g.T.Scalar.fits (g.T.Scalar.integer c.of_i64-else-leads_positive.result) c.in-Ok.vector) (λ (e : Num). e ≡ num.Range → LacksLine g.T.Scalar.fits c.args.base.now c.args.line.now)
    (λ e h r. lacks_line g.T.Scalar.fits c.args.base.now c.args.line.now c.in-Ok.vector (g.T.Scalar.integer c.of_i64-else-leads_positive.result) (ap unsigned_abs c.of_i64-else-leads_positive.ensures) c.in-Ok.ensures (h r)) c.multiple-else-leads_positive.result c.multiple-else-leads_positive.ensures.cause
