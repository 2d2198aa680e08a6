use Rattle.std.proofs.Common.{◌<◌, List, [], length, take, sym, subst, arith}
use Rattle.std.specs.Prelude.{Contains}
use Rattle.std.specs.List.{AllZip}
use Rattle.nz_spec.specs.Vectors.{Vector}
use Rattle.nz_spec.proofs.ListLaws.{contains_at}
use Rattle.nz_vec.specs.Primitives.{IsPrimitivePart}
use Rattle.nz_classes.proofs.SimplexLemmas.{zip_none, zip_more, zip_end}
use Rattle.nz_dual.proofs.StartFormLemmas.{divisor_large}
use Rattle.nz_dual.proofs.starting.primitives.Goals as goal

pub loop-place-init : goal.loop-place-init
loop-place-init g c = subst (λ (fs : List Vector). AllZip IsPrimitivePart (take 0 c.args.rows.now) fs) (sym c.new-forms.ensures) (zip_none IsPrimitivePart c.args.rows.now)

pub returns-in-Err : goal.returns-in-Err
returns-in-Err g c = λ e.
    let l : c.loop-place.place < length c.args.rows.now = omega (arith, c.len-place-end.ensures, c.loop-place-test.true) in
    record {
      vector = c.at.result.now;
      named = subst (Contains c.args.rows.now) (sym c.at.ensures) (contains_at c.args.rows.now c.loop-place.place [] l);
      large = divisor_large g.T.Scalar.HALF g.T.Scalar.fits g.met.T.Scalar.room c.at.result.now (c.in-Err.ensures e);
    }

pub loop-place-preserved : goal.loop-place-preserved
loop-place-preserved g c =
    let l : c.loop-place.place < length c.args.rows.now = omega (arith, c.len-place-end.ensures, c.loop-place-test.true) in
    zip_more IsPrimitivePart c.args.rows.now c.loop-place.forms c.push.new.self c.loop-place.place [] c.in-Ok.form l c.loop-place.invariant (subst (λ (x : Vector). IsPrimitivePart x c.in-Ok.form) c.at.ensures c.in-Ok.ensures) c.in-Ok-push.ensures.ok

pub returns : goal.returns
returns g c = zip_end IsPrimitivePart c.args.rows.now c.loop-place.forms c.loop-place.place (omega (arith, c.len-place-end.ensures, c.loop-place-test.false)) c.loop-place.invariant
