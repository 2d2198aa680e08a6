use Rattle.std.proofs.Common.{◌≡◌, List, take, subst, sym}
use Rattle.std.proofs.lemmas.List.{take_all}
use Rattle.std.specs.List.{AllZip}
use Rattle.nz_spec.specs.Vectors.{Vector, IsNonzero}
use Rattle.nz_linear.specs.Echelon.{EndsAt}
use Rattle.nz_pointed.proofs.ListLemmas.{zip_more, each_at}
use Rattle.nz_pointed.proofs.elimination.columns_of.Goals as goal

pub loop-place-preserved : goal.loop-place-preserved
loop-place-preserved g c = zip_more (λ x k. EndsAt k x) c.args.left.now c.loop-place.columns c.push.new.self c.loop-place.place c.index-left-place.result c.last_nonzero.result c.loop-place-test.true c.index-left-place.is c.loop-place.invariant c.last_nonzero.ensures c.in-Ok.ensures.ok

pub last_nonzero-requires : goal.last_nonzero-requires
last_nonzero-requires g c = subst IsNonzero (sym c.index-left-place.is) (each_at IsNonzero c.index-left-place.result c.args.left.now c.loop-place.place c.requires c.loop-place-test.true)

pub returns : goal.returns
returns g c =
    let all : take c.loop-place.place c.args.left.now ≡ c.args.left.now = take_all c.loop-place.place c.args.left.now c.loop-place-test.false in
    subst (λ (xs : List Vector). AllZip (λ x k. EndsAt k x) xs c.loop-place.columns) all c.loop-place.invariant
