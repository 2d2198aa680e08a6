use Rattle.std.proofs.Common.{◌≡◌, [], length, sym, ap, ◌∙◌, subst, arith}
use Rattle.std.specs.Prelude.{MatchResult}
use Rattle.nz_spec.specs.Vectors.{Vector, entry, HasWidth}
use Rattle.nz_vec.specs.declared.answers.Num.{Num}
use Rattle.nz_vec.specs.declared.answers.Num.TheVariants.{Range}
use Rattle.nz_sweep.specs.Bottom.{column_at, IsClearedOf}
use Rattle.nz_sweep.specs.Numbers.{SomeNumberLarge, IsBottomStepNumber}
use Rattle.nz_sweep.proofs.BaseLemmas.{each_at}
use Rattle.nz_sweep.proofs.BottomLemmas.{columns_length, column_within, lead_nonzero, vector_is}
use Rattle.nz_sweep.proofs.bottom.cleared_at.Goals as goal

pub bounds-columns-place : goal.bounds-columns-place
bounds-columns-place g c = let n = columns_length c.args.columns.now c.args.base.now c.requires.leading in omega (arith, n, c.requires.inside)

pub cleared-requires-clause-vector : goal.cleared-requires-clause-vector
cleared-requires-clause-vector g c = ap length (vector_is c.args.base.now c.args.place c.index-base-place.result c.requires.inside c.index-base-place.is) ∙ each_at (HasWidth c.args.width) [] c.args.base.now c.args.place c.requires.widths c.requires.inside

pub cleared-requires-clause-inside : goal.cleared-requires-clause-inside
cleared-requires-clause-inside g c = column_within c.args.width c.args.columns.now c.args.base.now c.args.place c.requires.widths c.requires.leading c.requires.inside

pub cleared-requires-clause-nonzero : goal.cleared-requires-clause-nonzero
cleared-requires-clause-nonzero g c = λ q. lead_nonzero c.args.columns.now c.args.base.now c.args.place c.requires.leading c.requires.inside (ap (λ (v : Vector). entry v (column_at c.args.columns.now c.args.place)) (sym (vector_is c.args.base.now c.args.place c.index-base-place.result c.requires.inside c.index-base-place.is)) ∙ q)

pub cleared-requires-clause-zero : goal.cleared-requires-clause-zero
cleared-requires-clause-zero g c = c.requires.zero

pub returns : goal.returns
returns g c =
    let k = column_at c.args.columns.now c.args.place in
    subst (λ (v : Vector). MatchResult c.cleared.result (IsClearedOf c.args.width k v c.args.form.now) (λ (e : Num). e ≡ Range → SomeNumberLarge g.T.Scalar.HALF (IsBottomStepNumber k v c.args.form.now))) (vector_is c.args.base.now c.args.place c.index-base-place.result c.requires.inside c.index-base-place.is) c.cleared.ensures
