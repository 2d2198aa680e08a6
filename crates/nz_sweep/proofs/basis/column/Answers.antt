use Rattle.std.proofs.Common.{◌≡◌, ◌+◌, ◌<◌, length, get_or, pos, sym, ap, ◌∙◌, arith}
use Rattle.std.proofs.lemmas.List.{length-map}
use Rattle.nz_spec.specs.Vectors.{Vector, entry}
use Rattle.nz_sweep.specs.Bases.{column_of}
use Rattle.nz_sweep.proofs.BaseLemmas.{value_more, mapped_at}
use Rattle.nz_sweep.proofs.basis.column.Goals as goal

pub loop-index-preserved : goal.loop-index-preserved
loop-index-preserved g c =
    let vs = c.args.base.now in
    let i = c.loop-index.index in
    let j = c.args.place in
    let within : i < length (column_of vs j) = omega (arith, length-map vs (λ (v : Vector). entry v j), c.loop-index-test.true) in
    let here : g.T.Scalar.integer c.at.result ≡ get_or (column_of vs j) i (pos 0) = c.at.ensures ∙ ap (λ (v : Vector). entry v j) c.index-base-index.is ∙ sym (mapped_at (λ (v : Vector). entry v j) vs i c.index-base-index.result c.loop-index-test.true) in (
      c.push_reserved.ensures.len ∙ ap (λ n. n + 1) c.loop-index.invariant.0,
      c.push_reserved.ensures.capacity ∙ c.loop-index.invariant.1,
      value_more g.T.Scalar.integer (column_of vs j) c.loop-index.entries.items _ i c.at.result within c.loop-index.invariant.2 here c.push_reserved.ensures.items,
    )
