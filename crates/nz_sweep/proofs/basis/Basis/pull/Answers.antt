use Rattle.std.proofs.Common.{rules, ◌≡◌, ◌+◌, ◌<◌, length, get_or, pos, sym, ap, ◌∙◌, arith}
use Rattle.std.proofs.lemmas.List.{length-map}
use Rattle.nz_spec.specs.Vectors.{Vector, dot}
use Rattle.nz_linear.specs.Coordinates.{in_coordinates}
use Rattle.nz_sweep.proofs.BaseLemmas.{value_more, mapped_at}
use Rattle.nz_sweep.proofs.basis.Basis.pull.Goals as goal

pub loop-place-preserved : goal.loop-place-preserved
loop-place-preserved g c =
    let vs = c.self.inside.base.items in
    let i = c.loop-place.place in
    let f = c.args.form.now in
    let inside : i < length vs = search rules in
    let within : i < length (in_coordinates vs f) = omega (arith, length-map vs (λ (v : Vector). dot f v), inside) in
    let here : g.T.Scalar.integer c.in-Some.value ≡ get_or (in_coordinates vs f) i (pos 0) = c.in-Some.ensures.1 ∙ ap (dot f) c.index.ensures ∙ sym (mapped_at (λ (v : Vector). dot f v) vs i c.index.result.now inside) in (
      c.push_reserved.ensures.len ∙ ap (λ n. n + 1) c.loop-place.invariant.0,
      c.push_reserved.ensures.capacity ∙ c.loop-place.invariant.1,
      value_more g.T.Scalar.integer (in_coordinates vs f) c.loop-place.values.items _ i c.in-Some.value within c.loop-place.invariant.2 here c.push_reserved.ensures.items,
    )
