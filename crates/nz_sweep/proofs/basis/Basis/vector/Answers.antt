use Rattle.std.proofs.Common.{◌≡◌, ◌+◌, ◌<◌, length, get_or, pos, List, sym, ap, ◌∙◌, arith}
use Rattle.std.proofs.lemmas.List.{take_all}
use Rattle.nz_spec.specs.Vectors.{Vector, dot, combination}
use Rattle.nz_spec.proofs.SumLaws.{length-combination}
use Rattle.nz_sweep.specs.Bases.{column_of}
use Rattle.nz_sweep.proofs.BaseLemmas.{value_more, entry-combination}
use Rattle.nz_sweep.proofs.basis.Basis.vector.Goals as goal

pub loop-place-preserved : goal.loop-place-preserved
loop-place-preserved g c =
    let w = c.self.inside.width in
    let vs = c.self.inside.base.items in
    let i = c.loop-place.place in
    let cs = c.args.coordinates.now in
    let wide = c.self.invariant.0.widths in
    let n = length-combination w cs vs wide in
    let within : i < length (combination w cs vs) = omega (arith, n, c.loop-place-test.true) in
    let column : c.in-Ok-column.column ≡ column_of vs i = c.in-Ok-column.ensures ∙ ap (λ (us : List Vector). column_of us i) c.as_slice.ensures.value in
    let here : g.T.Scalar.integer c.in-Some.entry ≡ get_or (combination w cs vs) i (pos 0) = c.in-Some.ensures.1 ∙ ap (dot cs) column ∙ sym (entry-combination w cs vs i wide) in (
      c.push_reserved.ensures.len ∙ ap (λ n. n + 1) c.loop-place.invariant.0,
      c.push_reserved.ensures.capacity ∙ c.loop-place.invariant.1,
      value_more g.T.Scalar.integer (combination w cs vs) c.loop-place.entries.items _ i c.in-Some.entry within c.loop-place.invariant.2 here c.push_reserved.ensures.items,
    )

pub returns : goal.returns
returns g c =
    let w = c.self.inside.width in
    let vs = c.self.inside.base.items in
    let cs = c.args.coordinates.now in
    let n = length-combination w cs vs c.self.invariant.0.widths in
    c.from_vec.ensures ∙ c.loop-place.invariant.2 ∙ take_all c.loop-place.place (combination w cs vs) (omega (arith, n, c.loop-place-test.false)) ∙ ap (λ b. combination b.width cs b.vectors) c.self.view_is
