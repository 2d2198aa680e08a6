use Rattle.std.proofs.Common.{◌<◌, ◌+◌, ℕ, [], length, map, sym, ap, ◌∙◌, subst, arith}
use Rattle.std.specs.List.{AllByRecursion as Each}
use Rattle.nz_spec.specs.Vectors.{HasWidth, values_at}
use Rattle.nz_spec.proofs.ListLaws.{each_at}
use Rattle.nz_reducer.proofs.Places.{valued_push, valued_end, outside_among}
use Rattle.nz_reducer.proofs.valued.with_values.Goals as goal

pub values_at-requires : goal.values_at-requires
values_at-requires g c =
    let l : c.loop-place.place < length c.args.candidates.now = omega (arith, c.len-place-end.ensures) in
    let e = ap length c.at-candidate.ensures ∙ each_at (HasWidth c.requires.width) c.args.candidates.now c.loop-place.place [] c.requires.candidates_wide l in
    subst (λ (n : ℕ). Each (HasWidth n) c.args.rows.now) (sym e) c.requires.rows_wide

pub returns-in-Err-values_at : goal.returns-in-Err-values_at
returns-in-Err-values_at g c = λ h. outside_among g.T.Scalar.fits c.args.rows.now c.args.candidates.now c.loop-place.place c.at-candidate.result.now (omega (arith, c.len-place-end.ensures)) c.at-candidate.ensures (c.in-Err-values_at.ensures h)

pub loop-place-preserved : goal.loop-place-preserved
loop-place-preserved g c = record {
  reached = c.push_reserved.ensures.len ∙ ap (λ n. n + 1) c.loop-place.invariant.reached;
  room = c.push_reserved.ensures.capacity ∙ c.loop-place.invariant.room;
  valued = valued_push c.args.rows.now c.args.candidates.now c.loop-place.list.items c.push_reserved.new.self.items (λ c. map g.T.Scalar.integer c.entries.items) (λ c. map g.T.Scalar.integer c.values.items) _ c.loop-place.place (omega (arith, c.len-place-end.ensures)) c.loop-place.invariant.valued (c.into_vec-entries.ensures ∙ c.in-Ok-try_copy.ensures ∙ c.at-candidate.ensures) (c.into_vec-values.ensures ∙ c.in-Ok-values_at.ensures ∙ ap (values_at c.args.rows.now) c.at-candidate.ensures) c.push_reserved.ensures.items;
}

pub returns : goal.returns
returns g c = valued_end c.args.rows.now c.args.candidates.now c.loop-place.list.items (λ c. map g.T.Scalar.integer c.entries.items) (λ c. map g.T.Scalar.integer c.values.items) c.loop-place.place (omega (arith, c.len-place-end.ensures, c.loop-place-test.false)) c.loop-place.invariant.valued
