use Rattle.std.proofs.Common.{◌<◌, ◌∙◌, ℕ, [], length, sym, ap, subst, arith}
use Rattle.std.specs.List.{AllByRecursion as Each}
use Rattle.nz_spec.specs.Vectors.{HasWidth}
use Rattle.nz_spec.proofs.ListLaws.{each_at}
use Rattle.nz_dual.proofs.KeepLemmas.{grown_same}
use Rattle.nz_dual.proofs.ClosureLemmas.{grown_trans, grown_keeps, handles_next}
use Rattle.nz_dual.proofs.closing.offer_all.Goals as goal

pub offer_both-requires-clause-rows_wide : goal.offer_both-requires-clause-rows_wide
offer_both-requires-clause-rows_wide g c =
    let l : c.loop-place.place < length c.args.vectors.now = omega (arith, c.len-place-end.ensures, c.loop-place-test.true) in
    subst (λ (n : ℕ). Each (HasWidth n) c.args.rows.now) (sym (ap length c.at.ensures ∙ each_at (HasWidth (length c.args.up.now.last)) c.args.vectors.now c.loop-place.place [] c.requires.widths l)) c.requires.rows_wide

pub offer_both-requires-clause-above : goal.offer_both-requires-clause-above
offer_both-requires-clause-above g c =
    let l : c.loop-place.place < length c.args.vectors.now = omega (arith, c.len-place-end.ensures, c.loop-place-test.true) in
    ap length c.loop-place.invariant.up.last ∙ sym (ap length c.at.ensures ∙ each_at (HasWidth (length c.args.up.now.last)) c.args.vectors.now c.loop-place.place [] c.requires.widths l)

pub offer_both-requires-clause-below : goal.offer_both-requires-clause-below
offer_both-requires-clause-below g c =
    let l : c.loop-place.place < length c.args.vectors.now = omega (arith, c.len-place-end.ensures, c.loop-place-test.true) in
    ap length c.loop-place.invariant.down.last ∙ c.requires.width ∙ sym (ap length c.at.ensures ∙ each_at (HasWidth (length c.args.up.now.last)) c.args.vectors.now c.loop-place.place [] c.requires.widths l)

pub offer_both-requires-clause-up : goal.offer_both-requires-clause-up
offer_both-requires-clause-up g c = c.loop-place.invariant.up.side

pub offer_both-requires-clause-down : goal.offer_both-requires-clause-down
offer_both-requires-clause-down g c = c.loop-place.invariant.down.side

pub offer_both-requires-clause-keeps_up : goal.offer_both-requires-clause-keeps_up
offer_both-requires-clause-keeps_up g c =
    let l : c.loop-place.place < length c.args.vectors.now = omega (arith, c.len-place-end.ensures, c.loop-place-test.true) in
    grown_keeps c.args.limit c.args.rows.now c.args.up.now c.loop-place.up c.args.vectors.now c.loop-place.place c.at.result.now c.loop-place.invariant.up c.requires.keeps_up l c.at.ensures

pub offer_both-requires-clause-keeps_down : goal.offer_both-requires-clause-keeps_down
offer_both-requires-clause-keeps_down g c =
    let l : c.loop-place.place < length c.args.vectors.now = omega (arith, c.len-place-end.ensures, c.loop-place-test.true) in
    grown_keeps c.args.limit c.args.rows.now c.args.down.now c.loop-place.down c.args.vectors.now c.loop-place.place c.at.result.now c.loop-place.invariant.down c.requires.keeps_down l c.at.ensures

pub loop-place-init : goal.loop-place-init
loop-place-init g c = record {
  up = grown_same c.args.limit c.args.rows.now c.args.up.now c.requires.up;
  down = grown_same c.args.limit c.args.rows.now c.args.down.now c.requires.down;
  up_handles = tt;
  down_handles = tt;
}

pub loop-place-preserved : goal.loop-place-preserved
loop-place-preserved g c =
    let l : c.loop-place.place < length c.args.vectors.now = omega (arith, c.len-place-end.ensures, c.loop-place-test.true) in
    let o = c.in-Ok.ensures in
    record {
      up = grown_trans c.args.limit c.args.rows.now c.args.up.now c.loop-place.up c.offer_both.new.up c.loop-place.invariant.up o.up_grown;
      down = grown_trans c.args.limit c.args.rows.now c.args.down.now c.loop-place.down c.offer_both.new.down c.loop-place.invariant.down o.down_grown;
      up_handles = handles_next c.args.limit c.args.rows.now c.args.up.now c.loop-place.up c.offer_both.new.up c.args.vectors.now c.loop-place.place c.at.result.now l c.at.ensures c.loop-place.invariant.up o.up_grown o.up_handles c.loop-place.invariant.up_handles;
      down_handles = handles_next c.args.limit c.args.rows.now c.args.down.now c.loop-place.down c.offer_both.new.down c.args.vectors.now c.loop-place.place c.at.result.now l c.at.ensures c.loop-place.invariant.down o.down_grown o.down_handles c.loop-place.invariant.down_handles;
    }
