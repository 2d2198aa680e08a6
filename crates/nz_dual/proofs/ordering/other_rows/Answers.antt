use Rattle.std.proofs.Common.{◌∙◌, ◌<◌, ◌+◌, ℕ, List, length, sym, subst, arith}
use Rattle.nz_spec.specs.Vectors.{Vector}
use Rattle.nz_dual.proofs.OrderLemmas.{IsSplitUpTo, split_none, split_chosen, split_other, split_all}
use Rattle.nz_dual.proofs.ordering.other_rows.Goals as goal
use Rattle.nz_dual.proofs.ordering.other_rows.Goals.{then-stands_at, else-stands_at+in-Ok}

pub loop-place-init : goal.loop-place-init
loop-place-init g c = subst (λ (others : List Vector). IsSplitUpTo (length c.args.places.now) c.args.rows.now c.args.places.now 0 0 others) (sym c.new-others.ensures) (split_none (length c.args.places.now) c.args.rows.now c.args.places.now)

pub loop-place-preserved : goal.loop-place-preserved
loop-place-preserved g c =
    let w = length c.args.places.now in
    let l : c.loop-place.place < length c.args.rows.now = omega (arith, c.len-place-end.ensures, c.loop-place-test.true) in
    elim c.if-stands_at.branch [
      | then-stands_at b ↦ (
          let s = split_chosen w c.args.rows.now c.args.places.now c.requires.rows_wide c.requires.places c.loop-place.place c.loop-place.next c.loop-place.others l c.loop-place.invariant b.if-stands_at.ensures in
          subst (λ (n : ℕ). IsSplitUpTo w c.args.rows.now c.args.places.now (c.loop-place.place + 1) n c.if-stands_at.others) (sym b.next-is) (subst (λ (others : List Vector). IsSplitUpTo w c.args.rows.now c.args.places.now (c.loop-place.place + 1) (c.loop-place.next + 1) others) (sym b.others-is) s))
      | else-stands_at+in-Ok b ↦ (
          let s = split_other w c.args.rows.now c.args.places.now c.requires.rows_wide c.requires.places c.loop-place.place c.loop-place.next c.loop-place.others l c.loop-place.invariant b.if-stands_at.ensures in
          subst (λ (n : ℕ). IsSplitUpTo w c.args.rows.now c.args.places.now (c.loop-place.place + 1) n c.if-stands_at.others) (sym b.next-is) (subst (λ (others : List Vector). IsSplitUpTo w c.args.rows.now c.args.places.now (c.loop-place.place + 1) c.loop-place.next others) (sym (b.others-is ∙ b.in-Ok.ensures)) s))
    ]

pub returns : goal.returns
returns g c = split_all (length c.args.places.now) c.args.rows.now c.args.places.now c.loop-place.place c.loop-place.next c.loop-place.others c.requires.places (omega (arith, c.len-place-end.ensures, c.loop-place-test.false)) c.loop-place.invariant
