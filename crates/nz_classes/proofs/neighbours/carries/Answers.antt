use Rattle.std.proofs.Common.{◌≡◌, ◌+◌, length, ◌+ℤ◌, sym, ap, ◌∙◌, subst, arith}
use Rattle.nz_spec.specs.Vectors.{entry}
use Rattle.std.proofs.lemmas.List.{length-map}
use Rattle.nz_classes.specs.Steps.{AreCarries, IsCarry}
use Rattle.nz_classes.proofs.EntryLemmas.{each_push, pair_outside, carry_at}
use Rattle.nz_classes.proofs.neighbours.carries.Goals as goal

pub loop-place-init : goal.loop-place-init
loop-place-init g c = record {
  reached = c.in-Ok.ensures.len;
  room = omega (arith, c.in-Ok.ensures.exact, c.len.ensures);
  each = λ i l. absurd (omega (arith, l));
}

pub returns-in-None : goal.returns-in-None
returns-in-None g c = λ _. pair_outside g.T.Scalar.fits c.args.values.now c.args.more.now c.loop-place.place _ _ (omega (arith, c.len-place-end.ensures)) c.at.ensures c.at-in-loop-place.ensures c.in-None.ensures

pub loop-place-preserved : goal.loop-place-preserved
loop-place-preserved g c = record {
  reached = c.push_reserved.ensures.len ∙ ap (λ n. n + 1) c.loop-place.invariant.reached;
  room = c.push_reserved.ensures.capacity ∙ c.loop-place.invariant.room;
  each = each_push (λ i k. IsCarry (entry c.args.values.now i +ℤ entry c.args.more.now i) (entry c.args.divisors.now i) k) g.T.Scalar.integer c.loop-place.carries.items c.push_reserved.new.self.items c.carry.result c.loop-place.place (omega (arith, c.loop-place.carries.ok.0, c.loop-place.invariant.reached)) c.push_reserved.ensures.items c.loop-place.invariant.each
      (carry_at c.args.values.now c.args.more.now c.args.divisors.now c.loop-place.place _ _ _ _ (g.T.Scalar.integer c.carry.result) c.at.ensures c.at-in-loop-place.ensures c.in-Some.ensures.1 c.at-in-Some.ensures c.carry.ensures);
}

pub returns : goal.returns
returns g c =
    let n : c.loop-place.place ≡ length c.args.values.now = omega (arith, c.len-place-end.ensures, c.loop-place-test.false, c.loop-place.auto.place-end) in
    subst (AreCarries c.args.values.now c.args.more.now c.args.divisors.now) (sym c.from_vec.ensures) (record {
      one_each = omega (arith, n, length-map c.loop-place.carries.items g.T.Scalar.integer, c.loop-place.carries.ok.0, c.loop-place.invariant.reached);
      each = λ i l. c.loop-place.invariant.each i (omega (arith, l, n));
    })
