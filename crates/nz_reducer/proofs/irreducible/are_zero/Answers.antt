use Rattle.std.proofs.Common.{◌≡◌, ◌<◌, length, map, pos, refl, sym, ◌∙◌, subst, arith}
use Rattle.std.proofs.lemmas.List.{length-map, take_more, take_all}
use Rattle.nz_spec.specs.Vectors.{IsZero}
use Rattle.nz_spec.proofs.ListLaws.{each_at}
use Rattle.nz_order.proofs.OrderLaws.{Each-push}
use Rattle.nz_vec.proofs.SumsLemmas.{at_map}
use Rattle.nz_reducer.proofs.irreducible.are_zero.Goals as goal

pub returns-then-not-is_zero : goal.returns-then-not-is_zero
returns-then-not-is_zero g c = λ z.
    let xs = map g.T.Scalar.integer c.args.entries.now in
    let l : c.loop-entry.entry-index < length xs = omega (arith, length-map c.args.entries.now g.T.Scalar.integer, c.loop-entry-test.true) in
    let e = at_map g.T.Scalar.integer c.args.entries.now c.loop-entry.entry-index c.entry-item.result c.loop-entry-test.true c.entry-item.is in
    let f = c.if-not-is_zero.ensures.1 (e ∙ each_at (λ a. a ≡ pos 0) xs c.loop-entry.entry-index (pos 0) z l) in cc

pub loop-entry-preserved : goal.loop-entry-preserved
loop-entry-preserved g c =
    let xs = map g.T.Scalar.integer c.args.entries.now in
    let l : c.loop-entry.entry-index < length xs = omega (arith, length-map c.args.entries.now g.T.Scalar.integer, c.loop-entry-test.true) in
    let e = at_map g.T.Scalar.integer c.args.entries.now c.loop-entry.entry-index c.entry-item.result c.loop-entry-test.true c.entry-item.is in
    subst IsZero (sym (take_more xs c.loop-entry.entry-index (pos 0) l)) (Each-push (λ a. a ≡ pos 0) _ _ c.loop-entry.invariant (sym e ∙ c.if-not-is_zero.ensures.0 refl))

pub returns : goal.returns
returns g c =
    let xs = map g.T.Scalar.integer c.args.entries.now in
    subst IsZero (take_all c.loop-entry.entry-index xs (omega (arith, length-map c.args.entries.now g.T.Scalar.integer, c.loop-entry-test.false))) c.loop-entry.invariant
