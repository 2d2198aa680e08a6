use Rattle.std.proofs.Common.{List, [], length, take, take_all, ◌∙◌, sym, ap, subst, arith}
use Rattle.std.specs.List.{AllByRecursion as Each}
use Rattle.nz_spec.specs.Vectors.{Vector, HasWidth}
use Rattle.nz_spec.proofs.ListLaws.{each_at}
use Rattle.nz_sweep.proofs.NumberLemmas.{some_map}
use Rattle.nz_further.specs.Units.{IsUnitSplit}
use Rattle.nz_units.specs.Splits.{IsSplitBy, start}
use Rattle.nz_units.proofs.SplitLemmas.{split_widths, split_ends, row_place}
use Rattle.nz_units.proofs.splitting.unit_split.Goals as goal

pub loop-place-init : goal.loop-place-init
loop-place-init g c = (omega arith, subst (λ (t : List Vector). IsSplitBy c.args.lattice.now [] t c.new.result.items) (sym c.in-Ok.ensures) (subst (λ (t : List Vector). IsSplitBy c.args.lattice.now [] c.args.lattice.now t) (sym c.new.ensures.items) start))

pub split_one-requires : goal.split_one-requires
split_one-requires g c =
    let l = ap length c.at.ensures ∙ each_at (HasWidth c.requires.width) c.args.rows.now c.loop-place.place [] c.requires.row_widths (omega (arith, c.loop-place-test.true, c.len-place-end.ensures)) in
    subst (λ n. Each (HasWidth n) c.loop-place.parts.units.items) (sym l) (split_widths c.requires.width c.args.lattice.now (take c.loop-place.place c.args.rows.now) c.loop-place.parts.units.items c.loop-place.parts.rest.items c.requires.vectors c.requires.independent c.loop-place.invariant.1)

pub returns-in-Err-split_one-clause-steps : goal.returns-in-Err-split_one-clause-steps
returns-in-Err-split_one-clause-steps g c = λ e.
    let k = row_place c.args.rows.now c.loop-place.place c.at.result.now (omega (arith, c.loop-place-test.true, c.len-place-end.ensures)) c.at.ensures in
    some_map g.T.Scalar.HALF (λ n m. record { seen = take c.loop-place.place c.args.rows.now; row = c.at.result.now; later = k.0; units = c.loop-place.parts.units.items; rest = c.loop-place.parts.rest.items; whole = k.1; split = c.loop-place.invariant.1; number = m }) (c.in-Err-split_one.ensures.cause e)

pub returns-clause-split : goal.returns-clause-split
returns-clause-split g c =
    let e = take_all c.loop-place.place c.args.rows.now (omega (arith, c.loop-place-test.false, c.len-place-end.ensures)) in
    λ w l i. subst (λ (t : List Vector). IsUnitSplit w c.args.lattice.now c.args.rows.now t c.from_vec-2.result) (sym c.from_vec.ensures)
    (subst (λ (t : List Vector). IsUnitSplit w c.args.lattice.now c.args.rows.now c.loop-place.parts.units.items t) (sym c.from_vec-2.ensures)
    (split_ends w c.args.lattice.now c.args.rows.now c.loop-place.parts.units.items c.loop-place.parts.rest.items l i
    (subst (λ (t : List Vector). IsSplitBy c.args.lattice.now t c.loop-place.parts.units.items c.loop-place.parts.rest.items) e c.loop-place.invariant.1)))
