use Rattle.std.proofs.Common.{◌<◌, [], length, ap, sym, ◌∙◌, subst, arith, below_more}
use Rattle.nz_spec.specs.Vectors.{Vector}
use Rattle.nz_order.specs.Boxes.{IsBelow}
use Rattle.nz_reducer.proofs.Places.{each_from}
use Rattle.nz_reducer.proofs.list_table.ListTableTable.first.Goals as goal

pub is_below-requires : goal.is_below-requires
is_below-requires g c =
    let l : c.loop-place.place < length c.args.self.now.rows = omega (arith, c.len-place-end.ensures) in
    ap length c.at.ensures ∙ c.args.self.now.wide c.loop-place.place l ∙ sym c.requires

pub returns-then-is_below : goal.returns-then-is_below
returns-then-is_below g c = record {
  inside = omega (arith, c.len-place-end.ensures);
  below = subst (λ (v : Vector). IsBelow v c.args.values.now) c.at.ensures c.if-is_below.ensures;
  first = c.loop-place.invariant;
}

pub loop-place-preserved : goal.loop-place-preserved
loop-place-preserved g c = below_more _ _ c.loop-place.invariant (subst (λ (v : Vector). ¬ IsBelow v c.args.values.now) c.at.ensures c.if-is_below.ensures)

pub returns : goal.returns
returns g c = each_from (λ e. ¬ IsBelow e c.args.values.now) c.args.self.now.rows [] (λ k l. c.loop-place.invariant k (omega (arith, c.len-place-end.ensures)))
