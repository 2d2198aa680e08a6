use Rattle.std.proofs.Common.{sym, subst}
use Rattle.nz_cover.specs.Listing.{AreDistinct, AreListed}
use Rattle.nz_cover.proofs.CoverLemmas.{placed_distinct, placed_good, nothing_placed, none_at_all, none_or_some}
use Rattle.nz_cover.proofs.ToldLemmas.{nothing_passed}
use Rattle.nz_cover.proofs.covering.place.Goals as goal

pub returns-then-len-eq0 : goal.returns-then-len-eq0
returns-then-len-eq0 g c =
    let none = none_at_all c.args.rays.now c.len.result c.len.ensures c.if-len-eq0.true in
    (nothing_placed c.args.width c.args.rays.now c.new.result c.new-then-len-eq0.result c.requires none c.new.ensures c.new-then-len-eq0.ensures, nothing_passed c.args.width c.args.rays.now c.args.told_before _ none)

pub all_placed-requires-clause-some : goal.all_placed-requires-clause-some
all_placed-requires-clause-some g c = none_or_some c.args.rays.now c.len.result c.len.ensures c.if-len-eq0.false

pub sorted_cover-requires : goal.sorted_cover-requires
sorted_cover-requires g c = subst AreDistinct (sym c.as_slice.ensures.value) (placed_distinct c.args.width c.args.rays.now c.in-Ok.placing.placed c.in-Ok.placing.cells.items c.in-Ok.placing.facets c.in-Ok.ensures.0.state)

pub returns-in-Ok-sorted_cover : goal.returns-in-Ok-sorted_cover
returns-in-Ok-sorted_cover g c = (
  placed_good c.args.width c.args.rays.now c.in-Ok.placing.placed c.in-Ok.placing.cells.items c.in-Ok.placing.facets c.in-Ok-sorted_cover.cover.simplices c.in-Ok-sorted_cover.cover.forms c.requires (none_or_some c.args.rays.now c.len.result c.len.ensures c.if-len-eq0.false) c.in-Ok.ensures.0
      (subst (λ cs. AreListed cs c.in-Ok-sorted_cover.cover.simplices c.in-Ok-sorted_cover.cover.forms) c.as_slice.ensures.value c.in-Ok-sorted_cover.ensures),
  c.in-Ok.ensures.1,
)
