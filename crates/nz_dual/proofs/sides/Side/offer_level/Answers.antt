use Rattle.std.proofs.Common.{◌≡◌, pos, refl, sym, subst}
use Rattle.nz_dual.specs.Sides.{SideLists, Handles, HasGrown, IsOfferRefusal}
use Rattle.nz_dual.proofs.ValueLemmas.{match_map}
use Rattle.nz_dual.proofs.KeepLemmas.{grown_same, grown_kept, handled_found}
use Rattle.nz_dual.proofs.sides.Side.offer_level.Goals as goal

pub returns-then-has_below : goal.returns-then-has_below
returns-then-has_below g c =
    subst (λ (s : SideLists). HasGrown c.args.limit c.args.rows.now c.args.self.now s × Handles c.args.rows.now c.args.self.now.last s.elements c.args.x.now) (sym c.if-has_below.ensures.same)
    (grown_same c.args.limit c.args.rows.now c.args.self.now c.requires.side, handled_found c.args.limit c.args.rows.now c.args.self.now c.args.self.now c.args.x.now c.args.values.now (pos 0) refl c.requires.side (sym c.requires.level) c.requires.values c.if-has_below.ensures.answer)

pub returns : goal.returns
returns g c =
    match_map _ _ _ _ c.keep.result
    (λ u k.
    subst (λ (s : SideLists). HasGrown c.args.limit c.args.rows.now s c.keep.new.self × Handles c.args.rows.now s.last c.keep.new.self.elements c.args.x.now) c.if-has_below.ensures.same
    (grown_kept c.args.limit c.args.rows.now c.has_below.new.self c.keep.new.self c.args.x.now k.0 k.1 k.2))
    (λ e n. subst (λ (s : SideLists). IsOfferRefusal g.T.Scalar.HALF c.args.limit c.args.rows.now s.last (λ v. v ≡ c.args.x.now) e) c.if-has_below.ensures.same n)
    c.keep.ensures
