use Rattle.std.proofs.Common.{◌≡◌, refl, ap, ◌∙◌, sym, subst}
use Rattle.nz_spec.specs.Vectors.{dot}
use Rattle.nz_dual.specs.Sides.{SideLists, Handles, HasGrown, IsOfferRefusal}
use Rattle.nz_dual.proofs.ValueLemmas.{match_map}
use Rattle.nz_dual.proofs.KeepLemmas.{grown_same, grown_kept, not_on_side, handled_found, last_large}
use Rattle.nz_dual.proofs.sides.Side.offer.Goals as goal

pub returns-in-None : goal.returns-in-None
returns-in-None g c = (refl, last_large g.T.Scalar.HALF g.T.Scalar.fits g.met.T.Scalar.room c.args.rows.now c.args.self.now.last c.self.inside.last c.args.x.now (ap (λ (s : SideLists). s.last) c.self.view_is) c.in-None.ensures)

pub returns-then-is_negative : goal.returns-then-is_negative
returns-then-is_negative g c = (
  grown_same c.args.limit c.args.rows.now c.args.self.now c.requires.side,
  λ i. absurd (not_on_side c.args.rows.now c.args.self.now.last c.self.inside.last c.args.x.now (g.T.Scalar.integer c.in-Some.height) (ap (λ (s : SideLists). s.last) c.self.view_is) c.in-Some.ensures.1 (c.if-is_negative.ensures.0 refl) i),
)

pub returns-then-has_below : goal.returns-then-has_below
returns-then-has_below g c =
    subst (λ (s : SideLists). HasGrown c.args.limit c.args.rows.now c.args.self.now s × Handles c.args.rows.now c.args.self.now.last s.elements c.args.x.now) (sym c.if-has_below.ensures.same)
    (grown_same c.args.limit c.args.rows.now c.args.self.now c.requires.side, handled_found c.args.limit c.args.rows.now c.args.self.now c.args.self.now c.args.x.now c.in-Ok.values (g.T.Scalar.integer c.in-Some.height) refl c.requires.side (c.in-Some.ensures.1 ∙ ap (λ (s : SideLists). dot s.last c.args.x.now) c.self.view_is) c.in-Ok.ensures c.if-has_below.ensures.answer)

pub returns : goal.returns
returns g c =
    match_map _ _ _ _ c.keep_alone.result
    (λ u k.
    subst (λ (s : SideLists). HasGrown c.args.limit c.args.rows.now s c.keep_alone.new.self × Handles c.args.rows.now s.last c.keep_alone.new.self.elements c.args.x.now) c.if-has_below.ensures.same
    (grown_kept c.args.limit c.args.rows.now c.has_below.new.self c.keep_alone.new.self c.args.x.now k.0 k.1 k.2))
    (λ e n. subst (λ (s : SideLists). IsOfferRefusal g.T.Scalar.HALF c.args.limit c.args.rows.now s.last (λ v. v ≡ c.args.x.now) e) c.if-has_below.ensures.same n)
    c.keep_alone.ensures
