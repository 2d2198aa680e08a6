use Rattle.std.proofs.Common.{◌≡◌, ℕ, ◌<◌, ◌≤◌, [], ◌∷◌, ◌++◌, ap, ◌∙◌, subst}
use Rattle.nz_spec.specs.Vectors.{Vector}
use Rattle.nz_dual.proofs.ValueLemmas.{match_map}
use Rattle.nz_dual.proofs.KeepLemmas.{kept_side, kept_too_many, many_refused, refused, degree_refused}
use Rattle.nz_dual.proofs.sides.Side.keep.Goals as goal

pub returns-in-Err : goal.returns-in-Err
returns-in-Err g c = refused g.T.Scalar.HALF c.args.limit c.args.rows.now c.args.self.now.last c.args.x.now c.in-Err.refusal c.work_of.result
    (λ e. degree_refused g.T.Scalar.HALF g.T.Scalar.fits g.met.T.Scalar.room c.args.rows.now c.args.self.now.last c.args.x.now c.args.values.now c.len.result c.len.ensures c.requires.values (c.in-Err.ensures e))
    c.work_of.ensures

pub returns : goal.returns
returns g c =
    match_map _ _ _ _ c.within.result
    (λ u l. kept_side c.args.limit c.args.rows.now c.args.self.now c.note_rising.new.self _ c.args.x.now c.args.values.now c.len.result c.push.new.self c.put_shared.new.self.columns c.put_shared.new.self.rows c.requires.rows_wide c.requires.side c.requires.values c.requires.new c.requires.irreducible c.len.ensures c.in-Ok.ensures c.self.view_is
    (c.in-Ok-push.ensures.ok ∙ ap (λ (v : Vector). c.self.inside.elements ++ v ∷ []) c.in-Ok-try_copy.ensures) c.put_shared.ensures.width (c.in-Ok-put_shared.ensures.ok ∙ ap (λ (v : Vector). c.self.inside.table.rows ++ v ∷ []) c.requires.slice) (subst (λ (n : ℕ). n ≤ c.args.limit) c.len-2.ensures l))
    (λ e r. many_refused g.T.Scalar.HALF c.args.limit c.args.rows.now c.args.self.now.last (λ v. v ≡ c.args.x.now) e r.0
    (kept_too_many c.args.limit c.args.rows.now c.args.self.now c.note_rising.new.self _ c.args.x.now c.args.values.now c.len.result c.push.new.self c.requires.side c.requires.values c.requires.new c.requires.irreducible c.in-Ok.ensures c.self.view_is
    (c.in-Ok-push.ensures.ok ∙ ap (λ (v : Vector). c.self.inside.elements ++ v ∷ []) c.in-Ok-try_copy.ensures) (subst (λ (n : ℕ). c.args.limit < n) c.len-2.ensures r.1)))
    c.within.ensures
