use Rattle.std.proofs.Common.{ℕ, sym, subst}
use Rattle.std.specs.List.{AllByRecursion as Each}
use Rattle.nz_spec.specs.Vectors.{HasWidth}
use Rattle.nz_pointed.specs.Pointed.{IsTooLarge}
use Rattle.nz_rays.specs.Rays.{AreRaysOnce}
use Rattle.nz_rays.proofs.StartLemmas.{simplex_width, simplex_at_width}
use Rattle.nz_rays.proofs.extreme.pointed_rays.Goals as goal

pub extreme_rays-requires-clause-widths : goal.extreme_rays-requires-clause-widths
extreme_rays-requires-clause-widths g c = subst (λ (w : ℕ). Each (HasWidth w) c.args.rows.now) (simplex_width c.args.width c.args.rows.now c.in-Ok.simplex.rays c.in-Ok.simplex.places c.in-Ok.ensures) c.requires.widths

pub extreme_rays-requires-clause-simplex : goal.extreme_rays-requires-clause-simplex
extreme_rays-requires-clause-simplex g c = simplex_at_width c.args.width c.args.rows.now c.in-Ok.simplex.rays c.in-Ok.simplex.places c.in-Ok.ensures

pub returns-in-Ok-extreme_rays : goal.returns-in-Ok-extreme_rays
returns-in-Ok-extreme_rays g c = subst (λ (w : ℕ). AreRaysOnce w c.args.rows.now c.in-Ok-extreme_rays.rays) (sym (simplex_width c.args.width c.args.rows.now c.in-Ok.simplex.rays c.in-Ok.simplex.places c.in-Ok.ensures)) c.in-Ok-extreme_rays.ensures

pub returns : goal.returns
returns g c = λ e. subst (λ (w : ℕ). IsTooLarge g.T.Scalar.HALF w c.args.rows.now) (sym (simplex_width c.args.width c.args.rows.now c.in-Ok.simplex.rays c.in-Ok.simplex.places c.in-Ok.ensures)) (c.in-Err-extreme_rays.ensures e)
