use Rattle.std.proofs.Common.{ℤ, pos, ◌-ℤ◌, Some, None, refl, inl, inr, sym, ap, ◌∙◌, subst}
use Rattle.std.specs.Prelude.{int_div}
use Rattle.nz_scalar.specs.Division.{IsFloorQuotient, RoundsUp}
use Rattle.nz_scalar.proofs.FloorLemmas.{no_floor, floor_exact, floor_less, floor_fits, such_of_checks, some_of_checks}
use Rattle.nz_scalar.proofs.division.floor_quotient.Goals as goal

pub returns-in-None-clause-value : goal.returns-in-None-clause-value
returns-in-None-clause-value g c =
    let exact = g.met.N.Integral.exact_law in
    let nonzero = (g.N.Number.nonzero_law (g.N.Number.value c.args.by) exact c.requires.divisor).1 c.requires.nonzero in
    let none : g.N.Number.fits (int_div (g.N.Number.value c.args.a) (g.N.Number.value c.args.by)) → ⊥ = elim (g.met.N.CheckedDiv.checked_div_law c.args.a c.args.by None c.in-None.ensures) [ inl h ↦ absurd (h nonzero) | inr h ↦ h ] in
    no_floor (g.N.Number.value c.args.a) (g.N.Number.value c.args.by) c.requires.nonzero g.N.Number.fits (λ m n k. g.N.Number.between_law m n k exact) (g.met.N.Zero.zero_fits_law exact) none

pub returns-then-rounds_up-clause-value : goal.returns-then-rounds_up-clause-value
returns-then-rounds_up-clause-value g c =
    let exact = g.met.N.Integral.exact_law in
    let a = g.N.Number.value c.args.a in
    let b = g.N.Number.value c.args.by in
    let q = (g.met.N.CheckedDiv.checked_div_law c.args.a c.args.by (Some c.in-Some.quotient) c.in-Some.ensures).2 in
    let r = g.met.N.Num.rem_law c.args.a c.args.by c.rem.result c.rem.ensures exact in
    let up = subst (λ (z : ℤ). RoundsUp z b) r (c.if-rounds_up.ensures.0 refl) in
    let one = ap g.N.Number.value c.one.ensures ∙ g.met.N.One.one_law exact in
    let checks = g.met.N.CheckedSub.checked_sub_law c.in-Some.quotient c.one.result c.checked_sub.result c.checked_sub.ensures in
    such_of_checks g.N.Number.value g.N.Number.fits c.checked_sub.result _ (int_div a b -ℤ pos 1) (ap (λ z. z -ℤ g.N.Number.value c.one.result) q ∙ ap (λ z. int_div a b -ℤ z) one) checks a b c.requires.nonzero (floor_less a b c.requires.nonzero up)

pub returns-then-rounds_up-clause-some : goal.returns-then-rounds_up-clause-some
returns-then-rounds_up-clause-some g c =
    let exact = g.met.N.Integral.exact_law in
    let a = g.N.Number.value c.args.a in
    let b = g.N.Number.value c.args.by in
    let q = (g.met.N.CheckedDiv.checked_div_law c.args.a c.args.by (Some c.in-Some.quotient) c.in-Some.ensures).2 in
    let r = g.met.N.Num.rem_law c.args.a c.args.by c.rem.result c.rem.ensures exact in
    let up = subst (λ (z : ℤ). RoundsUp z b) r (c.if-rounds_up.ensures.0 refl) in
    let one = ap g.N.Number.value c.one.ensures ∙ g.met.N.One.one_law exact in
    let checks = g.met.N.CheckedSub.checked_sub_law c.in-Some.quotient c.one.result c.checked_sub.result c.checked_sub.ensures in
    λ positive. some_of_checks g.N.Number.value g.N.Number.fits c.checked_sub.result _ (int_div a b -ℤ pos 1) (ap (λ z. z -ℤ g.N.Number.value c.one.result) q ∙ ap (λ z. int_div a b -ℤ z) one) checks
    (floor_fits a b c.requires.nonzero g.N.Number.fits (λ m n k. g.N.Number.between_law m n k exact) (g.met.N.Zero.zero_fits_law exact) c.requires.number positive up)

pub returns-else-rounds_up-clause-value : goal.returns-else-rounds_up-clause-value
returns-else-rounds_up-clause-value g c =
    let exact = g.met.N.Integral.exact_law in
    let a = g.N.Number.value c.args.a in
    let b = g.N.Number.value c.args.by in
    let d = g.met.N.CheckedDiv.checked_div_law c.args.a c.args.by (Some c.in-Some.quotient) c.in-Some.ensures in
    let r = g.met.N.Num.rem_law c.args.a c.args.by c.rem.result c.rem.ensures exact in
    let is = floor_exact a b c.requires.nonzero (λ up. cc (c.if-rounds_up.ensures.1 (subst (λ (z : ℤ). RoundsUp z b) (sym r) up))) in
    (subst g.N.Number.fits (sym d.2) d.1, subst (λ (z : ℤ). IsFloorQuotient a b z) (sym d.2) is)
