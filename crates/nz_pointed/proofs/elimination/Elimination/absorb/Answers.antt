use Rattle.std.proofs.Common.{ℕ, length, get_or, sym, ap, subst, List, [], ℤ, Option, Some, None}
use Rattle.std.specs.List.{AllByRecursion as Each}
use Rattle.nz_spec.specs.Vectors.{HasWidth}
use Rattle.nz_range.specs.Measures.{AreLargeFor}
use Rattle.std.proofs.Common.{◌++◌}
use Rattle.nz_pointed.specs.Elimination.{IsFirstNonzero}
use Rattle.nz_pointed.proofs.RangeLemmas.{match_map, large_found}
use Rattle.nz_pointed.proofs.StepLemmas.{left_widths, chosen_widths, absorbed, absorbed_skip}
use Rattle.nz_pointed.proofs.elimination.Elimination.absorb.Goals as goal

pub first_nonzero-requires : goal.first_nonzero-requires
first_nonzero-requires g c =
    subst (λ (n : ℕ). Each (HasWidth n) c.as_slice.result.now) (sym (ap length c.at-form.ensures))
    (subst (Each (HasWidth (length (get_or c.args.rows.now c.args.place [])))) (sym c.as_slice.ensures.value) (left_widths _ _ _ _ _ c.requires.state))

pub exchange-requires-clause-left : goal.exchange-requires-clause-left
exchange-requires-clause-left g c =
    subst (λ (n : ℕ). Each (HasWidth n) c.args.self.now.left.items) (sym (ap length c.at-form.ensures)) (left_widths _ _ _ _ _ c.requires.state)

pub exchange-requires-clause-chosen : goal.exchange-requires-clause-chosen
exchange-requires-clause-chosen g c =
    subst (λ (n : ℕ). Each (HasWidth n) c.args.self.now.chosen.items) (sym (ap length c.at-form.ensures)) (chosen_widths _ _ _ _ _ c.requires.state)

pub returns-in-Some : goal.returns-in-Some
returns-in-Some g c =
    match_map _ _ _ _ c.exchange.result
    (λ r x. absorbed _ c.args.rows.now c.args.place c.at-form.result.now c.in-Some.pivot _ _ _ _ _ _ c.requires.widths c.requires.within c.at-form.ensures c.requires.state
    (subst (λ (left : List (List ℤ)). IsFirstNonzero c.at-form.result.now left (Some c.in-Some.pivot)) c.as_slice.ensures.value (subst (λ (f : Option ℕ). IsFirstNonzero c.at-form.result.now c.as_slice.result.now f) c.in-Some.is c.in-Ok.ensures)) x.0 x.1)
    (λ e n k. subst (λ (f : List ℤ). AreLargeFor g.T.Scalar.HALF f (c.args.self.now.chosen.items ++ c.args.self.now.left.items)) c.at-form.ensures (n k))
    c.exchange.ensures

pub returns-in-None : goal.returns-in-None
returns-in-None g c =
    absorbed_skip _ c.args.rows.now c.args.place c.at-form.result.now _ _ _ c.requires.widths c.requires.within c.at-form.ensures c.requires.state
    (subst (λ (left : List (List ℤ)). IsFirstNonzero c.at-form.result.now left None) c.as_slice.ensures.value (subst (λ (f : Option ℕ). IsFirstNonzero c.at-form.result.now c.as_slice.result.now f) c.in-None.is c.in-Ok.ensures))

pub returns-in-Err : goal.returns-in-Err
returns-in-Err g c = λ e. large_found g.T.Scalar.HALF c.at-form.result.now _ c.args.self.now.chosen.items c.args.self.now.left.items c.as_slice.result.now c.at-form.ensures c.as_slice.ensures.value c.in-Err.ensures
