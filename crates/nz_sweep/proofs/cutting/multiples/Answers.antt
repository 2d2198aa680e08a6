use Rattle.std.proofs.Common.{◌≡◌, inr, refl}
use Rattle.std.specs.List.{insert}
use Rattle.nz_vec.specs.declared.answers.Num.{Num}
use Rattle.nz_vec.specs.declared.answers.Num.TheVariants.{Range, NoMemory}
use Rattle.nz_sweep.specs.Duals.{Coordinate}
use Rattle.nz_sweep.specs.Numbers.{SomeNumberLarge, IsCongruenceNumber}
use Rattle.nz_sweep.specs.Rounds.{Leads, ClearsTo, start_of, IsCongruenceMove}
use Rattle.nz_sweep.proofs.GatherCauses.{result_map}
use Rattle.nz_sweep.proofs.CutCauses.{not_range, congruence_start, congruence_clearing, congruence_end, same_base, IfOk-of}
use Rattle.std.proofs.Common.{inl, ◌∙◌, List, sym, subst}
use Rattle.std.specs.List.{AllByRecursion as Each}
use Rattle.std.proofs.lemmas.Result.{IfOk-weaker}
use Rattle.nz_spec.specs.Vectors.{Vector, HasWidth}
use Rattle.nz_sweep.specs.Clearing.{AreZero}
use Rattle.nz_sweep.specs.Cuts.{IsRemainderAt}
use Rattle.nz_sweep.specs.Duals.{AreDual}
use Rattle.nz_sweep.proofs.StepLemmas.{valued_vectors, multiples_are}
use Rattle.nz_sweep.proofs.DualLemmas.{dual_same}
use Rattle.nz_sweep.proofs.cutting.multiples.Goals as goal

pub returns-in-None-clause-step : goal.returns-in-None-clause-step
returns-in-None-clause-step g c =
    IfOk-weaker _ _ _ (λ r e. inl (multiples_are c.args.form.now (g.T.Scalar.integer c.args.modulus) c.args.base.now c.in-Ok.list.items c.in-Ok.ensures (subst AreZero c.as_slice.ensures.value c.in-None.ensures), e.0 ∙ valued_vectors (IsRemainderAt c.args.form.now (g.T.Scalar.integer c.args.modulus)) c.args.base.now c.in-Ok.list.items c.in-Ok.ensures)) (IfOk-of c.unchanged.result _ _ c.unchanged.ensures)

pub returns-in-None-clause-dual : goal.returns-in-None-clause-dual
returns-in-None-clause-dual g c =
    let d = subst (λ (t : List Vector). AreDual c.args.width t c.in-Ok-copies.coordinates.items) (sym (valued_vectors (IsRemainderAt c.args.form.now (g.T.Scalar.integer c.args.modulus)) c.args.base.now c.in-Ok.list.items c.in-Ok.ensures)) (subst (AreDual c.args.width c.args.base.now) (sym c.in-Ok-copies.ensures) c.requires.dual) in
    IfOk-weaker _ _ _ (λ r e. dual_same c.args.width _ _ _ _ d e.0 e.1) (IfOk-of c.unchanged.result _ _ c.unchanged.ensures)

pub clear_all-requires-clause-widths : goal.clear_all-requires-clause-widths
clear_all-requires-clause-widths g c = subst (Each (HasWidth c.args.width)) (sym (valued_vectors (IsRemainderAt c.args.form.now (g.T.Scalar.integer c.args.modulus)) c.args.base.now c.in-Ok.list.items c.in-Ok.ensures)) c.requires.widths

pub clear_all-requires-clause-dual : goal.clear_all-requires-clause-dual
clear_all-requires-clause-dual g c = subst (λ (t : List Vector). AreDual c.args.width t c.in-Ok-copies.coordinates.items) (sym (valued_vectors (IsRemainderAt c.args.form.now (g.T.Scalar.integer c.args.modulus)) c.args.base.now c.in-Ok.list.items c.in-Ok.ensures)) (subst (AreDual c.args.width c.args.base.now) (sym c.in-Ok-copies.ensures) c.requires.dual)

pub returns-in-Err-clause-state : goal.returns-in-Err-clause-state
returns-in-Err-clause-state g c = λ e. congruence_start g.T.Scalar.HALF c.args.form.now (g.T.Scalar.integer c.args.modulus) (record { width = c.args.width; vectors = c.args.base.now; coordinates = c.args.coordinates.now }) (c.in-Err.ensures e)

pub returns-in-Err-clear_all-clause-state : goal.returns-in-Err-clear_all-clause-state
returns-in-Err-clear_all-clause-state g c = λ e. congruence_clearing g.T.Scalar.HALF c.args.form.now (g.T.Scalar.integer c.args.modulus) (record { width = c.args.width; vectors = c.args.base.now; coordinates = c.args.coordinates.now }) c.in-Ok.list.items c.in-Ok-copies.coordinates.items c.in-Ok.ensures c.in-Ok-copies.ensures (c.in-Err-clear_all.ensures.state e)

pub returns-in-None-clause-state : goal.returns-in-None-clause-state
returns-in-None-clause-state g c =
    result_map _ (λ r. IsCongruenceMove c.args.form.now (g.T.Scalar.integer c.args.modulus) (record { width = c.args.width; vectors = c.args.base.now; coordinates = c.args.coordinates.now }) (record { width = c.args.width; vectors = r.base.items; coordinates = r.coordinates.items })) (λ (e : Num). e ≡ NoMemory) (λ (e : Num). e ≡ Range → SomeNumberLarge g.T.Scalar.HALF (IsCongruenceNumber c.args.form.now (g.T.Scalar.integer c.args.modulus) (record { width = c.args.width; vectors = c.args.base.now; coordinates = c.args.coordinates.now }))) c.unchanged.result
    (λ r e. inl (multiples_are c.args.form.now (g.T.Scalar.integer c.args.modulus) c.args.base.now c.in-Ok.list.items c.in-Ok.ensures (subst AreZero c.as_slice.ensures.value c.in-None.ensures), same_base c.args.width r.base.items c.args.base.now r.coordinates.items c.args.coordinates.now (e.0 ∙ valued_vectors (IsRemainderAt c.args.form.now (g.T.Scalar.integer c.args.modulus)) c.args.base.now c.in-Ok.list.items c.in-Ok.ensures) (e.1 ∙ c.in-Ok-copies.ensures)))
    (λ e h k. absurd (not_range e h k))
    c.unchanged.ensures

pub returns-in-Ok-clear_all-clause-state : goal.returns-in-Ok-clear_all-clause-state
returns-in-Ok-clear_all-clause-state g c =
    let cleared : ClearsTo (start_of (record { width = c.args.width; vectors = c.args.base.now; coordinates = c.args.coordinates.now }) c.in-Ok.list.items) (record { valued = insert c.in-Ok-clear_all.cleared.others.items c.in-Ok-clear_all.cleared.place c.in-Ok-clear_all.cleared.own; coordinates = c.in-Ok-clear_all.cleared.coordinates.items }) c.in-Ok-clear_all.cleared.place c.in-Ok-clear_all.cleared.own c.in-Ok-clear_all.cleared.others.items = record {
      leads = subst (λ (t : List Coordinate). Leads (record { valued = c.in-Ok.list.items; coordinates = t }) (record { valued = insert c.in-Ok-clear_all.cleared.others.items c.in-Ok-clear_all.cleared.place c.in-Ok-clear_all.cleared.own; coordinates = c.in-Ok-clear_all.cleared.coordinates.items })) c.in-Ok-copies.ensures c.in-Ok-clear_all.ensures.state;
      valued = refl;
      within = c.in-Ok-clear_all.ensures.cleared.within;
      nonzero = c.in-Ok-clear_all.ensures.cleared.nonzero;
      zero = c.in-Ok-clear_all.ensures.cleared.zero;
    } in
    result_map _ (λ r. IsCongruenceMove c.args.form.now (g.T.Scalar.integer c.args.modulus) (record { width = c.args.width; vectors = c.args.base.now; coordinates = c.args.coordinates.now }) (record { width = c.args.width; vectors = r.base.items; coordinates = r.coordinates.items })) _ (λ (e : Num). e ≡ Range → SomeNumberLarge g.T.Scalar.HALF (IsCongruenceNumber c.args.form.now (g.T.Scalar.integer c.args.modulus) (record { width = c.args.width; vectors = c.args.base.now; coordinates = c.args.coordinates.now }))) c.multiplied.result
    (λ r h. inr (record { values = c.in-Ok.list.items; valued = c.in-Ok.ensures; state = (record { valued = insert c.in-Ok-clear_all.cleared.others.items c.in-Ok-clear_all.cleared.place c.in-Ok-clear_all.cleared.own; coordinates = c.in-Ok-clear_all.cleared.coordinates.items }); place = c.in-Ok-clear_all.cleared.place; own = c.in-Ok-clear_all.cleared.own; others = c.in-Ok-clear_all.cleared.others.items; cleared = cleared; multiplied = h }))
    (λ e h k. congruence_end g.T.Scalar.HALF c.args.form.now (g.T.Scalar.integer c.args.modulus) (record { width = c.args.width; vectors = c.args.base.now; coordinates = c.args.coordinates.now }) c.in-Ok.list.items c.in-Ok-clear_all.cleared.others.items (record { valued = insert c.in-Ok-clear_all.cleared.others.items c.in-Ok-clear_all.cleared.place c.in-Ok-clear_all.cleared.own; coordinates = c.in-Ok-clear_all.cleared.coordinates.items }) c.in-Ok-clear_all.cleared.place c.in-Ok-clear_all.cleared.own c.in-Ok.ensures cleared (h k))
    c.multiplied.ensures.state
