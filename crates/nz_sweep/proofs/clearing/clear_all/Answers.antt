use Rattle.std.proofs.Common.{◌∙◌, List, length, set, refl, sym, ap, subst, arith}
use Rattle.std.specs.List.{AllByRecursion as Each, AllZip, insert}
use Rattle.std.proofs.lemmas.List.{length-map}
use Rattle.nz_spec.specs.Vectors.{HasWidth}
use Rattle.nz_sweep.specs.Clearing.{Valued, vectors_of, values_of, none, AreZero, IsReduced, IsPivot}
use Rattle.nz_sweep.specs.Duals.{AreDual, IsGathered}
use Rattle.nz_sweep.specs.Rounds.{start}
use Rattle.nz_sweep.proofs.ClearCauses.{leads_on, gathers_views, state_views, round_large, rest_large}
use Rattle.nz_sweep.proofs.ClearingLemmas.{width_at, rest_widths}
use Rattle.nz_sweep.proofs.RoundLemmas.{AtRound, place_within, rounds_go_on, rounds_end, not_all_zero, round_less, round_widths, dual_after}
use Rattle.nz_sweep.proofs.clearing.clear_all.Goals as goal

pub rounds-init : goal.rounds-init
rounds-init g c = (none, c.requires.pivot, c.requires.widths, c.requires.dual, start)

pub gathered-requires-clause-one_each : goal.gathered-requires-clause-one_each
gathered-requires-clause-one_each g c = ap length c.as_slice-in-rounds.ensures.value ∙ c.rounds.invariant.3.one_each ∙ length-map c.rounds.list.items (λ (v : Valued). v.vector) ∙ sym (ap length c.as_slice.ensures.value)

pub gathered-requires-clause-dual : goal.gathered-requires-clause-dual
gathered-requires-clause-dual g c = subst (λ (t : List Valued). AreDual c.args.width (vectors_of t) c.as_slice-in-rounds.result.now) (sym c.as_slice.ensures.value) (subst (AreDual c.args.width (vectors_of c.rounds.list.items)) (sym c.as_slice-in-rounds.ensures.value) c.rounds.invariant.3)

pub reduced_all-requires-clause-width : goal.reduced_all-requires-clause-width
reduced_all-requires-clause-width g c = width_at c.args.width c.rounds.list.items c.rounds.place c.remove-own.result c.rounds.invariant.2 c.rounds.invariant.1.within c.remove-own.ensures.value

pub reduced_all-requires-clause-widths : goal.reduced_all-requires-clause-widths
reduced_all-requires-clause-widths g c =
    subst (λ (t : List Valued). Each (HasWidth c.args.width) (vectors_of t)) (sym (c.as_slice-in-rounds-2.ensures.value ∙ c.remove-own.ensures.items)) (rest_widths c.args.width c.rounds.list.items c.rounds.place c.remove-own.result c.rounds.invariant.1.within c.remove-own.ensures.value c.rounds.invariant.2)

pub returns-then-are_zero-clause-cleared : goal.returns-then-are_zero-clause-cleared
returns-then-are_zero-clause-cleared g c =
    let r : AtRound c.args.list.items c.rounds.list.items c.remove-own.new.self.items c.in-Ok-reduced_all.others.items c.rounds.place c.remove-own.result = record { rounds = c.rounds.invariant.0; pivot = c.rounds.invariant.1; is_own = c.remove-own.ensures.value; is_rest = c.remove-own.ensures.items; reduced = subst (λ (t : List Valued). AllZip (IsReduced c.remove-own.result) t c.in-Ok-reduced_all.others.items) c.as_slice-in-rounds-2.ensures.value c.in-Ok-reduced_all.ensures } in
    rounds_end c.args.list.items c.rounds.list.items c.remove-own.new.self.items c.in-Ok-reduced_all.others.items c.rounds.place c.remove-own.result r (subst AreZero c.as_slice-in-rounds-3.ensures.value c.if-are_zero.ensures)

pub returns-then-are_zero-clause-dual : goal.returns-then-are_zero-clause-dual
returns-then-are_zero-clause-dual g c =
    let r : AtRound c.args.list.items c.rounds.list.items c.remove-own.new.self.items c.in-Ok-reduced_all.others.items c.rounds.place c.remove-own.result = record { rounds = c.rounds.invariant.0; pivot = c.rounds.invariant.1; is_own = c.remove-own.ensures.value; is_rest = c.remove-own.ensures.items; reduced = subst (λ (t : List Valued). AllZip (IsReduced c.remove-own.result) t c.in-Ok-reduced_all.others.items) c.as_slice-in-rounds-2.ensures.value c.in-Ok-reduced_all.ensures } in
    dual_after c.args.width c.args.list.items c.rounds.list.items c.remove-own.new.self.items c.in-Ok-reduced_all.others.items c.rounds.coordinates.items c.rounds.place c.remove-own.result c.in-Ok.joint r c.rounds.invariant.3 (subst (λ (t : List Valued). IsGathered c.args.width t c.rounds.place (length t) c.in-Ok.joint) c.as_slice.ensures.value c.in-Ok.ensures.gathered)

pub insert-requires : goal.insert-requires
insert-requires g c =
    let r : AtRound c.args.list.items c.rounds.list.items c.remove-own.new.self.items c.in-Ok-reduced_all.others.items c.rounds.place c.remove-own.result = record { rounds = c.rounds.invariant.0; pivot = c.rounds.invariant.1; is_own = c.remove-own.ensures.value; is_rest = c.remove-own.ensures.items; reduced = subst (λ (t : List Valued). AllZip (IsReduced c.remove-own.result) t c.in-Ok-reduced_all.others.items) c.as_slice-in-rounds-2.ensures.value c.in-Ok-reduced_all.ensures } in
    let l = place_within c.args.list.items c.rounds.list.items c.remove-own.new.self.items c.in-Ok-reduced_all.others.items c.rounds.place c.remove-own.result r in
    omega (arith, l, c.in-Ok-reduced_all.others.ok.0)

pub unreachable-requires : goal.unreachable-requires
unreachable-requires g c =
    let r : AtRound c.args.list.items c.rounds.list.items c.remove-own.new.self.items c.in-Ok-reduced_all.others.items c.rounds.place c.remove-own.result = record { rounds = c.rounds.invariant.0; pivot = c.rounds.invariant.1; is_own = c.remove-own.ensures.value; is_rest = c.remove-own.ensures.items; reduced = subst (λ (t : List Valued). AllZip (IsReduced c.remove-own.result) t c.in-Ok-reduced_all.others.items) c.as_slice-in-rounds-2.ensures.value c.in-Ok-reduced_all.ensures } in
    not_all_zero c.args.list.items c.rounds.list.items c.remove-own.new.self.items c.in-Ok-reduced_all.others.items c.insert.new.self.items c.rounds.place c.remove-own.result r c.in-Ok-insert.ensures.items (subst AreZero c.as_slice-in-rounds-4.ensures.value c.in-None.ensures)

pub rounds-smaller : goal.rounds-smaller
rounds-smaller g c =
    let r : AtRound c.args.list.items c.rounds.list.items c.remove-own.new.self.items c.in-Ok-reduced_all.others.items c.rounds.place c.remove-own.result = record { rounds = c.rounds.invariant.0; pivot = c.rounds.invariant.1; is_own = c.remove-own.ensures.value; is_rest = c.remove-own.ensures.items; reduced = subst (λ (t : List Valued). AllZip (IsReduced c.remove-own.result) t c.in-Ok-reduced_all.others.items) c.as_slice-in-rounds-2.ensures.value c.in-Ok-reduced_all.ensures } in
    round_less c.args.list.items c.rounds.list.items c.remove-own.new.self.items c.in-Ok-reduced_all.others.items c.insert.new.self.items c.rounds.place c.in-Some.next c.remove-own.result r c.in-Ok-insert.ensures.items (subst (λ (t : List Valued). ¬ AreZero t) c.as_slice-in-rounds-3.ensures.value c.if-are_zero.ensures) (subst (λ (t : List Valued). IsPivot (values_of t) (length t) c.in-Some.next) c.as_slice-in-rounds-4.ensures.value c.in-Some.ensures)

pub rounds-preserved : goal.rounds-preserved
rounds-preserved g c =
    let r : AtRound c.args.list.items c.rounds.list.items c.remove-own.new.self.items c.in-Ok-reduced_all.others.items c.rounds.place c.remove-own.result = record { rounds = c.rounds.invariant.0; pivot = c.rounds.invariant.1; is_own = c.remove-own.ensures.value; is_rest = c.remove-own.ensures.items; reduced = subst (λ (t : List Valued). AllZip (IsReduced c.remove-own.result) t c.in-Ok-reduced_all.others.items) c.as_slice-in-rounds-2.ensures.value c.in-Ok-reduced_all.ensures } in
    let d = dual_after c.args.width c.args.list.items c.rounds.list.items c.remove-own.new.self.items c.in-Ok-reduced_all.others.items c.rounds.coordinates.items c.rounds.place c.remove-own.result c.in-Ok.joint r c.rounds.invariant.3 (subst (λ (t : List Valued). IsGathered c.args.width t c.rounds.place (length t) c.in-Ok.joint) c.as_slice.ensures.value c.in-Ok.ensures.gathered) in (
      rounds_go_on c.args.list.items c.rounds.list.items c.remove-own.new.self.items c.in-Ok-reduced_all.others.items c.insert.new.self.items c.rounds.place c.remove-own.result r c.in-Ok-insert.ensures.items,
      subst (λ (t : List Valued). IsPivot (values_of t) (length t) c.in-Some.next) c.as_slice-in-rounds-4.ensures.value c.in-Some.ensures,
      round_widths c.args.width c.args.list.items c.rounds.list.items c.remove-own.new.self.items c.in-Ok-reduced_all.others.items c.insert.new.self.items c.rounds.place c.remove-own.result r c.in-Ok-insert.ensures.items c.rounds.invariant.2,
      subst (λ (t : List Valued). AreDual c.args.width (vectors_of t) (set c.rounds.coordinates.items c.rounds.place c.in-Ok.joint)) (sym c.in-Ok-insert.ensures.items) d,
      leads_on (record { valued = c.args.list.items; coordinates = c.args.coordinates.items }) c.args.list.items c.rounds.list.items c.remove-own.new.self.items c.in-Ok-reduced_all.others.items c.insert.new.self.items c.rounds.coordinates.items (set c.rounds.coordinates.items c.rounds.place c.in-Ok.joint) c.rounds.place c.remove-own.result c.in-Ok.joint r c.rounds.invariant.4 (gathers_views c.as_slice.result.now c.rounds.list.items c.as_slice-in-rounds.result.now c.rounds.coordinates.items c.rounds.place c.in-Ok.joint c.as_slice.ensures.value c.as_slice-in-rounds.ensures.value c.in-Ok.ensures.state) c.in-Ok-insert.ensures.items refl,
    )

pub returns-then-are_zero-clause-state : goal.returns-then-are_zero-clause-state
returns-then-are_zero-clause-state g c =
    let r : AtRound c.args.list.items c.rounds.list.items c.remove-own.new.self.items c.in-Ok-reduced_all.others.items c.rounds.place c.remove-own.result = record { rounds = c.rounds.invariant.0; pivot = c.rounds.invariant.1; is_own = c.remove-own.ensures.value; is_rest = c.remove-own.ensures.items; reduced = subst (λ (t : List Valued). AllZip (IsReduced c.remove-own.result) t c.in-Ok-reduced_all.others.items) c.as_slice-in-rounds-2.ensures.value c.in-Ok-reduced_all.ensures } in
    leads_on (record { valued = c.args.list.items; coordinates = c.args.coordinates.items }) c.args.list.items c.rounds.list.items c.remove-own.new.self.items c.in-Ok-reduced_all.others.items (insert c.in-Ok-reduced_all.others.items c.rounds.place c.remove-own.result) c.rounds.coordinates.items (set c.rounds.coordinates.items c.rounds.place c.in-Ok.joint) c.rounds.place c.remove-own.result c.in-Ok.joint r c.rounds.invariant.4 (gathers_views c.as_slice.result.now c.rounds.list.items c.as_slice-in-rounds.result.now c.rounds.coordinates.items c.rounds.place c.in-Ok.joint c.as_slice.ensures.value c.as_slice-in-rounds.ensures.value c.in-Ok.ensures.state) refl refl

pub returns-in-Err-clause-state : goal.returns-in-Err-clause-state
returns-in-Err-clause-state g c = λ e. round_large g.T.Scalar.HALF (record { valued = c.args.list.items; coordinates = c.args.coordinates.items }) (record { valued = c.rounds.list.items; coordinates = c.rounds.coordinates.items }) c.rounds.place c.rounds.invariant.4 c.rounds.invariant.1 (state_views g.T.Scalar.HALF c.as_slice.result.now c.rounds.list.items c.as_slice-in-rounds.result.now c.rounds.coordinates.items c.rounds.place c.as_slice.ensures.value c.as_slice-in-rounds.ensures.value (c.in-Err.ensures.state e))

pub returns-in-Err-reduced_all-clause-state : goal.returns-in-Err-reduced_all-clause-state
returns-in-Err-reduced_all-clause-state g c = λ e. round_large g.T.Scalar.HALF (record { valued = c.args.list.items; coordinates = c.args.coordinates.items }) (record { valued = c.rounds.list.items; coordinates = c.rounds.coordinates.items }) c.rounds.place c.rounds.invariant.4 c.rounds.invariant.1 (rest_large g.T.Scalar.HALF (record { valued = c.rounds.list.items; coordinates = c.rounds.coordinates.items }) c.rounds.place c.remove-own.result c.as_slice-in-rounds-2.result.now c.rounds.invariant.1.within c.remove-own.ensures.value (c.as_slice-in-rounds-2.ensures.value ∙ c.remove-own.ensures.items) (c.in-Err-reduced_all.ensures e))
