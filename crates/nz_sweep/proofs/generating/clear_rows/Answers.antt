use Rattle.std.proofs.Common.{◌∙◌, List, length, sym, subst, arith}
use Rattle.std.specs.List.{AllByRecursion as Each, AllZip}
use Rattle.nz_spec.specs.Vectors.{HasWidth}
use Rattle.nz_sweep.specs.Clearing.{Valued, vectors_of, values_of, none, AreZero, IsReduced, IsPivot}
use Rattle.nz_sweep.proofs.ClearingLemmas.{width_at, rest_widths}
use Rattle.nz_sweep.proofs.RoundLemmas.{AtRound, place_within, rounds_go_on, rounds_end, not_all_zero, round_less, round_widths}
use Rattle.nz_sweep.proofs.ClearCauses.{moment_large}
use Rattle.nz_sweep.proofs.generating.clear_rows.Goals as goal

pub rounds-init : goal.rounds-init
rounds-init g c = (none, c.requires.pivot, c.requires.widths)

pub reduced_all-requires-clause-width : goal.reduced_all-requires-clause-width
reduced_all-requires-clause-width g c = width_at c.args.width c.rounds.list.items c.rounds.place c.remove-own.result c.rounds.invariant.2 c.rounds.invariant.1.within c.remove-own.ensures.value

pub reduced_all-requires-clause-widths : goal.reduced_all-requires-clause-widths
reduced_all-requires-clause-widths g c =
    subst (λ (t : List Valued). Each (HasWidth c.args.width) (vectors_of t)) (sym (c.as_slice.ensures.value ∙ c.remove-own.ensures.items)) (rest_widths c.args.width c.rounds.list.items c.rounds.place c.remove-own.result c.rounds.invariant.1.within c.remove-own.ensures.value c.rounds.invariant.2)

pub returns-then-are_zero : goal.returns-then-are_zero
returns-then-are_zero g c =
    let r : AtRound c.args.list.items c.rounds.list.items c.remove-own.new.self.items c.in-Ok.others.items c.rounds.place c.remove-own.result = record { rounds = c.rounds.invariant.0; pivot = c.rounds.invariant.1; is_own = c.remove-own.ensures.value; is_rest = c.remove-own.ensures.items; reduced = subst (λ (t : List Valued). AllZip (IsReduced c.remove-own.result) t c.in-Ok.others.items) c.as_slice.ensures.value c.in-Ok.ensures } in
    rounds_end c.args.list.items c.rounds.list.items c.remove-own.new.self.items c.in-Ok.others.items c.rounds.place c.remove-own.result r (subst AreZero c.as_slice-in-rounds.ensures.value c.if-are_zero.ensures)

pub insert-requires : goal.insert-requires
insert-requires g c =
    let r : AtRound c.args.list.items c.rounds.list.items c.remove-own.new.self.items c.in-Ok.others.items c.rounds.place c.remove-own.result = record { rounds = c.rounds.invariant.0; pivot = c.rounds.invariant.1; is_own = c.remove-own.ensures.value; is_rest = c.remove-own.ensures.items; reduced = subst (λ (t : List Valued). AllZip (IsReduced c.remove-own.result) t c.in-Ok.others.items) c.as_slice.ensures.value c.in-Ok.ensures } in
    let l = place_within c.args.list.items c.rounds.list.items c.remove-own.new.self.items c.in-Ok.others.items c.rounds.place c.remove-own.result r in
    omega (arith, l, c.in-Ok.others.ok.0)

pub unreachable-requires : goal.unreachable-requires
unreachable-requires g c =
    let r : AtRound c.args.list.items c.rounds.list.items c.remove-own.new.self.items c.in-Ok.others.items c.rounds.place c.remove-own.result = record { rounds = c.rounds.invariant.0; pivot = c.rounds.invariant.1; is_own = c.remove-own.ensures.value; is_rest = c.remove-own.ensures.items; reduced = subst (λ (t : List Valued). AllZip (IsReduced c.remove-own.result) t c.in-Ok.others.items) c.as_slice.ensures.value c.in-Ok.ensures } in
    not_all_zero c.args.list.items c.rounds.list.items c.remove-own.new.self.items c.in-Ok.others.items c.insert.new.self.items c.rounds.place c.remove-own.result r c.in-Ok-insert.ensures.items (subst AreZero c.as_slice-in-rounds-2.ensures.value c.in-None.ensures)

pub rounds-smaller : goal.rounds-smaller
rounds-smaller g c =
    let r : AtRound c.args.list.items c.rounds.list.items c.remove-own.new.self.items c.in-Ok.others.items c.rounds.place c.remove-own.result = record { rounds = c.rounds.invariant.0; pivot = c.rounds.invariant.1; is_own = c.remove-own.ensures.value; is_rest = c.remove-own.ensures.items; reduced = subst (λ (t : List Valued). AllZip (IsReduced c.remove-own.result) t c.in-Ok.others.items) c.as_slice.ensures.value c.in-Ok.ensures } in
    round_less c.args.list.items c.rounds.list.items c.remove-own.new.self.items c.in-Ok.others.items c.insert.new.self.items c.rounds.place c.in-Some.next c.remove-own.result r c.in-Ok-insert.ensures.items (subst (λ (t : List Valued). ¬ AreZero t) c.as_slice-in-rounds.ensures.value c.if-are_zero.ensures) (subst (λ (t : List Valued). IsPivot (values_of t) (length t) c.in-Some.next) c.as_slice-in-rounds-2.ensures.value c.in-Some.ensures)

pub rounds-preserved : goal.rounds-preserved
rounds-preserved g c =
    let r : AtRound c.args.list.items c.rounds.list.items c.remove-own.new.self.items c.in-Ok.others.items c.rounds.place c.remove-own.result = record { rounds = c.rounds.invariant.0; pivot = c.rounds.invariant.1; is_own = c.remove-own.ensures.value; is_rest = c.remove-own.ensures.items; reduced = subst (λ (t : List Valued). AllZip (IsReduced c.remove-own.result) t c.in-Ok.others.items) c.as_slice.ensures.value c.in-Ok.ensures } in (
      rounds_go_on c.args.list.items c.rounds.list.items c.remove-own.new.self.items c.in-Ok.others.items c.insert.new.self.items c.rounds.place c.remove-own.result r c.in-Ok-insert.ensures.items,
      subst (λ (t : List Valued). IsPivot (values_of t) (length t) c.in-Some.next) c.as_slice-in-rounds-2.ensures.value c.in-Some.ensures,
      round_widths c.args.width c.args.list.items c.rounds.list.items c.remove-own.new.self.items c.in-Ok.others.items c.insert.new.self.items c.rounds.place c.remove-own.result r c.in-Ok-insert.ensures.items c.rounds.invariant.2,
    )

pub returns-in-Err : goal.returns-in-Err
returns-in-Err g c = λ e. moment_large g.T.Scalar.HALF c.args.list.items c.rounds.list.items c.rounds.place c.remove-own.result c.as_slice.result.now c.rounds.invariant.0 c.rounds.invariant.1.within c.remove-own.ensures.value (c.as_slice.ensures.value ∙ c.remove-own.ensures.items) (c.in-Err.ensures e)
