use Rattle.std.proofs.Common.{◌≢◌, pos, sym, ap, subst, ◌∙◌, ◌-ℤ◌}
use Rattle.nz_sweep.specs.Clearing.{Valued}
use Rattle.nz_sweep.proofs.ClearCauses.{no_quotient, no_product_large, no_rest, no_factor, no_row, reduced_views}
use Rattle.nz_sweep.proofs.ClearingLemmas.{reduced_of}
use Rattle.nz_sweep.proofs.clearing.reduced.Goals as goal

pub returns-in-Ok : goal.returns-in-Ok
returns-in-Ok g c = reduced_of _ _ _ _ _ _ _ _ _ _ _ (sym (ap (λ (v : Valued). v.vector) c.other.view_is)) (sym (ap (λ (v : Valued). v.value) c.other.view_is)) (sym (ap (λ (v : Valued). v.vector) c.own.view_is)) (sym (ap (λ (v : Valued). v.value) c.own.view_is)) c.in-Some.ensures.value.1 c.in-Some-try_mul.ensures.1 (c.in-Some-try_sub.ensures.1) (c.in-Some-try_sub-2.ensures.1 ∙ ap (λ z. z -ℤ g.T.Scalar.integer c.in-Some.quotient) c.of_i64.ensures) c.of_i64-2.ensures c.in-Ok.ensures

pub returns-in-None : goal.returns-in-None
returns-in-None g c =
    let Z = g.T.Scalar.integer in
    let n : Z c.own.inside.value ≢ pos 0 = subst (λ (v : Valued). v.value ≢ pos 0) (sym c.own.view_is) c.requires.nonzero in
    λ _. reduced_views g.T.Scalar.HALF (record { vector = c.own.inside.row; value = Z c.own.inside.value }) c.args.own.now (record { vector = c.other.inside.row; value = Z c.other.inside.value }) c.args.other.now c.own.view_is c.other.view_is (no_quotient _ _ g.met.T.Scalar.room (record { vector = c.own.inside.row; value = Z c.own.inside.value }) (record { vector = c.other.inside.row; value = Z c.other.inside.value }) n c.in-None.ensures.value)

pub returns-in-None-try_mul : goal.returns-in-None-try_mul
returns-in-None-try_mul g c =
    let Z = g.T.Scalar.integer in
    let n : Z c.own.inside.value ≢ pos 0 = subst (λ (v : Valued). v.value ≢ pos 0) (sym c.own.view_is) c.requires.nonzero in
    λ _. reduced_views g.T.Scalar.HALF (record { vector = c.own.inside.row; value = Z c.own.inside.value }) c.args.own.now (record { vector = c.other.inside.row; value = Z c.other.inside.value }) c.args.other.now c.own.view_is c.other.view_is (no_product_large _ _ g.met.T.Scalar.room (record { vector = c.own.inside.row; value = Z c.own.inside.value }) (record { vector = c.other.inside.row; value = Z c.other.inside.value }) (Z c.in-Some.quotient) n c.in-Some.ensures.value.1 c.in-None-try_mul.ensures)

pub returns-in-None-try_sub : goal.returns-in-None-try_sub
returns-in-None-try_sub g c =
    let Z = g.T.Scalar.integer in
    let n : Z c.own.inside.value ≢ pos 0 = subst (λ (v : Valued). v.value ≢ pos 0) (sym c.own.view_is) c.requires.nonzero in
    λ _. reduced_views g.T.Scalar.HALF (record { vector = c.own.inside.row; value = Z c.own.inside.value }) c.args.own.now (record { vector = c.other.inside.row; value = Z c.other.inside.value }) c.args.other.now c.own.view_is c.other.view_is (no_rest _ _ g.met.T.Scalar.room (record { vector = c.own.inside.row; value = Z c.own.inside.value }) (record { vector = c.other.inside.row; value = Z c.other.inside.value }) (Z c.in-Some.quotient) (Z c.in-Some-try_mul.taken) n c.in-Some.ensures.value.1 c.in-Some-try_mul.ensures.1 c.in-None-try_sub.ensures)

pub returns-in-None-try_sub-2 : goal.returns-in-None-try_sub-2
returns-in-None-try_sub-2 g c =
    let Z = g.T.Scalar.integer in
    let n : Z c.own.inside.value ≢ pos 0 = subst (λ (v : Valued). v.value ≢ pos 0) (sym c.own.view_is) c.requires.nonzero in
    λ _. reduced_views g.T.Scalar.HALF (record { vector = c.own.inside.row; value = Z c.own.inside.value }) c.args.own.now (record { vector = c.other.inside.row; value = Z c.other.inside.value }) c.args.other.now c.own.view_is c.other.view_is (no_factor _ _ g.met.T.Scalar.room (record { vector = c.own.inside.row; value = Z c.own.inside.value }) (record { vector = c.other.inside.row; value = Z c.other.inside.value }) (Z c.in-Some.quotient) (Z c.of_i64.result) c.of_i64.ensures n c.in-Some.ensures.value.1 c.in-None-try_sub-2.ensures)

pub returns-in-Err : goal.returns-in-Err
returns-in-Err g c =
    let Z = g.T.Scalar.integer in
    let n : Z c.own.inside.value ≢ pos 0 = subst (λ (v : Valued). v.value ≢ pos 0) (sym c.own.view_is) c.requires.nonzero in
    λ e. reduced_views g.T.Scalar.HALF (record { vector = c.own.inside.row; value = Z c.own.inside.value }) c.args.own.now (record { vector = c.other.inside.row; value = Z c.other.inside.value }) c.args.other.now c.own.view_is c.other.view_is (no_row _ _ g.met.T.Scalar.room (record { vector = c.own.inside.row; value = Z c.own.inside.value }) (record { vector = c.other.inside.row; value = Z c.other.inside.value }) (Z c.in-Some.quotient) (Z c.of_i64.result) (Z c.in-Some-try_sub-2.factor) (Z c.of_i64-2.result) c.of_i64-2.ensures c.of_i64.ensures c.in-Some-try_sub-2.ensures.1 n c.in-Some.ensures.value.1 (c.in-Err.ensures e))
