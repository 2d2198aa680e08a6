use Rattle.std.proofs.Common.{List, [], ◌∷◌, ◌++◌, ◌∙◌, length, sym, ap, subst}
use Rattle.std.specs.List.{AllByRecursion as Each}
use Rattle.nz_spec.specs.Vectors.{Vector, HasWidth}
use Rattle.nz_linear.proofs.Units.{length-unit_at}
use Rattle.nz_sweep.specs.Clearing.{Valued, AreZero}
use Rattle.nz_sweep.specs.Cuts.{AreValued, IsValueAt}
use Rattle.nz_sweep.specs.Numbers.{SomeNumberLarge, IsMeasureOf}
use Rattle.nz_sweep.proofs.ColumnCauses.{values_large, column_large, number_passed, number_taken}
use Rattle.nz_sweep.proofs.StepLemmas.{valued_vectors}
use Rattle.nz_sweep.proofs.GeneratingLemmas.{apart_passed, apart_taken, left_widths}
use Rattle.nz_sweep.proofs.generating.set_one_apart.Goals as goal

pub with_values-requires : goal.with_values-requires
with_values-requires g c = subst (λ n. Each (HasWidth n) c.as_slice.result.now) (sym (ap length c.in-Ok.ensures ∙ length-unit_at c.args.width c.args.column)) (subst (Each (HasWidth c.args.width)) (sym c.as_slice.ensures.value) c.requires.widths)

pub returns-in-None-clause-apart : goal.returns-in-None-clause-apart
returns-in-None-clause-apart g c = λ rest s. apart_passed c.args.width c.args.column c.args.apart.left.items c.args.apart.base.items rest c.in-Ok.form c.in-Ok-with_values.list.items c.requires.widths c.in-Ok.ensures (subst (λ (t : List Vector). AreValued (IsValueAt c.in-Ok.form) t c.in-Ok-with_values.list.items) c.as_slice.ensures.value c.in-Ok-with_values.ensures) (subst AreZero c.as_slice-2.ensures.value c.in-None.ensures) s

pub clear_rows-requires-clause-widths : goal.clear_rows-requires-clause-widths
clear_rows-requires-clause-widths g c = subst (Each (HasWidth c.args.width)) (sym (valued_vectors (IsValueAt c.in-Ok.form) c.args.apart.left.items c.in-Ok-with_values.list.items (subst (λ (t : List Vector). AreValued (IsValueAt c.in-Ok.form) t c.in-Ok-with_values.list.items) c.as_slice.ensures.value c.in-Ok-with_values.ensures))) c.requires.widths

pub returns-in-Ok-rows-clause-widths : goal.returns-in-Ok-rows-clause-widths
returns-in-Ok-rows-clause-widths g c = left_widths c.args.width c.args.apart.left.items c.in-Ok-rows.left.items c.in-Ok.form c.in-Ok-with_values.list.items c.in-Ok-clear_rows.cleared.place c.in-Ok-clear_rows.cleared.own c.in-Ok-clear_rows.cleared.others.items c.requires.widths (subst (λ (t : List Vector). AreValued (IsValueAt c.in-Ok.form) t c.in-Ok-with_values.list.items) c.as_slice.ensures.value c.in-Ok-with_values.ensures) c.in-Ok-clear_rows.ensures c.in-Ok-rows.ensures

pub returns-in-Ok-rows-clause-apart : goal.returns-in-Ok-rows-clause-apart
returns-in-Ok-rows-clause-apart g c = λ rest s. apart_taken c.args.width c.args.column c.args.apart.left.items c.args.apart.base.items c.push.new.self.items rest c.in-Ok-rows.left.items c.in-Ok.form c.in-Ok-with_values.list.items c.in-Ok-clear_rows.cleared.place c.in-Ok-clear_rows.cleared.own c.in-Ok-clear_rows.cleared.others.items c.in-Ok.ensures (subst (λ (t : List Vector). AreValued (IsValueAt c.in-Ok.form) t c.in-Ok-with_values.list.items) c.as_slice.ensures.value c.in-Ok-with_values.ensures) c.in-Ok-clear_rows.ensures (c.in-Ok-push.ensures.items ∙ ap (λ (v : Valued). c.args.apart.base.items ++ (v.vector ∷ [])) c.own.view_is) c.in-Ok-rows.ensures s

pub returns-in-Err-with_values-clause-numbers : goal.returns-in-Err-with_values-clause-numbers
returns-in-Err-with_values-clause-numbers g c = λ e. values_large g.T.Scalar.HALF c.args.width c.args.column c.args.apart.left.items c.in-Ok.form c.requires.widths c.in-Ok.ensures (subst (λ (t : List Vector). SomeNumberLarge g.T.Scalar.HALF (IsMeasureOf c.in-Ok.form t)) c.as_slice.ensures.value (c.in-Err-with_values.ensures e))

pub returns-in-None-clause-numbers : goal.returns-in-None-clause-numbers
returns-in-None-clause-numbers g c = λ n k. number_passed c.args.width c.args.column c.args.apart.left.items c.in-Ok.form c.in-Ok-with_values.list.items n c.requires.widths c.in-Ok.ensures (subst (λ (t : List Vector). AreValued (IsValueAt c.in-Ok.form) t c.in-Ok-with_values.list.items) c.as_slice.ensures.value c.in-Ok-with_values.ensures) (subst AreZero c.as_slice-2.ensures.value c.in-None.ensures) k

pub returns-in-Err-clear_rows-clause-numbers : goal.returns-in-Err-clear_rows-clause-numbers
returns-in-Err-clear_rows-clause-numbers g c = λ e. column_large g.T.Scalar.HALF c.args.width c.args.column c.args.apart.left.items c.in-Ok.form c.in-Ok-with_values.list.items c.in-Ok.ensures (subst (λ (t : List Vector). AreValued (IsValueAt c.in-Ok.form) t c.in-Ok-with_values.list.items) c.as_slice.ensures.value c.in-Ok-with_values.ensures) (c.in-Err-clear_rows.ensures e)

pub returns-in-Ok-rows-clause-numbers : goal.returns-in-Ok-rows-clause-numbers
returns-in-Ok-rows-clause-numbers g c = λ n k. number_taken c.args.width c.args.column c.args.apart.left.items c.in-Ok-rows.left.items c.in-Ok.form c.in-Ok-with_values.list.items c.in-Ok-clear_rows.cleared.place c.in-Ok-clear_rows.cleared.own c.in-Ok-clear_rows.cleared.others.items n c.in-Ok.ensures (subst (λ (t : List Vector). AreValued (IsValueAt c.in-Ok.form) t c.in-Ok-with_values.list.items) c.as_slice.ensures.value c.in-Ok-with_values.ensures) c.in-Ok-clear_rows.ensures c.in-Ok-rows.ensures k
