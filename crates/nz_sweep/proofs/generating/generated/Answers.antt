use Rattle.std.proofs.Common.{List, ℕ, sym, subst}
use Rattle.std.specs.List.{AllByRecursion as Each, AllZip}
use Rattle.nz_spec.specs.Vectors.{Vector, HasWidth}
use Rattle.nz_spec.specs.Forms.{LeadsAt}
use Rattle.nz_sweep.specs.Generating.{AreSetApart, AreLeading}
use Rattle.nz_sweep.specs.Bottom.{AreDualEach}
use Rattle.nz_sweep.specs.Numbers.{SomeNumberLarge, IsColumnNumber, IsDualNumber, of_column, of_base}
use Rattle.nz_sweep.proofs.BottomLemmas.{dual_of_each}
use Rattle.nz_sweep.proofs.ConstrainingLemmas.{leading_of, dual_forms}
use Rattle.nz_sweep.proofs.NumberLemmas.{some_map}
use Rattle.nz_sweep.proofs.GeneratingLemmas.{generates}
use Rattle.nz_sweep.proofs.generating.generated.Goals as goal

pub dual_coordinates-requires-clause-widths : goal.dual_coordinates-requires-clause-widths
dual_coordinates-requires-clause-widths g c =
    let b = generates c.args.width c.args.rows.now c.in-Ok-set_apart.base.items c.requires (subst (λ (t : List Vector). AreSetApart c.args.width 0 t c.in-Ok-set_apart.base.items) c.in-Ok.ensures c.in-Ok-set_apart.ensures) in
    subst (Each (HasWidth c.args.width)) (sym c.as_slice-2.ensures.value) b.widths

pub dual_coordinates-requires-clause-leading : goal.dual_coordinates-requires-clause-leading
dual_coordinates-requires-clause-leading g c =
    let b = generates c.args.width c.args.rows.now c.in-Ok-set_apart.base.items c.requires (subst (λ (t : List Vector). AreSetApart c.args.width 0 t c.in-Ok-set_apart.base.items) c.in-Ok.ensures c.in-Ok-set_apart.ensures) in
    let a = leading_of c.in-Ok-set_apart.base.items c.in-Ok-leading_columns.columns.items (b.echelon.columns, b.echelon.leading) (λ cs z. c.in-Ok-leading_columns.ensures cs (subst (AllZip LeadsAt cs) (sym c.as_slice.ensures.value) z)) in
    subst (AreLeading c.as_slice-3.result.now) (sym c.as_slice-2.ensures.value) (subst (λ (t : List ℕ). AreLeading t c.in-Ok-set_apart.base.items) (sym c.as_slice-3.ensures.value) a)

pub returns-in-Ok-dual_coordinates-clause-dual : goal.returns-in-Ok-dual_coordinates-clause-dual
returns-in-Ok-dual_coordinates-clause-dual g c =
    let b = generates c.args.width c.args.rows.now c.in-Ok-set_apart.base.items c.requires (subst (λ (t : List Vector). AreSetApart c.args.width 0 t c.in-Ok-set_apart.base.items) c.in-Ok.ensures c.in-Ok-set_apart.ensures) in
    let a = leading_of c.in-Ok-set_apart.base.items c.in-Ok-leading_columns.columns.items (b.echelon.columns, b.echelon.leading) (λ cs z. c.in-Ok-leading_columns.ensures cs (subst (AllZip LeadsAt cs) (sym c.as_slice.ensures.value) z)) in
    let d = subst (λ (t : List ℕ). AreDualEach c.args.width t c.in-Ok-set_apart.base.items c.in-Ok-dual_coordinates.coordinates.items) c.as_slice-3.ensures.value (subst (λ (t : List Vector). AreDualEach c.args.width c.as_slice-3.result.now t c.in-Ok-dual_coordinates.coordinates.items) c.as_slice-2.ensures.value c.in-Ok-dual_coordinates.ensures) in
    dual_of_each c.args.width c.in-Ok-leading_columns.columns.items c.in-Ok-set_apart.base.items c.in-Ok-dual_coordinates.coordinates.items b.widths a d

pub returns-in-Ok-dual_coordinates-clause-forms : goal.returns-in-Ok-dual_coordinates-clause-forms
returns-in-Ok-dual_coordinates-clause-forms g c =
    let b = generates c.args.width c.args.rows.now c.in-Ok-set_apart.base.items c.requires (subst (λ (t : List Vector). AreSetApart c.args.width 0 t c.in-Ok-set_apart.base.items) c.in-Ok.ensures c.in-Ok-set_apart.ensures) in
    let a = leading_of c.in-Ok-set_apart.base.items c.in-Ok-leading_columns.columns.items (b.echelon.columns, b.echelon.leading) (λ cs z. c.in-Ok-leading_columns.ensures cs (subst (AllZip LeadsAt cs) (sym c.as_slice.ensures.value) z)) in
    let d = subst (λ (t : List ℕ). AreDualEach c.args.width t c.in-Ok-set_apart.base.items c.in-Ok-dual_coordinates.coordinates.items) c.as_slice-3.ensures.value (subst (λ (t : List Vector). AreDualEach c.args.width c.as_slice-3.result.now t c.in-Ok-dual_coordinates.coordinates.items) c.as_slice-2.ensures.value c.in-Ok-dual_coordinates.ensures) in
    dual_forms c.args.width c.in-Ok-leading_columns.columns.items c.in-Ok-set_apart.base.items b.widths a c.in-Ok-dual_coordinates.coordinates.items d

pub returns-in-Err-set_apart-clause-apart : goal.returns-in-Err-set_apart-clause-apart
returns-in-Err-set_apart-clause-apart g c = λ e. some_map g.T.Scalar.HALF (λ n k. of_column k) (subst (λ (t : List Vector). SomeNumberLarge g.T.Scalar.HALF (IsColumnNumber c.args.width 0 t)) c.in-Ok.ensures (c.in-Err-set_apart.ensures e))

pub returns-in-Err-dual_coordinates-clause-apart : goal.returns-in-Err-dual_coordinates-clause-apart
returns-in-Err-dual_coordinates-clause-apart g c = λ e. some_map g.T.Scalar.HALF (λ n k. of_base (subst (λ (t : List Vector). AreSetApart c.args.width 0 t c.in-Ok-set_apart.base.items) c.in-Ok.ensures c.in-Ok-set_apart.ensures) k) (subst (λ (t : List Vector). SomeNumberLarge g.T.Scalar.HALF (IsDualNumber c.args.width t)) c.as_slice-2.ensures.value (c.in-Err-dual_coordinates.ensures e))
