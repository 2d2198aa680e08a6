-- What elimination holds after all rows is a line or a simplex.
use Rattle.std.proofs.Common.{◌≡◌, ◌⊎◌, inl, inr, ⊎_elim, ℕ, List, [], ◌∷◌, ◌++◌, length, map, get_or, pos, refl, sym, ap, ap₂, ◌∙◌, subst, arith}
use Rattle.std.proofs.lemmas.List.{append-nil, length-map}
use Rattle.std.proofs.lemmas.Int.{ints}
use Rattle.std.specs.List.{AllByRecursion as Each, AllZip, Contains}
use Rattle.nz_spec.specs.Vectors.{Vector, dot, opposite, HasWidth, IsNonzero, IsPrimitive, LeadsPositive}
use Rattle.nz_spec.specs.Covers.{vectors_at}
use Rattle.nz_spec.specs.Forms.{IsNormalForm, IsDualForm, AreDualForms, IsEquation, IsEquationAt, IsOtherColumn, AreEquations}
use Rattle.nz_spec.proofs.VectorLaws.{one-scaled, length-opposite}
use Rattle.nz_spec.proofs.ListLaws.{contains_here, contains_there, Each-contains}
use Rattle.nz_linear.specs.DualPairs.{Pair, HasWidths, IsDualPair, OnlyZero}
use Rattle.nz_linear.specs.Elimination.{IsState}
use Rattle.nz_linear.specs.Division.{IsPrimitiveOf}
use Rattle.nz_linear.proofs.Lists.{each_map, each_left, each_right, each_of_map, map_each, zip_map}
use Rattle.nz_linear.proofs.KeyColumns.{equations_of_left}
use Rattle.nz_linear.proofs.DualForms.{dual_forms_of_chosen}
use Rattle.nz_linear.proofs.Division.{primitive_nonzero}
use Rattle.nz_linear.proofs.Rank.{chosen_rows, chosen_independent, chosen_members}
use Rattle.nz_pointed.specs.Pointed.{paired, IsLineOf, IsSimplexOf}
use Rattle.nz_pointed.specs.Elimination.{IsElimination}
use Rattle.nz_pointed.proofs.ListLemmas.{paired_same}
use Rattle.nz_pointed.proofs.SignLemmas.{dot-opposite, opposite-opposite, primitive_opposite}

-- ---- no vector is left
pub simplex_of : (w : ℕ) (rows : List Vector) (places : List ℕ) (chosen left : List Vector) → left ≡ [] → IsElimination w rows places chosen left → IsSimplexOf w rows places chosen
simplex_of w rows places chosen left none e =
    let pairs : e.pairs ++ e.free ≡ e.pairs = ap (λ f. e.pairs ++ f) (no_pairs e.free (e.same_left ∙ none)) ∙ append-nil e.pairs in
    let same : e.pairs ≡ paired (vectors_at rows places) chosen = sym (paired_same e.pairs) ∙ ap₂ paired e.same_rows e.same_chosen in
    record {
      first = e.first;
      one_each = sym (ap length e.same_chosen) ∙ length-map e.pairs (λ (p : Pair). p.vector) ∙ sym (length-map e.pairs (λ (p : Pair). p.form)) ∙ ap length e.same_rows ∙ length-map places (λ p. get_or rows p []);
      dual = subst (IsDualPair w) (pairs ∙ same) e.state.pair;
      only_zero = subst (OnlyZero w) (pairs ∙ same) e.state.only_zero;
      primitive = e.primitive_chosen;
    }
  where
    no_pairs : (ps : List Pair) → map (λ (p : Pair). p.vector) ps ≡ [] → ps ≡ []
    no_pairs [] h = refl
    no_pairs (p ∷ ps) h = absurd (let k = ap length h in omega (arith, k))

-- ---- a vector is left
-- the state of the rows chosen alone
state_of_chosen : (w : ℕ) (seen : List Vector) (pairs free : List Pair) → IsState w seen pairs free → IsState w (chosen_rows pairs) pairs free
state_of_chosen w seen pairs free s = record {
  pair = s.pair;
  only_zero = s.only_zero;
  from_seen = own pairs;
  free_vanish = each_map (λ (p : Pair). Each (λ r. dot r p.vector ≡ pos 0) seen) (λ (p : Pair). Each (λ r. dot r p.vector ≡ pos 0) (chosen_rows pairs)) free (λ p k. each_map (Contains seen) (λ r. dot r p.vector ≡ pos 0) (chosen_rows pairs) (λ r c. Each-contains (λ t. dot t p.vector ≡ pos 0) seen r k c) (chosen_members w seen pairs free s)) s.free_vanish;
}
  where
    own : (ps : List Pair) → Each (λ (p : Pair). Contains (chosen_rows ps) p.form) ps
    own [] = tt
    own (p ∷ ps) = (contains_here p.form (chosen_rows ps), each_map (λ (q : Pair). Contains (chosen_rows ps) q.form) (λ (q : Pair). Contains (p.form ∷ chosen_rows ps) q.form) ps (λ q c. contains_there p.form q.form (chosen_rows ps) c) (own ps))

-- each of the equations of a list is one of them
equations_each : (w : ℕ) (G : List Vector) (fs : List Vector) → AreEquations w G fs → Each (IsEquation w G) fs
equations_each w G fs a = at a.columns fs a.others.only a.each
  where
    at : (columns : List ℕ) (fs : List Vector) → Each (IsOtherColumn w G) columns → AllZip (IsEquationAt w G) columns fs → Each (IsEquation w G) fs
    at [] [] o z = tt
    at [] (f ∷ fs) o z = absurd z
    at (c ∷ columns) [] o z = absurd z
    at (c ∷ columns) (f ∷ fs) o z = ((c, o.0, z.0), at columns fs o.1 z.1)

-- and each dual form
duals_each : (w : ℕ) (G : List Vector) (vs fs : List Vector) → AllZip (IsDualForm w G) vs fs → Each (λ f. (v : Vector) × IsDualForm w G v f) fs
duals_each w G [] [] z = tt
duals_each w G [] (f ∷ fs) z = absurd z
duals_each w G (v ∷ vs) [] z = absurd z
duals_each w G (v ∷ vs) (f ∷ fs) z = ((v, z.0), duals_each w G vs fs z.1)

form_widths : (w : ℕ) (ps : List Pair) → Each (HasWidths w) ps → Each (HasWidth w) (map (λ (p : Pair). p.form) ps)
form_widths w [] h = tt
form_widths w (p ∷ ps) h = (h.0.form_width, form_widths w ps h.1)

pub own_parts : (ps : List Pair) → Each (λ (p : Pair). IsPrimitive p.vector) ps → AllZip (λ (p : Pair) f. IsPrimitiveOf p.vector f) ps (map (λ (p : Pair). p.vector) ps)
own_parts ps h = zip_map (λ (p : Pair) f. IsPrimitiveOf p.vector f) (λ (p : Pair). p.vector) (λ (p : Pair). IsPrimitive p.vector) ps (λ p k. record { factor = pos 1; positive = omega (arith, ints); same = one-scaled p.vector; primitive = k }) h

-- the vectors left are equations of the rows chosen
pub left_normals : (w : ℕ) (rows : List Vector) (places : List ℕ) (chosen left : List Vector) → IsElimination w rows places chosen left → Each (IsNormalForm w rows) left
left_normals w rows places chosen left e =
    let own = chosen_rows e.pairs in
    let z = own_parts e.free (map_each (λ (p : Pair). p.vector) IsPrimitive e.free (subst (Each IsPrimitive) (sym e.same_left) e.primitive_left)) in
    let a : AreEquations w own (map (λ (p : Pair). p.vector) e.free) = equations_of_left w own e.columns e.pairs e.free (map (λ (p : Pair). p.vector) e.free) (form_widths w e.pairs (each_left (HasWidths w) e.pairs e.free e.state.pair.widths)) (state_of_chosen w rows e.pairs e.free e.state) e.column_pairs z in
    each_map (IsEquation w own) (IsNormalForm w rows) left (λ f k. record {
      vectors = own;
      of_list = chosen_members w rows e.pairs e.free e.state;
      independent = chosen_independent w rows e.pairs e.free e.state;
      kind = inr k;
    }) (equations_each w own left (subst (AreEquations w own) e.same_left a))

-- the vectors of the rows chosen are their dual forms
pub chosen_normals : (w : ℕ) (rows : List Vector) (places : List ℕ) (chosen left : List Vector) → Each (HasWidth w) rows → IsElimination w rows places chosen left → Each (IsNormalForm w rows) chosen
chosen_normals w rows places chosen left l e =
    let own = chosen_rows e.pairs in
    let z = own_parts e.pairs (map_each (λ (p : Pair). p.vector) IsPrimitive e.pairs (subst (Each IsPrimitive) (sym e.same_chosen) e.primitive_chosen)) in
    let a : AreDualForms w own (map (λ (p : Pair). p.vector) e.pairs) = dual_forms_of_chosen w rows e.columns e.pairs e.free (map (λ (p : Pair). p.vector) e.pairs) l e.state e.column_pairs z in
    each_map (λ f. (v : Vector) × IsDualForm w own v f) (IsNormalForm w rows) chosen (λ f k. record {
      vectors = own;
      of_list = chosen_members w rows e.pairs e.free e.state;
      independent = chosen_independent w rows e.pairs e.free e.state;
      kind = inl k;
    }) (duals_each w own own chosen (subst (AreDualForms w own) e.same_chosen a))

-- the first vector left is an equation of the rows chosen
left_normal : (w : ℕ) (rows : List Vector) (places : List ℕ) (chosen : List Vector) (b : Vector) (left : List Vector) → IsElimination w rows places chosen (b ∷ left) → IsNormalForm w rows b
left_normal w rows places chosen b left e = (left_normals w rows places chosen (b ∷ left) e).0

-- all rows are 0 at the vectors left
left_vanish : (w : ℕ) (rows : List Vector) (places : List ℕ) (chosen : List Vector) (b : Vector) (left : List Vector) → IsElimination w rows places chosen (b ∷ left) → Each (λ r. dot r b ≡ pos 0) rows
left_vanish w rows places chosen b left e =
    (subst (Each (λ v. Each (λ r. dot r v ≡ pos 0) rows)) e.same_left (each_of_map (λ (p : Pair). p.vector) (λ v. Each (λ r. dot r v ≡ pos 0) rows) e.free e.state.free_vanish)).0

left_width : (w : ℕ) (rows : List Vector) (places : List ℕ) (chosen : List Vector) (b : Vector) (left : List Vector) → IsElimination w rows places chosen (b ∷ left) → HasWidth w b
left_width w rows places chosen b left e =
    (subst (Each (HasWidth w)) e.same_left (each_of_map (λ (p : Pair). p.vector) (HasWidth w) e.free (each_map (HasWidths w) (λ (p : Pair). HasWidth w p.vector) e.free (λ p k. k.vector_width) (each_right (HasWidths w) e.pairs e.free e.state.pair.widths)))).0

pub left_nonzero : (w : ℕ) (rows : List Vector) (places : List ℕ) (chosen : List Vector) (b : Vector) (left : List Vector) → IsElimination w rows places chosen (b ∷ left) → IsNonzero b
left_nonzero w rows places chosen b left e = primitive_nonzero b e.primitive_left.0

pub line_of : (w : ℕ) (rows : List Vector) (places : List ℕ) (chosen : List Vector) (b v : Vector) (left : List Vector) → LeadsPositive v → (v ≡ b) ⊎ (v ≡ opposite b) → IsElimination w rows places chosen (b ∷ left) → IsLineOf w rows v
line_of w rows places chosen b v left p s e =
    let zero = left_vanish w rows places chosen b left e in
    let width = left_width w rows places chosen b left e in
    ⊎_elim
    (λ is. record {
      width = ap length is ∙ width;
      zero = subst (λ x. Each (λ r. dot r x ≡ pos 0) rows) (sym is) zero;
      primitive = subst IsPrimitive (sym is) e.primitive_left.0;
      leads = p;
      normal = inl (subst (IsNormalForm w rows) (sym is) (left_normal w rows places chosen b left e));
    })
    (λ is. record {
      width = ap length is ∙ length-opposite b ∙ width;
      zero = subst (λ x. Each (λ r. dot r x ≡ pos 0) rows) (sym is) (each_map (λ r. dot r b ≡ pos 0) (λ r. dot r (opposite b) ≡ pos 0) rows (λ r z. let o = dot-opposite r b in omega (arith, ints, z, o)) zero);
      primitive = subst IsPrimitive (sym is) (primitive_opposite b e.primitive_left.0);
      leads = p;
      normal = inr (subst (IsNormalForm w rows) (sym (ap opposite is ∙ opposite-opposite b)) (left_normal w rows places chosen b left e));
    })
    s
