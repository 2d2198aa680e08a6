-- Forms with given values: on an independent base, and in normal form on a list.
use Rattle.std.proofs.Common.{◌≡◌, inl, inr, ℕ, suc, List, [], ◌∷◌, ◌++◌, length, map, ℤ, pos, negsuc, neg_ℤ, ◌+ℤ◌, ◌*ℤ◌, ◌<ℤ◌, Contains, refl, sym, ap, ap₂, ◌∙◌, subst, arith}
use Rattle.std.proofs.lemmas.Int.{ints}
use Rattle.std.proofs.Math.IntN.{*ℤ-zero}
use Rattle.std.proofs.lemmas.List.Elements.{Contains-append_right}
use Rattle.std.specs.List.{AllByRecursion as Each, AllZip}
use Rattle.nz_spec.specs.Vectors.{Vector, dot, plus, scaled, zero_vector, combination, entry, HasWidth, IsZero, IsPrimitive}
use Rattle.nz_spec.specs.Sums.{IsInSpan, IsIndependent}
use Rattle.nz_spec.specs.Forms.{IsOtherColumn}
use Rattle.nz_spec.proofs.ListLaws.{contains_here, Each-contains, Each-from_contains}
use Rattle.nz_spec.proofs.SumLaws.{combination-scaled, length-zero_vector}
use Rattle.nz_spec.proofs.VectorLaws.{IsZero-zero_vector, dot-IsZero, scaled-scaled}
use Rattle.nz_spec.proofs.EquationLaws.{dot_comm, zero_on_span}
use Rattle.nz_linear.specs.DualPairs.{Pair, HasWidths, IsApart, IsDual, product, spread}
use Rattle.nz_linear.specs.Echelon.{IsColumnPair}
use Rattle.nz_linear.proofs.Ring.{sums, ring_z}
use Rattle.nz_linear.proofs.Signs.{signed, mul_pos, mul_is_zero}
use Rattle.nz_linear.proofs.Lists.{each_map, each_left, each_right, each_of_map}
use Rattle.nz_linear.proofs.VectorLaws.{length-plus, length-scaled, plus-dot, scaled-dot, cons_same}
use Rattle.nz_linear.proofs.DualPairs.{product_positive, values_at_spread, vanishes_at_spread, length-spread, dual_left}
use Rattle.nz_linear.proofs.Division.{primitive_of}
use Rattle.nz_linear.proofs.EliminationRun.{find_pivot}
use Rattle.nz_linear.proofs.KeyColumns.{echelon, columns_are_other, primitive_entry}
use Rattle.nz_linear.proofs.Rank.{in_seen_span, in_chosen_span, seen_vanish}
use Rattle.nz_primal.proofs.DualLemmas.{rest_independent}
use Rattle.nz_linear.proofs.NormalForms.{difference, difference_value}

-- ---- a form with given values at an independent base
head_not_in_span : (w : ℕ) (v : Vector) (vs : List Vector) → HasWidth w v → Each (HasWidth w) vs → IsIndependent w (v ∷ vs) → IsInSpan w vs v → ⊥
head_not_in_span w v vs lv l free s =
    let m = s.multiple in
    let fs = m ∷ scaled (negsuc 0) s.factors in
    let e : combination w fs (v ∷ vs) ≡ zero_vector w = ap (plus (scaled m v)) (combination-scaled w (negsuc 0) s.factors vs ∙ ap (scaled (negsuc 0)) s.same) ∙ gone_with (scaled m v) ∙ ap zero_vector (length-scaled w m v lv) in
    let z = free fs (ap suc (length-scaled (length vs) (negsuc 0) s.factors s.one_each)) (subst IsZero (sym e) (IsZero-zero_vector w)) in
    let o = z.0 in
    let p = s.positive in
    let b : ⊥ = omega (arith, ints, o, p) in b
  where
    gone_with : (x : Vector) → plus x (scaled (negsuc 0) x) ≡ zero_vector (length x)
    gone_with [] = refl
    gone_with (a ∷ x) = ap₂ (λ b y. b ∷ y) (omega (arith, ints)) (gone_with x)

-- a form that is positive at v and 0 at the others
record Parting (w : ℕ) (v : Vector) (vs : List Vector) : Type 0 where
  form : Vector
  width : HasWidth w form
  positive : pos 0 <ℤ dot form v
  zero_on : Each (λ u. dot form u ≡ pos 0) vs

parting : (w : ℕ) (v : Vector) (vs : List Vector) → HasWidth w v → Each (HasWidth w) vs → IsIndependent w (v ∷ vs) → Parting w v vs
parting w v vs lv l free =
    let a = echelon w vs l in
    elim (find_pivot v a.free) [
      | inl z ↦ absurd (head_not_in_span w v vs lv l free (in_seen_span w vs a.chosen a.free v l lv a.state z))
      | inr f ↦ (
          let p = f.pivot in
          let c : Contains a.free p = subst (λ (ps : List Pair). Contains ps p) (sym f.split) (Contains-append_right f.before (p ∷ f.after) p (contains_here p f.after)) in
          let lp = (Each-contains (HasWidths w) a.free p (each_right (HasWidths w) a.chosen a.free a.state.pair.widths) c).vector_width in
          let z = Each-contains (λ (p : Pair). Each (λ r. dot r p.vector ≡ pos 0) vs) a.free p a.state.free_vanish c in
          let s = signed (dot v p.vector) f.nonzero in
          record {
            form = scaled s.sign p.vector;
            width = length-scaled w s.sign p.vector lp;
            positive = subst (λ t. pos 0 <ℤ t) (sym (scaled-dot s.sign p.vector v ∙ ap (λ t. s.sign *ℤ t) (dot_comm p.vector v))) s.positive;
            zero_on = each_map (λ r. dot r p.vector ≡ pos 0) (λ u. dot (scaled s.sign p.vector) u ≡ pos 0) vs (λ u e. scaled-dot s.sign p.vector u ∙ ap (λ t. s.sign *ℤ t) (dot_comm p.vector u ∙ e) ∙ *ℤ-zero s.sign) z;
          })
    ]

-- a form with these values, times a positive number
pub record HasValues (w : ℕ) (base : List Vector) (values : List ℤ) : Type 0 where
  pub form : Vector
  pub factor : ℤ
  pub positive : pos 0 <ℤ factor
  pub width : HasWidth w form
  pub same : map (λ v. dot form v) base ≡ scaled factor values

ring_head : (m x D q : ℤ) → m *ℤ x +ℤ (D *ℤ q +ℤ neg_ℤ x) *ℤ m ≡ (m *ℤ D) *ℤ q
ring_head m x D q = simp ring_z (omega (arith, sums))

ring_rest : (m x c y : ℤ) → y ≡ pos 0 → m *ℤ x +ℤ c *ℤ y ≡ m *ℤ x
ring_rest m x c y e = let k = ap (λ z. c *ℤ z) e ∙ *ℤ-zero c in omega (arith, sums, k)

mapped_same : (f g : Vector) (m : ℤ) (vs : List Vector) → Each (λ u. dot f u ≡ m *ℤ dot g u) vs → map (λ v. dot f v) vs ≡ scaled m (map (λ v. dot g v) vs)
mapped_same f g m [] h = refl
mapped_same f g m (v ∷ vs) h = cons_same h.0 (mapped_same f g m vs h.1)

pub form_with_values : (w : ℕ) (base : List Vector) (values : List ℤ) → Each (HasWidth w) base → IsIndependent w base → length values ≡ length base → HasValues w base values
form_with_values w [] [] l free e = record { form = zero_vector w; factor = pos 1; positive = (let b : pos 0 <ℤ pos 1 = omega (arith, ints) in b); width = length-zero_vector w; same = refl }
form_with_values w [] (q ∷ qs) l free e = absurd (let b : ⊥ = omega (arith, e) in b)
form_with_values w (v ∷ vs) [] l free e = absurd (let b : ⊥ = omega (arith, e) in b)
form_with_values w (v ∷ vs) (q ∷ qs) l free e =
    let t = form_with_values w vs qs l.1 (rest_independent w v vs l free) (omega (arith, e)) in
    let p = parting w v vs l.0 l.1 free in
    let m = dot p.form v in
    let c = t.factor *ℤ q +ℤ neg_ℤ (dot t.form v) in
    let la = length-scaled w m t.form t.width in
    let lb = length-scaled w c p.form p.width in
    let value : (u : Vector) → dot (plus (scaled m t.form) (scaled c p.form)) u ≡ m *ℤ dot t.form u +ℤ c *ℤ dot p.form u = λ u. plus-dot w (scaled m t.form) (scaled c p.form) u la lb ∙ ap₂ ◌+ℤ◌ (scaled-dot m t.form u) (scaled-dot c p.form u) in
    record {
      form = plus (scaled m t.form) (scaled c p.form);
      factor = m *ℤ t.factor;
      positive = mul_pos m t.factor p.positive t.positive;
      width = length-plus w (scaled m t.form) (scaled c p.form) la lb;
      same = cons_same (value v ∙ ring_head m (dot t.form v) t.factor q)
          (mapped_same (plus (scaled m t.form) (scaled c p.form)) t.form m vs (each_map (λ u. dot p.form u ≡ pos 0) (λ u. dot (plus (scaled m t.form) (scaled c p.form)) u ≡ m *ℤ dot t.form u) vs (λ u z. value u ∙ ring_rest m (dot t.form u) c (dot p.form u) z) p.zero_on) ∙ ap (scaled m) t.same ∙ scaled-scaled m t.factor qs);
    }

-- ---- the normal form on a list of the values of a form
pub record IsNormalOf (w : ℕ) (H : List Vector) (f g : Vector) : Type 0 where
  pub width : HasWidth w g
  pub primitive : IsPrimitive g
  pub zero_at : (j : ℕ) → IsOtherColumn w H j → entry g j ≡ pos 0
  pub a : ℤ
  pub b : ℤ
  pub positive_a : pos 0 <ℤ a
  pub positive_b : pos 0 <ℤ b
  pub values : Each (λ h. a *ℤ dot g h ≡ b *ℤ dot f h) H

apart_from_left : (q : Pair) (chosen free : List Pair) → IsDual (chosen ++ free) → Contains free q → Each (λ (p : Pair). dot q.form p.vector ≡ pos 0) chosen
apart_from_left q [] free d c = tt
apart_from_left q (p ∷ chosen) free d c = (
  (Each-contains (IsApart p) free q (each_right (IsApart p) chosen free d.1) c).back,
  apart_from_left q chosen free d.2 c,
)

zero_at_columns : (w : ℕ) (columns : List ℕ) (free : List Pair) (x : Vector) → HasWidth w x → AllZip (IsColumnPair w) columns free → Each (λ (p : Pair). dot p.form x ≡ pos 0) free → Each (λ c. entry x c ≡ pos 0) columns
zero_at_columns w [] [] x l z v = tt
zero_at_columns w [] (p ∷ free) x l z v = absurd z
zero_at_columns w (c ∷ columns) [] x l z v = absurd z
zero_at_columns w (c ∷ columns) (p ∷ free) x l z v = (sym (z.0.unit x l) ∙ v.0, zero_at_columns w columns free x l z.1 v.1)

less_gone : (D x y : ℤ) → pos 1 *ℤ x +ℤ neg_ℤ D *ℤ y ≡ pos 0 → x ≡ D *ℤ y
less_gone D x y e = let k = simp ring_z at e in omega (arith, sums, k)

less_more : (D x y : ℤ) → x ≡ D *ℤ y → pos 1 *ℤ x +ℤ neg_ℤ D *ℤ y ≡ pos 0
less_more D x y e = simp ring_z (omega (arith, sums, e))

pub normal_of : (w : ℕ) (H : List Vector) (f : Vector) → Each (HasWidth w) H → HasWidth w f → ¬ Each (λ h. dot f h ≡ pos 0) H → (g : Vector) × IsNormalOf w H f g
normal_of w H f l lf not_all =
    let s = echelon w H l in
    let D = product s.chosen in
    let wide : Each (HasWidths w) s.chosen = each_left (HasWidths w) s.chosen s.free s.state.pair.widths in
    let dual = dual_left s.chosen s.free s.state.pair.dual in
    let x = spread w s.chosen f in
    let lx = length-spread w s.chosen f wide in
    let at_chosen = values_at_spread w s.chosen f wide dual in
    let pD = product_positive s.chosen dual in
    let d = difference (pos 1) x D f in
    let on_rows : Each (λ h. dot d h ≡ pos 0) (map (λ (p : Pair). p.form) s.chosen) =
    each_of_map (λ (p : Pair). p.form) (λ h. dot d h ≡ pos 0) s.chosen
    (each_map (λ (p : Pair). dot p.form x ≡ D *ℤ dot p.form f) (λ (p : Pair). dot d p.form ≡ pos 0) s.chosen
    (λ p e. difference_value w (pos 1) x D f p.form lx lf ∙ less_more D (dot x p.form) (dot f p.form) (dot_comm x p.form ∙ e ∙ ap (λ z. D *ℤ z) (dot_comm p.form f))) at_chosen) in
    let lrows : Each (HasWidth w) (map (λ (p : Pair). p.form) s.chosen) = each_of_map (λ (p : Pair). p.form) (HasWidth w) s.chosen (each_map (HasWidths w) (λ (p : Pair). HasWidth w p.form) s.chosen (λ p k. k.form_width) wide) in
    let same : Each (λ h. dot x h ≡ D *ℤ dot f h) H = Each-from_contains (λ h. dot x h ≡ D *ℤ dot f h) H
    (λ h c. less_gone D (dot x h) (dot f h) (sym (difference_value w (pos 1) x D f h lx lf) ∙ zero_on_span d w (map (λ (p : Pair). p.form) s.chosen) h lrows on_rows (in_chosen_span w H s.chosen s.free h (Each-contains (HasWidth w) H h l c) s.state (seen_vanish w H s.chosen s.free h s.state c)))) in
    let r = primitive_of x (λ z. not_all (each_map (λ h. dot x h ≡ D *ℤ dot f h) (λ h. dot f h ≡ pos 0) H (λ h e. mul_is_zero D (dot f h) pD (sym e ∙ dot_comm x h ∙ dot-IsZero h x z)) same)) in
    let k = r.is in
    let lg : HasWidth w r.y = sym (length-scaled (length r.y) k.factor r.y refl) ∙ ap length k.same ∙ lx in
    let zeros = zero_at_columns w s.columns s.free x lx s.are_columns.each (Each-from_contains (λ (p : Pair). dot p.form x ≡ pos 0) s.free (λ p c. vanishes_at_spread w s.chosen p.form f wide (apart_from_left p s.chosen s.free s.state.pair.dual c))) in
    let list = columns_are_other w H s.columns s.chosen s.free l s.state s.are_columns in (
      r.y,
      record {
        width = lg;
        primitive = k.primitive;
        zero_at = λ j o. mul_is_zero k.factor (entry r.y j) k.positive (primitive_entry w x r.y j k lg ∙ Each-contains (λ c. entry x c ≡ pos 0) s.columns j zeros (list.each j o));
        a = k.factor;
        b = D;
        positive_a = k.positive;
        positive_b = pD;
        values = each_map (λ h. dot x h ≡ D *ℤ dot f h) (λ h. k.factor *ℤ dot r.y h ≡ D *ℤ dot f h) H (λ h e. sym (scaled-dot k.factor r.y h) ∙ ap (λ v. dot v h) k.same ∙ e) same;
      },
    )
