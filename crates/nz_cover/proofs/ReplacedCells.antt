-- A simplex with a new vector in place of the one that is not on a facet: its forms, and where it lies.
use Rattle.std.proofs.Common.{◌≡◌, ℕ, List, [], ◌∷◌, ◌++◌, length, ℤ, pos, ◌+ℤ◌, ◌*ℤ◌, neg_ℤ, ◌≤ℤ◌, ◌<ℤ◌, refl, sym, ap, ◌∙◌, subst, arith}
use Rattle.std.proofs.Math.IntN.{*ℤ-zero, zero-*ℤ}
use Rattle.std.specs.List.{AllByRecursion as Each, AllZip, Contains}
use Rattle.nz_spec.specs.Vectors.{Vector, dot, scaled, opposite, HasWidth, IsPrimitive}
use Rattle.nz_spec.proofs.EquationLaws.{dot_comm}
use Rattle.nz_spec.proofs.ListLaws.{contains_here, contains_there}
use Rattle.nz_spec.proofs.VectorLaws.{length-opposite, dot-scaled}
use Rattle.nz_linear.specs.Cones.{meet}
use Rattle.nz_linear.specs.DualPairs.{Pair, pair_of, divisor, IsApart, HasWidths, IsDual, IsDualPair, AllVanish}
use Rattle.nz_linear.proofs.Ring.{sums, ring_z}
use Rattle.nz_linear.proofs.Signs.{mul_pos, mul_is_pos, mul_is_zero, mul_is_nonneg}
use Rattle.nz_linear.proofs.Lists.{each_map, each_insert, each_remove, zip_to_right}
use Rattle.nz_linear.proofs.VectorLaws.{length-plus, length-scaled, dot-plus, plus-dot, scaled-dot}
use Rattle.nz_linear.proofs.DualPairs.{dual_split}
use Rattle.nz_linear.proofs.DualGroups.{dual_insert}
use Rattle.nz_pointed.proofs.SignLemmas.{dot-opposite, primitive_opposite}
use Rattle.nz_cover.specs.Cells.{IsCell, IsAt, IsWithin, IsOf}
use Rattle.nz_cover.specs.Steps.{IsTilted, IsReplaced}

pub opposite-dot : (f x : Vector) → dot (opposite f) x ≡ neg_ℤ (dot f x)
opposite-dot f x = dot_comm (opposite f) x ∙ dot-opposite x f ∙ ap neg_ℤ (dot_comm x f)

-- ---- values of tilted forms
-- the value of a form where the line from x along v meets the facet
pub meet_at : (w : ℕ) (f l x v : Vector) → HasWidth w x → HasWidth w v → dot l (meet f x v) ≡ dot f x *ℤ dot l v +ℤ neg_ℤ (dot f v) *ℤ dot l x
meet_at w f l x v lx lv = dot-plus w l _ _ (length-scaled w (dot f x) v lv) (length-scaled w (neg_ℤ (dot f v)) x lx) ∙ omega (arith, sums, dot-scaled l (dot f x) v, dot-scaled l (neg_ℤ (dot f v)) x)

pub meet_width : (w : ℕ) (f x v : Vector) → HasWidth w x → HasWidth w v → HasWidth w (meet f x v)
meet_width w f x v lx lv = length-plus w _ _ (length-scaled w (dot f x) v lv) (length-scaled w (neg_ℤ (dot f v)) x lx)

ring_swap : (lv fx fv lx : ℤ) → lv *ℤ fx +ℤ neg_ℤ fv *ℤ lx ≡ fx *ℤ lv +ℤ neg_ℤ fv *ℤ lx
ring_swap lv fx fv lx = simp ring_z (omega (arith, sums))

pub tilted_value : (w : ℕ) (f v x : Vector) (p q : Pair) → HasWidths w p → HasWidth w f → (t : IsTilted f v p q) → t.form.factor *ℤ dot q.form x ≡ dot f x *ℤ dot p.form v +ℤ neg_ℤ (dot f v) *ℤ dot p.form x
tilted_value w f v x p q lp lf t =
    let a : t.form.factor *ℤ dot q.form x ≡ dot (meet v p.form f) x = sym (scaled-dot t.form.factor q.form x) ∙ ap (λ y. dot y x) t.form.same in
    let b = plus-dot w (scaled (dot v p.form) f) (scaled (neg_ℤ (dot v f)) p.form) x (length-scaled w (dot v p.form) f lf) (length-scaled w (neg_ℤ (dot v f)) p.form lp.form_width) in
    let c = scaled-dot (dot v p.form) f x in
    let d = scaled-dot (neg_ℤ (dot v f)) p.form x in
    let e = ap (λ y. y *ℤ dot f x) (dot_comm v p.form) in
    let g = ap (λ y. neg_ℤ y *ℤ dot p.form x) (dot_comm v f) in
    omega (arith, sums, a, b, c, d, e, g, ring_swap (dot p.form v) (dot f x) (dot f v) (dot p.form x))

-- a tilted form has at x the sign of the form where the line from x along v meets the facet
pub tilted_meet : (w : ℕ) (f v x : Vector) (p q : Pair) → HasWidths w p → HasWidth w f → HasWidth w x → HasWidth w v → (t : IsTilted f v p q) → t.form.factor *ℤ dot q.form x ≡ dot p.form (meet f x v)
tilted_meet w f v x p q lp lf lx lv t = tilted_value w f v x p q lp lf t ∙ sym (meet_at w f p.form x v lx lv)

-- on the facet it is a positive multiple of the form
pub tilted_on_facet : (w : ℕ) (f v x : Vector) (p q : Pair) → HasWidths w p → HasWidth w f → dot f x ≡ pos 0 → (t : IsTilted f v p q) → t.form.factor *ℤ dot q.form x ≡ neg_ℤ (dot f v) *ℤ dot p.form x
tilted_on_facet w f v x p q lp lf e t = tilted_value w f v x p q lp lf t ∙ omega (arith, sums, ap (λ y. y *ℤ dot p.form v) e, zero-*ℤ (dot p.form v))

ring_gone : (a b : ℤ) → a *ℤ b +ℤ neg_ℤ a *ℤ b ≡ pos 0
ring_gone a b = simp ring_z (omega (arith, sums))

-- and it is 0 at v
tilted_at : (w : ℕ) (f v : Vector) (p q : Pair) → HasWidths w p → HasWidth w f → IsTilted f v p q → dot q.form v ≡ pos 0
tilted_at w f v p q lp lf t = mul_is_zero t.form.factor (dot q.form v) t.form.positive (tilted_value w f v v p q lp lf t ∙ ring_gone (dot f v) (dot p.form v))

tilted_zero : (w : ℕ) (f v x : Vector) (p q : Pair) → HasWidths w p → HasWidth w f → dot f x ≡ pos 0 → dot p.form x ≡ pos 0 → IsTilted f v p q → dot q.form x ≡ pos 0
tilted_zero w f v x p q lp lf e z t = mul_is_zero t.form.factor (dot q.form x) t.form.positive (tilted_on_facet w f v x p q lp lf e t ∙ ap (λ y. neg_ℤ (dot f v) *ℤ y) z ∙ *ℤ-zero (neg_ℤ (dot f v)))

tilted_widths : (w : ℕ) (f v : Vector) (p q : Pair) → HasWidths w p → HasWidth w f → IsTilted f v p q → HasWidths w q
tilted_widths w f v p q lp lf t = record {
  form_width = sym (length-scaled (length q.form) t.form.factor q.form refl) ∙ ap length t.form.same ∙ length-plus w _ _ (length-scaled w (dot v p.form) f lf) (length-scaled w (neg_ℤ (dot v f)) p.form lp.form_width);
  vector_width = ap length t.same_vector ∙ lp.vector_width;
}

-- ---- the tilted pairs are a dual pair
module _ (w : ℕ) (f v : Vector) (lf : HasWidth w f) where
  tilted_apart : (p q : Pair) (ps qs : List Pair) → HasWidths w p → Each (HasWidths w) ps → IsTilted f v p q → AllZip (IsTilted f v) ps qs → dot f p.vector ≡ pos 0 → Each (λ (r : Pair). dot f r.vector ≡ pos 0) ps → Each (IsApart p) ps → Each (IsApart q) qs
  tilted_apart p q [] [] lp l t z e es a = tt
  tilted_apart p q [] (r ∷ qs) lp l t z e es a = absurd z
  tilted_apart p q (r ∷ ps) [] lp l t z e es a = absurd z
  tilted_apart p q (r ∷ ps) (s ∷ qs) lp l t z e es a = (
    record {
      there = ap (dot q.form) z.0.same_vector ∙ tilted_zero w f v r.vector p q lp lf es.0 a.0.there t;
      back = ap (dot s.form) t.same_vector ∙ tilted_zero w f v p.vector r s l.0 lf e a.0.back z.0;
    },
    tilted_apart p q ps qs lp l.1 t z.1 e es.1 a.1,
  )

  tilted_dual : (ps qs : List Pair) → dot f v <ℤ pos 0 → Each (HasWidths w) ps → AllZip (IsTilted f v) ps qs → Each (λ (r : Pair). dot f r.vector ≡ pos 0) ps → IsDual ps → IsDual qs
  tilted_dual [] [] n l z e d = tt
  tilted_dual [] (q ∷ qs) n l z e d = absurd z
  tilted_dual (p ∷ ps) [] n l z e d = absurd z
  tilted_dual (p ∷ ps) (q ∷ qs) n l z e d = (
    (
        let t = z.0 in
        let k : t.form.factor *ℤ dot q.form p.vector ≡ neg_ℤ (dot f v) *ℤ divisor p = tilted_on_facet w f v p.vector p q l.0 lf e.0 t in
        let m = mul_pos (neg_ℤ (dot f v)) (divisor p) (omega (arith, sums)) d.0 in
        let h : pos 0 <ℤ dot q.form p.vector = mul_is_pos t.form.factor (dot q.form p.vector) t.form.positive (omega (arith, sums)) in
        rw (ap (dot q.form) t.same_vector) h
        ),
    tilted_apart p q ps qs l.0 l.1 z.0 z.1 e.0 e.1 d.1,
    tilted_dual ps qs n l.1 z.1 e.1 d.2,
  )

  new_apart : (ps qs : List Pair) → Each (HasWidths w) ps → AllZip (IsTilted f v) ps qs → Each (λ (r : Pair). dot f r.vector ≡ pos 0) ps → Each (IsApart (pair_of (opposite f) v)) qs
  new_apart [] [] l z e = tt
  new_apart [] (q ∷ qs) l z e = absurd z
  new_apart (p ∷ ps) [] l z e = absurd z
  new_apart (p ∷ ps) (q ∷ qs) l z e = (
    record {
      there = opposite-dot f q.vector ∙ ap neg_ℤ (ap (dot f) z.0.same_vector ∙ e.0);
      back = tilted_at w f v p q l.0 lf z.0;
    },
    new_apart ps qs l.1 z.1 e.1,
  )

  tilted_all_widths : (ps qs : List Pair) → Each (HasWidths w) ps → AllZip (IsTilted f v) ps qs → Each (HasWidths w) qs
  tilted_all_widths [] [] l z = tt
  tilted_all_widths [] (q ∷ qs) l z = absurd z
  tilted_all_widths (p ∷ ps) [] l z = absurd z
  tilted_all_widths (p ∷ ps) (q ∷ qs) l z = (tilted_widths w f v p q l.0 lf z.0, tilted_all_widths ps qs l.1 z.1)

  -- where the facet and the tilted forms are 0, the forms are
  tilted_vanish : (x : Vector) (ps qs : List Pair) → dot f v <ℤ pos 0 → Each (HasWidths w) ps → AllZip (IsTilted f v) ps qs → dot f x ≡ pos 0 → AllVanish qs x → AllVanish ps x
  tilted_vanish x [] [] n l z e h = tt
  tilted_vanish x [] (q ∷ qs) n l z e h = tt
  tilted_vanish x (p ∷ ps) [] n l z e h = absurd z
  tilted_vanish x (p ∷ ps) (q ∷ qs) n l z e h = (
    (
        let t = z.0 in
        let k = tilted_on_facet w f v x p q l.0 lf e t in
        let m = ap (λ y. t.form.factor *ℤ y) h.0 in
        mul_is_zero (neg_ℤ (dot f v)) (dot p.form x) (omega (arith, sums)) (sym k ∙ m ∙ *ℤ-zero t.form.factor)
        ),
    tilted_vanish x ps qs n l.1 z.1 e h.1,
  )

-- ---- the replaced simplex
-- the pairs of a simplex: that across the facet, and those on it
pub record IsOnFacet (w : ℕ) (f : Vector) (across : Pair) (others : List Pair) : Type 0 where
  pub widths : HasWidths w across
  pub other_widths : Each (HasWidths w) others
  pub over : pos 0 <ℤ dot f across.vector
  pub on : Each (λ (p : Pair). dot f p.vector ≡ pos 0) others
  pub dual : IsDual others

pub on_facet : (w : ℕ) (f : Vector) (c before after : List Pair) (across : Pair) → IsDualPair w c → c ≡ before ++ across ∷ after → across.form ≡ f → IsOnFacet w f across (before ++ after)
on_facet w f c before after across d e i =
    let h : Each (HasWidths w) (before ++ across ∷ after) = subst (Each (HasWidths w)) e d.widths in
    let l = each_remove (HasWidths w) across before after h in
    let k : IsDual (before ++ across ∷ after) = subst IsDual e d.dual in
    let s = dual_split across before after k in
    record {
      widths = l.0;
      other_widths = l.1;
      over = subst (λ g. pos 0 <ℤ dot g across.vector) i s.0;
      on = each_map (IsApart across) (λ (p : Pair). dot f p.vector ≡ pos 0) (before ++ after) (λ p a. subst (λ g. dot g p.vector ≡ pos 0) i a.there) s.1;
      dual = s.2;
    }

pub replaced_cell : (w : ℕ) (f v : Vector) (c d : List Pair) → IsCell w c → HasWidth w v → dot f v <ℤ pos 0 → IsReplaced f v c d → IsCell w d
replaced_cell w f v c d k lv n r =
    let o = on_facet w f c r.before r.after r.across k.dual r.split r.is_facet in
    let lf : HasWidth w f = subst (HasWidth w) r.is_facet o.widths.form_width in
    let R = r.before ++ r.after in
    let S = r.first ++ r.last in
    let new = pair_of (opposite f) v in
    let dual : IsDual (new ∷ S) = (rw (opposite-dot f v) (omega (arith, sums)), new_apart w f v lf R S o.other_widths r.tilted o.on, tilted_dual w f v lf R S n o.other_widths r.tilted o.on o.dual) in
    let widths : Each (HasWidths w) (new ∷ S) = (record { form_width = length-opposite f ∙ lf; vector_width = lv }, tilted_all_widths w f v lf R S o.other_widths r.tilted) in
    let primitive : Each (λ (p : Pair). IsPrimitive p.form) (r.before ++ r.across ∷ r.after) = subst (Each (λ (p : Pair). IsPrimitive p.form)) r.split k.primitive in
    let pf : IsPrimitive f = subst IsPrimitive r.is_facet (each_remove (λ (p : Pair). IsPrimitive p.form) r.across r.before r.after primitive).0 in
    subst (IsCell w) (sym r.whole) (record {
      dual = record {
        widths = each_insert (HasWidths w) new r.first r.last widths;
        dual = dual_insert new r.first r.last dual;
      };
      only_zero = λ x lx h.
          let g = each_remove (λ (p : Pair). dot p.form x ≡ pos 0) new r.first r.last h in
          let z : dot f x ≡ pos 0 = (let e = opposite-dot f x in let y = g.0 in omega (arith, sums)) in
          let m = tilted_vanish w f v lf x R S n o.other_widths r.tilted z g.1 in
          k.only_zero x lx (subst (λ t. AllVanish t x) (sym r.split) (each_insert (λ (p : Pair). dot p.form x ≡ pos 0) r.across r.before r.after (subst (λ t. dot t x ≡ pos 0) (sym r.is_facet) z, m)));
      primitive = each_insert (λ (p : Pair). IsPrimitive p.form) new r.first r.last
          (primitive_opposite f pf, zip_to_right (IsTilted f v) (λ (p : Pair). IsPrimitive p.form) R S (λ p q t. t.form.primitive) r.tilted);
    })

tilted_at_least : (w : ℕ) (f v x : Vector) (ps qs : List Pair) → HasWidth w f → HasWidth w x → HasWidth w v → Each (HasWidths w) ps → AllZip (IsTilted f v) ps qs → IsAt (meet f x v) ps → IsAt x qs
tilted_at_least w f v x [] [] lf lx lv l z h = tt
tilted_at_least w f v x [] (q ∷ qs) lf lx lv l z h = absurd z
tilted_at_least w f v x (p ∷ ps) [] lf lx lv l z h = absurd z
tilted_at_least w f v x (p ∷ ps) (q ∷ qs) lf lx lv l z h = (
  (let t = z.0 in let e = tilted_meet w f v x p q l.0 lf lx lv t in let k = h.0 in mul_is_nonneg t.form.factor (dot q.form x) t.form.positive (omega (arith, sums))),
  tilted_at_least w f v x ps qs lf lx lv l.1 z.1 h.1,
)

tilted_above : (w : ℕ) (f v x : Vector) (ps qs : List Pair) → HasWidth w f → HasWidth w x → HasWidth w v → Each (HasWidths w) ps → AllZip (IsTilted f v) ps qs → IsWithin x qs → IsWithin (meet f x v) ps
tilted_above w f v x [] [] lf lx lv l z h = tt
tilted_above w f v x [] (q ∷ qs) lf lx lv l z h = tt
tilted_above w f v x (p ∷ ps) [] lf lx lv l z h = absurd z
tilted_above w f v x (p ∷ ps) (q ∷ qs) lf lx lv l z h = (
  (let t = z.0 in let e = tilted_meet w f v x p q l.0 lf lx lv t in let k = mul_pos t.form.factor (dot q.form x) t.form.positive h.0 in omega (arith, sums)),
  tilted_above w f v x ps qs lf lx lv l.1 z.1 h.1,
)

-- what is beyond the facet, and meets it along v in the old simplex, is in the new one
pub replaced_at : (w : ℕ) (f v : Vector) (c d : List Pair) (x : Vector) → IsCell w c → HasWidth w v → HasWidth w x → IsReplaced f v c d → dot f x ≤ℤ pos 0 → IsAt (meet f x v) c → IsAt x d
replaced_at w f v c d x k lv lx r n h =
    let o = on_facet w f c r.before r.after r.across k.dual r.split r.is_facet in
    let lf : HasWidth w f = subst (HasWidth w) r.is_facet o.widths.form_width in
    let m = each_remove (λ (p : Pair). pos 0 ≤ℤ dot p.form (meet f x v)) r.across r.before r.after (subst (IsAt (meet f x v)) r.split h) in
    let e = opposite-dot f x in
    subst (IsAt x) (sym r.whole) (each_insert (λ (p : Pair). pos 0 ≤ℤ dot p.form x) (pair_of (opposite f) v) r.first r.last (omega (arith, sums), tilted_at_least w f v x (r.before ++ r.after) (r.first ++ r.last) lf lx lv o.other_widths r.tilted m.1))

-- what is inside the new simplex is beyond the facet, and meets it along v inside the old one's vectors on it
pub record IsBeyond (f v x : Vector) (others : List Pair) : Type 0 where
  pub under : dot f x <ℤ pos 0
  pub on : IsWithin (meet f x v) others

pub replaced_within : (w : ℕ) (f v : Vector) (c d : List Pair) (x : Vector) → IsCell w c → HasWidth w v → HasWidth w x → (r : IsReplaced f v c d) → IsWithin x d → IsBeyond f v x (r.before ++ r.after)
replaced_within w f v c d x k lv lx r h =
    let o = on_facet w f c r.before r.after r.across k.dual r.split r.is_facet in
    let lf : HasWidth w f = subst (HasWidth w) r.is_facet o.widths.form_width in
    let m = each_remove (λ (p : Pair). pos 0 <ℤ dot p.form x) (pair_of (opposite f) v) r.first r.last (subst (IsWithin x) r.whole h) in
    record {
      under = (let e = opposite-dot f x in let g = m.0 in omega (arith, sums));
      on = tilted_above w f v x (r.before ++ r.after) (r.first ++ r.last) lf lx lv o.other_widths r.tilted m.1;
    }

tilted_of : (vs : List Vector) (f v : Vector) (ps qs : List Pair) → AllZip (IsTilted f v) ps qs → IsOf vs ps → IsOf (v ∷ vs) qs
tilted_of vs f v [] [] z h = tt
tilted_of vs f v [] (q ∷ qs) z h = absurd z
tilted_of vs f v (p ∷ ps) [] z h = absurd z
tilted_of vs f v (p ∷ ps) (q ∷ qs) z h = (subst (Contains (v ∷ vs)) (sym z.0.same_vector) (contains_there v p.vector vs h.0), tilted_of vs f v ps qs z.1 h.1)

-- its vectors are the new one and old ones
pub replaced_of : (vs : List Vector) (f v : Vector) (c d : List Pair) → IsReplaced f v c d → IsOf vs c → IsOf (v ∷ vs) d
replaced_of vs f v c d r h =
    let m = each_remove (λ (p : Pair). Contains vs p.vector) r.across r.before r.after (subst (IsOf vs) r.split h) in
    subst (IsOf (v ∷ vs)) (sym r.whole) (each_insert (λ (p : Pair). Contains (v ∷ vs) p.vector) (pair_of (opposite f) v) r.first r.last (contains_here v vs, tilted_of vs f v (r.before ++ r.after) (r.first ++ r.last) r.tilted m.1))
