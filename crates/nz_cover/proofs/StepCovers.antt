-- After a step of placing each vector of the cone is in a simplex: first the generic ones, then all.
use Rattle.std.proofs.Common.{◌≡◌, ◌⊎◌, inl, inr, ℕ, List, [], ◌∷◌, ◌++◌, map, ℤ, pos, ◌+ℤ◌, ◌*ℤ◌, neg_ℤ, ◌≤ℤ◌, ◌<ℤ◌, sym, ap, ◌∙◌, subst, arith}
use Rattle.std.proofs.lemmas.Int.{by_lt_z}
use Rattle.std.proofs.lemmas.List.Elements.{Contains-append_left, Contains-append_right}
use Rattle.std.specs.List.{AllByRecursion as Each, AllZip, Contains}
use Rattle.nz_spec.specs.Vectors.{Vector, dot, scaled, zero_vector, HasWidth, IsZero, IsPrimitive}
use Rattle.nz_spec.specs.Sums.{IsInCone}
use Rattle.nz_spec.proofs.IntLaws.{mul-nonneg}
use Rattle.nz_spec.proofs.ConstraintLaws.{nonneg_on_cone}
use Rattle.nz_spec.proofs.EquationLaws.{dot_comm, zero_on_span}
use Rattle.nz_spec.proofs.SumLaws.{IsInCone-zero, length-zero_vector}
use Rattle.nz_spec.proofs.VectorLaws.{dot-IsZero, int_is_zero}
use Rattle.nz_spec.proofs.ListLaws.{contains_here, contains_there, contains_cases, contains_none, Each-contains, Each-from_contains}
use Rattle.nz_linear.specs.Cones.{Satisfies, meet}
use Rattle.nz_linear.specs.DualPairs.{Pair, divisor, HasWidths}
use Rattle.nz_linear.specs.RayStep.{AreExtremeRays}
use Rattle.nz_linear.proofs.Cones.{worst}
use Rattle.nz_linear.proofs.Division.{primitive_unique}
use Rattle.nz_linear.proofs.DualCone.{same_forms}
use Rattle.nz_linear.proofs.DualPairs.{widths_of_vectors, divisors_positive}
use Rattle.nz_linear.proofs.Farkas.{meet_width}
use Rattle.nz_linear.proofs.Lists.{each_map, each_map2, each_append, each_left, each_right, each_of_map, map_each}
use Rattle.nz_linear.proofs.Ring.{sums, ring_z}
use Rattle.nz_linear.proofs.Signs.{mul_pos}
use Rattle.nz_linear.proofs.SimplexCones.{zero_of_inside}
use Rattle.nz_linear.proofs.VectorLaws.{length-scaled, plus-dot, scaled-dot}
use Rattle.nz_cover.specs.Cells.{IsCell, IsAt, IsWithin, IsOf, HasCellAt, AreCells}
use Rattle.nz_cover.specs.Steps.{IsReplaced, Source, IsSource, IsPlacingStep}
use Rattle.nz_cover.proofs.CellLaws.{vectors_of, cell_span, cell_inside}
use Rattle.nz_cover.proofs.ReplacedCells.{meet_at, replaced_cell, replaced_at, replaced_of}
use Rattle.nz_cover.proofs.ReplacedCells as replaced
use Rattle.nz_cover.proofs.Overlap.{meet_on}
use Rattle.nz_cover.proofs.Generic.{AreSpanning, IsGeneric, all_forms, of_all_forms, generic_to_all, spanning_by_cell}
use Rattle.nz_cover.proofs.StepApart.{step_apart}

-- ---- the facet that is met last
-- the sum of two forms at which v is 0, as a form
pub meet_form : (w : ℕ) (v l f x : Vector) → HasWidth w l → HasWidth w f → dot (meet v l f) x ≡ dot l v *ℤ dot f x +ℤ neg_ℤ (dot f v) *ℤ dot l x
meet_form w v l f x ll lf =
    let b = plus-dot w (scaled (dot v l) f) (scaled (neg_ℤ (dot v f)) l) x (length-scaled w (dot v l) f lf) (length-scaled w (neg_ℤ (dot v f)) l ll) in
    let c = scaled-dot (dot v l) f x in
    let d = scaled-dot (neg_ℤ (dot v f)) l x in
    let e = ap (λ y. y *ℤ dot f x) (dot_comm v l) in
    let g = ap (λ y. neg_ℤ y *ℤ dot l x) (dot_comm v f) in
    omega (arith, sums, b, c, d, e, g)

ring_swap : (lv fx fv lx : ℤ) → lv *ℤ fx +ℤ neg_ℤ fv *ℤ lx ≡ fx *ℤ lv +ℤ neg_ℤ fv *ℤ lx
ring_swap lv fx fv lx = simp ring_z (omega (arith, sums))

-- its value at x is that of the one form where the line from x along v meets the other
pub meet_form_at : (w : ℕ) (v l f x : Vector) → HasWidth w l → HasWidth w f → HasWidth w x → HasWidth w v → dot (meet v l f) x ≡ dot l (meet f x v)
meet_form_at w v l f x ll lf lx lv = meet_form w v l f x ll lf ∙ ring_swap (dot l v) (dot f x) (dot f v) (dot l x) ∙ sym (meet_at w f l x v lx lv)

ring_best : (fv gx fx gv : ℤ) → neg_ℤ fv *ℤ gx +ℤ neg_ℤ fx *ℤ neg_ℤ gv ≡ fx *ℤ gv +ℤ neg_ℤ fv *ℤ gx
ring_best fv gx fx gv = simp ring_z (omega (arith, sums))

-- a facet beyond which x is, such that the line from x along v meets it in the cone
pub record IsLastMet (w : ℕ) (vs facets : List Vector) (v x f : Vector) : Type 0 where
  pub has : Contains facets f
  pub seen : dot f v <ℤ pos 0
  pub under : dot f x <ℤ pos 0
  pub met : IsInCone w vs (meet f x v)

module _ (w : ℕ) (vs facets : List Vector) (v : Vector) (rays : AreExtremeRays w vs facets) (lv : HasWidth w v) where
  facet_nonneg : (f : Vector) → Contains facets f → Each (λ u. pos 0 ≤ℤ dot f u) vs
  facet_nonneg f k = each_map (λ u. pos 0 ≤ℤ dot u f) (λ u. pos 0 ≤ℤ dot f u) vs (λ u h. subst (λ t. pos 0 ≤ℤ t) (dot_comm u f) h) (Each-contains (Satisfies vs) facets f rays.description.sound k)

  facet_width : (f : Vector) → Contains facets f → HasWidth w f
  facet_width f k = Each-contains (HasWidth w) facets f rays.description.ray_widths k

  nonneg_along : (f x : Vector) → Contains facets f → HasWidth w x → IsInCone w (v ∷ vs) x → pos 0 ≤ℤ dot f v → pos 0 ≤ℤ dot f x
  nonneg_along f x k lx i n = nonneg_on_cone f w (v ∷ vs) x (lv, rays.description.row_widths) (n, facet_nonneg f k) i

  -- where f is seen, another facet that is not is at least 0 where the line meets f
  nonneg_met : (f g x : Vector) → Contains facets f → Contains facets g → HasWidth w x → IsInCone w (v ∷ vs) x → dot f v <ℤ pos 0 → pos 0 ≤ℤ dot g v → pos 0 ≤ℤ dot g (meet f x v)
  nonneg_met f g x kf kg lx i s n =
      let lf = facet_width f kf in
      let lg = facet_width g kg in
      subst (λ t. pos 0 ≤ℤ t) (meet_form_at w v g f x lg lf lx lv)
      (nonneg_on_cone (meet v g f) w (v ∷ vs) x (lv, rays.description.row_widths) (
        (let e = meet_form_at w v g f v lg lf lv lv in let h = meet_at w f g v v lv lv in let z = ring_gone (dot f v) (dot g v) in omega (arith, sums)),
        each_map2 (λ u. pos 0 ≤ℤ dot f u) (λ u. pos 0 ≤ℤ dot g u) (λ u. pos 0 ≤ℤ dot (meet v g f) u) vs
            (λ u a b. let e = meet_form w v g f u lg lf in let h = mul-nonneg (dot g v) (dot f u) n a in let k = mul-nonneg (neg_ℤ (dot f v)) (dot g u) (omega (arith, sums)) b in omega (arith, sums)) (facet_nonneg f kf) (facet_nonneg g kg),
      ) i)
    where
      ring_gone : (a b : ℤ) → a *ℤ b +ℤ neg_ℤ a *ℤ b ≡ pos 0
      ring_gone a b = simp ring_z (omega (arith, sums))

  pub old_or_last_met : (x : Vector) → HasWidth w x → IsInCone w (v ∷ vs) x → IsInCone w vs x ⊎ ((f : Vector) × IsLastMet w vs facets v x f)
  old_or_last_met x lx i = elim (worst v x (Contains facets) facets (Each-from_contains (Contains facets) facets (λ f k. k))) [
    | inl all ↦ inl (rays.description.farkas x lx (Each-from_contains (λ f. pos 0 ≤ℤ dot f x) facets (λ f k. by_lt_z (dot v f) (pos 0)
        (λ (s : dot v f <ℤ pos 0). Each-contains (λ g. dot v g <ℤ pos 0 → pos 0 ≤ℤ dot g x) facets f all k s)
        (λ (s : pos 0 ≤ℤ dot v f). nonneg_along f x k lx i (subst (λ t. pos 0 ≤ℤ t) (dot_comm v f) s)))))
    | inr b ↦ inr (
      b.ray,
      (
          let seen : dot b.ray v <ℤ pos 0 = subst (λ t. t <ℤ pos 0) (dot_comm v b.ray) b.under in
          let z = meet b.ray x v in
          record {
            has = b.fact;
            seen = seen;
            under = b.value;
            met = rays.description.farkas z (replaced.meet_width w b.ray x v lx lv) (Each-from_contains (λ g. pos 0 ≤ℤ dot g z) facets (λ g k. by_lt_z (dot v g) (pos 0)
                (λ (s : dot v g <ℤ pos 0).
                let best = Each-contains (λ m. dot v m <ℤ pos 0 → pos 0 ≤ℤ (neg_ℤ (dot v b.ray) *ℤ dot m x +ℤ neg_ℤ (dot b.ray x) *ℤ neg_ℤ (dot v m))) facets g b.best k s in
                let ring = ring_best (dot v b.ray) (dot g x) (dot b.ray x) (dot v g) in
                let at = meet_at w b.ray g x v lx lv in
                let c = ap (λ t. dot b.ray x *ℤ t) (dot_comm v g) in
                let d = ap (λ t. neg_ℤ t *ℤ dot g x) (dot_comm v b.ray) in
                omega (arith, sums, best, ring, at, c, d))
                (λ (s : pos 0 ≤ℤ dot v g). nonneg_met b.ray g x b.fact k lx i seen (subst (λ t. pos 0 ≤ℤ t) (dot_comm v g) s))));
          }
          ),
    )
  ]

-- ---- the cell in which it is met lies on the facet
-- the forms that a generic vector avoids: for each facet and each form the sum at which v is 0
abbrev pub meets_with : Vector → List Vector → List Vector → List Vector
meets_with v [] forms = []
meets_with v (f ∷ facets) forms = map (λ l. meet v l f) forms ++ meets_with v facets forms

meets_widths : (w : ℕ) (v : Vector) (facets forms : List Vector) → Each (HasWidth w) facets → Each (HasWidth w) forms → Each (HasWidth w) (meets_with v facets forms)
meets_widths w v [] forms l k = tt
meets_widths w v (f ∷ facets) forms l k = each_append (HasWidth w) (map (λ a. meet v a f) forms) (meets_with v facets forms)
    (each_of_map (λ a. meet v a f) (HasWidth w) forms (each_map (HasWidth w) (λ a. HasWidth w (meet v a f)) forms (λ a h. meet_width w v a f h l.0) k)) (meets_widths w v facets forms l.1 k)

meets_have : (P : Vector → Type 0) (v f : Vector) (facets forms : List Vector) → Each P (meets_with v facets forms) → Contains facets f → Each (λ l. P (meet v l f)) forms
meets_have P v f [] forms h k = absurd (contains_none f k)
meets_have P v f (g ∷ facets) forms h k = elim (contains_cases g facets f k) [
  | inl e ↦ subst (λ t. Each (λ l. P (meet v l t)) forms) e (map_each (λ l. meet v l g) P forms (each_left P (map (λ l. meet v l g) forms) (meets_with v facets forms) h))
  | inr m ↦ meets_have P v f facets forms (each_right P (map (λ l. meet v l g) forms) (meets_with v facets forms) h) m
]

forms_widths : (w : ℕ) (cells : List (List Pair)) → Each (IsCell w) cells → Each (HasWidth w) (all_forms cells)
forms_widths w [] k = tt
forms_widths w (c ∷ cells) k = each_append (HasWidth w) (map (λ (p : Pair). p.form) c) (all_forms cells) (each_of_map (λ (p : Pair). p.form) (HasWidth w) c (each_map (HasWidths w) (λ (p : Pair). HasWidth w p.form) c (λ p h. h.form_width) k.0.dual.widths)) (forms_widths w cells k.1)

-- a pair of the cell whose form is 0 at z
pub record SomeZero (z : Vector) (c : List Pair) : Type 0 where
  pub pair : Pair
  pub has : Contains c pair
  pub zero : dot pair.form z ≡ pos 0

within_or_zero : (z : Vector) (c : List Pair) → IsAt z c → IsWithin z c ⊎ SomeZero z c
within_or_zero z [] h = inl tt
within_or_zero z (p ∷ c) h = elim (int_is_zero (dot p.form z)) [
  | inl e ↦ inr (record { pair = p; has = contains_here p c; zero = e })
  | inr n ↦ elim (within_or_zero z c h.1) [
    | inl all ↦ inl ((let a = h.0 in omega (arith, sums)), all)
    | inr s ↦ inr (record { pair = s.pair; has = contains_there p s.pair c s.has; zero = s.zero })
  ]
]

-- no cell of the list has z inside where a form is 0 that is at least 0 on the list, and not 0 at all
zero_not_inside : (w : ℕ) (vs : List Vector) (f z v : Vector) (c : List Pair) → IsCell w c → IsOf vs c → HasWidth w z → HasWidth w v → Each (λ u. pos 0 ≤ℤ dot f u) vs → dot f z ≡ pos 0 → dot f v <ℤ pos 0 → IsWithin z c → ⊥
zero_not_inside w vs f z v c k o lz lv n e s h =
    let lc = widths_of_vectors w c k.dual.widths in
    let nc : Each (λ u. pos 0 ≤ℤ dot f u) (vectors_of c) = each_of_map (λ (p : Pair). p.vector) (λ u. pos 0 ≤ℤ dot f u) c (each_map (λ (p : Pair). Contains vs p.vector) (λ (p : Pair). pos 0 ≤ℤ dot f p.vector) c (λ p m. Each-contains (λ u. pos 0 ≤ℤ dot f u) vs p.vector n m) o) in
    let all = zero_of_inside w f (vectors_of c) z lc nc ((cell_inside w c z k lz).1 h) e in
    let zero = zero_on_span f w (vectors_of c) v lc all (cell_span w c v k.dual k.only_zero lv) in
    omega (arith, sums)

ring_parallel : (lv fx fv lx : ℤ) → lv *ℤ fx +ℤ neg_ℤ fv *ℤ lx ≡ pos 0 → neg_ℤ fv *ℤ lx ≡ neg_ℤ lv *ℤ fx
ring_parallel lv fx fv lx e = let n = simp ring_z at e in simp ring_z (omega (arith, sums, n))

-- a form of a cell whose sum with the facet is the zero form is the facet
form_is_facet : (w : ℕ) (f v : Vector) (p : Pair) → HasWidths w p → pos 0 <ℤ divisor p → IsPrimitive p.form → HasWidth w f → IsPrimitive f → dot f v <ℤ pos 0 → pos 0 ≤ℤ dot f p.vector → IsZero (meet v p.form f) → p.form ≡ f
form_is_facet w f v p lp d pp lf pf s n z =
    let e : (x : Vector) → dot p.form v *ℤ dot f x +ℤ neg_ℤ (dot f v) *ℤ dot p.form x ≡ pos 0 = λ x. sym (meet_form w v p.form f x lp.form_width lf) ∙ dot_comm (meet v p.form f) x ∙ dot-IsZero x (meet v p.form f) z in
    let under : dot p.form v <ℤ pos 0 = by_lt_z (dot p.form v) (pos 0) (λ (h : dot p.form v <ℤ pos 0). h) (λ (h : pos 0 ≤ℤ dot p.form v).
    let a = mul-nonneg (dot p.form v) (dot f p.vector) h n in
    let b = mul_pos (neg_ℤ (dot f v)) (divisor p) (omega (arith, sums)) d in
    absurd (omega (arith, sums, e p.vector, a, b))) in
    primitive_unique w (neg_ℤ (dot f v)) (neg_ℤ (dot p.form v)) p.form f (omega (arith, sums)) (omega (arith, sums)) lp.form_width lf
    (same_forms w _ _ (length-scaled w (neg_ℤ (dot f v)) p.form lp.form_width) (length-scaled w (neg_ℤ (dot p.form v)) f lf)
    (λ x lx. scaled-dot (neg_ℤ (dot f v)) p.form x ∙ ring_parallel (dot p.form v) (dot f x) (dot f v) (dot p.form x) (e x) ∙ sym (scaled-dot (neg_ℤ (dot p.form v)) f x)))
    pp pf

form_contained : (f : Vector) (c : List Pair) (p : Pair) → Contains c p → p.form ≡ f → Contains (map (λ (q : Pair). q.form) c) f
form_contained f [] p k e = absurd (contains_none p k)
form_contained f (q ∷ c) p k e = elim (contains_cases q c p k) [
  | inl h ↦ subst (Contains (q.form ∷ map (λ (r : Pair). r.form) c)) (ap (λ (r : Pair). r.form) h ∙ e) (contains_here q.form (map (λ (r : Pair). r.form) c))
  | inr m ↦ contains_there q.form f (map (λ (r : Pair). r.form) c) (form_contained f c p m e)
]

cell_divisors : (w : ℕ) (c : List Pair) → IsCell w c → Each (λ (p : Pair). pos 0 <ℤ divisor p) c
cell_divisors w c k = divisors_positive c k.dual.dual

-- ---- the step
-- what stands beside an element of the one list in the other
pub record Beside {A B : Type 0} (R : A → B → Type 0) (x : A) (ys : List B) : Type 0 where
  pub other : B
  pub has : Contains ys other
  pub related : R x other

pub beside : {A B : Type 0} (R : A → B → Type 0) (xs : List A) (ys : List B) (x : A) → AllZip R xs ys → Contains xs x → Beside R x ys
beside R [] ys x z k = absurd (contains_none x k)
beside R (a ∷ xs) [] x z k = absurd z
beside R (a ∷ xs) (b ∷ ys) x z k = elim (contains_cases a xs x k) [
  | inl e ↦ record { other = b; has = contains_here b ys; related = subst (λ t. R t b) e z.0 }
  | inr m ↦ (let r = beside R xs ys x z.1 m in record { other = r.other; has = contains_there b r.other ys r.has; related = r.related })
]

module _ (w : ℕ) (vs facets : List Vector) (v : Vector) (cells new : List (List Pair)) (rays : AreExtremeRays w vs facets) (lv : HasWidth w v) (old : AreCells w vs cells) (step : IsPlacingStep v facets cells new) where
  lvs : Each (HasWidth w) vs
  lvs = rays.description.row_widths

  cell_of : (c : List Pair) → Contains cells c → IsCell w c
  cell_of c k = Each-contains (IsCell w) cells c old.each k

  list_of : (c : List Pair) → Contains cells c → IsOf vs c
  list_of c k = Each-contains (IsOf vs) cells c old.of_list k

  -- the cell in which the facet is met lies on the facet
  on_facet : (x f : Vector) (c : List Pair) → IsGeneric w (v ∷ vs) (meets_with v facets (all_forms cells)) x → IsLastMet w vs facets v x f → Contains cells c → SomeZero (meet f x v) c → IsSource v facets cells (record { facet = f; cell = c })
  on_facet x f c g m kc s =
      let p = s.pair in
      let k = cell_of c kc in
      let lp = Each-contains (HasWidths w) c p k.dual.widths s.has in
      let lf = facet_width w vs facets v rays lv f m.has in
      let pf = Each-contains IsPrimitive facets f rays.primitive m.has in
      let avoid = Each-contains (λ (q : Pair). dot (meet v q.form f) x ≡ pos 0 → IsZero (meet v q.form f)) c p
      (of_all_forms (λ l. dot (meet v l f) x ≡ pos 0 → IsZero (meet v l f)) cells c (meets_have (λ a. dot a x ≡ pos 0 → IsZero a) v f facets (all_forms cells) g.avoids m.has) kc) s.has in
      let z = avoid (meet_form_at w v p.form f x lp.form_width lf g.width lv ∙ s.zero) in
      let d = Each-contains (λ (q : Pair). pos 0 <ℤ divisor q) c p (cell_divisors w c k) s.has in
      let n = Each-contains (λ u. pos 0 ≤ℤ dot f u) vs p.vector (facet_nonneg w vs facets v rays lv f m.has) (Each-contains (λ (q : Pair). Contains vs q.vector) c p (list_of c kc) s.has) in
      record {
        has_facet = m.has;
        seen = m.seen;
        has_cell = kc;
        on_facet = form_contained f c p s.has (form_is_facet w f v p lp d (Each-contains (λ (q : Pair). IsPrimitive q.form) c p k.primitive s.has) lf pf m.seen n z);
      }

  beyond : (x f : Vector) → IsGeneric w (v ∷ vs) (meets_with v facets (all_forms cells)) x → IsLastMet w vs facets v x f → HasCellAt new x
  beyond x f g m =
      let z = meet f x v in
      let lz = replaced.meet_width w f x v g.width lv in
      let h = old.covers z lz m.met in
      let c = h.cell in
      let k = cell_of c h.has in
      elim (within_or_zero z c h.at) [
        | inl inside ↦ absurd (zero_not_inside w vs f z v c k (list_of c h.has) lz lv (facet_nonneg w vs facets v rays lv f m.has) (meet_on w f x v g.width lv) m.seen inside)
        | inr s ↦ (
            let source : Source = record { facet = f; cell = c } in
            let b = beside (λ (t : Source) d. IsReplaced t.facet v t.cell d) step.are_added.sources step.added source step.are_added.replaced (step.are_added.lists.each source (on_facet x f c g m h.has s)) in
            let under = m.under in
            record {
              cell = b.other;
              has = subst (λ t. Contains t b.other) (sym step.whole) (Contains-append_right cells step.added b.other b.has);
              at = replaced_at w f v c b.other x k lv g.width b.related (omega (arith, sums)) h.at;
            })
      ]

  holds_generic : (x : Vector) → IsGeneric w (v ∷ vs) (meets_with v facets (all_forms cells)) x → HasCellAt new x
  holds_generic x g = elim (old_or_last_met w vs facets v rays lv x g.width g.in_cone) [
    | inl i ↦ (let h = old.covers x g.width i in record { cell = h.cell; has = subst (λ t. Contains t h.cell) (sym step.whole) (Contains-append_left cells step.added h.cell h.has); at = h.at })
    | inr m ↦ beyond x m.0 g m.1
  ]

  more_of : (c : List Pair) → IsOf vs c → IsOf (v ∷ vs) c
  more_of c o = each_map (λ (p : Pair). Contains vs p.vector) (λ (p : Pair). Contains (v ∷ vs) p.vector) c (λ p k. contains_there v p.vector vs k) o

  spanning : AreSpanning w (v ∷ vs)
  spanning =
      let h = old.covers (zero_vector w) (length-zero_vector w) (IsInCone-zero w vs lvs) in
      spanning_by_cell w (v ∷ vs) h.cell (cell_of h.cell h.has) (more_of h.cell (list_of h.cell h.has))

  added_cells : (ss : List Source) (ds : List (List Pair)) → Each (IsSource v facets cells) ss → AllZip (λ (t : Source) d. IsReplaced t.facet v t.cell d) ss ds → Each (IsCell w) ds
  added_cells [] [] is z = tt
  added_cells [] (d ∷ ds) is z = absurd z
  added_cells (s ∷ ss) [] is z = tt
  added_cells (s ∷ ss) (d ∷ ds) is z = (replaced_cell w s.facet v s.cell d (cell_of s.cell is.0.has_cell) lv is.0.seen z.0, added_cells ss ds is.1 z.1)

  added_of : (ss : List Source) (ds : List (List Pair)) → Each (IsSource v facets cells) ss → AllZip (λ (t : Source) d. IsReplaced t.facet v t.cell d) ss ds → Each (IsOf (v ∷ vs)) ds
  added_of [] [] is z = tt
  added_of [] (d ∷ ds) is z = absurd z
  added_of (s ∷ ss) [] is z = tt
  added_of (s ∷ ss) (d ∷ ds) is z = (replaced_of vs s.facet v s.cell d z.0 (list_of s.cell is.0.has_cell), added_of ss ds is.1 z.1)

  -- a step of placing leads from the cells of some vectors to those of these and a new one
  pub step_cells : AreCells w (v ∷ vs) new
  step_cells = record {
    each = subst (Each (IsCell w)) (sym step.whole) (each_append (IsCell w) cells step.added old.each (added_cells step.are_added.sources step.added step.are_added.lists.only step.are_added.replaced));
    of_list = subst (Each (IsOf (v ∷ vs))) (sym step.whole) (each_append (IsOf (v ∷ vs)) cells step.added (each_map (IsOf vs) (IsOf (v ∷ vs)) cells more_of old.of_list) (added_of step.are_added.sources step.added step.are_added.lists.only step.are_added.replaced));
    covers = generic_to_all w (v ∷ vs) (meets_with v facets (all_forms cells)) new (lv, lvs) (meets_widths w v facets (all_forms cells) rays.description.ray_widths (forms_widths w cells old.each)) spanning holds_generic;
    apart = step_apart w vs facets v cells lvs lv (Each-from_contains (λ f. Each (λ u. pos 0 ≤ℤ dot f u) vs) facets (λ f k. facet_nonneg w vs facets v rays lv f k)) old.each old.of_list old.apart new step;
  }
