-- No two simplices overlap inside after a step of placing.
use Rattle.std.proofs.Common.{◌≡◌, ℕ, List, ◌∷◌, ◌++◌, length, map, ℤ, pos, negsuc, ◌+ℤ◌, ◌*ℤ◌, neg_ℤ, ◌≤ℤ◌, ◌<ℤ◌, sym, ap, ◌∙◌, subst, arith}
use Rattle.std.proofs.lemmas.Int.{ints, by_lt_z}
use Rattle.std.proofs.lemmas.List.{length-map}
use Rattle.std.proofs.Math.IntN.{*ℤ-zero}
use Rattle.std.specs.List.{AllByRecursion as Each, Contains}
use Rattle.nz_spec.specs.Vectors.{Vector, dot, plus, scaled, HasWidth, IsPrimitive}
use Rattle.nz_spec.specs.Sums.{IsInSpan}
use Rattle.nz_spec.proofs.IntLaws.{mul-nonneg}
use Rattle.nz_spec.proofs.SumLaws.{combination-scaled}
use Rattle.nz_spec.proofs.VectorLaws.{dot-scaled}
use Rattle.nz_spec.proofs.ListLaws.{Each-contains}
use Rattle.nz_linear.specs.Cones.{meet}
use Rattle.nz_linear.specs.DualPairs.{Pair, divisor, IsApart, HasWidths, IsDualPair, product, spread, spread_factors}
use Rattle.nz_linear.proofs.Ring.{sums, ring_z}
use Rattle.nz_linear.proofs.Signs.{mul_pos, mul_le}
use Rattle.nz_linear.proofs.Lists.{each_map, each_map2, each_insert, each_remove, each_of_map, map_each}
use Rattle.nz_linear.proofs.VectorLaws.{length-plus, length-scaled, dot-plus, scaled-dot, zero-scaled, zero-plus}
use Rattle.nz_linear.proofs.DualPairs.{product_positive, length-spread, spread_is, length-factors, widths_of_vectors, expansion, multiple_of_form, dual_split}
use Rattle.nz_linear.proofs.DualCone.{same_forms}
use Rattle.nz_linear.proofs.Division.{primitive_unique}
use Rattle.nz_linear.proofs.Elimination.{all_of_width, complete_of}
use Rattle.nz_linear.proofs.Spans.{in_span}
use Rattle.nz_linear.proofs.Splitting.{enough_of}
use Rattle.nz_linear.proofs.SimplexCones.{inside_by_forms, zero_of_inside}
use Rattle.nz_cover.specs.Cells.{IsCell, IsAt, IsWithin, IsOf, AreApart}
use Rattle.nz_cover.specs.Steps.{IsReplaced}
use Rattle.nz_cover.proofs.CellLaws.{vectors_of, within_at, nonneg_at}
use Rattle.nz_cover.proofs.ReplacedCells.{meet_at, meet_width, replaced_within}

-- ---- one pair of a cell taken to the head
pub cell_head : (w : ℕ) (c before after : List Pair) (p : Pair) → IsCell w c → c ≡ before ++ p ∷ after → IsCell w (p ∷ (before ++ after))
cell_head w c before after p k e =
    let m = subst (IsCell w) e k in
    record {
      dual = record { widths = each_remove (HasWidths w) p before after m.dual.widths; dual = dual_split p before after m.dual.dual };
      only_zero = λ x lx h. m.only_zero x lx (each_insert (λ (q : Pair). dot q.form x ≡ pos 0) p before after h);
      primitive = each_remove (λ (q : Pair). IsPrimitive q.form) p before after m.primitive;
    }

others_dual : (w : ℕ) (p : Pair) (ps : List Pair) → IsCell w (p ∷ ps) → IsDualPair w ps
others_dual w p ps k = record { widths = k.dual.widths.1; dual = k.dual.dual.2 }

-- where a form of the cell is 0, the other vectors span
pub facet_span : (w : ℕ) (p : Pair) (ps : List Pair) (x : Vector) → IsCell w (p ∷ ps) → HasWidth w x → dot p.form x ≡ pos 0 → IsInSpan w (vectors_of ps) x
facet_span w p ps x k l z =
    let e = expansion w (HasWidth w) (p ∷ ps) x (all_of_width w) k.dual (complete_of w (p ∷ ps) k.dual.widths k.only_zero) l in
    let s = spread w ps x in
    let ls = length-spread w ps x k.dual.widths.1 in
    let gone : spread w (p ∷ ps) x ≡ scaled (divisor p) s =
    ap (λ t. plus (scaled (product ps *ℤ t) p.vector) (scaled (divisor p) s)) z
    ∙ ap (λ t. plus (scaled t p.vector) (scaled (divisor p) s)) (*ℤ-zero (product ps))
    ∙ ap (λ t. plus t (scaled (divisor p) s)) (zero-scaled w p.vector k.dual.widths.0.vector_width)
    ∙ zero-plus w (scaled (divisor p) s) (length-scaled w (divisor p) s ls) in
    in_span w (vectors_of ps) x (product (p ∷ ps)) (scaled (divisor p) (spread_factors ps x)) (product_positive (p ∷ ps) k.dual.dual)
    (length-scaled (length ps) (divisor p) (spread_factors ps x) (length-factors ps x) ∙ sym (length-map ps (λ (q : Pair). q.vector)))
    (combination-scaled w (divisor p) (spread_factors ps x) (vectors_of ps) ∙ ap (scaled (divisor p)) (sym (spread_is w ps x)) ∙ sym gone ∙ sym e)

-- a form that is at least 0 on the vectors of a facet, and 0 inside it, is 0 on them
pub zero_on_facet : (w : ℕ) (g m : Vector) (p : Pair) (ps : List Pair) → IsCell w (p ∷ ps) → HasWidth w m → dot p.form m ≡ pos 0 → IsWithin m ps → dot g m ≡ pos 0 → Each (λ (q : Pair). pos 0 ≤ℤ dot g q.vector) ps → Each (λ (q : Pair). dot g q.vector ≡ pos 0) ps
zero_on_facet w g m p ps k l z h e n =
    let i = (inside_by_forms w ps m (others_dual w p ps k) l (facet_span w p ps m k l z)).1 h in
    map_each (λ (q : Pair). q.vector) (λ u. dot g u ≡ pos 0) ps
    (zero_of_inside w g (vectors_of ps) m (widths_of_vectors w ps k.dual.widths.1) (each_of_map (λ (q : Pair). q.vector) (λ u. pos 0 ≤ℤ dot g u) ps n) i e)

factor_positive : (d a b c : ℤ) → pos 0 <ℤ d → a <ℤ pos 0 → b <ℤ pos 0 → d *ℤ a ≡ c *ℤ b → pos 0 <ℤ c
factor_positive d a b c pd na nb e = by_lt_z (pos 0) c (λ (h : pos 0 <ℤ c). h)
    (λ (h : c ≤ℤ pos 0).
    let k = mul_pos d (neg_ℤ a) pd (omega (arith, sums)) in
    let m = mul-nonneg (neg_ℤ c) (neg_ℤ b) (omega (arith, sums)) (omega (arith, sums)) in
    let kk = simp ring_z at k in
    let mm = simp ring_z at m in
    let ee = simp ring_z at e in
    absurd (omega (arith, sums, kk, mm, ee)))

-- a primitive form that is 0 on the facet, and negative where the form of the facet is, is that form
pub same_facet : (w : ℕ) (g v : Vector) (p : Pair) (ps : List Pair) → IsCell w (p ∷ ps) → HasWidth w g → IsPrimitive g → HasWidth w v → Each (λ (q : Pair). dot g q.vector ≡ pos 0) ps → dot g v <ℤ pos 0 → dot p.form v <ℤ pos 0 → g ≡ p.form
same_facet w g v p ps k lg pg lv z ng np =
    let lp = k.dual.widths.0 in
    let along : (x : Vector) → HasWidth w x → divisor p *ℤ dot g x ≡ dot g p.vector *ℤ dot p.form x = λ x lx. multiple_of_form w (HasWidth w) p ps g x (all_of_width w) k.dual (complete_of w (p ∷ ps) k.dual.widths k.only_zero) lx z in
    let up = factor_positive (divisor p) (dot g v) (dot p.form v) (dot g p.vector) k.dual.dual.0 ng np (along v lv) in
    primitive_unique w (divisor p) (dot g p.vector) g p.form k.dual.dual.0 up lg lp.form_width
    (same_forms w _ _ (length-scaled w (divisor p) g lg) (length-scaled w (dot g p.vector) p.form lp.form_width) (λ x lx. scaled-dot (divisor p) g x ∙ along x lx ∙ sym (scaled-dot (dot g p.vector) p.form x)))
    pg k.primitive.0

-- ---- two cells on one facet
pushed_value : (n a b : ℤ) → pos 1 ≤ℤ n → pos 0 <ℤ a → neg_ℤ b <ℤ n → pos 0 <ℤ (n *ℤ a +ℤ b)
pushed_value n a b h k l = let pn : pos 0 ≤ℤ n = omega (arith, sums) in let pa : pos 1 ≤ℤ a = omega (arith, sums) in let m = mul_le n (pos 1) a pn pa in let mm = simp ring_z at m in omega (arith, sums, mm)

-- a vector inside a facet of both, pushed a little towards the vector of the first that is not on it, is inside both
pub pushed_within : (w : ℕ) (m u : Vector) (n : ℤ) (qs : List Pair) → HasWidth w m → HasWidth w u → pos 1 ≤ℤ n → IsWithin m qs → Each (λ (q : Pair). neg_ℤ (dot q.form u) <ℤ n) qs → IsWithin (plus (scaled n m) u) qs
pushed_within w m u n qs lm lu pn h b =
    each_map2 (λ (q : Pair). pos 0 <ℤ dot q.form m) (λ (q : Pair). neg_ℤ (dot q.form u) <ℤ n) (λ (q : Pair). pos 0 <ℤ dot q.form (plus (scaled n m) u)) qs
    (λ q k l. let e = dot-plus w q.form (scaled n m) u (length-scaled w n m lm) lu in let s = dot-scaled q.form n m in let r = pushed_value n (dot q.form m) (dot q.form u) pn k l in omega (arith, sums)) h b

pushed_over : (w : ℕ) (f m u : Vector) (n : ℤ) → HasWidth w m → HasWidth w u → dot f m ≡ pos 0 → pos 0 <ℤ dot f u → pos 0 <ℤ dot f (plus (scaled n m) u)
pushed_over w f m u n lm lu z p = let e = dot-plus w f (scaled n m) u (length-scaled w n m lm) lu in let s = dot-scaled f n m in let g = ap (λ t. n *ℤ t) z in omega (arith, sums, e, s, g, *ℤ-zero n)

pub inside_both : (w : ℕ) (m : Vector) (p q : Pair) (ps qs : List Pair) → HasWidth w m → IsCell w (p ∷ ps) → q.form ≡ p.form → dot p.form m ≡ pos 0 → IsWithin m ps → IsWithin m qs
    → (y : Vector) × HasWidth w y × IsWithin y (p ∷ ps) × IsWithin y (q ∷ qs)
inside_both w m p q ps qs lm k e z hp hq =
    let u = p.vector in
    let lu = k.dual.widths.0.vector_width in
    let r = enough_of (map (λ (s : Pair). s.form) qs) (scaled (negsuc 0) u) in
    let n = r.0 +ℤ pos 1 in
    let pn : pos 1 ≤ℤ n = (let h = r.1 in omega (arith, sums)) in
    let y = plus (scaled n m) u in
    let bq : Each (λ (s : Pair). neg_ℤ (dot s.form u) <ℤ n) qs = each_map (λ (s : Pair). dot s.form (scaled (negsuc 0) u) ≤ℤ r.0) (λ (s : Pair). neg_ℤ (dot s.form u) <ℤ n) qs
    (λ s h. let d = dot-scaled s.form (negsuc 0) u in omega (arith, ints)) (map_each (λ (s : Pair). s.form) (λ a. dot a (scaled (negsuc 0) u) ≤ℤ r.0) qs r.2) in
    let bp : Each (λ (s : Pair). neg_ℤ (dot s.form u) <ℤ n) ps = each_map (IsApart p) (λ (s : Pair). neg_ℤ (dot s.form u) <ℤ n) ps (λ s a. let b = a.back in omega (arith, sums)) k.dual.dual.1 in
    let over = pushed_over w p.form m u n lm lu z k.dual.dual.0 in (
      y,
      length-plus w (scaled n m) u (length-scaled w n m lm) lu,
      (over, pushed_within w m u n ps lm lu pn hp bp),
      (rw e over, pushed_within w m u n qs lm lu pn hq bq),
    )

-- ---- the cells of one step
ring_zero : (a b : ℤ) → a *ℤ b +ℤ neg_ℤ b *ℤ a ≡ pos 0
ring_zero a b = simp ring_z (omega (arith, sums))

ring_opposite : (fx fv gx gv : ℤ) → (fx *ℤ gv +ℤ neg_ℤ fv *ℤ gx) +ℤ (gx *ℤ fv +ℤ neg_ℤ gv *ℤ fx) ≡ pos 0
ring_opposite fx fv gx gv = simp ring_z (omega (arith, sums))

-- the line from x along v meets the facet where the facet is 0
pub meet_on : (w : ℕ) (f x v : Vector) → HasWidth w x → HasWidth w v → dot f (meet f x v) ≡ pos 0
meet_on w f x v lx lv = meet_at w f f x v lx lv ∙ ring_zero (dot f x) (dot f v)

-- a vector at which the one form is 0 and the others are above 0 is in the cell
at_facet : (m : Vector) (c before after : List Pair) (p : Pair) → c ≡ before ++ p ∷ after → dot p.form m ≡ pos 0 → IsWithin m (before ++ after) → IsAt m c
at_facet m c before after p e z h = subst (IsAt m) (sym e) (each_insert (λ (q : Pair). pos 0 ≤ℤ dot q.form m) p before after (omega (arith, sums), within_at m (before ++ after) h))

within_of_head : (y : Vector) (c before after : List Pair) (p : Pair) → c ≡ before ++ p ∷ after → IsWithin y (p ∷ (before ++ after)) → IsWithin y c
within_of_head y c before after p e h = subst (IsWithin y) (sym e) (each_insert (λ (q : Pair). pos 0 <ℤ dot q.form y) p before after h)

others_nonneg : (vs : List Vector) (g : Vector) (c before after : List Pair) (p : Pair) → c ≡ before ++ p ∷ after → IsOf vs c → Each (λ u. pos 0 ≤ℤ dot g u) vs → Each (λ (q : Pair). pos 0 ≤ℤ dot g q.vector) (before ++ after)
others_nonneg vs g c before after p e h n =
    each_map (λ (q : Pair). Contains vs q.vector) (λ (q : Pair). pos 0 ≤ℤ dot g q.vector) (before ++ after) (λ q k. Each-contains (λ u. pos 0 ≤ℤ dot g u) vs q.vector n k)
    (each_remove (λ (q : Pair). Contains vs q.vector) p before after (subst (IsOf vs) e h)).1

-- an old cell and a new one: the facet is at least 0 in the old, and below 0 inside the new
pub old_new_apart : (w : ℕ) (vs : List Vector) (f v : Vector) (b c d : List Pair) → Each (HasWidth w) vs → HasWidth w v → IsCell w b → IsOf vs b → IsCell w c → Each (λ u. pos 0 ≤ℤ dot f u) vs → IsReplaced f v c d → AreApart w b d
old_new_apart w vs f v b c d lvs lv kb ob kc n r = λ x lx hb hd.
    let i = replaced_within w f v c d x kc lv lx r hd in
    let u = i.under in
    let o = nonneg_at w vs f b x lvs kb ob lx n (within_at x b hb) in
    omega (arith, sums)

-- two new cells: inside both only where they are on one facet, and then the old cells there overlap
pub new_new_apart : (w : ℕ) (vs : List Vector) (f g v : Vector) (b c d e : List Pair) → Each (HasWidth w) vs → HasWidth w v → IsCell w b → IsOf vs b → IsCell w c → IsOf vs c
    → Each (λ u. pos 0 ≤ℤ dot f u) vs → Each (λ u. pos 0 ≤ℤ dot g u) vs → dot f v <ℤ pos 0 → dot g v <ℤ pos 0 → IsReplaced f v b d → IsReplaced g v c e → (f ≡ g → AreApart w b c) → AreApart w d e
new_new_apart w vs f g v b c d e lvs lv kb ob kc oc nf ng sf sg r s apart = λ x lx hd he.
    let i = replaced_within w f v b d x kb lv lx r hd in
    let j = replaced_within w g v c e x kc lv lx s he in
    let p = r.across in
    let q = s.across in
    let ps = r.before ++ r.after in
    let qs = s.before ++ s.after in
    let hp : IsCell w (p ∷ ps) = cell_head w b r.before r.after p kb r.split in
    let hq : IsCell w (q ∷ qs) = cell_head w c s.before s.after q kc s.split in
    let m = meet f x v in
    let n = meet g x v in
    let lm = meet_width w f x v lx lv in
    let ln = meet_width w g x v lx lv in
    let pm : dot p.form m ≡ pos 0 = ap (λ t. dot t m) r.is_facet ∙ meet_on w f x v lx lv in
    let qn : dot q.form n ≡ pos 0 = ap (λ t. dot t n) s.is_facet ∙ meet_on w g x v lx lv in
    let gm = nonneg_at w vs g b m lvs kb ob lm ng (at_facet m b r.before r.after p r.split pm i.on) in
    let fn = nonneg_at w vs f c n lvs kc oc ln nf (at_facet n c s.before s.after q s.split qn j.on) in
    let zero : dot g m ≡ pos 0 = omega (arith, sums, gm, fn, meet_at w f g x v lx lv, meet_at w g f x v lx lv, ring_opposite (dot f x) (dot f v) (dot g x) (dot g v)) in
    let on = zero_on_facet w g m p ps hp lm pm i.on zero (others_nonneg vs g b r.before r.after p r.split ob ng) in
    let lg : HasWidth w g = subst (HasWidth w) s.is_facet hq.dual.widths.0.form_width in
    let pg : IsPrimitive g = subst IsPrimitive s.is_facet hq.primitive.0 in
    let pv : dot p.form v <ℤ pos 0 = subst (λ t. dot t v <ℤ pos 0) (sym r.is_facet) sf in
    let is_p : g ≡ p.form = same_facet w g v p ps hp lg pg lv on sg pv in
    let same : g ≡ f = is_p ∙ r.is_facet in
    let jm : IsWithin m qs = subst (λ t. IsWithin (meet t x v) qs) same j.on in
    let y = inside_both w m p q ps qs lm hp (s.is_facet ∙ is_p) pm i.on jm in
    apart (sym same) y.0 y.1 (within_of_head y.0 b r.before r.after p r.split y.2) (within_of_head y.0 c s.before s.after q s.split y.3)
