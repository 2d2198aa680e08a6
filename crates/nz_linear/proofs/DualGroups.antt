-- A dual pair as the base of a group: its forms tell the group, and clearing, leaving out and multiplying keep it dual.
use Rattle.std.proofs.Common.{◌≡◌, ◌↔◌, ℕ, suc, List, [], ◌∷◌, ◌++◌, length, map, ℤ, pos, negsuc, ◌+ℤ◌, ◌*ℤ◌, neg_ℤ, ◌<ℤ◌, refl, sym, ap, ap₂, ◌∙◌, arith}
use Rattle.std.proofs.lemmas.Int.{ints}
use Rattle.std.proofs.lemmas.List.{length-map}
use Rattle.std.proofs.Math.IntN.{*ℤ-zero}
use Rattle.std.specs.List.{AllByRecursion as Each, AllZip}
use Rattle.nz_spec.specs.Vectors.{Vector, dot, plus, scaled, combination, HasWidth, IsMultipleOf}
use Rattle.nz_spec.specs.Sums.{IsInGroup, IsInSpan}
use Rattle.nz_spec.proofs.SumLaws.{length-combination, IsInSpan-group}
use Rattle.nz_spec.proofs.VectorLaws.{dot-scaled, scaled-scaled, one-scaled}
use Rattle.nz_linear.specs.DualPairs.{Pair, pair_of, divisor, IsApart, HasWidths, IsDual, IsDualPair, AllVanish}
use Rattle.nz_linear.proofs.Ring.{sums, ring_z, zero_sum}
use Rattle.nz_linear.proofs.Signs.{mul_pos}
use Rattle.nz_linear.proofs.Lists.{each_map, each_map2, each_insert, zip_left, zip_both}
use Rattle.nz_linear.proofs.VectorLaws.{length-plus, length-scaled, dot-plus, plus-dot, scaled-dot, plus_is_zero}
use Rattle.nz_linear.proofs.DualPairs.{widths_of_vectors, dual_split}
use Rattle.nz_linear.proofs.Spans.{span_plus, span_scaled}
use Rattle.nz_linear.proofs.Floors.{values_at_combination, complete_on_span}

-- ---- the group by the forms
record Quotients (ps : List Pair) (x : Vector) : Type 0 where
  list : List ℤ
  size : length list ≡ length ps
  each : AllZip (λ (p : Pair) q. dot p.form x ≡ q *ℤ divisor p) ps list

quotients_of : (ps : List Pair) (x : Vector) → Each (λ (p : Pair). IsMultipleOf (divisor p) (dot p.form x)) ps → Quotients ps x
quotients_of [] x h = record { list = []; size = refl; each = tt }
quotients_of (p ∷ ps) x h = let t = quotients_of ps x h.1 in record { list = h.0.0 ∷ t.list; size = ap suc t.size; each = (h.0.1, t.each) }

-- a vector of the span is in the group just where each form has a multiple of its divisor
pub group_by_forms : (w : ℕ) (ps : List Pair) (x : Vector) → IsDualPair w ps → HasWidth w x → IsInSpan w (map (λ p. p.vector) ps) x → IsInGroup w (map (λ p. p.vector) ps) x ↔ Each (λ p. IsMultipleOf (divisor p) (dot p.form x)) ps
group_by_forms w ps x d l i = (to, from)
  where
    to : IsInGroup w (map (λ p. p.vector) ps) x → Each (λ (p : Pair). IsMultipleOf (divisor p) (dot p.form x)) ps
    to g = zip_left (λ (p : Pair) q. dot p.form (combination w g.factors (map (λ (r : Pair). r.vector) ps)) ≡ q *ℤ divisor p) (λ (p : Pair). IsMultipleOf (divisor p) (dot p.form x)) ps g.factors
        (λ p q e. (q, ap (dot p.form) (sym g.same) ∙ e)) (values_at_combination w ps g.factors (g.one_each ∙ length-map ps (λ (p : Pair). p.vector)) d.widths d.dual)

    from : Each (λ (p : Pair). IsMultipleOf (divisor p) (dot p.form x)) ps → IsInGroup w (map (λ p. p.vector) ps) x
    from h = by (quotients_of ps x h)
      where
        by : Quotients ps x → IsInGroup w (map (λ p. p.vector) ps) x
        by q =
            let us = map (λ (p : Pair). p.vector) ps in
            let s = combination w q.list us in
            let lw = widths_of_vectors w ps d.widths in
            let ls : HasWidth w s = length-combination w q.list us lw in
            let size : length q.list ≡ length us = q.size ∙ sym (length-map ps (λ (p : Pair). p.vector)) in
            let g : IsInGroup w us s = record { factors = q.list; one_each = size; same = refl } in
            let y = plus s (scaled (negsuc 0) x) in
            let lx : HasWidth w (scaled (negsuc 0) x) = length-scaled w (negsuc 0) x l in
            let in_span : IsInSpan w us y = span_plus w us s (scaled (negsuc 0) x) (IsInSpan-group w us s g) (span_scaled w us (negsuc 0) x i) in
            let zero : AllVanish ps y = zip_left (λ (p : Pair) k. (dot p.form s ≡ k *ℤ divisor p) × (dot p.form x ≡ k *ℤ divisor p)) (λ (p : Pair). dot p.form y ≡ pos 0) ps q.list
            (λ p k e. dot-plus w p.form s (scaled (negsuc 0) x) ls lx ∙ ap₂ ◌+ℤ◌ e.0 (dot-scaled p.form (negsuc 0) x ∙ ap (λ t. negsuc 0 *ℤ t) e.1) ∙ omega (arith, ints))
            (zip_both (λ (p : Pair) k. dot p.form s ≡ k *ℤ divisor p) (λ (p : Pair) k. dot p.form x ≡ k *ℤ divisor p) ps q.list (values_at_combination w ps q.list q.size d.widths d.dual) q.each) in
            let e = (complete_on_span w ps d).only_zero y (length-plus w s (scaled (negsuc 0) x) ls lx, in_span) zero in
            let same : s ≡ x = plus_is_zero w s (scaled (negsuc 0) x) ls lx e ∙ scaled-scaled (negsuc 0) (negsuc 0) x ∙ one-scaled x in
            record { factors = q.list; one_each = size; same = same }

-- ---- the base stays dual
pub dual_insert : (p : Pair) (xs ys : List Pair) → IsDual (p ∷ (xs ++ ys)) → IsDual (xs ++ (p ∷ ys))
dual_insert p [] ys d = d
dual_insert p (x ∷ xs) ys d =
    let a = d.1.0 in
    let r = dual_insert p xs ys (d.0, d.1.1, d.2.2) in
    (d.2.0, each_insert (IsApart x) p xs ys (record { there = a.back; back = a.there }, d.2.1), r)

-- a pair left out
pub dual_without : (p : Pair) (xs ys : List Pair) → IsDual (xs ++ (p ∷ ys)) → IsDual (xs ++ ys)
dual_without p xs ys d = (dual_split p xs ys d).2

-- a vector multiplied
pub dual_multiplied : (p : Pair) (ps : List Pair) (t : ℤ) → pos 0 <ℤ t → IsDual (p ∷ ps) → IsDual (pair_of p.form (scaled t p.vector) ∷ ps)
dual_multiplied p ps t h d = (
  rw (dot-scaled p.form t p.vector) (mul_pos t (divisor p) h d.0),
  each_map (IsApart p) (IsApart (pair_of p.form (scaled t p.vector))) ps (λ q a. record { there = a.there; back = dot-scaled q.form t p.vector ∙ ap (λ y. t *ℤ y) a.back ∙ *ℤ-zero t }) d.1,
  d.2,
)

-- a multiple of the vector of p added to that of r: the form of p changes so that the pair stays dual
pub dual_cleared : (w : ℕ) (p r : Pair) (ps : List Pair) (q a b : ℤ) → HasWidths w p → HasWidths w r → Each (HasWidths w) ps → pos 0 <ℤ a → a *ℤ divisor p ≡ b *ℤ divisor r → IsDual (p ∷ r ∷ ps)
    → IsDual (pair_of (plus (scaled a p.form) (scaled (neg_ℤ (q *ℤ b)) r.form)) p.vector ∷ pair_of r.form (plus r.vector (scaled q p.vector)) ∷ ps)
dual_cleared w p r ps q a b lp lr l pa e d = (
  rw (form p.vector) (rw own (mul_pos a (divisor p) pa d.0)),
  (
    record {
      there = form (plus r.vector (scaled q p.vector)) ∙ ap₂ (λ s t. a *ℤ s +ℤ neg_ℤ (q *ℤ b) *ℤ t) (vector p.form) (vector r.form) ∙ ap₂ (λ s t. a *ℤ (s +ℤ q *ℤ divisor p) +ℤ neg_ℤ (q *ℤ b) *ℤ (divisor r +ℤ q *ℤ t)) apart.there apart.back
          ∙ balance (divisor p) (divisor r) e;
      back = apart.back;
    },
    each_map2 (IsApart p) (IsApart r) (IsApart (pair_of new_form p.vector)) ps (λ s x y. record { there = form s.vector ∙ zero_sum a (neg_ℤ (q *ℤ b)) (dot p.form s.vector) (dot r.form s.vector) x.there y.there; back = x.back }) d.1.1 d.2.1,
  ),
  (
    rw (vector r.form) (rw (ap (λ t. divisor r +ℤ q *ℤ t) apart.back) (positive (divisor r) d.2.0)),
    each_map2 (IsApart p) (IsApart r) (IsApart (pair_of r.form (plus r.vector (scaled q p.vector)))) ps (λ s x y. record { there = y.there; back = vector s.form ∙ ap₂ (λ t u. t +ℤ q *ℤ u) y.back x.back ∙ omega (arith, sums, *ℤ-zero q) }) d.1.1 d.2.1,
    d.2.2,
  ),
)
  where
    new_form : Vector
    new_form = plus (scaled a p.form) (scaled (neg_ℤ (q *ℤ b)) r.form)

    apart : IsApart p r
    apart = d.1.0

    form : (x : Vector) → dot (plus (scaled a p.form) (scaled (neg_ℤ (q *ℤ b)) r.form)) x ≡ a *ℤ dot p.form x +ℤ neg_ℤ (q *ℤ b) *ℤ dot r.form x
    form x = plus-dot w (scaled a p.form) (scaled (neg_ℤ (q *ℤ b)) r.form) x (length-scaled w a p.form lp.form_width) (length-scaled w (neg_ℤ (q *ℤ b)) r.form lr.form_width) ∙ ap₂ ◌+ℤ◌ (scaled-dot a p.form x) (scaled-dot (neg_ℤ (q *ℤ b)) r.form x)

    vector : (f : Vector) → dot f (plus r.vector (scaled q p.vector)) ≡ dot f r.vector +ℤ q *ℤ dot f p.vector
    vector f = dot-plus w f r.vector (scaled q p.vector) lr.vector_width (length-scaled w q p.vector lp.vector_width) ∙ ap (λ t. dot f r.vector +ℤ t) (dot-scaled f q p.vector)

    own : a *ℤ divisor p +ℤ neg_ℤ (q *ℤ b) *ℤ dot r.form p.vector ≡ a *ℤ divisor p
    own = ap (λ t. a *ℤ divisor p +ℤ neg_ℤ (q *ℤ b) *ℤ t) apart.back ∙ omega (arith, sums, *ℤ-zero (neg_ℤ (q *ℤ b)))

    balance : (m n : ℤ) → a *ℤ m ≡ b *ℤ n → a *ℤ (pos 0 +ℤ q *ℤ m) +ℤ neg_ℤ (q *ℤ b) *ℤ (n +ℤ q *ℤ pos 0) ≡ pos 0
    balance m n h = let k = ap (λ t. q *ℤ t) h in simp ring_z (omega (arith, sums, k))

    positive : (n : ℤ) → pos 0 <ℤ n → pos 0 <ℤ (n +ℤ q *ℤ pos 0)
    positive n h = omega (arith, sums, *ℤ-zero q)
