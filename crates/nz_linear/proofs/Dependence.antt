-- A row that vanishes at the vectors left is a sum of the chosen rows; a dual pair has at most as many pairs as the width, and a complete one as many.
use Rattle.std.proofs.Common.{◌≡◌, ℕ, zero, suc, ◌+◌, ◌≤◌, inl, inr, List, [], ◌∷◌, ◌++◌, length, map, ℤ, pos, ◌*ℤ◌, refl, sym, ap, ◌∙◌, arith, length-append}
use Rattle.std.proofs.Math.IntN.{*ℤ_comm}
use Rattle.std.proofs.lemmas.List.{length-map, map-append}
use Rattle.std.specs.List.{AllByRecursion as Each, Contains}
use Rattle.nz_spec.specs.Vectors.{Vector, dot, plus, scaled}
use Rattle.nz_spec.proofs.ListLaws.{Each-contains}
use Rattle.nz_spec.proofs.EquationLaws.{dot_comm}
use Rattle.nz_linear.specs.DualPairs.{Pair, pair_of, divisor, IsApart, HasWidths, IsDual, IsDualPair, AllVanish, OnlyZero, product, spread}
use Rattle.nz_linear.specs.Elimination.{IsState, shifted, unit_pairs}
use Rattle.nz_linear.proofs.Ring.{sums, ring_z}
use Rattle.nz_linear.proofs.Signs.{mul_pos}
use Rattle.nz_linear.proofs.Lists.{each_map, each_left, each_right, each_of_map, map_each}
use Rattle.nz_spec.proofs.VectorLaws.{dot-zero, scaled-zero, scaled-plus, scaled-scaled}
use Rattle.nz_linear.proofs.VectorLaws.{length-scaled, scaled-dot, cancel_scaled}
use Rattle.nz_linear.proofs.DualPairs.{product_positive, length-spread, dual_left, dual_right}
use Rattle.nz_linear.proofs.Elimination.{spread_vanishes, pivot_keeps}
use Rattle.nz_linear.proofs.Elimination.{pivot_keeps}
use Rattle.nz_linear.proofs.EliminationRun.{start_state, find_pivot, clear, turned, found_step}
use Rattle.nz_linear.proofs.DualCone.{swap, swapped_widths, swapped_product, spread_moves, form_expansion}

-- ---- the spread of a list joined of two, where all of the second vanish
product-append : (xs ys : List Pair) → product (xs ++ ys) ≡ product ys *ℤ product xs
product-append [] ys = sym (ring_one (product ys))
  where
    ring_one : (a : ℤ) → a *ℤ pos 1 ≡ a
    ring_one a = simp ring_z
product-append (x ∷ xs) ys = ap (λ t. divisor x *ℤ t) (product-append xs ys) ∙ ring_left (divisor x) (product ys) (product xs)
  where
    ring_left : (a b c : ℤ) → a *ℤ (b *ℤ c) ≡ b *ℤ (a *ℤ c)
    ring_left a b c = simp ring_z

spread-append : (w : ℕ) (xs ys : List Pair) (y : Vector) → Each (HasWidths w) ys → AllVanish ys y → spread w (xs ++ ys) y ≡ scaled (product ys) (spread w xs y)
spread-append w [] ys y h z = spread_vanishes w ys y h z ∙ sym (scaled-zero (product ys) w)
spread-append w (x ∷ xs) ys y h z =
    let P = product ys in
    let first : scaled (product (xs ++ ys) *ℤ dot x.form y) x.vector ≡ scaled P (scaled (product xs *ℤ dot x.form y) x.vector) =
    ap (λ t. scaled (t *ℤ dot x.form y) x.vector) (product-append xs ys) ∙ ap (λ t. scaled t x.vector) (ring_assoc P (product xs) (dot x.form y)) ∙ sym (scaled-scaled P (product xs *ℤ dot x.form y) x.vector) in
    let second : scaled (divisor x) (spread w (xs ++ ys) y) ≡ scaled P (scaled (divisor x) (spread w xs y)) =
    ap (scaled (divisor x)) (spread-append w xs ys y h z) ∙ scaled-scaled (divisor x) P (spread w xs y) ∙ ap (λ t. scaled t (spread w xs y)) (ring_swap (divisor x) P) ∙ sym (scaled-scaled P (divisor x) (spread w xs y)) in
    (λ i. plus (first i) (second i)) ∙ sym (scaled-plus P _ _)
  where
    ring_assoc : (a b c : ℤ) → (a *ℤ b) *ℤ c ≡ a *ℤ (b *ℤ c)
    ring_assoc a b c = simp ring_z

    ring_swap : (a b : ℤ) → a *ℤ b ≡ b *ℤ a
    ring_swap a b = *ℤ_comm a b

-- ---- a row that vanishes at the vectors left is a sum of the chosen rows
pub dependent_row : (w : ℕ) (h : Vector) (seen : List Vector) (chosen free : List Pair) → length h ≡ w → IsState w seen chosen free → Each (λ p. dot h p.vector ≡ pos 0) free
    → scaled (product chosen) h ≡ spread w (map swap chosen) h
dependent_row w h seen chosen free lh s z =
    let wf = each_right (HasWidths w) chosen free s.pair.widths in
    let wc = each_left (HasWidths w) chosen free s.pair.widths in
    let df = dual_right chosen free s.pair.dual in
    let P = product free in
    let zf : AllVanish (map swap free) h = each_of_map swap (λ (q : Pair). dot q.form h ≡ pos 0) free (each_map (λ (p : Pair). dot h p.vector ≡ pos 0) (λ (p : Pair). dot p.vector h ≡ pos 0) free (λ p e. dot_comm p.vector h ∙ e) z) in
    let e : scaled (product (chosen ++ free)) h ≡ scaled P (spread w (map swap chosen) h) =
    form_expansion w (chosen ++ free) h s.pair s.only_zero lh ∙ ap (λ t. spread w t h) (map-append swap chosen free) ∙ spread-append w (map swap chosen) (map swap free) h (swapped_widths w free wf) zf
    ∙ ap (λ t. scaled t (spread w (map swap chosen) h)) (swapped_product free) in
    cancel_scaled w P (scaled (product chosen) h) (spread w (map swap chosen) h) (product_positive free df) (length-scaled w (product chosen) h lh) (length-spread w (map swap chosen) h (swapped_widths w chosen wc))
    (scaled-scaled P (product chosen) h ∙ ap (λ t. scaled t h) (sym (product-append chosen free)) ∙ e)

-- ---- counts
record Counted (w : ℕ) (qs : List Pair) : Type 0 where
  chosen : List Pair
  free : List Pair
  state : IsState w (map (λ p. p.form) qs) chosen free
  as_many : length chosen ≡ length qs
  together : length chosen + length free ≡ w

length_units : (w : ℕ) → length (unit_pairs w) ≡ w
length_units zero = refl
length_units (suc w) = ap suc (length-map (unit_pairs w) shifted ∙ length_units w)

-- all forms of qs vanish at the vector of p
forms_vanish : (p : Pair) (qs : List Pair) → Each (IsApart p) qs → Each (λ a. dot a p.vector ≡ pos 0) (map (λ (q : Pair). q.form) qs)
forms_vanish p qs a = each_of_map (λ (q : Pair). q.form) (λ f. dot f p.vector ≡ pos 0) qs (each_map (IsApart p) (λ (q : Pair). dot q.form p.vector ≡ pos 0) qs (λ q k. k.back) a)

counted : (w : ℕ) (qs : List Pair) → Each (HasWidths w) qs → IsDual qs → Counted w qs
counted w [] h d = record { chosen = []; free = unit_pairs w; state = start_state w; as_many = refl; together = omega (arith, length_units w) }
counted w (p ∷ qs) h d =
    let s = counted w qs h.1 d.2 in
    let seen = map (λ (q : Pair). q.form) qs in
    let f = p.form in
    let lf : length f ≡ w = h.0.form_width in
    let wall : Each (HasWidths w) (s.chosen ++ s.free) = s.state.pair.widths in
    let wc = each_left (HasWidths w) s.chosen s.free wall in
    elim (find_pivot f s.free) [
      | inl all ↦ absurd (
          let e = dependent_row w f seen s.chosen s.free lf s.state all in
          let z : AllVanish s.chosen p.vector = each_map (λ (c : Pair). Contains seen c.form) (λ (c : Pair). dot c.form p.vector ≡ pos 0) s.chosen (λ c k. Each-contains (λ a. dot a p.vector ≡ pos 0) seen c.form (forms_vanish p qs d.1) k) s.state.from_seen in
          let v : product s.chosen *ℤ divisor p ≡ pos 0 = sym (scaled-dot (product s.chosen) f p.vector) ∙ ap (λ t. dot t p.vector) e ∙ spread_moves w s.chosen p.vector f wc ∙ ap (dot f) (spread_vanishes w s.chosen p.vector wc z) ∙ dot-zero f w in
          let dc : IsDual s.chosen = dual_left s.chosen s.free s.state.pair.dual in
          let m = mul_pos (product s.chosen) (divisor p) (product_positive s.chosen dc) d.0 in
          omega (arith, sums, v, m))
      | inr t ↦ (
          let u = turned f s.free t in
          let n1 : length (map (clear f u) s.chosen) ≡ length s.chosen = length-map s.chosen (clear f u) in
          let n2 : length (map (clear f u) (t.before ++ t.after)) ≡ length (t.before ++ t.after) = length-map (t.before ++ t.after) (clear f u) in
          let n3 = length-append t.before t.after in
          let n4 = length-append t.before (t.pivot ∷ t.after) in
          let n5 : length s.free ≡ length (t.before ++ (t.pivot ∷ t.after)) = ap length t.split in
          let n6 = s.as_many in
          let n7 = s.together in
          let chosen = pair_of f u ∷ map (clear f u) s.chosen in
          let free = map (clear f u) (t.before ++ t.after) in
          record { chosen = chosen; free = free; state = pivot_keeps w f seen s.chosen s.free chosen free lf s.state (found_step w f seen s.chosen s.free t s.state); as_many = omega arith; together = omega arith })
    ]

pub dual_length : (w : ℕ) (ps : List Pair) → IsDualPair w ps → length ps ≤ w
dual_length w ps d = let c = counted w ps d.widths d.dual in let m = c.as_many in let t = c.together in omega arith

pub complete_length : (w : ℕ) (ps : List Pair) → IsDualPair w ps → OnlyZero w ps → length ps ≡ w
complete_length w ps d o =
    let c = counted w ps d.widths d.dual in
    by c.chosen c.free c.state c.as_many c.together
  where
    by : (chosen free : List Pair) → IsState w (map (λ (p : Pair). p.form) ps) chosen free → length chosen ≡ length ps → length chosen + length free ≡ w → length ps ≡ w
    by chosen [] s m t = omega arith
    by chosen (b ∷ free) s m t = absurd (
        let db = dual_right chosen (b ∷ free) s.pair.dual in
        let wb = each_right (HasWidths w) chosen (b ∷ free) s.pair.widths in
        let z : AllVanish ps b.vector = map_each (λ (p : Pair). p.form) (λ f. dot f b.vector ≡ pos 0) ps s.free_vanish.0 in
        let e = o b.vector wb.0.vector_width z in
        let v : divisor b ≡ pos 0 = ap (dot b.form) e ∙ dot-zero b.form w in
        omega (arith, sums, v, db.0))
