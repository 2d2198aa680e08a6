-- Dual pairs: the expansion, independence, and forms that vanish at all vectors but one.
use Rattle.std.proofs.Common.{◌≡◌, ℕ, suc, List, [], ◌∷◌, ◌++◌, length, map, ℤ, pos, negsuc, ◌+ℤ◌, ◌*ℤ◌, ◌<ℤ◌, refl, sym, ap, ◌∙◌, arith}
use Rattle.std.proofs.lemmas.Int.{ints}
use Rattle.std.proofs.Math.IntN.{*ℤ-zero}
use Rattle.std.specs.List.{AllByRecursion as Each}
use Rattle.nz_spec.specs.Vectors.{Vector, dot, plus, scaled, zero_vector, combination, HasWidth}
use Rattle.nz_spec.proofs.SumLaws.{length-zero_vector, length-combination, combination-scaled}
use Rattle.nz_spec.specs.Sums.{IsIndependent}
use Rattle.nz_spec.proofs.LinearLaws.{AreDual, AreDual-independent}
use Rattle.nz_linear.specs.DualPairs.{Pair, divisor, IsApart, HasWidths, IsDual, IsDualPair, AllVanish, IsSpace, IsCompleteOn, product, spread, spread_factors}
use Rattle.nz_linear.proofs.Ring.{sums, ring_z}
use Rattle.nz_linear.proofs.Signs.{mul_pos, cancel_mul}
use Rattle.nz_linear.proofs.Lists.{each_map, each_map2, each_append, each_left, each_right}
use Rattle.nz_spec.proofs.VectorLaws.{dot-scaled, dot-zero, scaled-scaled, one-scaled}
use Rattle.nz_linear.proofs.VectorLaws.{length-plus, length-scaled, dot-plus, zero-scaled, plus_is_zero}

pub product_positive : (ps : List Pair) → IsDual ps → pos 0 <ℤ product ps
product_positive [] d = omega (arith, sums)
product_positive (p ∷ ps) d = mul_pos (divisor p) (product ps) d.0 (product_positive ps d.2)

pub divisors_positive : (ps : List Pair) → IsDual ps → Each (λ p. pos 0 <ℤ divisor p) ps
divisors_positive [] d = tt
divisors_positive (p ∷ ps) d = (d.0, divisors_positive ps d.2)

pub length-spread : (w : ℕ) (ps : List Pair) (x : Vector) → Each (HasWidths w) ps → length (spread w ps x) ≡ w
length-spread w [] x h = length-zero_vector w
length-spread w (p ∷ ps) x h = length-plus w _ _ (length-scaled w _ p.vector h.0.vector_width) (length-scaled w _ (spread w ps x) (length-spread w ps x h.1))

-- ---- the values at the spread vector
-- f at the spread of p ∷ ps
pub value_step : (w : ℕ) (p : Pair) (ps : List Pair) (f x : Vector) → HasWidths w p → Each (HasWidths w) ps → dot f (spread w (p ∷ ps) x) ≡ (product ps *ℤ dot p.form x) *ℤ dot f p.vector +ℤ divisor p *ℤ dot f (spread w ps x)
value_step w p ps f x h hs =
    let lv = h.vector_width in
    let ls = length-spread w ps x hs in
    simp (dot-plus w, dot-scaled, length-scaled w)

-- a form that is 0 at each vector is 0 at the spread
pub vanishes_at_spread : (w : ℕ) (ps : List Pair) (f x : Vector) → Each (HasWidths w) ps → Each (λ p. dot f p.vector ≡ pos 0) ps → dot f (spread w ps x) ≡ pos 0
vanishes_at_spread w [] f x h z = dot-zero f w
vanishes_at_spread w (p ∷ ps) f x h z =
    value_step w p ps f x h.0 h.1 ∙ omega (arith, sums, ap (λ t. (product ps *ℤ dot p.form x) *ℤ t) z.0, *ℤ-zero (product ps *ℤ dot p.form x), ap (λ t. divisor p *ℤ t) (vanishes_at_spread w ps f x h.1 z.1), *ℤ-zero (divisor p))

-- ring identities over plain variables: `simp ring_z` sorts factors by size, and a call and its unfolding have two sizes
ring_own : (d D l : ℤ) → (D *ℤ l) *ℤ d +ℤ d *ℤ pos 0 ≡ (d *ℤ D) *ℤ l
ring_own d D l = simp ring_z (omega (arith, sums))

ring_other : (d D l m : ℤ) → (D *ℤ l) *ℤ pos 0 +ℤ d *ℤ (D *ℤ m) ≡ (d *ℤ D) *ℤ m
ring_other d D l m = simp ring_z (omega (arith, sums))

ring_scale : (d D l f v : ℤ) → (d *ℤ D) *ℤ f ≡ (D *ℤ l) *ℤ v +ℤ d *ℤ pos 0 → D *ℤ (d *ℤ f) ≡ D *ℤ (v *ℤ l)
ring_scale d D l f v e = let k = simp ring_z at e in simp ring_z (omega (arith, sums, k))

-- each form of the pair has, at the spread of x, its value at x times the product
pub values_at_spread : (w : ℕ) (ps : List Pair) (x : Vector) → Each (HasWidths w) ps → IsDual ps → Each (λ (q : Pair). dot q.form (spread w ps x) ≡ product ps *ℤ dot q.form x) ps
values_at_spread w [] x h d = tt
values_at_spread w (p ∷ ps) x h d =
    let own : dot p.form (spread w ps x) ≡ pos 0 = vanishes_at_spread w ps p.form x h.1 (each_map (IsApart p) (λ (q : Pair). dot p.form q.vector ≡ pos 0) ps (λ q a. a.there) d.1) in
    let D = product ps in
    let head : dot p.form (spread w (p ∷ ps) x) ≡ product (p ∷ ps) *ℤ dot p.form x =
    value_step w p ps p.form x h.0 h.1 ∙ ap (λ t. (D *ℤ dot p.form x) *ℤ divisor p +ℤ divisor p *ℤ t) own ∙ ring_own (divisor p) D (dot p.form x) in (
      head,
      each_map2 (IsApart p) (λ (q : Pair). dot q.form (spread w ps x) ≡ D *ℤ dot q.form x) (λ (q : Pair). dot q.form (spread w (p ∷ ps) x) ≡ product (p ∷ ps) *ℤ dot q.form x) ps
          (λ q a e. value_step w p ps q.form x h.0 h.1 ∙ ap (λ t. (D *ℤ dot p.form x) *ℤ t +ℤ divisor p *ℤ dot q.form (spread w ps x)) a.back ∙ ap (λ t. (D *ℤ dot p.form x) *ℤ pos 0 +ℤ divisor p *ℤ t) e ∙ ring_other (divisor p) D (dot p.form x) (dot q.form x))
          d.1 (values_at_spread w ps x h.1 d.2),
    )

-- ---- the expansion
spread_in : (w : ℕ) (In : Vector → Type 0) (ps : List Pair) (x : Vector) → IsSpace w In → In (zero_vector w) → Each (λ p. In p.vector) ps → In (spread w ps x)
spread_in w In [] x s z v = z
spread_in w In (p ∷ ps) x s z v = s.sum_in _ _ (s.multiple_in _ p.vector v.0) (s.multiple_in _ _ (spread_in w In ps x s z v.1))

pub expansion : (w : ℕ) (In : Vector → Type 0) (ps : List Pair) (x : Vector) → IsSpace w In → IsDualPair w ps → IsCompleteOn w In ps → In x → scaled (product ps) x ≡ spread w ps x
expansion w In ps x s d c i =
    let lx = s.width x i in
    let D = product ps in
    let ls = length-spread w ps x d.widths in
    let zero_in : In (zero_vector w) = rw (zero-scaled w x lx) at (s.multiple_in (pos 0) x i) in
    let y = plus (scaled D x) (scaled (negsuc 0) (spread w ps x)) in
    let y_in : In y = s.sum_in _ _ (s.multiple_in D x i) (s.multiple_in (negsuc 0) _ (spread_in w In ps x s zero_in c.vectors_in)) in
    let lD : length (scaled D x) ≡ w = length-scaled w D x lx in
    let lN : length (scaled (negsuc 0) (spread w ps x)) ≡ w = length-scaled w (negsuc 0) (spread w ps x) ls in
    let value : (f : Vector) → dot f y ≡ D *ℤ dot f x +ℤ negsuc 0 *ℤ dot f (spread w ps x) = λ f. dot-plus w f _ _ lD lN ∙ omega (arith, sums, dot-scaled f D x, dot-scaled f (negsuc 0) (spread w ps x)) in
    let z : AllVanish ps y = each_map (λ (q : Pair). dot q.form (spread w ps x) ≡ D *ℤ dot q.form x) (λ (q : Pair). dot q.form y ≡ pos 0) ps (λ q e. value q.form ∙ ap (λ t. D *ℤ dot q.form x +ℤ negsuc 0 *ℤ t) e ∙ omega (arith, ints)) (values_at_spread w ps x d.widths d.dual) in
    let e = plus_is_zero w _ _ lD lN (c.only_zero y y_in z) in
    e ∙ scaled-scaled (negsuc 0) (negsuc 0) (spread w ps x) ∙ one-scaled (spread w ps x)

-- the spread as a combination of the vectors
pub spread_is : (w : ℕ) (ps : List Pair) (x : Vector) → spread w ps x ≡ combination w (spread_factors ps x) (map (λ p. p.vector) ps)
spread_is w [] x = refl
spread_is w (p ∷ ps) x = ap (λ t. plus (scaled (product ps *ℤ dot p.form x) p.vector) t) (ap (scaled (divisor p)) (spread_is w ps x) ∙ sym (combination-scaled w (divisor p) (spread_factors ps x) (map (λ (q : Pair). q.vector) ps)))

pub length-factors : (ps : List Pair) (x : Vector) → length (spread_factors ps x) ≡ length ps
length-factors [] x = refl
length-factors (p ∷ ps) x = ap suc (length-scaled (length ps) (divisor p) (spread_factors ps x) (length-factors ps x))

-- ---- independence
pub widths_of_vectors : (w : ℕ) (ps : List Pair) → Each (HasWidths w) ps → Each (HasWidth w) (map (λ p. p.vector) ps)
widths_of_vectors w [] h = tt
widths_of_vectors w (p ∷ ps) h = (h.0.vector_width, widths_of_vectors w ps h.1)

-- a form that is 0 at each vector is 0 at each combination
pub vanishes_at_combination : (w : ℕ) (f : Vector) (ks : List ℤ) (ps : List Pair) → Each (HasWidths w) ps → Each (λ p. dot f p.vector ≡ pos 0) ps → dot f (combination w ks (map (λ p. p.vector) ps)) ≡ pos 0
vanishes_at_combination w f [] ps h z = dot-zero f w
vanishes_at_combination w f (k ∷ ks) [] h z = dot-zero f w
vanishes_at_combination w f (k ∷ ks) (p ∷ ps) h z =
    omega (
      arith,
      sums,
      dot-plus w f (scaled k p.vector) (combination w ks (map (λ (q : Pair). q.vector) ps)) (length-scaled w k p.vector h.0.vector_width) (length-combination w ks _ (widths_of_vectors w ps h.1)),
      dot-scaled f k p.vector,
      ap (λ t. k *ℤ t) z.0,
      *ℤ-zero k,
      vanishes_at_combination w f ks ps h.1 z.1,
    )

zero_at_others : (p : Pair) (ps : List Pair) → Each (IsApart p) ps → Each (λ u. dot p.form u ≡ pos 0) (map (λ (q : Pair). q.vector) ps) × Each (λ f. dot f p.vector ≡ pos 0) (map (λ (q : Pair). q.form) ps)
zero_at_others p [] a = (tt, tt)
zero_at_others p (q ∷ ps) a = let r = zero_at_others p ps a.1 in ((a.0.there, r.0), (a.0.back, r.1))

are_dual : (ps : List Pair) → IsDual ps → AreDual (map (λ (p : Pair). p.form) ps) (map (λ (p : Pair). p.vector) ps)
are_dual [] d = tt
are_dual (p ∷ ps) d = let z = zero_at_others p ps d.1 in let a = d.0 in (omega (arith, sums), z.0, z.1, are_dual ps d.2)

-- the vectors of a dual pair are independent
pub dual_independent : (w : ℕ) (ps : List Pair) → IsDualPair w ps → IsIndependent w (map (λ p. p.vector) ps)
dual_independent w ps d = AreDual-independent w (map (λ (p : Pair). p.form) ps) (map (λ (p : Pair). p.vector) ps) (widths_of_vectors w ps d.widths) (are_dual ps d.dual)

-- ---- a form that vanishes at all vectors but the first is there a rational multiple of the first form
pub multiple_of_form : (w : ℕ) (In : Vector → Type 0) (p : Pair) (ps : List Pair) (f x : Vector) → IsSpace w In → IsDualPair w (p ∷ ps) → IsCompleteOn w In (p ∷ ps) → In x
    → Each (λ q. dot f q.vector ≡ pos 0) ps → divisor p *ℤ dot f x ≡ dot f p.vector *ℤ dot p.form x
multiple_of_form w In p ps f x s d c i z =
    let D = product ps in
    let e = ap (dot f) (expansion w In (p ∷ ps) x s d c i) in
    let v = value_step w p ps f x d.widths.0 d.widths.1 in
    let zero : dot f (spread w ps x) ≡ pos 0 = vanishes_at_spread w ps f x d.widths.1 z in
    cancel_mul D _ _ (product_positive ps d.dual.2)
    (ring_scale (divisor p) D (dot p.form x) (dot f x) (dot f p.vector)
    (sym (dot-scaled f (divisor p *ℤ D) x) ∙ e ∙ v ∙ ap (λ t. (D *ℤ dot p.form x) *ℤ dot f p.vector +ℤ divisor p *ℤ t) zero))

-- ---- the order of the pairs is free
pub dual_split : (p : Pair) (xs ys : List Pair) → IsDual (xs ++ (p ∷ ys)) → IsDual (p ∷ (xs ++ ys))
dual_split p [] ys d = d
dual_split p (x ∷ xs) ys d =
    let r = dual_split p xs ys d.2 in
    let px : IsApart x p = (each_right (IsApart x) xs (p ∷ ys) d.1).0 in
    let others : Each (IsApart x) (xs ++ ys) = each_append (IsApart x) xs ys (each_left (IsApart x) xs (p ∷ ys) d.1) (each_right (IsApart x) xs (p ∷ ys) d.1).1 in
    (r.0, (record { there = px.back; back = px.there }, r.1), (d.0, others, r.2))

pub dual_right : (xs ys : List Pair) → IsDual (xs ++ ys) → IsDual ys
dual_right [] ys d = d
dual_right (x ∷ xs) ys d = dual_right xs ys d.2

pub dual_left : (xs ys : List Pair) → IsDual (xs ++ ys) → IsDual xs
dual_left [] ys d = tt
dual_left (x ∷ xs) ys d = (d.0, each_left (IsApart x) xs ys d.1, dual_left xs ys d.2)
