-- The cone of a dual pair's vectors, and its inside, by the forms; two lists are apart inside where a form separates them.
use Rattle.std.proofs.Common.{◌≡◌, ◌↔◌, ℕ, inl, inr, List, [], ◌∷◌, length, map, ℤ, pos, negsuc, ◌*ℤ◌, ◌≤ℤ◌, ◌<ℤ◌, sym, ap, ◌∙◌, arith}
use Rattle.std.proofs.lemmas.Int.{ints}
use Rattle.std.proofs.lemmas.List.{length-map}
use Rattle.std.specs.List.{AllByRecursion as Each, AllZip, Contains}
use Rattle.nz_spec.specs.Vectors.{Vector, dot, scaled, combination, HasWidth}
use Rattle.nz_spec.specs.Sums.{IsSumOf, IsInSpan, IsInCone, IsInside}
use Rattle.nz_spec.proofs.IntLaws.{mul-nonneg}
use Rattle.nz_spec.proofs.ListLaws.{contains_cases, contains_none}
use Rattle.nz_spec.proofs.SumLaws.{dot-combination}
use Rattle.nz_spec.proofs.VectorLaws.{dot-scaled}
use Rattle.nz_linear.proofs.SupportForms.{zero_or_positive}
use Rattle.nz_linear.specs.DualPairs.{Pair, divisor, IsDual, IsDualPair, product, spread_factors}
use Rattle.nz_linear.proofs.Ring.{sums}
use Rattle.nz_linear.proofs.Signs.{mul_pos, mul_is_pos, mul_is_nonneg}
use Rattle.nz_linear.proofs.Lists.{each_map, zip_change}
use Rattle.nz_linear.proofs.VectorLaws.{scaled-dot}
use Rattle.nz_spec.proofs.ConstraintLaws.{nonneg_on_cone}
use Rattle.nz_linear.proofs.Cones.{above_zero}
use Rattle.nz_linear.proofs.DualPairs.{widths_of_vectors, product_positive, expansion, spread_is, length-factors, divisors_positive}
use Rattle.nz_linear.proofs.Spans.{span_space}
use Rattle.nz_linear.proofs.Floors.{values_at_combination, complete_on_span}

-- the factors of the spread have a property of the values that positive multiples keep
factors_have : (P : ℤ → Type 0) → ((k a : ℤ) → pos 0 <ℤ k → P a → P (k *ℤ a)) → (ps : List Pair) (x : Vector) → IsDual ps → Each (λ p. P (dot p.form x)) ps → Each P (spread_factors ps x)
factors_have P keep [] x d h = tt
factors_have P keep (p ∷ ps) x d h = (keep (product ps) (dot p.form x) (product_positive ps d.2) h.0, scale (spread_factors ps x) (factors_have P keep ps x d.2 h.1))
  where
    scale : (cs : List ℤ) → Each P cs → Each P (scaled (divisor p) cs)
    scale [] k = tt
    scale (c ∷ cs) k = (keep (divisor p) c d.0 k.0, scale cs k.1)

-- a vector of the span whose values have such a property is a sum of the vectors with factors that have it
pub sum_by_forms : (w : ℕ) (P : ℤ → Type 0) → ((k a : ℤ) → pos 0 <ℤ k → P a → P (k *ℤ a)) → (ps : List Pair) (x : Vector) → IsDualPair w ps → HasWidth w x → IsInSpan w (map (λ p. p.vector) ps) x → Each (λ p. P (dot p.form x)) ps
    → IsSumOf (λ k c. P c) w (map (λ p. p.vector) ps) x
sum_by_forms w P keep ps x d l i h = record {
  multiple = product ps;
  factors = spread_factors ps x;
  positive = (let p = product_positive ps d.dual in omega (arith, sums));
  one_each = length-factors ps x ∙ sym (length-map ps (λ (p : Pair). p.vector));
  each = factors_have P keep ps x d.dual h;
  same = sym (spread_is w ps x) ∙ sym (expansion w (λ y. HasWidth w y × IsInSpan w (map (λ (p : Pair). p.vector) ps) y) ps x (span_space w (map (λ (p : Pair). p.vector) ps) (widths_of_vectors w ps d.widths)) d (complete_on_span w ps d) (l, i));
}

-- each form has the sign of its factor
value_of_sum : (w : ℕ) (ps : List Pair) (x : Vector) (m : ℤ) (cs : List ℤ) → IsDualPair w ps → length cs ≡ length (map (λ (p : Pair). p.vector) ps) → combination w cs (map (λ p. p.vector) ps) ≡ scaled m x → AllZip (λ (p : Pair) c. m *ℤ dot p.form x ≡ c *ℤ divisor p) ps cs
value_of_sum w ps x m cs d l e =
    zip_change (λ (p : Pair) c. dot p.form (combination w cs (map (λ (r : Pair). r.vector) ps)) ≡ c *ℤ divisor p) (λ (p : Pair) c. m *ℤ dot p.form x ≡ c *ℤ divisor p) ps cs
    (λ p c v. sym (dot-scaled p.form m x) ∙ ap (dot p.form) (sym e) ∙ v) (values_at_combination w ps cs (l ∙ length-map ps (λ (p : Pair). p.vector)) d.widths d.dual)

-- a vector of the span is in the cone just where each form is at least 0
pub cone_by_forms : (w : ℕ) (ps : List Pair) (x : Vector) → IsDualPair w ps → HasWidth w x → IsInSpan w (map (λ p. p.vector) ps) x → IsInCone w (map (λ p. p.vector) ps) x ↔ Each (λ p. pos 0 ≤ℤ dot p.form x) ps
cone_by_forms w ps x d l i = (
  (λ k. values ps k.factors k.multiple k.positive (value_of_sum w ps x k.multiple k.factors d k.one_each k.same) (divisors_positive ps d.dual) k.each),
  (λ h. sum_by_forms w (λ a. pos 0 ≤ℤ a) (λ k a p q. mul-nonneg k a (omega (arith, sums)) q) ps x d l i h),
)
  where
    values : (rs : List Pair) (cs : List ℤ) (m : ℤ) → pos 1 ≤ℤ m → AllZip (λ (p : Pair) c. m *ℤ dot p.form x ≡ c *ℤ divisor p) rs cs → Each (λ p. pos 0 <ℤ divisor p) rs → Each (λ c. pos 0 ≤ℤ c) cs → Each (λ p. pos 0 ≤ℤ dot p.form x) rs
    values [] [] m q z b n = tt
    values [] (c ∷ cs) m q z b n = absurd z
    values (p ∷ rs) [] m q z b n = absurd z
    values (p ∷ rs) (c ∷ cs) m q z b n = (
      (let e = z.0 in let k = mul-nonneg c (divisor p) n.0 (let o = b.0 in omega (arith, sums)) in mul_is_nonneg m (dot p.form x) (above_zero m q) (omega (arith, sums))),
      values rs cs m q z.1 b.1 n.1,
    )

-- and inside it just where each form is above 0
pub inside_by_forms : (w : ℕ) (ps : List Pair) (x : Vector) → IsDualPair w ps → HasWidth w x → IsInSpan w (map (λ p. p.vector) ps) x → IsInside w (map (λ p. p.vector) ps) x ↔ Each (λ p. pos 0 <ℤ dot p.form x) ps
inside_by_forms w ps x d l i = (
  (λ k. values ps k.factors k.multiple k.positive (value_of_sum w ps x k.multiple k.factors d k.one_each k.same) (divisors_positive ps d.dual) k.each),
  (λ h. sum_by_forms w (λ a. pos 0 <ℤ a) (λ k a p q. mul_pos k a p q) ps x d l i h),
)
  where
    values : (rs : List Pair) (cs : List ℤ) (m : ℤ) → pos 1 ≤ℤ m → AllZip (λ (p : Pair) c. m *ℤ dot p.form x ≡ c *ℤ divisor p) rs cs → Each (λ p. pos 0 <ℤ divisor p) rs → Each (λ c. pos 0 <ℤ c) cs → Each (λ p. pos 0 <ℤ dot p.form x) rs
    values [] [] m q z b n = tt
    values [] (c ∷ cs) m q z b n = absurd z
    values (p ∷ rs) [] m q z b n = absurd z
    values (p ∷ rs) (c ∷ cs) m q z b n = (
      (let e = z.0 in let k = mul_pos c (divisor p) n.0 b.0 in mul_is_pos m (dot p.form x) (above_zero m q) (omega (arith, sums))),
      values rs cs m q z.1 b.1 n.1,
    )

-- ---- apart inside
sum_above : (f : Vector) (cs : List ℤ) (vs : List Vector) (v : Vector) → length cs ≡ length vs → Each (λ c. pos 0 <ℤ c) cs → Each (λ u. pos 0 ≤ℤ dot f u) vs → Contains vs v → pos 0 <ℤ dot f v → pos 0 <ℤ dot cs (map (λ u. dot f u) vs)
sum_above f cs [] v l n s c p = absurd (contains_none v c)
sum_above f [] (u ∷ vs) v l n s c p = absurd (omega arith)
sum_above f (k ∷ cs) (u ∷ vs) v l n s c p =
    let here = mul-nonneg k (dot f u) (let q = n.0 in omega (arith, sums)) s.0 in
    elim (contains_cases u vs v c) [
      | inl e ↦ (let q : pos 0 <ℤ dot f u = rw (ap (dot f) e) p in let m = mul_pos k (dot f u) n.0 q in let r = sum_nonneg cs vs n.1 s.1 in omega (arith, sums))
      | inr d ↦ (let r = sum_above f cs vs v (omega arith) n.1 s.1 d p in omega (arith, sums))
    ]
  where
    sum_nonneg : (ks : List ℤ) (us : List Vector) → Each (λ c. pos 0 <ℤ c) ks → Each (λ t. pos 0 ≤ℤ dot f t) us → pos 0 ≤ℤ dot ks (map (λ t. dot f t) us)
    sum_nonneg [] us a b = omega (arith, sums)
    sum_nonneg (j ∷ ks) [] a b = omega (arith, sums)
    sum_nonneg (j ∷ ks) (t ∷ us) a b = let q = mul-nonneg j (dot f t) (let o = a.0 in omega (arith, sums)) b.0 in let r = sum_nonneg ks us a.1 b.1 in omega (arith, sums)

-- a form that is at least 0 on the vectors, and above 0 on one, is above 0 inside
pub above_inside : (w : ℕ) (f : Vector) (vs : List Vector) (v x : Vector) → Each (HasWidth w) vs → Each (λ u. pos 0 ≤ℤ dot f u) vs → Contains vs v → pos 0 <ℤ dot f v → IsInside w vs x → pos 0 <ℤ dot f x
above_inside w f vs v x l s c p i =
    let e : i.multiple *ℤ dot f x ≡ dot i.factors (map (λ u. dot f u) vs) = sym (dot-scaled f i.multiple x) ∙ ap (dot f) (sym i.same) ∙ dot-combination f w i.factors vs l in
    mul_is_pos i.multiple (dot f x) (above_zero i.multiple i.positive) (rw e (sum_above f i.factors vs v i.one_each i.each s c p))

pub inside_in_cone : (w : ℕ) (vs : List Vector) (x : Vector) → IsInside w vs x → IsInCone w vs x
inside_in_cone w vs x i = record {
  multiple = i.multiple;
  factors = i.factors;
  positive = i.positive;
  one_each = i.one_each;
  each = each_map (λ c. pos 0 <ℤ c) (λ c. pos 0 ≤ℤ c) i.factors (λ c h. omega (arith, sums)) i.each;
  same = i.same;
}

-- so no vector is inside two lists of which one is at least 0 at a form, and above 0 at some vector, and the other at most 0
pub apart_by_form : (w : ℕ) (f : Vector) (vs us : List Vector) (v x : Vector) → Each (HasWidth w) vs → Each (HasWidth w) us → HasWidth w f → Each (λ u. pos 0 ≤ℤ dot f u) vs → Contains vs v → pos 0 <ℤ dot f v → Each (λ u. dot f u ≤ℤ pos 0) us
    → IsInside w vs x → IsInside w us x → ⊥
apart_by_form w f vs us v x lv lu lf s c p n i j =
    let g = scaled (negsuc 0) f in
    let value : (y : Vector) → dot g y ≡ negsuc 0 *ℤ dot f y = λ y. scaled-dot (negsuc 0) f y in
    let up = above_inside w f vs v x lv s c p i in
    let down = nonneg_on_cone g w us x lu (each_map (λ u. dot f u ≤ℤ pos 0) (λ u. pos 0 ≤ℤ dot g u) us (λ u h. omega (arith, ints, value u, h)) n) (inside_in_cone w us x j) in
    omega (arith, ints, up, down, value x)

-- a form that is at least 0 on the vectors and 0 at a vector inside is 0 on all of them
pub zero_of_inside : (w : ℕ) (f : Vector) (vs : List Vector) (x : Vector) → Each (HasWidth w) vs → Each (λ u. pos 0 ≤ℤ dot f u) vs → IsInside w vs x → dot f x ≡ pos 0 → Each (λ u. dot f u ≡ pos 0) vs
zero_of_inside w f vs x l s i e = elim (zero_or_positive f vs s) [
  | inl z ↦ z
  | inr t ↦ absurd (let p = above_inside w f vs t.vector x l s t.has t.positive i in omega (arith, sums, p, e))
]
