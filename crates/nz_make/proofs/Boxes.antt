-- What is in the boxes of independent corners: 0, points of level 1, and vectors of level 2 near the double of the middle.
use Rattle.std.proofs.Common.{◌≡◌, ◌≢◌, ◌⊎◌, inl, inr, ℕ, ◌≤◌, List, [], ◌∷◌, length, ℤ, pos, ◌+ℤ◌, ◌*ℤ◌, ◌≤ℤ◌, ◌<ℤ◌, Contains, refl, sym, ap, ◌∙◌, subst, arith}
use Rattle.std.proofs.lemmas.Int.{ints}
use Rattle.std.proofs.Math.IntN.{zero-*ℤ}
use Rattle.std.specs.List.{AllByRecursion as Each}
use Rattle.nz_spec.specs.Vectors.{Vector, plus, scaled, combination, HasWidth}
use Rattle.nz_spec.specs.Sums.{IsIndependent, IsInBox}
use Rattle.nz_spec.specs.Order.{Pairwise}
use Rattle.nz_spec.proofs.ListLaws.{contains_here, contains_there, contains_cases, contains_none, Each-contains, Each-weaker, different_within}
use Rattle.nz_spec.proofs.LinearLaws.{many_dependent}
use Rattle.nz_further.proofs.StartCrowds.{independent_different}
use Rattle.nz_linear.proofs.Ring.{sums}
use Rattle.nz_make.specs.Squares.{point, corners}
use Rattle.nz_make.proofs.Cones.{three_same}
use Rattle.nz_make.proofs.Extremes.{corners_in_order, below_or_from}

-- one of the four corners
pub data IsCorner (n : ℕ) (v : Vector) : Type 0 where
  origin : point 0 0 ≡ v → IsCorner n v
  right : point n 0 ≡ v → IsCorner n v
  upper : point 0 n ≡ v → IsCorner n v
  opposed : point n n ≡ v → IsCorner n v

pub corner_of : (n : ℕ) (v : Vector) → Contains (corners_in_order n) v → IsCorner n v
corner_of n v c = elim (contains_cases (point 0 0) (point 0 n ∷ point n 0 ∷ point n n ∷ []) v c) [
  | inl e ↦ origin e
  | inr d ↦ elim (contains_cases (point 0 n) (point n 0 ∷ point n n ∷ []) v d) [
    | inl e ↦ upper e
    | inr f ↦ elim (contains_cases (point n 0) (point n n ∷ []) v f) [
      | inl e ↦ right e
      | inr g ↦ elim (contains_cases (point n n) [] v g) [ inl e ↦ opposed e | inr h ↦ absurd (contains_none v h) ]
    ]
  ]
]

corner_wide : (n : ℕ) (v : Vector) → IsCorner n v → HasWidth 3 v
corner_wide n v (origin e) = ap length (sym e)
corner_wide n v (right e) = ap length (sym e)
corner_wide n v (upper e) = ap length (sym e)
corner_wide n v (opposed e) = ap length (sym e)

-- ---- a sum of corners by its four factors

abbrev pub IsFraction : ℤ → ℤ → Type 0
IsFraction k c = (pos 0 ≤ℤ c) × (c <ℤ k)

-- the factor of a corner: the one that it has in the list, or 0
abbrev IsShare : ℤ → List Vector → Vector → ℤ → Type 0
IsShare k vs v p = (Contains vs v × IsFraction k p) ⊎ (p ≡ pos 0)

record HasShares (n : ℕ) (k : ℤ) (cs : List ℤ) (vs : List Vector) : Type 0 where
  p : ℤ
  q : ℤ
  r : ℤ
  s : ℤ
  p_share : IsShare k vs (point 0 0) p
  q_share : IsShare k vs (point n 0) q
  r_share : IsShare k vs (point 0 n) r
  s_share : IsShare k vs (point n n) s
  same : combination 3 cs vs ≡ combination 3 (p ∷ q ∷ r ∷ s ∷ []) (corners n)

more_share : (k : ℤ) (u v : Vector) (vs : List Vector) (p : ℤ) → IsShare k vs v p → IsShare k (u ∷ vs) v p
more_share k u v vs p (inl h) = inl (contains_there u v vs h.0, h.1)
more_share k u v vs p (inr e) = inr e

no_share : (k : ℤ) (u v : Vector) (vs : List Vector) (p : ℤ) → Each (λ y. u ≢ y) vs → v ≡ u → IsShare k vs v p → p ≡ pos 0
no_share k u v vs p d e (inl h) = absurd (Each-contains (λ y. u ≢ y) vs v d h.0 (sym e))
no_share k u v vs p d e (inr z) = z

new_share : (k : ℤ) (u v : Vector) (vs : List Vector) (c : ℤ) → v ≡ u → IsFraction k c → IsShare k (u ∷ vs) v c
new_share k u v vs c e f = inl (subst (Contains (u ∷ vs)) (sym e) (contains_here u vs), f)

first_in : (z c q r s a b d e : ℤ) → z ≡ pos 0 → c *ℤ a +ℤ (z *ℤ a +ℤ (q *ℤ b +ℤ (r *ℤ d +ℤ (s *ℤ e +ℤ pos 0)))) ≡ c *ℤ a +ℤ (q *ℤ b +ℤ (r *ℤ d +ℤ (s *ℤ e +ℤ pos 0)))
first_in z c q r s a b d e h = let k = ap (λ (t : ℤ). t *ℤ a) h ∙ zero-*ℤ a in omega (arith, sums, k)

second_in : (p z c r s a b d e : ℤ) → z ≡ pos 0 → c *ℤ b +ℤ (p *ℤ a +ℤ (z *ℤ b +ℤ (r *ℤ d +ℤ (s *ℤ e +ℤ pos 0)))) ≡ p *ℤ a +ℤ (c *ℤ b +ℤ (r *ℤ d +ℤ (s *ℤ e +ℤ pos 0)))
second_in p z c r s a b d e h = let k = ap (λ (t : ℤ). t *ℤ b) h ∙ zero-*ℤ b in omega (arith, sums, k)

third_in : (p q z c s a b d e : ℤ) → z ≡ pos 0 → c *ℤ d +ℤ (p *ℤ a +ℤ (q *ℤ b +ℤ (z *ℤ d +ℤ (s *ℤ e +ℤ pos 0)))) ≡ p *ℤ a +ℤ (q *ℤ b +ℤ (c *ℤ d +ℤ (s *ℤ e +ℤ pos 0)))
third_in p q z c s a b d e h = let k = ap (λ (t : ℤ). t *ℤ d) h ∙ zero-*ℤ d in omega (arith, sums, k)

fourth_in : (p q r z c a b d e : ℤ) → z ≡ pos 0 → c *ℤ e +ℤ (p *ℤ a +ℤ (q *ℤ b +ℤ (r *ℤ d +ℤ (z *ℤ e +ℤ pos 0)))) ≡ p *ℤ a +ℤ (q *ℤ b +ℤ (r *ℤ d +ℤ (c *ℤ e +ℤ pos 0)))
fourth_in p q r z c a b d e h = let k = ap (λ (t : ℤ). t *ℤ e) h ∙ zero-*ℤ e in omega (arith, sums, k)

joined : (c : ℤ) (u v : Vector) (x y : Vector) → u ≡ v → x ≡ y → plus (scaled c v) x ≡ plus (scaled c u) y
joined c u v x y e f = ap (λ (t : Vector). plus (scaled c t) x) (sym e) ∙ ap (plus (scaled c u)) f

step : (n : ℕ) (k c : ℤ) (cs : List ℤ) (u : Vector) (vs : List Vector) → IsCorner n u → Each (λ y. u ≢ y) vs → IsFraction k c → HasShares n k cs vs → HasShares n k (c ∷ cs) (u ∷ vs)
step n k c cs u vs (origin e) d f h = record {
  p = c;
  q = h.q;
  r = h.r;
  s = h.s;
  p_share = new_share k u (point 0 0) vs c e f;
  q_share = more_share k u (point n 0) vs h.q h.q_share;
  r_share = more_share k u (point 0 n) vs h.r h.r_share;
  s_share = more_share k u (point n n) vs h.s h.s_share;
  same = (let z = no_share k u (point 0 0) vs h.p d e h.p_share in joined c (point 0 0) u (combination 3 cs vs) _ e h.same
      ∙ three_same (first_in h.p c h.q h.r h.s (pos 0) (pos n) (pos 0) (pos n) z) (first_in h.p c h.q h.r h.s (pos 0) (pos 0) (pos n) (pos n) z) (first_in h.p c h.q h.r h.s (pos 1) (pos 1) (pos 1) (pos 1) z));
}
step n k c cs u vs (right e) d f h = record {
  p = h.p;
  q = c;
  r = h.r;
  s = h.s;
  p_share = more_share k u (point 0 0) vs h.p h.p_share;
  q_share = new_share k u (point n 0) vs c e f;
  r_share = more_share k u (point 0 n) vs h.r h.r_share;
  s_share = more_share k u (point n n) vs h.s h.s_share;
  same = (let z = no_share k u (point n 0) vs h.q d e h.q_share in joined c (point n 0) u (combination 3 cs vs) _ e h.same
      ∙ three_same (second_in h.p h.q c h.r h.s (pos 0) (pos n) (pos 0) (pos n) z) (second_in h.p h.q c h.r h.s (pos 0) (pos 0) (pos n) (pos n) z) (second_in h.p h.q c h.r h.s (pos 1) (pos 1) (pos 1) (pos 1) z));
}
step n k c cs u vs (upper e) d f h = record {
  p = h.p;
  q = h.q;
  r = c;
  s = h.s;
  p_share = more_share k u (point 0 0) vs h.p h.p_share;
  q_share = more_share k u (point n 0) vs h.q h.q_share;
  r_share = new_share k u (point 0 n) vs c e f;
  s_share = more_share k u (point n n) vs h.s h.s_share;
  same = (let z = no_share k u (point 0 n) vs h.r d e h.r_share in joined c (point 0 n) u (combination 3 cs vs) _ e h.same
      ∙ three_same (third_in h.p h.q h.r c h.s (pos 0) (pos n) (pos 0) (pos n) z) (third_in h.p h.q h.r c h.s (pos 0) (pos 0) (pos n) (pos n) z) (third_in h.p h.q h.r c h.s (pos 1) (pos 1) (pos 1) (pos 1) z));
}
step n k c cs u vs (opposed e) d f h = record {
  p = h.p;
  q = h.q;
  r = h.r;
  s = c;
  p_share = more_share k u (point 0 0) vs h.p h.p_share;
  q_share = more_share k u (point n 0) vs h.q h.q_share;
  r_share = more_share k u (point 0 n) vs h.r h.r_share;
  s_share = new_share k u (point n n) vs c e f;
  same = (let z = no_share k u (point n n) vs h.s d e h.s_share in joined c (point n n) u (combination 3 cs vs) _ e h.same
      ∙ three_same (fourth_in h.p h.q h.r h.s c (pos 0) (pos n) (pos 0) (pos n) z) (fourth_in h.p h.q h.r h.s c (pos 0) (pos 0) (pos n) (pos n) z) (fourth_in h.p h.q h.r h.s c (pos 1) (pos 1) (pos 1) (pos 1) z));
}

none_in : (n : ℕ) (k : ℤ) → HasShares n k [] []
none_in n k = record {
  p = pos 0;
  q = pos 0;
  r = pos 0;
  s = pos 0;
  p_share = inr refl;
  q_share = inr refl;
  r_share = inr refl;
  s_share = inr refl;
  same = three_same (zeros (pos 0) (pos n) (pos 0) (pos n)) (zeros (pos 0) (pos 0) (pos n) (pos n)) (zeros (pos 1) (pos 1) (pos 1) (pos 1));
}
  where
    zeros : (a b d e : ℤ) → pos 0 ≡ pos 0 *ℤ a +ℤ (pos 0 *ℤ b +ℤ (pos 0 *ℤ d +ℤ (pos 0 *ℤ e +ℤ pos 0)))
    zeros a b d e = omega (arith, sums, zero-*ℤ a, zero-*ℤ b, zero-*ℤ d, zero-*ℤ e)

shares_of : (n : ℕ) (k : ℤ) (cs : List ℤ) (vs : List Vector) → length cs ≡ length vs → Each (IsCorner n) vs → Pairwise ◌≢◌ vs → Each (IsFraction k) cs → HasShares n k cs vs
shares_of n k [] [] l c d f = none_in n k
shares_of n k [] (v ∷ vs) l c d f = absurd (omega (arith, l))
shares_of n k (a ∷ cs) [] l c d f = absurd (omega (arith, l))
shares_of n k (a ∷ cs) (v ∷ vs) l c d f = step n k a cs v vs c.0 d.0 f.0 (shares_of n k cs vs (omega (arith, l)) c.1 d.1 f.1)

-- the factors of a vector in a box of independent corners: at least one of the four is 0
pub record HasFactors (n : ℕ) (x : Vector) : Type 0 where
  pub k : ℤ
  pub p : ℤ
  pub q : ℤ
  pub r : ℤ
  pub s : ℤ
  pub positive : pos 1 ≤ℤ k
  pub p_fraction : IsFraction k p
  pub q_fraction : IsFraction k q
  pub r_fraction : IsFraction k r
  pub s_fraction : IsFraction k s
  pub some_zero : ((p ≡ pos 0) ⊎ (q ≡ pos 0)) ⊎ ((r ≡ pos 0) ⊎ (s ≡ pos 0))
  pub same : combination 3 (p ∷ q ∷ r ∷ s ∷ []) (corners n) ≡ scaled k x

fraction_of : (k : ℤ) (vs : List Vector) (v : Vector) (p : ℤ) → pos 1 ≤ℤ k → IsShare k vs v p → IsFraction k p
fraction_of k vs v p h (inl f) = f.1
fraction_of k vs v p h (inr e) = (omega (arith, sums, e), omega (arith, sums, e, h))

pub corners_different : (n : ℕ) → 1 ≤ n → Pairwise ◌≢◌ (corners n)
corners_different n l = (
  (λ e. first_entry (pos 0) (pos n) (pos 0) (pos 0) m e, (λ e. second_entry (pos 0) (pos 0) (pos 0) (pos n) m e, (λ e. first_entry (pos 0) (pos n) (pos 0) (pos n) m e, tt))),
  (
    (λ e. first_entry (pos 0) (pos n) (pos n) (pos 0) m (sym e), (λ e. second_entry (pos n) (pos n) (pos 0) (pos n) m e, tt)),
    ((λ e. first_entry (pos 0) (pos n) (pos n) (pos n) m e, tt), (tt, tt)),
  ),
)
  where
    m : pos 0 <ℤ pos n
    m = omega (arith, ints, l)

    first_entry : (a a' b b' : ℤ) → a <ℤ a' → (a ∷ b ∷ pos 1 ∷ []) ≢ (a' ∷ b' ∷ pos 1 ∷ [])
    first_entry a a' b b' h e = let f : a ≡ a' = cc in omega (arith, sums, h, f)

    second_entry : (a a' b b' : ℤ) → b <ℤ b' → (a ∷ b ∷ pos 1 ∷ []) ≢ (a' ∷ b' ∷ pos 1 ∷ [])
    second_entry a a' b b' h e = let f : b ≡ b' = cc in omega (arith, sums, h, f)

some_zero_of : (n : ℕ) (k : ℤ) (cs : List ℤ) (vs : List Vector) → 1 ≤ n → length vs ≤ 3 → (h : HasShares n k cs vs) → ((h.p ≡ pos 0) ⊎ (h.q ≡ pos 0)) ⊎ ((h.r ≡ pos 0) ⊎ (h.s ≡ pos 0))
some_zero_of n k cs vs l few h = elim h.p_share [
  | inr e ↦ inl (inl e)
  | inl a ↦ elim h.q_share [
    | inr e ↦ inl (inr e)
    | inl b ↦ elim h.r_share [
      | inr e ↦ inr (inl e)
      | inl c ↦ elim h.s_share [
        | inr e ↦ inr (inr e)
        | inl d ↦ absurd (let m = different_within (corners n) vs (corners_different n l) (a.0, (b.0, (c.0, (d.0, tt)))) in let f : ⊥ = omega (arith, m, few) in f)
      ]
    ]
  ]
]

few_independent : (vs : List Vector) → Each (HasWidth 3) vs → IsIndependent 3 vs → length vs ≤ 3
few_independent vs h free = elim (below_or_from 3 (length vs)) [
  | inr l ↦ l
  | inl l ↦ absurd (let m = many_dependent 3 vs h l in m.not_all (free m.factors m.one_each m.sum_zero))
]

pub factors_of_box : (n : ℕ) (vs : List Vector) (x : Vector) → 1 ≤ n → Each (Contains (corners_in_order n)) vs → IsIndependent 3 vs → IsInBox 3 vs x → HasFactors n x
factors_of_box n vs x l c free i =
    let each = Each-weaker (Contains (corners_in_order n)) (IsCorner n) (corner_of n) vs c in
    let wide = Each-weaker (IsCorner n) (HasWidth 3) (corner_wide n) vs each in
    let h = shares_of n i.multiple i.factors vs i.one_each each (independent_different 3 vs wide free) i.each in
    record {
      k = i.multiple;
      p = h.p;
      q = h.q;
      r = h.r;
      s = h.s;
      positive = i.positive;
      p_fraction = fraction_of i.multiple vs (point 0 0) h.p i.positive h.p_share;
      q_fraction = fraction_of i.multiple vs (point n 0) h.q i.positive h.q_share;
      r_fraction = fraction_of i.multiple vs (point 0 n) h.r i.positive h.r_share;
      s_fraction = fraction_of i.multiple vs (point n n) h.s i.positive h.s_share;
      some_zero = some_zero_of n i.multiple i.factors vs l (few_independent vs wide free) h;
      same = sym h.same ∙ i.same;
    }
