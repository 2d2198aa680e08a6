-- A worked example: the cone over the square has a second good cover, along the other diagonal.
use Rattle.std.proofs.Common.{◌≡◌, ◌≢◌, ℕ, inl, inr, List, [], ◌∷◌, length, ℤ, pos, ◌+ℤ◌, ◌-ℤ◌, ◌*ℤ◌, ◌≤ℤ◌, ◌<ℤ◌, Contains, refl, sym, ap, ◌∙◌, subst, subst₂, arith}
use Rattle.std.proofs.lemmas.Int.{ints}
use Rattle.std.specs.List.{AllByRecursion as Each}
use Rattle.nz_spec.specs.Vectors.{Vector, scaled, combination, HasWidth, IsZero}
use Rattle.nz_spec.specs.Sums.{IsInCone, IsInside}
use Rattle.nz_spec.specs.Covers.{vectors_at, IsSimplex, Holds, AreApart, IsGoodCover}
use Rattle.nz_spec.proofs.IntLaws.{mul-sub}
use Rattle.nz_spec.proofs.VectorLaws.{length-scaled}
use Rattle.nz_spec.proofs.SumLaws.{length-combination}
use Rattle.nz_spec.proofs.ListLaws.{contains_cases}
use Rattle.nz_spec.proofs.CoverExamples.{three, four, three_same, contains_one, sign, pos_of_mul, square, steep, independent_of_three, square_rank}

abbrev pub flat : List ℕ
flat = 0 ∷ 2 ∷ 3 ∷ []

abbrev pub wedges : List (List ℕ)
wedges = steep ∷ flat ∷ []

steep_free : (a b c : ℤ) → IsZero (combination 3 (a ∷ b ∷ c ∷ []) (vectors_at square steep)) → IsZero (a ∷ b ∷ c ∷ [])
steep_free a b c z =
    let e = z.0 in
    let f = z.1.0 in
    let g = z.1.1.0 in
    (omega (arith, ints, e, f, g), (omega (arith, ints, e, f, g), (omega (arith, ints, e, f, g), tt)))

flat_free : (a b c : ℤ) → IsZero (combination 3 (a ∷ b ∷ c ∷ []) (vectors_at square flat)) → IsZero (a ∷ b ∷ c ∷ [])
flat_free a b c z =
    let e = z.0 in
    let f = z.1.0 in
    let g = z.1.1.0 in
    (omega (arith, ints, e, f, g), (omega (arith, ints, e, f, g), (omega (arith, ints, e, f, g), tt)))

steep_simplex : IsSimplex 3 square steep
steep_simplex = record {
  in_order = ((omega arith, (omega arith, tt)), ((omega arith, tt), (tt, tt)));
  within = (omega arith, (omega arith, (omega arith, tt)));
  independent = independent_of_three (vectors_at square steep) refl steep_free;
  full = square_rank;
}

flat_simplex : IsSimplex 3 square flat
flat_simplex = record {
  in_order = ((omega arith, (omega arith, tt)), ((omega arith, tt), (tt, tt)));
  within = (omega arith, (omega arith, (omega arith, tt)));
  independent = independent_of_three (vectors_at square flat) refl flat_free;
  full = square_rank;
}

-- corner 1 and corner 2 are together corner 0 and corner 3, so one of the two can be taken out of a sum
to_steep : (a b c d : ℤ) → combination 3 ((a +ℤ c) ∷ (b -ℤ c) ∷ (d +ℤ c) ∷ []) (vectors_at square steep) ≡ combination 3 (a ∷ b ∷ c ∷ d ∷ []) square
to_steep a b c d = three_same (omega (arith, ints)) (omega (arith, ints)) (omega (arith, ints))

to_flat : (a b c d : ℤ) → combination 3 ((a +ℤ b) ∷ (c -ℤ b) ∷ (d +ℤ b) ∷ []) (vectors_at square flat) ≡ combination 3 (a ∷ b ∷ c ∷ d ∷ []) square
to_flat a b c d = three_same (omega (arith, ints)) (omega (arith, ints)) (omega (arith, ints))

wedges_cover : (x : Vector) (a b c d m : ℤ) → pos 1 ≤ℤ m → Each (λ t. pos 0 ≤ℤ t) (a ∷ b ∷ c ∷ d ∷ []) → combination 3 (a ∷ b ∷ c ∷ d ∷ []) square ≡ scaled m x → (places : List ℕ) × Contains wedges places × Holds 3 square x places
wedges_cover x a b c d m h n e =
    let a0 = n.0 in
    let b0 = n.1.0 in
    let c0 = n.1.1.0 in
    let d0 = n.1.1.1.0 in
    elim (sign (b -ℤ c)) [
      | inl s ↦ (steep, (0, omega arith, refl), record { multiple = m; factors = (a +ℤ c) ∷ (b -ℤ c) ∷ (d +ℤ c) ∷ []; positive = h; one_each = refl; each = (omega (arith, ints, a0, c0), (s, (omega (arith, ints, d0, c0), tt))); same = to_steep a b c d ∙ e })
      | inr s ↦ (flat, (1, omega arith, refl), record { multiple = m; factors = (a +ℤ b) ∷ (c -ℤ b) ∷ (d +ℤ b) ∷ []; positive = h; one_each = refl; each = (omega (arith, ints, a0, b0), (omega (arith, ints, s), (omega (arith, ints, d0, b0), tt))); same = to_flat a b c d ∙ e })
    ]

steep_sum : (a b c k p q r : ℤ) → combination 3 (a ∷ b ∷ c ∷ []) (vectors_at square steep) ≡ scaled k (p ∷ q ∷ r ∷ []) → k *ℤ (q -ℤ p) ≡ b
steep_sum a b c k p q r e =
    let f : a *ℤ pos 0 +ℤ (b *ℤ pos 0 +ℤ (c *ℤ pos 1 +ℤ pos 0)) ≡ k *ℤ p = cc in
    let g : a *ℤ pos 0 +ℤ (b *ℤ pos 1 +ℤ (c *ℤ pos 1 +ℤ pos 0)) ≡ k *ℤ q = cc in
    omega (arith, ints, f, g, mul-sub k q p)

flat_sum : (a b c k p q r : ℤ) → combination 3 (a ∷ b ∷ c ∷ []) (vectors_at square flat) ≡ scaled k (p ∷ q ∷ r ∷ []) → k *ℤ (p -ℤ q) ≡ b
flat_sum a b c k p q r e =
    let f : a *ℤ pos 0 +ℤ (b *ℤ pos 1 +ℤ (c *ℤ pos 1 +ℤ pos 0)) ≡ k *ℤ p = cc in
    let g : a *ℤ pos 0 +ℤ (b *ℤ pos 0 +ℤ (c *ℤ pos 1 +ℤ pos 0)) ≡ k *ℤ q = cc in
    omega (arith, ints, f, g, mul-sub k p q)

-- (p, q, r) inside the steep half has p below q
steep_inside : (p q r : ℤ) → IsInside 3 (vectors_at square steep) (p ∷ q ∷ r ∷ []) → pos 1 ≤ℤ (q -ℤ p)
steep_inside p q r i =
    let u = three i.factors i.one_each in
    let e = subst (λ (fs : List ℤ). combination 3 fs (vectors_at square steep) ≡ scaled i.multiple (p ∷ q ∷ r ∷ [])) u.3 i.same in
    let n = subst (λ (fs : List ℤ). Each (λ c. pos 0 <ℤ c) fs) u.3 i.each in
    let k = n.1.0 in
    pos_of_mul i.multiple (q -ℤ p) i.positive (omega (arith, ints, k, steep_sum u.0 u.1 u.2 i.multiple p q r e))

-- and inside the flat half above q
flat_inside : (p q r : ℤ) → IsInside 3 (vectors_at square flat) (p ∷ q ∷ r ∷ []) → pos 1 ≤ℤ (p -ℤ q)
flat_inside p q r i =
    let u = three i.factors i.one_each in
    let e = subst (λ (fs : List ℤ). combination 3 fs (vectors_at square flat) ≡ scaled i.multiple (p ∷ q ∷ r ∷ [])) u.3 i.same in
    let n = subst (λ (fs : List ℤ). Each (λ c. pos 0 <ℤ c) fs) u.3 i.each in
    let k = n.1.0 in
    pos_of_mul i.multiple (p -ℤ q) i.positive (omega (arith, ints, k, flat_sum u.0 u.1 u.2 i.multiple p q r e))

inside_width : (x : Vector) → IsInside 3 (vectors_at square steep) x → length x ≡ 3
inside_width x i =
    let widths : Each (HasWidth 3) (vectors_at square steep) = (refl, (refl, (refl, tt))) in
    sym (length-scaled i.multiple x) ∙ sym (ap length i.same) ∙ length-combination 3 i.factors (vectors_at square steep) widths

wedges_apart : (x : Vector) → IsInside 3 (vectors_at square steep) x → IsInside 3 (vectors_at square flat) x → ⊥
wedges_apart x i j =
    let u = three x (inside_width x i) in
    let l = steep_inside u.0 u.1 u.2 (subst (IsInside 3 (vectors_at square steep)) u.3 i) in
    let h = flat_inside u.0 u.1 u.2 (subst (IsInside 3 (vectors_at square flat)) u.3 j) in
    omega (arith, ints, l, h)

all_apart : (p q : List ℕ) → Contains wedges p → Contains wedges q → p ≢ q → AreApart 3 (IsInCone 3 square) square p q
all_apart p q c d ne = elim (contains_cases steep (flat ∷ []) p c) [
  | inl e ↦ elim (contains_cases steep (flat ∷ []) q d) [
    | inl f ↦ absurd (ne (sym e ∙ f))
    | inr g ↦ subst₂ (AreApart 3 (IsInCone 3 square) square) e (contains_one flat q g) (λ x m i j. wedges_apart x i j)
  ]
  | inr h ↦ elim (contains_cases steep (flat ∷ []) q d) [
    | inl f ↦ subst₂ (AreApart 3 (IsInCone 3 square) square) (contains_one flat p h) f (λ x m i j. wedges_apart x j i)
    | inr g ↦ absurd (ne (sym (contains_one flat p h) ∙ contains_one flat q g))
  ]
]

-- the two halves along the other diagonal are a good cover
pub wedges_good : IsGoodCover 3 (IsInCone 3 square) square wedges
wedges_good = record {
  in_order = ((inr (refl, inl (omega arith)), tt), (tt, tt));
  simplices = (steep_simplex, (flat_simplex, tt));
  covers = λ x m n.
      let u = four m.factors m.one_each in
      wedges_cover x u.0 u.1 u.2 u.3 m.multiple m.positive
      (subst (λ (fs : List ℤ). Each (λ t. pos 0 ≤ℤ t) fs) u.4 m.each)
      (subst (λ (fs : List ℤ). combination 3 fs square ≡ scaled m.multiple x) u.4 m.same);
  no_overlap = all_apart;
  none = λ e. absurd cc;
}

-- in the other order they are none
pub wrong_order_not_good : ¬ IsGoodCover 3 (IsInCone 3 square) square (flat ∷ steep ∷ [])
wrong_order_not_good g = elim g.in_order.0.0 [
  | inl h ↦ omega (arith, h)
  | inr h ↦ elim h.1 [
    | inl k ↦ omega (arith, k)
    | inr k ↦ (let e = k.0 in omega (arith, e))
  ]
]
