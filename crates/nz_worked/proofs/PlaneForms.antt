-- Normal forms on the plane: those of vectors whose entries are at most m and n in size have entries of at most n and m.
use Rattle.std.proofs.Common.{◌≡◌, ◌≢◌, ◌⊎◌, inl, inr, ℕ, zero, suc, ◌*◌, ◌<◌, ◌≤◌, List, [], ◌∷◌, ◌++◌, ℤ, pos, negsuc, neg_ℤ, ◌+ℤ◌, ◌*ℤ◌, unsigned_abs, Contains, subst, ap, ap₂, sym, refl, ◌∙◌, arith}
use Rattle.std.proofs.lemmas.Int.{ints, unsigned_abs-mul}
use Rattle.std.proofs.Math.IntN.{*ℤ_comm, *ℤ-zero}
use Rattle.std.proofs.Math.Nat.{mul-le-mul}
use Rattle.std.specs.List.{AllByRecursion as Each}
use Rattle.nz_spec.specs.Vectors.{Vector, dot, plus, combination, scaled, IsZero, IsNonzero, IsPrimitive, IsMultipleOf}
use Rattle.nz_spec.specs.Forms.{LeadsAt, IsKeyColumn, IsEquationAt, IsEquation, IsDualForm, IsNormalForm}
use Rattle.nz_spec.proofs.ListLaws.{contains_here, contains_there, Each-contains, Each-weaker}
use Rattle.nz_spec.proofs.IntLaws.{multiple_zero, zero_product, add-mul}
use Rattle.nz_spec.proofs.VectorLaws.{zero_or_not}
use Rattle.nz_spec.proofs.Examples.{two}
use Rattle.nz_linear.proofs.Division.{primitive_multiple}
use Rattle.nz_linear.proofs.Lists.{each_insert, each_remove}
use Rattle.nz_linear.proofs.Ring.{mul-neg, neg-mul}
use Rattle.nz_range.proofs.Fits.{abs_of_neg}

-- two entries, of at most m and n in size
pub record IsBounded (m n : ℕ) (x : Vector) : Type 0 where
  pub front : ℤ
  pub back : ℤ
  pub same : x ≡ front ∷ back ∷ []
  pub front_most : unsigned_abs front ≤ m
  pub back_most : unsigned_abs back ≤ n

-- ---- sizes
abs_zero : (a : ℤ) → unsigned_abs a ≡ 0 → a ≡ pos 0
abs_zero (pos zero) e = refl
abs_zero (pos (suc n)) e = absurd (omega (arith, e))
abs_zero (negsuc n) e = absurd (omega (arith, e))

zero_abs : (n : ℕ) (a : ℤ) → a ≡ pos 0 → unsigned_abs a ≤ n
zero_abs n a e = let f = ap unsigned_abs e in omega (arith, f)

divisor_size : (d a k : ℤ) → d ≡ k *ℤ a → d ≢ pos 0 → unsigned_abs a ≤ unsigned_abs d
divisor_size d a k e n = by (unsigned_abs k) refl
  where
    by : (s : ℕ) → unsigned_abs k ≡ s → unsigned_abs a ≤ unsigned_abs d
    by zero z = absurd (n (e ∙ ap (λ (t : ℤ). t *ℤ a) (abs_zero k z) ∙ *ℤ_comm (pos 0) a ∙ *ℤ-zero a))
    by (suc s) z =
        let m : unsigned_abs d ≡ unsigned_abs k * unsigned_abs a = ap unsigned_abs e ∙ unsigned_abs-mul k a in
        let one : 1 ≤ unsigned_abs k = omega (arith, z) in
        let self : unsigned_abs a ≤ unsigned_abs a = omega arith in
        let l : 1 * unsigned_abs a ≤ unsigned_abs k * unsigned_abs a = mul-le-mul one self in
        omega (arith, l, m)

-- what divides 1 has the size 1
one_size : (a k : ℤ) → pos 1 ≡ k *ℤ a → unsigned_abs a ≤ 1
one_size a k e = divisor_size (pos 1) a k e (λ z. let f : pos 1 ≡ pos 0 = z in omega (arith, ints, f))

-- ---- a primitive form that is 0 at a vector
module _ (a b c d : ℤ) (p : IsPrimitive (a ∷ b ∷ [])) (n : IsNonzero (c ∷ d ∷ [])) (e : a *ℤ c +ℤ (b *ℤ d +ℤ pos 0) ≡ pos 0) where
  turned_first : scaled d (a ∷ b ∷ []) ≡ scaled a (d ∷ neg_ℤ c ∷ [])
  turned_first =
      let m = mul-neg a c in
      let q = *ℤ_comm d b in
      ap₂ (λ (x y : ℤ). x ∷ y ∷ []) (*ℤ_comm d a) (omega (arith, ints, e, m, q))

  turned_second : scaled (neg_ℤ c) (a ∷ b ∷ []) ≡ scaled b (d ∷ neg_ℤ c ∷ [])
  turned_second =
      let m = neg-mul c a in
      let q = *ℤ_comm c a in
      ap₂ (λ (x y : ℤ). x ∷ y ∷ []) (omega (arith, ints, e, m, q)) (*ℤ_comm (neg_ℤ c) b)

  first_below : unsigned_abs a ≤ unsigned_abs d
  first_below = elim (zero_or_not (d ∷ [])) [
    | inl z ↦ (
        let f : b *ℤ d ≡ pos 0 = ap (λ (t : ℤ). b *ℤ t) z.0 ∙ *ℤ-zero b in
        let g = *ℤ_comm c a in
        zero_abs (unsigned_abs d) a (zero_product c a (λ y. n (y, z)) (omega (arith, ints, e, f, g))))
    | inr y ↦ (let k = primitive_multiple d a (a ∷ b ∷ []) (d ∷ neg_ℤ c ∷ []) turned_first p in divisor_size d a k.0 k.1 (λ z. y (z, tt)))
  ]

  second_below : unsigned_abs b ≤ unsigned_abs c
  second_below = elim (zero_or_not (c ∷ [])) [
    | inl z ↦ (
        let f : a *ℤ c ≡ pos 0 = ap (λ (t : ℤ). a *ℤ t) z.0 ∙ *ℤ-zero a in
        let g = *ℤ_comm d b in
        zero_abs (unsigned_abs c) b (zero_product d b (λ y. n (z.0, (y, tt))) (omega (arith, ints, e, f, g))))
    | inr y ↦ (
        let k = primitive_multiple (neg_ℤ c) b (a ∷ b ∷ []) (d ∷ neg_ℤ c ∷ []) turned_second p in
        let l = divisor_size (neg_ℤ c) b k.0 k.1 (λ z. y (omega (arith, ints, z), tt)) in
        let m = abs_of_neg c in
        omega (arith, l, m))
  ]

-- one with a zero has a 1 beside it
first_alone : (a b : ℤ) → IsPrimitive (a ∷ b ∷ []) → b ≡ pos 0 → unsigned_abs a ≤ 1
first_alone a b p z = let k = p a ((pos 1, grind (arith, ints)), (subst (IsMultipleOf a) (sym z) (multiple_zero a), tt)) in one_size a k.0 k.1

second_alone : (a b : ℤ) → IsPrimitive (a ∷ b ∷ []) → a ≡ pos 0 → unsigned_abs b ≤ 1
second_alone a b p z = let k = p b (subst (IsMultipleOf b) (sym z) (multiple_zero b), ((pos 1, grind (arith, ints)), tt)) in one_size b k.0 k.1

-- ---- key columns of vectors that are 0 or one vector
abbrev IsNoneOr : ℤ → ℤ → Vector → Type 0
IsNoneOr p q y = ((y ≡ pos 0 ∷ pos 0 ∷ []) ⊎ (y ≡ p ∷ q ∷ []))

along : (p q : ℤ) (cs : List ℤ) (vs : List Vector) → Each (IsNoneOr p q) vs → (t : ℤ) × (combination 2 cs vs ≡ scaled t (p ∷ q ∷ []))
along p q [] vs h = (pos 0, ap₂ (λ (x y : ℤ). x ∷ y ∷ []) (sym (*ℤ_comm (pos 0) p ∙ *ℤ-zero p)) (sym (*ℤ_comm (pos 0) q ∙ *ℤ-zero q)))
along p q (c ∷ cs) [] h = (pos 0, ap₂ (λ (x y : ℤ). x ∷ y ∷ []) (sym (*ℤ_comm (pos 0) p ∙ *ℤ-zero p)) (sym (*ℤ_comm (pos 0) q ∙ *ℤ-zero q)))
along p q (c ∷ cs) (v ∷ vs) h =
    let r = along p q cs vs h.1 in
    elim h.0 [
      | inl e ↦ (let z = *ℤ-zero c in (r.0, added r.0 (pos 0) (pos 0) v (combination 2 cs vs) e r.1 ∙ ap₂ (λ (x y : ℤ). x ∷ y ∷ []) (omega (arith, ints, z)) (omega (arith, ints, z))))
      | inr e ↦ (c +ℤ r.0, added r.0 p q v (combination 2 cs vs) e r.1 ∙ ap₂ (λ (x y : ℤ). x ∷ y ∷ []) (sym (add-mul c r.0 p)) (sym (add-mul c r.0 q)))
    ]
  where
    added : (t x y : ℤ) (v r : Vector) → v ≡ x ∷ y ∷ [] → r ≡ scaled t (p ∷ q ∷ []) → plus (scaled c v) r ≡ (c *ℤ x +ℤ t *ℤ p) ∷ (c *ℤ y +ℤ t *ℤ q) ∷ []
    added t x y v r e f = ap₂ (λ (v r : Vector). plus (scaled c v) r) e f

first_no_key : (p q : ℤ) (vs : List Vector) → Each (IsNoneOr p q) vs → p ≡ pos 0 → IsKeyColumn 2 vs 0 → ⊥
first_no_key p q vs h z (x, i, l) = leads x l (sym (along p q i.factors vs h).1 ∙ i.same)
  where
    leads : (x : Vector) → LeadsAt 0 x → scaled (along p q i.factors vs h).0 (p ∷ q ∷ []) ≡ scaled i.multiple x → ⊥
    leads [] l e = absurd l
    leads (a ∷ x) l e =
        let t = (along p q i.factors vs h).0 in
        let f : t *ℤ p ≡ i.multiple *ℤ a = cc in
        let k = i.positive in
        l (zero_product i.multiple a (λ y. omega (arith, ints, y, k)) (sym f ∙ ap (λ (s : ℤ). t *ℤ s) z ∙ *ℤ-zero t))

second_no_key : (p q : ℤ) (vs : List Vector) → Each (IsNoneOr p q) vs → p ≢ pos 0 ⊎ q ≡ pos 0 → IsKeyColumn 2 vs 1 → ⊥
second_no_key p q vs h o (x, i, l) = leads x l (sym (along p q i.factors vs h).1 ∙ i.same)
  where
    leads : (x : Vector) → LeadsAt 1 x → scaled (along p q i.factors vs h).0 (p ∷ q ∷ []) ≡ scaled i.multiple x → ⊥
    leads [] l e = absurd l
    leads (a ∷ []) l e = absurd l.1
    leads (a ∷ b ∷ x) l e =
        let t = (along p q i.factors vs h).0 in
        let f : t *ℤ p ≡ i.multiple *ℤ a = cc in
        let g : t *ℤ q ≡ i.multiple *ℤ b = cc in
        let k = i.positive in
        let m : i.multiple ≢ pos 0 = λ y. omega (arith, ints, y, k) in
        let s : t *ℤ p ≡ pos 0 = f ∙ ap (λ (y : ℤ). i.multiple *ℤ y) l.0 ∙ *ℤ-zero i.multiple in
        l.1 (zero_product i.multiple b m (elim o [
          | inl n ↦ sym g ∙ ap (λ (y : ℤ). y *ℤ q) (zero_product p t n (*ℤ_comm p t ∙ s)) ∙ *ℤ_comm (pos 0) q ∙ *ℤ-zero q
          | inr z ↦ sym g ∙ ap (λ (y : ℤ). t *ℤ y) z ∙ *ℤ-zero t
        ]))

-- ---- normal forms
pub record SomeNonzero (vs : List Vector) : Type 0 where
  pub vector : Vector
  pub listed : Contains vs vector
  pub nonzero : IsNonzero vector

some_nonzero : (vs : List Vector) → SomeNonzero vs ⊎ Each IsZero vs
some_nonzero [] = inr tt
some_nonzero (v ∷ vs) = elim (zero_or_not v) [
  | inr n ↦ inl (record { vector = v; listed = contains_here v vs; nonzero = n })
  | inl z ↦ elim (some_nonzero vs) [
    | inl s ↦ inl (record { vector = s.vector; listed = contains_there v s.vector vs s.listed; nonzero = s.nonzero })
    | inr all ↦ inr (z, all)
  ]
]

module _ (m n : ℕ) (m1 : 1 ≤ m) (n1 : 1 ≤ n) where
  none_or : (p q : ℤ) (vs : List Vector) → Each (IsBounded m n) vs → Each IsZero vs → Each (IsNoneOr p q) vs
  none_or p q [] h z = tt
  none_or p q (v ∷ vs) h z = (inl (nothing v h.0 z.0), none_or p q vs h.1 z.1)
    where
      nothing : (v : Vector) → IsBounded m n v → IsZero v → v ≡ pos 0 ∷ pos 0 ∷ []
      nothing v b z = let y = subst IsZero b.same z in b.same ∙ ap₂ (λ (s t : ℤ). s ∷ t ∷ []) y.0 y.1.0

  -- at a vector that is not 0
  at_nonzero : (a b : ℤ) (u : Vector) → IsPrimitive (a ∷ b ∷ []) → IsBounded m n u → IsNonzero u → dot (a ∷ b ∷ []) u ≡ pos 0 → IsBounded n m (a ∷ b ∷ [])
  at_nonzero a b u p k nz e =
      let nz' = subst IsNonzero k.same nz in
      let e' : dot (a ∷ b ∷ []) (k.front ∷ k.back ∷ []) ≡ pos 0 = ap (dot (a ∷ b ∷ [])) (sym k.same) ∙ e in
      let x = first_below a b k.front k.back p nz' e' in
      let y = second_below a b k.front k.back p nz' e' in
      let fm = k.front_most in
      let bm = k.back_most in
      record { front = a; back = b; same = refl; front_most = omega (arith, x, bm); back_most = omega (arith, y, fm) }

  first_only : (a b : ℤ) → IsPrimitive (a ∷ b ∷ []) → b ≡ pos 0 → IsBounded n m (a ∷ b ∷ [])
  first_only a b p z = let x = first_alone a b p z in let y = zero_abs m b z in record { front = a; back = b; same = refl; front_most = omega (arith, x, n1); back_most = y }

  second_only : (a b : ℤ) → IsPrimitive (a ∷ b ∷ []) → a ≡ pos 0 → IsBounded n m (a ∷ b ∷ [])
  second_only a b p z = let x = second_alone a b p z in let y = zero_abs n a z in record { front = a; back = b; same = refl; front_most = y; back_most = omega (arith, x, m1) }

  dual_bounded : (vs : List Vector) (v : Vector) (a b : ℤ) → Each (IsBounded m n) vs → IsDualForm 2 vs v (a ∷ b ∷ []) → IsBounded n m (a ∷ b ∷ [])
  dual_bounded vs v a b h d = elim (some_nonzero (d.earlier ++ d.later)) [
    | inl s ↦ at_nonzero a b s.vector d.primitive (Each-contains (IsBounded m n) (d.earlier ++ d.later) s.vector parts.1 s.listed) s.nonzero (Each-contains (λ g. dot (a ∷ b ∷ []) g ≡ pos 0) (d.earlier ++ d.later) s.vector d.zero_on s.listed)
    | inr z ↦ elim (zero_or_not (parts.0.front ∷ [])) [
      | inl y ↦ second_only a b d.primitive (d.zero_at 0 (record { within = omega arith; not_key = first_no_key parts.0.front parts.0.back vs (single z) y.0 }))
      | inr y ↦ first_only a b d.primitive (d.zero_at 1 (record { within = omega arith; not_key = second_no_key parts.0.front parts.0.back vs (single z) (inl (λ e. y (e, tt))) }))
    ]
  ]
    where
      parts : Each (IsBounded m n) (v ∷ (d.earlier ++ d.later))
      parts = each_remove (IsBounded m n) v d.earlier d.later (subst (Each (IsBounded m n)) d.whole h)

      single : Each IsZero (d.earlier ++ d.later) → Each (IsNoneOr parts.0.front parts.0.back) vs
      single z = subst (Each (IsNoneOr parts.0.front parts.0.back)) (sym d.whole) (each_insert (IsNoneOr parts.0.front parts.0.back) v d.earlier d.later (inr parts.0.same, none_or parts.0.front parts.0.back (d.earlier ++ d.later) parts.1 z))

  equation_bounded : (vs : List Vector) (c : ℕ) (a b : ℤ) → Each (IsBounded m n) vs → c < 2 → IsEquationAt 2 vs c (a ∷ b ∷ []) → IsBounded n m (a ∷ b ∷ [])
  equation_bounded vs c a b h l q = elim (some_nonzero vs) [
    | inl s ↦ at_nonzero a b s.vector q.primitive (Each-contains (IsBounded m n) vs s.vector h s.listed) s.nonzero (Each-contains (λ g. dot (a ∷ b ∷ []) g ≡ pos 0) vs s.vector q.zero_on s.listed)
    | inr z ↦ by c l q (none_or (pos 0) (pos 0) vs h z)
  ]
    where
      by : (c : ℕ) → c < 2 → IsEquationAt 2 vs c (a ∷ b ∷ []) → Each (IsNoneOr (pos 0) (pos 0)) vs → IsBounded n m (a ∷ b ∷ [])
      by zero l q o = first_only a b q.primitive (q.zero_at 1 (record { within = omega arith; not_key = second_no_key (pos 0) (pos 0) vs o (inr refl) }) (λ e. omega (arith, e)))
      by (suc zero) l q o = second_only a b q.primitive (q.zero_at 0 (record { within = omega arith; not_key = first_no_key (pos 0) (pos 0) vs o refl }) (λ e. omega (arith, e)))
      by (suc (suc c)) l q o = absurd (omega (arith, l))

  pub normal_bounded : (G : List Vector) (f : Vector) → Each (IsBounded m n) G → IsNormalForm 2 G f → IsBounded n m f
  normal_bounded G f h k = kinds k.kind
    where
      bounded : Each (IsBounded m n) k.vectors
      bounded = Each-weaker (Contains G) (IsBounded m n) (λ x c. Each-contains (IsBounded m n) G x h c) k.vectors k.of_list

      kinds : ((v : Vector) × IsDualForm 2 k.vectors v f) ⊎ IsEquation 2 k.vectors f → IsBounded n m f
      kinds (inl (v, d)) = let t = two f d.width in subst (IsBounded n m) (sym t.2) (dual_bounded k.vectors v t.0 t.1 bounded (subst (IsDualForm 2 k.vectors v) t.2 d))
      kinds (inr (c, o, q)) = let t = two f q.width in subst (IsBounded n m) (sym t.2) (equation_bounded k.vectors c t.0 t.1 bounded o.within (subst (IsEquationAt 2 k.vectors c) t.2 q))
