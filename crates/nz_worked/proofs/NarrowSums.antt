-- The narrow cone: bounds of its vectors, of its forms and of the floor sums of the two generators, and that a pool within these bounds has no measure above 2^62.
use Rattle.std.proofs.Common.{◌≡◌, ◌≢◌, ◌⊎◌, inl, inr, ℕ, zero, suc, ◌+◌, ◌*◌, ◌^◌, ◌≤◌, List, [], ◌∷◌, length, take, ℤ, pos, ◌+ℤ◌, ◌-ℤ◌, ◌*ℤ◌, ◌≤ℤ◌, unsigned_abs, Contains, subst, ap, ap₂, sym, refl, ◌∙◌, arith}
use Rattle.std.proofs.lemmas.Int.{ints, unsigned_abs-mul}
use Rattle.std.proofs.Math.IntN.{*ℤ_comm}
use Rattle.std.proofs.Math.Nat.{mul-le-mul}
use Rattle.std.specs.List.{AllByRecursion as Each, AllZip}
use Rattle.nz_spec.specs.Vectors.{Vector, dot, combination, scaled, HasWidth, unit_vectors}
use Rattle.nz_spec.specs.Sums.{IsIndependent}
use Rattle.nz_spec.specs.Boxes.{IsFloor, IsFloorSum}
use Rattle.nz_spec.proofs.IntLaws.{nonneg_of_mul, mul-sub}
use Rattle.nz_spec.proofs.VectorLaws.{dot-scaled}
use Rattle.nz_spec.proofs.LinearLaws.{many_dependent}
use Rattle.nz_spec.proofs.CoverExamples.{pos_of_mul}
use Rattle.nz_range.specs.Measures.{measure, pair_measure}
use Rattle.nz_further.proofs.StartCrowds.{independent_different}
use Rattle.nz_measures.specs.Pools.{IsPoolAbove}
use Rattle.nz_measures.proofs.BoxesOfTwo.{either}
use Rattle.nz_worked.proofs.Reaching.{lower, upper, narrow, lower_form, upper_form}
use Rattle.nz_worked.proofs.NarrowCone.{IsSide, at_lower, at_upper}
use Rattle.nz_worked.proofs.PlaneForms.{IsBounded}

-- ---- bounds
-- of the vectors but the floor sums
abbrev pub IsNear : Vector → Type 0
IsNear x = IsBounded 1000000007 1 x

-- of all vectors
abbrev pub IsFar : Vector → Type 0
IsFar x = IsBounded 1000000014000000049 1000000007 x

-- of all forms
abbrev pub IsSteep : Vector → Type 0
IsSteep f = IsBounded 1 1000000007 f

pub far_of_near : (x : Vector) → IsNear x → IsFar x
far_of_near x b = let p = b.front_most in let q = b.back_most in record { front = b.front; back = b.back; same = b.same; front_most = omega (arith, p); back_most = omega (arith, q) }

pub near_side : (x : Vector) → IsSide x → IsNear x
near_side x (inl e) = record { front = pos 1000000007; back = pos 1; same = e; front_most = omega arith; back_most = omega arith }
near_side x (inr e) = record { front = pos 1000000006; back = pos 1; same = e; front_most = omega arith; back_most = omega arith }

product_most : (a b : ℤ) (m n : ℕ) → unsigned_abs a ≤ m → unsigned_abs b ≤ n → unsigned_abs (a *ℤ b) ≤ m * n
product_most a b m n l k = let e = unsigned_abs-mul a b in let p : unsigned_abs a * unsigned_abs b ≤ m * n = mul-le-mul l k in omega (arith, e, p)

-- ---- floor sums
floor_whole : (k t c q : ℤ) → pos 1 ≤ℤ k → c ≡ k *ℤ t → IsFloor k c q → q ≡ t
floor_whole k t c q h e f =
    let a = f.at_most in
    let b = f.above in
    let m = *ℤ_comm q k in
    let n = *ℤ_comm (q +ℤ pos 1) k in
    let d = mul-sub k t q in
    let g = mul-sub k (q +ℤ pos 1) t in
    let low = nonneg_of_mul k (t -ℤ q) h (omega (arith, ints, a, e, m, d)) in
    let high = pos_of_mul k ((q +ℤ pos 1) -ℤ t) h (omega (arith, ints, b, e, n, g)) in
    omega (arith, ints, low, high)

nothing_far : (x : Vector) → pos 0 ∷ pos 0 ∷ [] ≡ x → IsFar x
nothing_far x e = record { front = pos 0; back = pos 0; same = sym e; front_most = omega arith; back_most = omega arith }

-- one of the two, by a factor of at most 1000000007
one_far : (x v : Vector) (q : ℤ) → IsSide v → unsigned_abs q ≤ 1000000007 → combination 2 (q ∷ []) (v ∷ []) ≡ x → IsFar x
one_far x v q s l e = far s
  where
    bounded : (p : ℤ) → unsigned_abs p ≤ 1000000007 → (q *ℤ p +ℤ pos 0) ∷ (q *ℤ pos 1 +ℤ pos 0) ∷ [] ≡ x → IsFar x
    bounded p k f =
        let m = product_most q p 1000000007 1000000007 l k in
        let z : q *ℤ p +ℤ pos 0 ≡ q *ℤ p = omega (arith, ints) in
        let y : q *ℤ pos 1 +ℤ pos 0 ≡ q = omega (arith, ints) in
        let zm = ap unsigned_abs z in
        let ym = ap unsigned_abs y in
        record { front = q *ℤ p +ℤ pos 0; back = q *ℤ pos 1 +ℤ pos 0; same = sym f; front_most = omega (arith, m, zm); back_most = omega (arith, l, ym) }

    far : IsSide v → IsFar x
    far (inl g) = bounded (pos 1000000007) (omega arith) (ap (λ (w : Vector). combination 2 (q ∷ []) (w ∷ [])) (sym g) ∙ e)
    far (inr g) = bounded (pos 1000000006) (omega arith) (ap (λ (w : Vector). combination 2 (q ∷ []) (w ∷ [])) (sym g) ∙ e)

abbrev IsAxis : Vector → Type 0
IsAxis e = ((e ≡ pos 1 ∷ pos 0 ∷ []) ⊎ (e ≡ pos 0 ∷ pos 1 ∷ []))

axis_of : (e : Vector) → Contains (unit_vectors 2) e → IsAxis e
axis_of e c = elim (either (pos 1 ∷ pos 0 ∷ []) (pos 0 ∷ pos 1 ∷ []) e c) [ inl k ↦ inl (sym k) | inr k ↦ inr (sym k) ]

axis_far : (e : Vector) → IsAxis e → IsFar e
axis_far e (inl k) = record { front = pos 1; back = pos 0; same = k; front_most = omega arith; back_most = omega arith }
axis_far e (inr k) = record { front = pos 0; back = pos 1; same = k; front_most = omega arith; back_most = omega arith }

-- the factors of a unit vector
low_factor : (e : Vector) → IsAxis e → unsigned_abs (dot lower_form e) ≤ 1000000007
low_factor e (inl k) = subst (λ (u : Vector). unsigned_abs (dot lower_form u) ≤ 1000000007) (sym k) (omega arith)
low_factor e (inr k) = subst (λ (u : Vector). unsigned_abs (dot lower_form u) ≤ 1000000007) (sym k) (omega arith)

high_factor : (e : Vector) → IsAxis e → unsigned_abs (dot upper_form e) ≤ 1000000007
high_factor e (inl k) = subst (λ (u : Vector). unsigned_abs (dot upper_form u) ≤ 1000000007) (sym k) (omega arith)
high_factor e (inr k) = subst (λ (u : Vector). unsigned_abs (dot upper_form u) ≤ 1000000007) (sym k) (omega arith)

abbrev swapped : List Vector
swapped = upper ∷ lower ∷ []

whole_straight : (e : Vector) → IsAxis e → combination 2 (dot lower_form e ∷ dot upper_form e ∷ []) narrow ≡ e
whole_straight e (inl k) = subst (λ (u : Vector). combination 2 (dot lower_form u ∷ dot upper_form u ∷ []) narrow ≡ u) (sym k) refl
whole_straight e (inr k) = subst (λ (u : Vector). combination 2 (dot lower_form u ∷ dot upper_form u ∷ []) narrow ≡ u) (sym k) refl

whole_swapped : (e : Vector) → IsAxis e → combination 2 (dot upper_form e ∷ dot lower_form e ∷ []) swapped ≡ e
whole_swapped e (inl k) = subst (λ (u : Vector). combination 2 (dot upper_form u ∷ dot lower_form u ∷ []) swapped ≡ u) (sym k) refl
whole_swapped e (inr k) = subst (λ (u : Vector). combination 2 (dot upper_form u ∷ dot lower_form u ∷ []) swapped ≡ u) (sym k) refl

straight_same : (c d : ℤ) → combination 2 (d ∷ c ∷ []) swapped ≡ combination 2 (c ∷ d ∷ []) narrow
straight_same c d = ap₂ (λ (m n : ℤ). m ∷ n ∷ []) (omega (arith, ints)) (omega (arith, ints))

low_of : (k c d : ℤ) (e : Vector) → combination 2 (c ∷ d ∷ []) narrow ≡ scaled k e → c ≡ k *ℤ dot lower_form e
low_of k c d e s = sym (at_lower c d) ∙ ap (dot lower_form) s ∙ dot-scaled lower_form k e

high_of : (k c d : ℤ) (e : Vector) → combination 2 (c ∷ d ∷ []) narrow ≡ scaled k e → d ≡ k *ℤ dot upper_form e
high_of k c d e s = sym (at_upper c d) ∙ ap (dot upper_form) s ∙ dot-scaled upper_form k e

-- the sums of the first ones of two with factors that make a whole vector
firsts_far : (x u v e : Vector) (q r : ℤ) (n : ℕ) → IsSide u → unsigned_abs q ≤ 1000000007 → IsFar e → combination 2 (q ∷ r ∷ []) (u ∷ v ∷ []) ≡ e → combination 2 (take n (q ∷ r ∷ [])) (u ∷ v ∷ []) ≡ x → IsFar x
firsts_far x u v e q r zero s l f w p = nothing_far x p
firsts_far x u v e q r (suc zero) s l f w p = one_far x u q s l p
firsts_far x u v e q r (suc (suc zero)) s l f w p = subst IsFar (sym w ∙ p) f
firsts_far x u v e q r (suc (suc (suc n))) s l f w p = subst IsFar (sym w ∙ p) f

pair_far : (u v e x : Vector) (k c d q r : ℤ) (n : ℕ) → pos 1 ≤ℤ k → IsSide u → IsSide v → u ≢ v → IsAxis e → combination 2 (c ∷ d ∷ []) (u ∷ v ∷ []) ≡ scaled k e → IsFloor k c q → IsFloor k d r → combination 2 (take n (q ∷ r ∷ [])) (u ∷ v ∷ []) ≡ x → IsFar x
pair_far u v e x k c d q r n h (inl a) (inl b) apart ax s f g p = absurd (apart (a ∙ sym b))
pair_far u v e x k c d q r n h (inr a) (inr b) apart ax s f g p = absurd (apart (a ∙ sym b))
pair_far u v e x k c d q r n h (inl a) (inr b) apart ax s f g p =
    let t : combination 2 (c ∷ d ∷ []) narrow ≡ scaled k e = ap₂ (λ (u v : Vector). combination 2 (c ∷ d ∷ []) (u ∷ v ∷ [])) (sym a) (sym b) ∙ s in
    let y = floor_whole k (dot lower_form e) c q h (low_of k c d e t) f in
    let z = floor_whole k (dot upper_form e) d r h (high_of k c d e t) g in
    let m = low_factor e ax in
    let ym = ap unsigned_abs y in
    firsts_far x u v e q r n (inl a) (omega (arith, m, ym)) (axis_far e ax)
    (ap₂ (λ (m n : ℤ). combination 2 (m ∷ n ∷ []) (u ∷ v ∷ [])) y z ∙ ap₂ (λ (u v : Vector). combination 2 (dot lower_form e ∷ dot upper_form e ∷ []) (u ∷ v ∷ [])) a b ∙ whole_straight e ax) p
pair_far u v e x k c d q r n h (inr a) (inl b) apart ax s f g p =
    let t : combination 2 (d ∷ c ∷ []) narrow ≡ scaled k e = sym (straight_same d c) ∙ ap₂ (λ (u v : Vector). combination 2 (c ∷ d ∷ []) (u ∷ v ∷ [])) (sym a) (sym b) ∙ s in
    let y = floor_whole k (dot upper_form e) c q h (high_of k d c e t) f in
    let z = floor_whole k (dot lower_form e) d r h (low_of k d c e t) g in
    let m = high_factor e ax in
    let ym = ap unsigned_abs y in
    firsts_far x u v e q r n (inr a) (omega (arith, m, ym)) (axis_far e ax)
    (ap₂ (λ (m n : ℤ). combination 2 (m ∷ n ∷ []) (u ∷ v ∷ [])) y z ∙ ap₂ (λ (u v : Vector). combination 2 (dot upper_form e ∷ dot lower_form e ∷ []) (u ∷ v ∷ [])) a b ∙ whole_swapped e ax) p

-- no unit vector is a multiple of one of the two
single_none : (v e : Vector) (k c : ℤ) → pos 1 ≤ℤ k → IsSide v → IsAxis e → combination 2 (c ∷ []) (v ∷ []) ≡ scaled k e → ⊥
single_none v e k c h s a same = by s a
  where
    no_first : (p : ℤ) → (p ≡ pos 1000000007) ⊎ (p ≡ pos 1000000006) → (c *ℤ p +ℤ pos 0) ∷ (c *ℤ pos 1 +ℤ pos 0) ∷ [] ≡ scaled k (pos 1 ∷ pos 0 ∷ []) → ⊥
    no_first p o t =
        let f : c *ℤ p +ℤ pos 0 ≡ k *ℤ pos 1 = cc in
        let g : c *ℤ pos 1 +ℤ pos 0 ≡ k *ℤ pos 0 = cc in
        elim o [
          | inl i ↦ (let y = ap (λ (n : ℤ). c *ℤ n) i in omega (arith, ints, f, g, y, h))
          | inr i ↦ (let y = ap (λ (n : ℤ). c *ℤ n) i in omega (arith, ints, f, g, y, h))
        ]

    no_second : (p : ℤ) → (p ≡ pos 1000000007) ⊎ (p ≡ pos 1000000006) → (c *ℤ p +ℤ pos 0) ∷ (c *ℤ pos 1 +ℤ pos 0) ∷ [] ≡ scaled k (pos 0 ∷ pos 1 ∷ []) → ⊥
    no_second p o t =
        let f : c *ℤ p +ℤ pos 0 ≡ k *ℤ pos 0 = cc in
        let g : c *ℤ pos 1 +ℤ pos 0 ≡ k *ℤ pos 1 = cc in
        elim o [
          | inl i ↦ (let y = ap (λ (n : ℤ). c *ℤ n) i in omega (arith, ints, f, g, y, h))
          | inr i ↦ (let y = ap (λ (n : ℤ). c *ℤ n) i in omega (arith, ints, f, g, y, h))
        ]

    by : IsSide v → IsAxis e → ⊥
    by (inl i) (inl j) = no_first (pos 1000000007) (inl refl) (ap (λ (w : Vector). combination 2 (c ∷ []) (w ∷ [])) (sym i) ∙ same ∙ ap (scaled k) j)
    by (inr i) (inl j) = no_first (pos 1000000006) (inr refl) (ap (λ (w : Vector). combination 2 (c ∷ []) (w ∷ [])) (sym i) ∙ same ∙ ap (scaled k) j)
    by (inl i) (inr j) = no_second (pos 1000000007) (inl refl) (ap (λ (w : Vector). combination 2 (c ∷ []) (w ∷ [])) (sym i) ∙ same ∙ ap (scaled k) j)
    by (inr i) (inr j) = no_second (pos 1000000006) (inr refl) (ap (λ (w : Vector). combination 2 (c ∷ []) (w ∷ [])) (sym i) ∙ same ∙ ap (scaled k) j)

wide : (vs : List Vector) → Each IsSide vs → Each (HasWidth 2) vs
wide [] s = tt
wide (v ∷ vs) s = (elim s.0 [ inl e ↦ ap length e | inr e ↦ ap length e ], wide vs s.1)

none_far : (x : Vector) (fs : List ℤ) → combination 2 fs [] ≡ x → IsFar x
none_far x [] e = nothing_far x e
none_far x (f ∷ fs) e = nothing_far x e

-- a floor sum of independent ones of the two
pub floor_far : (vs : List Vector) (x : Vector) → Each IsSide vs → IsIndependent 2 vs → IsFloorSum 2 vs x → IsFar x
floor_far [] x s free f = none_far x (take f.n f.floors) f.partial
floor_far (v ∷ []) x s free f = absurd (go f.factors f.one_each f.same)
  where
    go : (cs : List ℤ) → length cs ≡ 1 → combination 2 cs (v ∷ []) ≡ scaled f.multiple f.unit → ⊥
    go [] l e = omega (arith, l)
    go (c ∷ []) l e = single_none v f.unit f.multiple c f.positive s.0 (axis_of f.unit f.of_units) e
    go (c ∷ d ∷ cs) l e = omega (arith, l)
floor_far (u ∷ v ∷ []) x s free f = go f.factors f.floors f.one_each f.same f.are_floors f.partial
  where
    go : (cs qs : List ℤ) → length cs ≡ 2 → combination 2 cs (u ∷ v ∷ []) ≡ scaled f.multiple f.unit → AllZip (IsFloor f.multiple) cs qs → combination 2 (take f.n qs) (u ∷ v ∷ []) ≡ x → IsFar x
    go [] qs l e a p = absurd (omega (arith, l))
    go (c ∷ []) qs l e a p = absurd (omega (arith, l))
    go (c ∷ d ∷ []) [] l e a p = absurd a
    go (c ∷ d ∷ []) (q ∷ []) l e a p = absurd a.1
    go (c ∷ d ∷ []) (q ∷ r ∷ []) l e a p = pair_far u v f.unit x f.multiple c d q r f.n f.positive s.0 s.1.0 (independent_different 2 (u ∷ v ∷ []) (wide (u ∷ v ∷ []) s) free).0.0 (axis_of f.unit f.of_units) e a.0 a.1.0 p
    go (c ∷ d ∷ []) (q ∷ r ∷ t ∷ qs) l e a p = absurd a.1.1
    go (c ∷ d ∷ b ∷ cs) qs l e a p = absurd (omega (arith, l))
floor_far (t ∷ u ∷ v ∷ vs) x s free f =
    let m = many_dependent 2 (t ∷ u ∷ v ∷ vs) (wide (t ∷ u ∷ v ∷ vs) s) (omega arith) in
    absurd (m.not_all (free m.factors m.one_each m.sum_zero))

-- ---- pools
pub bounded_measure : (m n : ℕ) (x : Vector) → IsBounded m n x → measure x ≤ m + n
bounded_measure m n x b = let e = ap measure b.same in let p = b.front_most in let q = b.back_most in omega (arith, e, p, q)

pub bounded_pair : (f x : Vector) → IsSteep f → IsFar x → pair_measure f x ≤ 2000000028000000098
bounded_pair f x s b =
    let e = ap₂ pair_measure s.same b.same in
    let p = product_most s.front b.front 1 1000000014000000049 s.front_most b.front_most in
    let q = product_most s.back b.back 1000000007 1000000007 s.back_most b.back_most in
    omega (arith, e, p, q)

-- a pool within the bounds has no measure above 2^62
pub pool_within : (Named IsForm : Vector → Type 0) → ((x : Vector) → Named x → IsFar x) → ((f : Vector) → IsForm f → IsSteep f) → IsPoolAbove (pos (2 ^ 62)) Named IsForm → ⊥
pool_within Named IsForm a b (inl k) = elim k.named [
  | inl n ↦ (let l = bounded_measure 1000000014000000049 1000000007 k.vector (a k.vector n) in let m = k.large in omega (arith, ints, l, m))
  | inr n ↦ (let l = bounded_measure 1 1000000007 k.vector (b k.vector n) in let m = k.large in omega (arith, ints, l, m))
]
pool_within Named IsForm a b (inr k) = let l = bounded_pair k.form k.vector (b k.form k.is_form) (a k.vector k.named) in let m = k.large in omega (arith, ints, l, m)
