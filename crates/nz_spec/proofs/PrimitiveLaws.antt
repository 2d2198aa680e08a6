-- Primitive vectors: on a ray there is at most one.
use Rattle.std.proofs.Common.{◌≡◌, ◌≢◌, ℕ, zero, suc, ◌+◌, ◌*◌, ◌/◌, ◌%◌, ◌<◌, ◌≤◌, ◌⊎◌, inl, inr, [], ◌∷◌, length, ℤ, pos, negsuc, ◌+ℤ◌, ◌-ℤ◌, ◌*ℤ◌, ◌≤ℤ◌, refl, sym, ap, ◌∙◌, arith}
use Rattle.std.proofs.lemmas.Int.{ints}
use Rattle.std.proofs.Math.IntN.{zero-*ℤ, *ℤ_comm, pos-*ℤ-pos}
use Rattle.std.proofs.Math.Nat.{mod-lt}
use Rattle.std.proofs.lemmas.Nat.{div-add-mod'}
use Rattle.std.specs.List.{AllByRecursion as Each}
use Rattle.nz_spec.specs.Vectors.{Vector, minus, scaled, IsZero, IsMultipleOf, IsPrimitive}
use Rattle.nz_spec.proofs.VectorLaws.{length-scaled}
use Rattle.nz_spec.proofs.IntLaws.{mul-sub, mul_assoc, mul-pos, mul-nonneg, sub-mul, none_or_more, zero_product}

pub same_of_zero_minus : (x y : Vector) → length x ≡ length y → IsZero (minus x y) → x ≡ y
same_of_zero_minus [] [] h e = refl
same_of_zero_minus [] (b ∷ y) h e = absurd (omega arith)
same_of_zero_minus (a ∷ x) [] h e = absurd (omega arith)
same_of_zero_minus (a ∷ x) (b ∷ y) h e =
    let s : a ≡ b = omega (arith, ints, e.0) in
    let r = same_of_zero_minus x y (omega arith) e.1 in cc

pub scaled_cancel : (k : ℤ) → k ≢ pos 0 → (x y : Vector) → scaled k x ≡ scaled k y → x ≡ y
scaled_cancel k n [] [] e = refl
scaled_cancel k n [] (b ∷ y) e = absurd cc
scaled_cancel k n (a ∷ x) [] e = absurd cc
scaled_cancel k n (a ∷ x) (b ∷ y) e =
    let f : k *ℤ a ≡ k *ℤ b = cc in
    let g : scaled k x ≡ scaled k y = cc in
    let z = zero_product k (a -ℤ b) n (omega (arith, ints, mul-sub k a b, f)) in
    let s : a ≡ b = omega (arith, ints, z) in
    let r = scaled_cancel k n x y g in cc

-- a positive divisor of 1 is 1
pub one_of_divisor : (d : ℤ) → pos 1 ≤ℤ d → IsMultipleOf d (pos 1) → d ≡ pos 1
one_of_divisor d h (k, e) = elim (none_or_more (k -ℤ pos 1)) [
  | inl s ↦ elim (none_or_more (d -ℤ pos 2)) [
    | inl t ↦ (let r = mul-pos k (d -ℤ pos 1) (omega (arith, ints, s)) (omega (arith, ints, t)) in
        let f : k *ℤ pos 1 ≡ k = omega (arith, ints) in
        absurd (omega (arith, ints, r, e, s, f, mul-sub k d (pos 1))))
    | inr t ↦ omega (arith, ints, h, t)
  ]
  | inr s ↦ (let r = mul-nonneg (pos 0 -ℤ k) d (omega (arith, ints, s)) (omega (arith, ints, h)) in absurd (omega (arith, ints, r, e, sub-mul (pos 0) k d, zero-*ℤ d)))
]

pub each_multiple : (q : ℤ) (x : Vector) → Each (IsMultipleOf q) (scaled q x)
each_multiple q [] = tt
each_multiple q (a ∷ x) = ((a, *ℤ_comm q a), each_multiple q x)

-- one step of the Euclidean division: a = q r + s, so a z = r y gives a (y - q z) = s y
step_entry : (a q r s b c : ℤ) → a ≡ q *ℤ r +ℤ s → a *ℤ b ≡ r *ℤ c → a *ℤ (c -ℤ q *ℤ b) ≡ s *ℤ c
step_entry a q r s b c e f =
    let g : a *ℤ (q *ℤ b) ≡ (q *ℤ r) *ℤ c = sym (mul_assoc a q b) ∙ ap (λ t. t *ℤ b) (*ℤ_comm a q) ∙ mul_assoc q a b ∙ ap (λ t. q *ℤ t) f ∙ sym (mul_assoc q r c) in
    let k : s ≡ a -ℤ q *ℤ r = omega (arith, ints, e) in
    omega (arith, ints, mul-sub a c (q *ℤ b), g, ap (λ t. t *ℤ c) k, sub-mul a (q *ℤ r) c)

step_vector : (a q r s : ℤ) → a ≡ q *ℤ r +ℤ s → (z y : Vector) → scaled a z ≡ scaled r y → scaled a (minus y (scaled q z)) ≡ scaled s y
step_vector a q r s e [] [] f = refl
step_vector a q r s e [] (c ∷ y) f = absurd cc
step_vector a q r s e (b ∷ z) [] f = absurd cc
step_vector a q r s e (b ∷ z) (c ∷ y) f =
    let g : a *ℤ b ≡ r *ℤ c = cc in
    let h : scaled a z ≡ scaled r y = cc in
    let k = step_entry a q r s b c e g in
    let t = step_vector a q r s e z y h in cc

pub length_same : (a r : ℤ) (z y : Vector) → scaled a z ≡ scaled r y → length z ≡ length y
length_same a r [] [] e = refl
length_same a r [] (c ∷ y) e = absurd cc
length_same a r (b ∷ z) [] e = absurd cc
length_same a r (b ∷ z) (c ∷ y) e = let t : scaled a z ≡ scaled r y = cc in ap suc (length_same a r z y t)

same_of_none : (a : ℤ) → a ≢ pos 0 → (y z : Vector) → length y ≡ length z → scaled a (minus y z) ≡ scaled (pos 0) y → y ≡ z
same_of_none a n [] [] l e = refl
same_of_none a n [] (c ∷ z) l e = absurd (omega arith)
same_of_none a n (b ∷ y) [] l e = absurd (omega arith)
same_of_none a n (b ∷ y) (c ∷ z) l e =
    let f : a *ℤ (b -ℤ c) ≡ pos 0 *ℤ b = cc in
    let g : scaled a (minus y z) ≡ scaled (pos 0) y = cc in
    let h = zero_product a (b -ℤ c) n (f ∙ zero-*ℤ b) in
    let s : b ≡ c = omega (arith, ints, h) in
    let r = same_of_none a n y z (omega arith) g in cc

module _ (r a : ℕ) (z y : Vector) (one : 1 ≤ r) (less : r < a) (e : scaled (pos a) z ≡ scaled (pos r) y) (p : IsPrimitive y) where
  ratio : (q s : ℕ) → a ≡ q * r + s → pos a ≡ pos q *ℤ pos r +ℤ pos s
  ratio q s d = let m = pos-*ℤ-pos q r in omega (arith, ints, d, m)

  some_times : (q : ℕ) → a ≡ q * r + 0 → pos 1 ≤ℤ pos q
  some_times zero d = absurd (omega (arith, d))
  some_times (suc q) d = omega (arith, ints)

  -- y would be q times z
  no_whole : (q : ℕ) → a ≡ q * r + 0 → ⊥
  no_whole q d =
      let l = length_same (pos a) (pos r) z y e in
      let t : y ≡ scaled (pos q) z = same_of_none (pos a) (λ g. omega (arith, ints, g)) y (scaled (pos q) z) (sym l ∙ sym (length-scaled (pos q) z))
      (step_vector (pos a) (pos q) (pos r) (pos 0) (ratio q 0 d) z y e) in
      let h : Each (IsMultipleOf (pos q)) y = rw t (each_multiple (pos q) z) in
      let g = one_of_divisor (pos q) (some_times q d) (p (pos q) h) in
      let u : q ≡ 1 = omega (arith, ints, g) in
      let v : q * r ≡ r = ap (λ (j : ℕ). j * r) u ∙ omega arith in
      omega (arith, d, v)

  by_remainder : (q s : ℕ) → a ≡ q * r + s → s < r → ((s' : ℕ) (z' : Vector) → s' < r → 1 ≤ s' → scaled (pos a) z' ≡ scaled (pos s') y → ⊥) → ⊥
  by_remainder q zero d k none = no_whole q d
  by_remainder q (suc s) d k none = none (suc s) (minus y (scaled (pos q) z)) k (omega arith) (step_vector (pos a) (pos q) (pos r) (pos (suc s)) (ratio q (suc s) d) z y e)

-- a primitive vector y is no multiple a / r of a whole vector where r is below a
pub none_shorter : (fuel r a : ℕ) (z y : Vector) → r < fuel → 1 ≤ r → r < a → scaled (pos a) z ≡ scaled (pos r) y → IsPrimitive y → ⊥
none_shorter zero r a z y f one less e p = omega arith
none_shorter (suc fuel) r a z y f one less e p =
    by_remainder r a z y one less e p (a / r) (a % r) (sym (div-add-mod' a r)) (mod-lt a (omega arith))
    (λ s z' k h g. none_shorter fuel s a z' y (omega arith) h (omega arith) g p)

pub order_cases : (m n : ℕ) → (m < n) ⊎ ((m ≡ n) ⊎ (n < m))
order_cases zero zero = inr (inl refl)
order_cases zero (suc n) = inl (omega arith)
order_cases (suc m) zero = inr (inr (omega arith))
order_cases (suc m) (suc n) = elim (order_cases m n) [
  | inl h ↦ inl (omega (arith, h))
  | inr (inl h) ↦ inr (inl (ap suc h))
  | inr (inr h) ↦ inr (inr (omega (arith, h)))
]

-- two primitive vectors of one ray are the same
pub primitive_same : (a b : ℤ) (x y : Vector) → pos 1 ≤ℤ a → pos 1 ≤ℤ b → IsPrimitive x → IsPrimitive y → scaled a x ≡ scaled b y → x ≡ y
primitive_same (negsuc m) b x y h k p q e = absurd (omega (arith, ints, h))
primitive_same (pos m) (negsuc n) x y h k p q e = absurd (omega (arith, ints, k))
primitive_same (pos m) (pos n) x y h k p q e = elim (order_cases m n) [
  | inl lt ↦ absurd (none_shorter (suc m) m n y x (omega arith) (omega (arith, ints, h)) lt (sym e) p)
  | inr (inl s) ↦ scaled_cancel (pos m) (λ g. omega (arith, ints, h, g)) x y (e ∙ ap (λ (j : ℕ). scaled (pos j) y) (sym s))
  | inr (inr lt) ↦ absurd (none_shorter (suc n) n m x y (omega arith) (omega (arith, ints, k)) lt e q)
]
