-- Opposite vectors, and the sign of the first nonzero entry.
use Rattle.std.proofs.Common.{◌≡◌, ◌≢◌, inl, inr, ℕ, zero, suc, ◌<◌, ◌↔◌, [], ◌∷◌, length, get_or, take, ℤ, pos, negsuc, neg_ℤ, ◌+ℤ◌, ◌*ℤ◌, ◌<ℤ◌, Bool, true, false, refl, ap₂, subst, arith}
use Rattle.std.specs.Prelude.{IsTrue, MatchBool}
use Rattle.std.proofs.lemmas.Int.{ints, by_lt_z}
use Rattle.std.proofs.Math.IntN.{zero-*ℤ}
use Rattle.std.specs.List.{AllByRecursion as Each}
use Rattle.nz_spec.specs.Vectors.{Vector, dot, plus, scaled, opposite, IsZero, IsPrimitive, IsMultipleOf, LeadsPositive}
use Rattle.nz_linear.proofs.Ring.{sums, mul-neg, neg-mul, one-mul}
use Rattle.nz_pointed.specs.Elimination.{IsTurned}

-- -1 times x and 0 times x
pub opposite_sum : (a b : ℤ) (x : Vector) → a ≡ negsuc 0 → b ≡ pos 0 → plus (scaled a x) (scaled b x) ≡ opposite x
opposite_sum a b [] e f = refl
opposite_sum a b (c ∷ x) e f =
    let h : a *ℤ c +ℤ b *ℤ c ≡ neg_ℤ c = rw e (rw f (omega (arith, sums, neg-mul (pos 1) c, one-mul c, zero-*ℤ c))) in
    ap₂ (λ s t. s ∷ t) h (opposite_sum a b x e f)

pub dot-opposite : (f x : Vector) → dot f (opposite x) ≡ neg_ℤ (dot f x)
dot-opposite [] x = refl
dot-opposite (a ∷ f) [] = refl
dot-opposite (a ∷ f) (b ∷ x) = omega (arith, sums, mul-neg a b, dot-opposite f x)

pub opposite-opposite : (x : Vector) → opposite (opposite x) ≡ x
opposite-opposite [] = refl
opposite-opposite (a ∷ x) = let h : neg_ℤ (neg_ℤ a) ≡ a = omega (arith, ints) in ap₂ (λ s t. s ∷ t) h (opposite-opposite x)

pub opposite_scaled : (x : Vector) → opposite x ≡ scaled (negsuc 0) x
opposite_scaled [] = refl
opposite_scaled (a ∷ x) = let h : neg_ℤ a ≡ negsuc 0 *ℤ a = omega (arith, sums, neg-mul (pos 1) a, one-mul a) in ap₂ (λ s t. s ∷ t) h (opposite_scaled x)

multiples_back : (d : ℤ) (x : Vector) → Each (IsMultipleOf d) (opposite x) → Each (IsMultipleOf d) x
multiples_back d [] h = tt
multiples_back d (a ∷ x) h = let (k, e) = h.0 in let n = neg-mul k d in ((neg_ℤ k, omega (arith, sums, e, n)), multiples_back d x h.1)

pub primitive_opposite : (x : Vector) → IsPrimitive x → IsPrimitive (opposite x)
primitive_opposite x p = λ d h. p d (multiples_back d x h)

pub not_true : IsTrue false → ⊥
not_true h = grind arith

pub turned_by_value : (h v u : Vector) (a : ℤ) → a ≡ dot h v → dot h v ≢ pos 0 → (IsTrue false ↔ (pos 0 <ℤ a)) → u ≡ opposite v → IsTurned h v u
turned_by_value h v u a e n s is =
    let d = dot-opposite h v in
    let below : dot h v <ℤ pos 0 = by_lt_z (dot h v) (pos 0) (λ l. l) (λ l. by_lt_z (pos 0) (dot h v) (λ k. absurd (not_true (s.1 (rw e k)))) (λ k. absurd (n (omega (arith, ints, l, k))))) in
    record { same = inr is; positive = rw is (omega (arith, ints, d, below)) }

pub leads_up : (x : Vector) (i : ℕ) → i < length x → IsZero (take i x) → pos 0 <ℤ get_or x i (pos 0) → LeadsPositive x
leads_up [] i l z p = absurd (omega arith)
leads_up (a ∷ x) zero l z p = inl p
leads_up (a ∷ x) (suc i) l z p = inr (z.0, leads_up x i (omega arith) z.1 p)

pub leads_down : (x : Vector) (i : ℕ) → i < length x → IsZero (take i x) → get_or x i (pos 0) <ℤ pos 0 → LeadsPositive (opposite x)
leads_down [] i l z p = absurd (omega arith)
leads_down (a ∷ x) zero l z p = inl (omega (arith, ints, p))
leads_down (a ∷ x) (suc i) l z p = inr (omega (arith, ints, z.0), leads_down x i (omega arith) z.1 p)

-- what the sign of the first nonzero entry says
pub leads_by : (x : Vector) (i : ℕ) (a : ℤ) (b : Bool) → i < length x → IsZero (take i x) → a ≡ get_or x i (pos 0) → a ≢ pos 0 → (IsTrue b ↔ (pos 0 <ℤ a)) → MatchBool b (LeadsPositive x) (LeadsPositive (opposite x))
leads_by x i a true l z e n s = leads_up x i l z (subst (λ t. pos 0 <ℤ t) e (s.0 refl))
leads_by x i a false l z e n s =
    let below : a <ℤ pos 0 = by_lt_z a (pos 0) (λ k. k) (λ k. by_lt_z (pos 0) a (λ m. absurd (not_true (s.1 m))) (λ m. absurd (n (omega (arith, ints, k, m))))) in
    leads_down x i l z (subst (λ t. t <ℤ pos 0) e below)
