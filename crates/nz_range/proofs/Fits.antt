-- Numbers within the bound of a type: what is made of them is a value.
use Rattle.std.proofs.Common.{◌≡◌, ◌⊎◌, inl, inr, ⊎_elim, ◌+◌, ◌≤◌, [], ◌∷◌, ℤ, pos, negsuc, neg_ℤ, ◌+ℤ◌, ◌*ℤ◌, ◌≤ℤ◌, refl, sym, ap, ap₂, ◌∙◌, subst, arith}
use Rattle.std.specs.Prelude.{unsigned_abs}
use Rattle.std.specs.List.{AllByRecursion as Each}
use Rattle.std.proofs.lemmas.Int.{ints}
use Rattle.std.proofs.Math.IntN.{*ℤ-zero}
use Rattle.nz_spec.specs.Vectors.{Vector, dot, plus, scaled, opposite, IsZero, IsMultipleOf}
use Rattle.nz_spec.proofs.IntLaws.{int_cases}
use Rattle.nz_linear.proofs.Ring.{sums, ring_z}
use Rattle.nz_scalar.specs.Division.{HasGcd}
use Rattle.nz_scalar.specs.Room.{IsWithin, HasRoom}
use Rattle.nz_scalar.proofs.GcdLemmas.{divisor_le, multiple_neg}
use Rattle.nz_vec.specs.Sums.{SumsFit}
use Rattle.nz_vec.specs.Combinations.{CombinationFits}
use Rattle.nz_range.specs.Measures.{measure, pair_measure}

-- ---- single numbers
pub size_within : (h n : ℤ) → pos (unsigned_abs n) ≤ℤ h → IsWithin h n
size_within h (pos n) l = (omega (arith, ints, l), omega (arith, ints, l))
size_within h (negsuc n) l = (omega (arith, ints, l), omega (arith, ints, l))

pub within_self : (h : ℤ) (fits : ℤ → Type 0) → HasRoom h fits → (n : ℤ) → IsWithin h n → fits n
within_self h fits r n w =
    let low = r.at_least in
    let e : n *ℤ pos 1 +ℤ pos 0 *ℤ pos 0 ≡ n = omega (arith, ints) in
    subst fits e (r.products n (pos 1) (pos 0) (pos 0) w (omega (arith, ints, low), low) (omega (arith, ints, low), omega (arith, ints, low)) (omega (arith, ints, low), omega (arith, ints, low)))

pub product_fits : (h : ℤ) (fits : ℤ → Type 0) → HasRoom h fits → (a b : ℤ) → IsWithin h a → IsWithin h b → fits (a *ℤ b)
product_fits h fits r a b p q =
    let low = r.at_least in
    let zero : IsWithin h (pos 0) = (omega (arith, ints, low), omega (arith, ints, low)) in
    let e : a *ℤ b +ℤ pos 0 *ℤ pos 0 ≡ a *ℤ b = omega (arith, sums) in
    subst fits e (r.products a b (pos 0) (pos 0) p q zero zero)

pub within_opposite : (h a : ℤ) → IsWithin h a → IsWithin h (neg_ℤ a)
within_opposite h a w = (let l = w.1 in omega (arith, sums, l), let l = w.0 in omega (arith, sums, l))

pub abs_of_neg : (a : ℤ) → unsigned_abs (neg_ℤ a) ≡ unsigned_abs a
abs_of_neg a = omega (arith, ints)

abs_sum : (s t : ℤ) → unsigned_abs (s +ℤ t) ≤ unsigned_abs s + unsigned_abs t
abs_sum s t = omega (arith, ints)

-- ---- the value of a form
sums_from : (h : ℤ) (fits : ℤ → Type 0) → HasRoom h fits → (s : ℤ) (f x : Vector) → pos (unsigned_abs s + pair_measure f x) ≤ℤ h → SumsFit fits s f x
sums_from h fits r s [] x l = tt
sums_from h fits r s (a ∷ f) [] l = tt
sums_from h fits r s (a ∷ f) (b ∷ x) l =
    let t = abs_sum s (a *ℤ b) in
    (within_self h fits r (a *ℤ b) (size_within h (a *ℤ b) (omega (arith, ints, l))), within_self h fits r (s +ℤ a *ℤ b) (size_within h (s +ℤ a *ℤ b) (omega (arith, ints, l, t))), sums_from h fits r (s +ℤ a *ℤ b) f x (omega (arith, ints, l, t)))

-- a form whose measure at a vector is within the bound has its value there
pub sums_fit : (h : ℤ) (fits : ℤ → Type 0) → HasRoom h fits → (f x : Vector) → pos (pair_measure f x) ≤ℤ h → SumsFit fits (pos 0) f x
sums_fit h fits r f x l = sums_from h fits r (pos 0) f x (omega (arith, ints, l))

pub value_size : (f x : Vector) → unsigned_abs (dot f x) ≤ pair_measure f x
value_size [] x = omega arith
value_size (a ∷ f) [] = omega arith
value_size (a ∷ f) (b ∷ x) = let t = abs_sum (a *ℤ b) (dot f x) in let l = value_size f x in omega (arith, t, l)

-- and the value is within the bound
pub value_within : (h : ℤ) (f x : Vector) → pos (pair_measure f x) ≤ℤ h → IsWithin h (dot f x)
value_within h f x l = size_within h (dot f x) (let v = value_size f x in omega (arith, ints, l, v))

-- ---- opposite vectors
pub measure_opposite : (x : Vector) → measure (opposite x) ≡ measure x
measure_opposite [] = refl
measure_opposite (a ∷ x) = ap₂ (λ m n. m + n) (abs_of_neg a) (measure_opposite x)

product_opposite : (a b : ℤ) → unsigned_abs (a *ℤ neg_ℤ b) ≡ unsigned_abs (a *ℤ b)
product_opposite a b =
    let e : a *ℤ neg_ℤ b ≡ neg_ℤ (a *ℤ b) = simp ring_z (omega (arith, sums)) in
    ap unsigned_abs e ∙ abs_of_neg (a *ℤ b)

pub pair_measure_opposite : (f x : Vector) → pair_measure f (opposite x) ≡ pair_measure f x
pair_measure_opposite [] x = refl
pair_measure_opposite (a ∷ f) [] = refl
pair_measure_opposite (a ∷ f) (b ∷ x) = ap₂ (λ m n. m + n) (product_opposite a b) (pair_measure_opposite f x)

-- ---- combinations of two vectors
pub combination_fits : (h : ℤ) (fits : ℤ → Type 0) → HasRoom h fits → (a : ℤ) (u : Vector) (b : ℤ) (v : Vector) → IsWithin h a → IsWithin h b → pos (measure u) ≤ℤ h → pos (measure v) ≤ℤ h → CombinationFits fits a u b v
combination_fits h fits r a [] b v wa wb lu lv = tt
combination_fits h fits r a (x ∷ u) b [] wa wb lu lv = tt
combination_fits h fits r a (x ∷ u) b (y ∷ v) wa wb lu lv =
    let wx = size_within h x (omega (arith, ints, lu)) in
    let wy = size_within h y (omega (arith, ints, lv)) in
    ((product_fits h fits r a x wa wx, product_fits h fits r b y wb wy, r.products a x b y wa wx wb wy), combination_fits h fits r a u b v wa wb (omega (arith, ints, lu)) (omega (arith, ints, lv)))

-- a divisor of a number that is not 0 is a value where that number and its negative are
divisor_fits : (h : ℤ) (fits : ℤ → Type 0) → HasRoom h fits → (d e : ℤ) → pos 0 ≤ℤ d → IsMultipleOf d e → fits e → fits (neg_ℤ e) → (e ≡ pos 0) ⊎ fits d
divisor_fits h fits r d e up m fe fn =
    ⊎_elim (λ z. inl z)
    (λ c. ⊎_elim
    (λ p. inr (r.between (pos 0) d e r.zero_fits fe up (divisor_le d e up p m)))
    (λ n. inr (r.between (pos 0) d (neg_ℤ e) r.zero_fits fn up (divisor_le d (neg_ℤ e) up (omega (arith, sums, n)) (multiple_neg d e m))))
    c)
    (int_cases e)

-- the gcd of the entries of a combination is a value
pub gcd_fits : (h : ℤ) (fits : ℤ → Type 0) → HasRoom h fits → (a : ℤ) (u : Vector) (b : ℤ) (v : Vector) → IsWithin h a → IsWithin h b → pos (measure u) ≤ℤ h → pos (measure v) ≤ℤ h
    → (d : ℤ) → HasGcd (plus (scaled a u) (scaled b v)) d → fits d
gcd_fits h fits r a u b v wa wb lu lv d g = ⊎_elim (λ z. subst fits (sym (zero_gcd z)) r.zero_fits) (λ f. f) (some u v lu lv g.divides)
  where
    zero_gcd : IsZero (plus (scaled a u) (scaled b v)) → d ≡ pos 0
    zero_gcd z = let m = g.greatest (pos 0) (multiples (plus (scaled a u) (scaled b v)) z) in m.1 ∙ *ℤ-zero m.0
      where
        multiples : (x : Vector) → IsZero x → Each (IsMultipleOf (pos 0)) x
        multiples [] z = tt
        multiples (e ∷ x) z = ((pos 0, z.0), multiples x z.1)

    some : (u v : Vector) → pos (measure u) ≤ℤ h → pos (measure v) ≤ℤ h → Each (IsMultipleOf d) (plus (scaled a u) (scaled b v)) → IsZero (plus (scaled a u) (scaled b v)) ⊎ fits d
    some [] v lu lv m = inl tt
    some (x ∷ u) [] lu lv m = inl tt
    some (x ∷ u) (y ∷ v) lu lv m =
        let wx = size_within h x (omega (arith, ints, lu)) in
        let wy = size_within h y (omega (arith, ints, lv)) in
        let e = a *ℤ x +ℤ b *ℤ y in
        let negative : neg_ℤ a *ℤ x +ℤ neg_ℤ b *ℤ y ≡ neg_ℤ e = simp ring_z (omega (arith, sums)) in
        let fn : fits (neg_ℤ e) = subst fits negative (r.products (neg_ℤ a) x (neg_ℤ b) y (within_opposite h a wa) wx (within_opposite h b wb) wy) in
        ⊎_elim
        (λ z. ⊎_elim (λ zs. inl (z, zs)) (λ f. inr f) (some u v (omega (arith, ints, lu)) (omega (arith, ints, lv)) m.1))
        (λ f. inr f)
        (divisor_fits h fits r d e g.nonneg m.0 (r.products a x b y wa wx wb wy) fn)
