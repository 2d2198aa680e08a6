-- Quotients, common divisors and sums of two multiples: what is large where one of them is not formed.
use Rattle.std.proofs.Common.{◌≡◌, ◌≢◌, ◌⊎◌, inl, inr, ⊎_elim, ◌≤◌, [], ◌∷◌, ℤ, pos, ◌+ℤ◌, ◌-ℤ◌, ◌*ℤ◌, ◌<ℤ◌, ◌≤ℤ◌, refl, sym, ap, ap₂, ◌∙◌, subst, arith}
use Rattle.std.specs.Prelude.{unsigned_abs}
use Rattle.std.specs.List.{Contains}
use Rattle.std.proofs.Math.IntN.{zero-*ℤ}
use Rattle.std.proofs.lemmas.Int.{ints}
use Rattle.nz_spec.specs.Vectors.{Vector, dot}
use Rattle.nz_spec.proofs.ListLaws.{contains_here, contains_there}
use Rattle.nz_spec.proofs.IntLaws.{add-mul}
use Rattle.nz_linear.proofs.Ring.{sums, ring_z, one-mul, mul-one}
use Rattle.nz_linear.proofs.Signs.{sign_cases, mul_le, mul_pos, mul_is_pos, cancel_mul}
use Rattle.nz_linear.proofs.Division.{floor_of, gcd_of, common_divides_gcd}
use Rattle.nz_scalar.specs.Division.{IsFloorQuotient, HasGcd}
use Rattle.nz_scalar.specs.Room.{IsWithin, HasRoom}
use Rattle.nz_scalar.proofs.GcdLemmas.{divisor_le, gcd_unique}
use Rattle.nz_vec.specs.Combinations.{CombinationFits}
use Rattle.nz_range.proofs.Fits.{size_within, within_self, product_fits}
use Rattle.nz_range.proofs.Causes.{or_large}
use Rattle.nz_sweep.specs.Numbers.{SomeNumberLarge}
use Rattle.nz_sweep.specs.Rounds.{IsLeastMultiple}
use Rattle.nz_sweep.proofs.NumberLemmas.{some_map, or_within}

-- ---- floors
floor_size : (a b q : ℤ) → pos 0 <ℤ b → (q *ℤ b) ≤ℤ a → a <ℤ ((q +ℤ pos 1) *ℤ b) → unsigned_abs q ≤ unsigned_abs a
floor_size a b q p low high = elim (sign_cases (q +ℤ pos 1)) [
  | inl z ↦ let k = ap (λ t. t *ℤ b) z ∙ zero-*ℤ b in omega (arith, ints, z, k, high)
  | inr (inl u) ↦ let k = mul_le q (pos 1) b (omega (arith, ints, u)) (omega (arith, ints, p)) in omega (arith, ints, mul-one q, k, low, u)
  | inr (inr d) ↦ let k = mul_le (pos 0 -ℤ (q +ℤ pos 1)) (pos 1) b (omega (arith, ints, d)) (omega (arith, ints, p)) in omega (arith, ints, mul-one (pos 0 -ℤ (q +ℤ pos 1)), turned (q +ℤ pos 1) b, k, high, d)
]
  where
    turned : (t b : ℤ) → (pos 0 -ℤ t) *ℤ b ≡ pos 0 -ℤ (t *ℤ b)
    turned t b = simp ring_z (omega (arith, sums))

turned_right : (t b : ℤ) → t *ℤ (pos 0 -ℤ b) ≡ pos 0 -ℤ (t *ℤ b)
turned_right t b = simp ring_z (omega (arith, sums))

-- the floor of a quotient is no larger than what is divided
pub quotient_within : (a b q : ℤ) → b ≢ pos 0 → IsFloorQuotient a b q → unsigned_abs q ≤ unsigned_abs a
quotient_within a b q n f = elim (sign_cases b) [
  | inl z ↦ absurd (n z)
  | inr (inl p) ↦ let k = f.above p in floor_size a b q p k.0 k.1
  | inr (inr d) ↦
      let k = f.below d in
      let s = floor_size (pos 0 -ℤ a) (pos 0 -ℤ b) q (omega (arith, ints, d)) (omega (arith, ints, turned_right q b, k.0)) (omega (arith, ints, turned_right (q +ℤ pos 1) b, k.1)) in
      omega (arith, ints, s)
]

some_floor : (a b : ℤ) → b ≢ pos 0 → (q : ℤ) × IsFloorQuotient a b q
some_floor a b n = elim (sign_cases b) [
  | inl z ↦ absurd (n z)
  | inr (inl p) ↦
      let f = floor_of a b p in
      (f.quotient, record { above = λ u. (omega (arith, sums, f.same, f.low), omega (arith, sums, f.same, f.high, add-mul f.quotient (pos 1) b, one-mul b)); below = λ u. absurd (omega (arith, ints, p, u)) })
  | inr (inr d) ↦
      let f = floor_of (pos 0 -ℤ a) (pos 0 -ℤ b) (omega (arith, ints, d)) in
      (f.quotient, record { above = λ u. absurd (omega (arith, ints, d, u)); below = λ u. (omega (arith, sums, f.same, f.low, turned_right f.quotient b), omega (arith, sums, f.same, f.high, turned_right f.quotient b, add-mul f.quotient (pos 1) b, one-mul b)) })
]

pub quotient_large : (h : ℤ) (fits : ℤ → Type 0) → HasRoom h fits → (a b : ℤ) → b ≢ pos 0 → ((z : ℤ) → IsFloorQuotient a b z → ¬ fits z) → h <ℤ pos (unsigned_abs a)
quotient_large h fits r a b n u =
    let (q, f) = some_floor a b n in
    ⊎_elim (λ l. absurd (u q f (within_self h fits r q (size_within h q (let s = quotient_within a b q n f in omega (arith, ints, s, l)))))) (λ l. l) (or_large h (unsigned_abs a))

-- ---- common divisors
pub some_gcd : (xs : Vector) → (d : ℤ) × HasGcd xs d
some_gcd xs = let s = gcd_of xs in (s.g, record { nonneg = s.is.nonneg; divides = s.is.divides; greatest = λ k m. common_divides_gcd k s.g xs s.is m })

pub gcd_large : (h : ℤ) (fits : ℤ → Type 0) → HasRoom h fits → (a b : ℤ) → pos 0 <ℤ a → ((z : ℤ) → HasGcd (a ∷ b ∷ []) z → ¬ fits z) → h <ℤ a
gcd_large h fits r a b p u =
    let (d, g) = some_gcd (a ∷ b ∷ []) in
    let low = g.nonneg in
    ⊎_elim
    (λ (l : pos (unsigned_abs a) ≤ℤ h). absurd (u d g (within_self h fits r d (let k = divisor_le d a low (omega (arith, ints, p)) g.divides.0 in (omega (arith, ints, low, k, l, p), omega (arith, ints, low, k, l, p))))))
    (λ l. omega (arith, ints, l, p))
    (or_large h (unsigned_abs a))

pub gcd_other_large : (h : ℤ) (fits : ℤ → Type 0) → HasRoom h fits → (a b : ℤ) → pos 0 <ℤ b → ((z : ℤ) → HasGcd (a ∷ b ∷ []) z → ¬ fits z) → h <ℤ b
gcd_other_large h fits r a b p u =
    let (d, g) = some_gcd (a ∷ b ∷ []) in
    let low = g.nonneg in
    ⊎_elim
    (λ (l : pos (unsigned_abs b) ≤ℤ h). absurd (u d g (within_self h fits r d (let k = divisor_le d b low (omega (arith, ints, p)) g.divides.1.0 in (omega (arith, ints, low, k, l, p), omega (arith, ints, low, k, l, p))))))
    (λ l. omega (arith, ints, l, p))
    (or_large h (unsigned_abs b))

-- ---- the least common multiple
record TwoFactors (g d e : ℤ) : Type 0 where
  u : ℤ
  v : ℤ
  same : g ≡ u *ℤ d +ℤ v *ℤ e

two_factors : (d e : ℤ) (fs : Vector) → TwoFactors (dot fs (d ∷ e ∷ [])) d e
two_factors d e [] = record { u = pos 0; v = pos 0; same = sym (ap₂ (λ s t. s +ℤ t) (zero-*ℤ d) (zero-*ℤ e)) }
two_factors d e (u ∷ []) = record { u = u; v = pos 0; same = ap (λ t. u *ℤ d +ℤ t) (sym (zero-*ℤ e)) }
two_factors d e (u ∷ v ∷ fs) = record { u = u; v = v; same = ap (λ t. u *ℤ d +ℤ t) (let n = nothing fs in omega (arith, sums, n)) }
  where
    nothing : (fs : Vector) → dot fs [] ≡ pos 0
    nothing [] = refl
    nothing (f ∷ fs) = refl

gcd_factors : (d e g : ℤ) → HasGcd (d ∷ e ∷ []) g → TwoFactors g d e
gcd_factors d e g h =
    let s = gcd_of (d ∷ e ∷ []) in
    let same : s.g ≡ g = gcd_unique (d ∷ e ∷ []) s.g g (record { nonneg = s.is.nonneg; divides = s.is.divides; greatest = λ k m. common_divides_gcd k s.g (d ∷ e ∷ []) s.is m }) h in
    subst (λ (t : ℤ). TwoFactors t d e) (sym s.is.same ∙ same) (two_factors d e s.is.factors)

pub least_of : (d e g a b : ℤ) → pos 0 <ℤ d → pos 0 <ℤ e → pos 0 <ℤ g → HasGcd (d ∷ e ∷ []) g → g *ℤ a ≡ e → g *ℤ b ≡ d → IsLeastMultiple d e (a *ℤ d)
least_of d e g a b pd pe pg h ea eb = record {
  positive = mul_pos a d (mul_is_pos g a pg (subst (λ (t : ℤ). pos 0 <ℤ t) (sym ea) pe)) pd;
  of_first = (a, refl);
  of_second = (b, ap (λ t. a *ℤ t) (sym eb) ∙ swap a g b ∙ ap (λ t. b *ℤ t) ea);
  least = λ n x y. let f = gcd_factors d e g h in (
    f.u *ℤ y.0 +ℤ f.v *ℤ x.0,
    cancel_mul g n ((f.u *ℤ y.0 +ℤ f.v *ℤ x.0) *ℤ (a *ℤ d)) pg
        (ap (λ t. t *ℤ n) f.same ∙ parts f.u f.v d e n ∙ ap₂ (λ s t. f.u *ℤ (d *ℤ s) +ℤ f.v *ℤ (e *ℤ t)) y.1 x.1 ∙ common f.u f.v d e y.0 x.0 ∙ ap (λ t. (f.u *ℤ y.0 +ℤ f.v *ℤ x.0) *ℤ (t *ℤ d)) (sym ea) ∙ last (f.u *ℤ y.0 +ℤ f.v *ℤ x.0) g a d),
  );
}
  where
    swap : (a g b : ℤ) → a *ℤ (g *ℤ b) ≡ b *ℤ (g *ℤ a)
    swap a g b = simp ring_z (omega (arith, sums))

    parts : (u v d e n : ℤ) → (u *ℤ d +ℤ v *ℤ e) *ℤ n ≡ u *ℤ (d *ℤ n) +ℤ v *ℤ (e *ℤ n)
    parts u v d e n = simp ring_z (omega (arith, sums))

    common : (u v d e y x : ℤ) → u *ℤ (d *ℤ (y *ℤ e)) +ℤ v *ℤ (e *ℤ (x *ℤ d)) ≡ (u *ℤ y +ℤ v *ℤ x) *ℤ (e *ℤ d)
    common u v d e y x = simp ring_z (omega (arith, sums))

    last : (s g a d : ℤ) → s *ℤ ((g *ℤ a) *ℤ d) ≡ g *ℤ (s *ℤ (a *ℤ d))
    last s g a d = simp ring_z (omega (arith, sums))

-- ---- sums of two multiples
pub combination_large : (h : ℤ) (fits : ℤ → Type 0) → HasRoom h fits → (a : ℤ) (u : Vector) (b : ℤ) (v : Vector) → ¬ CombinationFits fits a u b v → SomeNumberLarge h (λ n. (n ≡ a) ⊎ (n ≡ b) ⊎ Contains u n ⊎ Contains v n)
combination_large h fits r a u b v n =
    ⊎_elim
    (λ (wa : IsWithin h a). ⊎_elim
    (λ (wb : IsWithin h b). some_map h (λ k s. inr (inr s)) (entries u v wa wb n))
    (λ l. record { number = b; is_number = inr (inl refl); large = l })
    (or_within h b))
    (λ l. record { number = a; is_number = inl refl; large = l })
    (or_within h a)
  where
    entries : (u v : Vector) → IsWithin h a → IsWithin h b → ¬ CombinationFits fits a u b v → SomeNumberLarge h (λ n. Contains u n ⊎ Contains v n)
    entries [] v wa wb n = absurd (n tt)
    entries (x ∷ u) [] wa wb n = absurd (n tt)
    entries (x ∷ u) (y ∷ v) wa wb n =
        ⊎_elim
        (λ (wx : IsWithin h x). ⊎_elim
        (λ (wy : IsWithin h y). some_map h (λ k s. ⊎_elim (λ c. inl (contains_there x k u c)) (λ c. inr (contains_there y k v c)) s) (entries u v wa wb (λ k. n ((product_fits h fits r a x wa wx, product_fits h fits r b y wb wy, r.products a x b y wa wx wb wy), k))))
        (λ l. record { number = y; is_number = inr (contains_here y v); large = l })
        (or_within h y))
        (λ l. record { number = x; is_number = inl (contains_here x u); large = l })
        (or_within h x)
