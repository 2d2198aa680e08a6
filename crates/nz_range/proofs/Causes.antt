-- From a call that gave no value to the measure that is above the bound.
use Rattle.std.proofs.Common.{◌≡◌, ◌⊎◌, inl, inr, ⊎_elim, ℕ, List, [], ◌∷◌, ℤ, pos, neg_ℤ, ◌-ℤ◌, ◌≤ℤ◌, ◌<ℤ◌, refl, sym, subst, arith}
use Rattle.std.specs.Prelude.{unsigned_abs}
use Rattle.std.specs.List.{AllByRecursion as Each, Contains}
use Rattle.std.proofs.lemmas.Int.{ints, by_lt_z}
use Rattle.nz_spec.specs.Vectors.{Vector, dot, plus, scaled, opposite}
use Rattle.nz_spec.proofs.ListLaws.{contains_here, contains_there, Each-contains}
use Rattle.nz_linear.proofs.Lists.{each_map}
use Rattle.nz_linear.proofs.Division.{gcd_of, common_divides_gcd}
use Rattle.nz_scalar.specs.Division.{HasGcd}
use Rattle.nz_scalar.specs.Room.{IsWithin, HasRoom}
use Rattle.nz_vec.specs.Sums.{SumsFit}
use Rattle.nz_vec.specs.Combinations.{CombinationFits}
use Rattle.nz_range.specs.Measures.{measure, pair_measure, SomeLarge, SomeLargeAt, AreLargeFor}
use Rattle.nz_range.proofs.Fits.{size_within, within_self, sums_fit, value_size, value_within, within_opposite, measure_opposite, pair_measure_opposite, combination_fits, gcd_fits}

-- ---- decisions
pub or_large : (h : ℤ) (m : ℕ) → (pos m ≤ℤ h) ⊎ (h <ℤ pos m)
or_large h m = by_lt_z h (pos m) (λ l. inr l) (λ l. inl (omega (arith, ints, l)))

-- what needs all of these to be small is false only where one of them is large
pub unless_small : (h : ℤ) (f u v : Vector) (vs : List Vector) → Contains vs u → Contains vs v
    → (pos (pair_measure f u) ≤ℤ h → pos (pair_measure f v) ≤ℤ h → pos (measure u) ≤ℤ h → pos (measure v) ≤ℤ h → ⊥) → AreLargeFor h f vs
unless_small h f u v vs cu cv n =
    ⊎_elim (λ a. ⊎_elim (λ b. ⊎_elim (λ c. ⊎_elim (λ d. absurd (n a b c d))
    (λ l. inl (record { vector = v; named = cv; large = l })) (or_large h (measure v)))
    (λ l. inl (record { vector = u; named = cu; large = l })) (or_large h (measure u)))
    (λ l. inr (record { form = f; vector = v; is_form = refl; named = cv; large = l })) (or_large h (pair_measure f v)))
    (λ l. inr (record { form = f; vector = u; is_form = refl; named = cu; large = l })) (or_large h (pair_measure f u))

-- ---- single calls
-- the value of a form
pub value_cause : (h : ℤ) (fits : ℤ → Type 0) → HasRoom h fits → (f x : Vector) → ¬ SumsFit fits (pos 0) f x → h <ℤ pos (pair_measure f x)
value_cause h fits r f x n = ⊎_elim (λ l. absurd (n (sums_fit h fits r f x l))) (λ l. l) (or_large h (pair_measure f x))

pub value_for : (h : ℤ) (fits : ℤ → Type 0) → HasRoom h fits → (f x : Vector) (vs : List Vector) → Contains vs x → ¬ SumsFit fits (pos 0) f x → AreLargeFor h f vs
value_for h fits r f x vs c n = inr (record { form = f; vector = x; is_form = refl; named = c; large = value_cause h fits r f x n })

-- its opposite
pub opposite_cause : (h : ℤ) (fits : ℤ → Type 0) → HasRoom h fits → (f x : Vector) (a : ℤ) → a ≡ dot f x → ¬ fits (pos 0 -ℤ a) → h <ℤ pos (pair_measure f x)
opposite_cause h fits r f x a e n =
    let o : pos 0 -ℤ a ≡ neg_ℤ (dot f x) = omega (arith, ints, e) in
    ⊎_elim (λ l. absurd (n (subst fits (sym o) (within_self h fits r (neg_ℤ (dot f x)) (within_opposite h (dot f x) (value_within h f x l)))))) (λ l. l) (or_large h (pair_measure f x))

pub opposite_for : (h : ℤ) (fits : ℤ → Type 0) → HasRoom h fits → (f x : Vector) (a : ℤ) (vs : List Vector) → Contains vs x → a ≡ dot f x → ¬ fits (pos 0 -ℤ a) → AreLargeFor h f vs
opposite_for h fits r f x a vs c e n = inr (record { form = f; vector = x; is_form = refl; named = c; large = opposite_cause h fits r f x a e n })

-- ---- two vectors, each taken with the size of the value at the other
within_value : (h : ℤ) (f x : Vector) (a : ℤ) → unsigned_abs a ≡ unsigned_abs (dot f x) → pos (pair_measure f x) ≤ℤ h → IsWithin h a
within_value h f x a e l = size_within h a (let v = value_size f x in omega (arith, ints, l, v, e))

pub combination_for : (h : ℤ) (fits : ℤ → Type 0) → HasRoom h fits → (f u v : Vector) (a b : ℤ) (vs : List Vector) → Contains vs u → Contains vs v → unsigned_abs a ≡ unsigned_abs (dot f u) → unsigned_abs b ≡ unsigned_abs (dot f v)
    → ¬ CombinationFits fits a v b u → AreLargeFor h f vs
combination_for h fits r f u v a b vs cu cv ea eb n =
    unless_small h f u v vs cu cv (λ pu pv mu mv. n (combination_fits h fits r a v b u (within_value h f u a ea pu) (within_value h f v b eb pv) mv mu))

some_gcd : (xs : Vector) → (d : ℤ) × HasGcd xs d
some_gcd xs = let s = gcd_of xs in (s.g, record { nonneg = s.is.nonneg; divides = s.is.divides; greatest = λ k m. common_divides_gcd k s.g xs s.is m })

-- the gcd of the entries of such a sum
pub gcd_for : (h : ℤ) (fits : ℤ → Type 0) → HasRoom h fits → (f u v : Vector) (a b : ℤ) (vs : List Vector) → Contains vs u → Contains vs v → unsigned_abs a ≡ unsigned_abs (dot f u) → unsigned_abs b ≡ unsigned_abs (dot f v)
    → ((d : ℤ) → HasGcd (plus (scaled a v) (scaled b u)) d → ¬ fits d) → AreLargeFor h f vs
gcd_for h fits r f u v a b vs cu cv ea eb n =
    let (d, g) = some_gcd (plus (scaled a v) (scaled b u)) in
    unless_small h f u v vs cu cv (λ pu pv mu mv. n d g (gcd_fits h fits r a v b u (within_value h f u a ea pu) (within_value h f v b eb pv) mv mu d g))

-- ---- opposite vectors, and more vectors
pub large_within : (h : ℤ) (f : Vector) (vs ws : List Vector) → Each (Contains ws) vs → AreLargeFor h f vs → AreLargeFor h f ws
large_within h f vs ws c a =
    ⊎_elim
    (λ (s : SomeLarge h (Contains vs)). inl (record { vector = s.vector; named = Each-contains (Contains ws) vs s.vector c s.named; large = s.large }))
    (λ (s : SomeLargeAt h (λ g. g ≡ f) (Contains vs)). inr (record { form = s.form; vector = s.vector; is_form = s.is_form; named = Each-contains (Contains ws) vs s.vector c s.named; large = s.large }))
    a

-- v is in the list, or its opposite is
abbrev pub IsUpToSign : List Vector → Vector → Type 0
IsUpToSign ws v = Contains ws v ⊎ Contains ws (opposite v)

pub large_up_to_sign : (h : ℤ) (f : Vector) (vs ws : List Vector) → Each (IsUpToSign ws) vs → AreLargeFor h f vs → AreLargeFor h f ws
large_up_to_sign h f vs ws c a =
    ⊎_elim
    (λ (s : SomeLarge h (Contains vs)). ⊎_elim
    (λ k. inl (record { vector = s.vector; named = k; large = s.large }))
    (λ k. inl (record { vector = opposite s.vector; named = k; large = subst (λ n. h <ℤ pos n) (sym (measure_opposite s.vector)) s.large }))
    (Each-contains (IsUpToSign ws) vs s.vector c s.named))
    (λ (s : SomeLargeAt h (λ g. g ≡ f) (Contains vs)). ⊎_elim
    (λ k. inr (record { form = s.form; vector = s.vector; is_form = s.is_form; named = k; large = s.large }))
    (λ k. inr (record { form = s.form; vector = opposite s.vector; is_form = s.is_form; named = k; large = subst (λ n. h <ℤ pos n) (sym (pair_measure_opposite s.form s.vector)) s.large }))
    (Each-contains (IsUpToSign ws) vs s.vector c s.named))
    a

-- the list by itself
pub each_own : (xs : List Vector) → Each (Contains xs) xs
each_own [] = tt
each_own (x ∷ xs) = (contains_here x xs, each_map (Contains xs) (Contains (x ∷ xs)) xs (λ y k. contains_there x y xs k) (each_own xs))
