-- The values of rows at a vector, their sum, and what is too large where it is too large.
use Rattle.std.proofs.Common.{◌≡◌, ◌⊎◌, ⊎_elim, inl, inr, ℕ, zero, suc, ◌+◌, ◌*◌, ◌<◌, ◌≤◌, ◌^◌, List, [], ◌∷◌, length, take, get_or, ℤ, pos, ◌≤ℤ◌, Contains, refl, ap, ◌∙◌, arith, add-one}
use Rattle.std.specs.Prelude.{Result, Ok, Err, MatchResult, unsigned_abs}
use Rattle.std.proofs.lemmas.Int.{ints}
use Rattle.std.specs.List.{AllByRecursion as Each}
use Rattle.nz_spec.specs.Vectors.{Vector, dot, values_at, HasWidth}
use Rattle.nz_spec.proofs.EquationLaws.{dot_comm}
use Rattle.nz_spec.proofs.ListLaws.{contains_here, contains_there}
use Rattle.nz_scalar.specs.Room.{HasRoom}
use Rattle.nz_order.specs.Totals.{total}
use Rattle.nz_order.proofs.TotalLaws.{value_total, dot-total}
use Rattle.nz_range.specs.Measures.{measure, pair_measure, SomeLargeAt}
use Rattle.nz_range.proofs.Fits.{value_size}
use Rattle.nz_range.proofs.Causes.{or_large}

pub match_map : {A E : Type 0} (P Q : A → Type 0) (R S : E → Type 0) (r : Result A E) → ((x : A) → P x → Q x) → ((e : E) → R e → S e) → MatchResult r P R → MatchResult r Q S
match_map P Q R S (Ok x) f g h = f x h
match_map P Q R S (Err e) f g h = g e h

-- ---- the sum of the sizes of the first entries
measure_suc : (xs : Vector) (i : ℕ) → i < length xs → measure (take (suc i) xs) ≡ measure (take i xs) + unsigned_abs (get_or xs i (pos 0))
measure_suc [] i l = absurd (let f : ⊥ = omega arith in f)
measure_suc (x ∷ xs) zero l = omega arith
measure_suc (x ∷ xs) (suc i) l = omega (arith, measure_suc xs i (omega arith))

measure_more : (xs : Vector) (i : ℕ) → i < length xs → measure (take (i + 1) xs) ≡ measure (take i xs) + unsigned_abs (get_or xs i (pos 0))
measure_more xs i l = ap (λ k. measure (take k xs)) (add-one i) ∙ measure_suc xs i l

pub measure_within : (xs : Vector) (i k : ℕ) → i ≤ k → measure (take i xs) ≤ measure (take k xs)
measure_within [] zero k l = omega arith
measure_within [] (suc i) zero l = omega arith
measure_within [] (suc i) (suc k) l = omega arith
measure_within (x ∷ xs) zero k l = omega arith
measure_within (x ∷ xs) (suc i) zero l = absurd (let f : ⊥ = omega arith in f)
measure_within (x ∷ xs) (suc i) (suc k) l = omega (arith, measure_within xs i k (omega arith))

pub size_next : (xs : Vector) (i : ℕ) (a b : ℤ) (n s : ℕ) → i < length xs → n ≡ unsigned_abs a → a ≡ b → b ≡ get_or xs i (pos 0) → s ≡ measure (take i xs) → s + n ≡ measure (take (i + 1) xs)
size_next xs i a b n s l e f g h = omega (arith, measure_more xs i l, h, e ∙ ap unsigned_abs (f ∙ g))

-- ---- the degree
measure_values : (rows : List Vector) (x : Vector) → Each (λ r. pos 0 ≤ℤ dot r x) rows → value_total x rows ≡ pos (measure (values_at rows x))
measure_values [] x h = refl
measure_values (r ∷ rows) x h = let p = h.0 in omega (arith, ints, p, dot_comm x r, measure_values rows x h.1)

-- the sum of the rows at a vector where none is negative
pub degree_is : (w : ℕ) (rows : List Vector) (x : Vector) → Each (HasWidth w) rows → Each (λ r. pos 0 ≤ℤ dot r x) rows → dot (total w rows) x ≡ pos (measure (values_at rows x))
degree_is w rows x wide h = dot_comm (total w rows) x ∙ dot-total x w rows wide ∙ measure_values rows x h

-- ---- where the degree is too large, so is a row
small_or_large : (h : ℤ) (rows : List Vector) (x : Vector) → (Each (λ r. pos (pair_measure r x) ≤ℤ h) rows) ⊎ SomeLargeAt h (Contains rows) (λ v. v ≡ x)
small_or_large h [] x = inl tt
small_or_large h (r ∷ rows) x = ⊎_elim
    (λ (a : pos (pair_measure r x) ≤ℤ h). ⊎_elim (λ b. inl (a, b)) (λ s. inr (record { form = s.form; vector = s.vector; is_form = contains_there r s.form rows s.is_form; named = s.named; large = s.large })) (small_or_large h rows x))
    (λ l. inr (record { form = r; vector = x; is_form = contains_here r rows; named = refl; large = l }))
    (or_large h (pair_measure r x))

small_sum : (h : ℤ) (rows : List Vector) (x : Vector) → h ≤ℤ pos (2 ^ 62) → Each (λ r. pos (pair_measure r x) ≤ℤ h) rows → measure (values_at rows x) ≤ length rows * 2 ^ 62
small_sum h [] x b s = omega arith
small_sum h (r ∷ rows) x b s =
    let a = s.0 in
    let v = value_size r x in
    omega (arith, ints, a, b, v, small_sum h rows x b s.1)

pub degree_large : (h : ℤ) (fits : ℤ → Type 0) → HasRoom h fits → (rows : List Vector) (x : Vector) → length rows < 2 ^ 64 → 2 ^ 127 ≤ measure (values_at rows x) → SomeLargeAt h (Contains rows) (λ v. v ≡ x)
degree_large h fits r rows x l m = ⊎_elim
    (λ (s : Each (λ r. pos (pair_measure r x) ≤ℤ h) rows). absurd (let k = small_sum h rows x r.at_most s in let f : ⊥ = omega (arith, k, l, m) in f))
    (λ s. s)
    (small_or_large h rows x)
