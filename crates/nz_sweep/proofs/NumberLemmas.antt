-- From a call that gave no value to the number that is above the bound.
use Rattle.std.proofs.Common.{◌≡◌, ◌⊎◌, inl, inr, ⊎_elim, ℕ, zero, suc, ◌<◌, ◌≤◌, List, [], ◌∷◌, length, get_or, ℤ, pos, ◌-ℤ◌, ◌*ℤ◌, ◌<ℤ◌, refl, sym, ap, ◌∙◌, subst, arith}
use Rattle.std.specs.Prelude.{unsigned_abs}
use Rattle.std.specs.List.{AllByRecursion as Each, AllZip, Contains}
use Rattle.std.proofs.lemmas.Int.{ints}
use Rattle.nz_spec.specs.Vectors.{Vector, dot, entry, HasWidth}
use Rattle.nz_spec.proofs.ListLaws.{contains_here, contains_there}
use Rattle.nz_linear.proofs.Ring.{sums, ring_z, mul-one}
use Rattle.nz_linear.proofs.Signs.{sign_cases, mul_le}
use Rattle.nz_scalar.specs.Room.{IsWithin, HasRoom}
use Rattle.nz_range.specs.Measures.{pair_measure}
use Rattle.nz_range.proofs.Fits.{size_within, within_self, product_fits, value_size}
use Rattle.nz_range.proofs.Causes.{or_large}
use Rattle.nz_sweep.specs.Bases.{Base, column_of}
use Rattle.nz_sweep.specs.Duals.{Coordinate, coordinate_at, IsWholeAt}
use Rattle.nz_sweep.specs.Numbers.{SomeNumberLarge, IsEntryOf, entry_of, IsMeasureAt, measure_at, IsCoordinateNumber}

-- ---- single numbers
pub some_map : {P Q : ℤ → Type 0} (h : ℤ) → ((n : ℤ) → P n → Q n) → SomeNumberLarge h P → SomeNumberLarge h Q
some_map h f s = record { number = s.number; is_number = f s.number s.is_number; large = s.large }

pub or_within : (h n : ℤ) → IsWithin h n ⊎ (h <ℤ pos (unsigned_abs n))
or_within h n = ⊎_elim (λ l. inl (size_within h n l)) (λ l. inr l) (or_large h (unsigned_abs n))

pub unfit_large : (h : ℤ) (fits : ℤ → Type 0) → HasRoom h fits → (n : ℤ) → ¬ fits n → h <ℤ pos (unsigned_abs n)
unfit_large h fits r n u = ⊎_elim (λ w. absurd (u (within_self h fits r n w))) (λ l. l) (or_within h n)

pub product_large : (h : ℤ) (fits : ℤ → Type 0) → HasRoom h fits → (a b : ℤ) → ¬ fits (a *ℤ b) → SomeNumberLarge h (λ n. (n ≡ a) ⊎ (n ≡ b))
product_large h fits r a b u =
    ⊎_elim
    (λ (wa : IsWithin h a). ⊎_elim (λ (wb : IsWithin h b). absurd (u (product_fits h fits r a b wa wb))) (λ l. record { number = b; is_number = inr refl; large = l }) (or_within h b))
    (λ l. record { number = a; is_number = inl refl; large = l })
    (or_within h a)

-- a number less 0
pub less_zero_large : (h : ℤ) (fits : ℤ → Type 0) → HasRoom h fits → (n z : ℤ) → z ≡ pos 0 → ¬ fits (n -ℤ z) → h <ℤ pos (unsigned_abs n)
less_zero_large h fits r n z e u = let s : n -ℤ z ≡ n = omega (arith, sums, e) in unfit_large h fits r n (λ k. u (subst fits (sym s) k))

-- ---- what a list contains
pub entry_held : (x : Vector) (i : ℕ) (n : ℤ) → i < length x → n ≡ entry x i → Contains x n
entry_held [] i n l e = absurd (omega arith)
entry_held (a ∷ x) zero n l e = subst (Contains (a ∷ x)) (sym e) (contains_here a x)
entry_held (a ∷ x) (suc i) n l e = contains_there a n x (entry_held x i n (omega arith) e)

pub element_held : {A : Type 0} (xs : List A) (i : ℕ) (d x : A) → i < length xs → x ≡ get_or xs i d → Contains xs x
element_held xs i d x l e = (i, l, at xs i d x l e)
  where
    at : {A : Type 0} (xs : List A) (i : ℕ) (d x : A) → i < length xs → x ≡ get_or xs i d → get_or xs i x ≡ x
    at [] i d x l e = absurd (omega arith)
    at (y ∷ xs) zero d x l e = sym e
    at (y ∷ xs) (suc i) d x l e = at xs i d x (omega arith) e

-- the entries of a column are entries of the vectors
pub column_held : (w j : ℕ) (vs : List Vector) (n : ℤ) → Each (HasWidth w) vs → j < w → Contains (column_of vs j) n → IsEntryOf vs n
column_held w j vs n l k c = held vs l c.0 c.1 c.2
  where
    held : (us : List Vector) → Each (HasWidth w) us → (i : ℕ) → i < length (column_of us j) → get_or (column_of us j) i n ≡ n → IsEntryOf us n
    held [] l i m e = absurd (omega arith)
    held (u ∷ us) l zero m e = entry_of {v = u} (contains_here u us) (entry_held u j n (let o = l.0 in omega (arith, o, k)) (sym e))
    held (u ∷ us) l (suc i) m e = wider (held us l.1 i (omega arith) e)
      where
        wider : IsEntryOf us n → IsEntryOf (u ∷ us) n
        wider (entry_of {v = v} a b) = entry_of {v = v} (contains_there u v us a) b

-- ---- the coordinates of a vector
-- the products of a form and a vector
pub term_large : (h : ℤ) (fits : ℤ → Type 0) → HasRoom h fits → (f x : Vector) (i : ℕ) (a b : ℤ) → i < length f → length f ≡ length x → a ≡ entry f i → b ≡ entry x i → ¬ fits (a *ℤ b) → SomeNumberLarge h (λ n. Contains f n ⊎ Contains x n)
term_large h fits r f x i a b l e p q u =
    some_map h (λ n k. ⊎_elim (λ s. inl (entry_held f i n l (s ∙ p))) (λ s. inr (entry_held x i n (omega (arith, l, e)) (s ∙ q))) k) (product_large h fits r a b u)

-- a whole coordinate is no larger than the measure of its form
pub quotient_size : (v q d : ℤ) (m : ℕ) → v ≡ q *ℤ d → pos 0 <ℤ d → unsigned_abs v ≤ m → unsigned_abs q ≤ m
quotient_size v q d m e p l = elim (sign_cases q) [
  | inl z ↦ omega (arith, ints, z)
  | inr (inl a) ↦ let k = mul_le q (pos 1) d (omega (arith, ints, a)) (omega (arith, ints, p)) in omega (arith, ints, mul-one q, k, e, l, a)
  | inr (inr b) ↦ let k = mul_le (pos 0 -ℤ q) (pos 1) d (omega (arith, ints, b)) (omega (arith, ints, p)) in omega (arith, ints, mul-one (pos 0 -ℤ q), k, turned q d, e, l, b)
]
  where
    turned : (q d : ℤ) → (pos 0 -ℤ q) *ℤ d ≡ pos 0 -ℤ (q *ℤ d)
    turned q d = simp ring_z (omega (arith, sums))

pub factor_measured : (h : ℤ) (x : Vector) (cs : List Coordinate) (ks : List ℤ) (n : ℤ) → ((i : ℕ) → i < length cs → pos 0 <ℤ (coordinate_at cs i).divisor) → AllZip (IsWholeAt x) cs ks → Contains ks n → h <ℤ pos (unsigned_abs n) → SomeNumberLarge h (IsMeasureAt x cs)
factor_measured h x cs ks n p z c l = found cs ks p z c.0 c.1 c.2
  where
    found : (cs : List Coordinate) (ks : List ℤ) → ((i : ℕ) → i < length cs → pos 0 <ℤ (coordinate_at cs i).divisor) → AllZip (IsWholeAt x) cs ks → (i : ℕ) → i < length ks → get_or ks i n ≡ n → SomeNumberLarge h (IsMeasureAt x cs)
    found [] [] p z i m e = absurd (omega arith)
    found [] (k ∷ ks) p z i m e = absurd z
    found (c ∷ cs) [] p z i m e = absurd z
    found (c ∷ cs) (k ∷ ks) p z zero m e =
        let s = quotient_size (dot c.form x) k c.divisor (pair_measure c.form x) z.0 (p 0 (omega arith)) (value_size c.form x) in
        let t = ap unsigned_abs e in
        record { number = pos (pair_measure c.form x); is_number = measure_at {c = c} (contains_here c cs); large = omega (arith, ints, s, t, l) }
    found (c ∷ cs) (k ∷ ks) p z (suc i) m e = some_map h wider (found cs ks (λ j o. p (suc j) (omega (arith, o))) z.1 i (omega arith) e)
      where
        wider : (n : ℤ) → IsMeasureAt x cs n → IsMeasureAt x (c ∷ cs) n
        wider n (measure_at {c = d} a) = measure_at {c = d} (contains_there c d cs a)

-- what is large where a vector cannot be compared with a combination
pub column_large : (h : ℤ) (w j : ℕ) (vs : List Vector) (x ks col : Vector) (v : ℤ) → Each (HasWidth w) vs → length x ≡ w → j < w → v ≡ entry x j → col ≡ column_of vs j → SomeNumberLarge h (λ n. (n ≡ v) ⊎ Contains ks n ⊎ Contains col n) → SomeNumberLarge h (λ n. Contains x n ⊎ Contains ks n ⊎ IsEntryOf vs n)
column_large h w j vs x ks col v l lx k e f s =
    some_map h
    (λ n p. ⊎_elim
    (λ a. inl (entry_held x j n (omega (arith, lx, k)) (a ∙ e)))
    (λ q. ⊎_elim (λ a. inr (inl a)) (λ a. inr (inr (column_held w j vs n l k (subst (λ (t : Vector). Contains t n) f a)))) q)
    p)
    s

pub combination_number : (h : ℤ) (b : Base) (x ks : Vector) → ((i : ℕ) → i < length b.coordinates → pos 0 <ℤ (coordinate_at b.coordinates i).divisor) → AllZip (IsWholeAt x) b.coordinates ks → SomeNumberLarge h (λ n. Contains x n ⊎ Contains ks n ⊎ IsEntryOf b.vectors n) → SomeNumberLarge h (IsCoordinateNumber b x)
combination_number h b x ks p z s =
    ⊎_elim
    (λ a. record { number = s.number; is_number = inl a; large = s.large })
    (λ q. ⊎_elim
    (λ a. some_map h (λ n k. inr (inr k)) (factor_measured h x b.coordinates ks s.number p z a s.large))
    (λ a. record { number = s.number; is_number = inr (inl a); large = s.large })
    q)
    s.is_number
