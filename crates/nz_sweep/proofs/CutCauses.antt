-- What is large where a cut forms a number that is no value of the type.
use Rattle.std.proofs.Common.{◌≡◌, ◌≢◌, ◌⊎◌, inl, inr, ⊎_elim, ℕ, List, ◌∙◌, ℤ, pos, ◌-ℤ◌, ◌+ℤ◌, ◌*ℤ◌, ◌<ℤ◌, ◌≤ℤ◌, refl, ap, subst, arith}
use Rattle.std.specs.Prelude.{Result, Ok, Err, IfOk, MatchResult, unsigned_abs, Contains}
use Rattle.std.proofs.lemmas.Int.{ints}
use Rattle.nz_spec.specs.Vectors.{Vector, dot}
use Rattle.nz_linear.proofs.Ring.{sums, ring_z}
use Rattle.nz_scalar.specs.Division.{IsFloorQuotient}
use Rattle.nz_scalar.specs.Room.{IsWithin, HasRoom}
use Rattle.nz_vec.specs.declared.answers.Num.{Num}
use Rattle.nz_vec.specs.declared.answers.Num.TheVariants.{Range, NoMemory}
use Rattle.nz_vec.specs.Combinations.{CombinationFits}
use Rattle.nz_range.specs.Measures.{pair_measure}
use Rattle.nz_range.proofs.Fits.{size_within, product_fits, value_size}
use Rattle.nz_range.proofs.Causes.{or_large}
use Rattle.nz_sweep.specs.Bases.{Base}
use Rattle.nz_sweep.specs.Clearing.{Valued}
use Rattle.nz_sweep.specs.Cuts.{AreValued, IsValueAt, IsRemainderAt, IsCofactor}
use Rattle.nz_sweep.specs.Duals.{Coordinate, coordinate_at}
use Rattle.nz_sweep.specs.Numbers.{SomeNumberLarge, IsMeasureOf, measure_of, IsClearingNumber, IsEquationNumber, clearing, IsMultiplyingNumber, own_entry, own_factor, own_divisor, IsCongruenceNumber, of_modulus, of_measure, of_clearing, of_multiplying}
use Rattle.nz_sweep.specs.Rounds.{State, ClearsTo, start_of}
use Rattle.nz_sweep.proofs.NumberLemmas.{some_map, or_within, unfit_large}
use Rattle.nz_sweep.proofs.DivisionCauses.{quotient_within, combination_large}
use Rattle.nz_sweep.proofs.GatherCauses.{above_size}

pub not_range : (e : Num) → e ≡ NoMemory → e ≡ Range → ⊥
not_range NoMemory h k = cc
not_range Range h k = cc

-- ---- remainders
pub remainder_product : (h : ℤ) (fits : ℤ → Type 0) → HasRoom h fits → (v m q : ℤ) → pos 1 ≤ℤ m → IsFloorQuotient v m q → ¬ fits (q *ℤ m) → (h <ℤ m) ⊎ (h <ℤ pos (unsigned_abs v))
remainder_product h fits r v m q p f u =
    ⊎_elim
    (λ (wm : IsWithin h m). ⊎_elim
    (λ l. absurd (u (product_fits h fits r q m (size_within h q (let s = quotient_within v m q (nonzero m p) f in omega (arith, ints, s, l))) wm)))
    (λ l. inr l)
    (or_large h (unsigned_abs v)))
    (λ l. inl (omega (arith, ints, l, p)))
    (or_within h m)
  where
    nonzero : (m : ℤ) → pos 1 ≤ℤ m → m ≢ pos 0
    nonzero m p e = omega (arith, ints, p, e)

pub remainder_rest : (h : ℤ) (fits : ℤ → Type 0) → HasRoom h fits → (v m q t : ℤ) → pos 1 ≤ℤ m → IsFloorQuotient v m q → t ≡ q *ℤ m → ¬ fits (v -ℤ t) → h <ℤ m
remainder_rest h fits r v m q t p f e u =
    let b = f.above (omega (arith, ints, p)) in
    let w : (q +ℤ pos 1) *ℤ m ≡ q *ℤ m +ℤ m = simp ring_z (omega (arith, sums)) in
    let low : pos 0 ≤ℤ (v -ℤ t) = (let x = b.0 in omega (arith, sums, e, x)) in
    let high : (v -ℤ t) <ℤ m = (let x = b.1 in omega (arith, sums, e, x, w)) in
    let l = unfit_large h fits r (v -ℤ t) u in
    omega (arith, ints, l, low, high)

pub value_cause_of : (h : ℤ) (f x : Vector) (v m : ℤ) → v ≡ dot f x → (h <ℤ m) ⊎ (h <ℤ pos (unsigned_abs v)) → (h <ℤ m) ⊎ (h <ℤ pos (pair_measure f x))
value_cause_of h f x v m e s = ⊎_elim (λ l. inl l) (λ l. inr (let k = value_size f x in let y = ap unsigned_abs e in omega (arith, ints, l, k, y))) s

pub remainder_number : (h m : ℤ) (f : Vector) (vs : List Vector) (v : Vector) → Contains vs v → (h <ℤ m) ⊎ (h <ℤ pos (pair_measure f v)) → SomeNumberLarge h (λ n. (n ≡ m) ⊎ IsMeasureOf f vs n)
remainder_number h m f vs v c s =
    ⊎_elim
    (λ l. record { number = m; is_number = inl refl; large = above_size h m l })
    (λ l. record { number = pos (pair_measure f v); is_number = inr (measure_of {v = v} c); large = l })
    s

-- ---- multiples
pub times_large : (h : ℤ) (fits : ℤ → Type 0) → HasRoom h fits → (t z : ℤ) (x : Vector) → z ≡ pos 0 → ¬ CombinationFits fits t x z x → SomeNumberLarge h (λ n. (n ≡ t) ⊎ Contains x n)
times_large h fits r t z x e u = told (combination_large h fits r t x z x u)
  where
    told : SomeNumberLarge h (λ n. (n ≡ t) ⊎ (n ≡ z) ⊎ Contains x n ⊎ Contains x n) → SomeNumberLarge h (λ n. (n ≡ t) ⊎ Contains x n)
    told s =
        let l = s.large in
        ⊎_elim
        (λ a. record { number = s.number; is_number = inl a; large = l })
        (λ v. ⊎_elim
        (λ a. absurd (let low = r.at_least in let y = ap unsigned_abs (a ∙ e) in omega (arith, ints, low, y, l)))
        (λ w. record { number = s.number; is_number = inr (⊎_elim (λ c. c) (λ c. c) w); large = l })
        v)
        s.is_number

pub own_times_large : (h m t : ℤ) (own own' : Valued) (c : Coordinate) (x : Vector) → own' ≡ own → x ≡ own'.vector → IsCofactor own.value m t → SomeNumberLarge h (λ n. (n ≡ t) ⊎ Contains x n) → SomeNumberLarge h (IsMultiplyingNumber m own c)
own_times_large h m t own own' c x e f k s =
    ⊎_elim
    (λ a. record { number = t; is_number = own_factor k; large = subst (λ (n : ℤ). h <ℤ pos (unsigned_abs n)) a s.large })
    (λ a. record { number = s.number; is_number = own_entry (subst (λ (v : Vector). Contains v s.number) (f ∙ ap (λ (v : Valued). v.vector) e) a); large = s.large })
    s.is_number

pub own_divisor_large : (h m t : ℤ) (own : Valued) (c d : Coordinate) → d ≡ c → IsCofactor own.value m t → h <ℤ pos (unsigned_abs (d.divisor *ℤ t)) → SomeNumberLarge h (IsMultiplyingNumber m own c)
own_divisor_large h m t own c d e k l = record { number = c.divisor *ℤ t; is_number = own_divisor k; large = subst (λ (u : Coordinate). h <ℤ pos (unsigned_abs (u.divisor *ℤ t))) e l }

-- ---- cuts
pub equation_clearing : (h : ℤ) (f : Vector) (b : Base) (values : List Valued) (cs : List Coordinate) → AreValued (IsValueAt f) b.vectors values → cs ≡ b.coordinates → SomeNumberLarge h (IsClearingNumber (record { valued = values; coordinates = cs })) → SomeNumberLarge h (IsEquationNumber f b)
equation_clearing h f b values cs v e s = some_map h (λ n k. clearing v k) (subst (λ (t : List Coordinate). SomeNumberLarge h (IsClearingNumber (record { valued = values; coordinates = t }))) e s)

pub congruence_clearing : (h : ℤ) (f : Vector) (m : ℤ) (b : Base) (values : List Valued) (cs : List Coordinate) → AreValued (IsRemainderAt f m) b.vectors values → cs ≡ b.coordinates → SomeNumberLarge h (IsClearingNumber (record { valued = values; coordinates = cs })) → SomeNumberLarge h (IsCongruenceNumber f m b)
congruence_clearing h f m b values cs v e s = some_map h (λ n k. of_clearing v k) (subst (λ (t : List Coordinate). SomeNumberLarge h (IsClearingNumber (record { valued = values; coordinates = t }))) e s)

pub congruence_start : (h : ℤ) (f : Vector) (m : ℤ) (b : Base) → SomeNumberLarge h (λ n. (n ≡ m) ⊎ IsMeasureOf f b.vectors n) → SomeNumberLarge h (IsCongruenceNumber f m b)
congruence_start h f m b s =
    ⊎_elim
    (λ a. record { number = m; is_number = of_modulus; large = subst (λ (n : ℤ). h <ℤ pos (unsigned_abs n)) a s.large })
    (λ a. record { number = s.number; is_number = of_measure a; large = s.large })
    s.is_number

pub congruence_end : (h : ℤ) (f : Vector) (m : ℤ) (b : Base) (values others : List Valued) (s : State) (place : ℕ) (own : Valued) → AreValued (IsRemainderAt f m) b.vectors values → ClearsTo (start_of b values) s place own others → (h <ℤ m) ⊎ SomeNumberLarge h (IsMultiplyingNumber m own (coordinate_at s.coordinates place)) → SomeNumberLarge h (IsCongruenceNumber f m b)
congruence_end h f m b values others s place own v k u =
    ⊎_elim
    (λ l. record { number = m; is_number = of_modulus; large = above_size h m l })
    (λ t. some_map h (λ n a. of_multiplying v k a) t)
    u

-- ---- as the code has them
pub IfOk-of : {X E : Type 0} (r : Result X E) (P : X → Type 0) (Q : E → Type 0) → MatchResult r P Q → IfOk r P
IfOk-of (Ok x) P Q h = h
IfOk-of (Err e) P Q h = tt

abbrev pub base_of : ℕ → List Vector → List Coordinate → Base
base_of w vs cs = record { width = w; vectors = vs; coordinates = cs }

pub same_base : (w : ℕ) (us vs : List Vector) (cs ds : List Coordinate) → us ≡ vs → cs ≡ ds → base_of w us cs ≡ base_of w vs ds
same_base w us vs cs ds e f = ap (λ (t : List Vector). base_of w t cs) e ∙ ap (λ (t : List Coordinate). base_of w vs t) f
