-- What is large where the columns of generators are not cleared.
use Rattle.std.proofs.Common.{◌≡◌, inl, inr, ℕ, zero, suc, ◌+◌, List, [], ◌∷◌, ℤ, pos, ◌<ℤ◌, refl, ap, subst, arith}
use Rattle.std.specs.Prelude.{unsigned_abs}
use Rattle.std.specs.List.{AllByRecursion as Each, Contains}
use Rattle.std.proofs.lemmas.Int.{ints}
use Rattle.nz_spec.specs.Vectors.{Vector, dot, entry, zero_vector, HasWidth}
use Rattle.nz_spec.proofs.ListLaws.{contains_here, contains_there, contains_none, contains_cases, Each-contains}
use Rattle.nz_linear.specs.Echelon.{unit_at}
use Rattle.nz_linear.proofs.Units.{unit_at-dot}
use Rattle.nz_range.specs.Measures.{pair_measure}
use Rattle.nz_sweep.specs.Clearing.{Valued, vectors_of, none, AreZero, AreRounds, IsCleared}
use Rattle.nz_sweep.specs.Cuts.{AreValued, IsValueAt}
use Rattle.nz_sweep.specs.Numbers.{SomeNumberLarge, IsMeasureOf, measure_of, IsOfValued, value_in, IsColumnNumber, at_column, passing, taking}
use Rattle.nz_sweep.proofs.NumberLemmas.{some_map}
use Rattle.nz_sweep.proofs.GeneratingLemmas.{column_zero}

-- ---- the values before a column is cleared
valued : Vector → Vector → Valued
valued f v = record { vector = v; value = dot f v }

all_valued : Vector → List Vector → List Valued
all_valued f [] = []
all_valued f (v ∷ vs) = valued f v ∷ all_valued f vs

are_valued : (f : Vector) (vs : List Vector) → AreValued (IsValueAt f) vs (all_valued f vs)
unfolding valued all_valued
are_valued f [] = tt
are_valued f (v ∷ vs) = ((refl, refl), are_valued f vs)

valued_held : (f : Vector) (vs : List Vector) (v : Vector) → Contains vs v → Contains (all_valued f vs) (valued f v)
unfolding all_valued
valued_held f [] v c = absurd (contains_none v c)
valued_held f (u ∷ vs) v c = elim (contains_cases u vs v c) [
  | inl e ↦ subst (λ (t : Vector). Contains (valued f u ∷ all_valued f vs) (valued f t)) e (contains_here (valued f u) (all_valued f vs))
  | inr m ↦ contains_there (valued f u) (valued f v) (all_valued f vs) (valued_held f vs v m)
]

-- the measure of a unit form is the size of an entry
zero_measure : (w : ℕ) (v : Vector) → pair_measure (zero_vector w) v ≡ 0
zero_measure zero v = refl
zero_measure (suc w) [] = refl
zero_measure (suc w) (a ∷ v) = let k = zero_measure w v in omega (arith, ints, k)

unit_measure : (w c : ℕ) (v : Vector) → HasWidth w v → pair_measure (unit_at w c) v ≡ unsigned_abs (entry v c)
unit_measure zero c [] l = refl
unit_measure zero c (a ∷ v) l = absurd (omega (arith, l))
unit_measure (suc w) c [] l = absurd (omega (arith, l))
unit_measure (suc w) zero (a ∷ v) l = let k = zero_measure w v in omega (arith, ints, k)
unit_measure (suc w) (suc c) (a ∷ v) l = let k = unit_measure w c v (omega (arith, l)) in omega (arith, ints, k)

pub values_large : (h : ℤ) (w c : ℕ) (left : List Vector) (form : Vector) → Each (HasWidth w) left → form ≡ unit_at w c → SomeNumberLarge h (IsMeasureOf form left) → SomeNumberLarge h (IsColumnNumber w c left)
unfolding valued
values_large h w c left form l e u = told u.number (subst (λ (f : Vector). IsMeasureOf f left u.number) e u.is_number) u.large
  where
    told : (n : ℤ) → IsMeasureOf (unit_at w c) left n → h <ℤ pos (unsigned_abs n) → SomeNumberLarge h (IsColumnNumber w c left)
    told n (measure_of {v = v} k) big =
        let lv = Each-contains (HasWidth w) left v l k in
        let m = unit_measure w c v lv in
        let y = ap unsigned_abs (unit_at-dot w c v lv) in
        record { number = dot (unit_at w c) v; is_number = at_column (are_valued (unit_at w c) left) none (value_in {v = valued (unit_at w c) v} (valued_held (unit_at w c) left v k)); large = omega (arith, ints, m, y, big) }

-- ---- as the code has it
pub column_large : (h : ℤ) (w c : ℕ) (left : List Vector) (form : Vector) (list : List Valued) → form ≡ unit_at w c → AreValued (IsValueAt form) left list → SomeNumberLarge h (λ n. (moment : List Valued) × AreRounds list moment × IsOfValued moment n) → SomeNumberLarge h (IsColumnNumber w c left)
column_large h w c left form list e v u = some_map h (λ n k. at_column (subst (λ (f : Vector). AreValued (IsValueAt f) left list) e v) k.1 k.2) u

next_column : (w c : ℕ) (left : List Vector) (n : ℤ) → IsColumnNumber w (c + 1) left n → IsColumnNumber w (suc c) left n
next_column w c left n k = let e : c + 1 ≡ suc c = omega arith in subst (λ (t : ℕ). IsColumnNumber w t left n) e k

pub number_passed : (w c : ℕ) (left : List Vector) (form : Vector) (list : List Valued) (n : ℤ) → Each (HasWidth w) left → form ≡ unit_at w c → AreValued (IsValueAt form) left list → AreZero list → IsColumnNumber w (c + 1) left n → IsColumnNumber w c left n
number_passed w c left form list n l e v z k = passing (column_zero w c left form list l e v z) (next_column w c left n k)

pub number_taken : (w c : ℕ) (left lefts : List Vector) (form : Vector) (list : List Valued) (place : ℕ) (own : Valued) (others : List Valued) (n : ℤ) → form ≡ unit_at w c → AreValued (IsValueAt form) left list → IsCleared list place own others → lefts ≡ vectors_of others → IsColumnNumber w (c + 1) lefts n → IsColumnNumber w c left n
number_taken w c left lefts form list place own others n e v d f k =
    taking (subst (λ (t : Vector). AreValued (IsValueAt t) left list) e v) d (next_column w c (vectors_of others) n (subst (λ (t : List Vector). IsColumnNumber w (c + 1) t n) f k))
