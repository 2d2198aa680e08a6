-- A vector with the numbers of an interval after it, one after the other.
use Rattle.std.proofs.Common.{◌≡◌, ◌⊎◌, inl, inr, ⊎_elim, ℕ, zero, suc, ◌+◌, ◌≤◌, List, [], ◌∷◌, ◌++◌, length, ℤ, pos, ◌+ℤ◌, ◌*ℤ◌, ◌≤ℤ◌, ◌<ℤ◌, Contains, refl, sym, ap, ◌∙◌, subst, arith}
use Rattle.std.specs.Prelude.{unsigned_abs}
use Rattle.std.specs.List.{AllByRecursion as Each}
use Rattle.std.proofs.lemmas.Int.{ints, by_lt_z}
use Rattle.std.proofs.lemmas.List.{length-append, length-map, append_assoc}
use Rattle.nz_spec.specs.Vectors.{Vector}
use Rattle.nz_spec.specs.Order.{Pairwise}
use Rattle.nz_spec.proofs.ListLaws.{contains_here, contains_there}
use Rattle.nz_linear.proofs.Lists.{each_map, each_map2, each_append}
use Rattle.nz_scalar.specs.Room.{IsWithin, HasRoom}
use Rattle.nz_scalar.proofs.RoomLemmas.{one_within}
use Rattle.nz_range.proofs.Fits.{size_within}
use Rattle.nz_range.proofs.Causes.{or_large}
use Rattle.nz_lift.specs.LastEntries.{IsBetween, followed, IsFollowed, IsTooLong}

-- so many numbers from this one on
abbrev pub numbers_from : ℤ → ℕ → List ℤ
numbers_from low zero = []
numbers_from low (suc n) = low ∷ numbers_from (low +ℤ pos 1) n

numbers_length : (low : ℤ) (n : ℕ) → length (numbers_from low n) ≡ n
numbers_length low zero = refl
numbers_length low (suc n) = ap suc (numbers_length (low +ℤ pos 1) n)

numbers_push : (low : ℤ) (n : ℕ) → numbers_from low (suc n) ≡ numbers_from low n ++ (low +ℤ pos n) ∷ []
numbers_push low zero = let e : low ≡ low +ℤ pos 0 = omega (arith, ints) in ap (λ t. t ∷ []) e
numbers_push low (suc n) = let e : (low +ℤ pos 1) +ℤ pos n ≡ low +ℤ pos (suc n) = omega (arith, ints) in ap (λ ts. low ∷ ts) (numbers_push (low +ℤ pos 1) n ∙ ap (λ t. numbers_from (low +ℤ pos 1) n ++ t ∷ []) e)

numbers_in : (low : ℤ) (n : ℕ) → Each (λ t. (low ≤ℤ t) × (t <ℤ (low +ℤ pos n))) (numbers_from low n)
numbers_in low zero = tt
numbers_in low (suc n) = (
  (omega (arith, ints), omega (arith, ints)),
  each_map (λ t. ((low +ℤ pos 1) ≤ℤ t) × (t <ℤ ((low +ℤ pos 1) +ℤ pos n))) (λ t. (low ≤ℤ t) × (t <ℤ (low +ℤ pos (suc n)))) (numbers_from (low +ℤ pos 1) n)
      (λ t h. let a = h.0 in let b = h.1 in (omega (arith, ints, a), omega (arith, ints, b))) (numbers_in (low +ℤ pos 1) n),
)

numbers_order : (low : ℤ) (n : ℕ) → Pairwise ◌<ℤ◌ (numbers_from low n)
numbers_order low zero = tt
numbers_order low (suc n) = (each_map (λ t. ((low +ℤ pos 1) ≤ℤ t) × (t <ℤ ((low +ℤ pos 1) +ℤ pos n))) (◌<ℤ◌ low) (numbers_from (low +ℤ pos 1) n) (λ t h. let a = h.0 in omega (arith, ints, a)) (numbers_in (low +ℤ pos 1) n), numbers_order (low +ℤ pos 1) n)

numbers_has : (low : ℤ) (n : ℕ) (t : ℤ) → low ≤ℤ t → t <ℤ (low +ℤ pos n) → Contains (numbers_from low n) t
numbers_has low zero t l h = absurd (let f : ⊥ = omega (arith, ints, l, h) in f)
numbers_has low (suc n) t l h = by_lt_z low t
    (λ (k : low <ℤ t). contains_there low t (numbers_from (low +ℤ pos 1) n) (numbers_has (low +ℤ pos 1) n t (omega (arith, ints, k)) (omega (arith, ints, h))))
    (λ (k : t ≤ℤ low). let e : low ≡ t = omega (arith, ints, k, l) in subst (Contains (low ∷ numbers_from (low +ℤ pos 1) n)) e (contains_here low (numbers_from (low +ℤ pos 1) n)))

-- after some rounds: the numbers from low up to the next one, none of them above high
pub record IsPart (low high : ℤ) (c : Vector) (before list : List Vector) (place : ℕ) (next : ℤ) : Type 0 where
  pub count : ℕ
  pub whole : list ≡ before ++ followed c (numbers_from low count)
  pub place_is : length before + count ≡ place
  pub next_is : next ≡ low +ℤ pos count
  pub below : Each (λ t. t ≤ℤ high) (numbers_from low count)

append_nil : (xs : List Vector) → xs ≡ xs ++ []
append_nil [] = refl
append_nil (x ∷ xs) = ap (λ ys. x ∷ ys) (append_nil xs)

pub part_start : (low high : ℤ) (c : Vector) (before : List Vector) (place : ℕ) → place ≡ length before → IsPart low high c before before place low
part_start low high c before place e = record { count = 0; whole = append_nil before; place_is = omega (arith, e); next_is = omega (arith, ints); below = tt }

map_append : (c : Vector) (ts us : List ℤ) → followed c (ts ++ us) ≡ followed c ts ++ followed c us
map_append c [] us = refl
map_append c (t ∷ ts) us = ap (λ xs. (c ++ t ∷ []) ∷ xs) (map_append c ts us)

pub part_next : (low high : ℤ) (c : Vector) (before list new : List Vector) (place : ℕ) (next one after : ℤ) → next ≤ℤ high → new ≡ list ++ (c ++ next ∷ []) ∷ [] → one ≡ pos 1 → after ≡ next +ℤ one
    → IsPart low high c before list place next → IsPart low high c before new (place + 1) after
part_next low high c before list new place next one after fits is o e p =
    let n = p.count in
    let s = numbers_push low n in
    let next_is = p.next_is in
    let place_is = p.place_is in
    record {
      count = suc n;
      whole = is ∙ ap (λ xs. xs ++ (c ++ next ∷ []) ∷ []) p.whole ∙ append_assoc before (followed c (numbers_from low n)) ((c ++ next ∷ []) ∷ [])
          ∙ ap (λ xs. before ++ xs) (ap (λ t. followed c (numbers_from low n) ++ (c ++ t ∷ []) ∷ []) next_is ∙ sym (map_append c (numbers_from low n) ((low +ℤ pos n) ∷ [])) ∙ ap (followed c) (sym s));
      place_is = omega (arith, place_is);
      next_is = omega (arith, ints, next_is, o, e);
      below = subst (Each (λ t. t ≤ℤ high)) (sym s) (each_append (λ t. t ≤ℤ high) (numbers_from low n) ((low +ℤ pos n) ∷ []) p.below (omega (arith, ints, fits, next_is), tt));
    }

part_length : (low high : ℤ) (c : Vector) (before list : List Vector) (place : ℕ) (next : ℤ) → IsPart low high c before list place next → length list ≡ place
part_length low high c before list place next p =
    let a = length-append before (followed c (numbers_from low p.count)) in
    let b = length-map (numbers_from low p.count) (λ t. c ++ t ∷ []) in
    let n = numbers_length low p.count in
    let e = ap length p.whole in
    let i = p.place_is in
    omega (arith, a, b, n, e, i)

-- where the next one is above high, they are all
pub part_whole : (limit : ℕ) (low high : ℤ) (c : Vector) (before list : List Vector) (place : ℕ) (next : ℤ) → place ≤ limit → high <ℤ next → IsPart low high c before list place next → IsFollowed limit (IsBetween low high) c before list
part_whole limit low high c before list place next l above p =
    let next_is = p.next_is in record {
      numbers = numbers_from low p.count;
      are = record {
        in_order = numbers_order low p.count;
        only = each_map2 (λ t. (low ≤ℤ t) × (t <ℤ (low +ℤ pos p.count))) (λ t. t ≤ℤ high) (IsBetween low high) (numbers_from low p.count) (λ t h k. (h.0, k)) (numbers_in low p.count) p.below;
        each = λ t h. let u = h.1 in numbers_has low p.count t h.0 (omega (arith, ints, u, above, next_is));
      };
      whole = p.whole;
      within = let e = part_length low high c before list place next p in omega (arith, e, l);
    }

-- where it is not, there is one more
pub part_long : (limit : ℕ) (low high : ℤ) (c : Vector) (before list : List Vector) (place : ℕ) (next : ℤ) → limit ≤ place → next ≤ℤ high → IsPart low high c before list place next → IsTooLong limit (IsBetween low high) before
part_long limit low high c before list place next l under p =
    let n = p.count in
    let next_is = p.next_is in
    let place_is = p.place_is in
    let k = numbers_length low (suc n) in
    record {
      numbers = numbers_from low (suc n);
      in_order = numbers_order low (suc n);
      only = each_map (λ t. (low ≤ℤ t) × (t <ℤ (low +ℤ pos (suc n)))) (IsBetween low high) (numbers_from low (suc n)) (λ t h. let u = h.1 in (h.0, omega (arith, ints, u, under, next_is))) (numbers_in low (suc n));
      more = omega (arith, k, l, place_is);
    }

-- where the one after the next is no value, an end is large
pub no_next : (h : ℤ) (fits : ℤ → Type 0) → HasRoom h fits → (low high : ℤ) (c : Vector) (before list : List Vector) (place : ℕ) (next one : ℤ) → next ≤ℤ high → one ≡ pos 1 → ¬ fits (next +ℤ one) → IsPart low high c before list place next
    → (h <ℤ pos (unsigned_abs low)) ⊎ (h <ℤ pos (unsigned_abs high))
no_next h fits room low high c before list place next one under o u p =
    ⊎_elim (λ a. ⊎_elim (λ b. absurd (u (one_more (size_within h low a) (size_within h high b)))) (λ l. inr l) (or_large h (unsigned_abs high))) (λ l. inl l) (or_large h (unsigned_abs low))
  where
    one_more : IsWithin h low → IsWithin h high → fits (next +ℤ one)
    one_more wl wh =
        let e = p.next_is in
        let l0 = wl.0 in
        let h1 = wh.1 in
        let w1 = one_within h fits room in
        let m : next *ℤ pos 1 +ℤ pos 1 *ℤ pos 1 ≡ next +ℤ one = omega (arith, ints, o) in
        subst fits m (room.products next (pos 1) (pos 1) (pos 1) (omega (arith, ints, l0, e), omega (arith, ints, h1, under)) w1 w1 w1)
