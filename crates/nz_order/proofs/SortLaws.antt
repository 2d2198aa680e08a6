-- Lists of a set: what is sorted and has each element once, what is pushed, inserted, joined or left out.
use Rattle.std.proofs.Common.{◌≡◌, ◌≢◌, ℕ, zero, suc, ◌<◌, ◌≤◌, inl, inr, Bool, false, List, [], ◌∷◌, ◌++◌, length, get_or, Option, Contains, refl, sym, ap, ◌∙◌, subst, arith, append_assoc, add-one}
use Rattle.std.specs.List.{AllByRecursion as Each}
use Rattle.std.specs.List.Sorted.{IsPermutation, IsSortedBy}
use Rattle.std.proofs.lemmas.List.Sorted.{Contains-permutation, length_permutation, IsPermutation-sym}
use Rattle.nz_spec.specs.Vectors.{Vector, HasWidth}
use Rattle.nz_spec.specs.Order.{StandsBefore, Pairwise, IsListOf, ListsOnce, HasNumber, MoreThan}
use Rattle.nz_spec.proofs.ListLaws.{contains_here, contains_there, contains_none, contains_cases, Each-contains, Each-from_contains, Each-weaker, different_within}
use Rattle.nz_order.specs.Picks.{Picks, none, keep, skip}
use Rattle.nz_order.proofs.OrderLaws.{stands_transitive, stands_cases, Pairwise-push}

pub Pairwise-weaker : {A : Type 0} (R S : A → A → Type 0) → ((x y : A) → R x y → S x y) → (xs : List A) → Pairwise R xs → Pairwise S xs
Pairwise-weaker R S f [] h = tt
Pairwise-weaker R S f (x ∷ xs) h = (Each-weaker (R x) (S x) (f x) xs h.0, Pairwise-weaker R S f xs h.1)

-- a list that strictly increases has no element twice
pub Pairwise-different : {A : Type 0} (B : A → A → Type 0) → ((x : A) → B x x → ⊥) → (xs : List A) → Pairwise B xs → Pairwise ◌≢◌ xs
Pairwise-different B irreflexive = Pairwise-weaker B ◌≢◌ (λ x y b e. irreflexive x (subst (B x) (sym e) b))

-- the list of a set in an order has each element once
pub IsListOf-once : {A : Type 0} (B : A → A → Type 0) → ((x : A) → B x x → ⊥) → (P : A → Type 0) (xs : List A) → IsListOf B P xs → ListsOnce P xs
IsListOf-once B irreflexive P xs p = record { in_order = Pairwise-different B irreflexive xs p.in_order; only = p.only; each = p.each }

-- a list with the same elements that is in order is the list of the set
pub IsListOf-same : {A : Type 0} (B C : A → A → Type 0) (P : A → Type 0) (xs ys : List A) → IsListOf C P xs → Pairwise B ys → ((x : A) → Contains xs x → Contains ys x) → ((x : A) → Contains ys x → Contains xs x) → IsListOf B P ys
IsListOf-same B C P xs ys p order to from = record {
  in_order = order;
  only = Each-from_contains P ys (λ x c. Each-contains P xs x p.only (from x c));
  each = λ x h. to x (p.each x h);
}

-- the list of the same set, said in other words
pub IsListOf-where : {A : Type 0} (B : A → A → Type 0) (P Q : A → Type 0) → ((x : A) → P x → Q x) → ((x : A) → Q x → P x) → (xs : List A) → IsListOf B P xs → IsListOf B Q xs
IsListOf-where B P Q to from xs p = record { in_order = p.in_order; only = Each-weaker P Q to xs p.only; each = λ x h. p.each x (from x h) }

-- without the element y the list ys still has the others
contains_without : {A : Type 0} (before after : List A) (y z : A) → Contains (before ++ y ∷ after) z → (y ≡ z → Contains after z) → Contains (before ++ after) z
contains_without [] after y z c same = elim (contains_cases y after z c) [ inl e ↦ same e | inr d ↦ d ]
contains_without (b ∷ before) after y z c same = elim (contains_cases b (before ++ y ∷ after) z c) [
  | inl e ↦ subst (Contains (b ∷ (before ++ after))) e (contains_here b (before ++ after))
  | inr d ↦ contains_there b z (before ++ after) (contains_without before after y z d same)
]

length_without : {A : Type 0} (before after : List A) (y : A) → length (before ++ y ∷ after) ≡ suc (length (before ++ after))
length_without [] after y = refl
length_without (b ∷ before) after y = ap suc (length_without before after y)

different_from : {A : Type 0} (xs before after : List A) → Pairwise ◌≢◌ xs → Each (Contains (before ++ after)) xs → length (before ++ after) ≤ length xs → Pairwise ◌≢◌ after
different_from xs before [] d all size = tt
different_from xs before (y ∷ after) d all size = (
  Each-from_contains (λ z. y ≢ z) after (λ z c e.
      let h = Each-weaker (Contains (before ++ y ∷ after)) (Contains (before ++ after)) (λ v k. contains_without before after y v k (λ f. subst (Contains after) (sym e ∙ f) c)) xs all in
      let k = different_within xs (before ++ after) d h in
      let l = length_without before after y in
      omega (arith, k, l, size)),
  different_from xs (before ++ y ∷ []) after d
      (subst (λ (ls : List _). Each (Contains ls) xs) (sym (append_assoc before (y ∷ []) after)) all)
      (subst (λ (ls : List _). length ls ≤ length xs) (sym (append_assoc before (y ∷ []) after)) size),
)

-- a list no longer than one without repeats, and with all its elements, has no repeats
pub different_of_size : {A : Type 0} (xs ys : List A) → Pairwise ◌≢◌ xs → ((x : A) → Contains xs x → Contains ys x) → length ys ≤ length xs → Pairwise ◌≢◌ ys
different_of_size xs ys d to size = different_from xs [] ys d (Each-from_contains (Contains ys) xs to) size

pub permuted_once : {A : Type 0} (P : A → Type 0) (xs ys : List A) → ListsOnce P xs → IsPermutation xs ys → ListsOnce P ys
permuted_once P xs ys p perm = record {
  in_order = different_of_size xs ys p.in_order (λ x c. Contains-permutation xs ys x perm c) (let l = length_permutation xs ys perm in omega (arith, l));
  only = Each-from_contains P ys (λ x c. Each-contains P xs x p.only (Contains-permutation ys xs x (IsPermutation-sym xs ys perm) c));
  each = λ x h. Contains-permutation xs ys x perm (p.each x h);
}

-- what is pushed after the last element, which is before it, comes after all
pub Pairwise-push_last : {A : Type 0} (B : A → A → Type 0) → ((x y z : A) → B x y → B y z → B x z) → (xs : List A) (l x : A) → Pairwise B (xs ++ l ∷ []) → B l x → Pairwise B ((xs ++ l ∷ []) ++ x ∷ [])
Pairwise-push_last B transitive xs l x p b = Pairwise-push B (xs ++ l ∷ []) x p (all xs p)
  where
    at_last : (y : _) (ys : List _) → Each (B y) (ys ++ l ∷ []) → B y l
    at_last y [] h = h.0
    at_last y (z ∷ ys) h = at_last y ys h.1

    all : (ys : List _) → Pairwise B (ys ++ l ∷ []) → Each (λ y. B y x) (ys ++ l ∷ [])
    all [] h = (b, tt)
    all (y ∷ ys) h = (transitive y l x (at_last y ys h.0) b, all ys h.1)

pub Each-append : {A : Type 0} (P : A → Type 0) (xs ys : List A) → Each P xs → Each P ys → Each P (xs ++ ys)
Each-append P [] ys h k = k
Each-append P (x ∷ xs) ys h k = (h.0, Each-append P xs ys h.1 k)

pub Each-front : {A : Type 0} (P : A → Type 0) (xs ys : List A) → Each P (xs ++ ys) → Each P xs
Each-front P [] ys h = tt
Each-front P (x ∷ xs) ys h = (h.0, Each-front P xs ys h.1)

pub Each-back : {A : Type 0} (P : A → Type 0) (xs ys : List A) → Each P (xs ++ ys) → Each P ys
Each-back P [] ys h = h
Each-back P (x ∷ xs) ys h = Each-back P xs ys h.1

-- two lists in order, each element of the first before each of the second, are one in order
pub Pairwise-append : {A : Type 0} (B : A → A → Type 0) (xs ys : List A) → Pairwise B xs → Pairwise B ys → Each (λ x. Each (B x) ys) xs → Pairwise B (xs ++ ys)
Pairwise-append B [] ys p q h = q
Pairwise-append B (x ∷ xs) ys p q h = (Each-append (B x) xs ys p.0 h.0, Pairwise-append B xs ys p.1 q h.1)

-- an element inserted after those before it and before those after it leaves a list in order
pub Pairwise-insert : {A : Type 0} (B : A → A → Type 0) (xs ys : List A) (x : A) → Pairwise B (xs ++ ys) → Each (λ y. B y x) xs → Each (B x) ys → Pairwise B (xs ++ x ∷ ys)
Pairwise-insert B [] ys x p h k = (k, p)
Pairwise-insert B (y ∷ xs) ys x p h k = (
  Each-append (B y) xs (x ∷ ys) (Each-front (B y) xs ys p.0) (h.0, Each-back (B y) xs ys p.0),
  Pairwise-insert B xs ys x p.1 h.1 k,
)

-- and so does one that is taken out
pub Pairwise-without : {A : Type 0} (B : A → A → Type 0) (xs ys : List A) (x : A) → Pairwise B (xs ++ x ∷ ys) → Pairwise B (xs ++ ys)
Pairwise-without B [] ys x p = p.1
Pairwise-without B (y ∷ xs) ys x p = (
  Each-append (B y) xs ys (Each-front (B y) xs (x ∷ ys) p.0) (Each-back (B y) xs (x ∷ ys) p.0).1,
  Pairwise-without B xs ys x p.1,
)

-- neighbours in order and a transitive order: all in order
pub Pairwise-neighbours : {A : Type 0} (B : A → A → Type 0) → ((x y z : A) → B x y → B y z → B x z) → (xs : List A) → ((k : ℕ) (d : A) → suc k < length xs → B (get_or xs k d) (get_or xs (suc k) d)) → Pairwise B xs
Pairwise-neighbours B transitive [] h = tt
Pairwise-neighbours B transitive (x ∷ xs) h =
    let rest = Pairwise-neighbours B transitive xs (λ k d l. h (suc k) d (omega (arith, l))) in
    (first xs rest (λ y ys e. subst (λ (zs : List _). suc 0 < length (x ∷ zs) → B x (get_or zs 0 x)) e (h 0 x) (omega arith)), rest)
  where
    first : (xs : List _) → Pairwise B xs → ((y : _) (ys : List _) → xs ≡ y ∷ ys → B x y) → Each (B x) xs
    first [] p h = tt
    first (y ∷ ys) p h = (h y ys refl, Each-weaker (B y) (B x) (λ z b. transitive x y z (h y ys refl) b) ys p.0)

-- the first of a list that has at least one is before the others, and the number of elements of a list of a set
pub IsListOf-number : (B : Vector → Vector → Type 0) → ((x : Vector) → B x x → ⊥) → (P : Vector → Type 0) (xs : List Vector) → IsListOf B P xs → HasNumber P (length xs)
IsListOf-number B irreflexive P xs p = record { list = xs; lists = IsListOf-once B irreflexive P xs p; size = refl }

pub MoreThan-list : (P : Vector → Type 0) (xs : List Vector) (n : ℕ) → Pairwise ◌≢◌ xs → Each P xs → n < length xs → MoreThan n P
MoreThan-list P xs n d p l = record { witnesses = xs; different = d; only = p; more = l }

-- where a sort leaves no element less than the one before it, by a test of the order, the list is that of the set
pub sorted_list : (w : ℕ) (grading : Option Vector) (before : Vector → Vector → Bool) → ((x y : Vector) → HasWidth w x → HasWidth w y → before x y ≡ false → ¬ StandsBefore grading x y) → (P : Vector → Type 0) → ((x : Vector) → P x → HasWidth w x) → (xs ys : List Vector) → ListsOnce P xs → IsPermutation xs ys → IsSortedBy before ys → IsListOf (StandsBefore grading) P ys
sorted_list w grading before decides P wide xs ys p perm s =
    let q = permuted_once P xs ys p perm in
    let step : (k : ℕ) (d : Vector) → suc k < length ys → StandsBefore grading (get_or ys k d) (get_or ys (suc k) d) = λ k d l.
    let i : HasWidth w (get_or ys k d) = wide _ (Each-at P ys k d q.only (omega (arith, l))) in
    let j : HasWidth w (get_or ys (suc k) d) = wide _ (Each-at P ys (suc k) d q.only l) in
    elim (stands_cases grading (get_or ys k d) (get_or ys (suc k) d) (i ∙ sym j)) [
      | inl b ↦ b
      | inr (inl e) ↦ absurd (different_at ys k d q.in_order l e)
      | inr (inr b) ↦ absurd (decides (get_or ys (suc k) d) (get_or ys k d) j i (at_place k d l) b)
    ] in
    record { in_order = Pairwise-neighbours (StandsBefore grading) (stands_transitive grading) ys step; only = q.only; each = q.each }
  where
    Each-at : (P : Vector → Type 0) (ys : List Vector) (k : ℕ) (d : Vector) → Each P ys → k < length ys → P (get_or ys k d)
    Each-at P [] k d h l = absurd (omega (arith, l))
    Each-at P (y ∷ ys) zero d h l = h.0
    Each-at P (y ∷ ys) (suc k) d h l = Each-at P ys k d h.1 (omega (arith, l))

    different_at : (ys : List Vector) (k : ℕ) (d : Vector) → Pairwise ◌≢◌ ys → suc k < length ys → get_or ys k d ≢ get_or ys (suc k) d
    different_at [] k d h l = absurd (omega (arith, l))
    different_at (y ∷ ys) zero d h l = Each-at (λ z. y ≢ z) ys 0 d h.0 (omega (arith, l))
    different_at (y ∷ ys) (suc k) d h l = different_at ys k d h.1 (omega (arith, l))

    at_place : (k : ℕ) (d : Vector) → suc k < length ys → before (get_or ys (suc k) d) (get_or ys k d) ≡ false
    at_place k d l = subst (λ (n : ℕ). before (get_or ys n d) (get_or ys k d) ≡ false) (add-one k) (s k d (omega arith) (omega (arith, l)))

-- an element of the picked list is one of the whole, and has Q
pub Picks-from : {A : Type 0} {Q : A → Type 0} {xs ys : List A} → Picks Q xs ys → (z : A) → Contains ys z → Contains xs z × Q z
Picks-from none z c = absurd (contains_none z c)
Picks-from {Q = Q} (keep {x = x} {xs = xs} {ys = ys} q p) z c = elim (contains_cases x ys z c) [
  | inl e ↦ subst (λ (v : _). Contains (x ∷ xs) v × Q v) e (contains_here x xs, q)
  | inr d ↦ (let r = Picks-from p z d in (contains_there x z xs r.0, r.1))
]
Picks-from (skip {x = x} {xs = xs} n p) z c = let r = Picks-from p z c in (contains_there x z xs r.0, r.1)

-- and one of the whole that has Q is picked
pub Picks-to : {A : Type 0} {Q : A → Type 0} {xs ys : List A} → Picks Q xs ys → (z : A) → Contains xs z → Q z → Contains ys z
Picks-to none z c h = absurd (contains_none z c)
Picks-to (keep {x = x} {xs = xs} {ys = ys} q p) z c h = elim (contains_cases x xs z c) [
  | inl e ↦ subst (Contains (x ∷ ys)) e (contains_here x ys)
  | inr d ↦ contains_there x z ys (Picks-to p z d h)
]
Picks-to {Q = Q} (skip {x = x} {xs = xs} n p) z c h = elim (contains_cases x xs z c) [
  | inl e ↦ absurd (n (subst Q (sym e) h))
  | inr d ↦ Picks-to p z d h
]

-- what is picked stands in the same order
pub Picks-order : {A : Type 0} {Q : A → Type 0} (B : A → A → Type 0) {xs ys : List A} → Picks Q xs ys → Pairwise B xs → Pairwise B ys
Picks-order B none h = tt
Picks-order B (keep {x = x} {xs = xs} {ys = ys} q p) h = (Each-from_contains (B x) ys (λ z c. Each-contains (B x) xs z h.0 (Picks-from p z c).0), Picks-order B p h.1)
Picks-order B (skip n p) h = Picks-order B p h.1

-- what is picked from the list of a set is the list of those that have Q as well
pub Picks-list : {A : Type 0} (B : A → A → Type 0) (P Q : A → Type 0) (xs ys : List A) → IsListOf B P xs → Picks Q xs ys → IsListOf B (λ x. P x × Q x) ys
Picks-list B P Q xs ys l p = record {
  in_order = Picks-order B p l.in_order;
  only = Each-from_contains (λ x. P x × Q x) ys (λ z c. let r = Picks-from p z c in (Each-contains P xs z l.only r.0, r.1));
  each = λ x h. Picks-to p x (l.each x h.0) h.1;
}

-- one element further on: it is picked, or left out
pub Picks-keep : {A : Type 0} {Q : A → Type 0} {xs ys : List A} (x : A) → Picks Q xs ys → Q x → Picks Q (xs ++ x ∷ []) (ys ++ x ∷ [])
Picks-keep x none h = keep h none
Picks-keep x (keep q p) h = keep q (Picks-keep x p h)
Picks-keep x (skip n p) h = skip n (Picks-keep x p h)

pub Picks-skip : {A : Type 0} {Q : A → Type 0} {xs ys : List A} (x : A) → Picks Q xs ys → ¬ Q x → Picks Q (xs ++ x ∷ []) ys
Picks-skip x none h = skip h none
Picks-skip x (keep q p) h = keep q (Picks-skip x p h)
Picks-skip x (skip n p) h = skip n (Picks-skip x p h)
