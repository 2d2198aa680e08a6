-- Simplices put into order: their keys, and what a sort of the keys leaves.
use Rattle.std.proofs.Common.{◌≡◌, ◌≢◌, ◌⊎◌, inl, inr, ℕ, zero, suc, ◌+◌, ◌<◌, ◌≤◌, false, List, [], ◌∷◌, ◌++◌, length, take, map, get_or, refl, sym, ap, ◌∙◌, subst, arith}
use Rattle.std.specs.List.{AllByRecursion as Each, Contains}
use Rattle.std.specs.Prelude.{IfOk}
use Rattle.std.specs.declared.result.Result.{Result}
use Rattle.std.specs.declared.result.Result.TheVariants.{Ok, Err}
use Rattle.std.specs.List.Sorted.{IsPermutation, IsSorted}
use Rattle.std.specs.Ordering.{is_lt, nat_cmp, ordering_then}
use Rattle.std.specs.Cmp.Lexicographic.{slice_cmp}
use Rattle.std.specs.declared.cmp.Ordering.{Ordering}
use Rattle.std.specs.declared.cmp.Ordering.TheVariants.{Less, Equal}
use Rattle.std.proofs.lemmas.List.{take_more, take_all, map-append, length-map}
use Rattle.std.proofs.lemmas.List.Sorted.{IsPermutation-map, Contains-permutation, IsPermutation-sym}
use Rattle.std.specs.Cmp.{nat_cmp_is}
use mathlib.Core.Bool.{true≢false}
use Rattle.nz_spec.specs.Vectors.{Vector}
use Rattle.nz_spec.specs.Order.{Pairwise, IsLexLess, ListsOnce}
use Rattle.nz_spec.proofs.ListLaws.{Each-contains, Each-from_contains, each_at}
use Rattle.nz_linear.proofs.Lists.{each_append}
use Rattle.nz_order.proofs.SortLaws.{permuted_once, Pairwise-neighbours}
use Rattle.nz_cover.specs.Corners.{Vertex, places_of, forms_of}
use Rattle.nz_cover.specs.Listing.{IsKeyIn, AreKeys, AreDistinct, AreListed}
use Rattle.nz_cover.specs.declared.listing.Key.{Key}
use Rattle.nz_cover.proofs.GoodCover.{pairwise_back}

abbrev pub cell_of : List (List Vertex) → Key → List Vertex
cell_of cells k = get_or cells k.index []

-- ---- pushing one more
pub mapped_more : {A B : Type 0} (f : A → B) (xs : List A) (i : ℕ) (d a : A) (before after : List B) → i < length xs → a ≡ get_or xs i d → before ≡ map f (take i xs) → after ≡ before ++ f a ∷ [] → after ≡ map f (take (i + 1) xs)
mapped_more f xs i d a before after l e b h =
    h ∙ ap (λ (t : List _). t ++ f a ∷ []) b ∙ ap (λ (x : _). map f (take i xs) ++ f x ∷ []) e ∙ sym (map-append f (take i xs) (get_or xs i d ∷ [])) ∙ sym (ap (map f) (take_more xs i d l))

pub mapped_all : {A B : Type 0} (f : A → B) (xs : List A) (i : ℕ) (now : List B) → length xs ≤ i → now ≡ map f (take i xs) → now ≡ map f xs
mapped_all f xs i now l e = e ∙ ap (map f) (take_all i xs l)

-- ---- keys
-- those of the first simplices
pub record AreFirstKeys (cells : List (List Vertex)) (count : ℕ) (keys : List Key) : Type 0 where
  pub whole : map (cell_of cells) keys ≡ take count cells
  pub each : Each (IsKeyIn cells) keys

pub first_keys_none : (cells : List (List Vertex)) → AreFirstKeys cells 0 []
first_keys_none cells = record { whole = refl; each = tt }

pub first_keys_more : (cells : List (List Vertex)) (i : ℕ) (key : Key) (before after : List Key) → i < length cells → key.index ≡ i → key.places.items ≡ places_of (get_or cells i []) → after ≡ before ++ key ∷ [] → AreFirstKeys cells i before → AreFirstKeys cells (i + 1) after
first_keys_more cells i key before after l e p h k = record {
  whole = ap (map (cell_of cells)) h ∙ map-append (cell_of cells) before (key ∷ []) ∙ ap (λ (t : List (List Vertex)). t ++ cell_of cells key ∷ []) k.whole ∙ ap (λ (n : ℕ). take i cells ++ get_or cells n [] ∷ []) e ∙ sym (take_more cells i [] l);
  each = subst (Each (IsKeyIn cells)) (sym h) (each_append (IsKeyIn cells) before (key ∷ []) k.each (record { within = subst (λ (n : ℕ). n < length cells) (sym e) l; places = p ∙ ap (λ (n : ℕ). places_of (get_or cells n [])) (sym e) }, tt));
}

pub first_keys_all : (cells : List (List Vertex)) (i : ℕ) (keys : List Key) → length cells ≤ i → AreFirstKeys cells i keys → AreKeys cells keys
first_keys_all cells i keys l k = record { whole = k.whole ∙ take_all i cells l; each = k.each }

-- ---- lexicographic order of places
nat_less : (a b : ℕ) → a < b → nat_cmp a b ≡ Less
nat_less a b l = sym (nat_cmp_is a b Less l)

nat_same : (a b : ℕ) → a ≡ b → nat_cmp a b ≡ Equal
nat_same a b e = sym (nat_cmp_is a b Equal e)

lex_less : (xs ys : List ℕ) → IsLexLess ◌<◌ xs ys → slice_cmp nat_cmp xs ys ≡ Less
lex_less [] ys h = absurd h
lex_less (x ∷ xs) [] h = absurd h
lex_less (x ∷ xs) (y ∷ ys) (inl l) = ap (λ (o : Ordering). ordering_then o (slice_cmp nat_cmp xs ys)) (nat_less x y l)
lex_less (x ∷ xs) (y ∷ ys) (inr (e, h)) = ap (λ (o : Ordering). ordering_then o (slice_cmp nat_cmp xs ys)) (nat_same x y e) ∙ lex_less xs ys h

lex_transitive : (xs ys zs : List ℕ) → IsLexLess ◌<◌ xs ys → IsLexLess ◌<◌ ys zs → IsLexLess ◌<◌ xs zs
lex_transitive [] ys zs h k = absurd h
lex_transitive (x ∷ xs) [] zs h k = absurd h
lex_transitive (x ∷ xs) (y ∷ ys) [] h k = absurd k
lex_transitive (x ∷ xs) (y ∷ ys) (z ∷ zs) (inl l) (inl m) = inl (omega (arith, l, m))
lex_transitive (x ∷ xs) (y ∷ ys) (z ∷ zs) (inl l) (inr (e, k)) = inl (omega (arith, l, e))
lex_transitive (x ∷ xs) (y ∷ ys) (z ∷ zs) (inr (e, h)) (inl m) = inl (omega (arith, e, m))
lex_transitive (x ∷ xs) (y ∷ ys) (z ∷ zs) (inr (e, h)) (inr (f, k)) = inr (e ∙ f, lex_transitive xs ys zs h k)

nat_cases : (a b : ℕ) → (a < b) ⊎ ((a ≡ b) ⊎ (b < a))
nat_cases zero zero = inr (inl refl)
nat_cases zero (suc b) = inl (omega arith)
nat_cases (suc a) zero = inr (inr (omega arith))
nat_cases (suc a) (suc b) = elim (nat_cases a b) [
  | inl l ↦ inl (omega (arith, l))
  | inr (inl e) ↦ inr (inl (ap suc e))
  | inr (inr l) ↦ inr (inr (omega (arith, l)))
]

-- of two lists of one length that differ, the one that is not greater is less
lex_less_from : (xs ys : List ℕ) → length xs ≡ length ys → xs ≢ ys → ¬ IsLexLess ◌<◌ ys xs → IsLexLess ◌<◌ xs ys
lex_less_from [] [] l n g = absurd (n refl)
lex_less_from [] (y ∷ ys) l n g = absurd (omega arith)
lex_less_from (x ∷ xs) [] l n g = absurd (omega arith)
lex_less_from (x ∷ xs) (y ∷ ys) l n g = elim (nat_cases x y) [
  | inl m ↦ inl m
  | inr (inl e) ↦ inr (e, lex_less_from xs ys (omega arith) (λ f. n (ap (λ (a : ℕ). a ∷ xs) e ∙ ap (λ (t : List ℕ). y ∷ t) f)) (λ h. g (inr (sym e, h))))
  | inr (inr m) ↦ absurd (g (inl m))
]

-- ---- lists in order
pub pairwise_next : {A : Type 0} (R : A → A → Type 0) (xs : List A) (k : ℕ) (d : A) → Pairwise R xs → suc k < length xs → R (get_or xs k d) (get_or xs (suc k) d)
pairwise_next R [] k d p l = absurd (omega (arith, l))
pairwise_next R (x ∷ []) k d p l = absurd (omega (arith, l))
pairwise_next R (x ∷ y ∷ xs) zero d p l = p.0.0
pairwise_next R (x ∷ y ∷ xs) (suc k) d p l = pairwise_next R (y ∷ xs) k d p.1 (omega (arith, l))

related_map : {A B : Type 0} (f : A → B) (R : B → B → Type 0) (x : A) (xs : List A) → Each (λ y. R (f x) (f y)) xs → Each (R (f x)) (map f xs)
related_map f R x [] h = tt
related_map f R x (y ∷ xs) h = (h.0, related_map f R x xs h.1)

pub pairwise_map : {A B : Type 0} (f : A → B) (R : B → B → Type 0) (xs : List A) → Pairwise (λ x y. R (f x) (f y)) xs → Pairwise R (map f xs)
pairwise_map f R [] h = tt
pairwise_map f R (x ∷ xs) h = (related_map f R x xs h.0, pairwise_map f R xs h.1)

map_map : {A B C : Type 0} (f : A → B) (g : B → C) (xs : List A) → map (λ x. g (f x)) xs ≡ map g (map f xs)
map_map f g [] = refl
map_map f g (x ∷ xs) = ap (λ t. g (f x) ∷ t) (map_map f g xs)

places_count : (c : List Vertex) → length (places_of c) ≡ length c
places_count c = length-map c (λ (u : Vertex). u.place)

-- ---- what the sort leaves
module _ (cells : List (List Vertex)) (keys sorted : List Key) (k : AreKeys cells keys) (moved : IsPermutation keys sorted) where
  each_sorted : Each (IsKeyIn cells) sorted
  each_sorted = Each-from_contains (IsKeyIn cells) sorted (λ x c. Each-contains (IsKeyIn cells) keys x k.each (Contains-permutation sorted keys x (IsPermutation-sym keys sorted moved) c))

  pub sorted_within : Each (λ key. key.index < length cells) sorted
  sorted_within = within sorted each_sorted
    where
      within : (ks : List Key) → Each (IsKeyIn cells) ks → Each (λ key. key.index < length cells) ks
      within [] h = tt
      within (x ∷ ks) h = (h.0.within, within ks h.1)

  abbrev g : Key → List ℕ
  g key = places_of (cell_of cells key)

  differ : Pairwise (λ c d. places_of c ≢ places_of d) cells → Pairwise (λ r s. g r ≢ g s) sorted
  differ different =
      let all : map g keys ≡ map places_of cells = map_map (cell_of cells) places_of keys ∙ ap (map places_of) k.whole in
      let once : Pairwise ◌≢◌ (map g keys) = subst (Pairwise ◌≢◌) (sym all) (pairwise_map places_of ◌≢◌ cells different) in
      let lists : ListsOnce (Contains (map g keys)) (map g keys) = record { in_order = once; only = Each-from_contains (Contains (map g keys)) (map g keys) (λ x c. c); each = λ x c. c } in
      pairwise_back g ◌≢◌ sorted (permuted_once (Contains (map g keys)) (map g keys) (map g sorted) lists (IsPermutation-map g keys sorted moved)).in_order

  module _ (order : Key → Key → Ordering) (finds : (r s : Key) → IsLexLess ◌<◌ r.places.items s.places.items → order r s ≡ Less) (is_sorted : IsSorted order sorted) (d : AreDistinct cells) where
    no : (o : Ordering) → o ≡ Less → is_lt o ≡ false → ⊥
    no o e f = true≢false (sym (ap is_lt e) ∙ f)

    size_at : (key : Key) → IsKeyIn cells key → length (g key) ≡ d.size
    size_at key i = places_count (cell_of cells key) ∙ each_at (λ (c : List Vertex). length c ≡ d.size) cells key.index [] d.sizes i.within

    step : (i : ℕ) → i + 1 ≡ suc i
    step i = omega arith

    next : (i : ℕ) (e : Key) → suc i < length sorted → IsLexLess ◌<◌ (g (get_or sorted i e)) (g (get_or sorted (suc i) e))
    next i e l =
        let r = get_or sorted i e in
        let s = get_or sorted (suc i) e in
        let ir = each_at (IsKeyIn cells) sorted i e each_sorted (omega (arith, l)) in
        let is = each_at (IsKeyIn cells) sorted (suc i) e each_sorted l in
        lex_less_from (g r) (g s) (size_at r ir ∙ sym (size_at s is)) (pairwise_next (λ a b. g a ≢ g b) sorted i e (differ d.different) l)
        (λ h. no (order s r) (finds s r (subst (λ (t : List ℕ). IsLexLess ◌<◌ t r.places.items) (sym is.places) (subst (λ (t : List ℕ). IsLexLess ◌<◌ (g s) t) (sym ir.places) h))) (subst (λ (k : ℕ). is_lt (order (get_or sorted k e) r) ≡ false) (step i) (is_sorted i e (omega arith) (omega (arith, l)))))

    pub in_order : Pairwise (IsLexLess ◌<◌) (map g sorted)
    in_order = pairwise_map g (IsLexLess ◌<◌) sorted (Pairwise-neighbours (λ r s. IsLexLess ◌<◌ (g r) (g s)) (λ r s t. lex_transitive (g r) (g s) (g t)) sorted next)

    pub sorted_listed : (simplices : List (List ℕ)) (forms : List (List Vector)) → simplices ≡ map g sorted → forms ≡ map (λ key. forms_of (cell_of cells key)) sorted → AreListed cells simplices forms
    sorted_listed simplices forms e f = record {
      sorted = map (cell_of cells) sorted;
      moved = subst (λ (cs : List (List Vertex)). IsPermutation cs (map (cell_of cells) sorted)) k.whole (IsPermutation-map (cell_of cells) keys sorted moved);
      in_order = subst (Pairwise (IsLexLess ◌<◌)) (sym e) in_order;
      simplices_are = e ∙ map_map (cell_of cells) places_of sorted;
      forms_are = f ∙ map_map (cell_of cells) forms_of sorted;
    }

-- two clauses on an Ok, said as one
pub if_ok_both : {A E : Type 0} (P Q R : A → Type 0) (r : Result A E) → ((a : A) → P a → Q a → R a) → IfOk r P → IfOk r Q → IfOk r R
if_ok_both P Q R (Ok a) f h k = f a h k
if_ok_both P Q R (Err e) f h k = tt

-- the order of the fields goes by the places first
pub key_found : (r s : Key) → IsLexLess ◌<◌ r.places.items s.places.items → ordering_then (slice_cmp nat_cmp r.places.items s.places.items) (nat_cmp r.index s.index) ≡ Less
key_found r s h = ap (λ (o : Ordering). ordering_then o (nat_cmp r.index s.index)) (lex_less r.places.items s.places.items h)
