-- Rows with their ranks, sorted.
use Rattle.std.proofs.Common.{◌≡◌, ℕ, suc, ◌+◌, ◌<◌, ◌≤◌, false, List, [], ◌∷◌, length, take, get_or, map, ℤ, pos, Some, None, inl, inr, refl, sym, ap, ◌∙◌, subst, arith}
use Rattle.std.specs.Prelude.{◌<ℤ◌, IfOk}
use Rattle.std.specs.declared.result.Result.{Result}
use Rattle.std.specs.declared.result.Result.TheVariants.{Ok, Err}
use Rattle.std.proofs.lemmas.List.{take_all}
use Rattle.std.specs.List.{AllByRecursion as Each}
use Rattle.std.specs.List.Sorted.{IsPermutation, IsSorted}
use Rattle.std.specs.Ordering.{is_lt, int_cmp, ordering_then}
use Rattle.std.specs.Cmp.{IsTotalOrder}
use Rattle.std.specs.Cmp.Lexicographic.{slice_cmp}
use Rattle.std.specs.declared.cmp.Ordering.{Ordering}
use Rattle.std.specs.declared.cmp.Ordering.TheVariants.{Less, Equal, Greater}
use Rattle.std.proofs.lemmas.Int.{ints}
use Rattle.std.proofs.lemmas.Cmp.{int_ranked}
use Rattle.std.proofs.lemmas.List.Sorted.{sorted_far, ranks_by, IsPermutation-map, Contains-permutation, IsPermutation-sym}
use mathlib.Core.Bool.{true≢false}
use Rattle.nz_spec.specs.Vectors.{Vector}
use Rattle.nz_spec.specs.Order.{IsLexBefore, StandsBefore, Pairwise, degree}
use Rattle.nz_spec.proofs.ListLaws.{Each-contains, Each-from_contains, pushed}
use Rattle.nz_order.proofs.OrderLaws.{Each-push}
use Rattle.nz_degree.specs.Ranks.{row_of, key_of, AreRanked, Adds, IsSortedAs}
use Rattle.nz_degree.specs.declared.ranked.Ranked.{Ranked}

-- a clause on an Ok, said in other words
pub if_ok_map : {A E : Type 0} (P Q : A → Type 0) (r : Result A E) → ((a : A) → P a → Q a) → IfOk r P → IfOk r Q
if_ok_map P Q (Ok a) f h = f a h
if_ok_map P Q (Err e) f h = tt

module _ {T : Type 0} (integer : T → ℤ) where
  -- one row more, with its rank
  pub ranked_more : (rank : Vector → ℤ) (list : List Vector) (k : ℕ) (row : Vector) (d : T) (before after : List (Ranked T)) → k < length list → row ≡ get_or list k [] → integer d ≡ rank row → Adds integer before after row d → AreRanked integer rank (take k list) before → AreRanked integer rank (take (k + 1) list) after
  ranked_more rank list k row d before after l e r a h = record {
    rows = ap (map (row_of integer)) a.whole ∙ pushed (row_of integer) before a.added list k [] l h.rows (a.of_row ∙ e);
    ranks = subst (Each (λ (s : Ranked T). integer s.degree ≡ rank (row_of integer s))) (sym a.whole)
        (Each-push (λ (s : Ranked T). integer s.degree ≡ rank (row_of integer s)) before a.added h.ranks (ap integer a.of_rank ∙ r ∙ ap rank (sym a.of_row)));
  }

  pub ranked_all : (rank : Vector → ℤ) (list : List Vector) (k : ℕ) (ranked : List (Ranked T)) → length list ≤ k → AreRanked integer rank (take k list) ranked → AreRanked integer rank list ranked
  ranked_all rank list k ranked l h = subst (λ (xs : List Vector). AreRanked integer rank xs ranked) (take_all k list l) h

  -- what the sort of rows by their ranks leaves, of any list in their order
  each_moved : {A : Type 0} (P : A → Type 0) (xs ys : List A) → IsPermutation xs ys → Each P xs → Each P ys
  each_moved P xs ys m h = Each-from_contains P ys (λ x c. Each-contains P xs x h (Contains-permutation ys xs x (IsPermutation-sym xs ys m) c))

  module _ (rank : Vector → ℤ) (R : Vector → Vector → Type 0) (lex : (x y : Vector) → R x y → IsLexBefore (rank x ∷ x) (rank y ∷ y)) where
    not_before : (r s : Ranked T) → integer r.degree ≡ rank (row_of integer r) → integer s.degree ≡ rank (row_of integer s) → (¬ IsLexBefore (key_of integer s) (key_of integer r)) → ¬ R (row_of integer s) (row_of integer r)
    not_before r s e f n b = n (subst (λ (z : ℤ). IsLexBefore (z ∷ row_of integer s) (key_of integer r)) (sym f)
        (subst (λ (z : ℤ). IsLexBefore (rank (row_of integer s) ∷ row_of integer s) (z ∷ row_of integer r)) (sym e) (lex (row_of integer s) (row_of integer r) b)))

    first : (r : Ranked T) (rs : List (Ranked T)) → integer r.degree ≡ rank (row_of integer r) → Each (λ s. integer s.degree ≡ rank (row_of integer s)) rs → Each (λ s. ¬ IsLexBefore (key_of integer s) (key_of integer r)) rs → Each (λ x. ¬ R x (row_of integer r)) (map (row_of integer) rs)
    first r [] e es h = tt
    first r (s ∷ rs) e es h = (not_before r s e es.0 h.0, first r rs e es.1 h.1)

    in_order : (rs : List (Ranked T)) → Each (λ s. integer s.degree ≡ rank (row_of integer s)) rs → Pairwise (λ r s. ¬ IsLexBefore (key_of integer s) (key_of integer r)) rs → Pairwise (λ x y. ¬ R y x) (map (row_of integer) rs)
    in_order [] es h = tt
    in_order (r ∷ rs) es h = (first r rs es.0 es.1 h.0, in_order rs es.1 h.1)

    pub sorted_rows_order : (list rows : List Vector) (ranked : List (Ranked T)) → AreRanked integer rank list ranked → IsSortedAs integer ranked rows → Pairwise (λ x y. ¬ R y x) rows
    sorted_rows_order list rows ranked h s =
        subst (Pairwise (λ (x y : Vector). ¬ R y x)) s.whole (in_order s.sorted (each_moved (λ (r : Ranked T). integer r.degree ≡ rank (row_of integer r)) ranked s.sorted s.moved h.ranks) s.in_order)

  pub sorted_rows_same : (rank : Vector → ℤ) (list rows : List Vector) (ranked : List (Ranked T)) → AreRanked integer rank list ranked → IsSortedAs integer ranked rows → IsPermutation list rows
  sorted_rows_same rank list rows ranked h s =
      subst (IsPermutation list) s.whole (subst (λ (xs : List Vector). IsPermutation xs (map (row_of integer) s.sorted)) h.rows (IsPermutation-map (row_of integer) ranked s.sorted s.moved))

-- with a grading, and with none
pub graded_before : (grading : Vector) (x y : Vector) → StandsBefore (Some grading) x y → IsLexBefore (degree grading x ∷ x) (degree grading y ∷ y)
graded_before grading x y h = h

pub ungraded_before : (x y : Vector) → StandsBefore None x y → IsLexBefore (pos 0 ∷ x) (pos 0 ∷ y)
ungraded_before x y h = inr (refl, h)

-- the order of the fields is that of the integers
module _ {T : Type 0} (integer : T → ℤ) (cmp : T → T → Ordering) (ordered : (a b : T) → cmp a b ≡ int_cmp (integer a) (integer b)) where
  less : (a b : T) → integer a <ℤ integer b → cmp a b ≡ Less
  less a b h = go (cmp a b) refl
    where
      go : (o : Ordering) → o ≡ cmp a b → cmp a b ≡ Less
      go Less e = sym e
      go Equal e = absurd (let k = int_ranked (integer a) (integer b) Equal (e ∙ ordered a b) in omega (arith, ints, h, k))
      go Greater e = absurd (let k = int_ranked (integer a) (integer b) Greater (e ∙ ordered a b) in omega (arith, ints, h, k))

  equal : (a b : T) → integer a ≡ integer b → cmp a b ≡ Equal
  equal a b h = go (cmp a b) refl
    where
      go : (o : Ordering) → o ≡ cmp a b → cmp a b ≡ Equal
      go Equal e = sym e
      go Less e = absurd (let k = int_ranked (integer a) (integer b) Less (e ∙ ordered a b) in omega (arith, ints, h, k))
      go Greater e = absurd (let k = int_ranked (integer a) (integer b) Greater (e ∙ ordered a b) in omega (arith, ints, h, k))

  slices_before : (us vs : List T) → IsLexBefore (map integer us) (map integer vs) → slice_cmp cmp us vs ≡ Less
  slices_before [] vs h = absurd h
  slices_before (a ∷ us) [] h = absurd h
  slices_before (a ∷ us) (b ∷ vs) (inl l) = ap (λ (o : Ordering). ordering_then o (slice_cmp cmp us vs)) (less a b l)
  slices_before (a ∷ us) (b ∷ vs) (inr (e, h)) = ap (λ (o : Ordering). ordering_then o (slice_cmp cmp us vs)) (equal a b e) ∙ slices_before us vs h

  pub keys_before : (r s : Ranked T) → IsLexBefore (key_of integer r) (key_of integer s) → ordering_then (cmp r.degree s.degree) (slice_cmp cmp r.entries.items s.entries.items) ≡ Less
  keys_before r s h = slices_before (r.degree ∷ r.entries.items) (s.degree ∷ s.entries.items) h

-- places in order: each with all after it
pub Pairwise-from_places : {A : Type 0} (R : A → A → Type 0) (xs : List A) → ((i j : ℕ) (d : A) → i < j → j < length xs → R (get_or xs i d) (get_or xs j d)) → Pairwise R xs
Pairwise-from_places R [] h = tt
Pairwise-from_places R (x ∷ xs) h = (after xs (λ j l. h 0 (suc j) x (omega arith) (omega (arith, l))), Pairwise-from_places R xs (λ i j d m l. h (suc i) (suc j) d (omega (arith, m)) (omega (arith, l))))
  where
    after : (ys : List _) → ((j : ℕ) → j < length ys → R x (get_or ys j x)) → Each (R x) ys
    after [] k = tt
    after (y ∷ ys) k = (k 0 (omega arith), after ys (λ j l. k (suc j) (omega (arith, l))))

-- what a sort by a total order leaves
pub sorted_pairs : {T : Type 0} (integer : T → ℤ) (order : Ranked T → Ranked T → Ordering) → IsTotalOrder order → ((r s : Ranked T) → IsLexBefore (key_of integer r) (key_of integer s) → order r s ≡ Less) → (xs : List (Ranked T)) → IsSorted order xs → Pairwise (λ r s. ¬ IsLexBefore (key_of integer s) (key_of integer r)) xs
sorted_pairs integer order total finds xs sorted = Pairwise-from_places (λ r s. ¬ IsLexBefore (key_of integer s) (key_of integer r)) xs (λ i j d m l b.
    let f = sorted_far (λ x y. is_lt (order x y)) (ranks_by total (λ x. x)) xs sorted i j d (omega (arith, m)) l in
    no (order (get_or xs j d) (get_or xs i d)) (finds (get_or xs j d) (get_or xs i d) b) f)
  where
    no : (o : Ordering) → o ≡ Less → is_lt o ≡ false → ⊥
    no o e f = true≢false (sym (ap is_lt e) ∙ f)
