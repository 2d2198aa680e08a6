-- Lists that are filled place by place, and what a sort leaves of them.
use Rattle.std.proofs.Common.{◌≡◌, ◌≢◌, ℕ, zero, suc, ◌+◌, ◌<◌, ◌≤◌, inl, inr, true, false, List, [], ◌∷◌, ◌++◌, length, map, take, get_or, ℤ, ◌<ℤ◌, refl, sym, ap, ◌∙◌, subst, arith, add-one}
use Rattle.std.proofs.lemmas.Int.{ints}
use Rattle.std.proofs.lemmas.Cmp.{int_ranked}
use Rattle.std.proofs.lemmas.List.{length-map, take_more, take_all, get_or-map}
use Rattle.std.specs.Ordering.{MatchOrdering, int_cmp, ordering_then, is_lt}
use Rattle.std.specs.Cmp.Lexicographic.{slice_cmp}
use Rattle.std.specs.declared.cmp.Ordering.{Ordering}
use Rattle.std.specs.declared.cmp.Ordering.TheVariants.{Less, Equal, Greater}
use Rattle.std.specs.List.Sorted.{IsPermutation, IsSorted}
use Rattle.std.specs.Prelude.{Result, Ok, Err, IfOk, MatchResult}
use Rattle.nz_spec.specs.Vectors.{Vector, HasWidth}
use Rattle.nz_spec.specs.Order.{IsLexBefore, Pairwise, IsListOf, ListsOnce}
use Rattle.nz_spec.proofs.ListLaws.{each_at}
use Rattle.nz_order.proofs.OrderLaws.{lex_cases, lex_transitive}
use Rattle.nz_order.proofs.SortLaws.{permuted_once, Pairwise-neighbours}
use Rattle.nz_classes.specs.Steps.{IsNotFalling}

-- the same of a list that is seen as the images
pub next_row : {A B : Type 0} (f : A → B) (xs : List A) (i : ℕ) (a : A) (done : List B) (b : B) (new : List B) → i < length xs → a ≡ get_or xs i a → done ≡ take i (map f xs) → b ≡ f a → new ≡ done ++ b ∷ [] → new ≡ take (i + 1) (map f xs)
next_row f xs i a done b new l at h e n =
    let m : i < length (map f xs) = omega (arith, l, length-map xs f) in
    let x = e ∙ ap f at ∙ sym (get_or-map f xs i a b l) in
    n ∙ ap (λ (zs : List _). zs ++ b ∷ []) h ∙ ap (λ (z : _). take i (map f xs) ++ z ∷ []) x ∙ sym (take_more (map f xs) i b m)

pub all_rows : {A B : Type 0} (f : A → B) (xs ys : List A) (i : ℕ) (done : List B) → length xs ≤ i → done ≡ take i (map f xs) → xs ≡ ys → done ≡ map f ys
all_rows f xs ys i done l h e = h ∙ take_all i (map f xs) (omega (arith, l, length-map xs f)) ∙ ap (map f) e

less_of : (x y : ℤ) (o : Ordering) → MatchOrdering o (x <ℤ y) (x ≡ y) (y <ℤ x) → x <ℤ y → o ≡ Less
less_of x y Less m h = refl
less_of x y Equal m h = absurd (omega (arith, ints, m, h))
less_of x y Greater m h = absurd (omega (arith, ints, m, h))

pub equal_of : (x y : ℤ) (o : Ordering) → MatchOrdering o (x <ℤ y) (x ≡ y) (y <ℤ x) → x ≡ y → o ≡ Equal
equal_of x y Less m h = absurd (omega (arith, ints, m, h))
equal_of x y Equal m h = refl
equal_of x y Greater m h = absurd (omega (arith, ints, m, h))

different_at : {A : Type 0} (ys : List A) (k : ℕ) (d : A) → Pairwise ◌≢◌ ys → suc k < length ys → get_or ys k d ≢ get_or ys (suc k) d
different_at [] k d h l = absurd (omega (arith, l))
different_at (y ∷ ys) zero d h l = each_at (λ z. y ≢ z) ys 0 d h.0 (omega (arith, l))
different_at (y ∷ ys) (suc k) d h l = different_at ys k d h.1 (omega (arith, l))

-- a list of a set, each once, that does not fall after it was permuted, is its list in order
pub in_order_list : (w : ℕ) (P : Vector → Type 0) → ((x : Vector) → P x → HasWidth w x) → (xs ys : List Vector) → ListsOnce P xs → IsPermutation xs ys → IsNotFalling ys → IsListOf IsLexBefore P ys
in_order_list w P wide xs ys p perm up =
    let q = permuted_once P xs ys p perm in
    let step : (k : ℕ) (d : Vector) → suc k < length ys → IsLexBefore (get_or ys k d) (get_or ys (suc k) d) = λ k d l.
    let i : HasWidth w (get_or ys k d) = wide _ (each_at P ys k d q.only (omega (arith, l))) in
    let j : HasWidth w (get_or ys (suc k) d) = wide _ (each_at P ys (suc k) d q.only l) in
    elim (lex_cases (get_or ys k d) (get_or ys (suc k) d) (i ∙ sym j)) [
      | inl b ↦ b
      | inr (inl e) ↦ absurd (different_at ys k d q.in_order l e)
      | inr (inr b) ↦ absurd (up k d (omega (arith, l)) (subst (λ (n : ℕ). IsLexBefore (get_or ys n d) (get_or ys k d)) (sym (add-one k)) b))
    ] in
    record { in_order = Pairwise-neighbours IsLexBefore lex_transitive ys step; only = q.only; each = q.each }

-- values of a type whose order is that of their integers
module _ {T : Type 0} (int : T → ℤ) (cmp : T → T → Ordering) (ordered : (a b : T) → cmp a b ≡ int_cmp (int a) (int b)) where
  less_slices : (us vs : List T) → IsLexBefore (map int us) (map int vs) → slice_cmp cmp us vs ≡ Less
  less_slices [] vs h = absurd h
  less_slices (x ∷ us) [] h = absurd h
  less_slices (x ∷ us) (y ∷ vs) (inl h) = ap (λ o. ordering_then o (slice_cmp cmp us vs)) (less_of (int x) (int y) (cmp x y) (int_ranked (int x) (int y) (cmp x y) (ordered x y)) h)
  less_slices (x ∷ us) (y ∷ vs) (inr (e, h)) = ap (λ o. ordering_then o (slice_cmp cmp us vs)) (equal_of (int x) (int y) (cmp x y) (int_ranked (int x) (int y) (cmp x y) (ordered x y)) e) ∙ less_slices us vs h

  not_less_alone : (us vs : List T) → is_lt (slice_cmp cmp us vs) ≡ false → IsLexBefore (map int us) (map int vs) → ⊥
  not_less_alone us vs f h = (let e = ap is_lt (less_slices us vs h) in let t : true ≡ false = sym e ∙ f in cc)

  module _ {Item : Type 0} (entries : Item → List T) where
    falls_not : (x : Item) (xs : List Item) → IsSorted (λ x y. slice_cmp cmp (entries x) (entries y)) (x ∷ xs) → (k : ℕ) (d : Vector) → k + 1 < length (map (λ c. map int (entries c)) (x ∷ xs)) → ¬ IsLexBefore (get_or (map (λ c. map int (entries c)) (x ∷ xs)) (k + 1) d) (get_or (map (λ c. map int (entries c)) (x ∷ xs)) k d)
    falls_not x xs s k d l h =
        let f : Item → Vector = λ c. map int (entries c) in
        let m : k + 1 < length (x ∷ xs) = omega (arith, l, length-map (x ∷ xs) f) in
        let a = get_or-map f (x ∷ xs) (k + 1) x d m in
        let b = get_or-map f (x ∷ xs) k x d (omega (arith, m)) in
        not_less_alone _ _ (s k x (omega arith) m) (subst (λ (v : Vector). IsLexBefore v (f (get_or (x ∷ xs) k x))) a (subst (λ (v : Vector). IsLexBefore (get_or (map f (x ∷ xs)) (k + 1) d) v) b h))

    -- lists that were sorted do not fall
    falling_none : (xs : List Item) → IsSorted (λ x y. slice_cmp cmp (entries x) (entries y)) xs → IsNotFalling (map (λ c. map int (entries c)) xs)
    falling_none [] s = λ k d l. absurd (omega (arith, l))
    falling_none (x ∷ xs) s = falls_not x xs s

  pub not_falling : {Item : Type 0} (xs : List Item) (entries : Item → List T) → IsSorted (λ x y. slice_cmp cmp (entries x) (entries y)) xs → IsNotFalling (map (λ c. map int (entries c)) xs)
  not_falling xs entries s = falling_none entries xs s

-- what is known of a value, where there is one
pub if_ok : {A E : Type 0} (P Q : A → Type 0) → ((x : A) → P x → Q x) → (r : Result A E) → IfOk r P → IfOk r Q
if_ok P Q f (Ok x) h = f x h
if_ok P Q f (Err e) h = tt

pub match_result : {A E : Type 0} (P Q : A → Type 0) (R S : E → Type 0) → ((x : A) → P x → Q x) → ((e : E) → R e → S e) → (r : Result A E) → MatchResult r P R → MatchResult r Q S
match_result P Q R S f g (Ok x) h = f x h
match_result P Q R S f g (Err e) h = g e h
