-- Lists that are filled place by place, and what a sort leaves of them.
use Rattle.std.proofs.Common.{◌≡◌, ◌≢◌, ℕ, zero, suc, ◌+◌, ◌<◌, ◌≤◌, ◌⊎◌, inl, inr, true, false, List, [], ◌∷◌, ◌++◌, length, map, take, get_or, ℤ, pos, ◌≤ℤ◌, ◌<ℤ◌, Contains, refl, sym, ap, ◌∙◌, subst, arith, add-one}
use Rattle.std.proofs.lemmas.Int.{ints}
use Rattle.std.proofs.lemmas.Cmp.{int_ranked}
use Rattle.std.proofs.lemmas.List.{length-map, take_more, take_all, get_or-map}
use Rattle.std.specs.Ordering.{MatchOrdering, int_cmp, ordering_then, is_lt}
use Rattle.std.specs.Cmp.Lexicographic.{slice_cmp}
use Rattle.std.specs.declared.cmp.Ordering.{Ordering}
use Rattle.std.specs.declared.cmp.Ordering.TheVariants.{Less, Equal, Greater}
use Rattle.std.specs.List.{AllZip, AllByRecursion as Each}
use Rattle.std.specs.List.Sorted.{IsPermutation, IsSorted}
use Rattle.nz_spec.specs.Vectors.{Vector, dot, values_at, HasWidth}
use Rattle.nz_spec.specs.Order.{IsLexBefore, Pairwise, IsListOf, ListsOnce}
use Rattle.nz_spec.proofs.ListLaws.{contains_cases, contains_none, contains_at, each_at, pushed}
use Rattle.nz_order.proofs.OrderLaws.{Each-push, lex_cases, lex_transitive}
use Rattle.nz_order.proofs.SortLaws.{permuted_once, Pairwise-neighbours}
use Rattle.nz_vec.specs.Sums.{HasValueOutside}
use Rattle.nz_reducer.specs.Reducers.{AreValued, IsNotFalling}
use Rattle.nz_reducer.proofs.Reducing.{ComesBefore}

pub each_from : {A : Type 0} (P : A → Type 0) (xs : List A) (d : A) → ((k : ℕ) → k < length xs → P (get_or xs k d)) → Each P xs
each_from P [] d h = tt
each_from P (x ∷ xs) d h = (h 0 (omega arith), each_from P xs d (λ k l. h (suc k) (omega arith)))

pub zip_from : (xs ys : Vector) → length xs ≡ length ys → ((k : ℕ) → k < length xs → get_or xs k (pos 0) ≤ℤ get_or ys k (pos 0)) → AllZip ◌≤ℤ◌ xs ys
zip_from [] [] l h = tt
zip_from [] (b ∷ ys) l h = absurd (omega arith)
zip_from (a ∷ xs) [] l h = absurd (omega arith)
zip_from (a ∷ xs) (b ∷ ys) l h = (h 0 (omega arith), zip_from xs ys (omega arith) (λ k m. h (suc k) (omega arith)))

pub zip_at : (xs ys : Vector) (k : ℕ) → AllZip ◌≤ℤ◌ xs ys → get_or xs k (pos 0) ≤ℤ get_or ys k (pos 0)
zip_at [] [] k h = omega (arith, ints)
zip_at [] (b ∷ ys) k h = absurd h
zip_at (a ∷ xs) [] k h = absurd h
zip_at (a ∷ xs) (b ∷ ys) zero h = h.0
zip_at (a ∷ xs) (b ∷ ys) (suc k) h = zip_at xs ys k h.1

-- the same of a list that is seen as the images
pub next_row : {A B : Type 0} (f : A → B) (xs : List A) (i : ℕ) (a : A) (done : List B) (b : B) (new : List B) → i < length xs → a ≡ get_or xs i a → done ≡ take i (map f xs) → b ≡ f a → new ≡ done ++ b ∷ [] → new ≡ take (i + 1) (map f xs)
next_row f xs i a done b new l at h e n =
    let m : i < length (map f xs) = omega (arith, l, length-map xs f) in
    let x = e ∙ ap f at ∙ sym (get_or-map f xs i a b l) in
    n ∙ ap (λ (zs : List _). zs ++ b ∷ []) h ∙ ap (λ (z : _). take i (map f xs) ++ z ∷ []) x ∙ sym (take_more (map f xs) i b m)

pub all_rows : {A B : Type 0} (f : A → B) (xs ys : List A) (i : ℕ) (done : List B) → length xs ≤ i → done ≡ take i (map f xs) → xs ≡ ys → done ≡ map f ys
all_rows f xs ys i done l h e = h ∙ take_all i (map f xs) (omega (arith, l, length-map xs f)) ∙ ap (map f) e

-- one more candidate with its values
pub valued_more : {Item : Type 0} (rows candidates : List Vector) (items : List Item) (entries values : Item → Vector) (a : Item) (i : ℕ) → i < length candidates → AreValued rows (take i candidates) items entries values → entries a ≡ get_or candidates i [] → values a ≡ values_at rows (get_or candidates i []) → AreValued rows (take (i + 1) candidates) (items ++ a ∷ []) entries values
valued_more rows candidates items entries values a i l h e v = record {
  same = pushed entries items a candidates i [] l h.same e;
  values_of = Each-push (λ c. values c ≡ values_at rows (entries c)) items a h.values_of (v ∙ ap (values_at rows) (sym e));
}

pub valued_push : {Item : Type 0} (rows candidates : List Vector) (items new : List Item) (entries values : Item → Vector) (a : Item) (i : ℕ) → i < length candidates → AreValued rows (take i candidates) items entries values → entries a ≡ get_or candidates i [] → values a ≡ values_at rows (get_or candidates i []) → new ≡ items ++ a ∷ [] → AreValued rows (take (i + 1) candidates) new entries values
valued_push rows candidates items new entries values a i l h e v n = subst (λ (is : List _). AreValued rows (take (i + 1) candidates) is entries values) (sym n) (valued_more rows candidates items entries values a i l h e v)

pub valued_end : {Item : Type 0} (rows candidates : List Vector) (items : List Item) (entries values : Item → Vector) (i : ℕ) → length candidates ≤ i → AreValued rows (take i candidates) items entries values → AreValued rows candidates items entries values
valued_end rows candidates items entries values i l h = subst (λ (cs : List Vector). AreValued rows cs items entries values) (take_all i candidates l) h

-- a value outside at one candidate
pub outside_among : (fits : ℤ → Type 0) (rows candidates : List Vector) (i : ℕ) (x : Vector) → i < length candidates → x ≡ get_or candidates i [] → HasValueOutside fits rows (x ∷ []) → HasValueOutside fits rows candidates
outside_among fits rows candidates i x l e o = record {
  form = o.form;
  vector = o.vector;
  of_forms = o.of_forms;
  of_vectors = elim (contains_cases x [] o.vector o.of_vectors) [
    | inl same ↦ subst (Contains candidates) (sym e ∙ same) (contains_at candidates i [] l)
    | inr none ↦ absurd (contains_none o.vector none)
  ];
  outside = o.outside;
}

less_of : (x y : ℤ) (o : Ordering) → MatchOrdering o (x <ℤ y) (x ≡ y) (y <ℤ x) → x <ℤ y → o ≡ Less
less_of x y Less m h = refl
less_of x y Equal m h = absurd (omega (arith, ints, m, h))
less_of x y Greater m h = absurd (omega (arith, ints, m, h))

equal_of : (x y : ℤ) (o : Ordering) → MatchOrdering o (x <ℤ y) (x ≡ y) (y <ℤ x) → x ≡ y → o ≡ Equal
equal_of x y Less m h = absurd (omega (arith, ints, m, h))
equal_of x y Equal m h = refl
equal_of x y Greater m h = absurd (omega (arith, ints, m, h))

different_at : {A : Type 0} (ys : List A) (k : ℕ) (d : A) → Pairwise ◌≢◌ ys → suc k < length ys → get_or ys k d ≢ get_or ys (suc k) d
different_at [] k d h l = absurd (omega (arith, l))
different_at (y ∷ ys) zero d h l = each_at (λ z. y ≢ z) ys 0 d h.0 (omega (arith, l))
different_at (y ∷ ys) (suc k) d h l = different_at ys k d h.1 (omega (arith, l))

pairwise_map : {A B : Type 0} (f : A → B) (P : A → Type 0) (R : A → A → Type 0) (S : B → B → Type 0) → ((x y : A) → P x → P y → R x y → S (f x) (f y)) → (xs : List A) → Each P xs → Pairwise R xs → Pairwise S (map f xs)
pairwise_map f P R S g [] p r = tt
pairwise_map f P R S g (x ∷ xs) p r = (all xs p.1 r.0, pairwise_map f P R S g xs p.1 r.1)
  where
    all : (ys : List _) → Each P ys → Each (R x) ys → Each (S (f x)) (map f ys)
    all [] q h = tt
    all (y ∷ ys) q h = (g x y p.0 q.0 h.0, all ys q.1 h.1)

-- a list of a set, each once, that does not fall after it was permuted, is its list in order
pub in_order_list : (w : ℕ) (P : Vector → Type 0) → ((x : Vector) → P x → HasWidth w x) → (xs ys : List Vector) → ListsOnce P xs → IsPermutation xs ys → IsNotFalling ys → IsListOf IsLexBefore P ys
in_order_list w P wide xs ys p perm up =
    let q = permuted_once P xs ys p perm in
    let step : (k : ℕ) (d : Vector) → suc k < length ys → IsLexBefore (get_or ys k d) (get_or ys (suc k) d) = λ k d l.
    let i : HasWidth w (get_or ys k d) = wide _ (each_at P ys k d q.only (omega (arith, l))) in
    let j : HasWidth w (get_or ys (suc k) d) = wide _ (each_at P ys (suc k) d q.only l) in
    elim (lex_cases (get_or ys k d) (get_or ys (suc k) d) (i ∙ sym j)) [
      | inl b ↦ b
      | inr (inl e) ↦ absurd (different_at ys k d q.in_order l e)
      | inr (inr b) ↦ absurd (up k d (omega (arith, l)) (subst (λ (n : ℕ). IsLexBefore (get_or ys n d) (get_or ys k d)) (sym (add-one k)) b))
    ] in
    record { in_order = Pairwise-neighbours IsLexBefore lex_transitive ys step; only = q.only; each = q.each }

-- values of a type whose order is that of their integers
module _ {T : Type 0} (int : T → ℤ) (cmp : T → T → Ordering) (ordered : (a b : T) → cmp a b ≡ int_cmp (int a) (int b)) where
  less_slices : (us vs : List T) → IsLexBefore (map int us) (map int vs) → slice_cmp cmp us vs ≡ Less
  less_slices [] vs h = absurd h
  less_slices (x ∷ us) [] h = absurd h
  less_slices (x ∷ us) (y ∷ vs) (inl h) = ap (λ o. ordering_then o (slice_cmp cmp us vs)) (less_of (int x) (int y) (cmp x y) (int_ranked (int x) (int y) (cmp x y) (ordered x y)) h)
  less_slices (x ∷ us) (y ∷ vs) (inr (e, h)) = ap (λ o. ordering_then o (slice_cmp cmp us vs)) (equal_of (int x) (int y) (cmp x y) (int_ranked (int x) (int y) (cmp x y) (ordered x y)) e) ∙ less_slices us vs h

  not_less : (us vs : List T) (o : Ordering) → is_lt (ordering_then (slice_cmp cmp us vs) o) ≡ false → IsLexBefore (map int us) (map int vs) → ⊥
  not_less us vs o f h = (let e = ap (λ p. is_lt (ordering_then p o)) (less_slices us vs h) in let t : true ≡ false = sym e ∙ f in cc)

  not_less_alone : (us vs : List T) → is_lt (slice_cmp cmp us vs) ≡ false → IsLexBefore (map int us) (map int vs) → ⊥
  not_less_alone us vs f h = (let e = ap is_lt (less_slices us vs h) in let t : true ≡ false = sym e ∙ f in cc)

  module _ {Item : Type 0} (entries : Item → List T) where
    falls_not : (x : Item) (xs : List Item) → IsSorted (λ x y. slice_cmp cmp (entries x) (entries y)) (x ∷ xs) → (k : ℕ) (d : Vector) → k + 1 < length (map (λ c. map int (entries c)) (x ∷ xs)) → ¬ IsLexBefore (get_or (map (λ c. map int (entries c)) (x ∷ xs)) (k + 1) d) (get_or (map (λ c. map int (entries c)) (x ∷ xs)) k d)
    falls_not x xs s k d l h =
        let f : Item → Vector = λ c. map int (entries c) in
        let m : k + 1 < length (x ∷ xs) = omega (arith, l, length-map (x ∷ xs) f) in
        let a = get_or-map f (x ∷ xs) (k + 1) x d m in
        let b = get_or-map f (x ∷ xs) k x d (omega (arith, m)) in
        not_less_alone _ _ (s k x (omega arith) m) (subst (λ (v : Vector). IsLexBefore v (f (get_or (x ∷ xs) k x))) a (subst (λ (v : Vector). IsLexBefore (get_or (map f (x ∷ xs)) (k + 1) d) v) b h))

    -- lists that were sorted do not fall
    falling_none : (xs : List Item) → IsSorted (λ x y. slice_cmp cmp (entries x) (entries y)) xs → IsNotFalling (map (λ c. map int (entries c)) xs)
    falling_none [] s = λ k d l. absurd (omega (arith, l))
    falling_none (x ∷ xs) s = falls_not x xs s

  pub not_falling : {Item : Type 0} (xs : List Item) (entries : Item → List T) → IsSorted (λ x y. slice_cmp cmp (entries x) (entries y)) xs → IsNotFalling (map (λ c. map int (entries c)) xs)
  not_falling xs entries s = falling_none entries xs s

  module _ {Item : Type 0} (values entries : Item → List T) (rows : List Vector) where
    -- the values of x are before those of y, or the same
    Rises : Item → Item → Type 0
    Rises x y = IsLexBefore (map int (values x)) (map int (values y)) ⊎ (map int (values x) ≡ map int (values y))

    rises_on : (x y z : Item) → Rises x y → Rises y z → Rises x z
    unfolding Rises
    rises_on x y z (inl p) (inl q) = inl (lex_transitive _ _ _ p q)
    rises_on x y z (inl p) (inr e) = inl (subst (λ (v : Vector). IsLexBefore (map int (values x)) v) e p)
    rises_on x y z (inr e) (inl q) = inl (subst (λ (v : Vector). IsLexBefore v (map int (values z))) (sym e) q)
    rises_on x y z (inr e) (inr f) = inr (e ∙ f)

    moved : (x y : Item) → map int (values x) ≡ values_at rows (map int (entries x)) → map int (values y) ≡ values_at rows (map int (entries y)) → Rises x y → ComesBefore rows (map int (entries x)) (map int (entries y))
    unfolding Rises
    moved x y e f (inl p) = inl (subst (λ (v : Vector). IsLexBefore v (values_at rows (map int (entries y)))) e (subst (λ (v : Vector). IsLexBefore (map int (values x)) v) f p))
    moved x y e f (inr p) = inr (sym e ∙ p ∙ f)

    module _ (xs : List Item) (s : IsSorted (λ x y. ordering_then (slice_cmp cmp (values x) (values y)) (slice_cmp cmp (entries x) (entries y))) xs) (h : Each (λ c. map int (values c) ≡ values_at rows (map int (entries c))) xs) where
      values_long : (k : ℕ) (d : Item) → k < length xs → length (map int (values (get_or xs k d))) ≡ length rows
      values_long k d l = ap length (each_at (λ c. map int (values c) ≡ values_at rows (map int (entries c))) xs k d h l) ∙ length-map rows (λ f. dot f (map int (entries (get_or xs k d))))

      rises : (k : ℕ) (d : Item) → suc k < length xs → Rises (get_or xs k d) (get_or xs (suc k) d)
      unfolding Rises
      rises k d l =
          let a = get_or xs k d in
          let b = get_or xs (suc k) d in
          let i = values_long k d (omega (arith, l)) in
          let j = values_long (suc k) d l in
          elim (lex_cases (map int (values a)) (map int (values b)) (i ∙ sym j)) [
            | inl p ↦ inl p
            | inr (inl e) ↦ inr e
            | inr (inr p) ↦ absurd (not_less _ _ _ (s k d (omega arith) (omega (arith, l))) (subst (λ (n : ℕ). IsLexBefore (map int (values (get_or xs n d))) (map int (values a))) (sym (add-one k)) p))
          ]

      -- items that were sorted by their values, and then by their entries, come in the order of their values
      pub in_value_order : Pairwise (ComesBefore rows) (map (λ c. map int (entries c)) xs)
      in_value_order = pairwise_map (λ c. map int (entries c)) (λ c. map int (values c) ≡ values_at rows (map int (entries c))) Rises (ComesBefore rows) moved xs h (Pairwise-neighbours Rises rises_on xs rises)
