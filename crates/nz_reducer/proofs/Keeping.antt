-- One candidate further on, in the order of their values.
use Rattle.std.proofs.Common.{◌≡◌, ℕ, zero, suc, ◌+◌, ◌<◌, ◌≤◌, List, [], ◌∷◌, ◌++◌, length, map, take, get_or, ℤ, Contains, sym, ap, ◌∙◌, subst, arith}
use Rattle.std.proofs.lemmas.List.{length-map, map-append, take_more, take_all, get_or-map}
use Rattle.std.proofs.lemmas.List.Sorted.{Contains-permutation, IsPermutation-sym, IsPermutation-map}
use Rattle.std.specs.Ordering.{int_cmp, ordering_then}
use Rattle.std.specs.Cmp.Lexicographic.{slice_cmp}
use Rattle.std.specs.declared.cmp.Ordering.{Ordering}
use Rattle.std.specs.List.{AllByRecursion as Each}
use Rattle.std.specs.List.Sorted.{IsPermutation, IsSorted}
use Rattle.nz_spec.specs.Vectors.{Vector, dot, values_at, IsZero, IsNonzero}
use Rattle.nz_spec.specs.Order.{Pairwise, ListsOnce}
use Rattle.nz_spec.proofs.ListLaws.{Each-contains, Each-from_contains, contains_at, each_at}
use Rattle.nz_order.specs.Boxes.{IsBelow}
use Rattle.nz_reducer.specs.Reducers.{AreSeparated, AreValued, IsUnreduced}
use Rattle.nz_reducer.specs.Tables.{NoneIsBelow, HasAnyBelow}
use Rattle.nz_reducer.proofs.Reducing.{ComesBefore, IsUnder, Kept, kept_zero, kept_under, kept_more, kept_all}
use Rattle.nz_reducer.proofs.Places.{in_value_order}

-- the items are the candidates with their values, in the order of the values
pub record AreInOrder {Item : Type 0} (rows candidates : List Vector) (items : List Item) (entries values : Item → Vector) : Type 0 where
  pub values_of : Each (λ c. values c ≡ values_at rows (entries c)) items
  pub order : Pairwise (ComesBefore rows) (map entries items)
  pub to : (x : Vector) → Contains candidates x → Contains (map entries items) x
  pub from : (x : Vector) → Contains (map entries items) x → Contains candidates x

-- what a sort leaves of candidates with their values
pub sorted_items : {T : Type 0} (int : T → ℤ) (cmp : T → T → Ordering) → ((a b : T) → cmp a b ≡ int_cmp (int a) (int b)) → {Item : Type 0} (rows candidates : List Vector) (old items : List Item) (entries values : Item → List T) → AreValued rows candidates old (λ c. map int (entries c)) (λ c. map int (values c)) → IsPermutation old items → IsSorted (λ x y. ordering_then (slice_cmp cmp (values x) (values y)) (slice_cmp cmp (entries x) (entries y))) items → AreInOrder rows candidates items (λ c. map int (entries c)) (λ c. map int (values c))
sorted_items int cmp ordered rows candidates old items entries values v perm sorted =
    let all : Each (λ c. map int (values c) ≡ values_at rows (map int (entries c))) items = Each-from_contains _ items (λ c k. Each-contains (λ c. map int (values c) ≡ values_at rows (map int (entries c))) old c v.values_of (Contains-permutation items old c (IsPermutation-sym old items perm) k)) in
    let mapped = IsPermutation-map (λ c. map int (entries c)) old items perm in
    record {
      values_of = all;
      order = in_value_order int cmp ordered values entries rows items sorted all;
      to = λ x c. Contains-permutation _ _ x mapped (subst (λ (xs : List Vector). Contains xs x) (sym v.same) c);
      from = λ x c. subst (λ (xs : List Vector). Contains xs x) v.same (Contains-permutation _ _ x (IsPermutation-sym _ _ mapped) c);
    }

each_take : {A : Type 0} (P : A → Type 0) (xs : List A) (i : ℕ) → Each P xs → Each P (take i xs)
each_take P [] zero h = tt
each_take P [] (suc i) h = tt
each_take P (x ∷ xs) zero h = tt
each_take P (x ∷ xs) (suc i) h = (h.0, each_take P xs i h.1)

before_at : {A : Type 0} (B : A → A → Type 0) (xs : List A) (i : ℕ) (d : A) → Pairwise B xs → i < length xs → Each (λ u. B u (get_or xs i d)) (take i xs)
before_at B [] i d p l = absurd (omega arith)
before_at B (x ∷ xs) zero d p l = tt
before_at B (x ∷ xs) (suc i) d p l = (each_at (B x) xs i d p.0 (omega arith), before_at B xs i d p.1 (omega arith))

none_under : (rows kept : List Vector) (x : Vector) → NoneIsBelow (map (values_at rows) kept) (values_at rows x) → Each (λ k. ¬ IsUnder rows k x) kept
none_under rows [] x h = tt
none_under rows (k ∷ kept) x h = (h.0, none_under rows kept x h.1)

module _ (rows candidates es : List Vector) (s : AreSeparated rows candidates) (order : Pairwise (ComesBefore rows) es) (from : (x : Vector) → Contains es x → Contains candidates x) (i : ℕ) (x : Vector) (l : i < length es) (at : x ≡ get_or es i x) (kept : List Vector) (is : Kept rows (take i es) kept) where
  of_done : Each (Contains candidates) (take i es)
  of_done = each_take (Contains candidates) es i (Each-from_contains (Contains candidates) es from)

  of_x : Contains candidates x
  of_x = from x (subst (Contains es) (sym at) (contains_at es i x l))

  next : take i es ++ x ∷ [] ≡ take (i + 1) es
  next = ap (λ (v : Vector). take i es ++ v ∷ []) at ∙ sym (take_more es i x l)

  pub next_zero : IsZero x → Kept rows (take (i + 1) es) kept
  next_zero z = subst (λ (done : List Vector). Kept rows done kept) next (kept_zero rows candidates s (take i es) kept x of_done of_x is z)

  pub next_under : HasAnyBelow (map (values_at rows) kept) (values_at rows x) → Kept rows (take (i + 1) es) kept
  next_under f =
      let place = f.place in
      let inside : place < length kept = omega (arith, f.inside, length-map kept (values_at rows)) in
      let e = get_or-map (values_at rows) kept place [] [] inside in
      subst (λ (done : List Vector). Kept rows done kept) next (kept_under rows candidates s (take i es) kept x of_done of_x is (get_or kept place []) (contains_at kept place [] inside) (subst (λ (v : Vector). IsBelow v (values_at rows x)) e f.below))

  pub next_kept : IsNonzero x → NoneIsBelow (map (values_at rows) kept) (values_at rows x) → Kept rows (take (i + 1) es) (kept ++ x ∷ [])
  next_kept n none = subst (λ (done : List Vector). Kept rows done (kept ++ x ∷ [])) next
      (kept_more rows candidates s (take i es) kept x of_done of_x is
      (subst (λ (v : Vector). Each (λ u. ComesBefore rows u v) (take i es)) (sym at) (before_at (ComesBefore rows) es i x order l)) n (none_under rows kept x none))

-- past the last candidate
pub kept_end : (rows candidates es : List Vector) → AreSeparated rows candidates → ((x : Vector) → Contains candidates x → Contains es x) → ((x : Vector) → Contains es x → Contains candidates x) → (i : ℕ) → length es ≤ i → (kept : List Vector) → Kept rows (take i es) kept → ListsOnce (IsUnreduced rows candidates) kept
kept_end rows candidates es s to from i l kept is = kept_all rows candidates s es kept (subst (λ (done : List Vector). Kept rows done kept) (take_all i es l) is) to from

-- the same for the items
module _ {T Item : Type 0} (int : T → ℤ) (rows candidates : List Vector) (items : List Item) (entries values : Item → List T) (o : AreInOrder rows candidates items (λ c. map int (entries c)) (λ c. map int (values c))) (i : ℕ) (item : Item) (l : i < length items) (at : item ≡ get_or items i item) where
  pub item_values : map int (values item) ≡ values_at rows (map int (entries item))
  item_values =
      let P : Item → Type 0 = λ c. map int (values c) ≡ values_at rows (map int (entries c)) in
      subst P (sym at) (each_at P items i item o.values_of l)

  pub item_long : (v : Vector) → v ≡ map int (values item) → length v ≡ length rows
  item_long v e = ap length (e ∙ item_values) ∙ length-map rows (λ f. dot f (map int (entries item)))

  module _ (s : AreSeparated rows candidates) (kept : List Vector) (is : Kept rows (take i (map (λ c. map int (entries c)) items)) kept) where
    long : i < length (map (λ c. map int (entries c)) items)
    long = omega (arith, l, length-map items (λ c. map int (entries c)))

    place_of : map int (entries item) ≡ get_or (map (λ c. map int (entries c)) items) i (map int (entries item))
    place_of = ap (λ c. map int (entries c)) at ∙ sym (get_or-map (λ c. map int (entries c)) items i item (map int (entries item)) l)

    pub item_zero : IsZero (map int (entries item)) → Kept rows (take (i + 1) (map (λ c. map int (entries c)) items)) kept
    item_zero z = next_zero rows candidates (map (λ c. map int (entries c)) items) s o.order o.from i (map int (entries item)) long place_of kept is z

    pub item_under : (table : List Vector) (v : Vector) → table ≡ map (values_at rows) kept → v ≡ map int (values item) → HasAnyBelow table v → Kept rows (take (i + 1) (map (λ c. map int (entries c)) items)) kept
    item_under table v t e f = next_under rows candidates (map (λ c. map int (entries c)) items) s o.order o.from i (map int (entries item)) long place_of kept is
        (subst (λ (u : Vector). HasAnyBelow (map (values_at rows) kept) u) (e ∙ item_values) (subst (λ (ts : List Vector). HasAnyBelow ts v) t f))

    pub item_kept : (table : List Vector) (v : Vector) → table ≡ map (values_at rows) kept → v ≡ map int (values item) → IsNonzero (map int (entries item)) → NoneIsBelow table v → Kept rows (take (i + 1) (map (λ c. map int (entries c)) items)) (kept ++ map int (entries item) ∷ [])
    item_kept table v t e n none = next_kept rows candidates (map (λ c. map int (entries c)) items) s o.order o.from i (map int (entries item)) long place_of kept is n
        (subst (λ (u : Vector). NoneIsBelow (map (values_at rows) kept) u) (e ∙ item_values) (subst (λ (ts : List Vector). NoneIsBelow ts v) t none))

    pub table_more : (table new : List Vector) (v : Vector) → table ≡ map (values_at rows) kept → v ≡ map int (values item) → new ≡ table ++ v ∷ [] → new ≡ map (values_at rows) (kept ++ map int (entries item) ∷ [])
    table_more table new v t e n = n ∙ ap (λ (ts : List Vector). ts ++ v ∷ []) t ∙ ap (λ (u : Vector). map (values_at rows) kept ++ u ∷ []) (e ∙ item_values) ∙ sym (map-append (values_at rows) kept (map int (entries item) ∷ []))
