-- What a search among marks says of the whole table, and one entry more.
use Rattle.std.proofs.Common.{◌≡◌, ◌≢◌, ◌⊎◌, inl, inr, Bool, true, false, ℕ, zero, suc, ◌+◌, ◌<◌, ◌≤◌, List, [], ◌∷◌, ◌++◌, length, map, take, drop, get_or, ℤ, ◌≤ℤ◌, ◌<ℤ◌, Contains, refl, sym, ◌∙◌, subst, arith}
use Rattle.std.proofs.lemmas.Int.{ints, by_lt_z}
use Rattle.std.proofs.lemmas.Bool.{cases_order}
use Rattle.std.proofs.lemmas.List.{length-append, length-map, take-map, get_or_append_left, get_or_push, take-append-drop}
use Rattle.std.proofs.lemmas.List.Sorted.{IsPermutation-insert, IsPermutation-map}
use Rattle.std.specs.Prelude.{Option, Some, None, MatchBool}
use Rattle.std.specs.List.{insert, AllByRecursion as Each}
use Rattle.nz_spec.specs.Vectors.{Vector, HasWidth}
use Rattle.nz_spec.specs.Order.{Pairwise, ListsOnce}
use Rattle.nz_spec.proofs.ListLaws.{contains_here, contains_there, contains_none, contains_cases, Each-weaker, Each-contains, Each-from_contains}
use Rattle.nz_order.specs.Boxes.{IsBelow}
use Rattle.nz_order.proofs.SortLaws.{Each-append, Each-front, Each-back, Pairwise-insert, permuted_once}
use Rattle.nz_reducer.specs.Tables.{total, HasSum, NoneIsBelow, IsFirstBelow, HasAnyBelow, IsInReach, IsNumberCompared, HasBelow}
use Rattle.nz_reducer.specs.Marks.{IsSum, RisesTo, IsReached, IsReach, IsPosition, AreMarks, IsSearched, IsOneUnder, AreWithoutSum, NoneOfMarked}
use Rattle.nz_reducer.proofs.Places.{each_from}
use Rattle.nz_reducer.proofs.MarkLemmas.{each_taken, each_dropped, pairwise_taken, none_apart}
use Rattle.nz_reducer.proofs.SumLemmas.{below_total}

-- ---- lists
marked : {A B : Type 0} (f : A → B) (xs : List A) (y : B) → Contains (map f xs) y → (x : A) × Contains xs x × (f x ≡ y)
marked f [] y h = absurd (contains_none y h)
marked f (x ∷ xs) y h = elim (contains_cases (f x) (map f xs) y h) [
  | inl e ↦ (x, contains_here x xs, e)
  | inr c ↦ (let t = marked f xs y c in (t.0, contains_there x t.0 xs t.1, t.2))
]

contains_image : {A B : Type 0} (f : A → B) (xs : List A) (x : A) → Contains xs x → Contains (map f xs) (f x)
contains_image f [] x h = absurd (contains_none x h)
contains_image f (z ∷ xs) x h = elim (contains_cases z xs x h) [
  | inl e ↦ subst (λ y. Contains (f z ∷ map f xs) (f y)) e (contains_here (f z) (map f xs))
  | inr c ↦ contains_there (f z) (f x) (map f xs) (contains_image f xs x c)
]

halves : {A : Type 0} (n : ℕ) (xs : List A) (x : A) → Contains xs x → Contains (take n xs) x ⊎ Contains (drop n xs) x
halves n [] x h = absurd (contains_none x h)
halves zero (y ∷ xs) x h = inr h
halves (suc n) (y ∷ xs) x h = elim (contains_cases y xs x h) [
  | inl e ↦ inl (subst (λ z. Contains (y ∷ take n xs) z) e (contains_here y (take n xs)))
  | inr c ↦ elim (halves n xs x c) [
    | inl a ↦ inl (contains_there y x (take n xs) a)
    | inr b ↦ inr b
  ]
]

contains_whole : {A : Type 0} (n : ℕ) (xs : List A) (x : A) → Contains (take n xs) x → Contains xs x
contains_whole zero [] x h = absurd (contains_none x h)
contains_whole (suc n) [] x h = absurd (contains_none x h)
contains_whole zero (y ∷ xs) x h = absurd (contains_none x h)
contains_whole (suc n) (y ∷ xs) x h = elim (contains_cases y (take n xs) x h) [
  | inl e ↦ subst (λ z. Contains (y ∷ xs) z) e (contains_here y xs)
  | inr c ↦ contains_there y x xs (contains_whole n xs x c)
]

contains_behind : {A : Type 0} (n : ℕ) (xs : List A) (x : A) → Contains (drop n xs) x → Contains xs x
contains_behind zero [] x h = h
contains_behind zero (y ∷ xs) x h = h
contains_behind (suc n) [] x h = h
contains_behind (suc n) (y ∷ xs) x h = contains_there y x xs (contains_behind n xs x h)

each_image : {A B : Type 0} (f : A → B) (P : B → Type 0) (xs : List A) → Each P (map f xs) → Each (λ x. P (f x)) xs
each_image f P [] h = tt
each_image f P (x ∷ xs) h = (h.0, each_image f P xs h.1)

pub both_ways : (b : Bool) (P Q R S : Type 0) → (P → R) → (Q → S) → MatchBool b P Q → MatchBool b R S
both_ways true P Q R S f g h = f h
both_ways false P Q R S f g h = g h

-- the entries are as long as the table is wide
pub long_entries : {A T : Type 0} (integer : T → ℤ) (items : A → List T) (xs : List A) (w n : ℕ) → Each (HasWidth w) (map (λ e. map integer (items e)) xs) → n ≡ w → Each (λ e. length (items e) ≡ n) xs
long_entries integer items [] w n h e = tt
long_entries integer items (x ∷ xs) w n h e = (sym (length-map (items x) integer) ∙ h.0 ∙ sym e, long_entries integer items xs w n h.1 e)

module _ {T : Type 0} (integer : T → ℤ) (fits : ℤ → Type 0) where
  module _ {A Item : Type 0} (sum : Item → Option T) (place : Item → ℕ) (f : A → Vector) (es : List A) (marks : List Item) (a : AreMarks integer fits sum place (map f es) marks) (n : ℕ) where
    pub taken_inside : Each (λ k. k < length es) (map place (take n marks))
    taken_inside = Each-weaker (λ k. k < length (map f es)) (λ k. k < length es) (λ k l. omega (arith, l, length-map es f)) (map place (take n marks)) (subst (Each (λ k. k < length (map f es))) (take-map place n marks) (each_taken (λ k. k < length (map f es)) n (map place marks) a.places.only))

    pub taken_different : Pairwise ◌≢◌ (map place (take n marks))
    taken_different = subst (Pairwise ◌≢◌) (take-map place n marks) (pairwise_taken ◌≢◌ n (map place marks) a.places.in_order)

    pub taken_within : Each (λ m. place m < length es) (take n marks)
    taken_within = each_image place (λ k. k < length es) (take n marks) taken_inside

    pub part_within : (f : ℕ) → Each (λ m. place m < length es) (drop f (take n marks))
    part_within f = each_dropped (λ m. place m < length es) f (take n marks) taken_within

  more_sum : (x y : ℤ) → ¬ (x ≤ℤ y) → y <ℤ x
  more_sum x y n = by_lt_z y x (λ (l : y <ℤ x). l) (λ (l : x ≤ℤ y). absurd (n l))

  beyond_sums : (a s : Option T) (xs ys : Vector) → ¬ IsReached integer a s → IsSum integer fits xs a → IsSum integer fits ys s → HasSum fits xs × (total ys <ℤ total xs)
  beyond_sums a None xs ys n p q = absurd (n tt)
  beyond_sums None (Some v) xs ys n p q = absurd (n tt)
  beyond_sums (Some e) (Some v) xs ys n p q = (p.0, (let l = more_sum (integer e) (integer v) n in let i = p.1 in let j = q.1 in omega (arith, ints, l, i, j)))

  reached_small : (a s : Option T) (xs ys : Vector) → IsReached integer a s → IsSum integer fits xs a → IsSum integer fits ys s → HasSum fits ys → (total xs ≤ℤ total ys) ⊎ ¬ HasSum fits xs
  reached_small None s xs ys r p q w = inr p
  reached_small (Some e) None xs ys r p q w = absurd (q w)
  reached_small (Some e) (Some v) xs ys r p q w = inl (let i = p.1 in let j = q.1 in omega (arith, ints, r, i, j))

  some_sum : (o : Option T) (xs : Vector) → IsSum integer fits xs o → HasSum fits xs → (v : T) × (o ≡ Some v) × (integer v ≡ total xs)
  some_sum None xs p w = absurd (p w)
  some_sum (Some v) xs p w = (v, refl, p.1)

  small_sum : (o : Option T) (xs : Vector) (most : T) → o ≢ None → IsSum integer fits xs o → IsReached integer o (Some most) → HasSum fits xs × (total xs ≤ℤ integer most)
  small_sum None xs most n p l = absurd (n refl)
  small_sum (Some v) xs most n p l = (p.0, (let e = p.1 in omega (arith, ints, e, l)))

  module _ {Item : Type 0} (sum : Item → Option T) (place : Item → ℕ) (entries : List Vector) (marks : List Item) (a : AreMarks integer fits sum place entries marks) where
    pub marks_inside : Each (λ m. place m < length entries) marks
    marks_inside = each_image place (λ k. k < length entries) marks a.places.only

    sum_at : (m : Item) (k : ℕ) → Contains marks m → place m ≡ k → IsSum integer fits (get_or entries k []) (sum m)
    sum_at m k c e = subst (λ (i : ℕ). IsSum integer fits (get_or entries i []) (sum m)) e (Each-contains (λ m. IsSum integer fits (get_or entries (place m) []) (sum m)) marks m a.sums c)

    inside_at : (m : Item) (k : ℕ) → Contains marks m → place m ≡ k → k < length entries
    inside_at m k c e = subst (λ (i : ℕ). i < length entries) e (Each-contains (λ m. place m < length entries) marks m marks_inside c)

    module _ (values : Vector) (s : Option T) (q : IsSum integer fits values s) (n : ℕ) (r : IsReach integer sum marks s n) (first number : ℕ) (h : IsSearched entries values (map place (take n marks)) first number) where
      not_below : (k : ℕ) → k < length entries → k < first → ¬ IsBelow (get_or entries k []) values
      not_below k l f b =
          let t = marked place marks k (a.places.each k l) in
          elim (halves n marks t.0 t.1) [
            | inl c ↦ Each-contains (λ k. k < first → ¬ IsBelow (get_or entries k []) values) (map place (take n marks)) k h.least (subst (Contains (map place (take n marks))) t.2 (contains_image place (take n marks) t.0 c)) f b
            | inr c ↦ (let g = beyond_sums (sum t.0) s (get_or entries k []) values (Each-contains (λ m. ¬ IsReached integer (sum m) s) (drop n marks) t.0 r.beyond c) (sum_at t.0 k t.1 t.2) q in
                let u = below_total (get_or entries k []) values b in let v = g.1 in absurd (omega (arith, ints, u, v)))
          ]

      pub none_below : length entries ≤ first → NoneIsBelow entries values
      none_below e = each_from (λ e. ¬ IsBelow e values) entries [] (λ k l. not_below k l (omega (arith, l, e)))

      pub first_below : first < length entries → IsFirstBelow entries values first
      first_below l = record { inside = l; below = h.below l; first = λ k m. not_below k (omega (arith, l, m)) m }

      in_reach : HasSum fits values → (k : ℕ) → Contains (map place (take n marks)) k → IsInReach fits entries values k
      in_reach w k c =
          let t = marked place (take n marks) k c in
          let d = contains_whole n marks t.0 t.1 in
          record {
            inside = inside_at t.0 k d t.2;
            small = reached_small (sum t.0) s (get_or entries k []) values (Each-contains (λ m. IsReached integer (sum m) s) (take n marks) t.0 r.reached t.1) (sum_at t.0 k d t.2) q w;
          }

      reached_all : first ≡ length entries → (k : ℕ) → IsInReach fits entries values k → Contains h.compared k
      reached_all e k i =
          let t = marked place marks k (a.places.each k i.inside) in
          elim (halves n marks t.0 t.1) [
            | inl c ↦ Each-contains (Contains h.compared) (map place (take n marks)) k (h.all e) (subst (Contains (map place (take n marks))) t.2 (contains_image place (take n marks) t.0 c))
            | inr c ↦ (let g = beyond_sums (sum t.0) s (get_or entries k []) values (Each-contains (λ m. ¬ IsReached integer (sum m) s) (drop n marks) t.0 r.beyond c) (sum_at t.0 k t.1 t.2) q in
                elim i.small [
                  | inl u ↦ (let v = g.1 in absurd (omega (arith, ints, u, v)))
                  | inr u ↦ absurd (u g.0)
                ])
          ]

      pub none_compared : length entries ≤ first → HasSum fits values → IsNumberCompared fits entries values None number
      none_compared e w = record {
        places = h.compared;
        different = h.different;
        in_reach = Each-weaker (Contains (map place (take n marks))) (IsInReach fits entries values) (in_reach w) h.compared h.among;
        size = h.size;
        answer = reached_all (let i = h.inside in omega (arith, e, i));
      }

      pub first_compared : first < length entries → HasSum fits values → IsNumberCompared fits entries values (Some first) number
      first_compared l w = record {
        places = h.compared;
        different = h.different;
        in_reach = Each-weaker (Contains (map place (take n marks))) (IsInReach fits entries values) (in_reach w) h.compared h.among;
        size = h.size;
        answer = h.found l;
      }

    module _ (values : Vector) (s : Option T) (q : IsSum integer fits values s) (n : ℕ) (r : IsReach integer sum marks s n) where
      pub none_reached : NoneOfMarked place entries values (take n marks) → NoneIsBelow entries values
      none_reached h = each_from (λ e. ¬ IsBelow e values) entries [] (λ k l b.
          let t = marked place marks k (a.places.each k l) in
          elim (halves n marks t.0 t.1) [
            | inl c ↦ Each-contains (λ m. ¬ IsBelow (get_or entries (place m) []) values) (take n marks) t.0 h c (subst (λ (i : ℕ). IsBelow (get_or entries i []) values) (sym t.2) b)
            | inr c ↦ (let g = beyond_sums (sum t.0) s (get_or entries k []) values (Each-contains (λ m. ¬ IsReached integer (sum m) s) (drop n marks) t.0 r.beyond c) (sum_at t.0 k t.1 t.2) q in
                let u = below_total (get_or entries k []) values b in let v = g.1 in absurd (omega (arith, ints, u, v)))
          ])

      pub any_reached : IsOneUnder place entries values (take n marks) → HasAnyBelow entries values
      any_reached h = record { place = place h.mark; inside = inside_at h.mark (place h.mark) (contains_whole n marks h.mark h.listed) refl; below = h.below }

    module _ (values : Vector) (most : T) (n : ℕ) (r : IsReach integer sum marks (Some most) n) (f : ℕ) (w : AreWithoutSum sum (take n marks) f) where
      pub under_below : IsOneUnder place entries values (drop f (take n marks)) → HasBelow fits entries values (integer most)
      under_below b =
          let c = contains_behind f (take n marks) b.mark b.listed in
          let d = contains_whole n marks b.mark c in
          let t = small_sum (sum b.mark) (get_or entries (place b.mark) []) most (Each-contains (λ m. sum m ≢ None) (drop f (take n marks)) b.mark w.after b.listed) (sum_at b.mark (place b.mark) d refl) (Each-contains (λ m. IsReached integer (sum m) (Some most)) (take n marks) b.mark r.reached c) in
          record {
            place = place b.mark;
            inside = inside_at b.mark (place b.mark) d refl;
            sum = t.0;
            small = t.1;
            below = b.below;
          }

      pub none_under_below : NoneOfMarked place entries values (drop f (take n marks)) → ¬ HasBelow fits entries values (integer most)
      none_under_below h b =
          let t = marked place marks b.place (a.places.each b.place b.inside) in
          let v = some_sum (sum t.0) (get_or entries b.place []) (sum_at t.0 b.place t.1 t.2) b.sum in
          let l : integer v.0 ≤ℤ integer most = (let e = v.2 in let m = b.small in omega (arith, ints, e, m)) in
          elim (halves n marks t.0 t.1) [
            | inl c ↦ elim (halves f (take n marks) t.0 c) [
              | inl x ↦ none_apart (sum t.0) v.0 (Each-contains (λ m. sum m ≡ None) (take f (take n marks)) t.0 w.before x) v.1
              | inr x ↦ Each-contains (λ m. ¬ IsBelow (get_or entries (place m) []) values) (drop f (take n marks)) t.0 h x (subst (λ (k : ℕ). IsBelow (get_or entries k []) values) (sym t.2) b.below)
            ]
            | inr c ↦ subst (λ (o : Option T). ¬ IsReached integer o (Some most)) v.1 (Each-contains (λ m. ¬ IsReached integer (sum m) (Some most)) (drop n marks) t.0 r.beyond c) l
          ]

    -- ---- one entry more
    module _ (v : Vector) (new : Item) (i : ℕ) (p : IsPosition integer sum marks (sum new) i) (q : IsSum integer fits v (sum new)) (e : place new ≡ length entries) where
      parts : take i marks ++ drop i marks ≡ marks
      parts = take-append-drop i marks

      longer : length (entries ++ v ∷ []) ≡ length entries + 1
      longer = length-append entries (v ∷ [])

      -- what holds of each mark and its entry holds of one more
      pub each_more : (W : Vector → Item → Type 0) → Each (λ m. W (get_or entries (place m) []) m) marks → W v new → Each (λ m. W (get_or (entries ++ v ∷ []) (place m) []) m) (insert marks i new)
      each_more W o n =
          let S : Item → Type 0 = λ m. W (get_or (entries ++ v ∷ []) (place m) []) m in
          let old : Each S marks = Each-from_contains S marks (λ m c. subst (λ (x : Vector). W x m) (sym (get_or_append_left entries (v ∷ []) [] (place m) (inside_at m (place m) c refl))) (Each-contains (λ m. W (get_or entries (place m) []) m) marks m o c)) in
          let both = subst (Each S) (sym parts) old in
          Each-append S (take i marks) (new ∷ drop i marks) (Each-front S (take i marks) (drop i marks) both) (subst (λ (x : Vector). W x new) (sym (get_or_push entries v [] (place new) (sym e))) n, Each-back S (take i marks) (drop i marks) both)

      once : ListsOnce (λ k. k < length (entries ++ v ∷ [])) (place new ∷ map place marks)
      once = record {
        in_order = (Each-weaker (λ k. k < length entries) (λ k. place new ≢ k) (λ k l f. absurd (omega (arith, l, f, e))) (map place marks) a.places.only, a.places.in_order);
        only = (omega (arith, e, longer), Each-weaker (λ k. k < length entries) (λ k. k < length (entries ++ v ∷ [])) (λ k l. omega (arith, l, longer)) (map place marks) a.places.only);
        each = λ k l. elim (cases_order k (length entries)) [
          | inl f ↦ subst (λ (j : ℕ). Contains (place new ∷ map place marks) j) (e ∙ sym f) (contains_here (place new) (map place marks))
          | inr (inl m) ↦ contains_there (place new) k (map place marks) (a.places.each k m)
          | inr (inr m) ↦ absurd (omega (arith, l, m, longer))
        ];
      }

      pub marks_more : AreMarks integer fits sum place (entries ++ v ∷ []) (insert marks i new)
      marks_more = record {
        order = Pairwise-insert (λ a b. RisesTo integer (sum a) (sum b)) (take i marks) (drop i marks) new (subst (Pairwise (λ a b. RisesTo integer (sum a) (sum b))) (sym parts) a.order) p.before p.after;
        sums = each_more (λ x m. IsSum integer fits x (sum m)) a.sums q;
        places = permuted_once (λ k. k < length (entries ++ v ∷ [])) (place new ∷ map place marks) (map place (insert marks i new)) once (IsPermutation-map place (new ∷ marks) (insert marks i new) (IsPermutation-insert marks i new));
      }
