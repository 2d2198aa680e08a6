-- Marks in the order of their sums, and what a search finds among them.
use Rattle.std.proofs.Common.{◌≡◌, ◌≢◌, inl, inr, ℕ, zero, suc, ◌+◌, ◌<◌, ◌≤◌, List, [], ◌∷◌, ◌++◌, length, map, take, drop, get_or, ℤ, ◌≤ℤ◌, ◌<ℤ◌, Contains, refl, sym, ap, ◌∙◌, subst, arith}
use Rattle.std.proofs.lemmas.Int.{ints, by_lt_z}
use Rattle.std.proofs.lemmas.Bool.{cases_order}
use Rattle.std.proofs.lemmas.List.{length-map, take_more, take_all, get_or-map, get_or_read}
use Rattle.std.proofs.lemmas.List.Elements.{Contains-append_left, Contains-push}
use Rattle.std.specs.Prelude.{Option, Some, None}
use Rattle.std.specs.List.{AllByRecursion as Each}
use Rattle.nz_spec.specs.Vectors.{Vector}
use Rattle.nz_spec.specs.Order.{Pairwise}
use Rattle.nz_spec.proofs.ListLaws.{each_at, contains_here, contains_there, different_within, Each-weaker, Each-contains}
use Rattle.nz_order.proofs.OrderLaws.{Each-push}
use Rattle.nz_order.specs.Boxes.{IsBelow}
use Rattle.nz_reducer.specs.Marks.{RisesTo, IsReached, IsReach, IsPosition, IsSearched, AreWithoutSum, NoneOfMarked}

pairwise_at : {A : Type 0} (R : A → A → Type 0) (xs : List A) (i j : ℕ) (d : A) → Pairwise R xs → i < j → j < length xs → R (get_or xs i d) (get_or xs j d)
pairwise_at R [] i j d p l m = absurd (omega (arith, m))
pairwise_at R (x ∷ xs) i zero d p l m = absurd (omega (arith, l))
pairwise_at R (x ∷ xs) zero (suc j) d p l m = each_at (R x) xs j d p.0 (omega (arith, m))
pairwise_at R (x ∷ xs) (suc i) (suc j) d p l m = pairwise_at R xs i j d p.1 (omega (arith, l)) (omega (arith, m))

each_front : {A : Type 0} (P : A → Type 0) (xs : List A) (n : ℕ) → ((k : ℕ) (d : A) → k < n → k < length xs → P (get_or xs k d)) → Each P (take n xs)
each_front P [] zero h = tt
each_front P [] (suc n) h = tt
each_front P (x ∷ xs) zero h = tt
each_front P (x ∷ xs) (suc n) h = (h 0 x (omega arith) (omega arith), each_front P xs n (λ k d l m. h (suc k) d (omega (arith, l)) (omega (arith, m))))

each_behind : {A : Type 0} (P : A → Type 0) (xs : List A) (n : ℕ) → ((k : ℕ) (d : A) → n ≤ k → k < length xs → P (get_or xs k d)) → Each P (drop n xs)
each_behind P [] zero h = tt
each_behind P [] (suc n) h = tt
each_behind P (x ∷ xs) zero h = (h 0 x (omega arith) (omega arith), each_behind P xs 0 (λ k d l m. h (suc k) d (omega arith) (omega (arith, m))))
each_behind P (x ∷ xs) (suc n) h = each_behind P xs n (λ k d l m. h (suc k) d (omega (arith, l)) (omega (arith, m)))

pub each_taken : {A : Type 0} (P : A → Type 0) (n : ℕ) (xs : List A) → Each P xs → Each P (take n xs)
each_taken P zero [] h = tt
each_taken P zero (x ∷ xs) h = tt
each_taken P (suc n) [] h = tt
each_taken P (suc n) (x ∷ xs) h = (h.0, each_taken P n xs h.1)

pub each_dropped : {A : Type 0} (P : A → Type 0) (n : ℕ) (xs : List A) → Each P xs → Each P (drop n xs)
each_dropped P zero [] h = tt
each_dropped P zero (x ∷ xs) h = h
each_dropped P (suc n) [] h = tt
each_dropped P (suc n) (x ∷ xs) h = each_dropped P n xs h.1

pub pairwise_taken : {A : Type 0} (R : A → A → Type 0) (n : ℕ) (xs : List A) → Pairwise R xs → Pairwise R (take n xs)
pairwise_taken R zero [] h = tt
pairwise_taken R zero (x ∷ xs) h = tt
pairwise_taken R (suc n) [] h = tt
pairwise_taken R (suc n) (x ∷ xs) h = (each_taken (R x) n xs h.0, pairwise_taken R n xs h.1)

-- what stands last is none of those before
last_apart : {A : Type 0} (xs : List A) (x : A) → Pairwise ◌≢◌ (xs ++ x ∷ []) → Each (λ y. y ≢ x) xs
last_apart [] x h = tt
last_apart (y ∷ xs) x h = (Each-contains (λ z. y ≢ z) (xs ++ x ∷ []) x h.0 (Contains-push xs x), last_apart xs x h.1)

module _ {T : Type 0} (integer : T → ℤ) where
  reached_before : (a b s : Option T) → RisesTo integer a b → IsReached integer b s → IsReached integer a s
  reached_before a b None r h = tt
  reached_before None b (Some s) r h = tt
  reached_before (Some a) None (Some s) r h = absurd r
  reached_before (Some a) (Some b) (Some s) r h = omega (arith, ints, r, h)

  reached_rises : (a : Option T) (s : T) → IsReached integer a (Some s) → RisesTo integer a (Some s)
  reached_rises None s h = tt
  reached_rises (Some a) s h = h

  beyond_rises : (a : Option T) (s : T) → ¬ IsReached integer a (Some s) → RisesTo integer (Some s) a
  beyond_rises None s h = absurd (h tt)
  beyond_rises (Some a) s h = by_not (integer a) (integer s) h
    where
      by_not : (x y : ℤ) → ¬ (x ≤ℤ y) → y ≤ℤ x
      by_not x y n = by_lt_z x y (λ (l : x <ℤ y). absurd (n (omega (arith, ints, l)))) (λ (l : y ≤ℤ x). l)

  module _ {Item : Type 0} (sum : Item → Option T) (marks : List Item) where
    -- what is reached ends from the one index to the other
    pub record IsReachBetween (s : Option T) (low high : ℕ) : Type 0 where
      pub ordered : low ≤ high
      pub inside : high ≤ length marks
      pub reached : (k : ℕ) (d : Item) → k < low → IsReached integer (sum (get_or marks k d)) s
      pub beyond : (k : ℕ) (d : Item) → high ≤ k → k < length marks → ¬ IsReached integer (sum (get_or marks k d)) s

    module _ (order : Pairwise (λ a b. RisesTo integer (sum a) (sum b)) marks) (s : Option T) (low high middle : ℕ) (h : IsReachBetween s low high) (m : middle < high) (item : Item) (at : item ≡ get_or marks middle item) where
      long : middle < length marks
      long = omega (arith, m, h.inside)

      reached_at : (k : ℕ) (d : Item) → k < middle → IsReached integer (sum item) s → IsReached integer (sum (get_or marks k d)) s
      reached_at k d l r = reached_before (sum (get_or marks k d)) (sum (get_or marks middle d)) s (pairwise_at (λ a b. RisesTo integer (sum a) (sum b)) marks k middle d order l long) (subst (λ (x : Item). IsReached integer (sum x) s) (get_or_read marks middle item long at d) r)

      pub reach_up : IsReached integer (sum item) s → IsReachBetween s (middle + 1) high
      reach_up r = record {
        ordered = omega (arith, m);
        inside = h.inside;
        reached = λ k d l. elim (cases_order k middle) [
          | inl e ↦ subst (λ (n : ℕ). IsReached integer (sum (get_or marks n d)) s) (sym e) (subst (λ (x : Item). IsReached integer (sum x) s) (get_or_read marks middle item long at d) r)
          | inr (inl b) ↦ reached_at k d b r
          | inr (inr b) ↦ absurd (omega (arith, l, b))
        ];
        beyond = h.beyond;
      }

      pub reach_down : low ≤ middle → ¬ IsReached integer (sum item) s → IsReachBetween s low middle
      reach_down i n = record {
        ordered = i;
        inside = omega (arith, long);
        reached = h.reached;
        beyond = λ k d l u r. elim (cases_order k middle) [
          | inl e ↦ n (subst (λ (x : Item). IsReached integer (sum x) s) (sym (get_or_read marks middle item long at d)) (subst (λ (j : ℕ). IsReached integer (sum (get_or marks j d)) s) e r))
          | inr (inl b) ↦ absurd (omega (arith, l, b))
          | inr (inr b) ↦ n (subst (λ (x : Item). IsReached integer (sum x) s) (sym (get_or_read marks middle item long at d)) (reached_before (sum (get_or marks middle d)) (sum (get_or marks k d)) s (pairwise_at (λ a b. RisesTo integer (sum a) (sum b)) marks middle k d order b u) r))
        ];
      }

    pub reach_end : (s : Option T) (low high : ℕ) → IsReachBetween s low high → high ≤ low → IsReach integer sum marks s low
    reach_end s low high h e = record {
      inside = omega (arith, h.ordered, h.inside);
      reached = each_front (λ m. IsReached integer (sum m) s) marks low (λ k d l m. h.reached k d l);
      beyond = each_behind (λ m. ¬ IsReached integer (sum m) s) marks low (λ k d l m. h.beyond k d (omega (arith, l, e)) m);
    }

    reach_position : (s : T) (n : ℕ) → IsReach integer sum marks (Some s) n → IsPosition integer sum marks (Some s) n
    reach_position s n h = record {
      inside = h.inside;
      before = Each-weaker _ (λ m. RisesTo integer (sum m) (Some s)) (λ m. reached_rises (sum m) s) (take n marks) h.reached;
      after = Each-weaker _ (λ m. RisesTo integer (Some s) (sum m)) (λ m. beyond_rises (sum m) s) (drop n marks) h.beyond;
    }

    none_position : IsPosition integer sum marks None 0
    none_position = record { inside = omega arith; before = each_front (λ m. RisesTo integer (sum m) None) marks 0 (λ k d l m. absurd (omega (arith, l))); after = each_behind (λ m. RisesTo integer None (sum m)) marks 0 (λ k d l m. tt) }

    pub some_position : (s : Option T) (v : T) (n : ℕ) → s ≡ Some v → IsReach integer sum marks s n → IsPosition integer sum marks s n
    some_position s v n e h = subst (λ (o : Option T). IsPosition integer sum marks o n) (sym e) (reach_position v n (subst (λ (o : Option T). IsReach integer sum marks o n) e h))

    pub front_position : (s : Option T) → s ≡ None → IsPosition integer sum marks s 0
    front_position s e = subst (λ (o : Option T). IsPosition integer sum marks o 0) (sym e) none_position

pub image_at : {A B : Type 0} (f : A → B) (xs : List A) (k : ℕ) (x : A) (d : B) → k < length xs → x ≡ get_or xs k x → get_or (map f xs) k d ≡ f x
image_at f xs k x d l at = get_or-map f xs k x d l ∙ sym (ap f at)

module _ (entries : List Vector) (values : Vector) where
  pub searched_start : (n : ℕ) → n ≡ length entries → IsSearched entries values [] n 0
  searched_start n e = record {
    below = λ l. absurd (omega (arith, l, e));
    inside = omega (arith, e);
    least = tt;
    compared = [];
    different = tt;
    among = tt;
    size = refl;
    found = λ l. absurd (omega (arith, l, e));
    all = λ e. tt;
  }

  pub number_within : (tried : List ℕ) (first number : ℕ) → IsSearched entries values tried first number → number ≤ length tried
  number_within tried first number h = let l = different_within h.compared tried h.different h.among in let e = h.size in omega (arith, l, e)

  module _ (tried : List ℕ) (first number : ℕ) (h : IsSearched entries values tried first number) (place : ℕ) where
    more_among : Each (Contains (tried ++ place ∷ [])) h.compared
    more_among = Each-weaker (Contains tried) _ (λ k. Contains-append_left tried (place ∷ []) k) h.compared h.among

    all_more : first ≡ length entries → Each (Contains (place ∷ h.compared)) (tried ++ place ∷ [])
    all_more e = Each-push (Contains (place ∷ h.compared)) tried place (Each-weaker (Contains h.compared) _ (λ k. contains_there place k h.compared) tried (h.all e)) (contains_here place h.compared)

    searched_skip : place < length entries → first ≤ place → IsSearched entries values (tried ++ place ∷ []) first number
    searched_skip i l = record {
      below = h.below;
      inside = h.inside;
      least = Each-push _ tried place h.least (λ m. absurd (omega (arith, l, m)));
      compared = h.compared;
      different = h.different;
      among = more_among;
      size = h.size;
      found = h.found;
      all = λ e. absurd (omega (arith, i, l, e));
    }

    module _ (d : Pairwise ◌≢◌ (tried ++ place ∷ [])) where
      new_apart : Each (λ k. place ≢ k) h.compared
      new_apart = Each-weaker (Contains tried) _ (λ k c e. Each-contains (λ y. y ≢ place) tried k (last_apart tried place d) c (sym e)) h.compared h.among

      searched_not : ¬ IsBelow (get_or entries place []) values → IsSearched entries values (tried ++ place ∷ []) first (number + 1)
      searched_not n = record {
        below = h.below;
        inside = h.inside;
        least = Each-push _ tried place h.least (λ m. n);
        compared = place ∷ h.compared;
        different = (new_apart, h.different);
        among = (Contains-push tried place, more_among);
        size = (let e = h.size in omega (arith, e));
        found = λ l. contains_there place first h.compared (h.found l);
        all = all_more;
      }

      searched_hit : place < first → IsBelow (get_or entries place []) values → IsSearched entries values (tried ++ place ∷ []) place (number + 1)
      searched_hit l b = record {
        below = λ m. b;
        inside = (let i = h.inside in omega (arith, i, l));
        least = Each-push _ tried place (Each-weaker _ (λ k. k < place → ¬ IsBelow (get_or entries k []) values) (λ k f m. f (omega (arith, l, m))) tried h.least) (λ m. absurd (omega (arith, m)));
        compared = place ∷ h.compared;
        different = (new_apart, h.different);
        among = (Contains-push tried place, more_among);
        size = (let e = h.size in omega (arith, e));
        found = λ m. contains_here place h.compared;
        all = λ e. absurd (let i = h.inside in omega (arith, i, l, e));
      }

  -- the same as the marks have the places
  module _ {Item : Type 0} (at_place : Item → ℕ) (marks : List Item) (i : ℕ) (item : Item) (l : i < length marks) (at : item ≡ get_or marks i item) (first number : ℕ) (h : IsSearched entries values (take i (map at_place marks)) first number) where
    next : take i (map at_place marks) ++ at_place item ∷ [] ≡ take (i + 1) (map at_place marks)
    next =
        let m : i < length (map at_place marks) = omega (arith, l, length-map marks at_place) in
        let e = ap at_place at ∙ sym (get_or-map at_place marks i item 0 l) in
        ap (λ (p : ℕ). take i (map at_place marks) ++ p ∷ []) e ∙ sym (take_more (map at_place marks) i 0 m)

    inside_at : Each (λ k. k < length entries) (map at_place marks) → at_place item < length entries
    inside_at w =
        let m : i < length (map at_place marks) = omega (arith, l, length-map marks at_place) in
        subst (λ (p : ℕ). p < length entries) (get_or-map at_place marks i item 0 l ∙ sym (ap at_place at)) (each_at (λ k. k < length entries) (map at_place marks) i 0 w m)

    pub mark_skipped : Each (λ k. k < length entries) (map at_place marks) → first ≤ at_place item → IsSearched entries values (take (i + 1) (map at_place marks)) first number
    mark_skipped w m = subst (λ (ks : List ℕ). IsSearched entries values ks first number) next (searched_skip (take i (map at_place marks)) first number h (at_place item) (inside_at w) m)

    module _ (d : Pairwise ◌≢◌ (map at_place marks)) where
      apart : Pairwise ◌≢◌ (take i (map at_place marks) ++ at_place item ∷ [])
      apart = subst (Pairwise ◌≢◌) (sym next) (pairwise_taken ◌≢◌ (i + 1) (map at_place marks) d)

      pub mark_not : ¬ IsBelow (get_or entries (at_place item) []) values → IsSearched entries values (take (i + 1) (map at_place marks)) first (number + 1)
      mark_not n = subst (λ (ks : List ℕ). IsSearched entries values ks first (number + 1)) next (searched_not (take i (map at_place marks)) first number h (at_place item) apart n)

      pub mark_hit : at_place item < first → IsBelow (get_or entries (at_place item) []) values → IsSearched entries values (take (i + 1) (map at_place marks)) (at_place item) (number + 1)
      mark_hit m b = subst (λ (ks : List ℕ). IsSearched entries values ks (at_place item) (number + 1)) next (searched_hit (take i (map at_place marks)) first number h (at_place item) apart m b)

-- one mark more, whose entry is not at most the values
pub none_more : {Item : Type 0} (at_place : Item → ℕ) (entries : List Vector) (values : Vector) (marks : List Item) (i : ℕ) (item : Item) → i < length marks → item ≡ get_or marks i item → NoneOfMarked at_place entries values (take i marks) → ¬ IsBelow (get_or entries (at_place item) []) values → NoneOfMarked at_place entries values (take (i + 1) marks)
none_more at_place entries values marks i item l at h n =
    subst (NoneOfMarked at_place entries values) (ap (λ m. take i marks ++ m ∷ []) at ∙ sym (take_more marks i item l)) (Each-push (λ m. ¬ IsBelow (get_or entries (at_place m) []) values) (take i marks) item h n)

pub none_apart : {T : Type 0} (o : Option T) (v : T) → o ≡ None → o ≡ Some v → ⊥
none_apart o v e f = (let t : None ≡ Some v = sym e ∙ f in cc)

module _ {T Item : Type 0} (integer : T → ℤ) (sum : Item → Option T) (marks : List Item) (order : Pairwise (λ a b. RisesTo integer (sum a) (sum b)) marks) where
  has_rises : (a b : Option T) → a ≢ None → RisesTo integer a b → b ≢ None
  has_rises None b n r e = n refl
  has_rises (Some a) None n r e = r
  has_rises (Some a) (Some b) n r e = none_apart (Some b) b e refl

  pub first_summed : (i : ℕ) (item : Item) (v : T) → i < length marks → item ≡ get_or marks i item → sum item ≡ Some v → Each (λ m. sum m ≡ None) (take i marks) → AreWithoutSum sum marks i
  first_summed i item v l at s h =
      let n : sum item ≢ None = λ e. none_apart (sum item) v e s in
      record {
        inside = omega (arith, l);
        before = h;
        after = each_behind (λ m. sum m ≢ None) marks i (λ k d u m. elim (cases_order i k) [
          | inl e ↦ subst (λ (j : ℕ). sum (get_or marks j d) ≢ None) e (subst (λ (x : Item). sum x ≢ None) (get_or_read marks i item l at d) n)
          | inr (inl b) ↦ has_rises (sum item) (sum (get_or marks k d)) n (subst (λ (x : Item). RisesTo integer (sum x) (sum (get_or marks k d))) (sym (get_or_read marks i item l at d)) (pairwise_at (λ a b. RisesTo integer (sum a) (sum b)) marks i k d order b m))
          | inr (inr b) ↦ absurd (omega (arith, u, b))
        ]);
      }

  pub none_summed : (i : ℕ) → length marks ≤ i → Each (λ m. sum m ≡ None) (take i marks) → AreWithoutSum sum marks (length marks)
  none_summed i e h = record {
    inside = omega arith;
    before = subst (Each (λ m. sum m ≡ None)) (take_all i marks e ∙ sym (take_all (length marks) marks (omega arith))) h;
    after = each_behind (λ m. sum m ≢ None) marks (length marks) (λ k d u m. absurd (omega (arith, u, m)));
  }

  -- one mark more without a sum
  pub summed_more : (i : ℕ) (item : Item) → i < length marks → item ≡ get_or marks i item → sum item ≡ None → Each (λ m. sum m ≡ None) (take i marks) → Each (λ m. sum m ≡ None) (take (i + 1) marks)
  summed_more i item l at n h = subst (Each (λ m. sum m ≡ None)) (ap (λ m. take i marks ++ m ∷ []) at ∙ sym (take_more marks i item l)) (Each-push (λ m. sum m ≡ None) (take i marks) item h n)
