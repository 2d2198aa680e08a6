-- The order in which rows are inserted: those of the simplex first, then the others.
use Rattle.std.proofs.Common.{◌≡◌, ◌⊎◌, ⊎_elim, inl, inr, ℕ, zero, suc, ◌+◌, ◌<◌, ◌≤◌, List, [], ◌∷◌, ◌++◌, length, take, get_or, pos, Contains, refl, sym, ap, ◌∙◌, subst, arith, add-one}
use Rattle.std.proofs.lemmas.List.{take_more, take_all, map-append}
use Rattle.std.specs.List.{AllByRecursion as Each}
use Rattle.nz_spec.specs.Vectors.{Vector, dot, HasWidth}
use Rattle.nz_spec.specs.Covers.{vectors_at}
use Rattle.nz_spec.specs.Order.{Pairwise}
use Rattle.nz_spec.specs.Stages.{IsFreshRow, Separates, none, fresh, other}
use Rattle.nz_spec.specs.Sums.{IsInSpan}
use Rattle.nz_spec.proofs.EquationLaws.{zero_on_span, dot_comm}
use Rattle.nz_spec.proofs.ListLaws.{Each-contains, Each-from_contains, contains_here, contains_there, contains_cases, contains_none}
use Rattle.nz_linear.specs.DualPairs.{Pair, HasWidths}
use Rattle.nz_linear.proofs.EliminationRun.{run, find_pivot}
use Rattle.nz_linear.proofs.Lists.{each_map, each_append, each_right, each_left}
use Rattle.nz_linear.proofs.Rank.{in_seen_span}
use Rattle.nz_order.proofs.OrderLaws.{nat_compare}
use Rattle.nz_pointed.specs.Pointed.{IsNew, AreFirstIndependent}

-- ---- a row is fresh just where it is no sum of those before it
module _ (w : ℕ) (seen earlier : List Vector) (r : Vector) (l : Each (HasWidth w) seen) (there : Each (Contains earlier) seen) (back : Each (Contains seen) earlier) where
  pub fresh_of_new : HasWidth w r → ¬ IsInSpan w seen r → IsFreshRow (HasWidth w) earlier r
  fresh_of_new lr n =
      let s = run w seen l in
      elim (find_pivot r s.free) [
        | inl all ↦ absurd (n (in_seen_span w seen s.chosen s.free r l lr s.state all))
        | inr t ↦ (
            let widths = each_right (HasWidths w) s.chosen s.free s.state.pair.widths in
            let inside : Each (λ (p : Pair). HasWidths w p × Each (λ a. dot a p.vector ≡ pos 0) seen) s.free = both (HasWidths w) (λ (p : Pair). Each (λ a. dot a p.vector ≡ pos 0) seen) s.free widths s.state.free_vanish in
            let at = middle (λ (p : Pair). HasWidths w p × Each (λ a. dot a p.vector ≡ pos 0) seen) t.before t.pivot t.after (subst (Each (λ (p : Pair). HasWidths w p × Each (λ a. dot a p.vector ≡ pos 0) seen)) t.split inside) in
            record {
              vector = t.pivot.vector;
              in_lattice = at.0.vector_width;
              zero_at = each_map (Contains seen) (λ a. dot a t.pivot.vector ≡ pos 0) earlier (λ a c. Each-contains (λ b. dot b t.pivot.vector ≡ pos 0) seen a at.1 c) back;
              nonzero_at = t.nonzero;
            })
      ]
    where
      both : (P Q : Pair → Type 0) (ps : List Pair) → Each P ps → Each Q ps → Each (λ p. P p × Q p) ps
      both P Q [] h k = tt
      both P Q (p ∷ ps) h k = ((h.0, k.0), both P Q ps h.1 k.1)

      middle : (P : Pair → Type 0) (xs : List Pair) (p : Pair) (ys : List Pair) → Each P (xs ++ (p ∷ ys)) → P p
      middle P [] p ys h = h.0
      middle P (x ∷ xs) p ys h = middle P xs p ys h.1

  pub new_of_fresh : IsFreshRow (HasWidth w) earlier r → ¬ IsInSpan w seen r
  new_of_fresh f i = f.nonzero_at (dot_comm r f.vector ∙ zero_on_span f.vector w seen r l
      (each_map (Contains earlier) (λ a. dot f.vector a ≡ pos 0) seen (λ a c. dot_comm f.vector a ∙ Each-contains (λ b. dot b f.vector ≡ pos 0) earlier a f.zero_at c) there) i)

-- ---- the parts of a list
-- the vectors of a list before those that are there, the last first
abbrev onto : List Vector → List Vector → List Vector
onto [] earlier = earlier
onto (v ∷ vs) earlier = onto vs (v ∷ earlier)

onto_old : (vs earlier : List Vector) (x : Vector) → Contains earlier x → Contains (onto vs earlier) x
onto_old [] earlier x c = c
onto_old (v ∷ vs) earlier x c = onto_old vs (v ∷ earlier) x (contains_there v x earlier c)

onto_has : (vs earlier : List Vector) (x : Vector) → Contains vs x → Contains (onto vs earlier) x
onto_has [] earlier x c = absurd (contains_none x c)
onto_has (v ∷ vs) earlier x c = ⊎_elim
    (λ (e : v ≡ x). onto_old vs (v ∷ earlier) x (subst (Contains (v ∷ earlier)) e (contains_here v earlier)))
    (λ k. onto_has vs (v ∷ earlier) x k)
    (contains_cases v vs x c)

onto_from : (vs earlier : List Vector) (x : Vector) → Contains (onto vs earlier) x → Contains vs x ⊎ Contains earlier x
onto_from [] earlier x c = inr c
onto_from (v ∷ vs) earlier x c = ⊎_elim
    (λ k. inl (contains_there v x vs k))
    (λ k. ⊎_elim (λ (e : v ≡ x). inl (subst (Contains (v ∷ vs)) e (contains_here v vs))) (λ m. inr m) (contains_cases v earlier x k))
    (onto_from vs (v ∷ earlier) x c)

fresh_end : {Fresh : List Vector → Vector → Type 0} {earlier vs first others : List Vector} (v : Vector) → Separates Fresh earlier vs first others → Fresh (onto vs earlier) v → Separates Fresh earlier (vs ++ v ∷ []) (first ++ v ∷ []) others
fresh_end v none f = fresh f none
fresh_end v (fresh g s) f = fresh g (fresh_end v s f)
fresh_end v (other n s) f = other n (fresh_end v s f)

other_end : {Fresh : List Vector → Vector → Type 0} {earlier vs first others : List Vector} (v : Vector) → Separates Fresh earlier vs first others → ¬ Fresh (onto vs earlier) v → Separates Fresh earlier (vs ++ v ∷ []) first (others ++ v ∷ [])
other_end v none n = other n none
other_end v (fresh g s) n = fresh g (other_end v s n)
other_end v (other m s) n = other m (other_end v s n)

pub each_part : {Fresh : List Vector → Vector → Type 0} {earlier vs first others : List Vector} (P : Vector → Type 0) → Separates Fresh earlier vs first others → Each P vs → Each P (first ++ others)
each_part P none h = tt
each_part P (fresh g s) h = (h.0, each_part P s h.1)
each_part P (other {first = first} {others = others} {v = v} n s) h =
    let k = each_part P s h.1 in
    each_append P first (v ∷ others) (each_left P first others k) (h.0, each_right P first others k)

pub each_whole : {Fresh : List Vector → Vector → Type 0} {earlier vs first others : List Vector} (P : Vector → Type 0) → Separates Fresh earlier vs first others → Each P (first ++ others) → Each P vs
each_whole P none h = tt
each_whole P (fresh g s) h = (h.0, each_whole P s h.1)
each_whole P (other {first = first} {others = others} {v = v} n s) h =
    let k = each_right P first (v ∷ others) h in
    (k.0, each_whole P s (each_append P first others (each_left P first (v ∷ others) h) k.1))

-- ---- the first rows, apart by the places of the simplex
-- the first rows fall into those at the first places and the others
pub record IsSplitUpTo (w : ℕ) (rows : List Vector) (places : List ℕ) (place next : ℕ) (others : List Vector) : Type 0 where
  pub separates : Separates (IsFreshRow (HasWidth w)) [] (take place rows) (vectors_at rows (take next places)) others
  pub within : next ≤ length places
  pub below : (k : ℕ) → k < next → get_or places k 0 < place
  pub above : next < length places → place ≤ get_or places next 0

pairs_at : (xs : List ℕ) (k l : ℕ) → Pairwise ◌<◌ xs → k < l → l < length xs → get_or xs k 0 < get_or xs l 0
pairs_at [] k l h a b = absurd (let f : ⊥ = omega arith in f)
pairs_at (x ∷ xs) k zero h a b = absurd (let f : ⊥ = omega arith in f)
pairs_at (x ∷ xs) zero (suc l) h a b = at xs l h.0 (omega arith)
  where
    at : (ys : List ℕ) (i : ℕ) → Each (λ y. x < y) ys → i < length ys → x < get_or ys i 0
    at [] i e m = absurd (let f : ⊥ = omega arith in f)
    at (y ∷ ys) zero e m = e.0
    at (y ∷ ys) (suc i) e m = at ys i e.1 (omega arith)
pairs_at (x ∷ xs) (suc k) (suc l) h a b = pairs_at xs k l h.1 (omega arith) (omega arith)

pub split_none : (w : ℕ) (rows : List Vector) (places : List ℕ) → IsSplitUpTo w rows places 0 0 []
split_none w rows places = record {
  separates = subst (λ (vs : List Vector). Separates (IsFreshRow (HasWidth w)) [] vs (vectors_at rows (take 0 places)) []) (sym (take_none rows)) (subst (λ (ps : List ℕ). Separates (IsFreshRow (HasWidth w)) [] [] (vectors_at rows ps) []) (sym (take_none places)) none);
  within = omega arith;
  below = λ k l. absurd (let f : ⊥ = omega arith in f);
  above = λ l. omega arith;
}
  where
    take_none : {A : Type 0} (xs : List A) → take 0 xs ≡ []
    take_none [] = refl
    take_none (x ∷ xs) = refl

module _ (w : ℕ) (rows : List Vector) (places : List ℕ) (lr : Each (HasWidth w) rows) (are : AreFirstIndependent w rows places) (place next : ℕ) (others : List Vector) (l : place < length rows) (s : IsSplitUpTo w rows places place next others) where
  row : Vector
  row = get_or rows place []

  wide_before : Each (HasWidth w) (take place rows)
  wide_before = front rows place lr
    where
      front : (vs : List Vector) (i : ℕ) → Each (HasWidth w) vs → Each (HasWidth w) (take i vs)
      front [] zero h = tt
      front [] (suc i) h = tt
      front (v ∷ vs) zero h = tt
      front (v ∷ vs) (suc i) h = (h.0, front vs i h.1)

  row_wide : HasWidth w (get_or rows place [])
  row_wide = at rows place lr l
    where
      at : (vs : List Vector) (i : ℕ) → Each (HasWidth w) vs → i < length vs → HasWidth w (get_or vs i [])
      at [] i h m = absurd (let f : ⊥ = omega arith in f)
      at (v ∷ vs) zero h m = h.0
      at (v ∷ vs) (suc i) h m = at vs i h.1 (omega arith)

  there : Each (Contains (onto (take place rows) [])) (take place rows)
  there = Each-from_contains (Contains (onto (take place rows) [])) (take place rows) (λ x c. onto_has (take place rows) [] x c)

  back : Each (Contains (take place rows)) (onto (take place rows) [])
  back = Each-from_contains (Contains (take place rows)) (onto (take place rows) []) (λ x c. ⊎_elim (λ h. h) (λ n. absurd (contains_none x n)) (onto_from (take place rows) [] x c))

  pub split_chosen : (next < length places) × (get_or places next 0 ≡ place) → IsSplitUpTo w rows places (place + 1) (next + 1) others
  split_chosen h =
      let n = h.0 in
      let e = h.1 in
      let new : IsNew w rows place = subst (IsNew w rows) e (at places next are.only n) in
      let f = fresh_of_new w (take place rows) (onto (take place rows) []) (get_or rows place []) wide_before there back row_wide new.independent in
      let chosen : vectors_at rows (take (next + 1) places) ≡ vectors_at rows (take next places) ++ get_or rows place [] ∷ [] =
      ap (vectors_at rows) (take_more places next 0 n) ∙ map-append (λ p. get_or rows p []) (take next places) (get_or places next 0 ∷ []) ∙ ap (λ p. vectors_at rows (take next places) ++ get_or rows p [] ∷ []) e in
      record {
        separates = subst (λ (vs : List Vector). Separates (IsFreshRow (HasWidth w)) [] vs (vectors_at rows (take (next + 1) places)) others) (sym (take_more rows place [] l))
            (subst (λ (us : List Vector). Separates (IsFreshRow (HasWidth w)) [] (take place rows ++ get_or rows place [] ∷ []) us others) (sym chosen) (fresh_end (get_or rows place []) s.separates f));
        within = omega arith;
        below = λ k m. ⊎_elim (λ b. let t = s.below k b in omega arith) (λ (i : k ≡ next). let t : get_or places k 0 ≡ place = ap (λ j. get_or places j 0) i ∙ e in omega arith) (less_or_same k next m);
        above = λ m. let t = pairs_at places next (next + 1) are.in_order (omega arith) m in omega arith;
      }
    where
      at : (ps : List ℕ) (i : ℕ) → Each (IsNew w rows) ps → i < length ps → IsNew w rows (get_or ps i 0)
      at [] i h m = absurd (let f : ⊥ = omega arith in f)
      at (p ∷ ps) zero h m = h.0
      at (p ∷ ps) (suc i) h m = at ps i h.1 (omega arith)

      less_or_same : (k n : ℕ) → k < n + 1 → (k < n) ⊎ (k ≡ n)
      less_or_same zero zero m = inr refl
      less_or_same zero (suc n) m = inl (omega arith)
      less_or_same (suc k) zero m = absurd (let f : ⊥ = omega arith in f)
      less_or_same (suc k) (suc n) m = ⊎_elim (λ b. inl (omega arith)) (λ i. inr (ap suc i)) (less_or_same k n (omega arith))

  pub split_other : ¬ ((next < length places) × (get_or places next 0 ≡ place)) → IsSplitUpTo w rows places (place + 1) next (others ++ get_or rows place [] ∷ [])
  split_other n =
      let later : next < length places → place < get_or places next 0 = λ m. ⊎_elim (λ b. b) (λ (i : get_or places next 0 ≡ place). absurd (n (m, i))) (above_or_same place (get_or places next 0) (s.above m)) in
      let not_listed : ¬ Contains places place = λ c. missing c later in
      let old : ¬ IsFreshRow (HasWidth w) (onto (take place rows) []) (get_or rows place []) = λ f. not_listed (are.each place (record { within = l; independent = new_of_fresh w (take place rows) (onto (take place rows) []) (get_or rows place []) wide_before there back f })) in
      record {
        separates = subst (λ (vs : List Vector). Separates (IsFreshRow (HasWidth w)) [] vs (vectors_at rows (take next places)) (others ++ get_or rows place [] ∷ [])) (sym (take_more rows place [] l)) (other_end (get_or rows place []) s.separates old);
        within = s.within;
        below = λ k m. let t = s.below k m in omega arith;
        above = λ m. let t = later m in omega arith;
      }
    where
      above_or_same : (a b : ℕ) → a ≤ b → (a < b) ⊎ (b ≡ a)
      above_or_same zero zero m = inr refl
      above_or_same zero (suc b) m = inl (omega arith)
      above_or_same (suc a) zero m = absurd (let f : ⊥ = omega arith in f)
      above_or_same (suc a) (suc b) m = ⊎_elim (λ t. inl (omega arith)) (λ i. inr (ap suc i)) (above_or_same a b (omega arith))

      before_or_not : (k n : ℕ) → (k < n) ⊎ (n ≤ k)
      before_or_not k zero = inr (omega arith)
      before_or_not zero (suc n) = inl (omega arith)
      before_or_not (suc k) (suc n) = ⊎_elim (λ t. inl (omega arith)) (λ t. inr (omega arith)) (before_or_not k n)

      place_of : (xs : List ℕ) (x : ℕ) → Contains xs x → (k : ℕ) × (k < length xs) × (get_or xs k 0 ≡ x)
      place_of [] x c = absurd (contains_none x c)
      place_of (y ∷ ys) x c = ⊎_elim (λ e. (0, omega arith, e)) (λ k. let r = place_of ys x k in let t = r.1 in (suc r.0, omega arith, r.2)) (contains_cases y ys x c)

      missing : Contains places place → (next < length places → place < get_or places next 0) → ⊥
      missing c later =
          let r = place_of places place c in
          let k = r.0 in
          let m = r.1 in
          let e : get_or places k 0 ≡ place = r.2 in
          ⊎_elim (λ b. let t = s.below k b in let f : ⊥ = omega arith in f)
          (λ b. let t = later (omega arith) in ⊎_elim (λ a. let u = pairs_at places next k are.in_order a m in let f : ⊥ = omega arith in f) (λ (i : k ≡ next). let u : get_or places k 0 ≡ get_or places next 0 = ap (λ j. get_or places j 0) i in let f : ⊥ = omega arith in f) (above_or_same next k b))
          (before_or_not k next)

-- at the end all places are behind
pub split_all : (w : ℕ) (rows : List Vector) (places : List ℕ) (place next : ℕ) (others : List Vector) → AreFirstIndependent w rows places → length rows ≤ place → IsSplitUpTo w rows places place next others → Separates (IsFreshRow (HasWidth w)) [] rows (vectors_at rows places) others
split_all w rows places place next others are l s =
    subst (λ (ps : List ℕ). Separates (IsFreshRow (HasWidth w)) [] rows (vectors_at rows ps) others) (take_all next places (ended next s.within s.above))
    (subst (λ (vs : List Vector). Separates (IsFreshRow (HasWidth w)) [] vs (vectors_at rows (take next places)) others) (take_all place rows l) s.separates)
  where
    at : (ps : List ℕ) (i : ℕ) → Each (IsNew w rows) ps → i < length ps → get_or ps i 0 < length rows
    at [] i h m = absurd (let f : ⊥ = omega arith in f)
    at (p ∷ ps) zero h m = h.0.within
    at (p ∷ ps) (suc i) h m = at ps i h.1 (omega arith)

    before_or_not : (k n : ℕ) → (k < n) ⊎ (n ≤ k)
    before_or_not k zero = inr (omega arith)
    before_or_not zero (suc n) = inl (omega arith)
    before_or_not (suc k) (suc n) = ⊎_elim (λ t. inl (omega arith)) (λ t. inr (omega arith)) (before_or_not k n)

    ended : (n : ℕ) → n ≤ length places → (n < length places → place ≤ get_or places n 0) → length places ≤ n
    ended n m f = ⊎_elim (λ b. let t = f b in let u = at places n are.only b in absurd (let g : ⊥ = omega arith in g)) (λ b. b) (before_or_not n (length places))

-- so the rows can always be set apart
pub others_exist : (w : ℕ) (rows : List Vector) (places : List ℕ) → Each (HasWidth w) rows → AreFirstIndependent w rows places → (others : List Vector) × Separates (IsFreshRow (HasWidth w)) [] rows (vectors_at rows places) others
others_exist w rows places lr are = let s = splits (length rows) (omega arith) in (s.1, split_all w rows places (length rows) s.0 s.1 are (omega arith) s.2)
  where
    is_next : (next place : ℕ) → ((next < length places) × (get_or places next 0 ≡ place)) ⊎ (¬ ((next < length places) × (get_or places next 0 ≡ place)))
    is_next next place = elim (nat_compare next (length places)) [
      | inl l ↦ elim (nat_compare (get_or places next 0) place) [
        | inl b ↦ inr (λ h. let e = h.1 in let f : ⊥ = omega arith in f)
        | inr (inl e) ↦ inl (l, e)
        | inr (inr b) ↦ inr (λ h. let e = h.1 in let f : ⊥ = omega arith in f)
      ]
      | inr (inl e) ↦ inr (λ h. let l = h.0 in let f : ⊥ = omega arith in f)
      | inr (inr b) ↦ inr (λ h. let l = h.0 in let f : ⊥ = omega arith in f)
    ]

    splits : (place : ℕ) → place ≤ length rows → (next : ℕ) × (others : List Vector) × IsSplitUpTo w rows places place next others
    splits zero l = (0, [], split_none w rows places)
    splits (suc k) l =
        let s = splits k (omega arith) in
        let m : k < length rows = omega arith in
        elim (is_next s.0 k) [
          | inl y ↦ (s.0 + 1, s.1, subst (λ (n : ℕ). IsSplitUpTo w rows places n (s.0 + 1) s.1) (add-one k) (split_chosen w rows places lr are k s.0 s.1 m s.2 y))
          | inr n ↦ (s.0, s.1 ++ get_or rows k [] ∷ [], subst (λ (j : ℕ). IsSplitUpTo w rows places j s.0 (s.1 ++ get_or rows k [] ∷ [])) (add-one k) (split_other w rows places lr are k s.0 s.1 m s.2 n))
        ]
