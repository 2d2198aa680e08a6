-- The places that both sides of a new row share: they are marked, numbered, and the zero sets are cut to them.
use Rattle.std.proofs.Common.{◌≡◌, ◌⊎◌, inl, inr, ⊎_elim, ℕ, zero, suc, ◌+◌, ◌<◌, ◌≤◌, List, [], ◌∷◌, ◌++◌, length, get_or, set, take, true, false, Bool, pos, ◌<ℤ◌, refl, sym, ap, ◌∙◌, subst, arith, get_or-set_same, get_or-set_other}
use Rattle.std.specs.Prelude.{Option, Some, None, MatchOption, IsSome}
use Rattle.std.specs.List.{AllByRecursion as Each, Contains}
use Rattle.std.proofs.lemmas.List.{length-set, take_more, take_all, get_or_default, get_or_append_left, get_or_push, length_push}
use Rattle.std.proofs.lemmas.List.Elements.{Contains-append_left, Contains-push, Contains-push_cases}
use Rattle.nz_spec.specs.Order.{Pairwise, IsListOf}
use Rattle.nz_spec.proofs.ListLaws.{Each-contains}
use Rattle.nz_linear.proofs.Lists.{each_map, each_append}
use Rattle.nz_pointed.proofs.ListLemmas.{pairwise_push, each_at}
use Rattle.nz_rays.specs.Shared.{IsMarked, AreMarkedToo, AreMarksOf, IsNumbering, IsNextNumber, AreNumberedBoth, IsCutTo, HasAllCommon}
use Rattle.nz_spec.specs.Vectors.{Vector}
use Rattle.nz_rays.proofs.PlaceLemmas.{below_next, same_or_not, listed_push, listed_same, increasing_at, increasing_take, up_to, contains_at, each_more}

-- ---- marks
marked_in : (marks : List Bool) (k : ℕ) → IsMarked marks k → k < length marks
marked_in [] k m = absurd (let e : false ≡ true = m in cc)
marked_in (b ∷ marks) zero m = omega arith
marked_in (b ∷ marks) (suc k) m = (let l = marked_in marks k m in omega arith)

mark_stays : (marks : List Bool) (x k : ℕ) → x < length marks → IsMarked marks k → IsMarked (set marks x true) k
mark_stays marks x k l m = ⊎_elim (λ e. subst (IsMarked (set marks x true)) (sym e) (get_or-set_same marks x true false l)) (λ n. get_or-set_other marks x k true false n ∙ m) (same_or_not k x)

pub marked_more : (places : List ℕ) (first old new : List Bool) (i x : ℕ) → i < length places → x ≡ get_or places i 0 → x < length old → AreMarkedToo (take i places) first old → new ≡ set old x true → AreMarkedToo (take (i + 1) places) first new
marked_more places first old new i x l e lx h n = rw n (record {
  long = length-set old x true ∙ h.long;
  stays = λ k m. mark_stays old x k lx (h.stays k m);
  added = each_more (IsMarked (set old x true)) places i x l e (each_map (IsMarked old) (IsMarked (set old x true)) (take i places) (λ k m. mark_stays old x k lx m) h.added) (get_or-set_same old x true false lx);
})

pub marked_all : (places : List ℕ) (first new : List Bool) (i : ℕ) → length places ≤ i → AreMarkedToo (take i places) first new → AreMarkedToo places first new
marked_all places first new i l h = subst (λ us. AreMarkedToo us first new) (take_all i places l) h

pub marks_more : (sets : List (List ℕ)) (places : List ℕ) (bound i p : ℕ) (s : List ℕ) (old new : List Bool) → i < length places → p ≡ get_or places i 0 → s ≡ get_or sets p [] → AreMarksOf sets (take i places) bound old → AreMarkedToo s old new → AreMarksOf sets (take (i + 1) places) bound new
marks_more sets places bound i p s old new l e f h m = record {
  long = m.long ∙ h.long;
  marked = each_more (λ q. Each (IsMarked new) (get_or sets q [])) places i p l e
      (each_map (λ q. Each (IsMarked old) (get_or sets q [])) (λ q. Each (IsMarked new) (get_or sets q [])) (take i places) (λ q h. each_map (IsMarked old) (IsMarked new) (get_or sets q []) m.stays h) h.marked)
      (subst (Each (IsMarked new)) f m.added);
}

pub marks_all : (sets : List (List ℕ)) (places : List ℕ) (bound i : ℕ) (marks : List Bool) → length places ≤ i → AreMarksOf sets (take i places) bound marks → AreMarksOf sets places bound marks
marks_all sets places bound i marks l h = subst (λ us. AreMarksOf sets us bound marks) (take_all i places l) h

-- ---- numbers
match_map : {A : Type 0} (P Q : Type 0) (R S : A → Type 0) (o : Option A) → (P → Q) → ((x : A) → R x → S x) → MatchOption o P R → MatchOption o Q S
match_map P Q R S None f g m = f m
match_map P Q R S (Some x) f g m = g x m

not_within : (shared : List ℕ) (n : ℕ) → Each (λ k. k < n) shared → ¬ Contains shared n
not_within shared n e c = (let l = Each-contains (λ k. k < n) shared n e c in let f : ⊥ = omega arith in f)

-- one place more, that is not numbered
number_none : (shared : List ℕ) (numbers : List (Option ℕ)) → IsNumbering shared numbers → IsNumbering shared (numbers ++ None ∷ [])
number_none shared numbers h = record {
  in_order = h.in_order;
  within = each_map (λ k. k < length numbers) (λ k. k < length (numbers ++ None ∷ [])) shared (λ k l. let e = length_push numbers None in omega arith) h.within;
  each = λ k l. ⊎_elim
      (λ b. subst (λ o. MatchOption o (¬ Contains shared k) (λ i. (i < length shared) × (get_or shared i 0 ≡ k))) (sym (get_or_append_left numbers (None ∷ []) None k b)) (h.each k b))
      (λ e. subst (λ o. MatchOption o (¬ Contains shared k) (λ i. (i < length shared) × (get_or shared i 0 ≡ k))) (sym (get_or_push numbers None None k (sym e))) (subst (λ n. ¬ Contains shared n) (sym e) (not_within shared (length numbers) h.within)))
      (below_next k (length numbers) (let e = length_push numbers None in omega (arith, l, e)));
}

-- one place more with the next number
abbrev TellsNumber : List ℕ → ℕ → Option ℕ → Type 0
TellsNumber shared k o = MatchOption o (¬ Contains shared k) (λ i. (i < length shared) × (get_or shared i 0 ≡ k))

number_earlier : (shared : List ℕ) (numbers : List (Option ℕ)) → IsNumbering shared numbers → (k : ℕ) → k < length numbers → TellsNumber (shared ++ length numbers ∷ []) k (get_or (numbers ++ Some (length shared) ∷ []) k None)
number_earlier shared numbers h k b =
    let n = length numbers in
    let more = shared ++ n ∷ [] in
    subst (TellsNumber more k) (sym (get_or_append_left numbers (Some (length shared) ∷ []) None k b))
    (match_map (¬ Contains shared k) (¬ Contains more k) (λ i. (i < length shared) × (get_or shared i 0 ≡ k)) (λ i. (i < length more) × (get_or more i 0 ≡ k)) (get_or numbers k None)
    (λ none c. ⊎_elim (λ d. none d) (λ e. let f : ⊥ = omega (arith, b, e) in f) (Contains-push_cases shared n k c))
    (λ i t. (let l = t.0 in let e = length_push shared n in omega (arith, l, e), get_or_append_left shared (n ∷ []) 0 i t.0 ∙ t.1))
    (h.each k b))

number_last : (shared : List ℕ) (numbers : List (Option ℕ)) (k : ℕ) → k ≡ length numbers → TellsNumber (shared ++ length numbers ∷ []) k (get_or (numbers ++ Some (length shared) ∷ []) k None)
number_last shared numbers k e =
    let n = length numbers in
    subst (TellsNumber (shared ++ n ∷ []) k) (sym (get_or_push numbers (Some (length shared)) None k (sym e))) ((let f = length_push shared n in omega (arith, f)), get_or_push shared n 0 (length shared) refl ∙ sym e)

number_some : (shared : List ℕ) (numbers : List (Option ℕ)) → IsNumbering shared numbers → IsNumbering (shared ++ length numbers ∷ []) (numbers ++ Some (length shared) ∷ [])
number_some shared numbers h =
    let n = length numbers in
    let o = Some (length shared) in
    let new = numbers ++ o ∷ [] in
    let e : length new ≡ n + 1 = length_push numbers o in
    record {
      in_order = pairwise_push ◌<◌ shared n h.in_order h.within;
      within = each_append (λ k. k < length new) shared (n ∷ []) (each_map (λ k. k < n) (λ k. k < length new) shared (λ k l. omega (arith, l, e)) h.within) (omega (arith, e), tt);
      each = λ k l. ⊎_elim (λ b. number_earlier shared numbers h k b) (λ s. number_last shared numbers k s) (below_next k n (omega (arith, l, e)));
    }

pub number_next : (shared more : List ℕ) (numbers new : List (Option ℕ)) (place : ℕ) (o : Option ℕ) → IsNumbering shared numbers → place ≡ length numbers → IsNextNumber shared place o more → new ≡ numbers ++ o ∷ [] → IsNumbering more new
number_next shared more numbers new place None h e n f = subst (λ us. IsNumbering us new) (sym n) (subst (IsNumbering shared) (sym f) (number_none shared numbers h))
number_next shared more numbers new place (Some i) h e n f =
    let s : more ≡ shared ++ length numbers ∷ [] = n.1 ∙ ap (λ k. shared ++ k ∷ []) e in
    let t : new ≡ numbers ++ Some (length shared) ∷ [] = f ∙ ap (λ k. numbers ++ Some k ∷ []) n.0 in
    subst (λ us. IsNumbering us new) (sym s) (subst (IsNumbering (shared ++ length numbers ∷ [])) (sym t) (number_some shared numbers h))

put_has : (shared more : List ℕ) (place : ℕ) (o : Option ℕ) → IsNextNumber shared place o more → (k : ℕ) → Contains shared k → Contains more k
put_has shared more place None n k c = subst (λ us. Contains us k) (sym n) c
put_has shared more place (Some i) n k c = subst (λ us. Contains us k) (sym n.1) (Contains-append_left shared (place ∷ []) k c)

put_new : (shared more : List ℕ) (place : ℕ) (o : Option ℕ) → IsNextNumber shared place o more → IsSome o → Contains more place
put_new shared more place None n s = absurd (let e : false ≡ true = s in cc)
put_new shared more place (Some i) n s = subst (λ us. Contains us place) (sym n.1) (Contains-push shared place)

pub numbered_none : (first second : List Bool) (shared : List ℕ) (numbers : List (Option ℕ)) → shared ≡ [] → numbers ≡ [] → AreNumberedBoth first second 0 shared numbers
numbered_none first second shared numbers e f = subst (λ us. AreNumberedBoth first second 0 us numbers) (sym e) (subst (AreNumberedBoth first second 0 []) (sym f) (record {
  are_numbered = record { in_order = tt; within = tt; each = λ k l. absurd (let f : ⊥ = omega arith in f) };
  long = refl;
  has = λ k l. absurd (let f : ⊥ = omega arith in f);
}))

pub numbered_more : (first second : List Bool) (place : ℕ) (shared more : List ℕ) (numbers new : List (Option ℕ)) (o : Option ℕ) (a b c : Bool) → AreNumberedBoth first second place shared numbers → IsNextNumber shared place o more → (c ≡ true → IsSome o) → (a ≡ true → b ≡ true → c ≡ true) → a ≡ get_or first place false → b ≡ get_or second place false → new ≡ numbers ++ o ∷ [] → AreNumberedBoth first second (place + 1) more new
numbered_more first second place shared more numbers new o a b c h n some both ea eb e = record {
  are_numbered = number_next shared more numbers new place o h.are_numbered (sym h.long) n e;
  long = ap length e ∙ length_push numbers o ∙ ap (λ k. k + 1) h.long;
  has = λ k l m q. ⊎_elim (λ s. put_has shared more place o n k (h.has k s m q))
      (λ s. subst (Contains more) (sym s) (put_new shared more place o n (some (both (ea ∙ subst (IsMarked first) s m) (eb ∙ subst (IsMarked second) s q)))))
      (below_next k place l);
}

-- ---- a set cut to the places
both_more : (s : List ℕ) (i x y : ℕ) → i < length s → x ≡ get_or s i 0 → Contains (take i s) y ⊎ (x ≡ y) → Contains (take (i + 1) s) y
both_more s i x y l e c =
    let t : take (i + 1) s ≡ take i s ++ x ∷ [] = take_more s i 0 l ∙ ap (λ k. take i s ++ k ∷ []) (sym e) in
    subst (λ us. Contains us y) (sym t) (⊎_elim (λ d. Contains-append_left (take i s) (x ∷ []) y d) (λ f. subst (Contains (take i s ++ x ∷ [])) f (Contains-push (take i s) x)) c)

both_cases : (s : List ℕ) (i x y : ℕ) → i < length s → x ≡ get_or s i 0 → Contains (take (i + 1) s) y → Contains (take i s) y ⊎ (x ≡ y)
both_cases s i x y l e c =
    let t : take (i + 1) s ≡ take i s ++ x ∷ [] = take_more s i 0 l ∙ ap (λ k. take i s ++ k ∷ []) (sym e) in
    Contains-push_cases (take i s) x y (subst (λ us. Contains us y) t c)

less_or_up : (a b : ℕ) → (a < b) ⊎ (b ≤ a)
less_or_up a b = grind arith

same_place : (shared : List ℕ) → Pairwise ◌<◌ shared → (i j : ℕ) → i < length shared → j < length shared → get_or shared i 0 ≡ get_or shared j 0 → i ≡ j
same_place shared p i j li lj e = ⊎_elim (λ s. s) (λ n. ⊎_elim (λ l. absurd (let k = increasing_at shared p i j l lj in let f : ⊥ = omega (arith, k, e) in f)) (λ l. absurd (let k = increasing_at shared p j i (omega (arith, l, n)) li in let f : ⊥ = omega (arith, k, e) in f)) (less_or_up i j)) (same_or_not i j)

pub cut_more : (shared : List ℕ) (numbers : List (Option ℕ)) (s cut more : List ℕ) (i place number : ℕ) (o : Option ℕ) → IsNumbering shared numbers → Pairwise ◌<◌ s → i < length s → place ≡ get_or s i 0 → place < length numbers → o ≡ get_or numbers place o → o ≡ Some number → IsCutTo shared (take i s) cut → more ≡ cut ++ number ∷ [] → IsCutTo shared (take (i + 1) s) more
cut_more shared numbers s cut more i place number o n p l e lp eo en c m =
    let told = subst (λ q. MatchOption q (¬ Contains shared place) (λ i. (i < length shared) × (get_or shared i 0 ≡ place))) (get_or_default numbers place None o lp ∙ sym eo ∙ en) (n.each place lp) in
    subst (IsCutTo shared (take (i + 1) s)) (sym m) (listed_push ◌<◌ (λ y. (y < length shared) × Contains (take i s) (get_or shared y 0)) (λ y. (y < length shared) × Contains (take (i + 1) s) (get_or shared y 0)) cut number c
    (told.0, both_more s i place (get_or shared number 0) l e (inr (sym told.1)))
    (λ y q. ⊎_elim (λ h. h) (λ h. absurd (
    let u = up_to shared n.in_order number y h q.0 in
    let v = Each-contains (λ z. z < get_or s i 0) (take i s) (get_or shared y 0) (increasing_take s p i l) q.1 in
    let w = told.1 in
    let f : ⊥ = omega (arith, u, v, w, e) in f)) (less_or_up y number))
    (λ y q. (q.0, both_more s i place (get_or shared y 0) l e (inl q.1)))
    (λ y q. ⊎_elim (λ d. inl (q.0, d)) (λ d. inr (same_place shared n.in_order y number q.0 told.0 (sym d ∙ sym told.1))) (both_cases s i place (get_or shared y 0) l e q.1)))

pub cut_skip : (shared : List ℕ) (numbers : List (Option ℕ)) (s cut : List ℕ) (i place : ℕ) (o : Option ℕ) → IsNumbering shared numbers → i < length s → place ≡ get_or s i 0 → place < length numbers → o ≡ get_or numbers place o → o ≡ None → IsCutTo shared (take i s) cut → IsCutTo shared (take (i + 1) s) cut
cut_skip shared numbers s cut i place o n l e lp eo en c =
    let none = subst (λ q. MatchOption q (¬ Contains shared place) (λ i. (i < length shared) × (get_or shared i 0 ≡ place))) (get_or_default numbers place None o lp ∙ sym eo ∙ en) (n.each place lp) in
    listed_same ◌<◌ (λ y. (y < length shared) × Contains (take i s) (get_or shared y 0)) (λ y. (y < length shared) × Contains (take (i + 1) s) (get_or shared y 0)) cut c
    (λ y q. (q.0, both_more s i place (get_or shared y 0) l e (inl q.1)))
    (λ y q. ⊎_elim (λ d. (q.0, d)) (λ d. absurd (none (contains_at shared y place q.0 (sym d)))) (both_cases s i place (get_or shared y 0) l e q.1))

pub cut_none : (shared s cut : List ℕ) → cut ≡ [] → IsCutTo shared (take 0 s) cut
cut_none shared s cut e = subst (IsCutTo shared (take 0 s)) (sym e) (record { in_order = tt; only = tt; each = λ y q. absurd (none s (get_or shared y 0) q.1) })
  where
    none : (s : List ℕ) (k : ℕ) → ¬ Contains (take 0 s) k
    none [] k c = (let l = c.1 in let f : ⊥ = omega arith in f)
    none (x ∷ s) k c = (let l = c.1 in let f : ⊥ = omega arith in f)

pub cut_all : (shared s cut : List ℕ) (i : ℕ) → length s ≤ i → IsCutTo shared (take i s) cut → IsCutTo shared s cut
cut_all shared s cut i l h = subst (λ us. IsCutTo shared us cut) (take_all i s l) h

-- ---- what the code reads
pub place_below : (s : List ℕ) (i x n : ℕ) → i < length s → x ≡ get_or s i 0 → Each (λ k. k < n) s → x < n
place_below s i x n l e h = subst (λ k. k < n) (sym e) (each_at (λ k. k < n) 0 s i h l)

-- what both sides of the new row have in common has both marks
pub numbered_common : (values : Vector) (zeros : List (List ℕ)) (above below : List ℕ) (first second : List Bool) (bound : ℕ) (shared : List ℕ) (numbers : List (Option ℕ))
    → IsListOf ◌<◌ (λ k. (k < length values) × (pos 0 <ℤ get_or values k (pos 0))) above → IsListOf ◌<◌ (λ k. (k < length values) × (get_or values k (pos 0) <ℤ pos 0)) below → AreMarksOf zeros above bound first → AreMarksOf zeros below bound second
    → AreNumberedBoth first second (length first) shared numbers → IsNumbering shared numbers × (length numbers ≡ bound) × HasAllCommon values zeros shared
numbered_common values zeros above below first second bound shared numbers la lb ma mb n = (
  n.are_numbered,
  n.long ∙ ma.long,
  λ p q s k cp cq.
      let m = Each-contains (IsMarked first) (get_or zeros p []) k (Each-contains (λ j. Each (IsMarked first) (get_or zeros j [])) above p ma.marked (la.each p (s.above_within, s.over))) cp in
      let r = Each-contains (IsMarked second) (get_or zeros q []) k (Each-contains (λ j. Each (IsMarked second) (get_or zeros j [])) below q mb.marked (lb.each q (s.below_within, s.under))) cq in
      n.has k (marked_in first k m) m r,
)
