-- Lists of places in order, read at places and built one by one; and two lists place by place.
use Rattle.std.proofs.Common.{◌≡◌, ◌≢◌, ◌⊎◌, inl, inr, ⊎_elim, ℕ, zero, suc, ◌+◌, ◌<◌, ◌≤◌, List, [], ◌∷◌, ◌++◌, length, get_or, take, ℤ, pos, ◌≤ℤ◌, ◌<ℤ◌, false, refl, sym, ap, ◌∙◌, subst, arith}
use Rattle.std.specs.List.{AllByRecursion as Each, AllZip, Contains}
use Rattle.std.proofs.lemmas.List.{append-nil, append_assoc, take_more, take_all, get_or_default}
use Rattle.std.proofs.lemmas.List.Elements.{Contains-append_left, Contains-push, Contains-push_cases}
use Rattle.std.specs.Prelude.{IsTrue}
use Rattle.std.proofs.lemmas.Int.{by_lt_z}
use Rattle.nz_spec.specs.Order.{Pairwise, IsListOf}
use Rattle.nz_spec.proofs.ListLaws.{Each-contains, different_within, contains_here, contains_there, contains_cases, contains_none}
use Rattle.nz_linear.proofs.Lists.{each_map, each_append}
use Rattle.nz_pointed.proofs.ListLemmas.{pairwise_push, zip_more, each_at}
use Rattle.nz_rays.specs.Cuts.{Appends, IsKeptAt}

-- ---- lists in order
-- one more that stands after all
pub listed_push : {A : Type 0} (B : A → A → Type 0) (P Q : A → Type 0) (xs : List A) (x : A) → IsListOf B P xs → Q x → ((y : A) → P y → B y x) → ((y : A) → P y → Q y) → ((y : A) → Q y → P y ⊎ (y ≡ x)) → IsListOf B Q (xs ++ (x ∷ []))
listed_push B P Q xs x l q after to from = record {
  in_order = pairwise_push B xs x l.in_order (each_map P (λ y. B y x) xs after l.only);
  only = each_append Q xs (x ∷ []) (each_map P Q xs to l.only) (q, tt);
  each = λ y k. ⊎_elim (λ p. Contains-append_left xs (x ∷ []) y (l.each y p)) (λ e. subst (Contains (xs ++ (x ∷ []))) (sym e) (Contains-push xs x)) (from y k);
}

pub listed_same : {A : Type 0} (B : A → A → Type 0) (P Q : A → Type 0) (xs : List A) → IsListOf B P xs → ((y : A) → P y → Q y) → ((y : A) → Q y → P y) → IsListOf B Q xs
listed_same B P Q xs l to from = record { in_order = l.in_order; only = each_map P Q xs to l.only; each = λ y q. l.each y (from y q) }

pub below_next : (k i : ℕ) → k < i + 1 → (k < i) ⊎ (k ≡ i)
below_next k i l = grind arith

-- ---- the places below a bound of which something holds
pub range_none : (S : ℕ → Type 0) (xs : List ℕ) → xs ≡ [] → IsListOf ◌<◌ (λ k. (k < 0) × S k) xs
range_none S xs e = subst (IsListOf ◌<◌ (λ k. (k < 0) × S k)) (sym e) (record { in_order = tt; only = tt; each = λ k h. absurd (let l = h.0 in let f : ⊥ = omega arith in f) })

pub range_push : (S : ℕ → Type 0) (i : ℕ) (xs ys : List ℕ) → IsListOf ◌<◌ (λ k. (k < i) × S k) xs → S i → ys ≡ xs ++ (i ∷ []) → IsListOf ◌<◌ (λ k. (k < i + 1) × S k) ys
range_push S i xs ys l s e = subst (IsListOf ◌<◌ (λ k. (k < i + 1) × S k)) (sym e)
    (listed_push ◌<◌ (λ k. (k < i) × S k) (λ k. (k < i + 1) × S k) xs i l (omega arith, s) (λ y p. p.0) (λ y p. (let h = p.0 in omega arith, p.1))
    (λ y q. ⊎_elim (λ b. inl (b, q.1)) (λ b. inr b) (below_next y i q.0)))

pub range_skip : (S : ℕ → Type 0) (i : ℕ) (xs : List ℕ) → IsListOf ◌<◌ (λ k. (k < i) × S k) xs → ¬ S i → IsListOf ◌<◌ (λ k. (k < i + 1) × S k) xs
range_skip S i xs l n = listed_same ◌<◌ (λ k. (k < i) × S k) (λ k. (k < i + 1) × S k) xs l (λ y p. (let h = p.0 in omega arith, p.1))
    (λ y q. ⊎_elim (λ b. (b, q.1)) (λ b. absurd (n (subst S b q.1))) (below_next y i q.0))

pub range_all : (S : ℕ → Type 0) (i n : ℕ) (xs : List ℕ) → i ≡ n → IsListOf ◌<◌ (λ k. (k < i) × S k) xs → IsListOf ◌<◌ (λ k. (k < n) × S k) xs
range_all S i n xs e l = subst (λ (m : ℕ). IsListOf ◌<◌ (λ k. (k < m) × S k) xs) e l

-- ---- increasing lists
pub increasing_at : (xs : List ℕ) → Pairwise ◌<◌ xs → (i j : ℕ) → i < j → j < length xs → get_or xs i 0 < get_or xs j 0
increasing_at [] p i j l h = absurd (omega arith)
increasing_at (x ∷ xs) p i zero l h = absurd (omega arith)
increasing_at (x ∷ xs) p zero (suc j) l h = each_at (λ y. x < y) 0 xs j p.0 (omega arith)
increasing_at (x ∷ xs) p (suc i) (suc j) l h = increasing_at xs p.1 i j (omega arith) (omega arith)

pub increasing_take : (xs : List ℕ) → Pairwise ◌<◌ xs → (i : ℕ) → i < length xs → Each (λ y. y < get_or xs i 0) (take i xs)
increasing_take [] p i l = absurd (omega arith)
increasing_take (x ∷ xs) p zero l = tt
increasing_take (x ∷ xs) p (suc i) l = (each_at (λ y. x < y) 0 xs i p.0 (omega arith), increasing_take xs p.1 i (omega arith))

pub increasing_differ : (xs : List ℕ) → Pairwise ◌<◌ xs → Pairwise ◌≢◌ xs
increasing_differ [] p = tt
increasing_differ (x ∷ xs) p = (each_map (λ y. x < y) (λ y. x ≢ y) xs (λ y l e. omega arith) p.0, increasing_differ xs p.1)

-- what is where a search by halves has come to
pub record IsSought (xs : List ℕ) (x low high : ℕ) : Type 0 where
  pub ordered : low ≤ high
  pub within : high ≤ length xs
  pub below : (k : ℕ) → k < low → get_or xs k 0 < x
  pub above : (k : ℕ) → high ≤ k → k < length xs → x < get_or xs k 0

pub sought_start : (xs : List ℕ) (x n : ℕ) → n ≡ length xs → IsSought xs x 0 n
sought_start xs x n e = record { ordered = omega arith; within = omega arith; below = λ k l. absurd (let f : ⊥ = omega arith in f); above = λ k l h. absurd (let f : ⊥ = omega arith in f) }

pub up_to : (xs : List ℕ) → Pairwise ◌<◌ xs → (i j : ℕ) → i ≤ j → j < length xs → get_or xs i 0 ≤ get_or xs j 0
up_to xs p i j l h = ⊎_elim (λ b. let g = increasing_at xs p i j b h in omega arith) (λ e. let g = ap (λ k. get_or xs k 0) e in omega arith) (less_or_same i j l)
  where
    less_or_same : (i j : ℕ) → i ≤ j → (i < j) ⊎ (i ≡ j)
    less_or_same i j l = grind arith

pub sought_right : (xs : List ℕ) (x low high middle : ℕ) → Pairwise ◌<◌ xs → IsSought xs x low high → middle < high → low ≤ middle → get_or xs middle 0 < x → IsSought xs x (middle + 1) high
sought_right xs x low high middle p s l m h = record {
  ordered = omega arith;
  within = s.within;
  below = λ k b. let u = up_to xs p k middle (omega arith) (let w = s.within in omega arith) in omega arith;
  above = s.above;
}

pub sought_left : (xs : List ℕ) (x low high middle : ℕ) → Pairwise ◌<◌ xs → IsSought xs x low high → middle < high → low ≤ middle → x < get_or xs middle 0 → IsSought xs x low middle
sought_left xs x low high middle p s l m h = record {
  ordered = m;
  within = let w = s.within in omega arith;
  below = s.below;
  above = λ k b w. let u = up_to xs p middle k b w in omega arith;
}

pub sought_none : (xs : List ℕ) (x low high : ℕ) → IsSought xs x low high → high ≤ low → ¬ Contains xs x
sought_none xs x low high s l c =
    let e : get_or xs c.0 0 ≡ x = same_at xs c.0 c.1 ∙ c.2 in
    ⊎_elim (λ b. let h = s.below c.0 b in let f : ⊥ = omega arith in f) (λ b. let h = s.above c.0 (omega arith) c.1 in let f : ⊥ = omega arith in f) (side c.0 low)
  where
    same_at : (ys : List ℕ) (k : ℕ) → k < length ys → get_or ys k 0 ≡ get_or ys k x
    same_at [] k h = absurd (omega arith)
    same_at (y ∷ ys) zero h = refl
    same_at (y ∷ ys) (suc k) h = same_at ys k (omega arith)

    side : (i j : ℕ) → (i < j) ⊎ (j ≤ i)
    side i j = grind arith

pub contains_at : (xs : List ℕ) (i x : ℕ) → i < length xs → get_or xs i 0 ≡ x → Contains xs x
contains_at [] i x l e = absurd (omega arith)
contains_at (y ∷ xs) zero x l e = (0, omega arith, e)
contains_at (y ∷ xs) (suc i) x l e = let c = contains_at xs i x (omega arith) e in (suc c.0, let h = c.1 in omega arith, c.2)

-- ---- what two sets have in common
abbrev pub IsInBoth : List ℕ → List ℕ → ℕ → Type 0
IsInBoth xs ys k = Contains xs k × Contains ys k

pub common_none : (xs ys both : List ℕ) → both ≡ [] → IsListOf ◌<◌ (IsInBoth (take 0 xs) ys) both
common_none xs ys both e = subst (IsListOf ◌<◌ (IsInBoth [] ys)) (sym e) (record { in_order = tt; only = tt; each = λ k h. absurd (let l = h.0.1 in let f : ⊥ = omega arith in f) })

pub common_push : (xs ys both more : List ℕ) (i x : ℕ) → Pairwise ◌<◌ xs → i < length xs → x ≡ get_or xs i 0 → IsListOf ◌<◌ (IsInBoth (take i xs) ys) both → Contains ys x → more ≡ both ++ (x ∷ []) → IsListOf ◌<◌ (IsInBoth (take (i + 1) xs) ys) more
common_push xs ys both more i x p l e c h m =
    let t : take (i + 1) xs ≡ take i xs ++ (x ∷ []) = take_more xs i 0 l ∙ ap (λ k. take i xs ++ (k ∷ [])) (sym e) in
    subst (IsListOf ◌<◌ (IsInBoth (take (i + 1) xs) ys)) (sym m) (subst (λ (us : List ℕ). IsListOf ◌<◌ (IsInBoth us ys) (both ++ (x ∷ []))) (sym t)
    (listed_push ◌<◌ (IsInBoth (take i xs) ys) (IsInBoth (take i xs ++ (x ∷ [])) ys) both x c (Contains-push (take i xs) x, h)
    (λ y k. rw e (Each-contains (λ z. z < get_or xs i 0) (take i xs) y (increasing_take xs p i l) k.0))
    (λ y k. (Contains-append_left (take i xs) (x ∷ []) y k.0, k.1))
    (λ y k. ⊎_elim (λ b. inl (b, k.1)) (λ b. inr (sym b)) (Contains-push_cases (take i xs) x y k.0))))

pub common_skip : (xs ys both : List ℕ) (i x : ℕ) → i < length xs → x ≡ get_or xs i 0 → IsListOf ◌<◌ (IsInBoth (take i xs) ys) both → ¬ Contains ys x → IsListOf ◌<◌ (IsInBoth (take (i + 1) xs) ys) both
common_skip xs ys both i x l e c n =
    let t : take (i + 1) xs ≡ take i xs ++ (x ∷ []) = take_more xs i 0 l ∙ ap (λ k. take i xs ++ (k ∷ [])) (sym e) in
    subst (λ (us : List ℕ). IsListOf ◌<◌ (IsInBoth us ys) both) (sym t)
    (listed_same ◌<◌ (IsInBoth (take i xs) ys) (IsInBoth (take i xs ++ (x ∷ [])) ys) both c (λ y k. (Contains-append_left (take i xs) (x ∷ []) y k.0, k.1))
    (λ y k. ⊎_elim (λ b. (b, k.1)) (λ b. absurd (n (subst (Contains ys) (sym b) k.1))) (Contains-push_cases (take i xs) x y k.0)))

pub common_all : (xs ys both : List ℕ) (i : ℕ) → length xs ≤ i → IsListOf ◌<◌ (IsInBoth (take i xs) ys) both → IsListOf ◌<◌ (IsInBoth xs ys) both
common_all xs ys both i l c = subst (λ (us : List ℕ). IsListOf ◌<◌ (IsInBoth us ys) both) (take_all i xs l) c

pub same_or_not : (i j : ℕ) → (i ≡ j) ⊎ (i ≢ j)
same_or_not i j = grind arith

pub contains_or_not : (xs : List ℕ) (x : ℕ) → Contains xs x ⊎ ¬ Contains xs x
contains_or_not [] x = inr (λ c. contains_none x c)
contains_or_not (y ∷ xs) x = ⊎_elim (λ e. inl (subst (Contains (y ∷ xs)) e (contains_here y xs)))
    (λ n. ⊎_elim (λ c. inl (contains_there y x xs c)) (λ m. inr (λ c. ⊎_elim n m (contains_cases y xs x c))) (contains_or_not xs x)) (same_or_not y x)

-- two sets have a list of what they have in common
pub record HasCommon (xs ys : List ℕ) : Type 0 where
  pub common : List ℕ
  pub is_common : IsListOf ◌<◌ (IsInBoth xs ys) common

pub common_list : (xs ys : List ℕ) → Pairwise ◌<◌ xs → HasCommon xs ys
common_list [] ys p = record { common = []; is_common = record { in_order = tt; only = tt; each = λ k b. absurd (contains_none k b.0) } }
common_list (x ∷ xs) ys p =
    let r = common_list xs ys p.1 in
    let l = r.is_common in
    let only : Each (IsInBoth (x ∷ xs) ys) r.common = each_map (IsInBoth xs ys) (IsInBoth (x ∷ xs) ys) r.common (λ k b. (contains_there x k xs b.0, b.1)) l.only in
    ⊎_elim
    (λ c. record {
      common = x ∷ r.common;
      is_common = record {
        in_order = (each_map (IsInBoth xs ys) (λ k. x < k) r.common (λ k b. Each-contains (λ j. x < j) xs k p.0 b.0) l.only, l.in_order);
        only = ((contains_here x xs, c), only);
        each = λ k b. ⊎_elim (λ e. subst (Contains (x ∷ r.common)) e (contains_here x r.common)) (λ h. contains_there x k r.common (l.each k (h, b.1))) (contains_cases x xs k b.0);
      };
    })
    (λ n. record {
      common = r.common;
      is_common = record {
        in_order = l.in_order;
        only = only;
        each = λ k b. ⊎_elim (λ e. absurd (n (subst (Contains ys) (sym e) b.1))) (λ h. l.each k (h, b.1)) (contains_cases x xs k b.0);
      };
    })
    (contains_or_not ys x)

-- ---- what holds at each place so far
pub each_more : (P : ℕ → Type 0) (xs : List ℕ) (i x : ℕ) → i < length xs → x ≡ get_or xs i 0 → Each P (take i xs) → P x → Each P (take (i + 1) xs)
each_more P xs i x l e h p = subst (Each P) (sym (take_more xs i 0 l ∙ ap (λ k. take i xs ++ (k ∷ [])) (sym e))) (each_append P (take i xs) (x ∷ []) h (p, tt))

pub each_all : (P : ℕ → Type 0) (xs : List ℕ) (i : ℕ) → length xs ≤ i → Each P (take i xs) → Each P xs
each_all P xs i l h = subst (Each P) (take_all i xs l) h

-- a set within another has no more places
pub fewer_within : (xs ys : List ℕ) → Pairwise ◌<◌ xs → Each (Contains ys) xs → length xs ≤ length ys
fewer_within xs ys p h = different_within xs ys (increasing_differ xs p) h

-- ---- a copy
pub copy_more : (xs copy more : List ℕ) (i x : ℕ) → i < length xs → x ≡ get_or xs i 0 → copy ≡ take i xs → more ≡ copy ++ (x ∷ []) → more ≡ take (i + 1) xs
copy_more xs copy more i x l e c m = m ∙ ap (λ us. us ++ (x ∷ [])) c ∙ ap (λ k. take i xs ++ (k ∷ [])) e ∙ sym (take_more xs i 0 l)

-- ---- two lists place by place
pub zip_length : {A B : Type 0} (R : A → B → Type 0) (xs : List A) (ys : List B) → AllZip R xs ys → length xs ≡ length ys
zip_length R [] [] z = refl
zip_length R [] (y ∷ ys) z = absurd z
zip_length R (x ∷ xs) [] z = absurd z
zip_length R (x ∷ xs) (y ∷ ys) z = ap suc (zip_length R xs ys z.1)

pub zip_at : {A B : Type 0} (R : A → B → Type 0) (d : A) (e : B) (xs : List A) (ys : List B) (i : ℕ) → AllZip R xs ys → i < length xs → R (get_or xs i d) (get_or ys i e)
zip_at R d e [] ys i z l = absurd (omega arith)
zip_at R d e (x ∷ xs) [] i z l = absurd z
zip_at R d e (x ∷ xs) (y ∷ ys) zero z l = z.0
zip_at R d e (x ∷ xs) (y ∷ ys) (suc i) z l = zip_at R d e xs ys i z.1 (omega arith)

pub zip_from : {A B : Type 0} (R : A → B → Type 0) (d : A) (e : B) (xs : List A) (ys : List B) → length xs ≡ length ys → ((i : ℕ) → i < length xs → R (get_or xs i d) (get_or ys i e)) → AllZip R xs ys
zip_from R d e [] [] l f = tt
zip_from R d e [] (y ∷ ys) l f = absurd (let f : ⊥ = omega arith in f)
zip_from R d e (x ∷ xs) [] l f = absurd (let f : ⊥ = omega arith in f)
zip_from R d e (x ∷ xs) (y ∷ ys) l f = (f 0 (omega arith), zip_from R d e xs ys (omega arith) (λ i h. f (suc i) (omega arith)))

-- what stands beside an element
pub record Beside {A B : Type 0} (R : A → B → Type 0) (x : A) (ys : List B) : Type 0 where
  pub other : B
  pub has : Contains ys other
  pub related : R x other

pub zip_beside : {A B : Type 0} (R : A → B → Type 0) (xs : List A) (ys : List B) (x : A) → AllZip R xs ys → Contains xs x → Beside R x ys
zip_beside R [] ys x z c = absurd (let l = c.1 in let f : ⊥ = omega arith in f)
zip_beside R (u ∷ xs) [] x z c = absurd z
zip_beside R (u ∷ xs) (y ∷ ys) x z (zero, l, e) = record { other = y; has = (0, omega arith, refl); related = subst (λ t. R t y) e z.0 }
zip_beside R (u ∷ xs) (y ∷ ys) x z (suc k, l, e) =
    let b = zip_beside R xs ys x z.1 (k, omega arith, e) in
    record { other = b.other; has = (suc b.has.0, let h = b.has.1 in omega arith, b.has.2); related = b.related }

-- ---- what is appended one by one
pub appends_none : {A B : Type 0} (R : A → B → Type 0) (xs : List A) (ys : List B) → Appends R (take 0 xs) ys ys
appends_none R xs ys = record { added = []; whole = sym (append-nil ys); each = tt }

pub appends_more : {A B : Type 0} (R : A → B → Type 0) (xs : List A) (before after more : List B) (i : ℕ) (x : A) (y : B) → i < length xs → x ≡ get_or xs i x → Appends R (take i xs) before after → R x y → more ≡ after ++ (y ∷ []) → Appends R (take (i + 1) xs) before more
appends_more R xs before after more i x y l e a r m = record {
  added = a.added ++ (y ∷ []);
  whole = m ∙ ap (λ us. us ++ (y ∷ [])) a.whole ∙ append_assoc before a.added (y ∷ []);
  each = zip_more R xs a.added (a.added ++ (y ∷ [])) i x y l e a.each r refl;
}

pub appends_all : {A B : Type 0} (R : A → B → Type 0) (xs : List A) (before after : List B) (i : ℕ) → length xs ≤ i → Appends R (take i xs) before after → Appends R xs before after
appends_all R xs before after i l a = subst (λ us. Appends R us before after) (take_all i xs l) a

-- an entry that is read at one default, at itself
pub read_at : (xs : List ℕ) (i x : ℕ) → i < length xs → x ≡ get_or xs i 0 → x ≡ get_or xs i x
read_at xs i x l e = e ∙ get_or_default xs i 0 x l

-- the places of values that are not negative
pub kept_of : (v : List ℤ) (i : ℕ) (xs : List ℕ) → i ≤ length v → length v ≤ i → IsListOf ◌<◌ (λ k. (k < i) × (pos 0 ≤ℤ get_or v k (pos 0))) xs → IsListOf ◌<◌ (IsKeptAt v) xs
kept_of v i xs l m h = listed_same ◌<◌ (λ k. (k < i) × (pos 0 ≤ℤ get_or v k (pos 0))) (IsKeptAt v) xs h
    (λ k p. record { within = (let b = p.0 in omega arith); side = p.1 }) (λ k p. (let b = p.within in omega arith, p.side))

-- ---- what a test says of the value that was read
false_is_none : IsTrue false → ⊥
false_is_none h = grind arith

pub not_below : (a v : ℤ) → a ≡ v → (a <ℤ pos 0 → IsTrue false) → ¬ (v <ℤ pos 0)
not_below a v e n l = false_is_none (n (subst (λ t. t <ℤ pos 0) (sym e) l))

pub not_above : (a v : ℤ) → a ≡ v → (pos 0 <ℤ a → IsTrue false) → ¬ (pos 0 <ℤ v)
not_above a v e n l = false_is_none (n (subst (λ t. pos 0 <ℤ t) (sym e) l))

pub not_negative : (a v : ℤ) → a ≡ v → (a <ℤ pos 0 → IsTrue false) → pos 0 ≤ℤ v
not_negative a v e n = by_lt_z v (pos 0) (λ l. absurd (not_below a v e n l)) (λ l. l)
