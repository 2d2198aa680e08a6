-- Sets of places as words of bits: what the words of two or three sets say of their common places.
use Rattle.std.proofs.Common.{◌≡◌, ◌≢◌, ◌⊎◌, inl, inr, ⊎_elim, ℕ, zero, suc, ◌+◌, ◌-◌, ◌*◌, ◌/◌, ◌%◌, ◌^◌, ◌<◌, ◌≤◌, List, [], ◌∷◌, ◌++◌, length, get_or, take, true, false, refl, sym, ap, ◌∙◌, subst, arith}
use Rattle.std.specs.List.{AllByRecursion as Each, Contains}
use Rattle.std.specs.Int.{bit_at}
use Rattle.std.specs.Int.Bits.{bit_and, bit_or}
use Rattle.std.specs.Int.Count.{ones, ones_step}
use Rattle.std.proofs.lemmas.Nat.{pow_below}
use Rattle.std.proofs.lemmas.Nat.Bits.{bit_at_lowest, bit_at-suc, bit_at-zero, bit_at_and, bit_at_or, bit_at-pow_same, bit_at-pow_other, bit_at-lt, same_from_bits}
use Rattle.std.proofs.lemmas.List.{take_more, take_all, get_or_default, get_or_append_left, get_or_push, length_push}
use Rattle.std.proofs.lemmas.List.Elements.{Contains-append_left, Contains-push, Contains-push_cases}
use Rattle.nz_spec.specs.Order.{Pairwise}
use Rattle.nz_spec.proofs.ListLaws.{Each-contains}
use Rattle.nz_pointed.proofs.ListLemmas.{each_at}
use Rattle.nz_linear.proofs.Lists.{each_map, each_map2, each_append}
use Rattle.nz_rays.specs.Words.{HasBit, IsWordOf, IsWordWith, IsColumn, AreColumnsOf, AreColumns, IsPlaceIn, AreBusy, AreNear, HaveFew, TellsCovered}
use Rattle.nz_rays.specs.Crossings.{AreCommon, HasNoThird, IsThird}
use Rattle.nz_rays.proofs.PlaceLemmas.{below_next, same_or_not, contains_at, zip_at, zip_length, IsInBoth, common_list, fewer_within}
use Rattle.nz_rays.proofs.CutLemmas.{each_from_at}

-- ---- a word with one place
pub with_bit : (word from place bit more : ℕ) → place ≡ from + bit → bit < 64 → more ≡ bit_or word (2 ^ bit) → IsWordWith word from place more
with_bit word from place bit more e within m = rw m (record {
  stays = λ i h. let o = bit_at_or word (2 ^ bit) i in let l = bit_at-lt (2 ^ bit) i in omega (arith, o, l, h);
  added = λ i l p. let s : bit ≡ i = omega arith in let o = bit_at_or word (2 ^ bit) i in let l = bit_at-lt word i in let k = subst (λ (j : ℕ). bit_at (2 ^ bit) j ≡ 1) s (bit_at-pow_same bit) in omega (arith, o, l, k);
  only = λ i h. ⊎_elim (λ s. inr (omega arith, e ∙ ap (λ j. from + j) (sym s))) (λ n. let o = bit_at_or word (2 ^ bit) i in let z = bit_at-pow_other bit i n in inl (omega (arith, o, z, h))) (same_or_not i bit);
})

-- the bit as the code shifts it
pub shifted : (bit : ℕ) → bit < 64 → 1 * 2 ^ bit % 18446744073709551616 ≡ 2 ^ bit
shifted bit l = let p : 2 ^ bit < 18446744073709551616 = pow_below bit 64 l in omega (arith, p)

-- ---- the word of a set, place by place
pub word_none : (set : List ℕ) (from : ℕ) → IsWordOf (take 0 set) from 0
word_none set from = record {
  only = λ i h. absurd (let z = bit_at-zero i in let f : ⊥ = omega (arith, z, h) in f);
  each = λ i l c. absurd (let k = c.1 in let f : ⊥ = omega arith in f);
}

pub word_more : (set : List ℕ) (from i x word more : ℕ) → i < length set → x ≡ get_or set i 0 → IsWordOf (take i set) from word → IsWordWith word from x more → IsWordOf (take (i + 1) set) from more
word_more set from i x word more l e w m =
    let t : take (i + 1) set ≡ take i set ++ (x ∷ []) = take_more set i 0 l ∙ ap (λ k. take i set ++ (k ∷ [])) (sym e) in
    subst (λ us. IsWordOf us from more) (sym t) (record {
      only = λ k h. ⊎_elim (λ b. let o = w.only k b in (o.0, Contains-append_left (take i set) (x ∷ []) (from + k) o.1)) (λ b. (b.0, subst (Contains (take i set ++ (x ∷ []))) b.1 (Contains-push (take i set) x))) (m.only k h);
      each = λ k b c. ⊎_elim (λ h. m.stays k (w.each k b h)) (λ h. m.added k b h) (Contains-push_cases (take i set) x (from + k) c);
    })

pub word_all : (set : List ℕ) (from i word : ℕ) → length set ≤ i → IsWordOf (take i set) from word → IsWordOf set from word
word_all set from i word l w = subst (λ us. IsWordOf us from word) (take_all i set l) w

-- ---- the columns, one by one
pub columns_none : (sets columns : List (List ℕ)) → columns ≡ [] → (length columns ≡ 0) × AreColumnsOf sets columns
columns_none sets columns e = (ap length e, λ j l. absurd (let k = ap length e in let f : ⊥ = omega (arith, k, l) in f))

pub columns_push : (sets columns more : List (List ℕ)) (column : List ℕ) (n : ℕ) → (length columns ≡ n) × AreColumnsOf sets columns → IsColumn (64 * n) sets column → more ≡ columns ++ (column ∷ []) → (length more ≡ n + 1) × AreColumnsOf sets more
columns_push sets columns more column n h w e = (
  ap length e ∙ length_push columns column ∙ ap (λ k. k + 1) h.0,
  λ j l. rw e (⊎_elim
      (λ b. rw (get_or_append_left columns (column ∷ []) [] j (let k = h.0 in omega arith)) (h.1 j (let k = h.0 in omega arith)))
      (λ s. rw (get_or_push columns column [] j (h.0 ∙ sym s)) (subst (λ (k : ℕ). IsColumn (64 * k) sets column) (sym s) w))
      (below_next j n (let k = ap length e ∙ length_push columns column ∙ ap (λ k. k + 1) h.0 in omega (arith, k, l)))),
)

pub columns_whole : (sets columns : List (List ℕ)) (bound n : ℕ) → Each (Each (λ k. k < bound)) sets → n ≡ bound / 64 + 1 → (length columns ≡ n) × AreColumnsOf sets columns → AreColumns sets columns
columns_whole sets columns bound n b e h = record {
  each = h.1;
  whole = each_map (Each (λ k. k < bound)) (Each (λ k. k < 64 * length columns)) sets (λ s. each_map (λ k. k < bound) (λ k. k < 64 * length columns) s (λ k l. let m = h.0 in omega (arith, m, e, l))) b;
}

-- ---- how many places a word has
-- a bit but the lowest, in the half
half_bit : (word from k : ℕ) → from + 1 ≤ k → HasBit word (k - from) → HasBit (word / 2) (k - (from + 1))
half_bit word from k l h = sym (bit_at-suc word (k - (from + 1))) ∙ ap (λ j. bit_at word j) (let e : suc (k - (from + 1)) ≡ k - from = omega arith in e) ∙ h

-- places in order whose bits are set are at most as many as the bits that are
few_bits : (fuel word from : ℕ) (xs : List ℕ) → word ≤ fuel → Pairwise ◌<◌ xs → Each (λ k. (from ≤ k) × HasBit word (k - from)) xs → length xs ≤ ones word
few_bits fuel word from [] f p e = omega arith
few_bits zero word from (x ∷ xs) f p e = absurd (let w : word ≡ 0 = omega arith in let h = subst (λ (n : ℕ). bit_at n (x - from) ≡ 1) w e.0.1 in let z = bit_at-zero (x - from) in let b : ⊥ = omega (arith, h, z) in b)
few_bits (suc fuel) word from (x ∷ xs) f p e =
    let rest : Each (λ k. (from + 1 ≤ k) × HasBit (word / 2) (k - (from + 1))) xs = each_map2 (λ k. x < k) (λ k. (from ≤ k) × HasBit word (k - from)) (λ k. (from + 1 ≤ k) × HasBit (word / 2) (k - (from + 1))) xs
    (λ k l h. let b : from + 1 ≤ k = (let m = e.0.0 in omega arith) in (b, half_bit word from k b h.1)) p.0 e.1 in
    let o = ones_step word in
    ⊎_elim
    (λ s.
    let n = few_bits fuel (word / 2) (from + 1) xs (omega arith) p.1 rest in
    let z : x - from ≡ 0 = omega arith in
    let one : word % 2 ≡ 1 = sym (bit_at_lowest word) ∙ subst (λ (j : ℕ). bit_at word j ≡ 1) z e.0.1 in
    omega (arith, o, n, one))
    (λ d.
    let b : from + 1 ≤ x = (let m = e.0.0 in omega arith) in
    let n = few_bits fuel (word / 2) (from + 1) (x ∷ xs) (omega arith) p ((b, half_bit word from x b e.0.1), rest) in
    omega (arith, o, n))
    (same_or_not x from)

-- places in order, below a bound and from it on
record Parts (P : ℕ → Type 0) (n : ℕ) (xs : List ℕ) : Type 0 where
  low : List ℕ
  high : List ℕ
  count : length xs ≡ length low + length high
  low_order : Pairwise ◌<◌ low
  high_order : Pairwise ◌<◌ high
  are_low : Each (λ k. P k × (k < n)) low
  are_high : Each (λ k. P k × (n ≤ k)) high

below_or_from : (k n : ℕ) → (k < n) ⊎ (n ≤ k)
below_or_from k n = grind arith

parts : (P : ℕ → Type 0) (n : ℕ) (xs : List ℕ) → Pairwise ◌<◌ xs → Each P xs → Parts P n xs
parts P n [] p e = record { low = []; high = []; count = refl; low_order = tt; high_order = tt; are_low = tt; are_high = tt }
parts P n (x ∷ xs) p e = ⊎_elim
    (λ l.
    let s = parts (λ k. P k × (x < k)) n xs p.1 (each_map2 P (λ k. x < k) (λ k. P k × (x < k)) xs (λ k a b. (a, b)) e.1 p.0) in
    record {
      low = x ∷ s.low;
      high = s.high;
      count = (let c = s.count in omega (arith, c));
      low_order = (each_map (λ k. (P k × (x < k)) × (k < n)) (λ k. x < k) s.low (λ k h. h.0.1) s.are_low, s.low_order);
      high_order = s.high_order;
      are_low = ((e.0, l), each_map (λ k. (P k × (x < k)) × (k < n)) (λ k. P k × (k < n)) s.low (λ k h. (h.0.0, h.1)) s.are_low);
      are_high = each_map (λ k. (P k × (x < k)) × (n ≤ k)) (λ k. P k × (n ≤ k)) s.high (λ k h. (h.0.0, h.1)) s.are_high;
    })
    (λ g. record { low = []; high = x ∷ xs; count = omega arith; low_order = tt; high_order = p; are_low = tt; are_high = ((e.0, g), each_map2 P (λ k. x < k) (λ k. P k × (n ≤ k)) xs (λ k a b. (a, omega arith)) e.1 p.0) })
    (below_or_from x n)

-- ---- what two sets have in common, by their words
-- a place of both sets, as a bit of both words
shared_bit : (sets columns : List (List ℕ)) (first second n k : ℕ) → AreColumnsOf sets columns → first < length sets → second < length sets → n < length columns → IsInBoth (get_or sets first []) (get_or sets second []) k → 64 * n ≤ k → k < 64 * (n + 1)
    → HasBit (bit_and (get_or (get_or columns n []) first 0) (get_or (get_or columns n []) second 0)) (k - 64 * n)
shared_bit sets columns first second n k cs lf ls ln b from to =
    let column = get_or columns n [] in
    let i = k - 64 * n in
    let e : k ≡ 64 * n + i = omega arith in
    let wf : IsWordOf (get_or sets first []) (64 * n) (get_or column first 0) = zip_at (λ s w. IsWordOf s (64 * n) w) [] 0 sets column first (cs n ln) lf in
    let ws : IsWordOf (get_or sets second []) (64 * n) (get_or column second 0) = zip_at (λ s w. IsWordOf s (64 * n) w) [] 0 sets column second (cs n ln) ls in
    let hf = wf.each i (omega arith) (subst (Contains (get_or sets first [])) e b.0) in
    let hs = ws.each i (omega arith) (subst (Contains (get_or sets second [])) e b.1) in
    let a = bit_at_and (get_or column first 0) (get_or column second 0) i in
    omega (arith, a, hf, hs)

-- as long as some are missing, common places below a bound and those missing are no more than needed
abbrev pub IsCounted : List (List ℕ) → ℕ → ℕ → ℕ → ℕ → ℕ → Type 0
IsCounted columns first second n missing needed = (sets : List (List ℕ)) → AreColumns sets columns → first < length sets → second < length sets → 0 < missing
    → (xs : List ℕ) → Pairwise ◌<◌ xs → Each (λ k. IsInBoth (get_or sets first []) (get_or sets second []) k × (k < 64 * n)) xs → length xs + missing ≤ needed

pub counted_none : (columns : List (List ℕ)) (first second needed : ℕ) → IsCounted columns first second 0 needed needed
counted_none columns first second needed sets c lf ls m [] p e = omega arith
counted_none columns first second needed sets c lf ls m (x ∷ xs) p e = absurd (let l = e.0.1 in let f : ⊥ = omega arith in f)

pub counted_more : (columns : List (List ℕ)) (first second n missing less needed both : ℕ) → n < length columns → both ≡ bit_and (get_or (get_or columns n []) first 0) (get_or (get_or columns n []) second 0) → less ≡ missing - ones both → IsCounted columns first second n missing needed → IsCounted columns first second (n + 1) less needed
counted_more columns first second n missing less needed both ln eb el h sets c lf ls m xs p e =
    let P : ℕ → Type 0 = λ k. IsInBoth (get_or sets first []) (get_or sets second []) k × (k < 64 * (n + 1)) in
    let s = parts P (64 * n) xs p e in
    let low = h sets c lf ls (omega arith) s.low s.low_order (each_map (λ k. P k × (k < 64 * n)) (λ k. IsInBoth (get_or sets first []) (get_or sets second []) k × (k < 64 * n)) s.low (λ k b. (b.0.0, b.1)) s.are_low) in
    let high = few_bits both both (64 * n) s.high (omega arith) s.high_order
    (each_map (λ k. P k × (64 * n ≤ k)) (λ k. (64 * n ≤ k) × HasBit both (k - 64 * n)) s.high
    (λ k b. (b.1, subst (λ (w : ℕ). HasBit w (k - 64 * n)) (sym eb) (shared_bit sets columns first second n k c.each lf ls ln b.0.0 b.1 b.0.1))) s.are_high) in
    let count = s.count in
    omega (arith, low, high, count, el, m)

-- all places of a set are in the columns
below_all : (sets columns : List (List ℕ)) (place k : ℕ) → AreColumns sets columns → place < length sets → Contains (get_or sets place []) k → k < 64 * length columns
below_all sets columns place k c l h = Each-contains (λ j. j < 64 * length columns) (get_or sets place []) k (each_at (Each (λ j. j < 64 * length columns)) [] sets place c.whole l) h

pub counted_all : (columns : List (List ℕ)) (first second n missing needed : ℕ) → length columns ≤ n → IsCounted columns first second n missing needed → 0 < missing → HaveFew columns first second needed
counted_all columns first second n missing needed l h m sets c lf ls common p e =
    let k = h sets c lf ls m common p (each_map (IsInBoth (get_or sets first []) (get_or sets second [])) (λ k. IsInBoth (get_or sets first []) (get_or sets second []) k × (k < 64 * n)) common
    (λ k b. (b, let g = below_all sets columns first k c lf b.0 in omega arith)) e) in
    omega arith

-- ---- whether a third set has them all
-- it has those below a bound
abbrev pub AreCovered : List (List ℕ) → ℕ → ℕ → ℕ → ℕ → Type 0
AreCovered columns first second place n = (sets : List (List ℕ)) → AreColumns sets columns → first < length sets → second < length sets → place < length sets
    → (k : ℕ) → IsInBoth (get_or sets first []) (get_or sets second []) k → k < 64 * n → Contains (get_or sets place []) k

pub covered_none : (columns : List (List ℕ)) (first second place : ℕ) → AreCovered columns first second place 0
covered_none columns first second place sets c lf ls lp k b l = absurd (let f : ⊥ = omega arith in f)

covered_more : (columns : List (List ℕ)) (first second place n : ℕ) → n < length columns
    → bit_and (bit_and (get_or (get_or columns n []) first 0) (get_or (get_or columns n []) second 0)) (get_or (get_or columns n []) place 0) ≡ bit_and (get_or (get_or columns n []) first 0) (get_or (get_or columns n []) second 0)
    → AreCovered columns first second place n → AreCovered columns first second place (n + 1)
covered_more columns first second place n ln e h sets c lf ls lp k b l = ⊎_elim (λ g. h sets c lf ls lp k b g) (λ g.
    let column = get_or columns n [] in
    let i = k - 64 * n in
    let s = shared_bit sets columns first second n k c.each lf ls ln b g l in
    let w : IsWordOf (get_or sets place []) (64 * n) (get_or column place 0) = zip_at (λ s w. IsWordOf s (64 * n) w) [] 0 sets column place (c.each n ln) lp in
    let a = bit_at_and (bit_and (get_or column first 0) (get_or column second 0)) (get_or column place 0) i in
    let o = ap (λ x. bit_at x i) e in
    let u = bit_at-lt (get_or column place 0) i in
    let t : 64 * n + i ≡ k = omega arith in
    subst (Contains (get_or sets place [])) t (w.only i (omega (arith, a, o, s, u))).1) (below_or_from k (64 * n))

pub covered_all : (columns : List (List ℕ)) (first second place n : ℕ) → length columns ≤ n → AreCovered columns first second place n → TellsCovered columns first second place true
covered_all columns first second place n l h sets c lf ls lp common a = each_map (IsInBoth (get_or sets first []) (get_or sets second [])) (Contains (get_or sets place [])) common
    (λ k b. h sets c lf ls lp k b (let g = below_all sets columns first k c lf b.0 in omega arith)) a.only

set_or_not : (word i : ℕ) → HasBit word i ⊎ (bit_at word i ≡ 0)
set_or_not word i = let l = bit_at-lt word i in grind (arith, l)

not_covered : (columns : List (List ℕ)) (first second place n : ℕ) → n < length columns
    → bit_and (bit_and (get_or (get_or columns n []) first 0) (get_or (get_or columns n []) second 0)) (get_or (get_or columns n []) place 0) ≢ bit_and (get_or (get_or columns n []) first 0) (get_or (get_or columns n []) second 0)
    → TellsCovered columns first second place false
not_covered columns first second place n ln differ sets c lf ls lp common a all = differ (same_from_bits (bit_and both (get_or column place 0)) both same)
  where
    column : List ℕ
    column = get_or columns n []

    both : ℕ
    both = bit_and (get_or column first 0) (get_or column second 0)

    of : (place : ℕ) → place < length sets → IsWordOf (get_or sets place []) (64 * n) (get_or column place 0)
    of place l = zip_at (λ s w. IsWordOf s (64 * n) w) [] 0 sets column place (c.each n ln) l

    same : (i : ℕ) → bit_at (bit_and both (get_or column place 0)) i ≡ bit_at both i
    same i = ⊎_elim
        (λ h.
        let o = bit_at_and (get_or column first 0) (get_or column second 0) i in
        let uf = bit_at-lt (get_or column first 0) i in
        let us = bit_at-lt (get_or column second 0) i in
        let kf = (of first lf).only i (omega (arith, o, h, uf, us)) in
        let ks = (of second ls).only i (omega (arith, o, h, uf, us)) in
        let k = (of place lp).each i kf.0 (Each-contains (Contains (get_or sets place [])) common (64 * n + i) all (a.each (64 * n + i) (kf.1, ks.1))) in
        let b = bit_at_and both (get_or column place 0) i in
        omega (arith, b, h, k))
        (λ z. let b = bit_at_and both (get_or column place 0) i in omega (arith, b, z))
        (set_or_not both i)

-- ---- as the code reads the words
pub word_at : (columns : List (List ℕ)) (n place x : ℕ) (column items : List ℕ) → n < length columns → IsPlaceIn place columns → column ≡ get_or columns n column → items ≡ column → x ≡ get_or items place x → x ≡ get_or (get_or columns n []) place 0
word_at columns n place x column items l p c i e =
    let same : items ≡ get_or columns n [] = i ∙ c ∙ get_or_default columns n column [] l in
    e ∙ ap (λ us. get_or us place x) same ∙ get_or_default (get_or columns n []) place x 0 (each_at (λ c. place < length c) [] columns n p l)

pub covered_next : (columns : List (List ℕ)) (first second place n x y z : ℕ) → n < length columns → x ≡ get_or (get_or columns n []) first 0 → y ≡ get_or (get_or columns n []) second 0 → z ≡ get_or (get_or columns n []) place 0
    → bit_and (bit_and x y) z ≡ bit_and x y → AreCovered columns first second place n → AreCovered columns first second place (n + 1)
covered_next columns first second place n x y z l ex ey ez e h = covered_more columns first second place n l (rw (ex, ey, ez) at e) h

pub uncovered : (columns : List (List ℕ)) (first second place n x y z : ℕ) → n < length columns → x ≡ get_or (get_or columns n []) first 0 → y ≡ get_or (get_or columns n []) second 0 → z ≡ get_or (get_or columns n []) place 0
    → bit_and (bit_and x y) z ≢ bit_and x y → TellsCovered columns first second place false
uncovered columns first second place n x y z l ex ey ez e = not_covered columns first second place n l (rw (ex, ey, ez) at e)

-- ---- columns and places
-- each column has a word for each set
pub columns_wide : (sets columns : List (List ℕ)) → AreColumns sets columns → Each (λ c. length c ≡ length sets) columns
columns_wide sets columns c = each_from_at (λ w. length w ≡ length sets) [] columns (λ j b. sym (zip_length (λ s w. IsWordOf s (64 * j) w) sets (get_or columns j []) (c.each j b)))

pub place_in : (columns : List (List ℕ)) (bound place : ℕ) → Each (λ c. length c ≡ bound) columns → place < bound → IsPlaceIn place columns
place_in columns bound place e l = each_map (λ c. length c ≡ bound) (λ c. place < length c) columns (λ c n. omega arith) e

pub columns_count : (sets columns : List (List ℕ)) (place : ℕ) → AreColumns sets columns → place < length sets → IsPlaceIn place columns
columns_count sets columns place c l = place_in columns (length sets) place (columns_wide sets columns c) l

pub places_in : (sets columns : List (List ℕ)) (places : List ℕ) → AreColumns sets columns → Each (λ k. k < length sets) places → Each (λ k. IsPlaceIn k columns) places
places_in sets columns places c e = each_map (λ k. k < length sets) (λ k. IsPlaceIn k columns) places (λ k l. columns_count sets columns k c l) e

-- ---- busy places
pub busy_none : (columns : List (List ℕ)) (needed : ℕ) (busy : List ℕ) → busy ≡ [] → AreBusy columns 0 needed busy
busy_none columns needed busy e = subst (AreBusy columns 0 needed) (sym e) (record { within = tt; each = λ k l. absurd (let f : ⊥ = omega arith in f) })

busy_within : (busy : List ℕ) (n : ℕ) → Each (λ k. k < n) busy → Each (λ k. k < n + 1) busy
busy_within busy n e = each_map (λ k. k < n) (λ k. k < n + 1) busy (λ k l. omega arith) e

pub busy_push : (columns : List (List ℕ)) (n needed : ℕ) (busy more : List ℕ) → AreBusy columns n needed busy → more ≡ busy ++ (n ∷ []) → AreBusy columns (n + 1) needed more
busy_push columns n needed busy more h e = subst (AreBusy columns (n + 1) needed) (sym e) (record {
  within = each_append (λ k. k < n + 1) busy (n ∷ []) (busy_within busy n h.within) (omega arith, tt);
  each = λ k l. ⊎_elim (λ b. ⊎_elim (λ c. inl (Contains-append_left busy (n ∷ []) k c)) (λ f. inr f) (h.each k b)) (λ s. inl (subst (Contains (busy ++ (n ∷ []))) (sym s) (Contains-push busy n))) (below_next k n l);
})

pub busy_skip : (columns : List (List ℕ)) (n needed : ℕ) (busy : List ℕ) → AreBusy columns n needed busy → HaveFew columns n n needed → AreBusy columns (n + 1) needed busy
busy_skip columns n needed busy h few = record {
  within = busy_within busy n h.within;
  each = λ k l. ⊎_elim (λ b. h.each k b) (λ s. inr (subst (λ (j : ℕ). HaveFew columns j j needed) (sym s) few)) (below_next k n l);
}

-- a set of few places has few in common with any other
few_second : (columns : List (List ℕ)) (first second needed : ℕ) → HaveFew columns second second needed → HaveFew columns first second needed
few_second columns first second needed few sets c lf ls common p e = few sets c ls ls common p (each_map (IsInBoth (get_or sets first []) (get_or sets second [])) (IsInBoth (get_or sets second []) (get_or sets second [])) common (λ k b. (b.1, b.1)) e)

few_first : (columns : List (List ℕ)) (first second needed : ℕ) → HaveFew columns first first needed → HaveFew columns first second needed
few_first columns first second needed few sets c lf ls common p e = few sets c lf lf common p (each_map (IsInBoth (get_or sets first []) (get_or sets second [])) (IsInBoth (get_or sets first []) (get_or sets first [])) common (λ k b. (b.0, b.0)) e)

pub all_far : (columns : List (List ℕ)) (first needed : ℕ) (places : List ℕ) → HaveFew columns first first needed → Each (λ k. HaveFew columns first k needed) places
all_far columns first needed [] few = tt
all_far columns first needed (k ∷ places) few = (few_first columns first k needed few, all_far columns first needed places few)

-- ---- near places
-- those that are near of some places
pub record NearOf (columns : List (List ℕ)) (busy some : List ℕ) (first needed : ℕ) (near : List ℕ) : Type 0 where
  pub within : Each (Contains busy) near
  pub each : (k : ℕ) → Contains some k → Contains near k ⊎ HaveFew columns first k needed

some_cases : (busy : List ℕ) (i x k : ℕ) → i < length busy → x ≡ get_or busy i 0 → Contains (take (i + 1) busy) k → Contains (take i busy) k ⊎ (x ≡ k)
some_cases busy i x k l e c = Contains-push_cases (take i busy) x k (subst (λ us. Contains us k) (take_more busy i 0 l ∙ ap (λ j. take i busy ++ (j ∷ [])) (sym e)) c)

pub near_none : (columns : List (List ℕ)) (busy : List ℕ) (first needed : ℕ) (near : List ℕ) → near ≡ [] → NearOf columns busy (take 0 busy) first needed near
near_none columns busy first needed near e = subst (NearOf columns busy (take 0 busy) first needed) (sym e) (record { within = tt; each = λ k c. absurd (none busy k c) })
  where
    none : (s : List ℕ) (k : ℕ) → ¬ Contains (take 0 s) k
    none [] k c = (let l = c.1 in let f : ⊥ = omega arith in f)
    none (x ∷ s) k c = (let l = c.1 in let f : ⊥ = omega arith in f)

pub near_push : (columns : List (List ℕ)) (busy : List ℕ) (i x first needed : ℕ) (near more : List ℕ) → i < length busy → x ≡ get_or busy i 0 → NearOf columns busy (take i busy) first needed near → more ≡ near ++ (x ∷ []) → NearOf columns busy (take (i + 1) busy) first needed more
near_push columns busy i x first needed near more l e h m = subst (NearOf columns busy (take (i + 1) busy) first needed) (sym m) (record {
  within = each_append (Contains busy) near (x ∷ []) h.within (contains_at busy i x l (sym e), tt);
  each = λ k c. ⊎_elim (λ b. ⊎_elim (λ d. inl (Contains-append_left near (x ∷ []) k d)) (λ f. inr f) (h.each k b)) (λ s. inl (subst (Contains (near ++ (x ∷ []))) s (Contains-push near x))) (some_cases busy i x k l e c);
})

pub near_skip : (columns : List (List ℕ)) (busy : List ℕ) (i x first needed : ℕ) (near : List ℕ) → i < length busy → x ≡ get_or busy i 0 → NearOf columns busy (take i busy) first needed near → HaveFew columns first x needed → NearOf columns busy (take (i + 1) busy) first needed near
near_skip columns busy i x first needed near l e h few = record {
  within = h.within;
  each = λ k c. ⊎_elim (λ b. h.each k b) (λ s. inr (subst (λ (j : ℕ). HaveFew columns first j needed) s few)) (some_cases busy i x k l e c);
}

pub near_all : (columns : List (List ℕ)) (busy : List ℕ) (i first needed : ℕ) (near : List ℕ) → length busy ≤ i → NearOf columns busy (take i busy) first needed near → (bound : ℕ) → AreBusy columns bound needed busy → AreNear columns bound first needed near
near_all columns busy i first needed near l h bound b = record {
  within = each_map (Contains busy) (λ k. k < bound) near (λ k c. Each-contains (λ j. j < bound) busy k b.within c) h.within;
  each = λ k lk. ⊎_elim (λ c. h.each k (subst (λ us. Contains us k) (sym (take_all i busy l)) c)) (λ f. inr (few_second columns first k needed f)) (b.each k lk);
}

-- a third ray has as many places in common with the ray above as the two have, so it is near
pub no_third : (zeros columns : List (List ℕ)) (near common : List ℕ) (above below needed : ℕ) → AreColumns zeros columns → above < length zeros → Pairwise ◌<◌ (get_or zeros above []) → AreNear columns (length zeros) above needed near → AreCommon zeros above below common → needed ≤ length common
    → Each (λ k. ¬ IsThird zeros common above below k) near → HasNoThird zeros common above below
no_third zeros columns near common above below needed c la p n m enough none k lk third = ⊎_elim
    (λ has. Each-contains (λ j. ¬ IsThird zeros common above below j) near k none has third)
    (λ few.
    let h = common_list (get_or zeros above []) (get_or zeros k []) p in
    let less = few zeros c la lk h.common h.is_common.in_order h.is_common.only in
    let all : Each (Contains h.common) common = each_map2 (IsInBoth (get_or zeros above []) (get_or zeros below [])) (Contains (get_or zeros k [])) (Contains h.common) common (λ j b t. h.is_common.each j (b.0, t)) m.only third.covers in
    let most = fewer_within common h.common m.in_order all in
    let f : ⊥ = omega (arith, less, most, enough) in
    f)
    (n.each k lk)
