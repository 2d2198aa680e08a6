-- Sums by terms of changing sign.
use Rattle.std.proofs.Common.{◌≡◌, ℕ, ◌+◌, ◌<◌, ◌≤◌, inl, inr, List, [], ◌∷◌, ◌++◌, length, map, take, get_or, ℤ, pos, ◌+ℤ◌, ◌≤ℤ◌, Contains, refl, sym, ap, ◌∙◌, subst, arith}
use Rattle.std.proofs.lemmas.Int.{ints}
use Rattle.std.proofs.lemmas.List.{map-append, take_more, take_all}
use Rattle.std.specs.List.{AllByRecursion as Each}
use Rattle.nz_spec.proofs.ListLaws.{Each-contains, Each-from_contains, contains_at}
use Rattle.nz_order.proofs.OrderLaws.{Each-push}
use Rattle.nz_order.proofs.SortLaws.{Each-front, Each-back}
use Rattle.nz_linear.proofs.Ring.{sums}
use Rattle.nz_scalar.specs.Room.{HasRoom}
use Rattle.nz_classes.specs.Sums.{sum_of, HasSigns, IsSortedIn, IsSplit, IsTaken}

sum_append : (xs ys : List ℤ) → sum_of (xs ++ ys) ≡ sum_of xs +ℤ sum_of ys
sum_append [] ys = omega (arith, sums)
sum_append (a ∷ xs) ys = omega (arith, sums, sum_append xs ys)

pub sum_taken : (xs : List ℤ) (i : ℕ) → i < length xs → sum_of (take (i + 1) xs) ≡ sum_of (take i xs) +ℤ get_or xs i (pos 0)
sum_taken xs i l = (let a = ap sum_of (take_more xs i (pos 0) l) in let b = sum_append (take i xs) (get_or xs i (pos 0) ∷ []) in omega (arith, sums, a, b))

sum_positive : (xs : List ℤ) → Each (λ a. pos 0 ≤ℤ a) xs → pos 0 ≤ℤ sum_of xs
sum_positive [] h = omega (arith, ints)
sum_positive (a ∷ xs) h = (let k = sum_positive xs h.1 in let l = h.0 in omega (arith, sums, k, l))

sum_negative : (xs : List ℤ) → Each (λ a. a ≤ℤ pos 0) xs → sum_of xs ≤ℤ pos 0
sum_negative [] h = omega (arith, ints)
sum_negative (a ∷ xs) h = (let k = sum_negative xs h.1 in let l = h.0 in omega (arith, sums, k, l))

module _ {T : Type 0} (int : T → ℤ) where
  total : List T → ℤ
  total xs = sum_of (map int xs)

  each_int : (P : ℤ → Type 0) (xs : List T) → Each (λ t. P (int t)) xs → Each P (map int xs)
  each_int P [] h = tt
  each_int P (x ∷ xs) h = (h.0, each_int P xs h.1)

  pub total_push : (xs ys : List T) (t : T) → ys ≡ xs ++ t ∷ [] → sum_of (map int ys) ≡ sum_of (map int xs) +ℤ int t
  total_push xs ys t e =
      let a = ap (λ (zs : List T). sum_of (map int zs)) e ∙ ap sum_of (map-append int xs (t ∷ [])) in
      let b = sum_append (map int xs) (int t ∷ []) in
      omega (arith, sums, a, b)

  pub total_take : (xs : List T) (i : ℕ) (t : T) → i < length xs → t ≡ get_or xs i t → sum_of (map int (take (i + 1) xs)) ≡ sum_of (map int (take i xs)) +ℤ int t
  total_take xs i t l e = total_push (take i xs) (take (i + 1) xs) t (take_more xs i t l ∙ ap (λ (u : T). take i xs ++ u ∷ []) (sym e))

  pub total_none : (xs : List T) → sum_of (map int (take 0 xs)) ≡ pos 0
  total_none [] = refl
  total_none (x ∷ xs) = refl

  -- ---- apart by signs
  pub record IsSplitSoFar (terms : List T) (i : ℕ) (above below : List T) : Type 0 where
    pub signs : HasSigns int above below
    pub same : sum_of (map int above) +ℤ sum_of (map int below) ≡ sum_of (map int (take i terms))
    pub of_above : Each (Contains terms) above
    pub of_below : Each (Contains terms) below

  pub split_start : (terms : List T) → IsSplitSoFar terms 0 [] []
  split_start terms = record { signs = record { high = tt; low = tt }; same = omega (arith, ints, total_none terms); of_above = tt; of_below = tt }

  pub split_more : (terms : List T) (i : ℕ) (t : T) (above below new_above new_below : List T) → i < length terms → t ≡ get_or terms i t → IsSplitSoFar terms i above below → IsSortedIn int t above below new_above new_below → IsSplitSoFar terms (i + 1) new_above new_below
  split_more terms i t above below new_above new_below l e h (inl k) =
      let c : Contains terms t = subst (Contains terms) (sym e) (contains_at terms i t l) in
      let a = total_push above new_above t k.1 in
      let b = ap (λ (zs : List T). sum_of (map int zs)) k.2 in
      let s = h.same in
      let m = total_take terms i t l e in
      record {
        signs = record {
          high = subst (Each (λ u. pos 0 ≤ℤ int u)) (sym k.1) (Each-push (λ u. pos 0 ≤ℤ int u) above t h.signs.high k.0);
          low = subst (Each (λ u. int u ≤ℤ pos 0)) (sym k.2) h.signs.low;
        };
        same = omega (arith, sums, a, b, s, m);
        of_above = subst (Each (Contains terms)) (sym k.1) (Each-push (Contains terms) above t h.of_above c);
        of_below = subst (Each (Contains terms)) (sym k.2) h.of_below;
      }
  split_more terms i t above below new_above new_below l e h (inr k) =
      let c : Contains terms t = subst (Contains terms) (sym e) (contains_at terms i t l) in
      let a = total_push below new_below t k.2 in
      let b = ap (λ (zs : List T). sum_of (map int zs)) k.1 in
      let s = h.same in
      let m = total_take terms i t l e in
      record {
        signs = record {
          high = subst (Each (λ u. pos 0 ≤ℤ int u)) (sym k.1) h.signs.high;
          low = subst (Each (λ u. int u ≤ℤ pos 0)) (sym k.2) (Each-push (λ u. int u ≤ℤ pos 0) below t h.signs.low k.0);
        };
        same = omega (arith, sums, a, b, s, m);
        of_above = subst (Each (Contains terms)) (sym k.1) h.of_above;
        of_below = subst (Each (Contains terms)) (sym k.2) (Each-push (Contains terms) below t h.of_below c);
      }

  pub split_end : (terms : List T) (i : ℕ) (above below : List T) → length terms ≤ i → IsSplitSoFar terms i above below → IsSplit int terms above below
  split_end terms i above below l h = record {
    signs = h.signs;
    same = h.same ∙ ap (λ (zs : List T). sum_of (map int zs)) (take_all i terms l);
    of_above = h.of_above;
    of_below = h.of_below;
  }

  -- what is no sum of the halves is none of the terms
  pub split_refusal : (fits : ℤ → Type 0) (terms above below : List T) → IsSplit int terms above below → (Each (λ t. fits (int t)) above → Each (λ t. fits (int t)) below → ¬ fits (sum_of (map int above) +ℤ sum_of (map int below))) → Each fits (map int terms) → ¬ fits (sum_of (map int terms))
  split_refusal fits terms above below s none all k =
      let at : (t : T) → Contains terms t → fits (int t) = λ t c. fits_at terms all t c in
      none (Each-from_contains _ above (λ t c. at t (Each-contains (Contains terms) above t s.of_above c))) (Each-from_contains _ below (λ t c. at t (Each-contains (Contains terms) below t s.of_below c))) (subst fits (sym s.same) k)
    where
      fits_in : (ts : List T) → Each fits (map int ts) → Each (λ t. fits (int t)) ts
      fits_in [] h = tt
      fits_in (t ∷ ts) h = (h.0, fits_in ts h.1)

      fits_at : (ts : List T) → Each fits (map int ts) → (t : T) → Contains ts t → fits (int t)
      fits_at ts h t c = Each-contains (λ u. fits (int u)) ts t (fits_in ts h) c

  -- ---- taken one by one
  module _ (fits : ℤ → Type 0) (h : ℤ) (room : HasRoom h fits) (first_above first_below : List T) where
    whole : ℤ
    whole = sum_of (map int first_above) +ℤ sum_of (map int first_below)

    AllFit : List T → Type 0
    AllFit xs = Each (λ t. fits (int t)) xs

    pub record IsMerging (sum : ℤ) (above below : List T) : Type 0 where
      pub signs : HasSigns int above below
      pub same : sum +ℤ (sum_of (map int above) +ℤ sum_of (map int below)) ≡ sum_of (map int first_above) +ℤ sum_of (map int first_below)
      pub fit : Each (λ t. fits (int t)) first_above → Each (λ t. fits (int t)) first_below → fits sum × Each (λ t. fits (int t)) above × Each (λ t. fits (int t)) below

    pub merge_start : (sum : ℤ) → sum ≡ pos 0 → HasSigns int first_above first_below → IsMerging sum first_above first_below
    merge_start sum e s = record { signs = s; same = omega (arith, sums, e); fit = λ a b. (subst fits (sym e) room.zero_fits, a, b) }

    high_of : (xs ys : List T) (t : T) → xs ≡ ys ++ t ∷ [] → Each (λ u. pos 0 ≤ℤ int u) xs → Each (λ u. pos 0 ≤ℤ int u) ys × (pos 0 ≤ℤ int t)
    high_of xs ys t e a = let b = subst (Each (λ u. pos 0 ≤ℤ int u)) e a in (Each-front (λ u. pos 0 ≤ℤ int u) ys (t ∷ []) b, (Each-back (λ u. pos 0 ≤ℤ int u) ys (t ∷ []) b).0)

    low_of : (xs ys : List T) (t : T) → xs ≡ ys ++ t ∷ [] → Each (λ u. int u ≤ℤ pos 0) xs → Each (λ u. int u ≤ℤ pos 0) ys × (int t ≤ℤ pos 0)
    low_of xs ys t e a = let b = subst (Each (λ u. int u ≤ℤ pos 0)) e a in (Each-front (λ u. int u ≤ℤ pos 0) ys (t ∷ []) b, (Each-back (λ u. int u ≤ℤ pos 0) ys (t ∷ []) b).0)

    fit_of : (xs ys : List T) (t : T) → xs ≡ ys ++ t ∷ [] → Each (λ u. fits (int u)) xs → Each (λ u. fits (int u)) ys × fits (int t)
    fit_of xs ys t e a = let b = subst (Each (λ u. fits (int u))) e a in (Each-front (λ u. fits (int u)) ys (t ∷ []) b, (Each-back (λ u. fits (int u)) ys (t ∷ []) b).0)

    none_total : (xs : List T) → xs ≡ [] → sum_of (map int xs) ≡ pos 0
    none_total xs e = ap (λ (zs : List T). sum_of (map int zs)) e

    -- the next partial sum is a value, where the terms and the whole sum are
    next_fits : (sum : ℤ) (above below new_above new_below : List T) (t : T) → IsMerging sum above below → IsTaken sum above below new_above new_below t → Each (λ u. fits (int u)) first_above → Each (λ u. fits (int u)) first_below → fits (sum_of (map int first_above) +ℤ sum_of (map int first_below)) → fits (sum +ℤ int t)
    next_fits sum above below new_above new_below t m (inl (inl n, k, j)) a b w =
        let f = m.fit a b in
        let g = fit_of above new_above t k f.1 in
        let p = (high_of above new_above t k m.signs.high).1 in
        room.between sum (sum +ℤ int t) (int t) f.0 g.1 (omega (arith, sums, p)) (omega (arith, sums, n))
    next_fits sum above below new_above new_below t m (inl (inr n, k, j)) a b w =
        let f = m.fit a b in
        let p = high_of above new_above t k m.signs.high in
        let q = sum_positive (map int new_above) (each_int (λ z. pos 0 ≤ℤ z) new_above p.0) in
        let r = p.1 in
        let s = m.same in
        let e = total_push new_above above t k in
        let z = none_total below n in
        room.between sum (sum +ℤ int t) (sum_of (map int first_above) +ℤ sum_of (map int first_below)) f.0 w (omega (arith, sums, r)) (omega (arith, sums, q, s, e, z))
    next_fits sum above below new_above new_below t m (inr (inl n, j, k)) a b w =
        let f = m.fit a b in
        let g = fit_of below new_below t k f.2 in
        let p = (low_of below new_below t k m.signs.low).1 in
        room.between (int t) (sum +ℤ int t) sum g.1 f.0 (omega (arith, sums, n)) (omega (arith, sums, p))
    next_fits sum above below new_above new_below t m (inr (inr n, j, k)) a b w =
        let f = m.fit a b in
        let p = low_of below new_below t k m.signs.low in
        let q = sum_negative (map int new_below) (each_int (λ z. z ≤ℤ pos 0) new_below p.0) in
        let r = p.1 in
        let s = m.same in
        let e = total_push new_below below t k in
        let z = none_total above n in
        room.between (sum_of (map int first_above) +ℤ sum_of (map int first_below)) (sum +ℤ int t) sum w f.0 (omega (arith, sums, q, s, e, z)) (omega (arith, sums, r))

    pub merge_refusal : (sum : ℤ) (above below new_above new_below : List T) (t : T) → IsMerging sum above below → IsTaken sum above below new_above new_below t → ¬ fits (sum +ℤ int t) → Each (λ u. fits (int u)) first_above → Each (λ u. fits (int u)) first_below → ¬ fits (sum_of (map int first_above) +ℤ sum_of (map int first_below))
    merge_refusal sum above below new_above new_below t m k none a b w = none (next_fits sum above below new_above new_below t m k a b w)

    pub merge_more : (sum more : ℤ) (above below new_above new_below : List T) (t : T) → IsMerging sum above below → IsTaken sum above below new_above new_below t → fits (sum +ℤ int t) × (more ≡ sum +ℤ int t) → IsMerging more new_above new_below
    merge_more sum more above below new_above new_below t m (inl (n, k, j)) g =
        let s = m.same in
        let e = total_push new_above above t k in
        let z = ap (λ (zs : List T). sum_of (map int zs)) j in
        let u = g.1 in
        record {
          signs = record { high = (high_of above new_above t k m.signs.high).0; low = subst (Each (λ u. int u ≤ℤ pos 0)) j m.signs.low };
          same = omega (arith, sums, s, e, z, u);
          fit = λ a b. (subst fits (sym u) g.0, (fit_of above new_above t k (m.fit a b).1).0, subst (Each (λ u. fits (int u))) j (m.fit a b).2);
        }
    merge_more sum more above below new_above new_below t m (inr (n, j, k)) g =
        let s = m.same in
        let e = total_push new_below below t k in
        let z = ap (λ (zs : List T). sum_of (map int zs)) j in
        let u = g.1 in
        record {
          signs = record { high = subst (Each (λ u. pos 0 ≤ℤ int u)) j m.signs.high; low = (low_of below new_below t k m.signs.low).0 };
          same = omega (arith, sums, s, e, z, u);
          fit = λ a b. (subst fits (sym u) g.0, subst (Each (λ u. fits (int u))) j (m.fit a b).1, (fit_of below new_below t k (m.fit a b).2).0);
        }

    pub merge_end : (sum : ℤ) (above below : List T) → IsMerging sum above below → above ≡ [] → below ≡ [] → sum ≡ sum_of (map int first_above) +ℤ sum_of (map int first_below)
    merge_end sum above below m e f =
        let s = m.same in
        let a = none_total above e in
        let b = none_total below f in
        omega (arith, sums, s, a, b)
