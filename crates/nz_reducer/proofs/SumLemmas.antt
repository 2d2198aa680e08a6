-- Sums of values in an order that keeps them small.
use Rattle.std.proofs.Common.{◌≡◌, ◌⊎◌, inl, inr, ℕ, zero, suc, ◌+◌, ◌<◌, ◌≤◌, [], ◌∷◌, length, map, take, get_or, ℤ, pos, negsuc, ◌+ℤ◌, ◌≤ℤ◌, ◌<ℤ◌, refl, sym, ap, ◌∙◌, subst, arith}
use Rattle.std.proofs.lemmas.Int.{ints}
use Rattle.std.proofs.lemmas.List.{take_all}
use Rattle.std.specs.List.{AllByRecursion as Each}
use Rattle.nz_spec.specs.Vectors.{Vector}
use Rattle.nz_spec.proofs.ListLaws.{each_at}
use Rattle.nz_order.specs.Boxes.{IsBelow}
use Rattle.nz_scalar.specs.Room.{HasRoom}
use Rattle.nz_reducer.specs.Tables.{total, HasSum}
use Rattle.nz_reducer.specs.Marks.{rise, fall}

-- what is at most other values has no larger sum
pub below_total : (xs ys : Vector) → IsBelow xs ys → total xs ≤ℤ total ys
below_total [] [] h = omega (arith, ints)
below_total [] (b ∷ ys) h = absurd h
below_total (a ∷ xs) [] h = absurd h
below_total (a ∷ xs) (b ∷ ys) h = let r = below_total xs ys h.1 in let k = h.0 in omega (arith, ints, r, k)

rise_nonneg : (v : ℤ) → pos 0 ≤ℤ rise v
rise_nonneg (pos n) = omega (arith, ints)
rise_nonneg (negsuc n) = omega (arith, ints)

fall_nonpos : (v : ℤ) → fall v ≤ℤ pos 0
fall_nonpos (pos n) = omega (arith, ints)
fall_nonpos (negsuc n) = omega (arith, ints)

rise_fall : (v : ℤ) → rise v +ℤ fall v ≡ v
rise_fall (pos n) = omega (arith, ints)
rise_fall (negsuc n) = omega (arith, ints)

rise_fits : (fits : ℤ → Type 0) (v : ℤ) → fits (pos 0) → fits v → fits (rise v)
rise_fits fits (pos n) z f = f
rise_fits fits (negsuc n) z f = z

fall_fits : (fits : ℤ → Type 0) (v : ℤ) → fits (pos 0) → fits v → fits (fall v)
fall_fits fits (pos n) z f = z
fall_fits fits (negsuc n) z f = f

-- as the code finds them
pub rise_of : (v : ℤ) → pos 0 ≤ℤ v → rise v ≡ v
rise_of (pos n) h = refl
rise_of (negsuc n) h = absurd (omega (arith, ints, h))

pub rise_none : (v : ℤ) → v <ℤ pos 0 → rise v ≡ pos 0
rise_none (pos n) h = absurd (omega (arith, ints, h))
rise_none (negsuc n) h = refl

pub fall_of : (v : ℤ) → v <ℤ pos 0 → fall v ≡ v
fall_of (pos n) h = absurd (omega (arith, ints, h))
fall_of (negsuc n) h = refl

pub fall_none : (v : ℤ) → pos 0 ≤ℤ v → fall v ≡ pos 0
fall_none (pos n) h = refl
fall_none (negsuc n) h = absurd (omega (arith, ints, h))

total_split : (xs : Vector) → total xs ≡ total (map rise xs) +ℤ total (map fall xs)
total_split [] = omega (arith, ints)
total_split (a ∷ xs) = let r = total_split xs in let k = rise_fall a in omega (arith, ints, r, k)

total_next : (f : ℤ → ℤ) (xs : Vector) (i : ℕ) → i < length xs → total (map f (take (i + 1) xs)) ≡ total (map f (take i xs)) +ℤ f (get_or xs i (pos 0))
total_next f [] i l = absurd (omega (arith, l))
total_next f (a ∷ xs) zero l = omega (arith, ints)
total_next f (a ∷ xs) (suc i) l =
    let r = total_next f xs i (omega (arith, l)) in
    let n : suc i + 1 ≡ suc (i + 1) = omega arith in
    ap (λ (k : ℕ). total (map f (take k (a ∷ xs)))) n ∙ omega (arith, ints, r)

rises_nonneg : (xs : Vector) → pos 0 ≤ℤ total (map rise xs)
rises_nonneg [] = omega (arith, ints)
rises_nonneg (a ∷ xs) = let r = rises_nonneg xs in let k = rise_nonneg a in omega (arith, ints, r, k)

falls_nonpos : (xs : Vector) → total (map fall xs) ≤ℤ pos 0
falls_nonpos [] = omega (arith, ints)
falls_nonpos (a ∷ xs) = let r = falls_nonpos xs in let k = fall_nonpos a in omega (arith, ints, r, k)

rises_front : (i : ℕ) (xs : Vector) → total (map rise (take i xs)) ≤ℤ total (map rise xs)
rises_front zero xs = rises_nonneg xs
rises_front (suc i) [] = omega (arith, ints)
rises_front (suc i) (a ∷ xs) = let r = rises_front i xs in omega (arith, ints, r)

falls_front : (i : ℕ) (xs : Vector) → total (map fall xs) ≤ℤ total (map fall (take i xs))
falls_front zero xs = falls_nonpos xs
falls_front (suc i) [] = omega (arith, ints)
falls_front (suc i) (a ∷ xs) = let r = falls_front i xs in omega (arith, ints, r)

each_next : (P : ℤ → Type 0) (xs : Vector) (i : ℕ) → i < length xs → Each P (take i xs) → P (get_or xs i (pos 0)) → Each P (take (i + 1) xs)
each_next P [] i l h p = absurd (omega (arith, l))
each_next P (a ∷ xs) zero l h p = (p, tt)
each_next P (a ∷ xs) (suc i) l h p =
    let n : suc (i + 1) ≡ suc i + 1 = omega arith in
    subst (λ (k : ℕ). Each P (take k (a ∷ xs))) n (h.0, each_next P xs i (omega (arith, l)) h.1 p)

-- the values of at least 0 before the one place and the negative ones before the other are in the sum
pub record IsSumming (fits : ℤ → Type 0) (xs : Vector) (sum : ℤ) (raised lowered : ℕ) : Type 0 where
  pub inside : raised ≤ length xs
  pub within : lowered ≤ length xs
  pub values : Each fits (take raised xs)
  pub fit : fits sum
  pub same : sum ≡ total (map rise (take raised xs)) +ℤ total (map fall (take lowered xs))

module _ (fits : ℤ → Type 0) (xs : Vector) where
  pub sum_start : {h : ℤ} (s : ℤ) → HasRoom h fits → s ≡ pos 0 → IsSumming fits xs s 0 0
  sum_start s room e = record { inside = omega arith; within = omega arith; values = tt; fit = subst fits (sym e) room.zero_fits; same = omega (arith, ints, e) }

  module _ (s : ℤ) (r l : ℕ) (h : IsSumming fits xs s r l) (v : ℤ) where
    pub sum_raised : (t : ℤ) → r < length xs → v ≡ get_or xs r (pos 0) → fits v → fits t → t ≡ s +ℤ rise v → IsSumming fits xs t (r + 1) l
    sum_raised t i e f g n = record {
      inside = omega (arith, i);
      within = h.within;
      values = each_next fits xs r i h.values (subst fits e f);
      fit = g;
      same = (let k = total_next rise xs r i in let a = ap rise e in let b = h.same in omega (arith, ints, k, a, b, n));
    }

    pub sum_lowered : (t : ℤ) → l < length xs → v ≡ get_or xs l (pos 0) → fits (s +ℤ fall v) → t ≡ s +ℤ fall v → IsSumming fits xs t r (l + 1)
    sum_lowered t i e g n = record {
      inside = h.inside;
      within = omega (arith, i);
      values = h.values;
      fit = subst fits (sym n) g;
      same = (let k = total_next fall xs l i in let a = ap fall e in let b = h.same in omega (arith, ints, k, a, b, n));
    }

    -- where the next sum is no value, the whole is none
    pub raised_none : {h : ℤ} → HasRoom h fits → r < length xs → v ≡ get_or xs r (pos 0) → (s <ℤ pos 0) ⊎ (length xs ≤ l) → (fits v → ¬ fits (s +ℤ rise v)) → ¬ HasSum fits xs
    raised_none room i e c n w =
        let f = subst fits (sym e) (each_at fits xs r (pos 0) w.0 i) in
        let p = rise_nonneg v in
        elim c [
          | inl m ↦ n f (room.between s (s +ℤ rise v) (rise v) h.fit (rise_fits fits v room.zero_fits f) (omega (arith, ints, p)) (omega (arith, ints, m)))
          | inr m ↦ (let k = total_next rise xs r i in let a = ap rise e in let b = h.same in let q = rises_front (r + 1) xs in let t = total_split xs in
              let z = ap (λ (ys : Vector). total (map fall ys)) (take_all l xs m) in
              n f (room.between s (s +ℤ rise v) (total xs) h.fit w.1 (omega (arith, ints, p)) (omega (arith, ints, k, a, b, q, t, z))))
        ]

    pub lowered_none : {h : ℤ} → HasRoom h fits → l < length xs → v ≡ get_or xs l (pos 0) → (pos 0 ≤ℤ s) ⊎ (length xs ≤ r) → ¬ fits (s +ℤ fall v) → ¬ HasSum fits xs
    lowered_none room i e c n w =
        let f = subst fits (sym e) (each_at fits xs l (pos 0) w.0 i) in
        let p = fall_nonpos v in
        elim c [
          | inl m ↦ n (room.between (fall v) (s +ℤ fall v) s (fall_fits fits v room.zero_fits f) h.fit (omega (arith, ints, m)) (omega (arith, ints, p)))
          | inr m ↦ (let k = total_next fall xs l i in let a = ap fall e in let b = h.same in let q = falls_front (l + 1) xs in let t = total_split xs in
              let z = ap (λ (ys : Vector). total (map rise ys)) (take_all r xs m) in
              n (room.between (total xs) (s +ℤ fall v) s w.1 h.fit (omega (arith, ints, k, a, b, q, t, z)) (omega (arith, ints, p))))
        ]

  pub sum_end : (s : ℤ) (r l : ℕ) → IsSumming fits xs s r l → length xs ≤ r → length xs ≤ l → HasSum fits xs × (s ≡ total xs)
  sum_end s r l h i j =
      let a = ap (λ (ys : Vector). total (map rise ys)) (take_all r xs i) in
      let b = ap (λ (ys : Vector). total (map fall ys)) (take_all l xs j) in
      let e = h.same in
      let t = total_split xs in
      let same : s ≡ total xs = omega (arith, ints, a, b, e, t) in
      ((subst (Each fits) (take_all r xs i) h.values, subst fits same h.fit), same)
