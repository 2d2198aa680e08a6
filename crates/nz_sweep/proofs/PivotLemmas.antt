-- Pivots: the first of the least values, one value after the other, and what clearing by it leaves.
use Rattle.std.proofs.Common.{◌≡◌, ◌≢◌, ◌⊎◌, inl, inr, ℕ, suc, ◌+◌, ◌<◌, ◌≤◌, List, [], ◌∷◌, length, get_or, take, drop, ℤ, pos, sym, ap, ◌∙◌, subst, arith}
use Rattle.std.specs.Prelude.{unsigned_abs, Option, Some, None, MatchOption}
use Rattle.std.specs.List.{AllByRecursion as Each, insert}
use Rattle.std.proofs.lemmas.Int.{ints}
use Rattle.std.proofs.lemmas.Bool.{cases_lt}
use Rattle.std.proofs.lemmas.List.{get_or-map, take-append-drop}
use Rattle.nz_spec.specs.Vectors.{entry}
use Rattle.nz_linear.proofs.Lists.{each_map2, each_remove}
use Rattle.nz_linear.proofs.Signs.{sign_cases}
use Rattle.nz_sweep.specs.Clearing.{Valued, values_of, AreZero, IsPivot}

pub value_at : (vs : List Valued) (i : ℕ) (v : Valued) → i < length vs → v ≡ get_or vs i v → entry (values_of vs) i ≡ v.value
value_at vs i v l e = get_or-map (λ (t : Valued). t.value) vs i v (pos 0) l ∙ ap (λ (t : Valued). t.value) (sym e)

-- each index below n is one below k, or k
below_more : (n k : ℕ) → k < n + 1 → (k < n) ⊎ (k ≡ n)
below_more n k l = elim (cases_lt k n) [
  | inl b ↦ inl b
  | inr g ↦ inr (omega (arith, g, l))
]

pub zero_more : (a : List ℤ) (n : ℕ) → ((k : ℕ) → k < n → entry a k ≡ pos 0) → entry a n ≡ pos 0 → (k : ℕ) → k < n + 1 → entry a k ≡ pos 0
zero_more a n h z k l = elim (below_more n k l) [
  | inl b ↦ h k b
  | inr e ↦ subst (λ (t : ℕ). entry a t ≡ pos 0) (sym e) z
]

pub pivot_zero : (a : List ℤ) (n p : ℕ) → IsPivot a n p → entry a n ≡ pos 0 → IsPivot a (n + 1) p
pivot_zero a n p h z = record {
  within = omega (arith, h.within);
  nonzero = h.nonzero;
  least = λ k l nz. elim (below_more n k l) [
    | inl b ↦ h.least k b nz
    | inr e ↦ absurd (nz (ap (entry a) e ∙ z))
  ];
  first = h.first;
}

pub pivot_new : (a : List ℤ) (n : ℕ) → ((k : ℕ) → k < n → entry a k ≡ pos 0) → entry a n ≢ pos 0 → IsPivot a (n + 1) n
pivot_new a n h nz = record {
  within = omega arith;
  nonzero = nz;
  least = λ k l m. elim (below_more n k l) [
    | inl b ↦ absurd (m (h k b))
    | inr e ↦ same k e
  ];
  first = λ k l m. absurd (m (h k l));
}
  where
    same : (k : ℕ) → k ≡ n → unsigned_abs (entry a n) ≤ unsigned_abs (entry a k)
    same k e = let f = ap (λ t. unsigned_abs (entry a t)) e in omega (arith, f)

pub pivot_less : (a : List ℤ) (n p : ℕ) → IsPivot a n p → entry a n ≢ pos 0 → unsigned_abs (entry a n) < unsigned_abs (entry a p) → IsPivot a (n + 1) n
pivot_less a n p h nz l = record {
  within = omega arith;
  nonzero = nz;
  least = λ k b m. elim (below_more n k b) [
    | inl c ↦ (let r = h.least k c m in omega (arith, r, l))
    | inr e ↦ same k e
  ];
  first = λ k b m. let r = h.least k b m in omega (arith, r, l);
}
  where
    same : (k : ℕ) → k ≡ n → unsigned_abs (entry a n) ≤ unsigned_abs (entry a k)
    same k e = let f = ap (λ t. unsigned_abs (entry a t)) e in omega (arith, f)

pub pivot_kept : (a : List ℤ) (n p : ℕ) → IsPivot a n p → unsigned_abs (entry a p) ≤ unsigned_abs (entry a n) → IsPivot a (n + 1) p
pivot_kept a n p h l = record {
  within = omega (arith, h.within);
  nonzero = h.nonzero;
  least = λ k b m. elim (below_more n k b) [
    | inl c ↦ h.least k c m
    | inr e ↦ same k e
  ];
  first = h.first;
}
  where
    same : (k : ℕ) → k ≡ n → unsigned_abs (entry a p) ≤ unsigned_abs (entry a k)
    same k e = let f = ap (λ t. unsigned_abs (entry a t)) e in omega (arith, f, l)

-- ---- of the pivot so far, if there is one
pub zero_step : (a : List ℤ) (n : ℕ) (o : Option ℕ) → MatchOption o ((k : ℕ) → k < n → entry a k ≡ pos 0) (λ p. IsPivot a n p) → entry a n ≡ pos 0 → MatchOption o ((k : ℕ) → k < n + 1 → entry a k ≡ pos 0) (λ p. IsPivot a (n + 1) p)
zero_step a n None h z = zero_more a n h z
zero_step a n (Some p) h z = pivot_zero a n p h z

pub pivot_of : (a : List ℤ) (n p : ℕ) (o : Option ℕ) → o ≡ Some p → MatchOption o ((k : ℕ) → k < n → entry a k ≡ pos 0) (λ q. IsPivot a n q) → IsPivot a n p
pivot_of a n p o e h = subst (λ (t : Option ℕ). MatchOption t ((k : ℕ) → k < n → entry a k ≡ pos 0) (λ q. IsPivot a n q)) e h

-- what holds of all values holds of each element's
pub each_value : (P : ℤ → Type 0) (vs : List Valued) → ((k : ℕ) → k < length vs → P (entry (values_of vs) k)) → Each (λ (v : Valued). P v.value) vs
each_value P [] h = tt
each_value P (v ∷ vs) h = (h 0 (omega arith), each_value P vs (λ k l. h (suc k) (omega (arith, l))))

pub all_zero : (vs : List Valued) → ((k : ℕ) → k < length vs → entry (values_of vs) k ≡ pos 0) → AreZero vs
all_zero vs h = each_value (λ z. z ≡ pos 0) vs h

-- the vector put in has a value other than 0, so not all are 0
pub own_zero : (vs : List Valued) (i : ℕ) (own : Valued) → AreZero (insert vs i own) → own.value ≡ pos 0
own_zero vs i own z = (each_remove (λ (v : Valued). v.value ≡ pos 0) own (take i vs) (drop i vs) z).0

-- where not all others are 0, the next pivot is smaller than what they were reduced by
pub pivot_smaller : (vs : List Valued) (i next : ℕ) (own : Valued) → ¬ AreZero vs → Each (λ (v : Valued). unsigned_abs v.value < unsigned_abs own.value) vs → IsPivot (values_of (insert vs i own)) (length (insert vs i own)) next → unsigned_abs (entry (values_of (insert vs i own)) next) < unsigned_abs own.value
pivot_smaller vs i next own nz s p = by (unsigned_abs (entry (values_of (insert vs i own)) next)) p.least
  where
    none : (m v b : ℕ) → b ≤ m → v < b → m ≤ v → ⊥
    none m v b x y z = omega (arith, x, y, z)

    zero_of : (z : ℤ) → ¬ (z ≢ pos 0) → z ≡ pos 0
    zero_of z h = elim (sign_cases z) [
      | inl e ↦ e
      | inr o ↦ absurd (h (elim o [ inl k ↦ (λ e. omega (arith, ints, k, e)) | inr k ↦ (λ e. omega (arith, ints, k, e)) ]))
    ]

    by : (m : ℕ) → ((k : ℕ) → k < length (insert vs i own) → entry (values_of (insert vs i own)) k ≢ pos 0 → m ≤ unsigned_abs (entry (values_of (insert vs i own)) k)) → m < unsigned_abs own.value
    by m least = elim (cases_lt m (unsigned_abs own.value)) [
      | inl l ↦ l
      | inr g ↦ absurd (nz (each_map2 (λ (v : Valued). unsigned_abs v.value < unsigned_abs own.value) (λ (v : Valued). v.value ≢ pos 0 → m ≤ unsigned_abs v.value) (λ (v : Valued). v.value ≡ pos 0) vs (λ v l h. zero_of v.value (λ n. none m (unsigned_abs v.value) (unsigned_abs own.value) g l (h n))) s
          (subst (Each (λ (v : Valued). v.value ≢ pos 0 → m ≤ unsigned_abs v.value)) (take-append-drop i vs) (each_remove (λ (v : Valued). v.value ≢ pos 0 → m ≤ unsigned_abs v.value) own (take i vs) (drop i vs) (each_value (λ z. z ≢ pos 0 → m ≤ unsigned_abs z) (insert vs i own) least)).1)))
    ]

pub least_done : (vs : List Valued) (n : ℕ) (o : Option ℕ) → n ≡ length vs → MatchOption o ((k : ℕ) → k < n → entry (values_of vs) k ≡ pos 0) (λ p. IsPivot (values_of vs) n p) → MatchOption o (AreZero vs) (λ p. IsPivot (values_of vs) (length vs) p)
least_done vs n None e h = all_zero vs (λ k l. h k (omega (arith, l, e)))
least_done vs n (Some p) e h = subst (λ (t : ℕ). IsPivot (values_of vs) t p) e h
