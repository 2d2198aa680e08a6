-- Places that are marked one by one.
use Rattle.std.proofs.Common.{◌≡◌, ◌≢◌, ◌⊎◌, inl, inr, ℕ, zero, suc, ◌+◌, ◌-◌, ◌<◌, ◌≤◌, Bool, true, false, List, [], ◌∷◌, ◌++◌, length, take, get_or, set, replicate, Contains, refl, sym, ap, ◌∙◌, subst, arith}
use Rattle.std.proofs.lemmas.List.{take_more, get_or-set_same, get_or-set_other, length-set}
use Rattle.std.proofs.lemmas.Bool.{cases_eq, cases_Bool}
use Rattle.std.specs.List.{AllByRecursion as Each}
use Rattle.nz_spec.specs.Order.{Pairwise, ListsOnce}
use Rattle.nz_spec.proofs.ListLaws.{contains_here, contains_there, contains_cases, contains_none, contains_at, Each-contains, Each-from_contains, Each-weaker, different_within}
use Rattle.nz_order.proofs.OrderLaws.{Pairwise-push}
use Rattle.nz_further.specs.Certificates.{IsPlace}
use Rattle.nz_cert.specs.Fields.{IsFree}

-- just the places that stand in the list are marked, each stands there once
pub record AreMarked (n : ℕ) (done : List ℕ) (marks : List Bool) : Type 0 where
  pub size : length marks ≡ n
  pub only : Each (IsPlace n) done
  pub once : Pairwise ◌≢◌ done
  pub marked : (p : ℕ) → Contains done p → get_or marks (p - 1) false ≡ true
  pub stand : (p : ℕ) → IsPlace n p → get_or marks (p - 1) false ≡ true → Contains done p

push_here : {A : Type 0} (xs : List A) (x : A) → Contains (xs ++ x ∷ []) x
push_here [] x = contains_here x []
push_here (y ∷ xs) x = contains_there y x (xs ++ x ∷ []) (push_here xs x)

push_there : {A : Type 0} (xs : List A) (x y : A) → Contains xs y → Contains (xs ++ x ∷ []) y
push_there [] x y h = absurd (contains_none y h)
push_there (z ∷ xs) x y h = elim (contains_cases z xs y h) [
  | inl e ↦ subst (Contains (z ∷ (xs ++ x ∷ []))) e (contains_here z (xs ++ x ∷ []))
  | inr k ↦ contains_there z y (xs ++ x ∷ []) (push_there xs x y k)
]

push_cases : {A : Type 0} (xs : List A) (x y : A) → Contains (xs ++ x ∷ []) y → Contains xs y ⊎ (x ≡ y)
push_cases [] x y h = elim (contains_cases x [] y h) [ inl e ↦ inr e | inr k ↦ absurd (contains_none y k) ]
push_cases (z ∷ xs) x y h = elim (contains_cases z (xs ++ x ∷ []) y h) [
  | inl e ↦ inl (subst (Contains (z ∷ xs)) e (contains_here z xs))
  | inr k ↦ elim (push_cases xs x y k) [ inl m ↦ inl (contains_there z y xs m) | inr e ↦ inr e ]
]

push_each : {A : Type 0} (P : A → Type 0) (xs : List A) (x : A) → Each P xs → P x → Each P (xs ++ x ∷ [])
push_each P [] x h k = (k, tt)
push_each P (y ∷ xs) x h k = (h.0, push_each P xs x h.1 k)

nowhere : (k n : ℕ) → get_or (replicate n false) k false ≡ true → ⊥
nowhere k zero e = cc
nowhere zero (suc n) e = cc
nowhere (suc k) (suc n) e = nowhere k n e

pub marks_start : (n : ℕ) (marks : List Bool) → length marks ≡ n → marks ≡ replicate n false → AreMarked n [] marks
marks_start n marks l e = record {
  size = l;
  only = tt;
  once = tt;
  marked = λ p h. absurd (contains_none p h);
  stand = λ p h m. absurd (nowhere (p - 1) n (ap (λ (s : List Bool). get_or s (p - 1) false) (sym e) ∙ m));
}

true_false : true ≡ false → ⊥
true_false e = cc

-- one place more
pub marks_more : (n p : ℕ) (done : List ℕ) (marks more : List Bool) → AreMarked n done marks → IsFree marks p → more ≡ set marks (p - 1) true → AreMarked n (done ++ p ∷ []) more
marks_more n p done marks more h f e = subst (AreMarked n (done ++ p ∷ [])) (sym e) (record {
  size = length-set marks (p - 1) true ∙ h.size;
  only = push_each (IsPlace n) done p h.only place;
  once = Pairwise-push ◌≢◌ done p h.once (Each-from_contains (λ (q : ℕ). q ≢ p) done (λ q c same. true_false (sym (h.marked q c) ∙ ap (λ (k : ℕ). get_or marks (k - 1) false) same ∙ f.1)));
  marked = λ q c. elim (push_cases done p q c) [
    | inl k ↦ elim (cases_eq (q - 1) (p - 1)) [
      | inl same ↦ ap (λ (j : ℕ). get_or (set marks (p - 1) true) j false) same ∙ get_or-set_same marks (p - 1) true false within
      | inr other ↦ get_or-set_other marks (p - 1) (q - 1) true false other ∙ h.marked q k
    ]
    | inr same ↦ ap (λ (j : ℕ). get_or (set marks (p - 1) true) (j - 1) false) (sym same) ∙ get_or-set_same marks (p - 1) true false within
  ];
  stand = λ q is m. elim (cases_eq q p) [
    | inl same ↦ subst (Contains (done ++ p ∷ [])) (sym same) (push_here done p)
    | inr other ↦ push_there done p q (h.stand q is (sym (get_or-set_other marks (p - 1) (q - 1) true false (apart q is other)) ∙ m))
  ];
})
  where
    place : IsPlace n p
    place = subst (λ (k : ℕ). IsPlace k p) h.size f.0

    within : p - 1 < length marks
    within = let a = f.0.0 in let b = f.0.1 in omega (arith, a, b)

    apart : (q : ℕ) → IsPlace n q → q ≢ p → q - 1 ≢ p - 1
    apart q is other same = other (let a = is.0 in let b = place.0 in omega (arith, a, b, same))

-- a place that is none of the rows, or stands there twice
pub marks_stop : (n p k : ℕ) (places : List ℕ) (marks : List Bool) → k < length places → p ≡ get_or places k 0 → AreMarked n (take k places) marks → ¬ IsFree marks p → ¬ ListsOnce (IsPlace n) places
marks_stop n p k places marks l e h f o = elim (cases_Bool (get_or marks (p - 1) false)) [
  | inl marked ↦ twice (h.stand p place marked)
  | inr free ↦ f (subst (λ (j : ℕ). IsPlace j p) (sym h.size) place, free)
]
  where
    place : IsPlace n p
    place = subst (IsPlace n) (sym e) (Each-contains (IsPlace n) places (get_or places k 0) o.only (contains_at places k 0 l))

    apart : (xs : List ℕ) (j : ℕ) → j < length xs → Pairwise ◌≢◌ xs → ¬ Contains (take j xs) (get_or xs j 0)
    apart [] j m d c = absurd (let g : ⊥ = omega (arith, m) in g)
    apart (x ∷ xs) zero m d c = contains_none x c
    apart (x ∷ xs) (suc j) m d c = elim (contains_cases x (take j xs) (get_or xs j 0) c) [
      | inl same ↦ Each-contains (λ (y : ℕ). x ≢ y) xs (get_or xs j 0) d.0 (contains_at xs j 0 (omega (arith, m))) same
      | inr there ↦ apart xs j (omega (arith, m)) d.1 there
    ]

    twice : Contains (take k places) p → ⊥
    twice c = apart places k l o.in_order (subst (Contains (take k places)) e c)

-- ---- so many different places are all
abbrev down_from : ℕ → List ℕ
down_from zero = []
down_from (suc n) = suc n ∷ down_from n

length-down_from : (n : ℕ) → length (down_from n) ≡ n
length-down_from zero = refl
length-down_from (suc n) = ap suc (length-down_from n)

has_places : (n p : ℕ) → IsPlace n p → Contains (down_from n) p
has_places zero p h = absurd (let a = h.0 in let b = h.1 in let f : ⊥ = omega (arith, a, b) in f)
has_places (suc n) p h = elim (cases_eq (suc n) p) [
  | inl e ↦ subst (Contains (suc n ∷ down_from n)) e (contains_here (suc n) (down_from n))
  | inr d ↦ contains_there (suc n) p (down_from n) (has_places n p (h.0, (let b = h.1 in omega (arith, b, d))))
]

contains_or_not : (xs : List ℕ) (x : ℕ) → Contains xs x ⊎ (¬ Contains xs x)
contains_or_not [] x = inr (contains_none x)
contains_or_not (y ∷ xs) x = elim (cases_eq y x) [
  | inl e ↦ inl (subst (Contains (y ∷ xs)) e (contains_here y xs))
  | inr d ↦ elim (contains_or_not xs x) [
    | inl k ↦ inl (contains_there y x xs k)
    | inr m ↦ inr (λ c. elim (contains_cases y xs x c) [ inl e ↦ d e | inr k ↦ m k ])
  ]
]

pub marks_end : (n : ℕ) (done : List ℕ) (marks : List Bool) → AreMarked n done marks → length done ≡ n → ListsOnce (IsPlace n) done
marks_end n done marks h l = record { in_order = h.once; only = h.only; each = λ p is. elim (contains_or_not done p) [ inl c ↦ c | inr m ↦ absurd (too_many p is m) ] }
  where
    too_many : (p : ℕ) → IsPlace n p → ¬ Contains done p → ⊥
    too_many p is m =
        let apart : Each (λ (q : ℕ). p ≢ q) done = Each-from_contains (λ (q : ℕ). p ≢ q) done (λ q c same. m (subst (Contains done) (sym same) c)) in
        let k = different_within (p ∷ done) (down_from n) (apart, h.once) (has_places n p is, Each-weaker (IsPlace n) (Contains (down_from n)) (has_places n) done h.only) in
        let s = length-down_from n in
        let f : ⊥ = omega (arith, k, s, l) in f

pub marks_next : (n p k : ℕ) (places : List ℕ) (marks more : List Bool) → k < length places → p ≡ get_or places k 0 → AreMarked n (take k places) marks → IsFree marks p → more ≡ set marks (p - 1) true → AreMarked n (take (k + 1) places) more
marks_next n p k places marks more l e h f m =
    subst (λ (xs : List ℕ). AreMarked n xs more) (sym (take_more places k 0 l ∙ ap (λ (x : ℕ). take k places ++ x ∷ []) (sym e))) (marks_more n p (take k places) marks more h f m)

pub marks_all : (n k : ℕ) (places : List ℕ) (marks : List Bool) → length places ≤ k → AreMarked (length places) (take k places) marks → ListsOnce (IsPlace (length places)) places
marks_all n k places marks l h = marks_end (length places) places marks (subst (λ (xs : List ℕ). AreMarked (length places) xs marks) (take_past places k l) h) refl
  where
    take_past : (xs : List ℕ) (j : ℕ) → length xs ≤ j → take j xs ≡ xs
    take_past [] zero m = refl
    take_past [] (suc j) m = refl
    take_past (x ∷ xs) zero m = absurd (let g : ⊥ = omega (arith, m) in g)
    take_past (x ∷ xs) (suc j) m = ap (λ (ys : List ℕ). x ∷ ys) (take_past xs j (omega (arith, m)))
