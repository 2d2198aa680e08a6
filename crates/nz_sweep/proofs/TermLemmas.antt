-- Balanced sums.
use Rattle.std.proofs.Common.{◌≡◌, inl, inr, ℕ, zero, suc, ◌+◌, ◌<◌, List, [], ◌∷◌, ◌++◌, length, map, take, ℤ, pos, ◌*ℤ◌, ◌+ℤ◌, ◌<ℤ◌, ◌≤ℤ◌, refl, sym, ap, ◌∙◌, subst, arith}
use Rattle.std.specs.Prelude.{Option, Some, None, MatchOption, IsSome}
use Rattle.std.specs.Option.{option_to_list}
use Rattle.std.proofs.lemmas.Bool.{false≢true}
use Rattle.std.specs.List.{AllByRecursion as Each}
use Rattle.nz_spec.specs.Vectors.{Vector, dot, entry}
use Rattle.nz_linear.proofs.Ring.{sums}
use Rattle.nz_linear.proofs.Signs.{sign_cases}
use Rattle.nz_linear.proofs.Lists.{each_left, each_right, each_append}
use Rattle.nz_scalar.specs.Room.{HasRoom}
use Rattle.nz_sweep.specs.Terms.{total, AreTerms, TakesOne}

pub total-push : (us : List ℤ) (t : ℤ) → total (us ++ (t ∷ [])) ≡ total us +ℤ t
total-push [] t = omega (arith, sums)
total-push (a ∷ us) t = let r = total-push us t in omega (arith, sums, r)

pub map-push : {T : Type 0} (f : T → ℤ) (xs : List T) (x : T) → map f (xs ++ (x ∷ [])) ≡ map f xs ++ (f x ∷ [])
map-push f [] x = refl
map-push f (y ∷ xs) x = ap (λ t. f y ∷ t) (map-push f xs x)

total_nonneg : (us : List ℤ) → Each (λ a. pos 0 ≤ℤ a) us → pos 0 ≤ℤ total us
total_nonneg [] h = omega (arith, sums)
total_nonneg (a ∷ us) h = let r = total_nonneg us h.1 in let k = h.0 in omega (arith, sums, r, k)

total_nonpos : (us : List ℤ) → Each (λ a. a ≤ℤ pos 0) us → total us ≤ℤ pos 0
total_nonpos [] h = omega (arith, sums)
total_nonpos (a ∷ us) h = let r = total_nonpos us h.1 in let k = h.0 in omega (arith, sums, r, k)

-- one product more
pub dot_more : (f x : Vector) (i : ℕ) → i < length f → length f ≡ length x → dot (take (i + 1) f) (take (i + 1) x) ≡ dot (take i f) (take i x) +ℤ entry f i *ℤ entry x i
dot_more [] x i l e = absurd (omega (arith, l))
dot_more (a ∷ f) [] i l e = absurd (omega (arith, e))
dot_more (a ∷ f) (b ∷ x) zero l e = omega (arith, sums)
dot_more (a ∷ f) (b ∷ x) (suc i) l e =
    let r = dot_more f x i (omega (arith, l)) (omega (arith, e)) in
    let n : suc i + 1 ≡ suc (i + 1) = omega arith in
    ap (λ (k : ℕ). dot (take k (a ∷ f)) (take k (b ∷ x))) n ∙ omega (arith, sums, r)

-- ---- one term more
pub terms_above : (fits : ℤ → Type 0) (us us' bs : List ℤ) (t : ℤ) → AreTerms fits us bs → fits t → pos 0 ≤ℤ t → us' ≡ us ++ (t ∷ []) → AreTerms fits us' bs
terms_above fits us us' bs t h f p e = record {
  nonneg = subst (Each (λ a. pos 0 ≤ℤ a)) (sym e) (each_append (λ a. pos 0 ≤ℤ a) us (t ∷ []) h.nonneg (p, tt));
  nonpos = h.nonpos;
  above_fit = subst (Each fits) (sym e) (each_append fits us (t ∷ []) h.above_fit (f, tt));
  below_fit = h.below_fit;
}

pub terms_below : (fits : ℤ → Type 0) (us bs bs' : List ℤ) (t : ℤ) → AreTerms fits us bs → fits t → t ≤ℤ pos 0 → bs' ≡ bs ++ (t ∷ []) → AreTerms fits us bs'
terms_below fits us bs bs' t h f p e = record {
  nonneg = h.nonneg;
  nonpos = subst (Each (λ a. a ≤ℤ pos 0)) (sym e) (each_append (λ a. a ≤ℤ pos 0) bs (t ∷ []) h.nonpos (p, tt));
  above_fit = h.above_fit;
  below_fit = subst (Each fits) (sym e) (each_append fits bs (t ∷ []) h.below_fit (f, tt));
}

pub sum_above : (us us' bs : List ℤ) (t : ℤ) → us' ≡ us ++ (t ∷ []) → total us' +ℤ total bs ≡ (total us +ℤ total bs) +ℤ t
sum_above us us' bs t e = let a = ap total e in let b = total-push us t in omega (arith, sums, a, b)

pub sum_below : (us bs bs' : List ℤ) (t : ℤ) → bs' ≡ bs ++ (t ∷ []) → total us +ℤ total bs' ≡ (total us +ℤ total bs) +ℤ t
sum_below us bs bs' t e = let a = ap total e in let b = total-push bs t in omega (arith, sums, a, b)

-- ---- one term taken
last_each : (P : ℤ → Type 0) (us us' : List ℤ) (t : ℤ) → us ≡ us' ++ (t ∷ []) → Each P us → Each P us' × P t
last_each P us us' t e h = let k = subst (Each P) e h in (each_left P us' (t ∷ []) k, (each_right P us' (t ∷ []) k).0)

pub taken_terms : (fits : ℤ → Type 0) (s t : ℤ) (us bs us' bs' : List ℤ) → AreTerms fits us bs → TakesOne s us bs us' bs' t → AreTerms fits us' bs'
taken_terms fits s t us bs us' bs' h (inl k) = record {
  nonneg = (last_each (λ a. pos 0 ≤ℤ a) us us' t k.0 h.nonneg).0;
  nonpos = subst (Each (λ a. a ≤ℤ pos 0)) k.1 h.nonpos;
  above_fit = (last_each fits us us' t k.0 h.above_fit).0;
  below_fit = subst (Each fits) k.1 h.below_fit;
}
taken_terms fits s t us bs us' bs' h (inr k) = record {
  nonneg = subst (Each (λ a. pos 0 ≤ℤ a)) k.1 h.nonneg;
  nonpos = (last_each (λ a. a ≤ℤ pos 0) bs bs' t k.0 h.nonpos).0;
  above_fit = subst (Each fits) k.1 h.above_fit;
  below_fit = (last_each fits bs bs' t k.0 h.below_fit).0;
}

pub taken_sum : (s t u w : ℤ) (us bs us' bs' : List ℤ) → TakesOne s us bs us' bs' t → s +ℤ (total us +ℤ total bs) ≡ w → u ≡ s +ℤ t → u +ℤ (total us' +ℤ total bs') ≡ w
taken_sum s t u w us bs us' bs' (inl k) e f = let a = ap total k.0 in let b = total-push us' t in let c = ap total k.1 in omega (arith, sums, a, b, c, e, f)
taken_sum s t u w us bs us' bs' (inr k) e f = let a = ap total k.0 in let b = total-push bs' t in let c = ap total k.1 in omega (arith, sums, a, b, c, e, f)

pub taken_fewer : (s t : ℤ) (us bs us' bs' : List ℤ) → TakesOne s us bs us' bs' t → length us' + length bs' < length us + length bs
taken_fewer s t us bs us' bs' (inl k) = let a = ap length k.0 in let b = push us' in let c = ap length k.1 in omega (arith, a, b, c)
  where
    push : (xs : List ℤ) → length (xs ++ (t ∷ [])) ≡ length xs + 1
    push [] = refl
    push (x ∷ xs) = let r = push xs in omega (arith, r)
taken_fewer s t us bs us' bs' (inr k) = let a = ap length k.0 in let b = push bs' in let c = ap length k.1 in omega (arith, a, b, c)
  where
    push : (xs : List ℤ) → length (xs ++ (t ∷ [])) ≡ length xs + 1
    push [] = refl
    push (x ∷ xs) = let r = push xs in omega (arith, r)

-- where the next sum is no value, the whole is none
pub taken_unfit : {h : ℤ} (fits : ℤ → Type 0) (s t w : ℤ) (us bs us' bs' : List ℤ) → HasRoom h fits → AreTerms fits us bs → TakesOne s us bs us' bs' t → fits s → s +ℤ (total us +ℤ total bs) ≡ w → ¬ fits (s +ℤ t) → ¬ fits w
taken_unfit fits s t w us bs us' bs' r h (inl k) fs e n fw =
    let q = last_each (λ a. pos 0 ≤ℤ a) us us' t k.0 h.nonneg in
    let f = (last_each fits us us' t k.0 h.above_fit).1 in
    let p = q.1 in
    elim (sign_cases s) [
      | inl z ↦ n (r.between s (s +ℤ t) t fs f (omega (arith, sums, z, p)) (omega (arith, sums, z)))
      | inr (inr l) ↦ n (r.between s (s +ℤ t) t fs f (omega (arith, sums, p)) (omega (arith, sums, l)))
      | inr (inl g) ↦ elim k.2 [
        | inl l ↦ absurd (omega (arith, sums, l, g))
        | inr b ↦ (let a = ap total k.0 in let c = total-push us' t in let d = ap total b in let o = total_nonneg us' q.0 in
            n (r.between s (s +ℤ t) w fs fw (omega (arith, sums, p)) (omega (arith, sums, a, c, d, o, e))))
      ]
    ]
taken_unfit fits s t w us bs us' bs' r h (inr k) fs e n fw =
    let q = last_each (λ a. a ≤ℤ pos 0) bs bs' t k.0 h.nonpos in
    let f = (last_each fits bs bs' t k.0 h.below_fit).1 in
    let p = q.1 in
    elim (sign_cases s) [
      | inl z ↦ n (r.between t (s +ℤ t) s f fs (omega (arith, sums, z)) (omega (arith, sums, z, p)))
      | inr (inl l) ↦ n (r.between t (s +ℤ t) s f fs (omega (arith, sums, l)) (omega (arith, sums, p)))
      | inr (inr g) ↦ elim k.2 [
        | inl l ↦ absurd (omega (arith, sums, l, g))
        | inr b ↦ (let a = ap total k.0 in let c = total-push bs' t in let d = ap total b in let o = total_nonpos bs' q.0 in
            n (r.between w (s +ℤ t) s fw fs (omega (arith, sums, a, c, d, o, e)) (omega (arith, sums, p))))
      ]
    ]

-- ---- as the code has them
pub not_below : (z : ℤ) → ¬ (z <ℤ pos 0) → pos 0 ≤ℤ z
not_below z n = elim (sign_cases z) [
  | inl e ↦ omega (arith, sums, e)
  | inr (inl g) ↦ omega (arith, sums, g)
  | inr (inr l) ↦ absurd (n l)
]

pub terms_none : (fits : ℤ → Type 0) (us bs : List ℤ) → us ≡ [] → bs ≡ [] → AreTerms fits us bs × (total us +ℤ total bs ≡ pos 0)
terms_none fits us bs e f = (
  record { nonneg = subst (Each (λ a. pos 0 ≤ℤ a)) (sym e) tt; nonpos = subst (Each (λ a. a ≤ℤ pos 0)) (sym f) tt; above_fit = subst (Each fits) (sym e) tt; below_fit = subst (Each fits) (sym f) tt },
  (let a = ap total e in let b = ap total f in omega (arith, sums, a, b)),
)

nil_of : {T : Type 0} (us : List T) → ¬ (0 < length us) → us ≡ []
nil_of [] h = refl
nil_of (x ∷ us) h = absurd (h (omega arith))

append-nil : {T : Type 0} (us : List T) → us ++ [] ≡ us
append-nil [] = refl
append-nil (x ∷ us) = ap (λ t. x ∷ t) (append-nil us)

-- one list is empty, and the other gives its last term or is empty too
pub below_left : {T : Type 0} (Z : T → ℤ) (s : ℤ) (us us' bs bs' : List T) (o : Option T) → ¬ (0 < length us) → us ≡ us' ++ [] → bs ≡ bs' ++ option_to_list o → (0 < length bs → IsSome o) → MatchOption o ((us ≡ []) × (bs ≡ [])) (λ t. TakesOne s (map Z us) (map Z bs) (map Z us') (map Z bs') (Z t))
below_left Z s us us' bs bs' None n e f h = (nil_of us n, nil_of bs (λ l. false≢true (h l)))
below_left Z s us us' bs bs' (Some t) n e f h = inr (ap (map Z) f ∙ map-push Z bs' t, ap (map Z) (e ∙ append-nil us'), inr (ap (map Z) (nil_of us n)))

pub above_left : {T : Type 0} (Z : T → ℤ) (s : ℤ) (us us' bs bs' : List T) (o : Option T) → ¬ (0 < length bs) → bs ≡ bs' ++ [] → us ≡ us' ++ option_to_list o → (0 < length us → IsSome o) → MatchOption o ((us ≡ []) × (bs ≡ [])) (λ t. TakesOne s (map Z us) (map Z bs) (map Z us') (map Z bs') (Z t))
above_left Z s us us' bs bs' None n e f h = (nil_of us (λ l. false≢true (h l)), nil_of bs n)
above_left Z s us us' bs bs' (Some t) n e f h = inl (ap (map Z) f ∙ map-push Z us' t, ap (map Z) (e ∙ append-nil bs'), inr (ap (map Z) (nil_of bs n)))
