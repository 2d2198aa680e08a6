-- The lists with a number more after each vector, as the list of the next shadow.
use Rattle.std.proofs.Common.{◌≡◌, ◌≢◌, inl, inr, ⊎_elim, ℕ, zero, suc, ◌+◌, ◌<◌, ◌≤◌, List, [], ◌∷◌, ◌++◌, length, get_or, take, ℤ, pos, ◌+ℤ◌, ◌*ℤ◌, ◌≤ℤ◌, ◌<ℤ◌, Contains, refl, sym, ap, ◌∙◌, subst, arith, take_all}
use Rattle.std.specs.Prelude.{Result, Ok, Err, MatchResult}
use Rattle.std.specs.List.{AllByRecursion as Each, AllZip}
use Rattle.std.proofs.lemmas.Int.{ints}
use Rattle.std.proofs.lemmas.List.{take_more, length-append, length-map, append_assoc}
use Rattle.nz_spec.specs.Vectors.{Vector, dot, level_of, HasWidth}
use Rattle.nz_spec.specs.Order.{Pairwise, IsListOf, IsLexBefore, MoreThan}
use Rattle.nz_spec.proofs.ListLaws.{contains_at, zip_push}
use Rattle.nz_linear.proofs.Lists.{each_map, each_map2, each_map3, each_all, each_append, each_of_map, zip_first, zip_change}
use Rattle.nz_linear.proofs.Signs.{sign_cases}
use Rattle.nz_pointed.proofs.ListLemmas.{each_take}
use Rattle.std.proofs.Math.IntN.{*ℤ-zero}
use Rattle.nz_order.proofs.OrderLaws.{lex_irreflexive}
use Rattle.nz_order.proofs.SortLaws.{IsListOf-where, Pairwise-append}
use Rattle.nz_range.specs.Measures.{SomeLargeAt}
use Rattle.nz_vec.specs.declared.answers.Work.{Work}
use Rattle.nz_vec.specs.declared.answers.Work.TheVariants.{Range, TooMany, Stopped, NoMemory}
use Rattle.nz_further.specs.Shadows.{IsInShadow}
use Rattle.nz_further.proofs.ShadowLaws.{joined, lifted_list, value_with_last}
use Rattle.nz_lift.specs.Ends.{Allows, IsIntervalAt}
use Rattle.nz_lift.specs.LastEntries.{IsBetween, MayFollow, followed, IsFollowed, IsIntervalRefusal, IsFollowRefusal}
use Rattle.nz_lift.specs.ShadowForms.{AreShadow, AreShadowForms, LiftsTo, IsShadowRefusal}
use Rattle.nz_lift.proofs.IntervalLemmas.{end_large}

-- ---- one vector
module _ (h : ℤ) (limit : ℕ) (forms : List Vector) (c x : Vector) (low high : ℤ) (is : x ≡ pos 1 ∷ c ++ pos 0 ∷ []) (i : IsIntervalAt forms x low high) where
  forth : (t : ℤ) → IsBetween low high t → MayFollow forms c t
  forth t b = subst (λ (v : Vector). Each (λ f. Allows f v t) forms) is ((i.numbers t).0 b)

  back : (t : ℤ) → MayFollow forms c t → IsBetween low high t
  back t m = (i.numbers t).1 (subst (λ (v : Vector). Each (λ f. Allows f v t) forms) (sym is) m)

  large : (n : ℤ) → SomeLargeAt h (Contains forms) (λ v. v ≡ x) → SomeLargeAt h (Contains forms) (λ v. v ≡ pos 1 ∷ c ++ pos 0 ∷ [])
  large n s = record { form = s.form; vector = s.vector; is_form = s.is_form; named = s.named ∙ is; large = s.large }

  refused : (before : List Vector) (e : Work) → IsIntervalRefusal h limit low high before e → IsFollowRefusal h limit forms c before e
  refused before (Range told) r = (r.0, ⊎_elim (λ l. large low (end_large h forms x low i.low_size l)) (λ l. large high (end_large h forms x high i.high_size l)) r.1)
  refused before TooMany r = record { numbers = r.numbers; in_order = r.in_order; only = each_map (IsBetween low high) (MayFollow forms c) r.numbers forth r.only; more = r.more }
  refused before (Stopped stage) r = r
  refused before NoMemory r = tt

  pub follows : {A : Type 0} (rows : A → List Vector) (before : List Vector) (r : Result A Work) → MatchResult r (λ l. IsFollowed limit (IsBetween low high) c before (rows l)) (IsIntervalRefusal h limit low high before) → MatchResult r (λ l. IsFollowed limit (MayFollow forms c) c before (rows l)) (IsFollowRefusal h limit forms c before)
  follows rows before (Ok l) f = record { numbers = f.numbers; are = IsListOf-where ◌<ℤ◌ (IsBetween low high) (MayFollow forms c) forth back f.numbers f.are; whole = f.whole; within = f.within }
  follows rows before (Err e) f = refused before e f

-- ---- lists
joined_push : (P : Vector → List ℤ → Type 0) (cs : List Vector) (tss : List (List ℤ)) (c : Vector) (ts : List ℤ) → AllZip P cs tss → joined (cs ++ c ∷ []) (tss ++ ts ∷ []) ≡ joined cs tss ++ followed c ts
joined_push P [] [] c ts z = none (followed c ts)
  where
    none : (xs : List Vector) → xs ++ [] ≡ xs
    none [] = refl
    none (x ∷ xs) = ap (λ ys. x ∷ ys) (none xs)
joined_push P [] (us ∷ tss) c ts z = absurd z
joined_push P (d ∷ cs) [] c ts z = absurd z
joined_push P (d ∷ cs) (us ∷ tss) c ts z = ap (λ xs. followed d us ++ xs) (joined_push P cs tss c ts z.1) ∙ sym (append_assoc (followed d us) (joined cs tss) (followed c ts))

pairwise_take : (R : Vector → Vector → Type 0) (n : ℕ) (xs : List Vector) → Pairwise R xs → Pairwise R (take n xs)
pairwise_take R zero xs p = tt
pairwise_take R (suc n) [] p = tt
pairwise_take R (suc n) (x ∷ xs) p = (each_take (R x) xs n p.0, pairwise_take R n xs p.1)

-- some numbers that may follow c, increasing
record AreSome (forms : List Vector) (c : Vector) (ts : List ℤ) : Type 0 where
  in_order : Pairwise ◌<ℤ◌ ts
  only : Each (MayFollow forms c) ts

same_last : (c e : Vector) (s t : ℤ) → length c ≡ length e → c ++ s ∷ [] ≡ e ++ t ∷ [] → (c ≡ e) × (s ≡ t)
same_last [] [] s t l h = (refl, (let k : s ≡ t = cc in k))
same_last [] (b ∷ e) s t l h = absurd (let f : ⊥ = omega (arith, l) in f)
same_last (a ∷ c) [] s t l h = absurd (let f : ⊥ = omega (arith, l) in f)
same_last (a ∷ c) (b ∷ e) s t l h =
    let f : a ≡ b = cc in
    let r : c ++ s ∷ [] ≡ e ++ t ∷ [] = cc in
    let k = same_last c e s t (omega (arith, l)) r in
    (ap (λ v. v ∷ c) f ∙ ap (λ v. b ∷ v) k.0, k.1)

block_different : (c : Vector) (ts : List ℤ) → Pairwise ◌<ℤ◌ ts → Pairwise ◌≢◌ (followed c ts)
block_different c [] p = tt
block_different c (t ∷ ts) p = (each_of_map (λ u. c ++ u ∷ []) (λ v. c ++ t ∷ [] ≢ v) ts (each_map (◌<ℤ◌ t) (λ u. c ++ t ∷ [] ≢ c ++ u ∷ []) ts (λ u l e. let k = (same_last c c t u refl e).1 in omega (arith, ints, l, k)) p.0), block_different c ts p.1)

other_front : (j : ℕ) (c : Vector) (s : ℤ) (cs : List Vector) (tss : List (List ℤ)) → length c ≡ j → Each (λ e. length e ≡ j) cs → Each (IsLexBefore c) cs → Each (λ v. c ++ s ∷ [] ≢ v) (joined cs tss)
other_front j c s [] tss l k b = tt
other_front j c s (e ∷ cs) [] l k b = tt
other_front j c s (e ∷ cs) (ts ∷ tss) l k b =
    each_append (λ v. c ++ s ∷ [] ≢ v) (followed e ts) (joined cs tss)
    (each_of_map (λ t. e ++ t ∷ []) (λ v. c ++ s ∷ [] ≢ v) ts (each_all (λ t. c ++ s ∷ [] ≢ e ++ t ∷ []) ts (λ t h. lex_irreflexive c (subst (IsLexBefore c) (sym (same_last c e s t (l ∙ sym k.0) h).0) b.0))))
    (other_front j c s cs tss l k.1 b.1)

joined_different : (forms : List Vector) (j : ℕ) (cs : List Vector) (tss : List (List ℤ)) → Each (λ e. length e ≡ j) cs → Pairwise IsLexBefore cs → AllZip (AreSome forms) cs tss → Pairwise ◌≢◌ (joined cs tss)
joined_different forms j [] tss l p z = tt
joined_different forms j (c ∷ cs) [] l p z = tt
joined_different forms j (c ∷ cs) (ts ∷ tss) l p z =
    Pairwise-append ◌≢◌ (followed c ts) (joined cs tss) (block_different c ts z.0.in_order) (joined_different forms j cs tss l.1 p.1 z.1)
    (each_of_map (λ t. c ++ t ∷ []) (λ x. Each (λ v. x ≢ v) (joined cs tss)) ts (each_all (λ t. Each (λ v. c ++ t ∷ [] ≢ v) (joined cs tss)) ts (λ t. other_front j c t cs tss l.0 l.1 p.0)))

-- ---- the next shadow
module _ (w : ℕ) (rows : List Vector) (level : Vector) (j : ℕ) (forms : List Vector) (s : AreShadowForms w rows level j forms) where
  with_last : (c : Vector) (t : ℤ) → length c ≡ j → (f : Vector) → HasWidth (suc (suc j)) f → dot f (pos 1 ∷ c ++ t ∷ []) ≡ dot f (pos 1 ∷ c ++ pos 0 ∷ []) +ℤ t *ℤ level_of f
  with_last c t l f lf = value_with_last f (pos 1 ∷ c) t (omega (arith, lf, l))

  long : (c : Vector) (t : ℤ) → length c ≡ j → length (c ++ t ∷ []) ≡ suc j
  long c t l = let a = length-append c (t ∷ []) in omega (arith, a, l)

  may_follow : (c : Vector) (t : ℤ) → IsInShadow w rows level j c → IsInShadow w rows level (suc j) (c ++ t ∷ []) → MayFollow forms c t
  may_follow c t i n =
      each_map2 (HasWidth (suc (suc j))) (λ f. pos 0 ≤ℤ dot f (pos 1 ∷ c ++ t ∷ [])) (λ f. Allows f (pos 1 ∷ c ++ pos 0 ∷ []) t) forms
      (λ f lf h z. subst (λ v. pos 0 ≤ℤ v) (with_last c t i.size f lf) h)
      s.bounding.widths ((s.meet (c ++ t ∷ []) (long c t i.size)).0 n)

  follows_in : (c : Vector) (t : ℤ) → IsInShadow w rows level j c → MayFollow forms c t → IsInShadow w rows level (suc j) (c ++ t ∷ [])
  follows_in c t i m =
      (s.meet (c ++ t ∷ []) (long c t i.size)).1
      (each_map3 (HasWidth (suc (suc j))) (λ f. level_of f ≡ pos 0 → pos 0 ≤ℤ dot f (pos 1 ∷ c ++ pos 0 ∷ [])) (λ f. Allows f (pos 1 ∷ c ++ pos 0 ∷ []) t) (λ f. pos 0 ≤ℤ dot f (pos 1 ∷ c ++ t ∷ [])) forms
      (λ f lf o a. subst (λ v. pos 0 ≤ℤ v) (sym (with_last c t i.size f lf)) (elim (sign_cases (level_of f)) [
        | inl z ↦ (let k = o z in let e : t *ℤ level_of f ≡ pos 0 = ap (λ v. t *ℤ v) z ∙ *ℤ-zero t in omega (arith, ints, k, e))
        | inr n ↦ a (λ z. elim n [ inl p ↦ omega (arith, ints, p, z) | inr q ↦ omega (arith, ints, q, z) ])
      ]))
      s.bounding.widths (s.over c i) m)

  joined_in : (cs : List Vector) (tss : List (List ℤ)) → Each (IsInShadow w rows level j) cs → AllZip (AreSome forms) cs tss → Each (IsInShadow w rows level (suc j)) (joined cs tss)
  joined_in [] tss i z = tt
  joined_in (c ∷ cs) [] i z = tt
  joined_in (c ∷ cs) (ts ∷ tss) i z =
      each_append (IsInShadow w rows level (suc j)) (followed c ts) (joined cs tss)
      (each_of_map (λ t. c ++ t ∷ []) (IsInShadow w rows level (suc j)) ts (each_map (MayFollow forms c) (λ t. IsInShadow w rows level (suc j) (c ++ t ∷ [])) ts (λ t m. follows_in c t i.0 m) z.0.only))
      (joined_in cs tss i.1 z.1)

  all_joined : (cs : List Vector) (tss : List (List ℤ)) → AreShadow w rows level j cs → AllZip (λ c ts. IsListOf ◌<ℤ◌ (MayFollow forms c) ts) cs tss → AreShadow w rows level (suc j) (joined cs tss)
  all_joined cs tss a z =
      lifted_list w rows level j cs tss a
      (zip_change (λ c ts. IsListOf ◌<ℤ◌ (MayFollow forms c) ts × IsInShadow w rows level j c) (λ c ts. IsListOf ◌<ℤ◌ (λ t. IsInShadow w rows level (suc j) (c ++ t ∷ [])) ts) cs tss
      (λ c ts h. IsListOf-where ◌<ℤ◌ (MayFollow forms c) (λ t. IsInShadow w rows level (suc j) (c ++ t ∷ [])) (λ t m. follows_in c t h.1 m) (λ t n. may_follow c t h.1 n) ts h.0)
      (zip_first (λ c ts. IsListOf ◌<ℤ◌ (MayFollow forms c) ts) (IsInShadow w rows level j) cs tss z a.only))

  more_joined : (limit k : ℕ) (cs : List Vector) (tss : List (List ℤ)) → AreShadow w rows level j cs → AllZip (AreSome forms) (take k cs) tss → limit < length (joined (take k cs) tss) → MoreThan limit (IsInShadow w rows level (suc j))
  more_joined limit k cs tss a z l =
      let only = each_take (IsInShadow w rows level j) cs k a.only in record {
        witnesses = joined (take k cs) tss;
        different = joined_different forms j (take k cs) tss (each_map (IsInShadow w rows level j) (λ e. length e ≡ j) (take k cs) (λ e i. i.size) only) (pairwise_take IsLexBefore k cs a.in_order) z;
        only = joined_in (take k cs) tss only z;
        more = l;
      }

-- ---- some vectors of the list, and then all
pub record IsLiftedPart (limit : ℕ) (forms points : List Vector) (place : ℕ) (list : List Vector) : Type 0 where
  pub numbers : List (List ℤ)
  pub are : AllZip (λ c ts. IsListOf ◌<ℤ◌ (MayFollow forms c) ts) (take place points) numbers
  pub whole : list ≡ joined (take place points) numbers
  pub within : length list ≤ limit

pub lifted_start : (limit : ℕ) (forms points list : List Vector) → list ≡ [] → IsLiftedPart limit forms points 0 list
lifted_start limit forms points list e = record { numbers = []; are = tt; whole = e; within = let n = ap length e in omega (arith, n) }

module _ (limit : ℕ) (forms points : List Vector) (place : ℕ) (list : List Vector) (p : IsLiftedPart limit forms points place list) (c : Vector) (within : place < length points) (is : c ≡ get_or points place []) where
  one_more : take (place + 1) points ≡ take place points ++ c ∷ []
  one_more = take_more points place [] within ∙ ap (λ d. take place points ++ d ∷ []) (sym is)

  pub lifted_next : (new : List Vector) → IsFollowed limit (MayFollow forms c) c list new → IsLiftedPart limit forms points (place + 1) new
  lifted_next new f =
      let All : Vector → List ℤ → Type 0 = λ d ts. IsListOf ◌<ℤ◌ (MayFollow forms d) ts in
      record {
        numbers = p.numbers ++ f.numbers ∷ [];
        are = subst (λ (cs : List Vector). AllZip All cs (p.numbers ++ f.numbers ∷ [])) (sym one_more) (zip_push All (take place points) p.numbers c f.numbers p.are f.are);
        whole = f.whole ∙ ap (λ xs. xs ++ followed c f.numbers) p.whole ∙ sym (joined_push All (take place points) p.numbers c f.numbers p.are) ∙ ap (λ cs. joined cs (p.numbers ++ f.numbers ∷ [])) (sym one_more);
        within = f.within;
      }

  pub lifted_refused : (h : ℤ) (e : Work) → IsFollowRefusal h limit forms c list e → IsShadowRefusal h limit forms points e
  lifted_refused h (Range told) r =
      let k = r.1 in
      (r.0, record { form = k.form; vector = k.vector; is_form = k.is_form; named = record { point = c; has = subst (Contains points) (sym is) (contains_at points place [] within); same = k.named }; large = k.large })
  lifted_refused h TooMany r = λ w j rows level s a.
      let All : Vector → List ℤ → Type 0 = λ d ts. IsListOf ◌<ℤ◌ (MayFollow forms d) ts in
      let tss = p.numbers ++ r.numbers ∷ [] in
      let some : AllZip (AreSome forms) (take place points) p.numbers = zip_change All (AreSome forms) (take place points) p.numbers (λ d ts h. record { in_order = h.in_order; only = h.only }) p.are in
      let z : AllZip (AreSome forms) (take (place + 1) points) tss = subst (λ (cs : List Vector). AllZip (AreSome forms) cs tss) (sym one_more) (zip_push (AreSome forms) (take place points) p.numbers c r.numbers some (record { in_order = r.in_order; only = r.only })) in
      let size : joined (take (place + 1) points) tss ≡ list ++ followed c r.numbers = ap (λ cs. joined cs tss) one_more ∙ joined_push All (take place points) p.numbers c r.numbers p.are ∙ ap (λ xs. xs ++ followed c r.numbers) (sym p.whole) in
      let n = ap length size in
      let m = length-append list (followed c r.numbers) in
      let k = length-map r.numbers (λ t. c ++ t ∷ []) in
      let more = r.more in
      more_joined w rows level j forms s limit (place + 1) points tss a z (omega (arith, n, m, k, more))
  lifted_refused h (Stopped stage) r = r
  lifted_refused h NoMemory r = tt

pub lifted_whole : (limit : ℕ) (forms points : List Vector) (place : ℕ) (list : List Vector) → length points ≤ place → IsLiftedPart limit forms points place list → LiftsTo forms points list
lifted_whole limit forms points place list all p w j rows level s a =
    let e = take_all place points all in
    subst (AreShadow w rows level (suc j)) (sym (p.whole ∙ ap (λ cs. joined cs p.numbers) e))
    (all_joined w rows level j forms s points p.numbers a (subst (λ (cs : List Vector). AllZip (λ c ts. IsListOf ◌<ℤ◌ (MayFollow forms c) ts) cs p.numbers) e p.are))
