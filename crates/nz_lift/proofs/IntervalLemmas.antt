-- The ends after all forms.
use Rattle.std.proofs.Common.{◌≡◌, ◌↔◌, ⊎_elim, ℕ, ◌+◌, ◌<◌, ◌≤◌, List, [], ◌∷◌, ◌++◌, length, get_or, take, ℤ, pos, ◌≤ℤ◌, ◌<ℤ◌, Contains, Some, refl, sym, ap, ◌∙◌, subst, arith, take_all}
use Rattle.std.specs.Prelude.{unsigned_abs, Option}
use Rattle.std.proofs.lemmas.Int.{ints}
use Rattle.std.proofs.lemmas.List.{take_more}
use Rattle.std.proofs.lemmas.List.Elements.{Contains-append_left, Contains-append_right}
use Rattle.nz_spec.specs.Vectors.{Vector, dot, level_of}
use Rattle.nz_spec.proofs.ListLaws.{contains_here, contains_at}
use Rattle.nz_linear.proofs.Lists.{each_append, each_left, each_right}
use Rattle.nz_range.specs.Measures.{pair_measure, SomeLargeAt}
use Rattle.nz_range.proofs.Fits.{value_size}
use Rattle.nz_lift.specs.Ends.{Ends, IsFrom, IsUpTo, IsNarrowed, Allows, HasValueOfSize, AreEndsAt, IsIntervalAt}

-- ---- one form more
module _ (forms : List Vector) (f x : Vector) where
  later : (n : ℤ) → HasValueOfSize forms x n → HasValueOfSize (forms ++ f ∷ []) x n
  later n s = record { form = s.form; has = Contains-append_left forms (f ∷ []) s.form s.has; size = s.size }

  here : (n : ℤ) → unsigned_abs n ≤ unsigned_abs (dot f x) → HasValueOfSize (forms ++ f ∷ []) x n
  here n l = record { form = f; has = Contains-append_right forms (f ∷ []) f (contains_here f []); size = l }

  pub ends_next : (e n : Ends) → AreEndsAt forms x e → IsNarrowed e (dot f x) (level_of f) n → AreEndsAt (forms ++ f ∷ []) x n
  ends_next e n a i = record {
    numbers = λ t.
        let P : Vector → Type 0 = λ g. Allows g x t in
        let s = i.numbers t in
        let r = a.numbers t in (
          (λ h. let k = s.0 h in each_append P forms (f ∷ []) (r.0 k.0) (k.1, tt)),
          (λ h. s.1 (r.1 (each_left P forms (f ∷ []) h), (each_right P forms (f ∷ []) h).0)),
        );
    no_least = λ m. let k = i.no_least m in each_append (λ g. level_of g ≤ℤ pos 0) forms (f ∷ []) (a.no_least k.0) (k.1, tt);
    no_greatest = λ m. let k = i.no_greatest m in each_append (λ g. pos 0 ≤ℤ level_of g) forms (f ∷ []) (a.no_greatest k.0) (k.1, tt);
    least_size = λ l m. ⊎_elim (λ k. later l (a.least_size l k)) (λ k. here l k) (i.least_size l m);
    greatest_size = λ l m. ⊎_elim (λ k. later l (a.greatest_size l k)) (λ k. here l k) (i.greatest_size l m);
  }

pub ends_at_place : (forms : List Vector) (k : ℕ) (f x : Vector) (a b : ℤ) (e n : Ends) → k < length forms → f ≡ get_or forms k [] → a ≡ dot f x → b ≡ level_of f → AreEndsAt (take k forms) x e → IsNarrowed e a b n → AreEndsAt (take (k + 1) forms) x n
ends_at_place forms k f x a b e n within is value last ends i =
    let j : IsNarrowed e (dot f x) (level_of f) n = subst (λ (v : ℤ). IsNarrowed e v (level_of f) n) value (subst (λ (v : ℤ). IsNarrowed e a v n) last i) in
    let whole : take (k + 1) forms ≡ take k forms ++ f ∷ [] = take_more forms k [] within ∙ ap (λ g. take k forms ++ g ∷ []) (sym is) in
    subst (λ (fs : List Vector). AreEndsAt fs x n) (sym whole) (ends_next (take k forms) f x e n ends j)

-- ---- all forms
pub interval_of : (forms : List Vector) (k : ℕ) (x : Vector) (e : Ends) (low high : ℤ) → length forms ≤ k → e.least ≡ Some low → e.greatest ≡ Some high → AreEndsAt (take k forms) x e → IsIntervalAt forms x low high
interval_of forms k x e low high all le ge a =
    let b : AreEndsAt forms x e = subst (λ (fs : List Vector). AreEndsAt fs x e) (take_all k forms all) a in
    let from_low = λ (t : ℤ). subst (λ (o : Option ℤ). IsFrom o t ↔ (low ≤ℤ t)) (sym le) ((λ h. h), (λ h. h)) in
    let to_high = λ (t : ℤ). subst (λ (o : Option ℤ). IsUpTo o t ↔ (t ≤ℤ high)) (sym ge) ((λ h. h), (λ h. h)) in
    record {
      numbers = λ t. let n = b.numbers t in ((λ h. n.0 ((from_low t).1 h.0, (to_high t).1 h.1)), (λ h. let i = n.1 h in ((from_low t).0 i.0, (to_high t).0 i.1)));
      low_size = b.least_size low le;
      high_size = b.greatest_size high ge;
    }

-- ---- causes
pub form_large : (h : ℤ) (forms : List Vector) (k : ℕ) (f x : Vector) → k < length forms → f ≡ get_or forms k [] → h <ℤ pos (pair_measure f x) → SomeLargeAt h (Contains forms) (λ v. v ≡ x)
form_large h forms k f x within is l = record { form = f; vector = x; is_form = subst (Contains forms) (sym is) (contains_at forms k [] within); named = refl; large = l }

pub value_large : (h : ℤ) (forms : List Vector) (k : ℕ) (f x : Vector) (a : ℤ) → k < length forms → f ≡ get_or forms k [] → a ≡ dot f x → h <ℤ pos (unsigned_abs a) → SomeLargeAt h (Contains forms) (λ v. v ≡ x)
value_large h forms k f x a within is e l = let s = value_size f x in form_large h forms k f x within is (omega (arith, ints, e, l, s))

-- an end that is large
pub end_large : (h : ℤ) (forms : List Vector) (x : Vector) (n : ℤ) → HasValueOfSize forms x n → h <ℤ pos (unsigned_abs n) → SomeLargeAt h (Contains forms) (λ v. v ≡ x)
end_large h forms x n s l =
    let v = value_size s.form x in
    let k = s.size in
    record { form = s.form; vector = x; is_form = s.has; named = refl; large = omega (arith, ints, l, v, k) }
