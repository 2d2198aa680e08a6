-- A list of values is put into a set of such lists: what that is for the lists of their integers.
use Rattle.std.proofs.Common.{◌≡◌, inl, inr, Bool, true, false, ◌||◌, ◌&&◌, List, [], ◌∷◌, ◌++◌, map, ℤ, Contains, refl, sym, ap, ◌∙◌, subst, true≢false, if◌then◌else◌}
use Rattle.std.proofs.lemmas.Cmp.{int_ranked}
use Rattle.std.proofs.lemmas.List.{map-append}
use Rattle.std.specs.Ordering.{MatchOrdering, int_cmp, is_eq}
use Rattle.std.specs.Cmp.Lexicographic.{pointwise}
use Rattle.std.specs.List.{list_any}
use Rattle.std.specs.Prelude.{◌<ℤ◌}
use Rattle.std.specs.declared.cmp.Ordering.{Ordering}
use Rattle.std.specs.declared.cmp.Ordering.TheVariants.{Less, Equal, Greater}
use Rattle.indexmap.specs.IndexSet.{insert_key}
use Rattle.nz_spec.specs.Vectors.{Vector}
use Rattle.nz_spec.proofs.ListLaws.{contains_here, contains_there, contains_none, contains_cases}
use Rattle.nz_linear.proofs.VectorLaws.{cons_same}
use Rattle.nz_classes.specs.Steps.{IsPut}
use Rattle.nz_classes.proofs.SortLemmas.{equal_of}

equal_is : (x y : ℤ) (o : Ordering) → MatchOrdering o (x <ℤ y) (x ≡ y) (y <ℤ x) → is_eq o ≡ true → x ≡ y
equal_is x y Less m h = absurd (true≢false (sym h))
equal_is x y Equal m h = m
equal_is x y Greater m h = absurd (true≢false (sym h))

module _ {T : Type 0} (int : T → ℤ) (cmp : T → T → Ordering) (eq : T → T → Bool) (ordered : (a b : T) → cmp a b ≡ int_cmp (int a) (int b)) (matches : (a b : T) → eq a b ≡ is_eq (cmp a b)) where
  told : (a b : T) → eq a b ≡ true → int a ≡ int b
  told a b h = equal_is (int a) (int b) (cmp a b) (int_ranked (int a) (int b) (cmp a b) (ordered a b)) (sym (matches a b) ∙ h)

  tells : (a b : T) → int a ≡ int b → eq a b ≡ true
  tells a b h = matches a b ∙ ap is_eq (equal_of (int a) (int b) (cmp a b) (int_ranked (int a) (int b) (cmp a b) (ordered a b)) h)

  told_all : (us vs : List T) → pointwise eq us vs ≡ true → map int us ≡ map int vs
  told_all [] [] h = refl
  told_all [] (b ∷ vs) h = absurd (true≢false (sym h))
  told_all (a ∷ us) [] h = absurd (true≢false (sym h))
  told_all (a ∷ us) (b ∷ vs) h = split (eq a b) refl (λ k. told_all us vs k)
    where
      split : (t : Bool) → eq a b ≡ t → (pointwise eq us vs ≡ true → map int us ≡ map int vs) → map int (a ∷ us) ≡ map int (b ∷ vs)
      split true e rest = cons_same (told a b e) (rest (ap (λ c. c && pointwise eq us vs) (sym e) ∙ h))
      split false e rest = absurd (true≢false (sym h ∙ ap (λ c. c && pointwise eq us vs) e))

  tells_all : (us vs : List T) → map int us ≡ map int vs → pointwise eq us vs ≡ true
  tells_all [] [] h = refl
  tells_all [] (b ∷ vs) h = cc
  tells_all (a ∷ us) [] h = cc
  tells_all (a ∷ us) (b ∷ vs) h =
      let e : int a ≡ int b = cc in
      let f : map int us ≡ map int vs = cc in
      ap (λ c. c && pointwise eq us vs) (tells a b e) ∙ tells_all us vs f

  module _ {Key : Type 0} (items : Key → List T) (k : Key) where
    image : Key → Vector
    image q = map int (items q)

    same : Key → Bool
    same q = pointwise eq (items k) (items q)

    among : (ks : List Key) → list_any same ks ≡ true → Contains (map image ks) (image k)
    unfolding image same
    among [] h = absurd (true≢false (sym h))
    among (q ∷ ks) h = split (same q) refl (λ f. among ks f)
      where
        split : (t : Bool) → same q ≡ t → (list_any same ks ≡ true → Contains (map image ks) (image k)) → Contains (map image (q ∷ ks)) (image k)
        split true e rest = subst (Contains (map image (q ∷ ks))) (sym (told_all (items k) (items q) e)) (contains_here (image q) (map image ks))
        split false e rest = contains_there (image q) (image k) (map image ks) (rest (ap (λ c. c || list_any same ks) (sym e) ∙ h))

    not_among : (ks : List Key) → list_any same ks ≡ false → ¬ Contains (map image ks) (image k)
    unfolding image same
    not_among [] h c = contains_none (image k) c
    not_among (q ∷ ks) h c = split (same q) refl (λ f d. not_among ks f d)
      where
        split : (t : Bool) → same q ≡ t → (list_any same ks ≡ false → ¬ Contains (map image ks) (image k)) → ⊥
        split true e rest = true≢false (ap (λ b. b || list_any same ks) (sym e) ∙ h)
        split false e rest = elim (contains_cases (image q) (map image ks) (image k) c) [
          | inl f ↦ true≢false (sym (tells_all (items k) (items q) (sym f)) ∙ e)
          | inr d ↦ rest (ap (λ b. b || list_any same ks) (sym e) ∙ h) d
        ]

    pub put_key : (ks new : List Key) → new ≡ insert_key (λ p q. pointwise eq (items p) (items q)) ks k → IsPut (map (λ q. map int (items q)) ks) (map int (items k)) (map (λ q. map int (items q)) new)
    unfolding image same
    put_key ks new n = split (list_any same ks) refl
      where
        split : (t : Bool) → list_any same ks ≡ t → IsPut (map image ks) (image k) (map image new)
        split true e = inl (ap (map image) (n ∙ ap (λ c. if c then ks else ks ++ k ∷ []) e), among ks e)
        split false e = inr (ap (map image) (n ∙ ap (λ c. if c then ks else ks ++ k ∷ []) e) ∙ map-append image ks (k ∷ []), not_among ks e)
