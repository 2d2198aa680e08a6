-- After a step of placing the simplices do not overlap inside.
use Rattle.std.proofs.Common.{◌≡◌, ◌≢◌, ◌⊎◌, inl, inr, ℕ, List, [], ◌∷◌, ◌++◌, pos, ◌≤ℤ◌, sym, ◌∙◌, subst}
use Rattle.std.specs.List.{AllByRecursion as Each, AllZip, Contains}
use Rattle.nz_spec.specs.Vectors.{Vector, dot, HasWidth}
use Rattle.nz_spec.specs.Order.{Pairwise}
use Rattle.nz_spec.proofs.ListLaws.{contains_cases, contains_none, Each-contains}
use Rattle.nz_linear.specs.DualPairs.{Pair}
use Rattle.nz_linear.proofs.Lists.{each_append}
use Rattle.nz_cover.specs.Cells.{IsCell, IsOf, AreApart}
use Rattle.nz_cover.specs.Steps.{IsReplaced, Source, IsSource, IsPlacingStep}
use Rattle.nz_cover.proofs.Overlap.{old_new_apart, new_new_apart}

pub pairwise_append : {A : Type 0} (R : A → A → Type 0) (xs ys : List A) → Pairwise R xs → Pairwise R ys → Each (λ x. Each (R x) ys) xs → Pairwise R (xs ++ ys)
pairwise_append R [] ys p q c = q
pairwise_append R (x ∷ xs) ys p q c = (each_append (R x) xs ys p.0 c.0, pairwise_append R xs ys p.1 q c.1)

-- two of the list are the same, or stand in the relation
pub same_or_related : {A : Type 0} (R : A → A → Type 0) → ((a b : A) → R a b → R b a) → (xs : List A) (a b : A) → Pairwise R xs → Contains xs a → Contains xs b → (a ≡ b) ⊎ R a b
same_or_related R turn [] a b p ca cb = absurd (contains_none a ca)
same_or_related R turn (x ∷ xs) a b p ca cb = elim (contains_cases x xs a ca) [
  | inl e ↦ elim (contains_cases x xs b cb) [ inl f ↦ inl (sym e ∙ f) | inr k ↦ inr (subst (λ t. R t b) e (Each-contains (R x) xs b p.0 k)) ]
  | inr h ↦ elim (contains_cases x xs b cb) [ inl f ↦ inr (turn b a (subst (λ t. R t a) f (Each-contains (R x) xs a p.0 h))) | inr k ↦ same_or_related R turn xs a b p.1 h k ]
]

pub turned : (w : ℕ) (b c : List Pair) → AreApart w b c → AreApart w c b
turned w b c h = λ x l i j. h x l j i

same_source : (s t : Source) → s.facet ≡ t.facet → s.cell ≡ t.cell → s ≡ t
same_source s t e f = λ i. record { facet = e i; cell = f i }

module _ (w : ℕ) (vs facets : List Vector) (v : Vector) (cells : List (List Pair)) (lvs : Each (HasWidth w) vs) (lv : HasWidth w v) (facets_nonneg : Each (λ f. Each (λ u. pos 0 ≤ℤ dot f u) vs) facets)
    (are_cells : Each (IsCell w) cells) (of_list : Each (IsOf vs) cells) (apart : Pairwise (AreApart w) cells) where
  two_apart : (s t : Source) (d e : List Pair) → s ≢ t → IsSource v facets cells s → IsSource v facets cells t → IsReplaced s.facet v s.cell d → IsReplaced t.facet v t.cell e → AreApart w d e
  two_apart s t d e ne is it r q =
      new_new_apart w vs s.facet t.facet v s.cell t.cell d e lvs lv
      (Each-contains (IsCell w) cells s.cell are_cells is.has_cell) (Each-contains (IsOf vs) cells s.cell of_list is.has_cell)
      (Each-contains (IsCell w) cells t.cell are_cells it.has_cell) (Each-contains (IsOf vs) cells t.cell of_list it.has_cell)
      (Each-contains (λ f. Each (λ u. pos 0 ≤ℤ dot f u) vs) facets s.facet facets_nonneg is.has_facet) (Each-contains (λ f. Each (λ u. pos 0 ≤ℤ dot f u) vs) facets t.facet facets_nonneg it.has_facet)
      is.seen it.seen r q
      (λ f. elim (same_or_related (AreApart w) (turned w) cells s.cell t.cell apart is.has_cell it.has_cell) [ inl c ↦ absurd (ne (same_source s t f c)) | inr a ↦ a ])

  one_apart : (s : Source) (d : List Pair) (ss : List Source) (ds : List (List Pair)) → IsSource v facets cells s → IsReplaced s.facet v s.cell d → Each (λ t. s ≢ t) ss → Each (IsSource v facets cells) ss → AllZip (λ (t : Source) e. IsReplaced t.facet v t.cell e) ss ds → Each (AreApart w d) ds
  one_apart s d [] [] i r ne is z = tt
  one_apart s d [] (e ∷ ds) i r ne is z = absurd z
  one_apart s d (t ∷ ss) [] i r ne is z = tt
  one_apart s d (t ∷ ss) (e ∷ ds) i r ne is z = (two_apart s t d e ne.0 i is.0 r z.0, one_apart s d ss ds i r ne.1 is.1 z.1)

  added_apart : (ss : List Source) (ds : List (List Pair)) → Pairwise ◌≢◌ ss → Each (IsSource v facets cells) ss → AllZip (λ (t : Source) e. IsReplaced t.facet v t.cell e) ss ds → Pairwise (AreApart w) ds
  added_apart [] [] ne is z = tt
  added_apart [] (e ∷ ds) ne is z = absurd z
  added_apart (t ∷ ss) [] ne is z = tt
  added_apart (t ∷ ss) (e ∷ ds) ne is z = (one_apart t e ss ds is.0 z.0 ne.0 is.1 z.1, added_apart ss ds ne.1 is.1 z.1)

  old_apart : (b : List Pair) → IsCell w b → IsOf vs b → (ss : List Source) (ds : List (List Pair)) → Each (IsSource v facets cells) ss → AllZip (λ (t : Source) e. IsReplaced t.facet v t.cell e) ss ds → Each (AreApart w b) ds
  old_apart b k o [] [] is z = tt
  old_apart b k o [] (e ∷ ds) is z = absurd z
  old_apart b k o (t ∷ ss) [] is z = tt
  old_apart b k o (t ∷ ss) (e ∷ ds) is z = (
    old_new_apart w vs t.facet v b t.cell e lvs lv k o (Each-contains (IsCell w) cells t.cell are_cells is.0.has_cell) (Each-contains (λ f. Each (λ u. pos 0 ≤ℤ dot f u) vs) facets t.facet facets_nonneg is.0.has_facet) z.0,
    old_apart b k o ss ds is.1 z.1,
  )

  all_old_apart : (bs : List (List Pair)) → Each (IsCell w) bs → Each (IsOf vs) bs → (ss : List Source) (ds : List (List Pair)) → Each (IsSource v facets cells) ss → AllZip (λ (t : Source) e. IsReplaced t.facet v t.cell e) ss ds → Each (λ b. Each (AreApart w b) ds) bs
  all_old_apart [] k o ss ds is z = tt
  all_old_apart (b ∷ bs) k o ss ds is z = (old_apart b k.0 o.0 ss ds is z, all_old_apart bs k.1 o.1 ss ds is z)

  pub step_apart : (new : List (List Pair)) → IsPlacingStep v facets cells new → Pairwise (AreApart w) new
  step_apart new s = subst (Pairwise (AreApart w)) (sym s.whole)
      (pairwise_append (AreApart w) cells s.added apart (added_apart s.are_added.sources s.added s.are_added.lists.in_order s.are_added.lists.only s.are_added.replaced) (all_old_apart cells are_cells of_list s.are_added.sources s.added s.are_added.lists.only s.are_added.replaced))
