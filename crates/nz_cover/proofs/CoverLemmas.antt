-- All rays placed: the simplices in order are a good cover of their cone, with the dual forms of each.
use Rattle.std.proofs.Common.{◌≡◌, ◌≢◌, ℕ, ◌<◌, List, [], ◌∷◌, length, map, get_or, refl, sym, ap, ◌∙◌, subst, arith}
use Rattle.std.specs.List.{AllByRecursion as Each, AllZip, Contains}
use Rattle.std.proofs.lemmas.List.{length-map}
use Rattle.std.proofs.lemmas.List.Sorted.{Contains-permutation, IsPermutation-sym}
use Rattle.nz_spec.specs.Vectors.{Vector, IsZero}
use Rattle.nz_spec.specs.Sums.{IsInside}
use Rattle.nz_spec.specs.Order.{Pairwise, IsLexLess}
use Rattle.nz_spec.specs.Forms.{AreDualForms}
use Rattle.nz_spec.specs.Covers.{vectors_at, IsGoodCover}
use Rattle.nz_spec.proofs.ListLaws.{contains_none, Each-contains, Each-from_contains}
use Rattle.nz_linear.specs.DualPairs.{Pair}
use Rattle.nz_linear.proofs.Lists.{each_map, map_each}
use Rattle.nz_linear.proofs.Dependence.{complete_length}
use Rattle.nz_rays.specs.Descriptions.{RowsAndRays}
use Rattle.nz_rays.proofs.RayLemmas.{each_by_place}
use Rattle.nz_cover.specs.Cells.{IsCell, AreApart, AreCells}
use Rattle.nz_cover.specs.Corners.{Vertex, places_of, forms_of, pairs_of, cells_of}
use Rattle.nz_cover.specs.Listing.{AreDistinct, AreListed}
use Rattle.nz_cover.specs.Placed.{ArePlaced, ArePlacedUpTo}
use Rattle.nz_cover.specs.Placing.{ArePlaceable, IsInConeOf, IsPlaced}
use Rattle.nz_cover.proofs.CellLaws.{vectors_of, cell_inside}
use Rattle.nz_cover.proofs.GoodCover.{cells_of_members, pairs_vectors, pairwise_back, mapped_has, good_cover, dual_forms}
use Rattle.nz_cover.proofs.FacetLaws.{taken_from, placed_widths}
use Rattle.nz_cover.proofs.PlacedLemmas.{inside_of}

-- ---- simplices of a cover stand at different places
same_places : (w : ℕ) (rays : List Vector) (c d : List Vertex) → IsCell w (pairs_of rays c) → IsCell w (pairs_of rays d) → AreApart w (pairs_of rays c) (pairs_of rays d) → places_of c ≢ places_of d
same_places w rays c d kc kd a e =
    let y = inside_of w (pairs_of rays c) kc in
    let vectors : vectors_of (pairs_of rays c) ≡ vectors_of (pairs_of rays d) = pairs_vectors rays c ∙ ap (vectors_at rays) e ∙ sym (pairs_vectors rays d) in
    let i : IsInside w (vectors_of (pairs_of rays d)) y.vector = subst (λ (vs : List Vector). IsInside w vs y.vector) vectors ((cell_inside w (pairs_of rays c) y.vector kc y.width).1 y.within) in
    a y.vector y.width y.within ((cell_inside w (pairs_of rays d) y.vector kd y.width).0 i)

different_after : (w : ℕ) (rays : List Vector) (c : List Vertex) (cells : List (List Vertex)) → IsCell w (pairs_of rays c) → Each (λ d. IsCell w (pairs_of rays d)) cells → Each (λ d. AreApart w (pairs_of rays c) (pairs_of rays d)) cells → Each (λ d. places_of c ≢ places_of d) cells
different_after w rays c [] k ks a = tt
different_after w rays c (d ∷ cells) k ks a = (same_places w rays c d k ks.0 a.0, different_after w rays c cells k ks.1 a.1)

different_places : (w : ℕ) (rays : List Vector) (cells : List (List Vertex)) → Each (λ d. IsCell w (pairs_of rays d)) cells → Pairwise (λ c d. AreApart w (pairs_of rays c) (pairs_of rays d)) cells → Pairwise (λ c d. places_of c ≢ places_of d) cells
different_places w rays [] k a = tt
different_places w rays (c ∷ cells) k a = (different_after w rays c cells k.0 k.1 a.0, different_places w rays cells k.1 a.1)

pub placed_distinct : (w : ℕ) (rays : List Vector) (placed : List ℕ) (cells : List (List Vertex)) (d : RowsAndRays) → ArePlaced w rays placed cells d → AreDistinct cells
placed_distinct w rays placed cells d a =
    let each = map_each (pairs_of rays) (IsCell w) cells a.cover.each in
    record {
      size = w;
      sizes = each_map (λ c. IsCell w (pairs_of rays c)) (λ c. length c ≡ w) cells (λ c k. sym (length-map c (λ (u : Vertex). pair_at u)) ∙ complete_length w (pairs_of rays c) k.dual k.only_zero) each;
      different = different_places w rays cells each (pairwise_back (pairs_of rays) (AreApart w) cells a.cover.apart);
    }
  where
    pair_at : Vertex → Pair
    pair_at u = record { form = u.form; vector = get_or rays u.place [] }

-- ---- the cover
dual_lists : (w : ℕ) (rays : List Vector) (sorted : List (List Vertex)) → Each (λ c. IsCell w (pairs_of rays c)) sorted → AllZip (λ places fs. AreDualForms w (vectors_at rays places) fs) (map places_of sorted) (map forms_of sorted)
dual_lists w rays [] k = tt
dual_lists w rays (c ∷ sorted) k = (dual_forms w rays c k.0, dual_lists w rays sorted k.1)

pub none_or_some : {A : Type 0} (xs : List A) (n : ℕ) → n ≡ length xs → (n ≡ 0 → ⊥) → xs ≢ []
none_or_some xs n e k h = k (e ∙ ap length h)

pub none_at_all : {A : Type 0} (xs : List A) (n : ℕ) → n ≡ length xs → n ≡ 0 → xs ≡ []
none_at_all [] n e z = refl
none_at_all (x ∷ xs) n e z = absurd (let b : ⊥ = omega (arith, e, z) in b)

-- no ray, no simplex
pub nothing_placed : (w : ℕ) (rays : List Vector) (simplices : List (List ℕ)) (forms : List (List Vector)) → ArePlaceable w rays → rays ≡ [] → simplices ≡ [] → forms ≡ [] → IsPlaced w rays simplices forms
nothing_placed w rays simplices forms able none e f = subst (λ (ps : List (List ℕ)). IsPlaced w rays ps forms) (sym e) (subst (IsPlaced w rays []) (sym f) (record {
  cover = record {
    in_order = tt;
    simplices = tt;
    covers = λ x m n. absurd (n (only_zero x (able_zero able) m));
    no_overlap = λ p q k l d x m i j. absurd (contains_none p k);
    none = λ h. refl;
  };
  dual = tt;
}))
  where
    no_base : (bs : List Vector) → Each (Contains rays) bs → length bs ≡ w → w ≡ 0
    no_base [] h e = sym e
    no_base (b ∷ bs) h e = absurd (contains_none b (subst (λ (vs : List Vector). Contains vs b) none h.0))

    able_zero : ArePlaceable w rays → w ≡ 0
    able_zero a = no_base a.full.base a.full.members a.full.size

    only_zero : (x : Vector) → w ≡ 0 → IsInConeOf w rays x → IsZero x
    only_zero [] e m = tt
    only_zero (a ∷ x) e m = absurd (let l = m.0 in let z : ⊥ = omega (arith, e, l) in z)

pub placed_good : (w : ℕ) (rays : List Vector) (placed : List ℕ) (cells : List (List Vertex)) (d : RowsAndRays) (simplices : List (List ℕ)) (forms : List (List Vector)) → ArePlaceable w rays → rays ≢ [] → ArePlacedUpTo w rays (length rays) placed cells d → AreListed cells simplices forms → IsPlaced w rays simplices forms
placed_good w rays placed cells d simplices forms able some a l =
    let s = a.state in
    let covers : AreCells w rays (cells_of rays cells) = cells_of_members w (vectors_at rays placed) rays (cells_of rays cells) (placed_widths w rays placed able.widths a.within) (taken_from rays placed a.within) (each_by_place (Contains (vectors_at rays placed)) [] rays (λ k m. mapped_has (λ (p : ℕ). get_or rays p []) placed k (a.all k m))) s.cover in
    let within = each_map (λ c. Each (λ (u : Vertex). Contains placed u.place) c) (λ c. Each (λ (u : Vertex). u.place < length rays) c) cells (λ c h. each_map (λ (u : Vertex). Contains placed u.place) (λ (u : Vertex). u.place < length rays) c (λ u k. Each-contains (λ (p : ℕ). p < length rays) placed u.place a.within k) h) s.places in
    let there : (c : List Vertex) → Contains l.sorted c → Contains cells c = λ c k. Contains-permutation l.sorted cells c (IsPermutation-sym cells l.sorted l.moved) k in
    let back : (c : List Vertex) → Contains cells c → Contains l.sorted c = λ c k. Contains-permutation cells l.sorted c l.moved k in
    let each = map_each (pairs_of rays) (IsCell w) cells covers.each in
    let order : Pairwise (IsLexLess ◌<◌) (map places_of l.sorted) = subst (Pairwise (IsLexLess ◌<◌)) l.simplices_are l.in_order in
    record {
      cover = subst (IsGoodCover w (IsInConeOf w rays) rays) (sym l.simplices_are) (good_cover w rays cells l.sorted able covers s.in_order within there back order some);
      dual = subst (λ (ps : List (List ℕ)). AllZip (λ places fs. AreDualForms w (vectors_at rays places) fs) ps forms) (sym l.simplices_are)
          (subst (AllZip (λ places fs. AreDualForms w (vectors_at rays places) fs) (map places_of l.sorted)) (sym l.forms_are)
          (dual_lists w rays l.sorted (Each-from_contains (λ c. IsCell w (pairs_of rays c)) l.sorted (λ c k. Each-contains (λ d. IsCell w (pairs_of rays d)) cells c each (there c k)))));
    }
