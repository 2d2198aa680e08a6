-- What is held after some rays are placed: the start, and one ray more.
use Rattle.std.proofs.Common.{◌≡◌, ◌≢◌, ◌⊎◌, ⊎_elim, inl, inr, ℕ, ◌<◌, ◌≤◌, take, length-take-le, below_more, List, [], ◌∷◌, ◌++◌, length, map, get_or, ℤ, pos, ◌*ℤ◌, ◌<ℤ◌, refl, sym, ap, ap₂, ◌∙◌, subst, arith}
use Rattle.std.proofs.lemmas.List.{map-append, length-map, take_more, take_all}
use Rattle.std.proofs.lemmas.List.Elements.{Contains-append_left, Contains-append_right}
use Rattle.std.specs.List.{AllByRecursion as Each, AllZip, Contains}
use Rattle.nz_spec.specs.Vectors.{Vector, dot, combination, HasWidth, IsPrimitive}
use Rattle.nz_spec.specs.Sums.{IsInSpan, IsIndependent}
use Rattle.nz_spec.specs.Order.{Pairwise}
use Rattle.nz_spec.specs.Covers.{vectors_at}
use Rattle.nz_spec.proofs.SumLaws.{length-combination}
use Rattle.nz_spec.proofs.ListLaws.{contains_here, contains_there, Each-contains, contains_at}
use Rattle.nz_linear.specs.DualPairs.{Pair, pair_of, divisor}
use Rattle.nz_linear.specs.RayStep.{AreExtremeRays}
use Rattle.nz_linear.proofs.Ring.{sums, one-mul}
use Rattle.nz_linear.proofs.Lists.{each_map, each_append, each_of_map, map_each}
use Rattle.nz_linear.proofs.DualPairs.{widths_of_vectors, divisors_positive, dual_independent}
use Rattle.nz_linear.proofs.DualCone.{swap, swapped_dual, swapped_widths, swapped_only_zero}
use Rattle.nz_linear.proofs.Floors.{values_at_combination}
use Rattle.nz_linear.proofs.Members.{members_push}
use Rattle.nz_pointed.specs.Pointed.{paired, IsSimplexOf, IsNew}
use Rattle.nz_rays.specs.Descriptions.{RowsAndRays, IsDescription}
use Rattle.nz_rays.proofs.StartLemmas.{simplex_width}
use Rattle.std.specs.Prelude.{◌+◌}
use Rattle.nz_range.specs.Measures.{pair_measure, AreLargeFor}
use Rattle.nz_rays.specs.Measures.{HasLargeRay}
use Rattle.nz_cover.specs.Cells.{IsCell, IsWithin, IsOf, AreApart, AreCells}
use Rattle.nz_cover.specs.Steps.{IsPlacingStep}
use Rattle.nz_cover.specs.Corners.{Vertex, vertex, places_of, pairs_of, cells_of, AreInOrder, IsPlaceOf, IsExtended, AreReady}
use Rattle.nz_cover.specs.Placed.{ArePlaced, ArePlacedUpTo, vertices}
use Rattle.nz_cover.specs.Placing.{ArePlaceable}
use Rattle.nz_cover.proofs.CellLaws.{vectors_of, cell_span}
use Rattle.nz_cover.proofs.StepCovers.{step_cells}
use Rattle.nz_cover.proofs.GoodCover.{start_cells, cells_of_members, pairs_vectors}

-- ---- simplices that are apart are different
abbrev ones : List Pair → List ℤ
ones c = map (λ (p : Pair). pos 1) c

are_ones : (c : List Pair) → Each (λ q. q ≡ pos 1) (ones c)
are_ones [] = tt
are_ones (p ∷ c) = (refl, are_ones c)

above_all : (y : Vector) (c : List Pair) (qs : List ℤ) → AllZip (λ (p : Pair) q. dot p.form y ≡ q *ℤ divisor p) c qs → Each (λ q. q ≡ pos 1) qs → Each (λ (p : Pair). pos 0 <ℤ divisor p) c → IsWithin y c
above_all y [] [] z e d = tt
above_all y [] (q ∷ qs) z e d = tt
above_all y (p ∷ c) [] z e d = absurd z
above_all y (p ∷ c) (q ∷ qs) z e d = ((let h = z.0 in let m = ap (λ t. t *ℤ divisor p) e.0 in let k = d.0 in omega (arith, sums, one-mul (divisor p))), above_all y c qs z.1 e.1 d.1)

-- a vector inside a simplex
pub record HasInside (w : ℕ) (c : List Pair) : Type 0 where
  pub vector : Vector
  pub width : HasWidth w vector
  pub within : IsWithin vector c

-- the sum of its vectors is inside a simplex
pub inside_of : (w : ℕ) (c : List Pair) → IsCell w c → HasInside w c
inside_of w c k = record {
  vector = combination w (ones c) (vectors_of c);
  width = length-combination w (ones c) (vectors_of c) (widths_of_vectors w c k.dual.widths);
  within = above_all (combination w (ones c) (vectors_of c)) c (ones c) (values_at_combination w c (ones c) (length-map c (λ (p : Pair). pos 1)) k.dual.widths k.dual.dual) (are_ones c) (divisors_positive c k.dual.dual);
}

not_apart : (w : ℕ) (c : List Pair) → IsCell w c → AreApart w c c → ⊥
not_apart w c k a = let i = inside_of w c k in a i.vector i.width i.within i.within

different_from : (w : ℕ) (c : List Pair) (cs : List (List Pair)) → IsCell w c → Each (AreApart w c) cs → Each (λ d. c ≢ d) cs
different_from w c [] k a = tt
different_from w c (d ∷ cs) k a = ((λ e. not_apart w c k (subst (AreApart w c) (sym e) a.0)), different_from w c cs k a.1)

pub apart_different : (w : ℕ) (cs : List (List Pair)) → Each (IsCell w) cs → Pairwise (AreApart w) cs → Pairwise ◌≢◌ cs
apart_different w [] k a = tt
apart_different w (c ∷ cs) k a = (different_from w c cs k.0 a.0, apart_different w cs k.1 a.1)

-- ---- one ray more
pub ready_of : (w : ℕ) (rays : List Vector) (placed : List ℕ) (place : ℕ) (cells : List (List Vertex)) (d : RowsAndRays) → ArePlaced w rays placed cells d → ¬ Contains placed place → AreReady w rays place cells
ready_of w rays placed place cells d a n = record {
  each = a.cover.each;
  in_order = a.in_order;
  fresh = each_map (λ c. Each (λ (u : Vertex). Contains placed u.place) c) (λ c. Each (λ (u : Vertex). u.place ≢ place) c) cells (λ c h. each_map (λ (u : Vertex). Contains placed u.place) (λ (u : Vertex). u.place ≢ place) c (λ u k e. n (subst (Contains placed) e k)) h) a.places;
  different = apart_different w (cells_of rays cells) a.cover.each a.cover.apart;
}

place_kept : (placed : List ℕ) (place : ℕ) (cells : List (List Vertex)) → Each (λ c. Each (λ (u : Vertex). Contains placed u.place) c) cells → (u : Vertex) → (u.place ≡ place) ⊎ IsPlaceOf cells u.place → Contains (placed ++ place ∷ []) u.place
place_kept placed place cells h u (inl e) = subst (Contains (placed ++ place ∷ [])) (sym e) (Contains-append_right placed (place ∷ []) place (contains_here place []))
place_kept placed place cells h u (inr i) = Contains-append_left placed (place ∷ []) u.place (Each-contains (Contains placed) (places_of i.cell) u.place (each_of_map (λ (v : Vertex). v.place) (Contains placed) i.cell (Each-contains (λ c. Each (λ (v : Vertex). Contains placed v.place) c) cells i.cell h i.has)) i.at)

own_members : (xs : List Vector) → Each (Contains xs) xs
own_members [] = tt
own_members (x ∷ xs) = (contains_here x xs, each_map (Contains xs) (Contains (x ∷ xs)) xs (λ y k. contains_there x y xs k) (own_members xs))

pub placed_more : (w : ℕ) (rays : List Vector) (placed : List ℕ) (place : ℕ) (cells more new : List (List Vertex)) (d e : RowsAndRays) → HasWidth w (get_or rays place []) → ArePlaced w rays placed cells d → IsDescription d → IsExtended rays place d.rays cells more → new ≡ cells ++ more
    → e.width ≡ d.width → e.rows ≡ d.rows ++ get_or rays place [] ∷ [] → ArePlaced w rays (placed ++ place ∷ []) new e
placed_more w rays placed place cells more new d e lv a i x is we re =
    let v = get_or rays place [] in
    let vs = vectors_at rays placed in
    let extreme : AreExtremeRays w vs d.rays = subst (λ rows. AreExtremeRays w rows d.rays) a.rows (subst (λ n. AreExtremeRays n d.rows d.rays) a.width i.extreme) in
    let step : IsPlacingStep v d.rays (cells_of rays cells) (cells_of rays new) = record { added = cells_of rays more; whole = ap (cells_of rays) is ∙ map-append (pairs_of rays) cells more; are_added = x.added } in
    let next = step_cells w vs d.rays v (cells_of rays cells) (cells_of rays new) extreme lv a.cover step in
    let m = members_push v vs vs (record { there = own_members vs; back = own_members vs }) in
    let whole : vectors_at rays (placed ++ place ∷ []) ≡ vs ++ v ∷ [] = map-append (λ (p : ℕ). get_or rays p []) placed (place ∷ []) in
    record {
      cover = subst (λ us. AreCells w us (cells_of rays new)) (sym whole) (cells_of_members w (v ∷ vs) (vs ++ v ∷ []) (cells_of rays new) (lv, extreme.description.row_widths) m.there m.back next);
      in_order = subst (Each AreInOrder) (sym is) (each_append AreInOrder cells more a.in_order x.in_order);
      places = subst (Each (λ c. Each (λ (u : Vertex). Contains (placed ++ place ∷ []) u.place) c)) (sym is) (each_append (λ c. Each (λ (u : Vertex). Contains (placed ++ place ∷ []) u.place) c) cells more
          (each_map (λ c. Each (λ (u : Vertex). Contains placed u.place) c) (λ c. Each (λ (u : Vertex). Contains (placed ++ place ∷ []) u.place) c) cells (λ c h. each_map (λ (u : Vertex). Contains placed u.place) (λ (u : Vertex). Contains (placed ++ place ∷ []) u.place) c (λ u k. Contains-append_left placed (place ∷ []) u.place k) h) a.places)
          (each_map (λ c. Each (λ (u : Vertex). (u.place ≡ place) ⊎ IsPlaceOf cells u.place) c) (λ c. Each (λ (u : Vertex). Contains (placed ++ place ∷ []) u.place) c) more (λ c h. each_map (λ (u : Vertex). (u.place ≡ place) ⊎ IsPlaceOf cells u.place) (λ (u : Vertex). Contains (placed ++ place ∷ []) u.place) c (λ u k. place_kept placed place cells a.places u k) h) x.places));
      width = we ∙ a.width;
      rows = re ∙ ap (λ (t : List Vector). t ++ v ∷ []) a.rows ∙ sym whole;
    }

-- ---- the start
start_pairs : (rays : List Vector) (places : List ℕ) (forms : List Vector) → pairs_of rays (vertices places forms) ≡ map swap (paired (vectors_at rays places) forms)
start_pairs rays [] forms = refl
start_pairs rays (p ∷ places) [] = refl
start_pairs rays (p ∷ places) (f ∷ forms) = ap (λ t. pair_of f (get_or rays p []) ∷ t) (start_pairs rays places forms)

start_primitive : (vs forms : List Vector) → Each IsPrimitive forms → Each (λ (p : Pair). IsPrimitive p.form) (map swap (paired vs forms))
start_primitive [] forms h = tt
start_primitive (v ∷ vs) [] h = tt
start_primitive (v ∷ vs) (f ∷ forms) h = (h.0, start_primitive vs forms h.1)

start_places : (places : List ℕ) (forms : List Vector) → length forms ≡ length places → places_of (vertices places forms) ≡ places
start_places [] forms l = refl
start_places (p ∷ places) [] l = absurd (omega arith)
start_places (p ∷ places) (f ∷ forms) l = ap (λ t. p ∷ t) (start_places places forms (omega arith))

start_after : (n : ℕ) (places : List ℕ) (forms : List Vector) → Each (λ m. n < m) places → Each (λ u. n < u.place) (vertices places forms)
start_after n [] forms h = tt
start_after n (p ∷ places) [] h = tt
start_after n (p ∷ places) (f ∷ forms) h = (h.0, start_after n places forms h.1)

start_in_order : (places : List ℕ) (forms : List Vector) → Pairwise ◌<◌ places → AreInOrder (vertices places forms)
start_in_order [] forms h = tt
start_in_order (p ∷ places) [] h = tt
start_in_order (p ∷ places) (f ∷ forms) h = (start_after p places forms h.0, start_in_order places forms h.1)

own_numbers : (xs : List ℕ) → Each (Contains xs) xs
own_numbers [] = tt
own_numbers (x ∷ xs) = (contains_here x xs, each_map (Contains xs) (Contains (x ∷ xs)) xs (λ y k. contains_there x y xs k) (own_numbers xs))

start_contains : (all places : List ℕ) (forms : List Vector) → Each (Contains all) places → Each (λ (u : Vertex). Contains all u.place) (vertices places forms)
start_contains all [] forms h = tt
start_contains all (p ∷ places) [] h = tt
start_contains all (p ∷ places) (f ∷ forms) h = (h.0, start_contains all places forms h.1)

pairs_are_of : (c : List Pair) (vs : List Vector) → vectors_of c ≡ vs → IsOf vs c
pairs_are_of c vs e = map_each (λ (p : Pair). p.vector) (Contains vs) c (subst (λ us. Each (Contains us) (vectors_of c)) e (own_members (vectors_of c)))

-- the first simplex
pub placed_start : (w : ℕ) (rays : List Vector) (places : List ℕ) (forms : List Vector) (d : RowsAndRays) → IsSimplexOf w rays places forms → d.width ≡ w → d.rows ≡ vectors_at rays places → ArePlaced w rays places (vertices places forms ∷ []) d
placed_start w rays places forms d s we re =
    let c = vertices places forms in
    let pairs = paired (vectors_at rays places) forms in
    let cell : IsCell w (pairs_of rays c) = subst (IsCell w) (sym (start_pairs rays places forms)) (record { dual = record { widths = swapped_widths w pairs s.dual.widths; dual = swapped_dual pairs s.dual.dual }; only_zero = swapped_only_zero w pairs s.dual s.only_zero; primitive = start_primitive (vectors_at rays places) forms s.primitive }) in
    let vectors : vectors_of (pairs_of rays c) ≡ vectors_at rays places = pairs_vectors rays c ∙ ap (vectors_at rays) (start_places places forms s.one_each) in
    record {
      cover = start_cells w (vectors_at rays places) (pairs_of rays c) cell (pairs_are_of (pairs_of rays c) (vectors_at rays places) vectors) (subst (λ us. Each (Contains us) (vectors_at rays places)) (sym vectors) (own_members (vectors_at rays places))) (widths_of_vectors w (pairs_of rays c) cell.dual.widths);
      in_order = (start_in_order places forms s.first.in_order, tt);
      places = (start_contains places places forms (own_numbers places), tt);
      width = we;
      rows = re;
    }

-- rays with a first simplex can be placed
pub simplex_placeable : (w : ℕ) (rays : List Vector) (places : List ℕ) (forms : List Vector) → Each (HasWidth w) rays → IsSimplexOf w rays places forms → ArePlaceable w rays
simplex_placeable w rays places forms l s =
    let c = vertices places forms in
    let vs = vectors_at rays places in
    let a = placed_start w rays places forms (record { width = w; rows = vs; rays = [] }) s refl refl in
    let cell : IsCell w (pairs_of rays c) = a.cover.each.0 in
    let vectors : vectors_of (pairs_of rays c) ≡ vs = pairs_vectors rays c ∙ ap (vectors_at rays) (start_places places forms s.one_each) in
    record {
      widths = l;
      full = record {
        base = vs;
        size = length-map places (λ (p : ℕ). get_or rays p []) ∙ sym (simplex_width w rays forms places s);
        members = each_of_map (λ (p : ℕ). get_or rays p []) (Contains rays) places (each_map (IsNew w rays) (λ (p : ℕ). Contains rays (get_or rays p [])) places (λ p n. contains_at rays p [] n.within) s.first.only);
        independent = subst (IsIndependent w) vectors (dual_independent w (pairs_of rays c) cell.dual);
        all = λ x k. subst (λ (us : List Vector). IsInSpan w us x) vectors (cell_span w (pairs_of rays c) x cell.dual cell.only_zero (Each-contains (HasWidth w) rays x l k));
      };
    }

-- ---- causes
-- what adding a row to the double description found large
pub large_facet_of : (h : ℤ) (ray row : Vector) (facets forms : List Vector) → row ≡ ray → HasLargeRay h row facets → AreLargeFor h ray (facets ++ forms)
large_facet_of h ray row facets forms e l =
    let has = Contains-append_left facets forms l.ray l.has in
    ⊎_elim
    (λ m. inl (record { vector = l.ray; named = has; large = m }))
    (λ m. inr (record { form = ray; vector = l.ray; is_form = refl; named = has; large = subst (λ (f : Vector). h <ℤ pos (pair_measure f l.ray)) e m }))
    l.large

-- ---- the first simplex, corner by corner
vertices_push : (ps : List ℕ) (fs : List Vector) (p : ℕ) (f : Vector) → length fs ≡ length ps → vertices (ps ++ p ∷ []) (fs ++ f ∷ []) ≡ vertices ps fs ++ vertex p f ∷ []
vertices_push [] [] p f l = refl
vertices_push [] (g ∷ fs) p f l = absurd (omega arith)
vertices_push (q ∷ ps) [] p f l = absurd (omega arith)
vertices_push (q ∷ ps) (g ∷ fs) p f l = ap (λ t. vertex q g ∷ t) (vertices_push ps fs p f (omega arith))

pub vertices_more : (i : ℕ) (ps : List ℕ) (fs : List Vector) (p : ℕ) (f g : Vector) (before after : List Vertex) → i < length ps → length fs ≡ length ps → p ≡ get_or ps i 0 → g ≡ get_or fs i [] → f ≡ g → before ≡ vertices (take i ps) (take i fs) → after ≡ before ++ vertex p f ∷ [] → after ≡ vertices (take (i + 1) ps) (take (i + 1) fs)
vertices_more i ps fs p f g before after l n e h k b a =
    let lf : i < length fs = omega arith in
    let tp : take (i + 1) ps ≡ take i ps ++ p ∷ [] = take_more ps i 0 l ∙ ap (λ t. take i ps ++ t ∷ []) (sym e) in
    let tf : take (i + 1) fs ≡ take i fs ++ f ∷ [] = take_more fs i [] lf ∙ ap (λ t. take i fs ++ t ∷ []) (sym (k ∙ h)) in
    let size : length (take i fs) ≡ length (take i ps) = length-take-le i fs (omega arith) ∙ sym (length-take-le i ps (omega arith)) in
    a ∙ ap (λ t. t ++ vertex p f ∷ []) b ∙ sym (vertices_push (take i ps) (take i fs) p f size) ∙ sym (ap₂ vertices tp tf)

pub vertices_all : (i : ℕ) (ps : List ℕ) (fs : List Vector) (now : List Vertex) → length ps ≤ i → length fs ≡ length ps → now ≡ vertices (take i ps) (take i fs) → now ≡ vertices ps fs
vertices_all i ps fs now l n e = e ∙ ap₂ vertices (take_all i ps l) (take_all i fs (omega arith))

pub begun_is : (w : ℕ) (rays : List Vector) (places : List ℕ) (forms : List Vector) (cell : List Vertex) (cells : List (List Vertex)) (d : RowsAndRays) → IsSimplexOf w rays places forms → d.width ≡ w → d.rows ≡ vectors_at rays places → cell ≡ vertices places forms → cells ≡ cell ∷ [] → ArePlaced w rays places cells d
begun_is w rays places forms cell cells d s we re e h = subst (λ cs. ArePlaced w rays places cs d) (sym (h ∙ ap (λ c. c ∷ []) e)) (placed_start w rays places forms d s we re)

-- ---- the loop
pub loop_start : (w : ℕ) (rays : List Vector) (places placed : List ℕ) (forms : List Vector) (cells : List (List Vertex)) (d : RowsAndRays) → IsSimplexOf w rays places forms → placed ≡ places → ArePlaced (length places) rays placed cells d → ArePlacedUpTo w rays 0 placed cells d
loop_start w rays places placed forms cells d s e a = record {
  state = subst (λ (n : ℕ). ArePlaced n rays placed cells d) (sym (simplex_width w rays forms places s)) a;
  within = subst (Each (λ (p : ℕ). p < length rays)) (sym e) (each_map (IsNew w rays) (λ (p : ℕ). p < length rays) places (λ p n. n.within) s.first.only);
  all = λ p l. absurd (omega arith);
}

-- after the last place
pub loop_end : (w : ℕ) (rays : List Vector) (place : ℕ) (placed : List ℕ) (cells : List (List Vertex)) (d : RowsAndRays) → length rays ≤ place → ArePlacedUpTo w rays place placed cells d → ArePlacedUpTo w rays (length rays) placed cells d
loop_end w rays place placed cells d l a = record { state = a.state; within = a.within; all = λ p k. a.all p (omega (arith, l, k)) }

pub loop_held : (w : ℕ) (rays : List Vector) (place : ℕ) (placed : List ℕ) (cells : List (List Vertex)) (d : RowsAndRays) → Contains placed place → ArePlacedUpTo w rays place placed cells d → ArePlacedUpTo w rays (place + 1) placed cells d
loop_held w rays place placed cells d k a = record { state = a.state; within = a.within; all = below_more (Contains placed) place a.all k }

pub loop_more : (w n : ℕ) (rays : List Vector) (place : ℕ) (placed after : List ℕ) (cells new : List (List Vertex)) (d e : RowsAndRays) → place < length rays → n ≡ w → after ≡ placed ++ place ∷ [] → ArePlacedUpTo w rays place placed cells d → ArePlaced n rays after new e → ArePlacedUpTo w rays (place + 1) after new e
loop_more w n rays place placed after cells new d e l size is a s = record {
  state = subst (λ (m : ℕ). ArePlaced m rays after new e) size s;
  within = subst (Each (λ (p : ℕ). p < length rays)) (sym is) (each_append (λ (p : ℕ). p < length rays) placed (place ∷ []) a.within (l, tt));
  all = below_more (Contains after) place (λ p k. subst (λ (xs : List ℕ). Contains xs p) (sym is) (Contains-append_left placed (place ∷ []) p (a.all p k))) (subst (λ (xs : List ℕ). Contains xs place) (sym is) (Contains-append_right placed (place ∷ []) place (contains_here place [])));
}

pub width_here : (w place : ℕ) (rays : List Vector) → Each (HasWidth w) rays → place < length rays → length (get_or rays place []) ≡ w
width_here w place rays h l = Each-contains (HasWidth w) rays (get_or rays place []) h (contains_at rays place [] l)
