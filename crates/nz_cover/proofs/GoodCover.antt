-- From simplices that cover a cone without overlap to a good cover with its forms, and their start.
use Rattle.std.proofs.Common.{◌≡◌, ◌≢◌, ⊎_elim, ℕ, suc, ◌<◌, List, [], ◌∷◌, ◌++◌, length, map, get_or, pos, refl, sym, ap, ◌∙◌, subst, append_assoc, arith}
use Rattle.std.specs.List.{AllByRecursion as Each, AllZip, Contains}
use Rattle.nz_spec.specs.Vectors.{Vector, dot, HasWidth, IsNonzero, IsPrimitive}
use Rattle.nz_spec.specs.Sums.{IsInSpan, IsInCone, IsInside, IsIndependent, HasRank}
use Rattle.nz_spec.specs.Order.{Pairwise, IsLexLess}
use Rattle.nz_spec.specs.Forms.{IsOtherColumn, IsDualForm, AreDualForms}
use Rattle.nz_spec.specs.Covers.{vectors_at, IsSimplex, Holds, IsGoodCover}
use Rattle.nz_spec.proofs.ListLaws.{contains_here, contains_there, contains_cases, contains_none, Each-contains}
use Rattle.nz_linear.specs.DualPairs.{Pair, IsApart, HasWidths, IsDual}
use Rattle.std.proofs.lemmas.List.{map-append}
use Rattle.nz_linear.specs.Echelon.{unit_at}
use Rattle.nz_linear.proofs.Ring.{sums}
use Rattle.nz_linear.proofs.Units.{length-unit_at, entry-unit_own, entry-unit_other, leads_at}
use Rattle.nz_linear.proofs.Lists.{each_map, each_map2, each_append, each_of_map, map_each}
use Rattle.nz_linear.proofs.DualPairs.{dual_independent}
use Rattle.nz_linear.proofs.Dependence.{complete_length}
use Rattle.nz_linear.proofs.ConeMembers.{cone_of_members}
use Rattle.nz_cover.specs.Cells.{IsCell, IsAt, IsWithin, IsOf, AreApart, AreCells}
use Rattle.nz_cover.specs.Corners.{Vertex, places_of, forms_of, pairs_of, cells_of, AreInOrder}
use Rattle.nz_cover.specs.Placing.{ArePlaceable, IsInConeOf}
use Rattle.nz_cover.proofs.CellLaws.{vectors_of, cell_span, cell_cone, cell_inside}
use Rattle.nz_cover.proofs.StepApart.{same_or_related}
use Rattle.nz_cover.proofs.AddedLemmas.{forms_agree}

-- ---- the start: one simplex
pub start_cells : (w : ℕ) (vs : List Vector) (c : List Pair) → IsCell w c → IsOf vs c → Each (Contains (vectors_of c)) vs → Each (HasWidth w) (vectors_of c) → AreCells w vs (c ∷ [])
start_cells w vs c k o m l = record {
  each = (k, tt);
  of_list = (o, tt);
  covers = λ x lx i. record { cell = c; has = contains_here c []; at = (cell_cone w c x k lx).0 (cone_of_members w vs (vectors_of c) x l m i) };
  apart = (tt, tt);
}

-- simplices go by the members of the list
pub cells_of_members : (w : ℕ) (vs us : List Vector) (cells : List (List Pair)) → Each (HasWidth w) vs → Each (Contains us) vs → Each (Contains vs) us → AreCells w vs cells → AreCells w us cells
cells_of_members w vs us cells l there back a = record {
  each = a.each;
  of_list = each_map (IsOf vs) (IsOf us) cells (λ c o. each_map (λ (p : Pair). Contains vs p.vector) (λ (p : Pair). Contains us p.vector) c (λ p k. Each-contains (Contains us) vs p.vector there k) o) a.of_list;
  covers = λ x lx i. a.covers x lx (cone_of_members w us vs x l back i);
  apart = a.apart;
}

-- ---- one simplex
pub pairs_vectors : (rays : List Vector) (c : List Vertex) → vectors_of (pairs_of rays c) ≡ vectors_at rays (places_of c)
pairs_vectors rays [] = refl
pairs_vectors rays (u ∷ c) = ap (λ t. get_or rays u.place [] ∷ t) (pairs_vectors rays c)

length_places : (rays : List Vector) (c : List Vertex) → length (pairs_of rays c) ≡ length (places_of c)
length_places rays [] = refl
length_places rays (u ∷ c) = ap suc (length_places rays c)

places_after : (n : ℕ) (c : List Vertex) → Each (λ u. n < u.place) c → Each (λ m. n < m) (places_of c)
places_after n [] h = tt
places_after n (u ∷ c) h = (h.0, places_after n c h.1)

places_in_order : (c : List Vertex) → AreInOrder c → Pairwise ◌<◌ (places_of c)
places_in_order [] h = tt
places_in_order (u ∷ c) h = (places_after u.place c h.0, places_in_order c h.1)

places_within : (n : ℕ) (c : List Vertex) → Each (λ u. u.place < n) c → Each (λ m. m < n) (places_of c)
places_within n [] h = tt
places_within n (u ∷ c) h = (h.0, places_within n c h.1)

pub simplex_of : (w : ℕ) (rays : List Vector) (c : List Vertex) → HasRank w (Contains rays) w → IsCell w (pairs_of rays c) → AreInOrder c → Each (λ u. u.place < length rays) c → IsSimplex w rays (places_of c)
simplex_of w rays c full k o l = record {
  in_order = places_in_order c o;
  within = places_within (length rays) c l;
  independent = subst (IsIndependent w) (pairs_vectors rays c) (dual_independent w (pairs_of rays c) k.dual);
  full = subst (HasRank w (Contains rays)) (sym (complete_length w (pairs_of rays c) k.dual k.only_zero) ∙ length_places rays c) full;
}

-- ---- lists
pub record IsImage {A B : Type 0} (f : A → B) (xs : List A) (y : B) : Type 0 where
  pub source : A
  pub has : Contains xs source
  pub same : f source ≡ y

pub image_of : {A B : Type 0} (f : A → B) (xs : List A) (y : B) → Contains (map f xs) y → IsImage f xs y
image_of f [] y k = absurd (contains_none y k)
image_of f (x ∷ xs) y k = ⊎_elim
    (λ e. record { source = x; has = contains_here x xs; same = e })
    (λ m. let r = image_of f xs y m in record { source = r.source; has = contains_there x r.source xs r.has; same = r.same })
    (contains_cases (f x) (map f xs) y k)

pub mapped_has : {A B : Type 0} (f : A → B) (xs : List A) (x : A) → Contains xs x → Contains (map f xs) (f x)
mapped_has f [] x k = absurd (contains_none x k)
mapped_has f (y ∷ xs) x k = ⊎_elim (λ e. subst (λ t. Contains (f y ∷ map f xs) (f t)) e (contains_here (f y) (map f xs))) (λ m. contains_there (f y) (f x) (map f xs) (mapped_has f xs x m)) (contains_cases y xs x k)

related_back : {A B : Type 0} (f : A → B) (R : B → B → Type 0) (x : A) (xs : List A) → Each (R (f x)) (map f xs) → Each (λ y. R (f x) (f y)) xs
related_back f R x [] h = tt
related_back f R x (y ∷ xs) h = (h.0, related_back f R x xs h.1)

pub pairwise_back : {A B : Type 0} (f : A → B) (R : B → B → Type 0) (xs : List A) → Pairwise R (map f xs) → Pairwise (λ x y. R (f x) (f y)) xs
pairwise_back f R [] h = tt
pairwise_back f R (x ∷ xs) h = (related_back f R x xs h.0, pairwise_back f R xs h.1)

each_image : {A B : Type 0} (f : A → B) (P : B → Type 0) (xs : List A) → ((x : A) → Contains xs x → P (f x)) → Each P (map f xs)
each_image f P [] h = tt
each_image f P (x ∷ xs) h = (h x (contains_here x xs), each_image f P xs (λ y k. h y (contains_there x y xs k)))

-- ---- the good cover
module _ (w : ℕ) (rays : List Vector) (cells sorted : List (List Vertex)) (placeable : ArePlaceable w rays) (covers : AreCells w rays (cells_of rays cells)) (in_order : Each AreInOrder cells) (within : Each (λ c. Each (λ u. u.place < length rays) c) cells)
    (there : (c : List Vertex) → Contains sorted c → Contains cells c) (back : (c : List Vertex) → Contains cells c → Contains sorted c) where
  cell_at : (c : List Vertex) → Contains cells c → IsCell w (pairs_of rays c)
  cell_at c k = Each-contains (λ d. IsCell w (pairs_of rays d)) cells c (map_each (pairs_of rays) (IsCell w) cells covers.each) k

  held : (x : Vector) → IsInConeOf w rays x → IsNonzero x → (places : List ℕ) × Contains (map places_of sorted) places × Holds w rays x places
  held x m n =
      let h = covers.covers x m.0 m.1 in
      let i = image_of (pairs_of rays) cells h.cell h.has in
      let c = i.source in
      let at : IsAt x (pairs_of rays c) = subst (IsAt x) (sym i.same) h.at in
      (places_of c, mapped_has places_of sorted c (back c i.has), subst (λ vs. IsInCone w vs x) (pairs_vectors rays c) ((cell_cone w (pairs_of rays c) x (cell_at c i.has) m.0).1 at))

  inside_of : (c : List Vertex) (x : Vector) → Contains cells c → HasWidth w x → IsInside w (vectors_at rays (places_of c)) x → IsWithin x (pairs_of rays c)
  inside_of c x k l i = (cell_inside w (pairs_of rays c) x (cell_at c k) l).0 (subst (λ vs. IsInside w vs x) (sym (pairs_vectors rays c)) i)

  apart : (c d : List Vertex) → Contains cells c → Contains cells d → places_of c ≢ places_of d → (x : Vector) → HasWidth w x → IsInside w (vectors_at rays (places_of c)) x → IsInside w (vectors_at rays (places_of d)) x → ⊥
  apart c d kc kd ne x l i j = ⊎_elim
      (λ e. ne (ap places_of e))
      (λ a. a x l (inside_of c x kc l i) (inside_of d x kd l j))
      (same_or_related (λ a b. AreApart w (pairs_of rays a) (pairs_of rays b)) (λ a b h y m p q. h y m q p) cells c d (pairwise_back (pairs_of rays) (AreApart w) cells covers.apart) kc kd)

  pub good_cover : Pairwise (IsLexLess ◌<◌) (map places_of sorted) → rays ≢ [] → IsGoodCover w (IsInConeOf w rays) rays (map places_of sorted)
  good_cover o some = record {
    in_order = o;
    simplices = each_image places_of (IsSimplex w rays) sorted (λ c k. simplex_of w rays c placeable.full (cell_at c (there c k)) (Each-contains AreInOrder cells c in_order (there c k)) (Each-contains (λ d. Each (λ u. u.place < length rays) d) cells c within (there c k)));
    covers = held;
    no_overlap = λ p q kp kq ne x m i j.
        let a = image_of places_of sorted p kp in
        let b = image_of places_of sorted q kq in
        apart a.source b.source (there a.source a.has) (there b.source b.has) (λ e. ne (sym a.same ∙ e ∙ b.same)) x m.0
        (subst (λ t. IsInside w (vectors_at rays t) x) (sym a.same) i) (subst (λ t. IsInside w (vectors_at rays t) x) (sym b.same) j);
    none = λ e. absurd (some e);
  }

-- ---- the forms
pub no_other_column : (w : ℕ) (vs : List Vector) (j : ℕ) → ((x : Vector) → HasWidth w x → IsInSpan w vs x) → IsOtherColumn w vs j → ⊥
no_other_column w vs j span o =
    let own = entry-unit_own w j o.within in
    o.not_key (unit_at w j, span (unit_at w j) (length-unit_at w j), leads_at (unit_at w j) j (λ e. let k : pos 1 ≡ pos 0 = sym own ∙ e in omega (arith, sums, k)) (λ k l. entry-unit_other w j k (λ e. let n : k ≡ j = sym e in omega arith)))

dual_forms_from : (w : ℕ) (all : List Vector) (before ps : List Pair) → all ≡ vectors_of before ++ vectors_of ps → ((j : ℕ) → IsOtherColumn w all j → ⊥) → Each (HasWidths w) ps → IsDual ps → Each (λ (p : Pair). IsPrimitive p.form) ps → Each (λ (p : Pair). Each (λ (q : Pair). dot p.form q.vector ≡ pos 0) before) ps
    → AllZip (IsDualForm w all) (vectors_of ps) (map (λ (p : Pair). p.form) ps)
dual_forms_from w all before [] e none l d i z = tt
dual_forms_from w all before (p ∷ ps) e none l d i z = (
  record {
    earlier = vectors_of before;
    later = vectors_of ps;
    whole = e;
    width = l.0.form_width;
    primitive = i.0;
    zero_at = λ j o. absurd (none j o);
    positive = d.0;
    zero_on = each_append (λ g. dot p.form g ≡ pos 0) (vectors_of before) (vectors_of ps)
        (each_of_map (λ (q : Pair). q.vector) (λ g. dot p.form g ≡ pos 0) before z.0)
        (each_of_map (λ (q : Pair). q.vector) (λ g. dot p.form g ≡ pos 0) ps (each_map (IsApart p) (λ (q : Pair). dot p.form q.vector ≡ pos 0) ps (λ q a. a.there) d.1));
  },
  dual_forms_from w all (before ++ p ∷ []) ps (e ∙ sym (append_assoc (vectors_of before) (p.vector ∷ []) (vectors_of ps)) ∙ ap (λ t. t ++ vectors_of ps) (sym (map-append (λ (q : Pair). q.vector) before (p ∷ [])))) none l.1 d.2 i.1
      (each_map2 (λ (r : Pair). Each (λ (q : Pair). dot r.form q.vector ≡ pos 0) before) (IsApart p) (λ (r : Pair). Each (λ (q : Pair). dot r.form q.vector ≡ pos 0) (before ++ p ∷ [])) ps
      (λ r h a. each_append (λ (q : Pair). dot r.form q.vector ≡ pos 0) before (p ∷ []) h (a.back, tt)) z.1 d.1),
)

nothing_before : (ps : List Pair) → Each (λ (p : Pair). Each (λ (q : Pair). dot p.form q.vector ≡ pos 0) []) ps
nothing_before [] = tt
nothing_before (p ∷ ps) = (tt, nothing_before ps)

-- the forms of a simplex are its dual forms
pub dual_forms : (w : ℕ) (rays : List Vector) (c : List Vertex) → IsCell w (pairs_of rays c) → AreDualForms w (vectors_at rays (places_of c)) (forms_of c)
dual_forms w rays c k =
    let ps = pairs_of rays c in
    let all = dual_forms_from w (vectors_of ps) [] ps refl (λ j o. no_other_column w (vectors_of ps) j (λ x l. cell_span w ps x k.dual k.only_zero l) o) k.dual.widths k.dual.dual k.primitive (nothing_before ps) in
    subst (λ fs. AllZip (IsDualForm w (vectors_at rays (places_of c))) (vectors_at rays (places_of c)) fs) (forms_agree rays c) (subst (λ vs. AllZip (IsDualForm w vs) vs (map (λ (p : Pair). p.form) ps)) (pairs_vectors rays c) all)
