-- The simplices added with one facet after another, and with one old simplex after another.
use Rattle.std.proofs.Common.{◌≡◌, ◌≢◌, ◌⊎◌, inl, inr, ⊎_elim, ℕ, zero, suc, ◌+◌, ◌<◌, ◌≤◌, List, [], ◌∷◌, ◌++◌, length, map, take, get_or, ℤ, pos, neg_ℤ, ◌-ℤ◌, ◌<ℤ◌, refl, sym, ap, ◌∙◌, subst, append_assoc, append-nil, arith}
use Rattle.std.proofs.lemmas.List.{map-append, take_more, take_all}
use Rattle.std.proofs.lemmas.List.Elements.{Contains-append_left, Contains-append_right, Contains-append_cases}
use Rattle.std.specs.List.{AllByRecursion as Each, Contains}
use Rattle.nz_spec.specs.Vectors.{Vector, dot}
use Rattle.nz_spec.specs.Order.{Pairwise}
use Rattle.std.proofs.lemmas.Int.{ints}
use Rattle.nz_spec.proofs.EquationLaws.{dot_comm}
use Rattle.nz_spec.proofs.ListLaws.{contains_here, contains_there, contains_cases, contains_none, Each-contains, contains_at}
use Rattle.nz_linear.specs.DualPairs.{Pair}
use Rattle.nz_linear.proofs.Lists.{each_map, each_append, map_each, zip_append}
use Rattle.nz_range.specs.Measures.{AreLargeFor}
use Rattle.nz_range.proofs.Causes.{large_within}
use Rattle.nz_cover.specs.Cells.{IsCell}
use Rattle.nz_cover.specs.Steps.{IsReplaced, Source, IsSource, AreAdded}
use Rattle.nz_cover.specs.Corners.{Vertex, places_of, forms_of, pairs_of, cells_of, AreInOrder, IsReplacedAt, IsPlaceOf, IsExtended, Appends, all_forms, AreReady}
use Rattle.nz_cover.proofs.StepApart.{pairwise_append}

-- ---- sources
one_case : {A : Type 0} (x y : A) → Contains (x ∷ []) y → x ≡ y
one_case x y k = elim (contains_cases x [] y k) [ inl e ↦ e | inr m ↦ absurd (contains_none y m) ]

more_source : (v : Vector) (fs gs : List Vector) (cs ds : List (List Pair)) (s : Source) → ((f : Vector) → Contains fs f → Contains gs f) → ((c : List Pair) → Contains cs c → Contains ds c) → IsSource v fs cs s → IsSource v gs ds s
more_source v fs gs cs ds s f c i = record { has_facet = f s.facet i.has_facet; seen = i.seen; has_cell = c s.cell i.has_cell; on_facet = i.on_facet }

pub added_none : (v : Vector) (fs : List Vector) → AreAdded v fs [] []
added_none v fs = record { sources = []; lists = record { in_order = tt; only = tt; each = λ s i. absurd (contains_none s.cell i.has_cell) }; replaced = tt }

pub added_no_facet : (v : Vector) (cs : List (List Pair)) → AreAdded v [] cs []
added_no_facet v cs = record { sources = []; lists = record { in_order = tt; only = tt; each = λ s i. absurd (contains_none s.facet i.has_facet) }; replaced = tt }

pub added_unseen : (v f : Vector) (cs : List (List Pair)) → ¬ (dot f v <ℤ pos 0) → AreAdded v (f ∷ []) cs []
added_unseen v f cs n = record { sources = []; lists = record { in_order = tt; only = tt; each = λ s i. absurd (n (subst (λ (g : Vector). dot g v <ℤ pos 0) (sym (one_case f s.facet i.has_facet)) i.seen)) }; replaced = tt }

-- the next cell is not on the facet
pub added_skip : (v f : Vector) (cs added : List (List Pair)) (c : List Pair) → ¬ Contains (map (λ (p : Pair). p.form) c) f → AreAdded v (f ∷ []) cs added → AreAdded v (f ∷ []) (cs ++ c ∷ []) added
added_skip v f cs added c n a = record {
  sources = a.sources;
  lists = record {
    in_order = a.lists.in_order;
    only = each_map (IsSource v (f ∷ []) cs) (IsSource v (f ∷ []) (cs ++ c ∷ [])) a.sources (λ s i. more_source v (f ∷ []) (f ∷ []) cs (cs ++ c ∷ []) s (λ g k. k) (λ d k. Contains-append_left cs (c ∷ []) d k) i) a.lists.only;
    each = λ s i. ⊎_elim
        (λ k. a.lists.each s (record { has_facet = i.has_facet; seen = i.seen; has_cell = k; on_facet = i.on_facet }))
        (λ k. absurd (n (subst (λ (d : List Pair). Contains (map (λ (p : Pair). p.form) d) f) (sym (one_case c s.cell k)) (subst (Contains (map (λ (p : Pair). p.form) s.cell)) (sym (one_case f s.facet i.has_facet)) i.on_facet))))
        (Contains-append_cases cs (c ∷ []) s.cell i.has_cell);
  };
  replaced = a.replaced;
}

abbrev source_of : Vector → List Pair → Source
source_of f c = record { facet = f; cell = c }

same_source : (g h : Vector) (b e : List Pair) → g ≡ h → b ≡ e → source_of g b ≡ source_of h e
same_source g h b e p q = λ i. source_of (p i) (q i)

-- the next cell is on the facet, and a new one is added
pub added_push : (v f : Vector) (cs added : List (List Pair)) (c d : List Pair) → dot f v <ℤ pos 0 → Contains (map (λ (p : Pair). p.form) c) f → ¬ Contains cs c → IsReplaced f v c d → AreAdded v (f ∷ []) cs added → AreAdded v (f ∷ []) (cs ++ c ∷ []) (added ++ d ∷ [])
added_push v f cs added c d seen on fresh r a =
    let source : Source = record { facet = f; cell = c } in
    let own : IsSource v (f ∷ []) (cs ++ c ∷ []) source = record { has_facet = contains_here f []; seen = seen; has_cell = Contains-append_right cs (c ∷ []) c (contains_here c []); on_facet = on } in
    record {
      sources = a.sources ++ source ∷ [];
      lists = record {
        in_order = pairwise_append ◌≢◌ a.sources (source ∷ []) a.lists.in_order (tt, tt) (each_map (IsSource v (f ∷ []) cs) (λ s. Each (λ t. s ≢ t) (source ∷ [])) a.sources (λ s i. ((λ e. fresh (subst (Contains cs) (ap (λ (t : Source). t.cell) e) i.has_cell)), tt)) a.lists.only);
        only = each_append (IsSource v (f ∷ []) (cs ++ c ∷ [])) a.sources (source ∷ []) (each_map (IsSource v (f ∷ []) cs) (IsSource v (f ∷ []) (cs ++ c ∷ [])) a.sources (λ s i. more_source v (f ∷ []) (f ∷ []) cs (cs ++ c ∷ []) s (λ g k. k) (λ b k. Contains-append_left cs (c ∷ []) b k) i) a.lists.only) (own, tt);
        each = λ s i. ⊎_elim
            (λ k. Contains-append_left a.sources (source ∷ []) s (a.lists.each s (record { has_facet = i.has_facet; seen = i.seen; has_cell = k; on_facet = i.on_facet })))
            (λ k. Contains-append_right a.sources (source ∷ []) s (subst (Contains (source ∷ [])) (same_source f s.facet c s.cell (one_case f s.facet i.has_facet) (one_case c s.cell k)) (contains_here source [])))
            (Contains-append_cases cs (c ∷ []) s.cell i.has_cell);
      };
      replaced = zip_append (λ (s : Source) e. IsReplaced s.facet v s.cell e) a.sources added (source ∷ []) (d ∷ []) a.replaced (r, tt);
    }

-- with one facet more
pub added_join : (v f : Vector) (fs : List Vector) (cs added more : List (List Pair)) → ¬ Contains fs f → AreAdded v fs cs added → AreAdded v (f ∷ []) cs more → AreAdded v (fs ++ f ∷ []) cs (added ++ more)
added_join v f fs cs added more fresh a b = record {
  sources = a.sources ++ b.sources;
  lists = record {
    in_order = pairwise_append ◌≢◌ a.sources b.sources a.lists.in_order b.lists.in_order
        (each_map (IsSource v fs cs) (λ s. Each (λ t. s ≢ t) b.sources) a.sources
        (λ s i. each_map (IsSource v (f ∷ []) cs) (λ t. s ≢ t) b.sources (λ t j e. fresh (subst (Contains fs) (ap (λ (u : Source). u.facet) e ∙ sym (one_case f t.facet j.has_facet)) i.has_facet)) b.lists.only) a.lists.only);
    only = each_append (IsSource v (fs ++ f ∷ []) cs) a.sources b.sources
        (each_map (IsSource v fs cs) (IsSource v (fs ++ f ∷ []) cs) a.sources (λ s i. more_source v fs (fs ++ f ∷ []) cs cs s (λ g k. Contains-append_left fs (f ∷ []) g k) (λ c k. k) i) a.lists.only)
        (each_map (IsSource v (f ∷ []) cs) (IsSource v (fs ++ f ∷ []) cs) b.sources (λ s i. more_source v (f ∷ []) (fs ++ f ∷ []) cs cs s (λ g k. Contains-append_right fs (f ∷ []) g k) (λ c k. k) i) b.lists.only);
    each = λ s i. ⊎_elim
        (λ k. Contains-append_left a.sources b.sources s (a.lists.each s (record { has_facet = k; seen = i.seen; has_cell = i.has_cell; on_facet = i.on_facet })))
        (λ k. Contains-append_right a.sources b.sources s (b.lists.each s (record { has_facet = k; seen = i.seen; has_cell = i.has_cell; on_facet = i.on_facet })))
        (Contains-append_cases fs (f ∷ []) s.facet i.has_facet);
  };
  replaced = zip_append (λ (s : Source) e. IsReplaced s.facet v s.cell e) a.sources added b.sources more a.replaced b.replaced;
}

-- ---- lists
pub contains_taken : {A : Type 0} (k : ℕ) (xs : List A) (x : A) → Contains (take k xs) x → Contains xs x
contains_taken zero xs x h = absurd (contains_none x h)
contains_taken (suc k) [] x h = h
contains_taken (suc k) (y ∷ xs) x h = elim (contains_cases y (take k xs) x h) [ inl e ↦ subst (Contains (y ∷ xs)) e (contains_here y xs) | inr m ↦ contains_there y x xs (contains_taken k xs x m) ]

-- what stands at a place does not stand before
pub not_before : {A : Type 0} (k : ℕ) (xs : List A) (d : A) → Pairwise ◌≢◌ xs → k < length xs → ¬ Contains (take k xs) (get_or xs k d)
not_before k [] d p l h = absurd (omega arith)
not_before zero (x ∷ xs) d p l h = contains_none x h
not_before (suc k) (x ∷ xs) d p l h = ⊎_elim (λ e. Each-contains (λ y. x ≢ y) xs (get_or xs k d) p.0 (contains_at xs k d (omega arith)) e) (λ m. not_before k xs d p.1 (omega arith) m) (contains_cases x (take k xs) (get_or xs k d) h)

mapped_taken : {A B : Type 0} (f : A → B) (k : ℕ) (xs : List A) → map f (take k xs) ≡ take k (map f xs)
mapped_taken f zero xs = refl
mapped_taken f (suc k) [] = refl
mapped_taken f (suc k) (x ∷ xs) = ap (λ t. f x ∷ t) (mapped_taken f k xs)

length_mapped : {A B : Type 0} (f : A → B) (xs : List A) → length (map f xs) ≡ length xs
length_mapped f [] = refl
length_mapped f (x ∷ xs) = ap suc (length_mapped f xs)

mapped_at : {A B : Type 0} (f : A → B) (k : ℕ) (xs : List A) (x : A) → k < length xs → x ≡ get_or xs k x → f x ≡ get_or (map f xs) k (f x)
mapped_at f k [] x l e = absurd (omega arith)
mapped_at f zero (y ∷ xs) x l e = ap f e
mapped_at f (suc k) (y ∷ xs) x l e = mapped_at f k xs x (omega arith) e

-- ---- the loop over the cells
more_place : (place : ℕ) (cells others : List (List Vertex)) → ((c : List Vertex) → Contains cells c → Contains others c) → (u : Vertex) → (u.place ≡ place) ⊎ IsPlaceOf cells u.place → (u.place ≡ place) ⊎ IsPlaceOf others u.place
more_place place cells others f u (inl e) = inl e
more_place place cells others f u (inr h) = inr (record { cell = h.cell; has = f h.cell h.has; at = h.at })

pub extended_none : (rays : List Vector) (place : ℕ) (fs : List Vector) → IsExtended rays place fs [] []
extended_none rays place fs = record { added = added_none (get_or rays place []) fs; in_order = tt; places = tt }

pub appends_none : (P : List (List Vertex) → Type 0) (xs : List (List Vertex)) → P [] → Appends P xs xs
appends_none P xs h = record { more = []; whole = sym (append-nil xs); is = h }

pub forms_agree : (rays : List Vector) (c : List Vertex) → map (λ (p : Pair). p.form) (pairs_of rays c) ≡ forms_of c
forms_agree rays [] = refl
forms_agree rays (u ∷ c) = ap (λ t. u.form ∷ t) (forms_agree rays c)

not_form : (f : Vector) (c : List Vertex) → Each (λ (u : Vertex). u.form ≢ f) c → ¬ Contains (forms_of c) f
not_form f [] h k = contains_none f k
not_form f (u ∷ c) h k = elim (contains_cases u.form (forms_of c) f k) [ inl e ↦ h.0 e | inr m ↦ not_form f c h.1 m ]

form_at : (f : Vector) (c : List Vertex) (j : ℕ) (d : Vertex) → j < length c → (get_or c j d).form ≡ f → Contains (forms_of c) f
form_at f [] j d l e = absurd (omega arith)
form_at f (u ∷ c) zero d l e = subst (Contains (u.form ∷ forms_of c)) e (contains_here u.form (forms_of c))
form_at f (u ∷ c) (suc j) d l e = contains_there u.form f (forms_of c) (form_at f c j d (omega arith) e)

pub extended_skip : (rays : List Vector) (place i : ℕ) (f : Vector) (cells : List (List Vertex)) (c : List Vertex) (before after : List (List Vertex)) → i < length cells → c ≡ get_or cells i c → Each (λ (u : Vertex). u.form ≢ f) c
    → Appends (IsExtended rays place (f ∷ []) (take i cells)) before after → Appends (IsExtended rays place (f ∷ []) (take (i + 1) cells)) before after
extended_skip rays place i f cells c before after l e n a =
    let t : take (i + 1) cells ≡ take i cells ++ c ∷ [] = take_more cells i c l ∙ ap (λ x. take i cells ++ x ∷ []) (sym e) in
    record {
      more = a.more;
      whole = a.whole;
      is = rw t (record {
        added = subst (λ x. AreAdded (get_or rays place []) (f ∷ []) x (cells_of rays a.more)) (sym (map-append (pairs_of rays) (take i cells) (c ∷ []))) (added_skip (get_or rays place []) f (cells_of rays (take i cells)) (cells_of rays a.more) (pairs_of rays c) (λ k. not_form f c n (subst (λ x. Contains x f) (forms_agree rays c) k)) a.is.added);
        in_order = a.is.in_order;
        places = each_map (λ cell. Each (λ (u : Vertex). (u.place ≡ place) ⊎ IsPlaceOf (take i cells) u.place) cell) (λ cell. Each (λ (u : Vertex). (u.place ≡ place) ⊎ IsPlaceOf (take i cells ++ c ∷ []) u.place) cell) a.more
            (λ cell h. each_map (λ (u : Vertex). (u.place ≡ place) ⊎ IsPlaceOf (take i cells) u.place) (λ (u : Vertex). (u.place ≡ place) ⊎ IsPlaceOf (take i cells ++ c ∷ []) u.place) cell (λ u k. more_place place (take i cells) (take i cells ++ c ∷ []) (λ b m. Contains-append_left (take i cells) (c ∷ []) b m) u k) h) a.is.places;
      });
    }

own_place : (place : ℕ) (cells : List (List Vertex)) (c : List Vertex) → Contains cells c → (u : Vertex) → (u.place ≡ place) ⊎ Contains (places_of c) u.place → (u.place ≡ place) ⊎ IsPlaceOf cells u.place
own_place place cells c k u (inl e) = inl e
own_place place cells c k u (inr h) = inr (record { cell = c; has = k; at = h })

pub extended_more : (rays : List Vector) (place i : ℕ) (f : Vector) (cells : List (List Vertex)) (c new : List Vertex) (j : ℕ) (d : Vertex) (before after done : List (List Vertex)) → i < length cells → c ≡ get_or cells i c → Pairwise ◌≢◌ (cells_of rays cells) → dot f (get_or rays place []) <ℤ pos 0 → j < length c → (get_or c j d).form ≡ f
    → IsReplacedAt rays place f (get_or rays place []) c new → Appends (IsExtended rays place (f ∷ []) (take i cells)) before after → done ≡ after ++ new ∷ [] → Appends (IsExtended rays place (f ∷ []) (take (i + 1) cells)) before done
extended_more rays place i f cells c new j d before after done l e different seen lj o r a w =
    let v = get_or rays place [] in
    let t : take (i + 1) cells ≡ take i cells ++ c ∷ [] = take_more cells i c l ∙ ap (λ x. take i cells ++ x ∷ []) (sym e) in
    let lm : i < length (cells_of rays cells) = rw length_mapped l in
    let fresh : ¬ Contains (cells_of rays (take i cells)) (pairs_of rays c) = λ k. not_before i (cells_of rays cells) (pairs_of rays c) different lm (subst (λ x. Contains x (get_or (cells_of rays cells) i (pairs_of rays c))) (mapped_taken (pairs_of rays) i cells) (subst (Contains (cells_of rays (take i cells))) (mapped_at (pairs_of rays) i cells c l e) k)) in
    record {
      more = a.more ++ new ∷ [];
      whole = w ∙ ap (λ x. x ++ new ∷ []) a.whole ∙ append_assoc before a.more (new ∷ []);
      is = rw t (record {
        added = subst (λ x. AreAdded v (f ∷ []) x (cells_of rays (a.more ++ new ∷ []))) (sym (map-append (pairs_of rays) (take i cells) (c ∷ [])))
            (subst (λ x. AreAdded v (f ∷ []) (cells_of rays (take i cells) ++ pairs_of rays c ∷ []) x) (sym (map-append (pairs_of rays) a.more (new ∷ [])))
            (added_push v f (cells_of rays (take i cells)) (cells_of rays a.more) (pairs_of rays c) (pairs_of rays new) seen (subst (λ x. Contains x f) (sym (forms_agree rays c)) (form_at f c j d lj o)) fresh r.replaced a.is.added));
        in_order = each_append AreInOrder a.more (new ∷ []) a.is.in_order (r.in_order, tt);
        places = each_append (λ cell. Each (λ (u : Vertex). (u.place ≡ place) ⊎ IsPlaceOf (take i cells ++ c ∷ []) u.place) cell) a.more (new ∷ [])
            (each_map (λ cell. Each (λ (u : Vertex). (u.place ≡ place) ⊎ IsPlaceOf (take i cells) u.place) cell) (λ cell. Each (λ (u : Vertex). (u.place ≡ place) ⊎ IsPlaceOf (take i cells ++ c ∷ []) u.place) cell) a.more
            (λ cell h. each_map (λ (u : Vertex). (u.place ≡ place) ⊎ IsPlaceOf (take i cells) u.place) (λ (u : Vertex). (u.place ≡ place) ⊎ IsPlaceOf (take i cells ++ c ∷ []) u.place) cell (λ u k. more_place place (take i cells) (take i cells ++ c ∷ []) (λ b m. Contains-append_left (take i cells) (c ∷ []) b m) u k) h) a.is.places)
            (each_map (λ (u : Vertex). (u.place ≡ place) ⊎ Contains (places_of c) u.place) (λ (u : Vertex). (u.place ≡ place) ⊎ IsPlaceOf (take i cells ++ c ∷ []) u.place) new (λ u k. own_place place (take i cells ++ c ∷ []) c (Contains-append_right (take i cells) (c ∷ []) c (contains_here c [])) u k) r.places, tt);
      });
    }

-- ---- what the loop asks of a cell
pub ready_cell : (w : ℕ) (rays : List Vector) (place i : ℕ) (cells : List (List Vertex)) (c : List Vertex) → AreReady w rays place cells → i < length cells → c ≡ get_or cells i c → IsCell w (pairs_of rays c)
ready_cell w rays place i cells c r l e = Each-contains (λ (d : List Vertex). IsCell w (pairs_of rays d)) cells c (map_each (pairs_of rays) (IsCell w) cells r.each) (i, l, sym e)

own_forms : (xs : List Vector) → Each (Contains xs) xs
own_forms [] = tt
own_forms (x ∷ xs) = (contains_here x xs, each_map (Contains xs) (Contains (x ∷ xs)) xs (λ y k. contains_there x y xs k) (own_forms xs))

cell_forms : (cells : List (List Vertex)) (c : List Vertex) → Contains cells c → Each (Contains (all_forms cells)) (forms_of c)
cell_forms [] c k = absurd (contains_none c k)
cell_forms (b ∷ cells) c k = ⊎_elim
    (λ e. subst (λ (d : List Vertex). Each (Contains (forms_of b ++ all_forms cells)) (forms_of d)) e (each_map (Contains (forms_of b)) (Contains (forms_of b ++ all_forms cells)) (forms_of b) (λ f m. Contains-append_left (forms_of b) (all_forms cells) f m) (own_forms (forms_of b))))
    (λ m. each_map (Contains (all_forms cells)) (Contains (forms_of b ++ all_forms cells)) (forms_of c) (λ f n. Contains-append_right (forms_of b) (all_forms cells) f n) (cell_forms cells c m))
    (contains_cases b cells c k)

pub large_cell : (h : ℤ) (ray f : Vector) (cells : List (List Vertex)) (c : List Vertex) (i : ℕ) → i < length cells → c ≡ get_or cells i c → AreLargeFor h ray (f ∷ forms_of c) → AreLargeFor h ray (f ∷ all_forms cells)
large_cell h ray f cells c i l e a = large_within h ray (f ∷ forms_of c) (f ∷ all_forms cells)
    (contains_here f (all_forms cells), each_map (Contains (all_forms cells)) (Contains (f ∷ all_forms cells)) (forms_of c) (λ g k. contains_there f g (all_forms cells) k) (cell_forms cells c (i, l, sym e))) a

-- ---- the loop over the facets
pub extended_unseen : (rays : List Vector) (place : ℕ) (f : Vector) (cells before : List (List Vertex)) → ¬ (dot f (get_or rays place []) <ℤ pos 0) → Appends (IsExtended rays place (f ∷ []) cells) before before
extended_unseen rays place f cells before n = appends_none (IsExtended rays place (f ∷ []) cells) before (record { added = added_unseen (get_or rays place []) f (cells_of rays cells) n; in_order = tt; places = tt })

pub extended_no_facet : (rays : List Vector) (place : ℕ) (cells : List (List Vertex)) → IsExtended rays place [] cells []
extended_no_facet rays place cells = record { added = added_no_facet (get_or rays place []) (cells_of rays cells); in_order = tt; places = tt }

pub extended_join : (rays : List Vector) (place i : ℕ) (facets : List Vector) (f : Vector) (cells before after : List (List Vertex)) → i < length facets → f ≡ get_or facets i [] → Pairwise ◌≢◌ facets → IsExtended rays place (take i facets) cells before → Appends (IsExtended rays place (f ∷ []) cells) before after
    → IsExtended rays place (take (i + 1) facets) cells after
extended_join rays place i facets f cells before after l e d a b =
    let v = get_or rays place [] in
    let t : take (i + 1) facets ≡ take i facets ++ f ∷ [] = take_more facets i [] l ∙ ap (λ x. take i facets ++ x ∷ []) (sym e) in
    let fresh : ¬ Contains (take i facets) f = λ k. not_before i facets [] d l (subst (Contains (take i facets)) e k) in
    rw t (rw b.whole (record {
      added = subst (AreAdded v (take i facets ++ f ∷ []) (cells_of rays cells)) (sym (map-append (pairs_of rays) before b.more)) (added_join v f (take i facets) (cells_of rays cells) (cells_of rays before) (cells_of rays b.more) fresh a.added b.is.added);
      in_order = each_append AreInOrder before b.more a.in_order b.is.in_order;
      places = each_append (λ cell. Each (λ (u : Vertex). (u.place ≡ place) ⊎ IsPlaceOf cells u.place) cell) before b.more a.places b.is.places;
    }))

pub extended_all : (rays : List Vector) (place i : ℕ) (facets : List Vector) (cells more : List (List Vertex)) → length facets ≤ i → IsExtended rays place (take i facets) cells more → IsExtended rays place facets cells more
extended_all rays place i facets cells more l a = subst (λ (fs : List Vector). IsExtended rays place fs cells more) (take_all i facets l) a

pub width_at : (w i : ℕ) (facets : List Vector) (f : Vector) → Each (λ g. length g ≡ w) facets → i < length facets → f ≡ get_or facets i [] → length f ≡ w
width_at w i facets f h l e = subst (λ (g : Vector). length g ≡ w) (sym e) (Each-contains (λ (g : Vector). length g ≡ w) facets (get_or facets i []) h (contains_at facets i [] l))

pub ready_for : (w : ℕ) (rays : List Vector) (place i : ℕ) (facets : List Vector) (f : Vector) (cells : List (List Vertex)) → Each (λ g. length g ≡ w) facets → i < length facets → f ≡ get_or facets i [] → AreReady w rays place cells → AreReady (length f) rays place cells
ready_for w rays place i facets f cells h l e r = subst (λ (n : ℕ). AreReady n rays place cells) (sym (width_at w i facets f h l e)) r

pub large_some : (h : ℤ) (ray f : Vector) (i : ℕ) (facets forms : List Vector) → i < length facets → f ≡ get_or facets i [] → AreLargeFor h ray (f ∷ forms) → AreLargeFor h ray (facets ++ forms)
large_some h ray f i facets forms l e a = large_within h ray (f ∷ forms) (facets ++ forms)
    (Contains-append_left facets forms f (subst (Contains facets) (sym e) (contains_at facets i [] l)), each_map (Contains forms) (Contains (facets ++ forms)) forms (λ g k. Contains-append_right facets forms g k) (own_forms forms)) a

-- ---- the value at the facet
pub seen_by : (v f : Vector) (a : ℤ) → a ≡ dot v f → a <ℤ pos 0 → dot f v <ℤ pos 0
seen_by v f a e h = rw (dot_comm f v) (subst (λ (t : ℤ). t <ℤ pos 0) e h)

pub unseen_by : (v f : Vector) (a : ℤ) → a ≡ dot v f → ¬ (a <ℤ pos 0) → ¬ (dot f v <ℤ pos 0)
unseen_by v f a e n h = n (subst (λ (t : ℤ). t <ℤ pos 0) (dot_comm f v ∙ sym e) h)

pub factor_is : (v f : Vector) (a b z : ℤ) → z ≡ pos 0 → a ≡ dot v f → b ≡ z -ℤ a → b ≡ neg_ℤ (dot v f)
factor_is v f a b z k e h = omega (arith, ints, k, e, h)
