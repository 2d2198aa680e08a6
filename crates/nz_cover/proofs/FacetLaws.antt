-- The facets of placed rays are their support forms: how many there are, and that they are normal forms.
use Rattle.std.proofs.Common.{◌≡◌, ◌≢◌, inl, inr, ⊎_elim, ℕ, suc, ◌<◌, List, [], ◌∷◌, ◌++◌, length, get_or, ℤ, refl, sym, subst, arith}
use Rattle.std.specs.List.{AllByRecursion as Each, Contains}
use Rattle.nz_spec.specs.Vectors.{Vector, zero_vector, HasWidth}
use Rattle.nz_spec.specs.Sums.{IsInSpan, IsIndependent}
use Rattle.nz_spec.specs.Order.{Pairwise, IsListOf, HasNumber}
use Rattle.nz_spec.specs.Forms.{IsOtherColumn, IsDualForm, IsNormalForm, IsSupportForm}
use Rattle.nz_spec.proofs.ListLaws.{Each-contains, Each-from_contains, contains_at}
use Rattle.nz_linear.specs.RayStep.{AreExtremeRays}
use Rattle.nz_linear.proofs.FacetRows as rows
use Rattle.nz_linear.proofs.Lists.{each_map, each_append, each_of_map, zip_to_right}
use Rattle.nz_linear.proofs.Rank.{independent_more, full_independent_span}
use Rattle.nz_linear.proofs.Ring.{sums}
use Rattle.nz_linear.proofs.Spans.{span_within, span_of_members}
use Rattle.nz_linear.proofs.SupportForms.{zero_or_positive, SomePositive}
use Rattle.nz_spec.specs.Covers.{vectors_at}
use Rattle.nz_spec.proofs.SumLaws.{IsInCone-zero, length-zero_vector}
use Rattle.nz_linear.specs.DualPairs.{Pair}
use Rattle.nz_linear.proofs.DualPairs.{dual_independent}
use Rattle.nz_range.specs.Measures.{SomeLarge, SomeLargeAt, AreLargeFor}
use Rattle.nz_pointed.specs.Pointed.{IsTooLarge}
use Rattle.nz_rays.specs.Descriptions.{RowsAndRays, IsDescription}
use Rattle.nz_cover.specs.Cells.{IsCell, IsOf}
use Rattle.nz_cover.specs.Corners.{Vertex, places_of, forms_of, pairs_of, cells_of, all_forms}
use Rattle.nz_cover.specs.Placed.{ArePlaced}
use Rattle.nz_cover.proofs.CellLaws.{vectors_of, cell_span}
use Rattle.nz_cover.proofs.GoodCover.{no_other_column, pairs_vectors, dual_forms}

-- the vectors span all vectors of the width
abbrev pub SpanAll : ℕ → List Vector → Type 0
SpanAll w vs = (x : Vector) → HasWidth w x → IsInSpan w vs x

pub no_columns : (w : ℕ) (vs : List Vector) → SpanAll w vs → IsListOf ◌<◌ (IsOtherColumn w vs) []
no_columns w vs span = record { in_order = tt; only = tt; each = λ j o. absurd (no_other_column w vs j span o) }

-- just as many vectors are support forms as there are facets
pub facets_counted : (w : ℕ) (vs facets : List Vector) → Each (HasWidth w) vs → SpanAll w vs → AreExtremeRays w vs facets → Pairwise ◌≢◌ facets → HasNumber (IsSupportForm w vs) (length facets)
facets_counted w vs facets lv span rays once = record {
  list = facets;
  lists = record {
    in_order = once;
    only = rows.rays_are_support w vs [] (no_columns w vs span) facets lv rays;
    each = λ f s. rows.support_listed w vs [] (no_columns w vs span) facets f lv rays s;
  };
  size = refl;
}

-- a support form of some rays is the dual form of one of them among independent ones, so it is a normal form of all
pub support_is_normal : (w : ℕ) (vs all : List Vector) (f : Vector) → Each (HasWidth w) vs → SpanAll w vs → Each (Contains all) vs → IsSupportForm w vs f → IsNormalForm w all f
support_is_normal w vs all f lv span within s = ⊎_elim (λ z. absurd (s.not_all z)) by (zero_or_positive f vs s.at_least)
  where
    by : SomePositive f vs → IsNormalForm w all f
    by t =
        let u = t.vector in
        let us = s.facet.vectors in
        let lu = Each-contains (HasWidth w) vs u lv t.has in
        let lus = each_map (Contains vs) (HasWidth w) us (λ x k. Each-contains (HasWidth w) vs x lv k) s.facet.of_list in
        let p = t.positive in
        let free = independent_more w f u us lu lus (λ e. omega (arith, sums)) s.facet.zero_on s.facet.independent in
        let members : Each (Contains vs) (u ∷ us) = (t.has, s.facet.of_list) in
        let old : (x : Vector) → Contains vs x → IsInSpan w (u ∷ us) x = λ x k. full_independent_span w (Contains vs) (suc (length us)) (u ∷ us) x (λ y m. Each-contains (HasWidth w) vs y lv m) s.facet.rank members free refl k in
        let whole : SpanAll w (u ∷ us) = λ x l. span_within w vs (u ∷ us) x (lu, lus) (Each-from_contains (IsInSpan w (u ∷ us)) vs old) (span x l) in
        record {
          vectors = u ∷ us;
          of_list = each_map (Contains vs) (Contains all) (u ∷ us) (λ x k. Each-contains (Contains all) vs x within k) members;
          independent = free;
          kind = inl (
            u,
            record {
              earlier = [];
              later = us;
              whole = refl;
              width = s.width;
              primitive = s.primitive;
              zero_at = λ j o. absurd (no_other_column w (u ∷ us) j whole o);
              positive = t.positive;
              zero_on = s.facet.zero_on;
            },
          );
        }

-- ---- what is large in a step is a normal form of the rays, or a ray at one
pub taken_from : (rays : List Vector) (placed : List ℕ) → Each (λ p. p < length rays) placed → Each (Contains rays) (vectors_at rays placed)
taken_from rays placed h = each_of_map (λ (p : ℕ). get_or rays p []) (Contains rays) placed (each_map (λ (p : ℕ). p < length rays) (λ (p : ℕ). Contains rays (get_or rays p [])) placed (λ p l. contains_at rays p [] l) h)

cell_normals : (w : ℕ) (rays vs : List Vector) (c : List Vertex) → IsCell w (pairs_of rays c) → IsOf vs (pairs_of rays c) → Each (Contains rays) vs → Each (IsNormalForm w rays) (forms_of c)
cell_normals w rays vs c k o within =
    let V = vectors_at rays (places_of c) in
    let of_rays : Each (Contains rays) V = subst (Each (Contains rays)) (pairs_vectors rays c) (each_of_map (λ (p : Pair). p.vector) (Contains rays) (pairs_of rays c) (each_map (λ (p : Pair). Contains vs p.vector) (λ (p : Pair). Contains rays p.vector) (pairs_of rays c) (λ p m. Each-contains (Contains rays) vs p.vector within m) o)) in
    let free : IsIndependent w V = subst (IsIndependent w) (pairs_vectors rays c) (dual_independent w (pairs_of rays c) k.dual) in
    zip_to_right (IsDualForm w V) (IsNormalForm w rays) V (forms_of c) (λ v f d. record { vectors = V; of_list = of_rays; independent = free; kind = inl (v, d) }) (dual_forms w rays c k)

all_normals : (w : ℕ) (rays vs : List Vector) (cells : List (List Vertex)) → Each (IsCell w) (cells_of rays cells) → Each (IsOf vs) (cells_of rays cells) → Each (Contains rays) vs → Each (IsNormalForm w rays) (all_forms cells)
all_normals w rays vs [] k o within = tt
all_normals w rays vs (c ∷ cells) k o within = each_append (IsNormalForm w rays) (forms_of c) (all_forms cells) (cell_normals w rays vs c k.0 o.0 within) (all_normals w rays vs cells k.1 o.1 within)

-- placed rays span all vectors of the width
pub placed_spans : (w : ℕ) (rays : List Vector) (placed : List ℕ) (cells : List (List Vertex)) (d : RowsAndRays) → Each (HasWidth w) (vectors_at rays placed) → ArePlaced w rays placed cells d → SpanAll w (vectors_at rays placed)
placed_spans w rays placed cells d lv a =
    let vs = vectors_at rays placed in
    let first = a.cover.covers (zero_vector w) (length-zero_vector w) (IsInCone-zero w vs lv) in
    let cell = Each-contains (IsCell w) (cells_of rays cells) first.cell a.cover.each first.has in
    let of = Each-contains (IsOf vs) (cells_of rays cells) first.cell a.cover.of_list first.has in
    λ x lx. span_of_members w (vectors_of first.cell) vs x lv (each_of_map (λ (p : Pair). p.vector) (Contains vs) first.cell of) (cell_span w first.cell x cell.dual cell.only_zero lx)

pub placed_widths : (w : ℕ) (rays : List Vector) (placed : List ℕ) → Each (HasWidth w) rays → Each (λ p. p < length rays) placed → Each (HasWidth w) (vectors_at rays placed)
placed_widths w rays placed lr inside = each_map (Contains rays) (HasWidth w) (vectors_at rays placed) (λ v k. Each-contains (HasWidth w) rays v lr k) (taken_from rays placed inside)

placed_extreme : (w : ℕ) (rays : List Vector) (placed : List ℕ) (cells : List (List Vertex)) (d : RowsAndRays) → ArePlaced w rays placed cells d → IsDescription d → AreExtremeRays w (vectors_at rays placed) d.rays
placed_extreme w rays placed cells d a i = subst (λ r. AreExtremeRays w r d.rays) a.rows (subst (λ n. AreExtremeRays n d.rows d.rays) a.width i.extreme)

-- and have as many support forms as there are facets
pub facet_number : (w : ℕ) (rays : List Vector) (placed : List ℕ) (cells : List (List Vertex)) (d : RowsAndRays) → Each (HasWidth w) rays → Each (λ p. p < length rays) placed → ArePlaced w rays placed cells d → IsDescription d → HasNumber (IsSupportForm w (vectors_at rays placed)) (length d.rays)
facet_number w rays placed cells d lr inside a i =
    let lv = placed_widths w rays placed lr inside in
    facets_counted w (vectors_at rays placed) d.rays lv (placed_spans w rays placed cells d lv a) (placed_extreme w rays placed cells d a i) i.once

pub placed_too_large : (h : ℤ) (w : ℕ) (rays : List Vector) (placed : List ℕ) (place : ℕ) (cells : List (List Vertex)) (d : RowsAndRays) → Each (HasWidth w) rays → place < length rays → Each (λ p. p < length rays) placed → ArePlaced w rays placed cells d → IsDescription d
    → AreLargeFor h (get_or rays place []) (d.rays ++ all_forms cells) → IsTooLarge h w rays
placed_too_large h w rays placed place cells d lr l inside a i big =
    let vs = vectors_at rays placed in
    let within = taken_from rays placed inside in
    let lv = placed_widths w rays placed lr inside in
    let extreme = placed_extreme w rays placed cells d a i in
    let span = placed_spans w rays placed cells d lv a in
    let facets : Each (IsNormalForm w rays) d.rays = each_map (IsSupportForm w vs) (IsNormalForm w rays) d.rays (λ f s. support_is_normal w vs rays f lv span within s) (rows.rays_are_support w vs [] (no_columns w vs span) d.rays lv extreme) in
    let normals = each_append (IsNormalForm w rays) d.rays (all_forms cells) facets (all_normals w rays vs cells a.cover.each a.cover.of_list within) in
    ⊎_elim
    (λ (s : SomeLarge h (Contains (d.rays ++ all_forms cells))). inl (record { vector = s.vector; named = Each-contains (IsNormalForm w rays) (d.rays ++ all_forms cells) s.vector normals s.named; large = s.large }))
    (λ (s : SomeLargeAt h (λ g. g ≡ get_or rays place []) (Contains (d.rays ++ all_forms cells))). inr (record { form = s.form; vector = s.vector; is_form = subst (Contains rays) (sym s.is_form) (contains_at rays place [] l); named = Each-contains (IsNormalForm w rays) (d.rays ++ all_forms cells) s.vector normals s.named; large = s.large }))
    big
