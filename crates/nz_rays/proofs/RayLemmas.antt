-- The extreme rays of pointed rows are normal forms of the rows, or their opposites are; and what is held while they are found.
use Rattle.std.proofs.Common.{◌≡◌, ◌≢◌, ◌⊎◌, inl, inr, ⊎_elim, ℕ, zero, suc, ◌+◌, ◌<◌, ◌≤◌, List, [], ◌∷◌, ◌++◌, length, get_or, ℤ, pos, neg_ℤ, ◌<ℤ◌, Contains, refl, sym, ap, ◌∙◌, subst, arith}
use Rattle.std.proofs.lemmas.Int.{ints}
use Rattle.std.proofs.lemmas.List.Elements.{Contains-append_left, Contains-append_right}
use Rattle.std.specs.List.{AllByRecursion as Each, AllZip}
use Rattle.nz_spec.specs.Vectors.{Vector, dot, opposite, entry, HasWidth, IsZero}
use Rattle.nz_spec.specs.Sums.{IsIndependent, HasRank}
use Rattle.nz_spec.specs.Order.{IsListOf, Pairwise}
use Rattle.nz_spec.specs.Monoids.{IsExtremeRay}
use Rattle.nz_spec.specs.Covers.{vectors_at}
use Rattle.nz_spec.specs.Forms.{IsOtherColumn, IsNormalForm}
use Rattle.nz_spec.proofs.VectorLaws.{IsZero-zero_vector, dot-zero, length-opposite}
use Rattle.nz_spec.proofs.ListLaws.{Each-contains, Each-from_contains, contains_at, contains_here, contains_there, contains_cases, contains_none}
use Rattle.nz_spec.proofs.LinearLaws.{HasRank-unique}
use Rattle.nz_spec.proofs.EquationLaws.{dot_comm, zero_outside_keys}
use Rattle.nz_linear.specs.DualPairs.{Pair}
use Rattle.nz_linear.specs.Cones.{IsInRows}
use Rattle.nz_linear.specs.Extreme.{IsPointed}
use Rattle.nz_linear.specs.Facets.{IsExtremeForm}
use Rattle.nz_linear.specs.RayStep.{AreExtremeRays}
use Rattle.nz_linear.proofs.Ring.{sums}
use Rattle.nz_linear.proofs.Signs.{sign_cases}
use Rattle.nz_linear.proofs.Lists.{each_map, each_append, each_left, each_of_map}
use Rattle.nz_linear.proofs.Division.{primitive_nonzero}
use Rattle.nz_linear.proofs.KeyColumns.{echelon, IsLeft, all_left, columns_are_other}
use Rattle.nz_linear.proofs.Rank.{rank_of_state, rank_and_left}
use Rattle.nz_linear.proofs.Spans.{span_member}
use Rattle.nz_linear.proofs.RayStart.{rays_of_members}
use Rattle.nz_linear.proofs.Splitting.{zeros_of_splits}
use Rattle.nz_linear.proofs.SupportForms.{support_of_extreme}
use Rattle.nz_linear.proofs.FacetRows.{satisfies_valid, valid_satisfies}
use Rattle.nz_range.specs.Measures.{measure, pair_measure}
use Rattle.nz_range.proofs.Fits.{measure_opposite, pair_measure_opposite}
use Rattle.nz_pointed.specs.Pointed.{IsNew, IsLineOf, IsSimplexOf, IsTooLarge}
use Rattle.nz_pointed.proofs.SignLemmas.{dot-opposite, primitive_opposite}
use Rattle.nz_rays.specs.Descriptions.{RowsAndRays, IsDescription, ListsRays}
use Rattle.nz_rays.specs.Measures.{HasLargeRay}
use Rattle.nz_rays.proofs.PlaceLemmas.{below_next, zip_length}
use Rattle.nz_rays.proofs.StartLemmas.{simplex_description, simplex_width}
use Rattle.nz_rays.specs.Rays.{AreRaysOnce}

-- ---- pointed rows
pub no_line : (w : ℕ) (rows : List Vector) (v : Vector) → IsPointed w rows → IsLineOf w rows v → ⊥
no_line w rows v pt l = primitive_nonzero v l.primitive (subst IsZero (sym (pt v l.width l.zero)) (IsZero-zero_vector w))

none_left : (w : ℕ) (rows : List Vector) (columns : List ℕ) (free : List Pair) → IsPointed w rows → AllZip (IsLeft w rows) columns free → columns ≡ []
none_left w rows [] [] pt z = refl
none_left w rows [] (p ∷ free) pt z = absurd z
none_left w rows (c ∷ columns) [] pt z = absurd z
none_left w rows (c ∷ columns) (p ∷ free) pt z =
    let e = pt p.vector z.0.widths.vector_width z.0.vanish in
    let v : dot p.form p.vector ≡ pos 0 = ap (dot p.form) e ∙ dot-zero p.form w in
    let k = z.0.positive in
    absurd (let b : ⊥ = omega (arith, ints, v, k) in b)

-- all columns are key columns
pub pointed_keys : (w : ℕ) (rows : List Vector) → Each (HasWidth w) rows → IsPointed w rows → IsListOf ◌<◌ (IsOtherColumn w rows) []
pointed_keys w rows l pt =
    let a = echelon w rows l in
    subst (IsListOf ◌<◌ (IsOtherColumn w rows)) (none_left w rows a.columns a.free pt (all_left w rows a.columns a.chosen a.free a.state a.are_columns)) (columns_are_other w rows a.columns a.chosen a.free l a.state a.are_columns)

-- and the rank is the width
pointed_rank : (w : ℕ) (rows : List Vector) → Each (HasWidth w) rows → IsPointed w rows → HasRank w (Contains rows) w
pointed_rank w rows l pt =
    let a = echelon w rows l in
    let z = all_left w rows a.columns a.chosen a.free a.state a.are_columns in
    let n = ap length (none_left w rows a.columns a.free pt z) in
    let m = zip_length (IsLeft w rows) a.columns a.free z in
    let s = rank_and_left w rows a.chosen a.free a.state in
    subst (HasRank w (Contains rows)) (omega (arith, n, m, s)) (rank_of_state w rows a.chosen a.free l a.state)

-- ---- a ray is an equation of independent rows, up to its sign
-- v or -v is a normal form
abbrev pub IsNormalEitherWay : ℕ → List Vector → Vector → Type 0
IsNormalEitherWay w rows v = IsNormalForm w rows v ⊎ IsNormalForm w rows (opposite v)

-- one column is no key column of independent vectors, one fewer than the width
record OneOther (w : ℕ) (vs : List Vector) : Type 0 where
  column : ℕ
  other : IsOtherColumn w vs column
  alone : (j : ℕ) → IsOtherColumn w vs j → j ≡ column

one_other : (w : ℕ) (vs : List Vector) → Each (HasWidth w) vs → IsIndependent w vs → suc (length vs) ≡ w → OneOther w vs
one_other w vs l free size =
    let a = echelon w vs l in
    let base : HasRank w (Contains vs) (length vs) = record { base = vs; size = refl; members = Each-from_contains (Contains vs) vs (λ y c. c); independent = free; all = λ y c. span_member w vs y l c } in
    let same = HasRank-unique w (Contains vs) (length a.chosen) (length vs) (λ y c. Each-contains (HasWidth w) vs y l c) (rank_of_state w vs a.chosen a.free l a.state) base in
    let s = rank_and_left w vs a.chosen a.free a.state in
    let m = zip_length (IsLeft w vs) a.columns a.free (all_left w vs a.columns a.chosen a.free a.state a.are_columns) in
    by a.columns (omega (arith, same, s, m, size)) (columns_are_other w vs a.columns a.chosen a.free l a.state a.are_columns)
  where
    by : (columns : List ℕ) → length columns ≡ 1 → IsListOf ◌<◌ (IsOtherColumn w vs) columns → OneOther w vs
    by [] n k = absurd (let b : ⊥ = omega (arith, n) in b)
    by (c ∷ d ∷ columns) n k = absurd (let b : ⊥ = omega (arith, n) in b)
    by (c ∷ []) n k = record { column = c; other = k.only.0; alone = λ j o. elim (contains_cases c [] j (k.each j o)) [ inl e ↦ sym e | inr i ↦ absurd (contains_none j i) ] }

pub entry-opposite : (x : Vector) (j : ℕ) → entry (opposite x) j ≡ neg_ℤ (entry x j)
entry-opposite [] zero = refl
entry-opposite [] (suc j) = refl
entry-opposite (a ∷ x) zero = refl
entry-opposite (a ∷ x) (suc j) = entry-opposite x j

pub opposite-dot : (f x : Vector) → dot (opposite f) x ≡ neg_ℤ (dot f x)
opposite-dot f x = dot_comm (opposite f) x ∙ dot-opposite x f ∙ ap neg_ℤ (dot_comm x f)

pub ray_normal : (w : ℕ) (rows : List Vector) (r : Vector) → Each (HasWidth w) rows → IsPointed w rows → IsExtremeRay (IsInRows w rows) r → IsNormalEitherWay w rows r
ray_normal w rows r l pt y =
    let lr = y.member.0 in
    let n = primitive_nonzero r y.primitive in
    let zeros = zeros_of_splits w rows r pt lr y.member.1 n y.splits_along in
    let keys = pointed_keys w rows l pt in
    let extreme : IsExtremeForm w rows r = λ x v z. zeros x v.width (valid_satisfies w rows [] keys x v) (each_map (λ g. dot r g ≡ pos 0 → dot x g ≡ pos 0) (λ g. dot g r ≡ pos 0 → dot g x ≡ pos 0) rows (λ g h e. dot_comm g x ∙ h (dot_comm r g ∙ e)) z) in
    let s = support_of_extreme w rows r l (satisfies_valid w rows [] keys r lr y.member.1) y.primitive extreme in
    let vs = s.facet.vectors in
    let lv = each_map (Contains rows) (HasWidth w) vs (λ v c. Each-contains (HasWidth w) rows v l c) s.facet.of_list in
    let size = HasRank-unique w (Contains rows) (suc (length vs)) w (λ v c. Each-contains (HasWidth w) rows v l c) s.facet.rank (pointed_rank w rows l pt) in
    let o = one_other w vs lv s.facet.independent size in
    let other : (j : ℕ) → IsOtherColumn w vs j → j ≢ o.column → ⊥ = λ j k ne. ne (o.alone j k) in
    elim (sign_cases (entry r o.column)) [
      | inl e ↦ absurd (n (zero_outside_keys w vs lv r lr s.facet.zero_on (λ j k. ap (λ i. entry r i) (o.alone j k) ∙ e)))
      | inr (inl up) ↦ inl (record {
        vectors = vs;
        of_list = s.facet.of_list;
        independent = s.facet.independent;
        kind = inr (o.column, o.other, record { width = lr; primitive = y.primitive; zero_on = s.facet.zero_on; positive = up; zero_at = λ j k ne. absurd (other j k ne) });
      })
      | inr (inr down) ↦ inr (record {
        vectors = vs;
        of_list = s.facet.of_list;
        independent = s.facet.independent;
        kind = inr (
          o.column,
          o.other,
          record {
            width = length-opposite r ∙ lr;
            primitive = primitive_opposite r y.primitive;
            zero_on = each_map (λ g. dot r g ≡ pos 0) (λ g. dot (opposite r) g ≡ pos 0) vs (λ g e. opposite-dot r g ∙ ap neg_ℤ e) s.facet.zero_on;
            positive = (let e = entry-opposite r o.column in omega (arith, sums, e, down));
            zero_at = λ j k ne. absurd (other j k ne);
          },
        );
      })
    ]

-- ---- what is held while the rows are added
pub each_by_place : {A : Type 0} (P : A → Type 0) (d : A) (xs : List A) → ((k : ℕ) → k < length xs → P (get_or xs k d)) → Each P xs
each_by_place P d [] f = tt
each_by_place P d (x ∷ xs) f = (f 0 (omega arith), each_by_place P d xs (λ k l. f (suc k) (omega arith)))

-- a pointed cone of some of the rows: of those of the simplex, and of the first ones
pub record IsHeld (w : ℕ) (rows : List Vector) (places : List ℕ) (count : ℕ) (d : RowsAndRays) : Type 0 where
  pub width : d.width ≡ w
  pub rays : ListsRays d
  pub pointed : IsPointed w d.rows
  pub only : Each (Contains rows) d.rows
  pub chosen : Each (λ p. Contains d.rows (get_or rows p [])) places
  pub has : (k : ℕ) → k < count → Contains d.rows (get_or rows k [])

listed_at : (rows : List Vector) (places : List ℕ) → Each (λ p. Contains (vectors_at rows places) (get_or rows p [])) places
listed_at rows [] = tt
listed_at rows (p ∷ places) = (
  contains_here (get_or rows p []) (vectors_at rows places),
  each_map (λ q. Contains (vectors_at rows places) (get_or rows q [])) (λ q. Contains (vectors_at rows (p ∷ places)) (get_or rows q [])) places (λ q c. contains_there (get_or rows p []) (get_or rows q []) (vectors_at rows places) c) (listed_at rows places),
)

pub held_start : (w : ℕ) (rows rays : List Vector) (places : List ℕ) (d : RowsAndRays) → IsSimplexOf w rows places rays → d.width ≡ length places → d.rows ≡ vectors_at rows places → ListsRays d → IsHeld w rows places 0 d
held_start w rows rays places d s ew er lists = record {
  width = ew ∙ sym (simplex_width w rows rays places s);
  rays = lists;
  pointed = subst (IsPointed w) (sym er) (simplex_description w rows rays places s).pointed;
  only = subst (Each (Contains rows)) (sym er) (each_of_map (λ p. get_or rows p []) (Contains rows) places (each_map (IsNew w rows) (λ p. Contains rows (get_or rows p [])) places (λ p k. contains_at rows p [] k.within) s.first.only));
  chosen = subst (λ (vs : List Vector). Each (λ p. Contains vs (get_or rows p [])) places) (sym er) (listed_at rows places);
  has = λ k l. absurd (let b : ⊥ = omega (arith, l) in b);
}

pub held_skip : (w : ℕ) (rows : List Vector) (places : List ℕ) (i : ℕ) (d : RowsAndRays) → Contains places i → IsHeld w rows places i d → IsHeld w rows places (i + 1) d
held_skip w rows places i d c h = record {
  width = h.width;
  rays = h.rays;
  pointed = h.pointed;
  only = h.only;
  chosen = h.chosen;
  has = λ k l. ⊎_elim (λ b. h.has k b) (λ e. Each-contains (λ p. Contains d.rows (get_or rows p [])) places k h.chosen (subst (Contains places) (sym e) c)) (below_next k i l);
}

pub held_add : (w : ℕ) (rows : List Vector) (places : List ℕ) (i : ℕ) (row : Vector) (d new : RowsAndRays) → i < length rows → row ≡ get_or rows i [] → (new.width ≡ d.width) × (new.rows ≡ d.rows ++ (row ∷ [])) → ListsRays new → IsHeld w rows places i d
    → IsHeld w rows places (i + 1) new
held_add w rows places i row d new within e s lists h =
    let more : (v : Vector) → Contains d.rows v → Contains new.rows v = λ v c. subst (λ (vs : List Vector). Contains vs v) (sym s.1) (Contains-append_left d.rows (row ∷ []) v c) in
    let last : Contains new.rows row = subst (λ (vs : List Vector). Contains vs row) (sym s.1) (Contains-append_right d.rows (row ∷ []) row (contains_here row [])) in
    record {
      width = s.0 ∙ h.width;
      rays = lists;
      pointed = λ x lx z. h.pointed x lx (each_left (λ a. dot a x ≡ pos 0) d.rows (row ∷ []) (subst (Each (λ a. dot a x ≡ pos 0)) s.1 z));
      only = subst (Each (Contains rows)) (sym s.1) (each_append (Contains rows) d.rows (row ∷ []) h.only (subst (Contains rows) (sym e) (contains_at rows i [] within), tt));
      chosen = each_map (λ p. Contains d.rows (get_or rows p [])) (λ p. Contains new.rows (get_or rows p [])) places (λ p c. more (get_or rows p []) c) h.chosen;
      has = λ k l. ⊎_elim (λ b. more (get_or rows k []) (h.has k b)) (λ q. subst (Contains new.rows) (e ∙ ap (λ n. get_or rows n []) (sym q)) last) (below_next k i l);
    }

pub held_rays : (w : ℕ) (rows rays : List Vector) (places : List ℕ) (i : ℕ) (d : RowsAndRays) → length rows ≤ i → IsHeld w rows places i d → IsDescription d → rays ≡ d.rays → AreRaysOnce w rows rays
held_rays w rows rays places i d l h is e = record {
  extreme = subst (AreExtremeRays w rows) (sym e) (rays_of_members w d.rows rows d.rays (record { there = h.only; back = each_by_place (Contains d.rows) [] rows (λ k b. h.has k (omega (arith, b, l))) }) (subst (λ (n : ℕ). AreExtremeRays n d.rows d.rays) h.width is.extreme));
  once = subst (Pairwise ◌≢◌) (sym e) is.once;
}

-- ---- the cause of Range
normal_among : (w : ℕ) (some rows : List Vector) (f : Vector) → Each (Contains rows) some → IsNormalForm w some f → IsNormalForm w rows f
normal_among w some rows f c n = record {
  vectors = n.vectors;
  of_list = each_map (Contains some) (Contains rows) n.vectors (λ v k. Each-contains (Contains rows) some v c k) n.of_list;
  independent = n.independent;
  kind = n.kind;
}

-- what is large of a vector that is a normal form up to its sign
pub large_vector : (h : ℤ) (w : ℕ) (rows : List Vector) (v : Vector) → IsNormalEitherWay w rows v → h <ℤ pos (measure v) → IsTooLarge h w rows
large_vector h w rows v n m = elim n [
  | inl own ↦ inl (record { vector = v; named = own; large = m })
  | inr back ↦ inl (record { vector = opposite v; named = back; large = subst (λ n. h <ℤ pos n) (sym (measure_opposite v)) m })
]

pub large_at : (h : ℤ) (w : ℕ) (rows : List Vector) (row v : Vector) → Contains rows row → IsNormalEitherWay w rows v → h <ℤ pos (pair_measure row v) → IsTooLarge h w rows
large_at h w rows row v c n m = elim n [
  | inl own ↦ inr (record { form = row; vector = v; is_form = c; named = own; large = m })
  | inr back ↦ inr (record { form = row; vector = opposite v; is_form = c; named = back; large = subst (λ n. h <ℤ pos n) (sym (pair_measure_opposite row v)) m })
]

pub held_large : (h : ℤ) (w : ℕ) (rows : List Vector) (places : List ℕ) (i : ℕ) (row : Vector) (d : RowsAndRays) → Each (HasWidth w) rows → i < length rows → row ≡ get_or rows i [] → IsHeld w rows places i d → HasLargeRay h row d.rays → IsTooLarge h w rows
held_large h w rows places i row d l within e k large =
    let v = large.ray in
    let wide = each_map (Contains rows) (HasWidth w) d.rows (λ g c. Each-contains (HasWidth w) rows g l c) k.only in
    let is = Each-contains (IsExtremeRay (IsInRows d.width d.rows)) d.rays v k.rays.only large.has in
    let n = ray_normal w d.rows v wide k.pointed (subst (λ (n : ℕ). IsExtremeRay (IsInRows n d.rows) v) k.width is) in
    let normal : IsNormalEitherWay w rows v = ⊎_elim (λ a. inl (normal_among w d.rows rows v k.only a)) (λ a. inr (normal_among w d.rows rows (opposite v) k.only a)) n in
    ⊎_elim
    (λ m. large_vector h w rows v normal m)
    (λ m. large_at h w rows row v (subst (Contains rows) (sym e) (contains_at rows i [] within)) normal m)
    large.large
