-- One vector more on a side of a row.
use Rattle.std.proofs.Common.{◌≡◌, ◌≢◌, ◌⊎◌, ⊎_elim, ℕ, ◌<◌, ◌≤◌, ◌^◌, List, [], ◌∷◌, ◌++◌, length, map, take, get_or, ℤ, pos, ◌≤ℤ◌, ◌<ℤ◌, Contains, refl, sym, ap, ◌∙◌, subst, arith}
use Rattle.std.proofs.lemmas.Int.{ints, by_lt_z}
use Rattle.std.proofs.lemmas.List.{length-map, map-append, append-nil, get_or-map}
use Rattle.std.proofs.lemmas.List.Elements.{Contains-append_left, Contains-append_right, Contains-append_cases}
use Rattle.std.specs.List.{AllZip, AllByRecursion as Each}
use Rattle.nz_spec.specs.Vectors.{Vector, dot, entry, values_at, HasWidth}
use Rattle.nz_spec.specs.Order.{Pairwise, MoreThan}
use Rattle.nz_spec.proofs.ListLaws.{Each-contains, Each-from_contains, Each-weaker, contains_here, contains_cases, contains_none, contains_at}
use Rattle.nz_linear.proofs.Lists.{zip_append}
use Rattle.nz_order.specs.Boxes.{IsBelow}
use Rattle.nz_order.specs.Totals.{total}
use Rattle.nz_order.proofs.OrderLaws.{Each-push, Pairwise-push}
use Rattle.nz_order.proofs.SortLaws.{Each-front, Each-back}
use Rattle.nz_scalar.specs.Room.{HasRoom}
use Rattle.nz_vec.specs.Sums.{SumsFit}
use Rattle.nz_range.specs.Measures.{measure, SomeLargeAt}
use Rattle.nz_range.proofs.Causes.{value_cause}
use Rattle.nz_reducer.specs.Tables.{NoneIsBelow, HasAnyBelow}
use Rattle.nz_vec.specs.declared.answers.Num.{Num}
use Rattle.nz_vec.specs.declared.answers.Num.TheVariants as num
use Rattle.nz_vec.specs.declared.answers.Work.{Work}
use Rattle.nz_vec.specs.declared.answers.Work.TheVariants.{Range, TooMany, Stopped, NoMemory}
use Rattle.nz_dual.specs.Sides.{SideLists, IsSide, IsSideElement, IsNoted, IsWorkOf, Keeps, Handles, HasGrown, IsOfferRefusal}
use Rattle.nz_dual.proofs.SideLemmas.{none_same, found_same}
use Rattle.nz_dual.proofs.ValueLemmas.{degree_is, degree_large}

-- ---- the values of the rows and the last form
pub values_split : (rows : List Vector) (last x : Vector) → values_at (rows ++ last ∷ []) x ≡ values_at rows x ++ dot last x ∷ []
values_split [] last x = refl
values_split (r ∷ rows) last x = ap (λ (vs : Vector). dot r x ∷ vs) (values_split rows last x)

pub last_value : (rows : List Vector) (last x : Vector) → entry (values_at (rows ++ last ∷ []) x) (length rows) ≡ dot last x
last_value [] last x = refl
last_value (r ∷ rows) last x = last_value rows last x

pub first_values : (rows : List Vector) (last x : Vector) → take (length rows) (values_at (rows ++ last ∷ []) x) ≡ values_at rows x
first_values [] last x = refl
first_values (r ∷ rows) last x = ap (λ (vs : Vector). dot r x ∷ vs) (first_values rows last x)

-- ---- the lists with one element more
same_side : (a b : Vector) (es fs : List Vector) (c d : ℕ) (vs ws : List Vector) (rs ss rv sv : List Vector) (ds gs ks : List ℕ) → a ≡ b → es ≡ fs → c ≡ d → vs ≡ ws → rs ≡ ss → rv ≡ sv → ds ≡ gs
    → record { last = a; elements = es; columns = c; values = vs; rising = rs; rising_values = rv; degrees = ds; classes = ks } ≡ (let s : SideLists = record { last = b; elements = fs; columns = d; values = ws; rising = ss; rising_values = sv; degrees = gs; classes = ks } in s)
same_side a b es fs c d vs ws rs ss rv sv ds gs ks p q r t u y v =
    let f1 : Vector → SideLists = λ z. record { last = z; elements = es; columns = c; values = vs; rising = rs; rising_values = rv; degrees = ds; classes = ks } in
    let f2 : List Vector → SideLists = λ z. record { last = b; elements = z; columns = c; values = vs; rising = rs; rising_values = rv; degrees = ds; classes = ks } in
    let f3 : ℕ → SideLists = λ z. record { last = b; elements = fs; columns = z; values = vs; rising = rs; rising_values = rv; degrees = ds; classes = ks } in
    let f4 : List Vector → SideLists = λ z. record { last = b; elements = fs; columns = d; values = z; rising = rs; rising_values = rv; degrees = ds; classes = ks } in
    let f5 : List Vector → SideLists = λ z. record { last = b; elements = fs; columns = d; values = ws; rising = z; rising_values = rv; degrees = ds; classes = ks } in
    let f6 : List Vector → SideLists = λ z. record { last = b; elements = fs; columns = d; values = ws; rising = ss; rising_values = z; degrees = ds; classes = ks } in
    let f7 : List ℕ → SideLists = λ z. record { last = b; elements = fs; columns = d; values = ws; rising = ss; rising_values = sv; degrees = z; classes = ks } in
    ap f1 p ∙ ap f2 q ∙ ap f3 r ∙ ap f4 t ∙ ap f5 u ∙ ap f6 y ∙ ap f7 v

more_elements : (rows : List Vector) (last : Vector) (es : List Vector) (x : Vector) → Each (IsSideElement rows last) es → IsSideElement rows last x → Each (IsSideElement rows last) (es ++ x ∷ [])
more_elements rows last es x h i = Each-push (IsSideElement rows last) es x h i

more_different : (rows : List Vector) (last : Vector) (es : List Vector) (x : Vector) → Pairwise ◌≢◌ es → NoneIsBelow (map (values_at (rows ++ last ∷ [])) es) (values_at (rows ++ last ∷ []) x) → Pairwise ◌≢◌ (es ++ x ∷ [])
more_different rows last es x d none = Pairwise-push ◌≢◌ es x d (Each-from_contains (λ y. y ≢ x) es (λ y c e. none_same (rows ++ last ∷ []) es x none (subst (Contains es) e c)))

-- more elements than the limit
pub too_many : (rows : List Vector) (last : Vector) (es : List Vector) (x : Vector) (limit : ℕ) → Each (IsSideElement rows last) es → IsSideElement rows last x → Pairwise ◌≢◌ es → NoneIsBelow (map (values_at (rows ++ last ∷ [])) es) (values_at (rows ++ last ∷ []) x) → limit < length (es ++ x ∷ []) → MoreThan limit (IsSideElement rows last)
too_many rows last es x limit h i d none l = record {
  witnesses = es ++ x ∷ [];
  different = more_different rows last es x d none;
  only = more_elements rows last es x h i;
  more = l;
}

module _ (limit : ℕ) (rows : List Vector) (old : SideLists) (s : IsSide limit rows old) (x vs : Vector) (irreducible : IsSideElement rows old.last x) (same : vs ≡ values_at (rows ++ old.last ∷ []) x) (none : NoneIsBelow old.values vs) where
  none_of : NoneIsBelow (map (values_at (rows ++ old.last ∷ [])) old.elements) (values_at (rows ++ old.last ∷ []) x)
  none_of = subst (λ (ts : List Vector). NoneIsBelow ts (values_at (rows ++ old.last ∷ []) x)) s.values (subst (NoneIsBelow old.values) same none)

  pub more_than : limit < length (old.elements ++ x ∷ []) → MoreThan limit (IsSideElement rows old.last)
  more_than l = too_many rows old.last old.elements x limit s.elements irreducible s.different none_of l

  module _ (wide : Each (HasWidth (length old.last)) rows) where
    degree_of : dot (total (length old.last) rows) x ≡ pos (measure (values_at rows x))
    degree_of = degree_is (length old.last) rows x wide (Each-front (λ r. pos 0 ≤ℤ dot r x) rows (old.last ∷ []) irreducible.member.at_least)

    from_old : Each (λ v. Contains (old.elements ++ x ∷ []) v × (pos 0 <ℤ dot old.last v)) old.rising
    from_old = Each-weaker (λ v. Contains old.elements v × (pos 0 <ℤ dot old.last v)) (λ v. Contains (old.elements ++ x ∷ []) v × (pos 0 <ℤ dot old.last v)) (λ v h. (Contains-append_left old.elements (x ∷ []) v h.0, h.1)) old.rising s.rising

    pub side_with : (rising rising_values : List Vector) (degrees classes : List ℕ) → length (old.elements ++ x ∷ []) ≤ limit
        → ((pos 0 <ℤ entry vs (length rows)) × (rising ≡ old.rising ++ x ∷ []) × (degrees ≡ old.degrees ++ measure (take (length rows) vs) ∷ []) × (measure (take (length rows) vs) < 2 ^ 127) × (rising_values ≡ old.rising_values ++ vs ∷ [])) ⊎ ((¬ (pos 0 <ℤ entry vs (length rows))) × (rising ≡ old.rising) × (degrees ≡ old.degrees) × (rising_values ≡ old.rising_values))
        → IsSide limit rows (record { last = old.last; elements = old.elements ++ x ∷ []; columns = old.columns; values = old.values ++ vs ∷ []; rising = rising; rising_values = rising_values; degrees = degrees; classes = classes })
    side_with rising rising_values degrees classes within noted =
        let R : Vector → Type 0 = λ v. Contains (old.elements ++ x ∷ []) v × (pos 0 <ℤ dot old.last v) in
        let D : Vector → ℕ → Type 0 = λ v d. (dot (total (length old.last) rows) v ≡ pos d) × (d < 2 ^ 127) in
        let height : entry vs (length rows) ≡ dot old.last x = ap (λ (us : Vector). entry us (length rows)) same ∙ last_value rows old.last x in
        let size : measure (take (length rows) vs) ≡ measure (values_at rows x) = ap (λ (us : Vector). measure (take (length rows) us)) same ∙ ap measure (first_values rows old.last x) in
        record {
          columns = s.columns;
          values = ap (λ (ts : List Vector). ts ++ vs ∷ []) s.values ∙ ap (λ (u : Vector). map (values_at (rows ++ old.last ∷ [])) old.elements ++ u ∷ []) same ∙ sym (map-append (values_at (rows ++ old.last ∷ [])) old.elements (x ∷ []));
          elements = more_elements rows old.last old.elements x s.elements irreducible;
          different = more_different rows old.last old.elements x s.different none_of;
          within = within;
          rising = ⊎_elim
              (λ (h : (pos 0 <ℤ entry vs (length rows)) × (rising ≡ old.rising ++ x ∷ []) × (degrees ≡ old.degrees ++ measure (take (length rows) vs) ∷ []) × (measure (take (length rows) vs) < 2 ^ 127) × (rising_values ≡ old.rising_values ++ vs ∷ [])).
              subst (Each R) (sym h.1) (Each-push R old.rising x from_old (Contains-append_right old.elements (x ∷ []) x (contains_here x []), subst (λ (z : ℤ). pos 0 <ℤ z) height h.0)))
              (λ (h : (¬ (pos 0 <ℤ entry vs (length rows))) × (rising ≡ old.rising) × (degrees ≡ old.degrees) × (rising_values ≡ old.rising_values)). subst (Each R) (sym h.1) from_old)
              noted;
          all_rising = λ v c p. ⊎_elim
              (λ (h : (pos 0 <ℤ entry vs (length rows)) × (rising ≡ old.rising ++ x ∷ []) × (degrees ≡ old.degrees ++ measure (take (length rows) vs) ∷ []) × (measure (take (length rows) vs) < 2 ^ 127) × (rising_values ≡ old.rising_values ++ vs ∷ [])).
              subst (λ (rs : List Vector). Contains rs v) (sym h.1) (⊎_elim
              (λ k. Contains-append_left old.rising (x ∷ []) v (s.all_rising v k p))
              (λ k. Contains-append_right old.rising (x ∷ []) v k)
              (Contains-append_cases old.elements (x ∷ []) v c)))
              (λ (h : (¬ (pos 0 <ℤ entry vs (length rows))) × (rising ≡ old.rising) × (degrees ≡ old.degrees) × (rising_values ≡ old.rising_values)).
              subst (λ (rs : List Vector). Contains rs v) (sym h.1) (⊎_elim
              (λ k. s.all_rising v k p)
              (λ k. ⊎_elim
              (λ (e : x ≡ v). absurd (h.0 (subst (λ (z : ℤ). pos 0 <ℤ z) (ap (dot old.last) (sym e) ∙ sym height) p)))
              (λ (n : Contains [] v). absurd (contains_none v n))
              (contains_cases x [] v k))
              (Contains-append_cases old.elements (x ∷ []) v c)))
              noted;
          rising_values = let f = values_at (rows ++ old.last ∷ []) in ⊎_elim
              (λ (h : (pos 0 <ℤ entry vs (length rows)) × (rising ≡ old.rising ++ x ∷ []) × (degrees ≡ old.degrees ++ measure (take (length rows) vs) ∷ []) × (measure (take (length rows) vs) < 2 ^ 127) × (rising_values ≡ old.rising_values ++ vs ∷ [])). h.4 ∙ ap (λ (ts : List Vector). ts ++ vs ∷ []) s.rising_values ∙ ap (λ (u : Vector). map f old.rising ++ u ∷ []) same ∙ sym (map-append f old.rising (x ∷ [])) ∙ ap (map f) (sym h.1))
              (λ (h : (¬ (pos 0 <ℤ entry vs (length rows))) × (rising ≡ old.rising) × (degrees ≡ old.degrees) × (rising_values ≡ old.rising_values)). h.3 ∙ s.rising_values ∙ ap (map f) (sym h.1))
              noted;
          degrees = ⊎_elim
              (λ (h : (pos 0 <ℤ entry vs (length rows)) × (rising ≡ old.rising ++ x ∷ []) × (degrees ≡ old.degrees ++ measure (take (length rows) vs) ∷ []) × (measure (take (length rows) vs) < 2 ^ 127) × (rising_values ≡ old.rising_values ++ vs ∷ [])).
              let one : AllZip D (x ∷ []) (measure (take (length rows) vs) ∷ []) = ((degree_of ∙ ap pos (sym size), h.3), tt) in
              subst (λ (rs : List Vector). AllZip D rs degrees) (sym h.1) (subst (AllZip D (old.rising ++ x ∷ [])) (sym h.2)
              (zip_append D old.rising old.degrees (x ∷ []) (measure (take (length rows) vs) ∷ []) s.degrees one)))
              (λ (h : (¬ (pos 0 <ℤ entry vs (length rows))) × (rising ≡ old.rising) × (degrees ≡ old.degrees) × (rising_values ≡ old.rising_values)).
              subst (λ (rs : List Vector). AllZip D rs degrees) (sym h.1) (subst (AllZip D old.rising) (sym h.2) s.degrees))
              noted;
        }

-- what is kept
pub kept_side : (limit : ℕ) (rows : List Vector) (old noted : SideLists) (inside : SideLists) (x vs : Vector) (count : ℕ) (es : List Vector) (columns : ℕ) (ts : List Vector) → Each (HasWidth (length old.last)) rows → IsSide limit rows old → vs ≡ values_at (rows ++ old.last ∷ []) x → NoneIsBelow old.values vs → IsSideElement rows old.last x
    → count ≡ length rows → IsNoted count x vs old noted → inside ≡ noted → es ≡ inside.elements ++ x ∷ [] → columns ≡ inside.columns → ts ≡ inside.values ++ vs ∷ [] → length es ≤ limit
    → (let new : SideLists = record { last = inside.last; elements = es; columns = columns; values = ts; rising = inside.rising; rising_values = inside.rising_values; degrees = inside.degrees; classes = inside.classes } in IsSide limit rows new × (new.last ≡ old.last) × (new.elements ≡ old.elements ++ x ∷ []))
kept_side limit rows old noted inside x vs count es columns ts wide s same none i is_count n e ee ec et within =
    let ne = ee ∙ ap (λ (k : SideLists). k.elements ++ x ∷ []) e ∙ ap (λ (us : List Vector). us ++ x ∷ []) n.elements in
    let nl = ap (λ (k : SideLists). k.last) e ∙ n.last in
    let nc = ec ∙ ap (λ (k : SideLists). k.columns) e ∙ n.columns in
    let nv = et ∙ ap (λ (k : SideLists). k.values ++ vs ∷ []) e ∙ ap (λ (us : List Vector). us ++ vs ∷ []) n.values in
    let nr = ap (λ (k : SideLists). k.rising) e in
    let nq = ap (λ (k : SideLists). k.rising_values) e in
    let nd = ap (λ (k : SideLists). k.degrees) e in
    let path = same_side inside.last old.last es (old.elements ++ x ∷ []) columns old.columns ts (old.values ++ vs ∷ []) inside.rising noted.rising inside.rising_values noted.rising_values inside.degrees noted.degrees inside.classes nl ne nc nv nr nq nd in
    let w : length (old.elements ++ x ∷ []) ≤ limit = subst (λ (us : List Vector). length us ≤ limit) ne within in
    let noted' = subst (λ (k : ℕ). ((pos 0 <ℤ entry vs k) × (noted.rising ≡ old.rising ++ x ∷ []) × (noted.degrees ≡ old.degrees ++ measure (take k vs) ∷ []) × (measure (take k vs) < 2 ^ 127) × (noted.rising_values ≡ old.rising_values ++ vs ∷ [])) ⊎ ((¬ (pos 0 <ℤ entry vs k)) × (noted.rising ≡ old.rising) × (noted.degrees ≡ old.degrees) × (noted.rising_values ≡ old.rising_values))) is_count n.noted in
    (subst (IsSide limit rows) (sym path) (side_with limit rows old s x vs i same none wide noted.rising noted.rising_values noted.degrees inside.classes w noted'), nl, ne)

-- too many
pub kept_too_many : (limit : ℕ) (rows : List Vector) (old noted inside : SideLists) (x vs : Vector) (count : ℕ) (es : List Vector) → IsSide limit rows old → vs ≡ values_at (rows ++ old.last ∷ []) x → NoneIsBelow old.values vs → IsSideElement rows old.last x
    → IsNoted count x vs old noted → inside ≡ noted → es ≡ inside.elements ++ x ∷ [] → limit < length es → MoreThan limit (IsSideElement rows old.last)
kept_too_many limit rows old noted inside x vs count es s same none i n e ee l =
    let ne = ee ∙ ap (λ (k : SideLists). k.elements ++ x ∷ []) e ∙ ap (λ (us : List Vector). us ++ x ∷ []) n.elements in
    more_than limit rows old s x vs i same none (subst (λ (us : List Vector). limit < length us) ne l)

-- ---- refusals
pub many_refused : (h : ℤ) (limit : ℕ) (rows : List Vector) (last : Vector) (Offered : Vector → Type 0) (e : Work) → e ≡ TooMany → MoreThan limit (IsSideElement rows last) → IsOfferRefusal h limit rows last Offered e
many_refused h limit rows last Offered e same m = subst (IsOfferRefusal h limit rows last Offered) (sym same) m

pub rows_large : (h : ℤ) (rows : List Vector) (last x : Vector) → SomeLargeAt h (Contains rows) (λ v. v ≡ x) → SomeLargeAt h (Contains (rows ++ last ∷ [])) (λ v. v ≡ x)
rows_large h rows last x s = record { form = s.form; vector = s.vector; is_form = Contains-append_left rows (last ∷ []) s.form s.is_form; named = s.named; large = s.large }

pub last_large : (h : ℤ) (fits : ℤ → Type 0) → HasRoom h fits → (rows : List Vector) (last l x : Vector) → l ≡ last → ¬ SumsFit fits (pos 0) l x → SomeLargeAt h (Contains (rows ++ last ∷ [])) (λ v. v ≡ x)
last_large h fits r rows last l x e n = record {
  form = l;
  vector = x;
  is_form = Contains-append_right rows (last ∷ []) l (subst (λ (v : Vector). Contains (v ∷ []) l) e (contains_here l []));
  named = refl;
  large = value_cause h fits r l x n;
}

pub refused : (h : ℤ) (limit : ℕ) (rows : List Vector) (last x : Vector) (refusal : Num) (work : Work) → (refusal ≡ num.Range → SomeLargeAt h (Contains rows) (λ v. v ≡ x)) → IsWorkOf refusal work → IsOfferRefusal h limit rows last (λ v. v ≡ x) work
refused h limit rows last x refusal (Range told) f w = (w.1, rows_large h rows last x (f w.0))
refused h limit rows last x refusal TooMany f w = absurd w
refused h limit rows last x refusal (Stopped stage) f w = w
refused h limit rows last x refusal NoMemory f w = tt

pub degree_refused : (h : ℤ) (fits : ℤ → Type 0) → HasRoom h fits → (rows : List Vector) (last x vs : Vector) (count : ℕ) → count ≡ length rows → vs ≡ values_at (rows ++ last ∷ []) x → (2 ^ 127 ≤ measure (take count vs)) × (count < 2 ^ 64) → SomeLargeAt h (Contains rows) (λ v. v ≡ x)
degree_refused h fits r rows last x vs count e same m =
    let size : measure (take count vs) ≡ measure (values_at rows x) = ap (λ (k : ℕ). measure (take k vs)) e ∙ ap (λ (us : Vector). measure (take (length rows) us)) same ∙ ap measure (first_values rows last x) in
    degree_large h fits r rows x (let b = m.1 in omega (arith, b, e)) (let b = m.0 in omega (arith, b, size))

-- ---- offers that change nothing
pub grown_same : (limit : ℕ) (rows : List Vector) (s : SideLists) → IsSide limit rows s → HasGrown limit rows s s
grown_same limit rows s i = record { side = i; last = refl; more = []; extends = sym (append-nil s.elements) }

pub not_on_side : (rows : List Vector) (last l x : Vector) (z : ℤ) → l ≡ last → z ≡ dot l x → z <ℤ pos 0 → ¬ IsSideElement rows last x
not_on_side rows last l x z e v n i =
    let p = (Each-back (λ r. pos 0 ≤ℤ dot r x) rows (last ∷ []) i.member.at_least).0 in
    let d = v ∙ ap (λ (f : Vector). dot f x) e in
    omega (arith, ints, p, d, n)

pub handled_found : (limit : ℕ) (rows : List Vector) (s inside : SideLists) (x values : Vector) (z : ℤ) → inside ≡ s → IsSide limit rows s → z ≡ dot inside.last x → values ≡ values_at rows x ++ z ∷ [] → HasAnyBelow inside.values values → Handles rows s.last s.elements x
handled_found limit rows s inside x values z e i v k f = λ j.
    let fs = rows ++ s.last ∷ [] in
    let is_values : values ≡ values_at fs x = k ∙ ap (λ (a : ℤ). values_at rows x ++ a ∷ []) (v ∙ ap (λ (t : SideLists). dot t.last x) e) ∙ sym (values_split rows s.last x) in
    let table : inside.values ≡ map (values_at fs) s.elements = ap (λ (t : SideLists). t.values) e ∙ i.values in
    let g = subst (λ (u : Vector). HasAnyBelow (map (values_at fs) s.elements) u) is_values (subst (λ (ts : List Vector). HasAnyBelow ts values) table f) in
    let place = g.place in
    let inside_list : place < length s.elements = omega (arith, g.inside, length-map s.elements (values_at fs)) in
    let c = contains_at s.elements place [] inside_list in
    let b = subst (λ (u : Vector). IsBelow u (values_at fs x)) (get_or-map (values_at fs) s.elements place [] [] inside_list) g.below in
    subst (Contains s.elements) (found_same rows s.last (get_or s.elements place []) x (Each-contains (IsSideElement rows s.last) s.elements (get_or s.elements place []) i.elements c) b j) c

-- what may be kept is irreducible
pub kept_irreducible : (limit : ℕ) (rows : List Vector) (s inside : SideLists) (x values : Vector) (z : ℤ) → inside ≡ s → IsSide limit rows s → z ≡ dot inside.last x → values ≡ values_at rows x ++ z ∷ [] → ¬ (z <ℤ pos 0) → NoneIsBelow inside.values values → Keeps rows s.last s.elements x → IsSideElement rows s.last x
kept_irreducible limit rows s inside x values z e i v k up none keeps =
    let fs = rows ++ s.last ∷ [] in
    let at_last : z ≡ dot s.last x = v ∙ ap (λ (t : SideLists). dot t.last x) e in
    let is_values : values ≡ values_at fs x = k ∙ ap (λ (a : ℤ). values_at rows x ++ a ∷ []) at_last ∙ sym (values_split rows s.last x) in
    let table : inside.values ≡ map (values_at fs) s.elements = ap (λ (t : SideLists). t.values) e ∙ i.values in
    keeps (nonneg z (dot s.last x) at_last up) (subst (NoneIsBelow (map (values_at fs) s.elements)) is_values (subst (λ (ts : List Vector). NoneIsBelow ts values) table none))
  where
    nonneg : (a b : ℤ) → a ≡ b → ¬ (a <ℤ pos 0) → pos 0 ≤ℤ b
    nonneg a b e n = subst (λ (t : ℤ). pos 0 ≤ℤ t) e (by_lt_z a (pos 0) (λ (l : a <ℤ pos 0). absurd (n l)) (λ (k : pos 0 ≤ℤ a). k))

pub values_of_side : (rows : List Vector) (s inside : SideLists) (x values : Vector) (z : ℤ) → inside ≡ s → z ≡ dot inside.last x → values ≡ values_at rows x ++ z ∷ [] → values ≡ values_at (rows ++ s.last ∷ []) x
values_of_side rows s inside x values z e v k = k ∙ ap (λ (a : ℤ). values_at rows x ++ a ∷ []) (v ∙ ap (λ (t : SideLists). dot t.last x) e) ∙ sym (values_split rows s.last x)

pub grown_kept : (limit : ℕ) (rows : List Vector) (old new : SideLists) (x : Vector) → IsSide limit rows new → new.last ≡ old.last → new.elements ≡ old.elements ++ x ∷ [] → HasGrown limit rows old new × Handles rows old.last new.elements x
grown_kept limit rows old new x s l e = (
  record { side = s; last = l; more = x ∷ []; extends = e },
  λ i. subst (λ (es : List Vector). Contains es x) (sym e) (Contains-append_right old.elements (x ∷ []) x (contains_here x [])),
)
