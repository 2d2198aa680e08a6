-- The base of a face, as rows are cut one by one; and vectors with their coordinates.
use Rattle.std.proofs.Common.{◌≡◌, ◌⊎◌, inl, inr, ⊎_elim, ℕ, zero, suc, ◌+◌, ◌<◌, ◌≤◌, List, [], ◌∷◌, ◌++◌, length, map, take, get_or, ℤ, pos, Contains, refl, sym, ap, ap₂, ◌∙◌, subst, arith}
use Rattle.std.proofs.lemmas.List.{take_more, take_all, map-append}
use Rattle.std.proofs.lemmas.List.Elements.{Contains-append_left, Contains-append_right, Contains-get_or}
use Rattle.std.specs.List.{AllByRecursion as Each}
use Rattle.nz_spec.specs.Vectors.{Vector, dot, plus, scaled, zero_vector, unit_vectors, combination, HasWidth}
use Rattle.nz_spec.specs.Sums.{IsInGroup, IsIndependent}
use Rattle.nz_spec.proofs.ListLaws.{contains_here, contains_there, contains_cases, contains_none, Each-contains, Each-from_contains}
use Rattle.nz_spec.proofs.VectorLaws.{zero-plus, scaled-zero, int_is_zero}
use Rattle.nz_spec.proofs.SumLaws.{length-combination}
use Rattle.nz_linear.proofs.Lists.{each_append}
use Rattle.nz_linear.proofs.VectorLaws.{cons_same}
use Rattle.nz_linear.proofs.Ring.{sums, mul-one}
use Rattle.std.proofs.Math.IntN.{*ℤ-zero}
use Rattle.nz_sweep.specs.Bases.{Base}
use Rattle.nz_sweep.proofs.BaseLemmas.{units_are_base}
use Rattle.nz_linear.specs.Coordinates.{in_coordinates}
use Rattle.nz_primal.specs.Parts.{IsSecond, IsCutAt}
use Rattle.nz_sweep.specs.Cuts.{IsCut}
use Rattle.nz_primal.specs.Second.{VanishesOn, IsFaceBase, HaveCoordinates}

-- ---- all vectors
shifted_sum : (w : ℕ) (ks : List ℤ) (us : List Vector) → combination (suc w) ks (map (λ u. pos 0 ∷ u) us) ≡ pos 0 ∷ combination w ks us
shifted_sum w [] us = refl
shifted_sum w (k ∷ ks) [] = refl
shifted_sum w (k ∷ ks) (u ∷ us) =
    ap (plus (scaled k (pos 0 ∷ u))) (shifted_sum w ks us) ∙ cons_same (let e = *ℤ-zero k in omega (arith, sums, e)) refl

own_sum : (w : ℕ) (x : Vector) → HasWidth w x → combination w x (unit_vectors w) ≡ x
own_sum zero [] l = refl
own_sum zero (a ∷ x) l = absurd (let b : ⊥ = omega (arith, l) in b)
own_sum (suc w) [] l = absurd (let b : ⊥ = omega (arith, l) in b)
own_sum (suc w) (a ∷ x) l =
    let lx : length x ≡ w = omega (arith, l) in
    ap (plus (scaled a (pos 1 ∷ zero_vector w))) (shifted_sum w x (unit_vectors w)) ∙ cons_same (let e = mul-one a in omega (arith, sums, e)) (ap₂ plus (scaled-zero a w) (own_sum w x lx) ∙ zero-plus x w lx)

units_length : (w : ℕ) → length (unit_vectors w) ≡ w
units_length zero = refl
units_length (suc w) = ap suc (mapped (unit_vectors w) ∙ units_length w)
  where
    mapped : (us : List Vector) → length (map (λ u. pos 0 ∷ u) us) ≡ length us
    mapped [] = refl
    mapped (u ∷ us) = ap suc (mapped us)

pub face_start : (w : ℕ) (rows rays base : List Vector) → base ≡ unit_vectors w → Each (HasWidth w) base → IsIndependent w base → IsFaceBase w (take 0 rows) rays base
face_start w rows rays base e l free = record {
  widths = l;
  independent = free;
  same = λ x. (
    λ f. record { factors = x; one_each = f.0 ∙ sym (ap length e ∙ units_length w); same = ap (combination w x) e ∙ own_sum w x f.0 },
    λ g. (ap length (sym g.same) ∙ length-combination w g.factors base l, λ row c z. absurd (contains_none row c)),
  );
}

-- ---- one row more
last_or_before : (done : List Vector) (row r : Vector) → Contains (done ++ row ∷ []) r → Contains done r ⊎ (row ≡ r)
last_or_before [] row r k = ⊎_elim (λ e. inr e) (λ d. absurd (contains_none r d)) (contains_cases row [] r k)
last_or_before (d ∷ done) row r k = elim (contains_cases d (done ++ row ∷ []) r k) [
  | inl e ↦ inl (subst (Contains (d ∷ done)) e (contains_here d done))
  | inr c ↦ ⊎_elim (λ b. inl (contains_there d r done b)) (λ e. inr e) (last_or_before done row r c)
]

face_added_cut : (w : ℕ) (done rays base after : List Vector) (row : Vector) → VanishesOn rays row → IsCut (λ x. dot row x ≡ pos 0) w base after → IsFaceBase w done rays base → IsFaceBase w (done ++ row ∷ []) rays after
face_added_cut w done rays base after row v c f = record {
  widths = c.widths;
  independent = c.independent;
  same = λ x. (
    λ i. (c.same x).0 ((f.same x).0 (i.0, λ r k z. i.1 r (Contains-append_left done (row ∷ []) r k) z), i.1 row (Contains-append_right done (row ∷ []) row (contains_here row [])) v),
    λ g. let p = (c.same x).1 g in
        let i = (f.same x).1 p.0 in
        (i.0, λ r k z. ⊎_elim (λ d. i.1 r d z) (λ e. subst (λ s. dot s x ≡ pos 0) e p.1) (last_or_before done row r k)),
  );
}

face_added_other : (w : ℕ) (done rays base : List Vector) (row : Vector) → ¬ VanishesOn rays row → IsFaceBase w done rays base → IsFaceBase w (done ++ row ∷ []) rays base
face_added_other w done rays base row v f = record {
  widths = f.widths;
  independent = f.independent;
  same = λ x. (
    λ i. (f.same x).0 (i.0, λ r k z. i.1 r (Contains-append_left done (row ∷ []) r k) z),
    λ g. let i = (f.same x).1 g in
        (i.0, λ r k z. ⊎_elim (λ d. i.1 r d z) (λ e. absurd (v (subst (VanishesOn rays) (sym e) z))) (last_or_before done row r k)),
  );
}

pub face_cut : (w : ℕ) (rows rays base after : List Vector) (i : ℕ) (row : Vector) → i < length rows → row ≡ get_or rows i [] → VanishesOn rays row → IsCut (λ x. dot row x ≡ pos 0) w base after → IsFaceBase w (take i rows) rays base → IsFaceBase w (take (i + 1) rows) rays after
face_cut w rows rays base after i row l e v c f = subst (λ done. IsFaceBase w done rays after) (ap (λ r. take i rows ++ r ∷ []) e ∙ sym (take_more rows i [] l)) (face_added_cut w (take i rows) rays base after row v c f)

pub face_other : (w : ℕ) (rows rays base : List Vector) (i : ℕ) (row : Vector) → i < length rows → row ≡ get_or rows i [] → ¬ VanishesOn rays row → IsFaceBase w (take i rows) rays base → IsFaceBase w (take (i + 1) rows) rays base
face_other w rows rays base i row l e v f = subst (λ done. IsFaceBase w done rays base) (ap (λ r. take i rows ++ r ∷ []) e ∙ sym (take_more rows i [] l)) (face_added_other w (take i rows) rays base row v f)

pub face_all : (w : ℕ) (rows rays base : List Vector) (i : ℕ) → length rows ≤ i → IsFaceBase w (take i rows) rays base → IsFaceBase w rows rays base
face_all w rows rays base i l f = subst (λ done. IsFaceBase w done rays base) (take_all i rows l) f

-- ---- coordinates of one vector more
pub coordinates_more : (w : ℕ) (base before after vectors : List Vector) (i : ℕ) (c v : Vector) → i < length vectors → v ≡ get_or vectors i [] → (length c ≡ length base) × (combination w c base ≡ v) → after ≡ before ++ c ∷ [] → HaveCoordinates w base before (take i vectors) → HaveCoordinates w base after (take (i + 1) vectors)
coordinates_more w base before after vectors i c v l e k a h = record {
  widths = subst (Each (HasWidth (length base))) (sym a) (each_append (HasWidth (length base)) before (c ∷ []) h.widths (k.0, tt));
  same = ap (map (λ d. combination w d base)) a ∙ map-append (λ d. combination w d base) before (c ∷ []) ∙ ap₂ (λ us u. us ++ u ∷ []) h.same (k.1 ∙ e) ∙ sym (take_more vectors i [] l);
}

-- ---- the steps of the code
pub face_from_units : (w n : ℕ) (rows rays base : List Vector) → (n ≡ w) × (base ≡ unit_vectors w) → (n ≡ w) × IsFaceBase w (take 0 rows) rays base
face_from_units w n rows rays base e = let b = units_are_base w base [] e.1 in (e.0, face_start w rows rays base e.1 b.widths b.independent)

vanishes_or_not : (rays : List Vector) (row : Vector) → VanishesOn rays row ⊎ (¬ VanishesOn rays row)
vanishes_or_not [] row = inl tt
vanishes_or_not (v ∷ rays) row = elim (int_is_zero (dot row v)) [
  | inr n ↦ inr (λ z. n z.0)
  | inl e ↦ ⊎_elim (λ z. inl (e, z)) (λ n. inr (λ z. n z.1)) (vanishes_or_not rays row)
]

pub face_step : (w : ℕ) (rows rays : List Vector) (i : ℕ) (row : Vector) (before after : Base) → i < length rows → row ≡ get_or rows i [] → IsCutAt row rays before after → (before.width ≡ w) × IsFaceBase w (take i rows) rays before.vectors → (after.width ≡ w) × IsFaceBase w (take (i + 1) rows) rays after.vectors
face_step w rows rays i row before after l e c h = (
  c.width ∙ h.0,
  ⊎_elim
      (λ z. face_cut w rows rays before.vectors after.vectors i row l e z (subst (λ (n : ℕ). IsCut (λ x. dot row x ≡ pos 0) n before.vectors after.vectors) h.0 (c.zero z)) h.1)
      (λ n. face_other w rows rays after.vectors i row l e n (subst (λ (b : Base). IsFaceBase w (take i rows) rays b.vectors) (sym (c.other n)) h.1))
      (vanishes_or_not rays row),
)

pub coordinates_start : (w : ℕ) (base list vectors : List Vector) → list ≡ [] → HaveCoordinates w base list (take 0 vectors)
coordinates_start w base list vectors e = subst (λ (cs : List Vector). HaveCoordinates w base cs []) (sym e) (record { widths = tt; same = refl })

pub coordinates_all : (w : ℕ) (base list vectors : List Vector) (i : ℕ) → length vectors ≤ i → HaveCoordinates w base list (take i vectors) → HaveCoordinates w base list vectors
coordinates_all w base list vectors i l h = subst (HaveCoordinates w base list) (take_all i vectors l) h

pub rays_inside : (w n : ℕ) (rows rays base : List Vector) → (n ≡ w) × IsFaceBase w rows rays base → Each (HasWidth w) rays → Each (IsInGroup n base) rays
rays_inside w n rows rays base f l = subst (λ (m : ℕ). Each (IsInGroup m base) rays) (sym f.0) (Each-from_contains (IsInGroup w base) rays (λ x c. (f.1.same x).0 (Each-contains (HasWidth w) rays x l c, λ row k z. Each-contains (λ v. dot row v ≡ pos 0) rays x z c)))

pub widths_here : (w n : ℕ) (vs : List Vector) → n ≡ w → Each (HasWidth w) vs → Each (HasWidth n) vs
widths_here w n vs e l = subst (λ (m : ℕ). Each (HasWidth m) vs) (sym e) l

pub width_at : (w n i : ℕ) (vs : List Vector) (v : Vector) → n ≡ w → Each (HasWidth w) vs → i < length vs → v ≡ get_or vs i [] → length v ≡ n
width_at w n i vs v e l b k = ap length k ∙ Each-contains (HasWidth w) vs (get_or vs i []) l (Contains-get_or vs i [] b) ∙ sym e

pub second_found : (w : ℕ) (rows rays : List Vector) (base : Base) (coordinates second_rows : List Vector) → (base.width ≡ w) × IsFaceBase w rows rays base.vectors → HaveCoordinates base.width base.vectors coordinates rays → second_rows ≡ map (λ h. in_coordinates base.vectors h) rows → IsSecond w rows rays base coordinates second_rows
second_found w rows rays base coordinates second_rows f h e = record { width = f.0; is_base = f.1; have = subst (λ (m : ℕ). HaveCoordinates m base.vectors coordinates rays) f.0 h; rows_there = e }
