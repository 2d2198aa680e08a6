-- Two rays with too few rows that are 0 at both are not adjacent.
use Rattle.std.proofs.Common.{◌≡◌, ◌≢◌, ◌⊎◌, inl, inr, ⊎_elim, ℕ, zero, suc, ◌+◌, ◌-◌, ◌<◌, ◌≤◌, List, [], ◌∷◌, length, map, get_or, ℤ, pos, neg_ℤ, negsuc, ◌*ℤ◌, ◌+ℤ◌, ◌≤ℤ◌, ◌<ℤ◌, sym, ap, ◌∙◌, subst, arith}
use Rattle.std.specs.List.{AllByRecursion as Each, Contains}
use Rattle.std.proofs.Math.IntN.{*ℤ-zero}
use Rattle.std.proofs.lemmas.Int.{ints}
use Rattle.std.proofs.lemmas.List.{length-map}
use Rattle.nz_spec.specs.Vectors.{Vector, HasWidth, dot, plus, scaled, zero_vector, IsZero, IsNonzero}
use Rattle.nz_spec.specs.Order.{Pairwise, IsListOf}
use Rattle.nz_spec.specs.Covers.{vectors_at}
use Rattle.nz_spec.proofs.VectorLaws.{dot-scaled, dot-IsZero, int_is_zero, IsZero-zero_vector}
use Rattle.nz_spec.proofs.SumLaws.{length-zero_vector}
use Rattle.nz_spec.proofs.ListLaws.{Each-contains, contains_here, contains_there, different_within}
use Rattle.nz_linear.specs.Cones.{Satisfies, meet}
use Rattle.nz_linear.specs.Coordinates.{in_coordinates}
use Rattle.nz_linear.specs.DualPairs.{Pair, IsApart, IsDual}
use Rattle.nz_linear.specs.Elimination.{CommonZero, DualOfRows}
use Rattle.nz_linear.specs.Extreme.{VanishesWith, IsPointed}
use Rattle.nz_linear.specs.DoubleDescription.{IsExtremeByZeros}
use Rattle.nz_linear.proofs.Ring.{sums, ring_z, mul-one}
use Rattle.nz_linear.proofs.Signs.{mul_le, mul_is_zero, cancel_mul}
use Rattle.nz_linear.proofs.Lists.{each_map, each_map3, each_of_map}
use Rattle.nz_linear.proofs.VectorLaws.{length-plus, length-scaled, dot-plus, same_values}
use Rattle.nz_linear.proofs.Dependence.{complete_length}
use Rattle.nz_linear.proofs.EliminationRun.{common_zero_or_dual}
use Rattle.nz_linear.proofs.ExtremeRays.{adjacent_extreme}
use Rattle.nz_linear.proofs.Farkas.{meet_width, meet_sound}
use Rattle.nz_linear.proofs.DoubleDescription.{meet_at, both_vanish, same_at}
use Rattle.nz_linear.proofs.RayStart.{pointed_more}
use Rattle.nz_linear.proofs.Splitting.{enough_of}
use Rattle.nz_pointed.proofs.ListLemmas.{each_at}
use Rattle.nz_rays.specs.declared.crossings.Crossing.{Crossing}
use Rattle.nz_rays.specs.Descriptions.{IsDouble, AreZeros}
use Rattle.nz_rays.specs.Crossings.{IsThird, HasThird, FewAreCovered}
use Rattle.nz_rays.proofs.PlaceLemmas.{zip_at, same_or_not, contains_or_not}
use Rattle.nz_rays.proofs.CutLemmas.{each_from_at, contains_map, crossed, adjacent_of, at_place}

-- ---- an extreme vector needs rows
-- the forms of a dual pair are all different
forms_differ : (ps : List Pair) → IsDual ps → Pairwise ◌≢◌ (map (λ (p : Pair). p.form) ps)
forms_differ [] d = tt
forms_differ (p ∷ ps) d = (
  each_of_map (λ (q : Pair). q.form) (λ f. p.form ≢ f) ps (each_map (IsApart p) (λ (q : Pair). p.form ≢ q.form) ps (λ q a e. let h = ap (λ f. dot f p.vector) e ∙ a.back in let u = d.0 in let b : ⊥ = omega (arith, ints, h, u) in b) d.1),
  forms_differ ps d.2,
)

-- fewer rows than entries are all 0 at some nonzero vector
few_vanish : (w : ℕ) (fs : List Vector) → Each (HasWidth w) fs → length fs < w → CommonZero w fs
few_vanish w fs l few = ⊎_elim (λ z. z) (λ (d : DualOfRows w fs). absurd (
    let n = complete_length w d.pairs d.dual d.only_zero in
    let k = different_within (map (λ (p : Pair). p.form) d.pairs) fs (forms_differ d.pairs d.dual.dual) (each_of_map (λ (p : Pair). p.form) (Contains fs) d.pairs d.from_rows) in
    let m = length-map d.pairs (λ (p : Pair). p.form) in
    let b : ⊥ = omega arith in b)) (common_zero_or_dual w fs l)

-- some row is not 0 at x, or all are
record SomeNonzero (rows : List Vector) (x : Vector) : Type 0 where
  row : Vector
  has : Contains rows row
  nonzero : dot row x ≢ pos 0

nonzero_or_all : (rows : List Vector) (x : Vector) → SomeNonzero rows x ⊎ Each (λ a. dot a x ≡ pos 0) rows
nonzero_or_all [] x = inr tt
nonzero_or_all (a ∷ rows) x = ⊎_elim
    (λ e. ⊎_elim (λ s. inl (record { row = s.row; has = contains_there a s.row rows s.has; nonzero = s.nonzero })) (λ z. inr (e, z)) (nonzero_or_all rows x))
    (λ n. inl (record { row = a; has = contains_here a rows; nonzero = n })) (int_is_zero (dot a x))

-- ---- numbers
above_zero : (N A X : ℤ) → pos 1 ≤ℤ N → pos 0 ≤ℤ A → (A ≡ pos 0 → X ≡ pos 0) → (negsuc 0 *ℤ X) ≤ℤ N → pos 0 ≤ℤ (N *ℤ A +ℤ X)
above_zero N A X one up gone low = elim (int_is_zero A) [
  | inl e ↦ (let x = gone e in omega (arith, ints, ap (λ t. N *ℤ t) e, *ℤ-zero N, x))
  | inr d ↦ (let big : pos 1 ≤ℤ A = omega (arith, sums) in let k = mul_le N (pos 1) A (omega (arith, sums)) big in omega (arith, ints, k, mul-one N, low))
]

factor_is : (M N G F X : ℤ) → pos 0 <ℤ G → M *ℤ (N *ℤ G +ℤ X) ≡ F *ℤ G → X ≡ pos 0 → G *ℤ F ≡ G *ℤ (M *ℤ N)
factor_is M N G F X up e z =
    let f : M *ℤ (N *ℤ G +ℤ pos 0) ≡ F *ℤ G = ap (λ t. M *ℤ (N *ℤ G +ℤ t)) (sym z) ∙ e in
    let k = simp ring_z at f in
    simp ring_z (omega (arith, sums, k))

left_zero : (M N V X F : ℤ) → F ≡ M *ℤ N → M *ℤ (N *ℤ V +ℤ X) ≡ F *ℤ V → M *ℤ X ≡ pos 0
left_zero M N V X F e f =
    let g : M *ℤ (N *ℤ V +ℤ X) ≡ (M *ℤ N) *ℤ V = f ∙ ap (λ t. t *ℤ V) e in
    let k = simp ring_z at g in
    omega (arith, sums, k)

-- what is 0 where an extreme vector is, and at a row that is positive there, is 0
apart_is_zero : (w : ℕ) (rows : List Vector) (m x g : Vector) → length m ≡ w → length x ≡ w → Satisfies rows m → Each (λ a. dot a m ≡ pos 0 → dot a x ≡ pos 0) rows → IsExtremeByZeros w rows m → pos 0 <ℤ dot g m → dot g x ≡ pos 0 → x ≡ zero_vector w
apart_is_zero w rows m x g lm lx sm zx e up gx =
    let n = enough_of rows (scaled (negsuc 0) x) in
    let N = n.0 in
    let y = plus (scaled N m) x in
    let ly : length y ≡ w = length-plus w (scaled N m) x (length-scaled w N m lm) lx in
    let value : (a : Vector) → dot a y ≡ N *ℤ dot a m +ℤ dot a x = λ a. dot-plus w a (scaled N m) x (length-scaled w N m lm) lx ∙ ap (λ t. t +ℤ dot a x) (dot-scaled a N m) in
    let vy : VanishesWith rows m y = each_map (λ a. dot a m ≡ pos 0 → dot a x ≡ pos 0) (λ a. dot a m ≡ pos 0 → dot a y ≡ pos 0) rows (λ a f z. value a ∙ omega (arith, sums, f z, ap (λ t. N *ℤ t) z, *ℤ-zero N)) zx in
    let sy : Satisfies rows y = each_map3 (λ a. pos 0 ≤ℤ dot a m) (λ a. dot a m ≡ pos 0 → dot a x ≡ pos 0) (λ a. dot a (scaled (negsuc 0) x) ≤ℤ N) (λ a. pos 0 ≤ℤ dot a y) rows
    (λ a p f l. rw (value a) (above_zero N (dot a m) (dot a x) n.1 p f (rw (dot-scaled a (negsuc 0) x) at l))) sm zx n.2 in
    let r = e y ly sy vy in
    let at_form : (a : Vector) → r.multiple *ℤ (N *ℤ dot a m +ℤ dot a x) ≡ r.factor *ℤ dot a m = λ a. ap (λ t. r.multiple *ℤ t) (sym (value a)) ∙ same_at r.multiple r.factor y m r.same a in
    let f : r.factor ≡ r.multiple *ℤ N = cancel_mul (dot g m) r.factor (r.multiple *ℤ N) up (factor_is r.multiple N (dot g m) r.factor (dot g x) up (at_form g) gx) in
    same_values w x (zero_vector w) lx (length-zero_vector w)
    (λ a. mul_is_zero r.multiple (dot a x) r.positive (left_zero r.multiple N (dot a m) (dot a x) r.factor f (at_form a)) ∙ sym (dot-IsZero a (zero_vector w) (IsZero-zero_vector w)))

-- the rows that are 0 at an extreme vector are at most one less than its entries
pub extreme_needs : (w : ℕ) (rows fs : List Vector) (m : Vector) → Each (HasWidth w) rows → Each (HasWidth w) fs → IsPointed w rows → length m ≡ w → Satisfies rows m → IsNonzero m → Each (λ a. dot a m ≡ pos 0 → Contains fs a) rows → IsExtremeByZeros w rows m → length fs + 1 < w → ⊥
extreme_needs w rows fs m lr lf pt lm sm nm zeros e few = ⊎_elim by_row (λ z. nm (subst IsZero (sym (pt m lm z)) (IsZero-zero_vector w))) (nonzero_or_all rows m)
  where
    by_row : SomeNonzero rows m → ⊥
    by_row s =
        let g = s.row in
        let c = few_vanish w (g ∷ fs) (Each-contains (HasWidth w) rows g lr s.has, lf) (omega arith) in
        let p = Each-contains (λ a. pos 0 ≤ℤ dot a m) rows g sm s.has in
        let n = s.nonzero in
        c.nonzero (subst IsZero (sym (apart_is_zero w rows m c.point g lm c.width sm
        (each_map (λ a. dot a m ≡ pos 0 → Contains fs a) (λ a. dot a m ≡ pos 0 → dot a c.point ≡ pos 0) rows (λ a f z. Each-contains (λ b. dot b c.point ≡ pos 0) fs a c.zero.1 (f z)) zeros)
        e (omega (arith, ints, p, n)) c.zero.0)) (IsZero-zero_vector w))

-- ---- a third ray is there or none
all_or_not : (xs ys : List ℕ) → Each (Contains xs) ys ⊎ ¬ Each (Contains xs) ys
all_or_not xs [] = inl tt
all_or_not xs (y ∷ ys) = ⊎_elim (λ c. ⊎_elim (λ e. inl (c, e)) (λ n. inr (λ e. n e.1)) (all_or_not xs ys)) (λ n. inr (λ e. n e.0)) (contains_or_not xs y)

third_or_not : (zeros : List (List ℕ)) (common : List ℕ) (above below place : ℕ) → IsThird zeros common above below place ⊎ ¬ IsThird zeros common above below place
third_or_not zeros common above below place = ⊎_elim (λ e. inr (λ t. t.not_above e))
    (λ na. ⊎_elim (λ e. inr (λ t. t.not_below e))
    (λ nb. ⊎_elim (λ c. inl (record { not_above = na; not_below = nb; covers = c })) (λ n. inr (λ t. n t.covers)) (all_or_not (get_or zeros place []) common)) (same_or_not place below)) (same_or_not place above)

third_below : (zeros : List (List ℕ)) (common : List ℕ) (above below n : ℕ) → n ≤ length zeros → HasThird zeros common above below ⊎ ((place : ℕ) → place < n → ¬ IsThird zeros common above below place)
third_below zeros common above below zero l = inr (λ place b. absurd (let f : ⊥ = omega arith in f))
third_below zeros common above below (suc n) l = ⊎_elim (λ t. inl (record { place = n; within = omega arith; third = t }))
    (λ no. ⊎_elim (λ h. inl h) (λ rest. inr (λ place b. ⊎_elim (λ s. rest place s) (λ e t. no (subst (IsThird zeros common above below) e t)) (less_or_same place n b))) (third_below zeros common above below n (omega arith)))
    (third_or_not zeros common above below n)
  where
    less_or_same : (i j : ℕ) → i < suc j → (i < j) ⊎ (i ≡ j)
    less_or_same i j h = grind arith

-- ---- few common places
-- the rows that are 0 at a sum of two rays are 0 at both, or the new one
sum_rows : (w : ℕ) (h : Vector) (rows : List Vector) (p n : Vector) (zp zn common : List ℕ) → length p ≡ w → length n ≡ w → Satisfies rows p → Satisfies rows n → pos 0 <ℤ dot h p → dot h n <ℤ pos 0 → AreZeros rows p zp → AreZeros rows n zn → IsListOf ◌<◌ (λ k. Contains zp k × Contains zn k) common
    → Each (λ a. dot a (meet h p n) ≡ pos 0 → Contains (h ∷ vectors_at rows common) a) (h ∷ rows)
sum_rows w h rows p n zp zn common lp ln sp sn up down ep en l = (
  (λ z. contains_here h (vectors_at rows common)),
  each_from_at (λ a. dot a (meet h p n) ≡ pos 0 → Contains (h ∷ vectors_at rows common) a) [] rows
      (λ k lk z.
      let a = get_or rows k [] in
      let b = both_vanish (dot h p) (neg_ℤ (dot h n)) (dot a n) (dot a p) up (omega (arith, sums)) (each_at (λ r. pos 0 ≤ℤ dot r n) [] rows k sn lk) (each_at (λ r. pos 0 ≤ℤ dot r p) [] rows k sp lk) (sym (meet_at w h p n a lp ln) ∙ z) in
      contains_there h a (vectors_at rows common) (contains_map (λ j. get_or rows j []) common k (l.each k (ep.each k (record { within = lk; zero = b.1 }), en.each k (record { within = lk; zero = b.0 }))))),
)

vectors_wide : (w : ℕ) (rows : List Vector) (common : List ℕ) → Each (HasWidth w) rows → Each (λ k. k < length rows) common → Each (HasWidth w) (vectors_at rows common)
vectors_wide w rows common l e = each_of_map (λ k. get_or rows k []) (HasWidth w) common (each_map (λ k. k < length rows) (λ k. HasWidth w (get_or rows k [])) common (λ k b. each_at (HasWidth w) [] rows k l b) e)

pub few_covered : (w needed : ℕ) (h : Vector) (rows rays : List Vector) (zeros : List (List ℕ)) → length h ≡ w → needed ≡ w - 2 → IsDouble (record { width = w; rows = rows; rays = rays }) zeros → FewAreCovered (in_coordinates rays h) zeros needed
few_covered w needed h rows rays zeros lh en d above below s common m few =
    let c : Crossing = record { above = above; below = below; zeros = common } in
    let k = crossed w h rows rays c d.description s in
    let p = get_or rays above [] in
    let n = get_or rays below [] in
    let ex = d.description.extreme.description in
    let zp = zip_at (AreZeros rows) [] [] rays zeros above d.exact k.above_in in
    let zn = zip_at (AreZeros rows) [] [] rays zeros below d.exact k.below_in in
    ⊎_elim (λ t. record { common = common; is_common = m; other = t })
    (λ none. absurd (
    let adjacent = adjacent_of rows rays zeros c d.exact k.above_in k.below_in m none in
    let inside = meet_sound w h rows p n k.width_p k.width_n k.under k.over k.sound_p k.sound_n in
    let within : Each (λ j. j < length rows) common = each_map (λ j. Contains (get_or zeros above []) j × Contains (get_or zeros below []) j) (λ j. j < length rows) common (λ j b. (at_place rows p (get_or zeros above []) j zp b.0).within) m.only in
    extreme_needs w (h ∷ rows) (h ∷ vectors_at rows common) (meet h p n) (lh, ex.row_widths) (lh, vectors_wide w rows common ex.row_widths within) (pointed_more w h rows d.description.pointed)
    (meet_width w h p n k.width_p k.width_n) inside k.nonzero (sum_rows w h rows p n (get_or zeros above []) (get_or zeros below []) common k.width_p k.width_n k.sound_p k.sound_n k.over k.under zp zn m)
    (adjacent_extreme w h rows rays p n k.width_p k.width_n ex k.sound_p k.sound_n k.under k.over adjacent)
    (let g = length-map common (λ j. get_or rows j []) in omega arith)))
    (third_below zeros common above below (length zeros) (omega arith))
