-- The start of elimination and its end: a common zero of the rows, or a complete dual pair of rows.
use Rattle.std.proofs.Common.{◌≡◌, ◌≢◌, ℕ, zero, suc, ◌⊎◌, inl, inr, List, [], ◌∷◌, ◌++◌, length, map, ℤ, pos, neg_ℤ, refl, ap, ◌∙◌, subst, arith}
use Rattle.std.proofs.lemmas.List.{append-nil}
use Rattle.std.proofs.Math.IntN.{*ℤ-zero, zero-*ℤ}
use Rattle.std.specs.List.{AllByRecursion as Each}
use Rattle.nz_spec.specs.Vectors.{Vector, dot, plus, scaled, zero_vector, HasWidth, IsZero}
use Rattle.nz_spec.proofs.SumLaws.{length-zero_vector}
use Rattle.nz_linear.specs.DualPairs.{Pair, pair_of, divisor, IsApart, HasWidths, IsDual, IsDualPair, AllVanish, OnlyZero}
use Rattle.nz_linear.specs.Elimination.{IsPivotStep, IsCleared, IsState, shifted, unit_pairs, CommonZero, DualOfRows}
use Rattle.nz_linear.proofs.Ring.{sums, one-mul}
use Rattle.nz_linear.proofs.Signs.{signed}
use Rattle.nz_linear.proofs.Lists.{each_map, each_left, each_right, each_remove, zip_map}
use Rattle.nz_spec.proofs.VectorLaws.{dot-IsZero, dot-scaled, dot-zero, zero-dot, one-scaled, int_is_zero}
use Rattle.nz_linear.proofs.VectorLaws.{cons_same, length-plus, length-scaled}
use Rattle.nz_linear.proofs.DualPairs.{dual_right}
use Rattle.nz_linear.proofs.Elimination.{skip_keeps, pivot_keeps}

-- ---- the start
shifted_widths : (w : ℕ) (ps : List Pair) → Each (HasWidths w) ps → Each (HasWidths (suc w)) (map shifted ps)
shifted_widths w [] h = tt
shifted_widths w (p ∷ ps) h = (record { form_width = ap suc h.0.form_width; vector_width = ap suc h.0.vector_width }, shifted_widths w ps h.1)

shifted_value : (f v : Vector) → dot (pos 0 ∷ f) (pos 0 ∷ v) ≡ dot f v
shifted_value f v = omega (arith, sums)

shifted_apart : (p : Pair) (ps : List Pair) → Each (IsApart p) ps → Each (IsApart (shifted p)) (map shifted ps)
shifted_apart p [] h = tt
shifted_apart p (q ∷ ps) h = (record { there = shifted_value p.form q.vector ∙ h.0.there; back = shifted_value q.form p.vector ∙ h.0.back }, shifted_apart p ps h.1)

shifted_dual : (ps : List Pair) → IsDual ps → IsDual (map shifted ps)
shifted_dual [] d = tt
shifted_dual (p ∷ ps) d = (rw (shifted_value p.form p.vector) d.0, shifted_apart p ps d.1, shifted_dual ps d.2)

unit_apart : (w : ℕ) (ps : List Pair) → Each (IsApart (pair_of (pos 1 ∷ zero_vector w) (pos 1 ∷ zero_vector w))) (map shifted ps)
unit_apart w [] = tt
unit_apart w (q ∷ ps) =
    (record { there = omega (arith, sums, *ℤ-zero (pos 1), zero-dot w q.vector); back = omega (arith, sums, zero-*ℤ (pos 1), dot-zero q.form w) }, unit_apart w ps)

shifted_vanish : (a : ℤ) (x : Vector) (ps : List Pair) → AllVanish (map shifted ps) (a ∷ x) → AllVanish ps x
shifted_vanish a x [] v = tt
shifted_vanish a x (p ∷ ps) v = (omega (arith, sums, v.0, zero-*ℤ a), shifted_vanish a x ps v.1)

pub unit_dual : (w : ℕ) → IsDualPair w (unit_pairs w)
unit_dual zero = record { widths = tt; dual = tt }
unit_dual (suc w) =
    let s = unit_dual w in
    record {
      widths = (record { form_width = ap suc (length-zero_vector w); vector_width = ap suc (length-zero_vector w) }, shifted_widths w (unit_pairs w) s.widths);
      dual = (omega (arith, sums, zero-dot w (zero_vector w)), unit_apart w (unit_pairs w), shifted_dual (unit_pairs w) s.dual);
    }

pub unit_only_zero : (w : ℕ) → OnlyZero w (unit_pairs w)
unit_only_zero zero [] l v = refl
unit_only_zero zero (a ∷ x) l v = absurd (omega arith)
unit_only_zero (suc w) [] l v = absurd (omega arith)
unit_only_zero (suc w) (a ∷ x) l v =
    cons_same (omega (arith, sums, v.0, one-mul a, zero-dot w x)) (unit_only_zero w x (omega arith) (shifted_vanish a x (unit_pairs w) v.1))

pub start_state : (w : ℕ) → IsState w [] [] (unit_pairs w)
start_state w = record { pair = unit_dual w; only_zero = unit_only_zero w; from_seen = tt; free_vanish = each_map (HasWidths w) (λ (p : Pair). Unit {0}) (unit_pairs w) (λ p h. tt) (unit_dual w).widths }

-- ---- the pivot
pub record FoundPivot (h : Vector) (ps : List Pair) : Type 0 where
  pub before : List Pair
  pub pivot : Pair
  pub after : List Pair
  pub split : ps ≡ before ++ (pivot ∷ after)
  pub nonzero : dot h pivot.vector ≢ pos 0
  pub none_before : Each (λ p. dot h p.vector ≡ pos 0) before

pub find_pivot : (h : Vector) (ps : List Pair) → Each (λ p. dot h p.vector ≡ pos 0) ps ⊎ FoundPivot h ps
find_pivot h [] = inl tt
find_pivot h (p ∷ ps) = elim (int_is_zero (dot h p.vector)) [
  | inl z ↦ elim (find_pivot h ps) [
    | inl all ↦ inl (z, all)
    | inr f ↦ inr (record { before = p ∷ f.before; pivot = f.pivot; after = f.after; split = ap (λ t. p ∷ t) f.split; nonzero = f.nonzero; none_before = (z, f.none_before) })
  ]
  | inr n ↦ inr (record { before = []; pivot = p; after = ps; split = refl; nonzero = n; none_before = tt })
]

-- the cleared pair, with no factor taken out
abbrev pub clear : Vector → Vector → Pair → Pair
clear h u r = pair_of r.form (plus (scaled (dot h u) r.vector) (scaled (neg_ℤ (dot h r.vector)) u))

pub clear_is : (w : ℕ) (h u : Vector) (r : Pair) → length u ≡ w → HasWidths w r → IsCleared w h u r (clear h u r)
clear_is w h u r lu k = record {
  same_form = refl;
  width = length-plus w _ _ (length-scaled w (dot h u) r.vector k.vector_width) (length-scaled w (neg_ℤ (dot h r.vector)) u lu);
  factor = pos 1;
  positive = omega (arith, sums);
  same = one-scaled _;
}

-- a state after these rows
pub record SomeState (w : ℕ) (rows : List Vector) : Type 0 where
  pub chosen : List Pair
  pub free : List Pair
  pub state : IsState w rows chosen free

-- the vector of the pivot or its opposite, at which h is positive
abbrev pub turned : (h : Vector) (ps : List Pair) → FoundPivot h ps → Vector
turned h ps f = scaled (signed (dot h f.pivot.vector) f.nonzero).sign f.pivot.vector

-- the step at a pivot that was found
abbrev pub found_step : (w : ℕ) (h : Vector) (rows : List Vector) (chosen free : List Pair) (f : FoundPivot h free) → IsState w rows chosen free
    → IsPivotStep w h chosen free (pair_of h (turned h free f) ∷ map (clear h (turned h free f)) chosen) (map (clear h (turned h free f)) (f.before ++ f.after))
found_step w h rows chosen free f s =
    let g = signed (dot h f.pivot.vector) f.nonzero in
    let u = scaled g.sign f.pivot.vector in
    let wfree : Each (HasWidths w) (f.before ++ (f.pivot ∷ f.after)) = subst (Each (HasWidths w)) f.split (each_right (HasWidths w) chosen free s.pair.widths) in
    let wrest : Each (HasWidths w) (f.pivot ∷ (f.before ++ f.after)) = each_remove (HasWidths w) f.pivot f.before f.after wfree in
    let lu : length u ≡ w = length-scaled w g.sign f.pivot.vector wrest.0.vector_width in
    record {
      before = f.before;
      pivot = f.pivot;
      after = f.after;
      split = f.split;
      u = u;
      turned = record { sign = g.sign; same = refl; positive = rw (dot-scaled h g.sign f.pivot.vector) g.positive };
      cleared = map (clear h u) chosen;
      is_new = refl;
      clears_chosen = zip_map (IsCleared w h u) (clear h u) (HasWidths w) chosen (λ r k. clear_is w h u r lu k) (each_left (HasWidths w) chosen free s.pair.widths);
      clears_free = zip_map (IsCleared w h u) (clear h u) (HasWidths w) (f.before ++ f.after) (λ r k. clear_is w h u r lu k) wrest.1;
    }

pub run : (w : ℕ) (rows : List Vector) → Each (HasWidth w) rows → SomeState w rows
run w [] l = record { chosen = []; free = unit_pairs w; state = start_state w }
run w (h ∷ rows) l =
    let s = run w rows l.1 in
    elim (find_pivot h s.free) [
      | inl all ↦ record { chosen = s.chosen; free = s.free; state = skip_keeps w h rows s.chosen s.free s.state all }
      | inr f ↦ (
          let u = turned h s.free f in
          let chosen = pair_of h u ∷ map (clear h u) s.chosen in
          let free = map (clear h u) (f.before ++ f.after) in
          record { chosen = chosen; free = free; state = pivot_keeps w h rows s.chosen s.free chosen free l.0 s.state (found_step w h rows s.chosen s.free f s.state) })
    ]

-- what a state says at the end
pub outcome : (w : ℕ) (rows : List Vector) (chosen free : List Pair) → IsState w rows chosen free → CommonZero w rows ⊎ DualOfRows w rows
outcome w rows chosen [] s = inr (record {
  pairs = chosen;
  dual = subst (IsDualPair w) (append-nil chosen) s.pair;
  only_zero = subst (OnlyZero w) (append-nil chosen) s.only_zero;
  from_rows = s.from_seen;
})
outcome w rows chosen (b ∷ free) s =
    let d : IsDual (b ∷ free) = dual_right chosen (b ∷ free) s.pair.dual in
    let wd : Each (HasWidths w) (b ∷ free) = each_right (HasWidths w) chosen (b ∷ free) s.pair.widths in
    inl (record {
      point = b.vector;
      width = wd.0.vector_width;
      nonzero = λ (e : IsZero b.vector). let z : divisor b ≡ pos 0 = dot-IsZero b.form b.vector e in omega (arith, sums, d.0);
      zero = s.free_vanish.0;
    })

-- rows of one width vanish together at a nonzero vector, or some of them are the forms of a complete dual pair
pub common_zero_or_dual : (w : ℕ) (rows : List Vector) → Each (HasWidth w) rows → CommonZero w rows ⊎ DualOfRows w rows
common_zero_or_dual w rows l = let s = run w rows l in outcome w rows s.chosen s.free s.state
