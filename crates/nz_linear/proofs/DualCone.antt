-- A complete dual pair is a description: its forms are the rows, its vectors the rays. This is the start of the double description.
use Rattle.std.proofs.Common.{◌≡◌, ℕ, zero, suc, List, [], ◌∷◌, length, map, ℤ, pos, ◌+ℤ◌, ◌*ℤ◌, ◌≤ℤ◌, refl, sym, ap, ◌∙◌, arith}
use Rattle.std.proofs.Math.IntN.{*ℤ-zero}
use Rattle.std.specs.List.{AllByRecursion as Each}
use Rattle.nz_spec.specs.Vectors.{Vector, dot, scaled, zero_vector, combination}
use Rattle.nz_spec.proofs.SumLaws.{length-zero_vector}
use Rattle.nz_spec.proofs.IntLaws.{mul-nonneg}
use Rattle.nz_spec.proofs.EquationLaws.{dot_comm}
use Rattle.nz_linear.specs.DualPairs.{Pair, pair_of, divisor, IsApart, HasWidths, IsDual, IsDualPair, OnlyZero, product, spread, spread_factors}
use Rattle.nz_linear.specs.Cones.{Satisfies, IsDoubleDescription}
use Rattle.nz_linear.proofs.Ring.{sums, ring_z, mul-one}
use Rattle.nz_linear.proofs.Lists.{each_map, each_of_map, map_each}
use Rattle.nz_spec.proofs.VectorLaws.{dot-zero, zero-dot, dot-scaled}
use Rattle.nz_linear.proofs.VectorLaws.{cons_same, length-scaled, scaled-dot, plus-dot, scaled_is_zero}
use Rattle.nz_linear.proofs.DualPairs.{product_positive, length-spread, value_step, expansion, spread_is, length-factors}
use Rattle.nz_linear.proofs.Elimination.{all_of_width, complete_of, spread_vanishes}

-- two forms with the same values at all vectors of their width are the same
pub same_forms : (w : ℕ) (f g : Vector) → length f ≡ w → length g ≡ w → ((x : Vector) → length x ≡ w → dot f x ≡ dot g x) → f ≡ g
same_forms w [] [] h k e = refl
same_forms w [] (b ∷ g) h k e = absurd (omega arith)
same_forms w (a ∷ f) [] h k e = absurd (omega arith)
same_forms zero (a ∷ f) (b ∷ g) h k e = absurd (omega arith)
same_forms (suc w) (a ∷ f) (b ∷ g) h k e =
    let first : a ≡ b = omega (arith, sums, e (pos 1 ∷ zero_vector w) (ap suc (length-zero_vector w)), mul-one a, mul-one b, dot-zero f w, dot-zero g w) in
    cons_same first (same_forms w f g (omega arith) (omega arith) (λ x l. omega (arith, sums, e (pos 0 ∷ x) (ap suc l), *ℤ-zero a, *ℤ-zero b)))

-- the vectors for forms, and the forms for vectors
abbrev pub swap : Pair → Pair
swap p = pair_of p.vector p.form

swapped_apart : (p : Pair) (ps : List Pair) → Each (IsApart p) ps → Each (IsApart (swap p)) (map swap ps)
swapped_apart p [] h = tt
swapped_apart p (q ∷ ps) h = (record { there = dot_comm p.vector q.form ∙ h.0.back; back = dot_comm q.vector p.form ∙ h.0.there }, swapped_apart p ps h.1)

pub swapped_dual : (ps : List Pair) → IsDual ps → IsDual (map swap ps)
swapped_dual [] d = tt
swapped_dual (p ∷ ps) d = (rw (dot_comm p.vector p.form) d.0, swapped_apart p ps d.1, swapped_dual ps d.2)

pub swapped_widths : (w : ℕ) (ps : List Pair) → Each (HasWidths w) ps → Each (HasWidths w) (map swap ps)
swapped_widths w [] h = tt
swapped_widths w (p ∷ ps) h = (record { form_width = h.0.vector_width; vector_width = h.0.form_width }, swapped_widths w ps h.1)

pub swapped_product : (ps : List Pair) → product (map swap ps) ≡ product ps
swapped_product [] = refl
swapped_product (p ∷ ps) = λ i. dot_comm p.vector p.form i *ℤ swapped_product ps i

-- the value of y at the spread of x is the value at x of the spread of y
pub spread_moves : (w : ℕ) (ps : List Pair) (x y : Vector) → Each (HasWidths w) ps → dot (spread w (map swap ps) y) x ≡ dot y (spread w ps x)
spread_moves w [] x y h = zero-dot w x ∙ sym (dot-zero y w)
spread_moves w (p ∷ ps) x y h =
    plus-dot w _ _ x (length-scaled w _ p.form h.0.form_width) (length-scaled w _ _ (length-spread w (map swap ps) y (swapped_widths w ps h.1)))
    ∙ (λ i. scaled-dot (swapped_product ps i *ℤ dot_comm p.vector y i) p.form x i +ℤ scaled-dot (dot_comm p.vector p.form i) (spread w (map swap ps) y) x i)
    ∙ shuffle (product ps) (dot y p.vector) (dot p.form x) (divisor p) _ _ (spread_moves w ps x y h.1)
    ∙ sym (value_step w p ps y x h.0 h.1)
  where
    shuffle : (D a b d s t : ℤ) → s ≡ t → (D *ℤ a) *ℤ b +ℤ d *ℤ s ≡ (D *ℤ b) *ℤ a +ℤ d *ℤ t
    shuffle D a b d s t e = ap (λ z. (D *ℤ a) *ℤ b +ℤ d *ℤ z) e ∙ simp ring_z (omega (arith, sums))

-- the expansion of a form by the forms of a complete dual pair
pub form_expansion : (w : ℕ) (ps : List Pair) (y : Vector) → IsDualPair w ps → OnlyZero w ps → length y ≡ w → scaled (product ps) y ≡ spread w (map swap ps) y
form_expansion w ps y d o ly = same_forms w _ _ (length-scaled w (product ps) y ly) (length-spread w (map swap ps) y (swapped_widths w ps d.widths))
    (λ x lx. scaled-dot (product ps) y x ∙ sym (dot-scaled y (product ps) x) ∙ ap (dot y) (expansion w (λ z. length z ≡ w) ps x (all_of_width w) d (complete_of w ps d.widths o) lx) ∙ sym (spread_moves w ps x y d.widths))

-- only the zero form vanishes at all vectors of a complete dual pair
pub swapped_only_zero : (w : ℕ) (ps : List Pair) → IsDualPair w ps → OnlyZero w ps → OnlyZero w (map swap ps)
swapped_only_zero w ps d o y ly v = scaled_is_zero w (product ps) y (product_positive ps d.dual) ly (form_expansion w ps y d o ly ∙ spread_vanishes w (map swap ps) y (swapped_widths w ps d.widths) v)

-- ---- the description
pub swapped_vectors : (ps : List Pair) → map (λ (p : Pair). p.vector) (map swap ps) ≡ map (λ (p : Pair). p.form) ps
swapped_vectors [] = refl
swapped_vectors (p ∷ ps) = ap (λ t. p.form ∷ t) (swapped_vectors ps)

factors_nonneg : (ps : List Pair) (x : Vector) → IsDual ps → Each (λ (p : Pair). pos 0 ≤ℤ dot p.form x) ps → Each (λ c. pos 0 ≤ℤ c) (spread_factors ps x)
factors_nonneg [] x d s = tt
factors_nonneg (p ∷ ps) x d s =
    (mul-nonneg (product ps) (dot p.form x) (omega (arith, sums, product_positive ps d.2)) s.0, scale (divisor p) (spread_factors ps x) (omega (arith, sums, d.0)) (factors_nonneg ps x d.2 s.1))
  where
    scale : (k : ℤ) (cs : List ℤ) → pos 0 ≤ℤ k → Each (λ c. pos 0 ≤ℤ c) cs → Each (λ c. pos 0 ≤ℤ c) (scaled k cs)
    scale k [] h n = tt
    scale k (c ∷ cs) h n = (mul-nonneg k c h n.0, scale k cs h n.1)

length_forms : (ps : List Pair) → length (map swap ps) ≡ length (map (λ (p : Pair). p.form) ps)
length_forms [] = refl
length_forms (p ∷ ps) = ap suc (length_forms ps)

own_sound : (p : Pair) (ps : List Pair) → Each (IsApart p) ps → Satisfies (map (λ (q : Pair). q.form) ps) p.vector
own_sound p [] h = tt
own_sound p (q ∷ ps) h = (omega (arith, sums, h.0.back), own_sound p ps h.1)

other_sound : (p : Pair) (ps : List Pair) (fs : List Vector) → Each (IsApart p) ps → Each (Satisfies fs) (map (λ (q : Pair). q.vector) ps) → Each (Satisfies (p.form ∷ fs)) (map (λ (q : Pair). q.vector) ps)
other_sound p [] fs h s = tt
other_sound p (q ∷ ps) fs h s = ((omega (arith, sums, h.0.there), s.0), other_sound p ps fs h.1 s.1)

dual_sound : (ps : List Pair) → IsDual ps → Each (Satisfies (map (λ (p : Pair). p.form) ps)) (map (λ (p : Pair). p.vector) ps)
dual_sound [] d = tt
dual_sound (p ∷ ps) d = ((omega (arith, sums, d.0), own_sound p ps d.1), other_sound p ps (map (λ (q : Pair). q.form) ps) d.1 (dual_sound ps d.2))

pub described_by_dual : (w : ℕ) (ps : List Pair) → IsDualPair w ps → OnlyZero w ps → IsDoubleDescription w (map (λ p. p.form) ps) (map (λ p. p.vector) ps)
described_by_dual w ps d o = record {
  row_widths = each_of_map (λ (p : Pair). p.form) (λ v. length v ≡ w) ps (each_map (HasWidths w) (λ (p : Pair). length p.form ≡ w) ps (λ p k. k.form_width) d.widths);
  ray_widths = each_of_map (λ (p : Pair). p.vector) (λ v. length v ≡ w) ps (each_map (HasWidths w) (λ (p : Pair). length p.vector ≡ w) ps (λ p k. k.vector_width) d.widths);
  sound = dual_sound ps d.dual;
  farkas = λ y ly s.
      let sd = swapped_dual ps d.dual in
      let at_vectors : Each (λ (p : Pair). pos 0 ≤ℤ dot p.vector y) ps = map_each (λ (p : Pair). p.vector) (λ v. pos 0 ≤ℤ dot v y) ps s in
      record {
        multiple = product ps;
        positive = (let p = product_positive ps d.dual in omega (arith, sums));
        factors = spread_factors (map swap ps) y;
        each = factors_nonneg (map swap ps) y sd (each_of_map swap (λ (p : Pair). pos 0 ≤ℤ dot p.form y) ps at_vectors);
        one_each = length-factors (map swap ps) y ∙ length_forms ps;
        same = sym (form_expansion w ps y d o ly ∙ spread_is w (map swap ps) y ∙ ap (combination w (spread_factors (map swap ps) y)) (swapped_vectors ps));
      };
}
