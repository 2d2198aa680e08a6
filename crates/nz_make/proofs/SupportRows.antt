-- The rows of the system of a made file: the support forms of the corners of its square. It has no equation.
use Rattle.std.proofs.Common.{◌≡◌, ◌≢◌, inl, inr, ℕ, zero, suc, ◌<◌, ◌≤◌, List, [], ◌∷◌, length, ℤ, pos, negsuc, ◌+ℤ◌, ◌*ℤ◌, ◌≤ℤ◌, Contains, refl, sym, ◌∙◌, subst, arith}
use Rattle.std.proofs.lemmas.Int.{ints}
use Rattle.std.proofs.Math.IntN.{*ℤ_comm}
use Rattle.std.specs.List.{AllByRecursion as Each, AllZip}
use Rattle.nz_spec.specs.Vectors.{Vector, dot, scaled, combination, HasWidth, IsZero, IsPrimitive}
use Rattle.nz_spec.specs.Sums.{IsIndependent, IsInSpan, HasRank}
use Rattle.nz_spec.specs.Forms.{LeadsAt, IsKeyColumn, IsOtherColumn, IsEquationAt, IsSupportForm, AreSupportForms}
use Rattle.nz_spec.specs.Constraints.{AreEquationsOf, AreRowsOf}
use Rattle.nz_spec.proofs.ListLaws.{contains_cases, Each-contains}
use Rattle.nz_spec.proofs.LinearLaws.{HasRank-unique}
use Rattle.nz_spec.proofs.UniqueLaws.{AreRowsOf-unique}
use Rattle.nz_spec.proofs.Examples.{two}
use Rattle.nz_spec.proofs.CoverExamples.{independent_of_three}
use Rattle.nz_further.proofs.StartCrowds.{independent_different}
use Rattle.nz_linear.proofs.Division.{primitive_by_unit}
use Rattle.nz_linear.proofs.SupportForms.{same_support_form}
use Rattle.nz_system.specs.Meaning.{system_of}
use Rattle.nz_make.specs.Squares.{made_file, point, corners}
use Rattle.nz_make.proofs.Cones.{three, three_same}
use Rattle.nz_make.proofs.Boxes.{IsCorner, origin, right, upper, opposed}
use Rattle.nz_make.proofs.HeldSums.{zero_of, lower_left_free}

-- the support forms: a of at most n·c, b of at most n·c, b of at least 0, a of at least 0
abbrev pub right_form : ℕ → Vector
right_form n = negsuc 0 ∷ pos 0 ∷ pos n ∷ []

abbrev pub top_form : ℕ → Vector
top_form n = pos 0 ∷ negsuc 0 ∷ pos n ∷ []

abbrev pub bottom_form : Vector
bottom_form = pos 0 ∷ pos 1 ∷ pos 0 ∷ []

abbrev pub left_form : Vector
left_form = pos 1 ∷ pos 0 ∷ pos 0 ∷ []

abbrev pub made_rows : ℕ → List Vector
made_rows n = right_form n ∷ top_form n ∷ bottom_form ∷ left_form ∷ []

listed_corner : (n : ℕ) (v : Vector) → Contains (corners n) v → IsCorner n v
listed_corner n v c = elim (contains_cases (point 0 0) (point n 0 ∷ point 0 n ∷ point n n ∷ []) v c) [
  | inl e ↦ origin e
  | inr d ↦ elim (contains_cases (point n 0) (point 0 n ∷ point n n ∷ []) v d) [
    | inl e ↦ right e
    | inr f ↦ elim (contains_cases (point 0 n) (point n n ∷ []) v f) [
      | inl e ↦ upper e
      | inr g ↦ elim (contains_cases (point n n) [] v g) [ inl e ↦ opposed e | inr h ↦ absurd (let k = h.1 in let f : ⊥ = omega (arith, k) in f) ]
    ]
  ]
]

corners_wide : (n : ℕ) → Each (HasWidth 3) (corners n)
corners_wide n = (refl, (refl, (refl, (refl, tt))))

-- ---- the rank

abbrev lower_left : ℕ → List Vector
lower_left n = point 0 0 ∷ point n 0 ∷ point 0 n ∷ []

span_of : (n : ℕ) (a b c : ℤ) (x : Vector) → combination 3 (a ∷ b ∷ c ∷ []) (lower_left n) ≡ scaled (pos 1) x → IsInSpan 3 (lower_left n) x
span_of n a b c x e = record { multiple = pos 1; factors = a ∷ b ∷ c ∷ []; positive = omega (arith, ints); one_each = refl; each = (tt, (tt, (tt, tt))); same = e }

corner_span : (n : ℕ) (x : Vector) → IsCorner n x → IsInSpan 3 (lower_left n) x
corner_span n x (origin e) = subst (IsInSpan 3 (lower_left n)) e (span_of n (pos 1) (pos 0) (pos 0) (point 0 0) (three_same (first (pos n)) (second (pos n)) refl))
  where
    first : (n : ℤ) → pos 1 *ℤ pos 0 +ℤ (pos 0 *ℤ n +ℤ (pos 0 *ℤ pos 0 +ℤ pos 0)) ≡ pos 1 *ℤ pos 0
    first n = omega (arith, ints)

    second : (n : ℤ) → pos 1 *ℤ pos 0 +ℤ (pos 0 *ℤ pos 0 +ℤ (pos 0 *ℤ n +ℤ pos 0)) ≡ pos 1 *ℤ pos 0
    second n = omega (arith, ints)
corner_span n x (right e) = subst (IsInSpan 3 (lower_left n)) e (span_of n (pos 0) (pos 1) (pos 0) (point n 0) (three_same (first (pos n)) (second (pos n)) refl))
  where
    first : (n : ℤ) → pos 0 *ℤ pos 0 +ℤ (pos 1 *ℤ n +ℤ (pos 0 *ℤ pos 0 +ℤ pos 0)) ≡ pos 1 *ℤ n
    first n = omega (arith, ints)

    second : (n : ℤ) → pos 0 *ℤ pos 0 +ℤ (pos 1 *ℤ pos 0 +ℤ (pos 0 *ℤ n +ℤ pos 0)) ≡ pos 1 *ℤ pos 0
    second n = omega (arith, ints)
corner_span n x (upper e) = subst (IsInSpan 3 (lower_left n)) e (span_of n (pos 0) (pos 0) (pos 1) (point 0 n) (three_same (first (pos n)) (second (pos n)) refl))
  where
    first : (n : ℤ) → pos 0 *ℤ pos 0 +ℤ (pos 0 *ℤ n +ℤ (pos 1 *ℤ pos 0 +ℤ pos 0)) ≡ pos 1 *ℤ pos 0
    first n = omega (arith, ints)

    second : (n : ℤ) → pos 0 *ℤ pos 0 +ℤ (pos 0 *ℤ pos 0 +ℤ (pos 1 *ℤ n +ℤ pos 0)) ≡ pos 1 *ℤ n
    second n = omega (arith, ints)
corner_span n x (opposed e) = subst (IsInSpan 3 (lower_left n)) e (span_of n (negsuc 0) (pos 1) (pos 1) (point n n) (three_same (first (pos n)) (second (pos n)) refl))
  where
    first : (n : ℤ) → negsuc 0 *ℤ pos 0 +ℤ (pos 1 *ℤ n +ℤ (pos 1 *ℤ pos 0 +ℤ pos 0)) ≡ pos 1 *ℤ n
    first n = omega (arith, ints)

    second : (n : ℤ) → negsuc 0 *ℤ pos 0 +ℤ (pos 1 *ℤ pos 0 +ℤ (pos 1 *ℤ n +ℤ pos 0)) ≡ pos 1 *ℤ n
    second n = omega (arith, ints)

corners_rank : (n : ℕ) → 1 ≤ n → HasRank 3 (Contains (corners n)) 3
corners_rank n l = record {
  base = lower_left n;
  size = refl;
  members = ((0, omega arith, refl), ((1, omega arith, refl), ((2, omega arith, refl), tt)));
  independent = independent_of_three (lower_left n) refl (lower_left_free n l);
  all = λ x c. corner_span n x (listed_corner n x c);
}

-- ---- each column is a key column

key_at : (n j : ℕ) (p q r s : ℤ) (x : Vector) → combination 3 (p ∷ q ∷ r ∷ s ∷ []) (corners n) ≡ scaled (pos 1) x → LeadsAt j x → IsKeyColumn 3 (corners n) j
key_at n j p q r s x e l = (x, record { multiple = pos 1; factors = p ∷ q ∷ r ∷ s ∷ []; positive = omega (arith, ints); one_each = refl; each = (tt, (tt, (tt, (tt, tt)))); same = e }, l)

keys : (n j : ℕ) → 1 ≤ n → j < 3 → IsKeyColumn 3 (corners n) j
keys n zero l h = key_at n 0 (negsuc 0) (pos 1) (pos 0) (pos 0) (pos n ∷ pos 0 ∷ pos 0 ∷ []) (three_same (omega (arith, ints)) (omega (arith, ints)) (omega (arith, ints))) (λ e. omega (arith, ints, e, l))
keys n (suc zero) l h = key_at n 1 (negsuc 0) (pos 0) (pos 1) (pos 0) (pos 0 ∷ pos n ∷ pos 0 ∷ []) (three_same (omega (arith, ints)) (omega (arith, ints)) (omega (arith, ints))) (refl, (λ e. omega (arith, ints, e, l)))
keys n (suc (suc zero)) l h = key_at n 2 (pos 1) (pos 0) (pos 0) (pos 0) (point 0 0) (three_same (omega (arith, ints)) (omega (arith, ints)) (omega (arith, ints))) (refl, (refl, (λ e. omega (arith, ints, e))))
keys n (suc (suc (suc j))) l h = absurd (omega (arith, h))

no_other : (n j : ℕ) → 1 ≤ n → IsOtherColumn 3 (corners n) j → ⊥
no_other n j l o = o.not_key (keys n j l o.within)

-- ---- two corners of a side are independent

two_free : (u v : Vector) → ((a b : ℤ) → IsZero (combination 3 (a ∷ b ∷ []) (u ∷ v ∷ [])) → IsZero (a ∷ b ∷ [])) → IsIndependent 3 (u ∷ v ∷ [])
two_free u v free fs l z = let t = two fs l in subst IsZero (sym t.2) (free t.0 t.1 (subst (λ (cs : List ℤ). IsZero (combination 3 cs (u ∷ v ∷ []))) t.2 z))

-- where the second has n in an entry and the first 0, and both have the level 1
by_entry : (n : ℕ) (a b : ℤ) → 1 ≤ n → a *ℤ pos 0 +ℤ (b *ℤ pos n +ℤ pos 0) ≡ pos 0 → a *ℤ pos 1 +ℤ (b *ℤ pos 1 +ℤ pos 0) ≡ pos 0 → IsZero (a ∷ b ∷ [])
by_entry n a b l e f =
    let z : b ≡ pos 0 = zero_of (pos n) b (omega (arith, ints, l)) (swapped (pos n) e) in
    (omega (arith, ints, f, z), (z, tt))
  where
    swapped : (m : ℤ) → a *ℤ pos 0 +ℤ (b *ℤ m +ℤ pos 0) ≡ pos 0 → m *ℤ b ≡ pos 0
    swapped m e = let c = *ℤ_comm m b in omega (arith, ints, c, e)

-- ---- the forms

support_at : (n : ℕ) (f u v : Vector) → 1 ≤ n → HasWidth 3 f → IsPrimitive f → Each (λ g. pos 0 ≤ℤ dot f g) (corners n) → ¬ Each (λ g. dot f g ≡ pos 0) (corners n)
    → Contains (corners n) u → Contains (corners n) v → IsIndependent 3 (u ∷ v ∷ []) → dot f u ≡ pos 0 → dot f v ≡ pos 0 → IsSupportForm 3 (corners n) f
support_at n f u v l wide primitive low not_all cu cv free zu zv = record {
  width = wide;
  primitive = primitive;
  zero_at = λ j o. absurd (no_other n j l o);
  at_least = low;
  not_all = not_all;
  facet = record { vectors = u ∷ v ∷ []; of_list = (cu, (cv, tt)); independent = free; zero_on = (zu, (zv, tt)); rank = corners_rank n l };
}

right_supports : (n : ℕ) → 1 ≤ n → IsSupportForm 3 (corners n) (right_form n)
right_supports n l = support_at n (right_form n) (point n 0) (point n n) l refl (primitive_by_unit (right_form n) (record { form = negsuc 0 ∷ pos 0 ∷ pos 0 ∷ []; one = omega (arith, ints) }))
    (omega (arith, ints), (omega (arith, ints), (omega (arith, ints), (omega (arith, ints), tt))))
    (λ z. let e = z.0 in omega (arith, ints, e, l)) (1, omega arith, refl) (3, omega arith, refl)
    (two_free (point n 0) (point n n) (λ a b z. by_entry n a b l z.1.0 z.1.1.0)) (omega (arith, ints)) (omega (arith, ints))

top_supports : (n : ℕ) → 1 ≤ n → IsSupportForm 3 (corners n) (top_form n)
top_supports n l = support_at n (top_form n) (point 0 n) (point n n) l refl (primitive_by_unit (top_form n) (record { form = pos 0 ∷ negsuc 0 ∷ pos 0 ∷ []; one = omega (arith, ints) }))
    (omega (arith, ints), (omega (arith, ints), (omega (arith, ints), (omega (arith, ints), tt))))
    (λ z. let e = z.0 in omega (arith, ints, e, l)) (2, omega arith, refl) (3, omega arith, refl)
    (two_free (point 0 n) (point n n) (λ a b z. by_entry n a b l z.0 z.1.1.0)) (omega (arith, ints)) (omega (arith, ints))

bottom_supports : (n : ℕ) → 1 ≤ n → IsSupportForm 3 (corners n) bottom_form
bottom_supports n l = support_at n bottom_form (point 0 0) (point n 0) l refl (primitive_by_unit bottom_form (record { form = bottom_form; one = refl }))
    (omega (arith, ints), (omega (arith, ints), (omega (arith, ints), (omega (arith, ints), tt))))
    (λ z. let e = z.1.1.0 in omega (arith, ints, e, l)) (0, omega arith, refl) (1, omega arith, refl)
    (two_free (point 0 0) (point n 0) (λ a b z. by_entry n a b l z.0 z.1.1.0)) (omega (arith, ints)) (omega (arith, ints))

left_supports : (n : ℕ) → 1 ≤ n → IsSupportForm 3 (corners n) left_form
left_supports n l = support_at n left_form (point 0 0) (point 0 n) l refl (primitive_by_unit left_form (record { form = left_form; one = refl }))
    (omega (arith, ints), (omega (arith, ints), (omega (arith, ints), (omega (arith, ints), tt))))
    (λ z. let e = z.1.0 in omega (arith, ints, e, l)) (0, omega arith, refl) (2, omega arith, refl)
    (two_free (point 0 0) (point 0 n) (λ a b z. by_entry n a b l z.1.0 z.1.1.0)) (omega (arith, ints)) (omega (arith, ints))

-- ---- no other form

-- the values at both pairs of opposed corners have one sum
diagonals : (n a b c : ℤ) → (a *ℤ pos 0 +ℤ (b *ℤ pos 0 +ℤ (c *ℤ pos 1 +ℤ pos 0))) +ℤ (a *ℤ n +ℤ (b *ℤ n +ℤ (c *ℤ pos 1 +ℤ pos 0))) ≡ (a *ℤ n +ℤ (b *ℤ pos 0 +ℤ (c *ℤ pos 1 +ℤ pos 0))) +ℤ (a *ℤ pos 0 +ℤ (b *ℤ n +ℤ (c *ℤ pos 1 +ℤ pos 0)))
diagonals n a b c = omega (arith, ints)

corner_values : (n : ℕ) (f : Vector) → HasWidth 3 f → dot f (point 0 0) +ℤ dot f (point n n) ≡ dot f (point n 0) +ℤ dot f (point 0 n)
corner_values n f w =
    let u = three f w in
    subst (λ (g : Vector). dot g (point 0 0) +ℤ dot g (point n n) ≡ dot g (point n 0) +ℤ dot g (point 0 n)) (sym u.3) (diagonals (pos n) u.0 u.1 u.2)

zero_along : (n : ℕ) (f : Vector) → IsSupportForm 3 (corners n) f → (dot f (point 0 0) ≡ pos 0) → (dot f (point n n) ≡ pos 0) → ⊥
zero_along n f s e h =
    let d = corner_values n f s.width in
    let p = s.at_least.1.0 in
    let q = s.at_least.1.1.0 in
    s.not_all (e, (omega (arith, ints, d, e, h, p, q), (omega (arith, ints, d, e, h, p, q), (h, tt))))

zero_across : (n : ℕ) (f : Vector) → IsSupportForm 3 (corners n) f → (dot f (point n 0) ≡ pos 0) → (dot f (point 0 n) ≡ pos 0) → ⊥
zero_across n f s e h =
    let d = corner_values n f s.width in
    let p = s.at_least.0 in
    let q = s.at_least.1.1.1.0 in
    s.not_all (omega (arith, ints, d, e, h, p, q), (e, (h, (omega (arith, ints, d, e, h, p, q), tt))))

module _ (n : ℕ) (l : 1 ≤ n) (f u v : Vector) (s : IsSupportForm 3 (corners n) f) (cu : Contains (corners n) u) (cv : Contains (corners n) v) (free : IsIndependent 3 (u ∷ v ∷ []))
    (zu : dot f u ≡ pos 0) (zv : dot f v ≡ pos 0) where
  same_as : (g : Vector) → IsSupportForm 3 (corners n) g → dot g u ≡ pos 0 → dot g v ≡ pos 0 → f ≡ g
  same_as g t yu yv = same_support_form 3 (corners n) f g (u ∷ v ∷ []) (corners_wide n) s t (cu, (cv, tt)) free (corners_rank n l) (zu, (zv, tt)) (yu, (yv, tt))

  is_right : dot (right_form n) u ≡ pos 0 → dot (right_form n) v ≡ pos 0 → Contains (made_rows n) f
  is_right yu yv = subst (Contains (made_rows n)) (sym (same_as (right_form n) (right_supports n l) yu yv)) (0, omega arith, refl)

  is_top : dot (top_form n) u ≡ pos 0 → dot (top_form n) v ≡ pos 0 → Contains (made_rows n) f
  is_top yu yv = subst (Contains (made_rows n)) (sym (same_as (top_form n) (top_supports n l) yu yv)) (1, omega arith, refl)

  is_bottom : dot bottom_form u ≡ pos 0 → dot bottom_form v ≡ pos 0 → Contains (made_rows n) f
  is_bottom yu yv = subst (Contains (made_rows n)) (sym (same_as bottom_form (bottom_supports n l) yu yv)) (2, omega arith, refl)

  is_left : dot left_form u ≡ pos 0 → dot left_form v ≡ pos 0 → Contains (made_rows n) f
  is_left yu yv = subst (Contains (made_rows n)) (sym (same_as left_form (left_supports n l) yu yv)) (3, omega arith, refl)

  at : (g p q : Vector) → p ≡ q → dot g p ≡ pos 0 → dot g q ≡ pos 0
  at g p q e z = subst (λ (t : Vector). dot g t ≡ pos 0) e z

  on_right : {w : Vector} → point n 0 ≡ w → dot (right_form n) w ≡ pos 0
  on_right {w} e = at (right_form n) (point n 0) w e (omega (arith, ints))

  by_corners : u ≢ v → IsCorner n u → IsCorner n v → Contains (made_rows n) f
  by_corners ne (origin e) (origin h) = absurd (ne (sym e ∙ h))
  by_corners ne (right e) (right h) = absurd (ne (sym e ∙ h))
  by_corners ne (upper e) (upper h) = absurd (ne (sym e ∙ h))
  by_corners ne (opposed e) (opposed h) = absurd (ne (sym e ∙ h))
  by_corners ne (origin e) (right h) = is_bottom (at bottom_form (point 0 0) u e (omega (arith, ints))) (at bottom_form (point n 0) v h (omega (arith, ints)))
  by_corners ne (right e) (origin h) = is_bottom (at bottom_form (point n 0) u e (omega (arith, ints))) (at bottom_form (point 0 0) v h (omega (arith, ints)))
  by_corners ne (origin e) (upper h) = is_left (at left_form (point 0 0) u e (omega (arith, ints))) (at left_form (point 0 n) v h (omega (arith, ints)))
  by_corners ne (upper e) (origin h) = is_left (at left_form (point 0 n) u e (omega (arith, ints))) (at left_form (point 0 0) v h (omega (arith, ints)))
  by_corners ne (right e) (opposed h) = is_right (on_right e) (at (right_form n) (point n n) v h (omega (arith, ints)))
  by_corners ne (opposed e) (right h) = is_right (at (right_form n) (point n n) u e (omega (arith, ints))) (on_right h)
  by_corners ne (upper e) (opposed h) = is_top (at (top_form n) (point 0 n) u e (omega (arith, ints))) (at (top_form n) (point n n) v h (omega (arith, ints)))
  by_corners ne (opposed e) (upper h) = is_top (at (top_form n) (point n n) u e (omega (arith, ints))) (at (top_form n) (point 0 n) v h (omega (arith, ints)))
  by_corners ne (origin e) (opposed h) = absurd (zero_along n f s (at f u (point 0 0) (sym e) zu) (at f v (point n n) (sym h) zv))
  by_corners ne (opposed e) (origin h) = absurd (zero_along n f s (at f v (point 0 0) (sym h) zv) (at f u (point n n) (sym e) zu))
  by_corners ne (right e) (upper h) = absurd (zero_across n f s (at f u (point n 0) (sym e) zu) (at f v (point 0 n) (sym h) zv))
  by_corners ne (upper e) (right h) = absurd (zero_across n f s (at f v (point n 0) (sym h) zv) (at f u (point 0 n) (sym e) zu))

support_listed : (n : ℕ) (f : Vector) → 1 ≤ n → IsSupportForm 3 (corners n) f → Contains (made_rows n) f
support_listed n f l s = go s.facet.vectors s.facet.of_list s.facet.independent s.facet.zero_on
    (HasRank-unique 3 (Contains (corners n)) (suc (length s.facet.vectors)) 3 (λ x c. Each-contains (HasWidth 3) (corners n) x (corners_wide n) c) s.facet.rank (corners_rank n l))
  where
    go : (vs : List Vector) → Each (Contains (corners n)) vs → IsIndependent 3 vs → Each (λ v. dot f v ≡ pos 0) vs → suc (length vs) ≡ 3 → Contains (made_rows n) f
    go [] c free z e = absurd (omega (arith, e))
    go (u ∷ []) c free z e = absurd (omega (arith, e))
    go (u ∷ v ∷ w ∷ vs) c free z e = absurd (omega (arith, e))
    go (u ∷ v ∷ []) c free z e =
        let wide : Each (HasWidth 3) (u ∷ v ∷ []) = (Each-contains (HasWidth 3) (corners n) u (corners_wide n) c.0, (Each-contains (HasWidth 3) (corners n) v (corners_wide n) c.1.0, tt)) in
        let d = independent_different 3 (u ∷ v ∷ []) wide free in
        by_corners n l f u v s c.0 c.1.0 free z.0 z.1.0 d.0.0 (listed_corner n u c.0) (listed_corner n v c.1.0)

support_forms : (n : ℕ) → 1 ≤ n → AreSupportForms 3 (corners n) (made_rows n)
support_forms n l = record {
  in_order = (
    (inl (omega (arith, ints)), (inl (omega (arith, ints)), (inl (omega (arith, ints)), tt))),
    ((inr (refl, inl (omega (arith, ints))), (inl (omega (arith, ints)), tt)), ((inl (omega (arith, ints)), tt), (tt, tt))),
  );
  only = (right_supports n l, (top_supports n l, (bottom_supports n l, (left_supports n l, tt))));
  each = λ f s. support_listed n f l s;
}

-- ---- the equations and the rows

pub rows_listed : (n : ℕ) → 1 ≤ n → AreRowsOf (system_of (made_file n)) (made_rows n)
rows_listed n l = record { of_gens = made_rows n; are_of_gens = support_forms n l; whole = refl }

pub rows_same : (n : ℕ) (rows : List Vector) → 1 ≤ n → AreRowsOf (system_of (made_file n)) rows → rows ≡ made_rows n
rows_same n rows l a = AreRowsOf-unique (system_of (made_file n)) rows (made_rows n) a (rows_listed n l)

pub no_equations : (n : ℕ) → 1 ≤ n → AreEquationsOf (system_of (made_file n)) []
no_equations n l = record { of_gens = []; are_of_gens = record { columns = []; others = record { in_order = tt; only = tt; each = λ j o. absurd (no_other n j l o) }; each = tt }; whole = refl }

pub equations_none : (n : ℕ) (eqs : List Vector) → 1 ≤ n → AreEquationsOf (system_of (made_file n)) eqs → eqs ≡ []
equations_none n eqs l e = e.whole ∙ none_of e.of_gens e.are_of_gens.columns e.are_of_gens.others.only e.are_of_gens.each
  where
    none_of : (fs : List Vector) (columns : List ℕ) → Each (IsOtherColumn 3 (corners n)) columns → AllZip (IsEquationAt 3 (corners n)) columns fs → fs ≡ []
    none_of [] columns o z = refl
    none_of (f ∷ fs) [] o z = absurd z
    none_of (f ∷ fs) (c ∷ columns) o z = absurd (no_other n c l o.0)
