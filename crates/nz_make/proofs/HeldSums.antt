-- Each of these is held: 0, the points and the vectors of level 2 are in boxes of independent corners, or corners.
use Rattle.std.proofs.Common.{◌≡◌, inl, inr, ℕ, ◌+◌, ◌<◌, ◌≤◌, List, [], ◌∷◌, length, ℤ, pos, ◌+ℤ◌, ◌-ℤ◌, ◌*ℤ◌, ◌≤ℤ◌, Bool, true, false, Contains, refl, sym, subst, arith}
use Rattle.std.proofs.lemmas.Int.{ints}
use Rattle.std.specs.List.{AllByRecursion as Each}
use Rattle.nz_spec.specs.Vectors.{Vector, scaled, combination, IsZero}
use Rattle.nz_spec.specs.Sums.{IsIndependent}
use Rattle.nz_spec.specs.Boxes.{IsListedOrBoxMember}
use Rattle.nz_spec.specs.Systems.{IsMember}
use Rattle.nz_spec.proofs.IntLaws.{zero_product}
use Rattle.nz_spec.proofs.CoverExamples.{independent_of_three}
use Rattle.nz_linear.proofs.Ring.{sums, ring_z}
use Rattle.nz_system.specs.Meaning.{system_of}
use Rattle.nz_make.specs.Squares.{made_file, point}
use Rattle.nz_make.proofs.Cones.{three_same, member_of_entries}
use Rattle.nz_make.proofs.Extremes.{corners_in_order, below_or_from, member_of_point, has_corner}
use Rattle.nz_make.proofs.Boxes.{IsFraction}
use Rattle.nz_make.proofs.Inner.{IsHeld, inner, zero_held, point_held, inner_held}

abbrev pub IsHeldSum : ℕ → Vector → Type 0
IsHeldSum n x = IsListedOrBoxMember 3 (IsMember (system_of (made_file n))) (corners_in_order n) x

-- ---- three corners are independent

pub zero_of : (n a : ℤ) → pos 1 ≤ℤ n → n *ℤ a ≡ pos 0 → a ≡ pos 0
zero_of n a h e = zero_product n a (λ z. omega (arith, ints, z, h)) e

abbrev pub IsFree : List Vector → Type 0
IsFree vs = (a b c : ℤ) → IsZero (combination 3 (a ∷ b ∷ c ∷ []) vs) → IsZero (a ∷ b ∷ c ∷ [])

zeros : (a b c : ℤ) → a ≡ pos 0 → b ≡ pos 0 → c ≡ pos 0 → IsZero (a ∷ b ∷ c ∷ [])
zeros a b c e f g = (e, (f, (g, tt)))

-- a factor at the second vector alone
one_at : (n a b c : ℤ) → a *ℤ pos 0 +ℤ (b *ℤ n +ℤ (c *ℤ pos 0 +ℤ pos 0)) ≡ pos 0 → n *ℤ b ≡ pos 0
one_at n a b c e = let f = simp ring_z at e in omega (arith, sums, f)

last_at : (n a b c : ℤ) → a *ℤ pos 0 +ℤ (b *ℤ pos 0 +ℤ (c *ℤ n +ℤ pos 0)) ≡ pos 0 → n *ℤ c ≡ pos 0
last_at n a b c e = let f = simp ring_z at e in omega (arith, sums, f)

both_at : (n a b c : ℤ) → a *ℤ pos 0 +ℤ (b *ℤ n +ℤ (c *ℤ n +ℤ pos 0)) ≡ pos 0 → n *ℤ (b +ℤ c) ≡ pos 0
both_at n a b c e = let f = simp ring_z at e in simp ring_z (omega (arith, sums, f))

ends_at : (n a b c : ℤ) → a *ℤ n +ℤ (b *ℤ pos 0 +ℤ (c *ℤ n +ℤ pos 0)) ≡ pos 0 → n *ℤ (a +ℤ c) ≡ pos 0
ends_at n a b c e = let f = simp ring_z at e in simp ring_z (omega (arith, sums, f))

module _ (n : ℕ) (l : 1 ≤ n) where
  m : pos 1 ≤ℤ pos n
  m = omega (arith, ints, l)

  pub lower_left_free : IsFree (point 0 0 ∷ point n 0 ∷ point 0 n ∷ [])
  lower_left_free a b c z =
      let e = zero_of (pos n) b m (one_at (pos n) a b c z.0) in
      let f = zero_of (pos n) c m (last_at (pos n) a b c z.1.0) in
      let g = z.1.1.0 in
      zeros a b c (omega (arith, ints, e, f, g)) e f

  upper_right_free : IsFree (point n 0 ∷ point 0 n ∷ point n n ∷ [])
  upper_right_free a b c z =
      let e = zero_of (pos n) (a +ℤ c) m (ends_at (pos n) a b c z.0) in
      let f = zero_of (pos n) (b +ℤ c) m (both_at (pos n) a b c z.1.0) in
      let g = z.1.1.0 in
      zeros a b c (omega (arith, ints, e, f, g)) (omega (arith, ints, e, f, g)) (omega (arith, ints, e, f, g))

  upper_left_free : IsFree (point 0 0 ∷ point 0 n ∷ point n n ∷ [])
  upper_left_free a b c z =
      let e = zero_of (pos n) c m (last_at (pos n) a b c z.0) in
      let f = zero_of (pos n) (b +ℤ c) m (both_at (pos n) a b c z.1.0) in
      let g = z.1.1.0 in
      zeros a b c (omega (arith, ints, e, f, g)) (omega (arith, ints, e, f, g)) e

  lower_right_free : IsFree (point 0 0 ∷ point n 0 ∷ point n n ∷ [])
  lower_right_free a b c z =
      let e = zero_of (pos n) c m (last_at (pos n) a b c z.1.0) in
      let f = zero_of (pos n) (b +ℤ c) m (both_at (pos n) a b c z.0) in
      let g = z.1.1.0 in
      zeros a b c (omega (arith, ints, e, f, g)) (omega (arith, ints, e, f, g)) e

  -- ---- sums of three corners

  origin_in : Contains (corners_in_order n) (point 0 0)
  origin_in = has_corner n 0 0 (inl refl) (inl refl)

  right_in : Contains (corners_in_order n) (point n 0)
  right_in = has_corner n n 0 (inr refl) (inl refl)

  upper_in : Contains (corners_in_order n) (point 0 n)
  upper_in = has_corner n 0 n (inl refl) (inr refl)

  opposed_in : Contains (corners_in_order n) (point n n)
  opposed_in = has_corner n n n (inr refl) (inr refl)

  held_in : (vs : List Vector) (x : Vector) (a b c : ℤ) → IsMember (system_of (made_file n)) x → Each (Contains (corners_in_order n)) vs → length vs ≡ 3 → IsFree vs
      → Each (IsFraction (pos n)) (a ∷ b ∷ c ∷ []) → combination 3 (a ∷ b ∷ c ∷ []) vs ≡ scaled (pos n) x → IsHeldSum n x
  held_in vs x a b c member of_list three free each same = inr (record {
    member = member;
    vectors = vs;
    of_list = of_list;
    independent = independent_of_three vs three free;
    in_box = record { multiple = pos n; factors = a ∷ b ∷ c ∷ []; positive = m; one_each = sym three; each = each; same = same };
  })

  -- ---- 0
  zero_is_held : IsHeldSum n (pos 0 ∷ pos 0 ∷ pos 0 ∷ [])
  zero_is_held = inr (record {
    member = record { width = refl; equations = tt; congruences = tt; inequalities = tt; generated = record { multiple = pos 1; factors = pos 0 ∷ pos 0 ∷ pos 0 ∷ pos 0 ∷ []; positive = omega (arith, ints); one_each = refl; each = (omega (arith, ints), (omega (arith, ints), (omega (arith, ints), (omega (arith, ints), tt)))); same = three_same (nothing (pos 0) (pos n) (pos 0) (pos n)) (nothing (pos 0) (pos 0) (pos n) (pos n)) (nothing (pos 1) (pos 1) (pos 1) (pos 1)) }; in_group = tt };
    vectors = [];
    of_list = tt;
    independent = none_free;
    in_box = record { multiple = pos 1; factors = []; positive = omega (arith, ints); one_each = refl; each = tt; same = refl };
  })
    where
      nothing : (a b d e : ℤ) → pos 0 *ℤ a +ℤ (pos 0 *ℤ b +ℤ (pos 0 *ℤ d +ℤ (pos 0 *ℤ e +ℤ pos 0))) ≡ pos 1 *ℤ pos 0
      nothing a b d e = simp ring_z (omega (arith, sums))

      none_free : IsIndependent 3 []
      none_free [] h z = tt
      none_free (f ∷ fs) h z = absurd (omega (arith, h))

  -- ---- the points
  lower_point : (i j : ℕ) → 1 ≤ i + j → i < n → j < n → i + j ≤ n → IsHeldSum n (point i j)
  lower_point i j low hi hj near = held_in (point 0 0 ∷ point n 0 ∷ point 0 n ∷ []) (point i j) ((pos n -ℤ pos i) -ℤ pos j) (pos i) (pos j)
      (member_of_point n i j l (omega (arith, hi)) (omega (arith, hj))) (origin_in, (right_in, (upper_in, tt))) refl lower_left_free
      ((omega (arith, ints, near), omega (arith, ints, low)), ((omega (arith, ints), omega (arith, ints, hi)), ((omega (arith, ints), omega (arith, ints, hj)), tt)))
      (three_same (first (pos n) (pos i) (pos j)) (second (pos n) (pos i) (pos j)) (third (pos n) (pos i) (pos j)))
    where
      first : (n i j : ℤ) → ((n -ℤ i) -ℤ j) *ℤ pos 0 +ℤ (i *ℤ n +ℤ (j *ℤ pos 0 +ℤ pos 0)) ≡ n *ℤ i
      first n i j = simp ring_z (omega (arith, sums))

      second : (n i j : ℤ) → ((n -ℤ i) -ℤ j) *ℤ pos 0 +ℤ (i *ℤ pos 0 +ℤ (j *ℤ n +ℤ pos 0)) ≡ n *ℤ j
      second n i j = simp ring_z (omega (arith, sums))

      third : (n i j : ℤ) → ((n -ℤ i) -ℤ j) *ℤ pos 1 +ℤ (i *ℤ pos 1 +ℤ (j *ℤ pos 1 +ℤ pos 0)) ≡ n *ℤ pos 1
      third n i j = omega (arith, ints)

  upper_point : (i j : ℕ) → i ≤ n → j ≤ n → n < i + j → i + j < n + n → IsHeldSum n (point i j)
  upper_point i j hi hj far near = held_in (point n 0 ∷ point 0 n ∷ point n n ∷ []) (point i j) (pos n -ℤ pos j) (pos n -ℤ pos i) ((pos i +ℤ pos j) -ℤ pos n)
      (member_of_point n i j l hi hj) (right_in, (upper_in, (opposed_in, tt))) refl upper_right_free
      ((omega (arith, ints, hj), omega (arith, ints, hi, far)), ((omega (arith, ints, hi), omega (arith, ints, hj, far)), ((omega (arith, ints, far), omega (arith, ints, near)), tt)))
      (three_same (first (pos n) (pos i) (pos j)) (second (pos n) (pos i) (pos j)) (third (pos n) (pos i) (pos j)))
    where
      first : (n i j : ℤ) → (n -ℤ j) *ℤ n +ℤ ((n -ℤ i) *ℤ pos 0 +ℤ (((i +ℤ j) -ℤ n) *ℤ n +ℤ pos 0)) ≡ n *ℤ i
      first n i j = simp ring_z (omega (arith, sums))

      second : (n i j : ℤ) → (n -ℤ j) *ℤ pos 0 +ℤ ((n -ℤ i) *ℤ n +ℤ (((i +ℤ j) -ℤ n) *ℤ n +ℤ pos 0)) ≡ n *ℤ j
      second n i j = simp ring_z (omega (arith, sums))

      third : (n i j : ℤ) → (n -ℤ j) *ℤ pos 1 +ℤ ((n -ℤ i) *ℤ pos 1 +ℤ (((i +ℤ j) -ℤ n) *ℤ pos 1 +ℤ pos 0)) ≡ n *ℤ pos 1
      third n i j = omega (arith, ints)

  lower_or_corner : (i j : ℕ) → i ≤ n → j ≤ n → i + j ≤ n → IsHeldSum n (point i j)
  lower_or_corner i j hi hj near = elim (below_or_from i n) [
    | inr end ↦ inl (has_corner n i j (inr (omega (arith, hi, end))) (inl (omega (arith, end, near))))
    | inl si ↦ elim (below_or_from j n) [
      | inr end ↦ inl (has_corner n i j (inl (omega (arith, end, near))) (inr (omega (arith, hj, end))))
      | inl sj ↦ elim (below_or_from 0 (i + j)) [
        | inl low ↦ lower_point i j low si sj near
        | inr none ↦ inl (has_corner n i j (inl (omega (arith, none))) (inl (omega (arith, none))))
      ]
    ]
  ]

  point_is_held : (i j : ℕ) → i ≤ n → j ≤ n → IsHeldSum n (point i j)
  point_is_held i j hi hj = elim (below_or_from n (i + j)) [
    | inr near ↦ lower_or_corner i j hi hj near
    | inl far ↦ elim (below_or_from (i + j) (n + n)) [
      | inl less ↦ upper_point i j hi hj far less
      | inr end ↦ inl (has_corner n i j (inr (omega (arith, hi, hj, end))) (inr (omega (arith, hi, hj, end))))
    ]
  ]

  -- ---- level 2
  double : pos n *ℤ pos 2 ≡ pos n +ℤ pos n
  double = omega (arith, ints)

  up_right : (u v : ℕ) → 1 ≤ u → 1 ≤ v → u + v < n → IsHeldSum n (inner true true n u v)
  up_right u v hu hv near = held_in (point n 0 ∷ point 0 n ∷ point n n ∷ []) (inner true true n u v) (pos n -ℤ pos v) (pos n -ℤ pos u) (pos u +ℤ pos v)
      (member_of_entries n (pos n +ℤ pos u) (pos n +ℤ pos v) (pos 2) l (omega (arith, ints)) (record { a_low = omega (arith, ints); a_high = omega (arith, ints, near); b_low = omega (arith, ints); b_high = omega (arith, ints, near) }))
      (right_in, (upper_in, (opposed_in, tt))) refl upper_right_free
      ((omega (arith, ints, near), omega (arith, ints, hv)), ((omega (arith, ints, near), omega (arith, ints, hu)), ((omega (arith, ints), omega (arith, ints, near)), tt)))
      (three_same (first (pos n) (pos u) (pos v)) (second (pos n) (pos u) (pos v)) (third (pos n) (pos u) (pos v)))
    where
      first : (n u v : ℤ) → (n -ℤ v) *ℤ n +ℤ ((n -ℤ u) *ℤ pos 0 +ℤ ((u +ℤ v) *ℤ n +ℤ pos 0)) ≡ n *ℤ (n +ℤ u)
      first n u v = simp ring_z (omega (arith, sums))

      second : (n u v : ℤ) → (n -ℤ v) *ℤ pos 0 +ℤ ((n -ℤ u) *ℤ n +ℤ ((u +ℤ v) *ℤ n +ℤ pos 0)) ≡ n *ℤ (n +ℤ v)
      second n u v = simp ring_z (omega (arith, sums))

      third : (n u v : ℤ) → (n -ℤ v) *ℤ pos 1 +ℤ ((n -ℤ u) *ℤ pos 1 +ℤ ((u +ℤ v) *ℤ pos 1 +ℤ pos 0)) ≡ n *ℤ pos 2
      third n u v = omega (arith, ints)

  down_left : (u v : ℕ) → 1 ≤ u → 1 ≤ v → u + v < n → IsHeldSum n (inner false false n u v)
  down_left u v hu hv near = held_in (point 0 0 ∷ point n 0 ∷ point 0 n ∷ []) (inner false false n u v) (pos u +ℤ pos v) (pos n -ℤ pos u) (pos n -ℤ pos v)
      (member_of_entries n (pos n -ℤ pos u) (pos n -ℤ pos v) (pos 2) l (omega (arith, ints)) (record { a_low = omega (arith, ints, near); a_high = omega (arith, ints, near); b_low = omega (arith, ints, near); b_high = omega (arith, ints, near) }))
      (origin_in, (right_in, (upper_in, tt))) refl lower_left_free
      ((omega (arith, ints), omega (arith, ints, near)), ((omega (arith, ints, near), omega (arith, ints, hu)), ((omega (arith, ints, near), omega (arith, ints, hv)), tt)))
      (three_same (first (pos n) (pos u) (pos v)) (second (pos n) (pos u) (pos v)) (third (pos n) (pos u) (pos v)))
    where
      first : (n u v : ℤ) → (u +ℤ v) *ℤ pos 0 +ℤ ((n -ℤ u) *ℤ n +ℤ ((n -ℤ v) *ℤ pos 0 +ℤ pos 0)) ≡ n *ℤ (n -ℤ u)
      first n u v = simp ring_z (omega (arith, sums))

      second : (n u v : ℤ) → (u +ℤ v) *ℤ pos 0 +ℤ ((n -ℤ u) *ℤ pos 0 +ℤ ((n -ℤ v) *ℤ n +ℤ pos 0)) ≡ n *ℤ (n -ℤ v)
      second n u v = simp ring_z (omega (arith, sums))

      third : (n u v : ℤ) → (u +ℤ v) *ℤ pos 1 +ℤ ((n -ℤ u) *ℤ pos 1 +ℤ ((n -ℤ v) *ℤ pos 1 +ℤ pos 0)) ≡ n *ℤ pos 2
      third n u v = omega (arith, ints)

  up_left : (u v : ℕ) → 1 ≤ u → 1 ≤ v → u + v < n → IsHeldSum n (inner false true n u v)
  up_left u v hu hv near = held_in (point 0 0 ∷ point 0 n ∷ point n n ∷ []) (inner false true n u v) (pos n -ℤ pos v) (pos u +ℤ pos v) (pos n -ℤ pos u)
      (member_of_entries n (pos n -ℤ pos u) (pos n +ℤ pos v) (pos 2) l (omega (arith, ints)) (record { a_low = omega (arith, ints, near); a_high = omega (arith, ints, near); b_low = omega (arith, ints); b_high = omega (arith, ints, near) }))
      (origin_in, (upper_in, (opposed_in, tt))) refl upper_left_free
      ((omega (arith, ints, near), omega (arith, ints, hv)), ((omega (arith, ints), omega (arith, ints, near)), ((omega (arith, ints, near), omega (arith, ints, hu)), tt)))
      (three_same (first (pos n) (pos u) (pos v)) (second (pos n) (pos u) (pos v)) (third (pos n) (pos u) (pos v)))
    where
      first : (n u v : ℤ) → (n -ℤ v) *ℤ pos 0 +ℤ ((u +ℤ v) *ℤ pos 0 +ℤ ((n -ℤ u) *ℤ n +ℤ pos 0)) ≡ n *ℤ (n -ℤ u)
      first n u v = simp ring_z (omega (arith, sums))

      second : (n u v : ℤ) → (n -ℤ v) *ℤ pos 0 +ℤ ((u +ℤ v) *ℤ n +ℤ ((n -ℤ u) *ℤ n +ℤ pos 0)) ≡ n *ℤ (n +ℤ v)
      second n u v = simp ring_z (omega (arith, sums))

      third : (n u v : ℤ) → (n -ℤ v) *ℤ pos 1 +ℤ ((u +ℤ v) *ℤ pos 1 +ℤ ((n -ℤ u) *ℤ pos 1 +ℤ pos 0)) ≡ n *ℤ pos 2
      third n u v = omega (arith, ints)

  down_right : (u v : ℕ) → 1 ≤ u → 1 ≤ v → u + v < n → IsHeldSum n (inner true false n u v)
  down_right u v hu hv near = held_in (point 0 0 ∷ point n 0 ∷ point n n ∷ []) (inner true false n u v) (pos n -ℤ pos u) (pos u +ℤ pos v) (pos n -ℤ pos v)
      (member_of_entries n (pos n +ℤ pos u) (pos n -ℤ pos v) (pos 2) l (omega (arith, ints)) (record { a_low = omega (arith, ints); a_high = omega (arith, ints, near); b_low = omega (arith, ints, near); b_high = omega (arith, ints, near) }))
      (origin_in, (right_in, (opposed_in, tt))) refl lower_right_free
      ((omega (arith, ints, near), omega (arith, ints, hu)), ((omega (arith, ints), omega (arith, ints, near)), ((omega (arith, ints, near), omega (arith, ints, hv)), tt)))
      (three_same (first (pos n) (pos u) (pos v)) (second (pos n) (pos u) (pos v)) (third (pos n) (pos u) (pos v)))
    where
      first : (n u v : ℤ) → (n -ℤ u) *ℤ pos 0 +ℤ ((u +ℤ v) *ℤ n +ℤ ((n -ℤ v) *ℤ n +ℤ pos 0)) ≡ n *ℤ (n +ℤ u)
      first n u v = simp ring_z (omega (arith, sums))

      second : (n u v : ℤ) → (n -ℤ u) *ℤ pos 0 +ℤ ((u +ℤ v) *ℤ pos 0 +ℤ ((n -ℤ v) *ℤ n +ℤ pos 0)) ≡ n *ℤ (n -ℤ v)
      second n u v = simp ring_z (omega (arith, sums))

      third : (n u v : ℤ) → (n -ℤ u) *ℤ pos 1 +ℤ ((u +ℤ v) *ℤ pos 1 +ℤ ((n -ℤ v) *ℤ pos 1 +ℤ pos 0)) ≡ n *ℤ pos 2
      third n u v = omega (arith, ints)

  pub sum_of_held : (x : Vector) → IsHeld n x → IsHeldSum n x
  sum_of_held x (zero_held e) = subst (IsHeldSum n) (sym e) zero_is_held
  sum_of_held x (point_held p) = subst (IsHeldSum n) (sym p.same) (point_is_held p.i p.j p.i_within p.j_within)
  sum_of_held x (inner_held h) = subst (IsHeldSum n) (sym h.same) (moved_to h.to_right h.to_top h.u h.v h.u_low h.v_low h.near)
    where
      moved_to : (f g : Bool) (u v : ℕ) → 1 ≤ u → 1 ≤ v → u + v < n → IsHeldSum n (inner f g n u v)
      moved_to true true u v hu hv near = up_right u v hu hv near
      moved_to true false u v hu hv near = down_right u v hu hv near
      moved_to false true u v hu hv near = up_left u v hu hv near
      moved_to false false u v hu hv near = down_left u v hu hv near
