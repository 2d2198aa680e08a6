-- The extreme generators of a made file are the corners of its square.
use Rattle.std.proofs.Common.{◌≡◌, ◌⊎◌, inl, inr, ℕ, zero, suc, ◌<◌, ◌≤◌, List, [], ◌∷◌, ℤ, pos, ◌+ℤ◌, ◌*ℤ◌, ◌≤ℤ◌, neg_ℤ, Contains, refl, sym, ap, ◌∙◌, subst, subst₂, arith}
use Rattle.std.proofs.lemmas.Int.{ints}
use Rattle.std.proofs.Math.IntN.{*ℤ_comm, *ℤ-zero}
use Rattle.nz_spec.specs.Vectors.{Vector, plus, scaled, opposite, IsZero}
use Rattle.nz_spec.specs.Systems.{IsMember}
use Rattle.nz_spec.specs.Monoids.{IsPositive, IsExtreme, IsAlong, SplitsAlong}
use Rattle.nz_spec.specs.Elements.{AreExtreme}
use Rattle.nz_spec.proofs.IntLaws.{mul-add, nonneg_of_mul}
use Rattle.nz_linear.proofs.Ring.{sums, mul-one, one-mul}
use Rattle.nz_system.specs.Meaning.{system_of}
use Rattle.nz_make.specs.Squares.{made_file, point}
use Rattle.nz_make.proofs.Cones.{three_same, entries_of_member, member_of_entries}
use Rattle.nz_make.proofs.Points.{flat_is_zero, point_over, irreducible_of_point, point_of_irreducible}
use Rattle.nz_make.proofs.Listing.{later_entry, later_line}

-- the corners in the order of the system
abbrev pub corners_in_order : ℕ → List Vector
corners_in_order n = point 0 0 ∷ point 0 n ∷ point n 0 ∷ point n n ∷ []

pub below_or_from : (a b : ℕ) → (a < b) ⊎ (b ≤ a)
below_or_from a zero = inr (omega arith)
below_or_from zero (suc b) = inl (omega arith)
below_or_from (suc a) (suc b) = elim (below_or_from a b) [ inl h ↦ inl (omega (arith, h)) | inr h ↦ inr (omega (arith, h)) ]

-- ---- there is no line

pub made_positive : (n : ℕ) → 1 ≤ n → IsPositive (IsMember (system_of (made_file n)))
made_positive n l v line =
    let u = entries_of_member n v line.forward in
    let w = entries_of_member n (opposite v) line.backward in
    let e : u.c +ℤ w.c ≡ pos 0 = thirds u.a u.b u.c w.a w.b w.c (sym w.same ∙ ap opposite u.same) in
    let m : pos 1 ≤ℤ pos n = omega (arith, ints) in
    let low = nonneg_of_mul (pos n) w.c m (omega (arith, sums, w.over.a_low, w.over.a_high)) in
    let z = flat_is_zero (pos n) u.a u.b u.c m u.over (omega (arith, sums, e, low)) in
    line.nonzero (subst IsZero (sym u.same) (z.0, (z.1.0, (z.1.1, tt))))
  where
    thirds : (a b c a' b' c' : ℤ) → (a' ∷ b' ∷ c' ∷ []) ≡ opposite (a ∷ b ∷ c ∷ []) → c +ℤ c' ≡ pos 0
    thirds a b c a' b' c' h = let k : c' ≡ neg_ℤ c = cc in omega (arith, sums, k)

-- ---- a corner is extreme

-- where entries within 0 and n·c sum up to a multiple of an end, each is the end times its c
pub at_end : (n i m a b c d : ℤ) → (i ≡ pos 0) ⊎ (i ≡ n) → pos 0 ≤ℤ a → a ≤ℤ (n *ℤ c) → pos 0 ≤ℤ b → b ≤ℤ (n *ℤ d) → a +ℤ b ≡ m *ℤ i → c +ℤ d ≡ m *ℤ pos 1 → (a ≡ c *ℤ i) × (b ≡ d *ℤ i)
at_end n i m a b c d (inl z) al ah bl bh e f =
    let s = ap (λ (t : ℤ). m *ℤ t) z ∙ *ℤ-zero m in
    let p = ap (λ (t : ℤ). c *ℤ t) z ∙ *ℤ-zero c in
    let q = ap (λ (t : ℤ). d *ℤ t) z ∙ *ℤ-zero d in
    (omega (arith, sums, e, s, p, al, bl), omega (arith, sums, e, s, q, al, bl))
at_end n i m a b c d (inr z) al ah bl bh e f =
    let s = ap (λ (t : ℤ). m *ℤ t) z ∙ *ℤ_comm m n in
    let g = ap (λ (t : ℤ). n *ℤ t) (f ∙ mul-one m) in
    let h = mul-add n c d in
    let p = ap (λ (t : ℤ). c *ℤ t) z ∙ *ℤ_comm c n in
    let q = ap (λ (t : ℤ). d *ℤ t) z ∙ *ℤ_comm d n in
    (omega (arith, sums, e, s, g, h, p, ah, bh), omega (arith, sums, e, s, g, h, q, ah, bh))

pub along_corner : (i j c a b : ℤ) → a ≡ c *ℤ i → b ≡ c *ℤ j → IsAlong (i ∷ j ∷ pos 1 ∷ []) (a ∷ b ∷ c ∷ [])
along_corner i j c a b e f = record {
  multiple = pos 1;
  factor = c;
  positive = omega (arith, ints);
  same = three_same (one-mul a ∙ e) (one-mul b ∙ f) (one-mul c ∙ sym (mul-one c));
}

-- one of the ends of a side
abbrev pub IsEnd : ℕ → ℕ → Type 0
IsEnd n i = (i ≡ 0) ⊎ (i ≡ n)

pub whole_end : (n i : ℕ) → IsEnd n i → (pos i ≡ pos 0) ⊎ (pos i ≡ pos n)
whole_end n i (inl e) = inl (ap pos e)
whole_end n i (inr e) = inr (ap pos e)

pub sums_of : (a b c a' b' c' m i j : ℤ) → plus (a ∷ b ∷ c ∷ []) (a' ∷ b' ∷ c' ∷ []) ≡ scaled m (i ∷ j ∷ pos 1 ∷ []) → (a +ℤ a' ≡ m *ℤ i) × (b +ℤ b' ≡ m *ℤ j) × (c +ℤ c' ≡ m *ℤ pos 1)
sums_of a b c a' b' c' m i j e = (cc, cc, cc)

corner_splits : (n i j : ℕ) → IsEnd n i → IsEnd n j → SplitsAlong (IsMember (system_of (made_file n))) (point i j)
corner_splits n i j h k m x y positive mx my e =
    let u = entries_of_member n x mx in
    let v = entries_of_member n y my in
    let s = sums_of u.a u.b u.c v.a v.b v.c m (pos i) (pos j) (ap (λ (t : Vector). plus t (v.a ∷ v.b ∷ v.c ∷ [])) (sym u.same) ∙ ap (plus x) (sym v.same) ∙ e) in
    let first = at_end (pos n) (pos i) m u.a v.a u.c v.c (whole_end n i h) u.over.a_low u.over.a_high v.over.a_low v.over.a_high s.0 s.2 in
    let second = at_end (pos n) (pos j) m u.b v.b u.c v.c (whole_end n j k) u.over.b_low u.over.b_high v.over.b_low v.over.b_high s.1 s.2 in (
      subst (IsAlong (point i j)) (sym u.same) (along_corner (pos i) (pos j) u.c u.a u.b first.0 second.0),
      subst (IsAlong (point i j)) (sym v.same) (along_corner (pos i) (pos j) v.c v.a v.b first.1 second.1),
    )

corner_extreme : (n i j : ℕ) → 1 ≤ n → i ≤ n → j ≤ n → IsEnd n i → IsEnd n j → IsExtreme (IsMember (system_of (made_file n))) (point i j)
corner_extreme n i j l hi hj h k = record {
  irreducible = irreducible_of_point n l (point i j) (record { i = i; j = j; i_within = hi; j_within = hj; same = refl });
  splits_along = corner_splits n i j h k;
}

-- ---- an extreme generator is a corner

not_along : (k p : ℤ) (i : ℕ) → pos 1 ≤ℤ k → k *ℤ pos 1 ≡ p *ℤ pos 1 → k *ℤ pos (suc i) ≡ p *ℤ pos i → ⊥
not_along k p i h e f =
    let one : k ≡ p = sym (mul-one k) ∙ e ∙ mul-one p in
    let next : pos (suc i) ≡ pos i +ℤ pos 1 = omega (arith, ints) in
    let g = ap (λ (t : ℤ). k *ℤ t) next ∙ mul-add k (pos i) (pos 1) in
    let same = ap (λ (t : ℤ). t *ℤ pos i) one in
    omega (arith, sums, h, f, g, same, mul-one k)

along_entries : (k p a b c i j : ℤ) → scaled k (a ∷ b ∷ c ∷ []) ≡ scaled p (i ∷ j ∷ pos 1 ∷ []) → (k *ℤ a ≡ p *ℤ i) × (k *ℤ b ≡ p *ℤ j) × (k *ℤ c ≡ p *ℤ pos 1)
along_entries k p a b c i j e = (cc, cc, cc)

-- the sum of both neighbours is twice the point
twice : (i j : ℕ) → plus (point i j) (point (suc (suc i)) j) ≡ scaled (pos 2) (point (suc i) j)
twice i j = three_same (omega (arith, ints)) (omega (arith, ints)) (omega (arith, ints))

twice_up : (i j : ℕ) → plus (point i j) (point i (suc (suc j))) ≡ scaled (pos 2) (point i (suc j))
twice_up i j = three_same (omega (arith, ints)) (omega (arith, ints)) (omega (arith, ints))

at_place : (n p q i j : ℕ) → i ≡ p → j ≡ q → Contains (corners_in_order n) (point p q) → Contains (corners_in_order n) (point i j)
at_place n p q i j e f c = subst₂ (λ (s t : ℕ). Contains (corners_in_order n) (point s t)) (sym e) (sym f) c

pub member_of_point : (n i j : ℕ) → 1 ≤ n → i ≤ n → j ≤ n → IsMember (system_of (made_file n)) (point i j)
member_of_point n i j l h k = member_of_entries n (pos i) (pos j) (pos 1) l (omega (arith, ints)) (point_over n i j h k)

first_is_end : (n i j : ℕ) → 1 ≤ n → i ≤ n → j ≤ n → SplitsAlong (IsMember (system_of (made_file n))) (point i j) → IsEnd n i
first_is_end n zero j l h k s = inl refl
first_is_end n (suc i) j l h k s = elim (below_or_from (suc i) n) [
  | inl less ↦ (let a = (s (pos 2) (point i j) (point (suc (suc i)) j) (omega (arith, ints)) (member_of_point n i j l (omega arith) k) (member_of_point n (suc (suc i)) j l less k) (twice i j)).1 in
      let e = along_entries a.multiple a.factor (pos (suc (suc i))) (pos j) (pos 1) (pos (suc i)) (pos j) a.same in
      absurd (not_along a.multiple a.factor (suc i) a.positive e.2 e.0))
  | inr more ↦ inr (omega (arith, more, h))
]

-- a point of a set that has all points of its line splits along itself only at an end
pub end_of_splits : (P : Vector → Type 0) (n i j : ℕ) → ((k : ℕ) → k ≤ n → P (point i k)) → j ≤ n → SplitsAlong P (point i j) → IsEnd n j
end_of_splits P n i zero all h s = inl refl
end_of_splits P n i (suc j) all h s = elim (below_or_from (suc j) n) [
  | inl less ↦ (let a = (s (pos 2) (point i j) (point i (suc (suc j))) (omega (arith, ints)) (all j (omega (arith, h))) (all (suc (suc j)) (omega (arith, less))) (twice_up i j)).1 in
      let e = along_entries a.multiple a.factor (pos i) (pos (suc (suc j))) (pos 1) (pos i) (pos (suc j)) a.same in
      absurd (not_along a.multiple a.factor (suc j) a.positive e.2 e.1))
  | inr more ↦ inr (omega (arith, more, h))
]

second_is_end : (n i j : ℕ) → 1 ≤ n → i ≤ n → j ≤ n → SplitsAlong (IsMember (system_of (made_file n))) (point i j) → IsEnd n j
second_is_end n i j l h = end_of_splits (IsMember (system_of (made_file n))) n i j (λ k within. member_of_point n i k l h within)

pub has_corner : (n i j : ℕ) → IsEnd n i → IsEnd n j → Contains (corners_in_order n) (point i j)
has_corner n i j (inl e) (inl f) = at_place n 0 0 i j e f (0, omega arith, refl)
has_corner n i j (inl e) (inr f) = at_place n 0 n i j e f (1, omega arith, refl)
has_corner n i j (inr e) (inl f) = at_place n n 0 i j e f (2, omega arith, refl)
has_corner n i j (inr e) (inr f) = at_place n n n i j e f (3, omega arith, refl)

corner_of_extreme : (n : ℕ) → 1 ≤ n → (x : Vector) → IsExtreme (IsMember (system_of (made_file n))) x → Contains (corners_in_order n) x
corner_of_extreme n l x e =
    let p = point_of_irreducible n l x e.irreducible in
    let s = subst (SplitsAlong (IsMember (system_of (made_file n)))) p.same e.splits_along in
    subst (Contains (corners_in_order n)) (sym p.same)
    (has_corner n p.i p.j (first_is_end n p.i p.j l p.i_within p.j_within s) (second_is_end n p.i p.j l p.i_within p.j_within s))

pub extreme_corners : (n : ℕ) → 1 ≤ n → AreExtreme (system_of (made_file n)) (corners_in_order n)
extreme_corners n l = record {
  in_order = (
    (later_entry 0 0 n l, (later_line 0 0 n 0 l, (later_line 0 0 n n l, tt))),
    ((later_line 0 n n 0 l, (later_line 0 n n n l, tt)), ((later_entry n 0 n l, tt), (tt, tt))),
  );
  only = (
    corner_extreme n 0 0 l (omega arith) (omega arith) (inl refl) (inl refl),
    (
      corner_extreme n 0 n l (omega arith) (omega arith) (inl refl) (inr refl),
      (
        corner_extreme n n 0 l (omega arith) (omega arith) (inr refl) (inl refl),
        (corner_extreme n n n l (omega arith) (omega arith) (inr refl) (inr refl), tt),
      ),
    ),
  );
  each = corner_of_extreme n l;
}
