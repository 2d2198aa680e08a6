-- The stages of a made file before its last row, and reversed at it: the vectors (a, b, c) with a of at most e·c, and b from 0 to n·c.
use Rattle.std.proofs.Common.{◌≡◌, ◌⊎◌, inl, inr, ℕ, ◌≤◌, [], ◌∷◌, ℤ, pos, negsuc, neg_ℤ, ◌+ℤ◌, ◌-ℤ◌, ◌*ℤ◌, ◌≤ℤ◌, ◌<ℤ◌, sym, ap, ◌∙◌, subst, arith}
use Rattle.std.proofs.lemmas.Int.{ints, by_lt_z}
use Rattle.std.proofs.Math.IntN.{*ℤ-zero, *ℤ_comm}
use Rattle.nz_spec.specs.Vectors.{Vector, plus, scaled, IsZero, IsNonzero}
use Rattle.nz_spec.specs.Monoids.{IsIrreducible, IsExtreme, IsAlong, SplitsAlong}
use Rattle.nz_spec.proofs.IntLaws.{mul-add, mul-sub, nonneg_of_mul}
use Rattle.nz_linear.proofs.Ring.{sums, mul-one, one-mul}
use Rattle.nz_make.specs.Squares.{point}
use Rattle.nz_make.proofs.Cones.{three_same}
use Rattle.nz_make.proofs.Points.{split, whole, nonzero_at_level}
use Rattle.nz_make.proofs.Extremes.{IsEnd, at_end, along_corner, sums_of, whole_end, end_of_splits}

-- x is such a vector
pub record IsInFan (n e : ℕ) (x : Vector) : Type 0 where
  pub a : ℤ
  pub b : ℤ
  pub c : ℤ
  pub same : x ≡ a ∷ b ∷ c ∷ []
  pub a_high : a ≤ℤ (pos e *ℤ c)
  pub b_low : pos 0 ≤ℤ b
  pub b_high : b ≤ℤ (pos n *ℤ c)

-- a set that has just these vectors
pub record IsFan (n e : ℕ) (P : Vector → Type 0) : Type 0 where
  pub into : (a b c : ℤ) → a ≤ℤ (pos e *ℤ c) → pos 0 ≤ℤ b → b ≤ℤ (pos n *ℤ c) → P (a ∷ b ∷ c ∷ [])
  pub out : (x : Vector) → P x → IsInFan n e x

-- the vector (-1, 0, 0)
abbrev pub back : Vector
back = negsuc 0 ∷ pos 0 ∷ pos 0 ∷ []

-- this one, or a point of one side
pub data IsFanElement (n e : ℕ) (x : Vector) : Type 0 where
  is_back : x ≡ back → IsFanElement n e x
  on_side : (j : ℕ) → j ≤ n → x ≡ point e j → IsFanElement n e x

level_low : (n : ℕ) (b c : ℤ) → 1 ≤ n → pos 0 ≤ℤ b → b ≤ℤ (pos n *ℤ c) → pos 0 ≤ℤ c
level_low n b c l bl bh = nonneg_of_mul (pos n) c (omega (arith, ints, l)) (omega (arith, sums, bl, bh))

product_zero : (m c : ℤ) → c ≡ pos 0 → m *ℤ c ≡ pos 0
product_zero m c z = ap (λ (t : ℤ). m *ℤ t) z ∙ *ℤ-zero m

module _ (n e : ℕ) (l : 1 ≤ n) (P : Vector → Type 0) (fan : IsFan n e P) where
  -- ---- an irreducible is one of these

  back_in : P back
  back_in = let z = *ℤ-zero (pos e) in let y = *ℤ-zero (pos n) in fan.into (negsuc 0) (pos 0) (pos 0) (omega (arith, ints, z)) (omega (arith, ints)) (omega (arith, ints, y))

  pub side_in : (j : ℕ) → j ≤ n → P (point e j)
  side_in j h = let z = mul-one (pos e) in let y = mul-one (pos n) in fan.into (pos e) (pos j) (pos 1) (omega (arith, sums, z)) (omega (arith, ints)) (omega (arith, ints, y, h))

  back_nonzero : IsNonzero back
  back_nonzero z = let h = z.0 in omega (arith, ints, h)

  back_first : (a b c : ℤ) → plus back ((a +ℤ pos 1) ∷ b ∷ c ∷ []) ≡ a ∷ b ∷ c ∷ []
  back_first a b c = three_same (omega (arith, ints)) (omega (arith, ints)) (omega (arith, ints))

  -- with a below e·c, it is (-1, 0, 0) or not irreducible
  inside_back : (a b c : ℤ) → IsIrreducible P (a ∷ b ∷ c ∷ []) → (a +ℤ pos 1) ≤ℤ (pos e *ℤ c) → pos 0 ≤ℤ b → b ≤ℤ (pos n *ℤ c) → (a ∷ b ∷ c ∷ []) ≡ back
  inside_back a b c i ah bl bh =
      let c0 = level_low n b c l bl bh in
      by_lt_z (pos 0) c
      (λ (h : pos 0 <ℤ c). absurd (no_more (nonzero_at_level (a +ℤ pos 1) b c (omega (arith, ints, h)))))
      (λ (h : c ≤ℤ pos 0).
      let cz : c ≡ pos 0 = omega (arith, ints, h, c0) in
      let ez = product_zero (pos e) c cz in
      let nz = product_zero (pos n) c cz in
      by_lt_z (a +ℤ pos 1) (pos 0)
      (λ (k : (a +ℤ pos 1) <ℤ pos 0). absurd (no_more (λ z. let w = z.0 in omega (arith, ints, k, w))))
      (λ (k : pos 0 ≤ℤ (a +ℤ pos 1)). three_same (omega (arith, sums, k, ah, ez)) (omega (arith, sums, bl, bh, nz)) cz))
    where
      no_more : ¬ IsNonzero ((a +ℤ pos 1) ∷ b ∷ c ∷ [])
      no_more z = i.no_sum back ((a +ℤ pos 1) ∷ b ∷ c ∷ []) back_in back_nonzero (fan.into (a +ℤ pos 1) b c ah bl bh) z (back_first a b c)

  -- on the side, of level 2 or more, it is not irreducible
  not_above : (a b c : ℤ) → IsIrreducible P (a ∷ b ∷ c ∷ []) → a ≡ pos e *ℤ c → pos 0 ≤ℤ b → b ≤ℤ (pos n *ℤ c) → pos 2 ≤ℤ c → ⊥
  not_above a b c i ae bl bh two =
      let s = split (pos n) b c (omega (arith, ints)) two bl bh in
      let d = mul-sub (pos e) c (pos 1) in
      let o = mul-one (pos e) in
      let q = mul-one (pos n) in
      let sl = s.low in
      let sh = s.high in
      i.no_sum (pos e ∷ s.part ∷ pos 1 ∷ []) ((a -ℤ pos e) ∷ (b -ℤ s.part) ∷ (c -ℤ pos 1) ∷ [])
      (fan.into (pos e) s.part (pos 1) (omega (arith, sums, o)) s.low (omega (arith, sums, q, sh)))
      (nonzero_at_level (pos e) s.part (pos 1) (omega (arith, ints)))
      (fan.into (a -ℤ pos e) (b -ℤ s.part) (c -ℤ pos 1) (omega (arith, sums, ae, d, o)) s.rest_low s.rest_high)
      (nonzero_at_level (a -ℤ pos e) (b -ℤ s.part) (c -ℤ pos 1) (omega (arith, sums, two)))
      (three_same (rest a (pos e)) (rest b s.part) (rest c (pos 1)))
    where
      rest : (a p : ℤ) → p +ℤ (a -ℤ p) ≡ a
      rest a p = omega (arith, sums)

  on_the_side : (a b c : ℤ) → IsIrreducible P (a ∷ b ∷ c ∷ []) → a ≡ pos e *ℤ c → pos 0 ≤ℤ b → b ≤ℤ (pos n *ℤ c) → IsFanElement n e (a ∷ b ∷ c ∷ [])
  on_the_side a b c i ae bl bh =
      let c0 = level_low n b c l bl bh in
      by_lt_z c (pos 1)
      (λ (h : c <ℤ pos 1).
      let cz : c ≡ pos 0 = omega (arith, ints, h, c0) in
      let ez = product_zero (pos e) c cz in
      let nz = product_zero (pos n) c cz in
      absurd (i.nonzero (omega (arith, sums, ae, ez), (omega (arith, sums, bl, bh, nz), (cz, tt)))))
      (λ (h : pos 1 ≤ℤ c). by_lt_z c (pos 2)
      (λ (k : c <ℤ pos 2).
      let one : c ≡ pos 1 = omega (arith, ints, h, k) in
      let ne = ap (λ (t : ℤ). pos n *ℤ t) one ∙ mul-one (pos n) in
      let w = whole n b bl (omega (arith, sums, bh, ne)) in
      on_side w.0 w.1 (three_same (ae ∙ ap (λ (t : ℤ). pos e *ℤ t) one ∙ mul-one (pos e)) w.2 one))
      (λ (k : pos 2 ≤ℤ c). absurd (not_above a b c i ae bl bh k)))

  pub fan_element : (x : Vector) → IsIrreducible P x → IsFanElement n e x
  fan_element x i =
      let u = fan.out x i.member in
      let h = u.a_high in
      let j = subst (IsIrreducible P) u.same i in
      subst (IsFanElement n e) (sym u.same)
      (by_lt_z u.a (pos e *ℤ u.c)
      (λ (k : u.a <ℤ (pos e *ℤ u.c)). is_back (inside_back u.a u.b u.c j (omega (arith, sums, k)) u.b_low u.b_high))
      (λ (k : (pos e *ℤ u.c) ≤ℤ u.a). on_the_side u.a u.b u.c j (omega (arith, sums, h, k)) u.b_low u.b_high))

  -- ---- these are irreducible, and at the ends extreme

  -- at level 0
  flat : (x : Vector) (u : IsInFan n e x) → u.c ≡ pos 0 → (u.a ≤ℤ pos 0) × (u.b ≡ pos 0)
  flat x u z =
      let ez = product_zero (pos e) u.c z in
      let nz = product_zero (pos n) u.c z in
      let ah = u.a_high in
      let bl = u.b_low in
      let bh = u.b_high in
      (omega (arith, sums, ah, ez), omega (arith, sums, bl, bh, nz))

  -- of a sum by its entries
  entry_sums : (a b c a' b' c' p q r : ℤ) → plus (a ∷ b ∷ c ∷ []) (a' ∷ b' ∷ c' ∷ []) ≡ p ∷ q ∷ r ∷ [] → (a +ℤ a' ≡ p) × (b +ℤ b' ≡ q) × (c +ℤ c' ≡ r)
  entry_sums a b c a' b' c' p q r e = (cc, cc, cc)

  sum_entries : (x y z : Vector) (u : IsInFan n e x) (v : IsInFan n e y) → plus x y ≡ z → plus (u.a ∷ u.b ∷ u.c ∷ []) (v.a ∷ v.b ∷ v.c ∷ []) ≡ z
  sum_entries x y z u v e = ap (λ (t : Vector). plus t (v.a ∷ v.b ∷ v.c ∷ [])) (sym u.same) ∙ ap (plus x) (sym v.same) ∙ e

  low_of : (x : Vector) (u : IsInFan n e x) → pos 0 ≤ℤ u.c
  low_of x u = level_low n u.b u.c l u.b_low u.b_high

  back_no_sum : (y z : Vector) → P y → IsNonzero y → P z → IsNonzero z → ¬ (plus y z ≡ back)
  back_no_sum y z py ny pz nz h =
      let u = fan.out y py in
      let v = fan.out z pz in
      let s = entry_sums u.a u.b u.c v.a v.b v.c (negsuc 0) (pos 0) (pos 0) (sum_entries y z back u v h) in
      let uc = low_of y u in
      let vc = low_of z v in
      let s0 = s.0 in
      let s2 = s.2 in
      let fu = flat y u (omega (arith, ints, uc, vc, s2)) in
      let fv = flat z v (omega (arith, ints, uc, vc, s2)) in
      let ua = fu.0 in
      let va = fv.0 in
      by_lt_z u.a (pos 0)
      (λ (k : u.a <ℤ pos 0). nz (subst IsZero (sym v.same) (omega (arith, ints, k, va, s0), (fv.1, (omega (arith, ints, uc, vc, s2), tt)))))
      (λ (k : pos 0 ≤ℤ u.a). ny (subst IsZero (sym u.same) (omega (arith, ints, k, ua), (fu.1, (omega (arith, ints, uc, vc, s2), tt)))))

  -- of two with the sum (e, j, 1), one of level 0 is 0
  low_is_zero : (y z : Vector) (j : ℕ) (u : IsInFan n e y) (v : IsInFan n e z) → u.a +ℤ v.a ≡ pos e → u.c +ℤ v.c ≡ pos 1 → u.c ≡ pos 0 → IsZero y
  low_is_zero y z j u v s t level =
      let f = flat y u level in
      let ua = f.0 in
      let vh = v.a_high in
      let one : v.c ≡ pos 1 = omega (arith, ints, t, level) in
      let ve = ap (λ (t : ℤ). pos e *ℤ t) one ∙ mul-one (pos e) in
      subst IsZero (sym u.same) (omega (arith, sums, ua, vh, ve, s), (f.1, (level, tt)))

  side_no_sum : (j : ℕ) (y z : Vector) → P y → IsNonzero y → P z → IsNonzero z → ¬ (plus y z ≡ point e j)
  side_no_sum j y z py ny pz nz h =
      let u = fan.out y py in
      let v = fan.out z pz in
      let s = entry_sums u.a u.b u.c v.a v.b v.c (pos e) (pos j) (pos 1) (sum_entries y z (point e j) u v h) in
      let uc = low_of y u in
      let vc = low_of z v in
      let s0 = s.0 in
      let s2 = s.2 in
      by_lt_z u.c (pos 1)
      (λ (k : u.c <ℤ pos 1). ny (low_is_zero y z j u v s.0 s.2 (omega (arith, ints, k, uc))))
      (λ (k : pos 1 ≤ℤ u.c). nz (low_is_zero z y j v u (omega (arith, sums, s0)) (omega (arith, sums, s2)) (omega (arith, ints, k, vc, s2))))

  along_back : (x : Vector) (u : IsInFan n e x) → u.b ≡ pos 0 → u.c ≡ pos 0 → IsAlong back x
  along_back x u b c = subst (IsAlong back) (sym u.same) (record {
    multiple = pos 1;
    factor = neg_ℤ u.a;
    positive = omega (arith, ints);
    same = three_same (turned u.a) (one-mul u.b ∙ b ∙ sym (*ℤ-zero (neg_ℤ u.a))) (one-mul u.c ∙ c ∙ sym (*ℤ-zero (neg_ℤ u.a)));
  })
    where
      turned : (a : ℤ) → pos 1 *ℤ a ≡ neg_ℤ a *ℤ negsuc 0
      turned a = omega (arith, ints)

  back_splits : SplitsAlong P back
  back_splits m y z h py pz s =
      let u = fan.out y py in
      let v = fan.out z pz in
      let t = entry_sums u.a u.b u.c v.a v.b v.c (m *ℤ negsuc 0) (m *ℤ pos 0) (m *ℤ pos 0) (sum_entries y z (scaled m back) u v s) in
      let uc = low_of y u in
      let vc = low_of z v in
      let t2 = t.2 in
      let mz = *ℤ-zero m in
      let cu : u.c ≡ pos 0 = omega (arith, sums, uc, vc, t2, mz) in
      let cv : v.c ≡ pos 0 = omega (arith, sums, uc, vc, t2, mz) in
      (along_back y u (flat y u cu).1 cu, along_back z v (flat z v cv).1 cv)

  pub back_extreme : IsExtreme P back
  back_extreme = record { irreducible = record { member = back_in; nonzero = back_nonzero; no_sum = back_no_sum }; splits_along = back_splits }

  -- where first entries of at most e·c sum up to e·m, they are e·c
  at_top : (m a b c d : ℤ) → a ≤ℤ (pos e *ℤ c) → b ≤ℤ (pos e *ℤ d) → a +ℤ b ≡ m *ℤ pos e → c +ℤ d ≡ m *ℤ pos 1 → (a ≡ c *ℤ pos e) × (b ≡ d *ℤ pos e)
  at_top m a b c d ah bh s t =
      let f = ap (λ (k : ℤ). pos e *ℤ k) (t ∙ mul-one m) in
      let g = mul-add (pos e) c d in
      let p = *ℤ_comm m (pos e) in
      let q = *ℤ_comm c (pos e) in
      let r = *ℤ_comm d (pos e) in
      (omega (arith, sums, ah, bh, s, f, g, p, q), omega (arith, sums, ah, bh, s, f, g, p, r))

  side_splits : (j : ℕ) → IsEnd n j → SplitsAlong P (point e j)
  side_splits j h m y z o py pz s =
      let u = fan.out y py in
      let v = fan.out z pz in
      let t = sums_of u.a u.b u.c v.a v.b v.c m (pos e) (pos j) (sum_entries y z (scaled m (point e j)) u v s) in
      let first = at_top m u.a v.a u.c v.c u.a_high v.a_high t.0 t.2 in
      let second = at_end (pos n) (pos j) m u.b v.b u.c v.c (whole_end n j h) u.b_low u.b_high v.b_low v.b_high t.1 t.2 in (
        subst (IsAlong (point e j)) (sym u.same) (along_corner (pos e) (pos j) u.c u.a u.b first.0 second.0),
        subst (IsAlong (point e j)) (sym v.same) (along_corner (pos e) (pos j) v.c v.a v.b first.1 second.1),
      )

  pub side_extreme : (j : ℕ) → j ≤ n → IsEnd n j → IsExtreme P (point e j)
  side_extreme j h k = record {
    irreducible = record { member = side_in j h; nonzero = nonzero_at_level (pos e) (pos j) (pos 1) (omega (arith, ints)); no_sum = side_no_sum j };
    splits_along = side_splits j k;
  }

  -- an extreme generator is (-1, 0, 0) or an end of the side
  pub extreme_of_fan : (x : Vector) → IsExtreme P x → (x ≡ back) ⊎ ((j : ℕ) × IsEnd n j × (x ≡ point e j))
  extreme_of_fan x i = elim (fan_element x i.irreducible) [
    | is_back s ↦ inl s
    | on_side j h s ↦ inr (j, end_of_splits P n e j side_in h (subst (SplitsAlong P) s i.splits_along), s)
  ]
