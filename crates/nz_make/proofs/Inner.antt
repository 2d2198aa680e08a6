-- The vectors of level 2 that are held of a made file: the double of the middle, moved by u and v to the sides, where u + v < n.
use Rattle.std.proofs.Common.{◌≡◌, ◌⊎◌, inl, inr, ℕ, ◌+◌, ◌<◌, ◌≤◌, [], ◌∷◌, ℤ, pos, ◌+ℤ◌, ◌-ℤ◌, ◌*ℤ◌, ◌≤ℤ◌, ◌<ℤ◌, Bool, true, false, refl, sym, ap, ◌∙◌, subst, arith}
use Rattle.std.proofs.lemmas.Int.{ints, by_lt_z}
use Rattle.std.proofs.Math.IntN.{*ℤ_comm, *ℤ-zero}
use Rattle.nz_spec.specs.Vectors.{Vector, scaled, combination}
use Rattle.nz_spec.specs.Systems.{IsMember}
use Rattle.nz_spec.proofs.IntLaws.{mul-add}
use Rattle.nz_linear.proofs.Ring.{sums, ring_z, mul-one}
use Rattle.nz_linear.proofs.Signs.{mul_pos, mul_lt, cancel_lt}
use Rattle.nz_system.specs.Meaning.{system_of}
use Rattle.nz_make.specs.Squares.{made_file, corners, IsPoint}
use Rattle.nz_make.proofs.Cones.{IsOver, three_same, entries_of_member}
use Rattle.nz_make.proofs.Points.{flat_is_zero, whole, point_at_one}
use Rattle.nz_make.proofs.Boxes.{HasFactors}

-- n and u more, or n and u less
abbrev pub moved : Bool → ℕ → ℕ → ℤ
moved true n u = pos n +ℤ pos u
moved false n u = pos n -ℤ pos u

-- the vector of level 2 that is moved by u and v
abbrev pub inner : Bool → Bool → ℕ → ℕ → ℕ → Vector
inner f g n u v = moved f n u ∷ moved g n v ∷ pos 2 ∷ []

pub record IsInner (n : ℕ) (x : Vector) : Type 0 where
  pub to_right : Bool
  pub to_top : Bool
  pub u : ℕ
  pub v : ℕ
  pub u_low : 1 ≤ u
  pub v_low : 1 ≤ v
  pub near : u + v < n
  pub same : x ≡ inner to_right to_top n u v

-- 0, a point or one of these
pub data IsHeld (n : ℕ) (x : Vector) : Type 0 where
  zero_held : x ≡ pos 0 ∷ pos 0 ∷ pos 0 ∷ [] → IsHeld n x
  point_held : IsPoint n x → IsHeld n x
  inner_held : IsInner n x → IsHeld n x

-- ---- by how much a vector of level 2 is moved

record IsNear (n a b : ℤ) : Type 0 where
  a_low : pos 1 ≤ℤ a
  b_low : pos 1 ≤ℤ b
  near : (a +ℤ b) <ℤ n

-- of three factors with the sum 2: n times what two of them are below 1
near_of : (n k a b t s r : ℤ) → pos 1 ≤ℤ k → pos 1 ≤ℤ n → t <ℤ k → s <ℤ k → r <ℤ k → (t +ℤ s) +ℤ r ≡ pos 2 *ℤ k → k *ℤ a ≡ n *ℤ (k -ℤ t) → k *ℤ b ≡ n *ℤ (k -ℤ s) → IsNear n a b
near_of n k a b t s r h m lt ls lr e f g =
    let k0 : pos 0 <ℤ k = omega (arith, sums, h) in
    let n0 : pos 0 <ℤ n = omega (arith, sums, m) in
    let t0 : pos 0 <ℤ (k -ℤ t) = omega (arith, sums, lt) in
    let s0 : pos 0 <ℤ (k -ℤ s) = omega (arith, sums, ls) in
    let a0 : (k *ℤ pos 0) <ℤ (k *ℤ a) = omega (arith, sums, f, mul_pos n (k -ℤ t) n0 t0, *ℤ-zero k) in
    let b0 : (k *ℤ pos 0) <ℤ (k *ℤ b) = omega (arith, sums, g, mul_pos n (k -ℤ s) n0 s0, *ℤ-zero k) in
    let both : k *ℤ (a +ℤ b) ≡ n *ℤ r = mul-add k a b ∙ both_of n k t s r _ _ e f g in
    let less : (k *ℤ (a +ℤ b)) <ℤ (k *ℤ n) = omega (arith, sums, both, mul_lt n r k n0 lr, comm k n) in
    let a1 = cancel_lt k (pos 0) a k0 a0 in
    let b1 = cancel_lt k (pos 0) b k0 b0 in
    record { a_low = omega (arith, sums, a1); b_low = omega (arith, sums, b1); near = cancel_lt k (a +ℤ b) n k0 less }
  where
    comm : (k n : ℤ) → k *ℤ n ≡ n *ℤ k
    comm k n = simp ring_z (omega (arith, sums))

    both_of : (n k t s r a b : ℤ) → (t +ℤ s) +ℤ r ≡ pos 2 *ℤ k → a ≡ n *ℤ (k -ℤ t) → b ≡ n *ℤ (k -ℤ s) → a +ℤ b ≡ n *ℤ r
    both_of n k t s r a b e f g =
        let h = ap (λ (z : ℤ). n *ℤ z) e in
        let i = simp ring_z at h in
        let p = simp ring_z at f in
        let q = simp ring_z at g in
        omega (arith, sums, i, p, q)

inner_of : (f g : Bool) (n : ℕ) (a b c a' b' : ℤ) → IsNear (pos n) a' b' → c ≡ pos 2 → ((u : ℕ) → a' ≡ pos u → a ≡ moved f n u) → ((v : ℕ) → b' ≡ pos v → b ≡ moved g n v) → IsInner n (a ∷ b ∷ c ∷ [])
inner_of f g n a b c a' b' h e p q =
    let al = h.a_low in
    let bl = h.b_low in
    let near = h.near in
    let u = whole n a' (omega (arith, ints, al)) (omega (arith, ints, bl, near)) in
    let v = whole n b' (omega (arith, ints, bl)) (omega (arith, ints, al, near)) in
    let us = u.2 in
    let vs = v.2 in
    record {
      to_right = f;
      to_top = g;
      u = u.0;
      v = v.0;
      u_low = omega (arith, ints, us, al);
      v_low = omega (arith, ints, vs, bl);
      near = omega (arith, ints, us, vs, near);
      same = three_same (p u.0 u.2) (q v.0 v.2) e;
    }

-- ---- the four triangles

-- the sum of q and s over k, at n
record HasTwice (n k a b p q r s : ℤ) : Type 0 where
  first : k *ℤ a ≡ n *ℤ q +ℤ n *ℤ s
  second : k *ℤ b ≡ n *ℤ r +ℤ n *ℤ s
  third : p +ℤ (q +ℤ (r +ℤ s)) ≡ pos 2 *ℤ k

-- from n·k and the two factors of an entry: how far it is above n
above_by : (n k a q s t : ℤ) → k *ℤ a ≡ n *ℤ q +ℤ n *ℤ s → t +ℤ (q +ℤ s) ≡ pos 2 *ℤ k → k *ℤ (a -ℤ n) ≡ n *ℤ (k -ℤ t)
above_by n k a q s t e f =
    let h = ap (λ (z : ℤ). n *ℤ z) f in
    let i = simp ring_z at h in
    simp ring_z (omega (arith, sums, e, i))

-- and from one of them, where the other is 0: how far it is below n
below_by : (n k a q s : ℤ) → k *ℤ a ≡ n *ℤ q +ℤ n *ℤ s → s ≡ pos 0 → k *ℤ (n -ℤ a) ≡ n *ℤ (k -ℤ q)
below_by n k a q s e z =
    let h = ap (λ (t : ℤ). n *ℤ t) z ∙ *ℤ-zero n in
    simp ring_z (omega (arith, sums, e, h))

up : (n : ℕ) (a a' : ℤ) → a' ≡ a -ℤ pos n → (u : ℕ) → a' ≡ pos u → a ≡ moved true n u
up n a a' e u f = omega (arith, sums, e, f)

down : (n : ℕ) (a a' : ℤ) → a' ≡ pos n -ℤ a → (u : ℕ) → a' ≡ pos u → a ≡ moved false n u
down n a a' e u f = omega (arith, sums, e, f)

swap_sum : (x a b : ℤ) → x ≡ a +ℤ b → x ≡ b +ℤ a
swap_sum x a b e = omega (arith, sums, e)

without_origin : (n : ℕ) (k a b p q r s : ℤ) → 1 ≤ n → pos 1 ≤ℤ k → q <ℤ k → r <ℤ k → s <ℤ k → HasTwice (pos n) k a b p q r s → p ≡ pos 0 → IsInner n (a ∷ b ∷ pos 2 ∷ [])
without_origin n k a b p q r s l h lq lr ls t z =
    let e = t.third in
    inner_of true true n a b (pos 2) (a -ℤ pos n) (b -ℤ pos n)
    (near_of (pos n) k (a -ℤ pos n) (b -ℤ pos n) r q s h (omega (arith, ints, l)) lr lq ls (omega (arith, sums, e, z))
    (above_by (pos n) k a q s r t.first (omega (arith, sums, e, z))) (above_by (pos n) k b r s q t.second (omega (arith, sums, e, z))))
    refl (up n a _ refl) (up n b _ refl)

without_opposed : (n : ℕ) (k a b p q r s : ℤ) → 1 ≤ n → pos 1 ≤ℤ k → p <ℤ k → q <ℤ k → r <ℤ k → HasTwice (pos n) k a b p q r s → s ≡ pos 0 → IsInner n (a ∷ b ∷ pos 2 ∷ [])
without_opposed n k a b p q r s l h lp lq lr t z =
    let e = t.third in
    inner_of false false n a b (pos 2) (pos n -ℤ a) (pos n -ℤ b)
    (near_of (pos n) k (pos n -ℤ a) (pos n -ℤ b) q r p h (omega (arith, ints, l)) lq lr lp (omega (arith, sums, e, z))
    (below_by (pos n) k a q s t.first z) (below_by (pos n) k b r s t.second z))
    refl (down n a _ refl) (down n b _ refl)

without_right : (n : ℕ) (k a b p q r s : ℤ) → 1 ≤ n → pos 1 ≤ℤ k → p <ℤ k → r <ℤ k → s <ℤ k → HasTwice (pos n) k a b p q r s → q ≡ pos 0 → IsInner n (a ∷ b ∷ pos 2 ∷ [])
without_right n k a b p q r s l h lp lr ls t z =
    let e = t.third in
    inner_of false true n a b (pos 2) (pos n -ℤ a) (b -ℤ pos n)
    (near_of (pos n) k (pos n -ℤ a) (b -ℤ pos n) s p r h (omega (arith, ints, l)) ls lp lr (omega (arith, sums, e, z))
    (below_by (pos n) k a s q (swap_sum (k *ℤ a) (pos n *ℤ q) (pos n *ℤ s) t.first) z) (above_by (pos n) k b r s p t.second (omega (arith, sums, e, z))))
    refl (down n a _ refl) (up n b _ refl)

without_upper : (n : ℕ) (k a b p q r s : ℤ) → 1 ≤ n → pos 1 ≤ℤ k → p <ℤ k → q <ℤ k → s <ℤ k → HasTwice (pos n) k a b p q r s → r ≡ pos 0 → IsInner n (a ∷ b ∷ pos 2 ∷ [])
without_upper n k a b p q r s l h lp lq ls t z =
    let e = t.third in
    inner_of true false n a b (pos 2) (a -ℤ pos n) (pos n -ℤ b)
    (near_of (pos n) k (a -ℤ pos n) (pos n -ℤ b) p s q h (omega (arith, ints, l)) lp ls lq (omega (arith, sums, e, z))
    (above_by (pos n) k a q s p t.first (omega (arith, sums, e, z))) (below_by (pos n) k b s r (swap_sum (k *ℤ b) (pos n *ℤ r) (pos n *ℤ s) t.second) z))
    refl (up n a _ refl) (down n b _ refl)

-- ---- what is in a box

first_sum : (n k a p q r s : ℤ) → p *ℤ pos 0 +ℤ (q *ℤ n +ℤ (r *ℤ pos 0 +ℤ (s *ℤ n +ℤ pos 0))) ≡ k *ℤ a → k *ℤ a ≡ n *ℤ q +ℤ n *ℤ s
first_sum n k a p q r s e = let f = simp ring_z at e in omega (arith, sums, f)

second_sum : (n k b p q r s : ℤ) → p *ℤ pos 0 +ℤ (q *ℤ pos 0 +ℤ (r *ℤ n +ℤ (s *ℤ n +ℤ pos 0))) ≡ k *ℤ b → k *ℤ b ≡ n *ℤ r +ℤ n *ℤ s
second_sum n k b p q r s e = let f = simp ring_z at e in omega (arith, sums, f)

third_sum : (k c p q r s : ℤ) → p *ℤ pos 1 +ℤ (q *ℤ pos 1 +ℤ (r *ℤ pos 1 +ℤ (s *ℤ pos 1 +ℤ pos 0))) ≡ k *ℤ c → p +ℤ (q +ℤ (r +ℤ s)) ≡ k *ℤ c
third_sum k c p q r s e = omega (arith, sums, e, mul-one p, mul-one q, mul-one r, mul-one s)

-- the level is at most 2
level_below : (k c p q r s : ℤ) → pos 1 ≤ℤ k → p <ℤ k → q <ℤ k → r <ℤ k → s <ℤ k → ((p ≡ pos 0) ⊎ (q ≡ pos 0)) ⊎ ((r ≡ pos 0) ⊎ (s ≡ pos 0)) → p +ℤ (q +ℤ (r +ℤ s)) ≡ k *ℤ c → c <ℤ pos 3
level_below k c p q r s h lp lq lr ls z e =
    let k0 : pos 0 <ℤ k = omega (arith, sums, h) in
    let t : k *ℤ pos 3 ≡ (k +ℤ k) +ℤ k = omega (arith, ints) in
    cancel_lt k c (pos 3) k0 (elim z [
      | inl (inl o) ↦ omega (arith, sums, t, e, o, lq, lr, ls)
      | inl (inr o) ↦ omega (arith, sums, t, e, o, lp, lr, ls)
      | inr (inl o) ↦ omega (arith, sums, t, e, o, lp, lq, ls)
      | inr (inr o) ↦ omega (arith, sums, t, e, o, lp, lq, lr)
    ])

at_two : (n : ℕ) (k a b p q r s : ℤ) → 1 ≤ n → pos 1 ≤ℤ k → p <ℤ k → q <ℤ k → r <ℤ k → s <ℤ k → ((p ≡ pos 0) ⊎ (q ≡ pos 0)) ⊎ ((r ≡ pos 0) ⊎ (s ≡ pos 0)) → HasTwice (pos n) k a b p q r s → IsInner n (a ∷ b ∷ pos 2 ∷ [])
at_two n k a b p q r s l h lp lq lr ls (inl (inl z)) t = without_origin n k a b p q r s l h lq lr ls t z
at_two n k a b p q r s l h lp lq lr ls (inl (inr z)) t = without_right n k a b p q r s l h lp lr ls t z
at_two n k a b p q r s l h lp lq lr ls (inr (inl z)) t = without_upper n k a b p q r s l h lp lq ls t z
at_two n k a b p q r s l h lp lq lr ls (inr (inr z)) t = without_opposed n k a b p q r s l h lp lq lr t z

held_by_level : (n : ℕ) (a b c : ℤ) → 1 ≤ n → IsOver (pos n) a b c → HasFactors n (a ∷ b ∷ c ∷ []) → IsHeld n (a ∷ b ∷ c ∷ [])
held_by_level n a b c l o h =
    by_lt_z c (pos 1)
    (λ (low : c <ℤ pos 1). let z = flat_is_zero (pos n) a b c (omega (arith, ints, l)) o (omega (arith, ints, low)) in zero_held (three_same z.0 z.1.0 z.1.1))
    (λ (high : pos 1 ≤ℤ c). by_lt_z c (pos 2)
    (λ (less : c <ℤ pos 2). point_held (point_at_one n a b c o (omega (arith, ints, high, less))))
    (λ (more : pos 2 ≤ℤ c).
    let third = third_sum h.k c h.p h.q h.r h.s entries.2 in
    let below = level_below h.k c h.p h.q h.r h.s h.positive h.p_fraction.1 h.q_fraction.1 h.r_fraction.1 h.s_fraction.1 h.some_zero third in
    let two : c ≡ pos 2 = omega (arith, ints, more, below) in
    let t : HasTwice (pos n) h.k a b h.p h.q h.r h.s = record {
      first = first_sum (pos n) h.k a h.p h.q h.r h.s entries.0;
      second = second_sum (pos n) h.k b h.p h.q h.r h.s entries.1;
      third = third ∙ ap (λ (z : ℤ). h.k *ℤ z) two ∙ *ℤ_comm h.k (pos 2);
    } in
    inner_held (subst (λ (z : ℤ). IsInner n (a ∷ b ∷ z ∷ [])) (sym two) (at_two n h.k a b h.p h.q h.r h.s l h.positive h.p_fraction.1 h.q_fraction.1 h.r_fraction.1 h.s_fraction.1 h.some_zero t))))
  where
    entries_of : (k p q r s : ℤ) → combination 3 (p ∷ q ∷ r ∷ s ∷ []) (corners n) ≡ scaled k (a ∷ b ∷ c ∷ [])
        → (p *ℤ pos 0 +ℤ (q *ℤ pos n +ℤ (r *ℤ pos 0 +ℤ (s *ℤ pos n +ℤ pos 0))) ≡ k *ℤ a)
        × (p *ℤ pos 0 +ℤ (q *ℤ pos 0 +ℤ (r *ℤ pos n +ℤ (s *ℤ pos n +ℤ pos 0))) ≡ k *ℤ b)
        × (p *ℤ pos 1 +ℤ (q *ℤ pos 1 +ℤ (r *ℤ pos 1 +ℤ (s *ℤ pos 1 +ℤ pos 0))) ≡ k *ℤ c)
    entries_of k p q r s e = (cc, cc, cc)

    entries : (h.p *ℤ pos 0 +ℤ (h.q *ℤ pos n +ℤ (h.r *ℤ pos 0 +ℤ (h.s *ℤ pos n +ℤ pos 0))) ≡ h.k *ℤ a)
        × (h.p *ℤ pos 0 +ℤ (h.q *ℤ pos 0 +ℤ (h.r *ℤ pos n +ℤ (h.s *ℤ pos n +ℤ pos 0))) ≡ h.k *ℤ b)
        × (h.p *ℤ pos 1 +ℤ (h.q *ℤ pos 1 +ℤ (h.r *ℤ pos 1 +ℤ (h.s *ℤ pos 1 +ℤ pos 0))) ≡ h.k *ℤ c)
    entries = entries_of h.k h.p h.q h.r h.s h.same

-- a vector of a box of independent corners is 0, a point or one of level 2
pub held_of_factors : (n : ℕ) (x : Vector) → 1 ≤ n → IsMember (system_of (made_file n)) x → HasFactors n x → IsHeld n x
held_of_factors n x l member h =
    let u = entries_of_member n x member in
    subst (IsHeld n) (sym u.same) (held_by_level n u.a u.b u.c l u.over (subst (HasFactors n) u.same h))
