-- The irreducible elements of the monoid of a made file are the points of its square.
use Rattle.std.proofs.Common.{◌≡◌, ℕ, ◌≤◌, [], ◌∷◌, ℤ, pos, negsuc, ◌+ℤ◌, ◌-ℤ◌, ◌*ℤ◌, ◌≤ℤ◌, ◌<ℤ◌, refl, sym, ap, ◌∙◌, subst, arith}
use Rattle.std.proofs.lemmas.Int.{ints, by_lt_z}
use Rattle.std.proofs.Math.IntN.{*ℤ-zero}
use Rattle.nz_spec.specs.Vectors.{Vector, plus, IsNonzero}
use Rattle.nz_spec.specs.Systems.{IsMember}
use Rattle.nz_spec.specs.Monoids.{IsIrreducible}
use Rattle.nz_spec.proofs.IntLaws.{mul-sub, nonneg_of_mul}
use Rattle.nz_linear.proofs.Ring.{sums, mul-one}
use Rattle.nz_linear.proofs.Signs.{mul_le}
use Rattle.nz_system.specs.Meaning.{system_of}
use Rattle.nz_make.specs.Squares.{made_file, point, IsPoint}
use Rattle.nz_make.proofs.Cones.{IsOver, three_same, entries_of_member, member_of_entries}

pub nonzero_at_level : (a b c : ℤ) → pos 1 ≤ℤ c → IsNonzero (a ∷ b ∷ c ∷ [])
nonzero_at_level a b c h z = let e = z.1.1.0 in omega (arith, ints, h, e)

-- what is 0 at the third entry is 0
pub flat_is_zero : (n a b c : ℤ) → pos 1 ≤ℤ n → IsOver n a b c → c ≤ℤ pos 0 → (a ≡ pos 0) × ((b ≡ pos 0) × (c ≡ pos 0))
flat_is_zero n a b c h o l =
    let n0 : pos 0 ≤ℤ n = omega (arith, sums, h) in
    let above : (n *ℤ c) ≤ℤ (n *ℤ pos 0) = mul_le n c (pos 0) n0 l in
    let below : pos 0 ≤ℤ (n *ℤ c) = omega (arith, sums, o.a_low, o.a_high) in
    let c0 = nonneg_of_mul n c h below in
    (omega (arith, sums, above, *ℤ-zero n, o.a_low, o.a_high), (omega (arith, sums, above, *ℤ-zero n, o.b_low, o.b_high), omega (arith, sums, c0, l)))

-- a nonzero member has level 1 or more
pub level_of_nonzero : (n : ℕ) (a b c : ℤ) → 1 ≤ n → IsOver (pos n) a b c → IsNonzero (a ∷ b ∷ c ∷ []) → pos 1 ≤ℤ c
level_of_nonzero n a b c l o nonzero =
    by_lt_z (pos 0) c
    (λ (h : pos 0 <ℤ c). omega (arith, ints, h))
    (λ (h : c ≤ℤ pos 0). let m : pos 1 ≤ℤ pos n = omega (arith, ints) in let z = flat_is_zero (pos n) a b c m o h in absurd (nonzero (z.0, (z.1.0, (z.1.1, tt)))))

-- ---- a point is irreducible

pub point_over : (n i j : ℕ) → i ≤ n → j ≤ n → IsOver (pos n) (pos i) (pos j) (pos 1)
point_over n i j h k = record {
  a_low = omega (arith, ints);
  a_high = omega (arith, ints, mul-one (pos n), h);
  b_low = omega (arith, ints);
  b_high = omega (arith, ints, mul-one (pos n), k);
}

third : (a b c a' b' c' i j : ℤ) → plus (a ∷ b ∷ c ∷ []) (a' ∷ b' ∷ c' ∷ []) ≡ i ∷ j ∷ pos 1 ∷ [] → c +ℤ c' ≡ pos 1
third a b c a' b' c' i j e = cc

no_sum_of : (n : ℕ) → 1 ≤ n → (i j : ℕ) (y z : Vector) → IsMember (system_of (made_file n)) y → IsNonzero y → IsMember (system_of (made_file n)) z → IsNonzero z → ¬ (plus y z ≡ point i j)
no_sum_of n l i j y z my ny mz nz e =
    let u = entries_of_member n y my in
    let v = entries_of_member n z mz in
    let cu = level_of_nonzero n u.a u.b u.c l u.over (subst IsNonzero u.same ny) in
    let cv = level_of_nonzero n v.a v.b v.c l v.over (subst IsNonzero v.same nz) in
    let one = third u.a u.b u.c v.a v.b v.c (pos i) (pos j) (ap (λ (t : Vector). plus t (v.a ∷ v.b ∷ v.c ∷ [])) (sym u.same) ∙ ap (plus y) (sym v.same) ∙ e) in
    omega (arith, ints, cu, cv, one)

pub irreducible_of_point : (n : ℕ) → 1 ≤ n → (x : Vector) → IsPoint n x → IsIrreducible (IsMember (system_of (made_file n))) x
irreducible_of_point n l x p = subst (IsIrreducible (IsMember (system_of (made_file n)))) (sym p.same) (record {
  member = member_of_entries n (pos p.i) (pos p.j) (pos 1) l (omega (arith, ints)) (point_over n p.i p.j p.i_within p.j_within);
  nonzero = nonzero_at_level (pos p.i) (pos p.j) (pos 1) (omega (arith, ints));
  no_sum = no_sum_of n l p.i p.j;
})

-- ---- an irreducible is a point

-- a number from 0 to n·c is one from 0 to n and one from 0 to n·(c - 1)
pub record IsSplit (n a c : ℤ) : Type 0 where
  pub part : ℤ
  pub low : pos 0 ≤ℤ part
  pub high : part ≤ℤ n
  pub rest_low : pos 0 ≤ℤ (a -ℤ part)
  pub rest_high : (a -ℤ part) ≤ℤ (n *ℤ (c -ℤ pos 1))

pub split : (n a c : ℤ) → pos 0 ≤ℤ n → pos 2 ≤ℤ c → pos 0 ≤ℤ a → a ≤ℤ (n *ℤ c) → IsSplit n a c
split n a c h two low high =
    by_lt_z n a
    (λ (l : n <ℤ a). record { part = n; low = h; high = omega (arith, sums); rest_low = omega (arith, sums, l); rest_high = omega (arith, sums, high, mul-sub n c (pos 1), mul-one n) })
    (λ (l : a ≤ℤ n). (let more : pos 1 ≤ℤ (c -ℤ pos 1) = omega (arith, sums, two) in let r : (n *ℤ pos 1) ≤ℤ (n *ℤ (c -ℤ pos 1)) = mul_le n (pos 1) (c -ℤ pos 1) h more in
    record { part = a; low = low; high = l; rest_low = omega (arith, sums); rest_high = omega (arith, sums, r, h, mul-one n) }))

joined : (a p : ℤ) → p +ℤ (a -ℤ p) ≡ a
joined a p = omega (arith, sums)

not_above : (n : ℕ) (a b c : ℤ) → 1 ≤ n → IsOver (pos n) a b c → pos 2 ≤ℤ c → IsIrreducible (IsMember (system_of (made_file n))) (a ∷ b ∷ c ∷ []) → ⊥
not_above n a b c l o two irreducible =
    let m : pos 0 ≤ℤ pos n = omega (arith, ints) in
    let s = split (pos n) a c m two o.a_low o.a_high in
    let t = split (pos n) b c m two o.b_low o.b_high in
    let one : pos 1 ≤ℤ pos 1 = omega (arith, ints) in
    let rest : pos 1 ≤ℤ (c -ℤ pos 1) = omega (arith, sums, two) in
    let y = s.part ∷ t.part ∷ pos 1 ∷ [] in
    let z = (a -ℤ s.part) ∷ (b -ℤ t.part) ∷ (c -ℤ pos 1) ∷ [] in
    let oy : IsOver (pos n) s.part t.part (pos 1) = record { a_low = s.low; a_high = omega (arith, sums, s.high, mul-one (pos n)); b_low = t.low; b_high = omega (arith, sums, t.high, mul-one (pos n)) } in
    let oz : IsOver (pos n) (a -ℤ s.part) (b -ℤ t.part) (c -ℤ pos 1) = record { a_low = s.rest_low; a_high = s.rest_high; b_low = t.rest_low; b_high = t.rest_high } in
    irreducible.no_sum y z
    (member_of_entries n s.part t.part (pos 1) l one oy) (nonzero_at_level s.part t.part (pos 1) one)
    (member_of_entries n (a -ℤ s.part) (b -ℤ t.part) (c -ℤ pos 1) l rest oz) (nonzero_at_level (a -ℤ s.part) (b -ℤ t.part) (c -ℤ pos 1) rest)
    (three_same (joined a s.part) (joined b t.part) (joined c (pos 1)))

pub whole : (n : ℕ) (a : ℤ) → pos 0 ≤ℤ a → a ≤ℤ pos n → (i : ℕ) × (i ≤ n) × (a ≡ pos i)
whole n (pos i) h k = (i, omega (arith, ints, k), refl)
whole n (negsuc i) h k = absurd (omega (arith, ints, h))

pub point_at_one : (n : ℕ) (a b c : ℤ) → IsOver (pos n) a b c → c ≡ pos 1 → IsPoint n (a ∷ b ∷ c ∷ [])
point_at_one n a b c o e =
    let same : pos n *ℤ c ≡ pos n = ap (λ (t : ℤ). pos n *ℤ t) e ∙ mul-one (pos n) in
    let u = whole n a o.a_low (omega (arith, sums, o.a_high, same)) in
    let v = whole n b o.b_low (omega (arith, sums, o.b_high, same)) in
    record { i = u.0; j = v.0; i_within = u.1; j_within = v.1; same = three_same u.2 v.2 e }

pub point_of_irreducible : (n : ℕ) → 1 ≤ n → (x : Vector) → IsIrreducible (IsMember (system_of (made_file n))) x → IsPoint n x
point_of_irreducible n l x irreducible =
    let u = entries_of_member n x irreducible.member in
    let h = subst (IsIrreducible (IsMember (system_of (made_file n)))) u.same irreducible in
    let level = level_of_nonzero n u.a u.b u.c l u.over h.nonzero in
    by_lt_z (pos 1) u.c
    (λ (more : pos 1 <ℤ u.c). absurd (not_above n u.a u.b u.c l u.over (omega (arith, ints, more)) h))
    (λ (most : u.c ≤ℤ pos 1). subst (IsPoint n) (sym u.same) (point_at_one n u.a u.b u.c u.over (omega (arith, ints, most, level))))
