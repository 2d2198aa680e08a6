-- The members of the monoid of a made file: the vectors (a, b, c) with a and b from 0 to n·c.
use Rattle.std.proofs.Common.{◌≡◌, ℕ, ◌≤◌, List, [], ◌∷◌, length, ℤ, pos, ◌+ℤ◌, ◌-ℤ◌, ◌*ℤ◌, ◌≤ℤ◌, ◌<ℤ◌, refl, ap, subst, arith}
use Rattle.std.proofs.lemmas.Int.{ints}
use Rattle.std.specs.List.{AllByRecursion as Each}
use Rattle.nz_spec.specs.Vectors.{Vector, scaled, combination}
use Rattle.nz_spec.specs.Sums.{IsInCone}
use Rattle.nz_spec.specs.Systems.{IsMember}
use Rattle.nz_spec.proofs.IntLaws.{mul-nonneg, mul-pos, nonneg_of_mul}
use Rattle.nz_linear.proofs.Ring.{sums, ring_z}
use Rattle.nz_linear.proofs.Signs.{cancel_le}
use Rattle.nz_system.specs.Meaning.{system_of}
use Rattle.nz_make.specs.Squares.{corners, made_file}

pub three : (x : List ℤ) → length x ≡ 3 → (a b c : ℤ) × (x ≡ a ∷ b ∷ c ∷ [])
three [] h = absurd (omega arith)
three (a ∷ []) h = absurd (omega arith)
three (a ∷ b ∷ []) h = absurd (omega arith)
three (a ∷ b ∷ c ∷ []) h = (a, b, c, refl)
three (a ∷ b ∷ c ∷ d ∷ x) h = absurd (omega arith)

pub four : (x : List ℤ) → length x ≡ 4 → (a b c d : ℤ) × (x ≡ a ∷ b ∷ c ∷ d ∷ [])
four [] h = absurd (omega arith)
four (a ∷ x) h = (let u = three x (omega arith) in (a, u.0, u.1, u.2, ap (λ (t : List ℤ). a ∷ t) u.3))

pub three_same : {a b c a' b' c' : ℤ} → a ≡ a' → b ≡ b' → c ≡ c' → (a ∷ b ∷ c ∷ []) ≡ (a' ∷ b' ∷ c' ∷ [])
three_same e f g = cc

-- a and b are from 0 to n·c
pub record IsOver (n a b c : ℤ) : Type 0 where
  pub a_low : pos 0 ≤ℤ a
  pub a_high : a ≤ℤ (n *ℤ c)
  pub b_low : pos 0 ≤ℤ b
  pub b_high : b ≤ℤ (n *ℤ c)

-- ---- from the corners

scaled_sum : (n k c p q r s : ℤ) → p *ℤ pos 1 +ℤ (q *ℤ pos 1 +ℤ (r *ℤ pos 1 +ℤ (s *ℤ pos 1 +ℤ pos 0))) ≡ k *ℤ c → k *ℤ (n *ℤ c) ≡ ((n *ℤ p +ℤ n *ℤ q) +ℤ n *ℤ r) +ℤ n *ℤ s
scaled_sum n k c p q r s e =
    let f = ap (λ t. n *ℤ t) e in
    let g = simp ring_z at f in
    simp ring_z (omega (arith, sums, g))

-- the first entry, of which the second and the last corner have n, is at most n times the third
entry_bounds : (n k c p q r s a : ℤ) → pos 1 ≤ℤ k → pos 0 ≤ℤ n → pos 0 ≤ℤ p → pos 0 ≤ℤ q → pos 0 ≤ℤ r → pos 0 ≤ℤ s
    → k *ℤ a ≡ n *ℤ q +ℤ n *ℤ s → k *ℤ (n *ℤ c) ≡ ((n *ℤ p +ℤ n *ℤ q) +ℤ n *ℤ r) +ℤ n *ℤ s → (pos 0 ≤ℤ a) × (a ≤ℤ (n *ℤ c))
entry_bounds n k c p q r s a h m p0 q0 r0 s0 e f =
    let np = mul-nonneg n p m p0 in
    let nq = mul-nonneg n q m q0 in
    let nr = mul-nonneg n r m r0 in
    let ns = mul-nonneg n s m s0 in
    let low : pos 0 ≤ℤ (k *ℤ a) = omega (arith, sums, nq, ns, e) in
    let high : (k *ℤ a) ≤ℤ (k *ℤ (n *ℤ c)) = omega (arith, sums, np, nr, e, f) in
    let positive : pos 0 <ℤ k = omega (arith, sums, h) in
    (nonneg_of_mul k a h low, cancel_le k a (n *ℤ c) positive high)

first_entry : (n k a p q r s : ℤ) → p *ℤ pos 0 +ℤ (q *ℤ n +ℤ (r *ℤ pos 0 +ℤ (s *ℤ n +ℤ pos 0))) ≡ k *ℤ a → k *ℤ a ≡ n *ℤ q +ℤ n *ℤ s
first_entry n k a p q r s e = let f = simp ring_z at e in omega (arith, sums, f)

second_entry : (n k b p q r s : ℤ) → p *ℤ pos 0 +ℤ (q *ℤ pos 0 +ℤ (r *ℤ n +ℤ (s *ℤ n +ℤ pos 0))) ≡ k *ℤ b → k *ℤ b ≡ n *ℤ r +ℤ n *ℤ s
second_entry n k b p q r s e = let f = simp ring_z at e in omega (arith, sums, f)

swapped : (x p q r s : ℤ) → x ≡ ((p +ℤ q) +ℤ r) +ℤ s → x ≡ ((p +ℤ r) +ℤ q) +ℤ s
swapped x p q r s e = omega (arith, sums, e)

over_of_factors : (n : ℕ) (k a b c p q r s : ℤ) → pos 1 ≤ℤ k → Each (λ t. pos 0 ≤ℤ t) (p ∷ q ∷ r ∷ s ∷ []) → combination 3 (p ∷ q ∷ r ∷ s ∷ []) (corners n) ≡ scaled k (a ∷ b ∷ c ∷ []) → IsOver (pos n) a b c
over_of_factors n k a b c p q r s h each e =
    let ea : p *ℤ pos 0 +ℤ (q *ℤ pos n +ℤ (r *ℤ pos 0 +ℤ (s *ℤ pos n +ℤ pos 0))) ≡ k *ℤ a = cc in
    let eb : p *ℤ pos 0 +ℤ (q *ℤ pos 0 +ℤ (r *ℤ pos n +ℤ (s *ℤ pos n +ℤ pos 0))) ≡ k *ℤ b = cc in
    let ec : p *ℤ pos 1 +ℤ (q *ℤ pos 1 +ℤ (r *ℤ pos 1 +ℤ (s *ℤ pos 1 +ℤ pos 0))) ≡ k *ℤ c = cc in
    let m : pos 0 ≤ℤ pos n = omega (arith, ints) in
    let all = scaled_sum (pos n) k c p q r s ec in
    let first = entry_bounds (pos n) k c p q r s a h m each.0 each.1.0 each.1.1.0 each.1.1.1.0 (first_entry (pos n) k a p q r s ea) all in
    let second = entry_bounds (pos n) k c p r q s b h m each.0 each.1.1.0 each.1.0 each.1.1.1.0 (second_entry (pos n) k b p q r s eb) (swapped _ (pos n *ℤ p) (pos n *ℤ q) (pos n *ℤ r) (pos n *ℤ s) all) in
    record { a_low = first.0; a_high = first.1; b_low = second.0; b_high = second.1 }

over_of_cone : (n : ℕ) (a b c : ℤ) → IsInCone 3 (corners n) (a ∷ b ∷ c ∷ []) → IsOver (pos n) a b c
over_of_cone n a b c i =
    let u = four i.factors i.one_each in
    over_of_factors n i.multiple a b c u.0 u.1 u.2 u.3 i.positive
    (subst (Each (λ t. pos 0 ≤ℤ t)) u.4 i.each)
    (subst (λ (fs : List ℤ). combination 3 fs (corners n) ≡ scaled i.multiple (a ∷ b ∷ c ∷ [])) u.4 i.same)

-- ---- to the corners

first_same : (n a b c p q : ℤ) → p ≡ n *ℤ c -ℤ a → q ≡ n *ℤ c -ℤ b → (p *ℤ q) *ℤ pos 0 +ℤ ((a *ℤ q) *ℤ n +ℤ ((p *ℤ b) *ℤ pos 0 +ℤ ((a *ℤ b) *ℤ n +ℤ pos 0))) ≡ ((n *ℤ n) *ℤ c) *ℤ a
first_same n a b c p q e f = rw (e, f) (simp ring_z (omega (arith, sums)))

second_same : (n a b c p q : ℤ) → p ≡ n *ℤ c -ℤ a → q ≡ n *ℤ c -ℤ b → (p *ℤ q) *ℤ pos 0 +ℤ ((a *ℤ q) *ℤ pos 0 +ℤ ((p *ℤ b) *ℤ n +ℤ ((a *ℤ b) *ℤ n +ℤ pos 0))) ≡ ((n *ℤ n) *ℤ c) *ℤ b
second_same n a b c p q e f = rw (e, f) (simp ring_z (omega (arith, sums)))

third_same : (n a b c p q : ℤ) → p ≡ n *ℤ c -ℤ a → q ≡ n *ℤ c -ℤ b → (p *ℤ q) *ℤ pos 1 +ℤ ((a *ℤ q) *ℤ pos 1 +ℤ ((p *ℤ b) *ℤ pos 1 +ℤ ((a *ℤ b) *ℤ pos 1 +ℤ pos 0))) ≡ ((n *ℤ n) *ℤ c) *ℤ c
third_same n a b c p q e f = rw (e, f) (simp ring_z (omega (arith, sums)))

cone_of_over : (n : ℕ) (a b c : ℤ) → 1 ≤ n → pos 1 ≤ℤ c → IsOver (pos n) a b c → IsInCone 3 (corners n) (a ∷ b ∷ c ∷ [])
cone_of_over n a b c l h o =
    let m : pos 1 ≤ℤ pos n = omega (arith, ints) in
    let p = pos n *ℤ c -ℤ a in
    let q = pos n *ℤ c -ℤ b in
    let p0 : pos 0 ≤ℤ (pos n *ℤ c -ℤ a) = omega (arith, sums, o.a_high) in
    let q0 : pos 0 ≤ℤ (pos n *ℤ c -ℤ b) = omega (arith, sums, o.b_high) in
    record {
      multiple = (pos n *ℤ pos n) *ℤ c;
      factors = (p *ℤ q) ∷ (a *ℤ q) ∷ (p *ℤ b) ∷ (a *ℤ b) ∷ [];
      positive = mul-pos (pos n *ℤ pos n) c (mul-pos (pos n) (pos n) m m) h;
      one_each = refl;
      each = (mul-nonneg p q p0 q0, (mul-nonneg a q o.a_low q0, (mul-nonneg p b p0 o.b_low, (mul-nonneg a b o.a_low o.b_low, tt))));
      same = three_same (first_same (pos n) a b c p q refl refl) (second_same (pos n) a b c p q refl refl) (third_same (pos n) a b c p q refl refl);
    }

-- ---- members

-- a member of the monoid of the made file, by its entries
pub record HasEntries (n : ℕ) (x : Vector) : Type 0 where
  pub a : ℤ
  pub b : ℤ
  pub c : ℤ
  pub same : x ≡ a ∷ b ∷ c ∷ []
  pub over : IsOver (pos n) a b c

pub entries_of_member : (n : ℕ) (x : Vector) → IsMember (system_of (made_file n)) x → HasEntries n x
entries_of_member n x member =
    let u = three x member.width in
    record { a = u.0; b = u.1; c = u.2; same = u.3; over = over_of_cone n u.0 u.1 u.2 (subst (IsInCone 3 (corners n)) u.3 member.generated) }

pub member_of_entries : (n : ℕ) (a b c : ℤ) → 1 ≤ n → pos 1 ≤ℤ c → IsOver (pos n) a b c → IsMember (system_of (made_file n)) (a ∷ b ∷ c ∷ [])
member_of_entries n a b c l h o = record {
  width = refl;
  equations = tt;
  congruences = tt;
  inequalities = tt;
  generated = cone_of_over n a b c l h o;
  in_group = tt;
}
