-- How identities and inequalities on ℤ and on vectors are proved: examples to copy.
use Rattle.std.proofs.Common.{◌≡◌, ℕ, length, ℤ, pos, ◌+ℤ◌, ◌-ℤ◌, ◌*ℤ◌, neg_ℤ, ◌≤ℤ◌, ◌<ℤ◌, ap, arith}
use Rattle.std.proofs.lemmas.Int.{by_lt_z}
use Rattle.nz_spec.specs.Vectors.{Vector, dot, plus, scaled}
use Rattle.nz_spec.proofs.IntLaws.{mul-nonneg}
use Rattle.nz_linear.proofs.Ring.{sums, ring_z}
use Rattle.nz_spec.proofs.VectorLaws.{dot-scaled}
use Rattle.nz_linear.proofs.VectorLaws.{length-plus, length-scaled, dot-plus, same_values, lengths}

-- A. a ring identity over variables
square : (a b : ℤ) → (a +ℤ b) *ℤ (a -ℤ b) ≡ a *ℤ a -ℤ b *ℤ b
square a b = simp ring_z (omega (arith, sums))

cube : (a b c d : ℤ) → (a -ℤ b) *ℤ (c +ℤ d) *ℤ a ≡ a *ℤ a *ℤ d -ℤ b *ℤ d *ℤ a -ℤ c *ℤ b *ℤ a +ℤ a *ℤ c *ℤ a
cube a b c d = simp ring_z (omega (arith, sums))

-- B. from equations: multiply each by what it needs, bring all to normal form, add
from_equation : (d x y l m : ℤ) → d *ℤ x ≡ l *ℤ y +ℤ m → (m *ℤ d) *ℤ x ≡ (y *ℤ m) *ℤ l +ℤ m *ℤ m
from_equation d x y l m h = let k = ap (λ t. m *ℤ t) h in let n = simp ring_z at k in simp ring_z (omega (arith, sums, n))

-- C. an inequality: give omega the products of facts, and the ring identity that joins them
compare : (a b c d : ℤ) → pos 0 <ℤ b → pos 0 ≤ℤ c → a ≤ℤ b → pos 0 ≤ℤ (b *ℤ c -ℤ a *ℤ c)
compare a b c d p q h =
    let k = mul-nonneg (b -ℤ a) c (omega (arith, sums)) q in
    let n = simp ring_z at k in omega (arith, sums, n)

-- D. the value of a form at a combination of vectors: first the laws of the values, then the ring
meets : (w : ℕ) (h p n : Vector) → length p ≡ w → length n ≡ w → dot h (plus (scaled (dot h p) n) (scaled (neg_ℤ (dot h n)) p)) ≡ pos 0
meets w h p n lp ln = simp (dot-plus w, dot-scaled, length-scaled w) (simp ring_z (omega (arith, sums)))

-- E. an identity of vectors, by the values of every form
shuffled : (w : ℕ) (a b : ℤ) (x y z : Vector) → length x ≡ w → length y ≡ w → length z ≡ w → scaled a (plus (scaled b x) (plus y z)) ≡ plus (scaled (a *ℤ b) x) (plus (scaled a z) (scaled a y))
shuffled w a b x y z lx ly lz = same_values w _ _ (search lengths) (search lengths) (λ f. simp (dot-plus w, dot-scaled, length-plus w, length-scaled w) (simp ring_z (omega (arith, sums))))

-- F. two cases by order, three by sign (`sign_cases`)
larger : (a b : ℤ) → (m : ℤ) × (a ≤ℤ m) × (b ≤ℤ m)
larger a b = by_lt_z a b (λ (l : a <ℤ b). (b, omega (arith, sums), omega (arith, sums))) (λ (l : b ≤ℤ a). (a, omega (arith, sums), omega (arith, sums)))
