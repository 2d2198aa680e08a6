-- Classes of vectors: each class has at most one point, and steps along the unit vectors reach them all.
use Rattle.std.proofs.Common.{◌≡◌, ℕ, zero, suc, List, [], ◌∷◌, length, map, ℤ, pos, negsuc, ◌+ℤ◌, ◌-ℤ◌, ◌*ℤ◌, neg_ℤ, ◌≤ℤ◌, ◌<ℤ◌, Contains, refl, sym, ap, ◌∙◌, subst, arith}
use Rattle.std.proofs.lemmas.Int.{ints, by_lt_z}
use Rattle.std.proofs.Math.IntN.{*ℤ_comm, *ℤ-zero}
use Rattle.std.specs.List.{AllByRecursion as Each}
use Rattle.nz_spec.specs.Vectors.{Vector, dot, plus, scaled, minus, combination, zero_vector, unit_vectors, HasWidth, IsMultipleOf}
use Rattle.nz_spec.proofs.IntLaws.{multiple_add, mul_assoc}
use Rattle.nz_spec.proofs.VectorLaws.{dot-minus, dot-scaled, length-minus, plus_assoc, one-scaled, add-scaled, scaled-zero, IsZero-zero_vector}
use Rattle.nz_spec.proofs.SumLaws.{length-zero_vector}
use Rattle.nz_spec.proofs.ListLaws.{Each-contains, Each-from_contains}
use Rattle.nz_spec.proofs.PrimitiveLaws.{same_of_zero_minus}
use Rattle.nz_linear.specs.DualPairs.{Pair, divisor, product, IsDual, IsDualPair, OnlyZero}
use Rattle.nz_linear.proofs.Ring.{sums, ring_z}
use Rattle.nz_linear.proofs.Signs.{mul_le}
use Rattle.nz_linear.proofs.VectorLaws.{cons_same, length-plus, length-scaled, dot-plus, zero-scaled, plus-zero, zero-plus}
use Rattle.nz_linear.proofs.DualPairs.{product_positive}
use Rattle.nz_linear.proofs.Floors.{IsReduced}
use Rattle.nz_classes.specs.Classes.{AreOneClass}

-- a multiple of d between -d and d is 0
small_multiple : (d z : ℤ) → pos 0 <ℤ d → neg_ℤ d <ℤ z → z <ℤ d → IsMultipleOf d z → z ≡ pos 0
small_multiple d z p low high (k, e) = by_lt_z k (pos 0)
    (λ (n : k <ℤ pos 0). absurd (below k n e))
    (λ (a : pos 0 ≤ℤ k). by_lt_z (pos 0) k
    (λ (m : pos 0 <ℤ k). absurd (above k m e))
    (λ (b : k ≤ℤ pos 0). let f : k ≡ pos 0 = omega (arith, ints, a, b) in e ∙ ap (λ t. t *ℤ d) f ∙ omega (arith, ints)))
  where
    above : (k : ℤ) → pos 0 <ℤ k → z ≡ k *ℤ d → ⊥
    above k m e =
        let h = mul_le d (pos 1) k (omega (arith, ints, p)) (omega (arith, ints, m)) in
        let o : d *ℤ pos 1 ≡ d = omega (arith, ints) in
        omega (arith, sums, h, o, *ℤ_comm k d, e, high)

    below : (k : ℤ) → k <ℤ pos 0 → z ≡ k *ℤ d → ⊥
    below k m e =
        let h = mul_le d k (negsuc 0) (omega (arith, ints, p)) (omega (arith, ints, m)) in
        let o : d *ℤ negsuc 0 ≡ neg_ℤ d = omega (arith, ints) in
        omega (arith, sums, h, o, *ℤ_comm k d, e, low)

vanish : (ps : List Pair) (x y : Vector) → length x ≡ length y → IsDual ps → Each (IsReduced x) ps → Each (IsReduced y) ps → AreOneClass ps x y → Each (λ p. dot p.form (minus x y) ≡ pos 0) ps
vanish [] x y l d r s c = tt
vanish (p ∷ ps) x y l d r s c =
    let a = r.0.0 in
    let b = r.0.1 in
    let e = s.0.0 in
    let f = s.0.1 in
    (dot-minus p.form x y l ∙ small_multiple (divisor p) (dot p.form x -ℤ dot p.form y) d.0 (omega (arith, sums, a, b, e, f)) (omega (arith, sums, a, b, e, f)) c.0, vanish ps x y l d.2 r.1 s.1 c.1)

-- two vectors of one class with reduced values are the same
pub one_reduced : (w : ℕ) (ps : List Pair) → IsDualPair w ps → OnlyZero w ps → (x y : Vector) → HasWidth w x → HasWidth w y → Each (IsReduced x) ps → Each (IsReduced y) ps → AreOneClass ps x y → x ≡ y
one_reduced w ps d only x y lx ly r s c =
    let l : length x ≡ length y = lx ∙ sym ly in
    let z = only (minus x y) (length-minus x y l ∙ lx) (vanish ps x y l d.dual r s c) in
    same_of_zero_minus x y l (subst (λ (v : Vector). Each (λ a. a ≡ pos 0) v) (sym z) (IsZero-zero_vector w))

pub class_trans : (ps : List Pair) (x y z : Vector) → AreOneClass ps x y → AreOneClass ps y z → AreOneClass ps x z
class_trans [] x y z a b = tt
class_trans (p ∷ ps) x y z a b =
    let e : (dot p.form x -ℤ dot p.form y) +ℤ (dot p.form y -ℤ dot p.form z) ≡ dot p.form x -ℤ dot p.form z = omega (arith, sums) in
    (subst (IsMultipleOf (divisor p)) e (multiple_add (divisor p) _ _ a.0 b.0), class_trans ps x y z a.1 b.1)

pub class_plus : (w : ℕ) (ps : List Pair) (x y u : Vector) → HasWidth w x → HasWidth w y → HasWidth w u → AreOneClass ps x y → AreOneClass ps (plus x u) (plus y u)
class_plus w [] x y u lx ly lu a = tt
class_plus w (p ∷ ps) x y u lx ly lu a =
    let e : dot p.form x -ℤ dot p.form y ≡ dot p.form (plus x u) -ℤ dot p.form (plus y u) = omega (arith, sums, dot-plus w p.form x u lx lu, dot-plus w p.form y u ly lu) in
    (subst (IsMultipleOf (divisor p)) e a.0, class_plus w ps x y u lx ly lu a.1)

whole_step : (c d m a b v : ℤ) → v ≡ a +ℤ (c *ℤ (d *ℤ m)) *ℤ b → v -ℤ a ≡ ((c *ℤ m) *ℤ b) *ℤ d
whole_step c d m a b v h = let e : (c *ℤ (d *ℤ m)) *ℤ b ≡ ((c *ℤ m) *ℤ b) *ℤ d = simp ring_z (omega (arith, sums)) in omega (arith, sums, h, e)

-- a multiple of the product of the divisors changes no class
class_whole : (w : ℕ) (ps : List Pair) (c : ℤ) (x u : Vector) → HasWidth w x → HasWidth w u → AreOneClass ps (plus x (scaled (c *ℤ product ps) u)) x
class_whole w [] c x u lx lu = tt
class_whole w (p ∷ ps) c x u lx lu =
    let K = c *ℤ (divisor p *ℤ product ps) in
    let v : dot p.form (plus x (scaled K u)) ≡ dot p.form x +ℤ K *ℤ dot p.form u = dot-plus w p.form x (scaled K u) lx (length-scaled w K u lu) ∙ ap (λ t. dot p.form x +ℤ t) (dot-scaled p.form K u) in (
      ((c *ℤ product ps) *ℤ dot p.form u, whole_step c (divisor p) (product ps) (dot p.form x) (dot p.form u) _ v),
      subst (λ (t : ℤ). AreOneClass ps (plus x (scaled t u)) x) (mul_assoc c (divisor p) (product ps)) (class_whole w ps (c *ℤ divisor p) x u lx lu),
    )

-- each vector is the sum of the unit vectors with its entries
combination_front : (w : ℕ) (ks : List ℤ) (us : List Vector) → combination (suc w) ks (map (λ u. pos 0 ∷ u) us) ≡ pos 0 ∷ combination w ks us
combination_front w [] us = refl
combination_front w (k ∷ ks) [] = refl
combination_front w (k ∷ ks) (u ∷ us) = ap (plus (scaled k (pos 0 ∷ u))) (combination_front w ks us) ∙ cons_same (omega (arith, sums, *ℤ-zero k)) refl

pub combination_units : (w : ℕ) (z : Vector) → HasWidth w z → combination w z (unit_vectors w) ≡ z
combination_units zero [] l = refl
combination_units zero (a ∷ z) l = absurd (omega (arith, l))
combination_units (suc w) [] l = absurd (omega (arith, l))
combination_units (suc w) (a ∷ z) l =
    let lz : HasWidth w z = omega (arith, l) in
    let e = combination_units w z lz in
    ap (plus (scaled a (pos 1 ∷ zero_vector w))) (combination_front w z (unit_vectors w))
    ∙ cons_same (omega (arith, ints)) (ap (λ (v : Vector). plus v (combination w z (unit_vectors w))) (scaled-zero a w) ∙ ap (plus (zero_vector w)) e ∙ zero-plus w z lz)

nat_of : (k : ℤ) → pos 0 ≤ℤ k → (n : ℕ) × (pos n ≡ k)
nat_of (pos n) h = (n, refl)
nat_of (negsuc n) h = absurd (omega (arith, ints, h))

-- what is found has with each vector one in the class of that vector and a unit vector: then all classes are reached
module _ (w : ℕ) (ps : List Pair) (dual : IsDual ps) (Found : Vector → Type 0) (wide : (x : Vector) → Found x → HasWidth w x) (step : (x u : Vector) → Found x → Contains (unit_vectors w) u → (y : Vector) × (Found y × AreOneClass ps y (plus x u))) where
  abbrev pub Reaches : Vector → Type 0
  Reaches z = (y : Vector) × (Found y × AreOneClass ps y z)

  module _ (u : Vector) (of_units : Contains (unit_vectors w) u) (lu : HasWidth w u) where
    one_more : (z : Vector) → HasWidth w z → Reaches z → Reaches (plus z u)
    one_more z lz r =
        let s = step r.0 u r.1.0 of_units in
        (s.0, (s.1.0, class_trans ps s.0 (plus r.0 u) (plus z u) s.1.1 (class_plus w ps r.0 z u (wide r.0 r.1.0) lz lu r.1.1)))

    many_more : (n : ℕ) (z : Vector) → HasWidth w z → Reaches z → Reaches (plus z (scaled (pos n) u))
    many_more zero z lz r = subst Reaches (sym (ap (plus z) (zero-scaled w u lu) ∙ plus-zero w z lz)) r
    many_more (suc n) z lz r =
        let k : pos n +ℤ pos 1 ≡ pos (suc n) = omega (arith, ints) in
        let e : plus (plus z (scaled (pos n) u)) u ≡ plus z (scaled (pos (suc n)) u) = plus_assoc z (scaled (pos n) u) u ∙ ap (plus z) (ap (plus (scaled (pos n) u)) (sym (one-scaled u)) ∙ sym (add-scaled (pos n) (pos 1) u) ∙ ap (λ (t : ℤ). scaled t u) k) in
        subst Reaches e (one_more (plus z (scaled (pos n) u)) (length-plus w z (scaled (pos n) u) lz (length-scaled w (pos n) u lu)) (many_more n z lz r))

    any_more : (k : ℤ) (z : Vector) → HasWidth w z → Reaches z → Reaches (plus z (scaled k u))
    any_more (pos n) z lz r = many_more n z lz r
    any_more (negsuc n) z lz r =
        let D = product ps in
        let k = negsuc n in
        let m = pos (suc n) in
        let p = product_positive ps dual in
        let least = mul_le m (pos 1) D (omega (arith, ints)) (omega (arith, sums, p)) in
        let unit : m *ℤ pos 1 ≡ m = omega (arith, ints) in
        let sum : k +ℤ m ≡ pos 0 = omega (arith, ints) in
        let N = nat_of (k +ℤ m *ℤ D) (omega (arith, sums, least, unit, sum)) in
        let x = plus z (scaled k u) in
        let lk = length-scaled w k u lu in
        let e : plus z (scaled (pos N.0) u) ≡ plus x (scaled (m *ℤ D) u) = ap (λ (t : ℤ). plus z (scaled t u)) N.1 ∙ ap (plus z) (add-scaled k (m *ℤ D) u) ∙ sym (plus_assoc z (scaled k u) (scaled (m *ℤ D) u)) in
        let g = many_more N.0 z lz r in
        (g.0, (g.1.0, class_trans ps g.0 (plus x (scaled (m *ℤ D) u)) x (subst (λ (v : Vector). AreOneClass ps g.0 v) e g.1.1) (class_whole w ps m x u (length-plus w z (scaled k u) lz lk) lu)))

  sums_more : (ks : List ℤ) (us : List Vector) (z : Vector) → HasWidth w z → Each (λ u. Contains (unit_vectors w) u × HasWidth w u) us → Reaches z → Reaches (plus z (combination w ks us))
  sums_more [] us z lz a r = subst Reaches (sym (plus-zero w z lz)) r
  sums_more (k ∷ ks) [] z lz a r = subst Reaches (sym (plus-zero w z lz)) r
  sums_more (k ∷ ks) (u ∷ us) z lz a r =
      let lk = length-scaled w k u a.0.1 in
      subst Reaches (plus_assoc z (scaled k u) (combination w ks us)) (sums_more ks us (plus z (scaled k u)) (length-plus w z (scaled k u) lz lk) a.1 (any_more u a.0.0 a.0.1 k z lz r))

  -- from the class of 0 each class is reached
  pub all_reached : Each (HasWidth w) (unit_vectors w) → Reaches (zero_vector w) → (z : Vector) → HasWidth w z → Reaches z
  all_reached units start z lz =
      let a : Each (λ u. Contains (unit_vectors w) u × HasWidth w u) (unit_vectors w) = Each-from_contains _ (unit_vectors w) (λ u c. (c, Each-contains (HasWidth w) (unit_vectors w) u units c)) in
      subst Reaches (ap (plus (zero_vector w)) (combination_units w z lz) ∙ zero-plus w z lz) (sums_more z (unit_vectors w) (zero_vector w) (length-zero_vector w) a start)

  -- so what is found has every vector with reduced values, where all that is found has reduced values
  pub all_found : IsDualPair w ps → OnlyZero w ps → Each (HasWidth w) (unit_vectors w) → Reaches (zero_vector w) → ((x : Vector) → Found x → Each (IsReduced x) ps) → (z : Vector) → HasWidth w z → Each (IsReduced z) ps → Found z
  all_found d only units start reduced z lz r =
      let g = all_reached units start z lz in
      subst Found (one_reduced w ps d only g.0 z (wide g.0 g.1.0) lz (reduced g.0 g.1.0) r g.1.1) g.1.0
