-- Floor division, greatest common divisors with their factors, primitive vectors.
use Rattle.std.proofs.Common.{◌≡◌, inl, inr, ℕ, zero, suc, ◌-◌, ◌/◌, ◌%◌, ◌≤◌, ◌<◌, [], ◌∷◌, length, ℤ, pos, negsuc, ◌+ℤ◌, ◌-ℤ◌, ◌*ℤ◌, ◌≤ℤ◌, ◌<ℤ◌, refl, sym, ap, ◌∙◌, subst, arith}
use Rattle.std.proofs.lemmas.Int.{ints}
use Rattle.std.proofs.Math.Nat.{div-add-mod', mod-lt}
use Rattle.std.proofs.Math.IntN.{*ℤ-zero, zero-*ℤ, *ℤ_comm}
use Rattle.std.specs.List.{AllByRecursion as Each}
use Rattle.nz_spec.specs.Vectors.{Vector, dot, scaled, IsMultipleOf, IsPrimitive, IsZero, IsNonzero}
use Rattle.nz_spec.specs.Boxes.{IsFloor}
use Rattle.nz_linear.specs.Division.{IsGcdOf, HasUnitValue, IsPrimitiveOf}
use Rattle.nz_spec.proofs.IntLaws.{add-mul, mul_assoc, multiple_zero, multiple_add, multiple_mul}
use Rattle.nz_spec.proofs.PrimitiveLaws.{primitive_same, one_of_divisor}
use Rattle.nz_linear.proofs.Ring.{sums, ring_z, one-mul, mul-one}
use Rattle.nz_linear.proofs.Signs.{cancel_lt, cancel_mul, sign_cases}
use Rattle.nz_linear.proofs.Lists.{each_map}
use Rattle.nz_spec.proofs.VectorLaws.{dot-IsZero, dot-scaled, int_is_zero}
use Rattle.nz_linear.proofs.VectorLaws.{length-scaled, cons_same, scaled-dot}

-- ---- floor division
pub record Floor (x d : ℤ) : Type 0 where
  pub quotient : ℤ
  pub rest : ℤ
  pub same : x ≡ quotient *ℤ d +ℤ rest
  pub low : pos 0 ≤ℤ rest
  pub high : rest <ℤ d

pub floor_of : (x d : ℤ) → pos 0 <ℤ d → Floor x d
floor_of x (pos zero) p = absurd (omega (arith, sums))
floor_of x (negsuc n) p = absurd (omega (arith, sums))
floor_of (pos a) (pos (suc n)) p =
    let e = div-add-mod' a (suc n) in
    let m : a % suc n < suc n = mod-lt a (omega arith) in
    record { quotient = pos (a / suc n); rest = pos (a % suc n); same = omega (arith, ints); low = omega (arith, ints); high = omega (arith, ints) }
floor_of (negsuc a) (pos (suc n)) p =
    let e = div-add-mod' a (suc n) in
    let m : a % suc n < suc n = mod-lt a (omega arith) in
    record { quotient = negsuc (a / suc n); rest = pos (n - a % suc n); same = omega (arith, ints); low = omega (arith, ints); high = omega (arith, ints) }

pub is_floor : (d x q r : ℤ) → x ≡ q *ℤ d +ℤ r → pos 0 ≤ℤ r → r <ℤ d → IsFloor d x q
is_floor d x q r e l h = record { at_most = omega (arith, sums); above = omega (arith, sums, add-mul q (pos 1) d, one-mul d) }

pub floor_unique : (d x q k : ℤ) → pos 0 <ℤ d → IsFloor d x q → IsFloor d x k → q ≡ k
floor_unique d x q k p f g =
    let a : q <ℤ (k +ℤ pos 1) = cancel_lt d q (k +ℤ pos 1) p (omega (arith, sums, *ℤ_comm d q, *ℤ_comm d (k +ℤ pos 1), f.at_most, g.above)) in
    let b : k <ℤ (q +ℤ pos 1) = cancel_lt d k (q +ℤ pos 1) p (omega (arith, sums, *ℤ_comm d k, *ℤ_comm d (q +ℤ pos 1), g.at_most, f.above)) in
    omega (arith, sums)

-- ---- greatest common divisors
pub record Bezout (a b : ℤ) : Type 0 where
  pub g : ℤ
  pub nonneg : pos 0 ≤ℤ g
  pub left : IsMultipleOf g a
  pub right : IsMultipleOf g b
  pub j : ℤ
  pub k : ℤ
  pub same : g ≡ j *ℤ a +ℤ k *ℤ b

multiple_self : (a : ℤ) → IsMultipleOf a a
multiple_self a = (pos 1, sym (one-mul a))

with_zero : (a : ℤ) → Bezout a (pos 0)
with_zero (pos n) = record { g = pos n; nonneg = omega (arith, sums); left = multiple_self (pos n); right = multiple_zero (pos n); j = pos 1; k = pos 0; same = omega (arith, ints) }
with_zero (negsuc n) = record { g = pos (suc n); nonneg = omega (arith, sums); left = (negsuc 0, omega (arith, ints)); right = multiple_zero (pos (suc n)); j = negsuc 0; k = pos 0; same = omega (arith, ints) }

ring_euclid : (a b r q j k : ℤ) → a ≡ q *ℤ b +ℤ r → j *ℤ b +ℤ k *ℤ r ≡ k *ℤ a +ℤ (j -ℤ k *ℤ q) *ℤ b
ring_euclid a b r q j k e = let m = ap (λ t. k *ℤ t) e in let n = simp ring_z at m in simp ring_z (omega (arith, sums, n))

pub euclid : (n : ℕ) (a : ℤ) (b : ℕ) → b ≤ n → Bezout a (pos b)
euclid n a zero h = with_zero a
euclid zero a (suc b) h = absurd (omega arith)
euclid (suc n) a (suc b) h =
    let f = floor_of a (pos (suc b)) (omega (arith, sums)) in
    step (λ (r : ℕ) (h : r ≤ n). euclid n (pos (suc b)) r h) f.rest f.quotient f.same f.low f.high
  where
    step : ((r : ℕ) → r ≤ n → Bezout (pos (suc b)) (pos r)) → (r q : ℤ) → a ≡ q *ℤ pos (suc b) +ℤ r → pos 0 ≤ℤ r → r <ℤ pos (suc b) → Bezout a (pos (suc b))
    step next (negsuc r) q e l u = absurd (omega (arith, sums))
    step next (pos r) q e l u =
        let small : r ≤ n = omega (arith, sums) in
        let z = next r small in
        record {
          g = z.g;
          nonneg = z.nonneg;
          left = rw e (multiple_add z.g _ _ (multiple_mul z.g q (pos (suc b)) z.left) z.right);
          right = z.left;
          j = z.k;
          k = z.j -ℤ z.k *ℤ q;
          same = z.same ∙ ring_euclid a (pos (suc b)) (pos r) q z.j z.k e;
        }

multiple_of_multiple : (m k x : ℤ) → IsMultipleOf m k → IsMultipleOf k x → IsMultipleOf m x
multiple_of_multiple m k x h i = (i.0 *ℤ h.0, i.1 ∙ ap (λ t. i.0 *ℤ t) h.1 ∙ sym (mul_assoc i.0 h.0 m))

-- a greatest common divisor
pub record SomeGcd (xs : Vector) : Type 0 where
  pub g : ℤ
  pub is : IsGcdOf g xs

pub gcd_of : (xs : Vector) → SomeGcd xs
gcd_of [] = record { g = pos 0; is = record { nonneg = omega (arith, sums); divides = tt; factors = []; same = refl } }
gcd_of (a ∷ xs) = let r = gcd_of xs in more r.g r.is
  where
    more : (k : ℤ) → IsGcdOf k xs → SomeGcd (a ∷ xs)
    more (negsuc k) i = absurd (omega (arith, sums, i.nonneg))
    more (pos k) i =
        let z = euclid k a k (omega arith) in
        record {
          g = z.g;
          is = record {
            nonneg = z.nonneg;
            divides = (z.left, each_map (IsMultipleOf (pos k)) (IsMultipleOf z.g) xs (λ x m. multiple_of_multiple z.g (pos k) x z.right m) i.divides);
            factors = z.j ∷ scaled z.k i.factors;
            same = z.same ∙ omega (arith, sums, ap (λ t. z.k *ℤ t) i.same, scaled-dot z.k i.factors xs);
          };
        }

multiple_dot : (m : ℤ) (f xs : Vector) → Each (IsMultipleOf m) xs → IsMultipleOf m (dot f xs)
multiple_dot m [] xs h = multiple_zero m
multiple_dot m (a ∷ f) [] h = multiple_zero m
multiple_dot m (a ∷ f) (b ∷ xs) h = multiple_add m _ _ (multiple_mul m a b h.0) (multiple_dot m f xs h.1)

-- each common divisor divides it
pub common_divides_gcd : (m g : ℤ) (xs : Vector) → IsGcdOf g xs → Each (IsMultipleOf m) xs → IsMultipleOf m g
common_divides_gcd m g xs i h = rw i.same (multiple_dot m i.factors xs h)

-- ---- primitive vectors
quotients : (m : ℤ) (xs : Vector) → Each (IsMultipleOf m) xs → (ys : Vector) × (scaled m ys ≡ xs)
quotients m [] h = ([], refl)
quotients m (x ∷ xs) h = let r = quotients m xs h.1 in (h.0.0 ∷ r.0, cons_same (*ℤ_comm m h.0.0 ∙ sym h.0.1) r.1)

-- a vector is primitive just where some form has the value 1 at it
gcd_nonzero : (g : ℤ) → pos 0 ≤ℤ g → IsMultipleOf g (pos 1) → pos 1 ≤ℤ g
gcd_nonzero g h m = elim (int_is_zero g) [
  | inl z ↦ absurd (let e : pos 1 ≡ pos 0 = m.1 ∙ ap (λ t. m.0 *ℤ t) z ∙ *ℤ-zero m.0 in omega (arith, sums))
  | inr n ↦ omega (arith, sums)
]

pub unit_value : (x : Vector) → IsPrimitive x → HasUnitValue x
unit_value x p =
    let r = gcd_of x in
    record { form = r.is.factors; one = sym r.is.same ∙ one_of_divisor r.g (gcd_nonzero r.g r.is.nonneg (p r.g r.is.divides)) (p r.g r.is.divides) }

pub primitive_by_unit : (x : Vector) → HasUnitValue x → IsPrimitive x
primitive_by_unit x u d h = subst (IsMultipleOf d) u.one (multiple_dot d u.form x h)

pub primitive_nonzero : (x : Vector) → IsPrimitive x → IsNonzero x
primitive_nonzero x p z =
    let u = unit_value x p in
    let e : pos 1 ≡ pos 0 = sym u.one ∙ dot-IsZero u.form x z in omega (arith, sums)

-- a primitive vector along x
pub record SomePrimitive (x : Vector) : Type 0 where
  pub y : Vector
  pub is : IsPrimitiveOf x y

zero_multiples : (x : Vector) → Each (IsMultipleOf (pos 0)) x → IsZero x
zero_multiples [] h = tt
zero_multiples (a ∷ x) h = (h.0.1 ∙ *ℤ-zero h.0.0, zero_multiples x h.1)

gcd_positive : (g : ℤ) (x : Vector) → IsGcdOf g x → IsNonzero x → pos 0 <ℤ g
gcd_positive g x i n = elim (sign_cases g) [
  | inl z ↦ absurd (n (zero_multiples x (subst (λ (t : ℤ). Each (IsMultipleOf t) x) z i.divides)))
  | inr s ↦ (elim s [ inl p ↦ p | inr q ↦ absurd (omega (arith, sums, i.nonneg)) ])
]

-- a nonzero vector is a positive multiple of a primitive one
pub primitive_of : (x : Vector) → IsNonzero x → SomePrimitive x
primitive_of x n =
    let r = gcd_of x in
    let p = gcd_positive r.g x r.is n in
    let q = quotients r.g x r.is.divides in
    let one : r.g *ℤ dot r.is.factors q.0 ≡ r.g *ℤ pos 1 = sym (dot-scaled r.is.factors r.g q.0) ∙ ap (dot r.is.factors) q.1 ∙ sym r.is.same ∙ sym (mul-one r.g) in
    record { y = q.0; is = record { factor = r.g; positive = p; same = q.1; primitive = primitive_by_unit q.0 (record { form = r.is.factors; one = cancel_mul r.g _ _ p one }) } }

pub primitive_multiple : (a b : ℤ) (x y : Vector) → scaled a x ≡ scaled b y → IsPrimitive x → IsMultipleOf b a
primitive_multiple a b x y e p =
    let u = unit_value x p in
    let k : a *ℤ dot u.form x ≡ b *ℤ dot u.form y = sym (dot-scaled u.form a x) ∙ ap (dot u.form) e ∙ dot-scaled u.form b y in
    (dot u.form y, sym (mul-one a) ∙ ap (λ t. a *ℤ t) (sym u.one) ∙ k ∙ *ℤ_comm b (dot u.form y))

-- two primitive vectors with a common positive multiple are the same
pub primitive_unique : (w : ℕ) (a b : ℤ) (x y : Vector) → pos 0 <ℤ a → pos 0 <ℤ b → length x ≡ w → length y ≡ w → scaled a x ≡ scaled b y → IsPrimitive x → IsPrimitive y → x ≡ y
primitive_unique w a b x y p q lx ly e i j = primitive_same a b x y (omega (arith, sums)) (omega (arith, sums)) i j e

-- ---- a congruence for a coordinate: a * c is a multiple of m exactly where c is one of m / gcd(a, m)
ring_forth : (g a m c t j k : ℤ) → a *ℤ c ≡ t *ℤ m → pos 1 ≡ j *ℤ a +ℤ k *ℤ m → c ≡ (j *ℤ t +ℤ k *ℤ c) *ℤ m
ring_forth g a m c t j k e f =
    let p = ap (λ x. c *ℤ x) f in
    let q = ap (λ x. j *ℤ x) e in
    let pp = simp ring_z at p in
    let qq = simp ring_z at q in
    simp ring_z (omega (arith, sums, pp, qq))

pub multiple_by_gcd : (g a m c : ℤ) → pos 0 <ℤ g → IsGcdOf g ((g *ℤ a) ∷ (g *ℤ m) ∷ []) → IsMultipleOf (g *ℤ m) ((g *ℤ a) *ℤ c) → IsMultipleOf m c
multiple_by_gcd g a m c p i (t, e) = by i.factors i.same
  where
    ring_cut : (a m c t : ℤ) → (g *ℤ a) *ℤ c ≡ t *ℤ (g *ℤ m) → g *ℤ (a *ℤ c) ≡ g *ℤ (t *ℤ m)
    ring_cut a m c t h = let k = simp ring_z at h in simp ring_z (omega (arith, sums, k))

    ring_unit : (j k : ℤ) → g ≡ j *ℤ (g *ℤ a) +ℤ (k *ℤ (g *ℤ m) +ℤ pos 0) → g *ℤ pos 1 ≡ g *ℤ (j *ℤ a +ℤ k *ℤ m)
    ring_unit j k h = let n = simp ring_z at h in simp ring_z (omega (arith, sums, n))

    cut : a *ℤ c ≡ t *ℤ m
    cut = cancel_mul g (a *ℤ c) (t *ℤ m) p (ring_cut a m c t e)

    by : (fs : Vector) → g ≡ dot fs ((g *ℤ a) ∷ (g *ℤ m) ∷ []) → IsMultipleOf m c
    by [] h = absurd (omega (arith, sums))
    by (j ∷ []) h =
        let u : pos 1 ≡ j *ℤ a +ℤ pos 0 *ℤ m = cancel_mul g _ _ p (ring_unit j (pos 0) (h ∙ omega (arith, sums, zero-*ℤ (g *ℤ m)))) in
        (j *ℤ t +ℤ pos 0 *ℤ c, ring_forth g a m c t j (pos 0) cut u)
    by (j ∷ k ∷ fs) h =
        let u : pos 1 ≡ j *ℤ a +ℤ k *ℤ m = cancel_mul g _ _ p (ring_unit j k (h ∙ tail fs)) in
        (j *ℤ t +ℤ k *ℤ c, ring_forth g a m c t j k cut u)
      where
        tail : (fs : Vector) → j *ℤ (g *ℤ a) +ℤ (k *ℤ (g *ℤ m) +ℤ dot fs []) ≡ j *ℤ (g *ℤ a) +ℤ (k *ℤ (g *ℤ m) +ℤ pos 0)
        tail [] = refl
        tail (x ∷ fs) = refl

pub gcd_multiple : (g a m c : ℤ) → IsMultipleOf m c → IsMultipleOf (g *ℤ m) ((g *ℤ a) *ℤ c)
gcd_multiple g a m c (t, e) = (a *ℤ t, ap (λ x. (g *ℤ a) *ℤ x) e ∙ ring_back g a m t)
  where
    ring_back : (g a m t : ℤ) → (g *ℤ a) *ℤ (t *ℤ m) ≡ (a *ℤ t) *ℤ (g *ℤ m)
    ring_back g a m t = simp ring_z

pub primitive_of_unique : (w : ℕ) (x y z : Vector) → length x ≡ w → IsPrimitiveOf x y → IsPrimitiveOf x z → y ≡ z
primitive_of_unique w x y z l i j =
    primitive_unique w i.factor j.factor y z i.positive j.positive (wide y i) (wide z j) (i.same ∙ sym j.same) i.primitive j.primitive
  where
    wide : (v : Vector) → IsPrimitiveOf x v → length v ≡ w
    wide v k = sym (length-scaled (length v) k.factor v refl) ∙ ap length k.same ∙ l
