-- The unit vectors: they are extreme among the vectors with entries of at least 0, these split off one, and the boxes over them have no vector but 0.
use Rattle.std.proofs.Common.{◌≡◌, ◌≢◌, ◌⊎◌, inl, inr, ℕ, zero, suc, List, [], ◌∷◌, map, ℤ, pos, negsuc, ◌+ℤ◌, ◌-ℤ◌, ◌*ℤ◌, ◌≤ℤ◌, ◌<ℤ◌, Contains, subst, ap, sym, refl, ◌∙◌, arith}
use Rattle.std.proofs.lemmas.Int.{ints}
use Rattle.std.proofs.Math.IntN.{*ℤ-zero}
use Rattle.std.specs.List.{AllByRecursion as Each}
use Rattle.nz_spec.specs.Vectors.{Vector, dot, plus, scaled, combination, zero_vector, unit_vectors, HasWidth, IsZero, IsNonzero}
use Rattle.nz_spec.specs.Order.{Pairwise}
use Rattle.nz_spec.proofs.ListLaws.{contains_here, contains_there, Each-weaker, Each-contains}
use Rattle.nz_spec.proofs.VectorLaws.{dot-zero, zero-dot, dot-plus, dot-scaled, length-scaled}
use Rattle.nz_spec.proofs.SumLaws.{length-zero_vector, length-combination}
use Rattle.nz_linear.proofs.Lists.{each_of_map}
use Rattle.nz_linear.proofs.VectorLaws.{cons_same, zero-plus}
use Rattle.nz_order.specs.Boxes.{NonNegative}

-- a vector of this width with one entry 1 and else 0
pub data IsUnit : ℕ → Vector → Type 0 where
  here : {w : ℕ} → IsUnit (suc w) (pos 1 ∷ zero_vector w)
  there : {w : ℕ} {u : Vector} → IsUnit w u → IsUnit (suc w) (pos 0 ∷ u)

pub each_unit : (w : ℕ) → Each (IsUnit w) (unit_vectors w)
each_unit zero = tt
each_unit (suc w) = (here, each_of_map (λ (u : Vector). pos 0 ∷ u) (IsUnit (suc w)) (unit_vectors w) (Each-weaker (IsUnit w) (λ u. IsUnit (suc w) (pos 0 ∷ u)) (λ u i. there i) (unit_vectors w) (each_unit w)))

pub unit_of : (w : ℕ) (u : Vector) → Contains (unit_vectors w) u → IsUnit w u
unit_of w u c = Each-contains (IsUnit w) (unit_vectors w) u (each_unit w) c

pub contains_mapped : (us : List Vector) (u : Vector) → Contains us u → Contains (map (λ v. pos 0 ∷ v) us) (pos 0 ∷ u)
contains_mapped [] u (k, h, e) = absurd (omega (arith, h))
contains_mapped (v ∷ us) u (zero, h, e) = (zero, omega arith, ap (λ t. pos 0 ∷ t) e)
contains_mapped (v ∷ us) u (suc k, h, e) = contains_there (pos 0 ∷ v) (pos 0 ∷ u) _ (contains_mapped us u (k, omega (arith, h), e))

pub unit_listed : (w : ℕ) (u : Vector) → IsUnit w u → Contains (unit_vectors w) u
unit_listed zero u i = elim i [ ]
unit_listed (suc w) u here = contains_here (pos 1 ∷ zero_vector w) _
unit_listed (suc w) u (there {u = v} i) = contains_there (pos 1 ∷ zero_vector w) (pos 0 ∷ v) _ (contains_mapped (unit_vectors w) v (unit_listed w v i))

pub unit_wide : (w : ℕ) (u : Vector) → IsUnit w u → HasWidth w u
unit_wide zero u i = elim i [ ]
unit_wide (suc w) u here = ap suc (length-zero_vector w)
unit_wide (suc w) u (there {u = v} i) = ap suc (unit_wide w v i)

pub zeros_nonneg : (w : ℕ) → NonNegative (zero_vector w)
zeros_nonneg zero = tt
zeros_nonneg (suc w) = (omega (arith, ints), zeros_nonneg w)

pub unit_nonneg : (w : ℕ) (u : Vector) → IsUnit w u → NonNegative u
unit_nonneg zero u i = elim i [ ]
unit_nonneg (suc w) u here = (omega (arith, ints), zeros_nonneg w)
unit_nonneg (suc w) u (there {u = v} i) = (omega (arith, ints), unit_nonneg w v i)

pub unit_nonzero : (w : ℕ) (u : Vector) → IsUnit w u → IsNonzero u
unit_nonzero zero u i z = elim i [ ]
unit_nonzero (suc w) u here z = let e = z.0 in omega (arith, ints, e)
unit_nonzero (suc w) u (there {u = v} i) z = unit_nonzero w v i z.1

-- ---- values
pub unit_at_self : (w : ℕ) (u : Vector) → IsUnit w u → dot u u ≡ pos 1
unit_at_self zero u i = elim i [ ]
unit_at_self (suc w) u here = let z = zero-dot w (zero_vector w) in omega (arith, ints, z)
unit_at_self (suc w) u (there {u = v} i) = let z = unit_at_self w v i in omega (arith, ints, z)

-- the form of one is 0 at the others
pub unit_apart : (w : ℕ) (u v : Vector) → IsUnit w u → IsUnit w v → (dot u v ≡ pos 0) ⊎ (u ≡ v)
unit_apart zero u v i j = elim i [ ]
unit_apart (suc w) u v here here = inr refl
unit_apart (suc w) u v here (there {u = y} j) = inl (let z = zero-dot w y in omega (arith, ints, z))
unit_apart (suc w) u v (there {u = x} i) here = inl (let z = dot-zero x w in omega (arith, ints, z))
unit_apart (suc w) u v (there {u = x} i) (there {u = y} j) = elim (unit_apart w x y i j) [
  | inl z ↦ inl (omega (arith, ints, z))
  | inr e ↦ inr (ap (λ (t : Vector). pos 0 ∷ t) e)
]

pub nonneg_at_unit : (w : ℕ) (u x : Vector) → IsUnit w u → NonNegative x → pos 0 ≤ℤ dot u x
nonneg_at_unit zero u x i n = elim i [ ]
nonneg_at_unit (suc w) u [] here n = omega (arith, ints)
nonneg_at_unit (suc w) u (a ∷ x) here n = let z = zero-dot w x in let h = n.0 in omega (arith, ints, z, h)
nonneg_at_unit (suc w) u [] (there i) n = omega (arith, ints)
nonneg_at_unit (suc w) u (a ∷ x) (there {u = v} i) n = let h = nonneg_at_unit w v x i n.1 in omega (arith, ints, h)

-- a vector at which all unit forms are 0 is 0
pub zero_at_units : (w : ℕ) (x : Vector) → HasWidth w x → ((u : Vector) → IsUnit w u → dot u x ≡ pos 0) → IsZero x
zero_at_units w [] l z = tt
zero_at_units zero (a ∷ x) l z = absurd (omega (arith, l))
zero_at_units (suc w) (a ∷ x) l z = (
  (let e = z (pos 1 ∷ zero_vector w) here in let f = zero-dot w x in omega (arith, ints, e, f)),
  zero_at_units w x (omega (arith, l)) (λ u i. let e = z (pos 0 ∷ u) (there i) in omega (arith, ints, e)),
)

-- ---- sums
-- a vector with entries of at least 0 is 0, or it is the sum of a unit vector and such a one
pub record SplitsOff (w : ℕ) (x : Vector) : Type 0 where
  pub unit : Vector
  pub rest : Vector
  pub is_unit : IsUnit w unit
  pub wide : HasWidth w rest
  pub nonneg : NonNegative rest
  pub same : plus unit rest ≡ x

pub one_less : (a : ℤ) → pos 0 ≤ℤ a → (a ≡ pos 0) ⊎ (pos 0 ≤ℤ (a -ℤ pos 1))
one_less (pos zero) h = inl refl
one_less (pos (suc n)) h = inr (omega (arith, ints))
one_less (negsuc n) h = absurd (omega (arith, ints, h))

pub splits_off : (w : ℕ) (x : Vector) → HasWidth w x → NonNegative x → IsZero x ⊎ SplitsOff w x
splits_off w [] l n = inl tt
splits_off zero (a ∷ x) l n = absurd (omega (arith, l))
splits_off (suc w) (a ∷ x) l n = elim (one_less a n.0) [
  | inr h ↦ inr (record {
    unit = pos 1 ∷ zero_vector w;
    rest = (a -ℤ pos 1) ∷ x;
    is_unit = here;
    wide = l;
    nonneg = (h, n.1);
    same = cons_same (omega (arith, ints)) (zero-plus w x (omega (arith, l)));
  })
  | inl e ↦ elim (splits_off w x (omega (arith, l)) n.1) [
    | inl z ↦ inl (e, z)
    | inr s ↦ inr (record {
      unit = pos 0 ∷ s.unit;
      rest = pos 0 ∷ s.rest;
      is_unit = there s.is_unit;
      wide = ap suc s.wide;
      nonneg = (omega (arith, ints), s.nonneg);
      same = cons_same (omega (arith, ints, e)) s.same;
    })
  ]
]

-- where a multiple of a unit vector is the sum of two vectors with entries of at least 0, these are multiples of it
pub record ArePartsOf (m : ℤ) (u a b : Vector) : Type 0 where
  pub first : ℤ
  pub second : ℤ
  pub first_nonneg : pos 0 ≤ℤ first
  pub second_nonneg : pos 0 ≤ℤ second
  pub total : first +ℤ second ≡ m
  pub first_same : a ≡ scaled first u
  pub second_same : b ≡ scaled second u

zero_parts : (w : ℕ) (m : ℤ) (a b : Vector) → HasWidth w a → HasWidth w b → NonNegative a → NonNegative b → plus a b ≡ scaled m (zero_vector w) → IsZero a × IsZero b
zero_parts w m [] [] la lb na nb e = (tt, tt)
zero_parts zero m (x ∷ a) b la lb na nb e = absurd (omega (arith, la))
zero_parts w m [] (y ∷ b) la lb na nb e = absurd (omega (arith, la, lb))
zero_parts (suc w) m (x ∷ a) [] la lb na nb e = absurd (omega (arith, lb))
zero_parts (suc w) m (x ∷ a) (y ∷ b) la lb na nb e =
    let f : x +ℤ y ≡ m *ℤ pos 0 = cc in
    let g : plus a b ≡ scaled m (zero_vector w) = cc in
    let r = zero_parts w m a b (omega (arith, la)) (omega (arith, lb)) na.1 nb.1 g in
    let z = *ℤ-zero m in
    let p = na.0 in
    let q = nb.0 in
    ((omega (arith, ints, f, z, p, q), r.0), (omega (arith, ints, f, z, p, q), r.1))

zero_multiple : (w : ℕ) (t : ℤ) (x : Vector) → HasWidth w x → IsZero x → x ≡ scaled t (zero_vector w)
zero_multiple w t [] l z = none w l
  where
    none : (w : ℕ) → HasWidth w [] → [] ≡ scaled t (zero_vector w)
    none zero l = refl
    none (suc w) l = absurd (omega (arith, l))
zero_multiple zero t (a ∷ x) l z = absurd (omega (arith, l))
zero_multiple (suc w) t (a ∷ x) l z = cons_same (let e = z.0 in let f = *ℤ-zero t in omega (arith, ints, e, f)) (zero_multiple w t x (omega (arith, l)) z.1)

pub unit_parts : (w : ℕ) (m : ℤ) (u a b : Vector) → IsUnit w u → HasWidth w a → HasWidth w b → NonNegative a → NonNegative b → plus a b ≡ scaled m u → ArePartsOf m u a b
unit_parts zero m u a b i la lb na nb e = elim i [ ]
unit_parts (suc w) m u [] b i la lb na nb e = absurd (omega (arith, la))
unit_parts (suc w) m u (x ∷ a) [] i la lb na nb e = absurd (omega (arith, lb))
unit_parts (suc w) m u (x ∷ a) (y ∷ b) here la lb na nb e =
    let f : x +ℤ y ≡ m *ℤ pos 1 = cc in
    let g : plus a b ≡ scaled m (zero_vector w) = cc in
    let r = zero_parts w m a b (omega (arith, la)) (omega (arith, lb)) na.1 nb.1 g in
    record {
      first = x;
      second = y;
      first_nonneg = na.0;
      second_nonneg = nb.0;
      total = omega (arith, ints, f);
      first_same = cons_same (omega (arith, ints)) (zero_multiple w x a (omega (arith, la)) r.0);
      second_same = cons_same (omega (arith, ints)) (zero_multiple w y b (omega (arith, lb)) r.1);
    }
unit_parts (suc w) m u (x ∷ a) (y ∷ b) (there {u = v} i) la lb na nb e =
    let f : x +ℤ y ≡ m *ℤ pos 0 = cc in
    let g : plus a b ≡ scaled m v = cc in
    let r = unit_parts w m v a b i (omega (arith, la)) (omega (arith, lb)) na.1 nb.1 g in
    let z = *ℤ-zero m in
    let z1 = *ℤ-zero r.first in
    let z2 = *ℤ-zero r.second in
    let p = na.0 in
    let q = nb.0 in
    record {
      first = r.first;
      second = r.second;
      first_nonneg = r.first_nonneg;
      second_nonneg = r.second_nonneg;
      total = r.total;
      first_same = cons_same (omega (arith, ints, f, z, z1, p, q)) r.first_same;
      second_same = cons_same (omega (arith, ints, f, z, z2, p, q)) r.second_same;
    }

-- ---- boxes
unit_of_others : (w : ℕ) (u : Vector) (ks : List ℤ) (vs : List Vector) → IsUnit w u → Each (IsUnit w) vs → Each (HasWidth w) vs → Each (λ v. u ≢ v) vs → dot u (combination w ks vs) ≡ pos 0
unit_of_others w u [] vs i h l d = dot-zero u w
unit_of_others w u (k ∷ ks) [] i h l d = dot-zero u w
unit_of_others w u (k ∷ ks) (v ∷ vs) i h l d = elim (unit_apart w u v i h.0) [
  | inr e ↦ absurd (d.0 e)
  | inl z ↦ dot-plus u (scaled k v) (combination w ks vs) (length-scaled k v ∙ l.0 ∙ sym (length-combination w ks vs l.1))
      ∙ (let s = dot-scaled u k v ∙ ap (λ (t : ℤ). k *ℤ t) z ∙ *ℤ-zero k in let r = unit_of_others w u ks vs i h.1 l.1 d.1 in omega (arith, ints, s, r))
]

-- the value of a unit form at a sum of different unit vectors with factors of at least 0 and below m is one of these factors or 0
pub unit_in_box : (w : ℕ) (m : ℤ) (u : Vector) (ks : List ℤ) (vs : List Vector) → pos 1 ≤ℤ m → IsUnit w u → Each (IsUnit w) vs → Each (HasWidth w) vs → Pairwise ◌≢◌ vs → Each (λ k. (pos 0 ≤ℤ k) × (k <ℤ m)) ks
    → (pos 0 ≤ℤ dot u (combination w ks vs)) × (dot u (combination w ks vs) <ℤ m)
unit_in_box w m u [] vs q i h l d b = let e = dot-zero u w in (omega (arith, ints, e), omega (arith, ints, e, q))
unit_in_box w m u (k ∷ ks) [] q i h l d b = let e = dot-zero u w in (omega (arith, ints, e), omega (arith, ints, e, q))
unit_in_box w m u (k ∷ ks) (v ∷ vs) q i h l d b =
    let s = dot-plus u (scaled k v) (combination w ks vs) (length-scaled k v ∙ l.0 ∙ sym (length-combination w ks vs l.1)) in
    let t = dot-scaled u k v in
    elim (unit_apart w u v i h.0) [
      | inl z ↦ (let r = unit_in_box w m u ks vs q i h.1 l.1 d.1 b.1 in
          let e = t ∙ ap (λ (n : ℤ). k *ℤ n) z ∙ *ℤ-zero k in
          let r0 = r.0 in
          let r1 = r.1 in
          (omega (arith, ints, s, e, r0), omega (arith, ints, s, e, r1)))
      | inr e ↦ (let z = unit_of_others w u ks vs i h.1 l.1 (subst (λ (y : Vector). Each (λ v. y ≢ v) vs) (sym e) d.0) in
          let o = t ∙ ap (λ (y : Vector). k *ℤ dot u y) (sym e) ∙ ap (λ (n : ℤ). k *ℤ n) (unit_at_self w u i) in
          let b0 = b.0.0 in
          let b1 = b.0.1 in
          (omega (arith, ints, s, o, z, b0), omega (arith, ints, s, o, z, b1)))
    ]
