-- Extreme by the rows at which a vector vanishes, and extreme by how its multiples split: they are the same, and in a pointed cone a primitive extreme ray is an extreme generator.
use Rattle.std.proofs.Common.{Contains, ◌≡◌, inl, inr, ℕ, List, ◌∷◌, length, map, ℤ, pos, negsuc, ◌+ℤ◌, ◌-ℤ◌, ◌*ℤ◌, neg_ℤ, ◌≤ℤ◌, ◌<ℤ◌, refl, sym, ap, ap₂, ◌∙◌, subst, arith}
use Rattle.std.proofs.lemmas.Int.{ints}
use Rattle.std.proofs.Math.IntN.{*ℤ_comm, *ℤ-zero}
use Rattle.std.specs.List.{AllByRecursion as Each}
use Rattle.nz_spec.specs.Vectors.{Vector, dot, plus, scaled, zero_vector, HasWidth, IsZero, IsNonzero, IsPrimitive}
use Rattle.nz_spec.specs.Monoids.{IsAlong, SplitsAlong, IsExtreme, IsExtremeRay}
use Rattle.nz_spec.proofs.IntLaws.{mul-nonneg}
use Rattle.nz_spec.proofs.VectorLaws.{dot-scaled, IsZero-zero_vector, scaled-scaled, zero_vector_of, one-scaled, add-scaled, int_is_zero}
use Rattle.nz_linear.specs.Cones.{Satisfies, IsInRows}
use Rattle.nz_linear.specs.Extreme.{VanishesWith, IsPointed}
use Rattle.nz_linear.specs.DoubleDescription.{IsOnRay, IsExtremeByZeros}
use Rattle.nz_spec.proofs.ListLaws.{Each-contains}
use Rattle.nz_linear.specs.RayStep.{AreExtremeRays}
use Rattle.nz_linear.proofs.RayList.{each_extreme_listed}
use Rattle.nz_linear.proofs.Ring.{sums, neg-mul, mul-one}
use Rattle.nz_linear.proofs.Signs.{mul_le, mul_is_zero, mul_is_nonneg, sign_cases}
use Rattle.nz_linear.proofs.Lists.{each_map, each_map2, each_map3, map_each}
use Rattle.nz_linear.proofs.VectorLaws.{length-plus, length-scaled, dot-plus, zero-scaled, same_values, cancel_scaled, scaled_is_zero}
use Rattle.nz_linear.proofs.Cones.{above_zero}
use Rattle.nz_linear.proofs.Division.{unit_value, primitive_nonzero, primitive_of, primitive_multiple}
use Rattle.nz_linear.proofs.Members.{larger_than_all}
use Rattle.nz_linear.proofs.DoubleDescription.{same_at}

along_of_ray : (x y : Vector) → IsOnRay x y → IsAlong x y
along_of_ray x y r = record { multiple = r.multiple; factor = r.factor; positive = (let p = r.positive in omega (arith, sums)); same = r.same }

-- a part of a multiple of x vanishes where x does
part_vanishes : (w : ℕ) (rows : List Vector) (x a b : Vector) (m : ℤ) → HasWidth w a → HasWidth w b → Satisfies rows a → Satisfies rows b → plus a b ≡ scaled m x → VanishesWith rows x a × VanishesWith rows x b
part_vanishes w rows x a b m la lb sa sb e =
    let both : Each (λ r. dot r x ≡ pos 0 → (dot r a ≡ pos 0) × (dot r b ≡ pos 0)) rows = each_map2 (λ r. pos 0 ≤ℤ dot r a) (λ r. pos 0 ≤ℤ dot r b) (λ r. dot r x ≡ pos 0 → (dot r a ≡ pos 0) × (dot r b ≡ pos 0)) rows
    (λ r pa pb z.
    let sum : dot r a +ℤ dot r b ≡ pos 0 = sym (dot-plus w r a b la lb) ∙ ap (dot r) e ∙ dot-scaled r m x ∙ ap (λ t. m *ℤ t) z ∙ *ℤ-zero m in
    (omega (arith, sums), omega (arith, sums))) sa sb in (
      each_map (λ r. dot r x ≡ pos 0 → (dot r a ≡ pos 0) × (dot r b ≡ pos 0)) (λ r. dot r x ≡ pos 0 → dot r a ≡ pos 0) rows (λ r f z. (f z).0) both,
      each_map (λ r. dot r x ≡ pos 0 → (dot r a ≡ pos 0) × (dot r b ≡ pos 0)) (λ r. dot r x ≡ pos 0 → dot r b ≡ pos 0) rows (λ r f z. (f z).1) both,
    )

-- what is extreme by its zeros splits only along itself
pub splits_of_zeros : (w : ℕ) (rows : List Vector) (Member : Vector → Type 0) (x : Vector) → ((y : Vector) → Member y → IsInRows w rows y) → IsExtremeByZeros w rows x → SplitsAlong Member x
splits_of_zeros w rows Member x inside e m a b pm ma mb s =
    let ia = inside a ma in
    let ib = inside b mb in
    let v = part_vanishes w rows x a b m ia.0 ib.0 ia.1 ib.1 s in
    (along_of_ray x a (e a ia.0 ia.1 v.0), along_of_ray x b (e b ib.0 ib.1 v.1))

-- a vector of the cone of which a negative multiple is in the cone is 0
pub opposite_is_zero : (w : ℕ) (rows : List Vector) (x y : Vector) (m k : ℤ) → IsPointed w rows → HasWidth w x → Satisfies rows x → Satisfies rows y → pos 0 <ℤ m → k <ℤ pos 0 → scaled m y ≡ scaled k x → IsZero x
opposite_is_zero w rows x y m k pt lx sx sy pm nk e =
    let vanish : Each (λ a. dot a x ≡ pos 0) rows = each_map2 (λ a. pos 0 ≤ℤ dot a x) (λ a. pos 0 ≤ℤ dot a y) (λ a. dot a x ≡ pos 0) rows
    (λ a px py.
    let n : pos 0 <ℤ neg_ℤ k = omega (arith, sums) in
    mul_is_zero (neg_ℤ k) (dot a x) n (omega (arith, sums, same_at m k y x e a, neg-mul k (dot a x), mul-nonneg m (dot a y) (omega (arith, sums)) py, mul-nonneg (neg_ℤ k) (dot a x) (omega (arith, sums)) px))) sx sy in
    subst IsZero (sym (pt x lx vanish)) (IsZero-zero_vector w)

-- a positive number that is at least each value
pub enough_of : (rows : List Vector) (y : Vector) → (n : ℤ) × (pos 1 ≤ℤ n) × Each (λ a. dot a y ≤ℤ n) rows
enough_of rows y =
    let r = larger_than_all (pos 0 ∷ map (λ a. dot a y) rows) in
    (r.0, (let h = r.1.0 in omega (arith, sums)), each_map (λ a. dot a y <ℤ r.0) (λ a. dot a y ≤ℤ r.0) rows (λ a h. omega (arith, sums)) (map_each (λ a. dot a y) (λ t. t <ℤ r.0) rows r.1.1))

-- and what splits only along itself in a pointed cone is extreme by its zeros
pub zeros_of_splits : (w : ℕ) (rows : List Vector) (x : Vector) → IsPointed w rows → HasWidth w x → Satisfies rows x → IsNonzero x → SplitsAlong (IsInRows w rows) x → IsExtremeByZeros w rows x
zeros_of_splits w rows x pt lx sx nx s y ly sy v =
    let n = enough_of rows y in
    let N = n.0 in
    let z = plus (scaled N x) (scaled (negsuc 0) y) in
    let lz : HasWidth w z = length-plus w (scaled N x) (scaled (negsuc 0) y) (length-scaled w N x lx) (length-scaled w (negsuc 0) y ly) in
    let value : (a : Vector) → dot a z ≡ N *ℤ dot a x +ℤ negsuc 0 *ℤ dot a y = λ a. dot-plus w a (scaled N x) (scaled (negsuc 0) y) (length-scaled w N x lx) (length-scaled w (negsuc 0) y ly) ∙ ap₂ ◌+ℤ◌ (dot-scaled a N x) (dot-scaled a (negsuc 0) y) in
    let sz : Satisfies rows z = each_map3 (λ a. pos 0 ≤ℤ dot a x) (λ a. dot a x ≡ pos 0 → dot a y ≡ pos 0) (λ a. dot a y ≤ℤ N) (λ a. pos 0 ≤ℤ dot a z) rows
    (λ a px f h. elim (int_is_zero (dot a x)) [
      | inl e ↦ (let g = f e in omega (arith, ints, value a, ap (λ t. N *ℤ t) e, *ℤ-zero N, g))
      | inr d ↦ (let up : pos 1 ≤ℤ dot a x = omega (arith, sums) in let k = mul_le N (pos 1) (dot a x) (let q = n.1 in omega (arith, sums)) up in omega (arith, ints, value a, k, mul-one N, h))
    ]) sx v n.2 in
    let sum : plus y z ≡ scaled N x = same_values w (plus y z) (scaled N x) (length-plus w y z ly lz) (length-scaled w N x lx)
    (λ a. dot-plus w a y z ly lz ∙ omega (arith, ints, value a, dot-scaled a N x)) in
    let r = (s N y z n.1 (ly, sy) (lz, sz) sum).0 in
    elim (sign_cases r.factor) [
      | inl e ↦ record { multiple = r.multiple; positive = above_zero r.multiple r.positive; factor = r.factor; nonneg = omega (arith, sums); same = r.same }
      | inr c ↦ elim c [
        | inl up ↦ record { multiple = r.multiple; positive = above_zero r.multiple r.positive; factor = r.factor; nonneg = omega (arith, sums); same = r.same }
        | inr down ↦ absurd (nx (opposite_is_zero w rows x y r.multiple r.factor pt lx sx sy (above_zero r.multiple r.positive) down r.same))
      ]
    ]

-- ---- primitive extreme rays and extreme generators
pub extreme_ray_of_zeros : (w : ℕ) (rows : List Vector) (x : Vector) → HasWidth w x → Satisfies rows x → IsPrimitive x → IsExtremeByZeros w rows x → IsExtremeRay (IsInRows w rows) x
extreme_ray_of_zeros w rows x lx sx px e = record { member = (lx, sx); primitive = px; splits_along = splits_of_zeros w rows (IsInRows w rows) x (λ y m. m) e }

-- a vector along a primitive one is a whole multiple of it
pub whole_along : (w : ℕ) (x y : Vector) → HasWidth w x → HasWidth w y → IsPrimitive x → IsAlong x y → (t : ℤ) × (y ≡ scaled t x)
whole_along w x y lx ly px r =
    let m = primitive_multiple r.factor r.multiple x y (sym r.same) px in
    let t = m.0 in
    (t, cancel_scaled w r.multiple y (scaled t x) (above_zero r.multiple r.positive) ly (length-scaled w t x lx) (r.same ∙ ap (λ k. scaled k x) (m.1 ∙ *ℤ_comm t r.multiple) ∙ sym (scaled-scaled r.multiple t x)))

-- no nonzero vector of the cone is a multiple of x by 0 or less
multiple_positive : (w : ℕ) (rows : List Vector) (x y : Vector) (t : ℤ) → IsPointed w rows → IsInRows w rows x → IsNonzero x → IsInRows w rows y → IsNonzero y → y ≡ scaled t x → pos 0 <ℤ t
multiple_positive w rows x y t pt ix nx iy ny e = elim (sign_cases t) [
  | inl z ↦ absurd (ny (subst IsZero (sym (e ∙ ap (λ k. scaled k x) z ∙ zero-scaled w x ix.0)) (IsZero-zero_vector w)))
  | inr c ↦ elim c [
    | inl up ↦ up
    | inr down ↦ absurd (nx (opposite_is_zero w rows x y (pos 1) t pt ix.0 ix.1 iy.1 (omega (arith, sums)) down (one-scaled y ∙ e)))
  ]
]

pub extreme_of_ray : (w : ℕ) (rows : List Vector) (x : Vector) → IsPointed w rows → IsExtremeRay (IsInRows w rows) x → IsExtreme (IsInRows w rows) x
extreme_of_ray w rows x pt r =
    let nx = primitive_nonzero x r.primitive in
    record {
      irreducible = record {
        member = r.member;
        nonzero = nx;
        no_sum = λ y z my ny mz nz e.
            let a = r.splits_along (pos 1) y z (omega (arith, sums)) my mz (e ∙ sym (one-scaled x)) in
            let ty = whole_along w x y r.member.0 my.0 r.primitive a.0 in
            let tz = whole_along w x z r.member.0 mz.0 r.primitive a.1 in
            let py = multiple_positive w rows x y ty.0 pt r.member nx my ny ty.1 in
            let pz = multiple_positive w rows x z tz.0 pt r.member nx mz nz tz.1 in
            let u = unit_value x r.primitive in
            let vy : dot u.form y ≡ ty.0 = ap (dot u.form) ty.1 ∙ dot-scaled u.form ty.0 x ∙ ap (λ t. ty.0 *ℤ t) u.one ∙ mul-one ty.0 in
            let vz : dot u.form z ≡ tz.0 = ap (dot u.form) tz.1 ∙ dot-scaled u.form tz.0 x ∙ ap (λ t. tz.0 *ℤ t) u.one ∙ mul-one tz.0 in
            let sum : dot u.form y +ℤ dot u.form z ≡ pos 1 = sym (dot-plus w u.form y z my.0 mz.0) ∙ ap (dot u.form) e ∙ u.one in
            omega (arith, sums);
      };
      splits_along = r.splits_along;
    }

-- the rest of a multiple by 2 or more
split_off : (g : ℤ) (y x : Vector) → scaled g y ≡ x → plus y (scaled (g -ℤ pos 1) y) ≡ x
split_off g y x e =
    let k : g ≡ pos 1 +ℤ (g -ℤ pos 1) = omega (arith, sums) in
    ap (λ v. plus v (scaled (g -ℤ pos 1) y)) (sym (one-scaled y)) ∙ sym (add-scaled (pos 1) (g -ℤ pos 1) y) ∙ ap (λ t. scaled t y) (sym k) ∙ e

pub ray_of_extreme : (w : ℕ) (rows : List Vector) (x : Vector) → IsExtreme (IsInRows w rows) x → IsExtremeRay (IsInRows w rows) x
ray_of_extreme w rows x r =
    let i = r.irreducible in
    let p = primitive_of x i.nonzero in
    let g = p.is.factor in
    let y = p.y in
    let ly : HasWidth w y = sym (length-scaled (length y) g y refl) ∙ ap length p.is.same ∙ i.member.0 in
    let sy : Satisfies rows y = each_map (λ a. pos 0 ≤ℤ dot a x) (λ a. pos 0 ≤ℤ dot a y) rows (λ a h. mul_is_nonneg g (dot a y) p.is.positive (rw (sym (dot-scaled a g y) ∙ ap (dot a) p.is.same) h)) i.member.1 in
    let ny = primitive_nonzero y p.is.primitive in
    elim (sign_cases (g -ℤ pos 1)) [
      | inl z ↦ (let one : g ≡ pos 1 = omega (arith, sums) in record {
        member = i.member;
        primitive = subst IsPrimitive (sym (one-scaled y) ∙ ap (λ t. scaled t y) (sym one) ∙ p.is.same) p.is.primitive;
        splits_along = r.splits_along;
      })
      | inr c ↦ elim c [
        | inl more ↦ absurd (
            let k = g -ℤ pos 1 in
            let lk : HasWidth w (scaled k y) = length-scaled w k y ly in
            let sk : Satisfies rows (scaled k y) = each_map (λ a. pos 0 ≤ℤ dot a y) (λ a. pos 0 ≤ℤ dot a (scaled k y)) rows (λ a h. rw (dot-scaled a k y) (mul-nonneg k (dot a y) (omega (arith, sums)) h)) sy in
            let nk : IsNonzero (scaled k y) = λ z. ny (subst IsZero (sym (scaled_is_zero w k y more ly (zero_vector_of (scaled k y) z ∙ ap zero_vector lk))) (IsZero-zero_vector w)) in
            i.no_sum y (scaled k y) (ly, sy) ny (lk, sk) nk (split_off g y x p.is.same))
        | inr less ↦ absurd (let q = p.is.positive in omega (arith, sums))
      ]
    ]

-- the list of the extreme rays has just the primitive extreme rays
pub listed_is_ray : (w : ℕ) (rows rays : List Vector) (x : Vector) → AreExtremeRays w rows rays → Contains rays x → IsExtremeRay (IsInRows w rows) x
listed_is_ray w rows rays x r c =
    let d = r.description in
    extreme_ray_of_zeros w rows x (Each-contains (HasWidth w) rays x d.ray_widths c) (Each-contains (Satisfies rows) rays x d.sound c) (Each-contains IsPrimitive rays x r.primitive c) (Each-contains (IsExtremeByZeros w rows) rays x r.extreme c)

pub ray_is_listed : (w : ℕ) (rows rays : List Vector) (x : Vector) → IsPointed w rows → AreExtremeRays w rows rays → IsExtremeRay (IsInRows w rows) x → Contains rays x
ray_is_listed w rows rays x pt r y =
    each_extreme_listed w rows rays x r y.member.0 y.member.1 y.primitive (zeros_of_splits w rows x pt y.member.0 y.member.1 (primitive_nonzero x y.primitive) y.splits_along)

-- and just the extreme generators of the whole vectors of the cone
pub listed_is_extreme : (w : ℕ) (rows rays : List Vector) (x : Vector) → IsPointed w rows → AreExtremeRays w rows rays → Contains rays x → IsExtreme (IsInRows w rows) x
listed_is_extreme w rows rays x pt r c = extreme_of_ray w rows x pt (listed_is_ray w rows rays x r c)

pub extreme_is_listed : (w : ℕ) (rows rays : List Vector) (x : Vector) → IsPointed w rows → AreExtremeRays w rows rays → IsExtreme (IsInRows w rows) x → Contains rays x
extreme_is_listed w rows rays x pt r e = ray_is_listed w rows rays x pt r (ray_of_extreme w rows x e)
