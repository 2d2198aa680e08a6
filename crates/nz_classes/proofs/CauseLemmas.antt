-- Why a number of the walk is no value of the type: something of the simplex is too large.
use Rattle.std.proofs.Common.{◌≡◌, ℕ, zero, suc, ◌+◌, ◌<◌, ◌≤◌, ◌⊎◌, inl, inr, List, [], ◌∷◌, length, take, get_or, ℤ, pos, negsuc, ◌+ℤ◌, ◌*ℤ◌, neg_ℤ, ◌≤ℤ◌, ◌<ℤ◌, Contains, refl, sym, ap, ◌∙◌, subst, arith}
use Rattle.std.specs.Prelude.{unsigned_abs}
use Rattle.std.proofs.lemmas.Int.{ints, unsigned_abs-mul}
use Rattle.std.proofs.lemmas.List.{length-map, take_all}
use Rattle.std.proofs.Math.IntN.{*ℤ_comm}
use Rattle.std.specs.List.{AllByRecursion as Each, AllZip}
use Rattle.nz_spec.specs.Vectors.{Vector, dot, plus, minus, scaled, opposite, combination, values_at, entry, zero_vector, HasWidth}
use Rattle.nz_spec.specs.Boxes.{IsFloor}
use Rattle.nz_spec.proofs.ListLaws.{contains_here, contains_there, contains_at}
use Rattle.nz_order.proofs.OrderLaws.{nat_compare}
use Rattle.nz_linear.specs.DualPairs.{Pair, pair_of, divisor, HasWidths, IsDual, IsCompleteOn, product, spread_factors}
use Rattle.nz_linear.specs.Echelon.{unit_at}
use Rattle.nz_linear.proofs.DualPairs.{product_positive, expansion, spread_is, length-factors}
use Rattle.nz_linear.proofs.Elimination.{all_of_width}
use Rattle.nz_linear.proofs.Lists.{each_map}
use Rattle.nz_linear.proofs.Ring.{sums, one-mul, mul-one, mul_left_comm, neg-mul}
use Rattle.nz_linear.proofs.Signs.{mul_le, mul_lt}
use Rattle.nz_linear.proofs.Units.{dot-unit_at, length-unit_at, unit_at_listed}
use Rattle.nz_spec.proofs.IntLaws.{mul-nonneg}
use Rattle.nz_scalar.specs.Room.{IsWithin, HasRoom}
use Rattle.nz_vec.specs.Combinations.{CombinationFits}
use Rattle.nz_vec.specs.Sums.{SumsFit, HasValueOutside}
use Rattle.nz_vec.proofs.RoomLemmas.{combination_fits}
use Rattle.nz_classes.specs.Classes.{HasReducedValues}
use Rattle.nz_classes.specs.Steps.{HasSumOutside, HasPairOutside, HasColumnOutside, AreCarries, IsCarry, products, column_terms}
use Rattle.nz_classes.specs.Sums.{sum_of}
use Rattle.nz_classes.specs.Walks.{paired, IsFullSimplex, IsNamed, IsTooLarge}
use Rattle.nz_range.specs.Measures.{measure, pair_measure}
use Rattle.nz_classes.proofs.EntryLemmas.{column_sum}
use Rattle.nz_classes.proofs.SimplexLemmas.{vectors-paired, length-paired, pair_at, zip_at, form_width, divisor_positive, reduced_at, value_at, sides_wide}
use Rattle.nz_classes.proofs.WalkLemmas.{point_of}

-- ---- sizes
abs_within : (n : ℕ) (z : ℤ) → unsigned_abs z ≤ n → IsWithin (pos n) z
abs_within n (pos m) h = (omega (arith, ints, h), omega (arith, ints, h))
abs_within n (negsuc m) h = (omega (arith, ints, h), omega (arith, ints, h))

within_abs : (n : ℕ) (z : ℤ) → IsWithin (pos n) z → unsigned_abs z ≤ n
within_abs n (pos m) h = (let a = h.1 in omega (arith, ints, a))
within_abs n (negsuc m) h = (let a = h.0 in omega (arith, ints, a))

abs_sum : (a b : ℤ) → unsigned_abs (a +ℤ b) ≤ unsigned_abs a + unsigned_abs b
abs_sum a b =
    let p = abs_within (unsigned_abs a) a (omega arith) in
    let q = abs_within (unsigned_abs b) b (omega arith) in
    let p0 = p.0 in
    let p1 = p.1 in
    let q0 = q.0 in
    let q1 = q.1 in
    within_abs (unsigned_abs a + unsigned_abs b) (a +ℤ b) (omega (arith, ints, p0, p1, q0, q1), omega (arith, ints, p0, p1, q0, q1))

large_or_not : (a b : ℕ) → (a ≤ b) ⊎ (b < a)
large_or_not a b = elim (nat_compare a b) [ inl x ↦ inl (omega (arith, x)) | inr (inl x) ↦ inl (omega (arith, x)) | inr (inr x) ↦ inr x ]

entry_measure : (x : Vector) (j : ℕ) → unsigned_abs (entry x j) ≤ measure x
entry_measure [] j = omega arith
entry_measure (a ∷ x) zero = omega arith
entry_measure (a ∷ x) (suc j) = (let h = entry_measure x j in omega (arith, h))

dot_measure : (f x : Vector) → unsigned_abs (dot f x) ≤ pair_measure f x
dot_measure [] x = omega arith
dot_measure (a ∷ f) [] = omega arith
dot_measure (a ∷ f) (b ∷ x) = (let h = dot_measure f x in let k = abs_sum (a *ℤ b) (dot f x) in omega (arith, h, k))

-- a floor is no larger than the number that is divided
floor_size : (d a q : ℤ) → pos 0 <ℤ d → IsFloor d a q → unsigned_abs q ≤ unsigned_abs a
floor_size d (pos m) (pos n) p f =
    let a = f.at_most in
    let e = mul_le (pos n) (pos 1) d (omega (arith, ints)) (omega (arith, ints, p)) in
    let o = mul-one (pos n) in
    let k : pos n ≤ℤ pos m = omega (arith, sums, a, e, o) in
    omega (arith, ints, k)
floor_size d (pos m) (negsuc n) p f =
    let a = f.above in
    let e = mul_le d (negsuc n +ℤ pos 1) (pos 0) (omega (arith, ints, p)) (omega (arith, ints)) in
    let c = *ℤ_comm d (negsuc n +ℤ pos 1) in
    let o : d *ℤ pos 0 ≡ pos 0 = omega (arith, ints) in
    let k : pos m <ℤ pos 0 = omega (arith, sums, a, e, c, o) in
    absurd (omega (arith, ints, k))
floor_size d (negsuc m) (pos n) p f =
    let a = f.at_most in
    let e = mul-nonneg (pos n) d (omega (arith, ints)) (omega (arith, ints, p)) in
    let k : pos 0 ≤ℤ negsuc m = omega (arith, sums, a, e) in
    absurd (omega (arith, ints, k))
floor_size d (negsuc m) (negsuc n) p f =
    let a = f.above in
    let e = mul_le (pos n) (pos 1) d (omega (arith, ints)) (omega (arith, ints, p)) in
    let o = mul-one (pos n) in
    let s : negsuc n +ℤ pos 1 ≡ neg_ℤ (pos n) = omega (arith, ints) in
    let c = ap (λ (t : ℤ). t *ℤ d) s ∙ neg-mul (pos n) d in
    let k : negsuc m <ℤ neg_ℤ (pos n) = omega (arith, sums, a, e, o, c) in
    omega (arith, ints, k)

each_from : {A : Type 0} (P : A → Type 0) (xs : List A) (d : A) → ((k : ℕ) → k < length xs → P (get_or xs k d)) → Each P xs
each_from P [] d h = tt
each_from P (x ∷ xs) d h = (h 0 (omega arith), each_from P xs d (λ k l. h (suc k) (omega (arith, l))))

carry_is : (t d k : ℤ) → IsCarry t d k → (k ≡ negsuc 0) ⊎ (k ≡ pos 0)
carry_is t d k (inl h) = inl h.1
carry_is t d k (inr h) = inr h.1

carried : (k a : ℤ) → (k ≡ negsuc 0) ⊎ (k ≡ pos 0) → unsigned_abs (k *ℤ a) ≤ unsigned_abs a
carried k a (inl e) = (let c = ap (λ (t : ℤ). unsigned_abs (t *ℤ a)) e in let m = unsigned_abs-mul (negsuc 0) a in omega (arith, c, m))
carried k a (inr e) = (let c = ap (λ (t : ℤ). unsigned_abs (t *ℤ a)) e in let m = unsigned_abs-mul (pos 0) a in omega (arith, c, m))

small_all : (n : ℕ) (vs : List Vector) → Each (λ v. measure v ≤ n) vs ⊎ ((v : Vector) × (Contains vs v × (n < measure v)))
small_all n [] = inl tt
small_all n (v ∷ vs) = elim (large_or_not (measure v) n) [
  | inr l ↦ inr (v, (contains_here v vs, l))
  | inl l ↦ elim (small_all n vs) [
    | inl h ↦ inl (l, h)
    | inr h ↦ inr (h.0, (contains_there v h.0 vs h.1.0, h.1.1))
  ]
]

module _ (h : ℤ) (fits : ℤ → Type 0) (room : HasRoom h fits) where
  bound_is : pos (unsigned_abs h) ≡ h
  bound_is = from h room.at_least
    where
      from : (z : ℤ) → pos 1 ≤ℤ z → pos (unsigned_abs z) ≡ z
      from (pos n) p = refl
      from (negsuc n) p = absurd (omega (arith, ints, p))

  small_within : (z : ℤ) → unsigned_abs z ≤ unsigned_abs h → IsWithin h z
  small_within z l = subst (λ (t : ℤ). IsWithin t z) bound_is (abs_within (unsigned_abs h) z l)

  small_fits : (z : ℤ) → unsigned_abs z ≤ unsigned_abs h → fits z
  small_fits z l =
      let w = small_within z l in
      let a = w.0 in
      let b = w.1 in
      let p = room.at_least in
      let k = mul_le h (pos 1) h (omega (arith, ints, p)) p in
      let o = mul-one h in
      room.squares z (omega (arith, sums, a, k, o), omega (arith, sums, b, k, o))

  one_within : IsWithin h (pos 1)
  one_within = (let p = room.at_least in (omega (arith, ints, p), p))

  minus_one_within : IsWithin h (negsuc 0)
  minus_one_within = (let p = room.at_least in (omega (arith, ints, p), omega (arith, ints, p)))

  zero_within : IsWithin h (pos 0)
  zero_within = (let p = room.at_least in (omega (arith, ints, p), omega (arith, ints, p)))

  zeros_within : (w : ℕ) → Each (IsWithin h) (zero_vector w)
  zeros_within zero = tt
  zeros_within (suc w) = (zero_within, zeros_within w)

  unit_within : (w j : ℕ) → Each (IsWithin h) (unit_at w j)
  unit_within zero j = tt
  unit_within (suc w) zero = (one_within, zeros_within w)
  unit_within (suc w) (suc j) = (zero_within, unit_within w j)

  entries_within : (x : Vector) → measure x ≤ unsigned_abs h → Each (IsWithin h) x
  entries_within [] l = tt
  entries_within (a ∷ x) l = (small_within a (omega (arith, l)), entries_within x (omega (arith, l)))

  sums_fit : (s : ℤ) (f x : Vector) → unsigned_abs s + pair_measure f x ≤ unsigned_abs h → SumsFit fits s f x
  sums_fit s [] x l = tt
  sums_fit s (a ∷ f) [] l = tt
  sums_fit s (a ∷ f) (b ∷ x) l =
      let k = abs_sum s (a *ℤ b) in
      (small_fits (a *ℤ b) (omega (arith, l)), small_fits (s +ℤ a *ℤ b) (omega (arith, l, k)), sums_fit (s +ℤ a *ℤ b) f x (omega (arith, l, k)))

  module _ (sides forms : List Vector) (s : IsFullSimplex sides forms) where
    -- a form at a named vector
    pub caused_value : (xs : List Vector) → ((x : Vector) → Contains xs x → IsNamed sides x) → HasValueOutside fits forms xs → IsTooLarge (unsigned_abs h) sides forms
    caused_value xs named o = elim (large_or_not (pair_measure o.form o.vector) (unsigned_abs h)) [
      | inl l ↦ absurd (o.outside (sums_fit (pos 0) o.form o.vector (omega (arith, l))))
      | inr l ↦ inr (inr (o.form, o.vector, (o.of_forms, named o.vector o.of_vectors, l)))
    ]

    point_named : (x : Vector) → HasWidth (length sides) x → HasReducedValues (paired forms sides) x → IsNamed sides x
    point_named x l r = inl (point_of sides forms s x l r)

    side_named : (i : ℕ) → i < length sides → IsNamed sides (get_or sides i [])
    side_named i l = inr (inl (contains_at sides i [] l))

    -- a divisor is the value of a form at a side
    divisor_small : (i : ℕ) → i < length sides → (unsigned_abs (dot (get_or forms i []) (get_or sides i [])) ≤ unsigned_abs h) ⊎ IsTooLarge (unsigned_abs h) sides forms
    divisor_small i l = elim (large_or_not (pair_measure (get_or forms i []) (get_or sides i [])) (unsigned_abs h)) [
      | inl k ↦ inl (let d = dot_measure (get_or forms i []) (get_or sides i []) in omega (arith, d, k))
      | inr k ↦ inr (inr (inr (get_or forms i [], get_or sides i [], (contains_at forms i [] (omega (arith, l, s.one_each)), side_named i l, k))))
    ]

    below_divisor : (a d : ℤ) → unsigned_abs d ≤ unsigned_abs h → pos 0 ≤ℤ a → a <ℤ d → IsWithin h a
    below_divisor a d l p q =
        let w = small_within d l in
        let b = w.1 in
        let e = room.at_least in
        (omega (arith, ints, p, e), omega (arith, sums, q, b))

    -- the sum of a form's values at two points
    pub caused_pair : (x y : Vector) → HasReducedValues (paired forms sides) x → HasReducedValues (paired forms sides) y → HasPairOutside fits (values_at forms x) (values_at forms y) → IsTooLarge (unsigned_abs h) sides forms
    caused_pair x y rx ry o =
        let i = o.place in
        let l : o.place < length sides = (let m = o.within in omega (arith, m, length-map forms (λ f. dot f x), s.one_each)) in
        let f = get_or forms i [] in
        let d = dot f (get_or sides i []) in
        let a = reduced_at sides forms s i l x rx in
        let b = reduced_at sides forms s i l y ry in
        elim (divisor_small i l) [
          | inl k ↦ absurd (o.outside (subst fits (ap (λ (t : ℤ). t +ℤ dot f y) (sym (value_at sides forms s i l x)) ∙ ap (λ (t : ℤ). entry (values_at forms x) i +ℤ t) (sym (value_at sides forms s i l y)))
              (subst fits (sum_is (dot f x) (dot f y)) (room.products (pos 1) (dot f x) (pos 1) (dot f y) one_within (below_divisor (dot f x) d k a.0 a.1) one_within (below_divisor (dot f y) d k b.0 b.1)))))
          | inr k ↦ k
        ]
      where
        sum_is : (a b : ℤ) → pos 1 *ℤ a +ℤ pos 1 *ℤ b ≡ a +ℤ b
        sum_is a b = omega (arith, sums, one-mul a, one-mul b)

    -- ---- floor sums
    floor_scaled : (k m c q : ℤ) → pos 0 <ℤ k → IsFloor m c q → IsFloor (k *ℤ m) (k *ℤ c) q
    floor_scaled k m c q p f =
        let a = mul_le k (q *ℤ m) c (omega (arith, sums, p)) f.at_most in
        let b = mul_lt k c ((q +ℤ pos 1) *ℤ m) p f.above in
        let e = mul_left_comm k q m in
        let g = mul_left_comm k (q +ℤ pos 1) m in
        record { at_most = omega (arith, sums, a, e); above = omega (arith, sums, b, g) }

    floors_scaled : (ps : List Pair) (x : Vector) (floors : List ℤ) → IsDual ps → AllZip (λ (p : Pair) q. IsFloor (divisor p) (dot p.form x) q) ps floors → AllZip (IsFloor (product ps)) (spread_factors ps x) floors
    floors_scaled [] x [] d z = tt
    floors_scaled [] x (q ∷ floors) d z = absurd z
    floors_scaled (p ∷ ps) x [] d z = absurd z
    floors_scaled (p ∷ ps) x (q ∷ floors) d z =
        let k = product ps in
        (subst (λ (t : ℤ). IsFloor t (k *ℤ dot p.form x) q) (*ℤ_comm k (divisor p)) (floor_scaled k (divisor p) (dot p.form x) q (product_positive ps d.2) z.0), scale (spread_factors ps x) floors (floors_scaled ps x floors d.2 z.1))
      where
        scale : (cs qs : List ℤ) → AllZip (IsFloor (product ps)) cs qs → AllZip (IsFloor (divisor p *ℤ product ps)) (scaled (divisor p) cs) qs
        scale [] [] z = tt
        scale [] (q ∷ qs) z = absurd z
        scale (c ∷ cs) [] z = absurd z
        scale (c ∷ cs) (q ∷ qs) z = (floor_scaled (divisor p) (product ps) c q d.0 z.0, scale cs qs z.1)

    module _ (column : ℕ) (lc : column < length sides) (floors : List ℤ) (z : AllZip (λ (p : Pair) q. IsFloor (divisor p) (dot p.form (unit_at (length sides) column)) q) (paired forms sides) floors) where
      floor_sum_named : (m : ℕ) → IsNamed sides (combination (length sides) (take m floors) sides)
      floor_sum_named m =
          let w = length sides in
          let ps = paired forms sides in
          let u = unit_at w column in
          let lu = length-unit_at w column in
          let v = vectors-paired forms sides s.one_each in
          let complete : IsCompleteOn w (HasWidth w) ps = record { vectors_in = each_map (HasWidths w) (λ (p : Pair). HasWidth w p.vector) ps (λ p h. h.vector_width) s.dual.widths; only_zero = s.only_zero } in
          inr (inr (record {
            unit = u;
            of_units = unit_at_listed w column lc;
            multiple = product ps;
            factors = spread_factors ps u;
            floors = floors;
            n = m;
            positive = (let p = product_positive ps s.dual.dual in omega (arith, sums, p));
            one_each = length-factors ps u ∙ length-paired forms sides s.one_each;
            same = ap (combination w (spread_factors ps u)) (sym v) ∙ sym (spread_is w ps u) ∙ sym (expansion w (HasWidth w) ps u (all_of_width w) s.dual complete lu);
            are_floors = floors_scaled ps u floors s.dual.dual z;
            partial = refl;
          }))

      -- a partial sum of the floor sum and the next term
      pub caused_sum : HasSumOutside fits (length sides) floors sides → IsTooLarge (unsigned_abs h) sides forms
      caused_sum o =
          let w = length sides in
          let m = o.place in
          let f = get_or forms m [] in
          let v = get_or sides m [] in
          let q = entry floors m in
          let S = combination w (take m floors) sides in
          let none = pair_of [] [] in
          let k : IsFloor (dot f v) (dot f (unit_at w column)) q = subst (λ (p : Pair). IsFloor (divisor p) (dot p.form (unit_at w column)) q) (pair_at forms sides m none s.one_each o.within) (zip_at _ (paired forms sides) floors m none (pos 0) (let l = o.within in omega (arith, l, length-paired forms sides s.one_each)) z) in
          let a : dot f (unit_at w column) ≡ entry f column = dot-unit_at w column f (form_width sides forms s m o.within) in
          let b : unsigned_abs q ≤ unsigned_abs (entry f column) = floor_size (dot f v) (entry f column) q (divisor_positive sides forms s m o.within) (subst (λ (t : ℤ). IsFloor (dot f v) t q) a k) in
          let c = entry_measure f column in
          elim (large_or_not (measure S) (unsigned_abs h)) [
            | inr l ↦ inl (S, (floor_sum_named m, l))
            | inl ls ↦ elim (large_or_not (measure f) (unsigned_abs h)) [
              | inr l ↦ inr (inl (f, (contains_at forms m [] (let l = o.within in omega (arith, l, s.one_each)), l)))
              | inl lf ↦ elim (large_or_not (measure v) (unsigned_abs h)) [
                | inr l ↦ inl (v, (side_named m o.within, l))
                | inl lv ↦ absurd (o.outside (combination_fits h fits room (pos 1) q one_within (small_within q (omega (arith, b, c, lf))) S v (entries_within S ls) (entries_within v lv)))
              ]
            ]
          ]

      -- the unit vector less the floor sum
      pub caused_unit : (one k : ℤ) (u S : Vector) → one ≡ pos 1 → k ≡ negsuc 0 → u ≡ unit_at (length sides) column → S ≡ combination (length sides) floors sides → ¬ CombinationFits fits one u k S → IsTooLarge (unsigned_abs h) sides forms
      caused_unit one k u S e f g i none =
          let w = length sides in
          let full : IsNamed sides S = subst (IsNamed sides) (ap (λ (qs : List ℤ). combination w qs sides) (take_all (length floors) floors (omega arith)) ∙ sym i) (floor_sum_named (length floors)) in
          elim (large_or_not (measure S) (unsigned_abs h)) [
            | inr l ↦ inl (S, (full, l))
            | inl l ↦ absurd (none (subst (λ (t : ℤ). CombinationFits fits t u k S) (sym e) (subst (λ (t : ℤ). CombinationFits fits (pos 1) u t S) (sym f) (subst (λ (x : Vector). CombinationFits fits (pos 1) x (negsuc 0) S) (sym g)
                (combination_fits h fits room (pos 1) (negsuc 0) one_within minus_one_within (unit_at w column) S (unit_within w column) (entries_within S l))))))
          ]

    -- ---- the entries of the next point
    small_products : (j : ℕ) (ks : List ℤ) (vs : List Vector) → Each (λ k. (k ≡ negsuc 0) ⊎ (k ≡ pos 0)) ks → Each (λ v. measure v ≤ unsigned_abs h) vs → Each fits (products ks vs j)
    small_products j [] vs c l = tt
    small_products j (k ∷ ks) [] c l = tt
    small_products j (k ∷ ks) (v ∷ vs) c l =
        let a = entry_measure v j in
        let b = carried k (entry v j) c.0 in
        let d = l.0 in
        (small_fits (k *ℤ entry v j) (omega (arith, a, b, d)), small_products j ks vs c.1 l.1)

    pub caused_column : (x y n : Vector) (ks : List ℤ) (values more divisors : List ℤ) → IsNamed sides x → IsNamed sides y → IsNamed sides n → HasWidth (length sides) x → HasWidth (length sides) y → n ≡ minus (plus x y) (combination (length sides) (opposite ks) sides) → AreCarries values more divisors ks → HasColumnOutside fits x y ks sides → IsTooLarge (unsigned_abs h) sides forms
    caused_column x y n ks values more divisors nx ny nn lx ly e c o =
        let w = length sides in
        let j = o.column in
        let l : j < w = (let m = o.within in omega (arith, m, lx)) in
        let signs : Each (λ k. (k ≡ negsuc 0) ⊎ (k ≡ pos 0)) ks = each_from _ ks (pos 0) (λ i m. carry_is _ _ _ (c.each i (omega (arith, m, c.one_each)))) in
        let sum : sum_of (column_terms x y ks sides j) ≡ entry n j = column_sum w x y ks sides j l lx ly (sides_wide sides forms s) ∙ ap (λ (v : Vector). entry v j) (sym e) in
        elim (large_or_not (measure x) (unsigned_abs h)) [
          | inr m ↦ inl (x, (nx, m))
          | inl mx ↦ elim (large_or_not (measure y) (unsigned_abs h)) [
            | inr m ↦ inl (y, (ny, m))
            | inl my ↦ elim (large_or_not (measure n) (unsigned_abs h)) [
              | inr m ↦ inl (n, (nn, m))
              | inl mn ↦ elim (small_all (unsigned_abs h) sides) [
                | inr m ↦ inl (m.0, (inr (inl m.1.0), m.1.1))
                | inl ms ↦ absurd (o.outside
                    (small_fits (entry x j) (let a = entry_measure x j in omega (arith, a, mx)), (small_fits (entry y j) (let a = entry_measure y j in omega (arith, a, my)), small_products j ks sides signs ms))
                    (subst fits (sym sum) (small_fits (entry n j) (let a = entry_measure n j in omega (arith, a, mn)))))
              ]
            ]
          ]
        ]
