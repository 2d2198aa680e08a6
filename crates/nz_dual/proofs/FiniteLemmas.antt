-- The rows of a pointed cone have just finitely many irreducibles: they are among the vectors of bounded measure.
use Rattle.std.proofs.Common.{◌≡◌, ◌≢◌, ◌⊎◌, ⊎_elim, inl, inr, ℕ, zero, suc, ◌+◌, ◌*◌, ◌≤◌, List, [], ◌∷◌, ◌++◌, length, map, ℤ, pos, negsuc, ◌+ℤ◌, ◌≤ℤ◌, ◌<ℤ◌, Contains, refl, sym, ap, ◌∙◌, subst, arith}
use Rattle.std.specs.Prelude.{unsigned_abs}
use Rattle.std.proofs.lemmas.Int.{ints, unsigned_abs-mul, by_lt_z}
use Rattle.std.proofs.Math.IntN.{pos-*ℤ-pos}
use Rattle.std.proofs.Math.Nat.{mul-add, mul-le-mul_right}
use Rattle.std.proofs.lemmas.List.Elements.{Contains-append_left, Contains-append_right}
use Rattle.std.specs.List.{AllByRecursion as Each}
use Rattle.nz_spec.specs.Vectors.{Vector, dot, plus, minus, scaled, combination, zero_vector, HasWidth}
use Rattle.nz_spec.specs.Monoids.{IsPositive, IsIrreducible}
use Rattle.nz_spec.specs.Order.{Pairwise, HasNumber}
use Rattle.nz_spec.specs.Stages.{IsInStage}
use Rattle.nz_spec.specs.Sums.{IsInBox}
use Rattle.nz_spec.proofs.ListLaws.{Each-contains, Each-from_contains, contains_here, contains_there, contains_cases, contains_none}
use Rattle.nz_spec.proofs.SumLaws.{IsInCone-box, length-combination}
use Rattle.nz_spec.proofs.UniqueLaws.{same_or_not}
use Rattle.nz_spec.proofs.VectorLaws.{zero_or_not, length-minus}
use Rattle.nz_linear.specs.Cones.{Satisfies}
use Rattle.nz_linear.specs.Extreme.{IsPointed}
use Rattle.nz_linear.proofs.Farkas.{described, generated, cone_satisfies}
use Rattle.nz_linear.proofs.Lists.{each_map, each_append, each_of_map}
use Rattle.nz_linear.proofs.Pointed.{positive_of_pointed}
use Rattle.nz_linear.proofs.Signs.{cancel_le}
use Rattle.nz_order.proofs.CandidateLaws.{cone_split}
use Rattle.nz_order.proofs.IrreducibleLaws.{irreducible_listed}
use Rattle.nz_order.proofs.RowLaws.{whole_lattice, stage_closed, stage_zero, stage_wide}
use Rattle.nz_order.proofs.TotalLaws.{IsTotalOf-one, IsTotalOf-plus, IsTotalOf-weaker, IsTotalOf-counts}
use Rattle.nz_order.specs.Reduction.{Reduces}
use Rattle.nz_order.specs.Totals.{IsTotalOf}
use Rattle.nz_range.specs.Measures.{measure}

-- ---- all vectors up to a measure
abbrev numbers : ℕ → List ℤ
numbers zero = pos 0 ∷ []
numbers (suc n) = pos (suc n) ∷ negsuc n ∷ numbers n

number_listed : (n : ℕ) (a : ℤ) → unsigned_abs a ≤ n → Contains (numbers n) a
number_listed zero (pos zero) l = contains_here (pos 0) []
number_listed zero (pos (suc m)) l = absurd (let b : ⊥ = omega arith in b)
number_listed zero (negsuc m) l = absurd (let b : ⊥ = omega (arith, ints, l) in b)
number_listed (suc n) (pos m) l = by_lt_z (pos m) (pos (suc n))
    (λ k. contains_there (pos (suc n)) (pos m) (negsuc n ∷ numbers n) (contains_there (negsuc n) (pos m) (numbers n) (number_listed n (pos m) (omega (arith, ints, k)))))
    (λ k. let e : m ≡ suc n = omega (arith, ints, k, l) in subst (λ t. Contains (pos (suc n) ∷ negsuc n ∷ numbers n) (pos t)) (sym e) (contains_here (pos (suc n)) (negsuc n ∷ numbers n)))
number_listed (suc n) (negsuc m) l = by_lt_z (pos m) (pos n)
    (λ k. contains_there (pos (suc n)) (negsuc m) (negsuc n ∷ numbers n) (contains_there (negsuc n) (negsuc m) (numbers n) (number_listed n (negsuc m) (omega (arith, ints, k)))))
    (λ k. let e : m ≡ n = omega (arith, ints, k, l) in subst (λ t. Contains (pos (suc n) ∷ negsuc n ∷ numbers n) (negsuc t)) (sym e) (contains_there (pos (suc n)) (negsuc n) (negsuc n ∷ numbers n) (contains_here (negsuc n) (numbers n))))

abbrev with_heads : List ℤ → List Vector → List Vector
with_heads [] vs = []
with_heads (a ∷ ns) vs = map (λ x. a ∷ x) vs ++ with_heads ns vs

mapped : (a : ℤ) (vs : List Vector) (x : Vector) → Contains vs x → Contains (map (λ (y : Vector). a ∷ y) vs) (a ∷ x)
mapped a [] x c = absurd (contains_none x c)
mapped a (v ∷ vs) x c = ⊎_elim
    (λ (e : v ≡ x). subst (λ (y : Vector). Contains ((a ∷ v) ∷ map (λ (z : Vector). a ∷ z) vs) (a ∷ y)) e (contains_here (a ∷ v) (map (λ (z : Vector). a ∷ z) vs)))
    (λ k. contains_there (a ∷ v) (a ∷ x) (map (λ (z : Vector). a ∷ z) vs) (mapped a vs x k))
    (contains_cases v vs x c)

head_listed : (ns : List ℤ) (vs : List Vector) (a : ℤ) (x : Vector) → Contains ns a → Contains vs x → Contains (with_heads ns vs) (a ∷ x)
head_listed [] vs a x c k = absurd (contains_none a c)
head_listed (b ∷ ns) vs a x c k = ⊎_elim
    (λ (e : b ≡ a). Contains-append_left (map (λ (z : Vector). b ∷ z) vs) (with_heads ns vs) (a ∷ x) (subst (λ (t : ℤ). Contains (map (λ (z : Vector). b ∷ z) vs) (t ∷ x)) e (mapped b vs x k)))
    (λ h. Contains-append_right (map (λ (z : Vector). b ∷ z) vs) (with_heads ns vs) (a ∷ x) (head_listed ns vs a x h k))
    (contains_cases b ns a c)

abbrev vectors_to : ℕ → ℕ → List Vector
vectors_to zero n = [] ∷ []
vectors_to (suc w) n = with_heads (numbers n) (vectors_to w n)

vector_listed : (w n : ℕ) (x : Vector) → length x ≡ w → measure x ≤ n → Contains (vectors_to w n) x
vector_listed zero n [] l m = contains_here [] []
vector_listed zero n (a ∷ x) l m = absurd (let b : ⊥ = omega arith in b)
vector_listed (suc w) n [] l m = absurd (let b : ⊥ = omega arith in b)
vector_listed (suc w) n (a ∷ x) l m = head_listed (numbers n) (vectors_to w n) a x (number_listed n a (omega (arith, m))) (vector_listed w n x (omega arith) (omega (arith, m)))

heads_wide : (w : ℕ) (ns : List ℤ) (vs : List Vector) → Each (HasWidth w) vs → Each (HasWidth (suc w)) (with_heads ns vs)
heads_wide w [] vs h = tt
heads_wide w (a ∷ ns) vs h = each_append (HasWidth (suc w)) (map (λ (z : Vector). a ∷ z) vs) (with_heads ns vs) (each_of_map (λ (z : Vector). a ∷ z) (HasWidth (suc w)) vs (each_map (HasWidth w) (λ (z : Vector). HasWidth (suc w) (a ∷ z)) vs (λ z e. ap suc e) h)) (heads_wide w ns vs h)

vectors_wide : (w n : ℕ) → Each (HasWidth w) (vectors_to w n)
vectors_wide zero n = (refl, tt)
vectors_wide (suc w) n = heads_wide w (numbers n) (vectors_to w n) (vectors_wide w n)

-- ---- those of them that have a property, each once
among : (w : ℕ) (x : Vector) (ys : List Vector) → length x ≡ w → Each (HasWidth w) ys → Contains ys x ⊎ Each (λ y. x ≢ y) ys
among w x [] l h = inr tt
among w x (y ∷ ys) l h = elim (same_or_not x y (l ∙ sym h.0)) [
  | inl e ↦ inl (subst (Contains (y ∷ ys)) (sym e) (contains_here y ys))
  | inr n ↦ elim (among w x ys l h.1) [
    | inl c ↦ inl (contains_there y x ys c)
    | inr ns ↦ inr (n, ns)
  ]
]

record Picked (w : ℕ) (P : Vector → Type 0) (xs : List Vector) : Type 0 where
  pub list : List Vector
  pub wide : Each (HasWidth w) list
  pub different : Pairwise ◌≢◌ list
  pub only : Each P list
  pub each : (x : Vector) → Contains xs x → P x → Contains list x

picked : (w : ℕ) (P : Vector → Type 0) → ((x : Vector) → HasWidth w x → P x ⊎ (¬ P x)) → (xs : List Vector) → Each (HasWidth w) xs → Picked w P xs
picked w P can [] h = record { list = []; wide = tt; different = tt; only = tt; each = λ x c p. c }
picked w P can (x ∷ xs) h =
    let t = picked w P can xs h.1 in
    let skip : ((y : Vector) → x ≡ y → P y → Contains t.list y) → Picked w P (x ∷ xs) = λ f. record { list = t.list; wide = t.wide; different = t.different; only = t.only; each = λ y c p. ⊎_elim (λ e. f y e p) (λ k. t.each y k p) (contains_cases x xs y c) } in
    elim (can x h.0) [
      | inr n ↦ skip (λ y e p. absurd (n (subst P (sym e) p)))
      | inl p ↦ elim (among w x t.list h.0 t.wide) [
        | inl c ↦ skip (λ y e q. subst (Contains t.list) e c)
        | inr new ↦ record {
          list = x ∷ t.list;
          wide = (h.0, t.wide);
          different = (new, t.different);
          only = (p, t.only);
          each = λ y c q. ⊎_elim (λ (e : x ≡ y). subst (Contains (x ∷ t.list)) e (contains_here x t.list)) (λ k. contains_there x y t.list (t.each y k q)) (contains_cases x xs y c);
        }
      ]
    ]

-- ---- a vector of a box is not larger than its sides together
abbrev sizes : List Vector → ℕ
sizes [] = 0
sizes (v ∷ vs) = measure v + sizes vs

abs_plus : (a b : ℤ) → unsigned_abs (a +ℤ b) ≤ unsigned_abs a + unsigned_abs b
abs_plus (pos m) (pos n) = omega (arith, ints)
abs_plus (pos m) (negsuc n) = omega (arith, ints)
abs_plus (negsuc m) (pos n) = omega (arith, ints)
abs_plus (negsuc m) (negsuc n) = omega (arith, ints)

measure_plus : (x y : Vector) → measure (plus x y) ≤ measure x + measure y
measure_plus [] y = omega arith
measure_plus (a ∷ x) [] = omega arith
measure_plus (a ∷ x) (b ∷ y) = let p = abs_plus a b in let q = measure_plus x y in omega (arith, p, q)

measure_scaled : (k : ℤ) (x : Vector) → measure (scaled k x) ≡ unsigned_abs k * measure x
measure_scaled k [] = omega arith
measure_scaled k (a ∷ x) = let p = unsigned_abs-mul k a in let q = measure_scaled k x in let d = distribute (unsigned_abs k) (unsigned_abs a) (measure x) in omega (arith, p, q, d)
  where
    distribute : (k a b : ℕ) → k * (a + b) ≡ k * a + k * b
    distribute k a b = mul-add k a b

measure_zero : (w : ℕ) → measure (zero_vector w) ≡ 0
measure_zero zero = refl
measure_zero (suc w) = let z = measure_zero w in omega (arith, z)

box_size : (w : ℕ) (k : ℤ) (cs : List ℤ) (vs : List Vector) → Each (λ c. (pos 0 ≤ℤ c) × (c <ℤ k)) cs → measure (combination w cs vs) ≤ unsigned_abs k * sizes vs
box_size w k [] vs h = let z = measure_zero w in omega (arith, z)
box_size w k (c ∷ cs) [] h = let z = measure_zero w in omega (arith, z)
box_size w k (c ∷ cs) (v ∷ vs) h =
    let p = measure_plus (scaled c v) (combination w cs vs) in
    let q = measure_scaled c v in
    let r = box_size w k cs vs h.1 in
    let s = mul-le-mul_right (measure v) (abs_below c k h.0.0 h.0.1) in
    let d = distribute (unsigned_abs k) (measure v) (sizes vs) in
    omega (arith, p, q, r, s, d)
  where
    distribute : (k a b : ℕ) → k * (a + b) ≡ k * a + k * b
    distribute k a b = mul-add k a b

    abs_below : (c k : ℤ) → pos 0 ≤ℤ c → c <ℤ k → unsigned_abs c ≤ unsigned_abs k
    abs_below (pos c) (pos k) l m = omega (arith, ints, m)
    abs_below (pos c) (negsuc k) l m = absurd (let b : ⊥ = omega (arith, ints, m) in b)
    abs_below (negsuc c) k l m = absurd (let b : ⊥ = omega (arith, ints, l) in b)

box_bounded : (w : ℕ) (vs : List Vector) (x : Vector) → IsInBox w vs x → measure x ≤ sizes vs
box_bounded w vs x b =
    let m = ap measure b.same in
    let s = measure_scaled b.multiple x in
    let l = box_size w b.multiple b.factors vs b.each in
    divide (unsigned_abs b.multiple) (measure x) (sizes vs) (above b.multiple b.positive) (omega (arith, m, s, l))
  where
    above : (k : ℤ) → pos 1 ≤ℤ k → 1 ≤ unsigned_abs k
    above (pos k) l = omega (arith, ints, l)
    above (negsuc k) l = absurd (let b : ⊥ = omega (arith, ints, l) in b)

    divide : (k m n : ℕ) → 1 ≤ k → k * m ≤ k * n → m ≤ n
    divide k m n p l = let a = pos-*ℤ-pos k m in let c = pos-*ℤ-pos k n in let d = cancel_le (pos k) (pos m) (pos n) (omega (arith, ints, p)) (omega (arith, ints, a, c, l)) in omega (arith, ints, d)

-- ---- decisions
satisfied_or_not : (rows : List Vector) (x : Vector) → Satisfies rows x ⊎ (¬ Satisfies rows x)
satisfied_or_not [] x = inl tt
satisfied_or_not (r ∷ rows) x = by_lt_z (dot r x) (pos 0)
    (λ (l : dot r x <ℤ pos 0). inr (λ h. let k = h.0 in let b : ⊥ = omega (arith, ints, l, k) in b))
    (λ (l : pos 0 ≤ℤ dot r x). elim (satisfied_or_not rows x) [ inl h ↦ inl (l, h) | inr n ↦ inr (λ h. n h.1) ])

module _ (w : ℕ) (rows : List Vector) (lr : Each (HasWidth w) rows) (pt : IsPointed w rows) where
  member_or_not : (x : Vector) → HasWidth w x → IsInStage (HasWidth w) rows x ⊎ (¬ IsInStage (HasWidth w) rows x)
  member_or_not x l = elim (satisfied_or_not rows x) [ inl h ↦ inl (record { in_lattice = l; at_least = h }) | inr n ↦ inr (λ m. n m.at_least) ]

  reduces_or_not : (v u : Vector) → HasWidth w v → HasWidth w u → Reduces (IsInStage (HasWidth w) rows) v u ⊎ (¬ Reduces (IsInStage (HasWidth w) rows) v u)
  reduces_or_not v u lv lu = elim (zero_or_not v) [
    | inl z ↦ inr (λ r. r.nonzero z)
    | inr nz ↦ elim (same_or_not v u (lv ∙ sym lu)) [
      | inl e ↦ inr (λ r. r.other e)
      | inr ne ↦ elim (member_or_not (minus u v) (length-minus u v (lu ∙ sym lv) ∙ lu)) [
        | inl m ↦ inl (record { nonzero = nz; other = ne; left = m })
        | inr nm ↦ inr (λ r. nm r.left)
      ]
    ]
  ]

  none_or_some : (u : Vector) (K : List Vector) → HasWidth w u → Each (HasWidth w) K → Each (λ v. ¬ Reduces (IsInStage (HasWidth w) rows) v u) K ⊎ (¬ Each (λ v. ¬ Reduces (IsInStage (HasWidth w) rows) v u) K)
  none_or_some u [] l h = inl tt
  none_or_some u (v ∷ K) l h = elim (reduces_or_not v u h.0 l) [
    | inl r ↦ inr (λ n. n.0 r)
    | inr n ↦ elim (none_or_some u K l h.1) [ inl ns ↦ inl (n, ns) | inr f ↦ inr (λ ns. f ns.1) ]
  ]

  -- ---- the list
  pub finitely_many : (n : ℕ) × HasNumber (IsIrreducible (IsInStage (HasWidth w) rows)) n
  finitely_many =
      let Member : Vector → Type 0 = IsInStage (HasWidth w) rows in
      let d = described w rows lr in
      let gens = d.rays in
      let lg = d.is.ray_widths in
      let bound = sizes gens in
      let t = picked w Member member_or_not (vectors_to w bound) (vectors_wide w bound) in
      let K = gens ++ t.list in
      let gens_in : Each Member gens = Each-from_contains Member gens (λ g c. record { in_lattice = Each-contains (HasWidth w) gens g lg c; at_least = Each-contains (Satisfies rows) gens g d.is.sound c }) in
      let members : Each Member K = each_append Member gens t.list gens_in t.only in
      let wide : Each (HasWidth w) K = each_append (HasWidth w) gens t.list lg t.wide in
      let positive : IsPositive Member = positive_of_pointed w rows Member pt (λ x m. (m.in_lattice, m.at_least)) in
      let generate : (x : Vector) → Member x → IsTotalOf w (Contains K) x = λ x m.
      (let s = cone_split w gens lg x m.in_lattice (generated w rows gens x d.is m.in_lattice m.at_least) in
      let sum = combination w (map pos s.counts) gens in
      let wc : HasWidth w sum = length-combination w (map pos s.counts) gens lg in
      let lp : HasWidth w s.point = subst (HasWidth w) s.left (length-minus x sum (m.in_lattice ∙ sym wc) ∙ m.in_lattice) in
      let mp : Member s.point = record { in_lattice = lp; at_least = cone_satisfies w rows gens s.point d.is (IsInCone-box w gens s.point s.in_box) } in
      let cp : Contains K s.point = Contains-append_right gens t.list s.point (t.each s.point (vector_listed w bound s.point lp (box_bounded w gens s.point s.in_box)) mp) in
      subst (IsTotalOf w (Contains K)) s.same
      (IsTotalOf-plus w (Contains K) (λ v c. Each-contains (HasWidth w) K v wide c) sum s.point
      (IsTotalOf-weaker w (Contains gens) (Contains K) (λ v c. Contains-append_left gens t.list v c) sum (IsTotalOf-counts w gens s.counts lg))
      (IsTotalOf-one w (Contains K) s.point lp cp))) in
      let both = irreducible_listed Member (stage_closed w (HasWidth w) (whole_lattice w) rows) w (stage_wide w (HasWidth w) (whole_lattice w) rows) (stage_zero w (HasWidth w) (whole_lattice w) rows) positive K members generate in
      let can : (u : Vector) → HasWidth w u → IsIrreducible Member u ⊎ (¬ IsIrreducible Member u) = λ u l.
      elim (among w u K l wide) [
        | inr n ↦ inr (λ i. Each-contains (λ y. u ≢ y) K u n ((both u).0 i).0 refl)
        | inl c ↦ elim (zero_or_not u) [
          | inl z ↦ inr (λ i. i.nonzero z)
          | inr nz ↦ elim (none_or_some u K l wide) [
            | inl ns ↦ inl ((both u).1 (c, nz, ns))
            | inr f ↦ inr (λ i. f ((both u).0 i).2)
          ]
        ]
      ] in
      let p = picked w (IsIrreducible Member) can K wide in
      (length p.list, record { list = p.list; lists = record { in_order = p.different; only = p.only; each = λ x i. p.each x ((both x).0 i).0 i }; size = refl })
