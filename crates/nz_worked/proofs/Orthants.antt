-- The vectors with entries of at least 0: the unit vectors are their irreducible elements and extreme generators, and no other vector but 0 is in a box of these.
use Rattle.std.proofs.Common.{◌≡◌, ◌⊎◌, inl, inr, ℕ, zero, suc, List, [], ◌∷◌, length, ℤ, pos, negsuc, ◌+ℤ◌, ◌-ℤ◌, ◌*ℤ◌, ◌≤ℤ◌, ◌<ℤ◌, Contains, subst, ap, sym, refl, ◌∙◌, arith}
use Rattle.std.proofs.lemmas.Int.{ints}
use Rattle.std.specs.List.{AllByRecursion as Each}
use Rattle.nz_spec.specs.Vectors.{Vector, dot, plus, scaled, opposite, combination, zero_vector, unit_vectors, HasWidth, IsZero}
use Rattle.nz_spec.specs.Sums.{IsInBox, IsIndependent, HasRank}
use Rattle.nz_spec.specs.Boxes.{IsListedOrBoxMember}
use Rattle.nz_spec.specs.Monoids.{IsPositive, IsExtreme, IsIrreducible}
use Rattle.nz_spec.proofs.ListLaws.{contains_here, contains_there, Each-weaker, Each-contains}
use Rattle.nz_spec.proofs.IntLaws.{nonneg_of_mul, mul-sub}
use Rattle.nz_spec.proofs.CoverExamples.{pos_of_mul}
use Rattle.nz_spec.proofs.VectorLaws.{dot-scaled, one-scaled, zero_vector_of, zero_or_not, IsZero-zero_vector}
use Rattle.nz_spec.proofs.SumLaws.{length-zero_vector}
use Rattle.nz_linear.proofs.VectorLaws.{plus-zero, zero-scaled}
use Rattle.nz_linear.specs.Elimination.{unit_pairs}
use Rattle.nz_linear.proofs.Elimination.{all_of_width, complete_of}
use Rattle.nz_linear.proofs.EliminationRun.{start_state, unit_only_zero}
use Rattle.nz_linear.proofs.Dependence.{complete_length}
use Rattle.nz_linear.proofs.Rank.{rank_of_dual}
use Rattle.nz_order.specs.Boxes.{NonNegative}
use Rattle.nz_further.proofs.StartCrowds.{independent_different}
use Rattle.nz_worked.proofs.Units.{IsUnit, each_unit, unit_listed, unit_wide, zeros_nonneg, unit_nonneg, unit_nonzero, zero_at_units, splits_off, ArePartsOf, unit_parts, unit_in_box}

-- the set of the vectors of a width with entries of at least 0, whatever it is called
pub record IsOrthant (w : ℕ) (Member : Vector → Type 0) : Type 0 where
  pub into : (x : Vector) → HasWidth w x → NonNegative x → Member x
  pub wide : (x : Vector) → Member x → HasWidth w x
  pub nonneg : (x : Vector) → Member x → NonNegative x

-- what times k is less than k is 0
pub below_one : (k t : ℤ) → pos 1 ≤ℤ k → pos 0 ≤ℤ (k *ℤ t) → (k *ℤ t) <ℤ k → t ≡ pos 0
below_one k t h low high =
    let a = nonneg_of_mul k t h low in
    let d = mul-sub k (pos 1) t in
    let b = pos_of_mul k (pos 1 -ℤ t) h (omega (arith, ints, d, high)) in
    omega (arith, ints, a, b)

-- a vector in a box of unit vectors is 0
pub box_zero : (w : ℕ) (vs : List Vector) (x : Vector) → HasWidth w x → Each (IsUnit w) vs → IsIndependent w vs → IsInBox w vs x → IsZero x
box_zero w vs x l units free h = zero_at_units w x l value
  where
    wide : Each (HasWidth w) vs
    wide = Each-weaker (IsUnit w) (HasWidth w) (unit_wide w) vs units

    value : (u : Vector) → IsUnit w u → dot u x ≡ pos 0
    value u i =
        let b = unit_in_box w h.multiple u h.factors vs h.positive i units wide (independent_different w vs wide free) h.each in
        let e : dot u (combination w h.factors vs) ≡ h.multiple *ℤ dot u x = ap (dot u) h.same ∙ dot-scaled u h.multiple x in
        below_one h.multiple (dot u x) h.positive (subst (λ (t : ℤ). pos 0 ≤ℤ t) e b.0) (subst (λ (t : ℤ). t <ℤ h.multiple) e b.1)

-- a number and its negative are at least 0
both_signs : (x : Vector) → NonNegative x → NonNegative (opposite x) → IsZero x
both_signs [] n m = tt
both_signs (a ∷ x) n m = (let p = n.0 in let q = m.0 in omega (arith, ints, p, q), both_signs x n.1 m.1)

module _ (w : ℕ) (Member : Vector → Type 0) (o : IsOrthant w Member) where
  pub orthant_positive : IsPositive Member
  orthant_positive v line = line.nonzero (both_signs v (o.nonneg v line.forward) (o.nonneg (opposite v) line.backward))

  pub irreducible_unit : (x : Vector) → IsIrreducible Member x → IsUnit w x
  irreducible_unit x i = elim (splits_off w x (o.wide x i.member) (o.nonneg x i.member)) [
    | inl z ↦ absurd (i.nonzero z)
    | inr s ↦ elim (zero_or_not s.rest) [
      | inl z ↦ subst (IsUnit w) (sym (plus-zero w s.unit (unit_wide w s.unit s.is_unit)) ∙ ap (plus s.unit) (sym (zero_vector_of s.rest z ∙ ap zero_vector s.wide)) ∙ s.same) s.is_unit
      | inr n ↦ absurd (i.no_sum s.unit s.rest (o.into s.unit (unit_wide w s.unit s.is_unit) (unit_nonneg w s.unit s.is_unit)) (unit_nonzero w s.unit s.is_unit) (o.into s.rest s.wide s.nonneg) n s.same)
    ]
  ]

  -- two numbers of at least 0 with the sum 1
  one_of : (a b : ℤ) → pos 0 ≤ℤ a → pos 0 ≤ℤ b → a +ℤ b ≡ pos 1 → (a ≡ pos 0) ⊎ (b ≡ pos 0)
  one_of (pos zero) b h k e = inl refl
  one_of (pos (suc n)) b h k e = inr (omega (arith, ints, e, k))
  one_of (negsuc n) b h k e = absurd (omega (arith, ints, h))

  parts : (m : ℤ) (u a b : Vector) → IsUnit w u → Member a → Member b → plus a b ≡ scaled m u → ArePartsOf m u a b
  parts m u a b i ma mb e = unit_parts w m u a b i (o.wide a ma) (o.wide b mb) (o.nonneg a ma) (o.nonneg b mb) e

  none_of : (u a : Vector) (t : ℤ) → IsUnit w u → a ≡ scaled t u → t ≡ pos 0 → IsZero a
  none_of u a t i e z = subst IsZero (sym (e ∙ ap (λ (k : ℤ). scaled k u) z ∙ zero-scaled w u (unit_wide w u i))) (IsZero-zero_vector w)

  pub unit_extreme : (u : Vector) → IsUnit w u → IsExtreme Member u
  unit_extreme u i = record {
    irreducible = record {
      member = o.into u (unit_wide w u i) (unit_nonneg w u i);
      nonzero = unit_nonzero w u i;
      no_sum = λ y z my ny mz nz e.
          let p = parts (pos 1) u y z i my mz (e ∙ sym (one-scaled u)) in
          elim (one_of p.first p.second p.first_nonneg p.second_nonneg p.total) [
            | inl k ↦ ny (none_of u y p.first i p.first_same k)
            | inr k ↦ nz (none_of u z p.second i p.second_same k)
          ];
    };
    splits_along = λ m a b pm ma mb e.
        let p = parts m u a b i ma mb e in
        (record { multiple = pos 1; factor = p.first; positive = omega (arith, ints); same = one-scaled a ∙ p.first_same }, record { multiple = pos 1; factor = p.second; positive = omega (arith, ints); same = one-scaled b ∙ p.second_same });
  }

  -- of unit vectors, what is held is 0 and they
  pub held_of_units : (X : List Vector) (x : Vector) → Each (IsUnit w) X → IsListedOrBoxMember w Member X x → Contains (zero_vector w ∷ unit_vectors w) x
  held_of_units X x u (inl c) = contains_there (zero_vector w) x (unit_vectors w) (unit_listed w x (Each-contains (IsUnit w) X x u c))
  held_of_units X x u (inr h) =
      let l = o.wide x h.member in
      let z = box_zero w h.vectors x l (Each-weaker (Contains X) (IsUnit w) (λ v c. Each-contains (IsUnit w) X v u c) h.vectors h.of_list) h.independent h.in_box in
      subst (Contains (zero_vector w ∷ unit_vectors w)) (sym (zero_vector_of x z ∙ ap zero_vector l)) (contains_here (zero_vector w) (unit_vectors w))

  none_free : (fs : List ℤ) → length fs ≡ 0 → IsZero fs
  none_free [] l = tt
  none_free (f ∷ fs) l = absurd (omega (arith, l))

  zero_in_box : IsInBox w [] (zero_vector w)
  zero_in_box = record { multiple = pos 1; factors = []; positive = omega (arith, ints); one_each = refl; each = tt; same = sym (one-scaled (zero_vector w)) }

  zero_held : (X : List Vector) → IsListedOrBoxMember w Member X (zero_vector w)
  zero_held X = inr (record { member = o.into (zero_vector w) (length-zero_vector w) (zeros_nonneg w); vectors = []; of_list = tt; independent = λ fs l z. none_free fs l; in_box = zero_in_box })

  pub units_held : (X : List Vector) → ((u : Vector) → IsUnit w u → Contains X u) → Each (IsListedOrBoxMember w Member X) (zero_vector w ∷ unit_vectors w)
  units_held X c = (zero_held X, Each-weaker (IsUnit w) (IsListedOrBoxMember w Member X) (λ u i. inl (c u i)) (unit_vectors w) (each_unit w))

-- all vectors of a width have it as their rank
pub whole_rank : (w : ℕ) → HasRank w (HasWidth w) w
whole_rank w =
    let s = start_state w in
    subst (HasRank w (HasWidth w)) (complete_length w (unit_pairs w) s.pair (unit_only_zero w)) (rank_of_dual w (HasWidth w) (unit_pairs w) (all_of_width w) s.pair (complete_of w (unit_pairs w) s.pair.widths (unit_only_zero w)))
