-- The crowd of a made file for the dual algorithm.
use Rattle.std.proofs.Common.{◌≡◌, inl, inr, ℕ, zero, suc, ◌+◌, ◌*◌, ◌<◌, ◌≤◌, List, [], ◌∷◌, ◌++◌, length, take, ℤ, pos, ◌+ℤ◌, ◌*ℤ◌, ◌≤ℤ◌, ◌<ℤ◌, Contains, refl, sym, ap, ◌∙◌, subst, subst₂, arith}
use Rattle.std.proofs.lemmas.Int.{ints, by_lt_z}
use Rattle.std.proofs.Math.IntN.{*ℤ-zero}
use Rattle.nz_spec.specs.Vectors.{Vector}
use Rattle.nz_spec.specs.Sums.{HasRank}
use Rattle.nz_spec.specs.Boxes.{IsListedOrBoxMember}
use Rattle.nz_spec.specs.Order.{MoreThan}
use Rattle.nz_spec.specs.Monoids.{IsIrreducible}
use Rattle.nz_spec.specs.Stages.{IsInLattice, IsInStage, IsInReversed}
use Rattle.nz_spec.proofs.IntLaws.{nonneg_of_mul}
use Rattle.nz_spec.proofs.ListLaws.{contains_here, contains_there, contains_cases, contains_none, Each-contains, Each-from_contains, Each-weaker, different_within}
use Rattle.nz_spec.proofs.LinearLaws.{HasRank-unique}
use Rattle.nz_linear.specs.DualPairs.{Pair, pair_of, IsDualPair}
use Rattle.nz_linear.proofs.Ring.{sums, mul-one}
use Rattle.nz_linear.proofs.Signs.{cancel_lt}
use Rattle.nz_further.specs.Certificates.{IsReducedAt}
use Rattle.nz_further.proofs.StartCrowds.{box_member_reduced}
use Rattle.nz_measures.specs.Stages.{AreFirstRays}
use Rattle.nz_measures.specs.Crowds.{HaveStagesAbove, IsDualCrowdAbove, dual_line, of_stages, of_first, of_first_stage, of_stage, of_reversed}
use Rattle.nz_system.specs.Meaning.{system_of}
use Rattle.nz_make.specs.Squares.{made_file, point, IsPoint}
use Rattle.nz_make.specs.Crowds.{dual_crowd}
use Rattle.nz_make.proofs.Cones.{three, three_same}
use Rattle.nz_make.proofs.Points.{whole}
use Rattle.nz_make.proofs.Listing.{points, line_from, are_points, has_point, line_has, line_length, lines_length, lines_in_order}
use Rattle.nz_make.proofs.Extremes.{below_or_from, made_positive}
use Rattle.nz_make.proofs.PrimalCrowds.{nothing, different_of_order}
use Rattle.nz_make.proofs.Fans.{IsFanElement, back, is_back, on_side}
use Rattle.nz_make.proofs.SupportRows.{right_form, top_form, bottom_form, left_form, made_rows, rows_listed, rows_same, no_equations, equations_none}
use Rattle.nz_make.proofs.MadeStages.{MadeLattice, first_rows, first_rays, lattice_rank, ordered_same, first_irreducible, reversed_irreducible, first_rays_are, rays_same, last_is_later, later_same, stage_of_point, point_of_stage}

-- ---- the first stage holds 0, the vector (-1, 0, 0) and the points of one side

abbrev fan_elements : ℕ → ℕ → List Vector
fan_elements n e = back ∷ line_from e 0 (suc n)

abbrev first_held : ℕ → List Vector
first_held n = nothing ∷ fan_elements n n

has_element : (n e : ℕ) (x : Vector) → IsFanElement n e x → Contains (fan_elements n e) x
has_element n e x (is_back s) = subst (Contains (fan_elements n e)) (sym s) (contains_here back (line_from e 0 (suc n)))
has_element n e x (on_side j h s) = subst (Contains (fan_elements n e)) (sym s) (contains_there back (point e j) (line_from e 0 (suc n)) (line_has e 0 (suc n) j j (omega arith) (omega (arith, h))))

holds_element : (n : ℕ) (x : Vector) → IsFanElement n n x → Contains (first_held n) x
holds_element n x e = contains_there nothing x (fan_elements n n) (has_element n n x e)

-- each of the first rows with the ray at which it is positive
abbrev first_pairs : ℕ → List Pair
first_pairs n = pair_of (right_form n) back ∷ pair_of (top_form n) (point n 0) ∷ pair_of bottom_form (point n n) ∷ []

first_pairs_dual : (n : ℕ) → 1 ≤ n → IsDualPair 3 (first_pairs n)
first_pairs_dual n l = record {
  widths = (record { form_width = refl; vector_width = refl }, (record { form_width = refl; vector_width = refl }, (record { form_width = refl; vector_width = refl }, tt)));
  dual = (
    omega (arith, ints),
    (record { there = omega (arith, ints); back = omega (arith, ints) }, (record { there = omega (arith, ints); back = omega (arith, ints) }, tt)),
    (omega (arith, ints, l), (record { there = omega (arith, ints); back = omega (arith, ints) }, tt), (omega (arith, ints, l), tt, tt)),
  );
}

-- what a vector of the box has as its entries: the first is n times the last, and the second and what it lacks to this are below n
record IsNearSide (n a b c : ℤ) : Type 0 where
  on_side : a ≡ n *ℤ c
  low : pos 0 ≤ℤ b
  short : b <ℤ n
  high : b ≤ℤ (n *ℤ c)
  lack : (n *ℤ c) <ℤ (n +ℤ b)

near_side : (n : ℕ) (a b c : ℤ) → IsReducedAt (first_pairs n) (a ∷ b ∷ c ∷ []) → IsNearSide (pos n) a b c
near_side n a b c r =
    let h0 = r.0.0 in
    let h1 = r.0.1 in
    let t0 = r.1.0.0 in
    let t1 = r.1.0.1 in
    let b0 = r.1.1.0.0 in
    let b1 = r.1.1.0.1 in
    record { on_side = omega (arith, ints, h0, h1); low = omega (arith, ints, b0); short = omega (arith, ints, b1); high = omega (arith, ints, t0); lack = omega (arith, ints, t1) }

held_by_entries : (n : ℕ) (a b c : ℤ) → 1 ≤ n → IsNearSide (pos n) a b c → Contains (first_held n) (a ∷ b ∷ c ∷ [])
held_by_entries n a b c l s =
    let low = s.low in
    let high = s.high in
    let c0 = nonneg_of_mul (pos n) c (omega (arith, ints, l)) (omega (arith, sums, low, high)) in
    by_lt_z c (pos 1)
    (λ (less : c <ℤ pos 1). at_zero (omega (arith, ints, less, c0)))
    (λ (more : pos 1 ≤ℤ c). at_one (omega (arith, ints, more, below_two)))
  where
    below_two : c <ℤ pos 2
    below_two =
        let short = s.short in
        let lack = s.lack in
        let t : pos n *ℤ pos 2 ≡ pos n +ℤ pos n = omega (arith, ints) in
        cancel_lt (pos n) c (pos 2) (omega (arith, ints, l)) (omega (arith, sums, short, lack, t))

    at_zero : c ≡ pos 0 → Contains (first_held n) (a ∷ b ∷ c ∷ [])
    at_zero z =
        let f = ap (λ (t : ℤ). pos n *ℤ t) z ∙ *ℤ-zero (pos n) in
        let low = s.low in
        let high = s.high in
        subst (Contains (first_held n)) (sym (three_same (s.on_side ∙ f) (omega (arith, sums, low, high, f)) z)) (contains_here nothing (fan_elements n n))

    at_one : c ≡ pos 1 → Contains (first_held n) (a ∷ b ∷ c ∷ [])
    at_one o =
        let f = ap (λ (t : ℤ). pos n *ℤ t) o ∙ mul-one (pos n) in
        let high = s.high in
        let j = whole n b s.low (omega (arith, sums, high, f)) in
        holds_element n (a ∷ b ∷ c ∷ []) (on_side j.0 j.1 (three_same (s.on_side ∙ f) j.2 o))

ray_held : (n : ℕ) (x : Vector) → Contains (first_rays n) x → Contains (first_held n) x
ray_held n x c = elim (contains_cases back (point n 0 ∷ point n n ∷ []) x c) [
  | inl e ↦ holds_element n x (is_back (sym e))
  | inr d ↦ elim (contains_cases (point n 0) (point n n ∷ []) x d) [
    | inl e ↦ holds_element n x (on_side 0 (omega arith) (sym e))
    | inr f ↦ elim (contains_cases (point n n) [] x f) [ inl e ↦ holds_element n x (on_side n (omega arith) (sym e)) | inr g ↦ absurd (contains_none x g) ]
  ]
]

first_stage_held : (n : ℕ) (x : Vector) → 1 ≤ n → IsListedOrBoxMember 3 (IsInStage (MadeLattice n) (first_rows n)) (first_rays n) x → Contains (first_held n) x
first_stage_held n x l (inl c) = ray_held n x c
first_stage_held n x l (inr b) =
    let u = three x b.member.in_lattice.width in
    let r = box_member_reduced 3 (first_pairs n) (first_pairs_dual n l) (IsInStage (MadeLattice n) (first_rows n)) x b in
    subst (Contains (first_held n)) (sym u.3) (held_by_entries n u.0 u.1 u.2 l (near_side n u.0 u.1 u.2 (subst (IsReducedAt (first_pairs n)) u.3 r)))

-- ---- how many

-- no more than so many are in the list
few_in : (m : ℕ) (all : List Vector) (P : Vector → Type 0) → ((x : Vector) → P x → Contains all x) → length all ≤ m → ¬ MoreThan m P
few_in m all P f l more =
    let few = different_within more.witnesses all more.different (Each-from_contains (Contains all) more.witnesses (λ x c. f x (Each-contains P more.witnesses x more.only c))) in
    let k = more.more in
    omega (arith, few, k, l)

-- n + 3 is at most this
held_fit : (n : ℕ) → 1 ≤ n → suc (suc (suc n)) ≤ dual_crowd n
held_fit zero l = absurd (let f : ⊥ = omega (arith, l) in f)
held_fit (suc k) l = omega (arith, square k)
  where
    square : (k : ℕ) → (suc k + 1) * (suc k + 1) ≡ k * k + (4 * k + 4)
    square k = grind arith

elements_fit : (n e m : ℕ) → 1 ≤ n → dual_crowd n ≤ m → suc (length (fan_elements n e)) ≤ m
elements_fit n e m l h = omega (arith, h, held_fit n l, line_length e 0 (suc n))

points_count : (n : ℕ) → length (points n) ≡ dual_crowd n
points_count n = lines_length n 0 (suc n) ∙ ap (λ (t : ℕ). t * t) {x = suc n} {y = n + 1} (omega arith)

-- ---- no stage has more

module _ (n m : ℕ) (l : 1 ≤ n) (h : dual_crowd n ≤ m) where
  first_not_above : (ordered F : List Vector) → AreFirstRays (MadeLattice n) 3 (made_rows n) ordered F → ¬ MoreThan m (IsListedOrBoxMember 3 (IsInStage (MadeLattice n) (take 3 ordered)) F)
  first_not_above ordered F r more = few_in m (first_held n) (IsListedOrBoxMember 3 (IsInStage (MadeLattice n) (first_rows n)) (first_rays n)) (λ x c. first_stage_held n x l c) (elements_fit n n m l h)
      (subst₂ (λ (os G : List Vector). MoreThan m (IsListedOrBoxMember 3 (IsInStage (MadeLattice n) (take 3 os)) G)) (ordered_same n ordered F l r) (rays_same n ordered F l r) more)

  first_stage_not_above : (ordered F : List Vector) → AreFirstRays (MadeLattice n) 3 (made_rows n) ordered F → ¬ MoreThan m (IsIrreducible (IsInStage (MadeLattice n) (take 3 ordered)))
  first_stage_not_above ordered F r more = few_in m (first_held n) (IsIrreducible (IsInStage (MadeLattice n) (first_rows n))) (λ x i. holds_element n x (first_irreducible n x l i)) (elements_fit n n m l h)
      (subst (λ (os : List Vector). MoreThan m (IsIrreducible (IsInStage (MadeLattice n) (take 3 os)))) (ordered_same n ordered F l r) more)

  last_not_above : (earlier : List Vector) (last : Vector) → (earlier ≡ first_rows n) × (last ≡ left_form) → ¬ MoreThan m (IsIrreducible (IsInStage (MadeLattice n) (earlier ++ last ∷ [])))
  last_not_above earlier last e more = few_in m (points n) (IsIrreducible (IsInStage (MadeLattice n) (made_rows n))) (λ x i. has_point n x (point_of_stage n x l i)) (omega (arith, h, points_count n))
      (subst₂ (λ (rows : List Vector) (row : Vector). MoreThan m (IsIrreducible (IsInStage (MadeLattice n) (rows ++ row ∷ [])))) e.0 e.1 more)

  reversed_not_above : (earlier : List Vector) (last : Vector) → (earlier ≡ first_rows n) × (last ≡ left_form) → ¬ MoreThan m (IsIrreducible (IsInReversed (MadeLattice n) earlier last))
  reversed_not_above earlier last e more = few_in m (fan_elements n 0) (IsIrreducible (IsInReversed (MadeLattice n) (first_rows n) left_form)) (λ x i. has_element n 0 x (reversed_irreducible n x l i)) (let f = elements_fit n 0 m l h in omega (arith, f))
      (subst₂ (λ (rows : List Vector) (row : Vector). MoreThan m (IsIrreducible (IsInReversed (MadeLattice n) rows row))) e.0 e.1 more)

  at_rank : HaveStagesAbove m 3 (MadeLattice n) 3 (made_rows n) → ⊥
  at_rank (of_first {ordered = ordered} {F = F} r more) = first_not_above ordered F r more
  at_rank (of_first_stage {ordered = ordered} {F = F} r more) = first_stage_not_above ordered F r more
  at_rank (of_stage {ordered = ordered} {F = F} {earlier = earlier} {last = last} r k more) = last_not_above earlier last (later_same n ordered earlier last (ordered_same n ordered F l r) k) more
  at_rank (of_reversed {ordered = ordered} {F = F} {earlier = earlier} {last = last} r k more) = reversed_not_above earlier last (later_same n ordered earlier last (ordered_same n ordered F l r) k) more

  stages_not_above : (r : ℕ) → HasRank 3 (MadeLattice n) r → HaveStagesAbove m 3 (MadeLattice n) r (made_rows n) → ⊥
  stages_not_above r k above = at_rank (subst (λ (t : ℕ). HaveStagesAbove m 3 (MadeLattice n) t (made_rows n)) (HasRank-unique 3 (MadeLattice n) r 3 (λ x i. i.width) k (lattice_rank n)) above)

  not_above : IsDualCrowdAbove (system_of (made_file n)) m → ⊥
  not_above (dual_line {v = v} line small) = made_positive n l v line
  not_above (of_stages {equations = eqs} {rows = rows} {r = r} p e a k above) =
      let no_eqs = equations_none n eqs l e in
      let same = rows_same n rows l a in
      stages_not_above r (subst (λ (es : List Vector). HasRank 3 (IsInLattice (system_of (made_file n)) es) r) no_eqs k)
      (subst₂ (λ (es rs : List Vector). HaveStagesAbove m 3 (IsInLattice (system_of (made_file n)) es) r rs) no_eqs same above)

-- ---- the law

pub dual_below : (n : ℕ) → 1 ≤ n → (m : ℕ) → m < dual_crowd n → IsDualCrowdAbove (system_of (made_file n)) m
dual_below n l m h = of_stages {equations = []} {rows = made_rows n} {r = 3} (made_positive n l) (no_equations n l) (rows_listed n l) (lattice_rank n)
    (of_stage {ordered = made_rows n} {F = first_rays n} {earlier = first_rows n} {last = left_form} (first_rays_are n l) (last_is_later n) (record {
      witnesses = points n;
      different = different_of_order (points n) (lines_in_order n 0 (suc n));
      only = Each-weaker (IsPoint n) (IsIrreducible (IsInStage (MadeLattice n) (made_rows n))) (λ x p. stage_of_point n x l p) (points n) (are_points n);
      more = subst (λ (t : ℕ). m < t) (sym (points_count n)) h;
    }))

pub dual_above : (n : ℕ) → 1 ≤ n → (m : ℕ) → IsDualCrowdAbove (system_of (made_file n)) m → m < dual_crowd n
dual_above n l m above = elim (below_or_from m (dual_crowd n)) [
  | inl h ↦ h
  | inr h ↦ absurd (not_above n m l h above)
]
