-- The crowd of a made file for the primal algorithm.
use Rattle.std.proofs.Common.{◌≡◌, ◌≢◌, inl, inr, ℕ, zero, suc, ◌+◌, ◌*◌, ◌<◌, ◌≤◌, List, [], ◌∷◌, ◌++◌, length, ℤ, pos, Contains, refl, sym, ◌∙◌, subst, arith, length-append}
use Rattle.std.proofs.lemmas.Int.{ints}
use Rattle.std.specs.List.{AllByRecursion as Each}
use Rattle.nz_spec.specs.Vectors.{Vector}
use Rattle.nz_spec.specs.Order.{Pairwise, IsLexBefore}
use Rattle.nz_spec.specs.Boxes.{IsListedOrBoxMember}
use Rattle.nz_spec.specs.Systems.{IsMember}
use Rattle.nz_spec.proofs.ListLaws.{contains_here, contains_there, Each-weaker, IsLexBefore-asymmetric}
use Rattle.nz_linear.proofs.Lists.{each_append}
use Rattle.nz_order.proofs.SortLaws.{Pairwise-append}
use Rattle.nz_measures.specs.Crowds.{IsPrimalCrowdAbove, of_held}
use Rattle.nz_measures.proofs.CrowdExamples.{at_most}
use Rattle.nz_system.specs.Meaning.{system_of}
use Rattle.nz_make.specs.Squares.{made_file, IsPoint}
use Rattle.nz_make.specs.Crowds.{primal_crowd}
use Rattle.nz_make.proofs.Listing.{points, are_points, has_point, lines_in_order, lines_length, contains_left, contains_right}
use Rattle.nz_make.proofs.Extremes.{corners_in_order, below_or_from, made_positive, extreme_corners}
use Rattle.nz_make.proofs.Boxes.{IsCorner, origin, right, upper, opposed, corner_of, factors_of_box}
use Rattle.nz_make.proofs.Inner.{IsInner, IsHeld, zero_held, point_held, inner_held, held_of_factors}
use Rattle.nz_make.proofs.HeldSums.{sum_of_held}
use Rattle.nz_make.proofs.Triangles.{inners, are_inner, has_inner, inners_different, inners_length, all_apart}

abbrev pub nothing : Vector
nothing = pos 0 ∷ pos 0 ∷ pos 0 ∷ []

-- n less 2, or 0
abbrev two_less : ℕ → ℕ
two_less zero = zero
two_less (suc zero) = zero
two_less (suc (suc k)) = k

abbrev held_vectors : ℕ → List Vector
held_vectors n = nothing ∷ (points n ++ inners n (two_less n))

-- ---- what is held is in the list

held_of_corner : (n : ℕ) (x : Vector) → IsCorner n x → IsHeld n x
held_of_corner n x (origin e) = point_held (record { i = 0; j = 0; i_within = omega arith; j_within = omega arith; same = sym e })
held_of_corner n x (right e) = point_held (record { i = n; j = 0; i_within = omega arith; j_within = omega arith; same = sym e })
held_of_corner n x (upper e) = point_held (record { i = 0; j = n; i_within = omega arith; j_within = omega arith; same = sym e })
held_of_corner n x (opposed e) = point_held (record { i = n; j = n; i_within = omega arith; j_within = omega arith; same = sym e })

held_of_sum : (n : ℕ) (x : Vector) → 1 ≤ n → IsListedOrBoxMember 3 (IsMember (system_of (made_file n))) (corners_in_order n) x → IsHeld n x
held_of_sum n x l (inl c) = held_of_corner n x (corner_of n x c)
held_of_sum n x l (inr h) = held_of_factors n x l h.member (factors_of_box n h.vectors x l h.of_list h.independent h.in_box)

at_most_two : (n : ℕ) → n ≤ two_less n + 2
at_most_two zero = omega arith
at_most_two (suc zero) = omega arith
at_most_two (suc (suc k)) = omega arith

list_has : (n : ℕ) (x : Vector) → IsHeld n x → Contains (held_vectors n) x
list_has n x (zero_held e) = subst (Contains (held_vectors n)) (sym e) (contains_here nothing (points n ++ inners n (two_less n)))
list_has n x (point_held p) = contains_there nothing x (points n ++ inners n (two_less n)) (contains_left (points n) (inners n (two_less n)) x (has_point n x p))
list_has n x (inner_held h) = contains_there nothing x (points n ++ inners n (two_less n)) (contains_right (points n) (inners n (two_less n)) x (has_inner n (two_less n) x (at_most_two n) h))

-- ---- what is in the list is held

inners_held : (n : ℕ) → 1 ≤ n → Each (IsInner n) (inners n (two_less n))
inners_held zero l = absurd (let f : ⊥ = omega (arith, l) in f)
inners_held (suc zero) l = tt
inners_held (suc (suc k)) l = are_inner (suc (suc k)) k (omega arith)

all_held : (n : ℕ) → 1 ≤ n → Each (IsHeld n) (held_vectors n)
all_held n l = (
  zero_held refl,
  each_append (IsHeld n) (points n) (inners n (two_less n))
      (Each-weaker (IsPoint n) (IsHeld n) (λ x p. point_held p) (points n) (are_points n))
      (Each-weaker (IsInner n) (IsHeld n) (λ x h. inner_held h) (inners n (two_less n)) (inners_held n l)),
)

-- ---- all different

pub different_of_order : (xs : List Vector) → Pairwise IsLexBefore xs → Pairwise ◌≢◌ xs
different_of_order [] p = tt
different_of_order (x ∷ xs) p = (
  Each-weaker (IsLexBefore x) (λ y. x ≢ y) (λ y b e. let c = subst (λ (z : Vector). IsLexBefore z z) e (subst (IsLexBefore x) (sym e) b) in IsLexBefore-asymmetric y y c c) xs p.0,
  different_of_order xs p.1,
)

third_same : (a b c a' b' c' : ℤ) → (a ∷ b ∷ c ∷ []) ≡ (a' ∷ b' ∷ c' ∷ []) → c ≡ c'
third_same a b c a' b' c' e = cc

point_not_inner : (n : ℕ) (x y : Vector) → IsPoint n x → IsInner n y → x ≢ y
point_not_inner n x y p h e = one_two (third_same (pos p.i) (pos p.j) (pos 1) _ _ (pos 2) (sym p.same ∙ e ∙ h.same))
  where
    one_two : pos 1 ≢ pos 2
    one_two e = omega (arith, ints, e)

not_nothing : (n : ℕ) → 1 ≤ n → Each (λ y. nothing ≢ y) (points n ++ inners n (two_less n))
not_nothing n l = each_append (λ y. nothing ≢ y) (points n) (inners n (two_less n))
    (Each-weaker (IsPoint n) (λ y. nothing ≢ y) (λ y p e. zero_one (third_same (pos 0) (pos 0) (pos 0) (pos p.i) (pos p.j) (pos 1) (e ∙ p.same))) (points n) (are_points n))
    (Each-weaker (IsInner n) (λ y. nothing ≢ y) (λ y h e. zero_two (third_same (pos 0) (pos 0) (pos 0) _ _ (pos 2) (e ∙ h.same))) (inners n (two_less n)) (inners_held n l))
  where
    zero_one : pos 0 ≢ pos 1
    zero_one e = omega (arith, ints, e)

    zero_two : pos 0 ≢ pos 2
    zero_two e = omega (arith, ints, e)

all_different : (n : ℕ) → 1 ≤ n → Pairwise ◌≢◌ (held_vectors n)
all_different n l = (
  not_nothing n l,
  Pairwise-append ◌≢◌ (points n) (inners n (two_less n)) (different_of_order (points n) (lines_in_order n 0 (suc n))) (inners_different n (two_less n))
      (all_apart (IsPoint n) (IsInner n) (point_not_inner n) (points n) (inners n (two_less n)) (are_points n) (inners_held n l)),
)

-- ---- how many

count : (n : ℕ) → length (held_vectors n) ≡ 1 + (suc n * suc n + 2 * (two_less n * suc (two_less n)))
count n = omega (arith, length-append (points n) (inners n (two_less n)), lines_length n 0 (suc n), inners_length n (two_less n))

sum_of_numbers : (n : ℕ) → 1 ≤ n → 1 + (suc n * suc n + 2 * (two_less n * suc (two_less n))) ≡ primal_crowd n
sum_of_numbers zero l = absurd (let f : ⊥ = omega (arith, l) in f)
sum_of_numbers (suc zero) l = refl
sum_of_numbers (suc (suc k)) l = omega (arith, square k, larger k, product k)
  where
    square : (k : ℕ) → suc (suc k) * suc (suc k) ≡ k * k + (4 * k + 4)
    square k = grind arith

    larger : (k : ℕ) → suc (suc (suc k)) * suc (suc (suc k)) ≡ k * k + (6 * k + 9)
    larger k = grind arith

    product : (k : ℕ) → k * suc k ≡ k * k + k
    product k = grind arith

held_count : (n : ℕ) → 1 ≤ n → length (held_vectors n) ≡ primal_crowd n
held_count n l = count n ∙ sum_of_numbers n l

-- ---- the law

pub primal_below : (n : ℕ) → 1 ≤ n → (m : ℕ) → m < primal_crowd n → IsPrimalCrowdAbove (system_of (made_file n)) m
primal_below n l m h = of_held (made_positive n l) (extreme_corners n l) (record {
  witnesses = held_vectors n;
  different = all_different n l;
  only = Each-weaker (IsHeld n) (IsListedOrBoxMember 3 (IsMember (system_of (made_file n))) (corners_in_order n)) (sum_of_held n l) (held_vectors n) (all_held n l);
  more = subst (λ (t : ℕ). m < t) (sym (held_count n l)) h;
})

pub primal_above : (n : ℕ) → 1 ≤ n → (m : ℕ) → IsPrimalCrowdAbove (system_of (made_file n)) m → m < primal_crowd n
primal_above n l m above = elim (below_or_from m (primal_crowd n)) [
  | inl h ↦ h
  | inr h ↦ absurd (at_most (system_of (made_file n)) m (corners_in_order n) (held_vectors n) refl (omega (arith, h, held_count n l)) (extreme_corners n l) (λ x c. list_has n x (held_of_sum n x l c)) (omega (arith, h, held_count n l)) above)
]
