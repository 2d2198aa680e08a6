-- The points of a square as a list: it is the Hilbert basis of the made file; its length and its sum.
use Rattle.std.proofs.Common.{◌≡◌, inl, inr, ℕ, zero, suc, ◌+◌, ◌*◌, ◌<◌, ◌≤◌, List, [], ◌∷◌, ◌++◌, length, ℤ, pos, ◌+ℤ◌, ◌*ℤ◌, ◌<ℤ◌, Contains, None, refl, sym, ap, ◌∙◌, subst, arith, length-append}
use Rattle.std.proofs.lemmas.Bool.{false≢true}
use Rattle.std.proofs.lemmas.Int.{ints}
use Rattle.std.specs.List.{AllByRecursion as Each}
use Rattle.nz_spec.specs.Vectors.{Vector}
use Rattle.nz_spec.specs.Order.{IsLexBefore, Pairwise, StandsBefore}
use Rattle.nz_spec.specs.Elements.{IsHilbertElement, IsHilbertBasis}
use Rattle.nz_spec.proofs.ListLaws.{contains_here, contains_there, Each-weaker, IsListOf-unique, StandsBefore-asymmetric}
use Rattle.nz_linear.proofs.Lists.{each_append}
use Rattle.nz_linear.proofs.Ring.{sums, ring_z}
use Rattle.nz_linear.proofs.Signs.{cancel_mul}
use Rattle.nz_order.proofs.SortLaws.{Pairwise-append}
use Rattle.nz_system.specs.Meaning.{system_of}
use Rattle.nz_make.specs.Squares.{made_file, point, IsPoint, sum_of_all}
use Rattle.nz_make.specs.Laws.{IsCounted}
use Rattle.nz_make.proofs.Points.{irreducible_of_point, point_of_irreducible}

-- so many points with the first entry i, from (i, j, 1) on
abbrev pub line_from : ℕ → ℕ → ℕ → List Vector
line_from i j zero = []
line_from i j (suc m) = point i j ∷ line_from i (suc j) m

-- so many lines of points, from the first entry i on
abbrev pub lines_from : ℕ → ℕ → ℕ → List Vector
lines_from n i zero = []
lines_from n i (suc m) = line_from i 0 (suc n) ++ lines_from n (suc i) m

-- the points of the square with side n
abbrev pub points : ℕ → List Vector
points n = lines_from n 0 (suc n)

-- ---- which points

-- a point of a line, at j or behind it
record IsOnLine (i j last : ℕ) (x : Vector) : Type 0 where
  at : ℕ
  from : j ≤ at
  to : at < last
  same : x ≡ point i at

-- a point of the lines from i on
record IsInLines (n i last : ℕ) (x : Vector) : Type 0 where
  row : ℕ
  at : ℕ
  from : i ≤ row
  to : row < last
  within : at ≤ n
  same : x ≡ point row at

on_line : (i j m last : ℕ) → j + m ≡ last → Each (IsOnLine i j last) (line_from i j m)
on_line i j zero last e = tt
on_line i j (suc m) last e = (
  record { at = j; from = omega arith; to = omega arith; same = refl },
  Each-weaker (IsOnLine i (suc j) last) (IsOnLine i j last) (λ x h. let l = h.from in record { at = h.at; from = omega (arith, l); to = h.to; same = h.same }) (line_from i (suc j) m) (on_line i (suc j) m last (omega arith)),
)

in_lines : (n i m last : ℕ) → i + m ≡ last → Each (IsInLines n i last) (lines_from n i m)
in_lines n i zero last e = tt
in_lines n i (suc m) last e = each_append (IsInLines n i last) (line_from i 0 (suc n)) (lines_from n (suc i) m)
    (Each-weaker (IsOnLine i 0 (suc n)) (IsInLines n i last) (λ x h. let k = h.to in record { row = i; at = h.at; from = omega arith; to = omega arith; within = omega (arith, k); same = h.same }) (line_from i 0 (suc n)) (on_line i 0 (suc n) (suc n) (omega arith)))
    (Each-weaker (IsInLines n (suc i) last) (IsInLines n i last) (λ x h. let l = h.from in record { row = h.row; at = h.at; from = omega (arith, l); to = h.to; within = h.within; same = h.same }) (lines_from n (suc i) m) (in_lines n (suc i) m last (omega arith)))

pub are_points : (n : ℕ) → Each (IsPoint n) (points n)
are_points n = Each-weaker (IsInLines n 0 (suc n)) (IsPoint n) (λ x h. let k = h.to in record { i = h.row; j = h.at; i_within = omega (arith, k); j_within = h.within; same = h.same }) (points n) (in_lines n 0 (suc n) (suc n) (omega arith))

-- ---- each point

pub contains_left : {A : Type 0} (xs ys : List A) (x : A) → Contains xs x → Contains (xs ++ ys) x
contains_left [] ys x h = absurd (let k = h.1 in let f : ⊥ = omega arith in f)
contains_left (y ∷ xs) ys x (zero, h, e) = (zero, omega arith, e)
contains_left (y ∷ xs) ys x (suc k, h, e) = contains_there y x (xs ++ ys) (contains_left xs ys x (k, omega (arith, h), e))

pub contains_right : {A : Type 0} (xs ys : List A) (x : A) → Contains ys x → Contains (xs ++ ys) x
contains_right [] ys x h = h
contains_right (y ∷ xs) ys x h = contains_there y x (xs ++ ys) (contains_right xs ys x h)

pub line_has : (i j m k at : ℕ) → j + k ≡ at → k < m → Contains (line_from i j m) (point i at)
line_has i j zero k at e h = absurd (let f : ⊥ = omega arith in f)
line_has i j (suc m) zero at e h = subst (λ (t : ℕ). Contains (line_from i j (suc m)) (point i t)) {x = j} {y = at} (omega arith) (contains_here (point i j) (line_from i (suc j) m))
line_has i j (suc m) (suc k) at e h = contains_there (point i j) (point i at) (line_from i (suc j) m) (line_has i (suc j) m k at (omega arith) (omega arith))

lines_have : (n i m k row at : ℕ) → i + k ≡ row → k < m → at ≤ n → Contains (lines_from n i m) (point row at)
lines_have n i zero k row at e h l = absurd (let f : ⊥ = omega arith in f)
lines_have n i (suc m) zero row at e h l = subst (λ (t : ℕ). Contains (lines_from n i (suc m)) (point t at)) {x = i} {y = row} (omega arith) (contains_left (line_from i 0 (suc n)) (lines_from n (suc i) m) (point i at) (line_has i 0 (suc n) at at (omega arith) (omega arith)))
lines_have n i (suc m) (suc k) row at e h l = contains_right (line_from i 0 (suc n)) (lines_from n (suc i) m) (point row at) (lines_have n (suc i) m k row at (omega arith) (omega arith) l)

pub has_point : (n : ℕ) (x : Vector) → IsPoint n x → Contains (points n) x
has_point n x p = let h = p.i_within in subst (Contains (points n)) (sym p.same) (lines_have n 0 (suc n) p.i p.i p.j (omega arith) (omega (arith, h)) p.j_within)

-- ---- in order

pub later_entry : (i j k : ℕ) → j < k → IsLexBefore (point i j) (point i k)
later_entry i j k h = inr (refl, inl (omega (arith, ints, h)))

pub later_line : (i j k l : ℕ) → i < k → IsLexBefore (point i j) (point k l)
later_line i j k l h = inl (omega (arith, ints, h))

line_in_order : (i j m : ℕ) → Pairwise IsLexBefore (line_from i j m)
line_in_order i j zero = tt
line_in_order i j (suc m) = (
  Each-weaker (IsOnLine i (suc j) (suc j + m)) (IsLexBefore (point i j)) (λ x h. let l = h.from in subst (IsLexBefore (point i j)) (sym h.same) (later_entry i j h.at (omega (arith, l)))) (line_from i (suc j) m) (on_line i (suc j) m (suc j + m) refl),
  line_in_order i (suc j) m,
)

before_lines : (n i m j : ℕ) → Each (IsLexBefore (point i j)) (lines_from n (suc i) m)
before_lines n i m j = Each-weaker (IsInLines n (suc i) (suc i + m)) (IsLexBefore (point i j)) (λ x h. let l = h.from in subst (IsLexBefore (point i j)) (sym h.same) (later_line i j h.row h.at (omega (arith, l)))) (lines_from n (suc i) m) (in_lines n (suc i) m (suc i + m) refl)

pub lines_in_order : (n i m : ℕ) → Pairwise IsLexBefore (lines_from n i m)
lines_in_order n i zero = tt
lines_in_order n i (suc m) = Pairwise-append IsLexBefore (line_from i 0 (suc n)) (lines_from n (suc i) m) (line_in_order i 0 (suc n)) (lines_in_order n (suc i) m)
    (Each-weaker (IsOnLine i 0 (suc n)) (λ x. Each (IsLexBefore x) (lines_from n (suc i) m)) (λ x h. subst (λ (t : Vector). Each (IsLexBefore t) (lines_from n (suc i) m)) (sym h.same) (before_lines n i m h.at)) (line_from i 0 (suc n)) (on_line i 0 (suc n) (suc n) (omega arith)))

-- ---- how many, and their sum

pub line_length : (i j m : ℕ) → length (line_from i j m) ≡ m
line_length i j zero = refl
line_length i j (suc m) = ap suc (line_length i (suc j) m)

pub one_more : (m k : ℕ) → suc m * k ≡ k + m * k
one_more m k = grind arith

pub lines_length : (n i m : ℕ) → length (lines_from n i m) ≡ m * suc n
lines_length n i zero = omega arith
lines_length n i (suc m) = omega (arith, length-append (line_from i 0 (suc n)) (lines_from n (suc i) m), line_length i 0 (suc n), lines_length n (suc i) m, one_more m (suc n))

sum-append : (xs ys : List Vector) → sum_of_all (xs ++ ys) ≡ sum_of_all xs +ℤ sum_of_all ys
sum-append [] ys = omega (arith, sums)
sum-append (x ∷ xs) ys = omega (arith, sums, sum-append xs ys)

line_step : (i j m s : ℤ) → pos 2 *ℤ s ≡ m *ℤ (((i +ℤ i) +ℤ ((j +ℤ pos 1) +ℤ (j +ℤ pos 1))) +ℤ (m +ℤ pos 1))
    → pos 2 *ℤ ((i +ℤ (j +ℤ (pos 1 +ℤ pos 0))) +ℤ s) ≡ (m +ℤ pos 1) *ℤ (((i +ℤ i) +ℤ (j +ℤ j)) +ℤ ((m +ℤ pos 1) +ℤ pos 1))
line_step i j m s e = let f = simp ring_z at e in simp ring_z (omega (arith, sums, f))

-- twice the sum of a line
line_sum : (i j m : ℕ) → pos 2 *ℤ sum_of_all (line_from i j m) ≡ pos m *ℤ (((pos i +ℤ pos i) +ℤ (pos j +ℤ pos j)) +ℤ (pos m +ℤ pos 1))
line_sum i j zero = omega (arith, ints)
line_sum i j (suc m) =
    let more : pos (suc m) ≡ pos m +ℤ pos 1 = omega (arith, ints) in
    let next : pos (suc j) ≡ pos j +ℤ pos 1 = omega (arith, ints) in
    let before = subst (λ (t : ℤ). pos 2 *ℤ sum_of_all (line_from i (suc j) m) ≡ pos m *ℤ (((pos i +ℤ pos i) +ℤ (t +ℤ t)) +ℤ (pos m +ℤ pos 1))) next (line_sum i (suc j) m) in
    subst (λ (t : ℤ). pos 2 *ℤ sum_of_all (line_from i j (suc m)) ≡ t *ℤ (((pos i +ℤ pos i) +ℤ (pos j +ℤ pos j)) +ℤ (t +ℤ pos 1))) (sym more) (line_step (pos i) (pos j) (pos m) (sum_of_all (line_from i (suc j) m)) before)

lines_step : (n i m s t : ℤ) → pos 2 *ℤ s ≡ n *ℤ (((i +ℤ i) +ℤ (pos 0 +ℤ pos 0)) +ℤ (n +ℤ pos 1)) → pos 2 *ℤ t ≡ (n *ℤ m) *ℤ (((i +ℤ pos 1) +ℤ (i +ℤ pos 1)) +ℤ (m +ℤ n))
    → pos 2 *ℤ (s +ℤ t) ≡ (n *ℤ (m +ℤ pos 1)) *ℤ ((i +ℤ i) +ℤ ((m +ℤ pos 1) +ℤ n))
lines_step n i m s t e f = let g = simp ring_z at e in let h = simp ring_z at f in simp ring_z (omega (arith, sums, g, h))

-- twice the sum of the lines
lines_sum : (n i m : ℕ) → pos 2 *ℤ sum_of_all (lines_from n i m) ≡ (pos (suc n) *ℤ pos m) *ℤ ((pos i +ℤ pos i) +ℤ (pos m +ℤ pos (suc n)))
lines_sum n i zero = simp ring_z (omega (arith, sums))
lines_sum n i (suc m) =
    let more : pos (suc m) ≡ pos m +ℤ pos 1 = omega (arith, ints) in
    let next : pos (suc i) ≡ pos i +ℤ pos 1 = omega (arith, ints) in
    let others = subst (λ (t : ℤ). pos 2 *ℤ sum_of_all (lines_from n (suc i) m) ≡ (pos (suc n) *ℤ pos m) *ℤ ((t +ℤ t) +ℤ (pos m +ℤ pos (suc n)))) next (lines_sum n (suc i) m) in
    ap (λ (t : ℤ). pos 2 *ℤ t) (sum-append (line_from i 0 (suc n)) (lines_from n (suc i) m))
    ∙ subst (λ (t : ℤ). pos 2 *ℤ (sum_of_all (line_from i 0 (suc n)) +ℤ sum_of_all (lines_from n (suc i) m)) ≡ (pos (suc n) *ℤ t) *ℤ ((pos i +ℤ pos i) +ℤ (t +ℤ pos (suc n)))) (sym more)
    (lines_step (pos (suc n)) (pos i) (pos m) (sum_of_all (line_from i 0 (suc n))) (sum_of_all (lines_from n (suc i) m)) (line_sum i 0 (suc n)) others)

cube : (m : ℤ) → (m *ℤ m) *ℤ ((pos 0 +ℤ pos 0) +ℤ (m +ℤ m)) ≡ pos 2 *ℤ (m *ℤ (m *ℤ m))
cube m = simp ring_z (omega (arith, sums))

points_sum : (n : ℕ) → sum_of_all (points n) ≡ pos (suc n) *ℤ (pos (suc n) *ℤ pos (suc n))
points_sum n =
    let positive : pos 0 <ℤ pos 2 = omega (arith, ints) in
    cancel_mul (pos 2) (sum_of_all (points n)) (pos (suc n) *ℤ (pos (suc n) *ℤ pos (suc n))) positive (lines_sum n 0 (suc n) ∙ cube (pos (suc n)))

products : (m : ℕ) → pos m *ℤ (pos m *ℤ pos m) ≡ pos (m * (m * m))
products m = refl

-- ---- the law

element_of_point : (n : ℕ) → 1 ≤ n → (x : Vector) → IsPoint n x → IsHilbertElement (system_of (made_file n)) x
element_of_point n l x p = record { irreducible = irreducible_of_point n l x p; level_zero = λ h. absurd (false≢true h) }

basis_of_points : (n : ℕ) → 1 ≤ n → IsHilbertBasis (system_of (made_file n)) (points n)
basis_of_points n l = record {
  in_order = lines_in_order n 0 (suc n);
  only = Each-weaker (IsPoint n) (IsHilbertElement (system_of (made_file n))) (element_of_point n l) (points n) (are_points n);
  each = λ x e. has_point n x (point_of_irreducible n l x e.irreducible);
}

pub points_counted : (n : ℕ) → 1 ≤ n → IsCounted n (points n)
points_counted n l =
    let one : suc n ≡ n + 1 = omega arith in
    record {
      basis = basis_of_points n l;
      count = lines_length n 0 (suc n) ∙ ap (λ (t : ℕ). t * t) one;
      sum = points_sum n ∙ products (suc n) ∙ ap (λ (t : ℕ). pos (t * (t * t))) one;
    }

pub basis_counted : (n : ℕ) → 1 ≤ n → (xs : List Vector) → IsHilbertBasis (system_of (made_file n)) xs → IsCounted n xs
basis_counted n l xs basis =
    let same = IsListOf-unique (StandsBefore None) (StandsBefore-asymmetric None) (IsHilbertElement (system_of (made_file n))) (points n) xs (basis_of_points n l) basis in
    subst (IsCounted n) same (points_counted n l)
