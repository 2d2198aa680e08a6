-- The vectors of level 2 that are held as lists: four triangles of the same size.
use Rattle.std.proofs.Common.{◌≡◌, ◌≢◌, inl, inr, ℕ, zero, suc, ◌+◌, ◌*◌, ◌<◌, ◌≤◌, List, [], ◌∷◌, ◌++◌, length, ℤ, pos, Bool, true, false, Contains, refl, sym, ap, ◌∙◌, subst, arith, length-append}
use Rattle.std.proofs.lemmas.Int.{ints}
use Rattle.std.specs.List.{AllByRecursion as Each}
use Rattle.nz_spec.specs.Vectors.{Vector}
use Rattle.nz_spec.specs.Order.{Pairwise}
use Rattle.nz_spec.proofs.ListLaws.{contains_here, contains_there, Each-weaker}
use Rattle.nz_linear.proofs.Lists.{each_append}
use Rattle.nz_order.proofs.SortLaws.{Pairwise-append}
use Rattle.nz_make.proofs.Listing.{contains_left, contains_right}
use Rattle.nz_make.proofs.Extremes.{below_or_from}
use Rattle.nz_make.proofs.Inner.{moved, inner, IsInner}

-- moved by u and by 1 to m
abbrev pub row : Bool → Bool → ℕ → ℕ → ℕ → List Vector
row f g n u zero = []
row f g n u (suc m) = inner f g n u (suc m) ∷ row f g n u m

-- moved by u and more, m of these, with a sum of at most u + m
abbrev pub triangle : Bool → Bool → ℕ → ℕ → ℕ → List Vector
triangle f g n u zero = []
triangle f g n u (suc m) = row f g n u (suc m) ++ triangle f g n (suc u) m

-- two to one side
abbrev pub half : Bool → ℕ → ℕ → List Vector
half f n m = triangle f true n 1 m ++ triangle f false n 1 m

abbrev pub inners : ℕ → ℕ → List Vector
inners n m = half true n m ++ half false n m

-- ---- which vectors

record IsInRow (f g : Bool) (n u m : ℕ) (x : Vector) : Type 0 where
  v : ℕ
  low : 1 ≤ v
  high : v ≤ m
  same : x ≡ inner f g n u v

record IsInTriangle (f g : Bool) (n u last : ℕ) (x : Vector) : Type 0 where
  t : ℕ
  v : ℕ
  from : u ≤ t
  low : 1 ≤ v
  near : t + v ≤ last
  same : x ≡ inner f g n t v

in_row : (f g : Bool) (n u m : ℕ) → Each (IsInRow f g n u m) (row f g n u m)
in_row f g n u zero = tt
in_row f g n u (suc m) = (
  record { v = suc m; low = omega arith; high = omega arith; same = refl },
  Each-weaker (IsInRow f g n u m) (IsInRow f g n u (suc m)) (λ x h. let k = h.high in record { v = h.v; low = h.low; high = omega (arith, k); same = h.same }) (row f g n u m) (in_row f g n u m),
)

in_triangle : (f g : Bool) (n u m last : ℕ) → u + m ≡ last → Each (IsInTriangle f g n u last) (triangle f g n u m)
in_triangle f g n u zero last e = tt
in_triangle f g n u (suc m) last e = each_append (IsInTriangle f g n u last) (row f g n u (suc m)) (triangle f g n (suc u) m)
    (Each-weaker (IsInRow f g n u (suc m)) (IsInTriangle f g n u last) (λ x h. let k = h.high in record { t = u; v = h.v; from = omega arith; low = h.low; near = omega (arith, k, e); same = h.same }) (row f g n u (suc m)) (in_row f g n u (suc m)))
    (Each-weaker (IsInTriangle f g n (suc u) last) (IsInTriangle f g n u last) (λ x h. let k = h.from in record { t = h.t; v = h.v; from = omega (arith, k); low = h.low; near = h.near; same = h.same }) (triangle f g n (suc u) m) (in_triangle f g n (suc u) m last (omega (arith, e))))

inner_in_triangle : (f g : Bool) (n m : ℕ) → m + 2 ≤ n → Each (IsInner n) (triangle f g n 1 m)
inner_in_triangle f g n m l = Each-weaker (IsInTriangle f g n 1 (1 + m)) (IsInner n) (λ x h. let k = h.near in record { to_right = f; to_top = g; u = h.t; v = h.v; u_low = h.from; v_low = h.low; near = omega (arith, k, l); same = h.same }) (triangle f g n 1 m) (in_triangle f g n 1 m (1 + m) refl)

pub are_inner : (n m : ℕ) → m + 2 ≤ n → Each (IsInner n) (inners n m)
are_inner n m l = each_append (IsInner n) (half true n m) (half false n m) (of_half true) (of_half false)
  where
    of_half : (f : Bool) → Each (IsInner n) (half f n m)
    of_half f = each_append (IsInner n) (triangle f true n 1 m) (triangle f false n 1 m) (inner_in_triangle f true n m l) (inner_in_triangle f false n m l)

-- ---- each of them

row_has : (f g : Bool) (n u m v : ℕ) → 1 ≤ v → v ≤ m → Contains (row f g n u m) (inner f g n u v)
row_has f g n u zero v l h = absurd (let f : ⊥ = omega (arith, l, h) in f)
row_has f g n u (suc m) v l h = elim (below_or_from v (suc m)) [
  | inl less ↦ contains_there (inner f g n u (suc m)) (inner f g n u v) (row f g n u m) (row_has f g n u m v l (omega (arith, less)))
  | inr more ↦ subst (λ (w : ℕ). Contains (row f g n u (suc m)) (inner f g n u w)) {x = suc m} {y = v} (omega (arith, h, more)) (contains_here (inner f g n u (suc m)) (row f g n u m))
]

triangle_has : (f g : Bool) (n u m k t v : ℕ) → u + k ≡ t → 1 ≤ v → t + v ≤ u + m → Contains (triangle f g n u m) (inner f g n t v)
triangle_has f g n u zero k t v e l h = absurd (let f : ⊥ = omega (arith, e, l, h) in f)
triangle_has f g n u (suc m) zero t v e l h = contains_left (row f g n u (suc m)) (triangle f g n (suc u) m) (inner f g n t v)
    (subst (λ (w : ℕ). Contains (row f g n u (suc m)) (inner f g n w v)) {x = u} {y = t} (omega (arith, e)) (row_has f g n u (suc m) v l (omega (arith, e, h))))
triangle_has f g n u (suc m) (suc k) t v e l h = contains_right (row f g n u (suc m)) (triangle f g n (suc u) m) (inner f g n t v) (triangle_has f g n (suc u) m k t v (omega (arith, e)) l (omega (arith, h)))

half_has : (f g : Bool) (n m : ℕ) (x : Vector) → Contains (triangle f g n 1 m) x → Contains (half f n m) x
half_has f true n m x c = contains_left (triangle f true n 1 m) (triangle f false n 1 m) x c
half_has f false n m x c = contains_right (triangle f true n 1 m) (triangle f false n 1 m) x c

inners_have : (f : Bool) (n m : ℕ) (x : Vector) → Contains (half f n m) x → Contains (inners n m) x
inners_have true n m x c = contains_left (half true n m) (half false n m) x c
inners_have false n m x c = contains_right (half true n m) (half false n m) x c

-- where m is n less 2, or 0 where n is 1
pub has_inner : (n m : ℕ) (x : Vector) → n ≤ m + 2 → IsInner n x → Contains (inners n m) x
has_inner n m x l h = subst (Contains (inners n m)) (sym h.same) (found h.u h.u_low h.near)
  where
    found : (u : ℕ) → 1 ≤ u → u + h.v < n → Contains (inners n m) (inner h.to_right h.to_top n u h.v)
    found zero low near = absurd (let f : ⊥ = omega (arith, low) in f)
    found (suc u) low near = inners_have h.to_right n m (inner h.to_right h.to_top n (suc u) h.v) (half_has h.to_right h.to_top n m (inner h.to_right h.to_top n (suc u) h.v)
        (triangle_has h.to_right h.to_top n 1 m u (suc u) h.v (omega arith) h.v_low (omega (arith, near, l))))

-- ---- all different

moved_same : (f : Bool) (n u v : ℕ) → moved f n u ≡ moved f n v → u ≡ v
moved_same true n u v e = omega (arith, ints, e)
moved_same false n u v e = omega (arith, ints, e)

moved_apart : (n u v : ℕ) → 1 ≤ u → moved true n u ≢ moved false n v
moved_apart n u v l e = omega (arith, ints, l, e)

first_same : (a b c a' b' c' : ℤ) → (a ∷ b ∷ c ∷ []) ≡ (a' ∷ b' ∷ c' ∷ []) → a ≡ a'
first_same a b c a' b' c' e = cc

second_same : (a b c a' b' c' : ℤ) → (a ∷ b ∷ c ∷ []) ≡ (a' ∷ b' ∷ c' ∷ []) → b ≡ b'
second_same a b c a' b' c' e = cc

-- what has P is different from what has Q
pub all_apart : (P Q : Vector → Type 0) → ((x y : Vector) → P x → Q y → x ≢ y) → (xs ys : List Vector) → Each P xs → Each Q ys → Each (λ x. Each (λ y. x ≢ y) ys) xs
all_apart P Q f xs ys p q = Each-weaker P (λ x. Each (λ y. x ≢ y) ys) (λ x px. Each-weaker Q (λ y. x ≢ y) (λ y qy. f x y px qy) ys q) xs p

row_different : (f g : Bool) (n u m : ℕ) → Pairwise ◌≢◌ (row f g n u m)
row_different f g n u zero = tt
row_different f g n u (suc m) = (
  Each-weaker (IsInRow f g n u m) (λ y. inner f g n u (suc m) ≢ y) (λ y h e.
      let k = h.high in
      let s = moved_same g n (suc m) h.v (second_same (moved f n u) (moved g n (suc m)) (pos 2) (moved f n u) (moved g n h.v) (pos 2) (e ∙ h.same)) in
      omega (arith, k, s)) (row f g n u m) (in_row f g n u m),
  row_different f g n u m,
)

triangle_different : (f g : Bool) (n u m : ℕ) → Pairwise ◌≢◌ (triangle f g n u m)
triangle_different f g n u zero = tt
triangle_different f g n u (suc m) = Pairwise-append ◌≢◌ (row f g n u (suc m)) (triangle f g n (suc u) m) (row_different f g n u (suc m)) (triangle_different f g n (suc u) m)
    (all_apart (IsInRow f g n u (suc m)) (IsInTriangle f g n (suc u) (suc u + m)) (λ x y h k e.
    let l = k.from in
    let s = moved_same f n u k.t (first_same (moved f n u) (moved g n h.v) (pos 2) (moved f n k.t) (moved g n k.v) (pos 2) (sym h.same ∙ e ∙ k.same)) in
    omega (arith, l, s))
    (row f g n u (suc m)) (triangle f g n (suc u) m) (in_row f g n u (suc m)) (in_triangle f g n (suc u) m (suc u + m) refl))

half_different : (f : Bool) (n m : ℕ) → Pairwise ◌≢◌ (half f n m)
half_different f n m = Pairwise-append ◌≢◌ (triangle f true n 1 m) (triangle f false n 1 m) (triangle_different f true n 1 m) (triangle_different f false n 1 m)
    (all_apart (IsInTriangle f true n 1 (1 + m)) (IsInTriangle f false n 1 (1 + m)) (λ x y h k e.
    moved_apart n h.v k.v h.low (second_same (moved f n h.t) (moved true n h.v) (pos 2) (moved f n k.t) (moved false n k.v) (pos 2) (sym h.same ∙ e ∙ k.same)))
    (triangle f true n 1 m) (triangle f false n 1 m) (in_triangle f true n 1 m (1 + m) refl) (in_triangle f false n 1 m (1 + m) refl))

-- one of a half
record IsInHalf (f : Bool) (n : ℕ) (x : Vector) : Type 0 where
  to_top : Bool
  u : ℕ
  v : ℕ
  low : 1 ≤ u
  same : x ≡ inner f to_top n u v

in_half : (f : Bool) (n m : ℕ) → Each (IsInHalf f n) (half f n m)
in_half f n m = each_append (IsInHalf f n) (triangle f true n 1 m) (triangle f false n 1 m) (of_triangle true) (of_triangle false)
  where
    of_triangle : (g : Bool) → Each (IsInHalf f n) (triangle f g n 1 m)
    of_triangle g = Each-weaker (IsInTriangle f g n 1 (1 + m)) (IsInHalf f n) (λ x h. record { to_top = g; u = h.t; v = h.v; low = h.from; same = h.same }) (triangle f g n 1 m) (in_triangle f g n 1 m (1 + m) refl)

pub inners_different : (n m : ℕ) → Pairwise ◌≢◌ (inners n m)
inners_different n m = Pairwise-append ◌≢◌ (half true n m) (half false n m) (half_different true n m) (half_different false n m)
    (all_apart (IsInHalf true n) (IsInHalf false n) (λ x y h k e.
    moved_apart n h.u k.u h.low (first_same (moved true n h.u) (moved h.to_top n h.v) (pos 2) (moved false n k.u) (moved k.to_top n k.v) (pos 2) (sym h.same ∙ e ∙ k.same)))
    (half true n m) (half false n m) (in_half true n m) (in_half false n m))

-- ---- how many

row_length : (f g : Bool) (n u m : ℕ) → length (row f g n u m) ≡ m
row_length f g n u zero = refl
row_length f g n u (suc m) = ap suc (row_length f g n u m)

-- twice the number of a triangle
triangle_length : (f g : Bool) (n u m : ℕ) → 2 * length (triangle f g n u m) ≡ m * suc m
triangle_length f g n u zero = refl
triangle_length f g n u (suc m) = omega (arith, length-append (row f g n u (suc m)) (triangle f g n (suc u) m), row_length f g n u (suc m), triangle_length f g n (suc u) m, next m)
  where
    next : (m : ℕ) → suc m * suc (suc m) ≡ m * suc m + 2 * suc m
    next m = grind arith

pub inners_length : (n m : ℕ) → length (inners n m) ≡ 2 * (m * suc m)
inners_length n m = omega (arith, length-append (half true n m) (half false n m), of_half true, of_half false)
  where
    of_half : (f : Bool) → length (half f n m) ≡ m * suc m
    of_half f = omega (arith, length-append (triangle f true n 1 m) (triangle f false n 1 m), triangle_length f true n 1 m, triangle_length f false n 1 m)
