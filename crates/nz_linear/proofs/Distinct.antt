-- The new rays of a step differ: a sum of an adjacent pair is no old ray, and two sums are the same only if their pairs are.
use Rattle.std.proofs.Common.{◌≡◌, ◌≢◌, ◌⊎◌, inl, inr, List, [], ◌∷◌, ◌++◌, length, ℕ, pos, ◌*ℤ◌, neg_ℤ, ◌≤ℤ◌, ◌<ℤ◌, sym, ap, ◌∙◌, subst, arith}
use Rattle.std.proofs.Math.IntN.{*ℤ-zero}
use Rattle.std.specs.List.{AllByRecursion as Each, AllZip, Contains}
use Rattle.nz_spec.specs.Vectors.{Vector, HasWidth, dot}
use Rattle.nz_spec.proofs.ListLaws.{Each-contains}
use Rattle.nz_linear.specs.Cones.{Satisfies, meet}
use Rattle.nz_linear.specs.Division.{IsPrimitiveOf}
use Rattle.nz_spec.specs.Order.{Pairwise}
use Rattle.nz_linear.specs.DoubleDescription.{AreAdjacent}
use Rattle.nz_linear.specs.RayStep.{RayPair, IsAdjacentPair}
use Rattle.nz_linear.proofs.Ring.{cross_gone, sums}
use Rattle.nz_linear.proofs.Signs.{mul_is_zero}
use Rattle.nz_linear.proofs.Lists.{each_all, each_append, each_map, each_map2}
use Rattle.nz_linear.proofs.DoubleDescription.{meet_at, both_vanish}
use Rattle.nz_linear.proofs.RaySteps.{primitive_value}

-- where p and n vanish the primitive vector of their sum does
sum_vanishes : (w : ℕ) (h p n x a : Vector) → length p ≡ w → length n ≡ w → IsPrimitiveOf (meet h p n) x → dot a p ≡ pos 0 → dot a n ≡ pos 0 → dot a x ≡ pos 0
sum_vanishes w h p n x a lp ln i e f =
    mul_is_zero i.factor (dot a x) i.positive (primitive_value (meet h p n) x i a ∙ meet_at w h p n a lp ln ∙ omega (arith, sums, ap (λ t. dot h p *ℤ t) f, ap (λ t. neg_ℤ (dot h n) *ℤ t) e, *ℤ-zero (dot h p), *ℤ-zero (neg_ℤ (dot h n))))

-- h vanishes at it
sum_at : (w : ℕ) (h p n x : Vector) → length p ≡ w → length n ≡ w → IsPrimitiveOf (meet h p n) x → dot h x ≡ pos 0
sum_at w h p n x lp ln i = mul_is_zero i.factor (dot h x) i.positive (primitive_value (meet h p n) x i h ∙ meet_at w h p n h lp ln ∙ cross_gone (dot h p) (dot h n))

pub sum_not_old : (w : ℕ) (h : Vector) (rows rays : List Vector) (p n x : Vector) → length p ≡ w → length n ≡ w → dot h n <ℤ pos 0 → pos 0 <ℤ dot h p → AreAdjacent rows rays p n → IsPrimitiveOf (meet h p n) x → ¬ Contains rays x
sum_not_old w h rows rays p n x lp ln un up adj i k =
    let z = sum_at w h p n x lp ln i in
    let v : Each (λ a. dot a p ≡ pos 0 → dot a n ≡ pos 0 → dot a x ≡ pos 0) rows = each_all (λ a. dot a p ≡ pos 0 → dot a n ≡ pos 0 → dot a x ≡ pos 0) rows (λ a e f. sum_vanishes w h p n x a lp ln i e f) in
    elim (Each-contains (λ r. Each (λ a. dot a p ≡ pos 0 → dot a n ≡ pos 0 → dot a r ≡ pos 0) rows → (r ≡ p) ⊎ (r ≡ n)) rays x adj k v) [
      | inl e ↦ (let f = ap (dot h) e in omega (arith, sums))
      | inr e ↦ (let f = ap (dot h) e in omega (arith, sums))
    ]

pub sums_differ : (w : ℕ) (h : Vector) (rows rays : List Vector) (p n q m x : Vector) → length p ≡ w → length n ≡ w → length q ≡ w → length m ≡ w → dot h n <ℤ pos 0 → pos 0 <ℤ dot h p → dot h m <ℤ pos 0 → pos 0 <ℤ dot h q
    → Contains rays q → Contains rays m → Satisfies rows q → Satisfies rows m → AreAdjacent rows rays p n → IsPrimitiveOf (meet h p n) x → IsPrimitiveOf (meet h q m) x → (q ≡ p) × (m ≡ n)
sums_differ w h rows rays p n q m x lp ln lq lm un up um uq kq km sq sm adj i j =
    let both : Each (λ a. dot a p ≡ pos 0 → dot a n ≡ pos 0 → (dot a m ≡ pos 0) × (dot a q ≡ pos 0)) rows = each_map2 (λ a. pos 0 ≤ℤ dot a q) (λ a. pos 0 ≤ℤ dot a m) (λ a. dot a p ≡ pos 0 → dot a n ≡ pos 0 → (dot a m ≡ pos 0) × (dot a q ≡ pos 0)) rows
    (λ a s t e f.
    let z = sum_vanishes w h p n x a lp ln i e f in
    both_vanish (dot h q) (neg_ℤ (dot h m)) (dot a m) (dot a q) uq (omega (arith, sums)) t s (sym (meet_at w h q m a lq lm) ∙ sym (primitive_value (meet h q m) x j a) ∙ ap (λ y. j.factor *ℤ y) z ∙ *ℤ-zero j.factor)) sq sm in
    let vq = each_map (λ a. dot a p ≡ pos 0 → dot a n ≡ pos 0 → (dot a m ≡ pos 0) × (dot a q ≡ pos 0)) (λ a. dot a p ≡ pos 0 → dot a n ≡ pos 0 → dot a q ≡ pos 0) rows (λ a f e g. (f e g).1) both in
    let vm = each_map (λ a. dot a p ≡ pos 0 → dot a n ≡ pos 0 → (dot a m ≡ pos 0) × (dot a q ≡ pos 0)) (λ a. dot a p ≡ pos 0 → dot a n ≡ pos 0 → dot a m ≡ pos 0) rows (λ a f e g. (f e g).0) both in (
      first (Each-contains (λ r. Each (λ a. dot a p ≡ pos 0 → dot a n ≡ pos 0 → dot a r ≡ pos 0) rows → (r ≡ p) ⊎ (r ≡ n)) rays q adj kq vq),
      second (Each-contains (λ r. Each (λ a. dot a p ≡ pos 0 → dot a n ≡ pos 0 → dot a r ≡ pos 0) rows → (r ≡ p) ⊎ (r ≡ n)) rays m adj km vm),
    )
  where
    first : (q ≡ p) ⊎ (q ≡ n) → q ≡ p
    first (inl e) = e
    first (inr e) = absurd (let f = ap (dot h) e in omega (arith, sums))

    second : (m ≡ p) ⊎ (m ≡ n) → m ≡ n
    second (inl e) = absurd (let f = ap (dot h) e in omega (arith, sums))
    second (inr e) = e

-- ---- the whole list
pairwise_append : {A : Type 0} (R : A → A → Type 0) (xs ys : List A) → Pairwise R xs → Pairwise R ys → Each (λ x. Each (R x) ys) xs → Pairwise R (xs ++ ys)
pairwise_append R [] ys p q k = q
pairwise_append R (x ∷ xs) ys p q k = (each_append (R x) xs ys p.0 k.0, pairwise_append R xs ys p.1 q k.1)

-- a new sum is none of those before it: neither a ray kept nor the sum of another pair
pub sum_is_new : (w : ℕ) (h : Vector) (rows rays : List Vector) (pair : RayPair) (x : Vector) (before : List Vector) → Each (HasWidth w) rays → Each (Satisfies rows) rays → IsAdjacentPair h rows rays pair → IsPrimitiveOf (meet h pair.above pair.below) x
    → Each (λ y. Contains rays y ⊎ ((other : RayPair) × IsAdjacentPair h rows rays other × (other ≢ pair) × IsPrimitiveOf (meet h other.above other.below) y)) before → Each (λ y. y ≢ x) before
sum_is_new w h rows rays pair x before l s a i k = each_map (λ y. Contains rays y ⊎ ((other : RayPair) × IsAdjacentPair h rows rays other × (other ≢ pair) × IsPrimitiveOf (meet h other.above other.below) y)) (λ y. y ≢ x) before
    (λ y c e. elim c [
      | inl old ↦ sum_not_old w h rows rays pair.above pair.below x (wide pair.above a.has_above) (wide pair.below a.has_below) a.under a.over a.adjacent i (subst (Contains rays) e old)
      | inr o ↦ (
          let b = o.1 in
          let j : IsPrimitiveOf (meet h o.0.above o.0.below) x = subst (IsPrimitiveOf (meet h o.0.above o.0.below)) e o.3 in
          let d = sums_differ w h rows rays pair.above pair.below o.0.above o.0.below x (wide pair.above a.has_above) (wide pair.below a.has_below) (wide o.0.above b.has_above) (wide o.0.below b.has_below) a.under a.over b.under b.over b.has_above b.has_below (inside o.0.above b.has_above) (inside o.0.below b.has_below) a.adjacent i j in
          o.2 (same_pair o.0 pair d.0 d.1))
    ]) k
  where
    wide : (v : Vector) → Contains rays v → HasWidth w v
    wide v c = Each-contains (HasWidth w) rays v l c

    inside : (v : Vector) → Contains rays v → Satisfies rows v
    inside v c = Each-contains (Satisfies rows) rays v s c

    same_pair : (a b : RayPair) → a.above ≡ b.above → a.below ≡ b.below → a ≡ b
    same_pair a b e f = λ t. record { above = e t; below = f t }

-- the sums of different adjacent pairs are different
pub sums_pairwise : (w : ℕ) (h : Vector) (rows rays : List Vector) (pairs : List RayPair) (new : List Vector) → Each (HasWidth w) rays → Each (Satisfies rows) rays → Each (IsAdjacentPair h rows rays) pairs → Pairwise ◌≢◌ pairs
    → AllZip (λ (q : RayPair) x. IsPrimitiveOf (meet h q.above q.below) x) pairs new → Pairwise ◌≢◌ new
sums_pairwise w h rows rays [] [] l s a d z = tt
sums_pairwise w h rows rays [] (x ∷ new) l s a d z = absurd z
sums_pairwise w h rows rays (q ∷ pairs) [] l s a d z = absurd z
sums_pairwise w h rows rays (q ∷ pairs) (x ∷ new) l s a d z =
    let others : Each (λ y. Contains rays y ⊎ ((other : RayPair) × IsAdjacentPair h rows rays other × (other ≢ q) × IsPrimitiveOf (meet h other.above other.below) y)) new = from pairs new a.1 d.0 z.1 in
    (each_map (λ y. y ≢ x) (λ y. x ≢ y) new (λ y n e. n (sym e)) (sum_is_new w h rows rays q x new l s a.0 z.0 others), sums_pairwise w h rows rays pairs new l s a.1 d.1 z.1)
  where
    from : (ps : List RayPair) (xs : List Vector) → Each (IsAdjacentPair h rows rays) ps → Each (λ (p : RayPair). q ≢ p) ps → AllZip (λ (p : RayPair) y. IsPrimitiveOf (meet h p.above p.below) y) ps xs
        → Each (λ y. Contains rays y ⊎ ((other : RayPair) × IsAdjacentPair h rows rays other × (other ≢ q) × IsPrimitiveOf (meet h other.above other.below) y)) xs
    from [] [] b n k = tt
    from [] (y ∷ xs) b n k = absurd k
    from (p ∷ ps) [] b n k = absurd k
    from (p ∷ ps) (y ∷ xs) b n k = (inr (p, b.0, (λ e. n.0 (sym e)), k.0), from ps xs b.1 n.1 k.1)

-- no ray is twice in the rays kept and the sums
pub no_ray_twice : (w : ℕ) (h : Vector) (rows rays kept : List Vector) (pairs : List RayPair) (new : List Vector) → Each (HasWidth w) rays → Each (Satisfies rows) rays → Pairwise ◌≢◌ kept → Each (Contains rays) kept
    → Each (IsAdjacentPair h rows rays) pairs → Pairwise ◌≢◌ pairs → AllZip (λ (q : RayPair) x. IsPrimitiveOf (meet h q.above q.below) x) pairs new → Pairwise ◌≢◌ (kept ++ new)
no_ray_twice w h rows rays kept pairs new l s p k a d z =
    pairwise_append ◌≢◌ kept new p (sums_pairwise w h rows rays pairs new l s a d z) (each_map (Contains rays) (λ y. Each (λ x. y ≢ x) new) kept (λ y c. apart y c pairs new a z) k)
  where
    apart : (y : Vector) → Contains rays y → (ps : List RayPair) (xs : List Vector) → Each (IsAdjacentPair h rows rays) ps → AllZip (λ (q : RayPair) x. IsPrimitiveOf (meet h q.above q.below) x) ps xs → Each (λ x. y ≢ x) xs
    apart y c [] [] b i = tt
    apart y c [] (x ∷ xs) b i = absurd i
    apart y c (q ∷ ps) [] b i = absurd i
    apart y c (q ∷ ps) (x ∷ xs) b i = ((sum_is_new w h rows rays q x (y ∷ []) l s b.0 i.0 (inl c, tt)).0, apart y c ps xs b.1 i.1)
