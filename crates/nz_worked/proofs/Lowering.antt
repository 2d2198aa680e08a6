-- A crowd that is above a number is above each smaller one.
use Rattle.std.proofs.Common.{◌⊎◌, inl, inr, ℕ, zero, suc, ◌<◌, ◌≤◌, List, arith}
use Rattle.nz_spec.specs.Vectors.{Vector}
use Rattle.nz_spec.specs.Order.{MoreThan}
use Rattle.nz_spec.specs.Systems.{System}
use Rattle.nz_measures.specs.Crowds.{IsPrimalCrowdAbove, of_line, of_held, HaveStagesAbove, IsDualCrowdAbove, dual_line, of_stages, of_first, of_first_stage, of_stage, of_reversed}
use Rattle.nz_worked.specs.Laws.{HasPrimalCrowd, HasDualCrowd}

fewer : (m n : ℕ) (P : Vector → Type 0) → m ≤ n → MoreThan n P → MoreThan m P
fewer m n P l k = record { witnesses = k.witnesses; different = k.different; only = k.only; more = (let h = k.more in omega (arith, l, h)) }

primal_lower : (s : System) (m n : ℕ) → m ≤ n → IsPrimalCrowdAbove s n → IsPrimalCrowdAbove s m
primal_lower s m n l (of_line v h) = of_line v (omega (arith, l, h))
primal_lower s m n l (of_held {X = X} p a k) = of_held {X = X} p a (fewer m n _ l k)

stages_lower : (m n w : ℕ) (Lattice : Vector → Type 0) (r : ℕ) (rows : List Vector) → m ≤ n → HaveStagesAbove n w Lattice r rows → HaveStagesAbove m w Lattice r rows
stages_lower m n w Lattice r rows l (of_first {ordered = os} {F = F} a k) = of_first {ordered = os} {F = F} a (fewer m n _ l k)
stages_lower m n w Lattice r rows l (of_first_stage {ordered = os} {F = F} a k) = of_first_stage {ordered = os} {F = F} a (fewer m n _ l k)
stages_lower m n w Lattice r rows l (of_stage {ordered = os} {F = F} {earlier = e} {last = h} a t k) = of_stage {ordered = os} {F = F} {earlier = e} {last = h} a t (fewer m n _ l k)
stages_lower m n w Lattice r rows l (of_reversed {ordered = os} {F = F} {earlier = e} {last = h} a t k) = of_reversed {ordered = os} {F = F} {earlier = e} {last = h} a t (fewer m n _ l k)

dual_lower : (s : System) (m n : ℕ) → m ≤ n → IsDualCrowdAbove s n → IsDualCrowdAbove s m
dual_lower s m n l (dual_line v h) = dual_line v (omega (arith, l, h))
dual_lower s m n l (of_stages {equations = es} {rows = rows} {r = r} p e a h k) = of_stages {equations = es} {rows = rows} {r = r} p e a h (stages_lower m n _ _ r rows l k)

below_or_from : (m n : ℕ) → (m < n) ⊎ (n ≤ m)
below_or_from m zero = inr (omega arith)
below_or_from zero (suc n) = inl (omega arith)
below_or_from (suc m) (suc n) = elim (below_or_from m n) [ inl l ↦ inl (omega (arith, l)) | inr l ↦ inr (omega (arith, l)) ]

-- the crowd is n + 1 where it is above n and not above n + 1
pub primal_crowd_is : (s : System) (n : ℕ) → IsPrimalCrowdAbove s n → ¬ IsPrimalCrowdAbove s (suc n) → HasPrimalCrowd s (suc n)
primal_crowd_is s n a b m = (
  λ k. elim (below_or_from m (suc n)) [ inl l ↦ l | inr l ↦ absurd (b (primal_lower s (suc n) m l k)) ],
  λ l. primal_lower s m n (omega (arith, l)) a,
)

pub dual_crowd_is : (s : System) (n : ℕ) → IsDualCrowdAbove s n → ¬ IsDualCrowdAbove s (suc n) → HasDualCrowd s (suc n)
dual_crowd_is s n a b m = (
  λ k. elim (below_or_from m (suc n)) [ inl l ↦ l | inr l ↦ absurd (b (dual_lower s (suc n) m l k)) ],
  λ l. dual_lower s m n (omega (arith, l)) a,
)
