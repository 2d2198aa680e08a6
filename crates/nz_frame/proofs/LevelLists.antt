-- The lists of a system by level, from the one list of all irreducible elements and that of the extreme generators.
use Rattle.std.proofs.Common.{◌≡◌, ◌≢◌, ℕ, ◌≤◌, List, length, IsTrue, false, ℤ, pos, ◌≤ℤ◌, refl, subst, arith}
use Rattle.std.specs.Prelude.{◌<ℤ◌}
use Rattle.std.proofs.lemmas.Bool.{false≢true}
use Rattle.std.proofs.lemmas.Int.{ints, by_lt_z}
use Rattle.std.specs.List.Sorted.{IsPermutation}
use Rattle.nz_spec.specs.Vectors.{Vector, level_of}
use Rattle.nz_spec.specs.Order.{IsListOf, ListsOnce, HasNumber, MoreThan}
use Rattle.nz_spec.specs.Systems.{System, IsSystem, IsMember}
use Rattle.nz_spec.specs.Monoids.{IsIrreducible, IsModuleGenerator, IsExtreme}
use Rattle.nz_spec.specs.Elements.{IsHilbertElement, IsHilbertBasis, AreModuleGenerators, IsRayElement, IsVertexElement}
use Rattle.nz_spec.proofs.LevelLaws.{module_irreducible, level_of-member}
use Rattle.nz_spec.proofs.ListLaws.{MoreThan-HasNumber}
use Rattle.nz_order.specs.Picks.{Picks}
use Rattle.nz_order.proofs.SortLaws.{Picks-list, IsListOf-where}
use Rattle.nz_degree.specs.Degrees.{IsInOrder}
use Rattle.nz_degree.proofs.ElementLaws.{sorted_is_basis, sorted_are_modules}
use Rattle.nz_frame.specs.Elements.{IsWithin}

not_positive_zero : (l : ℤ) → pos 0 <ℤ l → ¬ (l ≡ pos 0)
not_positive_zero l p e = omega (arith, ints, p, e)

positive_of : (l : ℤ) → pos 0 ≤ℤ l → ¬ (l ≡ pos 0) → pos 0 <ℤ l
positive_of l p n = by_lt_z (pos 0) l (λ (h : pos 0 <ℤ l). h) (λ (h : l ≤ℤ pos 0). absurd (n (omega (arith, ints, p, h))))

-- ---- with a level
module _ (s : System) (is : IsSystem s) (tall : IsTrue s.level) (Before : Vector → Vector → Type 0) where
  -- of all irreducible elements, those of level 0
  pub zero_picked : (xs zero : List Vector) → IsListOf Before (IsIrreducible (IsMember s)) xs → Picks (λ x. level_of x ≡ pos 0) xs zero → IsListOf Before (IsHilbertElement s) zero
  zero_picked xs zero l p = IsListOf-where Before (λ x. IsIrreducible (IsMember s) x × (level_of x ≡ pos 0)) (IsHilbertElement s)
      (λ x h. record { irreducible = h.0; level_zero = λ i. h.1 }) (λ x h. (h.irreducible, h.level_zero tall)) zero
      (Picks-list Before (IsIrreducible (IsMember s)) (λ x. level_of x ≡ pos 0) xs zero l p)

  -- and those of level 1
  pub one_picked : (xs one : List Vector) → IsListOf Before (IsIrreducible (IsMember s)) xs → Picks (λ x. level_of x ≡ pos 1) xs one → IsListOf Before (IsModuleGenerator (IsMember s)) one
  one_picked xs one l p = IsListOf-where Before (λ x. IsIrreducible (IsMember s) x × (level_of x ≡ pos 1)) (IsModuleGenerator (IsMember s))
      (λ x h. (module_irreducible s is tall x).1 h) (λ x h. (module_irreducible s is tall x).0 h) one
      (Picks-list Before (IsIrreducible (IsMember s)) (λ x. level_of x ≡ pos 1) xs one l p)

  -- of the extreme generators, those of level 0
  pub rays_picked : (xs rays : List Vector) → IsListOf Before (IsExtreme (IsMember s)) xs → Picks (λ x. level_of x ≡ pos 0) xs rays → IsListOf Before (IsRayElement s) rays
  rays_picked xs rays l p = IsListOf-where Before (λ x. IsExtreme (IsMember s) x × (level_of x ≡ pos 0)) (IsRayElement s)
      (λ x h. record { extreme = h.0; level_zero = λ i. h.1 }) (λ x h. (h.extreme, h.level_zero tall)) rays
      (Picks-list Before (IsExtreme (IsMember s)) (λ x. level_of x ≡ pos 0) xs rays l p)

  -- and the others
  pub vertices_picked : (xs vertices : List Vector) → IsListOf Before (IsExtreme (IsMember s)) xs → Picks (λ x. ¬ (level_of x ≡ pos 0)) xs vertices → IsListOf Before (IsVertexElement s) vertices
  vertices_picked xs vertices l p = IsListOf-where Before (λ x. IsExtreme (IsMember s) x × (¬ (level_of x ≡ pos 0))) (IsVertexElement s)
      (λ x h. record { has_level = tall; extreme = h.0; level_positive = positive_of (level_of x) (level_of-member s is tall x h.0.irreducible.member) h.1 })
      (λ x h. (h.extreme, not_positive_zero (level_of x) h.level_positive)) vertices
      (Picks-list Before (IsExtreme (IsMember s)) (λ x. ¬ (level_of x ≡ pos 0)) xs vertices l p)

-- ---- without one
module _ (s : System) (flat : s.level ≡ false) (Before : Vector → Vector → Type 0) where
  never : {A : Type 0} → IsTrue s.level → A
  never t = absurd (false≢true (subst IsTrue flat t))

  pub flat_elements : (xs : List Vector) → IsListOf Before (IsIrreducible (IsMember s)) xs → IsListOf Before (IsHilbertElement s) xs
  flat_elements xs l = IsListOf-where Before (IsIrreducible (IsMember s)) (IsHilbertElement s) (λ x i. record { irreducible = i; level_zero = never }) (λ x h. h.irreducible) xs l

  pub flat_rays : (xs : List Vector) → IsListOf Before (IsExtreme (IsMember s)) xs → IsListOf Before (IsRayElement s) xs
  flat_rays xs l = IsListOf-where Before (IsExtreme (IsMember s)) (IsRayElement s) (λ x i. record { extreme = i; level_zero = never }) (λ x h. h.extreme) xs l

-- ---- split and then sorted
pub split_basis : (s : System) → IsSystem s → IsTrue s.level → (xs zero sorted : List Vector) → ListsOnce (IsIrreducible (IsMember s)) xs → Picks (λ x. level_of x ≡ pos 0) xs zero → IsPermutation zero sorted → IsInOrder s.grading sorted → IsHilbertBasis s sorted
split_basis s is tall xs zero sorted l p moved order = sorted_is_basis s zero sorted (zero_picked s is tall ◌≢◌ xs zero l p) moved order

pub split_modules : (s : System) → IsSystem s → IsTrue s.level → (xs one sorted : List Vector) → ListsOnce (IsIrreducible (IsMember s)) xs → Picks (λ x. level_of x ≡ pos 1) xs one → IsPermutation one sorted → IsInOrder s.grading sorted → AreModuleGenerators s sorted
split_modules s is tall xs one sorted l p moved order = sorted_are_modules s one sorted (one_picked s is tall ◌≢◌ xs one l p) moved order

pub flat_basis : (s : System) → s.level ≡ false → (xs sorted : List Vector) → ListsOnce (IsIrreducible (IsMember s)) xs → IsPermutation xs sorted → IsInOrder s.grading sorted → IsHilbertBasis s sorted
flat_basis s flat xs sorted l moved order = sorted_is_basis s xs sorted (flat_elements s flat ◌≢◌ xs l) moved order

-- ---- the limit
pub within_of : (s : System) (limit : ℕ) (xs : List Vector) → ListsOnce (IsIrreducible (IsMember s)) xs → length xs ≤ limit → IsWithin s limit
within_of s limit xs l n = record { list = xs; lists = l; size = n }

-- no more irreducible elements than the limit are never more than it
pub within_is_not_more : (s : System) (limit : ℕ) → IsWithin s limit → ¬ MoreThan limit (IsIrreducible (IsMember s))
within_is_not_more s limit h m =
    let n : HasNumber (IsIrreducible (IsMember s)) (length h.list) = record { list = h.list; lists = h.lists; size = refl } in
    let k = MoreThan-HasNumber limit (length h.list) (IsIrreducible (IsMember s)) m n in
    let l = h.size in
    omega (arith, k, l)
