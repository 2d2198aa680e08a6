-- A cone goes by the members of its list alone: so cones are transitive, and neither order nor repetition counts.
use Rattle.std.proofs.Common.{ℕ, zero, suc, List, [], ◌∷◌, ℤ, pos, ◌≤ℤ◌, subst, arith}
use Rattle.std.specs.List.{AllByRecursion as Each, Contains}
use Rattle.nz_spec.specs.Vectors.{Vector, scaled, combination, HasWidth}
use Rattle.nz_spec.specs.Sums.{IsInCone}
use Rattle.nz_spec.proofs.SumLaws.{IsInCone-plus, IsInCone-zero}
use Rattle.nz_linear.proofs.Lists.{each_map}
use Rattle.nz_linear.proofs.Cones.{above_zero, cone_skip, cone_head, cone_scaled, cone_divide}

pub cone_member : (w : ℕ) (gens : List Vector) (g : Vector) → Each (HasWidth w) gens → Contains gens g → IsInCone w gens g
cone_member w [] g l (k, h, e) = absurd (omega arith)
cone_member w (v ∷ gens) g l (zero, h, e) = subst (IsInCone w (v ∷ gens)) e (cone_head w v gens l.0 l.1)
cone_member w (v ∷ gens) g l (suc k, h, e) = cone_skip w v gens g l.0 l.1 (cone_member w gens g l.1 (k, omega arith, e))

sum_within : (w : ℕ) (gens others : List Vector) (cs : List ℤ) → Each (HasWidth w) others → Each (λ c. pos 0 ≤ℤ c) cs → Each (IsInCone w others) gens → IsInCone w others (combination w cs gens)
sum_within w gens others [] l n i = IsInCone-zero w others l
sum_within w [] others (c ∷ cs) l n i = IsInCone-zero w others l
sum_within w (g ∷ gens) others (c ∷ cs) l n i = IsInCone-plus w others (scaled c g) (combination w cs gens) (cone_scaled w others c g n.0 i.0) (sum_within w gens others cs l n.1 i.1)

-- if each generator is in another cone, all of the cone is
pub cone_within : (w : ℕ) (gens others : List Vector) (x : Vector) → Each (HasWidth w) others → Each (IsInCone w others) gens → IsInCone w gens x → IsInCone w others x
cone_within w gens others x l i k = cone_divide w others k.multiple x (above_zero k.multiple k.positive) (subst (IsInCone w others) k.same (sum_within w gens others k.factors l k.each i))

-- a longer list, or the same in another order, has no smaller cone
pub cone_of_members : (w : ℕ) (gens others : List Vector) (x : Vector) → Each (HasWidth w) others → Each (Contains others) gens → IsInCone w gens x → IsInCone w others x
cone_of_members w gens others x l c i = cone_within w gens others x l (each_map (Contains others) (IsInCone w others) gens (λ g k. cone_member w others g l k) c) i
