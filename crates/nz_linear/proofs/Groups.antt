-- The group that a list of vectors generates: closure, and that it goes by the members of the list alone.
use Rattle.std.proofs.Common.{◌≡◌, ℕ, zero, suc, List, [], ◌∷◌, length, ℤ, pos, sym, ap, ◌∙◌, subst, arith}
use Rattle.std.specs.List.{AllByRecursion as Each, Contains}
use Rattle.nz_spec.specs.Vectors.{Vector, plus, scaled, zero_vector, combination, HasWidth}
use Rattle.nz_spec.specs.Sums.{IsInGroup}
use Rattle.nz_spec.proofs.SumLaws.{length-zero_vector, length-combination, combination-scaled, combination-zeros, IsInGroup-zero, IsInGroup-plus}
use Rattle.nz_linear.specs.DualPairs.{IsSpace}
use Rattle.nz_spec.proofs.VectorLaws.{one-scaled}
use Rattle.nz_linear.proofs.Lists.{each_map}
use Rattle.nz_linear.proofs.VectorLaws.{length-scaled, plus-zero}
use Rattle.nz_linear.proofs.Combinations.{combination-skip}

pub group_width : (w : ℕ) (gens : List Vector) (x : Vector) → Each (HasWidth w) gens → IsInGroup w gens x → length x ≡ w
group_width w gens x a i = ap length (sym i.same) ∙ length-combination w i.factors gens a

pub group_scaled : (w : ℕ) (gens : List Vector) (k : ℤ) (x : Vector) → IsInGroup w gens x → IsInGroup w gens (scaled k x)
group_scaled w gens k x i = record { factors = scaled k i.factors; one_each = length-scaled (length gens) k i.factors i.one_each; same = combination-scaled w k i.factors gens ∙ ap (scaled k) i.same }

group_head : (w : ℕ) (g : Vector) (gens : List Vector) → length g ≡ w → Each (HasWidth w) gens → IsInGroup w (g ∷ gens) g
group_head w g gens l a = record {
  factors = pos 1 ∷ zero_vector (length gens);
  one_each = ap suc (length-zero_vector (length gens));
  same = (ap (plus (scaled (pos 1) g)) (combination-zeros w gens a) ∙ plus-zero w (scaled (pos 1) g) (length-scaled w (pos 1) g l) ∙ one-scaled g);
}

group_skip : (w : ℕ) (g : Vector) (gens : List Vector) (x : Vector) → length g ≡ w → Each (HasWidth w) gens → IsInGroup w gens x → IsInGroup w (g ∷ gens) x
group_skip w g gens x l a i = record { factors = pos 0 ∷ i.factors; one_each = ap suc i.one_each; same = combination-skip w i.factors g gens l a ∙ i.same }

pub group_member : (w : ℕ) (gens : List Vector) (g : Vector) → Each (HasWidth w) gens → Contains gens g → IsInGroup w gens g
group_member w [] g l (k, h, e) = absurd (omega arith)
group_member w (v ∷ gens) g l (zero, h, e) = subst (IsInGroup w (v ∷ gens)) e (group_head w v gens l.0 l.1)
group_member w (v ∷ gens) g l (suc k, h, e) = group_skip w v gens g l.0 l.1 (group_member w gens g l.1 (k, omega arith, e))

sum_within : (w : ℕ) (gens others : List Vector) (cs : List ℤ) → Each (HasWidth w) others → Each (IsInGroup w others) gens → IsInGroup w others (combination w cs gens)
sum_within w gens others [] l i = IsInGroup-zero w others l
sum_within w [] others (c ∷ cs) l i = IsInGroup-zero w others l
sum_within w (g ∷ gens) others (c ∷ cs) l i = IsInGroup-plus w others (scaled c g) (combination w cs gens) (group_scaled w others c g i.0) (sum_within w gens others cs l i.1)

-- if each generator is in another group, all of the group is: so a step of clearing, and its undoing, keep the group
pub group_within : (w : ℕ) (gens others : List Vector) (x : Vector) → Each (HasWidth w) others → Each (IsInGroup w others) gens → IsInGroup w gens x → IsInGroup w others x
group_within w gens others x l i k = subst (IsInGroup w others) k.same (sum_within w gens others k.factors l i)

pub group_space : (w : ℕ) (gens : List Vector) → Each (HasWidth w) gens → IsSpace w (IsInGroup w gens)
group_space w gens a = record { width = λ x i. group_width w gens x a i; sum_in = λ x y i j. IsInGroup-plus w gens x y i j; multiple_in = λ k x i. group_scaled w gens k x i }

-- a longer list, or the same in another order, has no smaller group
pub group_of_members : (w : ℕ) (gens others : List Vector) (x : Vector) → Each (HasWidth w) others → Each (Contains others) gens → IsInGroup w gens x → IsInGroup w others x
group_of_members w gens others x l c i = group_within w gens others x l (each_map (Contains others) (IsInGroup w others) gens (λ g k. group_member w others g l k) c) i
