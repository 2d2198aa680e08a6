-- The span of a list: closure under sums and multiples, and that it goes by the members of the list alone.
use Rattle.std.proofs.Common.{◌≡◌, ◌≢◌, ℕ, List, [], ◌∷◌, length, ℤ, pos, ◌*ℤ◌, ◌<ℤ◌, sym, ap, ap₂, ◌∙◌, subst, arith}
use Rattle.std.proofs.Math.IntN.{*ℤ_comm}
use Rattle.std.specs.Prelude.{⊤}
use Rattle.std.specs.List.{AllByRecursion as Each, Contains}
use Rattle.nz_spec.specs.Vectors.{Vector, plus, scaled, zero_vector, combination, HasWidth}
use Rattle.nz_spec.specs.Sums.{IsInSpan}
use Rattle.nz_spec.proofs.IntLaws.{mul-pos}
use Rattle.nz_spec.proofs.VectorLaws.{scaled-plus, scaled-scaled}
use Rattle.nz_spec.proofs.SumLaws.{combination-plus, combination-scaled, IsInCone-zero, IsInSpan-cone}
use Rattle.nz_linear.specs.DualPairs.{IsSpace}
use Rattle.nz_linear.proofs.Ring.{sums}
use Rattle.nz_linear.proofs.Signs.{signed, mul_is_zero}
use Rattle.nz_linear.proofs.Lists.{each_all, each_map}
use Rattle.nz_linear.proofs.VectorLaws.{length-plus, length-scaled}
use Rattle.nz_linear.proofs.Cones.{above_zero}
use Rattle.nz_linear.proofs.ConeMembers.{cone_member}

-- a vector of which a positive multiple is a sum is in the span
pub in_span : (w : ℕ) (vs : List Vector) (x : Vector) (m : ℤ) (fs : List ℤ) → pos 0 <ℤ m → length fs ≡ length vs → combination w fs vs ≡ scaled m x → IsInSpan w vs x
in_span w vs x m fs p l e = record { multiple = m; factors = fs; positive = omega (arith, sums); one_each = l; each = each_all (λ (c : ℤ). ⊤) fs (λ c. tt); same = e }

-- and one of which a multiple that is not 0 is
pub in_span_by : (w : ℕ) (vs : List Vector) (x : Vector) (m : ℤ) (fs : List ℤ) → m ≢ pos 0 → length fs ≡ length vs → combination w fs vs ≡ scaled m x → IsInSpan w vs x
in_span_by w vs x m fs n l e =
    let s = signed m n in
    in_span w vs x (s.sign *ℤ m) (scaled s.sign fs) s.positive (length-scaled (length vs) s.sign fs l) (combination-scaled w s.sign fs vs ∙ ap (scaled s.sign) e ∙ scaled-scaled s.sign m x)

pub span_scaled : (w : ℕ) (vs : List Vector) (k : ℤ) (x : Vector) → IsInSpan w vs x → IsInSpan w vs (scaled k x)
span_scaled w vs k x i =
    in_span w vs (scaled k x) i.multiple (scaled k i.factors) (above_zero i.multiple i.positive) (length-scaled (length vs) k i.factors i.one_each)
    (combination-scaled w k i.factors vs ∙ ap (scaled k) i.same ∙ scaled-scaled k i.multiple x ∙ ap (λ t. scaled t x) (*ℤ_comm k i.multiple) ∙ sym (scaled-scaled i.multiple k x))

pub span_divide : (w : ℕ) (vs : List Vector) (k : ℤ) (x : Vector) → k ≢ pos 0 → IsInSpan w vs (scaled k x) → IsInSpan w vs x
span_divide w vs k x n i =
    in_span_by w vs x (i.multiple *ℤ k) i.factors (λ e. n (mul_is_zero i.multiple k (above_zero i.multiple i.positive) e)) i.one_each (i.same ∙ scaled-scaled i.multiple k x)

pub span_plus : (w : ℕ) (vs : List Vector) (x y : Vector) → IsInSpan w vs x → IsInSpan w vs y → IsInSpan w vs (plus x y)
span_plus w vs x y p q =
    let m = p.multiple in
    let n = q.multiple in
    let lx = length-scaled (length vs) n p.factors p.one_each in
    let ly = length-scaled (length vs) m q.factors q.one_each in
    in_span w vs (plus x y) (n *ℤ m) (plus (scaled n p.factors) (scaled m q.factors)) (above_zero (n *ℤ m) (mul-pos n m q.positive p.positive)) (length-plus (length vs) (scaled n p.factors) (scaled m q.factors) lx ly)
    (combination-plus w (scaled n p.factors) (scaled m q.factors) vs (lx ∙ sym ly)
    ∙ ap₂ plus (combination-scaled w n p.factors vs ∙ ap (scaled n) p.same ∙ scaled-scaled n m x)
    (combination-scaled w m q.factors vs ∙ ap (scaled m) q.same ∙ scaled-scaled m n y ∙ ap (λ t. scaled t y) (*ℤ_comm m n))
    ∙ sym (scaled-plus (n *ℤ m) x y))

pub span_zero : (w : ℕ) (vs : List Vector) → Each (HasWidth w) vs → IsInSpan w vs (zero_vector w)
span_zero w vs l = IsInSpan-cone w vs (zero_vector w) (IsInCone-zero w vs l)

pub span_member : (w : ℕ) (vs : List Vector) (v : Vector) → Each (HasWidth w) vs → Contains vs v → IsInSpan w vs v
span_member w vs v l c = IsInSpan-cone w vs v (cone_member w vs v l c)

sum_within : (w : ℕ) (vs others : List Vector) (cs : List ℤ) → Each (HasWidth w) others → Each (IsInSpan w others) vs → IsInSpan w others (combination w cs vs)
sum_within w vs others [] l i = span_zero w others l
sum_within w [] others (c ∷ cs) l i = span_zero w others l
sum_within w (v ∷ vs) others (c ∷ cs) l i = span_plus w others (scaled c v) (combination w cs vs) (span_scaled w others c v i.0) (sum_within w vs others cs l i.1)

-- if each vector is in another span, all of the span is
pub span_within : (w : ℕ) (vs others : List Vector) (x : Vector) → Each (HasWidth w) others → Each (IsInSpan w others) vs → IsInSpan w vs x → IsInSpan w others x
span_within w vs others x l i k =
    span_divide w others k.multiple x (λ e. let p = k.positive in omega (arith, sums)) (subst (IsInSpan w others) k.same (sum_within w vs others k.factors l i))

-- a longer list, or the same in another order, has no smaller span
pub span_of_members : (w : ℕ) (vs others : List Vector) (x : Vector) → Each (HasWidth w) others → Each (Contains others) vs → IsInSpan w vs x → IsInSpan w others x
span_of_members w vs others x l c i = span_within w vs others x l (each_map (Contains others) (IsInSpan w others) vs (λ v k. span_member w others v l k) c) i

-- what is in the span of vectors of width w has width w only where they have; the span as a set
pub span_space : (w : ℕ) (vs : List Vector) → Each (HasWidth w) vs → IsSpace w (λ x. HasWidth w x × IsInSpan w vs x)
span_space w vs l = record {
  width = λ x i. i.0;
  sum_in = λ x y i j. (length-plus w x y i.0 j.0, span_plus w vs x y i.1 j.1);
  multiple_in = λ k x i. (length-scaled w k x i.0, span_scaled w vs k x i.1);
}
