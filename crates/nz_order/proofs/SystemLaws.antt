-- The lattice of a system is a lattice, so what holds of stages holds of its stages and of its members.
use Rattle.std.proofs.Common.{◌≡◌, ℕ, List, [], ◌∷◌, length, pos, negsuc, ◌+ℤ◌, ◌-ℤ◌, ◌*ℤ◌, false, refl, sym, ap, ap₂, ◌∙◌, arith}
use Rattle.std.proofs.lemmas.Int.{ints}
use Rattle.std.specs.List.{AllByRecursion as Each}
use Rattle.nz_spec.specs.Vectors.{Vector, dot, plus, minus, scaled, HasWidth}
use Rattle.nz_spec.specs.Sums.{IsInGroup}
use Rattle.nz_spec.specs.Systems.{Congruence, System, IsSystem, IsMultipleBy}
use Rattle.nz_spec.specs.Stages.{IsInLattice}
use Rattle.nz_spec.proofs.IntLaws.{multiple_sub}
use Rattle.nz_spec.proofs.VectorLaws.{length-plus, length-minus, length-scaled, dot-minus}
use Rattle.nz_spec.proofs.SumLaws.{combination-plus, combination-scaled, length-zero_vector, IsInGroup-plus, IsInGroup-zero}
use Rattle.nz_spec.proofs.MemberLaws.{zero-plus_forms, multiple-plus_forms, zero_forms, multiple_forms, if_some_both, if_some_each, lat_widths}
use Rattle.nz_order.specs.Lattices.{IsLattice}

minus_as_plus : (x y : Vector) → minus x y ≡ plus x (scaled (negsuc 0) y)
minus_as_plus [] y = refl
minus_as_plus (a ∷ x) [] = refl
minus_as_plus (a ∷ x) (b ∷ y) =
    let e : a -ℤ b ≡ a +ℤ negsuc 0 *ℤ b = omega (arith, ints) in
    let t = minus_as_plus x y in cc

-- a group has the differences of its vectors
pub IsInGroup-minus : (w : ℕ) (vs : List Vector) (x y : Vector) → IsInGroup w vs x → IsInGroup w vs y → IsInGroup w vs (minus x y)
IsInGroup-minus w vs x y p q =
    let k = negsuc 0 in
    let l : length p.factors ≡ length (scaled k q.factors) = p.one_each ∙ sym q.one_each ∙ sym (length-scaled k q.factors) in
    record {
      factors = plus p.factors (scaled k q.factors);
      one_each = length-plus p.factors (scaled k q.factors) l ∙ p.one_each;
      same = combination-plus w p.factors (scaled k q.factors) vs l ∙ ap₂ plus p.same (combination-scaled w k q.factors vs ∙ ap (scaled k) q.same) ∙ sym (minus_as_plus x y);
    }

zero-minus_forms : (fs : List Vector) (x y : Vector) → length x ≡ length y → Each (λ f. dot f x ≡ pos 0) fs → Each (λ f. dot f y ≡ pos 0) fs → Each (λ f. dot f (minus x y) ≡ pos 0) fs
zero-minus_forms [] x y l h k = tt
zero-minus_forms (f ∷ fs) x y l h k = (omega (arith, ints, dot-minus f x y l, h.0, k.0), zero-minus_forms fs x y l h.1 k.1)

multiple-minus_forms : (cs : List Congruence) (x y : Vector) → length x ≡ length y → Each (λ c. IsMultipleBy c x) cs → Each (λ c. IsMultipleBy c y) cs → Each (λ c. IsMultipleBy c (minus x y)) cs
multiple-minus_forms [] x y l h k = tt
multiple-minus_forms (c ∷ cs) x y l h k = (rw (dot-minus c.form x y l) (multiple_sub c.modulus (dot c.form x) (dot c.form y) h.0 k.0), multiple-minus_forms cs x y l h.1 k.1)

-- the lattice of a system
pub system_lattice : (s : System) → IsSystem s → (equations : List Vector) → IsLattice s.width (IsInLattice s equations)
system_lattice s is equations = record {
  wide = λ x h. h.width;
  zero_in = record {
    width = length-zero_vector s.width;
    zero_at = zero_forms equations s.width;
    congruences = multiple_forms s.cg s.width;
    in_group = if_some_each s.lat (λ ls. Each (HasWidth s.width) ls) _ (λ (lat : List Vector). IsInGroup-zero s.width lat) (lat_widths s.gens s.lat s.width (s.level ≡ false) is.gens_width is.lat_is_gens);
  };
  sums = λ x y p q.
      let l : length x ≡ length y = p.width ∙ sym q.width in
      record {
        width = length-plus x y l ∙ p.width;
        zero_at = zero-plus_forms equations x y l p.zero_at q.zero_at;
        congruences = multiple-plus_forms s.cg x y l p.congruences q.congruences;
        in_group = if_some_both s.lat _ _ _ (λ (lat : List Vector). IsInGroup-plus s.width lat x y) p.in_group q.in_group;
      };
  differences = λ x y p q.
      let l : length x ≡ length y = p.width ∙ sym q.width in
      record {
        width = length-minus x y l ∙ p.width;
        zero_at = zero-minus_forms equations x y l p.zero_at q.zero_at;
        congruences = multiple-minus_forms s.cg x y l p.congruences q.congruences;
        in_group = if_some_both s.lat _ _ _ (λ (lat : List Vector). IsInGroup-minus s.width lat x y) p.in_group q.in_group;
      };
}
