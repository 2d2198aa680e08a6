-- A worked example: the dual stages of one coordinate strictly above 0 are one, with two irreducible elements.
use Rattle.std.proofs.Common.{◌≡◌, ◌≢◌, inr, List, [], ◌∷◌, ℤ, pos, negsuc, ◌-ℤ◌, ◌≤ℤ◌, ◌<ℤ◌, Contains, refl, sym, ap₂, subst, arith}
use Rattle.std.proofs.lemmas.Int.{ints, by_lt_z}
use Rattle.nz_spec.specs.Vectors.{Vector, combination, HasWidth, IsZero}
use Rattle.nz_spec.specs.Sums.{IsInSpan, IsIndependent, HasRank}
use Rattle.nz_spec.specs.Order.{HasNumber}
use Rattle.nz_spec.specs.Systems.{IsSystem, IsMember}
use Rattle.nz_spec.specs.Monoids.{IsIrreducible}
use Rattle.nz_spec.specs.Stages.{IsInLattice, IsInStage, none, fresh}
use Rattle.nz_spec.proofs.Examples.{two}
use Rattle.nz_spec.proofs.LevelLaws.{module_irreducible}
use Rattle.nz_spec.proofs.ListLaws.{contains_here, contains_there}
use Rattle.nz_linear.proofs.DescribedCone.{members_are_last_stage}
use Rattle.nz_order.proofs.SideLaws.{IsIrreducible-where}
use Rattle.nz_input.specs.declared.kind.Mode.TheVariants.{Dual}
use Rattle.nz_solve.specs.Solutions.{AreToldOf}
use Rattle.nz_solve.proofs.LevelExample.{strict, strict_positive, member_at, nonzero_at, one_zero, one_one, only_one, only_module, no_equations, two_rows}

pub strict_system : IsSystem strict
strict_system = record {
  at_least = omega arith;
  at_most = omega arith;
  eq_width = tt;
  cg_width = tt;
  ge_width = (refl, (refl, tt));
  gens_width = tt;
  grading_width = tt;
  asked_width = (refl, (refl, tt));
  moduli = tt;
  no_level_degree = λ h. tt;
  level_form = λ h. (1, omega arith, refl);
  lat_is_gens = tt;
}

abbrev rows : List Vector
rows = (pos 1 ∷ negsuc 0 ∷ []) ∷ (pos 0 ∷ pos 1 ∷ []) ∷ []

abbrev Lattice : Vector → Type 0
Lattice = IsInLattice strict []

all_whole : (x : Vector) → HasWidth 2 x → Lattice x
all_whole x l = record { width = l; zero_at = tt; congruences = tt; in_group = tt }

-- ---- the rank
abbrev units : List Vector
units = (pos 1 ∷ pos 0 ∷ []) ∷ (pos 0 ∷ pos 1 ∷ []) ∷ []

rank_two : HasRank 2 Lattice 2
rank_two = record {
  base = units;
  size = refl;
  members = (all_whole (pos 1 ∷ pos 0 ∷ []) refl, (all_whole (pos 0 ∷ pos 1 ∷ []) refl, tt));
  independent = rank_free;
  all = λ x l. let u = two x l.width in subst (IsInSpan 2 units) (sym u.2) (spanned u.0 u.1);
}
  where
    zeros : (a b : ℤ) → IsZero (combination 2 (a ∷ b ∷ []) units) → IsZero (a ∷ b ∷ [])
    zeros a b z = let p = z.0 in let q = z.1.0 in (omega (arith, ints, p), (omega (arith, ints, q), tt))

    rank_free : IsIndependent 2 units
    rank_free factors l z = let u = two factors l in subst IsZero (sym u.2) (zeros u.0 u.1 (subst (λ (fs : List ℤ). IsZero (combination 2 fs units)) u.2 z))

    spanned : (a b : ℤ) → IsInSpan 2 units (a ∷ b ∷ [])
    spanned a b = record { multiple = pos 1; factors = a ∷ b ∷ []; positive = omega (arith, ints); one_each = refl; each = (tt, (tt, tt)); same = ap₂ (λ x y. x ∷ y ∷ []) (omega (arith, ints)) (omega (arith, ints)) }

-- ---- the irreducible elements of the stage of both rows
to_stage : (x : Vector) → IsMember strict x → IsInStage Lattice rows x
to_stage x m = (members_are_last_stage strict [] rows strict_system no_equations two_rows x).0 m

from_stage : (x : Vector) → IsInStage Lattice rows x → IsMember strict x
from_stage x m = (members_are_last_stage strict [] rows strict_system no_equations two_rows x).1 m

in_stage : (x : Vector) → IsIrreducible (IsMember strict) x → IsIrreducible (IsInStage Lattice rows) x
in_stage x i = IsIrreducible-where (IsMember strict) (IsInStage Lattice rows) to_stage from_stage x i

abbrev elements : List Vector
elements = (pos 1 ∷ pos 0 ∷ []) ∷ (pos 1 ∷ pos 1 ∷ []) ∷ []

listed : (a b : ℤ) → IsIrreducible (IsMember strict) (a ∷ b ∷ []) → Contains elements (a ∷ b ∷ [])
listed a b i =
    let p = i.member.inequalities.0 in
    let q = i.member.inequalities.1.0 in
    by_lt_z (pos 1) b
    (λ (l : pos 1 <ℤ b). absurd (i.no_sum (pos 1 ∷ pos 1 ∷ []) ((a -ℤ pos 1) ∷ (b -ℤ pos 1) ∷ []) (member_at (pos 1) (pos 1) (omega (arith, ints)) (omega (arith, ints))) (nonzero_at (pos 1) (pos 1 ∷ []) (omega (arith, ints)))
    (member_at (a -ℤ pos 1) (b -ℤ pos 1) (omega (arith, ints, p)) (omega (arith, ints, l))) (nonzero_at (a -ℤ pos 1) ((b -ℤ pos 1) ∷ []) (omega (arith, ints, p, l))) (ap₂ (λ x y. x ∷ y ∷ []) (omega (arith, ints)) (omega (arith, ints)))))
    (λ (l : b ≤ℤ pos 1). by_lt_z (pos 0) b
    (λ (m : pos 0 <ℤ b).
    let e : b ≡ pos 1 = omega (arith, ints, l, m) in
    subst (Contains elements) (sym (only_module a b ((module_irreducible strict strict_system refl (a ∷ b ∷ [])).1 (i, e)))) (contains_there (pos 1 ∷ pos 0 ∷ []) (pos 1 ∷ pos 1 ∷ []) ((pos 1 ∷ pos 1 ∷ []) ∷ []) (contains_here (pos 1 ∷ pos 1 ∷ []) [])))
    (λ (m : b ≤ℤ pos 0).
    let e : b ≡ pos 0 = omega (arith, ints, q, m) in
    subst (Contains elements) (sym (only_one a b (record { irreducible = i; level_zero = λ t. e }))) (contains_here (pos 1 ∷ pos 0 ∷ []) ((pos 1 ∷ pos 1 ∷ []) ∷ []))))

differ : (pos 1 ∷ pos 0 ∷ []) ≢ (pos 1 ∷ pos 1 ∷ [])
differ e = let f : pos 0 ≡ pos 1 = cc in omega (arith, ints, f)

number_two : HasNumber (IsIrreducible (IsInStage Lattice rows)) 2
number_two = record {
  list = elements;
  lists = record {
    in_order = ((differ, tt), (tt, tt));
    only = (in_stage (pos 1 ∷ pos 0 ∷ []) one_zero.irreducible, (in_stage (pos 1 ∷ pos 1 ∷ []) ((module_irreducible strict strict_system refl (pos 1 ∷ pos 1 ∷ [])).0 one_one).0, tt));
    each = λ x i.
        let u = two x i.member.in_lattice.width in
        subst (Contains elements) (sym u.2) (listed u.0 u.1 (subst (IsIrreducible (IsMember strict)) u.2 (IsIrreducible-where (IsInStage Lattice rows) (IsMember strict) from_stage to_stage x i)));
  };
  size = refl;
}

-- ---- what a watch is told in dual mode: stage 2, with the irreducible elements (1, 0) and (1, 1)
pub strict_told : AreToldOf Dual strict ((2, 2) ∷ [])
strict_told = inr (
  strict_positive,
  record {
    equations = [];
    rows = rows;
    are_equations = no_equations;
    are_rows = two_rows;
    stages = record {
      ordered = rows;
      rank = 2;
      in_order = record {
        first = rows;
        others = [];
        separates = fresh (record { vector = pos 1 ∷ pos 0 ∷ []; in_lattice = all_whole (pos 1 ∷ pos 0 ∷ []) refl; zero_at = tt; nonzero_at = λ e. omega (arith, ints, e) })
            (fresh (record { vector = pos 1 ∷ pos 1 ∷ []; in_lattice = all_whole (pos 1 ∷ pos 1 ∷ []) refl; zero_at = (refl, tt); nonzero_at = λ e. omega (arith, ints, e) }) none);
        whole = refl;
      };
      has_rank = rank_two;
      counts = ((refl, number_two), tt);
    };
  },
)
