-- A worked example whole: one coordinate x, strictly above 0, and the vectors 3 and 0 asked.
use Rattle.std.proofs.Common.{◌≡◌, [], ◌∷◌, Some, None, true, false, ℤ, pos, negsuc, ◌-ℤ◌, ◌≤ℤ◌, Contains, refl, sym, ap₂, ◌∙◌, subst, arith}
use Rattle.std.specs.Prelude.{◌<ℤ◌}
use Rattle.std.proofs.lemmas.Int.{ints, by_lt_z}
use Rattle.nz_spec.specs.Vectors.{Vector, plus, opposite, IsZero, IsNonzero}
use Rattle.nz_spec.specs.Systems.{System, IsMember}
use Rattle.nz_spec.specs.Monoids.{HasLevel, IsModuleGenerator, IsPositive}
use Rattle.nz_spec.specs.Elements.{IsHilbertElement, IsHilbertBasis, AreModuleGenerators}
use Rattle.nz_spec.specs.Constraints.{NotNegative, AreEquationsOf, AreRowsOf}
use Rattle.nz_spec.specs.Parts.{leaves, takes, HasParts}
use Rattle.nz_spec.proofs.Examples.{two, above_level, above_level_module, above_level_recession}
use Rattle.nz_spec.proofs.ListLaws.{contains_here}
use Rattle.nz_order.proofs.SideLaws.{IsIrreducible-where}
use Rattle.nz_vec.specs.declared.constraints.Constraint.TheVariants as vec
use Rattle.nz_member.specs.declared.reply.Reply.TheVariants.{Parts, Outside}
use Rattle.nz_input.specs.declared.kind.Mode.{Mode}
use Rattle.nz_system.specs.declared.asked.GoalSet.{GoalSet}
use Rattle.nz_blocks.specs.Outcomes.{OutcomeData}
use Rattle.nz_frame.specs.Constraining.{IsOutside}
use Rattle.nz_solve.specs.Solutions.{IsSolution}
use Rattle.nz_frame.proofs.ConstraintLists.{put_together}

abbrev pub strict : System
strict = record {
  width = 2;
  level = true;
  eq = [];
  cg = [];
  ge = (pos 1 ∷ negsuc 0 ∷ []) ∷ (pos 0 ∷ pos 1 ∷ []) ∷ [];
  gens = None;
  lat = None;
  grading = None;
  asked = Some ((pos 3 ∷ []) ∷ (pos 0 ∷ []) ∷ []);
}

to_strict : (x : Vector) → IsMember above_level x → IsMember strict x
to_strict x m = record { width = m.width; equations = m.equations; congruences = m.congruences; inequalities = m.inequalities; generated = m.generated; in_group = m.in_group }

from_strict : (x : Vector) → IsMember strict x → IsMember above_level x
from_strict x m = record { width = m.width; equations = m.equations; congruences = m.congruences; inequalities = m.inequalities; generated = m.generated; in_group = m.in_group }

pub member_at : (a b : ℤ) → pos 0 ≤ℤ (a -ℤ b) → pos 0 ≤ℤ b → IsMember strict (a ∷ b ∷ [])
member_at a b h k = record { width = refl; equations = tt; congruences = tt; inequalities = (omega (arith, ints, h), (omega (arith, ints, k), tt)); generated = tt; in_group = tt }

-- ---- no line
zero_both : (a b : ℤ) → IsMember strict (a ∷ b ∷ []) → IsMember strict (opposite (a ∷ b ∷ [])) → IsZero (a ∷ b ∷ [])
zero_both a b p q =
    let h = p.inequalities.0 in
    let k = p.inequalities.1.0 in
    let l = q.inequalities.0 in
    let m = q.inequalities.1.0 in
    (omega (arith, ints, h, k, l, m), (omega (arith, ints, h, k, l, m), tt))

pub strict_positive : IsPositive (IsMember strict)
strict_positive v i =
    let u = two v i.forward.width in
    i.nonzero (subst IsZero (sym u.2) (zero_both u.0 u.1 (subst (IsMember strict) u.2 i.forward) (subst (λ (x : Vector). IsMember strict (opposite x)) u.2 i.backward)))

-- ---- the Hilbert basis
pub one_zero : IsHilbertElement strict (pos 1 ∷ pos 0 ∷ [])
one_zero = record { irreducible = IsIrreducible-where (IsMember above_level) (IsMember strict) to_strict from_strict (pos 1 ∷ pos 0 ∷ []) above_level_recession.irreducible; level_zero = λ t. refl }

pub nonzero_at : (a : ℤ) (x : Vector) → pos 0 <ℤ a → IsNonzero (a ∷ x)
nonzero_at a x p z = let e = z.0 in omega (arith, ints, p, e)

split_zero : (a b : ℤ) → b ≡ pos 0 → plus (pos 1 ∷ pos 0 ∷ []) ((a -ℤ pos 1) ∷ pos 0 ∷ []) ≡ a ∷ b ∷ []
split_zero a b e = ap₂ (λ x y. x ∷ y ∷ []) (omega (arith, ints)) (sym e)

pub only_one : (a b : ℤ) → IsHilbertElement strict (a ∷ b ∷ []) → a ∷ b ∷ [] ≡ pos 1 ∷ pos 0 ∷ []
only_one a b h =
    let e : b ≡ pos 0 = h.level_zero refl in
    let p = h.irreducible.member.inequalities.0 in
    let q = h.irreducible.member.inequalities.1.0 in
    by_lt_z (pos 1) a
    (λ (l : pos 1 <ℤ a). absurd (h.irreducible.no_sum (pos 1 ∷ pos 0 ∷ []) ((a -ℤ pos 1) ∷ pos 0 ∷ []) (member_at (pos 1) (pos 0) (omega (arith, ints)) (omega (arith, ints))) (nonzero_at (pos 1) (pos 0 ∷ []) (omega (arith, ints)))
    (member_at (a -ℤ pos 1) (pos 0) (omega (arith, ints, l)) (omega (arith, ints))) (nonzero_at (a -ℤ pos 1) (pos 0 ∷ []) (omega (arith, ints, l))) (split_zero a b e)))
    (λ (l : a ≤ℤ pos 1). by_lt_z (pos 0) a
    (λ (m : pos 0 <ℤ a). ap₂ (λ x y. x ∷ y ∷ []) (omega (arith, ints, l, m)) e)
    (λ (m : a ≤ℤ pos 0). absurd (h.irreducible.nonzero (omega (arith, ints, p, q, m, e), (e, tt)))))

pub strict_basis : IsHilbertBasis strict ((pos 1 ∷ pos 0 ∷ []) ∷ [])
strict_basis = record {
  in_order = (tt, tt);
  only = (one_zero, tt);
  each = λ x h. let u = two x h.irreducible.member.width in
      subst (Contains ((pos 1 ∷ pos 0 ∷ []) ∷ [])) (sym (u.2 ∙ only_one u.0 u.1 (subst (IsHilbertElement strict) u.2 h))) (contains_here (pos 1 ∷ pos 0 ∷ []) []);
}

-- ---- the module generators
level_to : (l : ℤ) (x : Vector) → HasLevel (IsMember strict) l x → HasLevel (IsMember above_level) l x
level_to l x h = record { member = from_strict x h.member; at_level = h.at_level }

pub one_one : IsModuleGenerator (IsMember strict) (pos 1 ∷ pos 1 ∷ [])
one_one =
    let g = above_level_module in
    record {
      of_level_one = record { member = to_strict (pos 1 ∷ pos 1 ∷ []) g.of_level_one.member; at_level = refl };
      no_sum = λ y z my mz nz e. g.no_sum y z (level_to (pos 1) y my) (level_to (pos 0) z mz) nz e;
    }

split_one : (a b : ℤ) → b ≡ pos 1 → plus (pos 1 ∷ pos 1 ∷ []) ((a -ℤ pos 1) ∷ pos 0 ∷ []) ≡ a ∷ b ∷ []
split_one a b e = ap₂ (λ x y. x ∷ y ∷ []) (omega (arith, ints)) (sym e)

pub only_module : (a b : ℤ) → IsModuleGenerator (IsMember strict) (a ∷ b ∷ []) → a ∷ b ∷ [] ≡ pos 1 ∷ pos 1 ∷ []
only_module a b h =
    let e : b ≡ pos 1 = h.of_level_one.at_level in
    let p = h.of_level_one.member.inequalities.0 in
    by_lt_z (pos 1) a
    (λ (l : pos 1 <ℤ a). absurd (h.no_sum (pos 1 ∷ pos 1 ∷ []) ((a -ℤ pos 1) ∷ pos 0 ∷ []) (record { member = member_at (pos 1) (pos 1) (omega (arith, ints)) (omega (arith, ints)); at_level = refl })
    (record { member = member_at (a -ℤ pos 1) (pos 0) (omega (arith, ints, l)) (omega (arith, ints)); at_level = refl }) (nonzero_at (a -ℤ pos 1) (pos 0 ∷ []) (omega (arith, ints, l))) (split_one a b e)))
    (λ (l : a ≤ℤ pos 1). ap₂ (λ x y. x ∷ y ∷ []) (omega (arith, ints, l, p, e)) e)

pub strict_modules : AreModuleGenerators strict ((pos 1 ∷ pos 1 ∷ []) ∷ [])
strict_modules = record {
  in_order = (tt, tt);
  only = (one_one, tt);
  each = λ x h. let u = two x h.of_level_one.member.width in
      subst (Contains ((pos 1 ∷ pos 1 ∷ []) ∷ [])) (sym (u.2 ∙ only_module u.0 u.1 (subst (IsModuleGenerator (IsMember strict)) u.2 h))) (contains_here (pos 1 ∷ pos 1 ∷ []) []);
}

-- ---- the asked vectors
cannot_take : ¬ IsMember strict (pos 0 ∷ pos 1 ∷ [])
cannot_take m = let h = m.inequalities.0 in omega (arith, ints, h)

three_parts : HasParts (IsMember strict) ((pos 1 ∷ pos 0 ∷ []) ∷ []) (Some ((pos 1 ∷ pos 1 ∷ []) ∷ [])) (pos 3 ∷ pos 1 ∷ []) (2 ∷ []) (Some 0)
three_parts = record {
  rest = pos 1 ∷ pos 1 ∷ [];
  taken = takes [] [] (pos 1 ∷ pos 0 ∷ []) refl tt (member_at (pos 2) (pos 1) (omega (arith, ints)) (omega (arith, ints)))
      (takes [] [] (pos 1 ∷ pos 0 ∷ []) refl tt (member_at (pos 1) (pos 1) (omega (arith, ints)) (omega (arith, ints)))
      (leaves ((λ m. cannot_take m), tt)));
  names = refl;
}

pub no_equations : AreEquationsOf strict []
no_equations = record { of_gens = []; are_of_gens = refl; whole = refl }

pub two_rows : AreRowsOf strict ((pos 1 ∷ negsuc 0 ∷ []) ∷ (pos 0 ∷ pos 1 ∷ []) ∷ [])
two_rows = record { of_gens = []; are_of_gens = refl; whole = refl }

-- 0, taken with level 1, is not strictly above 0
pub zero_outside : IsOutside strict (pos 0 ∷ pos 1 ∷ []) (NotNegative (pos 1 ∷ negsuc 0 ∷ []))
zero_outside = record {
  constraints = NotNegative (pos 1 ∷ negsuc 0 ∷ []) ∷ NotNegative (pos 0 ∷ pos 1 ∷ []) ∷ [];
  are_all = put_together strict [] ((pos 1 ∷ negsuc 0 ∷ []) ∷ (pos 0 ∷ pos 1 ∷ []) ∷ []) no_equations two_rows refl;
  first = record { before = []; after = NotNegative (pos 0 ∷ pos 1 ∷ []) ∷ []; whole = refl; met = tt; broken = λ h. omega (arith, ints, h) };
}

-- ---- the outcome, in both modes
abbrev pub basis_goal : GoalSet
basis_goal = record { hilbert = true; rays = false; hyperplanes = false; degree_one = false; modules = false; cover = false; lattice_points = false }

abbrev pub strict_outcome : OutcomeData
strict_outcome = record {
  amb = 1;
  level = true;
  denominator = None;
  modules = Some ((pos 1 ∷ pos 1 ∷ []) ∷ []);
  hilbert = Some ((pos 1 ∷ pos 0 ∷ []) ∷ []);
  degree_one = None;
  vertices = None;
  rays = None;
  support = None;
  equations = None;
  generators = None;
  simplices = None;
  asked = Some ((pos 3 ∷ [], Parts (Some 0) (pos 2 ∷ [])) ∷ (pos 0 ∷ [], Outside (vec.NotNegative (pos 1 ∷ negsuc 0 ∷ []))) ∷ []);
}

pub strict_solved : (mode : Mode) → IsSolution (record { system = strict; goals = basis_goal; mode = mode }) strict_outcome
strict_solved mode = record {
  positive = strict_positive;
  graded = tt;
  amb = refl;
  level = refl;
  denominator = refl;
  modules = strict_modules;
  hilbert = strict_basis;
  degree_one = refl;
  vertices = refl;
  rays = refl;
  description = (refl, refl);
  cover = (refl, refl);
  asked = record {
    hilbert = (pos 1 ∷ pos 0 ∷ []) ∷ [];
    basis = strict_basis;
    modules = Some ((pos 1 ∷ pos 1 ∷ []) ∷ []);
    are_modules = strict_modules;
    each = (
      (refl, record { member = member_at (pos 3) (pos 1) (omega (arith, ints)) (omega (arith, ints)); times = 2 ∷ []; counted = refl; parts = three_parts }),
      ((refl, zero_outside), tt),
    );
  };
}
