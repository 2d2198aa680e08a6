-- Where the constraints describe the members of a system, its lists are the element lists, and its parts the parts.
use Rattle.std.proofs.Common.{◌≡◌, ℕ, List, length, pos, Option, Some, None, IsTrue, true, false, sym, ◌∙◌, subst}
use Rattle.std.specs.List.{AllByRecursion as Each}
use Rattle.nz_spec.specs.Vectors.{Vector, minus, opposite, HasWidth, level_of}
use Rattle.nz_spec.specs.Systems.{System, IsSystem, IsMember}
use Rattle.nz_spec.specs.Monoids.{IsPositive, IsIrreducible, IsModuleGenerator}
use Rattle.nz_spec.specs.Elements.{IsHilbertElement, IsHilbertBasis, AreModuleGenerators}
use Rattle.nz_spec.specs.Constraints.{Constraint}
use Rattle.nz_spec.specs.Parts.{CanTake, TakesApart, leaves, takes, HasParts}
use Rattle.nz_spec.proofs.ListLaws.{Each-weaker}
use Rattle.nz_spec.proofs.LevelLaws.{level_of-member}
use Rattle.nz_order.proofs.SideLaws.{IsIrreducible-where}
use Rattle.nz_member.specs.Replies.{IsInMonoid, HasJust, IsTaken, HasLevels, AreElementLists}
use Rattle.nz_member.specs.Members.{DescribeMembers}

-- sets with the same members have the same module generators
generator_where : (P Q : Vector → Type 0) → ((x : Vector) → P x → Q x) → ((x : Vector) → Q x → P x) → (x : Vector) → IsModuleGenerator P x → IsModuleGenerator Q x
generator_where P Q to from x g = record {
  of_level_one = record { member = to x g.of_level_one.member; at_level = g.of_level_one.at_level };
  no_sum = λ y z my mz nz e. g.no_sum y z (record { member = from y my.member; at_level = my.at_level }) (record { member = from z mz.member; at_level = mz.at_level }) nz e;
}

-- and the same parts
none_where : (P Q : Vector → Type 0) → ((x : Vector) → Q x → P x) → (x : Vector) (es : List Vector) → Each (λ e. ¬ CanTake P x e) es → Each (λ e. ¬ CanTake Q x e) es
none_where P Q from x es h = Each-weaker (λ e. ¬ CanTake P x e) (λ e. ¬ CanTake Q x e) (λ e n q. n (from (minus x e) q)) es h

apart_where : (P Q : Vector → Type 0) → ((x : Vector) → P x → Q x) → ((x : Vector) → Q x → P x) → (elements : List Vector) {x : Vector} {counts : List ℕ} {rest : Vector} → TakesApart P elements x counts rest → TakesApart Q elements x counts rest
apart_where P Q to from elements (leaves {x = x} none) = leaves (none_where P Q from x elements none)
apart_where P Q to from elements (takes {x = x} before after e whole none can t) = takes before after e whole (none_where P Q from x before none) (to (minus x e) can) (apart_where P Q to from elements t)

not_tall : (s : System) → s.level ≡ false → ¬ IsTrue s.level
not_tall s flat h = let f : false ≡ true = sym flat ∙ h in cc

module _ (s : System) (cs : List Constraint) (describe : DescribeMembers s cs) where
  to_member : (x : Vector) → IsInMonoid s.width cs x → IsMember s x
  to_member x h = (describe x).0 h

  from_member : (x : Vector) → IsMember s x → IsInMonoid s.width cs x
  from_member x h = (describe x).1 h

  positive_there : IsPositive (IsMember s) → IsPositive (IsInMonoid s.width cs)
  positive_there positive v line = positive v (record { nonzero = line.nonzero; forward = to_member v line.forward; backward = to_member (opposite v) line.backward })

  irreducible_there : (x : Vector) → IsIrreducible (IsMember s) x → IsIrreducible (IsInMonoid s.width cs) x
  irreducible_there x i = IsIrreducible-where (IsMember s) (IsInMonoid s.width cs) from_member to_member x i

  irreducible_back : (x : Vector) → IsIrreducible (IsInMonoid s.width cs) x → IsIrreducible (IsMember s) x
  irreducible_back x i = IsIrreducible-where (IsInMonoid s.width cs) (IsMember s) to_member from_member x i

  basis_taken : s.level ≡ false → (hilbert : List Vector) → IsHilbertBasis s hilbert → HasJust (IsTaken s.width cs None) hilbert
  basis_taken flat hilbert basis = record {
    only = Each-weaker (IsHilbertElement s) (IsTaken s.width cs None) (λ x h. irreducible_there x h.irreducible) hilbert basis.only;
    each = λ x i. basis.each x (record { irreducible = irreducible_back x i; level_zero = λ t. absurd (not_tall s flat t) });
  }

  flat_taken : IsTrue s.level → (hilbert modules : List Vector) → IsHilbertBasis s hilbert → HasJust (IsTaken s.width cs (Some modules)) hilbert
  flat_taken tall hilbert modules basis = record {
    only = Each-weaker (IsHilbertElement s) (IsTaken s.width cs (Some modules)) (λ x h. (irreducible_there x h.irreducible, h.level_zero tall)) hilbert basis.only;
    each = λ x i. basis.each x (record { irreducible = irreducible_back x i.0; level_zero = λ t. i.1 });
  }

  generators_there : (modules : List Vector) → AreModuleGenerators s modules → HasJust (IsModuleGenerator (IsInMonoid s.width cs)) modules
  generators_there modules are = record {
    only = Each-weaker (IsModuleGenerator (IsMember s)) (IsModuleGenerator (IsInMonoid s.width cs)) (generator_where (IsMember s) (IsInMonoid s.width cs) from_member to_member) modules are.only;
    each = λ x g. are.each x (generator_where (IsInMonoid s.width cs) (IsMember s) to_member from_member x g);
  }

  levels_there : IsSystem s → IsTrue s.level → HasLevels s.width cs
  levels_there is tall y m = level_of-member s is tall y (to_member y m)

pub basis_is_list : (s : System) → s.level ≡ false → (cs : List Constraint) → DescribeMembers s cs → IsPositive (IsMember s) → (hilbert : List Vector) → IsHilbertBasis s hilbert → (x : Vector) → HasWidth s.width x → AreElementLists cs x hilbert None
basis_is_list s flat cs describe positive hilbert basis x l = record {
  positive = subst (λ (n : ℕ). IsPositive (IsInMonoid n cs)) (sym l) (positive_there s cs describe positive);
  elements = subst (λ (n : ℕ). HasJust (IsTaken n cs None) hilbert) (sym l) (basis_taken s cs describe flat hilbert basis);
  generators = tt;
}

pub modules_are_lists : (s : System) → IsSystem s → IsTrue s.level → (cs : List Constraint) → DescribeMembers s cs → IsPositive (IsMember s) → (hilbert modules : List Vector) → IsHilbertBasis s hilbert → AreModuleGenerators s modules → (x : Vector) → HasWidth s.width x → level_of x ≡ pos 1 → AreElementLists cs x hilbert (Some modules)
modules_are_lists s is tall cs describe positive hilbert modules basis are x l one = record {
  positive = subst (λ (n : ℕ). IsPositive (IsInMonoid n cs)) (sym l) (positive_there s cs describe positive);
  elements = subst (λ (n : ℕ). HasJust (IsTaken n cs (Some modules)) hilbert) (sym l) (flat_taken s cs describe tall hilbert modules basis);
  generators = (
    subst (λ (n : ℕ). HasJust (IsModuleGenerator (IsInMonoid n cs)) modules) (sym l) (generators_there s cs describe modules are),
    subst (λ (n : ℕ). HasLevels n cs) (sym l) (levels_there s cs describe is tall),
    one,
  );
}

pub parts_of_members : (s : System) (cs : List Constraint) → DescribeMembers s cs → (x : Vector) → HasWidth s.width x → (hilbert : List Vector) (modules : Option (List Vector)) (times : List ℕ) (place : Option ℕ) → HasParts (IsInMonoid (length x) cs) hilbert modules x times place → HasParts (IsMember s) hilbert modules x times place
parts_of_members s cs describe x l hilbert modules times place h =
    let k = subst (λ (n : ℕ). HasParts (IsInMonoid n cs) hilbert modules x times place) l h in
    record { rest = k.rest; taken = apart_where (IsInMonoid s.width cs) (IsMember s) (to_member s cs describe) (from_member s cs describe) hilbert k.taken; names = k.names }
