-- A worked example: the cone and the group of (1, 0) and (1, 2), and the constraint that (1, 1) breaks.
use Rattle.std.proofs.Common.{◌≡◌, ℕ, zero, suc, ◌<◌, List, [], ◌∷◌, ◌++◌, map, Some, None, true, false, pos, refl, sym, ap, ◌∙◌, arith, append-nil}
use Rattle.std.specs.Prelude.{◌≤◌, unsigned_abs}
use Rattle.std.proofs.lemmas.Int.{ints}
use Rattle.nz_spec.specs.Vectors.{Vector, entry, IsMultipleOf}
use Rattle.nz_spec.specs.Forms.{IsOtherColumn, IsDualForm}
use Rattle.nz_spec.specs.Systems.{Congruence, System, IsSystem, IsMember}
use Rattle.nz_spec.specs.Constraints.{Constraint, Zero, Multiple, NotNegative, constraint_of, AreConstraints, IsFirstBroken}
use Rattle.nz_spec.proofs.ConstraintLaws.{MeetsAll-member}
use Rattle.nz_spec.proofs.Examples.{even_second, one_one_in_cone}
use Rattle.nz_sweep.specs.Clearing.{Valued, IsReduced, IsPivot, IsRound, IsCleared}
use Rattle.nz_sweep.specs.Clearing as rounds
use Rattle.nz_sweep.specs.Generating.{AreSetApart}
use Rattle.nz_sweep.specs.Generating as apart
use Rattle.nz_sweep.specs.GroupConstraints.{none, pass, keep}
use Rattle.nz_frame.specs.Constraining.{AreSweptCongruences, AreAllConstraints}
use Rattle.nz_frame.proofs.SweepLaws.{one_swept}

abbrev vectors : List Vector
vectors = (pos 1 ∷ pos 0 ∷ []) ∷ (pos 1 ∷ pos 2 ∷ []) ∷ []

abbrev base : List Vector
base = (pos 1 ∷ pos 0 ∷ []) ∷ (pos 0 ∷ pos 2 ∷ []) ∷ []

abbrev first : Valued
first = record { vector = pos 1 ∷ pos 0 ∷ []; value = pos 1 }

abbrev second : Valued
second = record { vector = pos 1 ∷ pos 2 ∷ []; value = pos 1 }

abbrev left : Valued
left = record { vector = pos 0 ∷ pos 2 ∷ []; value = pos 0 }

abbrev last : Valued
last = record { vector = pos 0 ∷ pos 2 ∷ []; value = pos 2 }

-- (1, 0) is taken once from (1, 2)
reduced : IsReduced first second left
reduced = record { q = pos 1; floor = record { above = λ p. (omega (arith, ints), omega (arith, ints)); below = λ p. absurd (let b : ⊥ = omega (arith, ints, p) in b) }; vector = refl; value = refl }

pivot : IsPivot (pos 1 ∷ pos 1 ∷ []) 2 0
pivot = record {
  within = omega arith;
  nonzero = λ e. omega (arith, ints, e);
  least = λ k l n. at_least k l;
  first = λ k l n. absurd (let b : ⊥ = omega (arith, l) in b);
}
  where
    at_least : (k : ℕ) → k < 2 → unsigned_abs (entry (pos 1 ∷ pos 1 ∷ []) 0) ≤ unsigned_abs (entry (pos 1 ∷ pos 1 ∷ []) k)
    at_least zero l = omega arith
    at_least (suc zero) l = omega arith
    at_least (suc (suc k)) l = absurd (let b : ⊥ = omega (arith, l) in b)

cleared : IsCleared (first ∷ second ∷ []) 0 first (left ∷ [])
cleared = record {
  rounds = rounds.more rounds.none (record { place = 0; own = first; others = left ∷ []; pivot = pivot; is_own = refl; reduced = (reduced, tt); same = refl });
  within = omega arith;
  nonzero = λ e. omega (arith, ints, e);
  zero = (refl, tt);
}

cleared_last : IsCleared (last ∷ []) 0 last []
cleared_last = record { rounds = rounds.none; within = omega arith; nonzero = λ e. omega (arith, ints, e); zero = tt }

set_apart : AreSetApart 2 0 vectors base
set_apart = apart.take {values = first ∷ second ∷ []} {place = 0} {own = first} {others = left ∷ []} ((refl, refl), ((refl, refl), tt)) cleared
    (apart.take {values = last ∷ []} {place = 0} {own = last} {others = []} ((refl, refl), tt) cleared_last apart.done)

-- both columns are key columns
no_other : (j : ℕ) → IsOtherColumn 2 base j → ⊥
no_other zero o = o.not_key (pos 1 ∷ pos 0 ∷ [], record { multiple = pos 1; factors = pos 1 ∷ pos 0 ∷ []; positive = omega (arith, ints); one_each = refl; each = (tt, (tt, tt)); same = refl }, (λ e. omega (arith, ints, e)))
no_other (suc zero) o = o.not_key (pos 0 ∷ pos 2 ∷ [], record { multiple = pos 1; factors = pos 0 ∷ pos 1 ∷ []; positive = omega (arith, ints); one_each = refl; each = (tt, (tt, tt)); same = refl }, (refl, (λ e. omega (arith, ints, e))))
no_other (suc (suc j)) o = let l = o.within in omega (arith, l)

first_dual : IsDualForm 2 base (pos 1 ∷ pos 0 ∷ []) (pos 1 ∷ pos 0 ∷ [])
first_dual = record { earlier = []; later = (pos 0 ∷ pos 2 ∷ []) ∷ []; whole = refl; width = refl; primitive = λ d h. h.0; zero_at = λ j o. absurd (no_other j o); positive = omega (arith, ints); zero_on = (refl, tt) }

second_dual : IsDualForm 2 base (pos 0 ∷ pos 2 ∷ []) (pos 0 ∷ pos 1 ∷ [])
second_dual = record { earlier = (pos 1 ∷ pos 0 ∷ []) ∷ []; later = []; whole = refl; width = refl; primitive = λ d h. h.1.0; zero_at = λ j o. absurd (no_other j o); positive = omega (arith, ints); zero_on = (refl, tt) }

abbrev pub even : Congruence
even = record { form = pos 0 ∷ pos 1 ∷ []; modulus = pos 2 }

-- the second entry is to be even
pub swept_even : AreSweptCongruences 2 vectors (even ∷ [])
swept_even = record {
  base = base;
  set_apart = set_apart;
  congruences = record {
    coordinates = record { form = pos 1 ∷ pos 0 ∷ []; divisor = pos 1 } ∷ record { form = pos 0 ∷ pos 1 ∷ []; divisor = pos 2 } ∷ [];
    dual = (record { form = first_dual; divisor = refl }, (record { form = second_dual; divisor = refl }, tt));
    above_one = pass refl (keep (omega (arith, ints)) none);
  };
}

pub even_second_system : IsSystem even_second
even_second_system = record {
  at_least = omega arith;
  at_most = omega arith;
  eq_width = tt;
  cg_width = tt;
  ge_width = tt;
  gens_width = (refl, (refl, tt));
  grading_width = tt;
  asked_width = tt;
  moduli = tt;
  no_level_degree = λ h. tt;
  level_form = λ h. absurd (let e : false ≡ true = h in cc);
  lat_is_gens = (refl, refl);
}

-- ---- (1, 1) is in the cone, so nothing fails before the congruence
abbrev only_cone : System
only_cone = record { width = 2; level = false; eq = []; cg = []; ge = []; gens = Some vectors; lat = None; grading = None; asked = None }

only_cone_system : IsSystem only_cone
only_cone_system = record {
  at_least = omega arith;
  at_most = omega arith;
  eq_width = tt;
  cg_width = tt;
  ge_width = tt;
  gens_width = (refl, (refl, tt));
  grading_width = tt;
  asked_width = tt;
  moduli = tt;
  no_level_degree = λ h. tt;
  level_form = λ h. absurd (let e : false ≡ true = h in cc);
  lat_is_gens = tt;
}

in_only_cone : IsMember only_cone (pos 1 ∷ pos 1 ∷ [])
in_only_cone = record { width = refl; equations = tt; congruences = tt; inequalities = tt; generated = one_one_in_cone; in_group = tt }

not_even : ¬ IsMultipleOf (pos 2) (pos 1)
not_even m = let k = m.0 in let e = m.1 in omega (arith, ints, e)

pub one_one_outside : (cs : List Constraint) → AreAllConstraints even_second cs → IsFirstBroken cs (pos 1 ∷ pos 1 ∷ []) (Multiple (pos 0 ∷ pos 1 ∷ []) (pos 2))
one_one_outside cs a =
    let c = a.constraints in
    let front = map Zero c.equations ++ map constraint_of [] ++ map NotNegative c.rows in
    let g : a.of_group ≡ even ∷ [] = one_swept 2 vectors a.of_group (even ∷ []) (refl, (refl, tt)) a.are_of_group swept_even in
    let e = c.are_equations in
    let r = c.are_rows in
    let before : AreConstraints only_cone [] front = record {
      equations = c.equations;
      rows = c.rows;
      are_equations = record { of_gens = e.of_gens; are_of_gens = e.are_of_gens; whole = e.whole };
      are_rows = record { of_gens = r.of_gens; are_of_gens = r.are_of_gens; whole = r.whole };
      no_group = λ k. refl;
      whole = sym (append-nil front);
    } in
    record {
      before = front;
      after = [];
      whole = c.whole ∙ ap (λ (gs : List Congruence). front ++ map constraint_of gs) g;
      met = MeetsAll-member only_cone only_cone_system [] front before tt (pos 1 ∷ pos 1 ∷ []) in_only_cone;
      broken = λ m. not_even m;
    }
