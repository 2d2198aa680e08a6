-- A constraint over a type of integers, as a constraint of the definitions.
use Rattle.std.specs.Prelude.{ℤ}
use Rattle.nz_spec.specs.Constraints.{Constraint as Condition, Zero as IsZero, Multiple as IsMultiple, NotNegative as IsNotNegative}
use Rattle.nz_vec.specs.declared.constraints.Constraint.{Constraint}
use Rattle.nz_vec.specs.declared.constraints.Constraint.TheVariants.{Zero, Multiple, NotNegative}

-- the same condition, on the integers that the entries and the modulus stand for
abbrev pub condition_of : {T : Type 0} → (T → ℤ) → Constraint T → Condition
condition_of integer (Zero f) = IsZero f
condition_of integer (Multiple f m) = IsMultiple f (integer m)
condition_of integer (NotNegative f) = IsNotNegative f
