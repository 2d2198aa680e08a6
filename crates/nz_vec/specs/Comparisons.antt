-- How two vectors stand in the lexicographic order.
use Rattle.std.specs.Prelude.{◌≡◌}
use Rattle.std.specs.declared.cmp.Ordering.{Ordering}
use Rattle.std.specs.declared.cmp.Ordering.TheVariants.{Less, Equal, Greater}
use Rattle.nz_spec.specs.Vectors.{Vector}
use Rattle.nz_spec.specs.Order.{IsLexBefore}

-- x is before y, the same, or after it
abbrev pub Compares : Vector → Vector → Ordering → Type 0
Compares x y Less = IsLexBefore x y
Compares x y Equal = x ≡ y
Compares x y Greater = IsLexBefore y x
