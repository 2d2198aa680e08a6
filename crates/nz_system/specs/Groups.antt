-- Groups of kinds, and whether a list of items has one of a group.
use Rattle.std.specs.Prelude.{Bool, true, false, ◌||◌, List, [], ◌∷◌}
use Rattle.nz_input.specs.Files.{ItemData}
use Rattle.nz_input.specs.declared.kind.Kind.{Kind}
use Rattle.nz_input.specs.declared.kind.Kind.TheVariants as kind
use Rattle.nz_system.specs.declared.groups.Group.{Group}
use Rattle.nz_system.specs.declared.groups.Group.TheVariants.{Leveled, Generating, Bounding, Cone, ConeAndLattice, Vertices, Signs, StrictSigns, Grading, Ask, MonomialIdeal}

-- one such item makes the file inhomogeneous
abbrev pub is_leveled : Kind → Bool
is_leveled kind.StrictSigns = true
is_leveled kind.StrictInequalities = true
is_leveled kind.InhomInequalities = true
is_leveled kind.InhomEquations = true
is_leveled kind.InhomCongruences = true
is_leveled kind.Vertices = true
is_leveled kind.MonomialIdeal = true
is_leveled _ = false

-- a row is a generator
abbrev pub is_generating : Kind → Bool
is_generating kind.Cone = true
is_generating kind.ConeAndLattice = true
is_generating kind.Vertices = true
is_generating _ = false

-- one such item takes the place of the orthant
abbrev pub is_bounding : Kind → Bool
is_bounding kind.Cone = true
is_bounding kind.ConeAndLattice = true
is_bounding kind.Vertices = true
is_bounding kind.Inequalities = true
is_bounding kind.Signs = true
is_bounding kind.StrictSigns = true
is_bounding kind.StrictInequalities = true
is_bounding kind.InhomInequalities = true
is_bounding _ = false

-- the kinds of a group
abbrev pub includes : Group → Kind → Bool
includes Leveled k = is_leveled k
includes Generating k = is_generating k
includes Bounding k = is_bounding k
includes Cone kind.Cone = true
includes ConeAndLattice kind.ConeAndLattice = true
includes Vertices kind.Vertices = true
includes Signs kind.Signs = true
includes StrictSigns kind.StrictSigns = true
includes Grading kind.Grading = true
includes Ask kind.Ask = true
includes MonomialIdeal kind.MonomialIdeal = true
includes _ _ = false

-- some item is of the group, also one with no rows
abbrev pub occurs : Group → List ItemData → Bool
occurs group [] = false
occurs group (item ∷ items) = includes group item.kind || occurs group items
