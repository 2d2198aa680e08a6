-- The ideal file of a file with `monomial_ideal`: the file whose system has the integral closure at level 1.
use Rattle.std.specs.Prelude.{ℕ, Bool, true, false, List, [], ◌∷◌, map, pos}
use Rattle.std.specs.List.{flat_map}
use Rattle.nz_spec.specs.Vectors.{Vector, unit_vectors}
use Rattle.nz_further.specs.Ideals.{at_level}
use Rattle.nz_input.specs.Files.{ItemData, FileData}
use Rattle.nz_input.specs.declared.kind.Kind.{Kind}
use Rattle.nz_input.specs.declared.kind.Kind.TheVariants as kind
use Rattle.nz_system.specs.declared.groups.Group.TheVariants as group
use Rattle.nz_system.specs.Groups.{occurs}
use Rattle.nz_system.specs.Meaning.{only_if}

-- the file has an item `monomial_ideal`, also with no rows
abbrev pub has_ideal : FileData → Bool
has_ideal file = occurs group.MonomialIdeal file.items

-- the rows of an item of this kind, where it is `monomial_ideal`
abbrev pub exponents_in : Kind → List Vector → List Vector
exponents_in kind.MonomialIdeal rows = rows
exponents_in _ rows = []

-- the exponents of all monomials, in order
abbrev pub exponents : List ItemData → List Vector
exponents items = flat_map (λ (item : ItemData). exponents_in item.kind item.rows) items

-- items of these kinds stand beside monomials, and stay as they are
abbrev pub stays : Kind → Bool
stays kind.Grading = true
stays kind.Ask = true
stays _ = false

-- the items that stay, in order
abbrev pub staying : List ItemData → List ItemData
staying items = flat_map (λ (item : ItemData). only_if (stays item.kind) (item ∷ [])) items

-- the vertices of the ideal file: each monomial with 1 added
abbrev pub vertex_item : List Vector → ItemData
vertex_item rows = record { kind = kind.Vertices; rows = map (at_level (pos 1)) rows }

-- its cone: the unit vectors
abbrev pub unit_item : ℕ → ItemData
unit_item d = record { kind = kind.Cone; rows = unit_vectors d }

-- the ideal file: the vertices, the cone, and then the items that stay, in the same space and with the same goals
abbrev pub ideal_file : FileData → FileData
ideal_file file = record {
  amb = file.amb;
  items = vertex_item (exponents file.items) ∷ unit_item file.amb ∷ staying file.items;
  goals = file.goals;
}
