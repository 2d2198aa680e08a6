-- What a row of each kind gives to the system of its file.
use Rattle.std.specs.Prelude.{ℕ, zero, suc, ◌-◌, Bool, true, false, List, [], ◌∷◌, ◌++◌, length, take, map, ℤ, pos, negsuc}
use Rattle.std.specs.List.{flat_map}
use Rattle.nz_spec.specs.Vectors.{Vector, zero_vector, entry}
use Rattle.nz_input.specs.Files.{ItemData}
use Rattle.nz_input.specs.declared.kind.Kind.{Kind}
use Rattle.nz_input.specs.declared.kind.Kind.TheVariants.{Cone, ConeAndLattice, Inequalities, Equations, Congruences, Signs, StrictSigns, StrictInequalities, InhomInequalities, InhomEquations, InhomCongruences, Vertices, Grading, Ask, MonomialIdeal}
use Rattle.nz_system.specs.declared.contribution.Contribution.{Contribution}
use Rattle.nz_system.specs.declared.contribution.Contribution.TheVariants.{Zero, Multiple, NotNegative, Generator, LatticeGenerator, Degree, Asked}

-- the entry at the level coordinate, where there is one
abbrev pub at_level : Bool → ℤ → Vector
at_level true z = z ∷ []
at_level false z = []

-- a row of a homogeneous item: its level is 0 in an inhomogeneous file
abbrev pub extended : Bool → Vector → Vector
extended level row = row ++ at_level level (pos 0)

-- all entries but the last
abbrev pub front : Vector → Vector
front row = take (length row - 1) row

-- the last entry
abbrev pub last : Vector → ℤ
last row = entry row (length row - 1)

-- the form a·x_i over d coordinates, where i coordinates stand before x_i
abbrev pub coordinate_form : ℕ → ℕ → ℤ → Vector
coordinate_form d i a = zero_vector i ++ a ∷ zero_vector (d - suc i)

-- the sign 1 gives x_i and -1 gives -x_i, with this behind it; 0 gives nothing
abbrev pub sign_form : ℕ → Vector → ℕ → ℤ → List Vector
sign_form d behind i (pos zero) = []
sign_form d behind i a = (coordinate_form d i a ++ behind) ∷ []

-- the forms of the first signs of a row, in order
abbrev pub sign_forms : Vector → Vector → ℕ → List Vector
sign_forms row behind zero = []
sign_forms row behind (suc i) = sign_forms row behind i ++ sign_form (length row) behind i (entry row i)

-- what a row gives, where the file has a level or not; a file with `monomial_ideal` has its meaning by another one, and a row of it gives nothing here
abbrev pub contributions : Bool → Kind → Vector → List Contribution
contributions level Equations row = Zero (extended level row) ∷ []
contributions level Inequalities row = NotNegative (extended level row) ∷ []
contributions level Congruences row = Multiple (extended level (front row)) (last row) ∷ []
contributions level Signs row = map NotNegative (sign_forms row (at_level level (pos 0)) (length row))
contributions level StrictSigns row = map NotNegative (sign_forms row (negsuc 0 ∷ []) (length row))
contributions level StrictInequalities row = NotNegative (row ++ negsuc 0 ∷ []) ∷ []
contributions level InhomInequalities row = NotNegative row ∷ []
contributions level InhomEquations row = Zero row ∷ []
contributions level InhomCongruences row = Multiple (front row) (last row) ∷ []
contributions level Cone row = Generator (extended level row) ∷ []
contributions level ConeAndLattice row = Generator (extended level row) ∷ LatticeGenerator (extended level row) ∷ []
contributions level Vertices row = Generator row ∷ []
contributions level Grading row = Degree (extended level row) ∷ []
contributions level Ask row = Asked row ∷ []
contributions level MonomialIdeal row = []

-- what the items give, in file order, rows in order
abbrev pub given : Bool → List ItemData → List Contribution
given level items = flat_map (λ (item : ItemData). flat_map (contributions level item.kind) item.rows) items
