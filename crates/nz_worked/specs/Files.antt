-- The worked files.
use Rattle.std.specs.Prelude.{ℕ, List, [], ◌∷◌, pos}
use Rattle.nz_spec.specs.Vectors.{Vector}
use Rattle.nz_input.specs.Files.{FileData}
use Rattle.nz_input.specs.declared.kind.Kind.TheVariants.{Cone}

-- `amb_space n` alone: the vectors with n entries of at least 0
abbrev pub orthant_file : ℕ → FileData
orthant_file n = record { amb = n; items = []; goals = [] }

-- `amb_space n` and `cone` with these rows
abbrev pub cone_file : ℕ → List Vector → FileData
cone_file n rows = record { amb = n; items = record { kind = Cone; rows = rows } ∷ []; goals = [] }

-- the cone of (1, 3) and (2, 1)
abbrev pub wedge_file : FileData
wedge_file = cone_file 2 ((pos 1 ∷ pos 3 ∷ []) ∷ (pos 2 ∷ pos 1 ∷ []) ∷ [])

-- the cone of (1000000007, 1) and (1000000006, 1)
abbrev pub narrow_file : FileData
narrow_file = cone_file 2 ((pos 1000000007 ∷ pos 1 ∷ []) ∷ (pos 1000000006 ∷ pos 1 ∷ []) ∷ [])

-- the cone of (10^18, 1, 0), (0, 10^18, 1) and (1, 0, 10^18)
abbrev pub far_file : FileData
far_file = cone_file 3 ((pos 1000000000000000000 ∷ pos 1 ∷ pos 0 ∷ []) ∷ (pos 0 ∷ pos 1000000000000000000 ∷ pos 1 ∷ []) ∷ (pos 1 ∷ pos 0 ∷ pos 1000000000000000000 ∷ []) ∷ [])
