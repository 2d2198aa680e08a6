-- The lists of a draft, with what rows give behind them.
use Rattle.std.specs.Prelude.{List, [], ◌∷◌, ◌++◌}
use Rattle.nz_spec.specs.Constraints.{Multiple as IsMultiple}
use Rattle.nz_system.specs.declared.contribution.Contribution.{Contribution}
use Rattle.nz_system.specs.declared.contribution.Contribution.TheVariants.{Zero, Multiple, NotNegative, Generator, LatticeGenerator, Degree, Asked}
use Rattle.nz_system.specs.declared.draft.Draft.{Draft}

-- nothing yet
abbrev pub blank : Draft
blank = record { equations = []; congruences = []; inequalities = []; generators = []; lattice = []; degrees = []; asked = [] }

-- one more behind those of its sort
abbrev pub with_one : Draft → Contribution → Draft
with_one d (Zero f) = record { equations = d.equations ++ f ∷ []; congruences = d.congruences; inequalities = d.inequalities; generators = d.generators; lattice = d.lattice; degrees = d.degrees; asked = d.asked }
with_one d (Multiple f m) = record { equations = d.equations; congruences = d.congruences ++ IsMultiple f m ∷ []; inequalities = d.inequalities; generators = d.generators; lattice = d.lattice; degrees = d.degrees; asked = d.asked }
with_one d (NotNegative f) = record { equations = d.equations; congruences = d.congruences; inequalities = d.inequalities ++ f ∷ []; generators = d.generators; lattice = d.lattice; degrees = d.degrees; asked = d.asked }
with_one d (Generator v) = record { equations = d.equations; congruences = d.congruences; inequalities = d.inequalities; generators = d.generators ++ v ∷ []; lattice = d.lattice; degrees = d.degrees; asked = d.asked }
with_one d (LatticeGenerator v) = record { equations = d.equations; congruences = d.congruences; inequalities = d.inequalities; generators = d.generators; lattice = d.lattice ++ v ∷ []; degrees = d.degrees; asked = d.asked }
with_one d (Degree f) = record { equations = d.equations; congruences = d.congruences; inequalities = d.inequalities; generators = d.generators; lattice = d.lattice; degrees = d.degrees ++ f ∷ []; asked = d.asked }
with_one d (Asked v) = record { equations = d.equations; congruences = d.congruences; inequalities = d.inequalities; generators = d.generators; lattice = d.lattice; degrees = d.degrees; asked = d.asked ++ v ∷ [] }

-- all of a list, one after another
abbrev pub with_all : Draft → List Contribution → Draft
with_all d [] = d
with_all d (c ∷ cs) = with_all (with_one d c) cs
