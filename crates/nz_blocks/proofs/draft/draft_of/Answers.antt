use Rattle.std.proofs.Common.{◌<◌, ◌∷◌, [], ℕ, map, option_map, subst, IfSome}
use Rattle.std.specs.List.{AllByRecursion as Each}
use Rattle.nz_blocks.specs.Output.{from_one}
use Rattle.nz_blocks.proofs.OneOutcome.{same_fields}
use Rattle.nz_blocks.proofs.DraftReadings.{places_for}
use Rattle.nz_blocks.proofs.draft.draft_of.Goals as goal

pub returns-in-Err-clause-whole : goal.returns-in-Err-clause-whole
returns-in-Err-clause-whole c = λ o places amb level denominator lists asked.
    let rows = c.taken-rows.ensures (o.modules ∷ o.hilbert ∷ o.degree_one ∷ o.vertices ∷ o.rays ∷ o.support ∷ o.equations ∷ o.generators ∷ []) (option_map (map from_one) o.simplices) lists in
    let generators = c.taken-generators.ensures (o.modules ∷ o.hilbert ∷ o.degree_one ∷ o.vertices ∷ o.rays ∷ o.support ∷ o.equations ∷ []) o.generators rows.1 in
    c.in-Err.ensures.whole o.simplices (places_for o c.number_of.result c.taken-generators.result c.number_of.ensures generators.0 places) rows.0

pub returns-clause-whole : goal.returns-clause-whole
returns-clause-whole c = λ o places amb level denominator lists asked.
    let rows = c.taken-rows.ensures (o.modules ∷ o.hilbert ∷ o.degree_one ∷ o.vertices ∷ o.rays ∷ o.support ∷ o.equations ∷ o.generators ∷ []) (option_map (map from_one) o.simplices) lists in
    let generators = c.taken-generators.ensures (o.modules ∷ o.hilbert ∷ o.degree_one ∷ o.vertices ∷ o.rays ∷ o.support ∷ o.equations ∷ []) o.generators rows.1 in
    let simplices = c.in-Ok.ensures.whole o.simplices (places_for o c.number_of.result c.taken-generators.result c.number_of.ensures generators.0 places) rows.0 in
    let equations = c.taken-equations.ensures (o.modules ∷ o.hilbert ∷ o.degree_one ∷ o.vertices ∷ o.rays ∷ o.support ∷ []) o.equations generators.1 in
    let support = c.taken-support.ensures (o.modules ∷ o.hilbert ∷ o.degree_one ∷ o.vertices ∷ o.rays ∷ []) o.support equations.1 in
    let rays = c.taken-rays.ensures (o.modules ∷ o.hilbert ∷ o.degree_one ∷ o.vertices ∷ []) o.rays support.1 in
    let vertices = c.taken-vertices.ensures (o.modules ∷ o.hilbert ∷ o.degree_one ∷ []) o.vertices rays.1 in
    let degree_one = c.taken-degree_one.ensures (o.modules ∷ o.hilbert ∷ []) o.degree_one vertices.1 in
    let hilbert = c.taken-hilbert.ensures (o.modules ∷ []) o.hilbert degree_one.1 in
    let modules = c.taken-modules.ensures ([]) o.modules hilbert.1 in
    same_fields _ o amb level denominator modules.0 hilbert.0 degree_one.0 vertices.0 rays.0 support.0 equations.0 generators.0 simplices asked

pub returns-clause-places : goal.returns-clause-places
returns-clause-places c = subst (λ (n : ℕ). IfSome c.in-Ok.simplices (Each (Each (λ p. p < n)))) c.number_of.ensures c.in-Ok.ensures.below
