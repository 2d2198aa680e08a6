use Rattle.std.proofs.Common.{◌<◌, ◌-◌, ◌∙◌, sym, ap, arith}
use Rattle.std.specs.List.{AllByRecursion as Each}
use Rattle.nz_spec.specs.Order.{Pairwise}
use Rattle.nz_linear.proofs.Lists.{each_map, zip_to_right}
use Rattle.nz_rays.specs.Descriptions.{RowsAndRays, VanishesAt, AreZeros}
use Rattle.nz_rays.proofs.PlaceLemmas.{zip_length}
use Rattle.nz_rays.proofs.StartLemmas.{lists_rays}
use Rattle.nz_rays.proofs.CutLemmas.{add_double}
use Rattle.nz_rays.proofs.FewLemmas.{few_covered}
use Rattle.nz_rays.proofs.double.Double.add.Goals as goal

pub cut-requires-clause-count : goal.cut-requires-clause-count
cut-requires-clause-count g c = sym (zip_length (AreZeros c.self.inside.rows) c.self.inside.rays c.self.inside.zeros c.self.invariant.exact)

pub cut-requires-clause-sets : goal.cut-requires-clause-sets
cut-requires-clause-sets g c = zip_to_right (AreZeros c.self.inside.rows) (Pairwise ◌<◌) c.self.inside.rays c.self.inside.zeros (λ x z h. h.in_order) c.self.invariant.exact

pub cut-requires-clause-places : goal.cut-requires-clause-places
cut-requires-clause-places g c = zip_to_right (AreZeros c.self.inside.rows) (Each (λ k. k < c.len.result)) c.self.inside.rays c.self.inside.zeros
    (λ x z h. each_map (VanishesAt c.self.inside.rows x) (λ k. k < c.len.result) z (λ k v. let w = v.within in omega (arith, w, c.len.ensures)) h.only) c.self.invariant.exact

pub invariant_of-self : goal.invariant_of-self
invariant_of-self g c =
    add_double c.self.inside.width c.len.result c.args.row.now c.in-Ok-try_copy.copy c.self.inside.rows c.push.new.self c.self.inside.rays c.in-Ok.cut.rays c.self.inside.zeros c.in-Ok.cut.zeros
    (c.requires ∙ sym (ap (λ (d : RowsAndRays). d.width) c.self.view_is)) c.len.ensures c.in-Ok-try_copy.ensures c.in-Ok-push.ensures.ok c.self.invariant c.in-Ok.ensures

pub returns-in-Ok-push-clause-rays : goal.returns-in-Ok-push-clause-rays
returns-in-Ok-push-clause-rays g c = lists_rays _
    (add_double c.self.inside.width c.len.result c.args.row.now c.in-Ok-try_copy.copy c.self.inside.rows c.push.new.self c.self.inside.rays c.in-Ok.cut.rays c.self.inside.zeros c.in-Ok.cut.zeros
    (c.requires ∙ sym (ap (λ (d : RowsAndRays). d.width) c.self.view_is)) c.len.ensures c.in-Ok-try_copy.ensures c.in-Ok-push.ensures.ok c.self.invariant c.in-Ok.ensures).description

pub cut-requires-clause-few : goal.cut-requires-clause-few
cut-requires-clause-few g c =
    let wide = c.requires ∙ sym (ap (λ (d : RowsAndRays). d.width) c.self.view_is) in
    few_covered c.self.inside.width _ c.args.row.now c.self.inside.rows c.self.inside.rays c.self.inside.zeros wide (ap (λ n. n - 2) wide) c.self.invariant
