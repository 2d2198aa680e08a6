use Rattle.std.proofs.Common.{ap, sym, ◌∙◌}
use Rattle.nz_input.specs.declared.kind.Mode.TheVariants.{Primal, Dual}
use Rattle.nz_system.specs.Meaning.{SystemData}
use Rattle.nz_solve.proofs.RangeLemmas.{refused_by}
use Rattle.nz_solve.proofs.elements.elements_of.Goals as goal

pub returns-in-Err-clause-elements : goal.returns-in-Err-clause-elements
returns-in-Err-clause-elements g c = refused_by c.args.system.now.mode Primal c.args.system.now.system g.T.Scalar.HALF c.args.limit c.args.told_before _ _ c.in-Err.refusal (sym (ap (λ (d : SystemData). d.mode) c.system.view_is) ∙ c.in-Primal.is) c.in-Err.ensures.elements

pub returns-in-Err-elements_by_dual-clause-elements : goal.returns-in-Err-elements_by_dual-clause-elements
returns-in-Err-elements_by_dual-clause-elements g c = refused_by c.args.system.now.mode Dual c.args.system.now.system g.T.Scalar.HALF c.args.limit c.args.told_before _ _ c.in-Err-elements_by_dual.refusal (sym (ap (λ (d : SystemData). d.mode) c.system.view_is) ∙ c.in-Dual.is) c.in-Err-elements_by_dual.ensures.elements
