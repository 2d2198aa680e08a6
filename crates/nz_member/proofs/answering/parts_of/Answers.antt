use Rattle.std.proofs.Common.{List, ℤ, Option, Bor, length, map, option_map, sym, subst}
use Rattle.nz_spec.specs.Vectors.{Vector, values_at}
use Rattle.nz_member.specs.Amounts.{rows_of, LeaveValues, FindsValues}
use Rattle.nz_member.proofs.AmountSteps.{amounts_of}
use Rattle.nz_member.proofs.PartsByValues.{has_counts, match_weaker, fit_for}
use Rattle.nz_member.proofs.answering.parts_of.Goals as goal

pub take_elements-requires-clause-amounts : goal.take_elements-requires-clause-amounts
take_elements-requires-clause-amounts g c = amounts_of g.T.Scalar.fits c.args.constraints.now c.args.x.now (map g.T.Scalar.integer c.in-Ok.values.items) c.requires.met c.in-Ok.ensures

pub place_left-requires : goal.place_left-requires
place_left-requires g c = match_weaker c.args.modules _ _ (λ m h. fit_for c.args.constraints.now (length c.args.x.now) c.requires.forms m.now h) c.requires.generators

pub returns-in-Ok-place_left-clause-reply : goal.returns-in-Ok-place_left-clause-reply
returns-in-Ok-place_left-clause-reply g c =
    let int = g.T.Scalar.integer in
    let cs = c.args.constraints.now in
    let x = c.args.x.now in
    let rows = rows_of cs in
    let hilbert = c.args.hilbert.now in
    let modules : Option (List Vector) = option_map (λ (m : Bor (List Vector)). m.now) c.args.modules in
    let rest = map int c.take_elements.new.values.items in
    let taken = subst (λ (vs : List ℤ). LeaveValues rows hilbert vs (map int c.in-Ok-take_elements.counts.items) rest) {y = values_at rows x} c.in-Ok.ensures.same c.in-Ok-take_elements.ensures.taken in
    let leave = subst (λ (ns : List ℤ). LeaveValues rows hilbert (values_at rows x) ns rest) (sym c.from_vec.ensures) taken in
    record {
      met = c.requires.met;
      parts = has_counts cs x c.requires.forms c.requires.met hilbert c.from_vec.result rest leave modules c.in-Ok-place_left.module
          (subst (λ (us : List _). FindsValues rows modules (map int us) c.in-Ok-place_left.module) c.as_slice.ensures.value c.in-Ok-place_left.ensures);
    }
