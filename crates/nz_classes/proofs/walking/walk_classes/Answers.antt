use Rattle.std.proofs.Common.{ℕ, [], List, length, sym, subst}
use Rattle.std.specs.Prelude.{unsigned_abs}
use Rattle.std.specs.List.{AllByRecursion as Each}
use Rattle.nz_spec.specs.Vectors.{Vector}
use Rattle.nz_linear.specs.Echelon.{unit_at}
use Rattle.nz_linear.proofs.Units.{length-unit_at}
use Rattle.nz_classes.specs.Steps.{IsExpanded, IsFull, IsPart, IsPut}
use Rattle.nz_classes.specs.Walks.{paired}
use Rattle.nz_classes.proofs.WalkLemmas.{part_none, zero_reduced, put_part, put_contains, full_refusal, extends_contains, points_listed}
use Rattle.nz_classes.proofs.walking.walk_classes.Goals as goal

pub returns-in-Err : goal.returns-in-Err
returns-in-Err g c = c.work_of.ensures (unsigned_abs g.T.Scalar.HALF) c.args.limit c.args.simplex.now c.args.forms.now c.in-Err.ensures

pub returns-in-Err-begin : goal.returns-in-Err-begin
returns-in-Err-begin g c =
    let w = length c.args.simplex.now in
    let ps = paired c.args.forms.now c.args.simplex.now in
    let h = c.in-Err-begin.ensures in
    full_refusal c.args.simplex.now c.args.forms.now c.requires.simplex (unsigned_abs g.T.Scalar.HALF) c.args.limit [] (unit_at w w) h.0 (part_none w ps c.args.limit) (length-unit_at w w) (zero_reduced w ps c.requires.simplex.dual.dual) c.in-Err-begin.refusal (subst (λ (n : ℕ). IsFull c.args.limit [] (unit_at n n) h.0 c.in-Err-begin.refusal) c.len.ensures h.1)

pub close-requires-clause-part : goal.close-requires-clause-part
close-requires-clause-part g c =
    let sides = c.args.simplex.now in
    let forms = c.args.forms.now in
    let w = length sides in
    let ps = paired forms sides in
    let h = c.in-Ok-begin.ensures in
    let p = put_part w ps c.args.limit [] (unit_at w w) c.in-Ok-begin.found (part_none w ps c.args.limit) (length-unit_at w w) (zero_reduced w ps c.requires.simplex.dual.dual) (subst (λ (n : ℕ). IsPut [] (unit_at n n) c.in-Ok-begin.found) c.len.ensures h.0) h.1 in
    subst (λ (vs : List Vector). IsPart (length vs) (paired c.in-Ok.steps.forms.now vs) c.args.limit c.in-Ok-begin.found) (sym c.in-Ok.ensures.0)
    (subst (λ (fs : List Vector). IsPart w (paired fs sides) c.args.limit c.in-Ok-begin.found) (sym c.in-Ok.ensures.1) p)

pub returns-in-Ok-in_order : goal.returns-in-Ok-in_order
returns-in-Ok-in_order g c =
    let sides = c.args.simplex.now in
    let forms = c.args.forms.now in
    let w = length sides in
    let h = c.in-Ok-begin.ensures in
    let r = c.in-Ok-close.ensures in
    let new = c.close.new.found in
    let z = extends_contains c.in-Ok-begin.found new (unit_at w w) r.1 (put_contains [] (unit_at w w) c.in-Ok-begin.found (subst (λ (n : ℕ). IsPut [] (unit_at n n) c.in-Ok-begin.found) c.len.ensures h.0)) in
    let part = subst (λ (fs : List Vector). IsPart w (paired fs sides) c.args.limit new) c.in-Ok.ensures.1 (subst (λ (vs : List Vector). IsPart (length vs) (paired c.in-Ok.steps.forms.now vs) c.args.limit new) c.in-Ok.ensures.0 r.0) in
    let all = subst (λ (fs : List Vector). Each (IsExpanded w (paired fs sides) new) new) c.in-Ok.ensures.1 (subst (λ (vs : List Vector). Each (IsExpanded (length vs) (paired c.in-Ok.steps.forms.now vs) new) new) c.in-Ok.ensures.0 r.2) in
    points_listed sides forms c.requires.simplex c.args.limit new part all z c.in-Ok-in_order.points c.in-Ok-in_order.ensures.permutation c.in-Ok-in_order.ensures.order
