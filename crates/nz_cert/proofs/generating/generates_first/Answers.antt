use Rattle.std.proofs.Common.{inl, inr, ap, ◌∙◌, sym, subst, map, List, Bool}
use Rattle.std.specs.Bool.{MatchBool}
use Rattle.std.specs.Int.{w128}
use Rattle.std.specs.Prelude.{FitsSigned}
use Rattle.std.specs.List.{AllByRecursion as Each}
use Rattle.nz_spec.specs.Vectors.{Vector, values_at}
use Rattle.nz_order.specs.Boxes.{NonNegative}
use Rattle.nz_vec.specs.Sums.{HasValueOutside}
use Rattle.nz_further.specs.Certificates.{CertificateData, HasShape, IsReducedOver}
use Rattle.nz_cert.specs.Monoids.{IsMonoid, AreReady}
use Rattle.nz_cert.proofs.GroundLemmas.{forms_fit, first_in, points_ready, rays_ready, not_inside, not_points, rays_end, outside_of}
use Rattle.nz_cert.proofs.generating.generates_first.Goals as goal

pub values_table-requires : goal.values_table-requires
values_table-requires c =
    let m = c.args.monoid.now in
    let cert = c.args.cert.now in
    let forms = c.args.first.now in
    let is = subst IsMonoid c.monoid.view_is c.monoid.invariant in
    let shape = subst HasShape c.cert.view_is c.cert.invariant in
    let firsts = ap (λ (d : CertificateData). d.first) c.cert.view_is in
    let points = ap (λ (d : CertificateData). d.points) c.cert.view_is in
    let rays = ap (λ (d : CertificateData). d.rays) c.cert.view_is in
    subst (Each _) (sym firsts) (forms_fit m cert forms is shape c.requires.ground cert.first (first_in m cert forms is shape c.requires.ground))

pub returns-in-Err : goal.returns-in-Err
returns-in-Err c =
    let m = c.args.monoid.now in
    let cert = c.args.cert.now in
    let forms = c.args.first.now in
    let is = subst IsMonoid c.monoid.view_is c.monoid.invariant in
    let shape = subst HasShape c.cert.view_is c.cert.invariant in
    let firsts = ap (λ (d : CertificateData). d.first) c.cert.view_is in
    let points = ap (λ (d : CertificateData). d.points) c.cert.view_is in
    let rays = ap (λ (d : CertificateData). d.rays) c.cert.view_is in
    λ e. outside_of (FitsSigned w128) forms cert.first cert (λ v k. inr (inr (inl k))) (subst (HasValueOutside (FitsSigned w128) forms) firsts (c.in-Err.ensures e))

pub returns-then-not-are_not_negative : goal.returns-then-not-are_not_negative
returns-then-not-are_not_negative c =
    let m = c.args.monoid.now in
    let cert = c.args.cert.now in
    let forms = c.args.first.now in
    let is = subst IsMonoid c.monoid.view_is c.monoid.invariant in
    let shape = subst HasShape c.cert.view_is c.cert.invariant in
    let firsts = ap (λ (d : CertificateData). d.first) c.cert.view_is in
    let points = ap (λ (d : CertificateData). d.points) c.cert.view_is in
    let rays = ap (λ (d : CertificateData). d.rays) c.cert.view_is in
    let table = c.in-Ok.ensures ∙ ap (map (values_at forms)) firsts in
    not_inside m cert forms is shape c.requires.ground c.in-Ok.table table c.if-not-are_not_negative.ensures

pub all_reduced-requires : goal.all_reduced-requires
all_reduced-requires c =
    let m = c.args.monoid.now in
    let cert = c.args.cert.now in
    let forms = c.args.first.now in
    let is = subst IsMonoid c.monoid.view_is c.monoid.invariant in
    let shape = subst HasShape c.cert.view_is c.cert.invariant in
    let firsts = ap (λ (d : CertificateData). d.first) c.cert.view_is in
    let points = ap (λ (d : CertificateData). d.points) c.cert.view_is in
    let rays = ap (λ (d : CertificateData). d.rays) c.cert.view_is in
    let table = c.in-Ok.ensures ∙ ap (map (values_at forms)) firsts in
    subst (AreReady forms c.in-Ok.table) (sym points) (points_ready m cert forms is shape c.requires.ground c.in-Ok.table table c.if-not-are_not_negative.ensures c.requires.points)

pub returns-in-Ok-false : goal.returns-in-Ok-false
returns-in-Ok-false c =
    let m = c.args.monoid.now in
    let cert = c.args.cert.now in
    let forms = c.args.first.now in
    let is = subst IsMonoid c.monoid.view_is c.monoid.invariant in
    let shape = subst HasShape c.cert.view_is c.cert.invariant in
    let firsts = ap (λ (d : CertificateData). d.first) c.cert.view_is in
    let points = ap (λ (d : CertificateData). d.points) c.cert.view_is in
    let rays = ap (λ (d : CertificateData). d.rays) c.cert.view_is in
    let table = c.in-Ok.ensures ∙ ap (map (values_at forms)) firsts in
    not_points m cert forms is shape c.requires.ground c.in-Ok.table table (subst (λ (xs : List Vector). ¬ Each (IsReducedOver NonNegative c.in-Ok.table) (map (values_at forms) xs)) points (subst (λ (b : Bool). MatchBool b (Each (IsReducedOver NonNegative c.in-Ok.table) (map (values_at forms) c.cert.inside.points)) (¬ (Each (IsReducedOver NonNegative c.in-Ok.table) (map (values_at forms) c.cert.inside.points)))) c.in-Ok-false.field-0-test c.in-Ok-false.ensures))

pub returns-in-Err-all_reduced : goal.returns-in-Err-all_reduced
returns-in-Err-all_reduced c =
    let m = c.args.monoid.now in
    let cert = c.args.cert.now in
    let forms = c.args.first.now in
    let is = subst IsMonoid c.monoid.view_is c.monoid.invariant in
    let shape = subst HasShape c.cert.view_is c.cert.invariant in
    let firsts = ap (λ (d : CertificateData). d.first) c.cert.view_is in
    let points = ap (λ (d : CertificateData). d.points) c.cert.view_is in
    let rays = ap (λ (d : CertificateData). d.rays) c.cert.view_is in
    λ e. outside_of (FitsSigned w128) forms cert.points cert (λ v k. inr (inl k)) (subst (HasValueOutside (FitsSigned w128) forms) points (c.in-Err-all_reduced.ensures e))

pub all_reduced-requires-2 : goal.all_reduced-requires-2
all_reduced-requires-2 c =
    let m = c.args.monoid.now in
    let cert = c.args.cert.now in
    let forms = c.args.first.now in
    let is = subst IsMonoid c.monoid.view_is c.monoid.invariant in
    let shape = subst HasShape c.cert.view_is c.cert.invariant in
    let firsts = ap (λ (d : CertificateData). d.first) c.cert.view_is in
    let points = ap (λ (d : CertificateData). d.points) c.cert.view_is in
    let rays = ap (λ (d : CertificateData). d.rays) c.cert.view_is in
    let table = c.in-Ok.ensures ∙ ap (map (values_at forms)) firsts in
    subst (AreReady forms c.in-Ok.table) (sym rays) (rays_ready m cert forms is shape c.requires.ground c.in-Ok.table table c.if-not-are_not_negative.ensures)

pub returns-in-Ok-all_reduced : goal.returns-in-Ok-all_reduced
returns-in-Ok-all_reduced c =
    let m = c.args.monoid.now in
    let cert = c.args.cert.now in
    let forms = c.args.first.now in
    let is = subst IsMonoid c.monoid.view_is c.monoid.invariant in
    let shape = subst HasShape c.cert.view_is c.cert.invariant in
    let firsts = ap (λ (d : CertificateData). d.first) c.cert.view_is in
    let points = ap (λ (d : CertificateData). d.points) c.cert.view_is in
    let rays = ap (λ (d : CertificateData). d.rays) c.cert.view_is in
    let table = c.in-Ok.ensures ∙ ap (map (values_at forms)) firsts in
    rays_end m cert forms is shape c.requires.ground c.in-Ok.table table c.if-not-are_not_negative.ensures
    (subst (λ (xs : List Vector). Each (IsReducedOver NonNegative c.in-Ok.table) (map (values_at forms) xs)) points (subst (λ (b : Bool). MatchBool b (Each (IsReducedOver NonNegative c.in-Ok.table) (map (values_at forms) c.cert.inside.points)) (¬ (Each (IsReducedOver NonNegative c.in-Ok.table) (map (values_at forms) c.cert.inside.points)))) c.in-Ok-true.field-0-test c.in-Ok-true.ensures)) c.in-Ok-all_reduced.yes
    (subst (λ (xs : List Vector). MatchBool c.in-Ok-all_reduced.yes (Each (IsReducedOver NonNegative c.in-Ok.table) (map (values_at forms) xs)) (¬ Each (IsReducedOver NonNegative c.in-Ok.table) (map (values_at forms) xs))) rays c.in-Ok-all_reduced.ensures)

pub returns : goal.returns
returns c =
    let m = c.args.monoid.now in
    let cert = c.args.cert.now in
    let forms = c.args.first.now in
    let is = subst IsMonoid c.monoid.view_is c.monoid.invariant in
    let shape = subst HasShape c.cert.view_is c.cert.invariant in
    let firsts = ap (λ (d : CertificateData). d.first) c.cert.view_is in
    let points = ap (λ (d : CertificateData). d.points) c.cert.view_is in
    let rays = ap (λ (d : CertificateData). d.rays) c.cert.view_is in
    λ e. outside_of (FitsSigned w128) forms cert.rays cert (λ v k. inl k) (subst (HasValueOutside (FitsSigned w128) forms) rays (c.in-Err-all_reduced-2.ensures e))
