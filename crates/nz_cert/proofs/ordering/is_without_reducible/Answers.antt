use Rattle.std.proofs.Common.{◌∙◌, sym, ap, subst, map, List, ℕ, length}
use Rattle.std.specs.Prelude.{FitsSigned}
use Rattle.std.specs.Int.{w128}
use Rattle.std.specs.List.{AllByRecursion as Each}
use Rattle.nz_spec.specs.Vectors.{Vector, HasWidth, values_at}
use Rattle.nz_spec.specs.Order.{IsLexBefore, Pairwise}
use Rattle.nz_spec.proofs.ListLaws.{Each-weaker}
use Rattle.nz_vec.specs.Sums.{HasValueOutside}
use Rattle.nz_further.specs.Certificates.{CertificateData, last_of}
use Rattle.nz_cert.specs.Monoids.{MonoidData, InLattice, IsMonoid}
use Rattle.nz_cert.proofs.GroundLemmas.{outside_of, wide_values}
use Rattle.nz_cert.proofs.OrderingLemmas.{in_last, fit_in_last, end_without, held_in_last}
use Rattle.nz_cert.proofs.ordering.is_without_reducible.Goals as goal

pub is_increasing-requires : goal.is_increasing-requires
is_increasing-requires c =
    let m = c.args.monoid.now in
    let cert = c.args.cert.now in
    let forms = c.args.first.now in
    let inside = in_last m cert forms c.requires in
    let width = ap (λ (d : CertificateData). d.width) c.cert.view_is ∙ c.requires.sizes.width in
    subst (λ (xs : List Vector). Each (HasWidth c.cert.inside.width) xs) (sym c.last_list-list.ensures) (Each-weaker (InLattice m) (HasWidth c.cert.inside.width) (λ v k. k.0 ∙ sym width) (last_of cert.first cert.above) inside)

pub values_table-requires : goal.values_table-requires
values_table-requires c =
    let m = c.args.monoid.now in
    let cert = c.args.cert.now in
    let forms = c.args.first.now in
    let inside = in_last m cert forms c.requires in
    let is = subst IsMonoid c.monoid.view_is c.monoid.invariant in
    let rows = ap (λ (d : MonoidData). d.rows) c.monoid.view_is in
    subst (λ (xs : List Vector). Each (λ v. Each (HasWidth (length v)) c.monoid.inside.rows) xs) (sym c.last_list-list.ensures)
    (subst (λ (fs : List Vector). Each (λ v. Each (HasWidth (length v)) fs) (last_of cert.first cert.above)) (sym rows) (fit_in_last m is (last_of cert.first cert.above) inside))

pub returns-in-Err : goal.returns-in-Err
returns-in-Err c = λ e.
    let m = c.args.monoid.now in
    let cert = c.args.cert.now in
    let forms = c.args.first.now in
    let inside = in_last m cert forms c.requires in
    let is = subst IsMonoid c.monoid.view_is c.monoid.invariant in
    let rows = ap (λ (d : MonoidData). d.rows) c.monoid.view_is in
    outside_of (FitsSigned w128) m.rows (last_of cert.first cert.above) cert (held_in_last cert)
    (subst (λ (fs : List Vector). HasValueOutside (FitsSigned w128) fs (last_of cert.first cert.above)) rows
    (subst (λ (xs : List Vector). HasValueOutside (FitsSigned w128) c.monoid.inside.rows xs) c.last_list-list.ensures (c.in-Err.ensures e)))

pub is_apart-requires : goal.is_apart-requires
is_apart-requires c = subst (λ (t : List Vector). Each (HasWidth c.len.result) t) (sym c.in-Ok.ensures) (subst (λ (n : ℕ). Each (HasWidth n) (map (values_at c.monoid.inside.rows) c.last_list-list.result.now)) (sym c.len.ensures) (wide_values c.monoid.inside.rows c.last_list-list.result.now))

pub returns : goal.returns
returns c =
    let m = c.args.monoid.now in
    let cert = c.args.cert.now in
    let forms = c.args.first.now in
    let inside = in_last m cert forms c.requires in
    let is = subst IsMonoid c.monoid.view_is c.monoid.invariant in
    let rows = ap (λ (d : MonoidData). d.rows) c.monoid.view_is in
    let table = c.in-Ok.ensures ∙ ap (λ (fs : List Vector). map (values_at fs) c.last_list-list.result.now) rows ∙ ap (map (values_at m.rows)) c.last_list-list.ensures in
    let order = subst (Pairwise IsLexBefore) c.last_list-list.ensures c.if-not-is_increasing.ensures in
    end_without m is (last_of cert.first cert.above) c.in-Ok.table inside order table c.is_apart.result c.is_apart.ensures
