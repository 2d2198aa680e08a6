use Rattle.std.proofs.Common.{[], length, get_or, sym, ap, subst, arith}
use Rattle.nz_rays.specs.Descriptions.{RowsAndRays, AreZeros}
use Rattle.nz_rays.proofs.PlaceLemmas.{zip_at, zip_length}
use Rattle.nz_rays.proofs.double.Double.zero_set.Goals as goal

pub at-requires : goal.at-requires
at-requires g c =
    let count = zip_length (AreZeros c.self.inside.rows) c.self.inside.rays c.self.inside.zeros c.self.invariant.exact in
    let same = ap (λ (d : RowsAndRays). length d.rays) c.self.view_is in
    omega (arith, count, same, c.requires)

pub returns : goal.returns
returns g c =
    let same = ap (λ (d : RowsAndRays). length d.rays) c.self.view_is in
    subst (λ (d : RowsAndRays). AreZeros d.rows (get_or d.rays c.args.place []) c.at.result.now) c.self.view_is
    (subst (AreZeros c.self.inside.rows (get_or c.self.inside.rays c.args.place [])) (sym c.at.ensures)
    (zip_at (AreZeros c.self.inside.rows) [] [] c.self.inside.rays c.self.inside.zeros c.args.place c.self.invariant.exact (omega (arith, same, c.requires))))
