use Rattle.std.proofs.Common.{List, map, subst}
use Rattle.nz_spec.specs.Vectors.{Vector}
use Rattle.nz_classes.specs.Steps.{IsPut}
use Rattle.nz_classes.proofs.PutLemmas.{put_key}
use Rattle.nz_classes.proofs.found.Found.put.Goals as goal

pub returns : goal.returns
returns g c =
    let int = g.T.Scalar.integer in
    let old = c.self.inside.vectors.keys in
    let new = c.insert.new.self.keys in
    let k = c.into_vec.result in
    subst (λ (us : List Vector). IsPut us c.args.vector (map (λ v. map int v.items) new)) c.self.view_is
    (subst (λ (x : Vector). IsPut (map (λ v. map int v.items) old) x (map (λ v. map int v.items) new)) c.into_vec.ensures
    (put_key int g.T.Ord.cmp g.T.PartialEq.eq g.met.T.Scalar.ordered g.met.T.Ord.matches_eq (λ v. v.items) k old new c.in-Ok.ensures.keys))
