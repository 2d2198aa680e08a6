use Rattle.std.proofs.Common.{ℕ, ◌<◌, get_or, length, sym, subst, arith}
use Rattle.std.specs.List.{AllByRecursion as Each, Contains}
use Rattle.nz_linear.proofs.Lists.{each_map, zip_to_right}
use Rattle.nz_rays.specs.Shared.{IsCutTo}
use Rattle.nz_rays.proofs.sharing.shared_columns.Goals as goal

pub cuts_of-requires-clause-bound : goal.cuts_of-requires-clause-bound
cuts_of-requires-clause-bound g c = subst (λ (n : ℕ). Each (Each (λ k. k < n)) c.args.zeros.now) (sym c.in-Ok.ensures.1) c.requires.bound

pub columns_of-requires : goal.columns_of-requires
columns_of-requires g c =
    let shared = c.in-Ok.numbering.shared in
    zip_to_right (IsCutTo shared) (Each (λ k. k < c.len.result)) c.args.zeros.now c.in-Ok-cuts_of.cuts
    (λ s cut h. each_map (λ i. (i < length shared) × Contains s (get_or shared i 0)) (λ k. k < c.len.result) cut (λ k v. let l = v.0 in omega (arith, l, c.len.ensures)) h.only) c.in-Ok-cuts_of.ensures

pub returns-in-Ok-columns_of : goal.returns-in-Ok-columns_of
returns-in-Ok-columns_of g c = record {
  shared = c.in-Ok.numbering.shared;
  in_order = c.in-Ok.ensures.0.in_order;
  has = c.in-Ok.ensures.2;
  cuts = c.in-Ok-cuts_of.cuts;
  are_cut = c.in-Ok-cuts_of.ensures;
  are_columns = c.in-Ok-columns_of.ensures;
}
