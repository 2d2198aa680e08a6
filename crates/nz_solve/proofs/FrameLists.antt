-- Lists in coordinates of a frame are lists of the system.
use Rattle.std.proofs.Common.{◌≡◌, ◌≢◌, ℕ, ◌≤◌, List, length, map, refl, sym, subst, arith}
use Rattle.std.proofs.lemmas.List.{length-map}
use Rattle.nz_spec.specs.Vectors.{Vector, HasWidth}
use Rattle.nz_spec.specs.Order.{Pairwise, IsLexBefore, IsListOf, ListsOnce}
use Rattle.nz_spec.specs.Systems.{System, IsSystem, IsMember}
use Rattle.nz_spec.specs.Monoids.{IsIrreducible, IsExtreme}
use Rattle.nz_spec.specs.Elements.{AreExtreme}
use Rattle.nz_spec.specs.Stages.{IsInStage}
use Rattle.nz_linear.specs.Cones.{IsInRows}
use Rattle.nz_linear.specs.Extreme.{IsPointed}
use Rattle.nz_linear.specs.RayStep.{AreExtremeRays}
use Rattle.nz_sweep.specs.Bases.{Base}
use Rattle.nz_primal.specs.Lists.{AreGenerators}
use Rattle.nz_frame.specs.Frames.{IsFrame, order_forms, vector_at}
use Rattle.nz_frame.specs.Elements.{IsWithin}
use Rattle.nz_frame.proofs.SystemLists as lists

module _ (s : System) (base : Base) (pulled : List Vector) (is : IsSystem s) (fr : IsFrame s base pulled) where
  -- the vectors of the file's width are those of the base's
  same_list : (P : List Vector → Type 0) (list : List Vector) → P (map (λ c. vector_at (record { width = s.width; vectors = base.vectors; coordinates = base.coordinates }) c) list) → P (map (vector_at base) list)
  same_list P list h = subst (λ (n : ℕ). P (map (λ c. vector_at (record { width = n; vectors = base.vectors; coordinates = base.coordinates }) c) list)) (sym fr.is_base.width) h

  -- the irreducible elements, as the primal and as the dual algorithm list them
  pub primal_listed : (list : List Vector) → IsListOf IsLexBefore (IsIrreducible (IsInRows (length base.vectors) pulled)) list → ListsOnce (IsIrreducible (IsMember s)) (map (vector_at base) list)
  primal_listed list h = same_list (ListsOnce (IsIrreducible (IsMember s))) list
      (lists.primal_elements s fr.equations fr.rows base.vectors is fr.are_equations fr.are_rows fr.is_base.widths fr.is_base.independent fr.is_base.same list
      (subst (λ (ps : List Vector). IsListOf IsLexBefore (IsIrreducible (IsInRows (length base.vectors) ps)) list) fr.there h))

  pub dual_listed : (list : List Vector) → IsListOf IsLexBefore (IsIrreducible (IsInStage (HasWidth (length base.vectors)) pulled)) list → ListsOnce (IsIrreducible (IsMember s)) (map (vector_at base) list)
  dual_listed list h = same_list (ListsOnce (IsIrreducible (IsMember s))) list
      (lists.dual_elements s fr.equations fr.rows base.vectors is fr.are_equations fr.are_rows fr.is_base.widths fr.is_base.independent fr.is_base.same list
      (subst (λ (ps : List Vector). IsListOf IsLexBefore (IsIrreducible (IsInStage (HasWidth (length base.vectors)) ps)) list) fr.there h))

  -- the extreme generators, by the order forms and as the rays of the rows
  pub generators_listed : (extreme : List Vector) → AreGenerators (length base.vectors) pulled (order_forms s.width base.vectors s.grading) extreme → AreExtreme s (map (vector_at base) extreme)
  generators_listed extreme h = same_list (AreExtreme s) extreme
      (lists.generators_back s fr.equations fr.rows base.vectors is fr.are_equations fr.are_rows fr.is_base.widths fr.is_base.independent fr.is_base.same s.grading refl extreme
      (subst (λ (ps : List Vector). AreGenerators (length base.vectors) ps (order_forms s.width base.vectors s.grading) extreme) fr.there h))

  pub rays_listed : (rays : List Vector) → IsPointed (length base.vectors) pulled → AreExtremeRays (length base.vectors) pulled rays → Pairwise ◌≢◌ rays → ListsOnce (IsExtreme (IsMember s)) (map (vector_at base) rays)
  rays_listed rays pt are once = same_list (ListsOnce (IsExtreme (IsMember s))) rays
      (lists.rays_back s fr.equations fr.rows base.vectors is fr.are_equations fr.are_rows fr.is_base.widths fr.is_base.independent fr.is_base.same rays
      (subst (IsPointed (length base.vectors)) fr.there pt) (subst (λ (ps : List Vector). AreExtremeRays (length base.vectors) ps rays) fr.there are) once)

-- as many vectors are brought back as there were
pub as_many : (base : Base) (limit : ℕ) (list back : List Vector) → back ≡ map (vector_at base) list → length list ≤ limit → length back ≤ limit
as_many base limit list back e l = subst (λ (xs : List Vector). length xs ≤ limit) (sym e) (let n = length-map list (vector_at base) in omega (arith, n, l))

-- so the irreducible elements are no more than the limit
pub within_limit : (s : System) (limit : ℕ) (list : List Vector) → ListsOnce (IsIrreducible (IsMember s)) list → length list ≤ limit → IsWithin s limit
within_limit s limit list h l = record { list = list; lists = h; size = l }
