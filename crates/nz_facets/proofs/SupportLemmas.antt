-- The rays of the facet rows, in order, are the list of the support forms; with the equations they describe the cone.
use Rattle.std.proofs.Common.{◌≡◌, ◌≢◌, inl, inr, ℕ, ◌<◌, List, [], ◌∷◌, ◌++◌, map, None, sym, ap, ◌∙◌, subst}
use Rattle.std.specs.List.{AllByRecursion as Each}
use Rattle.std.specs.List.Sorted.{IsPermutation}
use Rattle.nz_spec.specs.Vectors.{Vector, HasWidth}
use Rattle.nz_spec.specs.Sums.{IsInCone}
use Rattle.nz_spec.specs.Order.{IsLexBefore, Pairwise, IsListOf, ListsOnce}
use Rattle.nz_spec.specs.Forms.{IsOtherColumn, IsSupportForm, AreSupportForms, AreEquations, IsDescription, DescribeCone}
use Rattle.nz_spec.specs.Constraints.{Constraint, Zero, NotNegative, Meets}
use Rattle.nz_linear.specs.Extreme.{IsPointed}
use Rattle.nz_linear.specs.RayStep.{AreExtremeRays}
use Rattle.nz_linear.specs.Facets.{facet_rows}
use Rattle.nz_linear.proofs.Lists.{each_map3, each_append, each_left, each_right, each_of_map, map_each}
use Rattle.nz_linear.proofs.FacetRows.{facet_rows_width, facet_rows_pointed, rays_are_support, support_listed}
use Rattle.nz_linear.proofs.DescribedCone.{described_cone}
use Rattle.nz_order.proofs.OrderLaws.{lex_cases}
use Rattle.nz_order.proofs.SortLaws.{permuted_once}
use Rattle.nz_degree.specs.Degrees.{IsInOrder}
use Rattle.nz_rays.specs.Rays.{AreRaysOnce}
use Rattle.nz_facets.specs.Members.{HaveMembers}

-- ---- the rows
pub rows_wide : (w : ℕ) (columns : List ℕ) (G rows : List Vector) → Each (HasWidth w) G → rows ≡ facet_rows w columns G → Each (HasWidth w) rows
rows_wide w columns G rows l e = subst (Each (HasWidth w)) (sym e) (facet_rows_width w columns G l)

pub rows_pointed : (w : ℕ) (columns : List ℕ) (G rows : List Vector) → Each (HasWidth w) G → IsListOf ◌<◌ (IsOtherColumn w G) columns → rows ≡ facet_rows w columns G → IsPointed w rows
rows_pointed w columns G rows l o e = subst (IsPointed w) (sym e) (facet_rows_pointed w G columns o l)

-- ---- the order
strictly : (P : Vector → Type 0) (w : ℕ) → ((x : Vector) → P x → HasWidth w x) → (xs : List Vector) → Each P xs → Pairwise ◌≢◌ xs → Pairwise (λ x y. ¬ IsLexBefore y x) xs → Pairwise IsLexBefore xs
strictly P w wide [] h d n = tt
strictly P w wide (x ∷ xs) h d n = (
  each_map3 P (λ y. x ≢ y) (λ y. ¬ IsLexBefore y x) (IsLexBefore x) xs
      (λ y p ne not. elim (lex_cases x y (wide x h.0 ∙ sym (wide y p))) [
        | inl b ↦ b
        | inr (inl e) ↦ absurd (ne e)
        | inr (inr b) ↦ absurd (not b)
      ]) h.1 d.0 n.0,
  strictly P w wide xs h.1 d.1 n.1,
)

pub support_sorted : (w : ℕ) (columns : List ℕ) (G rows rays sorted : List Vector) → Each (HasWidth w) G → IsListOf ◌<◌ (IsOtherColumn w G) columns → rows ≡ facet_rows w columns G → AreRaysOnce w rows rays → IsPermutation rays sorted → IsInOrder None sorted
    → AreSupportForms w G sorted
support_sorted w columns G rows rays sorted l o e r p s =
    let extreme = subst (λ (rs : List Vector). AreExtremeRays w rs rays) e r.extreme in
    let lists : ListsOnce (IsSupportForm w G) rays = record { in_order = r.once; only = rays_are_support w G columns o rays l extreme; each = λ f i. support_listed w G columns o rays f l extreme i } in
    let q = permuted_once (IsSupportForm w G) rays sorted lists p in
    record { in_order = strictly (IsSupportForm w G) w (λ f i. i.width) sorted q.only q.in_order s; only = q.only; each = q.each }

-- ---- the cone
pub described : (w : ℕ) (G support equations : List Vector) → Each (HasWidth w) G → AreSupportForms w G support → AreEquations w G equations → IsDescription w G support equations × DescribeCone w G support equations
described w G support equations l s e = (record { support_forms = s; equation_forms = e }, described_cone w G l support equations s e)

pub members_of : (w : ℕ) (G support equations : List Vector) (none zeros all : List Constraint) → none ≡ [] → zeros ≡ none ++ map Zero equations → all ≡ zeros ++ map NotNegative support → DescribeCone w G support equations → HaveMembers w (IsInCone w G) all
members_of w G support equations none zeros all en ez ea d x lx =
    let whole : all ≡ map Zero equations ++ map NotNegative support = ea ∙ ap (λ t. t ++ map NotNegative support) (ez ∙ ap (λ t. t ++ map Zero equations) en) in
    let Met : Constraint → Type 0 = λ c. Meets c x in
    let s = d x lx in (
      (λ m. let n = subst (Each Met) whole m in s.1 (map_each NotNegative Met support (each_right Met (map Zero equations) (map NotNegative support) n), map_each Zero Met equations (each_left Met (map Zero equations) (map NotNegative support) n))),
      (λ i. let k = s.0 i in subst (Each Met) (sym whole) (each_append Met (map Zero equations) (map NotNegative support) (each_of_map Zero Met equations k.1) (each_of_map NotNegative Met support k.0))),
    )
