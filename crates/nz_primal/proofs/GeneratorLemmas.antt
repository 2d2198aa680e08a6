-- The extreme rays of a simplex's rows, in another order, are its extreme generators.
use Rattle.std.proofs.Common.{◌≡◌, ℕ, ◌<◌, List, length, pos, ◌≤ℤ◌, Contains, sym, subst}
use Rattle.std.specs.List.{AllByRecursion as Each}
use Rattle.nz_spec.specs.Vectors.{Vector, dot, values_at, HasWidth, IsZero}
use Rattle.nz_spec.specs.Order.{IsListOf}
use Rattle.nz_spec.specs.Monoids.{IsExtreme}
use Rattle.nz_spec.specs.Covers.{vectors_at}
use Rattle.nz_spec.proofs.ListLaws.{Each-contains, Each-from_contains, IsLexBefore-asymmetric}
use Rattle.nz_spec.proofs.VectorLaws.{IsZero-zero_vector}
use Rattle.nz_linear.specs.Cones.{IsInRows, Satisfies}
use Rattle.nz_linear.specs.Extreme.{IsPointed}
use Rattle.nz_linear.proofs.Lists.{each_map}
use Rattle.nz_linear.proofs.Splitting.{listed_is_extreme, extreme_is_listed}
use Rattle.nz_order.proofs.SortLaws.{Pairwise-different, IsListOf-where}
use Rattle.nz_pointed.specs.Pointed.{IsNew, IsSimplexOf}
use Rattle.nz_rays.proofs.StartLemmas.{simplex_description}
use Rattle.nz_rays.specs.Rays.{AreRaysOnce}
use Rattle.nz_primal.specs.Lists.{AreSeparating, IsBeforeBy, AreGenerators}
use Rattle.nz_linear.proofs.CoverCoordinates.{vectors_listed}

pub pointed_of_simplex : (w : ℕ) (rows rays : List Vector) (places : List ℕ) → IsSimplexOf w rows places rays → IsPointed w rows
pointed_of_simplex w rows rays places s x l z =
    let within = each_map (IsNew w rows) (λ p. p < length rows) places (λ p k. k.within) s.first.only in
    (simplex_description w rows rays places s).pointed x l (each_map (Contains rows) (λ a. dot a x ≡ pos 0) (vectors_at rows places) (λ a c. Each-contains (λ a. dot a x ≡ pos 0) rows a z c) (vectors_listed rows places within))

pub generators_of : (w : ℕ) (rows order rays sorted : List Vector) → IsPointed w rows → AreRaysOnce w rows rays → IsListOf (IsBeforeBy order) (Contains rays) sorted → AreGenerators w rows order sorted
generators_of w rows order rays sorted pt once h =
    IsListOf-where (IsBeforeBy order) (Contains rays) (IsExtreme (IsInRows w rows)) (λ x c. listed_is_extreme w rows rays x pt once.extreme c) (λ x e. extreme_is_listed w rows rays x pt once.extreme e) sorted h

pub rays_reordered : (w : ℕ) (rows order rays sorted : List Vector) → AreRaysOnce w rows rays → IsListOf (IsBeforeBy order) (Contains rays) sorted → AreRaysOnce w rows sorted
rays_reordered w rows order rays sorted once h =
    let e = once.extreme in
    let d = e.description in
    let moved : (P : Vector → Type 0) → Each P rays → Each P sorted = λ P k. each_map (Contains rays) P sorted (λ x c. Each-contains P rays x k c) h.only in
    record {
      extreme = record {
        description = record {
          row_widths = d.row_widths;
          ray_widths = moved (HasWidth w) d.ray_widths;
          sound = moved (Satisfies rows) d.sound;
          farkas = λ y l s. d.farkas y l (Each-from_contains (λ a. pos 0 ≤ℤ dot a y) rays (λ x c. Each-contains (λ a. pos 0 ≤ℤ dot a y) sorted x s (h.each x c)));
        };
        primitive = moved _ e.primitive;
        extreme = moved _ e.extreme;
      };
      once = Pairwise-different (IsBeforeBy order) (λ x l. IsLexBefore-asymmetric (values_at order x) (values_at order x) l l) sorted h.in_order;
    }

pub separating_of_simplex : (w : ℕ) (rows rays : List Vector) (places : List ℕ) → Each (HasWidth w) rows → IsSimplexOf w rows places rays → AreSeparating w rows
separating_of_simplex w rows rays places l s = record { widths = l; only_zero = λ x lx z. subst IsZero (sym (pointed_of_simplex w rows rays places s x lx z)) (IsZero-zero_vector w) }
