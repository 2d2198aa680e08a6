-- Of the elements of a system what its goals ask.
use Rattle.std.proofs.Common.{◌≡◌, ℕ, ℤ, ◌-◌, List, Option, Some, None, IfSome, IsSome, Bool, true, false, IsTrue, refl, sym, ap, ◌∙◌, subst, inl, inr}
use Rattle.std.proofs.lemmas.Bool.{false≢true}
use Rattle.std.specs.Prelude.{◌&&◌, ◌||◌}
use Rattle.nz_scalar.specs.Room.{HasRoom}
use Rattle.std.specs.List.{AllByRecursion as Each}
use Rattle.nz_spec.specs.Vectors.{Vector, HasWidth}
use Rattle.nz_spec.specs.Order.{StandsBefore}
use Rattle.nz_spec.specs.Systems.{System, IsSystem, IsMember, file_width}
use Rattle.nz_spec.specs.Monoids.{IsIrreducible, IsExtreme}
use Rattle.nz_spec.specs.Forms.{IsDescription}
use Rattle.nz_spec.specs.Elements.{IsHilbertElement, IsHilbertBasis, AreModuleGenerators, AreExtreme, AreRays, AreVertices, IsSupportDescription, IsCoverOf}
use Rattle.nz_linear.proofs.Lists.{each_map}
use Rattle.nz_degree.proofs.ElementLaws.{ones_are_elements}
use Rattle.nz_system.specs.Meaning.{SystemData, there, IsKept}
use Rattle.nz_blocks.specs.Outcomes.{Asked, OutcomeData, IsOutcome, HasText}
use Rattle.nz_measures.specs.Reaches.{HasOwnAbove}
use Rattle.nz_frame.proofs.LevelLists.{rays_picked, vertices_picked, flat_rays}
use Rattle.nz_solve.specs.Replies.{IsWhere, AreWhere, AreAnswered}
use Rattle.nz_solve.specs.Solutions.{IsSolution, HasDenominator, AreOfDegreeOne, wants_basis, wants_modules}
use Rattle.nz_solve.specs.Parts.{AreElements, AreElementLists, AreDivided, AreParted, IsShownCause, wants_description, amb_at, kept_where}
use Rattle.nz_solve.proofs.OutcomeKept as shapes
use Rattle.nz_solve.proofs.RangeLemmas.{denominator_refused, irreducible_named, described_refused}

-- ---- what is wanted is there
pub where_there : {A : Type 0} (wanted : Bool) (P : A → Type 0) (x : A) (o : Option A) → o ≡ there wanted x → P x → IsWhere wanted P o
where_there true P x o e h = subst (IsWhere true P) (sym e) h
where_there false P x o e h = e

modules_there : {A : Type 0} (level rest : Bool) (P : A → Type 0) (o q : Option A) → q ≡ kept_where (level && rest) o → IsWhere level P o → IsWhere (level && rest) P q
modules_there true true P o q e h = subst (IsWhere true P) (sym e) h
modules_there true false P o q e h = e
modules_there false rest P o q e h = e

cover_there : (s : System) (wanted : Bool) (extreme : List Vector) (simplices : List (List ℕ)) (o : Option (List Vector)) (p : Option (List (List ℕ))) → o ≡ there wanted extreme → p ≡ there wanted simplices → (IsTrue wanted → IsCoverOf s extreme simplices) → AreWhere wanted (IsCoverOf s) o p
cover_there s true extreme simplices o p e f h = subst (λ (q : Option (List (List ℕ))). AreWhere true (IsCoverOf s) o q) (sym f) (subst (λ (q : Option (List Vector)). AreWhere true (IsCoverOf s) q (Some simplices)) (sym e) (h refl))
cover_there s false extreme simplices o p e f h = (e, f)

description_there : (s : System) (wanted : Bool) (extreme : List Vector) (o p : Option (List Vector)) → (IsTrue wanted → AreExtreme s extreme) → AreWhere wanted (IsDescription s.width extreme) o p → AreWhere wanted (IsSupportDescription s) o p
description_there s true extreme (Some x) (Some y) h d = record { extreme = extreme; are_extreme = h refl; description = d }
description_there s true extreme (Some x) None h d = absurd d
description_there s true extreme None p h d = absurd d
description_there s false extreme o p h d = d

-- ---- degrees and levels
no_grading : (o : Option Vector) → o ≡ None → IsSome o → ⊥
no_grading None e h = false≢true h
no_grading (Some g) e h = absurd (let f : Some g ≡ None = e in cc)

denominator_there : (s : System) (wanted : Bool) (grading : Option Vector) (hilbert : List Vector) (o : Option ℤ) (ones : Option (List Vector)) → IsHilbertBasis s hilbert → AreDivided wanted grading hilbert o ones → HasDenominator s grading o
denominator_there s wanted None hilbert o ones b h = h.0
denominator_there s wanted (Some f) hilbert None ones b h = absurd h
denominator_there s wanted (Some f) hilbert (Some g) ones b h = record { basis = hilbert; is_basis = b; denominator = h.0 }

ones_there : (s : System) (wanted : Bool) (hilbert : List Vector) (o : Option ℤ) (ones : Option (List Vector)) → (IsTrue wanted → IsSome s.grading) → IsHilbertBasis s hilbert → AreDivided wanted s.grading hilbert o ones → IsWhere wanted (AreOfDegreeOne s o) ones
ones_there s wanted hilbert o ones given b h = by s.grading wanted o ones refl given h
  where
    by : (f : Option Vector) (wanted : Bool) (o : Option ℤ) (ones : Option (List Vector)) → s.grading ≡ f → (IsTrue wanted → IsSome s.grading) → AreDivided wanted f hilbert o ones → IsWhere wanted (AreOfDegreeOne s o) ones
    by None true o ones e t k = absurd (no_grading s.grading e (t refl))
    by None false o ones e t k = k.1
    by (Some f) wanted None ones e t k = absurd k
    by (Some f) true (Some g) (Some xs) e t k = ones_are_elements s f e hilbert xs b g k.0 k.1
    by (Some f) true (Some g) None e t k = absurd k.1
    by (Some f) false (Some g) ones e t k = k.1

module _ (s : System) (is : IsSystem s) (extreme : List Vector) where
  vertices_there : (wanted level : Bool) (vertices rays : Option (List Vector)) → s.level ≡ level → (IsTrue wanted → AreExtreme s extreme) → AreParted wanted level extreme vertices rays → IsWhere (wanted && level) (AreVertices s) vertices
  vertices_there false level vertices rays e x h = h.0
  vertices_there true false vertices rays e x h = h.0
  vertices_there true true (Some vs) rays e x h = vertices_picked s is e (StandsBefore s.grading) extreme vs (x refl) h.0
  vertices_there true true None rays e x h = absurd h.0

  rays_there : (wanted level : Bool) (vertices rays : Option (List Vector)) → s.level ≡ level → (IsTrue wanted → AreExtreme s extreme) → AreParted wanted level extreme vertices rays → IsWhere wanted (AreRays s) rays
  rays_there false level vertices rays e x h = h.1
  rays_there true false vertices rays e x h = subst (IsWhere true (AreRays s)) (sym h.1) (flat_rays s e (StandsBefore s.grading) extreme (x refl))
  rays_there true true vertices (Some rs) e x h = rays_picked s is e (StandsBefore s.grading) extreme rs (x refl) h.1
  rays_there true true vertices None e x h = absurd h.1

amb_there : (s : System) (level : Bool) → s.level ≡ level → amb_at level s.width ≡ file_width s
amb_there s true e = sym (ap (λ (b : Bool). elim b [ true ↦ s.width - 1 | false ↦ s.width ]) e)
amb_there s false e = sym (ap (λ (b : Bool). elim b [ true ↦ s.width - 1 | false ↦ s.width ]) e)

or_left : (a b : Bool) → IsTrue a → IsTrue (a || b)
or_left true b h = refl
or_left false b h = absurd (false≢true h)

or_right : (a b : Bool) → IsTrue b → IsTrue (a || b)
or_right true b h = refl
or_right false b h = h

-- ---- the extreme generators, where they are needed
module _ (s : SystemData) (list extreme : List Vector) (simplices : List (List ℕ)) (are : AreElements s list extreme simplices) where
  pub for_rays : IsTrue s.goals.rays → AreExtreme s.system extreme
  for_rays t = are.are_extreme (or_left s.goals.rays s.goals.hyperplanes t)

  pub for_hyperplanes : IsTrue s.goals.hyperplanes → AreExtreme s.system extreme
  for_hyperplanes t = are.are_extreme (or_right s.goals.rays s.goals.hyperplanes t)

  pub extreme_wide : IsTrue (wants_description s) → Each (HasWidth s.system.width) extreme
  extreme_wide t = each_map (IsExtreme (IsMember s.system)) (HasWidth s.system.width) extreme (λ x e. e.irreducible.member.width) (are.are_extreme t).only

pub hilbert_wide : (s : System) (hilbert : List Vector) → IsHilbertBasis s hilbert → Each (HasWidth s.width) hilbert
hilbert_wide s hilbert b = each_map (IsHilbertElement s) (HasWidth s.width) hilbert (λ x h. h.irreducible.member.width) b.only

-- why something is not shown
pub shown_refused : (half : ℤ) (fits : ℤ → Type 0) → HasRoom half fits → (s : SystemData) (list extreme : List Vector) (simplices : List (List ℕ)) → AreElements s list extreme simplices → (hilbert : List Vector) → IsHilbertBasis s.system hilbert → IsShownCause half fits s extreme hilbert → HasOwnAbove s.system half
shown_refused half fits room s list extreme simplices are hilbert b (inl k) = denominator_refused s.system half fits room k.form k.given hilbert (irreducible_named s.system are.positive hilbert (each_map (IsHilbertElement s.system) (IsIrreducible (IsMember s.system)) hilbert (λ x h. h.irreducible) b.only)) k.lacks
shown_refused half fits room s list extreme simplices are hilbert b (inr k) = described_refused s.system half extreme are.positive (for_hyperplanes s list extreme simplices are k.0) k.1

-- the same lists, by other names
pub lists_same : (s : System) (hilbert hilbert' : List Vector) (modules modules' : Option (List Vector)) → hilbert' ≡ hilbert → modules' ≡ modules → AreElementLists s hilbert modules → AreElementLists s hilbert' modules'
lists_same s hilbert hilbert' modules modules' e f h = subst (λ (o : Option (List Vector)). AreElementLists s hilbert' o) (sym f) (subst (λ (xs : List Vector). AreElementLists s xs modules) (sym e) h)

pub elements_same : (s : SystemData) (list extreme extreme' : List Vector) (simplices : List (List ℕ)) → extreme' ≡ extreme → AreElements s list extreme simplices → AreElements s list extreme' simplices
elements_same s list extreme extreme' simplices e h = subst (λ (xs : List Vector). AreElements s list xs simplices) (sym e) h

-- ---- the outcome
module _ (s : SystemData) (kept : IsKept s) (list extreme : List Vector) (covering : List (List ℕ)) (are : AreElements s list extreme covering) (basis : List Vector) (generators_of_module : Option (List Vector)) (lists : AreElementLists s.system basis generators_of_module) (o : OutcomeData)
    (amb : o.amb ≡ amb_at s.system.level s.system.width) (level : o.level ≡ s.system.level) (modules : o.modules ≡ kept_where (wants_modules s) generators_of_module) (hilbert : o.hilbert ≡ there (wants_basis s) basis) (divided : AreDivided s.goals.degree_one s.system.grading basis o.denominator o.degree_one)
    (parted : AreParted s.goals.rays s.system.level extreme o.vertices o.rays) (described : AreWhere s.goals.hyperplanes (IsDescription s.system.width extreme) o.support o.equations) (generators : o.generators ≡ there s.goals.cover extreme) (simplices : o.simplices ≡ there s.goals.cover covering) (asked : AreAnswered s.system s.system.asked o.asked) where
  pub solution_of : IsSolution s o
  solution_of = record {
    positive = are.positive;
    graded = lists.graded;
    amb = amb ∙ amb_there s.system s.system.level refl;
    level = level;
    denominator = denominator_there s.system s.goals.degree_one s.system.grading basis o.denominator o.degree_one lists.basis divided;
    modules = modules_there s.system.level (s.goals.modules || wants_basis s) (AreModuleGenerators s.system) generators_of_module o.modules modules lists.are_modules;
    hilbert = where_there (wants_basis s) (IsHilbertBasis s.system) basis o.hilbert hilbert lists.basis;
    degree_one = ones_there s.system s.goals.degree_one basis o.denominator o.degree_one kept.askable.degree_one lists.basis divided;
    vertices = vertices_there s.system kept.system extreme s.goals.rays s.system.level o.vertices o.rays refl (for_rays s list extreme covering are) parted;
    rays = rays_there s.system kept.system extreme s.goals.rays s.system.level o.vertices o.rays refl (for_rays s list extreme covering are) parted;
    description = description_there s.system s.goals.hyperplanes extreme o.support o.equations (for_hyperplanes s list extreme covering are) described;
    cover = cover_there s.system s.goals.cover extreme covering o.generators o.simplices generators simplices (λ t. let c = are.cover t in record { are_extreme = c.0; good = c.1 });
    asked = asked;
  }

  pub outcome_kept : IfSome o.asked (Each (λ (a : Asked). HasText s.system.level a.0 a.1)) → IsOutcome o
  outcome_kept texts = shapes.outcome_kept s kept.system o solution_of (subst (λ (b : Bool). IfSome o.asked (Each (λ (a : Asked). HasText b a.0 a.1))) (sym level) texts)
