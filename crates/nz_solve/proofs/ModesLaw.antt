-- A system has one outcome, whatever the mode, where no cover is wanted.
use Rattle.std.proofs.Common.{◌≡◌, ◌≢◌, inl, inr, ℕ, zero, suc, ◌<◌, List, [], ◌∷◌, length, map, get_or, Option, Some, None, IfSome, Bool, true, false, ℤ, pos, refl, sym, ap, ap₂, ◌∙◌, subst, arith}
use Rattle.std.specs.Prelude.{slice_get}
use Rattle.std.proofs.lemmas.Option.{slice_get_cases, get_or_from_slice_get}
use Rattle.std.specs.List.{AllByRecursion as Each, AllZip}
use Rattle.nz_spec.specs.Vectors.{Vector, HasWidth}
use Rattle.nz_spec.specs.Order.{StandsBefore, Pairwise, IsListOf}
use Rattle.nz_spec.specs.Systems.{System, IsSystem, IsMember, asked_member}
use Rattle.nz_spec.specs.Monoids.{IsModuleGenerator, IsExtreme, IsLeastLine}
use Rattle.nz_spec.specs.Elements.{IsHilbertElement, IsHilbertBasis, IsOfDegree, AreModuleGenerators, IsRayElement, IsVertexElement, AreRays, AreVertices, IsSupportDescription, IsCoverOf, IsFirstNotPositive}
use Rattle.nz_spec.specs.Forms.{IsDescription}
use Rattle.nz_spec.specs.Parts.{NamesRest}
use Rattle.nz_spec.proofs.ListLaws.{IsListOf-unique, StandsBefore-asymmetric, Each-weaker}
use Rattle.nz_spec.proofs.PartsLaws.{TakesApart-unique}
use Rattle.nz_spec.proofs.UniqueLaws.{IsDescription-unique}
use Rattle.nz_further.specs.Denominators.{IsDenominator}
use Rattle.nz_further.proofs.DenominatorLaws.{denominator_unique}
use Rattle.nz_order.proofs.OrderLaws.{stands_irreflexive}
use Rattle.nz_order.proofs.SortLaws.{Pairwise-different}
use Rattle.nz_vec.specs.Conditions.{condition_of}
use Rattle.nz_vec.specs.declared.constraints.Constraint.{Constraint}
use Rattle.nz_vec.specs.declared.constraints.Constraint.TheVariants.{Zero, Multiple, NotNegative}
use Rattle.nz_member.specs.declared.reply.Reply.{Reply}
use Rattle.nz_member.specs.declared.reply.Reply.TheVariants.{Parts, Outside}
use Rattle.nz_system.specs.Meaning.{SystemData}
use Rattle.nz_blocks.specs.Outcomes.{Asked, OutcomeData}
use Rattle.nz_blocks.proofs.OneOutcome.{same_fields}
use Rattle.nz_solve.specs.Replies.{IsWhere, AreWhere, IsReplyOf, AreAnswered}
use Rattle.nz_solve.specs.Solutions.{IsSolution, DividesDegrees, HasDenominator, AreOfDegreeOne, wants_basis, wants_modules, wants_vertices}
use Rattle.nz_frame.proofs.SweepLaws.{one_outside}
use Rattle.nz_frame.proofs.GradeLaws.{graded_has_none}
use Rattle.nz_frame.proofs.GroupLaws.{outside_is_no_member}
use Rattle.nz_input.specs.declared.kind.Mode.{Mode}
use Rattle.nz_system.specs.declared.asked.GoalSet.{GoalSet}

-- ---- what is wanted is one
pub one_where : {A : Type 0} (wanted : Bool) (P : A → Type 0) → ((x y : A) → P x → P y → x ≡ y) → (o p : Option A) → IsWhere wanted P o → IsWhere wanted P p → o ≡ p
one_where true P one (Some x) (Some y) h k = ap Some (one x y h k)
one_where true P one (Some x) None h k = absurd k
one_where true P one None p h k = absurd h
one_where false P one o p h k = h ∙ sym k

record AreSamePair {A B : Type 0} (o p : Option A) (q r : Option B) : Type 0 where
  first : o ≡ p
  second : q ≡ r

two_where : {A B : Type 0} (wanted : Bool) (P : A → B → Type 0) → ((x y : A) (u v : B) → P x u → P y v → (x ≡ y) × (u ≡ v)) → (o p : Option A) (q r : Option B) → AreWhere wanted P o q → AreWhere wanted P p r → AreSamePair o p q r
two_where true P one (Some x) (Some y) (Some u) (Some v) h k = let e = one x y u v h k in record { first = ap Some e.0; second = ap Some e.1 }
two_where true P one (Some x) (Some y) (Some u) None h k = absurd k
two_where true P one (Some x) (Some y) None r h k = absurd h
two_where true P one (Some x) None q r h k = absurd k
two_where true P one None p q r h k = absurd h
two_where false P one o p q r h k = record { first = h.0 ∙ sym k.0; second = h.1 ∙ sym k.1 }

none_where : {A B : Type 0} (wanted : Bool) (P : A → B → Type 0) → wanted ≡ false → (o p : Option A) (q r : Option B) → AreWhere wanted P o q → AreWhere wanted P p r → AreSamePair o p q r
none_where wanted P e o p q r h k =
    let a = subst (λ (b : Bool). AreWhere b P o q) e h in
    let c = subst (λ (b : Bool). AreWhere b P p r) e k in
    record { first = a.0 ∙ sym c.0; second = a.1 ∙ sym c.1 }

-- ---- lists of a system
pub one_of : (s : System) (P : Vector → Type 0) (xs ys : List Vector) → IsListOf (StandsBefore s.grading) P xs → IsListOf (StandsBefore s.grading) P ys → xs ≡ ys
one_of s P xs ys h k = IsListOf-unique (StandsBefore s.grading) (StandsBefore-asymmetric s.grading) P xs ys h k

same_grading : (g h : Vector) → Some g ≡ Some h → g ≡ h
same_grading g h e = cc

one_degree : (s : System) (o : Option ℤ) (xs ys : List Vector) → AreOfDegreeOne s o xs → AreOfDegreeOne s o ys → xs ≡ ys
one_degree s None xs ys h k = absurd h
one_degree s (Some d) xs ys h k =
    let a = h.of_degree in
    let b = k.of_degree in
    let e = same_grading b.grading a.grading (sym b.given ∙ a.given) in
    one_of s (IsOfDegree s a.grading d) xs ys a.list (subst (λ (g : Vector). IsListOf (StandsBefore s.grading) (IsOfDegree s g d) ys) e b.list)

one_divisor : (s : System) (grading : Vector) (g d : ℤ) → DividesDegrees s grading g → DividesDegrees s grading d → g ≡ d
one_divisor s grading g d h k =
    let e = one_of s (IsHilbertElement s) k.basis h.basis k.is_basis h.is_basis in
    denominator_unique grading h.basis g d h.denominator (subst (λ (xs : List Vector). IsDenominator grading xs d) e k.denominator)

one_denominator : (s : System) (grading : Option Vector) (o p : Option ℤ) → HasDenominator s grading o → HasDenominator s grading p → o ≡ p
one_denominator s None o p h k = h ∙ sym k
one_denominator s (Some f) None p h k = absurd h
one_denominator s (Some f) (Some g) None h k = absurd k
one_denominator s (Some f) (Some g) (Some d) h k = ap (λ (z : ℤ). Some z) (one_divisor s f g d h k)

one_description : (s : System) (fs gs es ds : List Vector) → IsSupportDescription s fs es → IsSupportDescription s gs ds → (fs ≡ gs) × (es ≡ ds)
one_description s fs gs es ds h k =
    let e = one_of s (IsExtreme (IsMember s)) k.extreme h.extreme k.are_extreme h.are_extreme in
    IsDescription-unique s.width h.extreme fs gs es ds (Each-weaker (IsExtreme (IsMember s)) (HasWidth s.width) (λ x i. i.irreducible.member.width) h.extreme h.are_extreme.only)
    h.description (subst (λ (xs : List Vector). IsDescription s.width xs gs ds) e k.description)

-- ---- replies
one_condition : (c d : Constraint ℤ) → condition_of (λ z. z) c ≡ condition_of (λ z. z) d → c ≡ d
one_condition (Zero f) (Zero g) e = cc
one_condition (Zero f) (Multiple g m) e = cc
one_condition (Zero f) (NotNegative g) e = cc
one_condition (Multiple f m) (Zero g) e = cc
one_condition (Multiple f m) (Multiple g n) e = cc
one_condition (Multiple f m) (NotNegative g) e = cc
one_condition (NotNegative f) (Zero g) e = cc
one_condition (NotNegative f) (Multiple g n) e = cc
one_condition (NotNegative f) (NotNegative g) e = cc

-- a place of a list without repeats has one element
each_at : {A : Type 0} (P : A → Type 0) (xs : List A) (k : ℕ) (d : A) → Each P xs → k < length xs → P (get_or xs k d)
each_at P [] k d h l = absurd (omega (arith, l))
each_at P (x ∷ xs) zero d h l = h.0
each_at P (x ∷ xs) (suc k) d h l = each_at P xs k d h.1 (omega (arith, l))

places_apart : (xs : List Vector) (i j : ℕ) → Pairwise ◌≢◌ xs → i < length xs → j < length xs → get_or xs i [] ≡ get_or xs j [] → i ≡ j
places_apart [] i j d li lj e = absurd (let b : ⊥ = omega (arith, li) in b)
places_apart (x ∷ xs) zero zero d li lj e = refl
places_apart (x ∷ xs) zero (suc j) d li lj e = absurd (each_at (λ y. x ≢ y) xs j [] d.0 (omega (arith, lj)) e)
places_apart (x ∷ xs) (suc i) zero d li lj e = absurd (each_at (λ y. x ≢ y) xs i [] d.0 (omega (arith, li)) (sym e))
places_apart (x ∷ xs) (suc i) (suc j) d li lj e = ap suc (places_apart xs i j d.1 (omega (arith, li)) (omega (arith, lj)) e)

no_element : {A : Type 0} (x : A) (o : Option A) → o ≡ Some x → o ≡ None → ⊥
no_element x o e f = let g : Some x ≡ None = sym e ∙ f in cc

pub place_inside : (xs : List Vector) (i : ℕ) (x : Vector) → slice_get xs i ≡ Some x → i < length xs
place_inside xs i x e = elim (slice_get_cases xs i).1 [
  | inl r ↦ r.1
  | inr r ↦ absurd (no_element x (slice_get xs i) e r.1)
]

one_place : (xs : List Vector) (i j : ℕ) (x y : Vector) → Pairwise ◌≢◌ xs → x ≡ y → slice_get xs i ≡ Some x → slice_get xs j ≡ Some y → i ≡ j
one_place xs i j x y d s e f =
    places_apart xs i j d (place_inside xs i x e) (place_inside xs j y f) (get_or_from_slice_get xs i x [] e ∙ s ∙ sym (get_or_from_slice_get xs j y [] f))

-- what is left has one name
one_name : (modules : Option (List Vector)) (x y : Vector) (p q : Option ℕ) → IfSome modules (Pairwise ◌≢◌) → x ≡ y → NamesRest modules x p → NamesRest modules y q → p ≡ q
one_name None x y None None d s h k = refl
one_name None x y None (Some j) d s h k = absurd k
one_name None x y (Some i) q d s h k = absurd h
one_name (Some ms) x y None q d s h k = absurd h
one_name (Some ms) x y (Some i) None d s h k = absurd k
one_name (Some ms) x y (Some i) (Some j) d s h k = ap Some (one_place ms i j x y d s h k)

one_reply : (s : System) → IsSystem s → (hilbert : List Vector) (modules : Option (List Vector)) → IfSome modules (Pairwise ◌≢◌) → (x : Vector) (r q : Reply ℤ) → IsReplyOf (λ z. z) s hilbert modules x r → IsReplyOf (λ z. z) s hilbert modules x q → r ≡ q
one_reply s is hilbert modules d x (Parts place counts) (Parts place' counts') h k =
    let e = TakesApart-unique h.parts.taken k.times k.parts.rest k.parts.taken in
    let c : counts ≡ counts' = h.counted ∙ ap (map pos) e.0 ∙ sym k.counted in
    let p : place ≡ place' = one_name modules h.parts.rest k.parts.rest place place' d e.1 h.parts.names k.parts.names in
    ap₂ Parts p c
one_reply s is hilbert modules d x (Parts place counts) (Outside c) h k = absurd (outside_is_no_member s is x (condition_of (λ z. z) c) k h.member)
one_reply s is hilbert modules d x (Outside c) (Parts place counts) h k = absurd (outside_is_no_member s is x (condition_of (λ z. z) c) h k.member)
one_reply s is hilbert modules d x (Outside c) (Outside e) h k = ap Outside (one_condition c e (one_outside s is x (condition_of (λ z. z) c) (condition_of (λ z. z) e) h k))

modules_differ : (s : System) (level : Bool) (modules : Option (List Vector)) → IsWhere level (AreModuleGenerators s) modules → IfSome modules (Pairwise ◌≢◌)
modules_differ s true (Some ms) h = Pairwise-different (StandsBefore s.grading) (stands_irreflexive s.grading) ms h.in_order
modules_differ s true None h = tt
modules_differ s false modules h = subst (λ (o : Option (List Vector)). IfSome o (Pairwise ◌≢◌)) (sym h) tt

all_replies : (s : System) → IsSystem s → (hilbert : List Vector) (modules : Option (List Vector)) → IfSome modules (Pairwise ◌≢◌) → (xs : List Vector) (a b : List Asked)
    → AllZip (λ (x : Vector) (r : Asked). (r.0 ≡ x) × IsReplyOf (λ z. z) s hilbert modules (asked_member s x) r.1) xs a → AllZip (λ (x : Vector) (r : Asked). (r.0 ≡ x) × IsReplyOf (λ z. z) s hilbert modules (asked_member s x) r.1) xs b → a ≡ b
all_replies s is hilbert modules d [] [] [] h k = refl
all_replies s is hilbert modules d [] [] (r ∷ b) h k = absurd k
all_replies s is hilbert modules d [] (r ∷ a) b h k = absurd h
all_replies s is hilbert modules d (x ∷ xs) [] b h k = absurd h
all_replies s is hilbert modules d (x ∷ xs) (r ∷ a) [] h k = absurd k
all_replies s is hilbert modules d (x ∷ xs) (r ∷ a) (q ∷ b) h k =
    let v : r.0 ≡ q.0 = h.0.0 ∙ sym k.0.0 in
    let w : r.1 ≡ q.1 = one_reply s is hilbert modules d (asked_member s x) r.1 q.1 h.0.1 k.0.1 in
    let same : r ≡ q = ap₂ (λ (x : Vector) (y : Reply ℤ). (x, y)) v w in
    ap₂ (λ t ts. t ∷ ts) same (all_replies s is hilbert modules d xs a b h.1 k.1)

one_answered : (s : System) → IsSystem s → (o : Option (List Vector)) (a b : Option (List Asked)) → AreAnswered s o a → AreAnswered s o b → a ≡ b
one_answered s is None a b h k = h ∙ sym k
one_answered s is (Some xs) None b h k = absurd h
one_answered s is (Some xs) (Some a) None h k = absurd k
one_answered s is (Some xs) (Some a) (Some b) h k =
    let e : k.hilbert ≡ h.hilbert = one_of s (IsHilbertElement s) k.hilbert h.hilbert k.basis h.basis in
    let m : k.modules ≡ h.modules = one_where s.level (AreModuleGenerators s) (one_of s (IsModuleGenerator (IsMember s))) k.modules h.modules k.are_modules h.are_modules in
    ap Some (all_replies s is h.hilbert h.modules (modules_differ s s.level h.modules h.are_modules) xs a b h.each
    (subst (λ (l : List Vector). AllZip (λ (x : Vector) (r : Asked). (r.0 ≡ x) × IsReplyOf (λ z. z) s l h.modules (asked_member s x) r.1) xs b) e
    (subst (λ (l : Option (List Vector)). AllZip (λ (x : Vector) (r : Asked). (r.0 ≡ x) × IsReplyOf (λ z. z) s k.hilbert l (asked_member s x) r.1) xs b) m k.each)))

-- ---- one outcome
-- two outcomes of one system with the same goals are the same, where no cover is wanted
pub one_solution : (s : SystemData) → IsSystem s.system → s.goals.cover ≡ false → (o p : OutcomeData) → IsSolution s o → IsSolution s p → o ≡ p
one_solution s is uncovered o p h k =
    let S = s.system in
    let described = two_where s.goals.hyperplanes (IsSupportDescription S) (one_description S) o.support p.support o.equations p.equations h.description k.description in
    let covered = none_where s.goals.cover (IsCoverOf S) uncovered o.generators p.generators o.simplices p.simplices h.cover k.cover in
    let divided = one_denominator S S.grading o.denominator p.denominator h.denominator k.denominator in
    same_fields o p (h.amb ∙ sym k.amb) (h.level ∙ sym k.level) divided
    (one_where (wants_modules s) (AreModuleGenerators S) (one_of S (IsModuleGenerator (IsMember S))) o.modules p.modules h.modules k.modules)
    (one_where (wants_basis s) (IsHilbertBasis S) (one_of S (IsHilbertElement S)) o.hilbert p.hilbert h.hilbert k.hilbert)
    (one_where s.goals.degree_one (AreOfDegreeOne S o.denominator) (one_degree S o.denominator) o.degree_one p.degree_one h.degree_one (subst (λ (d : Option ℤ). IsWhere s.goals.degree_one (AreOfDegreeOne S d) p.degree_one) (sym divided) k.degree_one))
    (one_where (wants_vertices s) (AreVertices S) (one_of S (IsVertexElement S)) o.vertices p.vertices h.vertices k.vertices)
    (one_where s.goals.rays (AreRays S) (one_of S (IsRayElement S)) o.rays p.rays h.rays k.rays)
    described.first described.second covered.first covered.second
    (one_answered S is S.asked o.asked p.asked h.asked k.asked)

-- the mode says nothing of the outcome
pub other_mode : (S : System) (goals : GoalSet) (m n : Mode) (o : OutcomeData) → IsSolution (record { system = S; goals = goals; mode = m }) o → IsSolution (record { system = S; goals = goals; mode = n }) o
other_mode S goals m n o h = record { positive = h.positive; graded = h.graded; amb = h.amb; level = h.level; denominator = h.denominator; modules = h.modules; hilbert = h.hilbert; degree_one = h.degree_one; vertices = h.vertices; rays = h.rays; description = h.description; cover = h.cover; asked = h.asked }

pub modes_agree : (S : System) (goals : GoalSet) (m n : Mode) (o p : OutcomeData) → IsSystem S → goals.cover ≡ false → IsSolution (record { system = S; goals = goals; mode = m }) o → IsSolution (record { system = S; goals = goals; mode = n }) p → o ≡ p
modes_agree S goals m n o p is uncovered h k = one_solution (record { system = S; goals = goals; mode = m }) is uncovered o p h (other_mode S goals n m p k)

-- a solved system has no line, and no degree to be refused
pub solved_not_refused : (s : SystemData) (o : OutcomeData) → IsSolution s o → ((v : Vector) → ¬ IsLeastLine (IsMember s.system) v) × ((x : Vector) → ¬ IsFirstNotPositive s.system x)
solved_not_refused s o h = ((λ v l. h.positive v l.line), (λ x f. graded_has_none s.system h.graded x f))
