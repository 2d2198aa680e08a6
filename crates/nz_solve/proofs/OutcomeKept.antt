-- A solved system has an outcome of the shapes that every outcome keeps.
use Rattle.std.proofs.Common.{◌≡◌, ℕ, ◌-◌, ◌<◌, ◌≤◌, List, [], ◌∷◌, length, map, Option, Some, None, IfSome, IsSome, IsTrue, Bool, true, false, ℤ, pos, ◌≤ℤ◌, refl, sym, ap, ap₂, ◌∙◌, subst, arith}
use Rattle.std.specs.Prelude.{is_some, ◌&&◌, ◌||◌}
use Rattle.std.proofs.lemmas.Int.{ints}
use Rattle.std.proofs.lemmas.List.{length-map, length-replicate}
use Rattle.std.specs.List.{AllByRecursion as Each, AllZip}
use Rattle.nz_spec.specs.Vectors.{Vector, HasWidth}
use Rattle.nz_spec.specs.Systems.{System, IsSystem, IsMember, file_width, asked_member}
use Rattle.nz_spec.specs.Monoids.{IsModuleGenerator, IsExtreme}
use Rattle.nz_spec.specs.Forms.{IsSupportForm, IsEquationAt}
use Rattle.nz_spec.specs.Covers.{IsSimplex}
use Rattle.nz_spec.specs.Elements.{IsHilbertElement, IsHilbertBasis, IsOfDegree, AreModuleGenerators, IsRayElement, IsVertexElement, AreRays, AreVertices, IsSupportDescription, IsCoverOf}
use Rattle.nz_spec.specs.Parts.{NamesRest, TakesApart, leaves, takes}
use Rattle.nz_spec.proofs.PartsSums.{length-one_more}
use Rattle.nz_linear.proofs.Lists.{each_map, zip_to_right}
use Rattle.nz_member.specs.declared.reply.Reply.{Reply}
use Rattle.nz_member.specs.declared.reply.Reply.TheVariants.{Parts, Outside}
use Rattle.nz_system.specs.Meaning.{SystemData}
use Rattle.nz_blocks.specs.Outcomes.{Asked, OutcomeData, IsOutcome, IsDivisor, AreRows, IsAsked, HasText, row_width, width_at, number}
use Rattle.nz_solve.specs.Replies.{IsWhere, AreWhere, IsReplyOf, AreAnswered}
use Rattle.nz_solve.specs.Solutions.{IsSolution, HasDenominator, AreOfDegreeOne, wants_basis, wants_modules, wants_vertices}
use Rattle.nz_solve.proofs.ModesLaw.{one_of, one_where, place_inside}

-- ---- what is wanted
rows_where : (wanted : Bool) (w : ℕ) (P : List Vector → Type 0) → ((xs : List Vector) → P xs → Each (HasWidth w) xs) → (o : Option (List Vector)) → IsWhere wanted P o → AreRows w o
rows_where true w P wide (Some xs) h = wide xs h
rows_where true w P wide None h = absurd h
rows_where false w P wide o h = subst (AreRows w) (sym h) tt

there_where : {A : Type 0} (wanted : Bool) (P : A → Type 0) (o : Option A) → IsWhere wanted P o → is_some o ≡ wanted
there_where true P (Some x) h = refl
there_where true P None h = absurd h
there_where false P o h = ap is_some h

second_where : {A B : Type 0} (wanted : Bool) (P : A → B → Type 0) (Q : B → Type 0) → ((x : A) (y : B) → P x y → Q y) → (o : Option A) (p : Option B) → AreWhere wanted P o p → IfSome p Q
second_where true P Q to (Some x) (Some y) h = to x y h
second_where true P Q to (Some x) None h = absurd h
second_where true P Q to None p h = absurd h
second_where false P Q to o p h = subst (λ (q : Option _). IfSome q Q) (sym h.1) tt

one_where_first : {A B : Type 0} (wanted : Bool) (P : A → B → Type 0) (Q : A → Type 0) → ((x : A) (y : B) → P x y → Q x) → (o : Option A) (p : Option B) → AreWhere wanted P o p → IfSome o Q
one_where_first true P Q to (Some x) (Some y) h = to x y h
one_where_first true P Q to (Some x) None h = absurd h
one_where_first true P Q to None p h = absurd h
one_where_first false P Q to o p h = subst (λ (q : Option _). IfSome q Q) (sym h.0) tt

both_where : {A B : Type 0} (wanted : Bool) (P : A → B → Type 0) (o : Option A) (p : Option B) → AreWhere wanted P o p → is_some p ≡ is_some o
both_where true P (Some x) (Some y) h = refl
both_where true P (Some x) None h = absurd h
both_where true P None p h = absurd h
both_where false P o p h = ap is_some h.1 ∙ sym (ap is_some h.0)

-- the elements of degree 1 are as wide as the system, and come with a denominator
ones_wide : (s : System) (o : Option ℤ) (xs : List Vector) → AreOfDegreeOne s o xs → Each (HasWidth s.width) xs
ones_wide s None xs k = absurd k
ones_wide s (Some g) xs k = each_map (IsOfDegree s k.of_degree.grading g) (HasWidth s.width) xs (λ x e. e.element.irreducible.member.width) k.of_degree.list.only

divided_kept : (s : System) (wanted : Bool) (o : Option ℤ) (ones : Option (List Vector)) → IsWhere wanted (AreOfDegreeOne s o) ones → IsSome ones → IsSome o
divided_kept s wanted (Some g) ones h k = refl
divided_kept s true None (Some xs) h k = absurd h
divided_kept s true None None h k = absurd h
divided_kept s false None ones h k = subst (λ (q : Option (List Vector)). IsSome q) h k

divisor_kept : (s : System) (grading : Option Vector) (o : Option ℤ) → HasDenominator s grading o → IsDivisor o
divisor_kept s None o h = subst IsDivisor (sym h) tt
divisor_kept s (Some f) None h = absurd h
divisor_kept s (Some f) (Some g) h = h.denominator.at_least

simplices_below : (s : System) (wanted : Bool) (o : Option (List Vector)) (p : Option (List (List ℕ))) → AreWhere wanted (IsCoverOf s) o p → IfSome p (Each (Each (λ i. i < number o)))
simplices_below s true (Some x) (Some y) h = each_map (IsSimplex s.width x) (Each (λ i. i < length x)) y (λ places k. k.within) h.good.simplices
simplices_below s true (Some x) None h = absurd h
simplices_below s true None p h = absurd h
simplices_below s false o p h = subst (λ (q : Option (List (List ℕ))). IfSome q (Each (Each (λ i. i < number o)))) (sym h.1) tt

and_left : (a b : Bool) → IsTrue (a && b) → IsTrue a
and_left true b h = refl
and_left false b h = h

-- ---- replies
counts_length : {Member : Vector → Type 0} {elements : List Vector} {x : Vector} {counts : List ℕ} {rest : Vector} → TakesApart Member elements x counts rest → length counts ≡ length elements
counts_length {elements = elements} (leaves none) = length-replicate (length elements) 0
counts_length (takes {counts = counts} before after e whole none can t) = length-one_more (length before) counts ∙ counts_length t

names_place : (modules : Option (List Vector)) (rest : Vector) (place : Option ℕ) → NamesRest modules rest place → is_some place ≡ is_some modules
names_place None rest None h = refl
names_place None rest (Some p) h = absurd h
names_place (Some ms) rest None h = absurd h
names_place (Some ms) rest (Some p) h = refl

names_below : (modules : Option (List Vector)) (rest : Vector) (place : Option ℕ) → NamesRest modules rest place → IfSome place (λ p. p < number modules)
names_below None rest None h = tt
names_below None rest (Some p) h = absurd h
names_below (Some ms) rest None h = tt
names_below (Some ms) rest (Some p) h = place_inside ms p rest h

nonneg_counts : (ns : List ℕ) → Each (λ c. pos 0 ≤ℤ c) (map pos ns)
nonneg_counts [] = tt
nonneg_counts (n ∷ ns) = (omega (arith, ints), nonneg_counts ns)

or_true : (b : Bool) → (b || true) ≡ true
or_true true = refl
or_true false = refl

and_true : (b : Bool) → (b && true) ≡ b
and_true true = refl
and_true false = refl

pub basis_wanted : (s : SystemData) → is_some s.system.asked ≡ true → wants_basis s ≡ true
basis_wanted s e = ap (λ b. s.goals.hilbert || b) e ∙ or_true s.goals.hilbert

pub modules_wanted : (s : SystemData) → is_some s.system.asked ≡ true → wants_modules s ≡ s.system.level
modules_wanted s e = ap (λ b. s.system.level && (s.goals.modules || b)) (basis_wanted s e) ∙ ap (λ b. s.system.level && b) (or_true s.goals.modules) ∙ and_true s.system.level

answered_some : (s : System) (q : Option (List Vector)) (a : Option (List Asked)) → AreAnswered s q a → is_some a ≡ is_some q
answered_some s None a h = ap is_some h
answered_some s (Some xs) None h = absurd h
answered_some s (Some xs) (Some a) h = refl

row_width_is : (s : System) → IsSystem s → (o : OutcomeData) → o.amb ≡ file_width s → o.level ≡ s.level → row_width o ≡ s.width
row_width_is s is o ea el = ap₂ width_at ea el ∙ by s.level refl
  where
    by : (b : Bool) → s.level ≡ b → width_at (file_width s) s.level ≡ s.width
    by true e =
        let w : file_width s ≡ s.width - 1 = ap (λ b. elim b [ true ↦ s.width - 1 | false ↦ s.width ]) e in
        let n = is.at_least in
        ap₂ width_at w e ∙ omega (arith, w, n)
    by false e =
        let w : file_width s ≡ s.width = ap (λ b. elim b [ true ↦ s.width - 1 | false ↦ s.width ]) e in
        ap₂ width_at w e

module _ (s : SystemData) (is : IsSystem s.system) (o : OutcomeData) (h : IsSolution s o) where
  abbrev S : System
  S = s.system

  one_asked : (r_hilbert : List Vector) (r_modules : Option (List Vector)) → is_some s.system.asked ≡ true → IsHilbertBasis s.system r_hilbert → IsWhere s.system.level (AreModuleGenerators s.system) r_modules → (x : Vector) (a : Asked) → HasWidth (file_width s.system) x → a.0 ≡ x
      → (reply : Reply ℤ) → IsReplyOf (λ z. z) s.system r_hilbert r_modules (asked_member s.system x) reply → HasText o.level a.0 reply → IsAsked o (a.0, reply)
  one_asked hilbert modules e basis ms x a l ex (Parts place counts) r t =
      let same : o.hilbert ≡ Some hilbert = one_where (wants_basis s) (IsHilbertBasis S) (one_of S (IsHilbertElement S)) o.hilbert (Some hilbert) h.hilbert (subst (λ (b : Bool). IsWhere b (IsHilbertBasis S) (Some hilbert)) (sym (basis_wanted s e)) basis) in
      let same_modules : o.modules ≡ modules = one_where S.level (AreModuleGenerators S) (one_of S (IsModuleGenerator (IsMember S))) o.modules modules (subst (λ (b : Bool). IsWhere b (AreModuleGenerators S) o.modules) (modules_wanted s e) h.modules) ms in
      record {
        width = ap length ex ∙ l ∙ sym h.amb;
        answer = record {
          size = ap length r.counted ∙ length-map r.times pos ∙ counts_length r.parts.taken ∙ sym (ap number same);
          not_negative = subst (Each (λ c. pos 0 ≤ℤ c)) (sym r.counted) (nonneg_counts r.times);
          named = names_place modules r.parts.rest place r.parts.names ∙ there_where S.level (AreModuleGenerators S) modules ms ∙ sym h.level;
          below = subst (λ (m : Option (List Vector)). IfSome place (λ p. p < number m)) (sym same_modules) (names_below modules r.parts.rest place r.parts.names);
        };
      }
  one_asked hilbert modules e basis ms x a l ex (Outside c) r t = record { width = ap length ex ∙ l ∙ sym h.amb; answer = t }

  all_asked : (hilbert : List Vector) (modules : Option (List Vector)) → is_some s.system.asked ≡ true → IsHilbertBasis s.system hilbert → IsWhere s.system.level (AreModuleGenerators s.system) modules → (xs : List Vector) (answers : List Asked) → Each (HasWidth (file_width s.system)) xs
      → AllZip (λ (x : Vector) (a : Asked). (a.0 ≡ x) × IsReplyOf (λ z. z) s.system hilbert modules (asked_member s.system x) a.1) xs answers → Each (λ (a : Asked). HasText o.level a.0 a.1) answers → Each (IsAsked o) answers
  all_asked hilbert modules e basis ms [] [] l z t = tt
  all_asked hilbert modules e basis ms [] (a ∷ answers) l z t = absurd z
  all_asked hilbert modules e basis ms (x ∷ xs) [] l z t = absurd z
  all_asked hilbert modules e basis ms (x ∷ xs) (a ∷ answers) l z t = (one_asked hilbert modules e basis ms x a l.0 z.0.0 a.1 z.0.1 t.0, all_asked hilbert modules e basis ms xs answers l.1 z.1 t.1)

  asked_kept : (q : Option (List Vector)) (a : Option (List Asked)) → s.system.asked ≡ q → AreAnswered s.system q a → IfSome q (Each (HasWidth (file_width s.system))) → IfSome a (Each (λ (a : Asked). HasText o.level a.0 a.1)) → IfSome a (Each (IsAsked o))
  asked_kept None a e r l t = subst (λ (b : Option (List Asked)). IfSome b (Each (IsAsked o))) (sym r) tt
  asked_kept (Some xs) None e r l t = absurd r
  asked_kept (Some xs) (Some answers) e r l t = all_asked r.hilbert r.modules (ap is_some e) r.basis r.are_modules xs answers l r.each t

  at_width : (rows : Option (List Vector)) → AreRows s.system.width rows → AreRows (row_width o) rows
  at_width rows k = subst (λ (n : ℕ). AreRows n rows) (sym (row_width_is S is o h.amb h.level)) k

  -- what every outcome keeps, where the values of the forms that are named can be written
  pub outcome_kept : IfSome o.asked (Each (λ (a : Asked). HasText o.level a.0 a.1)) → IsOutcome o
  outcome_kept texts = record {
    at_least = subst (λ (n : ℕ). 1 ≤ n) (sym h.amb) is.at_least;
    at_most = subst (λ (n : ℕ). n ≤ 64) (sym h.amb) is.at_most;
    denominator = divisor_kept S S.grading o.denominator h.denominator;
    modules = at_width o.modules (rows_where (wants_modules s) S.width (AreModuleGenerators S) (λ xs k. each_map (IsModuleGenerator (IsMember S)) (HasWidth S.width) xs (λ x g. g.of_level_one.member.width) k.only) o.modules h.modules);
    hilbert = at_width o.hilbert (rows_where (wants_basis s) S.width (IsHilbertBasis S) (λ xs k. each_map (IsHilbertElement S) (HasWidth S.width) xs (λ x g. g.irreducible.member.width) k.only) o.hilbert h.hilbert);
    degree_one = at_width o.degree_one (rows_where s.goals.degree_one S.width (AreOfDegreeOne S o.denominator) (ones_wide S o.denominator) o.degree_one h.degree_one);
    vertices = at_width o.vertices (rows_where (wants_vertices s) S.width (AreVertices S) (λ xs k. each_map (IsVertexElement S) (HasWidth S.width) xs (λ x g. g.extreme.irreducible.member.width) k.only) o.vertices h.vertices);
    rays = at_width o.rays (rows_where s.goals.rays S.width (AreRays S) (λ xs k. each_map (IsRayElement S) (HasWidth S.width) xs (λ x g. g.extreme.irreducible.member.width) k.only) o.rays h.rays);
    support = at_width o.support (one_where_first s.goals.hyperplanes (IsSupportDescription S) (Each (HasWidth S.width)) (λ x y k. each_map (IsSupportForm S.width k.extreme) (HasWidth S.width) x (λ f g. g.width) k.description.support_forms.only) o.support o.equations h.description);
    equations = at_width o.equations (second_where s.goals.hyperplanes (IsSupportDescription S) (Each (HasWidth S.width)) (λ x y k. zip_to_right (IsEquationAt S.width k.extreme) (HasWidth S.width) k.description.equation_forms.columns y (λ c f g. g.width) k.description.equation_forms.each) o.support o.equations h.description);
    generators = at_width o.generators (one_where_first s.goals.cover (IsCoverOf S) (Each (HasWidth S.width)) (λ x y k. each_map (IsExtreme (IsMember S)) (HasWidth S.width) x (λ v g. g.irreducible.member.width) k.are_extreme.only) o.generators o.simplices h.cover);
    simplices = simplices_below S s.goals.cover o.generators o.simplices h.cover;
    asked = asked_kept S.asked o.asked refl h.asked is.asked_width texts;
    described = both_where s.goals.hyperplanes (IsSupportDescription S) o.support o.equations h.description;
    covered = both_where s.goals.cover (IsCoverOf S) o.generators o.simplices h.cover;
    bounded = there_where (wants_vertices s) (AreVertices S) o.vertices h.vertices ∙ ap₂ (λ a b. a && b) (sym (there_where s.goals.rays (AreRays S) o.rays h.rays)) (sym h.level);
    levelled = λ k. h.level ∙ and_left S.level (s.goals.modules || wants_basis s) (sym (there_where (wants_modules s) (AreModuleGenerators S) o.modules h.modules) ∙ k);
    divided = divided_kept S s.goals.degree_one o.denominator o.degree_one h.degree_one;
    parted = λ k.
        let e : is_some S.asked ≡ true = sym (answered_some S S.asked o.asked h.asked) ∙ k in (
          there_where (wants_basis s) (IsHilbertBasis S) o.hilbert h.hilbert ∙ basis_wanted s e,
          (λ t. there_where (wants_modules s) (AreModuleGenerators S) o.modules h.modules ∙ modules_wanted s e ∙ sym h.level ∙ t),
        );
  }
