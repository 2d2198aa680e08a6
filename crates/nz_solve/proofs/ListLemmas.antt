-- The lists of a system by level and degree, as the parts of the solver leave them.
use Rattle.std.proofs.Common.{◌≡◌, ◌≢◌, ℕ, ℤ, ◌-◌, ◌≤◌, List, length, Option, Some, None, IfSome, Bool, true, false, IsTrue, refl, sym, ◌∙◌, subst, arith, inl, inr}
use Rattle.nz_scalar.specs.Room.{HasRoom}
use Rattle.std.specs.List.{AllByRecursion as Each}
use Rattle.nz_spec.specs.Vectors.{Vector, HasWidth}
use Rattle.nz_spec.specs.Order.{ListsOnce}
use Rattle.nz_spec.specs.Systems.{System, IsSystem, IsMember}
use Rattle.nz_spec.specs.Monoids.{IsPositive, IsIrreducible, IsModuleGenerator}
use Rattle.nz_spec.specs.Elements.{IsHilbertElement, AreModuleGenerators, IsFirstNotPositive}
use Rattle.nz_spec.proofs.LevelLaws.{module_irreducible}
use Rattle.nz_linear.proofs.Lists.{each_map}
use Rattle.nz_degree.specs.Levels.{HasEntry}
use Rattle.nz_degree.specs.declared.positivity.Positivity.TheVariants.{Positive, NotPositive}
use Rattle.nz_degree.proofs.ElementLaws.{sorted_is_basis, sorted_are_modules}
use Rattle.nz_measures.specs.Reaches.{HasOwnAbove}
use Rattle.nz_frame.specs.Elements.{IsGraded}
use Rattle.nz_frame.proofs.GradeLaws.{check_is_exact, ungraded_is_graded}
use Rattle.nz_frame.proofs.LevelLists.{zero_picked, one_picked, flat_elements}
use Rattle.nz_vec.specs.declared.answers.Num.{Num}
use Rattle.nz_vec.specs.declared.answers.Num.TheVariants as num
use Rattle.nz_solve.specs.declared.refusal.SolveRefusal.{SolveRefusal}
use Rattle.nz_solve.specs.declared.refusal.SolveRefusal.TheVariants.{Line, Grade, Range, TooMany, Stopped, NoMemory}
use Rattle.nz_solve.specs.Replies.{IsWhere}
use Rattle.nz_solve.specs.Parts.{AreLevels, ArePositive, IsDegreeRefusal, LacksSomeDegree, IsLevelCause, IsSorted, AreSorted, AreElementLists, IsReckonRefusal, IsOutcomeRefusal}
use Rattle.nz_solve.proofs.RangeLemmas.{degree_refused, irreducible_named}

-- ---- widths
-- a vector of a system has an entry
pub entries_there : (s : System) → IsSystem s → (xs : List Vector) → Each (HasWidth s.width) xs → Each HasEntry xs
entries_there s is xs l = each_map (HasWidth s.width) HasEntry xs (λ x w. subst (λ (n : ℕ). 1 ≤ n) (sym w) (by s.level refl)) l
  where
    by : (b : Bool) → s.level ≡ b → 1 ≤ s.width
    by true e = let n : 1 ≤ s.width - 1 = subst (λ (b : Bool). 1 ≤ elim b [ true ↦ s.width - 1 | false ↦ s.width ]) e is.at_least in omega (arith, n)
    by false e = subst (λ (b : Bool). 1 ≤ elim b [ true ↦ s.width - 1 | false ↦ s.width ]) e is.at_least

pub irreducible_wide : (s : System) (xs : List Vector) → ListsOnce (IsIrreducible (IsMember s)) xs → Each (HasWidth s.width) xs
irreducible_wide s xs l = each_map (IsIrreducible (IsMember s)) (HasWidth s.width) xs (λ x i. i.member.width) l.only

-- the grading is as wide as the vectors
pub graded_wide : (s : System) → IsSystem s → (xs : List Vector) → Each (HasWidth s.width) xs → IfSome s.grading (λ g. Each (HasWidth (length g)) xs)
graded_wide s is xs l = by s.grading is.grading_width
  where
    by : (o : Option Vector) → IfSome o (HasWidth s.width) → IfSome o (λ g. Each (HasWidth (length g)) xs)
    by None w = tt
    by (Some g) w = subst (λ (n : ℕ). Each (HasWidth n) xs) (sym w) l

pub graded_at : (s : System) → IsSystem s → (grading : Option Vector) → grading ≡ s.grading → (xs : List Vector) → Each (HasWidth s.width) xs → IfSome grading (λ g. Each (HasWidth (length g)) xs)
graded_at s is grading e xs l = subst (λ (o : Option Vector). IfSome o (λ g. Each (HasWidth (length g)) xs)) (sym e) (graded_wide s is xs l)

-- a call that only reckons, on the way to the outcome
pub reckon_outcome : (half : ℤ) (s : System) (e : Num) (r : SolveRefusal) → (e ≡ num.Range → HasOwnAbove s half) → IsReckonRefusal e r → IsOutcomeRefusal half s r
reckon_outcome half s num.Range r f i = subst (IsOutcomeRefusal half s) (sym i) (f refl)
reckon_outcome half s num.NoMemory r f i = subst (IsOutcomeRefusal half s) (sym i) tt

-- ---- levels
module _ (s : System) (is : IsSystem s) (list zero one : List Vector) (l : ListsOnce (IsIrreducible (IsMember s)) list) (level : Bool) (e : level ≡ s.level) (p : AreLevels level list zero one) where
  pub zero_listed : ListsOnce (IsHilbertElement s) zero
  zero_listed = by s.level refl (subst (λ (b : Bool). AreLevels b list zero one) e p)
    where
      by : (b : Bool) → s.level ≡ b → AreLevels b list zero one → ListsOnce (IsHilbertElement s) zero
      by true t q = zero_picked s is t ◌≢◌ list zero l q.0
      by false t q = subst (ListsOnce (IsHilbertElement s)) (sym q) (flat_elements s t ◌≢◌ list l)

  pub one_listed : IsTrue level → ListsOnce (IsModuleGenerator (IsMember s)) one
  one_listed t = let tall : IsTrue s.level = sym e ∙ t in one_picked s is tall ◌≢◌ list one l ((subst (λ (b : Bool). AreLevels b list zero one) (e ∙ tall) p).1)

  pub zero_wide : Each (HasWidth s.width) zero
  zero_wide = each_map (IsHilbertElement s) (HasWidth s.width) zero (λ x h. h.irreducible.member.width) zero_listed.only

  pub one_wide : IsTrue level → Each (HasWidth s.width) one
  one_wide t = each_map (IsModuleGenerator (IsMember s)) (HasWidth s.width) one (λ x g. g.of_level_one.member.width) (one_listed t).only

  -- ---- degrees
  pub zero_graded : ArePositive s.grading zero → IsGraded s
  zero_graded h = by s.grading refl h
    where
      by : (o : Option Vector) → s.grading ≡ o → ArePositive o zero → IsGraded s
      by None t q = ungraded_is_graded s t
      by (Some g) t q = check_is_exact s g t zero zero_listed Positive q

  element_lists : (hilbert : List Vector) (modules : Option (List Vector)) → IsGraded s → AreSorted level s.grading zero one hilbert modules → AreElementLists s hilbert modules
  element_lists hilbert modules g h = record {
    graded = g;
    basis = sorted_is_basis s zero hilbert zero_listed h.first.moved h.first.in_order;
    are_modules = subst (λ (b : Bool). IsWhere b (AreModuleGenerators s) modules) e (by level modules refl h.second);
  }
    where
      by : (b : Bool) (o : Option (List Vector)) → level ≡ b → IsWhere b (IsSorted s.grading one) o → IsWhere b (AreModuleGenerators s) o
      by true (Some xs) t q = sorted_are_modules s one xs (one_listed t) q.moved q.in_order
      by true None t q = absurd q
      by false o t q = q

  pub lists_are : (hilbert : List Vector) (modules : Option (List Vector)) → ArePositive s.grading zero → AreSorted level s.grading zero one hilbert modules → AreElementLists s hilbert modules
  lists_are hilbert modules g h = element_lists hilbert modules (zero_graded g) h

  -- ---- refusals
  degree_cause : (half : ℤ) (fits : ℤ → Type 0) → HasRoom half fits → IsPositive (IsMember s) → LacksSomeDegree fits s.grading zero → HasOwnAbove s half
  degree_cause half fits room q k = degree_refused s half fits room k.form k.given zero (irreducible_named s q zero (each_map (IsHilbertElement s) (IsIrreducible (IsMember s)) zero (λ x h. h.irreducible) zero_listed.only)) k.lacks

  pub degrees_refused : (half : ℤ) (fits : ℤ → Type 0) → HasRoom half fits → IsPositive (IsMember s) → (r : SolveRefusal) → IsDegreeRefusal fits s.grading zero r → IsOutcomeRefusal half s r
  degrees_refused half fits room q (Line v) h = absurd h
  degrees_refused half fits room q (Grade x) h = subst (IsFirstNotPositive s) (sym h.shown) (check_is_exact s h.form h.given zero zero_listed (NotPositive h.place) h.tells).0
  degrees_refused half fits room q Range h = degree_cause half fits room q h
  degrees_refused half fits room q TooMany h = absurd h
  degrees_refused half fits room q (Stopped stage) h = absurd h
  degrees_refused half fits room q NoMemory h = tt

  pub sorting_refused : (half : ℤ) (fits : ℤ → Type 0) → HasRoom half fits → IsPositive (IsMember s) → IsLevelCause fits level s.grading zero one → HasOwnAbove s half
  sorting_refused half fits room q (inl k) = degree_cause half fits room q k
  sorting_refused half fits room q (inr k) = degree_refused s half fits room k.1.form k.1.given one (irreducible_named s q one (each_map (IsModuleGenerator (IsMember s)) (IsIrreducible (IsMember s)) one (λ x g. ((module_irreducible s is (sym e ∙ k.0) x).0 g).0) (one_listed k.0).only)) k.1.lacks
