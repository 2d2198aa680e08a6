-- The congruences of a given lattice tell its group, and the constraints of a system tell its members.
use Rattle.std.proofs.Common.{◌≡◌, ◌≢◌, ◌↔◌, inl, inr, ℕ, zero, suc, ◌<◌, List, [], ◌∷◌, ◌++◌, map, Option, Some, None, IfSome, false, pos, ◌*ℤ◌, ◌≤ℤ◌, Contains, refl, sym, ap, ◌∙◌, subst, arith}
use Rattle.std.proofs.Math.IntN.{*ℤ_comm}
use Rattle.std.specs.List.{AllByRecursion as Each, AllZip}
use Rattle.nz_spec.specs.Vectors.{Vector, dot, HasWidth, IsMultipleOf}
use Rattle.nz_spec.specs.Sums.{IsInGroup, IsInSpan, IsInCone}
use Rattle.nz_spec.specs.Order.{Pairwise}
use Rattle.nz_spec.specs.Forms.{LeadsAt, IsDualForm}
use Rattle.nz_spec.specs.Systems.{Congruence, System, IsSystem, IsMember, IsMultipleBy}
use Rattle.nz_spec.specs.Constraints.{Constraint, Zero, NotNegative, Meets, MeetsAll, constraint_of, AreGenEquations, AreGenSupport}
use Rattle.nz_spec.proofs.ConstraintLaws.{MeetsAll-member}
use Rattle.nz_spec.proofs.ListLaws.{contains_cases, Each-contains, Each-from_contains}
use Rattle.nz_linear.specs.DualPairs.{Pair, pair_of, divisor, IsApart, IsDual, IsDualPair, HasWidths}
use Rattle.nz_linear.proofs.DescribedCone.{described_cone}
use Rattle.nz_linear.proofs.DualGroups.{group_by_forms}
use Rattle.nz_linear.proofs.Groups.{group_width}
use Rattle.nz_linear.proofs.Lists.{each_all, each_left, each_right, map_each}
use Rattle.nz_linear.proofs.Ring.{one-mul}
use Rattle.nz_linear.proofs.Spans.{span_within}
use Rattle.nz_sweep.specs.Duals.{Coordinate}
use Rattle.nz_sweep.specs.GroupConstraints.{IsDualCoordinate, AreAboveOne, none, pass, keep, AreGroupCongruences}
use Rattle.nz_sweep.proofs.GeneratingLemmas.{generates}
use Rattle.nz_frame.specs.Constraining.{AreSweptCongruences, AreGivenCongruences, AreAllConstraints, IsOutside}
use Rattle.nz_linear.proofs.SumCoordinates.{group_has, group_in_span}

-- ---- vectors in echelon form are different
leads_apart : (c d : ℕ) (v : Vector) → c < d → LeadsAt c v → LeadsAt d v → ⊥
leads_apart c d [] l p q = p
leads_apart zero zero (a ∷ v) l p q = omega (arith, l)
leads_apart zero (suc d) (a ∷ v) l p q = p q.0
leads_apart (suc c) zero (a ∷ v) l p q = omega (arith, l)
leads_apart (suc c) (suc d) (a ∷ v) l p q = leads_apart c d v (omega (arith, l)) p.1 q.1

leading_apart : (c : ℕ) (v : Vector) (columns : List ℕ) (vs : List Vector) → LeadsAt c v → Each (λ d. c < d) columns → AllZip LeadsAt columns vs → Each (λ u. v ≢ u) vs
leading_apart c v [] [] p l z = tt
leading_apart c v [] (u ∷ vs) p l z = absurd z
leading_apart c v (d ∷ columns) [] p l z = absurd z
leading_apart c v (d ∷ columns) (u ∷ vs) p l z = ((λ e. leads_apart c d u l.0 (subst (LeadsAt c) e p) z.0), leading_apart c v columns vs p l.1 z.1)

leading_different : (columns : List ℕ) (vs : List Vector) → Pairwise ◌<◌ columns → AllZip LeadsAt columns vs → Pairwise ◌≢◌ vs
leading_different [] [] l z = tt
leading_different [] (u ∷ vs) l z = absurd z
leading_different (d ∷ columns) [] l z = absurd z
leading_different (d ∷ columns) (u ∷ vs) l z = (leading_apart d u columns vs z.0 l.0 z.1, leading_different columns vs l.1 z.1)

-- ---- the dual pairs of the coordinates
zero_at_others : (w : ℕ) (vectors : List Vector) (v f x : Vector) → IsDualForm w vectors v f → Contains vectors x → x ≢ v → dot f x ≡ pos 0
zero_at_others w vectors v f x d c n = by d.earlier d.later d.zero_on (subst (λ (vs : List Vector). Contains vs x) d.whole c)
  where
    by : (e l : List Vector) → Each (λ g. dot f g ≡ pos 0) (e ++ l) → Contains (e ++ v ∷ l) x → dot f x ≡ pos 0
    by [] l z k = elim (contains_cases v l x k) [ inl h ↦ absurd (n (sym h)) | inr i ↦ Each-contains (λ g. dot f g ≡ pos 0) l x z i ]
    by (a ∷ e) l z k = elim (contains_cases a (e ++ v ∷ l) x k) [ inl h ↦ ap (dot f) (sym h) ∙ z.0 | inr i ↦ by e l z.1 i ]

pairs : List Vector → List Coordinate → List Pair
pairs [] cs = []
pairs (v ∷ vs) [] = []
pairs (v ∷ vs) (c ∷ cs) = pair_of c.form v ∷ pairs vs cs

module _ (w : ℕ) (vs : List Vector) (wide : Each (HasWidth w) vs) where
  vectors_of_pairs : (us : List Vector) (cs : List Coordinate) → AllZip (IsDualCoordinate w vs) us cs → map (λ (p : Pair). p.vector) (pairs us cs) ≡ us
  unfolding pairs
  vectors_of_pairs [] [] z = refl
  vectors_of_pairs [] (c ∷ cs) z = absurd z
  vectors_of_pairs (u ∷ us) [] z = absurd z
  vectors_of_pairs (u ∷ us) (c ∷ cs) z = ap (λ t. u ∷ t) (vectors_of_pairs us cs z.1)

  apart_pairs : (v : Vector) (c : Coordinate) (us : List Vector) (cs : List Coordinate) → IsDualCoordinate w vs v c → Contains vs v → Each (Contains vs) us → Each (λ u. v ≢ u) us → AllZip (IsDualCoordinate w vs) us cs → Each (IsApart (pair_of c.form v)) (pairs us cs)
  unfolding pairs
  apart_pairs v c [] [] d m ms n z = tt
  apart_pairs v c [] (e ∷ cs) d m ms n z = absurd z
  apart_pairs v c (u ∷ us) [] d m ms n z = absurd z
  apart_pairs v c (u ∷ us) (e ∷ cs) d m ms n z = (
    record { there = zero_at_others w vs v c.form u d.form ms.0 (λ k. n.0 (sym k)); back = zero_at_others w vs u e.form v z.0.form m n.0 },
    apart_pairs v c us cs d m ms.1 n.1 z.1,
  )

  dual_pairs : (us : List Vector) (cs : List Coordinate) → Each (Contains vs) us → Pairwise ◌≢◌ us → AllZip (IsDualCoordinate w vs) us cs → IsDual (pairs us cs)
  unfolding pairs
  dual_pairs [] [] ms n z = tt
  dual_pairs [] (c ∷ cs) ms n z = absurd z
  dual_pairs (u ∷ us) [] ms n z = absurd z
  dual_pairs (u ∷ us) (c ∷ cs) ms n z = (z.0.form.positive, apart_pairs u c us cs z.0 ms.0 ms.1 n.0 z.1, dual_pairs us cs ms.1 n.1 z.1)

  wide_pairs : (us : List Vector) (cs : List Coordinate) → Each (HasWidth w) us → AllZip (IsDualCoordinate w vs) us cs → Each (HasWidths w) (pairs us cs)
  unfolding pairs
  wide_pairs [] [] l z = tt
  wide_pairs [] (c ∷ cs) l z = absurd z
  wide_pairs (u ∷ us) [] l z = absurd z
  wide_pairs (u ∷ us) (c ∷ cs) l z = (record { form_width = z.0.form.width; vector_width = l.0 }, wide_pairs us cs l.1 z.1)

  IsWholeAt : Vector → Coordinate → Type 0
  IsWholeAt x c = IsMultipleOf c.divisor (dot c.form x)

  whole_of_pairs : (x : Vector) (us : List Vector) (cs : List Coordinate) → AllZip (IsDualCoordinate w vs) us cs → Each (λ (p : Pair). IsMultipleOf (divisor p) (dot p.form x)) (pairs us cs) → Each (IsWholeAt x) cs
  unfolding pairs IsWholeAt
  whole_of_pairs x [] [] z h = tt
  whole_of_pairs x [] (c ∷ cs) z h = absurd z
  whole_of_pairs x (u ∷ us) [] z h = absurd z
  whole_of_pairs x (u ∷ us) (c ∷ cs) z h = (subst (λ d. IsMultipleOf d (dot c.form x)) (sym z.0.divisor) h.0, whole_of_pairs x us cs z.1 h.1)

  pairs_of_whole : (x : Vector) (us : List Vector) (cs : List Coordinate) → AllZip (IsDualCoordinate w vs) us cs → Each (IsWholeAt x) cs → Each (λ (p : Pair). IsMultipleOf (divisor p) (dot p.form x)) (pairs us cs)
  unfolding pairs IsWholeAt
  pairs_of_whole x [] [] z h = tt
  pairs_of_whole x [] (c ∷ cs) z h = absurd z
  pairs_of_whole x (u ∷ us) [] z h = absurd z
  pairs_of_whole x (u ∷ us) (c ∷ cs) z h = (subst (λ d. IsMultipleOf d (dot c.form x)) z.0.divisor h.0, pairs_of_whole x us cs z.1 h.1)

  above_met : (x : Vector) (cs : List Coordinate) (gs : List Congruence) → AreAboveOne cs gs → Each (IsWholeAt x) cs → Each (λ g. IsMultipleBy g x) gs
  unfolding IsWholeAt
  above_met x [] [] none h = tt
  above_met x [] (g ∷ gs) t h = elim t [ ]
  above_met x (c ∷ ds) gs (pass p t) h = above_met x ds gs t h.1
  above_met x (c ∷ ds) (g ∷ gs) (keep p t) h = (h.0, above_met x ds gs t h.1)

  above_all : (x : Vector) (cs : List Coordinate) (gs : List Congruence) → AreAboveOne cs gs → Each (λ g. IsMultipleBy g x) gs → Each (IsWholeAt x) cs
  unfolding IsWholeAt
  above_all x [] [] none h = tt
  above_all x [] (g ∷ gs) t h = elim t [ ]
  above_all x (c ∷ ds) gs (pass p t) h = ((dot c.form x, sym (ap (λ t. dot c.form x *ℤ t) p ∙ *ℤ_comm (dot c.form x) (pos 1) ∙ one-mul (dot c.form x))), above_all x ds gs t h)
  above_all x (c ∷ ds) (g ∷ gs) (keep p t) h = (h.0, above_all x ds gs t h.1)

  -- in the span of different vectors, the congruences are met just in their group
  pub group_by_congruences : (gs : List Congruence) (x : Vector) → Pairwise ◌≢◌ vs → AreGroupCongruences w vs gs → HasWidth w x → IsInSpan w vs x → IsInGroup w vs x ↔ Each (λ g. IsMultipleBy g x) gs
  group_by_congruences gs x n a l i =
      let cs = a.coordinates in
      let e = vectors_of_pairs vs cs a.dual in
      let d : IsDualPair w (pairs vs cs) = record { widths = wide_pairs vs cs wide a.dual; dual = dual_pairs vs cs (Each-from_contains (Contains vs) vs (λ v c. c)) n a.dual } in
      let r = group_by_forms w (pairs vs cs) x d l (subst (λ (us : List Vector). IsInSpan w us x) (sym e) i) in (
        (λ g. above_met x cs gs a.above_one (whole_of_pairs x vs cs a.dual (r.0 (subst (λ (us : List Vector). IsInGroup w us x) (sym e) g)))),
        (λ h. subst (λ (us : List Vector). IsInGroup w us x) e (r.1 (pairs_of_whole x vs cs a.dual (above_all x cs gs a.above_one h)))),
      )

-- so it is of the vectors from which the sweep sets a base apart
pub swept_group : (w : ℕ) (lat : List Vector) (gs : List Congruence) (x : Vector) → Each (HasWidth w) lat → AreSweptCongruences w lat gs → HasWidth w x → IsInSpan w lat x → IsInGroup w lat x ↔ Each (λ g. IsMultipleBy g x) gs
swept_group w lat gs x wide a l i =
    let b = generates w lat a.base wide a.set_apart in
    let spanned : IsInSpan w a.base x = span_within w lat a.base x b.widths (Each-from_contains (IsInSpan w a.base) lat (λ v c. group_in_span w a.base v ((b.same v).0 (group_has w lat wide v c)))) i in
    let r = group_by_congruences w a.base b.widths gs x (leading_different b.echelon.columns a.base b.echelon.leading.in_order b.echelon.leading.each) a.congruences l spanned in
    ((λ g. r.0 ((b.same x).0 g)), (λ h. (b.same x).1 (r.1 h)))

-- ---- the members of a system
cone_met : (w : ℕ) (o : Option (List Vector)) (x : Vector) (equations support : List Vector) → HasWidth w x → IfSome o (λ G. Each (HasWidth w) G) → AreGenEquations w o equations → AreGenSupport w o support → Each (λ f. pos 0 ≤ℤ dot f x) support → Each (λ f. dot f x ≡ pos 0) equations → IfSome o (λ G. IsInCone w G x)
cone_met w None x equations support l wide e s p q = tt
cone_met w (Some G) x equations support l wide e s p q = (described_cone w G wide support equations s e x l).1 (p, q)

cone_span : (w : ℕ) (G : List Vector) (x : Vector) → IsInCone w G x → IsInSpan w G x
cone_span w G x i = record { multiple = i.multiple; factors = i.factors; positive = i.positive; one_each = i.one_each; each = each_all (λ c. Unit {0}) i.factors (λ c. tt); same = i.same }

group_met : (w : ℕ) (o gens : Option (List Vector)) (level : _) (x : Vector) (gs : List Congruence) → HasWidth w x → IfSome gens (λ G. Each (HasWidth w) G) → IfSome o (λ lat. (gens ≡ Some lat) × (level ≡ false)) → IfSome gens (λ G. IsInCone w G x) → AreGivenCongruences w o gs → Each (λ g. IsMultipleBy g x) gs → IfSome o (λ lat. IsInGroup w lat x)
group_met w None gens level x gs l wide is i a h = tt
group_met w (Some lat) gens level x gs l wide is i a h =
    let here : (P : List Vector → Type 0) → IfSome gens P → P lat = λ P k. subst (λ (o : Option (List Vector)). IfSome o P) is.0 k in
    (swept_group w lat gs x (here (Each (HasWidth w)) wide) a l (cone_span w lat x (here (λ G. IsInCone w G x) i))).1 h

kept_by_group : (w : ℕ) (o gens : Option (List Vector)) (level : _) (gs : List Congruence) → IfSome gens (λ G. Each (HasWidth w) G) → IfSome o (λ lat. (gens ≡ Some lat) × (level ≡ false)) → AreGivenCongruences w o gs → IfSome o (λ lat. (y : Vector) → IsInGroup w lat y → Each (λ g. IsMultipleBy g y) gs)
kept_by_group w None gens level gs wide is a = tt
kept_by_group w (Some lat) gens level gs wide is a = λ y g.
    let l : Each (HasWidth w) lat = subst (λ (o : Option (List Vector)). IfSome o (Each (HasWidth w))) is.0 wide in
    (swept_group w lat gs y l a (group_width w lat y l g) (group_in_span w lat y g)).0 g

pub members_meet_all : (s : System) → IsSystem s → (cs : List Constraint) → AreAllConstraints s cs → (x : Vector) → IsMember s x → MeetsAll cs x
members_meet_all s is cs a x m = MeetsAll-member s is a.of_group cs a.constraints (kept_by_group s.width s.lat s.gens s.level a.of_group is.gens_width is.lat_is_gens a.are_of_group) x m

pub met_are_members : (s : System) → IsSystem s → (cs : List Constraint) → AreAllConstraints s cs → (x : Vector) → HasWidth s.width x → MeetsAll cs x → IsMember s x
met_are_members s is cs a x l m =
    let c = a.constraints in
    let P : Constraint → Type 0 = λ c. Meets c x in
    let zeros = map Zero c.equations in
    let multiples = map constraint_of s.cg in
    let rows = map NotNegative c.rows in
    let group = map constraint_of a.of_group in
    let all : Each P (zeros ++ multiples ++ rows ++ group) = subst (λ (ds : List Constraint). MeetsAll ds x) c.whole m in
    let met_group : Each P group = each_right P (zeros ++ multiples ++ rows) group all in
    let front : Each P (zeros ++ multiples ++ rows) = each_left P (zeros ++ multiples ++ rows) group all in
    let met_rows : Each P rows = each_right P (zeros ++ multiples) rows front in
    let middle : Each P (zeros ++ multiples) = each_left P (zeros ++ multiples) rows front in
    let e = c.are_equations in
    let r = c.are_rows in
    let equations : Each (λ f. dot f x ≡ pos 0) (s.eq ++ e.of_gens) = subst (Each (λ f. dot f x ≡ pos 0)) e.whole (map_each Zero P c.equations (each_left P zeros multiples middle)) in
    let nonneg : Each (λ f. pos 0 ≤ℤ dot f x) (s.ge ++ r.of_gens) = subst (Each (λ f. pos 0 ≤ℤ dot f x)) r.whole (map_each NotNegative P c.rows met_rows) in
    let generated = cone_met s.width s.gens x e.of_gens r.of_gens l is.gens_width e.are_of_gens r.are_of_gens (each_right (λ (f : Vector). pos 0 ≤ℤ dot f x) s.ge r.of_gens nonneg) (each_right (λ (f : Vector). dot f x ≡ pos 0) s.eq e.of_gens equations) in
    record {
      width = l;
      equations = each_left (λ (f : Vector). dot f x ≡ pos 0) s.eq e.of_gens equations;
      congruences = map_each constraint_of P s.cg (each_right P zeros multiples middle);
      inequalities = each_left (λ (f : Vector). pos 0 ≤ℤ dot f x) s.ge r.of_gens nonneg;
      generated = generated;
      in_group = group_met s.width s.lat s.gens s.level x a.of_group l is.gens_width is.lat_is_gens generated a.are_of_group (map_each constraint_of P a.of_group met_group);
    }

-- a vector meets all constraints just where it is a member
pub constraints_tell_members : (s : System) → IsSystem s → (cs : List Constraint) → AreAllConstraints s cs → (x : Vector) → HasWidth s.width x → MeetsAll cs x ↔ IsMember s x
constraints_tell_members s is cs a x l = ((λ m. met_are_members s is cs a x l m), (λ m. members_meet_all s is cs a x m))

-- what has an outside constraint is no member
pub outside_is_no_member : (s : System) → IsSystem s → (x : Vector) (c : Constraint) → IsOutside s x c → ¬ IsMember s x
outside_is_no_member s is x c o m =
    let all : MeetsAll (o.first.before ++ c ∷ o.first.after) x = subst (λ (ds : List Constraint). MeetsAll ds x) o.first.whole (members_meet_all s is o.constraints o.are_all x m) in
    o.first.broken (each_right (λ d. Meets d x) o.first.before (c ∷ o.first.after) all).0
