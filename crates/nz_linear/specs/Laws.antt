-- The theorems on rows, rays, elimination and forms that the engines rest on.
use Rattle.std.specs.Prelude.{◌≡◌, ◌≢◌, ◌↔◌, ◌⊎◌, ℕ, ◌+◌, ◌<◌, List, [], ◌∷◌, ◌++◌, length, map, ℤ, pos, ◌*ℤ◌, ◌<ℤ◌, Contains, ◌≤ℤ◌, neg_ℤ}
use Rattle.std.specs.List.{AllByRecursion as Each, AllZip, range_with_len}
use Rattle.nz_spec.specs.Vectors.{Vector, dot, minus, combination, HasWidth, IsNonzero, IsPrimitive, plus, scaled, IsMultipleOf}
use Rattle.nz_spec.specs.Sums.{IsInCone, IsInSpan, IsInGroup, IsInBox, IsIndependent, HasRank, IsInside}
use Rattle.nz_spec.specs.Order.{Pairwise, IsListOf}
use Rattle.nz_spec.specs.Boxes.{IsFloor}
use Rattle.nz_spec.specs.Monoids.{IsLine, IsPositive, IsIrreducible, IsExtreme, IsExtremeRay}
use Rattle.nz_spec.specs.Forms.{IsOtherColumn, AreEquations, IsDualForm, AreDualForms, IsSupportForm, AreSupportForms, IsNeeded}
use Rattle.nz_spec.specs.Systems.{System, IsSystem, IsMember}
use Rattle.nz_spec.specs.Constraints.{AreEquationsOf, AreRowsOf}
use Rattle.nz_spec.specs.Stages.{IsInLattice, IsInStage}
use Rattle.nz_spec.specs.Laws.{IsDescribedCone}
use Rattle.nz_linear.specs.DualPairs.{Pair, divisor, IsDualPair, OnlyZero, pair_of, IsDual, HasWidths}
use Rattle.nz_linear.specs.Elimination.{IsPivotStep, IsState, unit_pairs, CommonZero, DualOfRows}
use Rattle.nz_linear.specs.Echelon.{AreColumnPairs}
use Rattle.nz_linear.specs.Division.{IsGcdOf, HasUnitValue, IsPrimitiveOf}
use Rattle.nz_linear.specs.Cones.{Satisfies, IsInRows, IsDoubleDescription, meet}
use Rattle.nz_linear.specs.Extreme.{IsPointed}
use Rattle.nz_linear.specs.RayStep.{AreExtremeRays, IsRayStep, RayPair, IsAdjacentPair}
use Rattle.nz_linear.specs.Facets.{facet_rows}
use Rattle.nz_linear.specs.Coordinates.{in_coordinates}

-- ---- rows and rays
-- each list of rows has a list of rays that describes it
abbrev pub RaysExist : Type 0
RaysExist = (w : ℕ) (rows : List Vector) → Each (HasWidth w) rows → (rays : List Vector) × IsDoubleDescription w rows rays

-- Farkas: the rows are at least 0 just on the cone of the rays, and the rays are at least 0 just on the cone of the rows
abbrev pub RaysGenerate : Type 0
RaysGenerate = (w : ℕ) (rows rays : List Vector) → IsDoubleDescription w rows rays → (x : Vector) → HasWidth w x → (Satisfies rows x ↔ IsInCone w rays x) × (Satisfies rays x ↔ IsInCone w rows x)

-- ---- elimination
-- rows vanish together at a nonzero vector, or some of them are the forms of a complete dual pair
abbrev pub VanishOrDual : Type 0
VanishOrDual = (w : ℕ) (rows : List Vector) → Each (HasWidth w) rows → CommonZero w rows ⊎ DualOfRows w rows

-- before any row the state is that of the unit forms
abbrev pub StartIsState : Type 0
StartIsState = (w : ℕ) → IsState w [] [] (unit_pairs w)

-- a row that is 0 at all the vectors left changes nothing
abbrev pub SkipKeeps : Type 0
SkipKeeps = (w : ℕ) (h : Vector) (seen : List Vector) (chosen free : List Pair) → IsState w seen chosen free → Each (λ p. dot h p.vector ≡ pos 0) free → IsState w (h ∷ seen) chosen free

-- a pivot step leads to the state with the row
abbrev pub PivotKeeps : Type 0
PivotKeeps = (w : ℕ) (h : Vector) (seen : List Vector) (chosen free chosen' free' : List Pair) → HasWidth w h → IsState w seen chosen free → IsPivotStep w h chosen free chosen' free' → IsState w (h ∷ seen) chosen' free'

-- the rank of the rows is the number of those chosen, and with the vectors left it is the width
abbrev pub RankIsChosen : Type 0
RankIsChosen = (w : ℕ) (seen : List Vector) (chosen free : List Pair) → Each (HasWidth w) seen → IsState w seen chosen free → HasRank w (Contains seen) (length chosen) × (length chosen + length free ≡ w)

-- the rows span the vectors at which all the vectors left are 0
abbrev pub SpanIsWhereZero : Type 0
SpanIsWhereZero = (w : ℕ) (seen : List Vector) (chosen free : List Pair) (x : Vector) → Each (HasWidth w) seen → HasWidth w x → IsState w seen chosen free → IsInSpan w seen x ↔ Each (λ p. dot x p.vector ≡ pos 0) free

-- before any row all columns are left
abbrev pub StartHasColumns : Type 0
StartHasColumns = (w : ℕ) → AreColumnPairs w (range_with_len 0 w) (unit_pairs w)

-- a pivot step at the first vector at which the row is not 0 leaves out its column
abbrev pub PivotLeavesColumns : Type 0
PivotLeavesColumns = (w : ℕ) (h : Vector) (front : List ℕ) (c : ℕ) (back : List ℕ) (chosen free chosen' free' : List Pair) → Each (HasWidths w) free → AreColumnPairs w (front ++ c ∷ back) free → (t : IsPivotStep w h chosen free chosen' free') → Each (λ p. dot h p.vector ≡ pos 0) t.before → length front ≡ length t.before → AreColumnPairs w (front ++ back) free'

-- the columns of the vectors left are those that are no key column
abbrev pub ColumnsAreOther : Type 0
ColumnsAreOther = (w : ℕ) (seen : List Vector) (columns : List ℕ) (chosen free : List Pair) → Each (HasWidth w) seen → IsState w seen chosen free → AreColumnPairs w columns free → IsListOf ◌<◌ (IsOtherColumn w seen) columns

-- and their primitive vectors are the equations
abbrev pub LeftAreEquations : Type 0
LeftAreEquations = (w : ℕ) (seen : List Vector) (columns : List ℕ) (chosen free : List Pair) (fs : List Vector) → Each (HasWidth w) seen → IsState w seen chosen free → AreColumnPairs w columns free → AllZip (λ (p : Pair) f. IsPrimitiveOf p.vector f) free fs → AreEquations w seen fs

-- each list has equations
abbrev pub EquationsExist : Type 0
EquationsExist = (w : ℕ) (G : List Vector) → Each (HasWidth w) G → (fs : List Vector) × AreEquations w G fs

-- the primitive vectors of the chosen pairs are the dual forms of the chosen rows
abbrev pub ChosenAreDualForms : Type 0
ChosenAreDualForms = (w : ℕ) (seen : List Vector) (columns : List ℕ) (chosen free : List Pair) (fs : List Vector) → Each (HasWidth w) seen → IsState w seen chosen free → AreColumnPairs w columns free → AllZip (λ (p : Pair) f. IsPrimitiveOf p.vector f) chosen fs → AreDualForms w (map (λ p. p.form) chosen) fs

-- a vector of a list has at most one dual form
abbrev pub DualFormIsUnique : Type 0
DualFormIsUnique = (w : ℕ) (vectors : List Vector) (v f g : Vector) → Each (HasWidth w) vectors → IsDualForm w vectors v f → IsDualForm w vectors v g → f ≡ g

-- ---- lines
-- a nonzero vector at which all rows are 0 is a line of their cone
abbrev pub CommonZeroIsLine : Type 0
CommonZeroIsLine = (w : ℕ) (rows : List Vector) (z : CommonZero w rows) → IsLine (IsInRows w rows) z.point

-- rows among which are the forms of a complete dual pair are all 0 only at 0
abbrev pub DualIsPointed : Type 0
DualIsPointed = (w : ℕ) (rows : List Vector) → DualOfRows w rows → IsPointed w rows

-- and then there is no line
abbrev pub PointedIsPositive : Type 0
PointedIsPositive = (w : ℕ) (rows : List Vector) → IsPointed w rows → IsPositive (IsInRows w rows)

-- ---- extreme rays
-- each pointed cone has its list of extreme rays
abbrev pub ExtremeRaysExist : Type 0
ExtremeRaysExist = (w : ℕ) (rows : List Vector) → Each (HasWidth w) rows → IsPointed w rows → (rays : List Vector) × AreExtremeRays w rows rays

-- the vectors of a complete dual pair, where primitive, are the extreme rays of its forms
abbrev pub DualRaysStart : Type 0
DualRaysStart = (w : ℕ) (ps : List Pair) → IsDualPair w ps → OnlyZero w ps → Each (λ p. IsPrimitive p.vector) ps → AreExtremeRays w (map (λ p. p.form) ps) (map (λ p. p.vector) ps)

-- the rays of the rows and a step give the rays of the rows with one more
abbrev pub RayStepKeeps : Type 0
RayStepKeeps = (w : ℕ) (h : Vector) (rows rays cut : List Vector) → HasWidth w h → IsPointed w (h ∷ rows) → AreExtremeRays w rows rays → IsRayStep h rows rays cut → AreExtremeRays w (h ∷ rows) cut

-- the rays kept and the sums of different adjacent pairs are all different
abbrev pub NoRayTwice : Type 0
NoRayTwice = (w : ℕ) (h : Vector) (rows rays kept : List Vector) (pairs : List RayPair) (new : List Vector) → Each (HasWidth w) rays → Each (Satisfies rows) rays → Pairwise ◌≢◌ kept → Each (Contains rays) kept → Each (IsAdjacentPair h rows rays) pairs → Pairwise ◌≢◌ pairs → AllZip (λ (q : RayPair) x. IsPrimitiveOf (meet h q.above q.below) x) pairs new → Pairwise ◌≢◌ (kept ++ new)

-- the list of extreme rays has just the primitive extreme rays of the cone
abbrev pub RaysAreRays : Type 0
RaysAreRays = (w : ℕ) (rows rays : List Vector) (x : Vector) → IsPointed w rows → AreExtremeRays w rows rays → Contains rays x ↔ IsExtremeRay (IsInRows w rows) x

-- and just the extreme generators of the whole vectors of the cone
abbrev pub RaysAreExtreme : Type 0
RaysAreExtreme = (w : ℕ) (rows rays : List Vector) (x : Vector) → IsPointed w rows → AreExtremeRays w rows rays → Contains rays x ↔ IsExtreme (IsInRows w rows) x

-- ---- support forms
-- the extreme rays of the facet rows are just the support forms
abbrev pub RaysAreSupport : Type 0
RaysAreSupport = (w : ℕ) (G rays : List Vector) (columns : List ℕ) (f : Vector) → Each (HasWidth w) G → IsListOf ◌<◌ (IsOtherColumn w G) columns → AreExtremeRays w (facet_rows w columns G) rays → Contains rays f ↔ IsSupportForm w G f

-- the support forms and the equations of a list describe its cone
abbrev pub SupportDescribes : Type 0
SupportDescribes = (w : ℕ) (G : List Vector) → Each (HasWidth w) G → IsDescribedCone w G

-- and none of the support forms can be left out
abbrev pub SupportIsNeeded : Type 0
SupportIsNeeded = (w : ℕ) (G support equations : List Vector) (f : Vector) → Each (HasWidth w) G → AreSupportForms w G support → AreEquations w G equations → Contains support f → IsNeeded w support equations f

-- so the members of a system are the vectors of its lattice at which all its rows are at least 0
abbrev pub MembersAreStage : Type 0
MembersAreStage = (s : System) (equations rows : List Vector) → IsSystem s → AreEquationsOf s equations → AreRowsOf s rows → (x : Vector) → IsMember s x ↔ IsInStage (IsInLattice s equations) rows x

-- ---- primitive vectors and floors
-- integers have a greatest common divisor, which is a combination of them
abbrev pub GcdExists : Type 0
GcdExists = (xs : Vector) → (g : ℤ) × IsGcdOf g xs

-- a vector is primitive just where some form has the value 1 at it
abbrev pub PrimitiveHasUnit : Type 0
PrimitiveHasUnit = (x : Vector) → IsPrimitive x ↔ HasUnitValue x

-- a nonzero vector is a positive multiple of a primitive vector
abbrev pub PrimitiveExists : Type 0
PrimitiveExists = (x : Vector) → IsNonzero x → (y : Vector) × IsPrimitiveOf x y

-- and of no other
abbrev pub PrimitiveIsUnique : Type 0
PrimitiveIsUnique = (x y z : Vector) → IsPrimitiveOf x y → IsPrimitiveOf x z → y ≡ z

-- a quotient by a positive number has a floor
abbrev pub FloorExists : Type 0
FloorExists = (k c : ℤ) → pos 0 <ℤ k → (q : ℤ) × IsFloor k c q

-- and no other
abbrev pub FloorIsUnique : Type 0
FloorIsUnique = (k c q r : ℤ) → pos 0 <ℤ k → IsFloor k c q → IsFloor k c r → q ≡ r

-- a vector of the span of a dual pair, less the vectors, each taken as often as the floor of its form's value by its divisor says, is in their box
abbrev pub FloorsLeaveBox : Type 0
FloorsLeaveBox = (w : ℕ) (ps : List Pair) (floors : List ℤ) (x : Vector) → IsDualPair w ps → HasWidth w x → IsInSpan w (map (λ p. p.vector) ps) x → AllZip (λ (p : Pair) q. IsFloor (divisor p) (dot p.form x) q) ps floors → IsInBox w (map (λ p. p.vector) ps) (minus x (combination w floors (map (λ p. p.vector) ps)))

-- ---- cuts of a group
-- a multiple of one generator added to another keeps the group
abbrev pub ClearKeepsGroup : Type 0
ClearKeepsGroup = (w : ℕ) (xs : List Vector) (b p : Vector) (ys : List Vector) (q : ℤ) (x : Vector) → HasWidth w b → Each (HasWidth w) (xs ++ ys) → Contains (xs ++ ys) p → IsInGroup w (xs ++ b ∷ ys) x ↔ IsInGroup w (xs ++ plus b (scaled q p) ∷ ys) x

-- where a form is 0 at all generators but p, the vectors of the group at which it is 0 are the group of the others
abbrev pub EquationCuts : Type 0
EquationCuts = (w : ℕ) (h : Vector) (xs : List Vector) (p : Vector) (ys : List Vector) (x : Vector) → HasWidth w p → Each (HasWidth w) (xs ++ ys) → Each (λ v. dot h v ≡ pos 0) (xs ++ ys) → dot h p ≢ pos 0 → (IsInGroup w (xs ++ p ∷ ys) x × (dot h x ≡ pos 0)) ↔ IsInGroup w (xs ++ ys) x

-- where a form is a multiple of g·m at all generators but p, and g is the greatest common divisor of g·m and its value g·a at p, the vectors of the group at which it is a multiple of g·m are the group with m·p in place of p
abbrev pub CongruenceCuts : Type 0
CongruenceCuts = (w : ℕ) (h : Vector) (g a m : ℤ) (xs : List Vector) (p : Vector) (ys : List Vector) (x : Vector) → HasWidth w p → Each (HasWidth w) (xs ++ ys) → Each (λ v. IsMultipleOf (g *ℤ m) (dot h v)) (xs ++ ys) → dot h p ≡ g *ℤ a → pos 0 <ℤ g → IsGcdOf g ((g *ℤ a) ∷ (g *ℤ m) ∷ []) → (IsInGroup w (xs ++ p ∷ ys) x × IsMultipleOf (g *ℤ m) (dot h x)) ↔ IsInGroup w (xs ++ scaled m p ∷ ys) x

-- the form of the changed generator changes with it, so that a dual pair stays one
abbrev pub ClearKeepsDual : Type 0
ClearKeepsDual = (w : ℕ) (p r : Pair) (ps : List Pair) (q a b : ℤ) → HasWidths w p → HasWidths w r → Each (HasWidths w) ps → pos 0 <ℤ a → a *ℤ divisor p ≡ b *ℤ divisor r → IsDual (p ∷ r ∷ ps) → IsDual (pair_of (plus (scaled a p.form) (scaled (neg_ℤ (q *ℤ b)) r.form)) p.vector ∷ pair_of r.form (plus r.vector (scaled q p.vector)) ∷ ps)

-- ---- simplices
-- a vector of the span of a dual pair is in its group just where each form is a multiple of its divisor
abbrev pub GroupByForms : Type 0
GroupByForms = (w : ℕ) (ps : List Pair) (x : Vector) → IsDualPair w ps → HasWidth w x → IsInSpan w (map (λ p. p.vector) ps) x → IsInGroup w (map (λ p. p.vector) ps) x ↔ Each (λ p. IsMultipleOf (divisor p) (dot p.form x)) ps

-- in its cone just where each form is at least 0
abbrev pub ConeByForms : Type 0
ConeByForms = (w : ℕ) (ps : List Pair) (x : Vector) → IsDualPair w ps → HasWidth w x → IsInSpan w (map (λ p. p.vector) ps) x → IsInCone w (map (λ p. p.vector) ps) x ↔ Each (λ p. pos 0 ≤ℤ dot p.form x) ps

-- and inside it just where each form is above 0
abbrev pub InsideByForms : Type 0
InsideByForms = (w : ℕ) (ps : List Pair) (x : Vector) → IsDualPair w ps → HasWidth w x → IsInSpan w (map (λ p. p.vector) ps) x → IsInside w (map (λ p. p.vector) ps) x ↔ Each (λ p. pos 0 <ℤ dot p.form x) ps

-- no vector is inside two lists of which one is at least 0 at a form, and above 0 at some vector, and the other at most 0
abbrev pub ApartByForm : Type 0
ApartByForm = (w : ℕ) (f : Vector) (vs us : List Vector) (v x : Vector) → Each (HasWidth w) vs → Each (HasWidth w) us → HasWidth w f → Each (λ u. pos 0 ≤ℤ dot f u) vs → Contains vs v → pos 0 <ℤ dot f v → Each (λ u. dot f u ≤ℤ pos 0) us → IsInside w vs x → IsInside w us x → ⊥

-- ---- coordinates
-- in a lattice with an independent base, the irreducible elements of a stage are, in coordinates, those of the cone of its rows in coordinates
abbrev pub IrreducibleInCoordinates : Type 0
IrreducibleInCoordinates = (w : ℕ) (base rows : List Vector) (c : Vector) → Each (HasWidth w) base → IsIndependent w base → length c ≡ length base → IsIrreducible (IsInStage (IsInGroup w base) rows) (combination w c base) ↔ IsIrreducible (IsInRows (length base) (map (λ r. in_coordinates base r) rows)) c

-- and so are its extreme generators
abbrev pub ExtremeInCoordinates : Type 0
ExtremeInCoordinates = (w : ℕ) (base rows : List Vector) (c : Vector) → Each (HasWidth w) base → IsIndependent w base → length c ≡ length base → IsExtreme (IsInStage (IsInGroup w base) rows) (combination w c base) ↔ IsExtreme (IsInRows (length base) (map (λ r. in_coordinates base r) rows)) c

-- and its lines
abbrev pub LinesInCoordinates : Type 0
LinesInCoordinates = (w : ℕ) (base rows : List Vector) (c : Vector) → Each (HasWidth w) base → IsIndependent w base → length c ≡ length base → IsLine (IsInStage (IsInGroup w base) rows) (combination w c base) ↔ IsLine (IsInRows (length base) (map (λ r. in_coordinates base r) rows)) c

-- where the lattice of a system is the group of an independent base, and its rows in coordinates are pointed, its extreme generators are the vectors of the extreme rays in coordinates
abbrev pub SystemExtremeAreRays : Type 0
SystemExtremeAreRays = (s : System) (equations rows base rays : List Vector) (x : Vector) → IsSystem s → AreEquationsOf s equations → AreRowsOf s rows → Each (HasWidth s.width) base → IsIndependent s.width base → ((y : Vector) → IsInLattice s equations y ↔ IsInGroup s.width base y) → IsPointed (length base) (map (λ r. in_coordinates base r) rows) → AreExtremeRays (length base) (map (λ r. in_coordinates base r) rows) rays → IsExtreme (IsMember s) x ↔ Contains (map (λ c. combination s.width c base) rays) x
