-- A valid run that nothing disturbs has no status left but Done and NoMemory: every other one has a cause that is not there.
use Rattle.std.proofs.Common.{◌≡◌, ◌⊎◌, inl, inr, ℕ, ◌+◌, ◌<◌, ◌≤ℤ◌, pos, List, [], length, take, Option, Some, None, refl, sym, ap, ◌∙◌, subst, arith}
use Rattle.std.proofs.lemmas.Int.{ints}
use Rattle.std.specs.Prelude.{IfSome}
use Rattle.nz_vec.specs.Texts.{Text}
use Rattle.nz_spec.specs.Vectors.{Vector}
use Rattle.nz_spec.specs.Order.{degree}
use Rattle.nz_spec.specs.Systems.{System, IsMember}
use Rattle.nz_further.specs.Shadows.{IsBounded}
use Rattle.nz_lift.specs.SystemPoints.{IsAlong}
use Rattle.nz_spec.specs.Elements.{IsHilbertElement, IsFirstNotPositive}
use Rattle.nz_input.specs.Files.{FileData}
use Rattle.nz_input.specs.Laws.{OneFile}
use Rattle.nz_input.specs.Texts.{IsTextOf}
use Rattle.nz_input.specs.Refusals.{IsRefusedAt}
use Rattle.nz_input.specs.declared.refusal.Fault.{Fault}
use Rattle.nz_input.specs.declared.kind.Mode.{Mode}
use Rattle.nz_input.specs.declared.kind.Mode.TheVariants.{Primal, Dual}
use Rattle.nz_ideal.specs.Meanings.{meaning, system_of}
use Rattle.nz_system.specs.Rules.{first}
use Rattle.nz_system.specs.declared.refusal.SystemRefusal.{SystemRefusal}
use Rattle.nz_frame.specs.Elements.{IsGraded}
use Rattle.nz_solve.specs.Solutions.{IsCrowd}
use Rattle.nz_edge.specs.Folders.{Files}
use Rattle.nz_watch.specs.Counts.{IsQuiet, Rose, last_value}
use Rattle.nz_watch.specs.Telling.{Watched}
use Rattle.nz_words.specs.Orders.{OrderData, IsOrder, OrdersOne}
use Rattle.nz_run.specs.declared.status.Status.{Status}
use Rattle.nz_run.specs.declared.status.Status.TheVariants.{Done, Usage, Absent, ReadFault, TooLong, Grammar, Meaning, Line, Grade, Range, TooMany, Stopped, WriteFault, NoMemory, Converted, UnitsDone, Points, Unbounded}
use Rattle.nz_run.specs.declared.kinds.RunKind.{RunKind}
use Rattle.nz_run.specs.declared.kinds.RunKind.TheVariants.{Plain, Convert, Units, LatticePoints}
use Rattle.nz_run.specs.UnitRuns.{IsUnitsCause}
use Rattle.nz_run.specs.PointRuns.{ArePointsFound, IsPointsCause}
use Rattle.nz_run.specs.Solving.{IsSolveCause}
use Rattle.nz_run.specs.Kinds.{kind_for, IsCauseIn}
use Rattle.nz_run.specs.Runs.{most, IsInput, IsLoaded, IsShort, IsFoundFor, IsReadCause, ExplainsOrder}
use Rattle.nz_run.specs.Completeness.{IsCrowdAbove, IsUndisturbed, IsRunStatus, ValidRunsAreAnswered, ConversionsAreAnswered, ListingsAreAnswered, IsValidPointRun, PointsAreAnswered, UnboundedAreAnswered}

-- what is quiet did not rise
not_risen : (before now : ℕ) → IsQuiet before now → ¬ Rose before now
not_risen before now q (inl l) = let e = q.same in omega (arith, e, l)
not_risen before now q (inr e) = below last_value now e q.below
  where
    below : (last n : ℕ) → n ≡ last → n < last → ⊥
    below last n e l = omega (arith, e, l)

some_once : {a b : Text} → Some a ≡ Some b → a ≡ b
some_once e = cc

-- an order has one input
pub same_input : (side : Option ℕ) (project : Text) (files : Files) (a b : Text) → IsInput side project files a → IsInput side project files b → a ≡ b
same_input None project files a b p q = p.cut ∙ ap (take (most + 1)) (some_once (sym p.there ∙ q.there)) ∙ sym q.cut
same_input (Some n) project files a b p q = p ∙ sym q

-- a file without a fault has no first one
no_fault : {xs : List SystemRefusal} {r : SystemRefusal} → xs ≡ [] → first xs ≡ Some r → ⊥
no_fault refl e = cc

-- elements of a degree of at least 1 have none of 0 or less
no_grade : (s : System) (x : Vector) → IsGraded s → ¬ IsFirstNotPositive s x
no_grade s x graded f =
    let one = subst (λ (g : Option Vector). IfSome g (λ grading. (x : Vector) → IsHilbertElement s x → pos 1 ≤ℤ degree grading x)) f.given graded x f.first.has in
    let l = f.not_positive in
    omega (arith, ints, one, l)

crowd_above : (mode : Mode) (s : System) (limit : ℕ) (before now : Watched) → IsCrowd mode s limit 0 before now → IsCrowdAbove mode s limit
crowd_above Primal s limit before now k = k.1
crowd_above Dual s limit before now k = (k.0, k.1)

-- a run is of one kind
one_kind : {a b kind : RunKind} → (a ≡ b → ⊥) → kind ≡ a → kind ≡ b → ⊥
one_kind differ p q = differ (sym p ∙ q)

plain_convert : Plain ≡ Convert → ⊥
plain_convert e = cc

plain_units : Plain ≡ Units → ⊥
plain_units e = cc

plain_points : Plain ≡ LatticePoints → ⊥
plain_points e = cc

convert_units : Convert ≡ Units → ⊥
convert_units e = cc

convert_points : Convert ≡ LatticePoints → ⊥
convert_points e = cc

units_points : Units ≡ LatticePoints → ⊥
units_points e = cc

module _ (one_order : OrdersOne) (words : List Text) (old new : Files) (faults faults' : ℕ) (before now : Watched) (mine : OrderData) (ordered : IsOrder words mine) (text : Text) (loaded : IsInput mine.make mine.project old text) where
  -- what is said of what the words order is said of the order at hand
  explained : (status : Status) (order : OrderData) → IsOrder words order → ExplainsOrder order before now faults faults' status old new → ExplainsOrder mine before now faults faults' status old new
  explained status order is e = subst (λ (o : OrderData). ExplainsOrder o before now faults faults' status old new) (one_order words order mine is ordered) e

  -- what is said of an input is said of the input at hand
  of_input : (P : Text → Type 0) (input : Text) → IsInput mine.make mine.project old input → P input → P text
  of_input P input i p = subst P (same_input mine.make mine.project old input text i loaded) p

  -- where an input is loaded it is there
  not_absent : IsQuiet faults faults' → ¬ ExplainsOrder mine before now faults faults' Absent old new
  not_absent q e =
      let l : IsLoaded mine.project old text = subst (λ (side : Option ℕ). IsInput side mine.project old text) e.0 loaded in
      none_some l.whole (sym (e.1 q) ∙ l.there)
    where
      none_some : (t : Text) → ¬ (None ≡ Some t)
      none_some t k = cc

  -- an input that is short enough is not too long
  not_long : IsShort text → ¬ ExplainsOrder mine before now faults faults' TooLong old new
  not_long h e = (let l = of_input (λ (t : Text). most < length t) e.0 e.1 e.2.0.0 in omega (arith, l, h))

  -- a text of a file is refused nowhere
  not_refused : (l c : ℕ) (f : Fault) (file : FileData) → IsTextOf text file → ¬ ExplainsOrder mine before now faults faults' (Grammar l c f) old new
  not_refused l c f file read e = (let k = of_input (λ (t : Text). IsRefusedAt t l c f) e.0 e.1 e.2.0.1 in k.no_text file read)

  -- the file at hand is the cause
  caused : OneFile → (kind : RunKind) (file : FileData) → kind_for mine file ≡ kind → IsTextOf text file → (status : Status) (input : Text) → IsInput mine.make mine.project old input → IsReadCause mine before now input status → IsCauseIn kind mine.goals mine.limit before now file status
  caused one_file kind file is read status input i c =
      let here = of_input (λ (t : Text). IsReadCause mine before now t status) input i c in
      let own = subst (λ (f : FileData). IsCauseIn (kind_for mine f) mine.goals mine.limit before now f status) (one_file text here.file file here.read read) here.cause in
      subst (λ (k : RunKind). IsCauseIn k mine.goals mine.limit before now file status) is own

  -- the run is of this kind on the file at hand
  kind_found : OneFile → (kind : RunKind) (file : FileData) → IsTextOf text file → (input output : Text) → IsInput mine.make mine.project old input → IsFoundFor mine kind before now input output → kind_for mine file ≡ kind
  kind_found one_file kind file read input output i f =
      let here = of_input (λ (t : Text). IsFoundFor mine kind before now t output) input i f in
      subst (λ (g : FileData). kind_for mine g ≡ kind) (one_file text here.found.file file here.found.read read) here.of_kind

  -- what is stored are the lattice points of the file at hand
  points_stored : OneFile → (file : FileData) → IsTextOf text file → (input output : Text) → IsInput mine.make mine.project old input → IsFoundFor mine LatticePoints before now input output → ArePointsFound mine.goals mine.limit before now file output
  points_stored one_file file read input output i f =
      let here = of_input (λ (t : Text). IsFoundFor mine LatticePoints before now t output) input i f in
      subst (λ (g : FileData). ArePointsFound mine.goals mine.limit before now g output) (one_file text here.found.file file here.found.read read) here.found.found

pub answered : OrdersOne → OneFile → ValidRunsAreAnswered
answered oo of words old new faults faults' misses misses' stores stores' before now Done v u r = inl refl
answered oo of words old new faults faults' misses misses' stores stores' before now NoMemory v u r = inr refl
answered oo of words old new faults faults' misses misses' stores stores' before now Usage v u r = absurd (r.outcome.0 v.order v.ordered)
answered oo of words old new faults faults' misses misses' stores stores' before now Absent v u r =
    absurd (not_absent oo words old new faults faults' before now v.order v.ordered v.input v.loaded u.loads (explained oo words old new faults faults' before now v.order v.ordered v.input v.loaded Absent r.outcome.0 r.outcome.1 r.outcome.2))
answered oo of words old new faults faults' misses misses' stores stores' before now ReadFault v u r = absurd (not_risen faults faults' u.loads r.count)
answered oo of words old new faults faults' misses misses' stores stores' before now WriteFault v u r = absurd (not_risen stores stores' u.keeps r.count)
answered oo of words old new faults faults' misses misses' stores stores' before now (Stopped k) v u r = absurd (not_risen before.stops now.stops u.goes_on r.watch.1.stops)
answered oo of words old new faults faults' misses misses' stores stores' before now TooLong v u r =
    absurd (not_long oo words old new faults faults' before now v.order v.ordered v.input v.loaded v.valid.short (explained oo words old new faults faults' before now v.order v.ordered v.input v.loaded TooLong r.outcome.0 r.outcome.1 r.outcome.2))
answered oo of words old new faults faults' misses misses' stores stores' before now (Grammar l c f) v u r =
    absurd (not_refused oo words old new faults faults' before now v.order v.ordered v.input v.loaded l c f v.valid.file v.valid.read (explained oo words old new faults faults' before now v.order v.ordered v.input v.loaded (Grammar l c f) r.outcome.0 r.outcome.1 r.outcome.2))
answered oo of words old new faults faults' misses misses' stores stores' before now Converted v u r =
    let e = explained oo words old new faults faults' before now v.order v.ordered v.input v.loaded Converted r.outcome.0 r.outcome.1 r.outcome.2 in
    absurd (one_kind plain_convert v.plain (kind_found oo words old new faults faults' before now v.order v.ordered v.input v.loaded of Convert v.valid.file v.valid.read e.0 e.2.0 e.1 e.2.1))
answered oo of words old new faults faults' misses misses' stores stores' before now UnitsDone v u r =
    let e = explained oo words old new faults faults' before now v.order v.ordered v.input v.loaded UnitsDone r.outcome.0 r.outcome.1 r.outcome.2 in
    absurd (one_kind plain_units v.plain (kind_found oo words old new faults faults' before now v.order v.ordered v.input v.loaded of Units v.valid.file v.valid.read e.0 e.2.0 e.1 e.2.1))
answered oo of words old new faults faults' misses misses' stores stores' before now Points v u r =
    let e = explained oo words old new faults faults' before now v.order v.ordered v.input v.loaded Points r.outcome.0 r.outcome.1 r.outcome.2 in
    absurd (one_kind plain_points v.plain (kind_found oo words old new faults faults' before now v.order v.ordered v.input v.loaded of LatticePoints v.valid.file v.valid.read e.0 e.2.0 e.1 e.2.1))
answered oo of words old new faults faults' misses misses' stores stores' before now (Unbounded x) v u r =
    let e = explained oo words old new faults faults' before now v.order v.ordered v.input v.loaded (Unbounded x) r.outcome.0 r.outcome.1 r.outcome.2 in
    let k : IsSolveCause v.order.goals v.order.limit before now v.valid.file (Unbounded x) = caused oo words old new faults faults' before now v.order v.ordered v.input v.loaded of Plain v.valid.file v.plain v.valid.read (Unbounded x) e.0 e.1 e.2.0 in
    absurd k
answered oo of words old new faults faults' misses misses' stores stores' before now (Meaning i row f) v u r =
    let e = explained oo words old new faults faults' before now v.order v.ordered v.input v.loaded (Meaning i row f) r.outcome.0 r.outcome.1 r.outcome.2 in
    let k : IsSolveCause v.order.goals v.order.limit before now v.valid.file (Meaning i row f) = caused oo words old new faults faults' before now v.order v.ordered v.input v.loaded of Plain v.valid.file v.plain v.valid.read (Meaning i row f) e.0 e.1 e.2.0 in
    absurd (no_fault v.valid.ready k.0)
answered oo of words old new faults faults' misses misses' stores stores' before now (Line x) v u r =
    let e = explained oo words old new faults faults' before now v.order v.ordered v.input v.loaded (Line x) r.outcome.0 r.outcome.1 r.outcome.2 in
    let k : IsSolveCause v.order.goals v.order.limit before now v.valid.file (Line x) = caused oo words old new faults faults' before now v.order v.ordered v.input v.loaded of Plain v.valid.file v.plain v.valid.read (Line x) e.0 e.1 e.2.0 in
    absurd (v.valid.answerable.positive x k.refused.0.line)
answered oo of words old new faults faults' misses misses' stores stores' before now (Grade x) v u r =
    let e = explained oo words old new faults faults' before now v.order v.ordered v.input v.loaded (Grade x) r.outcome.0 r.outcome.1 r.outcome.2 in
    let k : IsSolveCause v.order.goals v.order.limit before now v.valid.file (Grade x) = caused oo words old new faults faults' before now v.order v.ordered v.input v.loaded of Plain v.valid.file v.plain v.valid.read (Grade x) e.0 e.1 e.2.0 in
    absurd (no_grade (meaning v.valid.file v.order.goals).system x v.valid.answerable.graded k.refused.1)
answered oo of words old new faults faults' misses misses' stores stores' before now Range v u r =
    let e = explained oo words old new faults faults' before now v.order v.ordered v.input v.loaded Range r.outcome.0 r.outcome.1 r.outcome.2 in
    let k : IsSolveCause v.order.goals v.order.limit before now v.valid.file Range = caused oo words old new faults faults' before now v.order v.ordered v.input v.loaded of Plain v.valid.file v.plain v.valid.read Range e.0 e.1 e.2.0 in
    absurd (v.valid.answerable.small k.refused.0)
answered oo of words old new faults faults' misses misses' stores stores' before now TooMany v u r =
    let e = explained oo words old new faults faults' before now v.order v.ordered v.input v.loaded TooMany r.outcome.0 r.outcome.1 r.outcome.2 in
    let k : IsSolveCause v.order.goals v.order.limit before now v.valid.file TooMany = caused oo words old new faults faults' before now v.order v.ordered v.input v.loaded of Plain v.valid.file v.plain v.valid.read TooMany e.0 e.1 e.2.0 in
    absurd (v.valid.answerable.few (crowd_above (meaning v.valid.file v.order.goals).mode (meaning v.valid.file v.order.goals).system v.order.limit before now k.refused))

pub converted : OrdersOne → OneFile → ConversionsAreAnswered
converted oo of words old new faults faults' misses misses' stores stores' before now Converted v u r = inl refl
converted oo of words old new faults faults' misses misses' stores stores' before now NoMemory v u r = inr refl
converted oo of words old new faults faults' misses misses' stores stores' before now Usage v u r = absurd (r.outcome.0 v.order v.ordered)
converted oo of words old new faults faults' misses misses' stores stores' before now Absent v u r =
    absurd (not_absent oo words old new faults faults' before now v.order v.ordered v.input v.loaded u.loads (explained oo words old new faults faults' before now v.order v.ordered v.input v.loaded Absent r.outcome.0 r.outcome.1 r.outcome.2))
converted oo of words old new faults faults' misses misses' stores stores' before now ReadFault v u r = absurd (not_risen faults faults' u.loads r.count)
converted oo of words old new faults faults' misses misses' stores stores' before now WriteFault v u r = absurd (not_risen stores stores' u.keeps r.count)
converted oo of words old new faults faults' misses misses' stores stores' before now (Stopped k) v u r = absurd (not_risen before.stops now.stops u.goes_on r.watch.1.stops)
converted oo of words old new faults faults' misses misses' stores stores' before now TooLong v u r =
    absurd (not_long oo words old new faults faults' before now v.order v.ordered v.input v.loaded v.short (explained oo words old new faults faults' before now v.order v.ordered v.input v.loaded TooLong r.outcome.0 r.outcome.1 r.outcome.2))
converted oo of words old new faults faults' misses misses' stores stores' before now (Grammar l c f) v u r =
    absurd (not_refused oo words old new faults faults' before now v.order v.ordered v.input v.loaded l c f v.file v.read (explained oo words old new faults faults' before now v.order v.ordered v.input v.loaded (Grammar l c f) r.outcome.0 r.outcome.1 r.outcome.2))
converted oo of words old new faults faults' misses misses' stores stores' before now Done v u r =
    let e = explained oo words old new faults faults' before now v.order v.ordered v.input v.loaded Done r.outcome.0 r.outcome.1 r.outcome.2 in
    absurd (one_kind plain_convert (kind_found oo words old new faults faults' before now v.order v.ordered v.input v.loaded of Plain v.file v.read e.0 e.2.0 e.1 e.2.1) v.converts)
converted oo of words old new faults faults' misses misses' stores stores' before now UnitsDone v u r =
    let e = explained oo words old new faults faults' before now v.order v.ordered v.input v.loaded UnitsDone r.outcome.0 r.outcome.1 r.outcome.2 in
    absurd (one_kind convert_units v.converts (kind_found oo words old new faults faults' before now v.order v.ordered v.input v.loaded of Units v.file v.read e.0 e.2.0 e.1 e.2.1))
converted oo of words old new faults faults' misses misses' stores stores' before now Points v u r =
    let e = explained oo words old new faults faults' before now v.order v.ordered v.input v.loaded Points r.outcome.0 r.outcome.1 r.outcome.2 in
    absurd (one_kind convert_points v.converts (kind_found oo words old new faults faults' before now v.order v.ordered v.input v.loaded of LatticePoints v.file v.read e.0 e.2.0 e.1 e.2.1))
converted oo of words old new faults faults' misses misses' stores stores' before now (Unbounded x) v u r =
    let e = explained oo words old new faults faults' before now v.order v.ordered v.input v.loaded (Unbounded x) r.outcome.0 r.outcome.1 r.outcome.2 in
    absurd (caused oo words old new faults faults' before now v.order v.ordered v.input v.loaded of Convert v.file v.converts v.read (Unbounded x) e.0 e.1 e.2.0)
converted oo of words old new faults faults' misses misses' stores stores' before now (Meaning i row f) v u r =
    let e = explained oo words old new faults faults' before now v.order v.ordered v.input v.loaded (Meaning i row f) r.outcome.0 r.outcome.1 r.outcome.2 in
    absurd (caused oo words old new faults faults' before now v.order v.ordered v.input v.loaded of Convert v.file v.converts v.read (Meaning i row f) e.0 e.1 e.2.0)
converted oo of words old new faults faults' misses misses' stores stores' before now (Line x) v u r =
    let e = explained oo words old new faults faults' before now v.order v.ordered v.input v.loaded (Line x) r.outcome.0 r.outcome.1 r.outcome.2 in
    absurd (caused oo words old new faults faults' before now v.order v.ordered v.input v.loaded of Convert v.file v.converts v.read (Line x) e.0 e.1 e.2.0)
converted oo of words old new faults faults' misses misses' stores stores' before now (Grade x) v u r =
    let e = explained oo words old new faults faults' before now v.order v.ordered v.input v.loaded (Grade x) r.outcome.0 r.outcome.1 r.outcome.2 in
    absurd (caused oo words old new faults faults' before now v.order v.ordered v.input v.loaded of Convert v.file v.converts v.read (Grade x) e.0 e.1 e.2.0)
converted oo of words old new faults faults' misses misses' stores stores' before now Range v u r =
    let e = explained oo words old new faults faults' before now v.order v.ordered v.input v.loaded Range r.outcome.0 r.outcome.1 r.outcome.2 in
    absurd (caused oo words old new faults faults' before now v.order v.ordered v.input v.loaded of Convert v.file v.converts v.read Range e.0 e.1 e.2.0)
converted oo of words old new faults faults' misses misses' stores stores' before now TooMany v u r =
    let e = explained oo words old new faults faults' before now v.order v.ordered v.input v.loaded TooMany r.outcome.0 r.outcome.1 r.outcome.2 in
    absurd (caused oo words old new faults faults' before now v.order v.ordered v.input v.loaded of Convert v.file v.converts v.read TooMany e.0 e.1 e.2.0)

pub listed : OrdersOne → OneFile → ListingsAreAnswered
listed oo of words old new faults faults' misses misses' stores stores' before now UnitsDone v u r = inl refl
listed oo of words old new faults faults' misses misses' stores stores' before now NoMemory v u r = inr refl
listed oo of words old new faults faults' misses misses' stores stores' before now Usage v u r = absurd (r.outcome.0 v.order v.ordered)
listed oo of words old new faults faults' misses misses' stores stores' before now Absent v u r =
    absurd (not_absent oo words old new faults faults' before now v.order v.ordered v.input v.loaded u.loads (explained oo words old new faults faults' before now v.order v.ordered v.input v.loaded Absent r.outcome.0 r.outcome.1 r.outcome.2))
listed oo of words old new faults faults' misses misses' stores stores' before now ReadFault v u r = absurd (not_risen faults faults' u.loads r.count)
listed oo of words old new faults faults' misses misses' stores stores' before now WriteFault v u r = absurd (not_risen stores stores' u.keeps r.count)
listed oo of words old new faults faults' misses misses' stores stores' before now (Stopped k) v u r = absurd (not_risen before.stops now.stops u.goes_on r.watch.1.stops)
listed oo of words old new faults faults' misses misses' stores stores' before now TooLong v u r =
    absurd (not_long oo words old new faults faults' before now v.order v.ordered v.input v.loaded v.short (explained oo words old new faults faults' before now v.order v.ordered v.input v.loaded TooLong r.outcome.0 r.outcome.1 r.outcome.2))
listed oo of words old new faults faults' misses misses' stores stores' before now (Grammar l c f) v u r =
    absurd (not_refused oo words old new faults faults' before now v.order v.ordered v.input v.loaded l c f v.file v.read (explained oo words old new faults faults' before now v.order v.ordered v.input v.loaded (Grammar l c f) r.outcome.0 r.outcome.1 r.outcome.2))
listed oo of words old new faults faults' misses misses' stores stores' before now Done v u r =
    let e = explained oo words old new faults faults' before now v.order v.ordered v.input v.loaded Done r.outcome.0 r.outcome.1 r.outcome.2 in
    absurd (one_kind plain_units (kind_found oo words old new faults faults' before now v.order v.ordered v.input v.loaded of Plain v.file v.read e.0 e.2.0 e.1 e.2.1) v.lists)
listed oo of words old new faults faults' misses misses' stores stores' before now Converted v u r =
    let e = explained oo words old new faults faults' before now v.order v.ordered v.input v.loaded Converted r.outcome.0 r.outcome.1 r.outcome.2 in
    absurd (one_kind convert_units (kind_found oo words old new faults faults' before now v.order v.ordered v.input v.loaded of Convert v.file v.read e.0 e.2.0 e.1 e.2.1) v.lists)
listed oo of words old new faults faults' misses misses' stores stores' before now Points v u r =
    let e = explained oo words old new faults faults' before now v.order v.ordered v.input v.loaded Points r.outcome.0 r.outcome.1 r.outcome.2 in
    absurd (one_kind units_points v.lists (kind_found oo words old new faults faults' before now v.order v.ordered v.input v.loaded of LatticePoints v.file v.read e.0 e.2.0 e.1 e.2.1))
listed oo of words old new faults faults' misses misses' stores stores' before now (Unbounded x) v u r =
    let e = explained oo words old new faults faults' before now v.order v.ordered v.input v.loaded (Unbounded x) r.outcome.0 r.outcome.1 r.outcome.2 in
    absurd (caused oo words old new faults faults' before now v.order v.ordered v.input v.loaded of Units v.file v.lists v.read (Unbounded x) e.0 e.1 e.2.0)
listed oo of words old new faults faults' misses misses' stores stores' before now (Meaning i row f) v u r =
    let e = explained oo words old new faults faults' before now v.order v.ordered v.input v.loaded (Meaning i row f) r.outcome.0 r.outcome.1 r.outcome.2 in
    let k : IsUnitsCause v.order.goals v.order.limit before now v.file (Meaning i row f) = caused oo words old new faults faults' before now v.order v.ordered v.input v.loaded of Units v.file v.lists v.read (Meaning i row f) e.0 e.1 e.2.0 in
    absurd (no_fault v.ready k.0)
listed oo of words old new faults faults' misses misses' stores stores' before now (Line x) v u r =
    let e = explained oo words old new faults faults' before now v.order v.ordered v.input v.loaded (Line x) r.outcome.0 r.outcome.1 r.outcome.2 in
    absurd (caused oo words old new faults faults' before now v.order v.ordered v.input v.loaded of Units v.file v.lists v.read (Line x) e.0 e.1 e.2.0)
listed oo of words old new faults faults' misses misses' stores stores' before now (Grade x) v u r =
    let e = explained oo words old new faults faults' before now v.order v.ordered v.input v.loaded (Grade x) r.outcome.0 r.outcome.1 r.outcome.2 in
    absurd (caused oo words old new faults faults' before now v.order v.ordered v.input v.loaded of Units v.file v.lists v.read (Grade x) e.0 e.1 e.2.0)
listed oo of words old new faults faults' misses misses' stores stores' before now Range v u r =
    let e = explained oo words old new faults faults' before now v.order v.ordered v.input v.loaded Range r.outcome.0 r.outcome.1 r.outcome.2 in
    let k : IsUnitsCause v.order.goals v.order.limit before now v.file Range = caused oo words old new faults faults' before now v.order v.ordered v.input v.loaded of Units v.file v.lists v.read Range e.0 e.1 e.2.0 in
    absurd (v.small k.cause)
listed oo of words old new faults faults' misses misses' stores stores' before now TooMany v u r =
    let e = explained oo words old new faults faults' before now v.order v.ordered v.input v.loaded TooMany r.outcome.0 r.outcome.1 r.outcome.2 in
    let k : IsUnitsCause v.order.goals v.order.limit before now v.file TooMany = caused oo words old new faults faults' before now v.order v.ordered v.input v.loaded of Units v.file v.lists v.read TooMany e.0 e.1 e.2.0 in
    absurd (v.few k.cause)

-- a valid run that lists lattice points has no status left but these three
pointed_ends : OrdersOne → OneFile → (words : List Text) (old new : Files) (faults faults' misses misses' stores stores' : ℕ) (before now : Watched) (status : Status) (v : IsValidPointRun words old) → IsUndisturbed faults faults' stores stores' before now → IsRunStatus words old new faults faults' misses misses' stores stores' before now status
    → ((status ≡ Points) × IsBounded (IsMember (system_of v.file))) ⊎ (((x : Vector) × (status ≡ Unbounded x) × IsAlong (system_of v.file) x) ⊎ (status ≡ NoMemory))
pointed_ends oo of words old new faults faults' misses misses' stores stores' before now NoMemory v u r = inr (inr refl)
pointed_ends oo of words old new faults faults' misses misses' stores stores' before now Usage v u r = absurd (r.outcome.0 v.order v.ordered)
pointed_ends oo of words old new faults faults' misses misses' stores stores' before now Absent v u r =
    absurd (not_absent oo words old new faults faults' before now v.order v.ordered v.input v.loaded u.loads (explained oo words old new faults faults' before now v.order v.ordered v.input v.loaded Absent r.outcome.0 r.outcome.1 r.outcome.2))
pointed_ends oo of words old new faults faults' misses misses' stores stores' before now ReadFault v u r = absurd (not_risen faults faults' u.loads r.count)
pointed_ends oo of words old new faults faults' misses misses' stores stores' before now WriteFault v u r = absurd (not_risen stores stores' u.keeps r.count)
pointed_ends oo of words old new faults faults' misses misses' stores stores' before now (Stopped k) v u r = absurd (not_risen before.stops now.stops u.goes_on r.watch.1.stops)
pointed_ends oo of words old new faults faults' misses misses' stores stores' before now TooLong v u r =
    absurd (not_long oo words old new faults faults' before now v.order v.ordered v.input v.loaded v.short (explained oo words old new faults faults' before now v.order v.ordered v.input v.loaded TooLong r.outcome.0 r.outcome.1 r.outcome.2))
pointed_ends oo of words old new faults faults' misses misses' stores stores' before now (Grammar l c f) v u r =
    absurd (not_refused oo words old new faults faults' before now v.order v.ordered v.input v.loaded l c f v.file v.read (explained oo words old new faults faults' before now v.order v.ordered v.input v.loaded (Grammar l c f) r.outcome.0 r.outcome.1 r.outcome.2))
pointed_ends oo of words old new faults faults' misses misses' stores stores' before now Done v u r =
    let e = explained oo words old new faults faults' before now v.order v.ordered v.input v.loaded Done r.outcome.0 r.outcome.1 r.outcome.2 in
    absurd (one_kind plain_points (kind_found oo words old new faults faults' before now v.order v.ordered v.input v.loaded of Plain v.file v.read e.0 e.2.0 e.1 e.2.1) v.points)
pointed_ends oo of words old new faults faults' misses misses' stores stores' before now Converted v u r =
    let e = explained oo words old new faults faults' before now v.order v.ordered v.input v.loaded Converted r.outcome.0 r.outcome.1 r.outcome.2 in
    absurd (one_kind convert_points (kind_found oo words old new faults faults' before now v.order v.ordered v.input v.loaded of Convert v.file v.read e.0 e.2.0 e.1 e.2.1) v.points)
pointed_ends oo of words old new faults faults' misses misses' stores stores' before now UnitsDone v u r =
    let e = explained oo words old new faults faults' before now v.order v.ordered v.input v.loaded UnitsDone r.outcome.0 r.outcome.1 r.outcome.2 in
    absurd (one_kind units_points (kind_found oo words old new faults faults' before now v.order v.ordered v.input v.loaded of Units v.file v.read e.0 e.2.0 e.1 e.2.1) v.points)
pointed_ends oo of words old new faults faults' misses misses' stores stores' before now Points v u r =
    let e = explained oo words old new faults faults' before now v.order v.ordered v.input v.loaded Points r.outcome.0 r.outcome.1 r.outcome.2 in
    let found = points_stored oo words old new faults faults' before now v.order v.ordered v.input v.loaded of v.file v.read e.0 e.2.0 e.1 e.2.1 in
    inl (refl, found.are.bounded)
pointed_ends oo of words old new faults faults' misses misses' stores stores' before now (Unbounded x) v u r =
    let e = explained oo words old new faults faults' before now v.order v.ordered v.input v.loaded (Unbounded x) r.outcome.0 r.outcome.1 r.outcome.2 in
    let k : IsPointsCause v.order.goals v.order.limit before now v.file (Unbounded x) = caused oo words old new faults faults' before now v.order v.ordered v.input v.loaded of LatticePoints v.file v.points v.read (Unbounded x) e.0 e.1 e.2.0 in
    inr (inl (x, refl, k.cause))
pointed_ends oo of words old new faults faults' misses misses' stores stores' before now (Meaning i row f) v u r =
    let e = explained oo words old new faults faults' before now v.order v.ordered v.input v.loaded (Meaning i row f) r.outcome.0 r.outcome.1 r.outcome.2 in
    let k : IsPointsCause v.order.goals v.order.limit before now v.file (Meaning i row f) = caused oo words old new faults faults' before now v.order v.ordered v.input v.loaded of LatticePoints v.file v.points v.read (Meaning i row f) e.0 e.1 e.2.0 in
    absurd (no_fault v.ready k.0)
pointed_ends oo of words old new faults faults' misses misses' stores stores' before now (Line x) v u r =
    let e = explained oo words old new faults faults' before now v.order v.ordered v.input v.loaded (Line x) r.outcome.0 r.outcome.1 r.outcome.2 in
    absurd (caused oo words old new faults faults' before now v.order v.ordered v.input v.loaded of LatticePoints v.file v.points v.read (Line x) e.0 e.1 e.2.0)
pointed_ends oo of words old new faults faults' misses misses' stores stores' before now (Grade x) v u r =
    let e = explained oo words old new faults faults' before now v.order v.ordered v.input v.loaded (Grade x) r.outcome.0 r.outcome.1 r.outcome.2 in
    absurd (caused oo words old new faults faults' before now v.order v.ordered v.input v.loaded of LatticePoints v.file v.points v.read (Grade x) e.0 e.1 e.2.0)
pointed_ends oo of words old new faults faults' misses misses' stores stores' before now Range v u r =
    let e = explained oo words old new faults faults' before now v.order v.ordered v.input v.loaded Range r.outcome.0 r.outcome.1 r.outcome.2 in
    let k : IsPointsCause v.order.goals v.order.limit before now v.file Range = caused oo words old new faults faults' before now v.order v.ordered v.input v.loaded of LatticePoints v.file v.points v.read Range e.0 e.1 e.2.0 in
    absurd (v.small k.cause)
pointed_ends oo of words old new faults faults' misses misses' stores stores' before now TooMany v u r =
    let e = explained oo words old new faults faults' before now v.order v.ordered v.input v.loaded TooMany r.outcome.0 r.outcome.1 r.outcome.2 in
    let k : IsPointsCause v.order.goals v.order.limit before now v.file TooMany = caused oo words old new faults faults' before now v.order v.ordered v.input v.loaded of LatticePoints v.file v.points v.read TooMany e.0 e.1 e.2.0 in
    absurd (v.few k.cause)

-- a system along which a vector lies is not bounded
along_unbounded : (s : System) (x : Vector) → IsAlong s x → ¬ IsBounded (IsMember s)
along_unbounded s x along bounded = along.nonzero (bounded x along.flat)

pub pointed : OrdersOne → OneFile → PointsAreAnswered
pointed oo of words old new faults faults' misses misses' stores stores' before now status v bounded u r = elim (pointed_ends oo of words old new faults faults' misses misses' stores stores' before now status v u r) [
  | inl p ↦ inl p.0
  | inr (inl a) ↦ absurd (along_unbounded (system_of v.file) a.0 a.2 bounded)
  | inr (inr n) ↦ inr n
]

pub unbounded : OrdersOne → OneFile → UnboundedAreAnswered
unbounded oo of words old new faults faults' misses misses' stores stores' before now status v endless u r = elim (pointed_ends oo of words old new faults faults' misses misses' stores stores' before now status v u r) [
  | inl p ↦ absurd (endless p.1)
  | inr (inl a) ↦ inl (a.0, a.1)
  | inr (inr n) ↦ inr n
]
