-- What a run of each kind finds for a file.
use Rattle.std.proofs.Common.{◌≡◌, ℕ, Bool, true, false, List, inr, refl, sym, subst, ◌∙◌}
use Rattle.std.specs.Prelude.{IsTrue, cond}
use Rattle.nz_system.specs.Asked.{goals_of}
use Rattle.nz_vec.specs.Texts.{Text}
use Rattle.nz_input.specs.Files.{FileData}
use Rattle.nz_input.specs.Texts.{IsTextOf}
use Rattle.nz_input.specs.Canonical.{canonical}
use Rattle.nz_input.specs.declared.kind.Goal.{Goal}
use Rattle.nz_input.specs.declared.refusal.Fault.{Fault}
use Rattle.nz_watch.specs.Telling.{Watched}
use Rattle.nz_watch.proofs.TellingLemmas.{none_told}
use Rattle.nz_run.specs.declared.kinds.RunKind.{RunKind}
use Rattle.nz_run.specs.declared.kinds.RunKind.TheVariants.{Plain, Convert, Units, LatticePoints}
use Rattle.nz_run.specs.declared.status.Status.{Status}
use Rattle.nz_run.specs.declared.status.Status.TheVariants.{Done, Usage, Absent, ReadFault, TooLong, Grammar, Meaning, Line, Grade, Range, TooMany, Stopped, WriteFault, NoMemory, Converted, UnitsDone, Points, Unbounded}
use Rattle.nz_run.specs.Solving.{IsFileSolved, IsSolveCause}
use Rattle.nz_run.specs.UnitRuns.{AreUnitsFound, IsUnitsCause}
use Rattle.nz_run.specs.PointRuns.{ArePointsFound, IsPointsCause}
use Rattle.nz_words.specs.Orders.{OrderData}
use Rattle.nz_run.specs.Kinds.{kind_for, IsFileFound, IsCauseIn, IsConvertCause}
use Rattle.nz_run.specs.Runs.{IsShort, IsFoundFor, IsReadCause, IsCause}

module _ (kind : RunKind) (goals : List Goal) (limit : ℕ) (w w' : Watched) (file : FileData) where
  pub plain_found : (output : Text) → kind ≡ Plain → IsFileSolved goals limit w w' file output → IsFileFound kind goals limit w w' file output
  plain_found output is h = subst (λ (k : RunKind). IsFileFound k goals limit w w' file output) (sym is) h

  pub plain_cause : (status : Status) → kind ≡ Plain → IsSolveCause goals limit w w' file status → IsCauseIn kind goals limit w w' file status
  plain_cause status is h = subst (λ (k : RunKind). IsCauseIn k goals limit w w' file status) (sym is) h

  pub units_found : (output : Text) → kind ≡ Units → AreUnitsFound goals limit w w' file output → IsFileFound kind goals limit w w' file output
  units_found output is h = subst (λ (k : RunKind). IsFileFound k goals limit w w' file output) (sym is) h

  pub units_cause : (status : Status) → kind ≡ Units → IsUnitsCause goals limit w w' file status → IsCauseIn kind goals limit w w' file status
  units_cause status is h = subst (λ (k : RunKind). IsCauseIn k goals limit w w' file status) (sym is) h

  pub points_found : (output : Text) → kind ≡ LatticePoints → ArePointsFound goals limit w w' file output → IsFileFound kind goals limit w w' file output
  points_found output is h = subst (λ (k : RunKind). IsFileFound k goals limit w w' file output) (sym is) h

  pub points_cause : (status : Status) → kind ≡ LatticePoints → IsPointsCause goals limit w w' file status → IsCauseIn kind goals limit w w' file status
  points_cause status is h = subst (λ (k : RunKind). IsCauseIn k goals limit w w' file status) (sym is) h

pub convert_found : (kind : RunKind) (goals : List Goal) (limit : ℕ) (w : Watched) (file : FileData) (output : Text) → kind ≡ Convert → output ≡ canonical file → IsFileFound kind goals limit w w file output
convert_found kind goals limit w file output is e = subst (λ (k : RunKind). IsFileFound k goals limit w w file output) (sym is) (e, none_told w)

pub convert_cause : (kind : RunKind) (goals : List Goal) (limit : ℕ) (w : Watched) (file : FileData) (status : Status) → kind ≡ Convert → status ≡ NoMemory → IsCauseIn kind goals limit w w file status
convert_cause kind goals limit w file status is e =
    let cause = subst (λ (s : Status). IsConvertCause w w s) (sym e) (none_told w) in
    subst (λ (k : RunKind). IsCauseIn k goals limit w w file status) (sym is) cause

-- ---- no file is the cause of these
abbrev NeverCause : Status → Type 0
NeverCause status = (kind : RunKind) (goals : List Goal) (limit : ℕ) (w w' : Watched) (file : FileData) → ¬ IsCauseIn kind goals limit w w' file status

no_done : NeverCause Done
no_done Plain goals limit w w' file h = h
no_done Convert goals limit w w' file h = h
no_done Units goals limit w w' file h = h
no_done LatticePoints goals limit w w' file h = h

no_usage : NeverCause Usage
no_usage Plain goals limit w w' file h = h
no_usage Convert goals limit w w' file h = h
no_usage Units goals limit w w' file h = h
no_usage LatticePoints goals limit w w' file h = h

no_absent : NeverCause Absent
no_absent Plain goals limit w w' file h = h
no_absent Convert goals limit w w' file h = h
no_absent Units goals limit w w' file h = h
no_absent LatticePoints goals limit w w' file h = h

no_read_fault : NeverCause ReadFault
no_read_fault Plain goals limit w w' file h = h
no_read_fault Convert goals limit w w' file h = h
no_read_fault Units goals limit w w' file h = h
no_read_fault LatticePoints goals limit w w' file h = h

no_long : NeverCause TooLong
no_long Plain goals limit w w' file h = h
no_long Convert goals limit w w' file h = h
no_long Units goals limit w w' file h = h
no_long LatticePoints goals limit w w' file h = h

no_grammar : (l k : ℕ) (f : Fault) → NeverCause (Grammar l k f)
no_grammar l k f Plain goals limit w w' file h = h
no_grammar l k f Convert goals limit w w' file h = h
no_grammar l k f Units goals limit w w' file h = h
no_grammar l k f LatticePoints goals limit w w' file h = h

no_write_fault : NeverCause WriteFault
no_write_fault Plain goals limit w w' file h = h
no_write_fault Convert goals limit w w' file h = h
no_write_fault Units goals limit w w' file h = h
no_write_fault LatticePoints goals limit w w' file h = h

no_converted : NeverCause Converted
no_converted Plain goals limit w w' file h = h
no_converted Convert goals limit w w' file h = h
no_converted Units goals limit w w' file h = h
no_converted LatticePoints goals limit w w' file h = h

no_units_done : NeverCause UnitsDone
no_units_done Plain goals limit w w' file h = h
no_units_done Convert goals limit w w' file h = h
no_units_done Units goals limit w w' file h = h
no_units_done LatticePoints goals limit w w' file h = h

no_points : NeverCause Points
no_points Plain goals limit w w' file h = h
no_points Convert goals limit w w' file h = h
no_points Units goals limit w w' file h = h
no_points LatticePoints goals limit w w' file h = h

-- a run lists lattice points where they are asked
pub points_asked : (order other : OrderData) (kind : RunKind) (file : FileData) → other ≡ order → kind ≡ kind_for order file → kind ≡ LatticePoints → IsTrue (goals_of file other.goals).lattice_points
points_asked order other kind file same is points =
    subst (λ (o : OrderData). IsTrue (goals_of file o.goals).lattice_points) (sym same) (by order.convert order.units (goals_of file order.goals).lattice_points (sym is ∙ points))
  where
    by : (convert units asked : Bool) → cond convert Convert (cond units Units (cond asked LatticePoints Plain)) ≡ LatticePoints → IsTrue asked
    by true units asked e = cc
    by false true asked e = cc
    by false false true e = refl
    by false false false e = cc

-- ---- of the run that is ordered
module _ (order other : OrderData) (kind : RunKind) (w w' : Watched) (file : FileData) (input : Text) (same : other ≡ order) (is : kind ≡ kind_for order file) (short : IsShort input) (read : IsTextOf input file) where
  pub found_for : (output : Text) → IsFileFound kind other.goals other.limit w w' file output → IsFoundFor order kind w w' input output
  found_for output h = record {
    found = record { file = file; short = short; read = read; found = subst (λ (o : OrderData). IsFileFound kind o.goals o.limit w w' file output) same h };
    of_kind = sym is;
  }

  read_cause : (status : Status) → IsCauseIn kind order.goals order.limit w w' file status → IsReadCause order w w' input status
  read_cause status h = record { file = file; short = short; read = read; cause = subst (λ (k : RunKind). IsCauseIn k order.goals order.limit w w' file status) is h }

  pub cause_for : (status : Status) → IsCauseIn kind other.goals other.limit w w' file status → IsCause order w w' input status
  cause_for status h = go status (subst (λ (o : OrderData). IsCauseIn kind o.goals o.limit w w' file status) same h)
    where
      go : (status : Status) → IsCauseIn kind order.goals order.limit w w' file status → IsCause order w w' input status
      go Done h = no_done kind order.goals order.limit w w' file h
      go Usage h = no_usage kind order.goals order.limit w w' file h
      go Absent h = no_absent kind order.goals order.limit w w' file h
      go ReadFault h = no_read_fault kind order.goals order.limit w w' file h
      go TooLong h = absurd (no_long kind order.goals order.limit w w' file h)
      go (Grammar l k f) h = absurd (no_grammar l k f kind order.goals order.limit w w' file h)
      go (Meaning l k f) h = read_cause (Meaning l k f) h
      go (Line v) h = read_cause (Line v) h
      go (Grade v) h = read_cause (Grade v) h
      go Range h = read_cause Range h
      go TooMany h = read_cause TooMany h
      go (Stopped k) h = read_cause (Stopped k) h
      go WriteFault h = no_write_fault kind order.goals order.limit w w' file h
      go NoMemory h = inr (read_cause NoMemory h)
      go Converted h = no_converted kind order.goals order.limit w w' file h
      go UnitsDone h = no_units_done kind order.goals order.limit w w' file h
      go Points h = no_points kind order.goals order.limit w w' file h
      go (Unbounded v) h = read_cause (Unbounded v) h
