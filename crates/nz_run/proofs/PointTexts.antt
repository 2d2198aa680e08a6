-- The lattice points of a file's system are those of the file.
use Rattle.std.proofs.Common.{◌≡◌, ℕ, List, sym, ap, ◌∙◌, subst}
use Rattle.std.specs.Prelude.{IsTrue}
use Rattle.nz_vec.specs.Texts.{Text}
use Rattle.nz_vec.specs.declared.answers.Work.{Work}
use Rattle.nz_vec.specs.declared.answers.Work.TheVariants as work
use Rattle.nz_spec.specs.Vectors.{Vector}
use Rattle.nz_input.specs.Files.{FileData}
use Rattle.nz_input.specs.declared.kind.Goal.{Goal}
use Rattle.nz_system.specs.Asked.{goals_of}
use Rattle.nz_system.specs.Meaning.{SystemData, IsKept}
use Rattle.nz_system.specs.declared.asked.GoalSet.{GoalSet}
use Rattle.nz_ideal.specs.Meanings.{system_of, meaning, HasMeaning}
use Rattle.nz_ideal.proofs.Closing.{same-goals}
use Rattle.nz_lift.specs.SystemPoints.{ArePointsOf, IsAlong}
use Rattle.nz_lift.specs.SystemRefusals.{IsSystemRefusal}
use Rattle.nz_watch.specs.Telling.{Watched}
use Rattle.nz_watch.proofs.TellingLemmas.{none_told}
use Rattle.nz_solve.specs.Solutions.{half}
use Rattle.nz_run.specs.declared.status.Status.{Status}
use Rattle.nz_run.specs.declared.status.Status.TheVariants.{Unbounded}
use Rattle.nz_run.specs.SystemCauses.{status_of_work}
use Rattle.nz_run.specs.PointRuns.{points_text, ArePointsFound, IsPointsCause}

-- where lattice points are asked the system has a level
pub has_level : (file : FileData) (goals : List Goal) (s : SystemData) → s ≡ meaning file goals → IsKept s → IsTrue (goals_of file goals).lattice_points → IsTrue s.system.level
has_level file goals s e kept t =
    kept.askable.points (subst (λ (g : GoalSet). IsTrue g.lattice_points) (sym (same-goals file goals) ∙ ap (λ (d : SystemData). d.goals) (sym e)) t)

pub points_found : (goals : List Goal) (limit : ℕ) (file : FileData) (s : SystemData) (amb : ℕ) (points : List Vector) (output : Text) → HasMeaning file goals → s ≡ meaning file goals → amb ≡ file.amb → ArePointsOf limit s.system points → output ≡ points_text amb s.system.level points → (w : Watched) → ArePointsFound goals limit w w file output
points_found goals limit file s amb points output ready e a are same w = record {
  ready = ready;
  points = points;
  are = subst (λ (d : SystemData). ArePointsOf limit d.system points) e are;
  same = same ∙ ap (λ (n : ℕ). points_text n s.system.level points) a ∙ ap (λ (d : SystemData). points_text file.amb d.system.level points) e;
  told = none_told w;
}

pub unbounded_found : (goals : List Goal) (limit : ℕ) (file : FileData) (s : SystemData) (v : Vector) → HasMeaning file goals → s ≡ meaning file goals → IsAlong s.system v → (w : Watched) → IsPointsCause goals limit w w file (Unbounded v)
unbounded_found goals limit file s v ready e along w = record { ready = ready; cause = subst (λ (d : SystemData). IsAlong d.system v) e along; told = none_told w }

refused : (goals : List Goal) (limit : ℕ) (file : FileData) (r : Work) → HasMeaning file goals → IsSystemRefusal half limit (system_of file) r → (w : Watched) → IsPointsCause goals limit w w file (status_of_work r)
refused goals limit file (work.Range told) ready k w = record { ready = ready; cause = k.1; told = none_told w }
refused goals limit file work.TooMany ready k w = record { ready = ready; cause = k; told = none_told w }
refused goals limit file (work.Stopped stage) ready k w = absurd k
refused goals limit file work.NoMemory ready k w = none_told w

pub points_refused : (goals : List Goal) (limit : ℕ) (file : FileData) (s : SystemData) (r : Work) (status : Status) → status ≡ status_of_work r → HasMeaning file goals → s ≡ meaning file goals → IsSystemRefusal half limit s.system r → (w : Watched) → IsPointsCause goals limit w w file status
points_refused goals limit file s r status is ready e h w = subst (IsPointsCause goals limit w w file) (sym is) (refused goals limit file r ready (subst (λ (d : SystemData). IsSystemRefusal half limit d.system r) e h) w)
