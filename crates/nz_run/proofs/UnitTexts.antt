-- The lists of a file's system are those of the file.
use Rattle.std.proofs.Common.{◌≡◌, ℕ, List, sym, ap, ◌∙◌, subst}
use Rattle.nz_vec.specs.Texts.{Text}
use Rattle.nz_vec.specs.declared.answers.Work.{Work}
use Rattle.nz_vec.specs.declared.answers.Work.TheVariants as work
use Rattle.nz_spec.specs.Vectors.{Vector}
use Rattle.nz_input.specs.Files.{FileData}
use Rattle.nz_input.specs.declared.kind.Goal.{Goal}
use Rattle.nz_system.specs.Meaning.{SystemData}
use Rattle.nz_ideal.specs.Meanings.{system_of, meaning, HasMeaning}
use Rattle.nz_units.specs.SystemUnits.{AreSystemUnits}
use Rattle.nz_units.specs.SystemRefusals.{IsSystemRefusal}
use Rattle.nz_watch.specs.Telling.{Watched}
use Rattle.nz_watch.proofs.TellingLemmas.{none_told}
use Rattle.nz_solve.specs.Solutions.{half}
use Rattle.nz_run.specs.declared.status.Status.{Status}
use Rattle.nz_run.specs.SystemCauses.{status_of_work}
use Rattle.nz_run.specs.UnitRuns.{units_text, AreUnitsFound, IsUnitsCause}

pub units_found : (goals : List Goal) (limit : ℕ) (file : FileData) (s : SystemData) (amb : ℕ) (units modules classes : List Vector) (output : Text) → HasMeaning file goals → s ≡ meaning file goals → amb ≡ file.amb → AreSystemUnits limit s.system units modules classes → output ≡ units_text amb s.system.level units modules classes → (w : Watched) → AreUnitsFound goals limit w w file output
units_found goals limit file s amb units modules classes output ready e a lists same w = record {
  ready = ready;
  units = units;
  modules = modules;
  classes = classes;
  lists = subst (λ (d : SystemData). AreSystemUnits limit d.system units modules classes) e lists;
  same = same ∙ ap (λ (n : ℕ). units_text n s.system.level units modules classes) a ∙ ap (λ (d : SystemData). units_text file.amb d.system.level units modules classes) e;
  told = none_told w;
}

refused : (goals : List Goal) (limit : ℕ) (file : FileData) (r : Work) → HasMeaning file goals → IsSystemRefusal half limit (system_of file) r → (w : Watched) → IsUnitsCause goals limit w w file (status_of_work r)
refused goals limit file (work.Range told) ready k w = record { ready = ready; cause = k.1; told = none_told w }
refused goals limit file work.TooMany ready k w = record { ready = ready; cause = k; told = none_told w }
refused goals limit file (work.Stopped stage) ready k w = absurd k
refused goals limit file work.NoMemory ready k w = none_told w

pub units_refused : (goals : List Goal) (limit : ℕ) (file : FileData) (s : SystemData) (r : Work) (status : Status) → status ≡ status_of_work r → HasMeaning file goals → s ≡ meaning file goals → IsSystemRefusal half limit s.system r → (w : Watched) → IsUnitsCause goals limit w w file status
units_refused goals limit file s r status is ready e h w = subst (IsUnitsCause goals limit w w file) (sym is) (refused goals limit file r ready (subst (λ (d : SystemData). IsSystemRefusal half limit d.system r) e h) w)
