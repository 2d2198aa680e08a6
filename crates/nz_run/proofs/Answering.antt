-- What is answered of a file.
use Rattle.std.proofs.Common.{◌≡◌, ℕ, List, inr, sym, subst}
use Rattle.nz_vec.specs.Texts.{Text}
use Rattle.nz_input.specs.Files.{FileData}
use Rattle.nz_input.specs.declared.kind.Goal.{Goal}
use Rattle.nz_system.specs.Meaning.{SystemData}
use Rattle.nz_watch.specs.Telling.{Watched, HasPassedAll}
use Rattle.nz_solve.specs.Solutions.{AreToldOf, IsSolveRefusal}
use Rattle.nz_solve.specs.declared.refusal.SolveRefusal.{SolveRefusal}
use Rattle.nz_solve.specs.declared.refusal.SolveRefusal.TheVariants as solve
use Rattle.nz_run.specs.declared.status.Status.{Status}
use Rattle.nz_ideal.specs.Meanings.{meaning, HasMeaning}
use Rattle.nz_run.specs.Solving.{IsAnswered, IsFileSolved, IsUnsolved, IsSolveCause, status_of}

-- the system is that of the file, so what is answered of it is answered of the file
pub file_solved : (goals : List Goal) (limit : ℕ) (w w' : Watched) (file : FileData) (s : SystemData) (output : Text) → HasMeaning file goals → s ≡ meaning file goals → IsAnswered s limit output → HasPassedAll (AreToldOf s.mode s.system) 0 w w' → IsFileSolved goals limit w w' file output
file_solved goals limit w w' file s output r e a t = record {
  ready = r;
  answered = subst (λ (d : SystemData). IsAnswered d limit output) e a;
  told = subst (λ (d : SystemData). HasPassedAll (AreToldOf d.mode d.system) 0 w w') e t;
}

refused : (goals : List Goal) (limit : ℕ) (w w' : Watched) (file : FileData) (r : SolveRefusal) → IsUnsolved goals limit w w' file r → IsSolveCause goals limit w w' file (status_of r)
refused goals limit w w' file (solve.Line v) u = u
refused goals limit w w' file (solve.Grade v) u = u
refused goals limit w w' file solve.Range u = u
refused goals limit w w' file solve.TooMany u = u
refused goals limit w w' file (solve.Stopped k) u = u
refused goals limit w w' file solve.NoMemory u = inr u

pub file_refused : (goals : List Goal) (limit : ℕ) (w w' : Watched) (file : FileData) (s : SystemData) (r : SolveRefusal) (status : Status) → status ≡ status_of r → HasMeaning file goals → s ≡ meaning file goals → IsSolveRefusal s.mode s.system limit w w' r → IsSolveCause goals limit w w' file status
file_refused goals limit w w' file s r status is ready e h = subst (IsSolveCause goals limit w w' file) (sym is) (refused goals limit w w' file r (record { ready = ready; refused = subst (λ (d : SystemData). IsSolveRefusal d.mode d.system limit w w' r) e h }))
