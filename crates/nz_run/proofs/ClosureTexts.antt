-- What a run that ends with Done stores for a file with monomials.
use Rattle.std.proofs.Common.{Bool, true, false, ℕ, List, Option, Some, None, subst, map, pos}
use Rattle.std.specs.Prelude.{IsTrue, Contains}
use Rattle.nz_vec.specs.Texts.{Text}
use Rattle.nz_spec.specs.Vectors.{unit_vectors}
use Rattle.nz_spec.specs.Order.{StandsBefore}
use Rattle.nz_spec.specs.Monoids.{IsModuleGenerator}
use Rattle.nz_spec.specs.Systems.{IsMember}
use Rattle.nz_spec.specs.Elements.{IsHilbertElement}
use Rattle.nz_order.proofs.SortLaws.{IsListOf-where}
use Rattle.nz_further.specs.Ideals.{at_level}
use Rattle.nz_input.specs.Files.{FileData, IsFile}
use Rattle.nz_input.specs.Laws.{OneFile, TextsKeep}
use Rattle.nz_input.specs.declared.kind.Goal.{Goal}
use Rattle.nz_ideal.specs.IdealFiles.{has_ideal}
use Rattle.nz_ideal.specs.Meanings.{system_of, meaning}
use Rattle.nz_ideal.specs.Laws.{ModulesAreMinimal, BasisIsUnits, IsRaisedGenerator}
use Rattle.nz_solve.specs.Replies.{IsWhere}
use Rattle.nz_solve.specs.Solutions.{wants_modules, wants_basis}
use Rattle.nz_watch.specs.Telling.{Watched}
use Rattle.nz_words.specs.Orders.{OrderData, OrdersOne}
use Rattle.nz_run.specs.declared.kinds.RunKind.TheVariants.{Plain}
use Rattle.nz_run.specs.declared.status.Status.TheVariants.{Done}
use Rattle.nz_run.specs.Solving.{IsFileSolved}
use Rattle.nz_run.specs.Runs.{IsFound, ExplainsOrder}
use Rattle.nz_run.specs.Closures.{IsClosureText, ClosuresAreStored}
use Rattle.nz_run.proofs.Answered.{same_input}

-- what holds of a list that is there holds of the same list in other words
where_same : {A : Type 0} (wanted : Bool) (P Q : A → Type 0) → ((x : A) → P x → Q x) → (o : Option A) → IsWhere wanted P o → IsWhere wanted Q o
where_same true P Q f (Some x) h = f x h
where_same true P Q f None h = absurd h
where_same false P Q f o h = h

-- what is found for a file with monomials
closure_text : ModulesAreMinimal → BasisIsUnits → (goals : List Goal) (limit : ℕ) (before now : Watched) (file : FileData) (output : Text) → IsFile file → IsTrue (has_ideal file) → IsFileSolved goals limit before now file output → IsClosureText file goals output
closure_text minimal units goals limit before now file output is t found =
    let s = system_of file in
    let b = StandsBefore s.grading in
    let solution = found.answered.solution in
    let raised = minimal file is t in
    let basis = units file is t goals found.ready in
    record {
      outcome = found.answered.outcome;
      solution = solution;
      modules = where_same (wants_modules (meaning file goals)) _ _ (λ xs h. IsListOf-where b (IsModuleGenerator (IsMember s)) (IsRaisedGenerator file) (λ x k. (raised x).0 k) (λ x k. (raised x).1 k) xs h) found.answered.outcome.modules solution.modules;
      basis = where_same (wants_basis (meaning file goals)) _ _ (λ xs h. IsListOf-where b (IsHilbertElement s) (Contains (map (at_level (pos 0)) (unit_vectors file.amb))) (λ x k. (basis x).0 k) (λ x k. (basis x).1 k) xs h) found.answered.outcome.hilbert solution.hilbert;
      same = found.answered.same;
    }

pub closures_are_stored : OrdersOne → OneFile → TextsKeep → ModulesAreMinimal → BasisIsUnits → ClosuresAreStored
closures_are_stored one_order one_file keep minimal units words before now faults faults' Done old new e = λ order input file ordered loaded read t.
    let mine : ExplainsOrder order before now faults faults' Done old new = subst (λ (o : OrderData). ExplainsOrder o before now faults faults' Done old new) (one_order words e.0 order e.1 ordered) e.2 in
    let found : IsFound Plain order.goals order.limit before now input mine.2.0 = subst (λ (x : Text). IsFound Plain order.goals order.limit before now x mine.2.0) (same_input order.make order.project old mine.0 input mine.1 loaded) mine.2.1.found in
    let solved : IsFileSolved order.goals order.limit before now file mine.2.0 = subst (λ (f : FileData). IsFileSolved order.goals order.limit before now f mine.2.0) (one_file input found.file file found.read read) found.found in
    (mine.2.0, closure_text minimal units order.goals order.limit before now file mine.2.0 (keep input file read) t solved, mine.2.2)
closures_are_stored one_order one_file keep minimal units words before now faults faults' status old new e = tt
