-- A file has one text, whatever the mode.
use Rattle.nz_vec.specs.Texts.{Text}
use Rattle.std.proofs.Common.{◌≡◌, List, refl, sym, ap, ◌∙◌, subst}
use Rattle.nz_input.specs.Files.{FileData}
use Rattle.nz_input.specs.declared.kind.Goal.{Goal}
use Rattle.nz_system.specs.declared.asked.GoalSet.{GoalSet}
use Rattle.nz_system.specs.Asked.{goals_of}
use Rattle.nz_ideal.proofs.Closing.{file-system, same-goals}
use Rattle.nz_blocks.specs.Outcomes.{OutcomeData}
use Rattle.nz_blocks.specs.Output.{text_of}
use Rattle.nz_solve.specs.Solutions.{IsSolution}
use Rattle.nz_solve.specs.Laws.{ModesAgree}
use Rattle.nz_ideal.specs.Meanings.{meaning, system_of}
use Rattle.nz_input.specs.Laws.{OneFile, TextsKeep, ReadsBack}
use Rattle.nz_input.specs.Texts.{IsTextOf}
use Rattle.nz_run.specs.Laws.{ModesGiveOneText, RunsGiveOneText, ConversionsKeepTheFile, IsTextFor}

-- the system solved with these goals, in place of its own, which are the same
with_goals : (file : FileData) (words : List Goal) (g : GoalSet) (o : OutcomeData) → goals_of file words ≡ g → IsSolution (meaning file words) o → IsSolution (record { system = system_of file; goals = g; mode = (meaning file words).mode }) o
with_goals file words g o e h = subst (λ (x : GoalSet). IsSolution (record { system = system_of file; goals = x; mode = (meaning file words).mode }) o) (same-goals file words ∙ e) h

pub modes_give_one_text : ModesAgree → ModesGiveOneText
modes_give_one_text agree file words others limit limit2 output output2 is asks first second =
    let goals = goals_of file words in
    let mine = with_goals file words goals first.answered.outcome refl first.answered.solution in
    let moved = with_goals file others goals second.answered.outcome (sym asks.same) second.answered.solution in
    let outcomes = agree (system_of file) goals (meaning file words).mode (meaning file others).mode first.answered.outcome second.answered.outcome (file-system file words is first.ready) asks.no_cover mine moved in
    first.answered.same ∙ ap text_of outcomes ∙ sym second.answered.same

pub runs_give_one_text : ModesGiveOneText → OneFile → TextsKeep → RunsGiveOneText
runs_give_one_text one_text one_file keep input output output2 words others limit limit2 before now before2 now2 first second asks =
    let same = one_file input first.file second.file first.read second.read in
    let text : IsTextFor first.file words limit output = record { ready = first.found.ready; answered = first.found.answered } in
    let other : IsTextFor second.file others limit2 output2 = record { ready = second.found.ready; answered = second.found.answered } in
    one_text first.file words others limit limit2 output output2 (keep input first.file first.read) asks text (subst (λ (f : FileData). IsTextFor f others limit2 output2) (sym same) other)

pub conversions_keep_the_file : TextsKeep → ReadsBack → ConversionsKeepTheFile
conversions_keep_the_file keep back goals limit before now input output conversion =
    let file = conversion.file in
    let same = conversion.found.0 in
    let known = back file (keep input file conversion.read) in (
      subst (λ (t : Text). IsTextOf t file) (sym same) known.0,
      λ other of. known.1 other (subst (λ (t : Text). IsTextOf t other) same of),
    )
