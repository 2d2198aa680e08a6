use Rattle.std.proofs.Common.{drop, subst, sym, List, ℕ, ◌+◌, ◌∙◌, Option}
use Rattle.std.proofs.lemmas.List.{take_rest}
use Rattle.nz_input.specs.declared.parts.Part.TheVariants.{Next}
use Rattle.nz_input.specs.Symbols.{Entry}
use Rattle.nz_input.specs.Entries.{IsEntryAt}
use Rattle.nz_input.specs.Parts.{IsPartStopped}
use Rattle.nz_input.proofs.Parting.{entry-from}
use Rattle.nz_input.proofs.OnePart.{one-entry, entry-only}
use Rattle.nz_input.proofs.parts.entry.Goals as goal

pub returns-in-Ok-clause-ok : goal.returns-in-Ok-clause-ok
returns-in-Ok-clause-ok c =
    let found = c.in-Ok.ensures.ok in
    let here = subst (λ (x : List ℕ). IsEntryAt c.args.amb x 0 found.0 c.in-Ok.end) (take_rest c.args.text.now c.args.from) found.1 in
    subst (λ (x : Option Entry). IsEntryAt c.args.amb c.args.text.now c.args.from x (c.args.from + c.in-Ok.end)) (sym (c.entry_in.ensures found.0 found.2 found.3)) (entry-from c.args.amb c.args.text.now c.args.from found.0 c.in-Ok.end c.requires.within here)

pub returns-in-Ok-clause-only : goal.returns-in-Ok-clause-only
returns-in-Ok-clause-only c = λ e starts.
    let found = c.in-Ok.ensures.ok in
    let here = subst (λ (x : List ℕ). IsEntryAt c.args.amb x 0 found.0 c.in-Ok.end) (take_rest c.args.text.now c.args.from) found.1 in
    c.entry_in.ensures found.0 found.2 found.3 ∙ one-entry c.args.amb (drop c.args.from c.args.text.now) found.0 e c.in-Ok.end c.requires.dimension here starts

pub returns-in-Err-clause-only : goal.returns-in-Err-clause-only
returns-in-Err-clause-only c = λ e starts.
    let stopped = subst (λ (x : List ℕ). IsPartStopped (Next c.args.amb) x c.in-Err.stop) (take_rest c.args.text.now c.args.from) c.in-Err.ensures.err in
    entry-only c.args.amb c.args.text.now (drop c.args.from c.args.text.now) c.args.from c.in-Err.stop c.refusal.result e stopped c.refusal.ensures starts
