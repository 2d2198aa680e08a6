use Rattle.std.proofs.Common.{◌∙◌, ap, sym, subst, inl, inr}
use Rattle.clap.specs.Kinds.{IsAmong}
use Rattle.clap.specs.Simple.{is_simple, matches_of}
use Rattle.clap.specs.Faults.{fault_of, is_simple_and_free}
use Rattle.nz_words.specs.Parts.{bytes_of_each}
use Rattle.nz_words.proofs.Walking.{simple_is, free_is}
use Rattle.nz_words.proofs.ordering.found.Goals as goal

pub returns-in-Ok-try_get_matches_from : goal.returns-in-Ok-try_get_matches_from
returns-in-Ok-try_get_matches_from c =
    let words = bytes_of_each c.args.words.now in
    let same = c.in-Ok.ensures in (
      (c.in-Ok-try_get_matches_from.ensures.matches (ap is_simple same ∙ simple_is)).0 ∙ ap (λ a. matches_of a words) same,
      sym (ap (λ a. fault_of a words) same) ∙ c.in-Ok-try_get_matches_from.ensures.kinds (ap is_simple_and_free same ∙ free_is),
    )

pub returns : goal.returns
returns c = λ usage none.
    let words = bytes_of_each c.args.words.now in
    let same = c.in-Ok.ensures in
    elim (c.in-Err-try_get_matches_from.ensures.kinds (ap is_simple_and_free same ∙ free_is)) [
      | inl k ↦ c.in_default.not-OutOfMemory (c.kind.ensures ∙ k)
      | inr k ↦ subst (IsAmong c.in-Err-try_get_matches_from.error.kind) (ap (λ a. fault_of a words) same ∙ none) k
    ]
