use Rattle.std.proofs.Common.{◌∙◌, ap, sym, inl, inr, false, codes}
use Rattle.std.specs.Prelude.{Option}
use Rattle.std.specs.Option.{option_map_or}
use Rattle.std.specs.Str.{bytes_eq}
use Rattle.clap.specs.Walk.{rows_of}
use Rattle.clap.specs.Matches.{found_of}
use Rattle.clap.proofs.WalkLemmas.{one_text-rows}
use Rattle.nz_vec.specs.Texts.{Text}
use Rattle.nz_words.proofs.reading.flag.Goals as goal

pub returns : goal.returns
returns c =
    let rows = rows_of (found_of c.args.matches.now) in
    let word = c.args.word.now in
    let test : Option Text → _ = λ (text : Option Text). option_map_or (λ (t : Text). bytes_eq t (codes "true")) text false in
    elim c.requires [
      | inl e ↦ c.get_flag.ensures.value (one_text-rows (found_of c.args.matches.now) word ∙ e) ∙ sym (ap test e)
      | inr e ↦ c.get_flag.ensures.other (one_text-rows (found_of c.args.matches.now) word ∙ e) ∙ sym (ap test e)
    ]
