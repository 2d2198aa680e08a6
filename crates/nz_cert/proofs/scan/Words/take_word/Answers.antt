use Rattle.std.proofs.Common.{◌<◌, ◌∙◌, ◌∷◌, sym, ap, length, take, drop, arith}
use Rattle.std.proofs.lemmas.List.{length-take-le}
use Rattle.nz_further.specs.CertificateTexts.{Bytes}
use Rattle.nz_cert.specs.Words.{text_words}
use Rattle.nz_cert.proofs.WordLemmas.{word_split}
use Rattle.nz_cert.proofs.scan.Words.take_word.Goals as goal

pub returns : goal.returns
returns c =
    let begun = c.behind-begun.result.now in
    let size = c.run-size.result in
    let some : 0 < length (take size begun) = omega (arith, length-take-le size begun c.run-size.ensures.within, c.if-size-eq0.false) in
    sym c.self.view_is ∙ sym c.gap.ensures.same ∙ ap text_words (sym c.behind-begun.ensures)
    ∙ word_split begun (take size begun) (drop size begun) some c.run-size.ensures.same c.run-size.ensures.edge
    ∙ ap (λ (r : Bytes). take size begun ∷ text_words r) (sym c.behind-self-inside.ensures)
