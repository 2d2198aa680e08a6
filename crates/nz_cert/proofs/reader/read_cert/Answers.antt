use Rattle.std.proofs.Common.{◌∙◌, sym, subst, List}
use Rattle.nz_further.specs.CertificateTexts.{Bytes, words_of}
use Rattle.nz_further.proofs.CertificateReading.{one_certificate}
use Rattle.nz_cert.specs.Words.{IsRead}
use Rattle.nz_cert.proofs.CertificateLemmas.{text_of_read, refused_text, further_word, bad_is_not, err_same, ok_is_not_err}
use Rattle.nz_cert.proofs.reader.read_cert.Goals as goal

pub returns-in-Err : goal.returns-in-Err
returns-in-Err c =
    let none = refused_text c.args.text.now _ _ _ c.of-words.ensures c.in-Err.ensures in
    record { ok = tt; same = none; bad = λ e d t. bad_is_not (sym (err_same _ _ e) ∙ none d t) }

pub returns-in-Some : goal.returns-in-Some
returns-in-Some c =
    let none = further_word c.args.text.now _ _ _ _ _ c.of-words.ensures c.in-Ok.ensures c.in-Some.ensures in
    record { ok = tt; same = λ d t. absurd (none d t); bad = λ e. none }

pub returns-in-None : goal.returns-in-None
returns-in-None c =
    let s = c.in-Ok.ensures.sound in
    let is = text_of_read c.in-Ok.certificate c.args.text.now _ s.0 (subst (λ (t : List Bytes). IsRead (words_of c.in-Ok.certificate) t c.take_certificate.new.words) c.of-words.ensures s.1) c.in-None.ensures in
    record { ok = is; same = λ d t. one_certificate c.in-Ok.certificate d c.args.text.now is t; bad = λ e d t. ok_is_not_err _ _ e }
