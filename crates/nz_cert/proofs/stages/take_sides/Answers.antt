use Rattle.std.proofs.Common.{◌≡◌, ◌∷◌, ◌∙◌, Err, Ok, codes, ap, subst}
use Rattle.nz_further.specs.Certificates.{AreHeld}
use Rattle.nz_further.specs.CertificateTexts.{Bytes, list_words}
use Rattle.nz_cert.specs.Readings.{IsReading}
use Rattle.nz_cert.proofs.StageLemmas.{sides_missing, sides_first, sides_second, sides_read}
use Rattle.nz_cert.proofs.stages.take_sides.Goals as goal

pub returns-then-not-take_number : goal.returns-then-not-take_number
returns-then-not-take_number c =
    let named : c.args.words.now ≡ codes "stage" ∷ c.take_name.new.words = c.if-not-take_name.ensures ∙ ap (λ (w : Bytes). w ∷ c.take_name.new.words) c.as_slice.ensures in
    sides_missing c.args.width c.args.number _ _ _ _ named c.if-not-take_number.ensures

pub returns-in-Err : goal.returns-in-Err
returns-in-Err c =
    let named : c.args.words.now ≡ codes "stage" ∷ c.take_name.new.words = c.if-not-take_name.ensures ∙ ap (λ (w : Bytes). w ∷ c.take_name.new.words) c.as_slice.ensures in
    sides_first c.args.width c.args.number _ _ _ _ _ _ named c.if-not-take_number.ensures c.in-Err.ensures

pub returns-in-Ok-take_named_list : goal.returns-in-Ok-take_named_list
returns-in-Ok-take_named_list c =
    let named : c.args.words.now ≡ codes "stage" ∷ c.take_name.new.words = c.if-not-take_name.ensures ∙ ap (λ (w : Bytes). w ∷ c.take_name.new.words) c.as_slice.ensures in
    let second = subst (λ (w : Bytes). IsReading (AreHeld c.args.width) (list_words w) c.take_list.new.words c.take_named_list.new.words (Ok c.in-Ok-take_named_list.minus)) c.as_slice-2.ensures c.in-Ok-take_named_list.ensures in
    sides_read c.args.width c.args.number _ _ _ _ _ _ _ named c.if-not-take_number.ensures c.in-Ok.ensures second

pub returns-in-Err-take_named_list : goal.returns-in-Err-take_named_list
returns-in-Err-take_named_list c =
    let named : c.args.words.now ≡ codes "stage" ∷ c.take_name.new.words = c.if-not-take_name.ensures ∙ ap (λ (w : Bytes). w ∷ c.take_name.new.words) c.as_slice.ensures in
    let second = subst (λ (w : Bytes). IsReading (AreHeld c.args.width) (list_words w) c.take_list.new.words c.take_named_list.new.words (Err c.in-Err-take_named_list.refusal)) c.as_slice-2.ensures c.in-Err-take_named_list.ensures in
    sides_second c.args.width c.args.number _ _ _ _ _ _ _ _ named c.if-not-take_number.ensures c.in-Ok.ensures second
