use Rattle.std.proofs.Common.{Err, Ok, subst}
use Rattle.nz_further.specs.Certificates.{AreHeld}
use Rattle.nz_further.specs.CertificateTexts.{Bytes, list_words}
use Rattle.nz_cert.specs.Readings.{IsReading}
use Rattle.nz_cert.proofs.CertificateLemmas.{no_sizes, refused_order, refused_rays, refused_points, refused_first, refused_stages, made_shape, made_read}
use Rattle.nz_cert.proofs.reader.take_certificate.Goals as goal

pub returns-in-None : goal.returns-in-None
returns-in-None c = no_sizes _ _ _ c.in-None.ensures

pub returns-in-Err : goal.returns-in-Err
returns-in-Err c = refused_order _ _ _ _ _ _ c.in-Some.ensures c.in-Err.ensures

pub returns-in-Err-take_rays : goal.returns-in-Err-take_rays
returns-in-Err-take_rays c = refused_rays _ _ _ _ _ _ _ _ c.in-Some.ensures c.in-Ok.ensures c.in-Err-take_rays.ensures

pub returns-in-Err-take_named_list : goal.returns-in-Err-take_named_list
returns-in-Err-take_named_list c =
    let w = c.in-Some.sizes.width in
    let points = subst (λ (n : Bytes). IsReading (AreHeld w) (list_words n) c.take_rays.new.words c.take_named_list.new.words (Err c.in-Err-take_named_list.refusal)) c.as_slice.ensures c.in-Err-take_named_list.ensures in
    refused_points _ _ _ _ _ _ _ _ _ _ c.in-Some.ensures c.in-Ok.ensures c.in-Ok-take_rays.ensures points

pub returns-in-Err-take_named_list-2 : goal.returns-in-Err-take_named_list-2
returns-in-Err-take_named_list-2 c =
    let w = c.in-Some.sizes.width in
    let points = subst (λ (n : Bytes). IsReading (AreHeld w) (list_words n) c.take_rays.new.words c.take_named_list.new.words (Ok c.in-Ok-take_named_list.points)) c.as_slice.ensures c.in-Ok-take_named_list.ensures in
    let first = subst (λ (n : Bytes). IsReading (AreHeld w) (list_words n) c.take_named_list.new.words c.take_named_list-2.new.words (Err c.in-Err-take_named_list-2.refusal)) c.as_slice-2.ensures c.in-Err-take_named_list-2.ensures in
    refused_first _ _ _ _ _ _ _ _ _ _ _ _ c.in-Some.ensures c.in-Ok.ensures c.in-Ok-take_rays.ensures points first

pub returns-in-Err-take_stages : goal.returns-in-Err-take_stages
returns-in-Err-take_stages c =
    let w = c.in-Some.sizes.width in
    let points = subst (λ (n : Bytes). IsReading (AreHeld w) (list_words n) c.take_rays.new.words c.take_named_list.new.words (Ok c.in-Ok-take_named_list.points)) c.as_slice.ensures c.in-Ok-take_named_list.ensures in
    let first = subst (λ (n : Bytes). IsReading (AreHeld w) (list_words n) c.take_named_list.new.words c.take_named_list-2.new.words (Ok c.in-Ok-take_named_list-2.first)) c.as_slice-2.ensures c.in-Ok-take_named_list-2.ensures in
    refused_stages _ _ _ _ _ _ _ _ _ _ _ _ _ _ c.in-Some.ensures c.in-Ok.ensures c.in-Ok-take_rays.ensures points first c.in-Err-take_stages.ensures

pub invariant_of-result : goal.invariant_of-result
invariant_of-result c = made_shape c.in-Some.sizes _ _ _ _ c.in-Ok-take_stages.stages c.in-Some.ensures.sound.0 c.in-Ok.ensures.sound.0 c.in-Ok-take_rays.ensures.sound.0 c.in-Ok-take_named_list.ensures.sound.0 c.in-Ok-take_named_list-2.ensures.sound.0 c.in-Ok-take_stages.ensures.sound.0

pub returns : goal.returns
returns c =
    let w = c.in-Some.sizes.width in
    let points = subst (λ (n : Bytes). IsReading (AreHeld w) (list_words n) c.take_rays.new.words c.take_named_list.new.words (Ok c.in-Ok-take_named_list.points)) c.as_slice.ensures c.in-Ok-take_named_list.ensures in
    let first = subst (λ (n : Bytes). IsReading (AreHeld w) (list_words n) c.take_named_list.new.words c.take_named_list-2.new.words (Ok c.in-Ok-take_named_list-2.first)) c.as_slice-2.ensures c.in-Ok-take_named_list-2.ensures in
    made_read c.in-Some.sizes _ _ _ _ c.in-Ok-take_stages.stages _ _ _ _ _ _ _ c.in-Some.ensures c.in-Ok.ensures c.in-Ok-take_rays.ensures points first c.in-Ok-take_stages.ensures
