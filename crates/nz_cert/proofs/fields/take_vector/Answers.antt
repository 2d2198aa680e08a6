use mir.Val.{SFits}
use Rattle.std.proofs.Math.Facts.{to_z-of_z}
use Rattle.std.specs.Int.{w128}
use Rattle.std.proofs.Common.{rules, ap, ◌++◌, ◌≡◌, ◌∙◌, sym, subst, Ok, ◌∷◌, [], map, map-id, arith}
use Rattle.nz_further.specs.Certificates.{IsHeldNumber}
use Rattle.nz_further.specs.CertificateTexts.{Entry}
use Rattle.nz_cert.specs.Readings.{IsReading, IsHeldVector}
use Rattle.nz_cert.proofs.ReadingLemmas.{one_longer, parts_refused, parts_more, parts_end, option_only, option_refused, respelled, laid_from, singly, laid_singly}
use Rattle.nz_cert.proofs.fields.take_vector.Goals as goal

pub returns-in-None : goal.returns-in-None
returns-in-None c =
    let l = c.loop-column.invariant.many in
    let t = c.loop-column-test.true in
    respelled (IsHeldVector c.args.width) (laid_from (singly Entry) 0) (map Entry) _ _ _ (laid_singly Entry 0)
    (parts_refused IsHeldNumber (singly Entry) 0 _ _ _ _ _ c.args.width _ c.loop-column.invariant.parts (omega (arith, l, t)) (option_refused IsHeldNumber (λ a. Entry a ∷ []) _ _ c.in-None.ensures))

pub loop-column-preserved : goal.loop-column-preserved
loop-column-preserved c =
    let entry = c.in-Some.entry in
    let items = c.loop-column.entries.items in
    let fits : SFits w128 entry = search rules in
    let more : c.push.new.self.items ≡ items ++ entry ∷ [] = c.in-Ok.ensures.items ∙ ap (λ z. items ++ z ∷ []) (to_z-of_z {w = w128} {z = entry} fits) in
    record {
      many = one_longer items c.push.new.self.items entry c.loop-column._column more c.loop-column.invariant.many;
      parts = parts_more IsHeldNumber (singly Entry) 0 _ _ _ _ _ _ c.loop-column.invariant.parts (option_only IsHeldNumber (λ a. Entry a ∷ []) _ _ _ c.in-Some.ensures) more;
    }

pub returns : goal.returns
returns c =
    let items = c.loop-column.entries.items in
    let same : c.from_vec.result ≡ items = c.from_vec.ensures ∙ map-id items in
    let l = c.loop-column.invariant.many in
    let t = c.loop-column-test.false in
    let u = c.loop-column.auto._column-end in
    let read = parts_end IsHeldNumber (singly Entry) 0 _ _ items c.args.width c.loop-column.invariant.parts (omega (arith, l, t, u)) in
    respelled (IsHeldVector c.args.width) (laid_from (singly Entry) 0) (map Entry) _ _ _ (laid_singly Entry 0)
    (subst (λ v. IsReading (IsHeldVector c.args.width) (laid_from (singly Entry) 0) c.args.words.now c.loop-column.words (Ok v)) (sym same) read)
