use Rattle.std.proofs.Common.{map, arith}
use Rattle.nz_further.specs.CertificateTexts.{Entry, entries}
use Rattle.nz_cert.specs.Readings.{IsHeldVector, AreHeldVectors}
use Rattle.nz_cert.proofs.ReadingLemmas.{one_longer, parts_refused, parts_more, parts_end, reading_only, respelled, laid_from, vector_words, laid_vectors}
use Rattle.nz_cert.proofs.fields.take_vectors.Goals as goal

pub returns-in-Err : goal.returns-in-Err
returns-in-Err c =
    let l = c.loop-index.invariant.many in
    let t = c.loop-index-test.true in
    respelled (AreHeldVectors c.args.width c.args.count) (laid_from vector_words 0) entries _ _ _ (laid_vectors 0)
    (parts_refused (IsHeldVector c.args.width) vector_words 0 _ _ _ _ _ c.args.count _ c.loop-index.invariant.parts (omega (arith, l, t)) c.in-Err.ensures)

pub loop-index-preserved : goal.loop-index-preserved
loop-index-preserved c = record {
  many = one_longer c.loop-index.vectors c.push.new.self c.in-Ok.vector c.loop-index._index c.in-Ok-push.ensures.ok c.loop-index.invariant.many;
  parts = parts_more (IsHeldVector c.args.width) vector_words 0 _ _ _ _ _ _ c.loop-index.invariant.parts (reading_only (IsHeldVector c.args.width) (map Entry) _ _ _ c.in-Ok.ensures) c.in-Ok-push.ensures.ok;
}

pub returns : goal.returns
returns c =
    let l = c.loop-index.invariant.many in
    let t = c.loop-index-test.false in
    let u = c.loop-index.auto._index-end in
    respelled (AreHeldVectors c.args.width c.args.count) (laid_from vector_words 0) entries _ _ _ (laid_vectors 0)
    (parts_end (IsHeldVector c.args.width) vector_words 0 _ _ _ c.args.count c.loop-index.invariant.parts (omega (arith, l, t, u)))
