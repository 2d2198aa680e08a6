use Rattle.std.proofs.Common.{◌<◌, ◌^◌, map, arith}
use Rattle.nz_further.specs.CertificateTexts.{Count}
use Rattle.nz_cert.specs.Fields.{AreNumbers}
use Rattle.nz_cert.proofs.ReadingLemmas.{one_longer, parts_refused, parts_more, parts_end, option_only, option_refused, respelled, laid_from, singly, laid_singly}
use Rattle.nz_cert.proofs.order.take_numbers.Goals as goal

pub returns-in-None : goal.returns-in-None
returns-in-None c =
    let l = c.loop-index.invariant.many in
    let t = c.loop-index-test.true in
    respelled (AreNumbers c.args.count) (laid_from (singly Count) 0) (map Count) _ _ _ (laid_singly Count 0)
    (parts_refused (λ n. n < 2 ^ 64) (singly Count) 0 _ _ _ _ _ c.args.count _ c.loop-index.invariant.parts (omega (arith, l, t)) (option_refused (λ n. n < 2 ^ 64) (singly Count 0) _ _ c.in-None.ensures))

pub loop-index-preserved : goal.loop-index-preserved
loop-index-preserved c = record {
  many = one_longer c.loop-index.numbers c.push.new.self c.in-Some.number c.loop-index._index c.in-Ok.ensures.ok c.loop-index.invariant.many;
  parts = parts_more (λ n. n < 2 ^ 64) (singly Count) 0 _ _ _ _ _ _ c.loop-index.invariant.parts (option_only (λ n. n < 2 ^ 64) (singly Count 0) _ _ _ c.in-Some.ensures) c.in-Ok.ensures.ok;
}

pub returns : goal.returns
returns c =
    let l = c.loop-index.invariant.many in
    let t = c.loop-index-test.false in
    let u = c.loop-index.auto._index-end in
    respelled (AreNumbers c.args.count) (laid_from (singly Count) 0) (map Count) _ _ _ (laid_singly Count 0)
    (parts_end (λ n. n < 2 ^ 64) (singly Count) 0 _ _ _ c.args.count c.loop-index.invariant.parts (omega (arith, l, t, u)))
