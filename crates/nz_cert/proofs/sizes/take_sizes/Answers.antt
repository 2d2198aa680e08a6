use Rattle.std.proofs.Common.{◌∷◌, [], ◌<◌, ◌^◌, List, codes, arith}
use Rattle.nz_further.specs.CertificateTexts.{Count, Word}
use Rattle.nz_cert.proofs.ReadingLemmas.{name_step, word_step, word_missing}
use Rattle.nz_cert.proofs.sizes.take_sizes.Goals as goal

pub returns-in-None : goal.returns-in-None
returns-in-None c = record {
  sound = tt;
  whole = λ s rest f r.
      let l = f.width.1 in
      let behind : List Word = Count s.width ∷ Count s.rank ∷ Count s.rows ∷ [] in
      let r1 = name_step (codes "nmzcert") _ behind _ _ rest c.if-not-take_name.ensures r in
      absurd (word_missing (λ n. n < 2 ^ 64) Count (Count s.rank ∷ Count s.rows ∷ []) _ _ rest s.width c.in-None.ensures (omega (arith, l)) r1);
}

pub returns-in-None-take_count : goal.returns-in-None-take_count
returns-in-None-take_count c = record {
  sound = tt;
  whole = λ s rest f r.
      let l = f.width.1 in
      let m = f.rank_at_most in
      let behind : List Word = Count s.width ∷ Count s.rank ∷ Count s.rows ∷ [] in
      let r1 = name_step (codes "nmzcert") _ behind _ _ rest c.if-not-take_name.ensures r in
      let r2 = word_step (λ n. n < 2 ^ 64) Count (Count s.rank ∷ Count s.rows ∷ []) _ _ rest _ s.width c.in-Some.ensures (omega (arith, l)) r1 in
      absurd (word_missing (λ n. n < 2 ^ 64) Count (Count s.rows ∷ []) _ _ rest s.rank c.in-None-take_count.ensures (omega (arith, l, m)) r2.1);
}
