use Rattle.std.proofs.Common.{◌≡◌, length}
use Rattle.nz_cert.specs.Readings.{IsHeldVector}
use Rattle.nz_cert.proofs.ReadingLemmas.{AreParts, vector_words}
use Rattle.nz_cert.proofs.fields.take_vectors.Given as goal

abbrev pub invariant-loop-index : goal.invariant-loop-index
invariant-loop-index l = record {
  many : length l.vectors ≡ l._index;
  parts : AreParts (IsHeldVector l.width) vector_words 0 l.initial.words l.words l.vectors;
}
