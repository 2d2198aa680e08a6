use Rattle.std.proofs.Common.{length, ◌+◌, ◌≤◌}
use Rattle.std.specs.Io.KnownBytes.{Consumes}
use Rattle.nz_edge.proofs.disk.first_bytes.Given as goal

abbrev pub invariant-loop-turn : goal.invariant-loop-turn
invariant-loop-turn g l = (length l.bytes ≤ l.most + 1) × Consumes (g.F.Read.remaining l.initial.file) (g.F.Read.remaining l.file) l.bytes
