use Rattle.std.proofs.Common.{sym, subst}
use Rattle.nz_input.specs.declared.reading.Stop.TheVariants.{At}
use Rattle.nz_input.specs.declared.refusal.Fault.{Fault}
use Rattle.nz_input.specs.Parts.{IsPartStopped}
use Rattle.nz_text.specs.declared.found.Found.TheVariants.{Piece, End, Bad}
use Rattle.nz_text.proofs.Stepping.{finds}
use Rattle.nz_input.proofs.Parting.{part-begins, part-on, part-bad, part-stops, part-more, part-done, part-ends}
use Rattle.nz_input.proofs.parts.read_part.Goals as goal

pub loop-reader-init : goal.loop-reader-init
loop-reader-init c = part-begins c.args.part c.args.text.now c.reader_of-reader.result c.role-role.result c.requires c.reader_of-reader.ensures c.role-role.ensures

pub returns-in-End-clause-ok : goal.returns-in-End-clause-ok
returns-in-End-clause-ok c = (part-ends c.args.part c.args.text.now c.loop-reader.reader c.loop-reader.at c.loop-reader.role c.loop-reader.start c.end_part.result c.loop-reader.invariant (finds c.args.text.now c.loop-reader.at End (part-on c.args.part c.args.text.now c.loop-reader.reader c.loop-reader.at c.loop-reader.role c.loop-reader.start c.loop-reader.invariant).1 c.in-End.ensures) c.end_part.ensures).0

pub returns-in-End-clause-err : goal.returns-in-End-clause-err
returns-in-End-clause-err c = (part-ends c.args.part c.args.text.now c.loop-reader.reader c.loop-reader.at c.loop-reader.role c.loop-reader.start c.end_part.result c.loop-reader.invariant (finds c.args.text.now c.loop-reader.at End (part-on c.args.part c.args.text.now c.loop-reader.reader c.loop-reader.at c.loop-reader.role c.loop-reader.start c.loop-reader.invariant).1 c.in-End.ensures) c.end_part.ensures).1

pub returns-in-Bad-clause-err : goal.returns-in-Bad-clause-err
returns-in-Bad-clause-err c = subst (λ (x : Fault). IsPartStopped c.args.part c.args.text.now (At c.in-Bad.at x)) (sym c.gap_fault.ensures) (part-bad c.args.part c.args.text.now c.loop-reader.reader c.loop-reader.at c.loop-reader.role c.loop-reader.start c.in-Bad.at c.in-Bad.fault c.loop-reader.invariant (finds c.args.text.now c.loop-reader.at (Bad c.in-Bad.at c.in-Bad.fault) (part-on c.args.part c.args.text.now c.loop-reader.reader c.loop-reader.at c.loop-reader.role c.loop-reader.start c.loop-reader.invariant).1 c.in-Bad.ensures))

pub returns-in-Err-clause-err : goal.returns-in-Err-clause-err
returns-in-Err-clause-err c = part-stops c.args.part c.args.text.now c.loop-reader.reader c.loop-reader.at c.loop-reader.role c.loop-reader.start c.in-Piece.span c.role-role-in-Piece.result c.in-Err.stop c.loop-reader.invariant (finds c.args.text.now c.loop-reader.at (Piece c.in-Piece.span) (part-on c.args.part c.args.text.now c.loop-reader.reader c.loop-reader.at c.loop-reader.role c.loop-reader.start c.loop-reader.invariant).1 c.in-Piece.ensures) c.role-role-in-Piece.ensures c.in-Err.ensures

pub returns-then-is_whole-clause-ok : goal.returns-then-is_whole-clause-ok
returns-then-is_whole-clause-ok c = part-done c.args.part c.args.text.now c.loop-reader.reader c.in_ok-reader-in-Ok.reader c.loop-reader.at c.loop-reader.role c.loop-reader.start c.in-Piece.span c.role-role-in-Piece.result c.in-Ok.symbol c.loop-reader.invariant (finds c.args.text.now c.loop-reader.at (Piece c.in-Piece.span) (part-on c.args.part c.args.text.now c.loop-reader.reader c.loop-reader.at c.loop-reader.role c.loop-reader.start c.loop-reader.invariant).1 c.in-Piece.ensures) c.role-role-in-Piece.ensures c.in-Ok.ensures.0 c.in-Ok.ensures.1 c.in_ok-reader-in-Ok.ensures (sym c.if-is_whole.ensures)

pub loop-reader-preserved : goal.loop-reader-preserved
loop-reader-preserved c = part-more c.args.part c.args.text.now c.loop-reader.reader c.in_ok-reader-in-Ok.reader c.loop-reader.at c.loop-reader.role c.loop-reader.start c.in-Piece.span c.role-role-in-Piece.result c.in-Ok.symbol c.loop-reader.invariant (finds c.args.text.now c.loop-reader.at (Piece c.in-Piece.span) (part-on c.args.part c.args.text.now c.loop-reader.reader c.loop-reader.at c.loop-reader.role c.loop-reader.start c.loop-reader.invariant).1 c.in-Piece.ensures) c.role-role-in-Piece.ensures c.in-Ok.ensures.0 c.in-Ok.ensures.1 c.in_ok-reader-in-Ok.ensures (sym c.if-is_whole.ensures)
