use Rattle.std.proofs.Common.{subst, sym, List}
use Rattle.nz_text.specs.declared.found.Span.{Span}
use Rattle.nz_text.specs.Pieces.{Leads}
use Rattle.nz_text.proofs.Scanning.{leads-more}
use Rattle.nz_text.proofs.scan.tokens.Goals as goal

pub loop-spans-preserved : goal.loop-spans-preserved
loop-spans-preserved c = record {
  within = c.in-Piece.ensures.2;
  leads = subst (λ (x : List Span). Leads c.args.text.now 0 x c.in-Piece.span.end) (sym c.in_ok-push-in-Piece.ensures.ok) (leads-more c.args.text.now 0 c.loop-spans.spans c.loop-spans.at c.in-Piece.span c.loop-spans.invariant.leads c.in-Piece.ensures);
}
