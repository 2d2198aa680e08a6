-- The refusal of a line that was found in coordinates.
use Rattle.std.proofs.Common.{inl, ℕ, ℤ, List, length}
use Rattle.nz_spec.specs.Vectors.{Vector}
use Rattle.nz_spec.specs.Systems.{System, IsSystem}
use Rattle.nz_pointed.specs.Pointed.{IsLineOf}
use Rattle.nz_input.specs.declared.kind.Mode.{Mode}
use Rattle.nz_watch.specs.Telling.{Watched}
use Rattle.nz_watch.proofs.TellingLemmas.{none_told}
use Rattle.nz_sweep.specs.Bases.{Base}
use Rattle.nz_scalar.specs.Room.{HasRoom}
use Rattle.nz_measures.specs.Sweeps.{IsSwept}
use Rattle.nz_frame.specs.Frames.{IsFrame}
use Rattle.nz_solve.proofs.RangeLemmas as range
use Rattle.nz_frame.proofs.LineLemmas.{least_line}
use Rattle.nz_solve.specs.declared.refusal.InnerRefusal.{InnerRefusal}
use Rattle.nz_solve.specs.declared.refusal.InnerRefusal.TheVariants as inner
use Rattle.nz_solve.specs.Solutions.{IsInnerRefusal}
use Rattle.nz_solve.specs.Parts.{IsLineRefusal}

module _ (s : System) (base : Base) (pulled : List Vector) (is : IsSystem s) (fr : IsFrame s base pulled) (line : Vector) (swept : IsSwept s base) (li : IsLineOf (length base.vectors) pulled line) (half : ℤ) (fits : ℤ → Type 0) (room : HasRoom half fits) where
  pub line_refused : (mode : Mode) (limit told : ℕ) (a : Watched) (e : InnerRefusal) → IsLineRefusal fits told base line e → IsInnerRefusal mode s half limit told a a e
  line_refused mode limit told a (inner.Line v) h = (least_line s base pulled is fr line li v h, none_told a)
  line_refused mode limit told a (inner.Grade x) h = absurd h
  line_refused mode limit told a (inner.Range number) h = (range.line_refused s base pulled fr swept half fits room mode line li h.0, inl (h.1, none_told a))
  line_refused mode limit told a inner.TooMany h = absurd h
  line_refused mode limit told a (inner.Stopped stage) h = absurd h
  line_refused mode limit told a inner.NoMemory h = inl (none_told a)
