-- The pieces of a text, one more.
use Rattle.std.proofs.Common.{ℕ, List, [], ◌∷◌, ◌++◌, refl, sym, subst}
use Rattle.nz_text.specs.declared.found.Span.{Span}
use Rattle.nz_text.specs.declared.found.Found.TheVariants.{Piece}
use Rattle.nz_text.specs.Pieces.{IsStep, Leads}

pub leads-more : (text : List ℕ) (from : ℕ) (spans : List Span) (end : ℕ) (span : Span) → Leads text from spans end → IsStep text end (Piece span) → Leads text from (spans ++ span ∷ []) span.end
leads-more text from [] end span h s = (subst (λ (n : ℕ). IsStep text n (Piece span)) (sym h) s, refl)
leads-more text from (first ∷ spans) end span h s = (h.0, leads-more text first.end spans end span h.1 s)
