-- Symbols that lead a machine from one state to another, and what a reader has behind it: for any symbols, and any machine that says which may come next.
use Rattle.std.specs.Prelude.{◌≡◌, ℕ, List, [], ◌∷◌, ◌++◌, Option}
use Rattle.nz_vec.specs.Texts.{Text}
use Rattle.nz_text.specs.Bytes.{IsGap}
use Rattle.nz_input.specs.Prefixes.{first_of}

-- these symbols lead from one state to the other
abbrev pub StepsIn : {S Q : Type 0} → (Q → S → Type 0) → (Q → S → Q) → Q → List S → Q → Type 0
StepsIn May next q [] end = q ≡ end
StepsIn May next q (s ∷ ss) end = May q s × StepsIn May next (next q s) ss end

-- gaps and pieces, each with nothing behind it that could belong to it
abbrev pub CoversIn : {S : Type 0} → (S → Text → Type 0) → (S → Option ℕ → Type 0) → List S → Text → Type 0
CoversIn Spells Ahead [] a = a ≡ []
CoversIn Spells Ahead (s ∷ ss) a = (gap piece rest : Text) × (a ≡ gap ++ (piece ++ rest)) × IsGap gap × Spells s piece × Ahead s (first_of rest) × CoversIn Spells Ahead ss rest

-- nothing is behind, or what is ahead does not belong to it
abbrev pub IsReadyIn : {S : Type 0} → (S → Option ℕ → Type 0) → List S → Text → Type 0
IsReadyIn Ahead [] t = Unit {0}
IsReadyIn Ahead (s ∷ []) t = Ahead s (first_of t)
IsReadyIn Ahead (s ∷ r ∷ ss) t = IsReadyIn Ahead (r ∷ ss) t
