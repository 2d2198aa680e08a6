-- The parts of a text of a certificate, one by one.
use Rattle.std.specs.Prelude.{◌≡◌, ℕ, suc, ◌+◌, ◌-◌, ◌^◌, ◌<◌, ◌≤◌, Bool, false, List, [], ◌∷◌, ◌++◌, length, map, codes, get_or, MatchOption, Option}
use Rattle.std.specs.Bool.{MatchBool}
use Rattle.std.specs.List.{AllByRecursion as Each}
use Rattle.nz_spec.specs.Order.{ListsOnce}
use Rattle.nz_further.specs.Certificates.{IsPlace, AreHeld}
use Rattle.nz_further.specs.CertificateTexts.{Bytes, Word, Name, Count, entries, list_words, stage_words}
use Rattle.nz_cert.specs.Words.{IsRead}
use Rattle.nz_cert.specs.declared.sizes.Sizes.{Sizes}
use Rattle.nz_cert.specs.declared.stages.Sides.{Sides}
use Rattle.nz_cert.specs.declared.stages.Stages.{Stages}

-- the sizes that a certificate may have
pub record AreSizes (s : Sizes) : Type 0 where
  pub width : (1 ≤ s.width) × (s.width ≤ 65)
  pub rank_at_most : s.rank ≤ s.width
  pub at_most : s.rank ≤ s.rows
  pub few_rows : s.rows < 2 ^ 64

-- the name of the format, and the sizes
abbrev pub size_words : Sizes → List Word
size_words s = Name (codes "nmzcert") ∷ Count s.width ∷ Count s.rank ∷ Count s.rows ∷ []

-- these sizes, exactly where a certificate may have them
abbrev pub IsAllowed : (width rank rows : ℕ) → Option Sizes → Type 0
IsAllowed width rank rows result = MatchOption result ((s : Sizes) → AreSizes s → width ≡ s.width → rank ≡ s.rank → rows ≡ s.rows → ⊥) (λ s. AreSizes s × (s.width ≡ width) × (s.rank ≡ rank) × (s.rows ≡ rows))

-- so many numbers
abbrev pub AreNumbers : ℕ → List ℕ → Type 0
AreNumbers n xs = (length xs ≡ n) × Each (λ k. k < 2 ^ 64) xs

-- each place of n rows, once
abbrev pub IsOrderOf : ℕ → List ℕ → Type 0
IsOrderOf n order = (length order ≡ n) × ListsOnce (IsPlace n) order

abbrev pub order_words : List ℕ → List Word
order_words order = Name (codes "order") ∷ map Count order

-- a place, from 1, that has no mark
abbrev pub IsFree : List Bool → ℕ → Type 0
IsFree marks place = IsPlace (length marks) place × (get_or marks (place - 1) false ≡ false)

-- the lists of one row
abbrev pub AreSides : ℕ → Sides → Type 0
AreSides w s = AreHeld w s.plus × AreHeld w s.minus

-- the words of the row of this number
abbrev pub side_words : ℕ → Sides → List Word
side_words k s = Name (codes "stage") ∷ Count k ∷ Count (length s.plus) ∷ entries s.plus ++ list_words (codes "reversed") s.minus

-- the lists of the rows after the first ones
pub record AreStages (w rank rows : ℕ) (s : Stages) : Type 0 where
  pub as_many_above : rank + length s.plus ≡ rows
  pub as_many_beneath : rank + length s.minus ≡ rows
  pub above : Each (AreHeld w) s.plus
  pub beneath : Each (AreHeld w) s.minus

abbrev pub two_sided_words : ℕ → Stages → List Word
two_sided_words rank s = stage_words (suc rank) s.plus s.minus

-- just these words are taken
pub record AreTaken (words : List Word) (before after : List Bytes) (result : Bool) : Type 0 where
  pub taken : MatchBool result (IsRead words before after) ((rest : List Bytes) → ¬ IsRead words before rest)
  pub whole : (rest : List Bytes) → IsRead words before rest → after ≡ rest
