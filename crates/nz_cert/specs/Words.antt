-- The words of a text, and what they spell.
use Rattle.std.specs.Prelude.{◌≡◌, ℕ, ℤ, pos, neg_ℤ, Bool, true, false, ◌==◌, ◌||◌, if◌then◌else◌, List, [], ◌∷◌, ◌++◌}
use Rattle.nz_further.specs.CertificateTexts.{Bytes, Word, Spells}

-- space, tab, line feed, carriage return
abbrev pub is_blank : ℕ → Bool
is_blank b = (b == 32) || (b == 9) || (b == 10) || (b == 13)

-- the words of a text behind the bytes that have begun the first one
abbrev pub words_behind : Bytes → Bytes → List Bytes
words_behind [] [] = []
words_behind (c ∷ begun) [] = (c ∷ begun) ∷ []
words_behind [] (b ∷ text) = if is_blank b then words_behind [] text else words_behind (b ∷ []) text
words_behind (c ∷ begun) (b ∷ text) = if is_blank b then (c ∷ begun) ∷ words_behind [] text else words_behind ((c ∷ begun) ++ b ∷ []) text

-- the words of a text: what blanks leave of it
abbrev pub text_words : Bytes → List Bytes
text_words text = words_behind [] text

-- no word goes on here
abbrev pub IsEdge : Bytes → Type 0
IsEdge [] = Unit {0}
IsEdge (b ∷ text) = is_blank b ≡ true

-- the first words spell these, and those are left
abbrev pub IsRead : List Word → (before after : List Bytes) → Type 0
IsRead [] before after = before ≡ after
IsRead (word ∷ words) [] after = ⊥
IsRead (word ∷ words) (t ∷ before) after = Spells word t × IsRead words before after

-- a number by its sign and size
abbrev pub signed_by : Bool → ℕ → ℤ
signed_by true size = neg_ℤ (pos size)
signed_by false size = pos size

abbrev pub BeginsWithMinus : Bytes → Type 0
BeginsWithMinus [] = ⊥
BeginsWithMinus (b ∷ text) = b ≡ 45
