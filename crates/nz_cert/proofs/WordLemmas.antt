-- The words of a text, byte by byte.
use Rattle.std.proofs.Common.{◌≡◌, ℕ, ◌+◌, ◌<◌, Bool, true, false, List, [], ◌∷◌, ◌++◌, length, get_or, take, drop, refl, sym, ap, ◌∙◌, if◌then◌else◌, arith}
use Rattle.std.proofs.lemmas.List.{drop_more, take_more}
use Rattle.nz_further.specs.CertificateTexts.{Bytes}
use Rattle.nz_cert.specs.Words.{is_blank, words_behind, text_words, IsEdge}

blank_step : (b : ℕ) (text : Bytes) → is_blank b ≡ true → text_words (b ∷ text) ≡ text_words text
blank_step b text e = ap (λ (t : Bool). if t then text_words text else words_behind (b ∷ []) text) e

solid_step : (begun : Bytes) (b : ℕ) (text : Bytes) → is_blank b ≡ false → words_behind begun (b ∷ text) ≡ words_behind (begun ++ b ∷ []) text
solid_step [] b text e = ap (λ (t : Bool). if t then text_words text else words_behind (b ∷ []) text) e
solid_step (c ∷ begun) b text e = ap (λ (t : Bool). if t then (c ∷ begun) ∷ text_words text else words_behind ((c ∷ begun) ++ b ∷ []) text) e

-- one blank more is passed
pub gap_step : (text : Bytes) (k : ℕ) → k < length text → is_blank (get_or text k 0) ≡ true → text_words (drop (k + 1) text) ≡ text_words (drop k text)
gap_step text k l e = sym (ap text_words (drop_more text k 0 l) ∙ blank_step (get_or text k 0) (drop (k + 1) text) e)

-- one byte more is of the word
pub run_step : (text : Bytes) (k : ℕ) → k < length text → is_blank (get_or text k 0) ≡ false → words_behind (take k text) (drop k text) ≡ words_behind (take (k + 1) text) (drop (k + 1) text)
run_step text k l e =
    ap (words_behind (take k text)) (drop_more text k 0 l)
    ∙ solid_step (take k text) (get_or text k 0) (drop (k + 1) text) e
    ∙ ap (λ (t : Bytes). words_behind t (drop (k + 1) text)) (sym (take_more text k 0 l))

-- the word ends here
pub word_ends : (c : ℕ) (begun text : Bytes) → IsEdge text → words_behind (c ∷ begun) text ≡ (c ∷ begun) ∷ text_words text
word_ends c begun [] h = refl
word_ends c begun (b ∷ text) h =
    ap (λ (t : Bool). if t then (c ∷ begun) ∷ text_words text else words_behind ((c ∷ begun) ++ b ∷ []) text) h
    ∙ ap (λ (ts : List Bytes). (c ∷ begun) ∷ ts) (sym (blank_step b text h))

-- the word that was read, and those behind it
pub word_split : (text word rest : Bytes) → 0 < length word → text_words text ≡ words_behind word rest → IsEdge rest → text_words text ≡ word ∷ text_words rest
word_split text [] rest l e h = absurd (let f : ⊥ = omega (arith, l) in f)
word_split text (c ∷ begun) rest l e h = e ∙ word_ends c begun rest h
