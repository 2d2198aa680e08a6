-- Reading the counts of an asked line.
use Rattle.std.proofs.Common.{◌≡◌, ℕ, zero, suc, ◌+◌, ◌^◌, ◌<◌, ◌≤◌, ◌≤ℤ◌, ℤ, pos, negsuc, Option, Some, None, [], ◌∷◌, ◌++◌, length, get_or, drop, refl, sym, ap, subst, ◌∙◌, append_assoc, append-nil, arith, codes, FitsSigned, length-append, MatchOption, IfSome}
use Rattle.std.specs.Int.{w128}
use Rattle.std.specs.Fmt.{decimal}
use Rattle.std.specs.List.{AllByRecursion as Each}
use Rattle.nz_vec.specs.Texts.{Text}
use Rattle.nz_spec.specs.Vectors.{Vector}
use Rattle.nz_blocks.specs.Beginnings.{First, IsDigit, value, IsRun, IsLarge}
use Rattle.nz_blocks.specs.declared.reading_numbers.Found.{Found}
use Rattle.nz_blocks.proofs.Readings.{not_large, run_is}
use Rattle.nz_blocks.specs.AskedLines.{count_word, count_words, module_word}
use Rattle.nz_blocks.specs.Readings.{NamesPlace}
use Rattle.nz_blocks.proofs.NumberTexts.{numeral, runs_one}
use Rattle.nz_blocks.proofs.AnswerTexts.{behind_counts, counts_bare, word_split}

pub star_bare : (s : Text) → ¬ First IsDigit (42 ∷ s)
star_bare s d = absurd (omega (arith, d.0))

-- two readings of one word name one place
names_one : (j k : ℕ) (n : Text) (s : Text) → k < 10 ^ 64 → Each IsDigit n → ¬ First IsDigit s → NamesPlace j (32 ∷ (n ++ (42 ∷ 104 ∷ (decimal k ++ s)))) → k ≡ j
names_one j k n s few are bare b =
    let d = numeral k few in
    let p = b.place_is in
    let front : n ++ (42 ∷ 104 ∷ (decimal k ++ s)) ≡ b.count ++ (42 ∷ 104 ∷ (p.named ++ p.rest)) = cut _ _ (b.is ∙ ap (λ (t : Text). 32 ∷ (b.count ++ t)) p.is) in
    let one = runs_one n b.count (42 ∷ 104 ∷ (decimal k ++ s)) (42 ∷ 104 ∷ (p.named ++ p.rest)) are b.are (star_bare (104 ∷ (decimal k ++ s))) (star_bare (104 ∷ (p.named ++ p.rest))) front in
    let back : decimal k ++ s ≡ p.named ++ p.rest = cc (one.1) in
    let two = runs_one (decimal k) p.named s p.rest d.digits p.are bare p.bare back in
    sym d.worth ∙ ap (value 0) two.0 ∙ p.worth
  where
    cut : (a b : Text) → 32 ∷ a ≡ 32 ∷ b → a ≡ b
    cut a b e = cc

no_word_letter : (j : ℕ) (t : Text) → ¬ NamesPlace j (32 ∷ 109 ∷ t)
no_word_letter j t b = go b.count b.are (b.is ∙ ap (λ (x : Text). 32 ∷ (b.count ++ x)) b.place_is.is)
  where
    go : (c : Text) → Each IsDigit c → 32 ∷ 109 ∷ t ≡ 32 ∷ (c ++ (42 ∷ 104 ∷ (b.place_is.named ++ b.place_is.rest))) → ⊥
    go [] h e = (let x : 109 ≡ 42 = ap (λ (z : Text). get_or z 1 0) e in absurd (omega (arith, x)))
    go (d ∷ c) h e = (let x : 109 ≡ d = ap (λ (z : Text). get_or z 1 0) e in absurd (omega (arith, x, h.0.1)))

-- behind the counts no word names a place
no_word_behind : (j : ℕ) (m : Option ℕ) (s : Text) → ¬ NamesPlace j (behind_counts m s)
no_word_behind j None s b = (let x : 10 ≡ 32 = ap (λ (z : Text). get_or z 0 0) b.is in absurd (omega (arith, x)))
no_word_behind j (Some p) s b = no_word_letter j (decimal (p + 1) ++ 10 ∷ s) b

-- nor do the words of later places
pub later_names : (j k : ℕ) (cs : Vector) (m : Option ℕ) (s : Text) → j < k → k + length cs < 10 ^ 64 → Each (FitsSigned w128) cs → ¬ NamesPlace j (count_words k cs ++ behind_counts m s)
later_names j k [] m s l few h = no_word_behind j m s
later_names j k (pos zero ∷ cs) m s l few h = later_names j (k + 1) cs m s (omega (arith, l)) (omega (arith, few)) h.1
later_names j k (negsuc n ∷ cs) m s l few h = later_names j (k + 1) cs m s (omega (arith, l)) (omega (arith, few)) h.1
later_names j k (pos (suc n) ∷ cs) m s l few h = λ b.
    let rest = count_words (k + 1) cs ++ behind_counts m s in
    let same = names_one j k (decimal (suc n)) rest (omega (arith, few)) (numeral (suc n) (omega (arith, h.0.sfits))).digits (counts_bare (k + 1) cs m s) (subst (NamesPlace j) (append_assoc (count_word k (pos (suc n))) (count_words (k + 1) cs) (behind_counts m s) ∙ word_split n k rest) b) in
    absurd (omega (arith, l, same))

-- what digits of a text are, where a number stands there
pub digits_are : (text : Text) (from k : ℕ) (s : Text) (result : Option (Found ℕ)) → k < 2 ^ 128 → ¬ First IsDigit s → drop from text ≡ decimal k ++ s → MatchOption result (IsLarge (drop from text)) (λ f. IsRun text from f.next f.value) → MatchOption result ⊥ (λ f. (f.value ≡ k) × (drop f.next text ≡ s))
digits_are text from k s None few bare e h = not_large k s few bare (subst IsLarge e h)
digits_are text from k s (Some f) few bare e h = run_is text from f.next f.value k s few bare e h

-- counts have been read, others are still to come
pub record AreCounts (here : Text) (k : ℕ) (items cs : Vector) (m : Option ℕ) (s : Text) : Type 0 where
  pub others : Vector
  pub held : Each (FitsSigned w128) others
  pub not_negative : Each (λ c. pos 0 ≤ℤ c) others
  pub split : cs ≡ items ++ others
  pub is : here ≡ count_words (k + 1) others ++ behind_counts m s

-- what is read at one place
pub record CountRead (here after : Text) (k : ℕ) (v : ℤ) : Type 0 where
  pub named : (n : ℕ) (s : Text) → suc n < 2 ^ 127 → ¬ First IsDigit s → here ≡ 32 ∷ (decimal (suc n) ++ (42 ∷ 104 ∷ (decimal k ++ s))) → (v ≡ pos (suc n)) × (after ≡ s)
  pub other : ¬ NamesPlace k here → (v ≡ pos 0) × (after ≡ here)

read_one : (here after : Text) (k : ℕ) (v c : ℤ) (cs : Vector) (m : Option ℕ) (s : Text) → k + 1 + length cs < 10 ^ 64 → FitsSigned w128 c → Each (FitsSigned w128) cs → pos 0 ≤ℤ c → here ≡ count_words k (c ∷ cs) ++ behind_counts m s → CountRead here after k v → (v ≡ c) × (after ≡ count_words (k + 1) cs ++ behind_counts m s)
read_one here after k v (pos zero) cs m s few fit held sign is read =
    let r = read.other (λ b. later_names k (k + 1) cs m s (omega arith) few held (subst (NamesPlace k) is b)) in
    (r.0, r.1 ∙ is)
read_one here after k v (negsuc n) cs m s few fit held sign is read = absurd (omega (arith, sign))
read_one here after k v (pos (suc n)) cs m s few fit held sign is read =
    read.named n (count_words (k + 1) cs ++ behind_counts m s) (omega (arith, fit.sfits)) (counts_bare (k + 1) cs m s)
    (is ∙ append_assoc (count_word k (pos (suc n))) (count_words (k + 1) cs) (behind_counts m s) ∙ word_split n k (count_words (k + 1) cs ++ behind_counts m s))

one_more : (here after : Text) (k : ℕ) (items more cs : Vector) (v : ℤ) (m : Option ℕ) (s : Text) (others : Vector) → length items < length cs → k + 2 + length cs < 10 ^ 64 → Each (FitsSigned w128) others → Each (λ c. pos 0 ≤ℤ c) others → cs ≡ items ++ others → here ≡ count_words (k + 1) others ++ behind_counts m s → CountRead here after (k + 1) v → more ≡ items ++ v ∷ [] → AreCounts after (k + 1) more cs m s
one_more here after k items more cs v m s [] l few held sign split is read e = absurd (omega (arith, l, ap length (split ∙ append-nil items)))
one_more here after k items more cs v m s (c ∷ others) l few held sign split is read e =
    let size = ap length split ∙ length-append items (c ∷ others) in
    let r = read_one here after (k + 1) v c others m s (omega (arith, few, size)) held.0 held.1 sign.0 is read in
    record {
      others = others;
      held = held.1;
      not_negative = sign.1;
      split = split ∙ sym (append_assoc items (c ∷ []) others) ∙ ap (λ (x : Vector). x ++ others) (ap (λ (z : ℤ). items ++ z ∷ []) (sym r.0) ∙ sym e);
      is = r.1;
    }

pub counts_more : (here after : Text) (k : ℕ) (items more cs : Vector) (v : ℤ) (m : Option ℕ) (s : Text) → length items < length cs → k + 2 + length cs < 10 ^ 64 → AreCounts here k items cs m s → CountRead here after (k + 1) v → more ≡ items ++ v ∷ [] → AreCounts after (k + 1) more cs m s
counts_more here after k items more cs v m s l few h read e = one_more here after k items more cs v m s h.others l few h.held h.not_negative h.split h.is read e

all_counts : (here : Text) (k : ℕ) (items cs : Vector) (m : Option ℕ) (s : Text) (others : Vector) → length cs ≤ length items → cs ≡ items ++ others → here ≡ count_words (k + 1) others ++ behind_counts m s → (items ≡ cs) × (here ≡ behind_counts m s)
all_counts here k items cs m s [] l split is = (sym (split ∙ append-nil items), is)
all_counts here k items cs m s (c ∷ others) l split is = absurd (omega (arith, l, ap length split ∙ length-append items (c ∷ others)))

pub counts_last : (here : Text) (k : ℕ) (items cs : Vector) (m : Option ℕ) (s : Text) → length cs ≤ length items → AreCounts here k items cs m s → (items ≡ cs) × (here ≡ behind_counts m s)
counts_last here k items cs m s l h = all_counts here k items cs m s h.others l h.split h.is

-- ---- the module generator

-- where its letter does not stand there, there is none
pub no_module : (here letter : Text) (m : Option ℕ) (s : Text) → letter ≡ codes " m" → here ≡ module_word m ++ 10 ∷ s → ((t : Text) → here ≡ letter ++ t → ⊥) → (None ≡ m) × (here ≡ 10 ∷ s)
no_module here letter None s l e h = (refl, e)
no_module here letter (Some p) s l e h = absurd (h (decimal (p + 1) ++ 10 ∷ s) (e ∙ ap (λ (t : Text). t ++ (decimal (p + 1) ++ 10 ∷ s)) (sym l)))

pub record IsModule (m : Option ℕ) (next s : Text) : Type 0 where
  pub place : ℕ
  pub few : place + 1 < 2 ^ 64
  pub named : m ≡ Some place
  pub is : next ≡ decimal (place + 1) ++ 10 ∷ s

pub is_module : (here letter next : Text) (m : Option ℕ) (s : Text) → IfSome m (λ p. p + 1 < 2 ^ 64) → letter ≡ codes " m" → here ≡ module_word m ++ 10 ∷ s → here ≡ letter ++ next → IsModule m next s
is_module here letter next None s few l e h =
    let both : 10 ∷ s ≡ 32 ∷ 109 ∷ next = sym e ∙ h ∙ ap (λ (t : Text). t ++ next) l in
    let b : 10 ≡ 32 = ap (λ (z : Text). get_or z 0 0) both in
    absurd (omega (arith, b))
is_module here letter next (Some p) s few l e h =
    let both : 32 ∷ 109 ∷ (decimal (p + 1) ++ 10 ∷ s) ≡ 32 ∷ 109 ∷ next = sym e ∙ h ∙ ap (λ (t : Text). t ++ next) l in
    let rest : decimal (p + 1) ++ 10 ∷ s ≡ next = cc (both) in
    record { place = p; few = few; named = refl; is = sym rest }

pub newline_no_digit : (s : Text) → ¬ First IsDigit (10 ∷ s)
newline_no_digit s d = absurd (omega (arith, d.0))
