-- Reading blocks, one by one.
use Rattle.std.proofs.Common.{◌≡◌, ℕ, suc, ◌+◌, ◌<◌, ◌≤◌, Bool, true, false, List, [], ◌∷◌, ◌++◌, length, get_or, drop, refl, sym, ap, subst, ◌∙◌, append_assoc, append-nil, arith, add-one, drop-cons, length-append, Option, Some, None, ℤ, codes}
use Rattle.std.specs.List.{AllByRecursion as Each}
use Rattle.nz_vec.specs.Texts.{Text}
use Rattle.nz_spec.specs.Vectors.{Vector}
use Rattle.nz_blocks.specs.Beginnings.{First, IsDigit, IsHeading, BeginsBlock}
use Rattle.nz_blocks.specs.Held.{AreHeldRows}
use Rattle.nz_blocks.specs.Output.{block_if_some, level_word, space_lines, denominator_line}
use Rattle.nz_blocks.specs.Sections.{headings, sections}
use Rattle.nz_blocks.specs.Readings.{level_line}
use Rattle.nz_blocks.proofs.OneOutcome.{AreApart, headings_apart, not_later, space_split, denominator_split}
use Rattle.std.specs.Fmt.{decimal, signed_decimal}
use Rattle.std.proofs.lemmas.List.{append_cancel_left}

-- blocks under some headings have been read, those under others are still to come
pub record AreSections (hs : List Text) (here : Text) (k : ℕ) (items xs : List (Option (List Vector))) (s : Text) : Type 0 where
  pub later : List Text
  pub others : List (Option (List Vector))
  pub headed : later ≡ drop k hs
  pub apart : AreApart later
  pub bare : Each (λ h. ¬ BeginsBlock h s) later
  pub held : Each AreHeldRows others
  pub size : length others ≡ length later
  pub split : xs ≡ items ++ others
  pub is : here ≡ sections later others ++ s

pub record HasSection (hs : List Text) (here : Text) (k : ℕ) (items xs : List (Option (List Vector))) (s : Text) : Type 0 where
  pub heading : Text
  pub rows : Option (List Vector)
  pub behind : Text
  pub is_heading : heading ≡ get_or hs k []
  pub headed : IsHeading heading
  pub held : AreHeldRows rows
  pub bare : ¬ BeginsBlock heading behind
  pub is : here ≡ block_if_some heading rows ++ behind
  pub next : AreSections hs behind (k + 1) (items ++ rows ∷ []) xs s

pub sections_start : (level : Bool) (here : Text) (xs : List (Option (List Vector))) (s : Text) → Each AreHeldRows xs → length xs ≡ 9 → Each (λ h. ¬ BeginsBlock h s) (headings level) → here ≡ sections (headings level) xs ++ s → AreSections (headings level) here 0 [] xs s
sections_start level here xs s held size bare e = record {
  later = headings level;
  others = xs;
  headed = refl;
  apart = (headings_apart level).0;
  bare = bare;
  held = held;
  size = size;
  split = refl;
  is = e;
}

section_of : (hs : List Text) (here : Text) (k : ℕ) (items xs : List (Option (List Vector))) (s : Text) (later : List Text) (others : List (Option (List Vector))) →
    k < length hs → later ≡ drop k hs → AreApart later → Each (λ h. ¬ BeginsBlock h s) later → Each AreHeldRows others → length others ≡ length later → xs ≡ items ++ others → here ≡ sections later others ++ s → HasSection hs here k items xs s
section_of hs here k items xs s [] others l headed apart bare held size split is =
    let none : [] ≡ get_or hs k [] ∷ drop (suc k) hs = headed ∙ drop-cons hs k [] l in
    absurd cc
section_of hs here k items xs s (h ∷ later) [] l headed apart bare held size split is = absurd (omega (arith, size))
section_of hs here k items xs s (h ∷ later) (rows ∷ others) l headed apart bare held size split is =
    let both : h ∷ later ≡ get_or hs k [] ∷ drop (suc k) hs = headed ∙ drop-cons hs k [] l in
    let first : h ≡ get_or hs k [] = cc (both) in
    let rest : later ≡ drop (suc k) hs = cc (both) in
    record {
      heading = h;
      rows = rows;
      behind = sections later others ++ s;
      is_heading = first;
      headed = apart.0;
      held = held.0;
      bare = not_later h later others s apart.0 apart.1 held.1 bare.0;
      is = is ∙ append_assoc (block_if_some h rows) (sections later others) s;
      next = record {
        later = later;
        others = others;
        headed = rest ∙ ap (λ (i : ℕ). drop i hs) (sym (add-one k));
        apart = apart.2;
        bare = bare.1;
        held = held.1;
        size = omega (arith, size);
        split = split ∙ sym (append_assoc items (rows ∷ []) others);
        is = refl;
      };
    }

pub section_next : (hs : List Text) (here : Text) (k : ℕ) (items xs : List (Option (List Vector))) (s : Text) → k < length hs → AreSections hs here k items xs s → HasSection hs here k items xs s
section_next hs here k items xs s l h = section_of hs here k items xs s h.later h.others l h.headed h.apart h.bare h.held h.size h.split h.is

pub section_more : (hs : List Text) (after : Text) (k : ℕ) (items more xs : List (Option (List Vector))) (s : Text) (rows read : Option (List Vector)) (behind : Text) → AreSections hs behind (k + 1) (items ++ rows ∷ []) xs s → read ≡ rows → more ≡ items ++ read ∷ [] → after ≡ behind → AreSections hs after (k + 1) more xs s
section_more hs after k items more xs s rows read behind n e m a =
    let there = subst (λ (t : Text). AreSections hs t (k + 1) (items ++ rows ∷ []) xs s) (sym a) n in
    subst (λ (l : List (Option (List Vector))). AreSections hs after (k + 1) l xs s) (sym (m ∙ ap (λ (r : Option (List Vector)). items ++ r ∷ []) e)) there

sections_of : (here : Text) (items xs : List (Option (List Vector))) (s : Text) (later : List Text) (others : List (Option (List Vector))) → length xs ≤ length items → length others ≡ length later → xs ≡ items ++ others → here ≡ sections later others ++ s → (items ≡ xs) × (here ≡ s)
sections_of here items xs s [] [] l size split is = (sym (split ∙ append-nil items), is)
sections_of here items xs s (h ∷ later) [] l size split is = absurd (omega (arith, size))
sections_of here items xs s later (x ∷ others) l size split is = absurd (omega (arith, l, ap length split ∙ length-append items (x ∷ others)))

pub sections_last : (hs : List Text) (here : Text) (k : ℕ) (items xs : List (Option (List Vector))) (s : Text) → length xs ≤ length items → AreSections hs here k items xs s → (items ≡ xs) × (here ≡ s)
sections_last hs here k items xs s l h = sections_of here items xs s h.later h.others l h.size h.split h.is

-- what is known of the next section, under the same heading as the code has it
pub under : (hs : List Text) (here : Text) (k : ℕ) (items xs : List (Option (List Vector))) (s : Text) (n : HasSection hs here k items xs s) (heading : Text) → heading ≡ get_or hs k [] →
    IsHeading heading × (BeginsBlock heading n.behind → ⊥) × (here ≡ block_if_some heading n.rows ++ n.behind)
under hs here k items xs s n heading e =
    let same : n.heading ≡ heading = n.is_heading ∙ sym e in (
      subst IsHeading same n.headed,
      λ b. n.bare (subst (λ (h : Text). BeginsBlock h n.behind) (sym same) b),
      subst (λ (h : Text). here ≡ block_if_some h n.rows ++ n.behind) same n.is,
    )

-- ---- the head

-- where no other level stands there, it is this one
no_level : (here : Text) (level : Bool) (s : Text) → here ≡ level_line level ++ s → ((t : Text) → here ≡ codes "\ninhomogeneous\n" ++ t → ⊥) → ((t : Text) → here ≡ codes "\nhomogeneous\n" ++ t → ⊥) → ⊥
no_level here true s e a b = a s e
no_level here false s e a b = b s e

pub no_line : (here : Text) (level : Bool) (s one two : Text) → one ≡ codes "\ninhomogeneous\n" → two ≡ codes "\nhomogeneous\n" → here ≡ level_line level ++ s → ((t : Text) → here ≡ one ++ t → ⊥) → ((t : Text) → here ≡ two ++ t → ⊥) → ⊥
no_line here level s one two p q e a b =
    no_level here level s e (λ t h. a t (h ∙ ap (λ (x : Text). x ++ t) (sym p))) (λ t h. b t (h ∙ ap (λ (x : Text). x ++ t) (sym q)))

pub space_line : (amb : ℕ) (level : Bool) (s : Text) → space_lines amb level ++ s ≡ codes "amb_space " ++ (decimal amb ++ (level_line level ++ s))
space_line amb level s = space_split amb level s ∙ ap (λ (t : Text). codes "amb_space " ++ (decimal amb ++ 10 ∷ t)) (sym (append_assoc (level_word level) (10 ∷ []) s))

pub line_bare : (level : Bool) (s : Text) → ¬ First IsDigit (level_line level ++ s)
line_bare level s d = absurd (omega (arith, d.0))

-- where no third line stands there, degrees are not divided
pub no_denominator : (here : Text) (g : Option ℤ) (s word : Text) → word ≡ codes "grading denominator " → here ≡ denominator_line g ++ s → ((t : Text) → here ≡ word ++ t → ⊥) → (None ≡ g) × (here ≡ s)
no_denominator here None s word w e n = (refl, e)
no_denominator here (Some g) s word w e n = absurd (n (signed_decimal g ++ 10 ∷ s) (e ∙ denominator_split g s ∙ ap (λ (t : Text). t ++ (signed_decimal g ++ 10 ∷ s)) (sym w)))

-- and where one does they are, by a number that stands behind it
pub some_denominator : (here behind : Text) (g : Option ℤ) (s word : Text) → word ≡ codes "grading denominator " → ¬ First (λ b. b ≡ 103) s → here ≡ denominator_line g ++ s → here ≡ word ++ behind → (z : ℤ) × (g ≡ Some z) × (behind ≡ signed_decimal z ++ 10 ∷ s)
some_denominator here behind None s word w bare e h =
    let there : s ≡ codes "grading denominator " ++ behind = sym e ∙ h ∙ ap (λ (t : Text). t ++ behind) w in
    absurd (bare (subst (First (λ b. b ≡ 103)) (sym there) refl))
some_denominator here behind (Some z) s word w bare e h =
    let both = sym (h ∙ ap (λ (t : Text). t ++ behind) w) ∙ e ∙ denominator_split z s in
    (z, refl, append_cancel_left (codes "grading denominator ") behind (signed_decimal z ++ 10 ∷ s) both)
