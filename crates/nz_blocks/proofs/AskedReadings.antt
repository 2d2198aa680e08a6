-- Reading asked lines.
use Rattle.std.proofs.Common.{◌≡◌, ℕ, ◌+◌, ◌<◌, ◌^◌, ◌≤ℤ◌, ℤ, pos, Bool, List, Option, Some, None, [], ◌∷◌, ◌++◌, length, get_or, refl, sym, ap, ap₂, subst, ◌∙◌, arith, codes, FitsSigned, IfSome}
use Rattle.std.specs.Int.{w128}
use Rattle.std.specs.List.{AllByRecursion as Each, flat_map}
use Rattle.nz_vec.specs.Texts.{Text}
use Rattle.nz_vec.specs.Conditions.{condition_of}
use Rattle.nz_vec.specs.declared.constraints.Constraint.{Constraint}
use Rattle.nz_spec.specs.Vectors.{Vector, dot}
use Rattle.nz_spec.specs.Constraints.{form_of}
use Rattle.nz_member.specs.declared.reply.Reply.{Reply}
use Rattle.nz_member.specs.declared.reply.Reply.TheVariants.{Parts, Outside}
use Rattle.nz_blocks.specs.Beginnings.{IsHeading, BeginsBlock}
use Rattle.nz_blocks.specs.Held.{IsHeldReply, IsHeldCondition, IsHeldList}
use Rattle.nz_blocks.specs.Outcomes.{Asked, at_level}
use Rattle.nz_blocks.specs.Columns.{cells, spaced}
use Rattle.nz_blocks.specs.AskedLines.{count_words, module_word, outside_text, reply_text, asked_line}
use Rattle.nz_blocks.specs.Output.{heading_lines, asked_block}
use Rattle.nz_blocks.specs.Readings.{IsShown, IsReadable}
use Rattle.nz_blocks.proofs.RowTexts.{entries_cells}
use Rattle.nz_blocks.proofs.RowReadings.{behind_same}
use Rattle.nz_blocks.proofs.AnswerTexts.{parts_split, asked_split}

-- the reply is these parts, and stands there
pub record HasParts (n : ℕ) (r : Reply ℤ) (here s : Text) : Type 0 where
  pub place : Option ℕ
  pub counts : Vector
  pub size : length counts ≡ n
  pub held : Each (FitsSigned w128) counts
  pub not_negative : Each (λ c. pos 0 ≤ℤ c) counts
  pub few : IfSome place (λ p. p + 1 < 2 ^ 64)
  pub named : Parts place counts ≡ r
  pub is : here ≡ count_words 1 counts ++ (module_word place ++ 10 ∷ s)

pub in_parts : (here word next : Text) (n : ℕ) (x : Vector) (r : Reply ℤ) (s : Text) → IsHeldReply r → IsShown n x r → word ≡ codes " in" → here ≡ reply_text x r ++ 10 ∷ s → here ≡ word ++ next → HasParts n r next s
in_parts here word next n x (Parts m cs) s held shown l e h = record {
  place = m;
  counts = cs;
  size = shown.0;
  held = held.each;
  not_negative = shown.1;
  few = shown.2;
  named = refl;
  is = behind_same here word next (count_words 1 cs ++ (module_word m ++ 10 ∷ s)) h (e ∙ parts_split x m cs s ∙ ap (λ (t : Text). t ++ (count_words 1 cs ++ (module_word m ++ 10 ∷ s))) (sym l));
}
in_parts here word next n x (Outside c) s held shown l e h = (let b : 111 ≡ 105 = ap (λ (z : Text). get_or z 1 0) (sym e ∙ h ∙ ap (λ (t : Text). t ++ next) l) in absurd (omega (arith, b)))

-- the reply is this constraint, and stands there
pub record HasOutside (x : Vector) (r : Reply ℤ) (here s : Text) : Type 0 where
  pub constraint : Constraint ℤ
  pub held : IsHeldCondition (condition_of (λ z. z) constraint)
  pub fits : FitsSigned w128 (dot (form_of (condition_of (λ z. z) constraint)) x)
  pub named : Outside constraint ≡ r
  pub is : here ≡ outside_text x (condition_of (λ z. z) constraint) ++ 10 ∷ s

pub in_outside : (here word : Text) (n : ℕ) (x : Vector) (r : Reply ℤ) (s : Text) → IsHeldReply r → IsShown n x r → word ≡ codes " in" → here ≡ reply_text x r ++ 10 ∷ s → ((t : Text) → here ≡ word ++ t → ⊥) → HasOutside x r here s
in_outside here word n x (Outside c) s held shown l e h = record { constraint = c; held = held; fits = shown; named = refl; is = e }
in_outside here word n x (Parts m cs) s held shown l e h =
    absurd (h (count_words 1 cs ++ (module_word m ++ 10 ∷ s)) (e ∙ parts_split x m cs s ∙ ap (λ (t : Text). t ++ (count_words 1 cs ++ (module_word m ++ 10 ∷ s))) (sym l)))

-- what stands behind the vector of a line
abbrev pub behind_vector : Bool → Asked → Text → Text
behind_vector level a s = reply_text (at_level level a.0) a.1 ++ 10 ∷ s

pub line_start : (here : Text) (level : Bool) (a : Asked) (s : Text) → here ≡ asked_line level a ++ s → here ≡ spaced (cells (λ i. 0) 0 a.0) ++ 58 ∷ behind_vector level a s
line_start here level a s e = e ∙ asked_split level a.0 a.1 s ∙ ap (λ (t : Text). t ++ 58 ∷ behind_vector level a s) (entries_cells a.0)

pub both_are : (v : Vector) (r : Reply ℤ) (a : Asked) → v ≡ a.0 → r ≡ a.1 → (v, r) ≡ a
both_are v r (x, q) e f = ap₂ (λ (y : Vector) (z : Reply ℤ). (y, z)) e f

-- where no heading stands there, there is no list
pub no_asked : (heading here : Text) (n : ℕ) (level : Bool) (xs : Option (List Asked)) → heading ≡ codes " asked vectors:" → IfSome xs (IsHeldList (IsReadable n level)) → here ≡ asked_block level xs →
    ((k : ℕ) (s : Text) → k < 2 ^ 64 → IsHeading heading → here ≡ heading_lines k heading ++ s → ⊥) → None ≡ xs
no_asked heading here n level None l held e h = refl
no_asked heading here n level (Some xs) l held e h =
    absurd (h (length xs) (flat_map (asked_line level) xs) held.count (subst IsHeading (sym l) refl) (e ∙ ap (λ (t : Text). heading_lines (length xs) t ++ flat_map (asked_line level) xs) (sym l)))

-- the list is this one, and stands there
pub record HasAsked (heading here : Text) (n : ℕ) (level : Bool) (xs : Option (List Asked)) : Type 0 where
  pub list : List Asked
  pub held : IsHeldList (IsReadable n level) list
  pub headed : IsHeading heading
  pub named : Some list ≡ xs
  pub is : here ≡ heading_lines (length list) heading ++ flat_map (asked_line level) list

pub has_asked : (heading here : Text) (n : ℕ) (level : Bool) (xs : Option (List Asked)) → heading ≡ codes " asked vectors:" → IfSome xs (IsHeldList (IsReadable n level)) → here ≡ asked_block level xs → (¬ BeginsBlock heading here → ⊥) → HasAsked heading here n level xs
has_asked heading here n level None l held e h = absurd (h (λ b. nothing (sym e ∙ b.is)))
  where
    nothing : {s : Text} → [] ≡ 10 ∷ s → ⊥
    nothing e = absurd cc
has_asked heading here n level (Some xs) l held e h = record {
  list = xs;
  held = held;
  headed = subst IsHeading (sym l) refl;
  named = refl;
  is = e ∙ ap (λ (t : Text). heading_lines (length xs) t ++ flat_map (asked_line level) xs) (sym l);
}
