-- A text is the text of one outcome.
use Rattle.std.proofs.Common.{◌≡◌, ℕ, ◌+◌, ◌^◌, ◌<◌, ◌≤◌, Bool, true, false, ℤ, cond, nat_eq, List, [], ◌∷◌, ◌++◌, length, get_or, map, refl, sym, ap, ap₂, subst, ◌∙◌, append_assoc, arith, codes, Some, None, Option, option_map, IfSome, eq-eqb, append-nil, FitsSigned}
use Rattle.std.specs.Int.{w128}
use Rattle.std.specs.List.{AllByRecursion as Each, flat_map}
use Rattle.std.specs.Fmt.{decimal, signed_decimal}
use Rattle.std.proofs.lemmas.List.{append_cancel_left, length-map}
use Rattle.nz_vec.specs.Texts.{Text}
use Rattle.nz_spec.specs.Vectors.{Vector}
use Rattle.nz_member.specs.declared.reply.Reply.TheVariants.{Parts, Outside}
use Rattle.nz_blocks.specs.Beginnings.{First, IsDigit, IsHeading, BeginsBlock}
use Rattle.nz_blocks.specs.Held.{IsHeldRow, IsHeldList, AreHeldRows, IsHeldAnswer, IsHeld}
use Rattle.nz_blocks.specs.Outcomes.{OutcomeData, IsOutcome, Asked, IsAsked, number}
use Rattle.nz_blocks.specs.AskedLines.{asked_line}
use Rattle.nz_blocks.specs.Output.{text_of, space_lines, denominator_line, head, level_word, block, block_if_some, simplices_block, asked_block, from_one, hilbert_heading, rays_heading, element_blocks, cone_blocks}
use Rattle.nz_blocks.specs.Sections.{headings, lists_of, sections}
use Rattle.nz_blocks.proofs.NumberTexts.{decimal_one, numeral, signed_one}
use Rattle.nz_blocks.proofs.RowTexts.{heading_one, heading_split, begins_one, block_if_some_one, block_begins}
use Rattle.nz_blocks.proofs.AnswerTexts.{IsPlace, IsPlain, asked_lines_one}

-- two texts differ before one of them ends
abbrev pub clash : Text → Text → Bool
clash [] k = false
clash (a ∷ h) [] = false
clash (a ∷ h) (b ∷ k) = cond (nat_eq a b) (clash h k) true

clash_apart : (h k s t : Text) → clash h k ≡ true → h ++ s ≡ k ++ t → ⊥
clash_apart [] k s t c e = absurd cc
clash_apart (a ∷ h) [] s t c e = absurd cc
clash_apart (a ∷ h) (b ∷ k) s t c e =
    let same : a ≡ b = cc (e) in
    let rest : h ++ s ≡ k ++ t = cc (e) in
    clash_apart h k s t (subst (λ (x : Bool). cond x (clash h k) true ≡ true) (eq-eqb a b same) c) rest

abbrev pub IsApart : Text → Text → Type 0
IsApart h k = (clash h k ≡ true) × IsHeading k

-- each heading is apart from all that come later
abbrev pub AreApart : List Text → Type 0
AreApart [] = Unit {0}
AreApart (h ∷ hs) = IsHeading h × Each (IsApart h) hs × AreApart hs

other_heading : (h k s : Text) → IsHeading h → IsApart h k → BeginsBlock h s → BeginsBlock k s → ⊥
other_heading h k s w a b c = clash_apart h k (10 ∷ b.rest) (10 ∷ c.rest) a.0 (begins_one h k s w a.1 b c)

pub not_other : (h k : Text) (rows : Option (List Vector)) (s : Text) → IsHeading h → IsApart h k → AreHeldRows rows → ¬ BeginsBlock h s → ¬ BeginsBlock h (block_if_some k rows ++ s)
not_other h k None s w a held n b = n b
not_other h k (Some rows) s w a held n b =
    other_heading h k (block k rows ++ s) w a b (block_begins k rows s held.count)

pub not_later : (h : Text) (hs : List Text) (xs : List (Option (List Vector))) (s : Text) → IsHeading h → Each (IsApart h) hs → Each AreHeldRows xs → ¬ BeginsBlock h s → ¬ BeginsBlock h (sections hs xs ++ s)
not_later h [] xs s w a held n b = n b
not_later h (k ∷ hs) [] s w a held n b = n b
not_later h (k ∷ hs) (x ∷ xs) s w a held n b =
    not_other h k x (sections hs xs ++ s) w a.0 held.0 (not_later h hs xs s w a.1 held.1 n) (subst (BeginsBlock h) (append_assoc (block_if_some k x) (sections hs xs) s) b)

sections_one : (hs : List Text) (xs ys : List (Option (List Vector))) (s t : Text) → AreApart hs → Each AreHeldRows xs → Each AreHeldRows ys → length xs ≡ length hs → length ys ≡ length hs → Each (λ h. ¬ BeginsBlock h s) hs → Each (λ h. ¬ BeginsBlock h t) hs →
    sections hs xs ++ s ≡ sections hs ys ++ t → (xs ≡ ys) × (s ≡ t)
sections_one [] [] [] s t a p q l m u v e = (refl, e)
sections_one [] (x ∷ xs) ys s t a p q l m u v e = absurd (omega (arith, l))
sections_one [] [] (y ∷ ys) s t a p q l m u v e = absurd (omega (arith, m))
sections_one (h ∷ hs) [] ys s t a p q l m u v e = absurd (omega (arith, l))
sections_one (h ∷ hs) (x ∷ xs) [] s t a p q l m u v e = absurd (omega (arith, m))
sections_one (h ∷ hs) (x ∷ xs) (y ∷ ys) s t a p q l m u v e =
    let left = append_assoc (block_if_some h x) (sections hs xs) s in
    let right = append_assoc (block_if_some h y) (sections hs ys) t in
    let c = block_if_some_one h x y (sections hs xs ++ s) (sections hs ys ++ t) a.0 p.0 q.0 (not_later h hs xs s a.0 a.1 p.1 u.0) (not_later h hs ys t a.0 a.1 q.1 v.0) (sym left ∙ e ∙ right) in
    let more = sections_one hs xs ys s t a.2 p.1 q.1 (omega (arith, l)) (omega (arith, m)) u.1 v.1 c.1 in
    (ap₂ (λ (z : Option (List Vector)) (zs : List (Option (List Vector))). z ∷ zs) c.0 more.0, more.1)

abbrev pub asked_heading : Text
asked_heading = codes " asked vectors:"

pub headings_apart : (level : Bool) → AreApart (headings level) × Each (λ h. IsHeading h × IsApart h asked_heading) (headings level)
headings_apart true = (
  (
    refl,
    ((refl, refl), ((refl, refl), ((refl, refl), ((refl, refl), ((refl, refl), ((refl, refl), ((refl, refl), ((refl, refl), tt)))))))),
    (
      refl,
      ((refl, refl), ((refl, refl), ((refl, refl), ((refl, refl), ((refl, refl), ((refl, refl), ((refl, refl), tt))))))),
      (
        refl,
        ((refl, refl), ((refl, refl), ((refl, refl), ((refl, refl), ((refl, refl), ((refl, refl), tt)))))),
        (
          refl,
          ((refl, refl), ((refl, refl), ((refl, refl), ((refl, refl), ((refl, refl), tt))))),
          (
            refl,
            ((refl, refl), ((refl, refl), ((refl, refl), ((refl, refl), tt)))),
            (
              refl,
              ((refl, refl), ((refl, refl), ((refl, refl), tt))),
              (
                refl,
                ((refl, refl), ((refl, refl), tt)),
                (
                  refl,
                  ((refl, refl), tt),
                  (
                    refl,
                    tt,
                    tt,
                  ),
                ),
              ),
            ),
          ),
        ),
      ),
    ),
  ),
  ((refl, (refl, refl)), ((refl, (refl, refl)), ((refl, (refl, refl)), ((refl, (refl, refl)), ((refl, (refl, refl)), ((refl, (refl, refl)), ((refl, (refl, refl)), ((refl, (refl, refl)), ((refl, (refl, refl)), tt))))))))),
)
headings_apart false = (
  (
    refl,
    ((refl, refl), ((refl, refl), ((refl, refl), ((refl, refl), ((refl, refl), ((refl, refl), ((refl, refl), ((refl, refl), tt)))))))),
    (
      refl,
      ((refl, refl), ((refl, refl), ((refl, refl), ((refl, refl), ((refl, refl), ((refl, refl), ((refl, refl), tt))))))),
      (
        refl,
        ((refl, refl), ((refl, refl), ((refl, refl), ((refl, refl), ((refl, refl), ((refl, refl), tt)))))),
        (
          refl,
          ((refl, refl), ((refl, refl), ((refl, refl), ((refl, refl), ((refl, refl), tt))))),
          (
            refl,
            ((refl, refl), ((refl, refl), ((refl, refl), ((refl, refl), tt)))),
            (
              refl,
              ((refl, refl), ((refl, refl), ((refl, refl), tt))),
              (
                refl,
                ((refl, refl), ((refl, refl), tt)),
                (
                  refl,
                  ((refl, refl), tt),
                  (
                    refl,
                    tt,
                    tt,
                  ),
                ),
              ),
            ),
          ),
        ),
      ),
    ),
  ),
  ((refl, (refl, refl)), ((refl, (refl, refl)), ((refl, (refl, refl)), ((refl, (refl, refl)), ((refl, (refl, refl)), ((refl, (refl, refl)), ((refl, (refl, refl)), ((refl, (refl, refl)), ((refl, (refl, refl)), tt))))))))),
)

asked_begins : (level : Bool) (xs : List Asked) → length xs < 2 ^ 64 → BeginsBlock asked_heading (asked_block level (Some xs))
asked_begins level xs l = record {
  digits = decimal (length xs);
  rest = flat_map (asked_line level) xs;
  are = (numeral (length xs) (omega (arith, l))).digits;
  is = heading_split (length xs) asked_heading (flat_map (asked_line level) xs);
}

pub none_begins : (level : Bool) (hs : List Text) (xs : Option (List Asked)) → Each (λ h. IsHeading h × IsApart h asked_heading) hs → IfSome xs (IsHeldList IsHeldAnswer) → Each (λ h. ¬ BeginsBlock h (asked_block level xs)) hs
none_begins level [] xs a held = tt
none_begins level (h ∷ hs) None a held = ((λ b. absurd (nothing b.is)), none_begins level hs None a.1 held)
  where
    nothing : {s : Text} → [] ≡ 10 ∷ s → ⊥
    nothing e = absurd cc
none_begins level (h ∷ hs) (Some xs) a held =
    ((λ b. other_heading h asked_heading (asked_block level (Some xs)) a.0.0 a.0.1 b (asked_begins level xs held.count)), none_begins level hs (Some xs) a.1 held)

asked_block_one : (level : Bool) (n : ℕ) (xs ys : Option (List Asked)) → n < 2 ^ 64 → IfSome xs (Each (λ a. IsPlain n a.1)) → IfSome ys (Each (λ a. IsPlain n a.1)) → IfSome xs (IsHeldList IsHeldAnswer) → IfSome ys (IsHeldList IsHeldAnswer) → asked_block level xs ≡ asked_block level ys → xs ≡ ys
asked_block_one level n None None few p q h k e = refl
asked_block_one level n None (Some ys) few p q h k e = absurd cc
asked_block_one level n (Some xs) None few p q h k e = absurd cc
asked_block_one level n (Some xs) (Some ys) few p q h k e =
    let c = heading_one (length xs) (length ys) asked_heading asked_heading (flat_map (asked_line level) xs) (flat_map (asked_line level) ys) h.count k.count refl refl e in
    let cut : 10 ∷ flat_map (asked_line level) xs ≡ 10 ∷ flat_map (asked_line level) ys = append_cancel_left asked_heading (10 ∷ flat_map (asked_line level) xs) (10 ∷ flat_map (asked_line level) ys) c.1 in
    let lines : flat_map (asked_line level) xs ≡ flat_map (asked_line level) ys = cc (cut) in
    ap (λ (x : List Asked). Some x) (asked_lines_one level n xs ys [] [] few p q h.each k.each c.0 (ap (λ (x : Text). x ++ []) lines)).0

regrouped : (hd m h d v r s e g i a : Text) → hd ++ (m ++ (h ++ d)) ++ ((v ++ r) ++ (s ++ e)) ++ (g ++ i) ++ a ≡ hd ++ ((m ++ (h ++ (d ++ (v ++ (r ++ (s ++ (e ++ (g ++ (i ++ []))))))))) ++ a)
regrouped hd m h d v r s e g i a = simp (append_assoc, append-nil)

simplices_same : (xs : Option (List (List ℕ))) → simplices_block xs ≡ block_if_some (codes " simplices:") (option_map (map from_one) xs)
simplices_same None = refl
simplices_same (Some xs) = refl

pub text_sections : (o : OutcomeData) → text_of o ≡ head o.amb o.level o.denominator ++ (sections (headings o.level) (lists_of o) ++ asked_block o.level o.asked)
text_sections o =
    ap (λ (i : Text). head o.amb o.level o.denominator ++ element_blocks o ++ cone_blocks o ++ (block_if_some (codes " extreme generators:") o.generators ++ i) ++ asked_block o.level o.asked) (simplices_same o.simplices)
    ∙ regrouped (head o.amb o.level o.denominator) (block_if_some (codes " module generators:") o.modules) (block_if_some (hilbert_heading o.level) o.hilbert) (block_if_some (codes " degree 1 elements:") o.degree_one)
    (block_if_some (codes " vertices of polyhedron:") o.vertices) (block_if_some (rays_heading o.level) o.rays) (block_if_some (codes " support hyperplanes:") o.support) (block_if_some (codes " equations:") o.equations)
    (block_if_some (codes " extreme generators:") o.generators) (block_if_some (codes " simplices:") (option_map (map from_one) o.simplices)) (asked_block o.level o.asked)

pub space_split : (amb : ℕ) (level : Bool) (s : Text) → space_lines amb level ++ s ≡ codes "amb_space " ++ (decimal amb ++ 10 ∷ (level_word level ++ 10 ∷ s))
space_split amb level s =
    append_assoc (codes "amb_space " ++ decimal amb ++ codes "\n") (level_word level ++ 10 ∷ []) s
    ∙ append_assoc (codes "amb_space " ++ decimal amb) (10 ∷ []) ((level_word level ++ 10 ∷ []) ++ s)
    ∙ append_assoc (codes "amb_space ") (decimal amb) (10 ∷ ((level_word level ++ 10 ∷ []) ++ s))
    ∙ ap (λ (z : Text). codes "amb_space " ++ (decimal amb ++ 10 ∷ z)) (append_assoc (level_word level) (10 ∷ []) s)

level_one : (l k : Bool) (s t : Text) → level_word l ++ 10 ∷ s ≡ level_word k ++ 10 ∷ t → (l ≡ k) × (s ≡ t)
level_one true true s t e = (let cut : 10 ∷ s ≡ 10 ∷ t = append_cancel_left (level_word true) (10 ∷ s) (10 ∷ t) e in let rest : s ≡ t = cc (cut) in (refl, rest))
level_one false false s t e = (let cut : 10 ∷ s ≡ 10 ∷ t = append_cancel_left (level_word false) (10 ∷ s) (10 ∷ t) e in let rest : s ≡ t = cc (cut) in (refl, rest))
level_one true false s t e = (let b : 105 ≡ 104 = ap (λ (z : Text). get_or z 0 0) e in absurd (omega (arith, b)))
level_one false true s t e = (let b : 104 ≡ 105 = ap (λ (z : Text). get_or z 0 0) e in absurd (omega (arith, b)))

space_one : (m n : ℕ) (l k : Bool) (s t : Text) → m ≤ 64 → n ≤ 64 → space_lines m l ++ s ≡ space_lines n k ++ t → (m ≡ n) × (l ≡ k) × (s ≡ t)
space_one m n l k s t p q e =
    let both = sym (space_split m l s) ∙ e ∙ space_split n k t in
    let front = append_cancel_left (codes "amb_space ") (decimal m ++ 10 ∷ (level_word l ++ 10 ∷ s)) (decimal n ++ 10 ∷ (level_word k ++ 10 ∷ t)) both in
    let c = decimal_one m n (10 ∷ (level_word l ++ 10 ∷ s)) (10 ∷ (level_word k ++ 10 ∷ t)) (omega (arith, p)) (omega (arith, q)) (bare (level_word l ++ 10 ∷ s)) (bare (level_word k ++ 10 ∷ t)) front in
    let rest : level_word l ++ 10 ∷ s ≡ level_word k ++ 10 ∷ t = cc (c.1) in
    let d = level_one l k s t rest in
    (c.0, d.0, d.1)
  where
    bare : (x : Text) → ¬ First IsDigit (10 ∷ x)
    bare x d = absurd (omega (arith, d.0))

-- ---- the third line

-- a text whose first byte is that of the third line
abbrev pub IsGrading : Text → Type 0
IsGrading s = First (λ b. b ≡ 103) s

newline_other : ◌≡◌ {A = ℕ} 10 103 → ⊥
newline_other e = absurd (omega (arith, e))

sections_bare : (hs : List Text) (xs : List (Option (List Vector))) (s : Text) → ¬ IsGrading s → ¬ IsGrading (sections hs xs ++ s)
sections_bare [] xs s n f = n f
sections_bare (h ∷ hs) [] s n f = n f
sections_bare (h ∷ hs) (None ∷ xs) s n f = sections_bare hs xs s n f
sections_bare (h ∷ hs) (Some rows ∷ xs) s n f = newline_other f

asked_bare : (level : Bool) (xs : Option (List Asked)) → ¬ IsGrading (asked_block level xs)
asked_bare level None f = f
asked_bare level (Some xs) f = newline_other f

-- behind the lines above the blocks none begins like the third
pub blocks_bare : (o : OutcomeData) → ¬ IsGrading (sections (headings o.level) (lists_of o) ++ asked_block o.level o.asked)
blocks_bare o = sections_bare (headings o.level) (lists_of o) (asked_block o.level o.asked) (asked_bare o.level o.asked)

pub denominator_split : (g : ℤ) (s : Text) → denominator_line (Some g) ++ s ≡ codes "grading denominator " ++ (signed_decimal g ++ 10 ∷ s)
denominator_split g s = append_assoc (codes "grading denominator " ++ signed_decimal g) (10 ∷ []) s ∙ append_assoc (codes "grading denominator ") (signed_decimal g) (10 ∷ s)

denominator_one : (g h : Option ℤ) (s t : Text) → IfSome g (FitsSigned w128) → IfSome h (FitsSigned w128) → ¬ IsGrading s → ¬ IsGrading t → denominator_line g ++ s ≡ denominator_line h ++ t → (g ≡ h) × (s ≡ t)
denominator_one None None s t p q u v e = (refl, e)
denominator_one None (Some h) s t p q u v e = absurd (u (subst IsGrading (sym e) refl))
denominator_one (Some g) None s t p q u v e = absurd (v (subst IsGrading e refl))
denominator_one (Some g) (Some h) s t p q u v e =
    let both = sym (denominator_split g s) ∙ e ∙ denominator_split h t in
    let front = append_cancel_left (codes "grading denominator ") (signed_decimal g ++ 10 ∷ s) (signed_decimal h ++ 10 ∷ t) both in
    let c = signed_one g h (10 ∷ s) (10 ∷ t) p q (bare s) (bare t) front in
    let rest : s ≡ t = cc (c.1) in
    (ap (λ (z : ℤ). Some z) c.0, rest)
  where
    bare : (x : Text) → ¬ First IsDigit (10 ∷ x)
    bare x d = absurd (omega (arith, d.0))

head_one : (m n : ℕ) (l k : Bool) (g h : Option ℤ) (s t : Text) → m ≤ 64 → n ≤ 64 → IfSome g (FitsSigned w128) → IfSome h (FitsSigned w128) → ¬ IsGrading s → ¬ IsGrading t → head m l g ++ s ≡ head n k h ++ t → (m ≡ n) × (l ≡ k) × (g ≡ h) × (s ≡ t)
head_one m n l k g h s t p q f d u v e =
    let left = append_assoc (space_lines m l) (denominator_line g) s in
    let right = append_assoc (space_lines n k) (denominator_line h) t in
    let c = space_one m n l k (denominator_line g ++ s) (denominator_line h ++ t) p q (sym left ∙ e ∙ right) in
    let r = denominator_one g h s t f d u v c.2 in
    (c.0, c.1, r.0, r.1)

pub few_rows : (rows : Option (List Vector)) → AreHeldRows rows → number rows < 2 ^ 64
few_rows None h = omega arith
few_rows (Some rows) h = h.count

place_below : (n : ℕ) (place : Option ℕ) → n < 2 ^ 64 → IfSome place (λ p. p < n) → IsPlace place
place_below n None few h = tt
place_below n (Some p) few h = omega (arith, few, h)

plain : (o : OutcomeData) (a : Asked) → number o.modules < 2 ^ 64 → IsAsked o a → IsPlain (number o.hilbert) a.1
plain o (x, Parts place counts) few h = (h.answer.size, h.answer.not_negative, place_below (number o.modules) place few h.answer.below)
plain o (x, Outside c) few h = tt

all_plain : (o : OutcomeData) (xs : List Asked) → number o.modules < 2 ^ 64 → Each (IsAsked o) xs → Each (λ a. IsPlain (number o.hilbert) a.1) xs
all_plain o [] few h = tt
all_plain o (x ∷ xs) few h = (plain o x few h.0, all_plain o xs few h.1)

pub asked_plain : (o : OutcomeData) (xs : Option (List Asked)) → number o.modules < 2 ^ 64 → IfSome xs (Each (IsAsked o)) → IfSome xs (Each (λ a. IsPlain (number o.hilbert) a.1))
asked_plain o None few h = tt
asked_plain o (Some xs) few h = all_plain o xs few h

held_places : (n : ℕ) (places : List ℕ) → n < 2 ^ 64 → Each (λ p. p < n) places → IsHeldRow (from_one places)
held_places n [] few h = tt
held_places n (p ∷ places) few h = (let low : p < n = h.0 in record { sfits = omega arith }, held_places n places few h.1)

each_held : (n : ℕ) (lists : List (List ℕ)) → n < 2 ^ 64 → Each (Each (λ p. p < n)) lists → Each IsHeldRow (map from_one lists)
each_held n [] few h = tt
each_held n (places ∷ lists) few h = (held_places n places few h.0, each_held n lists few h.1)

pub held_simplices : (n : ℕ) (lists : Option (List (List ℕ))) → n < 2 ^ 64 → IfSome lists (Each (Each (λ p. p < n))) → IfSome lists (IsHeldList (λ places. Unit {0})) → AreHeldRows (option_map (map from_one) lists)
held_simplices n None few h k = tt
held_simplices n (Some lists) few h k = record { count = subst (λ (m : ℕ). m < 2 ^ 64) (sym (length-map lists from_one)) k.count; each = each_held n lists few h }

pub held_lists : (o : OutcomeData) → IsOutcome o → IsHeld o → Each AreHeldRows (lists_of o)
held_lists o is held =
    (held.modules, (held.hilbert, (held.degree_one, (held.vertices, (held.rays, (held.support, (held.equations, (held.generators, (held_simplices (number o.generators) o.simplices (few_rows o.generators held.generators) is.simplices held.simplices, tt)))))))))

from_one_same : (ps qs : List ℕ) → from_one ps ≡ from_one qs → ps ≡ qs
from_one_same [] [] e = refl
from_one_same [] (q ∷ qs) e = absurd cc
from_one_same (p ∷ ps) [] e = absurd cc
from_one_same (p ∷ ps) (q ∷ qs) e =
    let first : p + 1 ≡ q + 1 = cc (e) in
    let same : p ≡ q = omega (arith, first) in
    let rest : from_one ps ≡ from_one qs = cc (e) in
    ap₂ (λ (x : ℕ) (y : List ℕ). x ∷ y) same (from_one_same ps qs rest)

lists_same : (ps qs : List (List ℕ)) → map from_one ps ≡ map from_one qs → ps ≡ qs
lists_same [] [] e = refl
lists_same [] (q ∷ qs) e = absurd cc
lists_same (p ∷ ps) [] e = absurd cc
lists_same (p ∷ ps) (q ∷ qs) e =
    let first : from_one p ≡ from_one q = cc (e) in
    let rest : map from_one ps ≡ map from_one qs = cc (e) in
    ap₂ (λ (x : List ℕ) (y : List (List ℕ)). x ∷ y) (from_one_same p q first) (lists_same ps qs rest)

pub simplices_one : (xs ys : Option (List (List ℕ))) → option_map (map from_one) xs ≡ option_map (map from_one) ys → xs ≡ ys
simplices_one None None e = refl
simplices_one None (Some ys) e = absurd cc
simplices_one (Some xs) None e = absurd cc
simplices_one (Some xs) (Some ys) e = (let same : map from_one xs ≡ map from_one ys = cc (e) in ap (λ (x : List (List ℕ)). Some x) (lists_same xs ys same))

abbrev made : ℕ → Bool → Option ℤ → Option (List Vector) → Option (List Vector) → Option (List Vector) → Option (List Vector) → Option (List Vector) → Option (List Vector) → Option (List Vector) → Option (List Vector) → Option (List (List ℕ)) → Option (List Asked) → OutcomeData
made a b n c d e f g h i j k l = record { amb = a; level = b; denominator = n; modules = c; hilbert = d; degree_one = e; vertices = f; rays = g; support = h; equations = i; generators = j; simplices = k; asked = l }

-- outcomes are one where all their fields are
pub same_fields : (o p : OutcomeData) → o.amb ≡ p.amb → o.level ≡ p.level → o.denominator ≡ p.denominator → o.modules ≡ p.modules → o.hilbert ≡ p.hilbert → o.degree_one ≡ p.degree_one → o.vertices ≡ p.vertices → o.rays ≡ p.rays → o.support ≡ p.support → o.equations ≡ p.equations → o.generators ≡ p.generators → o.simplices ≡ p.simplices → o.asked ≡ p.asked → o ≡ p
same_fields o p e0 e1 en e2 e3 e4 e5 e6 e7 e8 e9 e10 e11 =
    ap (λ (x : ℕ). made x o.level o.denominator o.modules o.hilbert o.degree_one o.vertices o.rays o.support o.equations o.generators o.simplices o.asked) e0
    ∙ ap (λ (x : Bool). made p.amb x o.denominator o.modules o.hilbert o.degree_one o.vertices o.rays o.support o.equations o.generators o.simplices o.asked) e1
    ∙ ap (λ (x : Option ℤ). made p.amb p.level x o.modules o.hilbert o.degree_one o.vertices o.rays o.support o.equations o.generators o.simplices o.asked) en
    ∙ ap (λ (x : Option (List Vector)). made p.amb p.level p.denominator x o.hilbert o.degree_one o.vertices o.rays o.support o.equations o.generators o.simplices o.asked) e2
    ∙ ap (λ (x : Option (List Vector)). made p.amb p.level p.denominator p.modules x o.degree_one o.vertices o.rays o.support o.equations o.generators o.simplices o.asked) e3
    ∙ ap (λ (x : Option (List Vector)). made p.amb p.level p.denominator p.modules p.hilbert x o.vertices o.rays o.support o.equations o.generators o.simplices o.asked) e4
    ∙ ap (λ (x : Option (List Vector)). made p.amb p.level p.denominator p.modules p.hilbert p.degree_one x o.rays o.support o.equations o.generators o.simplices o.asked) e5
    ∙ ap (λ (x : Option (List Vector)). made p.amb p.level p.denominator p.modules p.hilbert p.degree_one p.vertices x o.support o.equations o.generators o.simplices o.asked) e6
    ∙ ap (λ (x : Option (List Vector)). made p.amb p.level p.denominator p.modules p.hilbert p.degree_one p.vertices p.rays x o.equations o.generators o.simplices o.asked) e7
    ∙ ap (λ (x : Option (List Vector)). made p.amb p.level p.denominator p.modules p.hilbert p.degree_one p.vertices p.rays p.support x o.generators o.simplices o.asked) e8
    ∙ ap (λ (x : Option (List Vector)). made p.amb p.level p.denominator p.modules p.hilbert p.degree_one p.vertices p.rays p.support p.equations x o.simplices o.asked) e9
    ∙ ap (λ (x : Option (List (List ℕ))). made p.amb p.level p.denominator p.modules p.hilbert p.degree_one p.vertices p.rays p.support p.equations p.generators x o.asked) e10
    ∙ ap (λ (x : Option (List Asked)). made p.amb p.level p.denominator p.modules p.hilbert p.degree_one p.vertices p.rays p.support p.equations p.generators p.simplices x) e11

pub one_outcome : (o p : OutcomeData) → IsOutcome o → IsOutcome p → IsHeld o → IsHeld p → text_of o ≡ text_of p → o ≡ p
one_outcome o p io ip ho hp e =
    let left = sections (headings o.level) (lists_of o) ++ asked_block o.level o.asked in
    let right = sections (headings p.level) (lists_of p) ++ asked_block p.level p.asked in
    let top = head_one o.amb p.amb o.level p.level o.denominator p.denominator left right io.at_most ip.at_most ho.denominator hp.denominator (blocks_bare o) (blocks_bare p) (sym (text_sections o) ∙ e ∙ text_sections p) in
    let level : o.level ≡ p.level = top.1 in
    let body = subst (λ (k : Bool). sections (headings o.level) (lists_of o) ++ asked_block o.level o.asked ≡ sections (headings k) (lists_of p) ++ asked_block k p.asked) (sym level) top.3 in
    let apart = headings_apart o.level in
    let c = sections_one (headings o.level) (lists_of o) (lists_of p) (asked_block o.level o.asked) (asked_block o.level p.asked) apart.0 (held_lists o io ho) (held_lists p ip hp) refl refl
    (none_begins o.level (headings o.level) o.asked apart.1 ho.asked) (none_begins o.level (headings o.level) p.asked apart.1 hp.asked) body in
    let lists : lists_of o ≡ lists_of p = c.0 in
    let modules : o.modules ≡ p.modules = cc (lists) in
    let hilbert : o.hilbert ≡ p.hilbert = cc (lists) in
    let degree_one : o.degree_one ≡ p.degree_one = cc (lists) in
    let vertices : o.vertices ≡ p.vertices = cc (lists) in
    let rays : o.rays ≡ p.rays = cc (lists) in
    let support : o.support ≡ p.support = cc (lists) in
    let equations : o.equations ≡ p.equations = cc (lists) in
    let generators : o.generators ≡ p.generators = cc (lists) in
    let rows : option_map (map from_one) o.simplices ≡ option_map (map from_one) p.simplices = cc (lists) in
    let plain_p = subst (λ (r : Option (List Vector)). IfSome p.asked (Each (λ a. IsPlain (number r) a.1))) (sym hilbert) (asked_plain p p.asked (few_rows p.modules hp.modules) ip.asked) in
    let asked = asked_block_one o.level (number o.hilbert) o.asked p.asked (few_rows o.hilbert ho.hilbert) (asked_plain o o.asked (few_rows o.modules ho.modules) io.asked) plain_p ho.asked hp.asked c.1 in
    same_fields o p top.0 level top.2 modules hilbert degree_one vertices rays support equations generators (simplices_one o.simplices p.simplices rows) asked
