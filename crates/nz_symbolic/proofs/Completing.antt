-- Each place of a file that can be reached can be finished to a file, by what is missing there.
use Rattle.std.proofs.Common.{◌≡◌, ℕ, zero, suc, ◌+◌, ◌*◌, ◌-◌, nat_le, ◌/◌, ◌%◌, ◌^◌, ◌<◌, ◌≤◌, Bool, true, false, List, [], ◌∷◌, ◌++◌, length, refl, sym, ap, subst, ◌∙◌, arith, inl, inr, ◌⊎◌}
use Rattle.std.specs.Prelude.{◌==◌, if◌then◌else◌, codes, pos}
use Rattle.std.specs.List.{AllByRecursion}
use Rattle.std.specs.Fmt.{decimal}
use Rattle.std.proofs.lemmas.Bool.Decides.{eqb_tells, nat_tests}
use Rattle.std.proofs.lemmas.Fmt.{decimal_by_steps}
use Rattle.nz_vec.specs.Texts.{Text}
use Rattle.nz_input.specs.declared.symbol.Symbol.{Symbol}
use Rattle.nz_input.specs.declared.symbol.Symbol.TheVariants as symbol
use Rattle.nz_input.specs.Words.{columns}
use Rattle.nz_input.specs.Sit as input
use Rattle.nz_input.specs.Sit.{AtFirst, AtDimension, AtEntry, AtCount, AtNumber, at_rows}
use Rattle.nz_input.specs.Symbols.{IsDigit, IsNumeral, Spells as SpellsPlain}
use Rattle.nz_input.specs.Endings.{plain, IsMissing as IsPlainMissing}
use Rattle.nz_input.specs.Layouts.{Separator, Gap, Break}
use Rattle.nz_input.proofs.Completing.{plain-dimension, plain-count, plain-number}
use Rattle.nz_input.proofs.Digits.{value-append}
use Rattle.nz_input.proofs.Each.{all-both}
use Rattle.nz_symbolic.specs.declared.symbol.Token.{Token}
use Rattle.nz_symbolic.specs.declared.symbol.Token.TheVariants as token
use Rattle.nz_symbolic.specs.declared.symbol.Relation.TheVariants.{Equal}
use Rattle.nz_symbolic.specs.declared.symbol.Role.{Role}
use Rattle.nz_symbolic.specs.declared.symbol.Role.TheVariants as role
use Rattle.nz_symbolic.specs.declared.symbol.OldType.TheVariants as old
use Rattle.nz_symbolic.specs.declared.symbol.Slot.{Slot}
use Rattle.nz_symbolic.specs.declared.point.Side.{Side}
use Rattle.nz_symbolic.specs.declared.point.Side.TheVariants.{Left, Right}
use Rattle.nz_symbolic.specs.declared.point.Point.{Point}
use Rattle.nz_symbolic.specs.declared.point.Point.TheVariants.{AtSum, AtTerm, AfterLiteral, AfterStar, AfterVariable, AfterOpen, AfterIndex, AfterTerm, AfterParen, AfterModulus, AfterClose}
use Rattle.nz_symbolic.specs.Symbols.{SpellsToken, slot, allows_cone}
use Rattle.nz_symbolic.specs.Texts.{behind_token, behind}
use Rattle.nz_symbolic.specs.Endings.{IsMissing, IsMissingAt, token_text, lead}
use Rattle.nz_symbolic.specs.Sit.{Sit, AtOpening, InPlain, AtConstraints, AtName, InLine, AtFurther, AtColumns, AtFigure, AtType, wants, MayFollow, MayStand, MayToken, May, next, next_token, at_lines, at_figures, behind_point, IsColumnCount, IsTypeFor, IsFinal}
use Rattle.nz_symbolic.specs.Left.{IsLive}
use Rattle.nz_symbolic.proofs.Accepting.{Steps}
use Rattle.nz_symbolic.proofs.Leaving.{AreSpelled}

-- ---- what is missing has a spelling

one-digit : (n : ℕ) → n < 10 → IsNumeral ((48 + n) ∷ []) n
one-digit n h = ((λ e. cc), ((omega arith, omega arith), tt), omega arith)

digit-more : (n : ℕ) (ds : List ℕ) → 10 ≤ n → IsNumeral ds (n / 10) → IsNumeral (ds ++ ((48 + n % 10) ∷ [])) n
digit-more n [] h d = absurd (d.0 refl)
digit-more n (b ∷ ds) h d = ((λ e. cc), all-both IsDigit (b ∷ ds) ((48 + n % 10) ∷ []) d.1 ((omega arith, omega arith), tt), value-append 0 (b ∷ ds) ((48 + n % 10) ∷ []) ∙ rw (d.2) (omega arith))

pub decimal-numeral : (n : ℕ) → n < 2 ^ 64 → IsNumeral (decimal n) n
decimal-numeral n h = decimal_by_steps (λ m ds. IsNumeral ds m) one-digit digit-more n h

missing-plain : (s : Symbol) → IsPlainMissing s → SpellsPlain s (plain s)
missing-plain symbol.Amb h = refl
missing-plain (symbol.Dimension d) h = rw h plain-dimension
missing-plain (symbol.Begin w) h = absurd h
missing-plain (symbol.Count n) h = rw h plain-count
missing-plain (symbol.Number z) h = rw h plain-number

-- a column count is not large
abbrev IsSmall : Token → Type 0
IsSmall (token.ColumnCount c) = c < 2 ^ 64
IsSmall t = Unit {0}

no-columns : (d later : ℕ) (side : Side) (n : ℕ) (point : Point) (c : ℕ) → MayStand d later side n point (token.ColumnCount c) → ⊥
no-columns d later Left n AtSum c h = h
no-columns d later Left n point c h = h
no-columns d later (Right false) n AtSum c h = h
no-columns d later (Right false) n point c h = h
no-columns d later (Right true) n AtSum c h = h
no-columns d later (Right true) n point c h = h

columns-small : (fixed c : ℕ) → fixed ≤ 64 → IsColumnCount fixed c → c ≤ 65
columns-small zero c le h = h.1
columns-small (suc d) c le (inl e) = omega (arith, e, le)
columns-small (suc d) c le (inr e) = omega (arith, e, le)

small-columns : (q : Sit) (c : ℕ) → IsLive q → MayToken q (token.ColumnCount c) → c < 2 ^ 64
small-columns (AtColumns fixed n) c live h = omega (arith, columns-small fixed c live h)
small-columns (InLine d later side n point) c live h = absurd (no-columns d later side n point c h)
small-columns q c live h = absurd h

small-token : (q : Sit) (t : Token) → IsLive q → MayToken q t → IsSmall t
small-token q (token.ColumnCount c) live h = small-columns q c live h
small-token q t live h = tt

text-of-missing : (r : Role) (t : Token) → IsMissingAt r t → IsSmall t → SpellsToken t (token_text t)
text-of-missing r (token.Plain s) h small = missing-plain s h
text-of-missing r token.Constraints h small = refl
text-of-missing r token.Symbolic h small = refl
text-of-missing r (token.Sign s) h small = refl
text-of-missing r (token.Literal n) h small = rw h (decimal-numeral 0 (omega arith), omega arith)
text-of-missing r token.Star h small = refl
text-of-missing r token.Variable h small = refl
text-of-missing r token.OpenIndex h small = refl
text-of-missing r (token.Index i) h small = rw h (decimal-numeral 1 (omega arith))
text-of-missing r token.CloseIndex h small = refl
text-of-missing r (token.Relation q) h small = refl
text-of-missing r token.Tilde h small = refl
text-of-missing r token.OpenModulus h small = refl
text-of-missing r (token.Modulus m) h small = rw h (decimal-numeral 1 (omega arith), omega arith, omega arith)
text-of-missing r token.CloseModulus h small = refl
text-of-missing r (token.Stop last) h small = refl
text-of-missing r (token.RowCount n) h small = absurd h
text-of-missing r (token.ColumnCount n) h small = decimal-numeral n small
text-of-missing r (token.Typed t) h small = refl

pub missing-text : (q : Sit) (s : Slot) → IsLive q → May q s → IsMissing s → SpellsToken s.token (token_text s.token)
missing-text q s live may h = text-of-missing s.role s.token h (small-token q s.token live may.1)

-- ---- a blank stands where one is needed

lines-lead : (d n : ℕ) → lead (wants (at_lines d n)) ≡ 32 ∷ []
lines-lead d zero = refl
lines-lead d (suc n) = refl

follow-break : (d later : ℕ) (side : Side) (n : ℕ) (t : Token) → MayFollow later side n t → behind_token t ≡ Break → lead (wants (behind_point d later side n AfterTerm t)) ≡ 32 ∷ []
follow-break d later Left n (token.Sign s) h e = absurd cc
follow-break d later (Right b) n (token.Sign s) h e = absurd cc
follow-break d later Left n (token.Relation r) h e = absurd cc
follow-break d later Left n token.Tilde h e = absurd cc
follow-break d later (Right false) n (token.Stop last) h e = lines-lead d later
follow-break d later (Right true) n token.OpenModulus h e = absurd cc
follow-break d later Left n t h e = absurd h
follow-break d later (Right false) n t h e = absurd h
follow-break d later (Right true) n t h e = absurd h

line-break : (d later : ℕ) (side : Side) (n : ℕ) (point : Point) (t : Token) → MayStand d later side n point t → behind_token t ≡ Break → lead (wants (behind_point d later side n point t)) ≡ 32 ∷ []
line-break d later side n AtSum (token.Sign s) h e = absurd cc
line-break d later side n AtSum (token.Literal v) h e = absurd cc
line-break d later side n AtSum token.Variable h e = absurd cc
line-break d later side n AtSum t h e = absurd h
line-break d later side n AtTerm (token.Literal v) h e = absurd cc
line-break d later side n AtTerm token.Variable h e = absurd cc
line-break d later side n AtTerm t h e = absurd h
line-break d later side n AfterLiteral token.Star h e = absurd cc
line-break d later side n AfterLiteral token.Variable h e = absurd cc
line-break d later side n AfterLiteral t h e = follow-break d later side n t h e
line-break d later side n AfterStar token.Variable h e = absurd cc
line-break d later side n AfterStar t h e = absurd h
line-break d later side n AfterVariable token.OpenIndex h e = absurd cc
line-break d later side n AfterVariable t h e = absurd h
line-break d later side n AfterOpen (token.Index i) h e = absurd cc
line-break d later side n AfterOpen t h e = absurd h
line-break d later side n AfterIndex token.CloseIndex h e = absurd cc
line-break d later side n AfterIndex t h e = absurd h
line-break d later side n AfterTerm t h e = follow-break d later side n t h e
line-break d later side n AfterParen (token.Modulus m) h e = absurd cc
line-break d later side n AfterParen t h e = absurd h
line-break d later side n AfterModulus token.CloseModulus h e = absurd cc
line-break d later side n AfterModulus t h e = absurd h
line-break d later side n AfterClose (token.Stop last) h e = lines-lead d later
line-break d later side n AfterClose t h e = absurd h

figures-lead : (fixed n c more : ℕ) → lead (wants (at_figures fixed n c more)) ≡ 32 ∷ []
figures-lead fixed n c zero = refl
figures-lead fixed n c (suc more) = refl

-- behind what needs a break a blank leads the next
pub lead-break : (q : Sit) (t : Token) → MayToken q t → behind_token t ≡ Break → lead (wants (next_token q t)) ≡ 32 ∷ []
lead-break AtOpening (token.RowCount n) h e = refl
lead-break AtOpening t h e = refl
lead-break (InPlain sit) (token.Plain s) h e = refl
lead-break (InPlain sit) t h e = refl
lead-break (AtConstraints d) (token.Plain (symbol.Count n)) h e = refl
lead-break (AtConstraints d) (token.Plain s) h e = refl
lead-break (AtConstraints d) t h e = refl
lead-break (AtName d n) t h e = lines-lead d n
lead-break (InLine d later side n point) t h e = line-break d later side n point t h e
lead-break (AtFurther d) (token.RowCount n) h e = refl
lead-break (AtFurther d) t h e = refl
lead-break (AtColumns fixed n) (token.ColumnCount c) h e = figures-lead fixed n c (n * c)
lead-break (AtColumns fixed n) t h e = refl
lead-break (AtFigure fixed n c more) t h e = figures-lead fixed n c more
lead-break (AtType fixed n c) (token.Typed t) h e = refl
lead-break (AtType fixed n c) t h e = refl

-- ---- what is missing

-- slots that can be missing lead to where a file may end
pub record Completed (q : Sit) : Type 0 where
  pub others : List Slot
  pub end : Sit
  pub steps : Steps q others end
  pub final : IsFinal end
  pub missing : AllByRecursion IsMissing others

-- a token that is missing, and others
lacks : (q : Sit) (t : Token) → MayToken q t → IsMissingAt (wants q) t → Completed (next_token q t) → Completed q
lacks q t may missing c = record { others = slot (wants q) t ∷ c.others; end = c.end; steps = ((refl, may), c.steps); final = c.final; missing = (missing, c.missing) }

none-missing : (q : Sit) → IsFinal q → Completed q
none-missing q h = record { others = []; end = q; steps = refl; final = h; missing = tt }

-- the rest of a row
row-lacks : (d width n : ℕ) → Completed (InPlain (at_rows d width n)) → (more : ℕ) → Completed (InPlain (AtNumber d width n more))
row-lacks d width n below zero = lacks (InPlain (AtNumber d width n zero)) (token.Plain (symbol.Number (pos 0))) refl refl below
row-lacks d width n below (suc more) = lacks (InPlain (AtNumber d width n (suc more))) (token.Plain (symbol.Number (pos 0))) refl refl (row-lacks d width n below more)

rows-lack : (d width n : ℕ) → Completed (InPlain (at_rows d width n))
rows-lack d width zero = none-missing (InPlain (AtEntry d)) tt
rows-lack d width (suc n) = row-lacks d width n (rows-lack d width n) (width - 1)

-- constraints, `0=0;` each
lines-lack : (d n : ℕ) → Completed (at_lines d n)
lines-lack d zero = none-missing (InPlain (AtEntry d)) tt
lines-lack d (suc later) =
    lacks (InLine d later Left 0 AtSum) (token.Literal 0) tt refl (lacks (InLine d later Left 1 AfterLiteral) (token.Relation Equal) tt refl (lacks (InLine d later (Right false) 0 AtSum) (token.Literal 0) tt refl (lacks (InLine d later (Right false) 1 AfterLiteral) (token.Stop (later == 0)) refl tt (lines-lack d later))))

-- behind the modulus, and before it
close-lacks : (d later n : ℕ) → Completed (InLine d later (Right true) n AfterParen)
close-lacks d later n =
    lacks (InLine d later (Right true) n AfterParen) (token.Modulus 1) tt refl (lacks (InLine d later (Right true) n AfterModulus) token.CloseModulus tt tt (lacks (InLine d later (Right true) n AfterClose) (token.Stop (later == 0)) refl tt (lines-lack d later)))

-- a point behind a whole term
behind-lacks : (d later : ℕ) (side : Side) (n : ℕ) → Completed (InLine d later side n AfterTerm)
behind-lacks d later Left n = lacks (InLine d later Left n AfterTerm) (token.Relation Equal) tt refl (lacks (InLine d later (Right false) 0 AtSum) (token.Literal 0) tt refl (lacks (InLine d later (Right false) 1 AfterLiteral) (token.Stop (later == 0)) refl tt (lines-lack d later)))
behind-lacks d later (Right false) n = lacks (InLine d later (Right false) n AfterTerm) (token.Stop (later == 0)) refl tt (lines-lack d later)
behind-lacks d later (Right true) n = lacks (InLine d later (Right true) n AfterTerm) token.OpenModulus tt tt (close-lacks d later n)

literal-lacks : (d later : ℕ) (side : Side) (n : ℕ) → Completed (InLine d later side n AfterLiteral)
literal-lacks d later Left n = lacks (InLine d later Left n AfterLiteral) (token.Relation Equal) tt refl (lacks (InLine d later (Right false) 0 AtSum) (token.Literal 0) tt refl (lacks (InLine d later (Right false) 1 AfterLiteral) (token.Stop (later == 0)) refl tt (lines-lack d later)))
literal-lacks d later (Right false) n = lacks (InLine d later (Right false) n AfterLiteral) (token.Stop (later == 0)) refl tt (lines-lack d later)
literal-lacks d later (Right true) n = lacks (InLine d later (Right true) n AfterLiteral) token.OpenModulus tt tt (close-lacks d later n)

index-lacks : (d later : ℕ) (side : Side) (n : ℕ) → Completed (InLine d later side n AfterIndex)
index-lacks d later side n = lacks (InLine d later side n AfterIndex) token.CloseIndex tt tt (behind-lacks d later side n)

open-lacks : (d later : ℕ) (side : Side) (n : ℕ) → 1 ≤ d → Completed (InLine d later side n AfterOpen)
open-lacks d later side n low = lacks (InLine d later side n AfterOpen) (token.Index 1) (omega arith, low) refl (index-lacks d later side n)

variable-lacks : (d later : ℕ) (side : Side) (n : ℕ) → 1 ≤ d → Completed (InLine d later side n AfterVariable)
variable-lacks d later side n low = lacks (InLine d later side n AfterVariable) token.OpenIndex tt tt (open-lacks d later side n low)

point-lacks : (d later : ℕ) (side : Side) (n : ℕ) (point : Point) → 1 ≤ d → Completed (InLine d later side n point)
point-lacks d later Left n AtSum low = lacks (InLine d later Left n AtSum) (token.Literal 0) tt refl (literal-lacks d later Left 1)
point-lacks d later (Right b) n AtSum low = lacks (InLine d later (Right b) n AtSum) (token.Literal 0) tt refl (literal-lacks d later (Right b) 1)
point-lacks d later side n AtTerm low = lacks (InLine d later side n AtTerm) (token.Literal 0) tt refl (literal-lacks d later side n)
point-lacks d later side n AfterLiteral low = literal-lacks d later side n
point-lacks d later side n AfterStar low = lacks (InLine d later side n AfterStar) token.Variable tt tt (variable-lacks d later side n low)
point-lacks d later side n AfterVariable low = variable-lacks d later side n low
point-lacks d later side n AfterOpen low = open-lacks d later side n low
point-lacks d later side n AfterIndex low = index-lacks d later side n
point-lacks d later side n AfterTerm low = behind-lacks d later side n
point-lacks d later side n AfterParen low = lacks (InLine d later side n AfterParen) (token.Modulus 1) tt refl (lacks (InLine d later side n AfterModulus) token.CloseModulus tt tt (lacks (InLine d later side n AfterClose) (token.Stop (later == 0)) refl tt (lines-lack d later)))
point-lacks d later side n AfterModulus low = lacks (InLine d later side n AfterModulus) token.CloseModulus tt tt (lacks (InLine d later side n AfterClose) (token.Stop (later == 0)) refl tt (lines-lack d later))
point-lacks d later side n AfterClose low = lacks (InLine d later side n AfterClose) (token.Stop (later == 0)) refl tt (lines-lack d later)

-- ---- matrices of the old form

no-zero : (d : ℕ) → (suc d == 0) ≡ false
no-zero d = grind (arith, nat_tests)

low-64 : (c : ℕ) → c ≤ 64 → nat_le c 64 ≡ true
low-64 c h = grind (arith, nat_tests, h)

high-64 : (c : ℕ) → 64 < c → nat_le c 64 ≡ false
high-64 c h = grind (arith, nat_tests, h)

same-count : (c : ℕ) → (c == c) ≡ true
same-count c = grind (arith, nat_tests)

more-count : (c : ℕ) → (suc c == c) ≡ false
more-count c = grind (arith, nat_tests)

-- where a cone may have so many columns it does
pub cone-fits : (fixed n c : ℕ) → fixed ≤ 64 → IsColumnCount fixed c → allows_cone fixed c ≡ true → IsTypeFor fixed n c old.Cone
cone-fits zero n c le h allows = record { dimension = c; same = inl refl; low = h.0; high = by (le_or c); columns_are = refl; rows_are = tt }
  where
    le_or : (c : ℕ) → (c ≤ 64) ⊎ (64 < c)
    le_or c = grind arith

    by : (c ≤ 64) ⊎ (64 < c) → c ≤ 64
    by (inl e) = e
    by (inr e) = let bad : true ≡ false = sym allows ∙ high-64 c e in absurd cc
cone-fits (suc d) n c le (inl e) allows = record { dimension = c; same = inr (sym e); low = omega (arith, e); high = omega (arith, e, le); columns_are = refl; rows_are = tt }
cone-fits (suc d) n c le (inr e) allows =
    let bad : allows_cone (suc d) c ≡ false = rw (e, no-zero) (more-count (suc d)) in
    let bad2 : true ≡ false = sym allows ∙ bad in absurd cc

-- and else congruences
pub congruences-fit : (fixed n c : ℕ) → fixed ≤ 64 → IsColumnCount fixed c → allows_cone fixed c ≡ false → IsTypeFor fixed n c old.Congruences
congruences-fit zero n c le h allows = record { dimension = 64; same = inl refl; low = omega arith; high = omega arith; columns_are = by (le_or c); rows_are = tt }
  where
    le_or : (c : ℕ) → (c ≤ 64) ⊎ (64 < c)
    le_or c = grind arith

    by : (c ≤ 64) ⊎ (64 < c) → c ≡ 65
    by (inl e) = let bad : true ≡ false = sym (low-64 c e) ∙ allows in absurd cc
    by (inr e) = omega (arith, e, h.1)
congruences-fit (suc d) n c le (inl e) allows =
    let bad : allows_cone (suc d) c ≡ true = rw (e, no-zero) (same-count (suc d)) in
    let bad2 : true ≡ false = sym bad ∙ allows in absurd cc
congruences-fit (suc d) n c le (inr e) allows = record { dimension = suc d; same = inr refl; low = omega arith; high = le; columns_are = omega (arith, e); rows_are = tt }

type-lacks : (fixed n c : ℕ) → fixed ≤ 64 → IsColumnCount fixed c → Completed (AtType fixed n c)
type-lacks fixed n c le h = by (allows_cone fixed c) refl
  where
    by : (b : Bool) → allows_cone fixed c ≡ b → Completed (AtType fixed n c)
    by true e = lacks (AtType fixed n c) (token.Typed old.Cone) (cone-fits fixed n c le h e) (rw e refl) (none-missing (AtFurther _) tt)
    by false e = lacks (AtType fixed n c) (token.Typed old.Congruences) (congruences-fit fixed n c le h e) (rw e refl) (none-missing (AtFurther _) tt)

figures-lack : (fixed n c more : ℕ) → fixed ≤ 64 → IsColumnCount fixed c → Completed (at_figures fixed n c more)
figures-lack fixed n c zero le h = type-lacks fixed n c le h
figures-lack fixed n c (suc more) le h = lacks (AtFigure fixed n c more) (token.Plain (symbol.Number (pos 0))) refl refl (figures-lack fixed n c more le h)

columns-lack : (fixed n : ℕ) → fixed ≤ 64 → Completed (AtColumns fixed n)
columns-lack zero n le = lacks (AtColumns 0 n) (token.ColumnCount 1) (omega arith, omega arith) refl (figures-lack 0 n 1 (n * 1) le (omega arith, omega arith))
columns-lack (suc d) n le = lacks (AtColumns (suc d) n) (token.ColumnCount (suc d)) (inl refl) (rw no-zero refl) (figures-lack (suc d) n (suc d) (n * suc d) le (inl refl))

-- ---- each place

dimension-lacks : Completed (InPlain AtDimension)
dimension-lacks = lacks (InPlain AtDimension) (token.Plain (symbol.Dimension 1)) refl refl (none-missing (InPlain (AtEntry 1)) tt)

pub completed : (q : Sit) → IsLive q → Completed q
completed AtOpening live = lacks AtOpening (token.Plain symbol.Amb) refl tt dimension-lacks
completed (InPlain AtFirst) live = lacks (InPlain AtFirst) (token.Plain symbol.Amb) refl tt dimension-lacks
completed (InPlain AtDimension) live = dimension-lacks
completed (InPlain (AtEntry d)) live = none-missing (InPlain (AtEntry d)) tt
completed (InPlain (AtCount d k)) live = lacks (InPlain (AtCount d k)) (token.Plain (symbol.Count 0)) refl refl (rows-lack d (columns k d) 0)
completed (InPlain (AtNumber d width n more)) live = row-lacks d width n (rows-lack d width n) more
completed (AtConstraints d) live = lacks (AtConstraints d) (token.Plain (symbol.Count 0)) refl refl (lacks (AtName d 0) token.Symbolic tt tt (lines-lack d 0))
completed (AtName d n) live = lacks (AtName d n) token.Symbolic tt tt (lines-lack d n)
completed (InLine d later side n point) live = point-lacks d later side n point live.0
completed (AtFurther d) live = none-missing (AtFurther d) tt
completed (AtColumns fixed n) live = columns-lack fixed n live
completed (AtFigure fixed n c more) live = figures-lack fixed n c (suc more) live.0 live.1
completed (AtType fixed n c) live = type-lacks fixed n c live.0 live.1
