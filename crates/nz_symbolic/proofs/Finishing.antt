-- A piece that has begun is completed to a token that may stand there.
use Rattle.std.proofs.Common.{◌≡◌, ◌≢◌, ℕ, zero, suc, ◌+◌, ◌-◌, ◌*◌, ◌/◌, ◌%◌, ◌^◌, ◌<◌, ◌≤◌, Bool, true, false, cond, List, [], ◌∷◌, ◌++◌, length, drop, refl, sym, ap, subst, ◌∙◌, append_assoc, arith, inl, inr, ◌⊎◌}
use Rattle.std.specs.Prelude.{◌==◌, if◌then◌else◌, codes}
use Rattle.std.specs.List.{AllByRecursion}
use Rattle.std.specs.Fmt.{decimal}
use Rattle.std.proofs.lemmas.Bool.Decides.{eqb_tells, nat_tests}
use Rattle.std.proofs.lemmas.Fmt.{decimal_by_steps}
use Rattle.std.proofs.lemmas.List.{append-nil, drop_at}
use Rattle.nz_vec.specs.Texts.{Text}
use Rattle.nz_input.specs.declared.symbol.Symbol.{Symbol}
use Rattle.nz_input.specs.declared.symbol.Symbol.TheVariants as symbol
use Rattle.nz_input.specs.declared.symbol.Role.TheVariants as plain
use Rattle.nz_input.specs.declared.symbol.Role.{Role as PlainRole}
use Rattle.nz_input.specs.declared.kind.Word.{Word}
use Rattle.nz_input.specs.declared.kind.TheConstants.{WORDS}
use Rattle.nz_input.specs.Words.{text_of, amb_space, columns}
use Rattle.nz_input.specs.Symbols.{IsDigit, IsNumeral, value, Spells as SpellsPlain}
use Rattle.nz_input.specs.Refusals.{role_of, is_digit, all_zero}
use Rattle.nz_input.specs.Endings.{begins_so, first_word, completion as plain_completion}
use Rattle.nz_input.specs.Sit as input
use Rattle.nz_input.specs.Sit.{AtFirst, AtDimension, AtEntry, AtCount, AtNumber}
use Rattle.nz_input.proofs.Digits.{value-append, value-grows}
use Rattle.nz_input.proofs.Each.{all-front, all-back, all-both}
use Rattle.nz_input.proofs.Finishing.{Finished as PlainFinished, finish as plain-finish}
use Rattle.nz_input.proofs.WordSearch.{word-among}
use Rattle.nz_symbolic.specs.declared.symbol.Sign.{Sign}
use Rattle.nz_symbolic.specs.declared.symbol.Sign.TheVariants.{Plus, Minus}
use Rattle.nz_symbolic.specs.declared.symbol.Relation.{Relation}
use Rattle.nz_symbolic.specs.declared.symbol.Relation.TheVariants.{AtLeast, AtMost, Above, Below, Equal}
use Rattle.nz_symbolic.specs.declared.symbol.OldType.{OldType}
use Rattle.nz_symbolic.specs.declared.symbol.OldType.TheVariants as old
use Rattle.nz_symbolic.specs.declared.symbol.Token.{Token}
use Rattle.nz_symbolic.specs.declared.symbol.Token.TheVariants as token
use Rattle.nz_symbolic.specs.declared.symbol.Role.{Role}
use Rattle.nz_symbolic.specs.declared.symbol.Role.TheVariants as role
use Rattle.nz_symbolic.specs.declared.point.Side.{Side}
use Rattle.nz_symbolic.specs.declared.point.Side.TheVariants.{Left, Right}
use Rattle.nz_symbolic.specs.declared.point.Point.{Point}
use Rattle.nz_symbolic.specs.declared.point.Point.TheVariants.{AtSum, AtTerm, AfterLiteral, AfterStar, AfterVariable, AfterOpen, AfterIndex, AfterTerm, AfterParen, AfterModulus, AfterClose}
use Rattle.nz_symbolic.specs.Words.{constraints, symbolic, sign_text, relation_text, type_text, kind_of}
use Rattle.nz_symbolic.specs.Symbols.{SpellsToken, allows_cone}
use Rattle.nz_symbolic.specs.Endings.{some_word, word_rest, significant, numeral_rest, columns_rest, TYPES, first_type, type_meant, completion}
use Rattle.nz_symbolic.specs.Sit.{Sit, AtOpening, InPlain, AtConstraints, AtName, InLine, AtFurther, AtColumns, AtFigure, AtType, wants, role_at, MayFollow, MayStand, MayToken, IsColumnCount, IsTypeFor}
use Rattle.nz_symbolic.specs.Left.{IsLive}
use Rattle.nz_symbolic.proofs.Completing.{decimal-numeral, cone-fits, congruences-fit}

-- a token that may stand there and that the piece and its completion stand for
pub record Finished (q : Sit) (begun : Text) : Type 0 where
  pub token_is : Token
  pub may : MayToken q token_is
  pub spelled : SpellsToken token_is (begun ++ completion (wants q) begun)

-- ---- words

pub rest-whole : (begun y text : Text) → begun ++ y ≡ text → begun ++ drop (length begun) text ≡ text
rest-whole begun y text e = ap (λ (x : Text). begun ++ drop (length begun) x) (sym e) ∙ ap (λ (x : Text). begun ++ x) (drop_at begun y (length begun) refl) ∙ e

pub so-whole : (begun text : Text) → begins_so begun text ≡ true → begun ++ drop (length begun) text ≡ text
so-whole [] text h = refl
so-whole (b ∷ begun) [] h = absurd cc
so-whole (b ∷ begun) (a ∷ text) h = elim (eqb_tells b a) [
  | inl hit ↦ let below : begins_so begun text ≡ true = rw (hit.0) at h in rw (hit.1) (ap (λ (x : Text). a ∷ x) (so-whole begun text below))
  | inr miss ↦ let bad : false ≡ true = rw (miss.0) at h in absurd cc
]

pub begun-so : (begun y text : Text) → begun ++ y ≡ text → begins_so begun text ≡ true
begun-so [] y text e = refl
begun-so (b ∷ begun) y [] e = absurd cc
begun-so (b ∷ begun) y (a ∷ text) e = elim (eqb_tells b a) [
  | inl hit ↦ rw (hit.0) (begun-so begun y text cc)
  | inr miss ↦ absurd (miss.1 cc)
]

-- where some word begins so the first that does is found
some-first : (words : List Word) (begun : Text) → some_word words begun ≡ true → begins_so begun (text_of (first_word words begun)) ≡ true
some-first [] begun h = absurd cc
some-first (w ∷ words) begun h = by (begins_so begun (text_of w)) refl (some-first words begun)
  where
    by : (b : Bool) → begins_so begun (text_of w) ≡ b → (some_word words begun ≡ true → begins_so begun (text_of (first_word words begun)) ≡ true) → begins_so begun (text_of (first_word (w ∷ words) begun)) ≡ true
    by true e below = ap (λ (c : Bool). begins_so begun (text_of (cond c w (first_word words begun)))) e ∙ e
    by false e below = ap (λ (c : Bool). begins_so begun (text_of (cond c w (first_word words begun)))) e ∙ below (rw e at h)

-- and where none does no word does
none-first : (words : List Word) (begun : Text) → some_word words begun ≡ false → AllByRecursion (λ w. begins_so begun (text_of w) ≡ false) words
none-first [] begun h = tt
none-first (w ∷ words) begun h = by (begins_so begun (text_of w)) refl (none-first words begun)
  where
    by : (b : Bool) → begins_so begun (text_of w) ≡ b → (some_word words begun ≡ false → AllByRecursion (λ v. begins_so begun (text_of v) ≡ false) words) → AllByRecursion (λ v. begins_so begun (text_of v) ≡ false) (w ∷ words)
    by true e below = let bad : true ≡ false = rw e at h in absurd cc
    by false e below = (e, below (rw e at h))

finish-entering : (d : ℕ) (begun : Text) → ((w : Word) × (begins_so begun (text_of w) ≡ true)) ⊎ (begins_so begun constraints ≡ true) → Finished (InPlain (AtEntry d)) begun
finish-entering d begun h = by (some_word WORDS begun) refl h
  where
    by : (b : Bool) → some_word WORDS begun ≡ b → ((w : Word) × (begins_so begun (text_of w) ≡ true)) ⊎ (begins_so begun constraints ≡ true) → Finished (InPlain (AtEntry d)) begun
    by true e h = record { token_is = token.Plain (symbol.Begin (first_word WORDS begun)); may = refl; spelled = rw e (so-whole begun (text_of (first_word WORDS begun)) (some-first WORDS begun e)) }
    by false e (inl h) = let bad : true ≡ false = sym h.1 ∙ word-among (λ w. begins_so begun (text_of w) ≡ false) h.0 (none-first WORDS begun e) in absurd cc
    by false e (inr h) = record { token_is = token.Constraints; may = tt; spelled = rw e (so-whole begun constraints h) }

-- ---- the grammar without constraints

plain-back : (sit : input.Sit) (begun : Text) (s : Symbol) → role_of s ≡ input.wants sit → completion (role.Plain (input.wants sit)) begun ≡ plain_completion (input.wants sit) begun → PlainFinished s begun → Finished (InPlain sit) begun
plain-back sit begun s h e f =
    let same : role_of f.symbol ≡ input.wants sit = f.role_is ∙ h in
    record { token_is = token.Plain f.symbol; may = same; spelled = subst (λ (x : Text). SpellsPlain f.symbol (begun ++ x)) (ap (λ (r : PlainRole). plain_completion r begun) same ∙ sym e) f.spelled }

pub finish-plain : (sit : input.Sit) (t : Token) (begun y : Text) → MayToken (InPlain sit) t → begun ≢ [] → SpellsToken t (begun ++ y) → Finished (InPlain sit) begun
finish-plain (AtEntry d) (token.Plain (symbol.Begin w)) begun y h some spells = finish-entering d begun (inl (w, begun-so begun y (text_of w) spells))
finish-plain (AtEntry d) (token.Plain s) begun y h some spells = absurd cc
finish-plain (AtEntry d) token.Constraints begun y h some spells = finish-entering d begun (inr (begun-so begun y constraints spells))
finish-plain AtFirst (token.Plain s) begun y h some spells = plain-back AtFirst begun s h refl (plain-finish s begun y some spells)
finish-plain AtDimension (token.Plain s) begun y h some spells = plain-back AtDimension begun s h refl (plain-finish s begun y some spells)
finish-plain (AtCount d k) (token.Plain s) begun y h some spells = plain-back (AtCount d k) begun s h refl (plain-finish s begun y some spells)
finish-plain (AtNumber d width n more) (token.Plain s) begun y h some spells = plain-back (AtNumber d width n more) begun s h refl (plain-finish s begun y some spells)
finish-plain sit t begun y h some spells = absurd h

-- ---- numerals

value-front : (begun y : Text) → value 0 begun ≤ value 0 (begun ++ y)
value-front begun y = rw (value-append 0 begun y) (value-grows (value 0 begun) y)

-- the digits so far are a numeral, with a value that is not above
pub front-numeral : (begun y : Text) (n : ℕ) → begun ≢ [] → IsNumeral (begun ++ y) n → IsNumeral begun (value 0 begun) × (value 0 begun ≤ n)
front-numeral begun y n some h = ((some, all-front IsDigit begun y h.1, refl), omega (arith, value-front begun y, h.2))

zeros-value : (begun : Text) → all_zero begun ≡ true → value 0 begun ≡ 0
zeros-value [] h = refl
zeros-value (b ∷ begun) h = elim (eqb_tells b 48) [
  | inl hit ↦ let below : all_zero begun ≡ true = rw (hit.0) at h in let none : 0 * 10 + (b - 48) ≡ 0 = rw (hit.1) refl in ap (λ (n : ℕ). value n begun) none ∙ zeros-value begun below
  | inr miss ↦ let bad : false ≡ true = rw (miss.0) at h in absurd cc
]

some-value : (begun : Text) → AllByRecursion IsDigit begun → all_zero begun ≡ false → 1 ≤ value 0 begun
some-value [] h e = absurd cc
some-value (b ∷ begun) h e = elim (eqb_tells b 48) [
  | inl hit ↦ let below : all_zero begun ≡ false = rw (hit.0) at e in let none : 0 * 10 + (b - 48) ≡ 0 = rw (hit.1) refl in rw none (some-value begun h.1 below)
  | inr miss ↦ let more : 1 ≤ 0 * 10 + (b - 48) = omega (arith, h.0.0, miss.1) in omega (arith, more, value-grows (0 * 10 + (b - 48)) begun)
]

ends-some : (begun : Text) (b : ℕ) → begun ++ b ∷ [] ≢ []
ends-some [] b x = cc
ends-some (a ∷ begun) b x = cc

-- with a 1 behind zeros: a numeral of at least 1
record Positive (begun : Text) (greatest : ℕ) : Type 0 where
  number : ℕ
  numeral : IsNumeral (begun ++ (if all_zero begun then codes "1" else [])) number
  low : 1 ≤ number
  high : number ≤ greatest

positive : (begun y : Text) (n greatest : ℕ) → begun ≢ [] → IsNumeral (begun ++ y) n → n ≤ greatest → 1 ≤ greatest → Positive begun greatest
positive begun y n greatest some h le low = by (all_zero begun) refl
  where
    front : IsNumeral begun (value 0 begun) × (value 0 begun ≤ n)
    front = front-numeral begun y n some h

    by : (b : Bool) → all_zero begun ≡ b → Positive begun greatest
    by true e =
        let one : value 0 (begun ++ 49 ∷ []) ≡ 1 = value-append 0 begun (49 ∷ []) ∙ rw (zeros-value begun e) refl in
        record { number = 1; numeral = rw e ((λ x. ends-some begun 49 x), all-both IsDigit begun (49 ∷ []) front.0.1 ((omega arith, omega arith), tt), one); low = omega arith; high = low }
    by false e = record { number = value 0 begun; numeral = rw (e, append-nil) front.0; low = some-value begun front.0.1 e; high = omega (arith, front.1, le) }

-- ---- marks

-- a token of one byte
abbrev IsSingle : Token → Type 0
IsSingle (token.Sign s) = Unit {0}
IsSingle token.Star = Unit {0}
IsSingle token.Variable = Unit {0}
IsSingle token.OpenIndex = Unit {0}
IsSingle token.CloseIndex = Unit {0}
IsSingle token.Tilde = Unit {0}
IsSingle token.OpenModulus = Unit {0}
IsSingle token.CloseModulus = Unit {0}
IsSingle (token.Stop last) = Unit {0}
IsSingle t = ⊥

one-byte : (begun y : Text) (b : ℕ) → begun ≢ [] → begun ++ y ≡ b ∷ [] → begun ≡ b ∷ []
one-byte [] y b some e = absurd (some refl)
one-byte (a ∷ []) y b some e = let same : a ≡ b = cc in rw same refl
one-byte (a ∷ c ∷ begun) y b some e = absurd cc

sign-whole : (s : Sign) (begun y : Text) → begun ≢ [] → begun ++ y ≡ sign_text s → begun ≡ sign_text s
sign-whole Plus begun y some e = one-byte begun y 43 some e
sign-whole Minus begun y some e = one-byte begun y 45 some e

single-whole : (t : Token) (begun y : Text) → IsSingle t → begun ≢ [] → SpellsToken t (begun ++ y) → SpellsToken t begun
single-whole (token.Sign s) begun y h some e = sign-whole s begun y some e
single-whole token.Star begun y h some e = one-byte begun y 42 some e
single-whole token.Variable begun y h some e = one-byte begun y 120 some e
single-whole token.OpenIndex begun y h some e = one-byte begun y 91 some e
single-whole token.CloseIndex begun y h some e = one-byte begun y 93 some e
single-whole token.Tilde begun y h some e = one-byte begun y 126 some e
single-whole token.OpenModulus begun y h some e = one-byte begun y 40 some e
single-whole token.CloseModulus begun y h some e = one-byte begun y 41 some e
single-whole (token.Stop last) begun y h some e = one-byte begun y 59 some e
single-whole t begun y h some e = absurd h

-- `>=` or its front, and likewise `<=`
two-bytes : (begun y : Text) (a b : ℕ) → begun ≢ [] → begun ++ y ≡ a ∷ b ∷ [] → (begun ≡ a ∷ []) ⊎ (begun ≡ a ∷ b ∷ [])
two-bytes [] y a b some e = absurd (some refl)
two-bytes (c ∷ []) y a b some e = let same : c ≡ a = cc in inl (rw same refl)
two-bytes (c ∷ d ∷ []) y a b some e = let same : c ≡ a = cc in let same2 : d ≡ b = cc in inr (rw (same, same2) refl)
two-bytes (c ∷ d ∷ f ∷ begun) y a b some e = absurd cc

relation-whole : (r : Relation) (begun y : Text) → begun ≢ [] → begun ++ y ≡ relation_text r → (q : Relation) × (begun ≡ relation_text q)
relation-whole AtLeast begun y some e = elim (two-bytes begun y 62 61 some e) [ inl h ↦ (Above, h) | inr h ↦ (AtLeast, h) ]
relation-whole AtMost begun y some e = elim (two-bytes begun y 60 61 some e) [ inl h ↦ (Below, h) | inr h ↦ (AtMost, h) ]
relation-whole Above begun y some e = (Above, one-byte begun y 62 some e)
relation-whole Below begun y some e = (Below, one-byte begun y 60 some e)
relation-whole Equal begun y some e = (Equal, one-byte begun y 61 some e)

-- ---- constraints

-- where an index or a modulus must come
abbrev is_bounded : Point → Bool
is_bounded AfterOpen = true
is_bounded AfterParen = true
is_bounded point = false

no-completion : (side : Side) (n : ℕ) (point : Point) (begun : Text) → is_bounded point ≡ false → completion (role_at side n point) begun ≡ []
no-completion Left n AtSum begun h = refl
no-completion (Right b) n AtSum begun h = refl
no-completion side n AfterOpen begun h = absurd cc
no-completion side n AfterParen begun h = absurd cc
no-completion side n point begun h = refl

literal-any : (d later : ℕ) (side : Side) (n : ℕ) (point : Point) (v w : ℕ) → MayStand d later side n point (token.Literal v) → MayStand d later side n point (token.Literal w)
literal-any d later side n AtSum v w h = tt
literal-any d later side n AtTerm v w h = tt
literal-any d later Left n point v w h = absurd h
literal-any d later (Right false) n point v w h = absurd h
literal-any d later (Right true) n point v w h = absurd h

relation-any : (d later : ℕ) (side : Side) (n : ℕ) (point : Point) (r q : Relation) → MayStand d later side n point (token.Relation r) → MayStand d later side n point (token.Relation q)
relation-any d later Left n AfterLiteral r q h = tt
relation-any d later Left n AfterTerm r q h = tt
relation-any d later Left n point r q h = absurd h
relation-any d later (Right false) n AtSum r q h = absurd h
relation-any d later (Right false) n point r q h = absurd h
relation-any d later (Right true) n AtSum r q h = absurd h
relation-any d later (Right true) n point r q h = absurd h

-- a token of the piece itself
finish-itself : (d later : ℕ) (side : Side) (n : ℕ) (point : Point) (t : Token) (begun : Text) → is_bounded point ≡ false → MayStand d later side n point t → SpellsToken t begun → Finished (InLine d later side n point) begun
finish-itself d later side n point t begun free h spells = record { token_is = t; may = h; spelled = subst (SpellsToken t) (sym (append-nil begun) ∙ ap (λ (x : Text). begun ++ x) (sym (no-completion side n point begun free))) spells }

-- of one byte, a literal or a relation
abbrev IsMark : Token → Type 0
IsMark t = (IsSingle t ⊎ ((v : ℕ) × (t ≡ token.Literal v))) ⊎ ((r : Relation) × (t ≡ token.Relation r))

follow-other : (later : ℕ) (side : Side) (n : ℕ) (t : Token) → MayFollow later side n t → IsMark t
follow-other later Left n (token.Sign s) h = inl (inl tt)
follow-other later (Right b) n (token.Sign s) h = inl (inl tt)
follow-other later Left n (token.Relation r) h = inr (r, refl)
follow-other later Left n token.Tilde h = inl (inl tt)
follow-other later (Right false) n (token.Stop last) h = inl (inl tt)
follow-other later (Right true) n token.OpenModulus h = inl (inl tt)
follow-other later Left n t h = absurd h
follow-other later (Right false) n t h = absurd h
follow-other later (Right true) n t h = absurd h

no-other : (d later : ℕ) (side : Side) (n : ℕ) (point : Point) (t : Token) → is_bounded point ≡ false → MayStand d later side n point t → IsMark t
no-other d later side n AtSum (token.Sign s) free h = inl (inl tt)
no-other d later side n AtSum (token.Literal v) free h = inl (inr (v, refl))
no-other d later side n AtSum token.Variable free h = inl (inl tt)
no-other d later side n AtSum t free h = absurd h
no-other d later side n AtTerm (token.Literal v) free h = inl (inr (v, refl))
no-other d later side n AtTerm token.Variable free h = inl (inl tt)
no-other d later side n AtTerm t free h = absurd h
no-other d later side n AfterLiteral token.Star free h = inl (inl tt)
no-other d later side n AfterLiteral token.Variable free h = inl (inl tt)
no-other d later side n AfterLiteral t free h = follow-other later side n t h
no-other d later side n AfterStar token.Variable free h = inl (inl tt)
no-other d later side n AfterStar t free h = absurd h
no-other d later side n AfterVariable token.OpenIndex free h = inl (inl tt)
no-other d later side n AfterVariable t free h = absurd h
no-other d later side n AfterOpen t free h = absurd cc
no-other d later side n AfterIndex token.CloseIndex free h = inl (inl tt)
no-other d later side n AfterIndex t free h = absurd h
no-other d later side n AfterTerm t free h = follow-other later side n t h
no-other d later side n AfterParen t free h = absurd cc
no-other d later side n AfterModulus token.CloseModulus free h = inl (inl tt)
no-other d later side n AfterModulus t free h = absurd h
no-other d later side n AfterClose (token.Stop last) free h = inl (inl tt)
no-other d later side n AfterClose t free h = absurd h

finish-mark : (d later : ℕ) (side : Side) (n : ℕ) (point : Point) (t : Token) (begun y : Text) → is_bounded point ≡ false → MayStand d later side n point t → begun ≢ [] → SpellsToken t (begun ++ y) → Finished (InLine d later side n point) begun
finish-mark d later side n point t begun y free h some spells = by t h spells (no-other d later side n point t free h)
  where
    by : (t : Token) → MayStand d later side n point t → SpellsToken t (begun ++ y) → IsMark t → Finished (InLine d later side n point) begun
    by t h spells (inl (inl single)) = finish-itself d later side n point t begun free h (single-whole t begun y single some spells)
    by t h spells (inl (inr (v, e))) =
        let numeral : IsNumeral (begun ++ y) v × (v ≤ 10 ^ 15) = subst (λ (x : Token). SpellsToken x (begun ++ y)) e spells in
        let front = front-numeral begun y v some numeral.0 in
        finish-itself d later side n point (token.Literal (value 0 begun)) begun free (literal-any d later side n point v (value 0 begun) (subst (MayStand d later side n point) e h)) (front.0, omega (arith, front.1, numeral.1))
    by t h spells (inr (r, e)) =
        let found = relation-whole r begun y some (subst (λ (x : Token). SpellsToken x (begun ++ y)) e spells) in
        finish-itself d later side n point (token.Relation found.0) begun free (relation-any d later side n point r found.0 (subst (MayStand d later side n point) e h)) found.1

pub finish-line : (d later : ℕ) (side : Side) (n : ℕ) (point : Point) (t : Token) (begun y : Text) → MayStand d later side n point t → begun ≢ [] → SpellsToken t (begun ++ y) → Finished (InLine d later side n point) begun
finish-line d later side n AfterOpen (token.Index i) begun y h some spells =
    let p = positive begun y i d some spells h.1 (omega (arith, h.0, h.1)) in
    record { token_is = token.Index p.number; may = (p.low, p.high); spelled = p.numeral }
finish-line d later side n AfterOpen t begun y h some spells = absurd h
finish-line d later side n AfterParen (token.Modulus m) begun y h some spells =
    let p = positive begun y m (10 ^ 18) some spells.0 spells.2 (omega arith) in
    record { token_is = token.Modulus p.number; may = tt; spelled = (p.numeral, p.low, p.high) }
finish-line d later side n AfterParen t begun y h some spells = absurd h
finish-line d later side n point t begun y h some spells = finish-mark d later side n point t begun y refl h some spells

-- ---- column counts

-- a number of at most two digits, as it is written
abbrev IsShort : ℕ → Text → Type 0
IsShort n ds = (n < 10 → ds ≡ (48 + n) ∷ []) × (10 ≤ n → n < 100 → ds ≡ (48 + n / 10) ∷ (48 + n % 10) ∷ [])

short-one : (n : ℕ) → n < 10 → IsShort n ((48 + n) ∷ [])
short-one n h = ((λ e. refl), λ le lt. absurd (omega (arith, h, le)))

short-more : (n : ℕ) (ds : Text) → 10 ≤ n → IsShort (n / 10) ds → IsShort n (ds ++ ((48 + n % 10) ∷ []))
short-more n ds le h = ((λ lt. absurd (omega (arith, le, lt))), λ le2 lt. rw (h.0 (omega (arith, lt))) refl)

decimal-short : (n : ℕ) → n < 100 → IsShort n (decimal n)
decimal-short n h = decimal_by_steps (λ m ds. IsShort m ds) short-one short-more n (omega (arith, h))

-- digits that do not begin with 0 are how their value is written
written : (ds : Text) (n : ℕ) → IsNumeral ds n → n < 100 → (b : ℕ) (rest : Text) → ds ≡ b ∷ rest → 49 ≤ b → ds ≡ decimal n
written ds n h lt b [] e low =
    let digits : AllByRecursion IsDigit (b ∷ []) = subst (AllByRecursion IsDigit) e h.1 in
    let total : value 0 (b ∷ []) ≡ n = ap (value 0) (sym e) ∙ h.2 in
    let is : n ≡ b - 48 = omega (arith, total) in
    let same : 48 + n ≡ b = omega (arith, is, low) in
    e ∙ ap (λ (x : ℕ). x ∷ []) (sym same) ∙ sym ((decimal-short n lt).0 (omega (arith, is, digits.0.1)))
written ds n h lt b (c ∷ []) e low =
    let digits : AllByRecursion IsDigit (b ∷ c ∷ []) = subst (AllByRecursion IsDigit) e h.1 in
    let total : value 0 (b ∷ c ∷ []) ≡ n = ap (value 0) (sym e) ∙ h.2 in
    let is : n ≡ (b - 48) * 10 + (c - 48) = omega (arith, total) in
    let tens : 48 + n / 10 ≡ b = omega (arith, is, low, digits.0.1, digits.1.0.0, digits.1.0.1) in
    let ones : 48 + n % 10 ≡ c = omega (arith, is, low, digits.0.1, digits.1.0.0, digits.1.0.1) in
    let long : 10 ≤ n = omega (arith, is, low) in
    e ∙ ap (λ (x : ℕ). x ∷ c ∷ []) (sym tens) ∙ ap (λ (x : ℕ). (48 + n / 10) ∷ x ∷ []) (sym ones) ∙ sym ((decimal-short n lt).1 long lt)
written ds n h lt b (c ∷ d ∷ rest) e low =
    let total : value 0 (b ∷ c ∷ d ∷ rest) ≡ n = ap (value 0) (sym e) ∙ h.2 in
    let grows : (((0 * 10 + (b - 48)) * 10 + (c - 48)) * 10 + (d - 48)) ≤ value (((0 * 10 + (b - 48)) * 10 + (c - 48)) * 10 + (d - 48)) rest = value-grows (((0 * 10 + (b - 48)) * 10 + (c - 48)) * 10 + (d - 48)) rest in
    absurd (omega (arith, total, grows, low, lt))

-- zeros, and what does not begin with one
record Parted (begun : Text) : Type 0 where
  zeros : Text
  whole : begun ≡ zeros ++ significant begun
  none : all_zero zeros ≡ true
  digits : AllByRecursion IsDigit begun → AllByRecursion IsDigit zeros
  first : (b : ℕ) (rest : Text) → significant begun ≡ b ∷ rest → IsDigit b → 49 ≤ b

parted : (begun : Text) → Parted begun
parted [] = record { zeros = []; whole = refl; none = refl; digits = λ h. tt; first = λ b rest e h. absurd cc }
parted (b ∷ begun) = by (parted begun) (eqb_tells b 48)
  where
    by : Parted begun → (((b == 48) ≡ true) × (b ≡ 48)) ⊎ (((b == 48) ≡ false) × (b ≢ 48)) → Parted (b ∷ begun)
    by p (inl hit) = record {
      zeros = b ∷ p.zeros;
      whole = rw (hit.0) (ap (λ (x : Text). b ∷ x) p.whole);
      none = rw (hit.0) p.none;
      digits = λ h. (h.0, p.digits h.1);
      first = λ c rest e h. p.first c rest (rw (hit.0) at e) h;
    }
    by p (inr miss) = record {
      zeros = [];
      whole = rw (miss.0) refl;
      none = refl;
      digits = λ h. tt;
      first = λ c rest e h. let shown : b ∷ begun ≡ c ∷ rest = (rw (miss.0) at e) in let same : b ≡ c = cc in omega (arith, h.0, miss.1, same);
    }

-- zeros and a numeral
with-zeros : (zeros ds : Text) (n : ℕ) → all_zero zeros ≡ true → AllByRecursion IsDigit zeros → IsNumeral ds n → IsNumeral (zeros ++ ds) n
with-zeros zeros ds n none digits h = ((λ e. h.0 (append-none zeros ds e)), all-both IsDigit zeros ds digits h.1, value-append 0 zeros ds ∙ ap (λ (x : ℕ). value x ds) (zeros-value zeros none) ∙ h.2)
  where
    append-none : (a b : Text) → a ++ b ≡ [] → b ≡ []
    append-none [] b e = e
    append-none (x ∷ a) b e = absurd cc

-- the column count of a further matrix
record Counted (least : ℕ) (begun : Text) : Type 0 where
  number : ℕ
  allowed : (number ≡ least) ⊎ (number ≡ least + 1)
  numeral : IsNumeral (begun ++ numeral_rest least (significant begun)) number

counted : (least c : ℕ) (begun y : Text) → least ≤ 64 → begun ≢ [] → IsNumeral (begun ++ y) c → (c ≡ least) ⊎ (c ≡ least + 1) → Counted least begun
counted least c begun y le some h allowed = by (significant begun) refl (begins_so (significant begun) (decimal least)) refl
  where
    p : Parted begun
    p = parted begun

    zeros : AllByRecursion IsDigit p.zeros
    zeros = p.digits (all-front IsDigit begun y h.1)

    -- with the digits of this number
    whole : (m : ℕ) (rest : Text) → m < 2 ^ 64 → significant begun ++ rest ≡ decimal m → IsNumeral (begun ++ rest) m
    whole m rest lt e =
        let text : begun ++ rest ≡ p.zeros ++ decimal m = ap (λ (x : Text). x ++ rest) p.whole ∙ append_assoc p.zeros (significant begun) rest ∙ ap (λ (x : Text). p.zeros ++ x) e in
        subst (λ (x : Text). IsNumeral x m) (sym text) (with-zeros p.zeros (decimal m) m p.none zeros (decimal-numeral m lt))

    small : c < 100
    small = elim allowed [ inl e ↦ omega (arith, e, le) | inr e ↦ omega (arith, e, le) ]

    -- the digits of c
    digits : (b : ℕ) (u : Text) → significant begun ≡ b ∷ u → significant begun ++ y ≡ decimal c
    digits b u e =
        let all : begun ++ y ≡ p.zeros ++ (significant begun ++ y) = ap (λ (x : Text). x ++ y) p.whole ∙ append_assoc p.zeros (significant begun) y in
        let each : AllByRecursion IsDigit (p.zeros ++ (significant begun ++ y)) = subst (AllByRecursion IsDigit) all h.1 in
        let own : AllByRecursion IsDigit (significant begun ++ y) = all-back IsDigit p.zeros (significant begun ++ y) each in
        let total : value 0 (significant begun ++ y) ≡ c = sym (value-append 0 p.zeros (significant begun ++ y) ∙ ap (λ (x : ℕ). value x (significant begun ++ y)) (zeros-value p.zeros p.none)) ∙ ap (value 0) (sym all) ∙ h.2 in
        let first : significant begun ++ y ≡ b ∷ (u ++ y) = ap (λ (x : Text). x ++ y) e in
        let digit : IsDigit b = (subst (AllByRecursion IsDigit) first own).0 in
        written (significant begun ++ y) c ((λ z. let bad : b ∷ (u ++ y) ≡ [] = sym first ∙ z in cc), own, total) small b (u ++ y) first (p.first b u e digit)

    by : (sig : Text) → significant begun ≡ sig → (so : Bool) → begins_so (significant begun) (decimal least) ≡ so → Counted least begun
    by sig es true e = record { number = least; allowed = inl refl; numeral = rw e (whole least (drop (length (significant begun)) (decimal least)) (omega (arith, le)) (so-whole (significant begun) (decimal least) e)) }
    by [] es false e = let bad : true ≡ false = sym (ap (λ (x : Text). begins_so x (decimal least)) es) ∙ e in absurd cc
    by (b ∷ u) es false e = elim allowed [
      | inl same ↦ let bad : true ≡ false = sym (begun-so (significant begun) y (decimal least) (digits b u es ∙ ap (λ (x : ℕ). decimal x) same)) ∙ e in absurd cc
      | inr same ↦ record { number = least + 1; allowed = inr refl; numeral = rw e (whole (least + 1) (drop (length (significant begun)) (decimal (least + 1))) (omega (arith, le)) (rest-whole (significant begun) y (decimal (least + 1)) (digits b u es ∙ ap (λ (x : ℕ). decimal x) same))) }
    ]

pub finish-columns : (fixed n c : ℕ) (begun y : Text) → fixed ≤ 64 → IsColumnCount fixed c → begun ≢ [] → IsNumeral (begun ++ y) c → Finished (AtColumns fixed n) begun
finish-columns zero n c begun y le h some spells =
    let p = positive begun y c 65 some spells h.1 (omega arith) in
    record { token_is = token.ColumnCount p.number; may = (p.low, p.high); spelled = p.numeral }
finish-columns (suc d) n c begun y le h some spells =
    let k = counted (suc d) c begun y le some spells (elim h [ inl e ↦ inl e | inr e ↦ inr (omega (arith, e)) ]) in
    record { token_is = token.ColumnCount k.number; may = elim (k.allowed) [ inl e ↦ inl e | inr e ↦ inr (omega (arith, e)) ]; spelled = rw no-zero k.numeral }
  where
    no-zero : (suc d == 0) ≡ false
    no-zero = grind (arith, nat_tests)
