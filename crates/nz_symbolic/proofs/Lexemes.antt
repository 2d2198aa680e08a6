-- A piece of a token is solid and not empty, and what may stand straight behind it.
use Rattle.std.proofs.Common.{◌≡◌, ◌≢◌, ℕ, Bool, true, false, [], ◌∷◌, ◌++◌, sym, ap, subst, ◌∙◌, arith}
use Rattle.std.specs.Prelude.{◌==◌, ◌||◌, if◌then◌else◌, codes}
use Rattle.nz_vec.specs.Texts.{Text}
use Rattle.nz_text.specs.declared.pieces.Class.TheVariants.{Solid}
use Rattle.nz_text.specs.Bytes.{IsSolid, class_of}
use Rattle.nz_input.specs.Symbols.{IsDigit}
use Rattle.nz_input.specs.Layouts.{Gap, Break}
use Rattle.nz_input.proofs.Pieces.{digit-solid, digits-solid, spells-solid, spells-some}
use Rattle.nz_symbolic.specs.declared.symbol.Sign.{Sign}
use Rattle.nz_symbolic.specs.declared.symbol.Sign.TheVariants.{Plus, Minus}
use Rattle.nz_symbolic.specs.declared.symbol.Relation.{Relation}
use Rattle.nz_symbolic.specs.declared.symbol.Relation.TheVariants.{AtLeast, AtMost, Above, Below, Equal}
use Rattle.nz_symbolic.specs.declared.symbol.OldType.{OldType}
use Rattle.nz_symbolic.specs.declared.symbol.OldType.TheVariants as old
use Rattle.nz_symbolic.specs.declared.symbol.Token.{Token}
use Rattle.nz_symbolic.specs.declared.symbol.Token.TheVariants as token
use Rattle.nz_symbolic.specs.Words.{constraints, symbolic, sign_text, relation_text, type_text}
use Rattle.nz_symbolic.specs.Symbols.{SpellsToken}
use Rattle.nz_symbolic.specs.Texts.{behind_token, behind}
use Rattle.nz_symbolic.specs.declared.point.Side.{Side}
use Rattle.nz_symbolic.specs.declared.point.Side.TheVariants.{Right}
use Rattle.nz_symbolic.specs.declared.point.Point.{Point}
use Rattle.nz_symbolic.specs.declared.point.Point.TheVariants.{AtSum, AtTerm, AfterLiteral, AfterStar, AfterVariable, AfterOpen, AfterIndex, AfterTerm, AfterParen, AfterModulus, AfterClose}
use Rattle.nz_symbolic.specs.Sit.{Sit, AtOpening, InPlain, AtConstraints, AtName, InLine, AtFurther, AtColumns, AtFigure, AtType, MayStand, MayToken, next_token, behind_point, AheadOf}

-- ---- a piece is solid and not empty

sign-solid : (s : Sign) → IsSolid (sign_text s)
sign-solid Plus = search
sign-solid Minus = search

relation-solid : (r : Relation) → IsSolid (relation_text r)
relation-solid AtLeast = search
relation-solid AtMost = search
relation-solid Above = search
relation-solid Below = search
relation-solid Equal = search

type-solid : (y : OldType) → IsSolid (type_text y)
type-solid old.Cone = search
type-solid old.IntegralClosure = search
type-solid old.ConeAndLattice = search
type-solid old.Normalization = search
type-solid old.Inequalities = search
type-solid old.Equations = search
type-solid old.Congruences = search
type-solid old.Signs = search
type-solid old.StrictSigns = search
type-solid old.Grading = search

constraints-solid : IsSolid constraints
constraints-solid = search

symbolic-solid : IsSolid symbolic
symbolic-solid = search

star-solid : IsSolid (codes "*")
star-solid = search

variable-solid : IsSolid (codes "x")
variable-solid = search

open-index-solid : IsSolid (codes "[")
open-index-solid = search

close-index-solid : IsSolid (codes "]")
close-index-solid = search

tilde-solid : IsSolid (codes "~")
tilde-solid = search

open-modulus-solid : IsSolid (codes "(")
open-modulus-solid = search

close-modulus-solid : IsSolid (codes ")")
close-modulus-solid = search

stop-solid : IsSolid (codes ";")
stop-solid = search

pub token-solid : (t : Token) (piece : Text) → SpellsToken t piece → IsSolid piece
token-solid (token.Plain s) piece h = spells-solid s piece h
token-solid token.Constraints piece h = rw h constraints-solid
token-solid token.Symbolic piece h = rw h symbolic-solid
token-solid (token.Sign s) piece h = rw h (sign-solid s)
token-solid (token.Literal v) piece h = digits-solid piece h.0.1
token-solid token.Star piece h = rw h star-solid
token-solid token.Variable piece h = rw h variable-solid
token-solid token.OpenIndex piece h = rw h open-index-solid
token-solid (token.Index i) piece h = digits-solid piece h.1
token-solid token.CloseIndex piece h = rw h close-index-solid
token-solid (token.Relation r) piece h = rw h (relation-solid r)
token-solid token.Tilde piece h = rw h tilde-solid
token-solid token.OpenModulus piece h = rw h open-modulus-solid
token-solid (token.Modulus m) piece h = digits-solid piece h.0.1
token-solid token.CloseModulus piece h = rw h close-modulus-solid
token-solid (token.Stop last) piece h = rw h stop-solid
token-solid (token.RowCount v) piece h = digits-solid piece h.0.1
token-solid (token.ColumnCount v) piece h = digits-solid piece h.1
token-solid (token.Typed y) piece h = rw h (type-solid y)

sign-some : (s : Sign) → sign_text s ≢ []
sign-some Plus e = cc
sign-some Minus e = cc

relation-some : (r : Relation) → relation_text r ≢ []
relation-some AtLeast e = cc
relation-some AtMost e = cc
relation-some Above e = cc
relation-some Below e = cc
relation-some Equal e = cc

type-some : (y : OldType) → type_text y ≢ []
type-some old.Cone e = cc
type-some old.IntegralClosure e = cc
type-some old.ConeAndLattice e = cc
type-some old.Normalization e = cc
type-some old.Inequalities e = cc
type-some old.Equations e = cc
type-some old.Congruences e = cc
type-some old.Signs e = cc
type-some old.StrictSigns e = cc
type-some old.Grading e = cc

pub token-some : (t : Token) (piece : Text) → SpellsToken t piece → piece ≢ []
token-some (token.Plain s) piece h e = spells-some s piece h e
token-some token.Constraints piece h e = cc
token-some token.Symbolic piece h e = cc
token-some (token.Sign s) piece h e = sign-some s (sym h ∙ e)
token-some (token.Literal v) piece h e = h.0.0 e
token-some token.Star piece h e = cc
token-some token.Variable piece h e = cc
token-some token.OpenIndex piece h e = cc
token-some (token.Index i) piece h e = h.0 e
token-some token.CloseIndex piece h e = cc
token-some (token.Relation r) piece h e = relation-some r (sym h ∙ e)
token-some token.Tilde piece h e = cc
token-some token.OpenModulus piece h e = cc
token-some (token.Modulus m) piece h e = h.0.0 e
token-some token.CloseModulus piece h e = cc
token-some (token.Stop last) piece h e = cc
token-some (token.RowCount v) piece h e = h.0.0 e
token-some (token.ColumnCount v) piece h e = h.0 e
token-some (token.Typed y) piece h e = type-some y (sym h ∙ e)

-- ---- what may stand straight behind

not-solid-digit : (b : ℕ) → class_of b ≢ Solid → IsDigit b → ⊥
not-solid-digit b n d = n (digit-solid b d)

not-solid-equals : (b : ℕ) → class_of b ≢ Solid → b ≡ 61 → ⊥
not-solid-equals b n e = n (ap class_of e)

edge-relation : (r : Relation) (b : ℕ) → class_of b ≢ Solid → AheadOf (token.Relation r) b
edge-relation AtLeast b n = tt
edge-relation AtMost b n = tt
edge-relation Above b n = not-solid-equals b n
edge-relation Below b n = not-solid-equals b n
edge-relation Equal b n = tt

edge-stop : (last : Bool) (b : ℕ) → class_of b ≢ Solid → AheadOf (token.Stop last) b
edge-stop true b n = n
edge-stop false b n = tt

pub edge-token : (t : Token) (b : ℕ) → class_of b ≢ Solid → AheadOf t b
edge-token (token.Plain s) b n = n
edge-token token.Constraints b n = n
edge-token token.Symbolic b n = n
edge-token (token.Sign s) b n = tt
edge-token (token.Literal v) b n = not-solid-digit b n
edge-token token.Star b n = tt
edge-token token.Variable b n = tt
edge-token token.OpenIndex b n = tt
edge-token (token.Index i) b n = not-solid-digit b n
edge-token token.CloseIndex b n = tt
edge-token (token.Relation r) b n = edge-relation r b n
edge-token token.Tilde b n = tt
edge-token token.OpenModulus b n = tt
edge-token (token.Modulus m) b n = not-solid-digit b n
edge-token token.CloseModulus b n = tt
edge-token (token.Stop last) b n = edge-stop last b n
edge-token (token.RowCount v) b n = n
edge-token (token.ColumnCount v) b n = n
edge-token (token.Typed y) b n = n

break-stop : (last : Bool) (b : ℕ) → behind_token (token.Stop last) ≡ Break → AheadOf (token.Stop last) b → class_of b ≢ Solid
break-stop true b e h = h
break-stop false b e h = absurd cc

pub break-token : (t : Token) (b : ℕ) → behind_token t ≡ Break → AheadOf t b → class_of b ≢ Solid
break-token (token.Plain s) b e h = h
break-token token.Constraints b e h = h
break-token token.Symbolic b e h = h
break-token (token.Stop last) b e h = break-stop last b e h
break-token (token.RowCount v) b e h = h
break-token (token.ColumnCount v) b e h = h
break-token (token.Typed y) b e h = h
break-token t b e h = absurd cc

not-digit : (b c : ℕ) (piece rest : Text) → b ∷ piece ≡ c ∷ rest → (IsDigit c → ⊥) → IsDigit b → ⊥
not-digit b c piece rest e n d = let same : b ≡ c = cc in n (subst IsDigit same d)

not-equals : (b c : ℕ) (piece rest : Text) → b ∷ piece ≡ c ∷ rest → c ≢ 61 → b ≡ 61 → ⊥
not-equals b c piece rest e n d = let same : b ≡ c = cc in n (sym same ∙ d)

relation-first : (r : Relation) (b : ℕ) (piece : Text) → b ∷ piece ≡ relation_text r → IsDigit b → ⊥
relation-first AtLeast b piece e = not-digit b 62 piece (codes "=") e (λ d. absurd (omega arith))
relation-first AtMost b piece e = not-digit b 60 piece (codes "=") e (λ d. absurd (omega arith))
relation-first Above b piece e = not-digit b 62 piece [] e (λ d. absurd (omega arith))
relation-first Below b piece e = not-digit b 60 piece [] e (λ d. absurd (omega arith))
relation-first Equal b piece e = not-digit b 61 piece [] e (λ d. absurd (omega arith))

sign-first : (s : Sign) (b : ℕ) (piece : Text) → b ∷ piece ≡ sign_text s → IsDigit b → ⊥
sign-first Plus b piece e = not-digit b 43 piece [] e (λ d. absurd (omega arith))
sign-first Minus b piece e = not-digit b 45 piece [] e (λ d. absurd (omega arith))

-- no digit begins what may stand behind a literal
behind-literal : (d later : ℕ) (side : Side) (n : ℕ) (t : Token) (b : ℕ) (piece : Text) → MayStand d later side n AfterLiteral t → SpellsToken t (b ∷ piece) → IsDigit b → ⊥
behind-literal d later side n (token.Sign s) b piece may h = sign-first s b piece h
behind-literal d later side n token.Star b piece may h = not-digit b 42 piece [] h (λ x. absurd (omega arith))
behind-literal d later side n token.Variable b piece may h = not-digit b 120 piece [] h (λ x. absurd (omega arith))
behind-literal d later side n (token.Relation r) b piece may h = relation-first r b piece h
behind-literal d later side n token.Tilde b piece may h = not-digit b 126 piece [] h (λ x. absurd (omega arith))
behind-literal d later side n token.OpenModulus b piece may h = not-digit b 40 piece [] h (λ x. absurd (omega arith))
behind-literal d later side n (token.Stop last) b piece may h = not-digit b 59 piece [] h (λ x. absurd (omega arith))
behind-literal d later side n t b piece may h = absurd may

sign-equals : (s : Sign) (b : ℕ) (piece : Text) → b ∷ piece ≡ sign_text s → b ≡ 61 → ⊥
sign-equals Plus b piece e = not-equals b 43 piece [] e (λ x. absurd (omega arith))
sign-equals Minus b piece e = not-equals b 45 piece [] e (λ x. absurd (omega arith))

-- no `=` begins a sum
sum-first : (d later : ℕ) (side : Side) (n : ℕ) (t : Token) (b : ℕ) (piece : Text) → MayStand d later side n AtSum t → SpellsToken t (b ∷ piece) → b ≡ 61 → ⊥
sum-first d later side n (token.Sign s) b piece may h = sign-equals s b piece h
sum-first d later side n (token.Literal v) b piece may h = λ e. let digit : IsDigit b = h.0.1.0 in absurd (omega arith)
sum-first d later side n token.Variable b piece may h = not-equals b 120 piece [] h (λ x. absurd (omega arith))
sum-first d later side n t b piece may h = absurd may

close-index-first : (d later : ℕ) (side : Side) (n : ℕ) (t : Token) (b : ℕ) (piece : Text) → MayStand d later side n AfterIndex t → SpellsToken t (b ∷ piece) → IsDigit b → ⊥
close-index-first d later side n token.CloseIndex b piece may h = not-digit b 93 piece [] h (λ x. absurd (omega arith))
close-index-first d later side n t b piece may h = absurd may

close-modulus-first : (d later : ℕ) (side : Side) (n : ℕ) (t : Token) (b : ℕ) (piece : Text) → MayStand d later side n AfterModulus t → SpellsToken t (b ∷ piece) → IsDigit b → ⊥
close-modulus-first d later side n token.CloseModulus b piece may h = not-digit b 41 piece [] h (λ x. absurd (omega arith))
close-modulus-first d later side n t b piece may h = absurd may

-- behind a relation a sum begins
relation-ahead : (d later : ℕ) (side : Side) (n : ℕ) (point : Point) (r : Relation) (t : Token) (b : ℕ) (piece : Text) → MayStand d later side n point (token.Relation r) → MayToken (behind_point d later side n point (token.Relation r)) t → SpellsToken t (b ∷ piece) → AheadOf (token.Relation r) b
relation-ahead d later side n AtSum r t b piece may go h = absurd may
relation-ahead d later side n AtTerm r t b piece may go h = absurd may
relation-ahead d later side n AfterLiteral AtLeast t b piece may go h = tt
relation-ahead d later side n AfterLiteral AtMost t b piece may go h = tt
relation-ahead d later side n AfterLiteral Above t b piece may go h = sum-first d later (Right false) 0 t b piece go h
relation-ahead d later side n AfterLiteral Below t b piece may go h = sum-first d later (Right false) 0 t b piece go h
relation-ahead d later side n AfterLiteral Equal t b piece may go h = tt
relation-ahead d later side n AfterStar r t b piece may go h = absurd may
relation-ahead d later side n AfterVariable r t b piece may go h = absurd may
relation-ahead d later side n AfterOpen r t b piece may go h = absurd may
relation-ahead d later side n AfterIndex r t b piece may go h = absurd may
relation-ahead d later side n AfterTerm AtLeast t b piece may go h = tt
relation-ahead d later side n AfterTerm AtMost t b piece may go h = tt
relation-ahead d later side n AfterTerm Above t b piece may go h = sum-first d later (Right false) 0 t b piece go h
relation-ahead d later side n AfterTerm Below t b piece may go h = sum-first d later (Right false) 0 t b piece go h
relation-ahead d later side n AfterTerm Equal t b piece may go h = tt
relation-ahead d later side n AfterParen r t b piece may go h = absurd may
relation-ahead d later side n AfterModulus r t b piece may go h = absurd may
relation-ahead d later side n AfterClose r t b piece may go h = absurd may

literal-ahead : (d later : ℕ) (side : Side) (n : ℕ) (point : Point) (v : ℕ) (t : Token) (b : ℕ) (piece : Text) → MayStand d later side n point (token.Literal v) → MayToken (behind_point d later side n point (token.Literal v)) t → SpellsToken t (b ∷ piece) → IsDigit b → ⊥
literal-ahead d later side n AtSum v t b piece may go h = behind-literal d later side 1 t b piece go h
literal-ahead d later side n AtTerm v t b piece may go h = behind-literal d later side n t b piece go h
literal-ahead d later side n AfterLiteral v t b piece may go h = absurd may
literal-ahead d later side n AfterStar v t b piece may go h = absurd may
literal-ahead d later side n AfterVariable v t b piece may go h = absurd may
literal-ahead d later side n AfterOpen v t b piece may go h = absurd may
literal-ahead d later side n AfterIndex v t b piece may go h = absurd may
literal-ahead d later side n AfterTerm v t b piece may go h = absurd may
literal-ahead d later side n AfterParen v t b piece may go h = absurd may
literal-ahead d later side n AfterModulus v t b piece may go h = absurd may
literal-ahead d later side n AfterClose v t b piece may go h = absurd may

index-ahead : (d later : ℕ) (side : Side) (n : ℕ) (point : Point) (v : ℕ) (t : Token) (b : ℕ) (piece : Text) → MayStand d later side n point (token.Index v) → MayToken (behind_point d later side n point (token.Index v)) t → SpellsToken t (b ∷ piece) → IsDigit b → ⊥
index-ahead d later side n AtSum v t b piece may go h = absurd may
index-ahead d later side n AtTerm v t b piece may go h = absurd may
index-ahead d later side n AfterLiteral v t b piece may go h = absurd may
index-ahead d later side n AfterStar v t b piece may go h = absurd may
index-ahead d later side n AfterVariable v t b piece may go h = absurd may
index-ahead d later side n AfterOpen v t b piece may go h = close-index-first d later side n t b piece go h
index-ahead d later side n AfterIndex v t b piece may go h = absurd may
index-ahead d later side n AfterTerm v t b piece may go h = absurd may
index-ahead d later side n AfterParen v t b piece may go h = absurd may
index-ahead d later side n AfterModulus v t b piece may go h = absurd may
index-ahead d later side n AfterClose v t b piece may go h = absurd may

modulus-ahead : (d later : ℕ) (side : Side) (n : ℕ) (point : Point) (v : ℕ) (t : Token) (b : ℕ) (piece : Text) → MayStand d later side n point (token.Modulus v) → MayToken (behind_point d later side n point (token.Modulus v)) t → SpellsToken t (b ∷ piece) → IsDigit b → ⊥
modulus-ahead d later side n AtSum v t b piece may go h = absurd may
modulus-ahead d later side n AtTerm v t b piece may go h = absurd may
modulus-ahead d later side n AfterLiteral v t b piece may go h = absurd may
modulus-ahead d later side n AfterStar v t b piece may go h = absurd may
modulus-ahead d later side n AfterVariable v t b piece may go h = absurd may
modulus-ahead d later side n AfterOpen v t b piece may go h = absurd may
modulus-ahead d later side n AfterIndex v t b piece may go h = absurd may
modulus-ahead d later side n AfterTerm v t b piece may go h = absurd may
modulus-ahead d later side n AfterParen v t b piece may go h = close-modulus-first d later side n t b piece go h
modulus-ahead d later side n AfterModulus v t b piece may go h = absurd may
modulus-ahead d later side n AfterClose v t b piece may go h = absurd may

gap-stop : (last : Bool) (b : ℕ) → behind_token (token.Stop last) ≡ Gap → AheadOf (token.Stop last) b
gap-stop true b e = absurd cc
gap-stop false b e = tt

-- in a constraint
line-ahead : (d later : ℕ) (side : Side) (n : ℕ) (point : Point) (s t : Token) (b : ℕ) (piece : Text) → MayStand d later side n point s → MayToken (behind_point d later side n point s) t → SpellsToken t (b ∷ piece) → behind_token s ≡ Gap → AheadOf s b
line-ahead d later side n point (token.Sign s) t b piece may go h e = tt
line-ahead d later side n point (token.Literal v) t b piece may go h e = literal-ahead d later side n point v t b piece may go h
line-ahead d later side n point token.Star t b piece may go h e = tt
line-ahead d later side n point token.Variable t b piece may go h e = tt
line-ahead d later side n point token.OpenIndex t b piece may go h e = tt
line-ahead d later side n point (token.Index i) t b piece may go h e = index-ahead d later side n point i t b piece may go h
line-ahead d later side n point token.CloseIndex t b piece may go h e = tt
line-ahead d later side n point (token.Relation r) t b piece may go h e = relation-ahead d later side n point r t b piece may go h
line-ahead d later side n point token.Tilde t b piece may go h e = tt
line-ahead d later side n point token.OpenModulus t b piece may go h e = tt
line-ahead d later side n point (token.Modulus m) t b piece may go h e = modulus-ahead d later side n point m t b piece may go h
line-ahead d later side n point token.CloseModulus t b piece may go h e = tt
line-ahead d later side n point (token.Stop last) t b piece may go h e = gap-stop last b e
line-ahead d later side n point k t b piece may go h e = absurd cc

pub next-ahead : (q : Sit) (s t : Token) (b : ℕ) (piece : Text) → MayToken q s → MayToken (next_token q s) t → SpellsToken t (b ∷ piece) → behind_token s ≡ Gap → AheadOf s b
next-ahead (InLine d later side n point) s t b piece may go h e = line-ahead d later side n point s t b piece may go h e
next-ahead AtOpening (token.Plain s) t b piece may go h e = absurd cc
next-ahead AtOpening token.Constraints t b piece may go h e = absurd may
next-ahead AtOpening token.Symbolic t b piece may go h e = absurd may
next-ahead AtOpening (token.Sign s) t b piece may go h e = absurd may
next-ahead AtOpening (token.Literal v) t b piece may go h e = absurd may
next-ahead AtOpening token.Star t b piece may go h e = absurd may
next-ahead AtOpening token.Variable t b piece may go h e = absurd may
next-ahead AtOpening token.OpenIndex t b piece may go h e = absurd may
next-ahead AtOpening (token.Index i) t b piece may go h e = absurd may
next-ahead AtOpening token.CloseIndex t b piece may go h e = absurd may
next-ahead AtOpening (token.Relation r) t b piece may go h e = absurd may
next-ahead AtOpening token.Tilde t b piece may go h e = absurd may
next-ahead AtOpening token.OpenModulus t b piece may go h e = absurd may
next-ahead AtOpening (token.Modulus m) t b piece may go h e = absurd may
next-ahead AtOpening token.CloseModulus t b piece may go h e = absurd may
next-ahead AtOpening (token.Stop last) t b piece may go h e = absurd may
next-ahead AtOpening (token.RowCount v) t b piece may go h e = absurd cc
next-ahead AtOpening (token.ColumnCount v) t b piece may go h e = absurd may
next-ahead AtOpening (token.Typed y) t b piece may go h e = absurd may
next-ahead (InPlain sit) (token.Plain s) t b piece may go h e = absurd cc
next-ahead (InPlain sit) token.Constraints t b piece may go h e = absurd cc
next-ahead (InPlain sit) token.Symbolic t b piece may go h e = absurd may
next-ahead (InPlain sit) (token.Sign s) t b piece may go h e = absurd may
next-ahead (InPlain sit) (token.Literal v) t b piece may go h e = absurd may
next-ahead (InPlain sit) token.Star t b piece may go h e = absurd may
next-ahead (InPlain sit) token.Variable t b piece may go h e = absurd may
next-ahead (InPlain sit) token.OpenIndex t b piece may go h e = absurd may
next-ahead (InPlain sit) (token.Index i) t b piece may go h e = absurd may
next-ahead (InPlain sit) token.CloseIndex t b piece may go h e = absurd may
next-ahead (InPlain sit) (token.Relation r) t b piece may go h e = absurd may
next-ahead (InPlain sit) token.Tilde t b piece may go h e = absurd may
next-ahead (InPlain sit) token.OpenModulus t b piece may go h e = absurd may
next-ahead (InPlain sit) (token.Modulus m) t b piece may go h e = absurd may
next-ahead (InPlain sit) token.CloseModulus t b piece may go h e = absurd may
next-ahead (InPlain sit) (token.Stop last) t b piece may go h e = absurd may
next-ahead (InPlain sit) (token.RowCount v) t b piece may go h e = absurd may
next-ahead (InPlain sit) (token.ColumnCount v) t b piece may go h e = absurd may
next-ahead (InPlain sit) (token.Typed y) t b piece may go h e = absurd may
next-ahead (AtConstraints d) (token.Plain s) t b piece may go h e = absurd cc
next-ahead (AtConstraints d) token.Constraints t b piece may go h e = absurd may
next-ahead (AtConstraints d) token.Symbolic t b piece may go h e = absurd may
next-ahead (AtConstraints d) (token.Sign s) t b piece may go h e = absurd may
next-ahead (AtConstraints d) (token.Literal v) t b piece may go h e = absurd may
next-ahead (AtConstraints d) token.Star t b piece may go h e = absurd may
next-ahead (AtConstraints d) token.Variable t b piece may go h e = absurd may
next-ahead (AtConstraints d) token.OpenIndex t b piece may go h e = absurd may
next-ahead (AtConstraints d) (token.Index i) t b piece may go h e = absurd may
next-ahead (AtConstraints d) token.CloseIndex t b piece may go h e = absurd may
next-ahead (AtConstraints d) (token.Relation r) t b piece may go h e = absurd may
next-ahead (AtConstraints d) token.Tilde t b piece may go h e = absurd may
next-ahead (AtConstraints d) token.OpenModulus t b piece may go h e = absurd may
next-ahead (AtConstraints d) (token.Modulus m) t b piece may go h e = absurd may
next-ahead (AtConstraints d) token.CloseModulus t b piece may go h e = absurd may
next-ahead (AtConstraints d) (token.Stop last) t b piece may go h e = absurd may
next-ahead (AtConstraints d) (token.RowCount v) t b piece may go h e = absurd may
next-ahead (AtConstraints d) (token.ColumnCount v) t b piece may go h e = absurd may
next-ahead (AtConstraints d) (token.Typed y) t b piece may go h e = absurd may
next-ahead (AtName d n) (token.Plain s) t b piece may go h e = absurd may
next-ahead (AtName d n) token.Constraints t b piece may go h e = absurd may
next-ahead (AtName d n) token.Symbolic t b piece may go h e = absurd cc
next-ahead (AtName d n) (token.Sign s) t b piece may go h e = absurd may
next-ahead (AtName d n) (token.Literal v) t b piece may go h e = absurd may
next-ahead (AtName d n) token.Star t b piece may go h e = absurd may
next-ahead (AtName d n) token.Variable t b piece may go h e = absurd may
next-ahead (AtName d n) token.OpenIndex t b piece may go h e = absurd may
next-ahead (AtName d n) (token.Index i) t b piece may go h e = absurd may
next-ahead (AtName d n) token.CloseIndex t b piece may go h e = absurd may
next-ahead (AtName d n) (token.Relation r) t b piece may go h e = absurd may
next-ahead (AtName d n) token.Tilde t b piece may go h e = absurd may
next-ahead (AtName d n) token.OpenModulus t b piece may go h e = absurd may
next-ahead (AtName d n) (token.Modulus m) t b piece may go h e = absurd may
next-ahead (AtName d n) token.CloseModulus t b piece may go h e = absurd may
next-ahead (AtName d n) (token.Stop last) t b piece may go h e = absurd may
next-ahead (AtName d n) (token.RowCount v) t b piece may go h e = absurd may
next-ahead (AtName d n) (token.ColumnCount v) t b piece may go h e = absurd may
next-ahead (AtName d n) (token.Typed y) t b piece may go h e = absurd may
next-ahead (AtFurther d) (token.Plain s) t b piece may go h e = absurd may
next-ahead (AtFurther d) token.Constraints t b piece may go h e = absurd may
next-ahead (AtFurther d) token.Symbolic t b piece may go h e = absurd may
next-ahead (AtFurther d) (token.Sign s) t b piece may go h e = absurd may
next-ahead (AtFurther d) (token.Literal v) t b piece may go h e = absurd may
next-ahead (AtFurther d) token.Star t b piece may go h e = absurd may
next-ahead (AtFurther d) token.Variable t b piece may go h e = absurd may
next-ahead (AtFurther d) token.OpenIndex t b piece may go h e = absurd may
next-ahead (AtFurther d) (token.Index i) t b piece may go h e = absurd may
next-ahead (AtFurther d) token.CloseIndex t b piece may go h e = absurd may
next-ahead (AtFurther d) (token.Relation r) t b piece may go h e = absurd may
next-ahead (AtFurther d) token.Tilde t b piece may go h e = absurd may
next-ahead (AtFurther d) token.OpenModulus t b piece may go h e = absurd may
next-ahead (AtFurther d) (token.Modulus m) t b piece may go h e = absurd may
next-ahead (AtFurther d) token.CloseModulus t b piece may go h e = absurd may
next-ahead (AtFurther d) (token.Stop last) t b piece may go h e = absurd may
next-ahead (AtFurther d) (token.RowCount v) t b piece may go h e = absurd cc
next-ahead (AtFurther d) (token.ColumnCount v) t b piece may go h e = absurd may
next-ahead (AtFurther d) (token.Typed y) t b piece may go h e = absurd may
next-ahead (AtColumns fixed n) (token.Plain s) t b piece may go h e = absurd may
next-ahead (AtColumns fixed n) token.Constraints t b piece may go h e = absurd may
next-ahead (AtColumns fixed n) token.Symbolic t b piece may go h e = absurd may
next-ahead (AtColumns fixed n) (token.Sign s) t b piece may go h e = absurd may
next-ahead (AtColumns fixed n) (token.Literal v) t b piece may go h e = absurd may
next-ahead (AtColumns fixed n) token.Star t b piece may go h e = absurd may
next-ahead (AtColumns fixed n) token.Variable t b piece may go h e = absurd may
next-ahead (AtColumns fixed n) token.OpenIndex t b piece may go h e = absurd may
next-ahead (AtColumns fixed n) (token.Index i) t b piece may go h e = absurd may
next-ahead (AtColumns fixed n) token.CloseIndex t b piece may go h e = absurd may
next-ahead (AtColumns fixed n) (token.Relation r) t b piece may go h e = absurd may
next-ahead (AtColumns fixed n) token.Tilde t b piece may go h e = absurd may
next-ahead (AtColumns fixed n) token.OpenModulus t b piece may go h e = absurd may
next-ahead (AtColumns fixed n) (token.Modulus m) t b piece may go h e = absurd may
next-ahead (AtColumns fixed n) token.CloseModulus t b piece may go h e = absurd may
next-ahead (AtColumns fixed n) (token.Stop last) t b piece may go h e = absurd may
next-ahead (AtColumns fixed n) (token.RowCount v) t b piece may go h e = absurd may
next-ahead (AtColumns fixed n) (token.ColumnCount v) t b piece may go h e = absurd cc
next-ahead (AtColumns fixed n) (token.Typed y) t b piece may go h e = absurd may
next-ahead (AtFigure fixed n c more) (token.Plain s) t b piece may go h e = absurd cc
next-ahead (AtFigure fixed n c more) token.Constraints t b piece may go h e = absurd may
next-ahead (AtFigure fixed n c more) token.Symbolic t b piece may go h e = absurd may
next-ahead (AtFigure fixed n c more) (token.Sign s) t b piece may go h e = absurd may
next-ahead (AtFigure fixed n c more) (token.Literal v) t b piece may go h e = absurd may
next-ahead (AtFigure fixed n c more) token.Star t b piece may go h e = absurd may
next-ahead (AtFigure fixed n c more) token.Variable t b piece may go h e = absurd may
next-ahead (AtFigure fixed n c more) token.OpenIndex t b piece may go h e = absurd may
next-ahead (AtFigure fixed n c more) (token.Index i) t b piece may go h e = absurd may
next-ahead (AtFigure fixed n c more) token.CloseIndex t b piece may go h e = absurd may
next-ahead (AtFigure fixed n c more) (token.Relation r) t b piece may go h e = absurd may
next-ahead (AtFigure fixed n c more) token.Tilde t b piece may go h e = absurd may
next-ahead (AtFigure fixed n c more) token.OpenModulus t b piece may go h e = absurd may
next-ahead (AtFigure fixed n c more) (token.Modulus m) t b piece may go h e = absurd may
next-ahead (AtFigure fixed n c more) token.CloseModulus t b piece may go h e = absurd may
next-ahead (AtFigure fixed n c more) (token.Stop last) t b piece may go h e = absurd may
next-ahead (AtFigure fixed n c more) (token.RowCount v) t b piece may go h e = absurd may
next-ahead (AtFigure fixed n c more) (token.ColumnCount v) t b piece may go h e = absurd may
next-ahead (AtFigure fixed n c more) (token.Typed y) t b piece may go h e = absurd may
next-ahead (AtType fixed n c) (token.Plain s) t b piece may go h e = absurd may
next-ahead (AtType fixed n c) token.Constraints t b piece may go h e = absurd may
next-ahead (AtType fixed n c) token.Symbolic t b piece may go h e = absurd may
next-ahead (AtType fixed n c) (token.Sign s) t b piece may go h e = absurd may
next-ahead (AtType fixed n c) (token.Literal v) t b piece may go h e = absurd may
next-ahead (AtType fixed n c) token.Star t b piece may go h e = absurd may
next-ahead (AtType fixed n c) token.Variable t b piece may go h e = absurd may
next-ahead (AtType fixed n c) token.OpenIndex t b piece may go h e = absurd may
next-ahead (AtType fixed n c) (token.Index i) t b piece may go h e = absurd may
next-ahead (AtType fixed n c) token.CloseIndex t b piece may go h e = absurd may
next-ahead (AtType fixed n c) (token.Relation r) t b piece may go h e = absurd may
next-ahead (AtType fixed n c) token.Tilde t b piece may go h e = absurd may
next-ahead (AtType fixed n c) token.OpenModulus t b piece may go h e = absurd may
next-ahead (AtType fixed n c) (token.Modulus m) t b piece may go h e = absurd may
next-ahead (AtType fixed n c) token.CloseModulus t b piece may go h e = absurd may
next-ahead (AtType fixed n c) (token.Stop last) t b piece may go h e = absurd may
next-ahead (AtType fixed n c) (token.RowCount v) t b piece may go h e = absurd may
next-ahead (AtType fixed n c) (token.ColumnCount v) t b piece may go h e = absurd may
next-ahead (AtType fixed n c) (token.Typed y) t b piece may go h e = absurd cc
