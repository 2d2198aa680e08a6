-- A type that has begun is completed to one that the rows allow; and each piece that has begun is completed.
use Rattle.std.proofs.Common.{◌≡◌, ◌≢◌, ℕ, zero, suc, ◌+◌, ◌<◌, ◌≤◌, nat_le, Bool, true, false, cond, List, [], ◌∷◌, ◌++◌, length, drop, refl, sym, ap, subst, ◌∙◌, arith, inl, inr, ◌⊎◌}
use Rattle.std.specs.Prelude.{◌==◌, if◌then◌else◌}
use Rattle.std.specs.List.{AllByRecursion}
use Rattle.std.proofs.lemmas.Bool.Decides.{eqb_tells, nat_tests}
use Rattle.std.proofs.lemmas.List.{append-nil}
use Rattle.nz_vec.specs.Texts.{Text}
use Rattle.nz_input.specs.Words.{is_matrix, columns, amb_space}
use Rattle.nz_input.specs.declared.symbol.Symbol.{Symbol}
use Rattle.nz_input.specs.declared.symbol.Symbol.TheVariants as symbol
use Rattle.nz_input.specs.Symbols.{IsDigit, IsNumeral, value, Spells as SpellsPlain}
use Rattle.nz_input.specs.Refusals.{role_of, is_digit}
use Rattle.nz_input.specs.declared.symbol.Role.{Role as PlainRole}
use Rattle.nz_input.specs.declared.symbol.Role.TheVariants as plain
use Rattle.nz_input.specs.Files.{HasRows}
use Rattle.nz_input.proofs.Finishing.{finish as plain-finish}
use Rattle.nz_input.specs.Endings.{begins_so, completion as plain_completion}
use Rattle.nz_symbolic.specs.declared.symbol.OldType.{OldType}
use Rattle.nz_symbolic.specs.declared.symbol.OldType.TheVariants as old
use Rattle.nz_symbolic.specs.declared.symbol.Token.{Token}
use Rattle.nz_symbolic.specs.declared.symbol.Token.TheVariants as token
use Rattle.nz_symbolic.specs.declared.symbol.Role.TheVariants as role
use Rattle.nz_symbolic.specs.Words.{symbolic, type_text, kind_of}
use Rattle.nz_symbolic.specs.Symbols.{SpellsToken, allows_cone}
use Rattle.nz_symbolic.specs.Endings.{TYPES, first_type, type_meant, completion}
use Rattle.nz_symbolic.specs.Sit.{Sit, AtOpening, InPlain, AtConstraints, AtName, InLine, AtFurther, AtColumns, AtFigure, AtType, wants, MayToken, IsColumnCount, IsTypeFor}
use Rattle.nz_symbolic.specs.Left.{IsLive}
use Rattle.nz_symbolic.proofs.Completing.{cone-fits}
use Rattle.nz_symbolic.proofs.Accepting.{columns-are}
use Rattle.nz_symbolic.proofs.Lexing.{is-digit}
use Rattle.nz_symbolic.proofs.Finishing.{Finished, so-whole, begun-so, rest-whole, front-numeral, finish-plain, finish-line, finish-columns}

-- ---- types

type-among : (P : OldType → Type 0) (t : OldType) → AllByRecursion P TYPES → P t
type-among P old.Cone h = h.0
type-among P old.IntegralClosure h = h.1.0
type-among P old.ConeAndLattice h = h.1.1.0
type-among P old.Normalization h = h.1.1.1.0
type-among P old.Inequalities h = h.1.1.1.1.0
type-among P old.Equations h = h.1.1.1.1.1.0
type-among P old.Congruences h = h.1.1.1.1.1.1.0
type-among P old.Signs h = h.1.1.1.1.1.1.1.0
type-among P old.StrictSigns h = h.1.1.1.1.1.1.1.1.0
type-among P old.Grading h = h.1.1.1.1.1.1.1.1.1.0

-- none begins so, or the first that does is found
first-so : (types : List OldType) (begun : Text) → AllByRecursion (λ t. begins_so begun (type_text t) ≡ false) types ⊎ (begins_so begun (type_text (first_type types begun)) ≡ true)
first-so [] begun = inl tt
first-so (t ∷ types) begun = by (begins_so begun (type_text t)) refl (first-so types begun)
  where
    by : (b : Bool) → begins_so begun (type_text t) ≡ b → AllByRecursion (λ u. begins_so begun (type_text u) ≡ false) types ⊎ (begins_so begun (type_text (first_type types begun)) ≡ true) →
        AllByRecursion (λ u. begins_so begun (type_text u) ≡ false) (t ∷ types) ⊎ (begins_so begun (type_text (first_type (t ∷ types) begun)) ≡ true)
    by true e below = inr (ap (λ (c : Bool). begins_so begun (type_text (cond c t (first_type types begun)))) e ∙ e)
    by false e (inl each) = inl (e, each)
    by false e (inr found) = inr (ap (λ (c : Bool). begins_so begun (type_text (cond c t (first_type types begun)))) e ∙ found)

found-so : (t : OldType) (begun : Text) → begins_so begun (type_text t) ≡ true → begins_so begun (type_text (first_type TYPES begun)) ≡ true
found-so t begun h = elim (first-so TYPES begun) [
  | inl each ↦ let bad : true ≡ false = sym h ∙ type-among (λ u. begins_so begun (type_text u) ≡ false) t each in absurd cc
  | inr found ↦ found
]

-- what is before congruences in order does not begin so where they are found
picked : (a b c : Bool) (rest : OldType) → cond a old.Cone (cond b old.IntegralClosure (cond c old.ConeAndLattice rest)) ≡ old.Congruences → (a ≡ false) × (c ≡ false)
picked true b c rest e = absurd cc
picked false true c rest e = absurd cc
picked false false true rest e = absurd cc
picked false false false rest e = (refl, refl)

-- ---- first letters

head_of : Text → ℕ
head_of [] = 0
head_of (a ∷ text) = a

abbrev type_head : OldType → ℕ
type_head old.Cone = 99
type_head old.IntegralClosure = 105
type_head old.ConeAndLattice = 99
type_head old.Normalization = 110
type_head old.Inequalities = 105
type_head old.Equations = 101
type_head old.Congruences = 99
type_head old.Signs = 115
type_head old.StrictSigns = 115
type_head old.Grading = 103

head-is : (t : OldType) → head_of (type_text t) ≡ type_head t
unfolding head_of
head-is old.Cone = refl
head-is old.IntegralClosure = refl
head-is old.ConeAndLattice = refl
head-is old.Normalization = refl
head-is old.Inequalities = refl
head-is old.Equations = refl
head-is old.Congruences = refl
head-is old.Signs = refl
head-is old.StrictSigns = refl
head-is old.Grading = refl

head-so : (b : ℕ) (begun text : Text) → begins_so (b ∷ begun) text ≡ true → b ≡ head_of text
unfolding head_of
head-so b begun [] h = absurd cc
head-so b begun (a ∷ text) h = elim (eqb_tells b a) [
  | inl hit ↦ hit.1
  | inr miss ↦ let bad : false ≡ true = rw (miss.0) at h in absurd cc
]

heads-same : (begun : Text) (t u : OldType) → begun ≢ [] → begins_so begun (type_text t) ≡ true → begins_so begun (type_text u) ≡ true → type_head t ≡ type_head u
heads-same [] t u some h g = absurd (some refl)
heads-same (b ∷ begun) t u some h g = sym (head-is t) ∙ sym (head-so b begun (type_text t) h) ∙ head-so b begun (type_text u) g ∙ head-is u

-- ---- which types fit

-- one row, and as many columns as the dimension
vector-fits : (fixed n c : ℕ) (t u : OldType) (h : IsTypeFor fixed n c t) → columns (kind_of t) h.dimension ≡ columns (kind_of u) h.dimension → HasRows (is_matrix (kind_of u)) n → IsTypeFor fixed n c u
vector-fits fixed n c t u h e rows = record { dimension = h.dimension; same = h.same; low = h.low; high = h.high; columns_are = h.columns_are ∙ e; rows_are = rows }

matrix-fits : (fixed n c : ℕ) (u : OldType) (h : IsTypeFor fixed n c old.Cone) → columns (kind_of u) h.dimension ≡ h.dimension → HasRows (is_matrix (kind_of u)) n → IsTypeFor fixed n c u
matrix-fits fixed n c u h e rows = record { dimension = h.dimension; same = h.same; low = h.low; high = h.high; columns_are = h.columns_are ∙ sym e; rows_are = rows }

-- a type that begins with the letter of one that fits does too, but for congruences
letter-fits : (fixed n c : ℕ) (t u : OldType) → IsTypeFor fixed n c old.Cone → IsTypeFor fixed n c t → type_head u ≡ type_head t → (u ≡ old.Congruences → t ≡ old.Congruences) → IsTypeFor fixed n c u
letter-fits fixed n c t old.Cone cone h e only = cone
letter-fits fixed n c t old.IntegralClosure cone h e only = matrix-fits fixed n c old.IntegralClosure cone refl tt
letter-fits fixed n c t old.ConeAndLattice cone h e only = matrix-fits fixed n c old.ConeAndLattice cone refl tt
letter-fits fixed n c t old.Normalization cone h e only = matrix-fits fixed n c old.Normalization cone refl tt
letter-fits fixed n c t old.Inequalities cone h e only = matrix-fits fixed n c old.Inequalities cone refl tt
letter-fits fixed n c t old.Equations cone h e only = matrix-fits fixed n c old.Equations cone refl tt
letter-fits fixed n c t old.Congruences cone h e only = subst (IsTypeFor fixed n c) (only refl) h
letter-fits fixed n c old.Signs old.Signs cone h e only = h
letter-fits fixed n c old.StrictSigns old.Signs cone h e only = vector-fits fixed n c old.StrictSigns old.Signs h refl h.rows_are
letter-fits fixed n c t old.Signs cone h e only = absurd (omega (arith, e))
letter-fits fixed n c old.Signs old.StrictSigns cone h e only = vector-fits fixed n c old.Signs old.StrictSigns h refl h.rows_are
letter-fits fixed n c old.StrictSigns old.StrictSigns cone h e only = h
letter-fits fixed n c t old.StrictSigns cone h e only = absurd (omega (arith, e))
letter-fits fixed n c old.Grading old.Grading cone h e only = h
letter-fits fixed n c t old.Grading cone h e only = absurd (omega (arith, e))

-- where congruences are found the type that was meant is none but they
only-congruences : (begun : Text) (t : OldType) → begins_so begun (type_text t) ≡ true → type_head old.Congruences ≡ type_head t → first_type TYPES begun ≡ old.Congruences → t ≡ old.Congruences
only-congruences begun t h e found = by t h e (picked (begins_so begun (type_text old.Cone)) (begins_so begun (type_text old.IntegralClosure)) (begins_so begun (type_text old.ConeAndLattice)) _ found)
  where
    by : (t : OldType) → begins_so begun (type_text t) ≡ true → type_head old.Congruences ≡ type_head t → (begins_so begun (type_text old.Cone) ≡ false) × (begins_so begun (type_text old.ConeAndLattice) ≡ false) → t ≡ old.Congruences
    by old.Cone h e none = let bad : true ≡ false = sym h ∙ none.0 in absurd cc
    by old.ConeAndLattice h e none = let bad : true ≡ false = sym h ∙ none.1 in absurd cc
    by old.Congruences h e none = refl
    by t h e none = absurd (omega (arith, e))

-- where no cone can have so many columns only congruences can
none-but : (fixed n c : ℕ) (t : OldType) → allows_cone fixed c ≡ false → IsTypeFor fixed n c t → t ≡ old.Congruences
none-but fixed n c t none h = elim (columns-are t h.dimension) [
  | inl e ↦ let bad : true ≡ false = sym (allowed (h.columns_are ∙ e) h.same) ∙ none in absurd cc
  | inr e ↦ more t e
]
  where
    low-64 : (m : ℕ) → m ≤ 64 → nat_le m 64 ≡ true
    low-64 m h = grind (arith, nat_tests, h)

    same-count : (m : ℕ) → (m == m) ≡ true
    same-count m = grind (arith, nat_tests)

    some : (m : ℕ) → 1 ≤ m → (m == 0) ≡ false
    some m h = grind (arith, nat_tests, h)

    allowed : c ≡ h.dimension → (fixed ≡ 0) ⊎ (fixed ≡ h.dimension) → allows_cone fixed c ≡ true
    allowed e (inl f) = rw (f, e) (low-64 h.dimension h.high)
    allowed e (inr f) = rw (f, e, some h.dimension h.low) (same-count h.dimension)

    more : (t : OldType) → columns (kind_of t) h.dimension ≡ h.dimension + 1 → t ≡ old.Congruences
    more old.Congruences e = refl
    more t e = absurd (omega (arith, e))

finish-type : (fixed n c : ℕ) (t : OldType) (begun y : Text) → fixed ≤ 64 → IsColumnCount fixed c → IsTypeFor fixed n c t → begun ≢ [] → begun ++ y ≡ type_text t → Finished (AtType fixed n c) begun
finish-type fixed n c t begun y le counted h some spells = by (allows_cone fixed c) refl
  where
    so : begins_so begun (type_text t) ≡ true
    so = begun-so begun y (type_text t) spells

    by : (b : Bool) → allows_cone fixed c ≡ b → Finished (AtType fixed n c) begun
    by true e =
        let u = first_type TYPES begun in
        let found = found-so t begun so in
        let heads = heads-same begun u t some found so in
        let fits = letter-fits fixed n c t u (cone-fits fixed n c le counted e) h heads (λ is. only-congruences begun t so (sym (ap type_head is) ∙ heads) is) in
        record { token_is = token.Typed u; may = fits; spelled = rw e (so-whole begun (type_text u) found) }
    by false e =
        let is = none-but fixed n c t e h in
        record { token_is = token.Typed old.Congruences; may = subst (IsTypeFor fixed n c) is h; spelled = rw e (rest-whole begun y (type_text old.Congruences) (spells ∙ ap type_text is)) }

-- ---- where a text begins

finish-opening : (t : Token) (begun y : Text) → MayToken AtOpening t → begun ≢ [] → SpellsToken t (begun ++ y) → Finished AtOpening begun
finish-opening t [] y h some spells = absurd (some refl)
finish-opening (token.Plain s) (b ∷ begun) y h some spells =
    let text : (b ∷ begun) ++ y ≡ amb_space = subst (λ (x : Symbol). SpellsPlain x ((b ∷ begun) ++ y)) h spells in
    let letter : b ≡ 97 = cc in
    let none : is_digit b ≡ false = rw letter refl in
    record { token_is = token.Plain symbol.Amb; may = refl; spelled = rw none (rest-whole (b ∷ begun) y amb_space text) }
finish-opening (token.RowCount n) (b ∷ begun) y h some spells =
    let front = front-numeral (b ∷ begun) y n some spells.0 in
    let digit : is_digit b ≡ true = is-digit b front.0.1.0 in
    let same : (b ∷ begun) ++ completion role.Opening (b ∷ begun) ≡ b ∷ begun = ap (λ (z : Bool). (b ∷ begun) ++ (if z then [] else drop (length (b ∷ begun)) amb_space)) digit ∙ append-nil (b ∷ begun) in
    record { token_is = token.RowCount (value 0 (b ∷ begun)); may = tt; spelled = subst (SpellsToken (token.RowCount (value 0 (b ∷ begun)))) (sym same) (front.0, omega (arith, front.1, spells.1)) }
finish-opening t (b ∷ begun) y h some spells = absurd h

-- ---- each piece

finish-count : (d : ℕ) (s : Symbol) (begun y : Text) → role_of s ≡ plain.Counting → begun ≢ [] → SpellsPlain s (begun ++ y) → Finished (AtConstraints d) begun
finish-count d (symbol.Count n) begun y h some spells =
    let front = front-numeral begun y n some spells.0 in
    record { token_is = token.Plain (symbol.Count (value 0 begun)); may = refl; spelled = rw append-nil (front.0, omega (arith, front.1, spells.1)) }
finish-count d s begun y h some spells = absurd cc

finish-further : (d n : ℕ) (begun y : Text) → begun ≢ [] → IsNumeral (begun ++ y) n → n ≤ 1024 → Finished (AtFurther d) begun
finish-further d n [] y some h le = absurd (some refl)
finish-further d n (b ∷ begun) y some h le =
    let front = front-numeral (b ∷ begun) y n some h in
    record { token_is = token.RowCount (value 0 (b ∷ begun)); may = tt; spelled = subst (SpellsToken (token.RowCount (value 0 (b ∷ begun)))) (sym (append-nil (b ∷ begun))) (front.0, omega (arith, front.1, le)) }

finish-figure : (fixed n c more : ℕ) (s : Symbol) (begun y : Text) → role_of s ≡ plain.Numeric → begun ≢ [] → SpellsPlain s (begun ++ y) → Finished (AtFigure fixed n c more) begun
finish-figure fixed n c more s begun y h some spells =
    let f = plain-finish s begun y some spells in
    let same : role_of f.symbol ≡ plain.Numeric = f.role_is ∙ h in
    record { token_is = token.Plain f.symbol; may = same; spelled = subst (λ (x : Text). SpellsPlain f.symbol (begun ++ x)) (ap (λ (r : PlainRole). plain_completion r begun) same) f.spelled }

-- What begins a token that may stand there is completed to one that may.
pub finish : (q : Sit) (t : Token) (begun y : Text) → IsLive q → MayToken q t → begun ≢ [] → SpellsToken t (begun ++ y) → Finished q begun
finish AtOpening t begun y live h some spells = finish-opening t begun y h some spells
finish (InPlain sit) t begun y live h some spells = finish-plain sit t begun y h some spells
finish (AtConstraints d) (token.Plain s) begun y live h some spells = finish-count d s begun y h some spells
finish (AtConstraints d) t begun y live h some spells = absurd h
finish (AtName d n) token.Symbolic begun y live h some spells = record { token_is = token.Symbolic; may = tt; spelled = rest-whole begun y symbolic spells }
finish (AtName d n) t begun y live h some spells = absurd h
finish (InLine d later side n point) t begun y live h some spells = finish-line d later side n point t begun y h some spells
finish (AtFurther d) (token.RowCount n) begun y live h some spells = finish-further d n begun y some spells.0 spells.1
finish (AtFurther d) t begun y live h some spells = absurd h
finish (AtColumns fixed n) (token.ColumnCount c) begun y live h some spells = finish-columns fixed n c begun y live h some spells
finish (AtColumns fixed n) t begun y live h some spells = absurd h
finish (AtFigure fixed n c more) (token.Plain s) begun y live h some spells = finish-figure fixed n c more s begun y h some spells
finish (AtFigure fixed n c more) t begun y live h some spells = absurd h
finish (AtType fixed n c) (token.Typed t) begun y live h some spells = finish-type fixed n c t begun y live.0 live.1 h some spells
finish (AtType fixed n c) t begun y live h some spells = absurd h
