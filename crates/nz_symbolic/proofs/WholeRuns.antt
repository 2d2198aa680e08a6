-- Where a break stands behind each token, a run of solid bytes is one token.
use Rattle.std.proofs.Common.{◌≡◌, ◌≢◌, ℕ, ◌+◌, ◌-◌, ◌<◌, ◌≤◌, max, Bool, true, false, List, [], ◌∷◌, ◌++◌, length, take, drop, refl, sym, ap, subst, ◌∙◌, append_assoc, arith, inl, inr, ◌⊎◌, Ok, Err, Result}
use Rattle.std.proofs.lemmas.List.{append-nil, take_at, take_all, take-append-drop, length-take, length-drop, length-append}
use Rattle.nz_vec.specs.Texts.{Text}
use Rattle.nz_text.specs.declared.pieces.Class.TheVariants.{Solid}
use Rattle.nz_text.specs.Bytes.{IsSolid, IsEdge, class_of}
use Rattle.nz_text.proofs.OneStep.{same-run}
use Rattle.nz_input.specs.declared.symbol.Symbol.{Symbol}
use Rattle.nz_input.specs.declared.symbol.Role.{Role as PlainRole}
use Rattle.nz_input.specs.declared.symbol.Role.TheVariants as plain
use Rattle.nz_input.specs.Refusals.{role_of}
use Rattle.nz_input.specs.Symbols.{Spells as SpellsPlain}
use Rattle.nz_input.specs.Sit.{AtEntry}
use Rattle.nz_input.specs.Stops.{Begins, IsStuck, Stops, IsSpelled, IsCommon}
use Rattle.nz_input.proofs.WordSearch.{common-reaches}
use Rattle.nz_input.proofs.Cutting.{SplitAt, Within, Beyond, split-at}
use Rattle.nz_symbolic.specs.declared.fronts.Front.{Front}
use Rattle.nz_symbolic.specs.declared.symbol.Token.{Token}
use Rattle.nz_symbolic.specs.declared.symbol.Token.TheVariants as token
use Rattle.nz_symbolic.specs.Words.{constraints, symbolic}
use Rattle.nz_symbolic.specs.Symbols.{SpellsToken}
use Rattle.nz_symbolic.specs.Sit.{Sit, InPlain, AtConstraints, AtName, AtFurther, AtFigure, MayToken, AheadIn}
use Rattle.nz_symbolic.specs.Readings.{NoneFirst, BeginsAt, IsStuckIn, IsFirst, IsNoneSo}
use Rattle.nz_symbolic.proofs.Lexemes.{token-solid}
use Rattle.nz_symbolic.proofs.Lexing.{IsOutside, outside-break, edge-behind}
use Rattle.nz_symbolic.proofs.Stopping.{solid-front}
use Rattle.nz_symbolic.proofs.Reading.{take-take}

solid-one : (begun : Text) (b : ℕ) (others : Text) → IsSolid (begun ++ b ∷ others) → IsSolid (begun ++ b ∷ [])
solid-one [] b others h = (h.0, tt)
solid-one (x ∷ begun) b others h = (h.0, solid-one begun b others h.1)

-- a byte of solid ones is no edge
no-edge : (u : Text) (c : ℕ) (w rest : Text) → IsSolid (u ++ c ∷ w) → IsEdge (c ∷ rest) → ⊥
no-edge [] c w rest h edge = edge h.0
no-edge (x ∷ u) c w rest h edge = no-edge u c w rest h.1 edge

-- no token stands first
none-first : (q : Sit) (begun others : Text) → IsOutside q → IsSolid (begun ++ others) → IsNoneSo q begun others → IsStuckIn q begun others
none-first q begun [] out solid none = λ tail edge t u v may spells ahead e.
    let same = (same-run u begun v tail (token-solid t u spells) (solid-front begun [] solid) (edge-behind t v (outside-break q t out may) ahead) edge e).0 in
    none t may (subst (SpellsToken t) same spells)
none-first q begun (b ∷ others) out solid none = λ more t u v may spells ahead e. by t u v may spells (edge-behind t v (outside-break q t out may) ahead) (split-at (begun ++ b ∷ []) more u v (append_assoc begun (b ∷ []) more ∙ sym e))
  where
    by : {more : Text} (t : Token) (u v : Text) → MayToken q t → SpellsToken t u → IsEdge v → SplitAt (begun ++ b ∷ []) more u v → ⊥
    by {more = more} t u v may spells edge (Within x is) = none (record { token_is = t; more = x; may = may; spelled = subst (SpellsToken t) is spells })
    by {more = more} t u v may spells edge (Beyond [] is rest) = none (record { token_is = t; more = []; may = may; spelled = subst (SpellsToken t) (sym (is ∙ append-nil u) ∙ sym (append-nil (begun ++ b ∷ []))) spells })
    by {more = more} t u v may spells edge (Beyond (c ∷ w) is rest) = no-edge u c w (w ++ more) (subst IsSolid is (solid-one begun b others solid)) (subst IsEdge (sym rest) edge)

pub run-refused : (q : Sit) (piece : Text) (k : ℕ) → IsOutside q → IsSolid piece → k ≤ length piece → BeginsAt q (take k piece) → IsNoneSo q (take k piece) (drop k piece) → IsFirst q piece (Err k)
run-refused q piece k out solid le begins none = (le, begins, none-first q (take k piece) (drop k piece) out (subst IsSolid (sym (take-append-drop k piece)) solid) none)

pub run-taken : (q : Sit) (piece : Text) (f : Front) → MayToken q f.token → SpellsToken f.token piece → f.len ≡ length piece → IsFirst q piece (Ok f)
run-taken q piece f may spells whole =
    let none : drop f.len piece ≡ [] = no-bytes (drop f.len piece) (omega (arith, length-drop f.len piece, whole)) in
    (omega (arith, whole), may, subst (SpellsToken f.token) (sym (take_all f.len piece (omega (arith, whole)))) spells, subst (AheadIn f.token) (sym none) tt)
  where
    no-bytes : (t : Text) → length t ≡ 0 → t ≡ []
    no-bytes [] e = refl
    no-bytes (b ∷ t) e = absurd (omega (arith, e))

-- ---- symbols of the grammar without constraints

-- in this state the symbols of the role may come, and no other token
pub record IsPlainAt (q : Sit) (role : PlainRole) : Type 0 where
  pub may : (s : Symbol) → role_of s ≡ role → MayToken q (token.Plain s)
  pub only : (t : Token) → MayToken q t → (s : Symbol) × (t ≡ token.Plain s) × (role_of s ≡ role)

pub plain-begins : (q : Sit) (role : PlainRole) (begun : Text) → IsPlainAt q role → Begins role begun → BeginsAt q begun
plain-begins q role begun at b = record { token_is = token.Plain b.symbol; more = b.more; may = at.may b.symbol b.role_is; spelled = b.spelled }

begins-plain : (q : Sit) (role : PlainRole) (begun : Text) → IsPlainAt q role → BeginsAt q begun → Begins role begun
begins-plain q role begun at b =
    let s = at.only b.token_is b.may in
    record { symbol = s.0; more = b.more; role_is = s.2; spelled = subst (λ (t : Token). SpellsToken t (begun ++ b.more)) s.1 b.spelled }

plain-none : (q : Sit) (role : PlainRole) (begun others : Text) → IsPlainAt q role → IsStuck role begun others → IsNoneSo q begun others
plain-none q role begun [] at h = λ t may spells. let s = at.only t may in h s.0 s.2 (subst (λ (x : Token). SpellsToken x begun) s.1 spells)
plain-none q role begun (b ∷ others) at h = λ x. h (begins-plain q role (begun ++ b ∷ []) at x)

pub plain-refused : (q : Sit) (role : PlainRole) (piece : Text) (k : ℕ) → IsOutside q → IsPlainAt q role → IsSolid piece → IsSpelled role piece (Err k) → IsFirst q piece (Err k)
plain-refused q role piece k out at solid (le, stops) = run-refused q piece k out solid le (plain-begins q role (take k piece) at stops.begins) (plain-none q role (take k piece) (drop k piece) at stops.stuck)

-- the states of one role
pub counts-constraints : (d : ℕ) → IsPlainAt (AtConstraints d) plain.Counting
counts-constraints d = record { may = λ s e. e; only = by }
  where
    by : (t : Token) → MayToken (AtConstraints d) t → (s : Symbol) × (t ≡ token.Plain s) × (role_of s ≡ plain.Counting)
    by (token.Plain s) h = (s, refl, h)
    by t h = absurd h

pub figures-plain : (fixed n c more : ℕ) → IsPlainAt (AtFigure fixed n c more) plain.Numeric
figures-plain fixed n c more = record { may = λ s e. e; only = by }
  where
    by : (t : Token) → MayToken (AtFigure fixed n c more) t → (s : Symbol) × (t ≡ token.Plain s) × (role_of s ≡ plain.Numeric)
    by (token.Plain s) h = (s, refl, h)
    by t h = absurd h

-- ---- one word

-- in this state one token may come, and this is how it is spelled
pub record IsWordAt (q : Sit) (t : Token) (text : Text) : Type 0 where
  pub may : MayToken q t
  pub spelled : SpellsToken t text
  pub only : (r : Token) (piece : Text) → MayToken q r → SpellsToken r piece → piece ≡ text

-- the bytes in common begin the word
pub common-begins : (q : Sit) (t : Token) (text piece : Text) (n : ℕ) → MayToken q t → SpellsToken t text → IsCommon piece text n → BeginsAt q (take n piece)
common-begins q t text piece n may spelled c = record { token_is = t; more = drop n text; may = may; spelled = subst (SpellsToken t) (sym (ap (λ (x : Text). x ++ drop n text) c.same ∙ take-append-drop n text)) spelled }

-- a front that begins the word is no longer than what is in common
pub common-most : (text piece : Text) (n m : ℕ) (more : Text) → IsCommon piece text n → m ≤ length piece → take m piece ++ more ≡ text → m ≤ n
common-most text piece n m more c le e =
    let front : length (take m piece) ≡ m = omega (arith, length-take m piece, le) in
    let long : m ≤ length text = omega (arith, ap length e, length-append (take m piece) more, front) in
    common-reaches piece text n m c le long (sym (take_at (take m piece) more m front) ∙ ap (take m) e)

-- a byte more
pub one-more : (piece : Text) (n b : ℕ) (others : Text) → n ≤ length piece → drop n piece ≡ b ∷ others → (take n piece ++ b ∷ [] ≡ take (n + 1) piece) × (n + 1 ≤ length piece)
one-more piece n b others le e =
    let front : length (take n piece) ≡ n = omega (arith, length-take n piece, le) in
    let whole : piece ≡ (take n piece ++ b ∷ []) ++ others = sym (take-append-drop n piece) ∙ ap (λ (x : Text). take n piece ++ x) e ∙ sym (append_assoc (take n piece) (b ∷ []) others) in
    let size : length (take n piece ++ b ∷ []) ≡ n + 1 = omega (arith, length-append (take n piece) (b ∷ []), front) in
    (sym (ap (take (n + 1)) whole ∙ take_at (take n piece ++ b ∷ []) others (n + 1) size), omega (arith, ap length e, length-drop n piece))

word-none : (q : Sit) (t : Token) (text piece : Text) (n : ℕ) → IsWordAt q t text → IsCommon piece text n → (n ≢ length piece) ⊎ (n ≢ length text) → (others : Text) → drop n piece ≡ others → IsNoneSo q (take n piece) others
word-none q t text piece n w c differs [] e = λ r may spells.
    let same = w.only r (take n piece) may spells in
    let all : n ≡ length piece = omega (arith, ap length e, length-drop n piece, c.within_left) in
    let long : n ≡ length text = omega (arith, ap length same, length-take n piece, c.within_left) in
    elim differs [ inl h ↦ h all | inr h ↦ h long ]
word-none q t text piece n w c differs (b ∷ others) e = λ x.
    let one = one-more piece n b others c.within_left e in
    let same = w.only x.token_is ((take n piece ++ b ∷ []) ++ x.more) x.may x.spelled in
    let too_long = common-most text piece n (n + 1) x.more c one.1 (ap (λ (y : Text). y ++ x.more) (sym one.0) ∙ same) in
    omega (arith, too_long)

pub word-refused : (q : Sit) (t : Token) (text piece : Text) (n : ℕ) → IsOutside q → IsWordAt q t text → IsSolid piece → IsCommon piece text n → (n ≢ length piece) ⊎ (n ≢ length text) → IsFirst q piece (Err n)
word-refused q t text piece n out w solid c differs = run-refused q piece n out solid c.within_left (common-begins q t text piece n w.may w.spelled c) (word-none q t text piece n w c differs (drop n piece) refl)

pub names-word : (d n : ℕ) → IsWordAt (AtName d n) token.Symbolic symbolic
names-word d n = record { may = tt; spelled = refl; only = by }
  where
    by : (r : Token) (piece : Text) → MayToken (AtName d n) r → SpellsToken r piece → piece ≡ symbolic
    by token.Symbolic piece h e = e
    by r piece h e = absurd h

-- ---- an entry begins

-- a front that begins a symbol is no longer than what can begin one
plain-most : (role : PlainRole) (piece : Text) (n m : ℕ) → n ≤ length piece → m ≤ length piece → Stops role piece (take n piece) (drop n piece) → Begins role (take m piece) → m ≤ n
plain-most role piece n m le le2 stops begins = by (drop n piece) refl stops.stuck (le_or m n)
  where
    le_or : (a b : ℕ) → (a ≤ b) ⊎ (b + 1 ≤ a)
    le_or a b = grind arith

    by : (others : Text) → drop n piece ≡ others → IsStuck role (take n piece) others → (m ≤ n) ⊎ (n + 1 ≤ m) → m ≤ n
    by others e stuck (inl h) = h
    by [] e stuck (inr h) = absurd (omega (arith, ap length e, length-drop n piece, le2, h))
    by (b ∷ others) e stuck (inr h) =
        let one = one-more piece n b others le e in
        let split : take m piece ≡ (take n piece ++ b ∷ []) ++ drop (n + 1) (take m piece) = sym (take-append-drop (n + 1) (take m piece)) ∙ ap (λ (x : Text). x ++ drop (n + 1) (take m piece)) (take-take (n + 1) m piece h ∙ sym one.0) in
        absurd (stuck (record { symbol = begins.symbol; more = drop (n + 1) (take m piece) ++ begins.more; role_is = begins.role_is; spelled = subst (SpellsPlain begins.symbol) (ap (λ (x : Text). x ++ begins.more) split ∙ append_assoc (take n piece ++ b ∷ []) (drop (n + 1) (take m piece)) begins.more) begins.spelled }))

-- a front that begins an entry is no longer than either
entry-most : (d : ℕ) (piece : Text) (n m k : ℕ) → n ≤ length piece → Stops plain.Entering piece (take n piece) (drop n piece) → IsCommon piece constraints m → k ≤ length piece → BeginsAt (InPlain (AtEntry d)) (take k piece) → (k ≤ n) ⊎ (k ≤ m)
entry-most d piece n m k le stops c le2 b = by b.token_is b.may b.spelled
  where
    by : (t : Token) → MayToken (InPlain (AtEntry d)) t → SpellsToken t (take k piece ++ b.more) → (k ≤ n) ⊎ (k ≤ m)
    by (token.Plain s) h spells = inl (plain-most plain.Entering piece n k le le2 stops (record { symbol = s; more = b.more; role_is = h; spelled = spells }))
    by token.Constraints h spells = inr (common-most constraints piece m k b.more c le2 spells)
    by t h spells = absurd h

entry-none : (d : ℕ) (piece : Text) (n m k : ℕ) → n ≤ length piece → Stops plain.Entering piece (take n piece) (drop n piece) → IsCommon piece constraints m → (m ≢ length piece) ⊎ (m ≢ 11) → ((s : Symbol) → role_of s ≡ plain.Entering → SpellsPlain s piece → ⊥) → n ≤ k → m ≤ k → k ≤ length piece → (others : Text) → drop k piece ≡ others → IsNoneSo (InPlain (AtEntry d)) (take k piece) others
entry-none d piece n m k le stops c differs none hn hm le2 [] e = by
  where
    all : take k piece ≡ piece
    all = sym (append-nil (take k piece)) ∙ ap (λ (x : Text). take k piece ++ x) (sym e) ∙ take-append-drop k piece

    by : (t : Token) → MayToken (InPlain (AtEntry d)) t → SpellsToken t (take k piece) → ⊥
    by (token.Plain s) h spells = none s h (subst (SpellsPlain s) all spells)
    by token.Constraints h spells =
        let same : piece ≡ constraints = sym all ∙ spells in
        let most = common-most constraints piece m (length piece) [] c (omega arith) (append-nil (take (length piece) piece) ∙ take_all (length piece) piece (omega arith) ∙ same) in
        let whole : m ≡ length piece = omega (arith, most, c.within_left) in
        let size : length piece ≡ 11 = ap length same in
        elim differs [ inl h ↦ h whole | inr h ↦ h (whole ∙ size) ]
    by t h spells = absurd h
entry-none d piece n m k le stops c differs none hn hm le2 (b ∷ others) e = λ x.
    let one = one-more piece k b others le2 e in
    let most = entry-most d piece n m (k + 1) le stops c one.1 (subst (BeginsAt (InPlain (AtEntry d))) one.0 x) in
    elim most [ inl h ↦ omega (arith, h, hn) | inr h ↦ omega (arith, h, hm) ]

-- neither a word nor `constraints`
pub entry-refused : (d : ℕ) (piece : Text) (n m k : ℕ) → IsSolid piece → IsSpelled plain.Entering piece (Err n) → IsCommon piece constraints m → (m ≢ length piece) ⊎ (m ≢ 11) → (k ≡ n) ⊎ (k ≡ m) → n ≤ k → m ≤ k → IsFirst (InPlain (AtEntry d)) piece (Err k)
entry-refused d piece n m k solid (le, stops) c differs which hn hm =
    run-refused (InPlain (AtEntry d)) piece k tt solid le2 begins (entry-none d piece n m k le stops c differs none hn hm le2 (drop k piece) refl)
  where
    le2 : k ≤ length piece
    le2 = elim which [ inl e ↦ omega (arith, e, le) | inr e ↦ omega (arith, e, c.within_left) ]

    begins : BeginsAt (InPlain (AtEntry d)) (take k piece)
    begins = elim which [
      | inl e ↦ subst (λ (x : ℕ). BeginsAt (InPlain (AtEntry d)) (take x piece)) (sym e) (record { token_is = token.Plain stops.begins.symbol; more = stops.begins.more; may = stops.begins.role_is; spelled = stops.begins.spelled })
      | inr e ↦ subst (λ (x : ℕ). BeginsAt (InPlain (AtEntry d)) (take x piece)) (sym e) (common-begins (InPlain (AtEntry d)) token.Constraints constraints piece m tt refl c)
    ]

    none : (s : Symbol) → role_of s ≡ plain.Entering → SpellsPlain s piece → ⊥
    none s role spells = by (drop n piece) refl stops.stuck
      where
        by : (others : Text) → drop n piece ≡ others → IsStuck plain.Entering (take n piece) others → ⊥
        by [] e stuck = stuck s role (subst (SpellsPlain s) (sym (sym (append-nil (take n piece)) ∙ ap (λ (x : Text). take n piece ++ x) (sym e) ∙ take-append-drop n piece)) spells)
        by (b ∷ others) e stuck =
            let most = plain-most plain.Entering piece n (length piece) le (omega arith) stops (record { symbol = s; more = []; role_is = role; spelled = subst (SpellsPlain s) (sym (append-nil (take (length piece) piece) ∙ take_all (length piece) piece (omega arith))) spells }) in
            omega (arith, most, ap length e, length-drop n piece)

pub max-which : (n m k : ℕ) → k ≡ max n m → ((k ≡ n) ⊎ (k ≡ m)) × (n ≤ k) × (m ≤ k)
max-which n m k e = (either (le_or n m), omega (arith, e), omega (arith, e))
  where
    le_or : (a b : ℕ) → (a ≤ b) ⊎ (b ≤ a)
    le_or a b = grind arith

    either : (n ≤ m) ⊎ (m ≤ n) → (k ≡ n) ⊎ (k ≡ m)
    either (inl h) = inr (omega (arith, e, h))
    either (inr h) = inl (omega (arith, e, h))
