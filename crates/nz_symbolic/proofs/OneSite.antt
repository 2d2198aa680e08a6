-- A prefix of a text ends at one site.
use Rattle.std.proofs.Common.{◌≡◌, ◌≢◌, ℕ, ◌≤◌, true, false, List, [], ◌∷◌, ◌++◌, refl, sym, ap, subst, ◌∙◌, append_assoc, inl, inr, ◌⊎◌, Some, None, Option}
use Rattle.std.proofs.lemmas.List.{append-nil, append_cancel_left}
use Rattle.std.specs.List.{AllByRecursion}
use Rattle.nz_vec.specs.Texts.{Text}
use Rattle.nz_text.specs.declared.pieces.Class.TheVariants.{Solid}
use Rattle.nz_text.specs.declared.pieces.Mode.TheVariants.{Outside}
use Rattle.nz_text.specs.Bytes.{IsGap, IsSolid, IsEdge, IsOpenComment, class_of}
use Rattle.nz_text.specs.Skip.{Reaches, Opens, skip}
use Rattle.nz_text.proofs.Gaps.{skip-gap, skip-nil, skip-solid}
use Rattle.nz_text.proofs.Stepping.{open-opens}
use Rattle.nz_input.specs.declared.symbol.Symbol.TheVariants as symbol
use Rattle.nz_input.specs.declared.refusal.Fault.{Fault}
use Rattle.nz_input.specs.Sit.{AtEntry}
use Rattle.nz_input.specs.Layouts.{Separator, Gap, Break, Parts, PrecedesPast, InComment, AtPiece, IsNextIn, past}
use Rattle.nz_input.specs.Prefixes.{first_of}
use Rattle.nz_input.proofs.Laying.{gap-edge, gap-edge-nil, skip-piece, append-some, reaches-is, parts-gap}
use Rattle.nz_input.proofs.Each.{all-both, all-front}
use Rattle.nz_symbolic.specs.declared.symbol.Relation.TheVariants.{AtLeast, AtMost, Above, Below, Equal}
use Rattle.nz_symbolic.specs.declared.symbol.Token.{Token}
use Rattle.nz_symbolic.specs.declared.symbol.Token.TheVariants as token
use Rattle.nz_symbolic.specs.declared.symbol.Role.{Role}
use Rattle.nz_symbolic.specs.declared.symbol.Role.TheVariants as role
use Rattle.nz_symbolic.specs.declared.symbol.Slot.{Slot}
use Rattle.nz_symbolic.specs.Symbols.{Spells, slot, plain_slot, AnyEntry, Fits, symbols, OldFits, old_symbols}
use Rattle.nz_symbolic.specs.Texts.{behind, Lays}
use Rattle.nz_symbolic.specs.Refusals.{behind_whole, apart, IsOpenAt, IsNext, Site, EndsAt, fault_at}
use Rattle.nz_symbolic.specs.Sit.{Sit, AtOpening, InPlain, AtFurther, May, next, wants, Ahead, AheadOf}
use Rattle.nz_symbolic.specs.Left.{IsSpelled}
use Rattle.nz_symbolic.proofs.Machine.{ahead-parts, edge-is-ahead}
use Rattle.nz_symbolic.proofs.Lexemes.{token-solid, token-some}
use Rattle.nz_symbolic.proofs.Lexing.{lexicon}
use Rattle.nz_symbolic.proofs.Accepting.{Steps, new-steps, old-steps}
use Rattle.nz_symbolic.proofs.Leaving.{AreSpelled}
use Rattle.nz_symbolic.proofs.PrefixEnding.{SplitSteps, steps-split}

-- ---- solid bytes and gaps

pub solid-gap : (gap t : Text) → IsGap gap → IsSolid (gap ++ t) → gap ≡ []
solid-gap [] t g h = refl
solid-gap (b ∷ gap) t g h = let edge : class_of b ≢ Solid = gap-edge (b ∷ gap) t g (λ e. cc) in absurd (edge h.0)

pub solid-back : (a b : Text) → IsSolid (a ++ b) → IsSolid b
solid-back [] b h = h
solid-back (x ∷ a) b h = solid-back a b h.1

pub reach-solid : (t : Text) → IsSolid t → skip Outside t ≡ Reaches t
reach-solid [] h = skip-nil
reach-solid (b ∷ t) h = skip-solid b t h.0

-- ---- a byte behind a token that has ended

-- behind a token that needs no break to have ended anything may stand
pub apart-ahead : (t : Token) (b : ℕ) → behind_whole t ≡ Gap → AheadOf t b
apart-ahead (token.Plain s) b e = absurd cc
apart-ahead token.Constraints b e = absurd cc
apart-ahead token.Symbolic b e = absurd cc
apart-ahead (token.Sign s) b e = tt
apart-ahead (token.Literal n) b e = absurd cc
apart-ahead token.Star b e = tt
apart-ahead token.Variable b e = tt
apart-ahead token.OpenIndex b e = tt
apart-ahead (token.Index i) b e = absurd cc
apart-ahead token.CloseIndex b e = tt
apart-ahead (token.Relation AtLeast) b e = tt
apart-ahead (token.Relation AtMost) b e = tt
apart-ahead (token.Relation Above) b e = absurd cc
apart-ahead (token.Relation Below) b e = absurd cc
apart-ahead (token.Relation Equal) b e = tt
apart-ahead token.Tilde b e = tt
apart-ahead token.OpenModulus b e = tt
apart-ahead (token.Modulus m) b e = absurd cc
apart-ahead token.CloseModulus b e = tt
apart-ahead (token.Stop true) b e = absurd cc
apart-ahead (token.Stop false) b e = tt
apart-ahead (token.RowCount n) b e = absurd cc
apart-ahead (token.ColumnCount n) b e = absurd cc
apart-ahead (token.Typed t) b e = absurd cc

-- ---- symbols, and the piece that has begun

-- behind each symbol nothing that belongs to it, and at the end of the bytes one that needs no break
abbrev Chain : List Slot → Text → Text → Type 0
Chain [] t begun = skip Outside t ≡ Reaches begun
Chain (s ∷ ss) t begun = (piece rest : Text) × (skip Outside t ≡ Reaches (piece ++ rest)) × Spells s piece × Ahead s (first_of rest) × (rest ≡ [] → apart s ≡ Gap) × Chain ss rest begun

-- the first symbol
first-parts : (before : Separator) (s : Slot) (ss : List Slot) (t begun : Text) → PrecedesPast Spells behind apart before (s ∷ ss) t begun → (gap piece rest : Text) × (t ≡ gap ++ (piece ++ rest)) × Parts before gap × Spells s piece
first-parts before s [] t begun (gap, piece, rest, whole, parts, spells, others) = (gap, piece, rest, whole, parts, spells)
first-parts before s (r ∷ ss) t begun (gap, piece, rest, whole, parts, spells, others) = (gap, piece, rest, whole, parts, spells)

first-over : (s : Slot) (gap a b : Text) → Ahead s (first_of (gap ++ (a ++ b))) → a ≢ [] → Ahead s (first_of (gap ++ a))
first-over s [] [] b h some = absurd (some refl)
first-over s [] (x ∷ a) b h some = h
first-over s (g ∷ gap) a b h some = h

-- what stands behind the last symbol
behind-last : (q : Sit) (s r : Slot) (gap begun more : Text) → May q s → May (next q s) r → Parts (past behind apart begun s) gap → Spells r (begun ++ more) → Ahead s (first_of (gap ++ begun)) × (gap ++ begun ≡ [] → apart s ≡ Gap)
behind-last q s r gap [] more may then parts spells = (edge-is-ahead lexicon s (gap ++ []) (subst IsEdge (sym (append-nil gap)) (gap-edge-nil gap (parts-gap (apart s) gap parts))), λ e. by (apart s) refl (sym (append-nil gap) ∙ e) parts)
  where
    by : (sort : Separator) → apart s ≡ sort → gap ≡ [] → Parts (apart s) gap → apart s ≡ Gap
    by Gap e none parts = e
    by Break e none parts = absurd ((subst (λ (x : Separator). Parts x gap) e parts).1 none)
behind-last q s r gap (b ∷ begun) more may then parts spells =
    let ahead = ahead-parts lexicon q s r (behind s) gap ((b ∷ begun) ++ more) [] refl may then parts spells in
    (first-over s gap (b ∷ begun) more (subst (λ (x : Text). Ahead s (first_of (gap ++ x))) (append-nil ((b ∷ begun) ++ more)) ahead) (λ e. cc), λ e. absurd (ends-some gap b begun e))
  where
    ends-some : (gap : Text) (b : ℕ) (begun : Text) → gap ++ b ∷ begun ≡ [] → ⊥
    ends-some [] b begun e = cc
    ends-some (g ∷ gap) b begun e = cc

chain : (ss : List Slot) (q mid : Sit) (before : Separator) (t begun more : Text) (r : Slot) → Steps q ss mid → May mid r → Spells r (begun ++ more) → IsSolid begun → PrecedesPast Spells behind apart before ss t begun → Chain ss t begun
chain [] q mid before t begun more r steps may spelled solid (gap, parts, whole) = ap (skip Outside) whole ∙ skip-gap gap begun (parts-gap before gap parts) ∙ reach-solid begun solid
chain (s ∷ []) q mid before t begun more r steps may spelled solid (gap, piece, rest, whole, parts, spells, (gap2, parts2, whole2)) =
    let last = behind-last q s r gap2 begun more steps.0 (subst (λ (x : Sit). May x r) (sym steps.1) may) parts2 spelled in (
      piece,
      rest,
      ap (skip Outside) whole ∙ skip-gap gap (piece ++ rest) (parts-gap before gap parts) ∙ skip-piece piece rest (token-solid s.token piece spells) (token-some s.token piece spells),
      spells,
      subst (λ (x : Text). Ahead s (first_of x)) (sym whole2) last.0,
      (λ e. last.1 (sym whole2 ∙ e)),
      ap (skip Outside) whole2 ∙ skip-gap gap2 begun (parts-gap (past behind apart begun s) gap2 parts2) ∙ reach-solid begun solid,
    )
chain (s ∷ p ∷ ss) q mid before t begun more r steps may spelled solid (gap, piece, rest, whole, parts, spells, others) =
    let one = first-parts (behind s) p ss rest begun others in
    let ahead = ahead-parts lexicon q s p (behind s) one.0 one.1 one.2 refl steps.0 steps.1.0 one.4 one.5 in (
      piece,
      rest,
      ap (skip Outside) whole ∙ skip-gap gap (piece ++ rest) (parts-gap before gap parts) ∙ skip-piece piece rest (token-solid s.token piece spells) (token-some s.token piece spells),
      spells,
      subst (λ (x : Text). Ahead s (first_of x)) (sym one.3) ahead,
      (λ e. absurd (none one.0 one.1 one.2 (token-some p.token one.1 one.5) (sym one.3 ∙ e))),
      chain (p ∷ ss) (next q s) mid (behind s) rest begun more r steps.1 may spelled solid others,
    )
  where
    none : (gap piece rest : Text) → piece ≢ [] → gap ++ (piece ++ rest) ≡ [] → ⊥
    none [] piece rest some e = append-some piece rest some e
    none (g ∷ gap) piece rest some e = cc

-- a piece of a symbol that may come is not a whole symbol with more behind it
no-piece : (q : Sit) (s r : Slot) (begun more piece rest : Text) → May q r → Spells r (begun ++ more) → (more ≡ [] → apart r ≡ Break) → May q s → Spells s piece → begun ≡ piece ++ rest → Ahead s (first_of rest) → (rest ≡ [] → apart s ≡ Gap) → ⊥
no-piece q s r begun more piece [] may spelled unfinished may2 spells e ahead loose =
    let whole : piece ++ more ≡ (begun ++ more) ++ [] = ap (λ (x : Text). x ++ more) (sym (append-nil piece) ∙ sym e) ∙ sym (append-nil (begun ++ more)) in
    let same = lexicon.one q s r piece (begun ++ more) more [] may2 may spells spelled (free more) (lexicon.end_ahead r) whole in
    let none : more ≡ [] = append_cancel_left piece more [] (whole ∙ append-nil (begun ++ more) ∙ sym same.0 ∙ sym (append-nil piece)) in
    let bad : Gap ≡ Break = sym (loose refl) ∙ ap apart same.1 ∙ unfinished none in cc
  where
    free : (t : Text) → Ahead s (first_of t)
    free [] = lexicon.end_ahead s
    free (b ∷ t) = apart-ahead s.token b (loose refl)
no-piece q s r begun more piece (b ∷ rest) may spelled unfinished may2 spells e ahead loose =
    let whole : piece ++ ((b ∷ rest) ++ more) ≡ (begun ++ more) ++ [] = sym (append_assoc piece (b ∷ rest) more) ∙ ap (λ (x : Text). x ++ more) (sym e) ∙ sym (append-nil (begun ++ more)) in
    let same = lexicon.one q s r piece (begun ++ more) ((b ∷ rest) ++ more) [] may2 may spells spelled ahead (lexicon.end_ahead r) whole in
    let none : (b ∷ rest) ++ more ≡ [] = append_cancel_left piece ((b ∷ rest) ++ more) [] (whole ∙ append-nil (begun ++ more) ∙ sym same.0 ∙ sym (append-nil piece)) in cc

record SameChain (ss qs : List Slot) (b c : Text) : Type 0 where
  slots_same : ss ≡ qs
  begun_same : b ≡ c

-- the next symbol, whose piece has begun
record Wanted (mid : Sit) (begun : Text) : Type 0 where
  symbol_is : Slot
  may : May mid symbol_is
  more : Text
  spelled : Spells symbol_is (begun ++ more)
  unfinished : more ≡ [] → apart symbol_is ≡ Break

chain-one : (ss qs : List Slot) (q m n : Sit) (t b c : Text) → IsSolid b → IsSolid c → Steps q ss m → Steps q qs n → Wanted m b → Wanted n c → Chain ss t b → Chain qs t c → SameChain ss qs b c
chain-one [] [] q m n t b c hb hc sm sn wb wc p r = record { slots_same = refl; begun_same = reaches-is _ _ (sym p ∙ r) }
chain-one [] (y ∷ qs) q m n t b c hb hc sm sn wb wc p (piece, rest, found, spells, ahead, loose, others) =
    let same : b ≡ piece ++ rest = reaches-is _ _ (sym p ∙ found) in
    absurd (no-piece q y wb.symbol_is b wb.more piece rest (subst (λ (x : Sit). May x wb.symbol_is) (sym sm) wb.may) wb.spelled wb.unfinished sn.0 spells same ahead loose)
chain-one (x ∷ ss) [] q m n t b c hb hc sm sn wb wc (piece, rest, found, spells, ahead, loose, others) r =
    let same : c ≡ piece ++ rest = reaches-is _ _ (sym r ∙ found) in
    absurd (no-piece q x wc.symbol_is c wc.more piece rest (subst (λ (z : Sit). May z wc.symbol_is) (sym sn) wc.may) wc.spelled wc.unfinished sm.0 spells same ahead loose)
chain-one (x ∷ ss) (y ∷ qs) q m n t b c hb hc sm sn wb wc (piece, rest, found, spells, ahead, loose, others) (piece2, rest2, found2, spells2, ahead2, loose2, others2) =
    let both : piece ++ rest ≡ piece2 ++ rest2 = reaches-is _ _ (sym found ∙ found2) in
    let same = lexicon.one q x y piece piece2 rest rest2 sm.0 sn.0 spells spells2 ahead ahead2 both in
    let tails : rest ≡ rest2 = append_cancel_left piece rest rest2 (both ∙ ap (λ (z : Text). z ++ rest2) (sym same.0)) in
    let below = chain-one ss qs (next q x) m n rest b c hb hc sm.1 (subst (λ (s : Slot). Steps (next q s) qs n) (sym same.1) sn.1) wb wc others (subst (λ (z : Text). Chain qs z c) (sym tails) others2) in
    record { slots_same = ap (λ (s : Slot). s ∷ ss) same.1 ∙ ap (λ (l : List Slot). y ∷ l) below.slots_same; begun_same = below.begun_same }

-- ---- where a piece must begin or has begun

-- the symbols lead to a place where one of the role may come, whose piece begins so
record Led (done : List Slot) (wanted : Role) (begun : Text) : Type 0 where
  mid : Sit
  steps : Steps AtOpening done mid
  role_is : wanted ≡ wants mid
  symbol_is : Wanted mid begun

precedes-spelled : (before : Separator) (ss : List Slot) (t begun : Text) → PrecedesPast Spells behind apart before ss t begun → AreSpelled ss
precedes-spelled before [] t begun h = tt
precedes-spelled before (s ∷ []) t begun (gap, piece, rest, whole, parts, spells, others) = ((piece, spells), tt)
precedes-spelled before (s ∷ r ∷ ss) t begun (gap, piece, rest, whole, parts, spells, others) = ((piece, spells), precedes-spelled (behind s) (r ∷ ss) rest begun others)

-- from symbols that lead on
led-by : (done others : List Slot) (r : Slot) (wanted : Role) (begun : Text) (end : Sit) → Steps AtOpening (done ++ r ∷ others) end → IsOpenAt wanted begun r → Led done wanted begun
led-by done others r wanted begun end steps h =
    let split = steps-split AtOpening done (r ∷ others) end steps in
    record {
      mid = split.mid;
      steps = split.front;
      role_is = sym h.role_is ∙ split.back.0.0;
      symbol_is = record { symbol_is = r; may = split.back.0; more = h.more; spelled = h.spelled; unfinished = h.unfinished };
    }

led : (done : List Slot) (wanted : Role) (t begun : Text) → IsNext done wanted begun → PrecedesPast Spells behind apart Gap done t begun → Led done wanted begun
led done wanted t begun (inr n) p = led-by done n.others n.next wanted begun (AtFurther n.dimension) (subst (λ (x : List Slot). Steps AtOpening x (AtFurther n.dimension)) n.whole (old-steps n.dimension n.entries n.fit)) n.role_is
led done wanted t begun (inl n) p = by done n.whole (precedes-spelled Gap done t begun p)
  where
    open_is : IsOpenAt wanted begun n.next
    open_is = n.role_is

    -- with a dimension the whole file leads on
    with-low : (done : List Slot) → symbols n.dimension n.entries ≡ done ++ n.next ∷ n.others → 1 ≤ n.dimension → Led done wanted begun
    with-low done whole low = led-by done n.others n.next wanted begun (InPlain (AtEntry n.dimension)) (subst (λ (x : List Slot). Steps AtOpening x (InPlain (AtEntry n.dimension))) whole (new-steps n.dimension n.entries low n.fit)) open_is

    low-of : (s : Slot) → plain_slot (symbol.Dimension n.dimension) ≡ s → IsSpelled s.token → 1 ≤ n.dimension
    low-of s e h = (subst (λ (x : Slot). IsSpelled x.token) (sym e) h).1.1

    by : (done : List Slot) → symbols n.dimension n.entries ≡ done ++ n.next ∷ n.others → AreSpelled done → Led done wanted begun
    by [] whole spelled =
        let is : slot role.Opening (token.Plain symbol.Amb) ≡ n.next = cc in
        let may : May AtOpening n.next = subst (May AtOpening) is (refl, refl) in
        record { mid = AtOpening; steps = refl; role_is = sym open_is.role_is ∙ may.0; symbol_is = record { symbol_is = n.next; may = may; more = open_is.more; spelled = open_is.spelled; unfinished = open_is.unfinished } }
    by (x ∷ []) whole spelled = let is : plain_slot (symbol.Dimension n.dimension) ≡ n.next = cc in with-low (x ∷ []) whole (low-of n.next is (begun ++ open_is.more, open_is.spelled))
    by (x ∷ y ∷ ss) whole spelled = let is : plain_slot (symbol.Dimension n.dimension) ≡ y = cc in with-low (x ∷ y ∷ ss) whole (low-of y is spelled.1.0)

steps-one : (ss : List Slot) (q m n : Sit) → Steps q ss m → Steps q ss n → m ≡ n
steps-one [] q m n h g = sym h ∙ g
steps-one (s ∷ ss) q m n h g = steps-one ss (next q s) m n h.1 g.1

record SamePiece (r s : Role) (b c : Text) : Type 0 where
  role_same : r ≡ s
  begun_same : b ≡ c

one-piece : (t : Text) (r s : Role) (b c : Text) → EndsAt t (AtPiece r b) → EndsAt t (AtPiece s c) → SamePiece r s b c
one-piece t r s b c (done, n, p, solid) (done2, n2, p2, solid2) =
    let w = led done r t b n p in
    let v = led done2 s t c n2 p2 in
    let wb = w.symbol_is in
    let vb = v.symbol_is in
    let first = chain done AtOpening w.mid Gap t b wb.more wb.symbol_is w.steps wb.may wb.spelled solid p in
    let second = chain done2 AtOpening v.mid Gap t c vb.more vb.symbol_is v.steps vb.may vb.spelled solid2 p2 in
    let same = chain-one done done2 AtOpening w.mid v.mid t b c solid solid2 w.steps v.steps wb vb first second in
    let mids : w.mid ≡ v.mid = steps-one done AtOpening w.mid v.mid w.steps (subst (λ (x : List Slot). Steps AtOpening x v.mid) (sym same.slots_same) v.steps) in
    record { role_same = w.role_is ∙ ap wants mids ∙ sym v.role_is; begun_same = same.begun_same }

-- ---- a comment, or a piece

-- solid bytes one by one, and then an open comment
abbrev OpenRun : Text → Text → Type 0
OpenRun [] t = skip Outside t ≡ Opens []
OpenRun (b ∷ bs) t = (rest : Text) × (skip Outside t ≡ Reaches (b ∷ rest)) × OpenRun bs rest

-- solid bytes one by one, and then the end
abbrev ShutRun : Text → Text → Type 0
ShutRun [] t = skip Outside t ≡ Reaches []
ShutRun (b ∷ bs) t = (rest : Text) × (skip Outside t ≡ Reaches (b ∷ rest)) × ShutRun bs rest

not-both-runs : (a b t : Text) → OpenRun a t → ShutRun b t → ⊥
not-both-runs [] [] t h g = let bad : Opens [] ≡ Reaches [] = sym h ∙ g in cc
not-both-runs [] (x ∷ b) t h (rest, found, below) = let bad : Opens [] ≡ Reaches (x ∷ rest) = sym h ∙ found in cc
not-both-runs (x ∷ a) [] t (rest, found, below) g = let bad : x ∷ rest ≡ [] = reaches-is _ _ (sym found ∙ g) in cc
not-both-runs (x ∷ a) (y ∷ b) t (rest, found, below) (rest2, found2, below2) =
    let same : x ∷ rest ≡ y ∷ rest2 = reaches-is _ _ (sym found ∙ found2) in
    let tails : rest2 ≡ rest = cc in
    not-both-runs a b rest below (subst (ShutRun b) tails below2)

open-gap : (bs gap t : Text) → IsGap gap → OpenRun bs t → OpenRun bs (gap ++ t)
open-gap [] gap t g h = skip-gap gap t g ∙ h
open-gap (b ∷ bs) gap t g (rest, found, below) = (rest, skip-gap gap t g ∙ found, below)

shut-gap : (bs gap t : Text) → IsGap gap → ShutRun bs t → ShutRun bs (gap ++ t)
shut-gap [] gap t g h = skip-gap gap t g ∙ h
shut-gap (b ∷ bs) gap t g (rest, found, below) = (rest, skip-gap gap t g ∙ found, below)

open-solid : (piece bs t : Text) → IsSolid piece → OpenRun bs t → OpenRun (piece ++ bs) (piece ++ t)
open-solid [] bs t h run = run
open-solid (b ∷ piece) bs t h run = (piece ++ t, skip-solid b (piece ++ t) h.0, open-solid piece bs t h.1 run)

shut-solid : (piece bs t : Text) → IsSolid piece → ShutRun bs t → ShutRun (piece ++ bs) (piece ++ t)
shut-solid [] bs t h run = run
shut-solid (b ∷ piece) bs t h run = (piece ++ t, skip-solid b (piece ++ t) h.0, shut-solid piece bs t h.1 run)

laid-open : (before : Separator) (ss : List Slot) (front comment : Text) → Lays before ss front → IsOpenComment comment → (bs : Text) × OpenRun bs (front ++ comment)
laid-open before [] front comment g o = ([], open-gap [] front comment g (open-opens comment o))
laid-open before (s ∷ ss) front comment (gap, piece, rest, whole, parts, spells, others) o =
    let below = laid-open (behind s) ss rest comment others o in
    let run = open-gap (piece ++ below.0) gap (piece ++ (rest ++ comment)) (parts-gap before gap parts) (open-solid piece below.0 (rest ++ comment) (token-solid s.token piece spells) below.1) in
    (piece ++ below.0, subst (OpenRun (piece ++ below.0)) (sym (ap (λ (x : Text). x ++ comment) whole ∙ simp append_assoc)) run)

begun-shut : (begun : Text) → IsSolid begun → (bs : Text) × ShutRun bs begun
begun-shut begun solid = (begun ++ [], subst (ShutRun (begun ++ [])) (append-nil begun) (shut-solid begun [] [] solid skip-nil))

precedes-shut : (before : Separator) (ss : List Slot) (t begun : Text) → IsSolid begun → PrecedesPast Spells behind apart before ss t begun → (bs : Text) × ShutRun bs t
precedes-shut before [] t begun solid (gap, parts, whole) =
    let run = begun-shut begun solid in
    (run.0, subst (ShutRun run.0) (sym whole) (shut-gap run.0 gap begun (parts-gap before gap parts) run.1))
precedes-shut before (s ∷ []) t begun solid (gap, piece, rest, whole, parts, spells, others) =
    let below = precedes-shut (past behind apart begun s) [] rest begun solid others in
    (piece ++ below.0, subst (ShutRun (piece ++ below.0)) (sym whole) (shut-gap (piece ++ below.0) gap (piece ++ rest) (parts-gap before gap parts) (shut-solid piece below.0 rest (token-solid s.token piece spells) below.1)))
precedes-shut before (s ∷ r ∷ ss) t begun solid (gap, piece, rest, whole, parts, spells, others) =
    let below = precedes-shut (behind s) (r ∷ ss) rest begun solid others in
    (piece ++ below.0, subst (ShutRun (piece ++ below.0)) (sym whole) (shut-gap (piece ++ below.0) gap (piece ++ rest) (parts-gap before gap parts) (shut-solid piece below.0 rest (token-solid s.token piece spells) below.1)))

not-both : (t : Text) (r : Role) (b : Text) → EndsAt t InComment → EndsAt t (AtPiece r b) → ⊥
not-both t r b (done, front, comment, whole, laid, is_open) (done2, n, p, solid) =
    let opened = laid-open Gap done front comment laid is_open in
    let shut = precedes-shut Gap done2 t b solid p in
    not-both-runs opened.0 shut.0 t (subst (OpenRun opened.0) (sym whole) opened.1) shut.1

-- the fault of a prefix is that of any of its sites
pub one-fault : (t : Text) (x y : Site) (next : Option ℕ) → EndsAt t x → EndsAt t y → fault_at x next ≡ fault_at y next
one-fault t InComment InComment next a b = refl
one-fault t InComment (AtPiece s c) next a b = absurd (not-both t s c a b)
one-fault t (AtPiece r c) InComment next a b = absurd (not-both t r c b a)
one-fault t (AtPiece r b) (AtPiece s c) next p q =
    let same = one-piece t r s b c p q in
    ap (λ (z : Role). fault_at (AtPiece z b) next) same.role_same ∙ ap (λ (z : Text). fault_at (AtPiece s z) next) same.begun_same
