-- What has been read of a text begins one, ends at a site, and goes on with one token more.
use Rattle.std.proofs.Common.{◌≡◌, ◌≢◌, ℕ, ◌+◌, ◌-◌, ◌<◌, ◌≤◌, Bool, true, false, List, [], ◌∷◌, ◌++◌, length, take, drop, refl, sym, ap, subst, ◌∙◌, append_assoc, arith, inl, inr, ◌⊎◌, Some, None, Option}
use Rattle.std.proofs.lemmas.List.{append-nil, length-append, length-take, length-drop, take-append-drop, take_at, drop_at, drop-drop}
use Rattle.nz_vec.specs.Texts.{Text}
use Rattle.nz_text.specs.declared.pieces.Class.TheVariants.{Solid, Foreign}
use Rattle.nz_text.specs.declared.pieces.Mode.TheVariants.{Outside}
use Rattle.nz_text.specs.Bytes.{IsGap, IsSolid, IsEdge, IsOpenComment, class_of}
use Rattle.nz_text.specs.Skip.{Reaches, Opens, skip}
use Rattle.nz_text.proofs.Gaps.{skip-gap, skip-nil, skip-foreign, IsGap-nil}
use Rattle.nz_input.specs.Files.{FileData}
use Rattle.nz_input.specs.Layouts.{Separator, Gap, Break, Parts, PrecedesPast, InComment, AtPiece, closing, past}
use Rattle.nz_input.specs.Prefixes.{first_of, IsPrefixIn, EndsIn}
use Rattle.nz_input.proofs.Laying.{gap-edge, append-some, parts-gap, parts-at, regroup}
use Rattle.nz_input.proofs.Completing.{gap-append, close-gap}
use Rattle.nz_input.proofs.Refusing.{begins-part}
use Rattle.nz_input.proofs.Each.{all-both}
use Rattle.nz_symbolic.specs.declared.symbol.Token.{Token}
use Rattle.nz_symbolic.specs.declared.symbol.Role.{Role}
use Rattle.nz_symbolic.specs.declared.symbol.Slot.{Slot}
use Rattle.nz_symbolic.specs.Symbols.{Spells, SpellsToken, slot}
use Rattle.nz_symbolic.specs.Texts.{behind, Lays, IsAnyTextOf}
use Rattle.nz_symbolic.specs.Refusals.{apart, behind_whole, IsNext, IsOpenAt, IsTextPrefix, EndsAt}
use Rattle.nz_symbolic.specs.Endings.{spelled_out}
use Rattle.nz_symbolic.specs.Machines.{CoversIn, IsReadyIn}
use Rattle.nz_symbolic.specs.Sit.{Sit, AtOpening, MayToken, May, next, wants, IsFinal, Ahead}
use Rattle.nz_symbolic.specs.Left.{IsSpelled, IsNewFile, IsOldFile}
use Rattle.nz_symbolic.specs.Readings.{BeginsAt, IsLoose, IsStuckIn}
use Rattle.nz_symbolic.proofs.Machine.{edge-is-ahead, ahead-is-edge, ready-next, covers-read, covers-more, reads-lays}
use Rattle.nz_symbolic.proofs.Lexemes.{token-solid, token-some}
use Rattle.nz_symbolic.proofs.Lexing.{lexicon}
use Rattle.nz_symbolic.proofs.Accepting.{Steps}
use Rattle.nz_symbolic.proofs.Leaving.{AreSpelled, steps-left}
use Rattle.nz_symbolic.proofs.PrefixEnding.{AreFile, Finishes, finishes, lacking, steps-more}
use Rattle.nz_symbolic.proofs.Ending.{text-lacking}
use Rattle.nz_symbolic.proofs.OneSite.{apart-ahead}
use Rattle.nz_symbolic.proofs.Dead.{Behind, Reads, IsDead, no-text, no-prefix, dead-reach, dead-end, dead-open}
use Rattle.nz_symbolic.proofs.Stopping.{ready-first, first-gap, first-same}

-- what a reader has behind it
abbrev pub Covers : List Slot → Text → Type 0
Covers ss a = CoversIn Spells Ahead ss a

pub covers-spelled : (ss : List Slot) (a : Text) → Covers ss a → AreSpelled ss
covers-spelled [] a h = tt
covers-spelled (s ∷ ss) a (gap, piece, rest, whole, g, spells, ahead, others) = ((piece, spells), covers-spelled ss rest others)

-- ---- it begins a text

ready-gap : (done : List Slot) (gap : Text) → IsGap gap → IsReadyIn Ahead done gap
ready-gap [] gap g = tt
ready-gap (s ∷ []) [] g = lexicon.end_ahead s
ready-gap (s ∷ []) (b ∷ gap) g = edge-is-ahead lexicon s (b ∷ gap) (subst IsEdge (append-nil (b ∷ gap)) (gap-edge (b ∷ gap) [] g (λ e. cc)))
ready-gap (s ∷ r ∷ done) gap g = ready-gap (r ∷ done) gap g

pub covers-lays : (done : List Slot) (a gap : Text) → Covers done a → IsGap gap → Lays Gap done (a ++ gap)
covers-lays done a gap h g =
    let end : skip Outside gap ≡ Reaches [] = ap (skip Outside) (sym (append-nil gap)) ∙ skip-gap gap [] g ∙ skip-nil in
    let reads = covers-read lexicon done [] a gap h (ready-gap done gap g) end in
    reads-lays lexicon Gap done (a ++ gap) (inl refl) (subst (λ (x : List Slot). Reads x (a ++ gap)) (append-nil done) reads)

pub prefix-gap : (q : Sit) (done : List Slot) (a gap : Text) → Behind q done a → IsGap gap → IsTextPrefix (a ++ gap)
prefix-gap q done a gap h g =
    let f = finishes done q h.steps (covers-spelled done a h.covers) in
    let t = text-lacking (a ++ gap) done f.others (covers-lays done a gap h.covers g) (lacking done f.others f.file f.missing) in
    record { more = spelled_out f.others; file = t.0; text = t.1 }

pub prefix-comment : (q : Sit) (done : List Slot) (a gap comment : Text) → Behind q done a → IsGap gap → IsOpenComment comment → IsTextPrefix (a ++ (gap ++ comment))
prefix-comment q done a gap comment h g o =
    let whole = prefix-gap q done a (gap ++ (comment ++ closing comment)) h (gap-append gap (comment ++ closing comment) g (close-gap comment o)) in
    let same : a ++ (gap ++ (comment ++ closing comment)) ≡ (a ++ (gap ++ comment)) ++ closing comment = simp append_assoc in
    begins-part {IsText = IsAnyTextOf} (a ++ (gap ++ comment)) (closing comment) (subst IsTextPrefix same whole)

-- one token more is behind
pub behind-more : (q : Sit) (done : List Slot) (a gap piece : Text) (t : Token) → Behind q done a → IsReadyIn Ahead done (gap ++ (piece ++ [])) → IsGap gap → MayToken q t → SpellsToken t piece → Behind (next q (slot (wants q) t)) (done ++ slot (wants q) t ∷ []) (a ++ (gap ++ (piece ++ [])))
behind-more q done a gap piece t h ready g may spells = record { covers = covers-more lexicon done a gap piece (slot (wants q) t) h.covers ready g spells; steps = steps-more AtOpening q done (slot (wants q) t) h.steps (refl, may) }

pub prefix-piece : (q : Sit) (done : List Slot) (a gap begun tail : Text) → Behind q done a → IsGap gap → begun ≢ [] → IsReadyIn Ahead done (gap ++ (begun ++ tail)) → BeginsAt q begun → IsTextPrefix (a ++ (gap ++ begun))
prefix-piece q done a gap [] tail h g some ready begins = absurd (some refl)
prefix-piece q done a gap (b ∷ begun) tail h g some ready begins =
    let piece = (b ∷ begun) ++ begins.more in
    let ready2 : IsReadyIn Ahead done (gap ++ (piece ++ [])) = ready-first done (gap ++ ((b ∷ begun) ++ tail)) (gap ++ (piece ++ [])) (first-gap gap ((b ∷ begun) ++ tail) (piece ++ []) refl) ready in
    let more = behind-more q done a gap piece begins.token_is h ready2 g begins.may begins.spelled in
    let whole = prefix-gap (next q (slot (wants q) begins.token_is)) (done ++ slot (wants q) begins.token_is ∷ []) (a ++ (gap ++ (piece ++ []))) [] more IsGap-nil in
    let same : (a ++ (gap ++ (piece ++ []))) ++ [] ≡ (a ++ (gap ++ (b ∷ begun))) ++ begins.more = simp (append_assoc, append-nil) in
    begins-part {IsText = IsAnyTextOf} (a ++ (gap ++ (b ∷ begun))) begins.more (subst IsTextPrefix same whole)

-- ---- it ends at a site

edge-front : (a b : Text) → a ≢ [] → IsEdge a → IsEdge (a ++ b)
edge-front [] b some h = absurd (some refl)
edge-front (x ∷ a) b some h = h

covers-some : (r : Slot) (ss : List Slot) (a : Text) → Covers (r ∷ ss) a → a ≢ []
covers-some r ss a ([], piece, rest, whole, g, spells, ahead, others) = λ e. append-some piece rest (token-some r.token piece spells) (sym whole ∙ e)
covers-some r ss a (b ∷ gap, piece, rest, whole, g, spells, ahead, others) = λ e. let bad : b ∷ (gap ++ (piece ++ rest)) ≡ [] = sym whole ∙ e in cc

sort-edge : (s : Slot) (sort : Separator) (t : Text) → behind s ≡ sort → Ahead s (first_of t) → (sort ≡ Gap) ⊎ IsEdge t
sort-edge s Gap t e h = inl refl
sort-edge s Break t e h = inr (ahead-is-edge lexicon s t e h)

sort-more : (sort : Separator) (t u : Text) → t ≢ [] → (sort ≡ Gap) ⊎ IsEdge t → (sort ≡ Gap) ⊎ IsEdge (t ++ u)
sort-more sort t u some (inl e) = inl e
sort-more sort t u some (inr e) = inr (edge-front t u some e)

-- what divides the last symbol from what has begun
last-parts : (s : Slot) (gap begun tail : Text) → IsGap gap → IsSolid begun → Ahead s (first_of (gap ++ (begun ++ tail))) → (begun ≡ [] → gap ≡ [] → apart s ≡ Gap) → Parts (past behind apart begun s) gap
last-parts s gap [] tail g solid ahead loose = by (apart s) refl gap g (loose refl)
  where
    by : (sort : Separator) → apart s ≡ sort → (gap : Text) → IsGap gap → (gap ≡ [] → apart s ≡ Gap) → Parts (apart s) gap
    by Gap e gap g loose = subst (λ (x : Separator). Parts x gap) (sym e) g
    by Break e [] g loose = let bad : Gap ≡ Break = sym (loose refl) ∙ e in absurd cc
    by Break e (b ∷ gap) g loose = subst (λ (x : Separator). Parts x (b ∷ gap)) (sym e) (g, λ x. cc)
last-parts s gap (b ∷ begun) tail g solid ahead loose = by (behind s) refl gap g ahead
  where
    by : (sort : Separator) → behind s ≡ sort → (gap : Text) → IsGap gap → Ahead s (first_of (gap ++ ((b ∷ begun) ++ tail))) → Parts (behind s) gap
    by Gap e gap g ahead = subst (λ (x : Separator). Parts x gap) (sym e) g
    by Break e [] g ahead = absurd ((ahead-is-edge lexicon s ((b ∷ begun) ++ tail) e ahead) solid.0)
    by Break e (c ∷ gap) g ahead = subst (λ (x : Separator). Parts x (c ∷ gap)) (sym e) (g, λ x. cc)

precedes-at : (done : List Slot) (before : Separator) (a gap begun tail : Text) → Covers done a → (before ≡ Gap) ⊎ IsEdge (a ++ (gap ++ begun)) → IsGap gap → IsSolid begun → IsReadyIn Ahead done (gap ++ (begun ++ tail)) → (begun ≡ [] → gap ≡ [] → IsLoose done) → (done ≡ [] → before ≡ Gap) → PrecedesPast Spells behind apart before done (a ++ (gap ++ begun)) begun
precedes-at [] before a gap begun tail h edge g solid ready loose first = (gap, subst (λ (x : Separator). Parts x gap) (sym (first refl)) g, ap (λ (x : Text). x ++ (gap ++ begun)) h)
precedes-at (s ∷ []) before a gap begun tail (g1, piece, rest, whole, is_gap, spells, ahead, others) edge g solid ready loose first =
    let behind_it : rest ++ (gap ++ begun) ≡ gap ++ begun = ap (λ (x : Text). x ++ (gap ++ begun)) others in
    let all : a ++ (gap ++ begun) ≡ g1 ++ (piece ++ (rest ++ (gap ++ begun))) = ap (λ (x : Text). x ++ (gap ++ begun)) whole ∙ regroup g1 piece rest (gap ++ begun) in (
      g1,
      piece,
      rest ++ (gap ++ begun),
      all,
      parts-at before g1 piece (rest ++ (gap ++ begun)) (subst (λ (x : Text). (before ≡ Gap) ⊎ IsEdge x) all edge) is_gap (token-solid s.token piece spells) (token-some s.token piece spells),
      spells,
      (gap, last-parts s gap begun tail g solid ready loose, behind_it),
    )
precedes-at (s ∷ r ∷ done) before a gap begun tail (g1, piece, rest, whole, is_gap, spells, ahead, others) edge g solid ready loose first =
    let all : a ++ (gap ++ begun) ≡ g1 ++ (piece ++ (rest ++ (gap ++ begun))) = ap (λ (x : Text). x ++ (gap ++ begun)) whole ∙ regroup g1 piece rest (gap ++ begun) in
    let inner = sort-more (behind s) rest (gap ++ begun) (covers-some r done rest others) (sort-edge s (behind s) rest refl ahead) in (
      g1,
      piece,
      rest ++ (gap ++ begun),
      all,
      parts-at before g1 piece (rest ++ (gap ++ begun)) (subst (λ (x : Text). (before ≡ Gap) ⊎ IsEdge x) all edge) is_gap (token-solid s.token piece spells) (token-some s.token piece spells),
      spells,
      precedes-at (r ∷ done) (behind s) rest gap begun tail others inner g solid ready loose (λ e. absurd cc),
    )

-- a token that begins so, and not whole where nothing need divide it from the next
pub record OpensAt (q : Sit) (begun : Text) : Type 0 where
  pub begins : BeginsAt q begun
  pub unfinished : begins.more ≡ [] → behind_whole begins.token_is ≡ Break

next-is : (q : Sit) (done : List Slot) (a begun : Text) → Behind q done a → OpensAt q begun → IsNext done (wants q) begun
next-is q done a begun h o =
    let t = o.begins.token_is in
    let r : Slot = slot (wants q) t in
    let spelled : AreSpelled (done ++ r ∷ []) = all-both (λ (s : Slot). IsSpelled s.token) done (r ∷ []) (covers-spelled done a h.covers) ((begun ++ o.begins.more, o.begins.spelled), tt) in
    let f = finishes (done ++ r ∷ []) (next q r) (steps-more AtOpening q done r h.steps (refl, o.begins.may)) spelled in
    let is : IsOpenAt (wants q) begun r = record { role_is = refl; more = o.begins.more; spelled = o.begins.spelled; unfinished = o.unfinished } in
    by r f.others is f.file
  where
    by : (r : Slot) (others : List Slot) → IsOpenAt (wants q) begun r → AreFile ((done ++ r ∷ []) ++ others) → IsNext done (wants q) begun
    by r others is (inl f) = inl (record { dimension = f.dimension; entries = f.entries; fit = f.fit; next = r; others = others; whole = f.whole ∙ append_assoc done (r ∷ []) others; role_is = is })
    by r others is (inr f) = inr (record { dimension = f.dimension; entries = f.matrices; fit = f.fit; next = r; others = others; whole = f.whole ∙ append_assoc done (r ∷ []) others; role_is = is })

-- where a piece must begin, or has begun
pub site-piece : (q : Sit) (done : List Slot) (a gap begun tail : Text) → Behind q done a → IsGap gap → IsSolid begun → IsReadyIn Ahead done (gap ++ (begun ++ tail)) → (begun ≡ [] → gap ≡ [] → IsLoose done) → OpensAt q begun → EndsAt (a ++ (gap ++ begun)) (AtPiece (wants q) begun)
site-piece q done a gap begun tail h g solid ready loose o = (done, next-is q done a begun h o, precedes-at done Gap a gap begun tail h.covers (inl refl) g solid ready loose (λ e. refl), solid)

pub site-open : (q : Sit) (done : List Slot) (a gap comment : Text) → Behind q done a → IsGap gap → IsOpenComment comment → EndsAt (a ++ (gap ++ comment)) InComment
site-open q done a gap comment h g o = (done, a ++ gap, comment, sym (append_assoc a gap comment), covers-lays done a gap h.covers g, o)

-- ---- what is stuck is not whole

pub stuck-opens : (q : Sit) (begun others : Text) (b : BeginsAt q begun) → IsStuckIn q begun others → OpensAt q begun
stuck-opens q begun others b stuck = record { begins = b; unfinished = λ e. by (behind_whole b.token_is) refl others stuck (subst (SpellsToken b.token_is) (ap (λ (x : Text). begun ++ x) e ∙ append-nil begun) b.spelled) }
  where
    by : (sort : Separator) → behind_whole b.token_is ≡ sort → (others : Text) → IsStuckIn q begun others → SpellsToken b.token_is begun → behind_whole b.token_is ≡ Break
    by Break e others stuck spells = e
    by Gap e [] stuck spells = absurd (stuck [] tt b.token_is begun [] b.may spells tt refl)
    by Gap e (c ∷ others) stuck spells = absurd (stuck [] b.token_is begun (c ∷ []) b.may spells (apart-ahead b.token_is c e) refl)
