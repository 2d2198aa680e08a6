-- Reading a part of a file, piece by piece.
use Rattle.std.proofs.Common.{◌≡◌, ℕ, ◌+◌, ◌-◌, ◌≤◌, Bool, true, false, List, [], ◌∷◌, ◌++◌, length, take, drop, refl, sym, ap, subst, ◌∙◌, arith, inl, inr, ◌⊎◌, Option, Some, None, Result, Ok, Err}
use Rattle.std.specs.Prelude.{ℤ, IfOk, IfErr, slice_get}
use Rattle.std.proofs.lemmas.Bool.Decides.{eqb_tells}
use Rattle.std.proofs.lemmas.List.{append-nil, length-append, length-drop, take-append-drop, drop-drop}
use Rattle.nz_text.specs.declared.pieces.Mode.TheVariants.{Outside}
use Rattle.nz_text.specs.declared.found.Span.{Span}
use Rattle.nz_text.specs.declared.found.Found.TheVariants.{Piece, Bad}
use Rattle.nz_text.specs.declared.found.TextFault.{TextFault}
use Rattle.nz_text.specs.Bytes.{IsGap, IsEdge}
use Rattle.nz_text.specs.Skip.{Finds, Reaches, skip}
use Rattle.nz_text.proofs.Gaps.{IsGap-nil}
use Rattle.nz_input.specs.declared.kind.Goal.TheVariants as goal
use Rattle.nz_input.specs.declared.kind.Kind.{Kind}
use Rattle.nz_input.specs.declared.kind.Word.{Word}
use Rattle.nz_input.specs.declared.kind.Word.TheVariants.{GoalWord, Keyword}
use Rattle.nz_input.specs.declared.parts.Part.{Part}
use Rattle.nz_input.specs.declared.parts.Part.TheVariants.{Opening, Next}
use Rattle.nz_input.specs.declared.reader.Entries.{Entries}
use Rattle.nz_input.specs.declared.reader.Reader.{Reader}
use Rattle.nz_input.specs.declared.reader.State.{State}
use Rattle.nz_input.specs.declared.reader.State.TheVariants as state
use Rattle.nz_input.specs.declared.reading.Stop.{Stop}
use Rattle.nz_input.specs.declared.reading.Stop.TheVariants.{At, NoMemory}
use Rattle.nz_input.specs.declared.refusal.Fault.{Fault}
use Rattle.nz_input.specs.declared.refusal.ReadRefusal.{ReadRefusal}
use Rattle.nz_input.specs.declared.symbol.Role.{Role}
use Rattle.nz_input.specs.declared.symbol.Role.TheVariants.{First, Entering}
use Rattle.nz_input.specs.declared.symbol.Symbol.{Symbol}
use Rattle.nz_input.specs.declared.symbol.Symbol.TheVariants.{Amb, Dimension, Begin, Count, Number}
use Rattle.nz_input.specs.Files.{ItemData}
use Rattle.nz_input.specs.declared.kind.Goal.{Goal}
use Rattle.nz_input.specs.Words.{is_matrix, columns}
use Rattle.nz_input.specs.Symbols.{Spells, Entry, OfItem, OfGoal, IsEntry, entry_symbols, symbols, items_of, goals_of}
use Rattle.nz_input.specs.Layouts.{Separator, Gap, Break, AtPiece, CoversIn}
use Rattle.nz_input.specs.Texts.{behind}
use Rattle.nz_input.specs.Refusals.{role_of, Site, fault_at}
use Rattle.nz_input.specs.Prefixes.{IsRefusedIn}
use Rattle.nz_input.specs.Sit.{wants}
use Rattle.nz_input.specs.Progress.{Progress, Nothing, Named, Between, Awaiting, Filling, item_of, done_of, sit_of, IsSound, after, with_rows, with_row, with_keyword, with_word}
use Rattle.nz_input.specs.Shows.{Shows, NoItem, begun_in, begun_at, is_whole}
use Rattle.nz_input.specs.Reading.{IsSymbolAt, IsUnfinished, of_gap}
use Rattle.nz_input.specs.Entries.{opening_symbols, EndsAtOpening, EndsAtEntry, IsPartAt, IsOpening, IsEntryAt, IsOpeningRefused, IsEntryRefused, IsPartRefusal}
use Rattle.nz_input.specs.Parts.{listed, start_of, CanBegin, IsPart, IsPartStopped, EndsPart, IsPlaceOf, IsTold}
use Rattle.nz_input.proofs.Going.{goes}
use Rattle.nz_input.proofs.Laying.{Covers}
use Rattle.nz_input.proofs.Refusing.{Grammar}
use Rattle.nz_input.proofs.Completing.{Behind, behind-nothing, behind-more}
use Rattle.nz_input.proofs.PieceByPiece.{IsReadingIn, piece-added, reading-more-in, reading-stops, reading-bad, gap-at}
use Rattle.nz_input.proofs.Ending.{finished-here, finished-gap}
use Rattle.nz_input.proofs.OpeningFront.{IsEarly, BehindOpening, openings, covers-covered}
use Rattle.nz_input.proofs.EntryFront.{IsWithin, Has, BehindEntry, has-nothing, has-more, same-tail, entries}

-- where a reader of a part stands
abbrev pub IsPartReading : Part → List ℕ → Reader → ℕ → Role → ℕ → Type 0
IsPartReading Opening text r at role start = IsReadingIn EndsAtOpening BehindOpening text r at role start
IsPartReading (Next d) text r at role start = IsReadingIn (λ bytes site. EndsAtEntry d bytes site) (λ p a. BehindEntry d p a) text r at role start

first-opening : (role : Role) → role ≡ First → EndsAtOpening [] (AtPiece role [])
first-opening role e = subst (λ (x : Role). EndsAtOpening [] (AtPiece x [])) (sym e) ([], record { dimension = 1; next = Amb; others = Dimension 1 ∷ []; whole = refl; role_is = refl }, ([], IsGap-nil, refl), tt)

first-entry : (d : ℕ) (role : Role) → role ≡ Entering → EndsAtEntry d [] (AtPiece role [])
first-entry d role e = subst (λ (x : Role). EndsAtEntry d [] (AtPiece x [])) (sym e) ([], record { entry = OfGoal goal.HilbertBasis; fit = tt; next = Begin (GoalWord goal.HilbertBasis); others = []; whole = refl; role_is = refl }, ([], IsGap-nil, refl), tt)

pub part-begins : (part : Part) (text : List ℕ) (r : Reader) (role : Role) → CanBegin part text → Shows r (start_of part) → ((p : Progress) → Shows r p → role ≡ wants (sit_of p)) → IsPartReading part text r 0 role 0
part-begins Opening text r role can h is = record { progress = Nothing; shows = h; order = omega arith; within = omega arith; behind = (behind-nothing, tt); ready = tt; last = first-opening role (is Nothing h) }
part-begins (Next d) text r role can h is = record { progress = Between d []; shows = h; order = omega arith; within = omega arith; behind = (can.0, has-nothing d can.0, refl); ready = can.1; last = first-entry d role (is (Between d []) h) }

pub part-on : (part : Part) (text : List ℕ) (r : Reader) (at : ℕ) (role : Role) (start : ℕ) → IsPartReading part text r at role start → (start ≤ at) × (at ≤ length text)
part-on Opening text r at role start h = (h.order, h.within)
part-on (Next d) text r at role start h = (h.order, h.within)

pub part-bad : (part : Part) (text : List ℕ) (r : Reader) (at : ℕ) (role : Role) (start place : ℕ) (why : TextFault) → IsPartReading part text r at role start → Finds text at (Bad place why) → IsPartStopped part text (At place (of_gap why))
part-bad Opening text r at role start place why h found = reading-bad openings text r at role start place why h found
part-bad (Next d) text r at role start place why h found = reading-bad (entries d) text r at role start place why h found

same-stop : {V : Type 0} {IsText : List ℕ → V → Type 0} {EndsSo : List ℕ → Site → Type 0} (text : List ℕ) (a b : ℕ) (f k : Fault) → b ≡ a → k ≡ f → IsRefusedIn IsText EndsSo fault_at text a f → IsRefusedIn IsText EndsSo fault_at text b k
same-stop {IsText = IsText} {EndsSo = EndsSo} text a b f k ea ef h = subst (λ (x : ℕ). IsRefusedIn IsText EndsSo fault_at text x k) (sym ea) (subst (λ (x : Fault). IsRefusedIn IsText EndsSo fault_at text a x) (sym ef) h)

pub part-stops : (part : Part) (text : List ℕ) (r : Reader) (at : ℕ) (role : Role) (start : ℕ) (span : Span) (now : Role) (stop : Stop) → IsPartReading part text r at role start → Finds text at (Piece span) →
    ((p : Progress) → Shows r p → now ≡ wants (sit_of p)) → IsSymbolAt now text span.start span.end (Err stop) → IsPartStopped part text stop
part-stops part text r at role start span now NoMemory h found is stops = tt
part-stops Opening text r at role start span now (At place why) h found is (n, le, stops, place_is, why_is) = same-stop text (span.start + n) place _ why place_is why_is (reading-stops openings text r at role start span now n h found is le stops)
part-stops (Next d) text r at role start span now (At place why) h found is (n, le, stops, place_is, why_is) = same-stop text (span.start + n) place _ why place_is why_is (reading-stops (entries d) text r at role start span now n h found is le stops)

-- ---- what one symbol more makes

whole-state : (st : State) → begun_in st ≡ NoItem → is_whole st ≡ true
whole-state state.First e = absurd cc
whole-state state.Dimension e = absurd cc
whole-state state.Entry e = refl
whole-state (state.Count k) e = absurd cc
whole-state (state.Rows k n rows row) e = absurd cc

early-after : (p : Progress) (s : Symbol) (st : State) → IsEarly p → role_of s ≡ wants (sit_of p) → begun_in st ≡ begun_at (after p s) → is_whole st ≡ false → IsEarly (after p s)
early-after Nothing s st h e b w = tt
early-after Named (Dimension d) st h e b w = let bad : true ≡ false = sym (whole-state st b) ∙ w in absurd cc
early-after Named Amb st h e b w = absurd cc
early-after Named (Begin k) st h e b w = absurd cc
early-after Named (Count n) st h e b w = absurd cc
early-after Named (Number z) st h e b w = absurd cc
early-after (Between d es) s st h e b w = absurd h
early-after (Awaiting d es k) s st h e b w = absurd h
early-after (Filling d es k n rows row) s st h e b w = absurd h

-- one entry is whole
abbrev pub IsOne : Progress → Type 0
IsOne p = (n : ℕ) × (e : Entry) × (p ≡ Between n (e ∷ []))

rows-one : (d n : ℕ) (k : Kind) (m : ℕ) (rows : List (List ℤ)) → IsWithin d (with_rows n [] k m rows) ⊎ IsOne (with_rows n [] k m rows)
rows-one d n k m rows = elim (eqb_tells (length rows) m) [
  | inl hit ↦ rw (hit.0) (inr (n, item_of k rows, refl))
  | inr miss ↦ rw (miss.0) (inl refl)
]

row-one : (d n : ℕ) (k : Kind) (m : ℕ) (rows : List (List ℤ)) (row : List ℤ) → IsWithin d (with_row n [] k m rows row) ⊎ IsOne (with_row n [] k m rows row)
row-one d n k m rows row = elim (eqb_tells (length row) (columns k n)) [
  | inl hit ↦ rw (hit.0) (rows-one d n k m (rows ++ row ∷ []))
  | inr miss ↦ rw (miss.0) (inl refl)
]

keyword-one : (b : Bool) (d n : ℕ) (k : Kind) → IsWithin d (with_keyword b n [] k) ⊎ IsOne (with_keyword b n [] k)
keyword-one true d n k = inl refl
keyword-one false d n k = rows-one d n k 1 []

word-one : (d n : ℕ) (w : Word) → IsWithin d (with_word n [] w) ⊎ IsOne (with_word n [] w)
word-one d n (GoalWord g) = inr (n, OfGoal g, refl)
word-one d n (Keyword k) = keyword-one (is_matrix k) d n k

between-one : (d n : ℕ) (s : Symbol) → role_of s ≡ Entering → IsWithin d (after (Between n []) s) ⊎ IsOne (after (Between n []) s)
between-one d n (Begin w) e = word-one d n w
between-one d n Amb e = absurd cc
between-one d n (Dimension m) e = absurd cc
between-one d n (Count m) e = absurd cc
between-one d n (Number z) e = absurd cc

-- within an entry one symbol more leads on within it, or behind it
within-after : (d : ℕ) (p : Progress) (s : Symbol) → IsWithin d p → role_of s ≡ wants (sit_of p) → IsWithin d (after p s) ⊎ IsOne (after p s)
within-after d Nothing s w e = absurd w
within-after d Named s w e = absurd w
within-after d (Between n es) s w e = subst (λ (x : List Entry). IsWithin d (after (Between n x) s) ⊎ IsOne (after (Between n x) s)) (sym w) (between-one d n s e)
within-after d (Awaiting n es k) (Count m) w e = subst (λ (x : List Entry). IsWithin d (after (Awaiting n x k) (Count m)) ⊎ IsOne (after (Awaiting n x k) (Count m))) (sym w) (rows-one d n k m [])
within-after d (Awaiting n es k) Amb w e = absurd cc
within-after d (Awaiting n es k) (Dimension m) w e = absurd cc
within-after d (Awaiting n es k) (Begin v) w e = absurd cc
within-after d (Awaiting n es k) (Number z) w e = absurd cc
within-after d (Filling n es k m rows row) (Number z) w e = subst (λ (x : List Entry). IsWithin d (after (Filling n x k m rows row) (Number z)) ⊎ IsOne (after (Filling n x k m rows row) (Number z))) (sym w) (row-one d n k m rows (row ++ z ∷ []))
within-after d (Filling n es k m rows row) Amb w e = absurd cc
within-after d (Filling n es k m rows row) (Dimension i) w e = absurd cc
within-after d (Filling n es k m rows row) (Begin v) w e = absurd cc
within-after d (Filling n es k m rows row) (Count i) w e = absurd cc

still-within : (d : ℕ) (p : Progress) (s : Symbol) (st : State) → IsWithin d p → role_of s ≡ wants (sit_of p) → begun_in st ≡ begun_at (after p s) → is_whole st ≡ false → IsWithin d (after p s)
still-within d p s st w e b not_whole = by (within-after d p s w e)
  where
    by : IsWithin d (after p s) ⊎ IsOne (after p s) → IsWithin d (after p s)
    by (inl h) = h
    by (inr (n, one, is)) = let bad : true ≡ false = sym (whole-state st (b ∙ ap begun_at is)) ∙ not_whole in absurd cc

pub part-more : (part : Part) (text : List ℕ) (r q : Reader) (at : ℕ) (role : Role) (start : ℕ) (span : Span) (now : Role) (s : Symbol) → IsPartReading part text r at role start → Finds text at (Piece span) →
    ((p : Progress) → Shows r p → now ≡ wants (sit_of p)) → role_of s ≡ now → Spells s (take (span.end - span.start) (drop span.start text)) →
    ((p : Progress) → Shows r p → IsSound p → role_of s ≡ wants (sit_of p) → Shows q (after p s)) → is_whole q.state ≡ false → IsPartReading part text q span.end now span.start
part-more Opening text r q at role start span now s h found is role_is spells goes_on not_whole =
    let p = h.progress in
    let wanted : role_of s ≡ wants (sit_of p) = role_is ∙ is p h.shows in
    let shows = goes_on p h.shows h.behind.0.sound wanted in
    reading-more-in openings text r q at role start span now s h found is role_is spells shows
    (λ gap g apart. (behind-more p (take at text) gap (take (span.end - span.start) (drop span.start text)) s h.behind.0 g apart wanted spells, early-after p s q.state h.behind.1 wanted shows.begun not_whole))
part-more (Next d) text r q at role start span now s h found is role_is spells goes_on not_whole =
    let p = h.progress in
    let wanted : role_of s ≡ wants (sit_of p) = role_is ∙ is p h.shows in
    let shows = goes_on p h.shows h.behind.1.sound wanted in
    reading-more-in (entries d) text r q at role start span now s h found is role_is spells shows
    (λ gap g apart. (h.behind.0, has-more d p (take at text) gap (take (span.end - span.start) (drop span.start text)) s h.behind.1 g apart wanted spells, still-within d p s q.state h.behind.2 wanted shows.begun not_whole))

-- ---- a whole part

whole-is : (st : State) (p : Progress) → begun_in st ≡ begun_at p → is_whole st ≡ true → (n : ℕ) × (es : List Entry) × (p ≡ Between n es)
whole-is state.First p b w = absurd cc
whole-is state.Dimension p b w = absurd cc
whole-is (state.Count k) p b w = absurd cc
whole-is (state.Rows k n rows row) p b w = absurd cc
whole-is state.Entry Nothing b w = absurd cc
whole-is state.Entry Named b w = absurd cc
whole-is state.Entry (Between n es) b w = (n, es, refl)
whole-is state.Entry (Awaiting n es k) b w = absurd cc
whole-is state.Entry (Filling n es k m rows row) b w = absurd cc

part-at : (before : Separator) (ss : List Symbol) (text : List ℕ) (end : ℕ) → end ≤ length text → IsEdge (drop end text) → CoversIn Spells behind before ss (take end text) → IsPartAt before ss text 0 end
part-at before ss text end le edge covered =
    let same : end ≡ end - 0 = omega arith in
    record { order = omega arith; within = le; covered = subst (λ (n : ℕ). CoversIn Spells behind before ss (take n text)) same covered; edge = edge }

opening-done : (p : Progress) (s : Symbol) (q : Reader) (text piece : List ℕ) (end : ℕ) → IsEarly p → role_of s ≡ wants (sit_of p) → Spells s piece → Shows q (after p s) → is_whole q.state ≡ true → Behind (after p s) (take end text) → end ≤ length text → IsEdge (drop end text) → IsOpening text q.entries.amb end
opening-done Nothing s q text piece end h e spells shows whole b le edge = let got = whole-is q.state Named shows.begun whole in absurd (not-named got.0 got.1 got.2)
  where
    not-named : (n : ℕ) (es : List Entry) → Named ≡ Between n es → ⊥
    not-named n es e = cc
opening-done Named (Dimension d) q text piece end h e spells shows whole b le edge =
    subst (λ (n : ℕ). IsOpening text n end) (sym shows.kept.amb_is) (spells.1, spells.2, part-at Gap (opening_symbols d) text end le edge (covers-covered Gap (opening_symbols d) (take end text) (inl refl) b.covers))
opening-done Named Amb q text piece end h e spells shows whole b le edge = absurd cc
opening-done Named (Begin w) q text piece end h e spells shows whole b le edge = absurd cc
opening-done Named (Count n) q text piece end h e spells shows whole b le edge = absurd cc
opening-done Named (Number z) q text piece end h e spells shows whole b le edge = absurd cc
opening-done (Between d es) s q text piece end h e spells shows whole b le edge = absurd h
opening-done (Awaiting d es k) s q text piece end h e spells shows whole b le edge = absurd h
opening-done (Filling d es k n rows row) s q text piece end h e spells shows whole b le edge = absurd h

-- a reader that has a symbol of an entry behind it does not stand before the entry
not-before : (d : ℕ) (p : Progress) (n : ℕ) (es : List Entry) (done : List Symbol) (s : Symbol) → p ≡ Between n es → IsWithin d p → done_of p ≡ Amb ∷ Dimension d ∷ (done ++ s ∷ []) → ⊥
not-before d p n es done s is w whole =
    let none : es ≡ [] = subst (IsWithin d) is w in
    let short : Amb ∷ Dimension n ∷ [] ≡ Amb ∷ Dimension d ∷ (done ++ s ∷ []) = ap (λ (x : List Entry). symbols n x) (sym none) ∙ ap done_of (sym is) ∙ whole in
    some-last done s (same-tail n d [] (done ++ s ∷ []) short).1
  where
    some-last : (done : List Symbol) (s : Symbol) → [] ≡ done ++ s ∷ [] → ⊥
    some-last [] s e = cc
    some-last (x ∷ done) s e = cc

entry-done : (d n : ℕ) (p : Progress) (e : Entry) (q : Reader) (text : List ℕ) (end : ℕ) → p ≡ Between n (e ∷ []) → Shows q p → Has d p (take end text) → end ≤ length text → IsEdge (drop end text) → IsPart (Next d) text q.entries end
entry-done d n p e q text end is shows has le edge = made (subst (Shows q) is shows) (subst (λ (x : Progress). Has d x (take end text)) is has)
  where
    made : Shows q (Between n (e ∷ [])) → Has d (Between n (e ∷ [])) (take end text) → IsPart (Next d) text q.entries end
    made shows has =
        let same = same-tail n d (entry_symbols e ++ []) has.done has.whole in
        let all : has.done ≡ entry_symbols e = sym same.1 ∙ append-nil (entry_symbols e) in
        let covers : Covers (entry_symbols e) (take end text) = subst (λ (x : List Symbol). Covers x (take end text)) all has.covers in
        let fit : IsEntry d e = subst (λ (x : ℕ). IsEntry x e) same.0 has.sound.1.0 in
        (Some e, (fit, part-at Break (entry_symbols e) text end le edge (covers-covered Break (entry_symbols e) (take end text) (inr has.edge) covers)), shows.kept.items_are, shows.kept.goals_are)

next-done : (d : ℕ) (p : Progress) (s : Symbol) (q : Reader) (text : List ℕ) (end : ℕ) → IsWithin d (after p s) ⊎ IsOne (after p s) → Shows q (after p s) → Has d (after p s) (take end text) → is_whole q.state ≡ true →
    (done : List Symbol) → done_of (after p s) ≡ Amb ∷ Dimension d ∷ (done ++ s ∷ []) → end ≤ length text → IsEdge (drop end text) → IsPart (Next d) text q.entries end
next-done d p s q text end (inr (n, e, one)) shows has whole done is le edge = entry-done d n (after p s) e q text end one shows has le edge
next-done d p s q text end (inl w) shows has whole done is le edge = let got = whole-is q.state (after p s) shows.begun whole in absurd (not-before d (after p s) got.0 got.1 done s got.2 w is)

pub part-done : (part : Part) (text : List ℕ) (r q : Reader) (at : ℕ) (role : Role) (start : ℕ) (span : Span) (now : Role) (s : Symbol) → IsPartReading part text r at role start → Finds text at (Piece span) →
    ((p : Progress) → Shows r p → now ≡ wants (sit_of p)) → role_of s ≡ now → Spells s (take (span.end - span.start) (drop span.start text)) →
    ((p : Progress) → Shows r p → IsSound p → role_of s ≡ wants (sit_of p) → Shows q (after p s)) → is_whole q.state ≡ true → IsPart part text q.entries span.end
part-done Opening text r q at role start span now s h found is role_is spells goes_on whole =
    let p = h.progress in
    let wanted : role_of s ≡ wants (sit_of p) = role_is ∙ is p h.shows in
    let piece = take (span.end - span.start) (drop span.start text) in
    let adds = piece-added text r at role start span h found in
    let b : Behind (after p s) (take span.end text) = subst (Behind (after p s)) adds.front (behind-more p (take at text) adds.gap piece s h.behind.0 adds.is_gap adds.apart wanted spells) in
    opening-done p s q text piece span.end h.behind.1 wanted spells (goes_on p h.shows h.behind.0.sound wanted) whole b found.1 found.4
part-done (Next d) text r q at role start span now s h found is role_is spells goes_on whole =
    let p = h.progress in
    let wanted : role_of s ≡ wants (sit_of p) = role_is ∙ is p h.shows in
    let piece = take (span.end - span.start) (drop span.start text) in
    let adds = piece-added text r at role start span h found in
    let to = goes p s piece h.behind.1.sound wanted spells in
    let has : Has d (after p s) (take span.end text) = subst (λ (x : List ℕ). Has d (after p s) x) adds.front (has-more d p (take at text) adds.gap piece s h.behind.1 adds.is_gap adds.apart wanted spells) in
    next-done d p s q text span.end (within-after d p s h.behind.2 wanted) (goes_on p h.shows h.behind.1.sound wanted) has whole h.behind.1.done (to.done ∙ ap (λ (x : List Symbol). x ++ s ∷ []) h.behind.1.whole) found.1 found.4

-- ---- the end of the text

ends-short : {V : Type 0} {IsText : List ℕ → V → Type 0} {EndsSo : List ℕ → Site → Type 0} {HasBehind : Progress → List ℕ → Type 0} (grammar : Grammar IsText EndsSo HasBehind) (text : List ℕ) (r : Reader) (at : ℕ) (role : Role) (start place : ℕ) (why : Fault) →
    IsReadingIn EndsSo HasBehind text r at role start → skip Outside (drop at text) ≡ Reaches [] → IsUnfinished r text at role start place why → IsRefusedIn IsText EndsSo fault_at text place why
ends-short {IsText = IsText} {EndsSo = EndsSo} grammar text r at role start place why h found (n, inl (e, place_is, is)) = subst (λ (x : ℕ). IsRefusedIn IsText EndsSo fault_at text x why) (sym place_is) (finished-here grammar text r at role start why h n e is)
ends-short {IsText = IsText} {EndsSo = EndsSo} grammar text r at role start place why h found (n, inr (lt, place_is, is)) = subst (λ (x : ℕ). IsRefusedIn IsText EndsSo fault_at text x why) (sym place_is) (finished-gap grammar text r at role start why h found n lt (is h.progress h.shows))

early-open : (p : Progress) (n : ℕ) (es : List Entry) → IsEarly p → p ≡ Between n es → ⊥
early-open Nothing n es h e = cc
early-open Named n es h e = cc
early-open (Between d fs) n es h e = h
early-open (Awaiting d fs k) n es h e = h
early-open (Filling d fs k m rows row) n es h e = h

nothing-left : (d n : ℕ) (es : List Entry) (p : Progress) (r : Reader) (text : List ℕ) (at : ℕ) (made : Entries × ℕ) → p ≡ Between n es → Shows r p → Has d p (take at text) → IsWithin d p → skip Outside (drop at text) ≡ Reaches [] → made.0 ≡ r.entries → made.1 ≡ length text → IsPart (Next d) text made.0 made.1
nothing-left d n es p r text at made is shows has w found entries_are end_is =
    let none : es ≡ [] = subst (IsWithin d) is w in
    let here : p ≡ Between n [] = is ∙ ap (λ (x : List Entry). Between n x) none in
    let shows2 : Shows r (Between n []) = subst (Shows r) here shows in
    let short : Amb ∷ Dimension n ∷ [] ≡ Amb ∷ Dimension d ∷ has.done = ap done_of (sym here) ∙ has.whole in
    let empty : take at text ≡ [] = subst (λ (x : List Symbol). Covers x (take at text)) (sym (same-tail n d [] has.done short).1) has.covers in
    let g = gap-at text at [] found in
    let whole : text ≡ g.gap = sym (take-append-drop at text) ∙ ap (λ (x : List ℕ). x ++ drop at text) empty ∙ g.whole ∙ append-nil g.gap in
    (None, (end_is, subst IsGap (sym whole) g.is_gap), ap (λ (x : Entries). x.items) entries_are ∙ shows2.kept.items_are, ap (λ (x : Entries). x.goals) entries_are ∙ shows2.kept.goals_are)

pub part-ends : (part : Part) (text : List ℕ) (r : Reader) (at : ℕ) (role : Role) (start : ℕ) (result : Result (Entries × ℕ) Stop) → IsPartReading part text r at role start → skip Outside (drop at text) ≡ Reaches [] → EndsPart r text at role start result →
    IfOk result (λ m. IsPart part text m.0 m.1) × IfErr result (λ e. IsPartStopped part text e)
part-ends part text r at role start (Err NoMemory) h found f = absurd f
part-ends Opening text r at role start (Err (At place why)) h found f = (tt, ends-short openings text r at role start place why h found f)
part-ends (Next d) text r at role start (Err (At place why)) h found f = (tt, ends-short (entries d) text r at role start place why h found f)
part-ends Opening text r at role start (Ok made) h found (is, entries_are, end_is) = let got = whole-is r.state h.progress h.shows.begun (ap is_whole is) in absurd (early-open h.progress got.0 got.1 h.behind.1 got.2)
part-ends (Next d) text r at role start (Ok made) h found (is, entries_are, end_is) = let got = whole-is r.state h.progress h.shows.begun (ap is_whole is) in (nothing-left d got.0 got.1 h.progress r text at made got.2 h.shows h.behind.1 h.behind.2 found entries_are end_is, tt)

-- ---- in the whole text

refused-within : {V : Type 0} {IsText : List ℕ → V → Type 0} {EndsSo : List ℕ → Site → Type 0} (text : List ℕ) (at : ℕ) (why : Fault) → IsRefusedIn IsText EndsSo fault_at text at why → at ≤ length text
refused-within text at why r = let long = ap length r.whole ∙ length-append r.before r.rest in omega (arith, long, r.place)

pub stop-place : (part : Part) (text : List ℕ) (stop : Stop) → IsPartStopped part text stop → IsPlaceOf text 0 stop
stop-place part text NoMemory h = tt
stop-place Opening text (At at why) h = omega (arith, refused-within text at why h)
stop-place (Next d) text (At at why) h = omega (arith, refused-within text at why h)

pub stop-place-from : (d : ℕ) (text : List ℕ) (from : ℕ) (stop : Stop) → from ≤ length text → IsPartStopped (Next d) (drop from text) stop → IsPlaceOf text from stop
stop-place-from d text from NoMemory le h = tt
stop-place-from d text from (At at why) le h = omega (arith, refused-within (drop from text) at why h, length-drop from text)

pub opening-told : (text : List ℕ) (stop : Stop) (told : ReadRefusal) → IsPartStopped Opening text stop → IsTold text 0 stop told → IsPartRefusal (λ at fault. IsOpeningRefused text at fault) text 0 told
opening-told text NoMemory told h is = rw is tt
opening-told text (At at why) told h is = rw is (at, h, refl, refl)

pub entry-told : (d : ℕ) (text rest : List ℕ) (from : ℕ) (stop : Stop) (told : ReadRefusal) → IsPartStopped (Next d) rest stop → IsTold text from stop told → IsPartRefusal (λ at fault. IsEntryRefused d rest at fault) text from told
entry-told d text rest from NoMemory told h is = rw is tt
entry-told d text rest from (At at why) told h is = rw is (at, h, refl, refl)

pub entry-from : (d : ℕ) (text : List ℕ) (from : ℕ) (e : Option Entry) (end : ℕ) → from ≤ length text → IsEntryAt d (drop from text) 0 e end → IsEntryAt d text from e (from + end)
entry-from d text from None end le (is, gap) = (omega (arith, is, length-drop from text), gap)
entry-from d text from (Some e) end le (fit, part) =
    let same : end - 0 ≡ from + end - from = omega arith in (
      fit,
      record {
        order = omega arith;
        within = omega (arith, part.within, length-drop from text);
        covered = subst (λ (n : ℕ). CoversIn Spells behind Break (entry_symbols e) (take n (drop from text))) same part.covered;
        edge = subst IsEdge (drop-drop end from text) part.edge;
      },
    )

-- ---- the entry that is taken out

pub none-listed : (e : Option Entry) (items : List ItemData) (goals : List Goal) → items ≡ items_of (listed e) → goals ≡ goals_of (listed e) → items ≡ [] → length goals ≡ 0 → None ≡ e
none-listed None items goals a b none empty = refl
none-listed (Some (OfItem item)) items goals a b none empty = absurd cc
none-listed (Some (OfGoal goal)) items goals a b none empty = let long : length goals ≡ 1 = ap length b in absurd (omega arith)

pub item-listed : (e : Option Entry) (items others : List ItemData) (item : ItemData) → items ≡ items_of (listed e) → items ≡ others ++ item ∷ [] → Some (OfItem item) ≡ e
item-listed None items [] item a b = absurd cc
item-listed None items (x ∷ others) item a b = absurd cc
item-listed (Some (OfGoal goal)) items [] item a b = absurd cc
item-listed (Some (OfGoal goal)) items (x ∷ others) item a b = absurd cc
item-listed (Some (OfItem one)) items [] item a b = let same : one ≡ item = cc in ap (λ (x : ItemData). Some (OfItem x)) (sym same)
item-listed (Some (OfItem one)) items (x ∷ []) item a b = absurd cc
item-listed (Some (OfItem one)) items (x ∷ y ∷ others) item a b = absurd cc

pub goal-listed : (e : Option Entry) (items : List ItemData) (goals : List Goal) (goal : Goal) → items ≡ items_of (listed e) → goals ≡ goals_of (listed e) → items ≡ [] → slice_get goals 0 ≡ Some goal → Some (OfGoal goal) ≡ e
goal-listed None items goals goal a b none found = let bad : None ≡ Some goal = ap (λ (x : List Goal). slice_get x 0) (sym b) ∙ found in absurd cc
goal-listed (Some (OfItem item)) items goals goal a b none found = absurd cc
goal-listed (Some (OfGoal one)) items goals goal a b none found = let same : Some one ≡ Some goal = ap (λ (x : List Goal). slice_get x 0) (sym b) ∙ found in ap (λ (x : Goal). Some (OfGoal x)) (let is : goal ≡ one = cc in is)
