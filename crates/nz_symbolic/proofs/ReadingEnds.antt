-- One token more, the end of a text, and what stands between two tokens.
use Rattle.std.proofs.Common.{◌≡◌, ◌≢◌, ℕ, zero, suc, ◌+◌, ◌-◌, ◌<◌, ◌≤◌, Bool, true, false, List, [], ◌∷◌, ◌++◌, length, take, drop, get_or, refl, sym, ap, subst, ◌∙◌, append_assoc, arith, inl, inr, ◌⊎◌, Some, None, Option, Ok, Err}
use Rattle.std.specs.Prelude.{◌==◌, ◌&&◌, if◌then◌else◌, slice_index}
use Rattle.std.specs.Fmt.{decimal}
use Rattle.std.proofs.Math.Seq.{drop-cons}
use Rattle.std.proofs.lemmas.List.{append-nil, length-append, length-take, length-drop, take-append-drop, take_at, take_all, drop_at, drop-drop}
use Rattle.nz_vec.specs.Texts.{Text}
use Rattle.nz_text.specs.declared.pieces.Class.TheVariants.{Solid, Foreign}
use Rattle.nz_text.specs.declared.pieces.Mode.TheVariants.{Outside}
use Rattle.nz_text.specs.declared.found.Span.{Span}
use Rattle.nz_text.specs.declared.found.Found.TheVariants.{Piece, End, Bad}
use Rattle.nz_text.specs.declared.found.TextFault.TheVariants as text_fault
use Rattle.nz_text.specs.Bytes.{IsGap, IsSolid, IsEdge, IsOpenComment, IsHanging, class_of}
use Rattle.nz_text.specs.Skip.{Skipped, Reaches, Opens, Finds, skip}
use Rattle.nz_text.proofs.Gaps.{skip-gap, skip-nil, skip-foreign, skip-solid, says-skip, Says, IsPassed}
use Rattle.nz_text.proofs.Stepping.{hanging-opens}
use Rattle.nz_input.specs.declared.refusal.Fault.{Fault}
use Rattle.nz_input.specs.declared.refusal.Fault.TheVariants as fault
use Rattle.nz_input.specs.Files.{FileData}
use Rattle.nz_input.specs.Sit.{AtFirst, AtDimension, AtEntry, AtCount, AtNumber}
use Rattle.nz_input.specs.Layouts.{Separator, Gap, Break, InComment, AtPiece}
use Rattle.nz_input.specs.Prefixes.{first_of, EndsIn, is_foreign, is_foreign_class}
use Rattle.nz_input.proofs.Laying.{skip-piece}
use Rattle.nz_input.proofs.PieceByPiece.{GapAt, gap-at, Spots, spots}
use Rattle.nz_symbolic.specs.declared.fronts.Front.{Front}
use Rattle.nz_symbolic.specs.declared.symbol.Token.{Token}
use Rattle.nz_symbolic.specs.declared.symbol.Token.TheVariants as token
use Rattle.nz_symbolic.specs.declared.symbol.Role.{Role}
use Rattle.nz_symbolic.specs.declared.symbol.Slot.{Slot}
use Rattle.nz_symbolic.specs.Words.{constraints}
use Rattle.nz_symbolic.specs.Symbols.{Spells, SpellsToken, slot}
use Rattle.nz_symbolic.specs.Texts.{IsAnyTextOf}
use Rattle.nz_symbolic.specs.Refusals.{apart, behind_whole, Site, IsTextPrefix, IsRefused, EndsAt, fault_at, in_role}
use Rattle.nz_symbolic.specs.Machines.{CoversIn, IsReadyIn}
use Rattle.nz_symbolic.specs.Sit.{Sit, AtOpening, InPlain, AtConstraints, AtName, InLine, AtFurther, AtColumns, AtFigure, AtType, MayToken, May, next, next_token, wants, IsFinal, Ahead, AheadIn}
use Rattle.nz_symbolic.specs.Left.{IsLive}
use Rattle.nz_symbolic.specs.Readings.{BeginsAt, IsLoose, IsFirst, IsReadTo, IsRunTo, is_break, opens, is_straight, fault_behind}
use Rattle.nz_symbolic.proofs.Machine.{edge-is-ahead}
use Rattle.nz_symbolic.proofs.Lexemes.{token-solid, token-some}
use Rattle.nz_symbolic.proofs.Lexing.{lexicon}
use Rattle.nz_symbolic.proofs.Leaving.{steps-left}
use Rattle.nz_symbolic.proofs.Completing.{decimal-numeral}
use Rattle.nz_symbolic.proofs.PrefixEnding.{AreFile, lacking}
use Rattle.nz_symbolic.proofs.Ending.{text-lacking}
use Rattle.nz_symbolic.proofs.OneSite.{solid-back}
use Rattle.nz_symbolic.proofs.Dead.{Behind, IsDead, no-text, no-prefix, dead-reach, dead-end, dead-open}
use Rattle.nz_symbolic.proofs.Stopping.{ready-first, first-gap, solid-front}
use Rattle.nz_symbolic.proofs.Composing.{OpensAt, covers-spelled, covers-lays, prefix-gap, prefix-comment, behind-more, site-piece, site-open}
use Rattle.nz_symbolic.proofs.Reading.{behind-of, live-of, begins-nothing, nothing-opens, some-long, take-take, is-same, same-yes, both}

-- ---- one token more

ready-last : (done : List Slot) (r : Slot) (t : Text) → Ahead r (first_of t) → IsReadyIn Ahead (done ++ r ∷ []) t
ready-last [] r t h = h
ready-last (s ∷ []) r t h = h
ready-last (s ∷ p ∷ done) r t h = ready-last (p ∷ done) r t h

loose-last : (done : List Slot) (r : Slot) → apart r ≡ Gap → IsLoose (done ++ r ∷ [])
loose-last [] r h = h
loose-last (s ∷ []) r h = h
loose-last (s ∷ p ∷ done) r h = loose-last (p ∷ done) r h

ahead-of : (r : Slot) (a tail : Text) → AheadIn r.token a → IsEdge tail → Ahead r (first_of (a ++ tail))
ahead-of r [] tail h edge = edge-is-ahead lexicon r tail edge
ahead-of r (b ∷ a) tail h edge = h

same-first : (gap u v : Text) (piece : Text) → piece ≢ [] → first_of (gap ++ (piece ++ u)) ≡ first_of (gap ++ (piece ++ v))
same-first [] u v [] some = absurd (some refl)
same-first [] u v (b ∷ piece) some = refl
same-first (g ∷ gap) u v piece some = refl

break-of : (sort : Separator) → is_break sort ≡ true → sort ≡ Break
break-of Gap e = absurd cc
break-of Break e = refl

gap-of : (sort : Separator) → is_break sort ≡ false → sort ≡ Gap
gap-of Gap e = refl
gap-of Break e = absurd cc

-- where a token was taken, and the run goes on
pub record Takes (text : Text) (q : Sit) (at : ℕ) (span : Span) (f : Front) : Type 0 where
  pub reading : IsReadTo text (next_token q f.token) (span.start + f.len) (wants q) span.start (opens f.token)
  pub run : IsRunTo text (span.start + f.len) span.end
  pub further : at < span.start + f.len

pub takes : (text : Text) (q : Sit) (at : ℕ) (role : Role) (start : ℕ) (is_open : Bool) (span : Span) (f : Front) → IsReadTo text q at role start is_open → Finds text at (Piece span) →
    IsFirst q (take (span.end - span.start) (drop span.start text)) (Ok f) → Takes text q at span f
takes text q at role start is_open span f h found (le, may, spells, ahead) =
    record {
      reading = record {
        done = h.done ++ r ∷ [];
        within = omega (arith, le, long, found.0, found.1);
        covers = subst (CoversIn Spells Ahead (h.done ++ r ∷ [])) front more.covers;
        steps = more.steps;
        ready = subst (IsReadyIn Ahead (h.done ++ r ∷ [])) (sym rest_is) (ready-last h.done r (drop f.len piece ++ tail) (ahead-of r (drop f.len piece) tail ahead found.4));
        order = omega arith;
        last = λ e. subst (λ (x : Text). EndsAt x (AtPiece (wants q) (take ((span.start + f.len) - span.start) (drop span.start text)))) front_plain (subst (λ (x : Text). EndsAt (take at text ++ (spot.gap ++ begun)) (AtPiece (wants q) x)) begun_is
            (site-piece q h.done (take at text) spot.gap begun (drop f.len piece ++ tail) (behind-of h) spot.is_gap solid ready_whole (λ none. absurd (some none)) (whole-opens e)));
        loose = λ e. loose-last h.done r (gap-of (behind_whole f.token) e);
      };
      run = record {
        order = omega (arith, le, long, found.0);
        within = found.1;
        solid = subst IsSolid run_is (solid-back begun (drop f.len piece) (subst IsSolid (sym halves) found.3));
        edge = λ lt. found.4;
      };
      further = omega (arith, spot.order, begun_long);
    }
  where
    piece : Text
    piece = take (span.end - span.start) (drop span.start text)

    begun : Text
    begun = take f.len piece

    tail : Text
    tail = drop span.end text

    r : Slot
    r = slot (wants q) f.token

    spot : Spots text at span.start span.end
    spot = spots text at span.start span.end h.within found.0 found.1 found.2

    long : length piece ≡ span.end - span.start
    long = omega (arith, length-take (span.end - span.start) (drop span.start text), length-drop span.start text, found.0, found.1)

    halves : begun ++ drop f.len piece ≡ piece
    halves = take-append-drop f.len piece

    some : begun ≢ []
    some = token-some f.token begun spells

    begun_long : 0 < f.len
    begun_long = by begun refl
      where
        by : (b : Text) → begun ≡ b → 0 < f.len
        by [] e = absurd (some e)
        by (c ∷ b) e = let size : length begun ≡ suc (length b) = ap length e in omega (arith, size, length-take f.len piece)

    ready_whole : IsReadyIn Ahead h.done (spot.gap ++ (begun ++ (drop f.len piece ++ tail)))
    ready_whole = subst (λ (x : Text). IsReadyIn Ahead h.done (spot.gap ++ x)) (ap (λ (x : Text). x ++ tail) (sym halves) ∙ append_assoc begun (drop f.len piece) tail) (subst (IsReadyIn Ahead h.done) spot.ahead h.ready)

    ready_begun : IsReadyIn Ahead h.done (spot.gap ++ (begun ++ []))
    ready_begun = ready-first h.done (spot.gap ++ (begun ++ (drop f.len piece ++ tail))) (spot.gap ++ (begun ++ [])) (same-first spot.gap (drop f.len piece ++ tail) [] begun some) ready_whole

    more : Behind (next q r) (h.done ++ r ∷ []) (take at text ++ (spot.gap ++ (begun ++ [])))
    more = behind-more q h.done (take at text) spot.gap begun f.token (behind-of h) ready_begun spot.is_gap may spells

    whole : text ≡ (take at text ++ (spot.gap ++ begun)) ++ (drop f.len piece ++ tail)
    whole = spot.whole ∙ ap (λ (x : Text). take at text ++ (spot.gap ++ (x ++ tail))) (sym halves) ∙ simp append_assoc

    place : length (take at text ++ (spot.gap ++ begun)) ≡ span.start + f.len
    place = spot.place f.len (omega (arith, le, long))

    front_plain : take at text ++ (spot.gap ++ begun) ≡ take (span.start + f.len) text
    front_plain = sym (ap (take (span.start + f.len)) whole ∙ take_at (take at text ++ (spot.gap ++ begun)) (drop f.len piece ++ tail) (span.start + f.len) place)

    front : take at text ++ (spot.gap ++ (begun ++ [])) ≡ take (span.start + f.len) text
    front = ap (λ (x : Text). take at text ++ (spot.gap ++ x)) (append-nil begun) ∙ front_plain

    rest_is : drop (span.start + f.len) text ≡ drop f.len piece ++ tail
    rest_is = ap (drop (span.start + f.len)) whole ∙ drop_at (take at text ++ (spot.gap ++ begun)) (drop f.len piece ++ tail) (span.start + f.len) place

    solid : IsSolid begun
    solid = solid-front begun (drop f.len piece) (subst IsSolid (sym halves) found.3)

    begun_is : begun ≡ take ((span.start + f.len) - span.start) (drop span.start text)
    begun_is =
        let same : (span.start + f.len) - span.start ≡ f.len = omega arith in
        take-take f.len (span.end - span.start) (drop span.start text) (omega (arith, le, long)) ∙ ap (λ (n : ℕ). take n (drop span.start text)) (sym same)

    run_is : drop f.len piece ≡ take (span.end - (span.start + f.len)) (drop (span.start + f.len) text)
    run_is =
        let size : length (drop f.len piece) ≡ span.end - (span.start + f.len) = omega (arith, length-drop f.len piece, long) in
        sym (ap (take (span.end - (span.start + f.len))) rest_is ∙ take_at (drop f.len piece) tail (span.end - (span.start + f.len)) size)

    whole-opens : opens f.token ≡ true → OpensAt q begun
    whole-opens e = record { begins = record { token_is = f.token; more = []; may = may; spelled = subst (SpellsToken f.token) (sym (append-nil begun)) spells }; unfinished = λ x. break-of (behind_whole f.token) e }

-- the rest of a run is found from within it
pub run-finds : (text : Text) (span : Span) → span.start < span.end → IsRunTo text span.start span.end → Finds text span.start (Piece span)
run-finds text span lt h =
    let piece = take (span.end - span.start) (drop span.start text) in
    let sum : span.start + (span.end - span.start) ≡ span.end = omega (arith, lt) in
    let rest : drop (span.end - span.start) (drop span.start text) ≡ drop span.end text = drop-drop (span.end - span.start) span.start text ∙ ap (λ (n : ℕ). drop n text) sum in
    let split : piece ++ drop span.end text ≡ drop span.start text = ap (λ (x : Text). piece ++ x) (sym rest) ∙ take-append-drop (span.end - span.start) (drop span.start text) in
    let long : length piece ≡ span.end - span.start = omega (arith, length-take (span.end - span.start) (drop span.start text), length-drop span.start text, lt, h.within) in
    (lt, h.within, subst (λ (x : Text). skip Outside x ≡ Reaches x) split (skip-piece piece (drop span.end text) h.solid (some-long piece (omega (arith, long, lt)))), h.solid, h.edge lt)

-- ---- the end

gap-only : (text : Text) (at : ℕ) → skip Outside (drop at text) ≡ Reaches [] → IsGap (drop at text)
gap-only text at e = let g = gap-at text at [] e in subst IsGap (sym (g.whole ∙ append-nil g.gap)) g.is_gap

-- where a file may end the text is one
pub ends-text : (text : Text) (q : Sit) (at : ℕ) (role : Role) (start : ℕ) (is_open : Bool) → IsReadTo text q at role start is_open → Finds text at End → IsFinal q → (f : FileData) × IsAnyTextOf text f
ends-text text q at role start is_open h found final =
    let file : AreFile h.done = steps-left h.done AtOpening q tt (covers-spelled h.done (take at text) h.covers) h.steps final in
    let whole : take at text ++ drop at text ≡ text = take-append-drop at text in
    let t = text-lacking (take at text ++ drop at text) h.done [] (covers-lays h.done (take at text) (drop at text) h.covers (gap-only text at found)) (lacking h.done [] (subst AreFile (sym (append-nil h.done)) file) tt) in
    (t.0, subst (λ (x : Text). IsAnyTextOf x t.0) (append-nil (take at text ++ drop at text) ∙ whole) t.1)

begins-any : (q : Sit) → IsLive q → BeginsAt q []
begins-any (InPlain (AtEntry d)) live = record { token_is = token.Constraints; more = constraints; may = tt; spelled = refl }
begins-any (AtFurther d) live = record { token_is = token.RowCount 0; more = decimal 0; may = tt; spelled = (decimal-numeral 0 (omega arith), omega arith) }
begins-any (InPlain sit) live = begins-nothing (InPlain sit) live (λ h. h)
begins-any q live = begins-nothing q live (λ h. h)

-- behind a gap, or what stands straight behind the last token, with the site that ends there
record Sited (text : Text) (q : Sit) (at : ℕ) (role : Role) (start : ℕ) (is_open : Bool) (before : Text) (from : ℕ) : Type 0 where
  site : Site
  is : EndsAt before site
  fault_is : fault_behind text (wants q) at role start is_open from 0 ≡ fault_at site (first_of (drop from text))
  not_comment : (b : ℕ) → is_foreign b ≡ true → fault_at site (Some b) ≡ fault.Byte

sited : (text : Text) (q : Sit) (at : ℕ) (role : Role) (start : ℕ) (is_open : Bool) (gap : Text) (from : ℕ) (h : IsReadTo text q at role start is_open) → IsGap gap → drop at text ≡ gap ++ drop from text → at + length gap ≡ from → Sited text q at role start is_open (take at text ++ gap) from
sited text q at role start is_open gap from h g tail_is len = by (is_straight is_open at from 0) refl
  where
    by : (b : Bool) → is_straight is_open at from 0 ≡ b → Sited text q at role start is_open (take at text ++ gap) from
    by true e =
        let tests = both is_open ((at == from) && (0 == 0)) e in
        let more = both (at == from) (0 == 0) tests.1 in
        let here : at ≡ from = is-same at from more.0 in
        let none : gap ≡ [] = no-bytes gap (omega (arith, len, here)) in
        let site : Site = AtPiece role (take (at - start) (drop start text)) in
        record {
          site = site;
          is = subst (λ (x : Text). EndsAt (take at text ++ x) site) (sym none) (subst (λ (x : Text). EndsAt x site) (sym (append-nil (take at text))) (h.last tests.0));
          fault_is = ap (λ (b : Bool). if b then fault_at site (first_of (drop at text)) else fault_at (AtPiece (wants q) (take 0 (drop from text))) (first_of (drop (from + 0) text))) e ∙ ap (λ (n : ℕ). fault_at site (first_of (drop n text))) here;
          not_comment = λ b f. rw f refl;
        }
      where
        no-bytes : (t : Text) → length t ≡ 0 → t ≡ []
        no-bytes [] e = refl
        no-bytes (b ∷ t) e = absurd (omega (arith, e))
    by false e =
        let same : from + 0 ≡ from = omega arith in
        let ready : IsReadyIn Ahead h.done (gap ++ ([] ++ drop from text)) = subst (IsReadyIn Ahead h.done) tail_is h.ready in
        let is = site-piece q h.done (take at text) gap [] (drop from text) (behind-of h) g tt ready (λ none no_gap. h.loose (closed is_open (here no_gap) e)) (nothing-opens q (begins-any q (live-of h))) in
        record {
          site = AtPiece (wants q) [];
          is = subst (λ (x : Text). EndsAt (take at text ++ x) (AtPiece (wants q) [])) (append-nil gap) is;
          fault_is = ap (λ (b : Bool). if b then fault_at (AtPiece role (take (at - start) (drop start text))) (first_of (drop at text)) else fault_at (AtPiece (wants q) (take 0 (drop from text))) (first_of (drop (from + 0) text))) e ∙ ap (λ (n : ℕ). fault_at (AtPiece (wants q) []) (first_of (drop n text))) same;
          not_comment = λ b f. rw f refl;
        }
      where
        here : gap ≡ [] → at ≡ from
        here no_gap = let none : length gap ≡ 0 = ap length no_gap in omega (arith, len, none)

        closed : (o : Bool) → at ≡ from → is_straight o at from 0 ≡ false → o ≡ false
        closed false here e = refl
        closed true here e =
            let bad : (true && ((at == from) && (0 == 0))) ≡ true = rw (same-yes at from here) refl in
            let bad2 : true ≡ false = sym bad ∙ e in absurd cc

-- and else it is refused at its end
pub ends-refused : (text : Text) (q : Sit) (at : ℕ) (role : Role) (start : ℕ) (is_open : Bool) → IsReadTo text q at role start is_open → Finds text at End → (IsFinal q → ⊥) → IsRefused text (length text) (fault_behind text (wants q) at role start is_open (length text) 0)
ends-refused text q at role start is_open h found more =
    let gap = drop at text in
    let none : drop (length text) text ≡ [] = ap (λ (x : Text). drop (length text) x) (sym (append-nil text)) ∙ drop_at text [] (length text) refl in
    let s = sited text q at role start is_open gap (length text) h (gap-only text at found) (sym (append-nil gap) ∙ ap (λ (x : Text). gap ++ x) (sym none)) (omega (arith, length-drop at text, h.within)) in
    let whole : take at text ++ gap ≡ text = take-append-drop at text in
    record {
      before = text;
      rest = [];
      whole = sym (append-nil text);
      place = refl;
      begins = subst IsTextPrefix whole (prefix-gap q h.done (take at text) gap (behind-of h) (gap-only text at found));
      ends = λ f t. no-text q h.done (take at text) gap (behind-of h) h.ready (dead-end q gap found more) f (subst (λ (x : Text). IsAnyTextOf x f) (sym whole) t);
      site = s.site;
      site_is = subst (λ (x : Text). EndsAt x s.site) whole s.is;
      fault_is = s.fault_is ∙ ap (λ (x : Text). fault_at s.site (first_of x)) none;
    }

-- ---- between two tokens

foreign-is : (b : ℕ) → class_of b ≡ Foreign → is_foreign b ≡ true
foreign-is b e = ap is_foreign_class e

dead-foreign : (q : Sit) (gap : Text) (b : ℕ) (more : Text) → IsGap gap → class_of b ≡ Foreign → IsDead q (gap ++ b ∷ more)
dead-foreign q gap b more g e = dead-reach q (gap ++ b ∷ more) (b ∷ more) (skip-gap gap (b ∷ more) g ∙ skip-foreign b more e) (λ x. cc) (λ s piece rest may w spells ahead. by s.token piece rest w spells)
  where
    by : (t : Token) (piece rest : Text) → piece ++ rest ≡ b ∷ more → SpellsToken t piece → ⊥
    by t [] rest w spells = token-some t [] spells refl
    by t (c ∷ piece) rest w spells =
        let same : c ≡ b = cc in
        let bad : Solid ≡ Foreign = sym (token-solid t (c ∷ piece) spells).0 ∙ ap class_of same ∙ e in cc

pub refused-foreign : (text : Text) (q : Sit) (at : ℕ) (role : Role) (start : ℕ) (is_open : Bool) (place : ℕ) → IsReadTo text q at role start is_open → Finds text at (Bad place text_fault.Byte) → IsRefused text place fault.Byte
refused-foreign text q at role start is_open place h (lt, found, class) =
    let g = gap-at text at (drop place text) found in
    let b = get_or text place 0 in
    let cons : drop place text ≡ b ∷ drop (suc place) text = drop-cons text place 0 lt in
    let len : at + length g.gap ≡ place = omega (arith, ap length g.whole, length-append g.gap (drop place text), length-drop at text, length-drop place text, h.within, lt) in
    let s = sited text q at role start is_open g.gap place h g.is_gap g.whole len in
    let ready : IsReadyIn Ahead h.done (g.gap ++ b ∷ drop (suc place) text) = subst (IsReadyIn Ahead h.done) (g.whole ∙ ap (λ (x : Text). g.gap ++ x) cons) h.ready in
    let ends : EndsIn IsAnyTextOf (take at text ++ g.gap) (b ∷ drop (suc place) text) = no-prefix q h.done (take at text) g.gap b (behind-of h) (λ more. ready-first h.done (g.gap ++ b ∷ drop (suc place) text) (g.gap ++ b ∷ more) (first-gap g.gap (b ∷ drop (suc place) text) (b ∷ more) refl) ready) (λ more. dead-foreign q g.gap b more g.is_gap class) in
    record {
      before = take at text ++ g.gap;
      rest = b ∷ drop (suc place) text;
      whole = g.all ∙ ap (λ (x : Text). take at text ++ (g.gap ++ x)) cons ∙ sym (append_assoc (take at text) g.gap (b ∷ drop (suc place) text));
      place = omega (arith, length-append (take at text) g.gap, length-take at text, h.within, len);
      begins = prefix-gap q h.done (take at text) g.gap (behind-of h) g.is_gap;
      ends = ends;
      site = s.site;
      site_is = s.is;
      fault_is = sym (s.not_comment b (foreign-is b class));
    }

-- a comment that is not closed
hanging-open : (comment rest : Text) → IsHanging comment rest → IsOpenComment comment
hanging-open comment [] h = h
hanging-open comment (b ∷ rest) h = subst IsOpenComment (sym h.0) refl

hanging-any : (comment : Text) (b : ℕ) (rest more : Text) → IsHanging comment (b ∷ rest) → skip Outside (comment ++ b ∷ more) ≡ Opens (b ∷ more)
hanging-any comment b rest more h = hanging-opens comment (b ∷ more) h

pub refused-open : (text : Text) (q : Sit) (at : ℕ) (role : Role) (start : ℕ) (is_open : Bool) (place : ℕ) → IsReadTo text q at role start is_open → Finds text at (Bad place text_fault.OpenComment) → IsRefused text place fault.OpenComment
refused-open text q at role start is_open place h (le, found) = by (subst (λ (r : Skipped). Says Outside (drop at text) r) found (says-skip (drop at text) Outside))
  where
    with-comment : (gap comment rest : Text) → drop place text ≡ rest → IsGap gap → IsHanging comment rest → drop at text ≡ gap ++ (comment ++ rest) → IsRefused text place fault.OpenComment
    with-comment gap comment rest rest_is g hangs whole =
        let all : text ≡ (take at text ++ (gap ++ comment)) ++ rest = sym (take-append-drop at text) ∙ ap (λ (x : Text). take at text ++ x) whole ∙ simp append_assoc in
        let size : length (take at text ++ (gap ++ comment)) ≡ place = omega (arith, ap length all, length-append (take at text ++ (gap ++ comment)) rest, ap length rest_is, length-drop place text, le) in
        let o = hanging-open comment rest hangs in
        record {
          before = take at text ++ (gap ++ comment);
          rest = rest;
          whole = all;
          place = size;
          begins = prefix-comment q h.done (take at text) gap comment (behind-of h) g o;
          ends = ends rest hangs (subst (IsReadyIn Ahead h.done) whole h.ready);
          site = InComment;
          site_is = site-open q h.done (take at text) gap comment (behind-of h) g o;
          fault_is = refl;
        }
      where
        first-comment : (c u v : Text) → IsOpenComment c → first_of (c ++ u) ≡ first_of (c ++ v)
        first-comment [] u v o = absurd o
        first-comment (x ∷ c) u v o = refl

        opens-at : (more : Text) → skip Outside (comment ++ more) ≡ Opens more → skip Outside ((gap ++ comment) ++ more) ≡ Opens more
        opens-at more e = ap (skip Outside) (append_assoc gap comment more) ∙ skip-gap gap (comment ++ more) g ∙ e

        ends : (rest : Text) → IsHanging comment rest → IsReadyIn Ahead h.done (gap ++ (comment ++ rest)) → EndsIn IsAnyTextOf (take at text ++ (gap ++ comment)) rest
        ends [] hangs ready = λ f t. no-text q h.done (take at text) (gap ++ comment) (behind-of h) (subst (λ (x : Text). IsReadyIn Ahead h.done (gap ++ x)) (append-nil comment) ready) (dead-open q (gap ++ comment) [] (subst (λ (x : Text). skip Outside x ≡ Opens []) (append-nil (gap ++ comment)) (opens-at [] (hanging-opens comment [] hangs)))) f t
        ends (b ∷ rest) hangs ready = no-prefix q h.done (take at text) (gap ++ comment) b (behind-of h) (λ more. subst (IsReadyIn Ahead h.done) (sym (append_assoc gap comment (b ∷ more))) (ready-first h.done (gap ++ (comment ++ b ∷ rest)) (gap ++ (comment ++ b ∷ more)) (first-gap gap (comment ++ b ∷ rest) (comment ++ b ∷ more) (first-comment comment (b ∷ rest) (b ∷ more) (hanging-open comment (b ∷ rest) hangs))) ready)) (λ more. dead-open q ((gap ++ comment) ++ b ∷ more) (b ∷ more) (opens-at (b ∷ more) (hanging-any comment b rest more hangs)))

    by : Says Outside (drop at text) (Opens (drop place text)) → IsRefused text place fault.OpenComment
    by (inl o) = with-comment o.2.gap o.0 (drop place text) refl o.2.is_gap o.1 o.2.whole
    by (inr o) = absurd o

-- ---- what is refused is no text

pub refused-no-text : (bytes : Text) (at : ℕ) (why : Fault) (file : FileData) → IsRefused bytes at why → IsAnyTextOf bytes file → ⊥
refused-no-text bytes at why file r text = no-rest r.before r.rest (subst (λ (x : Text). IsAnyTextOf x file) r.whole text) r.ends
  where
    no-rest : (before rest : Text) → IsAnyTextOf (before ++ rest) file → EndsIn IsAnyTextOf before rest → ⊥
    no-rest before [] text ends = ends file (subst (λ (x : Text). IsAnyTextOf x file) (append-nil before) text)
    no-rest before (b ∷ rest) text ends = ends (record { more = rest; file = file; text = subst (λ (x : Text). IsAnyTextOf x file) (sym (append_assoc before (b ∷ []) rest)) text })
