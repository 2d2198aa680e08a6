-- Reading, token by token.
use Rattle.std.proofs.Common.{◌≡◌, ◌≢◌, ℕ, zero, suc, ◌+◌, ◌-◌, ◌<◌, ◌≤◌, Bool, true, false, List, [], ◌∷◌, ◌++◌, length, take, drop, refl, sym, ap, subst, ◌∙◌, append_assoc, arith, inl, inr, ◌⊎◌, Some, None, Option, Ok, Err}
use Rattle.std.specs.Prelude.{◌==◌, ◌&&◌, if◌then◌else◌, slice_index}
use Rattle.std.specs.List.{AllByRecursion}
use Rattle.std.proofs.Math.Seq.{drop-cons}
use Rattle.std.proofs.lemmas.Bool.Decides.{eqb_tells}
use Rattle.std.proofs.lemmas.List.{append-nil, length-append, length-take, length-drop, take-append-drop, take_at, take_all, drop_at, drop-drop}
use Rattle.nz_vec.specs.Texts.{Text}
use Rattle.nz_text.specs.declared.pieces.Class.TheVariants.{Solid, Foreign}
use Rattle.nz_text.specs.declared.pieces.Mode.TheVariants.{Outside}
use Rattle.nz_text.specs.declared.found.Span.{Span}
use Rattle.nz_text.specs.declared.found.Found.TheVariants.{Piece, End, Bad}
use Rattle.nz_text.specs.declared.found.TextFault.TheVariants as text_fault
use Rattle.nz_text.specs.Bytes.{IsGap, IsSolid, IsEdge, IsOpenComment, class_of}
use Rattle.nz_text.specs.Skip.{Skipped, Reaches, Opens, Finds, skip}
use Rattle.nz_text.proofs.Gaps.{skip-gap, skip-nil, skip-foreign, skip-solid, says-skip, Says}
use Rattle.nz_input.specs.declared.refusal.Fault.{Fault}
use Rattle.nz_input.specs.declared.refusal.Fault.TheVariants as fault
use Rattle.nz_input.specs.Files.{FileData}
use Rattle.nz_input.specs.Layouts.{Gap, Break, InComment, AtPiece}
use Rattle.nz_input.specs.Prefixes.{first_of, EndsIn}
use Rattle.nz_input.proofs.Laying.{gap-edge, edge-append, append-some}
use Rattle.nz_input.proofs.PieceByPiece.{gap-at, Spots, spots}
use Rattle.nz_symbolic.specs.declared.fronts.Front.{Front}
use Rattle.nz_symbolic.specs.declared.symbol.Token.{Token}
use Rattle.nz_symbolic.specs.declared.symbol.Role.{Role}
use Rattle.nz_symbolic.specs.declared.symbol.Slot.{Slot}
use Rattle.nz_symbolic.specs.Symbols.{Spells, SpellsToken, slot}
use Rattle.nz_symbolic.specs.Texts.{IsAnyTextOf}
use Rattle.nz_symbolic.specs.Refusals.{apart, behind_whole, Site, IsTextPrefix, IsRefused, EndsAt, fault_at}
use Rattle.nz_symbolic.specs.Endings.{IsMissing, token_text}
use Rattle.nz_symbolic.specs.Machines.{CoversIn, IsReadyIn}
use Rattle.nz_symbolic.specs.Sit.{Sit, AtOpening, MayToken, May, next, next_token, wants, IsFinal, Ahead, AheadIn}
use Rattle.nz_symbolic.specs.Left.{IsLive}
use Rattle.nz_symbolic.specs.Readings.{BeginsAt, IsLoose, IsStuckIn, IsFirst, IsReadTo, IsRunTo, opens, is_straight, fault_behind}
use Rattle.nz_symbolic.proofs.Accepting.{Steps}
use Rattle.nz_symbolic.proofs.Lexemes.{token-solid, token-some}
use Rattle.nz_symbolic.proofs.Lexing.{lexicon}
use Rattle.nz_symbolic.proofs.Leaving.{live-steps, steps-left, AreSpelled}
use Rattle.nz_symbolic.proofs.Completing.{completed, missing-text}
use Rattle.nz_symbolic.proofs.PrefixEnding.{AreFile, lacking, steps-more}
use Rattle.nz_symbolic.proofs.Ending.{text-lacking}
use Rattle.nz_symbolic.proofs.Dead.{Behind, IsDead, no-text, no-prefix, dead-reach, dead-end, dead-open}
use Rattle.nz_symbolic.proofs.Stopping.{ready-first, solid-front, token-ends}
use Rattle.nz_symbolic.proofs.Composing.{OpensAt, covers-spelled, covers-lays, prefix-gap, prefix-comment, prefix-piece, behind-more, site-piece, site-open, stuck-opens}

pub behind-of : {text : Text} {q : Sit} {at : ℕ} {role : Role} {start : ℕ} {is_open : Bool} (h : IsReadTo text q at role start is_open) → Behind q h.done (take at text)
behind-of h = record { covers = h.covers; steps = h.steps }

pub live-of : {text : Text} {q : Sit} {at : ℕ} {role : Role} {start : ℕ} {is_open : Bool} (h : IsReadTo text q at role start is_open) → IsLive q
live-of {text = text} {q = q} {at = at} h = live-steps h.done AtOpening q tt (covers-spelled h.done (take at text) h.covers) h.steps

-- nothing has been read
pub reading-begins : (text : Text) (role : Role) → IsReadTo text AtOpening 0 role 0 false
reading-begins text role = record { done = []; within = omega arith; covers = refl; steps = refl; ready = tt; order = omega arith; last = λ e. absurd cc; loose = λ e. tt }

-- a token that may come begins with nothing
pub begins-nothing : (q : Sit) → IsLive q → (IsFinal q → ⊥) → BeginsAt q []
begins-nothing q live more = by (completed q live).others (completed q live).end (completed q live).steps (completed q live).final (completed q live).missing
  where
    by : (ss : List Slot) (end : Sit) → Steps q ss end → IsFinal end → AllByRecursion IsMissing ss → BeginsAt q []
    by [] end steps final m = absurd (more (subst IsFinal (sym steps) final))
    by (s ∷ ss) end steps final m = record { token_is = s.token; more = token_text s.token; may = steps.0.1; spelled = missing-text q s live steps.0 m.0 }

pub nothing-opens : (q : Sit) (b : BeginsAt q []) → OpensAt q []
nothing-opens q b = record { begins = b; unfinished = λ e. absurd (token-some b.token_is b.more b.spelled e) }

-- what the pieces of the test say
pub both : (a b : Bool) → (a && b) ≡ true → (a ≡ true) × (b ≡ true)
both true b e = (refl, e)
both false b e = absurd cc

pub is-same : (m n : ℕ) → (m == n) ≡ true → m ≡ n
is-same m n e = elim (eqb_tells m n) [ inl hit ↦ hit.1 | inr miss ↦ let bad : false ≡ true = sym (miss.0) ∙ e in absurd cc ]

pub same-yes : (m n : ℕ) → m ≡ n → (m == n) ≡ true
same-yes m n e = elim (eqb_tells m n) [ inl hit ↦ hit.0 | inr miss ↦ absurd (miss.1 e) ]

-- ---- a token of a run

pub same-refused : (text : Text) (at place : ℕ) (f g : Fault) → at ≡ place → f ≡ g → IsRefused text at f → IsRefused text place g
same-refused text at place f g e w h = subst (IsRefused text place) w (subst (λ (x : ℕ). IsRefused text x f) e h)

pub some-long : (piece : Text) → 0 < length piece → piece ≢ []
some-long piece h e = let none : length piece ≡ 0 = ap length e in omega arith

pub take-take : (n m : ℕ) (t : Text) → n ≤ m → take n (take m t) ≡ take n t
take-take zero m t h = refl
take-take (suc n) zero t h = absurd (omega (arith, h))
take-take (suc n) (suc m) [] h = refl
take-take (suc n) (suc m) (b ∷ t) h = ap (λ (x : Text). b ∷ x) (take-take n m t (omega (arith, h)))

-- the refusal of a run, where the token before it is not left open
pub refused-run : (text : Text) (q : Sit) (at : ℕ) (role : Role) (start : ℕ) (is_open : Bool) (span : Span) (k : ℕ) (h : IsReadTo text q at role start is_open) → Finds text at (Piece span) →
    IsFirst q (take (span.end - span.start) (drop span.start text)) (Err k) → IsRefused text (span.start + k) (fault_behind text (wants q) at role start is_open span.start k)
refused-run text q at role start is_open span k h found (le, begins, stuck) = by (is_straight is_open at span.start k) refl
  where
    piece : Text
    piece = take (span.end - span.start) (drop span.start text)

    begun : Text
    begun = take k piece

    tail : Text
    tail = drop span.end text

    spot : Spots text at span.start span.end
    spot = spots text at span.start span.end h.within found.0 found.1 found.2

    long : length piece ≡ span.end - span.start
    long = omega (arith, length-take (span.end - span.start) (drop span.start text), length-drop span.start text, found.0, found.1)

    some : piece ≢ []
    some = some-long piece (omega (arith, long, found.0))

    halves : begun ++ drop k piece ≡ piece
    halves = take-append-drop k piece

    ready : IsReadyIn Ahead h.done (spot.gap ++ (piece ++ tail))
    ready = subst (IsReadyIn Ahead h.done) spot.ahead h.ready

    ready_begun : IsReadyIn Ahead h.done (spot.gap ++ (begun ++ (drop k piece ++ tail)))
    ready_begun = subst (λ (x : Text). IsReadyIn Ahead h.done (spot.gap ++ x)) (ap (λ (x : Text). x ++ tail) (sym halves) ∙ append_assoc begun (drop k piece) tail) ready

    before : Text
    before = take at text ++ (spot.gap ++ begun)

    whole : text ≡ before ++ (drop k piece ++ tail)
    whole = spot.whole ∙ ap (λ (x : Text). take at text ++ (spot.gap ++ (x ++ tail))) (sym halves) ∙ simp append_assoc

    place : length before ≡ span.start + k
    place = spot.place k (omega (arith, le, long))

    rest_is : drop (span.start + k) text ≡ drop k piece ++ tail
    rest_is = ap (drop (span.start + k)) whole ∙ drop_at before (drop k piece ++ tail) (span.start + k) place

    solid : IsSolid begun
    solid = solid-front begun (drop k piece) (subst IsSolid (sym halves) found.3)

    ends : EndsIn IsAnyTextOf before (drop k piece ++ tail)
    ends = token-ends q h.done (take at text) spot.gap piece tail k (behind-of h) spot.is_gap found.3 some found.4 ready stuck

    prefix : (b : Text) → begun ≡ b → IsTextPrefix before
    prefix [] e = subst IsTextPrefix (ap (λ (x : Text). take at text ++ x) (sym (append-nil spot.gap) ∙ ap (λ (x : Text). spot.gap ++ x) (sym e))) (prefix-gap q h.done (take at text) spot.gap (behind-of h) spot.is_gap)
    prefix (c ∷ b) e = prefix-piece q h.done (take at text) spot.gap begun (drop k piece ++ tail) (behind-of h) spot.is_gap (λ x. let bad : c ∷ b ≡ [] = sym e ∙ x in cc) ready_begun begins

    -- at this site
    refused-by : (site : Site) → EndsAt before site → IsRefused text (span.start + k) (fault_at site (first_of (drop k piece ++ tail)))
    refused-by site is = record { before = before; rest = drop k piece ++ tail; whole = whole; place = place; begins = prefix begun refl; ends = ends; site = site; site_is = is; fault_is = refl }

    begun_is : begun ≡ take k (drop span.start text)
    begun_is = take-take k (span.end - span.start) (drop span.start text) (omega (arith, le, long))

    by : (b : Bool) → is_straight is_open at span.start k ≡ b → IsRefused text (span.start + k) (fault_behind text (wants q) at role start is_open span.start k)
    by true e =
        let tests = both is_open ((at == span.start) && (k == 0)) e in
        let more = both (at == span.start) (k == 0) tests.1 in
        let here : at ≡ span.start = is-same at span.start more.0 in
        let none : k ≡ 0 = is-same k 0 more.1 in
        let total : span.start + k ≡ at = omega (arith, here, none) in
        let all : before ≡ take at text = sym (take_at before (drop k piece ++ tail) (span.start + k) place) ∙ ap (λ (x : Text). take (span.start + k) x) (sym whole) ∙ ap (λ (n : ℕ). take n text) total in
        let site : Site = AtPiece role (take (at - start) (drop start text)) in
        let made = refused-by site (subst (λ (x : Text). EndsAt x site) (sym all) (h.last tests.0)) in
        same-refused text (span.start + k) (span.start + k) _ _ refl (ap (λ (x : Text). fault_at site (first_of x)) (sym rest_is ∙ ap (λ (n : ℕ). drop n text) total) ∙ sym (ap (λ (b : Bool). if b then fault_at site (first_of (drop at text)) else fault_at (AtPiece (wants q) (take k (drop span.start text))) (first_of (drop (span.start + k) text))) e)) made
    by false e =
        let loose : begun ≡ [] → spot.gap ≡ [] → IsLoose h.done = λ none no_gap. h.loose (closed is_open (begun-none none) (gap-none no_gap) e) in
        let made = refused-by (AtPiece (wants q) begun) (site-piece q h.done (take at text) spot.gap begun (drop k piece ++ tail) (behind-of h) spot.is_gap solid ready_begun loose (stuck-opens q begun (drop k piece) begins stuck)) in
        same-refused text (span.start + k) (span.start + k) _ _ refl (ap (λ (x : Text). fault_at (AtPiece (wants q) begun) (first_of x)) (sym rest_is) ∙ ap (λ (x : Text). fault_at (AtPiece (wants q) x) (first_of (drop (span.start + k) text))) begun_is
        ∙ sym (ap (λ (b : Bool). if b then fault_at (AtPiece role (take (at - start) (drop start text))) (first_of (drop at text)) else fault_at (AtPiece (wants q) (take k (drop span.start text))) (first_of (drop (span.start + k) text))) e)) made
      where
        begun-none : begun ≡ [] → k ≡ 0
        begun-none none = let zero_long : length begun ≡ 0 = ap length none in omega (arith, zero_long, length-take k piece, le)

        gap-none : spot.gap ≡ [] → at ≡ span.start
        gap-none no_gap = let front : length (take at text ++ (spot.gap ++ take 0 piece)) ≡ span.start + 0 = spot.place 0 (omega arith) in
            let shown : length (take at text ++ []) ≡ span.start + 0 = subst (λ (x : Text). length (take at text ++ (x ++ [])) ≡ span.start + 0) no_gap front in
            omega (arith, shown, length-append (take at text) [], length-take at text, h.within)

        closed : (o : Bool) → k ≡ 0 → at ≡ span.start → is_straight o at span.start k ≡ false → o ≡ false
        closed false k0 here e = refl
        closed true k0 here e =
            let bad : (true && ((at == span.start) && (k == 0))) ≡ true = rw (same-yes at span.start here, same-yes k 0 k0) refl in
            let bad2 : true ≡ false = sym bad ∙ e in absurd cc
