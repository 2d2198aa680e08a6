-- With an ending a prefix is a text.
use Rattle.std.proofs.Common.{◌≡◌, ◌≢◌, ℕ, ◌≤◌, arith, List, [], ◌∷◌, ◌++◌, refl, sym, ap, subst, ◌∙◌, append_assoc, inl, inr, ◌⊎◌}
use Rattle.std.specs.List.{AllByRecursion}
use Rattle.std.proofs.lemmas.List.{append-nil}
use Rattle.nz_vec.specs.Texts.{Text}
use Rattle.nz_text.specs.Bytes.{IsGap}
use Rattle.nz_text.proofs.Gaps.{IsGap-nil, IsGap-blank}
use Rattle.nz_input.specs.Files.{FileData}
use Rattle.nz_input.specs.Layouts.{Separator, Gap, Break, Parts, PrecedesPast, closing, Whole, Open, Begun}
use Rattle.nz_input.proofs.Laying.{regroup}
use Rattle.nz_input.proofs.Each.{all-both}
use Rattle.nz_input.proofs.Completing.{gap-append, close-gap}
use Rattle.nz_input.specs.declared.symbol.Symbol.TheVariants as symbol
use Rattle.nz_symbolic.specs.declared.symbol.Role.{Role}
use Rattle.nz_symbolic.specs.declared.symbol.Role.TheVariants as role
use Rattle.nz_symbolic.specs.declared.symbol.Slot.{Slot}
use Rattle.nz_symbolic.specs.Symbols.{Spells, plain_slot, AnyEntry, Fits, symbols, file_of, OldFits, old_symbols, old_file}
use Rattle.nz_symbolic.specs.Texts.{behind, Lays, IsAnyTextOf}
use Rattle.nz_symbolic.specs.Refusals.{apart}
use Rattle.nz_symbolic.specs.Endings.{IsMissing, lead, token_text, spelled_out, completion, IsLacking, IsEnding}
use Rattle.nz_symbolic.specs.Sit.{Sit, AtOpening, May, next, wants}
use Rattle.nz_symbolic.specs.Left.{IsSpelled, IsLive}
use Rattle.nz_symbolic.proofs.Accepting.{Steps, new-steps, old-steps}
use Rattle.nz_symbolic.proofs.Leaving.{AreSpelled, live-next}
use Rattle.nz_symbolic.proofs.Completing.{missing-text, lead-break}

-- ---- the symbols of a file, each with its spelling

pub lays-spelled : (before : Separator) (ss : List Slot) (t : Text) → Lays before ss t → AreSpelled ss
lays-spelled before [] t h = tt
lays-spelled before (s ∷ ss) t (gap, piece, rest, whole, parts, spells, others) = ((piece, spells), lays-spelled (behind s) ss rest others)

-- each separator that is a break has a blank before the next symbol, if that is missing
abbrev IsLed : Separator → List Slot → Type 0
IsLed before [] = Unit {0}
IsLed before (s ∷ ss) = (before ≡ Break → lead s.role ≡ 32 ∷ []) × IsLed (behind s) ss

led-behind : (q end : Sit) (s : Slot) (ss : List Slot) → May q s → Steps (next q s) ss end → IsLed (behind s) ss
led-behind q end s [] may steps = tt
led-behind q end s (r ∷ ss) may steps = ((λ e. ap lead (steps.0.0) ∙ lead-break q s.token may.1 e), led-behind (next q s) end r ss steps.0 steps.1)

led-first : (q end : Sit) (ss : List Slot) → Steps q ss end → IsLed Gap ss
led-first q end [] steps = tt
led-first q end (s ∷ ss) steps = ((λ e. absurd cc), led-behind q end s ss steps.0 steps.1)

-- ---- what is missing is laid out behind what stands there

pub lays-gap : (before : Separator) (ss : List Slot) (t g : Text) → Lays before ss t → IsGap g → Lays before ss (t ++ g)
lays-gap before [] t g h k = gap-append t g h k
lays-gap before (s ∷ ss) t g (gap, piece, rest, whole, parts, spells, others) k = (gap, piece, rest ++ g, rw whole (regroup gap piece rest g), parts, spells, lays-gap (behind s) ss rest g others k)

ends-blank : (t : Text) → t ++ 32 ∷ [] ≢ []
ends-blank [] e = cc
ends-blank (b ∷ t) e = cc

lead-parts : (before : Separator) (s : Slot) (t : Text) → (before ≡ Break → lead s.role ≡ 32 ∷ []) → IsGap (t ++ lead s.role) → Parts before (t ++ lead s.role)
lead-parts Gap s t h g = g
lead-parts Break s t h g = (g, λ e. ends-blank t (ap (λ (x : Text). t ++ x) (sym (h refl)) ∙ e))

lead-gap : (s : Slot) → IsGap (lead s.role)
lead-gap s = by s.role
  where
    by : (r : Role) → IsGap (lead r)
    by role.Opening = IsGap-blank 32 [] refl IsGap-nil
    by (role.Plain r) = IsGap-blank 32 [] refl IsGap-nil
    by (role.Naming more) = IsGap-blank 32 [] refl IsGap-nil
    by role.Line = IsGap-blank 32 [] refl IsGap-nil
    by (role.Term full) = IsGap-nil
    by (role.Part full) = IsGap-nil
    by role.Bounded = IsGap-nil
    by role.Fixed = IsGap-nil
    by role.Further = IsGap-blank 32 [] refl IsGap-nil
    by (role.Columns least) = IsGap-blank 32 [] refl IsGap-nil
    by (role.Typing cone) = IsGap-blank 32 [] refl IsGap-nil

-- the piece of a missing symbol stands for it
abbrev IsSpelledSo : Slot → Type 0
IsSpelledSo s = Spells s (token_text s.token)

lays-missing : (before : Separator) (ss : List Slot) (t : Text) → IsLed before ss → AllByRecursion IsSpelledSo ss → IsGap t → Lays before ss (t ++ spelled_out ss)
lays-missing before [] t led m g = rw append-nil g
lays-missing before (s ∷ ss) t led m g =
    let same : t ++ ((lead s.role ++ token_text s.token) ++ spelled_out ss) ≡ (t ++ lead s.role) ++ (token_text s.token ++ spelled_out ss) = simp append_assoc in
    (t ++ lead s.role, token_text s.token, spelled_out ss, same, lead-parts before s t led.0 (gap-append t (lead s.role) g (lead-gap s)), m.0, lays-missing (behind s) ss [] led.1 m.1 IsGap-nil)

lays-both : (before : Separator) (done others : List Slot) (t : Text) → IsLed before (done ++ others) → Lays before done t → AllByRecursion IsSpelledSo others → Lays before (done ++ others) (t ++ spelled_out others)
lays-both before [] others t led laid m = lays-missing before others t led m laid
lays-both before (s ∷ done) others t led (gap, piece, rest, whole, parts, spells, laid) m = (gap, piece, rest ++ spelled_out others, rw whole (regroup gap piece rest (spelled_out others)), parts, spells, lays-both (behind s) done others rest led.1 laid m)

-- each missing symbol has the spelling of the ending
spelled-so : (q end : Sit) (done others : List Slot) → IsLive q → AreSpelled done → Steps q (done ++ others) end → AllByRecursion IsMissing others → AllByRecursion IsSpelledSo others
spelled-so q end [] [] live spelled steps m = tt
spelled-so q end [] (s ∷ others) live spelled steps m =
    let text = missing-text q s live steps.0 m.0 in
    (text, spelled-so (next q s) end [] others (live-next q s.token live steps.0.1 (token_text s.token, text)) tt steps.1 m.1)
spelled-so q end (r ∷ done) others live spelled steps m = spelled-so (next q r) end done others (live-next q r.token live steps.0.1 spelled.0) spelled.1 steps.1 m

-- ---- the text

pub some-dimension : (d : ℕ) (es : List AnyEntry) (done others : List Slot) → symbols d es ≡ done ++ others → AreSpelled done → AllByRecursion IsMissing others → 1 ≤ d
some-dimension d es done others e spelled m = by done others e spelled m
  where
    low : (s : Slot) → plain_slot (symbol.Dimension d) ≡ s → IsSpelled s.token ⊎ IsMissing s → 1 ≤ d
    low s is (inl h) = (subst (λ (x : Slot). IsSpelled x.token) (sym is) h).1.1
    low s is (inr h) = omega (arith, (subst IsMissing (sym is) h))

    by : (done others : List Slot) → symbols d es ≡ done ++ others → AreSpelled done → AllByRecursion IsMissing others → 1 ≤ d
    by [] [] e spelled m = absurd cc
    by [] (s ∷ []) e spelled m = absurd cc
    by [] (s ∷ r ∷ others) e spelled m = let is : plain_slot (symbol.Dimension d) ≡ r = cc in low r is (inr m.1.0)
    by (s ∷ []) [] e spelled m = absurd cc
    by (s ∷ []) (r ∷ others) e spelled m = let is : plain_slot (symbol.Dimension d) ≡ r = cc in low r is (inr m.0)
    by (s ∷ r ∷ done) others e spelled m = let is : plain_slot (symbol.Dimension d) ≡ r = cc in low r is (inl spelled.1.0)

lacking-lays : (end : Sit) (all done others : List Slot) (t : Text) → Steps AtOpening all end → all ≡ done ++ others → Lays Gap done t → AllByRecursion IsMissing others → Lays Gap all (t ++ spelled_out others)
lacking-lays end all done others t steps e laid m =
    let steps2 : Steps AtOpening (done ++ others) end = subst (λ (x : List Slot). Steps AtOpening x end) e steps in
    let so = spelled-so AtOpening end done others tt (lays-spelled Gap done t laid) steps2 m in
    subst (λ (x : List Slot). Lays Gap x (t ++ spelled_out others)) (sym e) (lays-both Gap done others t (led-first AtOpening end (done ++ others) steps2) laid so)

pub text-lacking : (t : Text) (done others : List Slot) → Lays Gap done t → IsLacking done others → (f : FileData) × IsAnyTextOf (t ++ spelled_out others) f
text-lacking t done others laid (inl h) =
    let low = some-dimension h.dimension h.entries done others h.whole (lays-spelled Gap done t laid) h.missing in (
      file_of h.dimension h.entries,
      inl (record { dimension = h.dimension; entries = h.entries; fit = h.fit; is = refl; laid = lacking-lays _ (symbols h.dimension h.entries) done others t (new-steps h.dimension h.entries low h.fit) h.whole laid h.missing }),
    )
text-lacking t done others laid (inr h) = (
  old_file h.dimension h.entries,
  inr (record { dimension = h.dimension; entries = h.entries; fit = h.fit; is = refl; laid = lacking-lays _ (old_symbols h.dimension h.entries) done others t (old-steps h.dimension h.entries h.fit) h.whole laid h.missing }),
)

-- a piece that has begun, and its rest
lays-begun : (before : Separator) (done : List Slot) (s : Slot) (t begun more : Text) → begun ≢ [] → PrecedesPast Spells behind apart before done t begun → Spells s (begun ++ more) → Lays before (done ++ s ∷ []) (t ++ more)
lays-begun before done s t [] more some h spells = absurd (some refl)
lays-begun before [] s t (b ∷ begun) more some (gap, parts, whole) spells = (gap, (b ∷ begun) ++ more, [], rw whole (simp (append_assoc, append-nil)), parts, spells, IsGap-nil)
lays-begun before (r ∷ []) s t (b ∷ begun) more some (gap, piece, rest, whole, parts, spelled, others) spells = (gap, piece, rest ++ more, rw whole (regroup gap piece rest more), parts, spelled, lays-begun (behind r) [] s rest (b ∷ begun) more some others spells)
lays-begun before (r ∷ p ∷ done) s t (b ∷ begun) more some (gap, piece, rest, whole, parts, spelled, others) spells = (gap, piece, rest ++ more, rw whole (regroup gap piece rest more), parts, spelled, lays-begun (behind r) (p ∷ done) s rest (b ∷ begun) more some others spells)

same-text : (a b : Text) → a ≡ b → (f : FileData) × IsAnyTextOf a f → (f : FileData) × IsAnyTextOf b f
same-text a b e h = (h.0, subst (λ (x : Text). IsAnyTextOf x h.0) e h.1)

pub ending-text : (bytes more : Text) → IsEnding bytes more → (f : FileData) × IsAnyTextOf (bytes ++ more) f
ending-text bytes more (Whole e) = same-text (bytes ++ spelled_out e.others) (bytes ++ more) (ap (λ (x : Text). bytes ++ x) (sym e.more_is)) (text-lacking bytes e.done e.others e.laid e.lacks)
ending-text bytes more (Open e) =
    same-text ((e.front ++ (e.comment ++ closing e.comment)) ++ spelled_out e.others) (bytes ++ more) (rw (e.whole, e.more_is) (simp append_assoc))
    (text-lacking (e.front ++ (e.comment ++ closing e.comment)) e.done e.others (lays-gap Gap e.done e.front (e.comment ++ closing e.comment) e.laid (close-gap e.comment e.is_open)) e.lacks)
ending-text bytes more (Begun e) =
    let f = completion e.next.role e.begun in
    same-text ((bytes ++ f) ++ spelled_out e.others) (bytes ++ more) (rw (e.more_is) (append_assoc bytes f (spelled_out e.others)))
    (text-lacking (bytes ++ f) (e.done ++ e.next ∷ []) e.others (lays-begun Gap e.done e.next bytes e.begun f e.some e.precedes e.spelled) e.lacks)
