-- Each prefix of a text has an ending.
use Rattle.std.proofs.Common.{◌≡◌, ◌≢◌, ℕ, ◌≤◌, List, [], ◌∷◌, ◌++◌, refl, sym, ap, subst, ◌∙◌, append_assoc, inl, inr, ◌⊎◌}
use Rattle.std.specs.List.{AllByRecursion}
use Rattle.nz_vec.specs.Texts.{Text}
use Rattle.nz_input.specs.Files.{FileData}
use Rattle.nz_input.specs.Layouts.{Gap, closing, Whole, Open, Begun, EndsWholeIn}
use Rattle.nz_input.proofs.Each.{all-front, all-both}
use Rattle.nz_symbolic.specs.declared.symbol.Slot.{Slot}
use Rattle.nz_symbolic.specs.Symbols.{Spells, slot, Fits, symbols, OldFits, old_symbols}
use Rattle.nz_symbolic.specs.Texts.{Lays, IsAnyTextOf}
use Rattle.nz_symbolic.specs.Refusals.{IsTextPrefix}
use Rattle.nz_symbolic.specs.Endings.{IsMissing, spelled_out, completion, IsLacking, IsEnding}
use Rattle.nz_symbolic.specs.Laws as law
use Rattle.nz_symbolic.specs.Sit.{Sit, AtOpening, May, next, wants, IsFinal}
use Rattle.nz_symbolic.specs.Left.{IsSpelled, IsLive, IsNewFile, IsOldFile}
use Rattle.nz_symbolic.proofs.Accepting.{Steps, Accepted, steps-append, texts-accepted}
use Rattle.nz_symbolic.proofs.Leaving.{AreSpelled, live-next, live-steps, steps-left}
use Rattle.nz_symbolic.proofs.Completing.{Completed, completed, missing-text}
use Rattle.nz_symbolic.proofs.Ending.{lays-spelled, ending-text}
use Rattle.nz_symbolic.proofs.Cutting.{Cut, InGap, InOpen, InPiece, cut}
use Rattle.nz_symbolic.proofs.FinishingTypes.{finish}

pub record SplitSteps (q : Sit) (a b : List Slot) (end : Sit) : Type 0 where
  pub mid : Sit
  pub front : Steps q a mid
  pub back : Steps mid b end

pub steps-split : (q : Sit) (a b : List Slot) (end : Sit) → Steps q (a ++ b) end → SplitSteps q a b end
steps-split q [] b end h = record { mid = q; front = refl; back = h }
steps-split q (s ∷ a) b end h =
    let below = steps-split (next q s) a b end h.1 in
    record { mid = below.mid; front = (h.0, below.front); back = below.back }

-- ---- what has been read can be finished

-- what is missing has spellings
missing-spelled : (ss : List Slot) (q end : Sit) → IsLive q → Steps q ss end → AllByRecursion IsMissing ss → AreSpelled ss
missing-spelled [] q end live steps m = tt
missing-spelled (s ∷ ss) q end live steps m =
    let spelled : IsSpelled s.token = (_, missing-text q s live steps.0 m.0) in
    (spelled, missing-spelled ss (next q s) end (live-next q s.token live steps.0.1 spelled) steps.1 m.1)

-- the slots of a file, in one of the forms
abbrev pub AreFile : List Slot → Type 0
AreFile ss = IsNewFile ss ⊎ IsOldFile ss

pub lacking : (done others : List Slot) → AreFile (done ++ others) → AllByRecursion IsMissing others → IsLacking done others
lacking done others (inl f) m = inl (record { dimension = f.dimension; entries = f.entries; fit = f.fit; whole = f.whole; missing = m })
lacking done others (inr f) m = inr (record { dimension = f.dimension; entries = f.matrices; fit = f.fit; whole = f.whole; missing = m })

-- slots that lead somewhere, and what is missing there
pub record Finishes (done : List Slot) : Type 0 where
  pub others : List Slot
  pub missing : AllByRecursion IsMissing others
  pub file : AreFile (done ++ others)

pub finishes : (done : List Slot) (q : Sit) → Steps AtOpening done q → AreSpelled done → Finishes done
finishes done q steps spelled =
    let live = live-steps done AtOpening q tt spelled steps in
    let c = completed q live in
    let all : Steps AtOpening (done ++ c.others) c.end = steps-append AtOpening q c.end done c.others steps c.steps in
    let each : AreSpelled (done ++ c.others) = all-both (λ (s : Slot). IsSpelled s.token) done c.others spelled (missing-spelled c.others q c.end live c.steps c.missing) in
    record { others = c.others; missing = c.missing; file = steps-left (done ++ c.others) AtOpening c.end tt each all c.final }

-- one slot more
pub steps-more : (q m : Sit) (done : List Slot) (s : Slot) → Steps q done m → May m s → Steps q (done ++ s ∷ []) (next m s)
steps-more q m [] s h may = subst (λ (x : Sit). Steps x (s ∷ []) (next m s)) (sym h) (may, refl)
steps-more q m (r ∷ done) s h may = (h.0, steps-more (next q r) m done s h.1 may)

-- ---- where the prefix ends

pub prefix-ending : (prefix : Text) → IsTextPrefix prefix → (more : Text) × IsEnding prefix more
prefix-ending prefix h = by (cut Gap a.slots prefix h.more a.laid)
  where
    a : Accepted (prefix ++ h.more)
    a = texts-accepted (prefix ++ h.more) h.file h.text

    spelled : AreSpelled a.slots
    spelled = lays-spelled Gap a.slots (prefix ++ h.more) a.laid

    -- the front ones lead somewhere, and have spellings
    split : (done others : List Slot) → a.slots ≡ done ++ others → SplitSteps AtOpening done others a.end
    split done others e = steps-split AtOpening done others a.end (subst (λ (x : List Slot). Steps AtOpening x a.end) e a.steps)

    front : (done others : List Slot) → a.slots ≡ done ++ others → AreSpelled done
    front done others e = all-front (λ (s : Slot). IsSpelled s.token) done others (subst AreSpelled e spelled)

    whole : (done others : List Slot) → a.slots ≡ done ++ others → Finishes done
    whole done others e = finishes done (split done others e).mid (split done others e).front (front done others e)

    by : Cut Gap a.slots prefix → (more : Text) × IsEnding prefix more
    by (InGap done others e laid) =
        let f = whole done others e in
        (spelled_out f.others, Whole (record { done = done; laid = laid; others = f.others; lacks = lacking done f.others f.file f.missing; more_is = refl }))
    by (InOpen done others first comment e w laid o) =
        let f = whole done others e in
        (closing comment ++ spelled_out f.others, Open (record { done = done; front = first; comment = comment; whole = w; laid = laid; is_open = o; others = f.others; lacks = lacking done f.others f.file f.missing; more_is = refl }))
    by (InPiece done others s begun y e p n spells) =
        let at = split done (s ∷ others) e in
        let own = front done (s ∷ others) e in
        let live = live-steps done AtOpening at.mid tt own at.front in
        let t = finish at.mid s.token begun y live at.back.0.1 n spells in
        let next_slot : Slot = slot (wants at.mid) t.token_is in
        let more : AreSpelled (done ++ next_slot ∷ []) = all-both (λ (r : Slot). IsSpelled r.token) done (next_slot ∷ []) own ((_, t.spelled), tt) in
        let f = finishes (done ++ next_slot ∷ []) (next at.mid next_slot) (steps-more AtOpening at.mid done next_slot at.front (refl, t.may)) more in
        (completion (wants at.mid) begun ++ spelled_out f.others, Begun (record { done = done; begun = begun; some = n; precedes = p; next = next_slot; spelled = t.spelled; others = f.others; lacks = lacking (done ++ next_slot ∷ []) f.others f.file f.missing; more_is = refl }))

pub prefixes-end : law.PrefixesEnd
prefixes-end = (prefix-ending, ending-text)
