-- A part of a text is read in one way.
use Rattle.std.proofs.Common.{◌≡◌, ℕ, ◌-◌, ◌≤◌, List, [], ◌∷◌, ◌++◌, length, map, take, drop, refl, sym, ap, subst, ◌∙◌, arith, Option, Some, None}
use Rattle.std.specs.List.{flat_map, AllByRecursion}
use Rattle.std.proofs.lemmas.List.{append-nil, take-append-drop}
use Rattle.nz_text.specs.declared.pieces.Mode.TheVariants.{Outside}
use Rattle.nz_text.specs.Bytes.{IsGap, IsEdge}
use Rattle.nz_text.specs.Skip.{Reaches, skip}
use Rattle.nz_input.specs.declared.kind.Word.TheVariants.{GoalWord, Keyword}
use Rattle.nz_input.specs.declared.parts.Part.TheVariants.{Opening, Next}
use Rattle.nz_input.specs.declared.reading.Stop.{Stop}
use Rattle.nz_input.specs.declared.reading.Stop.TheVariants.{At, NoMemory}
use Rattle.nz_input.specs.declared.refusal.ReadRefusal.{ReadRefusal}
use Rattle.nz_input.specs.declared.refusal.ReadRefusal.TheVariants as refusal
use Rattle.nz_input.specs.declared.symbol.Role.TheVariants.{Entering}
use Rattle.nz_input.specs.declared.symbol.Symbol.{Symbol}
use Rattle.nz_input.specs.declared.symbol.Symbol.TheVariants.{Begin, Number}
use Rattle.nz_input.specs.Words.{is_matrix}
use Rattle.nz_input.specs.Symbols.{Spells, Entry, OfItem, OfGoal, row_count, entry_symbols}
use Rattle.nz_input.specs.Layouts.{Separator, Gap, Break, CoversIn}
use Rattle.nz_input.specs.Texts.{behind}
use Rattle.nz_input.specs.Refusals.{role_of}
use Rattle.nz_input.specs.Sit.{AtFirst, AtEntry, Steps}
use Rattle.nz_input.specs.Entries.{opening_symbols, StartsOpening, StartsEntry, IsPartAt, IsOpening, IsEntryAt}
use Rattle.nz_input.specs.Parts.{IsPartStopped, IsTold}
use Rattle.nz_input.proofs.Pieces.{spells-some}
use Rattle.nz_input.proofs.Laying.{Covers, parts-gap, append-some, reaches-is}
use Rattle.nz_input.proofs.Refusing.{steps-entry, skip-whole, refused-no-text}
use Rattle.nz_input.proofs.Collecting.{entry-one}
use Rattle.nz_input.proofs.OpeningFront.{Begins, Beside, More, Over, beside, covers-begins, covers-edge, starts-begins}
use Rattle.nz_input.proofs.EntryFront.{IsInner, IsTail, inner-behind, inner-count, inner-rows, ready-done, steps-behind}

-- ---- what a part has behind it

covered-covers : (before : Separator) (ss : List Symbol) (a : List ℕ) → CoversIn Spells behind before ss a → Covers ss a
covered-covers before [] a h = h
covered-covers before (s ∷ ss) a (gap, piece, rest, whole, parts, spells, more) =
    let edge : IsEdge rest = subst IsEdge (append-nil rest) (covers-edge ss rest [] more tt) in
    (gap, piece, rest, whole, parts-gap before gap parts, spells, edge, covered-covers Break ss rest more)

part-covers : (before : Separator) (ss : List Symbol) (text : List ℕ) (end : ℕ) → IsPartAt before ss text 0 end → CoversIn Spells behind before ss (take end text)
part-covers before ss text end h = let same : end - 0 ≡ end = omega arith in subst (λ (n : ℕ). CoversIn Spells behind before ss (take n text)) same h.covered

part-begins-so : (before : Separator) (ss : List Symbol) (text : List ℕ) (end : ℕ) → IsPartAt before ss text 0 end → Begins ss text
part-begins-so before ss text end h = subst (Begins ss) (take-append-drop end text) (covers-begins before ss (take end text) (drop end text) (part-covers before ss text end h) h.edge)

-- ---- the opening

-- the opening that was read is the one with which the text begins
pub one-opening : (text : List ℕ) (d n end : ℕ) → IsOpening text d end → StartsOpening text n → d ≡ n
one-opening text d n end (low, high, part) starts =
    by (beside (opening_symbols d) (opening_symbols n) AtFirst (AtEntry d) (AtEntry n) (take end text) (drop end text) (covered-covers Gap (opening_symbols d) (take end text) (part-covers Gap (opening_symbols d) text end part)) part.edge (refl, (refl, refl)) (refl, (refl, refl)) (subst (Begins (opening_symbols n)) (sym (take-append-drop end text)) (starts-begins Gap (opening_symbols n) text starts)))
  where
    by : Beside (opening_symbols d) (opening_symbols n) (AtEntry d) (drop end text) → d ≡ n
    by (More s others piece rest whole role found spells edge) = absurd cc
    by (Over others whole) = cc

-- ---- an entry

entry-tail : (e : Entry) → IsTail (entry_symbols e)
entry-tail (OfItem item) = inner-count (is_matrix item.kind) (length item.rows) _ (subst (AllByRecursion IsInner) (append-nil (flat_map (λ row. map Number row) item.rows)) (inner-rows item.rows []))
entry-tail (OfGoal goal) = tt

-- no entry begins within another
none-within : (e : Entry) (all : List Symbol) (s : Symbol) (others : List Symbol) → IsTail all → all ≡ entry_symbols e ++ s ∷ others → role_of s ≡ Entering → ⊥
none-within (OfItem item) all s others tail is role = inner-behind s (row_count (is_matrix item.kind) (length item.rows) ++ flat_map (λ row. map Number row) item.rows) others (subst IsTail is tail) role
none-within (OfGoal goal) all s others tail is role = inner-behind s [] others (subst IsTail is tail) role

none-begun : (s : Symbol) (ss : List Symbol) (t : List ℕ) → Begins (s ∷ ss) t → skip Outside t ≡ Reaches [] → ⊥
none-begun s ss t (piece, rest, found, spells, edge, more) end = append-some piece rest (spells-some s piece spells) (reaches-is _ _ (sym found ∙ end))

-- where only a gap is left no entry begins
gap-alone : (e : Entry) (t : List ℕ) → IsGap t → Begins (entry_symbols e) t → ⊥
gap-alone (OfItem item) t g h = none-begun (Begin (Keyword item.kind)) _ t h (skip-whole t g)
gap-alone (OfGoal goal) t g h = none-begun (Begin (GoalWord goal)) [] t h (skip-whole t g)

-- the entry that was read is the one with which the text begins
pub one-entry : (d : ℕ) (text : List ℕ) (e f : Option Entry) (end : ℕ) → 1 ≤ d → IsEntryAt d text 0 e end → StartsEntry d text f → e ≡ f
one-entry d text None None end low h starts = refl
one-entry d text None (Some f) end low h starts = absurd (gap-alone f text h.1 (starts-begins Break (entry_symbols f) text starts.1))
one-entry d text (Some e) None end low h starts = absurd (gap-alone e text starts (part-begins-so Break (entry_symbols e) text end h.1))
one-entry d text (Some e) (Some f) end low (fit, part) (fits, starts) =
    by (beside (entry_symbols e) (entry_symbols f) (AtEntry d) (AtEntry d) (AtEntry d) (take end text) (drop end text) (covered-covers Break (entry_symbols e) (take end text) (part-covers Break (entry_symbols e) text end part)) (ready-done (entry_symbols e) (drop end text) part.edge) mine theirs (subst (Begins (entry_symbols f)) (sym (take-append-drop end text)) (starts-begins Break (entry_symbols f) text starts)))
  where
    mine : Steps (AtEntry d) (entry_symbols e) (AtEntry d)
    mine = steps-entry d e low fit

    theirs : Steps (AtEntry d) (entry_symbols f) (AtEntry d)
    theirs = steps-entry d f low fits

    by : Beside (entry_symbols e) (entry_symbols f) (AtEntry d) (drop end text) → Some e ≡ Some f
    by (More s others piece rest whole role found spells edge) = absurd (none-within e (entry_symbols f) s others (entry-tail f) whole role)
    by (Over [] whole) = ap (λ (x : Entry). Some x) (entry-one d e f low fit fits (whole ∙ append-nil (entry_symbols f)))
    by (Over (r ∷ others) whole) =
        let role = steps-behind (AtEntry d) (AtEntry d) (AtEntry d) (entry_symbols f) r others theirs (subst (λ (x : List Symbol). Steps (AtEntry d) x (AtEntry d)) whole mine) in
        absurd (none-within f (entry_symbols e) r others (entry-tail e) whole role)

-- ---- what is refused begins with no part

pub opening-only : (text : List ℕ) (stop : Stop) (told : ReadRefusal) (d : ℕ) → IsPartStopped Opening text stop → IsTold text 0 stop told → StartsOpening text d → told ≡ refusal.NoMemory
opening-only text NoMemory told d h is starts = is
opening-only text (At at why) told d h is starts = absurd (refused-no-text text at why d h starts)

pub entry-only : (d : ℕ) (text rest : List ℕ) (from : ℕ) (stop : Stop) (told : ReadRefusal) (e : Option Entry) → IsPartStopped (Next d) rest stop → IsTold text from stop told → StartsEntry d rest e → told ≡ refusal.NoMemory
entry-only d text rest from NoMemory told e h is starts = is
entry-only d text rest from (At at why) told e h is starts = absurd (refused-no-text rest at why e h starts)
