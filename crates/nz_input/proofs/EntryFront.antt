-- An entry of a file: the grammar of its front, as a reader meets it.
use Rattle.std.proofs.Common.{◌≡◌, ◌≢◌, ℕ, ◌≤◌, Bool, true, false, List, [], ◌∷◌, ◌++◌, length, map, refl, sym, ap, subst, ◌∙◌, append_assoc, inl, inr, Option, Some, None}
use Rattle.std.specs.Prelude.{ℤ}
use Rattle.std.specs.List.{flat_map, AllByRecursion}
use Rattle.std.proofs.lemmas.List.{append-nil}
use Rattle.nz_text.specs.declared.pieces.Mode.TheVariants.{Outside}
use Rattle.nz_text.specs.Bytes.{IsGap, IsEdge, IsSolid}
use Rattle.nz_text.specs.Skip.{Reaches, skip}
use Rattle.nz_text.proofs.Gaps.{skip-gap, IsGap-nil}
use Rattle.nz_input.specs.declared.kind.Word.TheVariants.{GoalWord, Keyword}
use Rattle.nz_input.specs.declared.symbol.Role.TheVariants.{Entering}
use Rattle.nz_input.specs.declared.symbol.Symbol.{Symbol}
use Rattle.nz_input.specs.declared.symbol.Symbol.TheVariants.{Amb, Dimension, Begin, Number}
use Rattle.nz_input.specs.Words.{is_matrix}
use Rattle.nz_input.specs.Symbols.{Spells, Entry, OfItem, OfGoal, IsEntry, row_count, entry_symbols, symbols}
use Rattle.nz_input.specs.Layouts.{Gap, Break, AtPiece}
use Rattle.nz_input.specs.Texts.{Lays}
use Rattle.nz_input.specs.Refusals.{role_of}
use Rattle.nz_input.specs.Prefixes.{IsPrefixIn}
use Rattle.nz_input.specs.Endings.{spelled_out}
use Rattle.nz_input.specs.Sit.{Sit, AtEntry, wants, next, Steps, IsFinal}
use Rattle.nz_input.specs.Progress.{Progress, Nothing, Named, Between, Awaiting, Filling, done_of, sit_of, IsSound, after, begun_symbols}
use Rattle.nz_input.specs.Entries.{StartsEntry, EndsAtEntry, IsNextInEntry}
use Rattle.nz_input.proofs.Pieces.{spells-solid, spells-some}
use Rattle.nz_input.proofs.Each.{all-both}
use Rattle.nz_input.proofs.Going.{goes, steps-more}
use Rattle.nz_input.proofs.Laying.{Reads, Covers, IsReady, covers-read, covers-more, reads-lays, append-some, reaches-is, gap-edge, edge-append, skip-piece, regroup}
use Rattle.nz_input.proofs.Completing.{completed, IsApart, ready-gap, gap-reads, ending-reads, precedes, comment-ends}
use Rattle.nz_input.proofs.Refusing.{Grammar, IsDead, steps-entry, begins-part, skip-whole}
use Rattle.nz_input.proofs.OpeningFront.{starts-begins, lays-starts, Beside, More, Over, beside}

-- ---- what is behind a reader in an entry

-- no entry is whole
abbrev pub IsWithin : ℕ → Progress → Type 0
IsWithin d Nothing = ⊥
IsWithin d Named = ⊥
IsWithin d (Between n es) = es ≡ []
IsWithin d (Awaiting n es k) = es ≡ []
IsWithin d (Filling n es k m rows row) = es ≡ []

-- the symbols that a reader has behind it, which began before an entry
pub record Has (d : ℕ) (p : Progress) (a : List ℕ) : Type 0 where
  pub done : List Symbol
  pub whole : done_of p ≡ Amb ∷ Dimension d ∷ done
  pub covers : Covers done a
  pub sound : IsSound p
  pub steps : Steps (AtEntry d) done (sit_of p)
  pub edge : IsEdge a

abbrev pub BehindEntry : ℕ → Progress → List ℕ → Type 0
BehindEntry d p a = (1 ≤ d) × Has d p a × IsWithin d p

pub has-nothing : (d : ℕ) → 1 ≤ d → Has d (Between d []) []
has-nothing d h = record { done = []; whole = refl; covers = refl; sound = (h, tt); steps = refl; edge = tt }

some-done : (d : ℕ) (p : Progress) (done : List Symbol) (gap : List ℕ) → done_of p ≡ Amb ∷ Dimension d ∷ done → IsApart (done_of p) gap → gap ≢ []
some-done d p done gap e h = subst (λ (x : List Symbol). IsApart x gap) e h

pub ready-done : (done : List Symbol) (t : List ℕ) → IsEdge t → IsReady done t
ready-done [] t h = tt
ready-done (s ∷ done) t h = h

ready-edge : (d : ℕ) (p : Progress) (done : List Symbol) (t : List ℕ) → done_of p ≡ Amb ∷ Dimension d ∷ done → IsReady (done_of p) t → IsEdge t
ready-edge d p done t e h = subst (λ (x : List Symbol). IsReady x t) e h

pub same-tail : (d n : ℕ) (a b : List Symbol) → Amb ∷ Dimension d ∷ a ≡ Amb ∷ Dimension n ∷ b → (d ≡ n) × (a ≡ b)
same-tail d n a b e = (cc, cc)

-- one symbol more
pub has-more : (d : ℕ) (p : Progress) (a gap piece : List ℕ) (s : Symbol) → Has d p a → IsGap gap → IsApart (done_of p) gap → role_of s ≡ wants (sit_of p) → Spells s piece → Has d (after p s) (a ++ (gap ++ (piece ++ [])))
has-more d p a gap piece s h g apart e spells =
    let to = goes p s piece h.sound e spells in
    let some = some-done d p h.done gap h.whole apart in
    let bound : IsEdge (gap ++ (piece ++ [])) = gap-edge gap (piece ++ []) g some in
    record {
      done = h.done ++ s ∷ [];
      whole = to.done ∙ ap (λ (x : List Symbol). x ++ s ∷ []) h.whole;
      covers = covers-more h.done a gap piece s h.covers (ready-done h.done (gap ++ (piece ++ [])) bound) g spells;
      sound = to.sound;
      steps = subst (λ (x : Sit). Steps (AtEntry d) (h.done ++ s ∷ []) x) (sym to.sit) (steps-more (AtEntry d) (sit_of p) h.done s h.steps e);
      edge = edge-append a (gap ++ (piece ++ [])) h.edge bound;
    }

-- ---- what begins with entries begins with one, or is a gap

pub entries-start : (d : ℕ) (es : List Entry) (t : List ℕ) → AllByRecursion (IsEntry d) es → Lays Break (flat_map entry_symbols es) t → (e : Option Entry) × StartsEntry d t e
entries-start d [] t fit laid = (None, laid)
entries-start d (OfItem item ∷ es) t fit laid = (Some (OfItem item), (fit.0, lays-starts Break (Begin (Keyword item.kind)) (row_count (is_matrix item.kind) (length item.rows) ++ flat_map (λ row. map Number row) item.rows) (flat_map entry_symbols es) t laid))
entries-start d (OfGoal goal ∷ es) t fit laid = (Some (OfGoal goal), (fit.0, lays-starts Break (Begin (GoalWord goal)) [] (flat_map entry_symbols es) t laid))

-- what is behind and a gap can be completed
pub begins-entry : (d : ℕ) (p : Progress) (a gap : List ℕ) → Has d p a → IsGap gap → IsPrefixIn (λ bytes e. StartsEntry d bytes e) (a ++ gap)
begins-entry d p a gap h g =
    let c = completed p h.sound in
    let all : Amb ∷ Dimension c.dimension ∷ flat_map entry_symbols c.entries ≡ Amb ∷ Dimension d ∷ (h.done ++ c.others) = c.whole ∙ ap (λ (x : List Symbol). x ++ c.others) h.whole in
    let same = same-tail c.dimension d _ _ all in
    let bound : IsEdge (gap ++ spelled_out c.others) = ready-gap (Amb ∷ []) c.others gap g in
    let reads : Reads (h.done ++ c.others) (a ++ (gap ++ spelled_out c.others)) = covers-read h.done c.others a (gap ++ spelled_out c.others) h.covers (ready-done h.done (gap ++ spelled_out c.others) bound) (gap-reads gap (spelled_out c.others) c.others g (ending-reads c.others c.plainly)) in
    let laid : Lays Break (h.done ++ c.others) (a ++ (gap ++ spelled_out c.others)) = reads-lays Break (h.done ++ c.others) (a ++ (gap ++ spelled_out c.others)) (inr (edge-append a (gap ++ spelled_out c.others) h.edge bound)) reads in
    let fit : AllByRecursion (IsEntry d) c.entries = subst (λ (n : ℕ). AllByRecursion (IsEntry n) c.entries) same.0 c.fit in
    let made = entries-start d c.entries (a ++ (gap ++ spelled_out c.others)) fit (subst (λ (x : List Symbol). Lays Break x (a ++ (gap ++ spelled_out c.others))) (sym same.1) laid) in
    record { more = spelled_out c.others; file = made.0; text = subst (λ (x : List ℕ). StartsEntry d x made.0) (sym (append_assoc a gap (spelled_out c.others))) made.1 }

begins-entry-piece : (d : ℕ) (p : Progress) (a gap begun y : List ℕ) (s : Symbol) → BehindEntry d p a → IsGap gap → IsApart (done_of p) gap → role_of s ≡ wants (sit_of p) → Spells s (begun ++ y) → IsPrefixIn (λ bytes e. StartsEntry d bytes e) (a ++ (gap ++ begun))
begins-entry-piece d p a gap begun y s h g apart e spells =
    let whole = begins-entry d (after p s) (a ++ (gap ++ ((begun ++ y) ++ []))) [] (has-more d p a gap (begun ++ y) s h.1 g apart e spells) IsGap-nil in
    let same : (a ++ (gap ++ ((begun ++ y) ++ []))) ++ [] ≡ (a ++ (gap ++ begun)) ++ y = simp (append_assoc, append-nil) in
    begins-part {IsText = λ bytes e. StartsEntry d bytes e} (a ++ (gap ++ begun)) y (subst (λ (x : List ℕ). IsPrefixIn (λ bytes e. StartsEntry d bytes e) x) same whole)

-- ---- within an entry no entry is whole

-- no entry begins with it
abbrev pub IsInner : Symbol → Type 0
IsInner s = role_of s ≢ Entering

inner-numbers : (row : List ℤ) → AllByRecursion IsInner (map Number row)
inner-numbers [] = tt
inner-numbers (z ∷ row) = ((λ e. cc), inner-numbers row)

pub inner-rows : (rows : List (List ℤ)) (row : List ℤ) → AllByRecursion IsInner (flat_map (λ r. map Number r) rows ++ map Number row)
inner-rows [] row = inner-numbers row
inner-rows (r ∷ rows) row = subst (AllByRecursion IsInner) (sym (append_assoc (map Number r) (flat_map (λ r. map Number r) rows) (map Number row))) (all-both IsInner (map Number r) (flat_map (λ r. map Number r) rows ++ map Number row) (inner-numbers r) (inner-rows rows row))

pub inner-count : (b : Bool) (n : ℕ) (rest : List Symbol) → AllByRecursion IsInner rest → AllByRecursion IsInner (row_count b n ++ rest)
inner-count true n rest h = ((λ e. cc), h)
inner-count false n rest h = h

-- behind the first symbol
abbrev pub IsTail : List Symbol → Type 0
IsTail [] = Unit {0}
IsTail (s ∷ ss) = AllByRecursion IsInner ss

within-tail : (d : ℕ) (p : Progress) (done : List Symbol) → IsWithin d p → done_of p ≡ Amb ∷ Dimension d ∷ done → IsTail done
within-tail d Nothing done w e = absurd w
within-tail d Named done w e = absurd w
within-tail d (Between n es) done w e = let is : Amb ∷ Dimension n ∷ [] ≡ Amb ∷ Dimension d ∷ done = ap (λ (x : List Entry). symbols n x) (sym w) ∙ e in subst IsTail (same-tail n d [] done is).1 tt
within-tail d (Awaiting n es k) done w e =
    let is : Amb ∷ Dimension n ∷ Begin (Keyword k) ∷ [] ≡ Amb ∷ Dimension d ∷ done = ap (λ (x : List Entry). symbols n x ++ Begin (Keyword k) ∷ []) (sym w) ∙ e in
    subst IsTail (same-tail n d (Begin (Keyword k) ∷ []) done is).1 tt
within-tail d (Filling n es k m rows row) done w e =
    let is : Amb ∷ Dimension n ∷ begun_symbols k m rows row ≡ Amb ∷ Dimension d ∷ done = ap (λ (x : List Entry). symbols n x ++ begun_symbols k m rows row) (sym w) ∙ e in
    subst IsTail (same-tail n d (begun_symbols k m rows row) done is).1 (inner-count (is_matrix k) m _ (inner-rows rows row))

pub inner-behind : (s : Symbol) (ss rest : List Symbol) → AllByRecursion IsInner (ss ++ s ∷ rest) → IsInner s
inner-behind s [] rest h = h.0
inner-behind s (q ∷ ss) rest h = inner-behind s ss rest h.1

-- where a symbol stands behind an entry, it begins one
pub steps-behind : (sit mid end : Sit) (ss : List Symbol) (s : Symbol) (rest : List Symbol) → Steps sit ss mid → Steps sit (ss ++ s ∷ rest) end → role_of s ≡ wants mid
steps-behind sit mid end [] s rest h g = g.0 ∙ ap wants h
steps-behind sit mid end (q ∷ ss) s rest h g = steps-behind (next sit q) mid end ss s rest h.1 g.1

steps-same : (sit mid end : Sit) (ss : List Symbol) → Steps sit ss mid → Steps sit ss end → mid ≡ end
steps-same sit mid end [] h g = sym h ∙ g
steps-same sit mid end (q ∷ ss) h g = steps-same (next sit q) mid end ss h.1 g.1

-- the symbols of an entry are not all that stands behind a reader within one
within-empty : (d : ℕ) (p : Progress) (done : List Symbol) → IsWithin d p → done_of p ≡ Amb ∷ Dimension d ∷ done → AtEntry d ≡ sit_of p → done ≡ []
within-empty d Nothing done w e sit = absurd w
within-empty d Named done w e sit = absurd w
within-empty d (Between n es) done w e sit = let is : Amb ∷ Dimension n ∷ [] ≡ Amb ∷ Dimension d ∷ done = ap (λ (x : List Entry). symbols n x) (sym w) ∙ e in sym (same-tail n d [] done is).1
within-empty d (Awaiting n es k) done w e sit = absurd cc
within-empty d (Filling n es k m rows row) done w e sit = absurd cc

-- so what stands behind it does not begin with an entry
within-short : (d : ℕ) (p : Progress) (a : List ℕ) (s : Symbol) (ss others : List Symbol) (h : Has d p a) → IsWithin d p → Steps (AtEntry d) (s ∷ ss) (AtEntry d) → h.done ≡ (s ∷ ss) ++ others → ⊥
within-short d p a s ss [] h w steps e =
    let is : h.done ≡ s ∷ ss = e ∙ append-nil (s ∷ ss) in
    let empty = within-empty d p h.done w h.whole (steps-same (AtEntry d) (AtEntry d) (sit_of p) (s ∷ ss) steps (subst (λ (x : List Symbol). Steps (AtEntry d) x (sit_of p)) is h.steps)) in
    cc
within-short d p a s ss (r ∷ others) h w steps e =
    let role = steps-behind (AtEntry d) (AtEntry d) (sit_of p) (s ∷ ss) r others steps (subst (λ (x : List Symbol). Steps (AtEntry d) x (sit_of p)) e h.steps) in
    let tail : AllByRecursion IsInner (ss ++ r ∷ others) = subst IsTail e (within-tail d p h.done w h.whole) in
    inner-behind r ss others tail role

entry-short : (d : ℕ) (p : Progress) (a : List ℕ) (e : Entry) (others : List Symbol) (h : Has d p a) → 1 ≤ d → IsWithin d p → IsEntry d e → h.done ≡ entry_symbols e ++ others → ⊥
entry-short d p a (OfItem item) others h low w fit is = within-short d p a (Begin (Keyword item.kind)) (row_count (is_matrix item.kind) (length item.rows) ++ flat_map (λ row. map Number row) item.rows) others h w (steps-entry d (OfItem item) low fit) is
entry-short d p a (OfGoal goal) others h low w fit is = within-short d p a (Begin (GoalWord goal)) [] others h w (steps-entry d (OfGoal goal) low fit) is

no-entry : (d : ℕ) (p : Progress) (a t : List ℕ) → BehindEntry d p a → IsReady (done_of p) t → IsDead (sit_of p) t → (e : Option Entry) → StartsEntry d (a ++ t) e → ⊥
no-entry d p a t h ready dead None gap = none-left h.1.done a t h.1.covers dead (skip-whole (a ++ t) gap) h.1.steps
  where
    none-left : (done : List Symbol) (a t : List ℕ) → Covers done a → IsDead (sit_of p) t → skip Outside (a ++ t) ≡ Reaches [] → Steps (AtEntry d) done (sit_of p) → ⊥
    none-left [] a t c dead found steps = dead.final (subst (λ (x : List ℕ). skip Outside (x ++ t) ≡ Reaches []) c found) (subst IsFinal steps tt)
    none-left (s ∷ done) a t (gap, piece, rest, whole, g, spells, edge, more) dead found steps =
        let mine : skip Outside (a ++ t) ≡ Reaches (piece ++ (rest ++ t)) = rw (whole, regroup) (skip-gap gap (piece ++ (rest ++ t)) g ∙ skip-piece piece (rest ++ t) (spells-solid s piece spells) (spells-some s piece spells)) in
        append-some piece (rest ++ t) (spells-some s piece spells) (reaches-is _ _ (sym mine ∙ found))
no-entry d p a t h ready dead (Some e) starts =
    by (beside h.1.done (entry_symbols e) (AtEntry d) (sit_of p) (AtEntry d) a t h.1.covers (ready-done h.1.done t (ready-edge d p h.1.done t h.1.whole ready)) h.1.steps (steps-entry d e h.0 starts.0) (starts-begins Break (entry_symbols e) (a ++ t) starts.1))
  where
    by : Beside h.1.done (entry_symbols e) (sit_of p) t → ⊥
    by (More s others piece rest whole role found spells edge) = dead.first s piece rest role found spells edge
    by (Over others whole) = entry-short d p a e others h.1 h.0 h.2 starts.0 whole

-- ---- where a prefix of an entry ends

-- a front of two lists
data Front (xs done : List Symbol) (s : Symbol) : Type 0 where
  Longer : (others : List Symbol) → xs ≡ done ++ s ∷ others → Front xs done s
  Shorter : (others : List Symbol) → done ≡ xs ++ others → Front xs done s

front-cons : (x y : Symbol) (xs done : List Symbol) (s : Symbol) → x ≡ y → Front xs done s → Front (x ∷ xs) (y ∷ done) s
front-cons x y xs done s e (Longer others is) = Longer others (rw (e, is) refl)
front-cons x y xs done s e (Shorter others is) = Shorter others (rw (e, is) refl)

front-of : (xs rest done : List Symbol) (s : Symbol) (others : List Symbol) → xs ++ rest ≡ done ++ s ∷ others → Front xs done s
front-of [] rest done s others e = Shorter done refl
front-of (x ∷ xs) rest [] s others e = let same : x ≡ s = cc in Longer xs (ap (λ (q : Symbol). q ∷ xs) same)
front-of (x ∷ xs) rest (y ∷ done) s others e = let same : x ≡ y = cc in front-cons x y xs done s same (front-of xs rest done s others cc)

next-entry : (d : ℕ) (p : Progress) (a begun : List ℕ) (s : Symbol) (others : List Symbol) (es : List Entry) (h : Has d p a) → 1 ≤ d → IsWithin d p → AllByRecursion (IsEntry d) es → role_of s ≡ wants (sit_of p) → flat_map entry_symbols es ≡ h.done ++ s ∷ others → IsNextInEntry d h.done (wants (sit_of p)) begun
next-entry d p a begun s others [] h low w fit role e = absurd (nothing-more h.done e)
  where
    nothing-more : (done : List Symbol) → [] ≡ done ++ s ∷ others → ⊥
    nothing-more [] e = cc
    nothing-more (q ∷ done) e = cc
next-entry d p a begun s others (e1 ∷ es) h low w fit role e = by (front-of (entry_symbols e1) (flat_map entry_symbols es) h.done s others e)
  where
    by : Front (entry_symbols e1) h.done s → IsNextInEntry d h.done (wants (sit_of p)) begun
    by (Longer more is) = record { entry = e1; fit = fit.0; next = s; others = more; whole = is; role_is = role }
    by (Shorter more is) = absurd (entry-short d p a e1 more h low w fit.0 is)

at-entry : (d : ℕ) (p : Progress) (a gap begun y : List ℕ) (s : Symbol) → BehindEntry d p a → IsGap gap → IsApart (done_of p) gap → role_of s ≡ wants (sit_of p) → Spells s (begun ++ y) → IsSolid begun → EndsAtEntry d (a ++ (gap ++ begun)) (AtPiece (wants (sit_of p)) begun)
at-entry d p a gap begun y s h g apart e spells solid =
    let to = goes p s (begun ++ y) h.1.sound e spells in
    let c = completed (after p s) to.sound in
    let regrouped : (h.1.done ++ s ∷ []) ++ c.others ≡ h.1.done ++ s ∷ c.others = append_assoc h.1.done (s ∷ []) c.others in
    let all : Amb ∷ Dimension c.dimension ∷ flat_map entry_symbols c.entries ≡ Amb ∷ Dimension d ∷ (h.1.done ++ s ∷ c.others) =
    c.whole ∙ ap (λ (x : List Symbol). x ++ c.others) (to.done ∙ ap (λ (x : List Symbol). x ++ s ∷ []) h.1.whole) ∙ ap (λ (x : List Symbol). Amb ∷ Dimension d ∷ x) regrouped in
    let same = same-tail c.dimension d _ _ all in
    let fit : AllByRecursion (IsEntry d) c.entries = subst (λ (n : ℕ). AllByRecursion (IsEntry n) c.entries) same.0 c.fit in
    let some = some-done d p h.1.done gap h.1.whole apart in
    (h.1.done, next-entry d p a begun s c.others c.entries h.1 h.0 h.2 fit e same.1, precedes Gap h.1.done a gap begun h.1.covers (inl refl) g (inr some), solid)

pub entries : (d : ℕ) → Grammar (λ bytes e. StartsEntry d bytes e) (λ bytes site. EndsAtEntry d bytes site) (λ p a. BehindEntry d p a)
entries d = record {
  no_text = no-entry d;
  begins_gap = λ p a gap h g. begins-entry d p a gap h.1 g;
  begins_piece = begins-entry-piece d;
  at_piece = at-entry d;
  at_open = λ p a gap comment h g o. comment-ends h.1.done a gap comment h.1.covers g o;
}
