-- The opening of a file: the grammar of its front, as a reader meets it.
use Rattle.std.proofs.Common.{◌≡◌, ℕ, List, [], ◌∷◌, ◌++◌, refl, sym, ap, subst, ◌∙◌, inl, inr, ◌⊎◌}
use Rattle.nz_text.specs.declared.pieces.Mode.TheVariants.{Outside}
use Rattle.nz_text.specs.Bytes.{IsGap, IsEdge, IsSolid}
use Rattle.nz_text.specs.Skip.{Reaches, skip}
use Rattle.nz_text.proofs.Gaps.{skip-gap}
use Rattle.nz_text.proofs.OneStep.{same-run}
use Rattle.nz_input.specs.declared.symbol.Symbol.{Symbol}
use Rattle.nz_input.specs.declared.symbol.Symbol.TheVariants.{Amb, Dimension}
use Rattle.std.specs.List.{flat_map}
use Rattle.nz_input.specs.Symbols.{Spells, entry_symbols}
use Rattle.nz_input.specs.Layouts.{Separator, Gap, Break, CoversIn, StartsIn, AtPiece}
use Rattle.nz_input.specs.Texts.{behind, Lays}
use Rattle.nz_input.specs.Refusals.{IsTextPrefix, role_of}
use Rattle.nz_input.specs.Prefixes.{IsPrefixIn}
use Rattle.nz_input.specs.Sit.{Sit, AtFirst, wants, next, Steps}
use Rattle.nz_input.specs.Progress.{Progress, Nothing, Named, Between, Awaiting, Filling, done_of, sit_of}
use Rattle.nz_input.specs.Entries.{opening_symbols, StartsOpening, EndsAtOpening, IsNextInOpening}
use Rattle.nz_input.proofs.Pieces.{spells-solid, spells-some, spells-one}
use Rattle.nz_input.proofs.Laying.{Covers, IsReady, lays-edge, parts-gap, parts-at, skip-piece, reaches-is, ready-next, regroup, gap-edge}
use Rattle.nz_input.proofs.Completing.{Behind, IsApart, prefix-gap, prefix-piece, precedes, apart-is, ends-open}
use Rattle.nz_input.proofs.Refusing.{Grammar, IsDead}

-- ---- bytes that begin with symbols

-- pieces stand first, each with an edge behind it, and then anything
abbrev pub Begins : List Symbol → List ℕ → Type 0
Begins [] t = Unit {0}
Begins (s ∷ ss) t = (piece rest : List ℕ) × (skip Outside t ≡ Reaches (piece ++ rest)) × Spells s piece × IsEdge rest × Begins ss rest

pub covers-edge : (ss : List Symbol) (t others : List ℕ) → CoversIn Spells behind Break ss t → IsEdge others → IsEdge (t ++ others)
covers-edge [] t others h e = rw h e
covers-edge (s ∷ ss) t others (gap, piece, rest, whole, parts, spells, more) e = rw (whole, regroup) (gap-edge gap (piece ++ (rest ++ others)) parts.0 parts.1)

pub covers-begins : (before : Separator) (ss : List Symbol) (t others : List ℕ) → CoversIn Spells behind before ss t → IsEdge others → Begins ss (t ++ others)
covers-begins before [] t others h e = tt
covers-begins before (s ∷ ss) t others (gap, piece, rest, whole, parts, spells, more) e = (
  piece,
  rest ++ others,
  rw (whole, regroup) (skip-gap gap (piece ++ (rest ++ others)) (parts-gap before gap parts) ∙ skip-piece piece (rest ++ others) (spells-solid s piece spells) (spells-some s piece spells)),
  spells,
  covers-edge ss rest others more e,
  covers-begins Break ss rest others more e,
)

pub starts-begins : (before : Separator) (ss : List Symbol) (t : List ℕ) → StartsIn Spells behind before ss t → Begins ss t
starts-begins before ss t h = subst (Begins ss) (sym h.whole) (covers-begins before ss h.front h.others h.covered h.edge)

-- the front of what is laid out
pub lays-starts : (before : Separator) (s : Symbol) (ss rs : List Symbol) (t : List ℕ) → Lays before (s ∷ (ss ++ rs)) t → StartsIn Spells behind before (s ∷ ss) t
lays-starts before s [] rs t (gap, piece, rest, whole, parts, spells, more) = record {
  front = gap ++ (piece ++ []);
  others = rest;
  whole = whole ∙ sym (regroup gap piece [] rest);
  covered = (gap, piece, [], refl, parts, spells, refl);
  edge = lays-edge rs rest more;
}
lays-starts before s (r ∷ ss) rs t (gap, piece, rest, whole, parts, spells, more) =
    let below = lays-starts Break r ss rs rest more in
    record {
      front = gap ++ (piece ++ below.front);
      others = below.others;
      whole = whole ∙ ap (λ (x : List ℕ). gap ++ (piece ++ x)) below.whole ∙ sym (regroup gap piece below.front below.others);
      covered = (gap, piece, below.front, refl, parts, spells, below.covered);
      edge = below.edge;
    }

-- what a reader has behind it, with the separators of the definition
pub covers-covered : (before : Separator) (ss : List Symbol) (a : List ℕ) → (before ≡ Gap) ⊎ IsEdge a → Covers ss a → CoversIn Spells behind before ss a
covers-covered before [] a h c = c
covers-covered before (s ∷ ss) a h (gap, piece, rest, whole, g, spells, edge, more) =
    (gap, piece, rest, whole, parts-at before gap piece rest (subst (λ (x : List ℕ). (before ≡ Gap) ⊎ IsEdge x) whole h) g (spells-solid s piece spells) (spells-some s piece spells), spells, covers-covered Break ss rest (inr edge) more)

-- ---- what a reader has behind it, beside the symbols with which the bytes begin

-- a symbol more stands ahead, or what is behind goes on behind the symbols
pub data Beside (done ss : List Symbol) (sit : Sit) (t : List ℕ) : Type 0 where
  More : (s : Symbol) (others : List Symbol) (piece rest : List ℕ) → ss ≡ done ++ s ∷ others → role_of s ≡ wants sit → skip Outside t ≡ Reaches (piece ++ rest) → Spells s piece → IsEdge rest → Beside done ss sit t
  Over : (others : List Symbol) → done ≡ ss ++ others → Beside done ss sit t

beside-cons : (s q : Symbol) (done ss : List Symbol) (sit : Sit) (t : List ℕ) → s ≡ q → Beside done ss sit t → Beside (s ∷ done) (q ∷ ss) sit t
beside-cons s q done ss sit t e (More r others piece rest whole role found spells edge) = More r others piece rest (ap (λ (x : Symbol). x ∷ ss) (sym e) ∙ ap (λ (x : List Symbol). s ∷ x) whole) role found spells edge
beside-cons s q done ss sit t e (Over others whole) = Over others (ap (λ (x : Symbol). x ∷ done) e ∙ ap (λ (x : List Symbol). q ∷ x) whole)

pub beside : (done ss : List Symbol) (sit here end : Sit) (a t : List ℕ) → Covers done a → IsReady done t → Steps sit done here → Steps sit ss end → Begins ss (a ++ t) → Beside done ss here t
beside [] [] sit here end a t c ready steps goes h = Over [] refl
beside [] (s ∷ ss) sit here end a t c ready steps goes (piece, rest, found, spells, edge, more) = More s ss piece rest refl (goes.0 ∙ ap wants steps) (subst (λ (x : List ℕ). skip Outside (x ++ t) ≡ Reaches (piece ++ rest)) c found) spells edge
beside (s ∷ done) [] sit here end a t c ready steps goes h = Over (s ∷ done) refl
beside (s ∷ done) (q ∷ ss) sit here end a t (gap, piece, rest, whole, g, spells, edge, more) ready steps goes (other, tail, found, reads, bound, below) =
    let after = ready-next done rest t more edge ready in
    let mine : skip Outside (a ++ t) ≡ Reaches (piece ++ (rest ++ t)) = rw (whole, regroup) (skip-gap gap (piece ++ (rest ++ t)) g ∙ skip-piece piece (rest ++ t) (spells-solid s piece spells) (spells-some s piece spells)) in
    let same = same-run piece other (rest ++ t) tail (spells-solid s piece spells) (spells-solid q other reads) after.1 bound (reaches-is _ _ (sym mine ∙ found)) in
    let one : s ≡ q = spells-one s q piece spells (subst (Spells q) (sym same.0) reads) (steps.0 ∙ sym goes.0) in
    beside-cons s q done ss here t one (beside done ss (next sit s) here end rest t more after.0 steps.1 (subst (λ (x : Symbol). Steps (next sit x) ss end) (sym one) goes.1) (subst (Begins ss) (sym same.1) below))

-- ---- the opening

-- a text begins with an opening
pub text-opens : (prefix : List ℕ) → IsTextPrefix prefix → IsPrefixIn StartsOpening prefix
text-opens prefix h = record { more = h.more; file = h.text.dimension; text = lays-starts Gap Amb (Dimension h.text.dimension ∷ []) (flat_map entry_symbols h.text.entries) (prefix ++ h.more) h.text.laid }

-- the opening is not whole
abbrev pub IsEarly : Progress → Type 0
IsEarly Nothing = Unit {0}
IsEarly Named = Unit {0}
IsEarly (Between d es) = ⊥
IsEarly (Awaiting d es k) = ⊥
IsEarly (Filling d es k n rows row) = ⊥

abbrev pub BehindOpening : Progress → List ℕ → Type 0
BehindOpening p a = Behind p a × IsEarly p

steps-opening : (d : ℕ) → Steps AtFirst (opening_symbols d) (sit_of (Between d []))
steps-opening d = (refl, (refl, refl))

early-short : (p : Progress) (d : ℕ) (others : List Symbol) → IsEarly p → done_of p ≡ opening_symbols d ++ others → ⊥
early-short Nothing d others h e = cc
early-short Named d others h e = cc
early-short (Between n es) d others h e = h
early-short (Awaiting n es k) d others h e = h
early-short (Filling n es k m rows row) d others h e = h

no-opening : (p : Progress) (a t : List ℕ) → BehindOpening p a → IsReady (done_of p) t → IsDead (sit_of p) t → (d : ℕ) → StartsOpening (a ++ t) d → ⊥
no-opening p a t h ready dead d starts =
    by (beside (done_of p) (opening_symbols d) AtFirst (sit_of p) (sit_of (Between d [])) a t h.0.covers ready h.0.steps (steps-opening d) (starts-begins Gap (opening_symbols d) (a ++ t) starts))
  where
    by : Beside (done_of p) (opening_symbols d) (sit_of p) t → ⊥
    by (More s others piece rest whole role found spells edge) = dead.first s piece rest role found spells edge
    by (Over others whole) = early-short p d others h.1 whole

early-next : (p : Progress) (begun : List ℕ) → IsEarly p → IsNextInOpening (done_of p) (wants (sit_of p)) begun
early-next Nothing begun h = record { dimension = 1; next = Amb; others = Dimension 1 ∷ []; whole = refl; role_is = refl }
early-next Named begun h = record { dimension = 1; next = Dimension 1; others = []; whole = refl; role_is = refl }
early-next (Between d es) begun h = absurd h
early-next (Awaiting d es k) begun h = absurd h
early-next (Filling d es k n rows row) begun h = absurd h

at-opening : (p : Progress) (a gap begun y : List ℕ) (s : Symbol) → BehindOpening p a → IsGap gap → IsApart (done_of p) gap → role_of s ≡ wants (sit_of p) → Spells s (begun ++ y) → IsSolid begun → EndsAtOpening (a ++ (gap ++ begun)) (AtPiece (wants (sit_of p)) begun)
at-opening p a gap begun y s h g apart e spells solid =
    (done_of p, early-next p begun h.1, precedes Gap (done_of p) a gap begun h.0.covers (inl refl) g (apart-is (done_of p) gap apart), solid)

pub openings : Grammar StartsOpening EndsAtOpening BehindOpening
openings = record {
  no_text = no-opening;
  begins_gap = λ p a gap h g. text-opens (a ++ gap) (prefix-gap p a gap h.0 g);
  begins_piece = λ p a gap begun y s h g apart e spells. text-opens (a ++ (gap ++ begun)) (prefix-piece p a gap begun y s h.0 g apart e spells);
  at_piece = at-opening;
  at_open = λ p a gap comment h g o. ends-open p a gap comment h.0 g o;
}
