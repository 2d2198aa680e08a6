-- Where a front part of a text ends.
use Rattle.std.proofs.Common.{◌≡◌, ◌≢◌, ℕ, List, [], ◌∷◌, ◌++◌, refl, sym, ap, subst, ◌∙◌, append_assoc, inl, inr, ◌⊎◌}
use Rattle.std.proofs.lemmas.List.{append-nil}
use Rattle.nz_vec.specs.Texts.{Text}
use Rattle.nz_text.specs.Bytes.{IsGap, IsOpenComment}
use Rattle.nz_input.specs.declared.symbol.Symbol.{Symbol}
use Rattle.nz_input.specs.Texts.{Lays as PlainLays}
use Rattle.nz_input.specs.Layouts.{Separator, Gap, Break, Parts, PrecedesPast}
use Rattle.nz_input.proofs.Laying.{parts-gap}
use Rattle.nz_input.proofs.Cutting.{OpenAt, Within, Beyond, split-at, cut as plain-cut, Cut as PlainCut, InGap as PlainGap, InOpen as PlainOpen, InPiece as PlainPiece}
use Rattle.nz_symbolic.specs.declared.symbol.Slot.{Slot}
use Rattle.nz_symbolic.specs.Symbols.{Spells}
use Rattle.nz_symbolic.specs.Texts.{behind, Lays}
use Rattle.nz_symbolic.specs.Refusals.{apart}

gap-cut : (t more : Text) → IsGap (t ++ more) → IsGap t ⊎ OpenAt t
gap-cut t more g = by (plain-cut Gap [] t more g)
  where
    whole : (done : List Symbol) (others : List Symbol) → [] ≡ done ++ others → (a : Text) → PlainLays Gap done a → IsGap a
    whole [] others e a h = h
    whole (s ∷ done) others e a h = absurd cc

    none : (done : List Symbol) (s : Symbol) (others : List Symbol) → [] ≡ done ++ s ∷ others → ⊥
    none [] s others e = cc
    none (r ∷ done) s others e = cc

    by : PlainCut Gap [] t → IsGap t ⊎ OpenAt t
    by (PlainGap done others e laid) = inl (whole done others e t laid)
    by (PlainOpen done others front comment e w laid o) = inr (record { front = front; comment = comment; whole = w; is_gap = whole done others e front laid; is_open = o })
    by (PlainPiece done others s begun y e p n spells) = absurd (none done s others e)

pub data Cut (before : Separator) (ss : List Slot) (t : Text) : Type 0 where
  InGap : (done others : List Slot) → ss ≡ done ++ others → Lays before done t → Cut before ss t
  InOpen : (done others : List Slot) (front comment : Text) → ss ≡ done ++ others → t ≡ front ++ comment → Lays before done front → IsOpenComment comment → Cut before ss t
  InPiece : (done others : List Slot) (s : Slot) (begun y : Text) → ss ≡ done ++ s ∷ others → PrecedesPast Spells behind apart before done t begun → begun ≢ [] → Spells s (begun ++ y) → Cut before ss t

precedes-front : (before : Separator) (s : Slot) (done : List Slot) (gap piece v t begun : Text) → t ≡ gap ++ (piece ++ v) → Parts before gap → Spells s piece → begun ≢ [] → PrecedesPast Spells behind apart (behind s) done v begun → PrecedesPast Spells behind apart before (s ∷ done) t begun
precedes-front before s done gap piece v t [] whole parts spells some h = absurd (some refl)
precedes-front before s [] gap piece v t (b ∷ begun) whole parts spells some h = (gap, piece, v, whole, parts, spells, h)
precedes-front before s (r ∷ done) gap piece v t (b ∷ begun) whole parts spells some h = (gap, piece, v, whole, parts, spells, h)

add-front : (before : Separator) (s : Slot) (ss : List Slot) (gap piece v t : Text) → t ≡ gap ++ (piece ++ v) → Parts before gap → Spells s piece → Cut (behind s) ss v → Cut before (s ∷ ss) t
add-front before s ss gap piece v t whole parts spells (InGap done others e laid) = InGap (s ∷ done) others (ap (λ (x : List Slot). s ∷ x) e) (gap, piece, v, whole, parts, spells, laid)
add-front before s ss gap piece v t whole parts spells (InOpen done others front comment e w laid o) =
    InOpen (s ∷ done) others (gap ++ (piece ++ front)) comment (ap (λ (x : List Slot). s ∷ x) e) (whole ∙ rw w (simp append_assoc)) (gap, piece, front, refl, parts, spells, laid) o
add-front before s ss gap piece v t whole parts spells (InPiece done others q begun y e p n sp) = InPiece (s ∷ done) others q begun y (ap (λ (x : List Slot). s ∷ x) e) (precedes-front before s done gap piece v t begun whole parts spells n p) n sp

-- in the first gap
cut-first : (before : Separator) (ss : List Slot) (t : Text) → IsGap t ⊎ OpenAt t → Cut before ss t
cut-first before ss t (inl g) = InGap [] ss refl g
cut-first before ss t (inr o) = InOpen [] ss o.front o.comment refl o.whole o.is_gap o.is_open

-- in the first piece
cut-piece : (before : Separator) (s : Slot) (ss : List Slot) (gap u y t : Text) → Parts before gap → t ≡ gap ++ u → Spells s (u ++ y) → Cut before (s ∷ ss) t
cut-piece before s ss gap [] y t parts e spells = InGap [] (s ∷ ss) refl (rw (e, append-nil) (parts-gap before gap parts))
cut-piece before s ss gap (b ∷ u) y t parts e spells = InPiece [] ss s (b ∷ u) y refl (gap, parts, e) (λ x. cc) spells

pub cut : (before : Separator) (ss : List Slot) (t more : Text) → Lays before ss (t ++ more) → Cut before ss t
cut before [] t more g = cut-first before [] t (gap-cut t more g)
cut before (s ∷ ss) t more (gap, piece, rest, whole, parts, spells, others) = elim (split-at t more gap (piece ++ rest) whole) [
  | Within x e ↦ cut-first before (s ∷ ss) t (gap-cut t x (subst IsGap e (parts-gap before gap parts)))
  | Beyond u e q ↦ elim (split-at u more piece rest q) [
    | Within y w ↦ cut-piece before s ss gap u y t parts e (subst (Spells s) w spells)
    | Beyond v w r ↦ add-front before s ss gap piece v t (rw (e, w) refl) parts spells (cut (behind s) ss v more (subst (Lays (behind s) ss) (sym r) others))
  ]
]
