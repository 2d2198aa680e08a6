-- What a step finds, in the words of the grammar.
use Rattle.std.proofs.Common.{◌≡◌, ℕ, zero, suc, ◌+◌, ◌-◌, ◌<◌, ◌≤◌, List, [], ◌∷◌, ◌++◌, length, take, drop, get_or, refl, sym, ap, subst, ◌∙◌, arith, inl, inr}
use Rattle.std.proofs.lemmas.List.{append-nil, length-append, length-drop, take_at, take-append-drop, drop-drop}
use Rattle.std.proofs.lemmas.Bool.Decides.{eqb_tells}
use Rattle.std.proofs.Math.Seq.{drop-cons}
use Rattle.nz_text.specs.declared.pieces.Mode.TheVariants.{Outside, Inside}
use Rattle.nz_text.specs.declared.found.Found.{Found}
use Rattle.nz_text.specs.declared.found.Found.TheVariants.{Piece, End, Bad}
use Rattle.nz_text.specs.declared.found.TextFault.TheVariants as text_fault
use Rattle.nz_text.specs.Bytes.{NoClose, IsGap, IsSolid, IsOpenComment, IsHanging}
use Rattle.nz_text.specs.Skip.{Skipped, Reaches, Opens, skip, Finds}
use Rattle.nz_text.specs.Pieces.{IsStep}
use Rattle.nz_text.proofs.Gaps.{says-skip, Says, IsPassed, skip-gap, skip-nil, skip-solid, skip-foreign, skip-begin}

passed : (t tail : List ℕ) → skip Outside t ≡ Reaches tail → IsPassed t tail
passed t tail e = (subst (λ (r : Skipped). Says Outside t r) e (says-skip t Outside)).0

-- the gap up to a place
gap-to : (text : List ℕ) (from at : ℕ) → from ≤ length text → at ≤ length text → skip Outside (drop from text) ≡ Reaches (drop at text) → (from ≤ at) × IsGap (take (at - from) (drop from text))
gap-to text from at hf ha e =
    let p = passed (drop from text) (drop at text) e in
    let len : length (drop from text) ≡ length p.gap + length (drop at text) = ap length p.whole ∙ length-append p.gap (drop at text) in
    let lf = length-drop from text in
    let la = length-drop at text in
    let gl : length p.gap ≡ at - from = omega arith in
    (omega arith, subst IsGap (sym (ap (take (at - from)) p.whole ∙ take_at p.gap (drop at text) (at - from) gl)) p.is_gap)

pub is-step : (text : List ℕ) (from : ℕ) (found : Found) → from ≤ length text → Finds text from found → IsStep text from found
is-step text from (Piece span) h f = let g = gap-to text from span.start h (omega (arith, f.0, f.1)) f.2 in (g.0, f.0, f.1, g.1, f.3, f.4)
is-step text from End h f = let p = passed (drop from text) [] f in rw (p.whole, append-nil) p.is_gap
is-step text from (Bad at text_fault.Byte) h f = let g = gap-to text from at h (omega (arith, f.0)) f.1 in (g.0, f.0, g.1, f.2)
is-step text from (Bad at text_fault.OpenComment) h f =
    elim (subst (λ (r : Skipped). Says Outside (drop from text) r) f.1 (says-skip (drop from text) Outside)) [
      | inl o ↦ (f.0, o.2.gap, o.0, o.2.is_gap, o.1, o.2.whole)
      | inr o ↦ absurd o
    ]

-- ---- and back

-- a gap up to a place is passed
past-gap : (text : List ℕ) (from at : ℕ) → from ≤ at → IsGap (take (at - from) (drop from text)) → skip Outside (drop from text) ≡ skip Outside (drop at text)
past-gap text from at le g =
    let behind : drop (at - from) (drop from text) ≡ drop at text = grind (arith, drop-drop) in
    let whole : drop from text ≡ take (at - from) (drop from text) ++ drop at text = sym (take-append-drop (at - from) (drop from text)) ∙ ap (λ (x : List ℕ). take (at - from) (drop from text) ++ x) behind in
    ap (skip Outside) whole ∙ skip-gap (take (at - from) (drop from text)) (drop at text) g

reach-run : (t : List ℕ) (n : ℕ) → 0 < n → n ≤ length t → IsSolid (take n t) → skip Outside t ≡ Reaches t
reach-run [] n lt le h = skip-nil
reach-run (b ∷ t) zero lt le h = absurd (omega arith)
reach-run (b ∷ t) (suc n) lt le h = skip-solid b t h.0

pub open-inside : (body : List ℕ) → NoClose body → skip Inside body ≡ Opens []
open-inside body h = by-says (skip Inside body) (says-skip body Inside)
  where
    by-says : (r : Skipped) → Says Inside body r → r ≡ Opens []
    by-says (Reaches rest) p = absurd (h p.0.body (p.0.gap ++ rest) p.0.whole)
    by-says (Opens rest) (inl o) = absurd (h o.2.body (o.2.gap ++ (o.0 ++ rest)) o.2.whole)
    by-says (Opens rest) (inr o) = ap Opens o.1

-- a comment that is not closed opens
pub open-opens : (comment : List ℕ) → IsOpenComment comment → skip Outside comment ≡ Opens []
unfolding skip
open-opens [] h = absurd h
open-opens (a ∷ []) h = rw h refl
open-opens (a ∷ b ∷ body) h = rw (h.0, h.1) (skip-begin body ∙ open-inside body h.2)

pub hanging-opens : (comment rest : List ℕ) → IsHanging comment rest → skip Outside (comment ++ rest) ≡ Opens rest
unfolding skip
hanging-opens comment [] h = rw append-nil (open-opens comment h)
hanging-opens comment (b ∷ rest) h = elim (eqb_tells b 42) [
  | inl hit ↦ absurd (h.1 hit.1)
  | inr miss ↦ rw (h.0, miss.0) refl
]

pub finds : (text : List ℕ) (from : ℕ) (found : Found) → from ≤ length text → IsStep text from found → Finds text from found
finds text from (Piece span) h s =
    (s.1, s.2, past-gap text from span.start s.0 s.3 ∙ reach-run (drop span.start text) (span.end - span.start) (omega (arith, s.1)) (omega (arith, s.2, length-drop span.start text)) s.4, s.4, s.5)
finds text from End h s = let passed : skip Outside (drop from text ++ []) ≡ skip Outside [] = skip-gap (drop from text) [] s in rw append-nil at passed ∙ skip-nil
finds text from (Bad at text_fault.Byte) h s =
    let same : drop at text ≡ get_or text at 0 ∷ drop (suc at) text = drop-cons text at 0 s.1 in
    (s.1, past-gap text from at s.0 s.2 ∙ ap (skip Outside) same ∙ skip-foreign (get_or text at 0) (drop (suc at) text) s.3 ∙ ap Reaches (sym same), s.3)
finds text from (Bad at text_fault.OpenComment) h (le, gap, comment, is_gap, hangs, whole) =
    (le, ap (skip Outside) whole ∙ skip-gap gap (comment ++ drop at text) is_gap ∙ hanging-opens comment (drop at text) hangs)
