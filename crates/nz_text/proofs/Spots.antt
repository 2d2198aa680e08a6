-- Places in a text.
use Rattle.std.proofs.Common.{◌≡◌, ◌≢◌, ℕ, zero, suc, ◌+◌, ◌-◌, ◌<◌, ◌≤◌, List, [], ◌∷◌, length, take, drop, get_or, refl, sym, subst, arith, inl, inr}
use Rattle.std.proofs.lemmas.List.{get_or-drop, length-drop}
use Rattle.std.proofs.lemmas.Bool.{cases_eq}
use Rattle.std.proofs.Math.Seq.{drop-cons}
use Rattle.nz_text.specs.declared.pieces.Class.TheVariants.{Solid, Foreign}
use Rattle.nz_text.specs.declared.pieces.Mode.{Mode}
use Rattle.nz_text.specs.declared.pieces.Mode.TheVariants.{Outside, Opening, Inside, Closing}
use Rattle.nz_text.specs.Bytes.{class_of, IsSolid, IsEdge}
use Rattle.nz_text.specs.Skip.{Skipped, Reaches, Opens, skip}
use Rattle.nz_text.proofs.Gaps.{says-skip, Says, IsStop}

solid-more : (t : List ℕ) (n : ℕ) → IsSolid (take n t) → n < length t → class_of (get_or t n 0) ≡ Solid → IsSolid (take (suc n) t)
solid-more [] n h lt e = absurd (omega arith)
solid-more (b ∷ t) zero h lt e = (e, tt)
solid-more (b ∷ t) (suc n) h lt e = (h.0, solid-more t n h.1 (omega arith) e)

pub solid-at : (text : List ℕ) (from at : ℕ) → IsSolid (take (at - from) (drop from text)) → from ≤ at → at < length text → class_of (get_or text at 0) ≡ Solid → IsSolid (take (at + 1 - from) (drop from text))
solid-at text from at h le lt e =
    let one : at + 1 - from ≡ suc (at - from) = omega arith in
    let same : from + (at - from) ≡ at = omega arith in
    let here : class_of (get_or (drop from text) (at - from) 0) ≡ Solid = rw (get_or-drop, same) e in
    rw one (solid-more (drop from text) (at - from) h (omega (arith, length-drop from text)) here)

pub skip-end : (m : Mode) → m ≢ Outside → skip m [] ≡ Opens []
unfolding skip
skip-end Outside h = absurd (h refl)
skip-end Opening h = refl
skip-end Inside h = refl
skip-end Closing h = refl

pub drop-all : (text : List ℕ) (at : ℕ) → length text ≤ at → drop at text ≡ []
drop-all [] zero h = refl
drop-all [] (suc at) h = refl
drop-all (b ∷ text) zero h = absurd (omega arith)
drop-all (b ∷ text) (suc at) h = drop-all text at (omega arith)

-- where a gap ends before the end, a solid or a foreign byte stands
pub stop-at : (t text : List ℕ) (at : ℕ) → skip Outside t ≡ Reaches (drop at text) → at < length text → class_of (get_or text at 0) ≢ Foreign → class_of (get_or text at 0) ≡ Solid
stop-at t text at e lt h =
    let stop : IsStop (drop at text) = (subst (λ (r : Skipped). Says Outside t r) e (says-skip t Outside)).1 in
    let same : drop at text ≡ get_or text at 0 ∷ drop (suc at) text = drop-cons text at 0 lt in
    elim (subst IsStop same stop) [ inl s ↦ s | inr f ↦ absurd (h f) ]

pub run-above : (text : List ℕ) (at end : ℕ) → IsEdge (drop end text) → at ≤ end → at < length text → class_of (get_or text at 0) ≡ Solid → at < end
run-above text at end edge le lt e = elim (cases_eq at end) [
  | inl same ↦ absurd (subst IsEdge (drop-cons text at 0 lt) (subst (λ (n : ℕ). IsEdge (drop n text)) (sym same) edge) e)
  | inr other ↦ omega arith
]
