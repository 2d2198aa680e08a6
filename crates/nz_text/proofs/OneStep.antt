-- What stands behind a place is one thing.
use Rattle.std.proofs.Common.{◌≡◌, ℕ, suc, ◌+◌, ◌-◌, ◌<◌, ◌≤◌, List, [], ◌∷◌, ◌++◌, length, take, drop, get_or, refl, sym, ap, subst, ◌∙◌, arith}
use Rattle.std.proofs.lemmas.List.{length-drop, take-append-drop, drop-drop}
use Rattle.std.proofs.Math.Seq.{drop-cons}
use Rattle.nz_text.specs.declared.pieces.Class.TheVariants.{Solid, Foreign}
use Rattle.nz_text.specs.declared.pieces.Mode.TheVariants.{Outside}
use Rattle.nz_text.specs.declared.found.Span.{Span}
use Rattle.nz_text.specs.declared.found.Found.{Found}
use Rattle.nz_text.specs.declared.found.Found.TheVariants.{Piece, End, Bad}
use Rattle.nz_text.specs.declared.found.TextFault.TheVariants.{Byte, OpenComment}
use Rattle.nz_text.specs.Bytes.{class_of, IsSolid, IsEdge}
use Rattle.nz_text.specs.Skip.{Skipped, Reaches, Opens, skip, Finds}
use Rattle.nz_text.specs.Pieces.{IsStep}
use Rattle.nz_text.proofs.Stepping.{finds}

-- two runs with an edge behind each
pub same-run : (p q a b : List ℕ) → IsSolid p → IsSolid q → IsEdge a → IsEdge b → p ++ a ≡ q ++ b → (p ≡ q) × (a ≡ b)
same-run [] [] a b hp hq ha hb e = (refl, e)
same-run [] (y ∷ q) [] b hp hq ha hb e = absurd cc
same-run [] (y ∷ q) (x ∷ a) b hp hq ha hb e = absurd (ha (let same : x ≡ y = cc in rw same (hq.0)))
same-run (x ∷ p) [] a [] hp hq ha hb e = absurd cc
same-run (x ∷ p) [] a (y ∷ b) hp hq ha hb e = absurd (hb (let same : y ≡ x = cc in rw same (hp.0)))
same-run (x ∷ p) (y ∷ q) a b hp hq ha hb e =
    let below = same-run p q a b hp.1 hq.1 ha hb cc in
    let same : x ≡ y = cc in
    (rw (same, below.0) refl, below.1)

-- the rest of a text says where it begins
same-place : (text : List ℕ) (a b : ℕ) → a ≤ length text → b ≤ length text → drop a text ≡ drop b text → a ≡ b
same-place text a b ha hb e = omega (arith, length-drop a text, length-drop b text, ap length e)

reach-same : (text : List ℕ) (a b : ℕ) (s : Skipped) → a ≤ length text → b ≤ length text → s ≡ Reaches (drop a text) → s ≡ Reaches (drop b text) → a ≡ b
reach-same text a b s ha hb e f = let both : Reaches (drop a text) ≡ Reaches (drop b text) = sym e ∙ f in same-place text a b ha hb cc

open-same : (text : List ℕ) (a b : ℕ) (s : Skipped) → a ≤ length text → b ≤ length text → s ≡ Opens (drop a text) → s ≡ Opens (drop b text) → a ≡ b
open-same text a b s ha hb e f = let both : Opens (drop a text) ≡ Opens (drop b text) = sym e ∙ f in same-place text a b ha hb cc

not-both : (t u : List ℕ) (s : Skipped) → s ≡ Reaches t → s ≡ Opens u → ⊥
not-both t u s e f = let bad : Reaches t ≡ Opens u = sym e ∙ f in cc

not-end : (text : List ℕ) (a : ℕ) (s : Skipped) → a < length text → s ≡ Reaches (drop a text) → s ≡ Reaches [] → ⊥
not-end text a s lt e f = let both : Reaches (drop a text) ≡ Reaches [] = sym e ∙ f in let none : drop a text ≡ [] = cc in let long : length (drop a text) ≡ 0 = ap length none in absurd (omega (arith, length-drop a text))

-- a run ends where it ends
same-end : (text : List ℕ) (start a b : ℕ) → start ≤ a → start ≤ b → a ≤ length text → b ≤ length text → IsSolid (take (a - start) (drop start text)) → IsSolid (take (b - start) (drop start text)) → IsEdge (drop a text) → IsEdge (drop b text) → a ≡ b
same-end text start a b la lb ha hb sa sb ea eb =
    let behind : (n : ℕ) → start ≤ n → drop (n - start) (drop start text) ≡ drop n text = λ n le. let sum : start + (n - start) ≡ n = omega arith in drop-drop (n - start) start text ∙ ap (λ (m : ℕ). drop m text) sum in
    let whole : (n : ℕ) → start ≤ n → take (n - start) (drop start text) ++ drop n text ≡ drop start text = λ n le. ap (λ (x : List ℕ). take (n - start) (drop start text) ++ x) (sym (behind n le)) ∙ take-append-drop (n - start) (drop start text) in
    let same = same-run (take (a - start) (drop start text)) (take (b - start) (drop start text)) (drop a text) (drop b text) sa sb ea eb (whole a la ∙ sym (whole b lb)) in
    same-place text a b ha hb same.1

solid-front : (text : List ℕ) (start end : ℕ) → start < end → end ≤ length text → IsSolid (take (end - start) (drop start text)) → class_of (get_or text start 0) ≡ Solid
solid-front text start end lt le h =
    let some : end - start ≡ suc (end - start - 1) = omega arith in
    let one : IsSolid (take (suc (end - start - 1)) (drop start text)) = subst (λ (n : ℕ). IsSolid (take n (drop start text))) some h in
    let both : IsSolid (take (suc (end - start - 1)) (get_or text start 0 ∷ drop (suc start) text)) = subst (λ (t : List ℕ). IsSolid (take (suc (end - start - 1)) t)) (drop-cons text start 0 (omega arith)) one in
    both.0

not-foreign : (text : List ℕ) (start end at : ℕ) → start < end → end ≤ length text → IsSolid (take (end - start) (drop start text)) → start ≡ at → class_of (get_or text at 0) ≡ Foreign → ⊥
not-foreign text start end at lt le h e f = let bad : Solid ≡ Foreign = sym (solid-front text start end lt le h) ∙ ap (λ (n : ℕ). class_of (get_or text n 0)) e ∙ f in cc

found-one : (text : List ℕ) (from : ℕ) (found other : Found) → Finds text from found → Finds text from other → found ≡ other
found-one text from (Piece s) (Piece t) a b =
    let starts : s.start ≡ t.start = reach-same text s.start t.start (skip Outside (drop from text)) (omega (arith, a.0, a.1)) (omega (arith, b.0, b.1)) a.2 b.2 in
    let ends : s.end ≡ t.end = same-end text s.start s.end t.end (omega (arith, a.0)) (omega (arith, b.0, starts)) a.1 b.1 a.3 (subst (λ (n : ℕ). IsSolid (take (t.end - n) (drop n text))) (sym starts) b.3) a.4 b.4 in
    ap Piece (same-span s t starts ends)
  where
    same-span : (s t : Span) → s.start ≡ t.start → s.end ≡ t.end → s ≡ t
    same-span s t e f = ap (λ (n : ℕ). record s { start = n }) e ∙ ap (λ (n : ℕ). record { start = t.start; end = n }) f
found-one text from (Piece s) End a b = absurd (not-end text s.start (skip Outside (drop from text)) (omega (arith, a.0, a.1)) a.2 b)
found-one text from End (Piece s) a b = absurd (not-end text s.start (skip Outside (drop from text)) (omega (arith, b.0, b.1)) b.2 a)
found-one text from End End a b = refl
found-one text from (Piece s) (Bad at Byte) a b = absurd (not-foreign text s.start s.end at a.0 a.1 a.3 (reach-same text s.start at (skip Outside (drop from text)) (omega (arith, a.0, a.1)) (omega (arith, b.0)) a.2 b.1) b.2)
found-one text from (Bad at Byte) (Piece s) a b = absurd (not-foreign text s.start s.end at b.0 b.1 b.3 (reach-same text s.start at (skip Outside (drop from text)) (omega (arith, b.0, b.1)) (omega (arith, a.0)) b.2 a.1) a.2)
found-one text from (Piece s) (Bad at OpenComment) a b = absurd (not-both (drop s.start text) (drop at text) (skip Outside (drop from text)) a.2 b.1)
found-one text from (Bad at OpenComment) (Piece s) a b = absurd (not-both (drop s.start text) (drop at text) (skip Outside (drop from text)) b.2 a.1)
found-one text from End (Bad at Byte) a b = absurd (not-end text at (skip Outside (drop from text)) b.0 b.1 a)
found-one text from (Bad at Byte) End a b = absurd (not-end text at (skip Outside (drop from text)) a.0 a.1 b)
found-one text from End (Bad at OpenComment) a b = absurd (not-both [] (drop at text) (skip Outside (drop from text)) a b.1)
found-one text from (Bad at OpenComment) End a b = absurd (not-both [] (drop at text) (skip Outside (drop from text)) b a.1)
found-one text from (Bad at Byte) (Bad other Byte) a b = ap (λ (n : ℕ). Bad n Byte) (reach-same text at other (skip Outside (drop from text)) (omega (arith, a.0)) (omega (arith, b.0)) a.1 b.1)
found-one text from (Bad at OpenComment) (Bad other OpenComment) a b = ap (λ (n : ℕ). Bad n OpenComment) (open-same text at other (skip Outside (drop from text)) a.0 b.0 a.1 b.1)
found-one text from (Bad at Byte) (Bad other OpenComment) a b = absurd (not-both (drop at text) (drop other text) (skip Outside (drop from text)) a.1 b.1)
found-one text from (Bad at OpenComment) (Bad other Byte) a b = absurd (not-both (drop other text) (drop at text) (skip Outside (drop from text)) b.1 a.1)

pub one-step : (text : List ℕ) (from : ℕ) (found other : Found) → from ≤ length text → IsStep text from found → IsStep text from other → found ≡ other
one-step text from found other h a b = found-one text from found other (finds text from found h a) (finds text from other h b)
