-- Pieces written one after another.
use Rattle.std.proofs.Common.{◌≡◌, ℕ, zero, suc, ◌+◌, ◌<◌, [], ◌∷◌, ◌++◌, length, take, drop, get_or, ℤ, pos, refl, sym, ap, ◌∙◌, subst, append_assoc, Option, Some, None, Bool, true, false}
use Rattle.std.proofs.lemmas.List.{append-nil, take_more, take-append-drop}
use Rattle.std.proofs.lemmas.Grind.{flat_map-append}
use Rattle.std.specs.List.{flat_map}
use Rattle.std.specs.Fmt.{signed_decimal}
use Rattle.std.proofs.Math.Seq.{take-append-add}
use Rattle.nz_vec.specs.Texts.{Text}
use Rattle.nz_edge.specs.Folders.{BothTold}
use Rattle.nz_edge.specs.Answers.{PutAll}
use Rattle.std.specs.Prelude.{codes, decimal}
use Rattle.nz_blocks.specs.Lines.{line}
use Rattle.nz_spec.specs.Vectors.{Vector}
use Rattle.nz_run.specs.Statuses.{place_line, after_spaces}
use Rattle.nz_run.specs.Summaries.{counted_line}

-- the first piece was taken whole, and then the second, or some first bytes of it
pub then_more : (a b : Text) (r : Bool) (o m n : Option Text) → BothTold o m (λ old new. PutAll old new a true) → BothTold m n (λ old new. PutAll old new b r) → BothTold o n (λ old new. PutAll old new (a ++ b) r)
then_more a b r None None None h k = tt
then_more a b r None None (Some z) h k = k
then_more a b r None (Some y) n h k = absurd h
then_more a b r (Some x) None n h k = absurd h
then_more a b r (Some x) (Some y) None h k = k
then_more a b r (Some x) (Some y) (Some z) h k = go r k
  where
    go : (r : Bool) → PutAll y z b r → PutAll x z (a ++ b) r
    go true k = k ∙ ap (λ (t : Text). t ++ b) h ∙ append_assoc x a b
    go false k = (length a + k.0, k.1 ∙ ap (λ (t : Text). t ++ take k.0 b) h ∙ append_assoc x a (take k.0 b) ∙ ap (λ (t : Text). x ++ t) (sym (take-append-add a b k.0)))

cut : (a b : Text) (n : ℕ) → (k : ℕ) × (take n a ≡ take k (a ++ b))
cut [] b n = (0, none n b)
  where
    none : (n : ℕ) (b : Text) → take n [] ≡ take 0 b
    none zero [] = refl
    none zero (c ∷ b) = refl
    none (suc n) [] = refl
    none (suc n) (c ∷ b) = refl
cut (c ∷ a) b zero = (0, refl)
cut (c ∷ a) b (suc n) = (let r = cut a b n in (suc r.0, ap (λ (t : Text). c ∷ t) r.1))

-- of the first piece some first bytes were taken
pub stopped : (a b : Text) (o m : Option Text) → BothTold o m (λ old new. PutAll old new a false) → BothTold o m (λ old new. PutAll old new (a ++ b) false)
stopped a b None None h = tt
stopped a b None (Some y) h = h
stopped a b (Some x) None h = h
stopped a b (Some x) (Some y) h = (let c = cut a b h.0 in (c.0, h.1 ∙ ap (λ (t : Text). x ++ t) c.1))

-- the same bytes
pub put_same : (a b : Text) (r : Bool) (o m : Option Text) → a ≡ b → BothTold o m (λ old new. PutAll old new a r) → BothTold o m (λ old new. PutAll old new b r)
put_same a b r o m e h = subst (λ (t : Text). BothTold o m (λ old new. PutAll old new t r)) e h

pub place_text : (first : Text) (m : ℕ) (second : Text) (n : ℕ) (fault : Text) → (first ++ decimal m) ++ ((second ++ decimal n) ++ line (codes ": " ++ fault)) ≡ place_line first m second n fault
place_text first m second n fault = simp append_assoc

pub counted_text : (n count : ℕ) (sum : Text) → (codes "made " ++ decimal n) ++ ((codes ": " ++ decimal count) ++ line (codes " elements, sum " ++ sum)) ≡ counted_line n count sum
counted_text n count sum = simp append_assoc

-- ---- entries after spaces

one_more : (v : Vector) (k : ℕ) → k < length v → after_spaces (take (k + 1) v) ≡ after_spaces (take k v) ++ (codes " " ++ signed_decimal (get_or v k (pos 0)))
one_more v k l =
    let one = λ (z : ℤ). codes " " ++ signed_decimal z in
    ap (flat_map one) (take_more v k (pos 0) l) ∙ flat_map-append one (take k v) (get_or v k (pos 0) ∷ []) ∙ ap (λ (t : Text). after_spaces (take k v) ++ t) (append-nil (one (get_or v k (pos 0))))

halves : (v : Vector) (k : ℕ) → after_spaces (take k v) ++ after_spaces (drop k v) ≡ after_spaces v
halves v k = sym (flat_map-append (λ (z : ℤ). codes " " ++ signed_decimal z) (take k v) (drop k v)) ∙ ap after_spaces (take-append-drop k v)

-- an entry more was written
pub entry_more : (v : Vector) (k : ℕ) (z : ℤ) (o m n : Option Text) → k < length v → z ≡ get_or v k (pos 0) → BothTold o m (λ old new. PutAll old new (after_spaces (take k v)) true) → BothTold m n (λ old new. PutAll old new (codes " " ++ signed_decimal z) true) → BothTold o n (λ old new. PutAll old new (after_spaces (take (k + 1) v)) true)
entry_more v k z o m n l e h i =
    put_same (after_spaces (take k v) ++ (codes " " ++ signed_decimal z)) (after_spaces (take (k + 1) v)) true o n
    (ap (λ (y : ℤ). after_spaces (take k v) ++ (codes " " ++ signed_decimal y)) e ∙ sym (one_more v k l))
    (then_more (after_spaces (take k v)) (codes " " ++ signed_decimal z) true o m n h i)

-- of the next entry some first bytes were written
pub entry_stopped : (v : Vector) (k : ℕ) (z : ℤ) (o m n : Option Text) → k < length v → z ≡ get_or v k (pos 0) → BothTold o m (λ old new. PutAll old new (after_spaces (take k v)) true) → BothTold m n (λ old new. PutAll old new (codes " " ++ signed_decimal z) false) → BothTold o n (λ old new. PutAll old new (after_spaces v) false)
entry_stopped v k z o m n l e h i =
    put_same (after_spaces (take (k + 1) v) ++ after_spaces (drop (k + 1) v)) (after_spaces v) false o n (halves v (k + 1))
    (stopped (after_spaces (take (k + 1) v)) (after_spaces (drop (k + 1) v)) o n
    (put_same (after_spaces (take k v) ++ (codes " " ++ signed_decimal z)) (after_spaces (take (k + 1) v)) false o n
    (ap (λ (y : ℤ). after_spaces (take k v) ++ (codes " " ++ signed_decimal y)) e ∙ sym (one_more v k l))
    (then_more (after_spaces (take k v)) (codes " " ++ signed_decimal z) false o m n h i)))

-- nothing was written
pub nothing_put : (o : Option Text) → BothTold o o (λ old new. PutAll old new [] true)
nothing_put None = tt
nothing_put (Some t) = sym (append-nil t)
