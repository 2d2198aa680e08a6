-- The lists of a row, and of all rows after the first ones.
use Rattle.std.proofs.Common.{◌≡◌, ℕ, suc, ◌+◌, ◌-◌, ◌<◌, ◌≤◌, true, false, List, [], ◌∷◌, ◌++◌, length, map, codes, refl, sym, ap, ◌∙◌, subst, append_assoc, length-append, arith, Ok, Err}
use Rattle.std.specs.List.{AllByRecursion as Each}
use Rattle.nz_spec.specs.Vectors.{Vector}
use Rattle.nz_further.specs.Certificates.{AreHeld}
use Rattle.nz_further.specs.CertificateTexts.{Bytes, Word, Name, Count, entries, list_words, stage_words}
use Rattle.nz_cert.specs.declared.refusal.CertTextRefusal.{CertTextRefusal}
use Rattle.nz_cert.specs.declared.refusal.CertTextRefusal.TheVariants.{Bad}
use Rattle.nz_cert.specs.declared.stages.Sides.{Sides}
use Rattle.nz_cert.specs.declared.stages.Stages.{Stages}
use Rattle.nz_cert.specs.Words.{IsRead}
use Rattle.nz_cert.specs.Readings.{IsReading}
use Rattle.nz_cert.specs.Fields.{AreSides, side_words, AreTaken, AreStages, two_sided_words}
use Rattle.nz_cert.proofs.ReadingLemmas.{read_join, read_split, name_step, taken_step, taken_missing, laid_from, AreSoMany, AreParts, parts_start, parts_more, parts_refused, parts_end, reading_only, converted, converted_refusal}
use Rattle.nz_cert.proofs.ListLemmas.{counted}

-- what stands behind the number of the row
behind_number : (k : ℕ) (before named numbered rest : List Bytes) (s : Sides) → before ≡ codes "stage" ∷ named → AreTaken (Count k ∷ []) named numbered true → IsRead (side_words k s) before rest
    → IsRead (counted s.plus ++ list_words (codes "reversed") s.minus) numbered rest
behind_number k before named numbered rest s e t r =
    taken_step (Count k) (counted s.plus ++ list_words (codes "reversed") s.minus) named numbered rest t
    (name_step (codes "stage") (codes "stage") (Count k ∷ (counted s.plus ++ list_words (codes "reversed") s.minus)) before named rest e r)

pub sides_missing : (w k : ℕ) (before named numbered after : List Bytes) → before ≡ codes "stage" ∷ named → AreTaken (Count k ∷ []) named numbered false → IsReading (AreSides w) (side_words k) before after (Err Bad)
sides_missing w k before named numbered after e t = record {
  sound = tt;
  whole = λ s rest f r.
      let behind = counted s.plus ++ list_words (codes "reversed") s.minus in
      absurd (taken_missing (Count k) behind named numbered rest t (name_step (codes "stage") (codes "stage") (Count k ∷ behind) before named rest e r));
}

pub sides_first : (w k : ℕ) (before named numbered listed after : List Bytes) (x : CertTextRefusal) → before ≡ codes "stage" ∷ named → AreTaken (Count k ∷ []) named numbered true
    → IsReading (AreHeld w) counted numbered listed (Err x) → IsReading (AreSides w) (side_words k) before after (Err x)
sides_first w k before named numbered listed after x e t h = record {
  sound = tt;
  whole = λ s rest f r.
      let p = read_split (counted s.plus) (list_words (codes "reversed") s.minus) numbered rest (behind_number k before named numbered rest s e t r) in
      h.whole s.plus p.mid f.0 p.first;
}

pub sides_second : (w k : ℕ) (before named numbered listed after behind : List Bytes) (plus : List Vector) (x : CertTextRefusal) → before ≡ codes "stage" ∷ named → AreTaken (Count k ∷ []) named numbered true
    → IsReading (AreHeld w) counted numbered listed (Ok plus) → IsReading (AreHeld w) (list_words (codes "reversed")) listed behind (Err x) → IsReading (AreSides w) (side_words k) before after (Err x)
sides_second w k before named numbered listed after behind plus x e t h g = record {
  sound = tt;
  whole = λ s rest f r.
      let p = read_split (counted s.plus) (list_words (codes "reversed") s.minus) numbered rest (behind_number k before named numbered rest s e t r) in
      let q = h.whole s.plus p.mid f.0 p.first in
      g.whole s.minus rest f.1 (subst (λ (m : List Bytes). IsRead (list_words (codes "reversed") s.minus) m rest) (sym q.1) p.second);
}

pub sides_read : (w k : ℕ) (before named numbered listed after : List Bytes) (plus minus : List Vector) → before ≡ codes "stage" ∷ named → AreTaken (Count k ∷ []) named numbered true
    → IsReading (AreHeld w) counted numbered listed (Ok plus) → IsReading (AreHeld w) (list_words (codes "reversed")) listed after (Ok minus) → IsReading (AreSides w) (side_words k) before after (Ok (record { plus = plus; minus = minus }))
sides_read w k before named numbered listed after plus minus e t h g = record {
  sound = (
    (h.sound.0, g.sound.0),
    subst (λ (b : List Bytes). IsRead (side_words k (record { plus = plus; minus = minus })) b after) (sym e)
        (refl, read_join (Count k ∷ []) (counted plus ++ list_words (codes "reversed") minus) named numbered after t.taken (read_join (counted plus) (list_words (codes "reversed") minus) numbered listed after h.sound.1 g.sound.1)),
  );
  whole = λ s rest f r.
      let p = read_split (counted s.plus) (list_words (codes "reversed") s.minus) numbered rest (behind_number k before named numbered rest s e t r) in
      let q = h.whole s.plus p.mid f.0 p.first in
      let m = g.whole s.minus rest f.1 (subst (λ (m : List Bytes). IsRead (list_words (codes "reversed") s.minus) m rest) (sym q.1) p.second) in
      ((λ i. record { plus = q.0 i; minus = m.0 i }), m.1);
}

-- ---- all rows after the first ones
abbrev pub plus_of : Sides → List Vector
plus_of s = s.plus

abbrev pub minus_of : Sides → List Vector
minus_of s = s.minus

abbrev both : (above beneath : List (List Vector)) → List Sides
both [] beneath = []
both (a ∷ above) [] = []
both (a ∷ above) (b ∷ beneath) = record { plus = a; minus = b } ∷ both above beneath

both_plus : (above beneath : List (List Vector)) → length above ≡ length beneath → map plus_of (both above beneath) ≡ above
both_plus [] beneath l = refl
both_plus (a ∷ above) [] l = absurd (let f : ⊥ = omega (arith, l) in f)
both_plus (a ∷ above) (b ∷ beneath) l = ap (λ (xs : List (List Vector)). a ∷ xs) (both_plus above beneath (omega (arith, l)))

both_minus : (above beneath : List (List Vector)) → length above ≡ length beneath → map minus_of (both above beneath) ≡ beneath
both_minus [] [] l = refl
both_minus [] (b ∷ beneath) l = absurd (let f : ⊥ = omega (arith, l) in f)
both_minus (a ∷ above) [] l = absurd (let f : ⊥ = omega (arith, l) in f)
both_minus (a ∷ above) (b ∷ beneath) l = ap (λ (xs : List (List Vector)). b ∷ xs) (both_minus above beneath (omega (arith, l)))

both_length : (above beneath : List (List Vector)) → length above ≡ length beneath → length (both above beneath) ≡ length above
both_length [] beneath l = refl
both_length (a ∷ above) [] l = absurd (let f : ⊥ = omega (arith, l) in f)
both_length (a ∷ above) (b ∷ beneath) l = ap suc (both_length above beneath (omega (arith, l)))

both_held : (w : ℕ) (above beneath : List (List Vector)) → Each (AreHeld w) above → Each (AreHeld w) beneath → Each (AreSides w) (both above beneath)
both_held w [] beneath h k = tt
both_held w (a ∷ above) [] h k = tt
both_held w (a ∷ above) (b ∷ beneath) h k = ((h.0, k.0), both_held w above beneath h.1 k.1)

both_of : (items : List Sides) → both (map plus_of items) (map minus_of items) ≡ items
both_of [] = refl
both_of (s ∷ items) = ap (λ (xs : List Sides). s ∷ xs) (both_of items)

each_plus : (w : ℕ) (items : List Sides) → Each (AreSides w) items → Each (AreHeld w) (map plus_of items)
each_plus w [] h = tt
each_plus w (s ∷ items) h = (h.0.0, each_plus w items h.1)

each_minus : (w : ℕ) (items : List Sides) → Each (AreSides w) items → Each (AreHeld w) (map minus_of items)
each_minus w [] h = tt
each_minus w (s ∷ items) h = (h.0.1, each_minus w items h.1)

length-map : {A B : Type 0} (f : A → B) (xs : List A) → length (map f xs) ≡ length xs
length-map f [] = refl
length-map f (x ∷ xs) = ap suc (length-map f xs)

-- the words of the stages, row by row
laid_sides : (k : ℕ) (above beneath : List (List Vector)) → length above ≡ length beneath → stage_words k above beneath ≡ laid_from side_words k (both above beneath)
laid_sides k [] beneath l = refl
laid_sides k (a ∷ above) [] l = absurd (let f : ⊥ = omega (arith, l) in f)
laid_sides k (a ∷ above) (b ∷ beneath) l =
    let more = laid_sides (suc k) above beneath (omega (arith, l)) in
    let front : List Word = Name (codes "stage") ∷ Count k ∷ Count (length a) ∷ [] in
    ap (λ (ws : List Word). front ++ (entries a ++ (list_words (codes "reversed") b ++ ws))) more
    ∙ ap (λ (ws : List Word). front ++ ws) (sym (append_assoc (entries a) (list_words (codes "reversed") b) (laid_from side_words (suc k) (both above beneath))))

-- the stages that are asked for, as a list of the lists of each row
stages_as : (w rank rows : ℕ) (s : Stages) → AreStages w rank rows s → AreSoMany (AreSides w) (rows - rank) (both s.plus s.minus) × (two_sided_words rank s ≡ laid_from side_words (suc rank) (both s.plus s.minus))
stages_as w rank rows s h =
    let a = h.as_many_above in
    let b = h.as_many_beneath in
    let same : length s.plus ≡ length s.minus = omega (arith, a, b) in
    let l = both_length s.plus s.minus same in
    ((omega (arith, l, a), both_held w s.plus s.minus h.above h.beneath), laid_sides (suc rank) s.plus s.minus same)

pub stages_refused : (w rank rows : ℕ) (before mid after : List Bytes) (x : CertTextRefusal) → IsReading (AreSoMany (AreSides w) (rows - rank)) (laid_from side_words (suc rank)) before mid (Err x) → IsReading (AreStages w rank rows) (two_sided_words rank) before after (Err x)
stages_refused w rank rows before mid after x h =
    converted_refusal (AreSoMany (AreSides w) (rows - rank)) (AreStages w rank rows) (laid_from side_words (suc rank)) (two_sided_words rank) before after mid x (λ s. both s.plus s.minus) (stages_as w rank rows) h

pub stages_read : (w rank rows : ℕ) (before after : List Bytes) (items : List Sides) (plus minus : List (List Vector)) → rank ≤ rows → plus ≡ map plus_of items → minus ≡ map minus_of items
    → IsReading (AreSoMany (AreSides w) (rows - rank)) (laid_from side_words (suc rank)) before after (Ok items) → IsReading (AreStages w rank rows) (two_sided_words rank) before after (Ok (record { plus = plus; minus = minus }))
stages_read w rank rows before after items plus minus l p m h =
    let q = length-map plus_of items in
    let r = length-map minus_of items in
    let n = h.sound.0.0 in
    let made : Stages = record { plus = map plus_of items; minus = map minus_of items } in
    let fits : AreStages w rank rows made = record {
      as_many_above = omega (arith, l, n, q);
      as_many_beneath = omega (arith, l, n, r);
      above = each_plus w items h.sound.0.1;
      beneath = each_minus w items h.sound.0.1;
    } in
    let spelled : two_sided_words rank made ≡ laid_from side_words (suc rank) items = laid_sides (suc rank) (map plus_of items) (map minus_of items) (q ∙ sym r) ∙ ap (laid_from side_words (suc rank)) (both_of items) in
    let back : (s : Stages) → AreStages w rank rows s → items ≡ both s.plus s.minus → made ≡ s = λ s f e.
    let a = f.as_many_above in
    let b = f.as_many_beneath in
    let same : length s.plus ≡ length s.minus = omega (arith, a, b) in
    let x = ap (map plus_of) e ∙ both_plus s.plus s.minus same in
    let y = ap (map minus_of) e ∙ both_minus s.plus s.minus same in
    (λ i. record { plus = x i; minus = y i })
    in
    let read = converted (AreSoMany (AreSides w) (rows - rank)) (AreStages w rank rows) (laid_from side_words (suc rank)) (two_sided_words rank) before after items made (λ s. both s.plus s.minus) (stages_as w rank rows) fits spelled back h in
    subst (λ (s : Stages). IsReading (AreStages w rank rows) (two_sided_words rank) before after (Ok s)) (λ i. record { plus = sym p i; minus = sym m i }) read

-- the lists of the rows so far, plus and minus apart
pub record AreSidesSoFar (w rank earlier : ℕ) (before now : List Bytes) (plus minus : List (List Vector)) : Type 0 where
  pub items : List Sides
  pub parts : AreParts (AreSides w) side_words (suc rank) before now items
  pub many : rank + length items ≡ earlier
  pub plus_is : plus ≡ map plus_of items
  pub minus_is : minus ≡ map minus_of items

pub sides_start : (w rank : ℕ) (before : List Bytes) (plus minus : List (List Vector)) → plus ≡ [] → minus ≡ [] → AreSidesSoFar w rank rank before before plus minus
sides_start w rank before plus minus p m = record { items = []; parts = parts_start (AreSides w) side_words (suc rank) before; many = omega arith; plus_is = p; minus_is = m }

map_one_more : {A B : Type 0} (f : A → B) (xs : List A) (x : A) → map f (xs ++ x ∷ []) ≡ map f xs ++ f x ∷ []
map_one_more f [] x = refl
map_one_more f (y ∷ xs) x = ap (λ (ys : List _). f y ∷ ys) (map_one_more f xs x)

pub sides_more : (w rank earlier : ℕ) (before now after : List Bytes) (plus minus plus' minus' : List (List Vector)) (s : Sides) → AreSidesSoFar w rank earlier before now plus minus
    → IsReading (AreSides w) (side_words (earlier + 1)) now after (Ok s) → plus' ≡ plus ++ s.plus ∷ [] → minus' ≡ minus ++ s.minus ∷ [] → AreSidesSoFar w rank (earlier + 1) before after plus' minus'
sides_more w rank earlier before now after plus minus plus' minus' s h r p m =
    let l = h.many in
    let number : earlier + 1 ≡ suc rank + length h.items = omega (arith, l) in
    let n = length-append h.items (s ∷ []) in
    record {
      items = h.items ++ s ∷ [];
      parts = parts_more (AreSides w) side_words (suc rank) before now after h.items (h.items ++ s ∷ []) s h.parts
          (reading_only (AreSides w) (side_words (suc rank + length h.items)) now after s (subst (λ (k : ℕ). IsReading (AreSides w) (side_words k) now after (Ok s)) number r)) refl;
      many = omega (arith, l, n);
      plus_is = p ∙ ap (λ (xs : List (List Vector)). xs ++ s.plus ∷ []) h.plus_is ∙ sym (map_one_more plus_of h.items s);
      minus_is = m ∙ ap (λ (xs : List (List Vector)). xs ++ s.minus ∷ []) h.minus_is ∙ sym (map_one_more minus_of h.items s);
    }

pub sides_refused : (w rank rows earlier : ℕ) (before now mid after : List Bytes) (plus minus : List (List Vector)) (x : CertTextRefusal) → earlier < rows → AreSidesSoFar w rank earlier before now plus minus
    → IsReading (AreSides w) (side_words (earlier + 1)) now mid (Err x) → IsReading (AreStages w rank rows) (two_sided_words rank) before after (Err x)
sides_refused w rank rows earlier before now mid after plus minus x l h r =
    let m = h.many in
    let number : earlier + 1 ≡ suc rank + length h.items = omega (arith, m) in
    stages_refused w rank rows before mid after x (parts_refused (AreSides w) side_words (suc rank) before now mid mid h.items (rows - rank) x h.parts (omega (arith, l, m)) (subst (λ (k : ℕ). IsReading (AreSides w) (side_words k) now mid (Err x)) number r))

pub sides_end : (w rank rows earlier : ℕ) (before now : List Bytes) (plus minus : List (List Vector)) → rank ≤ rows → rows ≤ earlier → earlier ≤ rows → AreSidesSoFar w rank earlier before now plus minus
    → IsReading (AreStages w rank rows) (two_sided_words rank) before now (Ok (record { plus = plus; minus = minus }))
sides_end w rank rows earlier before now plus minus l a b h =
    let m = h.many in
    stages_read w rank rows before now h.items plus minus l h.plus_is h.minus_is (parts_end (AreSides w) side_words (suc rank) before now h.items (rows - rank) h.parts (omega (arith, a, b, m)))
