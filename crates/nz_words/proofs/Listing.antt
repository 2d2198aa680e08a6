-- The rows of parts, one after another.
use Rattle.std.proofs.Common.{◌≡◌, ◌∙◌, sym, subst, refl, List, [], ◌∷◌, ◌++◌, map, Bool, true, false, ◌||◌, None, codes}
use Rattle.std.specs.Str.{bytes_eq}
use Rattle.std.proofs.lemmas.Slice.Eq.{bytes_eq-Decides}
use Rattle.std.proofs.lemmas.List.{append-nil, append_assoc}
use Rattle.clap.specs.Walk.{Row, has_row, settled_rows}
use Rattle.nz_vec.specs.Texts.{Text}
use Rattle.nz_words.specs.Parts.{Part, Valued, Named, setting_word, label_of, given, NoneTwice}
use Rattle.nz_words.proofs.Walking.{filled, row_of, Pending, nothing, value_waits, name_waits, parts_of, pending_of, none_before, none_both, not_again, again_not, value_fault, value_rows, used_new}
use Rattle.nz_words.proofs.Steps.{settles}

pub row_more : (id : Text) (rows : List Row) (r : Row) → has_row id (rows ++ r ∷ []) ≡ (has_row id rows || bytes_eq r.id id)
row_more id [] r = go (bytes_eq r.id id)
  where
    go : (b : Bool) → (b || false) ≡ (false || b)
    go true = refl
    go false = refl
row_more id (x ∷ xs) r = go (bytes_eq x.id id) (row_more id xs r)
  where
    go : (b : Bool) → has_row id (xs ++ r ∷ []) ≡ (has_row id xs || bytes_eq r.id id) → (b || has_row id (xs ++ r ∷ [])) ≡ ((b || has_row id xs) || bytes_eq r.id id)
    go true e = refl
    go false e = e

-- no part has a label that has a row
abbrev pub Apart : List Row → List Part → Type 0
Apart rows parts = (id : Text) → has_row id rows ≡ true → given id parts ≡ None

-- the rows at the end are these rows and those of the parts, no label twice
pub record Listed (rows : List Row) (parts : List Part) (end : List Row) : Type 0 where
  pub once : NoneTwice parts
  pub apart : Apart rows parts
  pub rows_are : end ≡ rows ++ map row_of parts

pub listed_none : (rows end : List Row) → rows ≡ end → Listed rows [] end
listed_none rows end e = record { once = tt; apart = λ id h. refl; rows_are = sym (append-nil rows ∙ e) }

same_text : (a b : Text) → bytes_eq a b ≡ true → a ≡ b
same_text a b e = (bytes_eq-Decides a b).0 e

text_same : (a b : Text) → a ≡ b → bytes_eq a b ≡ true
text_same a b e = (bytes_eq-Decides a b).1 e

pub listed_more : (p : Part) (rows : List Row) (parts : List Part) (end : List Row) → has_row (label_of p) rows ≡ false → Listed (rows ++ row_of p ∷ []) parts end → Listed rows (p ∷ parts) end
listed_more p rows parts end new h = record {
  once = (h.apart (label_of p) (row_more (label_of p) rows (row_of p) ∙ rw (new, text_same (label_of p) (label_of p) refl) refl), h.once);
  apart = λ id has. go id has (bytes_eq (label_of p) id) refl;
  rows_are = h.rows_are ∙ append_assoc rows (row_of p ∷ []) (map row_of parts);
}
  where
    go : (id : Text) → has_row id rows ≡ true → (b : Bool) → bytes_eq (label_of p) id ≡ b → given id (p ∷ parts) ≡ None
    go id has true e = let e' = same_text (label_of p) id e in let bad : has_row (label_of p) rows ≡ true = rw e' has in absurd cc
    go id has false e = rw e (h.apart id (row_more id rows (row_of p) ∙ rw (has) refl))

pub listed_less : (p : Part) (rows : List Row) (parts : List Part) (end : List Row) → Listed rows (p ∷ parts) end → (has_row (label_of p) rows ≡ false) × Listed (rows ++ row_of p ∷ []) parts end
listed_less p rows parts end h = (
  fresh (has_row (label_of p) rows) refl,
  record {
    once = h.once.1;
    apart = λ id has. go id has (has_row id rows) refl (bytes_eq (label_of p) id) refl;
    rows_are = h.rows_are ∙ sym (append_assoc rows (row_of p ∷ []) (map row_of parts));
  },
)
  where
    fresh : (b : Bool) → has_row (label_of p) rows ≡ b → has_row (label_of p) rows ≡ false
    fresh false e = e
    fresh true e = let none = h.apart (label_of p) e in let some = rw (text_same (label_of p) (label_of p) refl) at none in absurd cc

    go : (id : Text) → has_row id (rows ++ row_of p ∷ []) ≡ true → (a : Bool) → has_row id rows ≡ a → (b : Bool) → bytes_eq (label_of p) id ≡ b → given id parts ≡ None
    go id has a ea true e = rw (← same_text (label_of p) id e) h.once.0
    go id has true ea false e = let none = h.apart id ea in let none' = rw e at none in none'
    go id has false ea false e = let both : (has_row id rows || bytes_eq (label_of p) id) ≡ true = sym (row_more id rows (row_of p)) ∙ has in let bad = rw (ea, e) at both in absurd cc

-- ---- what waits is one of the parts

pub release : (p : Pending) (rows : List Row) (parts : List Part) (end : List Row) → settles rows (pending_of p) ≡ [] → Listed (settled_rows filled (pending_of p) rows) parts end → Listed rows (parts_of p ++ parts) end
release nothing rows parts end e h = h
release (value_waits o v) rows parts end e h =
    let new = not_again (setting_word o) rows (none_before _ _ (sym (value_fault o v rows) ∙ e)) in
    let same : settled_rows filled (pending_of (value_waits o v)) rows ≡ rows ++ row_of (Valued o v) ∷ [] = value_rows o v rows ∙ used_new (Valued o v) rows new in
    listed_more (Valued o v) rows parts end new (subst (λ (x : List Row). Listed x parts end) same h)
release (name_waits n) rows parts end e h =
    let new = not_again (codes "PROJECT") rows (none_before _ _ e) in
    let same : settled_rows filled (pending_of (name_waits n)) rows ≡ rows ++ row_of (Named n) ∷ [] = used_new (Named n) rows new in
    listed_more (Named n) rows parts end new (subst (λ (x : List Row). Listed x parts end) same h)

pub catch : (p : Pending) (rows : List Row) (parts : List Part) (end : List Row) → Listed rows (parts_of p ++ parts) end → (settles rows (pending_of p) ≡ []) × Listed (settled_rows filled (pending_of p) rows) parts end
catch nothing rows parts end h = (refl, h)
catch (value_waits o v) rows parts end h =
    let less = listed_less (Valued o v) rows parts end h in
    let same : settled_rows filled (pending_of (value_waits o v)) rows ≡ rows ++ row_of (Valued o v) ∷ [] = value_rows o v rows ∙ used_new (Valued o v) rows less.0 in
    (value_fault o v rows ∙ none_both _ _ (again_not (setting_word o) rows less.0) refl, subst (λ (x : List Row). Listed x parts end) (sym same) less.1)
catch (name_waits n) rows parts end h =
    let less = listed_less (Named n) rows parts end h in
    let same : settled_rows filled (pending_of (name_waits n)) rows ≡ rows ++ row_of (Named n) ∷ [] = used_new (Named n) rows less.0 in
    (none_both _ _ (again_not (codes "PROJECT") rows less.0) refl, subst (λ (x : List Row). Listed x parts end) (sym same) less.1)
