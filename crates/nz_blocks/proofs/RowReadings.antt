-- Reading numbers, one by one.
use Rattle.std.proofs.Common.{◌≡◌, ℕ, zero, suc, ◌+◌, ◌-◌, ◌<◌, ◌≤◌, ℤ, Bool, List, [], ◌∷◌, ◌++◌, length, get_or, drop, take, take-append-drop, replicate, refl, sym, ap, subst, ◌∙◌, append_assoc, append-nil, arith, inl, inr, FitsSigned, length-append, eq-eqb, ne_eqb, if◌then◌else◌}
use Rattle.std.specs.Int.{w128}
use Rattle.std.proofs.lemmas.Bool.{cases_eq}
use Rattle.std.specs.Fmt.{signed_decimal}
use Rattle.std.specs.List.{AllByRecursion as Each, flat_map}
use Rattle.std.proofs.lemmas.List.{append_cancel_left}
use Rattle.nz_blocks.proofs.Laying.{take_more}
use Rattle.nz_vec.specs.Texts.{Text}
use Rattle.nz_spec.specs.Vectors.{Vector}
use Rattle.nz_blocks.specs.Beginnings.{First, IsDigit, IsOpening, LeadsNumber, unspaced}
use Rattle.nz_blocks.specs.Held.{IsHeldRow}
use Rattle.nz_blocks.specs.Columns.{cells, spaced}
use Rattle.nz_blocks.proofs.NumberTexts.{signed_first, no_space}
use Rattle.nz_blocks.proofs.RowTexts.{tail_of, tail_bare, cell_split}
use Rattle.nz_blocks.proofs.Readings.{unspaced_end, first_within, first_of, at_place}

-- numbers of a row have been read, others are still to come
pub record IsPart (here : Text) (width : ℕ → ℕ) (items r : Vector) (s : Text) : Type 0 where
  pub column : ℕ
  pub others : Vector
  pub held : IsHeldRow others
  pub split : r ≡ items ++ others
  pub is : here ≡ unspaced (tail_of width column others ++ s)

abbrev pub Reading : Text → Text → Vector → Type 0
Reading whole here items = (width : ℕ → ℕ) (r : Vector) (s : Text) → IsHeldRow r → ¬ LeadsNumber s → whole ≡ spaced (cells width 0 r) ++ s → IsPart here width items r s

tail_start : (width : ℕ → ℕ) (r : Vector) (s : Text) → unspaced (spaced (cells width 0 r) ++ s) ≡ unspaced (tail_of width 0 r ++ s)
tail_start width [] s = refl
tail_start width (a ∷ r) s = refl

pub part_start : (whole here : Text) (width : ℕ → ℕ) (r : Vector) (s : Text) → IsHeldRow r → whole ≡ spaced (cells width 0 r) ++ s → here ≡ unspaced whole → IsPart here width [] r s
part_start whole here width r s held e h = record { column = 0; others = r; held = held; split = refl; is = h ∙ ap unspaced e ∙ tail_start width r s }

unspaced_spaces : (k : ℕ) (t : Text) → unspaced (replicate k 32 ++ t) ≡ unspaced t
unspaced_spaces zero t = refl
unspaced_spaces (suc k) t = unspaced_spaces k t

unspaced_opening : (t : Text) → First IsOpening t → unspaced t ≡ t
unspaced_opening t h = unspaced_end t (no_space t h)

tail_next : (width : ℕ → ℕ) (j : ℕ) (b : ℤ) (q : Vector) (s : Text) → FitsSigned w128 b → unspaced (tail_of width j (b ∷ q) ++ s) ≡ signed_decimal b ++ (tail_of width (suc j) q ++ s)
tail_next width j b q s fits =
    ap unspaced (cell_split width j b q s)
    ∙ unspaced_spaces (width j - length (signed_decimal b)) (signed_decimal b ++ (tail_of width (suc j) q ++ s))
    ∙ unspaced_opening (signed_decimal b ++ (tail_of width (suc j) q ++ s)) (signed_first b (tail_of width (suc j) q ++ s) fits)

opening_leads : (s : Text) → First IsOpening (unspaced s) → LeadsNumber s
opening_leads [] h = h
opening_leads (b ∷ s) h = elim (cases_eq b 32) [
  | inl e ↦ inr (inr (e, opening_leads s (subst (First IsOpening) (ap (λ (t : Bool). if t then unspaced s else b ∷ s) (eq-eqb b 32 e)) h)))
  | inr n ↦ first_leads (subst (First IsOpening) (ap (λ (t : Bool). if t then unspaced s else b ∷ s) (ne_eqb b 32 n)) h)
]
  where
    first_leads : IsOpening b → LeadsNumber (b ∷ s)
    first_leads (inl d) = inl d
    first_leads (inr m) = inr (inl m)

-- the number that comes next
pub record HasNext (here : Text) (width : ℕ → ℕ) (items r : Vector) (s : Text) : Type 0 where
  pub number : ℤ
  pub column : ℕ
  pub others : Vector
  pub fits : FitsSigned w128 number
  pub held : IsHeldRow others
  pub split : r ≡ items ++ number ∷ others
  pub is : here ≡ signed_decimal number ++ (tail_of width column others ++ s)

next_of : (here : Text) (width : ℕ → ℕ) (items r : Vector) (s : Text) (j : ℕ) (q : Vector) → ¬ LeadsNumber s → IsHeldRow q → r ≡ items ++ q → here ≡ unspaced (tail_of width j q ++ s) → First IsOpening here → HasNext here width items r s
next_of here width items r s j [] u held split is h = absurd (u (opening_leads s (subst (First IsOpening) is h)))
next_of here width items r s j (b ∷ q) u held split is h = record { number = b; column = suc j; others = q; fits = held.0; held = held.1; split = split; is = is ∙ tail_next width j b q s held.0 }

pub part_next : (here : Text) (width : ℕ → ℕ) (items r : Vector) (s : Text) → ¬ LeadsNumber s → IsPart here width items r s → First IsOpening here → HasNext here width items r s
part_next here width items r s u p h = next_of here width items r s p.column p.others u p.held p.split p.is h

pub next_bare : (here : Text) (width : ℕ → ℕ) (items r : Vector) (s : Text) → ¬ LeadsNumber s → (n : HasNext here width items r s) → ¬ First IsDigit (tail_of width n.column n.others ++ s)
next_bare here width items r s u n = tail_bare width n.column n.others s u

pub part_more : (here : Text) (width : ℕ → ℕ) (items r more : Vector) (s : Text) (n : HasNext here width items r s) (read : ℤ) (behind after : Text) → read ≡ n.number → behind ≡ tail_of width n.column n.others ++ s → more ≡ items ++ read ∷ [] → after ≡ unspaced behind → IsPart after width more r s
part_more here width items r more s n read behind after e b m a = record {
  column = n.column;
  others = n.others;
  held = n.held;
  split = n.split ∙ sym (append_assoc items (n.number ∷ []) n.others) ∙ ap (λ (x : Vector). x ++ n.others) (ap (λ (z : ℤ). items ++ z ∷ []) (sym e) ∙ sym m);
  is = a ∙ ap unspaced b;
}

last_of : (here : Text) (width : ℕ → ℕ) (items r : Vector) (s : Text) (j : ℕ) (q : Vector) → IsHeldRow q → r ≡ items ++ q → here ≡ unspaced (tail_of width j q ++ s) → ¬ First IsOpening here → (items ≡ r) × (here ≡ unspaced s)
last_of here width items r s j [] held split is h = (sym (split ∙ append-nil items), is)
last_of here width items r s j (b ∷ q) held split is h =
    absurd (h (subst (First IsOpening) (sym (is ∙ tail_next width j b q s held.0)) (signed_first b (tail_of width (suc j) q ++ s) held.0)))

pub part_last : (here : Text) (width : ℕ → ℕ) (items r : Vector) (s : Text) → IsPart here width items r s → ¬ First IsOpening here → (items ≡ r) × (here ≡ unspaced s)
part_last here width items r s p h = last_of here width items r s p.column p.others p.held p.split p.is h

-- ---- single bytes

pub behind_byte : (text : Text) (place b : ℕ) (t : Text) → drop place text ≡ b ∷ t → drop (place + 1) text ≡ t
behind_byte text place b t e =
    let l = first_within (λ x. x ≡ b) text place (subst (First (λ x. x ≡ b)) (sym e) refl) in
    let both : get_or text place 0 ∷ drop (place + 1) text ≡ b ∷ t = sym (at_place text place l) ∙ e in
    cc (both)

pub has_byte : (here t : Text) (b : ℕ) → here ≡ b ∷ t → ¬ First (λ x. x ≡ b) here → ⊥
has_byte here t b e h = h (subst (First (λ x. x ≡ b)) (sym e) refl)

-- ---- lines, one by one

-- lines of a list have been read, others are still to come
pub record AreLines {X : Type 0} (f : X → Text) (P : X → Type 0) (here : Text) (items xs : List X) (s : Text) : Type 0 where
  pub others : List X
  pub held : Each P others
  pub split : xs ≡ items ++ others
  pub is : here ≡ flat_map f others ++ s

pub record HasLine {X : Type 0} (f : X → Text) (P : X → Type 0) (here : Text) (items xs : List X) (s : Text) : Type 0 where
  pub item : X
  pub others : List X
  pub fits : P item
  pub held : Each P others
  pub split : xs ≡ items ++ item ∷ others
  pub is : here ≡ f item ++ (flat_map f others ++ s)

pub lines_start : {X : Type 0} (f : X → Text) (P : X → Type 0) (here : Text) (xs : List X) (s : Text) → Each P xs → here ≡ flat_map f xs ++ s → AreLines f P here [] xs s
lines_start f P here xs s held e = record { others = xs; held = held; split = refl; is = e }

line_of : {X : Type 0} (f : X → Text) (P : X → Type 0) (here : Text) (items xs : List X) (s : Text) (others : List X) → length items < length xs → Each P others → xs ≡ items ++ others → here ≡ flat_map f others ++ s → HasLine f P here items xs s
line_of {X} f P here items xs s [] l held split is = absurd (omega (arith, l, ap length (split ∙ append-nil items)))
line_of f P here items xs s (x ∷ others) l held split is = record { item = x; others = others; fits = held.0; held = held.1; split = split; is = is ∙ append_assoc (f x) (flat_map f others) s }

pub line_next : {X : Type 0} (f : X → Text) (P : X → Type 0) (here : Text) (items xs : List X) (s : Text) → length items < length xs → AreLines f P here items xs s → HasLine f P here items xs s
line_next f P here items xs s l h = line_of f P here items xs s h.others l h.held h.split h.is

pub line_more : {X : Type 0} (f : X → Text) (P : X → Type 0) (here : Text) (items xs more : List X) (s : Text) (n : HasLine f P here items xs s) (read : X) (after : Text) → read ≡ n.item → more ≡ items ++ read ∷ [] → after ≡ flat_map f n.others ++ s → AreLines f P after more xs s
line_more {X} f P here items xs more s n read after e m a = record {
  others = n.others;
  held = n.held;
  split = n.split ∙ sym (append_assoc items (n.item ∷ []) n.others) ∙ ap (λ (y : List X). y ++ n.others) (ap (λ (z : X). items ++ z ∷ []) (sym e) ∙ sym m);
  is = a;
}

lines_of : {X : Type 0} (f : X → Text) (here : Text) (items xs : List X) (s : Text) (others : List X) → length xs ≤ length items → xs ≡ items ++ others → here ≡ flat_map f others ++ s → (items ≡ xs) × (here ≡ s)
lines_of f here items xs s [] l split is = (sym (split ∙ append-nil items), is)
lines_of f here items xs s (x ∷ others) l split is = absurd (omega (arith, l, ap length split ∙ length-append items (x ∷ others)))

pub lines_last : {X : Type 0} (f : X → Text) (P : X → Type 0) (here : Text) (items xs : List X) (s : Text) → length xs ≤ length items → AreLines f P here items xs s → (items ≡ xs) × (here ≡ s)
lines_last f P here items xs s l h = lines_of f here items xs s h.others l h.split h.is

pub byte_split : (text : Text) (place b : ℕ) → First (λ x. x ≡ b) (drop place text) → drop place text ≡ b ∷ drop (place + 1) text
byte_split text place b h =
    let l = first_within (λ x. x ≡ b) text place h in
    at_place text place l ∙ ap (λ (x : ℕ). x ∷ drop (place + 1) text) (first_of (λ x. x ≡ b) text place l h)

-- one byte more of those that must stand there
pub behind_more : (text bytes : Text) (from index place : ℕ) → index < length bytes → drop from text ≡ take index bytes ++ drop place text → First (λ x. x ≡ get_or bytes index 0) (drop place text) → drop from text ≡ take (index + 1) bytes ++ drop (place + 1) text
behind_more text bytes from index place l e h =
    e ∙ ap (λ (t : Text). take index bytes ++ t) (byte_split text place (get_or bytes index 0) h)
    ∙ sym (append_assoc (take index bytes) (get_or bytes index 0 ∷ []) (drop (place + 1) text))
    ∙ ap (λ (t : Text). t ++ drop (place + 1) text) (sym (take_more bytes index 0 l))

behind_split : (bytes : Text) (index : ℕ) → index < length bytes → bytes ≡ take index bytes ++ get_or bytes index 0 ∷ drop (index + 1) bytes
behind_split bytes index l = sym (take-append-drop index bytes) ∙ ap (λ (t : Text). take index bytes ++ t) (at_place bytes index l)

-- the bytes do not stand there
pub behind_none : (text bytes : Text) (from index place : ℕ) → index < length bytes → drop from text ≡ take index bytes ++ drop place text → ¬ First (λ x. x ≡ get_or bytes index 0) (drop place text) → (t : Text) → drop from text ≡ bytes ++ t → ⊥
behind_none text bytes from index place l e h t whole =
    let both : take index bytes ++ drop place text ≡ take index bytes ++ (get_or bytes index 0 ∷ (drop (index + 1) bytes ++ t)) =
    sym e ∙ whole ∙ ap (λ (x : Text). x ++ t) (behind_split bytes index l) ∙ append_assoc (take index bytes) (get_or bytes index 0 ∷ drop (index + 1) bytes) t in
    has_byte (drop place text) (drop (index + 1) bytes ++ t) (get_or bytes index 0) (append_cancel_left (take index bytes) (drop place text) (get_or bytes index 0 ∷ (drop (index + 1) bytes ++ t)) both) h

pub behind_same : (here heading next t : Text) → here ≡ heading ++ next → here ≡ heading ++ t → next ≡ t
behind_same here heading next t a b = append_cancel_left heading next t (sym a ∙ b)

pub one_longer : {X : Type 0} (items more : List X) (x : X) (k : ℕ) → more ≡ items ++ x ∷ [] → length items ≡ k → length more ≡ k + 1
one_longer items more x k e l = ap length e ∙ length-append items (x ∷ []) ∙ ap (λ (n : ℕ). n + 1) l
