-- The first of the refusals, as the items and the rows are passed.
use Rattle.std.proofs.Common.{◌≡◌, ℕ, zero, suc, ◌+◌, ◌<◌, ◌≤◌, List, [], ◌∷◌, ◌++◌, length, take, drop, get_or, map, Option, Some, None, add-one, refl, sym, ap, ◌∙◌, subst, arith, true, false, ltb-false}
use Rattle.std.specs.Prelude.{ℤ, pos, negsuc, ◌<ℤ◌, int_lt, slice_get, nat_lt, ◌||◌}
use Rattle.std.proofs.lemmas.Bool.Decides.{nat_tests}
use Rattle.std.proofs.lemmas.Int.{ints}
use Rattle.nz_spec.specs.Vectors.{Vector}
use Rattle.nz_input.specs.Files.{ItemData, FileData}
use Rattle.nz_input.specs.declared.kind.Goal.{Goal}
use Rattle.nz_input.specs.declared.kind.Kind.{Kind}
use Rattle.nz_system.specs.declared.asked.GoalSet.{GoalSet}
use Rattle.nz_system.specs.declared.refusal.MeaningFault.{MeaningFault}
use Rattle.nz_system.specs.declared.refusal.MeaningFault.TheVariants.{RowLimit}
use Rattle.nz_system.specs.declared.refusal.SystemRefusal.{SystemRefusal}
use Rattle.nz_system.specs.declared.refusal.SystemRefusal.TheVariants.{Meaning}
use Rattle.nz_system.specs.Rules.{first, where_fails, count_rows}
use Rattle.nz_system.proofs.Ruling.{first-behind, first-front, none-front, none-map, map-none, some-map, passes}
use Rattle.nz_ideal.specs.IdealRules.{has_negative, row_faults, rows_refusals, item_faults, item_refusals, items_refusals, goal_faults, ideal_refusals}
use Rattle.nz_ideal.proofs.Building.{take-item}

-- ---- a row

-- an entry below 0 at a place
pub negative-here : (row : Vector) (n : ℕ) (z : ℤ) → n < length row → z ≡ get_or row n (pos 0) → z <ℤ pos 0 → has_negative (drop n row) ≡ true
negative-here [] n z l e h = absurd (omega (arith, l))
negative-here (y ∷ row) zero z l e h = below y (let k : y <ℤ pos 0 = omega (arith, ints, e, h) in k)
  where
    below : (y : ℤ) → y <ℤ pos 0 → (int_lt y (pos 0) || has_negative row) ≡ true
    below (pos n) k = absurd (omega (arith, ints, k))
    below (negsuc n) k = refl
negative-here (y ∷ row) (suc n) z l e h = negative-here row n z (omega (arith, l)) e h

not-below : (z : ℤ) → ¬ (z <ℤ pos 0) → int_lt z (pos 0) ≡ false
not-below (pos zero) h = refl
not-below (pos (suc n)) h = grind (arith, ints, nat_tests)
not-below (negsuc n) h = absurd (h (omega (arith, ints)))

-- and none
pub negative-later : (row : Vector) (n : ℕ) (z : ℤ) → n < length row → z ≡ get_or row n (pos 0) → ¬ (z <ℤ pos 0) → has_negative (drop n row) ≡ has_negative (drop (n + 1) row)
negative-later [] n z l e h = absurd (omega (arith, l))
negative-later (y ∷ row) zero z l e h = ap (λ b. b || has_negative row) (not-below y (λ k. h (let r : z <ℤ pos 0 = omega (arith, ints, e, k) in r)))
negative-later (y ∷ row) (suc n) z l e h = rw add-one (negative-later row n z (omega (arith, l)) e h ∙ ap (λ m. has_negative (drop m row)) (add-one n))

-- where no rule fails, so many rows are not too many
pub rows-within : (k : Kind) (item before others : ℕ) (rows : List Vector) → others + before ≤ 960 → first (rows_refusals k item before others rows) ≡ None → others + (before + length rows) ≤ 960
rows-within k item before others [] l e = omega (arith, l)
rows-within k item before others (row ∷ rows) l e =
    let here = none-front (map (Meaning item (before + 1)) (row_faults k (others + (before + 1)) row)) (rows_refusals k item (before + 1) others rows) e in
    let faults = map-none (Meaning item (before + 1)) (row_faults k (others + (before + 1)) row) here in
    let few = ltb-false 960 (others + (before + 1)) (passes (nat_lt 960 (others + (before + 1))) RowLimit (none-front (where_fails (nat_lt 960 (others + (before + 1))) RowLimit) _ faults)) in
    let later = sym (first-behind (map (Meaning item (before + 1)) (row_faults k (others + (before + 1)) row)) (rows_refusals k item (before + 1) others rows) here) ∙ e in
    let r = rows-within k item (before + 1) others rows few later in
    omega (arith, r)

-- ---- an item

drop-item : {A : Type 0} (xs : List A) (n : ℕ) (x : A) → slice_get xs n ≡ Some x → drop n xs ≡ x ∷ drop (suc n) xs
drop-item [] n x e = absurd cc
drop-item (y ∷ xs) zero x e = (let s : y ≡ x = cc in ap (λ z. z ∷ xs) s)
drop-item (y ∷ xs) (suc n) x e = drop-item xs n x e

-- the refusals from a place on: those for the item there, and the later ones
pub items-from : (items : List ItemData) (n : ℕ) (item : ItemData) → slice_get items n ≡ Some item → items_refusals (take n items) (drop n items) ≡ item_refusals (take n items) item ++ items_refusals (take (n + 1) items) (drop (n + 1) items)
items-from items n item e =
    ap (items_refusals (take n items)) (drop-item items n item e)
    ∙ ap (λ b. item_refusals (take n items) item ++ items_refusals b (drop (suc n) items)) (sym (take-item items n item e))
    ∙ ap (λ k. item_refusals (take n items) item ++ items_refusals (take (n + 1) items) (drop k items)) (sym (add-one n))

-- the refusals for an item that is at fault as a whole
pub item-whole : (before : List ItemData) (item : ItemData) (k : Kind) (n number : ℕ) (fault : MeaningFault) → item.kind ≡ k → length before ≡ n → number ≡ n + 1 → first (item_faults before k) ≡ Some fault → Some (Meaning number 0 fault) ≡ first (item_refusals before item)
item-whole before item k n number fault same l m f =
    let g : first (item_faults before item.kind) ≡ Some fault = ap (λ j. first (item_faults before j)) same ∙ f in
    let s = some-map (Meaning (length before + 1) 0) (item_faults before item.kind) fault g in
    ap (λ j. Some (Meaning j 0 fault)) (m ∙ ap (λ j. j + 1) (sym l)) ∙ sym (first-front (map (Meaning (length before + 1) 0) (item_faults before item.kind)) (rows_refusals item.kind (length before + 1) 0 (count_rows before) item.rows) (Meaning (length before + 1) 0 fault) s)

-- the refusals for an item that is not: those for its rows
pub item-rows : (before : List ItemData) (item : ItemData) (k : Kind) (rows : List Vector) (n number others : ℕ) (result : Option SystemRefusal) → item.kind ≡ k → item.rows ≡ rows → length before ≡ n → number ≡ n + 1 → others ≡ count_rows before → first (item_faults before k) ≡ None → result ≡ first (rows_refusals k number 0 others rows) → result ≡ first (item_refusals before item)
item-rows before item k rows n number others result same rs l m o f r =
    let g : first (item_faults before item.kind) ≡ None = ap (λ j. first (item_faults before j)) same ∙ f in
    let s = none-map (Meaning (length before + 1) 0) (item_faults before item.kind) g in
    r ∙ ap (λ j. first (rows_refusals k j 0 others rows)) (m ∙ ap (λ j. j + 1) (sym l))
    ∙ ap (λ j. first (rows_refusals k (length before + 1) 0 j rows)) o
    ∙ ap (λ j. first (rows_refusals j (length before + 1) 0 (count_rows before) rows)) (sym same)
    ∙ ap (λ (j : List Vector). first (rows_refusals item.kind (length before + 1) 0 (count_rows before) j)) (sym rs)
    ∙ sym (first-behind (map (Meaning (length before + 1) 0) (item_faults before item.kind)) (rows_refusals item.kind (length before + 1) 0 (count_rows before) item.rows) s)

-- an item without refusal leaves the rows within the limit
pub item-within : (before : List ItemData) (item : ItemData) → count_rows before ≤ 960 → first (item_refusals before item) ≡ None → count_rows before + length item.rows ≤ 960
item-within before item l e =
    let whole = map (Meaning (length before + 1) 0) (item_faults before item.kind) in
    let rows = rows_refusals item.kind (length before + 1) 0 (count_rows before) item.rows in
    let later = sym (first-behind whole rows (none-front whole rows e)) ∙ e in
    let few : count_rows before + 0 ≤ 960 = omega (arith, l) in
    let r = rows-within item.kind (length before + 1) 0 (count_rows before) item.rows few later in
    omega (arith, r)

with-item : {A : Type 0} (C : Type 0) (xs : List A) (n : ℕ) → n < length xs → ((x : A) → slice_get xs n ≡ Some x → C) → C
with-item C [] n l k = absurd (omega arith)
with-item C (x ∷ xs) zero l k = k x refl
with-item C (x ∷ xs) (suc n) l k = with-item C xs n (omega (arith, l)) k

-- the refusal for the item at a place, where none comes before it, is the first
pub items-stop : (items : List ItemData) (n : ℕ) (refusal : SystemRefusal) (result : Option SystemRefusal) → n < length items → ((item : ItemData) → slice_get items n ≡ Some item → result ≡ first (item_refusals (take n items) item)) → result ≡ Some refusal → first (items_refusals [] items) ≡ first (items_refusals (take n items) (drop n items)) → Some refusal ≡ first (items_refusals [] items)
items-stop items n refusal result l h e p =
    with-item (Some refusal ≡ first (items_refusals [] items)) items n l (λ item g.
    sym (p ∙ ap first (items-from items n item g) ∙ first-front (item_refusals (take n items) item) (items_refusals (take (n + 1) items) (drop (n + 1) items)) refusal (sym (h item g) ∙ e)))

-- where the item at a place has none, the first comes later
pub items-go : (items : List ItemData) (n : ℕ) (item : ItemData) (result : Option SystemRefusal) → slice_get items n ≡ Some item → ((i : ItemData) → slice_get items n ≡ Some i → result ≡ first (item_refusals (take n items) i)) → result ≡ None → first (items_refusals [] items) ≡ first (items_refusals (take n items) (drop n items)) → first (items_refusals [] items) ≡ first (items_refusals (take (n + 1) items) (drop (n + 1) items))
items-go items n item result g h e p = p ∙ ap first (items-from items n item g) ∙ first-behind (item_refusals (take n items) item) (items_refusals (take (n + 1) items) (drop (n + 1) items)) (sym (h item g) ∙ e)

-- the rows stay within the limit
pub items-within : (items : List ItemData) (n : ℕ) (item : ItemData) (others len : ℕ) (result : Option SystemRefusal) → slice_get items n ≡ Some item → ((i : ItemData) → slice_get items n ≡ Some i → result ≡ first (item_refusals (take n items) i)) → result ≡ None → others ≡ count_rows (take n items) → others ≤ 960 → len ≡ length item.rows → others + len ≤ 960
items-within items n item others len result g h e p l q =
    let few : count_rows (take n items) ≤ 960 = omega (arith, p, l) in
    let r = item-within (take n items) item few (sym (h item g) ∙ e) in
    omega (arith, r, p, q)

-- ---- a file

-- the first refusal for an item is the first of the file
pub items-first : (file : FileData) (amb : ℕ) (items : List ItemData) (goal_words : List Goal) (goals : GoalSet) (refusal : SystemRefusal) (result : Option SystemRefusal) → record { amb = amb; items = items; goals = goal_words } ≡ file → result ≡ first (items_refusals [] items) → result ≡ Some refusal → Some refusal ≡ first (ideal_refusals file goals)
items-first file amb items goal_words goals refusal result same r e =
    subst (λ (x : FileData). Some refusal ≡ first (ideal_refusals x goals)) same
    (sym (first-front (items_refusals [] items) (map (Meaning 0 0) (goal_faults items goals)) refusal (sym r ∙ e)))

-- where no item is refused, the first is that of the goals
pub goals-first : (file : FileData) (amb : ℕ) (items : List ItemData) (goal_words : List Goal) (goals : GoalSet) (result : Option SystemRefusal) → record { amb = amb; items = items; goals = goal_words } ≡ file → result ≡ first (items_refusals [] items) → result ≡ None → first (map (Meaning 0 0) (goal_faults items goals)) ≡ first (ideal_refusals file goals)
goals-first file amb items goal_words goals result same r e =
    subst (λ (x : FileData). first (map (Meaning 0 0) (goal_faults items goals)) ≡ first (ideal_refusals x goals)) same
    (sym (first-behind (items_refusals [] items) (map (Meaning 0 0) (goal_faults items goals)) (sym r ∙ e)))
