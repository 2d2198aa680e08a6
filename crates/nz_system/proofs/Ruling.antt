-- The first of the refusals, found item by item.
use Rattle.std.proofs.Common.{◌≡◌, ℕ, zero, suc, ◌+◌, ◌<◌, ◌≤◌, List, [], ◌∷◌, ◌++◌, length, take, drop, map, Some, None, add-one, refl, sym, ap, ◌∙◌, subst, arith, Bool, true, false}
use Rattle.std.specs.Prelude.{slice_get, nat_lt, Option, ◌||◌}
use Rattle.std.specs.List.{AllByRecursion as Each}
use Rattle.std.proofs.lemmas.Bool.{ltb-false}
use Rattle.nz_spec.specs.Vectors.{Vector, HasWidth}
use Rattle.nz_spec.proofs.ListLaws.{Each-weaker}
use Rattle.nz_input.specs.Files.{ItemData, FileData, IsItem, IsFile}
use Rattle.nz_input.specs.Words.{columns}
use Rattle.nz_input.specs.declared.kind.Goal.{Goal}
use Rattle.nz_input.specs.declared.kind.Kind.TheVariants as kind
use Rattle.nz_system.specs.declared.asked.GoalSet.{GoalSet}
use Rattle.nz_system.specs.declared.groups.Group.TheVariants as group
use Rattle.nz_system.specs.Groups.{occurs}
use Rattle.nz_input.specs.declared.kind.Kind.{Kind}
use Rattle.nz_system.specs.declared.refusal.MeaningFault.{MeaningFault}
use Rattle.nz_system.specs.declared.refusal.MeaningFault.TheVariants.{RowLimit}
use Rattle.nz_system.specs.declared.refusal.SystemRefusal.{SystemRefusal}
use Rattle.nz_system.specs.declared.refusal.SystemRefusal.TheVariants.{Meaning}
use Rattle.nz_system.specs.Rules.{first, where_fails, row_faults, rows_refusals, item_faults, item_refusals, items_refusals, count_rows, goal_faults, refusals, forbids_lattice}

-- where the front has none, the first is that of the rest
pub first-behind : {A : Type 0} (xs ys : List A) → first xs ≡ None → first (xs ++ ys) ≡ first ys
first-behind [] ys e = refl
first-behind (x ∷ xs) ys e = absurd cc

-- where the front has one, it is the first
pub first-front : {A : Type 0} (xs ys : List A) (x : A) → first xs ≡ Some x → first (xs ++ ys) ≡ Some x
first-front [] ys x e = absurd cc
first-front (y ∷ xs) ys x e = e

-- where all have none, the front has none
pub none-front : {A : Type 0} (xs ys : List A) → first (xs ++ ys) ≡ None → first xs ≡ None
none-front [] ys e = refl
none-front (x ∷ xs) ys e = absurd cc

pub none-map : {A B : Type 0} (f : A → B) (xs : List A) → first xs ≡ None → first (map f xs) ≡ None
none-map f [] e = refl
none-map f (x ∷ xs) e = absurd cc

pub map-none : {A B : Type 0} (f : A → B) (xs : List A) → first (map f xs) ≡ None → first xs ≡ None
map-none f [] e = refl
map-none f (x ∷ xs) e = absurd cc

pub some-map : {A B : Type 0} (f : A → B) (xs : List A) (x : A) → first xs ≡ Some x → first (map f xs) ≡ Some (f x)
some-map f [] x e = absurd cc
some-map f (y ∷ xs) x e = (let s : y ≡ x = cc in ap (λ z. Some (f z)) s)

pub passes : (b : Bool) (fault : MeaningFault) → first (where_fails b fault) ≡ None → b ≡ false
passes true fault e = absurd cc
passes false fault e = refl

-- where no rule fails, so many rows are not too many
pub rows-within : (k : Kind) (item before others : ℕ) (rows : List Vector) → others + before ≤ 1024 → first (rows_refusals k item before others rows) ≡ None → others + (before + length rows) ≤ 1024
rows-within k item before others [] l e = omega (arith, l)
rows-within k item before others (row ∷ rows) l e =
    let here = none-front (map (Meaning item (before + 1)) (row_faults k (others + (before + 1)) row)) (rows_refusals k item (before + 1) others rows) e in
    let faults = map-none (Meaning item (before + 1)) (row_faults k (others + (before + 1)) row) here in
    let few = ltb-false 1024 (others + (before + 1)) (passes (nat_lt 1024 (others + (before + 1))) RowLimit (none-front (where_fails (nat_lt 1024 (others + (before + 1))) RowLimit) _ faults)) in
    let later = sym (first-behind (map (Meaning item (before + 1)) (row_faults k (others + (before + 1)) row)) (rows_refusals k item (before + 1) others rows) here) ∙ e in
    let r = rows-within k item (before + 1) others rows few later in
    omega (arith, r)

take-item : {A : Type 0} (xs : List A) (n : ℕ) (x : A) → slice_get xs n ≡ Some x → take (suc n) xs ≡ take n xs ++ x ∷ []
take-item [] n x e = absurd cc
take-item (y ∷ xs) zero x e = (let s : y ≡ x = cc in ap (λ z. z ∷ []) s)
take-item (y ∷ xs) (suc n) x e = ap (λ zs. y ∷ zs) (take-item xs n x e)

drop-item : {A : Type 0} (xs : List A) (n : ℕ) (x : A) → slice_get xs n ≡ Some x → drop n xs ≡ x ∷ drop (suc n) xs
drop-item [] n x e = absurd cc
drop-item (y ∷ xs) zero x e = (let s : y ≡ x = cc in ap (λ z. z ∷ xs) s)
drop-item (y ∷ xs) (suc n) x e = drop-item xs n x e

count-append : (xs ys : List ItemData) → count_rows (xs ++ ys) ≡ count_rows xs + count_rows ys
count-append [] ys = omega arith
count-append (x ∷ xs) ys = (let r = count-append xs ys in omega (arith, r))

-- the rows of one item more
pub count-more : (items : List ItemData) (n : ℕ) (item : ItemData) → slice_get items n ≡ Some item → count_rows (take (n + 1) items) ≡ count_rows (take n items) + length item.rows
count-more items n item e = rw add-one (ap count_rows (take-item items n item e) ∙ count-append (take n items) (item ∷ []) ∙ (omega arith))

-- the refusals from a place on: those for the item there, and the later ones
pub items-from : (forbidden : Bool) (items : List ItemData) (n : ℕ) (item : ItemData) → slice_get items n ≡ Some item → items_refusals forbidden (take n items) (drop n items) ≡ item_refusals forbidden (take n items) item ++ items_refusals forbidden (take (n + 1) items) (drop (n + 1) items)
items-from forbidden items n item e =
    ap (items_refusals forbidden (take n items)) (drop-item items n item e)
    ∙ ap (λ b. item_refusals forbidden (take n items) item ++ items_refusals forbidden b (drop (suc n) items)) (sym (take-item items n item e))
    ∙ ap (λ k. item_refusals forbidden (take n items) item ++ items_refusals forbidden (take k items) (drop k items)) (sym (add-one n))

pub length-take : {A : Type 0} (xs : List A) (n : ℕ) → n < length xs → length (take n xs) ≡ n
length-take [] n l = absurd (omega arith)
length-take (x ∷ xs) zero l = refl
length-take (x ∷ xs) (suc n) l = ap suc (length-take xs n (omega (arith, l)))

-- the refusals for an item that is at fault as a whole
pub item-whole : (forbidden : Bool) (before : List ItemData) (item : ItemData) (k : Kind) (n number : ℕ) (fault : MeaningFault) → item.kind ≡ k → length before ≡ n → number ≡ n + 1 → first (item_faults forbidden before k) ≡ Some fault → Some (Meaning number 0 fault) ≡ first (item_refusals forbidden before item)
item-whole forbidden before item k n number fault same l m f =
    let g : first (item_faults forbidden before item.kind) ≡ Some fault = ap (λ j. first (item_faults forbidden before j)) same ∙ f in
    let s = some-map (Meaning (length before + 1) 0) (item_faults forbidden before item.kind) fault g in
    ap (λ j. Some (Meaning j 0 fault)) (m ∙ ap (λ j. j + 1) (sym l)) ∙ sym (first-front (map (Meaning (length before + 1) 0) (item_faults forbidden before item.kind)) (rows_refusals item.kind (length before + 1) 0 (count_rows before) item.rows) (Meaning (length before + 1) 0 fault) s)

-- the refusals for an item that is not: those for its rows
pub item-rows : (forbidden : Bool) (before : List ItemData) (item : ItemData) (k : Kind) (rows : List Vector) (n number others : ℕ) (result : Option SystemRefusal) → item.kind ≡ k → item.rows ≡ rows → length before ≡ n → number ≡ n + 1 → others ≡ count_rows before → first (item_faults forbidden before k) ≡ None → result ≡ first (rows_refusals k number 0 others rows) → result ≡ first (item_refusals forbidden before item)
item-rows forbidden before item k rows n number others result same rs l m o f r =
    let g : first (item_faults forbidden before item.kind) ≡ None = ap (λ j. first (item_faults forbidden before j)) same ∙ f in
    let s = none-map (Meaning (length before + 1) 0) (item_faults forbidden before item.kind) g in
    r ∙ ap (λ j. first (rows_refusals k j 0 others rows)) (m ∙ ap (λ j. j + 1) (sym l))
    ∙ ap (λ j. first (rows_refusals k (length before + 1) 0 j rows)) o
    ∙ ap (λ j. first (rows_refusals j (length before + 1) 0 (count_rows before) rows)) (sym same)
    ∙ ap (λ (j : List Vector). first (rows_refusals item.kind (length before + 1) 0 (count_rows before) j)) (sym rs)
    ∙ sym (first-behind (map (Meaning (length before + 1) 0) (item_faults forbidden before item.kind)) (rows_refusals item.kind (length before + 1) 0 (count_rows before) item.rows) s)

-- an item without refusal leaves the rows within the limit
pub item-within : (forbidden : Bool) (before : List ItemData) (item : ItemData) → count_rows before ≤ 1024 → first (item_refusals forbidden before item) ≡ None → count_rows before + length item.rows ≤ 1024
item-within forbidden before item l e =
    let here = none-front (map (Meaning (length before + 1) 0) (item_faults forbidden before item.kind)) (rows_refusals item.kind (length before + 1) 0 (count_rows before) item.rows) e in
    let later = sym (first-behind (map (Meaning (length before + 1) 0) (item_faults forbidden before item.kind)) (rows_refusals item.kind (length before + 1) 0 (count_rows before) item.rows) here) ∙ e in
    let few : count_rows before + 0 ≤ 1024 = omega (arith, l) in
    let r = rows-within item.kind (length before + 1) 0 (count_rows before) item.rows few later in
    omega (arith, r)

-- what holds for each holds for the one at a place
pub each-at : {A : Type 0} (P : A → Type 0) (xs : List A) (n : ℕ) (x : A) → Each P xs → slice_get xs n ≡ Some x → P x
each-at P [] n x h e = absurd cc
each-at P (y ∷ xs) zero x h e = (let s : y ≡ x = cc in subst P s h.0)
each-at P (y ∷ xs) (suc n) x h e = each-at P xs n x h.1 e

with-item : {A : Type 0} (C : Type 0) (xs : List A) (n : ℕ) → n < length xs → ((x : A) → slice_get xs n ≡ Some x → C) → C
with-item C [] n l k = absurd (omega arith)
with-item C (x ∷ xs) zero l k = k x refl
with-item C (x ∷ xs) (suc n) l k = with-item C xs n (omega (arith, l)) k

-- the refusal for the item at a place, where none comes before it, is the first
pub items-stop : (forbidden : Bool) (items : List ItemData) (n : ℕ) (refusal : SystemRefusal) (result : Option SystemRefusal) → n < length items → ((item : ItemData) → slice_get items n ≡ Some item → result ≡ first (item_refusals forbidden (take n items) item)) → result ≡ Some refusal → first (items_refusals forbidden [] items) ≡ first (items_refusals forbidden (take n items) (drop n items)) → Some refusal ≡ first (items_refusals forbidden [] items)
items-stop forbidden items n refusal result l h e p =
    with-item (Some refusal ≡ first (items_refusals forbidden [] items)) items n l (λ item g.
    sym (p ∙ ap first (items-from forbidden items n item g) ∙ first-front (item_refusals forbidden (take n items) item) (items_refusals forbidden (take (n + 1) items) (drop (n + 1) items)) refusal (sym (h item g) ∙ e)))

-- where the item at a place has none, the first comes later
pub items-go : (forbidden : Bool) (items : List ItemData) (n : ℕ) (item : ItemData) (result : Option SystemRefusal) → slice_get items n ≡ Some item → ((i : ItemData) → slice_get items n ≡ Some i → result ≡ first (item_refusals forbidden (take n items) i)) → result ≡ None → first (items_refusals forbidden [] items) ≡ first (items_refusals forbidden (take n items) (drop n items)) → first (items_refusals forbidden [] items) ≡ first (items_refusals forbidden (take (n + 1) items) (drop (n + 1) items))
items-go forbidden items n item result g h e p = p ∙ ap first (items-from forbidden items n item g) ∙ first-behind (item_refusals forbidden (take n items) item) (items_refusals forbidden (take (n + 1) items) (drop (n + 1) items)) (sym (h item g) ∙ e)

pub items-count : (items : List ItemData) (n : ℕ) (item : ItemData) (others len : ℕ) → slice_get items n ≡ Some item → others ≡ count_rows (take n items) → len ≡ length item.rows → others + len ≡ count_rows (take (n + 1) items)
items-count items n item others len g p q = (let c = count-more items n item g in omega (arith, p, q, c))

-- an item without refusal leaves the rows within the limit
pub items-within : (forbidden : Bool) (items : List ItemData) (n : ℕ) (item : ItemData) (others len : ℕ) (result : Option SystemRefusal) → slice_get items n ≡ Some item → ((i : ItemData) → slice_get items n ≡ Some i → result ≡ first (item_refusals forbidden (take n items) i)) → result ≡ None → others ≡ count_rows (take n items) → others ≤ 1024 → len ≡ length item.rows → others + len ≤ 1024
items-within forbidden items n item others len result g h e p l q =
    let few : count_rows (take n items) ≤ 1024 = omega (arith, p, l) in
    let r = item-within forbidden (take n items) item few (sym (h item g) ∙ e) in
    omega (arith, r, p, q)

columns-some : (k : Kind) (d : ℕ) → 1 ≤ d → 0 < columns k d
columns-some kind.Cone d l = omega arith
columns-some kind.ConeAndLattice d l = omega arith
columns-some kind.Inequalities d l = omega arith
columns-some kind.Equations d l = omega arith
columns-some kind.Congruences d l = omega arith
columns-some kind.Signs d l = omega arith
columns-some kind.StrictSigns d l = omega arith
columns-some kind.StrictInequalities d l = omega arith
columns-some kind.InhomInequalities d l = omega arith
columns-some kind.InhomEquations d l = omega arith
columns-some kind.InhomCongruences d l = omega arith
columns-some kind.Vertices d l = omega arith
columns-some kind.Grading d l = omega arith
columns-some kind.Ask d l = omega arith
columns-some kind.MonomialIdeal d l = omega arith

-- no item of a file has more than 1024 rows
pub file-few : (file : FileData) → IsFile file → Each (λ (item : ItemData). length item.rows ≤ 1024) file.items
file-few file f = Each-weaker (IsItem file.amb) (λ (item : ItemData). length item.rows ≤ 1024) (λ item i. i.count) file.items f.items_keep

-- no row of a file is empty
pub file-entries : (file : FileData) → IsFile file → Each (λ (item : ItemData). Each (λ (r : Vector). 0 < length r) item.rows) file.items
file-entries file f = Each-weaker (IsItem file.amb) (λ (item : ItemData). Each (λ (r : Vector). 0 < length r) item.rows)
    (λ item i. Each-weaker (HasWidth (columns item.kind file.amb)) (λ (r : Vector). 0 < length r) (λ r w. (let c = columns-some item.kind file.amb f.low in omega (arith, w, c))) item.rows i.widths) file.items f.items_keep

-- the first refusal for an item is the first of the file
pub items-first : (file : FileData) (amb : ℕ) (items : List ItemData) (goal_words : List Goal) (goals : GoalSet) (forbidden : Bool) (refusal : SystemRefusal) (result : Option SystemRefusal) → record { amb = amb; items = items; goals = goal_words } ≡ file → forbidden ≡ (occurs group.Leveled items || occurs group.Cone items) → result ≡ first (items_refusals forbidden [] items) → result ≡ Some refusal → Some refusal ≡ first (refusals file goals)
items-first file amb items goal_words goals forbidden refusal result same f r e =
    subst (λ (x : FileData). Some refusal ≡ first (refusals x goals)) same
    (sym (first-front (items_refusals (forbids_lattice items) [] items) (map (Meaning 0 0) (goal_faults items goals)) refusal (sym (r ∙ ap (λ b. first (items_refusals b [] items)) f) ∙ e)))

-- where no item is refused, the first is that of the goals
pub goals-first : (file : FileData) (amb : ℕ) (items : List ItemData) (goal_words : List Goal) (goals : GoalSet) (forbidden : Bool) (result : Option SystemRefusal) → record { amb = amb; items = items; goals = goal_words } ≡ file → forbidden ≡ (occurs group.Leveled items || occurs group.Cone items) → result ≡ first (items_refusals forbidden [] items) → result ≡ None → first (map (Meaning 0 0) (goal_faults items goals)) ≡ first (refusals file goals)
goals-first file amb items goal_words goals forbidden result same f r e =
    subst (λ (x : FileData). first (map (Meaning 0 0) (goal_faults items goals)) ≡ first (refusals x goals)) same
    (sym (first-behind (items_refusals (forbids_lattice items) [] items) (map (Meaning 0 0) (goal_faults items goals)) (sym (r ∙ ap (λ b. first (items_refusals b [] items)) f) ∙ e)))
