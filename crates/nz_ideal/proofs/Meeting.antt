-- The ideal file of a file that breaks no rule is a file, and breaks none.
use Rattle.std.proofs.Common.{◌≡◌, ℕ, zero, suc, ◌+◌, ◌-◌, ◌≤◌, List, [], ◌∷◌, ◌++◌, length, map, Some, refl, sym, ap, ◌∙◌, arith, Bool, true, false}
use Rattle.std.specs.Prelude.{ℤ, pos, not, ◌&&◌, ◌||◌, nat_lt, Result, Ok, Err}
use Rattle.std.specs.List.{AllByRecursion as Each}
use Rattle.std.proofs.lemmas.List.{append-nil, length-map}
use Rattle.std.proofs.lemmas.Bool.Decides.{nat_tests}
use Rattle.nz_spec.specs.Vectors.{Vector, HasWidth, entry, zero_vector, unit_vectors}
use Rattle.nz_further.specs.Ideals.{at_level}
use Rattle.nz_further.proofs.IdealLaws.{length-at_level, units_wide}
use Rattle.nz_input.specs.Files.{ItemData, FileData, IsItem, IsFile, IsBounded}
use Rattle.nz_input.specs.Words.{columns}
use Rattle.nz_input.specs.declared.kind.Goal.{Goal}
use Rattle.nz_input.specs.declared.kind.Kind.{Kind}
use Rattle.nz_input.specs.declared.kind.Kind.TheVariants as kind
use Rattle.nz_system.specs.declared.asked.GoalSet.{GoalSet}
use Rattle.nz_system.specs.declared.groups.Group.{Group}
use Rattle.nz_system.specs.declared.groups.Group.TheVariants as group
use Rattle.nz_system.specs.declared.refusal.MeaningFault.TheVariants.{Repeated, Mixed, NoGrading}
use Rattle.nz_system.specs.declared.refusal.SystemRefusal.{SystemRefusal}
use Rattle.nz_system.specs.declared.refusal.SystemRefusal.TheVariants.{Meaning, NoMemory}
use Rattle.nz_system.specs.Groups.{includes, occurs}
use Rattle.nz_system.specs.Contributions.{last}
use Rattle.nz_system.specs.Asked.{goals_of}
use Rattle.nz_system.specs.Meaning.{SystemData, IsMeaning, only_if}
use Rattle.nz_system.specs.Rules.{first, where_fails, count_rows, has_low_modulus, has_no_sign, has_low_denominator}
use Rattle.nz_system.specs.Rules as plain
use Rattle.nz_system.proofs.Ruling.{none-front, map-none, passes}
use Rattle.nz_system.proofs.Growing.{or-false, or-assoc}
use Rattle.nz_ideal.specs.IdealFiles.{has_ideal, exponents_in, exponents, stays, staying, vertex_item, unit_item, ideal_file}
use Rattle.nz_ideal.specs.IdealRules.{is_repeated, is_foreign, item_faults, rows_refusals, item_refusals, items_refusals, goal_faults, ideal_refusals}
use Rattle.nz_ideal.specs.Meanings.{IsIdealMeaning, IsMeaningOf}
use Rattle.nz_ideal.proofs.Ruling.{item-within}

-- ---- empty lists

-- both parts of an empty list are empty
pub empty-front : {A : Type 0} (xs ys : List A) → xs ++ ys ≡ [] → xs ≡ []
empty-front [] ys e = refl
empty-front (x ∷ xs) ys e = absurd cc

pub empty-behind : {A : Type 0} (xs ys : List A) → xs ++ ys ≡ [] → ys ≡ []
empty-behind [] ys e = e
empty-behind (x ∷ xs) ys e = absurd cc

both-empty : {A : Type 0} (xs ys : List A) → xs ≡ [] → ys ≡ [] → xs ++ ys ≡ []
both-empty xs ys e f = ap (λ t. t ++ ys) e ∙ f

-- ---- counts

count-push : (items : List ItemData) (item : ItemData) → count_rows (items ++ item ∷ []) ≡ count_rows items + length item.rows
count-push [] item = omega arith
count-push (x ∷ xs) item = (let r = count-push xs item in omega (arith, r))

-- where no item is refused, the rows are within the limit
pub items-few : (before items : List ItemData) → count_rows before ≤ 960 → items_refusals before items ≡ [] → count_rows before + count_rows items ≤ 960
items-few before [] l e = omega (arith, l)
items-few before (item ∷ items) l e =
    let here = empty-front (item_refusals before item) (items_refusals (before ++ item ∷ []) items) e in
    let later = empty-behind (item_refusals before item) (items_refusals (before ++ item ∷ []) items) e in
    let w = item-within before item l (ap first here) in
    let p = count-push before item in
    let few : count_rows (before ++ item ∷ []) ≤ 960 = omega (arith, w, p) in
    let r = items-few (before ++ item ∷ []) items few later in
    omega (arith, r, p)

length-both : {A : Type 0} (xs ys : List A) → length (xs ++ ys) ≡ length xs + length ys
length-both [] ys = omega arith
length-both (x ∷ xs) ys = (let r = length-both xs ys in omega (arith, r))

count-both : (xs ys : List ItemData) → count_rows (xs ++ ys) ≡ count_rows xs + count_rows ys
count-both [] ys = omega arith
count-both (x ∷ xs) ys = (let r = count-both xs ys in omega (arith, r))

item-parts : (k : Kind) (rows : List Vector) → length (exponents_in k rows) + count_rows (only_if (stays k) (record { kind = k; rows = rows } ∷ [])) ≤ length rows
item-parts kind.MonomialIdeal rows = omega arith
item-parts kind.Grading rows = omega arith
item-parts kind.Ask rows = omega arith
item-parts k rows = omega arith

-- the rows of monomials and of items that stay are no more than all
pub parts-few : (items : List ItemData) → length (exponents items) + count_rows (staying items) ≤ count_rows items
parts-few [] = omega arith
parts-few (item ∷ items) =
    let one = item-parts item.kind item.rows in
    let rest = parts-few items in
    let a = length-both (exponents_in item.kind item.rows) (exponents items) in
    let b = count-both (only_if (stays item.kind) (item ∷ [])) (staying items) in
    omega (arith, one, rest, a, b)

-- ---- the ideal file is a file

each-both : {A : Type 0} (P : A → Type 0) (xs ys : List A) → Each P xs → Each P ys → Each P (xs ++ ys)
each-both P [] ys h k = k
each-both P (x ∷ xs) ys h k = (h.0, each-both P xs ys h.1 k)

each-map : {A B : Type 0} (P : A → Type 0) (Q : B → Type 0) (f : A → B) → ((x : A) → P x → Q (f x)) → (xs : List A) → Each P xs → Each Q (map f xs)
each-map P Q f one [] h = tt
each-map P Q f one (x ∷ xs) h = (one x h.0, each-map P Q f one xs h.1)

exponents-keep : (P : Vector → Type 0) (k : Kind) (rows : List Vector) → (k ≡ kind.MonomialIdeal → Each P rows) → Each P (exponents_in k rows)
exponents-keep P kind.MonomialIdeal rows h = h refl
exponents-keep P k rows h = tt

-- the exponents of a file have its dimension
pub exponents-wide : (d : ℕ) (items : List ItemData) → Each (IsItem d) items → Each (HasWidth d) (exponents items)
exponents-wide d [] h = tt
exponents-wide d (item ∷ items) h =
    each-both (HasWidth d) (exponents_in item.kind item.rows) (exponents items)
    (wide item.kind item.rows h.0.widths)
    (exponents-wide d items h.1)
  where
    wide : (k : Kind) (rows : List Vector) → Each (HasWidth (columns k d)) rows → Each (HasWidth d) (exponents_in k rows)
    wide kind.MonomialIdeal rows w = w
    wide k rows w = tt

exponents-bounded : (d : ℕ) (items : List ItemData) → Each (IsItem d) items → Each IsBounded (exponents items)
exponents-bounded d [] h = tt
exponents-bounded d (item ∷ items) h = each-both IsBounded (exponents_in item.kind item.rows) (exponents items) (exponents-keep IsBounded item.kind item.rows (λ e. h.0.entries)) (exponents-bounded d items h.1)

raised-bounded : (x : Vector) → IsBounded x → IsBounded (at_level (pos 1) x)
raised-bounded [] h = (omega arith, tt)
raised-bounded (z ∷ x) h = (h.0, raised-bounded x h.1)

zeros-bounded : (d : ℕ) → IsBounded (zero_vector d)
zeros-bounded zero = tt
zeros-bounded (suc d) = (omega arith, zeros-bounded d)

units-bounded : (d : ℕ) → Each IsBounded (unit_vectors d)
units-bounded zero = tt
units-bounded (suc d) = ((omega arith, zeros-bounded d), each-map IsBounded IsBounded (λ u. pos 0 ∷ u) (λ u h. (omega arith, h)) (unit_vectors d) (units-bounded d))

units-length : (d : ℕ) → length (unit_vectors d) ≡ d
units-length zero = refl
units-length (suc d) = (let r = units-length d in let m = length-map (unit_vectors d) (λ (u : Vector). pos 0 ∷ u) in omega (arith, r, m))

staying-keep : (P : ItemData → Type 0) (items : List ItemData) → Each P items → Each P (staying items)
staying-keep P [] h = tt
staying-keep P (item ∷ items) h = each-both P (only_if (stays item.kind) (item ∷ [])) (staying items) (one (stays item.kind)) (staying-keep P items h.1)
  where
    one : (b : Bool) → Each P (only_if b (item ∷ []))
    one true = (h.0, tt)
    one false = tt

-- the ideal file is a file
pub ideal-kept : (file : FileData) → IsFile file → items_refusals [] file.items ≡ [] → IsFile (ideal_file file)
ideal-kept file f e =
    let few = items-few [] file.items (omega arith) e in
    let parts = parts-few file.items in
    let raised = length-map (exponents file.items) (at_level (pos 1)) in
    let units = units-length file.amb in
    let high = f.high in
    record {
      low = f.low;
      high = f.high;
      items_keep = (
        record {
          count = (omega (arith, few, parts, raised));
          vector = tt;
          widths = each-map (HasWidth file.amb) (HasWidth (file.amb + 1)) (at_level (pos 1)) (λ x w. length-at_level (pos 1) x ∙ ap (λ n. n + 1) w) (exponents file.items) (exponents-wide file.amb file.items f.items_keep);
          entries = each-map IsBounded IsBounded (at_level (pos 1)) raised-bounded (exponents file.items) (exponents-bounded file.amb file.items f.items_keep);
        },
        (record { count = (omega (arith, units, high)); vector = tt; widths = units_wide file.amb; entries = units-bounded file.amb }, staying-keep (IsItem file.amb) file.items f.items_keep),
      );
    }

-- ---- the ideal file breaks no rule

-- the row breaks no rule but that on the number of rows
pub record IsRowClear (k : Kind) (row : Vector) : Type 0 where
  pub modulus : has_low_modulus k row ≡ false
  pub sign : has_no_sign k row ≡ false
  pub denominator : has_low_denominator k row ≡ false

rows-none : (k : Kind) (item before others : ℕ) (rows : List Vector) → others + (before + length rows) ≤ 1024 → Each (IsRowClear k) rows → plain.rows_refusals k item before others rows ≡ []
rows-none k item before others [] l c = refl
rows-none k item before others (row ∷ rows) l c =
    let limit : nat_lt 1024 (others + (before + 1)) ≡ false = grind (arith, nat_tests, l) in
    rw (limit, c.0.modulus, c.0.sign, c.0.denominator) (rows-none k item (before + 1) others rows (omega (arith, l)) c.1)

entry-end : (l : ℤ) (x : Vector) → entry (at_level l x) (length x) ≡ l
entry-end l [] = refl
entry-end l (z ∷ x) = entry-end l x

last-raised : (l : ℤ) (x : Vector) → last (at_level l x) ≡ l
last-raised l x =
    let n : length (at_level l x) - 1 ≡ length x = (let r = length-at_level l x in omega (arith, r)) in
    ap (entry (at_level l x)) n ∙ entry-end l x

raised-clear : (rows : List Vector) → Each (IsRowClear kind.Vertices) (map (at_level (pos 1)) rows)
raised-clear [] = tt
raised-clear (row ∷ rows) = (record { modulus = refl; sign = refl; denominator = rw (last-raised (pos 1) row) refl }, raised-clear rows)

cone-clear : (rows : List Vector) → Each (IsRowClear kind.Cone) rows
cone-clear [] = tt
cone-clear (row ∷ rows) = (record { modulus = refl; sign = refl; denominator = refl }, cone-clear rows)

stay-clear : (k : Kind) → stays k ≡ true → (rows : List Vector) → Each (IsRowClear k) rows
stay-clear k s [] = tt
stay-clear k s (row ∷ rows) = (one k s, stay-clear k s rows)
  where
    one : (j : Kind) → stays j ≡ true → IsRowClear j row
    one kind.Grading t = record { modulus = refl; sign = refl; denominator = refl }
    one kind.Ask t = record { modulus = refl; sign = refl; denominator = refl }
    one j t = absurd cc

-- an item that stays is no second one, and may stand
faults-none : (b before : List ItemData) (k : Kind) → stays k ≡ true → occurs group.Grading before ≡ occurs group.Grading b → is_repeated b k ≡ false → plain.item_faults true before k ≡ []
faults-none b before kind.Grading s g r = ap (λ t. where_fails t Repeated ++ []) (g ∙ r)
faults-none b before kind.Ask s g r = refl
faults-none b before k s g r = absurd cc

repeated-not : (b : List ItemData) (item : ItemData) → item_refusals b item ≡ [] → is_repeated b item.kind ≡ false
repeated-not b item e =
    passes (is_repeated b item.kind) Repeated
    (none-front (where_fails (is_repeated b item.kind) Repeated) (where_fails (is_foreign item.kind) Mixed)
    (map-none (Meaning (length b + 1) 0) (item_faults b item.kind)
    (none-front (map (Meaning (length b + 1) 0) (item_faults b item.kind)) (rows_refusals item.kind (length b + 1) 0 (count_rows b) item.rows) (ap first e))))

item-none : (b before : List ItemData) (item : ItemData) → stays item.kind ≡ true → occurs group.Grading before ≡ occurs group.Grading b → item_refusals b item ≡ [] → count_rows before + length item.rows ≤ 1024 → plain.item_refusals true before item ≡ []
item-none b before item s g e l =
    both-empty (map (Meaning (length before + 1) 0) (plain.item_faults true before item.kind)) (plain.rows_refusals item.kind (length before + 1) 0 (count_rows before) item.rows)
    (ap (map (Meaning (length before + 1) 0)) (faults-none b before item.kind s g (repeated-not b item e)))
    (rows-none item.kind (length before + 1) 0 (count_rows before) item.rows (omega (arith, l)) (stay-clear item.kind s item.rows))

occurs-push : (g : Group) (items : List ItemData) (item : ItemData) → occurs g (items ++ item ∷ []) ≡ (occurs g items || includes g item.kind)
occurs-push g [] item = or-false (includes g item.kind)
occurs-push g (x ∷ xs) item = ap (λ b. includes g x.kind || b) (occurs-push g xs item) ∙ or-assoc (includes g x.kind) (occurs g xs) (includes g item.kind)

or-none : (b : Bool) → (b || false) ≡ b
or-none true = refl
or-none false = refl

-- what does not stay is no `grading`
gone : (k : Kind) → stays k ≡ false → includes group.Grading k ≡ false
gone kind.Grading s = absurd cc
gone k s = refl

step-none : (b before : List ItemData) (item : ItemData) (rest : List ItemData) (s : Bool) → stays item.kind ≡ s → occurs group.Grading before ≡ occurs group.Grading b → item_refusals b item ≡ [] → count_rows before + count_rows (only_if s (item ∷ []) ++ rest) ≤ 1024
    → ((others : List ItemData) → occurs group.Grading others ≡ occurs group.Grading (b ++ item ∷ []) → count_rows others + count_rows rest ≤ 1024 → plain.items_refusals true others rest ≡ []) → plain.items_refusals true before (only_if s (item ∷ []) ++ rest) ≡ []
step-none b before item rest true s g e l later =
    let p = count-push before item in
    both-empty (plain.item_refusals true before item) (plain.items_refusals true (before ++ item ∷ []) rest)
    (item-none b before item s g e (omega (arith, l)))
    (later (before ++ item ∷ []) (occurs-push group.Grading before item ∙ ap (λ t. t || includes group.Grading item.kind) g ∙ sym (occurs-push group.Grading b item)) (omega (arith, l, p)))
step-none b before item rest false s g e l later =
    later before (g ∙ sym (occurs-push group.Grading b item ∙ ap (λ t. occurs group.Grading b || t) (gone item.kind s) ∙ or-none (occurs group.Grading b))) l

items-none : (b before items : List ItemData) → occurs group.Grading before ≡ occurs group.Grading b → items_refusals b items ≡ [] → count_rows before + count_rows (staying items) ≤ 1024 → plain.items_refusals true before (staying items) ≡ []
items-none b before [] g e l = refl
items-none b before (item ∷ items) g e l =
    step-none b before item (staying items) (stays item.kind) refl g (empty-front (item_refusals b item) (items_refusals (b ++ item ∷ []) items) e) l
    (λ others h m. items-none (b ++ item ∷ []) others items h (empty-behind (item_refusals b item) (items_refusals (b ++ item ∷ []) items) e) m)

-- the `grading` stays
staying-graded : (items : List ItemData) → occurs group.Grading (staying items) ≡ occurs group.Grading items
staying-graded [] = refl
staying-graded (item ∷ items) = one item.kind item.rows (staying-graded items)
  where
    one : (k : Kind) (rows : List Vector) → occurs group.Grading (staying items) ≡ occurs group.Grading items → occurs group.Grading (only_if (stays k) (record { kind = k; rows = rows } ∷ []) ++ staying items) ≡ (includes group.Grading k || occurs group.Grading items)
    one kind.Grading rows h = refl
    one kind.Ask rows h = h
    one k rows h = h

and-none : (b : Bool) → (b && false) ≡ false
and-none true = refl
and-none false = refl

-- the ideal file of a file that breaks no rule breaks none
pub ideal-clear : (file : FileData) (goals : GoalSet) → IsFile file → ideal_refusals file goals ≡ [] → plain.refusals (ideal_file file) goals ≡ []
ideal-clear file goals f e =
    let own = items_refusals [] file.items in
    let items = empty-front own (map (Meaning 0 0) (goal_faults file.items goals)) e in
    let goal = empty-behind own (map (Meaning 0 0) (goal_faults file.items goals)) e in
    let few = items-few [] file.items (omega arith) items in
    let parts = parts-few file.items in
    let raised = length-map (exponents file.items) (at_level (pos 1)) in
    let units = units-length file.amb in
    let high = f.high in
    let first_item = vertex_item (exponents file.items) in
    let second_item = unit_item file.amb in
    let rest = plain.items_refusals true (first_item ∷ second_item ∷ []) (staying file.items) in
    both-empty (plain.items_refusals true [] (ideal_file file).items) (map (Meaning 0 0) (plain.goal_faults (ideal_file file).items goals))
    (both-empty (plain.item_refusals true [] first_item) (plain.item_refusals true (first_item ∷ []) second_item ++ rest)
    (rows-none kind.Vertices 1 0 0 first_item.rows (omega (arith, few, parts, raised)) (raised-clear (exponents file.items)))
    (both-empty (plain.item_refusals true (first_item ∷ []) second_item) rest
    (rows-none kind.Cone 2 0 (count_rows (first_item ∷ [])) second_item.rows (omega (arith, few, parts, raised, units, high)) (cone-clear second_item.rows))
    (items-none [] (first_item ∷ second_item ∷ []) file.items refl items (omega (arith, few, parts, raised, units, high)))))
    (rw (and-none (plain.wants_level goals)) (rw (staying-graded file.items) (ap (map (Meaning 0 0)) (append-nil (where_fails (goals.degree_one && not (occurs group.Grading file.items)) NoGrading)) ∙ goal)))

-- ---- the meaning of a file

no-first : {A : Type 0} (xs : List A) (x : A) → xs ≡ [] → ¬ (first xs ≡ Some x)
no-first [] x e f = cc
no-first (y ∷ xs) x e f = cc

-- what its ideal file means, a file with monomials means
pub ideal-meaning : (file : FileData) (words : List Goal) (result : Result SystemData SystemRefusal) → IsFile file → ideal_refusals file (goals_of file words) ≡ [] → IsMeaning (ideal_file file) words result → IsIdealMeaning file words result
ideal-meaning file words (Ok s) f e h = (e, h.1)
ideal-meaning file words (Err (Meaning item row fault)) f e h = absurd (no-first (plain.refusals (ideal_file file) (goals_of file words)) (Meaning item row fault) (ideal-clear file (goals_of file words) f e) h)
ideal-meaning file words (Err NoMemory) f e h = tt

pub meaning-ideal : (file : FileData) (words : List Goal) (result : Result SystemData SystemRefusal) → has_ideal file ≡ true → IsIdealMeaning file words result → IsMeaningOf file words result
meaning-ideal file words (Ok s) e h = rw e h
meaning-ideal file words (Err (Meaning item row fault)) e h = rw e h
meaning-ideal file words (Err NoMemory) e h = tt

pub meaning-plain : (file : FileData) (words : List Goal) (result : Result SystemData SystemRefusal) → has_ideal file ≡ false → IsMeaning file words result → IsMeaningOf file words result
meaning-plain file words (Ok s) e h = rw e h
meaning-plain file words (Err (Meaning item row fault)) e h = rw e h
meaning-plain file words (Err NoMemory) e h = tt

-- the parts that were made are those of the ideal file
pub filed : (file : FileData) (amb : ℕ) (items : List ItemData) (goal_words : List Goal) (made : List ItemData) (copied : List Goal) → record { amb = amb; items = items; goals = goal_words } ≡ file → made ≡ vertex_item (exponents items) ∷ unit_item amb ∷ staying items → copied ≡ goal_words → record { amb = amb; items = made; goals = copied } ≡ ideal_file file
filed file amb items goal_words made copied same m g =
    ap (λ (x : List ItemData). with_parts amb x copied) m ∙ ap (with_parts amb (vertex_item (exponents items) ∷ unit_item amb ∷ staying items)) g ∙ ap ideal_file same
  where
    with_parts : ℕ → List ItemData → List Goal → FileData
    with_parts d xs gs = record { amb = d; items = xs; goals = gs }
