-- What the rows of a file that breaks no rule give has the width of the system.
use Rattle.std.proofs.Common.{◌≡◌, ℕ, zero, suc, ◌+◌, ◌-◌, ◌≤◌, List, [], ◌∷◌, ◌++◌, length, refl, sym, ap, ◌∙◌, arith, Bool, true, false, ◌||◌, None}
use Rattle.std.proofs.lemmas.Int.{ints}
use Rattle.std.specs.Prelude.{ℤ, pos, negsuc, ◌≤ℤ◌, IsTrue, not, ◌&&◌, ◌||◌, nat_lt, map, replicate, int_lt}
use Rattle.std.specs.List.{flat_map}
use Rattle.std.specs.List.{AllByRecursion as Each}
use Rattle.nz_spec.specs.Vectors.{Vector, HasWidth, zero_vector, entry, level_of}
use Rattle.nz_input.specs.declared.kind.Kind.{Kind}
use Rattle.nz_input.specs.declared.kind.Kind.TheVariants as kind
use Rattle.nz_input.specs.Words.{columns}
use Rattle.nz_system.specs.declared.contribution.Contribution.{Contribution}
use Rattle.nz_system.specs.declared.contribution.Contribution.TheVariants.{Zero, Multiple, NotNegative, Generator, LatticeGenerator, Degree, Asked}
use Rattle.nz_system.specs.Contributions.{at_level, coordinate_form, sign_form, sign_forms, extended, contributions, given, front, last}
use Rattle.nz_spec.specs.Systems.{Congruence}
use Rattle.nz_input.specs.Files.{ItemData, FileData, IsItem, IsFile}
use Rattle.nz_system.specs.declared.asked.GoalSet.{GoalSet}
use Rattle.nz_system.specs.declared.groups.Group.TheVariants as group
use Rattle.nz_system.specs.declared.refusal.MeaningFault.TheVariants.{RowLimit, Modulus, Sign, Denominator, NoGrading, NoLevel}
use Rattle.nz_system.specs.declared.refusal.SystemRefusal.TheVariants.{Meaning}
use Rattle.nz_system.specs.Groups.{occurs, is_leveled}
use Rattle.nz_system.specs.Rules.{row_faults, has_no_sign, has_low_denominator, rows_refusals, item_refusals, item_faults, count_rows, has_low_modulus, first, where_fails, wants_level, goal_faults, items_refusals, refusals, forbids_lattice}
use Rattle.nz_system.proofs.Ruling.{first-behind, none-front, map-none, passes, length-take}
use Rattle.nz_system.specs.Meaning.{orthant, of_level, all_given, orthant_where, level_unit, level_where, width_of, zero_of, multiple_of, not_negative_of, generator_of, degree_of, asked_of}

-- the form or vector has the width of the system, a modulus is at least 1, a grading has 0 at the level, and an asked vector has no entry for it
abbrev pub Fits : Bool → ℕ → Contribution → Type 0
Fits level d (Zero f) = HasWidth (width_of level d) f
Fits level d (Multiple f m) = HasWidth (width_of level d) f × (pos 1 ≤ℤ m)
Fits level d (NotNegative f) = HasWidth (width_of level d) f
Fits level d (Generator v) = HasWidth (width_of level d) v
Fits level d (LatticeGenerator v) = HasWidth (width_of level d) v
Fits level d (Degree f) = HasWidth (width_of level d) f × (IsTrue level → level_of f ≡ pos 0)
Fits level d (Asked v) = HasWidth d v

length-append : (xs ys : Vector) → length (xs ++ ys) ≡ length xs + length ys
length-append [] ys = omega arith
length-append (x ∷ xs) ys = (let r = length-append xs ys in omega (arith, r))

-- a row with its level has the width of the system
pub extended-width : (level : Bool) (d : ℕ) (row : Vector) → HasWidth d row → HasWidth (width_of level d) (extended level row)
extended-width true d row w = length-append row (pos 0 ∷ []) ∙ ap (λ n. n + 1) w
extended-width false d row w = length-append row [] ∙ ap (λ n. n + 0) w ∙ (omega arith)

level-zero : (row : Vector) → level_of (row ++ pos 0 ∷ []) ≡ pos 0
level-zero [] = refl
level-zero (a ∷ []) = refl
level-zero (a ∷ b ∷ row) = level-zero (b ∷ row)

-- a row with its level ends with 0 there
extended-zero : (level : Bool) (row : Vector) → IsTrue level → level_of (extended level row) ≡ pos 0
extended-zero true row t = level-zero row
extended-zero false row t = absurd cc

each-append : {A : Type 0} (P : A → Type 0) (xs ys : List A) → Each P xs → Each P ys → Each P (xs ++ ys)
each-append P [] ys h k = k
each-append P (x ∷ xs) ys h k = (h.0, each-append P xs ys h.1 k)

-- what holds for all that each one gives holds for all
each-flat : {A B : Type 0} (P : B → Type 0) (Q : A → Type 0) (pick : B → List A) → ((c : B) → P c → Each Q (pick c)) → (cs : List B) → Each P cs → Each Q (flat_map pick cs)
each-flat P Q pick one [] h = tt
each-flat P Q pick one (c ∷ cs) h = each-append Q (pick c) (flat_map pick cs) (one c h.0) (each-flat P Q pick one cs h.1)

fits-zero : (level : Bool) (d : ℕ) (c : Contribution) → Fits level d c → Each (HasWidth (width_of level d)) (zero_of c)
fits-zero level d (Zero f) h = (h, tt)
fits-zero level d (Multiple f m) h = tt
fits-zero level d (NotNegative f) h = tt
fits-zero level d (Generator v) h = tt
fits-zero level d (LatticeGenerator v) h = tt
fits-zero level d (Degree f) h = tt
fits-zero level d (Asked v) h = tt

pub zero-widths : (level : Bool) (d : ℕ) (cs : List Contribution) → Each (Fits level d) cs → Each (HasWidth (width_of level d)) (flat_map zero_of cs)
zero-widths level d = each-flat (Fits level d) (HasWidth (width_of level d)) zero_of (fits-zero level d)

fits-multiple : (level : Bool) (d : ℕ) (c : Contribution) → Fits level d c → Each (λ (c : Congruence). HasWidth (width_of level d) c.form) (multiple_of c)
fits-multiple level d (Zero f) h = tt
fits-multiple level d (Multiple f m) h = (h.0, tt)
fits-multiple level d (NotNegative f) h = tt
fits-multiple level d (Generator v) h = tt
fits-multiple level d (LatticeGenerator v) h = tt
fits-multiple level d (Degree f) h = tt
fits-multiple level d (Asked v) h = tt

pub multiple-widths : (level : Bool) (d : ℕ) (cs : List Contribution) → Each (Fits level d) cs → Each (λ (c : Congruence). HasWidth (width_of level d) c.form) (flat_map multiple_of cs)
multiple-widths level d = each-flat (Fits level d) (λ (c : Congruence). HasWidth (width_of level d) c.form) multiple_of (fits-multiple level d)

fits-modulus : (level : Bool) (d : ℕ) (c : Contribution) → Fits level d c → Each (λ (c : Congruence). pos 1 ≤ℤ c.modulus) (multiple_of c)
fits-modulus level d (Zero f) h = tt
fits-modulus level d (Multiple f m) h = (h.1, tt)
fits-modulus level d (NotNegative f) h = tt
fits-modulus level d (Generator v) h = tt
fits-modulus level d (LatticeGenerator v) h = tt
fits-modulus level d (Degree f) h = tt
fits-modulus level d (Asked v) h = tt

pub modulus-widths : (level : Bool) (d : ℕ) (cs : List Contribution) → Each (Fits level d) cs → Each (λ (c : Congruence). pos 1 ≤ℤ c.modulus) (flat_map multiple_of cs)
modulus-widths level d = each-flat (Fits level d) (λ (c : Congruence). pos 1 ≤ℤ c.modulus) multiple_of (fits-modulus level d)

fits-not_negative : (level : Bool) (d : ℕ) (c : Contribution) → Fits level d c → Each (HasWidth (width_of level d)) (not_negative_of c)
fits-not_negative level d (Zero f) h = tt
fits-not_negative level d (Multiple f m) h = tt
fits-not_negative level d (NotNegative f) h = (h, tt)
fits-not_negative level d (Generator v) h = tt
fits-not_negative level d (LatticeGenerator v) h = tt
fits-not_negative level d (Degree f) h = tt
fits-not_negative level d (Asked v) h = tt

pub not_negative-widths : (level : Bool) (d : ℕ) (cs : List Contribution) → Each (Fits level d) cs → Each (HasWidth (width_of level d)) (flat_map not_negative_of cs)
not_negative-widths level d = each-flat (Fits level d) (HasWidth (width_of level d)) not_negative_of (fits-not_negative level d)

fits-generator : (level : Bool) (d : ℕ) (c : Contribution) → Fits level d c → Each (HasWidth (width_of level d)) (generator_of c)
fits-generator level d (Zero f) h = tt
fits-generator level d (Multiple f m) h = tt
fits-generator level d (NotNegative f) h = tt
fits-generator level d (Generator v) h = (h, tt)
fits-generator level d (LatticeGenerator v) h = tt
fits-generator level d (Degree f) h = tt
fits-generator level d (Asked v) h = tt

pub generator-widths : (level : Bool) (d : ℕ) (cs : List Contribution) → Each (Fits level d) cs → Each (HasWidth (width_of level d)) (flat_map generator_of cs)
generator-widths level d = each-flat (Fits level d) (HasWidth (width_of level d)) generator_of (fits-generator level d)

fits-degree : (level : Bool) (d : ℕ) (c : Contribution) → Fits level d c → Each (HasWidth (width_of level d)) (degree_of c)
fits-degree level d (Zero f) h = tt
fits-degree level d (Multiple f m) h = tt
fits-degree level d (NotNegative f) h = tt
fits-degree level d (Generator v) h = tt
fits-degree level d (LatticeGenerator v) h = tt
fits-degree level d (Degree f) h = (h.0, tt)
fits-degree level d (Asked v) h = tt

pub degree-widths : (level : Bool) (d : ℕ) (cs : List Contribution) → Each (Fits level d) cs → Each (HasWidth (width_of level d)) (flat_map degree_of cs)
degree-widths level d = each-flat (Fits level d) (HasWidth (width_of level d)) degree_of (fits-degree level d)

fits-no_level : (level : Bool) (d : ℕ) → IsTrue level → (c : Contribution) → Fits level d c → Each (λ f. level_of f ≡ pos 0) (degree_of c)
fits-no_level level d t (Zero f) h = tt
fits-no_level level d t (Multiple f m) h = tt
fits-no_level level d t (NotNegative f) h = tt
fits-no_level level d t (Generator v) h = tt
fits-no_level level d t (LatticeGenerator v) h = tt
fits-no_level level d t (Degree f) h = (h.1 t, tt)
fits-no_level level d t (Asked v) h = tt

pub no_level-degrees : (level : Bool) (d : ℕ) (cs : List Contribution) → Each (Fits level d) cs → IsTrue level → Each (λ f. level_of f ≡ pos 0) (flat_map degree_of cs)
no_level-degrees level d cs h t = each-flat (Fits level d) (λ (f : Vector). level_of f ≡ pos 0) degree_of (fits-no_level level d t) cs h

fits-asked : (level : Bool) (d : ℕ) (c : Contribution) → Fits level d c → Each (HasWidth d) (asked_of c)
fits-asked level d (Zero f) h = tt
fits-asked level d (Multiple f m) h = tt
fits-asked level d (NotNegative f) h = tt
fits-asked level d (Generator v) h = tt
fits-asked level d (LatticeGenerator v) h = tt
fits-asked level d (Degree f) h = tt
fits-asked level d (Asked v) h = (h, tt)

pub asked-widths : (level : Bool) (d : ℕ) (cs : List Contribution) → Each (Fits level d) cs → Each (HasWidth d) (flat_map asked_of cs)
asked-widths level d = each-flat (Fits level d) (HasWidth d) asked_of (fits-asked level d)

pub tail-none : {A : Type 0} (xs ys : List A) → first (xs ++ ys) ≡ None → first ys ≡ None
tail-none xs ys e = sym (first-behind xs ys (none-front xs ys e)) ∙ e

goals-clear : (file : FileData) (goals : GoalSet) → refusals file goals ≡ [] → first (goal_faults file.items goals) ≡ None
goals-clear file goals e = map-none (Meaning 0 0) (goal_faults file.items goals) (tail-none (items_refusals (forbids_lattice file.items) [] file.items) (map (Meaning 0 0) (goal_faults file.items goals)) (ap first e))

implied : (a b : Bool) → (a && not b) ≡ false → IsTrue a → IsTrue b
implied true true e t = refl
implied true false e t = absurd cc
implied false b e t = absurd cc

-- module generators and lattice points are asked with a level only
levelled : (file : FileData) (goals : GoalSet) → refusals file goals ≡ [] → IsTrue (wants_level goals) → IsTrue (occurs group.Leveled file.items)
levelled file goals e = implied (wants_level goals) (occurs group.Leveled file.items) (passes (wants_level goals && not (occurs group.Leveled file.items)) NoLevel (tail-none (where_fails (goals.degree_one && not (occurs group.Grading file.items)) NoGrading) (where_fails (wants_level goals && not (occurs group.Leveled file.items)) NoLevel) (goals-clear file goals e)))

first_true : (a b : Bool) → IsTrue a → IsTrue (a || b)
first_true true b t = refl
first_true false b t = absurd cc

second_true : (a b : Bool) → IsTrue b → IsTrue (a || b)
second_true true b t = refl
second_true false b t = t

pub modules-level : (file : FileData) (goals : GoalSet) → refusals file goals ≡ [] → IsTrue goals.modules → IsTrue (occurs group.Leveled file.items)
modules-level file goals e t = levelled file goals e (first_true goals.modules goals.lattice_points t)

pub points-level : (file : FileData) (goals : GoalSet) → refusals file goals ≡ [] → IsTrue goals.lattice_points → IsTrue (occurs group.Leveled file.items)
points-level file goals e t = levelled file goals e (second_true goals.modules goals.lattice_points t)

-- elements of degree 1 are asked with a `grading` only
pub degree-graded : (file : FileData) (goals : GoalSet) → refusals file goals ≡ [] → IsTrue goals.degree_one → IsTrue (occurs group.Grading file.items)
degree-graded file goals e = implied goals.degree_one (occurs group.Grading file.items) (passes (goals.degree_one && not (occurs group.Grading file.items)) NoGrading (none-front (where_fails (goals.degree_one && not (occurs group.Grading file.items)) NoGrading) (where_fails (wants_level goals && not (occurs group.Leveled file.items)) NoLevel) (goals-clear file goals e)))

zeros-length : (n : ℕ) → length (zero_vector n) ≡ n
zeros-length zero = refl
zeros-length (suc n) = (let r = zeros-length n in omega (arith, r))

-- the form of the level, and the vertex 0, have the width of a system with a level
pub unit-width : (d : ℕ) → HasWidth (width_of true d) (level_unit d)
unit-width d = (let a = length-append (zero_vector d) (pos 1 ∷ []) in let z = zeros-length d in omega (arith, a, z))

-- what the level gives
pub level-fits : (level vertex : Bool) (d : ℕ) → Each (Fits level d) (level_where level vertex d)
level-fits true true d = (unit-width d, (unit-width d, tt))
level-fits true false d = (unit-width d, tt)
level-fits false vertex d = tt

each-map : {A B : Type 0} (P : A → Type 0) (Q : B → Type 0) (f : A → B) → ((x : A) → P x → Q (f x)) → (xs : List A) → Each P xs → Each Q (map f xs)
each-map P Q f one [] h = tt
each-map P Q f one (x ∷ xs) h = (one x h.0, each-map P Q f one xs h.1)

coordinate-width : (d i : ℕ) (a : ℤ) → i + 1 ≤ d → length (coordinate_form d i a) ≡ d
coordinate-width d i a l =
    let s = length-append (zero_vector i) (a ∷ zero_vector (d - suc i)) in
    let z = zeros-length i in
    let t = zeros-length (d - suc i) in
    omega (arith, s, z, t, l)

sign-width : (d w : ℕ) (behind : Vector) (i : ℕ) (a : ℤ) → i + 1 ≤ d → d + length behind ≡ w → Each (HasWidth w) (sign_form d behind i a)
sign-width d w behind i (pos zero) l b = tt
sign-width d w behind i (pos (suc n)) l b = (length-append (coordinate_form d i (pos (suc n))) behind ∙ ap (λ k. k + length behind) (coordinate-width d i (pos (suc n)) l) ∙ b, tt)
sign-width d w behind i (negsuc n) l b = (length-append (coordinate_form d i (negsuc n)) behind ∙ ap (λ k. k + length behind) (coordinate-width d i (negsuc n) l) ∙ b, tt)

signs-width : (w : ℕ) (row behind : Vector) (n : ℕ) → n ≤ length row → length row + length behind ≡ w → Each (HasWidth w) (sign_forms row behind n)
signs-width w row behind zero l b = tt
signs-width w row behind (suc n) l b = each-append (HasWidth w) (sign_forms row behind n) (sign_form (length row) behind n (entry row n)) (signs-width w row behind n (omega (arith, l)) b) (sign-width (length row) w behind n (entry row n) (omega (arith, l)) b)

-- the forms of signs have the width of the system
signs-fit : (level : Bool) (d : ℕ) (row behind : Vector) → length row + length behind ≡ width_of level d → Each (Fits level d) (map NotNegative (sign_forms row behind (length row)))
signs-fit level d row behind b = each-map (HasWidth (width_of level d)) (Fits level d) NotNegative (λ f h. h) (sign_forms row behind (length row)) (signs-width (width_of level d) row behind (length row) (omega arith) b)

at-level-width : (level : Bool) (d : ℕ) (z : ℤ) → d + length (at_level level z) ≡ width_of level d
at-level-width true d z = refl
at-level-width false d z = omega arith

leveled-width : (level : Bool) (d n : ℕ) → IsTrue level → n ≡ d + 1 → n ≡ width_of level d
leveled-width true d n t e = e
leveled-width false d n t e = absurd cc

ones-length : (d : ℕ) → length (replicate d (pos 1)) ≡ d
ones-length zero = refl
ones-length (suc d) = (let r = ones-length d in omega (arith, r))

-- what the orthant gives
pub orthant-fits : (wanted level : Bool) (d : ℕ) → Each (Fits level d) (orthant_where wanted level d)
orthant-fits true level d = signs-fit level d (replicate d (pos 1)) (at_level level (pos 0)) (ap (λ n. n + length (at_level level (pos 0))) (ones-length d) ∙ at-level-width level d (pos 0))
orthant-fits false level d = tt

modulus-from : (z : ℤ) → int_lt z (pos 1) ≡ false → pos 1 ≤ℤ z
modulus-from (pos zero) e = absurd cc
modulus-from (pos (suc n)) e = omega (arith, ints)
modulus-from (negsuc n) e = absurd cc

front-width : (row : Vector) (k : ℕ) → length row ≡ k + 1 → length (front row) ≡ k
front-width row k e = length-take row (length row - 1) (omega (arith, e)) ∙ (omega (arith, e))

-- what a row gives has the width of the system, where it has that of its kind, its modulus is not below 1, and there is a level where the kind wants one
pub contributions-fit : (level : Bool) (d : ℕ) (k : Kind) (row : Vector) → length row ≡ columns k d → (is_leveled k ≡ true → IsTrue level) → has_low_modulus k row ≡ false → Each (Fits level d) (contributions level k row)
contributions-fit level d kind.Equations row w v m = (extended-width level d row w, tt)
contributions-fit level d kind.Inequalities row w v m = (extended-width level d row w, tt)
contributions-fit level d kind.Congruences row w v m = ((extended-width level d (front row) (front-width row d w), modulus-from (last row) m), tt)
contributions-fit level d kind.Signs row w v m = signs-fit level d row (at_level level (pos 0)) (ap (λ n. n + length (at_level level (pos 0))) w ∙ at-level-width level d (pos 0))
contributions-fit level d kind.StrictSigns row w v m = signs-fit level d row (negsuc 0 ∷ []) (leveled-width level d (length row + length (negsuc 0 ∷ [])) (v refl) (ap (λ n. n + 1) w))
contributions-fit level d kind.StrictInequalities row w v m = (leveled-width level d (length (row ++ negsuc 0 ∷ [])) (v refl) (length-append row (negsuc 0 ∷ []) ∙ ap (λ n. n + 1) w), tt)
contributions-fit level d kind.InhomInequalities row w v m = (leveled-width level d (length row) (v refl) w, tt)
contributions-fit level d kind.InhomEquations row w v m = (leveled-width level d (length row) (v refl) w, tt)
contributions-fit level d kind.InhomCongruences row w v m = ((leveled-width level d (length (front row)) (v refl) (front-width row (d + 1) (w ∙ (omega arith))), modulus-from (last row) m), tt)
contributions-fit level d kind.Cone row w v m = (extended-width level d row w, tt)
contributions-fit level d kind.ConeAndLattice row w v m = (extended-width level d row w, (extended-width level d row w, tt))
contributions-fit level d kind.Vertices row w v m = (leveled-width level d (length row) (v refl) w, tt)
contributions-fit level d kind.Grading row w v m = ((extended-width level d row w, extended-zero level row), tt)
contributions-fit level d kind.Ask row w v m = (w, tt)
contributions-fit level d kind.MonomialIdeal row w v m = tt

or-left : (a b : Bool) → a ≡ true → IsTrue (a || b)
or-left true b e = refl
or-left false b e = absurd cc

or-right : (a b : Bool) → IsTrue b → IsTrue (a || b)
or-right true b e = refl
or-right false b e = e

rows-fit : (level : Bool) (d : ℕ) (k : Kind) (rows : List Vector) → Each (HasWidth (columns k d)) rows → (is_leveled k ≡ true → IsTrue level) → Each (λ (r : Vector). has_low_modulus k r ≡ false) rows → Each (Fits level d) (flat_map (contributions level k) rows)
rows-fit level d k [] w v m = tt
rows-fit level d k (row ∷ rows) w v m = each-append (Fits level d) (contributions level k row) (flat_map (contributions level k) rows) (contributions-fit level d k row w.0 v m.0) (rows-fit level d k rows w.1 v m.1)

-- no modulus of the item is below 1
abbrev pub HasModuli : ItemData → Type 0
HasModuli item = Each (λ (r : Vector). has_low_modulus item.kind r ≡ false) item.rows

-- what the items give has the width of the system
pub given-fit : (level : Bool) (d : ℕ) (items : List ItemData) → Each (IsItem d) items → (IsTrue (occurs group.Leveled items) → IsTrue level) → Each HasModuli items → Each (Fits level d) (given level items)
given-fit level d [] h v m = tt
given-fit level d (item ∷ items) h v m =
    each-append (Fits level d) (flat_map (contributions level item.kind) item.rows) (given level items)
    (rows-fit level d item.kind item.rows h.0.widths (λ e. v (or-left (is_leveled item.kind) (occurs group.Leveled items) e)) m.0)
    (given-fit level d items h.1 (λ e. v (or-right (is_leveled item.kind) (occurs group.Leveled items) e)) m.1)

row-clear : (k : Kind) (count : ℕ) (row : Vector) → first (row_faults k count row) ≡ None → has_low_modulus k row ≡ false
row-clear k count row e =
    let rest = where_fails (has_no_sign k row) Sign ++ where_fails (has_low_denominator k row) Denominator in
    passes (has_low_modulus k row) Modulus (none-front (where_fails (has_low_modulus k row) Modulus) rest (tail-none (where_fails (nat_lt 1024 count) RowLimit) (where_fails (has_low_modulus k row) Modulus ++ rest) e))

rows-clear : (k : Kind) (item before others : ℕ) (rows : List Vector) → first (rows_refusals k item before others rows) ≡ None → Each (λ (r : Vector). has_low_modulus k r ≡ false) rows
rows-clear k item before others [] e = tt
rows-clear k item before others (row ∷ rows) e =
    let faults = map (Meaning item (before + 1)) (row_faults k (others + (before + 1)) row) in
    let later = rows_refusals k item (before + 1) others rows in (
      row-clear k (others + (before + 1)) row (map-none (Meaning item (before + 1)) (row_faults k (others + (before + 1)) row) (none-front faults later e)),
      rows-clear k item (before + 1) others rows (tail-none faults later e),
    )

-- where no item is refused, no modulus is below 1
pub items-clear : (forbidden : Bool) (before items : List ItemData) → first (items_refusals forbidden before items) ≡ None → Each HasModuli items
items-clear forbidden before [] e = tt
items-clear forbidden before (item ∷ items) e =
    let here = item_refusals forbidden before item in
    let later = items_refusals forbidden (before ++ item ∷ []) items in (
      rows-clear item.kind (length before + 1) 0 (count_rows before) item.rows (tail-none (map (Meaning (length before + 1) 0) (item_faults forbidden before item.kind)) (rows_refusals item.kind (length before + 1) 0 (count_rows before) item.rows) (none-front here later e)),
      items-clear forbidden (before ++ item ∷ []) items (tail-none here later e),
    )

-- all that a file gives has the width of its system
pub all-fit : (file : FileData) (goals : GoalSet) → IsFile file → refusals file goals ≡ [] → Each (Fits (occurs group.Leveled file.items) file.amb) (all_given (occurs group.Leveled file.items) file)
all-fit file goals f e =
    let level = occurs group.Leveled file.items in
    let fits = Fits level file.amb in
    let clear = items-clear (forbids_lattice file.items) [] file.items (none-front (items_refusals (forbids_lattice file.items) [] file.items) (map (Meaning 0 0) (goal_faults file.items goals)) (ap first e)) in
    each-append fits (given level file.items) (orthant level file ++ of_level level file) (given-fit level file.amb file.items f.items_keep (λ t. t) clear)
    (each-append fits (orthant level file) (of_level level file) (orthant-fits (not (occurs group.Bounding file.items)) level file.amb)
    (level-fits level (occurs group.Cone file.items && not (occurs group.Vertices file.items)) file.amb))
