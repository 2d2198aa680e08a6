-- What every system keeps holds of the system of a file that breaks no rule.
use Rattle.std.proofs.Common.{◌≡◌, ℕ, ◌+◌, ◌-◌, ◌≤◌, List, [], ◌∷◌, ◌++◌, length, refl, sym, ap, ◌∙◌, arith, Bool, true, false, None, Some, subst, append_assoc}
use Rattle.std.proofs.lemmas.List.Elements.{Contains-push, Contains-append_left, Contains-append_right}
use Rattle.std.proofs.lemmas.Grind.{flat_map-append}
use Rattle.std.specs.Prelude.{pos, IsTrue, not, ◌&&◌, ◌||◌, IfSome, IsSome, Contains, map, replicate}
use Rattle.std.specs.List.{flat_map}
use Rattle.std.specs.List.{AllByRecursion as Each}
use Rattle.nz_spec.specs.Vectors.{Vector, HasWidth, zero_vector, level_of}
use Rattle.nz_spec.specs.Systems.{file_width}
use Rattle.nz_input.specs.declared.kind.Kind.{Kind}
use Rattle.nz_input.specs.declared.kind.Kind.TheVariants as kind
use Rattle.nz_input.specs.declared.kind.Mode.{Mode}
use Rattle.nz_input.specs.declared.kind.Mode.TheVariants.{Primal}
use Rattle.nz_input.specs.Files.{ItemData, FileData, IsItem, IsFile, HasRows}
use Rattle.nz_input.specs.Words.{is_matrix}
use Rattle.nz_system.specs.declared.asked.GoalSet.{GoalSet}
use Rattle.nz_system.specs.declared.contribution.Contribution.{Contribution}
use Rattle.nz_system.specs.declared.contribution.Contribution.TheVariants.{NotNegative, Generator}
use Rattle.nz_system.specs.declared.groups.Group.TheVariants as group
use Rattle.nz_system.specs.declared.refusal.MeaningFault.TheVariants.{Repeated, Mixed}
use Rattle.nz_system.specs.declared.refusal.SystemRefusal.TheVariants.{Meaning}
use Rattle.nz_system.specs.Groups.{occurs, includes, is_leveled, is_generating}
use Rattle.nz_system.specs.Contributions.{at_level, sign_forms, contributions, given}
use Rattle.nz_system.specs.Rules.{first, where_fails, is_repeated, is_mixed, item_faults, rows_refusals, count_rows, item_refusals, items_refusals, goal_faults, refusals, forbids_lattice}
use Rattle.nz_system.specs.Meaning.{only_if, there, system_given, system_of, IsKept, orthant, orthant_where, of_level, all_given, level_unit, level_where, width_of, generator_of, lattice_of, degree_of, not_negative_of, asked_of}
use Rattle.nz_system.proofs.Ruling.{none-front, map-none, passes}
use Rattle.nz_system.proofs.Keeping.{points-level, tail-none, all-fit, zero-widths, multiple-widths, modulus-widths, not_negative-widths, generator-widths, degree-widths, no_level-degrees, asked-widths, modules-level, degree-graded}

-- ---- a grading

some-front : {A : Type 0} (xs ys : List A) → IsSome (first xs) → IsSome (first (xs ++ ys))
some-front [] ys h = absurd cc
some-front (x ∷ xs) ys h = h

some-behind : {A : Type 0} (xs ys : List A) → IsSome (first ys) → IsSome (first (xs ++ ys))
some-behind [] ys h = h
some-behind (x ∷ xs) ys h = refl

-- one of two that is true
either : {C : Type 0} (a b : Bool) → (a || b) ≡ true → (a ≡ true → C) → (b ≡ true → C) → C
either true b e l r = l refl
either false b e l r = r e

row-degree : (level : Bool) (k : Kind) (rows : List Vector) → includes group.Grading k ≡ true → HasRows (is_matrix k) (length rows) → IsSome (first (flat_map degree_of (flat_map (contributions level k) rows)))
row-degree level kind.Grading [] e h = absurd (omega (arith, h))
row-degree level kind.Grading (row ∷ rows) e h = refl
row-degree level k rows e h = absurd cc

-- an item `grading` has a row
given-degree : (level : Bool) (d : ℕ) (items : List ItemData) → Each (IsItem d) items → occurs group.Grading items ≡ true → IsSome (first (flat_map degree_of (given level items)))
given-degree level d [] h e = absurd cc
given-degree level d (item ∷ items) h e =
    let here = flat_map (contributions level item.kind) item.rows in
    subst (λ (fs : List Vector). IsSome (first fs)) (sym (flat_map-append degree_of here (given level items)))
    (either (includes group.Grading item.kind) (occurs group.Grading items) e
    (λ i. some-front (flat_map degree_of here) (flat_map degree_of (given level items)) (row-degree level item.kind item.rows i h.0.vector))
    (λ i. some-behind (flat_map degree_of here) (flat_map degree_of (given level items)) (given-degree level d items h.1 i)))

-- where a `grading` occurs, the system has one
file-degree : (file : FileData) → IsFile file → occurs group.Grading file.items ≡ true → IsSome (system_of file).grading
file-degree file f e =
    let level = occurs group.Leveled file.items in
    let others = orthant level file ++ of_level level file in
    subst (λ (fs : List Vector). IsSome (first fs)) (sym (flat_map-append degree_of (given level file.items) others))
    (some-front (flat_map degree_of (given level file.items)) (flat_map degree_of others) (given-degree level file.amb file.items f.items_keep e))

-- ---- a lattice

mixed-here : (forbidden : Bool) (k : Kind) → is_mixed forbidden k ≡ false → includes group.ConeAndLattice k ≡ true → forbidden ≡ false
mixed-here forbidden kind.ConeAndLattice e i = e
mixed-here forbidden k e i = absurd cc

item-mixed : (forbidden : Bool) (before : List ItemData) (item : ItemData) → first (item_refusals forbidden before item) ≡ None → is_mixed forbidden item.kind ≡ false
item-mixed forbidden before item e =
    passes (is_mixed forbidden item.kind) Mixed
    (tail-none (where_fails (is_repeated before item.kind) Repeated) (where_fails (is_mixed forbidden item.kind) Mixed)
    (map-none (Meaning (length before + 1) 0) (item_faults forbidden before item.kind)
    (none-front (map (Meaning (length before + 1) 0) (item_faults forbidden before item.kind)) (rows_refusals item.kind (length before + 1) 0 (count_rows before) item.rows) e)))

-- a `cone_and_lattice` that is not refused is not forbidden
items-mixed : (forbidden : Bool) (before items : List ItemData) → first (items_refusals forbidden before items) ≡ None → occurs group.ConeAndLattice items ≡ true → forbidden ≡ false
items-mixed forbidden before [] e o = absurd cc
items-mixed forbidden before (item ∷ items) e o =
    let here = item_refusals forbidden before item in
    let later = items_refusals forbidden (before ++ item ∷ []) items in
    either (includes group.ConeAndLattice item.kind) (occurs group.ConeAndLattice items) o
    (mixed-here forbidden item.kind (item-mixed forbidden before item (none-front here later e)))
    (items-mixed forbidden (before ++ item ∷ []) items (tail-none here later e))

neither-left : (a b : Bool) → (a || b) ≡ false → a ≡ false
neither-left true b e = absurd cc
neither-left false b e = refl

neither-right : (a b : Bool) → (a || b) ≡ false → b ≡ false
neither-right true b e = absurd cc
neither-right false b e = e

generates : (k : Kind) → includes group.ConeAndLattice k ≡ true → is_generating k ≡ true
generates kind.ConeAndLattice e = refl
generates k e = absurd cc

or-true-left : (a b : Bool) → a ≡ true → (a || b) ≡ true
or-true-left true b e = refl
or-true-left false b e = absurd cc

or-true-right : (a b : Bool) → b ≡ true → (a || b) ≡ true
or-true-right true b e = refl
or-true-right false b e = e

-- a `cone_and_lattice` gives generators
items-generate : (items : List ItemData) → occurs group.ConeAndLattice items ≡ true → occurs group.Generating items ≡ true
items-generate [] o = absurd cc
items-generate (item ∷ items) o =
    either (includes group.ConeAndLattice item.kind) (occurs group.ConeAndLattice items) o
    (λ e. or-true-left (is_generating item.kind) (occurs group.Generating items) (generates item.kind e))
    (λ e. or-true-right (is_generating item.kind) (occurs group.Generating items) (items-generate items e))

-- the generators are the lattice generators
abbrev pub HasSame : List Contribution → Type 0
HasSame cs = flat_map generator_of cs ≡ flat_map lattice_of cs

same-append : (cs es : List Contribution) → HasSame cs → HasSame es → HasSame (cs ++ es)
same-append cs es p q = flat_map-append generator_of cs es ∙ ap (λ (v : List Vector). v ++ flat_map generator_of es) p ∙ ap (λ (v : List Vector). flat_map lattice_of cs ++ v) q ∙ sym (flat_map-append lattice_of cs es)

same-forms : (fs : List Vector) → HasSame (map NotNegative fs)
same-forms [] = refl
same-forms (f ∷ fs) = same-forms fs

same-row : (k : Kind) (row : Vector) → is_leveled k ≡ false → includes group.Cone k ≡ false → HasSame (contributions false k row)
same-row kind.Equations row l c = refl
same-row kind.Inequalities row l c = refl
same-row kind.Congruences row l c = refl
same-row kind.Signs row l c = same-forms (sign_forms row (at_level false (pos 0)) (length row))
same-row kind.ConeAndLattice row l c = refl
same-row kind.Grading row l c = refl
same-row kind.Ask row l c = refl
same-row k row l c = absurd cc

same-rows : (k : Kind) (rows : List Vector) → is_leveled k ≡ false → includes group.Cone k ≡ false → HasSame (flat_map (contributions false k) rows)
same-rows k [] l c = refl
same-rows k (row ∷ rows) l c = same-append (contributions false k row) (flat_map (contributions false k) rows) (same-row k row l c) (same-rows k rows l c)

same-items : (items : List ItemData) → occurs group.Leveled items ≡ false → occurs group.Cone items ≡ false → HasSame (given false items)
same-items [] l c = refl
same-items (item ∷ items) l c =
    same-append (flat_map (contributions false item.kind) item.rows) (given false items)
    (same-rows item.kind item.rows (neither-left (is_leveled item.kind) (occurs group.Leveled items) l) (neither-left (includes group.Cone item.kind) (occurs group.Cone items) c))
    (same-items items (neither-right (is_leveled item.kind) (occurs group.Leveled items) l) (neither-right (includes group.Cone item.kind) (occurs group.Cone items) c))

same-orthant : (wanted : Bool) (d : ℕ) → HasSame (orthant_where wanted false d)
same-orthant true d = same-forms (sign_forms (replicate d (pos 1)) (at_level false (pos 0)) (length (replicate d (pos 1))))
same-orthant false d = refl

-- with neither a level nor a `cone` all generators are lattice generators
same-all : (file : FileData) → occurs group.Leveled file.items ≡ false → occurs group.Cone file.items ≡ false → HasSame (all_given false file)
same-all file l c =
    same-append (given false file.items) (orthant false file ++ of_level false file) (same-items file.items l c)
    (same-append (orthant false file) (of_level false file) (same-orthant (not (occurs group.Bounding file.items)) file.amb) refl)

-- where the lattice is there, it is generated by the generators, and there is no level
lattice-is : (file : FileData) (goals : GoalSet) → refusals file goals ≡ [] → (latticed : Bool) → occurs group.ConeAndLattice file.items ≡ latticed → IfSome (there latticed (flat_map lattice_of (all_given (occurs group.Leveled file.items) file))) (λ (lat : List Vector). ((system_of file).gens ≡ Some lat) × (occurs group.Leveled file.items ≡ false))
lattice-is file goals e false o = tt
lattice-is file goals e true o =
    let leveled = occurs group.Leveled file.items in
    let coned = occurs group.Cone file.items in
    let allowed = items-mixed (forbids_lattice file.items) [] file.items (none-front (items_refusals (forbids_lattice file.items) [] file.items) (map (Meaning 0 0) (goal_faults file.items goals)) (ap first e)) o in
    let l = neither-left leveled coned allowed in
    let same = subst (λ (b : Bool). HasSame (all_given b file)) (sym l) (same-all file l (neither-right leveled coned allowed)) in (
      ap (λ (b : Bool). there b (flat_map generator_of (all_given leveled file))) (items-generate file.items o) ∙ ap (λ (v : List Vector). Some v) same,
      l,
    )

-- ---- the rest

file-width : (level : Bool) (file : FileData) (cs : List Contribution) → file_width (system_given level file cs) ≡ file.amb
file-width true file cs = omega arith
file-width false file cs = refl

if-there : {A : Type 0} (P : A → Type 0) (b : Bool) (x : A) → P x → IfSome (there b x) P
if-there P true x h = h
if-there P false x h = tt

if-first : {A : Type 0} (P : A → Type 0) (xs : List A) → Each P xs → IfSome (first xs) P
if-first P [] h = tt
if-first P (x ∷ xs) h = h.0

form-in : (cs : List Contribution) (f : Vector) (rest : List Contribution) → Contains (flat_map not_negative_of (cs ++ NotNegative f ∷ rest)) f
form-in [] f rest = Contains-append_left (f ∷ []) (flat_map not_negative_of rest) f (Contains-push [] f)
form-in (c ∷ cs) f rest = Contains-append_right (not_negative_of c) (flat_map not_negative_of (cs ++ NotNegative f ∷ rest)) f (form-in cs f rest)

-- in a file with a level, that it is not negative is one of the forms
level-form : (level vertex : Bool) (d : ℕ) (cs es : List Contribution) → IsTrue level → Contains (flat_map not_negative_of (cs ++ (es ++ level_where level vertex d))) (zero_vector (width_of level d - 1) ++ pos 1 ∷ [])
level-form true vertex d cs es t =
    let same : d ≡ width_of true d - 1 = omega arith in
    subst (λ n. Contains (flat_map not_negative_of (cs ++ (es ++ level_where true vertex d))) (zero_vector n ++ pos 1 ∷ [])) same
    (subst (λ (all : List Contribution). Contains (flat_map not_negative_of all) (level_unit d)) (append_assoc cs es (level_where true vertex d))
    (form-in (cs ++ es) (level_unit d) (only_if vertex (Generator (level_unit d) ∷ []))))
level-form false vertex d cs es t = absurd cc

-- what each system keeps holds of the system of a file that breaks no rule
pub kept : (file : FileData) (goals : GoalSet) (mode : Mode) → IsFile file → refusals file goals ≡ [] → (IsTrue goals.cover → mode ≡ Primal) → IsKept (record { system = system_of file; goals = goals; mode = mode })
kept file goals mode f e cover =
    let level = occurs group.Leveled file.items in
    let cs = all_given level file in
    let fits = all-fit file goals f e in
    let wide = file-width level file cs in
    record {
      system = record {
        at_least = subst (λ n. 1 ≤ n) (sym wide) f.low;
        at_most = subst (λ n. n ≤ 64) (sym wide) f.high;
        eq_width = zero-widths level file.amb cs fits;
        cg_width = multiple-widths level file.amb cs fits;
        ge_width = not_negative-widths level file.amb cs fits;
        gens_width = if-there (λ (gens : List Vector). Each (HasWidth (width_of level file.amb)) gens) (occurs group.Generating file.items) (flat_map generator_of cs) (generator-widths level file.amb cs fits);
        grading_width = if-first (HasWidth (width_of level file.amb)) (flat_map degree_of cs) (degree-widths level file.amb cs fits);
        asked_width = if-there (λ (asked : List Vector). Each (HasWidth (file_width (system_of file))) asked) (occurs group.Ask file.items) (flat_map asked_of cs) (subst (λ n. Each (HasWidth n) (flat_map asked_of cs)) (sym wide) (asked-widths level file.amb cs fits));
        moduli = modulus-widths level file.amb cs fits;
        no_level_degree = λ t. if-first (λ (f : Vector). level_of f ≡ pos 0) (flat_map degree_of cs) (no_level-degrees level file.amb cs fits t);
        level_form = level-form level (occurs group.Cone file.items && not (occurs group.Vertices file.items)) file.amb (given level file.items) (orthant level file);
        lat_is_gens = lattice-is file goals e (occurs group.ConeAndLattice file.items) refl;
      };
      askable = record {
        modules = modules-level file goals e;
        points = points-level file goals e;
        degree_one = λ t. file-degree file f (degree-graded file goals e t);
        cover = cover;
      };
    }
