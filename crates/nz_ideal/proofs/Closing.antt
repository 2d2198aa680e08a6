-- The system of the ideal file: its generators are the monomials at level 1 and the unit vectors at level 0.
use Rattle.std.proofs.Common.{◌≡◌, ◌↔◌, List, [], ◌∷◌, ◌++◌, map, Some, refl, sym, ap, ap₂, ◌∙◌, subst, Bool, true, false}
use Rattle.std.specs.Prelude.{pos, IsTrue}
use Rattle.std.specs.List.{flat_map}
use Rattle.std.proofs.lemmas.List.{append-nil}
use Rattle.std.proofs.lemmas.Grind.{flat_map-append}
use Rattle.nz_spec.specs.Vectors.{Vector, unit_vectors}
use Rattle.nz_spec.specs.Systems.{IsSystem, IsMember}
use Rattle.nz_spec.specs.Monoids.{IsModuleGenerator}
use Rattle.nz_further.specs.Ideals.{at_level, IsIdealSystem}
use Rattle.nz_further.proofs.IdealLaws.{module_generators, minimal_of_module}
use Rattle.nz_input.specs.Files.{ItemData, FileData, IsFile}
use Rattle.nz_input.specs.declared.kind.Goal.{Goal}
use Rattle.nz_input.specs.declared.kind.Kind.{Kind}
use Rattle.nz_input.specs.declared.kind.Kind.TheVariants as kind
use Rattle.nz_input.specs.declared.kind.Mode.TheVariants.{Primal}
use Rattle.nz_system.specs.declared.groups.Group.TheVariants as group
use Rattle.nz_system.specs.declared.contribution.Contribution.{Contribution}
use Rattle.nz_system.specs.declared.contribution.Contribution.TheVariants.{NotNegative, Generator, Degree, Asked}
use Rattle.nz_system.specs.declared.refusal.SystemRefusal.TheVariants.{Meaning}
use Rattle.nz_system.specs.Groups.{occurs}
use Rattle.nz_system.specs.Contributions.{extended, contributions, given}
use Rattle.nz_system.specs.Asked.{goals_of}
use Rattle.nz_system.specs.Meaning.{only_if, there, level_unit, all_given, zero_of, multiple_of, not_negative_of, generator_of, lattice_of, system_of as plain_system}
use Rattle.nz_system.specs.Rules.{refusals as plain_refusals}
use Rattle.nz_system.proofs.Kept.{kept}
use Rattle.nz_ideal.specs.IdealFiles.{has_ideal, exponents, stays, staying, vertex_item, ideal_file}
use Rattle.nz_ideal.specs.IdealRules.{items_refusals, goal_faults, ideal_refusals}
use Rattle.nz_ideal.specs.Meanings.{by_ideal, file_of, system_of, HasMeaning}
use Rattle.nz_ideal.specs.Laws.{IsRaisedGenerator}
use Rattle.nz_ideal.proofs.Meeting.{exponents-wide, ideal-kept, ideal-clear, empty-front}

-- what a part picks of the rows of a kind, where it picks this of each row
picked-rows : {A : Type 0} (pick : Contribution → List A) (k : Kind) (of_row : Vector → List A) → ((row : Vector) → flat_map pick (contributions true k row) ≡ of_row row) → (rows : List Vector) → flat_map pick (flat_map (contributions true k) rows) ≡ flat_map of_row rows
picked-rows pick k of_row one [] = refl
picked-rows pick k of_row one (row ∷ rows) = flat_map-append pick (contributions true k row) (flat_map (contributions true k) rows) ∙ ap₂ (λ xs ys. xs ++ ys) (one row) (picked-rows pick k of_row one rows)

none-of : {A B : Type 0} (xs : List B) → flat_map {X = B} {A = A} (λ x. []) xs ≡ []
none-of [] = refl
none-of (x ∷ xs) = none-of xs

-- a part that picks nothing of a grading and of an asked vector picks nothing of the items that stay
staying-none : {A : Type 0} (pick : Contribution → List A) → ((f : Vector) → pick (Degree f) ≡ []) → ((v : Vector) → pick (Asked v) ≡ []) → (items : List ItemData) → flat_map pick (given true (staying items)) ≡ []
staying-none pick degree asked [] = refl
staying-none pick degree asked (item ∷ items) = one item.kind item.rows (staying-none pick degree asked items)
  where
    one : (k : Kind) (rows : List Vector) → flat_map pick (given true (staying items)) ≡ [] → flat_map pick (given true (only_if (stays k) (record { kind = k; rows = rows } ∷ []) ++ staying items)) ≡ []
    one kind.Grading rows h = flat_map-append pick (flat_map (contributions true kind.Grading) rows) (given true (staying items))
        ∙ ap₂ (λ xs ys. xs ++ ys) (picked-rows pick kind.Grading (λ row. []) (λ row. append-nil (pick (Degree (extended true row))) ∙ degree (extended true row)) rows ∙ none-of rows) h
    one kind.Ask rows h = flat_map-append pick (flat_map (contributions true kind.Ask) rows) (given true (staying items))
        ∙ ap₂ (λ xs ys. xs ++ ys) (picked-rows pick kind.Ask (λ row. []) (λ row. append-nil (pick (Asked row)) ∙ asked row) rows ∙ none-of rows) h
    one k rows h = h

singles : (f : Vector → Vector) (rows : List Vector) → flat_map (λ (row : Vector). f row ∷ []) rows ≡ map f rows
singles f [] = refl
singles f (row ∷ rows) = ap (λ (t : List Vector). f row ∷ t) (singles f rows)

-- what a part picks of the ideal file: what it picks of its vertices, of its cone, and of the form of the level
picked : {A : Type 0} (pick : Contribution → List A) → ((f : Vector) → pick (Degree f) ≡ []) → ((v : Vector) → pick (Asked v) ≡ []) → (file : FileData) (vertices cone : List A)
    → flat_map pick (flat_map (contributions true kind.Vertices) (vertex_item (exponents file.items)).rows) ≡ vertices → flat_map pick (flat_map (contributions true kind.Cone) (unit_vectors file.amb)) ≡ cone
    → flat_map pick (all_given true (ideal_file file)) ≡ (vertices ++ cone) ++ pick (NotNegative (level_unit file.amb))
picked pick degree asked file vertices cone v c =
    let first_rows = flat_map (contributions true kind.Vertices) (vertex_item (exponents file.items)).rows in
    let second_rows = flat_map (contributions true kind.Cone) (unit_vectors file.amb) in
    let rest = given true (staying file.items) in
    flat_map-append pick (given true (ideal_file file).items) (NotNegative (level_unit file.amb) ∷ [])
    ∙ ap₂ (λ xs ys. xs ++ ys)
    (flat_map-append pick first_rows (second_rows ++ rest) ∙ ap₂ (λ xs ys. xs ++ ys) v (flat_map-append pick second_rows rest ∙ ap₂ (λ xs ys. xs ++ ys) c (staying-none pick degree asked file.items) ∙ append-nil cone))
    (append-nil (pick (NotNegative (level_unit file.amb))))

-- a part that picks nothing of generators picks of the ideal file what it picks of the form of the level
picked-none : {A : Type 0} (pick : Contribution → List A) → ((f : Vector) → pick (Degree f) ≡ []) → ((v : Vector) → pick (Asked v) ≡ []) → ((v : Vector) → pick (Generator v) ≡ []) → (file : FileData) → flat_map pick (all_given true (ideal_file file)) ≡ pick (NotNegative (level_unit file.amb))
picked-none pick degree asked generator file =
    picked pick degree asked file [] []
    (picked-rows pick kind.Vertices (λ row. []) (λ row. append-nil (pick (Generator row)) ∙ generator row) (vertex_item (exponents file.items)).rows ∙ none-of (vertex_item (exponents file.items)).rows)
    (picked-rows pick kind.Cone (λ row. []) (λ row. append-nil (pick (Generator (extended true row))) ∙ generator (extended true row)) (unit_vectors file.amb) ∙ none-of (unit_vectors file.amb))

map-same : (rows : List Vector) → map (λ (row : Vector). row) rows ≡ rows
map-same [] = refl
map-same (row ∷ rows) = ap (λ (t : List Vector). row ∷ t) (map-same rows)

generators-are : (file : FileData) → flat_map generator_of (all_given true (ideal_file file)) ≡ map (at_level (pos 1)) (exponents file.items) ++ map (at_level (pos 0)) (unit_vectors file.amb)
generators-are file =
    picked generator_of (λ f. refl) (λ v. refl) file (map (at_level (pos 1)) (exponents file.items)) (map (at_level (pos 0)) (unit_vectors file.amb))
    (picked-rows generator_of kind.Vertices (λ row. row ∷ []) (λ row. refl) (vertex_item (exponents file.items)).rows ∙ singles (λ row. row) (vertex_item (exponents file.items)).rows ∙ map-same (vertex_item (exponents file.items)).rows)
    (picked-rows generator_of kind.Cone (λ row. at_level (pos 0) row ∷ []) (λ row. refl) (unit_vectors file.amb) ∙ singles (at_level (pos 0)) (unit_vectors file.amb))
    ∙ append-nil (map (at_level (pos 1)) (exponents file.items) ++ map (at_level (pos 0)) (unit_vectors file.amb))

staying-latticed : (items : List ItemData) → occurs group.ConeAndLattice (staying items) ≡ false
staying-latticed [] = refl
staying-latticed (item ∷ items) = one item.kind item.rows (staying-latticed items)
  where
    one : (k : Kind) (rows : List Vector) → occurs group.ConeAndLattice (staying items) ≡ false → occurs group.ConeAndLattice (only_if (stays k) (record { kind = k; rows = rows } ∷ []) ++ staying items) ≡ false
    one kind.Grading rows h = h
    one kind.Ask rows h = h
    one k rows h = h

-- the system of the ideal file is that of the ideal
pub ideal-is : (file : FileData) → IsIdealSystem file.amb (exponents file.items) (plain_system (ideal_file file))
ideal-is file = record {
  width = refl;
  level = refl;
  no_equations = picked-none zero_of (λ f. refl) (λ v. refl) (λ v. refl) file;
  no_congruences = picked-none multiple_of (λ f. refl) (λ v. refl) (λ v. refl) file;
  level_form = picked-none not_negative_of (λ f. refl) (λ v. refl) (λ v. refl) file;
  generators = ap (λ (xs : List Vector). Some xs) (generators-are file);
  no_group = ap (λ (b : Bool). there b (flat_map lattice_of (all_given true (ideal_file file)))) (staying-latticed file.items);
}

-- and so that of the file
pub system-is : (file : FileData) → IsTrue (has_ideal file) → IsIdealSystem file.amb (exponents file.items) (system_of file)
system-is file t = subst (λ (b : Bool). IsIdealSystem file.amb (exponents file.items) (plain_system (by_ideal b (ideal_file file) file))) (sym t) (ideal-is file)

-- where the file has a meaning, its system is one
pub system-kept : (file : FileData) → IsFile file → IsTrue (has_ideal file) → (words : List Goal) → HasMeaning file words → IsSystem (system_of file)
system-kept file f t words h =
    let clear : ideal_refusals file (goals_of file words) ≡ [] = sym (ap (λ (b : Bool). by_ideal b (ideal_refusals file (goals_of file words)) (plain_refusals file (goals_of file words))) t) ∙ h in
    let is = kept (ideal_file file) (goals_of file words) Primal (ideal-kept file f (empty-front (items_refusals [] file.items) (map (Meaning 0 0) (goal_faults file.items (goals_of file words))) clear)) (ideal-clear file (goals_of file words) f clear) (λ k. refl) in
    subst (λ (b : Bool). IsSystem (plain_system (by_ideal b (ideal_file file) file))) (sym t) is.system

-- the system of a file that has a meaning is one, with monomials and without
pub file-system : (file : FileData) (words : List Goal) → IsFile file → HasMeaning file words → IsSystem (system_of file)
file-system file words f h = split (has_ideal file) refl
  where
    split : (b : Bool) → has_ideal file ≡ b → IsSystem (system_of file)
    split true t = system-kept file f t words h
    split false t =
        let clear : plain_refusals file (goals_of file words) ≡ [] = sym (ap (λ (b : Bool). by_ideal b (ideal_refusals file (goals_of file words)) (plain_refusals file (goals_of file words))) t) ∙ h in
        subst (λ (b : Bool). IsSystem (plain_system (by_ideal b (ideal_file file) file))) (sym t) (kept file (goals_of file words) Primal f clear (λ k. refl)).system

-- an ideal file asks what its file asks
pub same-goals : (file : FileData) (words : List Goal) → goals_of (file_of file) words ≡ goals_of file words
same-goals file words = split (has_ideal file)
  where
    split : (b : Bool) → goals_of (by_ideal b (ideal_file file) file) words ≡ goals_of file words
    split true = refl
    split false = refl

-- the module generators, each with its monomial
pub raised : (file : FileData) → IsFile file → IsTrue (has_ideal file) → (v : Vector) → IsModuleGenerator (IsMember (system_of file)) v ↔ IsRaisedGenerator file v
raised file f t v =
    let wide = exponents-wide file.amb file.items f.items_keep in
    let is = system-is file t in (
      (λ g. let m = minimal_of_module file.amb (exponents file.items) wide (system_of file) is v g in record { monomial = m.0; minimal = m.1; same = m.2 }),
      (λ r. subst (IsModuleGenerator (IsMember (system_of file))) r.same ((module_generators file.amb (exponents file.items) wide (system_of file) is r.monomial).1 r.minimal)),
    )
