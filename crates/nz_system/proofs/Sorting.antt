-- A draft holds what its rows give, each list for itself.
use Rattle.std.proofs.Common.{◌≡◌, List, [], ◌∷◌, ◌++◌, refl, sym, ap, ◌∙◌, append_assoc}
use Rattle.std.specs.Prelude.{ℕ, Bool, Option, None, map}
use Rattle.std.specs.List.{flat_map}
use Rattle.std.proofs.lemmas.List.{append-nil}
use Rattle.nz_spec.specs.Vectors.{Vector}
use Rattle.nz_spec.specs.Systems.{Congruence}
use Rattle.nz_spec.specs.Constraints.{Constraint, constraint_of, Multiple as IsMultiple}
use Rattle.nz_system.specs.declared.contribution.Contribution.{Contribution}
use Rattle.nz_system.specs.declared.contribution.Contribution.TheVariants.{Zero, Multiple, NotNegative, Generator, LatticeGenerator, Degree, Asked}
use Rattle.nz_system.specs.declared.draft.Draft.{Draft}
use Rattle.nz_input.specs.Files.{ItemData, FileData}
use Rattle.nz_input.specs.declared.kind.Goal.{Goal}
use Rattle.nz_input.specs.declared.kind.Mode.{Mode}
use Rattle.nz_system.specs.declared.asked.GoalSet.{GoalSet}
use Rattle.nz_system.specs.declared.groups.Group.TheVariants as group
use Rattle.nz_system.specs.Groups.{occurs}
use Rattle.nz_system.specs.Contributions.{given}
use Rattle.nz_system.specs.Asked.{goal_set, goals_of, last_mode, mode_for}
use Rattle.nz_system.specs.Rules.{first}
use Rattle.nz_system.proofs.Drafting.{with_all-append}
use Rattle.nz_system.specs.Drafts.{with_one, with_all, blank}
use Rattle.nz_system.specs.Meaning.{SystemData, meaning, orthant, of_level, all_given, system_of, there, width_of, zero_of, multiple_of, not_negative_of, generator_of, lattice_of, degree_of, asked_of, congruences_of}

-- the congruences as constraints
abbrev pub condition : Contribution → List Constraint
condition c = map constraint_of (multiple_of c)

-- what holds for one holds for all, in order
held : {A : Type 0} (part : Draft → List A) (pick : Contribution → List A) → ((d : Draft) (c : Contribution) → part (with_one d c) ≡ part d ++ pick c) → (d : Draft) (cs : List Contribution) → part (with_all d cs) ≡ part d ++ flat_map pick cs
held part pick one d [] = sym (append-nil (part d))
held part pick one d (c ∷ cs) = held part pick one (with_one d c) cs ∙ ap (λ xs. xs ++ flat_map pick cs) (one d c) ∙ append_assoc (part d) (pick c) (flat_map pick cs)

one-equations : (d : Draft) (c : Contribution) → (with_one d c).equations ≡ d.equations ++ zero_of c
one-equations d (Zero f) = refl
one-equations d (Multiple f m) = sym (append-nil d.equations)
one-equations d (NotNegative f) = sym (append-nil d.equations)
one-equations d (Generator v) = sym (append-nil d.equations)
one-equations d (LatticeGenerator v) = sym (append-nil d.equations)
one-equations d (Degree f) = sym (append-nil d.equations)
one-equations d (Asked v) = sym (append-nil d.equations)

pub held-equations : (d : Draft) (cs : List Contribution) → (with_all d cs).equations ≡ d.equations ++ flat_map zero_of cs
held-equations = held (λ d. d.equations) zero_of one-equations

one-congruences : (d : Draft) (c : Contribution) → (with_one d c).congruences ≡ d.congruences ++ condition c
one-congruences d (Zero f) = sym (append-nil d.congruences)
one-congruences d (Multiple f m) = refl
one-congruences d (NotNegative f) = sym (append-nil d.congruences)
one-congruences d (Generator v) = sym (append-nil d.congruences)
one-congruences d (LatticeGenerator v) = sym (append-nil d.congruences)
one-congruences d (Degree f) = sym (append-nil d.congruences)
one-congruences d (Asked v) = sym (append-nil d.congruences)

pub held-congruences : (d : Draft) (cs : List Contribution) → (with_all d cs).congruences ≡ d.congruences ++ flat_map condition cs
held-congruences = held (λ d. d.congruences) condition one-congruences

one-inequalities : (d : Draft) (c : Contribution) → (with_one d c).inequalities ≡ d.inequalities ++ not_negative_of c
one-inequalities d (Zero f) = sym (append-nil d.inequalities)
one-inequalities d (Multiple f m) = sym (append-nil d.inequalities)
one-inequalities d (NotNegative f) = refl
one-inequalities d (Generator v) = sym (append-nil d.inequalities)
one-inequalities d (LatticeGenerator v) = sym (append-nil d.inequalities)
one-inequalities d (Degree f) = sym (append-nil d.inequalities)
one-inequalities d (Asked v) = sym (append-nil d.inequalities)

pub held-inequalities : (d : Draft) (cs : List Contribution) → (with_all d cs).inequalities ≡ d.inequalities ++ flat_map not_negative_of cs
held-inequalities = held (λ d. d.inequalities) not_negative_of one-inequalities

one-generators : (d : Draft) (c : Contribution) → (with_one d c).generators ≡ d.generators ++ generator_of c
one-generators d (Zero f) = sym (append-nil d.generators)
one-generators d (Multiple f m) = sym (append-nil d.generators)
one-generators d (NotNegative f) = sym (append-nil d.generators)
one-generators d (Generator v) = refl
one-generators d (LatticeGenerator v) = sym (append-nil d.generators)
one-generators d (Degree f) = sym (append-nil d.generators)
one-generators d (Asked v) = sym (append-nil d.generators)

pub held-generators : (d : Draft) (cs : List Contribution) → (with_all d cs).generators ≡ d.generators ++ flat_map generator_of cs
held-generators = held (λ d. d.generators) generator_of one-generators

one-lattice : (d : Draft) (c : Contribution) → (with_one d c).lattice ≡ d.lattice ++ lattice_of c
one-lattice d (Zero f) = sym (append-nil d.lattice)
one-lattice d (Multiple f m) = sym (append-nil d.lattice)
one-lattice d (NotNegative f) = sym (append-nil d.lattice)
one-lattice d (Generator v) = sym (append-nil d.lattice)
one-lattice d (LatticeGenerator v) = refl
one-lattice d (Degree f) = sym (append-nil d.lattice)
one-lattice d (Asked v) = sym (append-nil d.lattice)

pub held-lattice : (d : Draft) (cs : List Contribution) → (with_all d cs).lattice ≡ d.lattice ++ flat_map lattice_of cs
held-lattice = held (λ d. d.lattice) lattice_of one-lattice

one-degrees : (d : Draft) (c : Contribution) → (with_one d c).degrees ≡ d.degrees ++ degree_of c
one-degrees d (Zero f) = sym (append-nil d.degrees)
one-degrees d (Multiple f m) = sym (append-nil d.degrees)
one-degrees d (NotNegative f) = sym (append-nil d.degrees)
one-degrees d (Generator v) = sym (append-nil d.degrees)
one-degrees d (LatticeGenerator v) = sym (append-nil d.degrees)
one-degrees d (Degree f) = refl
one-degrees d (Asked v) = sym (append-nil d.degrees)

pub held-degrees : (d : Draft) (cs : List Contribution) → (with_all d cs).degrees ≡ d.degrees ++ flat_map degree_of cs
held-degrees = held (λ d. d.degrees) degree_of one-degrees

one-asked : (d : Draft) (c : Contribution) → (with_one d c).asked ≡ d.asked ++ asked_of c
one-asked d (Zero f) = sym (append-nil d.asked)
one-asked d (Multiple f m) = sym (append-nil d.asked)
one-asked d (NotNegative f) = sym (append-nil d.asked)
one-asked d (Generator v) = sym (append-nil d.asked)
one-asked d (LatticeGenerator v) = sym (append-nil d.asked)
one-asked d (Degree f) = sym (append-nil d.asked)
one-asked d (Asked v) = refl

pub held-asked : (d : Draft) (cs : List Contribution) → (with_all d cs).asked ≡ d.asked ++ flat_map asked_of cs
held-asked = held (λ d. d.asked) asked_of one-asked

-- the congruences among them
pub congruences-held : (cs : List Contribution) → congruences_of (flat_map condition cs) ≡ flat_map multiple_of cs
congruences-held [] = refl
congruences-held (Zero f ∷ cs) = congruences-held cs
congruences-held (Multiple f m ∷ cs) = ap (λ (t : List Congruence). record { form = f; modulus = m } ∷ t) (congruences-held cs)
congruences-held (NotNegative f ∷ cs) = congruences-held cs
congruences-held (Generator v ∷ cs) = congruences-held cs
congruences-held (LatticeGenerator v ∷ cs) = congruences-held cs
congruences-held (Degree f ∷ cs) = congruences-held cs
congruences-held (Asked v ∷ cs) = congruences-held cs

conditions-map : (cs : List Contribution) → flat_map condition cs ≡ map constraint_of (flat_map multiple_of cs)
conditions-map [] = refl
conditions-map (Zero f ∷ cs) = conditions-map cs
conditions-map (Multiple f m ∷ cs) = ap (λ (t : List Constraint). IsMultiple f m ∷ t) (conditions-map cs)
conditions-map (NotNegative f ∷ cs) = conditions-map cs
conditions-map (Generator v ∷ cs) = conditions-map cs
conditions-map (LatticeGenerator v ∷ cs) = conditions-map cs
conditions-map (Degree f ∷ cs) = conditions-map cs
conditions-map (Asked v ∷ cs) = conditions-map cs

-- each constraint of a draft is a congruence
pub congruences-kept : (new : Draft) (cs : List Contribution) → new ≡ with_all blank cs → new.congruences ≡ map constraint_of (congruences_of new.congruences)
congruences-kept new cs e =
    let h : new.congruences ≡ flat_map condition cs = ap (λ (d : Draft). d.congruences) e ∙ held-congruences blank cs in
    h ∙ conditions-map cs ∙ ap (λ x. map constraint_of x) (sym (congruences-held cs)) ∙ ap (λ x. map constraint_of (congruences_of x)) (sym h)

-- the draft of a file
pub drafted : (file : FileData) (amb : ℕ) (items : List ItemData) (goal_words : List Goal) (level : Bool) (start mid new : Draft) → record { amb = amb; items = items; goals = goal_words } ≡ file → level ≡ occurs group.Leveled items → start ≡ blank → mid ≡ with_all start (given level items) → new ≡ with_all mid (orthant level file ++ of_level level file) → new ≡ with_all blank (all_given (occurs group.Leveled file.items) file)
drafted file amb items goal_words level start mid new same l s p q =
    q ∙ ap (λ d. with_all d (orthant level file ++ of_level level file)) (p ∙ ap (λ d. with_all d (given level items)) s)
    ∙ sym (with_all-append blank (given level items) (orthant level file ++ of_level level file))
    ∙ ap (λ (f : FileData). with_all blank (given level f.items ++ (orthant level file ++ of_level level file))) same
    ∙ ap (λ b. with_all blank (all_given b file)) (l ∙ ap (λ (f : FileData). occurs group.Leveled f.items) same)

abbrev pub made : ℕ → Bool → List Vector → List Congruence → List Vector → Option (List Vector) → Option (List Vector) → Option Vector → Option (List Vector) → GoalSet → Mode → SystemData
made w l e c g n t d a goals mode = record { system = record { width = w; level = l; eq = e; cg = c; ge = g; gens = n; lat = t; grading = d; asked = a }; goals = goals; mode = mode }

made-same : (w w2 : ℕ) (l l2 : Bool) (e e2 : List Vector) (c c2 : List Congruence) (g g2 : List Vector) (n n2 : Option (List Vector)) (t t2 : Option (List Vector)) (d d2 : Option Vector) (a a2 : Option (List Vector)) (goals : GoalSet) (mode : Mode) → w ≡ w2 → l ≡ l2 → e ≡ e2 → c ≡ c2 → g ≡ g2 → n ≡ n2 → t ≡ t2 → d ≡ d2 → a ≡ a2 → made w l e c g n t d a goals mode ≡ made w2 l2 e2 c2 g2 n2 t2 d2 a2 goals mode
made-same w w2 l l2 e e2 c c2 g g2 n n2 t t2 d d2 a a2 goals mode pw pl pe pc pg pn pt pd pa =
    ap (λ (x : ℕ). made x l e c g n t d a goals mode) pw
    ∙ ap (λ (x : Bool). made w2 x e c g n t d a goals mode) pl
    ∙ ap (λ (x : List Vector). made w2 l2 x c g n t d a goals mode) pe
    ∙ ap (λ (x : List Congruence). made w2 l2 e2 x g n t d a goals mode) pc
    ∙ ap (λ (x : List Vector). made w2 l2 e2 c2 x n t d a goals mode) pg
    ∙ ap (λ (x : Option (List Vector)). made w2 l2 e2 c2 g2 x t d a goals mode) pn
    ∙ ap (λ (x : Option (List Vector)). made w2 l2 e2 c2 g2 n2 x d a goals mode) pt
    ∙ ap (λ (x : Option Vector). made w2 l2 e2 c2 g2 n2 t2 x a goals mode) pd
    ∙ ap (λ (x : Option (List Vector)). made w2 l2 e2 c2 g2 n2 t2 d2 x goals mode) pa

-- the lists of its draft are those of the system of the file
pub assembled-is : (file : FileData) (new : Draft) (level generating latticed asking : Bool) (width : ℕ) (gens lat asked : Option (List Vector)) (grading : Option Vector) (goals : GoalSet) (mode : Mode) → new ≡ with_all blank (all_given (occurs group.Leveled file.items) file) → level ≡ occurs group.Leveled file.items → generating ≡ occurs group.Generating file.items → latticed ≡ occurs group.ConeAndLattice file.items → asking ≡ occurs group.Ask file.items → width ≡ width_of level file.amb → gens ≡ there generating new.generators → lat ≡ there latticed new.lattice → grading ≡ first new.degrees → asked ≡ there asking new.asked → made width level new.equations (congruences_of new.congruences) new.inequalities gens lat grading asked goals mode ≡ record { system = system_of file; goals = goals; mode = mode }
assembled-is file new level generating latticed asking width gens lat asked grading goals mode e l g t k pw pg pl pd pa =
    let cs = all_given (occurs group.Leveled file.items) file in
    let sys = system_of file in
    made-same width sys.width level sys.level new.equations sys.eq (congruences_of new.congruences) sys.cg new.inequalities sys.ge gens sys.gens lat sys.lat grading sys.grading asked sys.asked goals mode
    (pw ∙ ap (λ b. width_of b file.amb) l)
    l
    (ap (λ (d : Draft). d.equations) e ∙ held-equations blank cs)
    (ap (λ (d : Draft). congruences_of d.congruences) e ∙ ap congruences_of (held-congruences blank cs) ∙ congruences-held cs)
    (ap (λ (d : Draft). d.inequalities) e ∙ held-inequalities blank cs)
    (pg ∙ ap (λ b. there b new.generators) g ∙ ap (λ (v : List Vector). there (occurs group.Generating file.items) v) (ap (λ (d : Draft). d.generators) e ∙ held-generators blank cs))
    (pl ∙ ap (λ b. there b new.lattice) t ∙ ap (λ (v : List Vector). there (occurs group.ConeAndLattice file.items) v) (ap (λ (d : Draft). d.lattice) e ∙ held-lattice blank cs))
    (pd ∙ ap (λ (v : List Vector). first v) (ap (λ (d : Draft). d.degrees) e ∙ held-degrees blank cs))
    (pa ∙ ap (λ b. there b new.asked) k ∙ ap (λ (v : List Vector). there (occurs group.Ask file.items) v) (ap (λ (d : Draft). d.asked) e ∙ held-asked blank cs))

pub none-empty : {A : Type 0} (xs : List A) → first xs ≡ None → xs ≡ []
none-empty [] e = refl
none-empty (x ∷ xs) e = absurd cc

pub goals-are : (file : FileData) (words : List Goal) (amb : ℕ) (items : List ItemData) (goal_words : List Goal) (goals : GoalSet) → record { amb = amb; items = items; goals = goal_words } ≡ file → goals ≡ goal_set (goal_words ++ words) → goals ≡ goals_of file words
goals-are file words amb items goal_words goals same p = p ∙ ap (λ (f : FileData). goals_of f words) same

abbrev pub with-asked : FileData → GoalSet → Mode → SystemData
with-asked file goals mode = record { system = system_of file; goals = goals; mode = mode }

-- with its goals and its mode the system is what the file means
pub meaning-is : (file : FileData) (words : List Goal) (amb : ℕ) (items : List ItemData) (goal_words : List Goal) (goals : GoalSet) (mode : Mode) → record { amb = amb; items = items; goals = goal_words } ≡ file → goals ≡ goal_set (goal_words ++ words) → mode ≡ mode_for goals.cover (last_mode words) (last_mode goal_words) → record { system = system_of file; goals = goals; mode = mode } ≡ meaning file words
meaning-is file words amb items goal_words goals mode same p q =
    let g = goals-are file words amb items goal_words goals same p in
    let m = q ∙ ap (λ (f : FileData). mode_for goals.cover (last_mode words) (last_mode f.goals)) same ∙ ap (λ (x : GoalSet). mode_for x.cover (last_mode words) (last_mode file.goals)) g in
    let one : with-asked file goals mode ≡ with-asked file (goals_of file words) mode = ap (λ (x : GoalSet). with-asked file x mode) g in
    one ∙ ap (λ (x : Mode). with-asked file (goals_of file words) x) m
