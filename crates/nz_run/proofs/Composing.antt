-- How the steps of a run compose.
use Rattle.std.proofs.Common.{◌≡◌, ◌⊎◌, ℕ, inl, inr, List, [], refl, sym, ◌∙◌, subst, Option, Some, None, false}
use Rattle.nz_vec.specs.Texts.{Text}
use Rattle.nz_edge.specs.Folders.{Files, BothTold, SameFiles, SameOthers, Stores}
use Rattle.nz_watch.specs.Watching.{Pair}
use Rattle.nz_watch.specs.Telling.{Watched, HasPassedAll}
use Rattle.nz_watch.proofs.TellingLemmas.{none_told}
use Rattle.nz_input.specs.Files.{FileData}
use Rattle.nz_ideal.specs.Meanings.{system_of, meaning}
use Rattle.nz_input.specs.declared.kind.Mode.{Mode}
use Rattle.nz_input.specs.declared.kind.Mode.TheVariants.{Primal, Dual}
use Rattle.nz_solve.specs.Solutions.{IsCrowd, WasToldSome}
use Rattle.nz_edge.specs.Answers.{OnTold, LoadGives, StoreLeaves}
use Rattle.nz_edge.specs.declared.folder.Load.TheVariants as load
use Rattle.nz_edge.specs.declared.folder.Stored.TheVariants as stored
use Rattle.nz_run.specs.declared.status.Status.{Status}
use Rattle.nz_run.specs.declared.status.Status.TheVariants.{Done, Usage, Absent, ReadFault, TooLong, Grammar, Meaning, Line, Grade, Range, TooMany, Stopped, WriteFault, NoMemory, Converted, UnitsDone, Points, Unbounded}
use Rattle.nz_input.specs.declared.kind.Goal.{Goal}
use Rattle.nz_words.specs.Orders.{OrderData, IsOrder, IsSide, input_name}
use Rattle.nz_words.proofs.Unique.{order_one}
use Rattle.nz_run.specs.declared.kinds.RunKind.{RunKind}
use Rattle.nz_run.specs.declared.kinds.RunKind.TheVariants.{Plain, Convert, Units, LatticePoints}
use Rattle.nz_run.specs.Watches.{WasToldNothing, WasToldPairs, WatchSays}
use Rattle.nz_run.specs.Solving.{IsSolveCause}
use Rattle.nz_run.specs.UnitRuns.{IsUnitsCause}
use Rattle.nz_run.specs.PointRuns.{IsPointsCause}
use Rattle.nz_run.specs.Kinds.{kind_for, stored_status, IsCauseIn, IsConvertCause}
use Rattle.nz_run.specs.Runs.{output_name, IsInput, IsFound, IsFoundFor, IsCause, Leaves, RanOut, ExplainsOrder, Explains, CountRose, StoreCount, IsUnasked, AreUnasked, IsSideOf}
use Rattle.nz_input.specs.Canonical.{canonical}
use Rattle.nz_make.specs.Squares.{made_file}

pub told_weaker : {A : Type 0} (o n : Option A) (P Q : A → A → Type 0) → BothTold o n P → ((a b : A) → P a b → Q a b) → BothTold o n Q
told_weaker None None P Q h w = tt
told_weaker None (Some b) P Q h w = h
told_weaker (Some a) None P Q h w = h
told_weaker (Some a) (Some b) P Q h w = w a b h

-- where nothing changed
pub told_same : (o : Option Files) (P : Files → Files → Type 0) → ((a : Files) → P a a) → BothTold o o P
told_same None P h = tt
told_same (Some a) P h = h a

same_trans : (a b c : Files) → SameFiles a b → SameFiles b c → SameFiles a c
same_trans a b c h k = λ name. k name ∙ h name

others_trans : (name : Text) (a b c : Files) → SameFiles a b → SameOthers name b c → SameOthers name a c
others_trans name a b c h k = λ other ne. k other ne ∙ h other

-- memory ran out after the input was loaded
memory_for : (order : OrderData) (w w' : Watched) (input : Text) (a : Files) → IsInput order.make order.project a input → IsCause order w w' input NoMemory → WasToldNothing w w' ⊎ RanOut order w w' a
memory_for order w w' input a i h = elim h [ inl n ↦ inl n | inr k ↦ inr (input, i, k) ]

stores_after : (name output : Text) (a b c : Files) → SameFiles a b → Stores name output b c → Stores name output a c
stores_after name output a b c h s = record { stored = s.stored; others = others_trans name a b c h s.others }

explains : (order : OrderData) (w w' : Watched) (input : Text) (f f' : ℕ) (r : Status) (a b c : Files) → SameFiles a b → IsInput order.make order.project a input → Leaves order w w' input r b c → ExplainsOrder order w w' f f' r a c
explains order w w' input f f' Done a b c h i s = (input, i, (s.0, s.1, stores_after (output_name order Plain) s.0 a b c h s.2))
explains order w w' input f f' Converted a b c h i s = (input, i, (s.0, s.1, stores_after (output_name order Convert) s.0 a b c h s.2))
explains order w w' input f f' UnitsDone a b c h i s = (input, i, (s.0, s.1, stores_after (output_name order Units) s.0 a b c h s.2))
explains order w w' input f f' Points a b c h i s = (input, i, (s.0, s.1, stores_after (output_name order LatticePoints) s.0 a b c h s.2))
explains order w w' input f f' Usage a b c h i s = s.0
explains order w w' input f f' Absent a b c h i s = absurd s.0
explains order w w' input f f' ReadFault a b c h i s = absurd s.0
explains order w w' input f f' TooLong a b c h i s = (input, i, (s.0, same_trans a b c h s.1))
explains order w w' input f f' (Grammar l k g) a b c h i s = (input, i, (s.0, same_trans a b c h s.1))
explains order w w' input f f' (Meaning l k g) a b c h i s = (input, i, (s.0, same_trans a b c h s.1))
explains order w w' input f f' (Line v) a b c h i s = (input, i, (s.0, same_trans a b c h s.1))
explains order w w' input f f' (Grade v) a b c h i s = (input, i, (s.0, same_trans a b c h s.1))
explains order w w' input f f' (Unbounded v) a b c h i s = (input, i, (s.0, same_trans a b c h s.1))
explains order w w' input f f' Range a b c h i s = (input, i, (s.0, same_trans a b c h s.1))
explains order w w' input f f' TooMany a b c h i s = (input, i, (s.0, same_trans a b c h s.1))
explains order w w' input f f' (Stopped k) a b c h i s = (input, i, (s.0, same_trans a b c h s.1))
explains order w w' input f f' WriteFault a b c h i s = (input, i, (s.0, s.1, s.2, others_trans (output_name order s.0) a b c h s.3))
explains order w w' input f f' NoMemory a b c h i s = (same_trans a b c h s.1, memory_for order w w' input a i s.0)

-- what was loaded, then found and stored
pub loaded_and_stored : (order : OrderData) (w w' : Watched) (input in_name : Text) (f f' : ℕ) (r : Status) (o m n : Option Files) → order.make ≡ None → in_name ≡ input_name order.project → BothTold o m SameFiles → OnTold o (λ files. LoadGives files in_name 16777216 f f' (load.Bytes input)) → BothTold m n (Leaves order w w' input r) → BothTold o n (ExplainsOrder order w w' f f' r)
loaded_and_stored order w w' input in_name f f' r None None None l p h g s = tt
loaded_and_stored order w w' input in_name f f' r None None (Some c) l p h g s = s
loaded_and_stored order w w' input in_name f f' r None (Some b) n l p h g s = absurd h
loaded_and_stored order w w' input in_name f f' r (Some a) None n l p h g s = absurd h
loaded_and_stored order w w' input in_name f f' r (Some a) (Some b) None l p h g s = s
loaded_and_stored order w w' input in_name f f' r (Some a) (Some b) (Some c) l p h g s =
    let loaded : IsInput None order.project a input = record { whole = g.0; there = subst (λ (t : Text). a t ≡ Some g.0) p g.1; cut = g.2 } in
    explains order w w' input f f' r a b c h (subst (λ (side : Option ℕ). IsInput side order.project a input) (sym l) loaded) s

-- what was not loaded
pub loaded_absent : (order : OrderData) (w : Watched) (in_name : Text) (f f' : ℕ) (o m : Option Files) → order.make ≡ None → in_name ≡ input_name order.project → BothTold o m SameFiles → OnTold o (λ files. LoadGives files in_name 16777216 f f' load.Absent) → BothTold o m (ExplainsOrder order w w f f' Absent)
loaded_absent order w in_name f f' None None l p h g = tt
loaded_absent order w in_name f f' None (Some b) l p h g = h
loaded_absent order w in_name f f' (Some a) None l p h g = h
loaded_absent order w in_name f f' (Some a) (Some b) l p h g = (l, (λ q. subst (λ (t : Text). a t ≡ None) p (g q)), h)

pub loaded_not : (order : OrderData) (w : Watched) (f f' : ℕ) (o m : Option Files) → order.make ≡ None → BothTold o m SameFiles → BothTold o m (ExplainsOrder order w w f f' ReadFault)
loaded_not order w f f' o m l h = told_weaker o m SameFiles (ExplainsOrder order w w f f' ReadFault) h (λ a b s. (l, s))

-- what was made, then found and stored
pub made_and_stored : (n : ℕ) (order : OrderData) (w w' : Watched) (input : Text) (f f' : ℕ) (r : Status) (o m : Option Files) → order.make ≡ Some n → input ≡ canonical (made_file n) → BothTold o m (Leaves order w w' input r) → BothTold o m (ExplainsOrder order w w' f f' r)
made_and_stored n order w w' input f f' r o m l e h =
    let made = subst (λ (side : Option ℕ). (a : Files) → IsInput side order.project a input) (sym l) (λ a. e) in
    told_weaker o m (Leaves order w w' input r) (ExplainsOrder order w w' f f' r) h
    (λ a b k. explains order w w' input f f' r a a b (λ name. refl) (made a) k)

-- memory ran out before the watch was told anything
pub no_memory_for : (order : OrderData) (w : Watched) (f f' : ℕ) (o n : Option Files) → BothTold o n SameFiles → BothTold o n (ExplainsOrder order w w f f' NoMemory)
no_memory_for order w f f' o n h = told_weaker o n SameFiles (ExplainsOrder order w w f f' NoMemory) h (λ a b s. (s, inl (none_told w)))

pub no_memory : (words : List Text) (w : Watched) (f f' : ℕ) (o n : Option Files) → BothTold o n SameFiles → BothTold o n (Explains words w w f f' NoMemory)
no_memory words w f f' o n h = told_weaker o n SameFiles (Explains words w w f f' NoMemory) h (λ a b s. (s, inl (none_told w)))

pub same_told : (o : Option Files) → BothTold o o SameFiles
same_told o = told_same o SameFiles (λ a name. refl)

-- a refusal before the store
pub refused_before : (order : OrderData) (w w' : Watched) (input : Text) (r : Status) (o n : Option Files) → IsCause order w w' input r → o ≡ n → BothTold o n (Leaves order w w' input r)
refused_before order w w' input r o n h e = subst (λ (m : Option Files). BothTold o m (Leaves order w w' input r)) e (told_same o (Leaves order w w' input r) (same r h))
  where
    same : (r : Status) → IsCause order w w' input r → (a : Files) → Leaves order w w' input r a a
    same Done h a = absurd h
    same Converted h a = absurd h
    same UnitsDone h a = absurd h
    same Points h a = absurd h
    same Usage h a = absurd h
    same Absent h a = absurd h
    same ReadFault h a = absurd h
    same TooLong h a = (h, λ t. refl)
    same (Grammar l k g) h a = (h, λ t. refl)
    same (Meaning l k g) h a = (h, λ t. refl)
    same (Line v) h a = (h, λ t. refl)
    same (Grade v) h a = (h, λ t. refl)
    same (Unbounded v) h a = (h, λ t. refl)
    same Range h a = (h, λ t. refl)
    same TooMany h a = (h, λ t. refl)
    same (Stopped k) h a = (h, λ t. refl)
    same WriteFault h a = absurd h
    same NoMemory h a = (h, λ t. refl)

-- what was found is stored
pub stored_done : (order : OrderData) (kind : RunKind) (w w' : Watched) (name input output bytes : Text) (r : Status) (o n : Option Files) → IsFoundFor order kind w w' input output → name ≡ output_name order kind → bytes ≡ output → r ≡ stored_status kind → BothTold o n (λ old new. StoreLeaves name bytes old new stored.Done) → BothTold o n (Leaves order w w' input r)
stored_done order kind w w' name input output bytes r o n s named e d h =
    told_weaker o n (λ old new. StoreLeaves name bytes old new stored.Done) (Leaves order w w' input r) h
    (λ a b k. subst (λ (t : Status). Leaves order w w' input t a b) (sym d) (go kind a b s (subst (λ (t : Text). Stores (output_name order kind) t a b) e (subst (λ (t : Text). Stores t bytes a b) named k))))
  where
    go : (kind : RunKind) (a b : Files) → IsFoundFor order kind w w' input output → Stores (output_name order kind) output a b → Leaves order w w' input (stored_status kind) a b
    go Plain a b s k = (output, s, k)
    go Convert a b s k = (output, s, k)
    go Units a b s k = (output, s, k)
    go LatticePoints a b s k = (output, s, k)

pub stored_failed : (order : OrderData) (kind : RunKind) (w w' : Watched) (name input output bytes : Text) (o n : Option Files) → IsFoundFor order kind w w' input output → name ≡ output_name order kind → BothTold o n (λ old new. StoreLeaves name bytes old new stored.Failed) → BothTold o n (Leaves order w w' input WriteFault)
stored_failed order kind w w' name input output bytes o n s named h = told_weaker o n (λ old new. StoreLeaves name bytes old new stored.Failed) (Leaves order w w' input WriteFault) h (λ a b k. (kind, output, s, subst (λ (t : Text). SameOthers t a b) named k))

-- memory ran out after the text was found, when all stages were told
pub found_not_kept : (order : OrderData) (kind : RunKind) (w w' : Watched) (input output : Text) → IsFoundFor order kind w w' input output → IsCause order w w' input NoMemory
found_not_kept order kind w w' input output s = go kind s
  where
    go : (kind : RunKind) → IsFoundFor order kind w w' input output → IsCause order w w' input NoMemory
    go Plain s = inr (record {
      file = s.found.file;
      short = s.found.short;
      read = s.found.read;
      cause = subst (λ (k : RunKind). IsCauseIn k order.goals order.limit w w' s.found.file NoMemory) (sym s.of_kind) (inr (record { ready = s.found.found.ready; refused = inr (s.found.found.told.passed, s.found.found.told.telling) }));
    })
    go Convert s = inl s.found.found.1
    go Units s = inl s.found.found.told
    go LatticePoints s = inl s.found.found.told

pub stored_not : (order : OrderData) (kind : RunKind) (w w' : Watched) (name input output bytes : Text) (o n : Option Files) → IsFoundFor order kind w w' input output → BothTold o n (λ old new. StoreLeaves name bytes old new stored.NoMemory) → BothTold o n (Leaves order w w' input NoMemory)
stored_not order kind w w' name input output bytes o n s h = told_weaker o n (λ old new. StoreLeaves name bytes old new stored.NoMemory) (Leaves order w w' input NoMemory) h (λ a b k. (found_not_kept order kind w w' input output s, k))

-- ---- what the watch says

-- the pairs of stages that were passed
all_pairs : {Stages : List Pair → Type 0} (w w' : Watched) → HasPassedAll Stages 0 w w' → WasToldPairs false w w'
all_pairs w w' h = (_, h.telling.was_told)

some_pairs : (mode : Mode) (w w' : Watched) (file : FileData) → WasToldSome mode (system_of file) 0 w w' → WasToldPairs false w w'
some_pairs mode w w' file h = elim h [ inl n ↦ ([], n) | inr k ↦ (_, k.1.was_told) ]

crowd_pairs : (mode : Mode) (w w' : Watched) (file : FileData) (limit : ℕ) → IsCrowd mode (system_of file) limit 0 w w' → WasToldPairs false w w'
crowd_pairs Primal w w' file limit h = all_pairs w w' h.2
crowd_pairs Dual w w' file limit h = (_, h.2.was_told)

-- what a file gives a plain run as a cause
says_unsolved : (goals : List Goal) (limit : ℕ) (w w' : Watched) (file : FileData) (r : Status) → IsSolveCause goals limit w w' file r → WatchSays r w w'
says_unsolved goals limit w w' file Done h = absurd h
says_unsolved goals limit w w' file Converted h = absurd h
says_unsolved goals limit w w' file UnitsDone h = absurd h
says_unsolved goals limit w w' file Points h = absurd h
says_unsolved goals limit w w' file (Unbounded v) h = absurd h
says_unsolved goals limit w w' file Usage h = absurd h
says_unsolved goals limit w w' file Absent h = absurd h
says_unsolved goals limit w w' file ReadFault h = absurd h
says_unsolved goals limit w w' file TooLong h = absurd h
says_unsolved goals limit w w' file (Grammar l k g) h = absurd h
says_unsolved goals limit w w' file (Meaning l k g) h = h.1
says_unsolved goals limit w w' file (Line v) h = h.refused.1
says_unsolved goals limit w w' file (Grade v) h = all_pairs w w' h.refused.2
says_unsolved goals limit w w' file Range h = some_pairs (meaning file goals).mode w w' file h.refused.1
says_unsolved goals limit w w' file TooMany h = crowd_pairs (meaning file goals).mode w w' file limit h.refused
says_unsolved goals limit w w' file (Stopped k) h = (_, h.refused.telling.was_told)
says_unsolved goals limit w w' file WriteFault h = absurd h
says_unsolved goals limit w w' file NoMemory h = elim h [ inl n ↦ ([], n) | inr u ↦ some_pairs (meaning file goals).mode w w' file u.refused ]

-- what a file gives a conversion as a cause
says_unconverted : (w w' : Watched) (r : Status) → IsConvertCause w w' r → WatchSays r w w'
says_unconverted w w' Done h = absurd h
says_unconverted w w' Converted h = absurd h
says_unconverted w w' UnitsDone h = absurd h
says_unconverted w w' Points h = absurd h
says_unconverted w w' (Unbounded v) h = absurd h
says_unconverted w w' Usage h = absurd h
says_unconverted w w' Absent h = absurd h
says_unconverted w w' ReadFault h = absurd h
says_unconverted w w' TooLong h = absurd h
says_unconverted w w' (Grammar l k g) h = absurd h
says_unconverted w w' (Meaning l k g) h = absurd h
says_unconverted w w' (Line v) h = absurd h
says_unconverted w w' (Grade v) h = absurd h
says_unconverted w w' Range h = absurd h
says_unconverted w w' TooMany h = absurd h
says_unconverted w w' (Stopped k) h = absurd h
says_unconverted w w' WriteFault h = absurd h
says_unconverted w w' NoMemory h = ([], h)

-- what a file gives a run that lists units as a cause
says_unlisted : (goals : List Goal) (limit : ℕ) (w w' : Watched) (file : FileData) (r : Status) → IsUnitsCause goals limit w w' file r → WatchSays r w w'
says_unlisted goals limit w w' file Done h = absurd h
says_unlisted goals limit w w' file Converted h = absurd h
says_unlisted goals limit w w' file UnitsDone h = absurd h
says_unlisted goals limit w w' file Points h = absurd h
says_unlisted goals limit w w' file (Unbounded v) h = absurd h
says_unlisted goals limit w w' file Usage h = absurd h
says_unlisted goals limit w w' file Absent h = absurd h
says_unlisted goals limit w w' file ReadFault h = absurd h
says_unlisted goals limit w w' file TooLong h = absurd h
says_unlisted goals limit w w' file (Grammar l k g) h = absurd h
says_unlisted goals limit w w' file (Meaning l k g) h = h.1
says_unlisted goals limit w w' file (Line v) h = absurd h
says_unlisted goals limit w w' file (Grade v) h = absurd h
says_unlisted goals limit w w' file Range h = ([], h.told)
says_unlisted goals limit w w' file TooMany h = ([], h.told)
says_unlisted goals limit w w' file (Stopped k) h = absurd h
says_unlisted goals limit w w' file WriteFault h = absurd h
says_unlisted goals limit w w' file NoMemory h = ([], h)

-- what a file gives a run that lists lattice points as a cause
says_unpointed : (goals : List Goal) (limit : ℕ) (w w' : Watched) (file : FileData) (r : Status) → IsPointsCause goals limit w w' file r → WatchSays r w w'
says_unpointed goals limit w w' file Done h = absurd h
says_unpointed goals limit w w' file Converted h = absurd h
says_unpointed goals limit w w' file UnitsDone h = absurd h
says_unpointed goals limit w w' file Points h = absurd h
says_unpointed goals limit w w' file (Unbounded v) h = h.told
says_unpointed goals limit w w' file Usage h = absurd h
says_unpointed goals limit w w' file Absent h = absurd h
says_unpointed goals limit w w' file ReadFault h = absurd h
says_unpointed goals limit w w' file TooLong h = absurd h
says_unpointed goals limit w w' file (Grammar l k g) h = absurd h
says_unpointed goals limit w w' file (Meaning l k g) h = h.1
says_unpointed goals limit w w' file (Line v) h = absurd h
says_unpointed goals limit w w' file (Grade v) h = absurd h
says_unpointed goals limit w w' file Range h = ([], h.told)
says_unpointed goals limit w w' file TooMany h = ([], h.told)
says_unpointed goals limit w w' file (Stopped k) h = absurd h
says_unpointed goals limit w w' file WriteFault h = absurd h
says_unpointed goals limit w w' file NoMemory h = ([], h)

says_cause : (kind : RunKind) (goals : List Goal) (limit : ℕ) (w w' : Watched) (file : FileData) (r : Status) → IsCauseIn kind goals limit w w' file r → WatchSays r w w'
says_cause Plain goals limit w w' file r h = says_unsolved goals limit w w' file r h
says_cause Convert goals limit w w' file r h = says_unconverted w w' r h
says_cause Units goals limit w w' file r h = says_unlisted goals limit w w' file r h
says_cause LatticePoints goals limit w w' file r h = says_unpointed goals limit w w' file r h

pub says_refused : (order : OrderData) (w w' : Watched) (input : Text) (r : Status) → IsCause order w w' input r → WatchSays r w w'
says_refused order w w' input Done h = absurd h
says_refused order w w' input Converted h = absurd h
says_refused order w w' input UnitsDone h = absurd h
says_refused order w w' input Points h = absurd h
says_refused order w w' input Usage h = absurd h
says_refused order w w' input Absent h = absurd h
says_refused order w w' input ReadFault h = absurd h
says_refused order w w' input TooLong h = h.1
says_refused order w w' input (Grammar l k g) h = h.2
says_refused order w w' input (Meaning l k g) h = says_cause (kind_for order h.file) order.goals order.limit w w' h.file (Meaning l k g) h.cause
says_refused order w w' input (Line v) h = says_cause (kind_for order h.file) order.goals order.limit w w' h.file (Line v) h.cause
says_refused order w w' input (Grade v) h = says_cause (kind_for order h.file) order.goals order.limit w w' h.file (Grade v) h.cause
says_refused order w w' input (Unbounded v) h = says_cause (kind_for order h.file) order.goals order.limit w w' h.file (Unbounded v) h.cause
says_refused order w w' input Range h = says_cause (kind_for order h.file) order.goals order.limit w w' h.file Range h.cause
says_refused order w w' input TooMany h = says_cause (kind_for order h.file) order.goals order.limit w w' h.file TooMany h.cause
says_refused order w w' input (Stopped k) h = says_cause (kind_for order h.file) order.goals order.limit w w' h.file (Stopped k) h.cause
says_refused order w w' input WriteFault h = absurd h
says_refused order w w' input NoMemory h = elim h [
  | inl n ↦ ([], n)
  | inr k ↦ says_cause (kind_for order k.file) order.goals order.limit w w' k.file NoMemory k.cause
]

pub says_found : (kind : RunKind) (goals : List Goal) (limit : ℕ) (w w' : Watched) (input output : Text) → IsFound kind goals limit w w' input output → WasToldPairs false w w'
says_found Plain goals limit w w' input output s = all_pairs w w' s.found.told
says_found Convert goals limit w w' input output s = ([], s.found.1)
says_found Units goals limit w w' input output s = ([], s.found.told)
says_found LatticePoints goals limit w w' input output s = ([], s.found.told)

pub says_stored : (kind : RunKind) (goals : List Goal) (limit : ℕ) (w w' : Watched) (input output : Text) (r : Status) → r ≡ stored_status kind → IsFound kind goals limit w w' input output → WatchSays r w w'
says_stored kind goals limit w w' input output r d s = subst (λ (t : Status). WatchSays t w w') (sym d) (go kind s)
  where
    go : (kind : RunKind) → IsFound kind goals limit w w' input output → WatchSays (stored_status kind) w w'
    go Plain s = all_pairs w w' s.found.told
    go Convert s = s.found.1
    go Units s = s.found.told
    go LatticePoints s = s.found.told

pub stored_count : (kind : RunKind) (r : Status) (a b : ℕ) → r ≡ stored_status kind → StoreCount r a b
stored_count kind r a b d = subst (λ (t : Status). StoreCount t a b) (sym d) (go kind)
  where
    go : (kind : RunKind) → StoreCount (stored_status kind) a b
    go Plain = tt
    go Convert = tt
    go Units = tt
    go LatticePoints = tt

pub refused_count : (order : OrderData) (w w' : Watched) (input : Text) (r : Status) (a b : ℕ) → IsCause order w w' input r → StoreCount r a b
refused_count order w w' input Done a b h = tt
refused_count order w w' input Converted a b h = tt
refused_count order w w' input UnitsDone a b h = tt
refused_count order w w' input Points a b h = tt
refused_count order w w' input (Unbounded v) a b h = tt
refused_count order w w' input Usage a b h = h
refused_count order w w' input Absent a b h = h
refused_count order w w' input ReadFault a b h = h
refused_count order w w' input TooLong a b h = tt
refused_count order w w' input (Grammar l k g) a b h = tt
refused_count order w w' input (Meaning l k g) a b h = tt
refused_count order w w' input (Line v) a b h = tt
refused_count order w w' input (Grade v) a b h = tt
refused_count order w w' input Range a b h = tt
refused_count order w w' input TooMany a b h = tt
refused_count order w w' input (Stopped k) a b h = tt
refused_count order w w' input WriteFault a b h = absurd h
refused_count order w w' input NoMemory a b h = tt

pub count_of_store : (r : Status) (f f' m m' s s' t t' : ℕ) → t ≡ s → t' ≡ s' → StoreCount r s s' → CountRose r f f' m m' t t'
count_of_store Done f f' m m' s s' t t' d e h = tt
count_of_store Usage f f' m m' s s' t t' d e h = tt
count_of_store Absent f f' m m' s s' t t' d e h = absurd h
count_of_store ReadFault f f' m m' s s' t t' d e h = absurd h
count_of_store TooLong f f' m m' s s' t t' d e h = tt
count_of_store (Grammar l k g) f f' m m' s s' t t' d e h = tt
count_of_store (Meaning l k g) f f' m m' s s' t t' d e h = tt
count_of_store (Line v) f f' m m' s s' t t' d e h = tt
count_of_store (Grade v) f f' m m' s s' t t' d e h = tt
count_of_store Range f f' m m' s s' t t' d e h = tt
count_of_store TooMany f f' m m' s s' t t' d e h = tt
count_of_store (Stopped k) f f' m m' s s' t t' d e h = tt
count_of_store WriteFault f f' m m' s s' t t' d e h = rw (d, e) h
count_of_store NoMemory f f' m m' s s' t t' d e h = tt
count_of_store Converted f f' m m' s s' t t' d e h = tt
count_of_store UnitsDone f f' m m' s s' t t' d e h = tt
count_of_store Points f f' m m' s s' t t' d e h = tt
count_of_store (Unbounded v) f f' m m' s s' t t' d e h = tt

pub store_not_usage : (r : Status) (a b : ℕ) → StoreCount r a b → r ≡ Usage → ⊥
store_not_usage r a b h e = (let k = subst (λ (s : Status). StoreCount s a b) e h in k)

pub explains_words : (words : List Text) (order : OrderData) (w w' : Watched) (f f' : ℕ) (r : Status) (o n : Option Files) → IsOrder words order → (r ≡ Usage → ⊥) → BothTold o n (ExplainsOrder order w w' f f' r) → BothTold o n (Explains words w w' f f' r)
explains_words words order w w' f f' r o n d u h = told_weaker o n (ExplainsOrder order w w' f f' r) (Explains words w w' f f' r) h (go r u)
  where
    go : (r : Status) → (r ≡ Usage → ⊥) → (a b : Files) → ExplainsOrder order w w' f f' r a b → Explains words w w' f f' r a b
    go Done u a b h = (order, d, h)
    go Usage u a b h = absurd h
    go Absent u a b h = (order, d, h)
    go ReadFault u a b h = (order, d, h)
    go TooLong u a b h = (order, d, h)
    go (Grammar l k g) u a b h = (order, d, h)
    go (Meaning l k g) u a b h = (order, d, h)
    go (Line v) u a b h = (order, d, h)
    go (Grade v) u a b h = (order, d, h)
    go Range u a b h = (order, d, h)
    go TooMany u a b h = (order, d, h)
    go (Stopped k) u a b h = (order, d, h)
    go WriteFault u a b h = (order, d, h)
    go NoMemory u a b h = (h.0, inr (order, d, h))
    go Converted u a b h = (order, d, h)
    go UnitsDone u a b h = (order, d, h)
    go Points u a b h = (order, d, h)
    go (Unbounded v) u a b h = (order, d, h)

-- what the words order is one thing, so the folder is not asked where a file is made for it
pub words_unasked : (words : List Text) (order : OrderData) (f f' m m' : ℕ) → IsOrder words order → IsUnasked order.make f f' m m' → AreUnasked words f f' m m'
words_unasked words order f f' m m' d u other e = subst (λ (o : OrderData). IsUnasked o.make f f' m m') (order_one words order other d e) u

-- a side that is ordered is one that a file can be made for
pub side_within : (words : List Text) (order : OrderData) → IsOrder words order → IsSideOf order.make
side_within words order d = go _ order.make d.order_given.make
  where
    go : (text : Option Text) (side : Option ℕ) → IsSide text side → IsSideOf side
    go None side h = subst IsSideOf (sym h) tt
    go (Some text) side h = subst IsSideOf (sym h.1) (h.2.not_low, h.2.not_high)
