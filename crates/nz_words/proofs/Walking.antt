-- What `clap` makes of the words, word by word.
use Rattle.std.proofs.Common.{◌≡◌, ap, refl, ℕ, List, [], ◌∷◌, ◌++◌, map, Bool, true, false, ◌||◌, Option, Some, None, codes}
use Rattle.std.specs.Str.{bytes_eq}
use Rattle.std.proofs.lemmas.List.{append-nil}
use Rattle.clap.specs.Lexer.{long_of}
use Rattle.clap.specs.Walk.{Row, Rule, Held, Walk, idle, option, at_row, has_row, arg_by_long, settled_rows, used, with_values}
use Rattle.clap.specs.Simple.{Shape, built, new_shape, is_simple}
use Rattle.clap.specs.Faults.{settle_fault, is_simple_and_free, repeat_fault}
use Rattle.clap.specs.Kinds.{Kinds, or_else}
use Rattle.clap.specs.declared.builder.value_parser.ValueParser.TheVariants as vp
use Rattle.clap.specs.declared.builder.value_parser.Reading.TheVariants as reading
use Rattle.clap.specs.declared.parser.matches.ValueSource.TheVariants.{CommandLine}
use Rattle.nz_vec.specs.Texts.{Text}
use Rattle.nz_input.specs.declared.kind.Goal.TheVariants.{HilbertBasis, ExtremeRays, SupportHyperplanes, Deg1Elements, ModuleGenerators, Triangulation, DualMode, PrimalMode, LatticePoints}
use Rattle.nz_words.specs.Parts.{Flag, OfGoal, Verbose, Convert, Units, Setting, Limit, Stages, Make, Part, Valued, Named, flag_word, setting_word, hyphens, label_of, value_of}
use Rattle.nz_words.specs.Rules.{flag_rule, setting_rule, name_rule, command_app}

-- ---- the command as it is built

abbrev pub filled_flag : Text → Rule
filled_flag word = record (flag_rule word) {
  parser = Some vp.Bool;
  range = Some (record { start_inclusive = 0; end_inclusive = 0 });
  defaults = codes "false" ∷ [];
  missing = codes "true" ∷ [];
}

abbrev pub filled_setting : Text → Rule
filled_setting word = record (setting_rule word) {
  parser = Some vp.String;
  range = Some (record { start_inclusive = 1; end_inclusive = 1 });
}

abbrev pub filled_name : Rule
filled_name = record name_rule {
  index = Some 1;
  parser = Some vp.String;
  range = Some (record { start_inclusive = 1; end_inclusive = 1 });
}

-- the three sorts of arguments
pub data Key : Type 0 where
  on : Flag → Key
  set : Setting → Key
  project : Key

abbrev pub rule_for : Key → Rule
rule_for (on f) = filled_flag (flag_word f)
rule_for (set o) = filled_setting (setting_word o)
rule_for project = filled_name

abbrev pub keys : List Key
keys =
    on (OfGoal HilbertBasis)
    ∷ on (OfGoal ExtremeRays)
    ∷ on (OfGoal SupportHyperplanes)
    ∷ on (OfGoal Deg1Elements)
    ∷ on (OfGoal ModuleGenerators)
    ∷ on (OfGoal Triangulation)
    ∷ on (OfGoal DualMode)
    ∷ on (OfGoal PrimalMode)
    ∷ on (OfGoal LatticePoints)
    ∷ on Verbose
    ∷ on Convert
    ∷ on Units
    ∷ set Limit
    ∷ set Stages
    ∷ set Make
    ∷ project
    ∷ []

abbrev pub filled : List Rule
filled = map rule_for keys

abbrev pub shape : Shape
shape = record (new_shape (codes "nmz")) {
  rules = filled;
  no_binary_name = true;
  disable_help_flag = true;
  disable_help_subcommand = true;
  is_built = true;
}

pub built_is : built command_app ≡ record { top = shape; subs = [] }
built_is = refl

pub simple_is : is_simple command_app ≡ true
simple_is = refl

pub free_is : is_simple_and_free command_app ≡ true
free_is = refl

-- ---- where the walk stands

abbrev pub row_of : Part → Row
row_of p = record {
  id = label_of p;
  values = value_of p ∷ [];
  count = None;
  source = Some CommandLine;
  reading = reading.AsWritten;
}

-- a part whose value was its own word waits until the next use, and is used then
pub data Pending : Type 0 where
  nothing : Pending
  value_waits : Setting → Text → Pending
  name_waits : Text → Pending

abbrev pub parts_of : Pending → List Part
parts_of nothing = []
parts_of (value_waits o v) = Valued o v ∷ []
parts_of (name_waits n) = Named n ∷ []

abbrev pub pending_of : Pending → Option (Text × List Text)
pending_of nothing = None
pending_of (value_waits o v) = Some (setting_word o, v ∷ [])
pending_of (name_waits n) = Some (codes "PROJECT", n ∷ [])

abbrev pub held_at : List Row → Option (Text × List Text) → Held
held_at rows p = record { rows = rows; pending = p; skip = 0 }

abbrev pub open_at : List Row → Pending → ℕ → Walk
open_at rows p position = record { held = held_at rows (pending_of p); waiting = idle; position = position; is_trailing = false; stopped = None }

abbrev pub waits_at : List Row → Setting → ℕ → Walk
waits_at rows o position = record { held = held_at rows (Some (setting_word o, [])); waiting = option (setting_word o); position = position; is_trailing = false; stopped = None }

abbrev pub ended_at : List Row → Pending → ℕ → Walk
ended_at rows p position = record { held = held_at rows (pending_of p); waiting = idle; position = position; is_trailing = true; stopped = None }

-- ---- rows

-- a row of an id that no row has comes at the end
pub at_new : (id : Text) (change : Row → List Row) (missing : List Row) (rows : List Row) → has_row id rows ≡ false → at_row id change missing rows ≡ rows ++ missing
at_new id change missing [] h = refl
at_new id change missing (r ∷ rs) h = go (bytes_eq r.id id) refl h (at_new id change missing rs)
  where
    go : (b : Bool) → bytes_eq r.id id ≡ b → (b || has_row id rs) ≡ false → (has_row id rs ≡ false → at_row id change missing rs ≡ rs ++ missing) → at_row id change missing (r ∷ rs) ≡ r ∷ rs ++ missing
    go true e g more = absurd cc
    go false e g more = rw e (ap (λ (xs : List Row). r ∷ xs) (more g))

-- ---- the words of options

pub long_flag : (f : Flag) → long_of (hyphens ++ flag_word f) ≡ Some (flag_word f, None)
long_flag (OfGoal HilbertBasis) = refl
long_flag (OfGoal ExtremeRays) = refl
long_flag (OfGoal SupportHyperplanes) = refl
long_flag (OfGoal Deg1Elements) = refl
long_flag (OfGoal ModuleGenerators) = refl
long_flag (OfGoal Triangulation) = refl
long_flag (OfGoal DualMode) = refl
long_flag (OfGoal PrimalMode) = refl
long_flag (OfGoal LatticePoints) = refl
long_flag Verbose = refl
long_flag Convert = refl
long_flag Units = refl

pub long_setting : (o : Setting) → long_of (hyphens ++ setting_word o) ≡ Some (setting_word o, None)
long_setting Limit = refl
long_setting Stages = refl
long_setting Make = refl

pub long_joined : (o : Setting) (v : Text) → long_of (hyphens ++ setting_word o ++ 61 ∷ v) ≡ Some (setting_word o, Some v)
long_joined Limit v = refl
long_joined Stages v = refl
long_joined Make v = refl

pub flag_found : (f : Flag) → arg_by_long filled (flag_word f) ≡ Some (filled_flag (flag_word f))
flag_found (OfGoal HilbertBasis) = refl
flag_found (OfGoal ExtremeRays) = refl
flag_found (OfGoal SupportHyperplanes) = refl
flag_found (OfGoal Deg1Elements) = refl
flag_found (OfGoal ModuleGenerators) = refl
flag_found (OfGoal Triangulation) = refl
flag_found (OfGoal DualMode) = refl
flag_found (OfGoal PrimalMode) = refl
flag_found (OfGoal LatticePoints) = refl
flag_found Verbose = refl
flag_found Convert = refl
flag_found Units = refl

pub setting_found : (o : Setting) → arg_by_long filled (setting_word o) ≡ Some (filled_setting (setting_word o))
setting_found Limit = refl
setting_found Stages = refl
setting_found Make = refl

-- ---- lists of kinds

pub none_before : (a b : Kinds) → or_else a b ≡ [] → a ≡ []
none_before [] b h = refl
none_before (k ∷ ks) b h = absurd cc

pub none_behind : (a b : Kinds) → or_else a b ≡ [] → b ≡ []
none_behind [] b h = h
none_behind (k ∷ ks) b h = absurd cc

pub none_both : (a b : Kinds) → a ≡ [] → b ≡ [] → or_else a b ≡ []
none_both a b ha hb = rw (ha, hb) refl

pub not_again : (again : Text) (rows : List Row) → repeat_fault false again rows ≡ [] → has_row again rows ≡ false
not_again id rows h = go (has_row id rows) refl h
  where
    go : (b : Bool) → has_row id rows ≡ b → repeat_fault false id rows ≡ [] → has_row id rows ≡ false
    go false e g = e
    go true e g = let g' = rw e at g in absurd cc

pub again_not : (id : Text) (rows : List Row) → has_row id rows ≡ false → repeat_fault false id rows ≡ []
again_not id rows h = rw h refl

-- ---- what waits is used

-- the fault of what waits, where it waits with its value
pub value_fault : (o : Setting) (v : Text) (rows : List Row) → settle_fault filled false (held_at rows (Some (setting_word o, v ∷ []))) ≡ or_else (repeat_fault false (setting_word o) rows) []
value_fault Limit v rows = refl
value_fault Stages v rows = refl
value_fault Make v rows = refl

pub name_fault : (n : Text) (rows : List Row) → settle_fault filled false (held_at rows (Some (codes "PROJECT", n ∷ []))) ≡ or_else (repeat_fault false (codes "PROJECT") rows) []
name_fault n rows = refl

pub value_rows : (o : Setting) (v : Text) (rows : List Row) → settled_rows filled (Some (setting_word o, v ∷ [])) rows ≡ used (filled_setting (setting_word o)) (v ∷ []) rows
value_rows Limit v rows = refl
value_rows Stages v rows = refl
value_rows Make v rows = refl

pub used_new : (p : Part) (rows : List Row) → has_row (label_of p) rows ≡ false → with_values (label_of p) reading.AsWritten CommandLine (value_of p ∷ []) (at_row (label_of p) (λ _. []) [] rows) ≡ rows ++ row_of p ∷ []
used_new p rows h = rw (at_new (label_of p) (λ _. []) [] rows h, append-nil rows, at_new (label_of p) _ (row_of p ∷ []) rows h) refl
