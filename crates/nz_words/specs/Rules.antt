-- The command that `clap` reads the words by, and what it finds.
use Rattle.std.specs.Prelude.{◌≡◌, ◌⊎◌, ◌∷◌, [], List, true, false, ◌&&◌, Bool, Some, codes, filter}
use Rattle.std.specs.Option.{option_map_or}
use Rattle.std.specs.Str.{bytes_eq}
use Rattle.clap.specs.Walk.{Row, Rule, first_of, one_of}
use Rattle.clap.specs.Simple.{App, new_rule, new_shape}
use Rattle.clap.specs.declared.builder.action.ArgAction.TheVariants.{Set, SetTrue}
use Rattle.nz_vec.specs.Texts.{Text}
use Rattle.nz_input.specs.declared.kind.Goal.{Goal}
use Rattle.nz_input.specs.declared.kind.Goal.TheVariants.{DualMode, PrimalMode}
use Rattle.nz_input.specs.Words.{goal_word}
use Rattle.nz_words.specs.Parts.{Flag, flag_word, Verbose, Convert, Units, setting_word, Limit, Stages, Make}
use Rattle.nz_words.specs.Orders.{GivenData, all_goals}

-- a flag of the command
abbrev pub flag_rule : Text → Rule
flag_rule word = record (new_rule word) { long = Some word; action = Some SetTrue }

-- an option with a value
abbrev pub setting_rule : Text → Rule
setting_rule word = record (new_rule word) { long = Some word; action = Some Set }

-- the name of the project
abbrev pub name_rule : Rule
name_rule = record (new_rule (codes "PROJECT")) { action = Some Set; required = true }

-- the flags, the options and the name
abbrev pub all_rules : List Rule
all_rules =
    flag_rule (codes "HilbertBasis")
    ∷ flag_rule (codes "ExtremeRays")
    ∷ flag_rule (codes "SupportHyperplanes")
    ∷ flag_rule (codes "Deg1Elements")
    ∷ flag_rule (codes "ModuleGenerators")
    ∷ flag_rule (codes "Triangulation")
    ∷ flag_rule (codes "DualMode")
    ∷ flag_rule (codes "PrimalMode")
    ∷ flag_rule (codes "LatticePoints")
    ∷ flag_rule (codes "Verbose")
    ∷ flag_rule (codes "Convert")
    ∷ flag_rule (codes "Units")
    ∷ setting_rule (codes "Limit")
    ∷ setting_rule (codes "Stages")
    ∷ setting_rule (codes "Make")
    ∷ name_rule
    ∷ []

-- the command: its words do not begin with its own name, and it has no help flag
abbrev pub command_app : App
command_app = record {
  top = record (new_shape (codes "nmz")) { rules = all_rules; no_binary_name = true; disable_help_flag = true };
  subs = [];
}

-- the flag was found
abbrev pub is_on : Text → List Row → Bool
is_on word rows = option_map_or (λ text. bytes_eq text (codes "true")) (one_of word rows) false

-- what was found
abbrev pub given_in : List Row → GivenData
given_in rows = record {
  name = first_of (codes "PROJECT") rows;
  goals = filter (λ g. is_on (goal_word g) rows) all_goals;
  both_modes = is_on (goal_word DualMode) rows && is_on (goal_word PrimalMode) rows;
  limit = first_of (setting_word Limit) rows;
  verbose = is_on (flag_word Verbose) rows;
  stages = first_of (setting_word Stages) rows;
  make = first_of (setting_word Make) rows;
  convert = is_on (flag_word Convert) rows;
  units = is_on (flag_word Units) rows;
}

-- the flag is true or false
abbrev pub IsFlagIn : List Row → Text → Type 0
IsFlagIn rows word = (one_of word rows ≡ Some (codes "true")) ⊎ (one_of word rows ≡ Some (codes "false"))

-- each flag is true or false
abbrev pub AreFlags : List Row → Type 0
AreFlags rows = (f : Flag) → IsFlagIn rows (flag_word f)

-- the goal, where it is wanted
abbrev pub only_where : Bool → Goal → List Goal
only_where true g = g ∷ []
only_where false g = []
