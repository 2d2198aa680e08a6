-- What the words of the command line order.
use Rattle.std.specs.Prelude.{◌≡◌, ◌≢◌, ◌⊎◌, ℕ, ◌<◌, ◌≤◌, Bool, false, ◌&&◌, List, [], ◌∷◌, ◌++◌, length, filter, Option, Some, None, is_some, Contains, codes}
use Rattle.std.specs.Str.Parse.{IsNumeral, digits_value}
use Rattle.nz_vec.specs.Texts.{Text}
use Rattle.nz_input.specs.declared.kind.Goal.{Goal}
use Rattle.nz_input.specs.declared.kind.Goal.TheVariants.{HilbertBasis, ExtremeRays, SupportHyperplanes, Deg1Elements, ModuleGenerators, Triangulation, DualMode, PrimalMode, LatticePoints}
use Rattle.nz_input.specs.Words.{goal_word}
use Rattle.nz_words.specs.Parts.{Part, given, flag_word, setting_word, Verbose, Convert, Units, Limit, Stages, Make, AreRead, NoneTwice}

-- an order: the project, the goals, the limit of the lists, whether each stage is printed, after how many the run stops, the side of the file that is made
-- in the place of an input, whether it is converted and not solved, and whether the units of its monoid are listed
pub record OrderData : Type 0 where
  pub project : Text
  pub goals : List Goal
  pub limit : ℕ
  pub verbose : Bool
  pub stages : Option ℕ
  pub make : Option ℕ
  pub convert : Bool
  pub units : Bool

-- what the words give, before it is judged
pub record GivenData : Type 0 where
  pub name : Option Text
  pub goals : List Goal
  pub both_modes : Bool
  pub limit : Option Text
  pub verbose : Bool
  pub stages : Option Text
  pub make : Option Text
  pub convert : Bool
  pub units : Bool

-- all goals, in the order in which an order names them
abbrev pub all_goals : List Goal
all_goals = HilbertBasis ∷ ExtremeRays ∷ SupportHyperplanes ∷ Deg1Elements ∷ ModuleGenerators ∷ Triangulation ∷ DualMode ∷ PrimalMode ∷ LatticePoints ∷ []

-- what the parts give
abbrev pub given_by : List Part → GivenData
given_by parts = record {
  name = given (codes "PROJECT") parts;
  goals = filter (λ g. is_some (given (goal_word g) parts)) all_goals;
  both_modes = is_some (given (goal_word DualMode) parts) && is_some (given (goal_word PrimalMode) parts);
  limit = given (setting_word Limit) parts;
  verbose = is_some (given (flag_word Verbose) parts);
  stages = given (setting_word Stages) parts;
  make = given (setting_word Make) parts;
  convert = is_some (given (flag_word Convert) parts);
  units = is_some (given (flag_word Units) parts);
}

-- ---- the project

-- the word begins with `-`
abbrev pub BeginsWithDash : Text → Type 0
BeginsWithDash word = (rest : Text) × (word ≡ 45 ∷ rest)

-- the name of the input file of a project
abbrev pub input_name : Text → Text
input_name project = project ++ codes ".in"

-- the project is the word without the one `.in` at its end, where it has one there
abbrev pub Names : Text → Text → Type 0
Names word project = (word ≡ input_name project) ⊎ ((word ≡ project) × ((other : Text) → word ≢ input_name other))

-- a project has 1 to 200 bytes, none of them 0
pub record IsProject (project : Text) : Type 0 where
  pub not_empty : 0 < length project
  pub short : length project ≤ 200
  pub no_zero : ¬ Contains project 0

-- the word names the project, and does not begin with `-`
pub record IsNameOf (word project : Text) : Type 0 where
  pub no_dash : ¬ BeginsWithDash word
  pub names : Names word project
  pub allowed : IsProject project

-- ---- values

-- the text is the number in 1 to 9 decimal digits, and the number lies within these bounds
pub record IsNumber (low high : ℕ) (text : Text) (n : ℕ) : Type 0 where
  pub digits : IsNumeral 10 text
  pub few : length text ≤ 9
  pub value : n ≡ digits_value 10 text
  pub not_low : low ≤ n
  pub not_high : n ≤ high

-- the limit is from 1 to 250,000, and 100,000 where none is given
abbrev pub IsLimit : Option Text → ℕ → Type 0
IsLimit None n = n ≡ 100000
IsLimit (Some text) n = IsNumber 1 250000 text n

-- the number lies within these bounds, and there is none where none is given
abbrev pub IsOptional : (low high : ℕ) → Option Text → Option ℕ → Type 0
IsOptional low high None n = n ≡ None
IsOptional low high (Some text) n = (k : ℕ) × (n ≡ Some k) × IsNumber low high text k

-- the count of stages is at most 1,000,000
abbrev pub AreStages : Option Text → Option ℕ → Type 0
AreStages text n = IsOptional 0 1000000 text n

-- the side of a made file is from 1 to 150
abbrev pub IsSide : Option Text → Option ℕ → Type 0
IsSide text n = IsOptional 1 150 text n

-- ---- the order

-- two of the flags that name a kind of run are given
abbrev pub two_kinds : GivenData → Bool
two_kinds data_given = data_given.convert && data_given.units

-- the order that is given: one name of a project, not both modes, one kind of run at most, and values within their bounds
pub record IsOrderOf (data_given : GivenData) (order : OrderData) : Type 0 where
  pub word : Text
  pub named : data_given.name ≡ Some word
  pub names : IsNameOf word order.project
  pub goals : order.goals ≡ data_given.goals
  pub one_mode : data_given.both_modes ≡ false
  pub one_kind : two_kinds data_given ≡ false
  pub limit : IsLimit data_given.limit order.limit
  pub verbose : order.verbose ≡ data_given.verbose
  pub stages : AreStages data_given.stages order.stages
  pub make : IsSide data_given.make order.make
  pub convert : order.convert ≡ data_given.convert
  pub units : order.units ≡ data_given.units

-- the words order this
pub record IsOrder (words : List Text) (order : OrderData) : Type 0 where
  pub parts : List Part
  pub read : AreRead parts words
  pub none_twice : NoneTwice parts
  pub order_given : IsOrderOf (given_by parts) order

-- the words are refused: they order nothing
abbrev pub AreRefused : List Text → Type 0
AreRefused words = (order : OrderData) → ¬ IsOrder words order

-- the two fields of what the words order
pub record AreFields (words : List Text) (verbose : Bool) (stages : Option ℕ) : Type 0 where
  pub order : OrderData
  pub ordered : IsOrder words order
  pub same_verbose : verbose ≡ order.verbose
  pub same_stages : stages ≡ order.stages

-- what the watch is chosen by: the two fields of the order, and false and None where the words are refused
abbrev pub IsChoice : List Text → Bool → Option ℕ → Type 0
IsChoice words verbose stages = AreFields words verbose stages ⊎ (AreRefused words × (verbose ≡ false) × (stages ≡ None))

-- the words order one thing at most
abbrev pub OrdersOne : Type 0
OrdersOne = (words : List Text) (a b : OrderData) → IsOrder words a → IsOrder words b → a ≡ b
