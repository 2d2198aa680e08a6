-- How the words of the command line are read: as flags, options with their values, and names.
use Rattle.std.specs.Prelude.{◌≡◌, ◌⊎◌, List, [], ◌∷◌, ◌++◌, Option, Some, None, cond, codes, map, string_bytes}
use Rattle.std.specs.Prelude.{String}
use Rattle.std.specs.declared.alloc.Global.{Global}
use Rattle.std.specs.Str.{bytes_eq}
use Rattle.nz_vec.specs.Texts.{Text}
use Rattle.nz_input.specs.declared.kind.Goal.{Goal}
use Rattle.nz_input.specs.Words.{goal_word}

-- the bytes of each word
abbrev pub bytes_of_each : List (String Global) → List Text
bytes_of_each words = map (λ (word : String Global). string_bytes word) words

-- a flag: a goal, that each stage is printed, that the input is converted, or that the units of its monoid are listed
pub data Flag : Type 0 where
  OfGoal : Goal → Flag
  Verbose : Flag
  Convert : Flag
  Units : Flag

-- an option with a value
pub data Setting : Type 0 where
  Limit : Setting
  Stages : Setting
  Make : Setting

-- what a word stands for, or an option together with its value
pub data Part : Type 0 where
  Flagged : Flag → Part
  Valued : Setting → Text → Part
  Named : Text → Part

-- the word of a flag, behind its two hyphens
abbrev pub flag_word : Flag → Text
flag_word (OfGoal g) = goal_word g
flag_word Verbose = codes "Verbose"
flag_word Convert = codes "Convert"
flag_word Units = codes "Units"

-- the word of an option, behind its two hyphens
abbrev pub setting_word : Setting → Text
setting_word Limit = codes "Limit"
setting_word Stages = codes "Stages"
setting_word Make = codes "Make"

-- two hyphens
abbrev pub hyphens : Text
hyphens = 45 ∷ 45 ∷ []

-- the words begin with the part, and then these remain: an option's value is the next word, whatever it is, or stands behind `=`
abbrev pub Begins : Part → List Text → List Text → Type 0
Begins (Flagged f) words rest = words ≡ (hyphens ++ flag_word f) ∷ rest
Begins (Valued o v) words rest = (words ≡ (hyphens ++ setting_word o) ∷ v ∷ rest) ⊎ (words ≡ (hyphens ++ setting_word o ++ 61 ∷ v) ∷ rest)
Begins (Named n) words rest = words ≡ n ∷ rest

-- the options have ended: each word behind `--` is a name
abbrev pub HaveEnded : List Part → List Text → Type 0
HaveEnded parts words = (names : List Text) × (words ≡ hyphens ∷ names) × (parts ≡ map Named names)

-- the words are read from the left as these parts
abbrev pub AreRead : List Part → List Text → Type 0
AreRead [] words = (words ≡ []) ⊎ HaveEnded [] words
AreRead (part ∷ parts) words = ((rest : List Text) × Begins part words rest × AreRead parts rest) ⊎ HaveEnded (part ∷ parts) words

-- what tells parts apart: the word of a flag or an option, and one label for all names
abbrev pub label_of : Part → Text
label_of (Flagged f) = flag_word f
label_of (Valued o v) = setting_word o
label_of (Named n) = codes "PROJECT"

-- the value of a part; a flag that stands is true
abbrev pub value_of : Part → Text
value_of (Flagged f) = codes "true"
value_of (Valued o v) = v
value_of (Named n) = n

-- the value of the first part with this label
abbrev pub given : Text → List Part → Option Text
given label [] = None
given label (part ∷ parts) = cond (bytes_eq (label_of part) label) (Some (value_of part)) (given label parts)

-- no flag and no option stands twice, and there are no two names
abbrev pub NoneTwice : List Part → Type 0
NoneTwice [] = Unit {0}
NoneTwice (part ∷ parts) = (given (label_of part) parts ≡ None) × NoneTwice parts
