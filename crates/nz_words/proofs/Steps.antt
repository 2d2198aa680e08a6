-- What one more word does to the walk.
use Rattle.std.proofs.Common.{◌≡◌, ◌⊎◌, inl, inr, refl, ℕ, zero, suc, List, [], ◌∷◌, ◌++◌, length, false, Option, Some, None}
use Rattle.std.specs.Prelude.{slice_get, ◌==◌}
use Rattle.std.specs.Str.{bytes_eq, chars}
use Rattle.clap.specs.Lexer.{long_of, short_of}
use Rattle.clap.specs.Walk.{Row, Held, Waiting, plain, idle, option, settled_rows, used, walked, word_met, plain_word, subcommand_met, bundle_met}
use Rattle.clap.specs.Faults.{settle_fault, turn_fault, repeat_fault, flags_fault, word_fault}
use Rattle.clap.specs.Kinds.{Kinds, or_else}
use Rattle.clap.specs.declared.error.kind.ErrorKind.TheVariants as kind
use Rattle.clap.proofs.OnLiterals.{clap_on_literals}
use Rattle.nz_vec.specs.Texts.{Text}
use Rattle.nz_input.specs.declared.kind.Goal.TheVariants.{HilbertBasis, ExtremeRays, SupportHyperplanes, Deg1Elements, ModuleGenerators, Triangulation, DualMode, PrimalMode, LatticePoints}
use Rattle.nz_words.specs.Parts.{Flag, OfGoal, Verbose, Convert, Units, Setting, Limit, Stages, Make, flag_word, setting_word, hyphens}
use Rattle.nz_words.proofs.Walking.{filled, filled_flag, filled_setting, shape, Pending, nothing, value_waits, name_waits, pending_of, held_at, open_at, waits_at, ended_at}

-- the kinds of what waits
abbrev pub settles : List Row → Option (Text × List Text) → Kinds
settles rows p = settle_fault filled false (held_at rows p)

-- ---- a flag

pub flag_turn : (f : Flag) (rows : List Row) (p : Pending) (k : ℕ) → turn_fault shape [] (open_at rows p k) (hyphens ++ flag_word f) ≡ or_else (or_else (settles rows (pending_of p)) (or_else (repeat_fault false (flag_word f) (settled_rows filled (pending_of p) rows)) [])) []
unfolding clap_on_literals
flag_turn (OfGoal HilbertBasis) rows p k = refl
flag_turn (OfGoal ExtremeRays) rows p k = refl
flag_turn (OfGoal SupportHyperplanes) rows p k = refl
flag_turn (OfGoal Deg1Elements) rows p k = refl
flag_turn (OfGoal ModuleGenerators) rows p k = refl
flag_turn (OfGoal Triangulation) rows p k = refl
flag_turn (OfGoal DualMode) rows p k = refl
flag_turn (OfGoal PrimalMode) rows p k = refl
flag_turn (OfGoal LatticePoints) rows p k = refl
flag_turn Verbose rows p k = refl
flag_turn Convert rows p k = refl
flag_turn Units rows p k = refl

pub flag_walk : (f : Flag) (rows : List Row) (p : Pending) (k : ℕ) → walked filled [] (open_at rows p k) (hyphens ++ flag_word f) ≡ open_at (used (filled_flag (flag_word f)) [] (settled_rows filled (pending_of p) rows)) nothing k
unfolding clap_on_literals
flag_walk (OfGoal HilbertBasis) rows p k = refl
flag_walk (OfGoal ExtremeRays) rows p k = refl
flag_walk (OfGoal SupportHyperplanes) rows p k = refl
flag_walk (OfGoal Deg1Elements) rows p k = refl
flag_walk (OfGoal ModuleGenerators) rows p k = refl
flag_walk (OfGoal Triangulation) rows p k = refl
flag_walk (OfGoal DualMode) rows p k = refl
flag_walk (OfGoal PrimalMode) rows p k = refl
flag_walk (OfGoal LatticePoints) rows p k = refl
flag_walk Verbose rows p k = refl
flag_walk Convert rows p k = refl
flag_walk Units rows p k = refl

-- a flag takes no value
pub flag_value : (f : Flag) (w v : Text) (rows : List Row) (p : Pending) (k : ℕ) → bytes_eq w hyphens ≡ false → long_of w ≡ Some (flag_word f, Some v) → turn_fault shape [] (open_at rows p k) w ≡ kind.TooManyValues ∷ []
unfolding clap_on_literals
flag_value (OfGoal HilbertBasis) w v rows p k h e = rw (h, e) refl
flag_value (OfGoal ExtremeRays) w v rows p k h e = rw (h, e) refl
flag_value (OfGoal SupportHyperplanes) w v rows p k h e = rw (h, e) refl
flag_value (OfGoal Deg1Elements) w v rows p k h e = rw (h, e) refl
flag_value (OfGoal ModuleGenerators) w v rows p k h e = rw (h, e) refl
flag_value (OfGoal Triangulation) w v rows p k h e = rw (h, e) refl
flag_value (OfGoal DualMode) w v rows p k h e = rw (h, e) refl
flag_value (OfGoal PrimalMode) w v rows p k h e = rw (h, e) refl
flag_value (OfGoal LatticePoints) w v rows p k h e = rw (h, e) refl
flag_value Verbose w v rows p k h e = rw (h, e) refl
flag_value Convert w v rows p k h e = rw (h, e) refl
flag_value Units w v rows p k h e = rw (h, e) refl

-- ---- an option with a value

pub joined_turn : (o : Setting) (v : Text) (rows : List Row) (p : Pending) (k : ℕ) → turn_fault shape [] (open_at rows p k) (hyphens ++ setting_word o ++ 61 ∷ v) ≡ or_else (or_else (settles rows (pending_of p)) (or_else (repeat_fault false (setting_word o) (settled_rows filled (pending_of p) rows)) [])) []
unfolding clap_on_literals
joined_turn Limit v rows p k = refl
joined_turn Stages v rows p k = refl
joined_turn Make v rows p k = refl

pub joined_walk : (o : Setting) (v : Text) (rows : List Row) (p : Pending) (k : ℕ) → walked filled [] (open_at rows p k) (hyphens ++ setting_word o ++ 61 ∷ v) ≡ open_at (used (filled_setting (setting_word o)) (v ∷ []) (settled_rows filled (pending_of p) rows)) nothing k
unfolding clap_on_literals
joined_walk Limit v rows p k = refl
joined_walk Stages v rows p k = refl
joined_walk Make v rows p k = refl

pub waits_turn : (o : Setting) (rows : List Row) (p : Pending) (k : ℕ) → turn_fault shape [] (open_at rows p k) (hyphens ++ setting_word o) ≡ or_else (settles rows (pending_of p)) []
unfolding clap_on_literals
waits_turn Limit rows p k = refl
waits_turn Stages rows p k = refl
waits_turn Make rows p k = refl

pub waits_walk : (o : Setting) (rows : List Row) (p : Pending) (k : ℕ) → walked filled [] (open_at rows p k) (hyphens ++ setting_word o) ≡ waits_at (settled_rows filled (pending_of p) rows) o k
unfolding clap_on_literals
waits_walk Limit rows p k = refl
waits_walk Stages rows p k = refl
waits_walk Make rows p k = refl

-- an option that waits without a value cannot be used
pub nothing_settles : (o : Setting) (rows : List Row) → settles rows (Some (setting_word o, [])) ≡ kind.InvalidValue ∷ []
nothing_settles Limit rows = refl
nothing_settles Stages rows = refl
nothing_settles Make rows = refl

-- ---- a word that is no option

-- the word is not `--`, no long word, and no bundle of characters
pub record IsPlain (w : Text) : Type 0 where
  pub not_hyphens : bytes_eq w hyphens ≡ false
  pub no_long : long_of w ≡ None
  pub no_short : (short_of w ≡ None) ⊎ ((flags : Text) × (short_of w ≡ Some flags) × (slice_get (chars flags) 0 ≡ None))

no_bundle : (n : ℕ) (flags : Text) (h : Held) → slice_get (chars flags) 0 ≡ None → bundle_met filled n flags 0 plain h ≡ (h, plain)
unfolding bundle_met
no_bundle zero flags h e = refl
no_bundle (suc n) flags h e = rw e refl

no_flags : (n : ℕ) (flags : Text) (h : Held) → slice_get (chars flags) 0 ≡ None → flags_fault filled false n flags 0 h ≡ []
unfolding flags_fault
no_flags zero flags h e = refl
no_flags (suc n) flags h e = rw e refl

pub plain_met : (wt : Waiting) (w : Text) (k : ℕ) (rows : List Row) (p : Option (Text × List Text)) → subcommand_met [] wt w ≡ None → IsPlain w → word_met filled [] false wt k w (held_at rows p) ≡ plain_word filled wt w (held_at rows p)
plain_met wt w k rows p s h = elim h.no_short [
  | inl e ↦ rw (s, h.not_hyphens, h.no_long, e) refl
  | inr e ↦ rw (s, h.not_hyphens, h.no_long, e.1, no_bundle (length e.0) e.0 (held_at rows p) e.2) refl
]

pub plain_fault : (wt : Waiting) (w : Text) (rows : List Row) (p : Option (Text × List Text)) → subcommand_met [] wt w ≡ None → IsPlain w → word_fault shape [] false wt w (held_at rows p) ≡ []
plain_fault wt w rows p s h = elim h.no_short [
  | inl e ↦ rw (s, h.not_hyphens, h.no_long, e) refl
  | inr e ↦ rw (s, h.not_hyphens, h.no_long, e.1) (no_flags (length e.0) e.0 (held_at rows p) e.2)
]

-- the value of an option
pub value_turn : (o : Setting) (w : Text) (rows : List Row) (k : ℕ) → IsPlain w → turn_fault shape [] (waits_at rows o k) w ≡ []
value_turn Limit w rows k h = rw (plain_met (option (setting_word Limit)) w k rows (Some (setting_word Limit, [])) refl h, plain_fault (option (setting_word Limit)) w rows (Some (setting_word Limit, [])) refl h) refl
value_turn Stages w rows k h = rw (plain_met (option (setting_word Stages)) w k rows (Some (setting_word Stages, [])) refl h, plain_fault (option (setting_word Stages)) w rows (Some (setting_word Stages, [])) refl h) refl
value_turn Make w rows k h = rw (plain_met (option (setting_word Make)) w k rows (Some (setting_word Make, [])) refl h, plain_fault (option (setting_word Make)) w rows (Some (setting_word Make, [])) refl h) refl

pub value_walk : (o : Setting) (w : Text) (rows : List Row) (k : ℕ) → IsPlain w → walked filled [] (waits_at rows o k) w ≡ open_at rows (value_waits o w) k
unfolding walked
value_walk Limit w rows k h = rw (plain_met (option (setting_word Limit)) w k rows (Some (setting_word Limit, [])) refl h) refl
value_walk Stages w rows k h = rw (plain_met (option (setting_word Stages)) w k rows (Some (setting_word Stages, [])) refl h) refl
value_walk Make w rows k h = rw (plain_met (option (setting_word Make)) w k rows (Some (setting_word Make, [])) refl h) refl

-- a name
pub name_turn : (w : Text) (rows : List Row) (p : Pending) → IsPlain w → turn_fault shape [] (open_at rows p 1) w ≡ settles rows (pending_of p)
name_turn w rows nothing h = rw (plain_met idle w 1 rows None refl h, plain_fault idle w rows None refl h) refl
name_turn w rows (value_waits Limit v) h = rw (plain_met idle w 1 rows (pending_of (value_waits Limit v)) refl h, plain_fault idle w rows (pending_of (value_waits Limit v)) refl h) refl
name_turn w rows (value_waits Stages v) h = rw (plain_met idle w 1 rows (pending_of (value_waits Stages v)) refl h, plain_fault idle w rows (pending_of (value_waits Stages v)) refl h) refl
name_turn w rows (value_waits Make v) h = rw (plain_met idle w 1 rows (pending_of (value_waits Make v)) refl h, plain_fault idle w rows (pending_of (value_waits Make v)) refl h) refl
name_turn w rows (name_waits n) h = rw (plain_met idle w 1 rows (pending_of (name_waits n)) refl h, plain_fault idle w rows (pending_of (name_waits n)) refl h) refl

pub name_walk : (w : Text) (rows : List Row) (p : Pending) → IsPlain w → walked filled [] (open_at rows p 1) w ≡ open_at (settled_rows filled (pending_of p) rows) (name_waits w) 2
unfolding walked
name_walk w rows nothing h = rw (plain_met idle w 1 rows None refl h) refl
name_walk w rows (value_waits Limit v) h = rw (plain_met idle w 1 rows (pending_of (value_waits Limit v)) refl h) refl
name_walk w rows (value_waits Stages v) h = rw (plain_met idle w 1 rows (pending_of (value_waits Stages v)) refl h) refl
name_walk w rows (value_waits Make v) h = rw (plain_met idle w 1 rows (pending_of (value_waits Make v)) refl h) refl
name_walk w rows (name_waits n) h = rw (plain_met idle w 1 rows (pending_of (name_waits n)) refl h) refl

-- there is no second name
pub stray_turn : (w : Text) (rows : List Row) (p : Pending) (k : ℕ) → IsPlain w → (1 == k) ≡ false → turn_fault shape [] (open_at rows p k) w ≡ kind.UnknownArgument ∷ []
stray_turn w rows p k h e = rw (plain_met idle w k rows (pending_of p) refl h, plain_fault idle w rows (pending_of p) refl h, e) refl

-- ---- behind `--`

pub end_turn : (rows : List Row) (p : Pending) (k : ℕ) → turn_fault shape [] (open_at rows p k) hyphens ≡ []
end_turn rows p k = refl

pub end_walk : (rows : List Row) (p : Pending) (k : ℕ) → walked filled [] (open_at rows p k) hyphens ≡ ended_at rows p k
unfolding walked
end_walk rows p k = refl

pub behind_turn : (w : Text) (rows : List Row) (p : Pending) → turn_fault shape [] (ended_at rows p 1) w ≡ settles rows (pending_of p)
behind_turn w rows nothing = refl
behind_turn w rows (value_waits Limit v) = refl
behind_turn w rows (value_waits Stages v) = refl
behind_turn w rows (value_waits Make v) = refl
behind_turn w rows (name_waits n) = refl

pub behind_walk : (w : Text) (rows : List Row) (p : Pending) → walked filled [] (ended_at rows p 1) w ≡ ended_at (settled_rows filled (pending_of p) rows) (name_waits w) 2
unfolding walked
behind_walk w rows nothing = refl
behind_walk w rows (value_waits Limit v) = refl
behind_walk w rows (value_waits Stages v) = refl
behind_walk w rows (value_waits Make v) = refl
behind_walk w rows (name_waits n) = refl

pub behind_stray : (w : Text) (rows : List Row) (p : Pending) (k : ℕ) → (1 == k) ≡ false → turn_fault shape [] (ended_at rows p k) w ≡ kind.UnknownArgument ∷ []
behind_stray w rows p k e = rw e refl
