-- What is found of each label, once the flags that do not stand are false.
use Rattle.std.proofs.Common.{◌≡◌, inl, inr, ◌∙◌, sym, ap, ap₂, subst, refl, List, [], ◌∷◌, ◌++◌, map, Bool, true, false, ◌||◌, ◌&&◌, Option, Some, None, is_some, codes}
use Rattle.std.specs.Prelude.{fold, find, filter, cond, option_map, option_and_then, slice_get}
use Rattle.std.specs.Option.{option_map_or}
use Rattle.std.specs.Str.{bytes_eq}
use Rattle.std.proofs.lemmas.Slice.Eq.{bytes_eq-Decides}
use Rattle.std.proofs.lemmas.List.{append-nil}
use Rattle.clap.specs.Walk.{Row, Rule, has_row, with_default, default_rows, more_values, reading_by, first_of, one_of, row_text}
use Rattle.clap.specs.Facts.{explicit_source}
use Rattle.clap.specs.Takes.{is_given}
use Rattle.clap.specs.declared.parser.matches.ValueSource.TheVariants.{DefaultValue}
use Rattle.clap.specs.declared.builder.value_parser.Reading.{Reading}
use Rattle.clap.proofs.WalkLemmas.{find-map}
use Rattle.nz_vec.specs.Texts.{Text}
use Rattle.nz_input.specs.declared.kind.Goal.{Goal}
use Rattle.nz_input.specs.declared.kind.Goal.TheVariants.{HilbertBasis, ExtremeRays, SupportHyperplanes, Deg1Elements, ModuleGenerators, Triangulation, DualMode, PrimalMode, LatticePoints}
use Rattle.nz_input.specs.Words.{goal_word}
use Rattle.nz_words.specs.Parts.{Flag, OfGoal, Verbose, Convert, Units, Limit, Stages, Make, Part, Flagged, Valued, Named, flag_word, setting_word, label_of, value_of, given}
use Rattle.nz_words.specs.Orders.{GivenData, given_by, all_goals}
use Rattle.nz_words.specs.Rules.{given_in, is_on, IsFlagIn, AreFlags}
use Rattle.nz_words.proofs.Walking.{filled, row_of, at_new}

-- the first row of an id
abbrev look : Text → List Row → Option Row
look id rows = find (λ r. bytes_eq r.id id) rows

abbrev or_row : Option Row → Option Row → Option Row
or_row (Some r) other = Some r
or_row None other = other

or_row_none : (r : Option Row) → or_row r None ≡ r
or_row_none (Some r) = refl
or_row_none None = refl

or_row_assoc : (a b c : Option Row) → or_row (or_row a b) c ≡ or_row a (or_row b c)
or_row_assoc (Some r) b c = refl
or_row_assoc None b c = refl

look_both : (id : Text) (xs ys : List Row) → look id (xs ++ ys) ≡ or_row (look id xs) (look id ys)
look_both id [] ys = refl
look_both id (x ∷ xs) ys = go (bytes_eq x.id id) (look_both id xs ys)
  where
    go : (b : Bool) → look id (xs ++ ys) ≡ or_row (look id xs) (look id ys) → cond b (Some x) (look id (xs ++ ys)) ≡ or_row (cond b (Some x) (look id xs)) (look id ys)
    go true e = refl
    go false e = e

look_some : (id : Text) (rows : List Row) → has_row id rows ≡ true → (r : Row) × (look id rows ≡ Some r)
look_some id [] h = absurd cc
look_some id (x ∷ xs) h = go (bytes_eq x.id id) refl h (look_some id xs)
  where
    go : (b : Bool) → bytes_eq x.id id ≡ b → (b || has_row id xs) ≡ true → (has_row id xs ≡ true → (r : Row) × (look id xs ≡ Some r)) → (r : Row) × (look id (x ∷ xs) ≡ Some r)
    go true e g more = (x, rw e refl)
    go false e g more = let m = more g in (m.0, rw e m.1)

-- the row of an argument's default
abbrev own : Rule → List Row
own a = default_rows a.id (reading_by a) a.defaults []

own_behind : (id : Text) (how : Reading) (ds : List Text) (rows : List Row) → has_row id rows ≡ false → default_rows id how ds rows ≡ rows ++ default_rows id how ds []
own_behind id how [] rows h = sym (append-nil rows)
own_behind id how (v ∷ vs) rows h = at_new id (more_values DefaultValue (v ∷ vs)) (default_rows id how (v ∷ vs) []) rows h

own_other : (a : Text) (how : Reading) (ds : List Text) (id : Text) → bytes_eq a id ≡ false → look id (default_rows a how ds []) ≡ None
own_other a how [] id e = refl
own_other a how (v ∷ vs) id e = rw e refl

abbrev default_look : Text → List Rule → Option Row
default_look id [] = None
default_look id (a ∷ more) = or_row (look id (own a)) (default_look id more)

with_look : (id : Text) (rows : List Row) (a : Rule) (x : Option Row) → or_row (look id (with_default rows a)) x ≡ or_row (look id rows) (or_row (look id (own a)) x)
with_look id rows a x = go (has_row a.id rows) refl
  where
    other : (b : Bool) → has_row a.id rows ≡ true → look id rows ≡ None → bytes_eq a.id id ≡ b → look id (own a) ≡ None
    other true h e q =
        let some = look_some id rows (subst (λ (t : Text). has_row t rows ≡ true) ((bytes_eq-Decides a.id id).0 q) h) in
        let bad = sym some.1 ∙ e in absurd cc
    other false h e q = own_other a.id (reading_by a) a.defaults id q

    same : (r : Option Row) → has_row a.id rows ≡ true → look id rows ≡ r → or_row (look id rows) x ≡ or_row (look id rows) (or_row (look id (own a)) x)
    same (Some r) h e = rw e refl
    same None h e = rw (e, other (bytes_eq a.id id) h e refl) refl

    go : (b : Bool) → has_row a.id rows ≡ b → or_row (look id (with_default rows a)) x ≡ or_row (look id rows) (or_row (look id (own a)) x)
    go true h = rw h (same (look id rows) h refl)
    go false h = rw (h, own_behind a.id (reading_by a) a.defaults rows h, look_both id rows (own a)) (or_row_assoc (look id rows) (look id (own a)) x)

default_rows_are : (rules : List Rule) (rows : List Row) (id : Text) → look id (fold with_default rows rules) ≡ or_row (look id rows) (default_look id rules)
default_rows_are [] rows id = sym (or_row_none (look id rows))
default_rows_are (a ∷ more) rows id = default_rows_are more (with_default rows a) id ∙ with_look id rows a (default_look id more)

-- ---- the parts among them

abbrev pick : Text → List Part → Option Part
pick id parts = find (λ p. bytes_eq (label_of p) id) parts

picked_given : (id : Text) (parts : List Part) → given id parts ≡ option_map value_of (pick id parts)
picked_given id [] = refl
picked_given id (p ∷ ps) = go (bytes_eq (label_of p) id) (picked_given id ps)
  where
    go : (b : Bool) → given id ps ≡ option_map value_of (pick id ps) → cond b (Some (value_of p)) (given id ps) ≡ option_map value_of (cond b (Some p) (pick id ps))
    go true e = refl
    go false e = e

picked_label : (id : Text) (parts : List Part) (p : Part) → pick id parts ≡ Some p → bytes_eq (label_of p) id ≡ true
picked_label id [] p e = absurd cc
picked_label id (x ∷ xs) p e = go (bytes_eq (label_of x) id) refl (picked_label id xs p)
  where
    go : (b : Bool) → bytes_eq (label_of x) id ≡ b → (pick id xs ≡ Some p → bytes_eq (label_of p) id ≡ true) → bytes_eq (label_of p) id ≡ true
    go true h more = let e' : Some x ≡ Some p = rw h at e in let same : x ≡ p = cc in subst (λ (y : Part). bytes_eq (label_of y) id ≡ true) same h
    go false h more = let e' = rw h at e in more e'

-- what `clap` finds at the end, where these parts stand
abbrev pub rows_for : List Part → List Row
rows_for parts = fold with_default (map row_of parts) filled

look_for : (id : Text) (parts : List Part) → look id (rows_for parts) ≡ or_row (option_map row_of (pick id parts)) (default_look id filled)
look_for id parts = default_rows_are filled (map row_of parts) id ∙ ap (λ (r : Option Row). or_row r (default_look id filled)) (sym (find-map (λ (r : Row). bytes_eq r.id id) row_of parts))

-- ---- values and names

first_for : (id : Text) (parts : List Part) → default_look id filled ≡ None → first_of id (rows_for parts) ≡ given id parts
first_for id parts none = rw (look_for id parts, none) (go (pick id parts) ∙ sym (picked_given id parts))
  where
    go : (p : Option Part) → option_and_then (λ (r : Row). slice_get r.values 0) (or_row (option_map row_of p) None) ≡ option_map value_of p
    go None = refl
    go (Some p) = refl

pub name_is_given : (parts : List Part) → is_some (given (codes "PROJECT") parts) ≡ true → is_given (codes "PROJECT") (rows_for parts) ≡ true
name_is_given parts h = rw (look_for (codes "PROJECT") parts) (go (pick (codes "PROJECT") parts) (ap is_some (sym (picked_given (codes "PROJECT") parts)) ∙ h))
  where
    go : (p : Option Part) → is_some (option_map value_of p) ≡ true → option_map_or (λ (r : Row). explicit_source r.source) (or_row (option_map row_of p) (default_look (codes "PROJECT") filled)) false ≡ true
    go None e = absurd cc
    go (Some p) e = refl

-- ---- flags

-- no option and no name has the word of a flag
record IsNoOther (word : Text) : Type 0 where
  limit : bytes_eq (codes "Limit") word ≡ false
  stages : bytes_eq (codes "Stages") word ≡ false
  make : bytes_eq (codes "Make") word ≡ false
  project : bytes_eq (codes "PROJECT") word ≡ false

no_other : (f : Flag) → IsNoOther (flag_word f)
no_other (OfGoal HilbertBasis) = record { limit = refl; stages = refl; make = refl; project = refl }
no_other (OfGoal ExtremeRays) = record { limit = refl; stages = refl; make = refl; project = refl }
no_other (OfGoal SupportHyperplanes) = record { limit = refl; stages = refl; make = refl; project = refl }
no_other (OfGoal Deg1Elements) = record { limit = refl; stages = refl; make = refl; project = refl }
no_other (OfGoal ModuleGenerators) = record { limit = refl; stages = refl; make = refl; project = refl }
no_other (OfGoal Triangulation) = record { limit = refl; stages = refl; make = refl; project = refl }
no_other (OfGoal DualMode) = record { limit = refl; stages = refl; make = refl; project = refl }
no_other (OfGoal PrimalMode) = record { limit = refl; stages = refl; make = refl; project = refl }
no_other (OfGoal LatticePoints) = record { limit = refl; stages = refl; make = refl; project = refl }
no_other Verbose = record { limit = refl; stages = refl; make = refl; project = refl }
no_other Convert = record { limit = refl; stages = refl; make = refl; project = refl }
no_other Units = record { limit = refl; stages = refl; make = refl; project = refl }

one_default : (f : Flag) → option_and_then row_text (default_look (flag_word f) filled) ≡ Some (codes "false")
one_default (OfGoal HilbertBasis) = refl
one_default (OfGoal ExtremeRays) = refl
one_default (OfGoal SupportHyperplanes) = refl
one_default (OfGoal Deg1Elements) = refl
one_default (OfGoal ModuleGenerators) = refl
one_default (OfGoal Triangulation) = refl
one_default (OfGoal DualMode) = refl
one_default (OfGoal PrimalMode) = refl
one_default (OfGoal LatticePoints) = refl
one_default Verbose = refl
one_default Convert = refl
one_default Units = refl

-- a part with the word of a flag is that flag
flag_value_is : (f : Flag) (p : Part) → bytes_eq (label_of p) (flag_word f) ≡ true → value_of p ≡ codes "true"
flag_value_is f (Flagged g) e = refl
flag_value_is f (Valued Limit v) e = let bad = sym e ∙ (no_other f).limit in absurd cc
flag_value_is f (Valued Stages v) e = let bad = sym e ∙ (no_other f).stages in absurd cc
flag_value_is f (Valued Make v) e = let bad = sym e ∙ (no_other f).make in absurd cc
flag_value_is f (Named n) e = let bad = sym e ∙ (no_other f).project in absurd cc

-- what is found of a flag
abbrev flag_text : Option Text → Text
flag_text None = codes "false"
flag_text (Some v) = codes "true"

one_for : (f : Flag) (parts : List Part) → one_of (flag_word f) (rows_for parts) ≡ Some (flag_text (given (flag_word f) parts))
one_for f parts = rw (look_for (flag_word f) parts, picked_given (flag_word f) parts) (go (pick (flag_word f) parts) refl)
  where
    go : (p : Option Part) → pick (flag_word f) parts ≡ p → option_and_then row_text (or_row (option_map row_of p) (default_look (flag_word f) filled)) ≡ Some (flag_text (option_map value_of p))
    go None e = one_default f
    go (Some p) e = ap (λ (t : Text). Some t) (flag_value_is f p (picked_label (flag_word f) parts p e))

pub flags_for : (parts : List Part) → AreFlags (rows_for parts)
flags_for parts f = go (given (flag_word f) parts) (one_for f parts)
  where
    go : (g : Option Text) → one_of (flag_word f) (rows_for parts) ≡ Some (flag_text g) → IsFlagIn (rows_for parts) (flag_word f)
    go None e = inr e
    go (Some v) e = inl e

on_for : (f : Flag) (parts : List Part) → is_on (flag_word f) (rows_for parts) ≡ is_some (given (flag_word f) parts)
on_for f parts = rw (one_for f parts) (go (given (flag_word f) parts))
  where
    go : (g : Option Text) → bytes_eq (flag_text g) (codes "true") ≡ is_some g
    go None = refl
    go (Some v) = refl

-- ---- all of it

filter_same : (p q : Goal → Bool) (gs : List Goal) → ((g : Goal) → p g ≡ q g) → filter p gs ≡ filter q gs
filter_same p q [] same = refl
filter_same p q (g ∷ gs) same = rw (same g, filter_same p q gs same) refl

abbrev made : Option Text → List Goal → Bool → Option Text → Bool → Option Text → Option Text → Bool → Bool → GivenData
made n g b l v s m c u = record { name = n; goals = g; both_modes = b; limit = l; verbose = v; stages = s; make = m; convert = c; units = u }

pub given_for : (parts : List Part) → given_in (rows_for parts) ≡ given_by parts
given_for parts =
    let goals = filter_same (λ g. is_on (goal_word g) (rows_for parts)) (λ g. is_some (given (goal_word g) parts)) all_goals (λ g. on_for (OfGoal g) parts) in
    let name : first_of (codes "PROJECT") (rows_for parts) ≡ given (codes "PROJECT") parts = first_for (codes "PROJECT") parts refl in
    let limit : first_of (setting_word Limit) (rows_for parts) ≡ given (setting_word Limit) parts = first_for (setting_word Limit) parts refl in
    let stages : first_of (setting_word Stages) (rows_for parts) ≡ given (setting_word Stages) parts = first_for (setting_word Stages) parts refl in
    let make : first_of (setting_word Make) (rows_for parts) ≡ given (setting_word Make) parts = first_for (setting_word Make) parts refl in
    let dual : is_on (goal_word DualMode) (rows_for parts) ≡ is_some (given (goal_word DualMode) parts) = on_for (OfGoal DualMode) parts in
    let primal : is_on (goal_word PrimalMode) (rows_for parts) ≡ is_some (given (goal_word PrimalMode) parts) = on_for (OfGoal PrimalMode) parts in
    let verbose : is_on (flag_word Verbose) (rows_for parts) ≡ is_some (given (flag_word Verbose) parts) = on_for Verbose parts in
    let convert : is_on (flag_word Convert) (rows_for parts) ≡ is_some (given (flag_word Convert) parts) = on_for Convert parts in
    let units : is_on (flag_word Units) (rows_for parts) ≡ is_some (given (flag_word Units) parts) = on_for Units parts in
    same_data _ _ _ _ _ _ _ _ _ _ _ _ _ _ _ _ _ _ name goals (ap₂ (λ (a b : Bool). a && b) dual primal) limit verbose stages make convert units
  where
    same_data : (n n' : Option Text) (g g' : List Goal) (b b' : Bool) (l l' : Option Text) (v v' : Bool) (s s' m m' : Option Text) (c c' u u' : Bool) → n ≡ n' → g ≡ g' → b ≡ b' → l ≡ l' → v ≡ v' → s ≡ s' → m ≡ m' → c ≡ c' → u ≡ u' → made n g b l v s m c u ≡ made n' g' b' l' v' s' m' c' u'
    same_data n n' g g' b b' l l' v v' s s' m m' c c' u u' en eg eb el ev es em ec eu = rw (en, eg, eb, el, ev, es, em, ec, eu) refl
