-- The words order exactly what is given in what `clap` finds.
use Rattle.std.proofs.Common.{◌≡◌, inl, ◌∙◌, sym, ap, subst, refl, arith, ℕ, List, [], ◌∷◌, map, Bool, true, false, ◌||◌, Option, Some, None, is_some, codes}
use Rattle.std.specs.Prelude.{fold, if◌then◌else◌}
use Rattle.std.specs.Str.{bytes_eq}
use Rattle.std.specs.Str.Parse.{IsNumeral}
use Rattle.std.proofs.lemmas.Slice.Eq.{bytes_eq-Decides}
use Rattle.clap.specs.Walk.{Row, has_row, with_default, nothing_held, walk, settled}
use Rattle.clap.specs.Simple.{built, matches_of}
use Rattle.clap.specs.Takes.{is_given}
use Rattle.clap.specs.Faults.{fault_of, level_fault, default_fault, given_default_fault, defaults_fault, check_fault}
use Rattle.clap.specs.Kinds.{Kinds}
use Rattle.clap.proofs.FaultLemmas.{leaf_fault}
use Rattle.nz_vec.specs.Texts.{Text}
use Rattle.nz_words.specs.Parts.{Setting, Limit, Stages, Make, Part, Flagged, Valued, Named, setting_word, label_of, value_of, given, AreRead, NoneTwice}
use Rattle.nz_words.specs.Orders.{OrderData, GivenData, given_by, BeginsWithDash, IsLimit, IsOptional, IsOrderOf, IsOrder}
use Rattle.nz_words.specs.Rules.{command_app, given_in, AreFlags}
use Rattle.nz_words.proofs.Walking.{Key, on, set, project, rule_for, keys, filled, shape, row_of, nothing, open_at, none_before, none_behind, none_both}
use Rattle.nz_words.proofs.Steps.{IsPlain}
use Rattle.nz_words.proofs.Lexing.{undashed_is_plain}
use Rattle.nz_words.proofs.Listing.{Listed}
use Rattle.nz_words.proofs.Backward.{Quiet, among, back}
use Rattle.nz_words.proofs.Forward.{AreFine, forth}
use Rattle.nz_words.proofs.Defaults.{rows_for, name_is_given, flags_for, given_for}

-- ---- the defaults and the last checks

abbrev no_kinds : Kinds
no_kinds = []

either_none : (b : Bool) → (if b || false then no_kinds else no_kinds) ≡ no_kinds
either_none true = refl
either_none false = refl

empty_none : (b : Bool) (ks : Kinds) → (if b || true then no_kinds else ks) ≡ no_kinds
empty_none true ks = refl
empty_none false ks = refl

key_default : (k : Key) (rows : List Row) → default_fault rows (rule_for k) ≡ []
key_default (on f) rows = either_none (has_row (rule_for (on f)).id rows)
key_default (set o) rows = empty_none (has_row (rule_for (set o)).id rows) (given_default_fault (rule_for (set o)) [])
key_default project rows = empty_none (has_row (rule_for project).id rows) (given_default_fault (rule_for project) [])

defaults_none : (ks : List Key) (rows : List Row) → defaults_fault rows (map rule_for ks) ≡ []
unfolding defaults_fault
defaults_none [] rows = refl
defaults_none (k ∷ ks) rows = none_both _ _ (key_default k rows) (defaults_none ks (with_default rows (rule_for k)))

check_none : (rows : List Row) → is_given (codes "PROJECT") rows ≡ true → check_fault shape rows false ≡ []
check_none rows h = rw h refl

fault_is : (words : List Text) → fault_of command_app words ≡ level_fault shape [] nothing_held words false []
fault_is words = leaf_fault (built command_app) nothing_held words refl

-- ---- what is taken, and what is found then

record Taken (words : List Text) : Type 0 where
  parts : List Part
  read : AreRead parts words
  once : NoneTwice parts
  rows_are : matches_of command_app words ≡ rows_for parts

taken : (words : List Text) → fault_of command_app words ≡ [] → Taken words
taken words h =
    let level = sym (fault_is words) ∙ h in
    let end = (walk filled [] nothing_held words).held in
    let steps = none_before _ _ level in
    let settle = none_before _ _ (none_behind _ _ level) in
    let q : Quiet (open_at [] nothing 1) words (settled filled end).rows = record { steps = steps; settle = settle; rows_are = refl } in
    let found = back words (among nothing) [] 1 (settled filled end).rows q in
    record {
      parts = found.parts;
      read = found.read;
      once = found.listed.once;
      rows_are = ap (λ (rows : List Row). fold with_default rows filled) found.listed.rows_are;
    }

accepted : (words : List Text) (parts : List Part) → AreRead parts words → NoneTwice parts → AreFine parts → is_some (given (codes "PROJECT") parts) ≡ true → (fault_of command_app words ≡ []) × (matches_of command_app words ≡ rows_for parts)
accepted words parts read once fine named =
    let listed : Listed [] parts (map row_of parts) = record { once = once; apart = λ id h. absurd cc; rows_are = refl } in
    let q = forth parts words nothing [] (map row_of parts) 1 read listed (inl refl) fine in
    let rows_are : matches_of command_app words ≡ rows_for parts = ap (λ (rows : List Row). fold with_default rows filled) q.rows_are in
    let check : check_fault shape (matches_of command_app words) false ≡ [] = check_none (matches_of command_app words) (ap (λ (rows : List Row). is_given (codes "PROJECT") rows) rows_are ∙ name_is_given parts named) in
    (fault_is words ∙ none_both _ _ q.steps (none_both _ _ q.settle (none_both _ _ (defaults_none keys _) check)), rows_are)

-- ---- the values of an order are plain

tail_given : (p : Part) (parts : List Part) (label v : Text) → NoneTwice (p ∷ parts) → given label parts ≡ Some v → given label (p ∷ parts) ≡ Some v
tail_given p parts label v once e = go (bytes_eq (label_of p) label) refl
  where
    go : (b : Bool) → bytes_eq (label_of p) label ≡ b → given label (p ∷ parts) ≡ Some v
    go true h = let none = subst (λ (l : Text). given l parts ≡ None) ((bytes_eq-Decides (label_of p) label).0 h) once.0 in let bad = sym none ∙ e in absurd cc
    go false h = rw h e

head_given : (p : Part) (parts : List Part) → given (label_of p) (p ∷ parts) ≡ Some (value_of p)
head_given p parts = rw ((bytes_eq-Decides (label_of p) (label_of p)).1 refl) refl

all_fine : (parts : List Part) → NoneTwice parts → ((o : Setting) (v : Text) → given (setting_word o) parts ≡ Some v → IsPlain v) → ((n : Text) → given (codes "PROJECT") parts ≡ Some n → IsPlain n) → AreFine parts
all_fine [] once values names = tt
all_fine (Flagged f ∷ parts) once values names = (tt, all_fine parts once.1 (λ o v e. values o v (tail_given (Flagged f) parts (setting_word o) v once e)) (λ n e. names n (tail_given (Flagged f) parts (codes "PROJECT") n once e)))
all_fine (Valued s t ∷ parts) once values names = (values s t (head_given (Valued s t) parts), all_fine parts once.1 (λ o v e. values o v (tail_given (Valued s t) parts (setting_word o) v once e)) (λ n e. names n (tail_given (Valued s t) parts (codes "PROJECT") n once e)))
all_fine (Named m ∷ parts) once values names = (names m (head_given (Named m) parts), all_fine parts once.1 (λ o v e. values o v (tail_given (Named m) parts (setting_word o) v once e)) (λ n e. names n (tail_given (Named m) parts (codes "PROJECT") n once e)))

digits_undashed : (text : Text) → IsNumeral 10 text → ¬ BeginsWithDash text
digits_undashed [] n dash = absurd cc
digits_undashed (c ∷ cs) n dash =
    let first : c ≡ 45 = cc in
    let low = rw first at n.1.0 in
    absurd (omega arith)

limit_plain : (text : Option Text) (n : ℕ) (v : Text) → IsLimit text n → text ≡ Some v → IsPlain v
limit_plain None n v h e = absurd cc
limit_plain (Some t) n v h e = let same : t ≡ v = cc in subst IsPlain same (undashed_is_plain t (digits_undashed t h.digits))

optional_plain : (low high : ℕ) (text : Option Text) (n : Option ℕ) (v : Text) → IsOptional low high text n → text ≡ Some v → IsPlain v
optional_plain low high None n v h e = absurd cc
optional_plain low high (Some t) n v h e = let same : t ≡ v = cc in subst IsPlain same (undashed_is_plain t (digits_undashed t h.2.digits))

order_fine : (parts : List Part) (order : OrderData) → NoneTwice parts → IsOrderOf (given_by parts) order → AreFine parts
order_fine parts order once h = all_fine parts once values names
  where
    values : (o : Setting) (v : Text) → given (setting_word o) parts ≡ Some v → IsPlain v
    values Limit v e = limit_plain _ order.limit v h.limit e
    values Stages v e = optional_plain 0 1000000 _ order.stages v h.stages e
    values Make v e = optional_plain 1 150 _ order.make v h.make e

    names : (n : Text) → given (codes "PROJECT") parts ≡ Some n → IsPlain n
    names n e = let both : Some h.word ≡ Some n = sym h.named ∙ e in let same : h.word ≡ n = cc in subst IsPlain same (undashed_is_plain h.word h.names.no_dash)

-- ---- the order

-- what the words order is given in what is found, and they are taken
pub ordered_is_found : (words : List Text) (order : OrderData) → IsOrder words order → (fault_of command_app words ≡ []) × IsOrderOf (given_in (matches_of command_app words)) order
ordered_is_found words order h =
    let named : is_some (given (codes "PROJECT") h.parts) ≡ true = ap is_some h.order_given.named in
    let a = accepted words h.parts h.read h.none_twice (order_fine h.parts order h.none_twice h.order_given) named in
    let same : given_in (matches_of command_app words) ≡ given_by h.parts = ap given_in a.1 ∙ given_for h.parts in
    (a.0, subst (λ (g : GivenData). IsOrderOf g order) (sym same) h.order_given)

-- and the words that are taken order what is given in what is found
pub found_is_ordered : (words : List Text) (order : OrderData) → fault_of command_app words ≡ [] → IsOrderOf (given_in (matches_of command_app words)) order → IsOrder words order
found_is_ordered words order h o =
    let t = taken words h in
    let same : given_in (matches_of command_app words) ≡ given_by t.parts = ap given_in t.rows_are ∙ given_for t.parts in
    record { parts = t.parts; read = t.read; none_twice = t.once; order_given = subst (λ (g : GivenData). IsOrderOf g order) same o }

pub taken_flags : (words : List Text) → fault_of command_app words ≡ [] → AreFlags (matches_of command_app words)
taken_flags words h = let t = taken words h in subst AreFlags (sym t.rows_are) (flags_for t.parts)
