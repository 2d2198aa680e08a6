-- What a word looks like.
use Rattle.std.proofs.Common.{◌≡◌, inl, ◌∙◌, sym, ap, subst, refl, arith, ℕ, suc, ◌+◌, List, [], ◌∷◌, ◌++◌, Bool, true, false, not, ◌&&◌, ◌||◌, Option, Some, None, is_some}
use Rattle.std.specs.Prelude.{find, map, if◌then◌else◌, ◌==◌}
use Rattle.std.specs.List.{before_first, after_first, position_or_len}
use Rattle.std.specs.Str.{bytes_eq}
use Rattle.std.proofs.lemmas.Slice.Eq.{bytes_eq-Decides}
use Rattle.clap.specs.Lexer.{long_of, has_byte, name_and_value}
use Rattle.clap.specs.Walk.{Rule, arg_by_long, has_long}
use Rattle.nz_vec.specs.Texts.{Text}
use Rattle.nz_words.specs.Parts.{Flag, Setting, flag_word, setting_word, hyphens}
use Rattle.nz_words.specs.Orders.{BeginsWithDash}
use Rattle.nz_words.proofs.Walking.{Key, on, set, project, rule_for, keys, filled}
use Rattle.nz_words.proofs.Steps.{IsPlain}

-- the same number, as a test
same_number : (x c : ℕ) → (x == c) ≡ true → x ≡ c
same_number x c e = grind arith

-- a word without a hyphen before it is plain
pub undashed_is_plain : (w : Text) → ¬ BeginsWithDash w → IsPlain w
undashed_is_plain [] h = record { not_hyphens = refl; no_long = refl; no_short = inl refl }
undashed_is_plain (x ∷ xs) h = go (x == 45) refl
  where
    go : (b : Bool) → (x == 45) ≡ b → IsPlain (x ∷ xs)
    go true e = absurd (h (xs, ap (λ n. n ∷ xs) (same_number x 45 e)))
    go false e = record { not_hyphens = rw e refl; no_long = rw e refl; no_short = inl (rw e refl) }

-- ---- the name and the value of a long word

abbrev is_equals : ℕ → Bool
is_equals x = x == 61

not_found : (xs : Text) → has_byte 61 xs ≡ false → before_first is_equals xs ≡ xs
not_found [] h = refl
not_found (x ∷ xs) h = go (x == 61) refl h (not_found xs)
  where
    go : (b : Bool) → (x == 61) ≡ b → (b || has_byte 61 xs) ≡ false → (has_byte 61 xs ≡ false → before_first is_equals xs ≡ xs) → before_first is_equals (x ∷ xs) ≡ x ∷ xs
    go true e g more = absurd cc
    go false e g more =
        let n = position_or_len is_equals xs in
        let len : position_or_len is_equals (x ∷ xs) ≡ suc n = rw e (omega arith) in
        rw len (ap (λ (ys : Text). x ∷ ys) (more g))

at_equals : (text : Text) → has_byte 61 text ≡ true → text ≡ before_first is_equals text ++ 61 ∷ after_first is_equals text
at_equals [] h = absurd cc
at_equals (x ∷ xs) h = go (x == 61) refl h (at_equals xs)
  where
    go : (b : Bool) → (x == 61) ≡ b → (b || has_byte 61 xs) ≡ true → (has_byte 61 xs ≡ true → xs ≡ before_first is_equals xs ++ 61 ∷ after_first is_equals xs) → x ∷ xs ≡ before_first is_equals (x ∷ xs) ++ 61 ∷ after_first is_equals (x ∷ xs)
    go true e g more = rw e (ap (λ n. n ∷ xs) (same_number x 61 e))
    go false e g more =
        let n = position_or_len is_equals xs in
        let len : position_or_len is_equals (x ∷ xs) ≡ suc n = rw e (omega arith) in
        let next : suc n + 1 ≡ suc (n + 1) = omega arith in
        rw (len, next) (ap (λ (ys : Text). x ∷ ys) (more g))

some_same : (a b : Rule) → Some a ≡ Some b → a ≡ b
some_same a b e = cc

-- a long word is its name, or its name, `=` and its value
pub data LongWord (w nm : Text) (v : Option Text) : Type 0 where
  bare : v ≡ None → w ≡ hyphens ++ nm → LongWord w nm v
  joined : (t : Text) → v ≡ Some t → w ≡ hyphens ++ nm ++ 61 ∷ t → LongWord w nm v

abbrev first_text : Option (Text × Option Text) → Text
first_text None = []
first_text (Some p) = p.0

abbrev second_text : Option (Text × Option Text) → Option Text
second_text None = None
second_text (Some p) = p.1

value_split : (text nm : Text) (v : Option Text) → Some (name_and_value text) ≡ Some (nm, v) → LongWord (hyphens ++ text) nm v
value_split text nm v e = go (has_byte 61 text) refl
  where
    name_is : before_first is_equals text ≡ nm
    name_is = ap first_text e

    value_is : (if has_byte 61 text then Some (after_first is_equals text) else None) ≡ v
    value_is = ap second_text e

    go : (b : Bool) → has_byte 61 text ≡ b → LongWord (hyphens ++ text) nm v
    go true h =
        let split : text ≡ before_first is_equals text ++ 61 ∷ after_first is_equals text = at_equals text h in
        joined (after_first is_equals text) (sym value_is ∙ rw h refl) (ap (λ (x : Text). hyphens ++ x) split ∙ ap (λ (x : Text). hyphens ++ x ++ 61 ∷ after_first is_equals text) name_is)
    go false h = bare (sym value_is ∙ rw h refl) (ap (λ (x : Text). hyphens ++ x) (sym (not_found text h) ∙ name_is))

pub long_word_is : (w nm : Text) (v : Option Text) → long_of w ≡ Some (nm, v) → LongWord w nm v
long_word_is [] nm v e = absurd cc
long_word_is (x ∷ []) nm v e = go (x == 45) refl
  where
    go : (b : Bool) → (x == 45) ≡ b → LongWord (x ∷ []) nm v
    go true h = let e' = rw h at e in absurd cc
    go false h = let e' = rw h at e in absurd cc
long_word_is (x ∷ y ∷ []) nm v e = go (x == 45) refl (y == 45) refl
  where
    go : (b : Bool) → (x == 45) ≡ b → (c : Bool) → (y == 45) ≡ c → LongWord (x ∷ y ∷ []) nm v
    go true h true g = let e' = rw (h, g) at e in absurd cc
    go true h false g = let e' = rw (h, g) at e in absurd cc
    go false h c g = let e' = rw h at e in absurd cc
long_word_is (x ∷ y ∷ z ∷ zs) nm v e = go (x == 45) refl (y == 45) refl
  where
    go : (b : Bool) → (x == 45) ≡ b → (c : Bool) → (y == 45) ≡ c → LongWord (x ∷ y ∷ z ∷ zs) nm v
    go true h true g =
        let e' = rw (h, g) at e in
        let front : x ∷ y ∷ z ∷ zs ≡ hyphens ++ z ∷ zs = rw (same_number x 45 h, same_number y 45 g) refl in
        subst (λ (w : Text). LongWord w nm v) (sym front) (value_split (z ∷ zs) nm v e')
    go true h false g = let e' = rw (h, g) at e in absurd cc
    go false h c g = let e' = rw h at e in absurd cc

-- ---- the argument of a long word

find_in : (p : Rule → Bool) (ks : List Key) (a : Rule) → find p (map rule_for ks) ≡ Some a → (k : Key) × (rule_for k ≡ a) × (p (rule_for k) ≡ true)
find_in p [] a e = absurd cc
find_in p (k ∷ ks) a e = go (p (rule_for k)) refl (find_in p ks a)
  where
    go : (b : Bool) → p (rule_for k) ≡ b → (find p (map rule_for ks) ≡ Some a → (l : Key) × (rule_for l ≡ a) × (p (rule_for l) ≡ true)) → (l : Key) × (rule_for l ≡ a) × (p (rule_for l) ≡ true)
    go true h more = let e' = rw h at e in (k, some_same (rule_for k) a e', h)
    go false h more = let e' = rw h at e in more e'

-- the argument that a long name names, if any
pub data Named_by (nm : Text) : Type 0 where
  no_key : arg_by_long filled nm ≡ None → Named_by nm
  flag_key : (f : Flag) → nm ≡ flag_word f → Named_by nm
  setting_key : (o : Setting) → nm ≡ setting_word o → Named_by nm

or_none : (a b : Text) → (bytes_eq a b || false) ≡ true → b ≡ a
or_none a b e = go (bytes_eq a b) refl e
  where
    go : (t : Bool) → bytes_eq a b ≡ t → (t || false) ≡ true → b ≡ a
    go true h g = sym ((bytes_eq-Decides a b).0 h)
    go false h g = absurd cc

pub named_by : (nm : Text) → Named_by nm
named_by nm = go (arg_by_long filled nm) refl
  where
    by : (k : Key) → (not (is_some (rule_for k).index) && has_long (rule_for k) nm) ≡ true → Named_by nm
    by (on f) e = flag_key f (or_none (flag_word f) nm e)
    by (set o) e = setting_key o (or_none (setting_word o) nm e)
    by project e = absurd cc

    go : (a : Option Rule) → arg_by_long filled nm ≡ a → Named_by nm
    go None e = no_key e
    go (Some a) e = let k = find_in (λ r. not (is_some r.index) && has_long r nm) keys a e in by k.0 k.2
