-- Words that `clap` takes are read as parts, and it finds the rows of these parts.
use Rattle.std.proofs.Common.{◌≡◌, inl, inr, ◌∙◌, sym, ap, ap₂, subst, refl, arith, ℕ, suc, List, [], ◌∷◌, ◌++◌, map, Bool, true, false, Option, Some, None}
use Rattle.std.specs.Prelude.{fold, slice_get, ◌==◌}
use Rattle.std.specs.Str.{bytes_eq, chars}
use Rattle.std.proofs.lemmas.Slice.Eq.{bytes_eq-Decides}
use Rattle.clap.specs.Lexer.{long_of, short_of}
use Rattle.clap.specs.Walk.{Row, Rule, Walk, option, settled_rows, walked, arg_by_long, takes_values}
use Rattle.clap.specs.Faults.{settle_fault, turn_fault, walk_fault, long_fault, flags_fault}
use Rattle.clap.specs.declared.error.kind.ErrorKind.TheVariants as kind
use Rattle.nz_vec.specs.Texts.{Text}
use Rattle.nz_words.specs.Parts.{Flag, Setting, Limit, Stages, Make, Part, Flagged, Valued, Named, flag_word, setting_word, hyphens, AreRead}
use Rattle.nz_words.proofs.Walking.{filled, shape, row_of, Pending, nothing, value_waits, name_waits, parts_of, pending_of, held_at, open_at, waits_at, ended_at, none_before, none_behind, not_again, used_new}
use Rattle.nz_words.proofs.Steps.{IsPlain, flag_turn, flag_walk, flag_value, joined_turn, joined_walk, waits_turn, waits_walk, nothing_settles, value_walk, name_turn, name_walk, stray_turn, end_walk, behind_turn, behind_walk, behind_stray}
use Rattle.nz_words.proofs.Lexing.{LongWord, bare, joined, long_word_is, Named_by, no_key, flag_key, setting_key, named_by}
use Rattle.nz_words.proofs.Listing.{Listed, listed_none, listed_more, release}

-- the words are taken from here on, and the rows at the end are these
pub record Quiet (w : Walk) (words : List Text) (end : List Row) : Type 0 where
  pub steps : walk_fault shape [] w words ≡ []
  pub settle : settle_fault filled false (fold (walked filled []) w words).held ≡ []
  pub rows_are : settled_rows filled (fold (walked filled []) w words).held.pending (fold (walked filled []) w words).held.rows ≡ end

pub quiet_turn : (w : Walk) (x : Text) (xs : List Text) (end : List Row) → Quiet w (x ∷ xs) end → turn_fault shape [] w x ≡ []
unfolding walk_fault
quiet_turn w x xs end q = none_before _ _ q.steps

quiet_next : (w : Walk) (x : Text) (xs : List Text) (end : List Row) → Quiet w (x ∷ xs) end → Quiet (walked filled [] w x) xs end
unfolding walk_fault
quiet_next w x xs end q = record { steps = none_behind _ _ q.steps; settle = q.settle; rows_are = q.rows_are }

pub quiet_rest : (w w' : Walk) (x : Text) (xs : List Text) (end : List Row) → walked filled [] w x ≡ w' → Quiet w (x ∷ xs) end → Quiet w' xs end
quiet_rest w w' x xs end e q = subst (λ (v : Walk). Quiet v xs end) e (quiet_next w x xs end q)

-- where the walk stands: among options, at the value of an option, or behind `--`
pub data Mode : Type 0 where
  among : Pending → Mode
  valuing : Setting → Mode
  behind : Pending → Mode

abbrev pub at_mode : Mode → List Row → ℕ → Walk
at_mode (among p) rows k = open_at rows p k
at_mode (valuing o) rows k = waits_at rows o k
at_mode (behind p) rows k = ended_at rows p k

abbrev pub before : Mode → List Part
before (among p) = parts_of p
before (valuing o) = []
before (behind p) = parts_of p

-- the words are read as the parts, from there
abbrev pub AreReadIn : Mode → List Part → List Text → Type 0
AreReadIn (among p) parts words = AreRead parts words
AreReadIn (valuing o) parts words = (v : Text) × (rest : List Text) × (more : List Part) × (words ≡ v ∷ rest) × (parts ≡ Valued o v ∷ more) × AreRead more rest
AreReadIn (behind p) parts words = parts ≡ map Named words

pub record Found (m : Mode) (rows : List Row) (words : List Text) (end : List Row) : Type 0 where
  pub parts : List Part
  pub read : AreReadIn m parts words
  pub listed : Listed rows (before m ++ parts) end

-- ---- one word

ended_read : (parts : List Part) (words : List Text) → parts ≡ map Named words → AreRead parts (hyphens ∷ words)
ended_read [] words e = inr (words, refl, e)
ended_read (p ∷ ps) words e = inr (words, refl, e)

flag_step : (f : Flag) (p : Pending) (ws : List Text) (rows end : List Row) (k : ℕ) → turn_fault shape [] (open_at rows p k) (hyphens ++ flag_word f) ≡ []
    → ((rows' : List Row) → walked filled [] (open_at rows p k) (hyphens ++ flag_word f) ≡ open_at rows' nothing k → Found (among nothing) rows' ws end) → Found (among p) rows ((hyphens ++ flag_word f) ∷ ws) end
flag_step f p ws rows end k turn more =
    let fault = none_before _ _ (sym (flag_turn f rows p k) ∙ turn) in
    let settle = none_before _ _ fault in
    let settled = settled_rows filled (pending_of p) rows in
    let new = not_again (flag_word f) settled (none_before _ _ (none_behind _ _ fault)) in
    let walk_is : walked filled [] (open_at rows p k) (hyphens ++ flag_word f) ≡ open_at (settled ++ row_of (Flagged f) ∷ []) nothing k = flag_walk f rows p k ∙ ap (λ (r : List Row). open_at r nothing k) (used_new (Flagged f) settled new) in
    let found = more (settled ++ row_of (Flagged f) ∷ []) walk_is in
    record {
      parts = Flagged f ∷ found.parts;
      read = inl (ws, refl, found.read);
      listed = release p rows (Flagged f ∷ found.parts) end settle (listed_more (Flagged f) settled found.parts end new found.listed);
    }

joined_step : (o : Setting) (v : Text) (p : Pending) (ws : List Text) (rows end : List Row) (k : ℕ) → turn_fault shape [] (open_at rows p k) (hyphens ++ setting_word o ++ 61 ∷ v) ≡ []
    → ((rows' : List Row) → walked filled [] (open_at rows p k) (hyphens ++ setting_word o ++ 61 ∷ v) ≡ open_at rows' nothing k → Found (among nothing) rows' ws end) → Found (among p) rows ((hyphens ++ setting_word o ++ 61 ∷ v) ∷ ws) end
joined_step o v p ws rows end k turn more =
    let fault = none_before _ _ (sym (joined_turn o v rows p k) ∙ turn) in
    let settle = none_before _ _ fault in
    let settled = settled_rows filled (pending_of p) rows in
    let new = not_again (setting_word o) settled (none_before _ _ (none_behind _ _ fault)) in
    let walk_is : walked filled [] (open_at rows p k) (hyphens ++ setting_word o ++ 61 ∷ v) ≡ open_at (settled ++ row_of (Valued o v) ∷ []) nothing k = joined_walk o v rows p k ∙ ap (λ (r : List Row). open_at r nothing k) (used_new (Valued o v) settled new) in
    let found = more (settled ++ row_of (Valued o v) ∷ []) walk_is in
    record {
      parts = Valued o v ∷ found.parts;
      read = inl (ws, inr refl, found.read);
      listed = release p rows (Valued o v ∷ found.parts) end settle (listed_more (Valued o v) settled found.parts end new found.listed);
    }

waits_step : (o : Setting) (p : Pending) (ws : List Text) (rows end : List Row) (k : ℕ) → turn_fault shape [] (open_at rows p k) (hyphens ++ setting_word o) ≡ []
    → Found (valuing o) (settled_rows filled (pending_of p) rows) ws end → Found (among p) rows ((hyphens ++ setting_word o) ∷ ws) end
waits_step o p ws rows end k turn found =
    let settle = none_before _ _ (sym (waits_turn o rows p k) ∙ turn) in
    let r = found.read in
    record {
      parts = found.parts;
      read = subst (λ (parts : List Part). AreRead parts ((hyphens ++ setting_word o) ∷ ws)) (sym r.4) (inl (r.1, inl (ap (λ (xs : List Text). (hyphens ++ setting_word o) ∷ xs) r.3), r.5));
      listed = release p rows found.parts end settle found.listed;
    }

-- a name can come only first
name_step : (w : Text) (p : Pending) (ws : List Text) (rows end : List Row) (k : ℕ) → IsPlain w → turn_fault shape [] (open_at rows p k) w ≡ []
    → ((rows' : List Row) (j : ℕ) → walked filled [] (open_at rows p k) w ≡ open_at rows' (name_waits w) j → Found (among (name_waits w)) rows' ws end) → Found (among p) rows (w ∷ ws) end
name_step w p ws rows end k plain turn more = go (1 == k) refl
  where
    go : (b : Bool) → (1 == k) ≡ b → Found (among p) rows (w ∷ ws) end
    go false e = let bad = sym (stray_turn w rows p k plain e) ∙ turn in absurd cc
    go true e =
        let one : 1 ≡ k = grind arith in
        let turn' : turn_fault shape [] (open_at rows p 1) w ≡ [] = subst (λ (j : ℕ). turn_fault shape [] (open_at rows p j) w ≡ []) (sym one) turn in
        let settle = sym (name_turn w rows p plain) ∙ turn' in
        let walk_is = subst (λ (j : ℕ). walked filled [] (open_at rows p j) w ≡ open_at (settled_rows filled (pending_of p) rows) (name_waits w) 2) one (name_walk w rows p plain) in
        let found = more (settled_rows filled (pending_of p) rows) 2 walk_is in
        record {
          parts = Named w ∷ found.parts;
          read = inl (ws, refl, found.read);
          listed = release p rows (Named w ∷ found.parts) end settle found.listed;
        }

behind_step : (w : Text) (p : Pending) (ws : List Text) (rows end : List Row) (k : ℕ) → turn_fault shape [] (ended_at rows p k) w ≡ []
    → ((rows' : List Row) (j : ℕ) → walked filled [] (ended_at rows p k) w ≡ ended_at rows' (name_waits w) j → Found (behind (name_waits w)) rows' ws end) → Found (behind p) rows (w ∷ ws) end
behind_step w p ws rows end k turn more = go (1 == k) refl
  where
    go : (b : Bool) → (1 == k) ≡ b → Found (behind p) rows (w ∷ ws) end
    go false e = let bad = sym (behind_stray w rows p k e) ∙ turn in absurd cc
    go true e =
        let one : 1 ≡ k = grind arith in
        let turn' : turn_fault shape [] (ended_at rows p 1) w ≡ [] = subst (λ (j : ℕ). turn_fault shape [] (ended_at rows p j) w ≡ []) (sym one) turn in
        let settle = sym (behind_turn w rows p) ∙ turn' in
        let walk_is = subst (λ (j : ℕ). walked filled [] (ended_at rows p j) w ≡ ended_at (settled_rows filled (pending_of p) rows) (name_waits w) 2) one (behind_walk w rows p) in
        let found = more (settled_rows filled (pending_of p) rows) 2 walk_is in
        record {
          parts = Named w ∷ found.parts;
          read = ap (λ (ps : List Part). Named w ∷ ps) found.read;
          listed = release p rows (Named w ∷ found.parts) end settle found.listed;
        }

-- ---- which word it is

-- a bundle of characters holds no flag
unknown_short : (n : ℕ) (flags : Text) (rows : List Row) (p : Option (Text × List Text)) (c : ℕ) → slice_get (chars flags) 0 ≡ Some c → flags_fault filled false (suc n) flags 0 (held_at rows p) ≡ kind.UnknownArgument ∷ []
unfolding flags_fault
unknown_short n flags rows p c e = rw e refl

no_character : (c : ℕ) → slice_get (chars []) 0 ≡ Some c → ⊥
unfolding chars
no_character c e = absurd cc

-- a word is `--`, a long word, plain, or a bundle with a character
data Sort (w : Text) : Type 0 where
  ends : w ≡ hyphens → Sort w
  long : bytes_eq w hyphens ≡ false → (nm : Text) → (v : Option Text) → long_of w ≡ Some (nm, v) → Sort w
  other : IsPlain w → Sort w
  bundled : bytes_eq w hyphens ≡ false → long_of w ≡ None → (x : ℕ) → (xs : Text) → short_of w ≡ Some (x ∷ xs) → (c : ℕ) → slice_get (chars (x ∷ xs)) 0 ≡ Some c → Sort w

sort_of : (w : Text) → Sort w
sort_of w = start (bytes_eq w hyphens) refl
  where
    character : (flags : Text) (c : Option ℕ) → bytes_eq w hyphens ≡ false → long_of w ≡ None → short_of w ≡ Some flags → slice_get (chars flags) 0 ≡ c → Sort w
    character flags None e l s g = other (record { not_hyphens = e; no_long = l; no_short = inr (flags, s, g) })
    character [] (Some c) e l s g = absurd (no_character c g)
    character (x ∷ xs) (Some c) e l s g = bundled e l x xs s c g

    short : (s : Option Text) → bytes_eq w hyphens ≡ false → long_of w ≡ None → short_of w ≡ s → Sort w
    short None e l s = other (record { not_hyphens = e; no_long = l; no_short = inl s })
    short (Some flags) e l s = character flags (slice_get (chars flags) 0) e l s refl

    begin_long : (l : Option (Text × Option Text)) → bytes_eq w hyphens ≡ false → long_of w ≡ l → Sort w
    begin_long None e l = short (short_of w) e l refl
    begin_long (Some p) e l = long e p.0 p.1 l

    start : (b : Bool) → bytes_eq w hyphens ≡ b → Sort w
    start true e = ends ((bytes_eq-Decides w hyphens).0 e)
    start false e = begin_long (long_of w) e refl

-- ---- a word among options

abbrev Rest : List Text → List Row → Type 0
Rest ws end = (m : Mode) (rows : List Row) (k : ℕ) → Quiet (at_mode m rows k) ws end → Found m rows ws end

among_word : (w : Text) (ws : List Text) (p : Pending) (rows end : List Row) (k : ℕ) → Quiet (open_at rows p k) (w ∷ ws) end → Rest ws end → Found (among p) rows (w ∷ ws) end
among_word w ws p rows end k q more = go (sort_of w)
  where
    turn : turn_fault shape [] (open_at rows p k) w ≡ []
    turn = quiet_turn (open_at rows p k) w ws end q

    is_long : (nm : Text) (v : Option Text) → bytes_eq w hyphens ≡ false → long_of w ≡ Some (nm, v) → Named_by nm → LongWord w nm v → Found (among p) rows (w ∷ ws) end
    is_long nm v e l (no_key n) word = let bad = rw (e, l, n) at turn in absurd cc
    is_long nm v e l (flag_key f n) (bare none is) =
        let w_is : w ≡ hyphens ++ flag_word f = is ∙ ap (λ (x : Text). hyphens ++ x) n in
        let q' = subst (λ (x : Text). Quiet (open_at rows p k) (x ∷ ws) end) w_is q in
        subst (λ (x : Text). Found (among p) rows (x ∷ ws) end) (sym w_is) (flag_step f p ws rows end k (quiet_turn _ _ _ _ q') (λ rows' walk_is. more (among nothing) rows' k (quiet_rest _ _ _ ws end walk_is q')))
    is_long nm v e l (flag_key f n) (joined t some is) =
        let l' : long_of w ≡ Some (flag_word f, Some t) = l ∙ ap₂ (λ (x : Text) (y : Option Text). Some (x, y)) n some in
        let bad = sym (flag_value f w t rows p k e l') ∙ turn in absurd cc
    is_long nm v e l (setting_key o n) (bare none is) =
        let w_is : w ≡ hyphens ++ setting_word o = is ∙ ap (λ (x : Text). hyphens ++ x) n in
        let q' = subst (λ (x : Text). Quiet (open_at rows p k) (x ∷ ws) end) w_is q in
        subst (λ (x : Text). Found (among p) rows (x ∷ ws) end) (sym w_is) (waits_step o p ws rows end k (quiet_turn _ _ _ _ q') (more (valuing o) (settled_rows filled (pending_of p) rows) k (quiet_rest _ _ _ ws end (waits_walk o rows p k) q')))
    is_long nm v e l (setting_key o n) (joined t some is) =
        let w_is : w ≡ hyphens ++ setting_word o ++ 61 ∷ t = is ∙ ap (λ (x : Text). hyphens ++ x ++ 61 ∷ t) n in
        let q' = subst (λ (x : Text). Quiet (open_at rows p k) (x ∷ ws) end) w_is q in
        subst (λ (x : Text). Found (among p) rows (x ∷ ws) end) (sym w_is) (joined_step o t p ws rows end k (quiet_turn _ _ _ _ q') (λ rows' walk_is. more (among nothing) rows' k (quiet_rest _ _ _ ws end walk_is q')))

    go : Sort w → Found (among p) rows (w ∷ ws) end
    go (ends e) =
        let q' = subst (λ (x : Text). Quiet (open_at rows p k) (x ∷ ws) end) e q in
        let found = more (behind p) rows k (quiet_rest _ _ hyphens ws end (end_walk rows p k) q') in
        subst (λ (x : Text). Found (among p) rows (x ∷ ws) end) (sym e) (record { parts = found.parts; read = ended_read found.parts ws found.read; listed = found.listed })
    go (long e nm v l) = is_long nm v e l (named_by nm) (long_word_is w nm v l)
    go (other plain) = name_step w p ws rows end k plain turn (λ rows' j walk_is. more (among (name_waits w)) rows' j (quiet_rest _ _ w ws end walk_is q))
    go (bundled e l x xs s c g) = let bad = rw (e, l, s, unknown_short _ (x ∷ xs) rows (pending_of p) c g) at turn in absurd cc

-- ---- the value of an option

-- a long word comes before the value
long_stuck : (a : Option Rule) (v : Option Text) (o : Setting) (rows : List Row) → long_fault filled false a v (held_at rows (Some (setting_word o, []))) ≡ [] → ⊥
long_stuck None v o rows h = absurd cc
long_stuck (Some a) v o rows h = go (takes_values a) refl v h
  where
    go : (b : Bool) → takes_values a ≡ b → (v : Option Text) → long_fault filled false (Some a) v (held_at rows (Some (setting_word o, []))) ≡ [] → ⊥
    go true e (Some t) h = let bad = rw (e, nothing_settles o rows) at h in absurd cc
    go true e None h = let bad = rw (e, nothing_settles o rows) at h in absurd cc
    go false e (Some t) h = let bad = rw e at h in absurd cc
    go false e None h = let bad = rw (e, nothing_settles o rows) at h in absurd cc

abbrev stuck_at : List Row → Setting → ℕ → Walk
stuck_at rows o k = record { held = held_at rows (Some (setting_word o, [])); waiting = option (setting_word o); position = k; is_trailing = true; stopped = None }

stuck_turn : (o : Setting) (w : Text) (rows : List Row) (k : ℕ) (b : Bool) → (1 == k) ≡ b → turn_fault shape [] (stuck_at rows o k) w ≡ [] → ⊥
stuck_turn Limit w rows k true e h = let bad = rw e at h in absurd cc
stuck_turn Stages w rows k true e h = let bad = rw e at h in absurd cc
stuck_turn Make w rows k true e h = let bad = rw e at h in absurd cc
stuck_turn Limit w rows k false e h = let bad = rw e at h in absurd cc
stuck_turn Stages w rows k false e h = let bad = rw e at h in absurd cc
stuck_turn Make w rows k false e h = let bad = rw e at h in absurd cc

stuck_walk : (o : Setting) (rows : List Row) (k : ℕ) → walked filled [] (waits_at rows o k) hyphens ≡ stuck_at rows o k
unfolding walked
stuck_walk o rows k = refl

stuck : (o : Setting) (ws : List Text) (rows end : List Row) (k : ℕ) → Quiet (stuck_at rows o k) ws end → ⊥
stuck o [] rows end k q = let bad = sym (nothing_settles o rows) ∙ q.settle in absurd cc
stuck o (w ∷ ws) rows end k q = stuck_turn o w rows k (1 == k) refl (quiet_turn _ w ws end q)

valuing_word : (w : Text) (ws : List Text) (o : Setting) (rows end : List Row) (k : ℕ) → Quiet (waits_at rows o k) (w ∷ ws) end → Rest ws end → Found (valuing o) rows (w ∷ ws) end
valuing_word w ws o rows end k q more = go (sort_of w)
  where
    turn : turn_fault shape [] (waits_at rows o k) w ≡ []
    turn = quiet_turn (waits_at rows o k) w ws end q

    go : Sort w → Found (valuing o) rows (w ∷ ws) end
    go (ends e) =
        let q' = subst (λ (x : Text). Quiet (waits_at rows o k) (x ∷ ws) end) e q in
        absurd (stuck o ws rows end k (quiet_rest _ _ hyphens ws end (stuck_walk o rows k) q'))
    go (long e nm v l) = let turn' = rw (e, l) at turn in absurd (long_stuck (arg_by_long filled nm) v o rows (none_before _ _ turn'))
    go (other plain) =
        let found = more (among (value_waits o w)) rows k (quiet_rest _ _ w ws end (value_walk o w rows k plain) q) in
        record { parts = Valued o w ∷ found.parts; read = (w, ws, found.parts, refl, refl, found.read); listed = found.listed }
    go (bundled e l x xs s c g) = let bad = rw (e, l, s, unknown_short _ (x ∷ xs) rows (Some (setting_word o, [])) c g) at turn in absurd cc

-- ---- all words

pub back : (ws : List Text) (m : Mode) (rows : List Row) (k : ℕ) (end : List Row) → Quiet (at_mode m rows k) ws end → Found m rows ws end
back [] (among p) rows k end q = record { parts = []; read = inl refl; listed = release p rows [] end q.settle (listed_none _ end q.rows_are) }
back [] (valuing o) rows k end q = let bad = sym (nothing_settles o rows) ∙ q.settle in absurd cc
back [] (behind p) rows k end q = record { parts = []; read = refl; listed = release p rows [] end q.settle (listed_none _ end q.rows_are) }
back (w ∷ ws) (among p) rows k end q = among_word w ws p rows end k q (λ m rows' j. back ws m rows' j end)
back (w ∷ ws) (valuing o) rows k end q = valuing_word w ws o rows end k q (λ m rows' j. back ws m rows' j end)
back (w ∷ ws) (behind p) rows k end q = behind_step w p ws rows end k (quiet_turn _ w ws end q) (λ rows' j walk_is. back ws (behind (name_waits w)) rows' j end (quiet_rest _ _ w ws end walk_is q))
