-- Words that are read as parts, none twice and none with a hyphen where it is a value or a name, are taken by `clap`.
use Rattle.std.proofs.Common.{◌≡◌, ◌⊎◌, inl, inr, ◌∙◌, sym, ap, subst, refl, ℕ, List, [], ◌∷◌, ◌++◌, map, None, false, codes}
use Rattle.std.specs.Str.{bytes_eq}
use Rattle.std.proofs.lemmas.List.{append-nil}
use Rattle.clap.specs.Walk.{Row, Walk, settled_rows, walked}
use Rattle.clap.specs.Faults.{turn_fault, walk_fault}
use Rattle.nz_vec.specs.Texts.{Text}
use Rattle.nz_input.specs.declared.kind.Goal.TheVariants.{HilbertBasis, ExtremeRays, SupportHyperplanes, Deg1Elements, ModuleGenerators, Triangulation, DualMode, PrimalMode, LatticePoints}
use Rattle.nz_words.specs.Parts.{Flag, OfGoal, Verbose, Convert, Units, Setting, Limit, Stages, Make, Part, Flagged, Valued, Named, flag_word, setting_word, hyphens, label_of, given, AreRead, HaveEnded}
use Rattle.nz_words.proofs.Walking.{filled, shape, row_of, Pending, nothing, value_waits, name_waits, parts_of, pending_of, open_at, waits_at, ended_at, none_both, again_not, used_new}
use Rattle.nz_words.proofs.Steps.{IsPlain, flag_turn, flag_walk, joined_turn, joined_walk, waits_turn, waits_walk, value_turn, value_walk, name_turn, name_walk, end_turn, end_walk, behind_turn, behind_walk}
use Rattle.nz_words.proofs.Listing.{Listed, listed_less, catch}
use Rattle.nz_words.proofs.Backward.{Quiet}

quiet_here : (w : Walk) (x : Text) (xs : List Text) (end : List Row) → turn_fault shape [] w x ≡ [] → Quiet (walked filled [] w x) xs end → Quiet w (x ∷ xs) end
unfolding walk_fault
quiet_here w x xs end t q = record { steps = none_both _ _ t q.steps; settle = q.settle; rows_are = q.rows_are }

quiet_more : (w w' : Walk) (x : Text) (xs : List Text) (end : List Row) → turn_fault shape [] w x ≡ [] → walked filled [] w x ≡ w' → Quiet w' xs end → Quiet w (x ∷ xs) end
quiet_more w w' x xs end t e q = quiet_here w x xs end t (subst (λ (v : Walk). Quiet v xs end) (sym e) q)

-- a value that is a word of its own, and a name, are plain words
abbrev pub IsFine : Part → Type 0
IsFine (Flagged f) = Unit {0}
IsFine (Valued o v) = IsPlain v
IsFine (Named n) = IsPlain n

abbrev pub AreFine : List Part → Type 0
AreFine [] = Unit {0}
AreFine (p ∷ ps) = IsFine p × AreFine ps

-- no name came yet, or none comes
abbrev pub HasRoom : ℕ → List Part → Type 0
HasRoom k parts = (k ≡ 1) ⊎ (given (codes "PROJECT") parts ≡ None)

listed_end : (rows end : List Row) → Listed rows [] end → rows ≡ end
listed_end rows end h = sym (h.rows_are ∙ append-nil rows)

quiet_end : (p : Pending) (rows end : List Row) (k : ℕ) → Listed rows (parts_of p ++ []) end → Quiet (open_at rows p k) [] end
unfolding walk_fault
quiet_end p rows end k h = let c = catch p rows [] end h in record { steps = refl; settle = c.0; rows_are = listed_end _ end c.1 }

quiet_ended : (p : Pending) (rows end : List Row) (k : ℕ) → Listed rows (parts_of p ++ []) end → Quiet (ended_at rows p k) [] end
unfolding walk_fault
quiet_ended p rows end k h = let c = catch p rows [] end h in record { steps = refl; settle = c.0; rows_are = listed_end _ end c.1 }

behind_names : (names : List Text) (p : Pending) (rows end : List Row) (k : ℕ) → Listed rows (parts_of p ++ map Named names) end → HasRoom k (map Named names) → Quiet (ended_at rows p k) names end
behind_names [] p rows end k h room = quiet_ended p rows end k h
behind_names (n ∷ ns) p rows end k h room = elim room [
  | inl e ↦
      let c = catch p rows (map Named (n ∷ ns)) end h in
      let q = behind_names ns (name_waits n) (settled_rows filled (pending_of p) rows) end 2 c.1 (inr c.1.once.0) in
      subst (λ (j : ℕ). Quiet (ended_at rows p j) (n ∷ ns) end) (sym e) (quiet_more (ended_at rows p 1) _ n ns end (behind_turn n rows p ∙ c.0) (behind_walk n rows p) q)
  | inr e ↦ absurd cc
]

ended_words : (parts : List Part) (words : List Text) (p : Pending) (rows end : List Row) (k : ℕ) → HaveEnded parts words → Listed rows (parts_of p ++ parts) end → HasRoom k parts → Quiet (open_at rows p k) words end
ended_words parts words p rows end k e h room =
    let names = e.0 in
    let h' = subst (λ (ps : List Part). Listed rows (parts_of p ++ ps) end) e.2 h in
    let room' = subst (λ (ps : List Part). HasRoom k ps) e.2 room in
    subst (λ (ws : List Text). Quiet (open_at rows p k) ws end) (sym e.1) (quiet_more (open_at rows p k) _ hyphens names end (end_turn rows p k) (end_walk rows p k) (behind_names names p rows end k h' room'))

-- a part that is no name takes no room
room_less : (part : Part) (k : ℕ) (parts : List Part) → bytes_eq (label_of part) (codes "PROJECT") ≡ false → HasRoom k (part ∷ parts) → HasRoom k parts
room_less part k parts e (inl h) = inl h
room_less part k parts e (inr h) = inr (let h' = rw e at h in h')

flag_no_name : (f : Flag) → bytes_eq (label_of (Flagged f)) (codes "PROJECT") ≡ false
flag_no_name (OfGoal HilbertBasis) = refl
flag_no_name (OfGoal ExtremeRays) = refl
flag_no_name (OfGoal SupportHyperplanes) = refl
flag_no_name (OfGoal Deg1Elements) = refl
flag_no_name (OfGoal ModuleGenerators) = refl
flag_no_name (OfGoal Triangulation) = refl
flag_no_name (OfGoal DualMode) = refl
flag_no_name (OfGoal PrimalMode) = refl
flag_no_name (OfGoal LatticePoints) = refl
flag_no_name Verbose = refl
flag_no_name Convert = refl
flag_no_name Units = refl

setting_no_name : (o : Setting) (v : Text) → bytes_eq (label_of (Valued o v)) (codes "PROJECT") ≡ false
setting_no_name Limit v = refl
setting_no_name Stages v = refl
setting_no_name Make v = refl

pub forth : (parts : List Part) (words : List Text) (p : Pending) (rows end : List Row) (k : ℕ) → AreRead parts words → Listed rows (parts_of p ++ parts) end → HasRoom k parts → AreFine parts → Quiet (open_at rows p k) words end
forth [] words p rows end k (inl e) h room fine = subst (λ (ws : List Text). Quiet (open_at rows p k) ws end) (sym e) (quiet_end p rows end k h)
forth [] words p rows end k (inr e) h room fine = ended_words [] words p rows end k e h room
forth (part ∷ parts) words p rows end k (inr e) h room fine = ended_words (part ∷ parts) words p rows end k e h room
forth (Flagged f ∷ parts) words p rows end k (inl r) h room fine =
    let c = catch p rows (Flagged f ∷ parts) end h in
    let settled = settled_rows filled (pending_of p) rows in
    let less = listed_less (Flagged f) settled parts end c.1 in
    let turn = flag_turn f rows p k ∙ none_both _ _ (none_both _ _ c.0 (none_both _ _ (again_not (flag_word f) settled less.0) refl)) refl in
    let walk_is = flag_walk f rows p k ∙ ap (λ (x : List Row). open_at x nothing k) (used_new (Flagged f) settled less.0) in
    let q = forth parts r.0 nothing (settled ++ row_of (Flagged f) ∷ []) end k r.2 less.1 (room_less (Flagged f) k parts (flag_no_name f) room) fine.1 in
    subst (λ (ws : List Text). Quiet (open_at rows p k) ws end) (sym r.1) (quiet_more (open_at rows p k) _ _ r.0 end turn walk_is q)
forth (Valued o v ∷ parts) words p rows end k (inl r) h room fine =
    let c = catch p rows (Valued o v ∷ parts) end h in
    let settled = settled_rows filled (pending_of p) rows in
    let less = listed_less (Valued o v) settled parts end c.1 in
    elim r.1 [
      | inl e ↦
          let q = forth parts r.0 (value_waits o v) settled end k r.2 c.1 (room_less (Valued o v) k parts (setting_no_name o v) room) fine.1 in
          let q' = quiet_more (waits_at settled o k) _ v r.0 end (value_turn o v settled k fine.0) (value_walk o v settled k fine.0) q in
          subst (λ (ws : List Text). Quiet (open_at rows p k) ws end) (sym e) (quiet_more (open_at rows p k) _ _ (v ∷ r.0) end (waits_turn o rows p k ∙ none_both _ _ c.0 refl) (waits_walk o rows p k) q')
      | inr e ↦
          let turn = joined_turn o v rows p k ∙ none_both _ _ (none_both _ _ c.0 (none_both _ _ (again_not (setting_word o) settled less.0) refl)) refl in
          let walk_is = joined_walk o v rows p k ∙ ap (λ (x : List Row). open_at x nothing k) (used_new (Valued o v) settled less.0) in
          let q = forth parts r.0 nothing (settled ++ row_of (Valued o v) ∷ []) end k r.2 less.1 (room_less (Valued o v) k parts (setting_no_name o v) room) fine.1 in
          subst (λ (ws : List Text). Quiet (open_at rows p k) ws end) (sym e) (quiet_more (open_at rows p k) _ _ r.0 end turn walk_is q)
    ]
forth (Named n ∷ parts) words p rows end k (inl r) h room fine = elim room [
  | inl e ↦
      let c = catch p rows (Named n ∷ parts) end h in
      let q = forth parts r.0 (name_waits n) (settled_rows filled (pending_of p) rows) end 2 r.2 c.1 (inr c.1.once.0) fine.1 in
      let q' = subst (λ (j : ℕ). Quiet (open_at rows p j) (n ∷ r.0) end) (sym e) (quiet_more (open_at rows p 1) _ n r.0 end (name_turn n rows p fine.0 ∙ c.0) (name_walk n rows p fine.0) q) in
      subst (λ (ws : List Text). Quiet (open_at rows p k) ws end) (sym r.1) q'
  | inr e ↦ absurd cc
]
