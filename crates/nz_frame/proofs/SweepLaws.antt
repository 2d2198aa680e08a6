-- The sweep sets apart one base, so a system has one list of constraints.
use Rattle.std.proofs.Common.{◌≡◌, ◌≢◌, inl, inr, ◌⊎◌, ℕ, zero, suc, ◌<◌, ◌≤◌, List, [], ◌∷◌, ◌++◌, length, take, get_or, false, Option, Some, None, IfSome, ℤ, pos, ◌-ℤ◌, ◌*ℤ◌, refl, sym, ap, ap₂, ◌∙◌, subst, arith}
use Rattle.std.specs.Prelude.{◌<ℤ◌, neg_ℤ, drop}
use Rattle.std.proofs.Math.IntN.{zero-*ℤ}
use Rattle.std.proofs.lemmas.List.{take-append-drop}
use Rattle.std.proofs.lemmas.Int.{ints}
use Rattle.std.proofs.lemmas.Bool.{cases_lt}
use Rattle.std.specs.List.{AllByRecursion as Each, AllZip, insert, remove}
use Rattle.nz_spec.specs.Vectors.{Vector, dot, plus, scaled, entry, HasWidth}
use Rattle.nz_spec.specs.Systems.{Congruence, System, IsSystem}
use Rattle.nz_spec.specs.Constraints.{Constraint, AreConstraints, IsFirstBroken}
use Rattle.nz_spec.proofs.ListLaws.{first_unique}
use Rattle.nz_spec.proofs.UniqueLaws.{AreConstraints-unique, IsFirstBroken-unique}
use Rattle.nz_linear.proofs.Ring.{sums, one-mul}
use Rattle.nz_linear.proofs.Lists.{each_map}
use Rattle.nz_linear.proofs.Units.{unit_at-dot}
use Rattle.nz_linear.specs.Echelon.{unit_at}
use Rattle.nz_linear.proofs.DualForms.{dual_form_unique}
use Rattle.nz_scalar.specs.Division.{IsFloorQuotient}
use Rattle.nz_scalar.proofs.FloorLemmas.{floor_unique}
use Rattle.nz_sweep.specs.Clearing.{Valued, vectors_of, values_of, AreZero, IsReduced, IsPivot, IsRound, AreRounds, none, more, IsCleared}
use Rattle.nz_sweep.specs.Cuts.{AreValued, IsValueAt}
use Rattle.nz_sweep.specs.Duals.{Coordinate}
use Rattle.nz_sweep.specs.Generating.{AreSetApart}
use Rattle.nz_sweep.specs.Generating as apart
use Rattle.nz_sweep.specs.GroupConstraints.{congruence_of, IsDualCoordinate, AreAboveOne, AreGroupCongruences}
use Rattle.nz_sweep.specs.GroupConstraints as above
use Rattle.nz_sweep.proofs.GeneratingLemmas.{generates}
use Rattle.nz_sweep.proofs.ClearingLemmas.{rounds_clear, cleared_clears}
use Rattle.nz_sweep.proofs.StepLemmas.{valued_vectors}
use Rattle.nz_frame.proofs.ListSplits.{same_cut}
use Rattle.nz_frame.specs.Constraining.{AreSweptCongruences, AreGivenCongruences, AreAllConstraints, IsOutside}

-- ---- one round
one_pivot : (values : List ℤ) (n p q : ℕ) → IsPivot values n p → IsPivot values n q → p ≡ q
one_pivot values n p q a b = elim (cases_lt p q) [
  | inl l ↦ (let h = b.first p l a.nonzero in let k = a.least q b.within b.nonzero in absurd (let e : ⊥ = omega (arith, h, k) in e))
  | inr g ↦ elim (cases_lt q p) [
    | inl l ↦ (let h = a.first q l b.nonzero in let k = b.least p a.within a.nonzero in absurd (let e : ⊥ = omega (arith, h, k) in e))
    | inr h ↦ omega (arith, g, h)
  ]
]

same_valued : (a b : Valued) → a.vector ≡ b.vector → a.value ≡ b.value → a ≡ b
same_valued a b e f = let h : a ≡ b = ap₂ (λ (x : Vector) (v : ℤ). record { vector = x; value = v }) e f in h

one_reduced : (p b c d : Valued) → p.value ≢ pos 0 → IsReduced p b c → IsReduced p b d → c ≡ d
one_reduced p b c d n h k =
    let q : h.q ≡ k.q = floor_unique b.value p.value h.q k.q n h.floor k.floor in
    same_valued c d (h.vector ∙ ap (λ t. plus b.vector (scaled (neg_ℤ t) p.vector)) q ∙ sym k.vector) (h.value ∙ ap (λ t. b.value -ℤ t *ℤ p.value) q ∙ sym k.value)

all_reduced : (p : Valued) (bs cs ds : List Valued) → p.value ≢ pos 0 → AllZip (IsReduced p) bs cs → AllZip (IsReduced p) bs ds → cs ≡ ds
all_reduced p [] [] [] n h k = refl
all_reduced p [] [] (d ∷ ds) n h k = absurd k
all_reduced p [] (c ∷ cs) ds n h k = absurd h
all_reduced p (b ∷ bs) [] ds n h k = absurd h
all_reduced p (b ∷ bs) (c ∷ cs) [] n h k = absurd k
all_reduced p (b ∷ bs) (c ∷ cs) (d ∷ ds) n h k = ap₂ (λ x xs. x ∷ xs) (one_reduced p b c d n h.0 k.0) (all_reduced p bs cs ds n h.1 k.1)

value_at : (vs : List Valued) (i : ℕ) (v : Valued) → i < length vs → v ≡ get_or vs i v → entry (values_of vs) i ≡ v.value
value_at [] i v l e = absurd (omega (arith, l))
value_at (u ∷ vs) zero v l e = ap (λ (t : Valued). t.value) (sym e)
value_at (u ∷ vs) (suc i) v l e = value_at vs i v (omega (arith, l)) e

same_at : (vs : List Valued) (i : ℕ) (u v : Valued) → i < length vs → u ≡ get_or vs i u → v ≡ get_or vs i v → u ≡ v
same_at [] i u v l e f = absurd (omega (arith, l))
same_at (a ∷ vs) zero u v l e f = e ∙ sym f
same_at (a ∷ vs) (suc i) u v l e f = same_at vs i u v (omega (arith, l)) e f

one_round : (vs us ts : List Valued) → IsRound vs us → IsRound vs ts → us ≡ ts
one_round vs us ts h k =
    let p : h.place ≡ k.place = one_pivot (values_of vs) (length vs) h.place k.place h.pivot k.pivot in
    let k_own : k.own ≡ get_or vs h.place k.own = k.is_own ∙ ap (λ i. get_or vs i k.own) (sym p) in
    let o : h.own ≡ k.own = same_at vs h.place h.own k.own h.pivot.within h.is_own k_own in
    let n : h.own.value ≢ pos 0 = λ e. h.pivot.nonzero (value_at vs h.place h.own h.pivot.within h.is_own ∙ e) in
    let rs : h.others ≡ k.others = all_reduced h.own (remove vs h.place) h.others k.others n h.reduced
    (subst (λ (v : Valued). AllZip (IsReduced v) (remove vs h.place) k.others) (sym o) (subst (λ (i : ℕ). AllZip (IsReduced k.own) (remove vs i) k.others) (sym p) k.reduced)) in
    h.same ∙ ap (λ xs. insert xs h.place h.own) rs ∙ ap₂ (λ i v. insert k.others i v) p o ∙ sym k.same

-- ---- all rounds
record FirstRound (u b : List Valued) : Type 0 where
  next : List Valued
  round : IsRound u next
  rest : AreRounds next b

first_round : {u b : List Valued} → AreRounds u b → (u ≡ b) ⊎ FirstRound u b
first_round none = inl refl
first_round (more {us = x} {ts = b} s r) = elim (first_round s) [
  | inl e ↦ inr (record { next = b; round = subst (λ v. IsRound v b) (sym e) r; rest = none })
  | inr f ↦ inr (record { next = f.next; round = f.round; rest = more f.rest r })
]

-- of two runs of rounds one goes on from the other
compared : {vs a : List Valued} → AreRounds vs a → (b : List Valued) → AreRounds vs b → AreRounds a b ⊎ AreRounds b a
compared none b h = inl h
compared (more {us = u} {ts = a} s r) b h = elim (compared s b h) [
  | inr k ↦ inr (more k r)
  | inl k ↦ elim (first_round k) [
    | inl e ↦ inr (subst (λ v. AreRounds v a) e (more none r))
    | inr f ↦ inl (subst (λ v. AreRounds v b) (one_round u f.next a f.round r) f.rest)
  ]
]

-- ---- the end: one value other than 0
only_nonzero : (before : List Valued) (own : Valued) (after : List Valued) (i : ℕ) → AreZero before → AreZero after → entry (values_of (before ++ own ∷ after)) i ≢ pos 0 → i < length (before ++ own ∷ after) → i ≡ length before
only_nonzero [] own after zero zb za n l = refl
only_nonzero [] own after (suc i) zb za n l = absurd (n (zero_at after i za))
  where
    zero_at : (vs : List Valued) (i : ℕ) → AreZero vs → entry (values_of vs) i ≡ pos 0
    zero_at [] i z = refl
    zero_at (v ∷ vs) zero z = z.0
    zero_at (v ∷ vs) (suc i) z = zero_at vs i z.1
only_nonzero (b ∷ before) own after zero zb za n l = absurd (n zb.0)
only_nonzero (b ∷ before) own after (suc i) zb za n l = ap suc (only_nonzero before own after i zb.1 za n (omega (arith, l)))

own_at : (before : List Valued) (own : Valued) (after : List Valued) (d : Valued) → get_or (before ++ own ∷ after) (length before) d ≡ own
own_at [] own after d = refl
own_at (b ∷ before) own after d = own_at before own after d

removed_own : (before : List Valued) (own : Valued) (after : List Valued) → remove (before ++ own ∷ after) (length before) ≡ before ++ after
removed_own [] own after = refl
removed_own (b ∷ before) own after = ap (λ t. b ∷ t) (removed_own before own after)

inserted_own : (before : List Valued) (own : Valued) (after : List Valued) → insert (before ++ after) (length before) own ≡ before ++ own ∷ after
inserted_own [] own after = refl
inserted_own (b ∷ before) own after = ap (λ t. b ∷ t) (inserted_own before own after)

floor_zero : (b q : ℤ) → b ≢ pos 0 → IsFloorQuotient (pos 0) b q → q ≡ pos 0
floor_zero b q n f = floor_unique (pos 0) b q (pos 0) n f (record { above = λ p. (omega (arith, sums, zero-*ℤ b), omega (arith, sums, one-mul b, p)); below = λ p. (omega (arith, sums, zero-*ℤ b), omega (arith, sums, one-mul b, p)) })

plus_none : (x p : Vector) → length x ≡ length p → plus x (scaled (pos 0) p) ≡ x
plus_none [] p l = refl
plus_none (a ∷ x) [] l = absurd (omega (arith, l))
plus_none (a ∷ x) (b ∷ p) l = ap₂ (λ c y. c ∷ y) (let z = zero-*ℤ b in omega (arith, ints, z)) (plus_none x p (omega (arith, l)))

reduced_same : (p b c : Valued) → p.value ≢ pos 0 → b.value ≡ pos 0 → length b.vector ≡ length p.vector → IsReduced p b c → c ≡ b
reduced_same p b c n z l r =
    let q : r.q ≡ pos 0 = floor_zero p.value r.q n (subst (λ (v : ℤ). IsFloorQuotient v p.value r.q) z r.floor) in
    let none_taken : neg_ℤ r.q ≡ pos 0 = ap neg_ℤ q in
    let times : r.q *ℤ p.value ≡ pos 0 = ap (λ t. t *ℤ p.value) q ∙ zero-*ℤ p.value in
    same_valued c b (r.vector ∙ ap (λ t. plus b.vector (scaled t p.vector)) none_taken ∙ plus_none b.vector p.vector l) (let e = r.value in omega (arith, ints, e, times))

all_same : (w : ℕ) (p : Valued) (bs cs : List Valued) → p.value ≢ pos 0 → AreZero bs → HasWidth w p.vector → Each (HasWidth w) (vectors_of bs) → AllZip (IsReduced p) bs cs → cs ≡ bs
all_same w p [] [] n z lp l h = refl
all_same w p [] (c ∷ cs) n z lp l h = absurd h
all_same w p (b ∷ bs) [] n z lp l h = absurd h
all_same w p (b ∷ bs) (c ∷ cs) n z lp l h = ap₂ (λ x xs. x ∷ xs) (reduced_same p b c n z.0 (l.0 ∙ sym lp) h.0) (all_same w p bs cs n z.1 lp l.1 h.1)

zeros_join : (xs ys : List Valued) → AreZero xs → AreZero ys → AreZero (xs ++ ys)
zeros_join [] ys h k = k
zeros_join (x ∷ xs) ys h k = (h.0, zeros_join xs ys h.1 k)

others_wide : (w : ℕ) (xs : List Valued) (v : Valued) (ys : List Valued) → Each (HasWidth w) (vectors_of (xs ++ v ∷ ys)) → HasWidth w v.vector × Each (HasWidth w) (vectors_of (xs ++ ys))
others_wide w [] v ys l = (l.0, l.1)
others_wide w (x ∷ xs) v ys l = let r = others_wide w xs v ys l.1 in (r.0, (l.0, r.1))

-- a round changes nothing there
round_stays : (w : ℕ) (before : List Valued) (own : Valued) (after u : List Valued) → AreZero before → AreZero after → own.value ≢ pos 0 → Each (HasWidth w) (vectors_of (before ++ own ∷ after)) → IsRound (before ++ own ∷ after) u → u ≡ before ++ own ∷ after
round_stays w before own after u zb za n l k =
    let p : k.place ≡ length before = only_nonzero before own after k.place zb za k.pivot.nonzero k.pivot.within in
    let o : k.own ≡ own = k.is_own ∙ ap (λ i. get_or (before ++ own ∷ after) i k.own) p ∙ own_at before own after k.own in
    let ws = others_wide w before own after l in
    let reduced : AllZip (IsReduced own) (before ++ after) k.others = subst (λ (v : Valued). AllZip (IsReduced v) (before ++ after) k.others) o (subst (λ (bs : List Valued). AllZip (IsReduced k.own) bs k.others) (ap (remove (before ++ own ∷ after)) p ∙ removed_own before own after) k.reduced) in
    let rs : k.others ≡ before ++ after = all_same w own (before ++ after) k.others n (zeros_join before after zb za) ws.0 ws.1 reduced in
    k.same ∙ ap (λ xs. insert xs k.place k.own) rs ∙ ap₂ (λ i v. insert (before ++ after) i v) p o ∙ inserted_own before own after

rounds_stay : (w : ℕ) (before : List Valued) (own : Valued) (after : List Valued) {a b : List Valued} → AreZero before → AreZero after → own.value ≢ pos 0 → Each (HasWidth w) (vectors_of (before ++ own ∷ after)) → a ≡ before ++ own ∷ after → AreRounds a b → b ≡ before ++ own ∷ after
rounds_stay w before own after zb za n l e none = e
rounds_stay w before own after zb za n l e (more {us = x} {ts = b} s r) = round_stays w before own after b zb za n l (subst (λ v. IsRound v b) (rounds_stay w before own after zb za n l e s) r)

zero_front : (i : ℕ) (vs : List Valued) → AreZero vs → AreZero (take i vs) × AreZero (drop i vs)
zero_front zero vs z = (tt, z)
zero_front (suc i) [] z = (tt, tt)
zero_front (suc i) (v ∷ vs) z = let r = zero_front i vs z.1 in ((z.0, r.0), r.1)

record IsSameEnd (own : Valued) (others : List Valued) (own' : Valued) (others' : List Valued) : Type 0 where
  own_same : own ≡ own'
  others_same : others ≡ others'

cut_same : (b : List Valued) (e : Valued) (a b' : List Valued) (e' : Valued) (a' : List Valued) → AreZero b → e.value ≢ pos 0 → AreZero b' → e'.value ≢ pos 0 → b ++ e ∷ a ≡ b' ++ e' ∷ a' → IsSameEnd e (b ++ a) e' (b' ++ a')
cut_same b e a b' e' a' z n z' n' same =
    let P : Valued → Type 0 = λ v. v.value ≢ pos 0 in
    let r = first_unique P b a b' a' e e' same (each_map (λ (v : Valued). v.value ≡ pos 0) (λ v. ¬ P v) b (λ v h k. k h) z) n (each_map (λ (v : Valued). v.value ≡ pos 0) (λ v. ¬ P v) b' (λ v h k. k h) z') n' in
    let c = same_cut b e a b' e' a' same (ap length r.0) in
    record { own_same = r.1; others_same = ap₂ (λ xs ys. xs ++ ys) c.before c.after }

-- clearing leaves one end
one_end : (w : ℕ) (vs : List Valued) (p : ℕ) (own : Valued) (others : List Valued) (p' : ℕ) (own' : Valued) (others' : List Valued) → Each (HasWidth w) (vectors_of vs) → IsCleared vs p own others → IsCleared vs p' own' others' → IsSameEnd own others own' others'
one_end w vs p own others p' own' others' l c c' =
    let z = zero_front p others c.zero in
    let z' = zero_front p' others' c'.zero in
    let wide = (rounds_clear w vs (insert others p own) c.rounds l).0.widths in
    let wide' = (rounds_clear w vs (insert others' p' own') c'.rounds l).0.widths in
    let same : insert others p own ≡ insert others' p' own' = elim (compared c.rounds (insert others' p' own') c'.rounds) [
      | inl r ↦ sym (rounds_stay w (take p others) own (drop p others) z.0 z.1 c.nonzero wide refl r)
      | inr r ↦ rounds_stay w (take p' others') own' (drop p' others') z'.0 z'.1 c'.nonzero wide' refl r
    ] in
    let r = cut_same (take p others) own (drop p others) (take p' others') own' (drop p' others') z.0 c.nonzero z'.0 c'.nonzero same in
    record { own_same = r.own_same; others_same = sym (take-append-drop p others) ∙ r.others_same ∙ take-append-drop p' others' }

-- ---- no clearing of zeros
zero_entry : (vs : List Valued) (i : ℕ) → AreZero vs → entry (values_of vs) i ≡ pos 0
zero_entry [] i z = refl
zero_entry (v ∷ vs) zero z = z.0
zero_entry (v ∷ vs) (suc i) z = zero_entry vs i z.1

zero_rounds : {vs us : List Valued} → AreZero vs → AreRounds vs us → AreZero us
zero_rounds z none = z
zero_rounds z (more {us = u} s r) = absurd (r.pivot.nonzero (zero_entry u r.place (zero_rounds z s)))

zero_inside : (xs : List Valued) (v : Valued) (ys : List Valued) → AreZero (xs ++ v ∷ ys) → v.value ≡ pos 0
zero_inside [] v ys z = z.0
zero_inside (x ∷ xs) v ys z = zero_inside xs v ys z.1

never_cleared : (vs : List Valued) (p : ℕ) (own : Valued) (others : List Valued) → AreZero vs → IsCleared vs p own others → ⊥
never_cleared vs p own others z c = c.nonzero (zero_inside (take p others) own (drop p others) (zero_rounds z c.rounds))

zero_valued : (w c : ℕ) (rows : List Vector) (values : List Valued) → Each (HasWidth w) rows → Each (λ v. entry v c ≡ pos 0) rows → AreValued (IsValueAt (unit_at w c)) rows values → AreZero values
zero_valued w c [] [] l h z = tt
zero_valued w c [] (v ∷ values) l h z = absurd z
zero_valued w c (r ∷ rows) [] l h z = absurd z
zero_valued w c (r ∷ rows) (v ∷ values) l h z = (z.0.1 ∙ unit_at-dot w c r l.0 ∙ h.0, zero_valued w c rows values l.1 h.1 z.1)

one_valued : (h : Vector) (rows : List Vector) (values others : List Valued) → AreValued (IsValueAt h) rows values → AreValued (IsValueAt h) rows others → values ≡ others
one_valued h [] [] [] z k = refl
one_valued h [] [] (u ∷ others) z k = absurd k
one_valued h [] (v ∷ values) others z k = absurd z
one_valued h (r ∷ rows) [] others z k = absurd z
one_valued h (r ∷ rows) (v ∷ values) [] z k = absurd k
one_valued h (r ∷ rows) (v ∷ values) (u ∷ others) z k = ap₂ (λ x xs. x ∷ xs) (same_valued v u (z.0.0 ∙ sym k.0.0) (z.0.1 ∙ sym k.0.1)) (one_valued h rows values others z.1 k.1)

-- ---- one base is set apart
within_width : {w c : ℕ} {rows base : List Vector} → AreSetApart w c rows base → c ≤ w
within_width apart.done = omega arith
within_width (apart.pass h s) = let l = within_width s in omega (arith, l)
within_width (apart.take v d s) = let l = within_width s in omega (arith, l)

same_base : {w c : ℕ} {rows base : List Vector} → AreSetApart w c rows base → Each (HasWidth w) rows → (c' : ℕ) → c' ≡ c → (base' : List Vector) → AreSetApart w c' rows base' → base ≡ base'
same_base apart.done l c' e base' apart.done = refl
same_base apart.done l c' e base' (apart.pass h s) = absurd (let k = within_width s in let b : ⊥ = omega (arith, k, e) in b)
same_base apart.done l c' e base' (apart.take v d s) = absurd (let k = within_width s in let b : ⊥ = omega (arith, k, e) in b)
same_base (apart.pass h s) l c' e base' apart.done = absurd (let k = within_width s in let b : ⊥ = omega (arith, k, e) in b)
same_base (apart.pass h s) l c' e base' (apart.pass i t) = same_base s l (suc c') (ap suc e) base' t
same_base {w} {c} {rows} (apart.pass h s) l c' e base' (apart.take {values = values} {place = p} {own = own} {others = others} v d t) =
    absurd (never_cleared values p own others (zero_valued w c' rows values l (subst (λ (n : ℕ). Each (λ v. entry v n ≡ pos 0) rows) (sym e) h) v) d)
same_base (apart.take v d s) l c' e base' apart.done = absurd (let k = within_width s in let b : ⊥ = omega (arith, k, e) in b)
same_base {w} {c} {rows} (apart.take {values = values} {place = p} {own = own} {others = others} v d t) l c' e base' (apart.pass h s) =
    absurd (never_cleared values p own others (zero_valued w c rows values l (subst (λ (n : ℕ). Each (λ v. entry v n ≡ pos 0) rows) e h) v) d)
same_base {w} {c} {rows} (apart.take {base = rest} {values = values} {place = p} {own = own} {others = others} v d s) l c' e base' (apart.take {base = rest'} {values = values'} {place = p'} {own = own'} {others = others'} v' d' s') =
    let same : values' ≡ values = one_valued (unit_at w c) rows values' values (subst (λ (n : ℕ). AreValued (IsValueAt (unit_at w n)) rows values') e v') v in
    let wide : Each (HasWidth w) (vectors_of values) = subst (Each (HasWidth w)) (sym (valued_vectors (IsValueAt (unit_at w c)) rows values v)) l in
    let f = one_end w values p own others p' own' others' wide d (subst (λ (vs : List Valued). IsCleared vs p' own' others') same d') in
    let rest_wide : Each (HasWidth w) (vectors_of others) = (cleared_clears w values p own others d wide).0.widths.1 in
    ap₂ (λ (x : Valued) xs. x.vector ∷ xs) f.own_same (same_base s rest_wide (suc c') (ap suc e) rest' (subst (λ (vs : List Valued). AreSetApart w (suc c') (vectors_of vs) rest') (sym f.others_same) s'))

pub one_base : (w c : ℕ) (rows base base' : List Vector) → Each (HasWidth w) rows → AreSetApart w c rows base → AreSetApart w c rows base' → base ≡ base'
one_base w c rows base base' l s t = same_base s l c refl base' t

-- ---- one list of congruences
one_coordinate : (w : ℕ) (vs : List Vector) (v : Vector) (c d : Coordinate) → Each (HasWidth w) vs → IsDualCoordinate w vs v c → IsDualCoordinate w vs v d → c ≡ d
one_coordinate w vs v c d l p q =
    let f : c.form ≡ d.form = dual_form_unique w vs v c.form d.form l p.form q.form in
    let z : c.divisor ≡ d.divisor = p.divisor ∙ ap (λ (t : Vector). dot t v) f ∙ sym q.divisor in
    let h : c ≡ d = ap₂ (λ (x : Vector) (n : ℤ). record { form = x; divisor = n }) f z in
    h

one_dual : (w : ℕ) (vs us : List Vector) (cs ds : List Coordinate) → Each (HasWidth w) vs → AllZip (IsDualCoordinate w vs) us cs → AllZip (IsDualCoordinate w vs) us ds → cs ≡ ds
one_dual w vs [] [] [] l p q = refl
one_dual w vs [] [] (d ∷ ds) l p q = absurd q
one_dual w vs [] (c ∷ cs) ds l p q = absurd p
one_dual w vs (u ∷ us) [] ds l p q = absurd p
one_dual w vs (u ∷ us) (c ∷ cs) [] l p q = absurd q
one_dual w vs (u ∷ us) (c ∷ cs) (d ∷ ds) l p q = ap₂ (λ x xs. x ∷ xs) (one_coordinate w vs u c d l p.0 q.0) (one_dual w vs us cs ds l p.1 q.1)

not_above_one : (d : ℤ) → d ≡ pos 1 → pos 1 <ℤ d → ⊥
not_above_one d e l = omega (arith, ints, e, l)

one_above : {cs : List Coordinate} {gs : List Congruence} → AreAboveOne cs gs → (hs : List Congruence) → AreAboveOne cs hs → gs ≡ hs
one_above above.none hs above.none = refl
one_above (above.pass e t) hs (above.pass f k) = one_above t hs k
one_above (above.pass {c = c} e t) hs (above.keep f k) = absurd (not_above_one c.divisor e f)
one_above (above.keep {c = c} e t) hs (above.pass f k) = absurd (not_above_one c.divisor f e)
one_above (above.keep {c = c} e t) hs (above.keep {gs = rest} f k) = ap (λ gs. congruence_of c ∷ gs) (one_above t rest k)

one_congruences : (w : ℕ) (vs : List Vector) (gs hs : List Congruence) → Each (HasWidth w) vs → AreGroupCongruences w vs gs → AreGroupCongruences w vs hs → gs ≡ hs
one_congruences w vs gs hs l p q = one_above p.above_one hs (subst (λ (cs : List Coordinate). AreAboveOne cs hs) (one_dual w vs vs q.coordinates p.coordinates l q.dual p.dual) q.above_one)

pub one_swept : (w : ℕ) (lat : List Vector) (gs hs : List Congruence) → Each (HasWidth w) lat → AreSweptCongruences w lat gs → AreSweptCongruences w lat hs → gs ≡ hs
one_swept w lat gs hs l p q =
    let b : q.base ≡ p.base = one_base w 0 lat q.base p.base l q.set_apart p.set_apart in
    one_congruences w p.base gs hs (generates w lat p.base l p.set_apart).widths p.congruences (subst (λ (vs : List Vector). AreGroupCongruences w vs hs) b q.congruences)

pub one_given : (w : ℕ) (o gens : Option (List Vector)) (level : _) (gs hs : List Congruence) → IfSome gens (λ G. Each (HasWidth w) G) → IfSome o (λ lat. (gens ≡ Some lat) × (level ≡ false)) → AreGivenCongruences w o gs → AreGivenCongruences w o hs → gs ≡ hs
one_given w None gens level gs hs wide is p q = p ∙ sym q
one_given w (Some lat) gens level gs hs wide is p q = one_swept w lat gs hs (subst (λ (o : Option (List Vector)). IfSome o (Each (HasWidth w))) is.0 wide) p q

-- ---- one list of constraints, and one outside constraint
pub one_list : (s : System) → IsSystem s → (cs ds : List Constraint) → AreAllConstraints s cs → AreAllConstraints s ds → cs ≡ ds
one_list s is cs ds p q =
    let e : q.of_group ≡ p.of_group = one_given s.width s.lat s.gens s.level q.of_group p.of_group is.gens_width is.lat_is_gens q.are_of_group p.are_of_group in
    AreConstraints-unique s is p.of_group cs ds p.constraints (subst (λ (gs : List Congruence). AreConstraints s gs ds) e q.constraints)

pub one_outside : (s : System) → IsSystem s → (x : Vector) (c d : Constraint) → IsOutside s x c → IsOutside s x d → c ≡ d
one_outside s is x c d p q = IsFirstBroken-unique p.constraints x c d p.first (subst (λ (es : List Constraint). IsFirstBroken es x d) (one_list s is q.constraints p.constraints q.are_all p.are_all) q.first)
