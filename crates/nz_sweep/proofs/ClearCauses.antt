-- What is large where clearing forms a number that is no value of the type.
use Rattle.std.proofs.Common.{◌≡◌, ◌≢◌, ◌⊎◌, ⊎_elim, ℕ, zero, suc, ◌<◌, List, [], ◌∷◌, length, get_or, set, ℤ, pos, ◌-ℤ◌, ◌+ℤ◌, ◌*ℤ◌, ◌<ℤ◌, ◌≤ℤ◌, refl, sym, ap, ◌∙◌, subst, arith}
use Rattle.std.specs.Prelude.{unsigned_abs}
use Rattle.std.specs.List.{AllByRecursion as Each, Contains, insert, remove}
use Rattle.std.proofs.lemmas.Int.{ints}
use Rattle.nz_spec.proofs.ListLaws.{contains_here, contains_there, Each-contains}
use Rattle.nz_linear.proofs.Lists.{each_map}
use Rattle.nz_linear.proofs.Ring.{sums, ring_z}
use Rattle.nz_scalar.specs.Division.{IsFloorQuotient}
use Rattle.nz_scalar.specs.Room.{IsWithin, HasRoom}
use Rattle.nz_vec.specs.Combinations.{CombinationFits}
use Rattle.nz_range.proofs.Fits.{size_within}
use Rattle.nz_sweep.specs.Clearing.{Valued, values_of, IsPivot, AreRounds}
use Rattle.nz_sweep.specs.Duals.{Coordinate, coordinate_at}
use Rattle.nz_sweep.specs.Numbers.{SomeNumberLarge, IsOfValued, entry_in, value_in, IsTakingNumber, IsRoundNumber, of_valued, of_taking, IsClearingNumber}
use Rattle.nz_sweep.specs.Rounds.{State, GoesInto, Gathers, Leads, onward}
use Rattle.nz_sweep.proofs.RoundLemmas.{AtRound, round_of}
use Rattle.nz_sweep.proofs.NumberLemmas.{some_map, or_within, unfit_large, product_large, element_held}
use Rattle.nz_sweep.proofs.DivisionCauses.{quotient_within, quotient_large, combination_large}

-- ---- one vector reduced
pub valued_within : (vs ws : List Valued) → Each (Contains ws) vs → (n : ℤ) → IsOfValued vs n → IsOfValued ws n
valued_within vs ws c n (entry_in {v = v} a b) = entry_in {v = v} (Each-contains (Contains ws) vs v c a) b
valued_within vs ws c n (value_in {v = v} a) = value_in {v = v} (Each-contains (Contains ws) vs v c a)

own_value_large : (h : ℤ) (p b : Valued) → h <ℤ pos (unsigned_abs p.value) → SomeNumberLarge h (IsOfValued (p ∷ b ∷ []))
own_value_large h p b l = record { number = p.value; is_number = value_in {v = p} (contains_here p (b ∷ [])); large = l }

other_value_large : (h : ℤ) (p b : Valued) → h <ℤ pos (unsigned_abs b.value) → SomeNumberLarge h (IsOfValued (p ∷ b ∷ []))
other_value_large h p b l = record { number = b.value; is_number = value_in {v = b} (contains_there p b (b ∷ []) (contains_here b [])); large = l }

-- no quotient
pub no_quotient : (h : ℤ) (fits : ℤ → Type 0) → HasRoom h fits → (p b : Valued) → p.value ≢ pos 0 → ((z : ℤ) → IsFloorQuotient b.value p.value z → ¬ fits z) → SomeNumberLarge h (IsOfValued (p ∷ b ∷ []))
no_quotient h fits r p b n u = other_value_large h p b (quotient_large h fits r b.value p.value n u)

-- no product of the quotient and the value
pub no_product_large : (h : ℤ) (fits : ℤ → Type 0) → HasRoom h fits → (p b : Valued) (q : ℤ) → p.value ≢ pos 0 → IsFloorQuotient b.value p.value q → ¬ fits (q *ℤ p.value) → SomeNumberLarge h (IsOfValued (p ∷ b ∷ []))
no_product_large h fits r p b q n f u = told (product_large h fits r q p.value u)
  where
    told : SomeNumberLarge h (λ k. (k ≡ q) ⊎ (k ≡ p.value)) → SomeNumberLarge h (IsOfValued (p ∷ b ∷ []))
    told s =
        let l = s.large in
        ⊎_elim
        (λ e. other_value_large h p b (let w = quotient_within b.value p.value q n f in let y = ap unsigned_abs e in omega (arith, ints, w, y, l)))
        (λ e. own_value_large h p b (subst (λ (z : ℤ). h <ℤ pos (unsigned_abs z)) e l))
        s.is_number

-- no rest
pub no_rest : (h : ℤ) (fits : ℤ → Type 0) → HasRoom h fits → (p b : Valued) (q t : ℤ) → p.value ≢ pos 0 → IsFloorQuotient b.value p.value q → t ≡ q *ℤ p.value → ¬ fits (b.value -ℤ t) → SomeNumberLarge h (IsOfValued (p ∷ b ∷ []))
no_rest h fits r p b q t n f e u =
    ⊎_elim
    (λ (wb : IsWithin h b.value). ⊎_elim
    (λ (wp : IsWithin h p.value).
    let low = r.at_least in
    let one : IsWithin h (pos 1) = (omega (arith, ints, low), omega (arith, ints, low)) in
    let s = quotient_within b.value p.value q n f in
    let wq : IsWithin h (pos 0 -ℤ q) = size_within h (pos 0 -ℤ q) (let a = size_of b.value wb in omega (arith, ints, s, a)) in
    absurd (u (subst fits (sum b.value p.value q t e) (r.products b.value (pos 1) (pos 0 -ℤ q) p.value wb one wq wp))))
    (λ l. own_value_large h p b l)
    (or_within h p.value))
    (λ l. other_value_large h p b l)
    (or_within h b.value)
  where
    size_of : (a : ℤ) → IsWithin h a → pos (unsigned_abs a) ≤ℤ h
    size_of a w = let x = w.0 in let y = w.1 in omega (arith, ints, x, y)

    turned : (q p : ℤ) → (pos 0 -ℤ q) *ℤ p ≡ pos 0 -ℤ q *ℤ p
    turned q p = simp ring_z (omega (arith, sums))

    one_times : (b : ℤ) → b *ℤ pos 1 ≡ b
    one_times b = omega (arith, ints)

    sum : (b p q t : ℤ) → t ≡ q *ℤ p → b *ℤ pos 1 +ℤ (pos 0 -ℤ q) *ℤ p ≡ b -ℤ t
    sum b p q t e = let a = turned q p in let c = one_times b in omega (arith, sums, e, a, c)

-- no factor
pub no_factor : (h : ℤ) (fits : ℤ → Type 0) → HasRoom h fits → (p b : Valued) (q z : ℤ) → z ≡ pos 0 → p.value ≢ pos 0 → IsFloorQuotient b.value p.value q → ¬ fits (z -ℤ q) → SomeNumberLarge h (IsOfValued (p ∷ b ∷ []))
no_factor h fits r p b q z e n f u =
    let l = unfit_large h fits r (z -ℤ q) u in
    let s = quotient_within b.value p.value q n f in
    other_value_large h p b (omega (arith, ints, l, s, e))

-- no row
pub no_row : (h : ℤ) (fits : ℤ → Type 0) → HasRoom h fits → (p b : Valued) (q z k one : ℤ) → one ≡ pos 1 → z ≡ pos 0 → k ≡ z -ℤ q → p.value ≢ pos 0 → IsFloorQuotient b.value p.value q → ¬ CombinationFits fits one b.vector k p.vector → SomeNumberLarge h (IsOfValued (p ∷ b ∷ []))
no_row h fits r p b q z k one eo ez ek n f u = told (combination_large h fits r one b.vector k p.vector u)
  where
    told : SomeNumberLarge h (λ n. (n ≡ one) ⊎ (n ≡ k) ⊎ Contains b.vector n ⊎ Contains p.vector n) → SomeNumberLarge h (IsOfValued (p ∷ b ∷ []))
    told s =
        let l = s.large in
        ⊎_elim
        (λ e. absurd (let low = r.at_least in let y = ap unsigned_abs (e ∙ eo) in omega (arith, ints, low, y, l)))
        (λ v. ⊎_elim
        (λ e. other_value_large h p b (let w = quotient_within b.value p.value q n f in let y = ap unsigned_abs e in omega (arith, ints, w, y, l, ek, ez)))
        (λ w. ⊎_elim
        (λ c. record { number = s.number; is_number = entry_in {v = b} (contains_there p b (b ∷ []) (contains_here b [])) c; large = l })
        (λ c. record { number = s.number; is_number = entry_in {v = p} (contains_here p (b ∷ [])) c; large = l })
        w)
        v)
        s.is_number

pub reduced_views : (h : ℤ) (p p' b b' : Valued) → p ≡ p' → b ≡ b' → SomeNumberLarge h (IsOfValued (p ∷ b ∷ [])) → SomeNumberLarge h (IsOfValued (p' ∷ b' ∷ []))
reduced_views h p p' b b' e f s = subst (λ (u : Valued). SomeNumberLarge h (IsOfValued (u ∷ b' ∷ []))) e (subst (λ (u : Valued). SomeNumberLarge h (IsOfValued (p ∷ u ∷ []))) f s)

pub one_of_others : (h : ℤ) (own b : Valued) (others : List Valued) → Contains others b → SomeNumberLarge h (IsOfValued (own ∷ b ∷ [])) → SomeNumberLarge h (IsOfValued (own ∷ others))
one_of_others h own b others c s = some_map h (valued_within (own ∷ b ∷ []) (own ∷ others) (contains_here own others, (contains_there own b others c, tt))) s

-- ---- one round
removed_held : (vs : List Valued) (i : ℕ) → Each (Contains vs) (remove vs i)
removed_held [] zero = tt
removed_held [] (suc i) = tt
removed_held (v ∷ vs) zero = each_map (Contains vs) (Contains (v ∷ vs)) vs (λ u c. contains_there v u vs c) (each_own_of vs)
  where
    each_own_of : (us : List Valued) → Each (Contains us) us
    each_own_of [] = tt
    each_own_of (u ∷ us) = (contains_here u us, each_map (Contains us) (Contains (u ∷ us)) us (λ y k. contains_there u y us k) (each_own_of us))
removed_held (v ∷ vs) (suc i) = (contains_here v vs, each_map (Contains vs) (Contains (v ∷ vs)) (remove vs i) (λ u c. contains_there v u vs c) (removed_held vs i))

rest_within : (vs : List Valued) (place : ℕ) (own : Valued) (rest : List Valued) → place < length vs → own ≡ get_or vs place own → rest ≡ remove vs place → (n : ℤ) → IsOfValued (own ∷ rest) n → IsOfValued vs n
rest_within vs place own rest l e f n k =
    let held : Each (Contains vs) (own ∷ rest) = (element_held vs place own own l e, subst (Each (Contains vs)) (sym f) (removed_held vs place)) in
    valued_within (own ∷ rest) vs held n k

pub rest_large : (h : ℤ) (s : State) (place : ℕ) (own : Valued) (rest : List Valued) → place < length s.valued → own ≡ get_or s.valued place own → rest ≡ remove s.valued place → SomeNumberLarge h (IsOfValued (own ∷ rest)) → SomeNumberLarge h (IsRoundNumber s place)
rest_large h s place own rest l e f u = some_map h (λ n k. of_valued (rest_within s.valued place own rest l e f n k)) u

-- so it is where no coordinates are kept
pub moment_large : (h : ℤ) (all vs : List Valued) (place : ℕ) (own : Valued) (rest : List Valued) → AreRounds all vs → place < length vs → own ≡ get_or vs place own → rest ≡ remove vs place → SomeNumberLarge h (IsOfValued (own ∷ rest)) → SomeNumberLarge h (λ n. (moment : List Valued) × AreRounds all moment × IsOfValued moment n)
moment_large h all vs place own rest r l e f u = some_map h (λ n k. (vs, r, rest_within vs place own rest l e f n k)) u

pub round_large : (h : ℤ) (s t : State) (place : ℕ) → Leads s t → IsPivot (values_of t.valued) (length t.valued) place → SomeNumberLarge h (IsRoundNumber t place) → SomeNumberLarge h (IsClearingNumber s)
round_large h s t place k p u = some_map h (λ n c. record { moment = t; place = place; leads = k; pivot = p; number = c }) u

-- the round that is done leads on
pub leads_on : (s : State) (all vs rest others ls : List Valued) (cs ds : List Coordinate) (i : ℕ) (own : Valued) (c : Coordinate) → AtRound all vs rest others i own → Leads s (record { valued = vs; coordinates = cs }) → Gathers (record { valued = vs; coordinates = cs }) i (length vs) c → ls ≡ insert others i own → ds ≡ set cs i c → Leads s (record { valued = ls; coordinates = ds })
leads_on s all vs rest others ls cs ds i own c r k g e f =
    subst (λ (t : List Valued). Leads s (record { valued = t; coordinates = ds })) (sym e)
    (subst (λ (t : List Coordinate). Leads s (record { valued = insert others i own; coordinates = t })) (sym f)
    (onward k (record { round = round_of all vs rest others i own r; own = c; gathered = g; same = refl })))

-- ---- gathering
pub value_large : (h : ℤ) (s : State) (place : ℕ) (v : Valued) → Contains s.valued v → h <ℤ pos (unsigned_abs v.value) → SomeNumberLarge h (IsRoundNumber s place)
value_large h s place v c l = record { number = v.value; is_number = of_valued (value_in {v = v} c); large = l }

pub takes_large : (h : ℤ) (s : State) (place j : ℕ) (q : ℤ) (c : Coordinate) → Gathers s place j c → GoesInto (values_of s.valued) place j q → SomeNumberLarge h (IsTakingNumber q c (coordinate_at s.coordinates j)) → SomeNumberLarge h (IsRoundNumber s place)
takes_large h s place j q c a b u = some_map h (λ n k. of_taking a b k) u

-- ---- as the code has them
pub state_views : (h : ℤ) (vs vs' : List Valued) (cs cs' : List Coordinate) (place : ℕ) → vs ≡ vs' → cs ≡ cs' → SomeNumberLarge h (IsRoundNumber (record { valued = vs; coordinates = cs }) place) → SomeNumberLarge h (IsRoundNumber (record { valued = vs'; coordinates = cs' }) place)
state_views h vs vs' cs cs' place e f s =
    subst (λ (t : List Valued). SomeNumberLarge h (IsRoundNumber (record { valued = t; coordinates = cs' }) place)) e
    (subst (λ (t : List Coordinate). SomeNumberLarge h (IsRoundNumber (record { valued = vs; coordinates = t }) place)) f s)

pub gathers_views : (vs vs' : List Valued) (cs cs' : List Coordinate) (place : ℕ) (c : Coordinate) → vs ≡ vs' → cs ≡ cs' → Gathers (record { valued = vs; coordinates = cs }) place (length vs) c → Gathers (record { valued = vs'; coordinates = cs' }) place (length vs') c
gathers_views vs vs' cs cs' place c e f s =
    subst (λ (t : List Valued). Gathers (record { valued = t; coordinates = cs' }) place (length t) c) e
    (subst (λ (t : List Coordinate). Gathers (record { valued = vs; coordinates = t }) place (length vs) c) f s)
