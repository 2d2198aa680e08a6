-- Reading on, byte by byte.
use Rattle.std.proofs.Common.{◌≡◌, ℕ, zero, suc, ◌+◌, ◌-◌, ◌*◌, ◌^◌, ◌<◌, ◌≤◌, ℤ, pos, negsuc, Bool, true, [], ◌∷◌, ◌++◌, length, get_or, drop, refl, sym, ap, subst, ◌∙◌, append_assoc, arith, inl, inr, add-one, FitsSigned, Some, None, ne_eqb, drop-cons, if◌then◌else◌}
use Rattle.std.specs.Int.{w128}
use Rattle.std.proofs.lemmas.Bool.{cases_lt}
use Rattle.std.specs.Fmt.{decimal, signed_decimal}
use Rattle.std.specs.List.{AllByRecursion as Each}
use Rattle.std.proofs.Math.Facts.{to_z-of_z}
use mir.Val.{to_z, of_z}
use Rattle.nz_vec.specs.Texts.{Text}
use Rattle.nz_blocks.specs.Beginnings.{First, IsDigit, IsOpening, value, IsRun, IsLarge, unspaced}
use Rattle.nz_blocks.specs.Readings.{signed_by}
use Rattle.nz_blocks.proofs.NumberTexts.{value-append, value-grows, each_both, runs_one, numeral, decimal_first}

-- what stands from a place on
pub at_place : (s : Text) (k : ℕ) → k < length s → drop k s ≡ get_or s k 0 ∷ drop (k + 1) s
at_place s k l = rw add-one (drop-cons s k 0 l)

pub past_end : (s : Text) (k : ℕ) → length s ≤ k → drop k s ≡ []
past_end [] zero l = refl
past_end [] (suc k) l = refl
past_end (b ∷ s) zero l = absurd (omega arith)
past_end (b ∷ s) (suc k) l = past_end s k (omega arith)

pub first_at : (P : ℕ → Type 0) (s : Text) (k : ℕ) → k < length s → P (get_or s k 0) → First P (drop k s)
first_at P s k l h = subst (First P) (sym (at_place s k l)) h

pub first_of : (P : ℕ → Type 0) (s : Text) (k : ℕ) → k < length s → First P (drop k s) → P (get_or s k 0)
first_of P s k l h = subst (First P) (at_place s k l) h

pub first_within : (P : ℕ → Type 0) (s : Text) (k : ℕ) → First P (drop k s) → k < length s
first_within P [] zero h = absurd h
first_within P [] (suc k) h = absurd h
first_within P (b ∷ s) zero h = omega arith
first_within P (b ∷ s) (suc k) h = omega (arith, first_within P s k h)

pub none_past : (P : ℕ → Type 0) (s : Text) (k : ℕ) → length s ≤ k → ¬ First P (drop k s)
none_past P s k l h = absurd (omega (arith, l, first_within P s k h))

-- so many digits have been read
pub record HasRead (text : Text) (from to total : ℕ) : Type 0 where
  pub digits : Text
  pub are : Each IsDigit digits
  pub split : drop from text ≡ digits ++ drop to text
  pub worth : value 0 digits ≡ total

pub read_none : (s : Text) (k : ℕ) → HasRead s k k 0
read_none s k = record { digits = []; are = tt; split = refl; worth = refl }

pub read_more : (s : Text) (from to total more : ℕ) → HasRead s from to total → to < length s → IsDigit (get_or s to 0) → more ≡ total * 10 + (get_or s to 0 - 48) → HasRead s from (to + 1) more
read_more s from to total more h l d e =
    let b : ℕ = get_or s to 0 in
    record {
      digits = h.digits ++ get_or s to 0 ∷ [];
      are = each_both IsDigit h.digits (get_or s to 0 ∷ []) h.are (d, tt);
      split = h.split ∙ ap (λ (t : Text). h.digits ++ t) (at_place s to l) ∙ sym (append_assoc h.digits (get_or s to 0 ∷ []) (drop (to + 1) s));
      worth = value-append 0 h.digits (get_or s to 0 ∷ []) ∙ ap (λ (n : ℕ). n * 10 + (get_or s to 0 - 48)) h.worth ∙ sym e;
    }

pub read_whole : (s : Text) (from to total : ℕ) → HasRead s from to total → ¬ First IsDigit (drop to s) → IsRun s from to total
read_whole s from to total h stop = record { digits = h.digits; are = h.are; split = h.split; stop = stop; worth = h.worth }

pub read_large : (s : Text) (from to total : ℕ) → HasRead s from to total → to < length s → IsDigit (get_or s to 0) → 2 ^ 128 ≤ total * 10 + (get_or s to 0 - 48) → IsLarge (drop from s)
read_large s from to total h l d big =
    let m = read_more s from to total (total * 10 + (get_or s to 0 - 48)) h l d refl in
    record { digits = m.digits; rest = drop (to + 1) s; are = m.are; split = m.split; large = subst (λ (n : ℕ). 2 ^ 128 ≤ n) (sym m.worth) big }

pub unspaced_step : (s : Text) (k : ℕ) → First (λ b. b ≡ 32) (drop k s) → unspaced (drop (k + 1) s) ≡ unspaced (drop k s)
unspaced_step s k h =
    let l = first_within (λ b. b ≡ 32) s k h in
    let w : get_or s k 0 ≡ 32 = first_of (λ b. b ≡ 32) s k l h in
    sym (ap unspaced (at_place s k l ∙ ap (λ (b : ℕ). b ∷ drop (k + 1) s) w))

pub unspaced_end : (s : Text) → ¬ First (λ b. b ≡ 32) s → unspaced s ≡ s
unspaced_end [] h = refl
unspaced_end (b ∷ s) h = ap (λ (t : Bool). if t then unspaced s else b ∷ s) (ne_eqb b 32 h)

pub run_forward : (s : Text) (from to : ℕ) → First IsDigit (drop from s) → ¬ First IsDigit (drop to s) → from ≤ to → from < to
run_forward s from to f h le = elim (cases_lt from to) [
  | inl lt ↦ lt
  | inr ge ↦ (let same : from ≡ to = omega (arith, le, ge) in absurd (h (subst (λ (k : ℕ). First IsDigit (drop k s)) same f)))
]

-- ---- numbers

prefix_value : (high : ℕ) (a b s t : Text) → Each IsDigit a → ¬ First IsDigit t → a ++ s ≡ b ++ t → value high a ≤ value high b
prefix_value high [] b s t p h e = value-grows high b
prefix_value high (x ∷ a) [] s t p h e = absurd (h (subst (First IsDigit) e p.0))
prefix_value high (x ∷ a) (y ∷ b) s t p h e =
    let same : x ≡ y = cc (e) in
    let rest : a ++ s ≡ b ++ t = cc (e) in
    subst (λ (z : ℕ). value (high * 10 + (x - 48)) a ≤ value (high * 10 + (z - 48)) b) same (prefix_value (high * 10 + (x - 48)) a b s t p.1 h rest)

pub not_large : (n : ℕ) (s : Text) → n < 2 ^ 128 → ¬ First IsDigit s → ¬ IsLarge (decimal n ++ s)
not_large n s l h b =
    let d = numeral n (omega (arith, l)) in
    let le = prefix_value 0 b.digits (decimal n) b.rest s b.are h (sym b.split) in
    absurd (omega (arith, le, d.worth, b.large, l))

-- the run of digits is that of the number
pub run_is : (text : Text) (from to number n : ℕ) (s : Text) → n < 2 ^ 128 → ¬ First IsDigit s → drop from text ≡ decimal n ++ s → IsRun text from to number → (number ≡ n) × (drop to text ≡ s)
run_is text from to number n s l h e r =
    let d = numeral n (omega (arith, l)) in
    let c = runs_one r.digits (decimal n) (drop to text) s r.are d.digits r.stop h (sym r.split ∙ e) in
    (sym r.worth ∙ ap (value 0) c.0 ∙ d.worth, c.1)

minus_first : (s t : Text) → ¬ First (λ b. b ≡ 45) s → s ≡ 45 ∷ t → ⊥
minus_first s t h e = h (subst (First (λ b. b ≡ 45)) (sym e) refl)

digit_no_minus : (s : Text) → First IsDigit s → ¬ First (λ b. b ≡ 45) s
digit_no_minus [] d m = d
digit_no_minus (b ∷ s) d m = absurd (omega (arith, d.0, m))

-- behind a minus
pub behind_minus : (text : Text) (from : ℕ) (t : Text) → First (λ b. b ≡ 45) (drop from text) → drop from text ≡ 45 ∷ t → drop (from + 1) text ≡ t
behind_minus text from t h e =
    let l = first_within (λ b. b ≡ 45) text from h in
    let both : get_or text from 0 ∷ drop (from + 1) text ≡ 45 ∷ t = sym (at_place text from l) ∙ e in
    cc (both)

pub opening_digit : (s : Text) → First IsOpening s → ¬ First (λ b. b ≡ 45) s → First IsDigit s
opening_digit [] h n = h
opening_digit (b ∷ s) (inl d) n = d
opening_digit (b ∷ s) (inr m) n = absurd (n m)

-- by its sign: a number without a minus, and one with it
pub unsigned_is : (z : ℤ) (t s : Text) → FitsSigned w128 z → ¬ First (λ b. b ≡ 45) t → t ≡ signed_decimal z ++ s → (n : ℕ) × (z ≡ pos n) × (n < 2 ^ 128) × (t ≡ decimal n ++ s)
unsigned_is (pos n) t s f h e = (n, refl, omega (arith, f.sfits), e)
unsigned_is (negsuc n) t s f h e = absurd (minus_first t (decimal (suc n) ++ s) h e)

pub minus_is : (z : ℤ) (text : Text) (from : ℕ) (s : Text) → FitsSigned w128 z → First (λ b. b ≡ 45) (drop from text) → drop from text ≡ signed_decimal z ++ s → (n : ℕ) × (z ≡ signed_by true n) × (n < 2 ^ 128) × (drop (from + 1) text ≡ decimal n ++ s)
minus_is (pos n) text from s f h e = absurd (digit_no_minus (decimal n ++ s) (decimal_first n s (omega (arith, f.sfits))) (subst (First (λ b. b ≡ 45)) e h))
minus_is (negsuc n) text from s f h e = (suc n, refl, omega (arith, f.sfits), behind_minus text from (decimal (suc n) ++ s) h e)

pub by_size : (z : ℤ) (negative : Bool) (n size : ℕ) → z ≡ signed_by negative n → size ≡ n → z ≡ signed_by negative size
by_size z negative n size is e = is ∙ ap (signed_by negative) (sym e)

pub some_same : {X : Type 0} (x z : X) → Some x ≡ Some z → x ≡ z
some_same x z e = cc

pub none_some : {X : Type 0} (z : X) → None ≡ Some z → ⊥
none_some z e = absurd cc

-- what a code's number reads
pub reads_as : (v z : ℤ) → FitsSigned w128 z → Some v ≡ Some z → to_z w128 (of_z w128 v) ≡ z
reads_as v z fits e =
    let same : v ≡ z = some_same v z e in
    to_z-of_z {w = w128} {z = v} (subst (FitsSigned w128) (sym same) fits) ∙ same

pub some_none : {X : Type 0} (z : X) → Some z ≡ None → ⊥
some_none z e = absurd cc

pub reads_is : (v z : ℤ) → FitsSigned w128 z → v ≡ z → to_z w128 (of_z w128 v) ≡ z
reads_is v z fits same = to_z-of_z {w = w128} {z = v} (subst (FitsSigned w128) (sym same) fits) ∙ same
