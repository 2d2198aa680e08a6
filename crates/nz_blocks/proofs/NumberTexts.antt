-- Numbers at the front of a text: where a text begins with a number, it begins with no other one.
use Rattle.std.proofs.Common.{◌≡◌, ◌≢◌, ℕ, zero, suc, ◌+◌, ◌-◌, ◌*◌, ◌/◌, ◌%◌, ◌^◌, ◌<◌, ◌≤◌, inl, inr, ℤ, pos, negsuc, List, [], ◌∷◌, ◌++◌, length, replicate, refl, sym, ap, ap₂, subst, ◌∙◌, arith, FitsSigned, length-append}
use Rattle.std.specs.Int.{w128}
use Rattle.std.specs.List.{AllByRecursion as Each}
use Rattle.std.specs.Fmt.{decimal, signed_decimal}
use Rattle.std.proofs.lemmas.Fmt.{decimal_by_steps_wide}
use Rattle.nz_vec.specs.Texts.{Text}
use Rattle.nz_blocks.specs.Beginnings.{First, IsDigit, IsOpening, LeadsNumber, value}

pub value-append : (high : ℕ) (a b : Text) → value high (a ++ b) ≡ value (value high a) b
value-append high [] b = refl
value-append high (x ∷ a) b = value-append (high * 10 + (x - 48)) a b

pub value-grows : (high : ℕ) (ds : Text) → high ≤ value high ds
value-grows high [] = omega arith
value-grows high (b ∷ ds) = omega (arith, value-grows (high * 10 + (b - 48)) ds)

pub each_both : {X : Type 0} (P : X → Type 0) (xs ys : List X) → Each P xs → Each P ys → Each P (xs ++ ys)
each_both P [] ys p q = q
each_both P (x ∷ xs) ys p q = (p.0, each_both P xs ys p.1 q)

pub record IsNumeralOf (n : ℕ) (ds : Text) : Type 0 where
  pub some : 0 < length ds
  pub digits : Each IsDigit ds
  pub worth : value 0 ds ≡ n

numeral_one : (n : ℕ) → n < 10 → IsNumeralOf n ((48 + n) ∷ [])
numeral_one n l = record { some = omega arith; digits = ((omega arith, omega arith), tt); worth = omega arith }

numeral_more : (n : ℕ) (ds : Text) → 10 ≤ n → IsNumeralOf (n / 10) ds → IsNumeralOf n (ds ++ ((48 + n % 10) ∷ []))
numeral_more n ds l h =
    let below : n % 10 < 10 = omega arith in
    let last : value (value 0 ds) ((48 + n % 10) ∷ []) ≡ n = omega (arith, h.worth) in
    record {
      some = omega (arith, length-append ds ((48 + n % 10) ∷ []));
      digits = each_both IsDigit ds ((48 + n % 10) ∷ []) h.digits ((omega arith, omega arith), tt);
      worth = value-append 0 ds ((48 + n % 10) ∷ []) ∙ last;
    }

pub numeral : (n : ℕ) → n < 10 ^ 64 → IsNumeralOf n (decimal n)
numeral = decimal_by_steps_wide IsNumeralOf numeral_one numeral_more

-- two runs of digits, each as long as there are digits
pub runs_one : (a b s t : Text) → Each IsDigit a → Each IsDigit b → ¬ First IsDigit s → ¬ First IsDigit t → a ++ s ≡ b ++ t → (a ≡ b) × (s ≡ t)
runs_one [] [] s t p q u v e = (refl, e)
runs_one [] (y ∷ b) s t p q u v e = absurd (u (subst (First IsDigit) (sym e) q.0))
runs_one (x ∷ a) [] s t p q u v e = absurd (v (subst (First IsDigit) e p.0))
runs_one (x ∷ a) (y ∷ b) s t p q u v e =
    let same : x ≡ y = cc in
    let others : a ++ s ≡ b ++ t = cc in
    let r = runs_one a b s t p.1 q.1 u v others in
    (ap₂ (λ (z : ℕ) (c : Text). z ∷ c) same r.0, r.1)

pub decimal_one : (m n : ℕ) (s t : Text) → m < 10 ^ 64 → n < 10 ^ 64 → ¬ First IsDigit s → ¬ First IsDigit t → decimal m ++ s ≡ decimal n ++ t → (m ≡ n) × (s ≡ t)
decimal_one m n s t p q u v e =
    let a = numeral m p in
    let b = numeral n q in
    let r = runs_one (decimal m) (decimal n) s t a.digits b.digits u v e in
    (sym a.worth ∙ ap (value 0) r.0 ∙ b.worth, r.1)

digits_first : (ds s : Text) → 0 < length ds → Each IsDigit ds → First IsDigit (ds ++ s)
digits_first [] s l h = absurd (omega arith)
digits_first (d ∷ ds) s l h = h.0

pub decimal_first : (n : ℕ) (s : Text) → n < 10 ^ 64 → First IsDigit (decimal n ++ s)
decimal_first n s l = digits_first (decimal n) s (numeral n l).some (numeral n l).digits

first_not : (b : ℕ) (s t : Text) → ¬ IsDigit b → First IsDigit s → s ≡ b ∷ t → ⊥
first_not b s t n h e = n (subst (First IsDigit) e h)

minus_no_digit : ¬ IsDigit 45
minus_no_digit d = absurd (omega (arith, d.0))

pub signed_one : (y z : ℤ) (s t : Text) → FitsSigned w128 y → FitsSigned w128 z → ¬ First IsDigit s → ¬ First IsDigit t → signed_decimal y ++ s ≡ signed_decimal z ++ t → (y ≡ z) × (s ≡ t)
signed_one (pos m) (pos n) s t p q u v e = (let r = decimal_one m n s t (omega (arith, p.sfits)) (omega (arith, q.sfits)) u v e in (ap pos r.0, r.1))
signed_one (pos m) (negsuc n) s t p q u v e = absurd (first_not 45 (decimal m ++ s) (decimal (suc n) ++ t) minus_no_digit (decimal_first m s (omega (arith, p.sfits))) e)
signed_one (negsuc m) (pos n) s t p q u v e = absurd (first_not 45 (decimal n ++ t) (decimal (suc m) ++ s) minus_no_digit (decimal_first n t (omega (arith, q.sfits))) (sym e))
signed_one (negsuc m) (negsuc n) s t p q u v e =
    let others : decimal (suc m) ++ s ≡ decimal (suc n) ++ t = cc in
    let r = decimal_one (suc m) (suc n) s t (omega (arith, p.sfits)) (omega (arith, q.sfits)) u v others in
    let same : m ≡ n = omega (arith, r.0) in
    (ap negsuc same, r.1)

first_or : (s : Text) → First IsDigit s → First IsOpening s
first_or [] h = h
first_or (b ∷ s) h = inl h

pub signed_first : (z : ℤ) (s : Text) → FitsSigned w128 z → First IsOpening (signed_decimal z ++ s)
signed_first (pos n) s f = first_or (decimal n ++ s) (decimal_first n s (omega (arith, f.sfits)))
signed_first (negsuc n) s f = inr refl

opening_leads : (s : Text) → First IsOpening s → LeadsNumber s
opening_leads [] h = h
opening_leads (b ∷ s) (inl d) = inl d
opening_leads (b ∷ s) (inr e) = inr (inl e)

pub spaces_lead : (k : ℕ) (s : Text) → LeadsNumber s → LeadsNumber (replicate k 32 ++ s)
spaces_lead zero s h = h
spaces_lead (suc k) s h = inr (inr (refl, spaces_lead k s h))

pub number_leads : (k : ℕ) (z : ℤ) (s : Text) → FitsSigned w128 z → LeadsNumber (replicate k 32 ++ (signed_decimal z ++ s))
number_leads k z s f = spaces_lead k (signed_decimal z ++ s) (opening_leads (signed_decimal z ++ s) (signed_first z s f))

pub no_digit : (s : Text) → ¬ LeadsNumber s → ¬ First IsDigit s
no_digit [] h d = d
no_digit (b ∷ s) h d = h (inl d)

pub no_space : (s : Text) → First IsOpening s → ¬ First (λ b. b ≡ 32) s
no_space [] h e = h
no_space (b ∷ s) (inl d) e = absurd (omega (arith, d.0, e))
no_space (b ∷ s) (inr m) e = absurd (omega (arith, m, e))

pub spaces_one : (k l : ℕ) (a b : Text) → First IsOpening a → First IsOpening b → replicate k 32 ++ a ≡ replicate l 32 ++ b → a ≡ b
spaces_one zero zero a b p q e = e
spaces_one zero (suc l) a b p q e = absurd (no_space a p (subst (First (λ x. x ≡ 32)) (sym e) refl))
spaces_one (suc k) zero a b p q e = absurd (no_space b q (subst (First (λ x. x ≡ 32)) e refl))
spaces_one (suc k) (suc l) a b p q e = (let others : replicate k 32 ++ a ≡ replicate l 32 ++ b = cc in spaces_one k l a b p q others)

pub padded_one : (k l : ℕ) (y z : ℤ) (s t : Text) → FitsSigned w128 y → FitsSigned w128 z → ¬ First IsDigit s → ¬ First IsDigit t → replicate k 32 ++ (signed_decimal y ++ s) ≡ replicate l 32 ++ (signed_decimal z ++ t) → (y ≡ z) × (s ≡ t)
padded_one k l y z s t p q u v e = signed_one y z s t p q u v (spaces_one k l (signed_decimal y ++ s) (signed_decimal z ++ t) (signed_first y s p) (signed_first z t q) e)

-- a byte with which no number begins
pub shut : (b : ℕ) (s : Text) → ¬ IsDigit b → b ≢ 45 → b ≢ 32 → ¬ LeadsNumber (b ∷ s)
shut b s d m w (inl h) = d h
shut b s d m w (inr (inl h)) = m h
shut b s d m w (inr (inr h)) = w h.0

pub shut_behind : (b : ℕ) (s : Text) → ¬ IsDigit b → b ≢ 45 → b ≢ 32 → ¬ LeadsNumber (32 ∷ b ∷ s)
shut_behind b s d m w (inl h) = absurd (omega (arith, h.0))
shut_behind b s d m w (inr (inl h)) = absurd (omega (arith, h))
shut_behind b s d m w (inr (inr h)) = shut b s d m w h.1
