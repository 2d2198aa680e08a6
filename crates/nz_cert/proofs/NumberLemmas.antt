-- Numbers, digit by digit.
use Rattle.std.proofs.Common.{◌≡◌, ℕ, ◌+◌, ◌-◌, ◌*◌, ◌^◌, ◌<◌, ◌≤◌, [], ◌∷◌, length, get_or, drop, refl, sym, ap, ◌∙◌, subst, arith}
use Rattle.std.proofs.lemmas.List.{drop_more}
use Rattle.std.specs.List.{AllByRecursion as Each}
use Rattle.nz_further.specs.CertificateTexts.{Bytes, IsDigit, value_of, WritesNumber}

-- the digits so far write the total, and those are left
pub record AreDigitsFrom (word left : Bytes) (total : ℕ) : Type 0 where
  pub worth : value_of 0 word ≡ value_of total left
  pub forth : Each IsDigit word → Each IsDigit left
  pub back : Each IsDigit left → Each IsDigit word

value-grows : (high : ℕ) (digits : Bytes) → high ≤ value_of high digits
value-grows high [] = omega arith
value-grows high (b ∷ digits) = omega (arith, value-grows (high * 10 + (b - 48)) digits)

pub digits_start : (word : Bytes) → AreDigitsFrom word word 0
digits_start word = record { worth = refl; forth = λ h. h; back = λ h. h }

pub digits_step : (word : Bytes) (k total more : ℕ) → k < length word → AreDigitsFrom word (drop k word) total → IsDigit (get_or word k 0) → more ≡ total * 10 + (get_or word k 0 - 48) → AreDigitsFrom word (drop (k + 1) word) more
digits_step word k total more l h d e =
    let s = drop_more word k 0 l in
    record {
      worth = h.worth ∙ ap (value_of total) s ∙ ap (λ (n : ℕ). value_of n (drop (k + 1) word)) (sym e);
      forth = λ g. (subst (Each IsDigit) s (h.forth g)).1;
      back = λ g. h.back (subst (Each IsDigit) (sym s) (d, g));
    }

-- a byte that is no digit
pub no_digit : (word : Bytes) (k total n : ℕ) → k < length word → AreDigitsFrom word (drop k word) total → ¬ IsDigit (get_or word k 0) → ¬ WritesNumber n word
no_digit word k total n l h d w = d ((subst (Each IsDigit) (drop_more word k 0 l) (h.forth w.digits)).0)

-- a number that is too large
pub too_large : (word : Bytes) (k total n : ℕ) → k < length word → AreDigitsFrom word (drop k word) total → 2 ^ 64 ≤ total * 10 + (get_or word k 0 - 48) → n < 2 ^ 64 → ¬ WritesNumber n word
too_large word k total n l h big small w =
    let e : n ≡ value_of (total * 10 + (get_or word k 0 - 48)) (drop (k + 1) word) = sym w.worth ∙ h.worth ∙ ap (value_of total) (drop_more word k 0 l) in
    let g = value-grows (total * 10 + (get_or word k 0 - 48)) (drop (k + 1) word) in
    let f : ⊥ = omega (arith, e, g, big, small) in f

pub digits_end : (word left : Bytes) (total : ℕ) → 1 ≤ length word → left ≡ [] → AreDigitsFrom word left total → WritesNumber total word
digits_end word left total l e h = record {
  some = l;
  digits = h.back (subst (Each IsDigit) (sym e) tt);
  worth = h.worth ∙ ap (value_of total) e;
}
