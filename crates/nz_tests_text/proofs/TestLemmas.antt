-- The answers of the tests are such as an outcome keeps.
use Rattle.std.proofs.Common.{◌≡◌, pos, negsuc, true, [], ◌∷◌, refl, sym, subst, arith, lit<, Bool}
use Rattle.std.specs.List.{AllByRecursion as Each}
use Rattle.nz_spec.specs.Constraints.{NotNegative, Multiple}
use Rattle.nz_blocks.specs.Outcomes.{OutcomeData, HasValueAt, IsAsked, number}
use Rattle.nz_tests_text.specs.TestAnswers.{three, zero_fails, odd_three, two_fails}

has_value : HasValueAt true (pos 0 ∷ []) (NotNegative (pos 1 ∷ negsuc 0 ∷ []))
has_value = record {
  form = record { width = refl; modulus = tt };
  value = (record { sfits = lit< tt }, record { sfits = lit< tt }, (record { sfits = lit< tt }, record { sfits = lit< tt }, tt));
}

pub ray_answers : (o : OutcomeData) → o.amb ≡ 1 → o.level ≡ true → number o.hilbert ≡ 1 → number o.modules ≡ 1 → Each (IsAsked o) (three ∷ zero_fails ∷ [])
ray_answers o a l h m = (
  record { width = sym a; answer = record { size = sym h; not_negative = (omega arith, tt); named = sym l; below = omega (arith, m) } },
  (record { width = sym a; answer = subst (λ (b : Bool). HasValueAt b (pos 0 ∷ []) (NotNegative (pos 1 ∷ negsuc 0 ∷ []))) (sym l) has_value }, tt),
)

odd_value : HasValueAt true (pos 2 ∷ []) (Multiple (pos 1 ∷ negsuc 0 ∷ []) (pos 2))
odd_value = record {
  form = record { width = refl; modulus = omega arith };
  value = (record { sfits = lit< tt }, record { sfits = lit< tt }, (record { sfits = lit< tt }, record { sfits = lit< tt }, tt));
}

pub odd_answers : (o : OutcomeData) → o.amb ≡ 1 → o.level ≡ true → number o.hilbert ≡ 1 → number o.modules ≡ 1 → Each (IsAsked o) (odd_three ∷ two_fails ∷ [])
odd_answers o a l h m = (
  record { width = sym a; answer = record { size = sym h; not_negative = (omega arith, tt); named = sym l; below = omega (arith, m) } },
  (record { width = sym a; answer = subst (λ (b : Bool). HasValueAt b (pos 2 ∷ []) (Multiple (pos 1 ∷ negsuc 0 ∷ []) (pos 2))) (sym l) odd_value }, tt),
)
