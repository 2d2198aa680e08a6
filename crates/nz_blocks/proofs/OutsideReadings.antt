-- Reading what a form is to be.
use Rattle.std.proofs.Common.{◌≡◌, ℤ, ◌∷◌, ◌++◌, get_or, refl, sym, ap, ap₂, ◌∙◌, arith, codes, FitsSigned}
use Rattle.std.specs.Int.{w128}
use Rattle.std.specs.Fmt.{signed_decimal}
use Rattle.nz_vec.specs.Texts.{Text}
use Rattle.nz_spec.specs.Vectors.{Vector}
use Rattle.nz_spec.specs.Constraints.{Constraint as Condition, Zero, Multiple, NotNegative, form_of}
use Rattle.nz_blocks.specs.Beginnings.{First, IsDigit, unspaced}
use Rattle.nz_blocks.specs.Held.{IsHeldCondition}
use Rattle.nz_blocks.specs.AskedLines.{demand, outside_text}
use Rattle.nz_blocks.specs.Columns.{cells, spaced, entries}
use Rattle.nz_blocks.specs.Readings.{IsEqual}
use Rattle.nz_blocks.proofs.RowTexts.{entries_cells}
use Rattle.nz_blocks.proofs.RowReadings.{behind_same}
use Rattle.nz_blocks.proofs.AnswerTexts.{behind_form, outside_split}

-- a demand that is no equality
pub at_least : (here sign next : Text) (c : Condition) (s : Text) → sign ≡ codes ">= 0" → here ≡ unspaced (demand c ++ (codes " gives " ++ s)) → here ≡ sign ++ next → (NotNegative (form_of c) ≡ c) × (next ≡ codes " gives " ++ s)
at_least here sign next (NotNegative f) s l e h =
    let both : codes ">= 0" ++ (codes " gives " ++ s) ≡ codes ">= 0" ++ next = sym e ∙ h ∙ ap (λ (t : Text). t ++ next) l in
    (refl, sym (cut both))
  where
    cut : {a b : Text} → 62 ∷ 61 ∷ 32 ∷ 48 ∷ a ≡ 62 ∷ 61 ∷ 32 ∷ 48 ∷ b → a ≡ b
    cut e = cc
at_least here sign next (Zero f) s l e h = (let b : 61 ≡ 62 = ap (λ (z : Text). get_or z 0 0) (sym e ∙ h ∙ ap (λ (t : Text). t ++ next) l) in absurd (omega (arith, b)))
at_least here sign next (Multiple f m) s l e h = (let b : 61 ≡ 62 = ap (λ (z : Text). get_or z 0 0) (sym e ∙ h ∙ ap (λ (t : Text). t ++ next) l) in absurd (omega (arith, b)))

pub not_at_least : (here sign : Text) (c : Condition) (s : Text) → sign ≡ codes ">= 0" → here ≡ unspaced (demand c ++ (codes " gives " ++ s)) → ((t : Text) → here ≡ sign ++ t → ⊥) → IsEqual c
not_at_least here sign (NotNegative f) s l e h = h (codes " gives " ++ s) (e ∙ ap (λ (t : Text). t ++ (codes " gives " ++ s)) (sym l))
not_at_least here sign (Zero f) s l e h = tt
not_at_least here sign (Multiple f m) s l e h = tt

-- a demand with a modulus
pub record HasModulus (c : Condition) (next s : Text) : Type 0 where
  pub number : ℤ
  pub fits : FitsSigned w128 number
  pub named : Multiple (form_of c) number ≡ c
  pub bare : ¬ First IsDigit (codes " gives " ++ s)
  pub is : next ≡ signed_decimal number ++ (codes " gives " ++ s)

gives_bare : (s : Text) → ¬ First IsDigit (codes " gives " ++ s)
gives_bare s d = absurd (omega (arith, d.0))

pub modulus_of : (here sign next : Text) (c : Condition) (s : Text) → IsHeldCondition c → IsEqual c → sign ≡ codes "= 0 mod " → here ≡ unspaced (demand c ++ (codes " gives " ++ s)) → here ≡ sign ++ next → HasModulus c next s
modulus_of here sign next (NotNegative f) s held q l e h = absurd q
modulus_of here sign next (Zero f) s held q l e h = (let b : 103 ≡ 109 = ap (λ (z : Text). get_or z 4 0) (sym e ∙ h ∙ ap (λ (t : Text). t ++ next) l) in absurd (omega (arith, b)))
modulus_of here sign next (Multiple f m) s held q l e h =
    let both : codes "= 0 mod " ++ (signed_decimal m ++ (codes " gives " ++ s)) ≡ codes "= 0 mod " ++ next = sym e ∙ h ∙ ap (λ (t : Text). t ++ next) l in
    record { number = m; fits = held.modulus; named = refl; bare = gives_bare s; is = sym (cut both) }
  where
    cut : {a b : Text} → 61 ∷ 32 ∷ 48 ∷ 32 ∷ 109 ∷ 111 ∷ 100 ∷ 32 ∷ a ≡ 61 ∷ 32 ∷ 48 ∷ 32 ∷ 109 ∷ 111 ∷ 100 ∷ 32 ∷ b → a ≡ b
    cut e = cc

-- where no modulus stands there, the form is to be 0
pub zero_of : (here sign : Text) (c : Condition) (s : Text) → IsEqual c → sign ≡ codes "= 0 mod " → here ≡ unspaced (demand c ++ (codes " gives " ++ s)) → ((t : Text) → here ≡ sign ++ t → ⊥) → (Zero (form_of c) ≡ c) × (here ≡ codes "= 0" ++ (codes " gives " ++ s))
zero_of here sign (NotNegative f) s q l e h = absurd q
zero_of here sign (Zero f) s q l e h = (refl, e)
zero_of here sign (Multiple f m) s q l e h = absurd (h (signed_decimal m ++ (codes " gives " ++ s)) (e ∙ ap (λ (t : Text). t ++ (signed_decimal m ++ (codes " gives " ++ s))) (sym l)))

-- ---- the whole answer

pub form_start : (here word next : Text) (x : Vector) (c : Condition) (s : Text) → word ≡ codes " out " → here ≡ outside_text x c ++ 10 ∷ s → here ≡ word ++ next → next ≡ spaced (cells (λ i. 0) 0 (form_of c)) ++ behind_form c x s
form_start here word next x c s l e h =
    behind_same here word next (spaced (cells (λ i. 0) 0 (form_of c)) ++ behind_form c x s) h
    (e ∙ outside_split x c s ∙ ap₂ (λ (a b : Text). a ++ (b ++ behind_form c x s)) (sym l) (entries_cells (form_of c)))

pub no_out : (here word : Text) (x : Vector) (c : Condition) (s : Text) → word ≡ codes " out " → here ≡ outside_text x c ++ 10 ∷ s → ((t : Text) → here ≡ word ++ t → ⊥) → ⊥
no_out here word x c s l e h =
    h (entries (form_of c) ++ behind_form c x s) (e ∙ outside_split x c s ∙ ap (λ (a : Text). a ++ (entries (form_of c) ++ behind_form c x s)) (sym l))
