-- A place and a fault are the only ones.
use Rattle.std.proofs.Common.{◌≡◌, ℕ, [], ◌∷◌, ◌++◌, length, refl, sym, ap, subst, ◌∙◌, append_assoc}
use Rattle.std.proofs.lemmas.List.{append-nil, append_cancel_left}
use Rattle.nz_vec.specs.Texts.{Text}
use Rattle.nz_text.specs.Places.{line_at, column_at}
use Rattle.nz_input.specs.declared.refusal.Fault.{Fault}
use Rattle.nz_input.specs.Prefixes.{first_of, IsPrefixIn, EndsIn}
use Rattle.nz_input.proofs.Refusing.{begins-part}
use Rattle.nz_symbolic.specs.Texts.{IsAnyTextOf}
use Rattle.nz_symbolic.specs.Refusals.{EndsAt, IsRefused, fault_at}
use Rattle.nz_symbolic.specs.Laws as law
use Rattle.nz_symbolic.proofs.OneSite.{one-fault}

-- the longest prefix of a text is one
longest-one : {V : Type 0} (IsText : Text → V → Type 0) (front a r b s : Text) → a ++ r ≡ b ++ s → IsPrefixIn IsText (front ++ a) → EndsIn IsText (front ++ a) r → IsPrefixIn IsText (front ++ b) → EndsIn IsText (front ++ b) s → a ≡ b
longest-one IsText front [] r [] s e pa ea pb eb = refl
longest-one IsText front [] [] (y ∷ b) s e pa ea pb eb = absurd cc
longest-one IsText front [] (x ∷ r) (y ∷ b) s e pa ea pb eb =
    let same : y ≡ x = cc in
    let part : IsPrefixIn IsText (front ++ y ∷ []) = begins-part {IsText = IsText} (front ++ y ∷ []) b (subst (IsPrefixIn IsText) (sym (append_assoc front (y ∷ []) b)) pb) in
    absurd (ea (subst (λ (z : ℕ). IsPrefixIn IsText ((front ++ []) ++ z ∷ [])) same (subst (λ (z : Text). IsPrefixIn IsText (z ++ y ∷ [])) (sym (append-nil front)) part)))
longest-one IsText front (x ∷ a) r [] [] e pa ea pb eb = absurd cc
longest-one IsText front (x ∷ a) r [] (y ∷ s) e pa ea pb eb =
    let same : x ≡ y = cc in
    let part : IsPrefixIn IsText (front ++ x ∷ []) = begins-part {IsText = IsText} (front ++ x ∷ []) a (subst (IsPrefixIn IsText) (sym (append_assoc front (x ∷ []) a)) pa) in
    absurd (eb (subst (λ (z : ℕ). IsPrefixIn IsText ((front ++ []) ++ z ∷ [])) same (subst (λ (z : Text). IsPrefixIn IsText (z ++ x ∷ [])) (sym (append-nil front)) part)))
longest-one IsText front (x ∷ a) r (y ∷ b) s e pa ea pb eb =
    let same : y ≡ x = cc in
    let tails : a ++ r ≡ b ++ s = cc in
    let on : (c : Text) → front ++ x ∷ c ≡ (front ++ x ∷ []) ++ c = λ c. sym (append_assoc front (x ∷ []) c) in
    let pb2 : IsPrefixIn IsText (front ++ x ∷ b) = subst (λ (z : ℕ). IsPrefixIn IsText (front ++ z ∷ b)) same pb in
    let eb2 : EndsIn IsText (front ++ x ∷ b) s = subst (λ (z : ℕ). EndsIn IsText (front ++ z ∷ b) s) same eb in
    let below = longest-one IsText (front ++ x ∷ []) a r b s tails (subst (IsPrefixIn IsText) (on a) pa) (subst (λ (t : Text). EndsIn IsText t r) (on a) ea) (subst (IsPrefixIn IsText) (on b) pb2) (subst (λ (t : Text). EndsIn IsText t s) (on b) eb2) in
    ap (λ (z : ℕ). z ∷ a) (sym same) ∙ ap (λ (c : Text). y ∷ c) below

same-before : (bytes : Text) (at other : ℕ) (f g : Fault) (r : IsRefused bytes at f) (q : IsRefused bytes other g) → r.before ≡ q.before
same-before bytes at other f g r q = longest-one IsAnyTextOf [] r.before r.rest q.before q.rest (sym r.whole ∙ q.whole) r.begins r.ends q.begins q.ends

one-place : (bytes : Text) (at other : ℕ) (f g : Fault) → IsRefused bytes at f → IsRefused bytes other g → at ≡ other
one-place bytes at other f g r q = sym r.place ∙ ap length (same-before bytes at other f g r q) ∙ q.place

fault-one : (bytes : Text) (at other : ℕ) (f g : Fault) → IsRefused bytes at f → IsRefused bytes other g → f ≡ g
fault-one bytes at other f g r q =
    let same = same-before bytes at other f g r q in
    let rests : r.rest ≡ q.rest = append_cancel_left q.before r.rest q.rest (ap (λ (x : Text). x ++ r.rest) (sym same) ∙ sym r.whole ∙ q.whole) in
    r.fault_is ∙ one-fault r.before r.site q.site (first_of r.rest) r.site_is (subst (λ (x : Text). EndsAt x q.site) (sym same) q.site_is) ∙ ap (λ (x : Text). fault_at q.site (first_of x)) rests ∙ sym q.fault_is

-- a refusal is the only one
pub one-refusal : law.OneRefusal
one-refusal text line column f line2 column2 g r q =
    let same = one-place text r.at q.at f g r.refused q.refused in
    (r.line_is ∙ ap (line_at text) same ∙ sym q.line_is, r.column_is ∙ ap (column_at text) same ∙ sym q.column_is, fault-one text r.at q.at f g r.refused q.refused)
