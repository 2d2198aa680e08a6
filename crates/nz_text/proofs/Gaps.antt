-- Passing over a gap, and what was passed.
use Rattle.std.proofs.Common.{◌≡◌, ◌≢◌, ℕ, Bool, true, false, cond, List, [], ◌∷◌, ◌++◌, refl, sym, ap, subst, ◌∙◌, append_assoc, inl, inr, ◌⊎◌}
use Rattle.std.specs.List.{flat_map, AllByRecursion}
use Rattle.std.proofs.lemmas.Bool.{eqb-true}
use Rattle.std.proofs.lemmas.Bool.Decides.{eqb_tells}
use Rattle.std.proofs.lemmas.List.{append-nil}
use Rattle.nz_text.specs.declared.pieces.Class.{Class}
use Rattle.nz_text.specs.declared.pieces.Class.TheVariants.{Blank, Slash, Solid, Foreign}
use Rattle.nz_text.specs.Bytes.{IsHanging, class_of, NoClose, Part, Space, Comment, part_bytes, IsPart, IsGap, IsOpenComment}
use Rattle.nz_text.specs.declared.pieces.Mode.{Mode}
use Rattle.nz_text.specs.declared.pieces.Mode.TheVariants.{Outside, Opening, Inside, Closing}
use Rattle.nz_text.specs.Skip.{Skipped, Reaches, Opens, by_class, skip}

-- ---- one byte

pub skip-blank : (b : ℕ) (t : List ℕ) → class_of b ≡ Blank → skip Outside (b ∷ t) ≡ skip Outside t
unfolding skip
skip-blank b t e = ap (λ (c : Class). by_class c (skip Outside t) (skip Opening t) (Reaches (b ∷ t))) e

pub skip-slash : (b : ℕ) (t : List ℕ) → class_of b ≡ Slash → skip Outside (b ∷ t) ≡ skip Opening t
unfolding skip
skip-slash b t e = ap (λ (c : Class). by_class c (skip Outside t) (skip Opening t) (Reaches (b ∷ t))) e

pub skip-solid : (b : ℕ) (t : List ℕ) → class_of b ≡ Solid → skip Outside (b ∷ t) ≡ Reaches (b ∷ t)
unfolding skip
skip-solid b t e = ap (λ (c : Class). by_class c (skip Outside t) (skip Opening t) (Reaches (b ∷ t))) e

pub skip-foreign : (b : ℕ) (t : List ℕ) → class_of b ≡ Foreign → skip Outside (b ∷ t) ≡ Reaches (b ∷ t)
unfolding skip
skip-foreign b t e = ap (λ (c : Class). by_class c (skip Outside t) (skip Opening t) (Reaches (b ∷ t))) e

pub skip-nil : skip Outside [] ≡ Reaches []
unfolding skip
skip-nil = refl

pub skip-begin : (t : List ℕ) → skip Outside (47 ∷ 42 ∷ t) ≡ skip Inside t
unfolding skip
skip-begin t = refl

-- ---- a comment that is closed

NoClose-rest : (b : ℕ) (body : List ℕ) → NoClose (b ∷ body) → NoClose body
NoClose-rest b body h front back e = h (b ∷ front) back (ap (λ (x : List ℕ). b ∷ x) e)

both-pass : (body t : List ℕ) → (NoClose body → skip Inside (body ++ 42 ∷ 47 ∷ t) ≡ skip Outside t) × (NoClose (42 ∷ body) → skip Closing (body ++ 42 ∷ 47 ∷ t) ≡ skip Outside t)
unfolding skip
both-pass [] t = (λ h. refl, λ h. refl)
both-pass (b ∷ body) t =
    let below = both-pass body t in
    let inside : NoClose (b ∷ body) → skip Inside ((b ∷ body) ++ 42 ∷ 47 ∷ t) ≡ skip Outside t =
    λ h. elim (eqb_tells b 42) [
      | inl hit ↦ rw (hit.0) (below.1 (subst (λ (x : ℕ). NoClose (x ∷ body)) hit.1 h))
      | inr miss ↦ rw (miss.0) (below.0 (NoClose-rest b body h))
    ] in
    let closing : NoClose (42 ∷ b ∷ body) → skip Closing ((b ∷ body) ++ 42 ∷ 47 ∷ t) ≡ skip Outside t =
    λ h. elim (eqb_tells b 47) [
      | inl hit ↦ absurd (h [] body (ap (λ (x : ℕ). 42 ∷ x ∷ body) hit.1))
      | inr miss ↦ elim (eqb_tells b 42) [
        | inl hit ↦ rw (miss.0, hit.0) (below.1 (subst (λ (x : ℕ). NoClose (x ∷ body)) hit.1 (NoClose-rest 42 (b ∷ body) h)))
        | inr neither ↦ rw (miss.0, neither.0) (below.0 (NoClose-rest b body (NoClose-rest 42 (b ∷ body) h)))
      ]
    ] in
    (inside, closing)

parts-pass : (parts : List Part) (t : List ℕ) → AllByRecursion IsPart parts → skip Outside (flat_map part_bytes parts ++ t) ≡ skip Outside t
parts-pass [] t h = refl
parts-pass (Space b ∷ parts) t h = skip-blank b (flat_map part_bytes parts ++ t) h.0 ∙ parts-pass parts t h.1
parts-pass (Comment body ∷ parts) t h =
    let regrouped : flat_map part_bytes (Comment body ∷ parts) ++ t ≡ 47 ∷ 42 ∷ (body ++ 42 ∷ 47 ∷ (flat_map part_bytes parts ++ t)) = simp append_assoc in
    ap (skip Outside) regrouped ∙ skip-begin _ ∙ (both-pass body (flat_map part_bytes parts ++ t)).0 h.0 ∙ parts-pass parts t h.1

-- a gap is passed
pub skip-gap : (gap t : List ℕ) → IsGap gap → skip Outside (gap ++ t) ≡ skip Outside t
skip-gap gap t g = rw (g.whole) (parts-pass g.parts t g.each)

-- ---- what was passed

pub IsGap-nil : IsGap []
IsGap-nil = record { parts = []; each = tt; whole = refl }

pub IsGap-blank : (b : ℕ) (gap : List ℕ) → class_of b ≡ Blank → IsGap gap → IsGap (b ∷ gap)
IsGap-blank b gap e g = record { parts = Space b ∷ g.parts; each = (e, g.each); whole = ap (λ (x : List ℕ). b ∷ x) g.whole }

pub IsGap-comment : (body gap : List ℕ) → NoClose body → IsGap gap → IsGap (47 ∷ 42 ∷ (body ++ 42 ∷ 47 ∷ gap))
IsGap-comment body gap h g = record { parts = Comment body ∷ g.parts; each = (h, g.each); whole = rw (g.whole) (simp append_assoc) }

pub NoClose-nil : NoClose []
NoClose-nil [] back e = absurd cc
NoClose-nil (x ∷ front) back e = absurd cc

NoClose-cons : (b : ℕ) (body : List ℕ) → ((back : List ℕ) → b ∷ body ≢ 42 ∷ 47 ∷ back) → NoClose body → NoClose (b ∷ body)
NoClose-cons b body h below [] back e = h back e
NoClose-cons b body h below (x ∷ front) back e = below front back cc

-- outside: a gap, and then no blank and no slash
pub record IsPassed (bytes rest : List ℕ) : Type 0 where
  pub gap : List ℕ
  pub is_gap : IsGap gap
  pub whole : bytes ≡ gap ++ rest

-- inside: the rest of a comment, and then a gap
pub record IsClosed (bytes rest : List ℕ) : Type 0 where
  pub body : List ℕ
  pub closes_first : NoClose body
  pub gap : List ℕ
  pub is_gap : IsGap gap
  pub whole : bytes ≡ body ++ 42 ∷ 47 ∷ (gap ++ rest)

-- outside: a gap, and then an open comment or its `/`
pub record IsOpened (bytes rest : List ℕ) : Type 0 where
  pub gap : List ℕ
  pub is_gap : IsGap gap
  pub comment : List ℕ
  pub is_open : IsOpenComment comment
  pub whole : bytes ≡ gap ++ (comment ++ rest)

abbrev pub Passes : Mode → List ℕ → List ℕ → Type 0
Passes Outside bytes rest = IsPassed bytes rest
Passes Opening bytes rest = IsPassed (47 ∷ bytes) rest
Passes Inside bytes rest = IsClosed bytes rest
Passes Closing bytes rest = IsClosed (42 ∷ bytes) rest

goes_outside : (b : ℕ) (t rest : List ℕ) → class_of b ≡ Blank → IsPassed t rest → IsPassed (b ∷ t) rest
goes_outside b t rest e p = record { gap = b ∷ p.gap; is_gap = IsGap-blank b p.gap e p.is_gap; whole = ap (λ (x : List ℕ). b ∷ x) p.whole }

goes_inside : (t rest : List ℕ) → IsClosed t rest → IsPassed (47 ∷ 42 ∷ t) rest
goes_inside t rest p = record { gap = 47 ∷ 42 ∷ (p.body ++ 42 ∷ 47 ∷ p.gap); is_gap = IsGap-comment p.body p.gap p.closes_first p.is_gap; whole = rw (p.whole) (simp append_assoc) }

closes : (t rest : List ℕ) → IsPassed t rest → IsClosed (42 ∷ 47 ∷ t) rest
closes t rest p = record { body = []; closes_first = NoClose-nil; gap = p.gap; is_gap = p.is_gap; whole = ap (λ (x : List ℕ). 42 ∷ 47 ∷ x) p.whole }

stays : (b : ℕ) (t rest : List ℕ) → ((back : List ℕ) → b ∷ t ≢ 42 ∷ 47 ∷ back) → IsClosed t rest → IsClosed (b ∷ t) rest
stays b t rest h p = record {
  body = b ∷ p.body;
  closes_first = NoClose-cons b p.body (λ back e. h (back ++ 42 ∷ 47 ∷ (p.gap ++ rest)) (ap (λ (x : List ℕ). b ∷ x) p.whole ∙ ap (λ (x : List ℕ). x ++ 42 ∷ 47 ∷ (p.gap ++ rest)) e)) p.closes_first;
  gap = p.gap;
  is_gap = p.is_gap;
  whole = ap (λ (x : List ℕ). b ∷ x) p.whole;
}

-- no blank and no slash begins it
abbrev pub IsStop : List ℕ → Type 0
IsStop [] = Unit {0}
IsStop (b ∷ t) = (class_of b ≡ Solid) ⊎ (class_of b ≡ Foreign)

abbrev pub Hangs : Mode → List ℕ → List ℕ → Type 0
Hangs Outside t rest = ⊥
Hangs Opening t rest = ⊥
Hangs Inside t rest = NoClose t × (rest ≡ [])
Hangs Closing t rest = NoClose (42 ∷ t) × (rest ≡ [])

-- a gap, and then an open comment
abbrev pub Opened : Mode → List ℕ → List ℕ → Type 0
Opened m t rest = (comment : List ℕ) × IsHanging comment rest × Passes m t (comment ++ rest)

abbrev pub Says : Mode → List ℕ → Skipped → Type 0
Says m t (Reaches rest) = Passes m t rest × IsStop rest
Says m t (Opens rest) = Opened m t rest ⊎ Hangs m t rest

here : (t : List ℕ) → IsPassed t t
here t = record { gap = []; is_gap = IsGap-nil; whole = refl }

-- a step that keeps what is reached
keeps : (m n : Mode) (t u : List ℕ) (r : Skipped) → ((rest : List ℕ) → Passes m t rest → Passes n u rest) → ((rest : List ℕ) → Hangs m t rest → Opened n u rest ⊎ Hangs n u rest) → Says m t r → Says n u r
keeps m n t u (Reaches rest) f g h = (f rest h.0, h.1)
keeps m n t u (Opens rest) f g (inl o) = inl (o.0, o.1, f (o.0 ++ rest) o.2)
keeps m n t u (Opens rest) f g (inr o) = g rest o

hang_here : (t rest : List ℕ) → NoClose t × (rest ≡ []) → Opened Opening (42 ∷ t) rest ⊎ Hangs Opening (42 ∷ t) rest
hang_here t rest h = inl (subst (λ (x : List ℕ). Opened Opening (42 ∷ t) x) (sym h.1) (47 ∷ 42 ∷ t, (refl, refl, h.0), rw append-nil (here (47 ∷ 42 ∷ t))))

NoClose-one : NoClose (42 ∷ [])
NoClose-one = NoClose-cons 42 [] (λ back e. cc) NoClose-nil

stays-open : (b : ℕ) (t rest : List ℕ) → ((back : List ℕ) → b ∷ t ≢ 42 ∷ 47 ∷ back) → NoClose t × (rest ≡ []) → NoClose (b ∷ t) × (rest ≡ [])
stays-open b t rest h o = (NoClose-cons b t h o.0, o.1)

tests-slash : (x y z : Bool) → cond x Blank (cond y Slash (cond z Solid Foreign)) ≡ Slash → y ≡ true
tests-slash true y z e = absurd cc
tests-slash false true z e = refl
tests-slash false false true e = absurd cc
tests-slash false false false e = absurd cc

pub class-slash : (b : ℕ) → class_of b ≡ Slash → b ≡ 47
class-slash b e = eqb-true _ _ (tests-slash _ _ _ e)

at_class : (c : Class) (b : ℕ) (t : List ℕ) → class_of b ≡ c → ((m : Mode) → Says m t (skip m t)) → Says Outside (b ∷ t) (skip Outside (b ∷ t))
at_class Blank b t e below = rw (skip-blank b t e) (keeps Outside Outside t (b ∷ t) (skip Outside t) (λ rest p. goes_outside b t rest e p) (λ rest o. absurd o) (below Outside))
at_class Slash b t e below =
    let is : b ≡ 47 = class-slash b e in
    let opening : Says Outside (47 ∷ t) (skip Opening t) = keeps Opening Outside t (47 ∷ t) (skip Opening t) (λ rest p. p) (λ rest o. absurd o) (below Opening) in
    subst (λ (x : ℕ). Says Outside (x ∷ t) (skip Outside (x ∷ t))) (sym is) (rw (skip-slash 47 t refl) opening)
at_class Solid b t e below = rw (skip-solid b t e) (here (b ∷ t), inl e)
at_class Foreign b t e below = rw (skip-foreign b t e) (here (b ∷ t), inr e)

pub says-skip : (t : List ℕ) (m : Mode) → Says m t (skip m t)
unfolding skip
says-skip [] Outside = (here [], tt)
says-skip [] Opening = inl (47 ∷ [], refl, here (47 ∷ []))
says-skip [] Inside = inr (NoClose-nil, refl)
says-skip [] Closing = inr (NoClose-one, refl)
says-skip (b ∷ t) Outside = at_class (class_of b) b t refl (says-skip t)
says-skip (b ∷ t) Opening = elim (eqb_tells b 42) [
  | inl hit ↦ rw (hit.0, hit.1) (keeps Inside Opening t (42 ∷ t) (skip Inside t) (λ rest p. goes_inside t rest p) (λ rest o. hang_here t rest o) (says-skip t Inside))
  | inr miss ↦ rw (miss.0) (inl (47 ∷ [], (refl, miss.1), here (47 ∷ b ∷ t)))
]
says-skip (b ∷ t) Inside = elim (eqb_tells b 42) [
  | inl hit ↦ rw (hit.0, hit.1) (says-skip t Closing)
  | inr miss ↦ rw (miss.0) (keeps Inside Inside t (b ∷ t) (skip Inside t) (λ rest p. stays b t rest (λ back e. miss.1 cc) p) (λ rest o. inr (stays-open b t rest (λ back e. miss.1 cc) o)) (says-skip t Inside))
]
says-skip (b ∷ t) Closing = elim (eqb_tells b 47) [
  | inl hit ↦ rw (hit.0, hit.1) (keeps Outside Closing t (47 ∷ t) (skip Outside t) (λ rest p. closes t rest p) (λ rest o. absurd o) (says-skip t Outside))
  | inr miss ↦ elim (eqb_tells b 42) [
    | inl hit ↦ rw (miss.0, hit.0, hit.1) (keeps Closing Closing t (42 ∷ t) (skip Closing t) (λ rest p. stays 42 (42 ∷ t) rest (λ back e. cc) p) (λ rest o. inr (stays-open 42 (42 ∷ t) rest (λ back e. cc) o)) (says-skip t Closing))
    | inr neither ↦ rw (miss.0, neither.0) (keeps Inside Closing t (b ∷ t) (skip Inside t)
        (λ rest p. stays 42 (b ∷ t) rest (λ back e. miss.1 cc) (stays b t rest (λ back e. neither.1 cc) p))
        (λ rest o. inr (stays-open 42 (b ∷ t) rest (λ back e. miss.1 cc) (stays-open b t rest (λ back e. neither.1 cc) o))) (says-skip t Inside))
  ]
]
