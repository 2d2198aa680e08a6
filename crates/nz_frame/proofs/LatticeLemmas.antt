-- Cuts of a base by forms and congruences one after the other: what is left is the lattice of a system.
use Rattle.std.proofs.Common.{◌≡◌, ◌↔◌, ℕ, zero, suc, ◌+◌, ◌<◌, ◌≤◌, List, [], ◌∷◌, ◌++◌, length, take, get_or, ℤ, pos, Some, None, Result, Ok, Err, IfOk, refl, sym, ap, ◌∙◌, subst, arith}
use Rattle.std.proofs.lemmas.List.{take_more, take_all}
use Rattle.std.specs.List.{AllByRecursion as Each}
use Rattle.nz_spec.specs.Vectors.{Vector, dot, combination, unit_vectors, HasWidth}
use Rattle.nz_spec.specs.Sums.{IsInGroup, IsIndependent}
use Rattle.nz_spec.specs.Systems.{Congruence, System, IsMultipleBy}
use Rattle.nz_spec.specs.Stages.{IsInLattice}
use Rattle.nz_spec.specs.Constraints.{Constraint, Zero, Multiple, NotNegative}
use Rattle.nz_spec.proofs.SumLaws.{length-combination}
use Rattle.nz_linear.proofs.Lists.{each_append, each_left, each_right}
use Rattle.nz_classes.proofs.ClassLaws.{combination_units}
use Rattle.nz_sweep.specs.Bases.{Base, IsBase}
use Rattle.nz_sweep.specs.Cuts.{IsCut}
use Rattle.nz_vec.proofs.UnitLemmas.{length-unit_vectors}
use Rattle.nz_system.specs.Meaning.{congruences_of}
use Rattle.nz_frame.specs.Frames.{IsBaseOf, IsInGiven}

-- ---- cuts one after the other
cut_none : (Holds : Vector → Type 0) (w : ℕ) (vs : List Vector) → Each (HasWidth w) vs → IsIndependent w vs → ((x : Vector) → Holds x) → IsCut Holds w vs vs
cut_none Holds w vs l free all = record { widths = l; independent = free; same = λ x. (λ p. p.0, λ g. (g, all x)) }

cut_both : (P Q R : Vector → Type 0) (w : ℕ) (vs us ts : List Vector) → IsCut P w vs us → IsCut Q w us ts → ((x : Vector) → (P x × Q x) ↔ R x) → IsCut R w vs ts
cut_both P Q R w vs us ts a b e = record {
  widths = b.widths;
  independent = b.independent;
  same = λ x. (
    λ p. let q = (e x).1 p.1 in (b.same x).0 ((a.same x).0 (p.0, q.0), q.1),
    λ g. let q = (b.same x).1 g in
        let r = (a.same x).1 q.0 in
        (r.0, (e x).0 (r.1, q.1)),
  );
}

-- each of a list, and one more
each_more : {A : Type 0} (P : A → Type 0) (xs ys zs : List A) → zs ≡ xs ++ ys → (Each P xs × Each P ys) ↔ Each P zs
each_more P xs ys zs e = (λ h. subst (Each P) (sym e) (each_append P xs ys h.0 h.1), λ h. let k = subst (Each P) e h in (each_left P xs ys k, each_right P xs ys k))

-- ---- forms
pub base_cut : (w : ℕ) (b : Base) (Holds : Vector → Type 0) (vs : List Vector) → b.width ≡ w → IsCut Holds w vs b.vectors → IsBase b
base_cut w b Holds vs e c = record { widths = subst (λ n. Each (HasWidth n) b.vectors) (sym e) c.widths; independent = subst (λ n. IsIndependent n b.vectors) (sym e) c.independent }

pub forms_none : (b : Base) (forms : List Vector) → IsBase b → (b.width ≡ b.width) × IsCut (λ x. Each (λ f. dot f x ≡ pos 0) (take 0 forms)) b.width b.vectors b.vectors
forms_none b forms is = (refl, cut_none (λ x. Each (λ f. dot f x ≡ pos 0) (take 0 forms)) b.width b.vectors is.widths is.independent (λ x. tt))

pub forms_more : (forms : List Vector) (i : ℕ) (f : Vector) (a b c : Base) → i < length forms → f ≡ get_or forms i [] → c.width ≡ b.width → IsCut (λ x. dot f x ≡ pos 0) b.width b.vectors c.vectors
    → (b.width ≡ a.width) × IsCut (λ x. Each (λ f. dot f x ≡ pos 0) (take i forms)) a.width a.vectors b.vectors
    → (c.width ≡ a.width) × IsCut (λ x. Each (λ f. dot f x ≡ pos 0) (take (i + 1) forms)) a.width a.vectors c.vectors
forms_more forms i f a b c l e w k h = (
  w ∙ h.0,
  cut_both (λ x. Each (λ f. dot f x ≡ pos 0) (take i forms)) (λ x. dot f x ≡ pos 0) (λ x. Each (λ f. dot f x ≡ pos 0) (take (i + 1) forms)) a.width a.vectors b.vectors c.vectors h.1 (subst (λ n. IsCut (λ x. dot f x ≡ pos 0) n b.vectors c.vectors) h.0 k)
      (λ x. let m = each_more (λ f. dot f x ≡ pos 0) (take i forms) (f ∷ []) (take (i + 1) forms) (take_more forms i [] l ∙ ap (λ g. take i forms ++ g ∷ []) (sym e)) in
      (λ p. m.0 (p.0, (p.1, tt)), λ q. let r = m.1 q in (r.0, r.1.0))),
)

pub forms_all : (forms : List Vector) (i : ℕ) (a b : Base) → length forms ≤ i → IsCut (λ x. Each (λ f. dot f x ≡ pos 0) (take i forms)) a.width a.vectors b.vectors → IsCut (λ x. Each (λ f. dot f x ≡ pos 0) forms) a.width a.vectors b.vectors
forms_all forms i a b l h = subst (λ fs. IsCut (λ x. Each (λ f. dot f x ≡ pos 0) fs) a.width a.vectors b.vectors) (take_all i forms l) h

pub form_width : (forms : List Vector) (i n w : ℕ) (f : Vector) → i < length forms → f ≡ get_or forms i [] → n ≡ w → Each (HasWidth w) forms → length f ≡ n
form_width [] i n w f l e k h = absurd (let b : ⊥ = omega (arith, l) in b)
form_width (g ∷ forms) zero n w f l e k h = ap length e ∙ h.0 ∙ sym k
form_width (g ∷ forms) (suc i) n w f l e k h = form_width forms i n w f (omega (arith, l)) e k h.1

-- ---- congruences
congruences_append : (xs ys : List Constraint) → congruences_of (xs ++ ys) ≡ congruences_of xs ++ congruences_of ys
congruences_append [] ys = refl
congruences_append (Multiple f m ∷ xs) ys = ap (λ cs. record { form = f; modulus = m } ∷ cs) (congruences_append xs ys)
congruences_append (Zero f ∷ xs) ys = congruences_append xs ys
congruences_append (NotNegative f ∷ xs) ys = congruences_append xs ys

each_head : (P : Congruence → Type 0) (c : Constraint) (cs : List Constraint) → Each P (congruences_of (c ∷ cs)) → Each P (congruences_of (c ∷ [])) × Each P (congruences_of cs)
each_head P (Multiple f m) cs h = ((h.0, tt), h.1)
each_head P (Zero f) cs h = (tt, h)
each_head P (NotNegative f) cs h = (tt, h)

pub congruence_at : (P : Congruence → Type 0) (cs : List Constraint) (i : ℕ) (c : Constraint) → i < length cs → c ≡ get_or cs i c → Each P (congruences_of cs) → Each P (congruences_of (c ∷ []))
congruence_at P [] i c l e h = absurd (let b : ⊥ = omega (arith, l) in b)
congruence_at P (d ∷ cs) zero c l e h = subst (λ a. Each P (congruences_of (a ∷ []))) (sym e) (each_head P d cs h).0
congruence_at P (d ∷ cs) (suc i) c l e h = congruence_at P cs i c (omega (arith, l)) e (each_head P d cs h).1

pub congruences_none : (b : Base) (cs : List Constraint) → IsBase b → (b.width ≡ b.width) × IsCut (λ x. Each (λ c. IsMultipleBy c x) (congruences_of (take 0 cs))) b.width b.vectors b.vectors
congruences_none b cs is = (refl, cut_none (λ x. Each (λ c. IsMultipleBy c x) (congruences_of (take 0 cs))) b.width b.vectors is.widths is.independent (λ x. tt))

pub congruences_more : (cs : List Constraint) (i : ℕ) (c : Constraint) (a b d : Base) → i < length cs → c ≡ get_or cs i c → d.width ≡ b.width → IsCut (λ x. Each (λ k. IsMultipleBy k x) (congruences_of (c ∷ []))) b.width b.vectors d.vectors
    → (b.width ≡ a.width) × IsCut (λ x. Each (λ c. IsMultipleBy c x) (congruences_of (take i cs))) a.width a.vectors b.vectors
    → (d.width ≡ a.width) × IsCut (λ x. Each (λ c. IsMultipleBy c x) (congruences_of (take (i + 1) cs))) a.width a.vectors d.vectors
congruences_more cs i c a b d l e w k h = (
  w ∙ h.0,
  cut_both (λ x. Each (λ c. IsMultipleBy c x) (congruences_of (take i cs))) (λ x. Each (λ k. IsMultipleBy k x) (congruences_of (c ∷ []))) (λ x. Each (λ c. IsMultipleBy c x) (congruences_of (take (i + 1) cs))) a.width a.vectors b.vectors d.vectors h.1 (subst (λ n. IsCut (λ x. Each (λ k. IsMultipleBy k x) (congruences_of (c ∷ []))) n b.vectors d.vectors) h.0 k)
      (λ x. each_more (λ c. IsMultipleBy c x) (congruences_of (take i cs)) (congruences_of (c ∷ [])) (congruences_of (take (i + 1) cs)) (ap congruences_of (take_more cs i c l ∙ ap (λ g. take i cs ++ g ∷ []) (sym e)) ∙ congruences_append (take i cs) (c ∷ []))),
)

pub congruences_all : (cs : List Constraint) (i : ℕ) (a b : Base) → length cs ≤ i → IsCut (λ x. Each (λ c. IsMultipleBy c x) (congruences_of (take i cs))) a.width a.vectors b.vectors → IsCut (λ x. Each (λ c. IsMultipleBy c x) (congruences_of cs)) a.width a.vectors b.vectors
congruences_all cs i a b l h = subst (λ ds. IsCut (λ x. Each (λ c. IsMultipleBy c x) (congruences_of ds)) a.width a.vectors b.vectors) (take_all i cs l) h

pub one_congruence : (f : Vector) (m : ℤ) (w : ℕ) (vs us : List Vector) → IsCut (λ x. IsMultipleBy (record { form = f; modulus = m }) x) w vs us → IsCut (λ x. Each (λ c. IsMultipleBy c x) (record { form = f; modulus = m } ∷ [])) w vs us
one_congruence f m w vs us c = record {
  widths = c.widths;
  independent = c.independent;
  same = λ x. (λ p. (c.same x).0 (p.0, p.1.0), λ g. let q = (c.same x).1 g in (q.0, (q.1, tt)));
}

-- the same where the constraint is known by an equation
pub congruence_cut : {A : Type 0} (condition : A → Constraint) (a b : A) (f : Vector) (m : ℤ) (w : ℕ) (vs us : List Vector) → a ≡ b → condition b ≡ Multiple f m → IsCut (λ x. IsMultipleBy (record { form = f; modulus = m }) x) w vs us → IsCut (λ x. Each (λ c. IsMultipleBy c x) (congruences_of (condition a ∷ []))) w vs us
congruence_cut condition a b f m w vs us e k c = subst (λ d. IsCut (λ x. Each (λ q. IsMultipleBy q x) (congruences_of (d ∷ []))) w vs us) (sym (ap condition e ∙ k)) (one_congruence f m w vs us c)

pub no_congruence : (b : Base) → IsBase b → IsCut (λ x. Each (λ c. IsMultipleBy c x) []) b.width b.vectors b.vectors
no_congruence b is = cut_none (λ x. Each (λ c. IsMultipleBy c x) []) b.width b.vectors is.widths is.independent (λ x. tt)

-- ---- where the cuts begin
pub whole_base : (w : ℕ) (b : Base) → b.width ≡ w → b.vectors ≡ unit_vectors w → IsBase b → IsBaseOf w (IsInGiven w None) b
whole_base w b e u is =
    let l : Each (HasWidth w) b.vectors = subst (λ n. Each (HasWidth n) b.vectors) e is.widths in
    record {
      width = e;
      widths = l;
      independent = subst (λ n. IsIndependent n b.vectors) e is.independent;
      same = λ x. (
        λ i. record { factors = x; one_each = i.0 ∙ sym (ap length u ∙ length-unit_vectors w); same = ap (combination w x) u ∙ combination_units w x i.0 },
        λ g. (ap length (sym g.same) ∙ length-combination w g.factors b.vectors l, tt),
      );
    }

pub generated_base : (w : ℕ) (vs : List Vector) (b : Base) → b.width ≡ w → ((x : Vector) → IsInGroup w vs x ↔ IsInGroup w b.vectors x) → IsBase b → IsBaseOf w (IsInGiven w (Some vs)) b
generated_base w vs b e s is =
    let l : Each (HasWidth w) b.vectors = subst (λ n. Each (HasWidth n) b.vectors) e is.widths in
    record {
      width = e;
      widths = l;
      independent = subst (λ n. IsIndependent n b.vectors) e is.independent;
      same = λ x. (
        λ i. (s x).0 i.1,
        λ g. (ap length (sym g.same) ∙ length-combination w g.factors b.vectors l, (s x).1 g),
      );
    }

pub base_of : (w : ℕ) (P : Vector → Type 0) (b : Base) → IsBaseOf w P b → IsBase b
base_of w P b h = record { widths = subst (λ n. Each (HasWidth n) b.vectors) (sym h.width) h.widths; independent = subst (λ n. IsIndependent n b.vectors) (sym h.width) h.independent }

pub cut_base : (a b : Base) (Holds : Vector → Type 0) → b.width ≡ a.width → IsCut Holds a.width a.vectors b.vectors → IsBase b
cut_base a b Holds e c = base_cut a.width b Holds a.vectors e c

-- ---- where they end
pub lattice_found : (s : System) (equations : List Vector) (a b c : Base) → IsBaseOf s.width (IsInGiven s.width s.lat) a
    → b.width ≡ a.width → IsCut (λ x. Each (λ f. dot f x ≡ pos 0) equations) a.width a.vectors b.vectors
    → c.width ≡ b.width → IsCut (λ x. Each (λ k. IsMultipleBy k x) s.cg) b.width b.vectors c.vectors
    → IsBaseOf s.width (IsInLattice s equations) c
lattice_found s equations a b c h eb cb ec cc' =
    let one = subst (λ n. IsCut (λ x. Each (λ f. dot f x ≡ pos 0) equations) n a.vectors b.vectors) h.width cb in
    let two = subst (λ n. IsCut (λ x. Each (λ k. IsMultipleBy k x) s.cg) n b.vectors c.vectors) (eb ∙ h.width) cc' in
    record {
      width = ec ∙ eb ∙ h.width;
      widths = two.widths;
      independent = two.independent;
      same = λ x. (
        λ i. (two.same x).0 ((one.same x).0 ((h.same x).0 (i.width, i.in_group), i.zero_at), i.congruences),
        λ g. let q = (two.same x).1 g in
            let p = (one.same x).1 q.0 in
            let i = (h.same x).1 p.0 in
            record { width = i.0; zero_at = p.1; congruences = q.1; in_group = i.1 },
      );
    }

-- ---- answers
pub ok_map : {A E : Type 0} (P Q : A → Type 0) → ((a : A) → P a → Q a) → (r : Result A E) → IfOk r P → IfOk r Q
ok_map P Q f (Ok a) h = f a h
ok_map P Q f (Err e) h = tt

pub ok_map2 : {A E : Type 0} (P Q R : A → Type 0) → ((a : A) → P a → Q a → R a) → (r : Result A E) → IfOk r P → IfOk r Q → IfOk r R
ok_map2 P Q R f (Ok a) h k = f a h k
ok_map2 P Q R f (Err e) h k = tt
