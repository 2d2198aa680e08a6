-- The steps of a sweep cut the group of the base.
use Rattle.std.proofs.Common.{◌≡◌, ◌≢◌, ◌↔◌, inl, inr, ℕ, List, [], ◌∷◌, take, drop, ℤ, pos, ◌+ℤ◌, ◌-ℤ◌, ◌*ℤ◌, ◌<ℤ◌, ◌≤ℤ◌, refl, sym, ap, ◌∙◌, subst, arith}
use Rattle.std.specs.Prelude.{Option, Some, None, IfSome, Result, Ok, Err, IfOk, MatchResult}
use Rattle.std.proofs.Math.IntN.{*ℤ-zero, zero-*ℤ, *ℤ_comm}
use Rattle.std.specs.List.{AllByRecursion as Each, insert}
use Rattle.std.proofs.lemmas.Int.{ints}
use Rattle.std.proofs.lemmas.List.{take-append-drop}
use Rattle.nz_spec.specs.Vectors.{Vector, dot, plus, scaled, combination, HasWidth, IsMultipleOf}
use Rattle.nz_spec.specs.Sums.{IsInGroup, IsIndependent}
use Rattle.nz_spec.proofs.IntLaws.{int_cases, multiple_zero, multiple_add, multiple_sub, multiple_mul}
use Rattle.nz_spec.proofs.SumLaws.{dot-combination, length-combination}
use Rattle.nz_spec.proofs.VectorLaws.{dot-zero, dot-scaled}
use Rattle.nz_spec.proofs.ConstraintLaws.{values_zero}
use Rattle.nz_scalar.specs.Exact.{Gives, GivesSuch}
use Rattle.nz_scalar.specs.Division.{IsFloorQuotient, HasGcd}
use Rattle.nz_scalar.proofs.GcdLemmas.{gcd_unique}
use Rattle.nz_linear.specs.Division.{IsGcdOf}
use Rattle.nz_linear.proofs.Ring.{sums, ring_z}
use Rattle.nz_linear.proofs.Signs.{cancel_le, cancel_lt, mul_is_pos}
use Rattle.nz_linear.proofs.VectorLaws.{dot-plus, length-scaled, zero-scaled, plus-zero}
use Rattle.nz_linear.proofs.Division.{gcd_of, common_divides_gcd}
use Rattle.nz_linear.proofs.GroupCuts.{equation_cut, congruence_cut}
use Rattle.nz_sweep.specs.Clearing.{Valued, vectors_of, AreZero}
use Rattle.nz_sweep.specs.Cuts.{IsCut, AreValued, IsValueAt, IsRemainder, IsRemainderAt, IsEquationStep, IsCofactor, IsCongruenceStep}
use Rattle.nz_sweep.proofs.CutLemmas.{AreBaseOfSame, base_back, independent_rest, independent_multiple}
use Rattle.nz_sweep.proofs.ClearingLemmas.{IsValueOf, Clears, cleared_clears}

-- ---- vectors with their values
pub valued_vectors : (Has : Vector → ℤ → Type 0) (vs : List Vector) (ls : List Valued) → AreValued Has vs ls → vectors_of ls ≡ vs
valued_vectors Has [] [] z = refl
valued_vectors Has [] (l ∷ ls) z = absurd z
valued_vectors Has (v ∷ vs) [] z = absurd z
valued_vectors Has (v ∷ vs) (l ∷ ls) z = ap (λ t. t ∷ vectors_of ls) z.0.0 ∙ ap (λ t. v ∷ t) (valued_vectors Has vs ls z.1)

pub values_are : (h : Vector) (m : ℤ) (vs : List Vector) (ls : List Valued) → AreValued (IsValueAt h) vs ls → Each (IsValueOf h m) ls
values_are h m [] [] z = tt
values_are h m [] (l ∷ ls) z = absurd z
values_are h m (v ∷ vs) [] z = absurd z
values_are h m (v ∷ vs) (l ∷ ls) z = ((pos 0, same), values_are h m vs ls z.1)
  where
    same : dot h l.vector -ℤ l.value ≡ pos 0 *ℤ m
    same = let e = ap (dot h) z.0.0 in let f = z.0.1 in omega (arith, sums, e, f, zero-*ℤ m)

pub zeros_are : (h : Vector) (vs : List Vector) (ls : List Valued) → AreValued (IsValueAt h) vs ls → AreZero ls → Each (λ v. dot h v ≡ pos 0) vs
zeros_are h [] [] z k = tt
zeros_are h [] (l ∷ ls) z k = absurd z
zeros_are h (v ∷ vs) [] z k = absurd z
zeros_are h (v ∷ vs) (l ∷ ls) z k = (sym z.0.1 ∙ k.0, zeros_are h vs ls z.1 k.1)

-- ---- equations
pub none_of : (z : ℤ) → IsMultipleOf (pos 0) z → z ≡ pos 0
none_of z h = h.1 ∙ *ℤ-zero h.0

pub zero_values : (h : Vector) (vs : List Valued) → Each (IsValueOf h (pos 0)) vs → AreZero vs → Each (λ v. dot h v ≡ pos 0) (vectors_of vs)
zero_values h [] a z = tt
zero_values h (v ∷ vs) a z = (let e = none_of _ a.0 in let f = z.0 in omega (arith, ints, e, f), zero_values h vs a.1 z.1)

-- where the form is 0 at all vectors, it is 0 on all of the group
nothing_cut : (w : ℕ) (h : Vector) (vs : List Vector) → Each (HasWidth w) vs → IsIndependent w vs → Each (λ v. dot h v ≡ pos 0) vs → IsCut (λ x. dot h x ≡ pos 0) w vs vs
nothing_cut w h vs l i z = record {
  widths = l;
  independent = i;
  same = λ x. ((λ k. k.0), (λ k. (k, ap (dot h) (sym k.same) ∙ dot-combination h w k.factors vs l ∙ values_zero h k.factors vs z)));
}

-- where all values but one are 0, the others generate the vectors at which the form is 0
taken_out_cut : (w : ℕ) (h : Vector) (vs : List Valued) (p : Valued) (others : List Valued) → Each (HasWidth w) (vectors_of vs) → IsIndependent w (vectors_of vs) → Each (IsValueOf h (pos 0)) vs → Clears w vs (p ∷ others) → p.value ≢ pos 0 → AreZero others
    → IsCut (λ x. dot h x ≡ pos 0) w (vectors_of vs) (vectors_of others)
taken_out_cut w h vs p others l i a c n z =
    let k = c l in
    let v = k.1 h (pos 0) a in
    let e = none_of _ v.0 in
    let cut = λ (x : Vector). equation_cut w h [] p.vector (vectors_of others) x k.0.widths.0 k.0.widths.1 (zero_values h others v.1 z) (λ f. n (omega (arith, ints, e, f))) in
    record {
      widths = k.0.widths.1;
      independent = independent_rest w p.vector (vectors_of others) k.0.widths (k.0.independent i);
      same = λ x. ((λ j. (cut x).0 ((k.0.same x).0 j.0, j.1)), (λ j. let r = (cut x).1 j in ((k.0.same x).1 r.0, r.1)));
    }

pub equation_step_cuts : (w : ℕ) (h : Vector) (vs us : List Vector) → Each (HasWidth w) vs → IsIndependent w vs → IsEquationStep h vs us → IsCut (λ x. dot h x ≡ pos 0) w vs us
equation_step_cuts w h vs us l i (inl s) = subst (IsCut (λ x. dot h x ≡ pos 0) w vs) (sym s.1) (nothing_cut w h vs l i s.0)
equation_step_cuts w h vs us l i (inr t) =
    let e = valued_vectors (IsValueAt h) vs t.values t.valued in
    subst (IsCut (λ x. dot h x ≡ pos 0) w vs) (sym t.left)
    (subst (λ (b : List Vector). IsCut (λ x. dot h x ≡ pos 0) w b (vectors_of t.others)) e
    (taken_out_cut w h t.values t.own t.others (subst (Each (HasWidth w)) (sym e) l) (subst (IsIndependent w) (sym e) i) (values_are h (pos 0) vs t.values t.valued) (cleared_clears w t.values t.place t.own t.others t.cleared) t.cleared.nonzero t.cleared.zero))

-- ---- congruences
pub remainders_are : (h : Vector) (m : ℤ) (vs : List Vector) (ls : List Valued) → AreValued (IsRemainderAt h m) vs ls → Each (IsValueOf h m) ls
remainders_are h m [] [] z = tt
remainders_are h m [] (l ∷ ls) z = absurd z
remainders_are h m (v ∷ vs) [] z = absurd z
remainders_are h m (v ∷ vs) (l ∷ ls) z = (subst (λ (t : Vector). IsMultipleOf m (dot h t -ℤ l.value)) (sym z.0.0) z.0.1.rest, remainders_are h m vs ls z.1)

multiple_at_zero : (m d a : ℤ) → IsMultipleOf m (d -ℤ a) → a ≡ pos 0 → IsMultipleOf m d
multiple_at_zero m d a k z = (k.0, (let e = k.1 in omega (arith, sums, e, z)))

pub multiples_are : (h : Vector) (m : ℤ) (vs : List Vector) (ls : List Valued) → AreValued (IsRemainderAt h m) vs ls → AreZero ls → Each (λ v. IsMultipleOf m (dot h v)) vs
multiples_are h m [] [] z k = tt
multiples_are h m [] (l ∷ ls) z k = absurd z
multiples_are h m (v ∷ vs) [] z k = absurd z
multiples_are h m (v ∷ vs) (l ∷ ls) z k = (multiple_at_zero m (dot h v) l.value z.0.1.rest k.0, multiples_are h m vs ls z.1 k.1)

multiple_values : (h : Vector) (m : ℤ) (vs : List Valued) → Each (IsValueOf h m) vs → AreZero vs → Each (λ v. IsMultipleOf m (dot h v)) (vectors_of vs)
multiple_values h m [] a z = tt
multiple_values h m (v ∷ vs) a z = (multiple_at_zero m (dot h v.vector) v.value a.0 z.0, multiple_values h m vs a.1 z.1)

multiple_sums : (w : ℕ) (h : Vector) (m : ℤ) (cs : List ℤ) (vs : List Vector) → Each (HasWidth w) vs → Each (λ v. IsMultipleOf m (dot h v)) vs → IsMultipleOf m (dot h (combination w cs vs))
multiple_sums w h m [] vs l z = rw (dot-zero h w) (multiple_zero m)
multiple_sums w h m (c ∷ cs) [] l z = rw (dot-zero h w) (multiple_zero m)
multiple_sums w h m (c ∷ cs) (v ∷ vs) l z =
    subst (IsMultipleOf m) (sym (dot-plus w h (scaled c v) (combination w cs vs) (length-scaled w c v l.0) (length-combination w cs vs l.1)))
    (multiple_add m (dot h (scaled c v)) (dot h (combination w cs vs)) (subst (IsMultipleOf m) (sym (dot-scaled h c v)) (multiple_mul m c (dot h v) z.0)) (multiple_sums w h m cs vs l.1 z.1))

all_multiples_cut : (w : ℕ) (h : Vector) (m : ℤ) (vs : List Vector) → Each (HasWidth w) vs → IsIndependent w vs → Each (λ v. IsMultipleOf m (dot h v)) vs → IsCut (λ x. IsMultipleOf m (dot h x)) w vs vs
all_multiples_cut w h m vs l i z = record {
  widths = l;
  independent = i;
  same = λ x. ((λ k. k.0), (λ k. (k, subst (λ (t : Vector). IsMultipleOf m (dot h t)) k.same (multiple_sums w h m k.factors vs l z))));
}

-- a greatest common divisor as a combination
gcd_form : (a m g : ℤ) → HasGcd (a ∷ m ∷ []) g → IsGcdOf g (a ∷ m ∷ [])
gcd_form a m g h =
    let s = gcd_of (a ∷ m ∷ []) in
    let k : HasGcd (a ∷ m ∷ []) s.g = record { nonneg = s.is.nonneg; divides = s.is.divides; greatest = λ d c. common_divides_gcd d s.g (a ∷ m ∷ []) s.is c } in
    subst (λ (t : ℤ). IsGcdOf t (a ∷ m ∷ [])) (gcd_unique (a ∷ m ∷ []) s.g g k h) s.is

-- it depends on the value only up to multiples of m
gcd_up_to : (a b m g : ℤ) → IsMultipleOf m (b -ℤ a) → HasGcd (a ∷ m ∷ []) g → HasGcd (b ∷ m ∷ []) g
gcd_up_to a b m g k h = record {
  nonneg = h.nonneg;
  divides = (into g h.divides.0 h.divides.1.0, h.divides.1);
  greatest = λ d c. h.greatest d (back d c.0 c.1.0, (c.1.0, tt));
}
  where
    times : (d : ℤ) → IsMultipleOf d m → IsMultipleOf d (b -ℤ a)
    times d n = subst (IsMultipleOf d) (sym k.1) (multiple_mul d k.0 m n)

    into : (d : ℤ) → IsMultipleOf d a → IsMultipleOf d m → IsMultipleOf d b
    into d x n = subst (IsMultipleOf d) (part b a) (multiple_add d (b -ℤ a) a (times d n) x)
      where
        part : (y x : ℤ) → (y -ℤ x) +ℤ x ≡ y
        part y x = omega (arith, sums)

    back : (d : ℤ) → IsMultipleOf d b → IsMultipleOf d m → IsMultipleOf d a
    back d x n = subst (IsMultipleOf d) (part b a) (multiple_sub d b (b -ℤ a) x (times d n))
      where
        part : (y x : ℤ) → y -ℤ (y -ℤ x) ≡ x
        part y x = omega (arith, sums)

-- what divides a positive number is not 0
divisor_positive : (t g m : ℤ) → pos 1 ≤ℤ m → pos 0 ≤ℤ g → m ≡ t *ℤ g → (pos 0 <ℤ g) × (t ≢ pos 0)
divisor_positive t g m p n e = (elim (int_cases g) [ inl z ↦ absurd (bad (ap (λ u. t *ℤ u) z ∙ *ℤ-zero t)) | inr (inl k) ↦ omega (arith, ints, k) | inr (inr k) ↦ absurd (omega (arith, ints, k, n)) ], (λ z. bad (ap (λ u. u *ℤ g) z ∙ zero-*ℤ g)))
  where
    bad : t *ℤ g ≡ pos 0 → ⊥
    bad z = omega (arith, ints, e, z, p)

multiplied_cut : (w : ℕ) (h : Vector) (m g t : ℤ) (p : Vector) (others : List Vector) → pos 1 ≤ℤ m → Each (HasWidth w) (p ∷ others) → IsIndependent w (p ∷ others) → Each (λ v. IsMultipleOf m (dot h v)) others → HasGcd (dot h p ∷ m ∷ []) g → m ≡ t *ℤ g
    → IsCut (λ x. IsMultipleOf m (dot h x)) w (p ∷ others) (scaled t p ∷ others)
multiplied_cut w h m g t p others pm l i z k e =
    let s = divisor_positive t g m pm k.nonneg e in
    let a = k.divides.0.0 in
    let value : dot h p ≡ g *ℤ a = k.divides.0.1 ∙ *ℤ_comm a g in
    let modulus : m ≡ g *ℤ t = e ∙ *ℤ_comm t g in
    let f : IsGcdOf g ((g *ℤ a) ∷ (g *ℤ t) ∷ []) = subst (λ (u : ℤ). IsGcdOf g (u ∷ (g *ℤ t) ∷ [])) value (subst (λ (u : ℤ). IsGcdOf g (dot h p ∷ u ∷ [])) modulus (gcd_form (dot h p) m g k)) in
    record {
      widths = (length-scaled w t p l.0, l.1);
      independent = independent_multiple w t p others s.1 i;
      same = λ x. subst (λ (u : ℤ). (IsInGroup w (p ∷ others) x × IsMultipleOf u (dot h x)) ↔ IsInGroup w (scaled t p ∷ others) x) (sym modulus)
          (congruence_cut w h g a t [] p others x l.0 l.1 (subst (λ (u : ℤ). Each (λ v. IsMultipleOf u (dot h v)) others) modulus z) value s.0 f);
    }

-- cuts of the same group
cut_of_same : (Holds : Vector → Type 0) (w : ℕ) (vs us ts bs : List Vector) → AreBaseOfSame w vs us → IsCut Holds w us ts → AreBaseOfSame w ts bs → IsCut Holds w vs bs
cut_of_same Holds w vs us ts bs a c b = record {
  widths = b.widths;
  independent = b.independent c.independent;
  same = λ x. ((λ k. (b.same x).0 ((c.same x).0 ((a.same x).0 k.0, k.1))), (λ k. let r = (c.same x).1 ((b.same x).1 k) in ((a.same x).1 r.0, r.1)));
}

put_back : (w : ℕ) (others : List Vector) (i : ℕ) (p : Vector) → Each (HasWidth w) (p ∷ others) → AreBaseOfSame w (p ∷ others) (insert others i p)
put_back w others i p l =
    let e = take-append-drop i others in
    subst (λ (t : List Vector). AreBaseOfSame w (p ∷ t) (insert others i p)) e
    (base_back w (take i others) p (drop i others) (subst (λ (t : List Vector). Each (HasWidth w) (p ∷ t)) (sym e) l))

pub congruence_step_cuts : (w : ℕ) (h : Vector) (m : ℤ) (vs us : List Vector) → Each (HasWidth w) vs → IsIndependent w vs → pos 1 ≤ℤ m → IsCongruenceStep h m vs us → IsCut (λ x. IsMultipleOf m (dot h x)) w vs us
congruence_step_cuts w h m vs us l i p (inl s) = subst (IsCut (λ x. IsMultipleOf m (dot h x)) w vs) (sym s.1) (all_multiples_cut w h m vs l i s.0)
congruence_step_cuts w h m vs us l i p (inr s) =
    let e = valued_vectors (IsRemainderAt h m) vs s.values s.valued in
    let c = cleared_clears w s.values s.place s.own s.others s.cleared (subst (Each (HasWidth w)) (sym e) l) in
    let own_independent = c.0.independent (subst (IsIndependent w) (sym e) i) in
    let v = c.1 h m (remainders_are h m vs s.values s.valued) in
    let t = s.multiplied.t in
    let k = s.multiplied.cofactor in
    let cut = multiplied_cut w h m k.g t s.own.vector (vectors_of s.others) p c.0.widths own_independent (multiple_values h m s.others v.1 s.cleared.zero) (gcd_up_to s.own.value (dot h s.own.vector) m k.g v.0 k.gcd) k.quotient in
    let back = put_back w (vectors_of s.others) s.place (scaled t s.own.vector) cut.widths in
    subst (IsCut (λ x. IsMultipleOf m (dot h x)) w vs) (sym s.multiplied.left)
    (cut_of_same (λ x. IsMultipleOf m (dot h x)) w vs (s.own.vector ∷ vectors_of s.others) (scaled t s.own.vector ∷ vectors_of s.others) (insert (vectors_of s.others) s.place (scaled t s.own.vector))
    (subst (λ (b : List Vector). AreBaseOfSame w b (s.own.vector ∷ vectors_of s.others)) e c.0) cut back)

-- ---- what the code reckons
pub ok_of_match : {X E : Type 0} (r : Result X E) (P Q : X → Type 0) (R : E → Type 0) → MatchResult r P R → ((x : X) → P x → Q x) → IfOk r Q
ok_of_match (Ok x) P Q R h f = f x h
ok_of_match (Err e) P Q R h f = tt

pub some_such : {T : Type 0} (integer : T → ℤ) (fits P : ℤ → Type 0) (Q : T → Type 0) (o : Option T) → GivesSuch integer fits o P → ((x : T) → P (integer x) → Q x) → IfSome o Q
some_such integer fits P Q None h f = tt
some_such integer fits P Q (Some x) h f = f x h.1

pub some_given : {T : Type 0} (integer : T → ℤ) (fits : ℤ → Type 0) (z : ℤ) (Q : T → Type 0) (o : Option T) → Gives integer fits o z → ((x : T) → integer x ≡ z → Q x) → IfSome o Q
some_given integer fits z Q None h f = tt
some_given integer fits z Q (Some x) h f = f x h.1

pub remainder_of : (a m q t r : ℤ) → pos 1 ≤ℤ m → IsFloorQuotient a m q → t ≡ q *ℤ m → r ≡ a -ℤ t → IsRemainder m a r
remainder_of a m q t r p f et er =
    let b = f.above (omega (arith, ints, p)) in
    let w : (q +ℤ pos 1) *ℤ m ≡ q *ℤ m +ℤ m = simp ring_z (omega (arith, sums)) in
    record {
      nonneg = (let x = b.0 in omega (arith, sums, et, er, x));
      below = (let x = b.1 in omega (arith, sums, et, er, x, w));
      rest = (q, omega (arith, sums, et, er));
    }

pub cofactor_of : (a m g t : ℤ) → pos 1 ≤ℤ m → HasGcd (a ∷ m ∷ []) g → IsFloorQuotient m g t → IsCofactor a m t
cofactor_of a m g t p h f =
    let d = h.divides.1.0 in
    let s = divisor_positive d.0 g m p h.nonneg d.1 in
    let b = f.above s.0 in
    let low : (t *ℤ g) ≤ℤ (d.0 *ℤ g) = subst (λ (u : ℤ). (t *ℤ g) ≤ℤ u) d.1 b.0 in
    let high : (d.0 *ℤ g) <ℤ ((t +ℤ pos 1) *ℤ g) = subst (λ (u : ℤ). u <ℤ ((t +ℤ pos 1) *ℤ g)) d.1 b.1 in
    let x = cancel_le g t d.0 s.0 (subst (λ (u : ℤ). (g *ℤ t) ≤ℤ u) (*ℤ_comm d.0 g) (subst (λ (u : ℤ). u ≤ℤ (d.0 *ℤ g)) (*ℤ_comm t g) low)) in
    let y = cancel_lt g d.0 (t +ℤ pos 1) s.0 (subst (λ (u : ℤ). (g *ℤ d.0) <ℤ u) (*ℤ_comm (t +ℤ pos 1) g) (subst (λ (u : ℤ). u <ℤ ((t +ℤ pos 1) *ℤ g)) (*ℤ_comm d.0 g) high)) in
    let e : d.0 ≡ t = omega (arith, ints, x, y) in
    record { g = g; gcd = h; quotient = d.1 ∙ ap (λ u. u *ℤ g) e }

pub gcd_nonzero : (a m g : ℤ) → pos 1 ≤ℤ m → HasGcd (a ∷ m ∷ []) g → g ≢ pos 0
gcd_nonzero a m g p h z = let d = h.divides.1.0 in let s = divisor_positive d.0 g m p h.nonneg d.1 in let k = s.0 in omega (arith, ints, k, z)

pub times_of : (w : ℕ) (t z : ℤ) (x r : Vector) → HasWidth w x → z ≡ pos 0 → r ≡ plus (scaled t x) (scaled z x) → r ≡ scaled t x
times_of w t z x r l e s = s ∙ ap (λ (u : ℤ). plus (scaled t x) (scaled u x)) e ∙ ap (plus (scaled t x)) (zero-scaled w x l) ∙ plus-zero w (scaled t x) (length-scaled w t x l)

pub cofactor_positive : (a m t : ℤ) → pos 1 ≤ℤ m → IsCofactor a m t → pos 0 <ℤ t
cofactor_positive a m t p c =
    let s = divisor_positive t c.g m p c.gcd.nonneg c.quotient in
    mul_is_pos c.g t s.0 (subst (λ (u : ℤ). pos 0 <ℤ u) (c.quotient ∙ *ℤ_comm t c.g) (omega (arith, ints, p)))
