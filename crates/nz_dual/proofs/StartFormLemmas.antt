-- The forms of the first stage: the primitive rows are the dual forms of the rays, and what is too large among them.
use Rattle.std.proofs.Common.{◌≡◌, ⊎_elim, inl, inr, ℕ, suc, ◌<◌, List, [], ◌∷◌, ◌++◌, length, map, ℤ, pos, negsuc, ◌*ℤ◌, ◌≤ℤ◌, ◌<ℤ◌, Contains, refl, sym, ap, ap₂, ◌∙◌, subst, arith}
use Rattle.std.specs.Prelude.{unsigned_abs}
use Rattle.std.proofs.lemmas.Int.{ints}
use Rattle.std.proofs.Math.IntN.{zero-*ℤ, *ℤ-zero}
use Rattle.std.proofs.lemmas.List.{append_assoc, map-append}
use Rattle.std.specs.List.{AllByRecursion as Each, AllZip}
use Rattle.nz_spec.specs.Vectors.{Vector, dot, scaled, plus, HasWidth, IsPrimitive}
use Rattle.nz_spec.specs.Forms.{IsOtherColumn, IsDualForm, IsNormalForm}
use Rattle.nz_spec.specs.Sums.{IsInSpan, IsIndependent}
use Rattle.nz_spec.proofs.ListLaws.{Each-contains, Each-from_contains}
use Rattle.nz_spec.proofs.VectorLaws.{length-scaled, dot-IsZero}
use Rattle.nz_spec.proofs.EquationLaws.{dot_comm}
use Rattle.nz_linear.specs.DualPairs.{Pair, pair_of, IsApart, HasWidths, IsDual, AllVanish}
use Rattle.nz_linear.specs.Echelon.{unit_at}
use Rattle.nz_linear.proofs.Units.{length-unit_at, entry-unit_own, entry-unit_other, leads_at}
use Rattle.nz_linear.proofs.Division.{gcd_of, common_divides_gcd}
use Rattle.nz_linear.proofs.DualPairs.{dual_independent}
use Rattle.nz_linear.proofs.Lists.{each_map, each_map2, each_append, each_of_map, map_each}
use Rattle.nz_linear.proofs.Signs.{mul_is_zero, mul_is_pos}
use Rattle.nz_linear.proofs.VectorLaws.{scaled-dot}
use Rattle.nz_linear.proofs.Ring.{sums, one-mul}
use Rattle.nz_scalar.specs.Room.{HasRoom}
use Rattle.nz_scalar.specs.Division.{HasGcd}
use Rattle.nz_vec.specs.Primitives.{IsPrimitivePart}
use Rattle.nz_classes.specs.Walks.{paired, IsFullSimplex}
use Rattle.nz_range.specs.Measures.{measure, pair_measure, SomeLarge}
use Rattle.nz_range.proofs.Fits.{gcd_fits}
use Rattle.nz_range.proofs.Causes.{or_large, value_cause}
use Rattle.nz_vec.specs.Sums.{HasValueOutside}
use Rattle.nz_vec.specs.declared.answers.Num.{Num}
use Rattle.nz_vec.specs.declared.answers.Num.TheVariants as num
use Rattle.nz_vec.specs.declared.answers.Work.{Work}
use Rattle.nz_vec.specs.declared.answers.Work.TheVariants.{Range, TooMany, Stopped, NoMemory}
use Rattle.nz_classes.specs.Classes.{IsPoint}
use Rattle.nz_classes.specs.Walks.{IsNamed, IsRefusal, IsTooLarge}
use Rattle.nz_dual.specs.FirstStage.{IsStartCandidate, IsStartVector, IsStartForm, IsStartTooLarge, IsStartRefusal, AreCandidates}
use Rattle.nz_dual.specs.Sides.{IsWorkOf}
use Rattle.nz_dual.proofs.FirstStageLemmas.{span_all, vectors_of_pairs, forms_of_pairs, point_listed, candidate_named}

-- ---- a primitive part has the signs of its vector
part_value : (r f x : Vector) (p : IsPrimitivePart r f) → dot r x ≡ p.divisor *ℤ dot f x
part_value r f x p = ap (λ g. dot g x) p.whole ∙ scaled-dot p.divisor f x

part_above : (r f : Vector) (p : IsPrimitivePart r f) → pos 0 <ℤ p.divisor
part_above r f p = let h = p.positive in omega (arith, ints, h)

part_zero : (r f x : Vector) → IsPrimitivePart r f → dot r x ≡ pos 0 → dot f x ≡ pos 0
part_zero r f x p e = mul_is_zero p.divisor (dot f x) (part_above r f p) (sym (part_value r f x p) ∙ e)

whole_zero : (r f x : Vector) → IsPrimitivePart r f → dot f x ≡ pos 0 → dot r x ≡ pos 0
whole_zero r f x p e = part_value r f x p ∙ ap (λ t. p.divisor *ℤ t) e ∙ *ℤ-zero p.divisor

part_positive : (r f x : Vector) → IsPrimitivePart r f → pos 0 <ℤ dot r x → pos 0 <ℤ dot f x
part_positive r f x p h = mul_is_pos p.divisor (dot f x) (part_above r f p) (subst (λ t. pos 0 <ℤ t) (part_value r f x p) h)

part_width : (r f : Vector) → IsPrimitivePart r f → length f ≡ length r
part_width r f p = sym (length-scaled p.divisor f) ∙ sym (ap length p.whole)

-- ---- so the primitive parts of the rows of a simplex are its forms
parts_widths : (w : ℕ) (rows fs vs : List Vector) → AllZip IsPrimitivePart rows fs → Each (HasWidths w) (paired rows vs) → Each (HasWidths w) (paired fs vs)
parts_widths w [] [] vs z h = tt
parts_widths w [] (f ∷ fs) vs z h = absurd z
parts_widths w (r ∷ rows) [] vs z h = absurd z
parts_widths w (r ∷ rows) (f ∷ fs) [] z h = tt
parts_widths w (r ∷ rows) (f ∷ fs) (v ∷ vs) z h = (record { form_width = part_width r f z.0 ∙ h.0.form_width; vector_width = h.0.vector_width }, parts_widths w rows fs vs z.1 h.1)

parts_apart : (r f v : Vector) → IsPrimitivePart r f → (rows fs vs : List Vector) → AllZip IsPrimitivePart rows fs → Each (IsApart (pair_of r v)) (paired rows vs) → Each (IsApart (pair_of f v)) (paired fs vs)
parts_apart r f v p [] [] vs z h = tt
parts_apart r f v p [] (g ∷ fs) vs z h = absurd z
parts_apart r f v p (s ∷ rows) [] vs z h = absurd z
parts_apart r f v p (s ∷ rows) (g ∷ fs) [] z h = tt
parts_apart r f v p (s ∷ rows) (g ∷ fs) (u ∷ vs) z h = (record { there = part_zero r f u p h.0.there; back = part_zero s g v z.0 h.0.back }, parts_apart r f v p rows fs vs z.1 h.1)

parts_dual : (rows fs vs : List Vector) → AllZip IsPrimitivePart rows fs → IsDual (paired rows vs) → IsDual (paired fs vs)
parts_dual [] [] vs z h = tt
parts_dual [] (f ∷ fs) vs z h = absurd z
parts_dual (r ∷ rows) [] vs z h = absurd z
parts_dual (r ∷ rows) (f ∷ fs) [] z h = tt
parts_dual (r ∷ rows) (f ∷ fs) (v ∷ vs) z h = (part_positive r f v z.0 h.0, parts_apart r f v z.0 rows fs vs z.1 h.1, parts_dual rows fs vs z.1 h.2)

parts_vanish : (rows fs vs : List Vector) (x : Vector) → AllZip IsPrimitivePart rows fs → AllVanish (paired fs vs) x → AllVanish (paired rows vs) x
parts_vanish [] [] vs x z h = tt
parts_vanish [] (f ∷ fs) vs x z h = absurd z
parts_vanish (r ∷ rows) [] vs x z h = absurd z
parts_vanish (r ∷ rows) (f ∷ fs) [] x z h = tt
parts_vanish (r ∷ rows) (f ∷ fs) (v ∷ vs) x z h = (whole_zero r f x z.0 h.0, parts_vanish rows fs vs x z.1 h.1)

parts_primitive : (rows fs vs : List Vector) → length rows ≡ length vs → AllZip IsPrimitivePart rows fs → IsDual (paired rows vs) → Each IsPrimitive fs
parts_primitive [] [] vs l z h = tt
parts_primitive [] (f ∷ fs) vs l z h = absurd z
parts_primitive (r ∷ rows) [] vs l z h = absurd z
parts_primitive (r ∷ rows) (f ∷ fs) [] l z h = absurd (let b : ⊥ = omega arith in b)
parts_primitive (r ∷ rows) (f ∷ fs) (v ∷ vs) l z h = (
  z.0.primitive (λ n. let e = dot_comm r v ∙ dot-IsZero v r n in let p = h.0 in let b : ⊥ = omega (arith, ints, p, e) in b),
  parts_primitive rows fs vs (omega arith) z.1 h.2,
)

parts_length : (rows fs : List Vector) → AllZip IsPrimitivePart rows fs → length fs ≡ length rows
parts_length [] [] z = refl
parts_length [] (f ∷ fs) z = absurd z
parts_length (r ∷ rows) [] z = absurd z
parts_length (r ∷ rows) (f ∷ fs) z = ap suc (parts_length rows fs z.1)

pub primitive_simplex : (rows rays fs : List Vector) → IsFullSimplex rays rows → AllZip IsPrimitivePart rows fs → IsFullSimplex rays fs
primitive_simplex rows rays fs s z = record {
  one_each = parts_length rows fs z ∙ s.one_each;
  dual = record { widths = parts_widths (length rays) rows fs rays z s.dual.widths; dual = parts_dual rows fs rays z s.dual.dual };
  only_zero = λ x l h. s.only_zero x l (parts_vanish rows fs rays x z h);
}

-- ---- they are the dual forms of the rays
no_other_column : (w : ℕ) (vs : List Vector) (j : ℕ) → ((x : Vector) → HasWidth w x → IsInSpan w vs x) → IsOtherColumn w vs j → ⊥
no_other_column w vs j span o =
    let own = entry-unit_own w j o.within in
    o.not_key (unit_at w j, span (unit_at w j) (length-unit_at w j), leads_at (unit_at w j) j (λ e. let k : pos 1 ≡ pos 0 = sym own ∙ e in omega (arith, sums, k)) (λ k l. entry-unit_other w j k (λ e. let n : k ≡ j = sym e in omega arith)))

abbrev vectors_of : List Pair → List Vector
vectors_of ps = map (λ (p : Pair). p.vector) ps

dual_forms_from : (w : ℕ) (all : List Vector) (before ps : List Pair) → all ≡ vectors_of before ++ vectors_of ps → ((j : ℕ) → IsOtherColumn w all j → ⊥) → Each (HasWidths w) ps → IsDual ps → Each (λ (p : Pair). IsPrimitive p.form) ps → Each (λ (p : Pair). Each (λ (q : Pair). dot p.form q.vector ≡ pos 0) before) ps
    → Each (λ (p : Pair). IsDualForm w all p.vector p.form) ps
dual_forms_from w all before [] e none l d i z = tt
dual_forms_from w all before (p ∷ ps) e none l d i z = (
  record {
    earlier = vectors_of before;
    later = vectors_of ps;
    whole = e;
    width = l.0.form_width;
    primitive = i.0;
    zero_at = λ j o. absurd (none j o);
    positive = d.0;
    zero_on = each_append (λ g. dot p.form g ≡ pos 0) (vectors_of before) (vectors_of ps)
        (each_of_map (λ (q : Pair). q.vector) (λ g. dot p.form g ≡ pos 0) before z.0)
        (each_of_map (λ (q : Pair). q.vector) (λ g. dot p.form g ≡ pos 0) ps (each_map (IsApart p) (λ (q : Pair). dot p.form q.vector ≡ pos 0) ps (λ q a. a.there) d.1));
  },
  dual_forms_from w all (before ++ p ∷ []) ps (e ∙ sym (append_assoc (vectors_of before) (p.vector ∷ []) (vectors_of ps)) ∙ ap (λ t. t ++ vectors_of ps) (sym (map-append (λ (q : Pair). q.vector) before (p ∷ [])))) none l.1 d.2 i.1
      (each_map2 (λ (r : Pair). Each (λ (q : Pair). dot r.form q.vector ≡ pos 0) before) (IsApart p) (λ (r : Pair). Each (λ (q : Pair). dot r.form q.vector ≡ pos 0) (before ++ p ∷ [])) ps
      (λ r h a. each_append (λ (q : Pair). dot r.form q.vector ≡ pos 0) before (p ∷ []) h (a.back, tt)) z.1 d.1),
)

nothing_before : (ps : List Pair) → Each (λ (p : Pair). Each (λ (q : Pair). dot p.form q.vector ≡ pos 0) []) ps
nothing_before [] = tt
nothing_before (p ∷ ps) = (tt, nothing_before ps)

-- the primitive forms of a simplex are normal forms of its rays
forms_are_normal : (rays fs : List Vector) → IsFullSimplex rays fs → Each IsPrimitive fs → Each (IsNormalForm (length rays) rays) fs
forms_are_normal rays fs s primitive =
    let w = length rays in
    let ps = paired fs rays in
    let vs : vectors_of ps ≡ rays = vectors_of_pairs fs rays s in
    let gs : map (λ (p : Pair). p.form) ps ≡ fs = forms_of_pairs fs rays s in
    let free : IsIndependent w rays = subst (λ (us : List Vector). IsIndependent w us) vs (dual_independent w ps s.dual) in
    let duals = dual_forms_from w rays [] ps (sym vs) (λ j o. no_other_column w rays j (span_all fs rays s) o) s.dual.widths s.dual.dual (map_each (λ (p : Pair). p.form) IsPrimitive ps (subst (Each IsPrimitive) (sym gs) primitive)) (nothing_before ps) in
    subst (Each (IsNormalForm w rays)) gs (each_of_map (λ (p : Pair). p.form) (IsNormalForm w rays) ps (each_map (λ (p : Pair). IsDualForm w rays p.vector p.form) (λ (p : Pair). IsNormalForm w rays p.form) ps
    (λ p d. record { vectors = rays; of_list = Each-from_contains (Contains rays) rays (λ u c. c); independent = free; kind = inl (p.vector, d) }) duals))

-- ---- what is too large
above_abs : (h : ℤ) (m : ℕ) → unsigned_abs h < m → h <ℤ pos m
above_abs (pos n) m l = omega (arith, ints, l)
above_abs (negsuc n) m l = omega (arith, ints)

module _ (rows rays : List Vector) (s : IsFullSimplex rays rows) where
  walked_named : (x : Vector) → IsNamed rays x → IsStartVector (length rays) rows rays x
  walked_named x (inl p) = inl (point_listed rows rays s x p)
  walked_named x (inr (inl c)) = inl (inl c)
  walked_named x (inr (inr f)) = inr f

  walked_form : (fs : List Vector) (f : Vector) → AllZip IsPrimitivePart rows fs → Contains fs f → IsStartForm (length rays) rows rays f
  walked_form fs f z c = inr (Each-contains (IsNormalForm (length rays) rays) fs f (forms_are_normal rays fs (primitive_simplex rows rays fs s z) (parts_primitive rows fs rays s.one_each z s.dual.dual)) c)

  walked_large : (h : ℤ) (fs : List Vector) → AllZip IsPrimitivePart rows fs → IsTooLarge (unsigned_abs h) rays fs → IsStartTooLarge h (length rays) rows rays
  walked_large h fs z (inl (x, (n, l))) = inl (record { vector = x; named = inl (walked_named x n); large = above_abs h (measure x) l })
  walked_large h fs z (inr (inl (f, (c, l)))) = inl (record { vector = f; named = inr (walked_form fs f z c); large = above_abs h (measure f) l })
  walked_large h fs z (inr (inr (f, x, (c, n, l)))) = inr (record { form = f; vector = x; is_form = walked_form fs f z c; named = walked_named x n; large = above_abs h (pair_measure f x) l })

  pub walk_refused : (h : ℤ) (limit : ℕ) (fs : List Vector) → AllZip IsPrimitivePart rows fs → (work : Work) → IsRefusal (unsigned_abs h) limit rays fs work → IsStartRefusal h limit (length rays) rows rays work
  walk_refused h limit fs z (Range told) r = (r.0, walked_large h fs z r.1)
  walk_refused h limit fs z TooMany r = record { witnesses = r.witnesses; different = r.different; only = each_map (IsPoint (length rays) rays) (IsStartCandidate (length rays) rows rays) r.witnesses (λ v p. point_listed rows rays s v p) r.only; more = r.more }
  walk_refused h limit fs z (Stopped stage) r = r
  walk_refused h limit fs z NoMemory r = tt

  pub forms_refused : (h : ℤ) (limit : ℕ) (refusal : Num) (work : Work) → (refusal ≡ num.Range → SomeLarge h (Contains rows)) → IsWorkOf refusal work → IsStartRefusal h limit (length rays) rows rays work
  forms_refused h limit refusal (Range told) f w = let l = f w.0 in (w.1, inl (record { vector = l.vector; named = inr (inl l.named); large = l.large }))
  forms_refused h limit refusal TooMany f w = absurd w
  forms_refused h limit refusal (Stopped stage) f w = w
  forms_refused h limit refusal NoMemory f w = tt

  pub reducing_refused : (h : ℤ) (fits : ℤ → Type 0) → HasRoom h fits → (limit : ℕ) (candidates : List Vector) → AreCandidates rays candidates → (refusal : Num) (work : Work) → (refusal ≡ num.Range → HasValueOutside fits rows candidates) → IsWorkOf refusal work → IsStartRefusal h limit (length rays) rows rays work
  reducing_refused h fits room limit candidates a refusal (Range told) f w = let o = f w.0 in (w.1, inr (record { form = o.form; vector = o.vector; is_form = inl o.of_forms; named = inl (candidate_named rows rays s candidates a o.vector o.of_vectors); large = value_cause h fits room o.form o.vector o.outside }))
  reducing_refused h fits room limit candidates a refusal TooMany f w = absurd w
  reducing_refused h fits room limit candidates a refusal (Stopped stage) f w = w
  reducing_refused h fits room limit candidates a refusal NoMemory f w = tt

pub start_no_memory : (h : ℤ) (limit w : ℕ) (rows rays : List Vector) (work : Work) → work ≡ NoMemory → IsStartRefusal h limit w rows rays work
start_no_memory h limit w rows rays work e = subst (IsStartRefusal h limit w rows rays) (sym e) tt

-- ---- a divisor that is no value
itself : (x : Vector) → plus (scaled (pos 1) x) (scaled (pos 0) x) ≡ x
itself [] = refl
itself (a ∷ x) = ap₂ (λ s t. s ∷ t) (omega (arith, sums, one-mul a, zero-*ℤ a)) (itself x)

pub divisor_large : (h : ℤ) (fits : ℤ → Type 0) → HasRoom h fits → (x : Vector) → ((d : ℤ) → HasGcd x d → ¬ fits d) → h <ℤ pos (measure x)
divisor_large h fits r x n =
    let s = gcd_of x in
    let g : HasGcd x s.g = record { nonneg = s.is.nonneg; divides = s.is.divides; greatest = λ k m. common_divides_gcd k s.g x s.is m } in
    let low = r.at_least in
    ⊎_elim
    (λ (l : pos (measure x) ≤ℤ h). absurd (n s.g g (gcd_fits h fits r (pos 1) x (pos 0) x (omega (arith, ints, low), omega (arith, ints, low)) (omega (arith, ints, low), omega (arith, ints, low)) l l s.g (subst (λ (y : Vector). HasGcd y s.g) (sym (itself x)) g))))
    (λ l. l)
    (or_large h (measure x))
