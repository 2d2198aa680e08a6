-- The first row of degree 0 or less, among those up to a place.
use Rattle.std.proofs.Common.{◌≡◌, ℕ, ◌+◌, ◌<◌, inl, inr, List, [], ◌∷◌, length, get_or, ℤ, pos, ◌≤ℤ◌, ◌<ℤ◌, Some, refl, sym, ap, ◌∙◌, subst, arith, below_more}
use Rattle.std.specs.Prelude.{MatchBool}
use Rattle.std.specs.Ordering.{is_lt}
use Rattle.std.specs.declared.cmp.Ordering.{Ordering}
use Rattle.std.specs.declared.cmp.Ordering.TheVariants.{Less, Equal, Greater}
use Rattle.std.proofs.lemmas.Int.{ints, by_lt_z}
use Rattle.std.specs.List.{AllByRecursion as Each}
use Rattle.nz_spec.specs.Vectors.{Vector, HasWidth}
use Rattle.nz_spec.specs.Order.{degree, StandsBefore, IsLexBefore}
use Rattle.nz_spec.proofs.ListLaws.{Each-contains, each_at, contains_at}
use Rattle.nz_order.proofs.OrderLaws.{lex_irreflexive, lex_transitive, stands_irreflexive, stands_transitive, stands_cases}
use Rattle.nz_vec.specs.Comparisons.{Compares}
use Rattle.nz_degree.specs.Positivities.{Tells, ComesFirst, IsFoundIn}
use Rattle.nz_degree.specs.declared.positivity.Positivity.{Positivity}
use Rattle.nz_degree.specs.declared.positivity.Positivity.TheVariants.{Positive, NotPositive}
use Rattle.nz_degree.proofs.DegreeLists.{each_from}

-- a comparison tells whether the one is before the other
pub before_or_not : (x y : Vector) (o : Ordering) → Compares x y o → MatchBool (is_lt o) (IsLexBefore x y) (¬ IsLexBefore x y)
before_or_not x y Less h = h
before_or_not x y Equal e = λ b. lex_irreflexive y (subst (λ (v : Vector). IsLexBefore v y) e b)
before_or_not x y Greater h = λ b. lex_irreflexive x (lex_transitive x y x b h)

-- the row at p is of degree 0 or less, and no such row before place k stands before it
pub record IsLeastBelow (grading : Vector) (list : List Vector) (k p : ℕ) : Type 0 where
  pub inside : p < k
  pub not_positive : degree grading (get_or list p []) ≤ℤ pos 0
  pub none : (j : ℕ) → j < k → degree grading (get_or list j []) ≤ℤ pos 0 → ¬ StandsBefore (Some grading) (get_or list j []) (get_or list p [])

-- what is found among the rows before place k, with its degree
abbrev pub Finds : Vector → List Vector → ℕ → Positivity → ℤ → Type 0
Finds grading list k Positive least = (j : ℕ) → j < k → pos 0 <ℤ degree grading (get_or list j [])
Finds grading list k (NotPositive p) least = IsLeastBelow grading list k p × (least ≡ degree grading (get_or list p []))

pub found_in : (grading : Vector) (list : List Vector) (k : ℕ) (found : Positivity) (least : ℤ) (row : Vector) → Each (HasWidth (length grading)) list → k < length list → row ≡ get_or list k [] → Finds grading list k found least → IsFoundIn (length row) list found
found_in grading list k Positive least row wide l e f = tt
found_in grading list k (NotPositive p) least row wide l e f =
    let inside : p < length list = omega (arith, l, f.0.inside) in
    (inside, each_at (HasWidth (length grading)) list p [] wide inside ∙ sym (ap length e ∙ each_at (HasWidth (length grading)) list k [] wide l))

-- no element of a list up to k + 1, from none up to k and not the last
step : (P : ℕ → Type 0) (k j : ℕ) → ((i : ℕ) → i < k → P i) → P k → j < k + 1 → P j
step P k j h p l = below_more P k h p j l

module _ (grading : Vector) (list : List Vector) (k : ℕ) where
  row : Vector
  row = get_or list k []

  -- the row at k comes first of all so far
  pub found_more : (found : Positivity) (least : ℤ) → Finds grading list k found least → ComesFirst list found least (degree grading (get_or list k [])) (get_or list k []) → Finds grading list (k + 1) (NotPositive k) (degree grading (get_or list k []))
  found_more Positive least f h = (
    record {
      inside = omega arith;
      not_positive = h;
      none = λ j l. step (λ i. degree grading (get_or list i []) ≤ℤ pos 0 → ¬ StandsBefore (Some grading) (get_or list i []) (get_or list k [])) k j
          (λ i m d b. let p = f i m in omega (arith, ints, p, d)) (λ d b. stands_irreflexive (Some grading) (get_or list k []) b) l;
    },
    refl,
  )
  found_more (NotPositive p) least f h =
      let before : StandsBefore (Some grading) (get_or list k []) (get_or list p []) = subst (λ (z : ℤ). IsLexBefore (degree grading (get_or list k []) ∷ get_or list k []) (z ∷ get_or list p [])) f.1 h in (
        record {
          inside = omega arith;
          not_positive = at_most (get_or list k []) (get_or list p []) before f.0.not_positive;
          none = λ j l. step (λ i. degree grading (get_or list i []) ≤ℤ pos 0 → ¬ StandsBefore (Some grading) (get_or list i []) (get_or list k [])) k j
              (λ i m d b. f.0.none i m d (stands_transitive (Some grading) (get_or list i []) (get_or list k []) (get_or list p []) b before))
              (λ d b. stands_irreflexive (Some grading) (get_or list k []) b) l;
        },
        refl,
      )
    where
      at_most : (x y : Vector) → StandsBefore (Some grading) x y → degree grading y ≤ℤ pos 0 → degree grading x ≤ℤ pos 0
      at_most x y (inl b) n = omega (arith, ints, b, n)
      at_most x y (inr b) n = subst (λ (z : ℤ). z ≤ℤ pos 0) (sym b.0) n

  -- it does not
  pub found_same : (found : Positivity) (least : ℤ) → Finds grading list k found least → (¬ ComesFirst list found least (degree grading (get_or list k [])) (get_or list k [])) → Finds grading list (k + 1) found least
  found_same Positive least f n = λ j l. step (λ i. pos 0 <ℤ degree grading (get_or list i [])) k j f (above (degree grading (get_or list k [])) n) l
    where
      above : (d : ℤ) → ¬ (d ≤ℤ pos 0) → pos 0 <ℤ d
      above d n = by_lt_z (pos 0) d (λ (lt : pos 0 <ℤ d). lt) (λ (le : d ≤ℤ pos 0). absurd (n le))
  found_same (NotPositive p) least f n = (
    record {
      inside = omega (arith, f.0.inside);
      not_positive = f.0.not_positive;
      none = λ j l. step (λ i. degree grading (get_or list i []) ≤ℤ pos 0 → ¬ StandsBefore (Some grading) (get_or list i []) (get_or list p [])) k j f.0.none
          (λ d b. n (subst (λ (z : ℤ). IsLexBefore (degree grading (get_or list k []) ∷ get_or list k []) (z ∷ get_or list p [])) (sym f.1) b)) l;
    },
    f.1,
  )

-- at the end of the list it is what is told
pub found_all : (grading : Vector) (list : List Vector) (k : ℕ) (found : Positivity) (least : ℤ) → Each (HasWidth (length grading)) list → k ≡ length list → Finds grading list k found least → Tells grading list found
found_all grading list k Positive least wide e f = each_from (λ x. pos 0 <ℤ degree grading x) list [] (λ j l. f j (omega (arith, l, e)))
found_all grading list k (NotPositive p) least wide e f =
    let inside : p < length list = omega (arith, f.0.inside, e) in
    record {
      inside = inside;
      first = record {
        has = record { listed = contains_at list p [] inside; not_positive = f.0.not_positive };
        before = λ y h n. elim (stands_cases (Some grading) (get_or list p []) y (each_at (HasWidth (length grading)) list p [] wide inside ∙ sym (Each-contains (HasWidth (length grading)) list y wide h.listed))) [
          | inl b ↦ b
          | inr (inl s) ↦ absurd (n (sym s))
          | inr (inr b) ↦ absurd (Each-contains (λ x. degree grading x ≤ℤ pos 0 → ¬ StandsBefore (Some grading) x (get_or list p [])) list y
              (each_from (λ x. degree grading x ≤ℤ pos 0 → ¬ StandsBefore (Some grading) x (get_or list p [])) list [] (λ j l. f.0.none j (omega (arith, l, e)))) h.listed h.not_positive b)
        ];
      };
    }
