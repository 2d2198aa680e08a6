-- The lexicographic order of lists of values is that of their integers.
use Rattle.std.proofs.Common.{◌≡◌, List, [], ◌∷◌, length, map, ℤ, refl, sym, ap, ◌∙◌, subst, arith, inl, inr}
use Rattle.std.specs.Prelude.{◌<ℤ◌}
use Rattle.std.specs.Ordering.{MatchOrdering, int_cmp, ordering_then}
use Rattle.std.specs.Cmp.Lexicographic.{slice_cmp}
use Rattle.std.specs.declared.cmp.Ordering.{Ordering}
use Rattle.std.specs.declared.cmp.Ordering.TheVariants.{Less, Equal, Greater}
use Rattle.std.proofs.lemmas.Cmp.{int_ranked}
use Rattle.std.proofs.lemmas.List.{length-map}
use Rattle.nz_spec.specs.Vectors.{Vector}
use Rattle.nz_vec.specs.Comparisons.{Compares}

compares_equal : (x y : ℤ) (u v : Vector) (o : Ordering) → x ≡ y → Compares u v o → Compares (x ∷ u) (y ∷ v) o
compares_equal x y u v Less e h = inr (e, h)
compares_equal x y u v Equal e h = cc
compares_equal x y u v Greater e h = inr (sym e, h)

compares_more : (x y : ℤ) (u v : Vector) (o p : Ordering) → MatchOrdering o (x <ℤ y) (x ≡ y) (y <ℤ x) → Compares u v p → Compares (x ∷ u) (y ∷ v) (ordering_then o p)
compares_more x y u v Less p h k = inl h
compares_more x y u v Equal p h k = compares_equal x y u v p h k
compares_more x y u v Greater p h k = inl h

-- lists of one length, compared by an order that is that of the integers
compares_slices : {T : Type 0} (int : T → ℤ) (cmp : T → T → Ordering) → ((a b : T) → cmp a b ≡ int_cmp (int a) (int b)) → (us vs : List T) → length us ≡ length vs → Compares (map int us) (map int vs) (slice_cmp cmp us vs)
compares_slices int cmp ordered [] [] e = refl
compares_slices int cmp ordered [] (y ∷ vs) e = absurd (omega arith)
compares_slices int cmp ordered (x ∷ us) [] e = absurd (omega arith)
compares_slices int cmp ordered (x ∷ us) (y ∷ vs) e = compares_more (int x) (int y) (map int us) (map int vs) (cmp x y) (slice_cmp cmp us vs) (int_ranked (int x) (int y) (cmp x y) (ordered x y)) (compares_slices int cmp ordered us vs (omega arith))

-- at equal degrees the entries decide
pub compares_entries : {T : Type 0} (int : T → ℤ) (cmp : T → T → Ordering) → ((a b : T) → cmp a b ≡ int_cmp (int a) (int b)) → (d e : T) (us vs ps qs : List T) (u v : Vector) (o : Ordering) → map int us ≡ u → map int vs ≡ v → length u ≡ length v → ps ≡ us → qs ≡ vs → Equal ≡ cmp d e → o ≡ slice_cmp cmp ps qs → Compares (int d ∷ u) (int e ∷ v) o
compares_entries int cmp ordered d e us vs ps qs u v o hu hv l hp hq equal is =
    let lengths : length us ≡ length vs = sym (length-map us int) ∙ ap length hu ∙ l ∙ sym (ap length hv) ∙ length-map vs int in
    let all = compares_slices int cmp ordered us vs lengths in
    let same : o ≡ slice_cmp cmp us vs = is ∙ ap (λ (xs : List _). slice_cmp cmp xs qs) hp ∙ ap (slice_cmp cmp us) hq in
    let first = compares_equal (int d) (int e) (map int us) (map int vs) (slice_cmp cmp us vs) (int_ranked (int d) (int e) Equal (equal ∙ ordered d e)) all in
    subst (λ (p : Ordering). Compares (int d ∷ u) (int e ∷ v) p) (sym same)
    (subst (λ (y : Vector). Compares (int d ∷ u) (int e ∷ y) (slice_cmp cmp us vs)) hv
    (subst (λ (y : Vector). Compares (int d ∷ y) (int e ∷ map int vs) (slice_cmp cmp us vs)) hu first))
