-- Vectors sorted by keys, which are the values of forms and then the entries.
use Rattle.std.proofs.Common.{◌≡◌, ◌≢◌, ◌⊎◌, inl, inr, ⊎_elim, ℕ, zero, suc, ◌+◌, List, [], ◌∷◌, ◌++◌, length, map, drop, None, ℤ, pos, Contains, refl, sym, ap, ap₂, ◌∙◌, subst, arith}
use Rattle.std.proofs.lemmas.List.{length-map, length-append}
use Rattle.std.proofs.lemmas.Int.{ints}
use Rattle.std.specs.List.{AllByRecursion as Each}
use Rattle.std.specs.List.Sorted.{IsPermutation}
use Rattle.std.proofs.lemmas.List.Sorted.{Contains-permutation, IsPermutation-sym}
use Rattle.nz_spec.specs.Vectors.{Vector, dot, minus, values_at, HasWidth}
use Rattle.nz_spec.specs.Order.{Pairwise, IsLexBefore, IsListOf}
use Rattle.nz_spec.proofs.ListLaws.{Each-contains, Each-from_contains, IsLexBefore-asymmetric}
use Rattle.nz_spec.proofs.VectorLaws.{dot-minus, length-minus}
use Rattle.nz_spec.proofs.PrimitiveLaws.{same_of_zero_minus}
use Rattle.nz_linear.proofs.Lists.{each_map, each_map2, each_of_map}
use Rattle.nz_degree.specs.Degrees.{IsInOrder}
use Rattle.nz_degree.proofs.ElementLaws.{sorted_is_list}
use Rattle.nz_primal.specs.Lists.{AreSeparating, IsBeforeBy}
use Rattle.nz_primal.specs.Parts.{keyed}
use Rattle.nz_linear.proofs.SumCoordinates.{image_of, mapped_has}

drop_append : {A : Type 0} (xs ys : List A) (n : ℕ) → length xs ≡ n → drop n (xs ++ ys) ≡ ys
drop_append [] ys zero e = refl
drop_append [] ys (suc n) e = absurd (let b : ⊥ = omega (arith, e) in b)
drop_append (x ∷ xs) ys zero e = absurd (let b : ⊥ = omega (arith, e) in b)
drop_append (x ∷ xs) ys (suc n) e = drop_append xs ys n (omega (arith, e))

pub drop_key : (order : List Vector) (x : Vector) → drop (length order) (keyed order x) ≡ x
drop_key order x = drop_append (values_at order x) x (length order) (length-map order (λ f. dot f x))

pub key_width : (order : List Vector) (w : ℕ) (x : Vector) → HasWidth w x → length (keyed order x) ≡ length order + w
key_width order w x l = length-append (values_at order x) x ∙ ap₂ (λ m n. m + n) (length-map order (λ f. dot f x)) l

-- the first parts decide, or they are the same and the second parts decide
lex_parts : (u v x y : Vector) → length u ≡ length v → IsLexBefore (u ++ x) (v ++ y) → IsLexBefore u v ⊎ ((u ≡ v) × IsLexBefore x y)
lex_parts [] [] x y e b = inr (refl, b)
lex_parts [] (c ∷ v) x y e b = absurd (let k : ⊥ = omega (arith, e) in k)
lex_parts (a ∷ u) [] x y e b = absurd (let k : ⊥ = omega (arith, e) in k)
lex_parts (a ∷ u) (c ∷ v) x y e b = elim b [
  | inl l ↦ inl (inl l)
  | inr r ↦ ⊎_elim (λ k. inl (inr (r.0, k))) (λ k. inr (cc2 r.0 k.0, k.1)) (lex_parts u v x y (omega (arith, e)) r.1)
]
  where
    cc2 : {a c : ℤ} {u v : Vector} → a ≡ c → u ≡ v → (a ∷ u) ≡ (c ∷ v)
    cc2 p q = ap₂ (λ s t. s ∷ t) p q

values_differ : (order : List Vector) (x y : Vector) → length x ≡ length y → values_at order x ≡ values_at order y → Each (λ f. dot f (minus x y) ≡ pos 0) order
values_differ [] x y l e = tt
values_differ (f ∷ order) x y l e = (
  (let h = ap (λ (v : Vector). head_of v) e in let d = dot-minus f x y l in omega (arith, ints, h, d)),
  values_differ order x y l (ap (λ (v : Vector). tail_of v) e),
)
  where
    head_of : Vector → ℤ
    head_of [] = pos 0
    head_of (a ∷ v) = a

    tail_of : Vector → Vector
    tail_of [] = []
    tail_of (a ∷ v) = v

pub separated : (w : ℕ) (order : List Vector) (x y : Vector) → AreSeparating w order → HasWidth w x → HasWidth w y → values_at order x ≡ values_at order y → x ≡ y
separated w order x y s lx ly e = same_of_zero_minus x y (lx ∙ sym ly) (s.only_zero (minus x y) (length-minus x y (lx ∙ sym ly) ∙ lx) (values_differ order x y (lx ∙ sym ly) e))

before_of_keys : (w : ℕ) (order : List Vector) (x y : Vector) → AreSeparating w order → HasWidth w x → HasWidth w y → IsLexBefore (keyed order x) (keyed order y) → IsBeforeBy order x y
before_of_keys w order x y s lx ly b = elim (lex_parts (values_at order x) (values_at order y) x y (length-map order (λ f. dot f x) ∙ sym (length-map order (λ f. dot f y))) b) [
  | inl l ↦ l
  | inr r ↦ (let e = separated w order x y s lx ly r.0 in absurd (let l = subst (λ z. IsLexBefore z y) e r.1 in IsLexBefore-asymmetric y y l l))
]

pairwise_mapped : {A B : Type 0} (R : A → A → Type 0) (S : B → B → Type 0) (P : A → Type 0) (f : A → B) → ((x y : A) → P x → P y → R x y → S (f x) (f y)) → (xs : List A) → Each P xs → Pairwise R xs → Pairwise S (map f xs)
pairwise_mapped R S P f h [] p r = tt
pairwise_mapped R S P f h (x ∷ xs) p r = (each_of_map f (S (f x)) xs (each_map2 P (R x) (λ y. S (f x) (f y)) xs (λ y q k. h x y p.0 q k) p.1 r.0), pairwise_mapped R S P f h xs p.1 r.1)

keys_differ : (w : ℕ) (order xs : List Vector) → Pairwise ◌≢◌ xs → Pairwise ◌≢◌ (map (keyed order) xs)
keys_differ w order xs d = pairwise_mapped ◌≢◌ ◌≢◌ (λ x. Unit {0}) (keyed order) (λ x y p q n e. n (sym (drop_key order x) ∙ ap (drop (length order)) e ∙ drop_key order y)) xs (all xs) d
  where
    all : (xs : List Vector) → Each (λ x. Unit {0}) xs
    all [] = tt
    all (x ∷ xs) = (tt, all xs)

pub keys_wide : (w : ℕ) (order xs : List Vector) → Each (HasWidth w) xs → Each (λ k. length k ≡ length order + w) (map (keyed order) xs)
keys_wide w order xs l = each_of_map (keyed order) (λ k. length k ≡ length order + w) xs (each_map (HasWidth w) (λ x. length (keyed order x) ≡ length order + w) xs (λ x h. key_width order w x h) l)

-- what sorted keys leave
pub sorted_by_keys : (w : ℕ) (order xs keys sorted : List Vector) → AreSeparating w order → Each (HasWidth w) xs → Pairwise ◌≢◌ xs → keys ≡ map (keyed order) xs → IsPermutation keys sorted → IsInOrder None sorted → IsListOf (IsBeforeBy order) (Contains xs) (map (drop (length order)) sorted)
sorted_by_keys w order xs keys sorted s l d e moved in_order =
    let ks = map (keyed order) xs in
    let lk : Each (HasWidth (length order + w)) ks = keys_wide w order xs l in
    let h = sorted_is_list (length order + w) None ks sorted lk (keys_differ w order xs d) (subst (λ (v : List Vector). IsPermutation v sorted) e moved) in_order in
    record {
      in_order = pairwise_mapped IsLexBefore (IsBeforeBy order) (Contains ks) (drop (length order))
          (λ u v cu cv b.
          let p = image_of (keyed order) xs u cu in
          let q = image_of (keyed order) xs v cv in
          let x = p.source in
          let y = q.source in
          let lx = Each-contains (HasWidth w) xs x l p.has in
          let ly = Each-contains (HasWidth w) xs y l q.has in
          let b' : IsLexBefore (keyed order x) (keyed order y) = subst (λ z. IsLexBefore z (keyed order y)) (sym p.same) (subst (IsLexBefore u) (sym q.same) b) in
          subst (λ z. IsBeforeBy order z (drop (length order) v)) (sym (drop_key order x) ∙ ap (drop (length order)) p.same) (subst (IsBeforeBy order x) (sym (drop_key order y) ∙ ap (drop (length order)) q.same) (before_of_keys w order x y s lx ly b')))
          sorted h.only h.in_order;
      only = each_of_map (drop (length order)) (Contains xs) sorted (each_map (Contains ks) (λ u. Contains xs (drop (length order) u)) sorted (λ u c. let p = image_of (keyed order) xs u c in subst (Contains xs) (sym (drop_key order p.source) ∙ ap (drop (length order)) p.same) p.has) h.only);
      each = λ x c. subst (Contains (map (drop (length order)) sorted)) (drop_key order x) (mapped_has (drop (length order)) sorted (keyed order x) (h.each (keyed order x) (mapped_has (keyed order) xs x c)));
    }

pub sorted_keys_wide : (w n : ℕ) (order xs keys sorted : List Vector) → n ≡ length order → Each (HasWidth w) xs → keys ≡ map (keyed order) xs → IsPermutation keys sorted → Each (λ k. length k ≡ n + w) sorted
sorted_keys_wide w n order xs keys sorted en l e moved =
    Each-from_contains (λ k. length k ≡ n + w) sorted (λ k c.
    let h = Each-contains (λ k. length k ≡ length order + w) (map (keyed order) xs) k (keys_wide w order xs l) (subst (λ (v : List Vector). Contains v k) e (Contains-permutation sorted keys k (IsPermutation-sym keys sorted moved) c)) in
    h ∙ ap (λ m. m + w) (sym en))

pub sorted_rows : (w n : ℕ) (order xs keys sorted rows : List Vector) → n ≡ length order → AreSeparating w order → Each (HasWidth w) xs → Pairwise ◌≢◌ xs → keys ≡ map (keyed order) xs → IsPermutation keys sorted → IsInOrder None sorted → rows ≡ map (drop n) sorted → IsListOf (IsBeforeBy order) (Contains xs) rows
sorted_rows w n order xs keys sorted rows en s l d e moved o h =
    subst (IsListOf (IsBeforeBy order) (Contains xs)) (sym (h ∙ ap (λ m. map (drop m) sorted) en)) (sorted_by_keys w order xs keys sorted s l d e moved o)
