-- A good cover in coordinates of an independent base is one of the vectors with these coordinates.
use Rattle.std.proofs.Common.{◌≡◌, ℕ, zero, suc, ◌<◌, List, [], ◌∷◌, length, map, get_or, pos, ◌≤ℤ◌, ◌<ℤ◌, Contains, refl, sym, ap, ap₂, subst, arith}
use Rattle.std.proofs.lemmas.List.{length-map}
use Rattle.std.proofs.lemmas.List.Elements.{Contains-get_or}
use Rattle.std.specs.List.{AllByRecursion as Each}
use Rattle.nz_spec.specs.Vectors.{Vector, combination, HasWidth, IsZero}
use Rattle.nz_spec.specs.Sums.{IsInside}
use Rattle.nz_spec.specs.Covers.{vectors_at, IsSimplex, IsGoodCover, Holds}
use Rattle.nz_spec.proofs.ListLaws.{Each-contains}
use Rattle.nz_linear.specs.Coordinates.{AreCoordinates}
use Rattle.nz_linear.proofs.Lists.{each_map}
use Rattle.nz_linear.proofs.SumCoordinates as sums

get_mapped : (f : Vector → Vector) (xs : List Vector) (p : ℕ) → p < length xs → get_or (map f xs) p [] ≡ f (get_or xs p [])
get_mapped f [] p h = absurd (let b : ⊥ = omega (arith, h) in b)
get_mapped f (x ∷ xs) zero h = refl
get_mapped f (x ∷ xs) (suc p) h = get_mapped f xs p (omega (arith, h))

none_mapped : (f : Vector → Vector) (xs : List Vector) → map f xs ≡ [] → xs ≡ []
none_mapped f [] e = refl
none_mapped f (x ∷ xs) e = absurd (let l = ap length e in let b : ⊥ = omega (arith, l) in b)

pub vectors_mapped : (f : Vector → Vector) (xs : List Vector) (places : List ℕ) → Each (λ p. p < length xs) places → vectors_at (map f xs) places ≡ map f (vectors_at xs places)
vectors_mapped f xs [] h = refl
vectors_mapped f xs (p ∷ places) h = ap₂ (λ v vs. v ∷ vs) (get_mapped f xs p h.0) (vectors_mapped f xs places h.1)

has_place : (xs : List Vector) (p : ℕ) → p < length xs → Contains xs (get_or xs p [])
has_place xs p h = Contains-get_or xs p [] h

pub vectors_wide : (n : ℕ) (xs : List Vector) (places : List ℕ) → Each (HasWidth n) xs → Each (λ p. p < length xs) places → Each (HasWidth n) (vectors_at xs places)
vectors_wide n xs [] l h = tt
vectors_wide n xs (p ∷ places) l h = (Each-contains (HasWidth n) xs (get_or xs p []) l (has_place xs p h.0), vectors_wide n xs places l h.1)

pub vectors_listed : (xs : List Vector) (places : List ℕ) → Each (λ p. p < length xs) places → Each (Contains xs) (vectors_at xs places)
vectors_listed xs [] h = tt
vectors_listed xs (p ∷ places) h = (has_place xs p h.0, vectors_listed xs places h.1)

module _ (w : ℕ) (base : List Vector) (Member Coordinates : Vector → Type 0) (k : AreCoordinates w base Member Coordinates) where
  abbrev at : Vector → Vector
  at c = combination w c base

  simplex_forth : (cs : List Vector) (places : List ℕ) → Each (HasWidth (length base)) cs → IsSimplex (length base) cs places → IsSimplex w (map at cs) places
  simplex_forth cs places l s =
      let within = s.within in
      record {
        in_order = s.in_order;
        within = each_map (λ p. p < length cs) (λ p. p < length (map at cs)) places (λ p h. let e = length-map cs at in omega (arith, h, e)) within;
        independent = rw (vectors_mapped at cs places within) (sums.independent_forth w base k.widths k.independent (vectors_at cs places) (vectors_wide (length base) cs places l within) s.independent);
        full = sums.rank_forth w base k.widths k.independent cs (length places) l s.full;
      }

  inside_back : (cs : List Vector) (places : List ℕ) (c : Vector) → Each (HasWidth (length base)) cs → Each (λ p. p < length cs) places → HasWidth (length base) c → IsInside w (vectors_at (map at cs) places) (at c) → IsInside (length base) (vectors_at cs places) c
  inside_back cs places c l h lc i = sums.sum_back w base k.widths k.independent (λ m f. pos 0 <ℤ f) (vectors_at cs places) c (vectors_wide (length base) cs places l h) lc (subst (λ vs. IsInside w vs (at c)) (vectors_mapped at cs places h) i)

  pub cover_forth : (cs : List Vector) (cover : List (List ℕ)) → Each (HasWidth (length base)) cs → IsGoodCover (length base) Coordinates cs cover → IsGoodCover w Member (map at cs) cover
  cover_forth cs cover l good =
      let inside : (places : List ℕ) → Contains cover places → Each (λ p. p < length cs) places = λ places c. (Each-contains (IsSimplex (length base) cs) cover places good.simplices c).within in
      record {
        in_order = good.in_order;
        simplices = each_map (IsSimplex (length base) cs) (IsSimplex w (map at cs)) cover (λ places s. simplex_forth cs places l s) good.simplices;
        covers = λ x m n.
            let r = k.back x m in
            let lc = k.one_each r.0 r.1 in
            let h = good.covers r.0 r.1 (λ z. n (subst IsZero r.2 (sums.at_zero w base k.widths k.independent r.0 lc z))) in
            let i = inside h.0 h.1 in
            (h.0, h.1, subst (λ v. Holds w (map at cs) v h.0) r.2 (rw (vectors_mapped at cs h.0 i) (sums.sum_forth w base k.widths k.independent (λ m c. pos 0 ≤ℤ c) (vectors_at cs h.0) r.0 (vectors_wide (length base) cs h.0 l i) h.2)));
        no_overlap = λ p q cp cq ne x m ip iq.
            let r = k.back x m in
            good.no_overlap p q cp cq ne r.0 r.1 (inside_back cs p r.0 l (inside p cp) (k.one_each r.0 r.1) (subst (IsInside w (vectors_at (map at cs) p)) (sym r.2) ip)) (inside_back cs q r.0 l (inside q cq) (k.one_each r.0 r.1) (subst (IsInside w (vectors_at (map at cs) q)) (sym r.2) iq));
        none = λ e. good.none (none_mapped at cs e);
      }
