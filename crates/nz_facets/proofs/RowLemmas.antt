-- The facet rows: two for each column, and the generators after them.
use Rattle.std.proofs.Common.{◌≡◌, ℕ, zero, suc, ◌+◌, ◌<◌, ◌≤◌, List, [], ◌∷◌, ◌++◌, length, get_or, take, ℤ, pos, negsuc, ◌<ℤ◌, refl, sym, ap, ◌∙◌, subst, arith, append_assoc}
use Rattle.std.specs.Prelude.{unsigned_abs}
use Rattle.std.proofs.lemmas.Int.{ints}
use Rattle.std.proofs.lemmas.List.{take_more}
use Rattle.nz_spec.specs.Vectors.{Vector, scaled, opposite, zero_vector}
use Rattle.nz_linear.specs.Echelon.{unit_at}
use Rattle.nz_linear.specs.Facets.{facet_rows}
use Rattle.nz_scalar.specs.Room.{HasRoom}
use Rattle.nz_range.specs.Measures.{measure}
use Rattle.nz_pointed.proofs.SignLemmas.{opposite_scaled}

-- ---- a unit form is small
zero_measure : (n : ℕ) → measure (zero_vector n) ≡ 0
zero_measure zero = refl
zero_measure (suc n) = let e = zero_measure n in let z : unsigned_abs (pos 0) ≡ 0 = refl in omega (arith, e, z)

unit_measure : (w c : ℕ) → measure (unit_at w c) ≤ 1
unit_measure zero c = omega arith
unit_measure (suc w) zero = let e = zero_measure w in let o : unsigned_abs (pos 1) ≡ 1 = refl in omega (arith, e, o)
unit_measure (suc w) (suc c) = let l = unit_measure w c in let z : unsigned_abs (pos 0) ≡ 0 = refl in omega (arith, l, z)

pub unit_small : (h : ℤ) (fits : ℤ → Type 0) (w c : ℕ) (u : Vector) → HasRoom h fits → u ≡ unit_at w c → h <ℤ pos (measure u) → ⊥
unit_small h fits w c u room e l =
    let m = subst (λ v. measure v ≤ 1) (sym e) (unit_measure w c) in
    let k = room.at_least in
    omega (arith, ints, m, k, l)

-- ---- one column
pub two_more : (rows first second : List Vector) (row other unit : Vector) → row ≡ unit → other ≡ opposite row → first ≡ rows ++ (row ∷ []) → second ≡ first ++ (other ∷ []) → second ≡ rows ++ (unit ∷ scaled (negsuc 0) unit ∷ [])
two_more rows first second row other unit er eo ef es =
    es ∙ ap (λ t. t ++ (other ∷ [])) ef ∙ append_assoc rows (row ∷ []) (other ∷ []) ∙ ap (λ u. rows ++ (u ∷ other ∷ [])) er ∙ ap (λ u. rows ++ (unit ∷ u ∷ [])) (eo ∙ ap opposite er ∙ opposite_scaled unit)

facet_push : (w : ℕ) (columns : List ℕ) (c : ℕ) → facet_rows w (columns ++ (c ∷ [])) [] ≡ facet_rows w columns [] ++ (unit_at w c ∷ scaled (negsuc 0) (unit_at w c) ∷ [])
facet_push w [] c = refl
facet_push w (d ∷ columns) c = ap (λ t. unit_at w d ∷ scaled (negsuc 0) (unit_at w d) ∷ t) (facet_push w columns c)

pub units_more : (w : ℕ) (columns : List ℕ) (i c : ℕ) (rows more : List Vector) → i < length columns → c ≡ get_or columns i 0 → rows ≡ facet_rows w (take i columns) [] → more ≡ rows ++ (unit_at w c ∷ scaled (negsuc 0) (unit_at w c) ∷ [])
    → more ≡ facet_rows w (take (i + 1) columns) []
units_more w columns i c rows more l e r m =
    m ∙ ap (λ t. t ++ (unit_at w c ∷ scaled (negsuc 0) (unit_at w c) ∷ [])) r ∙ sym (facet_push w (take i columns) c) ∙ ap (λ t. facet_rows w t []) (ap (λ k. take i columns ++ (k ∷ [])) e ∙ sym (take_more columns i 0 l))

-- ---- the generators after them
facet_joined : (w : ℕ) (columns : List ℕ) (G : List Vector) → facet_rows w columns [] ++ G ≡ facet_rows w columns G
facet_joined w [] G = refl
facet_joined w (c ∷ columns) G = ap (λ t. unit_at w c ∷ scaled (negsuc 0) (unit_at w c) ∷ t) (facet_joined w columns G)

pub gens_joined : (w : ℕ) (columns : List ℕ) (G rows all : List Vector) → rows ≡ facet_rows w columns [] → all ≡ rows ++ G → all ≡ facet_rows w columns G
gens_joined w columns G rows all r a = a ∙ ap (λ t. t ++ G) r ∙ facet_joined w columns G
