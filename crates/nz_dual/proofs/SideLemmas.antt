-- What may be kept on a side of a row, and what is found there.
use Rattle.std.proofs.Common.{◌≡◌, ⊎_elim, List, [], ◌∷◌, ◌++◌, length, map, pos, ◌-ℤ◌, ◌≤ℤ◌, ◌<ℤ◌, neg_ℤ, Contains, sym, ◌∙◌, subst, arith}
use Rattle.std.proofs.lemmas.Int.{ints}
use Rattle.std.proofs.lemmas.List.{length-map}
use Rattle.std.proofs.lemmas.List.Elements.{Contains-append_left}
use Rattle.std.specs.List.{AllByRecursion as Each}
use Rattle.nz_spec.specs.Vectors.{Vector, dot, opposite, values_at, HasWidth, IsNonzero}
use Rattle.nz_spec.specs.Monoids.{IsPositive}
use Rattle.nz_spec.specs.Stages.{IsInStage, IsInReversed}
use Rattle.nz_spec.proofs.ListLaws.{Each-contains}
use Rattle.nz_spec.proofs.UniqueLaws.{same_or_not}
use Rattle.nz_spec.proofs.EquationLaws.{dot_comm}
use Rattle.nz_order.specs.Boxes.{IsBelow}
use Rattle.nz_order.specs.Totals.{total}
use Rattle.nz_order.proofs.RowLaws.{whole_lattice, dot-opposite, stage_wide, stage_closed, stage_zero, stage_minus}
use Rattle.nz_order.proofs.SortLaws.{Each-append, Each-front, Each-back}
use Rattle.nz_order.proofs.SearchLaws.{below_refl}
use Rattle.nz_order.proofs.SideLaws.{IsIrreducible-where}
use Rattle.nz_order.proofs.IrreducibleLaws.{not_reduced}
use Rattle.nz_order.proofs.StageInsert.{kept_above}
use Rattle.nz_reducer.specs.Tables.{NoneIsBelow}
use Rattle.nz_dual.specs.DualStages.{IsElement, IsReversedElement}
use Rattle.nz_dual.specs.Sides.{SideLists, IsSideElement, Keeps, Handles}

-- ---- value lists
pub below_of_each : (fs : List Vector) (v x : Vector) → Each (λ r. dot r v ≤ℤ dot r x) fs → IsBelow (values_at fs v) (values_at fs x)
below_of_each [] v x h = tt
below_of_each (f ∷ fs) v x h = (h.0, below_of_each fs v x h.1)

pub each_of_below : (fs : List Vector) (v x : Vector) → IsBelow (values_at fs v) (values_at fs x) → Each (λ r. dot r v ≤ℤ dot r x) fs
each_of_below [] v x h = tt
each_of_below (f ∷ fs) v x h = (h.0, each_of_below fs v x h.1)

each_of_map : (f : Vector → Vector) (P : Vector → Type 0) (xs : List Vector) → Each P (map f xs) → Each (λ x. P (f x)) xs
each_of_map f P [] h = tt
each_of_map f P (x ∷ xs) h = (h.0, each_of_map f P xs h.1)

-- none is below, so no listed one is
pub none_listed : (fs elements : List Vector) (x e : Vector) → NoneIsBelow (map (values_at fs) elements) (values_at fs x) → Contains elements e → ¬ IsBelow (values_at fs e) (values_at fs x)
none_listed fs elements x e none c = Each-contains (λ v. ¬ IsBelow (values_at fs v) (values_at fs x)) elements e (each_of_map (values_at fs) (λ v. ¬ IsBelow v (values_at fs x)) elements none) c

-- what none is below is not listed itself
pub none_same : (fs elements : List Vector) (x : Vector) → NoneIsBelow (map (values_at fs) elements) (values_at fs x) → ¬ Contains elements x
none_same fs elements x none c = none_listed fs elements x x none c (below_refl (values_at fs x))

-- ---- irreducibles of a side
pub found_same : (rows : List Vector) (last e x : Vector) → IsSideElement rows last e → IsBelow (values_at (rows ++ last ∷ []) e) (values_at (rows ++ last ∷ []) x) → IsSideElement rows last x → e ≡ x
found_same rows last e x i b j =
    let w = length last in
    let fs = rows ++ last ∷ [] in
    let lattice = whole_lattice w in
    let we = i.member.in_lattice in
    let wx = j.member.in_lattice in
    ⊎_elim (λ s. s)
    (λ n. absurd (not_reduced (IsInStage (HasWidth w) fs) (stage_closed w (HasWidth w) lattice fs) w (stage_wide w (HasWidth w) lattice fs) (stage_zero w (HasWidth w) lattice fs) x e j i.member
    (record { nonzero = i.nonzero; other = n; left = (stage_minus w (HasWidth w) lattice fs x e wx we).1 (each_of_below fs e x b) })))
    (same_or_not e x (we ∙ sym wx))

-- an irreducible of the stage so far at which the last form is at least 0 is one of its side
pub old_element : (rows : List Vector) (last v : Vector) → IsElement (length last) rows v → pos 0 ≤ℤ dot last v → IsSideElement rows last v
old_element rows last v i p =
    let S : Vector → Type 0 = IsInStage (HasWidth (length last)) rows in
    let front : (x : Vector) → IsInStage (HasWidth (length last)) (rows ++ last ∷ []) x → S x = λ x m. record { in_lattice = m.in_lattice; at_least = Each-front (λ r. pos 0 ≤ℤ dot r x) rows (last ∷ []) m.at_least } in
    record {
      member = record { in_lattice = i.member.in_lattice; at_least = Each-append (λ r. pos 0 ≤ℤ dot r v) rows (last ∷ []) i.member.at_least (p, tt) };
      nonzero = i.nonzero;
      no_sum = λ y z my ny mz nz e. i.no_sum y z (front y my) ny (front z mz) nz e;
    }

-- in order of degree: what no element can be taken from is irreducible, where all irreducibles of smaller degree are listed
pub keeps_lower : (rows : List Vector) (last : Vector) → Each (HasWidth (length last)) rows → IsPositive (IsInStage (HasWidth (length last)) rows) → (elements : List Vector) (x : Vector) → IsInStage (HasWidth (length last)) rows x → IsNonzero x
    → ((e : Vector) → IsSideElement rows last e → dot (total (length last) rows) e <ℤ dot (total (length last) rows) x → Contains elements e) → Keeps rows last elements x
keeps_lower rows last wide positive elements x m n lower = λ up none.
    let w = length last in
    let fs = rows ++ last ∷ [] in
    let lattice = whole_lattice w in
    kept_above w (HasWidth w) lattice rows wide positive last x
    (record { in_lattice = m.in_lattice; at_least = Each-append (λ r. pos 0 ≤ℤ dot r x) rows (last ∷ []) m.at_least (up, tt) }) n
    (λ e i lt k. none_listed fs elements x e none (lower e i lt) (below_of_each fs e x ((stage_minus w (HasWidth w) lattice fs x e m.in_lattice i.member.in_lattice).0 k)))

-- more elements: what may be kept still may, what is handled still is
each_of_maps : (f : Vector → Vector) (P : Vector → Type 0) (xs : List Vector) → Each (λ x. P (f x)) xs → Each P (map f xs)
each_of_maps f P [] h = tt
each_of_maps f P (x ∷ xs) h = (h.0, each_of_maps f P xs h.1)

pub keeps_more : (rows : List Vector) (last : Vector) (elements more : List Vector) (x : Vector) → Keeps rows last elements x → Keeps rows last (elements ++ more) x
keeps_more rows last elements more x k = λ up none.
    let fs = rows ++ last ∷ [] in
    let P : Vector → Type 0 = λ v. ¬ IsBelow v (values_at fs x) in
    k up (each_of_maps (values_at fs) P elements (Each-front (λ v. P (values_at fs v)) elements more (each_of_map (values_at fs) P (elements ++ more) none)))

pub handles_more : (rows : List Vector) (last : Vector) (elements more : List Vector) (x : Vector) → Handles rows last elements x → Handles rows last (elements ++ more) x
handles_more rows last elements more x h = λ i. Contains-append_left elements more x (h i)

-- ---- the side of the opposite form is the reversed stage
pub opposite_value : (h x : Vector) → dot (opposite h) x ≡ pos 0 -ℤ dot h x
opposite_value h x = let e = dot_comm (opposite h) x in let d = dot-opposite x h in let c = dot_comm x h in omega (arith, ints, e, d, c)

pub opposite_length : (h : Vector) → length (opposite h) ≡ length h
opposite_length h = length-map h neg_ℤ

to_reversed_member : (rows : List Vector) (h x : Vector) → IsInStage (HasWidth (length (opposite h))) (rows ++ opposite h ∷ []) x → IsInReversed (HasWidth (length h)) rows h x
to_reversed_member rows h x m = record {
  in_stage = record { in_lattice = m.in_lattice ∙ opposite_length h; at_least = Each-front (λ r. pos 0 ≤ℤ dot r x) rows (opposite h ∷ []) m.at_least };
  at_most = let p = (Each-back (λ r. pos 0 ≤ℤ dot r x) rows (opposite h ∷ []) m.at_least).0 in let v = opposite_value h x in omega (arith, ints, p, v);
}

from_reversed_member : (rows : List Vector) (h x : Vector) → IsInReversed (HasWidth (length h)) rows h x → IsInStage (HasWidth (length (opposite h))) (rows ++ opposite h ∷ []) x
from_reversed_member rows h x m = record {
  in_lattice = m.in_stage.in_lattice ∙ sym (opposite_length h);
  at_least = let p = m.at_most in let v = opposite_value h x in Each-append (λ r. pos 0 ≤ℤ dot r x) rows (opposite h ∷ []) m.in_stage.at_least (omega (arith, ints, p, v), tt);
}

pub reversed_of_side : (rows : List Vector) (h x : Vector) → IsSideElement rows (opposite h) x → IsReversedElement (length h) rows h x
reversed_of_side rows h = IsIrreducible-where (IsInStage (HasWidth (length (opposite h))) (rows ++ opposite h ∷ [])) (IsInReversed (HasWidth (length h)) rows h) (to_reversed_member rows h) (from_reversed_member rows h)

pub side_of_reversed : (rows : List Vector) (h x : Vector) → IsReversedElement (length h) rows h x → IsSideElement rows (opposite h) x
side_of_reversed rows h = IsIrreducible-where (IsInReversed (HasWidth (length h)) rows h) (IsInStage (HasWidth (length (opposite h))) (rows ++ opposite h ∷ [])) (from_reversed_member rows h) (to_reversed_member rows h)

-- ---- what is said of two sides is said of the same sides
pub moved : (P : SideLists → SideLists → Type 0) (up up' down down' : SideLists) → up' ≡ up → down' ≡ down → P up' down' → P up down
moved P up up' down down' eu ed h = subst (λ (s : SideLists). P s down) eu (subst (P up') ed h)
