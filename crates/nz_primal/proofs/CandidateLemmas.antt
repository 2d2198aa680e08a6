-- The candidates, simplex by simplex.
use Rattle.std.proofs.Common.{◌≡◌, ◌⊎◌, ⊎_elim, inl, inr, ℕ, zero, suc, ◌+◌, ◌<◌, ◌≤◌, List, [], ◌∷◌, ◌++◌, length, take, get_or, Contains, refl, sym, ap, ◌∙◌, subst, arith}
use Rattle.std.proofs.lemmas.List.{take_more, take_all}
use Rattle.std.proofs.lemmas.List.Elements.{Contains-append_left, Contains-append_right, Contains-get_or}
use Rattle.std.specs.List.{AllByRecursion as Each, AllZip}
use Rattle.nz_spec.specs.Vectors.{Vector}
use Rattle.nz_spec.specs.Covers.{vectors_at}
use Rattle.nz_spec.specs.Order.{MoreThan}
use Rattle.nz_spec.proofs.ListLaws.{Each-from_contains, contains_here, contains_there, contains_cases, contains_none}
use Rattle.nz_linear.proofs.Lists.{each_map, each_append}
use Rattle.nz_vec.specs.declared.answers.Work.{Work}
use Rattle.nz_vec.specs.declared.answers.Work.TheVariants.{Range, TooMany, Stopped, NoMemory}
use Rattle.nz_classes.specs.Classes.{IsPoint}
use Rattle.nz_classes.specs.Walks.{IsFullSimplex, ListsPoints, IsRefusal}
use Rattle.nz_primal.specs.Parts.{IsPointOf, AreCandidates, AreFullSimplices, ArePointsOf, IsWalkRefusal, IsOneWalkRefusal}

pub zip_at : {A B : Type 0} (R : A → B → Type 0) (xs : List A) (ys : List B) (a : A) (b : B) (i : ℕ) → AllZip R xs ys → i < length xs → (i < length ys) × R (get_or xs i a) (get_or ys i b)
zip_at R [] [] a b i z l = absurd (let k : ⊥ = omega (arith, l) in k)
zip_at R [] (y ∷ ys) a b i z l = absurd z
zip_at R (x ∷ xs) [] a b i z l = absurd z
zip_at R (x ∷ xs) (y ∷ ys) a b zero z l = (omega arith, z.0)
zip_at R (x ∷ xs) (y ∷ ys) a b (suc i) z l = let r = zip_at R xs ys a b i z.1 (omega (arith, l)) in (let k = r.0 in omega (arith, k), r.1)

none_first : (rays : List Vector) (x : Vector) (simplices : List (List ℕ)) → IsPointOf rays (take 0 simplices) x → ⊥
none_first rays x simplices p = contains_none p.0 p.1

pub candidates_start : (rays : List Vector) (simplices : List (List ℕ)) (list : List Vector) → list ≡ rays → AreCandidates rays (take 0 simplices) list
candidates_start rays simplices list e = record {
  only = Each-from_contains (λ x. Contains rays x ⊎ IsPointOf rays (take 0 simplices) x) list (λ x c. inl (subst (λ (l : List Vector). Contains l x) e c));
  rays_in = Each-from_contains (Contains list) rays (λ x c. subst (λ (l : List Vector). Contains l x) (sym e) c);
  points_in = λ x p. absurd (none_first rays x simplices p);
}

last_of : (done : List (List ℕ)) (last p : List ℕ) → Contains (done ++ last ∷ []) p → Contains done p ⊎ (last ≡ p)
last_of [] last p k = ⊎_elim (λ e. inr e) (λ d. absurd (contains_none p d)) (contains_cases last [] p k)
last_of (d ∷ done) last p k = elim (contains_cases d (done ++ last ∷ []) p k) [
  | inl e ↦ inl (subst (Contains (d ∷ done)) e (contains_here d done))
  | inr c ↦ ⊎_elim (λ b. inl (contains_there d p done b)) (λ e. inr e) (last_of done last p c)
]

added : (rays : List Vector) (done : List (List ℕ)) (places : List ℕ) (list points new : List Vector) → ArePointsOf rays places points → new ≡ list ++ points → AreCandidates rays done list → AreCandidates rays (done ++ places ∷ []) new
added rays done places list points new k e c = record {
  only = subst (Each (λ x. Contains rays x ⊎ IsPointOf rays (done ++ places ∷ []) x)) (sym e) (each_append (λ x. Contains rays x ⊎ IsPointOf rays (done ++ places ∷ []) x) list points
      (each_map (λ x. Contains rays x ⊎ IsPointOf rays done x) (λ x. Contains rays x ⊎ IsPointOf rays (done ++ places ∷ []) x) list (λ x o. ⊎_elim (λ r. inl r) (λ p. inr (p.0, Contains-append_left done (places ∷ []) p.0 p.1, p.2)) o) c.only)
      (each_map (IsPoint (length places) (vectors_at rays places)) (λ x. Contains rays x ⊎ IsPointOf rays (done ++ places ∷ []) x) points (λ x p. inr (places, Contains-append_right done (places ∷ []) places (contains_here places []), p)) k.only));
  rays_in = each_map (Contains list) (Contains new) rays (λ x m. subst (λ (l : List Vector). Contains l x) (sym e) (Contains-append_left list points x m)) c.rays_in;
  points_in = λ x p. subst (λ (l : List Vector). Contains l x) (sym e) (⊎_elim
      (λ d. Contains-append_left list points x (c.points_in x (p.0, d, p.2)))
      (λ q. Contains-append_right list points x (k.each x (subst (λ (ps : List ℕ). IsPoint (length ps) (vectors_at rays ps) x) (sym q) p.2)))
      (last_of done places p.0 p.1));
}

pub candidates_more : (rays : List Vector) (simplices : List (List ℕ)) (i : ℕ) (places : List ℕ) (list points new : List Vector) → i < length simplices → places ≡ get_or simplices i [] → ArePointsOf rays places points → new ≡ list ++ points → AreCandidates rays (take i simplices) list → AreCandidates rays (take (i + 1) simplices) new
candidates_more rays simplices i places list points new l q k e c = subst (λ (d : List (List ℕ)). AreCandidates rays d new) (ap (λ p. take i simplices ++ p ∷ []) q ∙ sym (take_more simplices i [] l)) (added rays (take i simplices) places list points new k e c)

pub candidates_all : (rays : List Vector) (simplices : List (List ℕ)) (i : ℕ) (list : List Vector) → length simplices ≤ i → AreCandidates rays (take i simplices) list → AreCandidates rays simplices list
candidates_all rays simplices i list l c = subst (λ (d : List (List ℕ)). AreCandidates rays d list) (take_all i simplices l) c

-- ---- one walk
sides_size : (rays : List Vector) (places : List ℕ) → length (vectors_at rays places) ≡ length places
sides_size rays [] = refl
sides_size rays (p ∷ places) = ap suc (sides_size rays places)

pub points_of : (limit : ℕ) (rays : List Vector) (places : List ℕ) (sides points : List Vector) → sides ≡ vectors_at rays places → ListsPoints limit sides points → ArePointsOf rays places points
points_of limit rays places sides points e h =
    let n : length sides ≡ length places = ap length e ∙ sides_size rays places in
    let same : (x : Vector) → IsPoint (length sides) sides x → IsPoint (length places) (vectors_at rays places) x = λ x p. subst (λ (m : ℕ). IsPoint m (vectors_at rays places) x) n (subst (λ (vs : List Vector). IsPoint (length sides) vs x) e p) in
    let back : (x : Vector) → IsPoint (length places) (vectors_at rays places) x → IsPoint (length sides) sides x = λ x p. subst (λ (vs : List Vector). IsPoint (length sides) vs x) (sym e) (subst (λ (m : ℕ). IsPoint m (vectors_at rays places) x) (sym n) p) in
    record {
      only = each_map (IsPoint (length sides) sides) (IsPoint (length places) (vectors_at rays places)) points same h.0.only;
      each = λ x p. h.0.each x (back x p);
    }

pub one_refused : (bound limit : ℕ) (rays : List Vector) (places : List ℕ) (sides forms : List Vector) (e : Work) → sides ≡ vectors_at rays places → IsRefusal bound limit sides forms e → IsOneWalkRefusal limit rays places e
one_refused bound limit rays places sides forms (Range told) q r = tt
one_refused bound limit rays places sides forms TooMany q r =
    let n : length sides ≡ length places = ap length q ∙ sides_size rays places in
    subst (λ (m : ℕ). MoreThan limit (IsPoint m (vectors_at rays places))) n (subst (λ (vs : List Vector). MoreThan limit (IsPoint (length sides) vs)) q r)
one_refused bound limit rays places sides forms (Stopped stage) q r = r
one_refused bound limit rays places sides forms NoMemory q r = tt

pub walk_refused : (limit : ℕ) (rays : List Vector) (simplices : List (List ℕ)) (i : ℕ) (places : List ℕ) (e : Work) → i < length simplices → places ≡ get_or simplices i [] → IsOneWalkRefusal limit rays places e → IsWalkRefusal limit rays simplices e
walk_refused limit rays simplices i places (Range told) l q r = tt
walk_refused limit rays simplices i places TooMany l q r = record {
  witnesses = r.witnesses;
  different = r.different;
  only = each_map (IsPoint (length places) (vectors_at rays places)) (λ x. Contains rays x ⊎ IsPointOf rays simplices x) r.witnesses (λ x p. inr (places, subst (Contains simplices) (sym q) (Contains-get_or simplices i [] l), p)) r.only;
  more = r.more;
}
walk_refused limit rays simplices i places (Stopped stage) l q r = r
walk_refused limit rays simplices i places NoMemory l q r = tt

pub full_at : (rays : List Vector) (simplices : List (List ℕ)) (forms : List (List Vector)) (i : ℕ) (places : List ℕ) (fs : List Vector) → AreFullSimplices rays simplices forms → i < length simplices → places ≡ get_or simplices i [] → fs ≡ get_or forms i [] → Each (λ p. p < length rays) places × IsFullSimplex (vectors_at rays places) fs
full_at rays simplices forms i places fs z l e f =
    let r = zip_at (λ places fs. Each (λ p. p < length rays) places × IsFullSimplex (vectors_at rays places) fs) simplices forms [] [] i z l in
    subst (λ (ps : List ℕ). Each (λ p. p < length rays) ps × IsFullSimplex (vectors_at rays ps) fs) (sym e) (subst (λ (gs : List Vector). Each (λ p. p < length rays) (get_or simplices i []) × IsFullSimplex (vectors_at rays (get_or simplices i [])) gs) (sym f) r.1)

pub forms_at : (rays : List Vector) (simplices : List (List ℕ)) (forms : List (List Vector)) (i : ℕ) → AreFullSimplices rays simplices forms → i < length simplices → i < length forms
forms_at rays simplices forms i z l = (zip_at (λ places fs. Each (λ p. p < length rays) places × IsFullSimplex (vectors_at rays places) fs) simplices forms [] [] i z l).0
