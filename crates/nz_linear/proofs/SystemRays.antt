-- The members of a system in coordinates of its lattice, and its extreme generators as the extreme rays there.
use Rattle.std.proofs.Common.{◌≡◌, ◌↔◌, inl, inr, List, [], ◌∷◌, length, map, sym, subst, ap}
use Rattle.std.specs.List.{AllByRecursion as Each, Contains}
use Rattle.nz_spec.specs.Vectors.{Vector, combination, HasWidth}
use Rattle.nz_spec.specs.Sums.{IsInGroup, IsIndependent}
use Rattle.nz_spec.specs.Systems.{System, IsSystem, IsMember}
use Rattle.nz_spec.specs.Constraints.{AreEquationsOf, AreRowsOf}
use Rattle.nz_spec.specs.Stages.{IsInLattice, IsInStage}
use Rattle.nz_spec.specs.Monoids.{IsExtreme}
use Rattle.nz_spec.proofs.ListLaws.{contains_here, contains_there, contains_cases, contains_none}
use Rattle.nz_linear.specs.Cones.{IsInRows}
use Rattle.nz_linear.specs.Extreme.{IsPointed}
use Rattle.nz_linear.specs.RayStep.{AreExtremeRays}
use Rattle.nz_linear.specs.Coordinates.{AreCoordinates, in_coordinates}
use Rattle.nz_linear.proofs.Coordinates.{stage_coordinates, coordinates_where, extreme_forth, extreme_back}
use Rattle.nz_linear.proofs.Splitting.{listed_is_extreme, extreme_is_listed}
use Rattle.nz_linear.proofs.DescribedCone.{members_are_last_stage}

-- a stage goes by its lattice
stage_where : (L M : Vector → Type 0) (rows : List Vector) (x : Vector) → (L x ↔ M x) → IsInStage L rows x ↔ IsInStage M rows x
stage_where L M rows x e = ((λ i. record { in_lattice = e.0 i.in_lattice; at_least = i.at_least }), (λ i. record { in_lattice = e.1 i.in_lattice; at_least = i.at_least }))

-- where the lattice of a system is the group of an independent base, its members are, in coordinates, the cone of its rows
pub system_coordinates : (s : System) (equations rows base : List Vector) → IsSystem s → AreEquationsOf s equations → AreRowsOf s rows → Each (HasWidth s.width) base → IsIndependent s.width base → ((x : Vector) → IsInLattice s equations x ↔ IsInGroup s.width base x)
    → AreCoordinates s.width base (IsMember s) (IsInRows (length base) (map (λ r. in_coordinates base r) rows))
system_coordinates s equations rows base is e r l free same =
    coordinates_where s.width base (IsInStage (IsInGroup s.width base) rows) (IsMember s) (IsInRows (length base) (map (λ r. in_coordinates base r) rows))
    (λ x.
    let a = stage_where (IsInLattice s equations) (IsInGroup s.width base) rows x (same x) in
    let b = members_are_last_stage s equations rows is e r x in
    ((λ i. b.1 (a.1 i)), (λ m. a.0 (b.0 m))))
    (stage_coordinates s.width base rows l free)

contains_mapped : (f : Vector → Vector) (xs : List Vector) (x : Vector) → Contains xs x → Contains (map f xs) (f x)
contains_mapped f [] x c = absurd (contains_none x c)
contains_mapped f (y ∷ xs) x c = elim (contains_cases y xs x c) [
  | inl e ↦ subst (Contains (f y ∷ map f xs)) (ap f e) (contains_here (f y) (map f xs))
  | inr k ↦ contains_there (f y) (f x) (map f xs) (contains_mapped f xs x k)
]

mapped_contains : (f : Vector → Vector) (xs : List Vector) (y : Vector) → Contains (map f xs) y → (x : Vector) × Contains xs x × (f x ≡ y)
mapped_contains f [] y c = absurd (contains_none y c)
mapped_contains f (x ∷ xs) y c = elim (contains_cases (f x) (map f xs) y c) [
  | inl e ↦ (x, contains_here x xs, e)
  | inr k ↦ (let r = mapped_contains f xs y k in (r.0, contains_there x r.0 xs r.1, r.2))
]

-- then its extreme generators are the vectors of the extreme rays in coordinates
pub system_extreme : (s : System) (equations rows base rays : List Vector) (x : Vector) → IsSystem s → AreEquationsOf s equations → AreRowsOf s rows → Each (HasWidth s.width) base → IsIndependent s.width base → ((y : Vector) → IsInLattice s equations y ↔ IsInGroup s.width base y)
    → IsPointed (length base) (map (λ r. in_coordinates base r) rows) → AreExtremeRays (length base) (map (λ r. in_coordinates base r) rows) rays → IsExtreme (IsMember s) x ↔ Contains (map (λ c. combination s.width c base) rays) x
system_extreme s equations rows base rays x is e r l free same pt are = (to, from)
  where
    k : AreCoordinates s.width base (IsMember s) (IsInRows (length base) (map (λ r. in_coordinates base r) rows))
    k = system_coordinates s equations rows base is e r l free same

    to : IsExtreme (IsMember s) x → Contains (map (λ c. combination s.width c base) rays) x
    to i =
        let b = k.back x i.irreducible.member in
        let n = k.one_each b.0 b.1 in
        let c = extreme_back s.width base (IsMember s) (IsInRows (length base) (map (λ r. in_coordinates base r) rows)) k b.0 n (subst (IsExtreme (IsMember s)) (sym b.2) i) in
        subst (Contains (map (λ c. combination s.width c base) rays)) b.2 (contains_mapped (λ c. combination s.width c base) rays b.0 (extreme_is_listed (length base) (map (λ r. in_coordinates base r) rows) rays b.0 pt are c))

    from : Contains (map (λ c. combination s.width c base) rays) x → IsExtreme (IsMember s) x
    from c =
        let b = mapped_contains (λ c. combination s.width c base) rays x c in
        subst (IsExtreme (IsMember s)) b.2 (extreme_forth s.width base (IsMember s) (IsInRows (length base) (map (λ r. in_coordinates base r) rows)) k b.0 (listed_is_extreme (length base) (map (λ r. in_coordinates base r) rows) rays b.0 pt are b.1))
