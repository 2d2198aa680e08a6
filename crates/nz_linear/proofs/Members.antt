-- Rows by their members: for loops that take the rows in their order, where a state lists the newest first.
use Rattle.std.proofs.Common.{◌≡◌, [], ◌∷◌, ◌++◌, List, ℕ, refl, arith}
use Rattle.std.proofs.lemmas.List.Elements.{Contains-append_left, Contains-append_right}
use Rattle.std.specs.List.{AllByRecursion as Each, Contains}
use Rattle.nz_spec.specs.Vectors.{Vector, dot}
use Rattle.std.proofs.Common.{ℤ, pos, ◌+ℤ◌, ◌<ℤ◌, ◌≤ℤ◌}
use Rattle.std.proofs.lemmas.Int.{by_lt_z}
use Rattle.nz_spec.proofs.ListLaws.{Each-contains}
use Rattle.nz_linear.proofs.Ring.{sums}
use Rattle.nz_linear.specs.DualPairs.{Pair}
use Rattle.nz_linear.specs.Elimination.{IsState}
use Rattle.nz_linear.proofs.Lists.{each_map, each_append}
use Rattle.nz_linear.proofs.RayStart.{HaveSameMembers, each_of_members}

-- the newest row at the head of the one list, at the end of the other
pub members_push : (h : Vector) (xs ys : List Vector) → HaveSameMembers xs ys → HaveSameMembers (h ∷ xs) (ys ++ (h ∷ []))
members_push h xs ys m = record {
  there = (Contains-append_right ys (h ∷ []) h (0, omega arith, refl), each_map (Contains ys) (Contains (ys ++ (h ∷ []))) xs (λ x k. Contains-append_left ys (h ∷ []) x k) m.there);
  back = each_append (Contains (h ∷ xs)) ys (h ∷ []) (each_map (Contains xs) (Contains (h ∷ xs)) ys (λ y k. Contains-append_right (h ∷ []) xs y k) m.back) ((0, omega arith, refl), tt);
}

pub state_of_members : (w : ℕ) (seen others : List Vector) (chosen free : List Pair) → HaveSameMembers seen others → IsState w seen chosen free → IsState w others chosen free
state_of_members w seen others chosen free m s = record {
  pair = s.pair;
  only_zero = s.only_zero;
  from_seen = each_map (λ (p : Pair). Contains seen p.form) (λ (p : Pair). Contains others p.form) chosen (λ p k. Each-contains (Contains others) seen p.form m.there k) s.from_seen;
  free_vanish = each_map (λ (p : Pair). Each (λ r. dot r p.vector ≡ pos 0) seen) (λ (p : Pair). Each (λ r. dot r p.vector ≡ pos 0) others) free (λ p k. each_of_members (λ r. dot r p.vector ≡ pos 0) seen others m.back k) s.free_vanish;
}

-- a number above all of a list
pub larger_than_all : (xs : List ℤ) → (n : ℤ) × Each (λ x. x <ℤ n) xs
larger_than_all [] = (pos 0, tt)
larger_than_all (x ∷ xs) =
    let r = larger_than_all xs in
    by_lt_z x r.0
    (λ (l : x <ℤ r.0). (r.0, (l, r.1)))
    (λ (l : r.0 ≤ℤ x). let m : ℤ = x +ℤ pos 1 in (m, (omega (arith, sums), each_map (λ y. y <ℤ r.0) (λ y. y <ℤ m) xs (λ y k. omega (arith, sums)) r.1)))
