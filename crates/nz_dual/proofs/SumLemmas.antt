-- The sums of two vectors by their degrees, as they are looked at one by one.
use Rattle.std.proofs.Common.{◌≡◌, ◌⊎◌, ⊎_elim, inl, inr, ℕ, ◌+◌, ◌<◌, ◌≤◌, List, [], ◌∷◌, ◌++◌, length, take, get_or, Option, ℤ, pos, ◌≤ℤ◌, Contains, sym, ap, ap₂, ◌∙◌, subst, arith, refl, append_assoc}
use Rattle.std.proofs.lemmas.List.{append-nil}
use Rattle.std.proofs.lemmas.Int.{ints}
use Rattle.std.proofs.lemmas.List.{take_more, take_all}
use Rattle.std.proofs.lemmas.Bool.{cases_eq, cases_lt}
use Rattle.std.proofs.lemmas.List.Elements.{Contains-append_left, Contains-append_right, Contains-push_cases, Contains-push}
use Rattle.std.specs.List.{AllByRecursion as Each}
use Rattle.nz_spec.specs.Vectors.{Vector, plus, scaled}
use Rattle.nz_spec.proofs.VectorLaws.{one-scaled}
use Rattle.nz_spec.proofs.ListLaws.{Each-contains, Each-weaker, contains_here, contains_there, contains_cases, contains_none, contains_at}
use Rattle.nz_order.proofs.OrderLaws.{Each-push}
use Rattle.nz_order.proofs.SortLaws.{Each-append}
use Rattle.nz_scalar.specs.Room.{HasRoom}
use Rattle.nz_vec.specs.Combinations.{CombinationFits}
use Rattle.nz_range.specs.Measures.{measure, SomeLarge}
use Rattle.nz_range.proofs.Fits.{combination_fits}
use Rattle.nz_range.proofs.Causes.{or_large}
use Rattle.nz_dual.specs.DegreeClasses.{IsEnd}
use Rattle.nz_dual.specs.PairSums.{IsNotSooner, IsAhead, IsNext, HasDegree, IsWith, HaveDegrees, HaveSumFrom, HaveSum, IsSumAt, IsSumOf, AddsSums, AreSums}

-- ---- the next degree
pub soonest_seen : (last : ℕ) (old new : Option ℕ) (degree : ℕ) (others : List ℕ) (place : ℕ) → place < length others → Each (λ d. IsNotSooner last old (degree + d)) (take place others) → IsNotSooner last new (degree + get_or others place 0)
    → ((d : ℕ) → IsNotSooner last old d → IsNotSooner last new d) → Each (λ d. IsNotSooner last new (degree + d)) (take (place + 1) others)
soonest_seen last old new degree others place l seen now earlier =
    let P : ℕ → Type 0 = λ d. IsNotSooner last new (degree + d) in
    subst (Each P) (sym (take_more others place 0 l))
    (Each-push P (take place others) (get_or others place 0) (Each-weaker (λ d. IsNotSooner last old (degree + d)) P (λ d h. earlier (degree + d) h) (take place others) seen) now)

pub next_seen : (last : ℕ) (old new : Option ℕ) (firsts seconds : List ℕ) (place : ℕ) → place < length firsts → IsNext last (take place firsts) seconds old → (IsAhead last old → IsAhead last new)
    → Each (λ d. IsNotSooner last new (get_or firsts place 0 + d)) seconds → ((d : ℕ) → IsNotSooner last old d → IsNotSooner last new d) → IsNext last (take (place + 1) firsts) seconds new
next_seen last old new firsts seconds place l n ahead now earlier =
    let P : ℕ → Type 0 = λ a. Each (λ b. IsNotSooner last new (a + b)) seconds in
    record {
      ahead = ahead n.ahead;
      none_sooner = subst (Each P) (sym (take_more firsts place 0 l))
          (Each-push P (take place firsts) (get_or firsts place 0) (Each-weaker (λ a. Each (λ b. IsNotSooner last old (a + b)) seconds) P (λ a h. Each-weaker (λ b. IsNotSooner last old (a + b)) (λ b. IsNotSooner last new (a + b)) (λ b k. earlier (a + b) k) seconds h) (take place firsts) n.none_sooner) now);
    }

-- ---- one sum
pub sum_is : (a : ℤ) (x y : Vector) → a ≡ pos 1 → plus (scaled a x) (scaled a y) ≡ plus x y
sum_is a x y e = ap (λ (b : ℤ). plus (scaled b x) (scaled b y)) e ∙ ap₂ plus (one-scaled x) (one-scaled y)

pub sum_large : (h : ℤ) (fits : ℤ → Type 0) → HasRoom h fits → (a : ℤ) (x y : Vector) → a ≡ pos 1 → ¬ CombinationFits fits a x a y → SomeLarge h (Contains (x ∷ y ∷ []))
sum_large h fits r a x y e n =
    let low = r.at_least in
    ⊎_elim
    (λ (lx : pos (measure x) ≤ℤ h). ⊎_elim
    (λ (ly : pos (measure y) ≤ℤ h). absurd (n (combination_fits h fits r a x a y (rw e (omega (arith, ints, low), omega (arith, ints, low))) (rw e (omega (arith, ints, low), omega (arith, ints, low))) lx ly)))
    (λ l. record { vector = y; named = contains_there x y (y ∷ []) (contains_here y []); large = l })
    (or_large h (measure y)))
    (λ l. record { vector = x; named = contains_here x (y ∷ []); large = l })
    (or_large h (measure x))

-- among more vectors
pub large_among : (h : ℤ) (P Q : Vector → Type 0) → ((v : Vector) → P v → Q v) → SomeLarge h P → SomeLarge h Q
large_among h P Q f s = record { vector = s.vector; named = f s.vector s.named; large = s.large }

pub large_in_both : (h : ℤ) (firsts seconds : List Vector) (i k : ℕ) (x y : Vector) → i < length firsts → k < length seconds → x ≡ get_or firsts i [] → y ≡ get_or seconds k [] → SomeLarge h (Contains (x ∷ y ∷ [])) → SomeLarge h (Contains (firsts ++ seconds))
large_in_both h firsts seconds i k x y l m ex ey = large_among h (Contains (x ∷ y ∷ [])) (Contains (firsts ++ seconds)) (λ v c. ⊎_elim
    (λ (s : x ≡ v). Contains-append_left firsts seconds v (subst (Contains firsts) (sym ex ∙ s) (contains_at firsts i [] l)))
    (λ (c : Contains (y ∷ []) v). ⊎_elim
    (λ (s : y ≡ v). Contains-append_right firsts seconds v (subst (Contains seconds) (sym ey ∙ s) (contains_at seconds k [] m)))
    (λ (c : Contains [] v). absurd (contains_none v c))
    (contains_cases y [] v c))
    (contains_cases x (y ∷ []) v c))

-- ---- the next degree, among the classes alone
pub next_of_classes : (last : ℕ) (ups downs firsts seconds : List ℕ) (best : Option ℕ) → Each (Contains firsts) ups → Each (Contains seconds) downs → IsNext last firsts seconds best → IsNext last ups downs best
next_of_classes last ups downs firsts seconds best all_up all_down n =
    let P : ℕ → Type 0 = λ a. Each (λ b. IsNotSooner last best (a + b)) seconds in
    record {
      ahead = n.ahead;
      none_sooner = Each-weaker (Contains firsts) (λ a. Each (λ b. IsNotSooner last best (a + b)) downs)
          (λ a c. Each-weaker (Contains seconds) (λ b. IsNotSooner last best (a + b)) (λ b d. Each-contains (λ b. IsNotSooner last best (a + b)) seconds b (Each-contains P firsts a n.none_sooner c) d) downs all_down) ups all_up;
    }

-- ---- the first classes
none_taken : (classes : List ℕ) (d : ℕ) → ¬ Contains (take 0 classes) d
none_taken [] d c = contains_none d c
none_taken (a ∷ classes) d c = contains_none d c

taken_more : (classes : List ℕ) (place d : ℕ) → place < length classes → Contains (take place classes) d → Contains (take (place + 1) classes) d
taken_more classes place d l c = subst (λ (ks : List ℕ). Contains ks d) (sym (take_more classes place 0 l)) (Contains-append_left (take place classes) (get_or classes place 0 ∷ []) d c)

taken_now : (classes : List ℕ) (place d : ℕ) → place < length classes → d ≡ get_or classes place 0 → Contains (take (place + 1) classes) d
taken_now classes place d l e = subst (λ (ks : List ℕ). Contains ks d) (sym (take_more classes place 0 l)) (subst (Contains (take place classes ++ get_or classes place 0 ∷ [])) (sym e) (Contains-push (take place classes) (get_or classes place 0)))

taken_cases : (classes : List ℕ) (place d : ℕ) → place < length classes → Contains (take (place + 1) classes) d → Contains (take place classes) d ⊎ (get_or classes place 0 ≡ d)
taken_cases classes place d l c = Contains-push_cases (take place classes) (get_or classes place 0) d (subst (λ (ks : List ℕ). Contains ks d) (take_more classes place 0 l) c)

taken_all : (classes degrees : List ℕ) (place k : ℕ) → length classes ≤ place → Each (Contains classes) degrees → k < length degrees → Contains (take place classes) (get_or degrees k 0)
taken_all classes degrees place k l all m = subst (λ (ks : List ℕ). Contains ks (get_or degrees k 0)) (sym (take_all place classes l)) (Each-contains (Contains classes) degrees (get_or degrees k 0) all (contains_at degrees k 0 m))

-- ---- the sums at related places
module _ (Settled : Vector → Type 0) (firsts seconds : List Vector) where
  wider : (P Q : ℕ → ℕ → Type 0) → ((i k : ℕ) → P i k → Q i k) → (sums : List Vector) → Each (IsSumAt firsts seconds P) sums → Each (IsSumAt firsts seconds Q) sums
  wider P Q f sums h = Each-weaker (IsSumAt firsts seconds P) (IsSumAt firsts seconds Q) (λ s a. record { first = a.first; second = a.second; related = f a.first a.second a.related; same = a.same }) sums h

  pub adds_none : (P : ℕ → ℕ → Type 0) (old : List Vector) → ((i k : ℕ) → ¬ P i k) → AddsSums Settled firsts seconds P old old
  adds_none P old f = record {
    more = [];
    extends = sym (append-nil old);
    only = tt;
    each = λ i k r. absurd (f i k r);
  }

  pub adds_one : (first second : ℕ) (old new : List Vector) → new ≡ old ++ plus (get_or firsts first []) (get_or seconds second []) ∷ [] → AddsSums Settled firsts seconds (λ i k. (i ≡ first) × (k ≡ second)) old new
  adds_one first second old new e =
      let s = plus (get_or firsts first []) (get_or seconds second []) in
      record {
        more = s ∷ [];
        extends = e;
        only = (record { first = first; second = second; related = (refl, refl); same = refl }, tt);
        each = λ i k r. inl (subst (Contains (s ∷ [])) (ap₂ (λ (a b : ℕ). plus (get_or firsts a []) (get_or seconds b [])) (sym r.0) (sym r.1)) (contains_here s []));
      }

  pub adds_settled : (first second : ℕ) (old : List Vector) → Settled (plus (get_or firsts first []) (get_or seconds second [])) → AddsSums Settled firsts seconds (λ i k. (i ≡ first) × (k ≡ second)) old old
  adds_settled first second old t = record {
    more = [];
    extends = sym (append-nil old);
    only = tt;
    each = λ i k r. inr (subst Settled (ap₂ (λ (a b : ℕ). plus (get_or firsts a []) (get_or seconds b [])) (sym r.0) (sym r.1)) t);
  }

  pub adds_then : (P Q R : ℕ → ℕ → Type 0) (old mid new : List Vector) → ((i k : ℕ) → P i k → R i k) → ((i k : ℕ) → Q i k → R i k) → ((i k : ℕ) → R i k → P i k ⊎ Q i k) → AddsSums Settled firsts seconds P old mid → AddsSums Settled firsts seconds Q mid new → AddsSums Settled firsts seconds R old new
  adds_then P Q R old mid new f g h a b =
      let x : ℕ → ℕ → Vector = λ i k. plus (get_or firsts i []) (get_or seconds k []) in
      record {
        more = a.more ++ b.more;
        extends = b.extends ∙ ap (λ (ss : List Vector). ss ++ b.more) a.extends ∙ append_assoc old a.more b.more;
        only = Each-append (IsSumAt firsts seconds R) a.more b.more (wider P R f a.more a.only) (wider Q R g b.more b.only);
        each = λ i k r. ⊎_elim
            (λ (p : P i k). ⊎_elim (λ c. inl (Contains-append_left a.more b.more (x i k) c)) (λ t. inr t) (a.each i k p))
            (λ (q : Q i k). ⊎_elim (λ c. inl (Contains-append_right a.more b.more (x i k) c)) (λ t. inr t) (b.each i k q))
            (h i k r);
      }

  pub adds_same : (P R : ℕ → ℕ → Type 0) (old new : List Vector) → ((i k : ℕ) → P i k → R i k) → ((i k : ℕ) → R i k → P i k) → AddsSums Settled firsts seconds P old new → AddsSums Settled firsts seconds R old new
  adds_same P R old new f g a = record {
    more = a.more;
    extends = a.extends;
    only = wider P R f a.more a.only;
    each = λ i k r. a.each i k (g i k r);
  }

  -- from no sums on
  pub adds_all : (ups downs : List ℕ) (wanted : ℕ) (none new : List Vector) → none ≡ [] → AddsSums Settled firsts seconds (HaveSum ups downs wanted) none new → AreSums Settled firsts ups seconds downs wanted new
  adds_all ups downs wanted none new e a =
      let all : a.more ≡ new = sym (a.extends ∙ ap (λ (ss : List Vector). ss ++ a.more) e) in
      record {
        only = subst (Each (IsSumOf firsts ups seconds downs wanted)) all a.only;
        each = λ i k r. subst (λ (ss : List Vector). Contains ss (plus (get_or firsts i []) (get_or seconds k [])) ⊎ Settled (plus (get_or firsts i []) (get_or seconds k []))) all (a.each i k r);
      }

  -- ---- from the end of a class back to its first place
  pub walk_first : (place : ℕ) (degrees : List ℕ) (d end : ℕ) (old : List Vector) → IsEnd degrees d (length degrees) end → AddsSums Settled firsts seconds (λ i k. (end ≤ k) × IsWith place degrees d i k) old old
  walk_first place degrees d end old e = adds_none (λ i k. (end ≤ k) × IsWith place degrees d i k) old (λ i k r. let m = e.none_behind k r.1.1.0 r.1.1.1 in let l = r.0 in let f : ⊥ = omega (arith, m, l) in f)

  pub walk_step : (place : ℕ) (degrees : List ℕ) (d end next k : ℕ) (old mid new : List Vector) → end ≡ k + 1 → k < length degrees → get_or degrees k 0 ≡ d → IsEnd degrees (get_or degrees k 0) k next
      → AddsSums Settled firsts seconds (λ i j. (end ≤ j) × IsWith place degrees d i j) old mid → AddsSums Settled firsts seconds (λ i j. (i ≡ place) × (j ≡ k)) mid new → AddsSums Settled firsts seconds (λ i j. (next ≤ j) × IsWith place degrees d i j) old new
  walk_step place degrees d end next k old mid new e l own n = adds_then (λ i j. (end ≤ j) × IsWith place degrees d i j) (λ i j. (i ≡ place) × (j ≡ k)) (λ i j. (next ≤ j) × IsWith place degrees d i j) old mid new
      (λ i j r. (let m = r.0 in let u = n.inside in omega (arith, m, u, e), r.1))
      (λ i j r. (let s = r.1 in let u = n.inside in omega (arith, s, u), (r.0, subst (HasDegree degrees d) (sym r.1) (l, own))))
      (λ i j r. ⊎_elim
      (λ (m : j < k). absurd (let q = n.none_behind j m (r.1.1.1 ∙ sym own) in let u = r.0 in let f : ⊥ = omega (arith, q, u) in f))
      (λ (m : k ≤ j). ⊎_elim
      (λ (s : j ≡ k). inr (r.1.0, s))
      (λ (s : ¬ (j ≡ k)). inl ((let f : end ≤ j = omega (arith, m, s, e) in f), r.1))
      (cases_eq j k))
      (cases_lt j k))

  pub walk_last : (place : ℕ) (degrees : List ℕ) (d end : ℕ) (old new : List Vector) → end ≡ 0 → AddsSums Settled firsts seconds (λ i k. (end ≤ k) × IsWith place degrees d i k) old new → AddsSums Settled firsts seconds (IsWith place degrees d) old new
  walk_last place degrees d end old new z = adds_same (λ i k. (end ≤ k) × IsWith place degrees d i k) (IsWith place degrees d) old new (λ i k r. r.1) (λ i k r. (omega (arith, z), r))

  pub turn_first : (ups : List ℕ) (a : ℕ) (downs : List ℕ) (b end : ℕ) (old : List Vector) → IsEnd ups a (length ups) end → AddsSums Settled firsts seconds (λ i k. (end ≤ i) × HaveDegrees ups a downs b i k) old old
  turn_first ups a downs b end old e = adds_none (λ i k. (end ≤ i) × HaveDegrees ups a downs b i k) old (λ i k r. let m = e.none_behind i r.1.0.0 r.1.0.1 in let l = r.0 in let f : ⊥ = omega (arith, m, l) in f)

  pub turn_step : (ups : List ℕ) (a : ℕ) (downs : List ℕ) (b end next place : ℕ) (old mid new : List Vector) → end ≡ place + 1 → place < length ups → get_or ups place 0 ≡ a → IsEnd ups (get_or ups place 0) place next
      → AddsSums Settled firsts seconds (λ i k. (end ≤ i) × HaveDegrees ups a downs b i k) old mid → AddsSums Settled firsts seconds (IsWith place downs b) mid new → AddsSums Settled firsts seconds (λ i k. (next ≤ i) × HaveDegrees ups a downs b i k) old new
  turn_step ups a downs b end next place old mid new e l own n = adds_then (λ i k. (end ≤ i) × HaveDegrees ups a downs b i k) (IsWith place downs b) (λ i k. (next ≤ i) × HaveDegrees ups a downs b i k) old mid new
      (λ i k r. (let m = r.0 in let u = n.inside in omega (arith, m, u, e), r.1))
      (λ i k r. (let s = r.0 in let u = n.inside in omega (arith, s, u), (subst (HasDegree ups a) (sym r.0) (l, own), r.1)))
      (λ i k r. ⊎_elim
      (λ (m : i < place). absurd (let q = n.none_behind i m (r.1.0.1 ∙ sym own) in let u = r.0 in let f : ⊥ = omega (arith, q, u) in f))
      (λ (m : place ≤ i). ⊎_elim
      (λ (s : i ≡ place). inr (s, r.1.1))
      (λ (s : ¬ (i ≡ place)). inl ((let f : end ≤ i = omega (arith, m, s, e) in f), r.1))
      (cases_eq i place))
      (cases_lt i place))

  pub turn_last : (ups : List ℕ) (a : ℕ) (downs : List ℕ) (b end : ℕ) (old new : List Vector) → end ≡ 0 → AddsSums Settled firsts seconds (λ i k. (end ≤ i) × HaveDegrees ups a downs b i k) old new → AddsSums Settled firsts seconds (HaveDegrees ups a downs b) old new
  turn_last ups a downs b end old new z = adds_same (λ i k. (end ≤ i) × HaveDegrees ups a downs b i k) (HaveDegrees ups a downs b) old new (λ i k r. r.1) (λ i k r. (omega (arith, z), r))

  -- ---- from class to class of the second list
  pub class_first : (ups : List ℕ) (a : ℕ) (downs classes : List ℕ) (wanted : ℕ) (old : List Vector) → AddsSums Settled firsts seconds (λ i k. Contains (take 0 classes) (get_or downs k 0) × HaveSumFrom ups a downs wanted i k) old old
  class_first ups a downs classes wanted old = adds_none (λ i k. Contains (take 0 classes) (get_or downs k 0) × HaveSumFrom ups a downs wanted i k) old (λ i k r. none_taken classes (get_or downs k 0) r.0)

  pub class_step : (ups : List ℕ) (a : ℕ) (downs classes : List ℕ) (wanted place : ℕ) (old mid new : List Vector) → place < length classes → a + get_or classes place 0 ≡ wanted
      → AddsSums Settled firsts seconds (λ i k. Contains (take place classes) (get_or downs k 0) × HaveSumFrom ups a downs wanted i k) old mid → AddsSums Settled firsts seconds (HaveDegrees ups a downs (get_or classes place 0)) mid new
      → AddsSums Settled firsts seconds (λ i k. Contains (take (place + 1) classes) (get_or downs k 0) × HaveSumFrom ups a downs wanted i k) old new
  class_step ups a downs classes wanted place old mid new l s = adds_then (λ i k. Contains (take place classes) (get_or downs k 0) × HaveSumFrom ups a downs wanted i k) (HaveDegrees ups a downs (get_or classes place 0)) (λ i k. Contains (take (place + 1) classes) (get_or downs k 0) × HaveSumFrom ups a downs wanted i k) old mid new
      (λ i k r. (taken_more classes place (get_or downs k 0) l r.0, r.1))
      (λ i k r. (taken_now classes place (get_or downs k 0) l r.1.1, (r.0, (r.1.0, ap (λ (t : ℕ). a + t) r.1.1 ∙ s))))
      (λ i k r. ⊎_elim (λ c. inl (c, r.1)) (λ e. inr (r.1.0, (r.1.1.0, sym e))) (taken_cases classes place (get_or downs k 0) l r.0))

  pub class_skip : (ups : List ℕ) (a : ℕ) (downs classes : List ℕ) (wanted place : ℕ) (old new : List Vector) → place < length classes → ¬ (a + get_or classes place 0 ≡ wanted)
      → AddsSums Settled firsts seconds (λ i k. Contains (take place classes) (get_or downs k 0) × HaveSumFrom ups a downs wanted i k) old new → AddsSums Settled firsts seconds (λ i k. Contains (take (place + 1) classes) (get_or downs k 0) × HaveSumFrom ups a downs wanted i k) old new
  class_skip ups a downs classes wanted place old new l n = adds_same (λ i k. Contains (take place classes) (get_or downs k 0) × HaveSumFrom ups a downs wanted i k) (λ i k. Contains (take (place + 1) classes) (get_or downs k 0) × HaveSumFrom ups a downs wanted i k) old new
      (λ i k r. (taken_more classes place (get_or downs k 0) l r.0, r.1))
      (λ i k r. ⊎_elim (λ c. (c, r.1)) (λ e. absurd (n (ap (λ (t : ℕ). a + t) e ∙ r.1.1.1))) (taken_cases classes place (get_or downs k 0) l r.0))

  pub class_last : (ups : List ℕ) (a : ℕ) (downs classes : List ℕ) (wanted place : ℕ) (old new : List Vector) → length classes ≤ place → Each (Contains classes) downs
      → AddsSums Settled firsts seconds (λ i k. Contains (take place classes) (get_or downs k 0) × HaveSumFrom ups a downs wanted i k) old new → AddsSums Settled firsts seconds (HaveSumFrom ups a downs wanted) old new
  class_last ups a downs classes wanted place old new l all = adds_same (λ i k. Contains (take place classes) (get_or downs k 0) × HaveSumFrom ups a downs wanted i k) (HaveSumFrom ups a downs wanted) old new
      (λ i k r. r.1)
      (λ i k r. (taken_all classes downs place k l all r.1.0, r))

  -- ---- from class to class of the first list
  pub degree_first : (ups classes downs : List ℕ) (wanted : ℕ) (old : List Vector) → AddsSums Settled firsts seconds (λ i k. Contains (take 0 classes) (get_or ups i 0) × HaveSum ups downs wanted i k) old old
  degree_first ups classes downs wanted old = adds_none (λ i k. Contains (take 0 classes) (get_or ups i 0) × HaveSum ups downs wanted i k) old (λ i k r. none_taken classes (get_or ups i 0) r.0)

  pub degree_step : (ups classes downs : List ℕ) (wanted place : ℕ) (old mid new : List Vector) → place < length classes
      → AddsSums Settled firsts seconds (λ i k. Contains (take place classes) (get_or ups i 0) × HaveSum ups downs wanted i k) old mid → AddsSums Settled firsts seconds (HaveSumFrom ups (get_or classes place 0) downs wanted) mid new
      → AddsSums Settled firsts seconds (λ i k. Contains (take (place + 1) classes) (get_or ups i 0) × HaveSum ups downs wanted i k) old new
  degree_step ups classes downs wanted place old mid new l = adds_then (λ i k. Contains (take place classes) (get_or ups i 0) × HaveSum ups downs wanted i k) (HaveSumFrom ups (get_or classes place 0) downs wanted) (λ i k. Contains (take (place + 1) classes) (get_or ups i 0) × HaveSum ups downs wanted i k) old mid new
      (λ i k r. (taken_more classes place (get_or ups i 0) l r.0, r.1))
      (λ i k r. (taken_now classes place (get_or ups i 0) l r.0.1, (r.0.0, (r.1.0, ap (λ (t : ℕ). t + get_or downs k 0) r.0.1 ∙ r.1.1))))
      (λ i k r. ⊎_elim (λ c. inl (c, r.1)) (λ e. inr ((r.1.0, sym e), (r.1.1.0, ap (λ (t : ℕ). t + get_or downs k 0) e ∙ r.1.1.1))) (taken_cases classes place (get_or ups i 0) l r.0))

  pub degree_last : (ups classes downs : List ℕ) (wanted place : ℕ) (none new : List Vector) → none ≡ [] → length classes ≤ place → Each (Contains classes) ups
      → AddsSums Settled firsts seconds (λ i k. Contains (take place classes) (get_or ups i 0) × HaveSum ups downs wanted i k) none new → AreSums Settled firsts ups seconds downs wanted new
  degree_last ups classes downs wanted place none new e l all a = adds_all ups downs wanted none new e (adds_same (λ i k. Contains (take place classes) (get_or ups i 0) × HaveSum ups downs wanted i k) (HaveSum ups downs wanted) none new
      (λ i k r. r.1)
      (λ i k r. (taken_all classes ups place i l all r.0, r)) a)
