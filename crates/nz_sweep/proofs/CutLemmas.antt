-- What clearing and cuts do to the group of a base and to its independence, on lists of vectors.
use Rattle.std.proofs.Common.{◌≡◌, ◌≢◌, ◌↔◌, ℕ, suc, List, [], ◌∷◌, ◌++◌, length, ℤ, pos, ◌+ℤ◌, ◌*ℤ◌, refl, sym, ap, ◌∙◌, subst, arith}
use Rattle.std.proofs.Math.IntN.{*ℤ_comm, zero-*ℤ}
use Rattle.std.specs.List.{AllByRecursion as Each, AllZip}
use Rattle.std.proofs.lemmas.List.{append_assoc}
use Rattle.nz_spec.specs.Vectors.{Vector, dot, plus, scaled, combination, HasWidth, IsZero}
use Rattle.nz_spec.specs.Sums.{IsInGroup, IsIndependent}
use Rattle.nz_spec.proofs.IntLaws.{zero_product}
use Rattle.nz_spec.proofs.SumLaws.{length-combination}
use Rattle.nz_spec.proofs.VectorLaws.{dot-scaled, scaled-scaled}
use Rattle.nz_spec.proofs.ListLaws.{contains_here}
use Rattle.nz_linear.proofs.Ring.{sums, ring_z}
use Rattle.nz_linear.proofs.Lists.{each_insert, each_remove}
use Rattle.nz_linear.proofs.VectorLaws.{length-plus, length-scaled, dot-plus, plus_left_comm, same_values}
use Rattle.nz_linear.proofs.Combinations.{combination-skip}
use Rattle.nz_linear.proofs.GroupCuts.{cleared_group}

-- us have that width, are independent if vs are, and generate the group that vs generate
pub record AreBaseOfSame (w : ℕ) (vs us : List Vector) : Type 0 where
  pub widths : Each (HasWidth w) us
  pub independent : IsIndependent w vs → IsIndependent w us
  pub same : (x : Vector) → IsInGroup w vs x ↔ IsInGroup w us x

-- ---- one vector of a base stands first instead
-- factors with one taken out, which make the same sum of the vector at that place and the others
record IsTakenOut (w : ℕ) (p : Vector) (others : List Vector) (cs : List ℤ) (x : Vector) : Type 0 where
  first : ℤ
  rest : List ℤ
  one_each : length rest ≡ length others
  same : x ≡ combination w (first ∷ rest) (p ∷ others)
  zero : IsZero (first ∷ rest) → IsZero cs

taken_out : (w : ℕ) (xs : List Vector) (p : Vector) (ys : List Vector) (cs : List ℤ) → length cs ≡ length (xs ++ p ∷ ys) → IsTakenOut w p (xs ++ ys) cs (combination w cs (xs ++ p ∷ ys))
taken_out w [] p ys [] l = absurd (omega arith)
taken_out w [] p ys (c ∷ cs) l = record { first = c; rest = cs; one_each = omega arith; same = refl; zero = λ z. z }
taken_out w (x ∷ xs) p ys [] l = absurd (omega arith)
taken_out w (x ∷ xs) p ys (c ∷ cs) l =
    let t = taken_out w xs p ys cs (omega arith) in
    record {
      first = t.first;
      rest = c ∷ t.rest;
      one_each = ap suc t.one_each;
      same = ap (plus (scaled c x)) t.same ∙ plus_left_comm (scaled c x) (scaled t.first p) (combination w t.rest (xs ++ ys));
      zero = λ z. (z.1.0, t.zero (z.0, z.1.1));
    }

-- factors put in
record IsPutIn (w : ℕ) (xs : List Vector) (p : Vector) (ys : List Vector) (c : ℤ) (ds : List ℤ) : Type 0 where
  factors : List ℤ
  one_each : length factors ≡ length (xs ++ p ∷ ys)
  same : combination w factors (xs ++ p ∷ ys) ≡ combination w (c ∷ ds) (p ∷ (xs ++ ys))
  zero : IsZero factors → IsZero (c ∷ ds)

put_in : (w : ℕ) (xs : List Vector) (p : Vector) (ys : List Vector) (c : ℤ) (ds : List ℤ) → length ds ≡ length (xs ++ ys) → IsPutIn w xs p ys c ds
put_in w [] p ys c ds l = record { factors = c ∷ ds; one_each = ap suc l; same = refl; zero = λ z. z }
put_in w (x ∷ xs) p ys c [] l = absurd (omega arith)
put_in w (x ∷ xs) p ys c (d ∷ ds) l =
    let t = put_in w xs p ys c ds (omega arith) in
    record {
      factors = d ∷ t.factors;
      one_each = ap suc t.one_each;
      same = ap (plus (scaled d x)) t.same ∙ plus_left_comm (scaled d x) (scaled c p) (combination w ds (xs ++ ys));
      zero = λ z. let r = t.zero z.1 in (r.0, (z.0, r.1));
    }

pub base_first : (w : ℕ) (xs : List Vector) (p : Vector) (ys : List Vector) → Each (HasWidth w) (xs ++ p ∷ ys) → AreBaseOfSame w (xs ++ p ∷ ys) (p ∷ (xs ++ ys))
base_first w xs p ys l = record {
  widths = each_remove (HasWidth w) p xs ys l;
  independent = independent;
  same = λ x. (
    (λ k. let t = taken_out w xs p ys k.factors k.one_each in record { factors = t.first ∷ t.rest; one_each = ap suc t.one_each; same = sym t.same ∙ k.same }),
    (λ k. back x k.factors k.one_each k.same),
  );
}
  where
    independent : IsIndependent w (xs ++ p ∷ ys) → (cs : List ℤ) → length cs ≡ length (p ∷ (xs ++ ys)) → IsZero (combination w cs (p ∷ (xs ++ ys))) → IsZero cs
    independent i [] e z = absurd (omega arith)
    independent i (c ∷ ds) e z = let t = put_in w xs p ys c ds (omega arith) in t.zero (i t.factors t.one_each (subst IsZero (sym t.same) z))

    back : (x : Vector) (cs : List ℤ) → length cs ≡ length (p ∷ (xs ++ ys)) → combination w cs (p ∷ (xs ++ ys)) ≡ x → IsInGroup w (xs ++ p ∷ ys) x
    back x [] e s = absurd (omega arith)
    back x (c ∷ ds) e s = let t = put_in w xs p ys c ds (omega arith) in record { factors = t.factors; one_each = t.one_each; same = t.same ∙ s }

pub base_back : (w : ℕ) (xs : List Vector) (p : Vector) (ys : List Vector) → Each (HasWidth w) (p ∷ (xs ++ ys)) → AreBaseOfSame w (p ∷ (xs ++ ys)) (xs ++ p ∷ ys)
base_back w xs p ys l =
    let widths : Each (HasWidth w) (xs ++ p ∷ ys) = each_insert (HasWidth w) p xs ys l in
    let b = base_first w xs p ys widths in
    record { widths = widths; independent = λ i cs e z. let t = taken_out w xs p ys cs e in t.zero (i (t.first ∷ t.rest) (ap suc t.one_each) (subst IsZero t.same z)); same = λ x. ((b.same x).1, (b.same x).0) }

-- ---- and the way goes on
pub base_then : (w : ℕ) (vs us ts : List Vector) → AreBaseOfSame w vs us → AreBaseOfSame w us ts → AreBaseOfSame w vs ts
base_then w vs us ts a b = record { widths = b.widths; independent = λ i. b.independent (a.independent i); same = λ x. ((λ k. (b.same x).0 ((a.same x).0 k)), (λ k. (a.same x).1 ((b.same x).1 k))) }

pub base_self : (w : ℕ) (vs : List Vector) → Each (HasWidth w) vs → AreBaseOfSame w vs vs
base_self w vs l = record { widths = l; independent = λ i. i; same = λ x. ((λ k. k), (λ k. k)) }

-- ---- one vector changed by the first
changed_sum : (w : ℕ) (p b s : Vector) (c d q : ℤ) → HasWidth w p → HasWidth w b → HasWidth w s → plus (scaled c p) (plus (scaled d (plus b (scaled q p))) s) ≡ plus (scaled (c +ℤ d *ℤ q) p) (plus (scaled d b) s)
changed_sum w p b s c d q lp lb ls =
    let lq = length-scaled w q p lp in
    let lc = length-scaled w c p lp in
    let ln = length-plus w b (scaled q p) lb lq in
    let ldn = length-scaled w d (plus b (scaled q p)) ln in
    let ldb = length-scaled w d b lb in
    let lk = length-scaled w (c +ℤ d *ℤ q) p lp in
    let l1 = length-plus w (scaled d (plus b (scaled q p))) s ldn ls in
    let l2 = length-plus w (scaled d b) s ldb ls in
    same_values w _ _ (length-plus w (scaled c p) (plus (scaled d (plus b (scaled q p))) s) lc l1) (length-plus w (scaled (c +ℤ d *ℤ q) p) (plus (scaled d b) s) lk l2)
    (λ f. value f (dot-plus w f (scaled c p) (plus (scaled d (plus b (scaled q p))) s) lc l1) (dot-plus w f (scaled d (plus b (scaled q p))) s ldn ls) (dot-scaled f d (plus b (scaled q p)) ∙ ap (λ t. d *ℤ t) (dot-plus w f b (scaled q p) lb lq ∙ ap (λ t. dot f b +ℤ t) (dot-scaled f q p)))
    (dot-plus w f (scaled (c +ℤ d *ℤ q) p) (plus (scaled d b) s) lk l2) (dot-plus w f (scaled d b) s ldb ls))
  where
    ring : (c d q p b s : ℤ) → c *ℤ p +ℤ (d *ℤ (b +ℤ q *ℤ p) +ℤ s) ≡ (c +ℤ d *ℤ q) *ℤ p +ℤ (d *ℤ b +ℤ s)
    ring c d q p b s = simp ring_z (omega (arith, sums))

    value : (f : Vector) → dot f (plus (scaled c p) (plus (scaled d (plus b (scaled q p))) s)) ≡ dot f (scaled c p) +ℤ dot f (plus (scaled d (plus b (scaled q p))) s) → dot f (plus (scaled d (plus b (scaled q p))) s) ≡ dot f (scaled d (plus b (scaled q p))) +ℤ dot f s → dot f (scaled d (plus b (scaled q p))) ≡ d *ℤ (dot f b +ℤ q *ℤ dot f p)
        → dot f (plus (scaled (c +ℤ d *ℤ q) p) (plus (scaled d b) s)) ≡ dot f (scaled (c +ℤ d *ℤ q) p) +ℤ dot f (plus (scaled d b) s) → dot f (plus (scaled d b) s) ≡ dot f (scaled d b) +ℤ dot f s
        → dot f (plus (scaled c p) (plus (scaled d (plus b (scaled q p))) s)) ≡ dot f (plus (scaled (c +ℤ d *ℤ q) p) (plus (scaled d b) s))
    value f a1 a2 a3 b1 b2 = omega (arith, sums, a1, a2, a3, b1, b2, dot-scaled f c p, dot-scaled f (c +ℤ d *ℤ q) p, dot-scaled f d b, ring c d q (dot f p) (dot f b) (dot f s))

pub changed_second : (w : ℕ) (p b : Vector) (others : List Vector) (q : ℤ) → Each (HasWidth w) (p ∷ b ∷ others) → AreBaseOfSame w (p ∷ b ∷ others) (p ∷ plus b (scaled q p) ∷ others)
changed_second w p b others q l = record {
  widths = (l.0, (length-plus w b (scaled q p) l.1.0 (length-scaled w q p l.0), l.1.1));
  independent = independent;
  same = λ x. cleared_group w (p ∷ []) b p others q x l.1.0 (l.0, l.1.1) (contains_here p others);
}
  where
    zero_first : (c d q : ℤ) → c +ℤ d *ℤ q ≡ pos 0 → d ≡ pos 0 → c ≡ pos 0
    zero_first c d q e n = let m = ap (λ t. t *ℤ q) n ∙ zero-*ℤ q in omega (arith, sums, e, m)

    independent : IsIndependent w (p ∷ b ∷ others) → (cs : List ℤ) → length cs ≡ length (p ∷ plus b (scaled q p) ∷ others) → IsZero (combination w cs (p ∷ plus b (scaled q p) ∷ others)) → IsZero cs
    independent i [] e z = absurd (omega arith)
    independent i (c ∷ []) e z = absurd (omega arith)
    independent i (c ∷ d ∷ cs) e z =
        let r = i ((c +ℤ d *ℤ q) ∷ d ∷ cs) e (subst IsZero (changed_sum w p b (combination w cs others) c d q l.0 l.1.0 (length-combination w cs others l.1.1)) z) in
        (zero_first c d q r.0 r.1.0, r.1)

-- all others changed by the first, one by one
abbrev pub IsChangedBy : Vector → Vector → Vector → Type 0
IsChangedBy p b c = (q : ℤ) × (c ≡ plus b (scaled q p))

changed_at : (w : ℕ) (p : Vector) (xs : List Vector) (b c : Vector) (ys : List Vector) → Each (HasWidth w) (p ∷ (xs ++ b ∷ ys)) → IsChangedBy p b c → AreBaseOfSame w (p ∷ (xs ++ b ∷ ys)) (p ∷ (xs ++ c ∷ ys))
changed_at w p xs b c ys l k =
    let one = base_first w (p ∷ xs) b ys l in
    let two = base_back w (p ∷ []) b (xs ++ ys) one.widths in
    let three = changed_second w p b (xs ++ ys) k.0 two.widths in
    let three' : AreBaseOfSame w (p ∷ b ∷ (xs ++ ys)) (p ∷ c ∷ (xs ++ ys)) = subst (λ (t : Vector). AreBaseOfSame w (p ∷ b ∷ (xs ++ ys)) (p ∷ t ∷ (xs ++ ys))) (sym k.1) three in
    let four = base_first w (p ∷ []) c (xs ++ ys) three'.widths in
    let five = base_back w (p ∷ xs) c ys four.widths in
    base_then w _ _ _ one (base_then w _ _ _ two (base_then w _ _ _ three' (base_then w _ _ _ four five)))

pub changed_all : (w : ℕ) (p : Vector) (xs bs cs : List Vector) → Each (HasWidth w) (p ∷ (xs ++ bs)) → AllZip (IsChangedBy p) bs cs → AreBaseOfSame w (p ∷ (xs ++ bs)) (p ∷ (xs ++ cs))
changed_all w p xs [] [] l z = base_self w (p ∷ (xs ++ [])) l
changed_all w p xs [] (c ∷ cs) l z = absurd z
changed_all w p xs (b ∷ bs) [] l z = absurd z
changed_all w p xs (b ∷ bs) (c ∷ cs) l z =
    let here = changed_at w p xs b c bs l z.0 in
    let e : (ys : List Vector) → (xs ++ (c ∷ [])) ++ ys ≡ xs ++ (c ∷ ys) = λ ys. append_assoc xs (c ∷ []) ys in
    let l' : Each (HasWidth w) (p ∷ ((xs ++ (c ∷ [])) ++ bs)) = subst (λ (t : List Vector). Each (HasWidth w) (p ∷ t)) (sym (e bs)) here.widths in
    let later = changed_all w p (xs ++ (c ∷ [])) bs cs l' z.1 in
    let later' : AreBaseOfSame w (p ∷ (xs ++ (c ∷ bs))) (p ∷ ((xs ++ (c ∷ [])) ++ cs)) = subst (λ (t : List Vector). AreBaseOfSame w (p ∷ t) (p ∷ ((xs ++ (c ∷ [])) ++ cs))) (e bs) later in
    let later'' : AreBaseOfSame w (p ∷ (xs ++ (c ∷ bs))) (p ∷ (xs ++ (c ∷ cs))) = subst (λ (t : List Vector). AreBaseOfSame w (p ∷ (xs ++ (c ∷ bs))) (p ∷ t)) (e cs) later' in
    base_then w _ _ _ here later''

-- ---- the first left out, or multiplied
pub independent_rest : (w : ℕ) (p : Vector) (others : List Vector) → Each (HasWidth w) (p ∷ others) → IsIndependent w (p ∷ others) → IsIndependent w others
independent_rest w p others l i = λ cs e z. (i (pos 0 ∷ cs) (ap suc e) (subst IsZero (sym (combination-skip w cs p others l.0 l.1)) z)).1

pub independent_multiple : (w : ℕ) (m : ℤ) (p : Vector) (others : List Vector) → m ≢ pos 0 → IsIndependent w (p ∷ others) → IsIndependent w (scaled m p ∷ others)
independent_multiple w m p others n i = by
  where
    by : (cs : List ℤ) → length cs ≡ length (scaled m p ∷ others) → IsZero (combination w cs (scaled m p ∷ others)) → IsZero cs
    by [] e z = absurd (omega arith)
    by (c ∷ cs) e z =
        let r = i ((c *ℤ m) ∷ cs) e (subst (λ (t : Vector). IsZero (plus t (combination w cs others))) (scaled-scaled c m p) z) in
        (zero_product m c n (*ℤ_comm m c ∙ r.0), r.1)
