-- A row is inserted: each new irreducible above it is the sum of one above and one beneath of smaller degree.
use Rattle.std.proofs.Common.{◌≡◌, ℕ, zero, suc, ◌+◌, ◌<◌, ◌⊎◌, inl, inr, List, [], ◌∷◌, ◌++◌, length, ℤ, pos, negsuc, ◌-ℤ◌, ◌≤ℤ◌, ◌<ℤ◌, nat_abs, Contains, refl, sym, ap, ◌∙◌, subst, arith}
use Rattle.std.proofs.lemmas.Int.{ints, by_lt_z}
use Rattle.std.specs.List.{AllByRecursion as Each}
use Rattle.nz_spec.specs.Vectors.{Vector, dot, plus, zero_vector, HasWidth, IsZero, IsNonzero}
use Rattle.nz_spec.specs.Laws.{IsDegreeOf}
use Rattle.nz_spec.specs.Monoids.{IsClosed, IsPositive, IsIrreducible}
use Rattle.nz_spec.proofs.VectorLaws.{dot-plus, dot-zero, dot-IsZero, plus_comm, plus_assoc, zero_or_not}
use Rattle.nz_spec.proofs.PartsSums.{plus-zero}
use Rattle.nz_spec.proofs.ListLaws.{Each-weaker, Each-contains}
use Rattle.nz_order.specs.Totals.{total, IsTotalOf}
use Rattle.nz_order.specs.Sides.{IsAbove, IsBeneath, IsLower, IsPairSum}
use Rattle.nz_order.proofs.SortLaws.{Each-append}
use Rattle.nz_order.proofs.TotalLaws.{total-append, total-to_front, total-member}

-- the sum of the sizes of the row's values
abbrev measure : Vector → List Vector → ℕ
measure h [] = 0
measure h (v ∷ ts) = nat_abs (dot h v) + measure h ts

measure-append : (h : Vector) (ts us : List Vector) → measure h (ts ++ us) ≡ measure h ts + measure h us
measure-append h [] us = omega arith
measure-append h (v ∷ ts) us = omega (arith, measure-append h ts us)

measure-to_front : (h : Vector) (before after : List Vector) (v : Vector) → measure h (before ++ v ∷ after) ≡ nat_abs (dot h v) + measure h (before ++ after)
measure-to_front h [] after v = refl
measure-to_front h (b ∷ before) after v = omega (arith, measure-to_front h before after v)

size_up : (a : ℤ) → pos 0 ≤ℤ a → pos (nat_abs a) ≡ a
size_up (pos n) h = refl
size_up (negsuc n) h = absurd (let f : ⊥ = omega (arith, ints, h) in f)

size_down : (a : ℤ) → a ≤ℤ pos 0 → pos (nat_abs a) ≡ pos 0 -ℤ a
size_down (pos zero) h = refl
size_down (pos (suc n)) h = absurd (let f : ⊥ = omega (arith, ints, h) in f)
size_down (negsuc n) h = omega (arith, ints)

-- a place at which a list is cut
record IsCutAt (P : Vector → Type 0) (ts : List Vector) : Type 0 where
  before : List Vector
  term : Vector
  after : List Vector
  whole : ts ≡ before ++ term ∷ after
  has : P term

find : (P Q : Vector → Type 0) → ((v : Vector) → P v ⊎ Q v) → (ts : List Vector) → IsCutAt P ts ⊎ Each Q ts
find P Q decide [] = inr tt
find P Q decide (v ∷ ts) = elim (decide v) [
  | inl p ↦ inl (record { before = []; term = v; after = ts; whole = refl; has = p })
  | inr q ↦ elim (find P Q decide ts) [
    | inl c ↦ inl (record { before = v ∷ c.before; term = c.term; after = c.after; whole = ap (λ us. v ∷ us) c.whole; has = c.has })
    | inr all ↦ inr (q, all)
  ]
]

Each-cut : (P : Vector → Type 0) (before after : List Vector) (v : Vector) → Each P (before ++ v ∷ after) → P v × Each P (before ++ after)
Each-cut P [] after v h = h
Each-cut P (b ∷ before) after v h = let r = Each-cut P before after v h.1 in (r.0, (h.0, r.1))

module _ (Member : Vector → Type 0) (closed : IsClosed Member) (w : ℕ) (wide : (x : Vector) → Member x → HasWidth w x) (zero_in : Member (zero_vector w)) (positive : IsPositive Member) (form : Vector) (degree : IsDegreeOf Member form) (h : Vector) where
  same_width : (x y : Vector) → Member x → Member y → length x ≡ length y
  same_width x y p q = wide x p ∙ sym (wide y q)

  degree_nonneg : (x : Vector) → Member x → pos 0 ≤ℤ dot form x
  degree_nonneg x m = elim (zero_or_not x) [
    | inl z ↦ (let e = dot-IsZero form x z in omega (arith, ints, e))
    | inr n ↦ (let d = degree x m n in omega (arith, ints, d))
  ]

  -- where both sides are cut, an irreducible of the whole is one of its side
  pub above_of : (v : Vector) → IsIrreducible Member v → pos 0 ≤ℤ dot h v → IsIrreducible (IsAbove Member h) v
  above_of v i p = record {
    member = record { member = i.member; at_least = p };
    nonzero = i.nonzero;
    no_sum = λ y z my ny mz nz e. i.no_sum y z my.member ny mz.member nz e;
  }

  pub beneath_of : (v : Vector) → IsIrreducible Member v → dot h v ≤ℤ pos 0 → IsIrreducible (IsBeneath Member h) v
  beneath_of v i p = record {
    member = record { member = i.member; at_most = p };
    nonzero = i.nonzero;
    no_sum = λ y z my ny mz nz e. i.no_sum y z my.member ny mz.member nz e;
  }

  nonpositive_total : (ts : List Vector) → Each Member ts → Each (λ v. dot h v ≤ℤ pos 0) ts → dot h (total w ts) ≤ℤ pos 0
  nonpositive_total [] m q = let e = dot-zero h w in omega (arith, ints, e)
  nonpositive_total (v ∷ ts) m q =
      let e = dot-plus h v (total w ts) (same_width v (total w ts) m.0 (total-member w Member closed zero_in ts m.1)) in
      let r = nonpositive_total ts m.1 q.1 in
      let p = q.0 in
      omega (arith, ints, e, r, p)

  measure_up : (ts : List Vector) → Each Member ts → Each (λ v. pos 0 ≤ℤ dot h v) ts → pos (measure h ts) ≡ dot h (total w ts)
  measure_up [] m q = let e = dot-zero h w in omega (arith, ints, e)
  measure_up (v ∷ ts) m q =
      let e = dot-plus h v (total w ts) (same_width v (total w ts) m.0 (total-member w Member closed zero_in ts m.1)) in
      let r = measure_up ts m.1 q.1 in
      let p = size_up (dot h v) q.0 in
      omega (arith, ints, e, r, p)

  measure_down : (ts : List Vector) → Each Member ts → Each (λ v. dot h v ≤ℤ pos 0) ts → pos (measure h ts) ≡ pos 0 -ℤ dot h (total w ts)
  measure_down [] m q = let e = dot-zero h w in omega (arith, ints, e)
  measure_down (v ∷ ts) m q =
      let e = dot-plus h v (total w ts) (same_width v (total w ts) m.0 (total-member w Member closed zero_in ts m.1)) in
      let r = measure_down ts m.1 q.1 in
      let p = size_down (dot h v) q.0 in
      omega (arith, ints, e, r, p)

  above_total : (ts : List Vector) → Each Member ts → Each (λ v. pos 0 ≤ℤ dot h v) ts → pos 0 ≤ℤ dot h (total w ts)
  above_total ts m q = let e = measure_up ts m q in omega (arith, ints, e)

  module _ (t : ℤ) (H : List Vector) (x : Vector) (i : IsIrreducible (IsAbove Member h) x) (at : dot form x ≡ t)
      (up : (y : Vector) → IsAbove Member h y → dot form y <ℤ t → IsTotalOf w (IsLower (IsAbove Member h) form t) y)
      (down : (y : Vector) → IsBeneath Member h y → dot form y <ℤ t → IsTotalOf w (IsLower (IsBeneath Member h) form t) y) where
    -- a term: an irreducible of one side, of the old list or of degree below t
    abbrev IsTerm : Vector → Type 0
    IsTerm v = (IsIrreducible (IsAbove Member h) v ⊎ IsIrreducible (IsBeneath Member h) v) × (Contains H v ⊎ (dot form v <ℤ t))

    term_member : (v : Vector) → IsTerm v → Member v
    term_member v k = elim k.0 [ inl a ↦ a.member.member | inr b ↦ b.member.member ]

    term_nonzero : (v : Vector) → IsTerm v → IsNonzero v
    term_nonzero v k = elim k.0 [ inl a ↦ a.nonzero | inr b ↦ b.nonzero ]

    -- no term is beneath: there is one term, and it is of the old list
    all_above : (ts : List Vector) → Each IsTerm ts → Each (λ v. pos 0 ≤ℤ dot h v) ts → total w ts ≡ x → Contains H x
    all_above [] k q e = absurd (i.nonzero (subst IsZero e (zeros w)))
      where
        zeros : (n : ℕ) → IsZero (zero_vector n)
        zeros zero = tt
        zeros (suc n) = (refl, zeros n)
    all_above (v ∷ ts) k q e =
        let mv = term_member v k.0 in
        let ms = Each-weaker IsTerm Member term_member ts k.1 in
        let mt = total-member w Member closed zero_in ts ms in
        elim (zero_or_not (total w ts)) [
          | inr n ↦ absurd (i.no_sum v (total w ts) (record { member = mv; at_least = q.0 }) (term_nonzero v k.0) (record { member = mt; at_least = above_total ts ms q.1 }) n e)
          | inl z ↦ (let s : v ≡ x = sym (plus-zero v (total w ts) (same_width v (total w ts) mv mt) z) ∙ e in
              elim k.0.1 [
                | inl c ↦ subst (Contains H) s c
                | inr lt ↦ absurd (let f = ap (dot form) s in omega (arith, ints, lt, f, at))
              ])
        ]

    -- with an irreducible beneath, one above, and others: the two are replaced by terms of their sum, and the measure falls
    abbrev IsFound : Type 0
    IsFound = Contains H x ⊎ IsPairSum Member h form t x

    nonneg_of : (v : Vector) → (dot h v <ℤ pos 0) ⊎ (pos 0 ≤ℤ dot h v)
    nonneg_of v = by_lt_z (dot h v) (pos 0) (λ (lt : dot h v <ℤ pos 0). inl lt) (λ (ge : pos 0 ≤ℤ dot h v). inr ge)

    positive_of : (v : Vector) → (pos 0 <ℤ dot h v) ⊎ (dot h v ≤ℤ pos 0)
    positive_of v = by_lt_z (pos 0) (dot h v) (λ (lt : pos 0 <ℤ dot h v). inl lt) (λ (ge : dot h v ≤ℤ pos 0). inr ge)

    is_above : (v : Vector) → IsTerm v → pos 0 <ℤ dot h v → IsIrreducible (IsAbove Member h) v
    is_above v k p = elim k.0 [ inl a ↦ a | inr b ↦ absurd (let q = b.member.at_most in let f : ⊥ = omega (arith, ints, p, q) in f) ]

    is_beneath : (v : Vector) → IsTerm v → dot h v <ℤ pos 0 → IsIrreducible (IsBeneath Member h) v
    is_beneath v k p = elim k.0 [ inl a ↦ absurd (let q = a.member.at_least in let f : ⊥ = omega (arith, ints, p, q) in f) | inr b ↦ b ]

    lower_above : (v : Vector) → IsLower (IsAbove Member h) form t v → IsTerm v
    lower_above v l = (inl l.irreducible, inr l.below)

    lower_beneath : (v : Vector) → IsLower (IsBeneath Member h) form t v → IsTerm v
    lower_beneath v l = (inr l.irreducible, inr l.below)

    -- the terms zs of the sum of p and n in their place
    replaced : (p n : Vector) (zs others : List Vector) → Each IsTerm zs → Each IsTerm others → total w zs ≡ plus p n → measure h zs < nat_abs (dot h p) + nat_abs (dot h n) → plus (plus p n) (total w others) ≡ x → ((ts : List Vector) → measure h ts < nat_abs (dot h p) + (nat_abs (dot h n) + measure h others) → Each IsTerm ts → total w ts ≡ x → IsFound) → IsFound
    replaced p n zs others kz ko e less s again =
        let a = measure-append h zs others in
        again (zs ++ others) (omega (arith, a, less)) (Each-append IsTerm zs others kz ko)
        (total-append w zs others (Each-weaker IsTerm (HasWidth w) (λ v k. wide v (term_member v k)) others ko) ∙ ap (λ v. plus v (total w others)) e ∙ s)

    by_up : (p n : Vector) (others : List Vector) → Member p → Member n → Each IsTerm others → pos 0 <ℤ dot h p → dot h n <ℤ pos 0 → plus (plus p n) (total w others) ≡ x → ((ts : List Vector) → measure h ts < nat_abs (dot h p) + (nat_abs (dot h n) + measure h others) → Each IsTerm ts → total w ts ≡ x → IsFound) → IsTotalOf w (IsLower (IsAbove Member h) form t) (plus p n) → IsFound
    by_up p n others mp mn ko hp hn s again u =
        let km : Each Member u.terms = Each-weaker (IsLower (IsAbove Member h) form t) Member (λ v l. l.irreducible.member.member) u.terms u.each in
        let ks : Each (λ v. pos 0 ≤ℤ dot h v) u.terms = Each-weaker (IsLower (IsAbove Member h) form t) (λ v. pos 0 ≤ℤ dot h v) (λ v l. l.irreducible.member.at_least) u.terms u.each in
        let size = measure_up u.terms km ks in
        let f = ap (dot h) u.same in
        let hy = dot-plus h p n (same_width p n mp mn) in
        let up_size = size_up (dot h p) (omega (arith, ints, hp)) in
        let down_size = size_down (dot h n) (omega (arith, ints, hn)) in
        replaced p n u.terms others (Each-weaker (IsLower (IsAbove Member h) form t) IsTerm lower_above u.terms u.each) ko u.same (omega (arith, ints, size, f, hy, up_size, down_size, hp, hn)) s again

    by_down : (p n : Vector) (others : List Vector) → Member p → Member n → Each IsTerm others → pos 0 <ℤ dot h p → dot h n <ℤ pos 0 → plus (plus p n) (total w others) ≡ x → ((ts : List Vector) → measure h ts < nat_abs (dot h p) + (nat_abs (dot h n) + measure h others) → Each IsTerm ts → total w ts ≡ x → IsFound) → IsTotalOf w (IsLower (IsBeneath Member h) form t) (plus p n) → IsFound
    by_down p n others mp mn ko hp hn s again u =
        let km : Each Member u.terms = Each-weaker (IsLower (IsBeneath Member h) form t) Member (λ v l. l.irreducible.member.member) u.terms u.each in
        let ks : Each (λ v. dot h v ≤ℤ pos 0) u.terms = Each-weaker (IsLower (IsBeneath Member h) form t) (λ v. dot h v ≤ℤ pos 0) (λ v l. l.irreducible.member.at_most) u.terms u.each in
        let size = measure_down u.terms km ks in
        let f = ap (dot h) u.same in
        let hy = dot-plus h p n (same_width p n mp mn) in
        let up_size = size_up (dot h p) (omega (arith, ints, hp)) in
        let down_size = size_down (dot h n) (omega (arith, ints, hn)) in
        replaced p n u.terms others (Each-weaker (IsLower (IsBeneath Member h) form t) IsTerm lower_beneath u.terms u.each) ko u.same (omega (arith, ints, size, f, hy, up_size, down_size, hp, hn)) s again

    -- p above and n beneath, and the others
    exchange : (p n : Vector) (others : List Vector) → IsTerm p → IsTerm n → Each IsTerm others → pos 0 <ℤ dot h p → dot h n <ℤ pos 0 → plus p (plus n (total w others)) ≡ x → ((ts : List Vector) → measure h ts < nat_abs (dot h p) + (nat_abs (dot h n) + measure h others) → Each IsTerm ts → total w ts ≡ x → IsFound) → IsFound
    exchange p n others kp kn ko hp hn e again =
        let mp = term_member p kp in
        let mn = term_member n kn in
        let ms = Each-weaker IsTerm Member term_member others ko in
        let mo = total-member w Member closed zero_in others ms in
        let y = plus p n in
        let my = closed p n mp mn in
        let s : plus y (total w others) ≡ x = plus_assoc p n (total w others) ∙ e in
        let dy = dot-plus form p n (same_width p n mp mn) in
        let dx = dot-plus form y (total w others) (same_width y (total w others) my mo) in
        let de = ap (dot form) s in
        let gp = degree p mp (term_nonzero p kp) in
        let gn = degree n mn (term_nonzero n kn) in
        let go = degree_nonneg (total w others) mo in
        let pair : IsZero (total w others) → IsPairSum Member h form t x = λ z. record {
          upper = p;
          lower = n;
          above = record { irreducible = is_above p kp hp; below = omega (arith, ints, dy, dx, de, gp, gn, go, at) };
          beneath = record { irreducible = is_beneath n kn hn; below = omega (arith, ints, dy, dx, de, gp, gn, go, at) };
          positive = hp;
          negative = hn;
          same = sym (plus-zero y (total w others) (same_width y (total w others) my mo) z) ∙ s;
        } in
        elim (zero_or_not (total w others)) [
          | inl z ↦ inr (pair z)
          | inr nz ↦ (let d1 = degree (total w others) mo nz in
              let small : dot form y <ℤ t = omega (arith, ints, dx, de, d1, at) in
              elim (nonneg_of y) [
                | inr ge ↦ by_up p n others mp mn ko hp hn s again (up y (record { member = my; at_least = ge }) small)
                | inl lt ↦ by_down p n others mp mn ko hp hn s again (down y (record { member = my; at_most = omega (arith, ints, lt) }) small)
              ])
        ]

    -- from the left: a term beneath, a term above, and the others
    search : (fuel : ℕ) (ts : List Vector) → measure h ts < fuel → Each IsTerm ts → total w ts ≡ x → IsFound
    search zero ts f k e = absurd (omega (arith, f))
    search (suc fuel) ts f k e = by_beneath (λ us g m s. search fuel us (omega (arith, f, g)) m s) (find (λ v. dot h v <ℤ pos 0) (λ v. pos 0 ≤ℤ dot h v) nonneg_of ts)
      where
        by_above : ((us : List Vector) → measure h us < measure h ts → Each IsTerm us → total w us ≡ x → IsFound) → (n : Vector) (rest : List Vector) → IsTerm n → Each IsTerm rest → dot h n <ℤ pos 0 → plus n (total w rest) ≡ x → measure h ts ≡ nat_abs (dot h n) + measure h rest → IsCutAt (λ v. pos 0 <ℤ dot h v) rest ⊎ Each (λ v. dot h v ≤ℤ pos 0) rest → IsFound
        by_above again n rest kn kr hn s m (inr none) =
            let mr = Each-weaker IsTerm Member term_member rest kr in
            let mt = total-member w Member closed zero_in rest mr in
            let q = nonpositive_total rest mr none in
            let d = dot-plus h n (total w rest) (same_width n (total w rest) (term_member n kn) mt) in
            let g = ap (dot h) s in
            let a = i.member.at_least in
            absurd (omega (arith, ints, q, d, g, a, hn))
        by_above again n rest kn kr hn s m (inl c) =
            let k2 = Each-cut IsTerm c.before c.after c.term (subst (Each IsTerm) c.whole kr) in
            let others = c.before ++ c.after in
            let p = c.term in
            let fr = ap (total w) c.whole ∙ total-to_front w c.before c.after p in
            let mm = ap (measure h) c.whole ∙ measure-to_front h c.before c.after p in
            let sum : plus p (plus n (total w others)) ≡ x =
            sym (plus_assoc p n (total w others)) ∙ ap (λ v. plus v (total w others)) (plus_comm p n) ∙ plus_assoc n p (total w others) ∙ ap (plus n) (sym fr) ∙ s in
            exchange p n others k2.0 kn k2.1 c.has hn sum (λ us g k3 e3. again us (omega (arith, g, m, mm)) k3 e3)

        by_beneath : ((us : List Vector) → measure h us < measure h ts → Each IsTerm us → total w us ≡ x → IsFound) → IsCutAt (λ v. dot h v <ℤ pos 0) ts ⊎ Each (λ v. pos 0 ≤ℤ dot h v) ts → IsFound
        by_beneath again (inr all) = inl (all_above ts k all e)
        by_beneath again (inl c) =
            let k2 = Each-cut IsTerm c.before c.after c.term (subst (Each IsTerm) c.whole k) in
            let rest = c.before ++ c.after in
            let s = sym (total-to_front w c.before c.after c.term) ∙ sym (ap (total w) c.whole) ∙ e in
            let m = ap (measure h) c.whole ∙ measure-to_front h c.before c.after c.term in
            by_above again c.term rest k2.0 k2.1 c.has s m (find (λ v. pos 0 <ℤ dot h v) (λ v. dot h v ≤ℤ pos 0) positive_of rest)

    -- an irreducible above the row, of degree t, is an old irreducible or the sum of one above and one beneath of smaller degree
    pub new_irreducible : Each (IsIrreducible Member) H → ((y : Vector) → Member y → IsTotalOf w (Contains H) y) → Contains H x ⊎ IsPairSum Member h form t x
    new_irreducible only all =
        let u = all x i.member.member in
        search (suc (measure h u.terms)) u.terms (omega arith)
        (Each-weaker (Contains H) IsTerm (λ v c.
        let iv = Each-contains (IsIrreducible Member) H v only c in
        elim (nonneg_of v) [
          | inr ge ↦ (inl (above_of v iv ge), inl c)
          | inl lt ↦ (inr (beneath_of v iv (omega (arith, ints, lt))), inl c)
        ]) u.terms u.each)
        u.same
