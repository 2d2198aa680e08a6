-- Clearing, on lists of vectors with their values.
use Rattle.std.proofs.Common.{◌≡◌, ◌≢◌, inl, inr, ℕ, zero, suc, ◌+◌, ◌<◌, List, [], ◌∷◌, ◌++◌, length, get_or, take, drop, ℤ, pos, negsuc, ◌+ℤ◌, ◌-ℤ◌, ◌*ℤ◌, neg_ℤ, ◌<ℤ◌, ◌≤ℤ◌, refl, sym, ap, ◌∙◌, subst, arith}
use Rattle.std.specs.Prelude.{unsigned_abs}
use Rattle.std.specs.List.{AllByRecursion as Each, AllZip, insert, remove}
use Rattle.std.proofs.lemmas.Int.{ints}
use Rattle.std.proofs.lemmas.List.{take-append-drop, take_more}
use Rattle.nz_spec.specs.Vectors.{Vector, dot, plus, scaled, HasWidth, IsMultipleOf}
use Rattle.nz_spec.proofs.IntLaws.{multiple_sub, multiple_mul}
use Rattle.nz_spec.proofs.VectorLaws.{dot-scaled, one-scaled}
use Rattle.nz_spec.proofs.ListLaws.{zip_push}
use Rattle.nz_scalar.specs.Division.{IsFloorQuotient}
use Rattle.nz_linear.proofs.Ring.{sums, ring_z}
use Rattle.nz_linear.proofs.Signs.{sign_cases}
use Rattle.nz_linear.proofs.Lists.{each_insert, each_remove}
use Rattle.nz_linear.proofs.VectorLaws.{length-plus, length-scaled, dot-plus}
use Rattle.nz_sweep.specs.Clearing.{Valued, vectors_of, IsReduced, IsRound, AreRounds, none, more, IsCleared}
use Rattle.nz_sweep.proofs.CutLemmas.{AreBaseOfSame, base_first, base_back, base_then, base_self, changed_all, IsChangedBy}

-- the value is that of the form at the vector, up to a multiple of m; up to nothing where m is 0
abbrev pub IsValueOf : Vector → ℤ → Valued → Type 0
IsValueOf h m v = IsMultipleOf m (dot h v.vector -ℤ v.value)

-- from vectors with values to others, which generate the same group, and are a base if the former are; their values stay those of any form
abbrev pub Clears : ℕ → List Valued → List Valued → Type 0
Clears w vs us = Each (HasWidth w) (vectors_of vs) → AreBaseOfSame w (vectors_of vs) (vectors_of us) × ((h : Vector) (m : ℤ) → Each (IsValueOf h m) vs → Each (IsValueOf h m) us)

vectors_join : (xs ys : List Valued) → vectors_of (xs ++ ys) ≡ vectors_of xs ++ vectors_of ys
vectors_join [] ys = refl
vectors_join (x ∷ xs) ys = ap (λ t. x.vector ∷ t) (vectors_join xs ys)

pub clears_then : (w : ℕ) (vs us ts : List Valued) → Clears w vs us → Clears w us ts → Clears w vs ts
clears_then w vs us ts a b = λ l.
    let x = a l in
    let y = b x.0.widths in
    (base_then w _ _ _ x.0 y.0, λ h m v. y.1 h m (x.1 h m v))

pub clears_self : (w : ℕ) (vs : List Valued) → Clears w vs vs
clears_self w vs = λ l. (base_self w _ l, λ h m v. v)

out_split : (w : ℕ) (xs : List Valued) (v : Valued) (ys : List Valued) → Clears w (xs ++ v ∷ ys) (v ∷ (xs ++ ys))
out_split w xs v ys = λ l.
    let e = vectors_join xs (v ∷ ys) in
    let b = base_first w (vectors_of xs) v.vector (vectors_of ys) (subst (Each (HasWidth w)) e l) in
    (subst (λ (t : List Vector). AreBaseOfSame w t (v.vector ∷ vectors_of (xs ++ ys))) (sym e) (subst (λ (t : List Vector). AreBaseOfSame w (vectors_of xs ++ v.vector ∷ vectors_of ys) (v.vector ∷ t)) (sym (vectors_join xs ys)) b), λ h m k. each_remove (IsValueOf h m) v xs ys k)

in_split : (w : ℕ) (xs : List Valued) (v : Valued) (ys : List Valued) → Clears w (v ∷ (xs ++ ys)) (xs ++ v ∷ ys)
in_split w xs v ys = λ l.
    let e = vectors_join xs ys in
    let b = base_back w (vectors_of xs) v.vector (vectors_of ys) (subst (λ (t : List Vector). Each (HasWidth w) (v.vector ∷ t)) e l) in
    (subst (λ (t : List Vector). AreBaseOfSame w (v.vector ∷ t) (vectors_of (xs ++ v ∷ ys))) (sym e) (subst (λ (t : List Vector). AreBaseOfSame w (v.vector ∷ (vectors_of xs ++ vectors_of ys)) t) (sym (vectors_join xs (v ∷ ys))) b), λ h m k. each_insert (IsValueOf h m) v xs ys k)

-- a vector is taken out to the front
record SplitAt (vs ls : List Valued) (v : Valued) : Type 0 where
  front : List Valued
  back : List Valued
  whole : vs ≡ front ++ v ∷ back
  others : ls ≡ front ++ back

removed : (vs : List Valued) (i : ℕ) (v : Valued) → i < length vs → v ≡ get_or vs i v → SplitAt vs (remove vs i) v
removed [] i v l e = absurd (omega arith)
removed (u ∷ vs) zero v l e = record { front = []; back = vs; whole = ap (λ t. t ∷ vs) (sym e); others = refl }
removed (u ∷ vs) (suc i) v l e =
    let s = removed vs i v (omega arith) e in
    record { front = u ∷ s.front; back = s.back; whole = ap (λ t. u ∷ t) s.whole; others = ap (λ t. u ∷ t) s.others }

pub clears_out : (w : ℕ) (vs ls : List Valued) (i : ℕ) (v : Valued) → i < length vs → v ≡ get_or vs i v → ls ≡ remove vs i → Clears w vs (v ∷ ls)
clears_out w vs ls i v l e r =
    let s = removed vs i v l e in
    subst (λ (t : List Valued). Clears w t (v ∷ ls)) (sym s.whole) (subst (λ (t : List Valued). Clears w (s.front ++ v ∷ s.back) (v ∷ t)) (sym (r ∙ s.others)) (out_split w s.front v s.back))

pub clears_in : (w : ℕ) (vs ls : List Valued) (i : ℕ) (v : Valued) → ls ≡ insert vs i v → Clears w (v ∷ vs) ls
clears_in w vs ls i v e =
    subst (Clears w (v ∷ vs)) (sym e) (subst (λ (t : List Valued). Clears w (v ∷ t) (insert vs i v)) (take-append-drop i vs) (in_split w (take i vs) v (drop i vs)))

-- ---- one round
reduced_value : (h : Vector) (m : ℤ) (w : ℕ) (p b c : Valued) → HasWidth w p.vector → HasWidth w b.vector → IsReduced p b c → IsValueOf h m p → IsValueOf h m b → IsValueOf h m c
reduced_value h m w p b c lp lb r vp vb =
    let e : dot h c.vector ≡ dot h b.vector +ℤ neg_ℤ r.q *ℤ dot h p.vector = ap (dot h) r.vector ∙ dot-plus w h b.vector (scaled (neg_ℤ r.q) p.vector) lb (length-scaled w (neg_ℤ r.q) p.vector lp) ∙ ap (λ t. dot h b.vector +ℤ t) (dot-scaled h (neg_ℤ r.q) p.vector) in
    subst (IsMultipleOf m) (ring (dot h b.vector) b.value r.q (dot h p.vector) p.value (dot h c.vector) c.value e r.value)
    (multiple_sub m (dot h b.vector -ℤ b.value) (r.q *ℤ (dot h p.vector -ℤ p.value)) vb (multiple_mul m r.q (dot h p.vector -ℤ p.value) vp))
  where
    plain : (b v q p u : ℤ) → (b -ℤ v) -ℤ q *ℤ (p +ℤ neg_ℤ u) ≡ (b +ℤ neg_ℤ q *ℤ p) -ℤ (v -ℤ q *ℤ u)
    plain b v q p u = simp ring_z (omega (arith, sums))

    less : (p u : ℤ) → p -ℤ u ≡ p +ℤ neg_ℤ u
    less p u = omega (arith, sums)

    ring : (b v q p u c k : ℤ) → c ≡ b +ℤ neg_ℤ q *ℤ p → k ≡ v -ℤ q *ℤ u → (b -ℤ v) -ℤ q *ℤ (p -ℤ u) ≡ c -ℤ k
    ring b v q p u c k e f = ap (λ t. (b -ℤ v) -ℤ q *ℤ t) (less p u) ∙ plain b v q p u ∙ ap (λ t. t -ℤ (v -ℤ q *ℤ u)) (sym e) ∙ ap (λ t. c -ℤ t) (sym f)

zip_vectors : (p : Valued) (bs cs : List Valued) → AllZip (IsReduced p) bs cs → AllZip (IsChangedBy p.vector) (vectors_of bs) (vectors_of cs)
zip_vectors p [] [] z = tt
zip_vectors p [] (c ∷ cs) z = absurd z
zip_vectors p (b ∷ bs) [] z = absurd z
zip_vectors p (b ∷ bs) (c ∷ cs) z = ((neg_ℤ z.0.q, z.0.vector), zip_vectors p bs cs z.1)

zip_values : (h : Vector) (m : ℤ) (w : ℕ) (p : Valued) (bs cs : List Valued) → HasWidth w p.vector → IsValueOf h m p → Each (HasWidth w) (vectors_of bs) → Each (IsValueOf h m) bs → AllZip (IsReduced p) bs cs → Each (IsValueOf h m) cs
zip_values h m w p [] [] lp vp l v z = tt
zip_values h m w p [] (c ∷ cs) lp vp l v z = absurd z
zip_values h m w p (b ∷ bs) [] lp vp l v z = absurd z
zip_values h m w p (b ∷ bs) (c ∷ cs) lp vp l v z = (reduced_value h m w p b c lp l.0 z.0 vp v.0, zip_values h m w p bs cs lp vp l.1 v.1 z.1)

pub clears_round : (w : ℕ) (p : Valued) (bs cs : List Valued) → AllZip (IsReduced p) bs cs → Clears w (p ∷ bs) (p ∷ cs)
clears_round w p bs cs z = λ l. (changed_all w p.vector [] (vectors_of bs) (vectors_of cs) l (zip_vectors p bs cs z), λ h m v. (v.0, zip_values h m w p bs cs l.0 v.0 l.1 v.1 z))

-- ---- the values of the others get smaller than that of the vector that clears them
smaller : (a p q c : ℤ) → p ≢ pos 0 → IsFloorQuotient a p q → c ≡ a -ℤ q *ℤ p → unsigned_abs c < unsigned_abs p
smaller a p q c n f e = elim (sign_cases p) [
  | inl z ↦ absurd (n z)
  | inr (inl k) ↦ let r = f.above k in near_above c p k (low r.0) (high r.1)
  | inr (inr k) ↦ let r = f.below k in near_below c p k (top r.0) (bottom r.1)
]
  where
    wide : (q +ℤ pos 1) *ℤ p ≡ q *ℤ p +ℤ p
    wide = simp ring_z (omega (arith, sums))

    low : (q *ℤ p) ≤ℤ a → pos 0 ≤ℤ c
    low k = omega (arith, sums, e, k)

    high : a <ℤ ((q +ℤ pos 1) *ℤ p) → c <ℤ p
    high k = omega (arith, sums, e, k, wide)

    top : a ≤ℤ (q *ℤ p) → c ≤ℤ pos 0
    top k = omega (arith, sums, e, k)

    bottom : ((q +ℤ pos 1) *ℤ p) <ℤ a → p <ℤ c
    bottom k = omega (arith, sums, e, k, wide)

    near_above : (c p : ℤ) → pos 0 <ℤ p → pos 0 ≤ℤ c → c <ℤ p → unsigned_abs c < unsigned_abs p
    near_above (pos c) (pos p) k l h = omega (arith, ints, h)
    near_above (negsuc c) p k l h = absurd (omega (arith, ints, l))
    near_above c (negsuc p) k l h = absurd (omega (arith, ints, k))

    near_below : (c p : ℤ) → p <ℤ pos 0 → c ≤ℤ pos 0 → p <ℤ c → unsigned_abs c < unsigned_abs p
    near_below (pos c) (negsuc p) k l h = omega (arith, ints, h, l)
    near_below (negsuc c) (negsuc p) k l h = omega (arith, ints, h)
    near_below c (pos p) k l h = absurd (omega (arith, ints, k))

pub round_smaller : (p : Valued) (bs cs : List Valued) → p.value ≢ pos 0 → AllZip (IsReduced p) bs cs → Each (λ (c : Valued). unsigned_abs c.value < unsigned_abs p.value) cs
round_smaller p [] [] n z = tt
round_smaller p [] (c ∷ cs) n z = absurd z
round_smaller p (b ∷ bs) [] n z = absurd z
round_smaller p (b ∷ bs) (c ∷ cs) n z = (smaller b.value p.value z.0.q c.value n z.0.floor z.0.value, round_smaller p bs cs n z.1)

-- what the code reckons is the vector reduced
pub reduced_of : (p b c : Valued) (q t f one bv pv : ℤ) (bx px : Vector) → b.vector ≡ bx → b.value ≡ bv → p.vector ≡ px → p.value ≡ pv → IsFloorQuotient bv pv q → t ≡ q *ℤ pv → c.value ≡ bv -ℤ t → f ≡ pos 0 -ℤ q → one ≡ pos 1 → c.vector ≡ plus (scaled one bx) (scaled f px) → IsReduced p b c
reduced_of p b c q t f one bv pv bx px eb ev ep eu fl et ec ef eo ex =
    let g : f ≡ neg_ℤ q = omega (arith, sums, ef) in
    record {
      q = q;
      floor = subst (λ (u : ℤ). IsFloorQuotient b.value u q) (sym eu) (subst (λ (u : ℤ). IsFloorQuotient u pv q) (sym ev) fl);
      vector = ex ∙ ap (λ (u : ℤ). plus (scaled u bx) (scaled f px)) eo ∙ ap (λ (u : Vector). plus u (scaled f px)) (one-scaled bx) ∙ ap (λ (u : Vector). plus u (scaled f px)) (sym eb) ∙ ap (λ (u : Vector). plus b.vector (scaled f u)) (sym ep) ∙ ap (λ (u : ℤ). plus b.vector (scaled u p.vector)) g;
      value = ec ∙ ap (λ (u : ℤ). bv -ℤ u) (et ∙ ap (λ (u : ℤ). q *ℤ u) (sym eu)) ∙ ap (λ (u : ℤ). u -ℤ q *ℤ p.value) (sym ev);
    }

pub zip_more : {A B : Type 0} (R : A → B → Type 0) (xs : List A) (ys zs : List B) (i : ℕ) (x : A) (y : B) → i < length xs → x ≡ get_or xs i x → AllZip R (take i xs) ys → R x y → zs ≡ ys ++ (y ∷ []) → AllZip R (take (i + 1) xs) zs
zip_more R xs ys zs i x y l e z r s = subst (AllZip R (take (i + 1) xs)) (sym s) (subst (λ us. AllZip R us (ys ++ (y ∷ []))) (ap (λ t. take i xs ++ (t ∷ [])) e ∙ sym (take_more xs i x l)) (zip_push R (take i xs) ys x y z r))

pub width_at : (w : ℕ) (vs : List Valued) (i : ℕ) (v : Valued) → Each (HasWidth w) (vectors_of vs) → i < length vs → v ≡ get_or vs i v → length v.vector ≡ w
width_at w [] i v l h e = absurd (omega arith)
width_at w (u ∷ vs) zero v l h e = ap (λ (t : Valued). length t.vector) e ∙ l.0
width_at w (u ∷ vs) (suc i) v l h e = width_at w vs i v l.1 (omega arith) e

pub zip_widths : (w : ℕ) (p : Valued) (bs cs : List Valued) → HasWidth w p.vector → Each (HasWidth w) (vectors_of bs) → AllZip (IsReduced p) bs cs → Each (HasWidth w) (vectors_of cs)
zip_widths w p [] [] lp l z = tt
zip_widths w p [] (c ∷ cs) lp l z = absurd z
zip_widths w p (b ∷ bs) [] lp l z = absurd z
zip_widths w p (b ∷ bs) (c ∷ cs) lp l z = (ap length z.0.vector ∙ length-plus w b.vector (scaled (neg_ℤ z.0.q) p.vector) l.0 (length-scaled w (neg_ℤ z.0.q) p.vector lp), zip_widths w p bs cs lp l.1 z.1)

pub rest_widths : (w : ℕ) (vs : List Valued) (i : ℕ) (v : Valued) → i < length vs → v ≡ get_or vs i v → Each (HasWidth w) (vectors_of vs) → Each (HasWidth w) (vectors_of (remove vs i))
rest_widths w [] i v l e h = absurd (omega arith)
rest_widths w (u ∷ vs) zero v l e h = h.1
rest_widths w (u ∷ vs) (suc i) v l e h = (h.0, rest_widths w vs i v (omega arith) e h.1)

pub zip_length : (p : Valued) (bs cs : List Valued) → AllZip (IsReduced p) bs cs → length cs ≡ length bs
zip_length p [] [] z = refl
zip_length p [] (c ∷ cs) z = absurd z
zip_length p (b ∷ bs) [] z = absurd z
zip_length p (b ∷ bs) (c ∷ cs) z = ap suc (zip_length p bs cs z.1)

-- ---- rounds
pub round_clears : (w : ℕ) (vs us : List Valued) → IsRound vs us → Clears w vs us
round_clears w vs us r =
    clears_then w vs (r.own ∷ r.others) us (clears_then w vs (r.own ∷ remove vs r.place) (r.own ∷ r.others) (clears_out w vs (remove vs r.place) r.place r.own (inside r) r.is_own refl) (clears_round w r.own (remove vs r.place) r.others r.reduced)) (clears_in w r.others us r.place r.own r.same)
  where
    inside : IsRound vs us → r.place < length vs
    inside k = r.pivot.within

pub rounds_clear : (w : ℕ) (vs us : List Valued) → AreRounds vs us → Clears w vs us
rounds_clear w vs us none = clears_self w vs
rounds_clear w vs us (more {us = ts} k r) = clears_then w vs ts us (rounds_clear w vs ts k) (round_clears w ts us r)

pub cleared_clears : (w : ℕ) (vs : List Valued) (place : ℕ) (own : Valued) (others : List Valued) → IsCleared vs place own others → Clears w vs (own ∷ others)
cleared_clears w vs place own others c =
    clears_then w vs (insert others place own) (own ∷ others) (rounds_clear w vs (insert others place own) c.rounds)
    (subst (λ (t : List Valued). Clears w (insert others place own) (own ∷ t)) (take-append-drop place others) (out_split w (take place others) own (drop place others)))
