-- What is held by elimination: before any row, after a row that is 0 at all vectors left, and after one that is not.
use Rattle.std.proofs.Common.{◌≡◌, ◌⊎◌, ⊎_elim, ℕ, zero, suc, ◌+◌, ◌<◌, List, [], ◌∷◌, ◌++◌, length, map, get_or, take, drop, ℤ, pos, negsuc, neg_ℤ, ◌*ℤ◌, Some, refl, sym, ap, ap₂, ◌∙◌, subst, arith}
use Rattle.std.specs.List.{AllByRecursion as Each, AllZip, Contains}
use Rattle.std.proofs.lemmas.List.{append-nil, append_assoc, take_more, length-take-le}
use Rattle.std.proofs.lemmas.List.Elements.{Contains-append_left, Contains-append_right}
use Rattle.std.proofs.lemmas.Int.{ints}
use Rattle.nz_spec.specs.Vectors.{Vector, dot, plus, scaled, HasWidth, IsZero, IsNonzero, IsPrimitive, unit_vectors, zero_vector}
use Rattle.nz_spec.specs.Sums.{IsInSpan}
use Rattle.nz_spec.specs.Covers.{vectors_at}
use Rattle.nz_spec.proofs.VectorLaws.{one-scaled, dot-IsZero}
use Rattle.nz_spec.proofs.ListLaws.{contains_here}
use Rattle.nz_vec.specs.Primitives.{IsPrimitivePart}
use Rattle.nz_linear.specs.DualPairs.{Pair, pair_of, HasWidths, IsDual, IsDualPair, OnlyZero}
use Rattle.nz_linear.specs.Elimination.{IsState, IsPivotStep, unit_pairs, shifted}
use Rattle.nz_linear.specs.Elimination as linear
use Rattle.nz_linear.specs.Echelon.{IsColumnPair}
use Rattle.nz_linear.proofs.Signs.{mul_is_zero}
use Rattle.nz_linear.proofs.Division.{primitive_nonzero}
use Rattle.nz_linear.proofs.Lists.{each_map, each_append, each_left, each_right, each_insert, each_remove, map_each}
use Rattle.nz_linear.proofs.VectorLaws.{length-plus, length-scaled}
use Rattle.nz_linear.proofs.DualGroups.{dual_insert}
use Rattle.nz_linear.proofs.Members.{members_push, state_of_members}
use Rattle.nz_linear.proofs.RayStart.{HaveSameMembers}
use Rattle.nz_linear.proofs.Elimination.{skip_keeps, pivot_keeps}
use Rattle.nz_linear.proofs.EliminationRun.{start_state}
use Rattle.nz_linear.proofs.Echelon.{start_columns, split_columns, pivot_columns}
use Rattle.nz_linear.proofs.Rank.{in_seen_span, seen_span_vanishes}
use Rattle.nz_pointed.specs.Pointed.{IsNew, AreFirstIndependent}
use Rattle.nz_pointed.specs.Elimination.{IsElimination, IsFirstNonzero, IsTurned, IsCleared, IsExchange}
use Rattle.nz_pointed.proofs.ListLemmas.{pairwise_push, split_at, map_join, with_vectors, take_joined, at_joined, at_end, take_whole, length_joined, each_at, each_take}
use Rattle.nz_pointed.proofs.SignLemmas.{opposite_scaled, primitive_opposite}

-- ---- the start
unit_vectors_of_pairs : (w : ℕ) → map (λ (p : Pair). p.vector) (unit_pairs w) ≡ unit_vectors w
unit_vectors_of_pairs zero = refl
unit_vectors_of_pairs (suc w) = ap (λ t. (pos 1 ∷ zero_vector w) ∷ t) (shifted_vectors (unit_pairs w) ∙ ap (map (λ u. pos 0 ∷ u)) (unit_vectors_of_pairs w))
  where
    shifted_vectors : (ps : List Pair) → map (λ (p : Pair). p.vector) (map shifted ps) ≡ map (λ u. pos 0 ∷ u) (map (λ (p : Pair). p.vector) ps)
    shifted_vectors [] = refl
    shifted_vectors (p ∷ ps) = ap (λ t. (pos 0 ∷ p.vector) ∷ t) (shifted_vectors ps)

units_primitive : (w : ℕ) → Each IsPrimitive (unit_vectors w)
units_primitive zero = tt
units_primitive (suc w) = ((λ d h. h.0), later (unit_vectors w) (units_primitive w))
  where
    later : (us : List Vector) → Each IsPrimitive us → Each IsPrimitive (map (λ u. pos 0 ∷ u) us)
    later [] h = tt
    later (u ∷ us) h = ((λ d k. h.0 d k.1), later us h.1)

pub elimination_start : (w : ℕ) (places : List ℕ) (chosen left : List Vector) → places ≡ [] → chosen ≡ [] → left ≡ unit_vectors w → IsElimination w [] places chosen left
elimination_start w places chosen left e f l = record {
  pairs = [];
  free = unit_pairs w;
  columns = _;
  state = start_state w;
  column_pairs = start_columns w;
  first = subst (AreFirstIndependent w []) (sym e) (record { in_order = tt; only = tt; each = λ x (n : IsNew w [] x). absurd (omega (arith, n.within)) });
  same_rows = sym (ap (vectors_at []) e);
  same_chosen = sym f;
  same_left = unit_vectors_of_pairs w ∙ sym l;
  primitive_chosen = subst (Each IsPrimitive) (sym f) tt;
  primitive_left = subst (Each IsPrimitive) (sym l) (units_primitive w);
}

-- ---- the newest row stands last
seen_last : (w : ℕ) (h : Vector) (seen : List Vector) (chosen free : List Pair) → IsState w (h ∷ seen) chosen free → IsState w (seen ++ (h ∷ [])) chosen free
seen_last w h seen chosen free s = state_of_members w (h ∷ seen) (seen ++ (h ∷ [])) chosen free (members_push h seen seen (same seen)) s
  where
    same : (xs : List Vector) → HaveSameMembers xs xs
    same xs = record { there = self xs; back = self xs }
      where
        self : (xs : List Vector) → Each (Contains xs) xs
        self [] = tt
        self (x ∷ xs) = (contains_here x xs, each_map (Contains xs) (Contains (x ∷ xs)) xs (λ y k. Contains-append_right (x ∷ []) xs y k) (self xs))

chosen_last : (w : ℕ) (seen : List Vector) (p : Pair) (chosen free : List Pair) → IsState w seen (p ∷ chosen) free → IsState w seen (chosen ++ (p ∷ [])) free
chosen_last w seen p chosen free s =
    let e : chosen ++ (p ∷ free) ≡ (chosen ++ (p ∷ [])) ++ free = sym (append_assoc chosen (p ∷ []) free) in
    record {
      pair = subst (IsDualPair w) e (record { widths = each_insert (HasWidths w) p chosen free s.pair.widths; dual = dual_insert p chosen free s.pair.dual });
      only_zero = subst (OnlyZero w) e (λ x l v. s.only_zero x l (each_remove (λ (q : Pair). dot q.form x ≡ pos 0) p chosen free v));
      from_seen = each_insert (λ (q : Pair). Contains seen q.form) p chosen [] (subst (Each (λ (q : Pair). Contains seen q.form)) (ap (λ t. p ∷ t) (sym (append-nil chosen))) s.from_seen);
      free_vanish = s.free_vanish;
    }

-- ---- the first independent rows
new_before : (w : ℕ) (seen : List Vector) (h : Vector) (p : ℕ) → IsNew w seen p → IsNew w (seen ++ (h ∷ [])) p
new_before w seen h p n =
    let l = length_joined h seen in
    let b = n.within in
    record {
      within = omega (arith, l, b);
      independent = rw (take_joined p seen (h ∷ []) (omega (arith, b))) (rw (at_joined [] p seen (h ∷ []) b) n.independent);
    }

new_within : (w : ℕ) (seen : List Vector) (h : Vector) (p : ℕ) → p < length seen → IsNew w (seen ++ (h ∷ [])) p → IsNew w seen p
new_within w seen h p b n = record {
  within = b;
  independent = λ i. n.independent (rw (take_joined p seen (h ∷ []) (omega (arith, b))) (rw (at_joined [] p seen (h ∷ []) b) i));
}

-- the last row is new where it is not in the span of the others
new_last : (w : ℕ) (seen : List Vector) (h : Vector) → ¬ IsInSpan w seen h → IsNew w (seen ++ (h ∷ [])) (length seen)
new_last w seen h n = record {
  within = let l = length_joined h seen in omega (arith, l);
  independent = rw (take_whole seen (h ∷ [])) (rw (at_end [] h seen) n);
}

not_last : (w : ℕ) (seen : List Vector) (h : Vector) → IsInSpan w seen h → IsNew w (seen ++ (h ∷ [])) (length seen) → ⊥
not_last w seen h i n = n.independent (rw (take_whole seen (h ∷ [])) (rw (at_end [] h seen) i))

below_or_last : (w : ℕ) (seen : List Vector) (h : Vector) (p : ℕ) → IsNew w (seen ++ (h ∷ [])) p → (p < length seen) ⊎ (p ≡ length seen)
below_or_last w seen h p n = let l = length_joined h seen in let b = n.within in grind arith

first_skip : (w : ℕ) (seen : List Vector) (h : Vector) (places : List ℕ) → IsInSpan w seen h → AreFirstIndependent w seen places → AreFirstIndependent w (seen ++ (h ∷ [])) places
first_skip w seen h places i f = record {
  in_order = f.in_order;
  only = each_map (IsNew w seen) (IsNew w (seen ++ (h ∷ []))) places (λ p n. new_before w seen h p n) f.only;
  each = λ p n. ⊎_elim (λ b. f.each p (new_within w seen h p b n)) (λ e. absurd (not_last w seen h i (subst (IsNew w (seen ++ (h ∷ []))) e n))) (below_or_last w seen h p n);
}

first_push : (w : ℕ) (seen : List Vector) (h : Vector) (places : List ℕ) → ¬ IsInSpan w seen h → AreFirstIndependent w seen places → AreFirstIndependent w (seen ++ (h ∷ [])) (places ++ (length seen ∷ []))
first_push w seen h places i f = record {
  in_order = pairwise_push ◌<◌ places (length seen) f.in_order (each_map (IsNew w seen) (λ p. p < length seen) places (λ p n. n.within) f.only);
  only = each_append_one (IsNew w (seen ++ (h ∷ []))) places (length seen) (each_map (IsNew w seen) (IsNew w (seen ++ (h ∷ []))) places (λ p n. new_before w seen h p n) f.only) (new_last w seen h i);
  each = λ p n. ⊎_elim (λ b. Contains-append_left places (length seen ∷ []) p (f.each p (new_within w seen h p b n))) (λ e. subst (Contains (places ++ (length seen ∷ []))) (sym e) (Contains-append_right places (length seen ∷ []) (length seen) (0, omega arith, refl))) (below_or_last w seen h p n);
}
  where
    each_append_one : {A : Type 0} (P : A → Type 0) (xs : List A) (x : A) → Each P xs → P x → Each P (xs ++ (x ∷ []))
    each_append_one P [] x e p = (p, tt)
    each_append_one P (y ∷ xs) x e p = (e.0, each_append_one P xs x e.1 p)

vectors_joined : (w : ℕ) (seen : List Vector) (h : Vector) (places : List ℕ) → Each (IsNew w seen) places → vectors_at (seen ++ (h ∷ [])) places ≡ vectors_at seen places
vectors_joined w seen h [] n = refl
vectors_joined w seen h (p ∷ places) n = ap₂ (λ s t. s ∷ t) (at_joined [] p seen (h ∷ []) n.0.within) (vectors_joined w seen h places n.1)

-- ---- the steps
widths_of : (w : ℕ) (ps : List Pair) → Each (HasWidths w) ps → Each (HasWidth w) (map (λ (p : Pair). p.vector) ps)
widths_of w [] h = tt
widths_of w (p ∷ ps) h = (h.0.vector_width, widths_of w ps h.1)

pub left_widths : (w : ℕ) (rows : List Vector) (places : List ℕ) (chosen left : List Vector) → IsElimination w rows places chosen left → Each (HasWidth w) left
left_widths w rows places chosen left e = subst (Each (HasWidth w)) e.same_left (widths_of w e.free (each_right (HasWidths w) e.pairs e.free e.state.pair.widths))

pub chosen_widths : (w : ℕ) (rows : List Vector) (places : List ℕ) (chosen left : List Vector) → IsElimination w rows places chosen left → Each (HasWidth w) chosen
chosen_widths w rows places chosen left e = subst (Each (HasWidth w)) e.same_chosen (widths_of w e.pairs (each_left (HasWidths w) e.pairs e.free e.state.pair.widths))

-- a row that is 0 at all vectors left
pub elimination_skip : (w : ℕ) (seen : List Vector) (h : Vector) (places : List ℕ) (chosen left : List Vector) → Each (HasWidth w) seen → HasWidth w h → Each (λ b. dot h b ≡ pos 0) left → IsElimination w seen places chosen left → IsElimination w (seen ++ (h ∷ [])) places chosen left
elimination_skip w seen h places chosen left l lh z e =
    let zero : Each (λ (p : Pair). dot h p.vector ≡ pos 0) e.free = map_each (λ (p : Pair). p.vector) (λ b. dot h b ≡ pos 0) e.free (subst (Each (λ b. dot h b ≡ pos 0)) (sym e.same_left) z) in
    let i : IsInSpan w seen h = in_seen_span w seen e.pairs e.free h l lh e.state zero in
    record {
      pairs = e.pairs;
      free = e.free;
      columns = e.columns;
      state = seen_last w h seen e.pairs e.free (skip_keeps w h seen e.pairs e.free e.state zero);
      column_pairs = e.column_pairs;
      first = first_skip w seen h places i e.first;
      same_rows = e.same_rows ∙ sym (vectors_joined w seen h places e.first.only);
      same_chosen = e.same_chosen;
      same_left = e.same_left;
      primitive_chosen = e.primitive_chosen;
      primitive_left = e.primitive_left;
    }

-- what is divided out of a vector that is not 0 leaves a primitive one
divided_primitive : (x q : Vector) → IsNonzero q → IsPrimitivePart x q → IsPrimitive q
divided_primitive x q n p = p.primitive (λ z. n (each_map (λ a. p.divisor *ℤ a ≡ pos 0) (λ a. a ≡ pos 0) q (λ a e. mul_is_zero p.divisor a (let d = p.positive in omega (arith, ints, d)) e) (map_each (λ a. p.divisor *ℤ a) (λ a. a ≡ pos 0) q (subst IsZero p.whole z))))

-- the vectors of a dual pair are not 0
vectors_nonzero : (ps : List Pair) → IsDual ps → Each (λ (p : Pair). IsNonzero p.vector) ps
vectors_nonzero [] d = tt
vectors_nonzero (p ∷ ps) d = ((λ z. let e = dot-IsZero p.form p.vector z in omega (arith, ints, d.0, e)), vectors_nonzero ps d.2)

-- clearing, as a step on pairs
record Recleared (w : ℕ) (h u : Vector) (rs : List Pair) (qs : List Vector) : Type 0 where
  pub clears : AllZip (linear.IsCleared w h u) rs (with_vectors rs qs)
  pub same_vectors : map (λ (p : Pair). p.vector) (with_vectors rs qs) ≡ qs
  pub same_forms : map (λ (p : Pair). p.form) (with_vectors rs qs) ≡ map (λ (p : Pair). p.form) rs
  pub primitive : Each (λ (p : Pair). IsNonzero p.vector) (with_vectors rs qs) → Each IsPrimitive qs

recleared : (w : ℕ) (h u : Vector) (rs : List Pair) (qs : List Vector) → length u ≡ w → Each (HasWidths w) rs → AllZip (IsCleared h u) (map (λ (p : Pair). p.vector) rs) qs → Recleared w h u rs qs
recleared w h u [] [] lu k z = record { clears = tt; same_vectors = refl; same_forms = refl; primitive = λ n. tt }
recleared w h u [] (q ∷ qs) lu k z = absurd z
recleared w h u (r ∷ rs) [] lu k z = absurd z
recleared w h u (r ∷ rs) (q ∷ qs) lu k z =
    let s = recleared w h u rs qs lu k.1 z.1 in
    let x = plus (scaled (dot h u) r.vector) (scaled (neg_ℤ (dot h r.vector)) u) in
    let lx : length x ≡ w = length-plus w _ _ (length-scaled w (dot h u) r.vector k.0.vector_width) (length-scaled w (neg_ℤ (dot h r.vector)) u lu) in
    let d = z.0.divisor in
    let lq : length q ≡ w = sym (length-scaled (length q) d q refl) ∙ sym (ap length z.0.whole) ∙ lx in
    record {
      clears = (record { same_form = refl; width = lq; factor = d; positive = (let p = z.0.positive in omega (arith, ints, p)); same = sym z.0.whole }, s.clears);
      same_vectors = ap (λ t. q ∷ t) s.same_vectors;
      same_forms = ap (λ t. r.form ∷ t) s.same_forms;
      primitive = λ n. (divided_primitive x q n.0 z.0, s.primitive n.1);
    }

-- the sign by which a vector was turned
record Sign (v u : Vector) : Type 0 where
  pub sign : ℤ
  pub same : u ≡ scaled sign v

sign_of : (h v u : Vector) → IsTurned h v u → Sign v u
sign_of h v u t = ⊎_elim (λ e. record { sign = pos 1; same = e ∙ sym (one-scaled v) }) (λ e. record { sign = negsuc 0; same = e ∙ opposite_scaled v }) t.same

turned_primitive : (h v u : Vector) → IsPrimitive v → IsTurned h v u → IsPrimitive u
turned_primitive h v u p t = ⊎_elim (λ e. subst IsPrimitive (sym e) p) (λ e. subst IsPrimitive (sym e) (primitive_opposite v p)) t.same

-- a row that is not 0 at some vector left
pub elimination_exchange : (w : ℕ) (seen : List Vector) (h : Vector) (place : ℕ) (places : List ℕ) (chosen left new_chosen new_left : List Vector) → Each (HasWidth w) seen → HasWidth w h → IsElimination w seen places chosen left
    → IsFirstNonzero h left (Some place) → IsExchange h place chosen left new_chosen new_left → IsElimination w (seen ++ (h ∷ [])) (places ++ (length seen ∷ [])) new_chosen new_left
elimination_exchange w seen h place places chosen left new_chosen new_left l lh e first x =
    let vec : Pair → Vector = λ (p : Pair). p.vector in
    let s = split_at place e.free (subst (λ (t : List Vector). place < length t) (sym e.same_left) first.0) in
    let u = x.u in
    let at_pivot : get_or left place [] ≡ s.pivot.vector = ap (λ (t : List Vector). get_or t place []) (sym e.same_left) ∙ s.same_pivot in
    let turned : IsTurned h s.pivot.vector u = subst (λ v. IsTurned h v u) at_pivot x.turned in
    let sign = sign_of h s.pivot.vector u turned in
    let wfree : Each (HasWidths w) e.free = each_right (HasWidths w) e.pairs e.free e.state.pair.widths in
    let wall : Each (HasWidths w) (s.pivot ∷ (s.before ++ s.after)) = each_remove (HasWidths w) s.pivot s.before s.after (subst (Each (HasWidths w)) s.whole wfree) in
    let lu : length u ≡ w = ap length sign.same ∙ length-scaled w sign.sign s.pivot.vector wall.0.vector_width in
    let before : take place left ≡ map vec s.before = ap (take place) (sym e.same_left) ∙ s.same_before in
    let after : drop (place + 1) left ≡ map vec s.after = ap (drop (place + 1)) (sym e.same_left) ∙ s.same_after in
    let others : take place left ++ drop (place + 1) left ≡ map vec (s.before ++ s.after) = ap₂ (λ a b. a ++ b) before after ∙ sym (map_join vec s.before s.after) in
    let rc = recleared w h u e.pairs x.cleared lu (each_left (HasWidths w) e.pairs e.free e.state.pair.widths) (subst (λ t. AllZip (IsCleared h u) t x.cleared) (sym e.same_chosen) x.clears_chosen) in
    let rl = recleared w h u (s.before ++ s.after) new_left lu wall.1 (subst (λ t. AllZip (IsCleared h u) t new_left) others x.clears_left) in
    let cleared = with_vectors e.pairs x.cleared in
    let free = with_vectors (s.before ++ s.after) new_left in
    let step : IsPivotStep w h e.pairs e.free (pair_of h u ∷ cleared) free = record {
      before = s.before;
      pivot = s.pivot;
      after = s.after;
      split = s.whole;
      u = u;
      turned = record { sign = sign.sign; same = sign.same; positive = turned.positive };
      cleared = cleared;
      is_new = refl;
      clears_chosen = rc.clears;
      clears_free = rl.clears;
    } in
    let zero : Each (λ (p : Pair). dot h p.vector ≡ pos 0) s.before = map_each vec (λ b. dot h b ≡ pos 0) s.before (subst (Each (λ b. dot h b ≡ pos 0)) before first.1) in
    let not_in : ¬ IsInSpan w seen h = λ i. first.2 (ap (dot h) at_pivot ∙ (each_remove (λ (p : Pair). dot h p.vector ≡ pos 0) s.pivot s.before s.after (subst (Each (λ (p : Pair). dot h p.vector ≡ pos 0)) s.whole (seen_span_vanishes w seen e.pairs e.free h l e.state i))).0) in
    let moved = pivot_keeps w h seen e.pairs e.free (pair_of h u ∷ cleared) free lh e.state step in
    let state = chosen_last w (seen ++ (h ∷ [])) (pair_of h u) cleared free (seen_last w h seen (pair_of h u ∷ cleared) free moved) in
    let nonzero = vectors_nonzero ((pair_of h u ∷ cleared) ++ free) moved.pair.dual in
    let p_free = rl.primitive (each_right (λ (p : Pair). IsNonzero p.vector) (pair_of h u ∷ cleared) free nonzero) in
    let p_chosen = rc.primitive (each_left (λ (p : Pair). IsNonzero p.vector) (pair_of h u ∷ cleared) free nonzero).1 in
    let p_left : Each IsPrimitive (map vec e.free) = subst (Each IsPrimitive) (sym e.same_left) e.primitive_left in
    let p_pivot : IsPrimitive s.pivot.vector = (each_remove (λ (p : Pair). IsPrimitive p.vector) s.pivot s.before s.after (subst (Each (λ (p : Pair). IsPrimitive p.vector)) s.whole (map_each vec IsPrimitive e.free p_left))).0 in
    let new = not_in in
    record {
      pairs = cleared ++ (pair_of h u ∷ []);
      free = free;
      columns = _;
      state = state;
      column_pairs = pivot_columns w h e.columns e.pairs e.free (pair_of h u ∷ cleared) free wfree e.column_pairs step zero (split_columns w e.columns s.before s.pivot s.after (subst (AllZip (IsColumnPair w) e.columns) s.whole e.column_pairs.each));
      first = first_push w seen h places not_in e.first;
      same_rows = map_join (λ (p : Pair). p.form) cleared (pair_of h u ∷ []) ∙ ap₂ (λ a b. a ++ (b ∷ [])) (rc.same_forms ∙ e.same_rows ∙ sym (vectors_joined w seen h places e.first.only)) (sym (at_end [] h seen)) ∙ sym (map_join (λ p. get_or (seen ++ (h ∷ [])) p []) places (length seen ∷ []));
      same_chosen = map_join vec cleared (pair_of h u ∷ []) ∙ ap (λ a. a ++ (u ∷ [])) rc.same_vectors ∙ sym x.is_chosen;
      same_left = rl.same_vectors;
      primitive_chosen = subst (Each IsPrimitive) (sym x.is_chosen) (each_append IsPrimitive x.cleared (u ∷ []) p_chosen (turned_primitive h s.pivot.vector u p_pivot turned, tt));
      primitive_left = p_free;
    }

-- ---- the row at a place
row_width : (w : ℕ) (rows : List Vector) (place : ℕ) (h : Vector) → Each (HasWidth w) rows → place < length rows → h ≡ get_or rows place [] → HasWidth w h
row_width w rows place h l b is = ap length is ∙ each_at (HasWidth w) [] rows place l b

pub absorbed_skip : (w : ℕ) (rows : List Vector) (place : ℕ) (h : Vector) (places : List ℕ) (chosen left : List Vector) → Each (HasWidth w) rows → place < length rows → h ≡ get_or rows place [] → IsElimination w (take place rows) places chosen left
    → Each (λ b. dot h b ≡ pos 0) left → IsElimination w (take (place + 1) rows) places chosen left
absorbed_skip w rows place h places chosen left l b is e z =
    let more : take place rows ++ (h ∷ []) ≡ take (place + 1) rows = ap (λ t. take place rows ++ (t ∷ [])) is ∙ sym (take_more rows place [] b) in
    subst (λ rs. IsElimination w rs places chosen left) more (elimination_skip w (take place rows) h places chosen left (each_take (HasWidth w) rows place l) (row_width w rows place h l b is) z e)

pub absorbed : (w : ℕ) (rows : List Vector) (place : ℕ) (h : Vector) (pivot : ℕ) (places new_places : List ℕ) (chosen left new_chosen new_left : List Vector) → Each (HasWidth w) rows → place < length rows → h ≡ get_or rows place [] → IsElimination w (take place rows) places chosen left
    → IsFirstNonzero h left (Some pivot) → new_places ≡ places ++ (place ∷ []) → IsExchange h pivot chosen left new_chosen new_left → IsElimination w (take (place + 1) rows) new_places new_chosen new_left
absorbed w rows place h pivot places new_places chosen left new_chosen new_left l b is e f p x =
    let more : take place rows ++ (h ∷ []) ≡ take (place + 1) rows = ap (λ t. take place rows ++ (t ∷ [])) is ∙ sym (take_more rows place [] b) in
    let here : length (take place rows) ≡ place = length-take-le place rows (omega (arith, b)) in
    let new = elimination_exchange w (take place rows) h pivot places chosen left new_chosen new_left (each_take (HasWidth w) rows place l) (row_width w rows place h l b is) e f x in
    subst (λ rs. IsElimination w rs new_places new_chosen new_left) more
    (subst (λ ps. IsElimination w (take place rows ++ (h ∷ [])) ps new_chosen new_left) (ap (λ n. places ++ (n ∷ [])) here ∙ sym p) new)

pub left_all_nonzero : (w : ℕ) (rows : List Vector) (places : List ℕ) (chosen left : List Vector) → IsElimination w rows places chosen left → Each IsNonzero left
left_all_nonzero w rows places chosen left e = each_map IsPrimitive IsNonzero left primitive_nonzero e.primitive_left
