-- The crossings of rays, found pair by pair.
use Rattle.std.proofs.Common.{◌≡◌, ◌⊎◌, inl, inr, ⊎_elim, ℕ, ◌+◌, ◌<◌, ◌≤◌, List, [], ◌∷◌, ◌++◌, length, get_or, pos, ◌<ℤ◌, sym, ◌∙◌, subst, arith}
use Rattle.std.specs.Prelude.{Option, Some, None, MatchOption}
use Rattle.std.specs.List.{Contains}
use Rattle.std.proofs.lemmas.List.Elements.{Contains-append_left, Contains-push}
use Rattle.nz_spec.specs.Vectors.{Vector}
use Rattle.nz_spec.specs.Order.{IsListOf}
use Rattle.nz_linear.proofs.Lists.{each_map, each_append}
use Rattle.nz_pointed.proofs.ListLemmas.{pairwise_push}
use Rattle.nz_rays.specs.declared.crossings.Crossing.{Crossing}
use Rattle.nz_rays.specs.Crossings.{AreCommon, HasNoThird, IsCovered, AreOnBothSides, IsCrossing, IsPairBefore, IsBefore, AreCrossingsBefore}

-- ---- pairs in order
next_pair : (a b c d : ℕ) → IsPairBefore a b c d → IsPairBefore a b c (d + 1)
next_pair a b c d (inl l) = inl l
next_pair a b c d (inr e) = inr (e.0, let l = e.1 in omega arith)

last_pair : (a b c d : ℕ) → IsPairBefore a b c (d + 1) → IsPairBefore a b c d ⊎ ((a ≡ c) × (b ≡ d))
last_pair a b c d (inl l) = inl (inl l)
last_pair a b c d (inr e) = ⊎_elim (λ l. inl (inr (e.0, l))) (λ s. inr (e.0, s)) (below b d e.1)
  where
    below : (k i : ℕ) → k < i + 1 → (k < i) ⊎ (k ≡ i)
    below k i l = grind arith

next_row : (a b c d : ℕ) → IsPairBefore a b c d → IsPairBefore a b (c + 1) 0
next_row a b c d (inl l) = inl (omega arith)
next_row a b c d (inr e) = inl (let s = e.0 in omega arith)

last_row : (a b c : ℕ) → IsPairBefore a b (c + 1) 0 → IsPairBefore a b c 0 ⊎ (a ≡ c)
last_row a b c (inl l) = ⊎_elim (λ k. inl (inl k)) (λ e. inr e) (below a c l)
  where
    below : (k i : ℕ) → k < i + 1 → (k < i) ⊎ (k ≡ i)
    below k i l = grind arith
last_row a b c (inr e) = absurd (let l = e.1 in let f : ⊥ = omega arith in f)

-- ---- steps
pub crossings_none : (v : Vector) (z : List (List ℕ)) (list : List Crossing) → list ≡ [] → AreCrossingsBefore v z 0 0 list
crossings_none v z list e = subst (AreCrossingsBefore v z 0 0) (sym e) (record {
  in_order = tt;
  only = tt;
  before = tt;
  each = λ a b p s. absurd (none a b p);
})
  where
    none : (a b : ℕ) → IsPairBefore a b 0 0 → ⊥
    none a b (inl l) = omega arith
    none a b (inr e) = let l = e.1 in omega arith

-- the next pair is not on both sides, or it is covered
pub crossings_skip : (v : Vector) (z : List (List ℕ)) (a b : ℕ) (list : List Crossing) → AreCrossingsBefore v z a b list → (AreOnBothSides v a b → IsCovered z a b) → AreCrossingsBefore v z a (b + 1) list
crossings_skip v z a b list c n = record {
  in_order = c.in_order;
  only = c.only;
  before = each_map (λ (x : Crossing). IsPairBefore x.above x.below a b) (λ (x : Crossing). IsPairBefore x.above x.below a (b + 1)) list (λ x p. next_pair x.above x.below a b p) c.before;
  each = λ i j p s. ⊎_elim (λ q. c.each i j q s) (λ e. inr (subst (λ (k : ℕ). IsCovered z k j) (sym e.0) (subst (λ (k : ℕ). IsCovered z a k) (sym e.1) (n (subst (λ (k : ℕ). AreOnBothSides v k b) e.0 (subst (λ (k : ℕ). AreOnBothSides v i k) e.1 s)))))) (last_pair i j a b p);
}

-- the next pair crosses
pub crossings_push : (v : Vector) (z : List (List ℕ)) (a b : ℕ) (list more : List Crossing) (x : Crossing) → AreCrossingsBefore v z a b list → AreOnBothSides v a b → x.above ≡ a → x.below ≡ b → AreCommon z a b x.zeros → HasNoThird z x.zeros a b → more ≡ list ++ (x ∷ []) → AreCrossingsBefore v z a (b + 1) more
crossings_push v z a b list more x c s ea eb m t w = subst (AreCrossingsBefore v z a (b + 1)) (sym w) (record {
  in_order = pairwise_push IsBefore list x c.in_order (each_map (λ (y : Crossing). IsPairBefore y.above y.below a b) (λ y. IsBefore y x) list (λ y p. rw (ea, eb) p) c.before);
  only = each_append (IsCrossing v z) list (x ∷ []) c.only (record { sides = rw (ea, eb) s; common = rw (ea, eb) m; adjacent = rw (ea, eb) t }, tt);
  before = each_append (λ (y : Crossing). IsPairBefore y.above y.below a (b + 1)) list (x ∷ [])
      (each_map (λ (y : Crossing). IsPairBefore y.above y.below a b) (λ (y : Crossing). IsPairBefore y.above y.below a (b + 1)) list (λ y p. next_pair y.above y.below a b p) c.before)
      (inr (ea, omega arith), tt);
  each = λ i j p q. ⊎_elim
      (λ r. ⊎_elim (λ h. inl (record { crossing = h.crossing; has = Contains-append_left list (x ∷ []) h.crossing h.has; same_above = h.same_above; same_below = h.same_below })) (λ h. inr h) (c.each i j r q))
      (λ e. inl (record { crossing = x; has = Contains-push list x; same_above = ea ∙ sym e.0; same_below = eb ∙ sym e.1 }))
      (last_pair i j a b p);
})

-- all pairs of one ray above are done
pub crossings_next : (v : Vector) (z : List (List ℕ)) (a b : ℕ) (list : List Crossing) → length v ≤ b → AreCrossingsBefore v z a b list → AreCrossingsBefore v z (a + 1) 0 list
crossings_next v z a b list l c = record {
  in_order = c.in_order;
  only = c.only;
  before = each_map (λ (x : Crossing). IsPairBefore x.above x.below a b) (λ (x : Crossing). IsPairBefore x.above x.below (a + 1) 0) list (λ x p. next_row x.above x.below a b p) c.before;
  each = λ i j p s. c.each i j (within i j (let k = s.below_within in omega arith) (last_row i j a p)) s;
}
  where
    within : (i j : ℕ) → j < b → IsPairBefore i j a 0 ⊎ (i ≡ a) → IsPairBefore i j a b
    within i j k (inl (inl r)) = inl r
    within i j k (inl (inr e)) = absurd (let r = e.1 in let f : ⊥ = omega arith in f)
    within i j k (inr e) = inr (e, k)

-- the ray is not above
pub crossings_pass : (v : Vector) (z : List (List ℕ)) (a : ℕ) (list : List Crossing) → ¬ (pos 0 <ℤ get_or v a (pos 0)) → AreCrossingsBefore v z a 0 list → AreCrossingsBefore v z (a + 1) 0 list
crossings_pass v z a list n c = record {
  in_order = c.in_order;
  only = c.only;
  before = each_map (λ (x : Crossing). IsPairBefore x.above x.below a 0) (λ (x : Crossing). IsPairBefore x.above x.below (a + 1) 0) list (λ x p. next_row x.above x.below a 0 p) c.before;
  each = λ i j p s. ⊎_elim (λ q. c.each i j q s) (λ e. absurd (n (subst (λ (k : ℕ). pos 0 <ℤ get_or v k (pos 0)) e s.over))) (last_row i j a p);
}

-- the ray has no crossing
pub crossings_far : (v : Vector) (z : List (List ℕ)) (a : ℕ) (list : List Crossing) → ((b : ℕ) → AreOnBothSides v a b → IsCovered z a b) → AreCrossingsBefore v z a 0 list → AreCrossingsBefore v z (a + 1) 0 list
crossings_far v z a list n c = record {
  in_order = c.in_order;
  only = c.only;
  before = each_map (λ (x : Crossing). IsPairBefore x.above x.below a 0) (λ (x : Crossing). IsPairBefore x.above x.below (a + 1) 0) list (λ x p. next_row x.above x.below a 0 p) c.before;
  each = λ i j p s. ⊎_elim (λ q. c.each i j q s) (λ e. inr (subst (λ (k : ℕ). IsCovered z k j) (sym e) (n j (subst (λ (k : ℕ). AreOnBothSides v k j) e s)))) (last_row i j a p);
}

pub crossings_all : (v : Vector) (z : List (List ℕ)) (a n : ℕ) (list : List Crossing) → a ≡ n → AreCrossingsBefore v z a 0 list → AreCrossingsBefore v z n 0 list
crossings_all v z a n list e c = subst (λ (k : ℕ). AreCrossingsBefore v z k 0 list) e c

-- ---- what the code reads
pub common_of : (z : List (List ℕ)) (a b : ℕ) (p q common : List ℕ) → p ≡ get_or z a [] → q ≡ get_or z b [] → IsListOf ◌<◌ (λ k. Contains p k × Contains q k) common → AreCommon z a b common
common_of z a b p q common e f l = subst (λ (u : List ℕ). IsListOf ◌<◌ (λ k. Contains u k × Contains (get_or z b []) k) common) e (subst (λ (u : List ℕ). IsListOf ◌<◌ (λ k. Contains p k × Contains u k) common) f l)

-- a crossing of these two with no third ray, or none since they are covered
abbrev pub IsFound : List (List ℕ) → ℕ → ℕ → Option Crossing → Type 0
IsFound z a b o = MatchOption o (IsCovered z a b) (λ (c : Crossing). (c.above ≡ a) × (c.below ≡ b) × AreCommon z a b c.zeros × HasNoThird z c.zeros a b)

pub found_push : (v : Vector) (z : List (List ℕ)) (a b : ℕ) (list more : List Crossing) (o : Option Crossing) (x : Crossing) → AreCrossingsBefore v z a b list → AreOnBothSides v a b → o ≡ Some x → IsFound z a b o → more ≡ list ++ (x ∷ []) → AreCrossingsBefore v z a (b + 1) more
found_push v z a b list more o x c s e f m = let h : IsFound z a b (Some x) = subst (IsFound z a b) e f in crossings_push v z a b list more x c s h.0 h.1 h.2 h.3 m

pub found_none : (z : List (List ℕ)) (a b : ℕ) (o : Option Crossing) → o ≡ None → IsFound z a b o → IsCovered z a b
found_none z a b o e f = subst (IsFound z a b) e f
