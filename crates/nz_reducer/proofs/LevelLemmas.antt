-- Words of levels, bit by bit, and what they tell of entries.
use Rattle.std.proofs.Common.{◌≡◌, inl, inr, ℕ, ◌+◌, ◌<◌, ◌^◌, List, [], ◌∷◌, ◌++◌, length, take, drop, get_or, ℤ, sym, ap, ◌∙◌, subst, arith}
use Rattle.std.proofs.lemmas.Int.{ints}
use Rattle.std.proofs.lemmas.Bool.{cases_order}
use Rattle.std.proofs.lemmas.List.{length-append, length-take, take_more, get_or_append_left, get_or_push}
use Rattle.std.proofs.lemmas.Nat.Bits.{bit_at-zero, bit_at-lt, bit_at_and, bit_at_or, bit_at-pow_same, bit_at-pow_other, same_from_bits}
use Rattle.std.specs.Int.{bit_at}
use Rattle.std.specs.Int.Bits.{bit_and, bit_or}
use Rattle.nz_spec.specs.Vectors.{Vector}
use Rattle.nz_spec.proofs.ListLaws.{Each-weaker}
use Rattle.nz_order.specs.Boxes.{IsBelow}
use Rattle.nz_reducer.specs.Levels.{Reaches, IsWordOf}
use Rattle.nz_reducer.specs.Marks.{TellWords, HaveWords}
use Rattle.nz_reducer.proofs.MarkLemmas.{each_taken, each_dropped}
use Rattle.nz_reducer.proofs.Places.{zip_at}

module _ {Level : Type 0} (column : Level → ℕ) (value : Level → ℤ) where
  pub word_start : (levels : List Level) (xs : Vector) → IsWordOf column value (take 0 levels) xs 0
  word_start levels xs = record {
    each = λ i d l r. absurd (let t = length-take 0 levels in let f : ⊥ = omega (arith, l, t) in f);
    only = λ i h. absurd (let z = bit_at-zero i in let f : ⊥ = omega (arith, z, h) in f);
  }

  module _ (levels : List Level) (xs : Vector) (i : ℕ) (item : Level) (l : i < length levels) (at : item ≡ get_or levels i item) (word : ℕ) (h : IsWordOf column value (take i levels) xs word) where
    front : take i levels ++ item ∷ [] ≡ take (i + 1) levels
    front = ap (λ m. take i levels ++ m ∷ []) at ∙ sym (take_more levels i item l)

    size : length (take i levels) ≡ i
    size = let t = length-take i levels in omega (arith, t, l)

    longer : length (take i levels ++ item ∷ []) ≡ i + 1
    longer = let t = length-append (take i levels) (item ∷ []) in let s = size in omega (arith, t, s)

    old : (k : ℕ) (d : Level) → k < i → get_or (take i levels ++ item ∷ []) k d ≡ get_or (take i levels) k d
    old k d b = get_or_append_left (take i levels) (item ∷ []) d k (let s = size in omega (arith, b, s))

    new : (k : ℕ) (d : Level) → k ≡ i → get_or (take i levels ++ item ∷ []) k d ≡ item
    new k d e = get_or_push (take i levels) item d k (size ∙ sym e)

    skipped : ¬ Reaches column value xs item → IsWordOf column value (take i levels ++ item ∷ []) xs word
    skipped n = record {
      each = λ k d m r. elim (cases_order k i) [
        | inl e ↦ absurd (n (subst (Reaches column value xs) (new k d e) r))
        | inr (inl b) ↦ h.each k d (let s = size in omega (arith, b, s)) (subst (Reaches column value xs) (old k d b) r)
        | inr (inr b) ↦ absurd (let s = longer in let f : ⊥ = omega (arith, m, b, s) in f)
      ];
      only = λ k b.
          let o = h.only k b in
          let m : k < i = (let s = size in let t = o.0 in omega (arith, s, t)) in
          ((let s = longer in omega (arith, m, s)), λ d. subst (Reaches column value xs) (sym (old k d m)) (o.1 d));
    }

    set : Reaches column value xs item → IsWordOf column value (take i levels ++ item ∷ []) xs (bit_or word (2 ^ i))
    set r = record {
      each = λ k d m q. elim (cases_order k i) [
        | inl e ↦ (let o = bit_at_or word (2 ^ i) k in let p = subst (λ (j : ℕ). bit_at (2 ^ i) j ≡ 1) (sym e) (bit_at-pow_same i) in let z = bit_at-lt word k in omega (arith, o, p, z))
        | inr (inl b) ↦ (let w = h.each k d (let s = size in omega (arith, b, s)) (subst (Reaches column value xs) (old k d b) q) in let o = bit_at_or word (2 ^ i) k in let z = bit_at-lt (2 ^ i) k in omega (arith, o, w, z))
        | inr (inr b) ↦ absurd (let s = longer in let f : ⊥ = omega (arith, m, b, s) in f)
      ];
      only = λ k b. elim (cases_order k i) [
        | inl e ↦ ((let s = longer in omega (arith, e, s)), λ d. subst (Reaches column value xs) (sym (new k d e)) r)
        | inr (inl m) ↦ kept k b m
        | inr (inr m) ↦ absurd (let z = bit_at-pow_other i k (λ e. absurd (omega (arith, m, e))) in let o = bit_at_or word (2 ^ i) k in let w : bit_at word k ≡ 1 = omega (arith, o, z, b) in let t = (h.only k w).0 in let s = size in let f : ⊥ = omega (arith, t, s, m) in f)
      ];
    }
      where
        kept : (k : ℕ) → bit_at (bit_or word (2 ^ i)) k ≡ 1 → k < i → (k < length (take i levels ++ item ∷ [])) × ((d : Level) → Reaches column value xs (get_or (take i levels ++ item ∷ []) k d))
        kept k b m =
            let z = bit_at-pow_other i k (λ e. absurd (omega (arith, m, e))) in
            let o = bit_at_or word (2 ^ i) k in
            let w : bit_at word k ≡ 1 = omega (arith, o, z, b) in
            ((let s = longer in omega (arith, m, s)), λ d. subst (Reaches column value xs) (sym (old k d m)) ((h.only k w).1 d))

    pub word_skipped : ¬ Reaches column value xs item → IsWordOf column value (take (i + 1) levels) xs word
    word_skipped n = subst (λ (ls : List Level). IsWordOf column value ls xs word) front (skipped n)

    pub word_set : Reaches column value xs item → IsWordOf column value (take (i + 1) levels) xs (bit_or word (2 ^ i))
    word_set r = subst (λ (ls : List Level). IsWordOf column value ls xs (bit_or word (2 ^ i))) front (set r)

  reaches_above : (xs ys : Vector) (l : Level) → IsBelow xs ys → Reaches column value xs l → Reaches column value ys l
  reaches_above xs ys l b r = let e = zip_at xs ys (column l) b in omega (arith, ints, e, r)

  bit_follows : (levels : List Level) (xs ys : Vector) (m v : ℕ) → IsWordOf column value levels xs m → IsWordOf column value levels ys v → IsBelow xs ys → (i : ℕ) → bit_at m i ≡ 1 → bit_at v i ≡ 1
  bit_follows [] xs ys m v p q b i e = absurd (let l = (p.only i e).0 in let f : ⊥ = omega (arith, l) in f)
  bit_follows (x ∷ ls) xs ys m v p q b i e = q.each i x (p.only i e).0 (reaches_above xs ys (get_or (x ∷ ls) i x) b ((p.only i e).1 x))

  -- of what is below, each bit is one of what is above
  word_below : (levels : List Level) (xs ys : Vector) (m v : ℕ) → IsWordOf column value levels xs m → IsWordOf column value levels ys v → IsBelow xs ys → bit_and m v ≡ m
  word_below levels xs ys m v p q b = same_from_bits (bit_and m v) m (λ i.
      let a = bit_at_and m v i in
      elim (cases_order (bit_at m i) 1) [
        | inl e ↦ (let s = bit_follows levels xs ys m v p q b i e in omega (arith, a, e, s))
        | inr (inl s) ↦ omega (arith, a, s)
        | inr (inr s) ↦ absurd (let l = bit_at-lt m i in let f : ⊥ = omega (arith, l, s) in f)
      ])

  module _ (levels : List Level) {Item : Type 0} (place word : Item → ℕ) (entries : List Vector) (marks : List Item) (h : HaveWords column value levels place word entries marks) (values : Vector) (sought : ℕ) (w : IsWordOf column value levels values sought) where
    told : TellWords place word entries values sought marks
    told = Each-weaker (λ m. IsWordOf column value levels (get_or entries (place m) []) (word m)) (λ m. IsBelow (get_or entries (place m) []) values → bit_and (word m) sought ≡ word m) (λ m p b. word_below levels (get_or entries (place m) []) values (word m) sought p w b) marks h

    pub told_taken : (n : ℕ) → TellWords place word entries values sought (take n marks)
    told_taken n = each_taken (λ m. IsBelow (get_or entries (place m) []) values → bit_and (word m) sought ≡ word m) n marks told

    pub told_part : (n f : ℕ) → TellWords place word entries values sought (drop f (take n marks))
    told_part n f = each_dropped (λ m. IsBelow (get_or entries (place m) []) values → bit_and (word m) sought ≡ word m) f (take n marks) (told_taken n)
