-- One stage after another.
use Rattle.std.proofs.Common.{◌≡◌, ℕ, zero, suc, ◌+◌, ◌-◌, List, [], ◌∷◌, ◌++◌, length, drop, refl, sym, ap, ◌∙◌, Option, Some, None, Bool, true, false, arith}
use Rattle.std.proofs.lemmas.List.{append_assoc, append-nil, length-append}
use Rattle.std.proofs.lemmas.Option.{none-some, same_Some}
use Rattle.std.proofs.Math.Nat.{zero-sub, sub-zero}
use Rattle.nz_watch.specs.Watching.{Pair, Grew}
use Rattle.nz_watch.specs.Telling.{Watched, Fell, StopsAt, WasTold}

grew_more : (a b c : Option (List Pair)) (ps qs : List Pair) → Grew a b ps → Grew b c qs → Grew a c (ps ++ qs)
grew_more None None None ps qs h k = tt
grew_more None None (Some c) ps qs h k = absurd k
grew_more None (Some b) None ps qs h k = tt
grew_more None (Some b) (Some c) ps qs h k = absurd h
grew_more (Some a) None None ps qs h k = tt
grew_more (Some a) None (Some c) ps qs h k = absurd k
grew_more (Some a) (Some b) None ps qs h k = tt
grew_more (Some a) (Some b) (Some c) ps qs h k = k ∙ ap (λ t. t ++ qs) h ∙ append_assoc a ps qs

fell_more : (a b c : Option ℕ) (m n : ℕ) (s : Bool) → Fell a b m false → Fell b c n s → Fell a c (m + n) s
fell_more None None c m n s h k = k
fell_more None (Some l) c m n s h k = absurd (none-some l (sym h))
fell_more (Some l) None c m n s h k = absurd (none-some _ h.1)
fell_more (Some l) (Some r) c m n false h k =
    let left : r ≡ l - m = same_Some _ _ h.1 in
    (omega (arith, h.0, k.0, left), k.1 ∙ ap (λ t. Some t) (omega (arith, h.0, k.0, left)))
fell_more (Some l) (Some r) c m n true h k =
    let left : r ≡ l - m = same_Some _ _ h.1 in
    (omega (arith, h.0, k.0, left), k.1)

stops_more : (a b c : ℕ) (s : Bool) → StopsAt a b false → StopsAt b c s → StopsAt a c s
stops_more a b c false h k = k ∙ h
stops_more a b c true h k = rw (sym h) k

grew_none : (a : Option (List Pair)) → Grew a a []
grew_none None = tt
grew_none (Some ps) = sym (append-nil ps)

fell_none : (a : Option ℕ) → Fell a a 0 false
fell_none None = refl
fell_none (Some n) = (omega arith, ap (λ t. Some t) (omega arith))

-- nothing told
pub none_told : (a : Watched) → WasTold a a [] false
none_told a = record {
  told = grew_none a.told;
  patience = fell_none a.patience;
  stops = refl;
}

-- told more
pub was_told_more : (a b c : Watched) (ps qs : List Pair) (s : Bool) → WasTold a b ps false → WasTold b c qs s → WasTold a c (ps ++ qs) s
was_told_more a b c ps qs s h k = record {
  told = grew_more a.told b.told c.told ps qs h.told k.told;
  patience = rw (length-append ps qs) (fell_more a.patience b.patience c.patience (length ps) (length qs) s h.patience k.patience);
  stops = stops_more a.stops b.stops c.stops s h.stops k.stops;
}

both_less : (n m : ℕ) → n - m ≡ suc n - suc m
both_less n m = omega arith

-- one stage more of those that are not among the first
pub drop_one_more : (told : ℕ) (ps : List Pair) (p : Pair) → drop told (ps ++ p ∷ []) ≡ drop told ps ++ drop (told - length ps) (p ∷ [])
drop_one_more zero ps p = rw (zero-sub (length ps)) refl
drop_one_more (suc n) [] p = rw (sub-zero (suc n)) refl
drop_one_more (suc n) (q ∷ ps) p = drop_one_more n ps p ∙ ap (λ k. drop n ps ++ drop k (p ∷ [])) (both_less n (length ps))

-- told one stage more
pub told_one_more : (told : ℕ) (a b c : Watched) (ps : List Pair) (p : Pair) (s : Bool) → WasTold a b (drop told ps) false → WasTold b c (drop (told - length ps) (p ∷ [])) s → WasTold a c (drop told (ps ++ p ∷ [])) s
told_one_more told a b c ps p s h k = rw (drop_one_more told ps p) (was_told_more a b c (drop told ps) (drop (told - length ps) (p ∷ [])) s h k)
