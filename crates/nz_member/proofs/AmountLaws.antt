-- How often heights can be taken, one more of them at a time.
use Rattle.std.proofs.Common.{◌≡◌, inl, inr, ℕ, zero, suc, ◌+◌, ◌<◌, ◌≤◌, List, [], ◌∷◌, ◌++◌, length, take, get_or, take_all, ℤ, pos, ◌+ℤ◌, ◌-ℤ◌, ◌*ℤ◌, ◌≤ℤ◌, ◌<ℤ◌, refl, sym, ap, ◌∙◌, subst, arith}
use Rattle.std.specs.Prelude.{Option, Some, None}
use Rattle.std.proofs.lemmas.Int.{ints, by_lt_z}
use Rattle.std.proofs.lemmas.List.{take_more}
use Rattle.std.specs.List.{AllByRecursion as Each}
use Rattle.std.proofs.Math.IntN.{*ℤ-zero, zero-*ℤ}
use Rattle.nz_spec.proofs.IntLaws.{sub-mul, mul-nonneg}
use Rattle.nz_member.specs.Amounts.{Allow, IsMost, TellsMost, Lessens, stays, bounded}

-- a smaller factor times a height of at least 0 is at most as large
mul_most : (a b h : ℤ) → a ≤ℤ b → pos 0 ≤ℤ h → (a *ℤ h) ≤ℤ (b *ℤ h)
mul_most a b h l p =
    let m = mul-nonneg (b -ℤ a) h (omega (arith, ints, l)) p in
    omega (arith, ints, m, sub-mul b a h)

least_trans : (x y z : ℤ) → x ≤ℤ y → y ≤ℤ z → x ≤ℤ z
least_trans x y z p q = omega (arith, ints, p, q)

is_zero : (h : ℤ) → h ≤ℤ pos 0 → pos 0 ≤ℤ h → h ≡ pos 0
is_zero h p q = omega (arith, ints, p, q)

none_of : (c h v : ℤ) → h ≤ℤ pos 0 → pos 0 ≤ℤ h → pos 0 ≤ℤ v → (c *ℤ h) ≤ℤ v
none_of c h v p q w = subst (λ (t : ℤ). t ≤ℤ v) (sym (ap (λ (t : ℤ). c *ℤ t) (is_zero h p q) ∙ *ℤ-zero c)) w

pub allow_push : (c : ℤ) (hs vs : List ℤ) (h v : ℤ) → length hs ≡ length vs → Allow c hs vs → (c *ℤ h) ≤ℤ v → Allow c (hs ++ h ∷ []) (vs ++ v ∷ [])
allow_push c [] [] h v l a p = (p, tt)
allow_push c [] (w ∷ vs) h v l a p = absurd (omega (arith, l))
allow_push c (g ∷ hs) [] h v l a p = absurd (omega (arith, l))
allow_push c (g ∷ hs) (w ∷ vs) h v l a p = (a.0, allow_push c hs vs h v (omega (arith, l)) a.1 p)

pub allow_front : (c : ℤ) (hs vs : List ℤ) (h v : ℤ) → length hs ≡ length vs → Allow c (hs ++ h ∷ []) (vs ++ v ∷ []) → Allow c hs vs × ((c *ℤ h) ≤ℤ v)
allow_front c [] [] h v l a = (tt, a.0)
allow_front c [] (w ∷ vs) h v l a = absurd (omega (arith, l))
allow_front c (g ∷ hs) [] h v l a = absurd (omega (arith, l))
allow_front c (g ∷ hs) (w ∷ vs) h v l a = (let r = allow_front c hs vs h v (omega (arith, l)) a.1 in ((a.0, r.0), r.1))

pub allow_less : (b c : ℤ) (hs vs : List ℤ) → b ≤ℤ c → Each (λ h. pos 0 ≤ℤ h) hs → Allow c hs vs → Allow b hs vs
allow_less b c [] vs l p a = tt
allow_less b c (h ∷ hs) [] l p a = tt
allow_less b c (h ∷ hs) (v ∷ vs) l p a = (least_trans (b *ℤ h) (c *ℤ h) v (mul_most b c h l p.0) a.0, allow_less b c hs vs l p.1 a.1)

-- heights that are not positive can be taken as often as one likes
pub allow_none : (c : ℤ) (hs vs : List ℤ) → pos 0 ≤ℤ c → Each (λ h. h ≤ℤ pos 0) hs → Each (λ h. pos 0 ≤ℤ h) hs → Each (λ v. pos 0 ≤ℤ v) vs → Allow c hs vs
allow_none c [] vs n z p q = tt
allow_none c (h ∷ hs) [] n z p q = tt
allow_none c (h ∷ hs) (v ∷ vs) n z p q = (none_of c h v z.0 p.0 q.0, allow_none c hs vs n z.1 p.1 q.1)

not_above : (h : ℤ) → ¬ (pos 0 <ℤ h) → h ≤ℤ pos 0
not_above h n = by_lt_z (pos 0) h (λ (lt : pos 0 <ℤ h). absurd (n lt)) (λ (le : h ≤ℤ pos 0). le)

not_both : (a v : ℤ) → v <ℤ a → ¬ (a ≤ℤ v)
not_both a v p q = omega (arith, ints, p, q)

each_push : (P : ℤ → Type 0) (xs : List ℤ) (x : ℤ) → Each P xs → P x → Each P (xs ++ x ∷ [])
each_push P [] x h p = (p, tt)
each_push P (y ∷ xs) x h p = (h.0, each_push P xs x h.1 p)

-- the floor of a quotient of something that is not negative is not negative
floor_nonneg : (q h v : ℤ) → pos 0 ≤ℤ h → pos 0 ≤ℤ v → v <ℤ ((q +ℤ pos 1) *ℤ h) → pos 0 ≤ℤ q
floor_nonneg q h v p w l = by_lt_z q (pos 0) (λ (lt : q <ℤ pos 0). absurd (below lt)) (λ (le : pos 0 ≤ℤ q). le)
  where
    below : q <ℤ pos 0 → ⊥
    below lt =
        let m = mul_most (q +ℤ pos 1) (pos 0) h (omega (arith, ints, lt)) p in
        let z = zero-*ℤ h in
        omega (arith, ints, m, z, l, w)

positive_nonneg : (h : ℤ) → pos 0 <ℤ h → pos 0 ≤ℤ h
positive_nonneg h p = omega (arith, ints, p)

module _ (hs vs : List ℤ) (h v : ℤ) (l : length hs ≡ length vs) (p : Each (λ a. pos 0 ≤ℤ a) hs) (w : Each (λ a. pos 0 ≤ℤ a) vs) (ph : pos 0 ≤ℤ h) (pv : pos 0 ≤ℤ v) where
  most_stays : (c : ℤ) → IsMost hs vs c → (c *ℤ h) ≤ℤ v → IsMost (hs ++ h ∷ []) (vs ++ v ∷ []) c
  most_stays c m k = record {
    not_negative = m.not_negative;
    allowed = allow_push c hs vs h v l m.allowed k;
    no_more = λ a. m.no_more (allow_front (c +ℤ pos 1) hs vs h v l a).0;
  }

  most_floor : (q : ℤ) → Allow q hs vs → (q *ℤ h) ≤ℤ v → v <ℤ ((q +ℤ pos 1) *ℤ h) → IsMost (hs ++ h ∷ []) (vs ++ v ∷ []) q
  most_floor q m k f = record {
    not_negative = floor_nonneg q h v ph pv f;
    allowed = allow_push q hs vs h v l m k;
    no_more = λ a. not_both ((q +ℤ pos 1) *ℤ h) v f (allow_front (q +ℤ pos 1) hs vs h v l a).1;
  }

  -- one height more
  pub tells_more : {T : Type 0} (integer : T → ℤ) (times result : Option T) → TellsMost integer hs vs times → Lessens integer times h v result → TellsMost integer (hs ++ h ∷ []) (vs ++ v ∷ []) result
  tells_more integer None result t (stays n) = each_push (λ a. a ≤ℤ pos 0) hs h t (not_above h n)
  tells_more integer (Some c) result t (stays n) = most_stays (integer c) t (none_of (integer c) h v (not_above h n) ph pv)
  tells_more integer None result t (bounded q r u f m) =
      let a = f.above u in
      subst (IsMost (hs ++ h ∷ []) (vs ++ v ∷ [])) (sym m) (most_floor q (allow_none q hs vs (floor_nonneg q h v ph pv a.1) t p w) a.0 a.1)
  tells_more integer (Some c) result t (bounded q r u f (inl m)) =
      let a = f.above u in
      subst (IsMost (hs ++ h ∷ []) (vs ++ v ∷ [])) (sym m.0) (most_stays (integer c) t (least_trans (integer c *ℤ h) (q *ℤ h) v (mul_most (integer c) q h m.1 ph) a.0))
  tells_more integer (Some c) result t (bounded q r u f (inr m)) =
      let a = f.above u in
      subst (IsMost (hs ++ h ∷ []) (vs ++ v ∷ [])) (sym m.0) (most_floor q (allow_less q (integer c) hs vs m.1 p t.allowed) a.0 a.1)

take_nonneg : (k : ℕ) (xs : List ℤ) → Each (λ a. pos 0 ≤ℤ a) xs → Each (λ a. pos 0 ≤ℤ a) (take k xs)
take_nonneg k [] h = subst (λ (ys : List ℤ). Each (λ a. pos 0 ≤ℤ a) ys) (sym (take_all k [] (omega arith))) tt
take_nonneg zero (x ∷ xs) h = tt
take_nonneg (suc k) (x ∷ xs) h = (h.0, take_nonneg k xs h.1)

take_same : (k : ℕ) (xs ys : List ℤ) → length xs ≡ length ys → length (take k xs) ≡ length (take k ys)
take_same k [] [] l = refl
take_same k [] (y ∷ ys) l = absurd (omega (arith, l))
take_same k (x ∷ xs) [] l = absurd (omega (arith, l))
take_same zero (x ∷ xs) (y ∷ ys) l = refl
take_same (suc k) (x ∷ xs) (y ∷ ys) l = ap suc (take_same k xs ys (omega (arith, l)))

at_nonneg : (k : ℕ) (xs : List ℤ) → k < length xs → Each (λ a. pos 0 ≤ℤ a) xs → pos 0 ≤ℤ get_or xs k (pos 0)
at_nonneg k [] l h = absurd (omega (arith, l))
at_nonneg zero (x ∷ xs) l h = h.0
at_nonneg (suc k) (x ∷ xs) l h = at_nonneg k xs (omega (arith, l)) h.1

-- one place further in the lists
pub tells_next : {T : Type 0} (integer : T → ℤ) (hs vs : List ℤ) (k : ℕ) (h v : ℤ) (times result : Option T) → length hs ≡ length vs → k < length hs → h ≡ get_or hs k (pos 0) → v ≡ get_or vs k (pos 0) → Each (λ a. pos 0 ≤ℤ a) hs → Each (λ a. pos 0 ≤ℤ a) vs → TellsMost integer (take k hs) (take k vs) times → Lessens integer times h v result → TellsMost integer (take (k + 1) hs) (take (k + 1) vs) result
tells_next integer hs vs k h v times result l kh eh ev p w t b =
    let kv : k < length vs = omega (arith, kh, l) in
    let ph = subst (λ (a : ℤ). pos 0 ≤ℤ a) (sym eh) (at_nonneg k hs kh p) in
    let pv = subst (λ (a : ℤ). pos 0 ≤ℤ a) (sym ev) (at_nonneg k vs kv w) in
    let m = tells_more (take k hs) (take k vs) h v (take_same k hs vs l) (take_nonneg k hs p) (take_nonneg k vs w) ph pv integer times result t b in
    let fh : take k hs ++ h ∷ [] ≡ take (k + 1) hs = ap (λ (a : ℤ). take k hs ++ a ∷ []) eh ∙ sym (take_more hs k (pos 0) kh) in
    let fv : take k vs ++ v ∷ [] ≡ take (k + 1) vs = ap (λ (a : ℤ). take k vs ++ a ∷ []) ev ∙ sym (take_more vs k (pos 0) kv) in
    subst (λ (ys : List ℤ). TellsMost integer (take (k + 1) hs) ys result) fv (subst (λ (xs : List ℤ). TellsMost integer xs (take k vs ++ v ∷ []) result) fh m)

pub tells_all : {T : Type 0} (integer : T → ℤ) (hs vs : List ℤ) (k : ℕ) (times : Option T) → length hs ≤ k → length vs ≤ k → TellsMost integer (take k hs) (take k vs) times → TellsMost integer hs vs times
tells_all integer hs vs k times lh lv t = subst (λ (ys : List ℤ). TellsMost integer hs ys times) (take_all k vs lv) (subst (λ (xs : List ℤ). TellsMost integer xs (take k vs) times) (take_all k hs lh) t)
