-- Values of the rows, place by place, and what is left of them when heights are taken.
use Rattle.std.proofs.Common.{◌≡◌, ◌≢◌, inl, inr, ℕ, zero, suc, ◌+◌, ◌<◌, ◌≤◌, List, [], ◌∷◌, ◌++◌, length, take, get_or, take_all, map, ℤ, pos, ◌-ℤ◌, ◌*ℤ◌, ◌≤ℤ◌, refl, sym, ap, ◌∙◌, subst, arith}
use Rattle.std.proofs.lemmas.Int.{ints}
use Rattle.std.proofs.lemmas.List.{take_more, get_or_default, length-map, map-append}
use Rattle.std.specs.List.{AllByRecursion as Each}
use Rattle.nz_spec.specs.Vectors.{Vector, dot, values_at, minus, scaled}
use Rattle.nz_spec.specs.Constraints.{Constraint as Condition, MeetsAll}
use Rattle.nz_spec.proofs.IntLaws.{mul-nonneg}
use Rattle.nz_spec.proofs.VectorLaws.{length-minus, length-scaled}
use Rattle.nz_vec.specs.Conditions.{condition_of}
use Rattle.nz_vec.specs.declared.constraints.Constraint.{Constraint}
use Rattle.nz_vec.specs.declared.constraints.Constraint.TheVariants.{NotNegative}
use Rattle.nz_scalar.specs.Room.{HasRoom}
use Rattle.nz_vec.proofs.SumsLemmas.{at_map}
use Rattle.nz_member.specs.Amounts.{rows_of, AreValues, AreAmounts, Allow, IsCount, CanLessen, IsLessened, LeaveValues}
use Rattle.nz_member.specs.Values.{LacksValue}
use Rattle.nz_member.specs.Replies.{LacksValueAt}
use Rattle.nz_member.proofs.AmountLaws.{allow_none}
use Rattle.nz_member.proofs.Meetings.{values_next}
use Rattle.nz_member.proofs.MonoidLaws.{values_nonneg}

pub row_fits : {T : Type 0} (int : T → ℤ) (fits : ℤ → Type 0) (k : Constraint T) (f x : Vector) → k ≡ NotNegative f → fits (dot f x) → Each fits (values_at (rows_of (condition_of int k ∷ [])) x)
row_fits int fits k f x e h = subst (λ (j : Constraint _). Each fits (values_at (rows_of (condition_of int j ∷ [])) x)) (sym e) (h, tt)

each_joined : (P : ℤ → Type 0) (xs ys : List ℤ) → Each P xs → Each P ys → Each P (xs ++ ys)
each_joined P [] ys h k = k
each_joined P (x ∷ xs) ys h k = (h.0, each_joined P xs ys h.1 k)

-- the values with those of one constraint more
pub are_values_next : (fits : ℤ → Type 0) (cs : List Condition) (x : Vector) (k : ℕ) (c : Condition) (vs next : List ℤ) → k < length cs → c ≡ get_or cs k c → AreValues fits (rows_of (take k cs)) x vs → next ≡ vs ++ values_at (rows_of (c ∷ [])) x → Each fits (values_at (rows_of (c ∷ [])) x) → AreValues fits (rows_of (take (k + 1) cs)) x next
are_values_next fits cs x k c vs next l e h n f = record {
  same = values_next cs x k c vs next l e h.same n;
  fit = subst (λ (us : List ℤ). Each fits us) (sym n) (each_joined fits vs (values_at (rows_of (c ∷ [])) x) h.fit f);
}

pub are_values_all : (fits : ℤ → Type 0) (cs : List Condition) (x : Vector) (k : ℕ) (vs : List ℤ) → length cs ≤ k → AreValues fits (rows_of (take k cs)) x vs → AreValues fits (rows_of cs) x vs
are_values_all fits cs x k vs l h = subst (λ (ds : List Condition). AreValues fits (rows_of ds) x vs) (take_all k cs l) h

-- the values at a vector of the monoid are amounts
pub amounts_of : (fits : ℤ → Type 0) (cs : List Condition) (x : Vector) (vs : List ℤ) → MeetsAll cs x → AreValues fits (rows_of cs) x vs → AreAmounts fits (length (rows_of cs)) vs
amounts_of fits cs x vs m h = record {
  size = ap length h.same ∙ length-map (rows_of cs) (λ f. dot f x);
  not_negative = subst (λ (us : List ℤ). Each (λ v. pos 0 ≤ℤ v) us) (sym h.same) (values_nonneg cs x m);
  fit = h.fit;
}

-- ---- what is left

pub lessen_same : (fits : ℤ → Type 0) (c : ℤ) (hs vs : List ℤ) → CanLessen fits c hs vs → length hs ≡ length vs
lessen_same fits c [] [] h = refl
lessen_same fits c [] (v ∷ vs) h = absurd h
lessen_same fits c (a ∷ hs) [] h = absurd h
lessen_same fits c (a ∷ hs) (v ∷ vs) h = ap suc (lessen_same fits c hs vs h.2)

pub lessen_at : (fits : ℤ → Type 0) (c : ℤ) (hs vs : List ℤ) (k : ℕ) (h v : ℤ) → k < length vs → h ≡ get_or hs k (pos 0) → v ≡ get_or vs k (pos 0) → CanLessen fits c hs vs → fits (c *ℤ h) × fits (v -ℤ c *ℤ h)
lessen_at fits c [] [] k h v l p q a = absurd (omega (arith, l))
lessen_at fits c [] (w ∷ vs) k h v l p q a = absurd a
lessen_at fits c (g ∷ hs) [] k h v l p q a = absurd a
lessen_at fits c (g ∷ hs) (w ∷ vs) zero h v l p q a = (subst (λ (t : ℤ). fits (c *ℤ t)) (sym p) a.0, subst (λ (t : ℤ). fits (t -ℤ c *ℤ h)) (sym q) (subst (λ (t : ℤ). fits (w -ℤ c *ℤ t)) (sym p) a.1))
lessen_at fits c (g ∷ hs) (w ∷ vs) (suc k) h v l p q a = lessen_at fits c hs vs k h v (omega (arith, l)) p q a.2

minus_at : (c : ℤ) (hs vs : List ℤ) (k : ℕ) → length hs ≡ length vs → k < length vs → get_or (minus vs (scaled c hs)) k (pos 0) ≡ get_or vs k (pos 0) -ℤ c *ℤ get_or hs k (pos 0)
minus_at c [] [] k e l = absurd (omega (arith, l))
minus_at c [] (v ∷ vs) k e l = absurd (omega (arith, e))
minus_at c (h ∷ hs) [] k e l = absurd (omega (arith, e))
minus_at c (h ∷ hs) (v ∷ vs) zero e l = refl
minus_at c (h ∷ hs) (v ∷ vs) (suc k) e l = minus_at c hs vs k (omega (arith, e)) (omega (arith, l))

length_left : (c : ℤ) (hs vs : List ℤ) → length hs ≡ length vs → length (minus vs (scaled c hs)) ≡ length vs
length_left c hs vs e = length-minus vs (scaled c hs) (sym e ∙ sym (length-scaled c hs))

-- one value more
pub left_next : (c : ℤ) (hs vs : List ℤ) (k : ℕ) (h v : ℤ) (rest next : List ℤ) → length hs ≡ length vs → k < length vs → h ≡ get_or hs k (pos 0) → v ≡ get_or vs k (pos 0) → rest ≡ take k (minus vs (scaled c hs)) → next ≡ rest ++ (v -ℤ c *ℤ h) ∷ [] → next ≡ take (k + 1) (minus vs (scaled c hs))
left_next c hs vs k h v rest next e l p q r n =
    let lm : k < length (minus vs (scaled c hs)) = omega (arith, l, length_left c hs vs e) in
    let a : v -ℤ c *ℤ h ≡ get_or (minus vs (scaled c hs)) k (pos 0) = ap (λ (t : ℤ). t -ℤ c *ℤ h) q ∙ ap (λ (t : ℤ). get_or vs k (pos 0) -ℤ c *ℤ t) p ∙ sym (minus_at c hs vs k e l) in
    n ∙ ap (λ (us : List ℤ). us ++ (v -ℤ c *ℤ h) ∷ []) r ∙ ap (λ (t : ℤ). take k (minus vs (scaled c hs)) ++ t ∷ []) a ∙ sym (take_more (minus vs (scaled c hs)) k (pos 0) lm)

pub left_all : (c : ℤ) (hs vs : List ℤ) (k : ℕ) (rest : List ℤ) → length hs ≡ length vs → length vs ≤ k → rest ≡ take k (minus vs (scaled c hs)) → rest ≡ minus vs (scaled c hs)
left_all c hs vs k rest e l r = r ∙ take_all k (minus vs (scaled c hs)) (omega (arith, l, length_left c hs vs e))

zero_count : (c : ℤ) → c ≡ pos 0 → pos 0 ≤ℤ c
zero_count c e = omega (arith, ints, e)

count_allowed : (hs vs : List ℤ) (c : ℤ) → Each (λ h. pos 0 ≤ℤ h) hs → Each (λ v. pos 0 ≤ℤ v) vs → IsCount hs vs c → (pos 0 ≤ℤ c) × Allow c hs vs
count_allowed hs vs c p w (inl m) = (m.not_negative, m.allowed)
count_allowed hs vs c p w (inr h) = (zero_count c h.1, allow_none c hs vs (zero_count c h.1) h.0 p w)

nonneg_left : (v t : ℤ) → t ≤ℤ v → pos 0 ≤ℤ (v -ℤ t)
nonneg_left v t h = omega (arith, ints, h)

most_left : (v t : ℤ) → pos 0 ≤ℤ t → (v -ℤ t) ≤ℤ v
most_left v t h = omega (arith, ints, h)

module _ (half : ℤ) (fits : ℤ → Type 0) (room : HasRoom half fits) where
  fits_between : (v t : ℤ) → fits v → pos 0 ≤ℤ t → t ≤ℤ v → fits t
  fits_between v t f p q = room.between (pos 0) t v room.zero_fits f p q

  lessen_allowed : (c : ℤ) (hs vs : List ℤ) → length hs ≡ length vs → pos 0 ≤ℤ c → Each (λ h. pos 0 ≤ℤ h) hs → Each fits vs → Allow c hs vs → CanLessen fits c hs vs
  lessen_allowed c [] [] e n p f a = tt
  lessen_allowed c [] (v ∷ vs) e n p f a = absurd (omega (arith, e))
  lessen_allowed c (h ∷ hs) [] e n p f a = absurd (omega (arith, e))
  lessen_allowed c (h ∷ hs) (v ∷ vs) e n p f a =
      let m = mul-nonneg c h n p.0 in
      (fits_between v (c *ℤ h) f.0 m a.0, fits_between v (v -ℤ c *ℤ h) f.0 (nonneg_left v (c *ℤ h) a.0) (most_left v (c *ℤ h) m), lessen_allowed c hs vs (omega (arith, e)) n p.1 f.1 a.1)

  left_nonneg : (c : ℤ) (hs vs : List ℤ) → Allow c hs vs → length hs ≡ length vs → Each (λ v. pos 0 ≤ℤ v) (minus vs (scaled c hs))
  left_nonneg c [] [] a e = tt
  left_nonneg c [] (v ∷ vs) a e = absurd (omega (arith, e))
  left_nonneg c (h ∷ hs) [] a e = tt
  left_nonneg c (h ∷ hs) (v ∷ vs) a e = (nonneg_left v (c *ℤ h) a.0, left_nonneg c hs vs a.1 (omega (arith, e)))

  left_fits : (c : ℤ) (hs vs : List ℤ) → CanLessen fits c hs vs → Each fits (minus vs (scaled c hs))
  left_fits c [] [] h = tt
  left_fits c [] (v ∷ vs) h = absurd h
  left_fits c (a ∷ hs) [] h = absurd h
  left_fits c (a ∷ hs) (v ∷ vs) h = (h.1, left_fits c hs vs h.2)

  -- the heights can be taken as often as counted
  pub can_lessen : (n : ℕ) (hs vs : List ℤ) (c : ℤ) → AreAmounts fits n hs → AreAmounts fits n vs → IsCount hs vs c → CanLessen fits c hs vs
  can_lessen n hs vs c p w h =
      let a = count_allowed hs vs c p.not_negative w.not_negative h in
      lessen_allowed c hs vs (p.size ∙ sym w.size) a.0 p.not_negative w.fit a.1

  -- and amounts are left
  pub amounts_left : (n : ℕ) (hs vs : List ℤ) (c : ℤ) → AreAmounts fits n hs → AreAmounts fits n vs → IsCount hs vs c → AreAmounts fits n (minus vs (scaled c hs))
  amounts_left n hs vs c p w h =
      let a = count_allowed hs vs c p.not_negative w.not_negative h in
      let e : length hs ≡ length vs = p.size ∙ sym w.size in
      record {
        size = length_left c hs vs e ∙ w.size;
        not_negative = left_nonneg c hs vs a.1 e;
        fit = left_fits c hs vs (can_lessen n hs vs c p w h);
      }

-- ---- one element more

leave_push : (rows es : List Vector) (e : Vector) (vs counts mid rest : List ℤ) (c : ℤ) → LeaveValues rows es vs counts mid → IsLessened (values_at rows e) mid c rest → LeaveValues rows (es ++ e ∷ []) vs (counts ++ c ∷ []) rest
leave_push rows [] e vs [] mid rest c h k = (subst (λ (us : List ℤ). IsCount (values_at rows e) us c) h k.count, k.left ∙ ap (λ (us : List ℤ). minus us (scaled c (values_at rows e))) h)
leave_push rows [] e vs (d ∷ counts) mid rest c h k = absurd h
leave_push rows (f ∷ es) e vs [] mid rest c h k = absurd h
leave_push rows (f ∷ es) e vs (d ∷ counts) mid rest c h k = (h.0, leave_push rows es e (minus vs (scaled d (values_at rows f))) counts mid rest c h.1 k)

pub leave_next : (rows list : List Vector) (k : ℕ) (e : Vector) (vs counts next mid rest : List ℤ) (c : ℤ) → k < length list → e ≡ get_or list k [] → next ≡ counts ++ c ∷ [] → LeaveValues rows (take k list) vs counts mid → IsLessened (values_at rows e) mid c rest → LeaveValues rows (take (k + 1) list) vs next rest
leave_next rows list k e vs counts next mid rest c l is n h t =
    let p = leave_push rows (take k list) e vs counts mid rest c h t in
    let w : take k list ++ e ∷ [] ≡ take (k + 1) list = ap (λ (u : Vector). take k list ++ u ∷ []) is ∙ sym (take_more list k [] l) in
    subst (λ (ns : List ℤ). LeaveValues rows (take (k + 1) list) vs ns rest) (sym n) (subst (λ (es : List Vector). LeaveValues rows es vs (counts ++ c ∷ []) rest) w p)

pub leave_all : (rows list : List Vector) (k : ℕ) (vs counts rest : List ℤ) → length list ≤ k → LeaveValues rows (take k list) vs counts rest → LeaveValues rows list vs counts rest
leave_all rows list k vs counts rest l h = subst (λ (es : List Vector). LeaveValues rows es vs counts rest) (take_all k list l) h

pub vector_at : (P : Vector → Type 0) (list : List Vector) (k : ℕ) (e : Vector) → k < length list → e ≡ get_or list k [] → Each P list → P e
vector_at P [] k e l is h = absurd (omega (arith, l))
vector_at P (x ∷ list) zero e l is h = subst P (sym is) h.0
vector_at P (x ∷ list) (suc k) e l is h = vector_at P list k e (omega (arith, l)) is h.1

pub lacks_value_at : (fits : ℤ → Type 0) (cs : List Condition) (list : List Vector) (k : ℕ) (e : Vector) → k < length list → e ≡ get_or list k [] → LacksValue fits cs e → LacksValueAt fits cs list
lacks_value_at fits cs list k e l is h = record { vector = e; listed = (k, l, get_or_default list k e [] l ∙ sym is); lacks = h }

-- ---- the same of slices

module _ {T : Type 0} (int : T → ℤ) where
  pub differ_at : (xs ys : List T) (k : ℕ) (x y : T) → k < length xs → k < length ys → x ≡ get_or xs k x → y ≡ get_or ys k y → int x ≢ int y → map int xs ≢ map int ys
  differ_at xs ys k x y l m e f n s = n (at_map int xs k x l e ∙ ap (λ (us : List ℤ). get_or us k (pos 0)) s ∙ sym (at_map int ys k y m f))

  pub same_next : (xs ys : List T) (k : ℕ) (x y : T) → k < length xs → k < length ys → x ≡ get_or xs k x → y ≡ get_or ys k y → int x ≡ int y → take k (map int xs) ≡ take k (map int ys) → take (k + 1) (map int xs) ≡ take (k + 1) (map int ys)
  same_next xs ys k x y l m e f n s =
      let lx : k < length (map int xs) = omega (arith, l, length-map xs int) in
      let ly : k < length (map int ys) = omega (arith, m, length-map ys int) in
      let v : get_or (map int xs) k (pos 0) ≡ get_or (map int ys) k (pos 0) = sym (at_map int xs k x l e) ∙ n ∙ at_map int ys k y m f in
      take_more (map int xs) k (pos 0) lx ∙ ap (λ (us : List ℤ). us ++ get_or (map int xs) k (pos 0) ∷ []) s ∙ ap (λ (t : ℤ). take k (map int ys) ++ t ∷ []) v ∙ sym (take_more (map int ys) k (pos 0) ly)

  pub push_counts : (counts next : List T) (c : T) → next ≡ counts ++ c ∷ [] → map int next ≡ map int counts ++ int c ∷ []
  push_counts counts next c e = ap (map int) e ∙ map-append int counts (c ∷ [])

  pub left_pushed : (rest next : List T) (c : T) (z : ℤ) → next ≡ rest ++ c ∷ [] → int c ≡ z → map int next ≡ map int rest ++ z ∷ []
  left_pushed rest next c z e s = push_counts rest next c e ∙ ap (λ (t : ℤ). map int rest ++ t ∷ []) s

  module _ (half : ℤ) (fits : ℤ → Type 0) (room : HasRoom half fits) (n : ℕ) (heights values : List T) (ph : AreAmounts fits n (map int heights)) (pv : AreAmounts fits n (map int values)) where
    pub can_lessen_slices : (h1 v1 h2 v2 : List T) (c : ℤ) → h1 ≡ heights → v1 ≡ values → h2 ≡ heights → v2 ≡ values → IsCount (map int h1) (map int v1) c → CanLessen fits c (map int h2) (map int v2)
    can_lessen_slices h1 v1 h2 v2 c a b d e k =
        let k2 = subst (λ (us : List T). IsCount (map int us) (map int values) c) a (subst (λ (us : List T). IsCount (map int h1) (map int us) c) b k) in
        subst (λ (us : List T). CanLessen fits c (map int us) (map int v2)) (sym d) (subst (λ (us : List T). CanLessen fits c (map int heights) (map int us)) (sym e) (can_lessen half fits room n (map int heights) (map int values) c ph pv k2))

    pub amounts_left_slices : (h1 v1 h2 v2 : List T) (c : ℤ) (rest : List ℤ) → h1 ≡ heights → v1 ≡ values → h2 ≡ heights → v2 ≡ values → IsCount (map int h1) (map int v1) c → rest ≡ minus (map int v2) (scaled c (map int h2)) → AreAmounts fits n rest
    amounts_left_slices h1 v1 h2 v2 c rest a b d e k r =
        let k2 = subst (λ (us : List T). IsCount (map int us) (map int values) c) a (subst (λ (us : List T). IsCount (map int h1) (map int us) c) b k) in
        let s : rest ≡ minus (map int values) (scaled c (map int heights)) = r ∙ ap (λ (us : List T). minus (map int us) (scaled c (map int h2))) e ∙ ap (λ (us : List T). minus (map int values) (scaled c (map int us))) d in
        subst (AreAmounts fits n) (sym s) (amounts_left half fits room n (map int heights) (map int values) c ph pv k2)
