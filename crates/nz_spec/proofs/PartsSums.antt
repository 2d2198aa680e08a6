-- What is taken and what is left add up; and where members have a degree, nothing but 0 or a module generator is left.
use Rattle.std.proofs.Common.{◌≡◌, ℕ, zero, suc, inl, inr, List, [], ◌∷◌, ◌++◌, length, replicate, map, ℤ, pos, negsuc, ◌+ℤ◌, ◌-ℤ◌, ◌≤ℤ◌, IsTrue, true, false, refl, sym, ap, ◌∙◌, subst, arith}
use Rattle.std.proofs.lemmas.Int.{ints}
use Rattle.std.proofs.lemmas.List.{length-replicate}
use Rattle.std.specs.List.{AllByRecursion as Each}
use Rattle.nz_spec.specs.Vectors.{Vector, dot, plus, minus, scaled, zero_vector, combination, level_of, HasWidth, IsZero, IsNonzero}
use Rattle.nz_spec.specs.Systems.{System, IsSystem, IsMember}
use Rattle.nz_spec.specs.Monoids.{IsClosed, IsIrreducible, HasLevel, IsModuleGenerator}
use Rattle.nz_spec.specs.Elements.{IsHilbertElement, IsHilbertBasis}
use Rattle.nz_spec.specs.Laws.{IsDegreeOf}
use Rattle.nz_spec.specs.Parts.{CanTake, one_more, TakesApart, leaves, takes}
use Rattle.nz_spec.proofs.VectorLaws.{length-minus, dot-plus, plus-minus, plus_comm, plus_assoc, add-scaled, one-scaled, zero-plus, zero_or_not}
use Rattle.nz_spec.proofs.SumLaws.{length-combination, combination-zeros}
use Rattle.nz_spec.proofs.ListLaws.{Each-contains, Each-weaker}
use Rattle.nz_spec.proofs.PartsLaws.{Each-at}
use Rattle.nz_spec.proofs.MemberLaws.{IsMember-plus, IsMember-zero}
use Rattle.nz_spec.proofs.LevelLaws.{level_of-plus, level_of-member}

pub length-one_more : (k : ℕ) (ns : List ℕ) → length (one_more k ns) ≡ length ns
length-one_more k [] = refl
length-one_more zero (n ∷ ns) = refl
length-one_more (suc k) (n ∷ ns) = ap suc (length-one_more k ns)

zero_counts : (n : ℕ) → map pos (replicate n 0) ≡ zero_vector n
zero_counts zero = refl
zero_counts (suc n) = ap (λ t. pos 0 ∷ t) (zero_counts n)

pub length-counts : {Member : Vector → Type 0} {elements : List Vector} {x : Vector} {counts : List ℕ} {rest : Vector} → TakesApart Member elements x counts rest → length counts ≡ length elements
length-counts {elements = elements} (leaves none) = length-replicate (length elements) zero
length-counts (takes {counts = ns} before after e whole none can t) = length-one_more (length before) ns ∙ length-counts t

pub one_time_more : (n : ℕ) (e : Vector) → scaled (pos (suc n)) e ≡ plus e (scaled (pos n) e)
one_time_more n e =
    let s : pos (suc n) ≡ pos 1 +ℤ pos n = omega (arith, ints) in
    ap (λ k. scaled k e) s ∙ add-scaled (pos 1) (pos n) e ∙ ap (λ v. plus v (scaled (pos n) e)) (one-scaled e)

-- a count with one more adds its vector to the sum
pub combination-one_more : (w : ℕ) (before after : List Vector) (e : Vector) (ns : List ℕ) → length ns ≡ length (before ++ e ∷ after) → combination w (map pos (one_more (length before) ns)) (before ++ e ∷ after) ≡ plus e (combination w (map pos ns) (before ++ e ∷ after))
combination-one_more w [] after e [] l = absurd (omega (arith, l))
combination-one_more w [] after e (n ∷ ns) l =
    ap (λ v. plus v (combination w (map pos ns) after)) (one_time_more n e) ∙ plus_assoc e (scaled (pos n) e) (combination w (map pos ns) after)
combination-one_more w (d ∷ before) after e [] l = absurd (omega (arith, l))
combination-one_more w (d ∷ before) after e (n ∷ ns) l =
    let r = combination-one_more w before after e ns (omega (arith, l)) in
    let u = scaled (pos n) d in
    let c = combination w (map pos ns) (before ++ e ∷ after) in
    ap (plus u) r ∙ sym (plus_assoc u e c) ∙ ap (λ v. plus v c) (plus_comm u e) ∙ plus_assoc e u c

-- what is taken and what is left add up to x
pub TakesApart-sum : (w : ℕ) {Member : Vector → Type 0} {elements : List Vector} {x : Vector} {counts : List ℕ} {rest : Vector} → Each (HasWidth w) elements → HasWidth w x → TakesApart Member elements x counts rest → plus (combination w (map pos counts) elements) rest ≡ x
TakesApart-sum w {elements = elements} wide l (leaves {x = x} none) =
    ap (λ v. plus v x) (ap (λ ks. combination w ks elements) (zero_counts (length elements)) ∙ combination-zeros w elements wide) ∙ zero-plus x w l
TakesApart-sum w {elements = elements} wide l (takes {x = x} {rest = rest} {counts = ns} before after e whole none can t) =
    let we : HasWidth w e = Each-at (HasWidth w) before after e (subst (λ (vs : List Vector). Each (HasWidth w) vs) whole wide) in
    let same : length x ≡ length e = l ∙ sym we in
    let less = TakesApart-sum w wide (length-minus x e same ∙ l) t in
    let n = length-counts t in
    let c = combination w (map pos ns) elements in
    let more : combination w (map pos (one_more (length before) ns)) elements ≡ plus e c =
    subst (λ (vs : List Vector). combination w (map pos (one_more (length before) ns)) vs ≡ plus e (combination w (map pos ns) vs)) (sym whole)
    (combination-one_more w before after e ns (n ∙ ap length whole)) in
    ap (λ v. plus v rest) more ∙ plus_assoc e c rest ∙ ap (plus e) less ∙ plus-minus x e same

-- what is left of a member is a member
pub TakesApart-member : {Member : Vector → Type 0} {elements : List Vector} {x : Vector} {counts : List ℕ} {rest : Vector} → Member x → TakesApart Member elements x counts rest → Member rest
TakesApart-member m (leaves none) = m
TakesApart-member m (takes before after e whole none can t) = TakesApart-member can t

-- and nothing of the list can be taken from it
pub TakesApart-none : {Member : Vector → Type 0} {elements : List Vector} {x : Vector} {counts : List ℕ} {rest : Vector} → TakesApart Member elements x counts rest → Each (λ e. ¬ CanTake Member rest e) elements
TakesApart-none (leaves none) = none
TakesApart-none (takes before after e whole none can t) = TakesApart-none t

pub minus-plus_right : (u v e : Vector) → length u ≡ length e → length v ≡ length u → plus (minus u e) v ≡ minus (plus u v) e
minus-plus_right [] v e l k = refl
minus-plus_right (a ∷ u) [] e l k = absurd (omega (arith, k))
minus-plus_right (a ∷ u) (b ∷ v) [] l k = absurd (omega (arith, l))
minus-plus_right (a ∷ u) (b ∷ v) (c ∷ e) l k =
    let f : (a -ℤ c) +ℤ b ≡ (a +ℤ b) -ℤ c = omega (arith, ints) in
    let t = minus-plus_right u v e (omega (arith, l)) (omega (arith, k)) in cc

pub minus-self : (x : Vector) → minus x x ≡ zero_vector (length x)
minus-self [] = refl
minus-self (a ∷ x) =
    let f : a -ℤ a ≡ pos 0 = omega (arith, ints) in
    let t = minus-self x in cc

module _ (Member : Vector → Type 0) (closed : IsClosed Member) (w : ℕ) (wide : (x : Vector) → Member x → HasWidth w x) (zero_in : Member (zero_vector w)) (form : Vector) (degree : IsDegreeOf Member form) where
  -- from each nonzero member some irreducible can be taken: there cannot be none
  pub some_irreducible : (n : ℕ) (y : Vector) → dot form y ≤ℤ pos n → Member y → IsNonzero y → ((e : Vector) → IsIrreducible Member e → Member (minus y e) → ⊥) → ⊥
  some_irreducible zero y h m nz none = let d = degree y m nz in omega (arith, ints, d, h)
  some_irreducible (suc n) y h m nz none =
      none y (record {
        member = m;
        nonzero = nz;
        no_sum = λ u v mu nu mv nv e.
            let l : length u ≡ length v = wide u mu ∙ sym (wide v mv) in
            let d = degree v mv nv in
            let s : dot form u +ℤ dot form v ≡ dot form y = sym (dot-plus form u v l) ∙ ap (dot form) e in
            some_irreducible n u (omega (arith, ints, h, d, s)) mu nu (λ i im rest.
            none i im (subst (λ (z : Vector). Member (minus z i)) e
            (subst Member (minus-plus_right u v i (wide u mu ∙ sym (wide i im.member)) (sym l)) (closed (minus u i) v rest mv))));
      }) (subst Member (sym (minus-self y ∙ ap zero_vector (wide y m))) zero_in)

  -- where no irreducible can be taken from a member, it is 0
  pub zero_of_none : (y : Vector) → Member y → ((e : Vector) → IsIrreducible Member e → Member (minus y e) → ⊥) → IsZero y
  zero_of_none y m none = elim (zero_or_not y) [
    | inl z ↦ z
    | inr nz ↦ absurd (bounded (dot form y) (λ n h. some_irreducible n y h m nz none))
  ]
    where
      bounded : (d : ℤ) → ((n : ℕ) → d ≤ℤ pos n → ⊥) → ⊥
      bounded (pos n) f = f n (omega (arith, ints))
      bounded (negsuc n) f = f 0 (omega (arith, ints))

pub plus-zero : (x z : Vector) → length x ≡ length z → IsZero z → plus x z ≡ x
plus-zero [] z l h = refl
plus-zero (a ∷ x) [] l h = absurd (omega (arith, l))
plus-zero (a ∷ x) (b ∷ z) l h =
    let e : a +ℤ b ≡ a = omega (arith, ints, h.0) in
    let t = plus-zero x z (omega (arith, l)) h.1 in cc

-- taking vectors of level 0 leaves the level as it is
level_of-rest : (w : ℕ) {Member : Vector → Type 0} {elements : List Vector} {x : Vector} {counts : List ℕ} {rest : Vector} → Each (λ e. HasWidth w e × (level_of e ≡ pos 0)) elements → HasWidth w x → TakesApart Member elements x counts rest → level_of rest ≡ level_of x
level_of-rest w flat l (leaves none) = refl
level_of-rest w flat l (takes {x = x} before after e whole none can t) =
    let h = Each-at (λ e. HasWidth w e × (level_of e ≡ pos 0)) before after e (subst (λ (vs : List Vector). Each (λ e. HasWidth w e × (level_of e ≡ pos 0)) vs) whole flat) in
    let same : length x ≡ length e = l ∙ sym h.0 in
    let n = length-minus x e same in
    let a = level_of-plus e (minus x e) (sym (n ∙ same)) in
    let b = ap level_of (plus-minus x e same) in
    let r = level_of-rest w flat (n ∙ l) t in
    let z = h.1 in
    omega (arith, ints, a, b, r, z)

module _ (s : System) (is : IsSystem s) (form : Vector) (degree : IsDegreeOf (IsMember s) form) (elements : List Vector) (basis : IsHilbertBasis s elements) where
  none_taken : (x : Vector) (counts : List ℕ) (rest : Vector) → TakesApart (IsMember s) elements x counts rest → (e : Vector) → IsHilbertElement s e → IsMember s (minus rest e) → ⊥
  none_taken x counts rest t e h = Each-contains (λ d. ¬ CanTake (IsMember s) rest d) elements e (TakesApart-none t) (basis.each e h)

  -- without a level, nothing is left of a member
  pub rest_is_zero : s.level ≡ false → (x : Vector) (counts : List ℕ) (rest : Vector) → IsMember s x → TakesApart (IsMember s) elements x counts rest → IsZero rest
  rest_is_zero flat x counts rest m t =
      zero_of_none (IsMember s) (IsMember-plus s) s.width (λ y h. h.width) (IsMember-zero s is) form degree rest (TakesApart-member m t)
      (λ e i k. none_taken x counts rest t e (record { irreducible = i; level_zero = λ h. absurd (let f : false ≡ true = sym flat ∙ h in cc) }) k)

  -- and it is the sum of what is taken
  pub member_is_sum : s.level ≡ false → (x : Vector) (counts : List ℕ) (rest : Vector) → IsMember s x → TakesApart (IsMember s) elements x counts rest → combination s.width (map pos counts) elements ≡ x
  member_is_sum flat x counts rest m t =
      let wide : Each (HasWidth s.width) elements = Each-weaker (IsHilbertElement s) (HasWidth s.width) (λ y h. h.irreducible.member.width) elements basis.only in
      let c = combination s.width (map pos counts) elements in
      let wc = length-combination s.width (map pos counts) elements wide in
      sym (plus-zero c rest (wc ∙ sym (TakesApart-member m t).width) (rest_is_zero flat x counts rest m t)) ∙ TakesApart-sum s.width wide m.width t

  -- with one, a module generator is left of a member of level 1
  pub rest_is_module : IsTrue s.level → (x : Vector) (counts : List ℕ) (rest : Vector) → HasLevel (IsMember s) (pos 1) x → TakesApart (IsMember s) elements x counts rest → IsModuleGenerator (IsMember s) rest
  rest_is_module tall x counts rest m t = record {
    of_level_one = record {
      member = TakesApart-member m.member t;
      at_level = level_of-rest s.width (Each-weaker (IsHilbertElement s) (λ e. HasWidth s.width e × (level_of e ≡ pos 0)) (λ e h. (h.irreducible.member.width, h.level_zero tall)) elements basis.only) m.member.width t ∙ m.at_level;
    };
    no_sum = λ y z my mz nz e. nz (zero_of_none (IsMember s) (IsMember-plus s) s.width (λ v h. h.width) (IsMember-zero s is) form degree z mz.member
        (λ i im k.
        let l : length z ≡ length i = mz.member.width ∙ sym im.member.width in
        let a = level_of-member s is tall i im.member in
        let b = level_of-member s is tall (minus z i) k in
        let c = level_of-plus i (minus z i) (sym (length-minus z i l ∙ l)) in
        let d = ap level_of (plus-minus z i l) in
        let f = mz.at_level in
        let u : plus y (minus z i) ≡ minus rest i =
        plus_comm y (minus z i) ∙ minus-plus_right z y i l (my.member.width ∙ sym mz.member.width) ∙ ap (λ v. minus v i) (plus_comm z y ∙ e) in
        none_taken x counts rest t i (record { irreducible = im; level_zero = λ h. omega (arith, ints, a, b, c, d, f) })
        (subst (IsMember s) u (IsMember-plus s y (minus z i) my.member k))));
  }
