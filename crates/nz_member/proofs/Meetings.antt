-- The constraints of a list by their places.
use Rattle.std.proofs.Common.{◌≡◌, ℕ, zero, suc, ◌+◌, ◌<◌, ◌≤◌, List, [], ◌∷◌, ◌++◌, length, take, get_or, ℤ, pos, sym, ap, ◌∙◌, subst, arith, take_all, refl}
use Rattle.std.proofs.lemmas.List.{take_more, get_or_default, map-append}
use Rattle.std.specs.Prelude.{Some}
use Rattle.std.specs.List.{AllByRecursion as Each}
use Rattle.nz_spec.specs.Vectors.{Vector, dot, values_at}
use Rattle.nz_spec.specs.Constraints.{Constraint, Zero, Multiple, NotNegative, Meets, MeetsAll, form_of}
use Rattle.nz_spec.proofs.ListLaws.{each_at}
use Rattle.nz_vec.specs.Sums.{SumsFit}
use Rattle.nz_member.specs.Amounts.{rows_of}
use Rattle.nz_member.specs.Values.{LacksValue}
use Rattle.nz_member.specs.Replies.{FindsBroken, HasValueThere}

each_push : (P : Constraint → Type 0) (cs : List Constraint) (c : Constraint) → Each P cs → P c → Each P (cs ++ c ∷ [])
each_push P [] c h p = (p, tt)
each_push P (d ∷ cs) c h p = (h.0, each_push P cs c h.1 p)

pub has_at : (P : Constraint → Type 0) (cs : List Constraint) (k : ℕ) (c : Constraint) → Each P cs → k < length cs → c ≡ get_or cs k c → P c
has_at P cs k c h l e = subst P (sym e) (each_at P cs k c h l)

-- one constraint more is met
pub met_more : (cs : List Constraint) (x : Vector) (k : ℕ) (c : Constraint) → k < length cs → c ≡ get_or cs k c → MeetsAll (take k cs) x → Meets c x → MeetsAll (take (k + 1) cs) x
met_more cs x k c l e h m = subst (λ (ds : List Constraint). MeetsAll ds x) (sym (take_more cs k c l)) (each_push (λ d. Meets d x) (take k cs) (get_or cs k c) h (subst (λ (d : Constraint). Meets d x) e m))

pub met_all : (cs : List Constraint) (x : Vector) (k : ℕ) → length cs ≤ k → MeetsAll (take k cs) x → MeetsAll cs x
met_all cs x k l h = subst (λ (ds : List Constraint). MeetsAll ds x) (take_all k cs l) h

pub not_all : (cs : List Constraint) (x : Vector) (k : ℕ) (c : Constraint) → k < length cs → c ≡ get_or cs k c → (¬ Meets c x) → ¬ MeetsAll cs x
not_all cs x k c l e n h = n (has_at (λ d. Meets d x) cs k c h l e)

pub lacks_at : (fits : ℤ → Type 0) (cs : List Constraint) (x : Vector) (k : ℕ) (c : Constraint) → k < length cs → c ≡ get_or cs k c → (¬ SumsFit fits (pos 0) (form_of c) x) → LacksValue fits cs x
lacks_at fits cs x k c l e n = record { constraint = c; listed = (k, l, sym e); lacks = n }

-- the constraints after a place
after : (cs : List Constraint) (k : ℕ) (c : Constraint) → k < length cs → c ≡ get_or cs k c → (rest : List Constraint) × (cs ≡ take k cs ++ c ∷ rest)
after [] k c l e = absurd (omega (arith, l))
after (d ∷ cs) zero c l e = (cs, ap (λ (b : Constraint). b ∷ cs) (sym e))
after (d ∷ cs) (suc k) c l e = (let r = after cs k c (omega (arith, l)) e in (r.0, ap (λ (ds : List Constraint). d ∷ ds) r.1))

-- the one at a place fails, and those before it are met
pub found_at : (cs : List Constraint) (x : Vector) (k : ℕ) (c : Constraint) → k < length cs → c ≡ get_or cs k c → MeetsAll (take k cs) x → (¬ Meets c x) → FindsBroken cs x (Some k)
found_at cs x k c l e m n = (
  l,
  λ d same. let r = after cs k d l same in record {
    before = take k cs;
    after = r.0;
    whole = r.1;
    met = m;
    broken = subst (λ (b : Constraint). ¬ Meets b x) (e ∙ get_or_default cs k c d l ∙ sym same) n;
  },
)

-- its form has a value
pub value_there : (fits : ℤ → Type 0) (cs : List Constraint) (x : Vector) (k : ℕ) (c : Constraint) → k < length cs → c ≡ get_or cs k c → SumsFit fits (pos 0) (form_of c) x → HasValueThere fits cs x (Some k)
value_there fits cs x k c l e v = λ d same. subst (λ (b : Constraint). SumsFit fits (pos 0) (form_of b) x) (e ∙ get_or_default cs k c d l ∙ sym same) v

-- where one is found, not all are met
pub found_not_all : (cs : List Constraint) (x : Vector) (k : ℕ) → FindsBroken cs x (Some k) → ¬ MeetsAll cs x
found_not_all cs x k f all =
    let c : Constraint = get_or cs k (Zero []) in
    let same : c ≡ get_or cs k c = sym (get_or_default cs k c (Zero []) f.0) in
    (f.1 c same).broken (has_at (λ d. Meets d x) cs k c all f.0 same)

-- the rows of joined lists
pub rows_joined : (cs ds : List Constraint) → rows_of (cs ++ ds) ≡ rows_of cs ++ rows_of ds
rows_joined [] ds = refl
rows_joined (Zero f ∷ cs) ds = rows_joined cs ds
rows_joined (Multiple f m ∷ cs) ds = rows_joined cs ds
rows_joined (NotNegative f ∷ cs) ds = ap (λ (fs : List Vector). f ∷ fs) (rows_joined cs ds)

-- the values at x, with those of one constraint more
pub values_next : (cs : List Constraint) (x : Vector) (k : ℕ) (c : Constraint) (vs next : List ℤ) → k < length cs → c ≡ get_or cs k c → vs ≡ values_at (rows_of (take k cs)) x → next ≡ vs ++ values_at (rows_of (c ∷ [])) x → next ≡ values_at (rows_of (take (k + 1) cs)) x
values_next cs x k c vs next l e h n =
    n ∙ ap (λ (us : List ℤ). us ++ values_at (rows_of (c ∷ [])) x) h ∙ sym (map-append (λ f. dot f x) (rows_of (take k cs)) (rows_of (c ∷ [])))
    ∙ ap (λ (fs : List Vector). values_at fs x) (sym (rows_joined (take k cs) (c ∷ [])))
    ∙ ap (λ (d : Constraint). values_at (rows_of (take k cs ++ d ∷ [])) x) e
    ∙ ap (λ (ds : List Constraint). values_at (rows_of ds) x) (sym (take_more cs k c l))
