-- The slots of a file tell its entries.
use Rattle.std.proofs.Common.{◌≡◌, ℕ, suc, ◌+◌, ◌≤◌, Bool, true, false, List, [], ◌∷◌, ◌++◌, length, map, refl, sym, ap, subst, ◌∙◌, append_assoc, arith, Some, None, Option}
use Rattle.std.specs.Prelude.{ℤ}
use Rattle.std.specs.List.{flat_map, AllByRecursion}
use Rattle.std.proofs.lemmas.List.{append-nil}
use Rattle.nz_spec.specs.Vectors.{Vector, HasWidth}
use Rattle.nz_input.specs.declared.symbol.Symbol.{Symbol}
use Rattle.nz_input.specs.declared.symbol.Symbol.TheVariants as symbol
use Rattle.nz_input.specs.declared.kind.Word.TheVariants as word
use Rattle.nz_input.specs.Words.{is_matrix, columns}
use Rattle.nz_input.specs.Symbols.{Entry, OfItem, OfGoal, IsEntry, row_count, entry_symbols as plain_symbols}
use Rattle.nz_input.proofs.Collecting.{entry-one}
use Rattle.nz_symbolic.specs.declared.symbol.Sign.{Sign}
use Rattle.nz_symbolic.specs.declared.symbol.OldType.{OldType}
use Rattle.nz_symbolic.specs.declared.symbol.Token.{Token}
use Rattle.nz_symbolic.specs.declared.symbol.Token.TheVariants as token
use Rattle.nz_symbolic.specs.declared.symbol.Role.{Role}
use Rattle.nz_symbolic.specs.declared.symbol.Role.TheVariants as role
use Rattle.nz_symbolic.specs.declared.symbol.Slot.{Slot}
use Rattle.nz_symbolic.specs.declared.symbol.Demand.{Demand}
use Rattle.nz_symbolic.specs.declared.symbol.Demand.TheVariants.{Compared, Congruent}
use Rattle.nz_symbolic.specs.Words.{kind_of}
use Rattle.nz_symbolic.specs.Constraints.{Term, Constant, Bare, Scaled, SignedTerm, Sum, Constraint, terms_in}
use Rattle.nz_symbolic.specs.Symbols.{slot, plain_slot, is_full, index_slots, term_slots, first_slots, further_slots, sum_slots, demand_token, end_slots, constraint_slots, lines, AnyEntry, Plain, Symbolic, entry_slots, IsAnyEntry, symbols, Matrix, IsMatrix, OldFits, allows_cone, count_role, matrix_slots, old_symbols}
use Rattle.nz_symbolic.specs.Sit.{dimension_by}
use Rattle.nz_symbolic.proofs.Accepting.{type-dimension}

-- ---- terms

-- a sign, a part of a term behind its literal, or anything else
abbrev sort_of : Token → ℕ
sort_of (token.Sign s) = 0
sort_of token.Star = 1
sort_of token.Variable = 1
sort_of t = 2

-- what stands first
abbrev sort_in : List Slot → ℕ
sort_in [] = 2
sort_in (s ∷ ss) = sort_of s.token

-- no part of a term, and so no sign
abbrev IsFree : List Slot → Type 0
IsFree ss = sort_in ss ≡ 1 → ⊥

abbrev IsEnd : List Slot → Type 0
IsEnd ss = sort_in ss ≡ 2

end-free : (ss : List Slot) → IsEnd ss → IsFree ss
end-free ss h e = omega (arith, h, e)

-- the first tokens are the same
heads : (s r : Slot) (ss rs : List Slot) → s ∷ ss ≡ r ∷ rs → s.token ≡ r.token
heads s r ss rs e = let same : s ≡ r = cc in ap (λ (z : Slot). z.token) same

tails : (s r : Slot) (ss rs : List Slot) → s ∷ ss ≡ r ∷ rs → ss ≡ rs
tails s r ss rs e = cc

index-one : (i j : ℕ) (x y : List Slot) → index_slots i ++ x ≡ index_slots j ++ y → (i ≡ j) × (x ≡ y)
index-one i j x y e =
    let close = slot role.Fixed token.CloseIndex in
    let behind : slot role.Bounded (token.Index i) ∷ close ∷ x ≡ slot role.Bounded (token.Index j) ∷ close ∷ y = tails _ _ _ _ e in
    let tokens : token.Index i ≡ token.Index j = heads _ _ _ _ behind in
    (cc, tails close close x y (tails _ _ _ _ behind))

term-one : (start : Role) (full : Bool) (t u : Term) (x y : List Slot) → IsFree x → IsFree y → term_slots start full t ++ x ≡ term_slots start full u ++ y → (t ≡ u) × (x ≡ y)
term-one start full (Constant n) (Constant m) x y hx hy e = let h : token.Literal n ≡ token.Literal m = heads _ _ _ _ e in let same : n ≡ m = cc in (ap (λ v. Constant v) same, tails _ _ _ _ e)
term-one start full (Constant n) (Bare j) x y hx hy e = let h : token.Literal n ≡ token.Variable = heads _ _ _ _ e in absurd cc
term-one start full (Constant n) (Scaled m true j) x y hx hy e = let is : x ≡ slot (role.Part full) token.Star ∷ slot role.Fixed token.Variable ∷ (index_slots j ++ y) = tails _ _ _ _ e in absurd (hx (rw is refl))
term-one start full (Constant n) (Scaled m false j) x y hx hy e = let is : x ≡ slot (role.Part full) token.Variable ∷ (index_slots j ++ y) = tails _ _ _ _ e in absurd (hx (rw is refl))
term-one start full (Bare i) (Constant m) x y hx hy e = let h : token.Variable ≡ token.Literal m = heads _ _ _ _ e in absurd cc
term-one start full (Bare i) (Bare j) x y hx hy e = let one = index-one i j x y (tails _ _ _ _ e) in (ap (λ v. Bare v) one.0, one.1)
term-one start full (Bare i) (Scaled m true j) x y hx hy e = let h : token.Variable ≡ token.Literal m = heads _ _ _ _ e in absurd cc
term-one start full (Bare i) (Scaled m false j) x y hx hy e = let h : token.Variable ≡ token.Literal m = heads _ _ _ _ e in absurd cc
term-one start full (Scaled n true i) (Constant m) x y hx hy e = let is : slot (role.Part full) token.Star ∷ slot role.Fixed token.Variable ∷ (index_slots i ++ x) ≡ y = tails _ _ _ _ e in absurd (hy (rw (← is) refl))
term-one start full (Scaled n false i) (Constant m) x y hx hy e = let is : slot (role.Part full) token.Variable ∷ (index_slots i ++ x) ≡ y = tails _ _ _ _ e in absurd (hy (rw (← is) refl))
term-one start full (Scaled n true i) (Bare j) x y hx hy e = let h : token.Literal n ≡ token.Variable = heads _ _ _ _ e in absurd cc
term-one start full (Scaled n false i) (Bare j) x y hx hy e = let h : token.Literal n ≡ token.Variable = heads _ _ _ _ e in absurd cc
term-one start full (Scaled n true i) (Scaled m true j) x y hx hy e =
    let h : token.Literal n ≡ token.Literal m = heads _ _ _ _ e in
    let same : n ≡ m = cc in
    let one = index-one i j x y (tails _ _ _ _ (tails _ _ _ _ (tails _ _ _ _ e))) in
    (ap (λ v. Scaled v true i) same ∙ ap (λ v. Scaled m true v) one.0, one.1)
term-one start full (Scaled n true i) (Scaled m false j) x y hx hy e =
    let h : token.Star ≡ token.Variable = heads (slot (role.Part full) token.Star) (slot (role.Part full) token.Variable) _ _ (tails _ _ _ _ e) in absurd cc
term-one start full (Scaled n false i) (Scaled m true j) x y hx hy e =
    let h : token.Variable ≡ token.Star = heads (slot (role.Part full) token.Variable) (slot (role.Part full) token.Star) _ _ (tails _ _ _ _ e) in absurd cc
term-one start full (Scaled n false i) (Scaled m false j) x y hx hy e =
    let h : token.Literal n ≡ token.Literal m = heads _ _ _ _ e in
    let same : n ≡ m = cc in
    let one = index-one i j x y (tails _ _ _ _ (tails _ _ _ _ e)) in
    (ap (λ v. Scaled v false i) same ∙ ap (λ v. Scaled m false v) one.0, one.1)

further-free : (n : ℕ) (ts : List SignedTerm) (x : List Slot) → IsEnd x → IsFree (further_slots n ts ++ x)
further-free n [] x h = end-free x h
further-free n (t ∷ ts) x h = λ e. omega (arith, e)

same-signed : (t u : SignedTerm) → t.sign ≡ u.sign → t.term ≡ u.term → t ≡ u
same-signed t u e f = ap (λ (s : Sign). record { sign = s; term = t.term }) e ∙ ap (λ (x : Term). record { sign = u.sign; term = x }) f

further-one : (n : ℕ) (ts us : List SignedTerm) (x y : List Slot) → IsEnd x → IsEnd y → further_slots n ts ++ x ≡ further_slots n us ++ y → (ts ≡ us) × (x ≡ y)
further-one n [] [] x y hx hy e = (refl, e)
further-one n [] (u ∷ us) x y hx hy e = let bad : 0 ≡ 2 = sym (ap sort_in e) ∙ hx in absurd (omega (arith, bad))
further-one n (t ∷ ts) [] x y hx hy e = let bad : 0 ≡ 2 = ap sort_in e ∙ hy in absurd (omega (arith, bad))
further-one n (t ∷ ts) (u ∷ us) x y hx hy e =
    let full = is_full (n + 1) in
    let signs : token.Sign t.sign ≡ token.Sign u.sign = heads _ _ _ _ e in
    let sign : t.sign ≡ u.sign = cc in
    let behind : (term_slots (role.Term full) full t.term ++ further_slots (n + 1) ts) ++ x ≡ (term_slots (role.Term full) full u.term ++ further_slots (n + 1) us) ++ y = tails _ _ _ _ e in
    let regrouped = sym (append_assoc (term_slots (role.Term full) full t.term) (further_slots (n + 1) ts) x) ∙ behind ∙ append_assoc (term_slots (role.Term full) full u.term) (further_slots (n + 1) us) y in
    let one = term-one (role.Term full) full t.term u.term (further_slots (n + 1) ts ++ x) (further_slots (n + 1) us ++ y) (further-free (n + 1) ts x hx) (further-free (n + 1) us y hy) regrouped in
    let below = further-one (n + 1) ts us x y hx hy one.1 in
    (ap (λ (s : SignedTerm). s ∷ ts) (same-signed t u sign one.0) ∙ ap (λ (z : List SignedTerm). u ∷ z) below.0, below.1)

-- ---- sums

first-one : (start : Role) (lead other : Option Sign) (t u : Term) (x y : List Slot) → IsFree x → IsFree y → first_slots start lead t ++ x ≡ first_slots start other u ++ y → (lead ≡ other) × (t ≡ u) × (x ≡ y)
first-one start None None t u x y hx hy e = let one = term-one start false t u x y hx hy e in (refl, one.0, one.1)
first-one start (Some s) (Some r) t u x y hx hy e =
    let signs : token.Sign s ≡ token.Sign r = heads _ _ _ _ e in
    let sign : s ≡ r = cc in
    let one = term-one (role.Term false) false t u x y hx hy (tails _ _ _ _ e) in
    (ap (λ (z : Sign). Some z) sign, one.0, one.1)
first-one start None (Some r) (Constant n) u x y hx hy e = let h : token.Literal n ≡ token.Sign r = heads _ _ _ _ e in absurd cc
first-one start None (Some r) (Bare i) u x y hx hy e = let h : token.Variable ≡ token.Sign r = heads _ _ _ _ e in absurd cc
first-one start None (Some r) (Scaled n star i) u x y hx hy e = let h : token.Literal n ≡ token.Sign r = heads _ _ _ _ e in absurd cc
first-one start (Some s) None t (Constant n) x y hx hy e = let h : token.Sign s ≡ token.Literal n = heads _ _ _ _ e in absurd cc
first-one start (Some s) None t (Bare i) x y hx hy e = let h : token.Sign s ≡ token.Variable = heads _ _ _ _ e in absurd cc
first-one start (Some s) None t (Scaled n star i) x y hx hy e = let h : token.Sign s ≡ token.Literal n = heads _ _ _ _ e in absurd cc

same-sum : (s r : Sum) → s.lead ≡ r.lead → s.first ≡ r.first → s.others ≡ r.others → s ≡ r
same-sum s r e f g = ap (λ (x : Option Sign). record { lead = x; first = s.first; others = s.others }) e ∙ ap (λ (x : Term). record { lead = r.lead; first = x; others = s.others }) f ∙ ap (λ (x : List SignedTerm). record { lead = r.lead; first = r.first; others = x }) g

sum-one : (start : Role) (s r : Sum) (x y : List Slot) → IsEnd x → IsEnd y → sum_slots start s ++ x ≡ sum_slots start r ++ y → (s ≡ r) × (x ≡ y)
sum-one start s r x y hx hy e =
    let regrouped = sym (append_assoc (first_slots start s.lead s.first) (further_slots 1 s.others) x) ∙ e ∙ append_assoc (first_slots start r.lead r.first) (further_slots 1 r.others) y in
    let one = first-one start s.lead r.lead s.first r.first (further_slots 1 s.others ++ x) (further_slots 1 r.others ++ y) (further-free 1 s.others x hx) (further-free 1 r.others y hy) regrouped in
    let more = further-one 1 s.others r.others x y hx hy one.2 in
    (same-sum s r one.0 one.1 more.0, more.1)

-- ---- constraints

demand-end : (demand : Demand) → sort_of (demand_token demand) ≡ 2
demand-end (Compared q) = refl
demand-end (Congruent m) = refl

end-end : (last full : Bool) (demand : Demand) (x : List Slot) → IsEnd (end_slots last full demand ++ x)
end-end last full (Compared q) x = refl
end-end last full (Congruent m) x = refl

-- what is behind a demand
behind_demand : Bool → Demand → Sum → List Slot → List Slot
behind_demand last demand right x = sum_slots (role.Term false) right ++ (end_slots last (is_full (terms_in right)) demand ++ x)

ending-one : (last full : Bool) (demand other : Demand) (x y : List Slot) → demand_token demand ≡ demand_token other → end_slots last full demand ++ x ≡ end_slots last full other ++ y → (demand ≡ other) × (x ≡ y)
ending-one last full (Compared q) (Compared r) x y h e = let same : q ≡ r = cc in (ap (λ v. Compared v) same, tails _ _ _ _ e)
ending-one last full (Compared q) (Congruent m) x y h e = absurd cc
ending-one last full (Congruent m) (Compared r) x y h e = absurd cc
ending-one last full (Congruent m) (Congruent n) x y h e =
    let behind : slot role.Bounded (token.Modulus m) ∷ slot role.Fixed token.CloseModulus ∷ slot role.Fixed (token.Stop last) ∷ x ≡ slot role.Bounded (token.Modulus n) ∷ slot role.Fixed token.CloseModulus ∷ slot role.Fixed (token.Stop last) ∷ y = tails _ _ _ _ e in
    let tokens : token.Modulus m ≡ token.Modulus n = heads _ _ _ _ behind in
    let same : m ≡ n = cc in
    (ap (λ v. Congruent v) same, tails _ _ _ _ (tails _ _ _ _ (tails _ _ _ _ behind)))

demand-one : (last : Bool) (demand other : Demand) (right also : Sum) (x y : List Slot) → demand_token demand ≡ demand_token other → behind_demand last demand right x ≡ behind_demand last other also y → (demand ≡ other) × (right ≡ also) × (x ≡ y)
unfolding behind_demand
demand-one last demand other right also x y h e =
    let one = sum-one (role.Term false) right also (end_slots last (is_full (terms_in right)) demand ++ x) (end_slots last (is_full (terms_in also)) other ++ y) (end-end last _ demand x) (end-end last _ other y) e in
    let ending : end_slots last (is_full (terms_in right)) demand ++ x ≡ end_slots last (is_full (terms_in right)) other ++ y = one.1 ∙ ap (λ (s : Sum). end_slots last (is_full (terms_in s)) other ++ y) (sym one.0) in
    let two = ending-one last (is_full (terms_in right)) demand other x y h ending in
    (two.0, one.0, two.1)

-- a constraint and what is behind it
parted : (last : Bool) (c : Constraint) (x : List Slot) → constraint_slots last c ++ x ≡ sum_slots role.Line c.left ++ (slot (role.Part (is_full (terms_in c.left))) (demand_token c.demand) ∷ behind_demand last c.demand c.right x)
unfolding behind_demand
parted last c x =
    append_assoc (sum_slots role.Line c.left) (slot (role.Part (is_full (terms_in c.left))) (demand_token c.demand) ∷ (sum_slots (role.Term false) c.right ++ end_slots last (is_full (terms_in c.right)) c.demand)) x
    ∙ ap (λ (z : List Slot). sum_slots role.Line c.left ++ (slot (role.Part (is_full (terms_in c.left))) (demand_token c.demand) ∷ z)) (append_assoc (sum_slots (role.Term false) c.right) (end_slots last (is_full (terms_in c.right)) c.demand) x)

same-constraint : (c b : Constraint) → c.left ≡ b.left → c.demand ≡ b.demand → c.right ≡ b.right → c ≡ b
same-constraint c b e f g = ap (λ (x : Sum). record { left = x; demand = c.demand; right = c.right }) e ∙ ap (λ (x : Demand). record { left = b.left; demand = x; right = c.right }) f ∙ ap (λ (x : Sum). record { left = b.left; demand = b.demand; right = x }) g

constraint-one : (last : Bool) (c b : Constraint) (x y : List Slot) → constraint_slots last c ++ x ≡ constraint_slots last b ++ y → (c ≡ b) × (x ≡ y)
constraint-one last c b x y e =
    let all = sym (parted last c x) ∙ e ∙ parted last b y in
    let left = sum-one role.Line c.left b.left (slot (role.Part (is_full (terms_in c.left))) (demand_token c.demand) ∷ behind_demand last c.demand c.right x) (slot (role.Part (is_full (terms_in b.left))) (demand_token b.demand) ∷ behind_demand last b.demand b.right y)
    (demand-end c.demand) (demand-end b.demand) all in
    let rest = demand-one last c.demand b.demand c.right b.right x y (heads _ _ _ _ left.1) (tails _ _ _ _ left.1) in
    (same-constraint c b left.0 rest.0 rest.1, rest.2)

lines-one : (cs bs : List Constraint) (x y : List Slot) → length cs ≡ length bs → lines cs ++ x ≡ lines bs ++ y → (cs ≡ bs) × (x ≡ y)
lines-one [] [] x y h e = (refl, e)
lines-one [] (b ∷ bs) x y h e = absurd (omega (arith, h))
lines-one (c ∷ cs) [] x y h e = absurd (omega (arith, h))
lines-one (c ∷ []) (b ∷ []) x y h e = let one = constraint-one true c b x y e in (ap (λ (z : Constraint). z ∷ []) one.0, one.1)
lines-one (c ∷ []) (b ∷ b2 ∷ bs) x y h e = absurd (omega (arith, h))
lines-one (c ∷ c2 ∷ cs) (b ∷ []) x y h e = absurd (omega (arith, h))
lines-one (c ∷ c2 ∷ cs) (b ∷ b2 ∷ bs) x y h e =
    let regrouped = sym (append_assoc (constraint_slots false c) (lines (c2 ∷ cs)) x) ∙ e ∙ append_assoc (constraint_slots false b) (lines (b2 ∷ bs)) y in
    let one = constraint-one false c b (lines (c2 ∷ cs) ++ x) (lines (b2 ∷ bs) ++ y) regrouped in
    let below = lines-one (c2 ∷ cs) (b2 ∷ bs) x y (omega (arith, h)) one.1 in
    (ap (λ (z : Constraint). z ∷ c2 ∷ cs) one.0 ∙ ap (λ (z : List Constraint). b ∷ z) below.0, below.1)

-- ---- entries without constraints

-- a count or a number
abbrev is_inner_symbol : Symbol → Bool
is_inner_symbol (symbol.Count n) = true
is_inner_symbol (symbol.Number z) = true
is_inner_symbol s = false

abbrev is_inner_token : Token → Bool
is_inner_token (token.Plain s) = is_inner_symbol s
is_inner_token t = false

abbrev IsInner : Slot → Type 0
IsInner s = is_inner_token s.token ≡ true

-- nothing such stands first
abbrev IsOuter : List Slot → Type 0
IsOuter [] = Unit {0}
IsOuter (s ∷ ss) = is_inner_token s.token ≡ false

inner-split : (a b x y : List Slot) → AllByRecursion IsInner a → AllByRecursion IsInner b → IsOuter x → IsOuter y → a ++ x ≡ b ++ y → (a ≡ b) × (x ≡ y)
inner-split [] [] x y ha hb hx hy e = (refl, e)
inner-split [] (s ∷ b) [] y ha hb hx hy e = absurd cc
inner-split [] (s ∷ b) (r ∷ x) y ha hb hx hy e = let same : r ≡ s = cc in let bad : true ≡ false = sym hb.0 ∙ ap (λ (z : Slot). is_inner_token z.token) (sym same) ∙ hx in absurd cc
inner-split (s ∷ a) [] x [] ha hb hx hy e = absurd cc
inner-split (s ∷ a) [] x (r ∷ y) ha hb hx hy e = let same : s ≡ r = cc in let bad : true ≡ false = sym ha.0 ∙ ap (λ (z : Slot). is_inner_token z.token) same ∙ hy in absurd cc
inner-split (s ∷ a) (r ∷ b) x y ha hb hx hy e =
    let same : s ≡ r = cc in
    let below = inner-split a b x y ha.1 hb.1 hx hy cc in
    (ap (λ (z : Slot). z ∷ a) same ∙ ap (λ (z : List Slot). r ∷ z) below.0, below.1)

-- the numbers of a row
abbrev number_slots : Vector → List Slot
number_slots row = map (λ z. plain_slot (symbol.Number z)) row

append-inner : (a b : List Slot) → AllByRecursion IsInner a → AllByRecursion IsInner b → AllByRecursion IsInner (a ++ b)
append-inner [] b ha hb = hb
append-inner (s ∷ a) b ha hb = (ha.0, append-inner a b ha.1 hb)

row-inner : (row : Vector) → AllByRecursion IsInner (number_slots row)
row-inner [] = tt
row-inner (z ∷ row) = (refl, row-inner row)

rows-inner : (rows : List Vector) → AllByRecursion IsInner (flat_map number_slots rows)
rows-inner [] = tt
rows-inner (row ∷ rows) = append-inner (number_slots row) (flat_map number_slots rows) (row-inner row) (rows-inner rows)

pub map-append : (xs ys : List Symbol) → map plain_slot (xs ++ ys) ≡ map plain_slot xs ++ map plain_slot ys
map-append [] ys = refl
map-append (x ∷ xs) ys = ap (λ (zs : List Slot). plain_slot x ∷ zs) (map-append xs ys)

map-row : (row : Vector) → map plain_slot (map symbol.Number row) ≡ number_slots row
map-row [] = refl
map-row (z ∷ row) = ap (λ (zs : List Slot). plain_slot (symbol.Number z) ∷ zs) (map-row row)

pub map-rows : (rows : List Vector) → map plain_slot (flat_map (λ row. map symbol.Number row) rows) ≡ flat_map number_slots rows
map-rows [] = refl
map-rows (row ∷ rows) = map-append (map symbol.Number row) (flat_map (λ r. map symbol.Number r) rows) ∙ ap (λ (zs : List Slot). zs ++ map plain_slot (flat_map (λ r. map symbol.Number r) rows)) (map-row row) ∙ ap (λ (zs : List Slot). number_slots row ++ zs) (map-rows rows)

counted-inner : (b : Bool) (n : ℕ) (rows : List Vector) → AllByRecursion IsInner (map plain_slot (row_count b n ++ flat_map (λ row. map symbol.Number row) rows))
counted-inner true n rows = (refl, subst (AllByRecursion IsInner) (sym (map-rows rows)) (rows-inner rows))
counted-inner false n rows = subst (AllByRecursion IsInner) (sym (map-rows rows)) (rows-inner rows)

map-one : (a b : List Symbol) → map plain_slot a ≡ map plain_slot b → a ≡ b
map-one [] [] e = refl
map-one [] (y ∷ b) e = absurd cc
map-one (x ∷ a) [] e = absurd cc
map-one (x ∷ a) (y ∷ b) e =
    let tokens : token.Plain x ≡ token.Plain y = heads _ _ _ _ e in
    let same : x ≡ y = cc in
    ap (λ (z : Symbol). z ∷ a) same ∙ ap (λ (z : List Symbol). y ∷ z) (map-one a b (tails _ _ _ _ e))

-- a word and what is behind it
word-one : (w v : Symbol) (a b : List Symbol) (x y : List Slot) → AllByRecursion IsInner (map plain_slot a) → AllByRecursion IsInner (map plain_slot b) → IsOuter x → IsOuter y → map plain_slot (w ∷ a) ++ x ≡ map plain_slot (v ∷ b) ++ y → (w ∷ a ≡ v ∷ b) × (x ≡ y)
word-one w v a b x y ha hb hx hy e =
    let words : plain_slot w ≡ plain_slot v = cc in
    let below = inner-split (map plain_slot a) (map plain_slot b) x y ha hb hx hy (tails _ _ _ _ e) in
    (map-one (w ∷ a) (v ∷ b) (ap (λ (z : Slot). z ∷ map plain_slot a) words ∙ ap (λ (z : List Slot). plain_slot v ∷ z) below.0), below.1)

plain-one : (e f : Entry) (x y : List Slot) → IsOuter x → IsOuter y → map plain_slot (plain_symbols e) ++ x ≡ map plain_slot (plain_symbols f) ++ y → (plain_symbols e ≡ plain_symbols f) × (x ≡ y)
plain-one (OfItem i) (OfItem j) x y hx hy h = word-one _ _ _ _ x y (counted-inner (is_matrix i.kind) (length i.rows) i.rows) (counted-inner (is_matrix j.kind) (length j.rows) j.rows) hx hy h
plain-one (OfItem i) (OfGoal g) x y hx hy h = word-one _ _ _ [] x y (counted-inner (is_matrix i.kind) (length i.rows) i.rows) tt hx hy h
plain-one (OfGoal g) (OfItem j) x y hx hy h = word-one _ _ [] _ x y tt (counted-inner (is_matrix j.kind) (length j.rows) j.rows) hx hy h
plain-one (OfGoal g) (OfGoal k) x y hx hy h = word-one _ _ [] [] x y tt tt hx hy h

-- ---- entries

entries-outer : (es : List AnyEntry) → IsOuter (flat_map entry_slots es)
entries-outer [] = tt
entries-outer (Plain (OfItem i) ∷ es) = refl
entries-outer (Plain (OfGoal g) ∷ es) = refl
entries-outer (Symbolic cs ∷ es) = refl

entries-one : (d : ℕ) (es fs : List AnyEntry) → 1 ≤ d → AllByRecursion (IsAnyEntry d) es → AllByRecursion (IsAnyEntry d) fs → flat_map entry_slots es ≡ flat_map entry_slots fs → es ≡ fs
entries-one d [] [] low he hf h = refl
entries-one d [] (Plain (OfItem i) ∷ fs) low he hf h = absurd cc
entries-one d [] (Plain (OfGoal g) ∷ fs) low he hf h = absurd cc
entries-one d [] (Symbolic cs ∷ fs) low he hf h = absurd cc
entries-one d (Plain (OfItem i) ∷ es) [] low he hf h = absurd cc
entries-one d (Plain (OfGoal g) ∷ es) [] low he hf h = absurd cc
entries-one d (Symbolic cs ∷ es) [] low he hf h = absurd cc
entries-one d (Plain e ∷ es) (Plain f ∷ fs) low he hf h =
    let one = plain-one e f (flat_map entry_slots es) (flat_map entry_slots fs) (entries-outer es) (entries-outer fs) h in
    ap (λ (z : Entry). Plain z ∷ es) (entry-one d e f low he.0 hf.0 one.0) ∙ ap (λ (z : List AnyEntry). Plain f ∷ z) (entries-one d es fs low he.1 hf.1 one.1)
entries-one d (Symbolic cs ∷ es) (Symbolic bs ∷ fs) low he hf h =
    let tokens : token.Plain (symbol.Count (length cs)) ≡ token.Plain (symbol.Count (length bs)) = heads _ _ _ _ (tails _ _ _ _ h) in
    let same : length cs ≡ length bs = cc in
    let one = lines-one cs bs (flat_map entry_slots es) (flat_map entry_slots fs) same (tails _ _ _ _ (tails _ _ _ _ (tails _ _ _ _ h))) in
    ap (λ (z : List Constraint). Symbolic z ∷ es) one.0 ∙ ap (λ (z : List AnyEntry). Symbolic bs ∷ z) (entries-one d es fs low he.1 hf.1 one.1)
entries-one d (Plain (OfItem i) ∷ es) (Symbolic bs ∷ fs) low he hf h = let bad : token.Plain (symbol.Begin (word.Keyword i.kind)) ≡ token.Constraints = heads _ _ _ _ h in absurd cc
entries-one d (Plain (OfGoal g) ∷ es) (Symbolic bs ∷ fs) low he hf h = let bad : token.Plain (symbol.Begin (word.GoalWord g)) ≡ token.Constraints = heads _ _ _ _ h in absurd cc
entries-one d (Symbolic cs ∷ es) (Plain (OfItem i) ∷ fs) low he hf h = let bad : token.Constraints ≡ token.Plain (symbol.Begin (word.Keyword i.kind)) = heads _ _ _ _ h in absurd cc
entries-one d (Symbolic cs ∷ es) (Plain (OfGoal g) ∷ fs) low he hf h = let bad : token.Constraints ≡ token.Plain (symbol.Begin (word.GoalWord g)) = heads _ _ _ _ h in absurd cc

-- the slots of a file of the new form are those of no other entries
pub symbols-one : (d n : ℕ) (es fs : List AnyEntry) → 1 ≤ d → AllByRecursion (IsAnyEntry d) es → AllByRecursion (IsAnyEntry n) fs → symbols d es ≡ symbols n fs → (d ≡ n) × (es ≡ fs)
symbols-one d n es fs low he hf h =
    let tokens : token.Plain (symbol.Dimension d) ≡ token.Plain (symbol.Dimension n) = heads _ _ _ _ (tails _ _ _ _ h) in
    let same : d ≡ n = cc in
    (same, entries-one d es fs low he (subst (λ (m : ℕ). AllByRecursion (IsAnyEntry m) fs) (sym same) hf) (tails _ _ _ _ (tails _ _ _ _ h)))

-- ---- matrices

row-one : (a b : Vector) (x y : List Slot) → length a ≡ length b → number_slots a ++ x ≡ number_slots b ++ y → (a ≡ b) × (x ≡ y)
row-one [] [] x y h e = (refl, e)
row-one [] (z ∷ b) x y h e = absurd (omega (arith, h))
row-one (z ∷ a) [] x y h e = absurd (omega (arith, h))
row-one (z ∷ a) (v ∷ b) x y h e =
    let tokens : token.Plain (symbol.Number z) ≡ token.Plain (symbol.Number v) = heads _ _ _ _ e in
    let same : z ≡ v = cc in
    let below = row-one a b x y (omega (arith, h)) (tails _ _ _ _ e) in
    (ap (λ (s : ℤ). s ∷ a) same ∙ ap (λ (s : Vector). v ∷ s) below.0, below.1)

rows-one : (c : ℕ) (a b : List Vector) → length a ≡ length b → AllByRecursion (HasWidth c) a → AllByRecursion (HasWidth c) b → flat_map number_slots a ≡ flat_map number_slots b → a ≡ b
rows-one c [] [] h ha hb e = refl
rows-one c [] (r ∷ b) h ha hb e = absurd (omega (arith, h))
rows-one c (r ∷ a) [] h ha hb e = absurd (omega (arith, h))
rows-one c (r ∷ a) (q ∷ b) h ha hb e =
    let one = row-one r q (flat_map number_slots a) (flat_map number_slots b) (ha.0 ∙ sym hb.0) e in
    ap (λ (z : Vector). z ∷ a) one.0 ∙ ap (λ (z : List Vector). q ∷ z) (rows-one c a b (omega (arith, h)) ha.1 hb.1 one.1)

same-matrix : (m l : Matrix) → m.type_is ≡ l.type_is → m.rows ≡ l.rows → m ≡ l
same-matrix m l e f = ap (λ (t : OldType). record { type_is = t; rows = m.rows }) e ∙ ap (λ (r : List Vector). record { type_is = l.type_is; rows = r }) f

matrix-one : (fixed d n : ℕ) (m l : Matrix) (x y : List Slot) → 1 ≤ d → 1 ≤ n → IsMatrix d m → IsMatrix n l → matrix_slots fixed d m ++ x ≡ matrix_slots fixed n l ++ y → (d ≡ n) × (m ≡ l) × (x ≡ y)
matrix-one fixed d n m l x y low low2 hm hl e =
    let c = columns (kind_of m.type_is) d in
    let k = columns (kind_of l.type_is) n in
    let count_tokens : token.RowCount (length m.rows) ≡ token.RowCount (length l.rows) = heads _ _ _ _ e in
    let long : length m.rows ≡ length l.rows = cc in
    let width_tokens : token.ColumnCount c ≡ token.ColumnCount k = heads _ _ _ _ (tails _ _ _ _ e) in
    let wide : c ≡ k = cc in
    let typed = slot (role.Typing (allows_cone fixed c)) (token.Typed m.type_is) in
    let typed2 = slot (role.Typing (allows_cone fixed k)) (token.Typed l.type_is) in
    let behind : (flat_map number_slots m.rows ++ typed ∷ []) ++ x ≡ (flat_map number_slots l.rows ++ typed2 ∷ []) ++ y = tails _ _ _ _ (tails _ _ _ _ e) in
    let regrouped = sym (append_assoc (flat_map number_slots m.rows) (typed ∷ []) x) ∙ behind ∙ append_assoc (flat_map number_slots l.rows) (typed2 ∷ []) y in
    let split = inner-split (flat_map number_slots m.rows) (flat_map number_slots l.rows) (typed ∷ x) (typed2 ∷ y) (rows-inner m.rows) (rows-inner l.rows) refl refl regrouped in
    let type_tokens : token.Typed m.type_is ≡ token.Typed l.type_is = heads _ _ _ _ split.1 in
    let same : m.type_is ≡ l.type_is = cc in
    let dims : d ≡ n = sym (type-dimension m.type_is d low) ∙ by m.type_is l.type_is c k same wide ∙ type-dimension l.type_is n low2 in
    let rows : m.rows ≡ l.rows = rows-one c m.rows l.rows long hm.1 (subst (λ (w : ℕ). AllByRecursion (HasWidth w) l.rows) (sym wide) hl.1) split.0 in
    (dims, same-matrix m l same rows, tails _ _ _ _ split.1)
  where
    by : (t u : OldType) (c k : ℕ) → t ≡ u → c ≡ k → dimension_by t c ≡ dimension_by u k
    by t u c k e f = rw (e, f) refl

further-one-matrices : (d : ℕ) (ms ls : List Matrix) → 1 ≤ d → AllByRecursion (IsMatrix d) ms → AllByRecursion (IsMatrix d) ls → flat_map (matrix_slots d d) ms ≡ flat_map (matrix_slots d d) ls → ms ≡ ls
further-one-matrices d [] [] low hm hl e = refl
further-one-matrices d [] (l ∷ ls) low hm hl e = absurd cc
further-one-matrices d (m ∷ ms) [] low hm hl e = absurd cc
further-one-matrices d (m ∷ ms) (l ∷ ls) low hm hl e =
    let one = matrix-one d d d m l (flat_map (matrix_slots d d) ms) (flat_map (matrix_slots d d) ls) low low hm.0 hl.0 e in
    ap (λ (z : Matrix). z ∷ ms) one.1 ∙ ap (λ (z : List Matrix). l ∷ z) (further-one-matrices d ms ls low hm.1 hl.1 one.2)

-- the slots of a file of the old form are those of no other matrices
pub old-one : (d n : ℕ) (ms ls : List Matrix) → OldFits d ms → OldFits n ls → old_symbols d ms ≡ old_symbols n ls → (d ≡ n) × (ms ≡ ls)
old-one d n [] ls (low, high, some, h) (low2, high2, some2, h2) e = absurd (some refl)
old-one d n (m ∷ ms) [] (low, high, some, h) (low2, high2, some2, h2) e = absurd (some2 refl)
old-one d n (m ∷ ms) (l ∷ ls) (low, high, some, h) (low2, high2, some2, h2) e =
    let one = matrix-one 0 d n m l (flat_map (matrix_slots d d) ms) (flat_map (matrix_slots n n) ls) low low2 h.0 h2.0 e in
    let fits : AllByRecursion (IsMatrix d) ls = subst (λ (k : ℕ). AllByRecursion (IsMatrix k) ls) (sym one.0) h2.1 in
    let behind : flat_map (matrix_slots d d) ms ≡ flat_map (matrix_slots d d) ls = one.2 ∙ ap (λ (k : ℕ). flat_map (matrix_slots k k) ls) (sym one.0) in
    (one.0, ap (λ (z : Matrix). z ∷ ms) one.1 ∙ ap (λ (z : List Matrix). l ∷ z) (further-one-matrices d ms ls low h.1 fits behind))

-- the forms have no slots in common
pub apart-forms : (d n : ℕ) (es : List AnyEntry) (ms : List Matrix) → OldFits n ms → symbols d es ≡ old_symbols n ms → ⊥
apart-forms d n es [] (low, high, some, h) e = some refl
apart-forms d n es (m ∷ ms) h e =
    let tokens : token.Plain symbol.Amb ≡ token.RowCount (length m.rows) = heads _ _ _ _ e in
    cc
