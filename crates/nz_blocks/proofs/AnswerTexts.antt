-- Asked lines at the front of a text: where a text begins with one, it begins with no other one.
use Rattle.std.proofs.Common.{◌≡◌, ℕ, zero, suc, ◌+◌, ◌^◌, ◌<◌, ◌≤ℤ◌, ℤ, pos, negsuc, Bool, List, [], ◌∷◌, ◌++◌, length, get_or, refl, sym, ap, ap₂, subst, ◌∙◌, append_assoc, arith, FitsSigned, codes, Some, None, Option}
use Rattle.std.specs.Int.{w128}
use Rattle.std.specs.List.{AllByRecursion as Each, flat_map}
use Rattle.std.specs.Fmt.{decimal, signed_decimal}
use Rattle.std.proofs.lemmas.List.{append_cancel_left}
use Rattle.nz_vec.specs.Texts.{Text}
use Rattle.nz_vec.specs.Conditions.{condition_of}
use Rattle.nz_vec.specs.declared.constraints.Constraint.{Constraint}
use Rattle.nz_vec.specs.declared.constraints.Constraint.TheVariants.{Zero, Multiple, NotNegative}
use Rattle.nz_spec.specs.Vectors.{Vector, dot}
use Rattle.nz_spec.specs.Constraints as condition
use Rattle.nz_spec.specs.Constraints.{Constraint as Condition, form_of}
use Rattle.nz_member.specs.declared.reply.Reply.{Reply}
use Rattle.nz_member.specs.declared.reply.Reply.TheVariants.{Parts, Outside}
use Rattle.nz_blocks.specs.Beginnings.{First, IsDigit, LeadsNumber}
use Rattle.nz_blocks.specs.Held.{IsHeldReply, IsHeldCondition, IsHeldAnswer}
use Rattle.nz_blocks.specs.Outcomes.{Asked, at_level}
use Rattle.nz_blocks.specs.Columns.{entries}
use Rattle.nz_blocks.specs.AskedLines.{count_word, count_words, module_word, demand, outside_text, reply_text, asked_line}
use Rattle.nz_blocks.proofs.NumberTexts.{decimal_one, signed_one, shut, shut_behind, decimal_first}
use Rattle.nz_blocks.proofs.RowTexts.{entries_one}

-- the text begins with a word that names this place of the Hilbert basis
pub record BeginsAt (place : ℕ) (s : Text) : Type 0 where
  pub count : ℕ
  pub rest : Text
  pub few : count < 10 ^ 64
  pub bare : ¬ First IsDigit rest
  pub is : s ≡ 32 ∷ (decimal count ++ (42 ∷ 104 ∷ (decimal place ++ rest)))

star_bare : (s : Text) → ¬ First IsDigit (42 ∷ s)
star_bare s d = absurd (omega (arith, d.0))

newline_bare : (s : Text) → ¬ First IsDigit (10 ∷ s)
newline_bare s d = absurd (omega (arith, d.0))

space_bare : (s : Text) → ¬ First IsDigit (32 ∷ s)
space_bare s d = absurd (omega (arith, d.0))

pub word_split : (n place : ℕ) (s : Text) → count_word place (pos (suc n)) ++ s ≡ 32 ∷ (decimal (suc n) ++ (42 ∷ 104 ∷ (decimal place ++ s)))
word_split n place s = ap (λ (x : Text). 32 ∷ x) (append_assoc (decimal (suc n) ++ codes "*h") (decimal place) s ∙ append_assoc (decimal (suc n)) (codes "*h") (decimal place ++ s))

-- a place that is named is one
place_one : (m n p q : ℕ) (s t : Text) → m < 10 ^ 64 → n < 10 ^ 64 → p < 10 ^ 64 → q < 10 ^ 64 → ¬ First IsDigit s → ¬ First IsDigit t →
    32 ∷ (decimal m ++ (42 ∷ 104 ∷ (decimal p ++ s))) ≡ 32 ∷ (decimal n ++ (42 ∷ 104 ∷ (decimal q ++ t))) → (m ≡ n) × (p ≡ q) × (s ≡ t)
place_one m n p q s t a b c d u v e =
    let front : decimal m ++ (42 ∷ 104 ∷ (decimal p ++ s)) ≡ decimal n ++ (42 ∷ 104 ∷ (decimal q ++ t)) = cc (e) in
    let one = decimal_one m n (42 ∷ 104 ∷ (decimal p ++ s)) (42 ∷ 104 ∷ (decimal q ++ t)) a b (star_bare (104 ∷ (decimal p ++ s))) (star_bare (104 ∷ (decimal q ++ t))) front in
    let back : decimal p ++ s ≡ decimal q ++ t = cc (one.1) in
    let two = decimal_one p q s t c d u v back in
    (one.0, two.0, two.1)

-- what stands behind the counts: a module generator or none, and an end of line
abbrev pub behind_counts : Option ℕ → Text → Text
behind_counts m s = module_word m ++ 10 ∷ s

-- a place below 2 ^ 64, or none
abbrev pub IsPlace : Option ℕ → Type 0
IsPlace None = Unit {0}
IsPlace (Some p) = p < 2 ^ 64

behind_bare : (m : Option ℕ) (s : Text) → ¬ First IsDigit (behind_counts m s)
behind_bare None s = newline_bare s
behind_bare (Some p) s = space_bare (109 ∷ (decimal (p + 1) ++ 10 ∷ s))

pub counts_bare : (k : ℕ) (cs : Vector) (m : Option ℕ) (s : Text) → ¬ First IsDigit (count_words k cs ++ behind_counts m s)
counts_bare k [] m s = behind_bare m s
counts_bare k (pos zero ∷ cs) m s = counts_bare (k + 1) cs m s
counts_bare k (negsuc n ∷ cs) m s = counts_bare (k + 1) cs m s
counts_bare k (pos (suc n) ∷ cs) m s = λ (d : IsDigit 32). absurd (omega (arith, d.0))

digit_not : (b : ℕ) (s t : Text) → ¬ IsDigit b → First IsDigit s → b ∷ t ≡ s → ⊥
digit_not b s t n h e = n (subst (First IsDigit) (sym e) h)

letter_no_digit : ¬ IsDigit 109
letter_no_digit d = absurd (omega (arith, d.1))

-- an earlier place is not named
behind_later : (j : ℕ) (m : Option ℕ) (s : Text) → ¬ BeginsAt j (behind_counts m s)
behind_later j None s b = (let h : 10 ≡ 32 = ap (λ (x : Text). get_or x 0 0) b.is in absurd (omega (arith, h)))
behind_later j (Some p) s b =
    let rest : 109 ∷ (decimal (p + 1) ++ 10 ∷ s) ≡ decimal b.count ++ (42 ∷ 104 ∷ (decimal j ++ b.rest)) = cc (b.is) in
    digit_not 109 (decimal b.count ++ (42 ∷ 104 ∷ (decimal j ++ b.rest))) (decimal (p + 1) ++ 10 ∷ s) letter_no_digit (decimal_first b.count (42 ∷ 104 ∷ (decimal j ++ b.rest)) b.few) rest

counts_later : (j k : ℕ) (cs : Vector) (m : Option ℕ) (s : Text) → j < k → k + length cs < 10 ^ 64 → Each (FitsSigned w128) cs → ¬ BeginsAt j (count_words k cs ++ behind_counts m s)
counts_later j k [] m s l few h = behind_later j m s
counts_later j k (pos zero ∷ cs) m s l few h = counts_later j (k + 1) cs m s (omega (arith, l)) (omega (arith, few)) h.1
counts_later j k (negsuc n ∷ cs) m s l few h = counts_later j (k + 1) cs m s (omega (arith, l)) (omega (arith, few)) h.1
counts_later j k (pos (suc n) ∷ cs) m s l few h = λ b.
    let rest = count_words (k + 1) cs ++ behind_counts m s in
    let split : (count_word k (pos (suc n)) ++ count_words (k + 1) cs) ++ behind_counts m s ≡ 32 ∷ (decimal (suc n) ++ (42 ∷ 104 ∷ (decimal k ++ rest))) =
    append_assoc (count_word k (pos (suc n))) (count_words (k + 1) cs) (behind_counts m s) ∙ word_split n k rest in
    let c = place_one (suc n) b.count k j rest b.rest (omega (arith, h.0.sfits)) b.few (omega (arith, few)) (omega (arith, few, l)) (counts_bare (k + 1) cs m s) b.bare (sym split ∙ b.is) in
    absurd (omega (arith, l, c.1))

counts_begin : (k n : ℕ) (cs : Vector) (m : Option ℕ) (s : Text) → suc n < 10 ^ 64 → BeginsAt k (count_words k (pos (suc n) ∷ cs) ++ behind_counts m s)
counts_begin k n cs m s l = record {
  count = suc n;
  rest = count_words (k + 1) cs ++ behind_counts m s;
  few = l;
  bare = counts_bare (k + 1) cs m s;
  is = append_assoc (count_word k (pos (suc n))) (count_words (k + 1) cs) (behind_counts m s) ∙ word_split n k (count_words (k + 1) cs ++ behind_counts m s);
}

module_one : (m n : Option ℕ) (s t : Text) → IsPlace m → IsPlace n → behind_counts m s ≡ behind_counts n t → (m ≡ n) × (s ≡ t)
module_one None None s t p q e = (let rest : s ≡ t = cc (e) in (refl, rest))
module_one None (Some n) s t p q e = (let h : 10 ≡ 32 = ap (λ (x : Text). get_or x 0 0) e in absurd (omega (arith, h)))
module_one (Some m) None s t p q e = (let h : 32 ≡ 10 = ap (λ (x : Text). get_or x 0 0) e in absurd (omega (arith, h)))
module_one (Some m) (Some n) s t p q e =
    let front : decimal (m + 1) ++ 10 ∷ s ≡ decimal (n + 1) ++ 10 ∷ t = cc (e) in
    let c = decimal_one (m + 1) (n + 1) (10 ∷ s) (10 ∷ t) (omega (arith, p)) (omega (arith, q)) (newline_bare s) (newline_bare t) front in
    let same : m ≡ n = omega (arith, c.0) in
    let rest : s ≡ t = cc (c.1) in
    (ap (λ (x : ℕ). Some x) same, rest)

-- as many counts, and a module generator or none
counts_one : (k : ℕ) (cs ds : Vector) (m n : Option ℕ) (s t : Text) → k + length cs < 10 ^ 64 → length cs ≡ length ds → Each (FitsSigned w128) cs → Each (FitsSigned w128) ds → Each (λ c. pos 0 ≤ℤ c) cs → Each (λ c. pos 0 ≤ℤ c) ds → IsPlace m → IsPlace n →
    count_words k cs ++ behind_counts m s ≡ count_words k ds ++ behind_counts n t → (cs ≡ ds) × (m ≡ n) × (s ≡ t)
unfolding counts_begin
counts_one k [] [] m n s t few l p q a b x y e = (let c = module_one m n s t x y e in (refl, c.0, c.1))
counts_one k [] (d ∷ ds) m n s t few l p q a b x y e = absurd (omega (arith, l))
counts_one k (c ∷ cs) [] m n s t few l p q a b x y e = absurd (omega (arith, l))
counts_one k (negsuc i ∷ cs) (d ∷ ds) m n s t few l p q a b x y e = absurd (omega (arith, a.0))
counts_one k (pos i ∷ cs) (negsuc j ∷ ds) m n s t few l p q a b x y e = absurd (omega (arith, b.0))
counts_one k (pos zero ∷ cs) (pos zero ∷ ds) m n s t few l p q a b x y e =
    let c = counts_one (k + 1) cs ds m n s t (omega (arith, few)) (omega (arith, l)) p.1 q.1 a.1 b.1 x y e in
    (ap (λ (r : Vector). pos 0 ∷ r) c.0, c.1, c.2)
counts_one k (pos zero ∷ cs) (pos (suc j) ∷ ds) m n s t few l p q a b x y e =
    absurd (counts_later k (k + 1) cs m s (omega arith) (omega (arith, few)) p.1 (subst (BeginsAt k) (sym e) (counts_begin k j ds n t (omega (arith, q.0.sfits)))))
counts_one k (pos (suc i) ∷ cs) (pos zero ∷ ds) m n s t few l p q a b x y e =
    absurd (counts_later k (k + 1) ds n t (omega arith) (omega (arith, few, l)) q.1 (subst (BeginsAt k) e (counts_begin k i cs m s (omega (arith, p.0.sfits)))))
counts_one k (pos (suc i) ∷ cs) (pos (suc j) ∷ ds) m n s t few l p q a b x y e =
    let left = counts_begin k i cs m s (omega (arith, p.0.sfits)) in
    let right = counts_begin k j ds n t (omega (arith, q.0.sfits)) in
    let c = place_one (suc i) (suc j) k k left.rest right.rest left.few right.few (omega (arith, few)) (omega (arith, few)) left.bare right.bare (sym left.is ∙ e ∙ right.is) in
    let more = counts_one (k + 1) cs ds m n s t (omega (arith, few)) (omega (arith, l)) p.1 q.1 a.1 b.1 x y c.2 in
    (ap₂ (λ (z : ℕ) (r : Vector). pos z ∷ r) c.0 more.0, more.1, more.2)

-- what stands behind the form of a constraint
abbrev pub behind_form : Condition → Vector → Text → Text
behind_form c x s = demand c ++ (codes " gives " ++ (signed_decimal (dot (form_of c) x) ++ 10 ∷ s))

pub outside_split : (x : Vector) (c : Condition) (s : Text) → outside_text x c ++ 10 ∷ s ≡ codes " out " ++ (entries (form_of c) ++ behind_form c x s)
outside_split x c s =
    let v : Text = signed_decimal (dot (form_of c) x) in
    ap (λ (z : Text). codes " out " ++ z)
    (append_assoc (entries (form_of c) ++ demand c ++ codes " gives ") v (10 ∷ s)
    ∙ append_assoc (entries (form_of c) ++ demand c) (codes " gives ") (v ++ 10 ∷ s)
    ∙ append_assoc (entries (form_of c)) (demand c) (codes " gives " ++ (v ++ 10 ∷ s)))

pub form_shut : (c : Condition) (x : Vector) (s : Text) → ¬ LeadsNumber (behind_form c x s)
form_shut (condition.Zero f) x s = shut_behind 61 (32 ∷ 48 ∷ (codes " gives " ++ (signed_decimal (dot f x) ++ 10 ∷ s))) (λ d. absurd (omega (arith, d.1))) (λ e. absurd (omega (arith, e))) (λ e. absurd (omega (arith, e)))
form_shut (condition.NotNegative f) x s = shut_behind 62 (61 ∷ 32 ∷ 48 ∷ (codes " gives " ++ (signed_decimal (dot f x) ++ 10 ∷ s))) (λ d. absurd (omega (arith, d.1))) (λ e. absurd (omega (arith, e))) (λ e. absurd (omega (arith, e)))
form_shut (condition.Multiple f m) x s = shut_behind 61 (32 ∷ 48 ∷ 32 ∷ 109 ∷ 111 ∷ 100 ∷ 32 ∷ (signed_decimal m ++ (codes " gives " ++ (signed_decimal (dot f x) ++ 10 ∷ s)))) (λ d. absurd (omega (arith, d.1))) (λ e. absurd (omega (arith, e))) (λ e. absurd (omega (arith, e)))

demand_same : (c : Condition) (x : Vector) (s t : Text) → behind_form c x s ≡ behind_form c x t → s ≡ t
demand_same c x s t e =
    let v : Text = signed_decimal (dot (form_of c) x) in
    let one : codes " gives " ++ (v ++ 10 ∷ s) ≡ codes " gives " ++ (v ++ 10 ∷ t) = append_cancel_left (demand c) (codes " gives " ++ (v ++ 10 ∷ s)) (codes " gives " ++ (v ++ 10 ∷ t)) e in
    let two : v ++ 10 ∷ s ≡ v ++ 10 ∷ t = append_cancel_left (codes " gives ") (v ++ 10 ∷ s) (v ++ 10 ∷ t) one in
    let three : 10 ∷ s ≡ 10 ∷ t = append_cancel_left v (10 ∷ s) (10 ∷ t) two in
    cc (three)

condition_same : (c d : Condition) (x : Vector) (s t : Text) → IsHeldCondition c → IsHeldCondition d → form_of c ≡ form_of d → behind_form c x s ≡ behind_form d x t → c ≡ d
condition_same (condition.Zero f) (condition.Zero g) x s t p q h e = ap condition.Zero h
condition_same (condition.NotNegative f) (condition.NotNegative g) x s t p q h e = ap condition.NotNegative h
condition_same (condition.Multiple f m) (condition.Multiple g n) x s t p q h e =
    let back : signed_decimal m ++ (codes " gives " ++ (signed_decimal (dot f x) ++ 10 ∷ s)) ≡ signed_decimal n ++ (codes " gives " ++ (signed_decimal (dot g x) ++ 10 ∷ t)) = append_cancel_left (codes " = 0 mod ") (signed_decimal m ++ (codes " gives " ++ (signed_decimal (dot f x) ++ 10 ∷ s))) (signed_decimal n ++ (codes " gives " ++ (signed_decimal (dot g x) ++ 10 ∷ t))) e in
    let same = signed_one m n (codes " gives " ++ (signed_decimal (dot f x) ++ 10 ∷ s)) (codes " gives " ++ (signed_decimal (dot g x) ++ 10 ∷ t)) p.modulus q.modulus (space_bare (codes "gives " ++ (signed_decimal (dot f x) ++ 10 ∷ s))) (space_bare (codes "gives " ++ (signed_decimal (dot g x) ++ 10 ∷ t))) back in
    ap₂ condition.Multiple h same.0
condition_same (condition.Zero f) (condition.NotNegative g) x s t p q h e = (let b : 61 ≡ 62 = ap (λ (z : Text). get_or z 1 0) e in absurd (omega (arith, b)))
condition_same (condition.NotNegative f) (condition.Zero g) x s t p q h e = (let b : 62 ≡ 61 = ap (λ (z : Text). get_or z 1 0) e in absurd (omega (arith, b)))
condition_same (condition.Multiple f m) (condition.NotNegative g) x s t p q h e = (let b : 61 ≡ 62 = ap (λ (z : Text). get_or z 1 0) e in absurd (omega (arith, b)))
condition_same (condition.NotNegative f) (condition.Multiple g n) x s t p q h e = (let b : 62 ≡ 61 = ap (λ (z : Text). get_or z 1 0) e in absurd (omega (arith, b)))
condition_same (condition.Zero f) (condition.Multiple g n) x s t p q h e = (let b : 103 ≡ 109 = ap (λ (z : Text). get_or z 5 0) e in absurd (omega (arith, b)))
condition_same (condition.Multiple f m) (condition.Zero g) x s t p q h e = (let b : 109 ≡ 103 = ap (λ (z : Text). get_or z 5 0) e in absurd (omega (arith, b)))

outside_one : (x : Vector) (c d : Condition) (s t : Text) → IsHeldCondition c → IsHeldCondition d → outside_text x c ++ 10 ∷ s ≡ outside_text x d ++ 10 ∷ t → (c ≡ d) × (s ≡ t)
outside_one x c d s t p q e =
    let both : codes " out " ++ (entries (form_of c) ++ behind_form c x s) ≡ codes " out " ++ (entries (form_of d) ++ behind_form d x t) = sym (outside_split x c s) ∙ e ∙ outside_split x d t in
    let front = append_cancel_left (codes " out ") (entries (form_of c) ++ behind_form c x s) (entries (form_of d) ++ behind_form d x t) both in
    let forms = entries_one (form_of c) (form_of d) (behind_form c x s) (behind_form d x t) p.form q.form (form_shut c x s) (form_shut d x t) front in
    let same = condition_same c d x s t p q forms.0 forms.1 in
    (same, demand_same d x s t (subst (λ (k : Condition). behind_form k x s ≡ behind_form d x t) same forms.1))

pub constraint_same : (c d : Constraint ℤ) → condition_of (λ z. z) c ≡ condition_of (λ z. z) d → c ≡ d
constraint_same (Zero f) (Zero g) e = (let h : f ≡ g = cc (e) in ap Zero h)
constraint_same (NotNegative f) (NotNegative g) e = (let h : f ≡ g = cc (e) in ap NotNegative h)
constraint_same (Multiple f m) (Multiple g n) e = (let h : f ≡ g = cc (e) in let k : m ≡ n = cc (e) in ap₂ Multiple h k)
constraint_same (Zero f) (NotNegative g) e = absurd cc
constraint_same (NotNegative f) (Zero g) e = absurd cc
constraint_same (Zero f) (Multiple g n) e = absurd cc
constraint_same (Multiple f m) (Zero g) e = absurd cc
constraint_same (NotNegative f) (Multiple g n) e = absurd cc
constraint_same (Multiple f m) (NotNegative g) e = absurd cc

-- so many counts, none below 0, and a place or none
abbrev pub IsPlain : ℕ → Reply ℤ → Type 0
IsPlain n (Parts place counts) = (length counts ≡ n) × Each (λ c. pos 0 ≤ℤ c) counts × IsPlace place
IsPlain n (Outside c) = Unit {0}

pub parts_split : (x : Vector) (m : Option ℕ) (cs : Vector) (s : Text) → reply_text x (Parts m cs) ++ 10 ∷ s ≡ codes " in" ++ (count_words 1 cs ++ behind_counts m s)
parts_split x m cs s = ap (λ (z : Text). codes " in" ++ z) (append_assoc (count_words 1 cs) (module_word m) (10 ∷ s))

reply_one : (n : ℕ) (x : Vector) (r q : Reply ℤ) (s t : Text) → n < 2 ^ 64 → IsPlain n r → IsPlain n q → IsHeldReply r → IsHeldReply q → reply_text x r ++ 10 ∷ s ≡ reply_text x q ++ 10 ∷ t → (r ≡ q) × (s ≡ t)
reply_one n x (Parts m cs) (Parts k ds) s t few p q h u e =
    let both : codes " in" ++ (count_words 1 cs ++ behind_counts m s) ≡ codes " in" ++ (count_words 1 ds ++ behind_counts k t) = sym (parts_split x m cs s) ∙ e ∙ parts_split x k ds t in
    let front = append_cancel_left (codes " in") (count_words 1 cs ++ behind_counts m s) (count_words 1 ds ++ behind_counts k t) both in
    let size : length cs ≡ length ds = p.0 ∙ sym q.0 in
    let c = counts_one 1 cs ds m k s t (omega (arith, p.0, few)) size h.each u.each p.1 q.1 p.2 q.2 front in
    (ap₂ Parts c.1 c.0, c.2)
reply_one n x (Parts m cs) (Outside d) s t few p q h u e = (let b : 105 ≡ 111 = ap (λ (z : Text). get_or z 1 0) e in absurd (omega (arith, b)))
reply_one n x (Outside c) (Parts k ds) s t few p q h u e = (let b : 111 ≡ 105 = ap (λ (z : Text). get_or z 1 0) e in absurd (omega (arith, b)))
reply_one n x (Outside c) (Outside d) s t few p q h u e =
    let o = outside_one x (condition_of (λ z. z) c) (condition_of (λ z. z) d) s t h u e in
    (ap (λ (k : Constraint ℤ). Outside k) (constraint_same c d o.0), o.1)

pub asked_split : (level : Bool) (x : Vector) (r : Reply ℤ) (s : Text) → asked_line level (x, r) ++ s ≡ entries x ++ 58 ∷ (reply_text (at_level level x) r ++ 10 ∷ s)
asked_split level x r s =
    append_assoc (entries x ++ codes ":" ++ reply_text (at_level level x) r) (10 ∷ []) s
    ∙ append_assoc (entries x ++ codes ":") (reply_text (at_level level x) r) (10 ∷ s)
    ∙ append_assoc (entries x) (codes ":") (reply_text (at_level level x) r ++ 10 ∷ s)

pub colon_shut : (s : Text) → ¬ LeadsNumber (58 ∷ s)
colon_shut s = shut 58 s (λ d. absurd (omega (arith, d.1))) (λ e. absurd (omega (arith, e))) (λ e. absurd (omega (arith, e)))

asked_one : (level : Bool) (n : ℕ) (a b : Asked) (s t : Text) → n < 2 ^ 64 → IsPlain n a.1 → IsPlain n b.1 → IsHeldAnswer a → IsHeldAnswer b → asked_line level a ++ s ≡ asked_line level b ++ t → (a ≡ b) × (s ≡ t)
asked_one level n (x, r) (y, q) s t few p u h k e =
    let both = sym (asked_split level x r s) ∙ e ∙ asked_split level y q t in
    let front = entries_one x y (58 ∷ (reply_text (at_level level x) r ++ 10 ∷ s)) (58 ∷ (reply_text (at_level level y) q ++ 10 ∷ t)) h.vector k.vector (colon_shut (reply_text (at_level level x) r ++ 10 ∷ s)) (colon_shut (reply_text (at_level level y) q ++ 10 ∷ t)) both in
    let rest : reply_text (at_level level x) r ++ 10 ∷ s ≡ reply_text (at_level level y) q ++ 10 ∷ t = cc (front.1) in
    let c = reply_one n (at_level level y) r q s t few p u h.reply k.reply (subst (λ (v : Vector). reply_text (at_level level v) r ++ 10 ∷ s ≡ reply_text (at_level level y) q ++ 10 ∷ t) front.0 rest) in
    (ap₂ (λ (v : Vector) (w : Reply ℤ). (v, w)) front.0 c.0, c.1)

-- as many asked lines
pub asked_lines_one : (level : Bool) (n : ℕ) (xs ys : List Asked) (s t : Text) → n < 2 ^ 64 → Each (λ a. IsPlain n a.1) xs → Each (λ a. IsPlain n a.1) ys → Each IsHeldAnswer xs → Each IsHeldAnswer ys → length xs ≡ length ys →
    flat_map (asked_line level) xs ++ s ≡ flat_map (asked_line level) ys ++ t → (xs ≡ ys) × (s ≡ t)
asked_lines_one level n [] [] s t few p u h k l e = (refl, e)
asked_lines_one level n [] (y ∷ ys) s t few p u h k l e = absurd (omega (arith, l))
asked_lines_one level n (x ∷ xs) [] s t few p u h k l e = absurd (omega (arith, l))
asked_lines_one level n (x ∷ xs) (y ∷ ys) s t few p u h k l e =
    let left = append_assoc (asked_line level x) (flat_map (asked_line level) xs) s in
    let right = append_assoc (asked_line level y) (flat_map (asked_line level) ys) t in
    let c = asked_one level n x y (flat_map (asked_line level) xs ++ s) (flat_map (asked_line level) ys ++ t) few p.0 u.0 h.0 k.0 (sym left ∙ e ∙ right) in
    let more = asked_lines_one level n xs ys s t few p.1 u.1 h.1 k.1 (omega (arith, l)) c.1 in
    (ap₂ (λ (v : Asked) (w : List Asked). v ∷ w) c.0 more.0, more.1)
