-- Slots that lead to where a file may end are those of a file.
use Rattle.std.proofs.Common.{◌≡◌, ℕ, zero, suc, ◌+◌, ◌*◌, ◌≤◌, nat_le, Bool, true, false, List, [], ◌∷◌, ◌++◌, length, map, take, drop, refl, sym, ap, subst, ◌∙◌, append_assoc, arith, inl, inr, ◌⊎◌, Option, Some, None}
use Rattle.std.specs.Prelude.{◌==◌, ℤ}
use Rattle.std.specs.List.{flat_map, AllByRecursion}
use Rattle.std.proofs.lemmas.Bool.Decides.{nat_tests}
use Rattle.std.proofs.lemmas.List.{append-nil, length-take, length-drop, take-append-drop}
use Rattle.std.proofs.Math.Nat.{suc-mul}
use Rattle.nz_spec.specs.Vectors.{Vector, HasWidth}
use Rattle.nz_input.specs.declared.symbol.Symbol.{Symbol}
use Rattle.nz_input.specs.declared.symbol.Symbol.TheVariants as symbol
use Rattle.nz_input.specs.declared.kind.Kind.{Kind}
use Rattle.nz_input.specs.declared.kind.Word.{Word}
use Rattle.nz_input.specs.declared.kind.Word.TheVariants as word
use Rattle.nz_input.specs.declared.symbol.Role.TheVariants as plain
use Rattle.nz_input.specs.declared.symbol.Role.{Role as PlainRole}
use Rattle.nz_input.specs.Words.{is_matrix, columns}
use Rattle.nz_input.specs.Symbols.{OfItem, OfGoal, row_count}
use Rattle.nz_input.specs.Files.{HasRows}
use Rattle.nz_input.specs.Refusals.{role_of}
use Rattle.nz_input.specs.Sit as input
use Rattle.nz_input.specs.Sit.{AtFirst, AtDimension, AtEntry, AtCount, AtNumber, at_rows, behind_keyword}
use Rattle.nz_input.proofs.Going.{columns-some}
use Rattle.nz_symbolic.specs.declared.symbol.Sign.{Sign}
use Rattle.nz_symbolic.specs.declared.symbol.Relation.{Relation}
use Rattle.nz_symbolic.specs.declared.symbol.Token.{Token}
use Rattle.nz_symbolic.specs.declared.symbol.Token.TheVariants as token
use Rattle.nz_symbolic.specs.declared.symbol.Role.{Role}
use Rattle.nz_symbolic.specs.declared.symbol.Role.TheVariants as role
use Rattle.nz_symbolic.specs.declared.symbol.OldType.{OldType}
use Rattle.nz_symbolic.specs.declared.symbol.Slot.{Slot}
use Rattle.nz_symbolic.specs.declared.symbol.Demand.{Demand}
use Rattle.nz_symbolic.specs.declared.symbol.Demand.TheVariants.{Compared, Congruent}
use Rattle.nz_symbolic.specs.declared.point.Side.{Side}
use Rattle.nz_symbolic.specs.declared.point.Side.TheVariants.{Left, Right}
use Rattle.nz_symbolic.specs.declared.point.Point.{Point}
use Rattle.nz_symbolic.specs.declared.point.Point.TheVariants.{AtSum, AtTerm, AfterLiteral, AfterStar, AfterVariable, AfterOpen, AfterIndex, AfterTerm, AfterParen, AfterModulus, AfterClose}
use Rattle.nz_symbolic.specs.Words.{kind_of}
use Rattle.nz_symbolic.specs.Constraints.{Term, Constant, Bare, Scaled, SignedTerm, Sum, Constraint, IsIndex, IsTerm, IsSum, IsConstraint, terms_in}
use Rattle.nz_symbolic.specs.Symbols.{slot, plain_slot, is_full, index_slots, scaled_slots, term_slots, further_slots, first_slots, sum_slots, demand_token, end_slots, constraint_slots, lines, AnyEntry, Plain, Symbolic, entry_slots, Matrix, IsMatrix, matrix_slots, allows_cone, count_role}
use Rattle.nz_symbolic.specs.Sit.{Sit, AtOpening, InPlain, AtConstraints, AtName, InLine, AtFurther, AtColumns, AtFigure, AtType, role_at, wants, MayFollow, MayStand, MayToken, May, next, next_token, at_lines, at_figures, behind_point, IsFinal, IsColumnCount, IsTypeFor, dimension_by}
use Rattle.nz_symbolic.specs.Left.{IsSpelled, number_slots, EntriesLeft, RowsLeft, NumbersLeft, LinesLeft, EndLeft, TermsLeft, PointLeft, FiguresLeft, ColumnsLeft, MatricesLeft, IsLeft, IsLive, IsOldFile}
use Rattle.nz_symbolic.proofs.Accepting.{Steps, type-dimension, further-role}
use Rattle.nz_symbolic.proofs.OneEntry.{map-append, map-rows}

-- ---- entries without constraints

rows-left : (d width n : ℕ) (ss : List Slot) → 1 ≤ width → IsLeft (InPlain (at_rows d width n)) ss → RowsLeft d width n ss
rows-left d width zero ss low h = record { rows = []; long = refl; widths = tt; entries = h.entries; fit = h.fit; whole = h.whole }
rows-left d width (suc n) ss low h =
    record {
      rows = h.row ∷ h.others.rows;
      long = ap (λ (x : ℕ). suc x) h.others.long;
      widths = (omega (arith, h.row_long, low), h.others.widths);
      entries = h.others.entries;
      fit = h.others.fit;
      whole = h.whole ∙ ap (λ (x : List Slot). number_slots h.row ++ x) h.others.whole ∙ sym (append_assoc (number_slots h.row) (flat_map number_slots h.others.rows) (flat_map entry_slots h.others.entries));
    }

-- the slots of an item
item-slots : (b : Bool) (k : Kind) (rows : List Vector) → map plain_slot (symbol.Begin (word.Keyword k) ∷ (row_count b (length rows) ++ flat_map (λ row. map symbol.Number row) rows)) ≡ plain_slot (symbol.Begin (word.Keyword k)) ∷ (map plain_slot (row_count b (length rows)) ++ flat_map number_slots rows)
item-slots b k rows =
    ap (λ (x : List Slot). plain_slot (symbol.Begin (word.Keyword k)) ∷ x) (map-append (row_count b (length rows)) (flat_map (λ row. map symbol.Number row) rows) ∙ ap (λ (x : List Slot). map plain_slot (row_count b (length rows)) ++ x) (map-rows rows))

with-item : (b : Bool) (d n : ℕ) (k : Kind) (ss : List Slot) (h : RowsLeft d (columns k d) n ss) → is_matrix k ≡ b → (b ≡ false → n ≡ 1) → EntriesLeft d (plain_slot (symbol.Begin (word.Keyword k)) ∷ (map plain_slot (row_count b n) ++ ss))
with-item b d n k ss h e one =
    let k_slot = plain_slot (symbol.Begin (word.Keyword k)) in
    let counted = map plain_slot (row_count b (length h.rows)) in
    let rows = flat_map number_slots h.rows in
    let others = flat_map entry_slots h.entries in
    record {
      entries = Plain (OfItem (record { kind = k; rows = h.rows })) ∷ h.entries;
      fit = ((has b e one, h.widths), h.fit);
      whole =
          ap (λ (x : ℕ). k_slot ∷ (map plain_slot (row_count b x) ++ ss)) (sym h.long) ∙ ap (λ (x : List Slot). k_slot ∷ (counted ++ x)) h.whole ∙ ap (λ (x : List Slot). k_slot ∷ x) (sym (append_assoc counted rows others))
          ∙ ap (λ (x : List Slot). x ++ others) (sym (item-slots b k h.rows)) ∙ ap (λ (x : Bool). map plain_slot (symbol.Begin (word.Keyword k) ∷ (row_count x (length h.rows) ++ flat_map (λ row. map symbol.Number row) h.rows)) ++ others) (sym e);
    }
  where
    has : (b : Bool) → is_matrix k ≡ b → (b ≡ false → n ≡ 1) → HasRows (is_matrix k) (length h.rows)
    has true e one = rw e tt
    has false e one = rw e (h.long ∙ one refl)

with-keyword : (b : Bool) (d : ℕ) (k : Kind) (ss : List Slot) → 1 ≤ d → is_matrix k ≡ b → IsLeft (InPlain (behind_keyword b d k)) ss → EntriesLeft d (plain_slot (symbol.Begin (word.Keyword k)) ∷ ss)
with-keyword true d k ss low e (n, rest, rows, whole) =
    let made = with-item true d n k rest rows e (λ x. absurd cc) in
    subst (λ (x : List Slot). EntriesLeft d (plain_slot (symbol.Begin (word.Keyword k)) ∷ x)) (sym whole) made
with-keyword false d k ss low e h = with-item false d 1 k ss (rows-left d (columns k d) 1 ss (columns-some k d low) h) e (λ x. refl)

with-word : (d : ℕ) (w : Word) (ss : List Slot) → 1 ≤ d → IsLeft (InPlain (input.behind_word d w)) ss → EntriesLeft d (plain_slot (symbol.Begin w) ∷ ss)
with-word d (word.GoalWord g) ss low h = record { entries = Plain (OfGoal g) ∷ h.entries; fit = (tt, h.fit); whole = ap (λ (x : List Slot). plain_slot (symbol.Begin (word.GoalWord g)) ∷ x) h.whole }
with-word d (word.Keyword k) ss low h = with-keyword (is_matrix k) d k ss low refl h

with-number : (d width n more : ℕ) (z : ℤ) (ss : List Slot) → 1 ≤ width → IsLeft (InPlain (input.behind_number d width n more)) ss → NumbersLeft d width n (suc more) (plain_slot (symbol.Number z) ∷ ss)
with-number d width n zero z ss low h = record { row = z ∷ []; row_long = refl; rest = ss; others = rows-left d width n ss low h; whole = refl }
with-number d width n (suc more) z ss low h = record { row = z ∷ h.row; row_long = ap (λ (x : ℕ). suc x) h.row_long; rest = h.rest; others = h.others; whole = ap (λ (x : List Slot). plain_slot (symbol.Number z) ∷ x) h.whole }

plain-before : (sit : input.Sit) (s : Symbol) (ss : List Slot) → IsLive (InPlain sit) → role_of s ≡ input.wants sit → IsLeft (InPlain (input.next sit s)) ss → IsLeft (InPlain sit) (plain_slot s ∷ ss)
plain-before AtFirst s ss live h left = tt
plain-before AtDimension (symbol.Dimension d) ss live h left = record { dimension = d; entries = left.entries; fit = left.fit; whole = ap (λ (x : List Slot). plain_slot (symbol.Dimension d) ∷ x) left.whole }
plain-before AtDimension s ss live h left = absurd cc
plain-before (AtEntry d) (symbol.Begin w) ss live h left = with-word d w ss live left
plain-before (AtEntry d) s ss live h left = absurd cc
plain-before (AtCount d k) (symbol.Count n) ss live h left = (n, ss, rows-left d (columns k d) n ss (columns-some k d live.0) left, refl)
plain-before (AtCount d k) s ss live h left = absurd cc
plain-before (AtNumber d width n more) (symbol.Number z) ss live h left = with-number d width n more z ss live.1 left
plain-before (AtNumber d width n more) s ss live h left = absurd cc

-- ---- constraints

lines-cons : (c : Constraint) (cs : List Constraint) → constraint_slots (length cs == 0) c ++ lines cs ≡ lines (c ∷ cs)
lines-cons c [] = append-nil (constraint_slots true c)
lines-cons c (b ∷ cs) = ap (λ (x : Bool). constraint_slots x c ++ lines (b ∷ cs)) (some-left (length cs))
  where
    some-left : (n : ℕ) → (suc n == 0) ≡ false
    some-left n = grind (arith, nat_tests)

-- a left sum and what must follow it
constraint-left : (d later : ℕ) (s : Sum) (rest : List Slot) → IsSum d s → EndLeft d later Left (terms_in s) rest → LinesLeft d (suc later) (sum_slots role.Line s ++ rest)
constraint-left d later s rest fit (demand, right, others, right_fits, left, whole) =
    let c : Constraint = record { left = s; demand = demand; right = right } in
    let sign = slot (role.Part (is_full (terms_in s))) (demand_token demand) in
    let sum = sum_slots (role.Term false) right in
    let ending = end_slots (later == 0) (is_full (terms_in right)) demand in
    let first : sum_slots role.Line s ++ rest ≡ constraint_slots (later == 0) c ++ others =
    ap (λ (x : List Slot). sum_slots role.Line s ++ x) (whole ∙ ap (λ (x : List Slot). sign ∷ x) (sym (append_assoc sum ending others))) ∙ sym (append_assoc (sum_slots role.Line s) (sign ∷ (sum ++ ending)) others) in
    let flat = flat_map entry_slots left.entries in
    record {
      constraints = c ∷ left.constraints;
      long = ap (λ (x : ℕ). suc x) left.long;
      constraints_fit = (record { left_is = fit; right_is = right_fits }, left.constraints_fit);
      entries = left.entries;
      fit = left.fit;
      whole = first ∙ ap (λ (x : List Slot). constraint_slots (later == 0) c ++ x) left.whole ∙ ap (λ (x : ℕ). constraint_slots (x == 0) c ++ (lines left.constraints ++ flat)) (sym left.long) ∙ sym (append_assoc (constraint_slots (length left.constraints == 0) c) (lines left.constraints) flat) ∙ ap (λ (x : List Slot). x ++ flat) (lines-cons c left.constraints);
    }

lines-left : (d n : ℕ) (ss : List Slot) → IsLeft (at_lines d n) ss → LinesLeft d n ss
lines-left d zero ss h = record { constraints = []; long = refl; constraints_fit = tt; entries = h.entries; fit = h.fit; whole = h.whole }
lines-left d (suc later) ss (s, rest, fit, ends, whole) = subst (LinesLeft d (suc later)) (sym whole) (constraint-left d later s rest fit ends)

-- behind a whole term a sign and a term
with-sign : (d later : ℕ) (side : Side) (n : ℕ) (s : Sign) (ss : List Slot) → is_full n ≡ false → PointLeft d later side (n + 1) AtTerm ss → TermsLeft d later side n (slot (role.Part (is_full n)) (token.Sign s) ∷ ss)
with-sign d later side n s ss full (t, rest, fit, left, whole) =
    let full2 = is_full (n + 1) in
    let size : (n + 1) + length left.terms ≡ n + length (record { sign = s; term = t } ∷ left.terms) = omega arith in
    record {
      terms = record { sign = s; term = t } ∷ left.terms;
      fit = (fit, left.fit);
      most = omega (arith, left.most);
      rest = left.rest;
      ends = subst (λ (x : ℕ). EndLeft d later side x left.rest) size left.ends;
      whole = rw full (ap (λ (x : List Slot). slot (role.Part false) (token.Sign s) ∷ x) (whole ∙ ap (λ (x : List Slot). term_slots (role.Term full2) full2 t ++ x) left.whole ∙ sym (append_assoc (term_slots (role.Term full2) full2 t) (further_slots (n + 1) left.terms) left.rest)));
    }

-- behind a whole term nothing further of its sum
with-end : (d later : ℕ) (side : Side) (n : ℕ) (ss : List Slot) → n ≤ 400 → EndLeft d later side n ss → TermsLeft d later side n ss
with-end d later side n ss le h = let same : n ≡ n + 0 = omega arith in record { terms = []; fit = tt; most = omega (arith, le); rest = ss; ends = subst (λ (x : ℕ). EndLeft d later side x ss) same h; whole = refl }

compared-end : (d later n : ℕ) (r : Relation) (ss : List Slot) → PointLeft d later (Right false) 0 AtSum ss → EndLeft d later Left n (slot (role.Part (is_full n)) (token.Relation r) ∷ ss)
compared-end d later n r ss (s, rest, fit, (others, left, ends), whole) = (Compared r, s, others, fit, left, ap (λ (x : List Slot). slot (role.Part (is_full n)) (token.Relation r) ∷ x) (whole ∙ ap (λ (x : List Slot). sum_slots (role.Term false) s ++ x) ends))

congruent-end : (d later n : ℕ) (ss : List Slot) → PointLeft d later (Right true) 0 AtSum ss → EndLeft d later Left n (slot (role.Part (is_full n)) token.Tilde ∷ ss)
congruent-end d later n ss (s, rest, fit, (v, others, left, ends), whole) = (Congruent v, s, others, fit, left, ap (λ (x : List Slot). slot (role.Part (is_full n)) token.Tilde ∷ x) (whole ∙ ap (λ (x : List Slot). sum_slots (role.Term false) s ++ x) ends))

paren-end : (d later n : ℕ) (ss : List Slot) → PointLeft d later (Right true) n AfterParen ss → EndLeft d later (Right true) n (slot (role.Part (is_full n)) token.OpenModulus ∷ ss)
paren-end d later n ss (v, rest, left, whole) = (v, rest, left, ap (λ (x : List Slot). slot (role.Part (is_full n)) token.OpenModulus ∷ x) whole)

stop-end : (d later n : ℕ) (last : Bool) (ss : List Slot) → last ≡ (later == 0) → IsLeft (at_lines d later) ss → EndLeft d later (Right false) n (slot (role.Part (is_full n)) (token.Stop last) ∷ ss)
stop-end d later n last ss e h = (ss, lines-left d later ss h, ap (λ (x : Bool). slot (role.Part (is_full n)) (token.Stop x) ∷ ss) e)

-- behind a whole term
follow-before : (d later : ℕ) (side : Side) (n : ℕ) (t : Token) (ss : List Slot) → n ≤ 400 → MayFollow later side n t → IsLeft (behind_point d later side n AfterTerm t) ss → TermsLeft d later side n (slot (role.Part (is_full n)) t ∷ ss)
follow-before d later Left n (token.Sign s) ss le h left = with-sign d later Left n s ss h left
follow-before d later (Right b) n (token.Sign s) ss le h left = with-sign d later (Right b) n s ss h left
follow-before d later Left n (token.Relation r) ss le h left = with-end d later Left n (slot (role.Part (is_full n)) (token.Relation r) ∷ ss) le (compared-end d later n r ss left)
follow-before d later Left n token.Tilde ss le h left = with-end d later Left n (slot (role.Part (is_full n)) token.Tilde ∷ ss) le (congruent-end d later n ss left)
follow-before d later (Right false) n (token.Stop last) ss le h left = with-end d later (Right false) n (slot (role.Part (is_full n)) (token.Stop last) ∷ ss) le (stop-end d later n last ss h left)
follow-before d later (Right true) n token.OpenModulus ss le h left = with-end d later (Right true) n (slot (role.Part (is_full n)) token.OpenModulus ∷ ss) le (paren-end d later n ss left)
follow-before d later Left n t ss le h left = absurd h
follow-before d later (Right false) n t ss le h left = absurd h
follow-before d later (Right true) n t ss le h left = absurd h

-- a first term and further ones are a sum
with-first : (d later : ℕ) (side : Side) (start : Role) (lead : Option Sign) (t : Term) (ss rest : List Slot) → IsTerm d t → TermsLeft d later side 1 rest → ss ≡ first_slots start lead t ++ rest → (s : Sum) × (behind : List Slot) × IsSum d s × EndLeft d later side (terms_in s) behind × (ss ≡ sum_slots start s ++ behind)
with-first d later side start lead t ss rest fit left whole = (
  record { lead = lead; first = t; others = left.terms },
  left.rest,
  record { first_is = fit; others_are = left.fit; most = omega (arith, left.most) },
  subst (λ (x : ℕ). EndLeft d later side x left.rest) (omega arith) left.ends,
  whole ∙ ap (λ (x : List Slot). first_slots start lead t ++ x) left.whole ∙ sym (append_assoc (first_slots start lead t) (further_slots 1 left.terms) left.rest),
)

sum-literal : (d later : ℕ) (side : Side) (n v : ℕ) (ss : List Slot) → PointLeft d later side 1 AfterLiteral ss → PointLeft d later side n AtSum (slot (role_at side n AtSum) (token.Literal v) ∷ ss)
sum-literal d later side n v ss (inl left) = with-first d later side (role_at side n AtSum) None (Constant v) (slot (role_at side n AtSum) (token.Literal v) ∷ ss) ss tt left refl
sum-literal d later side n v ss (inr (star, i, rest, fit, left, whole)) = with-first d later side (role_at side n AtSum) None (Scaled v star i) (slot (role_at side n AtSum) (token.Literal v) ∷ ss) rest fit left (ap (λ (x : List Slot). slot (role_at side n AtSum) (token.Literal v) ∷ x) whole)

term-literal : (d later : ℕ) (side : Side) (n v : ℕ) (ss : List Slot) → PointLeft d later side n AfterLiteral ss → PointLeft d later side n AtTerm (slot (role.Term (is_full n)) (token.Literal v) ∷ ss)
term-literal d later side n v ss (inl left) = (Constant v, ss, tt, left, refl)
term-literal d later side n v ss (inr (star, i, rest, fit, left, whole)) = (Scaled v star i, rest, fit, left, ap (λ (x : List Slot). slot (role.Term (is_full n)) (token.Literal v) ∷ x) whole)

point-before : (d later : ℕ) (side : Side) (n : ℕ) (point : Point) (t : Token) (ss : List Slot) → n ≤ 400 → MayStand d later side n point t → IsLeft (behind_point d later side n point t) ss → PointLeft d later side n point (slot (role_at side n point) t ∷ ss)
point-before d later side n AtSum (token.Sign s) ss le h (t, rest, fit, left, whole) = with-first d later side (role_at side n AtSum) (Some s) t (slot (role_at side n AtSum) (token.Sign s) ∷ ss) rest fit left (ap (λ (x : List Slot). slot (role_at side n AtSum) (token.Sign s) ∷ x) whole)
point-before d later side n AtSum (token.Literal v) ss le h left = sum-literal d later side n v ss left
point-before d later side n AtSum token.Variable ss le h (i, rest, fit, left, whole) = with-first d later side (role_at side n AtSum) None (Bare i) (slot (role_at side n AtSum) token.Variable ∷ ss) rest fit left (ap (λ (x : List Slot). slot (role_at side n AtSum) token.Variable ∷ x) whole)
point-before d later side n AtSum t ss le h left = absurd h
point-before d later side n AtTerm (token.Literal v) ss le h left = term-literal d later side n v ss left
point-before d later side n AtTerm token.Variable ss le h (i, rest, fit, left, whole) = (Bare i, rest, fit, left, ap (λ (x : List Slot). slot (role.Term (is_full n)) token.Variable ∷ x) whole)
point-before d later side n AtTerm t ss le h left = absurd h
point-before d later side n AfterLiteral token.Star ss le h (i, rest, fit, left, whole) = inr (true, i, rest, fit, left, ap (λ (x : List Slot). slot (role.Part (is_full n)) token.Star ∷ x) whole)
point-before d later side n AfterLiteral token.Variable ss le h (i, rest, fit, left, whole) = inr (false, i, rest, fit, left, ap (λ (x : List Slot). slot (role.Part (is_full n)) token.Variable ∷ x) whole)
point-before d later side n AfterLiteral t ss le h left = inl (follow-before d later side n t ss le h left)
point-before d later side n AfterStar token.Variable ss le h (i, rest, fit, left, whole) = (i, rest, fit, left, ap (λ (x : List Slot). slot role.Fixed token.Variable ∷ x) whole)
point-before d later side n AfterStar t ss le h left = absurd h
point-before d later side n AfterVariable token.OpenIndex ss le h (i, rest, fit, left, whole) = (i, rest, fit, left, ap (λ (x : List Slot). slot role.Fixed token.OpenIndex ∷ x) whole)
point-before d later side n AfterVariable t ss le h left = absurd h
point-before d later side n AfterOpen (token.Index i) ss le h (rest, left, whole) = (i, rest, h, left, ap (λ (x : List Slot). slot role.Bounded (token.Index i) ∷ x) whole)
point-before d later side n AfterOpen t ss le h left = absurd h
point-before d later side n AfterIndex token.CloseIndex ss le h left = (ss, left, refl)
point-before d later side n AfterIndex t ss le h left = absurd h
point-before d later side n AfterTerm t ss le h left = follow-before d later side n t ss le h left
point-before d later side n AfterParen (token.Modulus v) ss le h (rest, left, whole) = (v, rest, left, ap (λ (x : List Slot). slot role.Bounded (token.Modulus v) ∷ x) whole)
point-before d later side n AfterParen t ss le h left = absurd h
point-before d later side n AfterModulus token.CloseModulus ss le h (rest, left, whole) = (rest, left, ap (λ (x : List Slot). slot role.Fixed token.CloseModulus ∷ x) whole)
point-before d later side n AfterModulus t ss le h left = absurd h
point-before d later side n AfterClose (token.Stop last) ss le h left = (ss, lines-left d later ss left, ap (λ (x : Bool). slot role.Fixed (token.Stop x) ∷ ss) h)
point-before d later side n AfterClose t ss le h left = absurd h

-- ---- entries of constraints

name-before : (d n : ℕ) (ss : List Slot) → IsLeft (at_lines d n) ss → IsLeft (AtName d n) (slot (role.Naming (nat_le 1 n)) token.Symbolic ∷ ss)
name-before d n ss left = (ss, lines-left d n ss left, refl)

with-constraints : (d : ℕ) (ss : List Slot) → IsLeft (AtConstraints d) ss → EntriesLeft d (slot (role.Plain plain.Entering) token.Constraints ∷ ss)
with-constraints d ss (n, rest, left, whole) =
    let word = slot (role.Plain plain.Entering) token.Constraints in
    let flat = flat_map entry_slots left.entries in
    record {
      entries = Symbolic left.constraints ∷ left.entries;
      fit = (left.constraints_fit, left.fit);
      whole = ap (λ (x : List Slot). word ∷ x) whole ∙ ap (λ (x : ℕ). word ∷ plain_slot (symbol.Count x) ∷ slot (role.Naming (nat_le 1 x)) token.Symbolic ∷ rest) (sym left.long)
          ∙ ap (λ (x : List Slot). word ∷ plain_slot (symbol.Count (length left.constraints)) ∷ slot (role.Naming (nat_le 1 (length left.constraints))) token.Symbolic ∷ x) left.whole;
    }

-- ---- matrices of the old form

figures-left : (fixed n c more : ℕ) (ss : List Slot) → IsLeft (at_figures fixed n c more) ss → FiguresLeft fixed n c more ss
figures-left fixed n c zero ss h = h
figures-left fixed n c (suc more) ss h = h

with-figure : (fixed n c more : ℕ) (z : ℤ) (ss : List Slot) → IsLeft (at_figures fixed n c more) ss → FiguresLeft fixed n c (suc more) (plain_slot (symbol.Number z) ∷ ss)
with-figure fixed n c more z ss left =
    let h = figures-left fixed n c more ss left in
    record { numbers = z ∷ h.numbers; long = ap (λ (x : ℕ). suc x) h.long; type_is = h.type_is; typed = h.typed; others = h.others; fit = h.fit; whole = ap (λ (x : List Slot). plain_slot (symbol.Number z) ∷ x) h.whole }

with-type : (fixed n c : ℕ) (t : OldType) (ss : List Slot) → IsTypeFor fixed n c t → MatricesLeft (dimension_by t c) ss → FiguresLeft fixed n c 0 (slot (role.Typing (allows_cone fixed c)) (token.Typed t) ∷ ss)
with-type fixed n c t ss h left =
    let same : dimension_by t c ≡ h.dimension = ap (dimension_by t) h.columns_are ∙ type-dimension t h.dimension h.low in
    record {
      numbers = [];
      long = refl;
      type_is = t;
      typed = h;
      others = left.matrices;
      fit = subst (λ (x : ℕ). AllByRecursion (IsMatrix x) left.matrices) same left.fit;
      whole = ap (λ (x : List Slot). slot (role.Typing (allows_cone fixed c)) (token.Typed t) ∷ x) (left.whole ∙ ap (λ (x : ℕ). flat_map (matrix_slots x x) left.matrices) same);
    }

-- so many numbers in rows of a width
record Chunks (n c : ℕ) (zs : Vector) : Type 0 where
  rows : List Vector
  long : length rows ≡ n
  widths : AllByRecursion (HasWidth c) rows
  whole : flat_map number_slots rows ≡ number_slots zs

numbers-split : (a b : Vector) → number_slots (a ++ b) ≡ number_slots a ++ number_slots b
numbers-split [] b = refl
numbers-split (z ∷ a) b = ap (λ (x : List Slot). plain_slot (symbol.Number z) ∷ x) (numbers-split a b)

chunks : (n c : ℕ) (zs : Vector) → length zs ≡ n * c → Chunks n c zs
chunks zero c [] e = record { rows = []; long = refl; widths = tt; whole = refl }
chunks zero c (z ∷ zs) e = absurd (omega (arith, e))
chunks (suc n) c zs e =
    let size : length zs ≡ c + n * c = omega (arith, e, suc-mul n c) in
    let front : length (take c zs) ≡ c = omega (arith, length-take c zs, size) in
    let back : length (drop c zs) ≡ n * c = omega (arith, length-drop c zs, size) in
    let below = chunks n c (drop c zs) back in
    record {
      rows = take c zs ∷ below.rows;
      long = ap (λ (x : ℕ). suc x) below.long;
      widths = (front, below.widths);
      whole = ap (λ (x : List Slot). number_slots (take c zs) ++ x) below.whole ∙ sym (numbers-split (take c zs) (drop c zs)) ∙ ap number_slots (take-append-drop c zs);
    }

with-columns : (fixed n c : ℕ) (ss : List Slot) → IsLeft (at_figures fixed n c (n * c)) ss → ColumnsLeft fixed n (slot (role.Columns fixed) (token.ColumnCount c) ∷ ss)
with-columns fixed n c ss left =
    let h = figures-left fixed n c (n * c) ss left in
    let cut = chunks n c h.numbers h.long in
    let d = h.typed.dimension in
    let t = h.type_is in
    let others = flat_map (matrix_slots d d) h.others in
    let is = h.typed.columns_are in
    let fits : IsMatrix d (record { type_is = t; rows = cut.rows }) = (rw (cut.long) h.typed.rows_are, subst (λ (x : ℕ). AllByRecursion (HasWidth x) cut.rows) is cut.widths) in
    record {
      dimension = d;
      low = h.typed.low;
      high = h.typed.high;
      same = h.typed.same;
      matrix = record { type_is = t; rows = cut.rows };
      matrix_fits = fits;
      long = cut.long;
      others = h.others;
      fit = h.fit;
      whole = ap (λ (x : List Slot). slot (role.Columns fixed) (token.ColumnCount c) ∷ x) (h.whole ∙ ap (λ (x : List Slot). x ++ slot (role.Typing (allows_cone fixed c)) (token.Typed t) ∷ others) (sym cut.whole))
          ∙ ap (λ (x : ℕ). slot (role.Columns fixed) (token.ColumnCount x) ∷ (flat_map number_slots cut.rows ++ slot (role.Typing (allows_cone fixed x)) (token.Typed t) ∷ others)) is;
    }

-- a whole matrix and what is behind it
matrix-parted : (fixed d : ℕ) (m : Matrix) (x : List Slot) → slot (count_role fixed) (token.RowCount (length m.rows)) ∷ slot (role.Columns fixed) (token.ColumnCount (columns (kind_of m.type_is) d)) ∷ (flat_map number_slots m.rows ++ slot (role.Typing (allows_cone fixed (columns (kind_of m.type_is) d))) (token.Typed m.type_is) ∷ x) ≡ matrix_slots fixed d m ++ x
matrix-parted fixed d m x =
    let typed = slot (role.Typing (allows_cone fixed (columns (kind_of m.type_is) d))) (token.Typed m.type_is) in
    ap (λ (z : List Slot). slot (count_role fixed) (token.RowCount (length m.rows)) ∷ slot (role.Columns fixed) (token.ColumnCount (columns (kind_of m.type_is) d)) ∷ z) (sym (append_assoc (flat_map number_slots m.rows) (typed ∷ []) x))

with-rows : (fixed n d : ℕ) (r : Role) (ss : List Slot) (h : ColumnsLeft fixed n ss) → r ≡ count_role fixed → d ≡ h.dimension → slot r (token.RowCount n) ∷ ss ≡ matrix_slots fixed h.dimension h.matrix ++ flat_map (matrix_slots d d) h.others
with-rows fixed n d r ss h role_is same =
    ap (λ (x : Role). slot x (token.RowCount n) ∷ ss) role_is ∙ ap (λ (x : ℕ). slot (count_role fixed) (token.RowCount x) ∷ ss) (sym h.long) ∙ ap (λ (x : List Slot). slot (count_role fixed) (token.RowCount (length h.matrix.rows)) ∷ x) h.whole
    ∙ matrix-parted fixed h.dimension h.matrix (flat_map (matrix_slots h.dimension h.dimension) h.others) ∙ ap (λ (x : ℕ). matrix_slots fixed h.dimension h.matrix ++ flat_map (matrix_slots x x) h.others) (sym same)

further-before : (d n : ℕ) (ss : List Slot) → 1 ≤ d → ColumnsLeft d n ss → MatricesLeft d (slot role.Further (token.RowCount n) ∷ ss)
further-before d n ss low h =
    let same : d ≡ h.dimension = elim (h.same) [ inl e ↦ absurd (omega (arith, low, e)) | inr e ↦ e ] in
    record {
      matrices = h.matrix ∷ h.others;
      fit = (subst (λ (x : ℕ). IsMatrix x h.matrix) (sym same) h.matrix_fits, subst (λ (x : ℕ). AllByRecursion (IsMatrix x) h.others) (sym same) h.fit);
      whole = with-rows d n d role.Further ss h (sym (further-role d low)) same ∙ ap (λ (x : ℕ). matrix_slots d x h.matrix ++ flat_map (matrix_slots d d) h.others) (sym same);
    }

first-before : (n : ℕ) (ss : List Slot) → ColumnsLeft 0 n ss → IsOldFile (slot role.Opening (token.RowCount n) ∷ ss)
first-before n ss h = record { dimension = h.dimension; matrices = h.matrix ∷ h.others; fit = (h.low, h.high, (λ e. cc), (h.matrix_fits, h.fit)); whole = sym (with-rows 0 n h.dimension role.Opening ss h refl refl) }

-- ---- one token more

pub left-before : (q : Sit) (t : Token) (ss : List Slot) → IsLive q → MayToken q t → IsLeft (next_token q t) ss → IsLeft q (slot (wants q) t ∷ ss)
left-before AtOpening (token.Plain s) ss live h left =
    inl (record { dimension = left.dimension; entries = left.entries; fit = left.fit; whole = ap (λ (x : List Slot). slot role.Opening (token.Plain symbol.Amb) ∷ x) (sym left.whole) ∙ ap (λ (x : Symbol). slot role.Opening (token.Plain x) ∷ ss) (sym h) })
left-before AtOpening (token.RowCount n) ss live h left = inr (first-before n ss left)
left-before AtOpening t ss live h left = absurd h
left-before (InPlain sit) (token.Plain s) ss live h left = subst (λ (x : PlainRole). IsLeft (InPlain sit) (slot (role.Plain x) (token.Plain s) ∷ ss)) h (plain-before sit s ss live h left)
left-before (InPlain (AtEntry d)) token.Constraints ss live h left = with-constraints d ss left
left-before (InPlain sit) token.Constraints ss live h left = absurd h
left-before (InPlain sit) t ss live h left = absurd h
left-before (AtConstraints d) (token.Plain (symbol.Count n)) ss live h (rest, left, whole) = (n, rest, left, ap (λ (x : List Slot). plain_slot (symbol.Count n) ∷ x) whole)
left-before (AtConstraints d) (token.Plain s) ss live h left = absurd cc
left-before (AtConstraints d) t ss live h left = absurd h
left-before (AtName d n) token.Symbolic ss live h left = name-before d n ss left
left-before (AtName d n) t ss live h left = absurd h
left-before (InLine d later side n point) t ss live h left = point-before d later side n point t ss live.1 h left
left-before (AtFurther d) (token.RowCount n) ss live h left = further-before d n ss live.0 left
left-before (AtFurther d) t ss live h left = absurd h
left-before (AtColumns fixed n) (token.ColumnCount c) ss live h left = with-columns fixed n c ss left
left-before (AtColumns fixed n) t ss live h left = absurd h
left-before (AtFigure fixed n c more) (token.Plain (symbol.Number z)) ss live h left = with-figure fixed n c more z ss left
left-before (AtFigure fixed n c more) (token.Plain s) ss live h left = absurd cc
left-before (AtFigure fixed n c more) t ss live h left = absurd h
left-before (AtType fixed n c) (token.Typed t) ss live h left = with-type fixed n c t ss h left
left-before (AtType fixed n c) t ss live h left = absurd h

-- ---- what can be finished stays so

live-rows : (d width n : ℕ) → 1 ≤ d → 1 ≤ width → IsLive (InPlain (at_rows d width n))
live-rows d width zero low some = low
live-rows d width (suc n) low some = (low, some)

live-keyword : (b : Bool) (d : ℕ) (k : Kind) → 1 ≤ d → is_matrix k ≡ b → IsLive (InPlain (behind_keyword b d k))
live-keyword true d k low e = (low, e)
live-keyword false d k low e = live-rows d (columns k d) 1 low (columns-some k d low)

live-word : (d : ℕ) (w : Word) → 1 ≤ d → IsLive (InPlain (input.behind_word d w))
live-word d (word.GoalWord g) low = low
live-word d (word.Keyword k) low = live-keyword (is_matrix k) d k low refl

live-number : (d width n more : ℕ) → 1 ≤ d → 1 ≤ width → IsLive (InPlain (input.behind_number d width n more))
live-number d width n zero low some = live-rows d width n low some
live-number d width n (suc more) low some = (low, some)

live-plain : (sit : input.Sit) (s : Symbol) → IsLive (InPlain sit) → role_of s ≡ input.wants sit → IsSpelled (token.Plain s) → IsLive (InPlain (input.next sit s))
live-plain AtFirst s live h spelled = tt
live-plain AtDimension (symbol.Dimension d) live h spelled = spelled.1.1
live-plain AtDimension s live h spelled = absurd cc
live-plain (AtEntry d) (symbol.Begin w) live h spelled = live-word d w live
live-plain (AtEntry d) s live h spelled = absurd cc
live-plain (AtCount d k) (symbol.Count n) live h spelled = live-rows d (columns k d) n live.0 (columns-some k d live.0)
live-plain (AtCount d k) s live h spelled = absurd cc
live-plain (AtNumber d width n more) (symbol.Number z) live h spelled = live-number d width n more live.0 live.1
live-plain (AtNumber d width n more) s live h spelled = absurd cc

live-lines : (d n : ℕ) → 1 ≤ d → IsLive (at_lines d n)
live-lines d zero low = low
live-lines d (suc n) low = (low, omega arith)

full-is : (n : ℕ) → n ≤ 400 → is_full n ≡ false → n + 1 ≤ 400
full-is n le e = grind (arith, nat_tests, le, e)

live-follow : (d later : ℕ) (side : Side) (n : ℕ) (t : Token) → 1 ≤ d → n ≤ 400 → MayFollow later side n t → IsLive (behind_point d later side n AfterTerm t)
live-follow d later Left n (token.Sign s) low le h = (low, full-is n le h)
live-follow d later (Right b) n (token.Sign s) low le h = (low, full-is n le h)
live-follow d later Left n (token.Relation r) low le h = (low, omega arith)
live-follow d later Left n token.Tilde low le h = (low, omega arith)
live-follow d later (Right false) n (token.Stop last) low le h = live-lines d later low
live-follow d later (Right true) n token.OpenModulus low le h = (low, le)
live-follow d later Left n t low le h = absurd h
live-follow d later (Right false) n t low le h = absurd h
live-follow d later (Right true) n t low le h = absurd h

live-point : (d later : ℕ) (side : Side) (n : ℕ) (point : Point) (t : Token) → 1 ≤ d → n ≤ 400 → MayStand d later side n point t → IsLive (behind_point d later side n point t)
live-point d later side n AtSum (token.Sign s) low le h = (low, omega arith)
live-point d later side n AtSum (token.Literal v) low le h = (low, omega arith)
live-point d later side n AtSum token.Variable low le h = (low, omega arith)
live-point d later side n AtSum t low le h = absurd h
live-point d later side n AtTerm (token.Literal v) low le h = (low, le)
live-point d later side n AtTerm token.Variable low le h = (low, le)
live-point d later side n AtTerm t low le h = absurd h
live-point d later side n AfterLiteral token.Star low le h = (low, le)
live-point d later side n AfterLiteral token.Variable low le h = (low, le)
live-point d later side n AfterLiteral t low le h = live-follow d later side n t low le h
live-point d later side n AfterStar t low le h = (low, le)
live-point d later side n AfterVariable t low le h = (low, le)
live-point d later side n AfterOpen t low le h = (low, le)
live-point d later side n AfterIndex t low le h = (low, le)
live-point d later side n AfterTerm t low le h = live-follow d later side n t low le h
live-point d later side n AfterParen t low le h = (low, le)
live-point d later side n AfterModulus t low le h = (low, le)
live-point d later side n AfterClose t low le h = live-lines d later low

live-figures : (fixed n c more : ℕ) → fixed ≤ 64 → IsColumnCount fixed c → IsLive (at_figures fixed n c more)
live-figures fixed n c zero le h = (le, h)
live-figures fixed n c (suc more) le h = (le, h)

pub live-next : (q : Sit) (t : Token) → IsLive q → MayToken q t → IsSpelled t → IsLive (next_token q t)
live-next AtOpening (token.RowCount n) live h spelled = omega arith
live-next AtOpening t live h spelled = tt
live-next (InPlain sit) (token.Plain s) live h spelled = live-plain sit s live h spelled
live-next (InPlain (AtEntry d)) token.Constraints live h spelled = live
live-next (InPlain sit) token.Constraints live h spelled = absurd h
live-next (InPlain sit) t live h spelled = absurd h
live-next (AtConstraints d) (token.Plain (symbol.Count n)) live h spelled = live
live-next (AtConstraints d) t live h spelled = tt
live-next (AtName d n) t live h spelled = live-lines d n live
live-next (InLine d later side n point) t live h spelled = live-point d later side n point t live.0 live.1 h
live-next (AtFurther d) (token.RowCount n) live h spelled = live.1
live-next (AtFurther d) t live h spelled = tt
live-next (AtColumns fixed n) (token.ColumnCount c) live h spelled = live-figures fixed n c (n * c) live h
live-next (AtColumns fixed n) t live h spelled = tt
live-next (AtFigure fixed n c more) t live h spelled = live-figures fixed n c more live.0 live.1
live-next (AtType fixed n c) (token.Typed t) live h spelled = let same : h.dimension ≡ dimension_by t c = sym (ap (dimension_by t) h.columns_are ∙ type-dimension t h.dimension h.low) in subst (λ (x : ℕ). (1 ≤ x) × (x ≤ 64)) same (h.low, h.high)
live-next (AtType fixed n c) t live h spelled = tt

-- ---- whole sequences

-- each token has a spelling
abbrev pub AreSpelled : List Slot → Type 0
AreSpelled ss = AllByRecursion (λ (s : Slot). IsSpelled s.token) ss

slot-is : (s : Slot) (r : Role) → s.role ≡ r → slot r s.token ≡ s
slot-is s r e = ap (λ (x : Role). slot x s.token) (sym e)

left-end : (q : Sit) → IsFinal q → IsLeft q []
left-end (InPlain (AtEntry d)) h = record { entries = []; fit = tt; whole = refl }
left-end (AtFurther d) h = record { matrices = []; fit = tt; whole = refl }
left-end (InPlain sit) h = absurd h
left-end q h = absurd h

-- What leads to where a file may end is what is left of a file.
pub steps-left : (ss : List Slot) (q end : Sit) → IsLive q → AreSpelled ss → Steps q ss end → IsFinal end → IsLeft q ss
steps-left [] q end live spelled steps final = left-end q (subst IsFinal (sym steps) final)
steps-left (s ∷ ss) q end live spelled steps final =
    let below = steps-left ss (next q s) end (live-next q s.token live steps.0.1 spelled.0) spelled.1 steps.1 final in
    subst (λ (x : Slot). IsLeft q (x ∷ ss)) (slot-is s (wants q) steps.0.0) (left-before q s.token ss live steps.0.1 below)

pub live-steps : (ss : List Slot) (q end : Sit) → IsLive q → AreSpelled ss → Steps q ss end → IsLive end
live-steps [] q end live spelled steps = subst IsLive steps live
live-steps (s ∷ ss) q end live spelled steps = live-steps ss (next q s) end (live-next q s.token live steps.0.1 spelled.0) spelled.1 steps.1
