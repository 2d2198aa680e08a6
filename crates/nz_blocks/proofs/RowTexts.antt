-- Rows at the front of a text: where a text begins with rows, it begins with no other ones.
use Rattle.std.proofs.Common.{◌≡◌, ℕ, suc, ◌-◌, ◌^◌, ◌<◌, ℤ, List, [], ◌∷◌, ◌++◌, length, map, replicate, refl, sym, ap, ap₂, subst, ◌∙◌, append_assoc, arith, FitsSigned, Some, None, Option, inr}
use Rattle.std.specs.Int.{w128}
use Rattle.std.specs.List.{AllByRecursion as Each, flat_map}
use Rattle.std.specs.Fmt.{decimal, signed_decimal}
use Rattle.std.proofs.lemmas.List.{append_cancel_left}
use Rattle.nz_vec.specs.Texts.{Text}
use Rattle.nz_spec.specs.Vectors.{Vector}
use Rattle.nz_blocks.specs.Beginnings.{First, IsDigit, LeadsNumber, IsHeading, BeginsBlock}
use Rattle.nz_blocks.specs.Held.{IsHeldRow, IsHeldList, AreHeldRows}
use Rattle.nz_blocks.specs.Columns.{column_width, right_aligned, cells, spaced, entries}
use Rattle.nz_blocks.specs.Output.{row_text, heading_lines, block, block_if_some}
use Rattle.nz_blocks.proofs.NumberTexts.{padded_one, number_leads, no_digit, shut, decimal_one, runs_one, numeral}

-- the cells behind the first, each with a space in front
abbrev pub tail_of : (ℕ → ℕ) → ℕ → Vector → Text
tail_of f j r = flat_map (λ (d : Text). 32 ∷ d) (cells f j r)

pub newline_shut : (s : Text) → ¬ LeadsNumber (10 ∷ s)
newline_shut s = shut 10 s (λ d. absurd (omega (arith, d.0))) (λ e. absurd (omega (arith, e))) (λ e. absurd (omega (arith, e)))

-- no digit stands behind a cell
pub tail_bare : (f : ℕ → ℕ) (j : ℕ) (r : Vector) (s : Text) → ¬ LeadsNumber s → ¬ First IsDigit (tail_of f j r ++ s)
tail_bare f j [] s h = no_digit s h
tail_bare f j (a ∷ r) s h = λ (d : IsDigit 32). absurd (omega (arith, d.0))

-- a cell, and what stands behind it
pub cell_split : (f : ℕ → ℕ) (j : ℕ) (a : ℤ) (r : Vector) (s : Text) → (right_aligned (f j) (signed_decimal a) ++ tail_of f (suc j) r) ++ s ≡ replicate (f j - length (signed_decimal a)) 32 ++ (signed_decimal a ++ (tail_of f (suc j) r ++ s))
cell_split f j a r s = simp append_assoc

cell_leads : (f : ℕ → ℕ) (j : ℕ) (a : ℤ) (r : Vector) (s : Text) → FitsSigned w128 a → LeadsNumber ((right_aligned (f j) (signed_decimal a) ++ tail_of f (suc j) r) ++ s)
cell_leads f j a r s h = subst LeadsNumber (sym (cell_split f j a r s)) (number_leads (f j - length (signed_decimal a)) a (tail_of f (suc j) r ++ s) h)

pub tail_leads : (f : ℕ → ℕ) (j : ℕ) (a : ℤ) (r : Vector) (s : Text) → FitsSigned w128 a → LeadsNumber (tail_of f j (a ∷ r) ++ s)
tail_leads f j a r s h = inr (inr (refl, cell_leads f j a r s h))

-- a text of one cell and a rest, in two ways
cell_one : (f g : ℕ → ℕ) (i j : ℕ) (a b : ℤ) (r q : Vector) (s t : Text) → FitsSigned w128 a → FitsSigned w128 b → ¬ LeadsNumber s → ¬ LeadsNumber t →
    (right_aligned (f i) (signed_decimal a) ++ tail_of f (suc i) r) ++ s ≡ (right_aligned (g j) (signed_decimal b) ++ tail_of g (suc j) q) ++ t → (a ≡ b) × (tail_of f (suc i) r ++ s ≡ tail_of g (suc j) q ++ t)
cell_one f g i j a b r q s t p h u v e =
    padded_one (f i - length (signed_decimal a)) (g j - length (signed_decimal b)) a b (tail_of f (suc i) r ++ s) (tail_of g (suc j) q ++ t) p h (tail_bare f (suc i) r s u) (tail_bare g (suc j) q t v)
    (sym (cell_split f i a r s) ∙ e ∙ cell_split g j b q t)

tail_one : (f g : ℕ → ℕ) (i j : ℕ) (r q : Vector) (s t : Text) → IsHeldRow r → IsHeldRow q → ¬ LeadsNumber s → ¬ LeadsNumber t → tail_of f i r ++ s ≡ tail_of g j q ++ t → (r ≡ q) × (s ≡ t)
tail_one f g i j [] [] s t p h u v e = (refl, e)
tail_one f g i j [] (b ∷ q) s t p h u v e = absurd (u (subst LeadsNumber (sym e) (tail_leads g j b q t h.0)))
tail_one f g i j (a ∷ r) [] s t p h u v e = absurd (v (subst LeadsNumber e (tail_leads f i a r s p.0)))
tail_one f g i j (a ∷ r) (b ∷ q) s t p h u v e =
    let others : (right_aligned (f i) (signed_decimal a) ++ tail_of f (suc i) r) ++ s ≡ (right_aligned (g j) (signed_decimal b) ++ tail_of g (suc j) q) ++ t = cc in
    let c = cell_one f g i j a b r q s t p.0 h.0 u v others in
    let more = tail_one f g (suc i) (suc j) r q s t p.1 h.1 u v c.1 in
    (ap₂ (λ (x : ℤ) (y : Vector). x ∷ y) c.0 more.0, more.1)

-- entries in columns of any widths, and what no number begins
pub cells_one : (f g : ℕ → ℕ) (r q : Vector) (s t : Text) → IsHeldRow r → IsHeldRow q → ¬ LeadsNumber s → ¬ LeadsNumber t → spaced (cells f 0 r) ++ s ≡ spaced (cells g 0 q) ++ t → (r ≡ q) × (s ≡ t)
cells_one f g [] [] s t p h u v e = (refl, e)
cells_one f g [] (b ∷ q) s t p h u v e = absurd (u (subst LeadsNumber (sym e) (cell_leads g 0 b q t h.0)))
cells_one f g (a ∷ r) [] s t p h u v e = absurd (v (subst LeadsNumber e (cell_leads f 0 a r s p.0)))
cells_one f g (a ∷ r) (b ∷ q) s t p h u v e =
    let c = cell_one f g 0 0 a b r q s t p.0 h.0 u v e in
    let more = tail_one f g 1 1 r q s t p.1 h.1 u v c.1 in
    (ap₂ (λ (x : ℤ) (y : Vector). x ∷ y) c.0 more.0, more.1)

-- a row of no widths
no_widths : (j : ℕ) (r : Vector) → cells (λ i. 0) j r ≡ map signed_decimal r
no_widths j [] = refl
no_widths j (a ∷ r) =
    let none : 0 - length (signed_decimal a) ≡ 0 = omega arith in
    ap₂ (λ (n : ℕ) (cs : List Text). (replicate n 32 ++ signed_decimal a) ∷ cs) none (no_widths (suc j) r)

pub entries_cells : (r : Vector) → entries r ≡ spaced (cells (λ i. 0) 0 r)
entries_cells r = ap spaced (sym (no_widths 0 r))

pub entries_one : (r q : Vector) (s t : Text) → IsHeldRow r → IsHeldRow q → ¬ LeadsNumber s → ¬ LeadsNumber t → entries r ++ s ≡ entries q ++ t → (r ≡ q) × (s ≡ t)
entries_one r q s t p h u v e =
    cells_one (λ i. 0) (λ i. 0) r q s t p h u v (ap (λ (x : Text). x ++ s) (sym (entries_cells r)) ∙ e ∙ ap (λ (x : Text). x ++ t) (entries_cells q))

row_one : (rows others : List Vector) (r q : Vector) (s t : Text) → IsHeldRow r → IsHeldRow q → row_text rows r ++ s ≡ row_text others q ++ t → (r ≡ q) × (s ≡ t)
row_one rows others r q s t p h e =
    let left : row_text rows r ++ s ≡ spaced (cells (column_width rows) 0 r) ++ 10 ∷ s = append_assoc (spaced (cells (column_width rows) 0 r)) (10 ∷ []) s in
    let right : row_text others q ++ t ≡ spaced (cells (column_width others) 0 q) ++ 10 ∷ t = append_assoc (spaced (cells (column_width others) 0 q)) (10 ∷ []) t in
    let c = cells_one (column_width rows) (column_width others) r q (10 ∷ s) (10 ∷ t) p h (newline_shut s) (newline_shut t) (sym left ∙ e ∙ right) in
    let rest : s ≡ t = cc (c.1) in
    (c.0, rest)

-- as many rows in columns
rows_one : (rows others : List Vector) (xs ys : List Vector) (s t : Text) → Each IsHeldRow xs → Each IsHeldRow ys → length xs ≡ length ys → flat_map (row_text rows) xs ++ s ≡ flat_map (row_text others) ys ++ t → (xs ≡ ys) × (s ≡ t)
rows_one rows others [] [] s t p h l e = (refl, e)
rows_one rows others [] (y ∷ ys) s t p h l e = absurd (omega (arith, l))
rows_one rows others (x ∷ xs) [] s t p h l e = absurd (omega (arith, l))
rows_one rows others (x ∷ xs) (y ∷ ys) s t p h l e =
    let left = append_assoc (row_text rows x) (flat_map (row_text rows) xs) s in
    let right = append_assoc (row_text others y) (flat_map (row_text others) ys) t in
    let c = row_one rows others x y (flat_map (row_text rows) xs ++ s) (flat_map (row_text others) ys ++ t) p.0 h.0 (sym left ∙ e ∙ right) in
    let more = rows_one rows others xs ys s t p.1 h.1 (omega (arith, l)) c.1 in
    (ap₂ (λ (a : Vector) (b : List Vector). a ∷ b) c.0 more.0, more.1)

-- an empty line and a heading, with what stands behind
pub heading_split : (n : ℕ) (heading s : Text) → heading_lines n heading ++ s ≡ 10 ∷ (decimal n ++ (heading ++ 10 ∷ s))
heading_split n heading s = ap (λ (x : Text). 10 ∷ x) (simp append_assoc)

pub heading_bare : (heading s : Text) → IsHeading heading → ¬ First IsDigit (heading ++ s)
heading_bare [] s h d = h
heading_bare (b ∷ heading) s h d = absurd (omega (arith, d.0, h))

pub heading_one : (m n : ℕ) (heading other s t : Text) → m < 2 ^ 64 → n < 2 ^ 64 → IsHeading heading → IsHeading other → heading_lines m heading ++ s ≡ heading_lines n other ++ t → (m ≡ n) × (heading ++ 10 ∷ s ≡ other ++ 10 ∷ t)
heading_one m n heading other s t p q h k e =
    let both : 10 ∷ (decimal m ++ (heading ++ 10 ∷ s)) ≡ 10 ∷ (decimal n ++ (other ++ 10 ∷ t)) = sym (heading_split m heading s) ∙ e ∙ heading_split n other t in
    let rest : decimal m ++ (heading ++ 10 ∷ s) ≡ decimal n ++ (other ++ 10 ∷ t) = cc (both) in
    decimal_one m n (heading ++ 10 ∷ s) (other ++ 10 ∷ t) (omega (arith, p)) (omega (arith, q)) (heading_bare heading (10 ∷ s) h) (heading_bare other (10 ∷ t) k) rest

pub block_one : (heading : Text) (xs ys : List Vector) (s t : Text) → IsHeading heading → IsHeldList IsHeldRow xs → IsHeldList IsHeldRow ys → block heading xs ++ s ≡ block heading ys ++ t → (xs ≡ ys) × (s ≡ t)
block_one heading xs ys s t h p q e =
    let left = append_assoc (heading_lines (length xs) heading) (flat_map (row_text xs) xs) s in
    let right = append_assoc (heading_lines (length ys) heading) (flat_map (row_text ys) ys) t in
    let c = heading_one (length xs) (length ys) heading heading (flat_map (row_text xs) xs ++ s) (flat_map (row_text ys) ys ++ t) p.count q.count h h (sym left ∙ e ∙ right) in
    let cut : 10 ∷ (flat_map (row_text xs) xs ++ s) ≡ 10 ∷ (flat_map (row_text ys) ys ++ t) = append_cancel_left heading (10 ∷ (flat_map (row_text xs) xs ++ s)) (10 ∷ (flat_map (row_text ys) ys ++ t)) c.1 in
    let rest : flat_map (row_text xs) xs ++ s ≡ flat_map (row_text ys) ys ++ t = cc (cut) in
    rows_one xs ys xs ys s t p.each q.each c.0 rest

pub block_begins : (heading : Text) (xs : List Vector) (s : Text) → length xs < 2 ^ 64 → BeginsBlock heading (block heading xs ++ s)
block_begins heading xs s l = record {
  digits = decimal (length xs);
  rest = flat_map (row_text xs) xs ++ s;
  are = (numeral (length xs) (omega (arith, l))).digits;
  is = append_assoc (heading_lines (length xs) heading) (flat_map (row_text xs) xs) s ∙ heading_split (length xs) heading (flat_map (row_text xs) xs ++ s);
}

-- a text begins with one heading, up to its end of line
pub begins_one : (h k s : Text) → IsHeading h → IsHeading k → (b : BeginsBlock h s) (c : BeginsBlock k s) → h ++ 10 ∷ b.rest ≡ k ++ 10 ∷ c.rest
begins_one h k s p q b c =
    let both : 10 ∷ (b.digits ++ (h ++ 10 ∷ b.rest)) ≡ 10 ∷ (c.digits ++ (k ++ 10 ∷ c.rest)) = sym b.is ∙ c.is in
    let rest : b.digits ++ (h ++ 10 ∷ b.rest) ≡ c.digits ++ (k ++ 10 ∷ c.rest) = cc (both) in
    (runs_one b.digits c.digits (h ++ 10 ∷ b.rest) (k ++ 10 ∷ c.rest) b.are c.are (heading_bare h (10 ∷ b.rest) p) (heading_bare k (10 ∷ c.rest) q) rest).1

pub block_if_some_one : (heading : Text) (xs ys : Option (List Vector)) (s t : Text) → IsHeading heading → AreHeldRows xs → AreHeldRows ys → ¬ BeginsBlock heading s → ¬ BeginsBlock heading t → block_if_some heading xs ++ s ≡ block_if_some heading ys ++ t → (xs ≡ ys) × (s ≡ t)
block_if_some_one heading None None s t h p q u v e = (refl, e)
block_if_some_one heading None (Some ys) s t h p q u v e = absurd (u (subst (BeginsBlock heading) (sym e) (block_begins heading ys t q.count)))
block_if_some_one heading (Some xs) None s t h p q u v e = absurd (v (subst (BeginsBlock heading) e (block_begins heading xs s p.count)))
block_if_some_one heading (Some xs) (Some ys) s t h p q u v e = (let c = block_one heading xs ys s t h p q e in (ap (λ (x : List Vector). Some x) c.0, c.1))
