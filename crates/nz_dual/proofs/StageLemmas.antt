-- A stage with one row more.
use Rattle.std.proofs.Common.{◌≡◌, ◌≢◌, ⊎_elim, inl, ℕ, ◌≤◌, List, [], ◌∷◌, ◌++◌, length, ℤ, pos, ◌<ℤ◌, Contains, refl, sym, ap, ◌∙◌, subst}
use Rattle.std.specs.Prelude.{Result, Ok, Err, IfOk, None}
use Rattle.std.specs.List.{AllByRecursion as Each}
use Rattle.nz_spec.specs.Vectors.{Vector, opposite, HasWidth}
use Rattle.std.specs.List.Sorted.{IsPermutation}
use Rattle.nz_spec.specs.Order.{IsLexBefore, IsListOf, ListsOnce}
use Rattle.nz_degree.specs.Degrees.{IsInOrder}
use Rattle.nz_degree.proofs.ElementLaws.{sorted_is_list}
use Rattle.nz_spec.proofs.ListLaws.{Each-contains, Each-weaker}
use Rattle.nz_order.proofs.SortLaws.{IsListOf-where, Each-append, Each-front}
use Rattle.nz_vec.specs.declared.answers.Num.{Num}
use Rattle.nz_vec.specs.declared.answers.Num.TheVariants as num
use Rattle.nz_vec.specs.declared.answers.Work.{Work}
use Rattle.nz_vec.specs.declared.answers.Work.TheVariants.{Range, TooMany, Stopped, NoMemory}
use Rattle.nz_range.specs.Measures.{measure}
use Rattle.nz_dual.specs.DualStages.{IsElement, IsReversedElement, IsStageList, IsNamed, IsInsertRefusal, AreLists}
use Rattle.nz_dual.specs.Sides.{SideLists, IsSideElement, IsWorkOf, Keeps, Handles, HasGrown}
use Rattle.nz_dual.specs.Closures.{IsPart, IsComplete, IsOfferedRefusal}
use Rattle.nz_dual.proofs.SideLemmas.{old_element, opposite_length, reversed_of_side, side_of_reversed}
use Rattle.nz_dual.proofs.ClosureLemmas.{insert_up, insert_down, old_named}

pub if_ok_map : {A E : Type 0} (P Q : A → Type 0) (r : Result A E) → ((x : A) → P x → Q x) → IfOk r P → IfOk r Q
if_ok_map P Q (Ok x) f h = f x h
if_ok_map P Q (Err e) f h = h

module _ (limit : ℕ) (rows : List Vector) (row : Vector) (list : List Vector) (stage : IsStageList (length row) rows list) (up down : SideLists) (at_up : up.last ≡ row) (at_down : down.last ≡ opposite row) where
  pub wide_rows : Each (HasWidth (length up.last)) rows
  wide_rows = subst (λ (f : Vector). Each (HasWidth (length f)) rows) (sym at_up) stage.rows_wide

  pub wide_down : length down.last ≡ length up.last
  wide_down = ap length at_down ∙ opposite_length row ∙ sym (ap length at_up)

  pub wide_list : Each (HasWidth (length up.last)) list
  wide_list = subst (λ (f : Vector). Each (HasWidth (length f)) list) (sym at_up) (Each-weaker (IsElement (length row) rows) (HasWidth (length row)) (λ v i. i.member.in_lattice) list stage.lists.only)

  pub keep_up : Each (Keeps rows up.last up.elements) list
  keep_up = Each-weaker (IsElement (length row) rows) (Keeps rows up.last up.elements) (λ v i. λ high none. old_element rows up.last v (subst (λ (f : Vector). IsElement (length f) rows v) (sym at_up) i) high) list stage.lists.only

  pub keep_down : Each (Keeps rows down.last down.elements) list
  keep_down = Each-weaker (IsElement (length row) rows) (Keeps rows down.last down.elements) (λ v i. λ high none. old_element rows down.last v (subst (λ (n : ℕ). IsElement n rows v) (sym (ap length at_down ∙ opposite_length row)) i) high) list stage.lists.only

  -- once the irreducibles so far are offered
  pub part_of : (up' down' : SideLists) → HasGrown limit rows up up' → HasGrown limit rows down down' → Each (Handles rows up.last up'.elements) list → Each (Handles rows down.last down'.elements) list → IsPart limit rows up' down'
  part_of up' down' f g hu hd = record {
    list = list;
    stage = subst (λ (v : Vector). IsStageList (length v) rows list) (sym (f.last ∙ at_up)) stage;
    turned = g.last ∙ at_down ∙ ap opposite (sym (f.last ∙ at_up));
    up_side = f.side;
    down_side = g.side;
    up_old = subst (λ (v : Vector). Each (Handles rows v up'.elements) list) (sym f.last) hu;
    down_old = subst (λ (v : Vector). Each (Handles rows v down'.elements) list) (sym g.last) hd;
  }

  pub offer_refused : (h : ℤ) (work : Work) → IsOfferedRefusal h limit rows up.last down.last (Contains list) work → IsInsertRefusal h limit (length row) rows row work
  offer_refused h work r =
      let named : (v : Vector) → Contains list v → IsNamed (length row) rows row v = λ v c. old_named rows row v (Each-contains (IsElement (length row) rows) list v stage.lists.only c) in
      let both : IsOfferedRefusal h limit rows row (opposite row) (Contains list) work = subst (λ (f : Vector). IsOfferedRefusal h limit rows f (opposite row) (Contains list) work) at_up (subst (λ (f : Vector). IsOfferedRefusal h limit rows up.last f (Contains list) work) at_down r) in
      ⊎_elim (λ u. insert_up h limit rows row (Contains list) work named u) (λ d. insert_down h limit rows row (Contains list) work named d) both

pub lists_of : (limit : ℕ) (rows : List Vector) (row : Vector) (up down : SideLists) (ups downs : List Vector) → up.last ≡ row → down.last ≡ opposite row → IsComplete limit rows up → IsComplete limit rows down → ups ≡ up.elements → downs ≡ down.elements → AreLists limit (length row) rows row ups downs
lists_of limit rows row up down ups downs eu ed cu cd a b =
    let u : ListsOnce (IsElement (length row) (rows ++ row ∷ [])) up.elements = subst (λ (f : Vector). ListsOnce (IsSideElement rows f) up.elements) eu cu.lists in
    let d : ListsOnce (IsSideElement rows (opposite row)) down.elements = subst (λ (f : Vector). ListsOnce (IsSideElement rows f) down.elements) ed cd.lists in
    let r : ListsOnce (IsReversedElement (length row) rows row) down.elements = IsListOf-where ◌≢◌ (IsSideElement rows (opposite row)) (IsReversedElement (length row) rows row) (reversed_of_side rows row) (side_of_reversed rows row) down.elements d in
    record {
      new_list = subst (ListsOnce (IsElement (length row) (rows ++ row ∷ []))) (sym a) u;
      reversed_list = subst (ListsOnce (IsReversedElement (length row) rows row)) (sym b) r;
      within = (subst (λ (xs : List Vector). length xs ≤ limit) (sym a) cu.within, subst (λ (xs : List Vector). length xs ≤ limit) (sym b) cd.within);
    }

pub lower_refused : (h : ℤ) (limit : ℕ) (rows : List Vector) (row : Vector) (refusal : Num) (work : Work) → (refusal ≡ num.Range → h <ℤ pos (measure row)) → IsWorkOf refusal work → IsInsertRefusal h limit (length row) rows row work
lower_refused h limit rows row refusal (Range told) f w = (w.1, inl (record { vector = row; named = inl refl; large = f w.0 }))
lower_refused h limit rows row refusal TooMany f w = absurd w
lower_refused h limit rows row refusal (Stopped stage) f w = w
lower_refused h limit rows row refusal NoMemory f w = tt

pub no_memory_refused : (h : ℤ) (limit w : ℕ) (rows : List Vector) (row : Vector) (work : Work) → work ≡ NoMemory → IsInsertRefusal h limit w rows row work
no_memory_refused h limit w rows row work e = subst (IsInsertRefusal h limit w rows row) (sym e) tt

-- the stage after the row
pub stage_next : (limit w : ℕ) (rows list : List Vector) (row : Vector) (new_rows ups downs : List Vector) → length row ≡ w → IsStageList w rows list → AreLists limit (length row) rows row ups downs → new_rows ≡ rows ++ row ∷ [] → IsStageList w new_rows ups
stage_next limit w rows list row new_rows ups downs e s l n = subst (λ (rs : List Vector). IsStageList w rs ups) (sym n) (record {
  rows_wide = Each-append (HasWidth w) rows (row ∷ []) s.rows_wide (e, tt);
  positive = λ v k. s.positive v (record {
    nonzero = k.nonzero;
    forward = record { in_lattice = k.forward.in_lattice; at_least = Each-front _ rows (row ∷ []) k.forward.at_least };
    backward = record { in_lattice = k.backward.in_lattice; at_least = Each-front _ rows (row ∷ []) k.backward.at_least };
  });
  lists = subst (λ (k : ℕ). ListsOnce (IsElement k (rows ++ row ∷ [])) ups) e l.new_list;
})

-- what is said of the rows inside is said of the stage as it is seen
pub seen : (P : ℕ → List Vector → Type 0) (n w : ℕ) (rows inside : List Vector) → n ≡ w → inside ≡ rows → P n inside → P w rows
seen P n w rows inside e f p = subst (λ (k : ℕ). P k rows) e (subst (P n) f p)

-- the list in order
pub sorted_stage : (w : ℕ) (rows list sorted : List Vector) → IsStageList w rows list → IsPermutation list sorted → IsInOrder None sorted → IsListOf IsLexBefore (IsElement w rows) sorted
sorted_stage w rows list sorted s moved order =
    let wide = Each-weaker (IsElement w rows) (HasWidth w) (λ v i. i.member.in_lattice) list s.lists.only in
    let q = sorted_is_list w None list sorted wide s.lists.in_order moved order in
    record {
      in_order = q.in_order;
      only = Each-weaker (Contains list) (IsElement w rows) (λ v c. Each-contains (IsElement w rows) list v s.lists.only c) sorted q.only;
      each = λ x i. q.each x (s.lists.each x i);
    }
