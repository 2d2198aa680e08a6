-- Files in a list, by name: what a change of one, and one more, leave.
use Rattle.std.proofs.Common.{◌≡◌, ℕ, zero, suc, ◌+◌, ◌<◌, ◌⊎◌, inl, inr, List, [], ◌∷◌, ◌++◌, length, get_or, set, refl, sym, ap, ◌∙◌, Some, None, Bool, true, false, cond, arith, subst}
use Rattle.std.specs.Str.{bytes_eq}
use Rattle.std.specs.Prelude.{string_bytes}
use Rattle.std.proofs.lemmas.Slice.Eq.{bytes_eq-Decides}
use Rattle.nz_vec.specs.Texts.{Text}
use Rattle.nz_edge.specs.Folders.{Stores}
use Rattle.nz_edge.specs.Places.{Named, find_file, place_from}

-- the first file of this name stands at k
abbrev pub IsAt : List Named → Text → ℕ → Type 0
IsAt [] name k = ⊥
IsAt (f ∷ fs) name zero = bytes_eq (string_bytes f.0) name ≡ true
IsAt (f ∷ fs) name (suc k) = (bytes_eq (string_bytes f.0) name ≡ false) × IsAt fs name k

which : (b : Bool) → (b ≡ true) ⊎ (b ≡ false)
which true = inl refl
which false = inr refl

some_eq : {A : Type 0} {a b : A} → Some a ≡ Some b → a ≡ b
some_eq e = cc

pub place_at : (n : ℕ) (fs : List Named) (name : Text) (i : ℕ) → place_from n fs name ≡ Some i → (k : ℕ) × (i ≡ n + k) × IsAt fs name k
place_at n [] name i e = absurd cc
place_at n (f ∷ fs) name i e = elim (which (bytes_eq (string_bytes f.0) name)) [
  | inl is ↦ (0, (let h = rw is at e in let g : n ≡ i = some_eq h in omega arith), is)
  | inr isnt ↦ (let h = rw isnt at e in let r = place_at (suc n) fs name i h in (suc r.0, (let g = r.1 in omega arith), (isnt, r.2)))
]

pub place_none : (n : ℕ) (fs : List Named) (name : Text) → place_from n fs name ≡ None → find_file fs name ≡ None
place_none n [] name e = refl
place_none n (f ∷ fs) name e = elim (which (bytes_eq (string_bytes f.0) name)) [
  | inl is ↦ (let h = rw is at e in absurd cc)
  | inr isnt ↦ (let h = rw isnt at e in rw isnt (place_none (suc n) fs name h))
]

pub IsAt-length : (fs : List Named) (name : Text) (k : ℕ) → IsAt fs name k → k < length fs
IsAt-length [] name k h = absurd h
IsAt-length (f ∷ fs) name zero h = omega arith
IsAt-length (f ∷ fs) name (suc k) h = (let r = IsAt-length fs name k h.1 in omega arith)

pub IsAt-find : (fs : List Named) (name : Text) (k : ℕ) (d : Named) → IsAt fs name k → find_file fs name ≡ Some (get_or fs k d).1
IsAt-find [] name k d h = absurd h
IsAt-find (f ∷ fs) name zero d h = rw h refl
IsAt-find (f ∷ fs) name (suc k) d h = rw h.0 (IsAt-find fs name k d h.1)

-- the names of the file at k and of the new one are one
pub stores_set : (fs : List Named) (name : Text) (k : ℕ) (d new : Named) → IsAt fs name k → string_bytes new.0 ≡ string_bytes (get_or fs k d).0 → Stores name new.1 (find_file fs) (find_file (set fs k new))
stores_set [] name k d new h e = absurd h
stores_set (f ∷ fs) name zero d new h e = record {
  stored = rw (e, h) refl;
  others = λ other ne. elim (which (bytes_eq (string_bytes f.0) other)) [
    | inl is ↦ absurd (ne (sym ((bytes_eq-Decides (string_bytes f.0) other).0 is) ∙ (bytes_eq-Decides (string_bytes f.0) name).0 h))
    | inr isnt ↦ rw (e, isnt) refl
  ];
}
stores_set (f ∷ fs) name (suc k) d new h e =
    let r = stores_set fs name k d new h.1 e in
    record {
      stored = rw h.0 r.stored;
      others = λ other ne. ap (cond (bytes_eq (string_bytes f.0) other) (Some f.1)) (r.others other ne);
    }

find_append : (fs : List Named) (new : Named) (name : Text) → find_file fs name ≡ None → find_file (fs ++ new ∷ []) name ≡ find_file (new ∷ []) name
find_append [] new name e = refl
find_append (f ∷ fs) new name e = elim (which (bytes_eq (string_bytes f.0) name)) [
  | inl is ↦ (let h = rw is at e in absurd cc)
  | inr isnt ↦ (let h = rw isnt at e in rw isnt (find_append fs new name h))
]

find_others : (fs : List Named) (new : Named) (other : Text) → bytes_eq (string_bytes new.0) other ≡ false → find_file (fs ++ new ∷ []) other ≡ find_file fs other
find_others [] new other e = rw e refl
find_others (f ∷ fs) new other e = ap (cond (bytes_eq (string_bytes f.0) other) (Some f.1)) (find_others fs new other e)

pub stores_push : (fs : List Named) (name : Text) (new : Named) → find_file fs name ≡ None → string_bytes new.0 ≡ name → Stores name new.1 (find_file fs) (find_file (fs ++ new ∷ []))
stores_push fs name new none e = record {
  stored = find_append fs new name none ∙ rw ((bytes_eq-Decides (string_bytes new.0) name).1 e) refl;
  others = λ other ne. elim (which (bytes_eq (string_bytes new.0) other)) [
    | inl is ↦ absurd (ne (sym ((bytes_eq-Decides (string_bytes new.0) other).0 is) ∙ e))
    | inr isnt ↦ find_others fs new other isnt
  ];
}

pub place_found : (fs : List Named) (name : Text) (i : ℕ) → Some i ≡ place_from 0 fs name → IsAt fs name i
place_found fs name i e =
    let r = place_at 0 fs name i (sym e) in
    let same : r.0 ≡ i = omega (arith, r.1) in
    subst (λ (k : ℕ). IsAt fs name k) same r.2

pub place_missing : (fs : List Named) (name : Text) → None ≡ place_from 0 fs name → find_file fs name ≡ None
place_missing fs name e = place_none 0 fs name (sym e)
