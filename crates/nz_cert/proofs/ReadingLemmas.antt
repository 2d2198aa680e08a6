-- Reading one after the other, and lists item by item.
use Rattle.std.proofs.Common.{◌≢◌, true, false, ◌≡◌, ℕ, suc, ◌+◌, ◌<◌, ◌≤◌, List, [], ◌∷◌, ◌++◌, length, map, refl, sym, ap, ◌∙◌, subst, append_assoc, append-nil, length-append, arith, Option, Some, None, Result, Ok, Err}
use Rattle.std.specs.List.{AllByRecursion as Each}
use Rattle.nz_spec.specs.Vectors.{Vector}
use Rattle.nz_further.specs.CertificateTexts.{Bytes, Word, Name, Entry, entries}
use Rattle.nz_cert.specs.declared.refusal.CertTextRefusal.{CertTextRefusal}
use Rattle.nz_cert.specs.declared.refusal.CertTextRefusal.TheVariants.{Bad, NoMemory}
use Rattle.nz_cert.specs.Words.{IsRead}
use Rattle.nz_cert.specs.Readings.{IsOption, IsReading}
use Rattle.nz_cert.specs.Fields.{AreTaken}

pub read_join : (ws us : List Word) (a b c : List Bytes) → IsRead ws a b → IsRead us b c → IsRead (ws ++ us) a c
read_join [] us a b c h k = subst (λ (t : List Bytes). IsRead us t c) (sym h) k
read_join (w ∷ ws) us [] b c h k = absurd h
read_join (w ∷ ws) us (t ∷ a) b c h k = (h.0, read_join ws us a b c h.1 k)

pub record IsReadBetween (ws us : List Word) (a c : List Bytes) : Type 0 where
  pub mid : List Bytes
  pub first : IsRead ws a mid
  pub second : IsRead us mid c

pub read_split : (ws us : List Word) (a c : List Bytes) → IsRead (ws ++ us) a c → IsReadBetween ws us a c
read_split [] us a c h = record { mid = a; first = refl; second = h }
read_split (w ∷ ws) us [] c h = absurd h
read_split (w ∷ ws) us (t ∷ a) c h = let s = read_split ws us a c h.1 in record { mid = s.mid; first = (h.0, s.first); second = s.second }

-- ---- lists, item by item

-- the words of the items, by their numbers from `first` on
abbrev pub laid_from : {X : Type 0} → (ℕ → X → List Word) → ℕ → List X → List Word
laid_from spelling first [] = []
laid_from spelling first (x ∷ xs) = spelling first x ++ laid_from spelling (suc first) xs

-- items of a list have been read, these are still to come, from this number on
pub record IsRest {X : Type 0} (P : X → Type 0) (spelling : ℕ → X → List Word) (number : ℕ) (now rest : List Bytes) (items xs : List X) : Type 0 where
  pub others : List X
  pub held : Each P others
  pub split : xs ≡ items ++ others
  pub is : IsRead (laid_from spelling number others) now rest

-- these items have been read, and each list that stands there begins with them
pub record AreParts {X : Type 0} (P : X → Type 0) (spelling : ℕ → X → List Word) (first : ℕ) (before now : List Bytes) (items : List X) : Type 0 where
  pub held : Each P items
  pub read : IsRead (laid_from spelling first items) before now
  pub whole : (xs : List X) (rest : List Bytes) → Each P xs → length items ≤ length xs → IsRead (laid_from spelling first xs) before rest → IsRest P spelling (first + length items) now rest items xs

pub parts_start : {X : Type 0} (P : X → Type 0) (spelling : ℕ → X → List Word) (first : ℕ) (before : List Bytes) → AreParts P spelling first before before []
parts_start P spelling first before = record {
  held = tt;
  read = refl;
  whole = λ xs rest h l r. record { others = xs; held = h; split = refl; is = subst (λ (n : ℕ). IsRead (laid_from spelling n xs) before rest) (omega arith) r };
}

each_one_more : {X : Type 0} (P : X → Type 0) (xs : List X) (x : X) → Each P xs → P x → Each P (xs ++ x ∷ [])
each_one_more P [] x h k = (k, tt)
each_one_more P (y ∷ xs) x h k = (h.0, each_one_more P xs x h.1 k)

laid_one_more : {X : Type 0} (f : ℕ → X → List Word) (first : ℕ) (xs : List X) (x : X) → laid_from f first (xs ++ x ∷ []) ≡ laid_from f first xs ++ f (first + length xs) x
laid_one_more f first [] x = append-nil (f first x) ∙ ap (λ (n : ℕ). f n x) (omega arith)
laid_one_more f first (y ∷ xs) x =
    ap (λ (t : List Word). f first y ++ t) (laid_one_more f (suc first) xs x ∙ ap (λ (n : ℕ). laid_from f (suc first) xs ++ f n x) (omega arith))
    ∙ sym (append_assoc (f first y) (laid_from f (suc first) xs) (f (first + length (y ∷ xs)) x))

-- the one that was read is the only one that stands there
pub record IsOnly {X : Type 0} (P : X → Type 0) (spelling : X → List Word) (now after : List Bytes) (x : X) : Type 0 where
  pub held : P x
  pub read : IsRead (spelling x) now after
  pub whole : (y : X) (rest : List Bytes) → P y → IsRead (spelling y) now rest → (x ≡ y) × (after ≡ rest)

rest_more : {X : Type 0} (P : X → Type 0) (spelling : ℕ → X → List Word) (number : ℕ) (now after rest : List Bytes) (items xs : List X) (x : X) → IsOnly P (spelling number) now after x → length items < length xs
    → (others : List X) → Each P others → xs ≡ items ++ others → IsRead (laid_from spelling number others) now rest → IsRest P spelling (suc number) after rest (items ++ x ∷ []) xs
rest_more P spelling number now after rest items xs x o l [] held split is = absurd (let e = ap length (split ∙ append-nil items) in let f : ⊥ = omega (arith, l, e) in f)
rest_more P spelling number now after rest items xs x o l (y ∷ others) held split is =
    let s = read_split (spelling number y) (laid_from spelling (suc number) others) now rest is in
    let w = o.whole y s.mid held.0 s.first in
    record {
      others = others;
      held = held.1;
      split = split ∙ ap (λ z. items ++ z ∷ others) (sym w.0) ∙ sym (append_assoc items (x ∷ []) others);
      is = subst (λ (t : List Bytes). IsRead (laid_from spelling (suc number) others) t rest) (sym w.1) s.second;
    }

pub parts_more : {X : Type 0} (P : X → Type 0) (spelling : ℕ → X → List Word) (first : ℕ) (before now after : List Bytes) (items more : List X) (x : X)
    → AreParts P spelling first before now items → IsOnly P (spelling (first + length items)) now after x → more ≡ items ++ x ∷ [] → AreParts P spelling first before after more
parts_more {X} P spelling first before now after items more x h o e = subst (AreParts P spelling first before after) (sym e) (record {
  held = each_one_more P items x h.held o.held;
  read = subst (λ (ws : List Word). IsRead ws before after) (sym (laid_one_more spelling first items x)) (read_join (laid_from spelling first items) (spelling (first + length items) x) before now after h.read o.read);
  whole = λ xs rest each l r.
      let m = length-append items (x ∷ []) in
      let n : length items < length xs = omega (arith, l, m) in
      let s = h.whole xs rest each (omega (arith, n)) r in
      let next : suc (first + length items) ≡ first + length (items ++ x ∷ []) = omega (arith, m) in
      subst (λ (k : ℕ). IsRest P spelling k after rest (items ++ x ∷ []) xs) next (rest_more P spelling (first + length items) now after rest items xs x o n s.others s.held s.split s.is);
})

refused_item : {X : Type 0} (P : X → Type 0) (spelling : ℕ → X → List Word) (number : ℕ) (now rest after : List Bytes) (items xs : List X) (e : CertTextRefusal) → IsReading P (spelling number) now after (Err e) → length items < length xs
    → (others : List X) → Each P others → xs ≡ items ++ others → IsRead (laid_from spelling number others) now rest → e ≡ NoMemory
refused_item P spelling number now rest after items xs e n l [] held split is = absurd (let e = ap length (split ∙ append-nil items) in let f : ⊥ = omega (arith, l, e) in f)
refused_item P spelling number now rest after items xs e n l (y ∷ others) held split is =
    let s = read_split (spelling number y) (laid_from spelling (suc number) others) now rest is in
    n.whole y s.mid held.0 s.first

last_item : {X : Type 0} (P : X → Type 0) (spelling : ℕ → X → List Word) (number : ℕ) (now rest : List Bytes) (items xs : List X) → length xs ≡ length items
    → (others : List X) → xs ≡ items ++ others → IsRead (laid_from spelling number others) now rest → (items ≡ xs) × (now ≡ rest)
last_item P spelling number now rest items xs l [] split is = (sym (split ∙ append-nil items), is)
last_item P spelling number now rest items xs l (y ∷ others) split is = absurd (let e = ap length split ∙ length-append items (y ∷ others) in let f : ⊥ = omega (arith, l, e) in f)

-- so many items, each as it should be
abbrev pub AreSoMany : {X : Type 0} → (X → Type 0) → ℕ → List X → Type 0
AreSoMany P n xs = (length xs ≡ n) × Each P xs

-- the list is read
pub parts_end : {X : Type 0} (P : X → Type 0) (spelling : ℕ → X → List Word) (first : ℕ) (before now : List Bytes) (items : List X) (n : ℕ) → AreParts P spelling first before now items → length items ≡ n
    → IsReading (AreSoMany P n) (laid_from spelling first) before now (Ok items)
parts_end P spelling first before now items n h l = record {
  sound = ((l, h.held), h.read);
  whole = λ xs rest k r.
      let m = k.0 in
      let s = h.whole xs rest k.1 (omega (arith, l, m)) r in
      last_item P spelling (first + length items) now rest items xs (m ∙ sym l) s.others s.split s.is;
}

-- the next item is refused
pub parts_refused : {X : Type 0} (P : X → Type 0) (spelling : ℕ → X → List Word) (first : ℕ) (before now mid after : List Bytes) (items : List X) (n : ℕ) (e : CertTextRefusal) → AreParts P spelling first before now items → length items < n
    → IsReading P (spelling (first + length items)) now mid (Err e) → IsReading (AreSoMany P n) (laid_from spelling first) before after (Err e)
parts_refused P spelling first before now mid after items n e h l refused = record {
  sound = tt;
  whole = λ xs rest k r.
      let m = k.0 in
      let s = h.whole xs rest k.1 (omega (arith, l, m)) r in
      refused_item P spelling (first + length items) now rest mid items xs e refused (omega (arith, l, m)) s.others s.held s.split s.is;
}

-- ---- answers
some_same : {A : Type 0} (a b : A) → ◌≡◌ {A = Option A} (Some a) (Some b) → a ≡ b
some_same a b e = cc

none_some : {A : Type 0} (b : A) → ◌≡◌ {A = Option A} None (Some b) → ⊥
none_some b e = cc

pub option_only : {A : Type 0} (P : A → Type 0) (spelling : A → List Word) (before after : List Bytes) (a : A) → IsOption P spelling before after (Some a) → IsOnly P spelling before after a
option_only {A} P spelling before after a h = record {
  held = h.sound.0;
  read = h.sound.1;
  whole = λ b rest f r. (let w = h.whole b rest f r in (some_same a b w.0, w.1));
}

pub option_refused : {A : Type 0} (P : A → Type 0) (spelling : A → List Word) (before after : List Bytes) → IsOption P spelling before after None → IsReading P spelling before after (Err Bad)
option_refused {A} P spelling before after h = record { sound = tt; whole = λ b rest f r. absurd (none_some b (h.whole b rest f r).0) }

pub reading_only : {A : Type 0} (P : A → Type 0) (spelling : A → List Word) (before after : List Bytes) (a : A) → IsReading P spelling before after (Ok a) → IsOnly P spelling before after a
reading_only P spelling before after a h = record { held = h.sound.0; read = h.sound.1; whole = h.whole }

-- memory was wanting
pub no_room : {A : Type 0} (P : A → Type 0) (spelling : A → List Word) (before after : List Bytes) → IsReading P spelling before after (Err NoMemory)
no_room P spelling before after = record { sound = tt; whole = λ a rest h r. refl }

-- the same words, written in another way
pub respelled : {A : Type 0} (P : A → Type 0) (one other : A → List Word) (before after : List Bytes) (r : Result A CertTextRefusal) → ((a : A) → one a ≡ other a) → IsReading P one before after r → IsReading P other before after r
respelled P one other before after (Ok a) e h = record {
  sound = (h.sound.0, subst (λ (ws : List Word). IsRead ws before after) (e a) h.sound.1);
  whole = λ b rest f g. h.whole b rest f (subst (λ (ws : List Word). IsRead ws before rest) (sym (e b)) g);
}
respelled P one other before after (Err x) e h = record { sound = tt; whole = λ b rest f g. h.whole b rest f (subst (λ (ws : List Word). IsRead ws before rest) (sym (e b)) g) }

-- items whose words do not tell their number
abbrev pub singly : {X : Type 0} → (X → Word) → ℕ → X → List Word
singly f number x = f x ∷ []

pub laid_singly : {X : Type 0} (f : X → Word) (first : ℕ) (xs : List X) → laid_from (singly f) first xs ≡ map f xs
laid_singly f first [] = refl
laid_singly f first (x ∷ xs) = ap (λ (ws : List Word). f x ∷ ws) (laid_singly f (suc first) xs)

abbrev pub vector_words : ℕ → Vector → List Word
vector_words number v = map Entry v

pub laid_vectors : (first : ℕ) (vs : List Vector) → laid_from vector_words first vs ≡ entries vs
laid_vectors first [] = refl
laid_vectors first (v ∷ vs) = ap (λ (ws : List Word). map Entry v ++ ws) (laid_vectors (suc first) vs)

pub one_longer : {X : Type 0} (items more : List X) (x : X) (k : ℕ) → more ≡ items ++ x ∷ [] → length items ≡ k → length more ≡ k + 1
one_longer items more x k e l = ap length e ∙ length-append items (x ∷ []) ∙ ap (λ (n : ℕ). n + 1) l

-- ---- one word, and those behind it
pub name_step : (name word : Bytes) (ws : List Word) (before mid rest : List Bytes) → before ≡ word ∷ mid → IsRead (Name name ∷ ws) before rest → IsRead ws mid rest
name_step name word ws before mid rest e r = (subst (λ (b : List Bytes). IsRead (Name name ∷ ws) b rest) e r).1

pub name_missing : (name : Bytes) (ws : List Word) (before rest : List Bytes) → ((t : List Bytes) → before ≢ name ∷ t) → ¬ IsRead (Name name ∷ ws) before rest
name_missing name ws [] rest n r = r
name_missing name ws (t ∷ before) rest n r = n before (ap (λ (x : Bytes). x ∷ before) r.0)

pub word_step : {A : Type 0} (P : A → Type 0) (w : A → Word) (ws : List Word) (before mid rest : List Bytes) (a b : A) → IsOption P (singly w 0) before mid (Some a) → P b → IsRead (w b ∷ ws) before rest → (a ≡ b) × IsRead ws mid rest
word_step P w ws [] mid rest a b h p r = absurd r
word_step P w ws (t ∷ before) mid rest a b h p r = (let v = h.whole b before p (r.0, refl) in (some_same a b v.0, subst (λ (m : List Bytes). IsRead ws m rest) (sym v.1) r.1))

pub word_missing : {A : Type 0} (P : A → Type 0) (w : A → Word) (ws : List Word) (before mid rest : List Bytes) (b : A) → IsOption P (singly w 0) before mid None → P b → ¬ IsRead (w b ∷ ws) before rest
word_missing P w ws [] mid rest b h p r = r
word_missing P w ws (t ∷ before) mid rest b h p r = none_some b (h.whole b before p (r.0, refl)).0

pub taken_step : (w : Word) (ws : List Word) (before mid rest : List Bytes) → AreTaken (w ∷ []) before mid true → IsRead (w ∷ ws) before rest → IsRead ws mid rest
taken_step w ws [] mid rest h r = absurd r
taken_step w ws (t ∷ before) mid rest h r = subst (λ (m : List Bytes). IsRead ws m rest) (sym (h.whole before (r.0, refl))) r.1

pub taken_missing : (w : Word) (ws : List Word) (before mid rest : List Bytes) → AreTaken (w ∷ []) before mid false → ¬ IsRead (w ∷ ws) before rest
taken_missing w ws [] mid rest h r = r
taken_missing w ws (t ∷ before) mid rest h r = h.taken before (r.0, refl)

-- ---- the same answer in other words
pub converted_refusal : {A B : Type 0} (P : A → Type 0) (Q : B → Type 0) (one : A → List Word) (other : B → List Word) (before after mid : List Bytes) (e : CertTextRefusal) (to : B → A)
    → ((b : B) → Q b → P (to b) × (other b ≡ one (to b))) → IsReading P one before mid (Err e) → IsReading Q other before after (Err e)
converted_refusal P Q one other before after mid e to h r = record {
  sound = tt;
  whole = λ b rest f g. (let k = h b f in r.whole (to b) rest k.0 (subst (λ (ws : List Word). IsRead ws before rest) k.1 g));
}

pub converted : {A B : Type 0} (P : A → Type 0) (Q : B → Type 0) (one : A → List Word) (other : B → List Word) (before after : List Bytes) (a : A) (b : B) (to : B → A)
    → ((c : B) → Q c → P (to c) × (other c ≡ one (to c))) → Q b → other b ≡ one a → ((c : B) → Q c → a ≡ to c → b ≡ c) → IsReading P one before after (Ok a) → IsReading Q other before after (Ok b)
converted P Q one other before after a b to h fits e back r = record {
  sound = (fits, subst (λ (ws : List Word). IsRead ws before after) (sym e) r.sound.1);
  whole = λ c rest f g.
      let k = h c f in
      let w = r.whole (to c) rest k.0 (subst (λ (ws : List Word). IsRead ws before rest) k.1 g) in
      (back c f w.0, w.1);
}

-- ---- behind a name
pub named : {A : Type 0} (P : A → Type 0) (spelling : A → List Word) (name : Bytes) (before mid after : List Bytes) (r : Result A CertTextRefusal) → before ≡ name ∷ mid → IsReading P spelling mid after r
    → IsReading P (λ a. Name name ∷ spelling a) before after r
named P spelling name before mid after (Ok a) e h = record {
  sound = (h.sound.0, subst (λ (b : List Bytes). IsRead (Name name ∷ spelling a) b after) (sym e) (refl, h.sound.1));
  whole = λ b rest f g. h.whole b rest f (name_step name name (spelling b) before mid rest e g);
}
named P spelling name before mid after (Err x) e h = record { sound = tt; whole = λ b rest f g. h.whole b rest f (name_step name name (spelling b) before mid rest e g) }

pub unnamed : {A : Type 0} (P : A → Type 0) (spelling : A → List Word) (name : Bytes) (before after : List Bytes) → ((t : List Bytes) → before ≢ name ∷ t) → IsReading P (λ a. Name name ∷ spelling a) before after (Err Bad)
unnamed P spelling name before after n = record { sound = tt; whole = λ b rest f g. absurd (name_missing name (spelling b) before rest n g) }
