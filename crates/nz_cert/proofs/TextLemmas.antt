-- The words of a text are those that are laid in it.
use Rattle.std.proofs.Common.{◌≡◌, ◌≢◌, ◌⊎◌, inl, inr, ne_eqb, ℕ, zero, suc, ◌≤◌, Bool, true, false, ◌==◌, ◌||◌, if◌then◌else◌, List, [], ◌∷◌, ◌++◌, length, map, codes, refl, sym, ap, ◌∙◌, subst, append_assoc, append-nil, arith}
use Rattle.std.proofs.lemmas.Bool.{cases_eq, cases_Bool}
use Rattle.std.specs.List.{AllByRecursion as Each, AllZip}
use Rattle.nz_spec.specs.Vectors.{Vector}
use Rattle.nz_further.specs.Certificates.{CertificateData}
use Rattle.nz_further.specs.CertificateTexts.{Bytes, IsBlank, Word, Name, Count, Entry, Spells, AreLaid, entries, list_words, stage_words, words_of}
use Rattle.nz_further.proofs.CertificateReading.{Falls, stop, stop_word, skip, close, grow, IsSolid, IsSolidWord, laid_falls}
use Rattle.nz_cert.specs.Words.{is_blank, words_behind, text_words, IsEdge, IsRead}

true_false : true ≡ false → ⊥
true_false e = cc

-- ---- blanks
blank_is : (b : ℕ) → IsBlank b → is_blank b ≡ true
blank_is b (inl e) = ap is_blank e
blank_is b (inr (inl e)) = ap is_blank e
blank_is b (inr (inr (inl e))) = ap is_blank e
blank_is b (inr (inr (inr e))) = ap is_blank e

or_cases : (a b : Bool) → (a || b) ≡ true → (a ≡ true) ⊎ (b ≡ true)
or_cases true b e = inl refl
or_cases false b e = inr e

eq_is : (a b : ℕ) → (a == b) ≡ true → a ≡ b
eq_is a b e = elim (cases_eq a b) [ inl h ↦ h | inr n ↦ absurd (true_false (sym e ∙ ne_eqb a b n)) ]

is_blank_is : (b : ℕ) → is_blank b ≡ true → IsBlank b
is_blank_is b e = elim (or_cases ((b == 32) || (b == 9) || (b == 10)) (b == 13) e) [
  | inl e1 ↦ elim (or_cases ((b == 32) || (b == 9)) (b == 10) e1) [
    | inl e2 ↦ elim (or_cases (b == 32) (b == 9) e2) [ inl h ↦ inl (eq_is b 32 h) | inr h ↦ inr (inl (eq_is b 9 h)) ]
    | inr h ↦ inr (inr (inl (eq_is b 10 h)))
  ]
  | inr h ↦ inr (inr (inr (eq_is b 13 h)))
]

not_blank : (b : ℕ) → ¬ IsBlank b → is_blank b ≡ false
not_blank b n = elim (cases_Bool (is_blank b)) [ inl e ↦ absurd (n (is_blank_is b e)) | inr e ↦ e ]

solid_is : (b : ℕ) → is_blank b ≡ false → ¬ IsBlank b
solid_is b e h = true_false (sym (blank_is b h) ∙ e)

-- ---- the words as the text falls into them
fallen : (begun text : Bytes) (ts : List Bytes) → Falls begun text ts → words_behind begun text ≡ ts
fallen [] [] ts stop = refl
fallen (c ∷ begun) [] ts stop_word = refl
fallen [] (b ∷ text) ts (skip p f) = ap (λ (t : Bool). if t then text_words text else words_behind (b ∷ []) text) (blank_is b p) ∙ fallen [] text ts f
fallen [] (b ∷ text) ts (grow n f) = ap (λ (t : Bool). if t then text_words text else words_behind (b ∷ []) text) (not_blank b n) ∙ fallen (b ∷ []) text ts f
fallen (c ∷ begun) (b ∷ text) ts (close p f) =
    ap (λ (t : Bool). if t then (c ∷ begun) ∷ text_words text else words_behind ((c ∷ begun) ++ b ∷ []) text) (blank_is b p)
    ∙ ap (λ (us : List Bytes). (c ∷ begun) ∷ us) (fallen [] text _ f)
fallen (c ∷ begun) (b ∷ text) ts (grow n f) =
    ap (λ (t : Bool). if t then (c ∷ begun) ∷ text_words text else words_behind ((c ∷ begun) ++ b ∷ []) text) (not_blank b n)
    ∙ fallen ((c ∷ begun) ++ b ∷ []) text ts f

zip_read : (ws : List Word) (ts : List Bytes) → AllZip Spells ws ts → IsRead ws ts []
zip_read [] [] h = refl
zip_read [] (t ∷ ts) h = absurd h
zip_read (w ∷ ws) [] h = absurd h
zip_read (w ∷ ws) (t ∷ ts) h = (h.0, zip_read ws ts h.1)

-- ---- the words of a certificate have no blanks
abbrev all_solid : Bytes → Bool
all_solid [] = true
all_solid (b ∷ name) = if is_blank b then false else all_solid name

solid_bytes : (name : Bytes) → all_solid name ≡ true → Each (λ b. ¬ IsBlank b) name
solid_bytes [] e = tt
solid_bytes (b ∷ name) e = elim (cases_Bool (is_blank b)) [
  | inl h ↦ absurd (true_false (sym e ∙ ap (λ (t : Bool). if t then false else all_solid name) h))
  | inr h ↦ (solid_is b h, solid_bytes name (sym (ap (λ (t : Bool). if t then false else all_solid name) h) ∙ e))
]

solid_join : (ws us : List Word) → Each IsSolidWord ws → Each IsSolidWord us → Each IsSolidWord (ws ++ us)
solid_join [] us h k = k
solid_join (w ∷ ws) us h k = (h.0, solid_join ws us h.1 k)

solid_counts : (ns : List ℕ) → Each IsSolidWord (map Count ns)
solid_counts [] = tt
solid_counts (n ∷ ns) = (tt, solid_counts ns)

solid_vector : (x : Vector) → Each IsSolidWord (map Entry x)
solid_vector [] = tt
solid_vector (a ∷ x) = (tt, solid_vector x)

solid_entries : (vs : List Vector) → Each IsSolidWord (entries vs)
solid_entries [] = tt
solid_entries (v ∷ vs) = solid_join (map Entry v) (entries vs) (solid_vector v) (solid_entries vs)

solid_list : (name : Bytes) (vs : List Vector) → IsSolid name → Each IsSolidWord (list_words name vs)
solid_list name vs h = (h, (tt, solid_entries vs))

solid_stages : (k : ℕ) (a b : List (List Vector)) → Each IsSolidWord (stage_words k a b)
solid_stages k [] b = tt
solid_stages k (x ∷ a) [] = tt
solid_stages k (x ∷ a) (y ∷ b) = (
  (omega arith, solid_bytes (codes "stage") refl),
  (
    tt,
    (
      tt,
      solid_join (entries x) (list_words (codes "reversed") y ++ stage_words (suc k) a b) (solid_entries x)
          (solid_join (list_words (codes "reversed") y) (stage_words (suc k) a b) (solid_list (codes "reversed") y (omega arith, solid_bytes (codes "reversed") refl)) (solid_stages (suc k) a b)),
    ),
  ),
)

words_solid : (c : CertificateData) → Each IsSolidWord (words_of c)
words_solid c =
    let first = list_words (codes "first") c.first in
    let stages = stage_words (suc c.rank) c.above c.beneath in
    let points = list_words (codes "points") c.points in
    let s1 = solid_join first stages (solid_list (codes "first") c.first (omega arith, solid_bytes (codes "first") refl)) (solid_stages (suc c.rank) c.above c.beneath) in
    let s2 = solid_join points (first ++ stages) (solid_list (codes "points") c.points (omega arith, solid_bytes (codes "points") refl)) s1 in
    let s3 = solid_join (entries c.rays) (points ++ (first ++ stages)) (solid_entries c.rays) s2 in
    let s4 = solid_join (map Count c.order) (Name (codes "rays") ∷ (entries c.rays ++ (points ++ (first ++ stages)))) (solid_counts c.order) ((omega arith, solid_bytes (codes "rays") refl), s3) in
    ((omega arith, solid_bytes (codes "nmzcert") refl), (tt, (tt, (tt, ((omega arith, solid_bytes (codes "order") refl), s4)))))

-- ---- forth
pub laid_read : (c : CertificateData) (text : Bytes) → AreLaid 0 (words_of c) text → IsRead (words_of c) (text_words text) []
laid_read c text h =
    let f = laid_falls 0 (words_of c) text (words_solid c) h in
    subst (λ (ts : List Bytes). IsRead (words_of c) ts []) (sym (fallen [] text f.spelled f.falls)) (zip_read (words_of c) f.spelled f.spells)

-- ---- back
no_words_behind : (c : ℕ) (begun text : Bytes) → words_behind (c ∷ begun) text ≢ []
no_words_behind c begun [] e = cc
no_words_behind c begun (b ∷ text) e = elim (cases_Bool (is_blank b)) [
  | inl h ↦ some (c ∷ begun) (text_words text) (sym (ap (λ (t : Bool). if t then (c ∷ begun) ∷ text_words text else words_behind ((c ∷ begun) ++ b ∷ []) text) h) ∙ e)
  | inr h ↦ no_words_behind c (begun ++ b ∷ []) text (sym (ap (λ (t : Bool). if t then (c ∷ begun) ∷ text_words text else words_behind ((c ∷ begun) ++ b ∷ []) text) h) ∙ e)
]
  where
    some : (t : Bytes) (ts : List Bytes) → t ∷ ts ≢ []
    some t ts e = cc

all_blank : (text : Bytes) → text_words text ≡ [] → Each IsBlank text
all_blank [] e = tt
all_blank (b ∷ text) e = elim (cases_Bool (is_blank b)) [
  | inl h ↦ (is_blank_is b h, all_blank text (sym (ap (λ (t : Bool). if t then text_words text else words_behind (b ∷ []) text) h) ∙ e))
  | inr h ↦ absurd (no_words_behind b [] text (sym (ap (λ (t : Bool). if t then text_words text else words_behind (b ∷ []) text) h) ∙ e))
]

record RunsOn (begun text word : Bytes) (words : List Bytes) : Type 0 where
  pub run : Bytes
  pub rest : Bytes
  pub whole : text ≡ run ++ rest
  pub is : word ≡ begun ++ run
  pub edge : IsEdge rest
  pub others : text_words rest ≡ words

runs_on : (c : ℕ) (begun text word : Bytes) (words : List Bytes) → words_behind (c ∷ begun) text ≡ word ∷ words → RunsOn (c ∷ begun) text word words
runs_on c begun [] word words e = record { run = []; rest = []; whole = refl; is = (let f : c ∷ begun ≡ word = cc in sym f ∙ sym (append-nil (c ∷ begun))); edge = tt; others = (let f : [] ≡ words = cc in f) }
runs_on c begun (b ∷ text) word words e = elim (cases_Bool (is_blank b)) [
  | inl h ↦ ends h (sym (ap (λ (t : Bool). if t then (c ∷ begun) ∷ text_words text else words_behind ((c ∷ begun) ++ b ∷ []) text) h) ∙ e)
  | inr h ↦ goes (runs_on c (begun ++ b ∷ []) text word words (sym (ap (λ (t : Bool). if t then (c ∷ begun) ∷ text_words text else words_behind ((c ∷ begun) ++ b ∷ []) text) h) ∙ e))
]
  where
    ends : is_blank b ≡ true → (c ∷ begun) ∷ text_words text ≡ word ∷ words → RunsOn (c ∷ begun) (b ∷ text) word words
    ends h f = record {
      run = [];
      rest = b ∷ text;
      whole = refl;
      is = (let g : c ∷ begun ≡ word = cc in sym g ∙ sym (append-nil (c ∷ begun)));
      edge = h;
      others = ap (λ (t : Bool). if t then text_words text else words_behind (b ∷ []) text) h ∙ (let g : text_words text ≡ words = cc in g);
    }

    goes : RunsOn (c ∷ (begun ++ b ∷ [])) text word words → RunsOn (c ∷ begun) (b ∷ text) word words
    goes r = record {
      run = b ∷ r.run;
      rest = r.rest;
      whole = ap (λ (t : Bytes). b ∷ t) r.whole;
      is = r.is ∙ append_assoc (c ∷ begun) (b ∷ []) r.run;
      edge = r.edge;
      others = r.others;
    }

record BeginsWord (text word : Bytes) (words : List Bytes) : Type 0 where
  pub gap : Bytes
  pub rest : Bytes
  pub whole : text ≡ gap ++ (word ++ rest)
  pub blanks : Each IsBlank gap
  pub some : IsEdge text → 1 ≤ length gap
  pub edge : IsEdge rest
  pub others : text_words rest ≡ words

begins_word : (text word : Bytes) (words : List Bytes) → text_words text ≡ word ∷ words → BeginsWord text word words
begins_word [] word words e = absurd (let f : ⊥ = cc in f)
begins_word (b ∷ text) word words e = elim (cases_Bool (is_blank b)) [
  | inl h ↦ longer h (begins_word text word words (sym (ap (λ (t : Bool). if t then text_words text else words_behind (b ∷ []) text) h) ∙ e))
  | inr h ↦ here h (runs_on b [] text word words (sym (ap (λ (t : Bool). if t then text_words text else words_behind (b ∷ []) text) h) ∙ e))
]
  where
    longer : is_blank b ≡ true → BeginsWord text word words → BeginsWord (b ∷ text) word words
    longer h r = record {
      gap = b ∷ r.gap;
      rest = r.rest;
      whole = ap (λ (t : Bytes). b ∷ t) r.whole;
      blanks = (is_blank_is b h, r.blanks);
      some = λ i. omega arith;
      edge = r.edge;
      others = r.others;
    }

    here : is_blank b ≡ false → RunsOn (b ∷ []) text word words → BeginsWord (b ∷ text) word words
    here h r = record {
      gap = [];
      rest = r.rest;
      whole = ap (λ (t : Bytes). b ∷ t) r.whole ∙ ap (λ (t : Bytes). t ++ r.rest) (sym r.is);
      blanks = tt;
      some = λ i. absurd (true_false (sym i ∙ h));
      edge = r.edge;
      others = r.others;
    }

-- behind at least so many blanks: none in front of the first word, one where the text goes on at an edge
abbrev MayFollow : ℕ → Bytes → Type 0
MayFollow least text = (least ≤ 1) × (1 ≤ least → IsEdge text)

read_laid_from : (least : ℕ) (ws : List Word) (text : Bytes) (ts : List Bytes) → MayFollow least text → text_words text ≡ ts → IsRead ws ts [] → AreLaid least ws text
read_laid_from least [] text ts m e h = all_blank text (e ∙ h)
read_laid_from least (w ∷ ws) text [] m e h = absurd h
read_laid_from least (w ∷ ws) text (t ∷ ts) m e h =
    let b = begins_word text t ts e in
    record {
      gap = b.gap;
      spelled = t;
      rest = b.rest;
      whole = b.whole;
      blanks = b.blanks;
      at_least = enough text b.gap least m.0 m.1 b.some;
      spells = h.0;
      goes_on = read_laid_from 1 ws b.rest ts (omega arith, λ i. b.edge) b.others h.1;
    }
  where
    enough : (text gap : Bytes) (least : ℕ) → least ≤ 1 → (1 ≤ least → IsEdge text) → (IsEdge text → 1 ≤ length gap) → least ≤ length gap
    enough text gap zero l f g = omega arith
    enough text gap (suc k) l f g = (let n = g (f (omega arith)) in omega (arith, n, l))

pub read_laid : (ws : List Word) (text : Bytes) → IsRead ws (text_words text) [] → AreLaid 0 ws text
read_laid ws text h = read_laid_from 0 ws text (text_words text) (omega arith, λ i. absurd (let f : ⊥ = omega (arith, i) in f)) refl h
