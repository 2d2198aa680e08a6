-- Lists of vectors behind their number.
use Rattle.std.proofs.Common.{◌≡◌, ℕ, ◌^◌, ◌<◌, ◌≤◌, List, [], ◌∷◌, length, sym, subst, arith, Some, None, Result, Ok, Err}
use Rattle.std.specs.List.{AllByRecursion as Each}
use Rattle.nz_spec.specs.Vectors.{Vector, HasWidth}
use Rattle.nz_further.specs.Certificates.{IsHeldNumber, AreHeld}
use Rattle.nz_further.specs.CertificateTexts.{Bytes, Word, Count, entries}
use Rattle.nz_cert.specs.declared.refusal.CertTextRefusal.{CertTextRefusal}
use Rattle.nz_cert.specs.declared.refusal.CertTextRefusal.TheVariants.{Bad}
use Rattle.nz_cert.specs.Words.{IsRead}
use Rattle.nz_cert.specs.Readings.{IsOption, IsReading, IsHeldVector, AreHeldVectors}
use Rattle.nz_cert.proofs.ReadingLemmas.{read_join, singly, word_step, word_missing}

pub held_widths : (w : ℕ) (vs : List Vector) → Each (IsHeldVector w) vs → Each (HasWidth w) vs
held_widths w [] h = tt
held_widths w (v ∷ vs) h = (h.0.0, held_widths w vs h.1)

pub held_numbers : (w : ℕ) (vs : List Vector) → Each (IsHeldVector w) vs → Each (Each IsHeldNumber) vs
held_numbers w [] h = tt
held_numbers w (v ∷ vs) h = (h.0.1, held_numbers w vs h.1)

pub held_forth : (w n : ℕ) (vs : List Vector) → n ≤ 250000 → AreHeldVectors w n vs → AreHeld w vs
held_forth w n vs l h = record { widths = held_widths w vs h.1; numbers = held_numbers w vs h.1; few = subst (λ (k : ℕ). k ≤ 250000) (sym h.0) l }

both_held : (w : ℕ) (vs : List Vector) → Each (HasWidth w) vs → Each (Each IsHeldNumber) vs → Each (IsHeldVector w) vs
both_held w [] h k = tt
both_held w (v ∷ vs) h k = ((h.0, k.0), both_held w vs h.1 k.1)

pub held_back : (w n : ℕ) (vs : List Vector) → length vs ≡ n → AreHeld w vs → AreHeldVectors w n vs
held_back w n vs e h = (e, both_held w vs h.widths h.numbers)

-- the number of a list, and its vectors
abbrev pub counted : List Vector → List Word
counted vs = Count (length vs) ∷ entries vs

pub list_none : (w : ℕ) (before mid after : List Bytes) → IsOption (λ n. n < 2 ^ 64) (singly Count 0) before mid None → IsReading (AreHeld w) counted before after (Err Bad)
list_none w before mid after h = record {
  sound = tt;
  whole = λ vs rest f g. absurd (word_missing (λ n. n < 2 ^ 64) Count (entries vs) before mid rest (length vs) h (let few = f.few in omega (arith, few)) g);
}

pub list_large : (w n : ℕ) (before mid after : List Bytes) → IsOption (λ n. n < 2 ^ 64) (singly Count 0) before mid (Some n) → 250000 < n → IsReading (AreHeld w) counted before after (Err Bad)
list_large w n before mid after h l = record {
  sound = tt;
  whole = λ vs rest f g.
      let few = f.few in
      let e = (word_step (λ n. n < 2 ^ 64) Count (entries vs) before mid rest n (length vs) h (omega (arith, few)) g).0 in
      absurd (let x : ⊥ = omega (arith, few, e, l) in x);
}

pub list_read : (w n : ℕ) (before mid after : List Bytes) (r : Result (List Vector) CertTextRefusal) → IsOption (λ n. n < 2 ^ 64) (singly Count 0) before mid (Some n) → n ≤ 250000
    → IsReading (AreHeldVectors w n) entries mid after r → IsReading (AreHeld w) counted before after r
list_read w n before mid after (Ok vs) h l k = record {
  sound = (held_forth w n vs l k.sound.0, subst (λ (m : ℕ). IsRead (Count m ∷ entries vs) before after) (sym k.sound.0.0) (read_join (Count n ∷ []) (entries vs) before mid after h.sound.1 k.sound.1));
  whole = λ us rest f g.
      let few = f.few in
      let s = word_step (λ n. n < 2 ^ 64) Count (entries us) before mid rest n (length us) h (omega (arith, few)) g in
      k.whole us rest (held_back w n us (sym s.0) f) s.1;
}
list_read w n before mid after (Err x) h l k = record {
  sound = tt;
  whole = λ us rest f g.
      let few = f.few in
      let s = word_step (λ n. n < 2 ^ 64) Count (entries us) before mid rest n (length us) h (omega (arith, few)) g in
      k.whole us rest (held_back w n us (sym s.0) f) s.1;
}
