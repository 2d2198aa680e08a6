-- What a reader answers.
use Rattle.std.specs.Prelude.{◌≡◌, ℕ, List, Option, Result, length, IfSome, IfOk, MatchResult, Some, ◌∷◌, codes}
use Rattle.std.specs.List.{AllByRecursion as Each}
use Rattle.nz_spec.specs.Vectors.{Vector, HasWidth}
use Rattle.nz_further.specs.Certificates.{IsHeldNumber}
use Rattle.nz_further.specs.CertificateTexts.{Bytes, Word, Name, entries}
use Rattle.nz_cert.specs.declared.refusal.CertTextRefusal.{CertTextRefusal}
use Rattle.nz_cert.specs.declared.refusal.CertTextRefusal.TheVariants.{NoMemory}
use Rattle.nz_cert.specs.Words.{IsRead}

-- the answer is the value that the first words spell, and the others are left; none, exactly where they spell none
pub record IsOption {A : Type 0} (Fits : A → Type 0) (spelling : A → List Word) (before after : List Bytes) (result : Option A) : Type 0 where
  pub sound : IfSome result (λ a. Fits a × IsRead (spelling a) before after)
  pub whole : (a : A) (rest : List Bytes) → Fits a → IsRead (spelling a) before rest → (result ≡ Some a) × (after ≡ rest)

-- the same where memory may be wanting
pub record IsReading {A : Type 0} (Fits : A → Type 0) (spelling : A → List Word) (before after : List Bytes) (result : Result A CertTextRefusal) : Type 0 where
  pub sound : IfOk result (λ a. Fits a × IsRead (spelling a) before after)
  pub whole : (a : A) (rest : List Bytes) → Fits a → IsRead (spelling a) before rest → MatchResult result (λ r. (r ≡ a) × (after ≡ rest)) (λ e. e ≡ NoMemory)

-- a vector of a certificate of width w
abbrev pub IsHeldVector : ℕ → Vector → Type 0
IsHeldVector w v = HasWidth w v × Each IsHeldNumber v

-- so many of them
abbrev pub AreHeldVectors : (w n : ℕ) → List Vector → Type 0
AreHeldVectors w n vs = (length vs ≡ n) × Each (IsHeldVector w) vs

-- the name of the rays, and these
abbrev pub ray_words : List Vector → List Word
ray_words rays = Name (codes "rays") ∷ entries rays
