-- Files in a list, by name.
use Rattle.std.specs.Prelude.{◌≡◌, ℕ, suc, List, [], ◌∷◌, ◌++◌, Option, Some, None, String, string_bytes, if◌then◌else◌}
use Rattle.std.specs.Str.{bytes_eq}
use Rattle.std.specs.declared.alloc.Global.{Global}
use Rattle.nz_vec.specs.Texts.{Text}

-- a name and its bytes
abbrev pub Named : Type 0
Named = String Global × Text

-- the bytes of the first file of this name
abbrev pub find_file : List Named → Text → Option Text
find_file [] name = None
find_file (f ∷ fs) name = if bytes_eq (string_bytes f.0) name then Some f.1 else find_file fs name

-- the place of the first file of this name
abbrev pub place_from : ℕ → List Named → Text → Option ℕ
place_from n [] name = None
place_from n (f ∷ fs) name = if bytes_eq (string_bytes f.0) name then Some n else place_from (suc n) fs name

-- this is the place of the first file of this name
abbrev pub IsPlaceOf : List Named → Text → Option ℕ → Type 0
IsPlaceOf fs name r = r ≡ place_from 0 fs name

-- one file more stands at the end, with this name and these bytes
abbrev pub IsAppended : List Named → List Named → Text → Text → Type 0
IsAppended old new name bytes = (file : Named) × (new ≡ old ++ file ∷ []) × (string_bytes file.0 ≡ name) × (file.1 ≡ bytes)
