-- How far a text has been read, and what stands next.
use Rattle.std.specs.Prelude.{◌≡◌, ◌⊎◌, ℕ, ◌+◌, ◌-◌, ◌≤◌, ◌<◌, ◌==◌, ◌&&◌, if◌then◌else◌, Bool, true, false, List, [], ◌∷◌, ◌++◌, length, take, drop, Result, Ok, Err}
use Rattle.nz_vec.specs.Texts.{Text}
use Rattle.nz_text.specs.Bytes.{IsSolid, IsEdge}
use Rattle.nz_input.specs.declared.refusal.Fault.{Fault}
use Rattle.nz_input.specs.Prefixes.{first_of}
use Rattle.nz_input.specs.Layouts.{Separator, Gap, Break, AtPiece}
use Rattle.nz_symbolic.specs.declared.fronts.Front.{Front}
use Rattle.nz_symbolic.specs.declared.symbol.Token.{Token}
use Rattle.nz_symbolic.specs.declared.symbol.Role.{Role}
use Rattle.nz_symbolic.specs.declared.symbol.Slot.{Slot}
use Rattle.nz_symbolic.specs.Symbols.{SpellsToken, Spells}
use Rattle.nz_symbolic.specs.Refusals.{behind_whole, apart, EndsAt, fault_at}
use Rattle.nz_symbolic.specs.Machines.{StepsIn, CoversIn, IsReadyIn}
use Rattle.nz_symbolic.specs.Sit.{Sit, AtOpening, MayToken, May, next, Ahead, AheadIn}

-- ---- which token stands first

-- no token that may come here stands first in these bytes
abbrev pub NoneFirst : Sit → Text → Type 0
NoneFirst q text = (t : Token) (u v : Text) → MayToken q t → SpellsToken t u → AheadIn t v → u ++ v ≡ text → ⊥

-- a token that may come here begins so
pub record BeginsAt (q : Sit) (begun : Text) : Type 0 where
  pub token_is : Token
  pub more : Text
  pub may : MayToken q token_is
  pub spelled : SpellsToken token_is (begun ++ more)

-- with these bytes, and what follows them in the run, none begins
abbrev pub IsStuckIn : Sit → Text → Text → Type 0
IsStuckIn q begun [] = (tail : Text) → IsEdge tail → NoneFirst q (begun ++ tail)
IsStuckIn q begun (b ∷ others) = (more : Text) → NoneFirst q (begun ++ b ∷ more)

-- the token that stands first in a run and how long it is, or how many bytes can begin one
abbrev pub IsFirst : Sit → Text → Result Front ℕ → Type 0
IsFirst q piece (Ok f) = (f.len ≤ length piece) × MayToken q f.token × SpellsToken f.token (take f.len piece) × AheadIn f.token (drop f.len piece)
IsFirst q piece (Err k) = (k ≤ length piece) × BeginsAt q (take k piece) × IsStuckIn q (take k piece) (drop k piece)

-- ---- how far a text has been read

-- nothing is behind, or it needs no break to have ended
abbrev pub IsLoose : List Slot → Type 0
IsLoose [] = Unit {0}
IsLoose (s ∷ []) = apart s ≡ Gap
IsLoose (s ∷ r ∷ ss) = IsLoose (r ∷ ss)

-- The bytes before the place are symbols that lead here, and what follows belongs to none of them. The last one began at the start and had the role; it is open where a byte straight behind it could belong to it.
pub record IsReadTo (text : Text) (q : Sit) (at : ℕ) (role : Role) (start : ℕ) (is_open : Bool) : Type 0 where
  pub done : List Slot
  pub within : at ≤ length text
  pub covers : CoversIn Spells Ahead done (take at text)
  pub steps : StepsIn May next AtOpening done q
  pub ready : IsReadyIn Ahead done (drop at text)
  pub order : start ≤ at
  pub last : is_open ≡ true → EndsAt (take at text) (AtPiece role (take (at - start) (drop start text)))
  pub loose : is_open ≡ false → IsLoose done

-- a run of solid bytes goes on from the place up to the end, or the place is its end
pub record IsRunTo (text : Text) (at end : ℕ) : Type 0 where
  pub order : at ≤ end
  pub within : end ≤ length text
  pub solid : IsSolid (take (end - at) (drop at text))
  pub edge : at < end → IsEdge (drop end text)

-- ---- why nothing is read

-- a byte straight behind the token could belong to it
abbrev pub is_break : Separator → Bool
is_break Gap = false
is_break Break = true

-- a byte straight behind the token could belong to it
abbrev pub opens : Token → Bool
opens t = is_break (behind_whole t)

-- straight behind an open token nothing else has begun
abbrev pub is_straight : Bool → ℕ → ℕ → ℕ → Bool
is_straight is_open at from n = is_open && ((at == from) && (n == 0))

-- the fault where so many bytes from a place on can begin a token of the role that is wanted, behind a token of a role that began at the start
abbrev pub fault_behind : Text → Role → ℕ → Role → ℕ → Bool → ℕ → ℕ → Fault
fault_behind text wanted at role start is_open from n =
    if is_straight is_open at from n then fault_at (AtPiece role (take (at - start) (drop start text))) (first_of (drop at text)) else fault_at (AtPiece wanted (take n (drop from text))) (first_of (drop (from + n) text))

-- with these bytes a run is no token that may come here, or they go on with a byte with which none goes on
abbrev pub IsNoneSo : Sit → Text → Text → Type 0
IsNoneSo q begun [] = (t : Token) → MayToken q t → SpellsToken t begun → ⊥
IsNoneSo q begun (b ∷ others) = BeginsAt q (begun ++ b ∷ []) → ⊥
