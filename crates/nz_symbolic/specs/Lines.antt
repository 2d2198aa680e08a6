-- Reading a constraint.
use Rattle.std.specs.Prelude.{◌≡◌, ℕ, ◌+◌, ◌<◌, ◌≤◌, true, false, length}
use Rattle.nz_vec.specs.Texts.{Text}
use Rattle.nz_text.specs.declared.found.Span.{Span}
use Rattle.nz_text.specs.declared.found.TextFault.{TextFault}
use Rattle.nz_text.specs.declared.found.TextFault.TheVariants as text_fault
use Rattle.nz_input.specs.declared.refusal.Fault.{Fault}
use Rattle.nz_input.specs.declared.refusal.Fault.TheVariants as fault
use Rattle.nz_symbolic.specs.declared.lines.Course.{Course}
use Rattle.nz_symbolic.specs.declared.lines.Reached.{Reached}
use Rattle.nz_symbolic.specs.declared.lines.Stopped.{Stopped}
use Rattle.nz_symbolic.specs.declared.point.Side.{Side}
use Rattle.nz_symbolic.specs.declared.point.Side.TheVariants.{Left, Right}
use Rattle.nz_symbolic.specs.declared.point.Point.{Point}
use Rattle.nz_symbolic.specs.declared.point.Point.TheVariants.{AtSum, AtTerm, AfterLiteral, AfterStar, AfterVariable, AfterOpen, AfterIndex, AfterTerm, AfterParen, AfterModulus, AfterClose}
use Rattle.nz_symbolic.specs.declared.fronts.Front.{Front}
use Rattle.nz_symbolic.specs.declared.symbol.Role.{Role}
use Rattle.nz_symbolic.specs.declared.symbol.Token.{Token}
use Rattle.nz_symbolic.specs.declared.symbol.Token.TheVariants as token
use Rattle.nz_symbolic.specs.Refusals.{IsRefused}
use Rattle.nz_symbolic.specs.Sit.{Sit, InLine}
use Rattle.nz_symbolic.specs.Readings.{IsReadTo, IsRunTo, opens}

-- the text has been read up to here, where this must come next
pub record IsReached (text : Text) (q : Sit) (r : Reached) : Type 0 where
  pub reading : IsReadTo text q r.at r.role r.start r.is_open
  pub run : IsRunTo text r.at r.end

-- why it is not read
abbrev pub IsStopped : Text → Stopped → Type 0
IsStopped text s = IsRefused text s.at s.fault

-- a fault between two tokens
abbrev pub of_gap : TextFault → Fault
of_gap text_fault.Byte = fault.Byte
of_gap text_fault.OpenComment = fault.OpenComment

-- what must come next there
abbrev pub sit_of : ℕ → ℕ → Course → Sit
sit_of d later c = InLine d later c.side c.terms c.point

abbrev pub course : Side → ℕ → Point → Course
course side terms point = record { side = side; terms = terms; point = point }

-- behind a whole term
abbrev pub follow_course : Side → ℕ → Token → Course
follow_course side n (token.Sign s) = course side (n + 1) AtTerm
follow_course side n (token.Relation r) = course (Right false) 0 AtSum
follow_course side n token.Tilde = course (Right true) 0 AtSum
follow_course side n token.OpenModulus = course side n AfterParen
follow_course side n t = course side n AfterClose

-- behind a token that is no `;`
abbrev pub course_behind : Side → ℕ → Point → Token → Course
course_behind side n AtSum (token.Sign s) = course side 1 AtTerm
course_behind side n AtSum (token.Literal v) = course side 1 AfterLiteral
course_behind side n AtSum t = course side 1 AfterVariable
course_behind side n AtTerm (token.Literal v) = course side n AfterLiteral
course_behind side n AtTerm t = course side n AfterVariable
course_behind side n AfterLiteral token.Star = course side n AfterStar
course_behind side n AfterLiteral token.Variable = course side n AfterVariable
course_behind side n AfterLiteral t = follow_course side n t
course_behind side n AfterStar t = course side n AfterVariable
course_behind side n AfterVariable t = course side n AfterOpen
course_behind side n AfterOpen t = course side n AfterIndex
course_behind side n AfterIndex t = course side n AfterTerm
course_behind side n AfterTerm t = follow_course side n t
course_behind side n AfterParen t = course side n AfterModulus
course_behind side n AfterModulus t = course side n AfterClose
course_behind side n AfterClose t = course side n AfterClose

-- behind a token of a run
abbrev pub reached_behind : Role → Span → Front → Reached
reached_behind wanted span f = record { at = span.start + f.len; end = span.end; role = wanted; start = span.start; is_open = opens f.token }
