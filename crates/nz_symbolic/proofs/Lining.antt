-- Reading a constraint: what its loop keeps.
use Rattle.std.proofs.Common.{◌≡◌, ℕ, ◌+◌, ◌-◌, ◌<◌, ◌≤◌, Bool, true, false, [], ◌∷◌, length, take, drop, refl, sym, ap, subst, ◌∙◌, arith, Ok, Err}
use Rattle.std.proofs.lemmas.List.{length-take, length-drop}
use Rattle.nz_vec.specs.Texts.{Text}
use Rattle.nz_text.specs.declared.found.Span.{Span}
use Rattle.nz_text.specs.declared.found.Found.TheVariants.{Piece, End, Bad}
use Rattle.nz_text.specs.declared.found.TextFault.{TextFault}
use Rattle.nz_text.specs.declared.found.TextFault.TheVariants as text_fault
use Rattle.nz_text.specs.Skip.{Finds}
use Rattle.nz_input.specs.declared.refusal.Fault.{Fault}
use Rattle.nz_symbolic.specs.declared.fronts.Front.{Front}
use Rattle.nz_symbolic.specs.declared.lines.Course.{Course}
use Rattle.nz_symbolic.specs.declared.lines.Reached.{Reached}
use Rattle.nz_symbolic.specs.declared.lines.Stopped.{Stopped}
use Rattle.nz_symbolic.specs.declared.point.Side.{Side}
use Rattle.nz_symbolic.specs.declared.point.Side.TheVariants.{Left, Right}
use Rattle.nz_symbolic.specs.declared.point.Point.{Point}
use Rattle.nz_symbolic.specs.declared.point.Point.TheVariants.{AtSum, AtTerm, AfterLiteral, AfterStar, AfterVariable, AfterOpen, AfterIndex, AfterTerm, AfterParen, AfterModulus, AfterClose}
use Rattle.nz_symbolic.specs.declared.symbol.Role.{Role}
use Rattle.nz_symbolic.specs.declared.symbol.Token.{Token}
use Rattle.nz_symbolic.specs.declared.symbol.Token.TheVariants as token
use Rattle.nz_symbolic.specs.Refusals.{IsRefused}
use Rattle.nz_symbolic.specs.Sit.{Sit, InLine, wants, next_token, behind_point, at_lines, MayFollow, MayStand, IsFinal}
use Rattle.nz_symbolic.specs.Fronts.{is_stop, IsStuckAt, IsFront}
use Rattle.nz_symbolic.specs.Readings.{IsStuckIn, IsFirst, IsReadTo, opens, fault_behind}
use Rattle.nz_symbolic.specs.Lines.{IsReached, IsStopped, of_gap, sit_of, follow_course, course_behind, reached_behind}
use Rattle.nz_symbolic.proofs.Reading.{refused-run, live-of}
use Rattle.nz_symbolic.proofs.ReadingEnds.{takes, ends-refused, refused-foreign, refused-open}

-- ---- what is refused

stopped-is : (text : Text) (s : Stopped) (at : ℕ) (f : Fault) → s.at ≡ at → s.fault ≡ f → IsRefused text at f → IsStopped text s
stopped-is text s at f e w h = subst (IsRefused text s.at) (sym w) (subst (λ (x : ℕ). IsRefused text x f) (sym e) h)

pub end-stops : (text : Text) (q : Sit) (r : Reached) (wanted : Role) (s : Stopped) → IsReached text q r → Finds text r.at End → (IsFinal q → ⊥) → wanted ≡ wants q → s.at ≡ length text + 0 → s.fault ≡ fault_behind text wanted r.at r.role r.start r.is_open (length text) 0 → IsStopped text s
end-stops text q r wanted s h found more role at why =
    let same : length text + 0 ≡ length text = omega arith in
    stopped-is text s (length text) (fault_behind text (wants q) r.at r.role r.start r.is_open (length text) 0) (at ∙ same) (why ∙ ap (λ (x : Role). fault_behind text x r.at r.role r.start r.is_open (length text) 0) role) (ends-refused text q r.at r.role r.start r.is_open h.reading found more)

pub run-stops : (text : Text) (q : Sit) (r : Reached) (wanted : Role) (s : Stopped) (span : Span) (n : ℕ) → IsReached text q r → Finds text r.at (Piece span) → IsFirst q (take (span.end - span.start) (drop span.start text)) (Err n) → wanted ≡ wants q → s.at ≡ span.start + n → s.fault ≡ fault_behind text wanted r.at r.role r.start r.is_open span.start n → IsStopped text s
run-stops text q r wanted s span n h found first role at why =
    stopped-is text s (span.start + n) (fault_behind text (wants q) r.at r.role r.start r.is_open span.start n) at (why ∙ ap (λ (x : Role). fault_behind text x r.at r.role r.start r.is_open span.start n) role) (refused-run text q r.at r.role r.start r.is_open span n h.reading found first)

pub gap-stops : (text : Text) (q : Sit) (r : Reached) (place : ℕ) (why : TextFault) → IsReached text q r → Finds text r.at (Bad place why) → IsRefused text place (of_gap why)
gap-stops text q r place text_fault.Byte h found = refused-foreign text q r.at r.role r.start r.is_open place h.reading found
gap-stops text q r place text_fault.OpenComment h found = refused-open text q r.at r.role r.start r.is_open place h.reading found

-- ---- one token more

pub record Goes (text : Text) (q : Sit) (r out : Reached) (f : Front) : Type 0 where
  pub reached : IsReached text (next_token q f.token) out
  pub further : r.at < out.at
  pub within : out.at ≤ length text

pub goes : (text : Text) (q : Sit) (r out : Reached) (wanted : Role) (span : Span) (f : Front) → IsReached text q r → Finds text r.at (Piece span) → IsFirst q (take (span.end - span.start) (drop span.start text)) (Ok f) → wanted ≡ wants q → out ≡ reached_behind wanted span f → Goes text q r out f
goes text q r out wanted span f h found first role is =
    let t = takes text q r.at r.role r.start r.is_open span f h.reading found first in
    let same : reached_behind (wants q) span f ≡ out = ap (λ (x : Role). reached_behind x span f) (sym role) ∙ sym is in
    let made : Goes text q r (reached_behind (wants q) span f) f = record { reached = record { reading = t.reading; run = t.run }; further = t.further; within = t.reading.within } in
    subst (λ (x : Reached). Goes text q r x f) same made

-- the token of a run fits in it
pub fits-run : (text : Text) (q : Sit) (span : Span) (f : Front) (at : ℕ) → Finds text at (Piece span) → IsFirst q (take (span.end - span.start) (drop span.start text)) (Ok f) → span.start + f.len ≤ span.end
fits-run text q span f at found first = omega (arith, first.0, length-take (span.end - span.start) (drop span.start text), length-drop span.start text, found.0, found.1)

pub fits-refused : (text : Text) (q : Sit) (span : Span) (n : ℕ) (at : ℕ) → Finds text at (Piece span) → IsFirst q (take (span.end - span.start) (drop span.start text)) (Err n) → span.start + n ≤ length text
fits-refused text q span n at found first = omega (arith, first.0, length-take (span.end - span.start) (drop span.start text), length-drop span.start text, found.0, found.1)

-- ---- where in a constraint

follow-is : (d later : ℕ) (side : Side) (n : ℕ) (t : Token) → MayFollow later side n t → is_stop t ≡ false → sit_of d later (follow_course side n t) ≡ behind_point d later side n AfterTerm t
follow-is d later Left n (token.Sign s) h e = refl
follow-is d later (Right b) n (token.Sign s) h e = refl
follow-is d later Left n (token.Relation r) h e = refl
follow-is d later Left n token.Tilde h e = refl
follow-is d later (Right false) n (token.Stop last) h e = absurd cc
follow-is d later (Right true) n token.OpenModulus h e = refl
follow-is d later Left n t h e = absurd h
follow-is d later (Right false) n t h e = absurd h
follow-is d later (Right true) n t h e = absurd h

pub course-is : (d later : ℕ) (side : Side) (n : ℕ) (point : Point) (t : Token) → MayStand d later side n point t → is_stop t ≡ false → sit_of d later (course_behind side n point t) ≡ behind_point d later side n point t
course-is d later side n AtSum (token.Sign s) h e = refl
course-is d later side n AtSum (token.Literal v) h e = refl
course-is d later side n AtSum token.Variable h e = refl
course-is d later side n AtSum t h e = absurd h
course-is d later side n AtTerm (token.Literal v) h e = refl
course-is d later side n AtTerm token.Variable h e = refl
course-is d later side n AtTerm t h e = absurd h
course-is d later side n AfterLiteral token.Star h e = refl
course-is d later side n AfterLiteral token.Variable h e = refl
course-is d later side n AfterLiteral t h e = follow-is d later side n t h e
course-is d later side n AfterStar t h e = refl
course-is d later side n AfterVariable t h e = refl
course-is d later side n AfterOpen t h e = refl
course-is d later side n AfterIndex t h e = refl
course-is d later side n AfterTerm t h e = follow-is d later side n t h e
course-is d later side n AfterParen t h e = refl
course-is d later side n AfterModulus t h e = refl
course-is d later side n AfterClose (token.Stop last) h e = absurd cc
course-is d later side n AfterClose t h e = absurd h

-- behind its `;` a constraint is whole
stop-follow : (d later : ℕ) (side : Side) (n : ℕ) (t : Token) → MayFollow later side n t → is_stop t ≡ true → behind_point d later side n AfterTerm t ≡ at_lines d later
stop-follow d later (Right false) n (token.Stop last) h e = refl
stop-follow d later Left n (token.Stop last) h e = absurd h
stop-follow d later (Right true) n (token.Stop last) h e = absurd h
stop-follow d later side n t h e = absurd cc

pub stop-is : (d later : ℕ) (side : Side) (n : ℕ) (point : Point) (t : Token) → MayStand d later side n point t → is_stop t ≡ true → behind_point d later side n point t ≡ at_lines d later
stop-is d later side n AtSum (token.Stop last) h e = absurd h
stop-is d later side n AtTerm (token.Stop last) h e = absurd h
stop-is d later side n AfterLiteral (token.Stop last) h e = stop-follow d later side n (token.Stop last) h e
stop-is d later side n AfterStar (token.Stop last) h e = absurd h
stop-is d later side n AfterVariable (token.Stop last) h e = absurd h
stop-is d later side n AfterOpen (token.Stop last) h e = absurd h
stop-is d later side n AfterIndex (token.Stop last) h e = absurd h
stop-is d later side n AfterTerm (token.Stop last) h e = stop-follow d later side n (token.Stop last) h e
stop-is d later side n AfterParen (token.Stop last) h e = absurd h
stop-is d later side n AfterModulus (token.Stop last) h e = absurd h
stop-is d later side n AfterClose (token.Stop last) h e = refl
stop-is d later side n point t h e = absurd cc

pub terms-most : (text : Text) (d later : ℕ) (side : Side) (n : ℕ) (point : Point) (r : Reached) → IsReached text (InLine d later side n point) r → n ≤ 400
terms-most text d later side n point r h = (live-of h.reading).1

-- ---- what `first_token` says

stuck-line : (d later : ℕ) (side : Side) (n : ℕ) (point : Point) (begun others : Text) → IsStuckAt d later side n point begun others → IsStuckIn (InLine d later side n point) begun others
stuck-line d later side n point begun [] h = h
stuck-line d later side n point begun (b ∷ others) h = h

pub front-refused : (d later : ℕ) (side : Side) (n : ℕ) (point : Point) (piece : Text) (k : ℕ) → IsFront d later side n point piece (Err k) → IsFirst (InLine d later side n point) piece (Err k)
front-refused d later side n point piece k (le, begun, stuck) = (le, record { token_is = begun.token_is; more = begun.more; may = begun.may; spelled = begun.spelled }, stuck-line d later side n point (take k piece) (drop k piece) stuck)
