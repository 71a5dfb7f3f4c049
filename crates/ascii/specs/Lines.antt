-- The lines of a text.
use Rattle.std.specs.Prelude.{◌≡◌, ◌≢◌, ℕ, ◌-◌, ◌^◌, ◌<◌, List, [], ◌∷◌, ◌++◌, length, take}
use Rattle.std.specs.Prelude.{slice_get, slice_index, Some, map, ⊤, Option, MatchOption}
use Rattle.std.specs.List.{All, Contains, flat_map}
use Rattle.ascii.specs.declared.ascii_str.AsciiStr.{AsciiStr}
use Rattle.ascii.specs.declared.iter.spans.Ending.{Ending}
use Rattle.ascii.specs.declared.iter.spans.Ending.TheVariants.{Lf, CrLf, Absent}
use Rattle.ascii.specs.declared.iter.spans.Endings.{Endings}
use Rattle.ascii.specs.declared.iter.spans.Endings.TheVariants as by
use Rattle.ascii.specs.Pieces.{IsUnique}
use Rattle.ascii.specs.View.{text_of}

-- a line: its body, and its ending
pub record Line : Type 0 where
  pub body : List ℕ
  pub ending : Ending

-- the bytes of an ending
abbrev pub ending_text : Ending → List ℕ
ending_text Lf = 10 ∷ []
ending_text CrLf = 13 ∷ 10 ∷ []
ending_text Absent = []

-- the bytes of a line, ending included
abbrev pub line_text : Line → List ℕ
line_text line = line.body ++ ending_text line.ending

-- the last code of the body is CR
abbrev pub EndsInCr : List ℕ → Type 0
EndsInCr body = slice_get body (length body - 1) ≡ Some 13

-- the ending may follow the body: LF only if the body does not end in CR, an absent ending only if
-- the body is not empty, CR LF always
abbrev pub MayFollow : Ending → List ℕ → Type 0
MayFollow Lf body = ¬ (EndsInCr body)
MayFollow CrLf body = ⊤
MayFollow Absent body = body ≢ []

-- the byte at `k` is LF, and the one before it is CR
abbrev pub IsCrLfAt : List ℕ → ℕ → Type 0
IsCrLfAt text k = (slice_index text (k - 1) ≡ 13) × (slice_index text k ≡ 10)

-- the text may be the body of a line: with `Any` it contains no LF, with `CrLf` no CR LF, with
-- `CrLfStrict` neither CR nor LF
abbrev pub IsBody : Endings → List ℕ → Type 0
IsBody by.Any body = ¬ (Contains body 10)
IsBody by.CrLf body = (k : ℕ) → ¬ (IsCrLfAt body k)
IsBody by.CrLfStrict body = ¬ (Contains body 10) × ¬ (Contains body 13)

-- the ending may follow the body as `MayFollow` says, except that LF may with `Any` only
abbrev pub MayEnd : Endings → Ending → List ℕ → Type 0
MayEnd by.Any end body = MayFollow end body
MayEnd kind Lf body = ⊥
MayEnd kind end body = MayFollow end body

-- `lines` are the lines of `text` by `kind`: every body may be one, every ending may follow its
-- body, only the last line may have no ending, and the bodies and endings in order are the text.
-- With `CrLfStrict` not every text has lines
pub record LinesEndedBy (kind : Endings) (text : List ℕ) (lines : List Line) : Type 0 where
  pub bodies : All (λ line. IsBody kind line.body) lines
  pub endings : All (λ line. MayEnd kind line.ending line.body) lines
  pub ended : All (λ line. line.ending ≢ Absent) (take (length lines - 1) lines)
  pub joined : flat_map line_text lines ≡ text

-- `lines` are the lines of `text`, which end in LF or CR LF
abbrev pub LinesOf : List ℕ → List Line → Type 0
LinesOf = LinesEndedBy by.Any

-- `Holds` is true of a list that is the lines of the view
abbrev pub OfLines : AsciiStr → (List Line → Type 0) → Type 0
OfLines view Holds = (lines : List Line) × LinesOf (text_of view) lines × Holds lines

-- `remaining` are the lines of `text`, the only list that they are, of a length that fits a `usize`
pub record IteratesLines (text : List ℕ) (remaining : List Line) : Type 0 where
  pub lines : LinesOf text remaining
  pub only : IsUnique (LinesOf text) remaining
  pub fits : length remaining < 2 ^ 64

-- the bodies of the lines, which are the items that `Lines` yields
abbrev pub bodies : List Line → List (List ℕ)
bodies lines = map (λ line. line.body) lines

-- `None` if no lines remain; otherwise a view whose lines are the remaining ones
abbrev pub IsRemainderOfLines : List Line → Option AsciiStr → Type 0
IsRemainderOfLines remaining result =
    MatchOption result (remaining ≡ [])
    (λ view. LinesOf (text_of view) remaining × (remaining ≢ []))
