-- The modes whose output is made as the text is read: the output of each for a whole text, and what
-- is written of a text before more is read.
use Rattle.std.specs.Prelude.{◌≡◌, ℕ, ◌+◌, ◌-◌, ◌<◌, ◌≤◌, List, [], ◌∷◌, ◌++◌, codes, length, map}
use Rattle.std.specs.Prelude.{Bool, true, false, take, cond, ◌==◌, ◌&&◌, not, get_or, if◌then◌else◌, slice_index}
use Rattle.std.specs.Char.Escape.{escape_ascii}
use Rattle.std.specs.List.{flat_map}
use Rattle.std.specs.Str.{IsAscii}
use Rattle.memchr.specs.Find.{Nowhere, OccursAt}
use Rattle.ascii.specs.Bytes.{FirstOther}
use Rattle.ascii.specs.Case.{lower_image, upper_image}
use Rattle.ascii.specs.Lines.{bodies}
use Rattle.ascii.specs.Notations.{caret_text}
use Rattle.ascii_run.specs.declared.bounded.BoundedMode.{BoundedMode}
use Rattle.ascii_run.specs.declared.bounded.BoundedMode.TheVariants.{Copy, Lines, Caret, Json}
use Rattle.ascii_run.specs.declared.bounded.BoundedMode.TheVariants.{Upper, Lower, Escape}
use Rattle.ascii_run.specs.Modes.Json.{json_code, json_text}
use Rattle.ascii_run.specs.Modes.Lines.{ShowsLines, with_line_feed}

-- whether the mode takes all bytes, and not an ASCII text alone
abbrev pub takes_all : BoundedMode → Bool
takes_all Escape = true
takes_all other = false

-- the bytes are an input of the mode: if it does not take all bytes, they are ASCII
abbrev pub IsInput : BoundedMode → List ℕ → Type 0
IsInput mode bytes = takes_all mode ≡ false → IsAscii bytes

-- `output` is the output of the mode for a whole input: the text; the body of each line and LF;
-- what `Caret` shows of each code; the compact JSON string; the upper or the lower image; what std
-- writes of each byte escaped
abbrev pub IsWholeOutput : BoundedMode → List ℕ → List ℕ → Type 0
IsWholeOutput Copy text output = output ≡ text
IsWholeOutput Lines text output =
    ShowsLines (λ lines. flat_map with_line_feed (bodies lines)) text output
IsWholeOutput Caret text output = output ≡ flat_map caret_text text
IsWholeOutput Json text output = output ≡ json_text text
IsWholeOutput Upper text output = output ≡ map upper_image text
IsWholeOutput Lower text output = output ≡ map lower_image text
IsWholeOutput Escape text output = output ≡ flat_map escape_ascii text

-- `output` is what is written of a text after which another error ends the input: the output of the
-- mode, except that `Json` is without the last double quote, so that nobody takes it for the whole
abbrev pub IsCutOutput : BoundedMode → List ℕ → List ℕ → Type 0
IsCutOutput Json text output = output ≡ codes "\"" ++ flat_map json_code text
IsCutOutput mode text output = IsWholeOutput mode text output

-- ---- cited by private functions only

-- a body without a last CR
abbrev pub without_last_cr : List ℕ → List ℕ
without_last_cr body =
    if slice_index body (length body - 1) == 13 then take (length body - 1) body else body

-- the last byte of the text, or `before` if the text is empty
abbrev pub last_after : ℕ → List ℕ → ℕ
last_after before text = get_or (before ∷ text) (length text) 0

-- `text` without each CR that is before LF, and with `last` of its last code in place of that code
abbrev pub with_feeds : (ℕ → List ℕ) → List ℕ → List ℕ
with_feeds last [] = []
with_feeds last (c ∷ []) = last c
with_feeds last (c ∷ d ∷ cs) =
    cond (c == 13 && d == 10) (with_feeds last (d ∷ cs)) (c ∷ with_feeds last (d ∷ cs))

-- the last code of a text: a CR is held back
abbrev pub unless_cr : ℕ → List ℕ
unless_cr c = cond (c == 13) [] (c ∷ [])

-- the CR that was held back after the byte `before`, unless `next` is LF
abbrev pub held_cr : ℕ → ℕ → List ℕ
held_cr before next = cond (before == 13 && not (next == 10)) (13 ∷ []) []

-- what `Lines` adds for a part after the byte `before`: a CR that was held back, unless LF follows,
-- and the part without each CR that is before LF, and without a last CR
abbrev pub lines_part : ℕ → List ℕ → List ℕ
lines_part before [] = []
lines_part before (c ∷ cs) = held_cr before c ++ with_feeds unless_cr (c ∷ cs)

-- what `Lines` adds after a text whose last byte is `last`: LF unless it is LF, and a CR before
-- that if it was held back
abbrev pub lines_closing : ℕ → List ℕ
lines_closing last = cond (last == 10) [] (cond (last == 13) (13 ∷ 10 ∷ []) (10 ∷ []))

-- a mode whose output is made as the text is read, after a byte `before`: what is written before
-- the text, what is added for a part of it, what is added after its last byte at the end of the
-- input, and what is added after its last byte if an error ends the input
pub record Stream : Type 0 where
  pub opening : List ℕ
  pub part : ℕ → List ℕ → List ℕ
  pub closing : ℕ → List ℕ
  pub cut : ℕ → List ℕ

-- a mode that shows each code by itself, between two texts
abbrev pub by_code : List ℕ → (ℕ → List ℕ) → Stream
by_code mark shown = record {
  opening = mark;
  part = λ before. flat_map shown;
  closing = λ last. mark;
  cut = λ last. [];
}

-- a mode that writes the image of each code
abbrev pub by_image : (ℕ → ℕ) → Stream
by_image image = record {
  opening = [];
  part = λ before. map image;
  closing = λ last. [];
  cut = λ last. [];
}

-- what each mode writes
abbrev pub stream : BoundedMode → Stream
stream Copy = record {
  opening = [];
  part = λ before text. text;
  closing = λ last. [];
  cut = λ last. [];
}
stream Lines = record {
  opening = [];
  part = lines_part;
  closing = lines_closing;
  cut = lines_closing;
}
stream Caret = by_code [] caret_text
stream Json = by_code (codes "\"") json_code
stream Upper = by_image upper_image
stream Lower = by_image lower_image
stream Escape = by_code [] escape_ascii

-- what is written of a text before more is read, the output of a whole text, and that of a text
-- after which an error ends the input
abbrev pub front : Stream → List ℕ → List ℕ
front mode text = mode.opening ++ mode.part 10 text

abbrev pub whole : Stream → List ℕ → List ℕ
whole mode text = front mode text ++ mode.closing (last_after 10 text)

abbrev pub cut_off : Stream → List ℕ → List ℕ
cut_off mode text = front mode text ++ mode.cut (last_after 10 text)

-- `n` is the number of bytes before the first that the mode does not take, one above 127
pub record IsTextLength (mode : BoundedMode) (bytes : List ℕ) (n : ℕ) : Type 0 where
  pub within : n ≤ length bytes
  pub input : IsInput mode (take n bytes)
  pub other : n < length bytes
      → (takes_all mode ≡ false) × FirstOther bytes 0 (length bytes) n

-- `rest` has no CR LF, and `done` is what `with_feeds` has of the text before it
pub record IsLastSegment (text done rest : List ℕ) : Type 0 where
  pub joined : (last : ℕ → List ℕ) → done ++ with_feeds last rest ≡ with_feeds last text
  pub without : Nowhere (OccursAt rest (13 ∷ 10 ∷ [])) 0 (length rest + 1)
