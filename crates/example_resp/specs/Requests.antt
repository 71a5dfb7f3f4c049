-- What a session answers to each line and each word: a request is a line of words, or an array.
use Rattle.std.specs.Prelude.{◌≡◌, ◌≢◌, ◌⊎◌, ◌<◌, ◌≤◌, ℕ, List, [], ◌∷◌, ◌++◌, codes, length}
use Rattle.ascii_formats.specs.Numbers.{WritesNumber}
use Rattle.ascii.specs.Search.{IsPrefix, StartsWith}
use Rattle.ascii_lines.specs.declared.serving.Next.TheVariants as next
use Rattle.example_resp.specs.Session.{Answer, Awaits, CarriesOut, Rejects, State}
use Rattle.example_resp.specs.Store.{Contents}
use Rattle.example_resp.specs.declared.commands.Rejection.TheVariants.{BadCount, BadEnding}
use Rattle.example_resp.specs.declared.commands.Rejection.TheVariants.{BadLength, NoLength}
use Rattle.example_resp.specs.Words.{HasWords, IsLineFault}
use Rattle.example_resp.specs.declared.commands.Rejection.{Rejection}
use Rattle.example_resp.specs.declared.session.Length.{Length}
use Rattle.example_resp.specs.declared.session.Length.TheVariants.{Known, Bad, Absent}
use Rattle.example_resp.specs.declared.session.Stage.{Stage}
use Rattle.example_resp.specs.declared.session.Stage.TheVariants as stage

-- the largest number of words of an array
abbrev pub most_words : ℕ
most_words = 64

-- the largest number of bytes of a word of an array
abbrev pub most_bytes : ℕ
most_bytes = 1024

-- `digits` have no zero before others
abbrev pub IsShortest : List ℕ → Type 0
IsShortest digits = (length digits ≡ 1) ⊎ ¬ (StartsWith (codes "0") digits)

-- what `line` says of a length. `Known n`: it is the mark and digits that write `n`, which is at
-- most `most`, without a zero before others. `Bad`: it is the mark and not such digits. `Absent`: it
-- does not begin with the mark
abbrev pub IsLength : List ℕ → ℕ → List ℕ → Length → Type 0
IsLength mark most line (Known n) = (digits : List ℕ) × IsPrefix mark line digits
    × WritesNumber most digits n × IsShortest digits
IsLength mark most line Bad = (digits : List ℕ) × IsPrefix mark line digits
    × ((n : ℕ) → WritesNumber most digits n → ¬ (IsShortest digits))
IsLength mark most line Absent = ¬ (StartsWith mark line)

-- `words` have been read of an array of `count` words: if that is all, they are carried out, and
-- otherwise the length of the next word is awaited
pub record Continues (held : Contents) (count : ℕ) (words : List (List ℕ)) (answer : Answer)
    : Type 0 where
  pub whole : count ≤ length words → CarriesOut held words answer
  pub part : length words < count → Awaits held words (stage.Length count) next.Line answer

-- after the first line of a request: an array of that length begins, or the words are those of the
-- line; or those cannot be kept
abbrev pub Opens : Contents → List ℕ → Length → Answer → Type 0
Opens held line (Known count) answer = Continues held count [] answer
Opens held line Bad answer = Rejects held BadCount answer
Opens held line Absent answer =
    ((words : List (List ℕ)) × HasWords line words × CarriesOut held words answer)
    ⊎ ((fault : Rejection) × IsLineFault line fault × Rejects held fault answer)

-- after the line with the length of a word, in an array of `count` words of which `words` have been
-- read: a word of that length is awaited; if it is empty, the line that ends it
abbrev pub AwaitsWord : Contents → ℕ → List (List ℕ) → Length → Answer → Type 0
AwaitsWord held count words (Known size) answer =
    (size ≡ 0 → Awaits held (words ++ [] ∷ []) (stage.End count) next.Line answer)
    × (0 < size → Awaits held words (stage.Word count) (next.Bytes size) answer)
AwaitsWord held count words Bad answer = Rejects held BadLength answer
AwaitsWord held count words Absent answer = Rejects held NoLength answer

-- the answer to the first line of a request. The array `*-1` has no words, and is not answered
pub record AnswersRequest (old : State) (line : List ℕ) (answer : Answer) : Type 0 where
  pub none : line ≡ codes "*-1"
      → Awaits old.contents old.words stage.Request next.Line answer
  pub other : line ≢ codes "*-1" → (length : Length)
      × IsLength (codes "*") most_words line length × Opens old.contents line length answer

-- the answer to the line with the length of a word, in an array of `count` words
abbrev pub AnswersLength : State → ℕ → List ℕ → Answer → Type 0
AnswersLength old count line answer = (length : Length)
    × IsLength (codes "$") most_bytes line length
    × AwaitsWord old.contents count old.words length answer

-- the answer to a word, in an array of `count` words
abbrev pub AnswersWord : State → ℕ → List ℕ → Answer → Type 0
AnswersWord old count word answer =
    Awaits old.contents (old.words ++ word ∷ []) (stage.End count) next.Line answer

-- the answer to the line that ends a word, which is to be empty
pub record AnswersEnd (old : State) (count : ℕ) (line : List ℕ) (answer : Answer) : Type 0 where
  pub ended : line ≡ [] → Continues old.contents count old.words answer
  pub longer : line ≢ [] → Rejects old.contents BadEnding answer

-- the answer to a line or a word, by what is awaited
abbrev pub AnswersAt : Stage → State → List ℕ → Answer → Type 0
AnswersAt stage.Request old text answer = AnswersRequest old text answer
AnswersAt (stage.Length count) old text answer = AnswersLength old count text answer
AnswersAt (stage.Word count) old text answer = AnswersWord old count text answer
AnswersAt (stage.End count) old text answer = AnswersEnd old count text answer

-- the answer of a session in the state `old` to the line or word `text`
abbrev pub Answers : State → List ℕ → Answer → Type 0
Answers old text answer = AnswersAt old.stage old text answer
