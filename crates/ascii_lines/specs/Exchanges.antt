-- A conversation as its handler sees it: what it was given, and what it replied, in order.
use Rattle.std.specs.Prelude.{◌≡◌, ℕ, List, [], ◌∷◌, ◌++◌, None, Some, ⊤}
use Rattle.std.specs.declared.option.Option.{Option}
use Rattle.ascii.specs.Lines.{Line, line_text}
use Rattle.ascii_lines.specs.Replies.{Reply, Step, rejected, sent_out, skipped, took}
use Rattle.ascii_lines.specs.declared.line_reader.LineError.{LineError}
use Rattle.ascii_lines.specs.declared.line_reader.LineError.TheVariants.{Incomplete}
use Rattle.ascii_lines.specs.declared.serving.Next.{Next}
use Rattle.ascii_lines.specs.declared.serving.Next.TheVariants as next

-- the lines and parts that the steps took
abbrev pub inputs_of : List Step → List Line
inputs_of [] = []
inputs_of (took input replies ∷ steps) = input ∷ inputs_of steps
inputs_of (rejected error replies ∷ steps) = inputs_of steps
inputs_of (skipped bytes ∷ steps) = inputs_of steps
inputs_of (sent_out ∷ steps) = inputs_of steps

-- what the handler was given in the steps: the body of a line or part, or `None` for an error
abbrev pub given_in : List Step → List (Option (List ℕ))
given_in [] = []
given_in (took input replies ∷ steps) = Some input.body ∷ given_in steps
given_in (rejected error replies ∷ steps) = None ∷ given_in steps
given_in (skipped bytes ∷ steps) = given_in steps
given_in (sent_out ∷ steps) = given_in steps

-- the replies of the steps
abbrev pub said_in : List Step → List Reply
said_in [] = []
said_in (took input replies ∷ steps) = replies ++ said_in steps
said_in (rejected error replies ∷ steps) = replies ++ said_in steps
said_in (skipped bytes ∷ steps) = said_in steps
said_in (sent_out ∷ steps) = said_in steps

-- the bytes of the input that a step took
abbrev pub step_bytes : Step → List ℕ
step_bytes (took input replies) = line_text input
step_bytes (rejected error replies) = []
step_bytes (skipped bytes) = bytes
step_bytes sent_out = []

-- the bytes of the input that the steps took, laid end to end
abbrev pub bytes_of : List Step → List ℕ
bytes_of [] = []
bytes_of (step ∷ steps) = step_bytes step ++ bytes_of steps

-- the steps take no byte, and the only error in them is that of a part of which no byte came
abbrev pub TakesNothing : List Step → Type 0
TakesNothing [] = ⊤
TakesNothing (took input replies ∷ steps) = ⊥
TakesNothing (rejected error replies ∷ steps) = (error ≡ Incomplete 0) × TakesNothing steps
TakesNothing (skipped bytes ∷ steps) = (bytes ≡ []) × TakesNothing steps
TakesNothing (sent_out ∷ steps) = TakesNothing steps

-- in none of the steps replies were sent for the handler
abbrev pub SendsNothing : List Step → Type 0
SendsNothing [] = ⊤
SendsNothing (sent_out ∷ steps) = ⊥
SendsNothing (other ∷ steps) = SendsNothing steps

module _ {H : Type 0} (answers : H → Line → List Reply → Next → H → Type 0)
    (refuses : H → LineError → List Reply → Next → H → Type 0) where
  -- a handler goes from the state `old` to the state `new` by the answers of these steps
  abbrev pub Runs : H → List Step → H → Type 0
  Runs old [] new = new ≡ old
  Runs old (took input replies ∷ steps) new = (then : Next) × (mid : H)
      × answers old input replies then mid × Runs mid steps new
  Runs old (rejected error replies ∷ steps) new = (then : Next) × (mid : H)
      × refuses old error replies then mid × Runs mid steps new
  Runs old (skipped bytes ∷ steps) new = Runs old steps new
  Runs old (sent_out ∷ steps) new = Runs old steps new

-- ---- handlers that reply to lines

module _ {H : Type 0} (answers : H → Line → List Reply → Next → H → Type 0)
    (refuses : H → LineError → List Reply → Next → H → Type 0) where
  -- a handler gives one reply to each line, as `reply` says, and asks for the next line; it closes
  -- at an error
  abbrev pub IsReplier : (Line → Reply) → Type 0
  IsReplier reply = ((old : H) (input : Line) (replies : List Reply) (asked : Next) (new : H)
      → answers old input replies asked new → (replies ≡ reply input ∷ []) × (asked ≡ next.Line))
      × ((old : H) (error : LineError) (replies : List Reply) (asked : Next) (new : H)
      → refuses old error replies asked new → asked ≡ next.Close)
