-- What a session does in a whole conversation.
use Rattle.std.specs.Prelude.{◌≡◌, ◌⊎◌, ℕ, List, [], ◌∷◌, map}
use Rattle.ascii.specs.Lines.{Line}
use Rattle.ascii_lines.specs.Replies.{Reply, line_reply}
use Rattle.ascii_lines.specs.declared.line_reader.LineError.{LineError}
use Rattle.ascii_lines.specs.declared.serving.Next.{Next}
use Rattle.ascii_lines.specs.declared.serving.Next.TheVariants as next
use Rattle.example_resp.specs.Commands.{error_line}
use Rattle.example_resp.specs.Requests.{Answers}
use Rattle.example_resp.specs.Session.{answer_of, state_of}
use Rattle.example_resp.specs.declared.commands.Rejection.{Rejection}
use Rattle.example_resp.specs.declared.commands.Rejection.TheVariants.{BadInput, NoMemory}
use Rattle.example_resp.specs.declared.session.Plan.{Plan}
use Rattle.example_resp.specs.declared.session.Session.{Session}

-- the session gives up: an allocation failed, or the input ends in a line
abbrev pub GivesUp : List (List ℕ) → Next → Type 0
GivesUp texts asked = (fault : Rejection) × ((fault ≡ NoMemory) ⊎ (fault ≡ BadInput))
    × (texts ≡ error_line fault ∷ []) × (asked ≡ next.Close)

-- what is planned for a line or a word: the answer of the session, or it gives up
abbrev pub Plans : Session → List ℕ → Plan → Session → Type 0
Plans old text plan new = Answers (state_of old) text (answer_of plan new)
    ⊎ GivesUp (answer_of plan new).replies plan.next

-- what a session answers, as the relation of a handler
abbrev pub session_answers : Session → Line → List Reply → Next → Session → Type 0
session_answers old input replies asked new = (texts : List (List ℕ))
    × (replies ≡ map line_reply texts)
    × (Answers (state_of old) input.body
    (record { replies = texts; next = asked; state = state_of new }) ⊎ GivesUp texts asked)

-- what it replies to an error of the input: one line, and it closes
abbrev pub session_refuses : Session → LineError → List Reply → Next → Session → Type 0
session_refuses old error replies asked new = (replies ≡ map line_reply (error_line BadInput ∷ []))
    × (asked ≡ next.Close) × (new ≡ old)
