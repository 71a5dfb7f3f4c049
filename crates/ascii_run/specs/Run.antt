-- What a run of commands does: one reply for each command, in order, and the text at the end.
use Rattle.std.specs.Prelude.{◌≡◌, ◌≢◌, ⊤, ℕ, List, [], ◌∷◌, All, map, take, unwrap_or}
use Rattle.std.specs.Option.{option_map_or}
use Rattle.ascii.specs.StringState.{StringState}
use Rattle.ascii_run.specs.declared.commands.Cmd.{Cmd}
use Rattle.ascii_run.specs.declared.commands.Cmd.TheVariants.{Shrink}
use Rattle.ascii_run.specs.declared.commands.Reply.{Reply}
use Rattle.ascii_run.specs.declared.faults.EngineFault.{EngineFault}
use Rattle.ascii_run.specs.declared.faults.EngineFault.TheVariants.{Position, Memory}
use Rattle.ascii_run.specs.Edit.{edited}
use Rattle.ascii_run.specs.Step.{ReplyValue, Step, bad_position, no_memory, refused, rejection_of}
use Rattle.ascii_run.specs.Step.{reply_of, too_many, value_of_reply}

-- the commands, carried out in order from the text `t` by steps with the sure length `sure`, give
-- `replies`, one for each command, and leave the text `t2`
abbrev pub Run : {A : Type 0} → ℕ → List ℕ → List Cmd → List (Reply A) → List ℕ → Type 0
Run sure t [] [] t2 = t2 ≡ t
Run sure t [] (r ∷ replies) t2 = ⊥
Run sure t (cmd ∷ cmds) [] t2 = ⊥
Run sure t (cmd ∷ cmds) (r ∷ replies) t2 =
    (mid : List ℕ) × Step sure t cmd (value_of_reply r) mid × Run sure mid cmds replies t2

-- `Run` from the text of the old state to the text of the new one
abbrev pub RunOf : {A : Type 0} → ℕ → StringState → List Cmd → List (Reply A) → StringState → Type 0
RunOf sure old cmds replies new = Run sure old.text cmds replies new.text

-- the replies of a run, and the text that it leaves
pub record Outcome (A : Type 0) : Type 0 where
  pub replies : List (Reply A)
  pub text : List ℕ

-- an outcome, by its replies and its text
abbrev pub outcome : {A : Type 0} → List (Reply A) → List ℕ → Outcome A
outcome replies text = record { replies = replies; text = text }

-- the reply to a command over the text `t` if no allocation fails
abbrev pub answer : List ℕ → Cmd → ReplyValue
answer t cmd = option_map_or (λ mid. reply_of t cmd) (edited t cmd) (rejection_of t cmd)

-- the text after a command over the text `t` if no allocation fails: a rejected one leaves it
abbrev pub after : List ℕ → Cmd → List ℕ
after t cmd = unwrap_or (edited t cmd) t

-- the text after the commands if no allocation fails
abbrev pub plain_text : List ℕ → List Cmd → List ℕ
plain_text t [] = t
plain_text t (cmd ∷ cmds) = plain_text (after t cmd) cmds

-- the values of the replies to the commands if no allocation fails
abbrev pub plain_replies : List ℕ → List Cmd → List ReplyValue
plain_replies t [] = []
plain_replies t (cmd ∷ cmds) = answer t cmd ∷ plain_replies (after t cmd) cmds

-- the reply is not `NoMemory`
abbrev pub IsNotOutOfMemory : {A : Type 0} → Reply A → Type 0
IsNotOutOfMemory r = value_of_reply r ≢ no_memory

-- no reply is `NoMemory`
abbrev pub NeverOutOfMemory : {A : Type 0} → List (Reply A) → Type 0
NeverOutOfMemory replies = All IsNotOutOfMemory replies

-- `run` is the outcome of the commands over the text `t` if no allocation fails
abbrev pub IsPlainRun : {A : Type 0} → List ℕ → List Cmd → Outcome A → Type 0
IsPlainRun t cmds run =
    (map value_of_reply run.replies ≡ plain_replies t cmds) × (run.text ≡ plain_text t cmds)

-- `first` and `second` are outcomes of two runs of the commands from one text, `text`, each with a
-- sure length of its own
pub record AreRuns {A B : Type 0} (cmds : List Cmd) (first : Outcome A) (second : Outcome B) :
    Type 0 where
  pub text : List ℕ
  pub sure1 : ℕ
  pub sure2 : ℕ
  pub run1 : Run sure1 text cmds first.replies first.text
  pub run2 : Run sure2 text cmds second.replies second.text

-- the two outcomes agree: their replies have the same values up to the first `NoMemory` of either;
-- if neither has one, then all replies have the same values and the texts are equal
pub record Agree {A B : Type 0} (first : Outcome A) (second : Outcome B) : Type 0 where
  pub front : (k : ℕ)
      → NeverOutOfMemory (take k first.replies) → NeverOutOfMemory (take k second.replies)
      → map value_of_reply (take k first.replies) ≡ map value_of_reply (take k second.replies)
  pub replies : NeverOutOfMemory first.replies → NeverOutOfMemory second.replies
      → map value_of_reply first.replies ≡ map value_of_reply second.replies
  pub text : NeverOutOfMemory first.replies → NeverOutOfMemory second.replies
      → first.text ≡ second.text

-- no command is `Shrink`, which gives room back
abbrev pub NeverShrinks : List Cmd → Type 0
NeverShrinks cmds = All (λ cmd. cmd ≢ Shrink) cmds

-- ---- cited by private functions only

-- the reply rejects its command for a position, a range or a number
abbrev pub IsFault : ReplyValue → Type 0
IsFault bad_position = ⊤
IsFault (refused n) = ⊤
IsFault too_many = ⊤
IsFault other = ⊥

-- the reply does not reject its command for a position, a range or a number
abbrev pub IsNoFault : ReplyValue → Type 0
IsNoFault r = ¬ (IsFault r)

-- why edits stop at the command at index `k`, by the value `r` of its reply. `Position`: it holds
-- `k`, and the reply rejects the command. `Memory`: the reply is `NoMemory`.
abbrev pub StopsAt : ℕ → ReplyValue → EngineFault → Type 0
StopsAt k r (Position i) = (i ≡ k) × IsFault r
StopsAt k r Memory = r ≡ no_memory
StopsAt k r other = ⊥
