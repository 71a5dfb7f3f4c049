-- What one command does: its answer, and the text after it.
use Rattle.std.specs.Prelude.{◌≡◌, ◌⊎◌, ℕ, ◌+◌, ◌-◌, ◌<◌, Bool, List, Option, IsSome, Some, None}
use Rattle.std.specs.Prelude.{bytes_eq, length, map, option_map, slice_get, slice_index}
use Rattle.std.specs.declared.result.Result.{Result}
use Rattle.std.specs.declared.result.Result.TheVariants.{Ok, Err}
use Rattle.std.specs.declared.alloc.AllocError.{AllocError}
use Rattle.ascii.specs.Case.{lower_image}
use Rattle.ascii.specs.Code.{code_of}
use Rattle.ascii.specs.Range.{end_of, part_of, start_of}
use Rattle.ascii.specs.StringState.{StringState}
use Rattle.ascii.specs.View.{position_of, text_of}
use Rattle.ascii_run.specs.declared.commands.Cmd.{Cmd}
use Rattle.ascii_run.specs.declared.commands.Cmd.TheVariants.{Push, PushStr, Insert, InsertStr}
use Rattle.ascii_run.specs.declared.commands.Cmd.TheVariants.{Remove, Pop, Reserve, Shrink, Len}
use Rattle.ascii_run.specs.declared.commands.Cmd.TheVariants.{First, Last, Get, Copy, EqIgnoreCase}
use Rattle.ascii_run.specs.declared.commands.Reply.{Reply}
use Rattle.ascii_run.specs.declared.commands.Reply.TheVariants as reply
use Rattle.ascii_run.specs.Edit.{edited}

-- what contracts see of a reply: its case, with codes and texts
pub data ReplyValue : Type 0 where
  done : ReplyValue
  a_char : Option ℕ → ReplyValue
  a_number : ℕ → ReplyValue
  a_truth : Bool → ReplyValue
  a_text : List ℕ → ReplyValue
  bad_position : ReplyValue
  refused : ℕ → ReplyValue
  no_memory : ReplyValue
  too_many : ReplyValue

-- the value of a reply: a character as its code, a string as its text, an error as its position
abbrev pub value_of_reply : {A : Type 0} → Reply A → ReplyValue
value_of_reply reply.Done = done
value_of_reply (reply.Char ch) = a_char (option_map code_of ch)
value_of_reply (reply.Number n) = a_number n
value_of_reply (reply.Truth b) = a_truth b
value_of_reply (reply.Text string) = a_text string.text
value_of_reply reply.BadPosition = bad_position
value_of_reply (reply.Refused e) = refused (position_of e)
value_of_reply reply.NoMemory = no_memory
value_of_reply reply.TooMany = too_many

-- the reply to a command over the text `t` that is not rejected
abbrev pub reply_of : List ℕ → Cmd → ReplyValue
reply_of t (Remove i) = a_char (Some (slice_index t i))
reply_of t Pop = a_char (slice_get t (length t - 1))
reply_of t Len = a_number (length t)
reply_of t First = a_char (slice_get t 0)
reply_of t Last = a_char (slice_get t (length t - 1))
reply_of t (Get i) = a_char (slice_get t i)
reply_of t (Copy r) = a_text (part_of t r)
reply_of t (EqIgnoreCase view) =
    a_truth (bytes_eq (map lower_image t) (map lower_image (text_of view)))
reply_of t other = done

-- the reply to a command over the text `t` that is rejected
abbrev pub rejection_of : List ℕ → Cmd → ReplyValue
rejection_of t (Copy r) = refused (length t)
rejection_of t (Reserve n) = too_many
rejection_of t other = bad_position

-- `n` more codes, at least one, make the text `t` longer than the sure length
abbrev pub GrowsPast : ℕ → List ℕ → ℕ → Type 0
GrowsPast sure t n = (0 < n) × (sure < length t + n)

-- a command that is not rejected may need an allocation over the text `t`, in a buffer that needs
-- none for texts up to the sure length: it grows the text or its room past that length, or copies at
-- least one character, or is `Shrink` in a buffer for which no length is sure
abbrev pub MayRunOut : ℕ → List ℕ → Cmd → Type 0
MayRunOut sure t (Push ch) = GrowsPast sure t 1
MayRunOut sure t (PushStr view) = GrowsPast sure t (length (text_of view))
MayRunOut sure t (Insert i ch) = GrowsPast sure t 1
MayRunOut sure t (InsertStr i view) = GrowsPast sure t (length (text_of view))
MayRunOut sure t (Reserve n) = GrowsPast sure t n
MayRunOut sure t Shrink = sure ≡ 0
MayRunOut sure t (Copy r) = start_of r < end_of r (length t)
MayRunOut sure t other = ⊥

-- the command is carried out: it leaves the text `t2`, and `r` is its reply; or it is rejected, which
-- `r` says, and the text is unchanged; or an allocation that it may need fails, which `r` says, and
-- the text is unchanged
abbrev pub Step : ℕ → List ℕ → Cmd → ReplyValue → List ℕ → Type 0
Step sure t cmd r t2 =
    ((edited t cmd ≡ Some t2) × (r ≡ reply_of t cmd))
    ⊎ (((edited t cmd ≡ None) × (r ≡ rejection_of t cmd) × (t2 ≡ t))
    ⊎ ((r ≡ no_memory) × IsSome (edited t cmd) × MayRunOut sure t cmd × (t2 ≡ t)))

-- ---- cited by private functions only

-- the value of the reply to a growth: `NoMemory` if the allocation failed
abbrev pub value_of_growth : Result (Unit {0}) AllocError → ReplyValue
value_of_growth (Ok x) = done
value_of_growth (Err e) = no_memory

-- the command may need an allocation in a buffer with this sure length and this state: for a growth
-- past the capacity, for a copy of at least one character, or for `Shrink`, if no length is sure
-- and there is room to give back
abbrev pub MayRunOutIn : ℕ → StringState → Cmd → Type 0
MayRunOutIn sure state Shrink = (sure ≡ 0) × (length state.text < state.capacity)
MayRunOutIn sure state cmd = MayRunOut state.capacity state.text cmd

-- `Step` from the text of the old state to the text of the new one, for a buffer for which no
-- length is sure
abbrev pub StepOf : {A : Type 0} → StringState → Cmd → Reply A → StringState → Type 0
StepOf old cmd reply new = Step 0 old.text cmd (value_of_reply reply) new.text

-- the reply is `NoMemory` only if `MayRunOutIn` holds of the old state
abbrev pub RunsOutIn : {A : Type 0} → ℕ → StringState → Cmd → Reply A → Type 0
RunsOutIn sure old cmd reply = value_of_reply reply ≡ no_memory → MayRunOutIn sure old cmd
