-- Edits, one command after another.
use Rattle.std.proofs.Common.{◌≡◌, ◌≢◌, ◌∙◌, ◌⊎◌, ℕ, ◌+◌, List, [], ◌∷◌, ◌++◌, Some, None, Ok, Err}
use Rattle.std.proofs.Common.{ap, arith, length}
use Rattle.std.specs.Option.{option_map_or}
use Rattle.ascii_run.specs.declared.commands.Cmd.{Cmd}
use Rattle.ascii_run.specs.declared.faults.EngineFault.{EngineFault}
use Rattle.ascii_run.specs.Edit.{StopsEdits, edited, edits}
use Rattle.ascii_run.specs.Run.{IsFault, IsNoFault, StopsAt, after, answer}
use Rattle.ascii_run.specs.Step.{ReplyValue, Step, no_memory, rejection_of}

-- a command is rejected, and its reply says so; or it leaves the text after it, and its reply is
-- another
abbrev pub Means : List ℕ → Cmd → Type 0
Means t cmd = ((edited t cmd ≡ None) × IsFault (answer t cmd))
    ⊎ ((edited t cmd ≡ Some (after t cmd)) × IsNoFault (answer t cmd))

-- and that of one that is does
rejecting_reply : (t : List ℕ) (cmd : Cmd) → IsFault (rejection_of t cmd)
rejecting_reply t cmd = grind arith

pub means : (t : List ℕ) (cmd : Cmd) → Means t cmd
means t cmd = grind (arith, rejecting_reply)

-- what a step that is not rejected and finds its memory leaves
pub edited_by : (sure : ℕ) (t : List ℕ) (cmd : Cmd) (r : ReplyValue) (t2 : List ℕ)
    → Step sure t cmd r t2 → IsNoFault r → r ≢ no_memory → edited t cmd ≡ Some t2
edited_by sure t cmd r t2 is fine some = grind (arith, rejecting_reply)

-- a step with a rejecting reply
pub rejected_by : (sure : ℕ) (t : List ℕ) (cmd : Cmd) (r : ReplyValue) (t2 : List ℕ)
    → Step sure t cmd r t2 → IsFault r → edited t cmd ≡ None
rejected_by sure t cmd r t2 is fault = grind arith

-- one command more
pub edits_more : (k : ℕ) (t : List ℕ) (cmds : List Cmd) (cmd : Cmd) (mid t2 : List ℕ)
    → edits k t cmds ≡ Ok mid → edited mid cmd ≡ Some t2
    → edits k t (cmds ++ cmd ∷ []) ≡ Ok t2
edits_more k t [] cmd mid t2 so_far is = grind arith
edits_more k t (c ∷ cmds) cmd mid t2 so_far is =
    elim (edited t c) as (λ o. option_map_or (λ m. edits (k + 1) m cmds) o (Err k) ≡ Ok mid
    → option_map_or (λ m. edits (k + 1) m (cmds ++ cmd ∷ [])) o (Err k) ≡ Ok t2) [
      | None ↦ λ none. absurd cc
      | Some m ↦ λ some. edits_more (k + 1) m cmds cmd mid t2 some is
    ] so_far

-- a command that is rejected after others that are not
pub edits_reject : (k : ℕ) (t : List ℕ) (front others : List Cmd) (cmd : Cmd) (mid : List ℕ)
    → edits k t front ≡ Ok mid → edited mid cmd ≡ None
    → edits k t (front ++ cmd ∷ others) ≡ Err (k + length front)
edits_reject k t [] others cmd mid so_far is = grind arith
edits_reject k t (c ∷ front) others cmd mid so_far is =
    let same : (k + 1) + length front ≡ k + length (c ∷ front) = omega arith in
    elim (edited t c) as (λ o. option_map_or (λ m. edits (k + 1) m front) o (Err k) ≡ Ok mid
    → option_map_or (λ m. edits (k + 1) m (front ++ cmd ∷ others)) o (Err k)
    ≡ Err (k + length (c ∷ front))) [
      | None ↦ λ none. absurd cc
      | Some m ↦ λ some.
          edits_reject (k + 1) m front others cmd mid some is ∙ ap Err same
    ] so_far

-- why edits stop at a command
pub edits_stop : (t : List ℕ) (cmds front others : List Cmd) (k : ℕ) (cmd : Cmd) (mid : List ℕ)
    (r : ReplyValue) (t2 : List ℕ) (fault : EngineFault)
    → cmds ≡ front ++ cmd ∷ others → length front ≡ k → edits 0 t front ≡ Ok mid
    → Step 0 mid cmd r t2 → StopsAt k r fault → StopsEdits t cmds fault
edits_stop t cmds front others k cmd mid r t2 fault is count so_far step stops =
    grind (arith, edits_reject, rejected_by)
