-- Runs of commands, one step after another.
use Rattle.std.proofs.Common.{◌≡◌, ◌≢◌, ℕ, ◌≤◌, zero, suc, List, [], ◌∷◌, ◌++◌, ◌∙◌, map, refl, sym}
use Rattle.std.proofs.Common.{take, arith}
use Rattle.std.proofs.lemmas.List.Elements.{All-head, All-tail}
use Rattle.ascii.specs.StringState.{StringState}
use Rattle.ascii_run.specs.declared.commands.Cmd.{Cmd}
use Rattle.ascii_run.specs.declared.commands.Cmd.TheVariants.{Shrink}
use Rattle.ascii_run.specs.declared.commands.Reply.{Reply}
use Rattle.ascii_run.specs.Step.{MayRunOutIn, MayRunOut, ReplyValue, Step, no_memory}
use Rattle.ascii_run.specs.Step.{value_of_reply}
use Rattle.ascii_run.specs.Run.{Agree, AreRuns, IsPlainRun, IsNotOutOfMemory, Outcome, Run}
use Rattle.ascii_run.specs.Run.{NeverOutOfMemory, after, answer, outcome, plain_replies}

-- a run goes on by one step
pub run_more : {A : Type 0} (sure : ℕ) (t : List ℕ) (cmds : List Cmd) (replies : List (Reply A))
    (mid : List ℕ) (cmd : Cmd) (r : Reply A) (t2 : List ℕ)
    → Run sure t cmds replies mid → Step sure mid cmd (value_of_reply r) t2
    → Run sure t (cmds ++ cmd ∷ []) (replies ++ r ∷ []) t2
run_more {A} sure t [] [] mid cmd r t2 h s = grind arith
run_more {A} sure t [] (q ∷ replies) mid cmd r t2 h s = absurd h
run_more {A} sure t (c ∷ cmds) [] mid cmd r t2 h s = absurd h
run_more {A} sure t (c ∷ cmds) (q ∷ replies) mid cmd r t2 h s =
    (h.0, h.1, run_more sure h.0 cmds replies mid cmd r t2 h.2 s)

-- a step whose allocation does not fail replies and edits
pub step_plain : (sure : ℕ) (t : List ℕ) (cmd : Cmd) (r : ReplyValue) (t2 : List ℕ)
    → Step sure t cmd r t2 → r ≢ no_memory → (r ≡ answer t cmd) × (t2 ≡ after t cmd)
step_plain sure t cmd r t2 is some = grind arith

-- a run in which no allocation fails is the plain run
pub run_plain : {A : Type 0} (sure : ℕ) (t : List ℕ) (cmds : List Cmd) (replies : List (Reply A))
    (t2 : List ℕ)
    → Run sure t cmds replies t2 → NeverOutOfMemory replies
    → IsPlainRun t cmds (outcome replies t2)
run_plain {A} sure t [] [] t2 h some = (refl, h)
run_plain {A} sure t [] (r ∷ replies) t2 h some = absurd h
run_plain {A} sure t (cmd ∷ cmds) [] t2 h some = absurd h
run_plain {A} sure t (cmd ∷ cmds) (r ∷ replies) t2 h some =
    let step = step_plain sure t cmd (value_of_reply r) h.0 h.1
    (All-head IsNotOutOfMemory r replies some) in
    let rest = run_plain sure h.0 cmds replies t2 h.2 (All-tail IsNotOutOfMemory r replies some)
    in grind arith

-- up to the first allocation failure the replies of a run are those of the plain run
pub run_front : {A : Type 0} (sure : ℕ) (t : List ℕ) (cmds : List Cmd) (replies : List (Reply A))
    (t2 : List ℕ) (k : ℕ)
    → Run sure t cmds replies t2 → NeverOutOfMemory (take k replies)
    → map value_of_reply (take k replies) ≡ take k (plain_replies t cmds)
run_front {A} sure t cmds replies t2 zero h some = refl
run_front {A} sure t [] [] t2 (suc k) h some = refl
run_front {A} sure t [] (r ∷ replies) t2 (suc k) h some = absurd h
run_front {A} sure t (cmd ∷ cmds) [] t2 (suc k) h some = absurd h
run_front {A} sure t (cmd ∷ cmds) (r ∷ replies) t2 (suc k) h some =
    let step = step_plain sure t cmd (value_of_reply r) h.0 h.1
    (All-head IsNotOutOfMemory r (take k replies) some) in
    let rest = run_front sure h.0 cmds replies t2 k h.2
    (All-tail IsNotOutOfMemory r (take k replies) some) in
    rw (step.0, rest, step.1) refl

-- two runs of the same commands from the same text agree
pub runs_agree : {A B : Type 0} (cmds : List Cmd) (first : Outcome A) (second : Outcome B)
    → AreRuns cmds first second → Agree first second
runs_agree {A} {B} cmds first second runs =
    let plain1 = run_plain _ _ cmds _ _ runs.run1 in
    let plain2 = run_plain _ _ cmds _ _ runs.run2 in
    record {
      front = λ k none1 none2.
          run_front _ _ cmds _ _ k runs.run1 none1 ∙ sym (run_front _ _ cmds _ _ k runs.run2 none2);
      replies = λ none1 none2. (plain1 none1).0 ∙ sym ((plain2 none2).0);
      text = λ none1 none2. (plain1 none1).1 ∙ sym ((plain2 none2).1);
    }

-- where room is missing for a command that gives none back, the capacity is a sure length
lacks_room : (sure : ℕ) (held : StringState) (cmd : Cmd) → cmd ≢ Shrink
    → MayRunOutIn sure held cmd → MayRunOut held.capacity held.text cmd
lacks_room sure held cmd ne h = grind arith

-- if room is missing, an allocation may fail past the sure length
lacks_may_refuse : (sure : ℕ) (held : StringState) (cmd : Cmd) → sure ≤ held.capacity
    → MayRunOutIn sure held cmd → MayRunOut sure held.text cmd
lacks_may_refuse sure held cmd le h = grind arith

module _ (held : StringState) (cmd : Cmd) (r : ReplyValue) (t2 : List ℕ)
    (step : Step 0 held.text cmd r t2) (sure : ℕ)
    (lacks : r ≡ no_memory → MayRunOutIn sure held cmd) where
  -- a step runs out of memory only past the sure length
  pub step_sure : sure ≤ held.capacity → Step sure held.text cmd r t2
  step_sure le = grind (arith, lacks_may_refuse)

  -- up to the capacity every length is sure
  pub step_within : (start : ℕ) → start ≤ held.capacity → cmd ≢ Shrink
      → Step start held.text cmd r t2
  step_within start le ne = grind (arith, lacks_room)
