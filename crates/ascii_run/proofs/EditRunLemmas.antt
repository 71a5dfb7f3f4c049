-- What edits leave and where they stop, beside the plain run and beside a run whose memory may end.
use Rattle.std.proofs.Common.{◌≡◌, ◌∙◌, ℕ, zero, suc, ◌+◌, ◌∷◌, [], List, Ok, Err, All, ap, arith}
use Rattle.std.proofs.Common.{inl, inr, sym, take}
use Rattle.std.proofs.lemmas.List.Elements.{All-cons, All-head, All-nil, All-tail}
use Rattle.ascii.specs.First.{IsFirstAt}
use Rattle.ascii_run.specs.declared.commands.Cmd.{Cmd}
use Rattle.ascii_run.specs.declared.commands.Reply.{Reply}
use Rattle.ascii_run.specs.Edit.{edits}
use Rattle.ascii_run.specs.Run.{IsFault, IsNoFault, IsNotOutOfMemory, Run, after, answer}
use Rattle.ascii_run.specs.Run.{plain_replies, plain_text}
use Rattle.ascii_run.specs.Step.{value_of_reply}
use Rattle.ascii_run.proofs.EditLemmas.{edited_by, means, rejected_by}

-- ---- edits and the plain run

-- no plain reply is a fault, and `output` is the plain text
abbrev pub IsPlainText : List Cmd → List ℕ → List ℕ → Type 0
IsPlainText cmds t output =
    All IsNoFault (plain_replies t cmds) × (output ≡ plain_text t cmds)

-- the plain reply at the index `k` is the first that is a fault
abbrev pub IsPlainFault : List ℕ → List Cmd → ℕ → Type 0
IsPlainFault t cmds k = IsFirstAt IsNoFault IsFault (plain_replies t cmds) k

-- edits succeed where no plain reply is a fault, with the plain text
pub edits_ok : (k : ℕ) (t : List ℕ) (cmds : List Cmd) (output : List ℕ)
    → edits k t cmds ≡ Ok output → IsPlainText cmds t output
edits_ok k t [] output is = (All-nil IsNoFault, cc)
edits_ok k t (c ∷ cmds) output is = elim (means t c) [
  | inl (none, _) ↦ grind arith
  | inr (some, fine) ↦
      grind (arith, All-cons, edits_ok (k + 1) (after t c) cmds output (rw some at is))
]

-- and the other way round
pub ok_edits : (k : ℕ) (t : List ℕ) (cmds : List Cmd) (output : List ℕ)
    → IsPlainText cmds t output → edits k t cmds ≡ Ok output
ok_edits k t [] output (none, is) = ap Ok (sym is)
ok_edits k t (c ∷ cmds) output (none, is) = elim (means t c) [
  | inl (_, fault) ↦ grind (arith, All-head)
  | inr (some, _) ↦ rw some (ok_edits (k + 1) (after t c) cmds output
      (All-tail IsNoFault (answer t c) (plain_replies (after t c) cmds) none, is))
]

-- edits fail at the fault place
pub edits_err : (k : ℕ) (t : List ℕ) (cmds : List Cmd) (n : ℕ)
    → edits k t cmds ≡ Err n → (j : ℕ) × (n ≡ k + j) × IsPlainFault t cmds j
edits_err k t [] n is = absurd cc
edits_err k t (c ∷ cmds) n is = elim (means t c) [
  | inl (none, fault) ↦ grind (arith, All-nil)
  | inr (some, fine) ↦
      let later = edits_err (k + 1) (after t c) cmds n (rw some at is) in (
        suc later.0,
        omega (arith, later.1),
        grind (arith, All-cons),
      )
]

-- and the other way round
pub err_edits : (k : ℕ) (t : List ℕ) (cmds : List Cmd) (j : ℕ)
    → IsPlainFault t cmds j → edits k t cmds ≡ Err (k + j)
err_edits k t [] j place = absurd place.here
err_edits k t (c ∷ cmds) zero place = grind (arith, means)
err_edits k t (c ∷ cmds) (suc j) place =
    let replies = take j (plain_replies (after t c) cmds) in
    elim (means t c) [
      | inl (_, fault) ↦ absurd (All-head IsNoFault (answer t c) replies place.before fault)
      | inr (some, _) ↦
          let same : (k + 1) + j ≡ k + suc j = omega arith in
          rw some (err_edits (k + 1) (after t c) cmds j (record {
            here = place.here;
            before = All-tail IsNoFault (answer t c) replies place.before;
          }) ∙ ap Err same)
    ]

-- ---- edits and runs: the earlier of a rejection and a failed allocation decides

-- the reply rejects nothing, and no allocation failed
abbrev pub GoesOn : {A : Type 0} → Reply A → Type 0
GoesOn r = IsNoFault (value_of_reply r) × IsNotOutOfMemory r

-- edits leave what a run leaves in which every reply goes on
pub Run-edits : {A : Type 0} (sure k : ℕ) (t : List ℕ) (cmds : List Cmd) (replies : List (Reply A))
    (t2 : List ℕ)
    → Run sure t cmds replies t2 → All GoesOn replies → edits k t cmds ≡ Ok t2
Run-edits sure k t [] [] t2 run all = ap Ok (sym run)
Run-edits sure k t [] (r ∷ replies) t2 run all = absurd run
Run-edits sure k t (cmd ∷ cmds) [] t2 run all = absurd run
Run-edits sure k t (cmd ∷ cmds) (r ∷ replies) t2 run all =
    let here = All-head GoesOn r replies all in
    rw (edited_by sure t cmd (value_of_reply r) run.0 run.1 here.0 here.1)
    (Run-edits sure (k + 1) run.0 cmds replies t2 run.2 (All-tail GoesOn r replies all))

-- a reply that rejects its command, after replies that go on, is at the place where edits stop
pub Run-stops : {A : Type 0} (sure k : ℕ) (t : List ℕ) (cmds : List Cmd) (replies : List (Reply A))
    (t2 : List ℕ) (j : ℕ)
    → Run sure t cmds replies t2
    → IsFirstAt GoesOn (λ r. IsFault (value_of_reply r)) replies j
    → edits k t cmds ≡ Err (k + j)
Run-stops sure k t [] [] t2 j run first = absurd first.here
Run-stops sure k t [] (r ∷ replies) t2 j run first = absurd run
Run-stops sure k t (cmd ∷ cmds) [] t2 j run first = absurd run
Run-stops sure k t (cmd ∷ cmds) (r ∷ replies) t2 zero run first = grind (arith, rejected_by)
Run-stops sure k t (cmd ∷ cmds) (r ∷ replies) t2 (suc j) run first =
    let here = All-head GoesOn r (take j replies) first.before in
    let same : (k + 1) + j ≡ k + suc j = omega arith in
    rw (edited_by sure t cmd (value_of_reply r) run.0 run.1 here.0 here.1)
    (Run-stops sure (k + 1) run.0 cmds replies t2 j run.2
    (record { here = first.here; before = All-tail GoesOn r (take j replies) first.before })
    ∙ ap Err same)
