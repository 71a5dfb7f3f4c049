-- The states before and after a run, from its outcome over lists.
use Rattle.std.proofs.Common.{◌≡◌, ◌≢◌, ℕ, List, [], ◌++◌, None, Some, Option, Result, Ok, Err}
use Rattle.std.proofs.Common.{ap, append-nil, subst, sym, ◌∙◌}
use Rattle.std.specs.Io.KnownBytes.{Appends, Consumes, IsAtEnd, Keeps}
use Rattle.ascii_run.specs.Bounded.{BoundedOutcome, CountsReads}
use Rattle.ascii_run.specs.Engine.{EngineOutcome}
use Rattle.ascii_run.specs.declared.bounded.BoundedMode.{BoundedMode}
use Rattle.ascii_run.specs.declared.faults.BoundedFault.{BoundedFault}
use Rattle.ascii_run.specs.declared.faults.BoundedFault.TheVariants as bounded
use Rattle.ascii_run.specs.declared.faults.EngineFault.{EngineFault}
use Rattle.ascii_run.specs.declared.faults.EngineFault.TheVariants.{NotAscii, Position, Memory}
use Rattle.ascii_run.specs.declared.faults.EngineFault.TheVariants.{Read, Write}
use Rattle.ascii_run.specs.declared.modes.Mode.{Mode}
use Rattle.tests_callers.specs.Engines.{BoundedStates, EngineStates, IoState}

-- no byte was taken
kept : (a b : Option (List ℕ)) (bytes : List ℕ) → Appends a b bytes → bytes ≡ [] → Keeps a b
kept None b bytes appends none = tt
kept (Some xs) None bytes appends none = absurd appends
kept (Some xs) (Some ys) bytes appends none =
    appends ∙ (ap (λ zs. xs ++ zs) none ∙ append-nil xs)

-- no byte was given
unread : (a b : Option (List ℕ)) (bytes : List ℕ) → Consumes a b bytes → bytes ≡ [] → Keeps a b
unread None b bytes gave none = tt
unread (Some xs) None bytes gave none = absurd gave
unread (Some xs) (Some ys) bytes gave none = sym (gave ∙ ap (λ zs. zs ++ ys) none)

module _ (old new : IoState) where
  -- a run of `engine`
  pub engine_states : (mode : Mode) (result : Result (Unit {0}) EngineFault)
      → (given took : List ℕ)
      × (result ≢ Err Read → Consumes old.remaining new.remaining given)
      × Appends old.taken new.taken took
      × EngineOutcome mode result given (IsAtEnd new.remaining) took
      → EngineStates mode result old new
  engine_states mode (Ok _) (given, took, gave, appends, (end, ascii, of_text)) = (
    given,
    took,
    record { gave = gave (λ is. cc); ended = end; ascii = ascii },
    of_text,
    appends,
  )
  engine_states mode (Err (NotAscii n)) (given, took, gave, appends, (end, other, none)) =
      (given, gave (λ is. cc), end, other, kept old.taken new.taken took appends none)
  engine_states mode (Err (Position k)) (given, took, gave, appends, (end, ascii, fault, none)) = (
    given,
    record { gave = gave (λ is. cc); ended = end; ascii = ascii },
    fault,
    kept old.taken new.taken took appends none,
  )
  engine_states mode (Err Memory) (given, took, gave, appends, none) =
      kept old.taken new.taken took appends none
  engine_states mode (Err Read) (given, took, gave, appends, none) =
      kept old.taken new.taken took appends none
  engine_states mode (Err Write) (given, took, gave, appends, (end, ascii, (others, of_text))) = (
    given,
    took,
    others,
    record { gave = gave (λ is. cc); ended = end; ascii = ascii },
    of_text,
    appends,
  )

  -- a run of `bounded_engine`
  pub bounded_states : (mode : BoundedMode) (result : Result (Unit {0}) BoundedFault)
      → (given took : List ℕ) × (left : Option (List ℕ))
      × (new.failures ≡ old.failures → new.remaining ≡ left)
      × Consumes old.remaining left given
      × Appends old.taken new.taken took
      × BoundedOutcome mode result given (IsAtEnd left) took
      → CountsReads mode result old.failures new.failures
      → BoundedStates mode result old new
  bounded_states mode (Ok _)
      (given, took, left, told, gave, appends, (end, input, of_text)) same = (
        given,
        took,
        subst (λ rest. Consumes old.remaining rest given) (sym (told same)) gave,
        subst IsAtEnd (sym (told same)) end,
        input,
        of_text,
        appends,
      )
  bounded_states mode (Err (bounded.NotAscii n))
      (given, took, left, told, gave, appends, (text, other, cut)) same = (
        given,
        took,
        subst (λ rest. Consumes old.remaining rest given) (sym (told same)) gave,
        text,
        other,
        cut,
        appends,
      )
  bounded_states mode (Err bounded.TooLong)
      (given, took, left, told, gave, appends, (text, cut, long)) same = (
        given,
        text,
        took,
        subst (λ rest. Consumes old.remaining rest given) (sym (told same)) gave,
        cut,
        long,
        appends,
      )
  bounded_states mode (Err bounded.Memory)
      (given, took, left, told, gave, appends, (none, nothing)) same = (
        unread old.remaining new.remaining given
            (subst (λ rest. Consumes old.remaining rest given) (sym (told same)) gave) none,
        kept old.taken new.taken took appends nothing,
      )
  bounded_states mode (Err bounded.Read) (given, took, left, told, gave, appends, cut) failed =
      (given, took, left, gave, cut, appends)
  bounded_states mode (Err bounded.Write)
      (given, took, left, told, gave, appends, (others, cases)) counts =
      (given, took, others, left, gave, told, appends, cases)
