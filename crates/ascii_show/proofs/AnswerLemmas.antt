-- What the engine answers to a mode that words ask for.
use Rattle.std.proofs.Common.{◌≡◌, ◌∙◌, ℕ, List, [], ◌++◌, append-nil, ap, sym, refl, subst, inl}
use Rattle.std.proofs.Common.{length, Some, None, Ok, Err}
use Rattle.std.specs.Prelude.{IfSome}
use Rattle.std.specs.Result.{IsErrAnd, result_err}
use Rattle.std.specs.declared.option.Option.{Option}
use Rattle.std.specs.declared.result.Result.{Result}
use Rattle.ascii.specs.Bytes.{FirstOther}
use Rattle.ascii_run.specs.Engine.{EngineOutcome}
use Rattle.ascii_run.specs.Modes.{IsOutput, fault_of}
use Rattle.ascii_run.proofs.OutputBufferLemmas.{Runs}
use Rattle.ascii_run.specs.declared.Sink as sink
use Rattle.ascii_run.specs.declared.Source as source
use Rattle.std.specs.Io.KnownBytes.{Appends, Consumes, IsAtEnd, Keeps}
use Rattle.ascii_run.specs.declared.faults.EngineFault.{EngineFault}
use Rattle.ascii_run.specs.declared.faults.EngineFault.TheVariants.{NotAscii, Position, Memory}
use Rattle.ascii_run.specs.declared.faults.EngineFault.TheVariants.{Read, Write}
use Rattle.ascii_run.specs.declared.modes.Mode.{Mode}
use Rattle.ascii_run.specs.declared.modes.Mode.TheVariants.{Edit}
use Rattle.ascii_show.specs.Answer.{HasFault, MayReturn, Writes}
use Rattle.ascii_show.specs.Call.{Requests}
use Rattle.ascii_show.specs.declared.failure.Failure.{Failure}
use Rattle.ascii_show.specs.declared.failure.Failure.TheVariants.{Engine}

-- a mode that has an output for a text rejects no command
no_fault : (mode : Mode) (text output : List ℕ) → IsOutput mode text output
    → fault_of mode text ≡ None
no_fault (Edit cmds) text output is = ap result_err is
no_fault other text output is = refl

-- what holds of all that was read holds of what is known
reads : (P : List ℕ → Type 0) (known left : Option (List ℕ)) (bytes : List ℕ)
    → Consumes known left bytes → IsAtEnd left → P bytes → IfSome known P
reads P None left bytes gave ended of = tt
reads P (Some xs) None bytes gave ended of = absurd gave
reads P (Some xs) (Some ys) bytes gave ended of =
    subst P (sym (gave ∙ (ap (λ zs. bytes ++ zs) ended ∙ append-nil bytes))) of

nothing : (known : Option (List ℕ)) → IfSome known (λ bytes. Unit {0})
nothing None = tt
nothing (Some bytes) = tt

-- a sink that took no byte
took_none : (old new : Option (List ℕ)) (bytes : List ℕ) → Appends old new bytes → bytes ≡ []
    → Keeps old new
took_none None new bytes took none = tt
took_none (Some xs) None bytes took none = absurd took
took_none (Some xs) (Some ys) bytes took none =
    took ∙ (ap (λ zs. xs ++ zs) none ∙ append-nil xs)

module _ {S K : Type 0} (source : source.Ghosts S) (sink : sink.Ghosts K) where
  -- a fault of the engine is one that the words and the input allow
  pub failed : (words : List (List ℕ)) (mode : Mode) (fault : EngineFault) (r t : S)
      (a b : K) → Requests words mode
      → Runs source sink (EngineOutcome mode (Err fault)) r t a b
      → MayReturn words (source.rest r) (Err (Engine fault))
  failed words mode (NotAscii n) r t a b asks (given, took, gives, takes, (end, other, none)) = (
    mode,
    asks,
    reads (λ bytes. FirstOther bytes 0 (length bytes) n) (source.rest r) gives.rest given gives.gave end
        other,
  )
  failed words mode (Position k) r t a b asks (given, took, gives, takes, (end, ascii, is, none)) =
      (mode, asks, reads (HasFault (Some k) mode) (source.rest r) gives.rest given gives.gave end (ascii, is))
  failed words mode Memory r t a b asks run = inl (mode, asks)
  failed words mode Read r t a b asks run = (mode, asks, nothing (source.rest r))
  failed words mode Write r t a b asks (given, took, gives, takes, (end, ascii, (others, of_text))) = (
    mode,
    asks,
    reads (HasFault None mode) (source.rest r) gives.rest given gives.gave end
        (ascii, no_fault mode given (took ++ others) of_text),
  )

  -- and so is its success
  pub done : (words : List (List ℕ)) (mode : Mode) (r t : S) (a b : K)
      → Requests words mode → Runs source sink (EngineOutcome mode (Ok tt)) r t a b
      → MayReturn words (source.rest r) (Ok tt)
  done words mode r t a b asks (given, took, gives, takes, (end, ascii, of_text)) = (
    mode,
    asks,
    reads (HasFault None mode) (source.rest r) gives.rest given gives.gave end
        (ascii, no_fault mode given took of_text),
  )

  -- what the output took on a fault of the engine
  pub wrote : (words : List (List ℕ)) (mode : Mode) (fault : EngineFault) (r t : S)
      (a b : K) → Requests words mode
      → Runs source sink (EngineOutcome mode (Err fault)) r t a b
      → Writes words (source.rest r) (Err (Engine fault)) (sink.taken a) (sink.taken b)
  wrote words mode (NotAscii n) r t a b asks (given, took, gives, takes, (end, other, none)) =
      took_none (sink.taken a) (sink.taken b) took takes.took none
  wrote words mode (Position k) r t a b asks (given, took, gives, takes, (end, ascii, is, none)) =
      took_none (sink.taken a) (sink.taken b) took takes.took none
  wrote words mode Memory r t a b asks (given, took, gives, takes, none) =
      took_none (sink.taken a) (sink.taken b) took takes.took none
  wrote words mode Read r t a b asks (given, took, gives, takes, none) =
      took_none (sink.taken a) (sink.taken b) took takes.took none
  wrote words mode Write r t a b asks (given, took, gives, takes, (end, ascii, (others, of_text))) = (
    took,
    others,
    (
      mode,
      asks,
      reads (λ bytes. IsOutput mode bytes (took ++ others)) (source.rest r) gives.rest given gives.gave end
          of_text,
    ),
    takes.took,
  )

  -- and on its success
  pub wrote_all : (words : List (List ℕ)) (mode : Mode) (r t : S) (a b : K)
      → Requests words mode → Runs source sink (EngineOutcome mode (Ok tt)) r t a b
      → Writes words (source.rest r) (Ok tt) (sink.taken a) (sink.taken b)
  wrote_all words mode r t a b asks (given, took, gives, takes, (end, ascii, of_text)) = (
    took,
    (
      mode,
      asks,
      reads (λ bytes. IsOutput mode bytes took) (source.rest r) gives.rest given gives.gave end of_text,
    ),
    takes.took,
  )

pub wrote_on : (words : List (List ℕ)) (known old new : Option (List ℕ)) (fault : EngineFault)
    (result : Result (Unit {0}) Failure)
    → IsErrAnd result (λ failure. failure ≡ Engine fault)
    → Writes words known (Err (Engine fault)) old new → Writes words known result old new
wrote_on words known old new fault (Ok _) is wrote = absurd is
wrote_on words known old new fault (Err failure) is wrote =
    subst (λ failure. Writes words known (Err failure) old new) (sym is) wrote

-- a failure passed on by `?`
pub handed_on : (words : List (List ℕ)) (known : Option (List ℕ)) (fault : EngineFault)
    (result : Result (Unit {0}) Failure)
    → IsErrAnd result (λ failure. failure ≡ Engine fault)
    → MayReturn words known (Err (Engine fault)) → MayReturn words known result
handed_on words known fault (Ok _) is may = absurd is
handed_on words known fault (Err failure) is may =
    subst (λ failure. MayReturn words known (Err failure)) (sym is) may
