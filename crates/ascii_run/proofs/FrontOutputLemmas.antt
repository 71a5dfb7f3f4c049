-- What a sink took of the bytes that were appended to an empty buffer before it, once the buffer was
-- written and the sink flushed.
use Rattle.std.proofs.Common.{◌≡◌, List, [], ◌++◌, ℕ, Bool, true, false, ap, subst, ◌∙◌, arith}
use Rattle.std.proofs.Common.{◌+◌, append_assoc}
use Rattle.std.specs.declared.result.Result.{Result}
use Rattle.std.specs.declared.result.Result.TheVariants.{Ok, Err}
use Rattle.ascii_devices.proofs.HistoryLemmas.{Takes-flushed, Takes-kept, Takes-sent, Takes-trans}
use Rattle.ascii_devices.specs.Buffered.{AppendsBy, AppendsTo, BufferState, FinishOutcome, IsReady}
use Rattle.ascii_devices.specs.Buffered.{output_state}
use Rattle.ascii_devices.specs.States.{Takes}
use Rattle.ascii_devices.specs.declared.Sink.{Ghosts}
use Rattle.ascii_devices.specs.declared.DeviceFault.{DeviceFault}
use Rattle.ascii_run.specs.FrontOutput.{Passes}

module _ {K : Type 0} (says : Ghosts K) (start mid now : K) (empty held left : BufferState)
    (bytes : List ℕ) (none : empty.bytes ≡ []) where
  all_of : (sent more : List ℕ) → sent ++ more ≡ empty.bytes ++ bytes → sent ++ more ≡ bytes
  all_of sent more is = is ∙ ap (λ front. front ++ bytes) none

  passed_by : (q : Bool) (result : Result (Unit {0}) DeviceFault)
      → AppendsBy false q (output_state says start empty) (output_state says mid held) bytes
      → FinishOutcome q (output_state says mid held) (output_state says now left) result
      → Passes says bytes start now result
  passed_by false (Ok _) (sent, sends, is, same) ((took, grows), count) = (
    subst (Takes says start now) (all_of sent held.bytes is)
        (Takes-trans says start mid now sent held.bytes
        (Takes-sent says start mid sent sends.0 sends.1)
        (Takes-flushed says mid now held.bytes took grows)),
    count ∙ same,
  )
  passed_by false (Err _) (sent, sends, is, same) ((more, others, sends_more, rest_is), count) = (
    (
      sent ++ more,
      others,
      Takes-trans says start mid now sent more (Takes-sent says start mid sent sends.0 sends.1)
          (Takes-sent says mid now more sends_more.0 sends_more.1),
      grind (arith, append_assoc, all_of),
    ),
    count ∙ ap (λ n. n + 1) same,
  )
  passed_by true result appends ends = grind (arith, Takes-kept, Takes-sent, all_of)

-- all bytes that were appended, or a prefix of them
pub passed_on : {K : Type 0} (says : Ghosts K) (start mid now : K) (empty held left : BufferState)
    (bytes : List ℕ) (result : Result (Unit {0}) DeviceFault) → IsReady empty
    → AppendsTo says start empty mid held bytes
    → FinishOutcome held.is_broken (output_state says mid held) (output_state says now left) result
    → Passes says bytes start now result
passed_on says start mid now empty held left bytes result ready appends ends =
    grind (arith, passed_by)
