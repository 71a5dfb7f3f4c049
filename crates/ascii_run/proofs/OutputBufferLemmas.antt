-- What was appended to an output, item by item, and what the writer took of it in the end.
use Rattle.std.proofs.Common.{◌≡◌, ◌⊎◌, ℕ, List, [], ◌∷◌, ◌++◌, map, arith, append-nil, length}
use Rattle.std.proofs.Common.{refl, subst, sym}
use Rattle.std.proofs.lemmas.Grind.{flat_map-append}
use Rattle.std.proofs.lemmas.List.{map-append}
use Rattle.std.specs.List.{flat_map}
use Rattle.std.specs.Result.{IsErrAnd, OnErr}
use Rattle.std.specs.Io.KnownBytes.{IsAtEnd}
use Rattle.std.specs.Str.{IsAscii}
use Rattle.ascii.specs.Bytes.{FirstOther}
use Rattle.std.specs.declared.result.Result.{Result}
use Rattle.std.specs.declared.result.Result.TheVariants.{Ok, Err}
use Rattle.ascii_devices.specs.declared.DeviceFault.{DeviceFault}
use Rattle.ascii_devices.specs.Buffered.{AppendsBytes, BufferState, FinishOutcome, IsReady, MayFail}
use Rattle.ascii_devices.specs.Buffered.{OutputState, output_state}
use Rattle.ascii_devices.specs.States.{Gives, Takes}
use Rattle.ascii_devices.specs.declared.Sink as sink
use Rattle.ascii_devices.specs.declared.Source as source
use Rattle.ascii_devices.proofs.HistoryLemmas.{Takes-nil}
use Rattle.ascii_devices.proofs.BufferedLemmas.{AppendsBytes-is, AppendsBytes-trans, MayFail-still}
use Rattle.ascii_run.specs.declared.faults.EngineFault.{EngineFault}
use Rattle.ascii_run.specs.declared.faults.EngineFault.TheVariants.{NotAscii, Position, Memory}
use Rattle.ascii_run.specs.declared.faults.EngineFault.TheVariants.{Read, Write}
use Rattle.ascii_run.specs.declared.modes.Mode.{Mode}
use Rattle.ascii_run.specs.Engine.{EngineOutcome, WritesOutput}
use Rattle.ascii_run.specs.Reading.{GivesAll}
use Rattle.ascii_run.proofs.FrontOutputLemmas.{passed_on}
use Rattle.ascii_run.specs.OutputState.{AppendsOutputTo}
use Rattle.ascii_run.specs.Modes.{IsOutput}

-- one more item was shown
pub shows_one_more : {X A : Type 0} (shown : A → List ℕ) (view : X → A) (items : List X) (item : X)
    {a b c : OutputState} → MayFail b × AppendsBytes a b (flat_map shown (map view items))
    → AppendsBytes b c (shown (view item))
    → MayFail c × AppendsBytes a c (flat_map shown (map view (items ++ item ∷ [])))
shows_one_more shown view items item so_far appends =
    let before = flat_map shown (map view items) in
    let more : before ++ shown (view item) ≡ flat_map shown (map view (items ++ item ∷ [])) =
    grind (arith, map-append, flat_map-append, append-nil) in (
      MayFail-still (shown (view item)) so_far.0 appends,
      AppendsBytes-is more (AppendsBytes-trans before (shown (view item)) so_far.1 appends),
    )

-- what the engine says of the outcome of `finish`
abbrev pub as_fault : Result (Unit {0}) DeviceFault → Result (Unit {0}) EngineFault
as_fault (Ok done) = Ok done
as_fault (Err _) = Err Write

-- all bytes that were appended, and what the writer took of them in the end
pub writes_output : {K : Type 0} (says : sink.Ghosts K) (mode : Mode) (text : List ℕ)
    (start mid now : K) (empty held left : BufferState) (result : Result (Unit {0}) DeviceFault)
    → IsReady empty → AppendsOutputTo mode text says start empty mid held
    → FinishOutcome held.is_broken (output_state says mid held) (output_state says now left) result
    → WritesOutput says mode text (as_fault result) start now
writes_output says mode text start mid now empty held left (Ok done) ready
    (output, of_text, appends) ends =
    grind (arith, passed_on says start mid now empty held left output (Ok done) ready appends ends)
writes_output says mode text start mid now empty held left (Err fault) ready
    (output, of_text, appends) ends =
    let (sent, others, takes, is) =
    (passed_on says start mid now empty held left output (Err fault) ready appends ends).0 in
    (sent, others, subst (IsOutput mode text) (sym is) of_text, takes)

-- ---- the whole run

-- a run with this outcome, by the bytes that the reader gave and those that the writer took
abbrev pub Runs : {S K : Type 0} → source.Ghosts S → sink.Ghosts K
    → (List ℕ → Type 0 → List ℕ → Type 0) → S → S → K → K → Type 0
Runs source sink Outcome r t a b = (given took : List ℕ) × (gives : Gives source r t given)
    × Takes sink a b took × Outcome given (IsAtEnd gives.rest) took

module _ {S K : Type 0} (source : source.Ghosts S) (sink : sink.Ghosts K) (mode : Mode)
    (r t : S) (a : K) where
  -- reading failed
  pub not_read : (fault : EngineFault) → (fault ≡ Memory) ⊎ (fault ≡ Read)
      → (bytes : List ℕ) × Gives source r t bytes
      → Runs source sink (EngineOutcome mode (Err fault)) r t a a
  not_read fault is given = grind (arith, Takes-nil sink a)

  -- a byte that is not ASCII
  pub not_ascii : (text : List ℕ) (n : ℕ) → GivesAll source r t text
      → FirstOther text 0 (length text) n
      → Runs source sink (EngineOutcome mode (Err (NotAscii n))) r t a a
  not_ascii text n (gives, end) other = (text, [], gives, Takes-nil sink a, (end, other, refl))

  -- an error that is passed on by `?`
  pub stays : (fault : EngineFault) (result : Result (Unit {0}) EngineFault)
      → IsErrAnd result (λ e. e ≡ fault)
      → Runs source sink (EngineOutcome mode (Err fault)) r t a a
      → Runs source sink (EngineOutcome mode result) r t a a
  stays fault (Ok _) is run = absurd is
  stays fault (Err e) is run =
      subst (λ e. Runs source sink (EngineOutcome mode (Err e)) r t a a) (sym is) run

  -- all was read, and it is a text
  pub ran : (b : K) (text : List ℕ) (result : Result (Unit {0}) EngineFault)
      → GivesAll source r t text → IsAscii text → WritesOutput sink mode text result a b
      → Runs source sink (EngineOutcome mode result) r t a b
  ran b text (Ok _) (gives, end) ascii (output, of_text, takes) =
      (text, output, gives, takes, (end, ascii, of_text))
  ran b text (Err (Position k)) (gives, end) ascii (fault, takes) =
      (text, [], gives, takes, (end, ascii, fault, refl))
  ran b text (Err Memory) (gives, end) ascii takes = (text, [], gives, takes, refl)
  ran b text (Err Write) (gives, end) ascii (sent, others, of_text, takes) =
      (text, sent, gives, takes, (end, ascii, (others, of_text)))
  ran b text (Err (NotAscii n)) all ascii writes = absurd writes
  ran b text (Err Read) all ascii writes = absurd writes

pub on_error : {T E : Type 0} (result : Result T E) {P : Type 0} → P → OnErr result P
on_error result holds = grind arith
