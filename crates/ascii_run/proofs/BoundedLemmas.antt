-- What a bounded run has read and written, part by part.
use Rattle.std.proofs.Common.{◌≡◌, ◌+◌, ◌-◌, ◌<◌, ◌≤◌, ◌^◌, ℕ, List, [], ◌++◌, length, false, take}
use Rattle.std.proofs.Common.{drop, arith, length-take-le, ap, sym, subst, ◌∙◌, append-nil}
use Rattle.std.proofs.Common.{length-append, inl, inr, append_assoc, take-append-drop, take_all}
use Rattle.std.proofs.Math.Seq.{take-append-add}
use Rattle.std.proofs.lemmas.Bool.{cases_lt}
use Rattle.std.proofs.lemmas.List.{get_or-append-add, get_or_append_left, get_or-append_right}
use Rattle.std.proofs.lemmas.Str.{IsAscii-append}
use Rattle.std.proofs.lemmas.Str.Ascii.{IsAscii-nil}
use Rattle.std.specs.Prelude.{slice_index}
use Rattle.std.specs.Result.{IsErr, IsErrAnd}
use Rattle.std.specs.Str.{IsAscii}
use Rattle.std.specs.Io.KnownBytes.{IsAtEnd}
use Rattle.std.specs.declared.result.Result.{Result}
use Rattle.std.specs.declared.result.Result.TheVariants.{Ok, Err}
use Rattle.ascii.specs.Bytes.{FirstOther}
use Rattle.ascii_devices.proofs.HistoryLemmas.{Gives-nil, Takes-nil, Takes-trans}
use Rattle.ascii_devices.specs.States.{Gives, Takes}
use Rattle.ascii_devices.specs.declared.Sink as sink
use Rattle.ascii_devices.specs.declared.Source as source
use Rattle.ascii_run.specs.declared.bounded.BoundedMode.{BoundedMode}
use Rattle.ascii_run.specs.declared.faults.BoundedFault.{BoundedFault}
use Rattle.ascii_run.specs.declared.faults.BoundedFault.TheVariants.{NotAscii, TooLong, Memory}
use Rattle.ascii_run.specs.declared.faults.BoundedFault.TheVariants.{Read, Write}
use Rattle.ascii_run.specs.Bounded.{BoundedOutcome, CountsReads, IsCutAt}
use Rattle.ascii_run.specs.FrontOutput.{PassesOn, StopsWith, TakesFront}
use Rattle.ascii_run.specs.Reading.{GivesAll}
use Rattle.ascii_run.proofs.OutputBufferLemmas.{Runs}
use Rattle.ascii_run.specs.Streamed.{IsInput, IsWholeOutput, cut_off, front, last_after, stream}
use Rattle.ascii_run.specs.Streamed.{takes_all}
use Rattle.ascii_run.proofs.StreamedLemmas.{front_more, front_start, is_cut, is_whole, last_more}

-- ---- the output and the input of a mode

-- one part more of the front output, as the output was before it
pub part_more : (mode state : BoundedMode) (last : ℕ) (done part : List ℕ) → state ≡ mode
    → last ≡ last_after 10 done
    → front (stream mode) done ++ (stream state).part last part ≡ front (stream mode) (done ++ part)
part_more mode state last done part is at = grind (arith, front_more)

pub last_kept : (last before : ℕ) (done part : List ℕ) → last ≡ last_after before part
    → before ≡ last_after 10 done → last ≡ last_after 10 (done ++ part)
last_kept last before done part is at = grind (arith, before, last_more)

-- an input and more of it
IsInput-append : (mode : BoundedMode) (xs ys : List ℕ) → IsInput mode xs → IsInput mode ys
    → IsInput mode (xs ++ ys)
IsInput-append mode xs ys first second ascii = IsAscii-append xs ys (first ascii) (second ascii)

-- an input and what the mode takes at the front of a part after it
cut_at : (mode : BoundedMode) (done part : List ℕ) (n : ℕ) → IsInput mode done
    → IsInput mode (take n part)
    → IsCutAt mode (done ++ part) (done ++ take n part) (cut_off (stream mode) (done ++ take n part))
cut_at mode done part n input more = record {
  others = drop n part;
  front = grind (arith, append_assoc, take-append-drop);
  input = IsInput-append mode done (take n part) input more;
  output_of = is_cut mode (done ++ take n part);
}

-- all that was read is an input
cut_all : (mode : BoundedMode) (done : List ℕ) → IsInput mode done
    → IsCutAt mode done done (cut_off (stream mode) done)
cut_all mode done input = grind (arith, append-nil, is_cut)

-- the first non-ASCII byte after a text
pub first_after : (done part : List ℕ) (place : ℕ) → IsAscii done
    → FirstOther part 0 (length part) place
    → FirstOther (done ++ part) 0 (length (done ++ part)) (length done + place)
first_after done part place ascii first = grind (arith, length-append, get_or-append-add, least)
  where
    least : (k : ℕ) → 0 ≤ k → k < length done + place → slice_index (done ++ part) k < 128
    least k low high = elim (cases_lt k (length done)) [
      | inl before ↦ subst (λ c. c < 128) (sym (get_or_append_left done part 0 k before)) (ascii k)
      | inr behind ↦ grind (arith, get_or-append_right)
    ]

-- ---- over a source and a sink

module _ {S K : Type 0} (source : source.Ghosts S) (sink : sink.Ghosts K) where
  -- a bounded run with this result, by the bytes that the reader gave and those that the writer took
  abbrev pub BoundedRun : BoundedMode → Result (Unit {0}) BoundedFault → S → S → K → K → Type 0
  BoundedRun mode result = Runs source sink (BoundedOutcome mode result)

  -- ---- written

  -- one part was written, and a prefix of the next
  TakesFront-after : (a b c : K) (bytes more : List ℕ) → Takes sink a b bytes
      → TakesFront sink b c more → TakesFront sink a c (bytes ++ more)
  TakesFront-after a b c bytes more wrote (sent, others, took, is) = (
    bytes ++ sent,
    others,
    Takes-trans sink a b c bytes sent wrote took,
    append_assoc bytes sent others ∙ ap (λ xs. bytes ++ xs) is,
  )

  -- a prefix of the bytes is one of the bytes and more
  TakesFront-more : (a b : K) (bytes more : List ℕ) → TakesFront sink a b bytes
      → TakesFront sink a b (bytes ++ more)
  TakesFront-more a b bytes more (sent, others, took, is) =
      (sent, others ++ more, took, sym (append_assoc sent others more) ∙ ap (λ xs. xs ++ more) is)

  -- what an error of the output says
  pub prefix_written : (bytes : List ℕ) (a b : K) (fault : BoundedFault)
      → PassesOn sink bytes a b (Err fault) → TakesFront sink a b bytes
  prefix_written bytes a b fault passes = grind arith

  -- the opening was written
  pub opened : (mode state : BoundedMode) (a b : K) → state ≡ mode
      → Takes sink a b (stream state).opening → Takes sink a b (front (stream mode) [])
  opened mode state a b is = grind (arith, front_start)

  -- a part was written
  pub part_written : (mode state : BoundedMode) (last : ℕ) (a b c : K)
      (done part : List ℕ) → state ≡ mode → last ≡ last_after 10 done
      → Takes sink a b (front (stream mode) done) → Takes sink b c ((stream state).part last part)
      → Takes sink a c (front (stream mode) (done ++ part))
  part_written mode state last a b c done part is at wrote more =
      subst (Takes sink a c) (part_more mode state last done part is at)
      (Takes-trans sink a b c (front (stream mode) done) ((stream state).part last part) wrote more)

  -- ---- read

  -- a part of which all was taken
  pub whole_part : (r t : S) (done part : List ℕ) (n : ℕ) → length part ≤ n
      → Gives source r t (done ++ part) → Gives source r t (done ++ take n part)
  whole_part r t done part n long = grind (arith, take_all)

  -- ---- a write failed

  -- within what is written of the text if an error ends the input
  write_fails : (mode : BoundedMode) (r t : S) (a c : K) (given text : List ℕ)
      → Gives source r t given → IsCutAt mode given text (cut_off (stream mode) text)
      → TakesFront sink a c (cut_off (stream mode) text) → BoundedRun mode (Err Write) r t a c
  write_fails mode r t a c given text gives cut is = grind arith

  -- at the opening
  pub opening_fails : (mode state : BoundedMode) (r : S) (a b : K) → state ≡ mode
      → TakesFront sink a b (stream state).opening → BoundedRun mode (Err Write) r r a b
  opening_fails mode state r a b is wrote =
      write_fails mode r r a b [] [] (Gives-nil source r) (cut_all mode [] (λ ascii. IsAscii-nil))
      (grind (arith, TakesFront-more, front_start))

  -- at a part
  pub part_fails : (mode state : BoundedMode) (last : ℕ) (r t : S) (a b c : K)
      (done part : List ℕ) (n : ℕ) → state ≡ mode → last ≡ last_after 10 done
      → Gives source r t (done ++ part) → IsInput mode done → IsInput mode (take n part)
      → Takes sink a b (front (stream mode) done)
      → TakesFront sink b c ((stream state).part last (take n part))
      → BoundedRun mode (Err Write) r t a c
  part_fails mode state last r t a b c done part n is at gives input more wrote fails =
      let text = done ++ take n part in
      let m = stream mode in
      write_fails mode r t a c (done ++ part) text gives (cut_at mode done part n input more)
      (TakesFront-more a c (front m text) (m.cut (last_after 10 text))
      (subst (TakesFront sink a c) (part_more mode state last done (take n part) is at)
      (TakesFront-after a b c (front m done) ((stream state).part last (take n part)) wrote fails)))

  -- ---- an error ends the input

  -- what comes after the text was written, and the error stands; or writing it failed
  stopped : (mode state : BoundedMode) (last : ℕ) (r t : S) (a b c : K)
      (text : List ℕ) (fault result : BoundedFault) → state ≡ mode → last ≡ last_after 10 text
      → Takes sink a b (front (stream mode) text) → StopsWith sink fault ((stream state).cut last) b c result
      → (Takes sink a c (cut_off (stream mode) text) → BoundedRun mode (Err fault) r t a c)
      → (TakesFront sink a c (cut_off (stream mode) text) → BoundedRun mode (Err Write) r t a c)
      → BoundedRun mode (Err result) r t a c
  stopped mode state last r t a b c text fault result is at wrote stops stands fails =
      by_stop stops
    where
      before : List ℕ
      before = front (stream mode) text

      cut_is : before ++ (stream state).cut last ≡ cut_off (stream mode) text
      cut_is = grind (arith, before)

      by_stop : StopsWith sink fault ((stream state).cut last) b c result
          → BoundedRun mode (Err result) r t a c
      by_stop (inl (same, took, count)) =
          subst (λ e. BoundedRun mode (Err e) r t a c) (sym same)
          (grind (arith, cut_is, Takes-trans, before))
      by_stop (inr (same, some, took, count)) =
          subst (λ e. BoundedRun mode (Err e) r t a c) (sym same)
          (fails (subst (TakesFront sink a c) cut_is
          (TakesFront-after a b c before ((stream state).cut last) wrote took)))

  -- a read failed
  pub read_fails : (mode state : BoundedMode) (last : ℕ) (r t : S) (a b c : K)
      (done : List ℕ) (result : BoundedFault) → state ≡ mode → last ≡ last_after 10 done
      → Gives source r t done → IsInput mode done → Takes sink a b (front (stream mode) done)
      → StopsWith sink Read ((stream state).cut last) b c result → BoundedRun mode (Err result) r t a c
  read_fails mode state last r t a b c done result is at gives input wrote stops =
      let cut = cut_all mode done input in
      stopped mode state last r t a b c done Read result is at wrote stops
      (λ took. (done, cut_off (stream mode) done, gives, took, cut))
      (write_fails mode r t a c done done gives cut)

  -- how the reader's count of failures is then
  pub reads_counted : (mode state : BoundedMode) (last : ℕ) (a b : K) (old new : ℕ)
      (result : BoundedFault) → state ≡ mode → StopsWith sink Read ((stream state).cut last) a b result
      → new ≡ old + 1 → CountsReads mode (Err result) old new
  reads_counted mode state last a b old new result is given more = grind arith

  -- the text is too long
  pub too_long : (mode state : BoundedMode) (last : ℕ) (r t : S) (a b c : K)
      (done part : List ℕ) (position n : ℕ) (result : BoundedFault) → state ≡ mode
      → last ≡ last_after 10 (done ++ take n part) → length done ≡ position → n ≤ length part
      → ¬ (position + n < 2 ^ 64) → Gives source r t (done ++ part) → IsInput mode done
      → IsInput mode (take n part) → Takes sink a b (front (stream mode) (done ++ take n part))
      → StopsWith sink TooLong ((stream state).cut last) b c result → BoundedRun mode (Err result) r t a c
  too_long mode state last r t a b c done part position n result is at long within far gives input
      more wrote stops =
      let text = done ++ take n part in
      let cut = cut_at mode done part n input more in
      let enough : 2 ^ 64 ≤ length text = grind (arith, length-append, length-take-le) in
      stopped mode state last r t a b c text TooLong result is at wrote stops
      (λ took. (done ++ part, cut_off (stream mode) text, gives, took, (text, cut, enough)))
      (write_fails mode r t a c (done ++ part) text gives cut)

  -- the bytes before it went out
  pub stops_there : (mode state : BoundedMode) (last : ℕ) (r t : S) (a b c : K)
      (done part : List ℕ) (position n next : ℕ) (result : BoundedFault) → state ≡ mode
      → last ≡ last_after 10 (done ++ take n part) → length done ≡ position → next ≡ position + n
      → Gives source r t (done ++ part) → IsInput mode done → IsInput mode (take n part)
      → (takes_all mode ≡ false) × FirstOther part 0 (length part) n
      → Takes sink a b (front (stream mode) (done ++ take n part))
      → StopsWith sink (NotAscii next) ((stream state).cut last) b c result
      → BoundedRun mode (Err result) r t a c
  stops_there mode state last r t a b c done part position n next result is at long sum gives input
      more (only, other) wrote stops =
      let bytes = done ++ part in
      let text = done ++ take n part in
      let output = cut_off (stream mode) text in
      let place : next ≡ length done + n = sum ∙ ap (λ k. k + n) (sym long) in
      let front_is : take next bytes ≡ text = grind (arith, take-append-add) in
      stopped mode state last r t a b c text (NotAscii next) result is at wrote stops
      (grind (arith, output, first_after done part n (input only) other, is_cut mode text))
      (write_fails mode r t a c bytes text gives (cut_at mode done part n input more))

  -- ---- at the end of the input

  pub closes : (mode state : BoundedMode) (last : ℕ) (r t : S) (a b c : K)
      (done buf : List ℕ) (n : ℕ) (result : Result (Unit {0}) BoundedFault) → n ≡ 0 → state ≡ mode
      → last ≡ last_after 10 done → (gave : Gives source r t (done ++ take n buf)) → IsAtEnd gave.rest
      → IsInput mode done → Takes sink a b (front (stream mode) done)
      → PassesOn sink ((stream state).closing last) b c result → BoundedRun mode result r t a c
  closes mode state last r t a b c done buf n result none is at gave end input wrote passes =
      by_result result passes
    where
      before : List ℕ
      before = front (stream mode) done

      output : List ℕ
      output = before ++ (stream mode).closing (last_after 10 done)

      ends : before ++ (stream state).closing last ≡ output
      ends = grind (arith, before)

      all : GivesAll source r t done
      all = subst (GivesAll source r t) (ap (λ k. done ++ take k buf) none ∙ append-nil done) (gave, end)

      by_result : (result : Result (Unit {0}) BoundedFault)
          → PassesOn sink ((stream state).closing last) b c result → BoundedRun mode result r t a c
      by_result (Ok _) passes = (
        done,
        output,
        all.0,
        subst (Takes sink a c) ends
            (Takes-trans sink a b c before ((stream state).closing last) wrote passes.0),
        (all.1, input, is_whole mode done),
      )
      by_result (Err Write) passes =
          let (sent, others, took, whole) =
          subst (TakesFront sink a c) ends
          (TakesFront-after a b c before ((stream state).closing last) wrote passes.0) in (
            done,
            sent,
            all.0,
            took,
            (
              others,
              inr (all.1, input, subst (IsWholeOutput mode done) (sym whole) (is_whole mode done)),
            ),
          )
      by_result result passes = grind arith

  -- ---- an allocation failed before the first read

  pub no_run : (mode : BoundedMode) (r : S) (a : K)
      (result : Result (Unit {0}) BoundedFault)
      → IsErr result × IsErrAnd result (λ fault. fault ≡ Memory) → BoundedRun mode result r r a a
  no_run mode r a result fails = grind (arith, Gives-nil source r, Takes-nil sink a)
