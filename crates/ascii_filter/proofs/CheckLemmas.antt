-- The non-ASCII bytes of an input, as a scanner finds one after another.
use Rattle.std.proofs.Common.{◌≡◌, ◌+◌, ◌-◌, ◌^◌, ◌<◌, ◌≤◌, ℕ, List, [], ◌∷◌, ◌++◌, length}
use Rattle.std.proofs.Common.{arith, ap, sym, subst, refl, ◌∙◌, append_assoc, append-nil, inl, inr}
use Rattle.std.proofs.Common.{Bool, true, false, None, length-append, if◌then◌else◌}
use Rattle.std.proofs.Common.{nat_lt}
use Rattle.std.proofs.lemmas.Grind.{flat_map-append}
use Rattle.std.proofs.lemmas.Bool.{false≢true, le-ltb, lt-ltb}
use Rattle.std.proofs.lemmas.List.Elements.{All-head, All-tail}
use Rattle.std.proofs.lemmas.Str.Ascii.{All-from_ascii}
use Rattle.std.specs.Io.KnownBytes.{IsAtEnd}
use Rattle.std.specs.List.{All, flat_map}
use Rattle.std.specs.Str.{IsAscii}
use Rattle.std.specs.declared.result.Result.{Result}
use Rattle.std.specs.declared.result.Result.TheVariants.{Ok, Err}
use Rattle.ascii_devices.proofs.HistoryLemmas.{Gives-nil, Takes-nil}
use Rattle.ascii_devices.specs.Buffered.{AppendsBy, AppendsBytes, AppendsTo, BufferState}
use Rattle.ascii_devices.specs.Buffered.{FinishOutcome, IsReady, OutputState, output_state}
use Rattle.ascii_devices.specs.States.{Gives, Takes}
use Rattle.ascii_devices.specs.declared.DeviceFault.{DeviceFault}
use Rattle.ascii_devices.specs.declared.Sink as sink
use Rattle.ascii_devices.specs.declared.Source as source
use Rattle.ascii_run.proofs.FrontOutputLemmas.{passed_on}
use Rattle.ascii_run.specs.declared.faults.BoundedFault.{BoundedFault}
use Rattle.ascii_run.specs.declared.faults.BoundedFault.TheVariants as fault
use Rattle.ascii_filter.specs.Checked.{IsWritten, LooksAt, StopsAt, check_output}
use Rattle.ascii_filter.specs.Places.{FindsNext, IsFresh, ScanOutcome, ScanState, others_from}
use Rattle.ascii_filter.specs.Places.{others_of}
use Rattle.ascii_formats.specs.Places.{place_after, place_after_byte, start}
use Rattle.ascii_filter.specs.declared.answer.Answer.{Answer}
use Rattle.ascii_filter.specs.declared.options.Check.{Check}
use Rattle.ascii_filter.specs.declared.scanner.OtherByte.{OtherByte}
use Rattle.ascii_formats.specs.declared.places.Place.{Place}
use Rattle.ascii_formats.proofs.PlaceLemmas.{place_after-append}

-- ---- the bytes of a text

one_other : (p : Place) (x : ℕ) (left more : List OtherByte) (b : Bool)
    → (if b then left ++ more else record { place = p; byte = x } ∷ (left ++ more))
    ≡ (if b then left else record { place = p; byte = x } ∷ left) ++ more
one_other p x left more true = refl
one_other p x left more false = refl

pub others_from-append : (p : Place) (xs ys : List ℕ)
    → others_from p (xs ++ ys) ≡ others_from p xs ++ others_from (place_after p xs) ys
others_from-append p [] ys = refl
others_from-append p (x ∷ xs) ys =
    let q = place_after_byte p x in
    ap (λ all. if nat_lt x 128 then all else record { place = p; byte = x } ∷ all)
    (others_from-append q xs ys)
    ∙ one_other p x (others_from q xs) (others_from (place_after q xs) ys) (nat_lt x 128)

-- the byte is ASCII
abbrev IsLow : ℕ → Type 0
IsLow byte = byte < 128

none_of_all : (p : Place) (xs : List ℕ) → All IsLow xs → others_from p xs ≡ []
none_of_all p [] low = refl
none_of_all p (x ∷ xs) low =
    let q = place_after_byte p x in
    ap (λ b. if b then others_from q xs else record { place = p; byte = x } ∷ others_from q xs)
    (lt-ltb x 128 (All-head IsLow x xs low))
    ∙ none_of_all q xs (All-tail IsLow x xs low)

-- an ASCII text has none
pub none_of_ascii : (p : Place) (xs : List ℕ) → IsAscii xs → others_from p xs ≡ []
none_of_ascii p xs ascii = none_of_all p xs (All-from_ascii xs ascii)

one_of_high : (p : Place) (x : ℕ) → 128 ≤ x
    → others_from p (x ∷ []) ≡ record { place = p; byte = x } ∷ []
one_of_high p x high =
    ap (λ b. if b then [] else record { place = p; byte = x } ∷ []) (le-ltb x 128 high)

-- more ASCII bytes add none
pub others-low : (text xs : List ℕ) → IsAscii xs → others_of (text ++ xs) ≡ others_of text
others-low text xs ascii = others_from-append start text xs
    ∙ (ap (λ more. others_of text ++ more) (none_of_ascii (place_after start text) xs ascii)
    ∙ append-nil (others_of text))

-- ASCII bytes and then another add that one
pub others-one : (text before : List ℕ) (found : OtherByte) → IsAscii before → 128 ≤ found.byte
    → found.place ≡ place_after (place_after start text) before
    → others_of (text ++ (before ++ found.byte ∷ [])) ≡ others_of text ++ found ∷ []
others-one text before found ascii high at =
    let p = place_after start text in
    let one : others_from p (before ++ found.byte ∷ []) ≡ found ∷ [] =
    others_from-append p before (found.byte ∷ [])
    ∙ ((λ k. none_of_ascii p before ascii k
    ++ one_of_high (place_after p before) found.byte high k)
    ∙ ap (λ place. record { place = place; byte = found.byte } ∷ []) (sym at)) in
    others_from-append start text (before ++ found.byte ∷ [])
    ∙ ap (λ more. others_of text ++ more) one

-- ---- what was looked at

-- the scanner has passed `text`, the first of the bytes that were given
pub record Passed (scanner : ScanState) (given text : List ℕ) : Type 0 where
  pub front : given ≡ text ++ scanner.held
  pub place : scanner.place ≡ place_after start text
  pub room : 2 ^ 64 - 3 ≡ scanner.room + length given
  pub not_done : scanner.is_done ≡ false

pub Passed-start : (scanner : ScanState) → IsFresh scanner → Passed scanner [] []
Passed-start scanner fresh = record {
  front = sym fresh.held;
  place = fresh.place;
  room = omega (arith, fresh.room);
  not_done = fresh.not_done;
}

-- the text that was passed with the next non-ASCII byte
abbrev pub text_with : (old new : ScanState) (more text : List ℕ) (found : OtherByte)
    → FindsNext old new more found → List ℕ
text_with old new more text found finds = text ++ (finds.before ++ found.byte ∷ [])

pub Passed-more : (old new : ScanState) (given more text : List ℕ) (found : OtherByte)
    → Passed old given text → (finds : FindsNext old new more found)
    → Passed new (given ++ more) (text_with old new more text found finds)
Passed-more old new given more text found passed finds =
    let one = finds.before ++ found.byte ∷ [] in
    record {
      front = ap (λ xs. xs ++ more) passed.front
          ∙ (append_assoc text old.held more
          ∙ (ap (λ xs. text ++ xs) (finds.text
          ∙ sym (append_assoc finds.before (found.byte ∷ []) new.held))
          ∙ sym (append_assoc text one new.held)));
      place = finds.next
          ∙ (ap (λ place. place_after_byte place found.byte)
          (finds.place ∙ ap (λ place. place_after place finds.before) passed.place)
          ∙ (sym (place_after-append (place_after start text) finds.before (found.byte ∷ []))
          ∙ sym (place_after-append start text one)));
      room = omega (arith, passed.room, finds.room, length-append given more);
      not_done = finds.not_done;
    }

pub others-more : (old new : ScanState) (given more text : List ℕ) (found : OtherByte)
    → Passed old given text → (finds : FindsNext old new more found)
    → others_of (text_with old new more text found finds) ≡ others_of text ++ found ∷ []
others-more old new given more text found passed finds =
    others-one text finds.before found finds.ascii finds.other
    (finds.place ∙ ap (λ place. place_after place finds.before) passed.place)

-- the text, and all that was left after it
all_given : (old : ScanState) (given more text : List ℕ) → Passed old given text
    → given ++ more ≡ (text ++ (old.held ++ more)) ++ []
all_given old given more text passed = ap (λ xs. xs ++ more) passed.front
    ∙ (append_assoc text old.held more ∙ sym (append-nil (text ++ (old.held ++ more))))

-- `check` looked at a text that has the same non-ASCII bytes as the text that was passed
abbrev pub LooksLike : Check → Answer → List ℕ → Type 0 → List ℕ → Type 0
LooksLike check answer given at_end text =
    (all : List ℕ) × (others_of all ≡ others_of text) × LooksAt check answer given at_end all

module _ (check : Check) (found : ℕ) (old new : ScanState) (given more text : List ℕ) (P : Type 0)
    (is_passed : Passed old given text) (is_found : found ≡ length (others_of text))
    (most : found ≤ check.most) where
  -- all that was left is ASCII
  looks_at_all : (outcome : Result (Unit {0}) BoundedFault) → IsAscii (old.held ++ more)
      → StopsAt outcome check found (given ++ more) [] P
      → LooksLike check (record { found = found; outcome = outcome }) (given ++ more) P text
  looks_at_all outcome ascii stops =
      let same = others-low text (old.held ++ more) ascii in (
        text ++ (old.held ++ more),
        same,
        record {
          others = [];
          front = all_given old given more text is_passed;
          found = is_found ∙ ap length (sym same);
          most = most;
          stops = stops;
        },
      )

  -- the input is at its end
  pub looks_at_end : (u : Unit {0}) (O : Type 0) → (O → P) → ScanOutcome (Ok None) old new more O
      → LooksLike check (record { found = found; outcome = Ok u }) (given ++ more) P text
  looks_at_end u O to outcome =
      looks_at_all (Ok u) outcome.0 (inl (refl, to (outcome.1 is_passed.not_done)))

  -- the search failed
  pub looks_until : (why : BoundedFault) (O : Type 0) → ScanOutcome (Err why) old new more O
      → LooksLike check (record { found = found; outcome = Err why }) (given ++ more) P text
  looks_until fault.Read O outcome = looks_at_all (Err fault.Read) outcome refl
  looks_until fault.TooLong O (front, others, is, ascii, long) =
      let same = others-low text front ascii in (
        text ++ front,
        same,
        record {
          others = others;
          front = ap (λ xs. xs ++ more) is_passed.front
              ∙ (append_assoc text old.held more
              ∙ (ap (λ xs. text ++ xs) is ∙ sym (append_assoc text front others)));
          found = is_found ∙ ap length (sym same);
          most = most;
          stops = omega (arith, is_passed.room, long, length-append given more);
        },
      )
  looks_until (fault.NotAscii n) O outcome = absurd outcome
  looks_until fault.Memory O outcome = absurd outcome
  looks_until fault.Write O outcome = absurd outcome

module _ (check : Check) (found : ℕ) (now : ScanState) (given text : List ℕ) (P : Type 0)
    (is_passed : Passed now given text) (is_found : found ≡ length (others_of text))
    (most : found ≤ check.most) where
  -- no more bytes are looked for
  pub looks_no_more : (outcome : Result (Unit {0}) BoundedFault)
      → StopsAt outcome check found given now.held P
      → LooksAt check (record { found = found; outcome = outcome }) given P text
  looks_no_more outcome stops = record {
    others = now.held;
    front = is_passed.front;
    found = is_found;
    most = most;
    stops = stops;
  }

-- one more was found
pub found_more : (xs ys : List OtherByte) (found : ℕ) (one : OtherByte) → found ≡ length xs
    → ys ≡ xs ++ one ∷ [] → found + 1 ≡ length ys
found_more xs ys found one is same =
    omega (arith, is, ap length same, length-append xs (one ∷ []))

pub shown_more : (shown : OtherByte → List ℕ) (xs ys : List OtherByte) (one : OtherByte)
    → ys ≡ xs ++ one ∷ [] → flat_map shown xs ++ shown one ≡ flat_map shown ys
shown_more shown xs ys one same =
    sym (ap (flat_map shown) same ∙ (flat_map-append shown xs (one ∷ [])
    ∙ ap (λ more. flat_map shown xs ++ more) (append-nil (shown one))))

-- ---- what was written

-- a buffer that is broken stays so
still_by : (p q : Bool) (a b : OutputState) (bytes : List ℕ) → AppendsBy p q a b bytes
    → p ≡ true → q ≡ true
still_by true q a b bytes appends broken = appends.0
still_by false q a b bytes appends broken = absurd (false≢true broken)

pub still_broken : (a b : OutputState) (bytes : List ℕ) → AppendsBytes a b bytes
    → a.buffer.is_broken ≡ true → b.buffer.is_broken ≡ true
still_broken a b bytes appends broken =
    still_by a.buffer.is_broken b.buffer.is_broken a b bytes appends.by_failure broken

-- `check` wrote its output, or a prefix of it
pub writes : {K : Type 0} (says : sink.Ghosts K) (start mid now : K) (empty held left : BufferState)
    (answer : Answer) (output : List ℕ) (result : Result (Unit {0}) DeviceFault)
    → IsReady empty → AppendsTo says start empty mid held output
    → (answer.outcome ≡ Err fault.Write → held.is_broken ≡ true)
    → FinishOutcome held.is_broken (output_state says mid held) (output_state says now left) result
    → (took : List ℕ) × Takes says start now took
    × IsWritten answer output took (says.failures start) (says.failures now)
writes says start mid now empty held left answer output (Ok u) ready appends broken ends =
    let passes = passed_on says start mid now empty held left output (Ok u) ready appends ends in (
      output,
      passes.0,
      inl (
        refl,
        passes.1,
        λ is. subst (λ b. FinishOutcome b (output_state says mid held) (output_state says now left)
            (Ok u)) (broken is) ends,
      ),
    )
writes says start mid now empty held left answer output (Err e) ready appends broken ends =
    let passes = passed_on says start mid now empty held left output (Err e) ready appends ends in
    let (took, others, takes, is) = passes.0 in
    (took, takes, inr (others, is, passes.1))

-- nothing was read or written
pub no_memory : {S K : Type 0} (source : source.Ghosts S) (sink : sink.Ghosts K) (check : Check)
    (label : List ℕ) (r : S) (w : K) (answer : Answer)
    → answer ≡ record { found = 0; outcome = Err fault.Memory }
    → (given took text : List ℕ) × (gives : Gives source r r given) × Takes sink w w took
    × LooksAt check answer given (IsAtEnd gives.rest) text
    × IsWritten answer (check_output check label answer text) took (sink.failures w)
    (sink.failures w)
no_memory source sink check label r w answer is =
    subst (λ answer. (given took text : List ℕ) × (gives : Gives source r r given)
    × Takes sink w w took × LooksAt check answer given (IsAtEnd gives.rest) text
    × IsWritten answer (check_output check label answer text) took (sink.failures w)
    (sink.failures w)) (sym is) (
      [],
      [],
      [],
      Gives-nil source r,
      Takes-nil sink w,
      record { others = []; front = refl; found = refl; most = omega arith; stops = refl },
      inl (refl, refl, λ is. cc),
    )
