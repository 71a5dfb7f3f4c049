-- What a scanner has passed, chunk by chunk.
use Rattle.std.proofs.Common.{◌≡◌, ◌+◌, ◌-◌, ◌<◌, ℕ, List, [], ◌∷◌, ◌++◌, length, take, drop}
use Rattle.std.proofs.Common.{get_or, arith, ap, sym, subst, refl, ◌∙◌, append_assoc, length-append}
use Rattle.std.proofs.Common.{take-append-drop, length-take, drop-drop, append-nil, false}
use Rattle.std.proofs.lemmas.List.{drop-take, get_or-take, take_more}
use Rattle.std.proofs.lemmas.List.Elements.{All-from_get_or}
use Rattle.std.proofs.lemmas.Str.{IsAscii-append}
use Rattle.std.proofs.lemmas.Str.Ascii.{IsAscii-from_all}
use Rattle.std.proofs.Math.Seq.{take-append_seam}
use Rattle.std.specs.Io.KnownBytes.{IsAtEnd}
use Rattle.std.specs.Str.{IsAscii}
use Rattle.ascii_devices.proofs.HistoryLemmas.{Gives-end, Gives-trans}
use Rattle.ascii_devices.specs.States.{Gives}
use Rattle.ascii_devices.specs.declared.Source as source
use Rattle.std.specs.declared.option.Option.TheVariants.{Some, None}
use Rattle.std.specs.declared.result.Result.TheVariants.{Err}
use Rattle.ascii.specs.Bytes.{FirstOther}
use Rattle.ascii_filter.specs.declared.scanner.OtherByte.{OtherByte}
use Rattle.ascii_run.specs.declared.faults.BoundedFault.{BoundedFault}
use Rattle.ascii_run.specs.declared.faults.BoundedFault.TheVariants as fault
use Rattle.ascii_filter.specs.Places.{FillOutcome, FindsNext, HeldNext, ScanOutcome, ScanState}
use Rattle.ascii_filter.specs.Places.{Skips}
use Rattle.ascii_formats.specs.Places.{place_after}
use Rattle.ascii_formats.proofs.PlaceLemmas.{place_after-append}

-- ---- the bytes that are held

-- the bytes before a position, the one at it, and those after it
pub cut_held : (items : List ℕ) (s e at : ℕ) → at < length (take (e - s) (drop s items))
    → take (e - s) (drop s items) ≡ take at (take (e - s) (drop s items))
    ++ get_or (take (e - s) (drop s items)) at 0
    ∷ take (e - (s + (at + 1))) (drop (s + (at + 1)) items)
cut_held items s e at inside =
    let h = take (e - s) (drop s items) in
    let m = e - (s + (at + 1)) in
    let n : e - s ≡ (at + 1) + m =
    omega (arith, inside, length-take (e - s) (drop s items)) in
    let after : drop (at + 1) h ≡ take m (drop (s + (at + 1)) items) =
    ap (λ k. drop (at + 1) (take k (drop s items))) n
    ∙ (drop-take (at + 1) m (drop s items) ∙ ap (take m) (drop-drop (at + 1) s items)) in
    sym (take-append-drop (at + 1) h)
    ∙ ((λ k. take_more h at 0 inside k ++ after k)
    ∙ append_assoc (take at h) (get_or h at 0 ∷ [])
    (take (e - (s + (at + 1))) (drop (s + (at + 1)) items)))

-- those before the first above 127 are ASCII
pub ascii_before : (bytes : List ℕ) (at : ℕ) → FirstOther bytes 0 (length bytes) at
    → IsAscii (take at bytes)
ascii_before bytes at first = IsAscii-from_all (take at bytes)
    (All-from_get_or (λ b. b < 128) (take at bytes) 0 (λ k inside.
    let short : k < at = omega (arith, inside, length-take at bytes) in
    subst (λ b. b < 128) (sym (get_or-take at bytes k 0 short))
    (first.least k (omega arith) short)))

-- a scanner that found the end holds none
pub none_held : (items : List ℕ) (s e : ℕ) → s ≡ e → take (e - s) (drop s items) ≡ []
none_held items s e same =
    let none : e - s ≡ 0 = omega (arith, same) in ap (λ n. take n (drop s items)) none

pub none_of : {A : Type 0} (xs : List A) → length xs ≡ 0 → xs ≡ []
none_of [] none = refl
none_of (x ∷ xs) none = absurd (omega (arith, none))

-- what was read to the start of a chunk is held
pub held_of : (n size : ℕ) (bytes more : List ℕ) → length bytes ≡ size
    → take (n - 0) (take size (bytes ++ more)) ≡ take n bytes
held_of n size bytes more same =
    let all : n - 0 ≡ n = omega arith in
    (λ k. take (all k) (take (sym same k) (bytes ++ more)))
    ∙ ap (take n) (take-append_seam bytes more)

-- ---- the bytes that were given

-- if the source is at its end after more bytes, it is after both
pub trans_end : {S : Type 0} (says : source.Ghosts S) (a b c : S) (bytes more : List ℕ)
    (kept : says.failures b ≡ says.failures a) (first : Gives says a b bytes)
    (then : Gives says b c more) → says.failures c ≡ says.failures b → IsAtEnd then.rest
    → IsAtEnd (Gives-trans says a b c bytes more kept first then).rest
trans_end says a b c bytes more kept first then same end =
    Gives-end says a c (bytes ++ more) (Gives-trans says a b c bytes more kept first then)
    (same ∙ kept) (subst IsAtEnd (sym (then.left same)) end)

-- ---- the bytes that were passed

-- nothing was read yet
pub Skips-start : (a : ScanState) → a.is_done ≡ false → IsAscii [] → Skips a a [] []
Skips-start a undone ascii = record {
  text = append-nil a.held;
  ascii = ascii;
  place = refl;
  room = omega arith;
  not_done = undone;
}

-- if all that were held were passed, the text is those that were passed before, and they
passed_held : (a b : ScanState) (given passed more : List ℕ) → Skips a b given passed
    → a.held ++ (given ++ more) ≡ (passed ++ b.held) ++ more
passed_held a b given passed more so_far =
    sym (append_assoc a.held given more) ∙ ap (λ xs. xs ++ more) so_far.text

-- all that were held were passed, and others were read
pub passes_chunk : (a b c d : ScanState) (given passed more : List ℕ) (n : ℕ)
    → Skips a b given passed → HeldNext b c None → d.held ≡ more → length more ≡ n
    → d.place ≡ c.place → c.room ≡ d.room + n → d.is_done ≡ false
    → Skips a d (given ++ more) (passed ++ b.held)
passes_chunk a b c d given passed more n so_far all held long same room undone = record {
  text = passed_held a b given passed more so_far
      ∙ ap (λ xs. (passed ++ b.held) ++ xs) (sym held);
  ascii = IsAscii-append passed b.held so_far.ascii all.0;
  place = same ∙ (all.2 ∙ (ap (λ place. place_after place b.held) so_far.place
      ∙ sym (place_after-append a.place passed b.held)));
  room = omega (arith, so_far.room, all.3, long, room, length-append given more);
  not_done = undone;
}

pub finds : (a b c : ScanState) (given passed : List ℕ) (found : OtherByte)
    → Skips a b given passed → HeldNext b c (Some found) → FindsNext a c given found
finds a b c given passed found so_far (before, held, low, high, at, next, room, undone) = record {
  before = passed ++ before;
  text = so_far.text ∙ (ap (λ xs. passed ++ xs) held
      ∙ sym (append_assoc passed before (found.byte ∷ c.held)));
  ascii = IsAscii-append passed before so_far.ascii low;
  other = high;
  place = at ∙ (ap (λ place. place_after place before) so_far.place
      ∙ sym (place_after-append a.place passed before));
  next = next;
  room = omega (arith, so_far.room, room);
  not_done = undone;
}

-- all that were held are ASCII, and no more were read
pub all_ascii : (a b c : ScanState) (given passed more : List ℕ) → Skips a b given passed
    → HeldNext b c None → more ≡ [] → IsAscii (a.held ++ (given ++ more))
all_ascii a b c given passed more so_far all none =
    subst IsAscii (sym (passed_held a b given passed more so_far
    ∙ (ap (λ xs. (passed ++ b.held) ++ xs) none ∙ append-nil (passed ++ b.held))))
    (IsAscii-append passed b.held so_far.ascii all.0)

-- reading failed, after all that were held were passed
pub scan_fails : (a b c d : ScanState) (given passed more : List ℕ) (why : BoundedFault)
    (P Q : Type 0) → Skips a b given passed → HeldNext b c None
    → FillOutcome (Err why) c d more P → ScanOutcome (Err why) a d (given ++ more) Q
scan_fails a b c d given passed more fault.Read P Q so_far all fill =
    all_ascii a b c given passed more so_far all fill
scan_fails a b c d given passed more fault.TooLong P Q so_far all fill = (
  passed ++ b.held,
  more,
  passed_held a b given passed more so_far,
  IsAscii-append passed b.held so_far.ascii all.0,
  omega (arith, so_far.room, all.3, fill, length-append given more),
)
scan_fails a b c d given passed more (fault.NotAscii n) P Q so_far all fill = absurd fill
scan_fails a b c d given passed more fault.Memory P Q so_far all fill = absurd fill
scan_fails a b c d given passed more fault.Write P Q so_far all fill = absurd fill
