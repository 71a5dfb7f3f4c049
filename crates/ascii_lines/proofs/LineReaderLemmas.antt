-- What a line reader has read and yielded, one call after another.
use Rattle.std.proofs.Common.{◌≡◌, ◌≢◌, ℕ, ◌+◌, ◌-◌, List, [], ◌∷◌, ◌++◌, length, take, None, Some}
use Rattle.std.proofs.Common.{Ok, Err, Option, Result, refl, sym, ap, subst, ◌∙◌, arith, inl, inr}
use Rattle.std.proofs.Common.{◌<◌, ◌^◌, add-zero, append_assoc, append-nil, length-append, ◌⊎◌}
use Rattle.std.specs.Io.KnownBytes.{Consumes, IsAtEnd}
use Rattle.std.specs.List.{All, flat_map}
use Rattle.std.proofs.Math.Seq.{take-append-add}
use Rattle.std.proofs.lemmas.Grind.{flat_map-append}
use Rattle.std.proofs.lemmas.List.{map-append}
use Rattle.std.proofs.lemmas.List.Elements.{All-append, All-cons, All-map, All-nil, All-take}
use Rattle.ascii.specs.declared.iter.spans.Ending.{Ending}
use Rattle.ascii.specs.declared.iter.spans.Ending.TheVariants.{Absent, CrLf, Lf}
use Rattle.ascii.specs.declared.iter.spans.Endings.{Endings}
use Rattle.ascii.specs.Endings.{any_text}
use Rattle.ascii.specs.Lines.{IsBody, Line, LinesEndedBy, MayEnd, MayFollow, ending_text, line_text}
use Rattle.ascii.specs.Spans.{LineSpansEndedBy, WithStart, items_of, line_size, with_starts}
use Rattle.ascii.proofs.LinesByLemmas.{MayFollow-ended, any_text_spans, some_spans}
use Rattle.ascii.proofs.LinesLemmas.{LinesEndedBy-nil}
use Rattle.ascii_devices.proofs.HistoryLemmas.{Gives-nil, Gives-trans}
use Rattle.ascii_devices.proofs.ListLemmas.{append_two}
use Rattle.ascii_devices.specs.States.{of_state}
use Rattle.ascii_lines.specs.LineReader.{IsDone, Next, NextFrom, PassesOver, ReaderState, Reading}
use Rattle.ascii_lines.specs.LineReader.{ReadsBytes, StopsAt, Takes, TakesLine, YieldsLines}
use Rattle.ascii_lines.specs.LineReader.{read_line_in}
use Rattle.ascii_lines.specs.declared.line_reader.LineError.{LineError}
use Rattle.ascii_lines.specs.declared.line_reader.ReadLine.{ReadLine}
use Rattle.ascii_lines.specs.declared.line_reader.Stage.{Stage}
use Rattle.ascii_lines.specs.declared.line_reader.Stage.TheVariants.{Open, Ended, Refused}
use Rattle.ascii_lines.specs.declared.wanted.Wanted.{Wanted}
use Rattle.ascii_lines.specs.declared.wanted.Content.TheVariants.{Text}
use Rattle.ascii_lines.specs.declared.wanted.Wanted.TheVariants as wanted

-- ---- lines after lines

abbrev IsEnded : WithStart Line → Type 0
IsEnded span = span.item.ending ≢ Absent

pub with_starts-append : (s : ℕ) (xs ys : List Line)
    → with_starts line_size s (xs ++ ys) ≡ with_starts line_size s xs ++ with_starts line_size
    (s + length (flat_map line_text xs)) ys
with_starts-append s [] ys = ap (λ n. with_starts line_size n ys) (sym (add-zero s))
with_starts-append s (x ∷ xs) ys =
    grind (arith, length-append, with_starts-append (s + line_size x) xs ys)

ended-append : (xs ys : List Line) → All (λ line. line.ending ≢ Absent) xs
    → All (λ line. line.ending ≢ Absent) (take (length ys - 1) ys)
    → All (λ line. line.ending ≢ Absent) (take (length (xs ++ ys) - 1) (xs ++ ys))
ended-append xs [] first then = All-take (λ line. line.ending ≢ Absent) (length (xs ++ []) - 1)
    (xs ++ [])
    (All-append (λ line. line.ending ≢ Absent) xs [] first
    (All-nil (λ line. line.ending ≢ Absent)))
ended-append xs (y ∷ ys) first then =
    let size : length (xs ++ y ∷ ys) - 1 ≡ length xs + (length (y ∷ ys) - 1) =
    omega (arith, length-append xs (y ∷ ys)) in
    let parts : take (length (xs ++ y ∷ ys) - 1) (xs ++ y ∷ ys) ≡ xs ++ take
    (length (y ∷ ys) - 1) (y ∷ ys) = grind (arith, take-append-add) in
    subst (All (λ line. line.ending ≢ Absent)) (sym parts)
    (All-append (λ line. line.ending ≢ Absent) xs (take (length (y ∷ ys) - 1) (y ∷ ys)) first then)

pub LineSpansEndedBy-append : (kind : Endings) (start : ℕ) (t u : List ℕ)
    (xs ys : List (WithStart Line)) → LineSpansEndedBy kind start t xs → All IsEnded xs
    → LineSpansEndedBy kind (start + length t) u ys
    → LineSpansEndedBy kind start (t ++ u) (xs ++ ys)
LineSpansEndedBy-append kind start t u xs ys first ended then =
    let is : items_of (xs ++ ys) ≡ items_of xs ++ items_of ys = grind (arith, map-append) in
    let long : start + length t ≡ start + length (flat_map line_text (items_of xs)) = grind arith in
    record {
      lines = subst (LinesEndedBy kind (t ++ u)) (sym is) (record {
        bodies = All-append (λ line. IsBody kind line.body) (items_of xs) (items_of ys)
            first.lines.bodies then.lines.bodies;
        endings = All-append (λ line. MayEnd kind line.ending line.body) (items_of xs)
            (items_of ys) first.lines.endings then.lines.endings;
        ended = ended-append (items_of xs) (items_of ys)
            (All-map (λ (line : Line). line.ending ≢ Absent)
            (λ (span : WithStart Line). span.item) xs ended) then.lines.ended;
        joined = simp (flat_map-append, first.lines.joined, then.lines.joined);
      });
      starts = grind (arith, with_starts-append);
    }

-- ---- one call more

-- some bytes, and then more
pub PassesOver-trans : (a b c : ReaderState) (bytes more : List ℕ) → ReadsBytes a bytes b
    → PassesOver b more c → PassesOver a (bytes ++ more) c
PassesOver-trans a b c bytes more first then =
    let t = first.over.text in let t' = then.text in
    record {
      text = (
        t.0 ++ t'.0,
        Gives-trans of_state a.device b.device c.device t.0 t'.0 first.failures t.1 t'.1,
        append_two bytes more c.held b.held a.held t.0 t'.0 t.2 t'.2,
      );
      start = omega (arith, first.over.start, then.start, length-append bytes more);
      size = then.size ∙ first.over.size;
      endings = then.endings ∙ first.over.endings;
    }

pub ReadsBytes-trans : (a b c : ReaderState) (bytes more : List ℕ) → ReadsBytes a bytes b
    → ReadsBytes b more c → ReadsBytes a (bytes ++ more) c
ReadsBytes-trans a b c bytes more first then =
    grind (arith, PassesOver-trans a b c bytes more first then.over)

-- ---- one line more

pub YieldsLines-append : (a b c : ReaderState) (lines : List (WithStart Line))
    (others : List (WithStart Line)) → YieldsLines a lines b → All IsEnded lines
    → YieldsLines b others c → YieldsLines a (lines ++ others) c
YieldsLines-append a b c lines others first ended then =
    let h = first.handed in let h' = then.handed in
    let over = first.reads.over in
    record {
      handed = h ++ h';
      reads = ReadsBytes-trans a b c h h' first.reads then.reads;
      exact = LineSpansEndedBy-append a.endings a.start h h' lines others first.exact ended
          (grind arith);
      whole = elim then.whole [
        | inl more ↦ inl (more.0, All-append IsEnded lines others ended more.1)
        | inr done ↦ inr done
      ];
    }

-- one line is a list of lines
pub one_line : (wanted : Wanted) (old : ReaderState) (line : WithStart Line) (new : ReaderState)
    → TakesLine wanted old line new → YieldsLines old (line ∷ []) new
one_line wanted old line new takes = grind (arith, All-cons, All-nil)

pub no_line : (wanted : Wanted) (old new : ReaderState) → Takes wanted old [] new → IsDone new
    → YieldsLines old [] new
no_line wanted old new takes done = grind (arith, LinesEndedBy-nil)

-- nothing was read yet
pub yields_nil : (old : ReaderState) → old.stage ≡ Open → YieldsLines old [] old
yields_nil old going = grind (arith, Gives-nil, append-nil, add-zero, LinesEndedBy-nil, All-nil)

pub line_bytes : (body : List ℕ) (ending : Ending) → MayFollow ending body
    → 0 < length (body ++ ending_text ending)
line_bytes body Lf may = omega (arith, length-append body (10 ∷ []))
line_bytes body CrLf may = omega (arith, length-append body (13 ∷ 10 ∷ []))
line_bytes [] Absent may = absurd (may refl)
line_bytes (b ∷ bs) Absent may = omega (arith, length-append (b ∷ bs) [])

-- a line has a byte
pub line_has_bytes : (endings : Endings) (bytes : List ℕ) (line : Line)
    → LinesEndedBy endings bytes (line ∷ []) → 0 < length bytes
line_has_bytes endings bytes line exact = grind (arith, line_bytes, MayFollow-ended, append-nil)

-- the next line of a reader, after the lines before it
module _ {S : Type 0} where
  -- what was returned is what an open reader returns, or the reader has ended
  next_by : (a : ReaderState) (lines : List (WithStart Line)) (old new : Reading S)
      (result shown : Result (Option ReadLine) LineError) → YieldsLines a lines old.state
      → Next old result new → result ≡ shown
      → ((old.state.stage ≡ Open) × All IsEnded lines × NextFrom Open old shown new)
      ⊎ (IsDone old.state × (shown ≡ Ok None) × (new ≡ old))
  next_by a lines old new result shown so_far next is = grind arith

  pub one_more : (a : ReaderState) (lines : List (WithStart Line)) (old new : Reading S)
      (result : Result (Option ReadLine) LineError) (line : ReadLine) (last : WithStart Line)
      → YieldsLines a lines old.state
      → Next old result new → result ≡ Ok (Some line) → last ≡ read_line_in line
      → YieldsLines a (lines ++ last ∷ []) new.state
  one_more a lines old new result line last so_far next is same =
      elim (next_by a lines old new result (Ok (Some line)) so_far next is) [
        | inl more ↦ grind (arith, YieldsLines-append, one_line)
        | inr ended ↦ let e : Ok (Some line) ≡ Ok None = ended.1 in cc
      ]

  -- a line that was returned has a byte, and ends at a position that fits a `u64`
  pub line_advances : (old new : Reading S) (result : Result (Option ReadLine) LineError)
      (line : ReadLine) → Next old result new → result ≡ Ok (Some line)
      → (old.state.start < new.state.start) × (new.state.start < 2 ^ 64)
  line_advances old new result line next is = go old.state.stage (rw is at next)
    where
      go : (stage : Stage) → NextFrom stage old (Ok (Some line)) new
          → (old.state.start < new.state.start) × (new.state.start < 2 ^ 64)
      go Open takes =
          let some = line_has_bytes old.state.endings takes.bytes (read_line_in line).item
          takes.exact.lines in
          (omega (arith, takes.takes.start, some), takes.takes.in_range)
      go Ended (none, same) = let e : Ok (Some line) ≡ Ok None = none in cc
      go (Refused error) (refused, same) = let e : Ok (Some line) ≡ Err error = refused in cc

  -- the end of the lines of a reader
  pub no_more : (a : ReaderState) (lines : List (WithStart Line)) (old new : Reading S)
      (result : Result (Option ReadLine) LineError)
      → YieldsLines a lines old.state
      → Next old result new → result ≡ Ok None
      → YieldsLines a lines new.state × IsDone new.state
  no_more a lines old new result so_far next is =
      elim (next_by a lines old new result (Ok None) so_far next is) [
        | inl more ↦ (
          subst (λ all. YieldsLines a all new.state) (append-nil lines)
              (grind (arith, YieldsLines-append, no_line)),
          more.2.1,
        )
        | inr ended ↦ rw ended.2 (so_far, ended.0)
      ]

  -- an error after the lines of a reader
  pub an_error : (a : ReaderState) (lines : List (WithStart Line)) (old new : Reading S)
      (result : Result (Option ReadLine) LineError) (error : LineError)
      → YieldsLines a lines old.state → Next old result new → result ≡ Err error
      → (before : ReaderState) × YieldsLines a lines before × (before.stage ≡ Open)
      × StopsAt (wanted.Line before.endings Text) before error new.state
  an_error a lines old new result error so_far next is = grind (arith, next_by)

-- ---- the lines of all that the source tells

-- what is told ends where the source ends
told_parts : (old left : Option (List ℕ)) (read told : List ℕ) → old ≡ Some told
    → Consumes old left read → (more : List ℕ) × (told ≡ read ++ more)
    × (IsAtEnd left → more ≡ [])
told_parts old left read told is gave = grind (arith, append-nil)

-- the lines yielded are the first lines of all bytes, and all of them at the end
pub first_lines : (old new : ReaderState) (lines : List (WithStart Line)) (told : List ℕ)
    → old.device.rest ≡ Some told → YieldsLines old lines new
    → (others : List (WithStart Line))
    × LineSpansEndedBy (any_text old.endings) old.start (old.held ++ told) (lines ++ others)
    × (IsDone new → others ≡ [])
    × All (λ line. IsBody old.endings line.body) (items_of lines)
first_lines old new lines told is hands =
    let over = hands.reads.over in
    let gave = over.text.1 in
    let parts = told_parts old.device.rest gave.rest over.text.0 told is gave.gave in
    let more = parts.0 in
    let whole : old.held ++ told ≡ hands.handed ++ (new.held ++ more) =
    grind (arith, append_assoc) in
    let kind = any_text old.endings in
    let exact = any_text_spans old.endings old.start hands.handed lines hands.exact in
    elim hands.whole [
      | inl going ↦
          let then = some_spans old.endings (old.start + length hands.handed) (new.held ++ more)
          in (
            then.0,
            rw whole (LineSpansEndedBy-append kind old.start hands.handed (new.held ++ more) lines
                then.0 exact going.1 then.1),
            λ done. let e : Open ≡ Ended = sym going.0 ∙ done.ended in cc,
            hands.exact.lines.bodies,
          )
      | inr done ↦ grind (arith, append-nil)
    ]
