-- Where a line ends in bytes that come in two parts.
use Rattle.std.proofs.Common.{◌≢◌, ◌≡◌, ℕ, ◌+◌, ◌-◌, ◌≤◌, List, [], ◌++◌, length, get_or, ◌==◌, ◌⊎◌}
use Rattle.std.proofs.Common.{arith, false, inl, true, inr, length-append, refl, subst, sym, take}
use Rattle.std.proofs.Common.{drop, None, Option, Some, ◌∷◌, ap, append_assoc, append-nil, ◌∙◌}
use Rattle.std.proofs.Math.ListN.{get_or-append}
use Rattle.std.proofs.lemmas.Bool.{cases_lt}
use Rattle.std.proofs.lemmas.List.{get_or-append-add, get_or-drop, length-drop, length-take-le}
use Rattle.std.proofs.lemmas.List.{take-append-drop, take_all, drop_all, nil_from_length}
use Rattle.ascii.specs.Endings.{FreeUpTo, IsFirstStop, StopsAt, any_text}
use Rattle.ascii.specs.declared.iter.spans.Endings.{Endings}
use Rattle.ascii.proofs.EndingsLemmas.{FreeUpTo-same, IsFirstStop-same, FreeUpTo-more}
use Rattle.ascii_devices.specs.States.{SourceState}
use Rattle.ascii_lines.proofs.GathersLemmas.{Gathers-failed, Gathers-nil, Gathers-read}
use Rattle.ascii_lines.specs.Failures.{one_more}
use Rattle.std.proofs.lemmas.Str.Ascii.{IsAscii-nil}
use Rattle.ascii_lines.specs.LineBuffer.{FailsOnce, ReadsOnce, WindowState}
use Rattle.ascii_lines.specs.Skipping.{Counts, HasNoEnd, IsCleanCut, IsKept, PassesBytes}
use Rattle.ascii_lines.specs.Skipping.{PassesLine, TakesPart}
use Rattle.ascii_lines.specs.Wanted.{Gathers, KnowsEnd}
use Rattle.ascii_lines.specs.declared.skipping.PassEnd.{PassEnd}
use Rattle.ascii_lines.specs.declared.skipping.PassEnd.TheVariants as end
use Rattle.ascii_lines.specs.declared.skipping.Passed.{Passed}

-- ---- two parts

module _ (bytes text : List ℕ) where
  right_at : (j : ℕ) → get_or (bytes ++ text) (length bytes + j) 0 ≡ get_or text j 0
  right_at j = get_or-append-add bytes text j 0

  stop_right : (endings : Endings) → any_text endings ≡ endings → IsCleanCut endings bytes text
      → (j : ℕ) → StopsAt endings (bytes ++ text) (length bytes + j) → StopsAt endings text j
  stop_right endings plain clean j stop =
      grind (arith, right_at, get_or-append-add, get_or-append, nil_from_length)

  stop_back : (endings : Endings) → any_text endings ≡ endings
      → (j : ℕ) → StopsAt endings text j → StopsAt endings (bytes ++ text) (length bytes + j)
  stop_back endings plain j stop = grind (arith, right_at j, right_at (j - 1), cases_lt 0 j)

  module _ (endings : Endings) (plain : any_text endings ≡ endings)
      (free : FreeUpTo endings bytes (length bytes)) (clean : IsCleanCut endings bytes text) where
    free_join : (m : ℕ) → FreeUpTo endings text m
        → FreeUpTo endings (bytes ++ text) (length bytes + m)
    free_join m after k low = λ stop. elim (cases_lt k (length bytes)) [
      | inl early ↦ FreeUpTo-more endings bytes text (length bytes) (omega arith) free k early stop
      | inr late ↦ after (k - length bytes) (omega (arith, low, late))
          (grind (arith, stop_right, clean))
    ]

    stop_join : (n : ℕ) → IsFirstStop endings text n
        → IsFirstStop endings (bytes ++ text) (length bytes + n)
    stop_join n stops = grind (arith, stops, stop_back, free, free_join (n - 1) stops.free)

-- ---- bytes that were taken, in which no line ends

pub record PassedSoFar (endings : Endings) (limit : ℕ) (old new : WindowState)
    (source now : SourceState) (passed : Passed) : Type 0 where
  pub bytes : List ℕ
  pub gathers : Gathers (HasNoEnd endings) old.held old.is_at_end new.is_at_end source now
      (bytes ++ new.held)
  pub counts : Counts bytes passed
  pub within : length bytes ≤ limit
  pub free : FreeUpTo endings bytes (length bytes)
  pub clean : IsCleanCut endings bytes new.held
  pub failures : now.failures ≡ source.failures
  pub size : new.size ≡ old.size

-- no line ends in the bytes that were taken or in those held, of which there is at most one
pub record PassedAll (endings : Endings) (limit : ℕ) (old new : WindowState)
    (source now : SourceState) (passed : Passed) : Type 0 where
  pub so_far : PassedSoFar endings limit old new source now passed
  pub none : HasNoEnd endings (so_far.bytes ++ new.held)
  pub one : length new.held ≤ 1
  pub reach : length so_far.bytes + length new.held ≤ limit

-- more bytes are held
pub clean_more : (endings : Endings) (bytes held read : List ℕ) → IsCleanCut endings bytes held
    → IsCleanCut endings bytes (held ++ read)
clean_more endings bytes [] read clean cr_lf cr = absurd ((clean cr_lf cr).0 refl)
clean_more endings bytes (x ∷ held) read clean cr_lf cr = (λ none. cc, (clean cr_lf cr).1)

-- bytes that begin with CR
starts_cr : (held : List ℕ) → get_or held 0 0 ≡ 13 → (held ≢ []) × (get_or held 0 0 ≢ 10)
starts_cr held cr = grind arith

-- bytes are taken up to one at which a CR LF is not cut
pub kept_clean : (endings : Endings) (bytes text : List ℕ) (n : ℕ) → n ≤ length text
    → IsCleanCut endings bytes text → IsKept endings text n
    → IsCleanCut endings (bytes ++ take n text) (drop n text)
kept_clean endings bytes text n within clean kept cr_lf cr = elim kept [
  | inl none ↦ elim (cases_lt 0 n) [
    | inl some ↦
        let long = length-take-le n text within in
        grind (arith, get_or-append-add, long, length-append)
    | inr empty ↦ grind (arith, clean, append-nil)
  ]
  | inr kept ↦ starts_cr (drop n text)
      (get_or-drop n text 0 0 ∙ subst (λ i. get_or text i 0 ≡ 13) (omega arith) kept)
]

module _ (endings : Endings) (plain : any_text endings ≡ endings) (limit : ℕ)
    (old now after : WindowState) (a b : SourceState) (passed passed' : Passed) (n : ℕ)
    (so_far : PassedSoFar endings limit old now a b passed)
    (front : List ℕ) (m : ℕ) (view : front ≡ take m now.held) (whole : m ≡ length now.held)
    (within : n ≤ length front) (pass : PassesBytes n now after passed passed') where
  same : front ≡ now.held
  same = view ∙ take_all m now.held (omega (arith, whole))

  inside : n ≤ length now.held
  inside = omega (arith, within, ap length same)

  abbrev taken : List ℕ
  taken = so_far.bytes ++ take n now.held

  all : taken ++ after.held ≡ so_far.bytes ++ now.held
  all = grind (arith, append_assoc, take-append-drop)

  gathered : Gathers (HasNoEnd endings) old.held old.is_at_end after.is_at_end a b
      (taken ++ after.held)
  gathered = rw (pass.at_end, all) so_far.gathers

  long : length taken ≡ length so_far.bytes + n
  long = grind (arith, length-append, length-take-le, inside)

  -- what may yet be taken, after the bytes that were
  reach : length so_far.bytes + (limit - passed.count) ≡ limit
  reach = omega (arith, so_far.counts.count, so_far.within)

  clean : IsKept endings now.held n → IsCleanCut endings taken after.held
  clean kept = rw pass.held (kept_clean endings so_far.bytes now.held n inside so_far.clean kept)

  -- no line ends in the first `m` bytes that were held
  free : (m : ℕ) → FreeUpTo endings now.held m
      → FreeUpTo endings (taken ++ after.held) (length so_far.bytes + m)
  free m there =
      rw all (free_join so_far.bytes now.held endings plain so_far.free so_far.clean m there)

  -- a line ends, or is too long
  stops : (why : PassEnd) → TakesPart endings now.held (limit - passed.count) n (Some why)
      → PassesLine endings limit old after a b passed' why
  stops end.Ending part = record {
    bytes = taken;
    gathers = gathered;
    counts = pass.counts so_far.bytes so_far.counts;
    within = omega (arith, long, part.0, reach);
    ends = IsFirstStop-same endings (so_far.bytes ++ now.held) taken (length taken)
        (λ k low. ap (λ xs. get_or xs k 0) (sym all) ∙ get_or-append taken after.held 0 k low)
        (rw long (stop_join so_far.bytes now.held endings plain so_far.free so_far.clean n part.1));
    failures = so_far.failures;
    size = pass.size ∙ so_far.size;
  }
  stops end.Limit part = record {
    bytes = taken;
    gathers = gathered;
    counts = pass.counts so_far.bytes so_far.counts;
    within = omega (arith, long, part.0, reach);
    ends = (
      omega (arith, ap length all, length-append so_far.bytes now.held, part.1, reach),
      rw reach at (free (limit - passed.count) part.2),
      omega (arith, long, part.3, reach),
      clean part.4,
    );
    failures = so_far.failures;
    size = pass.size ∙ so_far.size;
  }
  stops _ part = absurd part

  pub passes_line : (result : Option PassEnd) (why : PassEnd) → result ≡ Some why
      → TakesPart endings front (limit - passed.count) n result
      → PassesLine endings limit old after a b passed' why
  passes_line result why is part = stops why (rw (same, is) at part)

  pub passes_on : (result : Option PassEnd) → result ≡ None
      → TakesPart endings front (limit - passed.count) n result
      → PassedAll endings limit old after a b passed'
  passes_on result is part =
      let none : TakesPart endings now.held (limit - passed.count) n None = rw (is, same) at part in
      let whole = length-append so_far.bytes now.held in
      let both = length-append taken after.held in
      let ends : HasNoEnd endings (taken ++ after.held) =
      subst (FreeUpTo endings (taken ++ after.held)) (omega (arith, ap length all, whole))
      (free (length now.held) none.2) in
      record {
        so_far = record {
          bytes = taken;
          gathers = gathered;
          counts = pass.counts so_far.bytes so_far.counts;
          within = omega (arith, both, ap length all, whole, none.0, reach);
          free = FreeUpTo-same endings (taken ++ after.held) taken (length taken)
              (λ k low. get_or-append taken after.held 0 k low)
              (λ k low. ends k (omega (arith, low, both)));
          clean = clean none.3;
          failures = so_far.failures;
          size = pass.size ∙ so_far.size;
        };
        none = ends;
        one = omega (arith, ap length pass.held, length-drop n now.held, none.1);
        reach = omega (arith, both, ap length all, whole, none.0, reach);
      }

-- one read more
pub passed_more : (endings : Endings) (limit : ℕ) (old now after : WindowState)
    (a b c : SourceState) (passed : Passed) (read : List ℕ)
    → PassedAll endings limit old now a b passed → now.is_at_end ≡ false → ReadsOnce b c read
    → after.held ≡ now.held ++ read → after.is_at_end ≡ (length read == 0)
    → after.size ≡ now.size → PassedSoFar endings limit old after a c passed
passed_more endings limit old now after a b c passed read all more reads is last size =
    grind (arith, all, Gathers-read, append_assoc, free, clean, clean_more)

-- nothing was taken yet
pub passed_none : (endings : Endings) (limit : ℕ) (buffer : WindowState) (a : SourceState)
    → KnowsEnd buffer.is_at_end a.rest
    → PassedSoFar endings limit buffer buffer a a (record { count = 0; other = None })
passed_none endings limit buffer a end =
    grind (
      arith,
      Gathers-nil (HasNoEnd endings) buffer.held buffer.is_at_end a end,
      IsAscii-nil,
      free,
      clean,
    )

-- a read failed, or was not made
pub pass_failed : (endings : Endings) (limit : ℕ) (old now after : WindowState)
    (a b c : SourceState) (passed : Passed) → PassedAll endings limit old now a b passed
    → now.is_at_end ≡ false → FailsOnce b c ⊎ (c ≡ b) → c.failures ≡ one_more b.failures
    → after.held ≡ now.held → after.is_at_end ≡ now.is_at_end → after.size ≡ now.size
    → PassesLine endings limit old after a c passed end.Failed
pass_failed endings limit old now after a b c passed all more fails count is last size =
    grind (arith, all, Gathers-failed)

-- a read has returned no bytes, and the bytes that are left are taken
pub pass_ends : (endings : Endings) (limit : ℕ) (old now after : WindowState) (a b : SourceState)
    (passed passed' : Passed) → PassedAll endings limit old now a b passed
    → now.is_at_end ≡ true → (k : ℕ) → k ≡ length now.held → PassesBytes k now after passed passed'
    → PassesLine endings limit old after a b passed' end.Input
pass_ends endings limit old now after a b passed passed' all last k whole pass =
    grind (arith, all, drop_all, append-nil, take_all, length-append)
