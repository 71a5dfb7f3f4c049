-- Looking for what is wanted in a buffer, and taking it off.
use Rattle.std.proofs.Common.{Bool, true, false, drop, ◌≤◌, take-append-drop, Err, None, Ok, OnErr}
use Rattle.std.proofs.Common.{Result, Some, ◌≡◌, ◌≢◌, ℕ, ◌+◌, ◌-◌, ◌<◌, ◌^◌, List, [], length, take}
use Rattle.std.proofs.Common.{get_or, arith, inl, inr, refl, sym, ap, subst, ◌∙◌}
use Rattle.std.specs.Result.{IsErrAnd}
use Rattle.std.proofs.lemmas.Bool.{cases_lt}
use Rattle.std.proofs.lemmas.List.{length-take-le, take-take, take_all, drop_all, get_or-take}
use Rattle.std.proofs.lemmas.Option.{none-some}
use Rattle.ascii.specs.Endings.{FindsLoneBreak, FreeUpTo, IsOneLine, IsWhole}
use Rattle.ascii.specs.declared.iter.spans.Endings.{Endings}
use Rattle.ascii.specs.declared.iter.spans.Endings.TheVariants.{CrLfStrict}
use Rattle.ascii.proofs.LinesByLemmas.{no_cr_below}
use Rattle.ascii_devices.specs.States.{SourceState}
use Rattle.ascii_lines.specs.LineBuffer.{IsUsable, WindowState}
use Rattle.ascii_lines.specs.LineReader.{Finds, FindsEnd, IsLookedFor, Looks, StopsBy, TakesOff}
use Rattle.ascii_lines.specs.LineReader.{window_at}
use Rattle.ascii_lines.specs.Wanted.{FindsFault, IsEndOf, IsFar, IsLoneBreak, IsSearched, EndsAt}
use Rattle.ascii_lines.specs.Wanted.{Gathers, IsOne, IsRefusal, IsStrict, LacksUpTo, MayBeLast}
use Rattle.ascii_lines.specs.Wanted.{MayHave, MustRead}
use Rattle.ascii_lines.specs.declared.line_reader.LineError.{LineError}
use Rattle.ascii_lines.specs.declared.wanted.Content.TheVariants.{Text}
use Rattle.ascii_lines.specs.declared.wanted.Found.{Found}
use Rattle.ascii_lines.specs.declared.wanted.Wanted.{Wanted}
use Rattle.ascii_lines.specs.declared.wanted.Wanted.TheVariants.{Line, Part, Until}
use Rattle.ascii_lines.proofs.WantedLemmas.{ends_front, ends_whole, may_front, must_reads, rejects}
use Rattle.ascii_lines.proofs.WantedLemmas.{searched_front, searched_none, searched_whole}
use Rattle.ascii_lines.proofs.WantedLemmas.{usable_least, some_length}

-- ---- what a search has found

-- before its end, what is wanted is not among the bytes
free_by : (wanted : Wanted) (buffer : WindowState) (n : ℕ) (is_last : Bool)
    → StopsBy wanted buffer n is_last → IsSearched wanted buffer.held (n - 1)
free_by wanted buffer n is_last stops = grind arith

module _ (wanted : Wanted) (start : ℕ) (buffer : WindowState) (n : ℕ)
    (is_last : Bool) (finds : FindsEnd wanted buffer n is_last) where
  abbrev bytes : List ℕ
  bytes = take n buffer.held

  long : length bytes ≡ n
  long = length-take-le n buffer.held finds.within

  byte_at : (k : ℕ) → k < n → get_or bytes k 0 ≡ get_or buffer.held k 0
  byte_at k low = get_or-take n buffer.held k 0 low

  -- the bytes end too far
  far : 2 ^ 64 - 1 < start + length bytes → IsFar wanted start buffer.held
  far beyond = go wanted is_last finds.stops (free_by wanted buffer n is_last finds.stops)
    where
      go : (wanted : Wanted) (is_last : Bool) → StopsBy wanted buffer n is_last
          → IsSearched wanted buffer.held (n - 1) → IsFar wanted start buffer.held
      go (Part count content) true stops free = omega (arith, beyond, long, stops.2)
      go (Part count content) false stops free = omega (arith, beyond, long, stops)
      go _ is_last stops free = (n, finds.within, free, omega (arith, beyond, long))

  -- the byte at `i` is CR, the last, and not after a CR
  abbrev LastCr : ℕ → Type 0
  LastCr i = (length bytes ≡ i + 1) × (get_or bytes i 0 ≡ 13)
      × ((k : ℕ) → length bytes ≡ k + 2 → get_or bytes k 0 ≢ 13)

  -- the byte at `i`, one of the last two, is a CR or an LF that is not part of a CR LF
  lone : (i : ℕ) → FreeUpTo CrLfStrict buffer.held (n - 1)
      → (LastCr i → (n ≡ length buffer.held) × (buffer.is_at_end ≡ true)
      × FreeUpTo CrLfStrict buffer.held n)
      → FindsLoneBreak CrLfStrict bytes (Some i)
      → IsLoneBreak wanted buffer.size buffer.held buffer.is_at_end i n
  lone i free ends (strict, shape) =
      let low : i < n = omega (arith, long, shape) in
      record {
        fits = finds.fits;
        inside = finds.within;
        may = finds.may;
        first = λ k before. (
          λ is. free k (omega (arith, before, low)) (inl is),
          λ is. elim shape [
            | inl feed ↦ elim (cases_lt (k + 1) i) [
              | inl early ↦ no_cr_below buffer.held (n - 1) k free
                  (omega (arith, early, feed.0, long)) is
              | inr late ↦ feed.2 (
                subst (λ j. get_or bytes j 0 ≡ 13) (omega (arith, before, late))
                    (byte_at k (omega (arith, before, low)) ∙ is),
                feed.1,
              )
            ]
            | inr (inl cr) ↦ no_cr_below buffer.held (n - 1) k free
                (omega (arith, before, cr.0, long)) is
            | inr (inr last) ↦ no_cr_below buffer.held n k (ends last).2
                (omega (arith, before, last.0, long)) is
          ],
        );
        lone = elim shape [
          | inl feed ↦ inl (omega (arith, feed.0, long), sym (byte_at i low) ∙ feed.1)
          | inr (inl cr) ↦ inr (inl (
            omega (arith, cr.0, long),
            sym (byte_at i low) ∙ cr.1,
            λ is. cr.2 (byte_at (i + 1) (omega (arith, cr.0, long)) ∙ is),
          ))
          | inr (inr last) ↦ inr (inr (
            omega (arith, last.0, long),
            (ends last).0,
            sym (byte_at i low) ∙ last.1,
            (ends last).1,
          ))
        ];
      }

  -- the bytes have a lone CR or LF
  lone_break : (i : ℕ) → FindsFault wanted bytes (Some i)
      → IsStrict wanted × IsLoneBreak wanted buffer.size buffer.held buffer.is_at_end i n
  lone_break i fault = go wanted is_last finds.stops fault
    where
      go : (what : Wanted) (is_last : Bool) → StopsBy what buffer n is_last
          → FindsFault what bytes (Some i)
          → IsStrict what × IsLoneBreak wanted buffer.size buffer.held buffer.is_at_end i n
      go (Part count content) is_last stops found = absurd (none-some i (sym found))
      go (Until code) is_last stops found = absurd (none-some i (sym found))
      go _ true stops found =
          let free = rw found.0 at stops.2 in (
            found.0,
            lone i (λ k low. free k (omega (arith, low))) (λ last. (stops.0, stops.1, free))
                (refl, found.1),
          )
      go _ false stops found =
          let stop = rw found.0 at stops in (
            found.0,
            lone i stop.free (λ last. absurd (elim stop.last [
              | inl feed ↦ grind (arith, long, byte_at)
              | inr cr ↦ last.2 (n - 1 - 1) (omega (arith, long, cr.0))
                  (byte_at (n - 1 - 1) (omega (arith, cr.0)) ∙ cr.1)
            ])) (refl, found.1),
          )

  -- why it is not given
  pub end_rejects : (error : LineError) → IsEndOf wanted start bytes is_last (Err error)
      → Looks wanted start buffer (Err error)
  end_rejects error beyond = grind (arith, long, far, lone_break, take_all)

  line : (endings : Endings) → FreeUpTo endings buffer.held (n - 1) → IsWhole endings bytes
      → bytes ≢ [] → IsOneLine endings bytes
  line endings free whole some = (
    some_length bytes some,
    rw long (searched_front buffer.held n (n - 1) (omega arith) (Line endings Text) free),
    whole,
  )

  one : (wanted : Wanted) (is_last : Bool) → StopsBy wanted buffer n is_last
      → IsSearched wanted buffer.held (n - 1) → FindsFault wanted bytes None
      → MayBeLast wanted is_last → bytes ≢ [] → IsOne wanted bytes
  one (Until code) is_last stops free whole last some =
      rw long (searched_front buffer.held n (n - 1) (omega arith) (Until code) free)
  one wanted is_last stops free whole last some = grind (arith, line, long)

  -- it is given
  pub end_found : (place : ℕ) → IsEndOf wanted start bytes is_last (Ok place)
      → Finds wanted start buffer (record { count = n; end = place; is_last = is_last })
  end_found place is = grind (arith, long, one, free_by)

-- ---- what a look into a buffer finds

-- a result that is an error of another call
pub from_err : {T E : Type 0} (result : Result T E) (error : E) (P : Result T E → Type 0)
    → IsErrAnd result (λ e. e ≡ error) → P (Err error) → P result
from_err result error P is holds = grind arith

module _ (wanted : Wanted) (start : ℕ) (ended : Bool) (buffer : WindowState) where
  abbrev window : WindowState
  window = window_at ended buffer

  module _ (part : List ℕ) (usable : IsUsable wanted buffer part) where
    -- what was searched is among the bytes that may be in what is wanted
    pub looked_for : (searched : ℕ) → IsLookedFor wanted start buffer searched
        → (searched ≤ length part) × IsSearched wanted part searched
    looked_for searched looked = elim looked [
      | inl none ↦ rw none (omega arith, searched_none wanted part)
      | inr (low, must) ↦
          let front = take searched buffer.held in
          let long = length-take-le searched buffer.held low in
          let read = must_reads wanted start buffer.size front must in
          let within = usable_least wanted buffer part usable searched low
          (omega (arith, long, read.0)) read.1 in (
            within,
            subst (λ xs. IsSearched wanted xs searched) (sym usable.front)
                (searched_front buffer.held (length part) searched within wanted
                (grind (arith, searched_whole, long))),
          )
    ]

    pub find_ends : (n : ℕ) → (n ≤ length part) × EndsAt wanted part n
        → FindsEnd wanted window n false
    find_ends n found = record {
      within = omega (arith, found.0, usable.within);
      fits = omega (arith, found.0, usable.fits);
      may = subst (MayHave wanted)
          (ap (take n) usable.front ∙ take-take n (length part) buffer.held found.0)
          (may_front wanted part n usable.may);
      stops = grind (arith, ends_whole);
    }

    pub refusal_looks : LacksUpTo wanted part (length part) → length part < length buffer.held
        → (error : LineError) → IsRefusal start (length part) buffer.size error
        → Looks wanted start window (Err error)
    refusal_looks lacks less error refusal = grind (arith, rejects)

pub on_error : {T E : Type 0} (result : Result T E) {P : Type 0} → P → OnErr result P
on_error result holds = grind arith

-- what was taken
pub takes_off : (wanted : Wanted) (start : ℕ) (old buffer new : WindowState) (a b : SourceState)
    (found : Found) → Finds wanted start buffer found
    → Gathers (MustRead wanted start old.size) old.held old.is_at_end buffer.is_at_end a b
    buffer.held
    → buffer.size ≡ old.size → b.failures ≡ a.failures → new.given ≡ take found.count buffer.held
    → new.held ≡ drop found.count buffer.held → new.is_at_end ≡ buffer.is_at_end
    → TakesOff wanted start old new a b found.end found.is_last
takes_off wanted start old buffer new a b found finds gathers same kept given held at_end =
    grind (arith, take-append-drop, one, length-take-le, drop_all, take_all, ends_front)
