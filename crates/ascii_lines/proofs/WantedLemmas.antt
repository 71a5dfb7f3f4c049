-- Whether what is wanted is among some bytes, and why it is not given.
use Rattle.std.proofs.Common.{◌≡◌, ◌≢◌, ℕ, ◌+◌, ◌<◌, ◌≤◌, List, Bool, length, take, arith, get_or}
use Rattle.std.proofs.Common.{sym, [], ◌∷◌, refl, ◌-◌, ◌∙◌}
use Rattle.std.proofs.lemmas.List.{get_or-take}
use Rattle.std.proofs.lemmas.Str.{IsAscii-take}
use Rattle.std.proofs.lemmas.Str.Ascii.{IsAscii-nil}
use Rattle.std.specs.Str.{IsAscii}
use Rattle.ascii.specs.Bytes.{FirstOther}
use Rattle.ascii.proofs.EndingsLemmas.{FreeUpTo-same, IsFirstStop-same}
use Rattle.ascii_lines.specs.LineBuffer.{IsBarred, IsUsable, WindowState}
use Rattle.ascii_lines.specs.Wanted.{EndsAt, IsSearched, LacksUpTo, MayHave, MustRead, IsFar}
use Rattle.ascii_lines.specs.Wanted.{IsOtherIn, IsRefusal, Rejects}
use Rattle.ascii_lines.specs.declared.line_reader.LineError.{LineError}
use Rattle.ascii_lines.specs.declared.line_reader.LineError.TheVariants as error
use Rattle.ascii_lines.specs.declared.wanted.Content.TheVariants.{Any}
use Rattle.ascii_lines.specs.declared.wanted.Wanted.{Wanted}
use Rattle.ascii_lines.specs.declared.wanted.Wanted.TheVariants.{Line, Part, Until}

pub some_length : (text : List ℕ) → text ≢ [] → 0 < length text
some_length [] some = absurd (some refl)
some_length (b ∷ text) some = omega arith

-- ---- a text and the first bytes of it

pub may_front : (wanted : Wanted) (held : List ℕ) (n : ℕ) → MayHave wanted held
    → MayHave wanted (take n held)
may_front wanted held n may = grind (arith, IsAscii-take)

module _ (held : List ℕ) (m n : ℕ) (low : n ≤ m) where
  at_front : (k : ℕ) → k < n → get_or (take m held) k 0 ≡ get_or held k 0
  at_front k less = get_or-take m held k 0 (omega (arith, low, less))

  at_whole : (k : ℕ) → k < n → get_or held k 0 ≡ get_or (take m held) k 0
  at_whole k less = sym (at_front k less)

  pub searched_front : (wanted : Wanted) → IsSearched wanted held n
      → IsSearched wanted (take m held) n
  searched_front (Line endings content) free = FreeUpTo-same endings held (take m held) n at_whole free
  searched_front (Until code) lacks = λ k less is. lacks k less (at_whole k less ∙ is)
  searched_front (Part count content) free = tt

  pub ends_front : (wanted : Wanted) → EndsAt wanted held n → EndsAt wanted (take m held) n
  ends_front (Until code) (some, last, lacks) = (
    some,
    at_front (n - 1) (omega (arith, some)) ∙ last,
    λ k less is. lacks k less (at_whole k (omega (arith, less)) ∙ is),
  )
  ends_front (Line endings content) ends = IsFirstStop-same endings held (take m held) n at_whole ends
  ends_front (Part count content) ends = ends

  pub lacks_whole : (wanted : Wanted) → LacksUpTo wanted (take m held) n
      → LacksUpTo wanted held n
  lacks_whole (Line endings content) free = FreeUpTo-same endings (take m held) held n at_front free
  lacks_whole (Until code) lacks = λ k less is. lacks k less (at_front k less ∙ is)
  lacks_whole (Part count content) low = low

  pub searched_whole : (wanted : Wanted) → IsSearched wanted (take m held) n
      → IsSearched wanted held n
  searched_whole (Part count content) free = tt
  searched_whole wanted free = lacks_whole wanted free

  pub ends_whole : (wanted : Wanted) → EndsAt wanted (take m held) n → EndsAt wanted held n
  ends_whole (Until code) (some, last, lacks) = (
    some,
    at_whole (n - 1) (omega (arith, some)) ∙ last,
    λ k less is. lacks k less (at_front k (omega (arith, less)) ∙ is),
  )
  ends_whole (Line endings content) ends = IsFirstStop-same endings (take m held) held n at_front ends
  ends_whole (Part count content) ends = ends

-- no bytes may be in it
pub may_none : (wanted : Wanted) → MayHave wanted []
may_none (Line endings Any) = tt
may_none (Part count Any) = tt
may_none _ = IsAscii-nil

pub searched_none : (wanted : Wanted) (text : List ℕ) → IsSearched wanted text 0
searched_none wanted text = grind arith

-- ---- the bytes that may be in what is wanted

late : (held : List ℕ) (n i : ℕ) → IsAscii (take n held) → FirstOther held 0 (length held) i
    → n ≤ i
late held n i ascii first = grind (arith, get_or-take)

-- bytes that may be in it come before one that may not
barred_late : (wanted : Wanted) (held : List ℕ) (n i : ℕ) → MayHave wanted (take n held)
    → IsBarred wanted held i → n ≤ i
barred_late (Line endings Any) held n i may barred = absurd barred
barred_late (Part count Any) held n i may barred = absurd barred
barred_late _ held n i ascii first = late held n i ascii first

module _ (wanted : Wanted) (buffer : WindowState) (part : List ℕ)
    (usable : IsUsable wanted buffer part) where
  -- if bytes fit and may be in it, they are among them
  pub usable_least : (n : ℕ) → n ≤ length buffer.held → n ≤ buffer.size
      → MayHave wanted (take n buffer.held) → n ≤ length part
  usable_least n within fits may = grind (arith, barred_late)

-- ---- why it is not given

-- what a source has to be read for is not among the bytes, which fit
pub must_reads : (wanted : Wanted) (start size : ℕ) (held : List ℕ)
    → MustRead wanted start size held
    → (length held ≤ size) × MayHave wanted held × LacksUpTo wanted held (length held)
must_reads wanted start size held must = grind arith

module _ (wanted : Wanted) (start : ℕ) (buffer : WindowState) (part : List ℕ)
    (usable : IsUsable wanted buffer part) (lacks : LacksUpTo wanted part (length part)) where
  here : LacksUpTo wanted buffer.held (length part)
  here = grind (arith, lacks_whole)

  barred : length part < length buffer.held → length part ≢ buffer.size
      → IsOtherIn wanted buffer.size buffer.held (length part)
  barred less other = grind (arith, here)

  -- it does not fit, or has a byte that it may not have
  pub rejects : length part < length buffer.held → (is_at_end : Bool) (error : LineError)
      → IsRefusal start (length part) buffer.size error
      → Rejects wanted start buffer.size buffer.held is_at_end error
  rejects less is_at_end (error.TooLong place) (full, is) = grind (arith, here)
  rejects less is_at_end (error.NotAscii place) (other, is) = (length part, is, barred less other)
  rejects less is_at_end error.TooFar (other, far) = beyond wanted here
    where
      beyond : (wanted : Wanted) → LacksUpTo wanted buffer.held (length part)
          → IsFar wanted start buffer.held
      beyond (Part count content) here = omega (arith, here, far)
      beyond _ here =
          let back : length part + 1 - 1 ≡ length part = omega arith in
          (length part + 1, omega (arith, less), rw back here, omega (arith, far))
  rejects less is_at_end _ refusal = absurd refusal
