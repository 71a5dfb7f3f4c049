-- What a source gave while something was wanted, one read after another.
use Rattle.std.proofs.Common.{◌≡◌, ◌≢◌, ◌==◌, List, [], ◌∷◌, ◌++◌, ℕ, Bool, true, append_assoc}
use Rattle.std.proofs.Common.{append-nil, arith, eqb-true, false, length, refl, subst, sym, ◌⊎◌}
use Rattle.std.proofs.Common.{◌∙◌}
use Rattle.std.specs.List.{All}
use Rattle.std.proofs.lemmas.Bool.{false≢true}
use Rattle.std.proofs.lemmas.List.Elements.{All-head, All-nil, All-push, All-tail}
use Rattle.std.proofs.lemmas.Grind.{flat_map-append}
use Rattle.ascii_devices.proofs.HistoryLemmas.{Gives-nil, Gives-trans, Grows-nil, Grows-trans}
use Rattle.ascii_devices.proofs.HistoryLemmas.{read_fails, read_gives}
use Rattle.ascii_devices.specs.Devices.{Grows, read_of}
use Rattle.ascii_devices.specs.States.{Gives, SourceState, of_state}
use Rattle.ascii_lines.specs.LineBuffer.{FailsOnce, ReadsOnce}
use Rattle.ascii_lines.specs.Wanted.{Asks, Gathers, KnowsEnd, ReachesEnd, all_of}

-- a read returned bytes
abbrev IsSome : List ℕ → Type 0
IsSome read = read ≢ []

Asks-snoc : (Must : List ℕ → Type 0) (held : List ℕ) (reads : List (List ℕ)) (read : List ℕ)
    → Asks Must held reads → All IsSome reads → Must (held ++ all_of reads)
    → Asks Must held (reads ++ read ∷ [])
Asks-snoc Must held [] read asks some last = grind (arith, append-nil)
Asks-snoc Must held (r ∷ reads) read asks some last = (
  asks.0,
  λ none. absurd (All-head IsSome r reads some none),
  Asks-snoc Must (held ++ r) reads read asks.2 (All-tail IsSome r reads some)
      (subst Must (sym (append_assoc held r (all_of reads))) last),
)

-- one piece after others
all_of-snoc : (reads : List (List ℕ)) (read : List ℕ)
    → all_of (reads ++ read ∷ []) ≡ all_of reads ++ read
all_of-snoc reads read = grind (arith, flat_map-append, append-nil)

some_reads : (reads : List (List ℕ)) (read : List ℕ) → reads ++ read ∷ [] ≡ [] → ⊥
some_reads [] read none = cc
some_reads (r ∷ reads) read none = cc

-- one read more, after which one has returned no bytes or not
reaches_read : (was mid is : Bool) (reads : List (List ℕ)) (read : List ℕ)
    → ReachesEnd was reads mid → mid ≡ false → (is ≡ true → read ≡ [])
    → ReachesEnd was (reads ++ read ∷ []) is
reaches_read was mid is reads read so_far more last = grind arith

-- what a reader remembers of a read tells whether it returned bytes
pub is_none : (read : List ℕ) → (length read == 0) ≡ true → read ≡ []
is_none [] zero = refl
is_none (b ∷ read) zero = absurd (omega (arith, eqb-true (length (b ∷ read)) 0 zero))

pub is_some : (read : List ℕ) → (length read == 0) ≡ false → read ≢ []
is_some read other = grind arith

pub Gathers-nil : (Must : List ℕ → Type 0) (held : List ℕ) (is_at_end : Bool) (a : SourceState)
    → KnowsEnd is_at_end a.rest → Gathers Must held is_at_end is_at_end a a held
Gathers-nil Must held is_at_end a end = grind (arith, Gives-nil, Grows-nil, append-nil, All-nil)

module _ (Must : List ℕ → Type 0) (held : List ℕ) (was mid is : Bool) (a b c : SourceState)
    (text read : List ℕ) (so_far : Gathers Must held was mid a b text) (more : mid ≡ false)
    (kept : b.failures ≡ a.failures) (must : Must text) where
  once : Gives of_state b c read → Grows b.history c.history (read_of read) → c.aside ≡ b.aside
      → (is ≡ true → read ≡ []) → (is ≡ false → c.failures ≡ a.failures → IsSome read)
      → KnowsEnd is c.rest → Gathers Must held was is a c (text ++ read)
  once gave told aside none some end =
      let reads = so_far.reads in
      record {
        reads = reads ++ read ∷ [];
        asks = grind (arith, Asks-snoc);
        gave = subst (Gives of_state a c) (sym (all_of-snoc reads read))
            (Gives-trans of_state a b c (all_of reads) read kept so_far.gave gave);
        told = grind (arith, flat_map-append, append-nil, Grows-trans);
        all = simp (all_of-snoc reads read, so_far.all, append_assoc);
        unread = λ none. absurd (some_reads reads read none);
        aside = aside ∙ so_far.aside;
        reaches = reaches_read was mid is reads read so_far.reaches more none;
        some = λ going same. All-push IsSome reads read (so_far.some more kept) (some going same);
        end = end;
      }

  -- one read more
  pub Gathers-read : (new : List ℕ) → ReadsOnce b c read → new ≡ text ++ read
      → is ≡ (length read == 0) → Gathers Must held was is a c new
  Gathers-read new reads all last = grind (arith, once, read_gives, is_none, is_some)

-- a read more, which failed, or was not made
pub Gathers-failed : (Must : List ℕ → Type 0) (held : List ℕ) (was mid is : Bool)
    (a b c : SourceState) (text new : List ℕ) → Gathers Must held was mid a b text → mid ≡ false
    → b.failures ≡ a.failures → Must text → FailsOnce b c ⊎ (c ≡ b) → new ≡ text → is ≡ mid
    → Gathers Must held was is a c new
Gathers-failed Must held was mid is a b c text new so_far more kept must given all last =
    grind (arith, append-nil text, once, read_fails, false≢true)

-- how many reads may yet return no bytes
abbrev pub reads_left : Bool → ℕ
reads_left true = 0
reads_left false = 1
