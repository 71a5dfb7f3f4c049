-- The positions of the first and of the last code that is not in a class cut a text as a trim does.
use Rattle.std.proofs.Common.{◌≡◌, ℕ, ◌+◌, ◌-◌, ◌<◌, List, length, get_or, take, drop, arith}
use Rattle.std.proofs.Common.{Option, None, Some, MatchOption, unwrap_or}
use Rattle.std.specs.Option.{IfSome, option_map_or}
use Rattle.std.specs.List.{All, slice_get}
use Rattle.std.proofs.lemmas.Grind.{common_steps}
use Rattle.std.proofs.lemmas.List.{take-append-drop, take_rest, get_or-take, get_or-drop}
use Rattle.std.proofs.lemmas.List.Elements.{All-from_get_or}
use Rattle.std.proofs.lemmas.Option.{slice_get-get_or}
use Rattle.ascii_base.specs.Bytes.{IsFirstNot, IsLastNot}
use Rattle.ascii.specs.Trim.{IsSpan, TrimsEnd, TrimsStart}

module _ (Is : ℕ → Type 0) where
  -- a list whose code at a position is not in the class
  bounded_at : (t : List ℕ) (i x : ℕ) → i < length t → get_or t i 0 ≡ x → ¬ (Is x)
      → IfSome (slice_get t i) (λ c. ¬ (Is c))
  bounded_at t i x inside is other = rw (slice_get-get_or t i 0 inside, is) other

  -- a cut at the first code that is not in the class
  pub IsSpan-cut : (t : List ℕ) (r : Option ℕ) (start : ℕ)
      → MatchOption r (All Is t) (IsFirstNot Is t 0 (length t))
      → start ≡ unwrap_or r (length t) → IsSpan Is t (take start t) (drop start t)
  IsSpan-cut t None start all is = grind (arith, common_steps, take-append-drop)
  IsSpan-cut t (Some i) start first is =
      record {
        joined = take-append-drop start t;
        within = All-from_get_or Is (take start t) 0 (grind (arith, common_steps, get_or-take));
        bounded = grind (arith, bounded_at, common_steps);
      }

  -- a trim of the start
  pub TrimsStart-cut : (t : List ℕ) (r : Option ℕ) (start : ℕ)
      → MatchOption r (All Is t) (IsFirstNot Is t 0 (length t))
      → start ≡ unwrap_or r (length t) → TrimsStart Is t (take (length t - start) (drop start t))
  TrimsStart-cut t r start first is = rw (take_rest t start)
      record { cut = take start t; span = IsSpan-cut t r start first is }

  -- a trim of the end
  pub TrimsEnd-cut : (t : List ℕ) (r : Option ℕ) (end : ℕ)
      → MatchOption r (All Is t) (IsLastNot Is t)
      → end ≡ option_map_or (λ last. last + 1) r 0 → TrimsEnd Is t (take end t)
  TrimsEnd-cut t r end all is =
      grind (
        arith,
        common_steps,
        take-append-drop end t,
        All-from_get_or Is (drop end t) 0 (grind (arith, get_or-drop, common_steps)),
        get_or-drop,
        bounded_at,
      )
