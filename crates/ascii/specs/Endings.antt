-- The bytes of a line, and where it ends.
use Rattle.std.specs.Prelude.{◌≡◌, ◌≢◌, ◌⊎◌, ℕ, ◌+◌, ◌-◌, ◌<◌, List, length, slice_index}
use Rattle.std.specs.Prelude.{Bool, None, Some, ⊤}
use Rattle.std.specs.declared.option.Option.{Option}
use Rattle.memchr.specs.Find.{is_byte2}
use Rattle.ascii.specs.Lines.{IsCrLfAt}
use Rattle.ascii.specs.declared.iter.spans.Endings.{Endings}
use Rattle.ascii.specs.declared.iter.spans.Endings.TheVariants.{Any, CrLf, CrLfStrict}

-- the code is CR or LF
abbrev pub IsLineBreak : ℕ → Type 0
IsLineBreak code = (code ≡ 13) ⊎ (code ≡ 10)

-- whether it is
abbrev pub is_line_break : ℕ → Bool
is_line_break = is_byte2 13 10

-- the byte at `k` ends a line, or shows a lone CR or LF. With `Any` it is LF, with `CrLf` it is LF
-- after a CR, with `CrLfStrict` it is LF or comes after a CR
abbrev pub StopsAt : Endings → List ℕ → ℕ → Type 0
StopsAt Any text k = slice_index text k ≡ 10
StopsAt CrLf text k = IsCrLfAt text k
StopsAt CrLfStrict text k =
    (slice_index text k ≡ 10) ⊎ ((0 < k) × (slice_index text (k - 1) ≡ 13))

-- none of the first `n` bytes ends a line or shows a lone CR or LF
abbrev pub FreeUpTo : Endings → List ℕ → ℕ → Type 0
FreeUpTo kind text n = (k : ℕ) → k < n → ¬ (StopsAt kind text k)

-- the endings by which any text has lines, and by which those of `kind` are the same lines
abbrev pub any_text : Endings → Endings
any_text Any = Any
any_text kind = CrLf

-- the last of the first `n` bytes is the first that ends a line or shows a lone CR or LF
pub record IsFirstStop (kind : Endings) (text : List ℕ) (n : ℕ) : Type 0 where
  pub some : 0 < n
  pub last : StopsAt kind text (n - 1)
  pub free : FreeUpTo kind text (n - 1)

-- with `CrLfStrict`, the bytes end in CR LF, or neither of the last two is CR and the last is not
-- LF
abbrev pub IsWhole : Endings → List ℕ → Type 0
IsWhole CrLfStrict bytes = IsCrLfAt bytes (length bytes - 1)
    ⊎ ((slice_index bytes (length bytes - 1) ≢ 10) × (slice_index bytes (length bytes - 1) ≢ 13)
    × (slice_index bytes (length bytes - 2) ≢ 13))
IsWhole kind bytes = ⊤

-- the position of a lone CR or LF among the last two of `bytes`, if there is one
abbrev pub FindsLoneBreak : Endings → List ℕ → Option ℕ → Type 0
FindsLoneBreak kind bytes None = IsWhole kind bytes
FindsLoneBreak kind bytes (Some i) = (kind ≡ CrLfStrict)
    × (((length bytes ≡ i + 1) × (slice_index bytes i ≡ 10) × ¬ (IsCrLfAt bytes i))
    ⊎ ((length bytes ≡ i + 2) × (slice_index bytes i ≡ 13) × (slice_index bytes (i + 1) ≢ 10))
    ⊎ ((length bytes ≡ i + 1) × (slice_index bytes i ≡ 13)
    × ((k : ℕ) → length bytes ≡ k + 2 → slice_index bytes k ≢ 13)))

-- `bytes` is not empty, only its last byte may end a line, and it has no lone CR or LF by `endings`
abbrev pub IsOneLine : Endings → List ℕ → Type 0
IsOneLine endings bytes = (0 < length bytes) × FreeUpTo endings bytes (length bytes - 1)
    × IsWhole endings bytes
