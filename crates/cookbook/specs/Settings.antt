-- The lines of a settings file: `key = value # comment`.
use Rattle.std.specs.Prelude.{◌≡◌, ◌≢◌, ℕ, ◌<◌, ◌⊎◌, List, [], length, drop, MatchOption}
use Rattle.std.specs.Prelude.{MatchResult, Option}
use Rattle.std.specs.Prelude.{◌+◌, Err, Ok, ⊤}
use Rattle.std.specs.List.{All, AllZip, Contains, filter_map}
use Rattle.std.specs.declared.alloc.Global.{Global}
use Rattle.std.specs.declared.result.Result.{Result}
use Rattle.std.specs.declared.vec.Vec.{Vec}
use Rattle.ascii.specs.First.{IsFirstAt}
use Rattle.ascii.specs.Lines.{Line}
use Rattle.ascii_formats.specs.Places.{place_at}
use Rattle.ascii.specs.Spans.{LineSpansOf, WithStart}
use Rattle.ascii_formats.specs.declared.places.Fault.{Fault}
use Rattle.ascii.specs.Class.{IsWhitespace}
use Rattle.ascii.specs.Trim.{Trims, TrimsStart}
use Rattle.ascii.specs.View.{text_of}
use Rattle.ascii.specs.Search.{IsCutAt}
use Rattle.cookbook.specs.declared.settings.Setting.{Setting}
use Rattle.cookbook.specs.declared.settings.SettingError.{SettingError}
use Rattle.cookbook.specs.declared.settings.SettingError.TheVariants.{NoEquals, NoKey}
use Rattle.cookbook.specs.declared.settings.SettingFault.{SettingFault}
use Rattle.cookbook.specs.declared.settings.SettingFault.TheVariants as what
use Rattle.cookbook.specs.declared.settings.SettingsError.{SettingsError}
use Rattle.cookbook.specs.declared.settings.SettingsError.TheVariants.{At, Memory}

-- `body` is `line` without its comment, which starts at the first `#`
abbrev pub IsWithoutComment : List ℕ → List ℕ → Type 0
IsWithoutComment line body = ((comment : List ℕ) × IsCutAt 35 line body comment)
    ⊎ ((body ≡ line) × ¬ (Contains line 35))

-- the key is the part of `body` before its first `=`, and the value the part after it, both without
-- leading and trailing whitespace; the key is not empty
abbrev pub IsSetting : List ℕ → Setting → Type 0
IsSetting body setting = (before : List ℕ) × (after : List ℕ) × IsCutAt 61 body before after
    × Trims IsWhitespace before (text_of setting.key)
    × Trims IsWhitespace after (text_of setting.value) × (text_of setting.key ≢ [])

-- why `body` is not a setting. `NoEquals`: it contains no `=`, and its first code that is not
-- whitespace is at the position `place`. `NoKey`: only whitespace is before its first `=`, which is
-- at the position `place`
abbrev pub IsSettingError : List ℕ → SettingError → Type 0
IsSettingError body (NoEquals place) =
    ¬ (Contains body 61) × (place < length body)
    × TrimsStart IsWhitespace body (drop place body)
IsSettingError body (NoKey place) = (before : List ℕ) × (after : List ℕ)
    × IsCutAt 61 body before after × All IsWhitespace before × (place ≡ length before)

-- what `line` says without its comment. `Ok`: `None` if only whitespace is left, otherwise its
-- setting. `Err`: why it is not a setting
abbrev pub ReadsSetting : List ℕ → Result (Option Setting) SettingError → Type 0
ReadsSetting line result = (body : List ℕ) × IsWithoutComment line body
    × MatchResult result (λ found. MatchOption found (All IsWhitespace body) (IsSetting body))
    (IsSettingError body)

-- ---- a file

-- the position that an error of a line has in it
abbrev pub position_of : SettingError → ℕ
position_of (NoEquals place) = place
position_of (NoKey place) = place

-- what an error of a line says, without its position
abbrev pub what_of : SettingError → SettingFault
what_of (NoEquals place) = what.NoEquals
what_of (NoKey place) = what.NoKey

-- the body of `line` says `found`: a setting, or nothing
abbrev pub Says : WithStart Line → Option Setting → Type 0
Says line found = ReadsSetting line.item.body (Ok found)

-- `fault` is the error of `line`, at its line and column in `text`
abbrev pub IsFaultOf : List ℕ → WithStart Line → Fault SettingFault → Type 0
IsFaultOf text line fault = (error : SettingError) × ReadsSetting line.item.body (Err error)
    × (fault ≡ record {
      place = place_at text (line.start + position_of error);
      what = what_of error;
    })

-- why `lines`, those of `text`, are not all settings. `At`: the fault is that of the first line
-- that is none. `Memory` says nothing of them
abbrev pub IsSettingsError : List ℕ → List (WithStart Line) → SettingsError → Type 0
IsSettingsError text lines (At fault) = (number : ℕ) × IsFirstAt
    (λ line. (found : Option Setting) × Says line found) (λ line. IsFaultOf text line fault)
    lines number
IsSettingsError text lines Memory = ⊤

-- `Ok`: the settings that the lines of `text` say, in order. `Err`: why not all lines are settings,
-- or `Memory`
abbrev pub ReadsSettings : List ℕ → Result (Vec Setting Global) SettingsError → Type 0
ReadsSettings text result = (lines : List (WithStart Line)) × LineSpansOf 0 text lines
    × MatchResult result (λ settings. (found : List (Option Setting)) × AllZip Says lines found
    × (settings.items ≡ filter_map (λ it. it) found))
    (IsSettingsError text lines)
