-- How often texts occur.
use Rattle.std.specs.Cmp.Lexicographic.{slice_cmp}
use Rattle.std.specs.Fmt.{decimal}
use Rattle.std.specs.List.{count_by, flat_map, reduce}
use Rattle.std.specs.List.Sorted.{IsStrictlySortedBy}
use Rattle.std.specs.Map.{keys_of, values_of}
use Rattle.std.specs.Option.{unwrap_or}
use Rattle.std.specs.Ordering.{nat_cmp}
use Rattle.std.specs.Prelude.{◌≡◌, ℕ, ◌-◌, ◌*◌, ◌^◌, ◌≤◌, Bool, List, [], ◌∷◌, ◌++◌, None, Option}
use Rattle.std.specs.Prelude.{Some, false, length, map, max, replicate, suc, zero}
use Rattle.std.specs.Str.{bytes_eq}
use Rattle.ascii.specs.ByClass.{words_by}
use Rattle.ascii.specs.Case.{lower_image}
use Rattle.ascii.specs.Lines.{Line, bodies}
use Rattle.ascii.specs.Spans.{WithStart}
use Rattle.ascii.specs.Tests.{is_whitespace}
use Rattle.ascii_keys.specs.Maps.{Entries, Values, folded_value_at, same_folded, value_at}
use Rattle.ascii_lines.specs.CollectedLines.{YieldsUntil}
use Rattle.ascii_lines.specs.LineReader.{ReaderState}
use Rattle.ascii_lines.specs.declared.line_reader.LineError.{LineError}

-- a number of times, or `None` if it is 0
abbrev pub some_times : ℕ → Option ℕ
some_times zero = None
some_times (suc n) = Some (suc n)

-- at each text, `counts` has the number of `texts` that are the same by `same`
abbrev pub CountsBy : (List ℕ → List ℕ → Bool) → List (List ℕ) → Values ℕ → Type 0
CountsBy same texts counts =
    (text : List ℕ) → counts text ≡ some_times (count_by (same text) texts)

-- ---- words

-- `counts` has the number of `words` that are equal to each text, ignoring ASCII case
abbrev pub Counts : List (List ℕ) → Entries ℕ → Type 0
Counts words counts = CountsBy same_folded words (folded_value_at counts)

-- the words of `lines`, in order
abbrev pub words_of : List (WithStart Line) → List (List ℕ)
words_of lines = flat_map (λ line. words_by is_whitespace line.item.body) lines

-- `counts` has the number of words of `lines` that are equal to each text, ignoring ASCII case
abbrev pub CountsWords : List (WithStart Line) → Entries ℕ → Type 0
CountsWords lines counts = Counts (words_of lines) counts

-- `counts` are those of so few words that one more line of words leaves them below 2 ^ 128
abbrev pub HasRoom : Entries ℕ → Type 0
HasRoom counts = (words : List (List ℕ)) × Counts words counts × (length words ≤ 2 ^ 128 - 2 ^ 64)

-- unless an allocation has failed, `counts` counts the words of `lines`, of which there are at most
-- 2 ^ 64 for each line
abbrev pub CountsUnlessFailed : Bool → List (WithStart Line) → Entries ℕ → Type 0
CountsUnlessFailed has_failed lines counts = has_failed ≡ false
    → CountsWords lines counts × (length (words_of lines) ≤ 2 ^ 64 * length lines)

-- from the state `old` to the state `new` a reader returned some lines, up to the end or an error
abbrev pub ReadsLines : ReaderState → ReaderState → Type 0
ReadsLines old new = (lines : List (WithStart Line)) × (error : Option LineError)
    × YieldsUntil old lines error new

-- the line of a word: its count, a space, and the word in lower case
abbrev pub count_line : List ℕ × ℕ → List ℕ
count_line entry = decimal entry.1 ++ 32 ∷ (map lower_image entry.0 ++ 10 ∷ [])

-- ---- lines

-- `counts` has the number of `lines` of each text
abbrev pub CountsLines : List Line → Entries ℕ → Type 0
CountsLines lines counts = CountsBy bytes_eq (bodies lines) (value_at counts)

-- the texts of `counts` ascend by their bytes
abbrev pub Ascends : Entries ℕ → Type 0
Ascends counts = IsStrictlySortedBy (slice_cmp nat_cmp) (keys_of counts)

-- the number of digits of the largest of `counts`, or 1 if there are none
abbrev pub width_of : Entries ℕ → ℕ
width_of counts = length (decimal (unwrap_or (reduce max (values_of counts)) 0))

-- what is printed of a line: its count, after spaces that fill it up to `width` characters, a
-- space, and the line
abbrev pub uniq_line : ℕ → List ℕ × ℕ → List ℕ
uniq_line width entry = let count = decimal entry.1 in
    replicate (width - length count) 32 ++ (count ++ 32 ∷ (entry.0 ++ 10 ∷ []))
