-- The words of a text that are not in a list.
use Rattle.std.specs.List.{AllZip, filter}
use Rattle.std.specs.Prelude.{◌≡◌, ◌&&◌, ℕ, Bool, List, map, not}
use Rattle.std.specs.Set.{is_member}
use Rattle.ascii.specs.ByClass.{has_some, whole, word_spans_by}
use Rattle.ascii.specs.Class.{IsPunctuation}
use Rattle.ascii.specs.Tests.{is_whitespace}
use Rattle.ascii_formats.specs.Parts.{IsTrimmed, in_whole, part_text, parts_of}
use Rattle.ascii_formats.specs.declared.parts.Part.{Part}
use Rattle.ascii_keys.specs.Maps.{same_folded}

-- `known` has what is equal to one of `words`, ignoring ASCII case, and nothing else
abbrev pub HasWords : List (List ℕ) → List (List ℕ) → Type 0
HasWords words known =
    (text : List ℕ) → is_member same_folded known text ≡ is_member same_folded words text

-- whether `word` is not empty and not equal to one of `known`, ignoring ASCII case
abbrev pub is_unknown : List (List ℕ) → Part → Bool
is_unknown known word =
    has_some (part_text word) && not (is_member same_folded known (part_text word))

-- `unknown` are the words of `text` between whitespace, without the punctuation at their ends, that
-- are unknown, in order and where the text has them
pub record AreUnknown (known : List (List ℕ)) (text : Part) (unknown : List Part) : Type 0 where
  pub words : List Part
  pub are : map in_whole words ≡ parts_of text (word_spans_by is_whitespace (whole (part_text text)))
  pub trimmed : List Part
  pub each : AllZip (IsTrimmed IsPunctuation) words trimmed
  pub kept : unknown ≡ filter (is_unknown known) trimmed
