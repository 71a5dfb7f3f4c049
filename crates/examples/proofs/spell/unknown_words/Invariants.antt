use Rattle.std.proofs.Common.{◌≡◌, ◌++◌, List, map}
use Rattle.std.specs.List.{AllZip, filter}
use Rattle.ascii.specs.ByClass.{whole, word_spans_by}
use Rattle.ascii.specs.Class.{IsPunctuation}
use Rattle.ascii.specs.Tests.{is_whitespace}
use Rattle.ascii_formats.specs.Parts.{IsTrimmed, in_whole, part_text, parts_of}
use Rattle.ascii_formats.specs.declared.parts.Part.{Part}
use Rattle.examples.specs.Spelling.{is_unknown}
use Rattle.examples.proofs.spell.unknown_words.Given as goal

-- the unknown ones of the words so far, and after those come the words that the text has left
abbrev pub invariant-loop-part : goal.invariant-loop-part
invariant-loop-part l = record {
  are : parts_of l.text (word_spans_by is_whitespace (whole (part_text l.text)))
      ≡ map in_whole l.yielded ++ l.part-iterator;
  trimmed : List Part;
  each : AllZip (IsTrimmed IsPunctuation) l.yielded trimmed;
  kept : l.unknown.items ≡ filter (is_unknown l.known) trimmed;
}
