use Rattle.std.proofs.Common.{◌≡◌, ◌++◌, All, List, Ok, [], length, map}
use Rattle.std.specs.List.{AllZip, fold}
use Rattle.ascii.specs.View.{text_of}
use Rattle.ascii_formats.specs.Parts.{AreLinesOf, in_whole}
use Rattle.ascii_formats.specs.declared.parts.Part.{Part}
use Rattle.examples.specs.Entries.{IsEntryOf, IsFront, ReadsLine, after_line}
use Rattle.examples.specs.declared.ini.Parsed.{Parsed}
use Rattle.examples.proofs.ini.read_entries.Given as goal

-- what the lines so far say, and after those come the lines that the text has left
abbrev pub invariant-loop-line : goal.invariant-loop-line
invariant-loop-line l = record {
  entries : All (IsEntryOf l.text) l.entries.items;
  section : l.section.whole ≡ l.text;
  none : IsFront l.text 0 l.initial.section;
  all : Part;
  front : IsFront l.text (length (text_of l.text)) all;
  cut : AreLinesOf all (map in_whole l.yielded ++ l.line-iterator);
  parsed : List Parsed;
  each : AllZip (λ line said. ReadsLine line (Ok said)) l.yielded parsed;
  state : fold after_line (l.initial.section, []) parsed ≡ (l.section, l.entries.items);
}
