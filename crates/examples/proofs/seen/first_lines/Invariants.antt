use Rattle.std.proofs.Common.{◌≡◌, ℕ, ◌++◌, List, [], map, string_bytes}
use Rattle.std.specs.List.{flat_map}
use Rattle.std.specs.Set.{is_member}
use Rattle.std.specs.Str.{bytes_eq}
use Rattle.ascii.specs.Lines.{Line, LinesOf, bodies}
use Rattle.ascii.specs.View.{text_of}
use Rattle.examples.specs.Seen.{firsts, last_paragraph, seen_line}
use Rattle.examples.proofs.seen.first_lines.Given as goal

-- the lines of the last paragraph so far are those of the set, and the first of all so far are printed
abbrev pub invariant-loop-line : goal.invariant-loop-line
invariant-loop-line l = record {
  lines : List Line;
  are : LinesOf (text_of l.text) lines;
  whole : bodies lines ≡ map text_of l.yielded ++ bodies l.line-iterator;
  seen : (text : List ℕ) → is_member bytes_eq l.seen text
      ≡ is_member bytes_eq (last_paragraph (map text_of l.yielded)) text;
  printed : string_bytes l.printed ≡ flat_map seen_line (firsts [] (map text_of l.yielded));
}
