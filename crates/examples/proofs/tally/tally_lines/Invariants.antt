use Rattle.std.proofs.Common.{◌≡◌, ◌++◌, map, string_bytes}
use Rattle.std.specs.List.{flat_map}
use Rattle.ascii_keys.specs.Maps.{entry_of}
use Rattle.examples.specs.Tally.{count_line}
use Rattle.examples.proofs.tally.tally_lines.Given as goal

-- the lines are those of the entries so far, and after those come the ones that are left
abbrev pub invariant-loop-word : goal.invariant-loop-word
invariant-loop-word l = record {
  whole : l.counts ≡ map entry_of l.yielded ++ l.word-iterator;
  lines : string_bytes l.lines ≡ flat_map count_line (map entry_of l.yielded);
}
