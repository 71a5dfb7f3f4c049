use Rattle.std.proofs.Common.{◌≡◌, ◌++◌, map, string_bytes}
use Rattle.std.specs.List.{flat_map}
use Rattle.ascii_keys.specs.Maps.{entry_of}
use Rattle.examples.specs.Tally.{uniq_line}
use Rattle.examples.proofs.uniq.uniq_lines.Given as goal

-- the lines are those of the entries so far, and after those come the ones that are left
abbrev pub invariant-loop-line : goal.invariant-loop-line
invariant-loop-line l = record {
  whole : l.counts ≡ map entry_of l.yielded ++ l.line-iterator;
  lines : string_bytes l.lines ≡ flat_map (uniq_line l.width) (map entry_of l.yielded);
}
