use Rattle.std.proofs.Common.{◌≡◌, ◌-◌, length, take}
use Rattle.cookbook.proofs.last_lines.without_last_lines.Given as goal

-- as many lines are taken off the back as turns were made
abbrev pub invariant-loop : goal.invariant-loop
invariant-loop l = l.lines ≡ take (length l.initial.lines - l.counter) l.initial.lines
