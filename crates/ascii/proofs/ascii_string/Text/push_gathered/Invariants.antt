use Rattle.std.proofs.Common.{◌≡◌, ◌≤◌, ◌++◌, take}
use Rattle.ascii.proofs.ascii_string.Text.push_gathered.Given as goal

-- the old text and the codes so far
abbrev pub invariant-loop-at : goal.invariant-loop-at
invariant-loop-at g l =
    (l.self.text ≡ l.fn.self.text ++ take l.at l.codes) × (l.fn.self.capacity ≤ l.self.capacity)
