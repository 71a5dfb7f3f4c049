use Rattle.std.proofs.Common.{◌≡◌, ◌≤◌, ◌++◌}
use Rattle.std.specs.List.{flat_map}
use Rattle.ascii.specs.View.{text_of}
use Rattle.ascii.proofs.ascii_string.Text.extend_strs.Given as goal

-- the old text and the views so far
abbrev pub invariant-loop-view : goal.invariant-loop-view
invariant-loop-view g l =
    (l.self.text ≡ l.fn.self.text ++ flat_map text_of l.yielded)
    × (l.fn.self.capacity ≤ l.self.capacity)
