use Rattle.std.proofs.Common.{◌≡◌, ◌++◌}
use Rattle.std.specs.List.{flat_map}
use Rattle.ascii.specs.View.{text_of}
use Rattle.ascii.proofs.ascii_string.Text.collect_joined.Given as goal

-- the first view, and the others so far, each after a separator
abbrev pub invariant-loop-piece : goal.invariant-loop-piece
invariant-loop-piece g l = l.string.text
    ≡ l.initial.string.text ++ flat_map (λ view. text_of l.separator ++ text_of view) l.yielded
