use Rattle.std.proofs.Common.{ℕ, List, ◌++◌, length}
use Rattle.ascii.specs.Replace.{Replaces}
use Rattle.ascii.specs.View.{text_of}
use Rattle.ascii.proofs.ascii_str.AsciiStr.replace.Given as goal

-- whatever the rest becomes, after the copy so far it is what the view becomes
abbrev pub invariant-loop-at : goal.invariant-loop-at
invariant-loop-at g l =
    (out : List ℕ) → Replaces (text_of l.from) (text_of l.to) (text_of l.rest) out
    → Replaces (text_of l.from) (text_of l.to) (text_of l.self) (l.copy.text ++ out)

abbrev pub decreases-loop-at : goal.decreases-loop-at
decreases-loop-at g l = length (text_of l.rest)
