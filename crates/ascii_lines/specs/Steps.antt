-- What the steps of a conversation say of its input.
use Rattle.std.specs.Prelude.{ℕ, List}
use Rattle.ascii.specs.declared.iter.spans.Endings.{Endings}
use Rattle.ascii_lines.specs.Turns.{Faults, Wants}
use Rattle.ascii_lines.specs.declared.conversation.Supply.{Supply}
use Rattle.ascii_lines.specs.declared.line_reader.LineError.{LineError}
use Rattle.ascii_lines.specs.declared.serving.Next.{Next}
use Rattle.ascii_lines.specs.declared.wanted.Wanted.{Wanted}

-- the bytes, which start at the position `start` of the input, have this error in place of
-- something that was asked for
abbrev pub Explains : Endings → ℕ → Supply → ℕ → List ℕ → LineError → Type 0
Explains endings size now start text error = (asked : Next) × (what : Wanted)
    × Wants endings asked what × Faults now what start size text error
