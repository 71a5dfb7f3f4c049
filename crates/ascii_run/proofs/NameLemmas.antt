-- The modes by their names.
use Rattle.std.proofs.Common.{◌≢◌, ℕ, List}
use Rattle.std.specs.Prelude.{codes}
use Rattle.ascii_run.specs.declared.bounded.BoundedMode.TheVariants as bounded
use Rattle.ascii_run.specs.declared.modes.Mode.TheVariants as mode
use Rattle.ascii_run.specs.Names.{IsBoundedName, IsPlainName}

-- a name that is that of no mode in bounded memory and not `tac`
pub no_plain_name : (word : List ℕ) → word ≢ codes "tac" → ¬ (IsBoundedName word)
    → ¬ (IsPlainName word)
no_plain_name word other none (mode.Copy, plain, is) = none (bounded.Copy, is)
no_plain_name word other none (mode.Lines, plain, is) = none (bounded.Lines, is)
no_plain_name word other none (mode.Tac, plain, is) = other is
no_plain_name word other none (mode.Caret, plain, is) = none (bounded.Caret, is)
no_plain_name word other none (mode.Ends script, plain, is) = plain
no_plain_name word other none (mode.EndsSpans script, plain, is) = plain
no_plain_name word other none (mode.Edit cmds, plain, is) = plain
no_plain_name word other none (mode.Json, plain, is) = none (bounded.Json, is)
