use Rattle.std.proofs.Common.{arith, rules}
use Rattle.ascii.proofs.TextLemmas.{Writes-refused}
use Rattle.ascii.proofs.ascii_string.Text.write_char.Goals as goal

pub returns-in_default : goal.returns-in_default
returns-in_default g c =
    Writes-refused _ _ _ _ (omega arith) (λ ascii. let low = ascii 0 in search rules)
