use Rattle.std.proofs.Common.{ℕ, ◌<◌, get_or}
use Rattle.ascii_filter.specs.Quoted.{IsPlain}
use Rattle.ascii_filter.proofs.names.make_plain.Given as goal

-- the bytes so far are plain
abbrev pub invariant-loop-byte : goal.invariant-loop-byte
invariant-loop-byte l = (k : ℕ) → k < l.byte-index → IsPlain (get_or l.text k 0)
