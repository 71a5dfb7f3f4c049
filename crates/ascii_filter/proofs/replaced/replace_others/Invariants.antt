use Rattle.std.proofs.Common.{◌≡◌, ◌++◌, map, take, drop}
use Rattle.ascii_filter.specs.Options.{replaced}
use Rattle.ascii_filter.proofs.replaced.replace_others.Given as goal

-- the bytes before the index are replaced, the others are as they were
abbrev pub invariant-loop-byte : goal.invariant-loop-byte
invariant-loop-byte l = l.bytes ≡ map replaced (take l.byte-index l.initial.bytes)
    ++ drop l.byte-index l.initial.bytes
