use Rattle.std.proofs.Common.{◌≡◌, ◌++◌, map, take, drop}
use Rattle.ascii_base.proofs.kernels.map_in_place.Given as goal

-- the bytes before the index are mapped, the others are as they were
abbrev pub invariant-loop-byte : goal.invariant-loop-byte
invariant-loop-byte g l = l.bytes ≡ map g.I.Image.image (take l.byte-index l.initial.bytes)
    ++ drop l.byte-index l.initial.bytes
