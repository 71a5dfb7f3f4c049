use Rattle.std.proofs.Common.{◌≡◌, take, map}
use Rattle.std.specs.Hash as fed
use Rattle.std.specs.List.{flat_map, fold}
use Rattle.ascii.specs.Case.{lower_image}
use Rattle.ascii_keys.proofs.folded.feed_lower.Given as goal

-- the bytes so far were fed
abbrev pub invariant-loop-byte : goal.invariant-loop-byte
invariant-loop-byte g l = l.state
    ≡ fold g.H.Hasher.write l.initial.state
    (flat_map fed.u8 (map lower_image (take l.byte-index l.bytes)))
