use Rattle.std.proofs.Common.{◌≡◌, ◌-◌, ◌≤◌, length, replicate, vec_len}
use Rattle.ascii_devices.proofs.buffered.zeros.Given as goal

-- zeros, no more than were asked for
abbrev pub invariant-parts : goal.invariant-parts
invariant-parts g l =
    (vec_len l.zeros ≤ l.count) × (l.zeros.items ≡ replicate (length l.zeros.items) 0)

-- the zeros that are left
abbrev pub decreases-parts : goal.decreases-parts
decreases-parts g l = l.count - vec_len l.zeros
