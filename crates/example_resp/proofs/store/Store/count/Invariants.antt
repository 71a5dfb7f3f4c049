use Rattle.std.proofs.Common.{◌≡◌, ◌≤◌, take}
use Rattle.example_resp.specs.Store.{contents_of, byte_lists, value_count}
use Rattle.example_resp.proofs.store.Store.count.Given as goal

-- the keys so far were counted
abbrev pub invariant-loop-key : goal.invariant-loop-key
invariant-loop-key l =
    (l.count ≡ value_count (contents_of l.fn.self) (byte_lists (take l.key-index l.keys)))
    × (l.count ≤ l.key-index)
