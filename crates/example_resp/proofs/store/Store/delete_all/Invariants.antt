use Rattle.std.proofs.Common.{◌≡◌, ◌≤◌, List, take, ℕ}
use Rattle.example_resp.specs.Store.{contents_of, removed_count, byte_lists, without}
use Rattle.example_resp.proofs.store.Store.delete_all.Given as goal

-- the keys so far were removed, and the values that they had are counted
abbrev pub invariant-loop-key : goal.invariant-loop-key
invariant-loop-key l =
    (l.count ≡ removed_count (contents_of l.fn.self) (byte_lists (take l.key-index l.keys)))
    × ((key : List ℕ) → contents_of l.self key
    ≡ without (contents_of l.fn.self) (byte_lists (take l.key-index l.keys)) key)
    × (l.count ≤ l.key-index)
