-- Copies to positions of one buffer, one after another.
use Rattle.std.proofs.Common.{ℕ, ◌+◌, ◌-◌, ◌≤◌, List, ◌++◌, length, take, drop, ap, sym, ◌∙◌, arith}
use Rattle.std.proofs.Common.{append_assoc, length-append, length-take-le, length-drop, take-add}
use Rattle.std.proofs.Common.{take-take, take_at, drop_at, take_all, take-append-drop}
use Rattle.ascii_devices.specs.BufferCopy.{CopiesTo}

-- a second copy begins at the position where the first ended
pub CopiesTo-then : {a b c first second : List ℕ} {i j k : ℕ}
    → CopiesTo a b i first j → CopiesTo b c j second k → CopiesTo a c i (first ++ second) k
CopiesTo-then {a} {b} {c} {first} {second} {i} p q = grind (arith, append_assoc, length-append)

-- only the first `n` bytes of a copy count
pub CopiesTo-take : {a b bytes : List ℕ} {i j : ℕ} (n : ℕ) → i ≤ length a → n ≤ length bytes
    → CopiesTo a b i bytes j → CopiesTo a b i (take n bytes) (i + n)
CopiesTo-take {a} {b} {bytes} {i} {j} n within few p =
    let before = length-take-le i a within in
    record {
      front = sym (take-take (i + n) j b (omega (arith, p.moved)))
          ∙ ap (take (i + n)) p.front ∙ take-add i n (take i a ++ bytes)
          ∙ (grind (arith, take_at, drop_at));
      moved = omega (arith, length-take-le n bytes few);
      size = p.size;
    }

-- the first and the last `half` of the bytes, which overlap, are all of them
pub CopiesTo-ends : {a b c : List ℕ} {i j k : ℕ} (bytes : List ℕ) (half : ℕ)
    → i ≤ length a → half ≤ length bytes → length bytes ≤ half + half
    → CopiesTo a b i (take half bytes) j
    → CopiesTo b c (i + (length bytes - half)) (take half (drop (length bytes - half) bytes)) k
    → CopiesTo a c i bytes k
CopiesTo-ends {a} {b} {c} {i} {j} {k} bytes half within fits covers p q =
    let last = length bytes - half in
    let first = CopiesTo-take last within (omega (arith, length-take-le half bytes fits)) p in
    let both = CopiesTo-then first q in
    grind (arith, take-take, take_all, length-drop, take-append-drop)
