-- Lists.
use Rattle.std.proofs.Common.{◌≡◌, ℕ, ◌-◌, List, ◌++◌, length, take, drop, ◌+◌, arith, replicate}
use Rattle.std.proofs.lemmas.Grind.{common_steps}
use Rattle.std.proofs.lemmas.List.{append_assoc, length-replicate, replicate-append-replicate}
use Rattle.std.proofs.lemmas.List.{take-append-drop}

-- a prefix that was sent and the rest after it are still all of the bytes, after one more prefix
pub sent_more : (sent rest bytes : List ℕ) (n : ℕ) → sent ++ rest ≡ bytes
    → (sent ++ take n rest) ++ take (length rest - n) (drop n rest) ≡ bytes
sent_more sent rest bytes n h = grind (arith, common_steps, take-append-drop)

-- zeros, and then more of them
pub zeros_more : (items new : List ℕ) (n : ℕ) → items ≡ replicate (length items) 0
    → new ≡ items ++ replicate n 0 → new ≡ replicate (length new) 0
zeros_more items new n all more =
    grind (arith, replicate, replicate-append-replicate, length-replicate)

-- what was sent of two pieces, and what of them is held
pub append_two : (sent more held mid before first second : List ℕ)
    → sent ++ mid ≡ before ++ first → more ++ held ≡ mid ++ second
    → (sent ++ more) ++ held ≡ before ++ (first ++ second)
append_two sent more held mid before first second one two = grind (arith, append_assoc)
