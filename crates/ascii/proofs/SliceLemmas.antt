-- Positions in a part of a source, and positions in the source.
use Rattle.std.proofs.Common.{ℕ, ◌+◌, ◌-◌, ◌<◌, ◌≤◌, List, length, arith}
use Rattle.std.proofs.lemmas.Grind.{common_steps}
use Rattle.std.specs.List.{slice_range}
use Rattle.ascii_base.specs.Bytes.{FirstOther}
use Rattle.ascii_base.proofs.ListLemmas.{slice_range-at}

-- the first non-ASCII byte of a part is that of the source between the ends of the part
pub FirstOther-shift : (bytes : List ℕ) (s e i : ℕ) → e ≤ length bytes
    → FirstOther (slice_range bytes s e) 0 (length (slice_range bytes s e)) i
    → FirstOther bytes s e (s + i)
FirstOther-shift bytes s e i past first =
    let below : i < e - s = let inside = first.inside in grind (arith, common_steps) in
    record {
      at_least = omega arith;
      inside = omega arith;
      other = rw (← slice_range-at bytes s e i below) first.other;
      least = λ k from to. grind (arith, common_steps, first.least (k - s));
    }
