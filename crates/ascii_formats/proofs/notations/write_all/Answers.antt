use Rattle.std.proofs.Common.{◌≡◌, ℕ, List, ◌∷◌, ◌++◌, append_assoc, rules, arith}
use Rattle.std.proofs.Output.{has_written_append, has_written_styled_append}
use Rattle.std.specs.List.{flat_map}
use Rattle.ascii.specs.Code.{code_of}
use Rattle.ascii_formats.proofs.notations.write_all.Goals as goal

-- what is written for the first code goes over to what has been written
one_more : (written : ℕ → List ℕ) (done old rest all : List ℕ) (n : ℕ)
    → old ≡ n ∷ rest → done ++ flat_map written old ≡ all
    → (done ++ written n) ++ flat_map written rest ≡ all
one_more written done old rest all n first is = grind (arith, append_assoc)

pub loop-ch-preserved : goal.loop-ch-preserved
loop-ch-preserved g c =
    let written = g.N.Notation.written in
    let n = code_of c.in-Some.ch in (
      λ plain.
          let now = c.loop-ch.invariant.0 plain in (
            now.0 ++ written n,
            has_written_append _ _ _ _ _ _ now.1 (search rules),
            one_more written now.0 _ _ _ n c.in-Some.ensures.steps now.2,
          ),
      λ flush.
          let now = c.loop-ch.invariant.1 flush in (
            now.0 ++ written n,
            has_written_styled_append _ _ _ _ _ _ now.1 (search rules),
            one_more written now.0 _ _ _ n c.in-Some.ensures.steps now.2,
          ),
    )
