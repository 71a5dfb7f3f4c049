use Rattle.std.proofs.Common.{ℕ, ◌≡◌, ltb, eqb, ◌||◌, true, false, cond, bit_or, refl, rules}
use Rattle.std.proofs.lemmas.Simd.{zip2_of_maps, zip2_splat, length-chunk}
use lib.Lanes.{chunk}
use Rattle.ascii_run.specs.Modes.Json.{IsUnescaped}
use Rattle.ascii.proofs.LanesLemmas.{marks_of}
use Rattle.ascii_run.proofs.modes.json_string.JsonPassThroughClassBy.marks.Goals as goal

outside : (x : ℕ) → ltb x 32 || (eqb x 34 || eqb x 92) ≡ true → ¬ (IsUnescaped x)
outside x t = search rules

within : (x : ℕ) → ltb x 32 || (eqb x 34 || eqb x 92) ≡ false → IsUnescaped x
within x t = search rules

pub returns : goal.returns
returns g c =
    let n = g.row.N in
    let v = chunk c.args.at n c.args.bytes.now in
    let long = length-chunk c.args.at n c.args.bytes.now c.requires.room in
    marks_of IsUnescaped (λ x. ltb x 32 || (eqb x 34 || eqb x 92)) outside within _ refl
    c.args.bytes.now c.args.at n c.requires.room c.requires.lanes c.type_inv.bytes _
    (zip2_of_maps bit_or _ _ v (zip2_splat {Y = ℕ} (λ a b. cond (ltb a b) 255 0) v n 32 long)
    (zip2_of_maps bit_or _ _ v (zip2_splat {Y = ℕ} (λ a b. cond (eqb a b) 255 0) v n 34 long)
    (zip2_splat {Y = ℕ} (λ a b. cond (eqb a b) 255 0) v n 92 long)))
