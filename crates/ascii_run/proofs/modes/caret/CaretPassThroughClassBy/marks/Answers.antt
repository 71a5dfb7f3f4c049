use Rattle.std.proofs.Common.{ℕ, ◌≡◌, ltb, eqb, not, ◌&&◌, ◌||◌, true, false, cond, bit_and, bit_or}
use Rattle.std.proofs.Common.{refl, rules}
use Rattle.std.proofs.lemmas.Simd.{zip2_of_maps, zip2_splat, length-chunk}
use lib.Lanes.{chunk}
use Rattle.ascii_run.specs.Modes.Caret.{IsShown}
use Rattle.ascii.proofs.LanesLemmas.{marks_of}
use Rattle.ascii_run.proofs.modes.caret.CaretPassThroughClassBy.marks.Goals as goal

outside : (x : ℕ) → (ltb x 32 && not (eqb x 10)) || eqb x 127 ≡ true → ¬ (IsShown x)
outside x t = search rules

within : (x : ℕ) → (ltb x 32 && not (eqb x 10)) || eqb x 127 ≡ false → IsShown x
within x t = search rules

pub returns : goal.returns
returns g c =
    let n = g.row.N in
    let v = chunk c.args.at n c.args.bytes.now in
    let long = length-chunk c.args.at n c.args.bytes.now c.requires.room in
    marks_of IsShown (λ x. (ltb x 32 && not (eqb x 10)) || eqb x 127) outside within _ refl
    c.args.bytes.now c.args.at n c.requires.room c.requires.lanes c.type_inv.bytes _
    (zip2_of_maps bit_or _ _ v
    (zip2_of_maps bit_and _ _ v (zip2_splat {Y = ℕ} (λ a b. cond (ltb a b) 255 0) v n 32 long)
    (zip2_splat {Y = ℕ} (λ a b. cond (not (eqb a b)) 255 0) v n 10 long))
    (zip2_splat {Y = ℕ} (λ a b. cond (eqb a b) 255 0) v n 127 long))
