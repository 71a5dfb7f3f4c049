use Rattle.std.proofs.Common.{arith, refl, List, ℕ}
use Rattle.ascii.specs.Parts.{WithStart}
use Rattle.ascii.specs.View.{text_of}
use Rattle.ascii.proofs.StepsLemmas.{runs_in_order, runs_in_reverse}
use Rattle.ascii.proofs.ascii_str.AsciiStr.spans_at.Goals as goal

pub returns-clause-iterates : goal.returns-clause-iterates
returns-clause-iterates g c =
    let laws = c.tell_laws.ensures in
    let part : WithStart (List ℕ) =
    record { start = c.args.offset; item = text_of c.args.self } in
    record {
      are = refl;
      fits = omega (arith, c.ranges.self, laws.fits part);
      rest = refl;
      placed = laws.placed part;
      loops = runs_in_order _ _ _;
      loops_back = runs_in_reverse _ _ _;
    }
