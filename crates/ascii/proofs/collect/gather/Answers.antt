use Rattle.std.proofs.Common.{◌<◌, ◌++◌, ◌∷◌, [], length, arith}
use Rattle.std.proofs.lemmas.List.{take_more_set}
use Rattle.std.proofs.lemmas.Grind.{common_steps}
use Rattle.std.proofs.lemmas.Str.{IsAscii-append}
use Rattle.ascii.proofs.ExtendLemmas.{yields_both}
use Rattle.ascii.proofs.collect.gather.Goals as goal

pub loop-at-preserved : goal.loop-at-preserved
loop-at-preserved g c =
    let l = c.loop-at in
    let ch = c.in-Some.ch in
    let nearer = c.in-Some.ensures.goes.on l.invariant.ends in
    let inside : l.at < length l.codes = omega arith in
    record {
      items = l.invariant.items ++ ch ∷ [];
      gave = grind (arith, yields_both);
      start = rw (take_more_set l.codes l.at c.as_byte.result inside) (grind (arith, common_steps));
      ascii = grind (arith, take_more_set, IsAscii-append);
      can = nearer.0;
      ends = nearer.1;
      fewer = omega (arith, nearer.2);
    }
