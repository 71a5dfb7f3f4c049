use Rattle.std.proofs.Common.{subst}
use Rattle.memchr.specs.Find.{IsFirstByte}
use Rattle.ascii.proofs.iter.cursor.find_near.Goals as goal

pub returns : goal.returns
returns c =
    subst (λ test. IsFirstByte test c.args.bytes.now c.find.result) c.new.ensures c.find.ensures
