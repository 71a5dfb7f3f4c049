use Rattle.std.proofs.Common.{◌≡◌, arith, length, rules}
use Rattle.std.proofs.lemmas.Result.{err_from_is_err_and}
use Rattle.ascii_base.specs.Code.{code_of}
use Rattle.ascii.proofs.ExtendLemmas.{Extends-front, Extends-gathered, gathers_more}
use Rattle.ascii.proofs.ascii_string.Text.extend_chars.Goals as goal

pub returns-in_err-push_gathered-clause-extends : goal.returns-in_err-push_gathered-clause-extends
returns-in_err-push_gathered-clause-extends g c =
    let p = err_from_is_err_and c.from_residual.result c.from_residual.ensures.1 in
    Extends-front g.I.Iterator.next_gives code_of _ _ _ _ _ _ _ _
    c.loop-iter.invariant.so_far c.gather-count.ensures.fills _ p.0 _ p.1
    c.in_err-push_gathered.ensures

pub returns-then-count-lt-GATHERED-clause-extends :
    goal.returns-then-count-lt-GATHERED-clause-extends
returns-then-count-lt-GATHERED-clause-extends g c =
    Extends-gathered g.I.Iterator.next_gives code_of _ _ _ _ _ _ _ _
    c.loop-iter.invariant.so_far c.gather-count.ensures.fills _
    c.in_ok-push_gathered.ensures (search rules)

pub loop-iter-preserved : goal.loop-iter-preserved
loop-iter-preserved g c =
    let size : length c.gather-count.new.codes ≡ 64 = search rules in
    let full : c.gather-count.result ≡ length c.gather-count.new.codes = grind arith in
    let nearer = c.gather-count.ensures.nearer (omega arith) full in
    record {
      so_far = gathers_more g.I.Iterator.next_gives code_of _ _ _ _ _ _ _ _
          c.loop-iter.invariant.so_far c.gather-count.ensures.fills _
          c.in_ok-push_gathered.ensures full;
      size = size;
      can = nearer.0;
      ends = nearer.1;
    }
