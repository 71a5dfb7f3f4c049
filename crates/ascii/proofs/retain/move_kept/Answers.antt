use Rattle.std.proofs.Common.{of_calls, ◌≡◌, cond, Bool, true, arith}
use Rattle.std.proofs.lemmas.Grind.{common_steps}
use Rattle.ascii.proofs.RetainLemmas.{keeps_next, keeps_none}
use mir.Val.{bool_byte}
use Rattle.ascii.proofs.retain.move_kept.Goals as goal

count : (b : Bool) → cond b 1 0 ≡ bool_byte b
count b = grind arith

pub loop-at-init : goal.loop-at-init
loop-at-init g c = (keeps_none _ _ _, c.requires.ascii, c.requires.callable)

pub loop-at-preserved : goal.loop-at-preserved
loop-at-preserved g c =
    let at = c.loop-at in (
      keeps_next _ c.args.keep at.keep c.keep-stays.new.self c.args.bytes.now at.bytes at.kept
          at.at c.keep-stays.result c.from_ascii_unchecked-ch.result _ _ c.loop-at-test.true
          at.auto.bytes c.from_ascii_unchecked-ch.ensures c.as_byte.ensures.code
          (count c.keep-stays.result) at.invariant.0 c.keep-stays.ensures,
      λ i. grind (arith, common_steps, at.invariant.1 i, c.as_byte.ensures.small),
      search of_calls,
    )
