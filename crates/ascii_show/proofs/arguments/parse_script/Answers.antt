use Rattle.std.proofs.Common.{refl, arith}
use Rattle.ascii_show.proofs.ScriptLemmas.{no_script}
use Rattle.ascii_show.proofs.arguments.parse_script.Goals as goal

pub returns-in_default : goal.returns-in_default
returns-in_default g c = (
  refl,
  no_script c.args.script.now c.loop-letter.letter-index
      (omega (arith, c.loop-letter-test.true)) c.in_default.ensures,
)
