use Rattle.std.proofs.Common.{arith, refl, rules}
use Rattle.example_resp.specs.Store.{byte_lists}
use Rattle.example_resp.proofs.commands.read_command.Goals as goal

pub returns-in-None : goal.returns-in-None
returns-in-None c = (
  c.as_slice-name.result.now,
  byte_lists c.in-Some.arguments.now,
  search rules,
  c.if-is_foreign.ensures.0 refl,
)

pub returns-in-None-2 : goal.returns-in-None-2
returns-in-None-2 c = (
  search rules,
  (c.as_slice-name.result.now, byte_lists c.in-Some.arguments.now, search rules, grind arith),
)
