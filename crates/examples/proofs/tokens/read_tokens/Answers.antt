use Rattle.std.proofs.Common.{arith, rules}
use Rattle.std.proofs.lemmas.Grind.{common_steps}
use Rattle.examples.proofs.TokensLemmas.{laid_push}
use Rattle.examples.proofs.tokens.read_tokens.Goals as goal

pub tokens-preserved : goal.tokens-preserved
tokens-preserved c =
    let taken = c.in_ok-token.ensures in
    let laid = laid_push 0 _ _ c.in_ok-token.token c.tokens.invariant.3 taken.start in (
      grind (arith, common_steps),
      grind (arith, common_steps),
      search rules,
      search (rules, rw (← taken.after) at laid, c.push.ensures),
      search rules,
    )
