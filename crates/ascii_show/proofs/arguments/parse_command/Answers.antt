use Rattle.std.proofs.Common.{rules, ◌∷◌, ◌≡◌, arith}
use Rattle.std.proofs.lemmas.Grind.{common_steps}
use Rattle.ascii.specs.View.{text_of}
use Rattle.ascii_show.proofs.WordLemmas.{no_other_word, insertion_word}
use Rattle.ascii_show.proofs.arguments.parse_command.Goals as goal

pub returns-in_err-arg : goal.returns-in_err-arg
returns-in_err-arg c = rw c.from_residual.ensures (search (rules, no_other_word))

pub returns-in-105 : goal.returns-in-105
returns-in-105 c =
    let word : c.args.arg.now ≡ 105 ∷ text_of c.slice-rest.result = grind (arith, common_steps) in
    rw word (insertion_word (text_of c.slice-rest.result) c.parse_insertion.result
    c.parse_insertion.ensures)
