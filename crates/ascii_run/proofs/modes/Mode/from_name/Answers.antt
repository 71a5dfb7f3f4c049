use Rattle.std.proofs.Common.{◌∙◌, ap, nat_eq}
use Rattle.std.proofs.lemmas.Bool.{false≢true}
use Rattle.std.specs.Prelude.{codes}
use lib.Pointwise.{pointwise}
use Rattle.ascii_run.proofs.NameLemmas.{no_plain_name}
use Rattle.ascii_run.proofs.modes.Mode.from_name.Goals as goal

pub returns-in_default : goal.returns-in_default
returns-in_default c = no_plain_name c.args.name.now
    (λ is. false≢true (c.if-eq.ensures ∙ ap (λ word. pointwise nat_eq word (codes "tac")) is))
    c.in_default.ensures
