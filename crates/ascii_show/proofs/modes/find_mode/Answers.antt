use Rattle.std.proofs.Common.{◌∙◌, nat_eq}
use Rattle.std.proofs.lemmas.Bool.{false≢true}
use lib.Pointwise.{pointwise}
use Rattle.ascii_show.proofs.ScriptLemmas.{no_mode_name}
use Rattle.ascii_show.proofs.modes.find_mode.Goals as goal

pub returns-in-None : goal.returns-in-None
returns-in-None c = no_mode_name c.args.name.now
    (λ is. false≢true
    (c.if-eq.ensures ∙ (λ k. pointwise nat_eq (is k) (c.name.ensures k))))
    (λ is. false≢true
    (c.if-eq-2.ensures ∙ (λ k. pointwise nat_eq (is k) (c.name-else-eq.ensures k))))
    c.in-None.ensures
