use Rattle.std.proofs.lemmas.Bool.{false≢true}
use Rattle.example_smtp.proofs.commands.is_too_large.Goals as goal

pub returns-in-None : goal.returns-in-None
returns-in-None c = (
  λ is. absurd (false≢true is),
  λ large. let (path, size, sized, over) = large in absurd (c.in-None.ensures path size sized),
)
