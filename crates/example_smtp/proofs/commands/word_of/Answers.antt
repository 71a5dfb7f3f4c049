use Rattle.example_smtp.proofs.commands.word_of.Goals as goal

pub returns-in-None : goal.returns-in-None
returns-in-None c = λ word is. (rw c.literal.ensures at c.in-None.ensures) (word, is.0)
