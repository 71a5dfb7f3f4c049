-- The verbs, one by one.
use Rattle.std.specs.Prelude.{ℕ, List}
use Rattle.example_smtp.specs.Commands.{BeginsWithVerb}
use Rattle.example_smtp.specs.declared.commands.Verb.{Verb}
use Rattle.example_smtp.specs.declared.commands.Verb.TheVariants.{Data, Ehlo, Helo, Mail, Noop, Quit}
use Rattle.example_smtp.specs.declared.commands.Verb.TheVariants.{Rcpt, Rset, Vrfy}

-- a line that begins with none of the names does not begin with the name of a verb
pub none_begins : (line : List ℕ) → ¬ (BeginsWithVerb line Helo) → ¬ (BeginsWithVerb line Ehlo)
    → ¬ (BeginsWithVerb line Mail) → ¬ (BeginsWithVerb line Rcpt) → ¬ (BeginsWithVerb line Data)
    → ¬ (BeginsWithVerb line Rset) → ¬ (BeginsWithVerb line Vrfy) → ¬ (BeginsWithVerb line Noop)
    → ¬ (BeginsWithVerb line Quit) → (verb : Verb) → ¬ (BeginsWithVerb line verb)
none_begins line helo ehlo mail rcpt lines rset vrfy noop quit Helo = helo
none_begins line helo ehlo mail rcpt lines rset vrfy noop quit Ehlo = ehlo
none_begins line helo ehlo mail rcpt lines rset vrfy noop quit Mail = mail
none_begins line helo ehlo mail rcpt lines rset vrfy noop quit Rcpt = rcpt
none_begins line helo ehlo mail rcpt lines rset vrfy noop quit Data = lines
none_begins line helo ehlo mail rcpt lines rset vrfy noop quit Rset = rset
none_begins line helo ehlo mail rcpt lines rset vrfy noop quit Vrfy = vrfy
none_begins line helo ehlo mail rcpt lines rset vrfy noop quit Noop = noop
none_begins line helo ehlo mail rcpt lines rset vrfy noop quit Quit = quit
