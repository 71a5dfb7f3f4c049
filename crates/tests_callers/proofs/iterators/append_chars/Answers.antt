use Rattle.ascii.proofs.CallerLemmas.{extends_chars}
use Rattle.ascii.specs.View.{text_of}
use Rattle.tests_callers.proofs.iterators.append_chars.Goals as goal

pub returns : goal.returns
returns c =
    extends_chars 0 c.chars.result (text_of c.args.view) c.args.string.now
    c.extend_chars.new.self c.extend_chars.result c.extend_chars.ensures.extends c.chars.ensures
