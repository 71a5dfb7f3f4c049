use Rattle.std.proofs.Common.{arith}
use Rattle.std.proofs.lemmas.Map.Made.{is_some-lookup}
use Rattle.std.specs.Str.{bytes_eq}
use Rattle.ascii.specs.View.{text_of}
use Rattle.ascii_keys.proofs.SetLemmas.{adds_key}
use Rattle.ascii_keys.proofs.sets.AsciiSet.insert.Goals as goal

pub returns-in_err-before-clause-there : goal.returns-in_err-before-clause-there
returns-in_err-before-clause-there c = grind (arith, is_some-lookup)

pub returns-clause-added : goal.returns-clause-added
returns-clause-added c = grind (arith, is_some-lookup)

pub returns-clause-adds : goal.returns-clause-adds
returns-clause-adds c = rw (← c.self.view_is) (adds_key bytes_eq (text_of c.args.text) _
    c.self.inside.map c.insert.new.self c.in_ok-before.ensures.puts)
