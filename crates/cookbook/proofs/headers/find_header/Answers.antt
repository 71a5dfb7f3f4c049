use Rattle.std.proofs.Common.{rules}
use Rattle.ascii.specs.View.{text_of}
use Rattle.cookbook.specs.Headers.{IsNamed}
use Rattle.ascii.proofs.ListLemmas.{IsFirstAt-find}
use Rattle.cookbook.proofs.headers.find_header.Goals as goal

pub returns : goal.returns
returns c =
    IsFirstAt-find (IsNamed (text_of c.args.name)) c.args.headers.now c.copied.result (search rules)
