use Rattle.std.proofs.Common.{rules}
use Rattle.ascii.specs.View.{text_of}
use Rattle.cookbook.specs.MediaType.{HasName}
use Rattle.ascii.proofs.ListLemmas.{IsFirstAt-find}
use Rattle.cookbook.proofs.media_type.MediaType.parameter.Goals as goal

pub returns : goal.returns
returns c = IsFirstAt-find (HasName (text_of c.args.name)) c.args.self.now.parameters.items
    c.copied.result (search rules)
