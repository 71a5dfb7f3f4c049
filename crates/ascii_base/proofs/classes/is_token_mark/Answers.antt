use Rattle.std.proofs.Common.{codes, eqb}
use Rattle.std.proofs.lemmas.Bool.Decides.{Decides-eqb}
use Rattle.std.proofs.lemmas.List.Elements.{Decides-contains, contains_decides}
use Rattle.ascii_base.proofs.classes.is_token_mark.Goals as goal

pub returns : goal.returns
returns c =
    let marks = codes "!#$%&'*+-.^_`|~" in
    Decides-contains marks c.args.byte c.contains.result
    (contains_decides eqb Decides-eqb marks c.args.byte c.contains.result c.contains.ensures.cases)
