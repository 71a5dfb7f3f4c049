use Rattle.std.proofs.Common.{refl}
use Rattle.ascii.specs.View.{text_of}
use Rattle.ascii.proofs.CallerLemmas.{pieces_from_last_cut}
use Rattle.tests_callers.proofs.cuts.extension.Goals as goal

pub returns : goal.returns
returns c =
    let last = text_of c.in_ok-_stem.end in
    let cut = pieces_from_last_cut 46 (text_of c.args.name) (text_of c.in_ok-_stem._stem) last
    c.in_ok-_stem.ensures in (_, cut.1, (cut.0, refl))
