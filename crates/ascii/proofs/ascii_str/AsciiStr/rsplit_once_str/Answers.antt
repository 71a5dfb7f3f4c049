use Rattle.ascii.specs.View.{text_of}
use Rattle.ascii.proofs.CutLemmas.{cut_at_last_text}
use Rattle.ascii.proofs.ascii_str.AsciiStr.rsplit_once_str.Goals as goal

pub returns : goal.returns
returns c = rw (c.slice.ensures, c.slice-2.ensures, c.len.ensures)
    (cut_at_last_text (text_of c.args.self) (text_of c.args.needle) c.in_ok-start.start
    c.in_ok-start.ensures)
