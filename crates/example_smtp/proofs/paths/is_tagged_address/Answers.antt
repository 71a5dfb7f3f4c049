use Rattle.ascii.specs.View.{text_of}
use Rattle.example_smtp.proofs.PathLemmas.{tagged}
use Rattle.example_smtp.proofs.paths.is_tagged_address.Goals as goal

pub returns-in-Some : goal.returns-in-Some
returns-in-Some c = rw c.is_ok.ensures.value
    (tagged (text_of c.args.text) (text_of c.in-Some.address) c.parse_ascii.result
    (rw c.literal.ensures at c.in-Some.ensures)
    (rw c.as_bytes.ensures.codes at c.parse_ascii.ensures))
