use Rattle.std.proofs.lemmas.Str.{IsAscii-take, IsAscii-drop, IsAscii-append}
use Rattle.ascii.proofs.ascii_string.Text.insert_str.Goals as goal

pub invariant_of-self-2 : goal.invariant_of-self-2
invariant_of-self-2 g c = rw c.in_ok-insert_bytes.ensures.ok
    (search (IsAscii-append, IsAscii-take, IsAscii-drop))
