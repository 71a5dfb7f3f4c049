use Rattle.std.proofs.lemmas.List.{take-replicate}
use Rattle.ascii_devices.proofs.buffered.zeros_up_to.Goals as goal

pub returns : goal.returns
returns c = take-replicate c.args.n 1024 0 c.requires
