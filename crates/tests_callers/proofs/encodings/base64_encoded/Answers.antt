use Rattle.base64.proofs.EngineFacts.{IsAscii-encode_of}
use Rattle.base64.specs.Engines.{standard}
use Rattle.tests_callers.proofs.encodings.base64_encoded.Goals as goal

pub from_ascii_unchecked-requires : goal.from_ascii_unchecked-requires
from_ascii_unchecked-requires c =
    rw (c.into_bytes.ensures.value, c.in_ok-text.ensures.text) (IsAscii-encode_of standard _)
