use Rattle.percent_encoding.proofs.PercentLemmas.{IsAscii-percent_encode}
use Rattle.tests_callers.proofs.encodings.percent_encoded.Goals as goal

pub from_ascii_unchecked-requires : goal.from_ascii_unchecked-requires
from_ascii_unchecked-requires c =
    rw (
      c.into_bytes.ensures.value,
      c.in_ok-append_to.ensures.ok,
      c.new-text.ensures.bytes,
      c.percent_encode.ensures.text,
    )
    (IsAscii-percent_encode _ _)
