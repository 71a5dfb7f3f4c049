use Rattle.std.proofs.Common.{ℕ, inl, inr, subst}
use Rattle.ascii_formats.specs.Parts.{IsTaken, part_text}
use Rattle.ascii_formats.specs.declared.parts.Part.{Part}
use Rattle.examples.specs.Log.{IsField, IsInstant}
use Rattle.examples.proofs.syslog.read_message.Goals as goal
use Rattle.examples.proofs.syslog.read_message.Goals.{else-not-is_empty}
use Rattle.examples.proofs.syslog.read_message.Goals.{then-not-is_empty+in_ok-expect-9}

-- what was taken is a field
field : (Is : ℕ → Type 0) (most : ℕ) (part : Part) (sides : Part × Part)
    → IsTaken Is most part sides → IsField Is most sides.0
field Is most part sides taken =
    record { some = taken.some; short = taken.short; within = taken.span.within }

pub returns : goal.returns
returns c = record {
  joined = rw (
    c.in_ok-elements.ensures.1.joined,
    c.in_ok-expect-8.ensures.followed.joined,
    c.in_ok-id.ensures.taken.followed.joined,
    c.in_ok-expect-7.ensures.followed.joined,
    c.in_ok-process.ensures.taken.followed.joined,
    c.in_ok-expect-6.ensures.followed.joined,
    c.in_ok-app.ensures.taken.followed.joined,
    c.in_ok-expect-5.ensures.followed.joined,
    c.in_ok-host.ensures.taken.followed.joined,
    c.in_ok-expect-4.ensures.followed.joined,
    c.in_ok-time.ensures.taken.followed.joined,
    c.in_ok-expect-3.ensures.followed.joined,
    c.in_ok-version.ensures.1.joined,
    c.in_ok-expect-2.ensures.followed.joined,
    c.in_ok-priority.ensures.1.joined,
    c.in_ok-expect.ensures.followed.joined,
  ) c.of.ensures.text;
  priority = c.in_ok-priority.ensures.0;
  version = c.in_ok-version.ensures.0;
  time = field _ _ _ _ c.in_ok-time.ensures.taken;
  instant = subst (λ text. IsInstant text c.in-Ok.instant) c.text.ensures c.in-Ok.ensures;
  host = field _ _ _ _ c.in_ok-host.ensures.taken;
  app = field _ _ _ _ c.in_ok-app.ensures.taken;
  process = field _ _ _ _ c.in_ok-process.ensures.taken;
  id = field _ _ _ _ c.in_ok-id.ensures.taken;
  elements = c.in_ok-elements.ensures.0;
  text = elim c.if-not-is_empty.branch [
    | then-not-is_empty+in_ok-expect-9 w ↦ inr
        (part_text w.in_ok-expect-9.field-0, w.in_ok-expect-9.ensures.followed.joined)
    | else-not-is_empty w ↦ inl
        (c.is_empty.ensures.text.0 w.if-not-is_empty.false)
  ];
}
