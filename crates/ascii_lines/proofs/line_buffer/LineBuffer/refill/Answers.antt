use Rattle.std.proofs.Common.{rules, ◌≡◌, ◌+◌, ◌++◌, ap, arith, drop, length, take, ◌∙◌}
use Rattle.std.specs.List.{slice_range}
use Rattle.std.proofs.lemmas.List.{take_at}
use Rattle.ascii.proofs.ListLemmas.{length-slice_range}
use Rattle.ascii_lines.proofs.LineBufferLemmas.{held_more, refilled, refilled_other}
use Rattle.ascii_lines.proofs.line_buffer.LineBuffer.refill.Goals as goal
use Rattle.ascii_lines.proofs.line_buffer.LineBuffer.refill.Goals.{then-self, else-self}

-- the bytes of the vector after the read
put_back : (g : _) (c : goal.After-self-3-1 g)
    → take c.self.inside.bytes.len (c.read_behind.new.bytes
    ++ drop (length c.read_behind.new.bytes) c.self.inside.bytes.items)
    ≡ c.read_behind.new.bytes
put_back g c = grind (arith, take_at)

-- the bytes before the read are unchanged
front : (g : _) (c : goal.After-self-3-1 g)
    → take c.self.inside.filled c.read_behind.new.bytes
    ≡ take c.self.inside.filled c.self.inside.bytes.items
front g c = c.read_behind.ensures.front ∙ ap (take c.self.inside.filled) c.deref_mut.ensures.value

pub invariant_of-self-2 : goal.invariant_of-self-2
invariant_of-self-2 g c =
    let i = c.self.inside in
    let new = c.read_behind.new.bytes in
    let same : length new ≡ length i.bytes.items = grind arith in
    elim c.if-self.branch [
      | then-self w ↦
          let all : i.checked ≡ i.filled = search in
          rw (w.self-inside-is, put_back g c)
          (refilled i.bytes.items new i.filled (front g c) i.size i.given i.from c.in_ok-n.n
          w.ascii_len.result (grind arith) same c.in_ok-n.ensures.outcome.0
          (rw (w.deref.ensures.value, put_back g c) at w.ascii_len.ensures))
      | else-self w ↦
          rw (w.self-inside-is, put_back g c)
          (refilled_other i.bytes.items new i.filled (front g c) i.size i.given i.from i.checked
          c.in_ok-n.n c.self.invariant (grind arith) same c.in_ok-n.ensures.outcome.0)
    ]

pub returns : goal.returns
returns g c =
    let i = c.self.inside in
    let n = c.in_ok-n.n in
    let new = c.read_behind.new.bytes in
    let read = slice_range new i.filled (i.filled + n) in
    let laid = c.self.invariant in
    let held : slice_range new i.from (i.filled + n) ≡ c.args.self.now.held ++ read =
    grind (arith, held_more, front) in
    record {
      outcome = (
        read,
        c.in_ok-n.ensures.outcome.1,
        elim c.if-self.branch [
          | then-self w ↦ rw (w.self-inside-is, put_back g c) held
          | else-self w ↦ rw (w.self-inside-is, put_back g c) held
        ],
        grind (arith, length-slice_range),
      );
      size = search rules;
      room = search rules;
    }
