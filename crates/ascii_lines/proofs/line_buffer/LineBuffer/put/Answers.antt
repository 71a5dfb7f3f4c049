use Rattle.std.proofs.Common.{rules, ◌≡◌, ◌⊎◌, ◌+◌, ◌++◌, length-append, ap, arith, drop, length}
use Rattle.std.proofs.Common.{take, ◌∙◌}
use Rattle.std.specs.List.{slice_range}
use Rattle.std.proofs.lemmas.List.{length-take-le, take_at}
use Rattle.ascii_lines.specs.LineBuffer.{WindowState}
use Rattle.ascii_lines.proofs.LineBufferLemmas.{held_more, refilled, refilled_other}
use Rattle.ascii_lines.proofs.line_buffer.LineBuffer.put.Goals as goal
use Rattle.ascii_lines.proofs.line_buffer.LineBuffer.put.Goals.{then-self, else-self}

-- the bytes of the vector after the copy
put_back : (g : _) (c : goal.After-self-2-1 g)
    → take c.self.inside.bytes.len (c.copy_behind-n.new.bytes
    ++ drop (length c.copy_behind-n.new.bytes) c.self.inside.bytes.items)
    ≡ c.copy_behind-n.new.bytes
put_back g c = grind (arith, take_at)

-- the bytes before those that were copied are unchanged
front : (g : _) (c : goal.After-self-2-1 g)
    → take c.self.inside.filled c.copy_behind-n.new.bytes
    ≡ take c.self.inside.filled c.self.inside.bytes.items
front g c = c.copy_behind-n.ensures.front ∙ ap (take c.self.inside.filled) c.deref_mut.ensures.value

pub invariant_of-self : goal.invariant_of-self
invariant_of-self g c =
    let i = c.self.inside in
    let new = c.copy_behind-n.new.bytes in
    let same : length new ≡ length i.bytes.items = grind arith in
    elim c.if-self.branch [
      | then-self w ↦
          let all : i.checked ≡ i.filled = search in
          rw (w.self-inside-is, put_back g c)
          (refilled i.bytes.items new i.filled (front g c) i.size i.given i.from
          c.copy_behind-n.result w.ascii_len.result
          (grind arith) same c.copy_behind-n.ensures.within.1
          (rw (w.deref.ensures.value, put_back g c) at w.ascii_len.ensures))
      | else-self w ↦
          rw (w.self-inside-is, put_back g c)
          (refilled_other i.bytes.items new i.filled (front g c) i.size i.given i.from i.checked
          c.copy_behind-n.result c.self.invariant (grind arith) same
          c.copy_behind-n.ensures.within.1)
    ]

pub returns : goal.returns
returns g c =
    let i = c.self.inside in
    let n = c.copy_behind-n.result in
    let new = c.copy_behind-n.new.bytes in
    let laid = c.self.invariant in
    let held : slice_range new i.from (i.filled + n)
    ≡ c.args.self.now.held ++ take n c.args.bytes.now = grind (arith, held_more, front) in
    let size = ap (λ (w : WindowState). w.size) c.self.view_is ∙ c.move_to_front.ensures.size in
    let room = ap (λ (w : WindowState). w.room) c.self.view_is ∙ c.move_to_front.ensures.room in
    let most : (n ≡ length c.args.bytes.now)
    ⊎ (length (slice_range new i.from (i.filled + n)) ≡ c.args.self.now.room) =
    grind (arith, length-append, length-take-le) in
    record {
      within = c.copy_behind-n.ensures.within.0;
      held = elim c.if-self.branch [
        | then-self w ↦ rw (w.self-inside-is, put_back g c) held
        | else-self w ↦ rw (w.self-inside-is, put_back g c) held
      ];
      most = elim c.if-self.branch [
        | then-self w ↦ rw (w.self-inside-is, put_back g c) most
        | else-self w ↦ rw (w.self-inside-is, put_back g c) most
      ];
      roomy = omega (arith, laid.roomy, size, room);
      two = omega (arith, laid.two, room);
      size = search rules;
      at_end = search rules;
    }
