use Rattle.std.proofs.Common.{◌≡◌, ◌++◌, ◌∙◌, arith, false, map, rules, string_bytes, subst, sym, true}
use Rattle.std.proofs.lemmas.List.{append-nil, map_push}
use Rattle.ascii.proofs.ListLemmas.{map-push_front}
use Rattle.ascii.specs.Lines.{bodies}
use Rattle.ascii.specs.View.{text_of}
use Rattle.examples.proofs.SeenLemmas.{lines_push, paragraph_gains}
use Rattle.examples.specs.Seen.{is_new, last_paragraph, seen_line}
use Rattle.examples.proofs.seen.first_lines.Goals as goal

pub loop-line-preserved-in-Continue-branch-2 : goal.loop-line-preserved-in-Continue-branch-2
loop-line-preserved-in-Continue-branch-2 c =
    let taken = c.loop-line.yielded in
    let texts = map text_of taken in
    let line = c.in-Some.line in
    let inv = c.loop-line.invariant in
    let put = c.in_ok-add_line.ensures in
    let first : is_new (last_paragraph texts) (text_of line) ≡ true =
    grind (arith, inv.seen (text_of line), put.first, c.if-branch.true) in
    let written : string_bytes c.writeln.new.self
    ≡ string_bytes c.loop-line.printed ++ seen_line (text_of line) = search rules in
    record {
      lines = inv.lines;
      are = inv.are;
      whole = subst (λ items. bodies inv.lines ≡ texts ++ items) c.in-Some.ensures.steps.0 inv.whole
          ∙ sym (map-push_front text_of taken line _);
      seen = λ text. rw map_push
          (paragraph_gains texts c.loop-line.seen _ (text_of line) inv.seen put.gains text);
      printed = rw (map_push, lines_push texts (text_of line) true first, ← inv.printed) written;
    }

pub loop-line-preserved : goal.loop-line-preserved
loop-line-preserved c =
    let taken = c.loop-line.yielded in
    let texts = map text_of taken in
    let line = c.in-Some.line in
    let inv = c.loop-line.invariant in
    let put = c.in_ok-add_line.ensures in
    let later : is_new (last_paragraph texts) (text_of line) ≡ false =
    grind (arith, inv.seen (text_of line), put.first, c.if-branch.false) in
    record {
      lines = inv.lines;
      are = inv.are;
      whole = subst (λ items. bodies inv.lines ≡ texts ++ items) c.in-Some.ensures.steps.0 inv.whole
          ∙ sym (map-push_front text_of taken line _);
      seen = λ text. rw map_push
          (paragraph_gains texts c.loop-line.seen _ (text_of line) inv.seen put.gains text);
      printed = rw (map_push, lines_push texts (text_of line) false later, ← inv.printed)
          (sym (append-nil (string_bytes c.loop-line.printed)));
    }
