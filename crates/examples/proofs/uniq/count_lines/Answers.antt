use Rattle.std.proofs.Common.{◌≡◌, ◌+◌, ◌++◌, ◌∙◌, ap, map, subst, sym, unwrap_or}
use Rattle.std.specs.Cmp.Lexicographic.{nat_list_eq_equiv}
use Rattle.std.specs.Str.{bytes_eq}
use Rattle.std.proofs.lemmas.List.{map_push}
use Rattle.ascii.proofs.ListLemmas.{map-push_front}
use Rattle.ascii.specs.Lines.{bodies}
use Rattle.ascii.specs.View.{text_of}
use Rattle.ascii_keys.specs.Maps.{value_at}
use Rattle.examples.proofs.TallyLemmas.{counts_next}
use Rattle.examples.proofs.uniq.count_lines.Goals as goal

pub loop-line-preserved-in-Some-get_mut : goal.loop-line-preserved-in-Some-get_mut
loop-line-preserved-in-Some-get_mut c =
    let taken = c.loop-line.yielded in
    let texts = map text_of taken in
    let line = c.in-Some.line in
    let inv = c.loop-line.invariant in
    let count = c.in-Some-get_mut.count.now in
    let written = rw c.in-Some-get_mut.is at (c.get_mut.follows.holds (count + 1)) in
    record {
      lines = inv.lines;
      are = inv.are;
      fits = inv.fits;
      whole = subst (λ items. bodies inv.lines ≡ texts ++ items) c.in-Some.ensures.steps.0 inv.whole
          ∙ sym (map-push_front text_of taken line _);
      counts = rw map_push (counts_next bytes_eq nat_list_eq_equiv texts (text_of line)
          (value_at c.loop-line.counts) inv.counts _ count
          (ap (λ found. unwrap_or found 0) c.in-Some-get_mut.ensures.value) written.values);
    }

pub loop-line-preserved : goal.loop-line-preserved
loop-line-preserved c =
    let taken = c.loop-line.yielded in
    let texts = map text_of taken in
    let line = c.in-Some.line in
    let inv = c.loop-line.invariant in
    record {
      lines = inv.lines;
      are = inv.are;
      fits = inv.fits;
      whole = subst (λ items. bodies inv.lines ≡ texts ++ items) c.in-Some.ensures.steps.0 inv.whole
          ∙ sym (map-push_front text_of taken line _);
      counts = rw map_push (counts_next bytes_eq nat_list_eq_equiv texts (text_of line)
          (value_at c.loop-line.counts) inv.counts _ 0
          (ap (λ found. unwrap_or found 0) c.in-None-get_mut.ensures.value)
          (rw c.get_mut.follows.holds-at-none at c.in_ok-insert-in-None-get_mut.ensures.puts));
    }
