use Rattle.std.proofs.Common.{◌≡◌, ◌+◌, ◌++◌, ◌∙◌, ap, append_assoc, arith, length, map, subst, sym}
use Rattle.std.specs.Result.{is_ok}
use Rattle.std.proofs.lemmas.List.{length-append, map_push}
use Rattle.ascii.specs.ByClass.{words_by}
use Rattle.ascii.specs.Tests.{is_whitespace}
use Rattle.ascii.specs.View.{text_of}
use Rattle.ascii.proofs.ListLemmas.{map-push_front}
use Rattle.ascii_keys.proofs.FoldedMapLemmas.{same_laws}
use Rattle.ascii_keys.specs.Maps.{folded_value_at, same_folded}
use Rattle.examples.proofs.TallyLemmas.{count_fits, counts_next}
use Rattle.examples.proofs.tally.add_words.Goals as goal

pub overflow_add-branch : goal.overflow_add-branch
overflow_add-branch c =
    let before = c.requires.0 in
    let words = map text_of c.loop-word.yielded in
    let inv = c.loop-word.invariant in
    let whole = subst (λ items. words_by is_whitespace (text_of c.args.line) ≡ words ++ items)
    c.in-Some.ensures.steps.0 inv.whole in
    omega (
      arith,
      count_fits same_folded same_laws (before ++ words) (text_of c.in-Some.word)
          (folded_value_at c.loop-word.counts) (inv.counts before c.requires.1),
      length-append before words,
      c.requires.2,
      inv.fits,
      c.in_ok-get_or_insert.ensures.value,
      simp length-append at (ap length whole),
    )

pub loop-word-preserved : goal.loop-word-preserved
loop-word-preserved c =
    let taken = c.loop-word.yielded in
    let words = map text_of taken in
    let word = c.in-Some.word in
    let inv = c.loop-word.invariant in
    let whole = subst (λ items. words_by is_whitespace (text_of c.args.line) ≡ words ++ items)
    c.in-Some.ensures.steps.0 inv.whole in
    let put = c.in_ok-get_or_insert in record {
      whole = whole ∙ sym (map-push_front text_of taken word _);
      fits = inv.fits;
      counts = λ before counted. rw (map_push, ← append_assoc)
          (counts_next same_folded same_laws (before ++ words) (text_of word)
          (folded_value_at c.loop-word.counts) (inv.counts before counted) _ put.field-0.now
          put.ensures.value
          (c.get_or_insert.follows.holds (put.field-0.now + 1) (ap is_ok put.was)).values);
    }
