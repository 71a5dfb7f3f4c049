use Rattle.std.proofs.Common.{◌≡◌, ◌++◌, ◌∙◌, map, subst, sym}
use Rattle.std.proofs.lemmas.List.{map_push}
use Rattle.ascii.specs.ByClass.{words_by}
use Rattle.ascii.specs.Tests.{is_whitespace}
use Rattle.ascii.specs.View.{text_of}
use Rattle.ascii.proofs.ListLemmas.{map-push_front}
use Rattle.examples.proofs.SpellingLemmas.{has_more}
use Rattle.examples.proofs.spell.read_words.Goals as goal

pub loop-word-preserved : goal.loop-word-preserved
loop-word-preserved c =
    let taken = c.loop-word.yielded in
    let words = map text_of taken in
    let word = c.in-Some.word in
    let inv = c.loop-word.invariant in
    let whole = subst (λ items. words_by is_whitespace (text_of c.args.list) ≡ words ++ items)
    c.in-Some.ensures.steps.0 inv.whole in record {
      whole = whole ∙ sym (map-push_front text_of taken word _);
      known = rw map_push (has_more words c.loop-word.known c.insert.new.self (text_of word) inv.known
          c.in_ok-insert.ensures.adds);
    }
