use Rattle.std.proofs.Common.{map, take}
use Rattle.std.proofs.lemmas.List.{map_push, take_more}
use Rattle.ascii_formats.specs.Parts.{part_text}
use Rattle.examples.proofs.SpellingLemmas.{has_more}
use Rattle.examples.proofs.spell.unique_words.Goals as goal

pub loop-word-preserved : goal.loop-word-preserved
loop-word-preserved c =
    let words = c.args.words.now in
    let word = c.word-item.result in
    let i = c.loop-word.word-index in
    rw (take_more words i word c.loop-word-test.true, ← c.word-item.is, map_push)
    (has_more (map part_text (take i words)) c.loop-word.unique c.insert.new.self (part_text word)
    c.loop-word.invariant (rw c.text.ensures at c.in_ok-insert.ensures.adds))
