use Rattle.std.proofs.Common.{◌≡◌, ◌∙◌, ◌≢◌, ◌++◌, [], ◌∷◌, List, ℕ, ap, arith, subst, sym}
use Rattle.std.proofs.lemmas.Bool.{false≢true}
use Rattle.std.proofs.lemmas.Grind.{common_steps}
use Rattle.std.proofs.lemmas.List.{map-append}
use Rattle.std.specs.declared.alloc.Global.{Global}
use Rattle.std.specs.declared.vec.Vec.{Vec}
use Rattle.ascii.specs.View.{text_of}
use Rattle.example_resp.specs.Store.{byte_lists}
use Rattle.example_resp.specs.Words.{TakesWords}
use Rattle.example_resp.proofs.WordsLemmas.{trimmed_shorter, word_shorter, words_more}
use Rattle.example_resp.proofs.words.split_words.Goals as goal

pub words-smaller : goal.words-smaller
words-smaller c =
    let some : text_of c.words.rest ≢ [] =
    λ none. false≢true (sym c.words-test.true ∙ c.is_empty.ensures.1 none) in
    omega (
      arith,
      word_shorter (text_of c.words.rest) c.take_word.new.word.items
          (text_of c.in_ok-take_word.field-0) c.in_ok-take_word.ensures some c.words.invariant.3,
      trimmed_shorter (text_of c.in_ok-take_word.field-0) (text_of c.trim_start-rest-in-words.result)
          c.trim_start-rest-in-words.ensures,
    )

pub words-preserved : goal.words-preserved
words-preserved c =
    let so_far = c.words.invariant in
    let rest = text_of c.words.rest in
    let word = c.take_word.new.word in
    let some : rest ≢ [] =
    λ none. false≢true (sym c.words-test.true ∙ c.is_empty.ensures.1 none) in
    let pushed : c.push.new.self.items ≡ c.words.words.items ++ word ∷ [] =
    grind (arith, common_steps) in
    let texts : byte_lists c.push.new.self.items
    ≡ byte_lists c.words.words.items ++ word.items ∷ [] =
    ap byte_lists pushed
    ∙ map-append (λ (word : Vec ℕ Global). word.items) c.words.words.items (word ∷ []) in (
      so_far.0,
      so_far.1,
      subst
          (λ (words : List (List ℕ)). TakesWords so_far.0 words
          (text_of c.trim_start-rest-in-words.result)) (sym texts)
          (words_more so_far.0 (byte_lists c.words.words.items) rest word.items
          (text_of c.trim_start-rest-in-words.result) so_far.2 (
            text_of c.in_ok-take_word.field-0,
            c.in_ok-take_word.ensures,
            c.trim_start-rest-in-words.ensures,
            some,
          )),
      c.trim_start-rest-in-words.ensures.span.bounded,
    )
