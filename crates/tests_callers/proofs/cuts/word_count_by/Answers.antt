use Rattle.std.proofs.Common.{rules}
use Rattle.ascii.specs.ByClass.{words_by}
use Rattle.ascii.specs.View.{text_of}
use Rattle.ascii.proofs.ByClassLemmas.{words_by_are_words}
use Rattle.tests_callers.proofs.cuts.word_count_by.Goals as goal

pub returns : goal.returns
returns g c =
    let class = g.C.Class in
    let text = text_of c.args.view in
    (words_by class.test text, words_by_are_words class.is class.test g.met.C.Class.decides text, search rules)
