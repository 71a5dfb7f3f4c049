use Rattle.std.proofs.Common.{◌≡◌, ◌∙◌, ◌++◌, [], ◌∷◌, List, ℕ, ap, append_assoc, arith}
use Rattle.std.proofs.lemmas.Grind.{common_steps}
use Rattle.ascii.specs.View.{text_of}
use Rattle.example_resp.proofs.WordsLemmas.{piece_shorter, pieces_more}
use Rattle.example_resp.proofs.words.take_pieces.Goals as goal

pub pieces-smaller : goal.pieces-smaller
pieces-smaller c = piece_shorter c.args.quotes (text_of c.pieces.rest) c.in-Code.code
    (text_of c.in-Code.others) c.in-Code.ensures

pub pieces-preserved : goal.pieces-preserved
pieces-preserved c =
    let so_far = c.pieces.invariant in
    let code = c.in-Code.code in
    let pushed : c.push.new.self.items ≡ c.pieces.word.items ++ code ∷ [] =
    grind (arith, common_steps) in (
      so_far.0 ++ code ∷ [],
      pushed
          ∙ (ap (λ (text : List ℕ). text ++ code ∷ []) so_far.1
          ∙ append_assoc c.args.word.now.items so_far.0 (code ∷ [])),
      pieces_more c.args.quotes (text_of c.args.text) so_far.0 (text_of c.pieces.rest) code
          (text_of c.in-Code.others) so_far.2 c.in-Code.ensures,
    )
