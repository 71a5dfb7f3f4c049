use Rattle.std.proofs.Common.{◌≡◌, ◌++◌, List, [], ◌∷◌, append_assoc, arith, codes, ℕ}
use Rattle.ascii.specs.View.{text_of}
use Rattle.example_smtp.proofs.message.append_received.Goals as goal

-- four texts after a text
joined : (old a b c d first second third last : List ℕ) → first ≡ old ++ a → second ≡ first ++ b
    → third ≡ second ++ c → last ≡ third ++ d → last ≡ old ++ (a ++ (b ++ (c ++ d)))
joined old a b c d first second third last is_first is_second is_third is_last =
    grind (arith, append_assoc)

pub returns : goal.returns
returns c = joined c.args.envelope.now.text (codes "Received: from ") (text_of c.args.client)
    (codes " by localhost; ") (text_of c.args.date ++ 13 ∷ 10 ∷ []) c.push_str.new.self.text
    c.push_str-2.new.self.text c.push_str-3.new.self.text c.append_line.new.text.text
    (rw c.literal.ensures at c.in_ok-push_str.ensures.ok) c.in_ok-push_str-2.ensures.ok
    (rw c.literal-2.ensures at c.in_ok-push_str-3.ensures.ok) c.in_ok-append_line.ensures
