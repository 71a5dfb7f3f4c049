use Rattle.std.proofs.Common.{◌≡◌, ◌∙◌, ◌+◌, ℕ, List, [], ◌∷◌, ◌++◌, ap, append_assoc, arith, sym, take}
use Rattle.std.proofs.lemmas.List.{flat_map_more, map_push, take_more}
use Rattle.std.specs.List.{flat_map}
use Rattle.std.specs.Prelude.{codes}
use Rattle.ascii.specs.StringState.{StringState}
use Rattle.example_smtp.specs.Mail.{delivered_to, string_texts}
use Rattle.example_smtp.proofs.message.append_recipients.Goals as goal

-- a line more for a recipient
one_more : (strings : List StringState) (i : ℕ) (string : StringState) (old text mid new : List ℕ)
    → take (i + 1) strings ≡ take i strings ++ string ∷ []
    → text ≡ old ++ flat_map delivered_to (string_texts (take i strings))
    → mid ≡ text ++ codes "Delivered-To: " → new ≡ mid ++ (string.text ++ 13 ∷ 10 ∷ [])
    → new ≡ old ++ flat_map delivered_to (string_texts (take (i + 1) strings))
one_more strings i string old text mid new more so_far name line =
    line ∙ (ap (λ xs. xs ++ (string.text ++ 13 ∷ 10 ∷ [])) name
    ∙ (append_assoc text (codes "Delivered-To: ") (string.text ++ 13 ∷ 10 ∷ [])
    ∙ (ap (λ xs. xs ++ delivered_to string.text) so_far
    ∙ (flat_map_more delivered_to old (string_texts (take i strings)) string.text
    ∙ ap (λ xs. old ++ flat_map delivered_to xs) (sym (ap string_texts more
    ∙ map_push (λ (s : StringState). s.text) (take i strings) string))))))

pub loop-recipient-preserved : goal.loop-recipient-preserved
loop-recipient-preserved c = one_more c.args.recipients.now c.loop-recipient.recipient-index
    c.recipient-item.result c.args.envelope.now.text c.loop-recipient.envelope.text
    c.push_str.new.self.text c.append_line.new.text.text
    (grind (arith, take_more, c.recipient-item.is)) c.loop-recipient.invariant
    (c.in_ok-push_str.ensures.ok ∙ ap (λ xs. c.loop-recipient.envelope.text ++ xs) c.literal.ensures)
    (grind (arith, c.in_ok-append_line.ensures, c.as_ascii_str.ensures))
