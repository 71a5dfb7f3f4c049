use Rattle.std.proofs.Common.{◌≡◌, ◌∙◌, false, refl, sym, true}
use Rattle.ascii.specs.View.{text_of}
use Rattle.example_smtp.proofs.PathLemmas.{mailbox_parts}
use Rattle.example_smtp.proofs.paths.is_mailbox.Goals as goal

pub returns-then-is_name : goal.returns-then-is_name
returns-then-is_name c = (
  λ located. (
    text_of c.in-Some.name,
    text_of c.in-Some.domain,
    c.in-Some.ensures,
    c.if-is_name.ensures.0 refl,
    c.is_domain.ensures.0 located,
  ),
  λ mailbox. c.is_domain.ensures.1 (mailbox_parts _ _ _ c.in-Some.ensures mailbox).1,
)

pub returns-else-is_name : goal.returns-else-is_name
returns-else-is_name c = (
  λ named. absurd (let clash : true ≡ false = sym named ∙ c.if-is_name.false in cc),
  λ mailbox. c.is_name.ensures.1 (mailbox_parts _ _ _ c.in-Some.ensures mailbox).0,
)
