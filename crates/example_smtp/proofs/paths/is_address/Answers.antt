use Rattle.std.proofs.Common.{◌∙◌, inl, inr, sym}
use Rattle.ascii.specs.View.{text_of}
use Rattle.example_smtp.proofs.PathLemmas.{no_ipv4}
use Rattle.example_smtp.proofs.paths.is_address.Goals as goal

pub returns-else-is_ok : goal.returns-else-is_ok
returns-else-is_ok c =
    let none = no_ipv4 (text_of c.args.text) c.parse_ascii.result
    (rw c.as_bytes.ensures.codes at c.parse_ascii.ensures)
    (sym c.is_ok.ensures.value ∙ c.if-is_ok.false) in (
      λ is. inr (c.is_tagged_address.ensures.0 is),
      λ is. elim is [
        | inl plain ↦ absurd (none plain.0 plain.1)
        | inr last ↦ c.is_tagged_address.ensures.1 last
      ],
    )
