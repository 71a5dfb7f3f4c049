use Rattle.std.proofs.Common.{inl, inr, refl}
use Rattle.std.proofs.lemmas.Bool.{false≢true}
use Rattle.example_smtp.proofs.commands.is_request_line.Goals as goal

pub returns-then-starts_with-3 : goal.returns-then-starts_with-3
returns-then-starts_with-3 c = (
  λ is. inr (inr (inl ((rw c.literal-3.ensures at c.if-starts_with-3.ensures).0 refl))),
  λ is. refl,
)

pub returns-then-starts_with-4 : goal.returns-then-starts_with-4
returns-then-starts_with-4 c = (
  λ is. inr (inr (inr (inl ((rw c.literal-4.ensures at c.if-starts_with-4.ensures).0 refl)))),
  λ is. refl,
)

pub returns : goal.returns
returns c =
    let last = rw c.literal-5.ensures at c.starts_with-5.ensures in (
      λ is. inr (inr (inr (inr (last.0 is)))),
      λ is. elim is [
        | inl get ↦
            absurd (false≢true ((rw c.literal.ensures at c.if-starts_with.ensures).1 get))
        | inr (inl post) ↦
            absurd (false≢true ((rw c.literal-2.ensures at c.if-starts_with-2.ensures).1 post))
        | inr (inr (inl put)) ↦
            absurd (false≢true ((rw c.literal-3.ensures at c.if-starts_with-3.ensures).1 put))
        | inr (inr (inr (inl head))) ↦
            absurd (false≢true ((rw c.literal-4.ensures at c.if-starts_with-4.ensures).1 head))
        | inr (inr (inr (inr connect))) ↦ last.1 connect
      ],
    )
