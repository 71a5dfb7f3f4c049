use Rattle.std.proofs.Common.{◌≡◌, ◌++◌, ◌∙◌, ℕ, List, [], ◌∷◌, arith, refl, subst, sym}
use Rattle.std.proofs.lemmas.List.Elements.{Contains-append_right}
use Rattle.std.specs.List.{All, Contains}
use Rattle.ascii.specs.Class.{IsGraphic}
use Rattle.ascii.specs.View.{text_of}
use Rattle.example_smtp.proofs.commands.is_header.Goals as goal

-- the texts before the first colon of a text are the same
before_colon : (a b x y : List ℕ) → ¬ (Contains a 58) → ¬ (Contains b 58)
    → a ++ 58 ∷ x ≡ b ++ 58 ∷ y → a ≡ b
before_colon [] [] x y left right same = refl
before_colon [] (code ∷ b) x y left right same = absurd (right (0, grind arith, grind arith))
before_colon (code ∷ a) [] x y left right same = absurd (left (0, grind arith, grind arith))
before_colon (code ∷ a) (other ∷ b) x y left right same =
    grind (
      arith,
      before_colon a b x y (λ has. left (Contains-append_right (code ∷ []) a 58 has))
          (λ has. right (Contains-append_right (other ∷ []) b 58 has)),
    )

pub returns-then-not-is_empty : goal.returns-then-not-is_empty
returns-then-not-is_empty c =
    let cut = c.in-Some.ensures in (
      λ is. (
        text_of c.in-Some.name,
        text_of c.in-Some.field-0-1,
        cut.joined,
        grind arith,
        cut.sides,
        c.is_all.ensures.0 is,
      ),
      λ (name, text, joined, some, out, all).
          let same : name ≡ text_of c.in-Some.name =
          before_colon name (text_of c.in-Some.name) text (text_of c.in-Some.field-0-1) out cut.sides
          (joined ∙ sym cut.joined) in
          c.is_all.ensures.1 (subst (All IsGraphic) same all),
    )

pub returns-in-None : goal.returns-in-None
returns-in-None c = (
  λ is. grind arith,
  λ (name, text, joined, some, out, all). absurd (c.in-None.ensures
      (subst (λ (l : List ℕ). Contains l 58) joined
      (Contains-append_right name (58 ∷ text) 58 (0, grind arith, refl)))),
)
