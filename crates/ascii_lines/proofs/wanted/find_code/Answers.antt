use Rattle.std.proofs.Common.{arith, eq-eqb, eqb-true, inl, inr, ◌≡◌, ◌+◌, ◌-◌}
use Rattle.std.proofs.lemmas.Bool.{cases_lt}
use Rattle.memchr.specs.Find.{is_byte}
use Rattle.ascii.proofs.EndingsLemmas.{first_passes, none_passes}
use Rattle.ascii_lines.proofs.wanted.find_code.Goals as goal

pub returns-in-Some : goal.returns-in-Some
returns-in-Some c =
    let from = c.args.searched in
    let found = first_passes c.args.text.now from c.requires.within (is_byte c.args.code)
    c.in-Some.place c.in-Some.ensures in
    let back : from + c.in-Some.place + 1 - 1 ≡ from + c.in-Some.place = omega arith in (
      omega (arith, found.0.high),
      (
        omega arith,
        rw back (eqb-true _ _ found.1),
        λ k less is. elim (cases_lt k from) [
          | inl early ↦ c.requires.searched k early is
          | inr late ↦ found.0.before k late (omega (arith, less)) (eq-eqb _ _ is)
        ],
      ),
    )

pub returns-in-None : goal.returns-in-None
returns-in-None c =
    let none = none_passes c.args.text.now c.args.searched c.requires.within (is_byte c.args.code)
    c.in-None.ensures in
    λ k less is. elim (cases_lt k c.args.searched) [
      | inl early ↦ c.requires.searched k early is
      | inr late ↦ none k late less (eq-eqb _ _ is)
    ]
