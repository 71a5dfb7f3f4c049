use Rattle.std.proofs.Common.{◌≡◌, ◌∙◌, ap, sym, refl, subst, ◌∷◌, ◌++◌}
use Rattle.std.specs.Prelude.{position}
use Rattle.ascii.specs.View.{text_of}
use Rattle.ascii_show.specs.Words.{AreDigitsOf}
use Rattle.ascii_show.proofs.InsertionLemmas.{is_colon, no_insertion, number_of_insertion, at_colon}
use Rattle.ascii_show.proofs.arguments.parse_insertion.Goals as goal

pub returns-in_err-colon : goal.returns-in_err-colon
returns-in_err-colon c = rw c.from_residual.ensures
    (λ of. no_insertion (text_of c.args.arg) of.0 of.1
    (c.in_err-colon.ensures ∙ ap (position is_colon) c.as_bytes.ensures.codes) of.2)

pub returns-in_err-idx : goal.returns-in_err-idx
returns-in_err-idx c =
    let at = c.in_ok-colon.ensures ∙ ap (position is_colon) c.as_bytes.ensures.codes in
    rw c.from_residual-in_err-idx.ensures
    (λ of. c.in_err-idx.ensures (
      of.0,
      subst (λ ds. AreDigitsOf ds of.0) (sym c.slice.ensures)
          (number_of_insertion (text_of c.args.arg) c.in_ok-colon.colon of.0 of.1 at of.2),
    ))

pub returns : goal.returns
returns c =
    let at = c.in_ok-colon.ensures ∙ ap (position is_colon) c.as_bytes.ensures.codes in
    let parts : text_of c.args.arg ≡ text_of c.slice.result ++ (58 ∷ text_of c.slice-2.result) =
    rw (c.slice.ensures, c.slice-2.ensures)
    (at_colon (text_of c.args.arg) c.in_ok-colon.colon at) in (
      c.in_ok-idx.idx,
      c.slice-2.result,
      refl,
      (text_of c.slice.result, parts, c.in_ok-idx.ensures, c.slice-2.result.ascii),
    )
