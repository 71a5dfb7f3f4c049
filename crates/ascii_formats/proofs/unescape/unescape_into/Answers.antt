use Rattle.std.proofs.Common.{◌≡◌, [], ◌∷◌, ◌++◌, subst, arith, drop, length-append, length-drop}
use Rattle.std.proofs.lemmas.List.{take_rest}
use Rattle.ascii_formats.specs.Unescape.{HasNoPiece, StartsWithPiece}
use Rattle.ascii.specs.View.{text_of}
use Rattle.ascii_formats.proofs.UnescapeLemmas.{unescapes_more}
use Rattle.ascii_formats.proofs.unescape.unescape_into.Goals as goal

pub returns-in_default : goal.returns-in_default
returns-in_default g c =
    let text = text_of c.args.view in (
      grind arith,
      subst (λ bytes. HasNoPiece (drop c.pieces.at bytes)) c.as_bytes.ensures.codes
          (subst HasNoPiece (take_rest c.as_bytes.result.now c.pieces.at) c.in_default.ensures),
    )

pub pieces-preserved : goal.pieces-preserved
pieces-preserved g c =
    let text = text_of c.args.view in
    let old = c.pieces.string.text in
    let piece =
    subst (λ bytes. StartsWithPiece (drop c.pieces.at bytes) c.in-Some.code c.in-Some.size)
    c.as_bytes.ensures.codes (grind (arith, take_rest)) in
    let grown : c.push.new.self.text ≡ old ++ c.in-Some.code ∷ [] = grind arith in
    record {
      inside = omega (arith, piece.inside, length-drop c.pieces.at text, c.pieces.invariant.inside);
      short = grind (arith, length-append);
      room = omega (arith, c.in-Ok.ensures.capacity, c.pieces.invariant.room);
      read = rw grown (grind (arith, unescapes_more));
    }
