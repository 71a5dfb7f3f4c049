use Rattle.std.proofs.Common.{◌≡◌, ◌∷◌, ◌++◌, [], append-nil, arith, length-append, refl, rules}
use Rattle.std.proofs.lemmas.Result.{err_from_is_err_and}
use Rattle.std.specs.Iterator.{Yields}
use Rattle.std.specs.List.{flat_map}
use Rattle.ascii.specs.View.{text_of}
use Rattle.ascii.proofs.ExtendLemmas.{joined_past}
use Rattle.ascii.proofs.ascii_string.Text.collect_joined.Goals as goal

pub returns-in_err-push_str-clause-full : goal.returns-in_err-push_str-clause-full
returns-in_err-push_str-clause-full g c =
    let p = err_from_is_err_and c.from_residual.result c.from_residual.ensures.1 in
    let first = text_of c.in-Some.first in
    rw p.1 (
      c.in-Some.first ∷ [],
      c.next.new.self,
      (c.next.new.self, c.in-Some.ensures.steps, refl),
      grind (arith, length-append, append-nil),
    )

pub returns-in_err-push_str-2-clause-full : goal.returns-in_err-push_str-2-clause-full
returns-in_err-push_str-2-clause-full g c =
    let p = err_from_is_err_and c.from_residual-in_err-push_str-2.result
    c.from_residual-in_err-push_str-2.ensures.1 in
    let steps = g.I.Iterator.next_gives in
    let others : Yields steps c.next.new.self c.loop-piece.yielded c.loop-piece.piece-iterator =
    search rules in
    let separator = text_of c.args.separator in
    rw p.1 (joined_past steps separator g.B.Buffer.sure c.args.iter c.next.new.self
    c.loop-piece.piece-iterator c.next-in-loop-piece.new.self c.in-Some.first c.in-Some-piece.piece
    c.loop-piece.yielded c.in-Some.ensures.steps others c.in-Some-piece.ensures.steps
    (grind (arith, length-append)))

pub returns-in_err-push_str-3-clause-full : goal.returns-in_err-push_str-3-clause-full
returns-in_err-push_str-3-clause-full g c =
    let p = err_from_is_err_and c.from_residual-in_err-push_str-3.result
    c.from_residual-in_err-push_str-3.ensures.1 in
    let steps = g.I.Iterator.next_gives in
    let others : Yields steps c.next.new.self c.loop-piece.yielded c.loop-piece.piece-iterator =
    search rules in
    let separator = text_of c.args.separator in
    let piece = text_of c.in-Some-piece.piece in
    rw p.1 (joined_past steps separator g.B.Buffer.sure c.args.iter c.next.new.self
    c.loop-piece.piece-iterator c.next-in-loop-piece.new.self c.in-Some.first c.in-Some-piece.piece
    c.loop-piece.yielded c.in-Some.ensures.steps others c.in-Some-piece.ensures.steps
    (grind (arith, length-append)))

pub returns-clause-text : goal.returns-clause-text
returns-clause-text g c =
    let steps = g.I.Iterator.next_gives in
    let text : c.loop-piece.string.text ≡ text_of c.in-Some.first
    ++ flat_map (λ view. text_of c.args.separator ++ text_of view) c.loop-piece.yielded =
    search rules in (
      c.in-Some.first ∷ c.loop-piece.yielded,
      grind arith,
      text,
    )
