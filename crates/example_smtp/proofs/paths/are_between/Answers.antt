use Rattle.std.proofs.Common.{refl, subst}
use Rattle.ascii.specs.Pieces.{IsUnique, Pieces}
use Rattle.ascii.specs.Code.{code_of}
use Rattle.ascii.specs.View.{text_of}
use Rattle.example_smtp.proofs.PathLemmas.{moved, one_more}
use Rattle.example_smtp.proofs.paths.are_between.Goals as goal

pub loop-part-preserved : goal.loop-part-preserved
loop-part-preserved g c =
    let inv = c.loop-part.invariant in
    let same = moved text_of c.loop-part.yielded c.in-Some.part c.next.new.self.items
    c.loop-part.part-iterator.items c.in-Some.ensures.steps.0 in
    record {
      whole = subst (Pieces (text_of c.args.text) (code_of c.args.separator)) same inv.whole;
      only = subst (IsUnique (Pieces (text_of c.args.text) (code_of c.args.separator))) same inv.only;
      parts = one_more g.P.Part.is text_of c.loop-part.yielded c.in-Some.part inv.parts
          (c.if-not-accepts.ensures.0 refl);
    }
