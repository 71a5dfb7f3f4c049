use Rattle.std.proofs.Common.{◌↔◌, false}
use Rattle.ascii.specs.View.{text_of}
use Rattle.example_smtp.specs.Paths.{IsQuotedText}
use Rattle.example_smtp.proofs.paths.is_quoted_text.Given as goal

-- the text may be between quotes if what is left of it may
abbrev pub invariant-loop-ch : goal.invariant-loop-ch
invariant-loop-ch l = record {
  next : (goal.iterator-loop-ch).can_next l.ch-iterator;
  finite : (goal.iterator-loop-ch).is_finite l.ch-iterator;
  same : IsQuotedText false (text_of l.text) ↔ IsQuotedText l.is_escaped l.ch-iterator;
}
