use Rattle.std.proofs.Common.{◌≡◌, ◌++◌, ◌∙◌, ◌∷◌, [], map, subst, sym}
use Rattle.std.proofs.lemmas.List.Elements.{filter-append}
use Rattle.ascii.proofs.ListLemmas.{AllZip-push, map-push_front}
use Rattle.ascii.specs.ByClass.{whole, word_spans_by}
use Rattle.ascii.specs.Class.{IsPunctuation}
use Rattle.ascii.specs.Tests.{is_whitespace}
use Rattle.ascii_formats.specs.Parts.{IsTrimmed, in_whole, part_text, parts_of}
use Rattle.examples.specs.Spelling.{is_unknown}
use Rattle.examples.proofs.spell.unknown_words.Goals as goal

pub loop-part-preserved : goal.loop-part-preserved
loop-part-preserved c =
    let text = c.args.text in
    let taken = c.loop-part.yielded in
    let part = c.in-Some.part in
    let word = c.trim_matches.result in
    let inv = c.loop-part.invariant in
    let are = subst (λ items. parts_of text (word_spans_by is_whitespace (whole (part_text text)))
    ≡ map in_whole taken ++ items) c.in-Some.ensures.steps inv.are in record {
      are = are ∙ sym (map-push_front in_whole taken part _);
      trimmed = inv.trimmed ++ word ∷ [];
      each = AllZip-push (IsTrimmed IsPunctuation) taken inv.trimmed part word inv.each
          c.trim_matches.ensures;
      kept = rw (filter-append (is_unknown c.args.known.now) inv.trimmed (word ∷ []), ← inv.kept)
          c.in_ok-push_unknown.ensures;
    }
