use Rattle.std.proofs.Common.{◌∙◌, ◌++◌, Ok, [], ◌∷◌, ap, map, rules, subst, sym}
use Rattle.std.proofs.lemmas.List.{append-nil}
use Rattle.ascii.proofs.ListLemmas.{AllZip-push, map-push_front}
use Rattle.ascii_formats.proofs.PartsLemmas.{part_whole}
use Rattle.ascii_formats.specs.Parts.{AreLinesOf, in_whole}
use Rattle.examples.specs.Entries.{ReadsLine}
use Rattle.examples.proofs.EntriesLemmas.{fails_with, first_fault, one_more_said}
use Rattle.examples.proofs.ini.read_entries.Goals as goal

pub loop-line-init : goal.loop-line-init
loop-line-init c = record {
  entries = search rules;
  section = search rules;
  none = search rules;
  all = c.of-2.result;
  front = search rules;
  cut = search rules;
  parsed = [];
  each = tt;
  state = search rules;
}

pub add_line-requires-clause-whole : goal.add_line-requires-clause-whole
add_line-requires-clause-whole c =
    let inv = c.loop-line.invariant in
    let front = map in_whole c.loop-line.yielded in
    let cut = sym inv.cut.are ∙ ap (λ items. front ++ items) c.in-Some.ensures.steps in
    part_whole inv.all c.in-Some.line _ front _ cut ∙ (inv.front.whole ∙ sym inv.section)

pub loop-line-preserved : goal.loop-line-preserved
loop-line-preserved c =
    let inv = c.loop-line.invariant in
    let taken = c.loop-line.yielded in
    let line = c.in-Some.line in
    let (said, reads, more) = c.in_ok-section.ensures.line in
    record {
      entries = search rules;
      section = search rules;
      none = inv.none;
      all = inv.all;
      front = inv.front;
      cut = subst (AreLinesOf inv.all) (ap (λ items. map in_whole taken ++ items)
          c.in-Some.ensures.steps ∙ sym (map-push_front in_whole taken line _)) inv.cut;
      parsed = inv.parsed ++ said ∷ [];
      each = AllZip-push (λ line said. ReadsLine line (Ok said)) taken inv.parsed line said
          inv.each reads;
      state = one_more_said _ _ _ inv.parsed said inv.state more;
    }

pub returns-in_err-section-clause-entries : goal.returns-in_err-section-clause-entries
returns-in_err-section-clause-entries c =
    let inv = c.loop-line.invariant in
    let taken = c.loop-line.yielded in
    let error = c.in_err-section.field-0.0 in
    let cut = subst (λ items. AreLinesOf inv.all (map in_whole taken ++ items))
    c.in-Some.ensures.steps inv.cut in
    let fault = first_fault inv.all c.in-Some.line taken _ inv.parsed error cut inv.each
    c.in_err-section.ensures.line in (
      _,
      inv.front,
      (
        _,
        inv.none,
        fails_with c.from_residual.result error _ _ c.from_residual.ensures.1 fault,
      ),
    )

pub returns-clause-entries : goal.returns-clause-entries
returns-clause-entries c =
    let inv = c.loop-line.invariant in
    let taken = c.loop-line.yielded in (
      _,
      inv.front,
      (
        _,
        inv.none,
        record {
          lines = taken;
          cut = subst (AreLinesOf inv.all) (ap (λ items. map in_whole taken ++ items)
              c.in-None.ensures.steps.0 ∙ append-nil (map in_whole taken)) inv.cut;
          parsed = inv.parsed;
          each = inv.each;
          are = ap (λ state. state.1) inv.state;
        },
      ),
    )
