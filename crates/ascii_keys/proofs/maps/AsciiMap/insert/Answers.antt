use Rattle.std.proofs.Common.{◌≡◌, ◌∙◌, Some, rules, string_bytes, subst, sym}
use Rattle.std.specs.Str.{IsAscii}
use Rattle.ascii.specs.View.{text_of}
use Rattle.ascii_keys.proofs.AsciiMapLemmas.{ascii_more, changes_texts, lookup_texts, no_value}
use Rattle.ascii_keys.proofs.AsciiMapLemmas.{writes_texts}
use Rattle.ascii_keys.specs.Maps.{HasAsciiKeys}
use Rattle.ascii_keys.proofs.maps.AsciiMap.insert.Goals as goal

pub returns-clause-puts : goal.returns-clause-puts
returns-clause-puts over c =
    let key : string_bytes c.in_ok-key.key ≡ text_of c.args.key = search rules in
    rw (← key, ← c.self.view_is, ← c.get_mut.follows.holds-at-none)
    (changes_texts (string_bytes c.in_ok-key.key) c.get_mut.follows.lender-at-none
    c.insert.new.self (Some c.args.value) c.in_ok-insert.ensures.updates)

pub invariant_of-self-2 : goal.invariant_of-self-2
invariant_of-self-2 over c =
    let key : string_bytes c.in_ok-key.key ≡ text_of c.args.key = search rules in
    rw (c.in_ok-insert.ensures.entries, c.get_mut.follows.holds-at-none)
    (ascii_more c.self.inside.entries.entries c.in_ok-key.key c.args.value c.self.invariant
    (subst IsAscii (sym key) c.args.key.ascii))

pub returns-clause-before : goal.returns-clause-before
returns-clause-before over c =
    let key : string_bytes c.in_ok-key.key ≡ text_of c.args.key = search rules in
    rw (← key, ← c.self.view_is, ← c.get_mut.follows.holds-at-none) (c.in_ok-insert.ensures.old
    ∙ lookup_texts (string_bytes c.in_ok-key.key) c.get_mut.follows.lender-at-none.entries)

pub returns-in-Some-clause-before : goal.returns-in-Some-clause-before
returns-in-Some-clause-before over c =
    rw (← c.self.view_is, ← c.as_str-text.ensures, c.replace.ensures.value)
    (c.in-Some.ensures.value ∙ lookup_texts c.as_str-text.result.now c.self.inside.entries.entries)

pub returns-in-Some-clause-puts : goal.returns-in-Some-clause-puts
returns-in-Some-clause-puts over c =
    let written = c.replace.new.dest in
    rw (← c.self.view_is, ← c.as_str-text.ensures, ← c.replace.ensures.after)
    (writes_texts c.as_str-text.result.now c.self.inside.entries (c.get_mut.follows.lender written)
    written (Some c.in-Some.there) c.in-Some.ensures.value (c.get_mut.follows.holds written)).values

pub returns-in_err-key-clause-there : goal.returns-in_err-key-clause-there
returns-in_err-key-clause-there over c = λ some. absurd
    (no_value c.as_str-text.result.now c.self.inside.entries.entries c.in_default.ensures.value
    (rw (← c.self.view_is, ← c.as_str-text.ensures) at some))

pub returns-in_err-insert-clause-there : goal.returns-in_err-insert-clause-there
returns-in_err-insert-clause-there over c = λ some. absurd
    (no_value c.as_str-text.result.now c.self.inside.entries.entries c.in_default.ensures.value
    (rw (← c.self.view_is, ← c.as_str-text.ensures) at some))
