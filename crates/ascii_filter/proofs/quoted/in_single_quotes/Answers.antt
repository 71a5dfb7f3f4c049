use Rattle.std.proofs.Common.{get_or, subst, sym, take}
use Rattle.std.proofs.lemmas.List.{take_more}
use Rattle.ascii_filter.specs.Quoted.{bare, reading_of}
use Rattle.ascii_filter.proofs.QuotedLemmas.{Piece, ended, piece_more}
use Rattle.ascii_filter.proofs.quoted.in_single_quotes.Goals as goal

pub loop-byte-preserved : goal.loop-byte-preserved
loop-byte-preserved g c =
    let name = c.args.name.now in
    let i = c.loop-byte.byte-index in
    let after = reading_of c.in_ok-is_escaping.is_escaping in
    subst (λ bytes. Piece bare c.put_byte.new.quoted.items bytes after)
    (sym (take_more name i 0 c.loop-byte-test.true))
    (piece_more c.loop-byte.quoted.items c.put_byte.new.quoted.items (take i name)
    (reading_of c.loop-byte.is_escaping) after (get_or name i 0) c.loop-byte.invariant
    c.in_ok-is_escaping.ensures)

pub returns-clause-printable : goal.returns-clause-printable
returns-clause-printable g c =
    (ended c.loop-byte.quoted.items c.extend_from_slice.new.self.items c.args.name.now
    c.loop-byte.byte-index c.loop-byte.is_escaping c.loop-byte-test.false
    c.in_ok-extend_from_slice.ensures.items c.loop-byte.invariant).printable

pub returns-clause-back : goal.returns-clause-back
returns-clause-back g c =
    let whole =
    ended c.loop-byte.quoted.items c.extend_from_slice.new.self.items c.args.name.now
    c.loop-byte.byte-index c.loop-byte.is_escaping c.loop-byte-test.false
    c.in_ok-extend_from_slice.ensures.items c.loop-byte.invariant in
    (whole.word, whole.reading)
