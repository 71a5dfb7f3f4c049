use Rattle.std.proofs.Common.{◌-◌, ◌≤◌, length, arith}
use Rattle.memchr.specs.Find.{is_byte}
use Rattle.ascii.proofs.SearchLemmas.{first_near, first_far, none_far, none_nearer}
use Rattle.ascii.proofs.iter.cursor.find_first.Goals as goal

pub returns-in-Some : goal.returns-in-Some
returns-in-Some c = first_near (is_byte c.args.on) c.args.bytes.now 32 (omega arith)
    c.in-Some.position c.in-Some.ensures

pub returns-in-Some-find_near : goal.returns-in-Some-find_near
returns-in-Some-find_near c =
    let bytes = c.args.bytes.now in
    let near : length bytes - 32 ≤ 32 = omega arith in
    first_far (is_byte c.args.on) bytes (length bytes - 32) (omega arith) _
    (none_nearer (is_byte c.args.on) bytes 32 (omega arith) (length bytes - 32) near
    c.in-None.ensures) c.in-Some-find_near.ensures

pub returns-in-None-find_near : goal.returns-in-None-find_near
returns-in-None-find_near c =
    let bytes = c.args.bytes.now in
    let near : length bytes - 32 ≤ 32 = omega arith in
    none_far (is_byte c.args.on) bytes (length bytes - 32) (omega arith)
    (none_nearer (is_byte c.args.on) bytes 32 (omega arith) (length bytes - 32) near
    c.in-None.ensures) c.in-None-find_near.ensures

pub returns-in-Some-memchr : goal.returns-in-Some-memchr
returns-in-Some-memchr c = first_far (is_byte c.args.on) c.args.bytes.now 32 (omega arith)
    _ c.in-None.ensures c.in-Some-memchr.ensures

pub returns-in-None-memchr : goal.returns-in-None-memchr
returns-in-None-memchr c = none_far (is_byte c.args.on) c.args.bytes.now 32 (omega arith)
    c.in-None.ensures c.in-None-memchr.ensures
