use Rattle.std.proofs.Common.{◌≡◌, ◌≤◌, ◌+◌, ◌-◌, ◌^◌, ◌<◌, ◌++◌, ◌∷◌, [], ℕ, arith, ap, drop}
use Rattle.std.proofs.Common.{length, rules, ◌∙◌, set}
use Rattle.std.proofs.lemmas.Fmt.{length-decimal-le}
use Rattle.std.proofs.lemmas.List.{drop-set}
use Rattle.std.specs.Prelude.{codes, decimal}
use Rattle.ascii_filter.proofs.check.write_place.Goals as goal

few : (n : ℕ) → n < 2 ^ 64 → length (decimal n) ≤ 20
few n short = length-decimal-le 20 n (omega arith) (omega (arith, short)) short

pub write_digits-start-requires : goal.write_digits-start-requires
write_digits-start-requires c =
    (omega (arith, few c.args.column c.ranges.column.fits), search rules)

pub overflow_sub-start : goal.overflow_sub-start
overflow_sub-start c =
    omega (arith, few c.args.column c.ranges.column.fits, c.write_digits-start.ensures.start)

pub write_digits-requires : goal.write_digits-requires
write_digits-requires c =
    let long : length c.write_digits-start.new.buf ≡ 64 = search rules in (
      omega (
        arith,
        few c.args.column c.ranges.column.fits,
        few c.args.line c.ranges.line.fits,
        c.write_digits-start.ensures.start,
      ),
      search rules,
    )

pub returns-clause-text : goal.returns-clause-text
returns-clause-text c =
    let room = c.write_digits-start.new.buf in
    let start = c.write_digits-start.result in
    let first = c.write_digits-start.ensures.start in
    let short = few c.args.column c.ranges.column.fits in
    let long : length room ≡ 64 = search rules in
    let inside : start - 1 < length room = omega (arith, long, first, short) in
    let next : (start - 1) + 1 ≡ start = omega (arith, first, short) in
    let end : drop 52 (set (set c.args.room.now 61 c.hex_digit.result) 62 c.hex_digit-2.result)
    ≡ codes ": byte 0x" ++ c.hex_digit.result ∷ c.hex_digit-2.result ∷ 10 ∷ [] =
    ap (λ all. drop 52 (set (set all 61 c.hex_digit.result) 62 c.hex_digit-2.result)) c.requires in
    let hex : drop 52 (set (set c.args.room.now 61 c.hex_digit.result) 62 c.hex_digit-2.result)
    ≡ _ =
    end ∙ (λ k. codes ": byte 0x" ++ c.hex_digit.ensures k ∷ c.hex_digit-2.ensures k ∷ 10 ∷ []) in
    c.write_digits.ensures.written
    ∙ ap (λ xs. decimal c.args.line ++ xs) (drop-set room (start - 1) 58 inside
    ∙ ap (λ xs. 58 ∷ xs) (ap (λ k. drop k room) next
    ∙ (c.write_digits-start.ensures.written
    ∙ ap (λ xs. decimal c.args.column ++ xs) hex)))
