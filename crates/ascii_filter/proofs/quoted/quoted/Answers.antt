use Rattle.std.proofs.Common.{◌≡◌, ◌++◌, Err, IfOk, Ok, Result, List, refl, subst, sym, ℕ}
use Rattle.std.specs.Prelude.{codes}
use Rattle.ascii_filter.specs.Quoted.{Reads, bare}
use Rattle.ascii_filter.proofs.QuotedLemmas.{Piece, bare_piece, between_piece}
use Rattle.ascii_filter.proofs.quoted.quoted.Goals as goal

if_ok : {T E : Type 0} (P Q : T → Type 0) (r : Result T E) → ((v : T) → P v → Q v) → IfOk r P
    → IfOk r Q
if_ok P Q (Ok v) to holds = to v holds
if_ok P Q (Err e) to holds = holds

reads : (text same name : List ℕ) → same ≡ text → Piece bare text name bare → Reads same name
reads text same name is piece =
    subst (λ text. Reads text name) (sym is) (piece.word, piece.reading)

pub returns-then-is_bare-clause-back : goal.returns-then-is_bare-clause-back
returns-then-is_bare-clause-back g c =
    let name = c.args.name.now in
    if_ok (λ v. v.items ≡ name) (λ v. Reads v.items name) c.from_slice.result
    (λ v is. reads name v.items name is (bare_piece name (c.if-is_bare.ensures refl)))
    c.from_slice.ensures.items

pub returns-then-is_doubled-clause-back : goal.returns-then-is_doubled-clause-back
returns-then-is_doubled-clause-back g c =
    let name = c.args.name.now in
    let text = codes "\"" ++ (name ++ codes "\"") in
    if_ok (λ v. v.items ≡ text) (λ v. Reads v.items name) c.in_double_quotes.result
    (λ v is. reads text v.items name is (between_piece name (c.if-is_doubled.ensures refl)))
    c.in_double_quotes.ensures
