-- The rows of a table: fields between tabs.
use Rattle.std.specs.Prelude.{◌≡◌, ◌≢◌, ℕ, ◌<◌, List, [], length, map, MatchResult, ⊤}
use Rattle.std.specs.List.{All}
use Rattle.std.specs.declared.alloc.Global.{Global}
use Rattle.std.specs.declared.result.Result.{Result}
use Rattle.std.specs.declared.vec.Vec.{Vec}
use Rattle.ascii.specs.declared.ascii_str.AsciiStr.{AsciiStr}
use Rattle.ascii.specs.First.{IsFirstAt}
use Rattle.ascii.specs.Spans.{PieceSpans, WithStart, items_of}
use Rattle.ascii.specs.View.{text_of}
use Rattle.cookbook.specs.declared.table.RowError.{RowError}
use Rattle.cookbook.specs.declared.table.RowError.TheVariants.{Empty, TooFew, TooMany, Memory}

-- the field is not empty
abbrev pub IsFilled : WithStart (List ℕ) → Type 0
IsFilled field = field.item ≢ []

-- none of the fields is empty
abbrev pub AllFilled : List (WithStart (List ℕ)) → Type 0
AllFilled fields = All IsFilled fields

-- why `fields` are not the `n` fields of a row. `Empty`: the field at index `field`, which is less
-- than `n`, is the first empty one, and it begins at `start`. `TooFew`: there are `found` fields,
-- fewer than `n`, and none is empty. `TooMany`: the first `n` fields are not empty, and one more
-- begins at `start`. `Memory` says nothing of `fields`
abbrev pub IsRowError : ℕ → List (WithStart (List ℕ)) → RowError → Type 0
IsRowError n fields (Empty field start) = (field < n)
    × IsFirstAt IsFilled (λ span. (span.start ≡ start) × (span.item ≡ [])) fields field
IsRowError n fields (TooFew found) =
    (found < n) × (length fields ≡ found) × AllFilled fields
IsRowError n fields (TooMany start) = IsFirstAt IsFilled (λ span. span.start ≡ start) fields n
IsRowError n fields Memory = ⊤

-- `Ok`: the fields of `row` between tabs; there are `n`, and none is empty. `Err`: why they are not
-- `n` such fields, or `Memory`
abbrev pub ReadsRow : ℕ → List ℕ → Result (Vec AsciiStr Global) RowError → Type 0
ReadsRow n row result = (fields : List (WithStart (List ℕ))) × PieceSpans 0 row 9 fields
    × MatchResult result
    (λ views. (map text_of views.items ≡ items_of fields) × (length fields ≡ n)
    × AllFilled fields)
    (IsRowError n fields)
