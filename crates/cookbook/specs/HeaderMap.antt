-- A map from header names to values: a function from names.
use Rattle.std.specs.Option.{option_map}
use Rattle.std.specs.Prelude.{◌≡◌, ℕ, List, Option, reverse}
use Rattle.ascii_keys.specs.Maps.{Entries, folded_value_at}
use Rattle.ascii.specs.View.{text_of}
use Rattle.ascii.specs.declared.ascii_str.AsciiStr.{AsciiStr}
use Rattle.cookbook.specs.Headers.{FindsHeader}
use Rattle.cookbook.specs.declared.header_map.HeaderMap.{HeaderMap}
use Rattle.cookbook.specs.declared.headers.Header.{Header}

-- a value at each name, or `None` if there is none
abbrev pub Values : Type 0
Values = List ℕ → Option (List ℕ)

-- the values in `entries`: at a name, the value at the key that is equal to it, ignoring ASCII case
abbrev pub values_in : Entries AsciiStr → Values
values_in entries name = option_map text_of (folded_value_at entries name)

-- the values of a map by name
abbrev pub values_of : HeaderMap → Values
values_of map = values_in map.values

-- at each name, `values` has the value of the last of `headers` with that name if the case of
-- letters is ignored, which is the first of the reversed list; `None` exactly if no header has it
abbrev pub HasLastValues : List Header → Values → Type 0
HasLastValues headers values = (name : List ℕ) → (last : Option Header)
    × FindsHeader (reverse headers) name last
    × (values name ≡ option_map (λ header. text_of header.value) last)
