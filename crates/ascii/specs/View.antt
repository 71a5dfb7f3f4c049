-- What contracts see of a view and of a conversion error.
use Rattle.std.specs.Prelude.{ℕ, List, ◌++◌, codes}
use Rattle.std.specs.Fmt.{debug_escape, decimal}
use Rattle.std.specs.List.{flat_map}
use Rattle.ascii.specs.declared.ascii_str.AsciiStr.{AsciiStr}
use Rattle.ascii.specs.declared.ascii_str.AsAsciiStrError.{AsAsciiStrError}

-- the text of a view: the list of its codes
abbrev pub text_of : AsciiStr → List ℕ
text_of v = v.bytes.now

-- the position that the error holds
abbrev pub position_of : AsAsciiStrError → ℕ
position_of e = e.valid_up_to

-- the output of a conversion error that holds the position `n`
abbrev pub error_text : ℕ → List ℕ
error_text n = codes "the byte at index " ++ decimal n ++ codes " is not ASCII"

-- the `{:?}` output of a text: the text in double quotes, each code escaped as std escapes it there
abbrev pub debug_text : List ℕ → List ℕ
debug_text text = codes "\"" ++ (flat_map (debug_escape 34) text ++ codes "\"")
