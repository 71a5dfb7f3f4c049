-- Why a JSON value is rejected as a character or as a text.
use Rattle.std.specs.Prelude.{◌≡◌, ◌≢◌, ℕ, ◌<◌, List, codes, length, Some, None}
use Rattle.std.specs.Str.{IsAscii}
use Rattle.serde_json.specs.Data.{Data}
use Rattle.serde_json.specs.Find.{as_str}
use Rattle.ascii_base.specs.Bytes.{FirstOther}
use Rattle.ascii.specs.declared.json.JsonError.{JsonError}
use Rattle.ascii.specs.declared.json.JsonError.TheVariants.{NotText, NotOneByte, NotAscii, Memory}
use Rattle.ascii.specs.View.{error_text, position_of}

-- the output of the error
abbrev pub json_error_text : JsonError → List ℕ
json_error_text NotText = codes "not a JSON string"
json_error_text NotOneByte = codes "not a string of one character"
json_error_text (NotAscii e) = error_text (position_of e)
json_error_text Memory = codes "no memory"

-- `NotText`: not a JSON string. `NotOneByte`: a JSON string whose length is not one byte
abbrev pub RejectsChar : Data → JsonError → Type 0
RejectsChar value NotText = as_str value ≡ None
RejectsChar value NotOneByte = (text : List ℕ) × (as_str value ≡ Some text) × (length text ≢ 1)
RejectsChar value other = ⊥

-- `NotText`: not a JSON string. `NotAscii`: a JSON string with a non-ASCII byte, the first of which
-- is at the position that `e` holds
abbrev pub RejectsText : Data → JsonError → Type 0
RejectsText value NotText = as_str value ≡ None
RejectsText value (NotAscii e) = (text : List ℕ) × (as_str value ≡ Some text)
    × FirstOther text 0 (length text) (position_of e)
RejectsText value other = ⊥

-- as `RejectsText`; or `Memory`, for a JSON string that is all ASCII and longer than `sure`
abbrev pub RejectsTextCopy : ℕ → Data → JsonError → Type 0
RejectsTextCopy sure value Memory =
    (text : List ℕ) × (as_str value ≡ Some text) × IsAscii text × (sure < length text)
RejectsTextCopy sure value other = RejectsText value other
