-- The texts of the errors of the cookbook. Positions, fields and lines are counted from 0.
use Rattle.std.specs.Prelude.{List, ℕ, ◌++◌, codes, decimal}
use Rattle.ascii_formats.specs.Places.{place_text}
use Rattle.cookbook.specs.declared.csv.FieldError.{FieldError}
use Rattle.cookbook.specs.declared.csv.FieldError.TheVariants.{NotClosed, NotComma}
use Rattle.cookbook.specs.declared.headers.HeaderBlockError.{HeaderBlockError}
use Rattle.cookbook.specs.declared.headers.HeaderBlockError.TheVariants.{InLine}
use Rattle.cookbook.specs.declared.headers.HeaderError.{HeaderError}
use Rattle.cookbook.specs.declared.headers.HeaderError.TheVariants.{NoColon, NoName, NotToken}
use Rattle.cookbook.specs.declared.hosts.HostNameError.{HostNameError}
use Rattle.cookbook.specs.declared.hosts.HostNameError.TheVariants.{TooLong, EmptyLabel, LongLabel}
use Rattle.cookbook.specs.declared.hosts.HostNameError.TheVariants.{Character, Hyphen}
use Rattle.cookbook.specs.declared.settings.SettingError.{SettingError}
use Rattle.cookbook.specs.declared.settings.SettingError.TheVariants.{NoEquals, NoKey}
use Rattle.cookbook.specs.declared.settings.SettingFault.{SettingFault}
use Rattle.cookbook.specs.declared.settings.SettingFault.TheVariants as what
use Rattle.cookbook.specs.declared.settings.SettingsError.{SettingsError}
use Rattle.cookbook.specs.declared.settings.SettingsError.TheVariants.{At}
use Rattle.cookbook.specs.declared.table.RowError.{RowError}
use Rattle.cookbook.specs.declared.table.RowError.TheVariants.{Empty, TooFew, TooMany}

-- the text of an error of `read_row`
abbrev pub row_error_text : RowError → List ℕ
row_error_text (Empty field start) =
    codes "field " ++ (decimal field
    ++ (codes " at index " ++ (decimal start ++ codes " is empty")))
row_error_text (TooFew found) = codes "too few fields: " ++ decimal found
row_error_text (TooMany start) = codes "one field too many at index " ++ decimal start
row_error_text other = codes "no memory"

-- the text of an error of `take_field`
abbrev pub field_error_text : FieldError → List ℕ
field_error_text NotClosed = codes "no quote closes the field"
field_error_text (NotComma position) = codes "no comma at index " ++ decimal position
field_error_text other = codes "no memory"

-- the text of an error of `read_setting`
abbrev pub setting_error_text : SettingError → List ℕ
setting_error_text (NoEquals start) = codes "no '=' in the text at index " ++ decimal start
setting_error_text (NoKey position) = codes "no key before the '=' at index " ++ decimal position

-- the text of what is wrong with a line of settings
abbrev pub setting_fault_text : SettingFault → List ℕ
setting_fault_text what.NoEquals = codes "no '='"
setting_fault_text what.NoKey = codes "no key before the '='"

-- the text of an error of `read_settings`: the line, the column, and what is wrong there
abbrev pub settings_error_text : SettingsError → List ℕ
settings_error_text (At fault) =
    place_text fault.place ++ (codes ": " ++ setting_fault_text fault.what)
settings_error_text other = codes "no memory"

-- the text of an error of `read_header`
abbrev pub header_error_text : HeaderError → List ℕ
header_error_text NoColon = codes "no colon"
header_error_text NoName = codes "no name before the colon"
header_error_text (NotToken position) =
    codes "the character at index " ++ (decimal position ++ codes " is not allowed in a name")

-- the text of an error of `read_headers`
abbrev pub block_error_text : HeaderBlockError → List ℕ
block_error_text (InLine number start error) = codes "line " ++ (decimal number
    ++ (codes " at index " ++ (decimal start ++ (codes ": " ++ header_error_text error))))
block_error_text other = codes "no memory"

-- the text of an error of `HostName::parse`
abbrev pub host_error_text : HostNameError → List ℕ
host_error_text TooLong = codes "more than 253 characters"
host_error_text (EmptyLabel start) =
    codes "the label at index " ++ (decimal start ++ codes " is empty")
host_error_text (LongLabel start) =
    codes "the label at index " ++ (decimal start ++ codes " has more than 63 characters")
host_error_text (Character position) =
    codes "the character at index " ++ (decimal position ++ codes " is not allowed in a host name")
host_error_text (Hyphen position) =
    codes "the hyphen at index " ++ (decimal position ++ codes " is at an end of its label")
host_error_text other = codes "no memory"
