-- The texts of the errors of a line reader and a line writer.
use Rattle.std.specs.Prelude.{List, ℕ, ◌++◌, codes, decimal}
use Rattle.ascii.specs.View.{error_text}
use Rattle.ascii_lines.specs.declared.line_reader.LineError.{LineError}
use Rattle.ascii_lines.specs.declared.line_reader.LineError.TheVariants.{NotAscii, LoneBreak}
use Rattle.ascii_lines.specs.declared.line_reader.LineError.TheVariants.{TooLong, TooFar}
use Rattle.ascii_lines.specs.declared.line_reader.LineError.TheVariants.{Incomplete, Read}
use Rattle.ascii_lines.specs.declared.line_writer.WriteError.{WriteError}
use Rattle.ascii_lines.specs.declared.line_writer.WriteError.TheVariants.{LineBreak, Write}

-- the text that the error prints; positions are counted from 0
abbrev pub line_error_text : LineError → List ℕ
line_error_text (NotAscii place) = error_text place
line_error_text (LoneBreak place) =
    codes "the CR or LF at index " ++ (decimal place ++ codes " is not part of a CR LF")
line_error_text (TooLong start) =
    codes "the line or part at index " ++ (decimal start ++ codes " is longer than the buffer")
line_error_text TooFar = codes "the input is longer than 18446744073709551615 bytes"
line_error_text (Incomplete count) =
    codes "the input ended after " ++ (decimal count ++ codes " bytes of a part")
line_error_text Read = codes "read failed"

-- the text that the error prints; indices are counted from 0
abbrev pub write_error_text : WriteError → List ℕ
write_error_text (LineBreak place) =
    codes "the character at index " ++ (decimal place ++ codes " of the line is CR or LF")
write_error_text Write = codes "write failed"
