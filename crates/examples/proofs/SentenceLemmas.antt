-- The fields of a body.
use Rattle.std.proofs.Common.{◌≡◌, ◌≤◌, ◌∙◌, ℕ, List, MatchOption, Option, Some, ap, length, map}
use Rattle.std.proofs.Common.{refl, sym}
use Rattle.std.specs.Iterator.{YieldsFirstBy, YieldsThen}
use Rattle.std.specs.List.{slice_get}
use Rattle.std.specs.Option.{option_map}
use Rattle.std.proofs.lemmas.Iterator.Consumers.{YieldsList-from_first, nth_from_yields_List}
use Rattle.std.proofs.lemmas.Option.{slice_get-map}
use Rattle.std.proofs.lemmas.Simd.{map-map}
use Rattle.ascii.specs.Parts.{WithStart}
use Rattle.ascii.specs.Pieces.{Pieces}
use Rattle.ascii.specs.Spans.{items_of}
use Rattle.ascii.specs.declared.ascii_str.AsciiStr.{AsciiStr}
use Rattle.ascii_formats.specs.Parts.{ArePiecesOf, in_whole, part_text}
use Rattle.ascii_formats.specs.declared.parts.Part.{Part}
use Rattle.examples.specs.Sentence.{FindsField, HasBody, IsAtFault}
use Rattle.examples.specs.declared.nmea.What.TheVariants.{Field}

-- what `nth` finds among the fields
pub nth_field : (body : Part) (fields later : List (AsciiStr × WithStart (List ℕ))) (index : ℕ)
    (found : Option Part) → ArePiecesOf 44 body fields
    → ((before : List Part)
    × YieldsThen (YieldsFirstBy in_whole (λ parts. parts)) fields before found later
    × MatchOption found (length before ≤ index) (λ _. length before ≡ index))
    → FindsField body index found
nth_field body fields later index found cut nth = record {
  fields = fields;
  cut = cut;
  at = nth_from_yields_List found later index nth
      (YieldsList-from_first in_whole (λ parts. parts) fields refl);
}

-- the text of the field at an index is the piece of the body there
pub field_text : (body field : Part) (index : ℕ) → FindsField body index (Some field)
    → (fields : List (List ℕ)) × Pieces (part_text body) 44 fields
    × (slice_get fields index ≡ Some (part_text field))
field_text body field index found =
    let spans = found.cut.spans in
    let text : AsciiStr × WithStart (List ℕ) → List ℕ = λ it. it.1.item in (
      items_of spans,
      found.cut.pieces.pieces,
      sym (ap (λ l. slice_get l index) (map-map text _ spans))
          ∙ ap (λ l. slice_get (map text l) index) (sym found.cut.are)
          ∙ slice_get-map text found.fields index ∙ ap (option_map text) (sym found.at),
    )

-- a field at fault is one of the body of the line
pub at_fault : (body part : Part) (index : ℕ) → FindsField body index (Some part)
    → (line : Part) → HasBody line body → IsAtFault line part (Field index)
at_fault body part index finds line has = (body, has, finds)
