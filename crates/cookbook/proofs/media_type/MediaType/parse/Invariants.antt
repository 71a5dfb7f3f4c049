use Rattle.std.proofs.Common.{◌≡◌, ℕ, ◌∷◌, ◌++◌, List, Option, length}
use Rattle.std.specs.List.{All, filter_map, flat_map}
use Rattle.ascii.specs.View.{text_of}
use Rattle.ascii_formats.specs.Parts.{part_text}
use Rattle.cookbook.specs.MediaType.{IsSection}
use Rattle.cookbook.specs.declared.media_type.Parameter.{Parameter}
use Rattle.cookbook.proofs.media_type.MediaType.parse.Given as goal

-- the sections so far, and what they say
abbrev pub invariant-sections : goal.invariant-sections
invariant-sections l = record {
  sections : List (List ℕ × Option Parameter);
  joined : (part_text l.kind ++ 47 ∷ (part_text l.subtype
      ++ flat_map (λ (section : List ℕ × Option Parameter). section.0) sections))
      ++ part_text l.rest ≡ text_of l.text;
  whole : l.rest.whole ≡ l.text;
  each : All (λ section. IsSection section.0 section.1) sections;
  parameters : l.parameters.items ≡ filter_map (λ section. section.1) sections;
}

abbrev pub decreases-sections : goal.decreases-sections
decreases-sections l = length (part_text l.rest)
