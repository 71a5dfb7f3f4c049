use Rattle.std.proofs.Common.{ℕ, List, [], ◌∷◌, ◌++◌, Option, append-nil, append_assoc, arith}
use Rattle.std.proofs.Common.{refl, rules}
use Rattle.std.proofs.lemmas.List.Elements.{All-nil, All-push, filter_map-append}
use Rattle.ascii_formats.specs.Parts.{part_text}
use Rattle.cookbook.specs.MediaType.{IsSection}
use Rattle.cookbook.specs.declared.media_type.Parameter.{Parameter}
use Rattle.cookbook.proofs.MediaTypeLemmas.{joined_more}
use Rattle.cookbook.proofs.media_type.MediaType.parse.Goals as goal

pub sections-init : goal.sections-init
sections-init c =
    let (kind, kind_is, kind_joined, _) = c.in_ok-kind.ensures in
    let slash = c.in_ok-expect.ensures.followed.joined in
    let (subtype, subtype_is, subtype_joined, _) = c.in_ok-subtype.ensures in record {
      sections = [];
      joined = rw (append-nil, ← kind_is.1, ← subtype_is.1) (grind (
        arith,
        append_assoc,
        kind_joined,
        slash,
        subtype_joined,
        c.of.ensures.text,
      ));
      whole = search rules;
      each = All-nil (λ section. IsSection section.0 section.1);
      parameters = c.new-parameters.ensures.items;
    }

pub sections-preserved : goal.sections-preserved
sections-preserved c =
    let inv = c.sections.invariant in
    let (written, is, joined, whole) = c.in_ok-found.ensures in
    let section : List ℕ × Option Parameter = (written, c.in_ok-found.found) in record {
      sections = inv.sections ++ section ∷ [];
      joined = joined_more (λ (section : List ℕ × Option Parameter). section.0) _ _ inv.sections
          section (part_text c.sections.rest) _ _ inv.joined joined;
      whole = search rules;
      each = All-push (λ section. IsSection section.0 section.1) inv.sections section inv.each is;
      parameters = rw (
        c.in_ok-push_found.ensures,
        inv.parameters,
        filter_map-append (λ (section : List ℕ × Option Parameter). section.1) inv.sections
            (section ∷ []),
      ) refl;
    }
