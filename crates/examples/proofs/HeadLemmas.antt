-- One more header with a name that no header before it has.
use Rattle.std.proofs.Common.{◌≡◌, ◌∙◌, ◌+◌, ℕ, List, [], ◌∷◌, ◌++◌, None, Option, Some, ap, arith}
use Rattle.std.proofs.Common.{◌<◌, codes, get_or, length, length-append, map, refl, reverse, subst}
use Rattle.std.proofs.Common.{sym, take}
use Rattle.std.specs.List.{All, flat_map, join_by}
use Rattle.std.specs.Option.{option_map}
use Rattle.std.proofs.lemmas.List.{map-append, reverse-append, reverse-reverse, take_all}
use Rattle.std.proofs.lemmas.List.Elements.{All-append, All-cons, All-head, All-nil, All-tail}
use Rattle.std.proofs.lemmas.List.Quantifiers.{all_pairs_push}
use Rattle.std.proofs.lemmas.Option.{slice_get-get_or}
use Rattle.ascii.proofs.ListLemmas.{AllZip-push}
use Rattle.ascii.specs.Case.{lower_image}
use Rattle.ascii.specs.View.{text_of}
use Rattle.ascii.specs.declared.ascii_str.AsciiStr.{AsciiStr}
use Rattle.ascii_keys.specs.Maps.{Changes, Entries, folded_value_at, same_folded}
use Rattle.ascii_lines.specs.declared.owned_lines.OwnedLine.{OwnedLine}
use Rattle.cookbook.specs.Headers.{FindsHeader, IsNamed}
use Rattle.cookbook.specs.declared.headers.Header.{Header}
use Rattle.cookbook.proofs.HeaderMapLemmas.{values_next}
use Rattle.examples.specs.Head.{AreHeaders, IsHeaderOf, StopsAt}

-- what is true of each item is true of each item of the reversed list
all_reversed : {A : Type 0} (Is : A → Type 0) (items : List A) → All Is items
    → All Is (reverse items)
all_reversed Is [] all = all
all_reversed Is (item ∷ items) all = subst (All Is) (sym (reverse-append (item ∷ []) items))
    (All-append Is (reverse items) (item ∷ [])
    (all_reversed Is items (All-tail Is item items all))
    (All-cons Is item [] (All-head Is item items all) (All-nil Is)))

-- if a name has no value, no header has it
none_named : (headers : List Header) (name : List ℕ) (last : Option Header)
    → FindsHeader (reverse headers) name last
    → None ≡ option_map (λ (header : Header). text_of header.value) last
    → All (λ header. ¬ (IsNamed name header)) headers
none_named headers name None none is =
    subst (All (λ header. ¬ (IsNamed name header))) (reverse-reverse headers)
    (all_reversed (λ header. ¬ (IsNamed name header)) (reverse headers) none)
none_named headers name (Some last) found is = absurd (cc)

pub one_more : (lines : List OwnedLine) (line : OwnedLine) (header : Header)
    (old new : Entries AsciiStr) → AreHeaders lines old → IsHeaderOf line header
    → None ≡ folded_value_at old (text_of header.name)
    → Changes same_folded (folded_value_at old) (text_of header.name) (Some header.value)
    (folded_value_at new) → length new ≡ length old + 1 → AreHeaders (lines ++ line ∷ []) new
one_more lines line header old new are is free changes size =
    let name = text_of header.name in
    let found = are.values name in
    record {
      headers = are.headers ++ header ∷ [];
      each = AllZip-push IsHeaderOf lines are.headers line header are.each is;
      apart = all_pairs_push (λ first second. ¬ (IsNamed (text_of second.name) first))
          are.headers header are.apart
          (none_named are.headers name found.0 found.1 (ap (option_map text_of) free ∙ found.2));
      values = values_next old new are.headers header changes are.values;
      size = omega (arith, size, are.size, length-append lines (line ∷ []));
    }

pub stops_at : (lines : List OwnedLine) (index : ℕ) (line : OwnedLine) (map : Entries AsciiStr)
    (Here : Entries AsciiStr → OwnedLine → Type 0) → index < length lines
    → line ≡ get_or lines index line → AreHeaders (take index lines) map → Here map line
    → StopsAt lines index Here
stops_at lines index line map Here inside at are here =
    (map, are, rw (slice_get-get_or lines index line inside, ← at) here)

-- ---- the list of the names

-- the lower case of what comes after the first name
names_after : (views : List AsciiStr)
    → map lower_image (flat_map (λ view. 59 ∷ text_of view) views)
    ≡ flat_map (λ name. 59 ∷ map lower_image name) (map text_of views)
names_after [] = refl
names_after (view ∷ views) = rw (
  map-append lower_image (text_of view) (flat_map (λ view. 59 ∷ text_of view) views),
  names_after views,
) refl

-- the lower case of joined names is their lower cases, joined
pub lower_names : (views : List AsciiStr)
    → map lower_image (join_by text_of (codes ";") views)
    ≡ join_by (λ name. map lower_image name) (codes ";") (map text_of views)
lower_names [] = refl
lower_names (view ∷ views) =
    map-append lower_image (text_of view) (flat_map (λ view. 59 ∷ text_of view) views)
    ∙ ap (λ codes. map lower_image (text_of view) ++ codes) (names_after views)
