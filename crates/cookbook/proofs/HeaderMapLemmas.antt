-- One more header changes the value at its name, and no other value.
use Rattle.std.proofs.Common.{◌≡◌, ◌∙◌, ◌++◌, ◌∷◌, [], ℕ, Bool, List, None, Option, Some, ap}
use Rattle.std.proofs.Common.{cond, false, refl, reverse, subst, suc, sym, true}
use Rattle.std.proofs.lemmas.Bool.Decides.{not_from_Decides}
use Rattle.std.proofs.lemmas.List.{reverse-append}
use Rattle.std.proofs.lemmas.List.Elements.{All-cons, All-nil}
use Rattle.std.proofs.lemmas.Slice.Eq.{bytes_eq-Decides}
use Rattle.std.specs.Bool.{Decides}
use Rattle.std.specs.Option.{option_map}
use Rattle.ascii_keys.specs.Maps.{Changes, Entries, folded_value_at, same_folded}
use Rattle.ascii.specs.View.{text_of}
use Rattle.ascii.specs.declared.ascii_str.AsciiStr.{AsciiStr}
use Rattle.cookbook.specs.Cases.{lower_text}
use Rattle.cookbook.specs.HeaderMap.{HasLastValues, values_in}
use Rattle.cookbook.specs.Headers.{FindsHeader, IsNamed}
use Rattle.cookbook.specs.declared.headers.Header.{Header}

-- the value of a header that was found
abbrev pub value_found : Option Header → Option (List ℕ)
value_found found = option_map (λ header. text_of header.value) found

-- the header that comes first is found if it has the name, and otherwise what was found without it
finds_next : (name : List ℕ) (header : Header) (headers : List Header) (last : Option Header)
    (b : Bool) → Decides b (IsNamed name header) → FindsHeader headers name last
    → FindsHeader (header ∷ headers) name (cond b (Some header) last)
finds_next name header headers last true is finds =
    (0, record { here = (is.0 refl, refl); before = All-nil (λ h. ¬ (IsNamed name h)) })
finds_next name header headers None false is each =
    All-cons (λ h. ¬ (IsNamed name h)) header headers (not_from_Decides false is refl) each
finds_next name header headers (Some found) false is finds = (
  suc finds.0,
  record {
    here = finds.1.here;
    before = All-cons (λ h. ¬ (IsNamed name h)) header _ (not_from_Decides false is refl)
        finds.1.before;
  },
)

-- the value that is found with one more header
value_next : (b : Bool) (header : Header) (value : Option AsciiStr) (last : Option Header)
    → option_map text_of value ≡ value_found last
    → option_map text_of (cond b (Some header.value) value)
    ≡ value_found (cond b (Some header) last)
value_next true header value last same = refl
value_next false header value last same = same

-- a map without entries has the values of no headers
pub no_values : HasLastValues [] (values_in [])
no_values = λ name. (None, All-nil (λ h. ¬ (IsNamed name h)), refl)

-- a map that is changed at the name of a header has the values with that header
pub values_next : (old new : Entries AsciiStr) (headers : List Header) (header : Header)
    → Changes same_folded (folded_value_at old) (text_of header.name) (Some header.value)
    (folded_value_at new) → HasLastValues headers (values_in old)
    → HasLastValues (headers ++ header ∷ []) (values_in new)
values_next old new headers header changes has = λ name.
    let own = text_of header.name in
    let was = has name in
    let last = cond (same_folded own name) (Some header) was.0 in (
      last,
      subst (λ hs. FindsHeader hs name last) (sym (reverse-append headers (header ∷ [])))
          (finds_next name header (reverse headers) was.0 _
          (bytes_eq-Decides (lower_text own) (lower_text name)) was.1),
      ap (option_map text_of) (changes name)
          ∙ value_next (same_folded own name) header (folded_value_at old name) was.0 was.2,
    )
