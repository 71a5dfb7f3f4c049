-- Fields of a CSV file: what is written is read back.
use Rattle.std.proofs.Common.{◌≢◌, ℕ, List, [], ◌∷◌, ◌++◌, arith, inl, inr, refl, sym}
use Rattle.std.specs.Prelude.{IfSome, slice_get}
use Rattle.std.specs.List.{All, flat_map}
use Rattle.std.proofs.lemmas.List.Elements.{All-head}
use Rattle.ascii.specs.Search.{StartsWith}
use Rattle.ascii_formats.specs.Quotes.{quoted_code, quoted_text}
use Rattle.ascii_formats.proofs.QuotesLemmas.{written_starts, written_unquoted}
use Rattle.cookbook.specs.Csv.{EndsField, IsPlainCode, IsWrittenField}

-- after a field comes neither a quote nor a plain code
not_a_quote : (rest : List ℕ) → EndsField rest → IfSome (slice_get rest 0) (λ next. next ≢ 34)
not_a_quote rest (inl none) = rw none tt
not_a_quote rest (inr (more, joined)) = rw (← joined) (λ same. omega (arith, same))

not_plain : (rest : List ℕ) → EndsField rest
    → IfSome (slice_get rest 0) (λ next. ¬ (IsPlainCode next))
not_plain rest (inl none) = rw none tt
not_plain rest (inr (more, joined)) = rw (← joined) (λ plain. grind arith)

-- a field of plain codes does not begin with a quote
no_quote : (text rest : List ℕ) → All IsPlainCode text → EndsField rest
    → ¬ (StartsWith (34 ∷ []) (text ++ rest))
no_quote [] rest plain (inl none) (more, joined) = grind arith
no_quote [] rest plain (inr comma) (more, joined) = grind arith
no_quote (n ∷ text) rest plain ends (more, joined) =
    let first = All-head IsPlainCode n text plain in
    grind arith

-- plain codes are written as they are, and others in quotes
pub written_plain : (text : List ℕ) → All IsPlainCode text → IsWrittenField text text
written_plain text plain = record {
  form = inl (plain, refl);
  back = λ rest ends. (
    inr (
      no_quote text rest plain ends,
      record { joined = refl; within = plain; bounded = not_plain rest ends },
    ),
    ends,
  );
}

pub written_in_quotes : (text : List ℕ) → ¬ (All IsPlainCode text)
    → IsWrittenField text (quoted_text 34 34 text)
written_in_quotes text other = record {
  form = inr (other, refl);
  back = λ rest ends. (
    inl (
      flat_map (quoted_code 34 34) text,
      written_starts 34 34 text rest (λ same. not_a_quote rest ends),
      sym (written_unquoted 34 34 text),
    ),
    ends,
  );
}
