-- What the first lines of paragraphs are after one more line.
use Rattle.std.proofs.Common.{◌≡◌, ◌∙◌, ◌||◌, ℕ, Bool, true, false, List, [], ◌∷◌, ◌++◌, ap, append_assoc}
use Rattle.std.proofs.Common.{arith, cond, refl, sym}
use Rattle.std.proofs.lemmas.List.{append-nil}
use Rattle.std.proofs.lemmas.List.Concat.{flat_map-append}
use Rattle.std.proofs.lemmas.List.Folds.{list_any-append}
use Rattle.std.specs.Cmp.Lexicographic.{nat_list_eq_equiv}
use Rattle.std.specs.List.{flat_map}
use Rattle.std.specs.Set.{is_member}
use Rattle.std.specs.Str.{bytes_eq}
use Rattle.examples.specs.Seen.{Gains, firsts, is_blank, is_new, last_paragraph, seen_line}

-- one more text is among the texts
member_push : (texts : List (List ℕ)) (last text : List ℕ)
    → is_member bytes_eq (texts ++ last ∷ []) text
    ≡ (bytes_eq last text || is_member bytes_eq texts text)
member_push texts last text =
    rw (list_any-append (bytes_eq text) texts (last ∷ []), nat_list_eq_equiv.symm last text) (grind arith)

-- an empty line begins a paragraph, and another line is one more of the last
paragraph_push : (lines : List (List ℕ)) (last : List ℕ)
    → last_paragraph (lines ++ last ∷ [])
    ≡ cond (is_blank last) (last ∷ []) (last_paragraph lines ++ last ∷ [])
paragraph_push [] [] = refl
paragraph_push [] (code ∷ last) = refl
paragraph_push (line ∷ lines) [] =
    rw (list_any-append is_blank lines ([] ∷ []), paragraph_push lines []) (grind arith)
paragraph_push (line ∷ lines) (code ∷ last) =
    rw (list_any-append is_blank lines ((code ∷ last) ∷ []), paragraph_push lines (code ∷ last))
    (grind arith)

-- one more line is one more of the first, if it is the first of its paragraph
firsts_push : (before lines : List (List ℕ)) (last : List ℕ)
    → firsts before (lines ++ last ∷ [])
    ≡ firsts before lines ++ cond (is_new (last_paragraph (before ++ lines)) last) (last ∷ []) []
firsts_push before [] last = rw (append-nil before) (append-nil _)
firsts_push before (line ∷ lines) last =
    rw (firsts_push (before ++ line ∷ []) lines last, append_assoc before (line ∷ []) lines)
    (sym (append_assoc (cond (is_new (last_paragraph before) line) (line ∷ []) [])
    (firsts (before ++ line ∷ []) lines) _))

-- and it is printed then
pub lines_push : (lines : List (List ℕ)) (last : List ℕ) (first : Bool)
    → is_new (last_paragraph lines) last ≡ first
    → flat_map seen_line (firsts [] (lines ++ last ∷ []))
    ≡ flat_map seen_line (firsts [] lines) ++ cond first (seen_line last) []
lines_push lines last true is =
    rw (firsts_push [] lines last, is) (flat_map-append seen_line (firsts [] lines) (last ∷ [])
    ∙ ap (λ printed. flat_map seen_line (firsts [] lines) ++ printed) (append-nil (seen_line last)))
lines_push lines last false is =
    rw (firsts_push [] lines last, is) (flat_map-append seen_line (firsts [] lines) [])

-- the last paragraph gains one more line, as a set of its lines does
pub paragraph_gains : (lines seen new : List (List ℕ)) (last : List ℕ)
    → ((text : List ℕ) → is_member bytes_eq seen text
    ≡ is_member bytes_eq (last_paragraph lines) text)
    → Gains seen last new
    → (text : List ℕ) → is_member bytes_eq new text
    ≡ is_member bytes_eq (last_paragraph (lines ++ last ∷ [])) text
paragraph_gains lines seen new [] same gains text =
    rw (gains text, paragraph_push lines [], nat_list_eq_equiv.symm [] text) (grind arith)
paragraph_gains lines seen new (code ∷ last) same gains text = rw (
  gains text,
  same text,
  paragraph_push lines (code ∷ last),
  member_push (last_paragraph lines) (code ∷ last) text,
) refl
