-- A mode whose output is made part by part: the one law of its parts, and its output for a text.
use Rattle.std.proofs.Common.{◌≡◌, ℕ, Bool, cond, List, [], ◌∷◌, ◌++◌, length, eqb, eqb-true, arith}
use Rattle.std.proofs.Common.{ap, sym, refl, ◌∙◌, append-nil, append_assoc, not, ◌&&◌}
use Rattle.std.proofs.Common.{length-append}
use Rattle.std.proofs.lemmas.Grind.{flat_map-append}
use Rattle.std.proofs.lemmas.List.{map-append}
use Rattle.ascii_run.specs.declared.bounded.BoundedMode.{BoundedMode}
use Rattle.ascii_run.specs.declared.bounded.BoundedMode.TheVariants.{Copy, Lines}
use Rattle.ascii_run.specs.Streamed.{IsCutOutput, IsWholeOutput, Stream, cut_off, front, last_after}
use Rattle.ascii_run.specs.Streamed.{lines_closing, lines_part, stream, whole}
use Rattle.ascii_run.proofs.LineFeedLemmas.{ShowsLines-feeds, front_feeds, with_line_feeds}

-- the law: what is added for two parts is what is added for the first and then for the second
abbrev pub Law : Stream → Type 0
Law mode = (before : ℕ) (text more : List ℕ)
    → mode.part before (text ++ more)
    ≡ mode.part before text ++ mode.part (last_after before text) more

-- ---- lines

-- a code and a part after it
joint : (c d : ℕ) (x y : Bool) → eqb c 13 ≡ x → (rest : List ℕ)
    → cond (x && y) rest (c ∷ rest)
    ≡ cond x [] (c ∷ []) ++ (cond (x && not y) (13 ∷ []) [] ++ rest)
joint c d x y is rest = grind (arith, eqb-true)

feeds_more : (c : ℕ) (cs : List ℕ) (p : ℕ) (ps : List ℕ) → (before : ℕ)
    → front_feeds ((c ∷ cs) ++ p ∷ ps)
    ≡ front_feeds (c ∷ cs) ++ lines_part (last_after before (c ∷ cs)) (p ∷ ps)
feeds_more c [] p ps before = joint c p (eqb c 13) (eqb p 10) refl (front_feeds (p ∷ ps))
feeds_more c (d ∷ cs) p ps before = grind (arith, eqb, front_feeds, feeds_more d cs p ps before)

lines_law : Law (stream Lines)
lines_law before [] more = refl
lines_law before (c ∷ cs) [] = grind (arith, append-nil)
lines_law before (c ∷ cs) (p ∷ ps) =
    let held = cond (eqb before 13 && not (eqb c 10)) (13 ∷ []) [] in
    ap (λ xs. held ++ xs) (feeds_more c cs p ps before)
    ∙ sym (grind (arith, append_assoc, front_feeds))

lines_front : (text : List ℕ) → lines_part 10 text ≡ front_feeds text
lines_front text = grind arith

-- a last code
end_of : (c : ℕ) (x y : Bool) → eqb c 10 ≡ x → eqb c 13 ≡ y
    → cond y [] (c ∷ []) ++ cond x [] (cond y (13 ∷ 10 ∷ []) (10 ∷ []))
    ≡ cond x (c ∷ []) (c ∷ 10 ∷ [])
end_of c x y lf cr = grind (arith, eqb-true)

lines_end : (text : List ℕ)
    → front_feeds text ++ lines_closing (last_after 10 text) ≡ with_line_feeds text
lines_end [] = refl
lines_end (c ∷ []) = end_of c (eqb c 10) (eqb c 13) refl refl
lines_end (c ∷ d ∷ cs) = grind (arith, eqb, front_feeds, lines_end (d ∷ cs))

-- ---- the table: the law of each mode, and what its output is

pub is_whole : (mode : BoundedMode) (text : List ℕ)
    → IsWholeOutput mode text (whole (stream mode) text)
is_whole Copy text = append-nil text
is_whole Lines text = grind (arith, lines_front, lines_end, ShowsLines-feeds text)
is_whole mode text = grind (arith, append-nil)

-- of a text after which an error ends the input
pub is_cut : (mode : BoundedMode) (text : List ℕ)
    → IsCutOutput mode text (cut_off (stream mode) text)
is_cut Copy text = append-nil text
is_cut Lines text = is_whole Lines text
is_cut mode text = grind (arith, append-nil)

-- ---- what follows from the law for every mode

no_more : (xs : List ℕ) → xs ≡ xs ++ xs → xs ≡ []
no_more [] is = refl
no_more (x ∷ xs) is =
    absurd (omega (arith, ap length is, length-append (x ∷ xs) (x ∷ xs)))

-- of an empty text
pub front_start : (mode : BoundedMode) → front (stream mode) [] ≡ (stream mode).opening
front_start mode = grind (arith, no_more, append-nil, lines_law, flat_map-append, map-append)

-- one part more
pub front_more : (mode : BoundedMode) (text part : List ℕ)
    → front (stream mode) text ++ (stream mode).part (last_after 10 text) part
    ≡ front (stream mode) (text ++ part)
front_more mode text part = grind (arith, append_assoc, lines_law, flat_map-append, map-append)

-- the last byte, after one part more
pub last_more : (before : ℕ) (text part : List ℕ)
    → last_after (last_after before text) part ≡ last_after before (text ++ part)
last_more before [] part = refl
last_more before (c ∷ cs) part = last_more c cs part
