-- What is shown of a run of codes that are each shown as themselves. `plain` says that a code is
-- one
-- of these, and `shown` what is shown of a code.
use Rattle.std.proofs.Common.{◌≡◌, ℕ, ◌+◌, List, [], ◌∷◌, ◌++◌, length, take, get_or, append-nil}
use Rattle.std.proofs.Common.{ap, arith, refl, sym, ◌∙◌, length-take}
use Rattle.std.proofs.lemmas.Grind.{flat_map-append}
use Rattle.std.proofs.lemmas.List.{get_or-take, take_more}
use Rattle.std.proofs.lemmas.List.Elements.{All-from_get_or, All-head, All-tail}
use Rattle.std.specs.List.{All, flat_map}
use Rattle.ascii.specs.Bytes.{IsFirstNot}

-- a code with the plain property is shown as itself
abbrev pub ShowsPlain : (ℕ → Type 0) → (ℕ → List ℕ) → Type 0
ShowsPlain plain shown = (n : ℕ) → plain n → shown n ≡ n ∷ []

shown_run : (plain : ℕ → Type 0) (shown : ℕ → List ℕ) → ShowsPlain plain shown → (run : List ℕ)
    → All plain run → flat_map shown run ≡ run
shown_run plain shown own [] all = refl
shown_run plain shown own (x ∷ xs) all =
    grind (arith, All-head, All-tail, shown_run plain shown own xs (All-tail plain x xs all))

-- the run before the first that is not plain
run_before : (plain : ℕ → Type 0) (codes : List ℕ) (place : ℕ)
    → IsFirstNot plain codes 0 (length codes) place → All plain (take place codes)
run_before plain codes place first = All-from_get_or plain (take place codes) 0 (λ k inside.
    grind (arith, length-take, get_or-take))

-- what was shown so far, a run and a code that is not plain
pub shown_more : (plain : ℕ → Type 0) (shown : ℕ → List ℕ) → ShowsPlain plain shown
    → (done codes : List ℕ) (place : ℕ)
    → IsFirstNot plain codes 0 (length codes) place
    → flat_map shown done ++ (take place codes ++ shown (get_or codes place 0)) ≡ flat_map shown
    (done ++ take (place + 1) codes)
shown_more plain shown own done codes place first =
    let run = take place codes in
    let code = get_or codes place 0 in
    let cut : take (place + 1) codes ≡ run ++ code ∷ [] = take_more codes place 0 first.inside in
    let end : flat_map shown (code ∷ []) ≡ shown code = append-nil (shown code) in
    let both : flat_map shown (run ++ code ∷ []) ≡ run ++ shown code =
    flat_map-append shown run (code ∷ []) ∙ (ap (λ xs. xs ++ flat_map shown (code ∷ []))
    (shown_run plain shown own run (run_before plain codes place first))
    ∙ ap (λ xs. run ++ xs) end) in
    grind (arith, flat_map-append)

-- what was shown so far and a rest of which all are plain
pub shown_all : (plain : ℕ → Type 0) (shown : ℕ → List ℕ) → ShowsPlain plain shown
    → (done codes text : List ℕ) → All plain codes
    → done ++ codes ≡ text → flat_map shown done ++ codes ≡ flat_map shown text
shown_all plain shown own done codes text all is =
    sym (grind (arith, flat_map-append shown done codes, shown_run plain shown own codes all))
