-- One more occurrence is replaced.
use Rattle.std.proofs.Common.{◌≡◌, ◌≢◌, ℕ, ◌+◌, List, [], ◌++◌, Some, None, length, take, drop, sym}
use Rattle.std.proofs.Common.{subst, ◌∙◌, append_assoc, arith}
use Rattle.std.specs.List.{slice_range}
use Rattle.std.proofs.lemmas.List.{nil_from_length, take_rest}
use Rattle.memchr.specs.Find.{FindsNeedle}
use Rattle.ascii.specs.Replace.{Replaces}
use Rattle.ascii.specs.Replace.Replaces.{unchanged, first}

-- what comes before an occurrence, and `to`, are copied
pub replaces_more : (from to whole done rest piece later copied : List ℕ) (k : ℕ)
    → FindsNeedle rest from 0 (Some k) → piece ≡ slice_range rest 0 k
    → later ≡ slice_range rest (k + length from) (length rest)
    → copied ≡ (done ++ piece) ++ to
    → ((out : List ℕ) → Replaces from to rest out → Replaces from to whole (done ++ out))
    → (out : List ℕ) → Replaces from to later out → Replaces from to whole (copied ++ out)
replaces_more from to whole done rest piece later copied k found piece_is later_is copied_is left
    out more =
    let end = later_is ∙ take_rest rest (k + length from) in
    let moved : Replaces from to (drop (k + length from) rest) out = grind arith in
    let all : done ++ (take k rest ++ (to ++ out)) ≡ copied ++ out = grind (arith, append_assoc) in
    subst (Replaces from to whole) all
    (left (take k rest ++ (to ++ out)) (first rest out k found moved))

-- without a further occurrence the rest is copied
pub replaces_all : (from to whole done rest copied : List ℕ) → FindsNeedle rest from 0 None
    → copied ≡ done ++ rest
    → ((out : List ℕ) → Replaces from to rest out → Replaces from to whole (done ++ out))
    → Replaces from to whole copied
replaces_all from to whole done rest copied none copied_is left =
    subst (Replaces from to whole) (sym copied_is) (left rest (unchanged rest none))

-- an empty text has nothing to replace
pub replaces_nothing : (from to text out : List ℕ) → from ≢ [] → text ≡ [] → out ≡ []
    → Replaces from to text out
replaces_nothing from to text out some is_empty none =
    let absent : FindsNeedle [] from 0 None = grind (arith, nil_from_length) in
    rw (is_empty, none) (unchanged [] absent)
