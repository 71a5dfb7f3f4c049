-- What the bounds of an accepted part say of a writing view of it.
use Rattle.std.proofs.Common.{map, ◌≡◌, ℕ, ◌-◌, ◌<◌, ◌≤◌, List, length, get_or, arith}
use Rattle.std.specs.List.{slice_range}
use Rattle.std.specs.Str.{IsAscii}
use Rattle.ascii.specs.Slice.{AsciiBetween}
use Rattle.std.proofs.lemmas.List.{length-map, get_or-map, places}
use Rattle.std.proofs.lemmas.Grind.{common_steps}
use borrow.Rule.Slice.PartMut.{put_mid}
use Rattle.ascii.proofs.TextLemmas.{lower_image-below, upper_image-below}

-- a part that holds only bytes below 128 holds them between its ends
pub AsciiBetween-part : (bytes : List ℕ) (s e : ℕ) → IsAscii (slice_range bytes s e)
    → AsciiBetween bytes s e
AsciiBetween-part bytes s e ascii k from to = grind (arith, common_steps, ascii (k - s))

-- a part that is mapped to bytes below 128 keeps to them
pub AsciiBetween-mapped : (f : ℕ → ℕ) (xs ys : List ℕ) (s e : ℕ)
    → ys ≡ map f (slice_range xs s e) → ((b : ℕ) → b < 128 → f b < 128)
    → s ≤ e → e ≤ length xs → AsciiBetween xs s e → AsciiBetween (put_mid s (e - s) xs ys) s e
AsciiBetween-mapped f xs ys s e is small ordered inside ascii k from to =
    let long : length ys ≡ e - s = rw (is, length-map) (grind (arith, common_steps)) in
    let at : get_or (put_mid s (e - s) xs ys) k 0 ≡ get_or ys (k - s) 0 = grind (arith, places) in
    rw (at, is, get_or-map f (slice_range xs s e) (k - s) 0 0 (grind (arith, common_steps)))
    (small _ (grind (arith, common_steps, ascii k)))

-- so it does in either case
pub ruleset keeps_ascii = (AsciiBetween-mapped, upper_image-below, lower_image-below)
