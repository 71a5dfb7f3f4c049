-- Edits of a text leave codes alone.
use Rattle.std.proofs.Common.{ℕ, ◌≡◌, map, ◌<◌, List, ◌++◌, ◌≤◌, length, take, drop, arith, Err, []}
use Rattle.std.proofs.Common.{refl, subst, suc, sym, zero}
use Rattle.std.proofs.Math.Seq.{take-append_seam}
use Rattle.std.proofs.lemmas.Bool.Decides.{nat_tests}
use Rattle.std.specs.Str.{IsAscii}
use Rattle.std.specs.List.{insert, refill, remove, repeat}
use Rattle.std.proofs.lemmas.Str.{IsAscii-take, IsAscii-drop, IsAscii-append}
use Rattle.std.proofs.lemmas.Str.Ascii.{IsAscii-cons, IsAscii-map, IsAscii-nil}
use Rattle.std.specs.declared.fmt.Error.{Error}
use Rattle.ascii_base.specs.Bytes.{FirstOther}
use Rattle.ascii_base.specs.Case.{upper_image, lower_image}
use Rattle.ascii.specs.StringState.{EditsInPlace, StringState, Writes}

-- the upper image of a code is a code
pub upper_image-below : (n : ℕ) → n < 128 → upper_image n < 128
upper_image-below n h = grind (arith, nat_tests)

-- the lower image of a code is a code
pub lower_image-below : (n : ℕ) → n < 128 → lower_image n < 128
lower_image-below n h = grind (arith, nat_tests)

-- a text with a code inside is a text
pub IsAscii-insert : (t : List ℕ) (i n : ℕ) → IsAscii t → n < 128 → IsAscii (insert t i n)
IsAscii-insert t i n a b = search (IsAscii-append, IsAscii-cons, IsAscii-take, IsAscii-drop)

-- a text without the code at a position is a text
pub IsAscii-remove : (t : List ℕ) (i : ℕ) → IsAscii t → IsAscii (remove t i)
IsAscii-remove t i a =
    IsAscii-append (take i t) (drop (suc i) t) (IsAscii-take t i a) (IsAscii-drop t (suc i) a)

-- written again in its place
pub IsAscii-written : (t w new : List ℕ) → new ≡ refill (length t) t w → IsAscii t → IsAscii w
    → IsAscii new
IsAscii-written t w new is a b = subst IsAscii (sym is)
    (IsAscii-take (w ++ drop (length w) t) (length t)
    (IsAscii-append w (drop (length w) t) b (IsAscii-drop t (length w) a)))

-- bytes written again in their place are an edit
pub EditsInPlace-written : (to w : List ℕ) (held old new : StringState) → held ≡ old
    → new.text ≡ refill (length held.text) held.text w → new.capacity ≡ held.capacity
    → length held.text ≤ held.capacity → length w ≡ length held.text → w ≡ to
    → EditsInPlace to old new
EditsInPlace-written to w held old new same text capacity room full is =
    grind (arith, take-append_seam)

-- the bytes of a buffer after a text in front of them is mapped to codes
pub IsAscii-mapped : (f : ℕ → ℕ) → ((b : ℕ) → b < 128 → f b < 128)
    → (n : ℕ) (new shown old : List ℕ)
    → new ≡ map f shown → shown ≡ old → IsAscii old
    → IsAscii (take n (new ++ drop (length new) old))
IsAscii-mapped f small n new shown old mapped is ascii =
    rw (mapped, is) (search (IsAscii-append, IsAscii-map, IsAscii-take, IsAscii-drop))

-- bytes with one above 127 are not a text, and are not empty
pub no_text : (bytes : List ℕ) (i : ℕ) → FirstOther bytes 0 (length bytes) i → ¬ (IsAscii bytes)
no_text bytes i other ascii = omega (arith, other.other, ascii i)

-- writing rejects what is not a text, and the string is unchanged
pub Writes-refused : (sure : ℕ) (piece : List ℕ) (held : StringState) (e : Error)
    → length held.text ≤ held.capacity → ¬ (IsAscii piece) → Writes sure piece held held (Err e)
Writes-refused sure piece held e room none = grind (arith, IsAscii-nil)

-- copies of a text are a text
pub ascii_repeated : (n : ℕ) (t : List ℕ) → IsAscii t → IsAscii (repeat n t)
ascii_repeated zero t ascii = IsAscii-nil
ascii_repeated (suc n) t ascii = grind (arith, IsAscii-append, ascii_repeated n t ascii)

-- copies of the empty text are the empty text
pub nothing_repeated : (n : ℕ) (t : List ℕ) → t ≡ [] → repeat n t ≡ []
nothing_repeated zero t none = refl
nothing_repeated (suc n) t none = rw none (nothing_repeated n [] refl)
