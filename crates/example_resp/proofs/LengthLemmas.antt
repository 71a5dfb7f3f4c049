-- Which digits do not write a length.
use Rattle.std.proofs.Common.{◌≢◌, ℕ, ◌<◌, ◌≤◌, List, [], ◌∷◌, arith, length, refl}
use Rattle.ascii_formats.proofs.NumbersLemmas.{no_fault}
use Rattle.ascii_formats.specs.Numbers.{IsNumberFault, WritesNumber}
use Rattle.ascii_formats.specs.declared.numbers.NumberError.{NumberError}
use Rattle.example_resp.specs.Requests.{IsShortest}

-- digits that write a number of more than `most` do not write one of at most `most`
pub too_large : (most wide n : ℕ) (digits : List ℕ) → WritesNumber wide digits n → most < n
    → (m : ℕ) → WritesNumber most digits m → ¬ (IsShortest digits)
too_large most wide n digits writes above m fits short =
    omega (arith, above, writes.value, fits.number.1)

-- a text that is not empty has a code
long_enough : (text : List ℕ) → text ≢ [] → 0 < length text
long_enough [] some = absurd (some refl)
long_enough (code ∷ codes) some = omega arith

-- a text at fault does not write a length
pub at_fault : (most wide : ℕ) (digits : List ℕ) (fault : NumberError)
    → IsNumberFault wide digits fault → most ≤ wide
    → (m : ℕ) → WritesNumber most digits m → ¬ (IsShortest digits)
at_fault most wide digits fault is narrow m fits short =
    no_fault wide digits fault (long_enough digits fits.some, fits.number.0)
    (omega (arith, fits.number.1, narrow)) is
