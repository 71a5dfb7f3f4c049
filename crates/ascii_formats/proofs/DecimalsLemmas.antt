-- The parts of a decimal number, and the faults in them.
use Rattle.std.proofs.Common.{◌≡◌, ◌≢◌, ◌⊎◌, ℕ, zero, suc, ◌+◌, ◌-◌, ◌*◌, ◌/◌, ◌%◌, ◌^◌, ◌<◌, ◌≤◌}
use Rattle.std.proofs.Common.{List, [], ◌∷◌, ◌++◌, All, Bool, Contains, None, Option, Some, drop}
use Rattle.std.proofs.Common.{false, get_or, length, replicate, take, true, ap, ap₂, append_assoc}
use Rattle.std.proofs.Common.{append-nil, arith, length-append, length-drop, lit≤, pow-suc, refl}
use Rattle.std.proofs.Common.{subst, sym, ⊎_elim, ◌∙◌, eq-eqb, ne_eqb, drop-cons, get_or-append-add}
use Rattle.std.proofs.Common.{get_or-drop, take-append-drop}
use Rattle.std.proofs.Math.ListN.{get_or-append}
use Rattle.std.proofs.Math.Seq.{drop-append-add, drop-append_seam, take-append-add}
use Rattle.std.proofs.Math.Seq.{take-append_seam, take-suc}
use Rattle.std.proofs.lemmas.Bool.{cases_eq, cases_lt}
use Rattle.std.proofs.lemmas.Str.Parse.{digits_value-take-le}
use Rattle.std.proofs.lemmas.List.{append_cancel_left, take-append-le}
use Rattle.std.proofs.lemmas.List.Elements.{All-get_or, All-head, All-nil, All-tail}
use Rattle.std.proofs.lemmas.Option.{none-some, slice_get-get_or}
use Rattle.std.below.core.specs.declared.fmt.formatter.FormatSpec.{FormatSpec}
use Rattle.std.specs.Prelude.{Err, IfSome, IsErrAnd, MatchResult, Ok, Result, decimal, slice_index}
use Rattle.std.specs.Char.{digit_value}
use Rattle.std.specs.Fmt.{char_count, format_spec, padded_integral, styled_decimal}
use Rattle.std.specs.Int.{from_bool}
use Rattle.std.specs.Str.Parse.{AllDigits, digits_value, digits_value_after, starts_with_minus}
use Rattle.ascii_formats.specs.Decimals.{ComesBefore, IsDecimalFault, IsDigitFault, IsZeroCode}
use Rattle.ascii_formats.specs.Decimals.{StartsDecimal, WritesDecimal, decimal_text, point_digits}
use Rattle.ascii_formats.specs.Decimals.{point_text, sign_text}
use Rattle.ascii_formats.specs.declared.decimals.Decimal.{Decimal}
use Rattle.ascii_formats.specs.declared.numbers.NumberError.{NumberError}
use Rattle.ascii_formats.specs.declared.numbers.NumberError.TheVariants.{Empty, NotDigit, TooLarge}
use Rattle.ascii.specs.Trim.{TrimsEnd}

-- ---- digits

-- the number of digits after others is that of the digits that go on from the number of the others
pub value_append : (number : ℕ) (some more : List ℕ)
    → digits_value_after 10 number (some ++ more)
    ≡ digits_value_after 10 (digits_value_after 10 number some) more
value_append number [] more = refl
value_append number (digit ∷ digits) more =
    value_append (number * 10 + digit_value digit) digits more

-- one more code
take_more : (codes : List ℕ) (i : ℕ) → i < length codes
    → take (i + 1) codes ≡ take i codes ++ (get_or codes i 0 ∷ [])
take_more codes i inside = grind (arith, take-suc)

-- the number with one more digit
pub value_more : (number : ℕ) (codes : List ℕ) (i : ℕ) → i < length codes
    → digits_value_after 10 number (take (i + 1) codes)
    ≡ digits_value_after 10 number (take i codes) * 10 + digit_value (get_or codes i 0)
value_more number codes i inside = grind (arith, take_more, value_append)

-- digits after digits are digits
digits_append : (some more : List ℕ) → AllDigits 10 some → AllDigits 10 more
    → AllDigits 10 (some ++ more)
digits_append [] more first then = then
digits_append (digit ∷ digits) more first then = (first.0, digits_append digits more first.1 then)

-- zeros are digits
zeros_are_digits : (codes : List ℕ) → All IsZeroCode codes → AllDigits 10 codes
zeros_are_digits [] zeros = tt
zeros_are_digits (code ∷ codes) zeros = (
  subst (λ c. digit_value c < 10) (sym (All-head IsZeroCode code codes zeros)) (lit≤ tt),
  zeros_are_digits codes (All-tail IsZeroCode code codes zeros),
)

-- ---- positions

-- a text is its sign and what comes after it
pub signed : (text : List ℕ)
    → sign_text (starts_with_minus text) ++ drop (from_bool (starts_with_minus text)) text ≡ text
signed text = grind (arith, cases_eq, eq-eqb, ne_eqb)

-- how long a sign is
sign_length : (minus : Bool) → length (sign_text minus) ≡ from_bool minus
sign_length minus = grind arith

-- a code of `digits` at the position `p` of the text
code_is : (text before digits after : List ℕ) (i p : ℕ) → before ++ (digits ++ after) ≡ text
    → p ≡ length before + i → i < length digits → get_or text p 0 ≡ get_or digits i 0
code_is text before digits after i p joined at inside =
    grind (arith, get_or-append-add, get_or-append)

-- what comes before it
comes_before : (text before digits after whole : List ℕ) (fraction : Option (List ℕ)) (i p : ℕ)
    → before ++ (digits ++ after) ≡ text → p ≡ length before + i → i < length digits
    → StartsDecimal (starts_with_minus text) whole fraction (before ++ take i digits)
    → digits_value 10 (whole ++ point_digits fraction) < 2 ^ 64
    → ComesBefore whole fraction text p
comes_before text before digits after whole fraction i p joined at inside start fits =
    grind (arith, length-append, take-append-add, take-append-le)

-- ---- faults

-- the parts up to a position before a point
whole_start : (minus : Bool) (whole : List ℕ) → AllDigits 10 whole
    → StartsDecimal minus whole None (sign_text minus ++ whole)
whole_start minus whole digits = grind (arith, append-nil)

-- a code that is a point
in_place : (codes : List ℕ) (i : ℕ) → get_or codes i 0 ≡ 46 → i < length codes
    → get_or codes i 46 ≡ 46
in_place [] i is inside = refl
in_place (code ∷ codes) zero is inside = is
in_place (code ∷ codes) (suc i) is inside = in_place codes i is (omega (arith, inside))

-- a fault in the digits before a point, or in those of a text without a point
pub whole_fault : (text whole after : List ℕ) (e : NumberError)
    → sign_text (starts_with_minus text) ++ (whole ++ after) ≡ text → ¬ (Contains whole 46)
    → IsDigitFault (from_bool (starts_with_minus text)) 0 whole e → IsDecimalFault text e
whole_fault text whole after Empty joined free fault = absurd fault
whole_fault text whole after (NotDigit p) joined free (i, at, before, is) =
    let sign = sign_text (starts_with_minus text) in
    let place : p ≡ length sign + i = omega (arith, at, sign_length (starts_with_minus text)) in
    let code = code_is text sign whole after i p joined place before.inside in (
      take i whole,
      None,
      comes_before text sign whole after (take i whole) None i p joined place before.inside
          (whole_start (starts_with_minus text) (take i whole) before.digits)
          (subst (λ l. digits_value 10 l < 2 ^ 64) (sym (append-nil (take i whole))) before.fits),
      omega (arith, is, ap digit_value code),
      λ point. free (i, before.inside, in_place whole i (sym code ∙ point.0) before.inside),
    )
whole_fault text whole after (TooLarge p) joined free (i, at, before, is, large) =
    let sign = sign_text (starts_with_minus text) in
    let place : p ≡ length sign + i = omega (arith, at, sign_length (starts_with_minus text)) in
    let code = code_is text sign whole after i p joined place before.inside in (
      take i whole,
      None,
      comes_before text sign whole after (take i whole) None i p joined place before.inside
          (whole_start (starts_with_minus text) (take i whole) before.digits)
          (subst (λ l. digits_value 10 l < 2 ^ 64) (sym (append-nil (take i whole))) before.fits),
      omega (arith, is, ap digit_value code),
      grind (arith, take_more),
      λ dropped. dropped.0 refl,
    )

-- a fault at the point: no digit comes before it, or nothing comes after it
pub point_fault : (text whole fraction : List ℕ)
    → sign_text (starts_with_minus text) ++ (whole ++ 46 ∷ fraction) ≡ text
    → AllDigits 10 whole → digits_value 10 whole < 2 ^ 64 → (whole ≡ []) ⊎ (fraction ≡ [])
    → IsDecimalFault text (NotDigit (from_bool (starts_with_minus text) + length whole))
point_fault text whole fraction joined digits fits none =
    let minus = starts_with_minus text in
    let sign = sign_text minus in
    let p = from_bool minus + length whole in
    let front : (sign ++ whole) ++ ((46 ∷ []) ++ fraction) ≡ text = grind (arith, append_assoc) in
    let place : p ≡ length (sign ++ whole) + 0 = grind (arith, sign_length, length-append) in
    let code = code_is text (sign ++ whole) (46 ∷ []) fraction 0 p front place (omega arith) in (
      whole,
      None,
      comes_before text (sign ++ whole) (46 ∷ []) fraction whole None 0 p front place (omega arith)
          (grind (arith, append-nil, whole_start))
          (subst (λ l. digits_value 10 l < 2 ^ 64) (sym (append-nil whole)) fits),
      omega (arith, ap digit_value code),
      grind (arith, length-append),
    )

-- the parts up to a position after a point
fraction_start : (minus : Bool) (whole digits : List ℕ) → whole ≢ []
    → AllDigits 10 whole → AllDigits 10 digits
    → StartsDecimal minus whole (Some digits) ((sign_text minus ++ (whole ++ 46 ∷ [])) ++ digits)
fraction_start minus whole digits some first then = grind (arith, append_assoc, digits_append)

-- the last of the digits that are kept is not a zero, so from none of them on there are only zeros
not_dropped : (digits kept : List ℕ) (i : ℕ) → TrimsEnd IsZeroCode digits kept → i < length kept
    → ¬ (All IsZeroCode (drop i digits))
not_dropped digits kept i trimmed inside zeros =
    let last = length kept - 1 in
    let is : get_or (drop i digits) (last - i) 0 ≡ 48 =
    grind (arith, All-get_or, length-drop, length-append) in
    grind (arith, get_or-drop, get_or-append, slice_get-get_or)

-- the text up to its point, the digits after it that are kept, and the zeros
after_point : (text whole fraction kept zeros : List ℕ)
    → sign_text (starts_with_minus text) ++ (whole ++ 46 ∷ fraction) ≡ text
    → kept ++ zeros ≡ fraction
    → (sign_text (starts_with_minus text) ++ (whole ++ 46 ∷ [])) ++ (kept ++ zeros) ≡ text
after_point text whole fraction kept zeros joined parts = grind (arith, append_assoc)

-- a fault in the digits after a point
pub fraction_fault : (text whole fraction kept : List ℕ) (e : NumberError)
    → sign_text (starts_with_minus text) ++ (whole ++ 46 ∷ fraction) ≡ text
    → AllDigits 10 whole → whole ≢ [] → TrimsEnd IsZeroCode fraction kept
    → IsDigitFault (from_bool (starts_with_minus text) + length whole + 1) (digits_value 10 whole)
    kept e
    → IsDecimalFault text e
fraction_fault text whole fraction kept Empty joined digits some trimmed fault = absurd fault
fraction_fault text whole fraction kept (NotDigit p) joined digits some trimmed
    (i, at, before, is) =
    let minus = starts_with_minus text in
    let front = sign_text minus ++ (whole ++ 46 ∷ []) in
    let same = after_point text whole fraction kept trimmed.cut joined trimmed.joined in
    let place : p ≡ length front + i = grind (arith, sign_length, length-append) in
    let code = code_is text front kept trimmed.cut i p same place before.inside in (
      whole,
      Some (take i kept),
      comes_before text front kept trimmed.cut whole (Some (take i kept)) i p same place
          before.inside (fraction_start minus whole (take i kept) some digits before.digits)
          (omega (arith, before.fits, value_append 0 whole (take i kept))),
      omega (arith, is, ap digit_value code),
      λ point. none-some (take i kept) (sym point.1),
    )
fraction_fault text whole fraction kept (TooLarge p) joined digits some trimmed
    (i, at, before, is, large) =
    let minus = starts_with_minus text in
    let front = sign_text minus ++ (whole ++ 46 ∷ []) in
    let same = after_point text whole fraction kept trimmed.cut joined trimmed.joined in
    let place : p ≡ length front + i = grind (arith, sign_length, length-append) in
    let code = code_is text front kept trimmed.cut i p same place before.inside in
    let rest : drop p text ≡ drop i fraction = grind (arith, drop-append-add) in (
      whole,
      Some (take i kept),
      comes_before text front kept trimmed.cut whole (Some (take i kept)) i p same place
          before.inside (fraction_start minus whole (take i kept) some digits before.digits)
          (omega (arith, before.fits, value_append 0 whole (take i kept))),
      omega (arith, is, ap digit_value code),
      grind (arith, take_more, value_append),
      λ dropped. not_dropped fraction kept i trimmed before.inside
          (subst (All IsZeroCode) rest dropped.1),
    )

-- an error that is passed on
pub fails_with : {T E : Type 0} (result : Result T E) (fault : E) (P : T → Type 0) (Q : E → Type 0)
    → IsErrAnd result (λ e. e ≡ fault) → Q fault → MatchResult result P Q
fails_with result fault P Q is holds = grind arith

-- ---- numbers

-- a text without a point
pub writes_whole : (text whole : List ℕ) (n : ℕ)
    → sign_text (starts_with_minus text) ++ whole ≡ text → whole ≢ []
    → AllDigits 10 whole → n ≡ digits_value 10 whole → n < 2 ^ 64
    → WritesDecimal text (record {
      negative = starts_with_minus text;
      digits = n;
      places = 0;
    })
writes_whole text whole n joined some digits value fits =
    grind (
      arith,
      whole_start (starts_with_minus text) whole digits,
      All-nil IsZeroCode,
      append-nil whole,
    )

-- a text with a point
pub writes_fraction : (text whole fraction kept : List ℕ) (n : ℕ)
    → sign_text (starts_with_minus text) ++ (whole ++ 46 ∷ fraction) ≡ text
    → AllDigits 10 whole → whole ≢ [] → fraction ≢ [] → TrimsEnd IsZeroCode fraction kept
    → AllDigits 10 kept → n ≡ digits_value_after 10 (digits_value 10 whole) kept → n < 2 ^ 64
    → WritesDecimal text (record {
      negative = starts_with_minus text;
      digits = n;
      places = length kept;
    })
writes_fraction text whole fraction kept n joined digits some after trimmed more value fits =
    record {
      whole = whole;
      fraction = Some fraction;
      kept = kept;
      parts = grind (arith, digits_append, zeros_are_digits);
      some = some;
      after = after;
      trimmed = trimmed;
      digits = value ∙ sym (value_append 0 whole kept);
      fits = fits;
      places = refl;
    }

-- ---- the only number

-- the sign of a text is that of the parts that join to it
sign_is : (minus : Bool) (whole : List ℕ) (fraction : Option (List ℕ)) (text : List ℕ)
    → StartsDecimal minus whole fraction text → whole ≢ [] → starts_with_minus text ≡ minus
sign_is true whole fraction text parts some = ap starts_with_minus (sym parts.joined)
sign_is false [] fraction text parts some = absurd (some refl)
sign_is false (digit ∷ digits) fraction text parts some = grind (arith, ne_eqb)

-- digits before a point or the end are all digits up to there
same_parts : (whole other : List ℕ) (fraction last : Option (List ℕ)) → AllDigits 10 whole
    → AllDigits 10 other → whole ++ point_text fraction ≡ other ++ point_text last
    → (whole ≡ other) × (point_text fraction ≡ point_text last)
same_parts [] [] fraction last digits others joined = (refl, joined)
same_parts [] (digit ∷ more) None last digits others joined = grind arith
same_parts [] (digit ∷ more) (Some f) last digits others joined = grind arith
same_parts (digit ∷ more) [] fraction None digits others joined = grind arith
same_parts (digit ∷ more) [] fraction (Some f) digits others joined = grind arith
same_parts (digit ∷ more) (other ∷ others) fraction last first then joined =
    grind (arith, ap₂, same_parts more others fraction last first.1 then.1 (ap (drop 1) joined))

-- the digits after a point are those after the first code
digits_after : (fraction : Option (List ℕ)) → drop 1 (point_text fraction) ≡ point_digits fraction
digits_after fraction = grind arith

-- the first digits of a text of parts
first_digits : (whole more : List ℕ) → AllDigits 10 (whole ++ more) → AllDigits 10 whole
first_digits [] more digits = tt
first_digits (digit ∷ others) more digits = (digits.0, first_digits others more digits.1)

-- one of two texts without their zeros at the end is not shorter than the other
not_shorter : (digits kept other : List ℕ) → TrimsEnd IsZeroCode digits kept
    → TrimsEnd IsZeroCode digits other → length other ≤ length kept
not_shorter digits kept other trimmed trims = ⊎_elim
    (λ shorter. absurd (not_dropped digits other (length kept) trims shorter
    (subst (All IsZeroCode) (grind (arith, drop-append_seam)) trimmed.within)))
    (λ order. order) (cases_lt (length kept) (length other))

-- there is one text without the zeros at the end
one_trimmed : (digits kept other : List ℕ) → TrimsEnd IsZeroCode digits kept
    → TrimsEnd IsZeroCode digits other → kept ≡ other
one_trimmed digits kept other trimmed trims =
    let same : length kept ≡ length other = omega (
      arith,
      not_shorter digits kept other trimmed trims,
      not_shorter digits other kept trims trimmed,
    ) in
    grind (arith, take-append_seam other trims.cut, take-append_seam kept trimmed.cut)

-- a text writes one decimal number at most
pub one_decimal : (text : List ℕ) (d e : Decimal) → WritesDecimal text d → WritesDecimal text e
    → d ≡ e
one_decimal text d e one other =
    let minus : d.negative ≡ e.negative =
    sym (sign_is d.negative one.whole one.fraction text one.parts one.some)
    ∙ sign_is e.negative other.whole other.fraction text other.parts other.some in
    let joined = append_cancel_left (sign_text d.negative) (one.whole ++ point_text one.fraction)
    (other.whole ++ point_text other.fraction) (grind arith) in
    let parts = same_parts one.whole other.whole one.fraction other.fraction
    (first_digits one.whole (point_digits one.fraction) one.parts.digits)
    (first_digits other.whole (point_digits other.fraction) other.parts.digits) joined in
    let after = sym (digits_after one.fraction) ∙ ap (drop 1) parts.1
    ∙ digits_after other.fraction in
    let kept = one_trimmed (point_digits one.fraction) one.kept other.kept one.trimmed
    (subst (λ l. TrimsEnd IsZeroCode l other.kept) (sym after) other.trimmed) in
    grind (arith, ap₂)

-- ---- a text that writes a number is not at fault

-- a list that is not empty has a length above 0
has_length : (codes : List ℕ) → codes ≢ [] → 0 < length codes
has_length [] some = absurd (some refl)
has_length (code ∷ codes) some = omega arith

-- digits at the start of parts are at the start of the digits before the point
digits_of_whole : (whole digits more : List ℕ) (fraction : Option (List ℕ)) → AllDigits 10 digits
    → whole ++ point_text fraction ≡ digits ++ more → (rest : List ℕ) × (whole ≡ digits ++ rest)
digits_of_whole whole [] more fraction all joined = (whole, refl)
digits_of_whole [] (digit ∷ digits) more None all joined = absurd (omega (arith, ap length joined))
digits_of_whole [] (digit ∷ digits) more (Some f) all joined = grind arith
digits_of_whole (code ∷ codes) (digit ∷ digits) more fraction all joined =
    grind (arith, ap₂, digits_of_whole codes digits more fraction all.1 (ap (drop 1) joined))

-- digits up to another code are all digits before the point or the end
stops_at : (whole digits more : List ℕ) (fraction : Option (List ℕ)) (code : ℕ)
    → AllDigits 10 whole → AllDigits 10 digits → 10 ≤ digit_value code
    → whole ++ point_text fraction ≡ digits ++ code ∷ more
    → (whole ≡ digits) × (point_text fraction ≡ code ∷ more)
stops_at [] [] more fraction code first then other joined = (refl, joined)
stops_at [] (digit ∷ digits) more None code first then other joined = grind arith
stops_at [] (digit ∷ digits) more (Some f) code first then other joined = grind arith
stops_at (digit ∷ digits) [] more fraction code first then other joined = grind arith
stops_at (digit ∷ digits) (next ∷ others) more fraction code first then other joined =
    let rest =
    stops_at digits others more fraction code first.1 then.1 other (ap (drop 1) joined) in
    (ap₂ (λ c l. c ∷ l) (ap (λ l. get_or l 0 0) joined) rest.0, rest.1)

-- more digits do not make the number smaller
value_of_start : (some more : List ℕ) → digits_value 10 some ≤ digits_value 10 (some ++ more)
value_of_start some more =
    subst (λ l. digits_value 10 l ≤ digits_value 10 (some ++ more)) (take-append_seam some more)
    (digits_value-take-le 10 (some ++ more) (length some) (lit≤ tt))

-- a code of digits is a digit
digit_among : (some more : List ℕ) (code : ℕ) → AllDigits 10 (some ++ code ∷ more)
    → digit_value code < 10
digit_among [] more code digits = digits.0
digit_among (digit ∷ others) more code digits = digit_among others more code digits.1

-- the digits of parts after the first
last_digits : (whole more : List ℕ) → AllDigits 10 (whole ++ more) → AllDigits 10 more
last_digits [] more digits = digits
last_digits (digit ∷ others) more digits = last_digits others more digits.1

-- a point that stops digits has digits after it
some_after : (fraction : Option (List ℕ)) (code : ℕ) (more : List ℕ)
    → point_text fraction ≡ code ∷ more → IfSome fraction (λ digits. digits ≢ [])
    → (code ≡ 46) × (0 < length more)
some_after fraction code more joined some = grind (arith, has_length)

-- what comes after the codes that are kept is among the zeros
zeros_past : (kept zeros front rest : List ℕ) → kept ++ zeros ≡ front ++ rest
    → length kept ≤ length front → All IsZeroCode zeros → All IsZeroCode rest
zeros_past [] zeros [] rest joined order all = subst (All IsZeroCode) joined all
zeros_past [] (zero_code ∷ zeros) (code ∷ front) rest joined order all =
    zeros_past [] zeros front rest (ap (drop 1) joined) (omega arith)
    (All-tail IsZeroCode zero_code zeros all)
zeros_past [] [] (code ∷ front) rest joined order all = absurd (omega (arith, ap length joined))
zeros_past (digit ∷ kept) zeros [] rest joined order all = absurd (omega (arith, order))
zeros_past (digit ∷ kept) zeros (code ∷ front) rest joined order all =
    zeros_past kept zeros front rest (ap (drop 1) joined) (omega (arith, order)) all

-- the parts of a text, up to a position and from there on
parts_at : (text whole : List ℕ) (fraction : Option (List ℕ)) (p : ℕ) (d : Decimal)
    → ComesBefore whole fraction text p → (one : WritesDecimal text d)
    → one.whole ++ point_text one.fraction
    ≡ whole ++ (point_text fraction ++ slice_index text p ∷ drop (p + 1) text)
parts_at text whole fraction p d before one =
    let sign = sign_text (starts_with_minus text) in
    let code = get_or text p 0 in
    let next : suc p ≡ p + 1 = omega arith in
    let rest : drop p text ≡ code ∷ drop (p + 1) text = grind (arith, drop-cons) in
    let minus = sign_is d.negative one.whole one.fraction text one.parts one.some in
    let whole_text : sign ++ (whole ++ (point_text fraction ++ code ∷ drop (p + 1) text)) ≡ text =
    ap (λ l. sign ++ l) (sym (append_assoc whole (point_text fraction) (code ∷ drop (p + 1) text)))
    ∙ sym (append_assoc sign (whole ++ point_text fraction) (code ∷ drop (p + 1) text))
    ∙ ap₂ (λ a b. a ++ b) before.start.joined (sym rest) ∙ take-append-drop p text in
    grind (arith, append_cancel_left)

-- a text that writes a decimal number is not at fault
pub no_decimal_fault : (text : List ℕ) (d : Decimal) (e : NumberError) → WritesDecimal text d
    → ¬ (IsDecimalFault text e)
no_decimal_fault text d Empty one fault =
    let minus = sign_is d.negative one.whole one.fraction text one.parts one.some in
    let lengths = ap length (one.parts.joined ∙ sym (signed text)) in
    grind (arith, has_length, length-append)
no_decimal_fault text d (NotDigit p) one (whole, None, before, is, point) =
    let code = slice_index text p in
    let stop = stops_at one.whole whole (drop (p + 1) text) one.fraction code
    (first_digits one.whole (point_digits one.fraction) one.parts.digits)
    (first_digits whole [] before.start.digits) is (parts_at text whole None p d before one) in
    let fraction = some_after one.fraction code (drop (p + 1) text) stop.1 one.after in
    grind (arith, length-drop)
no_decimal_fault text d (NotDigit p) one (whole, Some f, before, is, point) =
    let code = slice_index text p in
    let same = same_parts one.whole whole one.fraction (Some (f ++ code ∷ drop (p + 1) text))
    (first_digits one.whole (point_digits one.fraction) one.parts.digits)
    (first_digits whole f before.start.digits) (parts_at text whole (Some f) p d before one) in
    grind (arith, digits_after, last_digits, digit_among)
no_decimal_fault text d (TooLarge p) one (whole, None, before, is, large, counts) =
    let code = slice_index text p in
    let more = drop (p + 1) text in
    let joined = parts_at text whole None p d before one
    ∙ sym (append_assoc whole (code ∷ []) more) in
    grind (arith, digits_append, first_digits, digits_of_whole, value_of_start)
no_decimal_fault text d (TooLarge p) one (whole, Some f, before, is, large, counts) =
    let code = slice_index text p in
    let more = drop (p + 1) text in
    let same = same_parts one.whole whole one.fraction (Some (f ++ code ∷ more))
    (first_digits one.whole (point_digits one.fraction) one.parts.digits)
    (first_digits whole f before.start.digits) (parts_at text whole (Some f) p d before one) in
    let fraction = sym (digits_after one.fraction) ∙ ap (drop 1) same.1 in
    let trimmed = subst (λ l. TrimsEnd IsZeroCode l one.kept) fraction one.trimmed in
    let next : suc p ≡ p + 1 = omega arith in
    let rest : drop p text ≡ code ∷ more = grind (arith, drop-cons) in
    ⊎_elim (λ inside.
    let kept : f ++ code ∷ [] ≡ take (length f + 1) one.kept =
    sym (take-append-add f (code ∷ more) 1) ∙ ap (take (length f + 1)) (sym trimmed.joined)
    ∙ take-append-le (length f + 1) one.kept trimmed.cut (omega (arith, inside)) in
    let parts : one.whole ++ one.kept
    ≡ (whole ++ (f ++ code ∷ [])) ++ drop (length f + 1) one.kept =
    grind (arith, ap₂, take-append-drop, append_assoc) in
    grind (arith, value_of_start))
    (grind (arith, none-some, All, zeros_past)) (cases_lt (length f) (length one.kept))

-- a text that writes a decimal number is read as that number
pub reads_decimal_number : (text : List ℕ) (d : Decimal) (result : Result Decimal NumberError)
    → MatchResult result (WritesDecimal text) (IsDecimalFault text) → WritesDecimal text d
    → result ≡ Ok d
reads_decimal_number text d (Ok other) says one = ap Ok (one_decimal text other d says one)
reads_decimal_number text d (Err e) says one = absurd (no_decimal_fault text d e one says)

-- ---- output

-- ten to the number of 20 places or more is more than a `u64` holds
pub many_places : (k : ℕ) → 2 ^ 64 ≤ 10 ^ (k + 20)
many_places zero = lit≤ tt
many_places (suc k) = grind (arith, many_places k, pow-suc 10 (k + 20))

-- what `{:0places$}` writes of a number
filled : (places n : ℕ) → places ≢ 0
    → styled_decimal (format_spec 32 0 4 places (2 ^ 64 - 1)) n
    ≡ replicate (places - length (decimal n)) 48 ++ decimal n
unfolding padded_integral char_count
filled places n some =
    let padding : places - length (decimal n) - 0 - 0 ≡ places - length (decimal n) = omega arith in
    rw (ne_eqb places 0 some)
    (ap (λ k. replicate k 48 ++ (decimal n ++ [])) padding
    ∙ ap (λ l. replicate (places - length (decimal n)) 48 ++ l) (append-nil (decimal n)))

-- the parts that are written are the output
pub output_is : (d : Decimal) (sign : List ℕ) (whole fraction : ℕ) (spec : FormatSpec)
    → sign ≡ sign_text d.negative → whole ≡ d.digits / 10 ^ d.places
    → fraction ≡ d.digits % 10 ^ d.places
    → spec ≡ format_spec 32 0 4 d.places (2 ^ 64 - 1) → d.places ≢ 0
    → sign ++ (decimal whole ++ 46 ∷ styled_decimal spec fraction) ≡ decimal_text d
output_is d sign whole fraction spec minus front back options some = grind (arith, filled, ne_eqb)
