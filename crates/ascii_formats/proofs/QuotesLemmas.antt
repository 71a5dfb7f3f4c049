-- Where a quoted text is closed: past each code inside, and at the quote.
use Rattle.std.proofs.Common.{◌≡◌, ◌≢◌, ℕ, zero, suc, ◌+◌, ◌≤◌, List, [], ◌∷◌, ◌++◌, length, drop}
use Rattle.std.proofs.Common.{take, refl, sym, ap, ap₂, subst, ◌∙◌, arith, inl, inr, append_assoc}
use Rattle.std.proofs.Common.{◌⊎◌, drop-cons, drop-drop, eq-eqb, length-append, ne_eqb}
use Rattle.std.proofs.lemmas.Bool.{cases_eq}
use Rattle.std.proofs.Math.Seq.{take-append_seam}
use Rattle.std.proofs.lemmas.List.{drop_all}
use Rattle.std.proofs.lemmas.Option.{get_or_from_slice_get, slice_get_within}
use Rattle.std.proofs.lemmas.List.Elements.{All-cons, All-head, All-nil, All-tail}
use Rattle.std.specs.List.{All, concat, flat_map}
use Rattle.std.specs.Prelude.{◌↔◌, Err, IfSome, IsOkAnd, MatchResult, Ok, Result, Some, slice_get}
use Rattle.ascii_formats.specs.Quotes.{ClosesBefore, IsEscapeAt, IsQuoteFault, IsQuotedCode}
use Rattle.ascii_formats.specs.Quotes.{Quotable, StartsQuoted, quoted_code, quoted_text, unquoted}
use Rattle.ascii_formats.specs.declared.quotes.QuoteError.{QuoteError}
use Rattle.ascii_formats.specs.declared.quotes.QuoteError.TheVariants.{NoQuote, NotClosed}

-- what comes after the quote that closes does not make it an escape
abbrev pub EndsAt : ℕ → ℕ → List ℕ → Type 0
EndsAt q e rest = e ≡ q → IfSome (slice_get rest 0) (λ next. next ≢ q)

-- an empty text does not close
pub not_closed : (q e : ℕ) (rest : List ℕ) → ¬ (ClosesBefore q e [] rest)
not_closed q e rest (inside, starts) =
    omega (arith, ap length starts.joined, length-append inside (q ∷ rest))

-- a quote closes the text, unless it is an escape
pub closed_here : (q e : ℕ) (rest : List ℕ) → EndsAt q e rest → ClosesBefore q e (q ∷ rest) rest
closed_here q e rest ends = grind (arith, All-nil)

-- a piece goes before a text that closes
one_more : (q e : ℕ) (piece text rest : List ℕ) → IsQuotedCode q e piece
    → ClosesBefore q e text rest → ClosesBefore q e (piece ++ text) rest
one_more q e piece text rest is (inside, starts) =
    let pieces = starts.quotable.0 in (
      piece ++ inside,
      record {
        joined = grind (arith, append_assoc);
        quotable = (
          piece ∷ pieces,
          All-cons (IsQuotedCode q e) piece pieces is starts.quotable.1,
          ap (λ l. piece ++ l) starts.quotable.2,
        );
        ends = starts.ends;
      },
    )

-- pieces that close a text whose first code is neither a quote nor an escape
plain_out : (q e n : ℕ) (more rest : List ℕ) (pieces : List (List ℕ)) → n ≢ q → n ≢ e
    → All (IsQuotedCode q e) pieces → concat pieces ++ q ∷ rest ≡ n ∷ more → EndsAt q e rest
    → ClosesBefore q e more rest
plain_out q e n more rest [] not_quote not_escape each joined ends = grind arith
plain_out q e n more rest (piece ∷ pieces) not_quote not_escape each joined ends =
    elim (All-head (IsQuotedCode q e) piece pieces each) [
      | inl h ↦ grind (arith, All-tail (IsQuotedCode q e) piece pieces each)
      | inr h ↦ grind (arith, not_escape)
    ]

-- pieces that close a text whose first code is an escape of the second
escape_out : (q e : ℕ) (more rest : List ℕ) (pieces : List (List ℕ))
    → (e ≡ q → slice_get more 0 ≡ Some q) → All (IsQuotedCode q e) pieces
    → concat pieces ++ q ∷ rest ≡ e ∷ more → EndsAt q e rest → ClosesBefore q e (drop 1 more) rest
escape_out q e more rest [] doubled each joined ends = grind arith
escape_out q e more rest (piece ∷ pieces) doubled each joined ends =
    elim (All-head (IsQuotedCode q e) piece pieces each) [
      | inl h ↦ grind arith
      | inr h ↦ grind (arith, All-tail (IsQuotedCode q e) piece pieces each)
    ]

-- pieces with their closing quote are the text
joined_pieces : (q e : ℕ) (text rest inside : List ℕ)
    (starts : StartsQuoted q e (q ∷ text) inside rest)
    → concat starts.quotable.0 ++ q ∷ rest ≡ text
joined_pieces q e text rest inside starts = grind arith

past_plain : (q e n : ℕ) (more rest : List ℕ) → n ≢ q → n ≢ e
    → ClosesBefore q e (n ∷ more) rest ↔ ClosesBefore q e more rest
past_plain q e n more rest not_quote not_escape = (
  λ closes. plain_out q e n more rest closes.1.quotable.0 not_quote not_escape
      closes.1.quotable.1 (joined_pieces q e (n ∷ more) rest closes.0 closes.1) closes.1.ends,
  one_more q e (n ∷ []) more rest (inl (n, refl, not_quote, not_escape)),
)

past_escape_in : (q e : ℕ) (more rest : List ℕ) → (e ≡ q → slice_get more 0 ≡ Some q)
    → ClosesBefore q e (drop 1 more) rest → ClosesBefore q e (e ∷ more) rest
past_escape_in q e [] rest doubled closes = absurd (not_closed q e rest closes)
past_escape_in q e (m ∷ more) rest doubled closes =
    one_more q e (e ∷ m ∷ []) more rest (inr (m, refl, λ same. cc (doubled same))) closes

past_escape : (q e : ℕ) (more rest : List ℕ) → (e ≡ q → slice_get more 0 ≡ Some q)
    → ClosesBefore q e (e ∷ more) rest ↔ ClosesBefore q e (drop 1 more) rest
past_escape q e more rest doubled = grind (arith, escape_out, joined_pieces, past_escape_in)

-- ---- a scan from `i` on

-- the text closes as what is left of it at `i` does
abbrev pub ClosesAsFrom : ℕ → ℕ → List ℕ → ℕ → Type 0
ClosesAsFrom q e text i =
    (rest : List ℕ) → ClosesBefore q e text rest ↔ ClosesBefore q e (drop i text) rest

-- what is left at `i` begins with the code there
left_at : (text : List ℕ) (i n : ℕ) → slice_get text i ≡ Some n
    → drop i text ≡ n ∷ drop (i + 1) text
left_at text i n is =
    let inside = slice_get_within text i n is in
    grind (arith, drop-cons text i 0 inside, ap₂, get_or_from_slice_get text i n 0 is)

first_left : (text : List ℕ) (i : ℕ) → slice_get (drop i text) 0 ≡ slice_get text i
first_left text zero = refl
first_left [] (suc i) = refl
first_left (m ∷ text) (suc i) = first_left text i

-- a step from `old` on to `new`
goes_on : (q e : ℕ) (text old new : List ℕ)
    → ((rest : List ℕ) → ClosesBefore q e text rest ↔ ClosesBefore q e old rest)
    → ((rest : List ℕ) → ClosesBefore q e old rest ↔ ClosesBefore q e new rest)
    → (rest : List ℕ) → ClosesBefore q e text rest ↔ ClosesBefore q e new rest
goes_on q e text old new before step rest = (
  λ closes. (step rest).0 ((before rest).0 closes),
  λ closes. (before rest).1 ((step rest).1 closes),
)

pub scan_escape : (q e : ℕ) (text : List ℕ) (i : ℕ) → IsEscapeAt q e text i
    → ClosesAsFrom q e text i → ClosesAsFrom q e text (i + 2)
scan_escape q e text i is before = goes_on q e text (drop i text) (drop (i + 2) text) before
    (λ rest.
    let more = drop (i + 1) text in
    let sum : i + 1 + 1 ≡ i + 2 = omega arith in
    let old = sym (left_at text i e is.0) in
    let new = drop-drop 1 (i + 1) text ∙ ap (λ k. drop k text) sum in
    let step = past_escape q e more rest (λ same. first_left text (i + 1) ∙ is.1 same) in
    grind arith)

-- a code that is not an escape differs from `e`, or it is a quote with another code after it
not_escape : (q e : ℕ) (text : List ℕ) (i n : ℕ) → slice_get text i ≡ Some n → n ≢ q
    → ¬ (IsEscapeAt q e text i) → n ≢ e
not_escape q e text i n is not_quote not same = grind arith

pub scan_plain : (q e : ℕ) (text : List ℕ) (i n : ℕ) → slice_get text i ≡ Some n → n ≢ q
    → ¬ (IsEscapeAt q e text i) → ClosesAsFrom q e text i → ClosesAsFrom q e text (i + 1)
scan_plain q e text i n is not_quote not before =
    goes_on q e text (drop i text) (drop (i + 1) text) before
    (λ rest. rw (left_at text i n is) (past_plain q e n (drop (i + 1) text) rest not_quote
    (not_escape q e text i n is not_quote not)))

pub scan_quote : (q e : ℕ) (text : List ℕ) (i : ℕ) → slice_get text i ≡ Some q
    → ¬ (IsEscapeAt q e text i) → ClosesAsFrom q e text i
    → ClosesBefore q e text (drop (i + 1) text)
scan_quote q e text i is not before =
    let rest = drop (i + 1) text in
    let ends : EndsAt q e rest = grind (arith, first_left) in
    (before rest).1 (rw (left_at text i q is) (closed_here q e rest ends))

pub scan_end : (q e : ℕ) (text : List ℕ) (i : ℕ) → length text ≤ i → ClosesAsFrom q e text i
    → (rest : List ℕ) → ¬ (ClosesBefore q e text rest)
scan_end q e text i end before rest closes =
    not_closed q e rest (rw (drop_all i text end) at ((before rest).0 closes))

-- ---- the text with its first quote

pub not_quoted : (q e : ℕ) (text : List ℕ) → slice_get text 0 ≡ Some q
    → ((rest : List ℕ) → ¬ (ClosesBefore q e (drop 1 text) rest))
    → IsQuoteFault q e text (NotClosed (length text))
not_quoted q e text first none = (
  refl,
  (drop 1 text, left_at text 0 q first),
  λ inside rest starts. none rest (
    inside,
    subst (λ whole. StartsQuoted q e whole inside rest) (left_at text 0 q first) starts,
  ),
)

-- ---- a text is quoted in one way only

-- a quote that is not an escape closes the text
quote_out : (q e : ℕ) (x y : List ℕ) (pieces : List (List ℕ)) → EndsAt q e x
    → All (IsQuotedCode q e) pieces → concat pieces ++ q ∷ y ≡ q ∷ x → x ≡ y
quote_out q e x y [] ends each joined = sym (ap (drop 1) joined)
quote_out q e x y (piece ∷ pieces) ends each joined = grind (arith, All-head)

closes_once : (q e : ℕ) (text x y : List ℕ) (pieces : List (List ℕ)) → EndsAt q e x
    → All (IsQuotedCode q e) pieces → concat pieces ++ q ∷ x ≡ text → ClosesBefore q e text y
    → x ≡ y
closes_once q e text x y [] ends each joined closes =
    quote_out q e x y closes.1.quotable.0 ends closes.1.quotable.1
    (joined_pieces q e text y closes.0 closes.1 ∙ sym joined)
closes_once q e text x y (piece ∷ pieces) ends each joined closes =
    let rest = concat pieces ++ q ∷ x in
    let others = All-tail (IsQuotedCode q e) piece pieces each in
    elim (All-head (IsQuotedCode q e) piece pieces each) [
      | inl h ↦
          let same : h.0 ∷ rest ≡ text = rw h.1 at joined in
          let closes_same = subst (λ t. ClosesBefore q e t y) (sym same) closes in
          closes_once q e rest x y pieces ends others refl
          ((past_plain q e h.0 rest y h.2 h.3).0 closes_same)
      | inr h ↦
          let same : e ∷ h.0 ∷ rest ≡ text = rw h.1 at joined in
          let closes_same = subst (λ t. ClosesBefore q e t y) (sym same) closes in
          closes_once q e rest x y pieces ends others refl
          ((past_escape q e (h.0 ∷ rest) y (λ is_quote. ap Some (h.2 is_quote))).0 closes_same)
    ]

-- two ways in which a text is quoted are one
pub quoted_once : (q e : ℕ) (text a b x y : List ℕ) → StartsQuoted q e text a x
    → StartsQuoted q e text b y → (a ≡ b) × (x ≡ y)
quoted_once q e text a b x y first second =
    let body = drop 1 text in
    let whole = ap (drop 1) first.joined in
    let closes : ClosesBefore q e body y = grind arith in
    let rest : x ≡ y = closes_once q e body x y first.quotable.0 first.ends first.quotable.1
    (ap (λ l. l ++ q ∷ x) first.quotable.2 ∙ whole) closes in
    let same : a ++ q ∷ x ≡ b ++ q ∷ y = whole ∙ sym (ap (drop 1) second.joined) in
    let size : length a ≡ length b =
    grind (arith, length-append a (q ∷ x), length-append b (q ∷ y)) in
    grind (arith, take-append_seam a (q ∷ x), take-append_seam b (q ∷ y), ap₂ take size same)

-- a text that is quoted is taken in that way
pub quoted_taken : {A : Type 0} (inside_of rest_of : A → List ℕ) (q e : ℕ) (text a x : List ℕ)
    (result : Result A QuoteError) → StartsQuoted q e text a x
    → MatchResult result (λ t. StartsQuoted q e text (inside_of t) (rest_of t))
    (IsQuoteFault q e text)
    → IsOkAnd result (λ t. (inside_of t ≡ a) × (rest_of t ≡ x))
quoted_taken inside_of rest_of q e text a x (Ok t) starts taken =
    quoted_once q e text (inside_of t) a (rest_of t) x taken starts
quoted_taken inside_of rest_of q e text a x (Err NoQuote) starts fault = grind arith
quoted_taken inside_of rest_of q e text a x (Err (NotClosed p)) starts fault = grind arith

-- ---- a text as it is written between quotes

-- a code is written alone, or after an escape
code_written : (q e n : ℕ) → ((quoted_code q e n ≡ n ∷ []) × (n ≢ q) × (n ≢ e))
    ⊎ ((quoted_code q e n ≡ e ∷ n ∷ []) × (e ≡ q → n ≡ q))
code_written q e n = elim (cases_eq n q) [
  | inl quote ↦ inr (rw (eq-eqb n q quote) refl, λ same. quote)
  | inr other ↦ elim (cases_eq n e) [
    | inl escape ↦ inr (rw (eq-eqb n e escape) (grind arith), λ same. escape ∙ same)
    | inr plain ↦ inl (rw (ne_eqb n q other, ne_eqb n e plain) refl, other, plain)
  ]
]

-- it is written as a piece inside of quotes
is_piece : (q e n : ℕ) → IsQuotedCode q e (quoted_code q e n)
is_piece q e n = elim (code_written q e n) [
  | inl h ↦ inl (n, h.0, h.1, h.2)
  | inr h ↦ inr (n, h.0, h.1)
]

-- a text is written as quotable pieces
pub written_quotable : (q e : ℕ) (text : List ℕ) → Quotable q e (flat_map (quoted_code q e) text)
written_quotable q e [] = ([], All-nil (IsQuotedCode q e), refl)
written_quotable q e (n ∷ text) =
    let others = written_quotable q e text in (
      quoted_code q e n ∷ others.0,
      All-cons (IsQuotedCode q e) (quoted_code q e n) others.0 (is_piece q e n) others.1,
      ap (λ l. quoted_code q e n ++ l) others.2,
    )

-- it is not shorter
pub longer_written : (q e : ℕ) (text : List ℕ)
    → length text ≤ length (flat_map (quoted_code q e) text)
longer_written q e [] = omega arith
longer_written q e (n ∷ text) =
    let others = longer_written q e text in
    let whole = length-append (quoted_code q e n) (flat_map (quoted_code q e) text) in
    elim (code_written q e n) [
      | inl h ↦ omega (arith, others, whole, ap length h.0)
      | inr h ↦ omega (arith, others, whole, ap length h.0)
    ]

-- what a plain code, and an escaped one, represent before a text
unquoted_plain : (e n : ℕ) (rest : List ℕ) → n ≢ e → unquoted e (n ∷ rest) ≡ n ∷ unquoted e rest
unquoted_plain e n [] plain = refl
unquoted_plain e n (m ∷ rest) plain = rw (ne_eqb n e plain) refl

unquoted_escaped : (e n : ℕ) (rest : List ℕ) → unquoted e (e ∷ n ∷ rest) ≡ n ∷ unquoted e rest
unquoted_escaped e n rest = rw (eq-eqb e e refl) refl

-- what is written represents the text
pub written_unquoted : (q e : ℕ) (text : List ℕ)
    → unquoted e (flat_map (quoted_code q e) text) ≡ text
written_unquoted q e [] = refl
written_unquoted q e (n ∷ text) =
    let rest = flat_map (quoted_code q e) text in
    let others = ap (λ l. n ∷ l) (written_unquoted q e text) in
    elim (code_written q e n) [
      | inl h ↦ rw h.0 (unquoted_plain e n rest h.2 ∙ others)
      | inr h ↦ rw h.0 (unquoted_escaped e n rest ∙ others)
    ]

-- a text in quotes is taken as it is written, unless a quote follows that would be a doubled one
pub written_starts : (q e : ℕ) (text rest : List ℕ) → EndsAt q e rest
    → StartsQuoted q e (quoted_text q e text ++ rest) (flat_map (quoted_code q e) text) rest
written_starts q e text rest ends = record {
  joined = ap (λ l. q ∷ l) (sym (append_assoc (flat_map (quoted_code q e) text) (q ∷ []) rest));
  quotable = written_quotable q e text;
  ends = ends;
}
