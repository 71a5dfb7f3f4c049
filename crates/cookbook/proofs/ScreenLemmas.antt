-- What a screen shows: no control but LF, no line wider than the screen, and a text that needs no
-- change as it is.
use Rattle.std.proofs.Common.{◌≡◌, ◌≢◌, ℕ, ◌+◌, ◌-◌, ◌%◌, ◌<◌, ◌≤◌, ◌⊎◌, inl, inr, ⊎_elim, zero}
use Rattle.std.proofs.Common.{suc, List, [], ◌∷◌, ◌++◌, length, min, refl, sym, ap, subst, ◌∙◌}
use Rattle.std.proofs.Common.{arith, append_assoc, append-nil, length-append, length-take}
use Rattle.std.specs.Prelude.{codes, ⊤}
use Rattle.std.specs.List.{All}
use Rattle.std.proofs.lemmas.Bool.{cases_eq, cases_lt}
use Rattle.std.proofs.lemmas.Bool.Decides.{nat_tests}
use Rattle.std.proofs.lemmas.List.Elements.{All-append, All-cons, All-head, All-nil, All-tail}
use Rattle.std.proofs.lemmas.List.Elements.{All-take}
use Rattle.ascii.specs.Notations.{caret_text}
use Rattle.ascii_run.specs.Modes.Caret.{IsShown}
use Rattle.cookbook.specs.Screen.{IsNoWider, cell_text, column_after, char_on_screen, screen_text}

-- a character that takes a column
abbrev pub Inked : ℕ → Type 0
Inked n = (32 ≤ n) × (n ≢ 127)

inked_other : (n : ℕ) → Inked n → n ≢ 10
inked_other n inked is = omega (arith, inked.0)

one_inked : (n : ℕ) → 32 ≤ n → (n ≢ 127) → All Inked (n ∷ [])
one_inked n low high = All-cons Inked n [] (low, high) (All-nil Inked)

-- ---- cells

caret_inked_by : (n : ℕ) → n ≢ 10 → (n < 32) ⊎ (32 ≤ n) → (n ≡ 127) ⊎ (n ≢ 127)
    → All Inked (caret_text n)
caret_inked_by n other (inl low) delete =
    let is : caret_text n ≡ 94 ∷ (n + 64) ∷ [] = grind (arith, nat_tests) in
    subst (All Inked) (sym is)
    (All-cons Inked 94 ((n + 64) ∷ []) (omega arith, λ is. omega arith)
    (one_inked (n + 64) (omega arith) (λ is. omega (arith, low))))
caret_inked_by n other (inr high) (inl is) = subst (λ m. All Inked (caret_text m)) (sym is)
    (All-cons Inked 94 (63 ∷ []) (omega arith, λ is. omega arith)
    (one_inked 63 (omega arith) (λ is. omega arith)))
caret_inked_by n other (inr high) (inr below) =
    let is : caret_text n ≡ n ∷ [] = grind (arith, nat_tests) in
    subst (All Inked) (sym is) (one_inked n high below)

abbrev spaces : ℕ → List ℕ
spaces zero = []
spaces (suc n) = 32 ∷ spaces n

runs_inked : (n : ℕ) → All Inked (spaces n)
runs_inked zero = All-nil Inked
runs_inked (suc n) = All-cons Inked 32 (spaces n) (omega arith, λ is. omega arith) (runs_inked n)

spaces_inked : All Inked (codes "        ")
spaces_inked = runs_inked 8

cell_inked_by : (w c n : ℕ) → n ≢ 10 → (n ≡ 9) ⊎ (n ≢ 9) → All Inked (cell_text w c n)
cell_inked_by w c n other (inl is) =
    subst (λ m. All Inked (cell_text w c m)) (sym is)
    (All-take Inked (min (8 - c % 8) (w - c)) (codes "        ") spaces_inked)
cell_inked_by w c n other (inr no_tab) =
    let is : cell_text w c n ≡ caret_text n = grind (arith, nat_tests) in
    subst (All Inked) (sym is) (caret_inked_by n other (cases_lt n 32) (cases_eq n 127))

pub cell_inked : (w c n : ℕ) → n ≢ 10 → All Inked (cell_text w c n)
cell_inked w c n other = cell_inked_by w c n other (cases_eq n 9)

caret_short : (n : ℕ) → length (caret_text n) ≤ 2
caret_short n = grind (arith, nat_tests)

cell_fits_by : (w n : ℕ) → 2 ≤ w → (n ≡ 9) ⊎ (n ≢ 9) → length (cell_text w 0 n) ≤ w
cell_fits_by w n wide (inl is) =
    subst (λ m. length (cell_text w 0 m) ≤ w) (sym is)
    (omega (arith, length-take (min 8 (w - 0)) (codes "        ")))
cell_fits_by w n wide (inr no_tab) =
    let is : cell_text w 0 n ≡ caret_text n = grind (arith, nat_tests) in
    subst (λ cs. length cs ≤ w) (sym is) (omega (arith, caret_short n))

-- ---- columns

column_line_feed : (c : ℕ) (xs : List ℕ) → column_after c (10 ∷ xs) ≡ column_after 0 xs
column_line_feed c xs = refl

column_other : (c x : ℕ) (xs : List ℕ) → x ≢ 10 → column_after c (x ∷ xs) ≡ column_after (c + 1) xs
column_other c x xs other = grind (arith, nat_tests)

pub column_inked : (c : ℕ) (s : List ℕ) → All Inked s → column_after c s ≡ c + length s
column_inked c [] all = omega arith
column_inked c (x ∷ s) all =
    column_other c x s (inked_other x (All-head Inked x s all))
    ∙ column_inked (c + 1) s (All-tail Inked x s all) ∙ omega arith

-- ---- lines within the width

abbrev Within : ℕ → ℕ → List ℕ → Type 0
Within w c [] = ⊤
Within w c (x ∷ xs) = ((x ≡ 10) × Within w 0 xs) ⊎ ((x ≢ 10) × (c + 1 ≤ w) × Within w (c + 1) xs)

within_inked : (w c : ℕ) (s : List ℕ) → All Inked s → c + length s ≤ w → Within w c s
within_inked w c [] all fits = tt
within_inked w c (x ∷ s) all fits =
    let size : length (x ∷ s) ≡ length s + 1 = omega arith in
    inr (
      inked_other x (All-head Inked x s all),
      omega (arith, fits, size),
      within_inked w
          (c + 1) s (All-tail Inked x s all) (omega (arith, fits, size)),
    )

within_append : (w c : ℕ) (a b : List ℕ) → Within w c a → Within w (column_after c a) b
    → Within w c (a ++ b)
within_append w c [] b first second = second
within_append w c (x ∷ a) b (inl (is, first)) second =
    inl (
      is,
      within_append w 0 a b first
          (subst (λ k. Within w k b) (ap (λ y. column_after c (y ∷ a)) is ∙ column_line_feed c a)
          second),
    )
within_append w c (x ∷ a) b (inr (other, fits, first)) second =
    inr (
      other,
      fits,
      within_append w (c + 1) a b first
          (subst (λ k. Within w k b) (column_other c x a other) second),
    )

-- ---- the output for a character

shown_here : (w c n : ℕ) → n ≢ 10 → c + length (cell_text w c n) ≤ w
    → char_on_screen w c n ≡ cell_text w c n
shown_here w c n other fits = grind (arith, nat_tests)

shown_next : (w c n : ℕ) → n ≢ 10 → w < c + length (cell_text w c n)
    → char_on_screen w c n ≡ 10 ∷ cell_text w 0 n
shown_next w c n other full = grind (arith, nat_tests)

pub column_line : (w c n : ℕ) → n ≡ 10 → column_after c (char_on_screen w c n) ≡ 0
column_line w c n is = ap (λ m. column_after c (char_on_screen w c m)) is

pub column_here : (w c n : ℕ) → n ≢ 10 → c + length (cell_text w c n) ≤ w
    → column_after c (char_on_screen w c n) ≡ c + length (cell_text w c n)
column_here w c n other fits = ap (column_after c) (shown_here w c n other fits)
    ∙ column_inked c (cell_text w c n) (cell_inked w c n other)

pub column_next : (w c n : ℕ) → n ≢ 10 → w < c + length (cell_text w c n)
    → column_after c (char_on_screen w c n) ≡ 0 + length (cell_text w 0 n)
column_next w c n other full = ap (column_after c) (shown_next w c n other full)
    ∙ column_inked 0 (cell_text w 0 n) (cell_inked w 0 n other)

-- the output for a character stays within the width
record IsGood (w c : ℕ) (cs : List ℕ) : Type 0 where
  within : Within w c cs
  column : column_after c cs ≤ w
  quiet : All IsShown cs

inked_shown : (cs : List ℕ) → All Inked cs → All IsShown cs
inked_shown cs all k d inside = inr (all k d inside)

good_inked : (w c : ℕ) (cs : List ℕ) → All Inked cs → c + length cs ≤ w → IsGood w c cs
good_inked w c cs all fits = record {
  within = within_inked w c cs all fits;
  column = omega (arith, column_inked c cs all, fits);
  quiet = inked_shown cs all;
}

good_shown_by : (w c n : ℕ) → 2 ≤ w → c ≤ w → (n ≡ 10) ⊎ (n ≢ 10)
    → (w < c + length (cell_text w c n)) ⊎ (c + length (cell_text w c n) ≤ w)
    → IsGood w c (char_on_screen w c n)
good_shown_by w c n wide inside (inl is) fit =
    subst (λ m. IsGood w c (char_on_screen w c m)) (sym is) (record {
      within = inl (refl, tt);
      column = omega arith;
      quiet = All-cons IsShown 10 [] (inl refl) (All-nil IsShown);
    })
good_shown_by w c n wide inside (inr other) (inl full) =
    subst (IsGood w c) (sym (shown_next w c n other full)) (
    let rest : IsGood w 0 (cell_text w 0 n) =
    good_inked w 0 (cell_text w 0 n) (cell_inked w 0 n other)
    (omega (arith, cell_fits_by w n wide (cases_eq n 9))) in record {
      within = inl (refl, rest.within);
      column = rest.column;
      quiet = All-cons IsShown 10 (cell_text w 0 n) (inl refl) rest.quiet;
    })
good_shown_by w c n wide inside (inr other) (inr fits) =
    subst (IsGood w c) (sym (shown_here w c n other fits))
    (good_inked w c (cell_text w c n) (cell_inked w c n other) fits)

good_shown : (w c n : ℕ) → 2 ≤ w → c ≤ w → IsGood w c (char_on_screen w c n)
good_shown w c n wide inside = good_shown_by w c n wide inside (cases_eq n 10)
    (cases_lt w (c + length (cell_text w c n)))

pub column_within : (w c n : ℕ) → 2 ≤ w → c ≤ w → column_after c (char_on_screen w c n) ≤ w
column_within w c n wide inside = (good_shown w c n wide inside).column

-- ---- the output for a text

shown_within : (w c : ℕ) (text : List ℕ) → 2 ≤ w → c ≤ w → Within w c (screen_text w c text)
shown_within w c [] wide inside = tt
shown_within w c (n ∷ text) wide inside = let good = good_shown w c n wide inside in
    within_append w c (char_on_screen w c n)
    (screen_text w (column_after c (char_on_screen w c n)) text) good.within
    (shown_within w (column_after c (char_on_screen w c n)) text wide good.column)

pub shown_quiet : (w c : ℕ) (text : List ℕ) → 2 ≤ w → c ≤ w → All IsShown (screen_text w c text)
shown_quiet w c [] wide inside = All-nil IsShown
shown_quiet w c (n ∷ text) wide inside = let good = good_shown w c n wide inside in
    All-append IsShown (char_on_screen w c n)
    (screen_text w (column_after c (char_on_screen w c n)) text) good.quiet
    (shown_quiet w (column_after c (char_on_screen w c n)) text wide good.column)

-- after a prefix the remainder begins at some column
skip : (w c : ℕ) (front rest : List ℕ) → c ≤ w → Within w c (front ++ rest)
    → (k : ℕ) × (k ≤ w) × Within w k rest
skip w c [] rest inside all = (c, inside, all)
skip w c (x ∷ front) rest inside (inl (is, all)) = skip w 0 front rest (omega arith) all
skip w c (x ∷ front) rest inside (inr (other, fits, all)) = skip w (c + 1) front rest fits all

part_short : (w c : ℕ) (part behind : List ℕ) → c ≤ w → Within w c (part ++ behind)
    → All (λ code. code ≢ 10) part → c + length part ≤ w
part_short w c [] behind inside all free = omega (arith, inside)
part_short w c (x ∷ part) behind inside (inl (is, all)) free =
    absurd (All-head (λ code. code ≢ 10) x part free is)
part_short w c (x ∷ part) behind inside (inr (other, fits, all)) free =
    let rest : c + 1 + length part ≤ w =
    part_short w (c + 1) part behind fits all (All-tail (λ code. code ≢ 10) x part free) in
    let size : length (x ∷ part) ≡ length part + 1 = omega arith in omega (arith, rest, size)

pub shown_narrow : (w : ℕ) (text : List ℕ) → 2 ≤ w → IsNoWider w (screen_text w 0 text)
shown_narrow w text wide before part behind joined free =
    let all : Within w 0 (before ++ (part ++ behind)) =
    subst (Within w 0) (sym joined) (shown_within w 0 text wide (omega arith)) in
    let at = skip w 0 before (part ++ behind) (omega arith) all in
    omega (arith, part_short w at.0 part behind at.1 at.2 free)

-- ---- a text that needs no change

narrow_within : (w c : ℕ) (line text : List ℕ) → length line ≡ c → All (λ code. code ≢ 10) line
    → IsNoWider w (line ++ text) → Within w c text
narrow_within w c line [] size free narrow = tt
narrow_within w c line (x ∷ text) size free narrow = ⊎_elim
    (λ is. inl (
      is,
      narrow_within w 0 [] text refl (All-nil (λ code. code ≢ 10))
          (λ before part behind joined. narrow (line ++ x ∷ before) part behind
          (append_assoc line (x ∷ before) (part ++ behind) ∙ ap (λ t. line ++ x ∷ t) joined)),
    ))
    (λ other.
    let longer : All (λ code. code ≢ 10) (line ++ x ∷ []) =
    All-append (λ code. code ≢ 10) line (x ∷ []) free
    (All-cons (λ code. code ≢ 10) x [] other (All-nil (λ code. code ≢ 10))) in
    let joined : (line ++ x ∷ []) ++ text ≡ line ++ x ∷ text = append_assoc line (x ∷ []) text in
    let length_is : length (line ++ x ∷ []) ≡ c + 1 =
    omega (arith, length-append line (x ∷ []), size) in
    let fits : length (line ++ x ∷ []) ≤ w = narrow [] (line ++ x ∷ []) text joined longer in
    inr (
      other,
      omega (arith, length_is, fits),
      narrow_within w (c + 1) (line ++ x ∷ []) text
          length_is longer (subst (IsNoWider w) (sym joined) narrow),
    ))
    (cases_eq x 10)

plain_cell_by : (w c n : ℕ) → 32 ≤ n → (n ≢ 127) → cell_text w c n ≡ n ∷ []
plain_cell_by w c n low high = grind (arith, nat_tests)

plain_next : (w c x : ℕ) (text : List ℕ) → x ≢ 10 → c + 1 ≤ w → IsShown x
    → screen_text w (c + 1) text ≡ text → screen_text w c (x ∷ text) ≡ x ∷ text
plain_next w c x text other fits (inl is) rest = absurd (other is)
plain_next w c x text other fits (inr (low, high)) rest =
    let one : cell_text w c x ≡ x ∷ [] = plain_cell_by w c x low high in
    let size : length (cell_text w c x) ≡ 1 = ap length one in
    let here : char_on_screen w c x ≡ x ∷ [] =
    shown_here w c x other (omega (arith, size, fits)) ∙ one in
    let column : column_after c (char_on_screen w c x) ≡ c + 1 =
    ap (column_after c) here ∙ column_other c x [] other in
    ap (λ cs. cs ++ screen_text w (column_after c (char_on_screen w c x)) text) here
    ∙ ap (λ k. x ∷ screen_text w k text) column ∙ ap (λ t. x ∷ t) rest

plain_within : (w c : ℕ) (text : List ℕ) → All IsShown text → Within w c text
    → screen_text w c text ≡ text
plain_within w c [] plain within = refl
plain_within w c (x ∷ text) plain (inl (is, within)) =
    let P : ℕ → Type 0 = λ m. char_on_screen w c m ++ screen_text w
    (column_after c (char_on_screen w c m)) text ≡ m ∷ text in
    subst P (sym is)
    (ap (λ t. 10 ∷ t) (plain_within w 0 text (All-tail IsShown x text plain) within))
plain_within w c (x ∷ text) plain (inr (other, fits, within)) =
    plain_next w c x text other fits (All-head IsShown x text plain)
    (plain_within w (c + 1) text (All-tail IsShown x text plain) within)

pub plain_shown : (w : ℕ) (text : List ℕ) → All IsShown text → IsNoWider w text
    → screen_text w 0 text ≡ text
plain_shown w text plain narrow =
    plain_within w 0 text plain
    (narrow_within w 0 [] text refl (All-nil (λ code. code ≢ 10)) narrow)

-- ---- a walk over a text

pub column_append : (c : ℕ) (a b : List ℕ)
    → column_after c (a ++ b) ≡ column_after (column_after c a) b
column_append c [] b = refl
column_append c (x ∷ a) b = ⊎_elim
    (λ is. let P : ℕ → Type 0 = λ y. column_after c (y ∷ (a ++ b)) ≡ column_after
    (column_after c (y ∷ a)) b in subst P (sym is) (column_append 0 a b))
    (λ other. column_other c x (a ++ b) other ∙ column_append (c + 1) a b
    ∙ ap (λ k. column_after k b) (sym (column_other c x a other)))
    (cases_eq x 10)

-- what went out, the column and what is to come, on the way to the output for a text
pub record IsOnTheWay (w : ℕ) (text out : List ℕ) (c : ℕ) (rest : List ℕ) : Type 0 where
  pub column : c ≡ column_after 0 out
  pub inside : c ≤ w
  pub whole : out ++ screen_text w c rest ≡ screen_text w 0 text

pub begins : (w : ℕ) (text : List ℕ) → IsOnTheWay w text [] 0 text
begins w text = record { column = refl; inside = omega arith; whole = refl }

pub goes_on : (w : ℕ) (text out : List ℕ) (c n next : ℕ) (rest : List ℕ) → 2 ≤ w
    → IsOnTheWay w text out c (n ∷ rest) → next ≡ column_after c (char_on_screen w c n)
    → IsOnTheWay w text (out ++ char_on_screen w c n) next rest
goes_on w text out c n next rest wide way is =
    subst (λ k. IsOnTheWay w text (out ++ char_on_screen w c n) k rest) (sym is) (record {
      column = ap (λ k. column_after k (char_on_screen w c n)) way.column
          ∙ sym (column_append 0 out (char_on_screen w c n));
      inside = column_within w c n wide way.inside;
      whole = append_assoc out (char_on_screen w c n)
          (screen_text w (column_after c (char_on_screen w c n)) rest) ∙ way.whole;
    })

pub arrives : (w : ℕ) (text out : List ℕ) (c : ℕ) → IsOnTheWay w text out c []
    → out ≡ screen_text w 0 text
arrives w text out c way = sym (append-nil out) ∙ way.whole
