-- How the pieces of a text at a class, and its words, break at either end.
use Rattle.std.proofs.Common.{◌≡◌, ◌≢◌, ℕ, ◌+◌, ◌-◌, ◌<◌, ◌≤◌, zero, suc, Bool, true, false, List}
use Rattle.std.proofs.Common.{[], ◌∷◌, ◌++◌, length, take, drop, get_or, refl, sym, ap, subst, ◌∙◌}
use Rattle.std.proofs.Common.{arith, append-nil, append_assoc}
use Rattle.std.specs.Bool.{Decides}
use Rattle.std.specs.List.{All, filter, slice_get, slice_split}
use Rattle.std.specs.Option.{IfSome}
use Rattle.std.proofs.lemmas.Bool.{cases_Bool, cases_lt, cond_both}
use Rattle.std.proofs.lemmas.Bool.Decides.{not_from_Decides}
use Rattle.std.proofs.lemmas.Grind.{common_steps}
use Rattle.std.proofs.lemmas.List.{drop-drop, drop-take, take-append-drop, take_all, drop_all}
use Rattle.std.proofs.lemmas.List.{get_or-take, get_or-drop, length-take-le}
use Rattle.std.proofs.Math.Seq.{drop-cons, take-suc}
use Rattle.std.proofs.lemmas.List.Elements.{All-from_get_or, All-cons, All-head, All-nil, All-tail}
use Rattle.std.proofs.lemmas.List.Elements.{All-weaker, filter-append}
use Rattle.std.proofs.lemmas.List.Splits.{length-slice_split, slice_split_none}
use Rattle.std.proofs.lemmas.List.Sums.{count_by-le-length, length-filter}
use Rattle.ascii.specs.ByClass.{IsOutside, has_some, piece_spans_by, word_spans_by, words_by}
use Rattle.ascii_base.specs.Runs.{EndsRun, StartsRun}
use Rattle.ascii.specs.Spans.{items_of, piece_size, with_starts}
use Rattle.ascii.specs.Words.{IsFirstWord, IsWord, Words}
use Rattle.ascii.proofs.PiecesLemmas.{slice_split-joint, slice_split-some}
use Rattle.ascii.proofs.SpansLemmas.{length-with_starts, room, with_starts-append}

All-one : (test : ℕ → Bool) (c : ℕ) → test c ≡ true → All (λ d. test d ≡ true) (c ∷ [])
All-one test c is = All-cons (λ d. test d ≡ true) c [] is (All-nil (λ d. test d ≡ true))

module _ (test : ℕ → Bool) where
  -- pieces take the room of the text and one separator
  room-split : (t : List ℕ) → room piece_size (slice_split test t) ≡ length t + 1
  room-split [] = refl
  room-split (c ∷ t) = grind (arith, cond_both, room, slice_split-some, room-split t)

  -- the pieces around a separator
  pub pieces_joint : (start : ℕ) (a : List ℕ) (c : ℕ) (b : List ℕ) → test c ≡ true
      → piece_spans_by test (record { start = start; item = a ++ c ∷ b })
      ≡ piece_spans_by test (record { start = start; item = a })
      ++ piece_spans_by test (record { start = start + (length a + 1); item = b })
  pieces_joint start a c b cuts = grind (arith, slice_split-joint, with_starts-append, room-split)

  -- a text with no separator is its one piece
  pub pieces_none : (start : ℕ) (t : List ℕ) → All (λ c. test c ≡ false) t
      → piece_spans_by test (record { start = start; item = t })
      ≡ record { start = start; item = t } ∷ []
  pieces_none start t free = ap (with_starts piece_size start) (slice_split_none test t free)

  -- ---- words

  module _ (start : ℕ) where
    -- the words around a separator
    pub words_joint : (a : List ℕ) (c : ℕ) (b : List ℕ) → test c ≡ true
        → word_spans_by test (record { start = start; item = a ++ c ∷ b })
        ≡ word_spans_by test (record { start = start; item = a })
        ++ word_spans_by test (record { start = start + (length a + 1); item = b })
    words_joint a c b cuts = grind (arith, pieces_joint, filter-append)

    -- a text with no separator that is not empty is its one word
    pub words_one : (t : List ℕ) → t ≢ [] → All (λ c. test c ≡ false) t
        → word_spans_by test (record { start = start; item = t })
        ≡ record { start = start; item = t } ∷ []
    words_one t some free = grind (arith, pieces_none)

  -- separators at the front hold no word
  pub words_after_gap : (start : ℕ) (gap t : List ℕ) → All (λ c. test c ≡ true) gap
      → word_spans_by test (record { start = start; item = gap ++ t })
      ≡ word_spans_by test (record { start = start + length gap; item = t })
  words_after_gap start [] t all = grind arith
  words_after_gap start (c ∷ gap) t all =
      words_joint start [] c (gap ++ t) (All-head (λ d. test d ≡ true) c gap all)
      ∙ (words_after_gap (start + 1) gap t (All-tail (λ d. test d ≡ true) c gap all)
      ∙ ap (λ n. word_spans_by test (record { start = n; item = t })) (omega arith))

  pub words_of_gap : (start : ℕ) (gap : List ℕ) → All (λ c. test c ≡ true) gap
      → word_spans_by test (record { start = start; item = gap }) ≡ []
  words_of_gap start gap all = grind (arith, append-nil gap, words_after_gap start gap [] all)

  -- separators at the end hold no word
  pub words_before_gap : (start : ℕ) (t gap : List ℕ) → All (λ c. test c ≡ true) gap
      → word_spans_by test (record { start = start; item = t ++ gap })
      ≡ word_spans_by test (record { start = start; item = t })
  words_before_gap start t [] all = grind (arith, append-nil)
  words_before_gap start t (c ∷ gap) all =
      words_joint start t c gap (All-head (λ d. test d ≡ true) c gap all)
      ∙ (ap (λ xs. word_spans_by test (record { start = start; item = t }) ++ xs)
      (words_of_gap (start + (length t + 1)) gap (All-tail (λ d. test d ≡ true) c gap all))
      ∙ append-nil _)

  -- a text begins with a separator, if it is not empty
  abbrev pub Begins : List ℕ → Type 0
  Begins [] = Unit {0}
  Begins (c ∷ t) = test c ≡ true

  -- the first word, and the words after it
  pub words_first : (start : ℕ) (word rest : List ℕ) → word ≢ [] → All (λ c. test c ≡ false) word
      → Begins rest → word_spans_by test (record { start = start; item = word ++ rest })
      ≡ record { start = start; item = word }
      ∷ word_spans_by test (record { start = start + length word; item = rest })
  words_first start word rest some free begins = grind (arith, append-nil, words_one, words_joint)

  -- the words before the last word, and the last word
  pub words_last : (start : ℕ) (front word : List ℕ) (c : ℕ) → word ≢ []
      → All (λ d. test d ≡ false) word → test c ≡ true
      → word_spans_by test (record { start = start; item = (front ++ c ∷ []) ++ word })
      ≡ word_spans_by test (record { start = start; item = front ++ c ∷ [] })
      ++ record { start = start + (length front + 1); item = word } ∷ []
  words_last start front word c some free cuts =
      grind (arith, append_assoc, words_joint, words_one, words_before_gap, All-one)

  -- ---- how many there are, and the words without their starts

  pub piece_spans_fit_by : (start : ℕ) (t : List ℕ)
      → length (piece_spans_by test (record { start = start; item = t })) ≤ length t + 1
  piece_spans_fit_by start t =
      grind (arith, length-with_starts, length-slice_split, count_by-le-length)

  pub word_spans_fit_by : (start : ℕ) (t : List ℕ)
      → length (word_spans_by test (record { start = start; item = t })) ≤ length t + 1
  word_spans_fit_by start t = grind (arith, piece_spans_fit_by, length-filter, count_by-le-length)

  kept_items : (start : ℕ) (pieces : List (List ℕ))
      → items_of (filter (λ span. has_some span.item) (with_starts piece_size start pieces))
      ≡ filter has_some pieces
  kept_items start [] = refl
  kept_items start ([] ∷ pieces) = kept_items (start + 1) pieces
  kept_items start ((c ∷ piece) ∷ pieces) = ap (λ ps. (c ∷ piece) ∷ ps)
      (kept_items (start + piece_size (c ∷ piece)) pieces)

  pub words_of_spans : (start : ℕ) (t : List ℕ)
      → items_of (word_spans_by test (record { start = start; item = t })) ≡ words_by test t
  words_of_spans start t = kept_items start (slice_split test t)

-- ---- what a search for a run of the class found

module _ (Is : ℕ → Type 0) (test : ℕ → Bool) (decides : (n : ℕ) → Decides (test n) (Is n)) where
  is_yes : (n : ℕ) → Is n → test n ≡ true
  is_yes n is = (decides n).1 is

  is_no : (n : ℕ) → ¬ (Is n) → test n ≡ false
  is_no n other = grind (arith, cases_Bool)

  front_in : (t : List ℕ) (end : ℕ) → EndsRun Is true t 0 end → All (λ c. test c ≡ true) (take end t)
  front_in t end run = All-from_get_or (λ c. test c ≡ true) (take end t) 0 (λ k h.
      grind (arith, common_steps, get_or-take, is_yes))

  front_out : (t : List ℕ) (end : ℕ) → EndsRun Is false t 0 end
      → All (λ c. test c ≡ false) (take end t)
  front_out t end run = All-from_get_or (λ c. test c ≡ false) (take end t) 0 (λ k h.
      grind (arith, common_steps, get_or-take, is_no))

  back_in : (t : List ℕ) (start : ℕ) → StartsRun Is true t (length t) start
      → All (λ c. test c ≡ true) (drop start t)
  back_in t start run = All-from_get_or (λ c. test c ≡ true) (drop start t) 0 (λ k h.
      rw (get_or-drop start t k 0) (is_yes _ (grind (arith, common_steps))))

  back_out : (t : List ℕ) (start : ℕ) → StartsRun Is false t (length t) start
      → All (λ c. test c ≡ false) (drop start t)
  back_out t start run = All-from_get_or (λ c. test c ≡ false) (drop start t) 0 (λ k h.
      rw (get_or-drop start t k 0) (is_no _ (grind (arith, common_steps))))

  -- a text from a position on, and around it
  tail_at : (t : List ℕ) (k : ℕ) → k < length t → drop k t ≡ get_or t k 0 ∷ drop (k + 1) t
  tail_at t k inside = grind (arith, drop-cons t k 0 inside)

  around : (t : List ℕ) (k : ℕ) → k < length t → t ≡ take k t ++ get_or t k 0 ∷ drop (k + 1) t
  around t k inside =
      sym (take-append-drop k t) ∙ ap (λ xs. take k t ++ xs) (tail_at t k inside)

  outside : (t : List ℕ) → All (λ c. test c ≡ false) t → IsOutside Is t
  outside t free = grind (arith, All-weaker, not_from_Decides)

  -- ---- pieces cut off

  module _ (start : ℕ) (t : List ℕ) (k : ℕ) where
    -- the first piece, and what is left
    pub first_piece_by : k ≢ length t → EndsRun Is false t 0 k
        → piece_spans_by test (record { start = start; item = t })
        ≡ record { start = start; item = take k t }
        ∷ piece_spans_by test (record { start = start + (k + 1); item = drop (k + 1) t })
    first_piece_by more run =
        let inside : k < length t = let high = run.high in omega arith in
        let long : length (take k t) ≡ k = grind (arith, common_steps) in
        ap (λ xs. piece_spans_by test (record { start = start; item = xs })) (around t k inside)
        ∙ (grind (arith, pieces_joint, is_yes, pieces_none, front_out))

    -- the only piece
    pub only_piece_by : k ≡ length t → EndsRun Is false t 0 k
        → piece_spans_by test (record { start = start; item = t })
        ≡ record { start = start; item = t } ∷ []
    only_piece_by end run = pieces_none test start t
        (subst (λ xs. All (λ c. test c ≡ false) xs) (take_all k t (omega arith)) (front_out t k run))

    pub first_is_outside : EndsRun Is false t 0 k → IsOutside Is (take k t)
    first_is_outside run = outside (take k t) (front_out t k run)

    pub only_is_outside : k ≡ length t → EndsRun Is false t 0 k → IsOutside Is t
    only_is_outside end run = subst (IsOutside Is) (take_all k t (omega arith)) (first_is_outside run)

    -- the last piece, and what comes before it
    pub last_piece_by : k ≢ 0 → StartsRun Is false t (length t) k
        → piece_spans_by test (record { start = start; item = t })
        ≡ piece_spans_by test (record { start = start; item = take (k - 1) t })
        ++ record { start = start + k; item = drop k t } ∷ []
    last_piece_by more run =
        let long : length (take (k - 1) t) + 1 ≡ k = grind (arith, common_steps) in
        let front = take (k - 1) t in
        let whole : t ≡ front ++ get_or t (k - 1) 0 ∷ drop k t = grind (arith, around) in
        grind (arith, pieces_joint, is_yes, pieces_none, back_out)

    pub only_piece_back : k ≡ 0 → StartsRun Is false t (length t) k
        → piece_spans_by test (record { start = start; item = t })
        ≡ record { start = start; item = t } ∷ []
    only_piece_back end run = pieces_none test start t
        (subst (λ n. All (λ c. test c ≡ false) (drop n t)) end (back_out t k run))

    pub last_is_outside : StartsRun Is false t (length t) k → IsOutside Is (drop k t)
    last_is_outside run = outside (drop k t) (back_out t k run)

    pub only_back_outside : k ≡ 0 → StartsRun Is false t (length t) k → IsOutside Is t
    only_back_outside end run = subst (λ n. IsOutside Is (drop n t)) end (last_is_outside run)
    -- ---- words cut off

  -- no word
  pub no_word : (start : ℕ) (t : List ℕ) → All Is t
      → word_spans_by test (record { start = start; item = t }) ≡ []
  no_word start t all = grind (arith, words_of_gap, All-weaker, is_yes)

  begins_at : (u : List ℕ) (m : ℕ) → (m < length u → Is (get_or u m 0)) → Begins test (drop m u)
  begins_at u m stop = grind (arith, cases_lt, tail_at, is_yes, drop_all)

  -- a run outside the class after a gap is a word
  is_word_of : (word : List ℕ) → word ≢ [] → All (λ c. test c ≡ false) word → IsWord Is word
  is_word_of word some free = record { some = some; free = outside word free }

  module _ (start : ℕ) (t : List ℕ) (k m : ℕ) (more : k ≢ length t) (gap : EndsRun Is true t 0 k)
      (run : EndsRun Is false (drop k t) 0 m) where
    some_first : take m (drop k t) ≢ []
    some_first none = grind (arith, length-take-le, common_steps, get_or-drop)

    -- the first word, and what is left
    pub first_word_by : word_spans_by test (record { start = start; item = t })
        ≡ record { start = start + k; item = take m (drop k t) }
        ∷ word_spans_by test (record { start = start + k + m; item = drop m (drop k t) })
    first_word_by =
        let u = drop k t in
        let high = gap.high in
        let long : length (take k t) ≡ k = length-take-le k t high in
        let end = run.high in
        let size : length (take m u) ≡ m = length-take-le m u end in
        ap (λ xs. word_spans_by test (record { start = start; item = xs })) (sym (take-append-drop k t))
        ∙ (words_after_gap test start (take k t) u (front_in t k gap)
        ∙ (grind (arith, take-append-drop m u, words_first, some_first, front_out, begins_at)))

    pub first_is_word : IsWord Is (take m (drop k t))
    first_is_word = is_word_of _ some_first (front_out (drop k t) m run)

  -- the same run, found in the whole text
  module _ (start : ℕ) (t : List ℕ) (k e : ℕ) (more : k ≢ length t) (gap : EndsRun Is true t 0 k)
      (run : EndsRun Is false t k e) where
    run_after : EndsRun Is false (drop k t) 0 (e - k)
    run_after = grind (arith, common_steps, get_or-drop)

    word_same : take (e - k) (drop k t) ≡ drop k (take e t)
    word_same = grind (arith, drop-take k (e - k) t)

    rest_same : drop (e - k) (drop k t) ≡ drop e t
    rest_same = grind (arith, drop-drop)

    pub first_word_within : word_spans_by test (record { start = start; item = t })
        ≡ record { start = start + k; item = drop k (take e t) }
        ∷ word_spans_by test (record { start = start + e; item = drop e t })
    first_word_within = let sum : start + k + (e - k) ≡ start + e = omega arith in
        grind (arith, first_word_by, run_after, word_same, rest_same)

    pub first_is_within : IsWord Is (drop k (take e t))
    first_is_within = subst (IsWord Is) word_same (first_is_word start t k (e - k) more gap run_after)

  module _ (start : ℕ) (t : List ℕ) (k m : ℕ) (more : k ≢ 0) (gap : StartsRun Is true t (length t) k)
      (run : StartsRun Is false (take k t) (length (take k t)) m) where
    size_back : length (take k t) ≡ k
    size_back = let high = gap.high in length-take-le k t high

    some_last : drop m (take k t) ≢ []
    some_last none = grind (arith, size_back, common_steps, get_or-take)

    -- the words before the last word, and the last word
    pub last_word_by : word_spans_by test (record { start = start; item = t })
        ≡ word_spans_by test (record { start = start; item = take m (take k t) })
        ++ record { start = start + m; item = drop m (take k t) } ∷ []
    last_word_by =
        ap (λ xs. word_spans_by test (record { start = start; item = xs })) (sym (take-append-drop k t))
        ∙ (grind (arith, words_before_gap, back_in, last_in, some_last))
      where
        last_in : (u : List ℕ) (m : ℕ) → drop m u ≢ [] → StartsRun Is false u (length u) m
            → word_spans_by test (record { start = start; item = u })
            ≡ word_spans_by test (record { start = start; item = take m u })
            ++ record { start = start + m; item = drop m u } ∷ []
        last_in u zero some run = words_one test start u some (back_out u zero run)
            ∙ ap (λ n. record { start = n; item = u } ∷ []) (omega arith)
        last_in u (suc n) some run =
            let inside : n < length u = omega arith in
            let size : length (take n u) + 1 ≡ suc n = grind (arith, common_steps) in
            let front : take (suc n) u ≡ take n u ++ get_or u n 0 ∷ [] = take-suc u n 0 inside in
            let word = drop (suc n) u in
            ap (λ xs. word_spans_by test (record { start = start; item = xs }))
            (sym (take-append-drop (suc n) u) ∙ ap (λ xs. xs ++ word) front)
            ∙ (words_last test start (take n u) word (get_or u n 0) some (back_out u (suc n) run)
            (is_yes (get_or u n 0) (grind arith)) ∙ (grind arith))

    pub last_is_word : IsWord Is (drop m (take k t))
    last_is_word = is_word_of _ some_last (back_out (take k t) m run)

  -- ---- the words as a relation: the list that is in it is that of the pieces that are not empty

  begins_with : (rest : List ℕ) → IfSome (slice_get rest 0) Is → Begins test rest
  begins_with rest bounded = grind (arith, is_yes)

  all_yes : (t : List ℕ) → All Is t → All (λ c. test c ≡ true) t
  all_yes t all = All-weaker Is (λ c. test c ≡ true) is_yes t all

  words_are : (start : ℕ) (text : List ℕ) (words : List (List ℕ)) → Words Is text words
      → items_of (word_spans_by test (record { start = start; item = text })) ≡ words
  words_are start text [] held = ap items_of (words_of_gap test start text (all_yes text held))
  words_are start text (word ∷ words) held =
      let first = held.1 in
      let free = All-weaker (λ c. ¬ (Is c)) (λ c. test c ≡ false) is_no word first.is_word.free in
      ap (λ t. items_of (word_spans_by test (record { start = start; item = t }))) (sym first.joined)
      ∙ (ap items_of (words_after_gap test start first.gap (word ++ held.0)
      (all_yes first.gap first.within)
      ∙ words_first test (start + length first.gap) word held.0 first.is_word.some free
      (begins_with held.0 first.bounded))
      ∙ ap (λ ws. word ∷ ws)
      (words_are (start + length first.gap + length word) held.0 words held.2))

  pub Words-words_by : (text : List ℕ) (words : List (List ℕ)) → Words Is text words
      → words_by test text ≡ words
  Words-words_by text words held = sym (words_of_spans test 0 text) ∙ words_are 0 text words held

  -- the first piece is outside the class, and the words of what follows it are the other pieces
  -- that are not empty
  record FirstPiece (text piece : List ℕ) (pieces : List (List ℕ)) : Type 0 where
    rest : List ℕ
    joined : piece ++ rest ≡ text
    free : All (λ c. ¬ (Is c)) piece
    bounded : IfSome (slice_get rest 0) Is
    held : Words Is rest (filter has_some pieces)

  abbrev HasFirstPiece : List ℕ → List (List ℕ) → Type 0
  HasFirstPiece text [] = text ≢ text
  HasFirstPiece text (piece ∷ pieces) = FirstPiece text piece pieces

  words_of_pieces : (text : List ℕ) (pieces : List (List ℕ)) → HasFirstPiece text pieces
      → Words Is text (filter has_some pieces)
  words_of_pieces text pieces none = grind (arith, All-nil)

  words_after_one : (c : ℕ) (text : List ℕ) (words : List (List ℕ)) → Is c → Words Is text words
      → Words Is (c ∷ text) words
  words_after_one c text [] is held = All-cons Is c text is held
  words_after_one c text (word ∷ words) is held =
      let found : IsFirstWord Is (c ∷ text) word held.0 = record {
        gap = c ∷ held.1.gap;
        joined = ap (λ t. c ∷ t) held.1.joined;
        within = All-cons Is c held.1.gap is held.1.within;
        is_word = held.1.is_word;
        bounded = held.1.bounded;
      } in (held.0, found, held.2)

  has_first_piece : (text : List ℕ) → HasFirstPiece text (slice_split test text)
  has_first_piece [] = grind (arith, All-nil)
  has_first_piece (c ∷ text) =
      let first = has_first_piece text in
      cond_both (test c) _ _ (HasFirstPiece (c ∷ text))
      (grind (arith, All-nil, words_after_one, words_of_pieces))
      (grind (arith, not_from_Decides, All-cons))

  -- the pieces that are not empty are the words of the text
  pub words_by_are_words : (text : List ℕ) → Words Is text (words_by test text)
  words_by_are_words text = words_of_pieces text (slice_split test text) (has_first_piece text)
