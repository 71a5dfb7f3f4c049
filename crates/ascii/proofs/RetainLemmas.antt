-- What a loop has done that keeps some characters of a text, and what a closure that tests the code
-- of each character keeps.
use Rattle.std.proofs.Common.{◌≡◌, ℕ, ◌+◌, ◌<◌, ◌≤◌, Bool, true, false, cond, List, [], ◌∷◌, ◌++◌}
use Rattle.std.proofs.Common.{length, map, take, drop, get_or, refl, sym, ap, subst, ◌∙◌, arith}
use Rattle.std.proofs.Common.{append-nil, add-zero}
use Rattle.std.specs.List.{items_where_true}
use Rattle.std.specs.List.Retain.{ReturnsInTurn}
use Rattle.std.proofs.lemmas.Grind.{common_steps}
use Rattle.std.proofs.lemmas.List.{drop-drop, drop-set-lt, get_or-drop, map-append}
use Rattle.std.proofs.lemmas.List.{set-get_or, take-set, take_more_set}
use Rattle.std.proofs.Math.ListN.{set}
use Rattle.ascii_base.specs.Code.{code_of}
use Rattle.ascii_base.specs.declared.ascii_char.AsciiChar.{AsciiChar}

module _ {F : Type 0} (R : F → AsciiChar → Bool → F → Type 0) where
  -- a loop has shown the first `at` codes of `old` to a closure that began as `from` and is now
  -- `state`; the first `kept` codes are those for which it returned `true`
  pub record KeepsUpTo (from : F) (old codes : List ℕ) (kept at : ℕ) (state : F) : Type 0 where
    pub all : List AsciiChar
    pub answers : List Bool
    pub many : length answers ≡ length all
    pub are : map code_of all ≡ take at old
    pub called : ReturnsInTurn R from answers all state
    pub front : take kept codes ≡ map code_of (items_where_true answers all)
    pub rest : drop at codes ≡ drop at old
    pub order : kept ≤ at

  returns_push : (p q r : F) (bs : List Bool) (xs : List AsciiChar) (b : Bool) (ch : AsciiChar)
      → length bs ≡ length xs → ReturnsInTurn R p bs xs q → R q ch b r
      → ReturnsInTurn R p (bs ++ b ∷ []) (xs ++ ch ∷ []) r
  returns_push p q r [] [] b ch many same call = (r, subst (λ s. R s ch b r) (sym same) call, refl)
  returns_push p q r [] (next ∷ xs) b ch many same call = absurd (omega (arith, many))
  returns_push p q r (c ∷ bs) [] b ch many called call = absurd called
  returns_push p q r (c ∷ bs) (next ∷ xs) b ch many called call =
      grind (arith, returns_push called.0 q r bs xs b ch (omega (arith, many)) called.2 call)

where_push : {A : Type 0} (bs : List Bool) (xs : List A) (b : Bool) (x : A)
    → length bs ≡ length xs
    → items_where_true (bs ++ b ∷ []) (xs ++ x ∷ []) ≡ items_where_true bs xs ++ cond b (x ∷ []) []
where_push [] [] true x many = refl
where_push [] [] false x many = refl
where_push [] (y ∷ xs) b x many = absurd (omega (arith, many))
where_push (c ∷ bs) [] b x many = absurd (omega (arith, many))
where_push (true ∷ bs) (y ∷ xs) b x many = grind (arith, where_push bs xs b x (omega (arith, many)))
where_push (false ∷ bs) (y ∷ xs) b x many = where_push bs xs b x (omega (arith, many))

-- a code written after the first `kept`, and counted if `b` is true
front_push : (codes : List ℕ) (kept : ℕ) (b : Bool) (code : ℕ) → kept < length codes
    → take (kept + cond b 1 0) (set codes kept code) ≡ take kept codes ++ cond b (code ∷ []) []
front_push codes kept b code inside = grind (arith, take_more_set, add-zero, take-set, append-nil)

counted : (b : Bool) (kept at : ℕ) → kept ≤ at → kept + cond b 1 0 ≤ at + 1
counted b kept at order = grind arith

module _ {F : Type 0} (R : F → AsciiChar → Bool → F → Type 0) where
  pub keeps_none : (from : F) (old : List ℕ) → KeepsUpTo R from old old 0 0 from
  keeps_none from old = record {
    all = [];
    answers = [];
    many = refl;
    are = refl;
    called = refl;
    front = refl;
    rest = refl;
    order = omega arith;
  }

  pub keeps_push : (from q r : F) (old codes : List ℕ) (kept at : ℕ) (b : Bool) (ch : AsciiChar)
      → at < length old → length codes ≡ length old → code_of ch ≡ get_or codes at 0
      → KeepsUpTo R from old codes kept at q → R q ch b r
      → KeepsUpTo R from old (set codes kept (code_of ch)) (kept + cond b 1 0) (at + 1) r
  keeps_push from q r old codes kept at b ch inside long is so_far call =
      let order = so_far.order in
      let code = code_of ch in
      let same : code ≡ get_or old at 0 = is ∙ (ap (λ n. get_or codes n 0) (sym (add-zero at))
      ∙ (grind (arith, get_or-drop, add-zero))) in
      record {
        all = so_far.all ++ ch ∷ [];
        answers = so_far.answers ++ b ∷ [];
        many = grind (arith, common_steps, so_far.many);
        are = map-append code_of so_far.all (ch ∷ [])
            ∙ (grind (arith, take_more_set old, set-get_or old));
        called = grind (arith, returns_push);
        front = grind (arith, front_push, map-append, where_push);
        rest = drop-set-lt (at + 1) codes kept code (omega (arith, order))
            ∙ (sym (drop-drop 1 at codes) ∙ (ap (λ t. drop 1 t) so_far.rest ∙ drop-drop 1 at old));
        order = counted b kept at order;
      }

  -- with the code and the count as a loop has them
  pub keeps_next : (from q r : F) (old codes : List ℕ) (kept at : ℕ) (b : Bool) (ch : AsciiChar)
      (code step : ℕ) → at < length old → length codes ≡ length old
      → code_of ch ≡ get_or codes at 0 → code ≡ code_of ch → cond b 1 0 ≡ step
      → KeepsUpTo R from old codes kept at q → R q ch b r
      → KeepsUpTo R from old (set codes kept code) (kept + step) (at + 1) r
  keeps_next from q r old codes kept at b ch code step inside long is read count so_far call =
      grind (arith, keeps_push)
