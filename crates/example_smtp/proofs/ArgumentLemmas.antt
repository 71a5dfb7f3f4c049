-- The size that an argument says.
use Rattle.std.proofs.Common.{◌≡◌, ◌≢◌, ◌∙◌, ℕ, ◌<◌, ◌≤◌, ◌^◌, ◌-◌, List, [], ◌∷◌, arith, refl, subst, sym}
use Rattle.std.proofs.Common.{MatchOption, None, Option, Some, inl, inr, length}
use Rattle.std.specs.List.{Contains}
use Rattle.std.specs.Prelude.{codes}
use Rattle.std.proofs.lemmas.List.Elements.{Contains-append_right}
use Rattle.ascii.specs.Search.{IgnoringCase, IsCut, IsPrefix, StartsWith}
use Rattle.ascii.specs.View.{text_of}
use Rattle.ascii.specs.declared.ascii_str.AsciiStr.{AsciiStr}
use Rattle.ascii_formats.proofs.NumbersLemmas.{no_fault_in}
use Rattle.ascii_formats.specs.Numbers.{IsFaultIn, unsigned_up_to}
use Rattle.ascii_formats.specs.declared.numbers.NumberError.{NumberError}
use Rattle.example_smtp.specs.Commands.{IsSenderPath, IsSized, IsTooLarge, SaysSender, most_bytes}
use Rattle.example_smtp.proofs.PathLemmas.{last_cut, one_rest}

-- `path` and `word` are what is before and after the last space
abbrev pub IsLastCut : List ℕ → List ℕ → List ℕ → Type 0
IsLastCut = IsCut (λ _ word. ¬ (Contains word 32)) (codes " ")

-- the last word and what is before it are one
one_word : (text path word other last : List ℕ) → IsLastCut text path word
    → IsLastCut text other last → (path ≡ other) × (word ≡ last)
one_word text path word other last first second =
    last_cut 32 path word other last (first.joined ∙ sym second.joined) first.sides second.sides

filled : (text : List ℕ) → text ≢ [] → 0 < length text
filled [] some = absurd (some refl)
filled (code ∷ text) some = omega arith

module _ (argument : List ℕ) where
  -- the digits of a size are what comes after `SIZE=` in the last word
  digits_are : (path word digits other : List ℕ) (size : ℕ) → IsLastCut argument path word
      → IgnoringCase (λ start. IsPrefix start word digits) (codes "SIZE=")
      → (sized : IsSized argument other size) → digits ≡ sized.digits
  digits_are path word digits other size cut named sized =
      let same = (one_word argument path word other sized.word cut sized.cut).1 in
      one_rest (codes "SIZE=") sized.word digits sized.digits
      (subst (λ w. IgnoringCase (λ start. IsPrefix start w digits) (codes "SIZE=")) same named)
      sized.named

  -- the size and what is before it are one
  pub one_size : (path other : List ℕ) (size n : ℕ) → IsSized argument path size
      → IsSized argument other n → (path ≡ other) × (size ≡ n)
  one_size path other size n first second =
      let digits = digits_are path first.word first.digits other n first.cut first.named second in (
        (one_word argument path first.word other second.word first.cut second.cut).0,
        grind (arith, digits),
      )

  -- an argument says no size without a space, a last word that begins with `SIZE=`, or a number
  pub no_space : (path : List ℕ) (size : ℕ) → ¬ (Contains argument 32)
      → ¬ (IsSized argument path size)
  no_space path size free sized = free (subst (λ xs. Contains xs 32) sized.cut.joined
      (Contains-append_right path (32 ∷ sized.word) 32 (0, omega arith, refl)))

  pub no_name : (path word other : List ℕ) (size : ℕ) → IsLastCut argument path word
      → ¬ (IgnoringCase (λ start. StartsWith start word) (codes "SIZE="))
      → ¬ (IsSized argument other size)
  no_name path word other size cut bad sized =
      let same = (one_word argument path word other sized.word cut sized.cut).1 in
      bad (subst (λ w. IgnoringCase (λ start. StartsWith start w) (codes "SIZE=")) (sym same)
      (record {
        other = sized.named.other;
        same = sized.named.same;
        is = (sized.digits, sized.named.is);
      }))

  pub no_size : (path word digits other : List ℕ) (size : ℕ) (error : NumberError)
      → IsLastCut argument path word
      → IgnoringCase (λ start. IsPrefix start word digits) (codes "SIZE=")
      → IsFaultIn (unsigned_up_to (2 ^ 64 - 1)) 10 digits error → ¬ (IsSized argument other size)
  no_size path word digits other size error cut named fault sized =
      let same = digits_are path word digits other size cut named sized in
      let written = sized.written in
      no_fault_in (unsigned_up_to (2 ^ 64 - 1)) 10 sized.digits error (omega arith)
      (filled sized.digits written.some, written.number.0) written.number.1
      (subst (λ text. IsFaultIn (unsigned_up_to (2 ^ 64 - 1)) 10 text error) same fault)

  -- the size that it says is the one that is too large
  pub large_size : (path : List ℕ) (size : ℕ) → IsSized argument path size → IsTooLarge argument
      → most_bytes < size
  large_size path size sized (other, n, also, large) =
      subst (λ m. most_bytes < m) (one_size other path n size also sized).1 large

  -- ---- whom a message comes from, if the argument is not a path

  module _ (none : (address : List ℕ) → ¬ (IsSenderPath address argument)) where
    pub no_sender : ((path : List ℕ) (size : ℕ) → ¬ (IsSized argument path size))
        → (address : List ℕ) → ¬ (SaysSender address argument)
    no_sender unsized address says = elim says [
      | inl is ↦ none address is
      | inr (path, size, sized, fits, is) ↦ unsized path size sized
    ]

    pub no_large_sender : (path : List ℕ) (size : ℕ) → IsSized argument path size
        → most_bytes < size → (address : List ℕ) → ¬ (SaysSender address argument)
    no_large_sender path size sized large address says = elim says [
      | inl is ↦ none address is
      | inr (other, n, also, fits, is) ↦
          absurd (omega (arith, (one_size path other size n sized also).1, fits, large))
    ]

    pub sender_before : (path : List ℕ) (size : ℕ) (result : Option AsciiStr)
        → IsSized argument path size → size ≤ most_bytes
        → MatchOption result ((address : List ℕ) → ¬ (IsSenderPath address path))
        (λ address. IsSenderPath (text_of address) path)
        → MatchOption result ((address : List ℕ) → ¬ (SaysSender address argument))
        (λ address. SaysSender (text_of address) argument)
    sender_before path size None sized fits bad = λ address says. elim says [
      | inl is ↦ none address is
      | inr (other, n, also, small, is) ↦
          bad address (subst (IsSenderPath address) (sym (one_size path other size n sized also).0) is)
    ]
    sender_before path size (Some address) sized fits is = inr (path, size, sized, fits, is)
