-- What rests in a lent source where a function answers with a view of it or with an error, and how
-- a walk by hand gives the source up. Assumes `Logic`.
use mathlib.Core.Path.{◌≡◌, refl, subst}
use mathlib.Core.List.{List, [], ◌∷◌}
use Prim.Native.Nat.{ℕ, ◌<◌, ◌^◌}
use seplogic.Ra.Ura.{Ura}
use mir.Syntax.{w64}
use mir.Val.{Val, vint, vstruct, vcons, vnil}
use base.Logic.{ent, emp, wand}
use base.Fml.{GName, fex, feq, fsep, fres, fauth, fobs}
use types.Logic.{Logic, sem}
use mathlib.Core.Option.{some, none}
use Rattle.std.specs.Prelude.{⊤}
use types.Kit.{use0, ‵, ◌$◌, ◌∵◌, !, qed, each, assume, keep, drop, rewrite, fpick, fsplit, fsplit3}
use types.Kit.{fjoin, fpack, feq_i, updating, now, done}
use types.Tokens.{name_done}
use denote.RattleType.{RattleType}
use denote.Ref.{MutBor, NamedLft}
use denote.Builtin.{u8}
use denote.Array.{Array}
use denote.Follow.{follows, follows_by, such_by}
use denote.FollowSlice.{heres_id}
use denote.Laws.{shows}
use denote.Shadow.{makes_shadow}
use denote.Steps.{peeks}
use Rattle.ascii.specs.WritingView.{FinalSource, borrow_of, whole_source_of}
use Rattle.ascii.specs.declared.ascii_str.AsAsciiStrError.{AsAsciiStrError}
use Rattle.std.specs.declared.result.Result.TheVariants.{Ok, Err}
use Rattle.ascii.specs.declared.ascii_str_mut.AsciiStrMut.{AsciiStrMut}
use Rattle.ascii.specs.contracts.ascii_str.AsAsciiStrError as E
use Rattle.ascii.specs.contracts.ascii_str_mut.AsciiStrMut as V
use Rattle.ascii.specs.declared.bytes_mut.SearchOutcome.{SearchOutcome}
use Rattle.ascii.specs.contracts.bytes_mut.SearchOutcome as S
use Rattle.ascii.proofs.ascii_str_mut.AsciiStrMut.TheLaws as view_laws

abbrev pub Bytes : RattleType
Bytes = Array u8 0

module _ {M : Type 1} {𝓤 : Ura M} (𝓛 : Logic 𝓤) where
  open 𝓛 use {H, A}

  -- a borrow follows itself
  follows_same : (γ : GName) → ent 𝓤 (emp 𝓤) (sem 𝓛 (follows Bytes Bytes γ γ (λ w. w)))
  follows_same γ =
      let code = Bytes.coded.code in
      let From = λ (z w : List ℕ). fsep (feq (List ℕ) z w) (fauth γ (code w)) in
      let said = qed 𝓛 [] ∵ each ! (λ (w : List ℕ). wand 𝓤 (A.res γ (code w)) (A.res γ (code w)))
      (λ w. assume ! (‵ (fres γ (code w))) $ done !) in
      let back =
      qed 𝓛 [] ∵ each !
      (λ (z : List ℕ). wand 𝓤 (A.auth γ (code z)) (sem 𝓛 (fex (List ℕ) (From z))))
      (λ z. assume ! (‵ (fauth γ (code z))) $
      feq_i ! (List ℕ) z z refl $ fjoin ! $ fpack ! (List ℕ) (From z) z $ done !) in
      record { apply = λ a p. (said.apply a p, back.apply a p) }

  -- at `Ok` with the lent borrow itself, the source rests at the last value of the view
  pub rests_ok : (s : MutBor (List ℕ)) (v : AsciiStrMut) → borrow_of v ≡ s.ghost_name
      → ent 𝓤 (emp 𝓤) (sem 𝓛 (FinalSource s (Ok v)))
  unfolding such_by follows_by
  rests_ok s v lender =
      let code = Bytes.coded.code in
      let From = λ (x : (x : (List ℕ → List ℕ) × List ℕ) × ((w : List ℕ) → x.0 w ≡ w) × ⊤).
      follows_by (List ℕ) (List ℕ) code code s.ghost_name (some (borrow_of v)) x.0.0 x.0.1 in
      qed 𝓛 [] ∵ use0 𝓛 (‵ (follows Bytes Bytes s.ghost_name (borrow_of v) (λ w. w)))
      (subst (λ γ. ent 𝓤 (emp 𝓤) (sem 𝓛 (follows Bytes Bytes γ (borrow_of v) (λ w. w)))) lender
      (follows_same (borrow_of v))) $
      fpack ! _ From (((λ w. w), s.now), (λ w. refl), tt) $ done !

  -- at `Err` the source rests at the value that it is known to have
  pub rests_err : (s : MutBor (List ℕ)) (v : AsciiStrMut) (e : AsAsciiStrError)
      → borrow_of v ≡ s.ghost_name → whole_source_of v ≡ s.now
      → ent 𝓤 (A.res (borrow_of v) (Bytes.coded.code (whole_source_of v)))
      (sem 𝓛 (FinalSource s (Err e)))
  unfolding such_by follows_by
  rests_err s v e lender same =
      let code = Bytes.coded.code in
      let From = λ (r : (x : (List ℕ → List ℕ) × List ℕ) × (List ℕ → ⊤) × (x.1 ≡ s.now)).
      follows_by (List ℕ) (List ℕ) code code s.ghost_name none r.0.0 r.0.1 in
      qed 𝓛 (‵ (fres (borrow_of v) (code (whole_source_of v))) ∷ []) ∵
      rewrite ! 0 (λ (γ : GName). ‵ (fres γ (code (whole_source_of v)))) lender refl $
      fpack ! _ From (((λ w. w), whole_source_of v), (λ w. tt), same) $ done !

  -- a view that is dropped leaves its source at the value that it has then
  pub given_up : (a : NamedLft) (v : AsciiStrMut) (vs : List Val)
      → ent 𝓤 (sem 𝓛 ((V.the_row a).own_val v vs))
      (H.⇛ (A.res v.bytes.ghost_name (Bytes.coded.code v.bytes.now)))
  given_up a v vs = qed 𝓛 (‵ ((V.the_row a).own_val v vs) ∷ []) ∵ updating ! $ fpick !
      (λ us. fsplit ! $ drop ! $ fsplit ! $ keep ! (0 ∷ []) $
      fsplit3 ! $ keep ! (1 ∷ []) $
      rewrite ! 0 (λ (l : List ℕ). ‵ (fobs v.bytes.ghost_name (Bytes.coded.code l)))
      (heres_id u8 v.bytes.now) refl $ name_done ! tt $ now ! $ done !)

  -- what a search has is the view that it found, written as its fields say
  pub found_view : (a : NamedLft) (r : SearchOutcome) (vs : List Val)
      → ent 𝓤 (sem 𝓛 ((S.the_row a).own_val r vs))
      (sem 𝓛 ((V.the_row a).own_val r.view (view_laws.lowered r.view ∷ [])))
  found_view a r vs = qed 𝓛 (‵ ((S.the_row a).own_val r vs) ∷ []) ∵ fpick !
      (λ us. fsplit ! $ drop ! $ fsplit ! $ keep ! (0 ∷ []) $
      peeks ! (V.the_row a) _ (shows 𝓛 (V.the_row a)) r.view us.0 (λ is.
      rewrite ! 0 (λ (ws : List Val). ‵ ((V.the_row a).own_val r.view ws))
      ((view_laws.lowers a).val_is r.view us.0 is) refl $ done !))

-- the error of a position, made of its number
pub error_made : {M : Type 1} {𝓤 : Ura M} (𝓛 : Logic 𝓤) (n : ℕ) → n < 2 ^ 64
    → ent 𝓤 (emp 𝓤)
    (sem 𝓛 (E.the_row.own_val (record { valid_up_to = n })
    (vstruct (vcons (vint w64 n) vnil) ∷ [])))
error_made 𝓛 n fits = makes_shadow 𝓛
    (E.the_row.own_val (record { valid_up_to = n }) (vstruct (vcons (vint w64 n) vnil) ∷ []))
    (λ _. (tt, ((tt, tt), tt)))
    ((vint w64 n ∷ [], tt), (refl, ((refl, fits), tt)))
