-- A lent slice is lent again for a lifetime of its own, and comes back at its last list; and what a
-- walk by hand has of the view in an `Ok`. Assumes `Logic`.
use mathlib.Core.Path.{◌≡◌, refl, sym, ap, subst}
use mathlib.Core.List.{List, [], ◌∷◌}
use Prim.Native.Nat.{ℕ}
use lib.ListN.{length}
use seplogic.Ra.Ura.{Ura}
use mir.Syntax.{Lifetime}
use mir.Val.{Val}
use base.Logic.{ent, sep, ex, guard}
use base.Fml.{Lft, GName, Share, Fml, fsep, flft, fdead, fobs, fauth, flent, fobor}
use base.Fraction.{full_share}
use types.Logic.{Logic, sem}
use types.SemTy.{cells, Arr}
use types.Kit.{‵, ◌⊛◌, some, later, ◌$◌, ◌∵◌, !, qed, move, keep, drop, use1, use3, split, pick}
use types.Kit.{fsplit, fsplit3, fjoin, fpick, feq_l, show, check, rewrite, updating, await, now}
use types.Kit.{done}
use denote.Builtin.{u8}
use denote.Index.{row, opens_slice, closes_slice, whole_in, whole_out}
use denote.Laws.{shows}
use denote.Lend.{Held, lends_slice, slice_back}
use denote.Memory.{mem}
use denote.Ref.{MutBor, NamedLft}
use denote.Shadow.{pure_i}
use denote.Slice.{MutSlice, slice_val, mut_slice_vals, mut_slice_at, coded_holeys, heres, Room}
use denote.Slice.{finally}
use denote.Steps.{peeks}
use Rattle.std.specs.declared.result.Result.TheVariants.{Ok}
use Rattle.std.specs.contracts.result.Result as RS
use Rattle.ascii.specs.declared.ascii_str_mut.AsciiStrMut.{AsciiStrMut}
use Rattle.ascii.specs.contracts.ascii_str.AsAsciiStrError as E
use Rattle.ascii.specs.contracts.ascii_str_mut.AsciiStrMut as V
use Rattle.ascii.proofs.ascii_str_mut.AsciiStrMut.TheLaws as view_laws

-- what the holder keeps while the slice is lent again for κ' under δ
abbrev pub Keeps : Lft → Lft → Share → MutBor (List ℕ) → GName → Fml
Keeps κ κ' q s δ = let n = length s.now in let b = s.ref_ptr.0 in let o = s.ref_ptr.1 in
    let code = (coded_holeys u8).code (heres u8 s.now) in
    fsep (flent κ' (Held u8 n b o δ))
    (fsep (fobor κ q (Held u8 n b o s.ghost_name))
    (fsep (fobs s.ghost_name code) (fauth s.ghost_name code)))

module _ {M : Type 1} {𝓤 : Ura M} (𝓛 : Logic 𝓤) where
  open 𝓛 use {H, A}

  module _ (ℓ ℓ' : Lifetime) (κ κ' : Lft) (q : Share) (s : MutBor (List ℕ))
      (room : Room u8 (length s.now)) where
    abbrev pub Again : GName → Fml
    Again δ = (MutSlice ℓ' κ' u8).own_val
        (record { ref_ptr = s.ref_ptr; ghost_name = δ; now = s.now }) (mut_slice_vals s)

    pub lends_slice_again : ent 𝓤
        (sep 𝓤 (sem 𝓛 ((MutSlice ℓ κ u8).own_val s (mut_slice_vals s))) (A.lft κ q))
        (H.⇛ (ex 𝓤 (λ (δ : GName). sep 𝓤 (sem 𝓛 (Again δ)) (sem 𝓛 (Keeps κ κ' q s δ)))))
    lends_slice_again =
        let b = s.ref_ptr.0 in let o = s.ref_ptr.1 in
        qed 𝓛 (‵ ((MutSlice ℓ κ u8).own_val s (mut_slice_vals s)) ∷ ‵ (flft κ q) ∷ []) ∵ updating
        ! $ fsplit3 ! $ move ! (1 ∷ 2 ∷ 3 ∷ []) $
        opens_slice ! tt u8 s.now b o $ use1 𝓛 (‵ (cells (mem u8) s.now b o))
        (whole_in 𝓛 u8 s.now b o) $
        use1 𝓛 (later
        (some (λ (δ : GName). ‵ (Again δ) ⊛ ‵ (flent κ' (Held u8 (length s.now) b o δ)))))
        (lends_slice 𝓛 u8 ℓ' κ' s.now b o room) $
        await ! tt $ pick !
        (λ δ. split ! $ now ! $ show !
        (λ (δ' : GName). sep 𝓤 (sem 𝓛 (Again δ')) (sem 𝓛 (Keeps κ κ' q s δ'))) δ $
        -- [the loan; the lender's part; the open borrow; its two halves; what the reference says]
        move ! (3 ∷ 4 ∷ []) $ fjoin ! $ move ! (3 ∷ 0 ∷ []) $ fjoin ! $ move ! (2 ∷ 0 ∷ []) $
        fjoin ! $ keep ! (1 ∷ 0 ∷ []) $ done !)

    abbrev pub Back : List ℕ → Fml
    Back ws = (MutSlice ℓ κ u8).own_val
        (record { ref_ptr = s.ref_ptr; ghost_name = s.ghost_name; now = ws }) (mut_slice_vals s)

    pub slice_comes_back : (δ : GName) (ws : List ℕ)
        → ent 𝓤 (sep 𝓤 (A.dead κ') (sep 𝓤 (sem 𝓛 (Keeps κ κ' q s δ)) (sem 𝓛 (finally u8 δ ws))))
        (H.⇛ (guard 𝓤 (length ws ≡ length s.now) (sep 𝓤 (sem 𝓛 (Back ws)) (A.lft κ q))))
    slice_comes_back δ ws =
        let b = s.ref_ptr.0 in let o = s.ref_ptr.1 in
        qed 𝓛 (‵ (fdead κ') ∷ ‵ (Keeps κ κ' q s δ) ∷ ‵ (finally u8 δ ws) ∷ []) ∵ updating ! $
        move ! (1 ∷ []) $ fsplit ! $ move ! (2 ∷ 0 ∷ 3 ∷ []) $
        use3 𝓛 (later (‵ ((Arr (mem u8) (length s.now)).own_at ws b o)))
        (slice_back 𝓛 u8 κ' δ ws (length s.now) b o) $ await ! tt $
        fsplit ! $ feq_l !
        (λ e. use1 𝓛 (‵ (row u8 full_share ws b o)) (whole_out 𝓛 u8 ws b o) $ move ! (1 ∷ [])
        $ fsplit3 ! $ move ! (3 ∷ 0 ∷ 1 ∷ 2 ∷ []) $
        closes_slice ! tt u8 s.now ws e b o $ fjoin ! $ now ! $ check ! e $
        pure_i ! (mut_slice_at u8
        (record { ref_ptr = s.ref_ptr; ghost_name = s.ghost_name; now = ws })
        (mut_slice_vals s)) (tt, (tt, tt)) (
          ap (λ (n : ℕ). slice_val s.ref_ptr n ∷ []) (sym e),
          subst (λ (n : ℕ). Room u8 n) (sym e)
              room,
        ) $ fjoin ! $ done !)
