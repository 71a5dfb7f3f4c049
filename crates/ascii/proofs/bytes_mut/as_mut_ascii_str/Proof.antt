-- The walk: the whole range is passed on, and what comes back is what is answered. Assumes `Logic`.
use mathlib.Core.Path.{◌≡◌, refl}
use mathlib.Core.List.{List, [], ◌∷◌}
use Prim.Native.Nat.{ℕ}
use lib.Dec.{lit<}
use mir.Syntax.{named}
use base.Logic.{id⊢}
use base.Fml.{ftrue}
use contract.Monad.{fact}
use contract.Running.{tables}
use types.Kit.{‵, raw, later, some, ◌⊛◌, ◌$◌, ◌∵◌, !, qed, by, move, keep, drop, use1, use2, split}
use types.Kit.{join, fjoin, pick, await}
use types.Part.{whole, sub, agg}
use types.Run.{stop, fld, hop, from, addr, lit, and_then, no_more, returns, enter}
use types.ByLocal.{alloc_all, pass_all, free_all, look_at, look_in_at, get, get_in, sets, lands_as}
use denote.Builtin.{u8}
use denote.Enum.Laws as enum_laws
use denote.Exit.{no}
use denote.Laws.{shows}
use denote.Ref.{MutBor}
use denote.Signature.{plain, named_lft, mut_slice_of}
use denote.Slice.{MutSlice, mut_slice_vals, mut_slice_Tells}
use denote.Steps.{nothing, owned, peeks}
use denote.Triple.Call.{calls_at}
use denote.Triple.Clauses.{lasts}
use denote.Triple.Entry.{alive}
use denote.Triple.Spec.{triple_of}
use denote.Triple.Table.{framed}
use denote.Triple.Walked.{Stays, stay_dropped, Goes-spent_slice}
use Rattle.std.proofs.raw_atomic.Walks.{proved, leaves}
use Rattle.std.specs.Prelude.{IfOk}
use Rattle.std.specs.declared.result.Result.{Result}
use Rattle.std.specs.contracts.result.Result as RS
use Rattle.std.proofs.result.Result.TheLaws.{the_row_laws as result_laws}
use Rattle.ascii_base.specs.declared.range.AsciiRange.TheVariants.{Full}
use Rattle.ascii_base.specs.contracts.range.AsciiRange as range
use Rattle.ascii_base.proofs.range.AsciiRange.TheLaws as range_laws
use Rattle.ascii.specs.WritingView.{FinalSource, MutSliceOutcome, borrow_of}
use Rattle.ascii.specs.declared.ascii_str.AsAsciiStrError.{AsAsciiStrError}
use Rattle.ascii.specs.declared.ascii_str_mut.AsciiStrMut.{AsciiStrMut}
use Rattle.ascii.specs.contracts.ascii_str.AsAsciiStrError as E
use Rattle.ascii.specs.contracts.ascii_str_mut.AsciiStrMut as V
use Rattle.ascii.proofs.ascii_str.AsAsciiStrError.TheLaws as error_laws
use Rattle.ascii.proofs.ascii_str_mut.AsciiStrMut.TheLaws as view_laws
use Rattle.ascii.specs.contracts.bytes_mut.as_mut_ascii_str as f
use Rattle.ascii.proofs.bytes_mut.as_mut_ascii_str.Statement.{statement}
use Rattle.ascii.proofs.bytes_mut.as_mut_ascii_str.Code as code
use Rattle.ascii.specs.contracts.bytes_mut.slice_ascii_mut as g
use Rattle.ascii.proofs.bytes_mut.slice_ascii_mut.Met.{met}

abbrev stayed : Stays f.ended.signature.params f.ended.kept
stayed = (stay_dropped (mut_slice_of (0 ∷ []) tt (plain (λ _. u8))) no, tt)

pub as_mut_ascii_str_spec : {M : Type 1} → statement M
as_mut_ascii_str_spec 𝓤 𝓛 𝓜 𝓡 wired =
    let c = f.clauses 𝓛 𝓜.mem 𝓡.returns in let 𝓣 =
    tables 𝓤 𝓛.H 𝓜 𝓡 𝓡.env in
    proved 𝓛 f.ended stayed c 𝓜 𝓡 (Goes-spent_slice 𝓛 1 (0 ∷ []) tt (plain (λ _. u8)), tt)
    f.Key.name code.function (code.unfolded 𝓤 𝓛.H 𝓜 𝓡 wired)
    (λ κs. (mut_slice_vals, tt)) (λ κs. (mut_slice_Tells (named 0) κs.0 u8, tt))
    (λ κs qs bounds a _ are.
    let s : MutBor (List ℕ) = a.0 in
    let G = triple_of 𝓛 g.signature (g.spec 𝓛 𝓜.mem 𝓡.returns) in
    let z : G.Ghost = (
      (
        κs,
        qs,
        bounds,
        (s, (Full, tt)),
        (mut_slice_vals s, (range_laws.the_told.val Full ∷ [], tt)),
      ),
      tt,
    ) in
    qed 𝓛 ((raw (alive 𝓛 f.signature κs qs) ⊛ ‵
    ((MutSlice (named 0) κs.0 u8).own_val s (mut_slice_vals s)) ⊛ ‵ ftrue) ∷ ‵ ftrue ∷ []) ∵
    split ! $ move ! (1 ∷ []) $ split ! $
    -- [the source; nothing; the tokens; nothing]
    owned ! range.the_row _ (enum_laws.makes range.the_type range_laws.the_plain 𝓛) Full _
    (enum_laws.owes range.the_type range_laws.the_laws Full tt) $
    nothing ! $ move ! (1 ∷ 0 ∷ []) $ fjoin ! $ move ! (1 ∷ 0 ∷ []) $ fjoin ! $ move !
    (2 ∷ 0 ∷ []) $ join ! $
    use2 𝓛 (raw (G.pre z)) (id⊢ 𝓤 _) $ keep ! (0 ∷ []) $ enter ! _ _ _ _ _ $
    alloc_all ! (λ l. pass_all ! refl ((tt, (tt, (record { fits = are.0.0.1.0 }, tt))), tt) $
    sets ! (addr !
    (from ! (fld ! refl (hop ! (look_in_at ! 1 (sub ! 0 refl (whole !))) (stop !))))) refl
    (tt, tt) $
    sets ! (agg !
    (and_then ! (get ! refl)
    (and_then ! (get_in ! (fld ! refl (stop !)) (sub ! 1 refl (whole !))) (no_more !)))) refl
    (tt, (tt, (record { fits = are.0.0.1.0 }, tt))) $
    sets ! (agg ! (and_then ! (lit ! tt) (no_more !))) refl (tt, (record { fits = lit< tt }, tt)) $
    calls_at ! (framed 𝓤 𝓛.H 𝓜 𝓣) G
    (met 𝓤 𝓛 𝓜 𝓡 (code.calls-ascii::bytes_mut::slice_ascii_mut 𝓡.env wired)) z
    (and_then ! (get ! refl) (and_then ! (get ! refl) (no_more !))) (λ v.
    let lft = named_lft 1 0 tt κs in
    let Out = RS.the_row (V.the_row lft) E.the_row in
    use1 𝓛 (later
    (some (λ (r : Result AsciiStrMut AsAsciiStrError).
    (raw (alive 𝓛 g.signature κs qs) ⊛ ‵ (Out.own_val r (v ∷ []))) ⊛
    some (λ (ws : _). ‵ (lasts g.ended κs (s, (Full, tt)) ws) ⊛
    (raw (fact 𝓤 (MutSliceOutcome s.now Full r)) ⊛
    raw (fact 𝓤 (IfOk r (λ w. borrow_of w ≡ s.ghost_name))) ⊛ ‵ (FinalSource s r)))))) (id⊢ 𝓤 _) $
    await ! tt $ pick !
    (λ r. split ! $ move ! (1 ∷ []) $ pick !
    (λ ws. split ! $ drop ! $ move ! (1 ∷ []) $ split ! $ move ! (1 ∷ []) $
    -- [the answer; the tokens; what is promised of it]
    peeks ! Out _ (shows 𝓛 Out) r (v ∷ []) (λ is.
    lands_as ! refl refl
    (((result_laws (V.the_row lft) E.the_row (view_laws.the_row_laws lft)
    error_laws.the_row_laws).lawful 𝓛).typed r (v ∷ []) is).0 $
    returns ! (look_at ! 0 refl) $ free_all ! refl $
    nothing ! $ nothing ! $ fjoin ! $ move ! (2 ∷ 0 ∷ 1 ∷ 3 ∷ []) $
    by ! (leaves 𝓛 f.ended stayed c ((κs, qs, bounds, a, (mut_slice_vals s, tt)), tt) v r
    (tt, tt) (tt, tt)))))))
    )
