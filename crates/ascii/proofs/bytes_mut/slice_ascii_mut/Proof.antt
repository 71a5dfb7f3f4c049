-- The walk: the search carries the source, and its answer decides the `Result`. Assumes `Logic`.
use Rattle.std.proofs.Common.{arith}
use mathlib.Core.Path.{◌≡◌, refl, ap}
use mathlib.Core.List.{List, [], ◌∷◌}
use Prim.Native.Nat.{ℕ}
use mathlib.Core.Bool.{true, false}
use lib.Dec.{lit<}
use lib.Ieee.Bits.{is_true, is_false}
use mir.Syntax.{named, w64}
use mir.Val.{vint, vstruct, vcons, vnil, of_list}
use base.Logic.{id⊢}
use base.Fml.{fres}
use contract.Monad.{fact, fact_i}
use contract.Running.{tables}
use types.Kit.{‵, raw, later, some, at_ret, ◌⊛◌, ◌$◌, ◌∵◌, !, qed, by, move, drop, use0, use1}
use types.Kit.{split, join, fjoin, pick, await}
use types.Part.{whole, sub, agg}
use types.Run.{stop, fld, hop, from, addr, of_opd, lit, and_then, no_more, first, branches, skips}
use types.Run.{exec, returns, returns_within, enter}
use types.ByLocal.{alloc_all, pass_all, free_all, look_at, look_in_at, get, get_in, sets, lands_as}
use types.ByLocal.{env}
use types.Match.{live}
use denote.Builtin.{u8}
use denote.Exit.{yes, no}
use denote.Laws.{Typed, shows}
use denote.Ref.{MutBor}
use denote.Signature.{plain, named_lft, mut_slice_of}
use denote.Slice.{mut_slice_vals, mut_slice_Tells}
use denote.Steps.{nothing, heard, peeks, only}
use denote.Triple.Call.{calls_at}
use denote.Triple.Clauses.{lasts}
use denote.Triple.Entry.{alive}
use denote.Triple.Spec.{triple_of}
use denote.Triple.Table.{framed}
use denote.Triple.Walked.{Stays, stay_dropped, walk_of, Goes-dropped, Goes-spent_slice}
use Rattle.std.proofs.raw_atomic.Walks.{proved, leaves}
use Rattle.std.specs.declared.result.Result.TheVariants.{Ok, Err}
use Rattle.ascii_base.specs.Range.{start_of, end_of, Fits}
use Rattle.ascii_base.specs.contracts.range.AsciiRange as range
use Rattle.ascii_base.proofs.range.AsciiRange.TheLaws as range_laws
use Rattle.ascii.specs.Slice.{IsRejected}
use Rattle.ascii.specs.WritingView.{FinalSource, IsViewOf, whole_source_of, borrow_of}
use Rattle.ascii.specs.declared.bytes_mut.SearchOutcome.{SearchOutcome}
use Rattle.ascii.specs.contracts.bytes_mut.SearchOutcome as S
use Rattle.ascii.proofs.bytes_mut.SearchOutcome.TheLaws as found_laws
use Rattle.ascii.proofs.RestsLemmas.{Bytes, error_made, given_up, found_view, rests_ok, rests_err}
use Rattle.ascii.specs.declared.ascii_str.AsAsciiStrError.{AsAsciiStrError}
use Rattle.ascii.specs.contracts.ascii_str_mut.AsciiStrMut as V
use Rattle.ascii.proofs.ascii_str_mut.AsciiStrMut.TheLaws as view_laws
use Rattle.ascii.specs.contracts.bytes_mut.slice_ascii_mut as f
use Rattle.ascii.proofs.bytes_mut.slice_ascii_mut.Statement.{statement}
use Rattle.ascii.proofs.bytes_mut.slice_ascii_mut.Code as code
use Rattle.ascii.specs.contracts.bytes_mut.search as g
use Rattle.ascii.proofs.bytes_mut.search.Met.{met}
use Rattle.std.specs.Prelude.{⊤, length}
use Rattle.std.proofs.ResultValues.{ok_of, err_of}
use Rattle.std.specs.contracts.result.Result as RS
use Rattle.ascii.specs.contracts.ascii_str.AsAsciiStrError as E

abbrev stayed : Stays f.ended.signature.params f.ended.kept
stayed = (
  stay_dropped (mut_slice_of (0 ∷ []) tt (plain (λ _. u8))) no,
  (stay_dropped (plain (λ _. range.the_row)) yes, tt),
)

pub slice_ascii_mut_spec : {M : Type 1} → statement M
slice_ascii_mut_spec 𝓤 𝓛 𝓜 𝓡 wired =
    let c = f.clauses 𝓛 𝓜.mem 𝓡.returns in let W = walk_of 𝓛 f.ended stayed c in let 𝓣 =
    tables 𝓤 𝓛.H 𝓜 𝓡 𝓡.env in
    proved 𝓛 f.ended stayed c 𝓜 𝓡 (
      Goes-spent_slice 𝓛 1 (0 ∷ []) tt (plain (λ _. u8)),
      (Goes-dropped 𝓛 1 (plain (λ _. range.the_row)) yes (λ κs x w. refl), tt),
    ) f.Key.name code.function (code.unfolded 𝓤 𝓛.H 𝓜 𝓡 wired)
    (λ κs. (mut_slice_vals, ((λ r. range_laws.the_told.val r ∷ []), tt)))
    (λ κs. (mut_slice_Tells (named 0) κs.0 u8, (range_laws.the_told.tells, tt)))
    (λ κs qs bounds a _ are.
    let s : MutBor (List ℕ) = a.0 in let r = a.1.0 in
    let n = length s.now in
    let G = triple_of 𝓛 g.signature (g.spec 𝓛 𝓜.mem 𝓡.returns) in
    let z : G.Ghost =
    ((κs, qs, bounds, a, (mut_slice_vals s, (range_laws.the_told.val r ∷ [], tt))), tt) in
    qed 𝓛 (raw (G.pre z) ∷ []) ∵ enter ! _ _ _ _ _ $ alloc_all ! (λ l. pass_all ! refl (
      (tt, (tt, (record { fits = are.0.0.1.0 }, tt))),
      grind arith,
    ) $ sets ! (addr !
    (from ! (fld ! refl (hop ! (look_in_at ! 1 (sub ! 0 refl (whole !))) (stop !))))) refl
    (tt, tt) $ sets ! (agg ! (and_then ! (get ! refl)
    (and_then ! (get_in ! (fld ! refl (stop !)) (sub ! 1 refl (whole !))) (no_more !)))) refl
    (tt, (tt, (record { fits = are.0.0.1.0 }, tt))) $ calls_at ! (framed 𝓤 𝓛.H 𝓜 𝓣) G
    (met 𝓤 𝓛 𝓜 𝓡 (code.calls-ascii::bytes_mut::search 𝓡.env wired)) z
    (and_then ! (get ! refl) (and_then ! (get ! refl) (no_more !))) (λ v.
    let lft = named_lft 1 0 tt κs in
    let Row = S.the_row lft in
    use1 𝓛 (later
    (some (λ (d : SearchOutcome). (raw (alive 𝓛 g.signature κs qs) ⊛ ‵ (Row.own_val d (v ∷ []))) ⊛
    some (λ (ws : _). ‵ (lasts g.ended κs a ws) ⊛ raw (fact 𝓤 (d.is_refused ≡ false
    → Fits r n × IsViewOf s.now (start_of r) (end_of r n) d.view)) ⊛
    raw (fact 𝓤 (d.is_refused ≡ true
    → IsRejected s.now r (record { valid_up_to = d.valid_up_to }))) ⊛
    raw (fact 𝓤 (whole_source_of d.view ≡ s.now)) ⊛
    raw (fact 𝓤 (borrow_of d.view ≡ s.ghost_name)))))) (id⊢ 𝓤 _) $ await ! tt $ pick !
    (λ d. split ! $ move ! (1 ∷ []) $ pick !
    (λ ws. split ! $ drop ! $ split ! $ heard ! _ (λ accepted.
    split ! $ heard ! _ (λ refused. split ! $ heard ! _
    (λ same. heard ! _ (λ lender. split ! $ move ! (1 ∷ []) $
    -- [what was found; the tokens]
    peeks ! Row _ (shows 𝓛 Row) d (v ∷ []) (λ is.
    let value = (found_laws.lowers lft).val_is d (v ∷ []) is in
    let typed : Typed Row.mir (found_laws.lowered d ∷ []) = grind arith in
    let Out = RS.the_row (V.the_row lft) E.the_row in
    let e : AsAsciiStrError = record { valid_up_to = d.valid_up_to } in
    let ev = vstruct (vcons (vint w64 d.valid_up_to) vnil) in
    lands_as ! (ap only value) refl typed.0 $
    sets ! (of_opd ! (get_in ! (fld ! refl (stop !)) (sub ! 1 refl (whole !)))) refl
    (tt, typed.0.1.1.0) $
    use1 𝓛 (‵ ((V.the_row lft).own_val d.view (view_laws.lowered d.view ∷ [])))
    (found_view 𝓛 lft d (v ∷ [])) $ first ! $ branches ! (get ! refl) (λ is_refused.
    use1 𝓛 (later (‵ (fres d.view.bytes.ghost_name (Bytes.coded.code d.view.bytes.now))))
    (given_up 𝓛 lft d.view (view_laws.lowered d.view ∷ [])) $ await ! tt $
    use1 𝓛 (‵ (FinalSource s (Err e))) (rests_err 𝓛 s d.view e lender same) $
    sets ! (of_opd ! (get_in ! (fld ! refl (stop !)) (sub ! 2 refl (whole !)))) refl
    (tt, typed.0.1.1.1.0) $
    sets ! (agg ! (and_then ! (get ! refl) (no_more !))) refl (tt, (typed.0.1.1.1.0, tt)) $
    sets ! (agg ! (and_then ! (lit ! tt) (and_then ! (get ! refl) (no_more !)))) refl
    (tt, (record { fits = lit< tt }, ((typed.0.1.1.1.0, tt), tt))) $
    returns_within ! (W.post z) refl (look_at ! 0 refl) $ free_all ! refl $
    -- [what rests; the tokens]
    use0 𝓛 (raw (fact 𝓤 ⊤)) (fact_i 𝓤 ⊤ _ tt) $ join ! $
    use0 𝓛 (raw (fact 𝓤 _)) (fact_i 𝓤 _ _ (refused (is_true _ is_refused))) $ join ! $
    use0 𝓛 (‵ (E.the_row.own_val e (ev ∷ []))) (error_made 𝓛 d.valid_up_to typed.0.1.1.1.0.fits) $
    use1 𝓛 (‵ (Out.own_val (Err e) (live 1 (of_list (ev ∷ [])) ∷ [])))
    (err_of 𝓛 (V.the_row lft) E.the_row e ev) $
    nothing ! $ nothing ! $ fjoin ! $ nothing ! $ fjoin ! $ move ! (3 ∷ 0 ∷ 1 ∷ 2 ∷ []) $
    by ! (leaves 𝓛 f.ended stayed c z (live 1 (of_list (ev ∷ []))) (Err e) (tt, (tt, tt))
    (tt, (tt, tt)))) (λ is_accepted. skips ! $ exec ! 𝓣.C 𝓣.Λ (env code.Mir.locals l) code.Mir.t-6
    (at_ret _ (W.post z)) $
    sets ! (of_opd ! (get_in ! (fld ! refl (stop !)) (sub ! 0 refl (whole !)))) refl
    (tt, typed.0.1.0) $
    sets ! (agg ! (and_then ! (lit ! tt) (and_then ! (get ! refl) (no_more !)))) refl
    (tt, (record { fits = lit< tt }, (typed.0.1.0, tt))) $
    returns ! (look_at ! 0 refl) $ free_all ! refl $
    use1 𝓛 (‵ (Out.own_val (Ok d.view) (live 0 (of_list (view_laws.lowered d.view ∷ [])) ∷ [])))
    (ok_of 𝓛 (V.the_row lft) E.the_row d.view (view_laws.lowered d.view)) $ move ! (1 ∷ 0 ∷ []) $
    use0 𝓛 (‵ (FinalSource s (Ok d.view))) (rests_ok 𝓛 s d.view lender) $
    use0 𝓛 (raw (fact 𝓤 _)) (fact_i 𝓤 _ _ lender) $ join ! $
    use0 𝓛 (raw (fact 𝓤 _)) (fact_i 𝓤 _ _ (accepted (is_false _ is_accepted))) $ join ! $
    nothing ! $ nothing ! $ fjoin ! $ nothing ! $ fjoin ! $ move ! (2 ∷ 0 ∷ 3 ∷ 1 ∷ []) $
    by ! (leaves 𝓛 f.ended stayed c z (live 0 (of_list (view_laws.lowered d.view ∷ [])))
    (Ok d.view) (tt, (tt, tt)) (tt, (tt, tt))))))))))))))
