-- What contracts see of a mutable view: the whole borrowed source, as the bytes before the text,
-- the text, and the bytes after it.
use Rattle.std.specs.Prelude.{◌≡◌, ℕ, List, length, take, drop, slice_range, ◌++◌, MatchResult}
use Rattle.std.specs.Borrow.{Array, Fml, GName, MutBor, RestsIfErr, u8}
use Rattle.std.specs.declared.result.Result.{Result}
use Rattle.ascii_base.specs.declared.range.AsciiRange.{AsciiRange}
use Rattle.ascii_base.specs.Range.{start_of, end_of, Fits}
use Rattle.ascii.specs.declared.ascii_str.AsAsciiStrError.{AsAsciiStrError}
use Rattle.ascii.specs.declared.ascii_str_mut.AsciiStrMut.{AsciiStrMut}
use Rattle.ascii.specs.Slice.{IsRejected}

-- the bytes before the text
abbrev pub before_of : AsciiStrMut → List ℕ
before_of v = take v.start v.bytes.now

-- the text
abbrev pub mut_text_of : AsciiStrMut → List ℕ
mut_text_of v = slice_range v.bytes.now v.start v.end

-- the bytes after the text
abbrev pub after_of : AsciiStrMut → List ℕ
after_of v = drop v.end v.bytes.now

-- the whole source
abbrev pub whole_source_of : AsciiStrMut → List ℕ
whole_source_of v = v.bytes.now

-- the borrow of the source: two views with the same one write to the same source
abbrev pub borrow_of : AsciiStrMut → GName
borrow_of v = v.bytes.ghost_name

-- the text becomes `to`; the bytes around it and the borrow are unchanged; the source is the three
-- parts in order
pub record EditsTo (to : List ℕ) (old new : AsciiStrMut) : Type 0 where
  pub text : mut_text_of new ≡ to
  pub before : before_of new ≡ before_of old
  pub after : after_of new ≡ after_of old
  pub lender : borrow_of new ≡ borrow_of old
  pub whole : whole_source_of new ≡ before_of new ++ mut_text_of new ++ after_of new

-- `v` is a view of `source` from `s` up to, but not including, `e`
pub record IsViewOf (source : List ℕ) (s e : ℕ) (v : AsciiStrMut) : Type 0 where
  pub before : before_of v ≡ take s source
  pub text : mut_text_of v ≡ slice_range source s e
  pub after : after_of v ≡ drop e source
  pub whole : whole_source_of v ≡ source

-- `Ok`: the range fits, and the view is that part of the source. `Err`: `IsRejected` holds
abbrev pub MutSliceOutcome : List ℕ → AsciiRange → Result AsciiStrMut AsAsciiStrError → Type 0
MutSliceOutcome source r result = let n = length source in MatchResult result
    (λ v. Fits r n × IsViewOf source (start_of r) (end_of r n) v)
    (IsRejected source r)

-- the final value of the source: unchanged on `Err`; on `Ok`, the last value of the view, which
-- holds the borrow
abbrev pub FinalSource : MutBor (List ℕ) → Result AsciiStrMut AsAsciiStrError → Fml
FinalSource source result =
    RestsIfErr (Array u8 0) source borrow_of result (λ last. last ≡ source.now)
