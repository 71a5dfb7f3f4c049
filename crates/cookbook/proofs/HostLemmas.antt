-- Host names and their labels.
use Rattle.std.proofs.Common.{◌≡◌, ◌≤◌, List, ℕ, [], ◌∷◌, ◌++◌, ap, inl, inr, length, refl, subst}
use Rattle.std.proofs.Common.{arith, ◌∙◌}
use Rattle.std.specs.List.{All}
use Rattle.std.proofs.lemmas.List.{append-nil, map-append}
use Rattle.std.proofs.lemmas.List.Elements.{All-map}
use Rattle.ascii.specs.Spans.{PieceSpans, WithStart, items_of}
use Rattle.ascii.proofs.SpansLemmas.{same_pieces}
use Rattle.cookbook.specs.declared.hosts.HostNameError.{HostNameError}
use Rattle.cookbook.specs.declared.hosts.HostNameError.TheVariants.{Character, EmptyLabel, Hyphen}
use Rattle.cookbook.specs.declared.hosts.HostNameError.TheVariants.{LongLabel, Memory, TooLong}
use Rattle.ascii.specs.Class.{IsLabelCode}
use Rattle.cookbook.specs.Hosts.{IsHost, IsHostError, IsLabel, IsLabelError}
use Rattle.ascii.proofs.ListLemmas.{All-seam, IsFirstAt-not_all, IsFirstAt-seam}

-- a name whose pieces are all labels is that of a host
pub host_of_labels : (name : List ℕ) (spans rest : List (WithStart (List ℕ)))
    → length name ≤ 253 → PieceSpans 0 name 46 (spans ++ rest) → rest ≡ []
    → All (λ label. IsLabel label.item) spans → IsHost name
host_of_labels name spans rest short whole none each =
    let all = subst (PieceSpans 0 name 46) (ap (λ r. spans ++ r) none ∙ append-nil spans) whole in
    record {
      short = short;
      labels = items_of spans;
      joined = all.pieces;
      each = All-map IsLabel (λ span. span.item) spans each;
    }

-- the first piece of a name that is not a label says what is wrong with the name
pub wrong_label : (name : List ℕ) (before after : List (WithStart (List ℕ)))
    (here : WithStart (List ℕ)) (error : HostNameError) → length name ≤ 253
    → PieceSpans 0 name 46 (before ++ here ∷ after) → All (λ label. IsLabel label.item) before
    → IsLabelError here error → IsHostError name error
wrong_label name before after here TooLong short whole each wrong = absurd wrong
wrong_label name before after here Memory short whole each wrong = absurd wrong
wrong_label name before after here other short whole each wrong = (
  short,
  (
    before ++ here ∷ after,
    length before,
    whole,
    IsFirstAt-seam (λ label. IsLabel label.item)
        (λ label. IsLabelError label other) before after here each wrong (length before) refl,
  ),
)

-- each piece of the name of a host is a label
pub label_of_host : (name : List ℕ) (before after : List (WithStart (List ℕ)))
    (here : WithStart (List ℕ)) → PieceSpans 0 name 46 (before ++ here ∷ after) → IsHost name
    → IsLabel here.item
label_of_host name before after here whole host =
    let labels = items_of (before ++ here ∷ after) in
    let same = same_pieces name 46 labels host.labels whole.pieces host.joined in
    let each = rw map-append at (subst (All IsLabel) same host.each) in
    All-seam IsLabel (items_of before) (items_of after) here.item each

-- what is wrong with a label is wrong
pub no_label : (label : WithStart (List ℕ)) (error : HostNameError)
    → IsLabelError label error → ¬ (IsLabel label.item)
no_label label (EmptyLabel place) wrong is = is.some wrong.1
no_label label (LongLabel place) wrong is = let short = is.short in absurd (omega (arith, wrong.1))
no_label label (Character place) wrong is =
    IsFirstAt-not_all IsLabelCode label.item wrong.1.0 wrong.1.2 is.codes
no_label label (Hyphen place) wrong is = elim wrong.2 [
  | inl front ↦ is.first front.1
  | inr back ↦ is.last back.2
]
no_label label TooLong wrong is = wrong
no_label label Memory wrong is = wrong
