-- Parts of paths.
use Rattle.std.proofs.Common.{◌≡◌, ◌∙◌, ◌↔◌, ℕ, Err, IsTrue, List, [], ◌∷◌, ◌++◌, Ok, Result, ap, arith}
use Rattle.std.proofs.Common.{drop, false, get_or, inl, inr, length, map, refl, subst, sym}
use Rattle.std.proofs.lemmas.List.{append_assoc, append_cancel_left, append_cancel_right}
use Rattle.std.proofs.lemmas.List.{length-map, map_push}
use Rattle.std.proofs.lemmas.List.Elements.{All-push, Contains-append_right}
use Rattle.std.proofs.Math.Seq.{drop-append_seam}
use Rattle.std.specs.List.{All, Contains}
use Rattle.std.specs.Net.Grammar.{IsIpv4Text, IsIpv6Text, Parses}
use Rattle.std.specs.Prelude.{codes}
use Rattle.std.specs.Result.{is_ok}
use Rattle.std.specs.declared.net.ipv4_addr.Ipv4Addr.{Ipv4Addr}
use Rattle.std.specs.declared.net.ipv6_addr.Ipv6Addr.{Ipv6Addr}
use Rattle.std.proofs.lemmas.Bool.{false≢true}
use Rattle.ascii.specs.Search.{IgnoringCase, IsCutAt, IsPrefix, StartsWith}
use Rattle.example_smtp.specs.Paths.{AreBetween, IsBetween, IsCutAtLastAt, IsDomain}
use Rattle.example_smtp.specs.Paths.{IsHop, IsMailbox, IsName, IsPath, IsRouted, IsTaggedAddress}

-- a part more is taken from the front of the parts that are left
pub moved : {A B : Type 0} (f : A → B) (taken : List A) (here : A) (rest items : List B)
    → items ≡ f here ∷ rest → map f taken ++ items ≡ map f (taken ++ here ∷ []) ++ rest
moved f taken here rest items is = ap (λ xs. map f taken ++ xs) is
    ∙ (sym (append_assoc (map f taken) (f here ∷ []) rest)
    ∙ ap (λ xs. xs ++ rest) (sym (map_push f taken here)))

-- what holds of the parts so far holds with one more
pub one_more : {A B : Type 0} (P : B → Type 0) (f : A → B) (taken : List A) (here : A)
    → All P (map f taken) → P (f here) → All P (map f (taken ++ here ∷ []))
one_more P f taken here each this =
    subst (All P) (sym (map_push f taken here)) (All-push P (map f taken) (f here) each this)

-- the last place of a code is one
pub last_cut : (code : ℕ) (before after other rest : List ℕ)
    → before ++ code ∷ after ≡ other ++ code ∷ rest → ¬ (Contains after code)
    → ¬ (Contains rest code) → (before ≡ other) × (after ≡ rest)
last_cut code [] after [] rest same free clear = (refl, ap (λ xs. drop 1 xs) same)
last_cut code [] after (c ∷ other) rest same free clear = absurd (free
    (subst (λ xs. Contains xs code) (sym (ap (λ xs. drop 1 xs) same))
    (Contains-append_right other (code ∷ rest) code (0, omega arith, refl))))
last_cut code (c ∷ before) after [] rest same free clear = absurd (clear
    (subst (λ xs. Contains xs code) (ap (λ xs. drop 1 xs) same)
    (Contains-append_right before (code ∷ after) code (0, omega arith, refl))))
last_cut code (c ∷ before) after (d ∷ other) rest same free clear =
    let more = last_cut code before after other rest (ap (λ xs. drop 1 xs) same) free clear in (
      ap (λ x. x ∷ before) (ap (λ xs. get_or xs 0 0) same) ∙ ap (λ xs. d ∷ xs) more.0,
      more.1,
    )

-- the first place of a code is one
pub first_cut : (code : ℕ) (before after other rest : List ℕ)
    → before ++ code ∷ after ≡ other ++ code ∷ rest → ¬ (Contains before code)
    → ¬ (Contains other code) → (before ≡ other) × (after ≡ rest)
first_cut code [] after [] rest same free clear = (refl, ap (λ xs. drop 1 xs) same)
first_cut code [] after (c ∷ other) rest same free clear =
    absurd (clear (0, omega arith, sym (ap (λ xs. get_or xs 0 0) same)))
first_cut code (c ∷ before) after [] rest same free clear =
    absurd (free (0, omega arith, ap (λ xs. get_or xs 0 0) same))
first_cut code (c ∷ before) after (d ∷ other) rest same free clear =
    let more = first_cut code before after other rest (ap (λ xs. drop 1 xs) same)
    (λ has. free (Contains-append_right (c ∷ []) before code has))
    (λ has. clear (Contains-append_right (d ∷ []) other code has)) in (
      ap (λ x. x ∷ before) (ap (λ xs. get_or xs 0 0) same) ∙ ap (λ xs. d ∷ xs) more.0,
      more.1,
    )

-- what is between two texts is one
pub one_inner : (start end text inner other : List ℕ) → IsBetween start end text inner
    → IsBetween start end text other → inner ≡ other
one_inner start end text inner other first second = append_cancel_right inner other end
    (append_cancel_left start (inner ++ end) (other ++ end) (first ∙ sym second))

-- the address after a route is one
one_routed : (a b text : List ℕ) → IsRouted a text → IsRouted b text → a ≡ b
one_routed a b text (inl one) (inl two) = sym one.1 ∙ two.1
one_routed a b text (inl one) (inr two) = absurd (one.0 two.0)
one_routed a b text (inr one) (inl two) = absurd (two.0 one.0)
one_routed a b text (inr one) (inr two) =
    let (route, cut, _, _) = one.1 in
    let (other, there, _, _) = two.1 in
    (first_cut 58 route a other b (cut.joined ∙ sym there.joined) cut.sides there.sides).1

-- the address in a path is one
pub one_address : (a b path : List ℕ) → IsPath a path → IsPath b path → a ≡ b
one_address a b path (inner, between, routed) (other, there, also) =
    let same = one_inner (codes "<") (codes ">") path other inner there between in
    one_routed a b inner routed (subst (IsRouted b) same also)

-- a path that begins with `@` after `<` has a colon after its hosts
pub no_colon : (path inner address : List ℕ) → IsBetween (codes "<") (codes ">") path inner
    → StartsWith (codes "@") inner → ¬ (Contains inner 58) → ¬ (IsPath address path)
no_colon path inner address between starts free (other, there, routed) =
    let same = one_inner (codes "<") (codes ">") path other inner there between in
    elim (subst (IsRouted address) same routed) [
      | inl plain ↦ plain.0 starts
      | inr (_, (route, cut, _, _)) ↦ free (subst (λ xs. Contains xs 58) cut.joined
          (Contains-append_right route (58 ∷ address) 58 (0, omega arith, refl)))
    ]

pub no_route : (path inner route after address : List ℕ)
    → IsBetween (codes "<") (codes ">") path inner → StartsWith (codes "@") inner
    → IsCutAt 58 inner route after → ¬ (AreBetween 44 IsHop route × IsMailbox after)
    → ¬ (IsPath address path)
no_route path inner route after address between starts cut bad (other, there, routed) =
    let same = one_inner (codes "<") (codes ">") path other inner there between in
    elim (subst (IsRouted address) same routed) [
      | inl plain ↦ plain.0 starts
      | inr (_, (hosts, also, hops, mailbox)) ↦
          let ends = first_cut 58 hosts address route after (also.joined ∙ sym cut.joined)
          also.sides cut.sides in
          bad (subst (AreBetween 44 IsHop) ends.0 hops, subst IsMailbox ends.1 mailbox)
    ]

-- what comes after a prefix is one
pub one_rest : (prefix text a b : List ℕ) → IgnoringCase (λ start. IsPrefix start text a) prefix
    → IgnoringCase (λ start. IsPrefix start text b) prefix → a ≡ b
one_rest prefix text a b first second =
    let long : length first.other ≡ length second.other = grind (arith, length-map) in
    sym (drop-append_seam first.other a)
    ∙ (ap (drop (length first.other)) (first.is ∙ sym second.is)
    ∙ (ap (λ n. drop n (second.other ++ b)) long ∙ drop-append_seam second.other b))

-- what a parser of addresses says of a text
pub tagged : {E : Type 0} (text rest : List ℕ) (result : Result Ipv6Addr E)
    → IgnoringCase (λ tag. IsPrefix tag text rest) (codes "IPv6:")
    → Parses IsIpv6Text rest result → IsTrue (is_ok result) ↔ IsTaggedAddress text
tagged text rest (Ok address) prefix spells = (λ is. (rest, address, prefix, spells), λ is. refl)
tagged text rest (Err error) prefix none = (
  λ is. absurd (false≢true is),
  λ is. let (other, address, also, spells) = is in
      absurd (none address (subst (λ t. IsIpv6Text t address)
      (one_rest (codes "IPv6:") text other rest also prefix) spells)),
)

pub no_ipv4 : {E : Type 0} (text : List ℕ) (result : Result Ipv4Addr E)
    → Parses IsIpv4Text text result → is_ok result ≡ false → (address : Ipv4Addr)
    → ¬ (IsIpv4Text text address)
no_ipv4 text (Ok found) spells bad address = absurd (false≢true (sym bad))
no_ipv4 text (Err error) none bad address = none address

-- the parts before and after the last `@` of a mailbox are a name and a domain
pub mailbox_parts : (text name domain : List ℕ) → IsCutAtLastAt text name domain
    → IsMailbox text → IsName name × IsDomain domain
mailbox_parts text name domain cut (other, last, there, named, located) =
    let same = last_cut 64 name domain other last (cut.joined ∙ sym there.joined) cut.sides
    there.sides in
    (subst IsName (sym same.0) named, subst IsDomain (sym same.1) located)

-- a mailbox has an `@`
pub mailbox_has_at : (text : List ℕ) → IsMailbox text → Contains text 64
mailbox_has_at text (name, domain, cut, named, located) = subst (λ xs. Contains xs 64) cut.joined
    (Contains-append_right name (64 ∷ domain) 64 (0, omega arith, refl))
