-- Images in upper and lower case, of vectors, of parts and of whole lists.
use Rattle.std.proofs.Common.{◌≡◌, ◌↔◌, ℕ, ◌+◌, ◌-◌, ◌%◌, ◌^◌, ◌≤◌, ltb, eqb, not, ◌&&◌, true}
use Rattle.std.proofs.Common.{false, cond, List, [], ◌∷◌, ◌++◌, map, length, take, drop, replicate}
use Rattle.std.proofs.Common.{Fits, w8, bit_and, bit_or, refl, sym, ap, ap₂, ◌∙◌, arith, take-add}
use Rattle.std.proofs.Common.{drop-drop}
use Rattle.std.proofs.Math.Seq.{take-append_seam, drop-append_seam}
use Rattle.std.proofs.lemmas.Bool.{agree_below, agree_below_at, eqb-true, eqb-false, eq-eqb}
use Rattle.std.proofs.lemmas.List.{length-map, map-append, append_assoc, append-nil}
use Rattle.std.proofs.lemmas.List.{append_cancel_left, take-append-drop, take-take, take-map}
use Rattle.std.proofs.lemmas.List.{take_all, drop_all, length-take, length-take-le, length-drop}
use Rattle.std.proofs.lemmas.List.{length-append}
use Rattle.std.proofs.lemmas.Simd.{put_chunk_is, length-chunk, length-zip2, bitmask_splat}
use Rattle.std.proofs.lemmas.Simd.{splat_is_map, zip2_of_maps, zip2_splat, map-map}
use lib.Bits.{bit_xor}
use lib.Lanes.{zip2, mask_l, top, sel_l, chunk, put_chunk, Each1}
use Rattle.ascii_base.specs.Case.{lower_image}
use Rattle.ascii_base.specs.Lanes.{SameBefore}
use Rattle.ascii_base.proofs.LanesLemmas.{chosen}

-- two maps that agree on each byte agree on a vector
pub same_on_bytes : (f g : ℕ → ℕ) → agree_below (λ x. eqb (f x) (g x)) (λ _. true) 256 ≡ true
    → (lanes : List ℕ) → Each1 (Fits w8) lanes → map f lanes ≡ map g lanes
same_on_bytes f g all [] fits = refl
same_on_bytes f g all (x ∷ xs) fits =
    ap₂ (λ a r. a ∷ r)
    (eqb-true _ _ (agree_below_at (λ y. eqb (f y) (g y)) (λ _. true) 256 x all fits.0.fits))
    (same_on_bytes f g all xs fits.1)

-- a map of the chunk at i, after bytes that are mapped
pub map_chunk_more : (f : ℕ → ℕ) (xs ys : List ℕ) (i n : ℕ) → i + n ≤ length xs
    → ys ≡ map f (take i xs) ++ drop i xs
    → put_chunk i ys (map f (chunk i n ys)) ≡ map f (take (i + n) xs) ++ drop (i + n) xs
map_chunk_more f xs ys i n room e =
    let front = map f (take i xs) in
    let at : length front ≡ i = length-map (take i xs) f ∙ length-take-le i xs (omega arith) in
    let rest : drop i ys ≡ drop i xs = grind (arith, drop-append_seam) in
    let before : take i ys ≡ front = grind (arith, take-append_seam) in
    let size : length (map f (chunk i n ys)) ≡ n = grind (arith, length-map, length-chunk) in
    let whole : length ys ≡ length xs =
    omega (
      arith,
      ap length rest,
      length-drop i ys,
      length-drop i xs,
      ap length before,
      length-take i ys,
    ) in
    grind (arith, put_chunk_is, ap₂, drop-drop, append_assoc, map-append, take-add)

-- a map of the last n bytes, after bytes that are mapped up to there at least, is the map of the
-- whole
pub mapped_whole : (f : ℕ → ℕ) (xs ys : List ℕ) (last n at : ℕ) → last + n ≡ length xs → last ≤ at
    → at ≤ length xs → ys ≡ map f (take at xs) ++ drop at xs
    → put_chunk last ys (map f (chunk last n xs)) ≡ map f xs
mapped_whole f xs ys last n at ends past inside e =
    let start = map f (take at xs) in
    let long : length start ≡ at = length-map (take at xs) f ∙ length-take-le at xs inside in
    let whole : length ys ≡ length xs = grind (arith, length-append, long, length-drop) in
    let shown : take at ys ≡ start = grind (arith, long, take-append_seam) in
    let before : take last ys ≡ map f (take last xs) =
    sym (take-take last at ys past) ∙ ap (take last) shown ∙ take-map f last (take at xs)
    ∙ ap (map f) (take-take last at xs past) in
    let all : chunk last n xs ≡ drop last xs = grind (arith, take_all, length-drop) in
    let size : length (map f (chunk last n xs)) ≡ n = grind (arith, length-map, length-chunk) in
    let none : drop (length (map f (chunk last n xs))) (drop last ys) ≡ [] =
    drop_all _ (drop last ys) (omega (arith, length-drop last ys, whole, size)) in
    put_chunk_is last ys (map f (chunk last n xs)) (omega (arith, whole, size))
    ∙ ap₂ (λ a b. a ++ b) before
    (ap₂ (λ a b. a ++ b) (ap (map f) all) none ∙ append-nil (map f (drop last xs)))
    ∙ sym (map-append f (take last xs) (drop last xs)) ∙ ap (map f) (take-append-drop last xs)

-- the bits that count of a byte in which another differs from it: all except the bit of the case
-- of a letter
abbrev pub counted : ℕ → ℕ
counted a = cond (top 7 (cond (ltb ((bit_or a 32 + (256 - 97)) % 256) 26) 255 0)) 223 255

-- two bytes differ in no bit that counts exactly if their lower case is one: computed over all
-- pairs
apart_tells : agree_below
    (λ a. agree_below (λ b. eqb (bit_and (bit_xor a b) (counted a)) 0)
    (λ b. eqb (lower_image a) (lower_image b)) 256) (λ _. true) 256 ≡ true
apart_tells = refl

apart_at : (a b : ℕ) → Fits w8 a → Fits w8 b
    → eqb (bit_and (bit_xor a b) (counted a)) 0 ≡ eqb (lower_image a) (lower_image b)
apart_at a b fits_a fits_b =
    agree_below_at (λ y. eqb (bit_and (bit_xor a y) (counted a)) 0)
    (λ y. eqb (lower_image a) (lower_image y)) 256 b (agree_below_at
    (λ x. agree_below (λ y. eqb (bit_and (bit_xor x y) (counted x)) 0)
    (λ y. eqb (lower_image x) (lower_image y)) 256) (λ _. true) 256 a apart_tells
    fits_a.fits) fits_b.fits

-- two bytes with one lower image differ in no bit but that of the case: computed over all pairs
near_tells : agree_below
    (λ a. agree_below
    (λ b. eqb (lower_image a) (lower_image b) && not (eqb (bit_and (bit_xor a b) 223) 0))
    (λ _. false) 256) (λ _. true) 256 ≡ true
near_tells = refl

pub near_at : (a b : ℕ) → Fits w8 a → Fits w8 b
    → eqb (lower_image a) (lower_image b) && not (eqb (bit_and (bit_xor a b) 223) 0) ≡ false
near_at a b fits_a fits_b =
    agree_below_at
    (λ y. eqb (lower_image a) (lower_image y) && not (eqb (bit_and (bit_xor a y) 223) 0))
    (λ _. false) 256 b (agree_below_at (λ x. agree_below
    (λ y. eqb (lower_image x) (lower_image y) && not (eqb (bit_and (bit_xor x y) 223) 0))
    (λ _. false) 256) (λ _. true) 256 a near_tells fits_a.fits) fits_b.fits

-- the bits that count, over two vectors
pub apart_of : (xs ys cs : List ℕ) → cs ≡ map counted xs
    → zip2 bit_and (zip2 bit_xor xs ys) cs ≡ zip2 (λ a b. bit_and (bit_xor a b) (counted a)) xs ys
apart_of xs ys cs e = ap (zip2 bit_and (zip2 bit_xor xs ys)) e ∙ go xs ys
  where
    go : (us vs : List ℕ) → zip2 bit_and (zip2 bit_xor us vs) (map counted us) ≡ zip2
        (λ a b. bit_and (bit_xor a b) (counted a)) us vs
    go [] vs = refl
    go (u ∷ us) [] = refl
    go (u ∷ us) (v ∷ vs) = ap (λ r. bit_and (bit_xor u v) (counted u) ∷ r) (go us vs)

-- no bit that counts differs exactly if the images are one
pub none_apart : (xs ys : List ℕ) → length xs ≡ length ys → Each1 (Fits w8) xs → Each1 (Fits w8) ys
    → (mask_l (map (λ z. not (eqb z 0)) (zip2 (λ a b. bit_and (bit_xor a b) (counted a)) xs ys))
    ≡ 0) ↔ (map lower_image xs ≡ map lower_image ys)
none_apart [] [] e fx fy = (λ _. refl, λ _. refl)
none_apart [] (v ∷ vs) e fx fy = absurd (omega arith)
none_apart (u ∷ us) [] e fx fy = absurd (omega arith)
none_apart (u ∷ us) (v ∷ vs) e fx fy =
    let r = none_apart us vs (omega arith) fx.1 fy.1 in
    let here = apart_at u v fx.0 fy.0 in
    grind (arith, eqb, not, bit_and, ap₂, eqb-true, eqb-false)

-- the test of two vectors by the bits that count
pub no_mark : (xs ys : List ℕ) (n : ℕ) → length xs ≡ n → length ys ≡ n → n ≤ 64
    → Each1 (Fits w8) xs → Each1 (Fits w8) ys
    → (eqb (mask_l (map (top 7) (zip2 (λ a b. cond (not (eqb a b)) 255 0)
    (zip2 bit_and (zip2 bit_xor xs ys)
    (sel_l (map (top 7)
    (zip2 (λ a b. cond (ltb a b) 255 0)
    (zip2 (λ a b. (a + (256 - b)) % 256) (zip2 bit_or xs (replicate n 32)) (replicate n 97))
    (replicate n 26))) (replicate n 223) (replicate n 255)))
    (replicate n 0))) % 2 ^ 64) 0 ≡ true)
    ↔ (map lower_image xs ≡ map lower_image ys)
no_mark xs ys n long_x long_y few fits_x fits_y =
    (λ t. told.0 (sym mask ∙ eqb-true _ _ t), λ e. eq-eqb _ _ (mask ∙ told.1 e))
  where
    below : zip2 {C = ℕ} (λ a b. cond (ltb a b) 255 0)
        (zip2 (λ a b. (a + (256 - b)) % 256) (zip2 bit_or xs (replicate n 32)) (replicate n 97))
        (replicate n 26)
        ≡ map (λ x. cond (ltb ((bit_or x 32 + (256 - 97)) % 256) 26) 255 0) xs
    below = zip2_of_maps (λ a b. cond (ltb a b) 255 0) _ _ xs
        (zip2_of_maps (λ a b. (a + (256 - b)) % 256) _ _ xs (zip2_splat bit_or xs n 32 long_x)
        (splat_is_map xs n 97 long_x)) (splat_is_map xs n 26 long_x)

    cs : List ℕ
    cs = sel_l (map (top 7) (zip2 (λ a b. cond (ltb a b) 255 0)
        (zip2 (λ a b. (a + (256 - b)) % 256) (zip2 bit_or xs (replicate n 32)) (replicate n 97))
        (replicate n 26))) (replicate n 223) (replicate n 255)

    bits : zip2 bit_and (zip2 bit_xor xs ys) cs ≡ zip2 (λ a b. bit_and (bit_xor a b) (counted a))
        xs ys
    bits = apart_of xs ys cs
        (chosen (λ x. top 7 (cond (ltb ((bit_or x 32 + (256 - 97)) % 256) 26) 255 0)) 223 255 xs
        n long_x (ap (map (top 7)) below ∙ map-map (top 7) _ xs))

    long : length (zip2 bit_and (zip2 bit_xor xs ys) cs) ≡ n
    long = grind (arith, bits, length-zip2, bit_and)

    mask : mask_l
        (map (top 7)
        (zip2 (λ a b. cond (not (eqb a b)) 255 0) (zip2 bit_and (zip2 bit_xor xs ys) cs)
        (replicate n 0))) % 2 ^ 64
        ≡ mask_l (map (λ z. not (eqb z 0)) (zip2 (λ a b. bit_and (bit_xor a b) (counted a)) xs ys))
    mask = bitmask_splat w8 (λ a b. not (eqb a b)) (zip2 bit_and (zip2 bit_xor xs ys) cs) n 0
        long few ∙ ap (λ l. mask_l (map (λ z. not (eqb z 0)) l)) bits

    told : (mask_l
        (map (λ z. not (eqb z 0)) (zip2 (λ a b. bit_and (bit_xor a b) (counted a)) xs ys)) ≡ 0) ↔
        (map lower_image xs ≡ map lower_image ys)
    told = none_apart xs ys (long_x ∙ sym long_y) fits_x fits_y

-- parts of lists with equal images
pub same_shorter : (xs ys : List ℕ) (i j : ℕ) → i ≤ j → SameBefore xs ys j → SameBefore xs ys i
same_shorter xs ys i j le same = part xs ∙ ap (take i) same ∙ sym (part ys)
  where
    part : (l : List ℕ) → map lower_image (take i l) ≡ take i (map lower_image (take j l))
    part l = grind (arith, take-take, take-map)

-- lists with equal images have equal images of each front, and those of the whole fronts are the
-- images
pub same_front : (xs ys : List ℕ) (i : ℕ) → map lower_image xs ≡ map lower_image ys
    → SameBefore xs ys i
same_front xs ys i same = sym (take-map lower_image i xs) ∙ ap (take i) same
    ∙ take-map lower_image i ys

-- fronts with equal images go on over a chunk exactly if the images of the chunks are one
pub same_more : (xs ys : List ℕ) (at n : ℕ) → SameBefore xs ys at
    → (map lower_image (chunk at n xs) ≡ map lower_image (chunk at n ys)) ↔ SameBefore xs ys
    (at + n)
same_more xs ys at n before = grind (arith, ap₂, append_cancel_left, take-add, map-append)
