-- How a slice fills up, element by element, each with w values.
use Rattle.std.proofs.Common.{◌≡◌, ℕ, suc, ◌+◌, ◌*◌, ◌<◌, ◌≤◌, List, [], ◌∷◌, ◌++◌, length, get_or, take, drop, refl, ap, ◌∙◌, arith}
use borrow.Rule.Slice.PartMut.{put_mid}
use Rattle.std.specs.List.{All, flat_map}
use Rattle.std.proofs.lemmas.Slice.{take-put_mid}
use Rattle.std.proofs.lemmas.Grind.{common_steps}
use Rattle.std.proofs.lemmas.List.{take_all, drop_all, take-append-le, drop-append-le}
use Rattle.sheet.specs.Bytes.{read_back}

-- the values of one more element are written past those of the first k
pub page_step : {X A : Type 0} (f : X → List A) (xs : List X) (k w at n : ℕ) (x : X) (s ys : List A) → k < length xs → x ≡ get_or xs k x → ys ≡ f x → length ys ≡ w → at ≡ k * w → at ≤ length s → take (k * w) s ≡ flat_map f (take k xs) → take ((k + 1) * w) (put_mid at n s ys) ≡ flat_map f (take (k + 1) xs)
page_step f xs k w at n x s ys l r y e a h t =
    let p = take-put_mid at n s ys ((k + 1) * w) (omega arith) h in
    grind (arith, common_steps, p)

-- where each element is said by its bytes, the whole says all of them
pub read_joined : {X : Type 0} (f : X → List ℕ) (w : ℕ) → ((x : X) → length (f x) ≡ w) → (dec : List ℕ → X) (xs : List X) → All (λ x. dec (f x) ≡ x) xs → read_back w dec (length xs) (flat_map f xs) ≡ xs
unfolding read_back
read_joined f w wide dec [] h = refl
read_joined f w wide dec (x ∷ xs) h =
    let e = wide x in
    let t : take w (f x ++ flat_map f xs) ≡ f x = take-append-le w (f x) (flat_map f xs) (omega arith) ∙ take_all w (f x) (omega arith) in
    let d : drop w (f x ++ flat_map f xs) ≡ flat_map f xs = drop-append-le w (f x) (flat_map f xs) (omega arith) ∙ ap (λ z. z ++ flat_map f xs) (drop_all w (f x) (omega arith)) in
    let b : dec (f x) ≡ x = h 0 x (omega arith) in
    let r : read_back w dec (length xs) (flat_map f xs) ≡ xs = read_joined f w wide dec xs (λ k e l. h (suc k) e (omega arith)) in
    cc
