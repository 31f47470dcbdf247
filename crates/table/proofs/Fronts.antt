-- Lists written over.
use Rattle.std.proofs.Common.{◌≡◌, ℕ, ◌+◌, ◌<◌, ◌≤◌, true, List, ◌++◌, length, get_or, take, drop, set, ℤ, sym, ap, ◌∙◌, arith}
use Rattle.std.specs.List.{prefix_len}
use Rattle.std.proofs.lemmas.Grind.{common_steps}
use Rattle.std.proofs.lemmas.List.{length-set}
use Rattle.arrayvec.specs.ArrayVec.{ArrayVec, array_vec_len, with_items}
use Rattle.arrayvec.proofs.ArrayVecLemmas.{items-with_items}
use Rattle.observation.specs.declared.Record.{Record}
use Rattle.observation.specs.Sizes.{measured}
use Rattle.observation.proofs.Sizes.{measured_is, measured_from}
use Rattle.protocol.specs.Verdicts.{inside}
use Rattle.protocol.specs.Stands.{erased_record}
use Rattle.protocol.proofs.Fronts.{front_append, front_take, front_drop, front_set, front_at}
use Rattle.table.specs.Kept.{blank}

-- values that are in range, written over values that are
pub put_inside : (a k : ℕ) (zs xs : List ℤ) → length zs ≡ k → a + k ≤ length xs → prefix_len inside zs ≡ length zs → prefix_len inside xs ≡ length xs → prefix_len inside (take a xs ++ (zs ++ drop k (drop a xs))) ≡ length xs
put_inside a k zs xs l room h e =
    front_append inside (take a xs) (zs ++ drop k (drop a xs)) (front_take inside a xs e)
    (front_append inside zs (drop k (drop a xs)) h (front_drop inside k (drop a xs) (front_drop inside a xs e)))
    ∙ grind (arith, common_steps)

-- one record is erased
pub erased_fits : (v : ArrayVec Record) (xs : List Record) (i : ℕ) → xs ≡ v.items → i < array_vec_len v → prefix_len measured v.items ≡ array_vec_len v → let w = with_items v (set xs i (erased_record (get_or xs i blank))) in prefix_len measured w.items ≡ array_vec_len w
erased_fits v xs i e h k =
    let n : prefix_len measured xs ≡ length xs = rw e k in
    let l : i < length xs = rw e h in
    let r = measured_is (get_or xs i blank) (front_at measured xs i blank l n) in
    let m : measured (erased_record (get_or xs i blank)) ≡ true = measured_from (erased_record (get_or xs i blank)) (record { re = r.re; im = r.im; y = r.y; h = r.h; w = omega arith }) in
    let ys = set xs i (erased_record (get_or xs i blank)) in
    let same : (with_items v ys).items ≡ ys = items-with_items v ys (length-set xs i _ ∙ ap length e) in
    ap (prefix_len measured) same ∙ front_set measured xs i _ m n ∙ sym (ap length same ∙ length-set xs i _)
