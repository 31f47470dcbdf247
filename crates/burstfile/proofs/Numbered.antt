-- Answers with the number of a record, and the walk over the records, for a reader that places them one by one.
use Rattle.std.proofs.Common.{◌≡◌, ℕ, ◌+◌, ◌<◌, ◌≤◌, List, length, get_or, drop, Some, None, Ok, Err, Result, sym, ap, add-one, drop-cons}
use Rattle.std.proofs.lemmas.List.{drop_all}
use Rattle.refusal.specs.declared.Refusal.{Refusal}
use Rattle.burstfile.specs.declared.refused.FileRefusal.{FileRefusal}
use Rattle.burstfile.specs.Refused.{in_record, numbered}
use Rattle.burstfile.specs.Format.{Vector}
use Rattle.burstfile.specs.Values.{vector_fault, vectors_fault}

-- an answer that is accepted with a number is accepted without
pub numbered_ok : {X : Type 0} (n : ℕ) (s : Result X Refusal) (r : Result X FileRefusal) (x : X)
    → r ≡ numbered n s → r ≡ Ok x → s ≡ Ok x
numbered_ok n (Ok y) r x e f = cc
numbered_ok n (Err d) r x e f = cc

-- one that is refused with a number is refused without, and the number is this
pub numbered_err : {X : Type 0} (n : ℕ) (s : Result X Refusal) (r : Result X FileRefusal) (y : FileRefusal)
    → r ≡ numbered n s → r ≡ Err y → (f : Refusal) × (y ≡ in_record n f) × (s ≡ Err f)
numbered_err n (Ok d) r y e f = cc
numbered_err n (Err d) r y e f = (d, cc, cc)

-- the walk over the records at entry i, which is record i + 1
module _ (mode : ℕ) (vs : List Vector) (i : ℕ) (v : Vector) (lt : i < length vs) (is : v ≡ get_or vs i v) where
  pub record_passed : vector_fault mode (i + 1) v ≡ None → vectors_fault mode (i + 1) (drop i vs) ≡ vectors_fault mode (i + 1 + 1) (drop (i + 1) vs)
  record_passed none =
      let here : vector_fault mode (i + 1) (get_or vs i v) ≡ None = cc in
      rw (drop-cons vs i v, here) (ap (λ (k : ℕ). vectors_fault mode (i + 1 + 1) (drop k vs)) (sym (add-one i)))

  pub record_refused : (f : Refusal) → vector_fault mode (i + 1) v ≡ Some f → vectors_fault mode (i + 1) (drop i vs) ≡ Some (in_record (i + 1) f)
  record_refused f some =
      let here : vector_fault mode (i + 1) (get_or vs i v) ≡ Some f = cc in
      rw (drop-cons vs i v, here)

-- past the last record
pub records_passed : (mode : ℕ) (vs : List Vector) (i : ℕ) → length vs ≤ i → vectors_fault mode (i + 1) (drop i vs) ≡ None
records_passed mode vs i le = rw (drop_all i vs le)
