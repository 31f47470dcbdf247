-- The first value that breaks its rule, in a file whose sections stand: what opening, placing and telling refuse, in that order.
use Rattle.std.specs.Prelude.{ℕ, ◌+◌, ◌*◌, ◌<◌, ◌≤◌, Bool, cond, List, [], ◌∷◌, length, ℤ, pos, Some, None, Ok, Err, Option, Result, nat_le, nat_lt, slice_index, slice_index_or, unsigned_abs}
use Rattle.refusal.specs.declared.Cause.{Cause}
use Rattle.refusal.specs.declared.Cause.TheVariants.{Sample, Weight, Full, Shift, Range}
use Rattle.refusal.specs.declared.Refusal.{Refusal}
use Rattle.burstfile.specs.declared.refused.FileRefusal.{FileRefusal}
use Rattle.burstfile.specs.Refused.{in_record}
use Rattle.burstfile.specs.Format.{Pair, Vector, Contents}
use Rattle.burstfile.specs.Reading.{Layout, cut, signed_of, signeds_of, contents_of}

-- the first of two that there is
abbrev pub or_else : {X : Type 0} → Option X → Option X → Option X
or_else (Some x) o = Some x
or_else None o = o

abbrev pub fault_at : Cause → ℕ → Refusal
fault_at c at = record { cause = c; place = at }

abbrev pub within : ℕ → ℤ → Bool
within most z = nat_le (unsigned_abs z) most

-- a component outside −1023 to 1023, at its antenna; the first pair is of antenna k
abbrev pub pairs_fault : ℕ → List Pair → Option Refusal
pairs_fault k [] = None
pairs_fault k (p ∷ ps) =
    cond (within 1023 p.re) (cond (within 1023 p.im) (pairs_fault (k + 1) ps) (Some (fault_at Sample k))) (Some (fault_at Sample k))

-- the last record that is placed: 128 symbols at most, and in modes 9 and 10 the reference before them
abbrev pub limit_of : ℕ → ℕ
limit_of mode = cond (nat_le mode 8) 128 129

-- y before h, then the weight, then a symbol too many; antennas count from 1
abbrev pub vector_fault : ℕ → ℕ → Vector → Option Refusal
vector_fault mode number v =
    or_else (pairs_fault 1 v.y) (or_else (pairs_fault 1 v.h)
    (cond (nat_le v.weight 1023) (cond (nat_le number (limit_of mode)) None (Some (fault_at Full 0))) (Some (fault_at Weight 0))))

-- a refusal, if there is one, with the record that it is in
abbrev pub numbered_fault : ℕ → Option Refusal → Option FileRefusal
numbered_fault n None = None
numbered_fault n (Some f) = Some (in_record n f)

-- record after record; the first is of this number
abbrev pub vectors_fault : ℕ → ℕ → List Vector → Option FileRefusal
vectors_fault mode number [] = None
vectors_fault mode number (v ∷ vs) = or_else (numbered_fault number (vector_fault mode number v)) (vectors_fault mode (number + 1) vs)

-- an a priori value outside −8191 to 8191, at its position; the first is at k
abbrev pub priors_fault : ℕ → List ℤ → Option Refusal
priors_fault k [] = None
priors_fault k (z ∷ zs) = cond (within 8191 z) (priors_fault (k + 1) zs) (Some (fault_at Range k))

-- two bytes hold a value outside −8191 to 8191
abbrev pub is_outside : List ℕ → Bool
is_outside bs = nat_lt 8191 (unsigned_abs (signed_of (slice_index bs 0) (slice_index bs 1)))

-- the first n of the values that bytes hold are from −8191 to 8191
abbrev pub InsideTo : List ℕ → ℕ → Type 0
InsideTo bs n = (k : ℕ) → k < n → unsigned_abs (slice_index_or (signeds_of bs) k (pos 0)) ≤ 8191

-- the value at k is the first that is not
pub record FirstOutside (bs : List ℕ) (k : ℕ) : Type 0 where
  pub stands : k * 2 + 2 ≤ length bs
  pub outside : 8191 < unsigned_abs (slice_index_or (signeds_of bs) k (pos 0))
  pub before : InsideTo bs k

-- the shift, then the records from 1, then the a priori values at positions from 1
abbrev pub values_fault : Contents → Option FileRefusal
values_fault c =
    cond (nat_le c.shift 40)
    (or_else (vectors_fault c.mode 1 c.vectors) (numbered_fault 0 (priors_fault 1 c.priors)))
    (Some (in_record 0 (fault_at Shift 0)))

abbrev pub judged : Contents → Option FileRefusal → Result Contents FileRefusal
judged c None = Ok c
judged c (Some f) = Err f

abbrev pub judged_cut : Result Layout Refusal → Result Contents FileRefusal
judged_cut (Ok l) = judged (contents_of l) (values_fault (contents_of l))
judged_cut (Err f) = Err (in_record 0 f)

-- What a reader answers: the sections first, then the values.
abbrev pub read_spec : List ℕ → Result Contents FileRefusal
read_spec bytes = judged_cut (cut bytes)
