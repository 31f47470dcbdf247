-- What a table holds, and what each of its calls leaves.
use Rattle.std.specs.Prelude.{ℕ, ◌+◌, ◌-◌, ◌*◌, Bool, true, false, List, [], ◌∷◌, ◌++◌, length, take, drop, replicate, ℤ, pos, Ok, Err, Result, slice_index_or, slice_set}
use Rattle.refusal.specs.declared.Refusal.{Refusal}
use Rattle.constellation.specs.Meaning.{Meaning}
use Rattle.observation.specs.declared.Record.{Record}
use Rattle.protocol.specs.Verdicts.{Verdict}
use Rattle.protocol.specs.Calls.{Placed, State, Outline}
use Rattle.protocol.specs.Stands.{erased_record}
use Rattle.table.specs.declared.table.Table.{Table}
use Rattle.table.specs.declared.turn.Turn.{Turn}

-- xs with zs written over it from index a on
abbrev pub over : {X : Type 0} → ℕ → List X → List X → List X
over a zs xs = take a xs ++ (zs ++ drop (a + length zs) xs)

-- a table without what is proved of it
pub record View : Type 0 where
  pub records : List Record
  pub priors : List ℤ
  pub number : ℕ
  pub shift : ℕ
  pub given : ℕ
  pub out : Bool

abbrev pub view : Table → View
view t = record { records = t.records.items; priors = t.priors; number = t.number; shift = t.shift.exponent; given = t.given; out = t.out }

-- records with their a priori values, m to a record
abbrev pub paired : ℕ → List Record → List ℤ → List (Placed Record)
paired m [] zs = []
paired m (r ∷ rs) zs = record { symbol = r; priors = take m zs } ∷ paired m rs (drop m zs)

-- the state of a burst over the constellation M that has this table
abbrev pub kept : Meaning → View → State Record
kept M v = record { meaning = M; number = v.number; shift = v.shift; symbols = paired M.m v.records v.priors; given = v.given; out = v.out }

abbrev pub outlined : ℕ → View → Outline
outlined m v = record { count = length v.records; m = m; number = v.number; given = v.given; out = v.out }

-- past the end of every table
abbrev pub blank : Record
blank = record { z_re = pos 0; z_im = pos 0; y_energy = 0; h_energy = 0; weight = 0 }

abbrev pub fresh : List Record → ℕ → ℕ → View
fresh records number shift = record { records = records; priors = replicate 1024 (pos 0); number = number; shift = shift; given = 0; out = false }

abbrev pub with_priors : View → List ℤ → View
with_priors v zs = record { records = v.records; priors = zs; number = v.number; shift = v.shift; given = v.given; out = v.out }

abbrev pub idle : View → View
idle v = record { records = v.records; priors = v.priors; number = v.number; shift = v.shift; given = v.given; out = false }

-- what a call of the table leaves: by its verdict
abbrev pub tell_left : Verdict → ℕ → View → ℕ → List ℤ → View
tell_left (Ok _) m v i zs = with_priors v (over ((i - 1) * m) zs v.priors)
tell_left (Err _) m v i zs = v

abbrev pub answer_left : Verdict → View → List ℤ → View
answer_left (Ok _) v zs = idle (with_priors v (over 0 zs v.priors))
answer_left (Err _) v zs = v

abbrev pub withdraw_left : Verdict → View → View
withdraw_left (Ok _) v = idle v
withdraw_left (Err _) v = v

abbrev pub erase_left : Verdict → View → ℕ → View
erase_left (Ok _) v i = record { records = slice_set v.records (i - 1) (erased_record (slice_index_or v.records (i - 1) blank)); priors = v.priors; number = v.number; shift = v.shift; given = v.given; out = v.out }
erase_left (Err _) v i = v

abbrev pub issued : View → View
issued v = record { records = v.records; priors = v.priors; number = v.number; shift = v.shift; given = v.given + 1; out = true }

-- a refused answer gives the turn back
abbrev pub returned : Verdict → Turn → Result (Unit {0}) (Turn × Refusal)
returned (Ok _) t = Ok tt
returned (Err e) t = Err (t, e)
