-- What each call of a burst says of its reply and of what it leaves: in what the burst keeps, and in the vectors and values that it stands for.
use Rattle.std.specs.Prelude.{◌≡◌, ℕ, ◌+◌, List, length, ℤ, Ok, Err, Result}
use Rattle.refusal.specs.declared.Refusal.{Refusal}
use Rattle.constellation.specs.Meaning.{Meaning}
use Rattle.metric.specs.Exhaustive.{Symbol}
use Rattle.metric.specs.Value.{extrinsic_value}
use Rattle.observation.specs.declared.Record.{Record}
use Rattle.observation.specs.Observed.{symbol_of}
use Rattle.protocol.specs.Verdicts.{Verdict, accepted}
use Rattle.protocol.specs.Placings.{OpenState, Placing, open_verdict, opened, place_verdict, place_after}
use Rattle.protocol.specs.Calls.{State, Call, taking, answer, read, decide, outline, verdict, closed, leaves, sheet_of, reading, bits_of}
use Rattle.protocol.specs.Stands.{StandsOpen, Stands, recorded, erased_symbol, erased_record}
use Rattle.detect.specs.Kept.{kept_value}
use Rattle.draft.specs.Drafted as drafted
use Rattle.draft.specs.declared.draft.Draft.{Draft}
use Rattle.table.specs.Kept as tabled
use Rattle.table.specs.declared.table.Table.{Table}
use Rattle.table.specs.declared.turn.Turn.{Turn}
use Rattle.burst.specs.declared.burst.OpenBurst.{OpenBurst}

-- what an open burst over M keeps
abbrev pub open_kept : Meaning → Draft → OpenState Record
open_kept M d = drafted.kept M (drafted.view d)

-- what a closed burst over M keeps
abbrev pub closed_kept : Meaning → Table → State Record
closed_kept M t = tabled.kept M (tabled.view t)

-- opening: an empty burst, or the refusal
abbrev pub Opened : {C : Type 0} → (C → Meaning) → C → ℕ → ℕ → Result (OpenBurst C) Refusal → Type 0
Opened meaning c number s (Ok b) = (open_verdict s ≡ accepted) × (b.c ≡ c) × StandsOpen (open_kept (meaning c) b.draft) (opened (meaning c) number s)
Opened meaning c number s (Err e) = open_verdict s ≡ Err e

-- placing
pub record PlacedBy (before : OpenState Record) (p : Placing) (r : Verdict) (after : OpenState Record) : Type 0 where
  pub reply : r ≡ place_verdict (length before.symbols) before.reference p
  pub kept : after ≡ place_after recorded r before p
  pub stands : (o : OpenState Symbol) → StandsOpen before o → StandsOpen after (place_after symbol_of r o p)

-- closing
pub record ClosedBy (before : OpenState Record) (after : State Record) : Type 0 where
  pub kept : after ≡ closed before
  pub stands : (o : OpenState Symbol) → StandsOpen before o → Stands after (closed o)

-- any call on a closed burst: v is its verdict
pub record Called (before : State Record) (c : Call) (v : Verdict) (after : State Record) : Type 0 where
  pub reply : v ≡ verdict (outline before) c
  pub kept : after ≡ leaves erased_record v before c
  pub stands : (s : State Symbol) → Stands before s → (v ≡ verdict (outline s) c) × Stands after (leaves erased_symbol v s c)

-- what is left of memory that an accepted call writes and a refused one leaves
abbrev pub written : {X : Type 0} → Verdict → List X → List X → List X
written (Ok _) new old = new
written (Err _) new old = old

-- taking: the next turn, and the extrinsic values
abbrev pub turn_of : Verdict → State Record → Result Turn Refusal
turn_of (Ok _) s = Ok (record { burst = s.number; number = s.given + 1 })
turn_of (Err e) s = Err e

pub record Taken (before : State Record) (sheet : List ℤ) (r : Result Turn Refusal) (after : State Record) (sheet' : List ℤ) : Type 0 where
  pub called : Called before (taking (length sheet)) (verdict (outline before) (taking (length sheet))) after
  pub turn : r ≡ turn_of (verdict (outline before) (taking (length sheet))) before
  pub wrote : sheet' ≡ written (verdict (outline before) (taking (length sheet))) (sheet_of kept_value before) sheet
  pub detected : (s : State Symbol) → Stands before s → sheet' ≡ written (verdict (outline before) (taking (length sheet))) (sheet_of extrinsic_value s) sheet

-- answering: a refusal gives the turn back
pub record Answered (before : State Record) (t : Turn) (zs : List ℤ) (r : Result (Unit {0}) (Turn × Refusal)) (after : State Record) : Type 0 where
  pub called : Called before (answer t.burst t.number zs) (verdict (outline before) (answer t.burst t.number zs)) after
  pub turn : r ≡ tabled.returned (verdict (outline before) (answer t.burst t.number zs)) t

-- reading: the standing a priori value, the extrinsic and the posterior value
abbrev pub read_of : Verdict → ℤ × ℤ × ℤ → Result (ℤ × ℤ × ℤ) Refusal
read_of (Ok _) t = Ok t
read_of (Err e) t = Err e

pub record Read (now : State Record) (i k : ℕ) (r : Result (ℤ × ℤ × ℤ) Refusal) : Type 0 where
  pub reply : r ≡ read_of (verdict (outline now) (read i k)) (reading kept_value now i k)
  pub detected : (s : State Symbol) → Stands now s → r ≡ read_of (verdict (outline s) (read i k)) (reading extrinsic_value s i k)

-- hard deciding
pub record Decided (now : State Record) (bits : List ℕ) (r : Verdict) (bits' : List ℕ) : Type 0 where
  pub reply : r ≡ verdict (outline now) (decide (length bits))
  pub wrote : bits' ≡ written r (bits_of kept_value now) bits
  pub detected : (s : State Symbol) → Stands now s → (r ≡ verdict (outline s) (decide (length bits))) × (bits' ≡ written r (bits_of extrinsic_value s) bits)
