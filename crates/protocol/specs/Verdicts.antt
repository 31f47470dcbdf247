-- What decides whether a call is accepted.
use Rattle.std.specs.Prelude.{ℕ, ◌+◌, Bool, cond, ◌&&◌, List, length, ℤ, pos, negsuc, Ok, Err, Result, ◌==◌, int_le, nat_le}
use Rattle.std.specs.List.{prefix_len}
use Rattle.refusal.specs.declared.Cause.{Cause}
use Rattle.refusal.specs.declared.Refusal.{Refusal}

-- accepted, or why not
abbrev pub Verdict : Type 0
Verdict = Result (Unit {0}) Refusal

abbrev pub accepted : Verdict
accepted = Ok tt

-- go on where the test passes, else refuse with this cause at this place
abbrev pub need : Bool → Cause → ℕ → Verdict → Verdict
need b c p next = cond b next (Err (record { cause = c; place = p }))

-- every element passes, or the call is refused at the first that does not, its position counted from 1
abbrev pub each : {X : Type 0} → (X → Bool) → List X → Cause → Verdict → Verdict
each ok xs c next = need (prefix_len ok xs == length xs) c (prefix_len ok xs + 1) next

-- an a priori value is from −8191 to 8191
abbrev pub inside : ℤ → Bool
inside z = int_le (negsuc 8190) z && int_le z (pos 8191)

-- from 1 to n
abbrev pub up_to : ℕ → ℕ → Bool
up_to n i = nat_le 1 i && nat_le i n
