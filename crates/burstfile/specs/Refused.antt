-- A refusal with the record that it is in, and its text.
use Rattle.std.specs.Prelude.{ℕ, cond, List, ◌++◌, Some, None, Ok, Err, codes, decimal, Option, Result, ◌==◌}
use Rattle.refusal.specs.declared.Refusal.{Refusal}
use Rattle.refusal.specs.Numbers.{refusal_text}
use Rattle.burstfile.specs.declared.refused.FileRefusal.{FileRefusal}

-- A refusal in record n, counted from 1; 0 is no record's number.
abbrev pub in_record : ℕ → Refusal → FileRefusal
in_record n f = record { «record» = cond (n == 0) None (Some n); refusal = f }

-- An answer whose refusal is in record n.
abbrev pub numbered : {X : Type 0} → ℕ → Result X Refusal → Result X FileRefusal
numbered n (Ok x) = Ok x
numbered n (Err f) = Err (in_record n f)

-- a refusal's text with its record, if it is in one
abbrev pub placed_text : Option ℕ → Refusal → List ℕ
placed_text None f = codes "refused " ++ refusal_text f
placed_text (Some n) f = codes "refused record " ++ (decimal n ++ (codes ": " ++ refusal_text f))

-- for instance "refused 16 at 1" and "refused record 5: 2 at 1"
abbrev pub refused_text : FileRefusal → List ℕ
refused_text f = placed_text f.«record» f.refusal
