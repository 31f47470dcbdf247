-- The sections as the code cuts them: `rest` of a slice pattern is `take (length bs - k) (drop k bs)`.
use Rattle.std.proofs.Common.{◌≡◌, ℕ, ◌+◌, ◌-◌, ◌*◌, ◌≤◌, true, eqb, List, [], ◌∷◌, length, get_or, take, drop, None, Ok, Option, ap, ◌∙◌, arith}
use Rattle.std.proofs.lemmas.List.{take_rest}
use Rattle.std.proofs.lemmas.Bool.{le-leb, eqb-true}
use Rattle.burstfile.specs.Reading.{Layout, cut, cut_antennas, cut_vectors, cut_priors, records_size, unless_broken, broken_settings, broken_antennas, broken_priors, priors_allowed}
use Rattle.burstfile.proofs.Options.{cond_none}

abbrev pub rest : ℕ → List ℕ → List ℕ
rest k bs = take (length bs - k) (drop k bs)

pub go_settings : (bs : List ℕ) → 3 ≤ length bs → broken_settings (get_or bs 0 0) (get_or bs 1 0) ≡ None
    → 1 ≤ length (drop 3 bs) → broken_antennas (get_or (drop 3 bs) 0 0) ≡ None
    → cut bs ≡ cut_vectors (length bs) (get_or bs 1 0) (get_or bs 2 0) (get_or (drop 3 bs) 0 0) (drop 1 (drop 3 bs))
go_settings [] l3 settings l1 antennas = absurd (omega arith)
go_settings (a ∷ []) l3 settings l1 antennas = absurd (omega arith)
go_settings (a ∷ b ∷ []) l3 settings l1 antennas = absurd (omega arith)
go_settings (a ∷ b ∷ c ∷ []) l3 settings l1 antennas = absurd (omega arith)
go_settings (a ∷ b ∷ c ∷ d ∷ bs) l3 settings l1 antennas =
    ap (λ (o : Option ℕ). unless_broken o (cut_antennas (length (a ∷ b ∷ c ∷ d ∷ bs)) b c (d ∷ bs))) settings
    ∙ ap (λ (o : Option ℕ). unless_broken o (cut_vectors (length (a ∷ b ∷ c ∷ d ∷ bs)) b c d bs)) antennas

pub settings_step : (mode : ℕ) (bs : List ℕ) → mode ≡ get_or bs 1 0 → 3 ≤ length bs → broken_settings (get_or bs 0 0) (get_or bs 1 0) ≡ None
    → 1 ≤ length (rest 3 bs) → broken_antennas (get_or (rest 3 bs) 0 0) ≡ None
    → cut bs ≡ cut_vectors (length bs) mode (get_or bs 2 0) (get_or (rest 3 bs) 0 0) (rest 1 (rest 3 bs))
settings_step mode bs e = rw e (simp take_rest (go_settings bs))

-- a count in two bytes
abbrev pub counted : List ℕ → ℕ
counted bs = get_or bs 0 0 * 256 + get_or bs 1 0

pub go_records : (total mode shift antennas n : ℕ) (bs : List ℕ) → 2 ≤ length bs → n ≡ counted bs → records_size mode antennas n ≤ length (drop 2 bs)
    → cut_vectors total mode shift antennas bs ≡ cut_priors total mode shift antennas n (take (records_size mode antennas n) (drop 2 bs)) (drop (records_size mode antennas n) (drop 2 bs))
go_records total mode shift antennas n [] l2 e fits = absurd (omega arith)
go_records total mode shift antennas n (a ∷ []) l2 e fits = absurd (omega arith)
go_records total mode shift antennas n (a ∷ b ∷ bs) l2 e fits = rw (← e, le-leb (records_size mode antennas n) (length bs) fits)

pub records_step : (total mode shift antennas n : ℕ) (bs : List ℕ) → 2 ≤ length bs → n ≡ counted bs → records_size mode antennas n ≤ length (rest 2 bs)
    → cut_vectors total mode shift antennas bs ≡ cut_priors total mode shift antennas n (take (records_size mode antennas n) (rest 2 bs)) (drop (records_size mode antennas n) (rest 2 bs))
records_step total mode shift antennas n bs = simp take_rest (go_records total mode shift antennas n bs)

pub priors_hold : (mode n size k left : ℕ) → broken_priors mode n size k left ≡ None → (priors_allowed mode n k ≡ true) × (left ≡ 2 * k)
priors_hold mode n size k left e =
    let p = cond_none (priors_allowed mode n k) _ _ e in
    let q = cond_none (eqb left (2 * k)) _ _ p.1 in
    (p.0, eqb-true left (2 * k) q.0)

pub go_priors : (total mode shift antennas n k : ℕ) (records bs : List ℕ) → 2 ≤ length bs → k ≡ counted bs
    → broken_priors mode n (length records) k (length (drop 2 bs)) ≡ None
    → cut_priors total mode shift antennas n records bs ≡ Ok (record { mode = mode; shift = shift; antennas = antennas; count = n; records = records; priors = drop 2 bs })
go_priors total mode shift antennas n k records [] l2 e rule = absurd (omega arith)
go_priors total mode shift antennas n k records (a ∷ []) l2 e rule = absurd (omega arith)
go_priors total mode shift antennas n k records (a ∷ b ∷ bs) l2 e rule =
    let ends : length bs ≡ 2 * k = (priors_hold mode n (length records) k (length bs) rule).1 in
    let l : Layout = record { mode = mode; shift = shift; antennas = antennas; count = n; records = records; priors = bs } in
    rw (← e, le-leb (2 * k) (length bs) (omega arith)) (ap (λ (o : Option ℕ). unless_broken o (Ok l)) rule)

pub priors_step : (total mode shift antennas n k : ℕ) (records bs : List ℕ) → 2 ≤ length bs → k ≡ counted bs
    → broken_priors mode n (length records) k (length (rest 2 bs)) ≡ None
    → cut_priors total mode shift antennas n records bs ≡ Ok (record { mode = mode; shift = shift; antennas = antennas; count = n; records = records; priors = rest 2 bs })
priors_step total mode shift antennas n k records bs = simp take_rest (go_priors total mode shift antennas n k records bs)
