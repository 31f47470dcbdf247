use Rattle.std.proofs.Common.{◌≡◌, ℕ, ◌*◌, ◌≤◌, length, take, ap, arith}
use Rattle.std.proofs.lemmas.List.{length-take-le}
use Rattle.catalogue.specs.Modes.{catalogue_meaning}
use Rattle.catalogue.specs.declared.Catalogue.{Catalogue}
use Rattle.burst.specs.Public.{closed_kept}
use Rattle.soft.proofs.Rows.{table_room}
use Rattle.burstfile.specs.Values.{read_spec}
use Rattle.reading.proofs.Judging.{apart}
use Rattle.reading.proofs.Sheeting.{turn_given, turn-withdrawn, demapped}
use Rattle.reading.proofs.sheets.demap.Goals as goal

-- a sheet of n symbols of m positions
room : (n m a b : ℕ) → n ≡ a → m ≡ b → a ≤ 128 → b ≤ 8 → n * m ≤ 1024
room n m a b p q few wide = table_room n m (omega arith) (omega arith)

pub returns : goal.returns
returns c =
    let b = c.in_ok-burst.burst in
    let H = c.in_ok-burst.ensures in
    let n = c.symbols-symbols.result in
    let m = c.positions-m.result in
    let xs = c.args.sheet.now in
    let r = room n m _ _ c.symbols-symbols.ensures c.positions-m.ensures H.1 H.2 in
    let len : length (take (n * m) xs) ≡ n * m = length-take-le (n * m) xs (omega (arith, c.told-sheet)) in
    let k = closed_kept (catalogue_meaning b.c) b.table in
    let k' = closed_kept (catalogue_meaning b.c) c.take.new.self.table in
    demapped k k' n m (take (n * m) xs) c.take.new.sheet c.take.result c.symbols-symbols.ensures c.positions-m.ensures len c.take.ensures.taken (read_spec c.args.bytes.now) H.0 xs

pub returns-in_err-turn : goal.returns-in_err-turn
returns-in_err-turn c =
    let b = c.in_ok-burst.burst in
    let H = c.in_ok-burst.ensures in
    let n = c.symbols-symbols.result in
    let m = c.positions-m.result in
    let xs = c.args.sheet.now in
    let r = room n m _ _ c.symbols-symbols.ensures c.positions-m.ensures H.1 H.2 in
    let len : length (take (n * m) xs) ≡ n * m = length-take-le (n * m) xs (omega (arith, c.told-sheet)) in
    let k = closed_kept (catalogue_meaning b.c) b.table in
    let k' = closed_kept (catalogue_meaning b.c) c.take.new.self.table in
    absurd (apart c.take.result _ c.in_err-turn.field-0.0
    (turn_given k k' n m (take (n * m) xs) c.take.new.sheet c.take.result c.symbols-symbols.ensures c.positions-m.ensures len c.take.ensures.taken (read_spec c.args.bytes.now) H.0)
    c.in_err-turn.was)

pub returns-in_err-withdraw : goal.returns-in_err-withdraw
returns-in_err-withdraw c =
    let b = c.in_ok-burst.burst in
    let H = c.in_ok-burst.ensures in
    let n = c.symbols-symbols.result in
    let m = c.positions-m.result in
    let xs = c.args.sheet.now in
    let r = room n m _ _ c.symbols-symbols.ensures c.positions-m.ensures H.1 H.2 in
    let len : length (take (n * m) xs) ≡ n * m = length-take-le (n * m) xs (omega (arith, c.told-sheet)) in
    let k = closed_kept (catalogue_meaning b.c) b.table in
    let t = c.take.new.self in
    let k' = closed_kept (catalogue_meaning b.c) t.table in
    absurd (apart c.withdraw.result tt c.in_err-withdraw.field-0.0
    (turn-withdrawn k k' n m (take (n * m) xs) c.take.new.sheet c.take.result c.symbols-symbols.ensures c.positions-m.ensures len c.take.ensures.taken (read_spec c.args.bytes.now) H.0
    c.in_ok-turn.turn (closed_kept (catalogue_meaning t.c) t.table) c.withdraw.result c.in_ok-turn.was
    (ap (λ (q : Catalogue). closed_kept (catalogue_meaning q) t.table) c.take.ensures.same) c.withdraw.ensures.withdrawn.reply)
    c.in_err-withdraw.was)
