use Rattle.std.proofs.Common.{◌≡◌, ℕ, zero, suc, ◌*◌, ◌<◌, ◌≤◌, Bool, false, eqb, length, ◌∙◌, subst, arith}
use Rattle.catalogue.specs.Modes.{catalogue_meaning}
use Rattle.catalogue.specs.declared.Catalogue.{Catalogue}
use Rattle.table.specs.declared.table.Table.{Table}
use Rattle.protocol.specs.Verdicts.{Verdict}
use Rattle.protocol.specs.Calls.{Call}
use Rattle.burst.specs.Public.{closed_kept, Called}
use Rattle.burstfile.specs.Reading.{signeds_of}
use Rattle.burstfile.proofs.Walks.{halves}
use Rattle.reading.proofs.Chunks.{chunks_past}
use Rattle.reading.proofs.Spreading.{in_chunks, told_turn, told_end}
use Rattle.reading.proofs.telling.tell_all.Goals as goal

-- a call over one constellation is one over its equal
moved : (c d : Catalogue) (a b : Table) (p : Call) (r : Verdict) → c ≡ d
    → Called (closed_kept (catalogue_meaning c) a) p r (closed_kept (catalogue_meaning c) b) → Called (closed_kept (catalogue_meaning d) a) p r (closed_kept (catalogue_meaning d) b)
moved c d a b p r e h = subst (λ (q : Catalogue). Called (closed_kept (catalogue_meaning q) a) p r (closed_kept (catalogue_meaning q) b)) e h

some_bytes : (n : ℕ) (b : Bool) → b ≡ eqb n 0 → b ≡ false → 0 < n
some_bytes zero b e f = cc
some_bytes (suc n) b e f = omega arith

pub loop-i-preserved : goal.loop-i-preserved
loop-i-preserved c =
    let b = c.args.burst.now in
    let bs = c.args.priors.now in
    let M = catalogue_meaning b.c in
    let k = closed_kept M b.table in
    let m = c.positions-m.result in
    let it = c.loop-i.i-iterator in
    let left = c.next.new.self.iter.rest.now in
    let x = c.in-Some.bytes.now in
    let st = c.in-Some.ensures.steps in
    let some = some_bytes (length bs) c.is_empty.result c.is_empty.ensures c.if-is_empty.false in
    let whole = in_chunks (length bs) (length k.symbols) m M.m (c.requires.sized some) c.positions-m.ensures in
    let P = moved c.loop-i.burst.c b.c c.loop-i.burst.table c.tell_symbol.new.burst.table _ c.tell_symbol.result c.loop-i.invariant.same c.tell_symbol.ensures.told in
    let t = told_turn k (closed_kept M c.loop-i.burst.table) (closed_kept M c.tell_symbol.new.burst.table) m it.count c.in-Some.i bs it.iter.rest.now x left c.tell_symbol.result
    c.loop-i.invariant.told c.positions-m.ensures c.requires.idle c.requires.ranged whole c.loop-i.invariant.rest (omega (arith, c.loop-i.invariant.size)) st.0.1.0 (st.0.1.1 ∙ c.loop-i.invariant.size) st.1 P in
    record {
      told = rw st.2 t.1;
      same = c.tell_symbol.ensures.same ∙ c.loop-i.invariant.same;
      size = st.0.0 ∙ c.loop-i.invariant.size;
      rest = rw st.2 t.2;
    }

pub returns-in_err-tell_symbol : goal.returns-in_err-tell_symbol
returns-in_err-tell_symbol c =
    let b = c.args.burst.now in
    let bs = c.args.priors.now in
    let M = catalogue_meaning b.c in
    let k = closed_kept M b.table in
    let m = c.positions-m.result in
    let it = c.loop-i.i-iterator in
    let left = c.next.new.self.iter.rest.now in
    let x = c.in-Some.bytes.now in
    let st = c.in-Some.ensures.steps in
    let some = some_bytes (length bs) c.is_empty.result c.is_empty.ensures c.if-is_empty.false in
    let whole = in_chunks (length bs) (length k.symbols) m M.m (c.requires.sized some) c.positions-m.ensures in
    let P = moved c.loop-i.burst.c b.c c.loop-i.burst.table c.tell_symbol.new.burst.table _ c.tell_symbol.result c.loop-i.invariant.same c.tell_symbol.ensures.told in
    let t = told_turn k (closed_kept M c.loop-i.burst.table) (closed_kept M c.tell_symbol.new.burst.table) m it.count c.in-Some.i bs it.iter.rest.now x left c.tell_symbol.result
    c.loop-i.invariant.told c.positions-m.ensures c.requires.idle c.requires.ranged whole c.loop-i.invariant.rest (omega (arith, c.loop-i.invariant.size)) st.0.1.0 (st.0.1.1 ∙ c.loop-i.invariant.size) st.1 P in
    cc (t.0, c.in_err-tell_symbol.was)

pub returns-clause-told : goal.returns-clause-told
returns-clause-told c =
    let b = c.args.burst.now in
    let bs = c.args.priors.now in
    let k = closed_kept (catalogue_meaning b.c) b.table in
    let m = c.positions-m.result in
    let it = c.loop-i.i-iterator in
    let some = some_bytes (length bs) c.is_empty.result c.is_empty.ensures c.if-is_empty.false in
    let h = halves bs in
    let whole = in_chunks (length bs) (length k.symbols) m (catalogue_meaning b.c).m (c.requires.sized some) c.positions-m.ensures in
    let short : length it.iter.rest.now < 2 * m = omega (arith, c.in-None.ensures.steps.0.1.0, c.loop-i.invariant.size) in
    let past : length k.symbols ≤ it.count = chunks_past (length k.symbols) (2 * m) it.count bs it.iter.rest.now whole c.loop-i.invariant.rest short in
    c.loop-i.invariant.told ∙ told_end k it.count (signeds_of bs) (omega (arith, c.requires.sized some, h.1)) past
