use Rattle.std.proofs.Common.{◌≡◌, ℕ, ◌+◌, ◌*◌, ◌<◌, ◌≤◌, leb, length, Some, Ok, Option, sym, refl, ap, ◌∙◌, subst, arith, zero-mul}
use Rattle.std.proofs.lemmas.Result.{err_from_is_err_and}
use Rattle.catalogue.specs.Modes.{catalogue_meaning}
use Rattle.catalogue.specs.declared.Catalogue.{Catalogue}
use Rattle.draft.specs.declared.draft.Draft.{Draft}
use Rattle.metric.specs.Exhaustive.{Symbol}
use Rattle.protocol.specs.Verdicts.{Verdict}
use Rattle.protocol.specs.Placings.{Placing, opened}
use Rattle.protocol.specs.Stands.{StandsOpen}
use Rattle.burst.specs.Public.{open_kept, PlacedBy}
use Rattle.burstfile.specs.declared.refused.FileRefusal.{FileRefusal}
use Rattle.burstfile.specs.Refused.{numbered}
use Rattle.burstfile.specs.Format.{symbols_of}
use Rattle.burstfile.specs.Reading.{laid, size_of, contents_of, shown}
use Rattle.burstfile.specs.Values.{or_else, numbered_fault, priors_fault, values_fault}
use Rattle.burstfile.proofs.Numbered.{numbered_ok, numbered_err}
use Rattle.reading.specs.Held.{placing_of, placed_all}
use Rattle.reading.proofs.Chunks.{chunks_past, chunk_within}
use Rattle.reading.proofs.Walking.{along_start, record_turn, along_end, shift_passed}
use Rattle.reading.proofs.placing.place_all.Goals as goal

-- a placing over one constellation is one over its equal
moved : (c d : Catalogue) (a b : Draft) (p : Placing) (r : Verdict) → c ≡ d
    → PlacedBy (open_kept (catalogue_meaning c) a) p r (open_kept (catalogue_meaning c) b) → PlacedBy (open_kept (catalogue_meaning d) a) p r (open_kept (catalogue_meaning d) b)
moved c d a b p r e h = subst (λ (q : Catalogue). PlacedBy (open_kept (catalogue_meaning q) a) p r (open_kept (catalogue_meaning q) b)) e h

pub number_of-requires : goal.number_of-requires
number_of-requires c =
    let l = laid c.args.file in
    let b = c.in_ok-burst.burst in
    let it = c.loop-i.i-iterator in
    let st = c.in-Some.ensures.steps in
    let lt : it.count < l.count = chunk_within l.count (size_of l) it.count l.records it.iter.rest.now c.requires.whole.records
    (rw c.record_size-size.ensures at c.loop-i.invariant.rest) c.in-Some.bytes.now c.next.new.self.iter.rest.now (omega arith) st.0.1.0 (st.0.1.1 ∙ (c.loop-i.invariant.size ∙ c.record_size-size.ensures)) in
    omega (arith, st.1, c.requires.shape.count, c.requires.whole.vectors)

pub loop-i-init : goal.loop-i-init
loop-i-init c =
    let b = c.in_ok-burst.burst in
    let f = c.args.file in
    let o = c.in_ok-burst.ensures in
    let s : StandsOpen (open_kept (catalogue_meaning b.c) b.draft) (opened (catalogue_meaning b.c) c.args.number f.settings.shift)
    = subst (λ (q : Catalogue). StandsOpen (open_kept (catalogue_meaning q) b.draft) (opened {X = Symbol} (catalogue_meaning q) c.args.number f.settings.shift)) (sym o.1) o.2 in
    let e : c.into_iter-i-iterator.result.count ≡ 0 = cc (c.into_iter-i-iterator.ensures.into_iter_gives, c.enumerate-i-items.ensures.count) in
    let src : c.into_iter-i-iterator.result.iter ≡ c.chunks_exact.result = cc (c.into_iter-i-iterator.ensures.into_iter_gives, c.enumerate-i-items.ensures.source) in
    record {
      few = omega (arith, e);
      along = rw e (along_start (contents_of (laid f)) (catalogue_meaning b.c) c.args.number f.settings.shift (open_kept (catalogue_meaning b.c) b.draft) s);
      same = refl;
      size = cc (src, c.chunks_exact.ensures.size);
      rest = rw (e, src, zero-mul) c.chunks_exact.ensures.rest;
    }

pub loop-i-preserved : goal.loop-i-preserved
loop-i-preserved c =
    let l = laid c.args.file in
    let b = c.in_ok-burst.burst in
    let o = opened (catalogue_meaning b.c) c.args.number l.shift in
    let it = c.loop-i.i-iterator in
    let left = c.next.new.self.iter.rest.now in
    let x = c.in-Some.bytes.now in
    let st = c.in-Some.ensures.steps in
    let v = shown c.record_view-record.result in
    let r = c.place_record.result in
    let k = open_kept (catalogue_meaning b.c) c.loop-i.burst.draft in
    let k' = open_kept (catalogue_meaning b.c) c.place_record.new.burst.draft in
    let P = moved c.loop-i.burst.c b.c c.loop-i.burst.draft c.place_record.new.burst.draft (placing_of l.mode v) r c.loop-i.invariant.same c.place_record.ensures.placed in
    let t = record_turn l c.requires.shape o c.record_size-size.result it.count c.in-Some.i k k' it.iter.rest.now x left v r
    c.record_size-size.ensures c.requires.whole.records c.loop-i.invariant.rest st.0.1.0 (st.0.1.1 ∙ c.loop-i.invariant.size) st.1 c.record_view-record.ensures.entry c.loop-i.invariant.along P in
    let said : c.in_record.result ≡ numbered (c.in-Some.i + 1) r = c.in_record.ensures ∙ ap (λ (n : ℕ). numbered n r) c.number_of.ensures in
    let ok : r ≡ Ok tt = numbered_ok (c.in-Some.i + 1) r c.in_record.result c.in_ok-in_record.field-0 said c.in_ok-in_record.was in
    record {
      along = rw st.2 (t.2 ok);
      few = omega (arith, st.2, t.0);
      same = c.place_record.ensures.same ∙ c.loop-i.invariant.same;
      size = st.0.0 ∙ c.loop-i.invariant.size;
      rest = rw st.2 t.1;
    }

pub returns-in_err-in_record : goal.returns-in_err-in_record
returns-in_err-in_record c =
    let l = laid c.args.file in
    let C = contents_of l in
    let b = c.in_ok-burst.burst in
    let o = opened (catalogue_meaning b.c) c.args.number l.shift in
    let it = c.loop-i.i-iterator in
    let left = c.next.new.self.iter.rest.now in
    let x = c.in-Some.bytes.now in
    let st = c.in-Some.ensures.steps in
    let v = shown c.record_view-record.result in
    let r = c.place_record.result in
    let k = open_kept (catalogue_meaning b.c) c.loop-i.burst.draft in
    let k' = open_kept (catalogue_meaning b.c) c.place_record.new.burst.draft in
    let P = moved c.loop-i.burst.c b.c c.loop-i.burst.draft c.place_record.new.burst.draft (placing_of l.mode v) r c.loop-i.invariant.same c.place_record.ensures.placed in
    let said : c.in_record.result ≡ numbered (c.in-Some.i + 1) r = c.in_record.ensures ∙ ap (λ (n : ℕ). numbered n r) c.number_of.ensures in
    let e = numbered_err (c.in-Some.i + 1) r c.in_record.result c.in_err-in_record.field-0.0 said c.in_err-in_record.was in
    let t = record_turn l c.requires.shape o c.record_size-size.result it.count c.in-Some.i k k' it.iter.rest.now x left v r
    c.record_size-size.ensures c.requires.whole.records c.loop-i.invariant.rest st.0.1.0 (st.0.1.1 ∙ c.loop-i.invariant.size) st.1 c.record_view-record.ensures.entry c.loop-i.invariant.along P in
    let fault : values_fault C ≡ Some c.in_err-in_record.field-0.0
    = shift_passed (leb C.shift 40) _ _ c.in_ok-burst.ensures.0
    ∙ (ap (λ (q : Option FileRefusal). or_else q (numbered_fault 0 (priors_fault 1 C.priors))) (t.3 e.0 e.2) ∙ ap (λ (x : FileRefusal). Some x) (sym e.1)) in
    let p = err_from_is_err_and c.from_residual-in_err-in_record.result c.from_residual-in_err-in_record.ensures.1 in
    rw (p.1, p.2) fault

pub returns : goal.returns
returns c =
    let f = c.args.file in
    let C = contents_of (laid f) in
    let b = c.in_ok-burst.burst in
    let d = c.loop-i.burst.draft in
    let o = c.in_ok-burst.ensures in
    let size = c.record_size-size.result in
    let it = c.loop-i.i-iterator in
    let st = c.in-None.ensures.steps in
    let whole : length f.records.now ≡ f.count * size = c.requires.whole.records ∙ ap (λ (s : ℕ). f.count * s) (sym c.record_size-size.ensures) in
    let short : length it.iter.rest.now < size = omega (arith, st.0.1.0, c.loop-i.invariant.size) in
    let past : f.count ≤ it.count = chunks_past f.count size it.count f.records.now it.iter.rest.now whole c.loop-i.invariant.rest short in
    let e = along_end C (opened (catalogue_meaning b.c) c.args.number f.settings.shift) it.count (open_kept (catalogue_meaning b.c) d) c.loop-i.invariant.along (omega (arith, c.requires.whole.vectors, past)) in
    record {
      same = c.loop-i.invariant.same ∙ o.1;
      stands = subst (λ (q : Catalogue). StandsOpen (open_kept (catalogue_meaning q) d) (placed_all C.mode (opened (catalogue_meaning q) c.args.number C.shift) C.vectors)) o.1 e.0;
      count = subst (λ (q : Catalogue). length (placed_all C.mode (opened (catalogue_meaning q) c.args.number C.shift) C.vectors).symbols ≡ symbols_of C.mode (length C.vectors)) o.1 e.1;
      fault = shift_passed (leb C.shift 40) _ _ o.0 ∙ ap (λ (q : Option FileRefusal). or_else q (numbered_fault 0 (priors_fault 1 C.priors))) e.2;
    }
