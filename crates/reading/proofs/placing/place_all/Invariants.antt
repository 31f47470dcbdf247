use Rattle.std.proofs.Common.{◌≡◌, ◌*◌, ◌≤◌, drop}
use Rattle.std.specs.Iterator.Adapters.{enumerate_source, enumerate_count}
use Rattle.std.specs.Slice.Iter.{chunks_exact_rest, chunks_exact_size}
use Rattle.catalogue.specs.Modes.{catalogue_meaning}
use Rattle.protocol.specs.Placings.{opened}
use Rattle.burst.specs.Public.{open_kept}
use Rattle.burstfile.specs.Reading.{laid, contents_of}
use Rattle.reading.proofs.Walking.{Along}
use Rattle.reading.proofs.placing.place_all.Given as goal

abbrev pub invariant-loop-i : goal.invariant-loop-i
invariant-loop-i l = record {
  along : Along (contents_of (laid l.file)) (opened (catalogue_meaning l.initial.burst.c) l.number l.file.settings.shift) (enumerate_count l.i-iterator) (open_kept (catalogue_meaning l.initial.burst.c) l.burst.draft);
  few : enumerate_count l.i-iterator ≤ l.file.count;
  same : l.burst.c ≡ l.initial.burst.c;
  size : chunks_exact_size (enumerate_source l.i-iterator) ≡ l.size;
  rest : chunks_exact_rest (enumerate_source l.i-iterator) ≡ drop (enumerate_count l.i-iterator * l.size) l.file.records.now;
}
