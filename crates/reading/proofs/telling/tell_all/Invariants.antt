use Rattle.std.proofs.Common.{◌≡◌, ◌*◌, drop}
use Rattle.std.specs.Iterator.Adapters.{enumerate_source, enumerate_count}
use Rattle.std.specs.Slice.Iter.{chunks_exact_rest, chunks_exact_size}
use Rattle.catalogue.specs.Modes.{catalogue_meaning}
use Rattle.burst.specs.Public.{closed_kept}
use Rattle.burstfile.specs.Reading.{signeds_of}
use Rattle.reading.proofs.Spreading.{told_to}
use Rattle.reading.proofs.telling.tell_all.Given as goal

abbrev pub invariant-loop-i : goal.invariant-loop-i
invariant-loop-i l = record {
  told : closed_kept (catalogue_meaning l.initial.burst.c) l.burst.table ≡ told_to (enumerate_count l.i-iterator) (closed_kept (catalogue_meaning l.initial.burst.c) l.initial.burst.table) (signeds_of l.priors);
  same : l.burst.c ≡ l.initial.burst.c;
  size : chunks_exact_size (enumerate_source l.i-iterator) ≡ 2 * l.m;
  rest : chunks_exact_rest (enumerate_source l.i-iterator) ≡ drop (enumerate_count l.i-iterator * (2 * l.m)) l.priors;
}
