use Rattle.std.proofs.Common.{◌≡◌, ◌+◌, ◌*◌, ◌≤◌, ◌++◌, length}
use Rattle.std.specs.Slice.Iter.{chunks_exact_rest, chunks_exact_size}
use Rattle.arrayvec.specs.ArrayVec.{array_vec_len}
use Rattle.burstfile.specs.Reading.{pairs_of}
use Rattle.reading.specs.Held.{samples_of}
use Rattle.reading.proofs.placing.samples.Given as goal

abbrev pub invariant-loop-bytes : goal.invariant-loop-bytes
invariant-loop-bytes l =
    (chunks_exact_size l.bytes-iterator ≡ 4)
    × (4 * array_vec_len l.samples + length (chunks_exact_rest l.bytes-iterator) ≤ 16)
    × (l.samples.items ++ samples_of (pairs_of (chunks_exact_rest l.bytes-iterator)) ≡ samples_of (pairs_of l.pairs))
