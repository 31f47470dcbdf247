use Rattle.std.proofs.Common.{◌≡◌, ◌+◌, ◌*◌, ◌≤◌, ◌++◌, length}
use Rattle.std.specs.Slice.Iter.{chunks_exact_rest, chunks_exact_size}
use Rattle.arrayvec.specs.ArrayVec.{array_vec_len}
use Rattle.burstfile.specs.Reading.{signeds_of}
use Rattle.reading.proofs.telling.row.Given as goal

abbrev pub invariant-loop-bytes : goal.invariant-loop-bytes
invariant-loop-bytes l =
    (chunks_exact_size l.bytes-iterator ≡ 2)
    × (2 * array_vec_len l.values + length (chunks_exact_rest l.bytes-iterator) ≤ 16)
    × (l.values.items ++ signeds_of (chunks_exact_rest l.bytes-iterator) ≡ signeds_of l.priors)
