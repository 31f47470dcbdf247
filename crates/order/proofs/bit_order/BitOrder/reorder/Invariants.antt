use Rattle.std.proofs.Common.{◌≡◌, length, take}
use Rattle.constellation.specs.Ordered.{reorder}
use Rattle.order.proofs.bit_order.BitOrder.reorder.Given as goal

abbrev pub invariant-loop-p : goal.invariant-loop-p
invariant-loop-p l = l.r ≡ reorder (length l.self.list.now) (take l.p-index l.self.list.now) l.label
