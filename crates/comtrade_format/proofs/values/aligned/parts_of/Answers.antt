use Rattle.std.proofs.Common.{arith}
use Rattle.comtrade_format.proofs.ValueParts.{rest_fits}
use Rattle.comtrade_format.proofs.values.aligned.parts_of.Goals as goal

pub overflow_mul-after : goal.overflow_mul-after
overflow_mul-after c = record {
  fits = rest_fits c.args.n c.args.places _ _ _ (omega arith) c.quotient-before.ensures c.ten_to.ensures c.ten_to-2.ensures;
}
