use Rattle.std.proofs.Common.{arith, rules}
use Rattle.comtrade_values.proofs.Appending.{appends_more, within_more}
use Rattle.comtrade_values.proofs.output.write_all_of.Goals as goal

pub loop-written-preserved : goal.loop-written-preserved
loop-written-preserved g c = record {
  within = within_more c.args.bytes.now c.loop-written.written c.in-Ok.n c.loop-written.invariant.within c.in-Ok.ensures.bound;
  bytes = appends_more _ _ _ c.args.bytes.now c.loop-written.written c.in-Ok.n c.loop-written.invariant.bytes c.in-Ok.ensures.bytes;
  none = λ e. absurd (omega arith);
}

pub returns-in-Err-clause-part : goal.returns-in-Err-clause-part
returns-in-Err-clause-part g c = search rules depth 1

pub returns-in-Ok-eq0-clause-all : goal.returns-in-Ok-eq0-clause-all
returns-in-Ok-eq0-clause-all g c = search rules depth 1
