use Rattle.std.proofs.Common.{◌≡◌, ℕ, ◌+◌, ◌<◌, sym, ap, ◌∙◌, arith, below_more}
use Rattle.comtrade_views.specs.Stretches.{ends_at, Begins}
use Rattle.comtrade_views.proofs.cycles.window.last_stretch.Goals as goal

pub loop-i-init : goal.loop-i-init
loop-i-init c = record {
  before = λ k few. absurd (omega arith);
  order = omega arith;
  begins = record { first = λ same. omega arith; later = λ k same. absurd (omega arith) };
}

pub loop-i-preserved : goal.loop-i-preserved
loop-i-preserved c =
    let rates = c.args.rates.now in
    let i = c.loop-i.i in record {
      before = below_more (λ (k : ℕ). ends_at rates k < c.args.rows) i c.loop-i.invariant.before (omega (arith, c.end_of-to.ensures, c.if-rows-to.false));
      order = omega (arith, c.if-rows-to.false);
      begins = record {
        first = λ same. absurd (omega arith);
        later = λ k same. let at : i ≡ k = omega arith in c.end_of-to.ensures ∙ ap (ends_at rates) at;
      };
    }

pub returns-then-rows-to-clause-found : goal.returns-then-rows-to-clause-found
returns-then-rows-to-clause-found c = record {
  within = omega arith;
  reaches = omega (arith, c.end_of-to.ensures, c.if-rows-to.true);
  first = c.loop-i.invariant.before;
  begins = c.loop-i.invariant.begins;
}
