use Rattle.std.proofs.Common.{◌≡◌, ◌≤◌, ◌∙◌, ℕ, Option, ap, arith, w64, rules}
use Rattle.std.proofs.lemmas.Int.{to_z-of_z}
use Rattle.comtrade_format.specs.Times.{time_by, time_with}
use Rattle.comtrade_c.specs.Times.{border_in, time_in}
use Rattle.comtrade_c.proofs.Timed.{timed_more, all_timed}
use Rattle.comtrade_c.proofs.times.put_times.Goals.{then-k-eq0, else-k-eq0}
use Rattle.comtrade_c.proofs.times.put_times.Goals as goal

pub loop-k-preserved : goal.loop-k-preserved
loop-k-preserved g c =
    let k = c.loop-k.k in
    let taken = time_with (border_in c.args.head.now c.args.stamps.now) c.args.head.now in
    let stamp = c.stamp_of.result in
    let now : (later : ℕ) (given : Option ℕ) → k ≤ later → time_by c.if-k-eq0.clock later given ≡ taken later given =
    elim c.if-k-eq0.branch [
      | then-k-eq0 w ↦ λ later given below. ap (λ x. time_by x later given) w.clock-is ∙ w.at-clock.ensures later given below
          ∙ c.loop-k.invariant.same later given below
      | else-k-eq0 w ↦ λ later given below. ap (λ x. time_by x later given) w.clock-is ∙ c.loop-k.invariant.same later given below
    ] in
    let is : c.nanos.result ≡ taken k stamp = c.nanos.ensures ∙ now k stamp (omega arith) in
    record {
      laid = timed_more taken c.args.stamps.now c.loop-k.times c.args.times.now k _ (search rules) (search rules) c.loop-k.invariant.laid
          (to_z-of_z w64 c.time_in.result (search rules) ∙ c.time_in.ensures ∙ ap time_in (is ∙ ap (taken k) c.stamp_of.ensures));
      same = λ later given below. now later given (omega arith);
    }

pub returns : goal.returns
returns g c = all_timed (time_with (border_in c.args.head.now c.args.stamps.now) c.args.head.now) c.args.stamps.now c.loop-k.times c.args.times.now c.loop-k.k (omega arith) (search rules) c.loop-k.invariant.laid
