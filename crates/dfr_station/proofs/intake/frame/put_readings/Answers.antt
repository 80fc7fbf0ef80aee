use Rattle.std.proofs.Common.{◌≡◌, ℕ, ◌-◌, ◌*◌, length, take, drop, refl, arith, length-drop}
use Rattle.std.proofs.lemmas.Grind.{common_steps}
use Rattle.std.proofs.lemmas.List.{take_all}
use Rattle.std.proofs.lemmas.List.FromFn.{map-range_with_len_more}
use Rattle.dfr_station.specs.Frames.{sample_at}
use Rattle.dfr_station.proofs.intake.frame.put_readings.Goals as goal

pub loop-i-preserved : goal.loop-i-preserved
loop-i-preserved g c =
    let bytes = c.args.frame.now in
    let n = 2 * c.loop-i.i in
    let e = map-range_with_len_more (λ (i : ℕ). sample_at c.args.lowest (drop (2 * i) bytes)) 0 c.loop-i.i c.loop-i.i (omega arith) in
    let t : take (length bytes - n) (drop n bytes) ≡ drop n bytes = take_all (length bytes - n) (drop n bytes) (omega (arith, length-drop n bytes)) in
    record {
      items = rw (c.push_reserved.ensures.items, e, c.loop-i.invariant.items, c.reading_of.ensures, t) refl;
      len = grind (arith, common_steps);
      room = grind (arith, common_steps);
    }
