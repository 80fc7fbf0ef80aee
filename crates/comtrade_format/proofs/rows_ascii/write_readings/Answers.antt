use Rattle.std.proofs.Common.{◌∷◌, arith, pos}
use Rattle.dfr_channels.specs.declared.scan.Reading.{Reading}
use Rattle.dfr_channels.specs.declared.scan.Reading.TheVariants.{Value}
use Rattle.comtrade_format.specs.Ascii.{reading_text}
use Rattle.comtrade_format.specs.Refusals.{ascii_bounds, takes_reading}
use Rattle.comtrade_format.proofs.Numbered.{all_at}
use Rattle.comtrade_format.proofs.Places.{more_at}
use Rattle.comtrade_format.proofs.rows_ascii.write_readings.Goals as goal

pub write_reading-at-requires : goal.write_reading-at-requires
write_reading-at-requires c =
    let len = c.loop-i.auto.slot in
    record {
      taken = all_at (takes_reading ascii_bounds) c.args.readings.now c.loop-i.i _ (omega arith) c.requires.taken;
      room = omega arith;
    }

pub loop-i-preserved : goal.loop-i-preserved
loop-i-preserved c = record {
  text = more_at (λ (v : Reading). 44 ∷ reading_text v) c.args.readings.now c.loop-i.i (Value (pos 0)) _ _ (omega arith) c.loop-i.invariant.text c.write_reading-at.ensures.text;
  longest = omega arith;
}
