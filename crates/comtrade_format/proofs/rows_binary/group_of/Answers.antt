use Rattle.std.proofs.Common.{◌-◌, length, arith, refl, sym, ◌∙◌, ap, get_or, false}
use Rattle.std.proofs.lemmas.List.{drop_all}
use Rattle.comtrade_format.specs.Binary.{bits_number}
use Rattle.comtrade_format.proofs.Bits.{bits_number-none, more_low, small_more}
use Rattle.comtrade_format.proofs.rows_binary.group_of.Goals as goal

pub loop-i-init : goal.loop-i-init
loop-i-init c =
    let bits = c.args.bits.now in
    record { so_far = sym (ap bits_number (drop_all (length bits - 0) bits (omega arith)) ∙ bits_number-none); small = omega arith }

pub loop-i-preserved : goal.loop-i-preserved
loop-i-preserved c =
    let bits = c.args.bits.now in
    let i = c.loop-i.i in record {
      so_far = more_low bits i c.loop-i.group _ c.loop-i-test.true c.loop-i.invariant.so_far refl;
      small = small_more (get_or bits (length bits - 1 - i) false) i c.loop-i.group c.loop-i.invariant.small;
    }
