use Rattle.std.proofs.Common.{◌≡◌, pos, ℤ, ◌+◌, slice_get, get_or, Some, false, refl, sym, ap, ◌∙◌, subst, rules}
use Rattle.std.specs.Float.{◌<ᶠ◌, float_with_sign}
use Rattle.std.proofs.lemmas.Option.{slice_get-get_or}
use Rattle.comtrade_format.specs.Floats.{scaled}
use Rattle.comtrade_analysis.specs.Peaks.{size_of, IsPeakWithin}
use Rattle.comtrade_analysis.proofs.MorePeaks.{is_less, is_no_less, first_peak, same_peak, new_peak}
use Rattle.comtrade_analysis.proofs.samples.peak_of.Goals as goal
use Rattle.comtrade_analysis.proofs.samples.peak_of.Goals.{then-abs, else-abs}

pub loop-index-init : goal.loop-index-init
loop-index-init c =
    let xs = c.args.samples.now in
    let y : ℤ = get_or xs 0 (pos 0) in
    let at : slice_get xs 0 ≡ Some y = slice_get-get_or xs 0 (pos 0) c.requires in
    first_peak c.args.scale xs (record { value = c.value_at.result; index = 0 }) y at refl (c.value_at.ensures y at)

pub loop-index-preserved : goal.loop-index-preserved
loop-index-preserved c =
    let s = c.args.scale in
    let xs = c.args.samples.now in
    let n = c.loop-index.index in
    let y : ℤ = get_or xs n (pos 0) in
    let at : slice_get xs n ≡ Some y = slice_get-get_or xs n (pos 0) (search rules) in
    let value : c.value_at-value.result ≡ scaled s y = c.value_at-value.ensures y at in
    let size : c.abs-in-loop-index.result ≡ size_of s y = c.abs-in-loop-index.ensures.value ∙ ap (float_with_sign false) value in
    let old = c.loop-index.peak in
    elim c.if-abs.branch [
      | then-abs w ↦
          let more : float_with_sign false old.value <ᶠ size_of s y =
          is_less c.abs.result c.abs-in-loop-index.result (float_with_sign false old.value) (size_of s y) w.if-abs.true c.abs.ensures.value size in
          subst (IsPeakWithin s xs (n + 1)) (sym w.peak-is)
          (new_peak s xs n old y c.loop-index.invariant at more (record { value = c.value_at-value.result; index = n }) refl value)
      | else-abs w ↦
          let less : ¬ (float_with_sign false old.value <ᶠ size_of s y) =
          is_no_less c.abs.result c.abs-in-loop-index.result (float_with_sign false old.value) (size_of s y) w.if-abs.false c.abs.ensures.value size in
          subst (IsPeakWithin s xs (n + 1)) (sym w.peak-is) (same_peak s xs n old y c.loop-index.invariant at less)
    ]
