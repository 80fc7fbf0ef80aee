use Rattle.std.proofs.Common.{◌≡◌, length, ◌∙◌, ap, arith, List, ℕ}
use Rattle.comtrade_values.specs.Written.{padded}
use Rattle.dfr_folder.proofs.TextLemmas.{few_digits, reads_digits, of_digits, padded_is, padded_digits, padded_length, padded_value}
use Rattle.dfr_folder.proofs.text.padded_in.Goals as goal

pub returns-then-text-width-clause-reads : goal.returns-then-text-width-clause-reads
returns-then-text-width-clause-reads c = λ n small is.
    let len = padded_length c.args.width n c.requires.some small (few_digits n c.args.width c.requires.few small) in
    let same : length c.args.text.now ≡ c.args.width = ap (λ (ds : List ℕ). length ds) is ∙ len in
    absurd (c.if-text-width.true same)

pub returns-clause-spelled : goal.returns-clause-spelled
returns-clause-spelled c =
    let w = c.args.width in
    of_digits c.args.text.now c.short_number.result (λ n. c.args.text.now ≡ padded w n) c.short_number.ensures.value
    (λ digits. padded_is w c.args.text.now digits (omega (arith, c.if-text-width.false)) c.requires.some (omega (arith, c.requires.few)))

pub returns-clause-reads : goal.returns-clause-reads
returns-clause-reads c = λ n small is.
    let w = c.args.width in
    let low = few_digits n w c.requires.few small in
    reads_digits c.args.text.now n c.short_number.result c.short_number.ensures.value (rw is (padded_digits w n low)) (rw is (padded_value w n low))
