use Rattle.std.proofs.Common.{◌≡◌, ◌<◌, ◌≤◌, ◌^◌, length, get_or, sym, subst, arith, List, ℕ}
use Rattle.std.specs.Fmt.{decimal}
use Rattle.std.proofs.lemmas.Fmt.{decimal_nonempty, digits_decimal, digits_value-decimal}
use Rattle.dfr_folder.proofs.SeenLemmas.{true_false}
use Rattle.dfr_folder.proofs.TextLemmas.{own, reads_digits, of_digits, decimal_is, decimal_first, decimal_length}
use Rattle.dfr_folder.proofs.text.number_in.Goals as goal

pub returns-then-not-is_plain-clause-reads : goal.returns-then-not-is_plain-clause-reads
returns-then-not-is_plain-clause-reads c = λ n few is.
    let small : n < 2 ^ 64 = omega (arith, few) in
    let text = c.args.text.now in
    let some : 0 < length text = rw is (decimal_nonempty n small) in
    let short = subst (λ (ds : List ℕ). length ds ≤ 19) (sym is) (decimal_length n few) in
    let first = subst (λ (ds : List ℕ). get_or ds 0 0 ≡ 48 → length ds ≡ 1) (sym is) (decimal_first n small) in
    absurd (true_false c.if-not-is_plain.true (c.is_plain.ensures.all some short first))

pub returns-clause-spelled : goal.returns-clause-spelled
returns-clause-spelled c =
    let plain = c.is_plain.ensures in
    let yes = c.if-not-is_plain.false in
    of_digits c.args.text.now c.short_number.result (λ n. c.args.text.now ≡ decimal n) c.short_number.ensures.value
    (λ digits. decimal_is c.args.text.now digits (plain.some yes) (plain.first yes) (plain.few yes))

pub returns-clause-reads : goal.returns-clause-reads
returns-clause-reads c = λ n few is.
    let small : n < 2 ^ 64 = omega (arith, few) in
    reads_digits c.args.text.now n c.short_number.result c.short_number.ensures.value (rw is (digits_decimal own n small)) (rw is (digits_value-decimal own n small))
