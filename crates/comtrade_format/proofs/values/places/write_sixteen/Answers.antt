use Rattle.std.proofs.Common.{◌≡◌, ℕ, ◌-◌, ◌+◌, ◌*◌, List, ◌++◌, length, take, drop, set, arith, rules, ap, ◌∙◌}
use Rattle.std.specs.Int.{bytes_low_first}
use Rattle.std.proofs.lemmas.List.{take_all}
use borrow.Rule.Slice.PartMut.{mid_of, post_of, put_mid}
use Rattle.comtrade_values.specs.Written.{padded}
use Rattle.comtrade_format.proofs.Places.{stored}
use Rattle.comtrade_format.proofs.ValuePlaces.{after_eight, point_stored, shown_last, written}
use Rattle.comtrade_format.proofs.values.places.write_sixteen.Goals as goal

pub returns : goal.returns
returns c =
    let slot = c.args.slot.now in
    let at = c.args.at in
    let high = c.requires.high in
    let low = c.requires.low in
    let first = point_stored 8 slot _ at c.eight_digits.result c.args.high (omega arith) (omega arith) c.eight_digits.ensures c.write_u64.ensures in
    let mid : List ℕ = put_mid (at + 1) (length (set slot at 46) - (at + 1)) (set slot at 46) c.write_u64.new.buf in
    let left = length mid - (at + 9) in
    let cs = bytes_low_first 0 8 c.eight_digits-2.result in
    let same : length mid ≡ length slot = search rules in
    let last : take (at + 9 + 8) (put_mid (at + 9) left mid c.write_u64-2.new.buf) ≡ take (at + 9) mid ++ padded 8 c.args.low =
    rw (c.write_u64-2.ensures)
    (stored mid cs (drop 8 (mid_of (at + 9) left mid)) (post_of (at + 9) left mid) (at + 9) 8 (omega (arith, same)) (omega arith)
    ∙ ap (λ (r : List ℕ). take (at + 9) mid ++ r) (take_all 8 cs (omega arith) ∙ c.eight_digits-2.ensures)) in
    written 16 (c.args.high * 100_000_000 + c.args.low) _ at _ slot _ (omega arith) (omega (arith, high, low)) (omega (arith, high, low)) (shown_last c.args.high c.args.low _ low c.requires.some c.shown_of_eight.ensures)
    (after_eight at c.args.high c.args.low slot mid _ high low first last) (λ h. absurd (omega (arith, h))) (λ _. omega arith)
