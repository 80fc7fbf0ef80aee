use Rattle.std.proofs.Common.{◌≡◌, ℤ, pos, ◌<◌, ◌^◌, SomeIff, to_z, subst, arith}
use Rattle.std.specs.Int.{w128}
use Rattle.std.proofs.lemmas.Int.{to_z_pos}
use Rattle.comtrade_values.specs.Spelling.{IsNumber}
use Rattle.comtrade_analysis.specs.Roots.{IsRootOf}
use Rattle.comtrade_analysis.proofs.Floors.{digits_fit, root_of, small_root, small_number, made}
use Rattle.comtrade_analysis.proofs.mean_square.MeanSquare.root.Goals as goal

pub square-requires : goal.square-requires
square-requires c = record {
  room = digits_fit c.args.digits c.hundreds.result c.args.self.count (omega arith) (omega arith) c.hundreds.ensures (omega arith);
}

pub returns : goal.returns
returns c =
    let mean = c.args.self in
    let digits = c.args.digits in
    let square = c.in_ok-square.square in
    let is = c.in_ok-square.ensures in
    let root = c.isqrt.result in
    let of = c.isqrt.ensures in
    let small : root < 2 ^ 64 = small_root root square.value of.square_le (omega arith) in
    let same : to_z w128 root ≡ pos root = to_z_pos w128 root (omega arith) in
    let new : SomeIff c.new.result (IsNumber (record { units = pos root; places = square.places })) (record { units = pos root; places = square.places }) =
    subst (λ (z : ℤ). SomeIff c.new.result (IsNumber (record { units = z; places = square.places })) (record { units = z; places = square.places })) same c.new.ensures in
    made (IsRootOf mean digits) (record { units = pos root; places = square.places }) c.new.result new (small_number root square.places small (omega arith))
    (root_of mean digits square.places square.value root c.hundreds.result (omega arith) c.hundreds.ensures is.floor is.enough is.fewest of.square_le of.next_square_gt)
